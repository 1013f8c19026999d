-- A table of first answers: the list of its pairs, in the order in which they were kept.
use Rattle.std.specs.Prelude.{◌≡◌, ◌≤◌, nat_le, Bool, true, false, ◌&&◌, List, [], ◌∷◌, ◌++◌, length, Option, Some, None, unwrap_or}
use Rattle.std.specs.Map.{lookup}
use Rattle.std.specs.Str.{bytes_eq}
use Rattle.esb_base.specs.World.{most_bytes}
use Rattle.esb_ask.specs.declared.question.Question.{Question}
use Rattle.esb_ask.specs.declared.question.Question.TheVariants as question
use Rattle.esb_ask.specs.declared.answer.Answer.{Answer}
use Rattle.esb_ask.specs.declared.answer.Answer.TheVariants as answer

-- whether two questions are the same: of one kind, at one path
abbrev pub same_question : Question → Question → Bool
same_question (question.Kind path) (question.Kind other) = bytes_eq path other
same_question (question.Kind path) (question.Read other) = false
same_question (question.Read path) (question.Kind other) = false
same_question (question.Read path) (question.Read other) = bytes_eq path other

-- whether an answer is one that the question can get
abbrev pub fits : Question → Answer → Bool
fits (question.Kind path) answer.File = true
fits (question.Kind path) answer.Folder = true
fits (question.Kind path) answer.Missing = true
fits (question.Kind path) answer.TooBig = false
fits (question.Kind path) answer.Fault = true
fits (question.Kind path) (answer.Bytes contents) = false
fits (question.Read path) answer.File = false
fits (question.Read path) answer.Folder = false
fits (question.Read path) answer.Missing = true
fits (question.Read path) answer.TooBig = true
fits (question.Read path) answer.Fault = true
fits (question.Read path) (answer.Bytes contents) = nat_le (length contents) most_bytes

-- the same as a fact: what lies at a path is told by a kind, and what a file has by its contents of at most so many bytes
abbrev pub Fits : Question → Answer → Type 0
Fits (question.Kind path) answer.File = Unit {0}
Fits (question.Kind path) answer.Folder = Unit {0}
Fits (question.Kind path) answer.Missing = Unit {0}
Fits (question.Kind path) answer.TooBig = ⊥
Fits (question.Kind path) answer.Fault = Unit {0}
Fits (question.Kind path) (answer.Bytes contents) = ⊥
Fits (question.Read path) answer.File = ⊥
Fits (question.Read path) answer.Folder = ⊥
Fits (question.Read path) answer.Missing = Unit {0}
Fits (question.Read path) answer.TooBig = Unit {0}
Fits (question.Read path) answer.Fault = Unit {0}
Fits (question.Read path) (answer.Bytes contents) = length contents ≤ most_bytes

-- the answer of the first pair with that question
abbrev pub answer_to : List (Question × Answer) → Question → Option Answer
answer_to table asked = lookup (same_question asked) table

abbrev pub kept_at : Option Answer → List (Question × Answer) → Question → Answer → List (Question × Answer)
kept_at None table asked given = table ++ (asked, given) ∷ []
kept_at (Some first) table asked given = table

-- the table once it was given an answer: it keeps the first answer to a question
abbrev pub kept : List (Question × Answer) → Question → Answer → List (Question × Answer)
kept table asked given = kept_at (answer_to table asked) table asked given

-- the answer that the table then has
abbrev pub kept_answer : List (Question × Answer) → Question → Answer → Answer
kept_answer table asked given = unwrap_or (answer_to table asked) given

-- the larger table gives each answer that the smaller one gives
abbrev pub Extends : List (Question × Answer) → List (Question × Answer) → Type 0
Extends table more = (asked : Question) (first : Answer) → answer_to table asked ≡ Some first → answer_to more asked ≡ Some first

-- each answer fits its question
abbrev pub all_fit : List (Question × Answer) → Bool
all_fit [] = true
all_fit (pair ∷ pairs) = fits pair.0 pair.1 && all_fit pairs
