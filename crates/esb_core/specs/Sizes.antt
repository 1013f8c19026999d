-- What a build keeps and opens, how much of it a build may have, and how one ends that would have more.
use Rattle.std.specs.Prelude.{ℕ, Bool, true, false, ◌||◌, if◌then◌else◌, nat_lt, List, [], ◌∷◌, ◌++◌, length, codes, count_by, sum_by, Option, None, Some}
use Rattle.std.specs.List.{list_any}
use Rattle.esb_ask.specs.declared.question.Question.{Question}
use Rattle.esb_ask.specs.declared.answer.Answer.{Answer}
use Rattle.esb_ask.specs.declared.answer.Answer.TheVariants as answer
use Rattle.esb_ask.specs.declared.task.Task.{Task}
use Rattle.esb_ask.specs.declared.task.Task.TheVariants as task
use Rattle.esb_ask.specs.declared.product.Product.{Product}
use Rattle.esb_ask.specs.declared.product.Product.TheVariants as product
use Rattle.esb_ask.specs.declared.product.Resolved.{Resolved}
use Rattle.esb_ask.specs.declared.product.Resolved.TheVariants as resolved
use Rattle.esb_ask.specs.declared.message.Message.{Message}
use Rattle.esb_ask.specs.declared.outcome.Outcome.{Outcome}
use Rattle.esb_ask.specs.declared.outcome.Outcome.TheVariants as outcome
use Rattle.esb_ask.specs.Tasks.{same_task}

-- ---- tasks

-- the task that a product names
abbrev pub named_by : Resolved → Option Task
named_by (resolved.To name marked) = Some (task.Load name)
named_by resolved.External = None
named_by resolved.Left = None
named_by (resolved.Refused message) = None

abbrev pub named : Product → Option Task
named (product.Entry r) = named_by r
named (product.Load l) = None

-- a task is added at the end where it is new
abbrev pub with_task : List Task → Task → List Task
with_task tasks t = if list_any (same_task t) tasks then tasks else tasks ++ t ∷ []

abbrev pub opened : List Task → Option Task → List Task
opened tasks None = tasks
opened tasks (Some t) = with_task tasks t

-- ---- sizes

abbrev pub is_load : Task → Bool
is_load (task.Entry number) = false
is_load (task.Load name) = true

-- how many files tasks load
abbrev pub files : List Task → ℕ
files tasks = count_by is_load tasks

-- the bytes that an answer has of a file
abbrev pub bytes_of : Answer → ℕ
bytes_of (answer.Bytes contents) = length contents
bytes_of answer.File = 0
bytes_of answer.Folder = 0
bytes_of answer.Missing = 0
bytes_of answer.TooBig = 0
bytes_of answer.Fault = 0

-- the bytes that a table has of all files together
abbrev pub bytes_in : List (Question × Answer) → ℕ
bytes_in table = sum_by (λ pair. bytes_of pair.1) table

-- ---- limits of a build

-- the most answers that it keeps
abbrev pub most_answers : ℕ
most_answers = 1048576

-- the most bytes of all files together
abbrev pub most_contents : ℕ
most_contents = 268435456

-- the most files
abbrev pub most_files : ℕ
most_files = 65536

-- more answers, or more bytes, than a build may keep
abbrev pub is_overfull : List (Question × Answer) → Bool
is_overfull table = nat_lt most_answers (length table) || nat_lt most_contents (bytes_in table)

-- more files than a build may open
abbrev pub has_too_many : List Task → Bool
has_too_many tasks = nat_lt most_files (files tasks)

abbrev pub too_large_message : Message
too_large_message = record { text = codes "Build is too large"; file = []; line = 0; column = 0; length = 0 }

-- how a build ends that would keep or open more
abbrev pub too_large : Outcome
too_large = outcome.Errors (too_large_message ∷ [])
