-- Answers that the outside gave.
use Rattle.std.specs.Prelude.{◌≡◌, ◌⊎◌, ℕ, ◌+◌, ◌-◌, ◌^◌, ◌≤◌, Bool, true, false, List, count_by}
use Rattle.std.specs.List.{AllByRecursion}
use Rattle.esb_base.specs.World.{Folder, kind_told, read_told}
use Rattle.esb_base.specs.declared.host.KindAnswer.{KindAnswer}
use Rattle.esb_base.specs.declared.host.KindAnswer.TheVariants as kinds
use Rattle.esb_base.specs.declared.host.ReadAnswer.{ReadAnswer}
use Rattle.esb_base.specs.declared.host.ReadAnswer.TheVariants as reads
use Rattle.esb_ask.specs.declared.question.Question.{Question}
use Rattle.esb_ask.specs.declared.question.Question.TheVariants as questions
use Rattle.esb_ask.specs.declared.answer.Answer.{Answer}
use Rattle.esb_ask.specs.declared.answer.Answer.TheVariants as answers
use Rattle.esb_core.specs.declared.event.Event.{Event}
use Rattle.esb_core.specs.declared.event.Event.TheVariants as events

abbrev pub kind_answer : KindAnswer → Answer
kind_answer kinds.File = answers.File
kind_answer kinds.Folder = answers.Folder
kind_answer kinds.Missing = answers.Missing
kind_answer kinds.Fault = answers.Fault
kind_answer kinds.Memory = answers.Fault

abbrev pub read_answer : ReadAnswer → Answer
read_answer (reads.Bytes contents) = answers.Bytes contents
read_answer reads.Missing = answers.Missing
read_answer reads.TooBig = answers.TooBig
read_answer reads.Fault = answers.Fault
read_answer reads.Memory = answers.Fault

-- the answer that a world gives to a question in a turn
abbrev pub told : List Folder → ℕ → Question → Answer
told world turn (questions.Kind path) = kind_answer (kind_told world turn path)
told world turn (questions.Read path) = read_answer (read_told world turn path)

-- an answer that is recorded is the world's in the build's turn, or a fault
abbrev pub IsTold : List Folder → Event → Type 0
IsTold world (events.Record worker n question answer) = (answer ≡ told world n question) ⊎ (answer ≡ answers.Fault)
IsTold world (events.Arrive packet) = Unit {0}
IsTold world events.EndOfInput = Unit {0}
IsTold world (events.Written worker n failures) = Unit {0}
IsTold world (events.Claim role job) = Unit {0}
IsTold world (events.Deliver worker n task product) = Unit {0}
IsTold world (events.Settle worker n outcome) = Unit {0}
IsTold world events.Pop = Unit {0}

abbrev pub AreTold : List Folder → List Event → Type 0
AreTold world list = AllByRecursion (IsTold world) list

abbrev pub is_fault : Answer → Bool
is_fault answers.Fault = true
is_fault answer = false

abbrev pub is_fault_record : Event → Bool
is_fault_record (events.Record worker n question answer) = is_fault answer
is_fault_record e = false

-- how many answers are faults
abbrev pub faults : List Event → ℕ
faults list = count_by is_fault_record list

-- a count rose at least so often, or has come to the greatest u64
abbrev pub RoseBy : ℕ → ℕ → ℕ → Type 0
RoseBy times old new = (old + times ≤ new) ⊎ (2 ^ 64 - 1 ≤ new)
