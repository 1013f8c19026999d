-- Lists whose work is right: each product is the one that its task has over the build's answers so far, and each linked outcome is the link of the build's own answers. A syntax error in them is told at any place of its file.
use Rattle.std.specs.Prelude.{◌≡◌, ℕ, true, List, map, Ok, Err}
use Rattle.std.specs.List.{AllByRecursion, list_any}
use Rattle.esb_flags.specs.declared.options.Options.{Options}
use Rattle.esb_ask.specs.declared.question.Question.{Question}
use Rattle.esb_ask.specs.declared.answer.Answer.{Answer}
use Rattle.esb_ask.specs.declared.task.Task.{Task}
use Rattle.esb_ask.specs.declared.product.Product.{Product}
use Rattle.esb_ask.specs.declared.outcome.Outcome.{Outcome}
use Rattle.esb_ask.specs.declared.outcome.Outcome.TheVariants as outcomes
use Rattle.esb_ask.specs.Table.{same_question}
use Rattle.esb_core.specs.declared.event.Event.{Event}
use Rattle.esb_core.specs.declared.event.Event.TheVariants as events
use Rattle.esb_core.specs.History.{build, table}
use Rattle.esb_core.specs.Work.{holds_task}
use Rattle.esb_scan.specs.declared.run.Run.TheVariants as runs
use Rattle.esb_scan.specs.Likeness.{normal_message, normal_product, IsPlaced, IsPlacedProduct}
use Rattle.esb_scan.specs.Run.{run, trail}
use Rattle.esb_scan.specs.Complete.{IsComplete}
use Rattle.esb_link.specs.SerialLink.{serial_link}
use Rattle.esb_sound.specs.Each.{Each}

-- a worker that has claimed a task asks a question of the task's trail
pub record IsAsked (before : List Event) (worker n : ℕ) (question : Question) : Type 0 where
  pub task : Task
  pub claimed : holds_task before worker n task ≡ true
  pub on_trail : list_any (same_question question) (trail (build before n).options (table before n) task) ≡ true

-- the outcome is that of the link over these answers, which are complete; want of memory is free
abbrev pub IsLinked : Options → List (Question × Answer) → Outcome → Type 0
IsLinked options answers (outcomes.Files files) = IsComplete options answers × (serial_link options answers ≡ Ok files)
IsLinked options answers (outcomes.Errors messages) = IsComplete options answers × (serial_link options answers ≡ Err (map normal_message messages)) × AllByRecursion (IsPlaced options.cwd answers) messages
IsLinked options answers outcomes.Canceled = ⊥
IsLinked options answers outcomes.Memory = Unit {0}

-- the product is the task's over these answers
abbrev pub IsGiven : Options → List (Question × Answer) → Task → Product → Type 0
IsGiven options answers task product = (run options answers task ≡ runs.Done (normal_product product)) × IsPlacedProduct options.cwd answers product

-- the work that an event brings is right, after these events
abbrev pub IsSound : List Event → Event → Type 0
IsSound before (events.Record worker n question answer) = IsAsked before worker n question
IsSound before (events.Deliver worker n task product) = IsGiven (build before n).options (table before n) task product
IsSound before (events.Settle worker n outcome) = IsLinked (build before n).options (table before n) outcome
IsSound before (events.Arrive packet) = Unit {0}
IsSound before events.EndOfInput = Unit {0}
IsSound before (events.Written worker n failures) = Unit {0}
IsSound before (events.Claim role job) = Unit {0}
IsSound before events.Pop = Unit {0}

abbrev pub Sound : List Event → Type 0
Sound list = Each IsSound list
