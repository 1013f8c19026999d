-- A table that answers all that a build asks.
use Rattle.std.specs.Prelude.{◌≡◌, ℕ, ◌<◌, Bool, true, false, List, length}
use Rattle.std.specs.List.{list_all}
use Rattle.esb_base.specs.declared.file_name.FileName.{FileName}
use Rattle.esb_flags.specs.declared.options.Options.{Options}
use Rattle.esb_ask.specs.declared.question.Question.{Question}
use Rattle.esb_ask.specs.declared.answer.Answer.{Answer}
use Rattle.esb_ask.specs.declared.task.Task.TheVariants as task
use Rattle.esb_ask.specs.declared.product.Product.TheVariants as product
use Rattle.esb_ask.specs.declared.product.Resolved.TheVariants as resolved
use Rattle.esb_scan.specs.declared.run.Run.{Run}
use Rattle.esb_scan.specs.declared.run.Run.TheVariants as run_of
use Rattle.esb_scan.specs.Run.{run, run_entry, run_load, is_done}

-- each entry's task has a product, and so has the load of each file that an entry leads to
pub record IsComplete (options : Options) (table : List (Question × Answer)) : Type 0 where
  pub entries : (number : ℕ) → number < length options.entries → is_done (run options table (task.Entry number)) ≡ true
  pub loads : (number : ℕ) (name : FileName) (marked : Bool) → run options table (task.Entry number) ≡ run_of.Done (product.Entry (resolved.To name marked)) → is_done (run options table (task.Load name)) ≡ true

-- whether a run is done, and with it the load of a file to which it leads
abbrev pub is_loaded : Options → List (Question × Answer) → Run → Bool
is_loaded options table (run_of.Asks asked) = false
is_loaded options table (run_of.Done (product.Entry (resolved.To name marked))) = is_done (run_load options table name)
is_loaded options table (run_of.Done (product.Entry resolved.External)) = true
is_loaded options table (run_of.Done (product.Entry resolved.Left)) = true
is_loaded options table (run_of.Done (product.Entry (resolved.Refused message))) = true
is_loaded options table (run_of.Done (product.Load loading)) = true
is_loaded options table run_of.Memory = false

-- the same as a test: of one entry after the other
abbrev pub all_loaded : Options → List (Question × Answer) → List (List ℕ × List ℕ) → Bool
all_loaded options table entries = list_all (λ entry. is_loaded options table (run_entry options table entry)) entries
