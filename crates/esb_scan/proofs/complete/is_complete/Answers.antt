use Rattle.std.proofs.Common.{◌≡◌, ◌↔◌, IsTrue, IfOk, Bool, List, Result, Ok, Err, sym, ◌∙◌}
use Rattle.esb_base.specs.declared.memory.Memory.{Memory}
use Rattle.esb_flags.specs.declared.options.Options.{Options}
use Rattle.esb_ask.specs.declared.question.Question.{Question}
use Rattle.esb_ask.specs.declared.answer.Answer.{Answer}
use Rattle.esb_scan.specs.Complete.{IsComplete, all_loaded}
use Rattle.esb_scan.proofs.Completes.{complete-from_test, test-from_complete}
use Rattle.esb_scan.proofs.complete.is_complete.Goals as goal

told : (options : Options) (table : List (Question × Answer)) (r : Result Bool Memory) → IfOk r (λ loaded. loaded ≡ all_loaded options table options.entries) → IfOk r (λ complete. IsTrue complete ↔ IsComplete options table)
told options table (Ok loaded) e = (λ h. complete-from_test options table (sym e ∙ h), λ h. e ∙ test-from_complete options table h)
told options table (Err refused) e = tt

pub returns : goal.returns
returns c = told c.args.options.now c.args.table.now c.all_loaded.result c.all_loaded.ensures
