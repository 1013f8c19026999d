use Rattle.std.proofs.Common.{◌∙◌}
use Rattle.std.proofs.lemmas.Result.{IfOk-weaker}
use Rattle.esb_tree.proofs.Adding.{all_added}
use Rattle.esb_tree.proofs.yields.yield_of_item.Goals as goal

pub returns : goal.returns
returns c = IfOk-weaker c.finish.result _ _ (λ tokens is. is.1 ∙ all_added _ _ _ c.begin-out.ensures.tokens c.put_item.ensures is.0) c.finish.ensures
