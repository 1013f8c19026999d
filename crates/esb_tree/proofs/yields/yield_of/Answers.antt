use Rattle.std.proofs.Common.{◌∙◌}
use Rattle.std.specs.List.{flat_map}
use Rattle.std.proofs.lemmas.Result.{IfOk-weaker}
use Rattle.esb_tree.specs.Trees.{completed}
use Rattle.esb_tree.specs.Modules as spec
use Rattle.esb_tree.proofs.Adding.{adds_of, all_added}
use Rattle.esb_tree.proofs.yields.yield_of.Goals as goal

pub returns : goal.returns
returns c =
    let adds = adds_of (flat_map (spec.tokens_of_item completed)) _ _ _ _ c.as_slice.ensures c.put_items.ensures in
    IfOk-weaker c.finish.result _ _ (λ tokens is. is.1 ∙ all_added _ _ _ c.begin-out.ensures.tokens adds is.0) c.finish.ensures
