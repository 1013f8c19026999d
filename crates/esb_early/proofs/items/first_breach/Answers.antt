use Rattle.std.proofs.Common.{◌∙◌}
use Rattle.std.proofs.lemmas.Result.{IfOk-weaker}
use Rattle.esb_early.specs.Items as spec
use Rattle.esb_early.specs.Items.{breaches}
use Rattle.esb_early_checks.proofs.Steps.{finds_of_two}
use Rattle.esb_early.proofs.ItemSteps.{all_found}
use Rattle.esb_early.proofs.items.first_breach.Goals as goal

pub returns : goal.returns
unfolding breaches
returns c =
    let finds = finds_of_two spec.breaches_of_items _ _ _ _ _ _ c.as_bytes.ensures.value c.as_slice.ensures c.walk_items.ensures in
    IfOk-weaker c.finish.result _ _ (λ first is. is.1 ∙ all_found _ _ _ c.begin-out.ensures.first c.begin-out.ensures.labels finds is.0) c.finish.ensures
