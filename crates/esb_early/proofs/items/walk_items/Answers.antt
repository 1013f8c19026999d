use Rattle.std.proofs.Common.{refl}
use Rattle.esb_early.specs.Items as spec
use Rattle.esb_early_checks.proofs.Steps.{finds_next, finds_end}
use Rattle.esb_early.proofs.items.walk_items.Goals as goal

pub loop-item-init : goal.loop-item-init
loop-item-init c end rest = rest

pub loop-item-preserved : goal.loop-item-preserved
loop-item-preserved c end rest = finds_next (spec.breaches_of_item c.args.text.now) (spec.breaches_of_items c.args.text.now) c.args.items.now c.loop-item.item-index c.item-item.result _ _ _ end (λ y ys. refl) c.loop-item-test.true c.item-item.is (c.loop-item.invariant end) c.walk_item.ensures rest

pub returns : goal.returns
returns c = finds_end (spec.breaches_of_items c.args.text.now) c.args.items.now c.loop-item.item-index _ _ refl c.loop-item-test.false (c.loop-item.invariant _)
