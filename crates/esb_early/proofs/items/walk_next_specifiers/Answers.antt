use Rattle.std.proofs.Common.{refl}
use Rattle.esb_early.specs.Items as spec
use Rattle.esb_early_checks.proofs.Steps.{finds_end}
use Rattle.esb_early.proofs.ItemSteps.{finds_next_at}
use Rattle.esb_early.proofs.items.walk_next_specifiers.Goals as goal

pub loop-item-init : goal.loop-item-init
loop-item-init c end rest = rest

pub loop-item-preserved : goal.loop-item-preserved
loop-item-preserved c end rest = finds_next_at (λ x. spec.breaches_of_specifier c.args.text.now c.args.is_import x.specifier) (spec.nexts_breaches c.args.text.now c.args.is_import) c.args.items.now c.loop-item.item-index _ _ _ _ end (λ y ys. refl) c.loop-item-test.true (c.loop-item.invariant end) c.walk_specifier.ensures rest

pub returns : goal.returns
returns c = finds_end (spec.nexts_breaches c.args.text.now c.args.is_import) c.args.items.now c.loop-item.item-index _ _ refl c.loop-item-test.false (c.loop-item.invariant _)
