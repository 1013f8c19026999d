use Rattle.std.proofs.Common.{refl, ap}
use Rattle.std.specs.List.{flat_map}
use Rattle.esb_tree.specs.Trees.{completed}
use Rattle.esb_tree.specs.Modules as spec
use Rattle.esb_tree.proofs.Adding.{adds_none, adds_then, adds_is, adds_of, adds_next_at, adds_all}
use Rattle.esb_tree.proofs.yields.put_next_specifiers.Goals as goal

pub loop-item-init : goal.loop-item-init
loop-item-init c = adds_none _

pub loop-item-preserved : goal.loop-item-preserved
loop-item-preserved c = adds_next_at spec.tokens_of_next_specifier _ _ _ _ _ _ c.loop-item-test.true c.loop-item.invariant c.put_next_specifier.ensures

pub returns : goal.returns
returns c = adds_all spec.tokens_of_next_specifier c.args.items.now c.loop-item.item-index _ _ c.loop-item-test.false c.loop-item.invariant
