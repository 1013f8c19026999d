use Rattle.std.proofs.Common.{refl, ap}
use Rattle.std.specs.List.{flat_map}
use Rattle.esb_tree.specs.Trees.{completed}
use Rattle.esb_tree.specs.Modules as spec
use Rattle.esb_tree.proofs.Adding.{adds_none, adds_then, adds_is, adds_of, adds_next, adds_all}
use Rattle.esb_tree.proofs.yields.put_items.Goals as goal

pub loop-item-init : goal.loop-item-init
loop-item-init c = adds_none _

pub loop-item-preserved : goal.loop-item-preserved
loop-item-preserved c = adds_next (spec.tokens_of_item completed) c.args.items.now c.loop-item.item-index c.item-item.result _ _ _ c.loop-item-test.true c.item-item.is c.loop-item.invariant c.put_item.ensures

pub returns : goal.returns
returns c = adds_all (spec.tokens_of_item completed) c.args.items.now c.loop-item.item-index _ _ c.loop-item-test.false c.loop-item.invariant
