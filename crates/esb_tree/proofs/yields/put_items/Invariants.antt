use Rattle.std.proofs.Common.{take}
use Rattle.std.specs.List.{flat_map}
use Rattle.esb_tree.specs.Gathered.{Adds}
use Rattle.esb_tree.specs.Modules as spec
use Rattle.esb_tree.specs.Trees.{completed}
use Rattle.esb_tree.proofs.yields.put_items.Given as goal

abbrev pub invariant-loop-item : goal.invariant-loop-item
invariant-loop-item l = Adds (flat_map (spec.tokens_of_item completed) (take l.item-index l.items)) l.initial.out l.out
