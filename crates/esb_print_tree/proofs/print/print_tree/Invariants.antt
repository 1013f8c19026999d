use Rattle.std.proofs.Common.{◌≡◌, ◌++◌, drop}
use Rattle.std.specs.List.{flat_map}
use Rattle.esb_print_tree.proofs.Printing.{line_of}
use Rattle.esb_print_tree.proofs.print.print_tree.Given as goal

abbrev pub invariant-loop-item : goal.invariant-loop-item
invariant-loop-item l = l.out ++ flat_map (line_of l.contents) (drop l.item-index l.tree.items) ≡ flat_map (line_of l.contents) l.tree.items
