use Rattle.std.proofs.Common.{◌≡◌, drop, map}
use Rattle.std.specs.List.{list_any}
use Rattle.esb_tree.specs.Modules.{tokens_of_item}
use Rattle.esb_tree.specs.Trees.{completed}
use Rattle.esb_scan.specs.Scripts.{has_links, is_link}
use Rattle.esb_scan.proofs.unbuilt.has_links.Given as goal

abbrev pub invariant-loop-item : goal.invariant-loop-item
invariant-loop-item l = list_any (λ tokens. list_any (is_link l.contents) tokens) (map (tokens_of_item completed) (drop l.item-index l.tree.items)) ≡ has_links l.contents l.tree
