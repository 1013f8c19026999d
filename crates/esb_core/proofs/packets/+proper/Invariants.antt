use Rattle.std.proofs.Common.{◌≡◌, ◌+◌, ◌*◌, drop}
use Rattle.std.specs.List.{list_all}
use Rattle.esb_core.specs.Allowed.{is_proper}
use Rattle.esb_core.proofs.packets.+proper.Given as goal

abbrev pub decreases-is_proper : goal.decreases-is_proper
decreases-is_proper l = 2 * l.depth

abbrev pub decreases-values_are_proper : goal.decreases-values_are_proper
decreases-values_are_proper l = 2 * l.depth + 1

abbrev pub decreases-pairs_are_proper : goal.decreases-pairs_are_proper
decreases-pairs_are_proper l = 2 * l.depth + 1

abbrev pub invariant-values_are_proper-loop-value : goal.invariant-values_are_proper-loop-value
invariant-values_are_proper-loop-value l = list_all (is_proper l.depth) l.values ≡ list_all (is_proper l.depth) (drop l.value-index l.values)

abbrev pub invariant-pairs_are_proper-loop-pair : goal.invariant-pairs_are_proper-loop-pair
invariant-pairs_are_proper-loop-pair l = list_all (λ pair. is_proper l.depth pair.1) l.pairs ≡ list_all (λ pair. is_proper l.depth pair.1) (drop l.pair-index l.pairs)
