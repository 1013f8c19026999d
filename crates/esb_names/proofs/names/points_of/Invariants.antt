use Rattle.std.proofs.Common.{◌≡◌, ◌-◌, ◌≤◌, ◌++◌, length, drop}
use Rattle.esb_names.specs.Names.{points_behind}
use Rattle.esb_names.proofs.names.points_of.Given as goal

abbrev pub invariant-loop-at : goal.invariant-loop-at
invariant-loop-at l = (l.list ++ points_behind 0 (drop l.at l.name) ≡ points_behind 0 l.name) × (l.at ≤ length l.name)

abbrev pub decreases-loop-at : goal.decreases-loop-at
decreases-loop-at l = length l.name - l.at
