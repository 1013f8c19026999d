use Rattle.std.proofs.Common.{◌≡◌, ◌-◌, ◌≤◌, length, drop}
use Rattle.std.specs.Prelude.{nat_eq}
use Rattle.std.specs.Cmp.Lexicographic.{pointwise}
use Rattle.esb_names.specs.Names.{points_behind}
use Rattle.esb_names.proofs.names.has_same_points.Given as goal

abbrev pub invariant-loop-i : goal.invariant-loop-i
invariant-loop-i l =
    (pointwise nat_eq (points_behind 0 (drop l.i l.a)) (points_behind 0 (drop l.j l.b)) ≡ pointwise nat_eq (points_behind 0 l.a) (points_behind 0 l.b))
    × (l.i ≤ length l.a) × (l.j ≤ length l.b)

abbrev pub decreases-loop-i : goal.decreases-loop-i
decreases-loop-i l = length l.a - l.i
