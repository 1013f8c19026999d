use Rattle.std.proofs.Common.{◌≡◌, ◌-◌, ◌≤◌, length, drop}
use Rattle.std.specs.Prelude.{nat_eq}
use Rattle.std.specs.Cmp.Lexicographic.{pointwise}
use Rattle.esb_token.specs.Strings.{units_from}
use Rattle.esb_names.proofs.strings.is_body_of.Given as goal

abbrev pub invariant-loop-at : goal.invariant-loop-at
invariant-loop-at l =
    (pointwise nat_eq (units_from l.quote 0 (drop l.at l.body)) (drop l.count l.word) ≡ pointwise nat_eq (units_from l.quote 0 l.body) l.word)
    × (l.at ≤ length l.body) × (l.count ≤ length l.word)

abbrev pub decreases-loop-at : goal.decreases-loop-at
decreases-loop-at l = length l.body - l.at
