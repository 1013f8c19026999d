use Rattle.std.proofs.Common.{◌≡◌, ◌-◌, ◌≤◌, ◌++◌, length, drop}
use Rattle.esb_token.specs.Strings.{units_from}
use Rattle.esb_lex.proofs.code_units.push_pieces.Given as goal

abbrev pub invariant-loop-at : goal.invariant-loop-at
invariant-loop-at l =
    (l.units ++ units_from l.quote 0 (drop l.at l.body) ≡ l.fn.units ++ units_from l.quote 0 l.body) × (l.at ≤ length l.body)

abbrev pub decreases-loop-at : goal.decreases-loop-at
decreases-loop-at l = length l.body - l.at
