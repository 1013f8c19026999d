use Rattle.std.proofs.Common.{◌≡◌, drop}
use Rattle.esb_value_laws.specs.Once as spec
use Rattle.esb_values.proofs.lists.all_plain.Given as goal

abbrev pub invariant-loop-turn : goal.invariant-loop-turn
invariant-loop-turn l = spec.all_plain l.rest ≡ spec.all_plain (drop l.turn l.rest)
