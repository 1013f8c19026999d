use Rattle.std.proofs.Common.{◌≡◌, drop}
use Rattle.esb_literal_laws.specs.Bindings as bindings
use Rattle.esb_literals.proofs.places.rests_last.Given as goal

abbrev pub invariant-loop-turn : goal.invariant-loop-turn
invariant-loop-turn l = bindings.rests_last l.rest ≡ bindings.rests_last (drop l.turn l.rest)
