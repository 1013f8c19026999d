use Rattle.std.proofs.Common.{◌≡◌, drop}
use Rattle.esb_operator_laws.specs.Ladder as spec
use Rattle.esb_expressions.proofs.fits.are_tight.Given as goal

abbrev pub invariant-loop-turn : goal.invariant-loop-turn
invariant-loop-turn l = spec.are_tight l.rest ≡ spec.are_tight (drop l.turn l.rest)
