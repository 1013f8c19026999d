use Rattle.std.proofs.Common.{◌≡◌, drop}
use Rattle.esb_operator_laws.specs.Ladder as spec
use Rattle.esb_expressions.proofs.Fitting.{fit_behind}
use Rattle.esb_expressions.proofs.fits.powers_fit.Given as goal

abbrev pub invariant-loop-turn : goal.invariant-loop-turn
invariant-loop-turn l = spec.powers_fit l.first l.rest ≡ fit_behind l.before (drop l.turn l.rest)
