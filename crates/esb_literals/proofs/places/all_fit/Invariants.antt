use Rattle.std.proofs.Common.{◌≡◌, drop}
use Rattle.esb_expression_laws.specs.Lists as lists
use Rattle.esb_literals.proofs.places.all_fit.Given as goal

abbrev pub invariant-loop-turn : goal.invariant-loop-turn
invariant-loop-turn l = lists.all_fit l.form l.rest ≡ lists.all_fit l.form (drop l.turn l.rest)
