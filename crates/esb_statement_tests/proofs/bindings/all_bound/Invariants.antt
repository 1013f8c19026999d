use Rattle.std.proofs.Common.{◌≡◌, drop}
use Rattle.esb_statement_laws.specs.Declarations.{all_bound}
use Rattle.esb_statement_tests.proofs.bindings.all_bound.Given as goal

abbrev pub invariant-loop-turn : goal.invariant-loop-turn
invariant-loop-turn l = all_bound l.rest ≡ all_bound (drop l.turn l.rest)
