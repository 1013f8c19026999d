use Rattle.std.proofs.Common.{◌≡◌, drop}
use Rattle.esb_statement_laws.specs.Compounds.{one_default}
use Rattle.esb_statement_tests.proofs.Steps.{defaults_left}
use Rattle.esb_statement_tests.proofs.clauses.one_default.Given as goal

abbrev pub invariant-loop-turn : goal.invariant-loop-turn
invariant-loop-turn l = one_default l.clauses ≡ defaults_left l.seen (drop l.turn l.clauses)
