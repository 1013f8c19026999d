use Rattle.esb_statement_tests.proofs.Whole.{let_Some, let_None}
use Rattle.esb_statement_tests.proofs.edges.first_of_function.Goals as goal

pub returns-in-Some : goal.returns-in-Some
returns-in-Some c = let_Some c.args.function.now _ c.in-Some.is

pub returns-in-None : goal.returns-in-None
returns-in-None c = let_None c.args.function.now c.in-None.is
