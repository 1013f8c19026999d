use Rattle.esb_grammar.proofs.AcceptedStatements.{has_statements}
use Rattle.esb_grammar.proofs.laws.has_statements.Goals as goal

pub returns : goal.returns
returns c = has_statements
