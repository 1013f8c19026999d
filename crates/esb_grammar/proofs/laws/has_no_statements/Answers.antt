use Rattle.esb_grammar.proofs.RefusedStatements.{has_no_statements}
use Rattle.esb_grammar.proofs.laws.has_no_statements.Goals as goal

pub returns : goal.returns
returns c = has_no_statements
