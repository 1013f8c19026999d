use Rattle.esb_grammar.proofs.Accepted.{has_expressions}
use Rattle.esb_grammar.proofs.laws.has_expressions.Goals as goal

pub returns : goal.returns
returns c = has_expressions
