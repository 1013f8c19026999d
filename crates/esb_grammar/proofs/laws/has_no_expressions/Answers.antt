use Rattle.esb_grammar.proofs.Refused.{has_no_expressions}
use Rattle.esb_grammar.proofs.laws.has_no_expressions.Goals as goal

pub returns : goal.returns
returns c = has_no_expressions
