use Rattle.esb_operator_laws.proofs.UnaryRules.{unary_rule}
use Rattle.esb_operator_laws.proofs.laws.unary_operators.Goals as goal

pub returns : goal.returns
returns c = unary_rule
