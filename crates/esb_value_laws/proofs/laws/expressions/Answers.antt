use Rattle.esb_value_laws.proofs.CommaRules.{expression_rule}
use Rattle.esb_value_laws.proofs.laws.expressions.Goals as goal

pub returns : goal.returns
returns c = expression_rule
