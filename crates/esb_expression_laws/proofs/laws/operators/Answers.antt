use Rattle.esb_expression_laws.proofs.OperatorChains.{operators_rule, ends_by_tokens}
use Rattle.esb_expression_laws.proofs.laws.operators.Goals as goal

pub returns : goal.returns
returns c = record { read = operators_rule; ends = ends_by_tokens }
