use Rattle.esb_value_laws.proofs.GoingOn.{operand_rule}
use Rattle.esb_value_laws.proofs.laws.operands.Goals as goal

pub returns : goal.returns
returns c = operand_rule
