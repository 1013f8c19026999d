use Rattle.esb_operator_laws.proofs.LadderRules.{binary_rule}
use Rattle.esb_operator_laws.proofs.laws.binary_operators.Goals as goal

pub returns : goal.returns
returns c = binary_rule
