use Rattle.esb_value_laws.proofs.Assembled.{value_rule}
use Rattle.esb_value_laws.proofs.laws.values.Goals as goal

pub returns : goal.returns
returns c = value_rule
