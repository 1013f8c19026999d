use Rattle.esb_value_laws.proofs.HandedRules.{handed_rule}
use Rattle.esb_value_laws.proofs.laws.handed.Goals as goal

pub returns : goal.returns
returns c = handed_rule
