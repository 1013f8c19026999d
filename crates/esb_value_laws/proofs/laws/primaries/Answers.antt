use Rattle.esb_value_laws.proofs.PrimaryRules.{primary_rule}
use Rattle.esb_value_laws.proofs.laws.primaries.Goals as goal

pub returns : goal.returns
returns c = primary_rule
