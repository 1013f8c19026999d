use Rattle.esb_value_laws.proofs.GoingOn.{going_on_rule}
use Rattle.esb_value_laws.proofs.laws.going_on.Goals as goal

pub returns : goal.returns
returns c = going_on_rule
