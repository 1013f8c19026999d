use Rattle.esb_value_laws.proofs.BodyRules.{body_rule}
use Rattle.esb_value_laws.proofs.laws.bodies.Goals as goal

pub returns : goal.returns
returns c = body_rule
