use Rattle.esb_value_laws.proofs.CoverRules.{cover_rule}
use Rattle.esb_value_laws.proofs.laws.parameters.Goals as goal

pub returns : goal.returns
returns c = cover_rule
