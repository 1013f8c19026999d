use Rattle.esb_value_laws.proofs.BareRules.{bare_rule}
use Rattle.esb_value_laws.proofs.laws.bare.Goals as goal

pub returns : goal.returns
returns c = bare_rule
