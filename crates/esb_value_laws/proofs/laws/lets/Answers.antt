use Rattle.esb_value_laws.proofs.BareRules.{let_rule}
use Rattle.esb_value_laws.proofs.laws.lets.Goals as goal

pub returns : goal.returns
returns c = let_rule
