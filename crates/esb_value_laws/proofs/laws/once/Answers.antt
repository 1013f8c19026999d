use Rattle.esb_value_laws.proofs.OnceRules.{once_rule}
use Rattle.esb_value_laws.proofs.laws.once.Goals as goal

pub returns : goal.returns
returns c = once_rule
