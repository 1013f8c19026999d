use Rattle.esb_value_laws.proofs.YieldRules.{yield_rule}
use Rattle.esb_value_laws.proofs.laws.yields.Goals as goal

pub returns : goal.returns
returns c = yield_rule
