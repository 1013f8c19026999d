use Rattle.esb_value_laws.proofs.TiedRules.{tied_rule}
use Rattle.esb_value_laws.proofs.laws.tied.Goals as goal

pub returns : goal.returns
returns c = tied_rule
