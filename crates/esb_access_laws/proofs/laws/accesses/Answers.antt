use Rattle.esb_access_laws.proofs.AccessRules.{access_rule}
use Rattle.esb_access_laws.proofs.laws.accesses.Goals as goal

pub returns : goal.returns
returns c = access_rule
