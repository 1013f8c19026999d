use Rattle.esb_exports.proofs.Closest.{takes, takes_none}
use Rattle.esb_exports.proofs.laws.chosen_keys.Goals as goal

pub returns-clause-takes : goal.returns-clause-takes
returns-clause-takes c = takes

pub returns-clause-none : goal.returns-clause-none
returns-clause-none c = takes_none
