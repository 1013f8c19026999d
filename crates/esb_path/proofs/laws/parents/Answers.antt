use Rattle.esb_path.proofs.Cleaned.{up, parent_cleaned}
use Rattle.esb_path.proofs.laws.parents.Goals as goal

pub returns-clause-up : goal.returns-clause-up
returns-clause-up c = up

pub returns-clause-cleaned : goal.returns-clause-cleaned
returns-clause-cleaned c = parent_cleaned
