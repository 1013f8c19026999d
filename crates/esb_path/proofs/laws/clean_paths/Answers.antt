use Rattle.esb_path.proofs.Cleaned.{cleaned, kept, again}
use Rattle.esb_path.proofs.laws.clean_paths.Goals as goal

pub returns-clause-cleaned : goal.returns-clause-cleaned
returns-clause-cleaned c = cleaned

pub returns-clause-kept : goal.returns-clause-kept
returns-clause-kept c = kept

pub returns-clause-again : goal.returns-clause-again
returns-clause-again c = again
