use Rattle.std.proofs.Common.{◌∙◌}
use Rattle.esb_path.proofs.Cleaned.{kept}
use Rattle.esb_path.proofs.Ways.{leads}
use Rattle.esb_path.proofs.laws.relative_paths.Goals as goal

pub returns-clause-leads : goal.returns-clause-leads
returns-clause-leads c = leads

pub returns-clause-clean : goal.returns-clause-clean
returns-clause-clean c = λ folder path clean_folder clean. leads folder path ∙ kept path clean
