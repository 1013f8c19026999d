use Rattle.esb_exports.proofs.Files.{exported}
use Rattle.esb_exports.proofs.laws.exported_files.Goals as goal

pub returns : goal.returns
returns c = exported
