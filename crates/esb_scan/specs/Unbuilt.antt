-- What this version lacks: the loaders `json` and `text`, and JavaScript files that are linked to others.
use Rattle.std.specs.Prelude.{ℕ, List, codes}
use Rattle.esb_base.specs.declared.file_name.FileName.{FileName}
use Rattle.esb_ask.specs.declared.message.Message.{Message}
use Rattle.esb_scan.specs.Messages.{of_file}

-- the message of such a file
abbrev pub not_built : List ℕ → FileName → Message
not_built cwd name = of_file cwd name (codes "Not built yet")
