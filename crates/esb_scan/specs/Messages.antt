-- What the scan says is wrong.
use Rattle.std.specs.Prelude.{ℕ, if◌then◌else◌, List, [], ◌∷◌, ◌++◌, codes}
use Rattle.std.specs.Fmt.{decimal}
use Rattle.std.specs.Str.{bytes_eq}
use Rattle.esb_base.specs.declared.file_name.FileName.{FileName}
use Rattle.esb_ask.specs.declared.message.Message.{Message}
use Rattle.esb_msgs.specs.Lines.{told, line_of, column_of}
use Rattle.esb_path.specs.Paths.{relative_path}

-- a message without a place
abbrev pub unplaced : List ℕ → Message
unplaced text = record { text = text; file = []; line = 0; column = 0; length = 0 }

abbrev pub cannot_read : List ℕ → Message
cannot_read path = unplaced (codes "Cannot read " ++ path)

-- 34 is a quotation mark
abbrev pub not_found : List ℕ → Message
not_found spec = unplaced (codes "Could not resolve " ++ 34 ∷ spec ++ 34 ∷ codes ": not found")

-- A file as messages name it: the way from the working folder, or for another namespace that, a colon and the path.
abbrev pub shown : List ℕ → FileName → List ℕ
shown cwd name = if bytes_eq name.namespace (codes "file") then relative_path cwd name.path
    else name.namespace ++ 58 ∷ name.path

-- a message of a whole file, which is placed at its first line
abbrev pub of_file : List ℕ → FileName → List ℕ → Message
of_file cwd name text = record { text = text; file = shown cwd name; line = 1; column = 0; length = 0 }

abbrev pub no_loader : List ℕ → FileName → Message
no_loader cwd name = of_file cwd name (codes "No loader for " ++ name.path)

abbrev pub not_utf8 : List ℕ → FileName → Message
not_utf8 cwd name = of_file cwd name (codes "Not UTF-8")

-- a message of a place in a file with these contents
abbrev pub of_place : List ℕ → FileName → List ℕ → ℕ → List ℕ → Message
of_place cwd name contents at text = record {
  text = text;
  file = shown cwd name;
  line = told (line_of contents at);
  column = told (column_of contents at);
  length = 0;
}

abbrev pub early_error : List ℕ → FileName → List ℕ → ℕ → ℕ → Message
early_error cwd name contents at rule = of_place cwd name contents at (codes "Early error " ++ decimal rule)

abbrev pub syntax_text : List ℕ
syntax_text = codes "Syntax error"

abbrev pub syntax_error : List ℕ → FileName → List ℕ → ℕ → Message
syntax_error cwd name contents at = of_place cwd name contents at syntax_text
