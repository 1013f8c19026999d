-- What a host tells of files.
use Rattle.std.specs.Prelude.{◌≡◌, ℕ, ◌-◌, ◌^◌, ◌≤◌, min, if◌then◌else◌, nat_eq, nat_lt, Bool, true, false, ◌&&◌, ◌||◌, drop, List, [], ◌∷◌, length, Option, Some, None, slice_index_or}
use Rattle.std.specs.Map.{lookup}
use Rattle.std.specs.Str.{bytes_eq}
use Rattle.std.specs.List.{starts_with}
use Rattle.esb_base.specs.declared.host.KindAnswer.{KindAnswer}
use Rattle.esb_base.specs.declared.host.KindAnswer.TheVariants as kind
use Rattle.esb_base.specs.declared.host.ReadAnswer.{ReadAnswer}
use Rattle.esb_base.specs.declared.host.ReadAnswer.TheVariants as read

-- a folder: clean absolute paths, and the contents of the file at each
abbrev pub Folder : Type 0
Folder = List (List ℕ × List ℕ)

-- the most bytes of a file that is read
abbrev pub most_bytes : ℕ
most_bytes = 16777216

-- the folder of a turn, where the last stands for all later turns
abbrev pub folder_of : List Folder → ℕ → Folder
folder_of world turn = slice_index_or world (min turn (length world - 1)) []

-- whether a file's path lies below a path: it goes on behind it with a slash
abbrev pub is_below : List ℕ → List ℕ → Bool
is_below path file = starts_with nat_eq file path && (bytes_eq path (47 ∷ []) || starts_with nat_eq (drop (length path) file) (47 ∷ []))

-- whether a file of the folder lies below the path
abbrev pub has_below : List ℕ → Folder → Bool
has_below path [] = false
has_below path (file ∷ files) = is_below path file.0 || has_below path files

abbrev pub kind_in : Folder → List ℕ → Option (List ℕ) → KindAnswer
kind_in folder path (Some contents) = kind.File
kind_in folder path None = if has_below path folder then kind.Folder else kind.Missing

-- what lies at a path in the folder of a turn
abbrev pub kind_told : List Folder → ℕ → List ℕ → KindAnswer
kind_told world turn path = kind_in (folder_of world turn) path (lookup (bytes_eq path) (folder_of world turn))

abbrev pub read_in : Option (List ℕ) → ReadAnswer
read_in None = read.Missing
read_in (Some contents) = if nat_lt most_bytes (length contents) then read.TooBig else read.Bytes contents

-- what the file at a path in the folder of a turn has
abbrev pub read_told : List Folder → ℕ → List ℕ → ReadAnswer
read_told world turn path = read_in (lookup (bytes_eq path) (folder_of world turn))

-- the answer is what is told, or it failed, or memory was refused
abbrev pub KindIs : KindAnswer → KindAnswer → Type 0
KindIs told kind.Fault = Unit {0}
KindIs told kind.Memory = Unit {0}
KindIs told answer = answer ≡ told

abbrev pub ReadIs : ReadAnswer → ReadAnswer → Type 0
ReadIs told read.Fault = Unit {0}
ReadIs told read.Memory = Unit {0}
ReadIs told answer = answer ≡ told

-- contents that were read are not too long
abbrev pub IsReadable : ReadAnswer → Type 0
IsReadable (read.Bytes contents) = length contents ≤ most_bytes
IsReadable answer = Unit {0}
