-- Which loader reads a file.
use Rattle.std.specs.Prelude.{ℕ, ◌==◌, if◌then◌else◌, List, [], ◌∷◌, length, find, codes, Option, Some, None}
use Rattle.std.specs.List.{list_any}
use Rattle.std.specs.Option.{option_map, option_or}
use Rattle.std.specs.Path.{rsplit_once}
use Rattle.std.specs.Str.{bytes_eq}
use Rattle.esb_base.specs.declared.flags.Flags.{Flags}
use Rattle.esb_base.specs.declared.flags.Loader.{Loader}
use Rattle.esb_base.specs.declared.flags.Loader.TheVariants as loader

abbrev pub slash : ℕ
slash = 47

abbrev pub dot : ℕ
dot = 46

-- ---- extensions

-- what stands behind the last slash, and the whole path where it has none
abbrev pub behind_slash : List ℕ → Option (List ℕ × List ℕ) → List ℕ
behind_slash path None = path
behind_slash path (Some split) = split.1

unfoldable pub last_segment : List ℕ → List ℕ
last_segment path = behind_slash path (rsplit_once slash path)

-- what stands behind the dot, where something stands before it
abbrev pub behind_dot : Option (List ℕ × List ℕ) → Option (List ℕ)
behind_dot None = None
behind_dot (Some split) = if length split.0 == 0 then None else Some split.1

-- The extension, without its dot: it begins at the last dot of the last segment, which may not be the segment's first character.
unfoldable pub extension_of : List ℕ → Option (List ℕ)
extension_of path = behind_dot (rsplit_once dot (last_segment path))

-- ---- names of outputs

abbrev pub before_dot : List ℕ → Option (List ℕ × List ℕ) → List ℕ
before_dot path None = path
before_dot path (Some split) = split.0

abbrev pub stem_by : List ℕ → Option (List ℕ) → List ℕ
stem_by path None = path
stem_by path (Some extension) = before_dot path (rsplit_once dot path)

-- the path without its extension and its dot
unfoldable pub stem_of : List ℕ → List ℕ
stem_of path = stem_by path (extension_of path)

-- ---- loaders

-- the loader that a flag gives the extension
abbrev pub given : List (List ℕ × Loader) → List ℕ → Option Loader
given loaders extension = option_map (λ pair. pair.1) (find (λ pair. bytes_eq pair.0 extension) loaders)

-- the loader that the extension has with no flag
abbrev pub default_loader : List ℕ → Option Loader
default_loader extension = if list_any (bytes_eq extension) (codes "js" ∷ codes "mjs" ∷ codes "cjs" ∷ []) then Some loader.Js
    else (if bytes_eq extension (codes "json") then Some loader.Json
    else (if bytes_eq extension (codes "txt") then Some loader.Txt
    else None))

-- a flag's loader goes before the default
abbrev pub loader_by : Flags → Option (List ℕ) → Option Loader
loader_by flags None = None
loader_by flags (Some extension) = option_or (given flags.loaders extension) (default_loader extension)

unfoldable pub loader_of : Flags → List ℕ → Option Loader
loader_of flags path = loader_by flags (extension_of path)
