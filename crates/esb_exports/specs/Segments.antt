-- Segments that lead out of a package, or into another one.
use Rattle.std.specs.Prelude.{ℕ, ◌+◌, ◌*◌, Bool, ◌==◌, ◌&&◌, ◌||◌, nat_lt, nat_le, if◌then◌else◌, List, [], ◌∷◌, map, codes}
use Rattle.std.specs.Char.{digit_value}
use Rattle.std.specs.List.{slice_split, list_any}
use Rattle.std.specs.Str.{bytes_eq}

-- `/` or `\`
abbrev pub is_separator : ℕ → Bool
is_separator unit = unit == 47 || unit == 92

-- A hexadecimal digit of either case: its value is below 16.
abbrev pub is_hex : ℕ → Bool
is_hex unit = nat_lt (digit_value unit) 16

-- Each `%` with two hexadecimal digits behind it is the byte that they tell.
abbrev pub unescaped : List ℕ → List ℕ
unescaped [] = []
unescaped (a ∷ []) = a ∷ []
unescaped (a ∷ b ∷ []) = a ∷ b ∷ []
unescaped (a ∷ b ∷ c ∷ units) = if a == 37 && (is_hex b && is_hex c) then (digit_value b * 16 + digit_value c) ∷ unescaped units
    else a ∷ unescaped (b ∷ c ∷ units)

-- an ASCII letter in lower case
abbrev pub lowered : ℕ → ℕ
lowered unit = if nat_le 65 unit && nat_le unit 90 then unit + 32 else unit

-- The segment is this name, with escapes read and the case of ASCII letters disregarded.
unfoldable pub reads_as : List ℕ → List ℕ → Bool
reads_as segment name = bytes_eq (map lowered (unescaped segment)) name

-- an empty segment, a folder's own name or the folder above, or the folder of other packages
unfoldable pub is_bad : List ℕ → Bool
is_bad segment = bytes_eq segment [] || (reads_as segment (codes ".") || (reads_as segment (codes "..") || reads_as segment (codes "node_modules")))

-- some segment is bad
unfoldable pub has_bad : List ℕ → Bool
has_bad units = list_any is_bad (slice_split is_separator units)
