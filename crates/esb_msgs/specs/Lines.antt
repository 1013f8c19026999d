-- Lines of a text, and where a byte stands in them.
use Rattle.std.specs.Prelude.{ℕ, suc, ◌+◌, ◌==◌, Bool, if◌then◌else◌, List, [], ◌∷◌, length, take, min, count_by}
use Rattle.std.specs.List.{after_last}

-- a line ends with a line feed
abbrev pub is_line_end : ℕ → Bool
is_line_end byte = byte == 10

-- the number of 32 bits that tells this number
abbrev pub told : ℕ → ℕ
told number = min number 4294967295

-- The number of the line in which the byte at this offset stands, from 1 on.
abbrev pub line_of : List ℕ → ℕ → ℕ
line_of contents offset = count_by is_line_end (take offset contents) + 1

-- how many bytes of its line stand before it
abbrev pub column_of : List ℕ → ℕ → ℕ
column_of contents offset = length (after_last is_line_end (take offset contents))

-- the offsets behind the line feeds of the bytes that stand from an offset on
abbrev pub starts_from : ℕ → List ℕ → List ℕ
starts_from at [] = []
starts_from at (byte ∷ bytes) = if is_line_end byte then suc at ∷ starts_from (suc at) bytes else starts_from (suc at) bytes

-- where the lines begin
abbrev pub line_starts : List ℕ → List ℕ
line_starts contents = 0 ∷ starts_from 0 contents
