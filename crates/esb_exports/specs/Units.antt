-- Texts and their code units of UTF-16, by which names and targets of JSON are compared.
use Rattle.std.specs.Prelude.{ℕ, if◌then◌else◌, List, ◌∷◌, map, Option, Some, None, codes}
use Rattle.std.specs.Char.Escape.{encode_utf16}
use Rattle.std.specs.Char.Utf16.{has_unpaired_surrogate, utf16_lossy_chars}
use Rattle.std.specs.List.{flat_map}
use Rattle.std.specs.Str.{chars, encode_utf8_all}

-- the code units of a text, which is its UTF-8
abbrev pub units_of : List ℕ → List ℕ
units_of text = flat_map encode_utf16 (chars text)

-- the text that the units spell: none where a surrogate has no partner
abbrev pub text_of : List ℕ → Option (List ℕ)
text_of units = if has_unpaired_surrogate units then None else Some (encode_utf8_all (utf16_lossy_chars units))

-- the names of the conditions that are active
unfoldable pub active_names : List (List ℕ) → List (List ℕ)
active_names conditions = units_of (codes "default") ∷ map units_of conditions
