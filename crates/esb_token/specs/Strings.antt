-- String literals of strict mode, and the code units that they stand for (ECMA-262, 11.8.4).
use Rattle.std.specs.Prelude.{ℕ, zero, suc, ◌+◌, ◌-◌, ◌*◌, ◌/◌, ◌%◌, ◌&&◌, ◌||◌, if◌then◌else◌, ◌==◌, nat_lt, nat_le, List, [], ◌∷◌, ◌++◌, length, drop, slice_index, Some, None}
use Rattle.esb_token.specs.declared.kind.Kind.TheVariants as k
use Rattle.esb_token.specs.Characters.{character, code_point, is_digit, is_hex_digit, hex_digit, at_line_end}
use Rattle.esb_token.specs.Names.{Piece, Escape, unicode_escape}
use Rattle.esb_token.specs.Runs.{run}

abbrev pub escape_length : Escape → ℕ
escape_length None = 0
escape_length (Some escape) = escape.1

-- an escape or a line continuation, from its backslash, 0 where it is none
unfoldable pub string_escape : List ℕ → ℕ
string_escape text =
    let letter = slice_index text 1 in
    if letter == 120 then (if is_hex_digit (slice_index text 2) && is_hex_digit (slice_index text 3) then 4 else 0)
    else if letter == 117 then escape_length (unicode_escape text)
    else if letter == 48 then (if is_digit (slice_index text 2) then 0 else 2)
    else if is_digit letter then 0
    else if letter == 13 && slice_index text 2 == 10 then 3
    else if nat_le (length text) 1 then 0
    else 1 + character (drop 1 text)

-- a character of a string literal in these quotes, or an escape, 0 at the quote and where a line ends
unfoldable pub string_piece : ℕ → List ℕ → ℕ
string_piece quote text =
    let b = slice_index text 0 in
    if b == quote || b == 10 || b == 13 then 0
    else if b == 92 then string_escape text
    else character text

unfoldable pub string : List ℕ → Piece
string text =
    let quote = slice_index text 0 in
    let body = run (string_piece quote) (drop 1 text) in
    if slice_index text (1 + body) == quote then Some (k.Text, body + 2) else None

-- the code units of a code point (ECMA-262, 10.1.1)
abbrev pub utf16 : ℕ → List ℕ
utf16 c =
    if nat_lt c 0x10000 then c ∷ []
    else (0xD800 + (c - 0x10000) / 0x400) ∷ (0xDC00 + (c - 0x10000) % 0x400) ∷ []

abbrev pub escape_units : Escape → List ℕ
escape_units None = []
escape_units (Some escape) = utf16 escape.0

abbrev pub unicode_units : List ℕ → List ℕ
unicode_units text = escape_units (unicode_escape text)

-- the code units of a character behind a backslash: none for the end of a line
abbrev pub unescaped_units : List ℕ → List ℕ
unescaped_units text = if at_line_end text then [] else utf16 (code_point text)

-- the code units of an escape, from its backslash: none for a line continuation
unfoldable pub string_escape_units : List ℕ → List ℕ
string_escape_units text =
    let letter = slice_index text 1 in
    if letter == 120 then (16 * hex_digit (slice_index text 2) + hex_digit (slice_index text 3)) ∷ []
    else if letter == 117 then unicode_units text
    else if letter == 48 then 0 ∷ []
    else if letter == 98 then 8 ∷ []
    else if letter == 102 then 12 ∷ []
    else if letter == 110 then 10 ∷ []
    else if letter == 114 then 13 ∷ []
    else if letter == 116 then 9 ∷ []
    else if letter == 118 then 11 ∷ []
    else unescaped_units (drop 1 text)

unfoldable pub piece_units : List ℕ → List ℕ
piece_units text = if slice_index text 0 == 92 then string_escape_units text else utf16 (code_point text)

-- the code units of the pieces at the front, one after another
abbrev pub units_from : ℕ → ℕ → List ℕ → List ℕ
units_from quote inside [] = []
units_from quote (suc inside) (b ∷ rest) = units_from quote inside rest
units_from quote zero (b ∷ rest) =
    if string_piece quote (b ∷ rest) == 0 then [] else piece_units (b ∷ rest) ++ units_from quote (string_piece quote (b ∷ rest) - 1) rest

-- the value of a string literal that stands at the front of a text
unfoldable pub string_value : List ℕ → List ℕ
string_value text = units_from (slice_index text 0) 0 (drop 1 text)
