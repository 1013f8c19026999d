-- Regular expression literals (ECMA-262, 11.8.5). What the body means is not looked at.
use Rattle.std.specs.Prelude.{ℕ, ◌+◌, ◌||◌, if◌then◌else◌, ◌==◌, List, [], ◌∷◌, length, drop, slice_index, Some, None}
use Rattle.esb_token.specs.declared.kind.Kind.TheVariants as k
use Rattle.esb_token.specs.Characters.{at_line_end}
use Rattle.esb_token.specs.Names.{Piece, identifier_character}
use Rattle.esb_token.specs.Runs.{run}

-- a backslash with the byte that it escapes, 0 where the line or the text ends behind it
abbrev pub escaped_byte : List ℕ → ℕ
escaped_byte rest = if length rest == 0 || at_line_end rest then 0 else 2

-- a byte between `[` and `]`
unfoldable pub class_piece : List ℕ → ℕ
class_piece [] = 0
class_piece (b ∷ rest) =
    if b == 93 || at_line_end (b ∷ rest) then 0
    else if b == 92 then escaped_byte rest
    else 1

-- a class from its `[`, 0 where it isn't closed
unfoldable pub class : List ℕ → ℕ
class text =
    let body = run class_piece (drop 1 text) in
    if slice_index text (1 + body) == 93 then body + 2 else 0

unfoldable pub body_piece : List ℕ → ℕ
body_piece [] = 0
body_piece (b ∷ rest) =
    if b == 47 || at_line_end (b ∷ rest) then 0
    else if b == 92 then escaped_byte rest
    else if b == 91 then class (b ∷ rest)
    else 1

-- from the first `/` to the last flag; a body is not empty and begins with no `*`
unfoldable pub regular_expression : List ℕ → Piece
regular_expression text =
    let body = run body_piece (drop 1 text) in
    if body == 0 || slice_index text 1 == 42 then None
    else if slice_index text (1 + body) == 47 then Some (k.RegExp, body + 2 + run identifier_character (drop (body + 2) text))
    else None
