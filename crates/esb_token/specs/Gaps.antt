-- White space and comments (ECMA-262, 11.2 to 11.4), and the first line `#!`.
use Rattle.std.specs.Prelude.{ℕ, ◌+◌, Bool, true, false, ◌&&◌, ◌||◌, if◌then◌else◌, ◌==◌, nat_lt, List, [], ◌∷◌, length, drop, slice_index}
use Rattle.esb_token.specs.Characters.{character, code_point, is_space, at_line_end}
use Rattle.esb_token.specs.Runs.{run, run_any}

abbrev pub begins_with_two : ℕ → ℕ → List ℕ → Bool
begins_with_two a b text = slice_index text 0 == a && slice_index text 1 == b

-- a byte of a comment that ends with its line, 0 where the line ends
unfoldable pub line_comment_byte : List ℕ → ℕ
line_comment_byte [] = 0
line_comment_byte (b ∷ rest) = if at_line_end (b ∷ rest) then 0 else 1

-- a byte of a comment that `*/` closes, 0 before the `*/`
unfoldable pub block_comment_byte : List ℕ → ℕ
block_comment_byte [] = 0
block_comment_byte (b ∷ rest) = if begins_with_two 42 47 (b ∷ rest) then 0 else 1

-- the comment `/* */` at the front, from its `/*`, 0 where it isn't closed
unfoldable pub block_comment : List ℕ → ℕ
block_comment text =
    let body = run block_comment_byte (drop 2 text) in
    if nat_lt (3 + body) (length text) then body + 4 else 0

unfoldable pub comment : List ℕ → ℕ
comment text =
    if begins_with_two 47 47 text then 2 + run line_comment_byte (drop 2 text)
    else if begins_with_two 47 42 text then block_comment text
    else 0

-- a piece of what separates tokens: a white space, a line terminator, a comment
unfoldable pub separator : List ℕ → ℕ
separator text =
    if at_line_end text || is_space (code_point text) then character text
    else comment text

-- whether that piece is a line terminator or a comment with one in it
unfoldable pub has_line : List ℕ → Bool
has_line text =
    if at_line_end text then true
    else if is_space (code_point text) then false
    else begins_with_two 47 42 text && run_any block_comment_byte at_line_end (drop 2 text)

-- a first line `#!`, up to its line terminator
unfoldable pub interpreter_line : List ℕ → ℕ
interpreter_line text = if begins_with_two 35 33 text then 2 + run line_comment_byte (drop 2 text) else 0

-- what stands between a place and the next token
unfoldable pub gap : List ℕ → ℕ
gap text = run separator text

unfoldable pub gap_has_line : List ℕ → Bool
gap_has_line text = run_any separator has_line text
