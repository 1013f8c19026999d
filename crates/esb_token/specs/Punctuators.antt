-- Punctuators (ECMA-262, 11.7), the longest at the front of a text, but for those that the goal decides: `/`, `/=` and `}`.
use Rattle.std.specs.Prelude.{ℕ, ◌+◌, not, ◌&&◌, if◌then◌else◌, ◌==◌, List, slice_index, Some, None}
use Rattle.esb_token.specs.declared.kind.Kind.{Kind}
use Rattle.esb_token.specs.declared.kind.Kind.TheVariants as k
use Rattle.esb_token.specs.Characters.{is_digit}
use Rattle.esb_token.specs.Names.{Piece}

-- a punctuator of this size, or a longer one where a `=` follows
abbrev pub with_equals : Kind → Kind → ℕ → List ℕ → Kind × ℕ
with_equals plain assigned size text = if slice_index text size == 61 then (assigned, size + 1) else (plain, size)

-- a punctuator, or one that is its first byte twice
abbrev pub twice_or_equals : Kind → Kind → Kind → List ℕ → Kind × ℕ
twice_or_equals plain twice assigned text =
    if slice_index text 1 == slice_index text 0 then (twice, 2) else with_equals plain assigned 1 text

unfoldable pub star : List ℕ → Kind × ℕ
star text = if slice_index text 1 == 42 then with_equals k.StarStar k.StarStarAssign 2 text else with_equals k.Star k.StarAssign 1 text

unfoldable pub less : List ℕ → Kind × ℕ
less text = if slice_index text 1 == 60 then with_equals k.ShiftLeft k.ShiftLeftAssign 2 text else with_equals k.Less k.LessEqual 1 text

unfoldable pub greater : List ℕ → Kind × ℕ
greater text =
    if slice_index text 1 == 62 then
    (if slice_index text 2 == 62 then with_equals k.ShiftRightUnsigned k.ShiftRightUnsignedAssign 3 text
    else with_equals k.ShiftRight k.ShiftRightAssign 2 text)
    else with_equals k.Greater k.GreaterEqual 1 text

unfoldable pub equals : List ℕ → Kind × ℕ
equals text =
    if slice_index text 1 == 61 then with_equals k.Equal k.StrictEqual 2 text
    else if slice_index text 1 == 62 then (k.Arrow, 2)
    else (k.Assign, 1)

unfoldable pub exclamation : List ℕ → Kind × ℕ
exclamation text = if slice_index text 1 == 61 then with_equals k.NotEqual k.StrictNotEqual 2 text else (k.Exclamation, 1)

-- a `?.` has no digit behind it
unfoldable pub question : List ℕ → Kind × ℕ
question text =
    if slice_index text 1 == 63 then (k.QuestionQuestion, 2)
    else if slice_index text 1 == 46 && not (is_digit (slice_index text 2)) then (k.QuestionDot, 2)
    else (k.Question, 1)

unfoldable pub dot : List ℕ → Kind × ℕ
dot text = if slice_index text 1 == 46 && slice_index text 2 == 46 then (k.Ellipsis, 3) else (k.Dot, 1)

unfoldable pub operator : List ℕ → Piece
operator text =
    let b = slice_index text 0 in
    if b == 43 then Some (twice_or_equals k.Plus k.PlusPlus k.PlusAssign text)
    else if b == 45 then Some (twice_or_equals k.Minus k.MinusMinus k.MinusAssign text)
    else if b == 38 then Some (twice_or_equals k.Ampersand k.AndAnd k.AmpersandAssign text)
    else if b == 124 then Some (twice_or_equals k.Bar k.BarBar k.BarAssign text)
    else if b == 42 then Some (star text)
    else if b == 60 then Some (less text)
    else if b == 62 then Some (greater text)
    else if b == 61 then Some (equals text)
    else if b == 33 then Some (exclamation text)
    else if b == 63 then Some (question text)
    else if b == 37 then Some (with_equals k.Percent k.PercentAssign 1 text)
    else if b == 94 then Some (with_equals k.Caret k.CaretAssign 1 text)
    else None

unfoldable pub punctuator : List ℕ → Piece
punctuator text =
    let b = slice_index text 0 in
    if b == 40 then Some (k.LeftParenthesis, 1)
    else if b == 41 then Some (k.RightParenthesis, 1)
    else if b == 44 then Some (k.Comma, 1)
    else if b == 46 then Some (dot text)
    else if b == 58 then Some (k.Colon, 1)
    else if b == 59 then Some (k.Semicolon, 1)
    else if b == 91 then Some (k.LeftBracket, 1)
    else if b == 93 then Some (k.RightBracket, 1)
    else if b == 123 then Some (k.LeftBrace, 1)
    else if b == 126 then Some (k.Tilde, 1)
    else operator text
