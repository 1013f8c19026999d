-- The lexical grammar (ECMA-262, clause 11): which bytes are a token of a kind. Which of several tokens at a place is read is said below, by their lengths.
use Rattle.std.specs.Prelude.{◌≡◌, ◌≢◌, ◌⊎◌, ℕ, ◌<◌, Bool, true, false, not, ◌||◌, if◌then◌else◌, ◌==◌, List, [], ◌∷◌, ◌++◌, length, slice_index, nat_lt, Some, codes}
use Rattle.std.specs.List.{prefix_len}
use Rattle.esb_token.specs.declared.kind.Kind.{Kind}
use Rattle.esb_token.specs.declared.kind.Kind.TheVariants as k
use Rattle.esb_token.specs.declared.goal.Goal.{Goal}
use Rattle.esb_token.specs.declared.goal.Goal.TheVariants as goal
use Rattle.esb_token.specs.Goals.{is_division}
use Rattle.esb_token.specs.Characters.{is_digit, is_hex_digit}
use Rattle.esb_token.specs.Names.{reserved, word_in, word_kind, identifier_start, identifier_part, identifier_character}
use Rattle.esb_token.specs.Numbers.{is_octal_digit, is_binary_digit}
use Rattle.esb_token.specs.Strings.{string_piece}
use Rattle.esb_token.specs.Templates.{template_piece}
use Rattle.esb_token.specs.RegExps.{body_piece}

-- ---- parts

-- these bytes are the part at the front, with the others behind them
abbrev pub IsPart : (List ℕ → ℕ) → List ℕ → List ℕ → Type 0
IsPart part bytes after = (0 < length bytes) × (part (bytes ++ after) ≡ length bytes)

abbrev pub joined : List (List ℕ) → List ℕ
joined [] = []
joined (bytes ∷ more) = bytes ++ joined more

-- parts in a row, with these bytes behind them
abbrev pub AreParts : (List ℕ → ℕ) → List (List ℕ) → List ℕ → Type 0
AreParts part [] after = Unit {0}
AreParts part (bytes ∷ more) after = IsPart part bytes (joined more ++ after) × AreParts part more after

-- ---- numbers (11.8.3)

abbrev pub AreDigits : (ℕ → Bool) → List ℕ → Type 0
AreDigits digit bytes = prefix_len digit bytes ≡ length bytes

-- `0`, or digits that begin with another one
abbrev pub IsInteger : List ℕ → Type 0
IsInteger bytes = (bytes ≡ 48 ∷ []) ⊎ ((0 < length bytes) × AreDigits is_digit bytes × (slice_index bytes 0 ≢ 48))

pub data IsSign : List ℕ → Type 0 where
  no_sign : IsSign []
  plus : IsSign (43 ∷ [])
  minus : IsSign (45 ∷ [])

-- an exponent, or nothing
pub data IsPower : List ℕ → Type 0 where
  no_power : IsPower []
  power : (letter : ℕ) (sign digits : List ℕ) → (letter == 101 || letter == 69) ≡ true → IsSign sign → 0 < length digits → AreDigits is_digit digits → IsPower (letter ∷ (sign ++ digits))

-- the digits of the base that a letter behind a `0` names
abbrev pub base_digit : ℕ → ℕ → Bool
base_digit letter c =
    if letter == 120 || letter == 88 then is_hex_digit c
    else if letter == 111 || letter == 79 then is_octal_digit c
    else if letter == 98 || letter == 66 then is_binary_digit c
    else false

pub data IsNumeric : Kind → List ℕ → Type 0 where
  whole : (integer exponent : List ℕ) → IsInteger integer → IsPower exponent → IsNumeric k.Number (integer ++ exponent)
  fraction : (integer digits exponent : List ℕ) → IsInteger integer → AreDigits is_digit digits → IsPower exponent → IsNumeric k.Number (integer ++ 46 ∷ (digits ++ exponent))
  point : (digits exponent : List ℕ) → 0 < length digits → AreDigits is_digit digits → IsPower exponent → IsNumeric k.Number (46 ∷ (digits ++ exponent))
  big : (integer : List ℕ) → IsInteger integer → IsNumeric k.BigInt (integer ++ 110 ∷ [])
  based : (letter : ℕ) (digits : List ℕ) → 0 < length digits → AreDigits (base_digit letter) digits → IsNumeric k.Number (48 ∷ letter ∷ digits)
  based_big : (letter : ℕ) (digits : List ℕ) → 0 < length digits → AreDigits (base_digit letter) digits → IsNumeric k.BigInt (48 ∷ letter ∷ (digits ++ 110 ∷ []))

-- ---- punctuators (11.7)

abbrev pub punctuators : List (List ℕ × Kind)
punctuators =
    (codes "{", k.LeftBrace) ∷ (codes "}", k.RightBrace) ∷ (codes "(", k.LeftParenthesis) ∷ (codes ")", k.RightParenthesis) ∷ (codes "[", k.LeftBracket) ∷ (codes "]", k.RightBracket)
    ∷ (codes ".", k.Dot) ∷ (codes "...", k.Ellipsis) ∷ (codes ";", k.Semicolon) ∷ (codes ",", k.Comma) ∷ (codes ":", k.Colon) ∷ (codes "~", k.Tilde)
    ∷ (codes "<", k.Less) ∷ (codes "<=", k.LessEqual) ∷ (codes "<<", k.ShiftLeft) ∷ (codes "<<=", k.ShiftLeftAssign)
    ∷ (codes ">", k.Greater) ∷ (codes ">=", k.GreaterEqual) ∷ (codes ">>", k.ShiftRight) ∷ (codes ">>=", k.ShiftRightAssign) ∷ (codes ">>>", k.ShiftRightUnsigned) ∷ (codes ">>>=", k.ShiftRightUnsignedAssign)
    ∷ (codes "=", k.Assign) ∷ (codes "==", k.Equal) ∷ (codes "===", k.StrictEqual) ∷ (codes "=>", k.Arrow)
    ∷ (codes "!", k.Exclamation) ∷ (codes "!=", k.NotEqual) ∷ (codes "!==", k.StrictNotEqual)
    ∷ (codes "+", k.Plus) ∷ (codes "++", k.PlusPlus) ∷ (codes "+=", k.PlusAssign)
    ∷ (codes "-", k.Minus) ∷ (codes "--", k.MinusMinus) ∷ (codes "-=", k.MinusAssign)
    ∷ (codes "*", k.Star) ∷ (codes "*=", k.StarAssign) ∷ (codes "**", k.StarStar) ∷ (codes "**=", k.StarStarAssign)
    ∷ (codes "/", k.Slash) ∷ (codes "/=", k.SlashAssign) ∷ (codes "%", k.Percent) ∷ (codes "%=", k.PercentAssign)
    ∷ (codes "&", k.Ampersand) ∷ (codes "&&", k.AndAnd) ∷ (codes "&=", k.AmpersandAssign)
    ∷ (codes "|", k.Bar) ∷ (codes "||", k.BarBar) ∷ (codes "|=", k.BarAssign) ∷ (codes "^", k.Caret) ∷ (codes "^=", k.CaretAssign)
    ∷ (codes "?", k.Question) ∷ (codes "??", k.QuestionQuestion) ∷ (codes "?.", k.QuestionDot) ∷ []

-- Behind `?.` stands no digit, and behind `/` no `*`, which would begin a comment.
abbrev pub may_precede : Kind → List ℕ → Bool
may_precede k.QuestionDot after = not (is_digit (slice_index after 0))
may_precede k.Slash after = not (slice_index after 0 == 42)
may_precede _ after = true

abbrev pub is_right_brace : Kind → Bool
is_right_brace k.RightBrace = true
is_right_brace _ = false

-- whether a punctuator is read under a goal
abbrev pub is_under : Goal → Kind → Bool
is_under goal.Div kind = true
is_under goal.RegExp kind = not (is_division kind)
is_under goal.TemplateTail kind = not (is_right_brace kind)

-- ---- tokens

-- these bytes are a token of a kind under a goal, with the others behind them
pub data IsToken (g : Goal) : Kind → List ℕ → List ℕ → Type 0 where
  punctuator : (kind : Kind) (bytes after : List ℕ) → word_in punctuators bytes ≡ Some kind → may_precede kind after ≡ true → is_under g kind ≡ true → IsToken g kind bytes after
  name : (start : List ℕ) (parts : List (List ℕ)) (after : List ℕ) → IsPart identifier_start start (joined parts ++ after) → AreParts identifier_part parts after
      → IsToken g (word_kind (reserved (start ++ joined parts))) (start ++ joined parts) after
  number : (kind : Kind) (bytes after : List ℕ) → IsNumeric kind bytes → IsToken g kind bytes after
  string : (quote : ℕ) (pieces : List (List ℕ)) (after : List ℕ) → (quote == 34 || quote == 39) ≡ true → AreParts (string_piece quote) pieces (quote ∷ after)
      → IsToken g k.Text (quote ∷ (joined pieces ++ quote ∷ [])) after
  template_whole : (pieces : List (List ℕ)) (after : List ℕ) → AreParts template_piece pieces (96 ∷ after) → IsToken g k.TemplateWhole (96 ∷ (joined pieces ++ 96 ∷ [])) after
  template_head : (pieces : List (List ℕ)) (after : List ℕ) → AreParts template_piece pieces (36 ∷ 123 ∷ after) → IsToken g k.TemplateHead (96 ∷ (joined pieces ++ 36 ∷ 123 ∷ [])) after
  template_middle : (pieces : List (List ℕ)) (after : List ℕ) → g ≡ goal.TemplateTail → AreParts template_piece pieces (36 ∷ 123 ∷ after)
      → IsToken g k.TemplateMiddle (125 ∷ (joined pieces ++ 36 ∷ 123 ∷ [])) after
  template_tail : (pieces : List (List ℕ)) (after : List ℕ) → g ≡ goal.TemplateTail → AreParts template_piece pieces (96 ∷ after)
      → IsToken g k.TemplateTail (125 ∷ (joined pieces ++ 96 ∷ [])) after
  regular_expression : (body flags : List (List ℕ)) (after : List ℕ) → g ≡ goal.RegExp → 0 < length (joined body) → slice_index (joined body) 0 ≢ 42
      → AreParts body_piece body (47 ∷ (joined flags ++ after)) → AreParts identifier_character flags after
      → IsToken g k.RegExp (47 ∷ (joined body ++ 47 ∷ joined flags)) after

-- whether a literal may stand before these bytes: a number not before a digit or the start of a name
abbrev pub ends_before : List ℕ → Bool
ends_before after = not (is_digit (slice_index after 0) || nat_lt 0 (identifier_start after))
