-- The token at a place (ECMA-262, clause 11), and the texts that a list of tokens spells.
use Rattle.std.specs.Prelude.{◌≡◌, ◌≢◌, ℕ, ◌+◌, ◌-◌, ◌<◌, ◌≤◌, Bool, ◌&&◌, ◌||◌, if◌then◌else◌, ◌==◌, List, [], ◌∷◌, length, drop, slice_index, Some, None, Result, Ok, Err}
use Rattle.esb_token.specs.declared.kind.Kind.TheVariants as k
use Rattle.esb_token.specs.declared.token.Token.{Token}
use Rattle.esb_token.specs.declared.goal.Goal.{Goal}
use Rattle.esb_token.specs.declared.goal.Goal.TheVariants as goal
use Rattle.esb_token.specs.Goals.{goal_of}
use Rattle.esb_token.specs.Characters.{is_digit}
use Rattle.esb_token.specs.Gaps.{gap, gap_has_line, interpreter_line}
use Rattle.esb_token.specs.Names.{Piece, name}
use Rattle.esb_token.specs.Numbers.{number}
use Rattle.esb_token.specs.Strings.{string}
use Rattle.esb_token.specs.Templates.{template}
use Rattle.esb_token.specs.RegExps.{regular_expression}
use Rattle.esb_token.specs.Punctuators.{with_equals, punctuator}

-- a division; at the `/*` of a comment that isn't closed there is none
unfoldable pub division : List ℕ → Piece
division text = if slice_index text 1 == 42 then None else Some (with_equals k.Slash k.SlashAssign 1 text)

unfoldable pub slash : Goal → List ℕ → Piece
slash goal.Div text = division text
slash goal.RegExp text = regular_expression text
slash goal.TemplateTail text = division text

unfoldable pub right_brace : Goal → List ℕ → Piece
right_brace goal.Div text = Some (k.RightBrace, 1)
right_brace goal.RegExp text = Some (k.RightBrace, 1)
right_brace goal.TemplateTail text = template k.TemplateTail k.TemplateMiddle text

abbrev pub or_else : Piece → Piece → Piece
or_else None other = other
or_else (Some piece) other = Some piece

abbrev pub punctuator_or_name : List ℕ → Piece
punctuator_or_name text = or_else (punctuator text) (name text)

-- the token at the front of a text that begins with neither white space nor a comment
unfoldable pub token : Goal → List ℕ → Piece
token g [] = Some (k.End, 0)
token g (b ∷ rest) =
    if b == 47 then slash g (b ∷ rest)
    else if b == 125 then right_brace g (b ∷ rest)
    else if b == 96 then template k.TemplateWhole k.TemplateHead (b ∷ rest)
    else if b == 34 || b == 39 then string (b ∷ rest)
    else if is_digit b || (b == 46 && is_digit (slice_index rest 0)) then number (b ∷ rest)
    else punctuator_or_name (b ∷ rest)

-- the token, or the place where none can be read
abbrev pub placed : ℕ → Bool → Piece → Result Token ℕ
placed start after_line None = Err start
placed start after_line (Some piece) = Ok (record { kind = piece.0; start = start; end = start + piece.1; after_line = after_line })

unfoldable pub next_from : ℕ → List ℕ → Goal → Result Token ℕ
next_from at rest g = placed (at + gap rest) (gap_has_line rest) (token g (drop (gap rest) rest))

-- the bytes of a first line `#!`, at the very start alone
unfoldable pub skipped : List ℕ → ℕ → ℕ
skipped contents at = if at == 0 then interpreter_line contents else 0

-- the next token from a place on
unfoldable pub next : List ℕ → ℕ → Goal → Result Token ℕ
next contents at g = let from = at + skipped contents at in next_from from (drop from contents) g

-- a token is a string literal of these contents
abbrev pub IsStringLiteral : List ℕ → Token → Type 0
IsStringLiteral contents token = (token.start < token.end) × (token.end ≤ length contents) × (string (drop token.start contents) ≡ Some (k.Text, token.end - token.start))

-- the tokens are what stands from a place up to another, each read under the goal of its kind
abbrev pub SpelledBetween : List ℕ → ℕ → List Token → ℕ → Type 0
SpelledBetween contents from [] to = from ≡ to
SpelledBetween contents from (token ∷ tokens) to =
    (next contents from (goal_of token.kind) ≡ Ok token) × (token.kind ≢ k.End) × SpelledBetween contents token.end tokens to

-- only white space and comments follow a place
abbrev pub IsAtEnd : List ℕ → ℕ → Type 0
IsAtEnd contents from = (token : Token) × (next contents from goal.Div ≡ Ok token) × (token.kind ≡ k.End)

-- the contents are these tokens in order, with white space and comments between them
abbrev pub Spelled : List ℕ → List Token → Type 0
Spelled contents tokens = (to : ℕ) × SpelledBetween contents 0 tokens to × IsAtEnd contents to
