-- Laws of single tokens.
use Rattle.std.specs.Prelude.{◌≡◌, ◌≢◌, ℕ, ◌+◌, ◌<◌, ◌≤◌, true, List, length, Some, Ok}
use Rattle.esb_token.specs.declared.kind.Kind.TheVariants as k
use Rattle.esb_token.specs.declared.token.Token.{Token}
use Rattle.esb_token.specs.declared.goal.Goal.{Goal}
use Rattle.esb_token.specs.declared.goal.Goal.TheVariants as goal
use Rattle.esb_token.specs.Goals.{goal_of, is_division, is_tail}
use Rattle.esb_token.specs.Tokens.{next, SpelledBetween}
use Rattle.esb_reader.specs.Kinds.{agrees}
use Rattle.esb_reader.specs.Places.{Text, token_at}
use Rattle.esb_reader.specs.Parts.{behind}

-- what is read under the goal of its kind is read under each goal that agrees with its kind
abbrev pub SpelledIsRead : Type 0
SpelledIsRead = (text : Text) (g : Goal) (at : ℕ) (t : Token) → next text at (goal_of t.kind) ≡ Ok t → agrees g t.kind ≡ true → token_at text g at ≡ Some t

-- and the other way
abbrev pub ReadIsSpelled : Type 0
ReadIsSpelled = (text : Text) (g : Goal) (at : ℕ) (t : Token) → token_at text g at ≡ Some t → agrees g t.kind ≡ true → next text at (goal_of t.kind) ≡ Ok t

-- where a regular expression stands, a division is seen
abbrev pub RegExpShowsSlash : Type 0
RegExpShowsSlash = (text : Text) (at : ℕ) (t : Token) → next text at goal.RegExp ≡ Ok t → t.kind ≡ k.RegExp → is_division (behind text at).kind ≡ true

-- where a template goes on, a brace is seen
abbrev pub TailShowsBrace : Type 0
TailShowsBrace = (text : Text) (at : ℕ) (t : Token) → next text at goal.TemplateTail ≡ Ok t → is_tail t.kind ≡ true → (behind text at).kind ≡ k.RightBrace

-- a token that is not the end takes a byte within the text
abbrev pub TokenMoves : Type 0
TokenMoves = (text : Text) (g : Goal) (at : ℕ) (t : Token) → next text at g ≡ Ok t → t.kind ≢ k.End → (at ≤ t.start) × (t.start < t.end) × (t.end ≤ length text)

-- so tokens take as many bytes as they are, or more
abbrev pub TokensMove : Type 0
TokensMove = (text : Text) (at : ℕ) (ts : List Token) (to : ℕ) → SpelledBetween text at ts to → (at + length ts ≤ to) × (at ≤ length text → to ≤ length text)
