-- Laws of reading tokens.
use Rattle.std.specs.Prelude.{◌≡◌, ℕ, ◌≤◌, Bool, true, List, length, Ok}
use Rattle.esb_token.specs.declared.kind.Kind.{Kind}
use Rattle.esb_token.specs.declared.kind.Kind.TheVariants as k
use Rattle.esb_token.specs.declared.token.Token.{Token}
use Rattle.esb_token.specs.declared.goal.Goal.{Goal}
use Rattle.esb_token.specs.declared.goal.Goal.TheVariants as goal
use Rattle.esb_token.specs.Goals.{is_division, is_tail}
use Rattle.esb_token.specs.Tokens.{next, IsStringLiteral}

-- a token whose kind passes a test is read under another goal as well
abbrev pub SameUnder : (Kind → Bool) → Goal → Goal → Type 0
SameUnder test one other = (contents : List ℕ) (at : ℕ) (token : Token) → next contents at one ≡ Ok token → test token.kind ≡ true → next contents at other ≡ Ok token

-- where a regular expression stands, a division would be read
abbrev pub RegExpIsDivision : Type 0
RegExpIsDivision =
    (contents : List ℕ) (at : ℕ) (token : Token) → next contents at goal.RegExp ≡ Ok token → token.kind ≡ k.RegExp
    → (other : Token) × (next contents at goal.Div ≡ Ok other) × (is_division other.kind ≡ true)

-- where a template goes on, a brace would be read
abbrev pub TailIsBrace : Type 0
TailIsBrace =
    (contents : List ℕ) (at : ℕ) (token : Token) → next contents at goal.TemplateTail ≡ Ok token → is_tail token.kind ≡ true
    → (other : Token) × (next contents at goal.Div ≡ Ok other) × (other.kind ≡ k.RightBrace)

-- a token of the kind Text is a string literal
abbrev pub TextIsLiteral : Type 0
TextIsLiteral = (contents : List ℕ) (at : ℕ) (g : Goal) (token : Token) → next contents at g ≡ Ok token → token.kind ≡ k.Text → IsStringLiteral contents token

-- the end stands at the contents' end
abbrev pub EndIsLast : Type 0
EndIsLast = (contents : List ℕ) (at : ℕ) (g : Goal) (token : Token) → at ≤ length contents → next contents at g ≡ Ok token → token.kind ≡ k.End → (token.start ≡ length contents) × (token.end ≡ length contents)
