-- What is seen where tokens are spelled, and tests.
use Rattle.std.proofs.Common.{◌≡◌, ◌⊎◌, inl, inr, ℕ, max, Bool, true, false, ◌&&◌, ◌||◌, List, ◌∷◌, refl, ap, ◌∙◌, arith}
use Rattle.esb_token.specs.declared.kind.Kind.{Kind}
use Rattle.esb_token.specs.declared.token.Token.{Token}
use Rattle.esb_token.specs.declared.goal.Goal.TheVariants as goal
use Rattle.esb_token.specs.Tokens.{SpelledBetween}
use Rattle.esb_reader.specs.Kinds.{agrees}
use Rattle.esb_reader.specs.Places.{Text}
use Rattle.esb_reader.specs.Parts.{behind}
use Rattle.esb_reader.proofs.Agreeing.{seen, spelled-is_read}

pub left_of : (a b : Bool) → (a && b) ≡ true → a ≡ true
left_of true b h = refl
left_of false b h = cc

pub right_of : (a b : Bool) → (a && b) ≡ true → b ≡ true
right_of true b h = h
right_of false b h = cc

pub and_of : (a b : Bool) → a ≡ true → b ≡ true → (a && b) ≡ true
and_of true b h g = g
and_of false b h g = cc

pub and_false : (a b : Bool) → b ≡ false → (a && b) ≡ false
and_false true b h = h
and_false false b h = refl

pub or_of : (a b : Bool) → a ≡ false → b ≡ false → (a || b) ≡ false
or_of false b h g = g
or_of true b h g = cc

pub or_right : (a b : Bool) → b ≡ true → (a || b) ≡ true
or_right true b h = refl
or_right false b h = h

pub either_of : (a b : Bool) → (a || b) ≡ true → (a ≡ true) ⊎ (b ≡ true)
either_of true b h = inl refl
either_of false b h = inr h

pub max_zero : (m : ℕ) → m ≡ max 0 m
max_zero m = omega arith

-- the token that is seen where tokens are spelled
pub sees : (text : Text) (i : ℕ) (t : Token) (ts : List Token) (j : ℕ) → SpelledBetween text i (t ∷ ts) j → agrees goal.Div t.kind ≡ true → behind text i ≡ t
sees text i t ts j h same = seen text goal.Div i t (spelled-is_read text goal.Div i t h.0 same)

-- a token of a known kind
pub sees_kind : (text : Text) (i : ℕ) (t : Token) (ts : List Token) (j : ℕ) (kind : Kind) → SpelledBetween text i (t ∷ ts) j → t.kind ≡ kind → agrees goal.Div kind ≡ true → behind text i ≡ t
sees_kind text i t ts j kind h e same = sees text i t ts j h (ap (agrees goal.Div) e ∙ same)
