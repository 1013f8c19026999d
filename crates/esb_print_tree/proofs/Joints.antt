-- Tokens that may be printed, put together of those of parts.
use Rattle.std.proofs.Common.{◌≡◌, inl, inr, ℕ, Bool, true, false, not, List, [], ◌∷◌, ◌++◌, Option, Some, None, refl, subst, sym}
use Rattle.esb_token.specs.declared.kind.Kind.{Kind}
use Rattle.esb_token.specs.declared.kind.Kind.TheVariants as k
use Rattle.esb_token.specs.declared.token.Token.{Token}
use Rattle.esb_tree.specs.Trees.{written, completed, left_out}
use Rattle.esb_tree.specs.Yields.{Tokens, maybe_token}
use Rattle.esb_grammar.specs.Semicolons.{Ends, EndsLoop}
use Rattle.esb_print.specs.Again.{Stands, AreTokens, may_follow, FollowWell}

-- the kinds that do not let every other follow
abbrev pub is_open : Kind → Bool
is_open k.Dot = true
is_open k.QuestionDot = true
is_open k.Question = true
is_open _ = false

abbrev pub is_closed : Kind → Bool
is_closed kind = not (is_open kind)

abbrev pub last_closed : Tokens → Bool
last_closed [] = true
last_closed (t ∷ []) = is_closed t.kind
last_closed (t ∷ u ∷ ts) = last_closed (u ∷ ts)

abbrev pub first_closed : Tokens → Bool
first_closed [] = false
first_closed (t ∷ ts) = is_closed t.kind

-- whether tokens are there and may stand behind a token of a kind
abbrev pub may_lead : Kind → Tokens → Bool
may_lead p [] = false
may_lead p (t ∷ ts) = may_follow p t.kind

abbrev pub AllStand : List ℕ → Tokens → Type 0
AllStand text [] = Unit {0}
AllStand text (t ∷ ts) = Stands text t × AllStand text ts

-- The written tokens of a node, and those with the semicolons that were left out.
pub record Piece (text : List ℕ) (W C : Tokens) : Type 0 where
  pub follow : FollowWell C
  pub closed : last_closed C ≡ true
  pub tokens : AllStand text W → AreTokens text C

-- and such that may stand behind any other
pub record Led (text : List ℕ) (W C : Tokens) : Type 0 where
  pub piece : Piece text W C
  pub first : first_closed C ≡ true

-- ---- two after one another

closed_may : (p n : Kind) → is_closed p ≡ true → may_follow p n ≡ true
closed_may k.Dot n h = cc
closed_may k.QuestionDot n h = cc
closed_may k.Question n h = cc
closed_may _ n h = refl

follow_append : (xs ys : Tokens) → FollowWell xs → last_closed xs ≡ true → FollowWell ys → FollowWell (xs ++ ys)
follow_append [] ys h c g = g
follow_append (x ∷ []) [] h c g = tt
follow_append (x ∷ []) (y ∷ ys) h c g = (closed_may x.kind y.kind c, g)
follow_append (x ∷ z ∷ xs) ys h c g = (h.0, follow_append (z ∷ xs) ys h.1 c g)

closed_append : (xs ys : Tokens) → last_closed xs ≡ true → last_closed ys ≡ true → last_closed (xs ++ ys) ≡ true
closed_append [] ys c d = d
closed_append (x ∷ []) [] c d = c
closed_append (x ∷ []) (y ∷ ys) c d = d
closed_append (x ∷ z ∷ xs) ys c d = closed_append (z ∷ xs) ys c d

pub stand_left : (text : List ℕ) (xs ys : Tokens) → AllStand text (xs ++ ys) → AllStand text xs
stand_left text [] ys h = tt
stand_left text (x ∷ xs) ys h = (h.0, stand_left text xs ys h.1)

pub stand_right : (text : List ℕ) (xs ys : Tokens) → AllStand text (xs ++ ys) → AllStand text ys
stand_right text [] ys h = h
stand_right text (x ∷ xs) ys h = stand_right text xs ys h.1

tokens_append : (text : List ℕ) (xs ys : Tokens) → AreTokens text xs → AreTokens text ys → AreTokens text (xs ++ ys)
tokens_append text [] ys h g = g
tokens_append text (x ∷ xs) ys h g = (h.0, tokens_append text xs ys h.1 g)

first_append : (xs ys : Tokens) → first_closed xs ≡ true → first_closed (xs ++ ys) ≡ true
first_append [] ys h = cc
first_append (x ∷ xs) ys h = h

pub also : {text : List ℕ} {W C V D : Tokens} → Piece text W C → Piece text V D → Piece text (W ++ V) (C ++ D)
also {text} {W} {C} {V} {D} p q = record {
  follow = follow_append C D p.follow p.closed q.follow;
  closed = closed_append C D p.closed q.closed;
  tokens = λ all. tokens_append text C D (p.tokens (stand_left text W V all)) (q.tokens (stand_right text W V all));
}

pub led_also : {text : List ℕ} {W C V D : Tokens} → Led text W C → Piece text V D → Led text (W ++ V) (C ++ D)
led_also {text} {W} {C} {V} {D} p q = record { piece = also p.piece q; first = first_append C D p.first }

pub nothing : {text : List ℕ} → Piece text [] []
nothing = record { follow = tt; closed = refl; tokens = λ _. tt }

pub one : {text : List ℕ} (t : Token) → is_closed t.kind ≡ true → Led text (t ∷ []) (t ∷ [])
one t h = record { piece = record { follow = tt; closed = h; tokens = λ all. (inl all.0, tt) }; first = h }

pub led_then : {text : List ℕ} {W C : Tokens} (t : Token) → is_closed t.kind ≡ true → Piece text W C → Led text (t ∷ W) (t ∷ C)
led_then t h p = led_also (one t h) p

pub put_then : {text : List ℕ} {W C : Tokens} (t : Token) → is_closed t.kind ≡ true → Piece text W C → Piece text (t ∷ W) (t ∷ C)
put_then t h p = (led_then t h p).piece

-- behind an open token
open_follow : (p : Token) (C : Tokens) → may_lead p.kind C ≡ true → FollowWell C → FollowWell (p ∷ C)
open_follow p [] may h = cc
open_follow p (t ∷ ts) may h = (may, h)

open_closed : (p : Token) (C : Tokens) → may_lead p.kind C ≡ true → last_closed C ≡ true → last_closed (p ∷ C) ≡ true
open_closed p [] may h = cc
open_closed p (t ∷ ts) may h = h

pub open_then : {text : List ℕ} {W C : Tokens} (p : Token) → may_lead p.kind C ≡ true → Piece text W C → Piece text (p ∷ W) (p ∷ C)
open_then {text} {W} {C} p may q = record {
  follow = open_follow p C may q.follow;
  closed = open_closed p C may q.closed;
  tokens = λ all. (inl all.0, q.tokens all.1);
}

-- ---- equal tokens

pub is : {text : List ℕ} {W C V D : Tokens} → V ≡ W → D ≡ C → Piece text W C → Piece text V D
is {text} {W} {C} {V} {D} e f p = subst (λ x. Piece text x D) (sym e) (subst (λ x. Piece text W x) (sym f) p)

pub led_is : {text : List ℕ} {W C V D : Tokens} → V ≡ W → D ≡ C → Led text W C → Led text V D
led_is {text} {W} {C} {V} {D} e f p = subst (λ x. Led text x D) (sym e) (subst (λ x. Led text W x) (sym f) p)

-- ---- tokens that may be absent

abbrev pub closed_if_there : Option Token → Bool
closed_if_there None = true
closed_if_there (Some t) = is_closed t.kind

pub maybe_put : {text : List ℕ} (o : Option Token) → closed_if_there o ≡ true → Piece text (maybe_token o) (maybe_token o)
maybe_put None h = nothing
maybe_put (Some t) h = (one t h).piece

pub led_maybe : {text : List ℕ} {W C : Tokens} (o : Option Token) → closed_if_there o ≡ true → Led text W C → Led text (maybe_token o ++ W) (maybe_token o ++ C)
led_maybe None h p = p
led_maybe (Some t) h p = led_then t h p.piece

semicolon_closed : (t : Token) → t.kind ≡ k.Semicolon → is_closed t.kind ≡ true
semicolon_closed t h = subst (λ kind. is_closed kind ≡ true) (sym h) refl

left_out_piece : {text : List ℕ} → Piece text [] (left_out ∷ [])
left_out_piece = record { follow = tt; closed = refl; tokens = λ _. (inr (refl, refl), tt) }

pub end_put : {text : List ℕ} (on : Token → Bool) (ts : Tokens) (semicolon : Option Token) → Ends text on ts semicolon → Piece text (written semicolon) (completed semicolon)
end_put on ts None h = left_out_piece
end_put on ts (Some t) h = (one t (semicolon_closed t h)).piece

pub loop_put : {text : List ℕ} (ts : Tokens) (semicolon : Option Token) → EndsLoop text ts semicolon → Piece text (written semicolon) (completed semicolon)
loop_put ts None h = left_out_piece
loop_put ts (Some t) h = (one t (semicolon_closed t h)).piece
