-- Steps of a reader, forwards and back, and what a text spells.
use Rattle.std.proofs.Common.{ℕ, ◌<◌, nat_lt, arith, ◌≡◌, ℕ, Bool, true, false, cond, List, [], ◌∷◌, ◌++◌, Option, Some, None, refl, ap, sym, ◌∙◌, subst}
use Rattle.std.proofs.lemmas.Grind.{common_steps}
use Rattle.esb_token.specs.declared.kind.Kind.{Kind}
use Rattle.esb_token.specs.declared.token.Token.{Token}
use Rattle.esb_token.specs.declared.goal.Goal.{Goal}
use Rattle.esb_token.specs.declared.goal.Goal.TheVariants as goal
use Rattle.esb_token.specs.Tokens.{SpelledBetween}
use Rattle.esb_reader.specs.Kinds.{same_kind}
use Rattle.esb_reader.specs.Places.{Text, token_at}
use Rattle.esb_reader.specs.Reader.{Found, Reader, and_then, with_end, take, expect}
use Rattle.esb_reader.proofs.SameKind.{same_kind-is, same_kind-refl}

pub lt_true : (a b : ℕ) → nat_lt a b ≡ true → a < b
lt_true a b h = grind (arith, common_steps)

pub true_lt : (a b : ℕ) → a < b → nat_lt a b ≡ true
true_lt a b h = grind (arith, common_steps)

-- ---- steps back

pub then_some : {A B : Type 0} (r : Found A) (f : A → Reader B) (y : B × ℕ) → and_then r f ≡ Some y → (p : A × ℕ) × (r ≡ Some p) × (f p.0 p.1 ≡ Some y)
then_some None f y h = cc
then_some (Some p) f y h = (p, refl, h)

pub if_some : {A : Type 0} (t : Bool) (x : Option A) (y : A) → cond t x None ≡ Some y → (t ≡ true) × (x ≡ Some y)
if_some true x y h = (refl, h)
if_some false x y h = cc

pub some_is : {A : Type 0} (x y : A) → Some x ≡ Some y → x ≡ y
some_is x y h = cc

with_end_some : (o : Option Token) (p : Token × ℕ) → with_end o ≡ Some p → (o ≡ Some p.0) × (p.1 ≡ p.0.end)
with_end_some None p h = cc
with_end_some (Some t) p h = let e : (t, t.end) ≡ p = some_is _ _ h in (ap (λ x. Some x.0) e, sym (ap (λ x. x.1) e) ∙ ap (λ x. x.0.end) e)

pub take_some : (text : Text) (g : Goal) (i : ℕ) (p : Token × ℕ) → take text g i ≡ Some p → (token_at text g i ≡ Some p.0) × (p.1 ≡ p.0.end)
unfolding take
take_some text g i p h = with_end_some (token_at text g i) p h

pub expect_some : (text : Text) (kind : Kind) (i : ℕ) (p : Token × ℕ) → expect text kind i ≡ Some p → (token_at text goal.Div i ≡ Some p.0) × (p.1 ≡ p.0.end) × (p.0.kind ≡ kind)
unfolding expect
expect_some text kind i p h =
    let first = then_some _ _ p h in
    let second = if_some (same_kind first.0.0.kind kind) _ p first.2 in
    let same = some_is _ _ second.1 in
    let token = take_some text goal.Div i first.0 first.1 in
    (token.0 ∙ ap (λ x. Some x.0) same, sym (ap (λ x. x.1) same) ∙ token.1 ∙ ap (λ x. x.0.end) same, ap (λ x. x.0.kind) (sym same) ∙ same_kind-is _ _ second.0)

-- ---- steps forwards

pub then_goes : {A B : Type 0} (r : Found A) (f : A → Reader B) (x : A) (j : ℕ) → r ≡ Some (x, j) → and_then r f ≡ f x j
then_goes r f x j h = ap (λ r. and_then r f) h

pub if_goes : {A : Type 0} (t : Bool) (x y : A) → t ≡ true → cond t x y ≡ x
if_goes t x y h = ap (λ b. cond b x y) h

pub if_not : {A : Type 0} (t : Bool) (x y : A) → t ≡ false → cond t x y ≡ y
if_not t x y h = ap (λ b. cond b x y) h

pub take_goes : (text : Text) (g : Goal) (i : ℕ) (t : Token) → token_at text g i ≡ Some t → take text g i ≡ Some (t, t.end)
unfolding take
take_goes text g i t h = ap with_end h

pub expect_goes : (text : Text) (kind : Kind) (i : ℕ) (t : Token) → token_at text goal.Div i ≡ Some t → t.kind ≡ kind → expect text kind i ≡ Some (t, t.end)
unfolding expect
expect_goes text kind i t h e =
    then_goes _ _ t t.end (take_goes text goal.Div i t h) ∙ if_goes _ _ _ (ap (λ x. same_kind x kind) e ∙ same_kind-refl kind)

-- ---- what a text spells

pub spelled_split : (text : Text) (i : ℕ) (ts us : List Token) (j : ℕ) → SpelledBetween text i (ts ++ us) j → (m : ℕ) × SpelledBetween text i ts m × SpelledBetween text m us j
spelled_split text i [] us j h = (i, refl, h)
spelled_split text i (t ∷ ts) us j h = let rest = spelled_split text t.end ts us j h.2 in (rest.0, (h.0, h.1, rest.1), rest.2)

pub spelled_join : (text : Text) (i : ℕ) (ts us : List Token) (m j : ℕ) → SpelledBetween text i ts m → SpelledBetween text m us j → SpelledBetween text i (ts ++ us) j
spelled_join text i [] us m j h g = subst (λ n. SpelledBetween text n us j) (sym h) g
spelled_join text i (t ∷ ts) us m j h g = (h.0, h.1, spelled_join text t.end ts us m j h.2 g)
