-- A reader is exact: what it reads stands at the front, and what stands at the front is read.
use Rattle.std.proofs.Common.{◌≡◌, ℕ, zero, suc, ◌+◌, ◌-◌, ◌^◌, ◌<◌, ◌≤◌, Bool, true, false, cond, ◌||◌, ◌⊎◌, ltb, eqb, List, [], ◌∷◌, ◌++◌, length, Option, Some, None, refl, sym, ap, subst, ◌∙◌, append_assoc, arith, inl, inr, eq-eqb}
use Rattle.std.specs.List.{AllByRecursion}
use Rattle.std.proofs.lemmas.Bool.{eqb-true}
use Rattle.esb_json.specs.Grammar.{Each}
use Rattle.esb_json.specs.Reading.{◌>>=◌, Reader, skip, past}

-- ---- steps and tests

-- the value of a step that did not fail
pub bind_some : {A B : Type 0} (r : Option A) (f : A → Option B) (y : B) → (r >>= f) ≡ Some y → (x : A) × (r ≡ Some x) × (f x ≡ Some y)
bind_some (Some x) f y e = (x, refl, e)
bind_some None f y e = absurd cc

abbrev done : {A : Type 0} → A → Option A
done x = Some x

pub some_is : {A : Type 0} (x y : A) → done x ≡ done y → x ≡ y
some_is x y e = cc

-- which way a test went
pub chosen : {A : Type 0} (b : Bool) (x y z : A) → cond b x y ≡ z → ((b ≡ true) × (x ≡ z)) ⊎ ((b ≡ false) × (y ≡ z))
chosen true x y z e = inl (refl, e)
chosen false x y z e = inr (refl, e)

-- a test that must have been true
pub cond_taken : {A : Type 0} (b : Bool) (x : Option A) (y : A) → cond b x None ≡ Some y → (b ≡ true) × (x ≡ Some y)
cond_taken true x y e = (refl, e)
cond_taken false x y e = absurd cc

-- a test that stops where it is true
pub cond_none : {A : Type 0} (b : Bool) (x y : A) → cond b None (Some x) ≡ Some y → (b ≡ false) × (x ≡ y)
cond_none true x y e = absurd cc
cond_none false x y e = (refl, cc)

-- a test that must have been false
pub cond_other : {A : Type 0} (b : Bool) (x : Option A) (y : A) → cond b None x ≡ Some y → (b ≡ false) × (x ≡ Some y)
cond_other true x y e = absurd cc
cond_other false x y e = (refl, e)

pub or_true : (a b : Bool) → (a || b) ≡ true → (a ≡ true) ⊎ (b ≡ true)
or_true true b e = inl refl
or_true false b e = inr e

-- either a byte passes or it fails
pub decided : (b : Bool) → (b ≡ true) ⊎ (b ≡ false)
decided true = inl refl
decided false = inr refl

-- ---- what follows

-- The bytes do not begin with one that passes.
abbrev pub Apart : (ℕ → Bool) → List ℕ → Type 0
Apart p [] = Unit {0}
Apart p (b ∷ rest) = p b ≡ false

-- what P says the text of stands at the front
pub record Cuts (P : List ℕ → Type 0) (bytes rest : List ℕ) : Type 0 where
  pub text : List ℕ
  pub spelled : P text
  pub parts : bytes ≡ text ++ rest

-- a reader of texts alone
pub record Passes (read : List ℕ → Option (List ℕ)) (P ends : List ℕ → Type 0) : Type 0 where
  pub takes : (bytes rest : List ℕ) → read bytes ≡ Some rest → Cuts P bytes rest
  pub again : (text rest : List ℕ) → P text → ends rest → read (text ++ rest) ≡ Some rest

-- a value and its text at the front
pub record Stands {X : Type 0} (P : X → List ℕ → Type 0) (bytes : List ℕ) (x : X × List ℕ) : Type 0 where
  pub text : List ℕ
  pub spelled : P x.0 text
  pub parts : bytes ≡ text ++ x.1

pub record IsExact {X : Type 0} (read : Reader X) (P : X → List ℕ → Type 0) (ends : List ℕ → Type 0) : Type 0 where
  pub takes : (bytes : List ℕ) (x : X × List ℕ) → read bytes ≡ Some x → Stands P bytes x
  pub again : (x : X) (text rest : List ℕ) → P x text → ends rest → read (text ++ rest) ≡ Some (x, rest)

-- ---- what a test skips

module _ (p : ℕ → Bool) where
  skip_step : (b : ℕ) (rest : List ℕ) (t : Bool) → p b ≡ t → Cuts (Each p) rest (skip p rest) → Cuts (Each p) (b ∷ rest) (cond t (skip p rest) (b ∷ rest))
  skip_step b rest true e inside = record { text = b ∷ inside.text; spelled = (e, inside.spelled); parts = ap (λ (t : List ℕ). b ∷ t) inside.parts }
  skip_step b rest false e inside = record { text = []; spelled = tt; parts = refl }

  pub skip_takes : (bytes : List ℕ) → Cuts (Each p) bytes (skip p bytes)
  skip_takes [] = record { text = []; spelled = tt; parts = refl }
  skip_takes (b ∷ rest) = skip_step b rest (p b) refl (skip_takes rest)

  apart_step : (b : ℕ) (rest : List ℕ) (t : Bool) → p b ≡ t → Apart p (skip p rest) → Apart p (cond t (skip p rest) (b ∷ rest))
  apart_step b rest true e inside = inside
  apart_step b rest false e inside = e

  pub skip_apart : (bytes : List ℕ) → Apart p (skip p bytes)
  skip_apart [] = tt
  skip_apart (b ∷ rest) = apart_step b rest (p b) refl (skip_apart rest)

  pub skip_stays : (rest : List ℕ) → Apart p rest → skip p rest ≡ rest
  skip_stays [] h = refl
  skip_stays (b ∷ rest) h = ap (λ (t : Bool). cond t (skip p rest) (b ∷ rest)) h

  pub skip_again : (text rest : List ℕ) → Each p text → Apart p rest → skip p (text ++ rest) ≡ rest
  skip_again [] rest each apart = skip_stays rest apart
  skip_again (b ∷ text) rest each apart =
      ap (λ (t : Bool). cond t (skip p (text ++ rest)) (b ∷ (text ++ rest))) each.0 ∙ skip_again text rest each.1 apart

-- ---- one byte

pub past_takes : (c : ℕ) (bytes rest : List ℕ) → past c bytes ≡ Some rest → bytes ≡ c ∷ rest
unfolding past
past_takes c [] rest e = absurd cc
past_takes c (b ∷ bytes) rest e =
    let p = cond_taken (eqb b c) (Some bytes) rest e in
    ap (λ (t : ℕ). t ∷ bytes) (eqb-true b c p.0) ∙ ap (λ (t : List ℕ). c ∷ t) (some_is bytes rest p.1)

pub past_again : (c : ℕ) (rest : List ℕ) → past c (c ∷ rest) ≡ Some rest
unfolding past
past_again c rest = ap (λ (t : Bool). cond t (Some rest) None) (eq-eqb c c refl)
