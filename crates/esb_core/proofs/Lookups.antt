-- Looking up keys in lists that grow and shrink.
use Rattle.std.proofs.Common.{◌≡◌, ℕ, Bool, true, false, cond, not, List, [], ◌∷◌, ◌++◌, Option, None, Some, is_some, refl, sym, ap, ◌∙◌, arith, nat_eq, eqb-true}
use Rattle.std.specs.Map.{lookup}
use Rattle.std.proofs.lemmas.Bool.{false≢true}
use Rattle.esb_core.specs.Steps.{without}

pub self : (n : ℕ) → nat_eq n n ≡ true
self n = grind (arith)

-- a value is there, or none is
pub some-or : {X : Type 0} (o : Option X) → is_some o ≡ false → o ≡ None
some-or None e = refl
some-or (Some x) e = absurd (false≢true (sym e))

pub not_none : {X Y : Type 0} (x : X) → Some x ≡ None → Y
not_none x e = absurd (let f : ⊥ = cc in f)

module _ {X : Type 0} (p : ℕ → Bool) where
  pub lookup-found : (xs ys : List (ℕ × X)) (x : X) → lookup p xs ≡ Some x → lookup p (xs ++ ys) ≡ Some x
  lookup-found [] ys x e = absurd (let h : None ≡ Some x = e in let f : ⊥ = cc in f)
  lookup-found (e ∷ xs) ys x is = by (p e.0) is (lookup-found xs ys x)
    where
      by : (t : Bool) → cond t (Some e.1) (lookup p xs) ≡ Some x → (lookup p xs ≡ Some x → lookup p (xs ++ ys) ≡ Some x) → cond t (Some e.1) (lookup p (xs ++ ys)) ≡ Some x
      by true is rec = is
      by false is rec = rec is

  pub lookup-past : (xs ys : List (ℕ × X)) → lookup p xs ≡ None → lookup p (xs ++ ys) ≡ lookup p ys
  lookup-past [] ys e = refl
  lookup-past (e ∷ xs) ys is = by (p e.0) is (lookup-past xs ys)
    where
      by : (t : Bool) → cond t (Some e.1) (lookup p xs) ≡ None → (lookup p xs ≡ None → lookup p (xs ++ ys) ≡ lookup p ys) → cond t (Some e.1) (lookup p (xs ++ ys)) ≡ lookup p ys
      by true is rec = not_none e.1 is
      by false is rec = rec is

pub lookup-last : {X : Type 0} (key : ℕ) (xs : List (ℕ × X)) (x : X) → lookup (nat_eq key) xs ≡ None → lookup (nat_eq key) (xs ++ (key, x) ∷ []) ≡ Some x
lookup-last key xs x none = lookup-past (nat_eq key) xs ((key, x) ∷ []) none ∙ ap (λ t. cond t (Some x) None) (self key)

-- what is found in a longer list was found before, or is the last
pub lookup-split : {X Y : Type 0} (k key : ℕ) (xs : List (ℕ × X)) (x y : X) → lookup (nat_eq k) (xs ++ (key, x) ∷ []) ≡ Some y
    → (lookup (nat_eq k) xs ≡ Some y → Y) → (k ≡ key → x ≡ y → Y) → Y
lookup-split {X} {Y} k key xs x y e old new = by (lookup (nat_eq k) xs) refl
  where
    last : (t : Bool) → nat_eq k key ≡ t → cond t (Some x) None ≡ Some y → Y
    last true same is = let h : Some x ≡ Some y = is in new (eqb-true k key same) (cc)
    last false apart is = not_none y (sym is)

    by : (o : Option X) → lookup (nat_eq k) xs ≡ o → Y
    by (Some z) is =
        let h : Some z ≡ Some y = sym (lookup-found (nat_eq k) xs ((key, x) ∷ []) z is) ∙ e in
        let same : z ≡ y = cc in
        old (is ∙ ap Some same)
    by None is = last (nat_eq k key) refl (sym (lookup-past (nat_eq k) xs ((key, x) ∷ []) is) ∙ e)

module _ {X : Type 0} (key : ℕ) where
  pub without-same : (xs : List (ℕ × X)) → lookup (nat_eq key) (without key xs) ≡ None
  without-same [] = refl
  without-same (e ∷ xs) = by (nat_eq key e.0) refl (without-same xs)
    where
      by : (t : Bool) → nat_eq key e.0 ≡ t → lookup (nat_eq key) (without key xs) ≡ None → lookup (nat_eq key) (cond (not t) (e ∷ without key xs) (without key xs)) ≡ None
      by true is rec = rec
      by false is rec = ap (λ t. cond t (Some e.1) (lookup (nat_eq key) (without key xs))) is ∙ rec

  pub without-other : (k : ℕ) (xs : List (ℕ × X)) → nat_eq key k ≡ false → lookup (nat_eq k) (without key xs) ≡ lookup (nat_eq k) xs
  without-other k [] apart = refl
  without-other k (e ∷ xs) apart = by (nat_eq key e.0) refl (without-other k xs apart)
    where
      other : nat_eq key e.0 ≡ true → nat_eq k e.0 ≡ false
      other is = flip (nat_eq k e.0) refl
        where
          flip : (t : Bool) → nat_eq k e.0 ≡ t → t ≡ false
          flip false e2 = refl
          flip true e2 = absurd (false≢true (sym apart ∙ ap (λ (j : ℕ). nat_eq key j) (eqb-true k e.0 e2) ∙ is))

      by : (t : Bool) → nat_eq key e.0 ≡ t → lookup (nat_eq k) (without key xs) ≡ lookup (nat_eq k) xs
          → lookup (nat_eq k) (cond (not t) (e ∷ without key xs) (without key xs)) ≡ cond (nat_eq k e.0) (Some e.1) (lookup (nat_eq k) xs)
      by true is rec = rec ∙ ap (λ t. cond t (Some e.1) (lookup (nat_eq k) xs)) (sym (other is))
      by false is rec = ap (λ o. cond (nat_eq k e.0) (Some e.1) o) rec

  -- what is found without a key has another one
  pub without-found : {Y : Type 0} (k : ℕ) (xs : List (ℕ × X)) (x : X) → lookup (nat_eq k) (without key xs) ≡ Some x → (nat_eq key k ≡ false → lookup (nat_eq k) xs ≡ Some x → Y) → Y
  without-found {Y} k xs x e other = by (nat_eq key k) refl
    where
      by : (t : Bool) → nat_eq key k ≡ t → Y
      by true is = not_none x (sym e ∙ ap (λ (j : ℕ). lookup (nat_eq j) (without key xs)) (sym (eqb-true key k is)) ∙ without-same xs)
      by false is = other is (sym (without-other k xs is) ∙ e)
