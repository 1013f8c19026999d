-- Sums over a list, of which one element changes.
use Rattle.std.proofs.Common.{◌≡◌, ◌≢◌, ℕ, zero, suc, ◌+◌, ◌<◌, ◌≤◌, List, [], ◌∷◌, ◌++◌, set, sym, refl, ap, arith}
use mathlib.Core.Option.{some, some-injective, some-ne-none}
use lib.ListN.{get_elem?}
use Rattle.esb_turns.specs.Views.{one, below, total}

pub one-same : (k n : ℕ) → k ≡ n → one k n ≡ 1
one-same k n e = grind arith

pub one-other : (k n : ℕ) → k ≢ n → one k n ≡ 0
one-other k n e = grind arith

pub below-in : (k n : ℕ) → k < n → below k n ≡ 1
below-in k n e = grind arith

pub below-out : (k n : ℕ) → n ≤ k → below k n ≡ 0
below-out k n e = grind arith

module _ {A : Type 0} (f : A → ℕ) where
  pub total-set : (l : List A) (i : ℕ) (v w : A) → get_elem? l i ≡ some v → total f (set l i w) + f v ≡ total f l + f w
  total-set [] i v w e = absurd (some-ne-none v (sym e))
  total-set (x ∷ xs) zero v w e = let is : f x ≡ f v = ap f (some-injective x v e) in omega arith
  total-set (x ∷ xs) (suc i) v w e = let r = total-set xs i v w e in omega arith

  pub total-append : (l m : List A) → total f (l ++ m) ≡ total f l + total f m
  total-append [] m = omega arith
  total-append (x ∷ xs) m = let r = total-append xs m in omega arith

  pub total-at : (l : List A) (i : ℕ) (v : A) → get_elem? l i ≡ some v → f v ≤ total f l
  total-at [] i v e = absurd (some-ne-none v (sym e))
  total-at (x ∷ xs) zero v e = let is : f x ≡ f v = ap f (some-injective x v e) in omega arith
  total-at (x ∷ xs) (suc i) v e = let r = total-at xs i v e in omega arith

  pub total-two : (l : List A) (i j : ℕ) (v w : A) → i ≢ j → get_elem? l i ≡ some v → get_elem? l j ≡ some w → f v + f w ≤ total f l
  total-two [] i j v w n e h = absurd (some-ne-none v (sym e))
  total-two (x ∷ xs) zero zero v w n e h = absurd (n refl)
  total-two (x ∷ xs) zero (suc j) v w n e h = let is : f x ≡ f v = ap f (some-injective x v e) in let r = total-at xs j w h in omega arith
  total-two (x ∷ xs) (suc i) zero v w n e h = let is : f x ≡ f w = ap f (some-injective x w h) in let r = total-at xs i v e in omega arith
  total-two (x ∷ xs) (suc i) (suc j) v w n e h = let r = total-two xs i j v w (λ s. n (ap suc s)) e h in omega arith

module _ {A : Type 0} (f g : A → ℕ) where
  -- where g is no less than f at each element
  pub total-le : (l : List A) → ((i : ℕ) (v : A) → get_elem? l i ≡ some v → f v ≤ g v) → total f l ≤ total g l
  total-le [] h = omega arith
  total-le (x ∷ xs) h = let r = total-le xs (λ i v e. h (suc i) v e) in let here = h 0 x refl in omega arith

  -- where g is 0 of all elements together, and f is 0 wherever g is
  pub total-none : (l : List A) → ((i : ℕ) (v : A) → get_elem? l i ≡ some v → g v ≡ 0 → f v ≡ 0) → total g l ≡ 0 → total f l ≡ 0
  total-none [] h e = refl
  total-none (x ∷ xs) h e = let here = h 0 x refl (omega arith) in let r = total-none xs (λ i v e. h (suc i) v e) (omega arith) in omega arith

  -- where one element has all of g, and f is 0 wherever g is
  pub total-alone : (l : List A) (i : ℕ) (v : A) → get_elem? l i ≡ some v → ((j : ℕ) (u : A) → get_elem? l j ≡ some u → g u ≡ 0 → f u ≡ 0) → total g l ≡ g v → total f l ≡ f v
  total-alone [] i v e h all = absurd (some-ne-none v (sym e))
  total-alone (x ∷ xs) zero v e h all = let is : g x ≡ g v = ap g (some-injective x v e) in let is' : f x ≡ f v = ap f (some-injective x v e) in
      let r = total-none xs (λ i u at. h (suc i) u at) (omega arith) in omega arith
  total-alone (x ∷ xs) (suc i) v e h all = let some_of : g v ≤ total g xs = total-at g xs i v e in let here = h 0 x refl (omega arith) in
      let r = total-alone xs i v e (λ j u at. h (suc j) u at) (omega arith) in omega arith
