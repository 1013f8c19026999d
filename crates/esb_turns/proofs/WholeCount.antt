-- A pass with all entries has as many as the list.
use Rattle.std.proofs.Common.{◌≡◌, ℕ, zero, suc, ◌+◌, ◌≤◌, List, [], ◌∷◌, length, sym, refl, arith}
use Rattle.std.proofs.lemmas.Option.{slice_get_within}
use mathlib.Core.Logic.{dite}
use native.Mathlib.Decide.{ℕ_discrete}
use Rattle.esb_turns.specs.Views.{one, below, total, times, Stands, IsWhole}
use Rattle.esb_turns.proofs.Sums.{one-same, one-other, below-in, below-out}
use Rattle.esb_turns.proofs.PassOnSteps.{one-more}

-- f 0 + f 1 + .. + f (n - 1)
abbrev upto : (ℕ → ℕ) → ℕ → ℕ
upto f zero = 0
upto f (suc n) = upto f n + f n

upto-same : (f g : ℕ → ℕ) (n : ℕ) → ((k : ℕ) → f k ≡ g k) → upto f n ≡ upto g n
upto-same f g zero e = refl
upto-same f g (suc n) e = let a = upto-same f g n e in let b = e n in omega arith

upto-sum : (f g : ℕ → ℕ) (n : ℕ) → upto (λ k. f k + g k) n ≡ upto f n + upto g n
upto-sum f g zero = refl
upto-sum f g (suc n) = let a = upto-sum f g n in omega arith

upto-none : (n : ℕ) → upto (λ k. 0) n ≡ 0
upto-none zero = refl
upto-none (suc n) = let a = upto-none n in omega arith

upto-below : (m n : ℕ) → n ≤ m → upto (λ k. below k m) n ≡ n
upto-below m zero h = refl
upto-below m (suc n) h = let a = upto-below m n (omega arith) in let b = below-in n m (omega arith) in omega arith

one-turned : (k n : ℕ) → one k n ≡ one n k
one-turned k n = dite (ℕ_discrete k n) (λ e. let a = one-same k n e in let b = one-same n k (sym e) in omega arith)
    (λ e. let a = one-other k n e in let b = one-other n k (λ f. e (sym f)) in omega arith)

upto-one : (x n : ℕ) → upto (λ k. one k x) n ≡ below x n
upto-one x zero = let a = below-out x 0 (omega arith) in omega arith
upto-one x (suc n) = let a = upto-one x n in let b = one-more x n (suc n) (omega arith) in let e = one-turned n x in omega arith

module _ {E : Type 0} where
  upto-times : (own : List (ℕ × E)) (n : ℕ) → upto (λ k. times k own) n ≡ total (λ p. below p.0 n) own
  upto-times [] n = upto-none n
  upto-times (p ∷ own) n = let a = upto-sum (λ k. one k p.0) (λ k. times k own) n in let b = upto-one p.0 n in let e = upto-times own n in omega arith

  all-below : (list : List E) (own : List (ℕ × E)) → Stands list own → total (λ p. below p.0 (length list)) own ≡ length own
  all-below list [] h = refl
  all-below list (p ∷ own) h = let a = below-in p.0 (length list) (slice_get_within list p.0 p.1 (h 0 p (omega arith))) in
      let b = all-below list own (λ k d w. h (suc k) d (omega arith)) in omega arith

  -- as many as the list has
  pub whole-length : (list : List E) (own : List (ℕ × E)) → IsWhole list own → length own ≡ length list
  whole-length list own whole =
      let n = length list in let a = upto-same (λ k. times k own) (λ k. below k n) n whole.0 in
      let b = upto-below n n (omega arith) in let e = upto-times own n in let f = all-below list own whole.1 in omega arith
