-- What follows for the list once one pass has all entries as its own.
use Rattle.std.proofs.Common.{◌≡◌, ℕ, suc, ◌≤◌, List, [], ◌∷◌, length, sym, ap, ◌∙◌, subst, arith, Some}
use Rattle.std.specs.Prelude.{slice_get, All}
use mathlib.Core.Logic.{dite}
use Rattle.std.proofs.lemmas.Option.{slice_get_within}
use native.Mathlib.Decide.{ℕ_discrete}
use Rattle.esb_turns.specs.Views.{times, Stands, IsWhole}
use Rattle.esb_turns.proofs.Sums.{one-other, below-in}

module _ {E : Type 0} (P : ℕ × E → Type 0) where
  -- an entry that is among these at the place k
  found : (own : List (ℕ × E)) (list : List E) (k : ℕ) (e : E) → 1 ≤ times k own → All P own → Stands list own → slice_get list k ≡ Some e → P (k, e)
  found [] list k e some all stands at = absurd (omega arith)
  found (p ∷ own) list k e some all stands at = dite (ℕ_discrete k p.0)
      (λ here.
      let there : slice_get list p.0 ≡ Some p.1 = stands 0 p (omega arith) in
      let both : Some e ≡ Some p.1 = sym at ∙ (ap (slice_get list) here ∙ there) in
      let same : e ≡ p.1 = cc in
      subst P (λ i. (sym here i, sym same i)) (all 0 p (omega arith)))
      (λ other.
      let none = one-other k p.0 other in
      found own list k e (omega arith) (λ j d h. all (suc j) d (omega arith)) (λ j d h. stands (suc j) d (omega arith)) at)

  -- what holds of each own entry and its place holds of each place of the list
  pub whole-all : (own : List (ℕ × E)) (list : List E) → IsWhole list own → All P own → (k : ℕ) (e : E) → slice_get list k ≡ Some e → P (k, e)
  whole-all own list whole all k e at =
      let count = whole.0 k in let inside = below-in k (length list) (slice_get_within list k e at) in
      found own list k e (omega arith) all whole.1 at
