-- Builds that haven't begun.
use Rattle.std.proofs.Common.{◌≡◌, ℕ, zero, suc, ◌≤◌, List, [], ◌∷◌, length, refl, arith}
use Rattle.esb_core.specs.State.{Building, build_at, no_build}

-- what is asked of a build past the last is what is asked of none
pub past-end : {X : Type 0} (bs : List Building) (n : ℕ) (f : Building → X) → length bs ≤ n → f (build_at bs n) ≡ f no_build
past-end [] n f over = refl
past-end (b ∷ bs) zero f over = absurd (omega (arith, over))
past-end (b ∷ bs) (suc n) f over = past-end bs n f (omega (arith, over))
