-- The entries of a map as a list of contexts.
use Rattle.std.proofs.Common.{◌≡◌, ℕ, Bool, true, false, cond, not, List, [], ◌∷◌, ◌++◌, None, Some, refl, sym, ap, ◌∙◌, nat_eq, eqb-true}
use Rattle.std.specs.Map.{lookup, keys_of, remove_entry}
use Rattle.std.specs.List.{IsDistinct, AllByRecursion}
use Rattle.indexmap.specs.IndexMap.{insert_entry}
use Rattle.esb_core.specs.Steps.{without}
use Rattle.esb_core.proofs.Lookups.{not_none}

-- a new key goes last
pub inserted : {X : Type 0} (key : ℕ) (x : X) (xs : List (ℕ × X)) → lookup (nat_eq key) xs ≡ None → insert_entry nat_eq xs key x ≡ xs ++ (key, x) ∷ []
inserted key x [] none = refl
inserted key x (e ∷ xs) none = by (nat_eq key e.0) none (inserted key x xs)
  where
    by : (t : Bool) → cond t (Some e.1) (lookup (nat_eq key) xs) ≡ None → (lookup (nat_eq key) xs ≡ None → insert_entry nat_eq xs key x ≡ xs ++ (key, x) ∷ [])
        → cond t ((e.0, x) ∷ xs) (e ∷ insert_entry nat_eq xs key x) ≡ e ∷ (xs ++ (key, x) ∷ [])
    by true is rec = not_none e.1 is
    by false is rec = ap (λ ys. e ∷ ys) (rec is)

module _ {X : Type 0} (key : ℕ) where
  -- where no key is this one, nothing goes
  nothing-goes : (k : ℕ) (xs : List (ℕ × X)) → key ≡ k → AllByRecursion (λ other. nat_eq k other ≡ false) (keys_of xs) → without key xs ≡ xs
  nothing-goes k [] same all = refl
  nothing-goes k (e ∷ xs) same all =
      ap (λ t. cond (not t) (e ∷ without key xs) (without key xs)) (ap (λ (j : ℕ). nat_eq j e.0) same ∙ all.0) ∙ ap (λ (ys : List (ℕ × X)). e ∷ ys) (nothing-goes k xs same all.1)

  -- a key that stands once goes
  pub removed : (xs : List (ℕ × X)) → IsDistinct nat_eq (keys_of xs) → remove_entry (nat_eq key) xs ≡ without key xs
  unfolding IsDistinct
  removed [] d = refl
  removed (e ∷ xs) d = by (nat_eq key e.0) refl (removed xs d.1)
    where
      by : (t : Bool) → nat_eq key e.0 ≡ t → remove_entry (nat_eq key) xs ≡ without key xs → cond t xs (e ∷ remove_entry (nat_eq key) xs) ≡ cond (not t) (e ∷ without key xs) (without key xs)
      by true is rec = sym (nothing-goes e.0 xs (eqb-true key e.0 is) d.0)
      by false is rec = ap (λ (ys : List (ℕ × X)). e ∷ ys) rec
