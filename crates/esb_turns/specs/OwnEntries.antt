-- What a caller's calls do to what it has seen of the list and to its own entries, and facts on own entries.
use Rattle.std.specs.Prelude.{◌≡◌, ℕ, suc, ◌≤◌, List, [], ◌∷◌, ◌++◌, length, All, Some, take, slice_get}
use mathlib.Core.List.{IsPrefix}

module _ {E : Type 0} where
  -- The caller made this entry, which stands last in what it has then seen, and the fact holds of the list before the entry
  pub record Made (entry : E) (fact : List E → Type 0) (seen : List E) (own : List (ℕ × E)) (seen' : List E) (own' : List (ℕ × E)) : Type 0 where
    pub before : List E
    pub grew : IsPrefix seen before
    pub now : seen' ≡ before ++ entry ∷ []
    pub owned : own' ≡ own ++ (length before, entry) ∷ []
    pub told : fact before

  -- The caller made no entry, and may have seen more
  pub record Stayed (seen : List E) (own : List (ℕ × E)) (seen' : List E) (own' : List (ℕ × E)) : Type 0 where
    pub grew : IsPrefix seen seen'
    pub owned : own' ≡ own

  -- The fact holds of each of these entries, with the list before it. No later entry changes that list
  pub record EachOwn (fact : List E → E → Type 0) (seen : List E) (own : List (ℕ × E)) : Type 0 where
    pub each : All (λ p. fact (take p.0 seen) p.1) own

  -- the fact holds of each entry of the list, with those before it
  pub record EachIn (fact : List E → E → Type 0) (list : List E) : Type 0 where
    pub each : (k : ℕ) (entry : E) → slice_get list k ≡ Some entry → fact (take k list) entry

  -- the places go up, from this one on
  abbrev pub AscendsFrom : ℕ → List (ℕ × E) → Type 0
  AscendsFrom n [] = Unit {0}
  AscendsFrom n (p ∷ ps) = (n ≤ p.0) × AscendsFrom (suc p.0) ps

  module _ {X : Type 0} (f : List E → E → List X) where
    -- what each entry of the list gives, with those before it, one after the other
    abbrev pub gathered : List E → List E → List X
    gathered before [] = []
    gathered before (e ∷ es) = f before e ++ gathered (before ++ e ∷ []) es

    -- what each of these own entries gives, with those before it in the list
    abbrev pub gathered_own : List E → List (ℕ × E) → List X
    gathered_own list [] = []
    gathered_own list (p ∷ ps) = f (take p.0 list) p.1 ++ gathered_own list ps
