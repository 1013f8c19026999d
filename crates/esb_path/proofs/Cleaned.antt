-- Cleaned paths are clean, and clean paths stay.
use Rattle.std.proofs.Common.{◌≡◌, ◌≢◌, ℕ, ◌-◌, ◌==◌, false, List, [], ◌∷◌, length, take, fold, codes, slice_index, refl, sym, ap, ◌∙◌}
use Rattle.std.specs.List.{AllByRecursion}
use Rattle.esb_path.specs.Segments.{slash, segments, entered, walked}
use Rattle.esb_path.specs.Paths.{IsName, IsClean, names_of, absolute, clean_path, joined_path, parent_path}
use Rattle.esb_path.proofs.Cuts.{segments_behind, no_slashes}
use Rattle.esb_path.proofs.Walks.{fold-names, fold_names, walked-append, entered-empty, entered-up, all_take}

slashes : (names : List (List ℕ)) → AllByRecursion IsName names → AllByRecursion (AllByRecursion (λ byte. byte ≢ slash)) names
slashes [] are = tt
slashes (name ∷ names) are = (are.0.no_slash, slashes names are.1)

-- the names of the path from the root by names are these
pub names_of-absolute : (names : List (List ℕ)) → AllByRecursion IsName names → names_of (absolute names) ≡ names
names_of-absolute [] are = ap (λ (t : List (List ℕ)). entered t []) (entered-empty []) ∙ entered-empty []
names_of-absolute (name ∷ names) are =
    ap (λ (t : List (List ℕ)). fold entered [] ([] ∷ t)) (segments_behind name names (slashes (name ∷ names) are))
    ∙ ap (λ (t : List (List ℕ)). fold entered t (name ∷ names)) (entered-empty [])
    ∙ fold-names [] (name ∷ names) are

pub names_of_names : (path : List ℕ) → AllByRecursion IsName (names_of path)
names_of_names path = fold_names [] (segments path) (no_slashes path) tt

pub cleaned : (path : List ℕ) → IsClean (clean_path path)
unfolding clean_path
cleaned path = record { names = names_of path; are_names = names_of_names path; spelled = refl }

pub kept : (path : List ℕ) → IsClean path → clean_path path ≡ path
unfolding clean_path
kept path clean = ap (λ (t : List ℕ). absolute (names_of t)) clean.spelled ∙ ap absolute (names_of-absolute clean.names clean.are_names) ∙ sym clean.spelled

pub again : (path : List ℕ) → clean_path (clean_path path) ≡ clean_path path
again path = kept (clean_path path) (cleaned path)

-- where the rest has no slash at its front, it leads on from the folder
pub joined_on : (folder rest : List ℕ) → (slice_index rest 0 == slash) ≡ false → joined_path folder rest ≡ absolute (walked (names_of folder) rest)
unfolding joined_path clean_path
joined_on folder rest no_slash = rw no_slash (ap absolute (walked-append [] folder rest))

pub up : (path : List ℕ) → parent_path path ≡ joined_path path (codes "..")
unfolding parent_path
up path = ap absolute (sym (entered-up (names_of path))) ∙ sym (joined_on path (codes "..") refl)

pub parent_cleaned : (path : List ℕ) → IsClean (parent_path path)
unfolding parent_path
parent_cleaned path = record { names = take (length (names_of path) - 1) (names_of path); are_names = all_take IsName (length (names_of path) - 1) (names_of path) (names_of_names path); spelled = refl }
