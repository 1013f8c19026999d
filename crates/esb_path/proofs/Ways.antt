-- The way from a folder to a path leads there.
use Rattle.std.proofs.Common.{◌≡◌, ◌≢◌, ℕ, suc, ◌-◌, ◌≤◌, ◌==◌, Bool, true, false, cond, List, [], ◌∷◌, ◌++◌, length, take, drop, map, fold, codes, slice_index, refl, ap, ◌∙◌, arith}
use Rattle.std.specs.List.{AllByRecursion, flat_map, join_with_byte}
use Rattle.std.specs.Str.{bytes_eq}
use Rattle.std.proofs.lemmas.Bool.{ne_eqb}
use Rattle.std.proofs.lemmas.Slice.Eq.{bytes_eq-Decides}
use Rattle.std.proofs.lemmas.List.{take-append-drop, length-drop}
use Rattle.std.proofs.lemmas.List.Sums.{fold-append}
use Rattle.esb_path.specs.Segments.{slash, entered, walked}
use Rattle.esb_path.specs.Paths.{IsName, names_of, absolute, clean_path, joined_path, relative_path, shared_count, way}
use Rattle.esb_path.proofs.Cuts.{segments_behind, join_with_byte-cons}
use Rattle.esb_path.proofs.Walks.{fold-names, fold-ups, entered-empty, all_append, all_drop}
use Rattle.esb_path.proofs.Cleaned.{names_of_names, joined_on}

one_shared : (b : Bool) (n m : ℕ) → n ≤ m → cond b (suc n) 0 ≤ suc m
one_shared true n m h = omega arith
one_shared false n m h = omega arith

pub shared_count-le : (names others : List (List ℕ)) → shared_count names others ≤ length names
shared_count-le [] others = omega arith
shared_count-le (name ∷ names) [] = omega arith
shared_count-le (name ∷ names) (other ∷ others) = one_shared (bytes_eq name other) (shared_count names others) (length names) (shared_count-le names others)

one_same : (b : Bool) (n : ℕ) (name other : List ℕ) (names others : List (List ℕ)) → (b ≡ true → name ≡ other) → take n names ≡ take n others
    → take (cond b (suc n) 0) (name ∷ names) ≡ take (cond b (suc n) 0) (other ∷ others)
one_same true n name other names others same e = let h : name ≡ other = same refl in cc
one_same false n name other names others same e = refl

-- what is shared is the same at both fronts
pub shared_same : (names others : List (List ℕ)) → take (shared_count names others) names ≡ take (shared_count names others) others
shared_same [] others = refl
shared_same (name ∷ names) [] = refl
shared_same (name ∷ names) (other ∷ others) = one_same (bytes_eq name other) (shared_count names others) name other names others (bytes_eq-Decides name other).0 (shared_same names others)

-- the steps of a way lead from the one to the other
fold-way : (folder path : List (List ℕ)) → AllByRecursion IsName path → fold entered folder (way folder path) ≡ path
fold-way folder path are =
    let n = shared_count folder path in
    fold-append entered folder (map (λ _. codes "..") (drop n folder)) (drop n path)
    ∙ ap (λ (t : List (List ℕ)). fold entered t (drop n path)) (fold-ups folder (drop n folder))
    ∙ fold-names (take (length folder - length (drop n folder)) folder) (drop n path) (all_drop IsName n path are)
    ∙ ap (λ k. take k folder ++ drop n path) (omega (arith, length-drop n folder, shared_count-le folder path))
    ∙ ap (λ (t : List (List ℕ)). t ++ drop n path) (shared_same folder path)
    ∙ take-append-drop n path

-- a step of a way: two dots or a name
IsStep : List ℕ → Type 0
IsStep step = AllByRecursion (λ byte. byte ≢ slash) step × (step ≢ [])

ups_are : (away : List (List ℕ)) → AllByRecursion IsStep (map (λ _. codes "..") away)
unfolding IsStep
ups_are [] = tt
ups_are (name ∷ away) = ((((λ e. absurd (omega arith)), ((λ e. absurd (omega arith)), tt)), (λ e. cc)), ups_are away)

names_are : (names : List (List ℕ)) → AllByRecursion IsName names → AllByRecursion IsStep names
unfolding IsStep
names_are [] are = tt
names_are (name ∷ names) are = ((are.0.no_slash, are.0.not_empty), names_are names are.1)

steps_are : (folder path : List (List ℕ)) → AllByRecursion IsName path → AllByRecursion IsStep (way folder path)
steps_are folder path are =
    let n = shared_count folder path in
    all_append IsStep (map (λ _. codes "..") (drop n folder)) (drop n path) (ups_are (drop n folder)) (names_are (drop n path) (all_drop IsName n path are))

no_slash_steps : (steps : List (List ℕ)) → AllByRecursion IsStep steps → AllByRecursion (AllByRecursion (λ byte. byte ≢ slash)) steps
unfolding IsStep
no_slash_steps [] are = tt
no_slash_steps (step ∷ steps) are = (are.0.0, no_slash_steps steps are.1)

walked_steps : (names steps : List (List ℕ)) → AllByRecursion IsStep steps → walked names (join_with_byte slash steps) ≡ fold entered names steps
walked_steps names [] are = entered-empty names
walked_steps names (step ∷ steps) are =
    ap (walked names) (join_with_byte-cons step steps)
    ∙ ap (fold entered names) (segments_behind step steps (no_slash_steps (step ∷ steps) are))

no_front : (step more : List ℕ) → AllByRecursion (λ byte. byte ≢ slash) step → step ≢ [] → (slice_index (step ++ more) 0 == slash) ≡ false
no_front [] more no_slash some = absurd (some refl)
no_front (x ∷ step) more no_slash some = ne_eqb x slash no_slash.0

no_slash_front : (steps : List (List ℕ)) → AllByRecursion IsStep steps → (slice_index (join_with_byte slash steps) 0 == slash) ≡ false
unfolding IsStep
no_slash_front [] are = refl
no_slash_front (step ∷ steps) are =
    ap (λ (t : List ℕ). slice_index t 0 == slash) (join_with_byte-cons step steps)
    ∙ no_front step (flat_map (λ segment. slash ∷ segment) steps) are.0.0 are.0.1

pub leads : (folder path : List ℕ) → joined_path folder (relative_path folder path) ≡ clean_path path
unfolding relative_path clean_path
leads folder path =
    let steps = way (names_of folder) (names_of path) in
    let are = steps_are (names_of folder) (names_of path) (names_of_names path) in
    joined_on folder (join_with_byte slash steps) (no_slash_front steps are)
    ∙ ap absolute (walked_steps (names_of folder) steps are ∙ fold-way (names_of folder) (names_of path) (names_of_names path))
