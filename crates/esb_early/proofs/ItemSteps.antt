-- Steps of the walk over items, and its end.
use Rattle.std.proofs.Common.{◌≡◌, ℕ, ◌+◌, ◌<◌, length, drop, get_or, List, [], ◌∷◌, ◌++◌, None, false, ap, ◌∙◌}
use Rattle.std.proofs.lemmas.List.{drop_more}
use Rattle.esb_early_checks.specs.declared.found.Found.{Found}
use Rattle.esb_early_checks.specs.Findings.{Finding, Finds, first_of}
use Rattle.esb_early_checks.proofs.Steps.{finds_is, finds_both}

-- a turn of a loop that reads its item by its place
pub finds_next_at : {A : Type 0} (f : A → Finding) (total : List A → Finding) (xs : List A) (i : ℕ) (x : A) (a b c d : Found)
    → ((y : A) (ys : List A) → total (y ∷ ys) ≡ (λ labels. f y labels ++ total ys labels))
    → i < length xs → (Finds (total (drop i xs)) b d → Finds (total xs) a d)
    → Finds (f (get_or xs i x)) b c → Finds (total (drop (i + 1) xs)) c d → Finds (total xs) a d
finds_next_at f total xs i x a b c d unfolds within before step rest =
    let y = get_or xs i x in
    before (finds_is (λ labels. f y labels ++ total (drop (i + 1) xs) labels) (total (drop i xs)) b d (ap total (drop_more xs i x within) ∙ unfolds y (drop (i + 1) xs)) (finds_both (f y) (total (drop (i + 1) xs)) b c d step rest))

-- what was found, where it began with none
pub all_found : (f : Finding) (a b : Found) → a.first ≡ None → a.labels ≡ [] → Finds f a b → b.refused ≡ false → b.first ≡ first_of None (f [])
unfolding Finds
all_found f a b none unlabelled finds fine = (finds fine).2 ∙ ap (λ best. first_of best (f a.labels)) none ∙ ap (λ labels. first_of None (f labels)) unlabelled
