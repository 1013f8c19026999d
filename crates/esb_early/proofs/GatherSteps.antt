-- Steps of the walk that gathers names, one after another.
use Rattle.std.proofs.Common.{◌≡◌, ℕ, ◌+◌, ◌<◌, ◌≤◌, length, drop, get_or, List, [], ◌∷◌, ◌++◌, sym, ap, ◌∙◌, subst}
use Rattle.std.proofs.lemmas.List.{append-nil, append_assoc, drop_all}
use Rattle.esb_token.specs.declared.token.Token.{Token}
use Rattle.esb_early.specs.declared.gathered.Names.{Names}
use Rattle.esb_early.specs.Gathered.{Gathers}
use Rattle.esb_early_checks.proofs.Steps.{drop_next}

pub gathers_none : (a : Names) → Gathers [] a a
unfolding Gathers
gathers_none a fine = (fine, sym (append-nil a.list))

pub gathers_both : (xs ys : List Token) (a b c : Names) → Gathers xs a b → Gathers ys b c → Gathers (xs ++ ys) a c
unfolding Gathers
gathers_both xs ys a b c first second fine =
    let s = second fine in
    let p = first s.0 in
    (p.0, s.1 ∙ ap (λ list. list ++ ys) p.1 ∙ append_assoc a.list xs ys)

pub gathers_is : (xs ys : List Token) (a b : Names) → ys ≡ xs → Gathers xs a b → Gathers ys a b
gathers_is xs ys a b same gathers = subst (λ zs. Gathers zs a b) (sym same) gathers

-- what was gathered of a value that is the same
pub gathers_of : {A : Type 0} (f : A → List Token) (x y : A) (a b : Names) → y ≡ x → Gathers (f y) a b → Gathers (f x) a b
gathers_of f x y a b same gathers = subst (λ z. Gathers (f z) a b) same gathers

-- a turn of a loop over parts
pub gathers_next : {A : Type 0} (f : A → List Token) (total : List A → List Token) (xs : List A) (i : ℕ) (x : A) (a b c d : Names)
    → ((y : A) (ys : List A) → total (y ∷ ys) ≡ f y ++ total ys)
    → i < length xs → x ≡ get_or xs i x → (Gathers (total (drop i xs)) b d → Gathers (total xs) a d)
    → Gathers (f x) b c → Gathers (total (drop (i + 1) xs)) c d → Gathers (total xs) a d
gathers_next f total xs i x a b c d unfolds within is before step rest =
    before (gathers_is (f x ++ total (drop (i + 1) xs)) (total (drop i xs)) b d (ap total (drop_next xs i x within is) ∙ unfolds x (drop (i + 1) xs)) (gathers_both (f x) (total (drop (i + 1) xs)) b c d step rest))

-- and its end
pub gathers_end : {A : Type 0} (total : List A → List Token) (xs : List A) (i : ℕ) (a b : Names)
    → total [] ≡ [] → length xs ≤ i → (Gathers (total (drop i xs)) b b → Gathers (total xs) a b) → Gathers (total xs) a b
gathers_end total xs i a b none ended before = before (gathers_is [] (total (drop i xs)) b b (ap total (drop_all i xs ended) ∙ none) (gathers_none b))
