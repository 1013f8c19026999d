-- Steps of the walk one after another.
use Rattle.std.proofs.Common.{◌≡◌, ℕ, suc, ◌+◌, ◌-◌, ◌<◌, ◌≤◌, Bool, true, false, ◌&&◌, ◌==◌, length, map, drop, get_or, List, [], ◌∷◌, ◌++◌, Option, false, refl, sym, ap, ◌∙◌, subst, arith}
use Rattle.std.proofs.lemmas.Bool.{ne_eqb}
use Rattle.std.proofs.lemmas.List.{drop_more, drop_all}
use Rattle.std.proofs.Math.Path.{ap₂}
use Rattle.esb_grammar.specs.Forms.{is_empty}
use Rattle.esb_early_checks.specs.declared.breach.Breach.{Breach}
use Rattle.esb_early_checks.specs.declared.found.Found.{Found}
use Rattle.esb_early_checks.specs.declared.label.Label.{Label}
use Rattle.esb_early_checks.specs.Findings.{Finding, Finds, Enters, Leaves, first_of, earlier, SetsAside, PutsBack, together, behind, unlabelled}

first_of-append : (best : Option Breach) (xs ys : List Breach) → first_of best (xs ++ ys) ≡ first_of (first_of best xs) ys
first_of-append best [] ys = refl
first_of-append best (x ∷ xs) ys = first_of-append (earlier best x) xs ys

pub finds_nothing : (a : Found) → Finds (λ labels. []) a a
unfolding Finds
finds_nothing a fine = (fine, refl, refl)

pub finds_none : (a : Found) → Finds (together []) a a
unfolding Finds together
finds_none a fine = (fine, refl, refl)

pub finds_both : (f g : Finding) (a b c : Found) → Finds f a b → Finds g b c → Finds (λ labels. f labels ++ g labels) a c
unfolding Finds
finds_both f g a b c first second fine =
    let s = second fine in
    let p = first s.0 in
    (p.0, s.1 ∙ p.1, s.2 ∙ ap (λ labels. first_of b.first (g labels)) p.1 ∙ ap (λ best. first_of best (g a.labels)) p.2 ∙ sym (first_of-append a.first (f a.labels) (g a.labels)))

pub finds_then : (f : Finding) (fs : List Finding) (a b c : Found) → Finds f a b → Finds (together fs) b c → Finds (together (f ∷ fs)) a c
unfolding together
finds_then f fs a b c first second = finds_both f (together fs) a b c first second

pub finds_is : (f g : Finding) (a b : Found) → g ≡ f → Finds f a b → Finds g a b
finds_is f g a b same finds = subst (λ h. Finds h a b) (sym same) finds

-- where the labels are those before
pub finds_here : (f g : Finding) (a b : Found) → g a.labels ≡ f a.labels → Finds f a b → Finds g a b
unfolding Finds
finds_here f g a b same finds fine =
    let p = finds fine in
    (p.0, p.1, p.2 ∙ ap (first_of a.first) (sym same))

-- what was found in a value that is the same
pub finds_of : {A : Type 0} (f : A → Finding) (x y : A) (a b : Found) → y ≡ x → Finds (f y) a b → Finds (f x) a b
finds_of f x y a b same finds = subst (λ z. Finds (f z) a b) same finds

pub finds_of_two : {A B : Type 0} (f : A → B → Finding) (x y : A) (u v : B) (a b : Found) → y ≡ x → v ≡ u → Finds (f y v) a b → Finds (f x u) a b
finds_of_two f x y u v a b same other finds = finds_of (λ z. f z u) x y a b same (finds_of (f y) u v a b other finds)

pub finds_behind : (label : Label) (f : Finding) (a b c d : Found) → Enters label a b → Finds f b c → Leaves c d → Finds (behind label f) a d
unfolding Finds Enters Leaves
finds_behind label f a b c d enters finds leaves fine =
    let p = finds (sym leaves.0 ∙ fine) in
    let q = enters p.0 in
    (q.0, leaves.2 a.labels label (p.1 ∙ q.1), leaves.1 ∙ p.2 ∙ ap (λ best. first_of best (f b.labels)) q.2 ∙ ap (λ labels. first_of a.first (f labels)) q.1)

-- ---- a turn of a loop over parts: what is found in the rest of them is found in all

pub drop_next : {A : Type 0} (xs : List A) (i : ℕ) (x : A) → i < length xs → x ≡ get_or xs i x → drop i xs ≡ x ∷ drop (i + 1) xs
drop_next xs i x within is = drop_more xs i x within ∙ ap (λ y. y ∷ drop (i + 1) xs) (sym is)

pub finds_next : {A : Type 0} (f : A → Finding) (total : List A → Finding) (xs : List A) (i : ℕ) (x : A) (a b c d : Found)
    → ((y : A) (ys : List A) → total (y ∷ ys) ≡ (λ labels. f y labels ++ total ys labels))
    → i < length xs → x ≡ get_or xs i x → (Finds (total (drop i xs)) b d → Finds (total xs) a d)
    → Finds (f x) b c → Finds (total (drop (i + 1) xs)) c d → Finds (total xs) a d
finds_next f total xs i x a b c d unfolds within is before step rest =
    before (finds_is (λ labels. f x labels ++ total (drop (i + 1) xs) labels) (total (drop i xs)) b d (ap total (drop_next xs i x within is) ∙ unfolds x (drop (i + 1) xs)) (finds_both (f x) (total (drop (i + 1) xs)) b c d step rest))

-- and at its end
pub finds_end : {A : Type 0} (total : List A → Finding) (xs : List A) (i : ℕ) (a b : Found)
    → total [] ≡ (λ labels. []) → length xs ≤ i → (Finds (total (drop i xs)) b b → Finds (total xs) a b) → Finds (total xs) a b
finds_end total xs i a b none ended before = before (finds_is (λ labels. []) (total (drop i xs)) b b (ap total (drop_all i xs ended) ∙ none) (finds_nothing b))

-- the labels were set aside and are there again
pub finds_unlabelled : (f : Finding) (a b c d : Found) (outer : List Label) → SetsAside outer a b → Finds f b c → PutsBack outer c d → Finds (unlabelled f) a d
unfolding Finds SetsAside PutsBack
finds_unlabelled f a b c d outer aside finds back fine =
    let p = finds (sym back.0 ∙ fine) in
    (sym aside.0 ∙ p.0, back.2 ∙ aside.3, back.1 ∙ p.2 ∙ ap (λ best. first_of best (f b.labels)) aside.1 ∙ ap (λ labels. first_of a.first (f labels)) aside.2)

pub finds_of_three : {A B C : Type 0} (f : A → B → C → Finding) (x y : A) (u v : B) (p q : C) (a b : Found) → y ≡ x → v ≡ u → q ≡ p → Finds (f y v q) a b → Finds (f x u p) a b
finds_of_three f x y u v p q a b same other third finds = finds_of (λ z. f z u p) x y a b same (finds_of_two (f y) u v p q a b other third finds)

-- the same, where the part is told its place
pub finds_next_place : {A P : Type 0} (f : A → P → Finding) (total : List A → Finding) (xs : List A) (i : ℕ) (x : A) (p q : P) (a b c d : Found)
    → total (x ∷ drop (i + 1) xs) ≡ (λ labels. f x p labels ++ total (drop (i + 1) xs) labels) → q ≡ p
    → i < length xs → x ≡ get_or xs i x → (Finds (total (drop i xs)) b d → Finds (total xs) a d)
    → Finds (f x q) b c → Finds (total (drop (i + 1) xs)) c d → Finds (total xs) a d
finds_next_place f total xs i x p q a b c d unfolds same within is before step rest =
    before (finds_is (λ labels. f x p labels ++ total (drop (i + 1) xs) labels) (total (drop i xs)) b d (ap total (drop_next xs i x within is) ∙ unfolds) (finds_both (f x p) (total (drop (i + 1) xs)) b c d (finds_of (f x) p q b c same step) rest))

pub alike_three : {A B C D : Type 0} (f : A → B → C → D) {x y : A} {u v : B} {p q : C} → x ≡ y → u ≡ v → p ≡ q → f x u p ≡ f y v q
alike_three f {x} {y} {u} {v} {p} {q} same other third = ap (λ z. f z u p) same ∙ ap₂ (f y) other third

pub mapped_empty : {A B : Type 0} (f : A → B) (xs : List A) → is_empty (map f xs) ≡ is_empty xs
mapped_empty f [] = refl
mapped_empty f (x ∷ xs) = refl

pub no_length : {A B : Type 0} (f : A → B) (xs : List A) → (length xs == 0) ≡ is_empty (map f xs)
no_length f [] = refl
no_length f (x ∷ xs) = ne_eqb (length (x ∷ xs)) 0 (λ same. absurd (omega (arith, same)))

pub one_less : (a b : ℕ) → a ≡ suc b → a - 1 ≡ b
one_less a b same = omega (arith, same)

pub plain_next : (before this rest after all : Bool) → after ≡ before && this → before && (this && rest) ≡ all → after && rest ≡ all
plain_next true this rest after all is whole = ap (λ b. b && rest) is ∙ whole
plain_next false this rest after all is whole = ap (λ b. b && rest) is ∙ whole

pub plain_end : (p all : Bool) → p && true ≡ all → p ≡ all
plain_end true all whole = whole
plain_end false all whole = whole
