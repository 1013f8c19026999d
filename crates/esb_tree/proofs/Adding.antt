-- Steps one after another.
use Rattle.std.proofs.Common.{◌≡◌, ℕ, ◌+◌, ◌<◌, ◌≤◌, length, take, get_or, suc, List, [], ◌∷◌, ◌++◌, false, refl, sym, ap, ◌∙◌, subst, arith}
use Rattle.std.specs.List.{flat_map}
use Rattle.std.proofs.Math.Seq.{take-suc}
use Rattle.std.proofs.lemmas.Grind.{flat_map-append}
use Rattle.std.proofs.lemmas.List.{append_assoc, append-nil, take_all}
use Rattle.esb_tree.specs.declared.gathered.Gathered.{Gathered}
use Rattle.esb_tree.specs.Gathered.{Adds}
use Rattle.esb_tree.specs.Yields.{Tokens}

pub adds_none : (a : Gathered) → Adds [] a a
unfolding Adds
adds_none a fine = (fine, sym (append-nil a.tokens))

pub adds_then : (xs ys : Tokens) (a b c : Gathered) → Adds xs a b → Adds ys b c → Adds (xs ++ ys) a c
unfolding Adds
adds_then xs ys a b c first second fine =
    let f = first (second fine).0 in
    (f.0, (second fine).1 ∙ ap (λ ts. ts ++ ys) f.1 ∙ append_assoc a.tokens xs ys)

pub adds_is : (xs ys : Tokens) (a b : Gathered) → Adds xs a b → ys ≡ xs → Adds ys a b
adds_is xs ys a b adds same = subst (λ ts. Adds ts a b) (sym same) adds

-- what was added of a value that is the same
pub adds_of : {A : Type 0} (f : A → Tokens) (x y : A) (a b : Gathered) → y ≡ x → Adds (f y) a b → Adds (f x) a b
adds_of f x y a b same adds = subst (λ z. Adds (f z) a b) same adds

next : {A : Type 0} (f : A → Tokens) (xs : List A) (i : ℕ) (x : A) → i < length xs → x ≡ get_or xs i x → flat_map f (take (suc i) xs) ≡ flat_map f (take i xs) ++ f x
next f xs i x within is =
    ap (flat_map f) (take-suc xs i x within) ∙ flat_map-append f (take i xs) (get_or xs i x ∷ [])
    ∙ ap (λ ts. flat_map f (take i xs) ++ ts) (append-nil (f (get_or xs i x)) ∙ ap f (sym is))

one_more : (i : ℕ) → i + 1 ≡ suc i
one_more i = omega arith

-- a turn of a loop over nodes
pub adds_next : {A : Type 0} (f : A → Tokens) (xs : List A) (i : ℕ) (x : A) (a b c : Gathered)
    → i < length xs → x ≡ get_or xs i x → Adds (flat_map f (take i xs)) a b → Adds (f x) b c → Adds (flat_map f (take (i + 1) xs)) a c
adds_next f xs i x a b c within is before adds =
    adds_is _ _ a c (adds_then (flat_map f (take i xs)) (f x) a b c before adds) (ap (λ n. flat_map f (take n xs)) (one_more i) ∙ next f xs i x within is)

-- and its end
pub adds_all : {A : Type 0} (f : A → Tokens) (xs : List A) (i : ℕ) (a b : Gathered)
    → length xs ≤ i → Adds (flat_map f (take i xs)) a b → Adds (flat_map f xs) a b
adds_all f xs i a b ended adds = adds_of (flat_map f) xs (take i xs) a b (take_all i xs ended) adds

-- the same, where a turn reads the node by its place
pub adds_next_at : {A : Type 0} (f : A → Tokens) (xs : List A) (i : ℕ) (d : A) (a b c : Gathered)
    → i < length xs → Adds (flat_map f (take i xs)) a b → Adds (f (get_or xs i d)) b c → Adds (flat_map f (take (i + 1) xs)) a c
adds_next_at f xs i d a b c within before adds =
    adds_is _ _ a c (adds_then (flat_map f (take i xs)) (f (get_or xs i d)) a b c before adds)
    (ap (λ n. flat_map f (take n xs)) (one_more i) ∙ ap (flat_map f) (take-suc xs i d within) ∙ flat_map-append f (take i xs) (get_or xs i d ∷ [])
    ∙ ap (λ ts. flat_map f (take i xs) ++ ts) (append-nil (f (get_or xs i d))))

-- what stands there, where it began with none
pub all_added : (ts : Tokens) (a b : Gathered) → a.tokens ≡ [] → Adds ts a b → b.refused ≡ false → b.tokens ≡ ts
unfolding Adds
all_added ts a b none adds fine = (adds fine).1 ∙ ap (λ xs. xs ++ ts) none
