-- Turns of the loops that append: what stands so far, with what is still to come, stays the same.
use Rattle.std.proofs.Common.{◌≡◌, ℕ, suc, ◌+◌, ◌<◌, ◌≤◌, List, [], ◌∷◌, ◌++◌, Option, Some, length, take, drop, get_or, refl, sym, ap, ◌∙◌, arith, append_assoc, append-nil, drop-cons}
use Rattle.std.proofs.lemmas.List.{take_at, drop_all}
use Rattle.std.specs.List.{flat_map}
use Rattle.esb_token.specs.declared.kind.Kind.{Kind}
use Rattle.esb_token.specs.declared.token.Token.{Token}
use Rattle.esb_print.specs.Lines.{spelling, gap, rest_of_line}

-- more of it at the end
abbrev pub Grown : List ℕ → List ℕ → Type 0
Grown old new = (more : List ℕ) × (new ≡ old ++ more)

pub grown_none : (old : List ℕ) → Grown old old
grown_none old = ([], sym (append-nil old))

pub grown_more : (old mid new more : List ℕ) → Grown old mid → new ≡ mid ++ more → Grown old new
grown_more old mid new more g e = (g.0 ++ more, e ∙ ap (λ x. x ++ more) g.1 ∙ append_assoc old g.0 more)

-- what was there is there again
pub cut_back : (old new : List ℕ) → Grown old new → take (length old) new ≡ old
cut_back old new g = ap (take (length old)) g.1 ∙ take_at old g.0 (length old) refl

suc_of : {X : Type 0} (xs : List X) (i : ℕ) → drop (suc i) xs ≡ drop (i + 1) xs
suc_of xs i = let e : suc i ≡ i + 1 = omega arith in ap (λ n. drop n xs) e

pub next_token : (contents : List ℕ) (last : Option Kind) (tokens : List Token) (i : ℕ) (d : Token) (out a b all : List ℕ)
    → i < length tokens → a ≡ out ++ gap last (get_or tokens i d).kind → b ≡ a ++ spelling contents (get_or tokens i d)
    → out ++ rest_of_line contents last (drop i tokens) ≡ all → b ++ rest_of_line contents (Some (get_or tokens i d).kind) (drop (i + 1) tokens) ≡ all
next_token contents last tokens i d out a b all within gapped spelled sofar =
    let t = get_or tokens i d in
    let later = rest_of_line contents (Some t.kind) (drop (i + 1) tokens) in
    let here : drop i tokens ≡ t ∷ drop (i + 1) tokens = drop-cons tokens i d within ∙ ap (λ ts. t ∷ ts) (suc_of tokens i) in
    ap (λ x. x ++ later) (spelled ∙ ap (λ x. x ++ spelling contents t) gapped) ∙ append_assoc (out ++ gap last t.kind) (spelling contents t) later
    ∙ append_assoc out (gap last t.kind) (spelling contents t ++ later) ∙ ap (λ x. out ++ rest_of_line contents last x) (sym here) ∙ sofar

pub last_token : (contents : List ℕ) (last : Option Kind) (tokens : List Token) (i : ℕ) (out all : List ℕ)
    → length tokens ≤ i → out ++ rest_of_line contents last (drop i tokens) ≡ all → out ++ 10 ∷ [] ≡ all
last_token contents last tokens i out all ended sofar = ap (λ x. out ++ rest_of_line contents last x) (sym (drop_all i tokens ended)) ∙ sofar

pub next_line : (f : List Token → List ℕ) (lines : List (List Token)) (i : ℕ) (x : List Token) (out new all : List ℕ)
    → i < length lines → x ≡ get_or lines i x → new ≡ out ++ f x → out ++ flat_map f (drop i lines) ≡ all → new ++ flat_map f (drop (i + 1) lines) ≡ all
next_line f lines i x out new all within is printed sofar =
    let here : drop i lines ≡ x ∷ drop (i + 1) lines = drop-cons lines i x within ∙ ap (λ y. y ∷ drop (suc i) lines) (sym is) ∙ ap (λ ys. x ∷ ys) (suc_of lines i) in
    ap (λ y. y ++ flat_map f (drop (i + 1) lines)) printed ∙ append_assoc out (f x) (flat_map f (drop (i + 1) lines)) ∙ ap (λ y. out ++ flat_map f y) (sym here) ∙ sofar

pub last_line : (f : List Token → List ℕ) (lines : List (List Token)) (i : ℕ) (out all : List ℕ) → length lines ≤ i → out ++ flat_map f (drop i lines) ≡ all → out ≡ all
last_line f lines i out all ended sofar = sym (append-nil out) ∙ ap (λ y. out ++ flat_map f y) (sym (drop_all i lines ended)) ∙ sofar
