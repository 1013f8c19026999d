-- Turns of the loop that prints a tree: what stands so far, with the lines that are still to come, stays the same.
use Rattle.std.proofs.Common.{◌≡◌, ℕ, suc, ◌+◌, ◌<◌, ◌≤◌, List, [], ◌∷◌, ◌++◌, length, drop, get_or, map, refl, sym, ap, ◌∙◌, arith, append_assoc, append-nil, drop-cons}
use Rattle.std.proofs.lemmas.List.{drop_all}
use Rattle.std.specs.List.{flat_map}
use Rattle.esb_tree.specs.declared.modules.ModuleItem.{ModuleItem}
use Rattle.esb_tree.specs.Modules.{tokens_of_item}
use Rattle.esb_tree.specs.Trees.{completed}
use Rattle.esb_print.specs.Lines.{line, text_of}

-- the line of an item
abbrev pub line_of : List ℕ → ModuleItem → List ℕ
line_of contents x = line contents (tokens_of_item completed x)

suc_of : {X : Type 0} (xs : List X) (i : ℕ) → drop (suc i) xs ≡ drop (i + 1) xs
suc_of xs i = let e : suc i ≡ i + 1 = omega arith in ap (λ n. drop n xs) e

pub next_item : (f : ModuleItem → List ℕ) (items : List ModuleItem) (i : ℕ) (x : ModuleItem) (out new all : List ℕ)
    → i < length items → x ≡ get_or items i x → new ≡ out ++ f x → out ++ flat_map f (drop i items) ≡ all → new ++ flat_map f (drop (i + 1) items) ≡ all
next_item f items i x out new all within is printed sofar =
    let here : drop i items ≡ x ∷ drop (i + 1) items = drop-cons items i x within ∙ ap (λ y. y ∷ drop (suc i) items) (sym is) ∙ ap (λ ys. x ∷ ys) (suc_of items i) in
    ap (λ y. y ++ flat_map f (drop (i + 1) items)) printed ∙ append_assoc out (f x) (flat_map f (drop (i + 1) items)) ∙ ap (λ y. out ++ flat_map f y) (sym here) ∙ sofar

pub last_item : (f : ModuleItem → List ℕ) (items : List ModuleItem) (i : ℕ) (out all : List ℕ) → length items ≤ i → out ++ flat_map f (drop i items) ≡ all → out ≡ all
last_item f items i out all ended sofar = sym (append-nil out) ∙ ap (λ y. out ++ flat_map f y) (sym (drop_all i items ended)) ∙ sofar

-- the lines of the items, each of its own tokens
lines_are : (contents : List ℕ) (items : List ModuleItem) → flat_map (line_of contents) items ≡ flat_map (line contents) (map (tokens_of_item completed) items)
lines_are contents [] = refl
lines_are contents (x ∷ xs) = ap (λ ys. line_of contents x ++ ys) (lines_are contents xs)

pub text_is : (contents : List ℕ) (items : List ModuleItem) → flat_map (line_of contents) items ≡ text_of contents (map (tokens_of_item completed) items)
unfolding text_of
text_is contents items = lines_are contents items
