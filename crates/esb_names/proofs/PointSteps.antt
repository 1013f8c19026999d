-- The code points of a name, the first and the others.
use Rattle.std.proofs.Common.{◌≡◌, ◌≢◌, ℕ, zero, suc, ◌+◌, ◌-◌, ◌<◌, ◌≤◌, false, ◌&&◌, List, [], ◌∷◌, ◌++◌, length, drop, inl, inr, refl, sym, ap, ◌∙◌, arith, drop-drop, length-drop}
use Rattle.std.specs.Prelude.{nat_eq, nat_le}
use Rattle.std.specs.Cmp.Lexicographic.{pointwise}
use Rattle.std.proofs.lemmas.Bool.{eq-eqb, ne_eqb, le-leb, lt-leb}
use Rattle.std.proofs.lemmas.Bool.Decides.{leb_tells}
use Rattle.std.proofs.lemmas.List.{append-nil, append_assoc, drop_all}
use Rattle.esb_names.specs.Names.{first_point, first_length, points_behind}

points_inside : (inside : ℕ) (name : List ℕ) → inside ≤ length name → points_behind inside name ≡ points_behind 0 (drop inside name)
points_inside zero name h = refl
points_inside (suc inside) [] h = absurd (omega arith)
points_inside (suc inside) (b ∷ rest) h = points_inside inside rest (omega arith)

first_points : (p b : ℕ) (rest : List ℕ) (n : ℕ) → 0 < n → n ≤ length (b ∷ rest) → p ∷ points_behind (n - 1) rest ≡ p ∷ points_behind 0 (drop n (b ∷ rest))
first_points p b rest zero low high = absurd (omega arith)
first_points p b rest (suc n) low high =
    let e : suc n - 1 ≡ n = omega arith in
    rw e (ap (λ x. p ∷ x) (points_inside n rest (omega arith)))

points_step : (name : List ℕ) → 0 < length name → 1 ≤ first_length name → first_length name ≤ length name → points_behind 0 name ≡ first_point name ∷ points_behind 0 (drop (first_length name) name)
points_step [] some low high = absurd (omega arith)
points_step (b ∷ rest) some low high = first_points (first_point (b ∷ rest)) b rest (first_length (b ∷ rest)) (omega arith) high

-- the same from a place within the name
pub points_at : (name rest : List ℕ) (at n : ℕ) → at < length name → rest ≡ drop at name → n ≡ first_length rest → 1 ≤ n → n ≤ length rest → points_behind 0 (drop at name) ≡ first_point rest ∷ points_behind 0 (drop (at + n) name)
points_at name rest at n within here is low high =
    let long : 0 < length rest = omega (arith, ap length here, length-drop at name) in
    let moved : drop (first_length rest) rest ≡ drop (at + n) name = rw (← is, here) (drop-drop n at name) in
    ap (points_behind 0) (sym here) ∙ points_step rest long (omega (arith, is)) (omega (arith, is)) ∙ ap (λ x. first_point rest ∷ points_behind 0 x) moved

-- two names go on alike, or differ in a code point
pub points_differ : (p q : ℕ) (xs ys : List ℕ) → p ≢ q → pointwise nat_eq (p ∷ xs) (q ∷ ys) ≡ false
points_differ p q xs ys other = ap (λ b. b && pointwise nat_eq xs ys) (ne_eqb p q other)

pub points_agree : (p q : ℕ) (xs ys : List ℕ) → p ≡ q → pointwise nat_eq (p ∷ xs) (q ∷ ys) ≡ pointwise nat_eq xs ys
points_agree p q xs ys same = ap (λ b. b && pointwise nat_eq xs ys) (eq-eqb p q same)

no_more : (ys : List ℕ) → pointwise nat_eq [] (points_behind 0 ys) ≡ nat_le (length ys) 0
no_more [] = refl
no_more (y ∷ ys) = sym (lt-leb (length (y ∷ ys)) 0 (omega arith))

pub left_over : (m j : ℕ) → nat_le (m - j) 0 ≡ nat_le m j
left_over m j = elim (leb_tells m j) [
  | inl p ↦ le-leb (m - j) 0 (omega (arith, p.1)) ∙ sym p.0
  | inr p ↦ lt-leb (m - j) 0 (omega (arith, p.1)) ∙ sym p.0
]

pub points_end : (a b : List ℕ) (i j : ℕ) → length a ≤ i → pointwise nat_eq (points_behind 0 (drop i a)) (points_behind 0 (drop j b)) ≡ nat_le (length b) j
points_end a b i j ended =
    ap (λ xs. pointwise nat_eq (points_behind 0 xs) (points_behind 0 (drop j b))) (drop_all i a ended) ∙ no_more (drop j b)
    ∙ ap (λ n. nat_le n 0) (length-drop j b) ∙ left_over (length b) j

some_more : (xs : List ℕ) → 0 < length xs → pointwise nat_eq (points_behind 0 xs) [] ≡ false
some_more [] some = absurd (omega arith)
some_more (x ∷ xs) some = refl

pub points_over : (a b : List ℕ) (i j : ℕ) → i < length a → length b ≤ j → pointwise nat_eq (points_behind 0 (drop i a)) (points_behind 0 (drop j b)) ≡ false
points_over a b i j within ended =
    ap (λ ys. pointwise nat_eq (points_behind 0 (drop i a)) (points_behind 0 ys)) (drop_all j b ended)
    ∙ some_more (drop i a) (omega (arith, length-drop i a, within))

-- the code points of a name, one after another
pub points_kept : (list more : List ℕ) (p : ℕ) (next after whole : List ℕ) → more ≡ list ++ p ∷ [] → next ≡ p ∷ after → list ++ next ≡ whole → more ++ after ≡ whole
points_kept list more p next after whole is goes_on kept = ap (λ l. l ++ after) is ∙ append_assoc list (p ∷ []) after ∙ sym (ap (λ l. list ++ l) goes_on) ∙ kept

pub points_ended : (list name : List ℕ) (at : ℕ) (whole : List ℕ) → length name ≤ at → list ++ points_behind 0 (drop at name) ≡ whole → list ≡ whole
points_ended list name at whole ended kept = sym (append-nil list) ∙ sym (ap (λ l. list ++ points_behind 0 l) (drop_all at name ended)) ∙ kept
