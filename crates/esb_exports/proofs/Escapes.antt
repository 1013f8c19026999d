-- The unit that stands at the front of a segment.
use Rattle.std.proofs.Common.{◌≡◌, ℕ, suc, ◌+◌, ◌*◌, ◌<◌, ◌≤◌, Bool, true, false, cond, ◌==◌, ◌&&◌, List, [], ◌∷◌, length, drop, get_or, map, eqb, refl, sym, ap, ◌∙◌, arith}
use Rattle.std.specs.Char.{digit_value}
use Rattle.std.proofs.lemmas.Bool.{cond-true, cond-false, ne_eqb}
use Rattle.std.specs.Str.{bytes_eq}
use Rattle.std.proofs.lemmas.List.{at_drop_more, drop_all}
use Rattle.esb_exports.specs.Segments.{is_hex, lowered, unescaped, reads_as}

-- the three units are an escape
abbrev pub is_escape : ℕ → ℕ → ℕ → Bool
is_escape a b c = (a == 37) && (is_hex b && is_hex c)

pub unescaped-short : (a : ℕ) (rest : List ℕ) → length (a ∷ rest) < 3 → unescaped (a ∷ rest) ≡ a ∷ unescaped rest
unescaped-short a [] short = refl
unescaped-short a (b ∷ []) short = refl
unescaped-short a (b ∷ c ∷ rest) short = absurd (omega arith)

pub unescaped-escape : (units : List ℕ) (a b c byte : ℕ) → 3 ≤ length units → a ≡ get_or units 0 0 → b ≡ get_or units 1 0 → c ≡ get_or units 2 0
    → is_escape a b c ≡ true → byte ≡ digit_value b * 16 + digit_value c → unescaped units ≡ byte ∷ unescaped (drop 3 units)
unescaped-escape [] a b c byte long ea eb ec is value = absurd (omega arith)
unescaped-escape (x ∷ []) a b c byte long ea eb ec is value = absurd (omega arith)
unescaped-escape (x ∷ y ∷ []) a b c byte long ea eb ec is value = absurd (omega arith)
unescaped-escape (x ∷ y ∷ z ∷ units) a b c byte long ea eb ec is value =
    let here : is_escape x y z ≡ true = rw (← ea, ← eb, ← ec) is in
    cond-true (is_escape x y z) ((digit_value y * 16 + digit_value z) ∷ unescaped units) (x ∷ unescaped (y ∷ z ∷ units)) here
    ∙ ap (λ n. n ∷ unescaped units) (rw (← eb, ← ec) (sym value))

pub unescaped-plain : (units : List ℕ) (a b c : ℕ) → 3 ≤ length units → a ≡ get_or units 0 0 → b ≡ get_or units 1 0 → c ≡ get_or units 2 0
    → is_escape a b c ≡ false → unescaped units ≡ a ∷ unescaped (drop 1 units)
unescaped-plain [] a b c long ea eb ec is = absurd (omega arith)
unescaped-plain (x ∷ []) a b c long ea eb ec is = absurd (omega arith)
unescaped-plain (x ∷ y ∷ []) a b c long ea eb ec is = absurd (omega arith)
unescaped-plain (x ∷ y ∷ z ∷ units) a b c long ea eb ec is =
    let here : is_escape x y z ≡ false = rw (← ea, ← eb, ← ec) is in
    cond-false (is_escape x y z) ((digit_value y * 16 + digit_value z) ∷ unescaped units) (x ∷ unescaped (y ∷ z ∷ units)) here
    ∙ ap (λ n. n ∷ unescaped (y ∷ z ∷ units)) (sym ea)

-- a name goes on where the segment ends
pub no_more : (segment name rest : List ℕ) (i : ℕ) → bytes_eq (map lowered (unescaped rest)) (drop i name) ≡ bytes_eq (map lowered (unescaped segment)) name
    → i < length name → rest ≡ [] → false ≡ reads_as segment name
unfolding reads_as
no_more segment name rest i so_far more ends =
    sym (at_drop_more (bytes_eq []) name i 0 more) ∙ ap (λ (t : List ℕ). bytes_eq (map lowered (unescaped t)) (drop i name)) (sym ends) ∙ so_far

one_cond : (b : Bool) (x y : ℕ) (xs ys : List ℕ) → bytes_eq (map lowered (cond b (x ∷ xs) (y ∷ ys))) [] ≡ false
one_cond true x y xs ys = refl
one_cond false x y xs ys = refl

left_over : (rest : List ℕ) → eqb (length rest) 0 ≡ bytes_eq (map lowered (unescaped rest)) []
left_over [] = refl
left_over (a ∷ []) = refl
left_over (a ∷ b ∷ []) = refl
left_over (a ∷ b ∷ c ∷ rest) = ne_eqb (suc (suc (suc (length rest)))) 0 (λ e. absurd (omega arith)) ∙ sym (one_cond (is_escape a b c) (digit_value b * 16 + digit_value c) a (unescaped rest) (unescaped (b ∷ c ∷ rest)))

-- the whole name is read
pub all_read : (segment name rest : List ℕ) (i : ℕ) → bytes_eq (map lowered (unescaped rest)) (drop i name) ≡ bytes_eq (map lowered (unescaped segment)) name
    → length name ≤ i → eqb (length rest) 0 ≡ reads_as segment name
unfolding reads_as
all_read segment name rest i so_far whole =
    left_over rest ∙ ap (bytes_eq (map lowered (unescaped rest))) (sym (drop_all i name whole)) ∙ so_far
