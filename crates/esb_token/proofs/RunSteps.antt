-- A run is its first part and the run after it.
use Rattle.std.proofs.Common.{◌≡◌, ℕ, zero, suc, ◌+◌, ◌-◌, ◌<◌, ◌≤◌, Bool, true, false, cond, ◌||◌, eqb, List, [], ◌∷◌, length, drop, refl, sym, ap, ◌∙◌, arith, drop-drop, length-drop}
use Rattle.std.proofs.lemmas.Bool.Decides.{nat_tests}
use Rattle.esb_token.specs.Runs.{run_from, run, any_from, run_any}

-- past the bytes of a part that was begun
run_from-inside : (part : List ℕ → ℕ) (inside : ℕ) (text : List ℕ) → inside ≤ length text → run_from part inside text ≡ inside + run_from part 0 (drop inside text)
run_from-inside part zero [] h = refl
run_from-inside part zero (b ∷ rest) h = sym (omega arith)
run_from-inside part (suc inside) [] h = absurd (omega arith)
run_from-inside part (suc inside) (b ∷ rest) h = let e = run_from-inside part inside rest (omega arith) in grind (arith, e)

any_from-inside : (part : List ℕ → ℕ) (test : List ℕ → Bool) (inside : ℕ) (text : List ℕ) → inside ≤ length text → any_from part test inside text ≡ any_from part test 0 (drop inside text)
any_from-inside part test zero text h = refl
any_from-inside part test (suc inside) [] h = absurd (omega arith)
any_from-inside part test (suc inside) (b ∷ rest) h = any_from-inside part test inside rest (omega arith)

first_step : (part : List ℕ → ℕ) (b : ℕ) (rest : List ℕ) (n : ℕ) → 0 < n → n ≤ length (b ∷ rest) → cond (eqb n 0) 0 (1 + run_from part (n - 1) rest) ≡ n + run_from part 0 (drop n (b ∷ rest))
first_step part b rest zero low high = absurd (omega arith)
first_step part b rest (suc n) low high =
    let e : suc n - 1 ≡ n = omega arith in
    let inside = run_from-inside part n rest (omega arith) in
    let more : eqb (suc n) 0 ≡ false = grind (arith, nat_tests) in
    rw (more, e) (omega (arith, inside))

first_any : (part : List ℕ → ℕ) (test : List ℕ → Bool) (b : ℕ) (rest : List ℕ) (n : ℕ) → 0 < n → n ≤ length (b ∷ rest) → cond (eqb n 0) false (test (b ∷ rest) || any_from part test (n - 1) rest) ≡ (test (b ∷ rest) || any_from part test 0 (drop n (b ∷ rest)))
first_any part test b rest zero low high = absurd (omega arith)
first_any part test b rest (suc n) low high =
    let e : suc n - 1 ≡ n = omega arith in
    let more : eqb (suc n) 0 ≡ false = grind (arith, nat_tests) in
    rw (more, e) (ap (λ x. test (b ∷ rest) || x) (any_from-inside part test n rest (omega arith)))

pub run-stops : (part : List ℕ → ℕ) (text : List ℕ) → part text ≡ 0 → run part text ≡ 0
unfolding run
run-stops part [] h = refl
run-stops part (b ∷ rest) h = ap (λ n. cond (eqb n 0) 0 (1 + run_from part (n - 1) rest)) h

pub run-end : (part : List ℕ → ℕ) (text : List ℕ) → length text ≡ 0 → run part text ≡ 0
unfolding run
run-end part [] h = refl
run-end part (b ∷ rest) h = absurd (omega arith)

pub run-step : (part : List ℕ → ℕ) (text : List ℕ) → 0 < part text → part text ≤ length text → run part text ≡ part text + run part (drop (part text) text)
unfolding run
run-step part [] low high = absurd (omega arith)
run-step part (b ∷ rest) low high = first_step part b rest (part (b ∷ rest)) low high

pub run_any-stops : (part : List ℕ → ℕ) (test : List ℕ → Bool) (text : List ℕ) → part text ≡ 0 → run_any part test text ≡ false
unfolding run_any
run_any-stops part test [] h = refl
run_any-stops part test (b ∷ rest) h = ap (λ n. cond (eqb n 0) false (test (b ∷ rest) || any_from part test (n - 1) rest)) h

pub run_any-end : (part : List ℕ → ℕ) (test : List ℕ → Bool) (text : List ℕ) → length text ≡ 0 → run_any part test text ≡ false
unfolding run_any
run_any-end part test [] h = refl
run_any-end part test (b ∷ rest) h = absurd (omega arith)

pub run_any-step : (part : List ℕ → ℕ) (test : List ℕ → Bool) (text : List ℕ) → 0 < part text → part text ≤ length text → run_any part test text ≡ (test text || run_any part test (drop (part text) text))
unfolding run_any
run_any-step part test [] low high = absurd (omega arith)
run_any-step part test (b ∷ rest) low high = first_any part test b rest (part (b ∷ rest)) low high

-- the same from a place within a text
pub run-at_step : (part : List ℕ → ℕ) (text rest : List ℕ) (at n : ℕ) → rest ≡ drop at text → n ≡ part rest → 0 < n → n ≤ length rest → at + run part (drop at text) ≡ (at + n) + run part (drop (at + n) text)
run-at_step part text rest at n here is low high =
    let step = run-step part rest (omega (arith, is)) (omega (arith, is)) in
    let moved : drop (part rest) rest ≡ drop (at + n) text = rw (← is, here) (drop-drop n at text) in
    omega (arith, step, is, ap (run part) moved, ap (run part) here)

pub run-at_end : (part : List ℕ → ℕ) (text : List ℕ) (at : ℕ) → length text ≤ at → run part (drop at text) ≡ 0
run-at_end part text at h = run-end part (drop at text) (omega (arith, length-drop at text))

pub run-at_stop : (part : List ℕ → ℕ) (text rest : List ℕ) (at n : ℕ) → rest ≡ drop at text → n ≡ part rest → n ≡ 0 → run part (drop at text) ≡ 0
run-at_stop part text rest at n here is none = rw (← here) (run-stops part rest (omega (arith, is)))

pub run_any-at_step : (part : List ℕ → ℕ) (test : List ℕ → Bool) (text rest : List ℕ) (at n : ℕ) → rest ≡ drop at text → n ≡ part rest → 0 < n → n ≤ length rest → run_any part test (drop at text) ≡ (test rest || run_any part test (drop (at + n) text))
run_any-at_step part test text rest at n here is low high =
    let step = run_any-step part test rest (omega (arith, is)) (omega (arith, is)) in
    let moved : drop (part rest) rest ≡ drop (at + n) text = rw (← is, here) (drop-drop n at text) in
    ap (run_any part test) (sym here) ∙ step ∙ ap (λ x. test rest || run_any part test x) moved

pub run_any-at_end : (part : List ℕ → ℕ) (test : List ℕ → Bool) (text : List ℕ) (at : ℕ) → length text ≤ at → run_any part test (drop at text) ≡ false
run_any-at_end part test text at h = run_any-end part test (drop at text) (omega (arith, length-drop at text))

pub run_any-at_stop : (part : List ℕ → ℕ) (test : List ℕ → Bool) (text rest : List ℕ) (at n : ℕ) → rest ≡ drop at text → n ≡ part rest → n ≡ 0 → run_any part test (drop at text) ≡ false
run_any-at_stop part test text rest at n here is none = rw (← here) (run_any-stops part test rest (omega (arith, is)))

pub or-assoc : (a b c : Bool) → ((a || b) || c) ≡ (a || (b || c))
or-assoc true b c = refl
or-assoc false b c = refl

pub or-false : (a : Bool) → (a || false) ≡ a
or-false true = refl
or-false false = refl

-- a flag that was carried so far, with what the rest adds
pub carried : (a b tested rest whole all : Bool) → (a || whole) ≡ all → whole ≡ (tested || rest) → b ≡ tested → ((a || b) || rest) ≡ all
carried a b tested rest whole all sofar next same = or-assoc a b rest ∙ ap (λ x. a || (x || rest)) same ∙ ap (λ x. a || x) (sym next) ∙ sofar

pub carried-last : (a whole all : Bool) → (a || whole) ≡ all → whole ≡ false → a ≡ all
carried-last a whole all sofar none = sym (or-false a) ∙ ap (λ x. a || x) (sym none) ∙ sofar
