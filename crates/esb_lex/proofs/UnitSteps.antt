-- The code units of a literal's first piece, and of the pieces after it.
use Rattle.std.proofs.Common.{◌≡◌, ℕ, zero, suc, ◌+◌, ◌-◌, ◌<◌, ◌≤◌, false, cond, eqb, List, [], ◌∷◌, ◌++◌, length, drop, refl, sym, ap, ◌∙◌, arith, drop-drop, append_assoc, append-nil}
use Rattle.std.proofs.lemmas.Bool.Decides.{nat_tests}
use Rattle.esb_token.specs.Strings.{string_piece, piece_units, units_from}

units_from-inside : (quote inside : ℕ) (text : List ℕ) → inside ≤ length text → units_from quote inside text ≡ units_from quote 0 (drop inside text)
units_from-inside quote zero text h = refl
units_from-inside quote (suc inside) [] h = absurd (omega arith)
units_from-inside quote (suc inside) (b ∷ rest) h = units_from-inside quote inside rest (omega arith)

first_units : (quote b : ℕ) (rest : List ℕ) (n : ℕ) → 0 < n → n ≤ length (b ∷ rest) → cond (eqb n 0) [] (piece_units (b ∷ rest) ++ units_from quote (n - 1) rest) ≡ piece_units (b ∷ rest) ++ units_from quote 0 (drop n (b ∷ rest))
first_units quote b rest zero low high = absurd (omega arith)
first_units quote b rest (suc n) low high =
    let e : suc n - 1 ≡ n = omega arith in
    let more : eqb (suc n) 0 ≡ false = grind (arith, nat_tests) in
    rw (more, e) (ap (λ x. piece_units (b ∷ rest) ++ x) (units_from-inside quote n rest (omega arith)))

units_from-stops : (quote : ℕ) (text : List ℕ) → string_piece quote text ≡ 0 → units_from quote 0 text ≡ []
units_from-stops quote [] h = refl
units_from-stops quote (b ∷ rest) h = ap (λ n. cond (eqb n 0) [] (piece_units (b ∷ rest) ++ units_from quote (n - 1) rest)) h

units_from-step : (quote : ℕ) (text : List ℕ) → 0 < string_piece quote text → string_piece quote text ≤ length text → units_from quote 0 text ≡ piece_units text ++ units_from quote 0 (drop (string_piece quote text) text)
units_from-step quote [] low high = absurd (omega arith)
units_from-step quote (b ∷ rest) low high = first_units quote b rest (string_piece quote (b ∷ rest)) low high

-- the same from a place within the literal, with the code units so far
pub units-at_stop : (quote : ℕ) (text rest sofar whole : List ℕ) (at n : ℕ) → sofar ++ units_from quote 0 (drop at text) ≡ whole → rest ≡ drop at text → n ≡ string_piece quote rest → n ≡ 0 → sofar ≡ whole
units-at_stop quote text rest sofar whole at n all here is none =
    let ends : units_from quote 0 (drop at text) ≡ [] = rw (← here) (units_from-stops quote rest (sym is ∙ none)) in
    sym (append-nil sofar) ∙ ap (λ x. sofar ++ x) (sym ends) ∙ all

pub units-at_step : (quote : ℕ) (text rest sofar more whole : List ℕ) (at n : ℕ) → sofar ++ units_from quote 0 (drop at text) ≡ whole → rest ≡ drop at text → n ≡ string_piece quote rest → 0 < n → n ≤ length rest → more ≡ sofar ++ piece_units rest → more ++ units_from quote 0 (drop (at + n) text) ≡ whole
units-at_step quote text rest sofar more whole at n all here is low high adds =
    let step = units_from-step quote rest (omega (arith, is)) (omega (arith, is)) in
    let moved : drop (string_piece quote rest) rest ≡ drop (at + n) text = rw (← is, here) (drop-drop n at text) in
    let next : units_from quote 0 (drop at text) ≡ piece_units rest ++ units_from quote 0 (drop (at + n) text) = ap (units_from quote 0) (sym here) ∙ step ∙ ap (λ x. piece_units rest ++ units_from quote 0 x) moved in
    ap (λ x. x ++ units_from quote 0 (drop (at + n) text)) adds ∙ append_assoc sofar (piece_units rest) (units_from quote 0 (drop (at + n) text)) ∙ ap (λ x. sofar ++ x) (sym next) ∙ all
