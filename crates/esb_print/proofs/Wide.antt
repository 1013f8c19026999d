-- In a text in UTF-8 each character is whole.
use Rattle.std.proofs.Common.{◌≡◌, ℕ, zero, suc, ◌+◌, ◌/◌, ◌%◌, ◌<◌, ◌≤◌, Bool, true, false, cond, nat_lt, List, [], ◌∷◌, ◌++◌, length, drop, IsUtf8, refl, subst, arith, length-append}
use Rattle.std.proofs.lemmas.Bool.{ltb-true}
use Rattle.std.proofs.lemmas.Bool.Decides.{nat_tests}
use Rattle.std.proofs.lemmas.Nat.{div_below}
use lib.Utf8.{encode, encodes}
use Rattle.esb_token.specs.Characters.{width}

-- behind the first byte of a character of two bytes or more stand the others
abbrev pub Whole : List ℕ → Type 0
Whole [] = Unit {0}
Whole (b ∷ rest) = (192 ≤ b → width b ≤ length (b ∷ rest)) × Whole rest

pub whole-drop : (n : ℕ) (text : List ℕ) → Whole text → Whole (drop n text)
whole-drop zero text h = h
whole-drop (suc n) [] h = tt
whole-drop (suc n) (b ∷ rest) h = whole-drop n rest h.1

pub whole_behind : (xs ys : List ℕ) → Whole (xs ++ ys) → Whole ys
whole_behind [] ys h = h
whole_behind (x ∷ xs) ys h = whole_behind xs ys h.1

both : (xs ys : List ℕ) → Whole xs → Whole ys → Whole (xs ++ ys)
both [] ys h g = g
both (x ∷ xs) ys h g = (λ wide. let w = h.0 wide in let n = length-append xs ys in omega (arith, w, n), both xs ys h.1 g)

two_wide : (b : ℕ) → b < 224 → width b ≤ 2
two_wide b h = grind (arith, nat_tests)

three_wide : (b : ℕ) → b < 240 → width b ≤ 3
three_wide b h = grind (arith, nat_tests)

four_wide : (b : ℕ) → width b ≤ 4
four_wide b = grind (arith, nat_tests)

-- a byte that goes on with a character begins none
follows : (bits : ℕ) → 192 ≤ 128 + bits % 64 → ⊥
follows bits h = omega (arith, h)

follow_one : (bits : ℕ) (rest : List ℕ) → Whole rest → Whole ((128 + bits % 64) ∷ rest)
follow_one bits rest h = (λ wide. absurd (follows bits wide), h)

whole_cond : (t : Bool) (x y : List ℕ) → (t ≡ true → Whole x) → (t ≡ false → Whole y) → Whole (cond t x y)
whole_cond true x y hx hy = hx refl
whole_cond false x y hx hy = hy refl

encode-whole : (c : ℕ) → Whole (encode c)
unfolding encode
encode-whole c =
    whole_cond (nat_lt c 128) _ _ (λ small. (λ wide. let h = ltb-true c 128 small in absurd (omega (arith, h, wide)), tt))
    (λ _. whole_cond (nat_lt c 2048) _ _ (λ small. (λ wide. let h = div_below c 64 32 (omega arith) (let l = ltb-true c 2048 small in omega (arith, l)) in two_wide (192 + c / 64) (omega (arith, h)), follow_one c [] tt))
    (λ _. whole_cond (nat_lt c 65536) _ _ (λ small. (λ wide. let h = div_below c 4096 16 (omega arith) (let l = ltb-true c 65536 small in omega (arith, l)) in three_wide (224 + c / 4096) (omega (arith, h)), follow_one (c / 64) ((128 + c % 64) ∷ []) (follow_one c [] tt)))
    (λ _. (λ wide. four_wide (240 + c / 262144), follow_one (c / 4096) ((128 + c / 64 % 64) ∷ (128 + c % 64) ∷ []) (follow_one (c / 64) ((128 + c % 64) ∷ []) (follow_one c [] tt))))))

encodes-whole : (cs : List ℕ) → Whole (encodes cs)
encodes-whole [] = tt
encodes-whole (c ∷ cs) = both (encode c) (encodes cs) (encode-whole c) (encodes-whole cs)

pub utf8-whole : (text : List ℕ) → IsUtf8 text → Whole text
utf8-whole text u = subst Whole u.1.1 (encodes-whole u.0)
