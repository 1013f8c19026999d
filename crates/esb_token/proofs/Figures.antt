-- Numbers: the literal that the lexer takes has at least the bytes of each number at the front.
use Rattle.std.proofs.Common.{◌≡◌, ◌≢◌, ◌⊎◌, inl, inr, ℕ, ◌+◌, ◌<◌, ◌≤◌, Bool, true, false, cond, not, ◌&&◌, ◌||◌, eqb, nat_lt, List, [], ◌∷◌, ◌++◌, length, drop, slice_index, refl, sym, ap, ◌∙◌, subst, arith, lit≤, add-zero, append_assoc, length-append, drop-drop}
use Rattle.std.specs.List.{prefix_len}
use Rattle.std.proofs.lemmas.List.{drop_at, get_or_at, get_or-drop}
use Rattle.std.proofs.lemmas.List.Folds.{prefix_len-append}
use Rattle.std.proofs.lemmas.Bool.{ne_eqb, eqb-true, eq-eqb, or_cases, cond-false, cond-true, lt-ltb, both_ways}
use Rattle.std.proofs.lemmas.Bool.Decides.{nat_tests}
use Rattle.esb_token.specs.declared.kind.Kind.{Kind}
use Rattle.esb_token.specs.declared.kind.Kind.TheVariants as k
use Rattle.esb_token.specs.Characters.{is_digit, is_hex_digit}
use Rattle.esb_token.specs.Numbers.{digits_at, with_suffix, sign, exponent, integer_part, decimal, based, numeric, is_octal_digit, is_binary_digit}
use Rattle.esb_token.specs.Grammar.{AreDigits, IsInteger, IsSign, IsPower, base_digit, IsNumeric}
use Rattle.esb_token.proofs.Marks.{Long, long, either}

-- ---- digits

digits_more : (digit : ℕ → Bool) (ds rest : List ℕ) → AreDigits digit ds → prefix_len digit (ds ++ rest) ≡ length ds + prefix_len digit rest
digits_more digit ds rest h = prefix_len-append digit ds rest ∙ cond-true _ _ _ (eq-eqb _ _ h)

pub digits_end : (digit : ℕ → Bool) (b : ℕ) (rest : List ℕ) → digit b ≡ false → prefix_len digit (b ∷ rest) ≡ 0
digits_end digit b rest h = rw (h) refl

pub first_digit : (digit : ℕ → Bool) (d : ℕ) (ds : List ℕ) → AreDigits digit (d ∷ ds) → digit d ≡ true
first_digit digit d ds h = go (digit d) refl h
  where
    go : (t : Bool) → digit d ≡ t → prefix_len digit (d ∷ ds) ≡ length (d ∷ ds) → digit d ≡ true
    go true is e = is
    go false is e = absurd (omega (arith, digits_end digit d ds is, e))

no_sign_digit : (d : ℕ) → is_digit d ≡ true → (eqb d 43 || eqb d 45) ≡ false
no_sign_digit d h = grind (arith, nat_tests)

is_power_letter : ℕ → Bool
is_power_letter letter = eqb letter 101 || eqb letter 69

-- ---- exponents

pub exponent_drop : (text : List ℕ) (at : ℕ) → exponent text at ≡ exponent (drop at text) 0
unfolding exponent digits_at
exponent_drop text at =
    let zeroth : slice_index (drop at text) 0 ≡ slice_index text at = get_or-drop at text 0 0 ∙ ap (slice_index text) (add-zero at) in
    let next : slice_index (drop at text) 1 ≡ slice_index text (at + 1) = get_or-drop at text 1 0 in
    let moved : (n : ℕ) → drop (0 + 1 + n) (drop at text) ≡ drop (at + 1 + n) text = λ n. drop-drop (0 + 1 + n) at text ∙ ap (λ x. drop x text) (omega arith) in
    rw (zeroth, next, moved) refl

signless : (letter d : ℕ) (ds after : List ℕ) → (eqb letter 101 || eqb letter 69) ≡ true → AreDigits is_digit (d ∷ ds) → 1 + length (d ∷ ds) ≤ exponent (letter ∷ ((d ∷ ds) ++ after)) 0
unfolding exponent digits_at
signless letter d ds after is h =
    let none = no_sign_digit d (first_digit is_digit d ds h) in
    let count = digits_more is_digit (d ∷ ds) after h in
    let some : nat_lt 0 (prefix_len is_digit ((d ∷ ds) ++ after)) ≡ true = lt-ltb _ _ (omega (arith, count)) in
    rw (none, is, some) (omega (arith, count))

with_sign : (letter b : ℕ) (ds after : List ℕ) → (eqb letter 101 || eqb letter 69) ≡ true → (eqb b 43 || eqb b 45) ≡ true → 0 < length ds → AreDigits is_digit ds → 2 + length ds ≤ exponent (letter ∷ b ∷ (ds ++ after)) 0
unfolding exponent digits_at
with_sign letter b ds after is sign some_digit h =
    let count = digits_more is_digit ds after h in
    let some : nat_lt 0 (prefix_len is_digit (ds ++ after)) ≡ true = lt-ltb _ _ (omega (arith, count, some_digit)) in
    rw (sign, is, some) (omega (arith, count))

power_with : (letter : ℕ) (sign ds after : List ℕ) → (eqb letter 101 || eqb letter 69) ≡ true → IsSign sign → 0 < length ds → AreDigits is_digit ds → length (letter ∷ (sign ++ ds)) ≤ exponent (letter ∷ ((sign ++ ds) ++ after)) 0
power_with letter sign [] after is s some h = absurd (omega (arith, some))
power_with letter [] (d ∷ ds) after is IsSign.no_sign some h = let e = signless letter d ds after is h in omega (arith, e)
power_with letter sign (d ∷ ds) after is IsSign.plus some h = let e = with_sign letter 43 (d ∷ ds) after is refl some h in omega (arith, e)
power_with letter sign (d ∷ ds) after is IsSign.minus some h = let e = with_sign letter 45 (d ∷ ds) after is refl some h in omega (arith, e)

power_long : (e after : List ℕ) → IsPower e → length e ≤ exponent (e ++ after) 0
power_long e after IsPower.no_power = lit-zero (exponent after 0)
  where
    lit-zero : (n : ℕ) → 0 ≤ n
    lit-zero n = omega arith
power_long e after (IsPower.power letter sign ds is s some h) = power_with letter sign ds after is s some h

-- ---- the parts of a decimal literal

-- digits with an exponent behind them, or none
digits_power : (ds e after : List ℕ) → AreDigits is_digit ds → IsPower e → length ds + length e ≤ prefix_len is_digit ((ds ++ e) ++ after) + exponent (drop (prefix_len is_digit ((ds ++ e) ++ after)) ((ds ++ e) ++ after)) 0
digits_power ds e after h IsPower.no_power =
    let count = ap (prefix_len is_digit) (append_assoc ds [] after) in
    let more = digits_more is_digit ds after h in
    omega (arith, count, more)
digits_power ds e after h (IsPower.power letter sign figures is s some more) =
    let rest = (sign ++ figures) ++ after in
    let assoc : (ds ++ letter ∷ (sign ++ figures)) ++ after ≡ ds ++ letter ∷ rest = append_assoc ds (letter ∷ (sign ++ figures)) after in
    let stop : prefix_len is_digit (letter ∷ rest) ≡ 0 = digits_end is_digit letter rest (no_digit letter is) in
    let count : prefix_len is_digit ((ds ++ letter ∷ (sign ++ figures)) ++ after) ≡ length ds = ap (prefix_len is_digit) assoc ∙ digits_more is_digit ds (letter ∷ rest) h ∙ omega (arith, stop) in
    let moved : drop (prefix_len is_digit ((ds ++ letter ∷ (sign ++ figures)) ++ after)) ((ds ++ letter ∷ (sign ++ figures)) ++ after) ≡ letter ∷ rest = ap (drop (prefix_len is_digit ((ds ++ letter ∷ (sign ++ figures)) ++ after))) assoc ∙ drop_at ds (letter ∷ rest) _ (sym count) in
    let power = power_with letter sign figures after is s some more in
    omega (arith, count, ap (λ x. exponent x 0) moved, power)
  where
    no_digit : (letter : ℕ) → (eqb letter 101 || eqb letter 69) ≡ true → is_digit letter ≡ false
    no_digit letter is = grind (arith, nat_tests)

-- no letter of a base
is_other : ℕ → Bool
is_other b = not (eqb b 120 || eqb b 88) && (not (eqb b 111 || eqb b 79) && not (eqb b 98 || eqb b 66))

numeric_decimal : (text : List ℕ) → (slice_index text 0 ≢ 48) ⊎ (is_other (slice_index text 1) ≡ true) → numeric text ≡ decimal text
unfolding numeric is_other
numeric_decimal text (inl h) = cond-false (eqb (slice_index text 0) 48) _ _ (ne_eqb _ _ h)
numeric_decimal text (inr h) = go (eqb (slice_index text 0) 48) (eqb (slice_index text 1) 120 || eqb (slice_index text 1) 88) (eqb (slice_index text 1) 111 || eqb (slice_index text 1) 79) (eqb (slice_index text 1) 98 || eqb (slice_index text 1) 66) h
  where
    go : (zeroed hex octal binary : Bool) → (not hex && (not octal && not binary)) ≡ true
        → cond zeroed (cond hex (based is_hex_digit text) (cond octal (based is_octal_digit text) (cond binary (based is_binary_digit text) (decimal text)))) (decimal text) ≡ decimal text
    go true true octal binary e = cc
    go true false true binary e = cc
    go true false false true e = cc
    go true false false false e = refl
    go false hex octal binary e = refl

suffix_long : (text : List ℕ) (size : ℕ) → Long size (with_suffix text size)
suffix_long text size = either size (eqb (slice_index text size) 110) (k.BigInt, size + 1) (k.Number, size) (long size (size + 1) _ (omega arith)) (long size size _ (omega arith))

-- a decimal literal is at least its integer part
decimal_whole : (text : List ℕ) → Long (integer_part text) (decimal text)
unfolding decimal
decimal_whole text =
    let whole = integer_part text in
    let fraction = whole + 1 + digits_at text (whole + 1) in
    either whole (eqb (slice_index text whole) 46) (k.Number, fraction + exponent text fraction) (cond (eqb (exponent text whole) 0) (with_suffix text whole) (k.Number, whole + exponent text whole))
    (long whole (fraction + exponent text fraction) _ (omega arith))
    (either whole (eqb (exponent text whole) 0) (with_suffix text whole) (k.Number, whole + exponent text whole) (suffix_long text whole) (long whole (whole + exponent text whole) _ (omega arith)))

-- the same with a fraction
decimal_fraction : (text : List ℕ) → slice_index text (integer_part text) ≡ 46
    → (decimal text).1 ≡ integer_part text + 1 + digits_at text (integer_part text + 1) + exponent text (integer_part text + 1 + digits_at text (integer_part text + 1))
unfolding decimal
decimal_fraction text h = ap (λ (p : Kind × ℕ). p.1) (cond-true (eqb (slice_index text (integer_part text)) 46) _ _ (eq-eqb _ _ h))

-- the same with an exponent and no fraction
decimal_power : (text : List ℕ) → slice_index text (integer_part text) ≢ 46 → 0 < exponent text (integer_part text) → (decimal text).1 ≡ integer_part text + exponent text (integer_part text)
unfolding decimal
decimal_power text h some =
    ap (λ (p : Kind × ℕ). p.1) (cond-false (eqb (slice_index text (integer_part text)) 46) _ _ (ne_eqb _ _ h) ∙ cond-false (eqb (exponent text (integer_part text)) 0) _ _ (ne_eqb _ _ (λ e. absurd (omega (arith, e, some)))))

-- a BigInt
decimal_big : (text : List ℕ) → slice_index text (integer_part text) ≡ 110 → exponent text (integer_part text) ≡ 0 → (decimal text).1 ≡ integer_part text + 1
unfolding decimal
decimal_big text h none =
    ap (λ (p : Kind × ℕ). p.1) (cond-false (eqb (slice_index text (integer_part text)) 46) _ _ (ap (λ x. eqb x 46) h) ∙ cond-true (eqb (exponent text (integer_part text)) 0) _ _ (eq-eqb _ _ none) ∙ cond-true (eqb (slice_index text (integer_part text)) 110) _ _ (eq-eqb _ _ h))

-- ---- integer parts

integer_long : (w rest : List ℕ) → IsInteger w → length w ≤ integer_part (w ++ rest)
unfolding integer_part digits_at
integer_long w rest (inl e) = subst (λ x. length x ≤ integer_part (x ++ rest)) (sym e) (lit≤ tt)
integer_long [] rest (inr h) = absurd (omega (arith, h.0))
integer_long (d ∷ ds) rest (inr h) =
    let count = digits_more is_digit (d ∷ ds) rest h.1 in
    let other : eqb d 48 ≡ false = ne_eqb _ _ h.2 in
    rw (other) (omega (arith, count))

integer_is : (w : List ℕ) (b : ℕ) (rest : List ℕ) → IsInteger w → is_digit b ≡ false → integer_part (w ++ b ∷ rest) ≡ length w
unfolding integer_part digits_at
integer_is w b rest (inl e) none = subst (λ x. integer_part (x ++ b ∷ rest) ≡ length x) (sym e) refl
integer_is [] b rest (inr h) none = absurd (omega (arith, h.0))
integer_is (d ∷ ds) b rest (inr h) none =
    let count = digits_more is_digit (d ∷ ds) (b ∷ rest) h.1 in
    let stop = digits_end is_digit b rest none in
    let other : eqb d 48 ≡ false = ne_eqb _ _ h.2 in
    rw (other) (omega (arith, count, stop))

integer_decimal : (w : List ℕ) (b : ℕ) (rest : List ℕ) → IsInteger w → is_other b ≡ true → numeric (w ++ b ∷ rest) ≡ decimal (w ++ b ∷ rest)
integer_decimal w b rest (inl e) other = subst (λ x. numeric (x ++ b ∷ rest) ≡ decimal (x ++ b ∷ rest)) (sym e) (numeric_decimal (48 ∷ b ∷ rest) (inr other))
integer_decimal [] b rest (inr h) other = absurd (omega (arith, h.0))
integer_decimal (d ∷ ds) b rest (inr h) other = numeric_decimal (d ∷ (ds ++ b ∷ rest)) (inl h.2)

-- ---- whole literals

based_long : (digit : ℕ → Bool) (text : List ℕ) → Long 1 (based digit text)
unfolding based
based_long digit text =
    let n = prefix_len digit (drop 2 text) in
    either 1 (eqb n 0) (k.Number, 1) (with_suffix text (n + 2)) (long 1 1 _ (lit≤ tt)) (suffix_more 1 text (n + 2) (omega arith))
  where
    suffix_more : (m : ℕ) (text : List ℕ) (size : ℕ) → m ≤ size → Long m (with_suffix text size)
    suffix_more m text size h = let l = (suffix_long text size).holds in record { holds = omega (arith, h, l) }

zero_long : (after : List ℕ) → Long 1 (numeric (48 ∷ after))
unfolding numeric integer_part
zero_long after =
    let text = 48 ∷ after in
    let letter = slice_index text 1 in
    either 1 (eqb letter 120 || eqb letter 88) (based is_hex_digit text) (cond (eqb letter 111 || eqb letter 79) (based is_octal_digit text) (cond (eqb letter 98 || eqb letter 66) (based is_binary_digit text) (decimal text))) (based_long is_hex_digit text)
    (either 1 (eqb letter 111 || eqb letter 79) (based is_octal_digit text) (cond (eqb letter 98 || eqb letter 66) (based is_binary_digit text) (decimal text)) (based_long is_octal_digit text)
    (either 1 (eqb letter 98 || eqb letter 66) (based is_binary_digit text) (decimal text) (based_long is_binary_digit text) (decimal_whole text)))

integer_covers : (w after : List ℕ) → IsInteger w → length w ≤ (numeric (w ++ after)).1
integer_covers w after (inl e) = subst (λ x. length x ≤ (numeric (x ++ after)).1) (sym e) (zero_long after).holds
integer_covers [] after (inr h) = absurd (omega (arith, h.0))
integer_covers (d ∷ ds) after (inr h) =
    let is = ap (λ (p : Kind × ℕ). p.1) (numeric_decimal (d ∷ (ds ++ after)) (inl h.2)) in
    let whole = integer_long (d ∷ ds) after (inr h) in
    let l = (decimal_whole (d ∷ (ds ++ after))).holds in
    omega (arith, is, whole, l)

power_letter : (letter : ℕ) → (eqb letter 101 || eqb letter 69) ≡ true → (is_digit letter ≡ false) × (is_other letter ≡ true) × (eqb letter 46 ≡ false)
unfolding is_other
power_letter letter is = elim (or_cases (eqb letter 101) (eqb letter 69) is) [
  | inl e ↦ let P : ℕ → Type 0 = λ x. (is_digit x ≡ false) × (is_other x ≡ true) × (eqb x 46 ≡ false) in subst P (sym (eqb-true letter 101 e)) (refl, refl, refl)
  | inr e ↦ let P : ℕ → Type 0 = λ x. (is_digit x ≡ false) × (is_other x ≡ true) × (eqb x 46 ≡ false) in subst P (sym (eqb-true letter 69 e)) (refl, refl, refl)
]

-- an integer with an exponent
power_covers : (w : List ℕ) (letter : ℕ) (sign ds after : List ℕ) → IsInteger w → (eqb letter 101 || eqb letter 69) ≡ true → IsSign sign → 0 < length ds → AreDigits is_digit ds
    → length w + length (letter ∷ (sign ++ ds)) ≤ (numeric (w ++ letter ∷ ((sign ++ ds) ++ after))).1
power_covers w letter sign ds after h is s some more =
    let rest = (sign ++ ds) ++ after in
    let text = w ++ letter ∷ rest in
    let letters = power_letter letter is in
    let whole : integer_part text ≡ length w = integer_is w letter rest h letters.0 in
    let dec = ap (λ (p : Kind × ℕ). p.1) (integer_decimal w letter rest h letters.1) in
    let here : slice_index text (integer_part text) ≡ letter = get_or_at w letter rest 0 _ (sym whole) in
    let moved : drop (integer_part text) text ≡ letter ∷ rest = drop_at w (letter ∷ rest) _ (sym whole) in
    let power : exponent text (integer_part text) ≡ exponent (letter ∷ rest) 0 = exponent_drop text (integer_part text) ∙ ap (λ x. exponent x 0) moved in
    let size = power_with letter sign ds after is s some more in
    let ends = decimal_power text (λ e. both_ways (eqb letter 46) letters.2 (eq-eqb _ _ (sym here ∙ e))) (omega (arith, power, size)) in
    omega (arith, dec, ends, whole, power, size)

-- a fraction behind an integer part, which may be left out
fraction_from : (w ds e after text : List ℕ) → text ≡ w ++ 46 ∷ ((ds ++ e) ++ after) → integer_part text ≡ length w → numeric text ≡ decimal text → AreDigits is_digit ds → IsPower e
    → length w + 1 + length ds + length e ≤ (numeric text).1
unfolding digits_at
fraction_from w ds e after text is whole dec h exp =
    let rest = (ds ++ e) ++ after in
    let here : slice_index text (integer_part text) ≡ 46 = ap (λ x. slice_index x (integer_part text)) is ∙ get_or_at w 46 rest 0 _ (sym whole) in
    let step : w ++ 46 ∷ rest ≡ (w ++ 46 ∷ []) ++ rest = sym (append_assoc w (46 ∷ []) rest) in
    let moved : drop (integer_part text + 1) text ≡ rest = ap (drop (integer_part text + 1)) (is ∙ step) ∙ drop_at (w ++ 46 ∷ []) rest _ (omega (arith, whole, length-append w (46 ∷ []))) in
    let count = ap (prefix_len is_digit) moved in
    let all = digits_power ds e after h exp in
    let n = digits_at text (integer_part text + 1) in
    let further : drop (integer_part text + 1 + n) text ≡ drop (prefix_len is_digit rest) rest = sym (drop-drop n (integer_part text + 1) text) ∙ ap (drop n) moved ∙ ap (λ x. drop x rest) count in
    let last : exponent text (integer_part text + 1 + n) ≡ exponent (drop (prefix_len is_digit rest) rest) 0 = exponent_drop text (integer_part text + 1 + n) ∙ ap (λ x. exponent x 0) further in
    let ends = decimal_fraction text here in
    let dec_is = ap (λ (p : Kind × ℕ). p.1) dec in
    omega (arith, dec_is, ends, whole, count, last, all)

other_n : is_other 110 ≡ true
unfolding is_other
other_n = refl

no_power_here : (after : List ℕ) → exponent (110 ∷ after) 0 ≡ 0
unfolding exponent
no_power_here after = refl

big_covers : (w after : List ℕ) → IsInteger w → length w + 1 ≤ (numeric (w ++ 110 ∷ after)).1
big_covers w after h =
    let text = w ++ 110 ∷ after in
    let whole : integer_part text ≡ length w = integer_is w 110 after h refl in
    let dec = ap (λ (p : Kind × ℕ). p.1) (integer_decimal w 110 after h other_n) in
    let here : slice_index text (integer_part text) ≡ 110 = get_or_at w 110 after 0 _ (sym whole) in
    let moved : drop (integer_part text) text ≡ 110 ∷ after = drop_at w (110 ∷ after) _ (sym whole) in
    let none : exponent text (integer_part text) ≡ 0 = exponent_drop text (integer_part text) ∙ ap (λ x. exponent x 0) moved ∙ no_power_here after in
    let ends = decimal_big text here none in
    omega (arith, dec, ends, whole)

-- ---- the other bases

-- the length of what `based` gives, where the digits are there
based_takes : (digit : ℕ → Bool) (letter : ℕ) (ds after : List ℕ) → 0 < length ds → AreDigits digit ds → 2 + length ds ≤ (based digit (48 ∷ letter ∷ (ds ++ after))).1
unfolding based
based_takes digit letter ds after some h =
    let text = 48 ∷ letter ∷ (ds ++ after) in
    let count = digits_more digit ds after h in
    let none : eqb (prefix_len digit (ds ++ after)) 0 ≡ false = ne_eqb _ _ (λ e. absurd (omega (arith, e, count, some))) in
    let is = ap (λ (p : Kind × ℕ). p.1) (cond-false (eqb (prefix_len digit (ds ++ after)) 0) (k.Number, 1) (with_suffix text (prefix_len digit (ds ++ after) + 2)) none) in
    let l = (suffix_long text (prefix_len digit (ds ++ after) + 2)).holds in
    omega (arith, is, l, count)

based_takes_big : (digit : ℕ → Bool) (letter : ℕ) (ds after : List ℕ) → digit 110 ≡ false → 0 < length ds → AreDigits digit ds → 3 + length ds ≤ (based digit (48 ∷ letter ∷ (ds ++ 110 ∷ after))).1
unfolding based
based_takes_big digit letter ds after none_n some h =
    let text = 48 ∷ letter ∷ (ds ++ 110 ∷ after) in
    let stop = digits_end digit 110 after none_n in
    let count : prefix_len digit (ds ++ 110 ∷ after) ≡ length ds = digits_more digit ds (110 ∷ after) h ∙ omega (arith, stop) in
    let none : eqb (prefix_len digit (ds ++ 110 ∷ after)) 0 ≡ false = ne_eqb _ _ (λ e. absurd (omega (arith, e, count, some))) in
    let is = ap (λ (p : Kind × ℕ). p.1) (cond-false (eqb (prefix_len digit (ds ++ 110 ∷ after)) 0) (k.Number, 1) (with_suffix text (prefix_len digit (ds ++ 110 ∷ after) + 2)) none) in
    let here : slice_index text (prefix_len digit (ds ++ 110 ∷ after) + 2) ≡ 110 = get_or_at (48 ∷ letter ∷ ds) 110 after 0 _ (omega (arith, count)) in
    let suffix = ap (λ (p : Kind × ℕ). p.1) (cond-true (eqb (slice_index text (prefix_len digit (ds ++ 110 ∷ after) + 2)) 110) (k.BigInt, prefix_len digit (ds ++ 110 ∷ after) + 2 + 1) (k.Number, prefix_len digit (ds ++ 110 ∷ after) + 2) (eq-eqb _ _ here)) in
    omega (arith, is, suffix, count)

-- what holds for each letter of a base holds for a letter that has digits
each_letter : (P : ℕ → Type 0) → ((digit : ℕ → Bool) (letter : ℕ) → ((c : ℕ) → base_digit letter c ≡ digit c) → (digit 110 ≡ false) → ((rest : List ℕ) → numeric (48 ∷ letter ∷ rest) ≡ based digit (48 ∷ letter ∷ rest)) → P letter)
    → (letter d : ℕ) → base_digit letter d ≡ true → P letter
unfolding numeric
each_letter P step letter d h = go (eqb letter 120) (eqb letter 88) (eqb letter 111) (eqb letter 79) (eqb letter 98) (eqb letter 66) refl refl refl refl refl refl h
  where
    at : (c : ℕ) → eqb letter c ≡ true → P c → P letter
    at c e p = subst P (sym (eqb-true letter c e)) p

    go : (a b e f x y : Bool) → eqb letter 120 ≡ a → eqb letter 88 ≡ b → eqb letter 111 ≡ e → eqb letter 79 ≡ f → eqb letter 98 ≡ x → eqb letter 66 ≡ y
        → cond (a || b) (is_hex_digit d) (cond (e || f) (is_octal_digit d) (cond (x || y) (is_binary_digit d) false)) ≡ true → P letter
    go true b e f x y i j l m n o q = at 120 i (step is_hex_digit 120 (λ c. refl) refl (λ rest. refl))
    go false true e f x y i j l m n o q = at 88 j (step is_hex_digit 88 (λ c. refl) refl (λ rest. refl))
    go false false true f x y i j l m n o q = at 111 l (step is_octal_digit 111 (λ c. refl) refl (λ rest. refl))
    go false false false true x y i j l m n o q = at 79 m (step is_octal_digit 79 (λ c. refl) refl (λ rest. refl))
    go false false false false true y i j l m n o q = at 98 n (step is_binary_digit 98 (λ c. refl) refl (λ rest. refl))
    go false false false false false true i j l m n o q = at 66 o (step is_binary_digit 66 (λ c. refl) refl (λ rest. refl))
    go false false false false false false i j l m n o q = cc

pub same_digits : (digit other : ℕ → Bool) → ((c : ℕ) → digit c ≡ other c) → (ds : List ℕ) → prefix_len digit ds ≡ prefix_len other ds
same_digits digit other same [] = refl
same_digits digit other same (d ∷ ds) = rw (same d, same_digits digit other same ds) refl

based_covers : (letter : ℕ) (ds after : List ℕ) → 0 < length ds → AreDigits (base_digit letter) ds → 2 + length ds ≤ (numeric (48 ∷ letter ∷ (ds ++ after))).1
based_covers letter [] after some h = absurd (omega (arith, some))
based_covers letter (d ∷ ds) after some h =
    each_letter (λ x. AreDigits (base_digit x) (d ∷ ds) → 2 + length (d ∷ ds) ≤ (numeric (48 ∷ x ∷ ((d ∷ ds) ++ after))).1)
    (λ digit x same none_n is all. let e = ap (λ (p : Kind × ℕ). p.1) (is ((d ∷ ds) ++ after)) in let t = based_takes digit x (d ∷ ds) after some (sym (same_digits (base_digit x) digit same (d ∷ ds)) ∙ all) in omega (arith, e, t))
    letter d (first_digit (base_digit letter) d ds h) h

based_big_covers : (letter : ℕ) (ds after : List ℕ) → 0 < length ds → AreDigits (base_digit letter) ds → 3 + length ds ≤ (numeric (48 ∷ letter ∷ (ds ++ 110 ∷ after))).1
based_big_covers letter [] after some h = absurd (omega (arith, some))
based_big_covers letter (d ∷ ds) after some h =
    each_letter (λ x. AreDigits (base_digit x) (d ∷ ds) → 3 + length (d ∷ ds) ≤ (numeric (48 ∷ x ∷ ((d ∷ ds) ++ 110 ∷ after))).1)
    (λ digit x same none_n is all. let e = ap (λ (p : Kind × ℕ). p.1) (is ((d ∷ ds) ++ 110 ∷ after)) in let t = based_takes_big digit x (d ∷ ds) after none_n some (sym (same_digits (base_digit x) digit same (d ∷ ds)) ∙ all) in omega (arith, e, t))
    letter d (first_digit (base_digit letter) d ds h) h

-- ---- each number

no_digit_dot : (rest : List ℕ) → integer_part (46 ∷ rest) ≡ 0
unfolding integer_part digits_at
no_digit_dot rest = refl

other_dot : is_other 46 ≡ true
unfolding is_other
other_dot = refl

pub numeric_covers : (kind : Kind) (bytes after : List ℕ) → IsNumeric kind bytes → length bytes ≤ (numeric (bytes ++ after)).1
numeric_covers kind bytes after (IsNumeric.whole w _ h IsPower.no_power) =
    let same = ap (λ x. (numeric x).1) (append_assoc w [] after) in
    let l = integer_covers w after h in
    omega (arith, same, l, length-append w [])
numeric_covers kind bytes after (IsNumeric.whole w _ h (IsPower.power letter sign ds is s some more)) =
    let same = ap (λ x. (numeric x).1) (append_assoc w (letter ∷ (sign ++ ds)) after) in
    let l = power_covers w letter sign ds after h is s some more in
    omega (arith, same, l, length-append w (letter ∷ (sign ++ ds)))
numeric_covers kind bytes after (IsNumeric.fraction w ds e h digits exp) =
    let rest = (ds ++ e) ++ after in
    let same : (w ++ 46 ∷ (ds ++ e)) ++ after ≡ w ++ 46 ∷ rest = append_assoc w (46 ∷ (ds ++ e)) after in
    let whole = ap integer_part same ∙ integer_is w 46 rest h refl in
    let dec = ap numeric same ∙ integer_decimal w 46 rest h other_dot ∙ ap decimal (sym same) in
    let l = fraction_from w ds e after ((w ++ 46 ∷ (ds ++ e)) ++ after) same whole dec digits exp in
    omega (arith, l, length-append w (46 ∷ (ds ++ e)), length-append ds e)
numeric_covers kind bytes after (IsNumeric.point ds e some digits exp) =
    let l = fraction_from [] ds e after (46 ∷ ((ds ++ e) ++ after)) refl (no_digit_dot ((ds ++ e) ++ after)) (numeric_decimal (46 ∷ ((ds ++ e) ++ after)) (inl (λ z. absurd (omega (arith, z))))) digits exp in
    omega (arith, l, length-append ds e)
numeric_covers kind bytes after (IsNumeric.big w h) =
    let same = ap (λ x. (numeric x).1) (append_assoc w (110 ∷ []) after) in
    let l = big_covers w after h in
    omega (arith, same, l, length-append w (110 ∷ []))
numeric_covers kind bytes after (IsNumeric.based letter ds some h) = let l = based_covers letter ds after some h in omega (arith, l)
numeric_covers kind bytes after (IsNumeric.based_big letter ds some h) =
    let same = ap (λ x. (numeric (48 ∷ letter ∷ x)).1) (append_assoc ds (110 ∷ []) after) in
    let l = based_big_covers letter ds after some h in
    omega (arith, same, l, length-append ds (110 ∷ []))
