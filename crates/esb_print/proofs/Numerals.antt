-- Numbers, with other bytes behind them.
use Rattle.std.proofs.Common.{◌≡◌, ◌⊎◌, inl, inr, ℕ, ◌+◌, ◌<◌, ◌≤◌, Bool, true, false, cond, ◌&&◌, ◌||◌, eqb, nat_lt, List, [], ◌∷◌, ◌++◌, length, drop, slice_index, Some, None, refl, sym, ap, ◌∙◌, subst, arith, append_assoc, append-nil}
use Rattle.std.specs.List.{prefix_len}
use Rattle.std.proofs.lemmas.List.{drop_at}
use Rattle.std.proofs.lemmas.Bool.{ne_eqb, or_cases, and_parts, and_from, or_left, or_right, or_from, both_ways, cond-false}
use Rattle.std.proofs.lemmas.Bool.Decides.{nat_tests}
use Rattle.esb_token.specs.declared.kind.Kind.{Kind}
use Rattle.esb_token.specs.declared.kind.Kind.TheVariants as k
use Rattle.esb_token.specs.declared.goal.Goal.{Goal}
use Rattle.esb_token.specs.Characters.{is_digit, is_hex_digit}
use Rattle.esb_token.specs.Gaps.{separator}
use Rattle.esb_token.specs.Names.{identifier_start}
use Rattle.esb_token.specs.Numbers.{number, numeric, is_octal_digit, is_binary_digit}
use Rattle.esb_token.specs.Tokens.{token}
use Rattle.esb_token.specs.Grammar.{AreDigits, IsInteger, IsSign, IsPower, base_digit, IsNumeric}
use Rattle.esb_token.proofs.Covering.{starts_number}
use Rattle.esb_token.proofs.Figures.{first_digit, numeric_covers}
use Rattle.esb_token.proofs.SoundFigures.{Number, numeric_number}
use Rattle.esb_print.proofs.Behind.{is_among, among, quiet_bytes, is_quiet, quiet_joint, joint-no_start, plain-solid, Kept}

-- ---- the bytes of a number

-- digits of any base, the letters of the bases and of exponents, the point and the signs
abbrev is_figure : ℕ → Bool
is_figure c = is_hex_digit c || is_among c (120 ∷ 88 ∷ 111 ∷ 79 ∷ 46 ∷ 43 ∷ 45 ∷ [])

abbrev all_figures : List ℕ → Bool
all_figures [] = true
all_figures (b ∷ bs) = is_figure b && all_figures bs

figures_append : (xs ys : List ℕ) → all_figures xs ≡ true → all_figures ys ≡ true → all_figures (xs ++ ys) ≡ true
figures_append [] ys h g = g
figures_append (x ∷ xs) ys h g = let b = and_parts _ _ h in and_from _ _ b.0 (figures_append xs ys b.1 g)

digit_figure : (c : ℕ) → is_digit c ≡ true → is_figure c ≡ true
digit_figure c h = or_left (is_hex_digit c) _ (or_left _ _ (or_left (is_digit c) _ h))

hex_figure : (c : ℕ) → is_hex_digit c ≡ true → is_figure c ≡ true
hex_figure c h = or_left (is_hex_digit c) _ h

octal_figure : (c : ℕ) → is_octal_digit c ≡ true → is_figure c ≡ true
octal_figure c h = digit_figure c (grind (arith, nat_tests))

binary_figure : (c : ℕ) → is_binary_digit c ≡ true → is_figure c ≡ true
binary_figure c h = digit_figure c (grind (arith, nat_tests))

digits_figures : (digit : ℕ → Bool) → ((c : ℕ) → digit c ≡ true → is_figure c ≡ true) → (ds : List ℕ) → AreDigits digit ds → all_figures ds ≡ true
digits_figures digit each [] h = refl
digits_figures digit each (d ∷ ds) h = by (λ more. digits_figures digit each ds more) (digit d) refl h
  where
    by : (AreDigits digit ds → all_figures ds ≡ true) → (t : Bool) → digit d ≡ t → cond t (1 + prefix_len digit ds) 0 ≡ length (d ∷ ds) → (is_figure d && all_figures ds) ≡ true
    by later true is e = and_from _ _ (each d is) (later (omega (arith, e)))
    by later false is e = absurd (omega (arith, e))

integer_figures : (bytes : List ℕ) → IsInteger bytes → all_figures bytes ≡ true
integer_figures bytes (inl is) = subst (λ x. all_figures x ≡ true) (sym is) refl
integer_figures bytes (inr h) = digits_figures is_digit digit_figure bytes h.1

sign_figures : (bytes : List ℕ) → IsSign bytes → all_figures bytes ≡ true
sign_figures _ IsSign.no_sign = refl
sign_figures _ IsSign.plus = refl
sign_figures _ IsSign.minus = refl

power_letter : (letter : ℕ) → (eqb letter 101 || eqb letter 69) ≡ true → is_hex_digit letter ≡ true
power_letter letter h = grind (arith, nat_tests)

power_figures : (bytes : List ℕ) → IsPower bytes → all_figures bytes ≡ true
power_figures _ IsPower.no_power = refl
power_figures _ (IsPower.power letter sign digits is s some h) = and_from _ _ (hex_figure letter (power_letter letter is)) (figures_append sign digits (sign_figures sign s) (digits_figures is_digit digit_figure digits h))

base_hex : (letter : ℕ) → (eqb letter 120 || eqb letter 88) ≡ true → is_figure letter ≡ true
base_hex letter h = elim (or_cases (eqb letter 120) _ h) [
  | inl e ↦ or_right (is_hex_digit letter) _ (or_left (eqb letter 120) _ e)
  | inr e ↦ or_right (is_hex_digit letter) _ (or_right (eqb letter 120) _ (or_left (eqb letter 88) _ e))
]

base_octal : (letter : ℕ) → (eqb letter 111 || eqb letter 79) ≡ true → is_figure letter ≡ true
base_octal letter h = elim (or_cases (eqb letter 111) _ h) [
  | inl e ↦ or_right (is_hex_digit letter) _ (or_right (eqb letter 120) _ (or_right (eqb letter 88) _ (or_left (eqb letter 111) _ e)))
  | inr e ↦ or_right (is_hex_digit letter) _ (or_right (eqb letter 120) _ (or_right (eqb letter 88) _ (or_right (eqb letter 111) _ (or_left (eqb letter 79) _ e))))
]

base_binary : (letter : ℕ) → (eqb letter 98 || eqb letter 66) ≡ true → is_figure letter ≡ true
base_binary letter h = hex_figure letter (grind (arith, nat_tests))

record Based (letter c : ℕ) : Type 0 where
  base : is_figure letter ≡ true
  digit : is_figure c ≡ true

base_figures : (letter c : ℕ) → base_digit letter c ≡ true → Based letter c
base_figures letter c h = hex (eqb letter 120 || eqb letter 88) refl h
  where
    binary : (t : Bool) → (eqb letter 98 || eqb letter 66) ≡ t → cond t (is_binary_digit c) false ≡ true → Based letter c
    binary true is e = record { base = base_binary letter is; digit = binary_figure c e }
    binary false is e = cc

    octal : (t : Bool) → (eqb letter 111 || eqb letter 79) ≡ t → cond t (is_octal_digit c) (cond (eqb letter 98 || eqb letter 66) (is_binary_digit c) false) ≡ true → Based letter c
    octal true is e = record { base = base_octal letter is; digit = octal_figure c e }
    octal false is e = binary (eqb letter 98 || eqb letter 66) refl e

    hex : (t : Bool) → (eqb letter 120 || eqb letter 88) ≡ t → cond t (is_hex_digit c) (cond (eqb letter 111 || eqb letter 79) (is_octal_digit c) (cond (eqb letter 98 || eqb letter 66) (is_binary_digit c) false)) ≡ true → Based letter c
    hex true is e = record { base = base_hex letter is; digit = hex_figure c e }
    hex false is e = octal (eqb letter 111 || eqb letter 79) refl e

based_figures : (letter : ℕ) (ds : List ℕ) → 0 < length ds → AreDigits (base_digit letter) ds → all_figures (letter ∷ ds) ≡ true
based_figures letter [] some h = absurd (omega (arith, some))
based_figures letter (d ∷ ds) some h =
    and_from _ _ (base_figures letter d (first_digit (base_digit letter) d ds h)).base (digits_figures (base_digit letter) (λ c is. (base_figures letter c is).digit) (d ∷ ds) h)

-- a number of figures, or such with an `n` behind them
abbrev Shape : Kind → List ℕ → Type 0
Shape kind bytes = ((kind ≡ k.Number) × (all_figures bytes ≡ true)) ⊎ ((xs : List ℕ) × (kind ≡ k.BigInt) × (bytes ≡ xs ++ 110 ∷ []) × (all_figures xs ≡ true))

shape_of : {kind : Kind} {bytes : List ℕ} → IsNumeric kind bytes → Shape kind bytes
shape_of (IsNumeric.whole w e h exp) = inl (refl, figures_append w e (integer_figures w h) (power_figures e exp))
shape_of (IsNumeric.fraction w ds e h digits exp) = inl (refl, figures_append w (46 ∷ (ds ++ e)) (integer_figures w h) (figures_append ds e (digits_figures is_digit digit_figure ds digits) (power_figures e exp)))
shape_of (IsNumeric.point ds e some digits exp) = inl (refl, figures_append ds e (digits_figures is_digit digit_figure ds digits) (power_figures e exp))
shape_of (IsNumeric.big w h) = inr (w, refl, refl, integer_figures w h)
shape_of (IsNumeric.based letter ds some h) = inl (refl, based_figures letter ds some h)
shape_of (IsNumeric.based_big letter ds some h) = inr (48 ∷ letter ∷ ds, refl, refl, based_figures letter ds some h)

no_last : (xs : List ℕ) → all_figures (xs ++ 110 ∷ []) ≡ true → ⊥
no_last [] h = cc
no_last (x ∷ xs) h = no_last xs (and_parts _ _ h).1

-- so the bytes tell the kind
same_kind : (a b : Kind) (bytes : List ℕ) → Shape a bytes → Shape b bytes → a ≡ b
same_kind a b bytes (inl x) (inl y) = x.0 ∙ sym y.0
same_kind a b bytes (inl x) (inr y) = absurd (no_last y.0 (subst (λ w. all_figures w ≡ true) y.2 x.1))
same_kind a b bytes (inr x) (inl y) = absurd (no_last x.0 (subst (λ w. all_figures w ≡ true) x.2 y.1))
same_kind a b bytes (inr x) (inr y) = x.1 ∙ sym y.1

-- ---- a number ends before another byte

abbrev is_inside : ℕ → Bool
is_inside c = is_figure c || eqb c 110

abbrev all_inside : List ℕ → Bool
all_inside [] = true
all_inside (b ∷ bs) = is_inside b && all_inside bs

figures_inside : (xs ys : List ℕ) → all_figures xs ≡ true → all_inside ys ≡ true → all_inside (xs ++ ys) ≡ true
figures_inside [] ys h g = g
figures_inside (x ∷ xs) ys h g = let b = and_parts _ _ h in and_from _ _ (or_left (is_figure x) _ b.0) (figures_inside xs ys b.1 g)

shape_inside : (kind : Kind) (bytes : List ℕ) → Shape kind bytes → all_inside bytes ≡ true
shape_inside kind bytes (inl x) = subst (λ w. all_inside w ≡ true) (append-nil bytes) (figures_inside bytes [] x.1 refl)
shape_inside kind bytes (inr x) = subst (λ w. all_inside w ≡ true) (sym x.2) (figures_inside x.0 (110 ∷ []) x.3 refl)

quiet_outside : (d : ℕ) → is_quiet d ≡ true → is_inside d ≡ false
quiet_outside d h = among (λ x. is_inside x ≡ false) quiet_bytes d h (refl, (refl, (refl, (refl, (refl, (refl, (refl, (refl, (refl, (refl, tt))))))))))

no_more : (bs taken after : List ℕ) (d : ℕ) (z : List ℕ) → bs ++ d ∷ z ≡ taken ++ after → length bs ≤ length taken → all_inside taken ≡ true → is_inside d ≡ false → taken ≡ bs
no_more [] [] after d z e long inside out = refl
no_more [] (t ∷ taken) after d z e long inside out =
    let same : d ≡ t = ap (λ x. slice_index x 0) e in
    absurd (both_ways (is_inside t) (subst (λ x. is_inside x ≡ false) same out) (and_parts _ _ inside).0)
no_more (b ∷ bs) [] after d z e long inside out = absurd (omega (arith, long))
no_more (b ∷ bs) (t ∷ taken) after d z e long inside out =
    let same : b ≡ t = ap (λ x. slice_index x 0) e in
    ap (λ x. x ∷ taken) (sym same) ∙ ap (λ xs. b ∷ xs) (no_more bs taken after d z (ap (drop 1) e) (omega (arith, long)) (and_parts _ _ inside).1 out)

-- ---- a number begins as one

integer_starts : (w rest : List ℕ) → IsInteger w → starts_number (w ++ rest) ≡ true
integer_starts w rest (inl e) = subst (λ x. starts_number (x ++ rest) ≡ true) (sym e) refl
integer_starts [] rest (inr h) = absurd (omega (arith, h.0))
integer_starts (d ∷ ds) rest (inr h) = or_left _ _ (first_digit is_digit d ds h.1)

point_starts : (ds rest : List ℕ) → 0 < length ds → AreDigits is_digit ds → starts_number (46 ∷ (ds ++ rest)) ≡ true
point_starts [] rest some h = absurd (omega (arith, some))
point_starts (d ∷ ds) rest some h = first_digit is_digit d ds h

pub numeric_starts : (kind : Kind) (bytes z : List ℕ) → IsNumeric kind bytes → starts_number (bytes ++ z) ≡ true
numeric_starts kind bytes z (IsNumeric.whole w e h exp) = ap starts_number (append_assoc w e z) ∙ integer_starts w (e ++ z) h
numeric_starts kind bytes z (IsNumeric.fraction w ds e h digits exp) = ap starts_number (append_assoc w (46 ∷ (ds ++ e)) z) ∙ integer_starts w (46 ∷ ((ds ++ e) ++ z)) h
numeric_starts kind bytes z (IsNumeric.point ds e some digits exp) = ap (λ x. starts_number (46 ∷ x)) (append_assoc ds e z) ∙ point_starts ds (e ++ z) some digits
numeric_starts kind bytes z (IsNumeric.big w h) = ap starts_number (append_assoc w (110 ∷ []) z) ∙ integer_starts w (110 ∷ z) h
numeric_starts kind bytes z (IsNumeric.based letter ds some h) = refl
numeric_starts kind bytes z (IsNumeric.based_big letter ds some h) = refl

abbrev begins_number : ℕ → Bool
begins_number b = is_digit b || eqb b 46

number_first : (b : ℕ) (rest : List ℕ) → starts_number (b ∷ rest) ≡ true → begins_number b ≡ true
number_first b rest h = elim (or_cases (is_digit b) _ h) [ inl e ↦ or_left _ _ e | inr e ↦ or_right (is_digit b) _ (and_parts _ _ e).0 ]

number_other : (b c : ℕ) → begins_number b ≡ true → begins_number c ≡ false → eqb b c ≡ false
number_other b c h none = ne_eqb b c (λ e. both_ways (begins_number c) none (subst (λ x. begins_number x ≡ true) e h))

token_number : (g : Goal) (text : List ℕ) → starts_number text ≡ true → token g text ≡ number text
unfolding token
token_number g [] h = cc
token_number g (b ∷ rest) h =
    let f = number_first b rest h in
    rw (number_other b 47 f refl, number_other b 125 f refl, number_other b 96 f refl, number_other b 34 f refl, number_other b 39 f refl, h) refl

figure_low : (b : ℕ) → begins_number b ≡ true → 32 < b
figure_low b h = grind (arith, nat_tests)

figure_high : (b : ℕ) → begins_number b ≡ true → b < 127
figure_high b h = grind (arith, nat_tests)

number_solid : (text : List ℕ) → starts_number text ≡ true → separator text ≡ 0
number_solid [] h = cc
number_solid (b ∷ rest) h = let f = number_first b rest h in plain-solid b rest (figure_low b f) (figure_high b f) (number_other b 47 f refl)

-- ---- the number that is read

literal_of : (text : List ℕ) → starts_number text ≡ true → Number text (numeric text)
literal_of [] h = cc
literal_of (b ∷ rest) h = numeric_number b rest h

numeric-is : (kind : Kind) (bytes : List ℕ) (d : ℕ) (z : List ℕ) → IsNumeric kind bytes → is_quiet d ≡ true → numeric (bytes ++ d ∷ z) ≡ (kind, length bytes)
numeric-is kind bytes d z is quiet =
    let text = bytes ++ d ∷ z in
    let n = literal_of text (numeric_starts kind bytes (d ∷ z) is) in
    let size = n.size in
    let long = numeric_covers kind bytes (d ∷ z) is in
    let same : n.bytes ≡ bytes = no_more bytes n.bytes n.after d z n.split (omega (arith, size, long)) (shape_inside (numeric text).0 n.bytes (shape_of n.numeric)) (quiet_outside d quiet) in
    let kinds : (numeric text).0 ≡ kind = same_kind (numeric text).0 kind bytes (subst (λ x. Shape (numeric text).0 x) same (shape_of n.numeric)) (shape_of is) in
    let sizes : (numeric text).1 ≡ length bytes = sym size ∙ ap length same in
    λ i. (kinds i, sizes i)

quiet_no_digit : (d : ℕ) → is_quiet d ≡ true → is_digit d ≡ false
quiet_no_digit d h = among (λ x. is_digit x ≡ false) quiet_bytes d h (refl, (refl, (refl, (refl, (refl, (refl, (refl, (refl, (refl, (refl, tt))))))))))

number-is : (kind : Kind) (bytes : List ℕ) (d : ℕ) (z : List ℕ) → IsNumeric kind bytes → is_quiet d ≡ true → number (bytes ++ d ∷ z) ≡ Some (kind, length bytes)
unfolding number
number-is kind bytes d z is quiet =
    let text = bytes ++ d ∷ z in
    let literal = numeric-is kind bytes d z is quiet in
    let behind : drop (numeric text).1 text ≡ d ∷ z = drop_at bytes (d ∷ z) (numeric text).1 (sym (ap (λ (x : Kind × ℕ). x.1) literal)) in
    let digit : is_digit (slice_index (drop (numeric text).1 text) 0) ≡ false = ap (λ x. is_digit (slice_index x 0)) behind ∙ quiet_no_digit d quiet in
    let start : nat_lt 0 (identifier_start (drop (numeric text).1 text)) ≡ false = ap (λ x. nat_lt 0 (identifier_start x)) behind ∙ ap (λ n. nat_lt 0 n) (joint-no_start d z (quiet_joint d quiet)) in
    cond-false _ None _ (or_from _ _ digit start) ∙ ap Some literal

pub number-keep : (g : Goal) (kind : Kind) (bytes : List ℕ) (d : ℕ) (z : List ℕ) → IsNumeric kind bytes → is_quiet d ≡ true → Kept g kind bytes (d ∷ z)
number-keep g kind bytes d z is quiet =
    let starts = numeric_starts kind bytes (d ∷ z) is in
    record {
      read = token_number g (bytes ++ d ∷ z) starts ∙ number-is kind bytes d z is quiet;
      solid = number_solid (bytes ++ d ∷ z) starts;
    }

-- a number is a Number or a BigInt
pub number_kind : (kind : Kind) (bytes : List ℕ) → IsNumeric kind bytes → (kind ≡ k.Number) ⊎ (kind ≡ k.BigInt)
number_kind kind bytes is = by (shape_of is)
  where
    by : Shape kind bytes → (kind ≡ k.Number) ⊎ (kind ≡ k.BigInt)
    by (inl x) = inl x.0
    by (inr x) = inr x.1
