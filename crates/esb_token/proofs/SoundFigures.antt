-- Numbers that the lexer takes are numeric literals by the grammar.
use Rattle.std.proofs.Common.{◌≡◌, inl, inr, ℕ, zero, suc, ◌+◌, ◌<◌, Bool, true, false, cond, ◌&&◌, ◌||◌, eqb, nat_lt, List, [], ◌∷◌, ◌++◌, length, drop, slice_index, refl, sym, ap, ◌∙◌, subst, arith, append_assoc, length-append, append-nil, drop-drop}
use Rattle.std.specs.List.{prefix_len}
use Rattle.std.proofs.lemmas.List.{drop_at}
use Rattle.std.proofs.lemmas.Bool.{eqb-true, eqb-false, or_cases, and_parts, cond-false, cond-true, ltb-true}
use Rattle.esb_token.specs.declared.kind.Kind.{Kind}
use Rattle.esb_token.specs.declared.kind.Kind.TheVariants as k
use Rattle.esb_token.specs.Characters.{is_digit, is_hex_digit}
use Rattle.esb_token.specs.Numbers.{digits_at, with_suffix, exponent, integer_part, decimal, based, numeric, is_octal_digit, is_binary_digit}
use Rattle.esb_token.specs.Grammar.{AreDigits, IsInteger, IsSign, IsPower, base_digit, IsNumeric}
use Rattle.esb_token.proofs.Figures.{exponent_drop, digits_end, same_digits}
use Rattle.esb_token.proofs.Sound.{first_is, at_rest_first}

positive : (n : ℕ) → (n ≡ 0 → ⊥) → 0 < n
positive zero h = absurd (h refl)
positive (suc n) h = omega arith

-- ---- digits

record Digits (digit : ℕ → Bool) (text : List ℕ) : Type 0 where
  digits : List ℕ
  rest : List ℕ
  split : text ≡ digits ++ rest
  size : length digits ≡ prefix_len digit text
  all : AreDigits digit digits

digit_more : (digit : ℕ → Bool) (b : ℕ) (rest : List ℕ) → digit b ≡ true → prefix_len digit (b ∷ rest) ≡ 1 + prefix_len digit rest
digit_more digit b rest h = rw (h) (omega arith)

digits_of : (digit : ℕ → Bool) (text : List ℕ) → Digits digit text
digits_of digit [] = record { digits = []; rest = []; split = refl; size = refl; all = refl }
digits_of digit (b ∷ text) = go (digits_of digit text) (digit b) refl
  where
    go : Digits digit text → (t : Bool) → digit b ≡ t → Digits digit (b ∷ text)
    go d true is =
        let more = digit_more digit b text is in
        let again = digit_more digit b d.digits is in
        record { digits = b ∷ d.digits; rest = d.rest; split = ap (λ x. b ∷ x) d.split; size = omega (arith, d.size, more); all = omega (arith, d.all, again) }
    go d false is = record { digits = []; rest = b ∷ text; split = refl; size = sym (digits_end digit b text is); all = refl }

-- ---- exponents

record Power (text : List ℕ) (n : ℕ) : Type 0 where
  bytes : List ℕ
  rest : List ℕ
  split : text ≡ bytes ++ rest
  size : length bytes ≡ n
  power : IsPower bytes

power_from : (letter : ℕ) (sign text : List ℕ) → IsSign sign → (n : ℕ) → n ≡ cond ((eqb letter 101 || eqb letter 69) && nat_lt 0 (prefix_len is_digit text)) (1 + length sign + prefix_len is_digit text) 0 → Power (letter ∷ (sign ++ text)) n
power_from letter sign text s n is = go ((eqb letter 101 || eqb letter 69) && nat_lt 0 (prefix_len is_digit text)) refl is (digits_of is_digit text)
  where
    go : (t : Bool) → ((eqb letter 101 || eqb letter 69) && nat_lt 0 (prefix_len is_digit text)) ≡ t → n ≡ cond t (1 + length sign + prefix_len is_digit text) 0 → Digits is_digit text → Power (letter ∷ (sign ++ text)) n
    go true both e d =
        let some : 0 < prefix_len is_digit text = ltb-true 0 (prefix_len is_digit text) (and_parts _ _ both).1 in
        record {
          bytes = letter ∷ (sign ++ d.digits);
          rest = d.rest;
          split = ap (λ x. letter ∷ x) (ap (λ x. sign ++ x) d.split ∙ sym (append_assoc sign d.digits d.rest));
          size = omega (arith, e, d.size, length-append sign d.digits);
          power = IsPower.power letter sign d.digits (and_parts _ _ both).0 s (omega (arith, some, d.size)) d.all;
        }
    go false both e d = record { bytes = []; rest = letter ∷ (sign ++ text); split = refl; size = sym e; power = IsPower.no_power }

exponent_signless : (letter : ℕ) (text : List ℕ) → (eqb (slice_index text 0) 43 || eqb (slice_index text 0) 45) ≡ false
    → exponent (letter ∷ text) 0 ≡ cond ((eqb letter 101 || eqb letter 69) && nat_lt 0 (prefix_len is_digit text)) (1 + 0 + prefix_len is_digit text) 0
unfolding exponent digits_at
exponent_signless letter text h = rw (h) refl

exponent_signed : (letter b : ℕ) (text : List ℕ) → (eqb b 43 || eqb b 45) ≡ true
    → exponent (letter ∷ b ∷ text) 0 ≡ cond ((eqb letter 101 || eqb letter 69) && nat_lt 0 (prefix_len is_digit text)) (1 + 1 + prefix_len is_digit text) 0
unfolding exponent digits_at
exponent_signed letter b text h = rw (h) refl

sign_of : (b : ℕ) → (eqb b 43 || eqb b 45) ≡ true → IsSign (b ∷ [])
sign_of b h = elim (or_cases (eqb b 43) (eqb b 45) h) [
  | inl e ↦ subst (λ x. IsSign (x ∷ [])) (sym (eqb-true b 43 e)) IsSign.plus
  | inr e ↦ subst (λ x. IsSign (x ∷ [])) (sym (eqb-true b 45 e)) IsSign.minus
]

power_at : (text : List ℕ) → Power text (exponent text 0)
unfolding exponent
power_at [] = record { bytes = []; rest = []; split = refl; size = refl; power = IsPower.no_power }
power_at (letter ∷ []) = power_from letter [] [] IsSign.no_sign _ (exponent_signless letter [] refl)
power_at (letter ∷ b ∷ text) = go (eqb b 43 || eqb b 45) refl
  where
    go : (t : Bool) → (eqb b 43 || eqb b 45) ≡ t → Power (letter ∷ b ∷ text) (exponent (letter ∷ b ∷ text) 0)
    go true is = power_from letter (b ∷ []) text (sign_of b is) _ (exponent_signed letter b text is)
    go false is = power_from letter [] (b ∷ text) IsSign.no_sign _ (exponent_signless letter (b ∷ text) is)

-- ---- whole literals

-- a number with the kind and the bytes of a pair
pub record Number (text : List ℕ) (p : Kind × ℕ) : Type 0 where
  pub bytes : List ℕ
  pub after : List ℕ
  pub split : text ≡ bytes ++ after
  pub size : length bytes ≡ p.1
  pub numeric : IsNumeric p.0 bytes

pick : (text : List ℕ) (t : Bool) (x y : Kind × ℕ) → (t ≡ true → Number text x) → (t ≡ false → Number text y) → Number text (cond t x y)
pick text true x y hx hy = hx refl
pick text false x y hx hy = hy refl

-- a fraction behind an integer part, which may be left out
fraction_number : (w rest : List ℕ) (text : List ℕ) → text ≡ w ++ 46 ∷ rest → integer_part text ≡ length w
    → ((digits e : List ℕ) → length digits ≡ prefix_len is_digit rest → AreDigits is_digit digits → IsPower e → IsNumeric k.Number (w ++ 46 ∷ (digits ++ e)))
    → Number text (k.Number, integer_part text + 1 + digits_at text (integer_part text + 1) + exponent text (integer_part text + 1 + digits_at text (integer_part text + 1)))
unfolding digits_at
fraction_number w rest text is whole literal =
    let d = digits_of is_digit rest in
    let moved : drop (integer_part text + 1) text ≡ rest = ap (drop (integer_part text + 1)) (is ∙ sym (append_assoc w (46 ∷ []) rest)) ∙ drop_at (w ++ 46 ∷ []) rest _ (omega (arith, whole, length-append w (46 ∷ []))) in
    let n = digits_at text (integer_part text + 1) in
    let count : n ≡ length d.digits = ap (prefix_len is_digit) moved ∙ sym d.size in
    let further : drop (integer_part text + 1 + n) text ≡ d.rest = sym (drop-drop n (integer_part text + 1) text) ∙ ap (drop n) (moved ∙ d.split) ∙ drop_at d.digits d.rest n (sym count) in
    let exp : exponent text (integer_part text + 1 + n) ≡ exponent d.rest 0 = exponent_drop text (integer_part text + 1 + n) ∙ ap (λ x. exponent x 0) further in
    let p = power_at d.rest in
    let split : rest ≡ d.digits ++ (p.bytes ++ p.rest) = d.split ∙ ap (λ x. d.digits ++ x) p.split in
    record {
      bytes = w ++ 46 ∷ (d.digits ++ p.bytes);
      after = p.rest;
      split = is ∙ ap (λ x. w ++ 46 ∷ x) (split ∙ sym (append_assoc d.digits p.bytes p.rest)) ∙ sym (append_assoc w (46 ∷ (d.digits ++ p.bytes)) p.rest);
      size = omega (arith, whole, count, exp, p.size, length-append w (46 ∷ (d.digits ++ p.bytes)), length-append d.digits p.bytes);
      numeric = literal d.digits p.bytes d.size d.all p.power;
    }

-- a literal without a fraction
plain_number : (w rest text : List ℕ) → text ≡ w ++ rest → integer_part text ≡ length w → IsInteger w
    → Number text (cond (eqb (exponent text (integer_part text)) 0) (with_suffix text (integer_part text)) (k.Number, integer_part text + exponent text (integer_part text)))
plain_number w rest text is whole h =
    let moved : drop (integer_part text) text ≡ rest = ap (drop (integer_part text)) is ∙ drop_at w rest _ (sym whole) in
    let exp : exponent text (integer_part text) ≡ exponent rest 0 = exponent_drop text (integer_part text) ∙ ap (λ x. exponent x 0) moved in
    pick text (eqb (exponent text (integer_part text)) 0) (with_suffix text (integer_part text)) (k.Number, integer_part text + exponent text (integer_part text))
    (λ _. pick text (eqb (slice_index text (integer_part text)) 110) (k.BigInt, integer_part text + 1) (k.Number, integer_part text)
    (λ e. let f = first_is 110 rest (sym (at_rest_first w rest (integer_part text) (sym whole)) ∙ ap (λ x. slice_index x (integer_part text)) (sym is) ∙ eqb-true _ _ e) (omega arith) in
    record { bytes = w ++ 110 ∷ []; after = f.rest; split = is ∙ ap (λ x. w ++ x) f.is ∙ sym (append_assoc w (110 ∷ []) f.rest); size = omega (arith, whole, length-append w (110 ∷ [])); numeric = IsNumeric.big w h })
    (λ _. record { bytes = w ++ []; after = rest; split = is ∙ ap (λ x. x ++ rest) (sym (append-nil w)); size = omega (arith, whole, length-append w []); numeric = IsNumeric.whole w [] h IsPower.no_power }))
    (λ _. let p = power_at rest in
    record { bytes = w ++ p.bytes; after = p.rest; split = is ∙ ap (λ x. w ++ x) p.split ∙ sym (append_assoc w p.bytes p.rest); size = omega (arith, whole, exp, p.size, length-append w p.bytes); numeric = IsNumeric.whole w p.bytes h p.power })

-- a decimal literal with an integer part
decimal_number : (w rest text : List ℕ) → text ≡ w ++ rest → integer_part text ≡ length w → IsInteger w → Number text (decimal text)
unfolding decimal
decimal_number w rest text is whole h =
    let fraction = integer_part text + 1 + digits_at text (integer_part text + 1) in
    pick text (eqb (slice_index text (integer_part text)) 46) (k.Number, fraction + exponent text fraction) _
    (λ e. let f = first_is 46 rest (sym (at_rest_first w rest (integer_part text) (sym whole)) ∙ ap (λ x. slice_index x (integer_part text)) (sym is) ∙ eqb-true _ _ e) (omega arith) in
    fraction_number w f.rest text (is ∙ ap (λ x. w ++ x) f.is) whole (λ digits e _ d p. IsNumeric.fraction w digits e h d p))
    (λ _. plain_number w rest text is whole h)

-- one that begins with a digit
decimal_digit : (b : ℕ) (rest : List ℕ) → is_digit b ≡ true → Number (b ∷ rest) (decimal (b ∷ rest))
unfolding integer_part digits_at
decimal_digit b rest is = go (eqb b 48) refl
  where
    zeros : eqb b 48 ≡ true → integer_part (b ∷ rest) ≡ 1
    zeros e = cond-true (eqb b 48) 1 _ e

    others : eqb b 48 ≡ false → integer_part (b ∷ rest) ≡ prefix_len is_digit (b ∷ rest)
    others e = cond-false (eqb b 48) 1 _ e

    first_of : (ds tail : List ℕ) → b ∷ rest ≡ ds ++ tail → 0 < length ds → slice_index ds 0 ≡ b
    first_of [] tail e some = absurd (omega (arith, some))
    first_of (d ∷ ds) tail e some = sym (ap (λ x. slice_index x 0) e)

    go : (t : Bool) → eqb b 48 ≡ t → Number (b ∷ rest) (decimal (b ∷ rest))
    go true e = decimal_number (b ∷ []) rest (b ∷ rest) refl (zeros e) (inl (ap (λ x. x ∷ []) (eqb-true b 48 e)))
    go false e =
        let d = digits_of is_digit (b ∷ rest) in
        let count = digit_more is_digit b rest is in
        let some : 0 < length d.digits = omega (arith, d.size, count) in
        decimal_number d.digits d.rest (b ∷ rest) d.split (others e ∙ sym d.size) (inr (some, d.all, λ z. eqb-false b 48 e (sym (first_of d.digits d.rest d.split some) ∙ z)))

no_digit_dot : (rest : List ℕ) → integer_part (46 ∷ rest) ≡ 0
unfolding integer_part digits_at
no_digit_dot rest = refl

-- one that begins with a `.` and a digit
decimal_dot : (b : ℕ) (rest : List ℕ) → is_digit b ≡ true → Number (46 ∷ b ∷ rest) (decimal (46 ∷ b ∷ rest))
unfolding decimal
decimal_dot b rest is =
    let text = 46 ∷ b ∷ rest in
    let none = no_digit_dot (b ∷ rest) in
    let fraction = integer_part text + 1 + digits_at text (integer_part text + 1) in
    pick text (eqb (slice_index text (integer_part text)) 46) (k.Number, fraction + exponent text fraction) _
    (λ _. fraction_number [] (b ∷ rest) text refl none (λ digits e size d p. let more = digit_more is_digit b rest is in IsNumeric.point digits e (omega (arith, size, more)) d p))
    (λ no. let bad : eqb (slice_index text (integer_part text)) 46 ≡ true = ap (λ n. eqb (slice_index text n) 46) none in (let wrong : true ≡ false = sym bad ∙ no in cc))

-- ---- the other bases

based_number : (digit : ℕ → Bool) (letter : ℕ) (rest : List ℕ) → ((c : ℕ) → base_digit letter c ≡ digit c) → Number (48 ∷ letter ∷ rest) (based digit (48 ∷ letter ∷ rest))
unfolding based
based_number digit letter rest same =
    let text = 48 ∷ letter ∷ rest in
    let n = prefix_len digit rest in
    pick text (eqb n 0) (k.Number, 1) (with_suffix text (n + 2))
    (λ _. record { bytes = (48 ∷ []) ++ []; after = letter ∷ rest; split = refl; size = refl; numeric = IsNumeric.whole (48 ∷ []) [] (inl refl) IsPower.no_power })
    (λ no. go (eqb-false n 0 no) (digits_of digit rest))
  where
    all_of : (ds : List ℕ) → AreDigits digit ds → AreDigits (base_digit letter) ds
    all_of ds h = same_digits (base_digit letter) digit same ds ∙ h

    go : (prefix_len digit rest ≡ 0 → ⊥) → Digits digit rest → Number (48 ∷ letter ∷ rest) (with_suffix (48 ∷ letter ∷ rest) (prefix_len digit rest + 2))
    go some d =
        let text = 48 ∷ letter ∷ rest in
        let n = prefix_len digit rest in
        let long : 0 < length d.digits = positive _ (λ z. some (sym d.size ∙ z)) in
        let split : text ≡ (48 ∷ letter ∷ d.digits) ++ d.rest = ap (λ x. 48 ∷ letter ∷ x) d.split in
        pick text (eqb (slice_index text (n + 2)) 110) (k.BigInt, n + 2 + 1) (k.Number, n + 2)
        (λ e. let f = first_is 110 d.rest (sym (at_rest_first (48 ∷ letter ∷ d.digits) d.rest (n + 2) (omega (arith, d.size))) ∙ ap (λ x. slice_index x (n + 2)) (sym split) ∙ eqb-true _ _ e) (omega arith) in
        record { bytes = 48 ∷ letter ∷ (d.digits ++ 110 ∷ []); after = f.rest; split = split ∙ ap (λ x. 48 ∷ letter ∷ (d.digits ++ x)) f.is ∙ ap (λ x. 48 ∷ letter ∷ x) (sym (append_assoc d.digits (110 ∷ []) f.rest)); size = omega (arith, d.size, length-append d.digits (110 ∷ [])); numeric = IsNumeric.based_big letter d.digits long (all_of d.digits d.all) })
        (λ _. record { bytes = 48 ∷ letter ∷ d.digits; after = d.rest; split = split; size = omega (arith, d.size); numeric = IsNumeric.based letter d.digits long (all_of d.digits d.all) })

-- a letter that is one of two
by_letter : (P : ℕ → Type 0) (letter a b : ℕ) → (eqb letter a || eqb letter b) ≡ true → P a → P b → P letter
by_letter P letter a b h x y = elim (or_cases (eqb letter a) (eqb letter b) h) [ inl e ↦ subst P (sym (eqb-true letter a e)) x | inr e ↦ subst P (sym (eqb-true letter b e)) y ]

numeric_zero : (letter : ℕ) (rest : List ℕ) → Number (48 ∷ letter ∷ rest) (numeric (48 ∷ letter ∷ rest))
unfolding numeric
numeric_zero letter rest =
    let text = 48 ∷ letter ∷ rest in
    pick text (eqb letter 120 || eqb letter 88) (based is_hex_digit text) _
    (λ h. by_letter (λ x. Number (48 ∷ x ∷ rest) (based is_hex_digit (48 ∷ x ∷ rest))) letter 120 88 h (based_number is_hex_digit 120 rest (λ c. refl)) (based_number is_hex_digit 88 rest (λ c. refl)))
    (λ _. pick text (eqb letter 111 || eqb letter 79) (based is_octal_digit text) _
    (λ h. by_letter (λ x. Number (48 ∷ x ∷ rest) (based is_octal_digit (48 ∷ x ∷ rest))) letter 111 79 h (based_number is_octal_digit 111 rest (λ c. refl)) (based_number is_octal_digit 79 rest (λ c. refl)))
    (λ _. pick text (eqb letter 98 || eqb letter 66) (based is_binary_digit text) _
    (λ h. by_letter (λ x. Number (48 ∷ x ∷ rest) (based is_binary_digit (48 ∷ x ∷ rest))) letter 98 66 h (based_number is_binary_digit 98 rest (λ c. refl)) (based_number is_binary_digit 66 rest (λ c. refl)))
    (λ _. decimal_digit 48 (letter ∷ rest) refl)))

numeric_digit : (b : ℕ) (rest : List ℕ) → is_digit b ≡ true → Number (b ∷ rest) (numeric (b ∷ rest))
unfolding numeric
numeric_digit b [] is = go (eqb b 48) refl
  where
    go : (t : Bool) → eqb b 48 ≡ t → Number (b ∷ []) (numeric (b ∷ []))
    go true e = subst (λ (x : Kind × ℕ). Number (b ∷ []) x) (sym (cond-true (eqb b 48) _ (decimal (b ∷ [])) e)) (decimal_digit b [] is)
    go false e = subst (λ (x : Kind × ℕ). Number (b ∷ []) x) (sym (cond-false (eqb b 48) _ (decimal (b ∷ [])) e)) (decimal_digit b [] is)
numeric_digit b (letter ∷ rest) is = go (eqb b 48) refl
  where
    go : (t : Bool) → eqb b 48 ≡ t → Number (b ∷ letter ∷ rest) (numeric (b ∷ letter ∷ rest))
    go true e = subst (λ x. Number (x ∷ letter ∷ rest) (numeric (x ∷ letter ∷ rest))) (sym (eqb-true b 48 e)) (numeric_zero letter rest)
    go false e = subst (λ (x : Kind × ℕ). Number (b ∷ letter ∷ rest) x) (sym (cond-false (eqb b 48) _ (decimal (b ∷ letter ∷ rest)) e)) (decimal_digit b (letter ∷ rest) is)

numeric_dot : (b : ℕ) (rest : List ℕ) → is_digit b ≡ true → Number (46 ∷ b ∷ rest) (numeric (46 ∷ b ∷ rest))
unfolding numeric
numeric_dot b rest is = decimal_dot b rest is

pub numeric_number : (b : ℕ) (rest : List ℕ) → (is_digit b || (eqb b 46 && is_digit (slice_index rest 0))) ≡ true → Number (b ∷ rest) (numeric (b ∷ rest))
numeric_number b rest h = elim (or_cases (is_digit b) (eqb b 46 && is_digit (slice_index rest 0)) h) [
  | inl e ↦ numeric_digit b rest e
  | inr e ↦ subst (λ x. Number (x ∷ rest) (numeric (x ∷ rest))) (sym (eqb-true b 46 (and_parts (eqb b 46) _ e).0)) (dotted rest (and_parts (eqb b 46) _ e).1)
]
  where
    dotted : (tail : List ℕ) → is_digit (slice_index tail 0) ≡ true → Number (46 ∷ tail) (numeric (46 ∷ tail))
    dotted [] e = cc
    dotted (d ∷ tail) e = numeric_dot d tail e
