-- Reading a number is exact.
use Rattle.std.proofs.Common.{◌≡◌, ℕ, zero, suc, ◌+◌, ◌-◌, ◌^◌, ◌<◌, ◌≤◌, Bool, true, false, cond, ◌||◌, ◌⊎◌, eqb, List, [], ◌∷◌, ◌++◌, length, get_or, take, Option, Some, None, refl, sym, ap, subst, ◌∙◌, append_assoc, arith, inl, inr}
use Rattle.std.specs.Char.{is_ascii_digit}
use Rattle.std.specs.Int.{is_in_range}
use Rattle.std.specs.Prelude.{IsUtf8}
use Rattle.std.specs.Str.{is_utf8, IsAscii}
use Rattle.std.proofs.lemmas.Bool.{eqb-true, or_parts}
use Rattle.std.proofs.lemmas.Bool.Decides.{nat_tests}
use Rattle.std.proofs.lemmas.Option.{cond_some}
use Rattle.std.proofs.lemmas.List.{take_at, length-append}
use Rattle.std.proofs.lemmas.Str.{IsUtf8-from_ascii, is_utf8-from_IsUtf8, IsAscii-append}
use Rattle.esb_json.specs.Grammar.{Each, is_e, is_sign, IsMinus, IsDigits, IsInteger, IsFraction, IsSigned, IsExponent, IsNumber}
use Rattle.esb_json.specs.Reading.{◌>>=◌, skip, past_minus, past_digits, past_integer, past_fraction, past_sign, past_exponent, past_number, number_at}
use Rattle.esb_json.proofs.Exact.{bind_some, some_is, chosen, cond_taken, or_true, Apart, Cuts, Stands, IsExact, skip_takes, skip_again}

-- ---- bytes of a number

abbrev is_minus : ℕ → Bool
is_minus b = eqb b 0x2D

abbrev is_point : ℕ → Bool
is_point b = eqb b 0x2E

-- what goes on a number
abbrev pub is_number_part : ℕ → Bool
is_number_part b = is_ascii_digit b || (is_point b || is_e b)

abbrev pub EndsNumber : List ℕ → Type 0
EndsNumber rest = Apart is_number_part rest

ends_digit : (rest : List ℕ) → EndsNumber rest → Apart is_ascii_digit rest
ends_digit [] h = tt
ends_digit (b ∷ rest) h = (or_parts (is_ascii_digit b) (is_point b || is_e b) h).0

ends_point : (rest : List ℕ) → EndsNumber rest → Apart is_point rest
ends_point [] h = tt
ends_point (b ∷ rest) h = (or_parts (is_point b) (is_e b) (or_parts (is_ascii_digit b) (is_point b || is_e b) h).1).0

ends_e : (rest : List ℕ) → EndsNumber rest → Apart is_e rest
ends_e [] h = tt
ends_e (b ∷ rest) h = (or_parts (is_point b) (is_e b) (or_parts (is_ascii_digit b) (is_point b || is_e b) h).1).1

e_is : (b : ℕ) → is_e b ≡ true → (b ≡ 0x65) ⊎ (b ≡ 0x45)
e_is b h = elim (or_true (eqb b 0x65) (eqb b 0x45) h) [ inl p ↦ inl (eqb-true b 0x65 p) | inr p ↦ inr (eqb-true b 0x45 p) ]

sign_is : (b : ℕ) → is_sign b ≡ true → (b ≡ 0x2B) ⊎ (b ≡ 0x2D)
sign_is b h = elim (or_true (eqb b 0x2B) (eqb b 0x2D) h) [ inl p ↦ inl (eqb-true b 0x2B p) | inr p ↦ inr (eqb-true b 0x2D p) ]

digit_no_zero : (d : ℕ) → is_in_range 0x31 0x39 d ≡ true → eqb d 0x30 ≡ false
digit_no_zero d h = grind (arith, nat_tests)

digit_no_minus : (d : ℕ) → is_in_range 0x31 0x39 d ≡ true → eqb d 0x2D ≡ false
digit_no_minus d h = grind (arith, nat_tests)

digit_no_sign : (d : ℕ) → is_ascii_digit d ≡ true → is_sign d ≡ false
digit_no_sign d h = grind (arith, nat_tests)

-- ---- a minus

minus_step : (b : ℕ) (rest : List ℕ) (t : Bool) → eqb b 0x2D ≡ t → Cuts IsMinus (b ∷ rest) (cond t rest (b ∷ rest))
minus_step b rest true e = record { text = b ∷ []; spelled = (eqb-true b 0x2D e, refl); parts = refl }
minus_step b rest false e = record { text = []; spelled = tt; parts = refl }

minus_takes : (bytes : List ℕ) → Cuts IsMinus bytes (past_minus bytes)
unfolding past_minus
minus_takes [] = record { text = []; spelled = tt; parts = refl }
minus_takes (b ∷ rest) = minus_step b rest (eqb b 0x2D) refl

minus_again : (text rest : List ℕ) → IsMinus text → Apart is_minus rest → past_minus (text ++ rest) ≡ rest
unfolding past_minus
minus_again [] [] m h = refl
minus_again [] (b ∷ rest) m h = ap (λ (t : Bool). cond t rest (b ∷ rest)) h
minus_again (b ∷ bs) rest m h = rw (m.0, m.1) refl

-- ---- digits

digits_takes : (bytes rest : List ℕ) → past_digits bytes ≡ Some rest → Cuts IsDigits bytes rest
unfolding past_digits
digits_takes [] rest e = absurd cc
digits_takes (b ∷ bytes) rest e =
    let p = cond_taken (is_ascii_digit b) (Some (skip is_ascii_digit bytes)) rest e in
    let s = skip_takes is_ascii_digit bytes in
    record {
      text = b ∷ s.text;
      spelled = (p.0, s.spelled);
      parts = ap (λ (t : List ℕ). b ∷ t) (s.parts ∙ ap (λ (r : List ℕ). s.text ++ r) (some_is (skip is_ascii_digit bytes) rest p.1));
    }

digits_again : (text rest : List ℕ) → IsDigits text → Apart is_ascii_digit rest → past_digits (text ++ rest) ≡ Some rest
unfolding past_digits
digits_again [] rest d h = absurd d
digits_again (b ∷ ds) rest d h =
    ap (λ (t : Bool). cond t (Some (skip is_ascii_digit (ds ++ rest))) None) d.0 ∙ ap (λ (r : List ℕ). Some r) (skip_again is_ascii_digit ds rest d.1 h)

-- ---- a whole number

integer_takes : (bytes rest : List ℕ) → past_integer bytes ≡ Some rest → Cuts IsInteger bytes rest
unfolding past_integer
integer_takes [] rest e = absurd cc
integer_takes (b ∷ bytes) rest e =
    elim (chosen (eqb b 0x30) (Some bytes) (cond (is_in_range 0x31 0x39 b) (Some (skip is_ascii_digit bytes)) None) (Some rest) e) [
      | inl p ↦ record { text = b ∷ []; spelled = inl (eqb-true b 0x30 p.0, refl); parts = ap (λ (t : List ℕ). b ∷ t) (some_is bytes rest p.1) }
      | inr p ↦
          let q = cond_taken (is_in_range 0x31 0x39 b) (Some (skip is_ascii_digit bytes)) rest p.1 in
          let s = skip_takes is_ascii_digit bytes in
          record {
            text = b ∷ s.text;
            spelled = inr (q.0, s.spelled);
            parts = ap (λ (t : List ℕ). b ∷ t) (s.parts ∙ ap (λ (r : List ℕ). s.text ++ r) (some_is (skip is_ascii_digit bytes) rest q.1));
          }
    ]

integer_again : (text rest : List ℕ) → IsInteger text → Apart is_ascii_digit rest → past_integer (text ++ rest) ≡ Some rest
unfolding past_integer
integer_again [] rest d h = absurd d
integer_again (b ∷ ds) rest (inl p) h = rw (p.0, p.1) refl
integer_again (b ∷ ds) rest (inr p) h =
    ap (λ (t : Bool). cond t (Some (ds ++ rest)) (cond (is_in_range 0x31 0x39 b) (Some (skip is_ascii_digit (ds ++ rest))) None)) (digit_no_zero b p.0)
    ∙ ap (λ (t : Bool). cond t (Some (skip is_ascii_digit (ds ++ rest))) None) p.0 ∙ ap (λ (r : List ℕ). Some r) (skip_again is_ascii_digit ds rest p.1 h)

-- ---- a fraction

fraction_takes : (bytes rest : List ℕ) → past_fraction bytes ≡ Some rest → Cuts IsFraction bytes rest
unfolding past_fraction
fraction_takes [] rest e = record { text = []; spelled = tt; parts = some_is [] rest e }
fraction_takes (b ∷ bytes) rest e =
    elim (chosen (eqb b 0x2E) (past_digits bytes) (Some (b ∷ bytes)) (Some rest) e) [
      | inl p ↦
          let d = digits_takes bytes rest p.1 in
          record { text = b ∷ d.text; spelled = (eqb-true b 0x2E p.0, d.spelled); parts = ap (λ (t : List ℕ). b ∷ t) d.parts }
      | inr p ↦ record { text = []; spelled = tt; parts = some_is (b ∷ bytes) rest p.1 }
    ]

fraction_again : (text rest : List ℕ) → IsFraction text → Apart is_ascii_digit rest → Apart is_point rest → past_fraction (text ++ rest) ≡ Some rest
unfolding past_fraction
fraction_again [] [] f h p = refl
fraction_again [] (b ∷ rest) f h p = ap (λ (t : Bool). cond t (past_digits rest) (Some (b ∷ rest))) p
fraction_again (b ∷ ds) rest f h p = rw f.0 (digits_again ds rest f.1 h)

-- ---- an exponent

signed_digits : (text : List ℕ) → IsDigits text → IsSigned text
signed_digits [] d = absurd d
signed_digits (b ∷ ds) d = inr d

sign_step : (b : ℕ) (bytes rest : List ℕ) (t : Bool) → is_sign b ≡ t → past_digits (cond t bytes (b ∷ bytes)) ≡ Some rest → Cuts IsSigned (b ∷ bytes) rest
sign_step b bytes rest true h e =
    let d = digits_takes bytes rest e in
    record { text = b ∷ d.text; spelled = inl (h, d.spelled); parts = ap (λ (t : List ℕ). b ∷ t) d.parts }
sign_step b bytes rest false h e =
    let d = digits_takes (b ∷ bytes) rest e in
    record { text = d.text; spelled = signed_digits d.text d.spelled; parts = d.parts }

no_digits : (rest : List ℕ) → past_digits (past_sign []) ≡ Some rest → ⊥
unfolding past_digits past_sign
no_digits rest e = cc

signed_takes : (bytes rest : List ℕ) → past_digits (past_sign bytes) ≡ Some rest → Cuts IsSigned bytes rest
unfolding past_sign
signed_takes [] rest e = absurd (no_digits rest e)
signed_takes (b ∷ bytes) rest e = sign_step b bytes rest (is_sign b) refl e

signed_again : (text rest : List ℕ) → IsSigned text → Apart is_ascii_digit rest → past_digits (past_sign (text ++ rest)) ≡ Some rest
unfolding past_sign
signed_again [] rest s h = absurd s
signed_again (b ∷ ds) rest (inl p) h = ap (λ (t : Bool). past_digits (cond t (ds ++ rest) (b ∷ (ds ++ rest)))) p.0 ∙ digits_again ds rest p.1 h
signed_again (b ∷ ds) rest (inr d) h = ap (λ (t : Bool). past_digits (cond t (ds ++ rest) (b ∷ (ds ++ rest)))) (digit_no_sign b d.0) ∙ digits_again (b ∷ ds) rest d h

exponent_takes : (bytes rest : List ℕ) → past_exponent bytes ≡ Some rest → Cuts IsExponent bytes rest
unfolding past_exponent
exponent_takes [] rest e = record { text = []; spelled = tt; parts = some_is [] rest e }
exponent_takes (b ∷ bytes) rest e =
    elim (chosen (is_e b) (past_digits (past_sign bytes)) (Some (b ∷ bytes)) (Some rest) e) [
      | inl p ↦
          let d = signed_takes bytes rest p.1 in
          record { text = b ∷ d.text; spelled = (p.0, d.spelled); parts = ap (λ (t : List ℕ). b ∷ t) d.parts }
      | inr p ↦ record { text = []; spelled = tt; parts = some_is (b ∷ bytes) rest p.1 }
    ]

exponent_again : (text rest : List ℕ) → IsExponent text → Apart is_ascii_digit rest → Apart is_e rest → past_exponent (text ++ rest) ≡ Some rest
unfolding past_exponent
exponent_again [] [] x h p = refl
exponent_again [] (b ∷ rest) x h p = ap (λ (t : Bool). cond t (past_digits (past_sign rest)) (Some (b ∷ rest))) p
exponent_again (b ∷ text) rest x h p = ap (λ (t : Bool). cond t (past_digits (past_sign (text ++ rest))) (Some (b ∷ (text ++ rest)))) x.0 ∙ signed_again text rest x.1 h

-- ---- the whole

minus_ends : (text rest : List ℕ) → IsInteger text → Apart is_minus (text ++ rest)
minus_ends [] rest d = absurd d
minus_ends (d ∷ ds) rest (inl p) = rw p.0 refl
minus_ends (d ∷ ds) rest (inr p) = digit_no_minus d p.0

exponent_apart : (text rest : List ℕ) → IsExponent text → EndsNumber rest → Apart is_ascii_digit (text ++ rest) × Apart is_point (text ++ rest)
exponent_apart [] rest x h = (ends_digit rest h, ends_point rest h)
exponent_apart (b ∷ text) rest x h = elim (e_is b x.0) [ inl p ↦ (rw p refl, rw p refl) | inr p ↦ (rw p refl, rw p refl) ]

fraction_apart : (text rest : List ℕ) → IsFraction text → Apart is_ascii_digit rest → Apart is_ascii_digit (text ++ rest)
fraction_apart [] rest f h = h
fraction_apart (b ∷ ds) rest f h = rw f.0 refl

regroup : (a b c d e : List ℕ) → a ++ (b ++ (c ++ (d ++ e))) ≡ (a ++ (b ++ (c ++ d))) ++ e
regroup a b c d e = simp append_assoc

number_takes : (bytes rest : List ℕ) → past_number bytes ≡ Some rest → Cuts IsNumber bytes rest
unfolding past_number
number_takes bytes rest e =
    let a = bind_some (past_integer (past_minus bytes)) (λ integer. past_fraction integer >>= λ fraction. past_exponent fraction) rest e in
    let b = bind_some (past_fraction a.0) (λ fraction. past_exponent fraction) rest a.2 in
    let m = minus_takes bytes in
    let i = integer_takes (past_minus bytes) a.0 a.1 in
    let f = fraction_takes a.0 b.0 b.1 in
    let x = exponent_takes b.0 rest b.2 in
    record {
      text = m.text ++ (i.text ++ (f.text ++ x.text));
      spelled = record {
        minus = m.text;
        integer = i.text;
        fraction = f.text;
        exponent = x.text;
        is_minus = m.spelled;
        is_integer = i.spelled;
        is_fraction = f.spelled;
        is_exponent = x.spelled;
        parts = refl;
      };
      parts = m.parts ∙ ap (λ (t : List ℕ). m.text ++ t) (i.parts ∙ ap (λ (t : List ℕ). i.text ++ t) (f.parts ∙ ap (λ (t : List ℕ). f.text ++ t) x.parts)) ∙ regroup m.text i.text f.text x.text rest;
    }

number_again : (text rest : List ℕ) → IsNumber text → EndsNumber rest → past_number (text ++ rest) ≡ Some rest
unfolding past_number
number_again text rest n ends =
    let x = exponent_apart n.exponent rest n.is_exponent ends in
    let f = fraction_apart n.fraction (n.exponent ++ rest) n.is_fraction x.0 in
    let grouped : text ++ rest ≡ n.minus ++ (n.integer ++ (n.fraction ++ (n.exponent ++ rest))) = ap (λ (t : List ℕ). t ++ rest) n.parts ∙ sym (regroup n.minus n.integer n.fraction n.exponent rest) in
    rw (
      grouped,
      minus_again n.minus (n.integer ++ (n.fraction ++ (n.exponent ++ rest))) n.is_minus (minus_ends n.integer (n.fraction ++ (n.exponent ++ rest)) n.is_integer),
      integer_again n.integer (n.fraction ++ (n.exponent ++ rest)) n.is_integer f,
      fraction_again n.fraction (n.exponent ++ rest) n.is_fraction x.0 x.1,
    ) (exponent_again n.exponent rest n.is_exponent (ends_digit rest ends) (ends_e rest ends))

-- ---- its bytes

ascii_nil : IsAscii []
ascii_nil i = omega arith

ascii_cons : (b : ℕ) (bs : List ℕ) → b < 128 → IsAscii bs → IsAscii (b ∷ bs)
ascii_cons b bs lt h zero = lt
ascii_cons b bs lt h (suc i) = h i

digit_ascii : (d : ℕ) → is_ascii_digit d ≡ true → d < 128
digit_ascii d h = grind (arith, nat_tests)

first_ascii : (d : ℕ) → is_in_range 0x31 0x39 d ≡ true → d < 128
first_ascii d h = grind (arith, nat_tests)

each_ascii : (ds : List ℕ) → Each is_ascii_digit ds → IsAscii ds
each_ascii [] h = ascii_nil
each_ascii (d ∷ ds) h = ascii_cons d ds (digit_ascii d h.0) (each_ascii ds h.1)

digits_ascii : (ds : List ℕ) → IsDigits ds → IsAscii ds
digits_ascii [] h = absurd h
digits_ascii (d ∷ ds) h = ascii_cons d ds (digit_ascii d h.0) (each_ascii ds h.1)

minus_ascii : (text : List ℕ) → IsMinus text → IsAscii text
minus_ascii [] m = ascii_nil
minus_ascii (b ∷ bs) m = ascii_cons b bs (omega arith) (rw m.1 ascii_nil)

integer_ascii : (text : List ℕ) → IsInteger text → IsAscii text
integer_ascii [] d = absurd d
integer_ascii (b ∷ ds) (inl p) = ascii_cons b ds (omega (arith, p.0)) (rw p.1 ascii_nil)
integer_ascii (b ∷ ds) (inr p) = ascii_cons b ds (first_ascii b p.0) (each_ascii ds p.1)

fraction_ascii : (text : List ℕ) → IsFraction text → IsAscii text
fraction_ascii [] f = ascii_nil
fraction_ascii (b ∷ ds) f = ascii_cons b ds (omega (arith, f.0)) (digits_ascii ds f.1)

sign_ascii : (b : ℕ) → is_sign b ≡ true → b < 128
sign_ascii b h = elim (sign_is b h) [ inl p ↦ omega arith | inr p ↦ omega arith ]

signed_ascii : (text : List ℕ) → IsSigned text → IsAscii text
signed_ascii [] s = absurd s
signed_ascii (b ∷ ds) (inl p) = ascii_cons b ds (sign_ascii b p.0) (digits_ascii ds p.1)
signed_ascii (b ∷ ds) (inr d) = digits_ascii (b ∷ ds) d

e_ascii : (b : ℕ) → is_e b ≡ true → b < 128
e_ascii b h = elim (e_is b h) [ inl p ↦ omega arith | inr p ↦ omega arith ]

exponent_ascii : (text : List ℕ) → IsExponent text → IsAscii text
exponent_ascii [] x = ascii_nil
exponent_ascii (b ∷ text) x = ascii_cons b text (e_ascii b x.0) (signed_ascii text x.1)

number_utf8 : (text : List ℕ) → IsNumber text → IsUtf8 text
number_utf8 text n =
    let tail : IsAscii (n.fraction ++ n.exponent) = IsAscii-append n.fraction n.exponent (fraction_ascii n.fraction n.is_fraction) (exponent_ascii n.exponent n.is_exponent) in
    let most : IsAscii (n.integer ++ (n.fraction ++ n.exponent)) = IsAscii-append n.integer (n.fraction ++ n.exponent) (integer_ascii n.integer n.is_integer) tail in
    IsUtf8-from_ascii text (rw n.parts (IsAscii-append n.minus (n.integer ++ (n.fraction ++ n.exponent)) (minus_ascii n.minus n.is_minus) most))

-- ---- its spelling

abbrev pub IsSpelling : List ℕ → List ℕ → Type 0
IsSpelling spelling text = IsNumber spelling × (text ≡ spelling)

front_of : (text rest : List ℕ) → take (length (text ++ rest) - length rest) (text ++ rest) ≡ text
front_of text rest =
    let len : length (text ++ rest) - length rest ≡ length text = omega (arith, length-append text rest) in
    rw len (take_at text rest (length text) refl)

front_is : (bytes text rest : List ℕ) → bytes ≡ text ++ rest → take (length bytes - length rest) bytes ≡ text
front_is bytes text rest parts = rw parts (front_of text rest)

spelling_takes : (bytes : List ℕ) (x : List ℕ × List ℕ) → number_at bytes ≡ Some x → Stands IsSpelling bytes x
unfolding number_at
spelling_takes bytes x e =
    let a = bind_some (past_number bytes) (λ rest. cond (is_utf8 (take (length bytes - length rest) bytes)) (Some (take (length bytes - length rest) bytes, rest)) None) x e in
    let g = cond_some (is_utf8 (take (length bytes - length a.0) bytes)) (take (length bytes - length a.0) bytes, a.0) x a.2 in
    let n = number_takes bytes a.0 a.1 in
    let taken : take (length bytes - length a.0) bytes ≡ n.text = front_is bytes n.text a.0 n.parts in
    subst (λ (y : List ℕ × List ℕ). Stands IsSpelling bytes y) g.1
    (record { text = n.text; spelled = (subst (λ (t : List ℕ). IsNumber t) (sym taken) n.spelled, sym taken); parts = n.parts })

spelling_again : (spelling text rest : List ℕ) → IsSpelling spelling text → EndsNumber rest → number_at (text ++ rest) ≡ Some (spelling, rest)
unfolding number_at
spelling_again spelling text rest p ends =
    rw (p.1, number_again spelling rest p.0 ends, front_of spelling rest, is_utf8-from_IsUtf8 spelling (number_utf8 spelling p.0)) refl

pub number_exact : IsExact number_at IsSpelling EndsNumber
number_exact = record { takes = spelling_takes; again = spelling_again }
