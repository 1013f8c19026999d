-- Reading one character of a string is exact.
use Rattle.std.proofs.Common.{◌≡◌, ℕ, zero, suc, ◌+◌, ◌-◌, ◌*◌, ◌/◌, ◌%◌, ◌^◌, ◌<◌, ◌≤◌, Bool, true, false, cond, ◌||◌, ◌&&◌, ◌⊎◌, ltb, leb, eqb, List, [], ◌∷◌, ◌++◌, Option, Some, None, refl, sym, ap, subst, ◌∙◌, arith, inl, inr}
use Rattle.std.specs.Char.{IsScalar, digit_value}
use Rattle.std.specs.Int.{is_in_range}
use Rattle.std.proofs.lemmas.Bool.{eqb-true, and_parts, and_from, or_parts, or_from, leb-true, le-leb, lt-ltb, le-ltb, ltb-false, ltb-true, eqb-false, false_from_ne_true, cases_lt}
use Rattle.std.proofs.lemmas.Nat.{div-mul-add, mod-mul-add}
use Rattle.std.proofs.lemmas.Str.{encode_ascii}
use lib.Utf8.{scalar, encode, low_scalar, scalar_cases}
use Rattle.esb_json.specs.Grammar.{escaped, IsPlain, IsEscape, IsUnit, IsCharacter}
use Rattle.esb_json.specs.Reading.{◌>>=◌, more_at, three_at, four_at, wide_at, hex_at, unit_at, escape_at, character_at}
use Rattle.esb_json.proofs.Exact.{bind_some, some_is, chosen, cond_none, cond_other, cond_taken, Stands}

-- ---- tests

in_range : (low high b : ℕ) → is_in_range low high b ≡ true → (low ≤ b) × (b ≤ high)
in_range low high b h = let p = and_parts _ _ h in (leb-true low b p.0, leb-true b high p.1)

range_hit : (low high b : ℕ) → low ≤ b → b ≤ high → is_in_range low high b ≡ true
range_hit low high b p q = and_from _ _ (le-leb low b p) (le-leb b high q)

range_miss : (low high b : ℕ) → ((low ≤ b) × (b ≤ high) → ⊥) → is_in_range low high b ≡ false
range_miss low high b h = false_from_ne_true (is_in_range low high b) (λ e. h (in_range low high b e))

range_missed : (low high b : ℕ) → is_in_range low high b ≡ false → low ≤ b → b ≤ high → ⊥
range_missed low high b e p q = let t = range_hit low high b p q in cc

abbrev is_high : ℕ → Bool
is_high c = leb 0xE000 c && ltb c 0x11_0000

high_scalar : (c : ℕ) → 0xE000 ≤ c → c < 0x11_0000 → scalar c ≡ true
high_scalar c p q =
    ap (λ (t : Bool). cond t true (is_high c)) (le-ltb c 0xD800 (omega arith)) ∙ and_from _ _ (le-leb 0xE000 c p) (lt-ltb c 0x11_0000 q)

no_surrogate : (c : ℕ) → (0xD800 ≤ c → c ≤ 0xDFFF → ⊥) → c < 0x11_0000 → scalar c ≡ true
no_surrogate c h p =
    elim (cases_lt c 0xD800) [
      | inl lt ↦ low_scalar c lt
      | inr le ↦ elim (cases_lt c 0xE000) [ inl lt ↦ absurd (h le (omega arith)) | inr high ↦ high_scalar c high p ]
    ]

-- ---- the bytes of a character past ASCII

two_bytes : (c : ℕ) → 128 ≤ c → c < 2048 → encode c ≡ (192 + c / 64) ∷ (128 + c % 64) ∷ []
unfolding encode
two_bytes c low high = rw (le-ltb c 128 low, lt-ltb c 2048 high) refl

three_bytes : (c : ℕ) → 2048 ≤ c → c < 65536 → encode c ≡ (224 + c / 4096) ∷ (128 + c / 64 % 64) ∷ (128 + c % 64) ∷ []
unfolding encode
three_bytes c low high =
    let wide : 128 ≤ c = omega arith in
    rw (le-ltb c 128 wide, le-ltb c 2048 low, lt-ltb c 65536 high) refl

four_bytes : (c : ℕ) → 65536 ≤ c → encode c ≡ (240 + c / 262144) ∷ (128 + c / 4096 % 64) ∷ (128 + c / 64 % 64) ∷ (128 + c % 64) ∷ []
unfolding encode
four_bytes c low =
    let wide : 128 ≤ c = omega arith in
    let wider : 2048 ≤ c = omega arith in
    rw (le-ltb c 128 wide, le-ltb c 2048 wider, le-ltb c 65536 low) refl

two_text : (code q r : ℕ) → 2 ≤ q → q < 32 → r < 64 → code ≡ q * 64 + r → (192 + q) ∷ (128 + r) ∷ [] ≡ encode code
two_text code q r low high fits is =
    let d : code / 64 ≡ q = ap (λ (n : ℕ). n / 64) is ∙ div-mul-add q 64 r fits in
    let m : code % 64 ≡ r = ap (λ (n : ℕ). n % 64) is ∙ mod-mul-add q 64 r fits in
    sym (two_bytes code (omega arith) (omega arith) ∙ rw (d, m) refl)

three_text : (code q r s : ℕ) → q < 16 → r < 64 → s < 64 → 2048 ≤ code → code ≡ (q * 64 + r) * 64 + s → (224 + q) ∷ (128 + r) ∷ (128 + s) ∷ [] ≡ encode code
three_text code q r s high r_fits s_fits low is =
    let d : code / 64 ≡ q * 64 + r = ap (λ (n : ℕ). n / 64) is ∙ div-mul-add (q * 64 + r) 64 s s_fits in
    let e : code / 64 % 64 ≡ r = ap (λ (n : ℕ). n % 64) d ∙ mod-mul-add q 64 r r_fits in
    let m : code % 64 ≡ s = ap (λ (n : ℕ). n % 64) is ∙ mod-mul-add (q * 64 + r) 64 s s_fits in
    let flat : code ≡ q * 4096 + (r * 64 + s) = omega arith in
    let f : code / 4096 ≡ q = ap (λ (n : ℕ). n / 4096) flat ∙ div-mul-add q 4096 (r * 64 + s) (omega arith) in
    sym (three_bytes code low (omega arith) ∙ rw (f, e, m) refl)

four_text : (code q r s t : ℕ) → q < 8 → r < 64 → s < 64 → t < 64 → 65536 ≤ code → code ≡ ((q * 64 + r) * 64 + s) * 64 + t
    → (240 + q) ∷ (128 + r) ∷ (128 + s) ∷ (128 + t) ∷ [] ≡ encode code
four_text code q r s t high r_fits s_fits t_fits low is =
    let d : code / 64 ≡ (q * 64 + r) * 64 + s = ap (λ (n : ℕ). n / 64) is ∙ div-mul-add ((q * 64 + r) * 64 + s) 64 t t_fits in
    let e : code / 64 % 64 ≡ s = ap (λ (n : ℕ). n % 64) d ∙ mod-mul-add (q * 64 + r) 64 s s_fits in
    let m : code % 64 ≡ t = ap (λ (n : ℕ). n % 64) is ∙ mod-mul-add ((q * 64 + r) * 64 + s) 64 t t_fits in
    let flat : code ≡ (q * 64 + r) * 4096 + (s * 64 + t) = omega arith in
    let f : code / 4096 ≡ q * 64 + r = ap (λ (n : ℕ). n / 4096) flat ∙ div-mul-add (q * 64 + r) 4096 (s * 64 + t) (omega arith) in
    let g : code / 4096 % 64 ≡ r = ap (λ (n : ℕ). n % 64) f ∙ mod-mul-add q 64 r r_fits in
    let flatter : code ≡ q * 262144 + (r * 4096 + (s * 64 + t)) = omega arith in
    let h : code / 262144 ≡ q = ap (λ (n : ℕ). n / 262144) flatter ∙ div-mul-add q 262144 (r * 4096 + (s * 64 + t)) (omega arith) in
    sym (four_bytes code low ∙ rw (h, g, e, m) refl)

-- ---- six bits more

record More (high : ℕ) (bytes : List ℕ) (x : ℕ × List ℕ) : Type 0 where
  bits : ℕ
  fits : bits < 64
  parts : bytes ≡ (128 + bits) ∷ x.1
  is : x.0 ≡ high * 64 + bits

more_takes : (high : ℕ) (bytes : List ℕ) (x : ℕ × List ℕ) → more_at high bytes ≡ Some x → More high bytes x
unfolding more_at
more_takes high [] x e = absurd cc
more_takes high (b ∷ rest) x e =
    let p = cond_taken (is_in_range 0x80 0xBF b) (Some (high * 64 + (b - 0x80), rest)) x e in
    let r = in_range 0x80 0xBF b p.0 in
    let same = some_is (high * 64 + (b - 0x80), rest) x p.1 in
    let first : b ≡ 128 + (b - 0x80) = omega (arith, r.0) in
    record {
      bits = b - 0x80;
      fits = omega (arith, r.1);
      parts = ap (λ (t : ℕ). t ∷ rest) first ∙ ap (λ (y : ℕ × List ℕ). (128 + (b - 0x80)) ∷ y.1) same;
      is = sym (ap (λ (y : ℕ × List ℕ). y.0) same);
    }

more_again : (high r : ℕ) (rest : List ℕ) → r < 64 → more_at high ((128 + r) ∷ rest) ≡ Some (high * 64 + r, rest)
unfolding more_at
more_again high r rest lt =
    let test : is_in_range 0x80 0xBF (128 + r) ≡ true = range_hit 0x80 0xBF (128 + r) (omega arith) (omega arith) in
    let bits : (128 + r) - 0x80 ≡ r = omega arith in
    ap (λ (t : Bool). cond t (Some (high * 64 + ((128 + r) - 0x80), rest)) None) test ∙ ap (λ (k : ℕ). Some (high * 64 + k, rest)) bits

-- ---- a character past ASCII

record Wide (bytes : List ℕ) (x : ℕ × List ℕ) : Type 0 where
  text : List ℕ
  parts : bytes ≡ text ++ x.1
  is_scalar : IsScalar x.0
  wide : 128 ≤ x.0
  text_is : text ≡ encode x.0

two_takes : (b : ℕ) (rest : List ℕ) (x : ℕ × List ℕ) → (0xC2 ≤ b) × (b ≤ 0xDF) → more_at (b - 0xC0) rest ≡ Some x → Wide (b ∷ rest) x
two_takes b rest x range e =
    let m = more_takes (b - 0xC0) rest x e in
    let lead : b ≡ 192 + (b - 0xC0) = omega arith in
    record {
      text = (192 + (b - 0xC0)) ∷ (128 + m.bits) ∷ [];
      parts = ap (λ (t : ℕ). t ∷ rest) lead ∙ ap (λ (t : List ℕ). (192 + (b - 0xC0)) ∷ t) m.parts;
      is_scalar = low_scalar x.0 (omega (arith, m.fits, m.is));
      wide = omega (arith, m.is);
      text_is = two_text x.0 (b - 0xC0) m.bits (omega arith) (omega arith) m.fits m.is;
    }

three_takes : (b : ℕ) (rest : List ℕ) (x : ℕ × List ℕ) → (0xE0 ≤ b) × (b ≤ 0xEF) → three_at (b - 0xE0) rest ≡ Some x → Wide (b ∷ rest) x
unfolding three_at
three_takes b rest x range e =
    let s = bind_some (more_at (b - 0xE0) rest) (λ next. more_at next.0 next.1 >>= λ last. cond (ltb last.0 0x800 || is_in_range 0xD800 0xDFFF last.0) None (Some last)) x e in
    let t = bind_some (more_at s.0.0 s.0.1) (λ last. cond (ltb last.0 0x800 || is_in_range 0xD800 0xDFFF last.0) None (Some last)) x s.2 in
    let g = cond_none (ltb t.0.0 0x800 || is_in_range 0xD800 0xDFFF t.0.0) t.0 x t.2 in
    let m = more_takes (b - 0xE0) rest s.0 s.1 in
    let n = more_takes s.0.0 s.0.1 t.0 t.1 in
    let tests = or_parts (ltb t.0.0 0x800) (is_in_range 0xD800 0xDFFF t.0.0) g.0 in
    let low : 0x800 ≤ t.0.0 = ltb-false t.0.0 0x800 tests.0 in
    let is : t.0.0 ≡ ((b - 0xE0) * 64 + m.bits) * 64 + n.bits = n.is ∙ ap (λ (k : ℕ). k * 64 + n.bits) m.is in
    let below : t.0.0 < 0x1_0000 = omega (arith, m.fits, n.fits) in
    let lead : b ≡ 224 + (b - 0xE0) = omega arith in
    let whole : Wide (b ∷ rest) t.0 = record {
      text = (224 + (b - 0xE0)) ∷ (128 + m.bits) ∷ (128 + n.bits) ∷ [];
      parts = ap (λ (k : ℕ). k ∷ rest) lead ∙ ap (λ (k : List ℕ). (224 + (b - 0xE0)) ∷ k) (m.parts ∙ ap (λ (k : List ℕ). (128 + m.bits) ∷ k) n.parts);
      is_scalar = no_surrogate t.0.0 (range_missed 0xD800 0xDFFF t.0.0 tests.1) (omega arith);
      wide = omega arith;
      text_is = three_text t.0.0 (b - 0xE0) m.bits n.bits (omega arith) m.fits n.fits low is;
    } in
    subst (λ (y : ℕ × List ℕ). Wide (b ∷ rest) y) g.1 whole

four_takes : (b : ℕ) (rest : List ℕ) (x : ℕ × List ℕ) → (0xF0 ≤ b) × (b ≤ 0xF4) → four_at (b - 0xF0) rest ≡ Some x → Wide (b ∷ rest) x
unfolding four_at
four_takes b rest x range e =
    let s = bind_some (more_at (b - 0xF0) rest) (λ next. more_at next.0 next.1 >>= λ third. (more_at third.0 third.1 >>= λ last. cond (is_in_range 0x1_0000 0x10_FFFF last.0) (Some last) None)) x e in
    let t = bind_some (more_at s.0.0 s.0.1) (λ third. more_at third.0 third.1 >>= λ last. cond (is_in_range 0x1_0000 0x10_FFFF last.0) (Some last) None) x s.2 in
    let u = bind_some (more_at t.0.0 t.0.1) (λ last. cond (is_in_range 0x1_0000 0x10_FFFF last.0) (Some last) None) x t.2 in
    let g = cond_taken (is_in_range 0x1_0000 0x10_FFFF u.0.0) (Some u.0) x u.2 in
    let m = more_takes (b - 0xF0) rest s.0 s.1 in
    let n = more_takes s.0.0 s.0.1 t.0 t.1 in
    let o = more_takes t.0.0 t.0.1 u.0 u.1 in
    let test = in_range 0x1_0000 0x10_FFFF u.0.0 g.0 in
    let second : t.0.0 ≡ ((b - 0xF0) * 64 + m.bits) * 64 + n.bits = n.is ∙ ap (λ (k : ℕ). k * 64 + n.bits) m.is in
    let is : u.0.0 ≡ (((b - 0xF0) * 64 + m.bits) * 64 + n.bits) * 64 + o.bits = o.is ∙ ap (λ (k : ℕ). k * 64 + o.bits) second in
    let lead : b ≡ 240 + (b - 0xF0) = omega arith in
    let whole : Wide (b ∷ rest) u.0 = record {
      text = (240 + (b - 0xF0)) ∷ (128 + m.bits) ∷ (128 + n.bits) ∷ (128 + o.bits) ∷ [];
      parts = ap (λ (k : ℕ). k ∷ rest) lead ∙ ap (λ (k : List ℕ). (240 + (b - 0xF0)) ∷ k) (m.parts ∙ ap (λ (k : List ℕ). (128 + m.bits) ∷ k) (n.parts ∙ ap (λ (k : List ℕ). (128 + n.bits) ∷ k) o.parts));
      is_scalar = high_scalar u.0.0 (omega (arith, test.0)) (omega (arith, test.1));
      wide = omega (arith, test.0);
      text_is = four_text u.0.0 (b - 0xF0) m.bits n.bits o.bits (omega arith) m.fits n.fits o.fits test.0 is;
    } in
    subst (λ (y : ℕ × List ℕ). Wide (b ∷ rest) y) (some_is u.0 x g.1) whole

wide_takes : (b : ℕ) (rest : List ℕ) (x : ℕ × List ℕ) → wide_at b rest ≡ Some x → Wide (b ∷ rest) x
unfolding wide_at
wide_takes b rest x e =
    elim (chosen (is_in_range 0xC2 0xDF b) (more_at (b - 0xC0) rest) (cond (is_in_range 0xE0 0xEF b) (three_at (b - 0xE0) rest) (cond (is_in_range 0xF0 0xF4 b) (four_at (b - 0xF0) rest) None)) (Some x) e) [
      | inl p ↦ two_takes b rest x (in_range 0xC2 0xDF b p.0) p.1
      | inr p ↦ elim (chosen (is_in_range 0xE0 0xEF b) (three_at (b - 0xE0) rest) (cond (is_in_range 0xF0 0xF4 b) (four_at (b - 0xF0) rest) None) (Some x) p.1) [
        | inl q ↦ three_takes b rest x (in_range 0xE0 0xEF b q.0) q.1
        | inr q ↦ let r = cond_taken (is_in_range 0xF0 0xF4 b) (four_at (b - 0xF0) rest) x q.1 in four_takes b rest x (in_range 0xF0 0xF4 b r.0) r.1
      ]
    ]

no_gap : (code : ℕ) → IsScalar code → (0xD800 ≤ code) × (code ≤ 0xDFFF) → ⊥
no_gap code is_scalar p = elim (scalar_cases code is_scalar) [ inl q ↦ omega (arith, p.0) | inr q ↦ omega (arith, p.1, q.0) ]

scalar_below : (code : ℕ) → IsScalar code → code < 0x11_0000
scalar_below code is_scalar = elim (scalar_cases code is_scalar) [ inl q ↦ omega arith | inr q ↦ q.1 ]

-- what reads the bytes of a code again
record Again (code : ℕ) (text rest : List ℕ) : Type 0 where
  lead : ℕ
  tail : List ℕ
  parts : text ≡ lead ∷ tail
  wide : 128 ≤ lead
  reads : wide_at lead (tail ++ rest) ≡ Some (code, rest)

two_again : (q r : ℕ) (rest : List ℕ) → 2 ≤ q → q < 32 → r < 64 → wide_at (192 + q) ((128 + r) ∷ rest) ≡ Some (q * 64 + r, rest)
unfolding wide_at
two_again q r rest low high fits =
    let test : is_in_range 0xC2 0xDF (192 + q) ≡ true = range_hit 0xC2 0xDF (192 + q) (omega arith) (omega arith) in
    let bits : (192 + q) - 0xC0 ≡ q = omega arith in
    rw (test, bits) (more_again q r rest fits)

three_again : (q r s : ℕ) (rest : List ℕ) → q < 16 → r < 64 → s < 64 → 0x800 ≤ (q * 64 + r) * 64 + s → is_in_range 0xD800 0xDFFF ((q * 64 + r) * 64 + s) ≡ false
    → wide_at (224 + q) ((128 + r) ∷ (128 + s) ∷ rest) ≡ Some ((q * 64 + r) * 64 + s, rest)
unfolding wide_at three_at
three_again q r s rest high r_fits s_fits low apart =
    let other : is_in_range 0xC2 0xDF (224 + q) ≡ false = range_miss 0xC2 0xDF (224 + q) (λ p. omega (arith, p.1)) in
    let test : is_in_range 0xE0 0xEF (224 + q) ≡ true = range_hit 0xE0 0xEF (224 + q) (omega arith) (omega arith) in
    let bits : (224 + q) - 0xE0 ≡ q = omega arith in
    let long : ltb ((q * 64 + r) * 64 + s) 0x800 ≡ false = le-ltb _ _ low in
    rw (other, test, bits, more_again q r ((128 + s) ∷ rest) r_fits, more_again (q * 64 + r) s rest s_fits, long, apart) refl

four_again : (q r s t : ℕ) (rest : List ℕ) → q < 5 → r < 64 → s < 64 → t < 64 → is_in_range 0x1_0000 0x10_FFFF (((q * 64 + r) * 64 + s) * 64 + t) ≡ true
    → wide_at (240 + q) ((128 + r) ∷ (128 + s) ∷ (128 + t) ∷ rest) ≡ Some (((q * 64 + r) * 64 + s) * 64 + t, rest)
unfolding wide_at four_at
four_again q r s t rest high r_fits s_fits t_fits inside =
    let two : is_in_range 0xC2 0xDF (240 + q) ≡ false = range_miss 0xC2 0xDF (240 + q) (λ p. omega (arith, p.1)) in
    let three : is_in_range 0xE0 0xEF (240 + q) ≡ false = range_miss 0xE0 0xEF (240 + q) (λ p. omega (arith, p.1)) in
    let test : is_in_range 0xF0 0xF4 (240 + q) ≡ true = range_hit 0xF0 0xF4 (240 + q) (omega arith) (omega arith) in
    let bits : (240 + q) - 0xF0 ≡ q = omega arith in
    rw (two, three, test, bits, more_again q r ((128 + s) ∷ (128 + t) ∷ rest) r_fits, more_again (q * 64 + r) s ((128 + t) ∷ rest) s_fits, more_again ((q * 64 + r) * 64 + s) t rest t_fits, inside) refl

plain_again : (code : ℕ) (text rest : List ℕ) → IsScalar code → 128 ≤ code → text ≡ encode code → Again code text rest
plain_again code text rest is_scalar wide text_is =
    let whole : code ≡ code / 64 * 64 + code % 64 = omega arith in
    let low : code % 64 < 64 = omega arith in
    elim (cases_lt code 0x800) [
      | inl two ↦ record {
        lead = 192 + code / 64;
        tail = (128 + code % 64) ∷ [];
        parts = text_is ∙ two_bytes code wide two;
        wide = omega arith;
        reads = two_again (code / 64) (code % 64) rest (omega arith) (omega arith) low ∙ ap (λ (k : ℕ). Some (k, rest)) (sym whole);
      }
      | inr more ↦ elim (cases_lt code 0x1_0000) [
        | inl three ↦
            let is : (code / 4096 * 64 + code / 64 % 64) * 64 + code % 64 ≡ code = omega arith in
            let apart : is_in_range 0xD800 0xDFFF code ≡ false = range_miss 0xD800 0xDFFF code (no_gap code is_scalar) in
            record {
              lead = 224 + code / 4096;
              tail = (128 + code / 64 % 64) ∷ (128 + code % 64) ∷ [];
              parts = text_is ∙ three_bytes code more three;
              wide = omega arith;
              reads = three_again (code / 4096) (code / 64 % 64) (code % 64) rest (omega arith) (omega arith) low (omega (arith, is)) (ap (is_in_range 0xD800 0xDFFF) is ∙ apart) ∙ ap (λ (k : ℕ). Some (k, rest)) is;
            }
        | inr four ↦
            let is : ((code / 262144 * 64 + code / 4096 % 64) * 64 + code / 64 % 64) * 64 + code % 64 ≡ code = omega arith in
            let high : code < 0x11_0000 = scalar_below code is_scalar in
            record {
              lead = 240 + code / 262144;
              tail = (128 + code / 4096 % 64) ∷ (128 + code / 64 % 64) ∷ (128 + code % 64) ∷ [];
              parts = text_is ∙ four_bytes code four;
              wide = omega arith;
              reads = four_again (code / 262144) (code / 4096 % 64) (code / 64 % 64) (code % 64) rest (omega arith) (omega arith) (omega arith) low (ap (is_in_range 0x1_0000 0x10_FFFF) is ∙ range_hit 0x1_0000 0x10_FFFF code four (omega arith)) ∙ ap (λ (k : ℕ). Some (k, rest)) is;
            }
      ]
    ]

-- ---- four hexadecimal digits

record Hex (bytes : List ℕ) (x : ℕ × List ℕ) : Type 0 where
  digit : ℕ
  fits : digit_value digit < 16
  parts : bytes ≡ digit ∷ x.1
  is : x.0 ≡ digit_value digit

hex_takes : (bytes : List ℕ) (x : ℕ × List ℕ) → hex_at bytes ≡ Some x → Hex bytes x
unfolding hex_at
hex_takes [] x e = absurd cc
hex_takes (b ∷ rest) x e =
    let p = cond_taken (ltb (digit_value b) 16) (Some (digit_value b, rest)) x e in
    let same = some_is (digit_value b, rest) x p.1 in
    record { digit = b; fits = ltb-true (digit_value b) 16 p.0; parts = ap (λ (y : ℕ × List ℕ). b ∷ y.1) same; is = sym (ap (λ (y : ℕ × List ℕ). y.0) same) }

hex_again : (h : ℕ) (rest : List ℕ) → digit_value h < 16 → hex_at (h ∷ rest) ≡ Some (digit_value h, rest)
unfolding hex_at
hex_again h rest lt = ap (λ (t : Bool). cond t (Some (digit_value h, rest)) None) (lt-ltb (digit_value h) 16 lt)

abbrev four : ℕ → ℕ → ℕ → ℕ → ℕ
four a b c d = ((a * 16 + b) * 16 + c) * 16 + d

four_is : (a b c d p q r s : ℕ) → a ≡ p → b ≡ q → c ≡ r → d ≡ s → four a b c d ≡ four p q r s
four_is a b c d p q r s e f g h = rw (e, f, g, h) refl

unit_takes : (bytes : List ℕ) (x : ℕ × List ℕ) → unit_at bytes ≡ Some x → Stands IsUnit (0x5C ∷ 0x75 ∷ bytes) x
unfolding unit_at
unit_takes bytes x e =
    let a = bind_some (hex_at bytes) (λ a. hex_at a.1 >>= λ b. (hex_at b.1 >>= λ c. (hex_at c.1 >>= λ d. Some (four a.0 b.0 c.0 d.0, d.1)))) x e in
    let b = bind_some (hex_at a.0.1) (λ b. hex_at b.1 >>= λ c. (hex_at c.1 >>= λ d. Some (four a.0.0 b.0 c.0 d.0, d.1))) x a.2 in
    let c = bind_some (hex_at b.0.1) (λ c. hex_at c.1 >>= λ d. Some (four a.0.0 b.0.0 c.0 d.0, d.1)) x b.2 in
    let d = bind_some (hex_at c.0.1) (λ d. Some (four a.0.0 b.0.0 c.0.0 d.0, d.1)) x c.2 in
    let p = hex_takes bytes a.0 a.1 in
    let q = hex_takes a.0.1 b.0 b.1 in
    let r = hex_takes b.0.1 c.0 c.1 in
    let s = hex_takes c.0.1 d.0 d.1 in
    let whole : Stands IsUnit (0x5C ∷ 0x75 ∷ bytes) (four a.0.0 b.0.0 c.0.0 d.0.0, d.0.1) = record {
      text = 0x5C ∷ 0x75 ∷ p.digit ∷ q.digit ∷ r.digit ∷ s.digit ∷ [];
      spelled = record {
        a = p.digit;
        b = q.digit;
        c = r.digit;
        d = s.digit;
        a_is = p.fits;
        b_is = q.fits;
        c_is = r.fits;
        d_is = s.fits;
        means = four_is a.0.0 b.0.0 c.0.0 d.0.0 (digit_value p.digit) (digit_value q.digit) (digit_value r.digit) (digit_value s.digit) p.is q.is r.is s.is;
        parts = refl;
      };
      parts = ap (λ (k : List ℕ). 0x5C ∷ 0x75 ∷ k) (p.parts ∙ ap (λ (k : List ℕ). p.digit ∷ k) (q.parts ∙ ap (λ (k : List ℕ). q.digit ∷ k) (r.parts ∙ ap (λ (k : List ℕ). r.digit ∷ k) s.parts)));
    } in
    subst (λ (y : ℕ × List ℕ). Stands IsUnit (0x5C ∷ 0x75 ∷ bytes) y) (some_is (four a.0.0 b.0.0 c.0.0 d.0.0, d.0.1) x d.2) whole

unit_again : (a b c d : ℕ) (rest : List ℕ) → digit_value a < 16 → digit_value b < 16 → digit_value c < 16 → digit_value d < 16
    → unit_at (a ∷ b ∷ c ∷ d ∷ rest) ≡ Some (four (digit_value a) (digit_value b) (digit_value c) (digit_value d), rest)
unfolding unit_at
unit_again a b c d rest p q r s = rw (hex_again a (b ∷ c ∷ d ∷ rest) p, hex_again b (c ∷ d ∷ rest) q, hex_again c (d ∷ rest) r, hex_again d rest s) refl

-- ---- behind a backslash

abbrev IsEscaped : ℕ → List ℕ → Type 0
IsEscaped code text = IsEscape code text ⊎ IsUnit code text

escape_takes : (bytes : List ℕ) (x : ℕ × List ℕ) → escape_at bytes ≡ Some x → Stands IsEscaped (0x5C ∷ bytes) x
unfolding escape_at
escape_takes [] x e = absurd cc
escape_takes (l ∷ rest) x e =
    elim (chosen (eqb l 0x75) (unit_at rest) (escaped l >>= λ code. Some (code, rest)) (Some x) e) [
      | inl p ↦
          let u = unit_takes rest x p.1 in
          record { text = u.text; spelled = inr u.spelled; parts = ap (λ (k : ℕ). 0x5C ∷ k ∷ rest) (eqb-true l 0x75 p.0) ∙ u.parts }
      | inr p ↦
          let b = bind_some (escaped l) (λ (code : ℕ). Some (code, rest)) x p.1 in
          let whole : Stands IsEscaped (0x5C ∷ l ∷ rest) (b.0, rest) = record { text = 0x5C ∷ l ∷ []; spelled = inl (record { letter = l; means = b.1; parts = refl }); parts = refl } in
          subst (λ (y : ℕ × List ℕ). Stands IsEscaped (0x5C ∷ l ∷ rest) y) (some_is (b.0, rest) x b.2) whole
    ]

no_u : (code : ℕ) → escaped 0x75 ≡ Some code → ⊥
no_u code e = cc

escape_again : (l code : ℕ) (rest : List ℕ) → escaped l ≡ Some code → escape_at (l ∷ rest) ≡ Some (code, rest)
unfolding escape_at
escape_again l code rest means =
    let other : eqb l 0x75 ≡ false = false_from_ne_true (eqb l 0x75) (λ p. no_u code (ap escaped (sym (eqb-true l 0x75 p)) ∙ means)) in
    ap (λ (t : Bool). cond t (unit_at rest) (escaped l >>= λ (k : ℕ). Some (k, rest))) other ∙ ap (λ (o : Option ℕ). o >>= λ (k : ℕ). Some (k, rest)) means

-- ---- a character

plain_takes : (b : ℕ) (rest : List ℕ) (x : ℕ × List ℕ) → eqb b 0x5C ≡ false → (ltb b 0x20 || eqb b 0x22) ≡ false → cond (ltb b 0x80) (Some (b, rest)) (wide_at b rest) ≡ Some x → Stands IsCharacter (b ∷ rest) x
plain_takes b rest x backslash others e =
    let tests = or_parts (ltb b 0x20) (eqb b 0x22) others in
    elim (chosen (ltb b 0x80) (Some (b, rest)) (wide_at b rest) (Some x) e) [
      | inl p ↦
          let low : b < 0x80 = ltb-true b 0x80 p.0 in
          let whole : Stands IsCharacter (b ∷ rest) (b, rest) = record {
            text = b ∷ [];
            spelled = inl (record {
              scalar = low_scalar b (omega arith);
              no_control = ltb-false b 0x20 tests.0;
              no_quote = eqb-false b 0x22 tests.1;
              no_backslash = eqb-false b 0x5C backslash;
              parts = sym (encode_ascii b low);
            });
            parts = refl;
          } in
          subst (λ (y : ℕ × List ℕ). Stands IsCharacter (b ∷ rest) y) (some_is (b, rest) x p.1) whole
      | inr p ↦
          let w = wide_takes b rest x p.1 in
          record {
            text = w.text;
            spelled = inl (record { scalar = w.is_scalar; no_control = omega (arith, w.wide); no_quote = λ q. omega (arith, w.wide); no_backslash = λ q. omega (arith, w.wide); parts = w.text_is });
            parts = w.parts;
          }
    ]

pub character_takes : (b : ℕ) (rest : List ℕ) (x : ℕ × List ℕ) → character_at b rest ≡ Some x → Stands IsCharacter (b ∷ rest) x
unfolding character_at
character_takes b rest x e =
    elim (chosen (eqb b 0x5C) (escape_at rest) (cond (ltb b 0x20 || eqb b 0x22) None (cond (ltb b 0x80) (Some (b, rest)) (wide_at b rest))) (Some x) e) [
      | inl p ↦
          let s = escape_takes rest x p.1 in
          record { text = s.text; spelled = inr s.spelled; parts = ap (λ (k : ℕ). k ∷ rest) (eqb-true b 0x5C p.0) ∙ s.parts }
      | inr p ↦
          let q = cond_other (ltb b 0x20 || eqb b 0x22) (cond (ltb b 0x80) (Some (b, rest)) (wide_at b rest)) x p.1 in
          plain_takes b rest x p.0 q.0 q.1
    ]

-- what reads a character again
pub record Rereads (code : ℕ) (text rest : List ℕ) : Type 0 where
  pub first : ℕ
  pub tail : List ℕ
  pub parts : text ≡ first ∷ tail
  pub no_quote : first ≡ 0x22 → ⊥
  pub reads : character_at first (tail ++ rest) ≡ Some (code, rest)

low_again : (b : ℕ) (rest : List ℕ) → eqb b 0x5C ≡ false → (ltb b 0x20 || eqb b 0x22) ≡ false → ltb b 0x80 ≡ true → character_at b rest ≡ Some (b, rest)
unfolding character_at
low_again b rest p q r =
    ap (λ (t : Bool). cond t (escape_at rest) (cond (ltb b 0x20 || eqb b 0x22) None (cond (ltb b 0x80) (Some (b, rest)) (wide_at b rest)))) p
    ∙ ap (λ (t : Bool). cond t None (cond (ltb b 0x80) (Some (b, rest)) (wide_at b rest))) q
    ∙ ap (λ (t : Bool). cond t (Some (b, rest)) (wide_at b rest)) r

high_again : (b : ℕ) (rest : List ℕ) → eqb b 0x5C ≡ false → (ltb b 0x20 || eqb b 0x22) ≡ false → ltb b 0x80 ≡ false → character_at b rest ≡ wide_at b rest
unfolding character_at
high_again b rest p q r =
    ap (λ (t : Bool). cond t (escape_at rest) (cond (ltb b 0x20 || eqb b 0x22) None (cond (ltb b 0x80) (Some (b, rest)) (wide_at b rest)))) p
    ∙ ap (λ (t : Bool). cond t None (cond (ltb b 0x80) (Some (b, rest)) (wide_at b rest))) q
    ∙ ap (λ (t : Bool). cond t (Some (b, rest)) (wide_at b rest)) r

other : (a b : ℕ) → (a ≡ b → ⊥) → eqb a b ≡ false
other a b h = false_from_ne_true (eqb a b) (λ e. h (eqb-true a b e))

plain_reads : (code : ℕ) (text rest : List ℕ) → IsPlain code text → Rereads code text rest
plain_reads code text rest plain =
    elim (cases_lt code 0x80) [
      | inl low ↦ record {
        first = code;
        tail = [];
        parts = plain.parts ∙ encode_ascii code low;
        no_quote = plain.no_quote;
        reads = low_again code rest (other code 0x5C plain.no_backslash) (or_from _ _ (le-ltb code 0x20 plain.no_control) (other code 0x22 plain.no_quote)) (lt-ltb code 0x80 low);
      }
      | inr wide ↦
          let w = plain_again code text rest plain.scalar wide plain.parts in
          record {
            first = w.lead;
            tail = w.tail;
            parts = w.parts;
            no_quote = λ q. omega (arith, w.wide);
            reads = high_again w.lead (w.tail ++ rest) (other w.lead 0x5C (λ q. omega (arith, w.wide))) (or_from _ _ (le-ltb w.lead 0x20 (omega (arith, w.wide))) (other w.lead 0x22 (λ q. omega (arith, w.wide)))) (le-ltb w.lead 0x80 w.wide) ∙ w.reads;
          }
    ]

escape_reads : (code : ℕ) (text rest : List ℕ) → IsEscape code text → Rereads code text rest
unfolding character_at
escape_reads code text rest s =
    record { first = 0x5C; tail = s.letter ∷ []; parts = s.parts; no_quote = λ q. omega (arith, q); reads = escape_again s.letter code rest s.means }

unit_reads : (code : ℕ) (text rest : List ℕ) → IsUnit code text → Rereads code text rest
unfolding character_at escape_at
unit_reads code text rest u =
    record {
      first = 0x5C;
      tail = 0x75 ∷ u.a ∷ u.b ∷ u.c ∷ u.d ∷ [];
      parts = u.parts;
      no_quote = λ q. omega (arith, q);
      reads = unit_again u.a u.b u.c u.d rest u.a_is u.b_is u.c_is u.d_is ∙ ap (λ (k : ℕ). Some (k, rest)) (sym u.means);
    }

pub character_reads : (code : ℕ) (text rest : List ℕ) → IsCharacter code text → Rereads code text rest
character_reads code text rest (inl plain) = plain_reads code text rest plain
character_reads code text rest (inr (inl s)) = escape_reads code text rest s
character_reads code text rest (inr (inr u)) = unit_reads code text rest u
