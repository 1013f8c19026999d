-- Characters, escapes and white space are the same whatever stands behind them.
use Rattle.std.proofs.Common.{◌≡◌, inl, inr, ℕ, ◌+◌, ◌-◌, ◌*◌, ◌<◌, ◌≤◌, min, Bool, true, false, cond, ◌&&◌, ◌||◌, eqb, nat_lt, nat_le, List, [], ◌∷◌, ◌++◌, length, take, drop, slice_index, Some, None, refl, sym, ap, ◌∙◌, subst, arith, length-append}
use Rattle.std.proofs.lemmas.List.{get_or_append_left, take-append-le}
use Rattle.std.proofs.lemmas.Bool.{eqb-true, ne_eqb, cond-true, cases_lt, lt-ltb}
use Rattle.std.specs.List.{prefix_len}
use Rattle.esb_token.specs.Characters.{width, character, code_point, is_space, is_hex_digit, at_line_end}
use Rattle.esb_token.specs.Gaps.{separator, comment}
use Rattle.esb_token.specs.Names.{Escape, hex_value, four_digits, braced_digits, unicode_escape, escape_passing, name_piece}
use Rattle.esb_print.proofs.Wide.{Whole}

-- ---- choices

cond_same : {A : Type 0} (t : Bool) (x u v : A) → t ≡ true → cond t x u ≡ cond t x v
cond_same t x u v h = cond-true t x u h ∙ sym (cond-true t x v h)

second_same : (s t : Bool) (x y u v : ℕ) → (s ≡ false → t ≡ true) → cond s x (cond t y u) ≡ cond s x (cond t y v)
second_same true t x y u v h = refl
second_same false t x y u v h = cond_same t y u v (h refl)

third_same : (s t r : Bool) (x y w u v : ℕ) → (s ≡ false → t ≡ false → r ≡ true) → cond s x (cond t y (cond r w u)) ≡ cond s x (cond t y (cond r w v))
third_same true t r x y w u v h = refl
third_same false true r x y w u v h = refl
third_same false false r x y w u v h = cond_same r w u v (h refl refl)

-- ---- the width of a character

one_wide : (s t r : Bool) → cond s 1 (cond t 2 (cond r 3 4)) ≤ 1 → s ≡ true
one_wide true t r h = refl
one_wide false true r h = absurd (omega (arith, h))
one_wide false false true h = absurd (omega (arith, h))
one_wide false false false h = absurd (omega (arith, h))

two_wide : (s t r : Bool) → cond s 1 (cond t 2 (cond r 3 4)) ≤ 2 → s ≡ false → t ≡ true
two_wide true t r h e = cc
two_wide false true r h e = refl
two_wide false false true h e = absurd (omega (arith, h))
two_wide false false false h e = absurd (omega (arith, h))

three_wide : (s t r : Bool) → cond s 1 (cond t 2 (cond r 3 4)) ≤ 3 → s ≡ false → t ≡ false → r ≡ true
three_wide true t r h e f = cc
three_wide false true r h e f = cc
three_wide false false true h e f = refl
three_wide false false false h e f = absurd (omega (arith, h))

no_wide_end : (b : ℕ) → width b ≤ 2 → eqb b 226 ≡ false
no_wide_end b h = ne_eqb b 226 (λ e. let bad : 3 ≤ 2 = subst (λ x. width x ≤ 2) e h in absurd (omega (arith, bad)))

pub code_point-same : (b : ℕ) (bs y z : List ℕ) → width b ≤ length (b ∷ bs) → code_point (b ∷ (bs ++ y)) ≡ code_point (b ∷ (bs ++ z))
unfolding code_point
code_point-same b [] y z h = cond_same (nat_lt b 128) b _ _ (one_wide _ (nat_lt b 224) (nat_lt b 240) h)
code_point-same b (c ∷ []) y z h = second_same (nat_lt b 128) (nat_lt b 224) b _ _ _ (two_wide _ _ (nat_lt b 240) h)
code_point-same b (c ∷ d ∷ []) y z h = third_same (nat_lt b 128) (nat_lt b 224) (nat_lt b 240) b _ _ _ _ (three_wide _ _ _ h)
code_point-same b (c ∷ d ∷ e ∷ bs) y z h = refl

pub line_end-same : (b : ℕ) (bs y z : List ℕ) → width b ≤ length (b ∷ bs) → at_line_end (b ∷ (bs ++ y)) ≡ at_line_end (b ∷ (bs ++ z))
unfolding at_line_end
line_end-same b [] y z h = rw (no_wide_end b (omega (arith, h))) refl
line_end-same b (c ∷ []) y z h = rw (no_wide_end b h) refl
line_end-same b (c ∷ d ∷ bs) y z h = refl

pub character-is : (b : ℕ) (rest : List ℕ) → width b ≤ length (b ∷ rest) → character (b ∷ rest) ≡ width b
unfolding character
character-is b rest h = omega (arith, h)

pub behind : (b : ℕ) (bs y : List ℕ) → width b ≤ length (b ∷ bs) → width b ≤ length (b ∷ (bs ++ y))
behind b bs y h = let n = length-append bs y in omega (arith, h, n)

no_comment : (b : ℕ) (rest : List ℕ) → eqb b 47 ≡ false → comment (b ∷ rest) ≡ 0
unfolding comment
no_comment b rest e = rw (e) refl

pub separator-same : (b : ℕ) (bs y z : List ℕ) → width b ≤ length (b ∷ bs) → eqb b 47 ≡ false → separator (b ∷ (bs ++ y)) ≡ separator (b ∷ (bs ++ z))
unfolding separator
separator-same b bs y z h e =
    let line = line_end-same b bs y z h in
    let point = code_point-same b bs y z h in
    let size : character (b ∷ (bs ++ y)) ≡ character (b ∷ (bs ++ z)) = character-is b (bs ++ y) (behind b bs y h) ∙ sym (character-is b (bs ++ z) (behind b bs z h)) in
    let none : comment (b ∷ (bs ++ y)) ≡ comment (b ∷ (bs ++ z)) = no_comment b (bs ++ y) e ∙ sym (no_comment b (bs ++ z) e) in
    λ i. cond (line i || is_space (point i)) (size i) (none i)

-- ---- escapes

escape_if : (t : Bool) (x : Escape) (v : ℕ × ℕ) → cond t x None ≡ Some v → (t ≡ true) × (x ≡ Some v)
escape_if true x v h = (refl, h)
escape_if false x v h = cc

same_some : (u v : ℕ × ℕ) → Some u ≡ Some v → u ≡ v
same_some u v h = cc

size_of : (t : Bool) (value n : ℕ) (v : ℕ × ℕ) → cond t (Some (value, n)) None ≡ Some v → v.1 ≡ n
size_of t value n v h = sym (ap (λ (x : ℕ × ℕ). x.1) (same_some _ _ (escape_if t _ v h).1))

four-size : (text : List ℕ) (v : ℕ × ℕ) → four_digits text ≡ Some v → v.1 ≡ 6
unfolding four_digits
four-size text v h = size_of _ _ 6 v h

braced-size : (text : List ℕ) (v : ℕ × ℕ) → braced_digits text ≡ Some v → v.1 ≡ prefix_len is_hex_digit (drop 3 text) + 4
unfolding braced_digits
braced-size text v h = size_of _ _ _ v h

either_size : (t : Bool) (x y : Escape) (v : ℕ × ℕ) → (x ≡ Some v → 4 ≤ v.1) → (y ≡ Some v → 4 ≤ v.1) → cond t x y ≡ Some v → 4 ≤ v.1
either_size true x y v hx hy h = hx h
either_size false x y v hx hy h = hy h

pub escape-long : (text : List ℕ) (v : ℕ × ℕ) → unicode_escape text ≡ Some v → 4 ≤ v.1
unfolding unicode_escape
escape-long text v h =
    either_size _ _ _ v (λ e. let n = braced-size text v e in omega (arith, n)) (λ e. let n = four-size text v e in omega (arith, n)) (escape_if _ _ v h).1

prefix-same : (p : ℕ → Bool) (w y z : List ℕ) → prefix_len p (w ++ y) < length w → prefix_len p (w ++ z) ≡ prefix_len p (w ++ y)
prefix-same p [] y z h = absurd (omega (arith, h))
prefix-same p (b ∷ w) y z h = by (λ short. prefix-same p w y z short) (p b) h
  where
    by : (prefix_len p (w ++ y) < length w → prefix_len p (w ++ z) ≡ prefix_len p (w ++ y)) → (t : Bool) → cond t (1 + prefix_len p (w ++ y)) 0 < length (b ∷ w) → cond t (1 + prefix_len p (w ++ z)) 0 ≡ cond t (1 + prefix_len p (w ++ y)) 0
    by more true h = ap (λ n. 1 + n) (more (omega (arith, h)))
    by more false h = refl

-- what so many digits and the byte behind them make
abbrev braced_with : ℕ → ℕ → List ℕ → Escape
braced_with n brace digits = cond (nat_lt 0 n && eqb brace 125 && nat_le (hex_value digits) 0x10FFFF) (Some (hex_value digits, n + 4)) None

braced-is : (text : List ℕ) → braced_digits text ≡ braced_with (prefix_len is_hex_digit (drop 3 text)) (slice_index text (3 + prefix_len is_hex_digit (drop 3 text))) (take (prefix_len is_hex_digit (drop 3 text)) (drop 3 text))
unfolding braced_digits
braced-is text = refl

braced-same : (a b c : ℕ) (w y z : List ℕ) (v : ℕ × ℕ) → braced_digits (a ∷ b ∷ c ∷ (w ++ y)) ≡ Some v → v.1 ≡ length (a ∷ b ∷ c ∷ w) → braced_digits (a ∷ b ∷ c ∷ (w ++ z)) ≡ Some v
braced-same a b c w y z v h size =
    let n = prefix_len is_hex_digit (w ++ y) in
    let total : v.1 ≡ n + 4 = braced-size (a ∷ b ∷ c ∷ (w ++ y)) v h in
    let short : n < length w = omega (arith, total, size) in
    let count : prefix_len is_hex_digit (w ++ z) ≡ n = prefix-same is_hex_digit w y z short in
    let at : slice_index (a ∷ b ∷ c ∷ (w ++ z)) (3 + prefix_len is_hex_digit (w ++ z)) ≡ slice_index (a ∷ b ∷ c ∷ (w ++ y)) (3 + n) =
    ap (λ m. slice_index (a ∷ b ∷ c ∷ (w ++ z)) (3 + m)) count ∙ get_or_append_left (a ∷ b ∷ c ∷ w) z 0 (3 + n) (omega (arith, short)) ∙ sym (get_or_append_left (a ∷ b ∷ c ∷ w) y 0 (3 + n) (omega (arith, short))) in
    let digits : take (prefix_len is_hex_digit (w ++ z)) (w ++ z) ≡ take n (w ++ y) =
    ap (λ m. take m (w ++ z)) count ∙ take-append-le n w z (omega (arith, short)) ∙ sym (take-append-le n w y (omega (arith, short))) in
    braced-is (a ∷ b ∷ c ∷ (w ++ z)) ∙ (λ i. braced_with (count i) (at i) (digits i)) ∙ sym (braced-is (a ∷ b ∷ c ∷ (w ++ y))) ∙ h

four-same : (a b c : ℕ) (w y z : List ℕ) (v : ℕ × ℕ) → four_digits (a ∷ b ∷ c ∷ (w ++ y)) ≡ Some v → v.1 ≡ length (a ∷ b ∷ c ∷ w) → four_digits (a ∷ b ∷ c ∷ (w ++ z)) ≡ Some v
unfolding four_digits
four-same a b c (d ∷ e ∷ f ∷ []) y z v h size = h
four-same a b c [] y z v h size = let six = size_of _ _ 6 v h in absurd (omega (arith, six, size))
four-same a b c (d ∷ []) y z v h size = let six = size_of _ _ 6 v h in absurd (omega (arith, six, size))
four-same a b c (d ∷ e ∷ []) y z v h size = let six = size_of _ _ 6 v h in absurd (omega (arith, six, size))
four-same a b c (d ∷ e ∷ f ∷ g ∷ w) y z v h size = let six = size_of _ _ 6 v h in absurd (omega (arith, six, size))

pub escape-same : (bytes y z : List ℕ) (v : ℕ × ℕ) → unicode_escape (bytes ++ y) ≡ Some v → v.1 ≡ length bytes → unicode_escape (bytes ++ z) ≡ Some v
unfolding unicode_escape
escape-same [] y z v h size = let long = escape-long y v h in absurd (omega (arith, long, size))
escape-same (a ∷ []) y z v h size = let long = escape-long (a ∷ y) v h in absurd (omega (arith, long, size))
escape-same (a ∷ b ∷ []) y z v h size = let long = escape-long (a ∷ b ∷ y) v h in absurd (omega (arith, long, size))
escape-same (a ∷ b ∷ c ∷ w) y z v h size =
    let e = escape_if (eqb a 92 && eqb b 117) _ v h in
    cond-true _ _ None e.0 ∙ by (eqb c 123) e.1
  where
    by : (t : Bool) → cond t (braced_digits (a ∷ b ∷ c ∷ (w ++ y))) (four_digits (a ∷ b ∷ c ∷ (w ++ y))) ≡ Some v → cond t (braced_digits (a ∷ b ∷ c ∷ (w ++ z))) (four_digits (a ∷ b ∷ c ∷ (w ++ z))) ≡ Some v
    by true e = braced-same a b c w y z v e size
    by false e = four-same a b c w y z v e size

-- ---- pieces of names

record Passing (test : ℕ → Bool) (e : Escape) (n : ℕ) : Type 0 where
  escape : ℕ × ℕ
  is : e ≡ Some escape
  size : escape.1 ≡ n
  passes : test escape.0 ≡ true

passing : (test : ℕ → Bool) (e : Escape) (n : ℕ) → 0 < n → escape_passing test e ≡ n → Passing test e n
passing test None n some h = absurd (omega (arith, some, h))
passing test (Some v) n some h = by (test v.0) refl h
  where
    by : (t : Bool) → test v.0 ≡ t → cond t v.1 0 ≡ n → Passing test (Some v) n
    by true is e = record { escape = v; is = refl; size = e; passes = is }
    by false is e = absurd (omega (arith, some, e))

record Chosen (t : Bool) (x n : ℕ) : Type 0 where
  yes : t ≡ true
  is : x ≡ n

chosen : (t : Bool) (x n : ℕ) → 0 < n → cond t x 0 ≡ n → Chosen t x n
chosen true x n some h = record { yes = refl; is = h }
chosen false x n some h = absurd (omega (arith, some, h))

low : (b : ℕ) → b < 192 → 1 < width b → code_point (b ∷ []) ≡ 0
unfolding code_point
low b small wide = by (nat_lt b 128) refl
  where
    by : (t : Bool) → nat_lt b 128 ≡ t → cond t b (cond (nat_lt b 224) ((b - 192) * 64 + (0 - 128)) (cond (nat_lt b 240) (((b - 224) * 64 + (0 - 128)) * 64 + (0 - 128)) ((((b - 240) * 64 + (0 - 128)) * 64 + (0 - 128)) * 64 + (0 - 128)))) ≡ 0
    by true is = let one : width b ≡ 1 = cond-true (nat_lt b 128) 1 _ is in absurd (omega (arith, one, wide))
    by false is = cond-true (nat_lt b 224) _ _ (lt-ltb b 224 (omega (arith, small))) ∙ omega (arith, small)

second_wide : (t r : Bool) → t ≡ true → cond t 2 (cond r 3 4) ≤ 2
second_wide true r e = omega arith
second_wide false r e = cc

two_bytes : (b : ℕ) → b < 192 → width b ≤ 2
two_bytes b small = by (nat_lt b 128)
  where
    by : (t : Bool) → cond t 1 (cond (nat_lt b 224) 2 (cond (nat_lt b 240) 3 4)) ≤ 2
    by true = omega arith
    by false = second_wide (nat_lt b 224) (nat_lt b 240) (lt-ltb b 224 (omega (arith, small)))

-- where so many bytes are the character at the front of a text, it has no more
wide_enough : (b : ℕ) (bs y : List ℕ) → Whole (b ∷ (bs ++ y)) → character (b ∷ (bs ++ y)) ≡ length (b ∷ bs) → (code_point (b ∷ (bs ++ y)) ≡ 0 → ⊥) → width b ≤ length (b ∷ bs)
unfolding character
wide_enough b bs y whole size some = elim (cases_lt (length (b ∷ bs)) (width b)) [ inr fits ↦ fits | inl more ↦ absurd (wider b bs y whole size some more) ]
  where
    wider : (b : ℕ) (bs y : List ℕ) → Whole (b ∷ (bs ++ y)) → min (width b) (length (b ∷ (bs ++ y))) ≡ length (b ∷ bs) → (code_point (b ∷ (bs ++ y)) ≡ 0 → ⊥) → length (b ∷ bs) < width b → ⊥
    wider b bs y whole size some more = elim (cases_lt b 192) [
      | inr high ↦ (let fits = whole.0 high in let n = length-append bs y in omega (arith, fits, n, size, more))
      | inl small ↦ (at_end b bs y size some more small)
    ]
      where
        at_end : (b : ℕ) (bs y : List ℕ) → min (width b) (length (b ∷ (bs ++ y))) ≡ length (b ∷ bs) → (code_point (b ∷ (bs ++ y)) ≡ 0 → ⊥) → length (b ∷ bs) < width b → b < 192 → ⊥
        at_end b [] [] size some more small = some (low b small more)
        at_end b [] (c ∷ y) size some more small = omega (arith, size, more)
        at_end b (c ∷ bs) y size some more small = let two = two_bytes b small in omega (arith, two, more)

pub character-same : (test : ℕ → Bool) (b : ℕ) (bs y z : List ℕ) → test 0 ≡ false → Whole (b ∷ (bs ++ y)) → cond (test (code_point (b ∷ (bs ++ y)))) (character (b ∷ (bs ++ y))) 0 ≡ length (b ∷ bs) → cond (test (code_point (b ∷ (bs ++ z)))) (character (b ∷ (bs ++ z))) 0 ≡ length (b ∷ bs)
character-same test b bs y z none whole h =
    let c = chosen (test (code_point (b ∷ (bs ++ y)))) _ (length (b ∷ bs)) (omega arith) h in
    let wide = wide_enough b bs y whole c.is (λ e. let bad : true ≡ false = sym c.yes ∙ ap test e ∙ none in cc) in
    cond-true _ _ 0 (ap test (sym (code_point-same b bs y z wide)) ∙ c.yes) ∙ character-is b (bs ++ z) (behind b bs z wide) ∙ sym (character-is b (bs ++ y) (behind b bs y wide)) ∙ c.is

pub piece-same : (test : ℕ → Bool) (bytes y z : List ℕ) → test 0 ≡ false → Whole (bytes ++ y) → 0 < length bytes → name_piece test (bytes ++ y) ≡ length bytes → name_piece test (bytes ++ z) ≡ length bytes
piece-same test [] y z none whole some h = absurd (omega (arith, some))
piece-same test (b ∷ bs) y z none whole some h = by (eqb b 92) h
  where
    by : (t : Bool) → cond t (escape_passing test (unicode_escape (b ∷ (bs ++ y)))) (cond (test (code_point (b ∷ (bs ++ y)))) (character (b ∷ (bs ++ y))) 0) ≡ length (b ∷ bs)
        → cond t (escape_passing test (unicode_escape (b ∷ (bs ++ z)))) (cond (test (code_point (b ∷ (bs ++ z)))) (character (b ∷ (bs ++ z))) 0) ≡ length (b ∷ bs)
    by true e =
        let p = passing test _ (length (b ∷ bs)) some e in
        ap (escape_passing test) (escape-same (b ∷ bs) y z p.escape p.is p.size) ∙ cond-true (test p.escape.0) p.escape.1 0 p.passes ∙ p.size
    by false e = character-same test b bs y z none whole e

-- and it is no wider than they are
pub piece-wide : (test : ℕ → Bool) (b : ℕ) (bs y : List ℕ) → test 0 ≡ false → Whole (b ∷ (bs ++ y)) → name_piece test (b ∷ (bs ++ y)) ≡ length (b ∷ bs) → width b ≤ length (b ∷ bs)
piece-wide test b bs y none whole h = by (eqb b 92) refl h
  where
    by : (t : Bool) → eqb b 92 ≡ t → cond t (escape_passing test (unicode_escape (b ∷ (bs ++ y)))) (cond (test (code_point (b ∷ (bs ++ y)))) (character (b ∷ (bs ++ y))) 0) ≡ length (b ∷ bs) → width b ≤ length (b ∷ bs)
    by true is e = let one : width b ≤ 1 = subst (λ x. width x ≤ 1) (sym (eqb-true b 92 is)) (omega arith) in omega (arith, one)
    by false is e =
        let c = chosen (test (code_point (b ∷ (bs ++ y)))) _ (length (b ∷ bs)) (omega arith) e in
        wide_enough b bs y whole c.is (λ z. let bad : true ≡ false = sym c.yes ∙ ap test z ∙ none in cc)
