-- Strings, templates and regular expressions: their parts are the same whatever stands behind the token.
use Rattle.std.proofs.Common.{◌≡◌, ℕ, zero, suc, ◌+◌, ◌-◌, ◌<◌, ◌≤◌, min, Bool, true, false, cond, ◌&&◌, ◌||◌, eqb, nat_lt, nat_le, List, [], ◌∷◌, ◌++◌, length, slice_index, Some, None, refl, sym, ap, ◌∙◌, arith, append_assoc, length-append}
use Rattle.std.proofs.lemmas.List.{get_or_append_left}
use Rattle.std.proofs.lemmas.Bool.{ne_eqb, lt-leb, and_right, and_left}
use Rattle.esb_token.specs.Runs.{run_from, run}
use Rattle.esb_token.specs.Characters.{width, character, is_digit, is_hex_digit, at_line_end, is_wide_line_end}
use Rattle.esb_token.specs.Names.{Escape, unicode_escape}
use Rattle.esb_token.specs.Strings.{escape_length, string_escape, string_piece}
use Rattle.esb_token.specs.Templates.{template_piece}
use Rattle.esb_token.specs.RegExps.{escaped_byte, class_piece, class, body_piece}
use Rattle.esb_print.proofs.Pieces.{escape-same, escape-long}

-- ---- choices

-- a choice that made a number makes it again
cond_keep : (t : Bool) (x y u v n : ℕ) → (x ≡ n → u ≡ n) → (y ≡ n → v ≡ n) → cond t x y ≡ n → cond t u v ≡ n
cond_keep true x y u v n hx hy h = hx h
cond_keep false x y u v n hx hy h = hy h

cond_never : (t : Bool) (x y n : ℕ) → (x ≡ n → ⊥) → (y ≡ n → ⊥) → cond t x y ≡ n → ⊥
cond_never true x y n hx hy h = hx h
cond_never false x y n hx hy h = hy h

-- the byte behind some bytes
pub first_same : (ps r q : List ℕ) → slice_index r 0 ≡ slice_index q 0 → slice_index (ps ++ r) 0 ≡ slice_index (ps ++ q) 0
first_same [] r q h = h
first_same (p ∷ ps) r q h = refl

not_empty : (ps r : List ℕ) → 0 < length r → eqb (length (ps ++ r)) 0 ≡ false
not_empty ps r some = ne_eqb _ 0 (λ e. let n = length-append ps r in absurd (omega (arith, n, e, some)))

-- ---- strings

-- an escape of a string by its letter, with what its forms have
abbrev escape_of : ℕ → ℕ → ℕ → ℕ → Bool → ℕ → ℕ
escape_of letter two unicode third short other =
    cond (eqb letter 120) two (cond (eqb letter 117) unicode (cond (eqb letter 48) (cond (is_digit third) 0 2) (cond (is_digit letter) 0 (cond (eqb letter 13 && eqb third 10) 3 (cond short 0 (1 + other))))))

escape-is : (b l : ℕ) (x : List ℕ) → string_escape (b ∷ l ∷ x) ≡ escape_of l (cond (is_hex_digit (slice_index x 0) && is_hex_digit (slice_index x 1)) 4 0) (escape_length (unicode_escape (b ∷ l ∷ x))) (slice_index x 0) (nat_le (length (b ∷ l ∷ x)) 1) (character (l ∷ x))
unfolding string_escape
escape-is b l x = refl

long_text : (b l : ℕ) (x : List ℕ) → nat_le (length (b ∷ l ∷ x)) 1 ≡ false
long_text b l x = lt-leb _ 1 (omega arith)

length_never : (text : List ℕ) (n : ℕ) → 0 < n → n < 4 → escape_length (unicode_escape text) ≡ n → ⊥
length_never text n some few h = by (unicode_escape text) (λ v is. escape-long text v is) h
  where
    by : (e : Escape) → ((v : ℕ × ℕ) → e ≡ Some v → 4 ≤ v.1) → escape_length e ≡ n → ⊥
    by None long h = omega (arith, some, h)
    by (Some v) long h = let four = long v refl in omega (arith, few, h, four)

length_keep : (bytes r q : List ℕ) (n : ℕ) → 0 < n → n ≡ length bytes → escape_length (unicode_escape (bytes ++ r)) ≡ n → escape_length (unicode_escape (bytes ++ q)) ≡ n
length_keep bytes r q n some size h = by (unicode_escape (bytes ++ r)) refl h
  where
    by : (e : Escape) → unicode_escape (bytes ++ r) ≡ e → escape_length e ≡ n → escape_length (unicode_escape (bytes ++ q)) ≡ n
    by None is h = absurd (omega (arith, some, h))
    by (Some v) is h = ap escape_length (escape-same bytes r q v is (h ∙ size)) ∙ h

four_never : (t : Bool) (n : ℕ) → 0 < n → (n ≡ 4 → ⊥) → cond t 4 0 ≡ n → ⊥
four_never t n some other = cond_never t 4 0 n (λ e. other (sym e)) (λ e. omega (arith, e, some))

two_keep : (ps r q : List ℕ) (n : ℕ) → n ≡ 2 + length ps → cond (is_hex_digit (slice_index (ps ++ r) 0) && is_hex_digit (slice_index (ps ++ r) 1)) 4 0 ≡ n → cond (is_hex_digit (slice_index (ps ++ q) 0) && is_hex_digit (slice_index (ps ++ q) 1)) 4 0 ≡ n
two_keep [] r q n size h = absurd (four_never _ n (omega (arith, size)) (λ e. omega (arith, e, size)) h)
two_keep (c ∷ []) r q n size h = absurd (four_never _ n (omega (arith, size)) (λ e. omega (arith, e, size)) h)
two_keep (c ∷ d ∷ ps) r q n size h = h

other_keep : (l : ℕ) (ps r q : List ℕ) (n : ℕ) → n ≡ 2 + length ps → 0 < length r → 0 < length q → 1 + character (l ∷ (ps ++ r)) ≡ n → 1 + character (l ∷ (ps ++ q)) ≡ n
unfolding character
other_keep l ps r q n size some more h = let a = length-append ps r in let b = length-append ps q in omega (arith, size, some, more, h, a, b)

escape_keep : (b l : ℕ) (ps r q : List ℕ) → slice_index r 0 ≡ slice_index q 0 → 0 < length r → 0 < length q → string_escape (b ∷ l ∷ (ps ++ r)) ≡ length (b ∷ l ∷ ps) → string_escape (b ∷ l ∷ (ps ++ q)) ≡ length (b ∷ l ∷ ps)
escape_keep b l ps r q first some more h =
    let n = length (b ∷ l ∷ ps) in
    let size : n ≡ 2 + length ps = omega arith in
    let any : 0 < n = omega arith in
    let third : slice_index (ps ++ q) 0 ≡ slice_index (ps ++ r) 0 = sym (first_same ps r q first) in
    let short : nat_le (length (b ∷ l ∷ (ps ++ q))) 1 ≡ nat_le (length (b ∷ l ∷ (ps ++ r))) 1 = long_text b l (ps ++ q) ∙ sym (long_text b l (ps ++ r)) in
    let two = cond (is_hex_digit (slice_index (ps ++ q) 0) && is_hex_digit (slice_index (ps ++ q) 1)) 4 0 in
    let unicode = escape_length (unicode_escape (b ∷ l ∷ (ps ++ q))) in
    escape-is b l (ps ++ q) ∙ (λ i. escape_of l two unicode (third i) (short i) (character (l ∷ (ps ++ q)))) ∙
    cond_keep (eqb l 120) _ _ two _ n (two_keep ps r q n size)
    (cond_keep (eqb l 117) _ _ unicode _ n (length_keep (b ∷ l ∷ ps) r q n any refl)
    (cond_keep (eqb l 48) _ _ _ _ n (λ e. e)
    (cond_keep (is_digit l) _ _ _ _ n (λ e. e)
    (cond_keep (eqb l 13 && eqb (slice_index (ps ++ r) 0) 10) _ _ _ _ n (λ e. e)
    (cond_keep (nat_le (length (b ∷ l ∷ (ps ++ r))) 1) _ _ _ _ n (λ e. e) (other_keep l ps r q n size some more)))))) (sym (escape-is b l (ps ++ r)) ∙ h)

-- an escape has more than its backslash
escape_more : (b l : ℕ) (x : List ℕ) → string_escape (b ∷ l ∷ x) ≡ 1 → ⊥
unfolding character
escape_more b l x h =
    cond_never (eqb l 120) _ _ 1 (four_never _ 1 (omega arith) (λ e. omega (arith, e)))
    (cond_never (eqb l 117) _ _ 1 (length_never (b ∷ l ∷ x) 1 (omega arith) (omega arith))
    (cond_never (eqb l 48) _ _ 1 (cond_never (is_digit (slice_index x 0)) 0 2 1 (λ e. omega (arith, e)) (λ e. omega (arith, e)))
    (cond_never (is_digit l) _ _ 1 (λ e. omega (arith, e))
    (cond_never (eqb l 13 && eqb (slice_index x 0) 10) _ _ 1 (λ e. omega (arith, e))
    (cond_never (nat_le (length (b ∷ l ∷ x)) 1) _ _ 1 (λ e. omega (arith, e)) (λ e. one_more l x e)))))) (sym (escape-is b l x) ∙ h)
  where
    some_width : (l : ℕ) → 0 < width l
    some_width l = by (nat_lt l 128) (nat_lt l 224) (nat_lt l 240)
      where
        by : (s t r : Bool) → 0 < cond s 1 (cond t 2 (cond r 3 4))
        by true t r = omega arith
        by false true r = omega arith
        by false false true = omega arith
        by false false false = omega arith

    one_more : (l : ℕ) (x : List ℕ) → 1 + min (width l) (length (l ∷ x)) ≡ 1 → ⊥
    one_more l x e = let w = some_width l in omega (arith, w, e)

pub string-same : (quote : ℕ) (bytes r q : List ℕ) → slice_index r 0 ≡ slice_index q 0 → 0 < length r → 0 < length q → 0 < length bytes → string_piece quote (bytes ++ r) ≡ length bytes → string_piece quote (bytes ++ q) ≡ length bytes
unfolding string_piece character
string-same quote [] r q first some more any h = absurd (omega (arith, any))
string-same quote (b ∷ bs) r q first some more any h =
    cond_keep ((eqb b quote || eqb b 10) || eqb b 13) 0 _ 0 _ (length (b ∷ bs)) (λ e. e)
    (cond_keep (eqb b 92) _ _ _ _ (length (b ∷ bs)) (escaped b bs r q first some more) (λ e. let x = length-append bs r in let y = length-append bs q in omega (arith, some, more, e, x, y))) h
  where
    escaped : (b : ℕ) (bs r q : List ℕ) → slice_index r 0 ≡ slice_index q 0 → 0 < length r → 0 < length q → string_escape (b ∷ (bs ++ r)) ≡ length (b ∷ bs) → string_escape (b ∷ (bs ++ q)) ≡ length (b ∷ bs)
    escaped b [] [] q first some more e = absurd (omega (arith, some))
    escaped b [] (l ∷ r) q first some more e = absurd (escape_more b l r (e ∙ omega arith))
    escaped b (l ∷ ps) r q first some more e = escape_keep b l ps r q first some more e

-- ---- templates

pub template-same : (bytes r q : List ℕ) → slice_index r 0 ≡ slice_index q 0 → 0 < length r → 0 < length q → 0 < length bytes → template_piece (bytes ++ r) ≡ template_piece (bytes ++ q)
unfolding template_piece
template-same [] r q first some more any = absurd (omega (arith, any))
template-same (b ∷ bs) r q first some more any =
    let second = first_same bs r q first in
    let none = not_empty bs r some ∙ sym (not_empty bs q more) in
    λ i. cond (eqb b 96) 0 (cond (eqb b 36) (cond (eqb (second i) 123) 0 1) (cond (eqb b 92) (cond (none i) 0 2) 1))

-- ---- regular expressions

wide_none : (a b c : ℕ) → eqb b 128 ≡ false → is_wide_line_end a b c ≡ false
wide_none a b c h = and_left (eqb a 226 && eqb b 128) _ (and_right (eqb a 226) _ h)

-- no line ends at a `/` or with it
pub line-same : (x y z : List ℕ) → at_line_end (x ++ 47 ∷ y) ≡ at_line_end (x ++ 47 ∷ z)
unfolding at_line_end
line-same [] y z = refl
line-same (a ∷ []) y z = ap (λ t. (eqb a 10 || eqb a 13) || t) (wide_none a 47 (slice_index y 0) refl ∙ sym (wide_none a 47 (slice_index z 0) refl))
line-same (a ∷ b ∷ []) y z = refl
line-same (a ∷ b ∷ c ∷ x) y z = refl

escaped-same : (x y z : List ℕ) → escaped_byte (x ++ 47 ∷ y) ≡ escaped_byte (x ++ 47 ∷ z)
escaped-same x y z =
    let none = not_empty x (47 ∷ y) (omega arith) ∙ sym (not_empty x (47 ∷ z) (omega arith)) in
    let line = line-same x y z in
    λ i. cond (none i || line i) 0 2

class_piece-same : (x y z : List ℕ) → 0 < length x → class_piece (x ++ 47 ∷ z) ≡ class_piece (x ++ 47 ∷ y)
unfolding class_piece
class_piece-same [] y z some = absurd (omega (arith, some))
class_piece-same (b ∷ x) y z some =
    let line = line-same (b ∷ x) z y in
    let escaped = escaped-same x z y in
    λ i. cond (eqb b 93 || line i) 0 (cond (eqb b 92) (escaped i) 1)

-- a run that ends before a place is the same whatever stands behind it
run_from-same : (part : List ℕ → ℕ) (y z : List ℕ) → ((x : List ℕ) → 0 < length x → part (x ++ z) ≡ part (x ++ y)) → (inside : ℕ) (x : List ℕ) → run_from part inside (x ++ y) < length x → run_from part inside (x ++ z) ≡ run_from part inside (x ++ y)
run_from-same part y z same inside [] h = absurd (omega (arith, h))
run_from-same part y z same (suc inside) (b ∷ x) h = ap (λ n. 1 + n) (run_from-same part y z same inside x (omega (arith, h)))
run_from-same part y z same zero (b ∷ x) h =
    ap (λ n. cond (eqb n 0) 0 (1 + run_from part (n - 1) (x ++ z))) (same (b ∷ x) (omega arith))
    ∙ by (λ inside short. run_from-same part y z same inside x short) (part (b ∷ (x ++ y))) h
  where
    by : ((inside : ℕ) → run_from part inside (x ++ y) < length x → run_from part inside (x ++ z) ≡ run_from part inside (x ++ y)) → (n : ℕ) → cond (eqb n 0) 0 (1 + run_from part (n - 1) (x ++ y)) < length (b ∷ x)
        → cond (eqb n 0) 0 (1 + run_from part (n - 1) (x ++ z)) ≡ cond (eqb n 0) 0 (1 + run_from part (n - 1) (x ++ y))
    by more n h = at (eqb n 0) h
      where
        at : (t : Bool) → cond t 0 (1 + run_from part (n - 1) (x ++ y)) < length (b ∷ x) → cond t 0 (1 + run_from part (n - 1) (x ++ z)) ≡ cond t 0 (1 + run_from part (n - 1) (x ++ y))
        at true h = refl
        at false h = ap (λ m. 1 + m) (more (n - 1) (omega (arith, h)))

record Closed (t : Bool) (x n : ℕ) : Type 0 where
  yes : t ≡ true
  is : x ≡ n

closed : (t : Bool) (x n : ℕ) → 0 < n → cond t x 0 ≡ n → Closed t x n
closed true x n some h = record { yes = refl; is = h }
closed false x n some h = absurd (omega (arith, some, h))

class-same : (b : ℕ) (x y z : List ℕ) (n : ℕ) → 0 < n → n ≤ length (b ∷ x) → class (b ∷ (x ++ 47 ∷ y)) ≡ n → class (b ∷ (x ++ 47 ∷ z)) ≡ n
unfolding class run
class-same b x y z n some within h =
    let body = run_from class_piece 0 (x ++ 47 ∷ y) in
    let c = closed (eqb (slice_index (b ∷ (x ++ 47 ∷ y)) (1 + body)) 93) (body + 2) n some h in
    let short : body < length x = let e = c.is in omega (arith, e, within) in
    let size : run_from class_piece 0 (x ++ 47 ∷ z) ≡ body = run_from-same class_piece (47 ∷ y) (47 ∷ z) (λ w any. class_piece-same w y z any) 0 x short in
    let at : slice_index (b ∷ (x ++ 47 ∷ z)) (1 + body) ≡ slice_index (b ∷ (x ++ 47 ∷ y)) (1 + body) = get_or_append_left (b ∷ x) (47 ∷ z) 0 (1 + body) (omega (arith, short)) ∙ sym (get_or_append_left (b ∷ x) (47 ∷ y) 0 (1 + body) (omega (arith, short))) in
    ap (λ m. cond (eqb (slice_index (b ∷ (x ++ 47 ∷ z)) (1 + m)) 93) (m + 2) 0) size ∙ ap (λ m. cond (eqb m 93) (body + 2) 0) at ∙ h

pub body-same : (bytes w y z : List ℕ) → 0 < length bytes → body_piece (bytes ++ (w ++ 47 ∷ y)) ≡ length bytes → body_piece (bytes ++ (w ++ 47 ∷ z)) ≡ length bytes
unfolding body_piece
body-same [] w y z any h = absurd (omega (arith, any))
body-same (b ∷ bs) w y z any h =
    let n = length (b ∷ bs) in
    let size = length-append bs w in
    ap (λ x. body_piece (b ∷ x)) (sym (append_assoc bs w (47 ∷ z))) ∙
    ((λ i. cond (eqb b 47 || line-same (b ∷ (bs ++ w)) z y i) 0 (cond (eqb b 92) (escaped-same (bs ++ w) z y i) (cond (eqb b 91) (class (b ∷ ((bs ++ w) ++ 47 ∷ z))) 1)))
    ∙ cond_keep (eqb b 47 || at_line_end (b ∷ ((bs ++ w) ++ 47 ∷ y))) 0 _ 0 _ n (λ e. e)
    (cond_keep (eqb b 92) _ _ _ _ n (λ e. e) (cond_keep (eqb b 91) _ 1 _ 1 n (class-same b (bs ++ w) y z n (omega arith) (omega (arith, size))) (λ e. e))) (ap (λ x. body_piece (b ∷ x)) (append_assoc bs w (47 ∷ y)) ∙ h))
