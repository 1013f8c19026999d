-- The line that a binary search over line starts finds.
use Rattle.std.proofs.Common.{◌≡◌, ℕ, zero, suc, ◌+◌, ◌-◌, ◌<◌, ◌≤◌, Bool, true, false, cond, not, eqb, List, [], ◌∷◌, length, get_or, take, drop, reverse, count_by, refl, sym, ap, subst, ◌∙◌, arith}
use Rattle.std.specs.List.{suffix_len, prefix_len}
use Rattle.std.specs.List.Sorted.{IsNonDecreasing, IsPartitionPoint}
use Rattle.std.proofs.lemmas.Bool.{eq-eqb, ne_eqb}
use Rattle.std.proofs.lemmas.List.{length-reverse, reverse-append, length-drop, length-take-le}
use Rattle.std.proofs.lemmas.List.Folds.{prefix_len-append}
use Rattle.std.proofs.lemmas.List.Sorted.{IsNonDecreasingBy-from_default}
use Rattle.std.proofs.lemmas.List.Sums.{sum_by-cons}
use Rattle.esb_msgs.specs.Lines.{is_line_end, line_of, column_of, starts_from, line_starts}

-- how many bytes stand behind the last line feed
abbrev tail_len : List ℕ → ℕ
tail_len bytes = suffix_len (λ byte. not (is_line_end byte)) bytes

one_byte : (b : Bool) → cond (not b) (1 + 0) 0 ≡ cond b 0 1
one_byte true = refl
one_byte false = refl

tail_len-cons : (byte : ℕ) (bytes : List ℕ) → tail_len (byte ∷ bytes) ≡ cond (eqb (tail_len bytes) (length bytes)) (length bytes + cond (is_line_end byte) 0 1) (tail_len bytes)
tail_len-cons byte bytes =
    let p = λ (x : ℕ). not (is_line_end x) in
    ap (prefix_len p) (reverse-append (byte ∷ []) bytes)
    ∙ prefix_len-append p (reverse bytes) (byte ∷ [])
    ∙ rw (length-reverse bytes) (ap (λ n. cond (eqb (tail_len bytes) (length bytes)) (length bytes + n) (tail_len bytes)) (one_byte (is_line_end byte)))

count-cons : (byte : ℕ) (bytes : List ℕ) → count_by is_line_end (byte ∷ bytes) ≡ cond (is_line_end byte) 1 0 + count_by is_line_end bytes
count-cons byte bytes = sum_by-cons (λ x. cond (is_line_end x) 1 0) byte bytes

-- without a line feed all bytes stand behind the last, and with one not all do
record Counted (count tail len : ℕ) : Type 0 where
  none : count ≡ 0 → tail ≡ len
  some : 0 < count → tail < len

tail_all : (n t l : ℕ) → t ≡ l → cond (eqb t l) (l + n) t ≡ l + n
tail_all n t l e = rw (eq-eqb t l e) refl

tail_part : (n t l : ℕ) → t < l → cond (eqb t l) (l + n) t ≡ t
tail_part n t l less = rw (ne_eqb t l (λ e. absurd (omega arith))) refl

counted_more : (b : Bool) (count tail len : ℕ) → Counted count tail len → Counted (cond b 1 0 + count) (cond (eqb tail len) (len + cond b 0 1) tail) (suc len)
counted_more true zero tail len c = record { none = λ e. absurd (omega arith); some = λ _. omega (arith, tail_all 0 tail len (c.none refl)) }
counted_more true (suc count) tail len c = record { none = λ e. absurd (omega arith); some = λ _. omega (arith, tail_part 0 tail len (c.some (omega arith)), c.some (omega arith)) }
counted_more false zero tail len c = record { none = λ e. omega (arith, tail_all 1 tail len (c.none refl)); some = λ h. absurd (omega arith) }
counted_more false (suc count) tail len c = record { none = λ e. absurd (omega arith); some = λ _. omega (arith, tail_part 1 tail len (c.some (omega arith)), c.some (omega arith)) }

counted : (bytes : List ℕ) → Counted (count_by is_line_end bytes) (tail_len bytes) (length bytes)
counted [] = record { none = λ _. refl; some = λ h. absurd (omega arith) }
counted (byte ∷ bytes) =
    rw (count-cons byte bytes, tail_len-cons byte bytes)
    (counted_more (is_line_end byte) (count_by is_line_end bytes) (tail_len bytes) (length bytes) (counted bytes))

above_one : (b : Bool) (at : ℕ) (rest : List ℕ) (i : ℕ) → ((k : ℕ) → k < length rest → suc at < get_or rest k 0)
    → i < length (cond b (suc at ∷ rest) rest) → at < get_or (cond b (suc at ∷ rest) rest) i 0
above_one true at rest zero above within = omega arith
above_one true at rest (suc i) above within = omega (arith, above i (omega arith))
above_one false at rest i above within = omega (arith, above i within)

-- lines begin behind the offset
starts_above : (at : ℕ) (bytes : List ℕ) (i : ℕ) → i < length (starts_from at bytes) → at < get_or (starts_from at bytes) i 0
starts_above at [] i within = absurd (omega arith)
starts_above at (byte ∷ bytes) i within = above_one (is_line_end byte) at (starts_from (suc at) bytes) i (starts_above (suc at) bytes) within

-- what does not fall, by its numbers
abbrev Rises : List ℕ → Type 0
Rises xs = (i j : ℕ) → i ≤ j → j < length xs → get_or xs i 0 ≤ get_or xs j 0

rises_more : (x : ℕ) (xs : List ℕ) → ((k : ℕ) → k < length xs → x < get_or xs k 0) → Rises xs → Rises (x ∷ xs)
rises_more x xs above rises zero zero le within = omega arith
rises_more x xs above rises zero (suc j) le within = omega (arith, above j (omega arith))
rises_more x xs above rises (suc i) zero le within = absurd (omega arith)
rises_more x xs above rises (suc i) (suc j) le within = rises i j (omega arith) (omega arith)

rises_one : (b : Bool) (at : ℕ) (rest : List ℕ) → ((k : ℕ) → k < length rest → suc at < get_or rest k 0) → Rises rest → Rises (cond b (suc at ∷ rest) rest)
rises_one true at rest above rises = rises_more (suc at) rest above rises
rises_one false at rest above rises = rises

starts_rise : (at : ℕ) (bytes : List ℕ) → Rises (starts_from at bytes)
starts_rise at [] = λ i j le within. absurd (omega arith)
starts_rise at (byte ∷ bytes) = rises_one (is_line_end byte) at (starts_from (suc at) bytes) (starts_above (suc at) bytes) (starts_rise (suc at) bytes)

pub line_starts_rise : (contents : List ℕ) → IsNonDecreasing (line_starts contents)
line_starts_rise contents =
    IsNonDecreasingBy-from_default (λ x. x) (line_starts contents) 0 (rises_more 0 (starts_from 0 contents) (starts_above 0 contents) (starts_rise 0 contents))

-- n of these numbers, the first ones, are at most the bound
pub record Parts (starts : List ℕ) (bound n : ℕ) : Type 0 where
  pub within : n ≤ length starts
  pub low : (i : ℕ) → i < n → get_or starts i 0 ≤ bound
  pub high : (i : ℕ) → n ≤ i → i < length starts → bound < get_or starts i 0

-- so many line feeds stand before, and the last is followed by so many bytes
record Found (starts : List ℕ) (bound n count tail : ℕ) : Type 0 where
  counts : n ≡ count
  last : (j : ℕ) → n ≡ suc j → get_or starts j 0 + tail ≡ bound

rest_parts : (x : ℕ) (rest : List ℕ) (bound n : ℕ) → Parts (x ∷ rest) bound (suc n) → Parts rest bound n
rest_parts x rest bound n parts = record {
  within = omega (arith, parts.within);
  low = λ i less. parts.low (suc i) (omega arith);
  high = λ i le within. parts.high (suc i) (omega arith) (omega arith);
}

last_one : (at k n count tail : ℕ) (rest : List ℕ) → Counted count tail k → Found rest (suc at + k) n count tail
    → get_or (suc at ∷ rest) n 0 + cond (eqb tail k) (k + 0) tail ≡ at + suc k
last_one at k zero count tail rest c found = omega (arith, tail_all 0 tail k (c.none (sym found.counts)))
last_one at k (suc n) count tail rest c found = omega (arith, tail_part 0 tail k (c.some (omega (arith, found.counts))), found.last n refl)

found_one : (b : Bool) (at k n count tail : ℕ) (rest : List ℕ) → Counted count tail k
    → ((m : ℕ) → Parts rest (suc at + k) m → Found rest (suc at + k) m count tail)
    → Parts (cond b (suc at ∷ rest) rest) (at + suc k) n
    → Found (cond b (suc at ∷ rest) rest) (at + suc k) n (cond b 1 0 + count) (cond (eqb tail k) (k + cond b 0 1) tail)
found_one true at k zero count tail rest c on parts = absurd (omega (arith, parts.high 0 (omega arith) (omega arith)))
found_one true at k (suc n) count tail rest c on parts =
    let same : at + suc k ≡ suc at + k = omega arith in
    let found = on n (rest_parts (suc at) rest (suc at + k) n (rw same at parts)) in
    record { counts = omega (arith, found.counts); last = λ j e. let here : j ≡ n = omega arith in rw here (last_one at k n count tail rest c found) }
found_one false at k n count tail rest c on parts =
    let same : at + suc k ≡ suc at + k = omega arith in
    let found = on n (rw same at parts) in
    record {
      counts = omega (arith, found.counts);
      last = λ j e. omega (arith, tail_part 1 tail k (c.some (omega (arith, found.counts))), found.last j e);
    }

found : (at : ℕ) (bytes : List ℕ) (k n : ℕ) → k ≤ length bytes → Parts (starts_from at bytes) (at + k) n
    → Found (starts_from at bytes) (at + k) n (count_by is_line_end (take k bytes)) (tail_len (take k bytes))
found at [] zero n le parts = record { counts = omega (arith, parts.within); last = λ j e. absurd (omega (arith, parts.within)) }
found at [] (suc k) n le parts = absurd (omega arith)
found at (byte ∷ bytes) zero zero le parts = record { counts = refl; last = λ j e. absurd (omega arith) }
found at (byte ∷ bytes) zero (suc n) le parts =
    absurd (omega (arith, parts.within, parts.low 0 (omega arith), starts_above at (byte ∷ bytes) 0 (omega (arith, parts.within))))
found at (byte ∷ bytes) (suc k) n le parts =
    let short : length (take k bytes) ≡ k = length-take-le k bytes (omega arith) in
    let c = subst (λ len. Counted (count_by is_line_end (take k bytes)) (tail_len (take k bytes)) len) short (counted (take k bytes)) in
    rw (count-cons byte (take k bytes), tail_len-cons byte (take k bytes), short)
    (found_one (is_line_end byte) at k n (count_by is_line_end (take k bytes)) (tail_len (take k bytes)) (starts_from (suc at) bytes) c (λ m h. found (suc at) bytes k m (omega arith) h) parts)

-- what a search over the line starts finds
pub record FindsPlace (contents : List ℕ) (offset line : ℕ) : Type 0 where
  pub some : 0 < line
  pub line_is : line ≡ line_of contents offset
  pub column_is : (j : ℕ) → line ≡ suc j → get_or (line_starts contents) j 0 + column_of contents offset ≡ offset

column_is_tail : (bytes : List ℕ) → tail_len bytes ≤ length bytes → length (drop (length bytes - tail_len bytes) bytes) ≡ tail_len bytes
column_is_tail bytes le = omega (arith, length-drop (length bytes - tail_len bytes) bytes)

le_counted : (count tail len : ℕ) → Counted count tail len → tail ≤ len
le_counted zero tail len c = omega (arith, c.none refl)
le_counted (suc count) tail len c = omega (arith, c.some (omega arith))

column_is : (bytes : List ℕ) → length (drop (length bytes - tail_len bytes) bytes) ≡ tail_len bytes
column_is bytes = column_is_tail bytes (le_counted (count_by is_line_end bytes) (tail_len bytes) (length bytes) (counted bytes))

place_at : (contents : List ℕ) (offset n : ℕ) → offset ≤ length contents → Found (starts_from 0 contents) offset n (count_by is_line_end (take offset contents)) (tail_len (take offset contents))
    → FindsPlace contents offset (suc n)
place_at contents offset zero le here =
    let bytes = take offset contents in
    let none : count_by is_line_end bytes ≡ 0 = sym here.counts in
    record {
      some = omega arith;
      line_is = omega (arith, here.counts);
      column_is = λ j e. let first : j ≡ 0 = omega arith in rw first (omega (arith, column_is bytes, (counted bytes).none none, length-take-le offset contents le));
    }
place_at contents offset (suc n) le here =
    let bytes = take offset contents in
    record {
      some = omega arith;
      line_is = omega (arith, here.counts);
      column_is = λ j e. let next : j ≡ suc n = omega arith in rw next (omega (arith, column_is bytes, here.last n refl));
    }

pub finds_place : (contents : List ℕ) (offset line : ℕ) → offset ≤ length contents → Parts (line_starts contents) offset line → FindsPlace contents offset line
finds_place contents offset zero le parts = absurd (omega (arith, parts.high 0 (omega arith) (omega arith)))
finds_place contents offset (suc n) le parts =
    let same : 0 + offset ≡ offset = omega arith in
    let rest = rest_parts 0 (starts_from 0 contents) offset n parts in
    place_at contents offset n le (rw same at (found 0 contents offset n le (rw same rest)))

pub place_found : (contents starts : List ℕ) (offset line : ℕ) → starts ≡ line_starts contents → offset ≤ length contents → line ≤ length starts
    → IsPartitionPoint (λ start. start ≤ offset) (λ start. offset < start) starts line → FindsPlace contents offset line
place_found contents starts offset line are le within point =
    finds_place contents offset line le (subst (λ xs. Parts xs offset line) are
    (record { within = within; low = λ i less. point.0 i 0 (omega arith) less; high = λ i more inside. point.1 i 0 more inside }))
