-- The code units of a string's first piece, and of the pieces after it, against a word.
use Rattle.std.proofs.Common.{◌≡◌, ◌≢◌, ℕ, zero, suc, ◌+◌, ◌-◌, ◌/◌, ◌%◌, ◌<◌, ◌≤◌, Bool, true, false, cond, eqb, List, [], ◌∷◌, ◌++◌, Option, Some, None, length, drop, refl, sym, ap, ◌∙◌, arith, drop-drop, length-drop}
use Rattle.std.proofs.lemmas.Bool.{lt-leb}
use Rattle.std.proofs.lemmas.Bool.Decides.{nat_tests}
use Rattle.std.specs.Prelude.{nat_eq, nat_le, nat_lt, slice_index}
use Rattle.std.specs.Cmp.Lexicographic.{pointwise}
use Rattle.std.proofs.lemmas.List.{drop_all, drop_more}
use Rattle.esb_token.specs.Characters.{at_line_end, code_point}
use Rattle.esb_token.specs.Names.{Escape, unicode_escape}
use Rattle.esb_token.specs.Strings.{string_piece, piece_units, units_from, utf16, unescaped_units, unicode_units, escape_units, string_escape_units}
use Rattle.esb_names.specs.Strings.{first_unit}
use Rattle.esb_names.proofs.PointSteps.{points_differ, points_agree, left_over}

units_inside : (quote inside : ℕ) (text : List ℕ) → inside ≤ length text → units_from quote inside text ≡ units_from quote 0 (drop inside text)
units_inside quote zero text h = refl
units_inside quote (suc inside) [] h = absurd (omega arith)
units_inside quote (suc inside) (b ∷ rest) h = units_inside quote inside rest (omega arith)

first_units : (quote b : ℕ) (rest : List ℕ) (n : ℕ) → 0 < n → n ≤ length (b ∷ rest) → cond (eqb n 0) [] (piece_units (b ∷ rest) ++ units_from quote (n - 1) rest) ≡ piece_units (b ∷ rest) ++ units_from quote 0 (drop n (b ∷ rest))
first_units quote b rest zero low high = absurd (omega arith)
first_units quote b rest (suc n) low high =
    let e : suc n - 1 ≡ n = omega arith in
    let more : eqb (suc n) 0 ≡ false = grind (arith, nat_tests) in
    rw (more, e) (ap (λ x. piece_units (b ∷ rest) ++ x) (units_inside quote n rest (omega arith)))

units_stop : (quote : ℕ) (text : List ℕ) → string_piece quote text ≡ 0 → units_from quote 0 text ≡ []
units_stop quote [] h = refl
units_stop quote (b ∷ rest) h = ap (λ n. cond (eqb n 0) [] (piece_units (b ∷ rest) ++ units_from quote (n - 1) rest)) h

units_go_on : (quote : ℕ) (text : List ℕ) → 0 < string_piece quote text → string_piece quote text ≤ length text → units_from quote 0 text ≡ piece_units text ++ units_from quote 0 (drop (string_piece quote text) text)
units_go_on quote [] low high = absurd (omega arith)
units_go_on quote (b ∷ rest) low high = first_units quote b rest (string_piece quote (b ∷ rest)) low high

units_at : (quote : ℕ) (text rest : List ℕ) (at n : ℕ) → rest ≡ drop at text → n ≡ string_piece quote rest → 0 < n → n ≤ length rest → units_from quote 0 (drop at text) ≡ piece_units rest ++ units_from quote 0 (drop (at + n) text)
units_at quote text rest at n here is low high =
    let step = units_go_on quote rest (omega (arith, is)) (omega (arith, is)) in
    let moved : drop (string_piece quote rest) rest ≡ drop (at + n) text = rw (← is, here) (drop-drop n at text) in
    ap (units_from quote 0) (sym here) ∙ step ∙ ap (λ x. piece_units rest ++ units_from quote 0 x) moved

-- ---- a piece has no code unit, one, or two of which the first is no byte

abbrev is_short : List ℕ → Bool
is_short [] = true
is_short (c ∷ []) = true
is_short (c ∷ (d ∷ more)) = nat_le 256 c

either : (P : List ℕ → Type 0) (b : Bool) (xs ys : List ℕ) → P xs → P ys → P (cond b xs ys)
either P true xs ys first second = first
either P false xs ys first second = second

short_point : (c : ℕ) → is_short (utf16 c) ≡ true
short_point c = either (λ xs. is_short xs ≡ true) (nat_lt c 0x10000) (c ∷ []) ((0xD800 + (c - 0x10000) / 0x400) ∷ (0xDC00 + (c - 0x10000) % 0x400) ∷ []) refl (grind (arith, nat_tests))

short_escape : (e : Escape) → is_short (escape_units e) ≡ true
short_escape None = refl
short_escape (Some e) = short_point e.0

short_unescaped : (text : List ℕ) → is_short (unescaped_units text) ≡ true
short_unescaped text = either (λ xs. is_short xs ≡ true) (at_line_end text) [] (utf16 (code_point text)) refl (short_point (code_point text))

escaped_of : (P : List ℕ → Type 0) (text : List ℕ) → ((c : ℕ) → P (c ∷ [])) → P (unicode_units text) → P (unescaped_units (drop 1 text)) → P (string_escape_units text)
unfolding string_escape_units
escaped_of P text one unicode other =
    let is : ℕ → Bool = eqb (slice_index text 1) in
    either P (is 120) _ _ (one _) (either P (is 117) _ _ unicode (either P (is 48) _ _ (one _) (either P (is 98) _ _ (one _) (either P (is 102) _ _ (one _)
    (either P (is 110) _ _ (one _) (either P (is 114) _ _ (one _) (either P (is 116) _ _ (one _) (either P (is 118) _ _ (one _) other))))))))

short_escaped : (text : List ℕ) → is_short (string_escape_units text) ≡ true
short_escaped text = escaped_of (λ xs. is_short xs ≡ true) text (λ c. refl) (short_escape (unicode_escape text)) (short_unescaped (drop 1 text))

piece_of : (P : List ℕ → Type 0) (text : List ℕ) → P (string_escape_units text) → P (utf16 (code_point text)) → P (piece_units text)
unfolding piece_units
piece_of P text escaped plain = either P _ _ _ escaped plain

short_piece : (text : List ℕ) → is_short (piece_units text) ≡ true
short_piece text = piece_of (λ xs. is_short xs ≡ true) text (short_escaped text) (short_point (code_point text))

none_first : (xs : List ℕ) → None ≡ first_unit xs → xs ≡ []
none_first [] h = refl
none_first (x ∷ xs) h = absurd (let g : None ≡ Some x = h in let f : ⊥ = cc in f)

abbrev value_of : Option ℕ → ℕ
value_of None = 0
value_of (Some c) = c

some_first : (c : ℕ) (xs : List ℕ) → Some c ≡ first_unit xs → xs ≡ c ∷ drop 1 xs
some_first c [] h = absurd (let g : Some c ≡ None = h in let f : ⊥ = cc in f)
some_first c (x ∷ xs) h = ap (λ y. y ∷ xs) (sym (ap value_of h))

byte_alone : (c : ℕ) (xs : List ℕ) → Some c ≡ first_unit xs → c < 256 → is_short xs ≡ true → xs ≡ c ∷ []
byte_alone c [] h low short = absurd (let g : Some c ≡ None = h in let f : ⊥ = cc in f)
byte_alone c (x ∷ []) h low short = ap (λ y. y ∷ []) (sym (ap value_of h))
byte_alone c (x ∷ (y ∷ more)) h low short = absurd (let same : c ≡ x = ap value_of h in grind (same, low, short, arith, nat_tests))

drop_byte : (xs : List ℕ) (i : ℕ) → i < length xs → drop i xs ≡ slice_index xs i ∷ drop (i + 1) xs
drop_byte xs i h = drop_more xs i 0 h

-- ---- from a place within the string

none_left : (ys : List ℕ) → pointwise nat_eq [] ys ≡ nat_le (length ys) 0
none_left [] = refl
none_left (y ∷ ys) = sym (lt-leb (length (y ∷ ys)) 0 (omega arith))

pub value_stops : (quote : ℕ) (text rest word : List ℕ) (at count n : ℕ) → rest ≡ drop at text → n ≡ string_piece quote rest → n ≡ 0 → pointwise nat_eq (units_from quote 0 (drop at text)) (drop count word) ≡ nat_le (length word) count
value_stops quote text rest word at count n here is none =
    let ends : units_from quote 0 (drop at text) ≡ [] = rw (← here) (units_stop quote rest (sym is ∙ none)) in
    ap (λ xs. pointwise nat_eq xs (drop count word)) ends ∙ none_left (drop count word) ∙ ap (λ n. nat_le n 0) (length-drop count word) ∙ left_over (length word) count

pub value_ends : (quote : ℕ) (text word : List ℕ) (at count : ℕ) → length text ≤ at → pointwise nat_eq (units_from quote 0 (drop at text)) (drop count word) ≡ nat_le (length word) count
value_ends quote text word at count ended =
    ap (λ xs. pointwise nat_eq (units_from quote 0 xs) (drop count word)) (drop_all at text ended) ∙ none_left (drop count word) ∙ ap (λ n. nat_le n 0) (length-drop count word) ∙ left_over (length word) count

-- a piece without units
pub value_over : (quote : ℕ) (text rest word : List ℕ) (at count n : ℕ) → rest ≡ drop at text → n ≡ string_piece quote rest → 0 < n → n ≤ length rest → None ≡ first_unit (piece_units rest)
    → pointwise nat_eq (units_from quote 0 (drop at text)) (drop count word) ≡ pointwise nat_eq (units_from quote 0 (drop (at + n) text)) (drop count word)
value_over quote text rest word at count n here is low high none =
    ap (λ xs. pointwise nat_eq xs (drop count word)) (units_at quote text rest at n here is low high ∙ ap (λ xs. xs ++ units_from quote 0 (drop (at + n) text)) (none_first (piece_units rest) none))

unit_at : (quote : ℕ) (text rest : List ℕ) (at n c : ℕ) → rest ≡ drop at text → n ≡ string_piece quote rest → 0 < n → n ≤ length rest → Some c ≡ first_unit (piece_units rest)
    → units_from quote 0 (drop at text) ≡ c ∷ (drop 1 (piece_units rest) ++ units_from quote 0 (drop (at + n) text))
unit_at quote text rest at n c here is low high some =
    units_at quote text rest at n here is low high ∙ ap (λ xs. xs ++ units_from quote 0 (drop (at + n) text)) (some_first c (piece_units rest) some)

-- a unit, and no more of the word
pub value_longer : (quote : ℕ) (text rest word : List ℕ) (at count n c : ℕ) → rest ≡ drop at text → n ≡ string_piece quote rest → 0 < n → n ≤ length rest → Some c ≡ first_unit (piece_units rest) → length word ≤ count
    → pointwise nat_eq (units_from quote 0 (drop at text)) (drop count word) ≡ false
value_longer quote text rest word at count n c here is low high some ended =
    ap (λ xs. pointwise nat_eq xs (drop count word)) (unit_at quote text rest at n c here is low high some) ∙ ap (λ ys. pointwise nat_eq (c ∷ (drop 1 (piece_units rest) ++ units_from quote 0 (drop (at + n) text))) ys) (drop_all count word ended)

-- another one than the word's
pub value_differs : (quote : ℕ) (text rest word : List ℕ) (at count n c : ℕ) → rest ≡ drop at text → n ≡ string_piece quote rest → 0 < n → n ≤ length rest → Some c ≡ first_unit (piece_units rest) → count < length word → c ≢ slice_index word count
    → pointwise nat_eq (units_from quote 0 (drop at text)) (drop count word) ≡ false
value_differs quote text rest word at count n c here is low high some within other =
    ap (λ xs. pointwise nat_eq xs (drop count word)) (unit_at quote text rest at n c here is low high some)
    ∙ ap (λ ys. pointwise nat_eq (c ∷ (drop 1 (piece_units rest) ++ units_from quote 0 (drop (at + n) text))) ys) (drop_byte word count within)
    ∙ points_differ c (slice_index word count) (drop 1 (piece_units rest) ++ units_from quote 0 (drop (at + n) text)) (drop (count + 1) word) other

-- the word's
pub value_agrees : (quote : ℕ) (text rest word : List ℕ) (at count n c : ℕ) → rest ≡ drop at text → n ≡ string_piece quote rest → 0 < n → n ≤ length rest → Some c ≡ first_unit (piece_units rest) → count < length word → c ≡ slice_index word count → c < 256
    → pointwise nat_eq (units_from quote 0 (drop at text)) (drop count word) ≡ pointwise nat_eq (units_from quote 0 (drop (at + n) text)) (drop (count + 1) word)
value_agrees quote text rest word at count n c here is low high some within same byte =
    ap (λ xs. pointwise nat_eq xs (drop count word)) (units_at quote text rest at n here is low high ∙ ap (λ xs. xs ++ units_from quote 0 (drop (at + n) text)) (byte_alone c (piece_units rest) some byte (short_piece rest)))
    ∙ ap (λ ys. pointwise nat_eq (c ∷ units_from quote 0 (drop (at + n) text)) ys) (drop_byte word count within)
    ∙ points_agree c (slice_index word count) (units_from quote 0 (drop (at + n) text)) (drop (count + 1) word) same
