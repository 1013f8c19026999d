-- Names, strings, templates and regular expressions that the lexer takes are tokens by the grammar.
use Rattle.std.proofs.Common.{◌≡◌, inl, inr, ℕ, zero, suc, ◌+◌, ◌<◌, ◌≤◌, Bool, true, false, cond, ◌&&◌, ◌||◌, eqb, nat_lt, nat_le, List, [], ◌∷◌, ◌++◌, length, take, drop, slice_index, Some, None, refl, sym, ap, ◌∙◌, subst, arith, lit≤, add-zero, append_assoc, length-append, length-drop}
use Rattle.std.proofs.lemmas.List.{drop_at, get_or-drop, get_or_past, take-append-drop, length-take-le, get_or_append_left, take_at}
use Rattle.std.proofs.lemmas.Bool.{eqb-true, eqb-false, and_parts, or_parts, leb-false, cases_lt}
use Rattle.std.proofs.lemmas.Bool.Decides.{nat_tests}
use Rattle.esb_token.specs.declared.kind.Kind.{Kind}
use Rattle.esb_token.specs.declared.kind.Kind.TheVariants as k
use Rattle.esb_token.specs.declared.goal.Goal.{Goal}
use Rattle.esb_token.specs.declared.goal.Goal.TheVariants as goal
use Rattle.std.specs.List.{prefix_len}
use Rattle.esb_token.specs.Runs.{run}
use Rattle.esb_token.specs.Characters.{code_point, character, is_digit, is_hex_digit, is_identifier_start, is_identifier_part, at_line_end}
use Rattle.esb_token.specs.Names.{Piece, Escape, four_digits, braced_digits, unicode_escape, escape_passing, name_piece, hex_value, name, reserved, word_kind, identifier_start, identifier_part, identifier_character}
use Rattle.esb_token.specs.Strings.{string, string_piece, string_escape, escape_length}
use Rattle.esb_token.specs.Templates.{template, template_piece}
use Rattle.esb_token.specs.RegExps.{regular_expression, body_piece, class, class_piece}
use Rattle.esb_token.specs.Grammar.{joined, AreParts, IsToken}
use Rattle.esb_token.proofs.RunSteps.{run-step, run-stops, run-end}

-- ---- parts lie within the text

pub byte_in : (text : List ℕ) (i b : ℕ) → slice_index text i ≡ b → 0 < b → i < length text
byte_in text i b e some = elim (cases_lt i (length text)) [ inl h ↦ h | inr h ↦ (let past = get_or_past text i 0 h in absurd (omega (arith, e, some, past))) ]

cond_le : (t : Bool) (x y n : ℕ) → (t ≡ true → x ≤ n) → (t ≡ false → y ≤ n) → cond t x y ≤ n
cond_le true x y n h e = h refl
cond_le false x y n h e = e refl

zero_le : (n : ℕ) → 0 ≤ n
zero_le n = omega arith

character_in : (text : List ℕ) → character text ≤ length text
unfolding character
character_in text = omega arith

hex_some : (b : ℕ) → is_hex_digit b ≡ true → 0 < b
hex_some b h = grind (arith, nat_tests)

EscapeIn : List ℕ → Escape → Type 0
EscapeIn text e = (v : ℕ × ℕ) → e ≡ Some v → v.1 ≤ length text

escape_cond : (text : List ℕ) (t : Bool) (x y : Escape) → (t ≡ true → EscapeIn text x) → (t ≡ false → EscapeIn text y) → EscapeIn text (cond t x y)
escape_cond text true x y hx hy = hx refl
escape_cond text false x y hx hy = hy refl

escape_none : (text : List ℕ) → EscapeIn text None
unfolding EscapeIn
escape_none text v e = cc

escape_some : (text : List ℕ) (value n : ℕ) → n ≤ length text → EscapeIn text (Some (value, n))
unfolding EscapeIn
escape_some text value n h v e = let same : (value, n) ≡ v = cc in subst (λ (x : ℕ × ℕ). x.1 ≤ length text) same h

four_in : (text : List ℕ) → EscapeIn text (four_digits text)
unfolding four_digits
four_in text =
    escape_cond text (is_hex_digit (slice_index text 2) && is_hex_digit (slice_index text 3) && is_hex_digit (slice_index text 4) && is_hex_digit (slice_index text 5)) _ None
    (λ all. let h : 5 < length text = byte_in text 5 _ refl (hex_some _ (and_parts _ _ all).1) in escape_some text _ 6 (omega (arith, h)))
    (λ no_digits. escape_none text)

braced_in : (text : List ℕ) → EscapeIn text (braced_digits text)
unfolding braced_digits
braced_in text =
    let digits = prefix_len is_hex_digit (drop 3 text) in
    escape_cond text (nat_lt 0 digits && eqb (slice_index text (3 + digits)) 125 && nat_le (hex_value (take digits (drop 3 text))) 0x10FFFF) _ None
    (λ all. let brace : slice_index text (3 + digits) ≡ 125 = eqb-true _ 125 (and_parts _ _ (and_parts _ _ all).0).1 in let h : 3 + digits < length text = byte_in text (3 + digits) 125 brace (omega arith) in escape_some text (hex_value (take digits (drop 3 text))) (digits + 4) (omega (arith, h)))
    (λ no_digits. escape_none text)

escape_in : (text : List ℕ) → EscapeIn text (unicode_escape text)
unfolding unicode_escape
escape_in text = escape_cond text (eqb (slice_index text 0) 92 && eqb (slice_index text 1) 117) _ None (λ _. escape_cond text (eqb (slice_index text 2) 123) _ _ (λ _. braced_in text) (λ _. four_in text)) (λ _. escape_none text)

passing_in : (test : ℕ → Bool) (text : List ℕ) (e : Escape) → EscapeIn text e → escape_passing test e ≤ length text
unfolding EscapeIn
passing_in test text None h = zero_le (length text)
passing_in test text (Some v) h = cond_le (test v.0) v.1 0 (length text) (λ _. h v refl) (λ _. zero_le (length text))

name_piece_in : (test : ℕ → Bool) (text : List ℕ) → name_piece test text ≤ length text
name_piece_in test text =
    cond_le (eqb (slice_index text 0) 92) _ _ (length text) (λ _. passing_in test text (unicode_escape text) (escape_in text))
    (λ _. cond_le (test (code_point text)) (character text) 0 (length text) (λ _. character_in text) (λ _. zero_le (length text)))

start_in : (text : List ℕ) → identifier_start text ≤ length text
unfolding identifier_start
start_in text = name_piece_in is_identifier_start text

part_in : (text : List ℕ) → identifier_part text ≤ length text
unfolding identifier_part
part_in text = name_piece_in is_identifier_part text

flag_in : (text : List ℕ) → identifier_character text ≤ length text
unfolding identifier_character
flag_in text = cond_le (is_identifier_part (code_point text)) (character text) 0 (length text) (λ _. character_in text) (λ _. zero_le (length text))

length_in : (text : List ℕ) (e : Escape) → EscapeIn text e → escape_length e ≤ length text
unfolding EscapeIn
length_in text None h = zero_le (length text)
length_in text (Some v) h = h v refl

string_escape_in : (text : List ℕ) → string_escape text ≤ length text
unfolding string_escape
string_escape_in text =
    let letter = slice_index text 1 in
    let n = length text in
    cond_le (eqb letter 120) _ _ n (λ _. cond_le (is_hex_digit (slice_index text 2) && is_hex_digit (slice_index text 3)) 4 0 n (λ all. let h : 3 < length text = byte_in text 3 _ refl (hex_some _ (and_parts _ _ all).1) in omega (arith, h)) (λ _. zero_le n))
    (λ _. cond_le (eqb letter 117) _ _ n (λ _. length_in text (unicode_escape text) (escape_in text))
    (λ _. cond_le (eqb letter 48) _ _ n (λ is. cond_le (is_digit (slice_index text 2)) 0 2 n (λ _. zero_le n) (λ _. let h = byte_in text 1 48 (eqb-true _ _ is) (omega arith) in omega (arith, h)))
    (λ _. cond_le (is_digit letter) 0 _ n (λ _. zero_le n)
    (λ _. cond_le (eqb letter 13 && eqb (slice_index text 2) 10) 3 _ n (λ all. let h : 2 < length text = byte_in text 2 10 (eqb-true _ _ (and_parts _ _ all).1) (omega arith) in omega (arith, h))
    (λ _. cond_le (nat_le n 1) 0 _ n (λ _. zero_le n)
    (λ more. let l = leb-false n 1 more in let c = character_in (drop 1 text) in omega (arith, l, c, length-drop 1 text)))))))

string_piece_in : (quote : ℕ) (text : List ℕ) → string_piece quote text ≤ length text
unfolding string_piece
string_piece_in quote text =
    let b = slice_index text 0 in
    cond_le ((eqb b quote || eqb b 10) || eqb b 13) 0 _ (length text) (λ _. zero_le (length text))
    (λ _. cond_le (eqb b 92) (string_escape text) (character text) (length text) (λ _. string_escape_in text) (λ _. character_in text))

template_piece_in : (text : List ℕ) → template_piece text ≤ length text
unfolding template_piece
template_piece_in [] = lit≤ tt
template_piece_in (b ∷ rest) =
    let n = length (b ∷ rest) in
    cond_le (eqb b 96) 0 _ n (λ _. zero_le n)
    (λ _. cond_le (eqb b 36) _ _ n (λ _. cond_le (eqb (slice_index rest 0) 123) 0 1 n (λ _. zero_le n) (λ _. omega arith))
    (λ _. cond_le (eqb b 92) _ 1 n (λ _. cond_le (eqb (length rest) 0) 0 2 n (λ _. zero_le n) (λ some. let h = eqb-false (length rest) 0 some in omega (arith, h))) (λ _. omega arith)))

class_in : (text : List ℕ) → class text ≤ length text
unfolding class
class_in text =
    let body = run class_piece (drop 1 text) in
    cond_le (eqb (slice_index text (1 + body)) 93) (body + 2) 0 (length text) (λ is. let h = byte_in text (1 + body) 93 (eqb-true _ _ is) (omega arith) in omega (arith, h)) (λ _. zero_le (length text))

body_piece_in : (text : List ℕ) → body_piece text ≤ length text
unfolding body_piece
body_piece_in [] = lit≤ tt
body_piece_in (b ∷ rest) =
    let n = length (b ∷ rest) in
    cond_le (eqb b 47 || at_line_end (b ∷ rest)) 0 _ n (λ _. zero_le n)
    (λ _. cond_le (eqb b 92) _ _ n (λ _. cond_le (eqb (length rest) 0 || at_line_end rest) 0 2 n (λ _. zero_le n) (λ some. let h = eqb-false (length rest) 0 (or_parts _ _ some).0 in omega (arith, h)))
    (λ _. cond_le (eqb b 91) (class (b ∷ rest)) 1 n (λ _. class_in (b ∷ rest)) (λ _. omega arith)))

-- ---- a run is parts in a row

pub record RunParts (part : List ℕ → ℕ) (text : List ℕ) : Type 0 where
  pub parts : List (List ℕ)
  pub rest : List ℕ
  pub split : text ≡ joined parts ++ rest
  pub size : length (joined parts) ≡ run part text
  pub each : AreParts part parts rest

no_parts : (part : List ℕ → ℕ) (text : List ℕ) → run part text ≡ 0 → RunParts part text
no_parts part text none = record { parts = []; rest = text; split = refl; size = sym none; each = tt }

more_parts : (part : List ℕ → ℕ) (text : List ℕ) → 0 < part text → part text ≤ length text → RunParts part (drop (part text) text) → RunParts part text
more_parts part text some within later =
    let p = take (part text) text in
    let size : length p ≡ part text = length-take-le (part text) text within in
    let split : text ≡ p ++ (joined later.parts ++ later.rest) = sym (take-append-drop (part text) text) ∙ ap (λ x. p ++ x) later.split in
    let whole : part (p ++ (joined later.parts ++ later.rest)) ≡ length p = ap part (sym split) ∙ sym size in
    let step = run-step part text some within in
    record {
      parts = p ∷ later.parts;
      rest = later.rest;
      split = split ∙ sym (append_assoc p (joined later.parts) later.rest);
      size = omega (arith, length-append p (joined later.parts), size, step, later.size);
      each = ((omega (arith, size, some), whole), later.each);
    }

pub run_parts : (part : List ℕ → ℕ) → ((t : List ℕ) → part t ≤ length t) → (n : ℕ) (text : List ℕ) → length text ≤ n → RunParts part text
run_parts part within zero text small = no_parts part text (run-end part text (omega (arith, small)))
run_parts part within (suc n) text small = go (run_parts part within n) (part text) refl
  where
    go : ((t : List ℕ) → length t ≤ n → RunParts part t) → (m : ℕ) → part text ≡ m → RunParts part text
    go later zero none = no_parts part text (run-stops part text none)
    go later (suc m) is =
        let within_text = within text in
        more_parts part text (omega (arith, is)) within_text (later (drop (part text) text) (omega (arith, is, small, length-drop (part text) text)))

-- ---- tokens that stand at the front of a text

-- a token with the kind and the bytes of a piece
pub record Stands (g : Goal) (text : List ℕ) (p : Kind × ℕ) : Type 0 where
  pub bytes : List ℕ
  pub after : List ℕ
  pub split : text ≡ bytes ++ after
  pub size : length bytes ≡ p.1
  pub stands : IsToken g p.0 bytes after

-- each piece that is given stands at the front
unfoldable pub AllStand : Goal → List ℕ → Piece → Type 0
AllStand g text piece = (p : Kind × ℕ) → piece ≡ Some p → Stands g text p

pub none_stand : (g : Goal) (text : List ℕ) → AllStand g text None
unfolding AllStand
none_stand g text p e = cc

same_given : (p q : Kind × ℕ) → Some p ≡ Some q → p ≡ q
same_given p q e = cc

pub some_stand : (g : Goal) (text : List ℕ) (p : Kind × ℕ) → Stands g text p → AllStand g text (Some p)
unfolding AllStand
some_stand g text p h q e = subst (λ (x : Kind × ℕ). Stands g text x) (same_given p q e) h

pub cond_stand : (g : Goal) (text : List ℕ) (t : Bool) (x y : Piece) → (t ≡ true → AllStand g text x) → (t ≡ false → AllStand g text y) → AllStand g text (cond t x y)
cond_stand g text true x y hx hy = hx refl
cond_stand g text false x y hx hy = hy refl

-- a text by its first byte
pub record First (b : ℕ) (text : List ℕ) : Type 0 where
  pub rest : List ℕ
  pub is : text ≡ b ∷ rest

pub first_is : (b : ℕ) (text : List ℕ) → slice_index text 0 ≡ b → 0 < b → First b text
first_is b [] e some = absurd (omega (arith, e, some))
first_is b (x ∷ rest) e some = record { rest = rest; is = ap (λ y. y ∷ rest) e }

-- what stands behind the first bytes
pub at_rest : (xs r : List ℕ) (n i : ℕ) → length xs ≡ n → slice_index (xs ++ r) (n + i) ≡ slice_index r i
at_rest xs r n i e = sym (get_or-drop n (xs ++ r) i 0) ∙ ap (λ l. slice_index l i) (drop_at xs r n e)

pub at_rest_first : (xs r : List ℕ) (n : ℕ) → length xs ≡ n → slice_index (xs ++ r) n ≡ slice_index r 0
at_rest_first xs r n e = ap (slice_index (xs ++ r)) (sym (add-zero n)) ∙ at_rest xs r n 0 e

nat_positive : (n : ℕ) → (n ≡ 0 → ⊥) → 0 < n
nat_positive zero h = absurd (h refl)
nat_positive (suc n) h = omega arith

quote_some : (quote : ℕ) → (eqb quote 34 || eqb quote 39) ≡ true → 0 < quote
quote_some quote h = grind (arith, nat_tests)

-- ---- names

pub name_stands : (g : Goal) (text : List ℕ) → AllStand g text (name text)
unfolding name
name_stands g text =
    cond_stand g text (eqb (identifier_start text) 0) None _ (λ _. none_stand g text)
    (λ some. some_stand g text _ (go (start_in text) (eqb-false _ 0 some) (run_parts identifier_part part_in (length (drop (identifier_start text) text)) (drop (identifier_start text) text) (omega arith))))
  where
    go : identifier_start text ≤ length text → (identifier_start text ≡ 0 → ⊥) → RunParts identifier_part (drop (identifier_start text) text)
        → Stands g text (word_kind (reserved (take (identifier_start text + run identifier_part (drop (identifier_start text) text)) text)), identifier_start text + run identifier_part (drop (identifier_start text) text))
    go within some r =
        let n = identifier_start text in
        let start = take n text in
        let size : length start ≡ n = length-take-le n text within in
        let front : text ≡ start ++ (joined r.parts ++ r.rest) = sym (take-append-drop n text) ∙ ap (λ x. start ++ x) r.split in
        let split : text ≡ (start ++ joined r.parts) ++ r.rest = front ∙ sym (append_assoc start (joined r.parts) r.rest) in
        let all : length (start ++ joined r.parts) ≡ n + run identifier_part (drop n text) = omega (arith, length-append start (joined r.parts), size, r.size) in
        let word : take (n + run identifier_part (drop n text)) text ≡ start ++ joined r.parts = ap (take (n + run identifier_part (drop n text))) split ∙ take_at (start ++ joined r.parts) r.rest _ all in
        record {
          bytes = start ++ joined r.parts;
          after = r.rest;
          split = split;
          size = all;
          stands = subst (λ w. IsToken g (word_kind (reserved w)) (start ++ joined r.parts) r.rest) (sym word)
              (IsToken.name start r.parts r.rest (nat_positive (length start) (λ z. some (sym size ∙ z)), ap identifier_start (sym front) ∙ sym size) r.each);
        }

-- ---- strings

pub string_stands : (g : Goal) (quote : ℕ) (rest : List ℕ) → (eqb quote 34 || eqb quote 39) ≡ true → AllStand g (quote ∷ rest) (string (quote ∷ rest))
unfolding string
string_stands g quote rest is =
    cond_stand g (quote ∷ rest) (eqb (slice_index (quote ∷ rest) (1 + run (string_piece quote) rest)) quote) _ None
    (λ closed. some_stand g (quote ∷ rest) _ (go (run_parts (string_piece quote) (string_piece_in quote) (length rest) rest (omega arith)) (eqb-true _ _ closed)))
    (λ _. none_stand g (quote ∷ rest))
  where
    go : RunParts (string_piece quote) rest → slice_index (quote ∷ rest) (1 + run (string_piece quote) rest) ≡ quote → Stands g (quote ∷ rest) (k.Text, run (string_piece quote) rest + 2)
    go r closed =
        let behind : slice_index r.rest 0 ≡ quote = sym (at_rest_first (quote ∷ joined r.parts) r.rest (1 + run (string_piece quote) rest) (omega (arith, r.size))) ∙ ap (λ x. slice_index (quote ∷ x) (1 + run (string_piece quote) rest)) (sym r.split) ∙ closed in
        let f = first_is quote r.rest behind (quote_some quote is) in
        record {
          bytes = quote ∷ (joined r.parts ++ quote ∷ []);
          after = f.rest;
          split = ap (λ x. quote ∷ x) (r.split ∙ ap (λ x. joined r.parts ++ x) f.is ∙ sym (append_assoc (joined r.parts) (quote ∷ []) f.rest));
          size = omega (arith, r.size, length-append (joined r.parts) (quote ∷ []));
          stands = IsToken.string quote r.parts f.rest is (subst (AreParts (string_piece quote) r.parts) f.is r.each);
        }

-- ---- templates

-- a part of a template, from its first byte, with what ends it
pub record Ended (ending : List ℕ) (first : ℕ) (rest : List ℕ) (n : ℕ) : Type 0 where
  pub parts : List (List ℕ)
  pub after : List ℕ
  pub split : first ∷ rest ≡ (first ∷ (joined parts ++ ending)) ++ after
  pub size : length (first ∷ (joined parts ++ ending)) ≡ n
  pub each : AreParts template_piece parts (ending ++ after)

closed_at : (first : ℕ) (rest : List ℕ) → slice_index (first ∷ rest) (1 + run template_piece rest) ≡ 96 → Ended (96 ∷ []) first rest (run template_piece rest + 2)
closed_at first rest h = go (run_parts template_piece template_piece_in (length rest) rest (omega arith))
  where
    go : RunParts template_piece rest → Ended (96 ∷ []) first rest (run template_piece rest + 2)
    go r =
        let behind : slice_index r.rest 0 ≡ 96 = sym (at_rest_first (first ∷ joined r.parts) r.rest (1 + run template_piece rest) (omega (arith, r.size))) ∙ ap (λ x. slice_index (first ∷ x) (1 + run template_piece rest)) (sym r.split) ∙ h in
        let f = first_is 96 r.rest behind (omega arith) in
        record {
          parts = r.parts;
          after = f.rest;
          split = ap (λ x. first ∷ x) (r.split ∙ ap (λ x. joined r.parts ++ x) f.is ∙ sym (append_assoc (joined r.parts) (96 ∷ []) f.rest));
          size = omega (arith, r.size, length-append (joined r.parts) (96 ∷ []));
          each = subst (AreParts template_piece r.parts) f.is r.each;
        }

opened_at : (first : ℕ) (rest : List ℕ) → slice_index (first ∷ rest) (1 + run template_piece rest) ≡ 36 → slice_index (first ∷ rest) (2 + run template_piece rest) ≡ 123 → Ended (36 ∷ 123 ∷ []) first rest (run template_piece rest + 3)
opened_at first rest h h2 = go (run_parts template_piece template_piece_in (length rest) rest (omega arith))
  where
    go : RunParts template_piece rest → Ended (36 ∷ 123 ∷ []) first rest (run template_piece rest + 3)
    go r =
        let front : length (first ∷ joined r.parts) ≡ 1 + run template_piece rest = omega (arith, r.size) in
        let behind : slice_index r.rest 0 ≡ 36 = sym (at_rest_first (first ∷ joined r.parts) r.rest (1 + run template_piece rest) front) ∙ ap (λ x. slice_index (first ∷ x) (1 + run template_piece rest)) (sym r.split) ∙ h in
        let f = first_is 36 r.rest behind (omega arith) in
        let second : slice_index r.rest 1 ≡ 123 = sym (at_rest (first ∷ joined r.parts) r.rest (1 + run template_piece rest) 1 front) ∙ ap (slice_index (first ∷ (joined r.parts ++ r.rest))) (omega arith) ∙ ap (λ x. slice_index (first ∷ x) (2 + run template_piece rest)) (sym r.split) ∙ h2 in
        let further = first_is 123 f.rest (ap (λ x. slice_index x 1) (sym f.is) ∙ second) (omega arith) in
        let ends : r.rest ≡ 36 ∷ 123 ∷ further.rest = f.is ∙ ap (λ x. 36 ∷ x) further.is in
        record {
          parts = r.parts;
          after = further.rest;
          split = ap (λ x. first ∷ x) (r.split ∙ ap (λ x. joined r.parts ++ x) ends ∙ sym (append_assoc (joined r.parts) (36 ∷ 123 ∷ []) further.rest));
          size = omega (arith, r.size, length-append (joined r.parts) (36 ∷ 123 ∷ []));
          each = subst (AreParts template_piece r.parts) ends r.each;
        }

template_stands : (g : Goal) (closed opened : Kind) (first : ℕ) (rest : List ℕ)
    → ((parts : List (List ℕ)) (after : List ℕ) → AreParts template_piece parts (96 ∷ after) → IsToken g closed (first ∷ (joined parts ++ 96 ∷ [])) after)
    → ((parts : List (List ℕ)) (after : List ℕ) → AreParts template_piece parts (36 ∷ 123 ∷ after) → IsToken g opened (first ∷ (joined parts ++ 36 ∷ 123 ∷ [])) after)
    → AllStand g (first ∷ rest) (template closed opened (first ∷ rest))
unfolding template
template_stands g closed opened first rest whole part =
    let body = run template_piece rest in
    cond_stand g (first ∷ rest) (eqb (slice_index (first ∷ rest) (1 + body)) 96) _ _
    (λ is. let e = closed_at first rest (eqb-true _ _ is) in some_stand g (first ∷ rest) _ (record { bytes = first ∷ (joined e.parts ++ 96 ∷ []); after = e.after; split = e.split; size = e.size; stands = whole e.parts e.after e.each }))
    (λ _. cond_stand g (first ∷ rest) (eqb (slice_index (first ∷ rest) (1 + body)) 36 && eqb (slice_index (first ∷ rest) (2 + body)) 123) _ None
    (λ is. let e = opened_at first rest (eqb-true _ _ (and_parts _ _ is).0) (eqb-true _ _ (and_parts _ _ is).1) in some_stand g (first ∷ rest) _ (record { bytes = first ∷ (joined e.parts ++ 36 ∷ 123 ∷ []); after = e.after; split = e.split; size = e.size; stands = part e.parts e.after e.each }))
    (λ _. none_stand g (first ∷ rest)))

pub begin_stands : (g : Goal) (rest : List ℕ) → AllStand g (96 ∷ rest) (template k.TemplateWhole k.TemplateHead (96 ∷ rest))
begin_stands g rest = template_stands g k.TemplateWhole k.TemplateHead 96 rest (λ parts after h. IsToken.template_whole parts after h) (λ parts after h. IsToken.template_head parts after h)

pub tail_stands : (rest : List ℕ) → AllStand goal.TemplateTail (125 ∷ rest) (template k.TemplateTail k.TemplateMiddle (125 ∷ rest))
tail_stands rest = template_stands goal.TemplateTail k.TemplateTail k.TemplateMiddle 125 rest (λ parts after h. IsToken.template_tail parts after refl h) (λ parts after h. IsToken.template_middle parts after refl h)

-- ---- regular expressions

pub regexp_stands : (rest : List ℕ) → AllStand goal.RegExp (47 ∷ rest) (regular_expression (47 ∷ rest))
unfolding regular_expression
regexp_stands rest =
    let body = run body_piece rest in
    cond_stand goal.RegExp (47 ∷ rest) (eqb body 0 || eqb (slice_index rest 0) 42) None _ (λ _. none_stand goal.RegExp (47 ∷ rest))
    (λ no. cond_stand goal.RegExp (47 ∷ rest) (eqb (slice_index (47 ∷ rest) (1 + body)) 47) _ None
    (λ is. some_stand goal.RegExp (47 ∷ rest) _ (go (eqb-false body 0 (or_parts _ _ no).0) (eqb-false (slice_index rest 0) 42 (or_parts _ _ no).1) (eqb-true _ _ is) (run_parts body_piece body_piece_in (length rest) rest (omega arith))))
    (λ _. none_stand goal.RegExp (47 ∷ rest)))
  where
    more : (run body_piece rest ≡ 0 → ⊥) → (slice_index rest 0 ≡ 42 → ⊥) → (r : RunParts body_piece rest) → (f : First 47 r.rest) → RunParts identifier_character (drop (run body_piece rest + 2) (47 ∷ rest)) → Stands goal.RegExp (47 ∷ rest) (k.RegExp, run body_piece rest + 2 + run identifier_character (drop (run body_piece rest + 2) (47 ∷ rest)))
    more some star r f flags =
        let whole : 47 ∷ rest ≡ (47 ∷ (joined r.parts ++ 47 ∷ [])) ++ f.rest = ap (λ x. 47 ∷ x) (r.split ∙ ap (λ x. joined r.parts ++ x) f.is ∙ sym (append_assoc (joined r.parts) (47 ∷ []) f.rest)) in
        let moved : drop (run body_piece rest + 2) (47 ∷ rest) ≡ f.rest = ap (drop (run body_piece rest + 2)) whole ∙ drop_at (47 ∷ (joined r.parts ++ 47 ∷ [])) f.rest _ (omega (arith, r.size, length-append (joined r.parts) (47 ∷ []))) in
        let ends : f.rest ≡ joined flags.parts ++ flags.rest = sym moved ∙ flags.split in
        let split : 47 ∷ rest ≡ (47 ∷ (joined r.parts ++ 47 ∷ joined flags.parts)) ++ flags.rest =
        ap (λ x. 47 ∷ x) (r.split ∙ ap (λ x. joined r.parts ++ x) (f.is ∙ ap (λ x. 47 ∷ x) ends) ∙ sym (append_assoc (joined r.parts) (47 ∷ joined flags.parts) flags.rest)) in
        let long : 0 < length (joined r.parts) = nat_positive _ (λ z. some (sym r.size ∙ z)) in
        let front : slice_index rest 0 ≡ slice_index (joined r.parts) 0 = ap (λ x. slice_index x 0) r.split ∙ get_or_append_left (joined r.parts) r.rest 0 0 long in
        record {
          bytes = 47 ∷ (joined r.parts ++ 47 ∷ joined flags.parts);
          after = flags.rest;
          split = split;
          size = omega (arith, r.size, flags.size, length-append (joined r.parts) (47 ∷ joined flags.parts));
          stands = IsToken.regular_expression r.parts flags.parts flags.rest refl long (λ e. star (front ∙ e)) (subst (AreParts body_piece r.parts) (f.is ∙ ap (λ x. 47 ∷ x) ends) r.each) flags.each;
        }

    go : (run body_piece rest ≡ 0 → ⊥) → (slice_index rest 0 ≡ 42 → ⊥) → slice_index (47 ∷ rest) (1 + run body_piece rest) ≡ 47 → RunParts body_piece rest → Stands goal.RegExp (47 ∷ rest) (k.RegExp, run body_piece rest + 2 + run identifier_character (drop (run body_piece rest + 2) (47 ∷ rest)))
    go some star closed r =
        let behind : slice_index r.rest 0 ≡ 47 = sym (at_rest_first (47 ∷ joined r.parts) r.rest (1 + run body_piece rest) (omega (arith, r.size))) ∙ ap (λ x. slice_index (47 ∷ x) (1 + run body_piece rest)) (sym r.split) ∙ closed in
        more some star r (first_is 47 r.rest behind (omega arith)) (run_parts identifier_character flag_in (length (drop (run body_piece rest + 2) (47 ∷ rest))) (drop (run body_piece rest + 2) (47 ∷ rest)) (omega arith))
