-- Names, strings, templates and regular expressions: what the lexer takes has at least the bytes of each token at the front.
use Rattle.std.proofs.Common.{◌≡◌, ◌≢◌, inl, inr, ℕ, ◌+◌, ◌<◌, ◌≤◌, Bool, true, false, cond, ◌&&◌, ◌||◌, eqb, nat_lt, nat_le, List, [], ◌∷◌, ◌++◌, length, drop, slice_index, Some, None, refl, sym, ap, ◌∙◌, subst, arith, append_assoc, length-append}
use Rattle.std.proofs.lemmas.List.{drop_at, get_or_at, get_or_append_left}
use Rattle.std.proofs.lemmas.Bool.{ne_eqb, eqb-true, eq-eqb, or_cases, or_parts, both_ways, or_from, cond-false, cond-true, leb-false, lt-ltb, true_from_ne_false, and_from}
use Rattle.std.proofs.lemmas.Bool.Decides.{nat_tests}
use Rattle.esb_token.specs.declared.kind.Kind.{Kind}
use Rattle.esb_token.specs.declared.kind.Kind.TheVariants as k
use Rattle.esb_token.specs.declared.goal.Goal.{Goal}
use Rattle.esb_token.specs.declared.goal.Goal.TheVariants as goal
use Rattle.esb_token.specs.Runs.{run}
use Rattle.esb_token.specs.Characters.{code_point, is_digit, is_letter, is_identifier_start}
use Rattle.esb_token.specs.Names.{Piece, name, identifier_start, identifier_part, identifier_character}
use Rattle.esb_token.specs.Numbers.{numeric}
use Rattle.esb_token.specs.Strings.{string, string_piece}
use Rattle.esb_token.specs.Templates.{template, template_piece}
use Rattle.esb_token.specs.RegExps.{regular_expression, body_piece}
use Rattle.esb_token.specs.Punctuators.{punctuator, operator}
use Rattle.esb_token.specs.Tokens.{token, slash, right_brace}
use Rattle.esb_token.specs.Grammar.{IsPart, joined, AreParts}
use Rattle.esb_token.proofs.Parts.{run_joined, run_closed}

-- whether a text begins with a digit, or with a `.` and a digit
abbrev pub starts_number : List ℕ → Bool
starts_number text = is_digit (slice_index text 0) || (eqb (slice_index text 0) 46 && is_digit (slice_index text 1))

-- the token at the front, but for what may not follow a number
abbrev pub reads : Goal → List ℕ → Piece
reads g text = cond (starts_number text) (Some (numeric text)) (token g text)

-- a piece is there, with this many bytes or more
pub record Covers (piece : Piece) (n : ℕ) : Type 0 where
  pub taken : Kind × ℕ
  pub is : piece ≡ Some taken
  pub long : n ≤ taken.1

pub covers_by : (piece : Piece) (p : Kind × ℕ) (n : ℕ) → piece ≡ Some p → n ≤ p.1 → Covers piece n
covers_by piece p n e l = record { taken = p; is = e; long = l }

pub covers_same : (x y : Piece) (n : ℕ) → x ≡ y → Covers y n → Covers x n
covers_same x y n e c = record { taken = c.taken; is = e ∙ c.is; long = c.long }

-- ---- names

name_at : (start : List ℕ) (parts : List (List ℕ)) (after : List ℕ) → IsPart identifier_start start (joined parts ++ after) → AreParts identifier_part parts after
    → Covers (name (start ++ (joined parts ++ after))) (length (start ++ joined parts))
unfolding name
name_at start parts after h more =
    let rest = joined parts ++ after in
    let first : identifier_start (start ++ rest) ≡ length start = h.1 in
    let some : 0 < length start = h.0 in
    let none : eqb (identifier_start (start ++ rest)) 0 ≡ false = ne_eqb _ _ (λ e. absurd (omega (arith, e, first, some))) in
    let moved = ap (run identifier_part) (drop_at start rest (identifier_start (start ++ rest)) (sym first)) in
    let long = run_joined identifier_part parts after more in
    covers_by _ _ _ (cond-false _ None _ none) (omega (arith, first, moved, long, length-append start (joined parts)))

-- the bytes with which a name begins
abbrev begins_name : ℕ → Bool
begins_name b = eqb b 92 || (nat_le 128 b || ((is_letter b || eqb b 36) || eqb b 95))

no_name : (b : ℕ) (rest : List ℕ) → begins_name b ≡ false → identifier_start (b ∷ rest) ≡ 0
unfolding identifier_start code_point
no_name b rest h =
    let slash = (or_parts _ _ h).0 in
    let wide = (or_parts _ _ (or_parts _ _ h).1).0 in
    let others = (or_parts _ _ (or_parts _ _ h).1).1 in
    let small : nat_lt b 128 ≡ true = lt-ltb b 128 (leb-false 128 b wide) in
    let point : code_point (b ∷ rest) ≡ b = cond-true (nat_lt b 128) b _ small in
    let not_start : is_identifier_start b ≡ false = cond-true (nat_lt b 128) _ _ small ∙ others in
    cond-false (eqb b 92) _ _ slash ∙ cond-false (is_identifier_start (code_point (b ∷ rest))) _ 0 (ap is_identifier_start point ∙ not_start)

first_of_name : (b : ℕ) (rest : List ℕ) → 0 < identifier_start (b ∷ rest) → begins_name b ≡ true
first_of_name b rest some = true_from_ne_false (begins_name b) (λ h. let none = no_name b rest h in omega (arith, none, some))

differs : (b c : ℕ) → begins_name b ≡ true → begins_name c ≡ false → eqb b c ≡ false
differs b c h none = ne_eqb b c (λ e. both_ways (begins_name c) none (subst (λ x. begins_name x ≡ true) e h))

no_digit : (b : ℕ) → begins_name b ≡ true → is_digit b ≡ false
no_digit b h = grind (arith, nat_tests)

no_punctuator : (b : ℕ) (rest : List ℕ) → begins_name b ≡ true → punctuator (b ∷ rest) ≡ None
unfolding punctuator operator
no_punctuator b rest h =
    rw (differs b 40 h refl, differs b 41 h refl, differs b 44 h refl, differs b 46 h refl, differs b 58 h refl, differs b 59 h refl, differs b 91 h refl, differs b 93 h refl, differs b 123 h refl, differs b 126 h refl)
    (rw (differs b 43 h refl, differs b 45 h refl, differs b 38 h refl, differs b 124 h refl, differs b 42 h refl, differs b 60 h refl, differs b 62 h refl, differs b 61 h refl, differs b 33 h refl, differs b 63 h refl, differs b 37 h refl, differs b 94 h refl) refl)

token_name : (g : Goal) (b : ℕ) (rest : List ℕ) → begins_name b ≡ true → reads g (b ∷ rest) ≡ name (b ∷ rest)
unfolding token
token_name g b rest h =
    let none = no_punctuator b rest h in
    rw (differs b 47 h refl, differs b 125 h refl, differs b 96 h refl, differs b 34 h refl, differs b 39 h refl, no_digit b h, differs b 46 h refl, none) refl

name_here : (g : Goal) (start : List ℕ) (parts : List (List ℕ)) (after : List ℕ) → IsPart identifier_start start (joined parts ++ after) → AreParts identifier_part parts after
    → Covers (reads g (start ++ (joined parts ++ after))) (length (start ++ joined parts))
name_here g [] parts after h more = absurd (omega (arith, h.0))
name_here g (b ∷ s) parts after h more =
    let begins = first_of_name b (s ++ (joined parts ++ after)) (omega (arith, h.0, h.1)) in
    covers_same _ _ _ (token_name g b (s ++ (joined parts ++ after)) begins) (name_at (b ∷ s) parts after h more)

pub name_covers : (g : Goal) (start : List ℕ) (parts : List (List ℕ)) (after : List ℕ) → IsPart identifier_start start (joined parts ++ after) → AreParts identifier_part parts after
    → Covers (reads g ((start ++ joined parts) ++ after)) (length (start ++ joined parts))
name_covers g start parts after h more = covers_same _ _ _ (ap (reads g) (append_assoc start (joined parts) after)) (name_here g start parts after h more)

-- ---- strings

string_stops : (quote : ℕ) (after : List ℕ) → string_piece quote (quote ∷ after) ≡ 0
unfolding string_piece
string_stops quote after = rw (eq-eqb quote quote refl) refl

string_at : (quote : ℕ) (ps : List (List ℕ)) (after : List ℕ) → AreParts (string_piece quote) ps (quote ∷ after)
    → Covers (string (quote ∷ (joined ps ++ quote ∷ after))) (length (quote ∷ (joined ps ++ quote ∷ [])))
unfolding string
string_at quote ps after h =
    let body = run_closed (string_piece quote) ps (quote ∷ after) h (string_stops quote after) in
    let last : slice_index (quote ∷ (joined ps ++ quote ∷ after)) (1 + run (string_piece quote) (joined ps ++ quote ∷ after)) ≡ quote = get_or_at (quote ∷ joined ps) quote after 0 _ (omega (arith, body)) in
    covers_by _ _ _ (cond-true _ _ None (eq-eqb _ _ last)) (omega (arith, body, length-append (joined ps) (quote ∷ [])))

token_quote : (g : Goal) (quote : ℕ) (rest : List ℕ) → (eqb quote 34 || eqb quote 39) ≡ true → reads g (quote ∷ rest) ≡ string (quote ∷ rest)
unfolding token
token_quote g quote rest h = elim (or_cases (eqb quote 34) (eqb quote 39) h) [
  | inl e ↦ subst (λ x. reads g (x ∷ rest) ≡ string (x ∷ rest)) (sym (eqb-true quote 34 e)) refl
  | inr e ↦ subst (λ x. reads g (x ∷ rest) ≡ string (x ∷ rest)) (sym (eqb-true quote 39 e)) refl
]

-- a closing part within the token, and behind its pieces
closing : (first : ℕ) (ps : List (List ℕ)) (ending after : List ℕ) → (first ∷ (joined ps ++ ending)) ++ after ≡ first ∷ (joined ps ++ (ending ++ after))
closing first ps ending after = ap (λ x. first ∷ x) (append_assoc (joined ps) ending after)

pub string_covers : (g : Goal) (quote : ℕ) (ps : List (List ℕ)) (after : List ℕ) → (eqb quote 34 || eqb quote 39) ≡ true → AreParts (string_piece quote) ps (quote ∷ after)
    → Covers (reads g ((quote ∷ (joined ps ++ quote ∷ [])) ++ after)) (length (quote ∷ (joined ps ++ quote ∷ [])))
string_covers g quote ps after h parts =
    covers_same _ _ _ (ap (reads g) (closing quote ps (quote ∷ []) after) ∙ token_quote g quote _ h) (string_at quote ps after parts)

-- ---- templates

closed_stops : (after : List ℕ) → template_piece (96 ∷ after) ≡ 0
unfolding template_piece
closed_stops after = refl

opened_stops : (after : List ℕ) → template_piece (36 ∷ 123 ∷ after) ≡ 0
unfolding template_piece
opened_stops after = refl

template_closed : (closed opened : Kind) (first : ℕ) (ps : List (List ℕ)) (after : List ℕ) → AreParts template_piece ps (96 ∷ after)
    → Covers (template closed opened (first ∷ (joined ps ++ 96 ∷ after))) (length (first ∷ (joined ps ++ 96 ∷ [])))
unfolding template
template_closed closed opened first ps after h =
    let body = run_closed template_piece ps (96 ∷ after) h (closed_stops after) in
    let last : slice_index (first ∷ (joined ps ++ 96 ∷ after)) (1 + run template_piece (joined ps ++ 96 ∷ after)) ≡ 96 = get_or_at (first ∷ joined ps) 96 after 0 _ (omega (arith, body)) in
    covers_by _ _ _ (cond-true _ _ _ (eq-eqb _ _ last)) (omega (arith, body, length-append (joined ps) (96 ∷ [])))

template_opened : (closed opened : Kind) (first : ℕ) (ps : List (List ℕ)) (after : List ℕ) → AreParts template_piece ps (36 ∷ 123 ∷ after)
    → Covers (template closed opened (first ∷ (joined ps ++ 36 ∷ 123 ∷ after))) (length (first ∷ (joined ps ++ 36 ∷ 123 ∷ [])))
unfolding template
template_opened closed opened first ps after h =
    let body = run_closed template_piece ps (36 ∷ 123 ∷ after) h (opened_stops after) in
    let dollar : slice_index (first ∷ (joined ps ++ 36 ∷ 123 ∷ after)) (1 + run template_piece (joined ps ++ 36 ∷ 123 ∷ after)) ≡ 36 = get_or_at (first ∷ joined ps) 36 (123 ∷ after) 0 _ (omega (arith, body)) in
    let moved : first ∷ (joined ps ++ 36 ∷ 123 ∷ after) ≡ (first ∷ (joined ps ++ 36 ∷ [])) ++ 123 ∷ after = sym (closing first ps (36 ∷ []) (123 ∷ after)) in
    let brace : slice_index (first ∷ (joined ps ++ 36 ∷ 123 ∷ after)) (2 + run template_piece (joined ps ++ 36 ∷ 123 ∷ after)) ≡ 123 = ap (λ x. slice_index x (2 + run template_piece (joined ps ++ 36 ∷ 123 ∷ after))) moved ∙ get_or_at (first ∷ (joined ps ++ 36 ∷ [])) 123 after 0 _ (omega (arith, body, length-append (joined ps) (36 ∷ []))) in
    covers_by _ _ _ (cond-false _ _ _ (ap (λ x. eqb x 96) dollar) ∙ cond-true _ _ None (and_from _ _ (ap (λ x. eqb x 36) dollar) (ap (λ x. eqb x 123) brace))) (omega (arith, body, length-append (joined ps) (36 ∷ 123 ∷ [])))

token_begin : (g : Goal) (rest : List ℕ) → reads g (96 ∷ rest) ≡ template k.TemplateWhole k.TemplateHead (96 ∷ rest)
unfolding token
token_begin g rest = refl

token_tail : (g : Goal) (rest : List ℕ) → g ≡ goal.TemplateTail → reads g (125 ∷ rest) ≡ template k.TemplateTail k.TemplateMiddle (125 ∷ rest)
unfolding token right_brace
token_tail g rest h = subst (λ x. reads x (125 ∷ rest) ≡ template k.TemplateTail k.TemplateMiddle (125 ∷ rest)) (sym h) refl

pub whole_covers : (g : Goal) (ps : List (List ℕ)) (after : List ℕ) → AreParts template_piece ps (96 ∷ after) → Covers (reads g ((96 ∷ (joined ps ++ 96 ∷ [])) ++ after)) (length (96 ∷ (joined ps ++ 96 ∷ [])))
whole_covers g ps after h = covers_same _ _ _ (ap (reads g) (closing 96 ps (96 ∷ []) after) ∙ token_begin g _) (template_closed k.TemplateWhole k.TemplateHead 96 ps after h)

pub head_covers : (g : Goal) (ps : List (List ℕ)) (after : List ℕ) → AreParts template_piece ps (36 ∷ 123 ∷ after) → Covers (reads g ((96 ∷ (joined ps ++ 36 ∷ 123 ∷ [])) ++ after)) (length (96 ∷ (joined ps ++ 36 ∷ 123 ∷ [])))
head_covers g ps after h = covers_same _ _ _ (ap (reads g) (closing 96 ps (36 ∷ 123 ∷ []) after) ∙ token_begin g _) (template_opened k.TemplateWhole k.TemplateHead 96 ps after h)

pub middle_covers : (g : Goal) (ps : List (List ℕ)) (after : List ℕ) → g ≡ goal.TemplateTail → AreParts template_piece ps (36 ∷ 123 ∷ after) → Covers (reads g ((125 ∷ (joined ps ++ 36 ∷ 123 ∷ [])) ++ after)) (length (125 ∷ (joined ps ++ 36 ∷ 123 ∷ [])))
middle_covers g ps after e h = covers_same _ _ _ (ap (reads g) (closing 125 ps (36 ∷ 123 ∷ []) after) ∙ token_tail g _ e) (template_opened k.TemplateTail k.TemplateMiddle 125 ps after h)

pub tail_covers : (g : Goal) (ps : List (List ℕ)) (after : List ℕ) → g ≡ goal.TemplateTail → AreParts template_piece ps (96 ∷ after) → Covers (reads g ((125 ∷ (joined ps ++ 96 ∷ [])) ++ after)) (length (125 ∷ (joined ps ++ 96 ∷ [])))
tail_covers g ps after e h = covers_same _ _ _ (ap (reads g) (closing 125 ps (96 ∷ []) after) ∙ token_tail g _ e) (template_closed k.TemplateTail k.TemplateMiddle 125 ps after h)

-- ---- regular expressions

body_stops : (after : List ℕ) → body_piece (47 ∷ after) ≡ 0
unfolding body_piece
body_stops after = refl

regexp_at : (body flags : List (List ℕ)) (after : List ℕ) → 0 < length (joined body) → slice_index (joined body) 0 ≢ 42 → AreParts body_piece body (47 ∷ (joined flags ++ after)) → AreParts identifier_character flags after
    → Covers (regular_expression (47 ∷ (joined body ++ 47 ∷ (joined flags ++ after)))) (length (47 ∷ (joined body ++ 47 ∷ joined flags)))
unfolding regular_expression
regexp_at body flags after some no_star h more =
    let rest = joined flags ++ after in
    let text = 47 ∷ (joined body ++ 47 ∷ rest) in
    let size : run body_piece (joined body ++ 47 ∷ rest) ≡ length (joined body) = run_closed body_piece body (47 ∷ rest) h (body_stops rest) in
    let none : eqb (run body_piece (joined body ++ 47 ∷ rest)) 0 ≡ false = ne_eqb _ _ (λ e. absurd (omega (arith, e, size, some))) in
    let first : slice_index (joined body ++ 47 ∷ rest) 0 ≡ slice_index (joined body) 0 = get_or_append_left (joined body) (47 ∷ rest) 0 0 some in
    let star : eqb (slice_index (joined body ++ 47 ∷ rest) 0) 42 ≡ false = ne_eqb _ _ (λ e. no_star (sym first ∙ e)) in
    let last : slice_index text (1 + run body_piece (joined body ++ 47 ∷ rest)) ≡ 47 = get_or_at (47 ∷ joined body) 47 rest 0 _ (omega (arith, size)) in
    let moved : drop (run body_piece (joined body ++ 47 ∷ rest) + 2) text ≡ rest = ap (drop (run body_piece (joined body ++ 47 ∷ rest) + 2)) (sym (closing 47 body (47 ∷ []) rest)) ∙ drop_at (47 ∷ (joined body ++ 47 ∷ [])) rest _ (omega (arith, size, length-append (joined body) (47 ∷ []))) in
    let marks = run_joined identifier_character flags after more in
    covers_by _ _ _ (cond-false _ None _ (or_from _ _ none star) ∙ cond-true _ _ None (eq-eqb _ _ last)) (omega (arith, size, ap (run identifier_character) moved, marks, length-append (joined body) (47 ∷ joined flags)))

token_regexp : (g : Goal) (rest : List ℕ) → g ≡ goal.RegExp → reads g (47 ∷ rest) ≡ regular_expression (47 ∷ rest)
unfolding token slash
token_regexp g rest h = subst (λ x. reads x (47 ∷ rest) ≡ regular_expression (47 ∷ rest)) (sym h) refl

pub regexp_covers : (g : Goal) (body flags : List (List ℕ)) (after : List ℕ) → g ≡ goal.RegExp → 0 < length (joined body) → slice_index (joined body) 0 ≢ 42 → AreParts body_piece body (47 ∷ (joined flags ++ after)) → AreParts identifier_character flags after
    → Covers (reads g ((47 ∷ (joined body ++ 47 ∷ joined flags)) ++ after)) (length (47 ∷ (joined body ++ 47 ∷ joined flags)))
regexp_covers g body flags after e some no_star h more =
    covers_same _ _ _ (ap (reads g) (closing 47 body (47 ∷ joined flags) after) ∙ token_regexp g _ e) (regexp_at body flags after some no_star h more)
