-- Strings, templates and regular expressions, with other bytes behind them.
use Rattle.std.proofs.Common.{◌≡◌, ◌≢◌, inl, inr, ℕ, ◌+◌, ◌<◌, true, false, ◌||◌, eqb, List, [], ◌∷◌, ◌++◌, length, drop, slice_index, Some, None, refl, sym, ap, ◌∙◌, subst, arith, append_assoc, length-append}
use Rattle.std.proofs.lemmas.List.{drop_at, get_or_at, get_or_append_left}
use Rattle.std.proofs.lemmas.Bool.{ne_eqb, eqb-true, eq-eqb, or_cases, or_left, or_from, and_from, cond-false, cond-true}
use Rattle.esb_token.specs.declared.kind.Kind.{Kind}
use Rattle.esb_token.specs.declared.kind.Kind.TheVariants as k
use Rattle.esb_token.specs.declared.goal.Goal.{Goal}
use Rattle.esb_token.specs.declared.goal.Goal.TheVariants as goal
use Rattle.esb_token.specs.Runs.{run}
use Rattle.esb_token.specs.Characters.{code_point, at_line_end, is_identifier_part}
use Rattle.esb_token.specs.Gaps.{separator, comment}
use Rattle.esb_token.specs.Names.{identifier_character}
use Rattle.esb_token.specs.Strings.{string, string_piece}
use Rattle.esb_token.specs.Templates.{template, template_piece}
use Rattle.esb_token.specs.RegExps.{regular_expression, body_piece}
use Rattle.esb_token.specs.Tokens.{token, slash, right_brace}
use Rattle.esb_token.specs.Grammar.{joined, AreParts}
use Rattle.esb_token.proofs.Parts.{run_closed}
use Rattle.esb_print.proofs.Wide.{Whole, whole_behind}
use Rattle.esb_print.proofs.Pieces.{character-same}
use Rattle.esb_print.proofs.Bodies.{first_same, string-same, template-same, body-same}
use Rattle.esb_print.proofs.Behind.{is_joint, joint-no_flag, plain-solid, Kept, parts_keep}

-- what closes a token, within it and behind its pieces
closing : (first : ℕ) (ps : List (List ℕ)) (ending z : List ℕ) → (first ∷ (joined ps ++ ending)) ++ z ≡ first ∷ (joined ps ++ (ending ++ z))
closing first ps ending z = ap (λ x. first ∷ x) (append_assoc (joined ps) ending z)

-- what is asked of nothing
abbrev Any : List ℕ → Type 0
Any x = Unit {0}

-- parts before a byte that stays
closed_keep : (part : List ℕ → ℕ) (d : ℕ) (y z : List ℕ) → ((p r : List ℕ) → 0 < length p → part (p ++ (r ++ d ∷ y)) ≡ length p → part (p ++ (r ++ d ∷ z)) ≡ length p) → (ps : List (List ℕ)) → AreParts part ps (d ∷ y) → AreParts part ps (d ∷ z)
closed_keep part d y z same ps h = parts_keep part (d ∷ y) (d ∷ z) Any (λ xs ys _. tt) (λ p r _. same p r) ps tt h

some_behind : (r : List ℕ) (d : ℕ) (y : List ℕ) → 0 < length (r ++ d ∷ y)
some_behind r d y = let n = length-append r (d ∷ y) in omega (arith, n)

-- ---- strings

string_stops : (quote : ℕ) (z : List ℕ) → string_piece quote (quote ∷ z) ≡ 0
unfolding string_piece
string_stops quote z = rw (eq-eqb quote quote refl) refl

string-is : (quote : ℕ) (ps : List (List ℕ)) (z : List ℕ) → AreParts (string_piece quote) ps (quote ∷ z) → string (quote ∷ (joined ps ++ quote ∷ z)) ≡ Some (k.Text, length (quote ∷ (joined ps ++ quote ∷ [])))
unfolding string
string-is quote ps z h =
    let body = run_closed (string_piece quote) ps (quote ∷ z) h (string_stops quote z) in
    let last : slice_index (quote ∷ (joined ps ++ quote ∷ z)) (1 + run (string_piece quote) (joined ps ++ quote ∷ z)) ≡ quote = get_or_at (quote ∷ joined ps) quote z 0 _ (omega (arith, body)) in
    let size : run (string_piece quote) (joined ps ++ quote ∷ z) + 2 ≡ length (quote ∷ (joined ps ++ quote ∷ [])) = omega (arith, body, length-append (joined ps) (quote ∷ [])) in
    cond-true _ _ None (eq-eqb _ _ last) ∙ ap (λ n. Some (k.Text, n)) size

token_quote : (g : Goal) (quote : ℕ) (rest : List ℕ) → (eqb quote 34 || eqb quote 39) ≡ true → token g (quote ∷ rest) ≡ string (quote ∷ rest)
unfolding token
token_quote g quote rest h = elim (or_cases (eqb quote 34) (eqb quote 39) h) [
  | inl e ↦ subst (λ x. token g (x ∷ rest) ≡ string (x ∷ rest)) (sym (eqb-true quote 34 e)) refl
  | inr e ↦ subst (λ x. token g (x ∷ rest) ≡ string (x ∷ rest)) (sym (eqb-true quote 39 e)) refl
]

quote_solid : (quote : ℕ) (rest : List ℕ) → (eqb quote 34 || eqb quote 39) ≡ true → separator (quote ∷ rest) ≡ 0
quote_solid quote rest h = elim (or_cases (eqb quote 34) (eqb quote 39) h) [
  | inl e ↦ subst (λ x. separator (x ∷ rest) ≡ 0) (sym (eqb-true quote 34 e)) (plain-solid 34 rest (omega arith) (omega arith) refl)
  | inr e ↦ subst (λ x. separator (x ∷ rest) ≡ 0) (sym (eqb-true quote 39 e)) (plain-solid 39 rest (omega arith) (omega arith) refl)
]

pub string-keep : (g : Goal) (quote : ℕ) (ps : List (List ℕ)) (y z : List ℕ) → (eqb quote 34 || eqb quote 39) ≡ true → AreParts (string_piece quote) ps (quote ∷ y) → Kept g k.Text (quote ∷ (joined ps ++ quote ∷ [])) z
string-keep g quote ps y z is h =
    let later = closed_keep (string_piece quote) quote y z (λ p r some. string-same quote p (r ++ quote ∷ y) (r ++ quote ∷ z) (first_same r (quote ∷ y) (quote ∷ z) refl) (some_behind r quote y) (some_behind r quote z) some) ps h in
    record {
      read = ap (token g) (closing quote ps (quote ∷ []) z) ∙ token_quote g quote (joined ps ++ quote ∷ z) is ∙ string-is quote ps z later;
      solid = quote_solid quote ((joined ps ++ quote ∷ []) ++ z) is;
    }

-- ---- templates

template_keep : (d : ℕ) (ps : List (List ℕ)) (y z : List ℕ) → AreParts template_piece ps (d ∷ y) → AreParts template_piece ps (d ∷ z)
template_keep d ps y z h =
    closed_keep template_piece d y z (λ p r some e. sym (template-same p (r ++ d ∷ y) (r ++ d ∷ z) (first_same r (d ∷ y) (d ∷ z) refl) (some_behind r d y) (some_behind r d z) some) ∙ e) ps h

closed_stops : (z : List ℕ) → template_piece (96 ∷ z) ≡ 0
unfolding template_piece
closed_stops z = refl

opened_stops : (z : List ℕ) → template_piece (36 ∷ 123 ∷ z) ≡ 0
unfolding template_piece
opened_stops z = refl

closed-is : (closed opened : Kind) (first : ℕ) (ps : List (List ℕ)) (z : List ℕ) → AreParts template_piece ps (96 ∷ z) → template closed opened (first ∷ (joined ps ++ 96 ∷ z)) ≡ Some (closed, length (first ∷ (joined ps ++ 96 ∷ [])))
unfolding template
closed-is closed opened first ps z h =
    let body = run_closed template_piece ps (96 ∷ z) h (closed_stops z) in
    let last : slice_index (first ∷ (joined ps ++ 96 ∷ z)) (1 + run template_piece (joined ps ++ 96 ∷ z)) ≡ 96 = get_or_at (first ∷ joined ps) 96 z 0 _ (omega (arith, body)) in
    let size : run template_piece (joined ps ++ 96 ∷ z) + 2 ≡ length (first ∷ (joined ps ++ 96 ∷ [])) = omega (arith, body, length-append (joined ps) (96 ∷ [])) in
    cond-true _ _ _ (eq-eqb _ _ last) ∙ ap (λ n. Some (closed, n)) size

opened-is : (closed opened : Kind) (first : ℕ) (ps : List (List ℕ)) (z : List ℕ) → AreParts template_piece ps (36 ∷ 123 ∷ z) → template closed opened (first ∷ (joined ps ++ 36 ∷ 123 ∷ z)) ≡ Some (opened, length (first ∷ (joined ps ++ 36 ∷ 123 ∷ [])))
unfolding template
opened-is closed opened first ps z h =
    let body = run_closed template_piece ps (36 ∷ 123 ∷ z) h (opened_stops z) in
    let dollar : slice_index (first ∷ (joined ps ++ 36 ∷ 123 ∷ z)) (1 + run template_piece (joined ps ++ 36 ∷ 123 ∷ z)) ≡ 36 = get_or_at (first ∷ joined ps) 36 (123 ∷ z) 0 _ (omega (arith, body)) in
    let moved : first ∷ (joined ps ++ 36 ∷ 123 ∷ z) ≡ (first ∷ (joined ps ++ 36 ∷ [])) ++ 123 ∷ z = sym (closing first ps (36 ∷ []) (123 ∷ z)) in
    let brace : slice_index (first ∷ (joined ps ++ 36 ∷ 123 ∷ z)) (2 + run template_piece (joined ps ++ 36 ∷ 123 ∷ z)) ≡ 123 = ap (λ x. slice_index x (2 + run template_piece (joined ps ++ 36 ∷ 123 ∷ z))) moved ∙ get_or_at (first ∷ (joined ps ++ 36 ∷ [])) 123 z 0 _ (omega (arith, body, length-append (joined ps) (36 ∷ []))) in
    let size : run template_piece (joined ps ++ 36 ∷ 123 ∷ z) + 3 ≡ length (first ∷ (joined ps ++ 36 ∷ 123 ∷ [])) = omega (arith, body, length-append (joined ps) (36 ∷ 123 ∷ [])) in
    cond-false _ _ _ (ap (λ x. eqb x 96) dollar) ∙ cond-true _ _ None (and_from _ _ (ap (λ x. eqb x 36) dollar) (ap (λ x. eqb x 123) brace)) ∙ ap (λ n. Some (opened, n)) size

token_begin : (g : Goal) (rest : List ℕ) → token g (96 ∷ rest) ≡ template k.TemplateWhole k.TemplateHead (96 ∷ rest)
unfolding token
token_begin g rest = refl

token_tail : (rest : List ℕ) → token goal.TemplateTail (125 ∷ rest) ≡ template k.TemplateTail k.TemplateMiddle (125 ∷ rest)
unfolding token right_brace
token_tail rest = refl

begin_solid : (x : List ℕ) → separator (96 ∷ x) ≡ 0
begin_solid x = plain-solid 96 x (omega arith) (omega arith) refl

tail_solid : (x : List ℕ) → separator (125 ∷ x) ≡ 0
tail_solid x = plain-solid 125 x (omega arith) (omega arith) refl

pub whole-keep : (g : Goal) (ps : List (List ℕ)) (y z : List ℕ) → AreParts template_piece ps (96 ∷ y) → Kept g k.TemplateWhole (96 ∷ (joined ps ++ 96 ∷ [])) z
whole-keep g ps y z h = record {
  read = ap (token g) (closing 96 ps (96 ∷ []) z) ∙ token_begin g (joined ps ++ 96 ∷ z) ∙ closed-is k.TemplateWhole k.TemplateHead 96 ps z (template_keep 96 ps y z h);
  solid = begin_solid _;
}

pub head-keep : (g : Goal) (ps : List (List ℕ)) (y z : List ℕ) → AreParts template_piece ps (36 ∷ 123 ∷ y) → Kept g k.TemplateHead (96 ∷ (joined ps ++ 36 ∷ 123 ∷ [])) z
head-keep g ps y z h = record {
  read = ap (token g) (closing 96 ps (36 ∷ 123 ∷ []) z) ∙ token_begin g (joined ps ++ 36 ∷ 123 ∷ z) ∙ opened-is k.TemplateWhole k.TemplateHead 96 ps z (template_keep 36 ps (123 ∷ y) (123 ∷ z) h);
  solid = begin_solid _;
}

pub middle-keep : (ps : List (List ℕ)) (y z : List ℕ) → AreParts template_piece ps (36 ∷ 123 ∷ y) → Kept goal.TemplateTail k.TemplateMiddle (125 ∷ (joined ps ++ 36 ∷ 123 ∷ [])) z
middle-keep ps y z h = record {
  read = ap (token goal.TemplateTail) (closing 125 ps (36 ∷ 123 ∷ []) z) ∙ token_tail (joined ps ++ 36 ∷ 123 ∷ z) ∙ opened-is k.TemplateTail k.TemplateMiddle 125 ps z (template_keep 36 ps (123 ∷ y) (123 ∷ z) h);
  solid = tail_solid _;
}

pub tail-keep : (ps : List (List ℕ)) (y z : List ℕ) → AreParts template_piece ps (96 ∷ y) → Kept goal.TemplateTail k.TemplateTail (125 ∷ (joined ps ++ 96 ∷ [])) z
tail-keep ps y z h = record {
  read = ap (token goal.TemplateTail) (closing 125 ps (96 ∷ []) z) ∙ token_tail (joined ps ++ 96 ∷ z) ∙ closed-is k.TemplateTail k.TemplateMiddle 125 ps z (template_keep 96 ps y z h);
  solid = tail_solid _;
}

-- ---- regular expressions

flag_same : (y z p r : List ℕ) → Whole (p ++ (r ++ y)) → 0 < length p → identifier_character (p ++ (r ++ y)) ≡ length p → identifier_character (p ++ (r ++ z)) ≡ length p
unfolding identifier_character
flag_same y z [] r whole some h = absurd (omega (arith, some))
flag_same y z (b ∷ p) r whole some h = character-same is_identifier_part b p (r ++ y) (r ++ z) refl whole h

body_stops : (z : List ℕ) → body_piece (47 ∷ z) ≡ 0
unfolding body_piece
body_stops z = refl

regexp-is : (body flags : List (List ℕ)) (z : List ℕ) → 0 < length (joined body) → slice_index (joined body) 0 ≢ 42 → AreParts body_piece body (47 ∷ (joined flags ++ z)) → AreParts identifier_character flags z → identifier_character z ≡ 0
    → regular_expression (47 ∷ (joined body ++ 47 ∷ (joined flags ++ z))) ≡ Some (k.RegExp, length (47 ∷ (joined body ++ 47 ∷ joined flags)))
unfolding regular_expression
regexp-is body flags z some no_star h more none =
    let rest = joined flags ++ z in
    let text = 47 ∷ (joined body ++ 47 ∷ rest) in
    let size : run body_piece (joined body ++ 47 ∷ rest) ≡ length (joined body) = run_closed body_piece body (47 ∷ rest) h (body_stops rest) in
    let begun : eqb (run body_piece (joined body ++ 47 ∷ rest)) 0 ≡ false = ne_eqb _ _ (λ e. absurd (omega (arith, e, size, some))) in
    let first : slice_index (joined body ++ 47 ∷ rest) 0 ≡ slice_index (joined body) 0 = get_or_append_left (joined body) (47 ∷ rest) 0 0 some in
    let star : eqb (slice_index (joined body ++ 47 ∷ rest) 0) 42 ≡ false = ne_eqb _ _ (λ e. no_star (sym first ∙ e)) in
    let last : slice_index text (1 + run body_piece (joined body ++ 47 ∷ rest)) ≡ 47 = get_or_at (47 ∷ joined body) 47 rest 0 _ (omega (arith, size)) in
    let moved : drop (run body_piece (joined body ++ 47 ∷ rest) + 2) text ≡ rest = ap (drop (run body_piece (joined body ++ 47 ∷ rest) + 2)) (sym (closing 47 body (47 ∷ []) rest)) ∙ drop_at (47 ∷ (joined body ++ 47 ∷ [])) rest _ (omega (arith, size, length-append (joined body) (47 ∷ []))) in
    let marks = run_closed identifier_character flags z more none in
    let all : run body_piece (joined body ++ 47 ∷ rest) + 2 + run identifier_character (drop (run body_piece (joined body ++ 47 ∷ rest) + 2) text) ≡ length (47 ∷ (joined body ++ 47 ∷ joined flags)) = omega (arith, size, ap (run identifier_character) moved, marks, length-append (joined body) (47 ∷ joined flags)) in
    cond-false _ None _ (or_from _ _ begun star) ∙ cond-true _ _ None (eq-eqb _ _ last) ∙ ap (λ n. Some (k.RegExp, n)) all

token_regexp : (rest : List ℕ) → token goal.RegExp (47 ∷ rest) ≡ regular_expression (47 ∷ rest)
unfolding token slash
token_regexp rest = refl

-- a `/` that begins no comment
slash_solid : (c : ℕ) (x : List ℕ) → eqb c 47 ≡ false → eqb c 42 ≡ false → separator (47 ∷ c ∷ x) ≡ 0
unfolding separator comment at_line_end code_point
slash_solid c x slash star = rw (slash, star) refl

piece_first : (p r : List ℕ) → 0 < length p → body_piece (p ++ r) ≡ length p → slice_index p 0 ≢ 47
unfolding body_piece
piece_first [] r some h e = omega (arith, some)
piece_first (b ∷ p) r some h e = let none : body_piece (b ∷ (p ++ r)) ≡ 0 = cond-true _ 0 _ (or_left (eqb b 47) _ (eq-eqb b 47 e)) in omega (arith, none, h)

body_first : (body : List (List ℕ)) (y : List ℕ) → 0 < length (joined body) → AreParts body_piece body y → slice_index (joined body) 0 ≢ 47
body_first [] y some h e = omega (arith, some)
body_first (p ∷ ps) y some h e = piece_first p (joined ps ++ y) h.0.0 h.0.1 (sym (get_or_append_left p (joined ps) 0 0 h.0.0) ∙ e)

regexp_solid : (body x : List ℕ) → 0 < length body → slice_index body 0 ≢ 47 → slice_index body 0 ≢ 42 → separator (47 ∷ (body ++ x)) ≡ 0
regexp_solid [] x some slash star = absurd (omega (arith, some))
regexp_solid (c ∷ body) x some slash star = slash_solid c (body ++ x) (ne_eqb c 47 slash) (ne_eqb c 42 star)

pub regexp-keep : (body flags : List (List ℕ)) (y : List ℕ) (d : ℕ) (z : List ℕ) → 0 < length (joined body) → slice_index (joined body) 0 ≢ 42 → AreParts body_piece body (47 ∷ (joined flags ++ y)) → AreParts identifier_character flags y
    → Whole ((47 ∷ (joined body ++ 47 ∷ joined flags)) ++ y) → is_joint d ≡ true → Kept goal.RegExp k.RegExp (47 ∷ (joined body ++ 47 ∷ joined flags)) (d ∷ z)
regexp-keep body flags y d z some star h more whole joint =
    let split : (x : List ℕ) → (47 ∷ (joined body ++ 47 ∷ joined flags)) ++ x ≡ 47 ∷ (joined body ++ 47 ∷ (joined flags ++ x)) = λ x. closing 47 body (47 ∷ joined flags) x in
    let flag_text : Whole (joined flags ++ y) = (whole_behind (joined body) (47 ∷ (joined flags ++ y)) ((subst Whole (split y) whole)).1).1 in
    let marks = parts_keep identifier_character y (d ∷ z) Whole whole_behind (flag_same y (d ∷ z)) flags flag_text more in
    let parts = closed_keep body_piece 47 (joined flags ++ y) (joined flags ++ d ∷ z) (λ p r any. body-same p r (joined flags ++ y) (joined flags ++ d ∷ z) any) body h in
    record {
      read = ap (token goal.RegExp) (split (d ∷ z)) ∙ token_regexp _ ∙ regexp-is body flags (d ∷ z) some star parts marks (joint-no_flag d z joint);
      solid = ap separator (split (d ∷ z)) ∙ regexp_solid (joined body) (47 ∷ (joined flags ++ d ∷ z)) some (body_first body _ some h) star;
    }
