-- Where a token of a kind comes from.
use Rattle.std.proofs.Common.{eqb-true, drop-drop, ◌≡◌, ℕ, zero, suc, ◌+◌, ◌-◌, ◌<◌, ◌≤◌, Bool, true, false, cond, ◌&&◌, ◌||◌, eqb, List, [], ◌∷◌, length, drop, slice_index, Some, None, Ok, refl, sym, ap, ◌∙◌, subst, arith, length-drop}
use Rattle.std.proofs.lemmas.Bool.Decides.{nat_tests}
use Rattle.esb_token.specs.declared.kind.Kind.{Kind}
use Rattle.esb_token.specs.declared.kind.Kind.TheVariants as k
use Rattle.esb_token.specs.declared.token.Token.{Token}
use Rattle.esb_token.specs.declared.goal.Goal.{Goal}
use Rattle.esb_token.specs.declared.goal.Goal.TheVariants as goal
use Rattle.esb_token.specs.Goals.{is_other_than_slash, is_other_than_brace, is_division, is_tail}
use Rattle.esb_token.specs.Runs.{run, run_from}
use Rattle.esb_token.specs.Gaps.{gap, gap_has_line, separator, interpreter_line, line_comment_byte}
use Rattle.esb_token.specs.Characters.{is_digit}
use Rattle.esb_token.specs.Names.{Piece}
use Rattle.esb_token.specs.Numbers.{number}
use Rattle.esb_token.specs.Strings.{string, string_piece}
use Rattle.esb_token.specs.RegExps.{regular_expression, body_piece}
use Rattle.esb_token.specs.Punctuators.{with_equals}
use Rattle.esb_token.specs.Tokens.{division, slash, right_brace, punctuator_or_name, token, placed, next_from, skipped, next, IsStringLiteral}
use Rattle.esb_token.specs.Laws.{SameUnder, RegExpIsDivision, TailIsBrace, TextIsLiteral, EndIsLast}
use Rattle.esb_token.proofs.KindsGiven.{Gives, is_ordinary, is_text, is_regexp, gives_some, gives_either, template_kind, regular_expression_kind, division_kind, punctuator_ordinary, name_ordinary, number_ordinary}
use Rattle.esb_token.proofs.GoalsAgree.{Same, rest_of, is_plain, rest_plain, token-DivRegExp, token-RegExpDiv, token-DivTail, token-TailDiv}

-- ---- from the front of a text to a place

-- the text at which a token is read
abbrev pub token_start : List ℕ → ℕ → ℕ
token_start contents at = let from = at + skipped contents at in from + gap (drop from contents)

abbrev pub token_text : List ℕ → ℕ → List ℕ
token_text contents at = let from = at + skipped contents at in drop (gap (drop from contents)) (drop from contents)

abbrev pub token_line : List ℕ → ℕ → Bool
token_line contents at = gap_has_line (drop (at + skipped contents at) contents)

pub next_is : (contents : List ℕ) (at : ℕ) (g : Goal) → next contents at g ≡ placed (token_start contents at) (token_line contents at) (token g (token_text contents at))
unfolding next next_from
next_is contents at g = refl

abbrev pub Made : ℕ → Bool → Token → Kind × ℕ → Type 0
Made start line t p = t ≡ record { kind = p.0; start = start; end = start + p.1; after_line = line }

piece_of : (start : ℕ) (line : Bool) (piece : Piece) (t : Token) → placed start line piece ≡ Ok t → (p : Kind × ℕ) × (piece ≡ Some p) × Made start line t p
piece_of start line None t h = cc
piece_of start line (Some p) t h = (p, refl, cc)

placed_at : (start : ℕ) (line : Bool) (piece : Piece) (p : Kind × ℕ) → piece ≡ Some p → placed start line piece ≡ Ok (record { kind = p.0; start = start; end = start + p.1; after_line = line })
placed_at start line piece p h = ap (placed start line) h

pub found : (contents : List ℕ) (at : ℕ) (g : Goal) (t : Token) → next contents at g ≡ Ok t
    → (p : Kind × ℕ) × (token g (token_text contents at) ≡ Some p) × Made (token_start contents at) (token_line contents at) t p
found contents at g t h = piece_of _ _ (token g (token_text contents at)) t (sym (next_is contents at g) ∙ h)

stands : (contents : List ℕ) (at : ℕ) (g : Goal) (p : Kind × ℕ) → token g (token_text contents at) ≡ Some p
    → next contents at g ≡ Ok (record { kind = p.0; start = token_start contents at; end = token_start contents at + p.1; after_line = token_line contents at })
stands contents at g p h = next_is contents at g ∙ placed_at _ _ _ p h

-- ---- the same token under another goal

same_under : (test : Kind → Bool) (g h : Goal) → ((text : List ℕ) → Same test (token g text) (token h text)) → SameUnder test g h
same_under test g h same contents at t e passes =
    let f = found contents at g t e in
    stands contents at h f.0 (same (token_text contents at) f.0 f.1 (subst (λ (x : Token). test x.kind ≡ true) f.2 passes)) ∙ ap Ok (sym f.2)

pub div-reg_exp : SameUnder is_other_than_slash goal.Div goal.RegExp
div-reg_exp = same_under is_other_than_slash goal.Div goal.RegExp token-DivRegExp

pub reg_exp-div : SameUnder is_other_than_slash goal.RegExp goal.Div
reg_exp-div = same_under is_other_than_slash goal.RegExp goal.Div token-RegExpDiv

pub div-tail : SameUnder is_other_than_brace goal.Div goal.TemplateTail
div-tail = same_under is_other_than_brace goal.Div goal.TemplateTail token-DivTail

pub tail-div : SameUnder is_other_than_brace goal.TemplateTail goal.Div
tail-div = same_under is_other_than_brace goal.TemplateTail goal.Div token-TailDiv

-- ---- what a kind says of the text

-- what holds of the pieces whose kinds pass a test
abbrev Where : (Kind → Bool) → (Kind × ℕ → Type 0) → Piece → Type 0
Where test Q piece = (p : Kind × ℕ) → piece ≡ Some p → test p.0 ≡ true → Q p

where_never : (test other : Kind → Bool) (Q : Kind × ℕ → Type 0) (piece : Piece) → Gives other piece → ((kind : Kind) → other kind ≡ true → test kind ≡ true → ⊥) → Where test Q piece
where_never test other Q piece gives apart p h e = absurd (apart p.0 (gives p h) e)

where_cond : (test : Kind → Bool) (Q : Kind × ℕ → Type 0) (t : Bool) (x y : Piece) → (t ≡ true → Where test Q x) → (t ≡ false → Where test Q y) → Where test Q (cond t x y)
where_cond test Q true x y hx hy = hx refl
where_cond test Q false x y hx hy = hy refl

regexp-plain : (kind : Kind) → is_plain kind ≡ true → is_regexp kind ≡ true → ⊥
regexp-plain k.RegExp h e = cc
regexp-plain _ h e = cc

tail-plain : (kind : Kind) → is_plain kind ≡ true → is_tail kind ≡ true → ⊥
tail-plain k.TemplateMiddle h e = cc
tail-plain k.TemplateTail h e = cc
tail-plain _ h e = cc

or_right : (a b : Bool) → (a || b) ≡ false → b ≡ false
or_right true b h = cc
or_right false b h = h

abbrev DivisionAt : List ℕ → Kind × ℕ → Type 0
DivisionAt text p = (q : Kind × ℕ) × (division text ≡ Some q) × (is_division q.0 ≡ true)

some_division : (text : List ℕ) → eqb (slice_index text 1) 42 ≡ false → (q : Kind × ℕ) × (division text ≡ Some q)
unfolding division
some_division text h = (with_equals k.Slash k.SlashAssign 1 text, ap (λ t. cond t None (Some (with_equals k.Slash k.SlashAssign 1 text))) h)

where_none : (test : Kind → Bool) (Q : Kind × ℕ → Type 0) → Where test Q None
where_none test Q p h e = cc

regexp_division : (text : List ℕ) → Where is_regexp (DivisionAt text) (regular_expression text)
unfolding regular_expression
regexp_division text =
    where_cond is_regexp (DivisionAt text) (eqb (run body_piece (drop 1 text)) 0 || eqb (slice_index text 1) 42) None _ (λ _. where_none is_regexp (DivisionAt text))
    (λ no p h e. let q = some_division text (or_right _ _ no) in (q.0, q.1, division_kind text q.0 q.1))

same_pair : (p q : Kind × ℕ) → Some p ≡ Some q → p ≡ q
same_pair p q e = cc

-- where the end alone is given
where_end : (test : Kind → Bool) (Q : Kind × ℕ → Type 0) → test k.End ≡ false → Where test Q (Some (k.End, 0))
where_end test Q h p e passes = let bad : test k.End ≡ true = subst (λ (x : Kind × ℕ). test x.0 ≡ true) (sym (same_pair _ _ e)) passes in cc

abbrev is_right_brace : Kind → Bool
is_right_brace k.RightBrace = true
is_right_brace _ = false

right_brace_kind : Gives is_right_brace (Some (k.RightBrace, 1))
right_brace_kind = gives_some is_right_brace (k.RightBrace, 1) refl

regexp-brace : (kind : Kind) → is_right_brace kind ≡ true → is_regexp kind ≡ true → ⊥
regexp-brace k.RightBrace h e = cc
regexp-brace _ h e = cc

token_regexp : (text : List ℕ) → Where is_regexp (λ p. (q : Kind × ℕ) × (token goal.Div text ≡ Some q) × (is_division q.0 ≡ true)) (token goal.RegExp text)
unfolding token slash right_brace rest_of
token_regexp [] = where_end is_regexp _ refl
token_regexp (b ∷ rest) =
    where_cond is_regexp _ (eqb b 47) (regular_expression (b ∷ rest)) (cond (eqb b 125) (Some (k.RightBrace, 1)) (rest_of b rest))
    (λ yes p h e. let d = regexp_division (b ∷ rest) p h e in (d.0, ap (λ t. cond t (division (b ∷ rest)) (cond (eqb b 125) (Some (k.RightBrace, 1)) (rest_of b rest))) yes ∙ d.1, d.2))
    (λ _. where_cond is_regexp _ (eqb b 125) (Some (k.RightBrace, 1)) (rest_of b rest)
    (λ _. where_never is_regexp is_right_brace _ _ right_brace_kind regexp-brace)
    (λ _. where_never is_regexp is_plain _ _ (rest_plain b rest) regexp-plain))

pub reg_exp-is_division : RegExpIsDivision
reg_exp-is_division contents at t e is =
    let f = found contents at goal.RegExp t e in
    let d = token_regexp (token_text contents at) f.0 f.1 (ap is_regexp (ap (λ (x : Token). x.kind) (sym f.2) ∙ is)) in
    (_, stands contents at goal.Div d.0 d.1, d.2)

division-tail : (kind : Kind) → is_division kind ≡ true → is_tail kind ≡ true → ⊥
division-tail k.Slash h e = cc
division-tail k.SlashAssign h e = cc
division-tail _ h e = cc

token_tail : (text : List ℕ) → Where is_tail (λ p. token goal.Div text ≡ Some (k.RightBrace, 1)) (token goal.TemplateTail text)
unfolding token slash right_brace rest_of
token_tail [] = where_end is_tail _ refl
token_tail (b ∷ rest) =
    where_cond is_tail _ (eqb b 47) (division (b ∷ rest)) _ (λ _. where_never is_tail is_division _ _ (division_kind (b ∷ rest)) division-tail)
    (λ no. where_cond is_tail _ (eqb b 125) _ (rest_of b rest)
    (λ yes p h e. ap (λ t. cond t (division (b ∷ rest)) (cond (eqb b 125) (Some (k.RightBrace, 1)) (rest_of b rest))) no ∙ ap (λ t. cond t (Some (k.RightBrace, 1)) (rest_of b rest)) yes)
    (λ _. where_never is_tail is_plain _ _ (rest_plain b rest) tail-plain))

pub tail-is_brace : TailIsBrace
tail-is_brace contents at t e passes =
    let f = found contents at goal.TemplateTail t e in
    let d = token_tail (token_text contents at) f.0 f.1 (subst (λ (x : Token). is_tail x.kind ≡ true) f.2 passes) in
    (_, stands contents at goal.Div (k.RightBrace, 1) d, refl)

-- ---- string literals

abbrev is_begin : Kind → Bool
is_begin k.TemplateWhole = true
is_begin k.TemplateHead = true
is_begin _ = false

text-begin : (kind : Kind) → is_begin kind ≡ true → is_text kind ≡ true → ⊥
text-begin k.Text h e = cc
text-begin _ h e = cc

text-ordinary : (kind : Kind) → is_ordinary kind ≡ true → is_text kind ≡ true → ⊥
text-ordinary k.Text h e = cc
text-ordinary _ h e = cc

text-division : (kind : Kind) → is_division kind ≡ true → is_text kind ≡ true → ⊥
text-division k.Text h e = cc
text-division _ h e = cc

text-regexp : (kind : Kind) → is_regexp kind ≡ true → is_text kind ≡ true → ⊥
text-regexp k.Text h e = cc
text-regexp _ h e = cc

text-brace : (kind : Kind) → is_right_brace kind ≡ true → is_text kind ≡ true → ⊥
text-brace k.Text h e = cc
text-brace _ h e = cc

text-tail : (kind : Kind) → is_tail kind ≡ true → is_text kind ≡ true → ⊥
text-tail k.Text h e = cc
text-tail _ h e = cc

-- the string literal that a piece is, in quotes
abbrev QuotedAt : ℕ → List ℕ → Kind × ℕ → Type 0
QuotedAt b rest p = (string (b ∷ rest) ≡ Some p) × (eqb b 34 || eqb b 39 ≡ true)

rest_text : (b : ℕ) (rest : List ℕ) → Where is_text (QuotedAt b rest) (rest_of b rest)
unfolding rest_of
rest_text b rest =
    where_cond is_text _ (eqb b 96) _ _ (λ _. where_never is_text is_begin _ _ (template_kind is_begin k.TemplateWhole k.TemplateHead (b ∷ rest) refl refl) text-begin)
    (λ _. where_cond is_text _ (eqb b 34 || eqb b 39) (string (b ∷ rest)) _ (λ yes p h e. (h, yes))
    (λ _. where_cond is_text _ (is_digit b || (eqb b 46 && is_digit (slice_index rest 0))) (number (b ∷ rest)) (punctuator_or_name (b ∷ rest))
    (λ _. where_never is_text is_ordinary _ _ (number_ordinary (b ∷ rest)) text-ordinary)
    (λ _. where_never is_text is_ordinary _ _ (gives_either is_ordinary _ _ (punctuator_ordinary (b ∷ rest)) (name_ordinary (b ∷ rest))) text-ordinary)))

slash_text : (g : Goal) (b : ℕ) (rest : List ℕ) → Where is_text (QuotedAt b rest) (slash g (b ∷ rest))
unfolding slash
slash_text goal.Div b rest = where_never is_text is_division _ _ (division_kind (b ∷ rest)) text-division
slash_text goal.RegExp b rest = where_never is_text is_regexp _ _ (regular_expression_kind (b ∷ rest)) text-regexp
slash_text goal.TemplateTail b rest = where_never is_text is_division _ _ (division_kind (b ∷ rest)) text-division

brace_text : (g : Goal) (b : ℕ) (rest : List ℕ) → Where is_text (QuotedAt b rest) (right_brace g (b ∷ rest))
unfolding right_brace
brace_text goal.Div b rest = where_never is_text is_right_brace _ _ right_brace_kind text-brace
brace_text goal.RegExp b rest = where_never is_text is_right_brace _ _ right_brace_kind text-brace
brace_text goal.TemplateTail b rest = where_never is_text is_tail _ _ (template_kind is_tail k.TemplateTail k.TemplateMiddle (b ∷ rest) refl refl) text-tail

-- a byte of a quote, at the front of a text
abbrev IsQuoted : List ℕ → Kind × ℕ → Type 0
IsQuoted text p = (string text ≡ Some p) × (eqb (slice_index text 0) 34 || eqb (slice_index text 0) 39 ≡ true)

token_string : (g : Goal) (text : List ℕ) → Where is_text (IsQuoted text) (token g text)
unfolding token rest_of
token_string g [] = where_end is_text _ refl
token_string g (b ∷ rest) =
    where_cond is_text _ (eqb b 47) _ _ (λ _. slash_text g b rest)
    (λ _. where_cond is_text _ (eqb b 125) _ (rest_of b rest) (λ _. brace_text g b rest) (λ _. rest_text b rest))

some_byte : (text : List ℕ) (at : ℕ) → 0 < slice_index text at → at < length text
some_byte [] at h = absurd (omega arith)
some_byte (b ∷ rest) zero h = omega arith
some_byte (b ∷ rest) (suc at) h = let e = some_byte rest at h in omega (arith, e)

quote_some : (b : ℕ) → eqb b 34 || eqb b 39 ≡ true → 0 < b
quote_some b h = grind (arith, nat_tests)

string_cond : (t : Bool) (n : ℕ) (p : Kind × ℕ) → cond t (Some (k.Text, n)) None ≡ Some p → (t ≡ true) × (p.1 ≡ n)
string_cond true n p h = (refl, ap (λ (x : Kind × ℕ). x.1) (sym (same_pair _ _ h)))
string_cond false n p h = cc

string_within : (text : List ℕ) (p : Kind × ℕ) → IsQuoted text p → (2 ≤ p.1) × (p.1 ≤ length text)
unfolding string
string_within text p h =
    let quote = slice_index text 0 in
    let body = run (string_piece quote) (drop 1 text) in
    let found = string_cond (eqb (slice_index text (1 + body)) quote) (body + 2) p h.0 in
    let some : 0 < quote = quote_some quote h.1 in
    let same : slice_index text (1 + body) ≡ quote = eqb-true _ _ found.0 in
    let within : 1 + body < length text = some_byte text (1 + body) (omega (arith, same, some)) in
    (omega (arith, found.1), omega (arith, found.1, within))

token_text-is : (contents : List ℕ) (at : ℕ) → token_text contents at ≡ drop (token_start contents at) contents
token_text-is contents at = let from = at + skipped contents at in drop-drop (gap (drop from contents)) from contents

literal_at : (contents : List ℕ) (start : ℕ) (line : Bool) (p : Kind × ℕ) → p.0 ≡ k.Text → IsQuoted (drop start contents) p → IsStringLiteral contents (record { kind = p.0; start = start; end = start + p.1; after_line = line })
literal_at contents start line p is quoted =
    let within = string_within (drop start contents) p quoted in
    let cut = length-drop start contents in
    let size : (start + p.1) - start ≡ p.1 = omega arith in
    (omega (arith, within), omega (arith, within, cut), quoted.0 ∙ ap Some (pair_is p (k.Text, (start + p.1) - start) is (sym size)))
  where
    pair_is : (x y : Kind × ℕ) → x.0 ≡ y.0 → x.1 ≡ y.1 → x ≡ y
    pair_is (x, m) (y, n) a b = cc

pub text-is_literal : TextIsLiteral
text-is_literal contents at g t e is =
    let f = found contents at g t e in
    let kind_is : f.0.0 ≡ k.Text = ap (λ (x : Token). x.kind) (sym f.2) ∙ is in
    let quoted = token_string g (token_text contents at) f.0 f.1 (ap is_text kind_is) in
    subst (λ (x : Token). IsStringLiteral contents x) (sym f.2)
    (literal_at contents (token_start contents at) (token_line contents at) f.0 kind_is (subst (λ x. IsQuoted x f.0) (token_text-is contents at) quoted))

-- ---- the end

abbrev is_end : Kind → Bool
is_end k.End = true
is_end _ = false

end-plain : (kind : Kind) → is_plain kind ≡ true → is_end kind ≡ true → ⊥
end-plain k.End h e = cc
end-plain _ h e = cc

end-division : (kind : Kind) → is_division kind ≡ true → is_end kind ≡ true → ⊥
end-division k.End h e = cc
end-division _ h e = cc

end-regexp : (kind : Kind) → is_regexp kind ≡ true → is_end kind ≡ true → ⊥
end-regexp k.End h e = cc
end-regexp _ h e = cc

end-brace : (kind : Kind) → is_right_brace kind ≡ true → is_end kind ≡ true → ⊥
end-brace k.End h e = cc
end-brace _ h e = cc

end-tail : (kind : Kind) → is_tail kind ≡ true → is_end kind ≡ true → ⊥
end-tail k.End h e = cc
end-tail _ h e = cc

abbrev Ends : List ℕ → Kind × ℕ → Type 0
Ends text p = (length text ≡ 0) × (p.1 ≡ 0)

slash_end : (g : Goal) (text : List ℕ) (Q : Kind × ℕ → Type 0) → Where is_end Q (slash g text)
unfolding slash
slash_end goal.Div text Q = where_never is_end is_division _ _ (division_kind text) end-division
slash_end goal.RegExp text Q = where_never is_end is_regexp _ _ (regular_expression_kind text) end-regexp
slash_end goal.TemplateTail text Q = where_never is_end is_division _ _ (division_kind text) end-division

brace_end : (g : Goal) (text : List ℕ) (Q : Kind × ℕ → Type 0) → Where is_end Q (right_brace g text)
unfolding right_brace
brace_end goal.Div text Q = where_never is_end is_right_brace _ _ right_brace_kind end-brace
brace_end goal.RegExp text Q = where_never is_end is_right_brace _ _ right_brace_kind end-brace
brace_end goal.TemplateTail text Q = where_never is_end is_tail _ _ (template_kind is_tail k.TemplateTail k.TemplateMiddle text refl refl) end-tail

token_end : (g : Goal) (text : List ℕ) → Where is_end (Ends text) (token g text)
unfolding token rest_of
token_end g [] = λ p e passes. (refl, ap (λ (x : Kind × ℕ). x.1) (sym (same_pair _ _ e)))
token_end g (b ∷ rest) =
    where_cond is_end _ (eqb b 47) _ _ (λ _. slash_end g (b ∷ rest) _)
    (λ _. where_cond is_end _ (eqb b 125) _ (rest_of b rest) (λ _. brace_end g (b ∷ rest) _) (λ _. where_never is_end is_plain _ _ (rest_plain b rest) end-plain))

run_from-within : (part : List ℕ → ℕ) (inside : ℕ) (text : List ℕ) → run_from part inside text ≤ length text
run_from-within part inside [] = omega arith
run_from-within part (suc inside) (b ∷ rest) = let h = run_from-within part inside rest in omega (arith, h)
run_from-within part zero (b ∷ rest) =
    let h = run_from-within part (part (b ∷ rest) - 1) rest in by_test (eqb (part (b ∷ rest)) 0) h
  where
    by_test : (t : Bool) → run_from part (part (b ∷ rest) - 1) rest ≤ length rest → cond t 0 (1 + run_from part (part (b ∷ rest) - 1) rest) ≤ length (b ∷ rest)
    by_test true h = omega arith
    by_test false h = omega (arith, h)

pub run-within : (part : List ℕ → ℕ) (text : List ℕ) → run part text ≤ length text
unfolding run
run-within part text = run_from-within part 0 text

gap-within : (text : List ℕ) → gap text ≤ length text
unfolding gap
gap-within text = run-within separator text

line-within : (contents : List ℕ) → interpreter_line contents ≤ length contents
unfolding interpreter_line
line-within contents = by_test (eqb (slice_index contents 0) 35) (eqb (slice_index contents 1) 33) refl
  where
    body : ℕ
    body = run line_comment_byte (drop 2 contents)

    by_test : (s t : Bool) → eqb (slice_index contents 1) 33 ≡ t → cond (s && t) (2 + run line_comment_byte (drop 2 contents)) 0 ≤ length contents
    by_test true true h =
        let some : slice_index contents 1 ≡ 33 = eqb-true _ _ h in
        let long = some_byte contents 1 (omega (arith, some)) in
        omega (arith, long, run-within line_comment_byte (drop 2 contents), length-drop 2 contents)
    by_test true false h = omega arith
    by_test false t h = omega arith

skipped-within : (contents : List ℕ) (at : ℕ) → at ≤ length contents → at + skipped contents at ≤ length contents
unfolding skipped
skipped-within contents at h = by_test (eqb at 0) refl
  where
    by_test : (t : Bool) → eqb at 0 ≡ t → at + cond t (interpreter_line contents) 0 ≤ length contents
    by_test true e = let zero_is : at ≡ 0 = eqb-true _ _ e in omega (arith, zero_is, line-within contents)
    by_test false e = omega (arith, h)

pub end-is_last : EndIsLast
end-is_last contents at g t within e is =
    let f = found contents at g t e in
    let from = at + skipped contents at in
    let kind_is : f.0.0 ≡ k.End = ap (λ (x : Token). x.kind) (sym f.2) ∙ is in
    let ends = token_end g (token_text contents at) f.0 f.1 (ap is_end kind_is) in
    let empty : length (drop (token_start contents at) contents) ≡ 0 = ap length (sym (token_text-is contents at)) ∙ ends.0 in
    let cut = length-drop (token_start contents at) contents in
    let first = skipped-within contents at within in
    let second = gap-within (drop from contents) in
    let cut_from = length-drop from contents in
    let start_is : t.start ≡ token_start contents at = ap (λ (x : Token). x.start) f.2 in
    let end_is : t.end ≡ token_start contents at + f.0.1 = ap (λ (x : Token). x.end) f.2 in
    let here : token_start contents at ≡ length contents = omega (arith, empty, cut, first, second, cut_from) in
    (start_is ∙ here, omega (arith, end_is, here, ends.1))
