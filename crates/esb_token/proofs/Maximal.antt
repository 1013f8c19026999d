-- The token that is read is the longest.
use Rattle.std.proofs.Common.{◌≡◌, ◌≢◌, inl, inr, ℕ, ◌+◌, ◌-◌, ◌<◌, ◌≤◌, Bool, true, false, cond, not, ◌||◌, eqb, nat_lt, List, [], ◌∷◌, ◌++◌, length, drop, slice_index, Some, None, Ok, Err, refl, sym, ap, ◌∙◌, subst, arith, drop-drop, append_assoc, length-drop}
use Rattle.std.proofs.lemmas.List.{drop_at}
use Rattle.std.proofs.lemmas.Bool.{ne_eqb, or_cases, both_ways, and_parts, or_right, or_left}
use Rattle.esb_token.specs.declared.kind.Kind.{Kind}
use Rattle.esb_token.specs.declared.kind.Kind.TheVariants as k
use Rattle.esb_token.specs.declared.token.Token.{Token}
use Rattle.esb_token.specs.declared.goal.Goal.{Goal}
use Rattle.esb_token.specs.Characters.{is_digit}
use Rattle.esb_token.specs.Gaps.{gap}
use Rattle.esb_token.specs.Names.{Piece, identifier_start}
use Rattle.esb_token.specs.Numbers.{number, numeric}
use Rattle.esb_token.specs.Tokens.{token, placed, skipped, next}
use Rattle.esb_token.specs.Grammar.{AreDigits, IsInteger, IsNumeric, IsToken, ends_before}
use Rattle.esb_token.specs.Longest.{NoneIsLonger, IsLongest, IsNoToken, IsTokenAt}
use Rattle.esb_token.proofs.Covering.{Covers, covers_by, starts_number, reads, name_covers, string_covers, whole_covers, head_covers, middle_covers, tail_covers, regexp_covers}
use Rattle.esb_token.proofs.Marks.{punctuator_covers}
use Rattle.esb_token.proofs.Figures.{first_digit, numeric_covers}
use Rattle.esb_token.proofs.SoundFigures.{Number, numeric_number}
use Rattle.esb_token.proofs.Spelling.{token_stands}
use Rattle.esb_token.proofs.Sound.{Stands, AllStand}
use Rattle.esb_token.proofs.TokenKinds.{token_start, token_text, token_line, next_is, found}

-- ---- a number begins as one

integer_starts : (w rest : List ℕ) → IsInteger w → starts_number (w ++ rest) ≡ true
integer_starts w rest (inl e) = subst (λ x. starts_number (x ++ rest) ≡ true) (sym e) refl
integer_starts [] rest (inr h) = absurd (omega (arith, h.0))
integer_starts (d ∷ ds) rest (inr h) = or_left _ _ (first_digit is_digit d ds h.1)

point_starts : (ds rest : List ℕ) → 0 < length ds → AreDigits is_digit ds → starts_number (46 ∷ (ds ++ rest)) ≡ true
point_starts [] rest some h = absurd (omega (arith, some))
point_starts (d ∷ ds) rest some h = first_digit is_digit d ds h

numeric_starts : (kind : Kind) (bytes after : List ℕ) → IsNumeric kind bytes → starts_number (bytes ++ after) ≡ true
numeric_starts kind bytes after (IsNumeric.whole w e h exp) = ap starts_number (append_assoc w e after) ∙ integer_starts w (e ++ after) h
numeric_starts kind bytes after (IsNumeric.fraction w ds e h digits exp) = ap starts_number (append_assoc w (46 ∷ (ds ++ e)) after) ∙ integer_starts w (46 ∷ ((ds ++ e) ++ after)) h
numeric_starts kind bytes after (IsNumeric.point ds e some digits exp) = ap (λ x. starts_number (46 ∷ x)) (append_assoc ds e after) ∙ point_starts ds (e ++ after) some digits
numeric_starts kind bytes after (IsNumeric.big w h) = ap starts_number (append_assoc w (110 ∷ []) after) ∙ integer_starts w (110 ∷ after) h
numeric_starts kind bytes after (IsNumeric.based letter ds some h) = refl
numeric_starts kind bytes after (IsNumeric.based_big letter ds some h) = refl

number_covers : (g : Goal) (kind : Kind) (bytes after : List ℕ) → IsNumeric kind bytes → Covers (reads g (bytes ++ after)) (length bytes)
number_covers g kind bytes after h =
    covers_by _ (numeric (bytes ++ after)) _ (ap (λ t. cond t (Some (numeric (bytes ++ after))) (token g (bytes ++ after))) (numeric_starts kind bytes after h)) (numeric_covers kind bytes after h)

-- what is read has at least the bytes of each token at the front
pub covers : (g : Goal) (kind : Kind) (bytes after : List ℕ) → IsToken g kind bytes after → Covers (reads g (bytes ++ after)) (length bytes)
covers g kind bytes after (IsToken.punctuator _ _ _ h may under) = punctuator_covers g kind bytes after h may under
covers g kind bytes after (IsToken.name start parts _ h more) = name_covers g start parts after h more
covers g kind bytes after (IsToken.number _ _ _ h) = number_covers g kind bytes after h
covers g kind bytes after (IsToken.string quote pieces _ is h) = string_covers g quote pieces after is h
covers g kind bytes after (IsToken.template_whole pieces _ h) = whole_covers g pieces after h
covers g kind bytes after (IsToken.template_head pieces _ h) = head_covers g pieces after h
covers g kind bytes after (IsToken.template_middle pieces _ is h) = middle_covers g pieces after is h
covers g kind bytes after (IsToken.template_tail pieces _ is h) = tail_covers g pieces after is h
covers g kind bytes after (IsToken.regular_expression body flags _ is some star h more) = regexp_covers g body flags after is some star h more

-- ---- from what is read to the token

is_figure : ℕ → Bool
is_figure b = is_digit b || eqb b 46

figure_first : (b : ℕ) (rest : List ℕ) → starts_number (b ∷ rest) ≡ true → is_figure b ≡ true
unfolding is_figure
figure_first b rest h = elim (or_cases (is_digit b) _ h) [ inl e ↦ or_left _ _ e | inr e ↦ or_right (is_digit b) _ (and_parts _ _ e).0 ]

differs : (b c : ℕ) → is_figure b ≡ true → is_figure c ≡ false → eqb b c ≡ false
differs b c h none = ne_eqb b c (λ e. both_ways (is_figure c) none (subst (λ x. is_figure x ≡ true) e h))

token_number : (g : Goal) (text : List ℕ) → starts_number text ≡ true → token g text ≡ number text
unfolding token is_figure
token_number g [] h = cc
token_number g (b ∷ rest) h =
    let f = figure_first b rest h in
    rw (differs b 47 f refl, differs b 125 f refl, differs b 96 f refl, differs b 34 f refl, differs b 39 f refl, h) refl

number_some : (text : List ℕ) (p : Kind × ℕ) → number text ≡ Some p → numeric text ≡ p
unfolding number
number_some text p h = go (is_digit (slice_index (drop (numeric text).1 text) 0) || nat_lt 0 (identifier_start (drop (numeric text).1 text))) h
  where
    go : (t : Bool) → cond t None (Some (numeric text)) ≡ Some p → numeric text ≡ p
    go true e = cc
    go false e = cc

token_reads : (g : Goal) (text : List ℕ) (p : Kind × ℕ) → token g text ≡ Some p → reads g text ≡ Some p
token_reads g text p h = go (starts_number text) refl
  where
    go : (t : Bool) → starts_number text ≡ t → cond t (Some (numeric text)) (token g text) ≡ Some p
    go true is = ap Some (number_some text p (sym (token_number g text is) ∙ h))
    go false is = h

same_taken : (p q : Kind × ℕ) → Some p ≡ Some q → p ≡ q
same_taken p q e = cc

none_is_longer : (g : Goal) (text : List ℕ) (p : Kind × ℕ) → token g text ≡ Some p → NoneIsLonger g text p.1
none_is_longer g text p h kind bytes after is stands =
    let c = covers g kind bytes after stands in
    let same : c.taken ≡ p = same_taken _ _ (sym c.is ∙ ap (reads g) (sym is) ∙ token_reads g text p h) in
    subst (λ (x : Kind × ℕ). length bytes ≤ x.1) same c.long

pub next_longest : (contents : List ℕ) (at : ℕ) (g : Goal) (t : Token) → next contents at g ≡ Ok t → IsLongest g contents t
next_longest contents at g t h =
    let f = found contents at g t h in
    let from = at + skipped contents at in
    let moved : token_text contents at ≡ drop (token_start contents at) contents = drop-drop (gap (drop from contents)) from contents in
    subst (λ (x : Token). IsLongest g contents x) (sym f.2)
    (let size : token_start contents at + f.0.1 - token_start contents at ≡ f.0.1 = omega arith in
    let longest : NoneIsLonger g (drop (token_start contents at) contents) f.0.1 = subst (λ x. NoneIsLonger g x f.0.1) moved (none_is_longer g (token_text contents at) f.0 f.1) in
    subst (λ n. NoneIsLonger g (drop (token_start contents at) contents) n) (sym size) longest)

-- ---- where no token is read

number_none : (text : List ℕ) → number text ≡ None → ends_before (drop (numeric text).1 text) ≡ false
unfolding number
number_none text h = go (is_digit (slice_index (drop (numeric text).1 text) 0) || nat_lt 0 (identifier_start (drop (numeric text).1 text))) h
  where
    go : (t : Bool) → cond t None (Some (numeric text)) ≡ None → not t ≡ false
    go true e = refl
    go false e = cc

not_at_end : (g : Goal) (text : List ℕ) → token g text ≡ None → 0 < length text
unfolding token
not_at_end g [] h = cc
not_at_end g (b ∷ rest) h = omega arith

-- the literal at the front is a number
literal_of : (text : List ℕ) → starts_number text ≡ true → Number text (numeric text)
literal_of [] h = cc
literal_of (b ∷ rest) h = numeric_number b rest h

no_token : (g : Goal) (text : List ℕ) → token g text ≡ None → (kind : Kind) (bytes after : List ℕ) → text ≡ bytes ++ after → IsToken g kind bytes after → NoneIsLonger g text (length bytes)
    → (starts_number text ≡ true) × (ends_before after ≡ false)
no_token g text h kind bytes after is stands longest =
    let c = covers g kind bytes after stands in
    go c.taken c.long (starts_number text) refl (ap (reads g) is ∙ c.is)
  where
    go : (p : Kind × ℕ) → length bytes ≤ p.1 → (t : Bool) → starts_number text ≡ t → cond t (Some (numeric text)) (token g text) ≡ Some p → (starts_number text ≡ true) × (ends_before after ≡ false)
    go p l true starts e =
        let same : length bytes ≤ (numeric text).1 = subst (λ (x : Kind × ℕ). length bytes ≤ x.1) (sym (same_taken _ _ e)) l in
        let n = literal_of text starts in
        let most = longest (numeric text).0 n.bytes n.after n.split (IsToken.number (numeric text).0 n.bytes n.after n.numeric) in
        let all : length bytes ≡ (numeric text).1 = omega (arith, same, most, n.size) in
        let behind : drop (numeric text).1 text ≡ after = ap (drop (numeric text).1) is ∙ drop_at bytes after _ all in
        (starts, ap ends_before (sym behind) ∙ number_none text (sym (token_number g text starts) ∙ h))
    go p l false starts e = let bad : None ≡ Some p = sym h ∙ e in cc

unplaced : (start : ℕ) (line : Bool) (piece : Piece) (at : ℕ) → placed start line piece ≡ Err at → (start ≡ at) × (piece ≡ None)
unplaced start line None at h = (cc, refl)
unplaced start line (Some p) at h = cc

pub next_refused : (contents : List ℕ) (at : ℕ) (g : Goal) (place : ℕ) → next contents at g ≡ Err place → IsNoToken g contents place
next_refused contents at g place h =
    let from = at + skipped contents at in
    let u = unplaced (token_start contents at) (token_line contents at) (token g (token_text contents at)) place (sym (next_is contents at g) ∙ h) in
    let moved : token_text contents at ≡ drop place contents = drop-drop (gap (drop from contents)) from contents ∙ ap (λ n. drop n contents) u.0 in
    let none : token g (drop place contents) ≡ None = ap (token g) (sym moved) ∙ u.1 in
    let some = not_at_end g (drop place contents) none in
    (omega (arith, some, length-drop place contents), no_token g (drop place contents) none)

-- ---- the token that is read is one

number_ends : (text : List ℕ) (p : Kind × ℕ) → number text ≡ Some p → ends_before (drop (numeric text).1 text) ≡ true
unfolding number
number_ends text p h = go (is_digit (slice_index (drop (numeric text).1 text) 0) || nat_lt 0 (identifier_start (drop (numeric text).1 text))) h
  where
    go : (t : Bool) → cond t None (Some (numeric text)) ≡ Some p → not t ≡ true
    go true e = cc
    go false e = refl

end_is : (g : Goal) (p : Kind × ℕ) → token g [] ≡ Some p → p.0 ≡ k.End
unfolding token
end_is g p h = cc

spelled : (g : Goal) (text : List ℕ) (p : Kind × ℕ) → token g text ≡ Some p → p.0 ≢ k.End → Stands g text p
unfolding AllStand
spelled g [] p h some = absurd (some (end_is g p h))
spelled g (b ∷ rest) p h some = token_stands g b rest p h

ends_behind : (g : Goal) (text : List ℕ) (p : Kind × ℕ) → token g text ≡ Some p → (bytes after : List ℕ) → text ≡ bytes ++ after → length bytes ≡ p.1 → starts_number text ≡ true → ends_before after ≡ true
ends_behind g text p h bytes after is size starts =
    let number_is : number text ≡ Some p = sym (token_number g text starts) ∙ h in
    let same : (numeric text).1 ≡ p.1 = ap (λ (x : Kind × ℕ). x.1) (number_some text p number_is) in
    let behind : drop (numeric text).1 text ≡ after = ap (drop (numeric text).1) is ∙ drop_at bytes after _ (size ∙ sym same) in
    ap ends_before (sym behind) ∙ number_ends text p number_is

pub next_spelled : (contents : List ℕ) (at : ℕ) (g : Goal) (t : Token) → next contents at g ≡ Ok t → t.kind ≢ k.End → IsTokenAt g contents t
next_spelled contents at g t h some =
    let f = found contents at g t h in
    let from = at + skipped contents at in
    let kind_is : t.kind ≡ f.0.0 = ap (λ (x : Token). x.kind) f.2 in
    let s = spelled g (token_text contents at) f.0 f.1 (λ e. some (kind_is ∙ e)) in
    let moved : token_text contents at ≡ drop (token_start contents at) contents = drop-drop (gap (drop from contents)) from contents in
    subst (λ (x : Token). IsTokenAt g contents x) (sym f.2) (
      s.bytes,
      s.after,
      sym moved ∙ s.split,
      (let size = s.size in omega (arith, size)),
      s.stands,
      λ starts. ends_behind g (token_text contents at) f.0 f.1 s.bytes s.after s.split s.size (ap starts_number moved ∙ starts),
    )
