-- From tokens at the front of a text to tokens at places of it.
use Rattle.std.proofs.Common.{◌≡◌, ◌≢◌, ◌⊎◌, inl, inr, ℕ, zero, suc, ◌+◌, ◌-◌, ◌<◌, Bool, true, false, cond, ◌&&◌, ◌||◌, eqb, List, [], ◌∷◌, ◌++◌, length, take, drop, slice_index, Some, None, Ok, refl, sym, ap, ◌∙◌, subst, arith, drop-drop, length-append, append_assoc, append-nil}
use Rattle.std.proofs.lemmas.List.{drop_at, take_at}
use Rattle.std.proofs.lemmas.Bool.{and_parts, and_from, or_cases, eqb-true, ne_eqb, eq-eqb, cond-true, cond-false}
use Rattle.esb_token.specs.declared.kind.Kind.{Kind}
use Rattle.esb_token.specs.declared.kind.Kind.TheVariants as k
use Rattle.esb_token.specs.declared.token.Token.{Token}
use Rattle.esb_token.specs.declared.goal.Goal.{Goal}
use Rattle.esb_token.specs.declared.goal.Goal.TheVariants as goal
use Rattle.esb_token.specs.Goals.{goal_of}
use Rattle.esb_token.specs.Runs.{run_from, run, run_any}
use Rattle.esb_token.specs.Characters.{code_point, character, at_line_end}
use Rattle.esb_token.specs.Gaps.{gap, gap_has_line, separator, has_line, comment, interpreter_line}
use Rattle.esb_token.specs.Names.{name, identifier_start}
use Rattle.esb_token.specs.Punctuators.{punctuator, operator}
use Rattle.esb_token.specs.Tokens.{token, placed, skipped, next}
use Rattle.esb_token.specs.Grammar.{punctuators}
use Rattle.esb_token.proofs.RunSteps.{run-step, run-stops, run_any-stops, run_any-step}
use Rattle.esb_token.proofs.TokenKinds.{token_start, token_text, token_line, next_is, found}
use Rattle.esb_token.proofs.Maximal.{next_spelled}
use Rattle.esb_print.specs.Lines.{between, spelling}
use Rattle.esb_print.specs.Again.{Stands, IsLeftOut}
use Rattle.esb_print.proofs.Wide.{Whole, whole-drop}
use Rattle.esb_print.proofs.Behind.{follows, Kept}
use Rattle.esb_print.proofs.Signs.{Stays, stays, entry-of}
use Rattle.esb_print.proofs.Firsts.{Begins, token-begins}
use Rattle.esb_print.proofs.Keeping.{token-keep}

-- ---- a token stands behind all white space and comments

run_ends : (part : List ℕ → ℕ) → part [] ≡ 0 → (inside : ℕ) (text : List ℕ) → part (drop (run_from part inside text) text) ≡ 0
run_ends part none inside [] = none
run_ends part none (suc inside) (b ∷ rest) = let e : 1 + run_from part inside rest ≡ suc (run_from part inside rest) = omega arith in ap (λ n. part (drop n (b ∷ rest))) e ∙ run_ends part none inside rest
run_ends part none zero (b ∷ rest) = by (λ inside. run_ends part none inside rest) (part (b ∷ rest)) refl
  where
    by : ((inside : ℕ) → part (drop (run_from part inside rest) rest) ≡ 0) → (n : ℕ) → part (b ∷ rest) ≡ n → part (drop (cond (eqb n 0) 0 (1 + run_from part (n - 1) rest)) (b ∷ rest)) ≡ 0
    by later n is = at (eqb n 0) refl
      where
        at : (t : Bool) → eqb n 0 ≡ t → part (drop (cond t 0 (1 + run_from part (n - 1) rest)) (b ∷ rest)) ≡ 0
        at true zeroth = is ∙ eqb-true n 0 zeroth
        at false more = let e : 1 + run_from part (n - 1) rest ≡ suc (run_from part (n - 1) rest) = omega arith in ap (λ m. part (drop m (b ∷ rest))) e ∙ later (n - 1)

no_separator : separator [] ≡ 0
unfolding separator comment at_line_end code_point
no_separator = refl

behind_gap : (text : List ℕ) → separator (drop (gap text) text) ≡ 0
unfolding gap run
behind_gap text = run_ends separator no_separator 0 text

start-solid : (contents : List ℕ) (at : ℕ) (g : Goal) (t : Token) → next contents at g ≡ Ok t → separator (drop t.start contents) ≡ 0
start-solid contents at g t h =
    let f = found contents at g t h in
    let from = at + skipped contents at in
    let start_is : t.start ≡ from + gap (drop from contents) = ap (λ (x : Token). x.start) f.2 in
    ap (λ n. separator (drop n contents)) start_is ∙ ap separator (sym (drop-drop (gap (drop from contents)) from contents)) ∙ behind_gap (drop from contents)

-- ---- tokens that are printed

-- a token whose spelling is read as it wherever it may be followed by what stands behind it
pub record Printed (contents : List ℕ) (t : Token) : Type 0 where
  pub some : t.kind ≢ k.End
  pub begins : Begins t.kind (spelling contents t)
  pub keeps : (d : ℕ) (z : List ℕ) → follows t.kind d ≡ true → Kept (goal_of t.kind) t.kind (spelling contents t) (d ∷ z)

spelled_out : (contents : List ℕ) (t : Token) (bytes after : List ℕ) → drop t.start contents ≡ bytes ++ after → length bytes ≡ t.end - t.start → 0 < length bytes → spelling contents t ≡ bytes
unfolding spelling
spelled_out contents t bytes after split size some =
    let apart : eqb t.start t.end ≡ false = ne_eqb t.start t.end (λ e. absurd (omega (arith, e, size, some))) in
    cond-false _ (59 ∷ []) _ apart ∙ ap (take (t.end - t.start)) split ∙ take_at bytes after (t.end - t.start) size

begins_some : (kind : Kind) (bytes : List ℕ) → Begins kind bytes → 0 < length bytes
begins_some kind bytes b = let n = ap length b.is in omega (arith, n)

stands-printed : (contents : List ℕ) (t : Token) → Whole contents → Stands contents t → Printed contents t
stands-printed contents t whole s =
    let g = goal_of t.kind in
    let spelled = next_spelled contents s.0 g t s.1 s.2 in
    let bytes = spelled.0 in
    let after = spelled.1 in
    let split : drop t.start contents ≡ bytes ++ after = spelled.2 in
    let begins = token-begins g t.kind bytes after spelled.4 in
    let is : spelling contents t ≡ bytes = spelled_out contents t bytes after split spelled.3 (begins_some t.kind bytes begins) in
    let text_whole : Whole (bytes ++ after) = subst Whole split (whole-drop t.start contents whole) in
    let solid : separator (bytes ++ after) ≡ 0 = ap separator (sym split) ∙ start-solid contents s.0 g t s.1 in
    record {
      some = s.2;
      begins = subst (λ x. Begins t.kind x) (sym is) begins;
      keeps = λ d z fits. subst (λ x. Kept g t.kind x (d ∷ z)) (sym is) (token-keep g t.kind bytes after spelled.4 text_whole solid d z fits);
    }

semicolon_keeps : (d : ℕ) (z : List ℕ) → follows k.Semicolon d ≡ true → Kept goal.Div k.Semicolon (59 ∷ []) (d ∷ z)
semicolon_keeps = entry-of Stays punctuators (59 ∷ []) k.Semicolon refl stays

left_out-spelled : (contents : List ℕ) (t : Token) → t.start ≡ t.end → spelling contents t ≡ 59 ∷ []
unfolding spelling
left_out-spelled contents t same = cond-true _ _ _ (eq-eqb t.start t.end same)

abbrev Prints : List ℕ → Kind → List ℕ → Type 0
Prints contents kind bytes = (kind ≢ k.End) × Begins kind bytes × ((d : ℕ) (z : List ℕ) → follows kind d ≡ true → Kept (goal_of kind) kind bytes (d ∷ z))

semicolon_prints : (contents : List ℕ) → Prints contents k.Semicolon (59 ∷ [])
semicolon_prints contents = (λ e. cc, record { first = 59; rest = []; is = refl; fits = refl }, semicolon_keeps)

left_out-printed : (contents : List ℕ) (t : Token) → IsLeftOut t → Printed contents t
left_out-printed contents t h =
    let p = subst (λ x. Prints contents x (spelling contents t)) (sym h.0) (subst (λ x. Prints contents k.Semicolon x) (sym (left_out-spelled contents t h.1)) (semicolon_prints contents)) in
    record { some = p.0; begins = p.1; keeps = p.2 }

pub token-printed : (contents : List ℕ) (t : Token) → Whole contents → Stands contents t ⊎ IsLeftOut t → Printed contents t
token-printed contents t whole (inl s) = stands-printed contents t whole s
token-printed contents t whole (inr h) = left_out-printed contents t h

-- ---- spaces and line feeds

abbrev is_blank : ℕ → Bool
is_blank b = eqb b 32 || eqb b 10

abbrev pub all_blank : List ℕ → Bool
all_blank [] = true
all_blank (b ∷ bs) = is_blank b && all_blank bs

pub blank_append : (xs ys : List ℕ) → all_blank xs ≡ true → all_blank ys ≡ true → all_blank (xs ++ ys) ≡ true
blank_append [] ys h g = g
blank_append (x ∷ xs) ys h g = let b = and_parts _ _ h in and_from _ _ b.0 (blank_append xs ys b.1 g)

space_one : (x : List ℕ) → separator (32 ∷ x) ≡ 1
unfolding separator at_line_end code_point character
space_one x = omega arith

feed_one : (x : List ℕ) → separator (10 ∷ x) ≡ 1
unfolding separator at_line_end code_point character
feed_one x = omega arith

blank_one : (b : ℕ) (x : List ℕ) → is_blank b ≡ true → separator (b ∷ x) ≡ 1
blank_one b x h = elim (or_cases (eqb b 32) (eqb b 10) h) [
  | inl e ↦ subst (λ c. separator (c ∷ x) ≡ 1) (sym (eqb-true b 32 e)) (space_one x)
  | inr e ↦ subst (λ c. separator (c ∷ x) ≡ 1) (sym (eqb-true b 10 e)) (feed_one x)
]

pub blank-gap : (sep x : List ℕ) → all_blank sep ≡ true → separator x ≡ 0 → gap (sep ++ x) ≡ length sep
unfolding gap
blank-gap [] x h solid = run-stops separator x solid
blank-gap (b ∷ sep) x h solid =
    let blank = and_parts _ _ h in
    let one = blank_one b (sep ++ x) blank.0 in
    let step = run-step separator (b ∷ (sep ++ x)) (omega (arith, one)) (omega (arith, one)) in
    let moved : run separator (drop (separator (b ∷ (sep ++ x))) (b ∷ (sep ++ x))) ≡ run separator (sep ++ x) = ap (λ n. run separator (drop n (b ∷ (sep ++ x)))) one in
    let later : run separator (sep ++ x) ≡ length sep = blank-gap sep x blank.1 solid in
    omega (arith, step, one, moved, later)

-- no line ends in a space
pub no_line : (x : List ℕ) → separator x ≡ 0 → gap_has_line x ≡ false
unfolding gap_has_line
no_line x solid = run_any-stops separator has_line x solid

pub space-no_line : (x : List ℕ) → separator x ≡ 0 → gap_has_line (32 ∷ x) ≡ false
unfolding gap_has_line has_line at_line_end code_point
space-no_line x solid =
    let one = space_one x in
    run_any-step separator has_line (32 ∷ x) (omega (arith, one)) (omega (arith, one))
    ∙ ap (λ n. run_any separator has_line (drop n (32 ∷ x))) one ∙ run_any-stops separator has_line x solid

-- ---- reading at a place

-- the token that is read behind some white space
abbrev pub read_at : ℕ → List ℕ → Kind → List ℕ → Bool → Token
read_at at sep kind bytes line = record { kind = kind; start = at + length sep; end = at + length sep + length bytes; after_line = line }

pub read-there : (text : List ℕ) (at : ℕ) (g : Goal) (kind : Kind) (sep bytes z : List ℕ) → skipped text at ≡ 0 → drop at text ≡ sep ++ (bytes ++ z) → all_blank sep ≡ true → Kept g kind bytes z
    → next text at g ≡ Ok (read_at at sep kind bytes (gap_has_line (sep ++ (bytes ++ z))))
read-there text at g kind sep bytes z begun here blank kept =
    let from = at + skipped text at in
    let from_is : from ≡ at = omega (arith, begun) in
    let rest : drop from text ≡ sep ++ (bytes ++ z) = ap (λ n. drop n text) from_is ∙ here in
    let size : gap (drop from text) ≡ length sep = ap gap rest ∙ blank-gap sep (bytes ++ z) blank kept.solid in
    let start : token_start text at ≡ at + length sep = omega (arith, from_is, size) in
    let line : token_line text at ≡ gap_has_line (sep ++ (bytes ++ z)) = ap gap_has_line rest in
    let front : token_text text at ≡ bytes ++ z = ap (λ n. drop n (drop from text)) size ∙ ap (drop (length sep)) rest ∙ drop_at sep (bytes ++ z) (length sep) refl in
    let read : token g (token_text text at) ≡ Some (kind, length bytes) = ap (token g) front ∙ kept.read in
    next_is text at g ∙ (λ i. placed (start i) (line i) (read i))

end_is : token goal.Div [] ≡ Some (k.End, 0)
unfolding token
end_is = refl

end_kept : Kept goal.Div k.End [] []
end_kept = record { read = end_is; solid = no_separator }

pub read-end : (text : List ℕ) (at : ℕ) (sep : List ℕ) → skipped text at ≡ 0 → drop at text ≡ sep → all_blank sep ≡ true → (t : Token) × (next text at goal.Div ≡ Ok t) × (t.kind ≡ k.End)
read-end text at sep begun here blank =
    (read_at at sep k.End [] (gap_has_line (sep ++ ([] ++ []))), read-there text at goal.Div k.End sep [] [] begun (here ∙ sym (append-nil sep)) blank end_kept, refl)

-- the text behind it
pub behind-it : (text : List ℕ) (at : ℕ) (sep bytes z : List ℕ) → drop at text ≡ sep ++ (bytes ++ z) → drop (at + length sep + length bytes) text ≡ z
behind-it text at sep bytes z here =
    let joined_up : drop at text ≡ (sep ++ bytes) ++ z = here ∙ sym (append_assoc sep bytes z) in
    let total : at + length sep + length bytes ≡ at + length (sep ++ bytes) = omega (arith, length-append sep bytes) in
    ap (λ n. drop n text) total ∙ sym (drop-drop (length (sep ++ bytes)) at text) ∙ ap (drop (length (sep ++ bytes))) joined_up ∙ drop_at (sep ++ bytes) z (length (sep ++ bytes)) refl

-- its bytes
pub its-bytes : (text : List ℕ) (at : ℕ) (sep bytes z : List ℕ) → drop at text ≡ sep ++ (bytes ++ z) → between text (at + length sep) (at + length sep + length bytes) ≡ bytes
its-bytes text at sep bytes z here =
    let moved : drop (at + length sep) text ≡ bytes ++ z = sym (drop-drop (length sep) at text) ∙ ap (drop (length sep)) here ∙ drop_at sep (bytes ++ z) (length sep) refl in
    ap (take (at + length sep + length bytes - (at + length sep))) moved ∙ take_at bytes z (at + length sep + length bytes - (at + length sep)) (omega arith)

-- ---- no first line is skipped

token_hash : (g : Goal) (x : List ℕ) → token g (35 ∷ x) ≡ None
unfolding token punctuator operator name identifier_start code_point
token_hash g x = refl

pub kept-no_hash : (g : Goal) (kind : Kind) (bytes z rest : List ℕ) (b : ℕ) → bytes ≡ b ∷ rest → Kept g kind bytes z → eqb b 35 ≡ false
kept-no_hash g kind bytes z rest b is kept =
    ne_eqb b 35 (λ e. let bad : None ≡ Some (kind, length bytes) = sym (token_hash g (rest ++ z)) ∙ ap (λ c. token g (c ∷ (rest ++ z))) (sym e) ∙ ap (λ w. token g (w ++ z)) (sym is) ∙ kept.read in cc)

pub nothing-skipped : (text : List ℕ) → eqb (slice_index text 0) 35 ≡ false → (at : ℕ) → skipped text at ≡ 0
unfolding skipped interpreter_line
nothing-skipped text other at = by (eqb at 0)
  where
    by : (t : Bool) → cond t (interpreter_line text) 0 ≡ 0
    by true = rw (other) refl
    by false = refl
