-- Printed text reads as the tokens that it was printed of.
use Rattle.std.proofs.Common.{◌≡◌, ℕ, Bool, true, false, cond, eqb, List, [], ◌∷◌, ◌++◌, drop, slice_index, Some, None, refl, sym, ap, ◌∙◌, subst, append_assoc, append-nil}
use Rattle.std.specs.List.{flat_map}
use Rattle.esb_token.specs.declared.kind.Kind.{Kind}
use Rattle.esb_token.specs.declared.token.Token.{Token}
use Rattle.esb_token.specs.Goals.{goal_of}
use Rattle.esb_token.specs.Gaps.{gap_has_line, separator}
use Rattle.esb_token.specs.Tokens.{skipped, SpelledBetween, IsAtEnd}
use Rattle.esb_print.specs.Gaps.{has_gap}
use Rattle.esb_print.specs.Lines.{spelling, gap, rest_of_line, line, text_of}
use Rattle.esb_print.specs.Again.{AreTokens, FollowWell, ArePrintable, AreAlikeOnLine, AreLinesAlike, joined, PrintedIsRead}
use Rattle.esb_print.proofs.Wide.{Whole, utf8-whole}
use Rattle.esb_print.proofs.Behind.{Kept}
use Rattle.esb_print.proofs.Firsts.{Next, gap-next, quiet_follows}
use Rattle.esb_print.proofs.Placing.{Printed, token-printed, all_blank, blank_append, no_line, space-no_line, read_at, read-there, read-end, behind-it, its-bytes, kept-no_hash, nothing-skipped}

-- ---- what is read of the rest of a line, and of lines

record Lines (contents text : List ℕ) (at : ℕ) (lines : List (List Token)) : Type 0 where
  read : List (List Token)
  to : ℕ
  spelled : SpelledBetween text at (joined read) to
  ended : IsAtEnd text to
  alike : AreLinesAlike contents lines text read

record Rest (contents text : List ℕ) (at : ℕ) (tokens : List Token) (lines : List (List Token)) : Type 0 where
  here : List Token
  read : List (List Token)
  to : ℕ
  spelled : SpelledBetween text at (here ++ joined read) to
  ended : IsAtEnd text to
  alike : AreAlikeOnLine contents tokens text here
  later : AreLinesAlike contents lines text read

-- what stands behind a token of a line may follow it
line_next : (contents : List ℕ) (p : Token) (tokens : List Token) (more : List ℕ) → Whole contents → AreTokens contents tokens → FollowWell (p ∷ tokens) → Next p.kind (rest_of_line contents (Some p.kind) tokens ++ more)
line_next contents p [] more whole are well = record { first = 10; rest = more; is = refl; fits = quiet_follows p.kind 10 refl }
line_next contents p (n ∷ tokens) more whole are well =
    let b = (token-printed contents n whole are.0).begins in
    let later = rest_of_line contents (Some n.kind) tokens in
    let split : rest_of_line contents (Some p.kind) (n ∷ tokens) ++ more ≡ gap (Some p.kind) n.kind ++ b.first ∷ (b.rest ++ (later ++ more)) =
    append_assoc (gap (Some p.kind) n.kind) (spelling contents n ++ later) more ∙ ap (λ x. gap (Some p.kind) n.kind ++ x) (append_assoc (spelling contents n) later more ∙ ap (λ x. x ++ (later ++ more)) b.is) in
    let next_one = gap-next p.kind n.kind b.first (b.rest ++ (later ++ more)) well.0 b.fits in
    record { first = next_one.first; rest = next_one.rest; is = split ∙ next_one.is; fits = next_one.fits }

-- so it is read
printed_kept : (contents : List ℕ) (p : Token) (tokens : List Token) (more : List ℕ) → Whole contents → Printed contents p → AreTokens contents tokens → FollowWell (p ∷ tokens)
    → Kept (goal_of p.kind) p.kind (spelling contents p) (rest_of_line contents (Some p.kind) tokens ++ more)
printed_kept contents p tokens more whole printed are well =
    let n = line_next contents p tokens more whole are well in
    subst (λ x. Kept (goal_of p.kind) p.kind (spelling contents p) x) (sym n.is) (printed.keeps n.first n.rest n.fits)

gap_blank : (p n : Kind) → all_blank (gap (Some p) n) ≡ true
unfolding gap
gap_blank p n = by (has_gap p n)
  where
    by : (t : Bool) → all_blank (cond t (32 ∷ []) []) ≡ true
    by true = refl
    by false = refl

gap_on_line : (p n : Kind) (x : List ℕ) → separator x ≡ 0 → gap_has_line (gap (Some p) n ++ x) ≡ false
unfolding gap
gap_on_line p n x solid = by (has_gap p n)
  where
    by : (t : Bool) → gap_has_line (cond t (32 ∷ []) [] ++ x) ≡ false
    by true = space-no_line x solid
    by false = no_line x solid

well_behind : (p n : Token) (tokens : List Token) → FollowWell (p ∷ n ∷ tokens) → FollowWell (n ∷ tokens)
well_behind p n tokens well = well.1

rest_read : (contents text : List ℕ) → Whole contents → ((at : ℕ) → skipped text at ≡ 0) → (p : Token) (tokens : List Token) (lines : List (List Token)) (at : ℕ) (more : List ℕ) → AreTokens contents tokens → FollowWell (p ∷ tokens)
    → drop at text ≡ rest_of_line contents (Some p.kind) tokens ++ more → ((to : ℕ) → drop to text ≡ 10 ∷ more → Lines contents text to lines) → Rest contents text at tokens lines
rest_read contents text whole begun p [] lines at more are well here later =
    let l = later at here in
    record { here = []; read = l.read; to = l.to; spelled = l.spelled; ended = l.ended; alike = tt; later = l.alike }
rest_read contents text whole begun p (n ∷ tokens) lines at more are well here later =
    let sep = gap (Some p.kind) n.kind in
    let bytes = spelling contents n in
    let z = rest_of_line contents (Some n.kind) tokens ++ more in
    let printed = token-printed contents n whole are.0 in
    let onward = well_behind p n tokens well in
    let kept = printed_kept contents n tokens more whole printed are.1 onward in
    let split : drop at text ≡ sep ++ (bytes ++ z) = here ∙ append_assoc sep (bytes ++ rest_of_line contents (Some n.kind) tokens) more ∙ ap (λ x. sep ++ x) (append_assoc bytes (rest_of_line contents (Some n.kind) tokens) more) in
    let u = read_at at sep n.kind bytes (gap_has_line (sep ++ (bytes ++ z))) in
    let r = rest_read contents text whole begun n tokens lines u.end more are.1 onward (behind-it text at sep bytes z split) later in
    record {
      here = u ∷ r.here;
      read = r.read;
      to = r.to;
      spelled = (read-there text at (goal_of n.kind) n.kind sep bytes z (begun at) split (gap_blank p.kind n.kind) kept, printed.some, r.spelled);
      ended = r.ended;
      alike = ((refl, its-bytes text at sep bytes z split), gap_on_line p.kind n.kind (bytes ++ z) kept.solid, r.alike);
      later = r.later;
    }

first_line : (contents : List ℕ) (t : Token) (tokens : List Token) (more : List ℕ) → rest_of_line contents None (t ∷ tokens) ++ more ≡ spelling contents t ++ (rest_of_line contents (Some t.kind) tokens ++ more)
unfolding gap
first_line contents t tokens more = append_assoc (spelling contents t) (rest_of_line contents (Some t.kind) tokens) more

lines_read : (contents text : List ℕ) → Whole contents → ((at : ℕ) → skipped text at ≡ 0) → (lines : List (List Token)) (at : ℕ) (sep : List ℕ) → ArePrintable contents lines → all_blank sep ≡ true
    → drop at text ≡ sep ++ flat_map (rest_of_line contents None) lines → Lines contents text at lines
lines_read contents text whole begun [] at sep are blank here =
    record { read = []; to = at; spelled = refl; ended = read-end text at sep (begun at) (here ∙ append-nil sep) blank; alike = tt }
lines_read contents text whole begun ([] ∷ lines) at sep are blank here =
    let l = lines_read contents text whole begun lines at (sep ++ 10 ∷ []) are.2 (blank_append sep (10 ∷ []) blank refl) (here ∙ sym (append_assoc sep (10 ∷ []) (flat_map (rest_of_line contents None) lines))) in
    record { read = [] ∷ l.read; to = l.to; spelled = l.spelled; ended = l.ended; alike = (tt, l.alike) }
lines_read contents text whole begun ((t ∷ tokens) ∷ lines) at sep are blank here =
    let bytes = spelling contents t in
    let more = flat_map (rest_of_line contents None) lines in
    let z = rest_of_line contents (Some t.kind) tokens ++ more in
    let printed = token-printed contents t whole are.0.0 in
    let kept = printed_kept contents t tokens more whole printed are.0.1 are.1 in
    let split : drop at text ≡ sep ++ (bytes ++ z) = here ∙ ap (λ x. sep ++ x) (first_line contents t tokens more) in
    let u = read_at at sep t.kind bytes (gap_has_line (sep ++ (bytes ++ z))) in
    let r = rest_read contents text whole begun t tokens lines u.end more are.0.1 are.1 (behind-it text at sep bytes z split) (λ to behind. lines_read contents text whole begun lines to (10 ∷ []) are.2 refl behind) in
    record {
      read = (u ∷ r.here) ∷ r.read;
      to = r.to;
      spelled = (read-there text at (goal_of t.kind) t.kind sep bytes z (begun at) split blank kept, printed.some, r.spelled);
      ended = r.ended;
      alike = (((refl, its-bytes text at sep bytes z split), r.alike), r.later);
    }

-- ---- the theorem

no_hash : (contents : List ℕ) (lines : List (List Token)) → Whole contents → ArePrintable contents lines → eqb (slice_index (flat_map (rest_of_line contents None) lines) 0) 35 ≡ false
unfolding gap
no_hash contents [] whole are = refl
no_hash contents ([] ∷ lines) whole are = refl
no_hash contents ((t ∷ tokens) ∷ lines) whole are =
    let printed = token-printed contents t whole are.0.0 in
    let b = printed.begins in
    let kept = printed_kept contents t tokens [] whole printed are.0.1 are.1 in
    let first : slice_index ((spelling contents t ++ rest_of_line contents (Some t.kind) tokens) ++ flat_map (rest_of_line contents None) lines) 0 ≡ b.first = ap (λ x. slice_index ((x ++ rest_of_line contents (Some t.kind) tokens) ++ flat_map (rest_of_line contents None) lines) 0) b.is in
    ap (λ x. eqb x 35) first ∙ kept-no_hash _ _ _ _ b.rest b.first b.is kept

pub printed-is_read : PrintedIsRead
unfolding text_of line
printed-is_read contents lines utf8 are =
    let whole = utf8-whole contents utf8 in
    let text = flat_map (rest_of_line contents None) lines in
    let l = lines_read contents text whole (nothing-skipped text (no_hash contents lines whole are)) lines 0 [] are refl refl in
    (l.read, (l.to, l.spelled, l.ended), l.alike)
