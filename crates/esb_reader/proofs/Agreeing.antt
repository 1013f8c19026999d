-- What is read under one goal and another.
use Rattle.std.proofs.Common.{◌≡◌, ◌≢◌, ◌⊎◌, inl, inr, ℕ, ◌≤◌, Bool, true, false, cond, nat_le, length, Some, None, Result, Ok, Err, refl, ap, sym, ◌∙◌, subst, arith}
use Rattle.std.proofs.lemmas.Grind.{common_steps}
use Rattle.esb_token.specs.declared.kind.Kind.{Kind}
use Rattle.esb_token.specs.declared.kind.Kind.TheVariants as k
use Rattle.esb_token.specs.declared.token.Token.{Token}
use Rattle.esb_token.specs.declared.goal.Goal.{Goal}
use Rattle.esb_token.specs.declared.goal.Goal.TheVariants as goal
use Rattle.esb_token.specs.Goals.{goal_of, is_other_than_slash, is_other_than_brace, is_division}
use Rattle.esb_token.specs.Tokens.{next}
use Rattle.esb_token.proofs.TokenKinds.{div-reg_exp, reg_exp-div, div-tail, tail-div, reg_exp-is_division, tail-is_brace}
use Rattle.esb_reader.specs.Kinds.{agrees}
use Rattle.esb_reader.specs.Places.{Text, if_read, or_nothing, token_at, peek}
use Rattle.esb_reader.specs.Laws.{SpelledIsRead, ReadIsSpelled, RegExpShowsSlash, TailShowsBrace}
use Rattle.esb_reader.proofs.Moves.{token-moves}

le_true : (a b : ℕ) → a ≤ b → nat_le a b ≡ true
le_true a b h = grind (arith, common_steps)

if_read_some : (r : Result Token ℕ) (t : Token) → if_read r ≡ Some t → r ≡ Ok t
if_read_some (Ok u) t h = cc
if_read_some (Err at) t h = cc

-- ---- the token at a place is the next one

pub read_is_next : (text : Text) (g : Goal) (at : ℕ) (t : Token) → token_at text g at ≡ Some t → next text at g ≡ Ok t
unfolding token_at
read_is_next text g at t h = by_test (nat_le at (length text)) h
  where
    by_test : (b : Bool) → cond b (if_read (next text at g)) None ≡ Some t → next text at g ≡ Ok t
    by_test true h = if_read_some (next text at g) t h
    by_test false h = cc

pub next_is_read : (text : Text) (g : Goal) (at : ℕ) (t : Token) → next text at g ≡ Ok t → t.kind ≢ k.End → token_at text g at ≡ Some t
unfolding token_at
next_is_read text g at t h some =
    let moves = token-moves text g at t h some in
    let within : at ≤ length text = omega (arith, moves.0, moves.1, moves.2) in
    ap (λ b. cond b (if_read (next text at g)) None) (le_true at (length text) within) ∙ ap if_read h

-- ---- by the kind

pub no_end : (g : Goal) (kind : Kind) → agrees g kind ≡ true → kind ≢ k.End
no_end g kind h e = let bad : false ≡ true = ap (agrees g) (sym e) ∙ h in cc

div_agrees : (kind : Kind) → agrees goal.Div kind ≡ true → goal_of kind ≡ goal.Div
div_agrees k.End h = cc
div_agrees k.RegExp h = cc
div_agrees k.TemplateMiddle h = cc
div_agrees k.TemplateTail h = cc
div_agrees _ h = refl

-- under RegExp a token is a regular expression, or what Div reads
reg_exp_agrees : (kind : Kind) → agrees goal.RegExp kind ≡ true → (goal_of kind ≡ goal.RegExp) ⊎ ((goal_of kind ≡ goal.Div) × (is_other_than_slash kind ≡ true))
reg_exp_agrees k.End h = cc
reg_exp_agrees k.RegExp h = inl refl
reg_exp_agrees k.Slash h = cc
reg_exp_agrees k.SlashAssign h = cc
reg_exp_agrees k.TemplateMiddle h = cc
reg_exp_agrees k.TemplateTail h = cc
reg_exp_agrees _ h = inr (refl, refl)

tail_agrees : (kind : Kind) → agrees goal.TemplateTail kind ≡ true → (goal_of kind ≡ goal.TemplateTail) ⊎ ((goal_of kind ≡ goal.Div) × (is_other_than_brace kind ≡ true))
tail_agrees k.End h = cc
tail_agrees k.RegExp h = cc
tail_agrees k.RightBrace h = cc
tail_agrees k.TemplateMiddle h = inl refl
tail_agrees k.TemplateTail h = inl refl
tail_agrees _ h = inr (refl, refl)

same_goal : (text : Text) (at : ℕ) (t : Token) (g h : Goal) → g ≡ h → next text at g ≡ Ok t → next text at h ≡ Ok t
same_goal text at t g h e r = subst (λ x. next text at x ≡ Ok t) e r

agreed : (text : Text) (g : Goal) (at : ℕ) (t : Token) → next text at (goal_of t.kind) ≡ Ok t → agrees g t.kind ≡ true → next text at g ≡ Ok t
agreed text goal.Div at t h same = same_goal text at t _ _ (div_agrees t.kind same) h
agreed text goal.RegExp at t h same = by_kind (reg_exp_agrees t.kind same)
  where
    by_kind : (goal_of t.kind ≡ goal.RegExp) ⊎ ((goal_of t.kind ≡ goal.Div) × (is_other_than_slash t.kind ≡ true)) → next text at goal.RegExp ≡ Ok t
    by_kind (inl e) = same_goal text at t _ _ e h
    by_kind (inr e) = div-reg_exp text at t (same_goal text at t _ _ e.0 h) e.1
agreed text goal.TemplateTail at t h same = by_kind (tail_agrees t.kind same)
  where
    by_kind : (goal_of t.kind ≡ goal.TemplateTail) ⊎ ((goal_of t.kind ≡ goal.Div) × (is_other_than_brace t.kind ≡ true)) → next text at goal.TemplateTail ≡ Ok t
    by_kind (inl e) = same_goal text at t _ _ e h
    by_kind (inr e) = div-tail text at t (same_goal text at t _ _ e.0 h) e.1

agreed_back : (text : Text) (g : Goal) (at : ℕ) (t : Token) → next text at g ≡ Ok t → agrees g t.kind ≡ true → next text at (goal_of t.kind) ≡ Ok t
agreed_back text goal.Div at t h same = same_goal text at t _ _ (sym (div_agrees t.kind same)) h
agreed_back text goal.RegExp at t h same = by_kind (reg_exp_agrees t.kind same)
  where
    by_kind : (goal_of t.kind ≡ goal.RegExp) ⊎ ((goal_of t.kind ≡ goal.Div) × (is_other_than_slash t.kind ≡ true)) → next text at (goal_of t.kind) ≡ Ok t
    by_kind (inl e) = same_goal text at t _ _ (sym e) h
    by_kind (inr e) = same_goal text at t _ _ (sym e.0) (reg_exp-div text at t h e.1)
agreed_back text goal.TemplateTail at t h same = by_kind (tail_agrees t.kind same)
  where
    by_kind : (goal_of t.kind ≡ goal.TemplateTail) ⊎ ((goal_of t.kind ≡ goal.Div) × (is_other_than_brace t.kind ≡ true)) → next text at (goal_of t.kind) ≡ Ok t
    by_kind (inl e) = same_goal text at t _ _ (sym e) h
    by_kind (inr e) = same_goal text at t _ _ (sym e.0) (tail-div text at t h e.1)

-- ---- the laws

pub spelled-is_read : SpelledIsRead
spelled-is_read text g at t h same = next_is_read text g at t (agreed text g at t h same) (no_end g t.kind same)

pub read-is_spelled : ReadIsSpelled
read-is_spelled text g at t h same = agreed_back text g at t (read_is_next text g at t h) same

-- what is seen where a token is read
pub seen : (text : Text) (g : Goal) (at : ℕ) (t : Token) → token_at text g at ≡ Some t → peek text g at ≡ t
unfolding peek
seen text g at t h = ap or_nothing h

division_no_end : (kind : Kind) → is_division kind ≡ true → kind ≢ k.End
division_no_end kind h e = let bad : false ≡ true = ap is_division (sym e) ∙ h in cc

brace_no_end : (kind : Kind) → kind ≡ k.RightBrace → kind ≢ k.End
brace_no_end kind h e = let bad : k.RightBrace ≡ k.End = sym h ∙ e in cc

pub reg_exp-shows_slash : RegExpShowsSlash
reg_exp-shows_slash text at t h is =
    let slash = reg_exp-is_division text at t h is in
    ap (λ (x : Token). is_division x.kind) (seen text goal.Div at slash.0 (next_is_read text goal.Div at slash.0 slash.1 (division_no_end slash.0.kind slash.2))) ∙ slash.2

pub tail-shows_brace : TailShowsBrace
tail-shows_brace text at t h is =
    let brace = tail-is_brace text at t h is in
    ap (λ (x : Token). x.kind) (seen text goal.Div at brace.0 (next_is_read text goal.Div at brace.0 brace.1 (brace_no_end brace.0.kind brace.2))) ∙ brace.2
