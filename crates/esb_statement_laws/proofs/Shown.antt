-- The token that is seen where a node stands.
use Rattle.std.proofs.Common.{◌≡◌, ◌≢◌, ◌⊎◌, inl, inr, ℕ, Bool, true, false, ◌||◌, List, ◌∷◌, Ok, refl, ap, sym, ◌∙◌, subst}
use Rattle.esb_token.specs.declared.kind.Kind.{Kind}
use Rattle.esb_token.specs.declared.kind.Kind.TheVariants as k
use Rattle.esb_token.specs.declared.token.Token.{Token}
use Rattle.esb_token.specs.declared.goal.Goal.{Goal}
use Rattle.esb_token.specs.declared.goal.Goal.TheVariants as goal
use Rattle.esb_token.specs.Goals.{goal_of, is_division}
use Rattle.esb_token.specs.Tokens.{SpelledBetween, next}
use Rattle.esb_token.proofs.TokenKinds.{found, reg_exp-is_division}
use Rattle.esb_grammar.specs.Kinds.{is_semicolon, is_right_brace, is_end}
use Rattle.esb_reader.specs.Kinds.{agrees}
use Rattle.esb_reader.specs.Places.{Text}
use Rattle.esb_reader.specs.Parts.{behind}
use Rattle.esb_reader.proofs.Agreeing.{seen, next_is_read}
use Rattle.esb_statement_laws.specs.Marks.{begins_expression, begins_statement, begins_item, returns_nothing}
use Rattle.esb_statement_laws.proofs.Followed.{sees}

-- whether a line terminator stands before a token is the same under each goal
same_line : (text : Text) (i : ℕ) (g h : Goal) (t u : Token) → next text i g ≡ Ok t → next text i h ≡ Ok u → t.after_line ≡ u.after_line
same_line text i g h t u a b = ap (λ (x : Token). x.after_line) (found text i g t a).2 ∙ sym (ap (λ (x : Token). x.after_line) (found text i h u b).2)

-- What is seen where a token stands with which an expression begins: the token, or a `/` on the same line.
abbrev pub Shown : Text → ℕ → Token → Type 0
Shown text i t = (behind text i ≡ t) ⊎ ((t.kind ≡ k.RegExp) × (is_division (behind text i).kind ≡ true) × ((behind text i).after_line ≡ t.after_line))

agrees_or : (kind : Kind) → begins_statement kind ≡ true → (agrees goal.Div kind ≡ true) ⊎ (kind ≡ k.RegExp)
agrees_or k.End h = cc
agrees_or k.RegExp h = inr refl
agrees_or k.TemplateMiddle h = cc
agrees_or k.TemplateTail h = cc
agrees_or _ h = inl refl

division_no_end : (kind : Kind) → is_division kind ≡ true → kind ≢ k.End
division_no_end kind h e = let bad : false ≡ true = ap is_division (sym e) ∙ h in cc

pub shown : (text : Text) (i : ℕ) (t : Token) (ts : List Token) (j : ℕ) → SpelledBetween text i (t ∷ ts) j → begins_statement t.kind ≡ true → Shown text i t
shown text i t ts j h begins = by_kind (agrees_or t.kind begins)
  where
    by_kind : (agrees goal.Div t.kind ≡ true) ⊎ (t.kind ≡ k.RegExp) → Shown text i t
    by_kind (inl same) = inl (sees text i t ts j h same)
    by_kind (inr e) =
        let here : next text i goal.RegExp ≡ Ok t = subst (λ kind. next text i (goal_of kind) ≡ Ok t) e h.0 in
        let slash = reg_exp-is_division text i t here e in
        let there = seen text goal.Div i slash.0 (next_is_read text goal.Div i slash.0 slash.1 (division_no_end slash.0.kind slash.2)) in
        inr (e, ap (λ (x : Token). is_division x.kind) there ∙ slash.2, ap (λ (x : Token). x.after_line) there ∙ same_line text i goal.Div goal.RegExp slash.0 t slash.1 here)

-- ---- what follows from it

pub statement_begins : (kind : Kind) → begins_expression kind ≡ true → begins_statement kind ≡ true
statement_begins k.Var h = refl
statement_begins k.Semicolon h = refl
statement_begins k.If h = refl
statement_begins k.Do h = refl
statement_begins k.While h = refl
statement_begins k.For h = refl
statement_begins k.Continue h = refl
statement_begins k.Break h = refl
statement_begins k.Return h = refl
statement_begins k.Switch h = refl
statement_begins k.Throw h = refl
statement_begins k.Try h = refl
statement_begins k.Debugger h = refl
statement_begins k.Const h = refl
statement_begins _ h = h

pub line_shown : (text : Text) (i : ℕ) (t : Token) → Shown text i t → (behind text i).after_line ≡ t.after_line
line_shown text i t (inl e) = ap (λ (x : Token). x.after_line) e
line_shown text i t (inr h) = h.2

first_begins_item : (kind : Kind) → begins_statement kind ≡ true → begins_item kind ≡ true
first_begins_item k.RightBrace h = cc
first_begins_item k.Case h = cc
first_begins_item k.Default h = cc
first_begins_item k.End h = cc
first_begins_item k.Else h = cc
first_begins_item k.Colon h = cc
first_begins_item k.Catch h = cc
first_begins_item k.Finally h = cc
first_begins_item _ h = refl

division_begins_item : (kind : Kind) → is_division kind ≡ true → begins_item kind ≡ true
division_begins_item k.Slash h = refl
division_begins_item k.SlashAssign h = refl
division_begins_item _ h = cc

pub item_shown : (text : Text) (i : ℕ) (t : Token) → Shown text i t → begins_statement t.kind ≡ true → begins_item (behind text i).kind ≡ true
item_shown text i t (inl e) h = ap (λ (x : Token). begins_item x.kind) e ∙ first_begins_item t.kind h
item_shown text i t (inr s) h = division_begins_item _ s.1

abbrev returns_kind : Kind → Bool
returns_kind kind = is_semicolon kind || (is_right_brace kind || is_end kind)

first_returns : (kind : Kind) → begins_expression kind ≡ true → returns_kind kind ≡ false
first_returns k.Semicolon h = cc
first_returns k.RightBrace h = cc
first_returns k.End h = cc
first_returns _ h = refl

division_returns : (kind : Kind) → is_division kind ≡ true → returns_kind kind ≡ false
division_returns k.Semicolon h = cc
division_returns k.RightBrace h = cc
division_returns k.End h = cc
division_returns _ h = refl

or_both : (a b : Bool) → a ≡ false → b ≡ false → (a || b) ≡ false
or_both false b h g = g
or_both true b h g = cc

pub value_shown : (text : Text) (i : ℕ) (t : Token) → Shown text i t → begins_expression t.kind ≡ true → t.after_line ≡ false → returns_nothing (behind text i) ≡ false
value_shown text i t (inl e) h line = ap returns_nothing e ∙ or_both _ _ line (first_returns t.kind h)
value_shown text i t (inr s) h line = or_both _ _ (s.2 ∙ line) (division_returns _ s.1)
