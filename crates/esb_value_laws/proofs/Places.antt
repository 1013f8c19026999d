-- What is seen at the first places of a node, and what ends it.
use Rattle.std.proofs.Common.{◌≡◌, ◌≢◌, ◌⊎◌, inl, inr, ℕ, Bool, true, false, not, List, ◌∷◌, Ok, refl, ap, sym, ◌∙◌, subst}
use Rattle.esb_token.specs.declared.kind.Kind.{Kind}
use Rattle.esb_token.specs.declared.kind.Kind.TheVariants as k
use Rattle.esb_token.specs.declared.token.Token.{Token}
use Rattle.esb_token.specs.declared.goal.Goal.{Goal}
use Rattle.esb_token.specs.declared.goal.Goal.TheVariants as goal
use Rattle.esb_token.specs.Goals.{goal_of, is_division}
use Rattle.esb_token.specs.Tokens.{SpelledBetween, next}
use Rattle.esb_token.proofs.TokenKinds.{found, reg_exp-is_division}
use Rattle.esb_tree.specs.declared.expressions.Expression.{Expression}
use Rattle.esb_tree.specs.Trees.{written}
use Rattle.esb_tree.specs.Yields.{tokens_of_expression}
use Rattle.esb_grammar.specs.declared.context.Context.{Context}
use Rattle.esb_grammar.specs.Grammar.{IsAssignment}
use Rattle.esb_grammar.specs.Words.{on_line}
use Rattle.esb_reader.specs.Kinds.{agrees}
use Rattle.esb_reader.specs.Places.{Text}
use Rattle.esb_reader.specs.Parts.{behind}
use Rattle.esb_reader.proofs.Agreeing.{seen, next_is_read, reg_exp-shows_slash}
use Rattle.esb_first_tokens.specs.First.{begins_value}
use Rattle.esb_first_tokens.proofs.Firsts.{value_begins}
use Rattle.esb_literal_laws.specs.Forks.{second, on_one_line}
use Rattle.esb_literal_laws.proofs.Seen.{sees}
use Rattle.esb_assignment_laws.specs.Values.{ends_by}

-- what ends a node ends one that ends in the same way
pub ends_same : (c : Context) (t : Token) {a b p q : Bool} → a ≡ b → p ≡ q → ends_by c a p t ≡ true → ends_by c b q t ≡ true
ends_same c t {a} {b} {p} {q} e f h = ap (λ z. ends_by c z q t) (sym e) ∙ (ap (λ z. ends_by c a z t) (sym f) ∙ h)

-- ---- the first tokens

-- the token behind the first is seen from the end of the first
pub second_at : (text : Text) (i : ℕ) (t : Token) (ts : List Token) (j : ℕ) → SpelledBetween text i (t ∷ ts) j → agrees goal.Div t.kind ≡ true → second text i ≡ behind text t.end
second_at text i t ts j h same = ap (λ (v : Token). behind text v.end) (sees text i t ts j h same)

pub second_seen : (text : Text) (i : ℕ) (t u : Token) (ts : List Token) (j : ℕ) → SpelledBetween text i (t ∷ (u ∷ ts)) j → agrees goal.Div t.kind ≡ true → agrees goal.Div u.kind ≡ true → second text i ≡ u
second_seen text i t u ts j h first same = second_at text i t (u ∷ ts) j h first ∙ sees text t.end u ts j h.2 same

-- ---- lines

-- whether a line terminator stands before a token is the same under each goal
same_line : (text : Text) (i : ℕ) (g h : Goal) (t u : Token) → next text i g ≡ Ok t → next text i h ≡ Ok u → t.after_line ≡ u.after_line
same_line text i g h t u a b = ap (λ (x : Token). x.after_line) (found text i g t a).2 ∙ sym (ap (λ (x : Token). x.after_line) (found text i h u b).2)

pub agrees_or : (c : Context) (kind : Kind) → begins_value c kind ≡ true → (agrees goal.Div kind ≡ true) ⊎ (kind ≡ k.RegExp)
agrees_or c k.End h = cc
agrees_or c k.RegExp h = inr refl
agrees_or c k.TemplateMiddle h = cc
agrees_or c k.TemplateTail h = cc
agrees_or c _ h = inl refl

division_no_end : (kind : Kind) → is_division kind ≡ true → kind ≢ k.End
division_no_end kind h e = let bad : false ≡ true = ap is_division (sym e) ∙ h in cc

first_line : (text : Text) (i : ℕ) (t : Token) (ts : List Token) (j : ℕ) → SpelledBetween text i (t ∷ ts) j → (agrees goal.Div t.kind ≡ true) ⊎ (t.kind ≡ k.RegExp) → (behind text i).after_line ≡ t.after_line
first_line text i t ts j h (inl same) = ap (λ (x : Token). x.after_line) (sees text i t ts j h same)
first_line text i t ts j h (inr e) =
    let here : next text i goal.RegExp ≡ Ok t = subst (λ kind. next text i (goal_of kind) ≡ Ok t) e h.0 in
    let slash = reg_exp-is_division text i t here e in
    let there = seen text goal.Div i slash.0 (next_is_read text goal.Div i slash.0 slash.1 (division_no_end slash.0.kind slash.2)) in
    ap (λ (x : Token). x.after_line) there ∙ same_line text i goal.Div goal.RegExp slash.0 t slash.1 here

-- where a regular expression stands, a division is seen
pub slash_seen : (text : Text) (i : ℕ) (t : Token) → next text i (goal_of t.kind) ≡ Ok t → t.kind ≡ k.RegExp → is_division (behind text i).kind ≡ true
slash_seen text i t h e = reg_exp-shows_slash text i t (subst (λ kind. next text i (goal_of kind) ≡ Ok t) e h) e

pub line_seen : (text : Text) (c : Context) (x : Expression) (i j : ℕ) → IsAssignment text c x → SpelledBetween text i (tokens_of_expression written x) j → on_one_line text i ≡ on_line (tokens_of_expression written x)
line_seen text c x i j good h =
    let b = value_begins text good in
    let spelled = subst (λ us. SpelledBetween text i us j) b.is h in
    ap not (first_line text i b.first b.rest j spelled (agrees_or c b.first.kind b.kind)) ∙ ap on_line (sym b.is)
