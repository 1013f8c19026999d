-- With which tokens expressions begin, and which end them, as statements ask for it.
use Rattle.std.proofs.Common.{◌≡◌, ◌⊎◌, inl, inr, ℕ, Bool, true, false, not, ◌&&◌, ◌||◌, cond, if◌then◌else◌, List, refl, ap, sym, ◌∙◌}
use Rattle.esb_token.specs.declared.kind.Kind.{Kind}
use Rattle.esb_token.specs.declared.kind.Kind.TheVariants as k
use Rattle.esb_token.specs.declared.token.Token.{Token}
use Rattle.esb_tree.specs.declared.classes.ClassElement.TheOpen.{Expression-F}
use Rattle.esb_tree.specs.declared.expressions.Expression.{Expression, out-Expression, out-roll-Expression}
use Rattle.esb_tree.specs.declared.expressions.Expression.TheVariants as e
use Rattle.esb_tree.specs.Operators.{level_of, is_assignment}
use Rattle.esb_tree.specs.Trees.{written}
use Rattle.esb_tree.specs.Yields.{tokens_of_expression}
use Rattle.esb_grammar.specs.declared.context.Context.{Context}
use Rattle.esb_grammar.specs.Edges.{ends_assignment}
use Rattle.esb_grammar.specs.Grammar.{loosest, IsAssignment, IsExpression}
use Rattle.esb_grammar.specs.Kinds.{begins_link, goes_on, is_assign, is_binding, is_comma, is_function, is_left_brace, is_let, is_name, is_star, is_update}
use Rattle.esb_grammar.specs.Semicolons.{ends_with, expression_goes_on}
use Rattle.esb_grammar.specs.Words.{is_word}
use Rattle.esb_grammar.proofs.EdgeLines.{ends_Primary}
use Rattle.esb_operator_laws.specs.Ends.{is_within}
use Rattle.esb_operator_laws.specs.Postfix.{ends_postfix}
use Rattle.esb_operator_laws.proofs.TokenTests.{or_left, or_right, and_both, and_left}
use Rattle.esb_first_tokens.specs.First.{shows, begins_value}
use Rattle.esb_first_tokens.specs.First as first
use Rattle.esb_first_tokens.proofs.Firsts.{value_begins, expression_begins}
use Rattle.esb_assignment_laws.specs.Values.{is_question, is_arrow, anywhere, ends_by, ends_value}
use Rattle.esb_last_tokens.proofs.Edges.{postfix_of}
use Rattle.esb_last_tokens.proofs.Ending.{by_edges, next_line_ends, kind_ends}
use Rattle.esb_statement_laws.specs.Marks.{begins_expression, ends_expression, is_in, is_of}
use Rattle.esb_statement_laws.specs.Handed.{Begins}
use Rattle.esb_value_laws.specs.Commas as comma
use Rattle.esb_value_laws.specs.Lets.{let_layer, is_let_word, ends_with_let}

pub or_cases : (a b : Bool) → (a || b) ≡ true → (a ≡ true) ⊎ (b ≡ true)
or_cases true b h = inl refl
or_cases false b h = inr h

-- what ends an AssignmentExpression, and a name behind `let`
abbrev pub ends_value_with_let : Context → Expression → Token → Bool
ends_value_with_let c x t = ends_value c x t || (is_let_word x && is_binding t.kind)

-- ---- first tokens

begins_one : (c : Context) (kind : Kind) → begins_value c kind ≡ true → begins_expression kind ≡ true
begins_one c k.Yield h = refl
begins_one c k.Await h = refl
begins_one c _ h = h

begins : (c : Context) (ts : List Token) → first.Begins (begins_value c) ts → Begins begins_expression ts
begins c ts b = record { first = b.first; rest = b.rest; is = b.is; kind = begins_one c b.first.kind b.kind }

pub value_first : (text : List ℕ) (c : Context) (x : Expression) → IsAssignment text c x → Begins begins_expression (tokens_of_expression written x)
value_first text c x h = begins c (tokens_of_expression written x) (value_begins text h)

pub expression_first : (text : List ℕ) (c : Context) (x : Expression) → IsExpression text c x → Begins begins_expression (tokens_of_expression written x)
expression_first text c x h = begins c (tokens_of_expression written x) (expression_begins text h)

-- ---- `let`

let_word : (t : Token) → is_let_word (e.Primary t) ≡ is_let t.kind
unfolding is_let_word
let_word t = ap let_layer (ap out-Expression (sym (e.rolls-Primary t)) ∙ out-roll-Expression (Expression-F.Primary t))

brace_plain : (has_in p l : Bool) (kind : Kind) → is_left_brace kind ≡ true
    → ((p || not ((begins_link kind || (is_function kind && l)) || (is_update kind && l))) && not (is_within loosest (level_of has_in kind))) && not (is_question kind || (is_assignment kind || (l && (is_arrow kind || is_binding kind)))) ≡ true
brace_plain has_in true true k.LeftBrace h = refl
brace_plain has_in true false k.LeftBrace h = refl
brace_plain has_in false true k.LeftBrace h = refl
brace_plain has_in false false k.LeftBrace h = refl
brace_plain has_in p l _ h = cc

brace_ends : (c : Context) (t u : Token) → is_left_brace u.kind ≡ true → ends_value c (e.Primary t) u ≡ true
brace_ends c t u h = ap (λ a. ends_by c a (ends_postfix (e.Primary t)) u) (ends_Primary t) ∙ brace_plain c.has_in (ends_postfix (e.Primary t)) (not u.after_line) u.kind h

brace_no_comma : (kind : Kind) → is_left_brace kind ≡ true → not (is_comma kind) ≡ true
brace_no_comma k.Comma h = cc
brace_no_comma _ h = refl

is_let_there : (t u : Token) → t.kind ≡ k.Let → is_binding u.kind ≡ true → (is_let_word (e.Primary t) && is_binding u.kind) ≡ true
is_let_there t u h g = and_both _ _ (let_word t ∙ ap is_let h) g

pub let_value_ends : (c : Context) (t u : Token) → t.kind ≡ k.Let → is_binding u.kind || is_left_brace u.kind ≡ true → ends_value_with_let c (e.Primary t) u ≡ true
let_value_ends c t u h g = by_case (or_cases (is_binding u.kind) (is_left_brace u.kind) g)
  where
    by_case : (is_binding u.kind ≡ true) ⊎ (is_left_brace u.kind ≡ true) → ends_value_with_let c (e.Primary t) u ≡ true
    by_case (inl name) = or_right (ends_value c (e.Primary t) u) _ (is_let_there t u h name)
    by_case (inr brace) = or_left _ _ (brace_ends c t u brace)

pub let_ends : (c : Context) (t u : Token) → t.kind ≡ k.Let → is_binding u.kind || is_left_brace u.kind ≡ true → ends_with_let c (e.Primary t) u ≡ true
let_ends c t u h g = by_case (or_cases (is_binding u.kind) (is_left_brace u.kind) g)
  where
    by_case : (is_binding u.kind ≡ true) ⊎ (is_left_brace u.kind ≡ true) → ends_with_let c (e.Primary t) u ≡ true
    by_case (inl name) = or_right (comma.ends_expression c (e.Primary t) u) _ (is_let_there t u h name)
    by_case (inr brace) = or_left _ _ (and_both _ _ (brace_ends c t u brace) (brace_no_comma u.kind brace))

-- ---- what ends each

pub value_closes : (c : Context) (x : Expression) (t : Token) → ends_expression t.kind ≡ true → ends_value_with_let c x t ≡ true
value_closes c x t h = or_left _ _ (kind_ends c x t (or_left _ _ h))

closes_no_comma : (kind : Kind) → ends_expression kind ≡ true → not (is_comma kind) ≡ true
closes_no_comma k.Comma h = cc
closes_no_comma _ h = refl

pub closes : (c : Context) (x : Expression) (t : Token) → ends_expression t.kind ≡ true → ends_with_let c x t ≡ true
closes c x t h = or_left _ _ (and_both _ _ (kind_ends c x t (or_left _ _ h)) (closes_no_comma t.kind h))

-- ---- the next line

pub value_next_line : (text : List ℕ) (c : Context) (x : Expression) (t : Token) → IsAssignment text c x → t.after_line ≡ true → expression_goes_on x t ≡ false → ends_value_with_let c x t ≡ true
value_next_line text c x t good line none = or_left _ _ (next_line_ends text c x t good line none)

goes_no_comma : (a u : Bool) (kind : Kind) → (if a then is_comma kind else (if u then goes_on kind && not (begins_link kind) else goes_on kind)) ≡ false → not (is_comma kind) ≡ true
goes_no_comma true u k.Comma h = cc
goes_no_comma false true k.Comma h = cc
goes_no_comma false false k.Comma h = cc
goes_no_comma a u _ h = refl

pub next_line : (text : List ℕ) (c : Context) (x : Expression) (t : Token) → IsExpression text c x → t.after_line ≡ true → expression_goes_on x t ≡ false → ends_with_let c x t ≡ true
unfolding expression_goes_on
next_line text c x t good line none =
    let update = ends_with is_update (tokens_of_expression written x) in
    or_left _ _ (and_both _ _ (by_edges c (ends_assignment x) (ends_postfix x) update t line none (λ block last. postfix_of text good block last)) (goes_no_comma (ends_assignment x) update t.kind none))

-- ---- the heads of a `for`

in_all : (a p l : Bool)
    → cond a (not (l && (is_star k.In || shows (begins_value anywhere) k.In))) (((p || not ((begins_link k.In || (is_function k.In && l)) || (is_update k.In && l))) && not (is_within loosest (level_of false k.In))) && not (is_question k.In || (is_assignment k.In || (l && (is_arrow k.In || is_binding k.In))))) ≡ true
in_all true p true = refl
in_all true p false = refl
in_all false true true = refl
in_all false true false = refl
in_all false false true = refl
in_all false false false = refl

in_kind : (a p l : Bool) (kind : Kind) → kind ≡ k.In
    → cond a (not (l && (is_star kind || shows (begins_value anywhere) kind))) (((p || not ((begins_link kind || (is_function kind && l)) || (is_update kind && l))) && not (is_within loosest (level_of false kind))) && not (is_question kind || (is_assignment kind || (l && (is_arrow kind || is_binding kind))))) ≡ true
in_kind a p l kind h =
    ap (λ z. cond a (not (l && (is_star z || shows (begins_value anywhere) z))) (((p || not ((begins_link z || (is_function z && l)) || (is_update z && l))) && not (is_within loosest (level_of false z))) && not (is_question z || (is_assignment z || (l && (is_arrow z || is_binding z)))))) h
    ∙ in_all a p l

pub in_ends : (c : Context) (x : Expression) (t : Token) → t.kind ≡ k.In → ends_with_let (record c { has_in = false }) x t ≡ true
in_ends c x t h = or_left _ _ (and_both _ _ (in_kind (ends_assignment x) (ends_postfix x) (not t.after_line) t.kind h) (ap (λ z. not (is_comma z)) h))

in_no_sign : (kind : Kind) → is_in kind ≡ true → not (is_assign kind) ≡ true
in_no_sign k.Assign h = cc
in_no_sign _ h = refl

name_binds : (kind : Kind) → is_name kind ≡ true → is_binding kind ≡ true
name_binds k.Name h = refl
name_binds _ h = cc

name_no_sign : (kind : Kind) → is_name kind ≡ true → not (is_assign kind) ≡ true
name_no_sign k.Assign h = cc
name_no_sign _ h = refl

word_name : (text : List ℕ) (t : Token) → is_of text t ≡ true → is_name t.kind ≡ true
unfolding is_word
word_name text t h = and_left (is_name t.kind) _ h

pub of_binds : (text : List ℕ) (t : Token) → is_of text t ≡ true → is_binding t.kind ≡ true
of_binds text t h = name_binds t.kind (word_name text t h)

pub middle_no_sign : (text : List ℕ) (t : Token) → is_in t.kind || is_of text t ≡ true → not (is_assign t.kind) ≡ true
middle_no_sign text t h = by_case (or_cases (is_in t.kind) (is_of text t) h)
  where
    by_case : (is_in t.kind ≡ true) ⊎ (is_of text t ≡ true) → not (is_assign t.kind) ≡ true
    by_case (inl word) = in_no_sign t.kind word
    by_case (inr word) = name_no_sign t.kind (word_name text t word)
