-- AssignmentExpressions are read exactly within a number of levels where what stands in them is.
use Rattle.std.proofs.Common.{◌≡◌, ℕ, zero, suc, ◌≤◌, Bool, true, false, not, ◌&&◌, ◌||◌, cond, Some, refl, arith}
use Rattle.esb_token.specs.declared.kind.Kind.{Kind}
use Rattle.esb_token.specs.declared.kind.Kind.TheVariants as k
use Rattle.esb_token.specs.declared.token.Token.{Token}
use Rattle.esb_tree.specs.declared.expressions.Expression.{Expression}
use Rattle.esb_tree.specs.declared.expressions.Substitutions.{Substitutions}
use Rattle.esb_tree.specs.declared.patterns.Bracketed.{Bracketed}
use Rattle.esb_tree.specs.declared.statements.Block.{Block}
use Rattle.esb_tree.specs.Operators.{level_of, is_assignment}
use Rattle.esb_grammar.specs.declared.context.Context.{Context}
use Rattle.esb_grammar.specs.declared.form.Form.TheVariants as f
use Rattle.esb_grammar.specs.Words.{is_async}
use Rattle.esb_grammar.specs.Contexts.{inside, of_arrow}
use Rattle.esb_grammar.specs.Edges.{ends_assignment}
use Rattle.esb_grammar.specs.Grammar.{loosest, IsNew, IsLeftHandSide, IsUnary, IsBinary, IsConditional, IsAssignment, IsExpression}
use Rattle.esb_grammar.specs.Kinds.{begins_link, is_binding, is_function, is_star, is_update}
use Rattle.esb_reader.specs.declared.node.Node.{Node}
use Rattle.esb_reader.specs.Places.{Text}
use Rattle.esb_reader.specs.Reader.{Reader, fail}
use Rattle.esb_reader.specs.Parts.{behind}
use Rattle.esb_reader.specs.Stands.{Stands, Rule}
use Rattle.esb_expression_laws.specs.Laws.{lists}
use Rattle.esb_expression_laws.specs.Leaves.{expressions}
use Rattle.esb_operator_laws.specs.Ends.{left_goes_on, ends_left, ends_unary, is_within}
use Rattle.esb_operator_laws.specs.Ladder.{binary}
use Rattle.esb_operator_laws.specs.Postfix.{ends_postfix}
use Rattle.esb_operator_laws.specs.Unary.{unary}
use Rattle.esb_operator_laws.proofs.Below.{none_below, rule_below}
use Rattle.esb_operator_laws.proofs.LadderRules.{binary_rule}
use Rattle.esb_operator_laws.proofs.TokenTests.{neither, neither_left, not_true, false_not}
use Rattle.esb_first_tokens.specs.First.{begins_value, shows}
use Rattle.esb_first_tokens.proofs.Seen.{left_is_no_prefix}
use Rattle.esb_access_laws.specs.Access as access
use Rattle.esb_access_laws.specs.Access.{is_new_alone, ends_access}
use Rattle.esb_access_laws.specs.Links.{is_left_parenthesis}
use Rattle.esb_access_laws.proofs.AccessRules.{accessed_rule}
use Rattle.esb_assignment_laws.specs.Values.{anywhere, is_arrow, is_colon, is_question, ends_value, ends_choice}
use Rattle.esb_literal_laws.proofs.Forks.{fewer_rule}
use Rattle.esb_value_laws.specs.Bodies.{bodies}
use Rattle.esb_value_laws.specs.Covers.{covers_parameters}
use Rattle.esb_value_laws.specs.Ends.{ends_body}
use Rattle.esb_value_laws.specs.Commas.{expression}
use Rattle.esb_value_laws.specs.Laws.{WholeRule, WholeExpressionRule, WholeBareRule}
use Rattle.esb_value_laws.specs.Lets.{ends_with_let}
use Rattle.esb_value_laws.specs.Levels as read
use Rattle.esb_value_laws.specs.Levels.{ReadsAll}
use Rattle.esb_value_laws.proofs.Assembled.{value_rule}
use Rattle.esb_assignment_laws.proofs.AssignmentRules.{choice_rule}
use Rattle.esb_value_laws.proofs.BareRules.{bare_rule, let_rule}
use Rattle.esb_value_laws.proofs.BodyRules.{body_rule}
use Rattle.esb_value_laws.proofs.CoverRules.{covers_exactly}
use Rattle.esb_value_laws.proofs.UnaryWithin.{unary_within}

-- ---- tokens

-- a colon ends each value
colon_kind : (has_in a p l : Bool) (kind : Kind) → is_colon kind ≡ true
    → cond a (not (l && (is_star kind || shows (begins_value anywhere) kind))) (((p || not ((begins_link kind || (is_function kind && l)) || (is_update kind && l))) && not (is_within loosest (level_of has_in kind))) && not (is_question kind || (is_assignment kind || (l && (is_arrow kind || is_binding kind))))) ≡ true
colon_kind has_in true p true k.Colon h = refl
colon_kind has_in true p false k.Colon h = refl
colon_kind has_in false true true k.Colon h = refl
colon_kind has_in false true false k.Colon h = refl
colon_kind has_in false false true k.Colon h = refl
colon_kind has_in false false false k.Colon h = refl
colon_kind has_in a p l _ h = cc

colon_ends : (c : Context) (x : Expression) (t : Token) → is_colon t.kind ≡ true → ends_value c x t ≡ true
colon_ends c x t h = colon_kind c.has_in (ends_assignment x) (ends_postfix x) (not t.after_line) t.kind h

no_list : (kind : Kind) → begins_link kind ≡ false → is_left_parenthesis kind ≡ false
no_list k.LeftParenthesis h = cc
no_list _ h = refl

and_not : (a b : Bool) → b ≡ false → (a && b) ≡ false
and_not true b h = h
and_not false b h = refl

left_access : (x : Expression) (t : Token) → ends_left t ≡ true → ends_access true x t ≡ true
left_access x t h =
    let none = not_true (left_goes_on t) h in
    false_not _ (neither (left_goes_on t) (is_new_alone x && is_left_parenthesis t.kind) none (and_not (is_new_alone x) (is_left_parenthesis t.kind) (no_list t.kind (neither_left (begins_link t.kind) _ none))))

-- ---- the levels

module _ (text : Text) (c : Context) (primary : ℕ → Reader (Node Expression)) (arguments : ℕ → Reader (Node Bracketed)) (template : ℕ → Reader (Node Substitutions)) (many : ℕ → Reader (Node Expression)) (one : Context → ℕ → Reader (Node Expression)) (block : Context → ℕ → Reader (Node Block)) where
  abbrev Left : Bool → ℕ → Reader (Node Expression)
  Left calls m = access.left text primary arguments template many (one (inside c)) calls m

  module _ (n : ℕ) (r : ReadsAll text c primary arguments template many one block n) where
    new_within : (m : ℕ) → m ≤ n → Rule text (expressions (IsNew text c)) m (suc m) (ends_access false) (Left false m)
    unfolding access.left
    new_within zero within = accessed_rule text c zero (primary zero) (arguments zero) (template zero) (many zero) (one (inside c) zero) (r.parts zero within) fail (none_below text (expressions (IsNew text c)) (ends_access false)) false
    new_within (suc m) within =
        accessed_rule text c (suc m) (primary (suc m)) (arguments (suc m)) (template (suc m)) (many (suc m)) (one (inside c) (suc m)) (r.parts (suc m) within) (Left false m)
        (rule_below text (expressions (IsNew text c)) m (ends_access false) (Left false m) (new_within m (omega (arith, within)))) false

    pub left_within : (m : ℕ) → m ≤ n → Rule text (expressions (IsLeftHandSide text c)) m (suc m) (ends_access true) (Left true m)
    unfolding access.left
    left_within zero within = accessed_rule text c zero (primary zero) (arguments zero) (template zero) (many zero) (one (inside c) zero) (r.parts zero within) fail (none_below text (expressions (IsNew text c)) (ends_access false)) true
    left_within (suc m) within =
        accessed_rule text c (suc m) (primary (suc m)) (arguments (suc m)) (template (suc m)) (many (suc m)) (one (inside c) (suc m)) (r.parts (suc m) within) (Left false m)
        (rule_below text (expressions (IsNew text c)) m (ends_access false) (Left false m) (new_within m (omega (arith, within)))) true

    operand_rule : Rule text (expressions (IsUnary text c)) n (suc n) ends_unary (unary text c (Left true) n)
    operand_rule =
        unary_within text c n (Left true)
        (λ m within. fewer_rule text (expressions (IsLeftHandSide text c)) m (suc m) (ends_access true) (λ _. ends_left) (Left true m) (left_within m within) (λ x t good h. left_access x t h))
        (λ x i j good h. left_is_no_prefix text c x i j good h) n (omega arith)

    conditional_rule : Rule text (expressions (IsConditional text c)) n (suc n) (ends_choice c) (read.conditional text c primary arguments template many one block n)
    unfolding read.conditional
    conditional_rule =
        choice_rule text c n (binary text n c (unary text c (Left true) n) loosest) (one (inside c) n) (one c n)
        (binary_rule text c n loosest (unary text c (Left true) n) (omega arith) operand_rule)
        (fewer_rule text (expressions (IsAssignment text (inside c))) n n (ends_value (inside c)) (λ _ t. is_colon t.kind) (one (inside c) n) (r.values (inside c)) (λ x t good h. colon_ends (inside c) x t h))
        (r.values c)

    arrow_body_rule : (is_async_body : Bool) → Rule text (bodies text (of_arrow c is_async_body)) n n (ends_body (of_arrow c is_async_body)) (read.arrow_body text c primary arguments template many one block n is_async_body)
    unfolding read.arrow_body
    arrow_body_rule is_async_body = body_rule text (of_arrow c is_async_body) n (block (inside (of_arrow c is_async_body)) n) (one (of_arrow c is_async_body) n) (r.bodies_of is_async_body) (r.values (of_arrow c is_async_body))

    lists_read : Rule text (lists text f.Arguments c) n n (λ _ _. true) (arguments n)
    lists_read = let parts = r.parts n (omega arith) in parts.lists_of

    assignment_read : Rule text (expressions (IsAssignment text c)) n (suc n) (ends_value c) (read.assignment text c primary arguments template many one block n)
    unfolding read.assignment
    assignment_read =
        value_rule text c n (read.conditional text c primary arguments template many one block n) (one c n) (arguments n) (read.arrow_body text c primary arguments template many one block n) (covers_parameters n)
        conditional_rule (r.values c) lists_read arrow_body_rule (covers_exactly text c n)

    expression_read : Rule text (expressions (IsExpression text c)) n (suc n) (ends_with_let c) (expression text n (read.assignment text c primary arguments template many one block n))
    unfolding read.assignment
    expression_read =
        let_rule text c n (read.conditional text c primary arguments template many one block n) (one c n) (arguments n) (read.arrow_body text c primary arguments template many one block n) (covers_parameters n)
        conditional_rule (r.values c) lists_read arrow_body_rule (covers_exactly text c n)

    bare_read : (i : ℕ) (x : Node Expression) (m : ℕ) → Stands text (expressions (IsBinary text loosest c)) n x i m → is_binding (behind text m).kind ≡ true → (is_async text (behind text i) && is_arrow (behind text (behind text m).end).kind) ≡ false
        → (read.assignment text c primary arguments template many one block n i ≡ Some (x, m)) × (expression text n (read.assignment text c primary arguments template many one block n) i ≡ Some (x, m))
    unfolding read.assignment
    bare_read =
        bare_rule text c n (read.conditional text c primary arguments template many one block n) (one c n) (arguments n) (read.arrow_body text c primary arguments template many one block n) (covers_parameters n)
        conditional_rule (r.values c) lists_read arrow_body_rule

pub whole_rule : WholeRule
whole_rule text c primary arguments template many one block n r = assignment_read text c primary arguments template many one block n r

pub whole_expression_rule : WholeExpressionRule
whole_expression_rule text c primary arguments template many one block n r = expression_read text c primary arguments template many one block n r

pub whole_bare_rule : WholeBareRule
whole_bare_rule text c primary arguments template many one block n r = bare_read text c primary arguments template many one block n r
