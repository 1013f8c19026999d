-- Expressions over what is handed in are read exactly.
use Rattle.std.proofs.Common.{◌≡◌, ◌⊎◌, inl, inr, ℕ, suc, ◌≤◌, Bool, true, false, not, ◌&&◌, ◌||◌, cond, List, refl, arith}
use Rattle.esb_token.specs.declared.kind.Kind.{Kind}
use Rattle.esb_token.specs.declared.kind.Kind.TheVariants as k
use Rattle.esb_token.specs.declared.token.Token.{Token}
use Rattle.esb_tree.specs.declared.expressions.Expression.{Expression}
use Rattle.esb_tree.specs.declared.statements.Statement.{Statement}
use Rattle.esb_tree.specs.Operators.{level_of, is_assignment}
use Rattle.esb_grammar.specs.declared.context.Context.{Context}
use Rattle.esb_grammar.specs.declared.form.Form.{Form}
use Rattle.esb_grammar.specs.declared.form.Form.TheVariants as f
use Rattle.esb_grammar.specs.Contexts.{inside, of_arrow}
use Rattle.esb_grammar.specs.Edges.{ends_assignment}
use Rattle.esb_grammar.specs.Forms.{takes_value}
use Rattle.esb_grammar.specs.Grammar.{loosest, IsPrimary, IsLeftHandSide, IsAssignment, IsExpression}
use Rattle.esb_grammar.specs.Kinds.{begins_link, is_binding, is_comma, is_function, is_right_brace, is_star, is_update}
use Rattle.esb_reader.specs.declared.node.Node.{Node}
use Rattle.esb_reader.specs.Places.{Text}
use Rattle.esb_reader.specs.Reader.{Reader}
use Rattle.esb_reader.specs.Stands.{Rule}
use Rattle.esb_expression_laws.specs.Laws.{ReadsValues, lists}
use Rattle.esb_expression_laws.specs.Leaves.{expressions}
use Rattle.esb_expression_laws.specs.Lists.{ends_element, is_closer, bracketed}
use Rattle.esb_expression_laws.proofs.ElementLists.{brackets_rule}
use Rattle.esb_operator_laws.specs.Ends.{is_within}
use Rattle.esb_operator_laws.specs.Postfix.{ends_postfix}
use Rattle.esb_operator_laws.proofs.TokenTests.{and_both}
use Rattle.esb_first_tokens.specs.First.{begins_value, shows}
use Rattle.esb_first_tokens.proofs.Seen.{value_is_no_end}
use Rattle.esb_access_laws.specs.Access.{ends_access}
use Rattle.esb_access_laws.specs.Laws.{ReadsParts, templates, ends_primary, is_right_bracket, is_right_parenthesis}
use Rattle.esb_assignment_laws.specs.Values.{anywhere, is_arrow, is_question, ends_value}
use Rattle.esb_literal_laws.specs.Laws.{ReadsWithin, ReadsBodies, ReadsHeads}
use Rattle.esb_literal_laws.proofs.ClassParts.{class_rule}
use Rattle.esb_literal_laws.proofs.Forks.{fewer_rule}
use Rattle.esb_literal_laws.proofs.FunctionParts.{function_rule}
use Rattle.esb_literal_laws.proofs.MethodParts.{block_rule}
use Rattle.esb_literal_laws.proofs.ObjectParts.{object_rule}
use Rattle.esb_literal_laws.proofs.TemplateParts.{template_rule}
use Rattle.esb_value_laws.specs.Commas.{ends_expression}
use Rattle.esb_value_laws.specs.Handed as read
use Rattle.esb_value_laws.specs.Handed.{ExactBelow}
use Rattle.esb_value_laws.specs.Laws.{HandedRule}
use Rattle.esb_value_laws.specs.Levels.{ReadsAll}
use Rattle.esb_value_laws.specs.Lets.{ends_with_let}
use Rattle.esb_value_laws.proofs.CommaRules.{comma_ends}
use Rattle.esb_value_laws.proofs.LevelRules.{whole_rule, whole_expression_rule, left_within}
use Rattle.esb_value_laws.proofs.PrimaryRules.{primary_rule}

-- ---- tokens that close a list

closing_kind : (has_in a p l : Bool) (kind : Kind) → is_closer kind ≡ true
    → cond a (not (l && (is_star kind || shows (begins_value anywhere) kind))) (((p || not ((begins_link kind || (is_function kind && l)) || (is_update kind && l))) && not (is_within loosest (level_of has_in kind))) && not (is_question kind || (is_assignment kind || (l && (is_arrow kind || is_binding kind))))) ≡ true
closing_kind has_in true p true k.RightParenthesis h = refl
closing_kind has_in true p false k.RightParenthesis h = refl
closing_kind has_in false true true k.RightParenthesis h = refl
closing_kind has_in false true false k.RightParenthesis h = refl
closing_kind has_in false false true k.RightParenthesis h = refl
closing_kind has_in false false false k.RightParenthesis h = refl
closing_kind has_in true p true k.RightBracket h = refl
closing_kind has_in true p false k.RightBracket h = refl
closing_kind has_in false true true k.RightBracket h = refl
closing_kind has_in false true false k.RightBracket h = refl
closing_kind has_in false false true k.RightBracket h = refl
closing_kind has_in false false false k.RightBracket h = refl
closing_kind has_in true p true k.RightBrace h = refl
closing_kind has_in true p false k.RightBrace h = refl
closing_kind has_in false true true k.RightBrace h = refl
closing_kind has_in false true false k.RightBrace h = refl
closing_kind has_in false false true k.RightBrace h = refl
closing_kind has_in false false false k.RightBrace h = refl
closing_kind has_in a p l _ h = cc

closer_ends : (c : Context) (x : Expression) (t : Token) → is_closer t.kind ≡ true → ends_value c x t ≡ true
closer_ends c x t h = closing_kind c.has_in (ends_assignment x) (ends_postfix x) (not t.after_line) t.kind h

closer_no_comma : (kind : Kind) → is_closer kind ≡ true → not (is_comma kind) ≡ true
closer_no_comma k.Comma h = cc
closer_no_comma _ h = refl

closes_expression : (c : Context) (x : Expression) (t : Token) → is_closer t.kind ≡ true → ends_expression c x t ≡ true
closes_expression c x t h = and_both _ _ (closer_ends c x t h) (closer_no_comma t.kind h)

element_ends : (c : Context) (x : Expression) (t : Token) → ends_element t ≡ true → ends_value c x t ≡ true
element_ends c x t h = by_case (either (is_comma t.kind) (is_closer t.kind) h)
  where
    either : (a b : Bool) → (a || b) ≡ true → (a ≡ true) ⊎ (b ≡ true)
    either true b h = inl refl
    either false b h = inr h

    by_case : (is_comma t.kind ≡ true) ⊎ (is_closer t.kind ≡ true) → ends_value c x t ≡ true
    by_case (inl e) = comma_ends c x t e
    by_case (inr e) = closer_ends c x t e

bracket_closes : (kind : Kind) → is_right_bracket kind ≡ true → is_closer kind ≡ true
bracket_closes k.RightBracket h = refl
bracket_closes _ h = cc

parenthesis_closes : (kind : Kind) → is_right_parenthesis kind ≡ true → is_closer kind ≡ true
parenthesis_closes k.RightParenthesis h = refl
parenthesis_closes _ h = cc

brace_closes : (kind : Kind) → is_right_brace kind ≡ true → is_closer kind ≡ true
brace_closes k.RightBrace h = refl
brace_closes _ h = cc

-- ---- the parts

module _ (text : Text) (one many heads : Context → ℕ → Reader (Node Expression)) (items : Context → ℕ → Reader (Node (List Statement))) (n : ℕ) (r : ExactBelow text one many heads items n) where
  pub values_within : (m : ℕ) → m ≤ n → ReadsWithin text m one
  values_within m within = record { rule = λ c l low. fewer_rule text (expressions (IsAssignment text c)) l l (ends_value c) (λ _. ends_element) (one c l) (r.one_read c l (omega (arith, within, low))) (λ x t good h. element_ends c x t h) }

  pub bodies_within : (m : ℕ) → m ≤ n → ReadsBodies text m items
  bodies_within m within = record { rule = λ c l low. r.items_read c l (omega (arith, within, low)) }

  pub heads_within : (m : ℕ) → m ≤ n → ReadsHeads text m heads
  heads_within m within = record { rule = λ c l low. r.heads_read c l (omega (arith, within, low)) }

  module _ (c : Context) where
    in_list : (m : ℕ) → m ≤ n → ReadsValues text c m (one (inside c) m)
    in_list m within = record {
      rule = fewer_rule text (expressions (IsAssignment text (inside c))) m m (ends_value (inside c)) (λ _. ends_element) (one (inside c) m) (r.one_read (inside c) m within) (λ x t good h. element_ends (inside c) x t h);
      shows = λ x i j good h. value_is_no_end text (inside c) x i j good h;
    }

    list_of : (form : Form) (m : ℕ) → m ≤ n → takes_value form ≡ true → Rule text (lists text form c) m m (λ _ _. true) (bracketed text form (one (inside c) m))
    list_of form m within takes = brackets_rule text form c m (one (inside c) m) takes (in_list m within)

    template_read : (m : ℕ) → m ≤ n → Rule text (templates text c) m m (λ _ _. true) (read.template_of text one many heads items c m)
    unfolding read.template_of
    template_read m within =
        template_rule text c m (many (inside c) m)
        (fewer_rule text (expressions (IsExpression text (inside c))) m m (ends_expression (inside c)) (λ _ t. is_right_brace t.kind) (many (inside c) m) (r.many_read (inside c) m within) (λ x t good h. closes_expression (inside c) x t (brace_closes t.kind h)))

    primary_read : (m : ℕ) → m ≤ n → Rule text (expressions (IsPrimary text c)) m (suc m) (λ _. ends_primary) (read.primary_of text one many heads items c m)
    unfolding read.primary_of
    primary_read m within =
        primary_rule text c m _ _ _ (read.template_of text one many heads items c m) _ _
        (list_of f.Values m within refl) (list_of f.Array m within refl)
        (object_rule text one items c m (values_within m within) (bodies_within m within))
        (template_read m within)
        (function_rule text one items false m (values_within m within) (bodies_within m within))
        (class_rule text one heads items false c m (values_within m within) (bodies_within m within) (heads_within m within))

    parts_read : (m : ℕ) → m ≤ n → ReadsParts text c m (read.primary_of text one many heads items c m) (read.arguments_of text one many heads items c m) (read.template_of text one many heads items c m) (read.brackets_of text one many heads items c m) (one (inside c) m)
    unfolding read.arguments_of read.brackets_of
    parts_read m within = record {
      primaries = primary_read m within;
      lists_of = list_of f.Arguments m within refl;
      templates_of = template_read m within;
      inner = fewer_rule text (expressions (IsExpression text (inside c))) m m (ends_expression (inside c)) (λ _ t. is_right_bracket t.kind) (many (inside c) m) (r.many_read (inside c) m within) (λ x t good h. closes_expression (inside c) x t (bracket_closes t.kind h));
      imported = fewer_rule text (expressions (IsAssignment text (inside c))) m m (ends_value (inside c)) (λ _ t. is_right_parenthesis t.kind) (one (inside c) m) (r.one_read (inside c) m within) (λ x t good h. closer_ends (inside c) x t (parenthesis_closes t.kind h));
    }

    pub all_read : ReadsAll text c (read.primary_of text one many heads items c) (read.arguments_of text one many heads items c) (read.template_of text one many heads items c) (read.brackets_of text one many heads items c) one (read.block_of text one many heads items c) n
    unfolding read.block_of
    all_read = record {
      parts = parts_read;
      values = λ d. r.one_read d n (omega arith);
      bodies_of = λ is_async_body. block_rule text one items c n (values_within n (omega arith)) (bodies_within n (omega arith)) (inside (of_arrow c is_async_body));
    }

    left_read : Rule text (expressions (IsLeftHandSide text c)) n (suc n) (ends_access true) (read.left_of text one many heads items c n)
    unfolding read.left_of
    left_read = left_within text c (read.primary_of text one many heads items c) (read.arguments_of text one many heads items c) (read.template_of text one many heads items c) (read.brackets_of text one many heads items c) one (read.block_of text one many heads items c) n all_read n (omega arith)

    assignment_read : Rule text (expressions (IsAssignment text c)) n (suc n) (ends_value c) (read.assignment_of text one many heads items c n)
    unfolding read.assignment_of
    assignment_read = whole_rule text c (read.primary_of text one many heads items c) (read.arguments_of text one many heads items c) (read.template_of text one many heads items c) (read.brackets_of text one many heads items c) one (read.block_of text one many heads items c) n all_read

    expression_read : Rule text (expressions (IsExpression text c)) n (suc n) (ends_with_let c) (read.expression_of text one many heads items c n)
    unfolding read.expression_of read.assignment_of
    expression_read = whole_expression_rule text c (read.primary_of text one many heads items c) (read.arguments_of text one many heads items c) (read.template_of text one many heads items c) (read.brackets_of text one many heads items c) one (read.block_of text one many heads items c) n all_read

pub handed_rule : HandedRule
handed_rule text one many heads items n r c = (left_read text one many heads items n r c, assignment_read text one many heads items n r c, expression_read text one many heads items n r c)
