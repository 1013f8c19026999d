-- Expressions over what is handed in: readers one level down of AssignmentExpressions, of Expressions, of StatementLists and of LeftHandSideExpressions.
use Rattle.std.specs.Prelude.{◌≡◌, ℕ, zero, suc, ◌≤◌, true, false, List}
use Rattle.esb_tree.specs.declared.expressions.Expression.{Expression}
use Rattle.esb_tree.specs.declared.expressions.Substitutions.{Substitutions}
use Rattle.esb_tree.specs.declared.patterns.Bracketed.{Bracketed}
use Rattle.esb_tree.specs.declared.statements.Block.{Block}
use Rattle.esb_tree.specs.declared.statements.Statement.{Statement}
use Rattle.esb_grammar.specs.declared.context.Context.{Context}
use Rattle.esb_grammar.specs.declared.form.Form.TheVariants as f
use Rattle.esb_grammar.specs.Contexts.{inside}
use Rattle.esb_grammar.specs.Grammar.{IsLeftHandSide, IsAssignment, IsExpression}
use Rattle.esb_grammar.specs.Kinds.{is_left_brace, is_right_brace}
use Rattle.esb_reader.specs.declared.node.Node.{Node}
use Rattle.esb_reader.specs.Places.{Text}
use Rattle.esb_reader.specs.Reader.{Reader, fail}
use Rattle.esb_reader.specs.Stands.{Rule}
use Rattle.esb_expression_laws.specs.Leaves.{expressions}
use Rattle.esb_expression_laws.specs.Lists.{bracketed}
use Rattle.esb_access_laws.specs.Access.{left}
use Rattle.esb_literal_laws.specs.Classes.{class}
use Rattle.esb_literal_laws.specs.Functions.{function}
use Rattle.esb_literal_laws.specs.Laws.{statement_lists}
use Rattle.esb_literal_laws.specs.Methods.{block}
use Rattle.esb_literal_laws.specs.Objects.{object}
use Rattle.esb_literal_laws.specs.Templates.{template}
use Rattle.esb_assignment_laws.specs.Values.{ends_value}
use Rattle.esb_value_laws.specs.Commas.{ends_expression, expression}
use Rattle.esb_value_laws.specs.Levels.{assignment}
use Rattle.esb_value_laws.specs.Primaries.{primary}

module _ (text : Text) (one many heads : Context → ℕ → Reader (Node Expression)) (items : Context → ℕ → Reader (Node (List Statement))) where
  -- what these owe within n levels and those below
  pub record ExactBelow (n : ℕ) : Type 0 where
    pub one_read : (c : Context) (m : ℕ) → m ≤ n → Rule text (expressions (IsAssignment text c)) m m (ends_value c) (one c m)
    pub many_read : (c : Context) (m : ℕ) → m ≤ n → Rule text (expressions (IsExpression text c)) m m (ends_expression c) (many c m)
    pub heads_read : (c : Context) (m : ℕ) → m ≤ n → Rule text (expressions (IsLeftHandSide text c)) m m (λ _ t. is_left_brace t.kind) (heads c m)
    pub items_read : (c : Context) (m : ℕ) → m ≤ n → Rule text (statement_lists text c) m m (λ _ t. is_right_brace t.kind) (items c m)

  module _ (c : Context) where
    unfoldable pub arguments_of : ℕ → Reader (Node Bracketed)
    arguments_of m = bracketed text f.Arguments (one (inside c) m)

    unfoldable pub template_of : ℕ → Reader (Node Substitutions)
    template_of m = template text (many (inside c) m)

    unfoldable pub brackets_of : ℕ → Reader (Node Expression)
    brackets_of m = many (inside c) m

    unfoldable pub block_of : Context → ℕ → Reader (Node Block)
    block_of d m = block text one items d m

    unfoldable pub primary_of : ℕ → Reader (Node Expression)
    primary_of m =
        primary text c m (bracketed text f.Values (one (inside c) m)) (bracketed text f.Array (one (inside c) m)) (object text one items c m) (template_of m)
        (function text one items false m) (class text one heads items false c m)

    -- a LeftHandSideExpression, an AssignmentExpression and an Expression within a number of levels
    unfoldable pub left_of : ℕ → Reader (Node Expression)
    left_of n = left text primary_of arguments_of template_of brackets_of (one (inside c)) true n

    unfoldable pub assignment_of : ℕ → Reader (Node Expression)
    assignment_of n = assignment text c primary_of arguments_of template_of brackets_of one block_of n

    unfoldable pub expression_of : ℕ → Reader (Node Expression)
    expression_of n = expression text n (assignment_of n)

  -- Readers that read each other: nothing within no levels, and what these definitions give one level down.
  pub record Tied : Type 0 where
    pub one_none : (c : Context) → one c zero ≡ fail
    pub many_none : (c : Context) → many c zero ≡ fail
    pub heads_none : (c : Context) → heads c zero ≡ fail
    pub items_none : (c : Context) → items c zero ≡ fail
    pub one_next : (c : Context) (n : ℕ) → one c (suc n) ≡ assignment_of c n
    pub many_next : (c : Context) (n : ℕ) → many c (suc n) ≡ expression_of c n
    pub heads_next : (c : Context) (n : ℕ) → heads c (suc n) ≡ left_of c n
