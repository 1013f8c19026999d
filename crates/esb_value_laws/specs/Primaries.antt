-- PrimaryExpressions (ECMA-262, 12.2), over readers of what stands in them.
use Rattle.std.specs.Prelude.{ℕ, Bool, not, ◌&&◌, ◌||◌}
use Rattle.esb_token.specs.declared.token.Token.{Token}
use Rattle.esb_tree.specs.declared.classes.Class.{Class}
use Rattle.esb_tree.specs.declared.expressions.Expression.{Expression}
use Rattle.esb_tree.specs.declared.expressions.Expression.TheVariants as e
use Rattle.esb_tree.specs.declared.expressions.Substitutions.{Substitutions}
use Rattle.esb_tree.specs.declared.functions.Function.{Function}
use Rattle.esb_tree.specs.declared.patterns.Bracketed.{Bracketed}
use Rattle.esb_grammar.specs.declared.context.Context.{Context}
use Rattle.esb_grammar.specs.Kinds.{is_class, is_function, is_left_brace, is_left_bracket}
use Rattle.esb_grammar.specs.Words.{is_async}
use Rattle.esb_reader.specs.declared.node.Node.{Node}
use Rattle.esb_reader.specs.Places.{Text}
use Rattle.esb_reader.specs.Reader.{Reader}
use Rattle.esb_reader.specs.Parts.{behind, above, choice}
use Rattle.esb_expression_laws.specs.Leaves.{leaf}
use Rattle.esb_access_laws.specs.Links.{is_left_parenthesis, is_head}
use Rattle.esb_literal_laws.specs.Forks.{fork, second}

abbrev pub is_function_on_line : Token → Bool
is_function_on_line t = is_function t.kind && not t.after_line

-- `function`, or `async` and it on one line
unfoldable pub at_function : Text → ℕ → Bool
at_function text i = is_function (behind text i).kind || (is_async text (behind text i) && is_function_on_line (second text i))

-- by the token in front; the readers of lists are those of their forms
module _ (text : Text) (c : Context) (n : ℕ) (values array object : Reader (Node Bracketed)) (template : Reader (Node Substitutions)) (function : Reader (Node Function)) (class : Reader (Node Class)) where
  unfoldable pub bracket_or_leaf : Reader (Node Expression)
  bracket_or_leaf =
      choice text (λ t. is_left_parenthesis t.kind) (above n e.Parenthesized values)
      (choice text (λ t. is_left_bracket t.kind) (above n e.ArrayLiteral array)
      (choice text (λ t. is_left_brace t.kind) (above n e.ObjectLiteral object)
      (choice text (λ t. is_class t.kind) (above n e.ClassExpression class)
      (choice text (λ t. is_head t.kind) (above n e.TemplateLiteral template) (leaf text c)))))

  unfoldable pub primary : Reader (Node Expression)
  primary = fork (at_function text) (above n e.FunctionExpression function) bracket_or_leaf
