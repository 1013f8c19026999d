-- Expressions with commas (ECMA-262, 12.16), over a reader of AssignmentExpressions.
use Rattle.std.specs.Prelude.{ℕ, Bool, not, ◌&&◌, List}
use Rattle.esb_token.specs.declared.kind.Kind.TheVariants as k
use Rattle.esb_token.specs.declared.token.Token.{Token}
use Rattle.esb_tree.specs.declared.expressions.Expression.{Expression}
use Rattle.esb_tree.specs.declared.expressions.Expression.TheVariants as e
use Rattle.esb_tree.specs.declared.expressions.Operand.{Operand}
use Rattle.esb_grammar.specs.declared.context.Context.{Context}
use Rattle.esb_grammar.specs.Kinds.{is_comma}
use Rattle.esb_reader.specs.declared.node.Node.{Node}
use Rattle.esb_reader.specs.Places.{Text}
use Rattle.esb_reader.specs.Reader.{Reader}
use Rattle.esb_reader.specs.Parts.{token, both, made, many, chain}
use Rattle.esb_expression_laws.specs.Operators.{make_operand}
use Rattle.esb_assignment_laws.specs.Values.{ends_value}

abbrev pub begins_comma : Token → Bool
begins_comma t = is_comma t.kind

-- What ends an Expression: it ends the last value, and is no comma.
abbrev pub ends_expression : Context → Expression → Token → Bool
ends_expression c x t = ends_value c x t && not (begins_comma t)

unfoldable pub comma_operand : Text → Reader (Node Expression) → Reader (Node Operand)
comma_operand text value = made make_operand 0 (both (token text k.Comma) value)

unfoldable pub comma_operands : Text → Reader (Node Expression) → Reader (Node (List Operand))
comma_operands text value = many text begins_comma (comma_operand text value)

-- a value, or several with commas between them as one node, within n levels
unfoldable pub expression : Text → ℕ → Reader (Node Expression) → Reader (Node Expression)
expression text n value = chain n e.Binary value (comma_operands text value)
