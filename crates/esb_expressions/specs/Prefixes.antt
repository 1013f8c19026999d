-- What stands behind a unary operator.
use Rattle.std.specs.Prelude.{ℕ, zero, suc}
use Rattle.esb_tree.specs.declared.expressions.Expression.{Expression}
use Rattle.esb_grammar.specs.declared.context.Context.{Context}
use Rattle.esb_reader.specs.declared.node.Node.{Node}
use Rattle.esb_reader.specs.Places.{Text}
use Rattle.esb_reader.specs.Reader.{Reader, fail}
use Rattle.esb_operator_laws.specs.Unary.{unary}

-- a UnaryExpression within the levels below n
unfoldable pub unary_below : Text → Context → (ℕ → Reader (Node Expression)) → ℕ → Reader (Node Expression)
unary_below text c left zero = fail
unary_below text c left (suc n) = unary text c left n
