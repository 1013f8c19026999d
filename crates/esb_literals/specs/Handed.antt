-- What is handed in, as the readers of literals take it.
use Rattle.std.specs.Prelude.{ℕ, Bool, true, false}
use Rattle.esb_tree.specs.declared.expressions.Expression.{Expression}
use Rattle.esb_grammar.specs.declared.context.Context.{Context}
use Rattle.esb_reader.specs.declared.node.Node.{Node}
use Rattle.esb_reader.specs.Places.{Text}
use Rattle.esb_reader.specs.Reader.{Reader}
use Rattle.esb_inner.specs.Inner.{below}

-- AssignmentExpressions within the levels below a number
unfoldable pub values : (Bool → Context → Text → ℕ → Reader (Node Expression)) → Text → Context → ℕ → Reader (Node Expression)
values read text c n = below (read false c) text n

-- Expressions within the levels below a number
unfoldable pub expressions : (Bool → Context → Text → ℕ → Reader (Node Expression)) → Text → Context → ℕ → Reader (Node Expression)
expressions read text c n = below (read true c) text n
