-- Conditional expressions and assignments behind a first operand (ECMA-262, 12.6 to 12.15).
use Rattle.std.specs.Prelude.{ℕ}
use Rattle.esb_tree.specs.declared.expressions.Expression.{Expression}
use Rattle.esb_grammar.specs.declared.context.Context.{Context}
use Rattle.esb_grammar.specs.Contexts.{inside}
use Rattle.esb_grammar.specs.Grammar.{loosest}
use Rattle.esb_reader.specs.declared.node.Node.{Node}
use Rattle.esb_reader.specs.Places.{Text}
use Rattle.esb_reader.specs.Reader.{Reader}
use Rattle.esb_operator_laws.specs.Ladder.{ladder}
use Rattle.esb_assignment_laws.specs.Assignments.{chosen, assigned}

-- Operators, a choice and an assignment within n levels. What `first` reads is the first operand, `unary` reads the others, and
-- `value` reads in a context what is chosen and assigned.
unfoldable pub valued : Text → ℕ → Context → Reader (Node Expression) → (Context → Reader (Node Expression)) → Reader (Node Expression) → Reader (Node Expression)
valued text n c unary value first = assigned text n (chosen text n (ladder text n c unary first loosest) (value (inside c)) (value c)) (value c)
