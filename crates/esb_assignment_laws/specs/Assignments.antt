-- Choices and assignments (ECMA-262, 12.14 and 12.15), over readers of AssignmentExpressions one level down.
use Rattle.std.specs.Prelude.{ℕ, Bool, true}
use Rattle.esb_token.specs.declared.kind.Kind.TheVariants as k
use Rattle.esb_token.specs.declared.token.Token.{Token}
use Rattle.esb_token.specs.declared.goal.Goal.TheVariants as goal
use Rattle.esb_tree.specs.declared.expressions.Expression.{Expression}
use Rattle.esb_tree.specs.declared.expressions.Expression.TheVariants as e
use Rattle.esb_tree.specs.Operators.{is_assignment}
use Rattle.esb_reader.specs.declared.node.Node.{Node}
use Rattle.esb_reader.specs.Places.{Text}
use Rattle.esb_reader.specs.Reader.{Reader}
use Rattle.esb_reader.specs.Parts.{token, token_in, both}
use Rattle.esb_operator_laws.specs.Suffixes.{extended}
use Rattle.esb_assignment_laws.specs.Values.{is_question, is_left}

abbrev pub begins_question : Token → Bool
begins_question t = is_question t.kind

abbrev pub begins_assignment : Token → Bool
begins_assignment t = is_assignment t.kind

abbrev pub make_choice : Expression → (Token × Expression) × (Token × Expression) → Expression
make_choice test p = e.Conditional test p.0.0 p.0.1 p.1.0 p.1.1

abbrev pub make_assignment : Expression → Token × Expression → Expression
make_assignment target p = e.Assignment target p.0 p.1

-- what `test` reads, and maybe `?` and its two branches: `inner` reads the first, where `in` is an operator, and `value` the other
unfoldable pub chosen : Text → ℕ → Reader (Node Expression) → Reader (Node Expression) → Reader (Node Expression) → Reader (Node Expression)
chosen text n test inner value = extended text n make_choice begins_question (λ _. true) test (λ _. both (both (token text k.Question) inner) (both (token text k.Colon) value))

-- what `target` reads, and maybe an operator and the value that is assigned to it
unfoldable pub assigned : Text → ℕ → Reader (Node Expression) → Reader (Node Expression) → Reader (Node Expression)
assigned text n target value = extended text n make_assignment begins_assignment is_left target (λ _. both (token_in text goal.Div begins_assignment) value)
