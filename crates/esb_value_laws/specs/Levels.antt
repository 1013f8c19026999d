-- AssignmentExpressions over readers of what stands in them, each of which is told how many levels there may be.
use Rattle.std.specs.Prelude.{ℕ, ◌≤◌, Bool, true}
use Rattle.esb_tree.specs.declared.expressions.Expression.{Expression}
use Rattle.esb_tree.specs.declared.expressions.Substitutions.{Substitutions}
use Rattle.esb_tree.specs.declared.functions.ConciseBody.{ConciseBody}
use Rattle.esb_tree.specs.declared.patterns.Bracketed.{Bracketed}
use Rattle.esb_tree.specs.declared.statements.Block.{Block}
use Rattle.esb_grammar.specs.declared.context.Context.{Context}
use Rattle.esb_grammar.specs.Contexts.{inside, of_arrow}
use Rattle.esb_grammar.specs.Grammar.{loosest, IsAssignment}
use Rattle.esb_reader.specs.declared.node.Node.{Node}
use Rattle.esb_reader.specs.Places.{Text}
use Rattle.esb_reader.specs.Reader.{Reader}
use Rattle.esb_reader.specs.Stands.{Rule}
use Rattle.esb_expression_laws.specs.Leaves.{expressions}
use Rattle.esb_operator_laws.specs.Ladder.{binary}
use Rattle.esb_operator_laws.specs.Unary.{unary}
use Rattle.esb_access_laws.specs.Access.{left}
use Rattle.esb_access_laws.specs.Laws.{ReadsParts}
use Rattle.esb_assignment_laws.specs.Assignments.{chosen}
use Rattle.esb_literal_laws.specs.Laws.{blocks}
use Rattle.esb_assignment_laws.specs.Values.{ends_value}
use Rattle.esb_value_laws.specs.Bodies.{concise}
use Rattle.esb_value_laws.specs.Covers.{covers_parameters}
use Rattle.esb_value_laws.specs.Whole.{value}

-- `primary`, `arguments`, `template` and `many` read PrimaryExpressions, Arguments, templates and the Expressions in brackets, `one` AssignmentExpressions
-- one level down, and `block` the blocks of arrow functions.
module _ (text : Text) (c : Context) (primary : ℕ → Reader (Node Expression)) (arguments : ℕ → Reader (Node Bracketed)) (template : ℕ → Reader (Node Substitutions)) (many : ℕ → Reader (Node Expression)) (one : Context → ℕ → Reader (Node Expression)) (block : Context → ℕ → Reader (Node Block)) where
  unfoldable pub conditional : ℕ → Reader (Node Expression)
  conditional n = chosen text n (binary text n c (unary text c (left text primary arguments template many (one (inside c)) true) n) loosest) (one (inside c) n) (one c n)

  unfoldable pub arrow_body : ℕ → Bool → Reader (Node ConciseBody)
  arrow_body n is_async_body = concise text (block (inside (of_arrow c is_async_body)) n) (one (of_arrow c is_async_body) n)

  unfoldable pub assignment : ℕ → Reader (Node Expression)
  assignment n = value text c n (conditional n) (one c n) (arguments n) (arrow_body n) (covers_parameters n)

  -- what these owe within n levels
  pub record ReadsAll (n : ℕ) : Type 0 where
    pub parts : (m : ℕ) → m ≤ n → ReadsParts text c m (primary m) (arguments m) (template m) (many m) (one (inside c) m)
    pub values : (d : Context) → Rule text (expressions (IsAssignment text d)) n n (ends_value d) (one d n)
    pub bodies_of : (is_async_body : Bool) → Rule text (blocks text (inside (of_arrow c is_async_body))) n n (λ _ _. true) (block (inside (of_arrow c is_async_body)) n)
