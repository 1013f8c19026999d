-- Choices and assignments are read exactly.
use Rattle.std.specs.Prelude.{◌≡◌, ℕ, suc, ◌⊎◌, true}
use Rattle.esb_token.specs.declared.token.Token.{Token}
use Rattle.esb_tree.specs.declared.expressions.Expression.{Expression}
use Rattle.esb_tree.specs.declared.expressions.Expression.TheVariants as e
use Rattle.esb_tree.specs.Operators.{is_assignment}
use Rattle.esb_grammar.specs.declared.context.Context.{Context}
use Rattle.esb_grammar.specs.Contexts.{inside}
use Rattle.esb_grammar.specs.Grammar.{loosest, IsLeftHandSide, IsBinary, IsConditional, IsAssignment}
use Rattle.esb_reader.specs.declared.node.Node.{Node}
use Rattle.esb_reader.specs.Places.{Text}
use Rattle.esb_reader.specs.Reader.{Reader}
use Rattle.esb_reader.specs.Stands.{Rule}
use Rattle.esb_expression_laws.specs.Leaves.{expressions}
use Rattle.esb_operator_laws.specs.Ends.{ends_binary}
use Rattle.esb_assignment_laws.specs.Values.{is_colon, ends_value, ends_choice}
use Rattle.esb_assignment_laws.specs.Assignments.{chosen, assigned}

-- an assignment with an operator (12.15)
pub data IsAssigned (text : Text) : Context → Expression → Type 0 where
  assigns : {c : Context} {target : Expression} {operator : Token} {x : Expression} → IsLeftHandSide text c target → is_assignment operator.kind ≡ true → IsAssignment text c x → IsAssigned text c (e.Assignment target operator x)

-- Where operators are read exactly, and the branches one level down, so are ConditionalExpressions,
abbrev pub ChoiceRule : Type 0
ChoiceRule =
    (text : Text) (c : Context) (n : ℕ) (test inner value : Reader (Node Expression))
    → Rule text (expressions (IsBinary text loosest c)) n (suc n) (ends_binary c loosest) test
    → Rule text (expressions (IsAssignment text (inside c))) n n (λ _ t. is_colon t.kind) inner
    → Rule text (expressions (IsAssignment text c)) n n (ends_value c) value
    → Rule text (expressions (IsConditional text c)) n (suc n) (ends_choice c) (chosen text n test inner value)

-- and, where these are, so are they and assignments.
abbrev pub AssignedRule : Type 0
AssignedRule =
    (text : Text) (c : Context) (n : ℕ) (target value : Reader (Node Expression))
    → Rule text (expressions (IsConditional text c)) n (suc n) (ends_choice c) target
    → Rule text (expressions (IsAssignment text c)) n n (ends_value c) value
    → Rule text (expressions (λ x. IsConditional text c x ⊎ IsAssigned text c x)) n (suc n) (ends_value c) (assigned text n target value)
