-- Unary and binary operators are read exactly.
use Rattle.std.specs.Prelude.{◌≡◌, ℕ, suc, ◌≤◌, false}
use Rattle.esb_token.specs.Tokens.{SpelledBetween}
use Rattle.esb_tree.specs.declared.expressions.Expression.{Expression}
use Rattle.esb_tree.specs.Trees.{written}
use Rattle.esb_tree.specs.Yields.{tokens_of_expression}
use Rattle.esb_grammar.specs.declared.context.Context.{Context}
use Rattle.esb_grammar.specs.Grammar.{loosest, IsLeftHandSide, IsUnary, IsBinary}
use Rattle.esb_reader.specs.declared.node.Node.{Node}
use Rattle.esb_reader.specs.Places.{Text}
use Rattle.esb_reader.specs.Reader.{Reader}
use Rattle.esb_reader.specs.Parts.{behind}
use Rattle.esb_reader.specs.Stands.{Rule}
use Rattle.esb_expression_laws.specs.Leaves.{expressions}
use Rattle.esb_operator_laws.specs.Ends.{ends_left, ends_unary, ends_binary}
use Rattle.esb_operator_laws.specs.Unary.{begins_prefix, unary}
use Rattle.esb_operator_laws.specs.Ladder.{binary}

-- What reads LeftHandSideExpressions within each number of levels exactly. None of these begins with an operator.
pub record ReadsLeft (text : Text) (c : Context) (left : ℕ → Reader (Node Expression)) : Type 0 where
  pub rule : (n : ℕ) → Rule text (expressions (IsLeftHandSide text c)) n (suc n) (λ _. ends_left) (left n)
  pub shows : (x : Expression) (i j : ℕ) → IsLeftHandSide text c x → SpelledBetween text i (tokens_of_expression written x) j → begins_prefix c (behind text i) ≡ false

-- Then UnaryExpressions are read exactly,
abbrev pub UnaryRule : Type 0
UnaryRule = (text : Text) (c : Context) (left : ℕ → Reader (Node Expression)) → ReadsLeft text c left → (n : ℕ) → Rule text (expressions (IsUnary text c)) n (suc n) ends_unary (unary text c left n)

-- and, where these are, so are operators up to each level.
abbrev pub BinaryRule : Type 0
BinaryRule = (text : Text) (c : Context) (n level : ℕ) (unary : Reader (Node Expression)) → level ≤ loosest → Rule text (expressions (IsUnary text c)) n (suc n) ends_unary unary → Rule text (expressions (IsBinary text level c)) n (suc n) (ends_binary c level) (binary text n c unary level)
