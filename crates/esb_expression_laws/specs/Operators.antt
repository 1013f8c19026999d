-- Chains of binary operators of one level (ECMA-262, 12.7 to 12.13 without `??`).
use Rattle.std.specs.Prelude.{ℕ, Bool, ◌==◌, List}
use Rattle.esb_token.specs.declared.token.Token.{Token}
use Rattle.esb_token.specs.declared.goal.Goal.TheVariants as goal
use Rattle.esb_tree.specs.declared.expressions.Expression.{Expression}
use Rattle.esb_tree.specs.declared.expressions.Expression.TheVariants as e
use Rattle.esb_tree.specs.declared.expressions.Operand.{Operand, roll-Operand, out-Operand}
use Rattle.esb_tree.specs.Operators.{level_of}
use Rattle.esb_grammar.specs.declared.context.Context.{Context}
use Rattle.esb_reader.specs.declared.node.Node.{Node}
use Rattle.esb_reader.specs.Places.{Text}
use Rattle.esb_reader.specs.Reader.{Reader}
use Rattle.esb_reader.specs.Parts.{made, both, token_in, many, chain}

-- whether a token is an operator of a level
abbrev pub is_operator : Context → ℕ → Token → Bool
is_operator c own t = level_of c.has_in t.kind == own

abbrev pub make_operand : Token × Expression → Operand
make_operand p = roll-Operand (record { operator = p.0; value = p.1 })

-- an operator of a level and its operand, which `tighter` reads
unfoldable pub operand : Text → Context → ℕ → Reader (Node Expression) → Reader (Node Operand)
operand text c own tighter = made make_operand 0 (both (token_in text goal.Div (is_operator c own)) tighter)

unfoldable pub operands : Text → Context → ℕ → Reader (Node Expression) → Reader (Node (List Operand))
operands text c own tighter = many text (is_operator c own) (operand text c own tighter)

-- operands with operators of a level between them, or one operand alone
unfoldable pub operators : Text → ℕ → Context → ℕ → Reader (Node Expression) → Reader (Node Expression)
operators text n c own tighter = chain n e.Binary tighter (operands text c own tighter)

-- what ends an operand ends the operator and the operand
abbrev pub operand_stops : (Expression → Token → Bool) → Operand → Token → Bool
operand_stops stops o t = stops (out-Operand o).value t
