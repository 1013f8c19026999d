-- Whether an expression ends with `++` or `--` behind what it changes, so that no call goes on with it.
use Rattle.std.specs.Prelude.{Bool, true, false}
use Rattle.esb_tree.specs.declared.classes.ClassElement.TheOpen.{Expression-F, ConciseBody-F}
use Rattle.esb_tree.specs.declared.classes.ClassElement.TheFolds.{fold-Expression, fold-ConciseBody, fold-Operand}
use Rattle.esb_tree.specs.declared.expressions.Expression.{Expression}
use Rattle.esb_tree.specs.declared.expressions.Operand.{Operand}
use Rattle.esb_tree.specs.declared.functions.ConciseBody.{ConciseBody}
use Rattle.esb_grammar.specs.Edges.{last_of, operand_edge}

-- the end of an arrow function's body
abbrev pub value_edge : ConciseBody-F (Unit {0}) (Unit {0}) Bool (Unit {0}) Bool (Unit {0}) (Unit {0}) (Unit {0}) (Unit {0}) (Unit {0}) (Unit {0}) (Unit {0}) (Unit {0}) (Unit {0}) (Unit {0}) Bool (Unit {0}) (Unit {0}) (Unit {0}) (Unit {0}) (Unit {0}) (Unit {0}) (Unit {0}) (Unit {0}) (Unit {0}) (Unit {0}) (Unit {0}) → Bool
value_edge (ConciseBody-F.ConciseValue x) = x
value_edge (ConciseBody-F.ConciseBlock block) = false

abbrev pub postfix_edge : Expression-F (Unit {0}) (Unit {0}) Bool (Unit {0}) Bool (Unit {0}) (Unit {0}) (Unit {0}) (Unit {0}) (Unit {0}) (Unit {0}) (Unit {0}) (Unit {0}) (Unit {0}) (Unit {0}) Bool (Unit {0}) (Unit {0}) (Unit {0}) (Unit {0}) (Unit {0}) (Unit {0}) (Unit {0}) (Unit {0}) (Unit {0}) (Unit {0}) (Unit {0}) → Bool
postfix_edge (Expression-F.PostfixUpdate x operator) = true
postfix_edge (Expression-F.PrefixUpdate operator x) = x
postfix_edge (Expression-F.Unary operator x) = x
postfix_edge (Expression-F.Await word x) = x
postfix_edge (Expression-F.Binary first rest) = last_of rest
postfix_edge (Expression-F.Conditional test question x colon other) = other
postfix_edge (Expression-F.Assignment target operator x) = x
postfix_edge (Expression-F.Arrow parameters arrow body) = body
postfix_edge (Expression-F.AsyncArrow word name arrow body) = body
postfix_edge (Expression-F.YieldValue word x) = x
postfix_edge (Expression-F.YieldEach word star x) = x
postfix_edge _ = false

unfoldable pub ends_postfix : Expression → Bool
ends_postfix = fold-Expression (Unit {0}) (Unit {0}) Bool (Unit {0}) Bool (Unit {0}) (Unit {0}) (Unit {0}) (Unit {0}) (Unit {0}) (Unit {0}) (Unit {0}) (Unit {0}) (Unit {0}) (Unit {0}) Bool (Unit {0}) (Unit {0}) (Unit {0}) (Unit {0}) (Unit {0}) (Unit {0}) (Unit {0}) (Unit {0}) (Unit {0}) (Unit {0}) (Unit {0}) (λ _. tt) (λ _. tt) postfix_edge (λ _. tt) value_edge (λ _. tt) (λ _. tt) (λ _. tt) (λ _. tt) (λ _. tt) (λ _. tt) (λ _. tt) (λ _. tt) (λ _. tt) (λ _. tt) operand_edge (λ _. tt) (λ _. tt) (λ _. tt) (λ _. tt) (λ _. tt) (λ _. tt) (λ _. tt) (λ _. tt) (λ _. tt) (λ _. tt) (λ _. tt)

unfoldable pub body_ends_postfix : ConciseBody → Bool
body_ends_postfix = fold-ConciseBody (Unit {0}) (Unit {0}) Bool (Unit {0}) Bool (Unit {0}) (Unit {0}) (Unit {0}) (Unit {0}) (Unit {0}) (Unit {0}) (Unit {0}) (Unit {0}) (Unit {0}) (Unit {0}) Bool (Unit {0}) (Unit {0}) (Unit {0}) (Unit {0}) (Unit {0}) (Unit {0}) (Unit {0}) (Unit {0}) (Unit {0}) (Unit {0}) (Unit {0}) (λ _. tt) (λ _. tt) postfix_edge (λ _. tt) value_edge (λ _. tt) (λ _. tt) (λ _. tt) (λ _. tt) (λ _. tt) (λ _. tt) (λ _. tt) (λ _. tt) (λ _. tt) (λ _. tt) operand_edge (λ _. tt) (λ _. tt) (λ _. tt) (λ _. tt) (λ _. tt) (λ _. tt) (λ _. tt) (λ _. tt) (λ _. tt) (λ _. tt) (λ _. tt)

unfoldable pub operand_ends_postfix : Operand → Bool
operand_ends_postfix = fold-Operand (Unit {0}) (Unit {0}) Bool (Unit {0}) Bool (Unit {0}) (Unit {0}) (Unit {0}) (Unit {0}) (Unit {0}) (Unit {0}) (Unit {0}) (Unit {0}) (Unit {0}) (Unit {0}) Bool (Unit {0}) (Unit {0}) (Unit {0}) (Unit {0}) (Unit {0}) (Unit {0}) (Unit {0}) (Unit {0}) (Unit {0}) (Unit {0}) (Unit {0}) (λ _. tt) (λ _. tt) postfix_edge (λ _. tt) value_edge (λ _. tt) (λ _. tt) (λ _. tt) (λ _. tt) (λ _. tt) (λ _. tt) (λ _. tt) (λ _. tt) (λ _. tt) (λ _. tt) operand_edge (λ _. tt) (λ _. tt) (λ _. tt) (λ _. tt) (λ _. tt) (λ _. tt) (λ _. tt) (λ _. tt) (λ _. tt) (λ _. tt) (λ _. tt)
