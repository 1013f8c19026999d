-- How the operand of an operator ends.
use Rattle.std.proofs.Common.{◌≡◌, Bool}
use Rattle.esb_token.specs.declared.token.Token.{Token}
use Rattle.esb_tree.specs.declared.classes.ClassElement.TheFolds.{fold-roll-Operand}
use Rattle.esb_tree.specs.declared.expressions.Expression.{Expression}
use Rattle.esb_tree.specs.declared.expressions.Operand.{roll-Operand}
use Rattle.esb_grammar.specs.Edges.{arrow_edge, body_edge, operand_edge, ends_assignment, operand_ends_assignment}

pub ends_Operand : (operator : Token) (value : Expression) → operand_ends_assignment (roll-Operand (record { operator = operator; value = value })) ≡ ends_assignment value
unfolding ends_assignment operand_ends_assignment
ends_Operand operator value = fold-roll-Operand (Unit {0}) (Unit {0}) Bool (Unit {0}) Bool (Unit {0}) (Unit {0}) (Unit {0}) (Unit {0}) (Unit {0}) (Unit {0}) (Unit {0}) (Unit {0}) (Unit {0}) (Unit {0}) Bool (Unit {0}) (Unit {0}) (Unit {0}) (Unit {0}) (Unit {0}) (Unit {0}) (Unit {0}) (Unit {0}) (Unit {0}) (Unit {0}) (Unit {0}) (λ _. tt) (λ _. tt) arrow_edge (λ _. tt) body_edge (λ _. tt) (λ _. tt) (λ _. tt) (λ _. tt) (λ _. tt) (λ _. tt) (λ _. tt) (λ _. tt) (λ _. tt) (λ _. tt) operand_edge (λ _. tt) (λ _. tt) (λ _. tt) (λ _. tt) (λ _. tt) (λ _. tt) (λ _. tt) (λ _. tt) (λ _. tt) (λ _. tt) (λ _. tt) (record { operator = operator; value = value })
