use Rattle.std.proofs.Common.{◌≡◌, ◌-◌, ◌+◌, ◌*◌, suc, length, Some}
use Rattle.esb_reader.specs.Reader.{node, pure, repeated}
use Rattle.esb_reader.specs.Parts.{behind}
use Rattle.esb_expression_laws.specs.Operators.{operand}
use Rattle.esb_operator_laws.specs.Unary.{unary}
use Rattle.esb_operator_laws.specs.Ladder.{at_operator, items, ladder, binary}
use Rattle.esb_expressions.proofs.operators.Operators.+binary.Given as goal

abbrev pub decreases-ladder_behind : goal.decreases-ladder_behind
decreases-ladder_behind g l = 5 * l.level

abbrev pub decreases-binary : goal.decreases-binary
decreases-binary g l = 5 * l.level + 1

abbrev pub decreases-operand : goal.decreases-operand
decreases-operand g l = 5 * l.tight + 2

abbrev pub decreases-items : goal.decreases-items
decreases-items g l = 5 * l.tight + 3

abbrev pub decreases-level_behind : goal.decreases-level_behind
decreases-level_behind g l = 5 * l.tight + 4

abbrev pub invariant-items-loop-turn : goal.invariant-items-loop-turn
invariant-items-loop-turn g l =
    let text = l.self.text.now in
    let tighter = binary text l.levels l.context (unary text l.context (g.R.Readers.left l.context text) l.levels) l.tight in
    items text l.context (suc l.tight) tighter l.start ≡ repeated (at_operator text l.context (suc l.tight)) (operand text l.context (suc l.tight) tighter) (l._turn-end - l._turn) (node l.tree l.deepest) l.at

abbrev pub invariant-ladder_behind-loop-tight : goal.invariant-ladder_behind-loop-tight
invariant-ladder_behind-loop-tight g l =
    let text = l.self.text.now in
    ladder text l.levels l.context (unary text l.context (g.R.Readers.left l.context text) l.levels) (pure l.fn.first) l.tight l.start ≡ Some (l.x, l.at) × (l.next ≡ behind text l.at)
