use Rattle.std.proofs.Common.{◌≡◌, ◌-◌}
use Rattle.esb_reader.specs.Reader.{node, repeated}
use Rattle.esb_value_laws.specs.Commas.{comma_operand, comma_operands}
use Rattle.esb_values.specs.Commas.{at_comma}
use Rattle.esb_values.proofs.commas.Commas.operands.Given as goal

abbrev pub invariant-loop-turn : goal.invariant-loop-turn
invariant-loop-turn g l =
    let text = l.self.text.now in
    let value = g.R.Values.value l.context text l.levels in
    comma_operands text value l.start ≡ repeated (at_comma text) (comma_operand text value) (l._turn-end - l._turn) (node l.tree l.deepest) l.at
