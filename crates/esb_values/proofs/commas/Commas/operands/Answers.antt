use Rattle.std.proofs.Common.{rules, arith}
use Rattle.std.proofs.lemmas.Grind.{common_steps}
use Rattle.esb_reader.specs.Reader.{node, repeated}
use Rattle.esb_value_laws.specs.Commas.{comma_operand}
use Rattle.esb_values.specs.Commas.{at_comma}
use Rattle.esb_values.proofs.Steps.{one_more, commas_begin}
use Rattle.esb_values.proofs.commas.Commas.operands.Goals as goal

pub loop-turn-init : goal.loop-turn-init
loop-turn-init g c =
    let text = c.args.self.now.text.now in
    let e = commas_begin text (g.R.Values.value c.args.context text c.args.levels) c.args.start in
    first_of (search rules, grind (arith, common_steps))

pub loop-turn-preserved : goal.loop-turn-preserved
unfolding repeated
loop-turn-preserved g c =
    let l = c.loop-turn in
    let text = c.args.self.now.text.now in
    let value = g.R.Values.value c.args.context text c.args.levels in
    let e = one_more (λ n. repeated (at_comma text) (comma_operand text value) n (node l.tree l.deepest) l.at) _ l._turn c.loop-turn-test.true l.invariant in
    first_of (search rules, grind (arith, common_steps))
