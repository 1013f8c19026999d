use Rattle.std.proofs.Common.{true, rules, arith}
use Rattle.std.proofs.lemmas.Grind.{common_steps}
use Rattle.esb_reader.specs.Reader.{repeated, node}
use Rattle.esb_reader.specs.Parts.{behind}
use Rattle.esb_functions.specs.Bodies.{bodies}
use Rattle.esb_literals.specs.Handed as handed
use Rattle.esb_literal_laws.specs.Classes as classes
use Rattle.esb_functions.specs.Heads.{heads}
use Rattle.esb_functions.proofs.Steps.{one_more}
use Rattle.esb_functions.proofs.parser.Functions.members.Goals as goal

pub loop-turn-preserved : goal.loop-turn-preserved
unfolding repeated
loop-turn-preserved g c =
    let text = c.args.self.now.parser.now.text.now in
    let l = c.loop-turn in
    let element = classes.member text (handed.values g.R.Readers.expression text) (heads g.R.Readers.left text) (bodies g.R.Readers.items text) c.args.context c.args.levels in
    let e = one_more (λ n. repeated (λ i. classes.begins_member (behind text i)) element n (node l.tree l.deepest) l.at) _ l._turn c.loop-turn-test.true l.invariant in
    first_of (search rules, grind (arith, common_steps))
