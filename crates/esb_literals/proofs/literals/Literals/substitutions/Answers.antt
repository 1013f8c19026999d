use Rattle.std.proofs.Common.{true, rules, arith}
use Rattle.std.proofs.lemmas.Grind.{common_steps}
use Rattle.esb_grammar.specs.Contexts.{inside}
use Rattle.esb_reader.specs.Reader.{repeated, node}
use Rattle.esb_literal_laws.specs.Templates as templates
use Rattle.esb_literals.specs.Handed as handed
use Rattle.esb_literals.proofs.Steps.{one_more}
use Rattle.esb_literals.proofs.literals.Literals.substitutions.Goals as goal

pub loop-turn-preserved : goal.loop-turn-preserved
unfolding repeated
loop-turn-preserved g c =
    let this = c.args.self.now in
    let text = this.parser.now.text.now in
    let l = c.loop-turn in
    let inner = handed.expressions g.R.Readers.expression text (inside c.args.context) c.args.levels in
    let e = one_more (λ n. repeated (templates.at_middle text) (templates.substitution text inner) n (node l.tree l.deepest) l.at) _ l._turn c.loop-turn-test.true l.invariant in
    first_of (search rules, grind (arith, common_steps))
