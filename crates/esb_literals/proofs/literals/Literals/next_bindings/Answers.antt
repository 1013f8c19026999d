use Rattle.std.proofs.Common.{rules, arith}
use Rattle.std.proofs.lemmas.Grind.{common_steps}
use Rattle.esb_reader.specs.Reader.{repeated, node}
use Rattle.esb_grammar.specs.Kinds.{is_comma}
use Rattle.esb_reader.specs.Parts.{behind}
use Rattle.esb_literal_laws.specs.ElementLists as any
use Rattle.esb_literals.specs.Handed as handed
use Rattle.esb_literal_laws.specs.Bindings as bindings
use Rattle.esb_literals.proofs.Steps.{one_more}
use Rattle.esb_literals.proofs.literals.Literals.next_bindings.Goals as goal

pub loop-turn-preserved : goal.loop-turn-preserved
unfolding repeated
loop-turn-preserved g c =
    let text = c.args.self.now.parser.now.text.now in
    let l = c.loop-turn in
    let element = bindings.binding text (handed.values g.R.Readers.expression text) c.args.context c.args.levels in
    let e = one_more (λ n. repeated (λ i. is_comma (behind text i).kind) (any.next_of text element) n (node l.tree l.deepest) l.at) _ l._turn c.loop-turn-test.true l.invariant in
    first_of (search rules, grind (arith, common_steps))
