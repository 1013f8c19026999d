use Rattle.std.proofs.Common.{true, rules, arith}
use Rattle.std.proofs.lemmas.Grind.{common_steps}
use Rattle.esb_reader.specs.Reader.{repeated, node}
use Rattle.esb_grammar.specs.Kinds.{is_comma}
use Rattle.esb_reader.specs.Parts.{behind}
use Rattle.esb_statement_laws.specs.Declarations as spec
use Rattle.esb_statement_tests.proofs.Steps.{one_more}
use Rattle.esb_statements.proofs.parts.Parts.next_bindings.Goals as goal

pub loop-turn-preserved : goal.loop-turn-preserved
unfolding repeated
loop-turn-preserved g c =
    let this = c.args.self.now in
    let text = this.text.now in
    let r = g.R.StatementReaders.handed text this.levels in
    let l = c.loop-turn in
    let e = one_more (λ n. repeated (λ i. is_comma (behind text i).kind) (spec.next_binding text c.args.context this.levels r) n (node l.tree l.levels) l.at) _ l._turn c.loop-turn-test.true l.invariant in
    first_of (search rules, grind (arith, common_steps))
