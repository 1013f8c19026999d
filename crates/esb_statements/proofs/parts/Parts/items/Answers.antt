use Rattle.std.proofs.Common.{true, rules, arith}
use Rattle.std.proofs.lemmas.Grind.{common_steps}
use Rattle.esb_reader.specs.Reader.{repeated, node}
use Rattle.esb_reader.specs.Parts.{behind}
use Rattle.esb_statement_laws.specs.Marks.{begins_item}
use Rattle.esb_statement_laws.specs.Items as spec
use Rattle.esb_statement_tests.proofs.Steps.{one_more}
use Rattle.esb_statements.proofs.Steps.{items_begin}
use Rattle.esb_statements.proofs.parts.Parts.items.Goals as goal

pub loop-turn-init : goal.loop-turn-init
loop-turn-init g c =
    let this = c.args.self.now in
    let e = items_begin this.text.now c.args.context this.levels (g.R.StatementReaders.handed this.text.now this.levels) c.args.start in
    first_of (search rules, grind (arith, common_steps))

pub loop-turn-preserved : goal.loop-turn-preserved
unfolding repeated
loop-turn-preserved g c =
    let this = c.args.self.now in
    let text = this.text.now in
    let r = g.R.StatementReaders.handed text this.levels in
    let l = c.loop-turn in
    let e = one_more (λ n. repeated (λ i. begins_item (behind text i).kind) (spec.statement text c.args.context this.levels r true) n (node l.tree l.levels) l.at) _ l._turn c.loop-turn-test.true l.invariant in
    first_of (search rules, grind (arith, common_steps))
