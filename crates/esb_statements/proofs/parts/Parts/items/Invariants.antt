use Rattle.std.proofs.Common.{◌≡◌, ◌-◌, true}
use Rattle.esb_reader.specs.Reader.{repeated, node}
use Rattle.esb_reader.specs.Parts.{behind}
use Rattle.esb_statement_laws.specs.Marks.{begins_item}
use Rattle.esb_statement_laws.specs.Items as spec
use Rattle.esb_statements.proofs.parts.Parts.items.Given as goal

abbrev pub invariant-loop-turn : goal.invariant-loop-turn
invariant-loop-turn g l =
    let text = l.self.text.now in
    let r = g.R.StatementReaders.handed text l.self.levels in
    spec.items text l.context l.self.levels r l.fn.start ≡ repeated (λ i. begins_item (behind text i).kind) (spec.statement text l.context l.self.levels r true) (l._turn-end - l._turn) (node l.tree l.levels) l.at
