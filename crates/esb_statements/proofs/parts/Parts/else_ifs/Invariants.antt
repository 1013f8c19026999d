use Rattle.std.proofs.Common.{◌≡◌, ◌-◌}
use Rattle.esb_reader.specs.Reader.{repeated, node}
use Rattle.esb_statement_laws.specs.Statements as spec
use Rattle.esb_statements.proofs.parts.Parts.else_ifs.Given as goal

abbrev pub invariant-loop-turn : goal.invariant-loop-turn
invariant-loop-turn g l =
    let text = l.self.text.now in
    let r = g.R.StatementReaders.handed text l.self.levels in
    spec.else_ifs text l.context l.self.levels r l.fn.start ≡ repeated (spec.else_if_at text) (spec.else_if text l.context l.self.levels r) (l._turn-end - l._turn) (node l.tree l.levels) l.at
