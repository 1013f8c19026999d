use Rattle.std.proofs.Common.{◌≡◌, ◌-◌}
use Rattle.esb_reader.specs.Reader.{repeated, node}
use Rattle.esb_reader.specs.Parts.{behind}
use Rattle.esb_statement_laws.specs.Marks.{is_clause}
use Rattle.esb_statement_laws.specs.Compounds as spec
use Rattle.esb_statements.specs.Lists.{clause_list}
use Rattle.esb_statements.proofs.parts.Parts.clause_list.Given as goal

abbrev pub invariant-loop-turn : goal.invariant-loop-turn
invariant-loop-turn g l =
    let text = l.self.text.now in
    let r = g.R.StatementReaders.handed text l.self.levels in
    clause_list text l.context l.self.levels r l.fn.start ≡ repeated (λ i. is_clause (behind text i).kind) (spec.clause text l.context l.self.levels r) (l._turn-end - l._turn) (node l.tree l.levels) l.at
