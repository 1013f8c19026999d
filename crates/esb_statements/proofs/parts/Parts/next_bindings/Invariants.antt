use Rattle.std.proofs.Common.{◌≡◌, ◌-◌}
use Rattle.esb_reader.specs.Reader.{repeated, node}
use Rattle.esb_grammar.specs.Kinds.{is_comma}
use Rattle.esb_reader.specs.Parts.{behind}
use Rattle.esb_statement_laws.specs.Declarations as spec
use Rattle.esb_statements.specs.Lists.{next_bindings}
use Rattle.esb_statements.proofs.parts.Parts.next_bindings.Given as goal

abbrev pub invariant-loop-turn : goal.invariant-loop-turn
invariant-loop-turn g l =
    let text = l.self.text.now in
    let r = g.R.StatementReaders.handed text l.self.levels in
    next_bindings text l.context l.self.levels r l.fn.start ≡ repeated (λ i. is_comma (behind text i).kind) (spec.next_binding text l.context l.self.levels r) (l._turn-end - l._turn) (node l.tree l.levels) l.at
