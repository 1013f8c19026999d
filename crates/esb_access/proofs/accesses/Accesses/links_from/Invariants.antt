use Rattle.std.proofs.Common.{◌≡◌, ◌-◌}
use Rattle.esb_reader.specs.Reader.{node}
use Rattle.esb_access.specs.Handed as handed
use Rattle.esb_access.proofs.accesses.Accesses.links_from.Given as goal

abbrev pub invariant-loop-turn : goal.invariant-loop-turn
invariant-loop-turn g l =
    let read = handed.links_from g.R.Readers.expression g.R.Parts.arguments g.R.Parts.template l.context l.self.parser.now.text.now l.levels l.calls in
    read l.turns l.fn.found l.fn.start ≡ read (l.turns - l._turn) (node l.tree l.deepest) l.at
