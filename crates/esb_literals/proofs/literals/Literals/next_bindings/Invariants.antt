use Rattle.std.proofs.Common.{◌≡◌, ◌-◌}
use Rattle.esb_reader.specs.Reader.{repeated, node}
use Rattle.esb_grammar.specs.Kinds.{is_comma}
use Rattle.esb_reader.specs.Parts.{behind}
use Rattle.esb_literal_laws.specs.ElementLists as any
use Rattle.esb_literals.specs.Handed as handed
use Rattle.esb_literal_laws.specs.Bindings as bindings
use Rattle.esb_literals.proofs.literals.Literals.next_bindings.Given as goal

abbrev pub invariant-loop-turn : goal.invariant-loop-turn
invariant-loop-turn g l =
    let text = l.self.parser.now.text.now in
    let element = bindings.binding text (handed.values g.R.Readers.expression text) l.context l.levels in
    any.nexts_of text element l.fn.start ≡ repeated (λ i. is_comma (behind text i).kind) (any.next_of text element) (l._turn-end - l._turn) (node l.tree l.deepest) l.at
