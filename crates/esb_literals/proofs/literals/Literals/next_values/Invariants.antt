use Rattle.std.proofs.Common.{◌≡◌, ◌-◌}
use Rattle.esb_grammar.specs.Contexts.{inside}
use Rattle.esb_grammar.specs.Kinds.{is_comma}
use Rattle.esb_reader.specs.Reader.{repeated, node}
use Rattle.esb_reader.specs.Parts.{behind}
use Rattle.esb_expression_laws.specs.Lists as lists
use Rattle.esb_literals.specs.Handed as handed
use Rattle.esb_literals.specs.Pieces as pieces
use Rattle.esb_literals.proofs.literals.Literals.next_values.Given as goal

abbrev pub invariant-loop-turn : goal.invariant-loop-turn
invariant-loop-turn g l =
    let text = l.self.parser.now.text.now in
    let inner = handed.values g.R.Readers.expression text (inside l.context) l.levels in
    pieces.next_values text l.form inner l.fn.start ≡ repeated (λ i. is_comma (behind text i).kind) (lists.next_element text l.form inner) (l._turn-end - l._turn) (node l.tree l.deepest) l.at
