use Rattle.std.proofs.Common.{◌≡◌, ◌-◌}
use Rattle.esb_grammar.specs.Contexts.{inside}
use Rattle.esb_reader.specs.Reader.{repeated, node}
use Rattle.esb_literal_laws.specs.Templates as templates
use Rattle.esb_literals.specs.Handed as handed
use Rattle.esb_literals.proofs.literals.Literals.substitutions.Given as goal

abbrev pub invariant-loop-turn : goal.invariant-loop-turn
invariant-loop-turn g l =
    let text = l.self.parser.now.text.now in
    let inner = handed.expressions g.R.Readers.expression text (inside l.context) l.levels in
    templates.substitutions text inner l.fn.start ≡ repeated (templates.at_middle text) (templates.substitution text inner) (l._turn-end - l._turn) (node l.tree l.deepest) l.at
