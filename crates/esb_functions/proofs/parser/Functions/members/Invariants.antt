use Rattle.std.proofs.Common.{◌≡◌, ◌-◌}
use Rattle.esb_reader.specs.Reader.{repeated, node}
use Rattle.esb_reader.specs.Parts.{behind}
use Rattle.esb_functions.specs.Bodies.{bodies}
use Rattle.esb_literals.specs.Handed as handed
use Rattle.esb_literal_laws.specs.Classes as classes
use Rattle.esb_functions.specs.Heads.{heads}
use Rattle.esb_functions.proofs.parser.Functions.members.Given as goal

abbrev pub invariant-loop-turn : goal.invariant-loop-turn
invariant-loop-turn g l =
    let text = l.self.parser.now.text.now in
    let element = classes.member text (handed.values g.R.Readers.expression text) (heads g.R.Readers.left text) (bodies g.R.Readers.items text) l.context l.levels in
    classes.members text (handed.values g.R.Readers.expression text) (heads g.R.Readers.left text) (bodies g.R.Readers.items text) l.context l.levels l.fn.start ≡ repeated (λ i. classes.begins_member (behind text i)) element (l._turn-end - l._turn) (node l.tree l.deepest) l.at
