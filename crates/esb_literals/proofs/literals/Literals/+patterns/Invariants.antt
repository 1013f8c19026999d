use Rattle.std.proofs.Common.{◌≡◌, ◌+◌, ◌-◌, ◌*◌}
use Rattle.esb_grammar.specs.Kinds.{is_comma}
use Rattle.esb_reader.specs.Reader.{repeated, node}
use Rattle.esb_reader.specs.Parts.{behind}
use Rattle.esb_literal_laws.specs.ElementLists as any
use Rattle.esb_literals.specs.Pieces as pieces
use Rattle.esb_literals.proofs.literals.Literals.+patterns.Given as goal

abbrev pub decreases-target_below : goal.decreases-target_below
decreases-target_below g l = 10 * l.levels

abbrev pub decreases-binding_element : goal.decreases-binding_element
decreases-binding_element g l = 10 * l.levels + 1

abbrev pub decreases-binding_property : goal.decreases-binding_property
decreases-binding_property g l = 10 * l.levels + 2

abbrev pub decreases-binding_slot : goal.decreases-binding_slot
decreases-binding_slot g l = 10 * l.levels + 2

abbrev pub decreases-property_slot : goal.decreases-property_slot
decreases-property_slot g l = 10 * l.levels + 3

abbrev pub decreases-slot : goal.decreases-slot
decreases-slot g l = 10 * l.levels + 4

abbrev pub decreases-next_slot : goal.decreases-next_slot
decreases-next_slot g l = 10 * l.levels + 5

abbrev pub decreases-next_slots : goal.decreases-next_slots
decreases-next_slots g l = 10 * l.levels + 6

abbrev pub decreases-slots : goal.decreases-slots
decreases-slots g l = 10 * l.levels + 7

abbrev pub decreases-bound_list : goal.decreases-bound_list
decreases-bound_list g l = 10 * l.levels + 8

abbrev pub decreases-target : goal.decreases-target
decreases-target g l = 10 * l.levels + 9

abbrev pub invariant-next_slots-loop-turn : goal.invariant-next_slots-loop-turn
invariant-next_slots-loop-turn g l =
    let text = l.self.parser.now.text.now in
    let element = pieces.binding_of text g.R.Readers.expression l.form l.context l.levels in
    any.nexts_of text element l.fn.start ≡ repeated (λ i. is_comma (behind text i).kind) (any.next_of text element) (l._turn-end - l._turn) (node l.tree l.deepest) l.at
