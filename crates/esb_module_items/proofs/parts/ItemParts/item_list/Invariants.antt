use Rattle.std.proofs.Common.{◌≡◌, ◌-◌}
use Rattle.esb_reader.specs.Reader.{repeated, node}
use Rattle.esb_reader.specs.Parts.{behind}
use Rattle.esb_statement_laws.specs.Marks.{begins_item}
use Rattle.esb_module_laws.specs.Items.{item_list, module_item}
use Rattle.esb_module_items.proofs.parts.ItemParts.item_list.Given as goal

abbrev pub invariant-loop-turn : goal.invariant-loop-turn
invariant-loop-turn g l =
    let text = l.self.text.now in
    let r = g.R.ItemReaders.handed text l.self.levels in
    item_list text l.self.levels r l.fn.start ≡ repeated (λ i. begins_item (behind text i).kind) (module_item text l.self.levels r) (l._turn-end - l._turn) (node l.tree l.deepest) l.at
