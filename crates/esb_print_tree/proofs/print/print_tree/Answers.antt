use Rattle.std.proofs.Common.{◌≡◌, ◌≤◌, ℕ, List, length, sym, ◌∙◌, subst}
use Rattle.esb_tree.specs.declared.modules.ModuleItem.{ModuleItem}
use Rattle.esb_print.specs.Lines.{text_of}
use Rattle.esb_print.specs.Again.{ReadsAgain}
use Rattle.esb_print_tree.specs.Laws.{lines_of}
use Rattle.esb_print_tree.proofs.Printing.{line_of, last_item, text_is}
use Rattle.esb_print_tree.proofs.Whole.{printed_trees-read}
use Rattle.esb_print_tree.proofs.print.print_tree.Goals as goal

pub returns-clause-text : goal.returns-clause-text
returns-clause-text c =
    let items = c.args.tree.now.items in
    let ended : length items ≤ c.loop-item.item-index = subst (λ xs. length xs ≤ c.loop-item.item-index) c.as_slice-item-items.ensures c.loop-item-test.false in
    last_item (line_of c.args.contents.now) items c.loop-item.item-index c.loop-item.out _ ended c.loop-item.invariant ∙ text_is c.args.contents.now items

pub returns-clause-again : goal.returns-clause-again
returns-clause-again c is =
    let items = c.args.tree.now.items in
    let contents = c.args.contents.now in
    let ended : length items ≤ c.loop-item.item-index = subst (λ xs. length xs ≤ c.loop-item.item-index) c.as_slice-item-items.ensures c.loop-item-test.false in
    let printed : c.loop-item.out ≡ text_of contents (lines_of c.args.tree.now) = last_item (line_of contents) items c.loop-item.item-index c.loop-item.out _ ended c.loop-item.invariant ∙ text_is contents items in
    subst (λ text. ReadsAgain contents (lines_of c.args.tree.now) text) (sym printed) (printed_trees-read contents c.args.tree.now (rw c.as_bytes-bytes.ensures.value at c.as_bytes-bytes.ensures.utf8) is)
