use Rattle.std.proofs.Common.{◌≡◌, ◌-◌}
use Rattle.esb_grammar.specs.Kinds.{is_comma}
use Rattle.esb_reader.specs.Reader.{repeated, node}
use Rattle.esb_reader.specs.Parts.{behind}
use Rattle.esb_module_laws.specs.Specifiers.{next_specifier}
use Rattle.esb_module_items.specs.Parts.{next_specifiers}
use Rattle.esb_module_items.proofs.specifiers.next_specifiers.Given as goal

abbrev pub invariant-loop-turn : goal.invariant-loop-turn
invariant-loop-turn l = next_specifiers l.text l.is_import l.fn.start ≡ repeated (λ i. is_comma (behind l.text i).kind) (next_specifier l.text l.is_import) (l._turn-end - l._turn) (node l.tree l.deepest) l.at
