-- The tree of each text is read, and no text has two.
use Rattle.esb_module_laws.proofs.Whole.{module_rule}
use Rattle.esb_parse_laws.specs.Laws.{TreesRule, OneTree}
use Rattle.esb_parse_laws.specs.Readers.{readers, parts, nameless}
use Rattle.esb_parse_laws.proofs.Parts.{handed_read, nameless_read}
use Rattle.esb_parse_laws.proofs.Turns.{knot_rule}

pub trees_rule : TreesRule
trees_rule text = (module_rule text (parts text) (nameless text) (handed_read text (readers text) (knot_rule text)) (λ n known. nameless_read text (readers text) (knot_rule text) n known)).0

pub one_tree : OneTree
one_tree text = (module_rule text (parts text) (nameless text) (handed_read text (readers text) (knot_rule text)) (λ n known. nameless_read text (readers text) (knot_rule text) n known)).1
