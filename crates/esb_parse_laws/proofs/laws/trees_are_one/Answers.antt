use Rattle.esb_parse_laws.proofs.Trees.{one_tree}
use Rattle.esb_parse_laws.proofs.laws.trees_are_one.Goals as goal

pub returns : goal.returns
returns c = one_tree
