use Rattle.esb_parse_laws.proofs.Trees.{trees_rule}
use Rattle.esb_parse_laws.proofs.laws.module_trees.Goals as goal

pub returns : goal.returns
returns c = trees_rule
