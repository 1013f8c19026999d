use Rattle.esb_module_laws.specs.Module.{module_tree}
use Rattle.esb_parse_laws.proofs.Trees.{one_tree}
use Rattle.esb_parse.specs.Trees.{tree_of}
use Rattle.esb_parse.proofs.Items.{parses}
use Rattle.esb_parse.proofs.module.parse_items.Goals as goal

pub returns-clause-tree : goal.returns-clause-tree
unfolding module_tree
returns-clause-tree c = parses c.args.contents.now c.module.result c.module.ensures

pub returns-clause-read : goal.returns-clause-read
unfolding tree_of module_tree
returns-clause-read c = c.module.ensures

pub returns-clause-one : goal.returns-clause-one
returns-clause-one c = one_tree c.args.contents.now
