use Rattle.esb_module_laws.proofs.ItemRules.{item_rule}
use Rattle.esb_module_laws.proofs.laws.module_items.Goals as goal

pub returns : goal.returns
returns c = item_rule
