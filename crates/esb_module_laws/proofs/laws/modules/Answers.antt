use Rattle.esb_module_laws.proofs.Whole.{module_rule}
use Rattle.esb_module_laws.proofs.laws.modules.Goals as goal

pub returns : goal.returns
returns c = module_rule
