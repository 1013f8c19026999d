use Rattle.esb_module_laws.proofs.Specified.{specifiers_rule}
use Rattle.esb_module_laws.proofs.laws.specifiers.Goals as goal

pub returns : goal.returns
returns c = specifiers_rule
