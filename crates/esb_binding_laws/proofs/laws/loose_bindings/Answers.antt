use Rattle.esb_binding_laws.proofs.Bindings.{loose_rule}
use Rattle.esb_binding_laws.proofs.laws.loose_bindings.Goals as goal

pub returns : goal.returns
returns c = loose_rule
