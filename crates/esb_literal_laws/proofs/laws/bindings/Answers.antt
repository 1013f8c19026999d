use Rattle.esb_literal_laws.proofs.TargetParts.{target_rule, parameters_rule}
use Rattle.esb_literal_laws.proofs.BindingParts.{bindings_rule}
use Rattle.esb_literal_laws.proofs.laws.bindings.Goals as goal

pub returns : goal.returns
returns c = record { target = target_rule; parameters = parameters_rule; declared = bindings_rule }
