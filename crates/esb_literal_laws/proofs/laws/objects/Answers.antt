use Rattle.esb_literal_laws.proofs.MethodParts.{method_rule}
use Rattle.esb_literal_laws.proofs.ObjectParts.{object_rule}
use Rattle.esb_literal_laws.proofs.laws.objects.Goals as goal

pub returns : goal.returns
returns c = record { method = method_rule; object = object_rule }
