use Rattle.esb_literal_laws.proofs.ClassParts.{class_rule}
use Rattle.esb_literal_laws.proofs.laws.classes.Goals as goal

pub returns : goal.returns
returns c = class_rule
