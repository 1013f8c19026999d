use Rattle.esb_assignment_laws.proofs.AssignmentRules.{choice_rule}
use Rattle.esb_assignment_laws.proofs.laws.choices.Goals as goal

pub returns : goal.returns
returns c = choice_rule
