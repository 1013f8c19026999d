use Rattle.esb_assignment_laws.proofs.AssignmentRules.{assigned_rule}
use Rattle.esb_assignment_laws.proofs.laws.assignments.Goals as goal

pub returns : goal.returns
returns c = assigned_rule
