use Rattle.esb_sound.proofs.Outcomes.{ends-right, overgrown-ends}
use Rattle.esb_sound.proofs.laws.outcomes_are_right.Goals as goal

pub returns-clause-right : goal.returns-clause-right
returns-clause-right c = ends-right

pub returns-clause-too_large : goal.returns-clause-too_large
returns-clause-too_large c = overgrown-ends
