use Rattle.esb_flags.proofs.Accepts.{accepted}
use Rattle.esb_flags.proofs.laws.accepted_flags.Goals as goal

pub returns : goal.returns
returns c = λ request key options e. (accepted request key options e).1
