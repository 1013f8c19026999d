use Rattle.esb_reply.proofs.Frames.{short_errors_are_sent}
use Rattle.esb_reply.proofs.laws.short_errors_are_sent.Goals as goal

pub returns : goal.returns
returns c = short_errors_are_sent
