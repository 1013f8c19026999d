use Rattle.esb_reply.proofs.Frames.{replacement_fits}
use Rattle.esb_reply.proofs.laws.replacement_fits.Goals as goal

pub returns : goal.returns
returns c = replacement_fits
