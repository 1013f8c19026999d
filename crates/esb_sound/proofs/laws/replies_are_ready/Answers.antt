use Rattle.esb_sound.proofs.Owed.{first_is_ready}
use Rattle.esb_sound.proofs.laws.replies_are_ready.Goals as goal

pub returns : goal.returns
returns c = first_is_ready
