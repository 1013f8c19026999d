use Rattle.esb_sound.proofs.Hands.{all-done}
use Rattle.esb_sound.proofs.Writers.{all-closed}
use Rattle.esb_sound.proofs.laws.builds_are_done.Goals as goal

pub returns-clause-settled : goal.returns-clause-settled
returns-clause-settled c = all-done

pub returns-clause-closed : goal.returns-clause-closed
returns-clause-closed c = all-closed
