use Rattle.esb_core.proofs.Limits.{within-limits}
use Rattle.esb_core.proofs.always.limits_hold.Goals as goal

pub returns : goal.returns
returns c = λ events legal. within-limits events legal
