use Rattle.esb_core.proofs.Tells.{told-by}
use Rattle.esb_core.proofs.always.told_is_the_history.Goals as goal

pub returns : goal.returns
returns c = λ events event legal. told-by events event legal
