use Rattle.esb_core.proofs.Shows.{shows}
use Rattle.esb_core.proofs.always.machines_show_their_history.Goals as goal

pub returns : goal.returns
returns c = λ state events stands. shows state events stands
