use Rattle.esb_core.proofs.Cancels.{canceled-by, by-cancel}
use Rattle.esb_core.proofs.Pushed.{outcome-pushed}
use Rattle.esb_core.proofs.Ends.{outcome-stays, settled-earliest, earliest-settled}
use Rattle.esb_core.proofs.Results.{settled-begun}
use Rattle.esb_core.proofs.always.outcomes_stay.Goals as goal

pub returns-clause-one_more : goal.returns-clause-one_more
returns-clause-one_more c = λ before event n. outcome-pushed before n event

pub returns-clause-stay : goal.returns-clause-stay
returns-clause-stay c = λ events more n o is. outcome-stays events more n o is

pub returns-clause-earliest : goal.returns-clause-earliest
returns-clause-earliest c = λ events n o. (settled-earliest events n o, earliest-settled events n o)

pub returns-clause-begun : goal.returns-clause-begun
returns-clause-begun c = λ events n o legal is. settled-begun events n o legal is

pub returns-clause-canceled : goal.returns-clause-canceled
returns-clause-canceled c = λ events n legal. (canceled-by events n legal, by-cancel events n legal)
