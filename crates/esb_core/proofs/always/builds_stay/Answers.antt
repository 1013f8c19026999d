use Rattle.esb_core.proofs.Pushed.{builds-pushed}
use Rattle.esb_core.proofs.Begins.{build-stays, builds-grow, begun-each}
use Rattle.esb_core.proofs.always.builds_stay.Goals as goal

pub returns-clause-one_more : goal.returns-clause-one_more
returns-clause-one_more c = λ before event. builds-pushed before event

pub returns-clause-stay : goal.returns-clause-stay
returns-clause-stay c = λ events more n lt. build-stays events more n lt

pub returns-clause-grow : goal.returns-clause-grow
returns-clause-grow c = λ events more. builds-grow events more

pub returns-clause-begun : goal.returns-clause-begun
returns-clause-begun c = λ events n lt. begun-each events n lt
