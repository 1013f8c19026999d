use Rattle.esb_core.proofs.Actives.{unclosed-still}
use Rattle.esb_core.proofs.Closes.{closed-pushed, failed-pushed}
use Rattle.esb_core.proofs.always.builds_close.Goals as goal

pub returns-clause-one_more : goal.returns-clause-one_more
returns-clause-one_more c = λ before event n. closed-pushed before n event

pub returns-clause-failed : goal.returns-clause-failed
returns-clause-failed c = λ before event n. failed-pushed before n event

pub returns-clause-settled : goal.returns-clause-settled
returns-clause-settled c = λ events n legal none. unclosed-still events n legal none
