use Rattle.esb_core.proofs.Laws.{reads-legal}
use Rattle.esb_core.proofs.Pushed.{all_owed-pushed, waiting-pushed}
use Rattle.esb_core.proofs.Results.{one-result, accounted, owed-grows}
use Rattle.esb_core.proofs.always.replies_are_one.Goals as goal

pub returns-clause-one_more : goal.returns-clause-one_more
returns-clause-one_more c = λ before event. all_owed-pushed before event

pub returns-clause-one_more_waits : goal.returns-clause-one_more_waits
returns-clause-one_more_waits c = λ before event n. waiting-pushed before n event

pub returns-clause-results : goal.returns-clause-results
returns-clause-results c = λ events n legal. one-result n events legal

pub returns-clause-accounted : goal.returns-clause-accounted
returns-clause-accounted c = λ events ids. accounted ids events

pub returns-clause-grow : goal.returns-clause-grow
returns-clause-grow c = λ events more. owed-grows events more

pub returns-clause-taken : goal.returns-clause-taken
returns-clause-taken c = λ events legal. (reads-legal events legal).enough
