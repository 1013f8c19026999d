use Rattle.esb_core.proofs.Pushed.{table-pushed}
use Rattle.esb_core.proofs.Firsts.{kept-stays, kept-earliest, earliest-kept, table-grows, table-once}
use Rattle.esb_core.proofs.always.answers_stay.Goals as goal

pub returns-clause-one_more : goal.returns-clause-one_more
returns-clause-one_more c = λ before event n. table-pushed before n event

pub returns-clause-stay : goal.returns-clause-stay
returns-clause-stay c = λ events more n question answer is. kept-stays events more n question answer is

pub returns-clause-earliest : goal.returns-clause-earliest
returns-clause-earliest c = λ events n question answer. (kept-earliest events n question answer, earliest-kept events n question answer)

pub returns-clause-grow : goal.returns-clause-grow
returns-clause-grow c = λ events more n. table-grows events more n

pub returns-clause-once : goal.returns-clause-once
returns-clause-once c = λ events n question. table-once events n question
