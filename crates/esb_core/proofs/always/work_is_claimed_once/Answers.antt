use Rattle.esb_core.proofs.Once.{claimed-once}
use Rattle.esb_core.proofs.Writes.{write-once}
use Rattle.esb_core.proofs.always.work_is_claimed_once.Goals as goal

pub returns-clause-task : goal.returns-clause-task
returns-clause-task c = λ events n t legal. let h = claimed-once events legal n in h.once t

pub returns-clause-link : goal.returns-clause-link
returns-clause-link c = λ events n legal. let h = claimed-once events legal n in h.links

pub returns-clause-write : goal.returns-clause-write
returns-clause-write c = write-once
