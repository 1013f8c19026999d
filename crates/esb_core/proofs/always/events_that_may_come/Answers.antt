use Rattle.esb_core.proofs.Tells.{may-arrive-by, may-end-by, may-record-by, may-pop-by, closes-by}
use Rattle.esb_core.proofs.Held.{may-deliver-by, may-link-by, may-link-errors-by, may-cancel-by, may-give_up-by}
use Rattle.esb_core.proofs.Work.{may-claim-by}
use Rattle.esb_core.proofs.Writes.{may-write-by}
use Rattle.esb_core.proofs.always.events_that_may_come.Goals as goal

pub returns-clause-arrive : goal.returns-clause-arrive
returns-clause-arrive c = may-arrive-by

pub returns-clause-end_of_input : goal.returns-clause-end_of_input
returns-clause-end_of_input c = may-end-by

pub returns-clause-claim : goal.returns-clause-claim
returns-clause-claim c = may-claim-by

pub returns-clause-record_of : goal.returns-clause-record_of
returns-clause-record_of c = may-record-by

pub returns-clause-pop : goal.returns-clause-pop
returns-clause-pop c = may-pop-by

pub returns-clause-closing : goal.returns-clause-closing
returns-clause-closing c = closes-by

pub returns-clause-deliver : goal.returns-clause-deliver
returns-clause-deliver c = may-deliver-by

pub returns-clause-files : goal.returns-clause-files
returns-clause-files c = may-link-by

pub returns-clause-errors : goal.returns-clause-errors
returns-clause-errors c = may-link-errors-by

pub returns-clause-canceled : goal.returns-clause-canceled
returns-clause-canceled c = may-cancel-by

pub returns-clause-written : goal.returns-clause-written
returns-clause-written c = may-write-by

pub returns-clause-memory : goal.returns-clause-memory
returns-clause-memory c = may-give_up-by
