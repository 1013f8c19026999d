use Rattle.esb_core.proofs.Begins.{build-stays}
use Rattle.esb_core.proofs.Tasks.{tasks-grow, tasks-named}
use Rattle.esb_core.proofs.Tells.{closes-by}
use Rattle.esb_core.proofs.Work.{told-job, told-closing, told-idle, tasks-differ}
use Rattle.esb_core.proofs.always.jobs_are_in_order.Goals as goal

pub returns-clause-job : goal.returns-clause-job
returns-clause-job c = told-job

pub returns-clause-closing : goal.returns-clause-closing
returns-clause-closing c = λ events r legal. told-closing events r legal (closes-by events legal)

pub returns-clause-idle : goal.returns-clause-idle
returns-clause-idle c = λ events r legal. told-idle events r legal (closes-by events legal)

pub returns-clause-differ : goal.returns-clause-differ
returns-clause-differ c = tasks-differ

pub returns-clause-grow : goal.returns-clause-grow
returns-clause-grow c = λ events more n begun. tasks-grow events more n (build-stays events more n begun)

pub returns-clause-named : goal.returns-clause-named
returns-clause-named c = tasks-named
