use Rattle.esb_scan.proofs.Runs.{one_name, names_loads, names-load}
use Rattle.esb_scan.proofs.laws.tasks_that_are_named.Goals as goal

pub returns-clause-one : goal.returns-clause-one
returns-clause-one c = one_name

pub returns-clause-loads : goal.returns-clause-loads
returns-clause-loads c = names_loads

pub returns-clause-none : goal.returns-clause-none
returns-clause-none c = names-load
