use Rattle.esb_scan.proofs.Runs.{run_same, complete_same}
use Rattle.esb_scan.proofs.laws.larger_tables_agree.Goals as goal

pub returns-clause-same : goal.returns-clause-same
returns-clause-same c = run_same

pub returns-clause-complete : goal.returns-clause-complete
returns-clause-complete c = complete_same
