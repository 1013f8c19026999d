use Rattle.esb_scan.proofs.Runs.{done_from_trail, done-kept_answer, run_never_refused}
use Rattle.esb_scan.proofs.laws.asks_once.Goals as goal

pub returns-clause-answered : goal.returns-clause-answered
returns-clause-answered c = done_from_trail

pub returns-clause-once : goal.returns-clause-once
returns-clause-once c = done-kept_answer

pub returns-clause-never_refused : goal.returns-clause-never_refused
returns-clause-never_refused c = run_never_refused
