use Rattle.esb_scan.proofs.Runs.{run_fits}
use Rattle.esb_scan.proofs.laws.products_fit.Goals as goal

pub returns : goal.returns
returns c = run_fits
