use Rattle.std.proofs.lemmas.Bool.{true≢false}
use Rattle.esb_early_checks.specs.Findings.{Finds}
use Rattle.esb_early_checks.proofs.found.refuse.Goals as goal

pub returns : goal.returns
unfolding Finds
returns c finding fine = absurd (true≢false fine)
