use Rattle.std.proofs.Common.{◌≡◌, drop}
use Rattle.esb_early_checks.specs.Labels as spec
use Rattle.esb_early_checks.proofs.labels.has_loop.Given as goal

abbrev pub invariant-loop-label : goal.invariant-loop-label
invariant-loop-label l = spec.has_loop l.text l.name (drop l.label-index l.labels) ≡ spec.has_loop l.text l.name l.labels
