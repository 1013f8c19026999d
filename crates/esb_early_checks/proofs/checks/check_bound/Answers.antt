use Rattle.esb_early_checks.specs.Findings.{breach_if}
use Rattle.esb_early_checks.proofs.Steps.{finds_none, finds_then, finds_of}
use Rattle.esb_early_checks.proofs.checks.check_bound.Goals as goal

pub returns : goal.returns
returns c = finds_then _ _ _ _ _ c.check_reference.ensures (finds_then _ _ _ _ _ (finds_of (λ b. breach_if b c.args.t.start 8) _ _ _ _ c.is_eval_or_arguments.ensures c.report_if.ensures) (finds_none _))
