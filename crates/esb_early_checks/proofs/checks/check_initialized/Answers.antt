use Rattle.std.proofs.Common.{true, cond, [], ◌∷◌, sym, ap, ◌∙◌}
use Rattle.esb_early_checks.specs.Findings.{breach_if, together}
use Rattle.esb_early_checks.specs.Tests.{bound_breaches, reference_breaches}
use Rattle.esb_early_checks.proofs.Steps.{finds_none, finds_then, finds_is}
use Rattle.esb_early_checks.proofs.checks.check_initialized.Goals as goal

pub returns-else-is_pattern : goal.returns-else-is_pattern
returns-else-is_pattern c = finds_is _ _ _ _ (ap (λ b. cond b (bound_breaches c.args.text.now c.args.name) (together (reference_breaches c.args.text.now c.args.name ∷ breach_if true c.args.sign.start 17 ∷ []))) (sym c.is_pattern.ensures ∙ c.if-is_pattern.false)) (finds_then _ _ _ _ _ c.check_reference.ensures (finds_then _ _ _ _ _ c.report_if.ensures (finds_none _)))
