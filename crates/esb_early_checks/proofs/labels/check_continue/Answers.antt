use Rattle.std.proofs.Common.{sym, subst}
use Rattle.esb_early_checks.specs.Findings.{Finds}
use Rattle.esb_early_checks.specs.Labels.{continue_breaches}
use Rattle.esb_early_checks.proofs.Steps.{finds_none, finds_then}
use Rattle.esb_early_checks.proofs.labels.check_continue.Goals as goal

pub returns-in-Some : goal.returns-in-Some
returns-in-Some c = subst (λ l. Finds (continue_breaches c.args.text.now c.args.word l c.args.setting) c.args.out.now c.check_loop.new.out) (sym c.in-Some.is) (finds_then _ _ _ _ _ c.check_known.ensures (finds_then _ _ _ _ _ c.check_loop.ensures (finds_none _)))
