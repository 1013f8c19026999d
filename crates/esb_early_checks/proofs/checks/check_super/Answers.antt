use Rattle.std.proofs.Common.{sym, subst}
use Rattle.esb_early_checks.specs.Findings.{Finds}
use Rattle.esb_early_checks.specs.Tests.{super_breaches}
use Rattle.esb_early_checks.proofs.Steps.{finds_none}
use Rattle.esb_early_checks.proofs.checks.check_super.Goals as goal

pub returns-in-None : goal.returns-in-None
returns-in-None c = subst (λ t. Finds (super_breaches t c.args.is_call c.args.setting) c.args.out.now c.args.out.now) (sym c.in-None.is) (finds_none _)
