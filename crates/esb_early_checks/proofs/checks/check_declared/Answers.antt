use Rattle.std.proofs.Common.{sym, subst}
use Rattle.esb_early_checks.specs.Findings.{Finds}
use Rattle.esb_early_checks.specs.Tests.{declared_breaches}
use Rattle.esb_early_checks.proofs.Steps.{finds_none}
use Rattle.esb_early_checks.proofs.checks.check_declared.Goals as goal

pub returns-in-None : goal.returns-in-None
returns-in-None c = subst (λ t. Finds (declared_breaches c.args.text.now t) c.args.out.now c.args.out.now) (sym c.in-None.is) (finds_none _)
