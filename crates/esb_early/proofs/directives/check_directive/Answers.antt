use Rattle.std.proofs.Common.{sym, subst}
use Rattle.esb_early_checks.specs.Findings.{Finds}
use Rattle.esb_early_checks.specs.Tests.{strict_breaches}
use Rattle.esb_early_checks.proofs.Steps.{finds_none}
use Rattle.esb_early.proofs.directives.check_directive.Goals as goal

pub returns-in-None : goal.returns-in-None
returns-in-None c = subst (λ t. Finds (strict_breaches c.args.is_plain t) c.args.out.now c.args.out.now) (sym c.in-None.is) (finds_none _)
