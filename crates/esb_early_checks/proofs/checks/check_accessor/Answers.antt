use Rattle.std.proofs.Common.{sym, subst}
use Rattle.esb_early_checks.specs.Findings.{Finds}
use Rattle.esb_early_checks.specs.Tests.{accessor_breaches}
use Rattle.esb_early_checks.proofs.Steps.{finds_none, finds_then}
use Rattle.esb_early_checks.proofs.checks.check_accessor.Goals as goal

pub returns-in-None : goal.returns-in-None
returns-in-None c = subst (λ w. Finds (accessor_breaches c.args.text.now w c.args.start c.args.has_none c.args.has_one) c.args.out.now c.args.out.now) (sym c.in-None.is) (finds_none _)

pub returns-in-Some : goal.returns-in-Some
returns-in-Some c = subst (λ w. Finds (accessor_breaches c.args.text.now w c.args.start c.args.has_none c.args.has_one) c.args.out.now c.check_setter.new.out) (sym c.in-Some.is) (finds_then _ _ _ _ _ c.check_getter.ensures (finds_then _ _ _ _ _ c.check_setter.ensures (finds_none _)))
