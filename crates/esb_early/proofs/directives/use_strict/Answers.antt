use Rattle.esb_early.proofs.DirectiveSteps.{strict_found, strict_goes_on, strict_ends}
use Rattle.esb_early.proofs.directives.use_strict.Goals as goal

pub returns-then-is_use_strict : goal.returns-then-is_use_strict
returns-then-is_use_strict c = strict_found c.args.text.now c.args.body.now c.loop-statement.statement-index c.statement-item.result c.in-Some.t c.directive.result c.is_use_strict.result _ c.loop-statement-test.true c.statement-item.is c.directive.ensures c.in-Some.is c.is_use_strict.ensures c.if-is_use_strict.true c.loop-statement.invariant

pub returns-in-None : goal.returns-in-None
returns-in-None c = strict_ends c.args.text.now c.args.body.now c.loop-statement.statement-index c.statement-item.result c.directive.result _ c.loop-statement-test.true c.statement-item.is c.directive.ensures c.in-None.is c.loop-statement.invariant

pub loop-statement-preserved : goal.loop-statement-preserved
loop-statement-preserved c = strict_goes_on c.args.text.now c.args.body.now c.loop-statement.statement-index c.statement-item.result c.in-Some.t c.directive.result c.is_use_strict.result _ c.loop-statement-test.true c.statement-item.is c.directive.ensures c.in-Some.is c.is_use_strict.ensures c.if-is_use_strict.false c.loop-statement.invariant
