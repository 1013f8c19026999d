use Rattle.std.proofs.Common.{rules, arith}
use Rattle.std.proofs.lemmas.Grind.{common_steps}
use Rattle.esb_access.proofs.Steps.{fit_at}
use Rattle.esb_access.proofs.shapes.templates_fit.Goals as goal

pub returns-then-not-may_follow : goal.returns-then-not-may_follow
returns-then-not-may_follow c =
    let e = fit_at c.args.list.now c.loop-turn.turn c.loop-turn.optional c.index-list-turn.result c.index-list-turn.is c.loop-turn-test.true in
    let i = c.loop-turn.invariant in
    first_of (search rules, grind (arith, common_steps))

pub loop-turn-preserved : goal.loop-turn-preserved
loop-turn-preserved c =
    let e = fit_at c.args.list.now c.loop-turn.turn c.loop-turn.optional c.index-list-turn.result c.index-list-turn.is c.loop-turn-test.true in
    let i = c.loop-turn.invariant in
    first_of (search rules, grind (arith, common_steps))
