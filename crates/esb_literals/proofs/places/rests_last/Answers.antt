use Rattle.std.proofs.Common.{rules, arith}
use Rattle.std.proofs.lemmas.Grind.{common_steps}
use Rattle.esb_literals.proofs.Steps.{rest_at}
use Rattle.esb_literals.proofs.places.rests_last.Goals as goal

pub returns-then-not-rest_fits : goal.returns-then-not-rest_fits
returns-then-not-rest_fits c =
    let e = rest_at c.args.rest.now c.loop-turn.turn c.index-rest-turn.result c.index-rest-turn.is c.loop-turn-test.true in
    let i = c.loop-turn.invariant in
    first_of (search rules, grind (arith, common_steps))

pub loop-turn-preserved : goal.loop-turn-preserved
loop-turn-preserved c =
    let e = rest_at c.args.rest.now c.loop-turn.turn c.index-rest-turn.result c.index-rest-turn.is c.loop-turn-test.true in
    let i = c.loop-turn.invariant in
    first_of (search rules, grind (arith, common_steps))
