use Rattle.std.proofs.Common.{rules, arith}
use Rattle.std.proofs.lemmas.Grind.{common_steps}
use Rattle.esb_literals.proofs.Steps.{fit_at}
use Rattle.esb_literals.proofs.places.all_fit.Goals as goal

pub returns-then-not-fits_place : goal.returns-then-not-fits_place
returns-then-not-fits_place c =
    let e = fit_at c.args.form c.args.rest.now c.loop-turn.turn c.index-rest-turn.result c.index-rest-turn.is c.loop-turn-test.true in
    let i = c.loop-turn.invariant in
    first_of (search rules, grind (arith, common_steps))

pub loop-turn-preserved : goal.loop-turn-preserved
loop-turn-preserved c =
    let e = fit_at c.args.form c.args.rest.now c.loop-turn.turn c.index-rest-turn.result c.index-rest-turn.is c.loop-turn-test.true in
    let i = c.loop-turn.invariant in
    first_of (search rules, grind (arith, common_steps))
