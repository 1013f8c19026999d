use Rattle.std.proofs.Common.{rules, arith}
use Rattle.std.proofs.lemmas.Grind.{common_steps}
use Rattle.esb_expressions.proofs.Fitting.{powers_behind, fit_at, fit_none}
use Rattle.esb_expressions.proofs.fits.powers_fit.Goals as goal

pub loop-turn-init : goal.loop-turn-init
loop-turn-init c =
    let e = powers_behind c.args.first.now c.args.rest.now in
    first_of (search rules, grind (arith, common_steps))

pub returns-then-before : goal.returns-then-before
returns-then-before c =
    let e = fit_none c.args.rest.now c.loop-turn.turn c.loop-turn-test.true in
    let i = c.loop-turn.invariant in
    first_of (search rules, grind (arith, common_steps))

pub loop-turn-preserved : goal.loop-turn-preserved
loop-turn-preserved c =
    let e = fit_at c.loop-turn.before c.args.rest.now c.loop-turn.turn c.index-rest-turn.result c.index-rest-turn.is c.loop-turn-test.true in
    let i = c.loop-turn.invariant in
    first_of (search rules, grind (arith, common_steps))
