use Rattle.std.proofs.Common.{rules, arith}
use Rattle.std.proofs.lemmas.Grind.{common_steps}
use Rattle.esb_values.proofs.Plain.{plain_at}
use Rattle.esb_values.proofs.lists.all_plain.Goals as goal

pub returns-then-not-is_plain : goal.returns-then-not-is_plain
returns-then-not-is_plain c =
    let e = plain_at c.args.rest.now c.loop-turn.turn c.index-rest-turn.result c.index-rest-turn.is c.loop-turn-test.true in
    let i = c.loop-turn.invariant in
    first_of (search rules, grind (arith, common_steps))

pub loop-turn-preserved : goal.loop-turn-preserved
loop-turn-preserved c =
    let e = plain_at c.args.rest.now c.loop-turn.turn c.index-rest-turn.result c.index-rest-turn.is c.loop-turn-test.true in
    let i = c.loop-turn.invariant in
    first_of (search rules, grind (arith, common_steps))
