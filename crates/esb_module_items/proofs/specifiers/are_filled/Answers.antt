use Rattle.std.proofs.Common.{rules, arith}
use Rattle.std.proofs.lemmas.Grind.{common_steps}
use Rattle.esb_module_items.proofs.Steps.{not_filled_at}
use Rattle.esb_module_items.proofs.specifiers.are_filled.Goals as goal

pub returns-then-not-filled : goal.returns-then-not-filled
returns-then-not-filled c =
    let e = not_filled_at c.args.rest.now c.loop-turn.turn c.loop-turn-test.true in
    let i = c.loop-turn.invariant in
    first_of (search rules, grind (arith, common_steps))
