use Rattle.std.proofs.Common.{ap, arith, length, length-drop}
use Rattle.esb_lex.proofs.UnitSteps.{units-at_stop, units-at_step}
use Rattle.esb_lex.proofs.code_units.push_pieces.Goals as goal

pub returns-then-length-eq0 : goal.returns-then-length-eq0
returns-then-length-eq0 c = units-at_stop c.args.quote c.args.body.now _ _ _ c.loop-at.at _ c.loop-at.invariant.0 c.after-rest.ensures c.string_piece-length.ensures.value (omega arith)

pub loop-at-preserved : goal.loop-at-preserved
loop-at-preserved c =
    let within = c.string_piece-length.ensures.within in
    (units-at_step c.args.quote c.args.body.now _ _ _ _ c.loop-at.at _ c.loop-at.invariant.0 c.after-rest.ensures c.string_piece-length.ensures.value (omega arith) within c.in_ok-push_piece.ensures, omega (arith, within, ap length c.after-rest.ensures, length-drop c.loop-at.at c.args.body.now))
