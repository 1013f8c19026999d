use Rattle.std.proofs.Common.{ap, length, arith, length-drop}
use Rattle.esb_token.proofs.RunSteps.{run-at_stop, run-at_end, run-at_step}
use Rattle.esb_lex.proofs.run.run.Goals as goal

pub returns-then-length-eq0-clause-value : goal.returns-then-length-eq0-clause-value
returns-then-length-eq0-clause-value g c =
    omega (arith, run-at_stop (g.P.Part.part c.args.part.now) c.args.text.now _ c.loop-end.end _ c.after-rest.ensures c.length-length.ensures.value (omega arith))

pub loop-end-preserved : goal.loop-end-preserved
loop-end-preserved g c =
    let within = c.length-length.ensures.within in
    let step = run-at_step (g.P.Part.part c.args.part.now) c.args.text.now _ c.loop-end.end _ c.after-rest.ensures c.length-length.ensures.value (omega arith) within in
    (omega (arith, step), omega (arith, within, ap length c.after-rest.ensures, length-drop c.loop-end.end c.args.text.now))

pub returns-clause-value : goal.returns-clause-value
returns-clause-value g c = omega (arith, run-at_end (g.P.Part.part c.args.part.now) c.args.text.now c.loop-end.end (omega arith))
