use Rattle.std.proofs.Common.{◌<◌, ap, length, arith, length-drop}
use Rattle.esb_token.proofs.RunSteps.{run-at_stop, run-at_end, run-at_step, run_any-at_stop, run_any-at_end, run_any-at_step, carried, carried-last}
use Rattle.esb_lex.proofs.run.run_lined.Goals as goal

pub returns-then-next-eq0-clause-value : goal.returns-then-next-eq0-clause-value
returns-then-next-eq0-clause-value g c =
    omega (arith, c.loop-end.invariant.0, run-at_stop (g.P.LinedPart.part c.args.part.now) c.args.text.now _ c.loop-end.end _ c.after-rest.ensures c.extent-next.ensures.value (omega arith))

pub returns-then-next-eq0-clause-lined : goal.returns-then-next-eq0-clause-lined
returns-then-next-eq0-clause-lined g c =
    carried-last _ _ _ c.loop-end.invariant.1 (run_any-at_stop (g.P.LinedPart.part c.args.part.now) (g.P.LinedPart.line c.args.part.now) c.args.text.now _ c.loop-end.end _ c.after-rest.ensures c.extent-next.ensures.value (omega arith))

pub loop-end-preserved : goal.loop-end-preserved
loop-end-preserved g c =
    let within = c.extent-next.ensures.within in
    let some : 0 < c.extent-next.result.length = omega arith in
    let step = run-at_step (g.P.LinedPart.part c.args.part.now) c.args.text.now _ c.loop-end.end _ c.after-rest.ensures c.extent-next.ensures.value some within in
    let any = run_any-at_step (g.P.LinedPart.part c.args.part.now) (g.P.LinedPart.line c.args.part.now) c.args.text.now _ c.loop-end.end _ c.after-rest.ensures c.extent-next.ensures.value some within in
    (omega (arith, step), carried _ _ _ _ _ _ c.loop-end.invariant.1 any (c.extent-next.ensures.lined some), omega (arith, within, ap length c.after-rest.ensures, length-drop c.loop-end.end c.args.text.now))

pub returns-clause-value : goal.returns-clause-value
returns-clause-value g c = omega (arith, run-at_end (g.P.LinedPart.part c.args.part.now) c.args.text.now c.loop-end.end (omega arith))

pub returns-clause-lined : goal.returns-clause-lined
returns-clause-lined g c = carried-last _ _ _ c.loop-end.invariant.1 (run_any-at_end (g.P.LinedPart.part c.args.part.now) (g.P.LinedPart.line c.args.part.now) c.args.text.now c.loop-end.end (omega arith))
