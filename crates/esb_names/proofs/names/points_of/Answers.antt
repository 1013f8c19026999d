use Rattle.std.proofs.Common.{◌+◌, ◌∷◌, length, drop, ap, sym, ◌∙◌, arith, length-drop}
use Rattle.esb_names.specs.Names.{points, points_behind}
use Rattle.esb_names.proofs.PointSteps.{points_at, points_kept, points_ended}
use Rattle.esb_names.proofs.names.points_of.Goals as goal

pub loop-at-preserved : goal.loop-at-preserved
loop-at-preserved c = (
  points_kept c.loop-at.list _ c.first_point-point.result _ _ _ c.in_ok-push.ensures.ok
      (points_at c.args.name.now c.after-rest.result.now c.loop-at.at c.first_length-width.result c.loop-at-test.true c.after-rest.ensures c.first_length-width.ensures.value c.first_length-width.ensures.some c.first_length-width.ensures.within ∙ ap (λ p. p ∷ points_behind 0 (drop (c.loop-at.at + c.first_length-width.result) c.args.name.now)) (sym c.first_point-point.ensures))
      c.loop-at.invariant.0,
  omega (arith, c.first_length-width.ensures.within, ap length c.after-rest.ensures, length-drop c.loop-at.at c.args.name.now, c.loop-at-test.true),
)

pub returns : goal.returns
unfolding points
returns c = c.into_vec.ensures ∙ points_ended _ c.args.name.now c.loop-at.at _ c.loop-at-test.false c.loop-at.invariant.0
