use Rattle.std.proofs.Common.{◌+◌, drop, ap, sym, ◌∙◌, arith, length, length-drop}
use Rattle.std.proofs.Math.Path.{ap₂}
use Rattle.std.specs.Prelude.{nat_eq}
use Rattle.std.specs.Cmp.Lexicographic.{pointwise}
use Rattle.esb_names.specs.Names.{points, points_behind, first_point}
use Rattle.esb_names.proofs.PointSteps.{points_at, points_differ, points_agree, points_end, points_over}
use Rattle.esb_names.proofs.names.has_same_points.Goals as goal

pub returns-then-j-b : goal.returns-then-j-b
unfolding points
returns-then-j-b c = sym (points_over _ _ _ _ c.loop-i-test.true c.if-j-b.true) ∙ c.loop-i.invariant.0

pub returns-then-first_point : goal.returns-then-first_point
unfolding points
returns-then-first_point c =
    let first = points_at c.args.a.now c.after-first.result.now c.loop-i.i c.first_length-width.result c.loop-i-test.true c.after-first.ensures c.first_length-width.ensures.value c.first_length-width.ensures.some c.first_length-width.ensures.within in
    let second = points_at c.args.b.now c.after-second.result.now c.loop-i.j c.first_length-other_width.result c.if-j-b.false c.after-second.ensures c.first_length-other_width.ensures.value c.first_length-other_width.ensures.some c.first_length-other_width.ensures.within in
    sym (ap₂ (pointwise nat_eq) first second ∙ points_differ (first_point c.after-first.result.now) (first_point c.after-second.result.now) (points_behind 0 (drop (c.loop-i.i + c.first_length-width.result) c.args.a.now)) (points_behind 0 (drop (c.loop-i.j + c.first_length-other_width.result) c.args.b.now)) (λ same. c.if-first_point.true (c.first_point.ensures ∙ same ∙ sym c.first_point-in-loop-i.ensures))) ∙ c.loop-i.invariant.0

pub loop-i-preserved : goal.loop-i-preserved
loop-i-preserved c =
    let first = points_at c.args.a.now c.after-first.result.now c.loop-i.i c.first_length-width.result c.loop-i-test.true c.after-first.ensures c.first_length-width.ensures.value c.first_length-width.ensures.some c.first_length-width.ensures.within in
    let second = points_at c.args.b.now c.after-second.result.now c.loop-i.j c.first_length-other_width.result c.if-j-b.false c.after-second.ensures c.first_length-other_width.ensures.value c.first_length-other_width.ensures.some c.first_length-other_width.ensures.within in (
      sym (ap₂ (pointwise nat_eq) first second ∙ points_agree (first_point c.after-first.result.now) (first_point c.after-second.result.now) (points_behind 0 (drop (c.loop-i.i + c.first_length-width.result) c.args.a.now)) (points_behind 0 (drop (c.loop-i.j + c.first_length-other_width.result) c.args.b.now)) (sym c.first_point.ensures ∙ c.if-first_point.false ∙ c.first_point-in-loop-i.ensures)) ∙ c.loop-i.invariant.0,
      omega (arith, c.first_length-width.ensures.within, ap length c.after-first.ensures, length-drop c.loop-i.i c.args.a.now, c.loop-i-test.true),
      omega (arith, c.first_length-other_width.ensures.within, ap length c.after-second.ensures, length-drop c.loop-i.j c.args.b.now, c.if-j-b.false),
    )

pub returns : goal.returns
unfolding points
returns c = sym (points_end _ _ _ _ c.loop-i-test.false) ∙ c.loop-i.invariant.0
