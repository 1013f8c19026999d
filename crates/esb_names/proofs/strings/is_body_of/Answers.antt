use Rattle.std.proofs.Common.{◌+◌, length, drop, sym, ap, ◌∙◌, arith, length-drop}
use Rattle.std.specs.Prelude.{nat_eq}
use Rattle.std.specs.Cmp.Lexicographic.{pointwise}
use Rattle.esb_token.specs.Strings.{units_from}
use Rattle.esb_names.proofs.StringSteps.{value_stops, value_longer, value_differs, value_agrees, value_over}
use Rattle.esb_names.proofs.strings.is_body_of.Goals as goal
use Rattle.esb_names.proofs.strings.is_body_of.Goals.{in-Some+else-count-word+else-unit-wanted, in-None}

pub returns-then-width-eq0 : goal.returns-then-width-eq0
returns-then-width-eq0 c = sym (value_stops c.args.quote c.args.body.now c.after-rest.result.now c.args.word.now c.loop-at.at c.loop-at.count c.piece_length-width.result c.after-rest.ensures c.piece_length-width.ensures.value (omega arith)) ∙ c.loop-at.invariant.0

pub returns-then-count-word : goal.returns-then-count-word
returns-then-count-word c = sym (value_longer c.args.quote c.args.body.now c.after-rest.result.now c.args.word.now c.loop-at.at c.loop-at.count c.piece_length-width.result c.in-Some.unit c.after-rest.ensures c.piece_length-width.ensures.value (omega arith) c.piece_length-width.ensures.within (sym c.in-Some.is ∙ c.first_of_piece-first.ensures) c.if-count-word.true) ∙ c.loop-at.invariant.0

pub returns-then-unit-wanted : goal.returns-then-unit-wanted
returns-then-unit-wanted c = sym (value_differs c.args.quote c.args.body.now c.after-rest.result.now c.args.word.now c.loop-at.at c.loop-at.count c.piece_length-width.result c.in-Some.unit c.after-rest.ensures c.piece_length-width.ensures.value (omega arith) c.piece_length-width.ensures.within (sym c.in-Some.is ∙ c.first_of_piece-first.ensures) c.if-count-word.false (λ same. c.if-unit-wanted.true (same ∙ sym c.unit_at-wanted.ensures.value))) ∙ c.loop-at.invariant.0

pub loop-at-preserved : goal.loop-at-preserved
loop-at-preserved c =
    let here = c.after-rest.ensures in
    let is = c.piece_length-width.ensures.value in
    let within = c.piece_length-width.ensures.within in
    let far = length-drop c.loop-at.at c.args.body.now in
    elim c.match-first.branch [
      | in-Some+else-count-word+else-unit-wanted w ↦ (
        ap (λ n. pointwise nat_eq (units_from c.args.quote 0 (drop (c.loop-at.at + c.piece_length-width.result) c.args.body.now)) (drop n c.args.word.now)) w.count-is
            ∙ sym (value_agrees c.args.quote c.args.body.now c.after-rest.result.now c.args.word.now c.loop-at.at c.loop-at.count c.piece_length-width.result w.in-Some.unit here is (omega arith) within (sym w.in-Some.is ∙ c.first_of_piece-first.ensures) w.if-count-word.false (w.if-unit-wanted.false ∙ w.unit_at-wanted.ensures.value) (omega (arith, w.if-unit-wanted.false, w.unit_at-wanted.ensures.within)))
            ∙ c.loop-at.invariant.0,
        omega (arith, within, ap length here, far),
        omega (arith, w.count-is, w.if-count-word.false),
      )
      | in-None w ↦ (
        ap (λ n. pointwise nat_eq (units_from c.args.quote 0 (drop (c.loop-at.at + c.piece_length-width.result) c.args.body.now)) (drop n c.args.word.now)) w.count-is
            ∙ sym (value_over c.args.quote c.args.body.now c.after-rest.result.now c.args.word.now c.loop-at.at c.loop-at.count c.piece_length-width.result here is (omega arith) within (sym w.in-None.is ∙ c.first_of_piece-first.ensures))
            ∙ c.loop-at.invariant.0,
        omega (arith, within, ap length here, far),
        omega (arith, w.count-is, c.loop-at.invariant.2),
      )
    ]
