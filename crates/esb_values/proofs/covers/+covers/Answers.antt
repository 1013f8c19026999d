use Rattle.std.proofs.Common.{true, false, ap, sym, ◌∙◌, rules, arith}
use Rattle.std.proofs.lemmas.Grind.{common_steps}
use Rattle.esb_tree.specs.declared.patterns.Bracketed.{out-Bracketed}
use Rattle.esb_value_laws.specs.Covers as spec
use Rattle.esb_values.specs.Within.{inner, covers_element}
use Rattle.esb_values.proofs.Covering.{target_name, target_array, target_object, placed_at}
use Rattle.esb_values.proofs.covers.+covers.Goals as goal

pub covers_target-returns-in-Primary : goal.covers_target-returns-in-Primary
covers_target-returns-in-Primary t c = c.is_binding.ensures ∙ sym (target_name c.args.levels _ _ c.in-Primary.is)

pub covers_target-returns-in-ArrayLiteral : goal.covers_target-returns-in-ArrayLiteral
covers_target-returns-in-ArrayLiteral t c =
    c.elements_cover.ensures
    ∙ ap (λ b. spec.elements_cover (covers_element false b) (out-Bracketed c.get.result.now).list) c.inner_levels-below.ensures
    ∙ ap (λ x. spec.elements_cover (covers_element false (inner c.args.levels)) (out-Bracketed x).list) c.get.ensures
    ∙ sym (target_array c.args.levels _ _ c.in-ArrayLiteral.is)

pub covers_target-returns-in-ObjectLiteral : goal.covers_target-returns-in-ObjectLiteral
covers_target-returns-in-ObjectLiteral t c =
    c.elements_cover-in-ObjectLiteral.ensures
    ∙ ap (λ b. spec.elements_cover (covers_element true b) (out-Bracketed c.get-in-ObjectLiteral.result.now).list) c.inner_levels-below.ensures
    ∙ ap (λ x. spec.elements_cover (covers_element true (inner c.args.levels)) (out-Bracketed x).list) c.get-in-ObjectLiteral.ensures
    ∙ sym (target_object c.args.levels _ _ c.in-ObjectLiteral.is)

pub rest_covers-returns-then-not-covers_element_of : goal.rest_covers-returns-then-not-covers_element_of
rest_covers-returns-then-not-covers_element_of t c =
    let e = placed_at (covers_element c.args.braces c.args.below) c.args.rest.now c.loop-turn.turn c.index-rest-turn.result c.index-rest-turn.is c.loop-turn-test.true in
    let i = c.loop-turn.invariant in
    first_of (search rules, grind (arith, common_steps))

pub rest_covers-loop-turn-preserved : goal.rest_covers-loop-turn-preserved
rest_covers-loop-turn-preserved t c =
    let e = placed_at (covers_element c.args.braces c.args.below) c.args.rest.now c.loop-turn.turn c.index-rest-turn.result c.index-rest-turn.is c.loop-turn-test.true in
    let i = c.loop-turn.invariant in
    first_of (search rules, grind (arith, common_steps))
