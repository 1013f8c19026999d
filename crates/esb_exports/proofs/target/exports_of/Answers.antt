use Rattle.std.proofs.Common.{ap, ◌∙◌}
use Rattle.esb_json.specs.declared.value.Json.{out-Json}
use Rattle.esb_exports.specs.Units.{units_of, active_names}
use Rattle.esb_exports.specs.Targets.{answer_of, open_exports, exports_target}
use Rattle.esb_exports.proofs.Opened.{answers_due}
use Rattle.esb_exports.proofs.target.exports_of.Goals as goal

pub returns : goal.returns
unfolding exports_target
returns c =
    let value = c.args.exports.now in
    let names = c.as_slice.ensures ∙ c.in_ok-active.ensures in
    let path = c.as_slice-2.ensures ∙ c.in_ok-path.ensures ∙ ap units_of c.as_str.ensures in
    answers_due c.answer_of.result _ (c.answer_of.ensures ∙ ap answer_of (c.in_ok-outcome.ensures
    ∙ ap (λ active. open_exports active value c.as_slice-2.result.now (out-Json value)) names
    ∙ ap (λ units. open_exports (active_names c.args.conditions.now) value units (out-Json value)) path))
