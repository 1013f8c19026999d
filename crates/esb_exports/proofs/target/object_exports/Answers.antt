use Rattle.std.proofs.Common.{sym, ◌∙◌}
use Rattle.std.proofs.lemmas.Result.{IfOk-weaker}
use Rattle.esb_exports.proofs.Opened.{object-main, object-mixed, object-keyed}
use Rattle.esb_exports.proofs.target.object_exports.Goals as goal

pub returns-then-has_condition : goal.returns-then-has_condition
returns-then-has_condition c =
    sym (object-mixed c.args.active.now c.args.exports.now c.args.members.now c.args.path.now (sym c.has_subpath.ensures ∙ c.if-has_subpath.true) (sym c.has_condition.ensures ∙ c.if-has_condition.true))

pub returns-then-has_subpath : goal.returns-then-has_subpath
returns-then-has_subpath c =
    IfOk-weaker c.keyed_outcome.result _ _
    (λ outcome is. is ∙ sym (object-keyed c.args.active.now c.args.exports.now c.args.members.now c.args.path.now (sym c.has_subpath.ensures ∙ c.if-has_subpath.true) (sym c.has_condition.ensures ∙ c.if-has_condition.false)))
    c.keyed_outcome.ensures

pub returns : goal.returns
returns c =
    IfOk-weaker c.main_outcome.result _ _
    (λ outcome is. is ∙ sym (object-main c.args.active.now c.args.exports.now c.args.members.now c.args.path.now (sym c.has_subpath.ensures ∙ c.if-has_subpath.false)))
    c.main_outcome.ensures
