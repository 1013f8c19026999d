use Rattle.std.proofs.Common.{sym, ap, ◌∙◌}
use Rattle.std.proofs.lemmas.Result.{IfOk-weaker}
use Rattle.esb_exports.specs.Targets.{object_exports}
use Rattle.esb_exports.proofs.Opened.{exports-Null, exports-Bool, exports-Number, exports-Str, exports-Array, exports-Object}
use Rattle.esb_exports.proofs.target.open_exports.Goals as goal

pub returns-in-Null : goal.returns-in-Null
returns-in-Null c = sym (exports-Null c.args.active.now c.args.exports.now c.args.path.now c.in-Null.is)

pub returns-in-Bool : goal.returns-in-Bool
returns-in-Bool c = sym (exports-Bool c.args.active.now c.args.exports.now c.args.path.now _ c.in-Bool.is)

pub returns-in-Number : goal.returns-in-Number
returns-in-Number c = sym (exports-Number c.args.active.now c.args.exports.now c.args.path.now _ c.in-Number.is)

pub returns-in-Str : goal.returns-in-Str
returns-in-Str c =
    IfOk-weaker c.main_outcome.result _ _ (λ outcome is. is ∙ sym (exports-Str c.args.active.now c.args.exports.now c.args.path.now _ c.in-Str.is)) c.main_outcome.ensures

pub returns-in-Array : goal.returns-in-Array
returns-in-Array c =
    IfOk-weaker c.main_outcome-in-Array.result _ _ (λ outcome is. is ∙ sym (exports-Array c.args.active.now c.args.exports.now c.args.path.now _ c.in-Array.is)) c.main_outcome-in-Array.ensures

pub returns-in-Object : goal.returns-in-Object
returns-in-Object c =
    IfOk-weaker c.object_exports.result _ _
    (λ outcome is. is ∙ ap (λ members. object_exports c.args.active.now c.args.exports.now members c.args.path.now) c.as_slice.ensures
    ∙ sym (exports-Object c.args.active.now c.args.exports.now c.args.path.now c.in-Object.members c.in-Object.is))
    c.object_exports.ensures
