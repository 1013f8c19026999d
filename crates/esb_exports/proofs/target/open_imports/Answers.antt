use Rattle.std.proofs.Common.{true, sym, ap, ◌∙◌}
use Rattle.std.proofs.lemmas.Result.{IfOk-weaker}
use Rattle.esb_exports.specs.Targets.{keyed_outcome}
use Rattle.esb_exports.proofs.Opened.{imports-Null, imports-Bool, imports-Number, imports-Str, imports-Array, imports-Object}
use Rattle.esb_exports.proofs.target.open_imports.Goals as goal

pub returns-in-Null : goal.returns-in-Null
returns-in-Null c = sym (imports-Null c.args.active.now c.args.imports.now c.args.path.now c.in-Null.is)

pub returns-in-Bool : goal.returns-in-Bool
returns-in-Bool c = sym (imports-Bool c.args.active.now c.args.imports.now c.args.path.now _ c.in-Bool.is)

pub returns-in-Number : goal.returns-in-Number
returns-in-Number c = sym (imports-Number c.args.active.now c.args.imports.now c.args.path.now _ c.in-Number.is)

pub returns-in-Str : goal.returns-in-Str
returns-in-Str c = sym (imports-Str c.args.active.now c.args.imports.now c.args.path.now _ c.in-Str.is)

pub returns-in-Array : goal.returns-in-Array
returns-in-Array c = sym (imports-Array c.args.active.now c.args.imports.now c.args.path.now _ c.in-Array.is)

pub returns-in-Object : goal.returns-in-Object
returns-in-Object c =
    IfOk-weaker c.keyed_outcome.result _ _
    (λ outcome is. is ∙ ap (λ members. keyed_outcome true c.args.active.now members c.args.path.now) c.as_slice.ensures
    ∙ sym (imports-Object c.args.active.now c.args.imports.now c.args.path.now c.in-Object.members c.in-Object.is))
    c.keyed_outcome.ensures
