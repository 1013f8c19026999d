use Rattle.std.proofs.Common.{length, sym, ◌∙◌}
use Rattle.std.proofs.lemmas.Result.{err_from_is_err_and}
use Rattle.esb_json.proofs.Counts.{characters_short, characters_done, characters_stop, characters_go_on, characters_out}
use Rattle.esb_json.proofs.strings.string_of.Goals as goal

pub returns-in_default : goal.returns-in_default
returns-in_default c = characters_short c.loop.units (length c.args.bytes.now) c.loop.counter c.loop.rest.now _ c.in_default.ensures.cases c.loop.invariant

pub returns-then-first-eq34 : goal.returns-then-first-eq34
returns-then-first-eq34 c =
    characters_done c.loop.units (length c.args.bytes.now) c.loop.counter c.loop.rest.now c.in-Some.first.now c.in-Some.after.now _ c.loop-test.true c.in-Some.ensures.cases.0 c.if-first-eq34.true c.loop.invariant

pub returns-in_err-code : goal.returns-in_err-code
returns-in_err-code c =
    let p = err_from_is_err_and c.from_residual.result c.from_residual.ensures.1 in
    rw (p.1, p.2) (characters_stop _ c.loop.units (length c.args.bytes.now) c.loop.counter c.loop.rest.now c.in-Some.first.now c.in-Some.after.now _ c.loop-test.true c.in-Some.ensures.cases.0 c.if-first-eq34.false c.in_err-code.ensures.read c.loop.invariant)

pub loop-preserved : goal.loop-preserved
loop-preserved c =
    rw c.in_ok-push_units.ensures.ok (characters_go_on c.loop.units (length c.args.bytes.now) c.loop.counter c.loop.rest.now c.in-Some.first.now c.in-Some.after.now c.in_ok-code.code c.in_ok-code.after.now _ c.loop-test.true c.in-Some.ensures.cases.0 c.if-first-eq34.false c.in_ok-code.ensures.read c.loop.invariant)

pub returns : goal.returns
returns c = characters_out c.loop.units (length c.args.bytes.now) c.loop.counter c.loop.rest.now _ c.loop-test.false c.loop.invariant
