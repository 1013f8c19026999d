use Rattle.std.proofs.Common.{◌≡◌, length, refl, arith}
use Rattle.std.proofs.lemmas.Result.{err_from_is_err_and}
use Rattle.esb_json.specs.Reading.{spaced_at, member_at, value_at}
use Rattle.esb_json.proofs.Counts.{items_go_on, items_done, items_fail, items_short, items_stop, items_out}
use Rattle.esb_json.proofs.reading.+value.Goals as goal

pub values_of-returns-in_err-value : goal.values_of-returns-in_err-value
values_of-returns-in_err-value t c =
    let p = err_from_is_err_and c.from_residual.result c.from_residual.ensures.1 in
    rw (p.1, p.2) (items_stop (spaced_at (value_at c.args.depth)) 0x5D _ c.loop.values (length c.args.bytes.now) c.loop.counter c.loop.rest.now _ c.loop-test.true c.in_err-value.ensures c.loop.invariant)

pub values_of-returns-in_default : goal.values_of-returns-in_default
values_of-returns-in_default t c = items_short (spaced_at (value_at c.args.depth)) 0x5D c.loop.values (length c.args.bytes.now) c.loop.counter c.loop.rest.now c.in_ok-value.value c.in_ok-value.after.now _ c.loop-test.true c.in_ok-value.ensures c.in_default.ensures.cases c.loop.invariant

pub values_of-returns-in-93 : goal.values_of-returns-in-93
values_of-returns-in-93 t c =
    rw c.in_ok-push.ensures.ok (items_done (spaced_at (value_at c.args.depth)) 0x5D c.loop.values (length c.args.bytes.now) c.loop.counter c.loop.rest.now c.in_ok-value.value c.in_ok-value.after.now c.in-Some.next.now c.in-Some.more.now _ c.loop-test.true refl refl c.in_ok-value.ensures c.in-Some.ensures.cases.0 c.in-93.is c.loop.invariant)

pub values_of-returns-in_default-next : goal.values_of-returns-in_default-next
values_of-returns-in_default-next t c =
    items_fail (spaced_at (value_at c.args.depth)) 0x5D c.loop.values (length c.args.bytes.now) c.loop.counter c.loop.rest.now c.in_ok-value.value c.in_ok-value.after.now c.in-Some.next.now c.in-Some.more.now _ c.loop-test.true c.in_ok-value.ensures c.in-Some.ensures.cases.0 (λ (p : c.in-Some.next.now ≡ 0x2C). omega arith) (λ (p : c.in-Some.next.now ≡ 0x5D). omega arith) c.loop.invariant

pub values_of-loop-preserved : goal.values_of-loop-preserved
values_of-loop-preserved t c =
    rw c.in_ok-push.ensures.ok (items_go_on (spaced_at (value_at c.args.depth)) 0x5D c.loop.values (length c.args.bytes.now) c.loop.counter c.loop.rest.now c.in_ok-value.value c.in_ok-value.after.now c.in-Some.next.now c.in-Some.more.now _ c.loop-test.true c.in_ok-value.ensures c.in-Some.ensures.cases.0 c.in-44.is c.loop.invariant)

pub values_of-returns : goal.values_of-returns
values_of-returns t c = items_out (spaced_at (value_at c.args.depth)) 0x5D c.loop.values (length c.args.bytes.now) c.loop.counter c.loop.rest.now _ c.loop-test.false c.loop.invariant

pub members_of-returns-in_err-member : goal.members_of-returns-in_err-member
members_of-returns-in_err-member t c =
    let p = err_from_is_err_and c.from_residual.result c.from_residual.ensures.1 in
    rw (p.1, p.2) (items_stop (member_at (value_at c.args.depth)) 0x7D _ c.loop.members (length c.args.bytes.now) c.loop.counter c.loop.rest.now _ c.loop-test.true c.in_err-member.ensures c.loop.invariant)

pub members_of-returns-in_default : goal.members_of-returns-in_default
members_of-returns-in_default t c = items_short (member_at (value_at c.args.depth)) 0x7D c.loop.members (length c.args.bytes.now) c.loop.counter c.loop.rest.now c.in_ok-member.member c.in_ok-member.after.now _ c.loop-test.true c.in_ok-member.ensures c.in_default.ensures.cases c.loop.invariant

pub members_of-returns-in-125 : goal.members_of-returns-in-125
members_of-returns-in-125 t c =
    rw c.in_ok-push.ensures.ok (items_done (member_at (value_at c.args.depth)) 0x7D c.loop.members (length c.args.bytes.now) c.loop.counter c.loop.rest.now c.in_ok-member.member c.in_ok-member.after.now c.in-Some.next.now c.in-Some.more.now _ c.loop-test.true refl refl c.in_ok-member.ensures c.in-Some.ensures.cases.0 c.in-125.is c.loop.invariant)

pub members_of-returns-in_default-next : goal.members_of-returns-in_default-next
members_of-returns-in_default-next t c =
    items_fail (member_at (value_at c.args.depth)) 0x7D c.loop.members (length c.args.bytes.now) c.loop.counter c.loop.rest.now c.in_ok-member.member c.in_ok-member.after.now c.in-Some.next.now c.in-Some.more.now _ c.loop-test.true c.in_ok-member.ensures c.in-Some.ensures.cases.0 (λ (p : c.in-Some.next.now ≡ 0x2C). omega arith) (λ (p : c.in-Some.next.now ≡ 0x7D). omega arith) c.loop.invariant

pub members_of-loop-preserved : goal.members_of-loop-preserved
members_of-loop-preserved t c =
    rw c.in_ok-push.ensures.ok (items_go_on (member_at (value_at c.args.depth)) 0x7D c.loop.members (length c.args.bytes.now) c.loop.counter c.loop.rest.now c.in_ok-member.member c.in_ok-member.after.now c.in-Some.next.now c.in-Some.more.now _ c.loop-test.true c.in_ok-member.ensures c.in-Some.ensures.cases.0 c.in-44.is c.loop.invariant)

pub members_of-returns : goal.members_of-returns
members_of-returns t c = items_out (member_at (value_at c.args.depth)) 0x7D c.loop.members (length c.args.bytes.now) c.loop.counter c.loop.rest.now _ c.loop-test.false c.loop.invariant
