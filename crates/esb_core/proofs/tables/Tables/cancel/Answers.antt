use Rattle.std.proofs.Common.{refl, ap, arith}
use Rattle.esb_core.specs.Queue.{Queue}
use Rattle.esb_core.proofs.Keeping.{kept-replies}
use Rattle.esb_core.proofs.tables.Tables.cancel.Goals as goal

pub owe-requires : goal.owe-requires
owe-requires c =
    let more = ap (λ (q : Queue). q.promised) c.in_ok-promise.ensures.ok in
    let room = c.requires.kept.room in
    let left = c.cancel_active.ensures.spare 1 (omega (arith, more, room)) in
    omega (arith, left)

pub returns-clause-kept : goal.returns-clause-kept
returns-clause-kept c =
    let more = ap (λ (q : Queue). q.promised) c.in_ok-promise.ensures.ok in
    let room = c.requires.kept.room in
    let left = c.cancel_active.ensures.spare 1 (omega (arith, more, room)) in
    let less = ap (λ (q : Queue). q.promised) c.owe.ensures in
    kept-replies c.cancel_active.new.self _ refl refl refl refl (omega (arith, left, less)) c.cancel_active.ensures.kept
