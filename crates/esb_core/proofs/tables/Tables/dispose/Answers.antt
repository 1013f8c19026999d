use Rattle.std.proofs.Common.{refl, sym, ap, ◌∙◌, arith}
use Rattle.esb_core.specs.Kept.{state_of}
use Rattle.esb_core.specs.Known.{Known}
use Rattle.esb_core.specs.Moves.{remove}
use Rattle.esb_core.specs.State.{State}
use Rattle.esb_core.specs.Steps.{moved, active_of, met}
use Rattle.esb_core.specs.Queue.{Queue}
use Rattle.esb_core.proofs.Keeping.{kept-builds, canceled-idle}
use Rattle.esb_core.proofs.Orders.{moved-ordered, ordered-as}
use Rattle.esb_core.proofs.tables.Tables.dispose.Goals as goal

pub owe-requires : goal.owe-requires
owe-requires c =
    let more = ap (λ (q : Queue). q.promised) c.in_ok-promise.ensures.ok in
    let room = c.requires.kept.room in
    let left = c.cancel_active.ensures.spare 1 (omega (arith, more, room)) in
    omega (arith, left)

pub returns-clause-kept : goal.returns-clause-kept
returns-clause-kept c =
    let more = ap (λ (q : Queue). q.promised) c.in_ok-promise.ensures.ok in
    let room = c.requires.kept.room in
    let left = c.cancel_active.ensures.spare 1 (omega (arith, more, room)) in
    let less = ap (λ (q : Queue). q.promised) c.owe.ensures in
    let s : State = state_of (record c.args.self.now { replies = c.promise.new.self }) in
    let idle = ap (λ (t : State). active_of t c.args.key) c.cancel_active.ensures.state ∙ canceled-idle s (met s c.args.key) 0 c.args.key (active_of s c.args.key) refl (sym c.is_settled.ensures ∙ c.if-is_settled.false) in
    let gone = moved-ordered (state_of c.cancel_active.new.self) (remove c.args.key) idle c.cancel_active.ensures.kept.ordered in
    kept-builds c.cancel_active.new.self _ refl refl (omega (arith, left, less))
    (ordered-as (moved (state_of c.cancel_active.new.self) (remove c.args.key)) _ (ap (λ (k : Known). k.contexts) c.remove.ensures) (ap (λ (k : Known). k.active) c.remove.ensures) refl gone)
    c.cancel_active.ensures.kept
