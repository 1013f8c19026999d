use Rattle.std.proofs.Common.{refl, ap, arith}
use Rattle.esb_core.specs.Queue.{Queue}
use Rattle.esb_core.proofs.Keeping.{kept-replies}
use Rattle.esb_core.proofs.tables.Tables.reply.Goals as goal

pub returns-clause-kept : goal.returns-clause-kept
returns-clause-kept c =
    let more = ap (λ (q : Queue). q.promised) c.in_ok-promise.ensures.ok in
    let less = ap (λ (q : Queue). q.promised) c.owe.ensures in
    let room = c.requires.room in
    kept-replies c.args.self.now _ refl refl refl refl (omega (arith, more, less, room)) c.requires
