use Rattle.std.proofs.Common.{refl, ap, arith}
use Rattle.esb_core.specs.Queue.{Queue}
use Rattle.esb_core.proofs.Keeping.{kept-changed}
use Rattle.esb_core.proofs.tables.Tables.join.Goals as goal

pub returns-clause-kept : goal.returns-clause-kept
returns-clause-kept c =
    let promised = ap (λ (q : Queue). q.promised) c.in_ok-promise.ensures.ok in
    kept-changed c.args.self.now _ c.args.build c.join.new.self c.index_mut.result.now 1 c.requires.begun c.index_mut.ensures.value refl refl refl refl (omega (arith, promised)) c.join.ensures.stays c.requires.kept
