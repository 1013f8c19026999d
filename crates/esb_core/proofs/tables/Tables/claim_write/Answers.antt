use Rattle.std.proofs.Common.{refl, arith}
use Rattle.esb_core.proofs.Keeping.{kept-claimed}
use Rattle.esb_core.proofs.tables.Tables.claim_write.Goals as goal

pub returns-clause-kept : goal.returns-clause-kept
returns-clause-kept c =
    kept-claimed c.args.self.now _ c.args.build c.args.worker c.claim_write.new.self c.index_mut.result.now c.requires.begun c.index_mut.ensures.value c.claim_write.ensures refl refl refl refl (omega arith)
    c.requires.settled c.requires.open c.requires.kept
