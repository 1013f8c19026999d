use Rattle.std.proofs.Common.{refl, arith}
use Rattle.esb_core.proofs.Keeping.{kept-changed}
use Rattle.esb_core.proofs.tables.Tables.unclaim.Goals as goal

pub returns-clause-kept : goal.returns-clause-kept
returns-clause-kept c =
    kept-changed c.args.self.now _ c.args.build c.unclaim.new.self c.index_mut.result.now 0 c.requires.begun c.index_mut.ensures.value refl refl refl refl (omega arith) c.unclaim.ensures.stays c.requires.kept
