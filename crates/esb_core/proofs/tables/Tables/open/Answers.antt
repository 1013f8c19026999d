use Rattle.std.proofs.Common.{refl, arith}
use Rattle.esb_core.proofs.Keeping.{kept-changed}
use Rattle.esb_core.proofs.tables.Tables.open.Goals as goal

pub returns-in-Some-clause-kept : goal.returns-in-Some-clause-kept
returns-in-Some-clause-kept c =
    kept-changed c.args.self.now _ c.args.build c.open.new.self c.index_mut.result.now 0 c.requires.begun c.index_mut.ensures.value refl refl refl refl (omega arith) c.open.ensures.stays c.requires.kept
