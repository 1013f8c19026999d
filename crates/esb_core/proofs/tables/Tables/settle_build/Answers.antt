use Rattle.std.proofs.Common.{refl, arith}
use Rattle.esb_core.proofs.Keeping.{kept-settled}
use Rattle.esb_core.proofs.tables.Tables.settle_build.Goals as goal

pub returns-clause-kept : goal.returns-clause-kept
returns-clause-kept c =
    kept-settled c.args.self.now _ c.args.build c.end.new.self c.index_mut.result.now c.args.outcome c.requires.begun c.index_mut.ensures.value c.end.ensures refl refl refl refl (omega arith) c.requires.unsettled c.requires.kept
