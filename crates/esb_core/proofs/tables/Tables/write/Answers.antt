use Rattle.std.proofs.Common.{refl, ap, sym, subst, ◌∙◌, arith, ℕ, List, slice_set}
use Rattle.esb_core.specs.Kept.{state_of}
use Rattle.esb_core.specs.Moves.{write}
use Rattle.esb_core.specs.Order.{MayClose}
use Rattle.esb_core.specs.State.{Building}
use Rattle.esb_core.specs.Steps.{moved, written_by}
use Rattle.esb_core.proofs.Keeping.{at-index, kept-written, may-close-as}
use Rattle.esb_core.proofs.Orders.{written-over}
use Rattle.esb_core.proofs.tables.Tables.write.Goals as goal

pub close_build-requires-clause-kept : goal.close_build-requires-clause-kept
close_build-requires-clause-kept c =
    kept-written c.args.self.now _ c.args.build c.write.new.self c.index_mut.result.now c.args.failures c.requires.begun c.index_mut.ensures.value c.write.ensures refl refl refl refl (omega arith) c.requires.open c.requires.kept
