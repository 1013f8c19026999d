use Rattle.std.proofs.Common.{refl, arith}
use Rattle.esb_core.proofs.Keeping.{kept-replies}
use Rattle.esb_core.proofs.tables.Tables.pop.Goals as goal

pub returns-in-Some-clause-kept : goal.returns-in-Some-clause-kept
returns-in-Some-clause-kept c = let room = c.requires.kept.room in kept-replies c.args.self.now _ refl refl refl refl (omega (arith, c.pop.ensures.promised, room)) c.requires.kept
