use Rattle.std.proofs.Common.{refl}
use Rattle.esb_core.proofs.Keeping.{kept-replies}
use Rattle.esb_core.proofs.tables.Tables.step.Goals as goal

pub returns-in-EndOfInput-clause-kept : goal.returns-in-EndOfInput-clause-kept
returns-in-EndOfInput-clause-kept c = kept-replies c.args.self.now _ refl refl refl refl c.requires.kept.room c.requires.kept
