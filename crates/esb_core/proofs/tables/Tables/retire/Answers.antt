use Rattle.std.proofs.Common.{refl, ap}
use Rattle.esb_core.specs.Known.{Known}
use Rattle.esb_core.proofs.Keeping.{kept-replies}
use Rattle.esb_core.proofs.tables.Tables.retire.Goals as goal

pub wait-waits-requires-clause-kept : goal.wait-waits-requires-clause-kept
wait-waits-requires-clause-kept c =
    kept-replies c.args.self.now _ (ap (λ (k : Known). k.contexts) c.in_ok-retire.ensures.ok) (ap (λ (k : Known). k.active) c.in_ok-retire.ensures.ok) refl refl c.requires.kept.room c.requires.kept
