use Rattle.esb_turns.proofs.Owning.{gather-grown}
use Rattle.esb_turns.proofs.laws.items_stay.Goals as goal

pub returns : goal.returns
returns g c = gather-grown g.K.Kind.gives
