use Rattle.esb_turns.proofs.OnlyMine.{only-mine}
use Rattle.esb_turns.proofs.laws.entries_of_a_kind.Goals as goal

pub returns : goal.returns
returns g c = only-mine g.K.Kind.gives g.K.Kind.is_of g.K.Kind.others_give_none
