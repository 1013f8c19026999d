use Rattle.esb_turns.proofs.OnlyMine.{ascends-made}
use Rattle.esb_turns.proofs.laws.places_go_up.Goals as goal

pub returns : goal.returns
returns g c entry seen own seen' own' made stands ascends = ascends-made entry (λ before. g.F.Fact.holds before entry) seen own seen' own' made stands ascends
