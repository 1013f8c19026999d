use Rattle.esb_turns.proofs.Owning.{gather-made}
use Rattle.esb_turns.proofs.laws.items_of_a_new_entry.Goals as goal

pub returns : goal.returns
returns g c entry seen own seen' own' made stands = gather-made g.K.Kind.gives entry (λ before. g.F.Fact.holds before entry) seen own seen' own' made stands
