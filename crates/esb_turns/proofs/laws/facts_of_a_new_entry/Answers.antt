use Rattle.esb_turns.proofs.Owning.{each-made}
use Rattle.esb_turns.proofs.laws.facts_of_a_new_entry.Goals as goal

pub returns : goal.returns
returns g c entry seen own seen' own' made stands each =
    each-made g.F.Fact.holds entry (λ before. g.F.Fact.holds before entry) seen own seen' own' made stands (λ before grew told. told) each
