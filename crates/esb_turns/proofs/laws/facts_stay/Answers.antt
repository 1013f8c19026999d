use Rattle.esb_turns.proofs.Owning.{each-grown}
use Rattle.esb_turns.proofs.laws.facts_stay.Goals as goal

pub returns : goal.returns
returns g c = each-grown g.F.Fact.holds
