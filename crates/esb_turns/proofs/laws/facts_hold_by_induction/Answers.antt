use Rattle.esb_turns.proofs.Owning.{each-by-induction}
use Rattle.esb_turns.proofs.laws.facts_hold_by_induction.Goals as goal

pub returns : goal.returns
returns g c = each-by-induction g.F.Fact.holds
