use Rattle.esb_turns.proofs.Owning.{each-whole}
use Rattle.esb_turns.proofs.laws.facts_hold_of_all.Goals as goal

pub returns : goal.returns
returns g c list own whole each = record { each = each-whole g.F.Fact.holds list own whole each }
