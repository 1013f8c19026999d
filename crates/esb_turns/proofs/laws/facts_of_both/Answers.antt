use Rattle.std.proofs.Common.{◌++◌, refl}
use Rattle.esb_turns.proofs.Owning.{each-joined}
use Rattle.esb_turns.proofs.laws.facts_of_both.Goals as goal

pub returns : goal.returns
returns g c left right both own more p q stands stands' each each' =
    each-joined g.F.Fact.holds left right both own more (own ++ more) p q stands stands' refl each each'
