use Rattle.esb_flags.proofs.Named.{same}
use Rattle.esb_flags.proofs.laws.same_fields.Goals as goal

pub returns : goal.returns
returns c = same
