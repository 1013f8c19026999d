use Rattle.esb_core.proofs.Firsts.{table-stays}
use Rattle.esb_core.proofs.always.settled_tables_stay.Goals as goal

pub returns : goal.returns
returns c = λ events more n o is. table-stays events more n o is
