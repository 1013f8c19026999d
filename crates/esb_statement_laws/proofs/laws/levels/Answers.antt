use Rattle.esb_statement_laws.proofs.Levelled.{items_exact}
use Rattle.esb_statement_laws.proofs.laws.levels.Goals as goal

pub returns : goal.returns
returns c = items_exact
