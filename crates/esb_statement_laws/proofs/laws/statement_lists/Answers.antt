use Rattle.esb_statement_laws.proofs.Levelled.{items_read}
use Rattle.esb_statement_laws.proofs.laws.statement_lists.Goals as goal

pub returns : goal.returns
returns c = items_read
