use Rattle.esb_statement_laws.proofs.Levelled.{statement_read}
use Rattle.esb_statement_laws.proofs.laws.statements.Goals as goal

pub returns : goal.returns
returns c = λ text c n r d x. statement_read text c n r x d
