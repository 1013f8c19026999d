use Rattle.esb_statement_laws.proofs.Levelled.{statement_keeps}
use Rattle.esb_statement_laws.proofs.laws.nearest_if.Goals as goal

pub returns : goal.returns
returns c = λ text c n r d x. statement_keeps text c n r x d
