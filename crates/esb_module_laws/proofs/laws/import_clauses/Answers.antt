use Rattle.esb_module_laws.proofs.Clauses.{clause_rule}
use Rattle.esb_module_laws.proofs.laws.import_clauses.Goals as goal

pub returns : goal.returns
returns c = clause_rule
