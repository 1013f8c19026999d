use Rattle.esb_expression_laws.proofs.ElementLists.{brackets_rule}
use Rattle.esb_expression_laws.proofs.laws.lists.Goals as goal

pub returns : goal.returns
returns c = brackets_rule
