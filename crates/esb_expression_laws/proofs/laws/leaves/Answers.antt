use Rattle.esb_expression_laws.proofs.SingleTokens.{leaf_rule}
use Rattle.esb_expression_laws.proofs.laws.leaves.Goals as goal

pub returns : goal.returns
returns c = leaf_rule
