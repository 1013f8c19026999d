use Rattle.esb_value_laws.proofs.LevelRules.{whole_rule, whole_expression_rule, whole_bare_rule}
use Rattle.esb_value_laws.proofs.laws.levels.Goals as goal

pub returns : goal.returns
returns c = record { value = whole_rule; values = whole_expression_rule; bare = whole_bare_rule }
