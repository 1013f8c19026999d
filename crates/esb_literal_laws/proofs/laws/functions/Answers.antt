use Rattle.esb_literal_laws.proofs.FunctionParts.{function_rule}
use Rattle.esb_literal_laws.proofs.laws.functions.Goals as goal

pub returns : goal.returns
returns c = function_rule
