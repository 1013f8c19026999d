use Rattle.esb_json.proofs.Deep.{one_value}
use Rattle.esb_json.proofs.laws.one_value.Goals as goal

pub returns : goal.returns
returns c = one_value
