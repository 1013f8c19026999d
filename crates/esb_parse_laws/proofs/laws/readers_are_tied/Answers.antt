use Rattle.esb_parse_laws.proofs.Turns.{knot_rule, fixed_rule, parts_rule}
use Rattle.esb_parse_laws.proofs.laws.readers_are_tied.Goals as goal

pub returns : goal.returns
returns c = record { knot = knot_rule; fixed = fixed_rule; parts = parts_rule }
