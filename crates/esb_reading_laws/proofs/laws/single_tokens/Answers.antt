use Rattle.esb_reading_laws.proofs.Composed.{token_rule, token_in_rule}
use Rattle.esb_reading_laws.proofs.laws.single_tokens.Goals as goal

pub returns : goal.returns
returns c = record { kind = token_rule; test = token_in_rule }
