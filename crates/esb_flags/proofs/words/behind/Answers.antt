use Rattle.esb_flags.proofs.Cuts.{stripped}
use Rattle.esb_flags.proofs.words.behind.Goals as goal

pub returns : goal.returns
returns c = stripped c.args.front.now c.args.chars.now c.strip_prefix.result c.strip_prefix.ensures.cases
