use Rattle.esb_flags.proofs.Cuts.{cut_back}
use Rattle.esb_flags.proofs.words.before.Goals as goal

pub returns : goal.returns
returns c = cut_back c.args.back.now c.args.chars.now c.strip_suffix.result c.strip_suffix.ensures.cases
