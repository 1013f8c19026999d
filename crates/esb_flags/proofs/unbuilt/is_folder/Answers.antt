use Rattle.std.proofs.Common.{None, lit<}
use Rattle.std.proofs.lemmas.Str.Pattern.{strip_prefix_char}
use Rattle.esb_flags.proofs.Cuts.{not_below}
use Rattle.esb_flags.proofs.unbuilt.is_folder.Goals as goal

pub returns-in-None : goal.returns-in-None
returns-in-None c = not_below c.args.path.now (strip_prefix_char 47 c.args.path.now None c.in-None.ensures.cases (lit< tt))
