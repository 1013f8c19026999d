use Rattle.std.proofs.Common.{subst}
use Rattle.esb_reader.specs.Reader.{Gives}
use Rattle.esb_parse.proofs.Items.{function_is}
use Rattle.esb_parse.proofs.module.function.Goals as goal

pub returns : goal.returns
returns c = subst (λ r. Gives c.function.result (r c.args.at)) (function_is c.args.text.now c.args.levels) c.function.ensures
