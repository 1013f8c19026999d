use Rattle.std.proofs.Common.{subst}
use Rattle.esb_reader.specs.Reader.{Gives}
use Rattle.esb_parse.proofs.Items.{value_is}
use Rattle.esb_parse.proofs.module.value.Goals as goal

pub returns : goal.returns
returns c = subst (λ r. Gives c.value_below.result (r c.args.at)) (value_is c.args.text.now c.args.levels c.of_module.result c.of_module.ensures) c.value_below.ensures
