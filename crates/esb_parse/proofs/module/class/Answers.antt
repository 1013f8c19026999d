use Rattle.std.proofs.Common.{subst}
use Rattle.esb_reader.specs.Reader.{Gives}
use Rattle.esb_parse.proofs.Items.{class_is}
use Rattle.esb_parse.proofs.module.class.Goals as goal

pub returns : goal.returns
returns c = subst (λ r. Gives c.class.result (r c.args.at)) (class_is c.args.text.now c.args.levels c.of_module.result c.of_module.ensures) c.class.ensures
