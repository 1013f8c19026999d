use Rattle.std.proofs.Common.{◌∙◌, ap}
use Rattle.std.specs.Vec.{vec_items}
use Rattle.esb_names.specs.Names.{points}
use Rattle.esb_early.proofs.RepeatedSteps.{adds_name}
use Rattle.esb_early.proofs.repeated.add.Goals as goal

pub returns : goal.returns
returns c = adds_name vec_items c.args.text.now c.args.name c.in_ok-key.key _ _ _ (c.in_ok-key.ensures ∙ ap points c.bytes_of.ensures) c.in_ok-is_new.ensures.added c.in_ok-is_new.ensures.updates
