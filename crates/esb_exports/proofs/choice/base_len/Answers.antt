use Rattle.std.proofs.Common.{length, refl, ◌∙◌}
use Rattle.esb_exports.proofs.Stars.{position_or}
use Rattle.esb_exports.proofs.choice.base_len.Goals as goal

pub returns : goal.returns
returns c = c.unwrap_or.ensures ∙ position_or c.args.key.now c.star_of.result (length c.args.key.now) c.star_of.ensures refl
