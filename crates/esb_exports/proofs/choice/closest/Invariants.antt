use Rattle.std.proofs.Common.{◌≡◌, take, fold, None}
use Rattle.std.specs.Option.{option_copied}
use Rattle.esb_exports.specs.Keys.{closer}
use Rattle.esb_exports.proofs.choice.closest.Given as goal

abbrev pub invariant-loop-member : goal.invariant-loop-member
invariant-loop-member l = option_copied l.best ≡ fold (closer l.path) None (take l.member-index l.members)
