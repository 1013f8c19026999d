use Rattle.std.proofs.Common.{◌≡◌, length}
use Rattle.esb_core.specs.Allowed.{is_part}
use Rattle.esb_core.proofs.build.is_part.Given as goal

-- what is left answers what all of it does
abbrev pub invariant-loop-left : goal.invariant-loop-left
invariant-loop-left l = is_part l.failures l.files ≡ is_part l.rest l.left

abbrev pub decreases-loop-left : goal.decreases-loop-left
decreases-loop-left l = length l.left
