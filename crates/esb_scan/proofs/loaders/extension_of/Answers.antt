use Rattle.std.proofs.Common.{arith, rules}
use Rattle.esb_scan.proofs.Splits.{split_at_last}
use Rattle.esb_scan.specs.Loaders.{extension_of}
use Rattle.esb_scan.proofs.loaders.extension_of.Goals as goal

pub returns-in-Some : goal.returns-in-Some
unfolding extension_of
returns-in-Some c =
    let split = split_at_last 46 c.last_segment.result.now _ c.rsplit_once.ensures.cases (omega arith) in
    rw (← c.last_segment.ensures, ← split) (grind rules)

pub returns-in_default : goal.returns-in_default
unfolding extension_of
returns-in_default c =
    let split = split_at_last 46 c.last_segment.result.now _ c.rsplit_once.ensures.cases (omega arith) in
    rw (← c.last_segment.ensures, ← split) (grind rules)
