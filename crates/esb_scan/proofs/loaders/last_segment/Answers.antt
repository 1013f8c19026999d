use Rattle.std.proofs.Common.{arith, rules}
use Rattle.esb_scan.proofs.Splits.{split_at_last}
use Rattle.esb_scan.specs.Loaders.{last_segment}
use Rattle.esb_scan.proofs.loaders.last_segment.Goals as goal

pub returns-in-Some : goal.returns-in-Some
unfolding last_segment
returns-in-Some c =
    let split = split_at_last 47 c.args.path.now _ c.rsplit_once.ensures.cases (omega arith) in
    rw (← split) (grind rules)

pub returns-in-None : goal.returns-in-None
unfolding last_segment
returns-in-None c =
    let split = split_at_last 47 c.args.path.now _ c.rsplit_once.ensures.cases (omega arith) in
    rw (← split) (grind rules)
