use Rattle.std.proofs.Common.{arith, rules}
use Rattle.esb_scan.proofs.Splits.{split_at_last}
use Rattle.esb_scan.specs.Loaders.{stem_of}
use Rattle.esb_scan.proofs.loaders.stem_of.Goals as goal

pub returns-in-Some-rsplit_once : goal.returns-in-Some-rsplit_once
unfolding stem_of
returns-in-Some-rsplit_once c =
    let split = split_at_last 46 c.args.path.now _ c.rsplit_once.ensures.cases (omega arith) in
    rw (← c.in-Some.ensures, ← split) (grind rules)

pub returns-in-None-rsplit_once : goal.returns-in-None-rsplit_once
unfolding stem_of
returns-in-None-rsplit_once c =
    let split = split_at_last 46 c.args.path.now _ c.rsplit_once.ensures.cases (omega arith) in
    rw (← c.in-Some.ensures, ← split) (grind rules)
