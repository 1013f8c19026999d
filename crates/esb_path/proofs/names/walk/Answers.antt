use Rattle.std.proofs.Common.{map, fold, ap, ◌∙◌, lit<}
use Rattle.std.proofs.lemmas.Iterator.Splits.{YieldsList-from_str_split}
use Rattle.std.proofs.lemmas.Iterator.Consumers.{YieldsList-end}
use Rattle.esb_path.specs.Segments.{entered}
use Rattle.esb_path.proofs.names.walk.Goals as goal

pub returns : goal.returns
returns c =
    let split = c.split-segment-items.ensures in
    let same = c.into_iter-segment-iterator.ensures.into_iter_gives in
    let ends = YieldsList-end (YieldsList-from_str_split {s = c.into_iter-segment-iterator.result} 47 c.args.path.now (lit< tt) (cc) (cc) (cc)) c.loop-segment.yielded _ c.loop-segment.yielded_by _ _ c.in-None.is c.next.ensures.steps in
    c.loop-segment.invariant ∙ ap (fold entered (map (λ name. name.now) c.args.names.now.items)) ends.0
