use Rattle.std.proofs.Common.{◌≡◌, map, take, codes}
use Rattle.esb_path.proofs.names.way.Given as goal

abbrev pub invariant-loop-left : goal.invariant-loop-left
invariant-loop-left l = map (λ name. name.now) l.steps.items ≡ map (λ _. codes "..") (take l._left-index l._left-items)
