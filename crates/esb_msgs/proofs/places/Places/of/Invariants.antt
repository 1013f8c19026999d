use Rattle.std.proofs.Common.{◌≡◌, ◌++◌, drop}
use Rattle.esb_msgs.specs.Lines.{starts_from, line_starts}
use Rattle.esb_msgs.proofs.places.Places.of.Given as goal

abbrev pub invariant-loop-at : goal.invariant-loop-at
invariant-loop-at l = l.starts.items ++ starts_from l.at (drop l.at l.contents) ≡ line_starts l.contents
