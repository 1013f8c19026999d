use Rattle.std.proofs.Common.{◌≡◌, ◌+◌, ◌++◌, take}
use Rattle.esb_core.specs.Steps.{results}
use Rattle.esb_core.proofs.replies.Replies.owe_results.Given as goal

abbrev pub invariant-loop-number : goal.invariant-loop-number
invariant-loop-number l = (l.self.owed ≡ l.fn.self.owed ++ results l.build (take l.number l.waiting)) × (l.self.promised + l.number ≡ l.fn.self.promised)
