use Rattle.std.proofs.Common.{◌≡◌, ◌-◌, vec_len}
use Rattle.esb_core.specs.Kept.{IsKept, state_of}
use Rattle.esb_core.proofs.tables.Tables.pass_over.Given as goal

abbrev pub invariant-loop-self : goal.invariant-loop-self
invariant-loop-self l = IsKept l.self × (state_of l.self ≡ state_of l.fn.self) × (l.self.replies ≡ l.fn.self.replies)

abbrev pub decreases-loop-self : goal.decreases-loop-self
decreases-loop-self l = vec_len l.self.builds - l.self.passed
