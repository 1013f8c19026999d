use Rattle.std.proofs.Common.{◌≡◌, drop}
use Rattle.esb_core.specs.Allowed.{first_from}
use Rattle.esb_core.proofs.tables.Tables.is_first.Given as goal

abbrev pub invariant-loop-number : goal.invariant-loop-number
invariant-loop-number l = first_from 0 l.self.builds.items ≡ first_from l.number (drop l.number l.self.builds.items)
