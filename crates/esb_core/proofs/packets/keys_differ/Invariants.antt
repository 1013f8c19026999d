use Rattle.std.proofs.Common.{◌≡◌, length, map}
use Rattle.esb_wire.specs.Reading.{all_differ}
use Rattle.esb_core.proofs.packets.keys_differ.Given as goal

abbrev pub invariant-loop-rest : goal.invariant-loop-rest
invariant-loop-rest l = all_differ (map (λ pair. pair.0) l.pairs) ≡ all_differ (map (λ pair. pair.0) l.rest)

abbrev pub decreases-loop-rest : goal.decreases-loop-rest
decreases-loop-rest l = length l.rest
