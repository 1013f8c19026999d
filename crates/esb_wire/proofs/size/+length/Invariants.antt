use Rattle.std.proofs.Common.{◌≡◌, ◌^◌, length, min, take}
use Rattle.std.specs.List.{flat_map}
use Rattle.esb_wire.specs.Spelling.{spelling}
use Rattle.esb_wire.specs.Size.{pair_spelled}
use Rattle.esb_wire.proofs.size.+length.Given as goal

abbrev pub invariant-values_length-loop-value : goal.invariant-values_length-loop-value
invariant-values_length-loop-value l = l.total ≡ min (length (flat_map spelling (take l.value-index l.values))) (2 ^ 32)

abbrev pub invariant-pairs_length-loop-key : goal.invariant-pairs_length-loop-key
invariant-pairs_length-loop-key l = l.total ≡ min (length (flat_map pair_spelled (take l.key-index l.pairs))) (2 ^ 32)
