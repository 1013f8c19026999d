use Rattle.std.proofs.Common.{◌≡◌, drop, map}
use Rattle.std.specs.List.{list_any}
use Rattle.std.specs.Str.{bytes_eq}
use Rattle.esb_core.proofs.packets.has_key.Given as goal

abbrev pub invariant-loop-pair : goal.invariant-loop-pair
invariant-loop-pair l = list_any (bytes_eq l.key) (map (λ pair. pair.0) l.pairs) ≡ list_any (bytes_eq l.key) (map (λ pair. pair.0) (drop l.pair-index l.pairs))
