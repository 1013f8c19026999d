use Rattle.std.proofs.Common.{◌≡◌, drop}
use Rattle.esb_names.specs.Names.{has_escape}
use Rattle.esb_names.proofs.names.has_escape.Given as goal

abbrev pub invariant-loop-byte : goal.invariant-loop-byte
invariant-loop-byte l = has_escape (drop l.byte-index l.name) ≡ has_escape l.name
