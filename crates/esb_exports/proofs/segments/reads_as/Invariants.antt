use Rattle.std.proofs.Common.{◌≡◌, map, drop}
use Rattle.std.specs.Str.{bytes_eq}
use Rattle.esb_exports.specs.Segments.{lowered, unescaped}
use Rattle.esb_exports.proofs.segments.reads_as.Given as goal

abbrev pub invariant-loop-byte : goal.invariant-loop-byte
invariant-loop-byte l =
    bytes_eq (map lowered (unescaped l.rest)) (drop l.byte-index l.name) ≡ bytes_eq (map lowered (unescaped l.segment)) l.name
