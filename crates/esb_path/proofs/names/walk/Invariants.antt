use Rattle.std.proofs.Common.{◌≡◌, map, fold}
use Rattle.esb_path.specs.Segments.{entered}
use Rattle.esb_path.proofs.names.walk.Given as goal

abbrev pub invariant-loop-segment : goal.invariant-loop-segment
invariant-loop-segment l =
    map (λ name. name.now) l.names.items ≡ fold entered (map (λ name. name.now) l.initial.names.items) (map (λ segment. segment.now) l.yielded)
