use Rattle.std.proofs.Common.{◌≡◌, ◌∷◌, ◌++◌, map, take, string_bytes}
use Rattle.std.specs.List.{flat_map}
use Rattle.esb_path.specs.Segments.{slash}
use Rattle.esb_path.proofs.names.push_segments.Given as goal

abbrev pub invariant-loop-segment : goal.invariant-loop-segment
invariant-loop-segment l =
    string_bytes l.text ≡ string_bytes l.initial.text ++ flat_map (λ segment. slash ∷ segment) (map (λ segment. segment.now) (take l.segment-index l.segments))
