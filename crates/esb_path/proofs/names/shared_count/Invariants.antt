use Rattle.std.proofs.Common.{length, ◌-◌, ◌+◌, ◌≡◌, ◌≤◌, map, drop}
use Rattle.esb_path.specs.Paths.{shared_count}
use Rattle.esb_path.proofs.names.shared_count.Given as goal

abbrev pub invariant-loop-count : goal.invariant-loop-count
invariant-loop-count l =
    (l.count ≤ length l.names) × (l.count ≤ length l.others)
    × (l.count + shared_count (map (λ name. name.now) (drop l.count l.names)) (map (λ name. name.now) (drop l.count l.others))
    ≡ shared_count (map (λ name. name.now) l.names) (map (λ name. name.now) l.others))

abbrev pub decreases-loop-count : goal.decreases-loop-count
decreases-loop-count l = length l.names - l.count
