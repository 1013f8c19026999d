use Rattle.std.proofs.Common.{◌≡◌, drop, map}
use Rattle.std.specs.BTreeMap.{get_by}
use Rattle.std.specs.Cmp.Lexicographic.{slice_cmp}
use Rattle.std.specs.Option.{is_some}
use Rattle.std.specs.Ordering.{nat_cmp}
use Rattle.esb_flags.specs.Unbuilt.{all_differ}
use Rattle.esb_flags.proofs.Seen.{fresh}
use Rattle.esb_flags.proofs.unbuilt.paths_differ.Given as goal

abbrev pub invariant-loop-entry : goal.invariant-loop-entry
invariant-loop-entry l =
    fresh (λ q. is_some (get_by (λ k. slice_cmp nat_cmp q k.now) l.seen)) (map (λ entry. entry.1) (drop l.entry-index l.entries)) ≡ all_differ (map (λ entry. entry.1) l.entries)
