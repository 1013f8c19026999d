use Rattle.std.proofs.Common.{◌≡◌, ℕ, List, [], take, drop}
use Rattle.std.specs.BTreeMap.{get_by}
use Rattle.std.specs.Cmp.Lexicographic.{slice_cmp}
use Rattle.std.specs.List.{list_any}
use Rattle.std.specs.Option.{is_some}
use Rattle.std.specs.Ordering.{nat_cmp}
use Rattle.esb_flags.specs.Flags.{first_fault, is_there, once}
use Rattle.esb_flags.proofs.flags.first_fault.Given as goal

abbrev pub invariant-loop-index : goal.invariant-loop-index
invariant-loop-index l =
    (first_fault (take l.index l.words) (drop l.index l.words) ≡ first_fault [] l.words)
    × ((q : List ℕ) → is_some (get_by (λ k. slice_cmp nat_cmp q k.now) l.seen) ≡ list_any (λ word. is_there q (once word)) (take l.index l.words))
