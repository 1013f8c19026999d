use Rattle.std.proofs.Common.{◌≡◌, List, ◌++◌, Option, Some, drop}
use Rattle.esb_flags.specs.Shapes.{◌>>=◌, each}
use Rattle.esb_flags.proofs.shapes.each.Given as goal

-- what was read before, and what is still read
abbrev with_front : {X : Type 0} → List X → Option (List X) → Option (List X)
with_front front read = read >>= λ xs. Some (front ++ xs)

abbrev pub invariant-loop-value : goal.invariant-loop-value
invariant-loop-value g l = with_front l.found (each g.T.Shaped.shape (drop l.value-index l.values)) ≡ each g.T.Shaped.shape l.values
