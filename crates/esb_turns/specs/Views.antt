-- What a view counts for, and the views that a step makes.
use Rattle.std.specs.Prelude.{◌≡◌, ℕ, ◌+◌, ◌-◌, List, [], ◌∷◌, ◌++◌, length, if◌then◌else◌, ◌==◌, nat_lt, All, Some, slice_get}
use Rattle.esb_turns.specs.declared.view.Stage.{Stage}
use Rattle.esb_turns.specs.declared.view.Stage.TheVariants.{Idle, Waiting, Serving}
use Rattle.esb_turns.specs.declared.view.View.{View}

-- 1 where the two numbers are the same
abbrev pub one : ℕ → ℕ → ℕ
one k n = if k == n then 1 else 0

-- 1 where k is below n
abbrev pub below : ℕ → ℕ → ℕ
below k n = if nat_lt k n then 1 else 0

-- f of each, added up
abbrev pub total : {A : Type 0} → (A → ℕ) → List A → ℕ
total f [] = 0
total f (x ∷ xs) = f x + total f xs

-- 1 where the caller waits with the ticket k
abbrev pub waits_at : ℕ → Stage → ℕ
waits_at k Idle = 0
waits_at k (Waiting n) = one k n
waits_at k Serving = 0

-- 1 where the caller has the turn
abbrev pub serves_at : Stage → ℕ
serves_at Idle = 0
serves_at (Waiting n) = 0
serves_at Serving = 1

-- 1 where the caller has a ticket
abbrev pub holds_at : Stage → ℕ
holds_at Idle = 0
holds_at (Waiting n) = 1
holds_at Serving = 1

module _ {E : Type 0} where
  abbrev pub waits : ℕ → View E → ℕ
  waits k v = waits_at k v.stage

  abbrev pub serves : View E → ℕ
  serves v = serves_at v.stage

  abbrev pub holds_ticket : View E → ℕ
  holds_ticket v = holds_at v.stage

  abbrev pub shares_in : View E → ℕ
  shares_in v = v.shares

  -- how often the place k is among these entries
  abbrev pub times : ℕ → List (ℕ × E) → ℕ
  times k own = total (λ p. one k p.0) own

  abbrev pub owns : ℕ → View E → ℕ
  owns k v = times k v.own

  -- each of these entries stands in the list, at its place
  abbrev pub Stands : List E → List (ℕ × E) → Type 0
  Stands list own = All (λ p. slice_get list p.0 ≡ Some p.1) own

  -- these are the entries of the list, each once, and no others
  abbrev pub IsWhole : List E → List (ℕ × E) → Type 0
  IsWhole list own = ((k : ℕ) → times k own ≡ below k (length list)) × Stands list own

  abbrev pub view : Stage → List E → List E → List (ℕ × E) → ℕ → View E
  view stage seen told own shares = record { stage = stage; seen = seen; told = told; own = own; shares = shares }

  abbrev pub newcomer : ℕ → View E
  newcomer shares = view Idle [] [] [] shares

  -- no caller has it any more
  abbrev pub spent : View E
  spent = view Idle [] [] [] 0

  -- v, with this ticket
  abbrev pub waiting : ℕ → View E → View E
  waiting n v = view (Waiting n) v.seen v.told v.own v.shares

  -- v, with the turn, which has seen the whole list
  abbrev pub serving : List E → View E → View E
  serving list v = view Serving list v.told v.own v.shares

  -- v after its turn, in which it made these entries
  abbrev pub left_with : List E → List (ℕ × E) → View E → View E
  left_with list more v = view Idle list v.told (v.own ++ more) v.shares

  -- what is left of v, where another is given some of its shares
  abbrev pub fewer : ℕ → View E → View E
  fewer n v = view v.stage v.seen v.told v.own (v.shares - n)

  -- the other, which has seen as much
  abbrev pub partner : ℕ → View E → View E
  partner n v = view Idle v.seen [] [] n

  -- v and w in one
  abbrev pub both : View E → View E → View E
  both v w = view v.stage v.seen w.seen (v.own ++ w.own) (v.shares + w.shares)

  -- v, which has now compared what it was told with what it has seen
  abbrev pub informed : List E → View E → View E
  informed list v = view v.stage list [] v.own v.shares
