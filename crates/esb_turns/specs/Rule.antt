-- The rule of the lock's table.
use Rattle.std.specs.Prelude.{◌≡◌, ℕ, ◌+◌, ◌%◌, ◌^◌, ◌<◌, ◌≤◌, List, [], ◌∷◌, length, Option, Some}
use mathlib.Core.Option.{some, none}
use mathlib.Core.List.{IsPrefix}
use lib.ListN.{get_elem?}
use Rattle.atomic_table.specs.Table.{State}
use Rattle.esb_turns.specs.declared.view.View.{View}
use Rattle.esb_turns.specs.Views.{total, below, waits, serves, holds_ticket, shares_in, owns, Stands}

-- Of the ticket k, where w callers wait with it and s callers have the turn: the tickets that wait or have the turn are those from `turn` to `next`, each once
pub record Queued (turn next k w s : ℕ) : Type 0 where
  pub gone : k < turn → w ≡ 0
  pub not_yet : next ≤ k → w ≡ 0
  pub in_line : turn < k → k < next → w ≡ 1
  pub in_turn : k ≡ turn → k < next → w + s ≡ 1
  pub someone : 1 ≤ s → turn < next

module _ {E : Type 0} where
  -- what a view knows is so
  pub record Fits (log : List E) (v : View E) : Type 0 where
    pub seen : IsPrefix v.seen log
    pub told : IsPrefix v.told log
    pub own : Stands log v.own
    pub whole : serves v ≡ 1 → v.seen ≡ log
    pub ticket : holds_ticket v ≤ v.shares
    pub spent : v.shares ≡ 0 → (v.seen ≡ []) × (v.told ≡ []) × (v.own ≡ [])

  module _ {B : Type 0} (entries : B → List E) (is_at_rest : B → Type 0) where
    -- The slot is at home exactly while no caller has the turn. There it holds the book, which is at rest and whose list is the log
    pub record InTurn (callers : ℕ) (s : State (Option B) (View E)) : Type 0 where
      pub log : List E
      pub turn : ℕ
      pub next : ℕ
      pub few : callers < 2 ^ 32
      pub words : s.words ≡ next % 2 ^ 64 ∷ turn % 2 ^ 64 ∷ []
      pub counted : turn + total holds_ticket s.views ≡ next
      pub queued : (k : ℕ) → Queued turn next k (total (waits k) s.views) (total serves s.views)
      pub shared : total shares_in s.views ≡ callers
      pub placed : (k : ℕ) → total (owns k) s.views ≡ below k (length log)
      pub each : (i : ℕ) (v : View E) → get_elem? s.views i ≡ some v → Fits log v
      pub home : total serves s.views ≡ 0 → (book : B) × (get_elem? s.homes 0 ≡ some (some (Some book))) × is_at_rest book × (entries book ≡ log)
      pub out : 1 ≤ total serves s.views → get_elem? s.homes 0 ≡ some none
