-- How a build ends whose work is right.
use Rattle.std.specs.Prelude.{◌≡◌, ◌⊎◌, ℕ, Bool, true, false, ◌&&◌, nat_eq, List, ◌∷◌, ◌++◌, None}
use Rattle.esb_ask.specs.declared.outcome.Outcome.{Outcome}
use Rattle.esb_ask.specs.declared.outcome.Outcome.TheVariants as outcomes
use Rattle.esb_core.specs.declared.event.Event.{Event}
use Rattle.esb_core.specs.declared.event.Event.TheVariants as events
use Rattle.esb_core.specs.History.{build, outcome, table}
use Rattle.esb_core.specs.Laws.{overfull, overopened}
use Rattle.esb_core.specs.Sizes.{too_large}
use Rattle.esb_sound.specs.Sound.{IsLinked}

-- whether an event has an answer or a product with which the build would be too large
abbrev pub overgrows : List Event → ℕ → Event → Bool
overgrows before n (events.Record worker m question answer) = nat_eq m n && overfull before m question answer
overgrows before n (events.Deliver worker m task product) = nat_eq m n && overopened before m product
overgrows before n e = false

-- such an event came while the build wasn't settled
pub record IsOvergrown (list : List Event) (n : ℕ) : Type 0 where
  pub before : List Event
  pub by : Event
  pub more : List Event
  pub at : list ≡ before ++ by ∷ more
  pub unsettled : outcome before n ≡ None
  pub grows : overgrows before n by ≡ true

-- the outcome is the link's over the build's own answers, or the build was refused memory, canceled, or would be too large
abbrev pub EndsRight : List Event → ℕ → Outcome → Type 0
EndsRight list n o = IsLinked (build list n).options (table list n) o ⊎ ((o ≡ outcomes.Canceled) ⊎ ((o ≡ too_large) × IsOvergrown list n))
