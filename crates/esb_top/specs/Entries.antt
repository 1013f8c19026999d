-- What a history is seen as, and how it grows.
use Rattle.std.specs.Prelude.{◌≡◌, ℕ, ◌+◌, ◌≤◌, List, [], ◌∷◌, ◌++◌}
use Rattle.esb_core.specs.declared.event.Event.{Event}
use Rattle.esb_core.specs.History.{StandsFor}
use Rattle.esb_core.specs.State.{State}

pub record Entries : Type 0 where
  pub events : List Event
  -- for how many more there is room
  pub promised : ℕ

-- the machine is the one that the journal leads to, and the room that was promised is there
pub record Agrees (machine : State) (events : List Event) (used capacity : ℕ) : Type 0 where
  pub stands : StandsFor machine events
  pub room : used ≤ capacity

-- one more event, and no less room
pub record Added (old new : Entries) (e : Event) : Type 0 where
  pub events : new.events ≡ old.events ++ e ∷ []
  pub room : old.promised ≤ new.promised

-- one more event in the room that was promised
pub record AddedWithin (old new : Entries) (e : Event) : Type 0 where
  pub events : new.events ≡ old.events ++ e ∷ []
  pub room : new.promised + 1 ≡ old.promised

-- the same events, and no less room
pub record Kept (old new : Entries) : Type 0 where
  pub events : new.events ≡ old.events
  pub room : old.promised ≤ new.promised
