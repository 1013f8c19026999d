-- Where a session stands between its turns.
use Rattle.std.specs.Prelude.{◌≡◌, ◌⊎◌, List, [], ◌∷◌, ◌++◌, None}
use Rattle.esb_base.specs.World.{Folder}
use Rattle.esb_core.specs.declared.event.Event.{Event}
use Rattle.esb_core.specs.declared.event.Role.TheVariants as roles
use Rattle.esb_core.specs.Allowed.{first_job}
use Rattle.esb_core.specs.History.{replay}
use Rattle.esb_sound.specs.Serial.{IsInTurn, doing}

-- no job is in hand
abbrev pub IsFree : List Event → Type 0
IsFree list = doing list ≡ None

-- at most one event more, which comes in its turn
abbrev pub TurnsOne : List Folder → List Event → List Event → Type 0
TurnsOne world old new = (new ≡ old) ⊎ ((e : Event) × (new ≡ old ++ e ∷ []) × IsInTurn (Unit {0}) world old e)

-- nothing is to be done but to read
pub record IsAtRest (list : List Event) : Type 0 where
  pub free : IsFree list
  pub none_owed : (replay list).owed ≡ []
  pub no_job : first_job (replay list) (roles.Worker 0) ≡ None
