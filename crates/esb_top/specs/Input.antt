-- What was read of a source.
use Rattle.std.specs.Prelude.{◌≡◌, ◌⊎◌, ℕ, ◌≤◌, length, List, [], ◌∷◌, ◌++◌}
use Rattle.std.specs.List.{flat_map}
use Rattle.esb_wire.specs.declared.value.Packet.{Packet}
use Rattle.esb_wire.specs.Spelling.{frame}
use Rattle.esb_wire.specs.declared.reader.Stop.{Stop}
use Rattle.esb_wire.specs.declared.reader.Stop.TheVariants as stops
use Rattle.esb_wire.specs.Stream.{Counts, JudgedBy, StopsBy}
use Rattle.esb_wire.specs.Budget.{budget}
use Rattle.esb_core.specs.declared.event.Event.{Event}
use Rattle.esb_core.specs.declared.event.Event.TheVariants as events
use Rattle.esb_sound.specs.Sent.{arrivals}
use Rattle.esb_top.specs.declared.session.Ending.{Ending}
use Rattle.esb_top.specs.declared.session.Ending.TheVariants as endings

-- at most one packet arrived
abbrev pub ArrivesOne : List Event → List Event → Type 0
ArrivesOne old new = (new ≡ old) ⊎ ((packet : Packet) × (new ≡ old ++ events.Arrive packet ∷ []))

-- the bytes of a source are the frames of the packets that arrived, and what was not yet read
abbrev pub IsRead : Type 0 → List ℕ → List Event → List ℕ → Type 0
IsRead tells whole list unread = tells → whole ≡ flat_map frame (arrivals list) ++ unread

-- bytes that begin with these
pub record Begins (whole front : List ℕ) : Type 0 where
  pub rest : List ℕ
  pub parts : whole ≡ front ++ rest

-- why a reader stopped, by the ending of a session
abbrev pub stop_of : Ending → Stop
stop_of endings.Done = stops.End
stop_of (endings.Malformed place) = stops.Malformed
stop_of endings.ReadFault = stops.ReadFault
stop_of endings.Budget = stops.Budget

-- why no packet is read any more: the input ended behind a packet, no packet stands there, a read failed, or 2^40 reads gave a byte
abbrev pub EndsBy : Type 0 → Type 0 → List ℕ → List ℕ → ℕ → Ending → Type 0
EndsBy tells rose unread held reads ending = StopsBy tells rose unread held reads (stop_of ending) × JudgedBy held reads (stop_of ending)

-- malformed input is told with its place
abbrev pub IsAt : ℕ → Ending → Type 0
IsAt at (endings.Malformed place) = place ≡ at
IsAt at endings.Done = Unit {0}
IsAt at endings.ReadFault = Unit {0}
IsAt at endings.Budget = Unit {0}

-- the number of bytes of the packets that arrived
abbrev pub arrived_bytes : List Event → ℕ
arrived_bytes list = length (flat_map frame (arrivals list))

-- the status of a session in which no write failed and no memory was refused
abbrev pub status_at : Stop → ℕ
status_at stops.End = 0
status_at stops.Malformed = 2
status_at stops.ReadFault = 3
status_at stops.Budget = 6
status_at stops.Memory = 5

-- Where the reading stopped: what was read behind the last packet that arrived, and why no more was.
pub record IsStopped (tells : Type 0) (all : List ℕ) (journal : List Event) (left : List ℕ) (reads status : ℕ) : Type 0 where
  pub held : List ℕ
  pub stop : Stop
  pub parts : tells → all ≡ flat_map frame (arrivals journal) ++ (held ++ left)
  pub judged : JudgedBy held reads stop
  -- a failed write goes before
  pub by : (status ≡ 4 → ⊥) → status ≡ status_at stop

-- The reads of a source that gave a byte: so many more, and none above the budget.
pub record HasRead (gave_old gave_new reads_old reads_new : ℕ) : Type 0 where
  pub counted : Counts gave_old gave_new reads_old reads_new
  pub rises : reads_old ≤ reads_new
  pub within : reads_old ≤ budget → reads_new ≤ budget
