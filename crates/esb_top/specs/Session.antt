-- What a session on one thread promises.
use Rattle.std.specs.Prelude.{◌≡◌, ◌⊎◌, ℕ, nat_eq, ◌==◌, ◌<◌, ◌≤◌, length, IsSome, Bool, true, false, not, ◌||◌, List, [], ◌∷◌, ◌++◌, Some, Result, Ok, Err}
use Rattle.std.specs.List.{flat_map, list_any}
use Rattle.esb_base.specs.Faults.{Rose}
use Rattle.esb_base.specs.declared.memory.Memory.{Memory}
use Rattle.esb_wire.specs.Spelling.{frame}
use Rattle.esb_wire.specs.Stream.{BeginsWithNone, Counts}
use Rattle.esb_wire.specs.Budget.{budget}
use Rattle.esb_ask.specs.declared.outcome.Outcome.{Outcome}
use Rattle.esb_core.specs.declared.event.Event.{Event}
use Rattle.esb_core.specs.declared.event.Event.TheVariants as events
use Rattle.esb_core.specs.History.{builds, closed as is_closed, is_legal, outcome, owed}
use Rattle.esb_sound.specs.Files.{HasPut, failed_puts}
use Rattle.esb_sound.specs.Sound.{Sound}
use Rattle.esb_sound.specs.Ends.{EndsRight}
use Rattle.esb_sound.specs.Sent.{arrivals, sent}
use Rattle.esb_sound.specs.Serial.{IsSerial, is_refused, lapses}
use Rattle.esb_sound.specs.Told.{AreTold, RoseBy, faults}
use Rattle.esb_top.specs.declared.session.Ending.{Ending}
use Rattle.esb_top.specs.declared.session.Ending.TheVariants as endings
use Rattle.esb_top.specs.Input.{Begins, IsStopped}
use Rattle.esb_top.specs.Output.{IsWritten}
use Rattle.esb_top.specs.Serving.{Outside}

abbrev pub status_by : Ending → Bool → ℕ
status_by endings.ReadFault refused = 3
status_by (endings.Malformed place) refused = 2
status_by endings.Budget refused = 6
status_by endings.Done true = 5
status_by endings.Done false = 0

abbrev pub status_if : Bool → Ending → Bool → ℕ
status_if false ending refused = 4
status_if true ending refused = status_by ending refused

-- A refusal of memory before a claim goes before all, then a failed write, then why no packet is read any more, and a refusal of memory after a claim goes last.
abbrev pub status_of : Result Ending Memory → Bool → Bool → ℕ
status_of (Err refusal) whole refused = 5
status_of (Ok ending) whole refused = status_if whole ending refused

abbrev pub place_if : Bool → Ending → ℕ
place_if true (endings.Malformed place) = place
place_if whole ending = 0

-- where malformed input begins, in a session that ends by that
abbrev pub place_of : Result Ending Memory → Bool → ℕ
place_of (Err refusal) whole = 0
place_of (Ok ending) whole = place_if whole ending

-- the statuses of a session
abbrev pub is_known : ℕ → Bool
is_known status = list_any (λ n. nat_eq n status) (0 ∷ 2 ∷ 3 ∷ 4 ∷ 5 ∷ 6 ∷ [])

-- whether all that was owed was written
abbrev pub is_whole : ℕ → Bool
is_whole status = not ((status == 4) || (status == 5))

-- the rest of an input that begins with no packet
pub record IsCutAt (all : List ℕ) (journal : List Event) : Type 0 where
  pub rest : List ℕ
  pub parts : all ≡ flat_map frame (arrivals journal) ++ rest
  pub none : BeginsWithNone rest
  pub some : rest ≡ [] → ⊥

-- the end of the input is the last event
abbrev pub HasEnded : List Event → Type 0
HasEnded journal = (before : List Event) × (journal ≡ before ++ events.EndOfInput ∷ [])

-- A session: the journal is one legal and right history, its answers are the host's own, the sink holds what the journal sent, and each status has its cause.
pub record IsSession (host_tells sink_tells source_tells : Type 0) (greeting : List ℕ) (was now : Outside) (status place : ℕ) (journal : List Event) : Type 0 where
  pub known : is_known status ≡ true
  -- how many reads gave a byte
  pub reads : ℕ
  pub legal : is_legal journal ≡ true
  -- no packet arrives after the end of the input
  pub ended : (status ≡ 5 → ⊥) → HasEnded journal
  pub empty_or_ended : (journal ≡ []) ⊎ HasEnded journal
  -- all that was asked for is done: nothing is owed, each build is settled, where memory was refused as such, and each is closed, once its files were put
  pub none_owed : (status ≡ 5 → ⊥) → owed journal ≡ []
  pub settled : (status ≡ 5 → ⊥) → (n : ℕ) → n < length (builds journal) → IsSome (outcome journal n)
  pub closed : (status ≡ 5 → ⊥) → (n : ℕ) → n < length (builds journal) → is_closed journal n ≡ true
  pub unrefused : status ≡ 0 → list_any is_refused journal ≡ false
  -- the host has what it had, with the files of the builds that put theirs: at a path where one failed there may be any bytes, and it counted each put that it failed
  pub files : host_tells → HasPut was.puts now.puts journal
  pub put_counted : RoseBy (failed_puts journal) was.put_faults now.put_faults
  pub sound : Sound journal
  -- each build ended by the link of its own answers, or for want of memory, by a cancel, or because it would be too large
  pub right : (n : ℕ) (o : Outcome) → outcome journal n ≡ Some o → EndsRight journal n o
  pub from_host : host_tells → AreTold was.world journal
  pub counted : RoseBy (faults journal) was.host_faults now.host_faults
  -- without a fault of the host and want of memory, it is the one history that these packets and folders have
  pub serial : host_tells → (status ≡ 5 → ⊥) → lapses journal ≡ 0 → IsSerial was.world (arrivals journal) journal
  -- the greeting, and then what the journal sent: all of it, or a first part
  pub sends : sink_tells → IsWritten was.holds now.holds (greeting ++ sent journal) (is_whole status)
  pub write_fault : status ≡ 4 → Rose was.sink_faults now.sink_faults
  pub read_fault : status ≡ 3 → Rose was.source_faults now.source_faults
  -- the packets that arrived are the first of the input, up to where the reading stopped
  pub stream : source_tells → Begins was.unread (flat_map frame (arrivals journal))
  pub stopped : (status ≡ 5 → ⊥) → IsStopped source_tells was.unread journal now.unread reads status
  pub malformed : status ≡ 2 → source_tells → IsCutAt was.unread journal
  -- where malformed input begins
  pub placed : status ≡ 2 → place ≡ length (flat_map frame (arrivals journal))
  pub unplaced : (status ≡ 2 → ⊥) → place ≡ 0
  pub whole_input : status ≡ 0 → source_tells → was.unread ≡ flat_map frame (arrivals journal)
  -- 2^40 of them where the budget was spent, and fewer where the input ended or a read failed
  pub read : Counts was.gave now.gave 0 reads
  pub within_budget : reads ≤ budget
  pub spent : status ≡ 6 → reads ≡ budget
  pub unspent : (status ≡ 0) ⊎ (status ≡ 3) → reads < budget
