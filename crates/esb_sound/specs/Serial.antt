-- The one history that a world and the packets of an input give on one thread, but for the places of syntax errors: what is owed is sent first, then the first open job is claimed and done whole, and else the next packet is read.
use Rattle.std.specs.Prelude.{◌≡◌, ◌⊎◌, ℕ, Bool, true, false, List, [], ◌∷◌, ◌++◌, length, fold, count_by, slice_get, Option, Some, None, Result, Ok, Err}
use Rattle.esb_base.specs.World.{Folder}
use Rattle.esb_wire.specs.declared.value.Packet.{Packet}
use Rattle.esb_ask.specs.declared.task.Task.{Task}
use Rattle.esb_ask.specs.declared.message.Message.{Message}
use Rattle.esb_ask.specs.declared.outcome.OutFile.{OutFile}
use Rattle.esb_ask.specs.declared.outcome.Failures.{Failures}
use Rattle.esb_ask.specs.declared.outcome.Failures.TheVariants as failures
use Rattle.esb_ask.specs.declared.outcome.Outcome.{Outcome}
use Rattle.esb_ask.specs.declared.outcome.Outcome.TheVariants as outcomes
use Rattle.esb_core.specs.declared.out.Out.{Out}
use Rattle.esb_core.specs.declared.event.Job.{Job}
use Rattle.esb_core.specs.declared.event.Job.TheVariants as jobs
use Rattle.esb_core.specs.declared.event.Role.TheVariants as roles
use Rattle.esb_core.specs.declared.event.Event.{Event}
use Rattle.esb_core.specs.declared.event.Event.TheVariants as events
use Rattle.esb_core.specs.History.{build, outcome, owed, table}
use Rattle.esb_core.specs.Work.{open_job}
use Rattle.esb_scan.specs.declared.run.Run.{Run}
use Rattle.esb_scan.specs.declared.run.Run.TheVariants as runs
use Rattle.esb_scan.specs.Run.{run}
use Rattle.esb_link.specs.SerialLink.{serial_link}
use Rattle.esb_sound.specs.Each.{Each}
use Rattle.esb_sound.specs.Likeness.{normal_event}
use Rattle.esb_sound.specs.Sent.{arrivals}
use Rattle.esb_sound.specs.Told.{is_fault, told}

-- ---- the job in hand

abbrev pub doing_after : Option Job → Event → Option Job
doing_after job (events.Claim role claimed) = Some claimed
doing_after job (events.Deliver worker n task product) = None
doing_after job (events.Settle worker n outcome) = None
doing_after job (events.Written worker n failures) = None
doing_after job (events.Record worker n question answer) = job
doing_after job (events.Arrive packet) = job
doing_after job events.EndOfInput = job
doing_after job events.Pop = job

-- the job that was claimed last, and not given back
abbrev pub in_hand : List Event → Option Job
in_hand list = fold doing_after None list

-- the build that a job is of
abbrev pub build_of : Job → ℕ
build_of (jobs.Scan n task) = n
build_of (jobs.Link n) = n
build_of (jobs.Write n) = n

abbrev pub unless_over : Option Outcome → Job → Option Job
unless_over None job = Some job
unless_over (Some outcome) (jobs.Scan n task) = None
unless_over (Some outcome) (jobs.Link n) = None
unless_over (Some outcome) (jobs.Write n) = Some (jobs.Write n)

abbrev pub going_on : List Event → Option Job → Option Job
going_on list None = None
going_on list (Some job) = unless_over (outcome list (build_of job)) job

-- the job that was claimed and is not yet done. A scan and a link are over too once their build is settled.
abbrev pub doing : List Event → Option Job
doing list = going_on list (in_hand list)

-- ---- what comes next

-- a task asks the world, or is done
abbrev pub scan_step : List Folder → ℕ → Task → Run → Option Event
scan_step world n task (runs.Asks question) = Some (events.Record 0 n question (told world n question))
scan_step world n task (runs.Done product) = Some (events.Deliver 0 n task product)
scan_step world n task runs.Memory = None

abbrev pub linked : Result (List OutFile) (List Message) → Outcome
linked (Ok files) = outcomes.Files files
linked (Err messages) = outcomes.Errors messages

-- a job goes on, over the build's answers so far
abbrev pub work_step : List Folder → List Event → Job → Option Event
work_step world before (jobs.Scan n task) = scan_step world n task (run (build before n).options (table before n) task)
work_step world before (jobs.Link n) = Some (events.Settle 0 n (linked (serial_link (build before n).options (table before n))))
work_step world before (jobs.Write n) = Some (events.Written 0 n (failures.Paths []))

-- the next packet, or the end of the input
abbrev pub input_step : Option Packet → Event
input_step (Some packet) = events.Arrive packet
input_step None = events.EndOfInput

abbrev pub claim_or : Option Job → Event → Event
claim_or (Some job) otherwise = events.Claim (roles.Worker 0) job
claim_or None otherwise = otherwise

abbrev pub pop_or : List Out → Event → Event
pop_or (first ∷ rest) otherwise = events.Pop
pop_or [] otherwise = otherwise

-- what comes next where no job is in hand
abbrev pub free_step : List Packet → List Event → Event
free_step packets before = pop_or (owed before) (claim_or (open_job before (roles.Worker 0)) (input_step (slice_get packets (length (arrivals before)))))

abbrev pub step_by : List Folder → List Packet → List Event → Option Job → Option Event
step_by world packets before (Some job) = work_step world before job
step_by world packets before None = Some (free_step packets before)

-- the event that comes after these, without the places of syntax errors
abbrev pub next : List Folder → List Packet → List Event → Option Event
next world packets before = step_by world packets before (doing before)

-- ---- the history

abbrev pub is_end : Event → Bool
is_end events.EndOfInput = true
is_end e = false

-- an event before the end
abbrev pub Follows : List Folder → List Packet → List Event → Event → Type 0
Follows world packets before e = (next world packets before ≡ Some (normal_event e)) × (is_end e ≡ false)

-- Each event is the one that comes next, up to the end of the input, which is the last.
pub record IsSerial (world : List Folder) (packets : List Packet) (journal : List Event) : Type 0 where
  pub before : List Event
  pub steps : Each (Follows world packets) before
  pub last : next world packets before ≡ Some events.EndOfInput
  pub whole : journal ≡ before ++ events.EndOfInput ∷ []

-- ---- what the history of a world doesn't have

abbrev pub is_refusal : Outcome → Bool
is_refusal outcomes.Memory = true
is_refusal outcome = false

-- whether a file was not put
abbrev pub has_failed : Failures → Bool
has_failed failures.All = true
has_failed (failures.Paths []) = false
has_failed (failures.Paths (failure ∷ more)) = true

-- a fault of the host, a build that was settled for want of memory, or a file that was not put
abbrev pub is_lapse : Event → Bool
is_lapse (events.Record worker n question answer) = is_fault answer
is_lapse (events.Settle worker n outcome) = is_refusal outcome
is_lapse (events.Written worker n f) = has_failed f
is_lapse e = false

abbrev pub lapses : List Event → ℕ
lapses list = count_by is_lapse list

-- ---- histories in which there may be lapses

-- the packet that arrives is the next of these
abbrev pub Arrives : List Packet → List Event → Event → Type 0
Arrives packets before (events.Arrive packet) = slice_get packets (length (arrivals before)) ≡ Some packet
Arrives packets before e = Unit {0}

-- the one worker takes up a job where none is in hand, and gives back the one that is
abbrev pub Handles : List Event → Event → Type 0
Handles before (events.Claim role job) = (role ≡ roles.Worker 0) × (doing before ≡ None)
Handles before (events.Deliver worker n task product) = (worker ≡ 0) × (doing before ≡ Some (jobs.Scan n task))
Handles before (events.Settle worker n outcome) = (worker ≡ 0) × ((doing before ≡ Some (jobs.Link n)) ⊎ ((task : Task) × (doing before ≡ Some (jobs.Scan n task))))
Handles before (events.Written worker n failures) = (worker ≡ 0) × (doing before ≡ Some (jobs.Write n))
Handles before (events.Arrive packet) = Unit {0}
Handles before events.EndOfInput = Unit {0}
Handles before (events.Record worker n question answer) = Unit {0}
Handles before events.Pop = Unit {0}

-- an event that comes in its turn where the world is told and it is no lapse, and doesn't end the input
pub record IsInTurn (tells : Type 0) (world : List Folder) (before : List Event) (e : Event) : Type 0 where
  pub goes_on : is_end e ≡ false
  pub handles : Handles before e
  pub follows : tells → is_lapse e ≡ false → (packets : List Packet) → Arrives packets before e → next world packets before ≡ Some (normal_event e)

abbrev pub InTurn : Type 0 → List Folder → List Event → Type 0
InTurn tells world list = Each (IsInTurn tells world) list

-- ---- refusals

-- whether memory was refused for the list of the files that were not put
abbrev pub is_unlisted : Failures → Bool
is_unlisted failures.All = true
is_unlisted (failures.Paths paths) = false

-- a build that was settled for want of memory, or whose files were not listed for want of it
abbrev pub is_refused : Event → Bool
is_refused (events.Settle worker n outcome) = is_refusal outcome
is_refused (events.Written worker n f) = is_unlisted f
is_refused e = false
