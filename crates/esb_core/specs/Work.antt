-- The work of the builds of a list: what a worker holds, which tasks and links are open, and which job is the first.
use Rattle.std.specs.Prelude.{◌≡◌, ℕ, zero, suc, ◌+◌, Bool, true, false, not, ◌&&◌, ◌||◌, if◌then◌else◌, nat_eq, List, [], ◌∷◌, ◌++◌, length, filter, fold, slice_get, Option, None, Some}
use Rattle.std.specs.Option.{option_to_list}
use Rattle.std.specs.List.{list_any, list_all}
use Rattle.esb_ask.specs.declared.task.Task.{Task}
use Rattle.esb_ask.specs.declared.outcome.Outcome.{Outcome}
use Rattle.esb_ask.specs.Tasks.{same_task}
use Rattle.esb_core.specs.declared.event.Role.{Role}
use Rattle.esb_core.specs.declared.event.Role.TheVariants as role
use Rattle.esb_core.specs.declared.event.Job.{Job}
use Rattle.esb_core.specs.declared.event.Job.TheVariants as job
use Rattle.esb_core.specs.declared.event.Event.{Event}
use Rattle.esb_core.specs.declared.event.Event.TheVariants as event
use Rattle.esb_core.specs.Sizes.{named, opened, has_too_many}
use Rattle.esb_core.specs.Allowed.{link_if, or_next, write_if}
use Rattle.esb_core.specs.Laws.{is_to_write}
use Rattle.esb_core.specs.History.{build, builds, outcome, tasks}

-- ---- claims

-- whether an event gives this task of the build to a worker, and whether it gives the link
abbrev pub claims_task : ℕ → Task → Event → Bool
claims_task n t (event.Claim r (job.Scan m u)) = nat_eq m n && same_task t u
claims_task n t (event.Claim r (job.Link m)) = false
claims_task n t (event.Claim r (job.Write m)) = false
claims_task n t e = false

abbrev pub claims_link : ℕ → Event → Bool
claims_link n (event.Claim r (job.Scan m u)) = false
claims_link n (event.Claim r (job.Link m)) = nat_eq m n
claims_link n (event.Claim r (job.Write m)) = false
claims_link n e = false

-- whether an event gives the writing of the build's files
abbrev pub claims_write : ℕ → Event → Bool
claims_write n (event.Claim r (job.Write m)) = nat_eq m n
claims_write n (event.Claim r (job.Scan m u)) = false
claims_write n (event.Claim r (job.Link m)) = false
claims_write n e = false

-- ---- what a worker holds

-- whether an event gives this task of the build to this worker, and whether it gives it the link
abbrev pub gives_task : ℕ → ℕ → Task → Event → Bool
gives_task worker n t (event.Claim (role.Worker w) (job.Scan m u)) = nat_eq w worker && (nat_eq m n && same_task u t)
gives_task worker n t (event.Claim (role.Worker w) (job.Link m)) = false
gives_task worker n t (event.Claim (role.Worker w) (job.Write m)) = false
gives_task worker n t (event.Claim (role.Door door) j) = false
gives_task worker n t e = false

abbrev pub gives_link : ℕ → ℕ → Event → Bool
gives_link worker n (event.Claim (role.Worker w) (job.Scan m u)) = false
gives_link worker n (event.Claim (role.Worker w) (job.Link m)) = nat_eq w worker && nat_eq m n
gives_link worker n (event.Claim (role.Worker w) (job.Write m)) = false
gives_link worker n (event.Claim (role.Door door) j) = false
gives_link worker n e = false

-- whether an event gives it the writing of the build's files
abbrev pub gives_write : ℕ → ℕ → Event → Bool
gives_write worker n (event.Claim (role.Worker w) (job.Write m)) = nat_eq w worker && nat_eq m n
gives_write worker n (event.Claim (role.Worker w) (job.Scan m u)) = false
gives_write worker n (event.Claim (role.Worker w) (job.Link m)) = false
gives_write worker n (event.Claim (role.Door door) j) = false
gives_write worker n e = false

-- whether an event says that the build's files are put
abbrev pub writes_it : ℕ → Event → Bool
writes_it n (event.Written w m failures) = nat_eq m n
writes_it n e = false

-- whether an event is the worker's delivery of the task
abbrev pub delivers : ℕ → ℕ → Task → Event → Bool
delivers worker n t (event.Deliver w m u p) = nat_eq w worker && (nat_eq m n && same_task u t)
delivers worker n t e = false

-- whether an event is the worker's outcome of the build, which may be settled already
abbrev pub settles_by : ℕ → ℕ → Event → Bool
settles_by worker n (event.Settle w m o) = nat_eq w worker && nat_eq m n
settles_by worker n e = false

-- the worker was given the task, and has neither delivered it nor given an outcome of the build
abbrev pub holds_task : List Event → ℕ → ℕ → Task → Bool
holds_task events worker n t = list_any (gives_task worker n t) events && not (list_any (delivers worker n t) events || list_any (settles_by worker n) events)

-- the worker was given the link, and has given no outcome of the build
abbrev pub holds_link : List Event → ℕ → ℕ → Bool
holds_link events worker n = list_any (gives_link worker n) events && not (list_any (settles_by worker n) events)

-- the worker was given the writing of the build's files, which it hasn't said to be put
abbrev pub holds_write : List Event → ℕ → ℕ → Bool
holds_write events worker n = list_any (gives_write worker n) events && not (list_any (writes_it n) events)

-- the worker holds a task of the build
pub record HoldsTask (events : List Event) (worker n : ℕ) : Type 0 where
  pub task : Task
  pub held : holds_task events worker n task ≡ true

-- ---- tasks

abbrev pub unless_settled : {X : Type 0} → Option Outcome → Option X → Option X
unless_settled None x = x
unless_settled (Some o) x = None

abbrev pub unless_large : {X : Type 0} → Bool → Option X → Option X
unless_large true x = None
unless_large false x = x

-- the task that an event names for the build, after others: a delivered product may name one, unless the build is settled or would open too many files
abbrev pub names : ℕ → List Event → Event → List Task
names n before (event.Deliver worker m t p) = if nat_eq m n then option_to_list (unless_settled (outcome before m) (unless_large (has_too_many (opened (tasks before m) (named p))) (named p))) else []
names n before e = []

-- no event gave the task to a worker
abbrev pub is_open : List Event → ℕ → Task → Bool
is_open events n t = not (list_any (claims_task n t) events)

-- whether an event delivers this task of the build
abbrev pub does_task : ℕ → Task → Event → Bool
does_task n t (event.Deliver worker m u p) = nat_eq m n && same_task u t
does_task n t e = false

-- some event delivered the task
abbrev pub is_done : List Event → ℕ → Task → Bool
is_done events n t = list_any (does_task n t) events

-- each task of the build is done, and no event gave its link to a worker
abbrev pub link_is_open : List Event → ℕ → Bool
link_is_open events n = list_all (is_done events n) (tasks events n) && not (list_any (claims_link n) events)

-- ---- jobs

-- the first of the build's tasks that is open
abbrev pub open_task : List Event → ℕ → Option Task
open_task events n = slice_get (filter (is_open events n) (tasks events n)) 0

abbrev pub scan_or_link : ℕ → Option Task → Bool → Option Job
scan_or_link n (Some t) link = Some (job.Scan n t)
scan_or_link n None link = link_if n link

-- the writing of a build's files, which no event gave to a worker, once it is settled with files that it puts
abbrev pub open_write : List Event → ℕ → Outcome → Option Job
open_write events n o = write_if n (is_to_write (build events n) o && not (list_any (claims_write n) events))

abbrev pub open_job_by : List Event → ℕ → Option Outcome → Option Job
open_job_by events n None = scan_or_link n (open_task events n) (link_is_open events n)
open_job_by events n (Some o) = open_write events n o

-- the first open job of a build: its first open task, or else its link if that is open; once it is settled, the writing of its files
abbrev pub open_job_of : List Event → ℕ → Option Job
open_job_of events n = open_job_by events n (outcome events n)

-- the job of the earliest that has one, of so many builds from this number on
abbrev pub earliest_from : List Event → ℕ → ℕ → Option Job
earliest_from events n zero = None
earliest_from events n (suc count) = or_next (open_job_of events n) (earliest_from events (n + 1) count)

-- the first open job of a role: a worker's is that of the earliest build that has one, and a door has none
abbrev pub open_job : List Event → Role → Option Job
open_job events (role.Worker worker) = earliest_from events 0 (length (builds events))
open_job events (role.Door door) = None
