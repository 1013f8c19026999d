-- One step of the machine: an equation for each kind of move, and for the work of each event.
use Rattle.std.specs.Prelude.{ℕ, zero, suc, ◌+◌, Bool, true, false, not, ◌&&◌, if◌then◌else◌, nat_eq, List, [], ◌∷◌, ◌++◌, length, map, filter, drop, slice_set, slice_get, Option, None, Some, is_some}
use Rattle.std.specs.Map.{lookup}
use Rattle.std.specs.List.{list_any}
use Rattle.esb_flags.specs.declared.options.Options.{Options}
use Rattle.esb_ask.specs.declared.question.Question.{Question}
use Rattle.esb_ask.specs.declared.answer.Answer.{Answer}
use Rattle.esb_ask.specs.declared.task.Task.{Task}
use Rattle.esb_ask.specs.declared.task.Task.TheVariants as task
use Rattle.esb_ask.specs.declared.product.Product.{Product}
use Rattle.esb_ask.specs.declared.outcome.Outcome.{Outcome}
use Rattle.esb_ask.specs.declared.outcome.Failures.{Failures}
use Rattle.esb_ask.specs.Table.{kept, kept_answer}
use Rattle.esb_ask.specs.Tasks.{same_task}
use Rattle.esb_core.specs.declared.out.Out.{Out}
use Rattle.esb_core.specs.declared.out.Out.TheVariants as out
use Rattle.esb_core.specs.declared.out.Body.TheVariants as body
use Rattle.esb_core.specs.declared.event.Role.{Role}
use Rattle.esb_core.specs.declared.event.Role.TheVariants as role
use Rattle.esb_core.specs.declared.event.Job.{Job}
use Rattle.esb_core.specs.declared.event.Job.TheVariants as job
use Rattle.esb_core.specs.declared.event.Event.{Event}
use Rattle.esb_core.specs.declared.event.Event.TheVariants as event
use Rattle.esb_core.specs.declared.event.Told.{Told}
use Rattle.esb_core.specs.declared.event.Told.TheVariants as told
use Rattle.esb_core.specs.State.{Building, State, build_at}
use Rattle.esb_core.specs.Sizes.{named, opened, with_task, is_overfull, has_too_many}
use Rattle.esb_core.specs.Moves.{Move, make, remove, retire, begin, join, owe, keep, assign, settle, write, close, take, Met, Standing, moves_of}

-- ---- moves

-- the tasks of so many entries, from this number on
abbrev pub entry_tasks_from : ℕ → ℕ → List Task
entry_tasks_from first zero = []
entry_tasks_from first (suc n) = task.Entry first ∷ entry_tasks_from (first + 1) n

abbrev pub entry_tasks : ℕ → List Task
entry_tasks n = entry_tasks_from 0 n

-- a build at its begin
abbrev pub fresh : ℕ → Options → Building
fresh key options = record {
  key = key;
  options = options;
  waiting = [];
  table = [];
  tasks = entry_tasks (length options.entries);
  claimed = 0;
  claims = [];
  linker = None;
  outcome = None;
  writer = None;
  failed = None;
  closed = false;
}

-- one more request waits for a build
abbrev pub joined : Building → ℕ → Bool → Building
joined b id result = record b { waiting = b.waiting ++ (id, result) ∷ [] }

abbrev pub answered : Building → Question → Answer → Building
answered b question answer = record b { table = kept b.table question answer }

-- one more task, where it is new
abbrev pub tasked : Building → Task → Building
tasked b t = record b { tasks = with_task b.tasks t }

abbrev pub ended_by : Building → Outcome → Building
ended_by b o = record b { outcome = Some o }

abbrev pub written_by : Building → Failures → Building
written_by b failures = record b { failed = Some failures; writer = None }

abbrev pub closed_by : Building → Building
closed_by b = record b { closed = true }

-- what is owed to a request that waited for a build
abbrev pub answer_for : ℕ → ℕ × Bool → Out
answer_for n waiter = out.Reply waiter.0 (if waiter.1 then body.Result n else body.Closed n)

-- what is owed to the requests that waited for it, in their order
abbrev pub results : ℕ → List (ℕ × Bool) → List Out
results n waiters = map (answer_for n) waiters

-- what has another key
abbrev pub without : {X : Type 0} → ℕ → List (ℕ × X) → List (ℕ × X)
without key entries = filter (λ entry. not (nat_eq key entry.0)) entries

-- the state after a move
abbrev pub moved : State → Move → State
moved s (make key options) = record s { contexts = s.contexts ++ (key, options) ∷ [] }
moved s (remove key) = record s { contexts = without key s.contexts; retired = filter (λ other. not (nat_eq key other)) s.retired }
moved s (retire key) = record s { retired = s.retired ++ key ∷ [] }
moved s (begin n key options) = record s { builds = s.builds ++ fresh key options ∷ []; active = s.active ++ (key, n) ∷ [] }
moved s (join n id result) = record s { builds = slice_set s.builds n (joined (build_at s.builds n) id result) }
moved s (owe o) = record s { owed = s.owed ++ o ∷ [] }
moved s (keep n question answer) = record s { builds = slice_set s.builds n (answered (build_at s.builds n) question answer) }
moved s (assign n t) = record s { builds = slice_set s.builds n (tasked (build_at s.builds n) t) }
moved s (settle n o) = record s { builds = slice_set s.builds n (ended_by (build_at s.builds n) o) }
moved s (write n failures) = record s { builds = slice_set s.builds n (written_by (build_at s.builds n) failures) }
moved s (close key n) = record s {
  builds = slice_set s.builds n (closed_by (build_at s.builds n));
  active = without key s.active;
  owed = s.owed ++ results n (build_at s.builds n).waiting;
}
moved s take = record s { owed = drop 1 s.owed }

abbrev pub all_moved : State → List Move → State
all_moved s [] = s
all_moved s (m ∷ ms) = all_moved (moved s m) ms

-- ---- what an event finds

abbrev pub waiting_for : List Building → Option ℕ → ℕ
waiting_for builds None = 0
waiting_for builds (Some n) = length (build_at builds n).waiting

abbrev pub active_of : State → ℕ → Option ℕ
active_of s key = lookup (nat_eq key) s.active

abbrev pub settled_for : List Building → Option ℕ → Bool
settled_for builds None = false
settled_for builds (Some n) = is_some (build_at builds n).outcome

-- what a request with this key finds
abbrev pub met : State → ℕ → Met
met s key = record {
  context = lookup (nat_eq key) s.contexts;
  retired = list_any (nat_eq key) s.retired;
  active = active_of s key;
  settled = settled_for s.builds (active_of s key);
  waiting = waiting_for s.builds (active_of s key);
  contexts = length s.contexts;
  begun = length s.builds;
}

abbrev pub standing_of : List ℕ → Building → Standing
standing_of retired b = record { key = b.key; stays = b.options.context && not (list_any (nat_eq b.key) retired); writes = b.options.write; table = b.table; tasks = b.tasks; outcome = b.outcome }

abbrev pub standing : State → ℕ → Standing
standing s n = standing_of s.retired (build_at s.builds n)

abbrev pub moves : State → Event → List Move
moves s e = moves_of (met s) (standing s) e

-- ---- the work of a build

abbrev pub changed : State → ℕ → Building → State
changed s n b = record s { builds = slice_set s.builds n b }

abbrev pub task_claimed : Building → ℕ → Task → Building
task_claimed b worker t = record b { claimed = b.claimed + 1; claims = b.claims ++ (worker, t) ∷ [] }

abbrev pub link_claimed : Building → ℕ → Building
link_claimed b worker = record b { linker = Some worker }

abbrev pub write_claimed : Building → ℕ → Building
write_claimed b worker = record b { writer = Some worker }

abbrev pub after_claim : State → Role → Job → State
after_claim s (role.Worker worker) (job.Scan n t) = changed s n (task_claimed (build_at s.builds n) worker t)
after_claim s (role.Worker worker) (job.Link n) = changed s n (link_claimed (build_at s.builds n) worker)
after_claim s (role.Worker worker) (job.Write n) = changed s n (write_claimed (build_at s.builds n) worker)
after_claim s (role.Door door) j = s

-- whether a claim is this one
abbrev pub is_claim : ℕ → Task → ℕ × Task → Bool
is_claim worker t claim = nat_eq claim.0 worker && same_task claim.1 t

-- the claim of a task ends
abbrev pub unclaimed : Building → ℕ → Task → Building
unclaimed b worker t = record b { claims = filter (λ claim. not (is_claim worker t claim)) b.claims }

abbrev pub freed : ℕ → Option ℕ → Option ℕ
freed worker None = None
freed worker (Some linker) = if nat_eq linker worker then None else Some linker

-- a worker's claims end
abbrev pub released : Building → ℕ → Building
released b worker = record b { claims = filter (λ claim. not (nat_eq claim.0 worker)) b.claims; linker = freed worker b.linker }

-- the state once the work of an event is taken note of
abbrev pub worked : State → Event → State
worked s (event.Claim r j) = after_claim s r j
worked s (event.Deliver worker n t p) = changed s n (unclaimed (build_at s.builds n) worker t)
worked s (event.Settle worker n o) = changed s n (released (build_at s.builds n) worker)
worked s (event.Written worker n failures) = s
worked s event.EndOfInput = record s { ended = true }
worked s (event.Arrive packet) = s
worked s (event.Record worker n question answer) = s
worked s event.Pop = s

-- ---- the whole step

-- the state after an event
abbrev pub after : State → Event → State
after s e = worked (all_moved s (moves s e)) e

-- what the machine tells of an answer: the one that is kept to its question, unless the build is settled
abbrev pub told_kept : Answer → Bool → Told
told_kept first true = told.Stale
told_kept first false = told.Kept first

abbrev pub told_record : List (Question × Answer) → Question → Answer → Option Outcome → Told
told_record table question answer None = told_kept (kept_answer table question answer) (is_overfull (kept table question answer))
told_record table question answer (Some outcome) = told.Stale

abbrev pub told_if : Bool → Told
told_if true = told.Stale
told_if false = told.Done

abbrev pub told_deliver : List Task → Product → Option Outcome → Told
told_deliver tasks p None = told_if (has_too_many (opened tasks (named p)))
told_deliver tasks p (Some outcome) = told.Stale

abbrev pub told_stale : Option Outcome → Told
told_stale None = told.Done
told_stale (Some outcome) = told.Stale

abbrev pub told_pop : Option Out → Told
told_pop None = told.Done
told_pop (Some first) = told.Owed first

-- what the step tells
abbrev pub told_of : State → Event → Told
told_of s (event.Arrive packet) = told.Done
told_of s event.EndOfInput = told.Done
told_of s (event.Claim r j) = told.Done
told_of s (event.Record worker n question answer) = told_record (build_at s.builds n).table question answer (build_at s.builds n).outcome
told_of s (event.Deliver worker n t p) = told_deliver (build_at s.builds n).tasks p (build_at s.builds n).outcome
told_of s (event.Settle worker n outcome) = told_stale (build_at s.builds n).outcome
told_of s (event.Written worker n failures) = told.Done
told_of s event.Pop = told_pop (slice_get s.owed 0)
