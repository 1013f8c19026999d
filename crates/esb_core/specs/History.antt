-- Lists of events: which are legal, and the direct answers to questions about them.
use Rattle.std.specs.Prelude.{◌≡◌, ℕ, Bool, true, false, not, ◌&&◌, if◌then◌else◌, nat_eq, List, [], ◌∷◌, ◌++◌, length, filter, drop, count_by, fold, slice_index_or, Option, None, Some, is_some}
use Rattle.std.specs.Map.{lookup}
use Rattle.esb_wire.specs.declared.value.Packet.{Packet}
use Rattle.esb_flags.specs.declared.options.Options.{Options}
use Rattle.esb_ask.specs.declared.question.Question.{Question}
use Rattle.esb_ask.specs.declared.answer.Answer.{Answer}
use Rattle.esb_ask.specs.declared.task.Task.{Task}
use Rattle.std.specs.List.{list_any}
use Rattle.esb_ask.specs.declared.outcome.Failures.{Failures}
use Rattle.esb_ask.specs.declared.outcome.Outcome.{Outcome}
use Rattle.esb_ask.specs.Table.{kept}
use Rattle.esb_core.specs.declared.out.Out.{Out}
use Rattle.esb_core.specs.declared.event.Event.{Event}
use Rattle.esb_core.specs.declared.event.Event.TheVariants as event
use Rattle.esb_core.specs.declared.event.Told.{Told}
use Rattle.esb_core.specs.State.{State, start, no_options}
use Rattle.esb_core.specs.Sizes.{with_task}
use Rattle.esb_core.specs.Moves.{Move, make, remove, begin, join, retire, owe, keep, assign, settle, write, close, take, Met, Standing, moves_of}
use Rattle.esb_core.specs.Steps.{after, told_of, without, results, entry_tasks}
use Rattle.esb_core.specs.Allowed.{allowed}

-- ---- legal lists

-- the state after these events
abbrev pub replay_from : State → List Event → State
replay_from s [] = s
replay_from s (e ∷ es) = replay_from (after s e) es

abbrev pub replay : List Event → State
replay events = replay_from start events

-- whether each event is allowed after those before it
abbrev pub is_legal_from : State → List Event → Bool
is_legal_from s [] = true
is_legal_from s (e ∷ es) = allowed s e && is_legal_from (after s e) es

abbrev pub is_legal : List Event → Bool
is_legal events = is_legal_from start events

-- what the machine tells of an event after these
abbrev pub next : List Event → Event → Told
next events e = told_of (replay events) e

-- the state is the one that these events lead to, each of which was allowed
pub record StandsFor (state : State) (events : List Event) : Type 0 where
  pub legal : is_legal events ≡ true
  pub replayed : state ≡ replay events

-- ---- questions about moves

-- what each item gives, with the items before it
abbrev pub gathered_from : {X Y : Type 0} → (List X → X → List Y) → List X → List X → List Y
gathered_from f before [] = []
gathered_from f before (x ∷ xs) = f before x ++ gathered_from f (before ++ x ∷ []) xs

abbrev pub gathered : {X Y : Type 0} → (List X → X → List Y) → List X → List Y
gathered f xs = gathered_from f [] xs

abbrev pub context_at : List (ℕ × Options) → Move → List (ℕ × Options)
context_at contexts (make key options) = contexts ++ (key, options) ∷ []
context_at contexts (remove key) = without key contexts
context_at contexts m = contexts

abbrev pub retired_at : List ℕ → Move → List ℕ
retired_at keys (retire key) = keys ++ key ∷ []
retired_at keys (remove key) = filter (λ other. not (nat_eq key other)) keys
retired_at keys m = keys

-- the contexts that are disposed and whose build isn't closed
abbrev pub retired_in : List Move → List ℕ
retired_in ms = fold retired_at [] ms

-- the contexts that were made and not removed, by their keys
abbrev pub contexts_in : List Move → List (ℕ × Options)
contexts_in ms = fold context_at [] ms

abbrev pub active_at : List (ℕ × ℕ) → Move → List (ℕ × ℕ)
active_at active (begin n key options) = active ++ (key, n) ∷ []
active_at active (close key n) = without key active
active_at active m = active

-- the builds that began and weren't closed, by the keys of their contexts
abbrev pub active_in : List Move → List (ℕ × ℕ)
active_in ms = fold active_at [] ms

-- a build as it begins
pub record Begun : Type 0 where
  pub key : ℕ
  pub options : Options

abbrev pub begun_at : List Begun → Move → List Begun
begun_at builds (begin n key options) = builds ++ record { key = key; options = options } ∷ []
begun_at builds m = builds

-- the builds in the order in which they began
abbrev pub builds_in : List Move → List Begun
builds_in ms = fold begun_at [] ms

abbrev pub no_begun : Begun
no_begun = record { key = 0; options = no_options }

abbrev pub waits_with : ℕ → Move → List (ℕ × Bool) → List (ℕ × Bool)
waits_with n (join m id result) waiters = if nat_eq m n then (id, result) ∷ waiters else waiters
waits_with n m waiters = waiters

-- the requests that wait for the build, in the order in which they came: each id, and whether it is answered by the result
abbrev pub waiting_in : List Move → ℕ → List (ℕ × Bool)
waiting_in [] n = []
waiting_in (m ∷ ms) n = waits_with n m (waiting_in ms n)

abbrev pub settled_by : ℕ → Move → Option Outcome
settled_by n (settle m o) = if nat_eq m n then Some o else None
settled_by n m = None

abbrev pub closes_it : ℕ → Move → Bool
closes_it n (close key m) = nat_eq m n
closes_it n m = false

-- whether the build was closed
abbrev pub closed_in : List Move → ℕ → Bool
closed_in ms n = list_any (closes_it n) ms

abbrev pub failed_at : ℕ → Option Failures → Move → Option Failures
failed_at n so_far (write m f) = if nat_eq m n then Some f else so_far
failed_at n so_far m = so_far

-- which files of the build were not put, once that was known
abbrev pub failed_in : List Move → ℕ → Option Failures
failed_in ms n = fold (failed_at n) None ms

abbrev pub or_later : Option Outcome → Option Outcome → Option Outcome
or_later (Some o) later = Some o
or_later None later = later

-- the outcome with which the build was settled first
abbrev pub outcome_in : List Move → ℕ → Option Outcome
outcome_in [] n = None
outcome_in (m ∷ ms) n = or_later (settled_by n m) (outcome_in ms n)

abbrev pub answers_with : ℕ → Move → List (Question × Answer) → List (Question × Answer)
answers_with n (keep m question answer) rest = if nat_eq m n then (question, answer) ∷ rest else rest
answers_with n m rest = rest

-- the answers that the build got, in order
abbrev pub answers_in : List Move → ℕ → List (Question × Answer)
answers_in [] n = []
answers_in (m ∷ ms) n = answers_with n m (answers_in ms n)

abbrev pub kept_pair : List (Question × Answer) → Question × Answer → List (Question × Answer)
kept_pair table pair = kept table pair.0 pair.1

-- the first answer to each of the build's questions, in order
abbrev pub table_in : List Move → ℕ → List (Question × Answer)
table_in ms n = fold kept_pair [] (answers_in ms n)

abbrev pub opens_with : ℕ → Move → List Task → List Task
opens_with n (assign m t) rest = if nat_eq m n then t ∷ rest else rest
opens_with n m rest = rest

-- the tasks that the build got, in order
abbrev pub opens_in : List Move → ℕ → List Task
opens_in [] n = []
opens_in (m ∷ ms) n = opens_with n m (opens_in ms n)

-- the build's tasks: those of its entries, and then those that it got, each once
abbrev pub tasks_in : List Move → ℕ → List Task
tasks_in ms n = fold with_task (entry_tasks (length (slice_index_or (builds_in ms) n no_begun).options.entries)) (opens_in ms n)

-- what a move owes: a reply, or once a build is closed the replies to the requests that wait for it
abbrev pub owes : List Move → Move → List Out
owes before (owe o) = o ∷ []
owes before (close key n) = results n (waiting_in before n)
owes before m = []

-- all that was ever owed, in order
abbrev pub owed_in : List Move → List Out
owed_in ms = gathered owes ms

abbrev pub is_take : Move → Bool
is_take take = true
is_take m = false

-- ---- the moves of a list

-- how many requests wait for the build, where there is one
abbrev pub crowd : List Move → Option ℕ → ℕ
crowd ms None = 0
crowd ms (Some n) = length (waiting_in ms n)

abbrev pub is_settled_in : List Move → Option ℕ → Bool
is_settled_in ms None = false
is_settled_in ms (Some n) = is_some (outcome_in ms n)

-- what a request with this key finds after these moves
abbrev pub met_in : List Move → ℕ → Met
met_in ms key = record {
  context = lookup (nat_eq key) (contexts_in ms);
  retired = list_any (nat_eq key) (retired_in ms);
  active = lookup (nat_eq key) (active_in ms);
  settled = is_settled_in ms (lookup (nat_eq key) (active_in ms));
  waiting = crowd ms (lookup (nat_eq key) (active_in ms));
  contexts = length (contexts_in ms);
  begun = length (builds_in ms);
}

-- what an event finds of a build after these moves
abbrev pub standing_in : List Move → ℕ → Standing
standing_in ms n = record {
  key = (slice_index_or (builds_in ms) n no_begun).key;
  stays = (slice_index_or (builds_in ms) n no_begun).options.context && not (list_any (nat_eq (slice_index_or (builds_in ms) n no_begun).key) (retired_in ms));
  writes = (slice_index_or (builds_in ms) n no_begun).options.write;
  table = table_in ms n;
  tasks = tasks_in ms n;
  outcome = outcome_in ms n;
}

-- the moves that an event comes to after these
abbrev pub moves_after : List Move → Event → List Move
moves_after ms e = moves_of (met_in ms) (standing_in ms) e

abbrev pub moves_from : List Move → List Event → List Move
moves_from ms [] = ms
moves_from ms (e ∷ es) = moves_from (ms ++ moves_after ms e) es

-- all moves of a list of events, in order
abbrev pub moves_in : List Event → List Move
moves_in events = moves_from [] events

-- ---- questions about a list of events

-- the contexts by their keys
abbrev pub contexts : List Event → List (ℕ × Options)
contexts events = contexts_in (moves_in events)

-- the options of the context with this key
abbrev pub context : List Event → ℕ → Option Options
context events key = lookup (nat_eq key) (contexts events)

-- the builds that aren't closed, by the keys of their contexts
abbrev pub active : List Event → List (ℕ × ℕ)
active events = active_in (moves_in events)

-- the build of the context with this key that isn't closed
abbrev pub active_build : List Event → ℕ → Option ℕ
active_build events key = lookup (nat_eq key) (active events)

-- the builds in the order in which they began
abbrev pub builds : List Event → List Begun
builds events = builds_in (moves_in events)

-- the build of a number
abbrev pub build : List Event → ℕ → Begun
build events n = slice_index_or (builds events) n no_begun

-- the requests that wait for a build, in the order in which they came: each id, and whether it is answered by the result
abbrev pub waiting : List Event → ℕ → List (ℕ × Bool)
waiting events n = waiting_in (moves_in events) n

-- how a build ended
abbrev pub outcome : List Event → ℕ → Option Outcome
outcome events n = outcome_in (moves_in events) n

-- whether a build is closed
abbrev pub closed : List Event → ℕ → Bool
closed events n = closed_in (moves_in events) n

-- which files of a build were not put, once the others were
abbrev pub failed : List Event → ℕ → Option Failures
failed events n = failed_in (moves_in events) n

-- the first answers to a build's questions
abbrev pub table : List Event → ℕ → List (Question × Answer)
table events n = table_in (moves_in events) n

-- the tasks of a build in the order in which they were opened
abbrev pub tasks : List Event → ℕ → List Task
tasks events n = tasks_in (moves_in events) n

-- all that was ever owed, in order
abbrev pub all_owed : List Event → List Out
all_owed events = owed_in (moves_in events)

-- how many were taken off
abbrev pub takes : List Event → ℕ
takes events = count_by is_take (moves_in events)

-- what is owed and was not taken off
abbrev pub owed : List Event → List Out
owed events = drop (takes events) (all_owed events)

-- ---- what came

abbrev pub arrived : Event → List Packet
arrived (event.Arrive packet) = packet ∷ []
arrived e = []
