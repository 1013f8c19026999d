-- What each event changes in what a list answers, and which event decides each answer.
use Rattle.std.specs.Prelude.{◌≡◌, ◌⊎◌, ℕ, ◌<◌, ◌≤◌, Bool, true, false, ◌&&◌, ◌||◌, not, if◌then◌else◌, nat_eq, List, [], ◌∷◌, ◌++◌, length, filter, slice_get, Option, None, Some, is_none, is_some, IsSome, Ok, Err}
use Rattle.std.specs.List.{list_any}
use Rattle.esb_wire.specs.declared.value.Packet.{Packet}
use Rattle.esb_flags.specs.declared.options.Options.{Options}
use Rattle.esb_flags.specs.declared.command.Command.{Command}
use Rattle.esb_flags.specs.declared.command.Command.TheVariants as command
use Rattle.esb_flags.specs.Fields.{Answer as Asked}
use Rattle.esb_flags.specs.Command.{asked}
use Rattle.esb_ask.specs.declared.question.Question.{Question}
use Rattle.esb_ask.specs.declared.answer.Answer.{Answer}
use Rattle.esb_ask.specs.declared.outcome.Failures.{Failures}
use Rattle.esb_ask.specs.declared.outcome.Outcome.{Outcome}
use Rattle.esb_ask.specs.declared.outcome.Outcome.TheVariants as outcome_of
use Rattle.esb_ask.specs.declared.product.Product.{Product}
use Rattle.esb_ask.specs.Table.{same_question, kept}
use Rattle.esb_core.specs.declared.out.Out.{Out}
use Rattle.esb_core.specs.declared.out.Out.TheVariants as out
use Rattle.esb_core.specs.declared.out.Body.TheVariants as body
use Rattle.esb_core.specs.declared.event.Event.{Event}
use Rattle.esb_core.specs.declared.event.Event.TheVariants as event
use Rattle.esb_core.specs.declared.event.Told.{Told}
use Rattle.esb_core.specs.declared.event.Told.TheVariants as told
use Rattle.esb_core.specs.State.{State, build_at}
use Rattle.esb_core.specs.Sizes.{named, opened, files, bytes_in, most_answers, most_contents, most_files, is_overfull, has_too_many, too_large}
use Rattle.esb_core.specs.Moves.{Move, join, key_of, options_of, refusal, most_builds, most_contexts, most_waiting}
use Rattle.esb_core.specs.Steps.{results, without, told_deliver, told_pop, told_record, told_stale}
use Rattle.esb_core.specs.History.{Begun, met_in, moves_in, contexts, context, active_build, builds, build, waiting, outcome, closed, failed, retired_in, table, tasks, all_owed, owed}

-- ---- requests

-- a request is refused with a text, or its command is accepted
pub data Verdict : Type 0 where
  refused : List ℕ → Verdict
  accepted : Command → Verdict

abbrev pub verdict_by : Command → Option (List ℕ) → Verdict
verdict_by c (Some text) = refused text
verdict_by c None = accepted c

abbrev pub verdict_of : List Event → Asked Command → Verdict
verdict_of before (Err text) = refused text
verdict_of before (Ok c) = verdict_by c (refusal (met_in (moves_in before) (key_of c)) c)

-- what becomes of a request that comes after these events
abbrev pub verdict : List Event → Packet → Verdict
verdict before packet = verdict_of before (asked packet.value)

-- ---- builds

abbrev pub if_idle : Option ℕ → Begun → List Begun
if_idle None b = b ∷ []
if_idle (Some n) b = []

-- the build that an accepted command begins
abbrev pub begins_by : List Event → Verdict → List Begun
begins_by before (accepted (command.Build key options)) = if options.context then [] else record { key = key; options = options } ∷ []
begins_by before (accepted (command.Rebuild key)) = if_idle (active_build before key) (record { key = key; options = options_of (context before key) })
begins_by before v = []

-- the build that an event begins
abbrev pub begins : List Event → Event → List Begun
begins before (event.Arrive packet) = if packet.request then begins_by before (verdict before packet) else []
begins before e = []

-- The event begins the build of this number: as many others had begun before it.
pub record IsBegunBy (events : List Event) (n : ℕ) : Type 0 where
  pub before : List Event
  pub by : Event
  pub more : List Event
  pub at : events ≡ before ++ by ∷ more
  pub number : length (builds before) ≡ n
  pub gives : begins before by ≡ build events n ∷ []

-- ---- requests that wait

-- the build that a command joins: the active one, or the next
abbrev pub joined_build : List Event → Option ℕ → ℕ
joined_build before (Some n) = n
joined_build before None = length (builds before)

abbrev pub if_same : ℕ → ℕ → ℕ → Bool → List (ℕ × Bool)
if_same m n id result = if nat_eq m n then (id, result) ∷ [] else []

-- whether there is a build and it is settled
abbrev pub is_settled_build : List Event → Option ℕ → Bool
is_settled_build before None = false
is_settled_build before (Some n) = is_some (outcome before n)

-- a cancel or a dispose waits for the close of an active build that is settled
abbrev pub waits_closed : List Event → ℕ → ℕ → Option ℕ → List (ℕ × Bool)
waits_closed before n id None = []
waits_closed before n id (Some m) = if is_some (outcome before m) then if_same m n id false else []

abbrev pub waits_by : List Event → ℕ → ℕ → Verdict → List (ℕ × Bool)
waits_by before n id (accepted (command.Build key options)) = if options.context then [] else if_same (length (builds before)) n id true
waits_by before n id (accepted (command.Rebuild key)) = if_same (joined_build before (active_build before key)) n id true
waits_by before n id (accepted (command.Cancel key)) = waits_closed before n id (active_build before key)
waits_by before n id (accepted (command.Dispose key)) = waits_closed before n id (active_build before key)
waits_by before n id v = []

-- the request that from this event on waits for the build: its id, and whether it is answered by the result
abbrev pub waits : List Event → ℕ → Event → List (ℕ × Bool)
waits before n (event.Arrive packet) = if packet.request then waits_by before n packet.id (verdict before packet) else []
waits before n e = []

-- ---- outcomes

abbrev pub canceled_if : ℕ → Option ℕ → Option Outcome
canceled_if n None = None
canceled_if n (Some m) = if nat_eq m n then Some outcome_of.Canceled else None

-- the outcome that a command gives to the build: it cancels the active build of its context, which stays where it is settled
abbrev pub settled_by : List Event → ℕ → Verdict → Option Outcome
settled_by before n (accepted (command.Cancel key)) = canceled_if n (active_build before key)
settled_by before n (accepted (command.Dispose key)) = canceled_if n (active_build before key)
settled_by before n v = None

abbrev pub large_if : Bool → Option Outcome
large_if true = Some too_large
large_if false = None

-- how an answer, and how a product, ends a build that would be too large with it
abbrev pub overfull : List Event → ℕ → Question → Answer → Bool
overfull before n question answer = is_overfull (kept (table before n) question answer)

abbrev pub overopened : List Event → ℕ → Product → Bool
overopened before n p = has_too_many (opened (tasks before n) (named p))

-- whether a build stays open once it is settled so: its files are to be put
abbrev pub is_to_write : Begun → Outcome → Bool
is_to_write b (outcome_of.Files files) = b.options.write
is_to_write b o = false

-- the outcome that an event gives to the build
abbrev pub settles : List Event → ℕ → Event → Option Outcome
settles before n (event.Arrive packet) = if packet.request then settled_by before n (verdict before packet) else None
settles before n (event.Settle worker m o) = if nat_eq m n then Some o else None
settles before n (event.Record worker m question answer) = if nat_eq m n then large_if (overfull before m question answer) else None
settles before n (event.Deliver worker m t p) = if nat_eq m n then large_if (overopened before m p) else None
settles before n e = None

-- ---- closes

-- a command closes the active build of its context, unless that is settled
abbrev pub closed_if : List Event → ℕ → Option ℕ → Bool
closed_if before n None = false
closed_if before n (Some m) = nat_eq m n && is_none (outcome before m)

abbrev pub closed_by : List Event → ℕ → Verdict → Bool
closed_by before n (accepted (command.Cancel key)) = closed_if before n (active_build before key)
closed_by before n (accepted (command.Dispose key)) = closed_if before n (active_build before key)
closed_by before n v = false

-- whether an event closes the build: it settles one that puts no files, or its files are put
abbrev pub closes : List Event → ℕ → Event → Bool
closes before n (event.Arrive packet) = packet.request && closed_by before n (verdict before packet)
closes before n (event.Settle worker m o) = nat_eq m n && (is_none (outcome before m) && not (is_to_write (build before m) o))
closes before n (event.Written worker m failures) = nat_eq m n
closes before n (event.Record worker m question answer) = nat_eq m n && (is_none (outcome before m) && overfull before m question answer)
closes before n (event.Deliver worker m t p) = nat_eq m n && (is_none (outcome before m) && overopened before m p)
closes before n e = false

-- which files of the build were not put, as an event says that comes after others
abbrev pub fails : ℕ → Option Failures → Event → Option Failures
fails n so_far (event.Written worker m failures) = if nat_eq m n then Some failures else so_far
fails n so_far e = so_far

-- the earliest event that settles the build gives this outcome
pub record IsSettledBy (events : List Event) (n : ℕ) (o : Outcome) : Type 0 where
  pub before : List Event
  pub by : Event
  pub more : List Event
  pub at : events ≡ before ++ by ∷ more
  pub gives : settles before n by ≡ Some o
  pub earliest : (first : List Event) (e : Event) (rest : List Event) → before ≡ first ++ e ∷ rest → settles first n e ≡ None

-- a command that cancels the active build of the context with this key
abbrev pub Cancels : Verdict → ℕ → Type 0
Cancels v key = (v ≡ accepted (command.Cancel key)) ⊎ (v ≡ accepted (command.Dispose key))

-- An accepted `cancel` or `dispose` of the build's context met it: it had begun and wasn't settled.
pub record IsCanceledBy (events : List Event) (n : ℕ) : Type 0 where
  pub before : List Event
  pub packet : Packet
  pub more : List Event
  pub at : events ≡ before ++ event.Arrive packet ∷ more
  pub request : packet.request ≡ true
  pub cancels : Cancels (verdict before packet) (build events n).key
  pub begun : n < length (builds before)
  pub unsettled : outcome before n ≡ None

-- ---- answers

abbrev pub answered_if : Option Outcome → Bool → Question → Answer → List (Question × Answer)
answered_if None false question answer = (question, answer) ∷ []
answered_if None true question answer = []
answered_if (Some o) large question answer = []

-- the answer that an event gives to the build, unless it is settled or would be too large with it
abbrev pub answers : List Event → ℕ → Event → List (Question × Answer)
answers before n (event.Record worker m question answer) = if nat_eq m n then answered_if (outcome before m) (overfull before m question answer) question answer else []
answers before n e = []

-- whether an event has an answer to this question of the build
abbrev pub answers_it : ℕ → Question → Event → Bool
answers_it n q (event.Record worker m question answer) = nat_eq m n && same_question q question
answers_it n q e = false

-- the earliest event with an answer to this question of the build has this one, came before the build was settled, and didn't make it too large
pub record IsAnsweredBy (events : List Event) (n : ℕ) (q : Question) (a : Answer) : Type 0 where
  pub before : List Event
  pub worker : ℕ
  pub more : List Event
  pub at : events ≡ before ++ event.Record worker n q a ∷ more
  pub earliest : list_any (answers_it n q) before ≡ false
  pub unsettled : outcome before n ≡ None
  pub fits : overfull before n q a ≡ false

-- whether a pair has the answer to this question
abbrev pub is_about : Question → Question × Answer → Bool
is_about q pair = same_question q pair.0

-- ---- replies

abbrev pub empty : ℕ → List Out
empty id = out.Reply id body.Empty ∷ []

-- what a cancel or a dispose owes: its own reply behind those of a build that it cancels, and nothing yet where it waits
abbrev pub stopped : List Event → ℕ → Option ℕ → List Out
stopped before id None = empty id
stopped before id (Some n) = if is_some (outcome before n) then [] else results n (waiting before n) ++ empty id

-- what a request owes at once: the reply of a request that waits for no build, behind the results of a build that it cancels
abbrev pub owed_by : List Event → ℕ → Verdict → List Out
owed_by before id (refused text) = out.Reply id (body.Error text) ∷ []
owed_by before id (accepted (command.Build key options)) = if options.context then empty id else []
owed_by before id (accepted (command.Rebuild key)) = []
owed_by before id (accepted (command.Cancel key)) = stopped before id (active_build before key)
owed_by before id (accepted (command.Dispose key)) = stopped before id (active_build before key)
owed_by before id (accepted (command.Watch key)) = []
owed_by before id (accepted (command.Serve key port)) = []
owed_by before id (accepted command.Ping) = empty id

abbrev pub results_unless : List Event → ℕ → Option Outcome → List Out
results_unless before n None = results n (waiting before n)
results_unless before n (Some o) = []

abbrev pub results_if : Bool → List Event → ℕ → List Out
results_if true before n = results_unless before n (outcome before n)
results_if false before n = []

-- what an event owes: a build that is closed the replies to all that wait for it, in the order in which they came
abbrev pub owes_at : List Event → Event → List Out
owes_at before (event.Arrive packet) = if packet.request then owed_by before packet.id (verdict before packet) else []
owes_at before (event.Settle worker n o) = if is_to_write (build before n) o then [] else results_unless before n (outcome before n)
owes_at before (event.Written worker n failures) = results n (waiting before n)
owes_at before (event.Record worker n question answer) = results_if (overfull before n question answer) before n
owes_at before (event.Deliver worker n t p) = results_if (overopened before n p) before n
owes_at before e = []

-- whether it is a reply to a request that waited for the build
abbrev pub is_result : ℕ → Out → Bool
is_result n (out.Reply id body.Empty) = false
is_result n (out.Reply id (body.Error text)) = false
is_result n (out.Reply id (body.Result m)) = nat_eq m n
is_result n (out.Reply id (body.Closed m)) = nat_eq m n

-- the replies to those requests among all that was ever owed
abbrev pub results_of : List Event → ℕ → List Out
results_of events n = filter (is_result n) (all_owed events)

-- one reply for each request that waits for a build, once that is closed, and none before
abbrev pub results_once : ℕ → List (ℕ × Bool) → Bool → List Out
results_once n waiters false = []
results_once n waiters true = results n waiters

-- whether it is a reply to one of these ids that waited for no build
abbrev pub is_own : (ℕ → Bool) → Out → Bool
is_own ids (out.Reply id body.Empty) = ids id
is_own ids (out.Reply id (body.Error text)) = ids id
is_own ids (out.Reply id (body.Result m)) = false
is_own ids (out.Reply id (body.Closed m)) = false

-- whether an event is a request with one of these ids
abbrev pub is_request : (ℕ → Bool) → Event → Bool
is_request ids (event.Arrive packet) = packet.request && ids packet.id
is_request ids e = false

-- whether a request with one of these ids comes to wait for a build
abbrev pub is_join : (ℕ → Bool) → Move → Bool
is_join ids (join n id result) = ids id
is_join ids m = false

-- ---- contexts

-- once the active build is canceled, the context that only it had is gone
abbrev pub gone_if : List Event → ℕ → Bool → Option ℕ → List (ℕ × Options) → List (ℕ × Options)
gone_if before key stays None contexts = contexts
gone_if before key stays (Some n) contexts = if is_some (outcome before n) || stays then contexts else without key contexts

-- a disposed context stays until its build is closed, where that is settled
abbrev pub disposed_if : List Event → ℕ → Option ℕ → List (ℕ × Options) → List (ℕ × Options)
disposed_if before key active contexts = if is_settled_build before active then contexts else without key contexts

-- the contexts once a request came
abbrev pub contexts_by : List Event → Verdict → List (ℕ × Options)
contexts_by before (accepted (command.Build key options)) = contexts before ++ (key, options) ∷ []
contexts_by before (accepted (command.Cancel key)) = gone_if before key (options_of (context before key)).context (active_build before key) (contexts before)
contexts_by before (accepted (command.Dispose key)) = disposed_if before key (active_build before key) (contexts before)
contexts_by before v = contexts before

-- whether the context with this key is disposed, and its build not closed
abbrev pub is_retired : List Event → ℕ → Bool
is_retired before key = list_any (nat_eq key) (retired_in (moves_in before))

-- whether the context of a build stays once the build is closed
abbrev pub stays_after : List Event → ℕ → Bool
stays_after before n = (build before n).options.context && not (is_retired before (build before n).key)

abbrev pub gone_unless : ℕ → Bool → Option Outcome → List (ℕ × Options) → List (ℕ × Options)
gone_unless key stays None contexts = if stays then contexts else without key contexts
gone_unless key stays (Some o) contexts = contexts

abbrev pub gone_large : Bool → ℕ → Bool → Option Outcome → List (ℕ × Options) → List (ℕ × Options)
gone_large true key stays o contexts = gone_unless key stays o contexts
gone_large false key stays o contexts = contexts

-- the contexts once an event came: a request makes one or removes one, and a build that is settled takes the one that only it had
abbrev pub contexts_at : List Event → Event → List (ℕ × Options)
contexts_at before (event.Arrive packet) = if packet.request then contexts_by before (verdict before packet) else contexts before
contexts_at before (event.Settle worker n o) = if is_to_write (build before n) o then contexts before else gone_unless (build before n).key (stays_after before n) (outcome before n) (contexts before)
contexts_at before (event.Written worker n failures) = if stays_after before n then contexts before else without (build before n).key (contexts before)
contexts_at before (event.Record worker n question answer) = gone_large (overfull before n question answer) (build before n).key (stays_after before n) (outcome before n) (contexts before)
contexts_at before (event.Deliver worker n t p) = gone_large (overopened before n p) (build before n).key (stays_after before n) (outcome before n) (contexts before)
contexts_at before e = contexts before

-- the build is the one of the context with this key that isn't closed
pub record IsActiveBuild (events : List Event) (key n : ℕ) : Type 0 where
  pub begun : n < length (builds events)
  pub its_key : (build events n).key ≡ key
  pub unclosed : closed events n ≡ false

-- how many there are at most of each
pub record IsWithinLimits (events : List Event) : Type 0 where
  pub few_contexts : length (contexts events) ≤ most_contexts
  pub few_builds : length (builds events) ≤ most_builds
  pub few_waiting : (n : ℕ) → length (waiting events n) ≤ most_waiting
  pub few_answers : (n : ℕ) → length (table events n) ≤ most_answers
  pub few_contents : (n : ℕ) → bytes_in (table events n) ≤ most_contents
  pub few_files : (n : ℕ) → files (tasks events n) ≤ most_files

-- ---- what a machine shows

abbrev pub ends_input : Event → Bool
ends_input event.EndOfInput = true
ends_input e = false

-- what is seen of a machine is what its list answers
pub record ShowsHistory (state : State) (events : List Event) : Type 0 where
  pub contexts : state.contexts ≡ contexts events
  pub owes : state.owed ≡ owed events
  pub number : length state.builds ≡ length (builds events)
  pub keys : (n : ℕ) → (build_at state.builds n).key ≡ (build events n).key
  pub options : (n : ℕ) → (build_at state.builds n).options ≡ (build events n).options
  pub waiting : (n : ℕ) → (build_at state.builds n).waiting ≡ waiting events n
  pub tables : (n : ℕ) → (build_at state.builds n).table ≡ table events n
  pub tasks : (n : ℕ) → (build_at state.builds n).tasks ≡ tasks events n
  pub outcomes : (n : ℕ) → (build_at state.builds n).outcome ≡ outcome events n
  pub failures : (n : ℕ) → (build_at state.builds n).failed ≡ failed events n
  pub closed : (n : ℕ) → (build_at state.builds n).closed ≡ closed events n
  pub ended : state.ended ≡ list_any ends_input events

-- what the machine tells of an event that comes after these
abbrev pub tells : List Event → Event → Told
tells before (event.Record worker n question answer) = told_record (table before n) question answer (outcome before n)
tells before (event.Deliver worker n t p) = told_deliver (tasks before n) p (outcome before n)
tells before (event.Settle worker n o) = told_stale (outcome before n)
tells before event.Pop = told_pop (slice_get (owed before) 0)
tells before e = told.Done

-- the input has ended, and each build is closed
pub record IsOver (events : List Event) : Type 0 where
  pub input : list_any ends_input events ≡ true
  pub closed : (n : ℕ) → n < length (builds events) → closed events n ≡ true
