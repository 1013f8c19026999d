-- The kinds of move, and which moves an event comes to.
use Rattle.std.specs.Prelude.{ℕ, Bool, true, false, not, ◌&&◌, ◌||◌, if◌then◌else◌, nat_le, List, [], ◌∷◌, ◌++◌, codes, Option, None, Some, is_none, is_some, Ok, Err}
use Rattle.esb_flags.specs.declared.options.Options.{Options}
use Rattle.esb_flags.specs.declared.command.Command.{Command}
use Rattle.esb_flags.specs.declared.command.Command.TheVariants as command
use Rattle.esb_flags.specs.Fields.{Answer as Asked}
use Rattle.esb_flags.specs.Command.{asked}
use Rattle.esb_ask.specs.declared.question.Question.{Question}
use Rattle.esb_ask.specs.declared.answer.Answer.{Answer}
use Rattle.esb_ask.specs.declared.task.Task.{Task}
use Rattle.esb_ask.specs.declared.outcome.Outcome.{Outcome}
use Rattle.esb_ask.specs.declared.outcome.Outcome.TheVariants as outcome
use Rattle.esb_ask.specs.declared.outcome.Failures.{Failures}
use Rattle.esb_core.specs.declared.out.Out.{Out}
use Rattle.esb_core.specs.declared.out.Out.TheVariants as out
use Rattle.esb_core.specs.declared.out.Body.TheVariants as body
use Rattle.esb_core.specs.declared.event.Event.{Event}
use Rattle.esb_core.specs.declared.event.Event.TheVariants as event
use Rattle.esb_ask.specs.Table.{kept}
use Rattle.esb_core.specs.State.{no_options}
use Rattle.esb_core.specs.Sizes.{named, opened, is_overfull, has_too_many, too_large}

-- the most builds of a session
abbrev pub most_builds : ℕ
most_builds = 1048576

-- the most contexts at a time
abbrev pub most_contexts : ℕ
most_contexts = 64

-- the most requests that wait for a build
abbrev pub most_waiting : ℕ
most_waiting = 4096

-- ---- moves

-- one thing that happens in a session
pub data Move : Type 0 where
  -- a context is made, with this key
  make : ℕ → Options → Move
  -- the context with this key is removed
  remove : ℕ → Move
  -- the build of this number begins, in the context with this key
  begin : ℕ → ℕ → Options → Move
  -- the context with this key is disposed: it stays until its build is closed
  retire : ℕ → Move
  -- the request with this id waits for the build, to be answered by its result or by nothing but its close
  join : ℕ → ℕ → Bool → Move
  -- something is owed
  owe : Out → Move
  -- the build gets an answer
  keep : ℕ → Question → Answer → Move
  -- the build gets a task
  assign : ℕ → Task → Move
  -- the build is settled
  settle : ℕ → Outcome → Move
  -- the files of the build are put, but for these
  write : ℕ → Failures → Move
  -- the build, of the context with this key, is closed: the requests that wait for it are owed their replies
  close : ℕ → ℕ → Move
  -- the first that is owed is taken off
  take : Move

-- ---- requests

-- what a request finds
pub record Met : Type 0 where
  -- the options of the context with its key
  pub context : Option Options
  -- whether that context is disposed
  pub retired : Bool
  -- that context's build that isn't closed
  pub active : Option ℕ
  -- whether that build is settled
  pub settled : Bool
  -- how many requests wait for that build
  pub waiting : ℕ
  -- how many contexts there are
  pub contexts : ℕ
  -- how many builds have begun
  pub begun : ℕ

-- the key that a command names
abbrev pub key_of : Command → ℕ
key_of (command.Build key options) = key
key_of (command.Rebuild key) = key
key_of (command.Cancel key) = key
key_of (command.Dispose key) = key
key_of (command.Watch key) = key
key_of (command.Serve key port) = key
key_of command.Ping = 0

abbrev pub options_of : Option Options → Options
options_of None = no_options
options_of (Some options) = options

-- no build can begin any more
abbrev pub is_full : Met → Bool
is_full met = nat_le most_builds met.begun

-- the text of the first reason that holds
abbrev pub first_of : List (Bool × List ℕ) → Option (List ℕ)
first_of [] = None
first_of (reason ∷ more) = if reason.0 then Some reason.1 else first_of more

-- there is no context with the key that isn't disposed
abbrev pub unknown : Met → Bool × List ℕ
unknown met = (is_none met.context || met.retired, codes "Unknown key")

-- no more requests can wait for the build
abbrev pub crowded : Bool → Met → Bool × List ℕ
crowded waits met = (waits && nat_le most_waiting met.waiting, codes "Too many waiters")

-- a context that only its one build has
abbrev pub passing : Met → Bool × List ℕ
passing met = (not (options_of met.context).context, codes "Not a context")

-- a build would begin where none can
abbrev pub too_many : Bool → Met → Bool × List ℕ
too_many begins met = (begins && is_full met, codes "Too many builds")

-- why a command is refused
abbrev pub refusal : Met → Command → Option (List ℕ)
refusal met (command.Build key options) = first_of ((is_some met.context, codes "Key in use") ∷ (nat_le most_contexts met.contexts, codes "Too many contexts") ∷ too_many (not options.context) met ∷ [])
refusal met (command.Rebuild key) = first_of (unknown met ∷ crowded true met ∷ too_many (is_none met.active) met ∷ [])
refusal met (command.Cancel key) = first_of (unknown met ∷ crowded met.settled met ∷ [])
refusal met (command.Dispose key) = first_of (unknown met ∷ crowded met.settled met ∷ [])
refusal met (command.Watch key) = first_of (unknown met ∷ passing met ∷ (true, codes "Not available") ∷ [])
refusal met (command.Serve key port) = first_of (unknown met ∷ passing met ∷ (true, codes "Not available") ∷ [])
refusal met command.Ping = None

-- an empty reply
abbrev pub done : ℕ → List Move
done id = owe (out.Reply id body.Empty) ∷ []

-- a refused request has a reply that says why
abbrev pub refused : ℕ → List ℕ → List Move
refused id text = owe (out.Reply id (body.Error text)) ∷ []

-- a build begins, for which the request waits
abbrev pub begun : Met → ℕ → ℕ → Options → List Move
begun met id key options = begin met.begun key options ∷ join met.begun id true ∷ []

abbrev pub joined_or_begun : Met → ℕ → ℕ → Option ℕ → List Move
joined_or_begun met id key (Some n) = join n id true ∷ []
joined_or_begun met id key None = begun met id key (options_of met.context)

-- a build is closed, and the context that only it had, or that is disposed, is removed
abbrev pub closed : ℕ → Bool → ℕ → List Move
closed key stays n = close key n ∷ (if stays then [] else remove key ∷ [])

-- a build is settled that puts no files, and closed
abbrev pub ended : ℕ → Bool → ℕ → Outcome → List Move
ended key stays n o = settle n o ∷ closed key stays n

-- the active build is canceled, and then come these; or the request waits for the close of one that is settled
abbrev pub canceled_or : Bool → ℕ → ℕ → Bool → ℕ → List Move → List Move
canceled_or true id key stays n more = join n id false ∷ []
canceled_or false id key stays n more = ended key stays n outcome.Canceled ++ more

abbrev pub canceled : Met → ℕ → ℕ → Bool → Option ℕ → List Move → List Move
canceled met id key stays None more = more
canceled met id key stays (Some n) more = canceled_or met.settled id key stays n more

-- a context whose build is settled and not closed is disposed at once and removed later
abbrev pub disposed : Met → ℕ → ℕ → List Move
disposed met id key = if met.settled then retire key ∷ canceled met id key true met.active [] else canceled met id key true met.active (remove key ∷ done id)

-- what a command comes to that isn't refused; `watch` and `serve` always are so far
abbrev pub effect : Met → ℕ → Command → List Move
effect met id (command.Build key options) = make key options ∷ (if options.context then done id else begun met id key options)
effect met id (command.Rebuild key) = joined_or_begun met id key met.active
effect met id (command.Cancel key) = canceled met id key (options_of met.context).context met.active (done id)
effect met id (command.Dispose key) = disposed met id key
effect met id (command.Watch key) = []
effect met id (command.Serve key port) = []
effect met id command.Ping = done id

abbrev pub refused_or : Met → ℕ → Command → Option (List ℕ) → List Move
refused_or met id c (Some text) = refused id text
refused_or met id c None = effect met id c

abbrev pub commanded : Met → ℕ → Command → List Move
commanded met id c = refused_or met id c (refusal met c)

abbrev pub requested : (ℕ → Met) → ℕ → Asked Command → List Move
requested met id (Err text) = refused id text
requested met id (Ok c) = commanded (met (key_of c)) id c

-- ---- events

-- what an event finds of a build
pub record Standing : Type 0 where
  pub key : ℕ
  -- whether its context stays once it is closed
  pub stays : Bool
  -- whether it puts its files
  pub writes : Bool
  -- the first answers to its questions
  pub table : List (Question × Answer)
  -- its tasks, in the order in which they were opened
  pub tasks : List Task
  pub outcome : Option Outcome

-- what work adds to a build, or the end of the build where that would make it too large
abbrev pub added_or : Standing → ℕ → Bool → List Move → List Move
added_or at n true adds = ended at.key at.stays n too_large
added_or at n false adds = adds

-- an answer, unless the build is settled
abbrev pub kept_unless : Standing → ℕ → Question → Answer → Option Outcome → List Move
kept_unless at n question answer None = added_or at n (is_overfull (kept at.table question answer)) (keep n question answer ∷ [])
kept_unless at n question answer (Some o) = []

abbrev pub opens : ℕ → Option Task → List Move
opens n None = []
opens n (Some t) = assign n t ∷ []

-- the task that a product names, unless the build is settled
abbrev pub opened_unless : Standing → ℕ → Option Task → Option Outcome → List Move
opened_unless at n t None = added_or at n (has_too_many (opened at.tasks t)) (opens n t)
opened_unless at n t (Some o) = []

-- whether a build puts files, by whether it does at all and how it is settled
abbrev pub puts : Bool → Outcome → Bool
puts writes (outcome.Files files) = writes
puts writes (outcome.Errors messages) = false
puts writes outcome.Canceled = false
puts writes outcome.Memory = false

-- files that are to be put leave the build open until they are
abbrev pub settled : Standing → ℕ → Outcome → List Move
settled at n (outcome.Files files) = settle n (outcome.Files files) ∷ (if at.writes then [] else closed at.key at.stays n)
settled at n (outcome.Errors messages) = ended at.key at.stays n (outcome.Errors messages)
settled at n outcome.Canceled = ended at.key at.stays n outcome.Canceled
settled at n outcome.Memory = ended at.key at.stays n outcome.Memory

-- the first outcome of a build
abbrev pub settled_unless : Standing → ℕ → Outcome → Option Outcome → List Move
settled_unless at n o None = settled at n o
settled_unless at n o (Some first) = []

-- the moves that an event comes to, by what it finds. A response answers nothing that is open.
abbrev pub moves_of : (ℕ → Met) → (ℕ → Standing) → Event → List Move
moves_of met at (event.Arrive packet) = if packet.request then requested met packet.id (asked packet.value) else []
moves_of met at (event.Record worker n question answer) = kept_unless (at n) n question answer (at n).outcome
moves_of met at (event.Settle worker n o) = settled_unless (at n) n o (at n).outcome
moves_of met at (event.Written worker n failures) = write n failures ∷ closed (at n).key (at n).stays n
moves_of met at event.Pop = take ∷ []
moves_of met at event.EndOfInput = []
moves_of met at (event.Claim role job) = []
moves_of met at (event.Deliver worker n t p) = opened_unless (at n) n (named p) (at n).outcome
