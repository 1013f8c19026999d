-- The tasks of a build are those that its list opened.
use Rattle.std.proofs.Common.{◌≡◌, ℕ, Bool, true, false, cond, List, [], ◌∷◌, ◌++◌, length, take, refl, sym, ap, ◌∙◌, append_assoc, append-nil}
use Rattle.std.specs.Prelude.{fold}
use Rattle.std.specs.List.{list_any}
use Rattle.std.proofs.Math.Seq.{take-append_seam}
use Rattle.std.proofs.lemmas.List.Sums.{fold-append}
use Rattle.esb_ask.specs.declared.task.Task.{Task}
use Rattle.esb_ask.specs.Tasks.{same_task}
use Rattle.esb_core.specs.declared.event.Event.{Event}
use Rattle.esb_core.specs.State.{build_at}
use Rattle.esb_core.specs.Sizes.{with_task}
use Rattle.esb_core.specs.Moves.{Move}
use Rattle.esb_core.specs.Steps.{entry_tasks}
use Rattle.esb_core.specs.History.{Begun, build, gathered, is_legal, moves_in, opens_in, replay, tasks}
use Rattle.esb_core.specs.Work.{names}
use Rattle.esb_core.proofs.Moving.{IsLonger, gathered-push, moves-longer, opens-append}
use Rattle.esb_core.proofs.Readings.{tasks-read}
use Rattle.esb_core.proofs.Legal.{each}
use Rattle.esb_core.proofs.Laws.{reads-legal}
use Rattle.esb_core.proofs.Pushed.{opens-pushed}

-- the state has the tasks of the list
pub tasks-are : (events : List Event) → is_legal events ≡ true → (n : ℕ) → (build_at (replay events).builds n).tasks ≡ tasks events n
tasks-are events legal n = tasks-read (replay events) (moves_in events) n (reads-legal events legal)

-- they are those of the entries, and those that the events named
pub tasks-named : (events : List Event) (n : ℕ) → tasks events n ≡ fold with_task (entry_tasks (length (build events n).options.entries)) (gathered (names n) events)
tasks-named events n = ap (λ (ts : List Task). fold with_task (entry_tasks (length (build events n).options.entries)) ts) (each (λ es. opens_in (moves_in es) n ≡ gathered (names n) es) refl step events)
  where
    step : (es : List Event) (e : Event) → opens_in (moves_in es) n ≡ gathered (names n) es → opens_in (moves_in (es ++ e ∷ [])) n ≡ gathered (names n) (es ++ e ∷ [])
    step es e rec = opens-pushed es n e ∙ ap (λ (ts : List Task). ts ++ names n es e) rec ∙ sym (gathered-push (names n) es e)

-- ---- longer lists

task-longer : (ts : List Task) (t : Task) → IsLonger ts (with_task ts t)
task-longer ts t = by (list_any (same_task t) ts)
  where
    by : (b : Bool) → IsLonger ts (cond b ts (ts ++ t ∷ []))
    by true = record { rest = []; is = sym (append-nil ts) }
    by false = record { rest = t ∷ []; is = refl }

tasks-longer : (ts more : List Task) → IsLonger ts (fold with_task ts more)
tasks-longer ts [] = record { rest = []; is = sym (append-nil ts) }
tasks-longer ts (t ∷ more) =
    let one = task-longer ts t in
    let later = tasks-longer (with_task ts t) more in
    record { rest = one.rest ++ later.rest; is = later.is ∙ ap (λ xs. xs ++ later.rest) one.is ∙ append_assoc ts one.rest later.rest }

-- the tasks of a build keep their order in a longer list, where it keeps its options
pub tasks-grow : (es fs : List Event) (n : ℕ) → build (es ++ fs) n ≡ build es n → take (length (tasks es n)) (tasks (es ++ fs) n) ≡ tasks es n
tasks-grow es fs n stays =
    let entries : List Task = entry_tasks (length (build es n).options.entries) in
    let more = moves-longer es fs in
    let later = tasks-longer (tasks es n) (opens_in more.rest n) in
    let is : tasks (es ++ fs) n ≡ tasks es n ++ later.rest =
    ap (λ (b : Begun). fold with_task (entry_tasks (length b.options.entries)) (opens_in (moves_in (es ++ fs)) n)) stays
    ∙ ap (λ (ms : List Move). fold with_task entries (opens_in ms n)) more.is ∙ ap (λ (us : List Task). fold with_task entries us) (opens-append (moves_in es) more.rest n)
    ∙ fold-append with_task entries (opens_in (moves_in es) n) (opens_in more.rest n)
    ∙ later.is in
    ap (λ xs. take (length (tasks es n)) xs) is ∙ take-append_seam (tasks es n) later.rest
