-- What is owed stays ready to be sent.
use Rattle.std.proofs.Common.{◌≡◌, ℕ, ◌<◌, ◌^◌, Bool, true, false, not, if◌then◌else◌, List, [], ◌∷◌, ◌++◌, drop, Option, None, Some, IsSome, Ok, Err, refl, sym, subst, nat_lt, slice_get, slice_set, true≢false}
use Rattle.std.specs.List.{AllByRecursion}
use Rattle.std.proofs.lemmas.Bool.{ltb-true}
use Rattle.esb_wire.specs.declared.value.Packet.{Packet}
use Rattle.esb_wire.specs.Spelling.{max_depth}
use Rattle.esb_flags.specs.declared.options.Options.{Options}
use Rattle.esb_flags.specs.declared.command.Command.{Command}
use Rattle.esb_flags.specs.declared.command.Command.TheVariants as command
use Rattle.esb_flags.specs.Fields.{Answer as Asked}
use Rattle.esb_flags.specs.Command.{asked}
use Rattle.esb_ask.specs.declared.question.Question.{Question}
use Rattle.esb_ask.specs.declared.answer.Answer.{Answer}
use Rattle.esb_ask.specs.declared.task.Task.{Task}
use Rattle.esb_ask.specs.declared.outcome.Failures.{Failures}
use Rattle.esb_ask.specs.declared.outcome.Outcome.{Outcome}
use Rattle.esb_core.specs.declared.out.Out.{Out}
use Rattle.esb_core.specs.declared.out.Out.TheVariants as out
use Rattle.esb_core.specs.declared.out.Body.TheVariants as body
use Rattle.esb_core.specs.declared.event.Job.{Job}
use Rattle.esb_core.specs.declared.event.Job.TheVariants as job
use Rattle.esb_core.specs.declared.event.Role.{Role}
use Rattle.esb_core.specs.declared.event.Role.TheVariants as role
use Rattle.esb_core.specs.declared.event.Event.{Event}
use Rattle.esb_core.specs.declared.event.Event.TheVariants as event
use Rattle.esb_core.specs.State.{Building, State, build_at, start}
use Rattle.esb_core.specs.Steps
use Rattle.esb_core.specs.Moves.{Move, make, remove, begin, join, retire, owe, keep, assign, settle, write, close, take, Met, Standing, key_of, options_of, refusal, done, begun, joined_or_begun, closed, canceled, disposed, effect, refused_or, requested, added_or, kept_unless, opens, opened_unless, settled_unless}
use Rattle.esb_core.specs.Sizes.{named, opened, is_overfull, has_too_many, too_large}
use Rattle.esb_ask.specs.Table.{kept}
use Rattle.esb_core.specs.Steps.{after, moved, all_moved, moves, met, standing, fresh, joined, answered, tasked, ended_by, results, task_claimed, link_claimed, unclaimed, released}
use Rattle.esb_core.specs.Allowed.{allowed, may_arrive, is_proper, id_limit}
use Rattle.esb_core.specs.Order.{IsOrdered, MayClose}
use Rattle.esb_core.specs.History.{is_legal, replay}
use Rattle.esb_core.proofs.Claims.{both_parts}
use Rattle.esb_core.proofs.Each.{each-set, each-push}
use Rattle.esb_core.proofs.Laws.{ordered-legal}
use Rattle.esb_core.proofs.Legal.{each_legal}
use Rattle.esb_core.proofs.Orders.{AllFit, Fits, event-fits}
use Rattle.esb_core.proofs.Pushed.{by_canceled, by_disposed, by_settled, by_stays, by_written}
use Rattle.esb_core.proofs.Replays.{replay_from-append}
use Rattle.esb_sound.specs.Ready.{IsReady}
use Rattle.esb_sound.proofs.Builds.{stays-settled}

-- an id that fits
abbrev IsSmall : ℕ × Bool → Type 0
IsSmall waiter = waiter.0 < 2 ^ 31

-- each waiting request has an id that fits, and all that is owed is ready
pub record AreReady (s : State) : Type 0 where
  pub waiting : (n : ℕ) → AllByRecursion IsSmall (build_at s.builds n).waiting
  pub owed : AllByRecursion (IsReady s.builds) s.owed

-- ---- lists

all-map : {X : Type 0} (P Q : X → Type 0) → ((x : X) → P x → Q x) → (xs : List X) → AllByRecursion P xs → AllByRecursion Q xs
all-map P Q f [] h = tt
all-map P Q f (x ∷ xs) h = (f x h.0, all-map P Q f xs h.1)

all-push : {X : Type 0} (P : X → Type 0) (xs : List X) (x : X) → AllByRecursion P xs → P x → AllByRecursion P (xs ++ x ∷ [])
all-push P [] x h own = (own, tt)
all-push P (y ∷ ys) x h own = (h.0, all-push P ys x h.1 own)

all-append : {X : Type 0} (P : X → Type 0) (xs ys : List X) → AllByRecursion P xs → AllByRecursion P ys → AllByRecursion P (xs ++ ys)
all-append P [] ys h more = more
all-append P (x ∷ xs) ys h more = (h.0, all-append P xs ys h.1 more)

all-rest : {X : Type 0} (P : X → Type 0) (xs : List X) → AllByRecursion P xs → AllByRecursion P (drop 1 xs)
all-rest P [] h = tt
all-rest P (x ∷ xs) h = h.1

all-first : {X : Type 0} (P : X → Type 0) (xs : List X) (x : X) → AllByRecursion P xs → slice_get xs 0 ≡ Some x → P x
all-first P [] x h e = absurd cc
all-first P (y ∷ ys) x h e = let same : y ≡ x = cc in subst P same h.0

-- ---- builds

-- where what is settled stays so, what is ready stays ready
ready-stays : (bs cs : List Building) → ((n : ℕ) → IsSome (build_at bs n).outcome → IsSome (build_at cs n).outcome) → (o : Out) → IsReady bs o → IsReady cs o
ready-stays bs cs stay (out.Reply id body.Empty) h = h
ready-stays bs cs stay (out.Reply id (body.Error text)) h = h
ready-stays bs cs stay (out.Reply id (body.Result n)) h = (h.0, stay n h.1)
ready-stays bs cs stay (out.Reply id (body.Closed n)) h = h

-- the results of a settled build are ready
results-ready : (bs : List Building) (n : ℕ) (ws : List (ℕ × Bool)) → IsSome (build_at bs n).outcome → AllByRecursion IsSmall ws → AllByRecursion (IsReady bs) (results n ws)
results-ready bs n [] is h = tt
results-ready bs n (w ∷ ws) is h = (by w.1, results-ready bs n ws is h.1)
  where
    by : (result : Bool) → IsReady bs (out.Reply w.0 (if result then body.Result n else body.Closed n))
    by true = (h.0, is)
    by false = (h.0, tt)

-- ---- moves

-- what a request is told at once is ready
abbrev IsReadyMove : Move → Type 0
IsReadyMove (make key options) = Unit {0}
IsReadyMove (remove key) = Unit {0}
IsReadyMove (begin n key options) = Unit {0}
IsReadyMove (retire key) = Unit {0}
IsReadyMove (join n id result) = IsSmall (id, result)
IsReadyMove (owe o) = IsReady [] o
IsReadyMove (keep n q a) = Unit {0}
IsReadyMove (assign n t) = Unit {0}
IsReadyMove (settle n o) = Unit {0}
IsReadyMove (write n f) = Unit {0}
IsReadyMove (close key n) = Unit {0}
IsReadyMove take = Unit {0}

abbrev AreReadyMoves : List Move → Type 0
AreReadyMoves ms = AllByRecursion IsReadyMove ms

-- what is ready without a build is ready with any
ready-anywhere : (bs : List Building) (o : Out) → IsReady [] o → IsReady bs o
ready-anywhere bs (out.Reply id body.Empty) h = h
ready-anywhere bs (out.Reply id (body.Error text)) h = h
ready-anywhere bs (out.Reply id (body.Closed n)) h = h
ready-anywhere bs (out.Reply id (body.Result n)) h = absurd (none n h.1)
  where
    none : (m : ℕ) → IsSome (build_at [] m).outcome → ⊥
    none m e = true≢false (sym e)

module _ (s : State) (h : AreReady s) where
  -- what was owed is ready after a move
  still : (m : Move) → AllByRecursion (IsReady (moved s m).builds) s.owed
  still m = all-map (IsReady s.builds) (IsReady (moved s m).builds) (ready-stays s.builds (moved s m).builds (stays-settled s m)) s.owed h.owed

  -- a build changes, and the same requests wait for it
  waits : (n : ℕ) (b : Building) → AllByRecursion IsSmall b.waiting → (k : ℕ) → AllByRecursion IsSmall (build_at (slice_set s.builds n b) k).waiting
  waits n b own = each-set (λ k c. AllByRecursion IsSmall c.waiting) s.builds n b h.waiting own

  closed_owes : (key n : ℕ) → MayClose s key n → AllByRecursion (IsReady (moved s (close key n)).builds) (results n (build_at s.builds n).waiting)
  closed_owes key n over = results-ready (moved s (close key n)).builds n (build_at s.builds n).waiting (stays-settled s (close key n) n over.settled) (h.waiting n)

  ready-moved : (m : Move) → Fits s m → IsReadyMove m → AreReady (moved s m)
  ready-moved (make key options) fit is = record { waiting = h.waiting; owed = still (make key options) }
  ready-moved (remove key) fit is = record { waiting = h.waiting; owed = still (remove key) }
  ready-moved (retire key) fit is = record { waiting = h.waiting; owed = still (retire key) }
  ready-moved (begin n key options) fit is = record {
    waiting = each-push (λ k c. AllByRecursion IsSmall c.waiting) s.builds (fresh key options) h.waiting (λ k none. tt);
    owed = still (begin n key options);
  }
  ready-moved (join n id result) fit is = record {
    waiting = waits n (joined (build_at s.builds n) id result) (all-push IsSmall (build_at s.builds n).waiting (id, result) (h.waiting n) is);
    owed = still (join n id result);
  }
  ready-moved (owe o) fit is = record { waiting = h.waiting; owed = all-push (IsReady s.builds) s.owed o h.owed (ready-anywhere s.builds o is) }
  ready-moved (keep n q a) fit is = record { waiting = waits n (answered (build_at s.builds n) q a) (h.waiting n); owed = still (keep n q a) }
  ready-moved (assign n t) fit is = record { waiting = waits n (tasked (build_at s.builds n) t) (h.waiting n); owed = still (assign n t) }
  ready-moved (settle n o) fit is = record { waiting = waits n (ended_by (build_at s.builds n) o) (h.waiting n); owed = still (settle n o) }
  ready-moved (write n f) fit is = record { waiting = waits n (Steps.written_by (build_at s.builds n) f) (h.waiting n); owed = still (write n f) }
  ready-moved (close key n) fit is = record {
    waiting = waits n (Steps.closed_by (build_at s.builds n)) (h.waiting n);
    owed = all-append (IsReady (moved s (close key n)).builds) s.owed (results n (build_at s.builds n).waiting) (still (close key n)) (closed_owes key n fit);
  }
  ready-moved take fit is = record { waiting = h.waiting; owed = all-rest (IsReady s.builds) s.owed h.owed }

ready-all : (s : State) (ms : List Move) → AllFit s ms → AreReadyMoves ms → AreReady s → AreReady (all_moved s ms)
ready-all s [] fit all h = h
ready-all s (m ∷ ms) fit all h = ready-all (moved s m) ms fit.1 all.1 (ready-moved s h m fit.0 all.0)

-- ---- the moves of a packet

module _ (id : ℕ) (lt : id < 2 ^ 31) where
  one-reply : AreReadyMoves (done id)
  one-reply = ((lt, tt), tt)

  begun-ready : (met : Met) (key : ℕ) (options : Options) → AreReadyMoves (begun met id key options)
  begun-ready met key options = (tt, (lt, tt))

  builds_or : (met : Met) (key : ℕ) (options : Options) (stays : Bool) → AreReadyMoves (if stays then done id else begun met id key options)
  builds_or met key options true = one-reply
  builds_or met key options false = begun-ready met key options

  rebuilds : (met : Met) (key : ℕ) (o : Option ℕ) → AreReadyMoves (joined_or_begun met id key o)
  rebuilds met key (Some n) = (lt, tt)
  rebuilds met key None = begun-ready met key (options_of met.context)

  -- a build that is canceled, and then moves that are ready
  cancels : (met : Met) (key : ℕ) (stays : Bool) (o : Option ℕ) (more : List Move) → AreReadyMoves more → AreReadyMoves (canceled met id key stays o more)
  cancels met key stays o more h = by_canceled (λ ns. AreReadyMoves ns) met id key stays o more h (λ n. (lt, tt)) (λ n. (tt, (tt, h))) (λ n. (tt, (tt, (tt, h))))

  disposes : (met : Met) (key : ℕ) → AreReadyMoves (disposed met id key)
  disposes met key =
      by_disposed (λ ns. AreReadyMoves ns) met id key (tt, tt) (λ n. (tt, (lt, tt))) (λ n. (tt, (tt, (tt, tt)))) (λ n. (tt, (tt, (tt, (tt, tt))))) (tt, one-reply) (λ n. (lt, tt))
      (λ n. (tt, (tt, (tt, one-reply)))) (λ n. (tt, (tt, (tt, (tt, one-reply)))))

  effects : (met : Met) (c : Command) → AreReadyMoves (effect met id c)
  effects met (command.Build key options) = (tt, builds_or met key options options.context)
  effects met (command.Rebuild key) = rebuilds met key met.active
  effects met (command.Cancel key) = cancels met key (options_of met.context).context met.active (done id) one-reply
  effects met (command.Dispose key) = disposes met key
  effects met (command.Watch key) = tt
  effects met (command.Serve key port) = tt
  effects met command.Ping = one-reply

  refuses : (met : Met) (c : Command) (o : Option (List ℕ)) → AreReadyMoves (refused_or met id c o)
  refuses met c (Some text) = ((lt, tt), tt)
  refuses met c None = effects met c

  requests : (met : ℕ → Met) (a : Asked Command) → AreReadyMoves (requested met id a)
  requests met (Err text) = ((lt, tt), tt)
  requests met (Ok c) = refuses (met (key_of c)) c (refusal (met (key_of c)) c)

arrives : (met : ℕ → Met) (p : Packet) (t : Bool) → p.id < 2 ^ 31 → AreReadyMoves (if t then requested met p.id (asked p.value) else [])
arrives met p false lt = tt
arrives met p true lt = requests p.id lt met (asked p.value)

settles : (at : Standing) (n : ℕ) (o : Outcome) (p : Option Outcome) → AreReadyMoves (settled_unless at n o p)
settles at n o p = by_settled (λ ns. AreReadyMoves ns) at n o p (tt, tt) (tt, (tt, tt)) (tt, (tt, (tt, tt))) (λ e. tt)

writes : (at : Standing) (n : ℕ) (f : Failures) → AreReadyMoves (write n f ∷ closed at.key at.stays n)
writes at n f = by_written (λ ns. AreReadyMoves ns) at n f (tt, (tt, tt)) (tt, (tt, (tt, tt)))

adds : (at : Standing) (n : ℕ) (large : Bool) (more : List Move) → AreReadyMoves more → AreReadyMoves (added_or at n large more)
adds at n true more h = by_stays (λ ns. AreReadyMoves ns) at.key at.stays n too_large (tt, (tt, tt)) (tt, (tt, (tt, tt)))
adds at n false more h = h

records : (at : Standing) (n : ℕ) (q : Question) (a : Answer) (o : Option Outcome) → AreReadyMoves (kept_unless at n q a o)
records at n q a None = adds at n (is_overfull (kept at.table q a)) (keep n q a ∷ []) (tt, tt)
records at n q a (Some o) = tt

opens-ready : (n : ℕ) (t : Option Task) → AreReadyMoves (opens n t)
opens-ready n None = tt
opens-ready n (Some t) = (tt, tt)

delivers : (at : Standing) (n : ℕ) (t : Option Task) (o : Option Outcome) → AreReadyMoves (opened_unless at n t o)
delivers at n t None = adds at n (has_too_many (opened at.tasks t)) (opens n t) (opens-ready n t)
delivers at n t (Some o) = tt

-- ---- the work of an event

-- a build changes, and keeps its waiting requests and its outcome
changes : (s : State) (n : ℕ) (b : Building) → b.waiting ≡ (build_at s.builds n).waiting → b.outcome ≡ (build_at s.builds n).outcome → AreReady s → AreReady (Steps.changed s n b)
changes s n b same outcome h = record {
  waiting = waits s h n b (subst (λ (ws : List (ℕ × Bool)). AllByRecursion IsSmall ws) (sym same) (h.waiting n));
  owed =
      all-map (IsReady s.builds) (IsReady (slice_set s.builds n b))
      (ready-stays s.builds (slice_set s.builds n b) (each-set (λ k c. IsSome (build_at s.builds k).outcome → IsSome c.outcome) s.builds n b (λ k e. e) (λ e. subst (λ (o : Option Outcome). IsSome o) (sym outcome) e)))
      s.owed h.owed;
}

claims : (s : State) (ro : Role) (j : Job) → AreReady s → AreReady (Steps.after_claim s ro j)
claims s (role.Worker worker) (job.Scan n t) h = changes s n (task_claimed (build_at s.builds n) worker t) refl refl h
claims s (role.Worker worker) (job.Link n) h = changes s n (link_claimed (build_at s.builds n) worker) refl refl h
claims s (role.Worker worker) (job.Write n) h = changes s n (Steps.write_claimed (build_at s.builds n) worker) refl refl h
claims s (role.Door door) j h = h

-- each step of an allowed event
ready-step : (s : State) (e : Event) → IsOrdered s → AreReady s → allowed s e ≡ true → AreReady (after s e)
unfolding may_arrive
ready-step s (event.Arrive packet) ordered h may =
    let parts = both_parts (not s.ended) (may_arrive packet) may in
    let fit = both_parts (nat_lt packet.id id_limit) (is_proper max_depth packet.value) parts.1 in
    ready-all s (moves s (event.Arrive packet)) (event-fits s ordered (event.Arrive packet) may) (arrives (met s) packet packet.request (ltb-true packet.id id_limit fit.0)) h
ready-step s event.EndOfInput ordered h may = record { waiting = h.waiting; owed = h.owed }
ready-step s (event.Claim ro j) ordered h may = claims s ro j h
ready-step s (event.Written worker n f) ordered h may = ready-all s (moves s (event.Written worker n f)) (event-fits s ordered (event.Written worker n f) may) (writes (standing s n) n f) h
ready-step s (event.Record worker n q a) ordered h may = ready-all s (moves s (event.Record worker n q a)) (event-fits s ordered (event.Record worker n q a) may) (records (standing s n) n q a (build_at s.builds n).outcome) h
ready-step s (event.Deliver worker n t p) ordered h may =
    let u : State = all_moved s (moves s (event.Deliver worker n t p)) in
    changes u n (unclaimed (build_at u.builds n) worker t) refl refl (ready-all s (moves s (event.Deliver worker n t p)) (event-fits s ordered (event.Deliver worker n t p) may) (delivers (standing s n) n (named p) (build_at s.builds n).outcome) h)
ready-step s (event.Settle worker n o) ordered h may =
    let t : State = all_moved s (moves s (event.Settle worker n o)) in
    changes t n (released (build_at t.builds n) worker) refl refl (ready-all s (moves s (event.Settle worker n o)) (event-fits s ordered (event.Settle worker n o) may) (settles (standing s n) n o (build_at s.builds n).outcome) h)
ready-step s event.Pop ordered h may = ready-all s (moves s event.Pop) (event-fits s ordered event.Pop may) (tt, tt) h

at_start : AreReady start
at_start = record { waiting = λ n. tt; owed = tt }

all-ready : (events : List Event) → is_legal events ≡ true → AreReady (replay events)
all-ready events legal =
    each_legal (λ es. AreReady (replay es)) at_start
    (λ es e before may h. subst AreReady (sym (replay_from-append start es (e ∷ []))) (ready-step (replay es) e (ordered-legal es before) h may)) events legal

-- the first that is owed is ready
pub first_is_ready : (events : List Event) (o : Out) → is_legal events ≡ true → slice_get (replay events).owed 0 ≡ Some o → IsReady (replay events).builds o
first_is_ready events o legal e = all-first (IsReady (replay events).builds) (replay events).owed o (all-ready events legal).owed e
