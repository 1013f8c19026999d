-- Each legal list has a state in which the questions about its moves have their answers.
use Rattle.std.proofs.Common.{◌≡◌, ℕ, ◌<◌, ◌≤◌, Bool, true, false, cond, ◌&&◌, List, [], ◌∷◌, ◌++◌, length, Option, None, Some, is_some, Ok, Err, refl, sym, ap, subst, ◌∙◌, arith, ltb-true, length-append}
use Rattle.std.proofs.lemmas.List.{length-set}
use Rattle.std.proofs.lemmas.Bool.{false≢true}
use Rattle.esb_flags.specs.declared.options.Options.{Options}
use Rattle.esb_flags.specs.declared.command.Command.{Command}
use Rattle.esb_flags.specs.Fields.{Answer as Asked}
use Rattle.esb_flags.specs.Command.{asked}
use Rattle.esb_ask.specs.declared.task.Task.{Task}
use Rattle.esb_ask.specs.declared.product.Product.{Product}
use Rattle.esb_ask.specs.declared.outcome.Outcome.{Outcome}
use Rattle.esb_ask.specs.declared.outcome.Outcome.TheVariants as outcomes
use Rattle.esb_ask.specs.Tasks.{product_fits}
use Rattle.esb_core.specs.declared.event.Job.TheVariants as job
use Rattle.esb_core.specs.declared.event.Role.TheVariants as role
use Rattle.esb_core.specs.declared.event.Event.{Event}
use Rattle.esb_core.specs.declared.event.Event.TheVariants as event
use Rattle.esb_core.specs.State.{Building, State, build_at, start}
use Rattle.esb_core.specs.Moves.{Move, make, remove, begin, join, owe, keep, assign, settle, write, retire, close, take, Met, Standing, key_of, commanded, requested, kept_unless, opened_unless, settled_unless, closed}
use Rattle.esb_core.specs.Sizes.{named}
use Rattle.esb_core.specs.Steps.{moved, all_moved, after, worked, moves, fresh, joined, answered, tasked, ended_by, written_by, closed_by, write_claimed, released, unclaimed, task_claimed, link_claimed, met}
use Rattle.esb_core.specs.Allowed.{allowed, has_begun, has_task, may_settle}
use Rattle.esb_core.specs.Order.{IsOrdered, IsSane}
use Rattle.esb_core.specs.History.{moves_after, moves_in, met_in, is_legal, replay, StandsFor}
use Rattle.esb_core.proofs.Claims.{IsToWrite, IsWritable, claim-is, scan-is, link-is, write-is, both_parts}
use Rattle.esb_core.proofs.Moving.{moves-push}
use Rattle.esb_core.proofs.Orders.{all_moved-ordered, changed-ordered, ordered-as, event-fits}
use Rattle.esb_core.proofs.Readings.{Reads, all_moved-reads, changed-reads, met-read, standing-read}
use Rattle.esb_core.proofs.Replays.{replay_from-append}
use Rattle.esb_core.proofs.Legal.{each_legal}

-- the state is in order, and has what the questions about the moves answer
pub record IsRead (s : State) (events : List Event) : Type 0 where
  pub ordered : IsOrdered s
  pub reads : Reads s (moves_in events)

-- ---- the moves of an event

requested-read : (s : State) (ms : List Move) (id : ℕ) (a : Asked Command) → Reads s ms → requested (met s) id a ≡ requested (met_in ms) id a
requested-read s ms id (Err text) r = refl
requested-read s ms id (Ok c) r = ap (λ (m : Met). commanded m id c) (met-read s ms (key_of c) r)

-- what the state comes to is what the moves so far come to
pub moves-read : (s : State) (ms : List Move) (e : Event) → Reads s ms → moves s e ≡ moves_after ms e
moves-read s ms (event.Arrive p) r = ap (λ (ns : List Move). cond p.request ns []) (requested-read s ms p.id (asked p.value) r)
moves-read s ms (event.Record worker n q a) r = ap (λ (t : Standing). kept_unless t n q a t.outcome) (standing-read s ms n r)
moves-read s ms (event.Settle worker n o) r = ap (λ (t : Standing). settled_unless t n o t.outcome) (standing-read s ms n r)
moves-read s ms (event.Written worker n f) r = ap (λ (t : Standing). write n f ∷ closed t.key t.stays n) (standing-read s ms n r)
moves-read s ms event.Pop r = refl
moves-read s ms event.EndOfInput r = refl
moves-read s ms (event.Claim role job) r = refl
moves-read s ms (event.Deliver worker n t p) r = ap (λ (at : Standing). opened_unless at n (named p) at.outcome) (standing-read s ms n r)

-- ---- the work of an event

-- no move takes a build away
moved-longer : (s : State) (m : Move) → length s.builds ≤ length (moved s m).builds
moved-longer s (make key options) = omega arith
moved-longer s (remove key) = omega arith
moved-longer s (begin n key options) = let long = length-append s.builds (fresh key options ∷ []) in omega (arith, long)
moved-longer s (retire key) = omega arith
moved-longer s (join n id result) = let long = length-set s.builds n (joined (build_at s.builds n) id result) in omega (arith, long)
moved-longer s (owe o) = omega arith
moved-longer s (keep n q a) = let long = length-set s.builds n (answered (build_at s.builds n) q a) in omega (arith, long)
moved-longer s (assign n t) = let long = length-set s.builds n (tasked (build_at s.builds n) t) in omega (arith, long)
moved-longer s (settle n o) = let long = length-set s.builds n (ended_by (build_at s.builds n) o) in omega (arith, long)
moved-longer s (write n f) = let long = length-set s.builds n (written_by (build_at s.builds n) f) in omega (arith, long)
moved-longer s (close key n) = let long = length-set s.builds n (closed_by (build_at s.builds n)) in omega (arith, long)
moved-longer s take = omega arith

pub all_moved-longer : (s : State) (ms : List Move) → length s.builds ≤ length (all_moved s ms).builds
all_moved-longer s [] = omega arith
all_moved-longer s (m ∷ ms) = let one = moved-longer s m in let rest = all_moved-longer (moved s m) ms in omega (arith, one, rest)

-- the build that an event works on has begun
pub IsWorkedOn : State → Event → Type 0
IsWorkedOn s (event.Claim (role.Worker worker) (job.Scan n t)) = n < length s.builds
IsWorkedOn s (event.Claim (role.Worker worker) (job.Link n)) = n < length s.builds
IsWorkedOn s (event.Claim (role.Worker worker) (job.Write n)) = IsWritable s.builds n
IsWorkedOn s (event.Claim (role.Door door) j) = Unit {0}
IsWorkedOn s (event.Written worker n f) = Unit {0}
IsWorkedOn s (event.Deliver worker n t p) = n < length s.builds
IsWorkedOn s (event.Settle worker n o) = n < length s.builds
IsWorkedOn s (event.Arrive p) = Unit {0}
IsWorkedOn s event.EndOfInput = Unit {0}
IsWorkedOn s (event.Record worker n q a) = Unit {0}
IsWorkedOn s event.Pop = Unit {0}

pub works-on : (s : State) (e : Event) → allowed s e ≡ true → IsWorkedOn (all_moved s (moves s e)) e
unfolding IsWorkedOn
works-on s (event.Claim (role.Worker worker) (job.Scan n t)) may = (scan-is s.builds n t (claim-is s worker (job.Scan n t) may)).begun
works-on s (event.Claim (role.Worker worker) (job.Link n)) may = (link-is s.builds n (claim-is s worker (job.Link n) may)).begun
works-on s (event.Claim (role.Worker worker) (job.Write n)) may = write-is s.builds n (claim-is s worker (job.Write n) may)
works-on s (event.Claim (role.Door door) j) may = tt
works-on s (event.Written worker n f) may = tt
works-on s (event.Deliver worker n t p) may =
    let lt = ltb-true n (length s.builds) (both_parts (has_begun s n) (has_task (build_at s.builds n) worker t && product_fits t p) may).0 in
    let longer = all_moved-longer s (moves s (event.Deliver worker n t p)) in
    omega (arith, lt, longer)
works-on s (event.Settle worker n o) may =
    let lt = ltb-true n (length s.builds) (both_parts (has_begun s n) (may_settle (build_at s.builds n) worker o) may).0 in
    let longer = all_moved-longer s (moves s (event.Settle worker n o)) in
    omega (arith, lt, longer)
works-on s (event.Arrive p) may = tt
works-on s event.EndOfInput may = tt
works-on s (event.Record worker n q a) may = tt
works-on s event.Pop may = tt

worked-reads : (s : State) (ms : List Move) (e : Event) → IsWorkedOn s e → Reads s ms → Reads (worked s e) ms
unfolding IsWorkedOn
worked-reads s ms (event.Claim (role.Worker worker) (job.Scan n t)) lt r = changed-reads s ms n (task_claimed (build_at s.builds n) worker t) lt refl refl refl refl refl refl refl r
worked-reads s ms (event.Claim (role.Worker worker) (job.Link n)) lt r = changed-reads s ms n (link_claimed (build_at s.builds n) worker) lt refl refl refl refl refl refl refl r
worked-reads s ms (event.Claim (role.Worker worker) (job.Write n)) on r = changed-reads s ms n (write_claimed (build_at s.builds n) worker) on.begun refl refl refl refl refl refl refl r
worked-reads s ms (event.Claim (role.Door door) j) lt r = r
worked-reads s ms (event.Written worker n f) lt r = r
worked-reads s ms (event.Deliver worker n t p) lt r = changed-reads s ms n (unclaimed (build_at s.builds n) worker t) lt refl refl refl refl refl refl refl r
worked-reads s ms (event.Settle worker n o) lt r = changed-reads s ms n (released (build_at s.builds n) worker) lt refl refl refl refl refl refl refl r
worked-reads s ms event.EndOfInput lt r = record { contexts = r.contexts; retired = r.retired; active = r.active; begun = r.begun; waiting = r.waiting; outcomes = r.outcomes; closes = r.closes; failures = r.failures; tables = r.tables; lists = r.lists; owed = r.owed; enough = r.enough }
worked-reads s ms (event.Arrive p) lt r = r
worked-reads s ms (event.Record worker n q a) lt r = r
worked-reads s ms event.Pop lt r = r

-- work leaves whether a build is settled, written and closed
pub same-sane : {b c : Building} → IsSane b → c.outcome ≡ b.outcome → c.writer ≡ b.writer → c.closed ≡ b.closed → c.failed ≡ b.failed → c.options ≡ b.options → IsSane c
same-sane k outcome writer closed failed options = record {
  open_still = λ none. closed ∙ k.open_still (sym outcome ∙ none);
  unwritten = λ none. writer ∙ k.unwritten (sym outcome ∙ none);
  writing = λ w some. closed ∙ k.writing w (sym writer ∙ some);
  put = λ shut puts files is. ap is_some failed ∙ k.put (sym closed ∙ shut) (sym (ap (λ (o : Options). o.write) options) ∙ puts) files (sym outcome ∙ is);
}

-- a build isn't closed whose files are to be put
pub unput-unclosed : (b : Building) → IsSane b → IsToWrite b → b.closed ≡ false
unput-unclosed b k to_write = by b.closed refl
  where
    by : (t : Bool) → b.closed ≡ t → t ≡ false
    by false is = refl
    by true shut = absurd (false≢true (sym (ap is_some to_write.unput) ∙ k.put shut to_write.writes to_write.files to_write.outcome))

write-sane : (b : Building) (worker : ℕ) → IsToWrite b → IsSane b → IsSane (write_claimed b worker)
write-sane b worker to_write k = record {
  open_still = k.open_still;
  unwritten = λ none. absurd (let e : Some (outcomes.Files to_write.files) ≡ None = sym to_write.outcome ∙ none in let f : ⊥ = cc in f);
  writing = λ w some. unput-unclosed b k to_write;
  put = k.put;
}

pub worked-ordered : (s : State) (e : Event) → IsWorkedOn s e → IsOrdered s → IsOrdered (worked s e)
unfolding IsWorkedOn
worked-ordered s (event.Claim (role.Worker worker) (job.Scan n t)) lt h = changed-ordered s n (task_claimed (build_at s.builds n) worker t) lt refl refl (same-sane (h.sane n) refl refl refl refl refl) h
worked-ordered s (event.Claim (role.Worker worker) (job.Link n)) lt h = changed-ordered s n (link_claimed (build_at s.builds n) worker) lt refl refl (same-sane (h.sane n) refl refl refl refl refl) h
worked-ordered s (event.Claim (role.Worker worker) (job.Write n)) on h = changed-ordered s n (write_claimed (build_at s.builds n) worker) on.begun refl refl (write-sane (build_at s.builds n) worker on.writes (h.sane n)) h
worked-ordered s (event.Claim (role.Door door) j) lt h = h
worked-ordered s (event.Written worker n f) lt h = h
worked-ordered s (event.Deliver worker n t p) lt h = changed-ordered s n (unclaimed (build_at s.builds n) worker t) lt refl refl (same-sane (h.sane n) refl refl refl refl refl) h
worked-ordered s (event.Settle worker n o) lt h = changed-ordered s n (released (build_at s.builds n) worker) lt refl refl (same-sane (h.sane n) refl refl refl refl refl) h
worked-ordered s event.EndOfInput lt h = ordered-as s (record s { ended = true }) refl refl refl h
worked-ordered s (event.Arrive p) lt h = h
worked-ordered s (event.Record worker n q a) lt h = h
worked-ordered s event.Pop lt h = h

-- ---- each step of an allowed event

pub reads-step : (s : State) (es : List Event) (e : Event) → IsRead s es → allowed s e ≡ true → IsRead (after s e) (es ++ e ∷ [])
reads-step s es e r may =
    let fit = event-fits s r.ordered e may in
    let on = works-on s e may in
    let all : Reads (all_moved s (moves s e)) (moves_in es ++ moves s e) = all_moved-reads s (moves_in es) (moves s e) fit r.reads in
    let same : moves_in es ++ moves s e ≡ moves_in (es ++ e ∷ []) = ap (λ (ms : List Move). moves_in es ++ ms) (moves-read s (moves_in es) e r.reads) ∙ sym (moves-push es e) in
    record {
      ordered = worked-ordered (all_moved s (moves s e)) e on (all_moved-ordered s (moves s e) fit r.ordered);
      reads = subst (λ (ms : List Move). Reads (after s e) ms) same (worked-reads (all_moved s (moves s e)) (moves_in es ++ moves s e) e on all);
    }

at_start : IsRead start []
at_start = record {
  ordered = record {
    active = λ key n e. absurd (let h : None ≡ Some n = e in let f : ⊥ = cc in f);
    known = λ n lt none. absurd (omega (arith, lt));
    inside = λ key n e. absurd (let h : None ≡ Some n = e in let f : ⊥ = cc in f);
    sane = λ n. record { open_still = λ e. refl; unwritten = λ e. refl; writing = λ w e. refl; put = λ shut puts files is. absurd (false≢true shut) };
  };
  reads = record { contexts = refl; retired = refl; active = refl; begun = refl; waiting = λ n. refl; outcomes = λ n. refl; closes = λ n. refl; failures = λ n. refl; tables = λ n. refl; lists = λ n. refl; owed = refl; enough = omega arith };
}

pub read-legal : (events : List Event) → is_legal events ≡ true → IsRead (replay events) events
read-legal events legal =
    each_legal (λ es. IsRead (replay es) es) at_start
    (λ es e before may r. subst (λ (s : State). IsRead s (es ++ e ∷ [])) (sym (replay_from-append start es (e ∷ []))) (reads-step (replay es) es e r may))
    events legal

-- the state of a legal list has what the questions about its moves answer
pub reads-legal : (events : List Event) → is_legal events ≡ true → Reads (replay events) (moves_in events)
reads-legal events legal = (read-legal events legal).reads

pub ordered-legal : (events : List Event) → is_legal events ≡ true → IsOrdered (replay events)
ordered-legal events legal = (read-legal events legal).ordered

pub read-stands : (s : State) (events : List Event) → StandsFor s events → IsRead s events
read-stands s events h = subst (λ t. IsRead t events) (sym h.replayed) (read-legal events h.legal)
