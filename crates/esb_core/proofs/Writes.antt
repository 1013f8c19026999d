-- Who writes the files of a build, by the list.
use Rattle.std.proofs.Common.{◌≡◌, ℕ, ◌+◌, ◌<◌, ◌≤◌, Bool, true, false, cond, not, ◌&&◌, ◌||◌, List, [], ◌∷◌, ◌++◌, length, Option, None, Some, is_none, is_some, refl, sym, ap, subst, ◌∙◌, arith, nat_eq, eq-eqb, eqb-true, slice_set}
use Rattle.std.specs.Prelude.{IsSome, count_by}
use Rattle.std.specs.List.{list_any}
use Rattle.std.proofs.lemmas.Bool.{false≢true}
use Rattle.std.proofs.Math.Bool.{or-false}
use Rattle.std.proofs.lemmas.List.Folds.{list_any-append}
use Rattle.esb_flags.specs.declared.options.Options.{Options}
use Rattle.esb_ask.specs.declared.question.Question.{Question}
use Rattle.esb_ask.specs.declared.answer.Answer.{Answer}
use Rattle.esb_ask.specs.declared.task.Task.{Task}
use Rattle.esb_ask.specs.declared.outcome.Failures.{Failures}
use Rattle.esb_ask.specs.declared.outcome.Outcome.{Outcome}
use Rattle.esb_core.specs.declared.event.Job.{Job}
use Rattle.esb_core.specs.declared.event.Job.TheVariants as job
use Rattle.esb_core.specs.declared.event.Role.{Role}
use Rattle.esb_core.specs.declared.event.Role.TheVariants as role
use Rattle.esb_core.specs.declared.event.Event.{Event}
use Rattle.esb_core.specs.declared.event.Event.TheVariants as event
use Rattle.esb_core.specs.State.{Building, State, build_at, no_build, start}
use Rattle.esb_core.specs.Moves.{Move, make, remove, begin, join, retire, owe, keep, assign, settle, write, close, take}
use Rattle.esb_core.specs.Steps
use Rattle.esb_core.specs.Steps.{after, moves, moved, all_moved, fresh, joined, answered, tasked, ended_by, written_by, closed_by, task_claimed, link_claimed, write_claimed, unclaimed, released}
use Rattle.esb_core.specs.Allowed.{allowed, first_job, is_writer, may_fail, names_job}
use Rattle.esb_core.specs.Order.{IsOrdered}
use Rattle.esb_core.specs.History.{is_legal, outcome, replay}
use Rattle.esb_core.specs.Work.{claims_write, gives_write, holds_write, writes_it}
use Rattle.esb_core.proofs.Claims.{IsToWrite, claim-is, write-is, both_parts}
use Rattle.esb_core.proofs.Closes.{written-is}
use Rattle.esb_core.proofs.Each.{each-set, each-push}
use Rattle.esb_core.proofs.Held.{begun-too}
use Rattle.esb_core.proofs.Laws.{ordered-legal, reads-legal}
use Rattle.esb_core.proofs.Legal.{each_legal}
use Rattle.esb_core.proofs.Moving.{count-push}
use Rattle.esb_core.proofs.Once.{count-none}
use Rattle.esb_core.proofs.Orders.{Fits, AllFit, event-fits}
use Rattle.esb_core.proofs.Readings.{at-set}
use Rattle.esb_core.proofs.Replays.{replay_from-append}

-- who writes the files of a build, and whether they are put
pub record IsWritten (b : Building) (n : ℕ) (events : List Event) : Type 0 where
  pub free : list_any (claims_write n) events ≡ false → (b.writer ≡ None) × (b.failed ≡ None)
  pub taken : list_any (claims_write n) events ≡ true → (is_none b.writer && is_none b.failed) ≡ false
  pub once : count_by (claims_write n) events ≤ 1
  pub writer : (w : ℕ) → is_writer b.writer w ≡ (list_any (gives_write w n) events && is_none b.failed)

-- ---- moves that fit

-- what each kind of move keeps of a build, moves that fit keep of each build
module _ (P : ℕ → Building → Type 0)
    (begins : (k key : ℕ) (options : Options) → P k no_build → P k (fresh key options))
    (joins : (k : ℕ) (b : Building) (id : ℕ) (result : Bool) → P k b → P k (joined b id result))
    (keeps : (k : ℕ) (b : Building) (q : Question) (a : Answer) → P k b → P k (answered b q a))
    (assigns : (k : ℕ) (b : Building) (t : Task) → P k b → P k (tasked b t))
    (settles : (k : ℕ) (b : Building) (o : Outcome) → P k b → P k (ended_by b o))
    (writes : (k : ℕ) (b : Building) (f : Failures) → IsSome b.writer → P k b → P k (written_by b f))
    (closes : (k : ℕ) (b : Building) → P k b → P k (closed_by b)) where
  each-fit : (s : State) (m : Move) → Fits s m → ((k : ℕ) → P k (build_at s.builds k)) → (k : ℕ) → P k (build_at (moved s m).builds k)
  each-fit s (make key options) fit all = all
  each-fit s (remove key) fit all = all
  each-fit s (begin n key options) fit all = each-push P s.builds (fresh key options) all (λ k. begins k key options)
  each-fit s (retire key) fit all = all
  each-fit s (join n id result) fit all = each-set P s.builds n (joined (build_at s.builds n) id result) all (joins n (build_at s.builds n) id result (all n))
  each-fit s (owe o) fit all = all
  each-fit s (keep n q a) fit all = each-set P s.builds n (answered (build_at s.builds n) q a) all (keeps n (build_at s.builds n) q a (all n))
  each-fit s (assign n t) fit all = each-set P s.builds n (tasked (build_at s.builds n) t) all (assigns n (build_at s.builds n) t (all n))
  each-fit s (settle n o) fit all = each-set P s.builds n (ended_by (build_at s.builds n) o) all (settles n (build_at s.builds n) o (all n))
  each-fit s (write n f) fit all = each-set P s.builds n (written_by (build_at s.builds n) f) all (writes n (build_at s.builds n) f fit.taken (all n))
  each-fit s (close key n) fit all = each-set P s.builds n (closed_by (build_at s.builds n)) all (closes n (build_at s.builds n) (all n))
  each-fit s take fit all = all

  each-all_fit : (s : State) (ms : List Move) → AllFit s ms → ((k : ℕ) → P k (build_at s.builds k)) → (k : ℕ) → P k (build_at (all_moved s ms).builds k)
  each-all_fit s [] fit all = all
  each-all_fit s (m ∷ ms) fit all = each-all_fit (moved s m) ms fit.1 (each-fit s m fit.0 all)

-- ---- one build

and-false : (b : Bool) → (b && false) ≡ false
and-false true = refl
and-false false = refl

and-true : (b : Bool) → (b && true) ≡ b
and-true true = refl
and-true false = refl

push : {X : Type 0} (p : X → Bool) (xs : List X) (x : X) → list_any p (xs ++ x ∷ []) ≡ (list_any p xs || p x)
push p xs x = list_any-append p xs (x ∷ []) ∙ ap (λ t. list_any p xs || t) (or-false (p x))

quiet : {X : Type 0} (p : X → Bool) (xs : List X) (x : X) → p x ≡ false → list_any p (xs ++ x ∷ []) ≡ list_any p xs
quiet p xs x fails = push p xs x ∙ ap (λ t. list_any p xs || t) fails ∙ or-false (list_any p xs)

neither : (a b : Bool) → (a || b) ≡ false → (a ≡ false) × (b ≡ false)
neither true b e = absurd (false≢true (sym e))
neither false b e = (refl, e)

same-written : (b c : Building) (n : ℕ) (es : List Event) → c.writer ≡ b.writer → c.failed ≡ b.failed → IsWritten b n es → IsWritten c n es
same-written b c n es writer failed h = record {
  free = λ none. let is = h.free none in (writer ∙ is.0, failed ∙ is.1);
  taken = λ some. ap (λ (o : Option ℕ). is_none o && is_none c.failed) writer ∙ ap (λ (f : Option Failures). is_none b.writer && is_none f) failed ∙ h.taken some;
  once = h.once;
  writer = λ w. ap (λ (o : Option ℕ). is_writer o w) writer ∙ h.writer w ∙ ap (λ (f : Option Failures). list_any (gives_write w n) es && is_none f) (sym failed);
}

put-written : (b : Building) (n : ℕ) (es : List Event) (f : Failures) → IsSome b.writer → IsWritten b n es → IsWritten (written_by b f) n es
put-written b n es f some h = record {
  free = λ none. absurd (false≢true (sym (ap is_some (h.free none).0) ∙ some));
  taken = λ e. refl;
  once = h.once;
  writer = λ w. sym (and-false (list_any (gives_write w n) es));
}

-- an event that gives the writing of this build's files to no worker
apart-written : (b : Building) (n : ℕ) (es : List Event) (e : Event) → claims_write n e ≡ false → ((w : ℕ) → gives_write w n e ≡ false) → IsWritten b n es → IsWritten b n (es ++ e ∷ [])
apart-written b n es e none gives h = record {
  free = λ is. h.free (sym (quiet (claims_write n) es e none) ∙ is);
  taken = λ is. h.taken (sym (quiet (claims_write n) es e none) ∙ is);
  once =
      let all = count-push (claims_write n) es e in
      let zero : ◌≡◌ {A = ℕ} (cond (claims_write n e) 1 0) 0 = ap (λ (c : Bool). let k : ℕ = cond c 1 0 in k) none in
      let few = h.once in
      omega (arith, all, zero, few);
  writer = λ w. h.writer w ∙ ap (λ t. t && is_none b.failed) (sym (quiet (gives_write w n) es e (gives w)));
}

gives-claims : (w n : ℕ) (e : Event) → claims_write n e ≡ false → gives_write w n e ≡ false
gives-claims w n (event.Claim (role.Worker v) (job.Write m)) none = ap (λ t. nat_eq v w && t) none ∙ and-false (nat_eq v w)
gives-claims w n (event.Claim (role.Worker v) (job.Scan m u)) none = refl
gives-claims w n (event.Claim (role.Worker v) (job.Link m)) none = refl
gives-claims w n (event.Claim (role.Door door) j) none = refl
gives-claims w n (event.Arrive packet) none = refl
gives-claims w n event.EndOfInput none = refl
gives-claims w n (event.Record worker m q a) none = refl
gives-claims w n (event.Deliver worker m u p) none = refl
gives-claims w n (event.Settle worker m o) none = refl
gives-claims w n (event.Written worker m f) none = refl
gives-claims w n event.Pop none = refl

none-given : (w n : ℕ) (es : List Event) → list_any (claims_write n) es ≡ false → list_any (gives_write w n) es ≡ false
none-given w n [] none = refl
none-given w n (e ∷ es) none =
    let parts = neither (claims_write n e) (list_any (claims_write n) es) none in
    ap (λ t. t || list_any (gives_write w n) es) (gives-claims w n e parts.0) ∙ none-given w n es parts.1

-- a worker claims the writing
claim-written : (b : Building) (n : ℕ) (es : List Event) (v : ℕ) → IsToWrite b → IsWritten b n es → IsWritten (write_claimed b v) n (es ++ event.Claim (role.Worker v) (job.Write n) ∷ [])
claim-written b n es v to_write h = record {
  free = λ none. absurd (false≢true (sym none ∙ some));
  taken = λ e. refl;
  once =
      let all = count-push (claims_write n) es (event.Claim (role.Worker v) (job.Write n)) in
      let own : ◌≡◌ {A = ℕ} (cond (nat_eq n n) 1 0) 1 = ap (λ (c : Bool). let k : ℕ = cond c 1 0 in k) (eq-eqb n n refl) in
      let zero = count-none (claims_write n) es (fresh_one (list_any (claims_write n) es) refl) in
      omega (arith, all, own, zero);
  writer = λ w.
      sym (ap (λ (f : Option Failures). list_any (gives_write w n) (es ++ event.Claim (role.Worker v) (job.Write n) ∷ []) && is_none f) to_write.unput
      ∙ and-true (list_any (gives_write w n) (es ++ event.Claim (role.Worker v) (job.Write n) ∷ []))
      ∙ push (gives_write w n) es (event.Claim (role.Worker v) (job.Write n))
      ∙ ap (λ t. t || (nat_eq v w && nat_eq n n)) (none-given w n es (fresh_one (list_any (claims_write n) es) refl))
      ∙ ap (λ t. nat_eq v w && t) (eq-eqb n n refl) ∙ and-true (nat_eq v w));
}
  where
    fresh_one : (t : Bool) → list_any (claims_write n) es ≡ t → t ≡ false
    fresh_one false is = refl
    fresh_one true is =
        absurd (false≢true (sym (h.taken is) ∙ ap (λ (o : Option ℕ). is_none o && is_none b.failed) to_write.free ∙ ap (λ (f : Option Failures). is_none f) to_write.unput))

    or-true : (t : Bool) → (t || true) ≡ true
    or-true true = refl
    or-true false = refl

    some : list_any (claims_write n) (es ++ event.Claim (role.Worker v) (job.Write n) ∷ []) ≡ true
    some = push (claims_write n) es (event.Claim (role.Worker v) (job.Write n)) ∙ ap (λ t. list_any (claims_write n) es || t) (eq-eqb n n refl) ∙ or-true (list_any (claims_write n) es)

-- ---- the builds

abbrev AreWritten : List Building → List Event → Type 0
AreWritten bs events = (m : ℕ) → IsWritten (build_at bs m) m events

set-written : (bs : List Building) (n : ℕ) (b : Building) (events : List Event) → n < length bs → IsWritten b n events → ((m : ℕ) → nat_eq n m ≡ false → IsWritten (build_at bs m) m events)
    → AreWritten (slice_set bs n b) events
set-written bs n b events lt own others m = subst (λ (c : Building). IsWritten c m events) (sym (at-set bs n b m lt)) (by (nat_eq n m) refl)
  where
    by : (t : Bool) → nat_eq n m ≡ t → IsWritten (cond t b (build_at bs m)) m events
    by true same = subst (λ (k : ℕ). IsWritten b k events) (eqb-true n m same) own
    by false apart = others m apart

moved-written : (s : State) (ms : List Move) (es : List Event) → AllFit s ms → AreWritten s.builds es → (let t : State = all_moved s ms in AreWritten t.builds es)
moved-written s ms es fit all =
    each-all_fit (λ n b. IsWritten b n es) (λ n key options h. same-written no_build (fresh key options) n es refl refl h)
    (λ n b id result h. same-written b (joined b id result) n es refl refl h)
    (λ n b q a h. same-written b (answered b q a) n es refl refl h)
    (λ n b t h. same-written b (tasked b t) n es refl refl h)
    (λ n b o h. same-written b (ended_by b o) n es refl refl h)
    (λ n b f some h. put-written b n es f some h)
    (λ n b h. same-written b (closed_by b) n es refl refl h)
    s ms fit all

module _ (s : State) (es : List Event) (all : AreWritten s.builds es) where
  idle : (e : Event) → ((n : ℕ) → claims_write n e ≡ false) → ((w n : ℕ) → gives_write w n e ≡ false) → AreWritten s.builds (es ++ e ∷ [])
  idle e none gives m = apart-written (build_at s.builds m) m es e (none m) (λ w. gives w m) (all m)

  -- an event that changes one build in other things
  changes : (e : Event) (n : ℕ) (b : Building) → ((m : ℕ) → claims_write m e ≡ false) → ((w m : ℕ) → gives_write w m e ≡ false)
      → IsWritten b n es → AreWritten (slice_set s.builds n b) (es ++ e ∷ [])
  changes e n b none gives own = each-set (λ m c. IsWritten c m (es ++ e ∷ [])) s.builds n b (idle e none gives) (apart-written b n es e (none n) (λ w. gives w n) own)

  claims-written : (r : Role) (j : Job) → names_job (first_job s r) j ≡ true → (let t : State = Steps.after_claim s r j in AreWritten t.builds (es ++ event.Claim r j ∷ []))
  claims-written (role.Worker v) (job.Scan n t) may =
      changes (event.Claim (role.Worker v) (job.Scan n t)) n (task_claimed (build_at s.builds n) v t) (λ m. refl) (λ w m. refl)
      (same-written (build_at s.builds n) (task_claimed (build_at s.builds n) v t) n es refl refl (all n))
  claims-written (role.Worker v) (job.Link n) may =
      changes (event.Claim (role.Worker v) (job.Link n)) n (link_claimed (build_at s.builds n) v) (λ m. refl) (λ w m. refl)
      (same-written (build_at s.builds n) (link_claimed (build_at s.builds n) v) n es refl refl (all n))
  claims-written (role.Worker v) (job.Write n) may =
      let ready = write-is s.builds n (claim-is s v (job.Write n) may) in
      set-written s.builds n (write_claimed (build_at s.builds n) v) (es ++ event.Claim (role.Worker v) (job.Write n) ∷ []) ready.begun
      (claim-written (build_at s.builds n) n es v ready.writes (all n))
      (λ m apart. apart-written (build_at s.builds m) m es (event.Claim (role.Worker v) (job.Write n)) apart (λ w. ap (λ t. nat_eq v w && t) apart ∙ and-false (nat_eq v w)) (all m))
  claims-written (role.Door door) j may = absurd (false≢true may)

step-written : (s : State) (es : List Event) (e : Event) → IsOrdered s → AreWritten s.builds es → allowed s e ≡ true → (let t : State = after s e in AreWritten t.builds (es ++ e ∷ []))
step-written s es (event.Claim r j) ordered all may = claims-written s es all r j may
step-written s es (event.Deliver worker n t p) ordered all may =
    let u : State = all_moved s (moves s (event.Deliver worker n t p)) in
    let now : AreWritten u.builds es = moved-written s (moves s (event.Deliver worker n t p)) es (event-fits s ordered (event.Deliver worker n t p) may) all in
    changes u es now (event.Deliver worker n t p) n (unclaimed (build_at u.builds n) worker t) (λ m. refl) (λ w m. refl)
    (same-written (build_at u.builds n) (unclaimed (build_at u.builds n) worker t) n es refl refl (now n))
step-written s es (event.Settle worker n o) ordered all may =
    let u : State = all_moved s (moves s (event.Settle worker n o)) in
    let now : AreWritten u.builds es = moved-written s (moves s (event.Settle worker n o)) es (event-fits s ordered (event.Settle worker n o) may) all in
    changes u es now (event.Settle worker n o) n (released (build_at u.builds n) worker) (λ m. refl) (λ w m. refl)
    (same-written (build_at u.builds n) (released (build_at u.builds n) worker) n es refl refl (now n))
step-written s es (event.Arrive p) ordered all may =
    idle (all_moved s (moves s (event.Arrive p))) es (moved-written s (moves s (event.Arrive p)) es (event-fits s ordered (event.Arrive p) may) all) (event.Arrive p) (λ m. refl) (λ w m. refl)
step-written s es (event.Record worker n q a) ordered all may =
    idle (all_moved s (moves s (event.Record worker n q a))) es (moved-written s (moves s (event.Record worker n q a)) es (event-fits s ordered (event.Record worker n q a) may) all) (event.Record worker n q a)
    (λ m. refl) (λ w m. refl)
step-written s es (event.Written worker n f) ordered all may =
    idle (all_moved s (moves s (event.Written worker n f))) es (moved-written s (moves s (event.Written worker n f)) es (event-fits s ordered (event.Written worker n f) may) all) (event.Written worker n f)
    (λ m. refl) (λ w m. refl)
step-written s es event.EndOfInput ordered all may = idle s es all event.EndOfInput (λ m. refl) (λ w m. refl)
step-written s es event.Pop ordered all may =
    idle (all_moved s (moves s event.Pop)) es (moved-written s (moves s event.Pop) es (event-fits s ordered event.Pop may) all) event.Pop (λ m. refl) (λ w m. refl)

none-written : AreWritten [] []
none-written m = record { free = λ e. (refl, refl); taken = λ e. absurd (false≢true e); once = omega arith; writer = λ w. refl }

pub written : (events : List Event) → is_legal events ≡ true → (n : ℕ) → IsWritten (build_at (replay events).builds n) n events
written events legal =
    each_legal (λ es. AreWritten (replay es).builds es) none-written
    (λ es e before may all. subst (λ (t : State). AreWritten t.builds (es ++ e ∷ [])) (sym (replay_from-append start es (e ∷ []))) (step-written (replay es) es e (ordered-legal es before) all may))
    events legal

-- ---- what may come

not-some : {X : Type 0} (o : Option X) → is_none o ≡ not (is_some o)
not-some None = refl
not-some (Some x) = refl

writer-by : (events : List Event) (worker n : ℕ) → is_legal events ≡ true → is_writer (build_at (replay events).builds n).writer worker ≡ holds_write events worker n
writer-by events worker n legal =
    let h = written events legal n in
    let read = reads-legal events legal in
    h.writer worker ∙ ap (λ (f : Option Failures). list_any (gives_write worker n) events && is_none f) (read.failures n)
    ∙ ap (λ t. list_any (gives_write worker n) events && t) (not-some _ ∙ ap not (written-is n events))

pub may-write-by : (events : List Event) (worker n : ℕ) (f : Failures) → is_legal events ≡ true
    → allowed (replay events) (event.Written worker n f) ≡ (holds_write events worker n && may_fail (outcome events n) f)
may-write-by events worker n f legal =
    let read = reads-legal events legal in
    begun-too (replay events).builds n (λ b. is_writer b.writer worker && may_fail b.outcome f) refl
    ∙ ap (λ t. t && may_fail (build_at (replay events).builds n).outcome f) (writer-by events worker n legal)
    ∙ ap (λ (o : Option Outcome). holds_write events worker n && may_fail o f) (read.outcomes n)

pub write-once : (events : List Event) (n : ℕ) → is_legal events ≡ true → count_by (claims_write n) events ≤ 1
write-once events n legal = let h = written events legal n in h.once
