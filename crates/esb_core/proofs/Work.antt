-- The jobs of the state are those of its list.
use Rattle.std.proofs.Common.{◌≡◌, ◌↔◌, ℕ, zero, suc, ◌+◌, ◌<◌, ◌≤◌, Bool, true, false, cond, not, ◌&&◌, ◌||◌, List, [], ◌∷◌, ◌++◌, length, take, Option, None, Some, is_none, refl, sym, ap, ◌∙◌, arith, nat_eq, eq-eqb, eqb-true, slice_get}
use Rattle.std.specs.Prelude.{count_by, filter}
use Rattle.std.specs.List.{list_any, list_all}
use Rattle.std.proofs.Math.Bool.{or-false}
use Rattle.std.proofs.lemmas.Bool.{false≢true}
use Rattle.std.proofs.lemmas.Option.{slice_get_within}
use Rattle.esb_ask.specs.declared.task.Task.{Task}
use Rattle.esb_flags.specs.declared.options.Options.{Options}
use Rattle.esb_ask.specs.declared.outcome.OutFile.{OutFile}
use Rattle.esb_ask.specs.declared.outcome.Failures.{Failures}
use Rattle.esb_ask.specs.declared.outcome.Outcome.{Outcome}
use Rattle.esb_ask.specs.declared.outcome.Outcome.TheVariants as outcomes
use Rattle.esb_ask.specs.Tasks.{same_task}
use Rattle.esb_ask.proofs.SameTask.{equal-from_same_task, same_task-from_equal, same_task-refl}
use Rattle.esb_core.specs.declared.event.Job.{Job}
use Rattle.esb_core.specs.declared.event.Job.TheVariants as job
use Rattle.esb_core.specs.declared.event.Role.{Role}
use Rattle.esb_core.specs.declared.event.Role.TheVariants as role
use Rattle.esb_core.specs.declared.event.Event.{Event}
use Rattle.esb_core.specs.declared.event.Event.TheVariants as event
use Rattle.esb_core.specs.declared.event.Claimed.TheVariants as claimed
use Rattle.esb_core.specs.State.{Building, State, build_at}
use Rattle.esb_core.specs.Steps.{is_claim}
use Rattle.esb_core.specs.Allowed.{allowed, claimed_or, first_from, first_job, has_task, is_closed, is_closing, is_linker, is_scanned, job_by, job_of, job_told, job_unless, link_if, names_job, or_next, write_if, writing_of}
use Rattle.esb_core.specs.Order.{IsOrdered, IsSane}
use Rattle.esb_core.specs.History.{Begun, build, is_legal, moves_in, outcome, replay, tasks}
use Rattle.esb_core.specs.Work.{claims_link, claims_task, claims_write, delivers, does_task, earliest_from, gives_link, gives_task, is_done, is_open, link_is_open, open_job, open_job_by, open_job_of, open_task, open_write, scan_or_link, settles_by}
use Rattle.esb_core.proofs.Claims.{both_parts}
use Rattle.esb_core.proofs.Held.{IsHeld, any-push, gives-claims, held, left-true, or-true}
use Rattle.esb_core.proofs.Jobs.{no_job, shut-sane}
use Rattle.esb_core.proofs.Laws.{ordered-legal, reads-legal}
use Rattle.esb_core.proofs.Legal.{each_legal}
use Rattle.esb_core.proofs.Once.{IsOnce, claimed-once, count-cons, count-none, count-take, take-next}
use Rattle.esb_core.proofs.Moving.{count-push}
use Rattle.esb_core.proofs.Readings.{build-read, same-number}
use Rattle.esb_core.proofs.Tasks.{tasks-are}
use Rattle.esb_core.proofs.Writes.{IsWritten, written}

-- ---- tests of lists

any-weaker : {X : Type 0} (p q : X → Bool) → ((x : X) → p x ≡ true → q x ≡ true) → (xs : List X) → list_any p xs ≡ true → list_any q xs ≡ true
any-weaker p q f [] some = some
any-weaker p q f (x ∷ xs) some = by (p x) refl some (any-weaker p q f xs)
  where
    by : (t : Bool) → p x ≡ t → (t || list_any p xs) ≡ true → (list_any p xs ≡ true → list_any q xs ≡ true) → (q x || list_any q xs) ≡ true
    by true is one rec = left-true (q x) (list_any q xs) (f x is)
    by false is one rec = ap (λ b. q x || b) (rec one) ∙ or-true (q x)

none-any : {X : Type 0} (p : X → Bool) (xs : List X) → count_by p xs ≡ 0 → list_any p xs ≡ false
none-any p [] none = refl
none-any p (x ∷ xs) none = by (p x) refl (none-any p xs)
  where
    all : count_by p (x ∷ xs) ≡ cond (p x) 1 0 + count_by p xs
    all = count-cons p x xs

    by : (t : Bool) → p x ≡ t → (count_by p xs ≡ 0 → list_any p xs ≡ false) → (t || list_any p xs) ≡ false
    by true is rec = let one : ◌≡◌ {A = ℕ} (cond (p x) 1 0) 1 = ap (λ (c : Bool). let k : ℕ = cond c 1 0 in k) is in absurd (omega (arith, none, all, one))
    by false is rec = rec (omega (arith, none, all))

some-any : {X : Type 0} (p : X → Bool) (xs : List X) → 1 ≤ count_by p xs → list_any p xs ≡ true
some-any p xs some = by (list_any p xs) refl
  where
    by : (t : Bool) → list_any p xs ≡ t → t ≡ true
    by true is = refl
    by false is = let none = count-none p xs is in absurd (omega (arith, none, some))

any-some : {X : Type 0} (p : X → Bool) (xs : List X) → list_any p xs ≡ true → 1 ≤ count_by p xs
any-some p xs some = by (count_by p xs) refl
  where
    by : (k : ℕ) → count_by p xs ≡ k → 1 ≤ k
    by zero is = absurd (false≢true (sym (none-any p xs is) ∙ some))
    by (suc k) is = omega arith

all-places : {X : Type 0} (p : X → Bool) (xs : List X) → ((j : ℕ) (x : X) → slice_get xs j ≡ Some x → p x ≡ true) → list_all p xs ≡ true
all-places p [] f = refl
all-places p (x ∷ xs) f = ap (λ t. t && list_all p xs) (f 0 x refl) ∙ all-places p xs (λ j y is. f (suc j) y is)

all-at : (p : Task → Bool) (ts : List Task) (t : Task) → list_all p ts ≡ true → list_any (same_task t) ts ≡ true → p t ≡ true
all-at p [] t all some = absurd (false≢true some)
all-at p (u ∷ ts) t all some = by (same_task t u) refl some (all-at p ts t (both_parts (p u) (list_all p ts) all).1)
  where
    by : (s : Bool) → same_task t u ≡ s → (s || list_any (same_task t) ts) ≡ true → (list_any (same_task t) ts ≡ true → p t ≡ true) → p t ≡ true
    by true same one rec = ap p (equal-from_same_task t u same) ∙ (both_parts (p u) (list_all p ts) all).0
    by false apart one rec = rec one

none-past : {X : Type 0} (xs : List X) (k : ℕ) → slice_get xs k ≡ None → length xs ≤ k
none-past [] k e = omega arith
none-past (x ∷ xs) zero e = absurd (let h : Some x ≡ None = e in let f : ⊥ = cc in f)
none-past (x ∷ xs) (suc k) e = let rest = none-past xs k e in omega (arith, rest)

-- a task that stands at a place below counts
placed : (ts : List Task) (j k : ℕ) (t : Task) → slice_get ts j ≡ Some t → j < k → 1 ≤ count_by (same_task t) (take k ts)
placed [] j k t at lt = absurd (let f : ⊥ = cc in f)
placed (u ∷ ts) j zero t at lt = absurd (omega arith)
placed (u ∷ ts) zero (suc k) t at lt =
    let same : u ≡ t = cc in
    let all = count-cons (same_task t) u (take k ts) in
    let one : ◌≡◌ {A = ℕ} (cond (same_task t u) 1 0) 1 = ap (λ (c : Bool). let k : ℕ = cond c 1 0 in k) (same_task-from_equal t u (sym same)) in
    omega (arith, all, one)
placed (u ∷ ts) (suc j) (suc k) t at lt =
    let rest = placed ts j k t at (omega arith) in
    let all = count-cons (same_task t) u (take k ts) in
    omega (arith, all, rest)

-- where none before a place is kept, and the one there is, it is the first that is kept
first-kept : {X : Type 0} (keep : X → Bool) (xs : List X) (k : ℕ) → ((j : ℕ) (x : X) → j < k → slice_get xs j ≡ Some x → keep x ≡ false) → ((x : X) → slice_get xs k ≡ Some x → keep x ≡ true)
    → slice_get (filter keep xs) 0 ≡ slice_get xs k
first-kept keep [] k before here = refl
first-kept keep (x ∷ xs) zero before here = ap (λ (t : Bool). slice_get (cond t (x ∷ filter keep xs) (filter keep xs)) 0) (here x refl)
first-kept keep (x ∷ xs) (suc k) before here =
    ap (λ (t : Bool). slice_get (cond t (x ∷ filter keep xs) (filter keep xs)) 0) (before 0 x (omega arith) refl)
    ∙ first-kept keep xs k (λ j y lt is. before (suc j) y (omega arith) is) here

-- ---- claims and deliveries

-- a task that a legal list claims is given to a worker
claimer : (s : State) (e : Event) → allowed s e ≡ true → (n : ℕ) (t : Task) → claims_task n t e ≡ true → (w : ℕ) × (gives_task w n t e ≡ true)
claimer s (event.Claim (role.Worker v) (job.Scan m u)) may n t is =
    let parts = both_parts (nat_eq m n) (same_task t u) is in (
      v,
      ap (λ c. c && (nat_eq m n && same_task u t)) (eq-eqb v v refl) ∙ ap (λ c. c && same_task u t) parts.0 ∙ same_task-from_equal u t (sym (equal-from_same_task t u parts.1)),
    )
claimer s (event.Claim (role.Worker v) (job.Link m)) may n t is = absurd (false≢true is)
claimer s (event.Claim (role.Worker v) (job.Write m)) may n t is = absurd (false≢true is)
claimer s (event.Written v m f) may n t is = absurd (false≢true is)
claimer s (event.Claim (role.Door door) j) may n t is = absurd (false≢true may)
claimer s (event.Arrive packet) may n t is = absurd (false≢true is)
claimer s event.EndOfInput may n t is = absurd (false≢true is)
claimer s (event.Record worker m q a) may n t is = absurd (false≢true is)
claimer s (event.Deliver worker m u p) may n t is = absurd (false≢true is)
claimer s (event.Settle worker m o) may n t is = absurd (false≢true is)
claimer s event.Pop may n t is = absurd (false≢true is)

abbrev pub IsGiven : ℕ → Task → List Event → Type 0
IsGiven n t es = (w : ℕ) × (list_any (gives_task w n t) es ≡ true)

given-push : (es : List Event) (e : Event) → allowed (replay es) e ≡ true → ((n : ℕ) (t : Task) → list_any (claims_task n t) es ≡ true → IsGiven n t es)
    → (n : ℕ) (t : Task) → list_any (claims_task n t) (es ++ e ∷ []) ≡ true → IsGiven n t (es ++ e ∷ [])
given-push es e may before n t some = by (list_any (claims_task n t) es) refl (sym (any-push (claims_task n t) es e) ∙ some)
  where
    by : (x : Bool) → list_any (claims_task n t) es ≡ x → (x || claims_task n t e) ≡ true → IsGiven n t (es ++ e ∷ [])
    by true was one =
        let giver = before n t was in
        (giver.0, any-push (gives_task giver.0 n t) es e ∙ left-true (list_any (gives_task giver.0 n t) es) (gives_task giver.0 n t e) giver.1)
    by false was one =
        let giver = claimer (replay es) e may n t one in
        (giver.0, any-push (gives_task giver.0 n t) es e ∙ ap (λ b. list_any (gives_task giver.0 n t) es || b) giver.1 ∙ or-true (list_any (gives_task giver.0 n t) es))

given-by : (events : List Event) → is_legal events ≡ true → (n : ℕ) (t : Task) → list_any (claims_task n t) events ≡ true → IsGiven n t events
given-by events legal =
    each_legal (λ es. (n : ℕ) (t : Task) → list_any (claims_task n t) es ≡ true → IsGiven n t es) (λ n t some. absurd (false≢true some)) (λ es e was may before. given-push es e may before) events legal

delivers-does : (w n : ℕ) (t : Task) (e : Event) → delivers w n t e ≡ true → does_task n t e ≡ true
delivers-does w n t (event.Deliver v m u p) is = (both_parts (nat_eq v w) (nat_eq m n && same_task u t) is).1
delivers-does w n t (event.Claim r j) is = absurd (false≢true is)
delivers-does w n t (event.Arrive packet) is = absurd (false≢true is)
delivers-does w n t event.EndOfInput is = absurd (false≢true is)
delivers-does w n t (event.Record worker m q a) is = absurd (false≢true is)
delivers-does w n t (event.Settle worker m o) is = absurd (false≢true is)
delivers-does w n t event.Pop is = absurd (false≢true is)
delivers-does w n t (event.Written v m f) is = absurd (false≢true is)

deliverer : (n : ℕ) (t : Task) (e : Event) → does_task n t e ≡ true → (w : ℕ) × (delivers w n t e ≡ true)
deliverer n t (event.Deliver v m u p) is = (v, ap (λ c. c && (nat_eq m n && same_task u t)) (eq-eqb v v refl) ∙ is)
deliverer n t (event.Claim r j) is = absurd (false≢true is)
deliverer n t (event.Arrive packet) is = absurd (false≢true is)
deliverer n t event.EndOfInput is = absurd (false≢true is)
deliverer n t (event.Record worker m q a) is = absurd (false≢true is)
deliverer n t (event.Settle worker m o) is = absurd (false≢true is)
deliverer n t event.Pop is = absurd (false≢true is)
deliverer n t (event.Written v m f) is = absurd (false≢true is)

delivered-by : (n : ℕ) (t : Task) (es : List Event) → list_any (does_task n t) es ≡ true → (w : ℕ) × (list_any (delivers w n t) es ≡ true)
delivered-by n t [] some = absurd (false≢true some)
delivered-by n t (e ∷ es) some = by (does_task n t e) refl some (delivered-by n t es)
  where
    by : (x : Bool) → does_task n t e ≡ x → (x || list_any (does_task n t) es) ≡ true → (list_any (does_task n t) es ≡ true → (w : ℕ) × (list_any (delivers w n t) es ≡ true))
        → (w : ℕ) × (list_any (delivers w n t) (e ∷ es) ≡ true)
    by true is one rec = let worker = deliverer n t e is in (worker.0, left-true (delivers worker.0 n t e) (list_any (delivers worker.0 n t) es) worker.1)
    by false is one rec = let worker = rec one in (worker.0, ap (λ b. delivers worker.0 n t e || b) worker.1 ∙ or-true (delivers worker.0 n t e))

link-claims : (w n : ℕ) (e : Event) → gives_link w n e ≡ true → claims_link n e ≡ true
link-claims w n (event.Claim (role.Worker v) (job.Link m)) is = (both_parts (nat_eq v w) (nat_eq m n) is).1
link-claims w n (event.Claim (role.Worker v) (job.Scan m u)) is = absurd (false≢true is)
link-claims w n (event.Claim (role.Door door) j) is = absurd (false≢true is)
link-claims w n (event.Arrive packet) is = absurd (false≢true is)
link-claims w n event.EndOfInput is = absurd (false≢true is)
link-claims w n (event.Record worker m q a) is = absurd (false≢true is)
link-claims w n (event.Deliver worker m u p) is = absurd (false≢true is)
link-claims w n (event.Settle worker m o) is = absurd (false≢true is)
link-claims w n event.Pop is = absurd (false≢true is)
link-claims w n (event.Claim (role.Worker v) (job.Write m)) is = absurd (false≢true is)
link-claims w n (event.Written v m f) is = absurd (false≢true is)

-- an event gives a task to one worker
one-worker : (v w n : ℕ) (t : Task) (e : Event) → gives_task v n t e ≡ true → gives_task w n t e ≡ true → v ≡ w
one-worker v w n t (event.Claim (role.Worker k) (job.Scan m u)) is its =
    sym (eqb-true k v (both_parts (nat_eq k v) (nat_eq m n && same_task u t) is).0) ∙ eqb-true k w (both_parts (nat_eq k w) (nat_eq m n && same_task u t) its).0
one-worker v w n t (event.Claim (role.Worker k) (job.Link m)) is its = absurd (false≢true is)
one-worker v w n t (event.Claim (role.Door door) j) is its = absurd (false≢true is)
one-worker v w n t (event.Arrive packet) is its = absurd (false≢true is)
one-worker v w n t event.EndOfInput is its = absurd (false≢true is)
one-worker v w n t (event.Record worker m q a) is its = absurd (false≢true is)
one-worker v w n t (event.Deliver worker m u p) is its = absurd (false≢true is)
one-worker v w n t (event.Settle worker m o) is its = absurd (false≢true is)
one-worker v w n t event.Pop is its = absurd (false≢true is)
one-worker v w n t (event.Claim (role.Worker k) (job.Write m)) is its = absurd (false≢true is)
one-worker v w n t (event.Written k m f) is its = absurd (false≢true is)

-- a task that two workers were given was claimed twice
two-given : (v w n : ℕ) (t : Task) (es : List Event) → (v ≡ w → ⊥) → list_any (gives_task v n t) es ≡ true → list_any (gives_task w n t) es ≡ true → 2 ≤ count_by (claims_task n t) es
two-given v w n t [] apart some other = absurd (false≢true some)
two-given v w n t (e ∷ es) apart some other = by (gives_task v n t e) (gives_task w n t e) refl refl some other (two-given v w n t es apart)
  where
    all : count_by (claims_task n t) (e ∷ es) ≡ cond (claims_task n t e) 1 0 + count_by (claims_task n t) es
    all = count-cons (claims_task n t) e es

    here : (k : ℕ) → gives_task k n t e ≡ true → ◌≡◌ {A = ℕ} (cond (claims_task n t e) 1 0) 1
    here k is = ap (λ (c : Bool). let j : ℕ = cond c 1 0 in j) (gives-claims k n t e is)

    later : (k : ℕ) → list_any (gives_task k n t) es ≡ true → 1 ≤ count_by (claims_task n t) es
    later k is = any-some (claims_task n t) es (any-weaker (gives_task k n t) (claims_task n t) (gives-claims k n t) es is)

    by : (x y : Bool) → gives_task v n t e ≡ x → gives_task w n t e ≡ y → (x || list_any (gives_task v n t) es) ≡ true → (y || list_any (gives_task w n t) es) ≡ true
        → (list_any (gives_task v n t) es ≡ true → list_any (gives_task w n t) es ≡ true → 2 ≤ count_by (claims_task n t) es) → 2 ≤ count_by (claims_task n t) (e ∷ es)
    by true true is its one two rec = absurd (apart (one-worker v w n t e is its))
    by true false is its one two rec = let now = here v is in let more = later w two in omega (arith, all, now, more)
    by false true is its one two rec = let now = here w its in let more = later v one in omega (arith, all, now, more)
    by false false is its one two rec = let more = rec one two in omega (arith, all, more)

-- ---- one build

module _ (b : Building) (n : ℕ) (es : List Event) (once : IsOnce b n es) (h : IsHeld b n es) (put : IsWritten b n es) (own : b.options ≡ (build es n).options) (same : b.tasks ≡ tasks es n) (given : (t : Task) → list_any (claims_task n t) es ≡ true → IsGiven n t es) where
  was-claimed : (j : ℕ) (t : Task) → j < b.claimed → slice_get b.tasks j ≡ Some t → list_any (claims_task n t) es ≡ true
  was-claimed j t lt at =
      let some = placed b.tasks j b.claimed t at lt in
      let is = once.claims t in
      some-any (claims_task n t) es (omega (arith, some, is))

  not-claimed : (t : Task) → slice_get b.tasks b.claimed ≡ Some t → list_any (claims_task n t) es ≡ false
  not-claimed t at =
      let is = once.claims t in
      let few = once.differ t in
      let part = count-take (same_task t) b.tasks (b.claimed + 1) in
      let next : count_by (same_task t) (take (b.claimed + 1) b.tasks) ≡ count_by (same_task t) (take b.claimed b.tasks) + cond (same_task t t) 1 0 =
      ap (λ (ts : List Task). count_by (same_task t) ts) (take-next b.tasks b.claimed t at) ∙ count-push (same_task t) (take b.claimed b.tasks) t in
      let own : ◌≡◌ {A = ℕ} (cond (same_task t t) 1 0) 1 = ap (λ (c : Bool). let k : ℕ = cond c 1 0 in k) (same_task-refl t) in
      none-any (claims_task n t) es (omega (arith, is, few, part, next, own))

  task-is : open_task es n ≡ slice_get b.tasks b.claimed
  task-is =
      ap (λ (ts : List Task). slice_get (filter (is_open es n) ts) 0) (sym same)
      ∙ first-kept (is_open es n) b.tasks b.claimed (λ j t lt at. ap not (was-claimed j t lt at)) (λ t at. ap not (not-claimed t at))

  module _ (none : b.outcome ≡ None) where
    held-is : (w : ℕ) (t : Task) → has_task b w t ≡ (list_any (gives_task w n t) es && not (list_any (delivers w n t) es))
    held-is w t =
        h.tasks w t ∙ ap (λ s. list_any (gives_task w n t) es && not (list_any (delivers w n t) es || s)) (h.unsettled none w)
        ∙ ap (λ d. list_any (gives_task w n t) es && not d) (or-false (list_any (delivers w n t) es))

    -- where no claim stands, what was given came back
    came-back : b.claims ≡ [] → (w : ℕ) (t : Task) → list_any (gives_task w n t) es ≡ true → list_any (delivers w n t) es ≡ true
    came-back empty w t was = by (list_any (delivers w n t) es) refl
      where
        by : (x : Bool) → list_any (delivers w n t) es ≡ x → x ≡ true
        by true is = refl
        by false is =
            absurd (false≢true (ap (λ (cs : List (ℕ × Task)). list_any (is_claim w t) cs) (sym empty) ∙ held-is w t ∙ ap (λ g. g && not (list_any (delivers w n t) es)) was ∙ ap not is))

    all-done : b.claims ≡ [] → slice_get b.tasks b.claimed ≡ None → list_all (is_done es n) b.tasks ≡ true
    all-done empty over = all-places (is_done es n) b.tasks done
      where
        done : (j : ℕ) (t : Task) → slice_get b.tasks j ≡ Some t → is_done es n t ≡ true
        done j t at =
            let inside = slice_get_within b.tasks j t at in
            let past = none-past b.tasks b.claimed over in
            let giver = given t (was-claimed j t (omega (arith, inside, past)) at) in
            any-weaker (delivers giver.0 n t) (does_task n t) (delivers-does giver.0 n t) es (came-back empty giver.0 t giver.1)

    -- a claim that stands is of a task that isn't done
    not-done : (claim : ℕ × Task) (claims : List (ℕ × Task)) → b.claims ≡ claim ∷ claims → list_all (is_done es n) b.tasks ≡ false
    not-done claim claims some = by (list_all (is_done es n) b.tasks) refl
      where
        holds : (list_any (gives_task claim.0 n claim.1) es && not (list_any (delivers claim.0 n claim.1) es)) ≡ true
        holds =
            sym (held-is claim.0 claim.1) ∙ ap (λ (cs : List (ℕ × Task)). list_any (is_claim claim.0 claim.1) cs) some
            ∙ left-true (is_claim claim.0 claim.1 claim) (list_any (is_claim claim.0 claim.1) claims) (ap (λ c. c && same_task claim.1 claim.1) (eq-eqb claim.0 claim.0 refl) ∙ same_task-refl claim.1)

        parts : (list_any (gives_task claim.0 n claim.1) es ≡ true) × (not (list_any (delivers claim.0 n claim.1) es) ≡ true)
        parts = both_parts (list_any (gives_task claim.0 n claim.1) es) (not (list_any (delivers claim.0 n claim.1) es)) holds

        stands : list_any (same_task claim.1) b.tasks ≡ true
        stands =
            let was = any-some (claims_task n claim.1) es (any-weaker (gives_task claim.0 n claim.1) (claims_task n claim.1) (gives-claims claim.0 n claim.1) es parts.0) in
            let is = once.claims claim.1 in
            let part = count-take (same_task claim.1) b.tasks b.claimed in
            some-any (same_task claim.1) b.tasks (omega (arith, was, is, part))

        clash : (v : ℕ) → list_any (delivers v n claim.1) es ≡ true → (x : Bool) → nat_eq v claim.0 ≡ x → ⊥
        clash v back true is =
            false≢true (ap not (sym back ∙ ap (λ (k : ℕ). list_any (delivers k n claim.1) es) (eqb-true v claim.0 is)) ∙ parts.1)
        clash v back false is =
            let two = two-given claim.0 v n claim.1 es (λ equal. false≢true (sym is ∙ eq-eqb v claim.0 (sym equal))) parts.0 (h.given v claim.1 back) in
            let few = once.once claim.1 in
            absurd (omega (arith, two, few))

        by : (x : Bool) → list_all (is_done es n) b.tasks ≡ x → x ≡ false
        by false is = refl
        by true is =
            let worker = delivered-by n claim.1 es (all-at (is_done es n) b.tasks claim.1 is stands) in
            absurd (clash worker.0 worker.1 (nat_eq worker.0 claim.0) refl)

    claims-are : slice_get b.tasks b.claimed ≡ None → (cs : List (ℕ × Task)) → b.claims ≡ cs → nat_eq (length cs) 0 ≡ list_all (is_done es n) b.tasks
    claims-are over [] is = sym (all-done is over)
    claims-are over (claim ∷ claims) is = by (nat_eq (length (claim ∷ claims)) 0) refl ∙ sym (not-done claim claims is)
      where
        by : (x : Bool) → nat_eq (length (claim ∷ claims)) 0 ≡ x → x ≡ false
        by false long = refl
        by true long = let short = eqb-true (length (claim ∷ claims)) 0 long in absurd (omega (arith, short))

    linker-is : (l : Option ℕ) → b.linker ≡ l → is_none l ≡ not (list_any (claims_link n) es)
    linker-is None is = sym (ap not (none-any (claims_link n) es (once.free none is)))
    linker-is (Some w) is =
        let linked : (list_any (gives_link w n) es && not (list_any (settles_by w n) es)) ≡ true = sym (h.link w) ∙ ap (λ (l : Option ℕ). is_linker l w) is ∙ eq-eqb w w refl in
        let parts = both_parts (list_any (gives_link w n) es) (not (list_any (settles_by w n) es)) linked in
        sym (ap not (any-weaker (gives_link w n) (claims_link n) (link-claims w n) es parts.0))

    link-is_open : slice_get b.tasks b.claimed ≡ None → is_scanned b ≡ link_is_open es n
    link-is_open over =
        ap (λ c. c && is_none b.linker) (claims-are over b.claims refl) ∙ ap (λ l. list_all (is_done es n) b.tasks && l) (linker-is b.linker refl)
        ∙ ap (λ (ts : List Task). list_all (is_done es n) ts && not (list_any (claims_link n) es)) same

    by_task : (t : Option Task) → slice_get b.tasks b.claimed ≡ t → job_by n b t ≡ scan_or_link n t (link_is_open es n)
    by_task (Some t) at = refl
    by_task None over = ap (link_if n) (link-is_open over)

  -- no event gave the writing where no worker writes, and the files aren't put
  free-is : (is_none b.writer && is_none b.failed) ≡ not (list_any (claims_write n) es)
  free-is = by (list_any (claims_write n) es) refl
    where
      by : (t : Bool) → list_any (claims_write n) es ≡ t → (is_none b.writer && is_none b.failed) ≡ not t
      by true some = put.taken some
      by false none =
          let is = put.free none in
          ap (λ (o : Option ℕ). is_none o && is_none b.failed) is.0 ∙ ap (λ (f : Option Failures). is_none f) is.1

  write-is_open : (o : Outcome) → writing_of n b o ≡ open_write es n o
  write-is_open (outcomes.Files files) =
      ap (λ (p : Options). write_if n (p.write && (is_none b.writer && is_none b.failed))) own ∙ ap (λ t. write_if n ((build es n).options.write && t)) free-is
  write-is_open (outcomes.Errors messages) = refl
  write-is_open outcomes.Canceled = refl
  write-is_open outcomes.Memory = refl

  job-is : b.outcome ≡ outcome es n → job_of n b ≡ open_job_of es n
  job-is is = by b.outcome refl ∙ ap (λ (o : Option Outcome). open_job_by es n o) is
    where
      by : (o : Option Outcome) → b.outcome ≡ o → job_unless n b o ≡ open_job_by es n o
      by (Some o) some = write-is_open o
      by None none = by_task none (slice_get b.tasks b.claimed) refl ∙ ap (λ (t : Option Task). scan_or_link n t (link_is_open es n)) (sym task-is)

-- ---- the builds

job-of : (events : List Event) → is_legal events ≡ true → (n : ℕ) → job_of n (build_at (replay events).builds n) ≡ open_job_of events n
job-of events legal n =
    let read = reads-legal events legal in
    job-is (build_at (replay events).builds n) n events (claimed-once events legal n) (held events legal n) (written events legal n) (sym (ap (λ (b : Begun). b.options) (build-read (replay events) (moves_in events) n read))) (tasks-are events legal n) (given-by events legal n) (read.outcomes n)

earliest-is : (events : List Event) (n : ℕ) (bs : List Building) → ((k : ℕ) → job_of (n + k) (build_at bs k) ≡ open_job_of events (n + k)) → first_from n bs ≡ earliest_from events n (length bs)
earliest-is events n [] each = refl
earliest-is events n (b ∷ bs) each =
    let here : n + 0 ≡ n = omega arith in
    let first : job_of n b ≡ open_job_of events n = ap (λ (k : ℕ). job_of k b) (sym here) ∙ each 0 ∙ ap (open_job_of events) here in
    let rest : first_from (n + 1) bs ≡ earliest_from events (n + 1) (length bs) =
    earliest-is events (n + 1) bs
    (λ k. let next : n + 1 + k ≡ n + suc k = omega arith in ap (λ (m : ℕ). job_of m (build_at bs k)) next ∙ each (suc k) ∙ ap (open_job_of events) (sym next)) in
    ap (λ (j : Option Job). or_next j (first_from (n + 1) bs)) first ∙ ap (or_next (open_job_of events n)) rest

pub open-is : (events : List Event) → is_legal events ≡ true → (r : Role) → first_job (replay events) r ≡ open_job events r
open-is events legal (role.Door door) = refl
open-is events legal (role.Worker worker) =
    earliest-is events 0 (replay events).builds
    (λ k. let same : 0 + k ≡ k = omega arith in ap (λ (m : ℕ). job_of m (build_at (replay events).builds k)) same ∙ job-of events legal k ∙ ap (open_job_of events) (sym same))
    ∙ ap (earliest_from events 0) (same-number (replay events) (moves_in events) (reads-legal events legal))

pub may-claim-by : (events : List Event) (r : Role) (j : Job) → is_legal events ≡ true → allowed (replay events) (event.Claim r j) ≡ names_job (open_job events r) j
may-claim-by events r j legal = ap (λ (o : Option Job). names_job o j) (open-is events legal r)

pub tasks-differ : (events : List Event) (n : ℕ) (t : Task) → is_legal events ≡ true → count_by (same_task t) (tasks events n) ≤ 1
tasks-differ events n t legal =
    let once = claimed-once events legal n in
    let few = once.differ t in
    let same = ap (λ (ts : List Task). count_by (same_task t) ts) (tasks-are events legal n) in
    omega (arith, few, same)

-- ---- what a role is told

is_job : (closing : Bool) (o : Option Job) (j : Job) → (claimed_or closing o ≡ claimed.Job j) ↔ (o ≡ Some j)
is_job closing (Some k) j = (λ e. ap Some cc, λ e. ap claimed.Job cc)
is_job true None j = (λ e. absurd (let f : ⊥ = cc in f), λ e. absurd (let f : ⊥ = cc in f))
is_job false None j = (λ e. absurd (let f : ⊥ = cc in f), λ e. absurd (let f : ⊥ = cc in f))

pub told-job : (events : List Event) (r : Role) (j : Job) → is_legal events ≡ true → (job_told (replay events) r ≡ claimed.Job j) ↔ (open_job events r ≡ Some j)
told-job events r j legal =
    let same = open-is events legal r in
    let cases = is_job (is_closing (replay events)) (first_job (replay events) r) j in
    (λ e. sym same ∙ cases.0 e, λ e. cases.1 (same ∙ e))

none-left : (n : ℕ) (bs : List Building) → ((k : ℕ) → IsSane (build_at bs k)) → list_all is_closed bs ≡ true → first_from n bs ≡ None
none-left n [] sane all = refl
none-left n (b ∷ bs) sane all =
    let parts = both_parts (is_closed b) (list_all is_closed bs) all in
    ap (λ (j : Option Job). or_next j (first_from (n + 1) bs)) (no_job n b (shut-sane b (sane 0) parts.0)) ∙ none-left (n + 1) bs (λ k. sane (suc k)) parts.1

closing-none : (s : State) (r : Role) → IsOrdered s → is_closing s ≡ true → first_job s r ≡ None
closing-none s (role.Worker worker) ordered closing = none-left 0 s.builds ordered.sane (both_parts s.ended (list_all is_closed s.builds) closing).1
closing-none s (role.Door door) ordered closing = refl

is_end : (closing : Bool) (o : Option Job) → claimed_or closing o ≡ claimed.Closing → closing ≡ true
is_end closing (Some j) e = absurd (let f : ⊥ = cc in f)
is_end true None e = refl
is_end false None e = absurd (let f : ⊥ = cc in f)

is_idle : (closing : Bool) (o : Option Job) → (claimed_or closing o ≡ claimed.Idle) ↔ ((closing ≡ false) × (o ≡ None))
is_idle closing (Some j) = (λ e. absurd (let f : ⊥ = cc in f), λ e. let h = e.1 in absurd (let f : ⊥ = cc in f))
is_idle true None = (λ e. absurd (let f : ⊥ = cc in f), λ e. absurd (false≢true (sym e.0)))
is_idle false None = (λ e. (refl, refl), λ e. refl)

-- whatever a closing state means for the list, the end that a role is told means the same
module _ (events : List Event) (r : Role) (legal : is_legal events ≡ true) {Over : Type 0} (over : (is_closing (replay events) ≡ true) ↔ Over) where
  pub told-closing : (job_told (replay events) r ≡ claimed.Closing) ↔ Over
  told-closing = (
    λ e. over.0 (is_end (is_closing (replay events)) (first_job (replay events) r) e),
    λ e.
        let closing = over.1 e in
        ap (λ (o : Option Job). claimed_or (is_closing (replay events)) o) (closing-none (replay events) r (ordered-legal events legal) closing) ∙ ap (λ (c : Bool). claimed_or c None) closing,
  )

  goes_on : (x : Bool) → is_closing (replay events) ≡ x → (Over → ⊥) → x ≡ false
  goes_on false is open_still = refl
  goes_on true is open_still = absurd (open_still (over.0 is))

  pub told-idle : (job_told (replay events) r ≡ claimed.Idle) ↔ ((open_job events r ≡ None) × (Over → ⊥))
  told-idle =
      let same = open-is events legal r in
      let cases = is_idle (is_closing (replay events)) (first_job (replay events) r) in (
        λ e.
            let idle = cases.0 e in
            (sym same ∙ idle.1, λ ends. false≢true (sym idle.0 ∙ over.1 ends)),
        λ e. cases.1 (goes_on (is_closing (replay events)) refl e.1, same ∙ e.0),
      )
