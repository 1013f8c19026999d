-- Each task and each link is claimed once.
use Rattle.std.proofs.Common.{◌≡◌, ℕ, zero, suc, ◌+◌, ◌<◌, ◌≤◌, Bool, true, false, cond, ◌&&◌, List, [], ◌∷◌, ◌++◌, length, take, Option, None, Some, is_none, is_some, refl, sym, ap, subst, ◌∙◌, arith, nat_eq, eq-eqb, eqb-true, ltb-true, length-append, slice_get, slice_set, ◌||◌}
use Rattle.std.specs.Prelude.{count_by}
use Rattle.std.specs.List.{list_any}
use Rattle.std.proofs.lemmas.Bool.{false≢true}
use Rattle.std.proofs.lemmas.List.{take-append-le}
use Rattle.std.proofs.lemmas.List.Sums.{sum_by-cons}
use Rattle.esb_flags.specs.declared.options.Options.{Options}
use Rattle.esb_ask.specs.declared.task.Task.{Task}
use Rattle.esb_ask.specs.declared.task.Task.TheVariants as task
use Rattle.esb_ask.specs.declared.product.Product.{Product}
use Rattle.esb_ask.specs.declared.outcome.Outcome.{Outcome}
use Rattle.esb_ask.specs.Tasks.{same_task}
use Rattle.esb_ask.proofs.SameTask.{same_task-Decides}
use Rattle.esb_core.specs.declared.event.Job.{Job}
use Rattle.esb_core.specs.declared.event.Job.TheVariants as job
use Rattle.esb_core.specs.declared.event.Role.{Role}
use Rattle.esb_core.specs.declared.event.Role.TheVariants as role
use Rattle.esb_core.specs.declared.event.Event.{Event}
use Rattle.esb_core.specs.declared.event.Event.TheVariants as event
use Rattle.esb_core.specs.State.{Building, State, build_at, no_build, start}
use Rattle.esb_core.specs.Sizes.{opened}
use Rattle.esb_core.specs.Moves.{Move}
use Rattle.esb_core.specs.Steps
use Rattle.esb_core.specs.Steps.{after, moves, all_moved, standing, fresh, joined, answered, tasked, ended_by, entry_tasks_from, task_claimed, link_claimed, released}
use Rattle.esb_core.specs.Allowed.{allowed, has_begun, first_job, names_job, may_settle}
use Rattle.esb_core.specs.History.{is_legal, replay}
use Rattle.esb_core.specs.Work.{claims_task, claims_link}
use Rattle.esb_core.proofs.Claims.{claim-is, scan-is, link-is, both_parts}
use Rattle.esb_core.proofs.Each.{each-set, each-all_moved}
use Rattle.esb_core.proofs.Moving.{count-push}
use Rattle.esb_core.proofs.Pushed.{by_settled}
use Rattle.esb_core.proofs.Readings.{at-set}
use Rattle.std.proofs.lemmas.List.{length-set}
use Rattle.esb_core.proofs.Replays.{replay_from-append}
use Rattle.esb_core.proofs.Legal.{each_legal}

-- the tasks of a build differ, and those that were claimed are the first ones
pub record IsOnce (b : Building) (n : ℕ) (events : List Event) : Type 0 where
  pub claims : (t : Task) → count_by (claims_task n t) events ≡ count_by (same_task t) (take b.claimed b.tasks)
  pub differ : (t : Task) → count_by (same_task t) b.tasks ≤ 1
  pub within : b.claimed ≤ length b.tasks
  pub free : b.outcome ≡ None → b.linker ≡ None → count_by (claims_link n) events ≡ 0
  pub links : count_by (claims_link n) events ≤ 1
  pub once : (t : Task) → count_by (claims_task n t) events ≤ 1

-- ---- lists

pub count-cons : {X : Type 0} (p : X → Bool) (x : X) (xs : List X) → count_by p (x ∷ xs) ≡ cond (p x) 1 0 + count_by p xs
count-cons p x xs = sum_by-cons (λ y. cond (p y) 1 0) x xs

pub count-take : {X : Type 0} (p : X → Bool) (xs : List X) (k : ℕ) → count_by p (take k xs) ≤ count_by p xs
count-take p [] zero = omega arith
count-take p [] (suc k) = omega arith
count-take p (x ∷ xs) zero = omega arith
count-take p (x ∷ xs) (suc k) =
    let rest = count-take p xs k in
    let more = count-cons p x xs in
    let few = count-cons p x (take k xs) in
    omega (arith, rest, more, few)

pub count-none : {X : Type 0} (p : X → Bool) (xs : List X) → list_any p xs ≡ false → count_by p xs ≡ 0
count-none p [] e = refl
count-none p (x ∷ xs) e = count-cons p x xs ∙ by (p x) e (count-none p xs)
  where
    by : (t : Bool) → (t || list_any p xs) ≡ false → (list_any p xs ≡ false → count_by p xs ≡ 0) → cond t 1 0 + count_by p xs ≡ 0
    by true is rec = absurd (false≢true (sym is))
    by false is rec = let rest = rec is in omega (arith, rest)

pub take-next : {X : Type 0} (xs : List X) (k : ℕ) (x : X) → slice_get xs k ≡ Some x → take (k + 1) xs ≡ take k xs ++ x ∷ []
take-next [] k x e = absurd (let f : ⊥ = cc in f)
take-next (y ∷ ys) zero x e = let same : y ≡ x = cc in ap (λ z. z ∷ []) same
take-next (y ∷ ys) (suc k) x e = let next : suc k + 1 ≡ suc (k + 1) = omega arith in ap (λ j. take j (y ∷ ys)) next ∙ ap (λ zs. y ∷ zs) (take-next ys k x e)

-- ---- the tasks of entries differ

entries-past : (first k m : ℕ) → m < first → count_by (same_task (task.Entry m)) (entry_tasks_from first k) ≡ 0
entries-past first zero m lt = refl
entries-past first (suc k) m lt =
    let rest = entries-past (first + 1) k m (omega arith) in
    let all = count-cons (same_task (task.Entry m)) (task.Entry first) (entry_tasks_from (first + 1) k) in
    let here : ◌≡◌ {A = ℕ} (cond (nat_eq m first) 1 0) 0 = by (nat_eq m first) refl in
    omega (arith, rest, all, here)
  where
    by : (t : Bool) → nat_eq m first ≡ t → ◌≡◌ {A = ℕ} (cond t 1 0) 0
    by true same = absurd (let is = eqb-true m first same in omega (arith, is, lt))
    by false apart = refl

entries-differ : (first k : ℕ) (t : Task) → count_by (same_task t) (entry_tasks_from first k) ≤ 1
entries-differ first zero t = omega arith
entries-differ first (suc k) (task.Load name) =
    let rest = entries-differ (first + 1) k (task.Load name) in
    let all = count-cons (same_task (task.Load name)) (task.Entry first) (entry_tasks_from (first + 1) k) in
    omega (arith, rest, all)
entries-differ first (suc k) (task.Entry m) =
    let all = count-cons (same_task (task.Entry m)) (task.Entry first) (entry_tasks_from (first + 1) k) in
    let few = by (nat_eq m first) refl (entries-differ (first + 1) k (task.Entry m)) in
    omega (arith, all, few)
  where
    by : (t : Bool) → nat_eq m first ≡ t → count_by (same_task (task.Entry m)) (entry_tasks_from (first + 1) k) ≤ 1
        → cond t 1 0 + count_by (same_task (task.Entry m)) (entry_tasks_from (first + 1) k) ≤ 1
    by true same rest =
        let none = entries-past (first + 1) k m (let is = eqb-true m first same in omega (arith, is)) in
        omega (arith, none)
    by false apart rest = omega (arith, rest)

-- ---- an event

-- the event claims nothing of this build
unclaimed : (b : Building) (n : ℕ) (es : List Event) (e : Event) → ((t : Task) → claims_task n t e ≡ false) → claims_link n e ≡ false → IsOnce b n es → IsOnce b n (es ++ e ∷ [])
unclaimed b n es e no_task no_link h = record {
  claims = λ t. same t ∙ h.claims t;
  differ = h.differ;
  within = h.within;
  free = λ none free. same_link ∙ h.free none free;
  links = let few = h.links in omega (arith, same_link, few);
  once = λ t. let few = h.once t in let is = same t in omega (arith, few, is);
}
  where
    same : (t : Task) → count_by (claims_task n t) (es ++ e ∷ []) ≡ count_by (claims_task n t) es
    same t = count-push (claims_task n t) es e ∙ ap (λ c. count_by (claims_task n t) es + cond c 1 0) (no_task t) ∙ omega arith

    same_link : count_by (claims_link n) (es ++ e ∷ []) ≡ count_by (claims_link n) es
    same_link = count-push (claims_link n) es e ∙ ap (λ c. count_by (claims_link n) es + cond c 1 0) no_link ∙ omega arith

-- a build keeps its tasks, and whether its link may still be claimed
reshaped : (b c : Building) (n : ℕ) (es : List Event) → c.tasks ≡ b.tasks → c.claimed ≡ b.claimed → (c.outcome ≡ None → c.linker ≡ None → (b.outcome ≡ None) × (b.linker ≡ None)) → IsOnce b n es → IsOnce c n es
reshaped b c n es tasks claimed open_still h = record {
  claims = λ t. h.claims t ∙ ap (λ (k : ℕ). count_by (same_task t) (take k b.tasks)) (sym claimed) ∙ ap (λ (ts : List Task). count_by (same_task t) (take c.claimed ts)) (sym tasks);
  differ = λ t. subst (λ (ts : List Task). count_by (same_task t) ts ≤ 1) (sym tasks) (h.differ t);
  within = let few = h.within in let long = ap length tasks in omega (arith, few, long, claimed);
  free = λ none free. let still = open_still none free in h.free still.0 still.1;
  links = h.links;
  once = h.once;
}

-- the claims of a worker end in a build that is settled
released-once : (b : Building) (n : ℕ) (es : List Event) (worker : ℕ) → (b.outcome ≡ None → ⊥) → IsOnce b n es → IsOnce (released b worker) n es
released-once b n es worker settled h = reshaped b (released b worker) n es refl refl (λ none free. absurd (settled none)) h

opened-once : (b c : Building) (n : ℕ) (es : List Event) (u : Option Task) → c.tasks ≡ opened b.tasks u → c.claimed ≡ b.claimed → c.outcome ≡ b.outcome → c.linker ≡ b.linker → IsOnce b n es → IsOnce c n es
opened-once b c n es None tasks claimed outcome linker h = reshaped b c n es tasks claimed (λ none free. (sym outcome ∙ none, sym linker ∙ free)) h
opened-once b c n es (Some u) tasks claimed outcome linker h = by (list_any (same_task u) b.tasks) refl tasks
  where
    more : list_any (same_task u) b.tasks ≡ false → (t : Task) (s : Bool) → same_task t u ≡ s → count_by (same_task t) b.tasks + cond s 1 0 ≤ 1
    more new t true same =
        let none : count_by (same_task t) b.tasks ≡ 0 = ap (λ (v : Task). count_by (same_task v) b.tasks) ((same_task-Decides t u).0 same) ∙ count-none (same_task u) b.tasks new in
        omega (arith, none)
    more new t false apart = let few = h.differ t in omega (arith, few)

    by : (s : Bool) → list_any (same_task u) b.tasks ≡ s → c.tasks ≡ cond s b.tasks (b.tasks ++ u ∷ []) → IsOnce c n es
    by true old is = reshaped b c n es is claimed (λ none free. (sym outcome ∙ none, sym linker ∙ free)) h
    by false new is = record {
      claims = λ t.
          h.claims t ∙ ap (λ (ts : List Task). count_by (same_task t) ts) (sym (take-append-le b.claimed b.tasks (u ∷ []) h.within))
          ∙ ap (λ (k : ℕ). count_by (same_task t) (take k (b.tasks ++ u ∷ []))) (sym claimed) ∙ ap (λ (ts : List Task). count_by (same_task t) (take c.claimed ts)) (sym is);
      differ = λ t.
          let all : count_by (same_task t) c.tasks ≡ count_by (same_task t) b.tasks + cond (same_task t u) 1 0 = ap (λ (ts : List Task). count_by (same_task t) ts) is ∙ count-push (same_task t) b.tasks u in
          let few = more new t (same_task t u) refl in
          omega (arith, all, few);
      within = let few = h.within in let long = ap length is in let one = length-append b.tasks (u ∷ []) in omega (arith, few, long, one, claimed);
      free = λ none free. h.free (sym outcome ∙ none) (sym linker ∙ free);
      links = h.links;
      once = h.once;
    }

-- the claim of a task ends
back-once : (b : Building) (n : ℕ) (es : List Event) (worker : ℕ) (t : Task) → IsOnce b n es → IsOnce (Steps.unclaimed b worker t) n es
back-once b n es worker t h = reshaped b (Steps.unclaimed b worker t) n es refl refl (λ none free. (none, free)) h

-- a worker claims the first task that is open
scan-once : (b : Building) (n : ℕ) (es : List Event) (worker : ℕ) (t : Task) → slice_get b.tasks b.claimed ≡ Some t → b.claimed < length b.tasks → IsOnce b n es
    → IsOnce (task_claimed b worker t) n (es ++ event.Claim (role.Worker worker) (job.Scan n t) ∷ [])
scan-once b n es worker t first inside h = record {
  claims = claims;
  differ = h.differ;
  within = omega (arith, inside);
  free = λ none free. same_link ∙ h.free none free;
  links = let few = h.links in omega (arith, same_link, few);
  once = λ u. let all = claims u in let part = count-take (same_task u) b.tasks (b.claimed + 1) in let few = h.differ u in omega (arith, all, part, few);
}
  where
    claims : (u : Task) → count_by (claims_task n u) (es ++ event.Claim (role.Worker worker) (job.Scan n t) ∷ []) ≡ count_by (same_task u) (take (b.claimed + 1) b.tasks)
    claims u =
        count-push (claims_task n u) es (event.Claim (role.Worker worker) (job.Scan n t))
        ∙ ap (λ c. count_by (claims_task n u) es + cond (c && same_task u t) 1 0) (eq-eqb n n refl)
        ∙ ap (λ k. k + cond (same_task u t) 1 0) (h.claims u)
        ∙ sym (count-push (same_task u) (take b.claimed b.tasks) t)
        ∙ ap (λ (ts : List Task). count_by (same_task u) ts) (sym (take-next b.tasks b.claimed t first))

    same_link : count_by (claims_link n) (es ++ event.Claim (role.Worker worker) (job.Scan n t) ∷ []) ≡ count_by (claims_link n) es
    same_link = count-push (claims_link n) es (event.Claim (role.Worker worker) (job.Scan n t)) ∙ omega arith

link-once : (b : Building) (n : ℕ) (es : List Event) (worker : ℕ) → b.outcome ≡ None → b.linker ≡ None → IsOnce b n es
    → IsOnce (link_claimed b worker) n (es ++ event.Claim (role.Worker worker) (job.Link n) ∷ [])
link-once b n es worker none free h = record {
  claims = λ t. same t ∙ h.claims t;
  differ = h.differ;
  within = h.within;
  free = λ settled taken. absurd (let f : ⊥ = cc in f);
  links =
      let all = count-push (claims_link n) es (event.Claim (role.Worker worker) (job.Link n)) in
      let own : ◌≡◌ {A = ℕ} (cond (nat_eq n n) 1 0) 1 = ap (λ (c : Bool). let k : ℕ = cond c 1 0 in k) (eq-eqb n n refl) in
      let before = h.free none free in
      omega (arith, all, own, before);
  once = λ t. let few = h.once t in let is = same t in omega (arith, few, is);
}
  where
    same : (t : Task) → count_by (claims_task n t) (es ++ event.Claim (role.Worker worker) (job.Link n) ∷ []) ≡ count_by (claims_task n t) es
    same t = count-push (claims_task n t) es (event.Claim (role.Worker worker) (job.Link n)) ∙ omega arith

-- ---- the builds

abbrev pub AreOnce : List Building → List Event → Type 0
AreOnce bs events = (m : ℕ) → IsOnce (build_at bs m) m events

set-once : (bs : List Building) (n : ℕ) (b : Building) (events : List Event) → n < length bs → IsOnce b n events → ((m : ℕ) → nat_eq n m ≡ false → IsOnce (build_at bs m) m events)
    → AreOnce (slice_set bs n b) events
set-once bs n b events lt own others m = subst (λ (c : Building). IsOnce c m events) (sym (at-set bs n b m lt)) (by (nat_eq n m) refl)
  where
    by : (t : Bool) → nat_eq n m ≡ t → IsOnce (cond t b (build_at bs m)) m events
    by true same = subst (λ (k : ℕ). IsOnce b k events) (eqb-true n m same) own
    by false apart = others m apart

fresh-once : (n : ℕ) (es : List Event) (key : ℕ) (options : Options) → IsOnce no_build n es → IsOnce (fresh key options) n es
fresh-once n es key options h = record {
  claims = λ t. h.claims t;
  differ = λ t. entries-differ 0 (length options.entries) t;
  within = omega arith;
  free = λ none free. h.free refl refl;
  links = h.links;
  once = h.once;
}

-- moves claim nothing
moved-once : (s : State) (ms : List Move) (es : List Event) → AreOnce s.builds es → (let t : State = all_moved s ms in AreOnce t.builds es)
moved-once s ms es all =
    each-all_moved (λ n b. IsOnce b n es) (λ n key options h. fresh-once n es key options h)
    (λ n b id result h. reshaped b (joined b id result) n es refl refl (λ none free. (none, free)) h)
    (λ n b q a h. reshaped b (answered b q a) n es refl refl (λ none free. (none, free)) h)
    (λ n b t h. opened-once b (tasked b t) n es (Some t) refl refl refl refl h)
    (λ n b o h. reshaped b (ended_by b o) n es refl refl (λ none free. absurd (let f : ⊥ = cc in f)) h)
    (λ n b f h. reshaped b (Steps.written_by b f) n es refl refl (λ none free. (none, free)) h)
    (λ n b h. reshaped b (Steps.closed_by b) n es refl refl (λ none free. (none, free)) h)
    s ms all

module _ (s : State) (es : List Event) (all : AreOnce s.builds es) where
  -- an event that claims nothing
  idle : (e : Event) → ((n : ℕ) (t : Task) → claims_task n t e ≡ false) → ((n : ℕ) → claims_link n e ≡ false) → AreOnce s.builds (es ++ e ∷ [])
  idle e no_task no_link m = unclaimed (build_at s.builds m) m es e (no_task m) (no_link m) (all m)

  -- an event that changes one build and claims nothing
  changes-once : (e : Event) (n : ℕ) (b : Building) → ((m : ℕ) (t : Task) → claims_task m t e ≡ false) → ((m : ℕ) → claims_link m e ≡ false)
      → IsOnce b n es → AreOnce (slice_set s.builds n b) (es ++ e ∷ [])
  changes-once e n b no_task no_link own = each-set (λ m c. IsOnce c m (es ++ e ∷ [])) s.builds n b (idle e no_task no_link) (unclaimed b n es e (no_task n) (no_link n) own)

  claims-once : (r : Role) (j : Job) → names_job (first_job s r) j ≡ true → (let t : State = Steps.after_claim s r j in AreOnce t.builds (es ++ event.Claim r j ∷ []))
  claims-once (role.Worker worker) (job.Scan n t) may =
      let open_one = scan-is s.builds n t (claim-is s worker (job.Scan n t) may) in
      set-once s.builds n (task_claimed (build_at s.builds n) worker t) (es ++ event.Claim (role.Worker worker) (job.Scan n t) ∷ []) open_one.begun
      (scan-once (build_at s.builds n) n es worker t open_one.first open_one.open_left (all n))
      (λ m apart. unclaimed (build_at s.builds m) m es (event.Claim (role.Worker worker) (job.Scan n t)) (λ u. ap (λ c. c && same_task u t) apart) refl (all m))
  claims-once (role.Worker worker) (job.Link n) may =
      let ready = link-is s.builds n (claim-is s worker (job.Link n) may) in
      let parts = both_parts (nat_eq (length (build_at s.builds n).claims) 0) (is_none (build_at s.builds n).linker) ready.scanned in
      set-once s.builds n (link_claimed (build_at s.builds n) worker) (es ++ event.Claim (role.Worker worker) (job.Link n) ∷ []) ready.begun
      (link-once (build_at s.builds n) n es worker ready.unsettled (none_of (build_at s.builds n).linker parts.1) (all n))
      (λ m apart. unclaimed (build_at s.builds m) m es (event.Claim (role.Worker worker) (job.Link n)) (λ u. refl) apart (all m))
    where
      none_of : (o : Option ℕ) → is_none o ≡ true → o ≡ None
      none_of None e = refl
      none_of (Some k) e = absurd (false≢true e)
  claims-once (role.Worker worker) (job.Write n) may =
      changes-once (event.Claim (role.Worker worker) (job.Write n)) n (Steps.write_claimed (build_at s.builds n) worker) (λ m u. refl) (λ m. refl)
      (reshaped (build_at s.builds n) (Steps.write_claimed (build_at s.builds n) worker) n es refl refl (λ none free. (none, free)) (all n))
  claims-once (role.Door door) j may = absurd (false≢true may)

-- a build that a worker settles is settled once the moves are made
pub is_settled_after : (s : State) (worker n : ℕ) (o : Outcome) → allowed s (event.Settle worker n o) ≡ true → (build_at (all_moved s (moves s (event.Settle worker n o))).builds n).outcome ≡ None → ⊥
is_settled_after s worker n o may = by_settled (λ ms. (build_at (all_moved s ms).builds n).outcome ≡ None → ⊥) (standing s n) n o (build_at s.builds n).outcome open_still shut shut already
  where
    lt : n < length s.builds
    lt = ltb-true n (length s.builds) (both_parts (has_begun s n) (may_settle (build_at s.builds n) worker o) may).0

    b : Building
    b = ended_by (build_at s.builds n) o

    bs : List Building
    bs = slice_set s.builds n b

    there : build_at bs n ≡ b
    there = at-set s.builds n b n lt ∙ ap (λ t. cond t b (build_at s.builds n)) (eq-eqb n n refl)

    some : (c : Building) → c.outcome ≡ Some o → c.outcome ≡ None → ⊥
    some c is none = let said : Some o ≡ None = sym is ∙ none in let f : ⊥ = cc in f

    open_still : (build_at bs n).outcome ≡ None → ⊥
    open_still none = some (build_at bs n) (ap (λ (c : Building). c.outcome) there) none

    shut : (build_at (slice_set bs n (Steps.closed_by (build_at bs n))) n).outcome ≡ None → ⊥
    shut none =
        some (build_at (slice_set bs n (Steps.closed_by (build_at bs n))) n)
        (ap (λ (c : Building). c.outcome) (at-set bs n (Steps.closed_by (build_at bs n)) n (let long = length-set s.builds n b in omega (arith, lt, long)) ∙ ap (λ t. cond t (Steps.closed_by (build_at bs n)) (build_at bs n)) (eq-eqb n n refl))
        ∙ ap (λ (c : Building). c.outcome) there)
        none

    already : is_some (build_at s.builds n).outcome ≡ true → (build_at s.builds n).outcome ≡ None → ⊥
    already settled none = false≢true (sym (ap is_some none) ∙ settled)

step-once : (s : State) (es : List Event) (e : Event) → AreOnce s.builds es → allowed s e ≡ true → (let t : State = after s e in AreOnce t.builds (es ++ e ∷ []))
step-once s es (event.Claim r j) all may = claims-once s es all r j may
step-once s es (event.Deliver worker n t p) all may =
    let u : State = all_moved s (moves s (event.Deliver worker n t p)) in
    let now : AreOnce u.builds es = moved-once s (moves s (event.Deliver worker n t p)) es all in
    changes-once u es now (event.Deliver worker n t p) n (Steps.unclaimed (build_at u.builds n) worker t) (λ m v. refl) (λ m. refl)
    (back-once (build_at u.builds n) n es worker t (now n))
step-once s es (event.Settle worker n o) all may =
    let t : State = all_moved s (moves s (event.Settle worker n o)) in
    let now : AreOnce t.builds es = moved-once s (moves s (event.Settle worker n o)) es all in
    changes-once t es now (event.Settle worker n o) n (released (build_at t.builds n) worker) (λ m u. refl) (λ m. refl)
    (released-once (build_at t.builds n) n es worker (is_settled_after s worker n o may) (now n))
step-once s es (event.Arrive p) all may = idle (all_moved s (moves s (event.Arrive p))) es (moved-once s (moves s (event.Arrive p)) es all) (event.Arrive p) (λ n t. refl) (λ n. refl)
step-once s es (event.Record worker n q a) all may =
    idle (all_moved s (moves s (event.Record worker n q a))) es (moved-once s (moves s (event.Record worker n q a)) es all) (event.Record worker n q a) (λ m t. refl) (λ m. refl)
step-once s es event.EndOfInput all may = idle s es all event.EndOfInput (λ n t. refl) (λ n. refl)
step-once s es (event.Written worker n f) all may = idle (all_moved s (moves s (event.Written worker n f))) es (moved-once s (moves s (event.Written worker n f)) es all) (event.Written worker n f) (λ m t. refl) (λ m. refl)
step-once s es event.Pop all may = idle (all_moved s (moves s event.Pop)) es (moved-once s (moves s event.Pop) es all) event.Pop (λ n t. refl) (λ n. refl)

none-once : AreOnce [] []
none-once m = record {
  claims = λ t. refl;
  differ = λ t. omega arith;
  within = omega arith;
  free = λ none free. refl;
  links = omega arith;
  once = λ t. omega arith;
}

pub claimed-once : (events : List Event) → is_legal events ≡ true → (n : ℕ) → IsOnce (build_at (replay events).builds n) n events
claimed-once events legal =
    each_legal (λ es. AreOnce (replay es).builds es) none-once
    (λ es e before may all. subst (λ (t : State). AreOnce t.builds (es ++ e ∷ [])) (sym (replay_from-append start es (e ∷ []))) (step-once (replay es) es e all may))
    events legal
