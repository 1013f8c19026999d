-- With one worker, a build that isn't settled has no claim but that of the job in hand.
use Rattle.std.proofs.Common.{◌≡◌, ◌⊎◌, inl, inr, append_assoc, ℕ, zero, suc, ◌+◌, ◌<◌, ◌≤◌, Bool, true, false, cond, not, ◌&&◌, List, [], ◌∷◌, ◌++◌, length, Option, None, Some, IsSome, refl, sym, ap, subst, ◌∙◌, arith, nat_eq, slice_get, slice_set}
use Rattle.std.specs.Prelude.{filter, is_none, is_some}
use Rattle.std.proofs.lemmas.Bool.{eqb-true, ltb-true}
use Rattle.std.proofs.lemmas.List.{length-map}
use Rattle.esb_base.specs.World.{Folder}
use Rattle.esb_ask.specs.declared.task.Task.{Task}
use Rattle.esb_ask.specs.declared.outcome.Outcome.{Outcome}
use Rattle.esb_ask.specs.declared.outcome.Outcome.TheVariants as ending
use Rattle.esb_ask.specs.Tasks.{product_fits}
use Rattle.esb_ask.proofs.SameTask.{same_task-refl}
use Rattle.esb_core.specs.declared.event.Job.{Job}
use Rattle.esb_core.specs.declared.event.Job.TheVariants as job
use Rattle.esb_core.specs.declared.event.Role.{Role}
use Rattle.esb_core.specs.declared.event.Role.TheVariants as role
use Rattle.esb_core.specs.declared.event.Event.{Event}
use Rattle.esb_core.specs.declared.event.Event.TheVariants as event
use Rattle.esb_core.specs.State.{Building, State, build_at, no_build, start}
use Rattle.esb_core.specs.Moves.{Move}
use Rattle.esb_core.specs.Steps
use Rattle.esb_core.specs.Steps.{after, all_moved, moves, fresh, joined, answered, tasked, is_claim, task_claimed, link_claimed, released}
use Rattle.esb_core.specs.Allowed.{allowed, has_begun, first_from, first_job, job_by, job_of, job_unless, link_if, is_scanned, names_job, or_next, has_task, may_settle}
use Rattle.esb_core.specs.History.{builds, is_legal, is_legal_from, outcome, replay, replay_from}
use Rattle.esb_core.proofs.Claims.{claim-is, scan-is, link-is, write-is, both_parts}
use Rattle.esb_core.proofs.Each.{each-all_moved}
use Rattle.esb_core.proofs.Readings.{at-set, begun_of}
use Rattle.esb_core.proofs.Laws.{IsRead, all_moved-longer, read-legal, reads-legal, reads-step}
use Rattle.esb_sound.specs.Each.{Each, Each-from}
use Rattle.esb_sound.specs.Serial.{build_of, doing, doing_after, going_on, in_hand, unless_over, Handles, InTurn, IsInTurn}
use Rattle.esb_sound.proofs.Builds.{settled_is_not, some_is_not, settle-settles}
use Rattle.esb_sound.proofs.Doing.{doing-hand, hand-push}

-- ---- the claims that a job in hand makes

abbrev claims_of : ℕ → Option Job → List (ℕ × Task)
claims_of n None = []
claims_of n (Some (job.Scan m t)) = cond (nat_eq m n) ((0, t) ∷ []) []
claims_of n (Some (job.Link m)) = []
claims_of n (Some (job.Write m)) = []

abbrev linker_of : ℕ → Option Job → Option ℕ
linker_of n None = None
linker_of n (Some (job.Scan m t)) = None
linker_of n (Some (job.Write m)) = None
linker_of n (Some (job.Link m)) = cond (nat_eq m n) (Some 0) None

record HasThose (hand : Option Job) (n : ℕ) (b : Building) : Type 0 where
  claims : b.claims ≡ claims_of n hand
  linker : b.linker ≡ linker_of n hand

-- of a settled build nothing is said
abbrev Has : Option Job → ℕ → Building → Type 0
Has hand n b = b.outcome ≡ None → HasThose hand n b

abbrev AllHave : Option Job → State → Type 0
AllHave hand s = (n : ℕ) → Has hand n (build_at s.builds n)

-- a build has what another has that is claimed and settled alike
alike : (hand : Option Job) (n : ℕ) (b c : Building) → c.outcome ≡ b.outcome → c.claims ≡ b.claims → c.linker ≡ b.linker → Has hand n b → Has hand n c
alike hand n b c outcomes claims linkers h none =
    let has = h (sym outcomes ∙ none) in record { claims = claims ∙ has.claims; linker = linkers ∙ has.linker }

self : (n : ℕ) → nat_eq n n ≡ true
self n = grind (arith)

-- where one build changes, something holds of it and of each other
pub set-others : (P : ℕ → Building → Type 0) (bs : List Building) (n : ℕ) (b : Building) → n < length bs → ((k : ℕ) → nat_eq n k ≡ false → P k (build_at bs k)) → P n b → (m : ℕ) → P m (build_at (slice_set bs n b) m)
set-others P bs n b lt others own m = subst (λ (c : Building). P m c) (sym (at-set bs n b m lt)) (by (nat_eq n m) refl)
  where
    by : (t : Bool) → nat_eq n m ≡ t → P m (cond t b (build_at bs m))
    by true e = subst (λ (k : ℕ). P k b) (eqb-true n m e) own
    by false e = others m e

-- ---- jobs that are taken up and given back

-- a job makes no claim in another build
no_claims : (j : Job) (k : ℕ) → nat_eq (build_of j) k ≡ false → claims_of k (Some j) ≡ []
no_claims (job.Scan n t) k e = ap (λ (c : Bool). cond c ((0, t) ∷ []) []) e
no_claims (job.Link n) k e = refl
no_claims (job.Write n) k e = refl

no_linker : (j : Job) (k : ℕ) → nat_eq (build_of j) k ≡ false → linker_of k (Some j) ≡ None
no_linker (job.Scan n t) k e = refl
no_linker (job.Write n) k e = refl
no_linker (job.Link n) k e = ap (λ (c : Bool). cond c (Some 0) None) e

taken-up : (j : Job) (k : ℕ) (b : Building) → nat_eq (build_of j) k ≡ false → Has None k b → Has (Some j) k b
taken-up j k b e h none = record { claims = (h none).claims ∙ sym (no_claims j k e); linker = (h none).linker ∙ sym (no_linker j k e) }

given-back : (j : Job) (k : ℕ) (b : Building) → nat_eq (build_of j) k ≡ false → Has (Some j) k b → Has None k b
given-back j k b e h none = record { claims = (h none).claims ∙ no_claims j k e; linker = (h none).linker ∙ no_linker j k e }

-- ---- each change of a build

scan-claimed : (n : ℕ) (b : Building) (t : Task) → Has None n b → Has (Some (job.Scan n t)) n (task_claimed b 0 t)
scan-claimed n b t h none = record {
  claims = ap (λ (cs : List (ℕ × Task)). cs ++ (0, t) ∷ []) (h none).claims ∙ ap (λ (c : Bool). cond c ((0, t) ∷ []) []) (sym (self n));
  linker = (h none).linker;
}

link-claimed : (n : ℕ) (b : Building) → Has None n b → Has (Some (job.Link n)) n (link_claimed b 0)
link-claimed n b h none = record {
  claims = (h none).claims;
  linker = ap (λ (c : Bool). cond c (Some 0) None) (sym (self n));
}

delivered-has : (n : ℕ) (b : Building) (t : Task) → Has (Some (job.Scan n t)) n b → Has None n (Steps.unclaimed b 0 t)
delivered-has n b t h none = record {
  claims = ap left ((h none).claims ∙ ap (λ (c : Bool). cond c ((0, t) ∷ []) []) (self n)) ∙ gone;
  linker = (h none).linker;
}
  where
    own : is_claim 0 t (0, t) ≡ true
    own = same_task-refl t

    left : List (ℕ × Task) → List (ℕ × Task)
    left cs = filter (λ claim. not (is_claim 0 t claim)) cs

    gone : left ((0, t) ∷ []) ≡ []
    gone = ap (λ (c : Bool). cond (not c) ((0, t) ∷ []) []) own

-- moves change nothing of what is claimed
moves-have : (hand : Option Job) (s : State) (ms : List Move) → AllHave hand s → AllHave hand (all_moved s ms)
moves-have hand s ms h =
    each-all_moved (Has hand) (λ k key options own. alike hand k no_build (fresh key options) refl refl refl own) (λ k b id result own. alike hand k b (joined b id result) refl refl refl own)
    (λ k b q a own. alike hand k b (answered b q a) refl refl refl own) (λ k b t own. alike hand k b (tasked b t) refl refl refl own) (λ k b o own none. settled_is_not o none) (λ k b f own. alike hand k b (Steps.written_by b f) refl refl refl own)
    (λ k b own. alike hand k b (Steps.closed_by b) refl refl refl own) s ms h

-- ---- steps

claims : (s : State) (j : Job) → names_job (first_job s (role.Worker 0)) j ≡ true → AllHave None s → AllHave (Some j) (Steps.after_claim s (role.Worker 0) j)
claims s (job.Scan n t) may h =
    set-others (λ k c. Has (Some (job.Scan n t)) k c) s.builds n (task_claimed (build_at s.builds n) 0 t) (scan-is s.builds n t (claim-is s 0 (job.Scan n t) may)).begun
    (λ k apart. taken-up (job.Scan n t) k (build_at s.builds k) apart (h k)) (scan-claimed n (build_at s.builds n) t (h n))
claims s (job.Link n) may h =
    set-others (λ k c. Has (Some (job.Link n)) k c) s.builds n (link_claimed (build_at s.builds n) 0) (link-is s.builds n (claim-is s 0 (job.Link n) may)).begun
    (λ k apart. taken-up (job.Link n) k (build_at s.builds k) apart (h k)) (link-claimed n (build_at s.builds n) (h n))
claims s (job.Write n) may h =
    let ready = write-is s.builds n (claim-is s 0 (job.Write n) may) in
    set-others (λ k c. Has (Some (job.Write n)) k c) s.builds n (Steps.write_claimed (build_at s.builds n) 0) ready.begun
    (λ k apart. taken-up (job.Write n) k (build_at s.builds k) apart (h k)) (λ none. settled_is_not (ending.Files ready.writes.files) (sym ready.writes.outcome ∙ none))

-- the writing of files makes no claim
written : (s : State) (n : ℕ) → AllHave (Some (job.Write n)) s → AllHave None s
written s n h k none = let has = h k none in record { claims = has.claims; linker = has.linker }

delivers : (s : State) (n : ℕ) (t : Task) → n < length s.builds → AllHave (Some (job.Scan n t)) s → AllHave None (Steps.changed s n (Steps.unclaimed (build_at s.builds n) 0 t))
delivers s n t lt h =
    set-others (λ k c. Has None k c) s.builds n (Steps.unclaimed (build_at s.builds n) 0 t) lt
    (λ k apart. given-back (job.Scan n t) k (build_at s.builds k) apart (h k)) (delivered-has n (build_at s.builds n) t (h n))

settles : (s : State) (worker : ℕ) (j : Job) → build_of j < length s.builds → IsSome (build_at s.builds (build_of j)).outcome → AllHave (Some j) s
    → AllHave None (Steps.changed s (build_of j) (released (build_at s.builds (build_of j)) worker))
settles s worker j lt is h =
    set-others (λ k c. Has None k c) s.builds (build_of j) (released (build_at s.builds (build_of j)) worker) lt
    (λ k apart. given-back j k (build_at s.builds k) apart (h k)) (λ none. some_is_not (build_at s.builds (build_of j)).outcome is none)

-- where no job is done, none makes a claim: the one in hand is of a settled build
free-have : (s : State) (before : List Event) → ((n : ℕ) → (build_at s.builds n).outcome ≡ outcome before n) → doing before ≡ None → AllHave (in_hand before) s → AllHave None s
free-have s before reads free h = by (in_hand before) refl free
  where
    over : (j : Job) → (o : Option Outcome) → outcome before (build_of j) ≡ o → unless_over o j ≡ None → in_hand before ≡ Some j → AllHave None s
    over j None is none hand = absurd (let e : Some j ≡ None = none in let f : ⊥ = cc in f)
    over j (Some p) is none hand = λ k. at k (nat_eq (build_of j) k) refl
      where
        at : (k : ℕ) (t : Bool) → nat_eq (build_of j) k ≡ t → Has None k (build_at s.builds k)
        at k true same unsettled = settled_is_not p (sym is ∙ ap (λ (m : ℕ). outcome before m) (eqb-true (build_of j) k same) ∙ sym (reads k) ∙ unsettled)
        at k false apart unsettled = given-back j k (build_at s.builds k) apart (subst (λ (hand_now : Option Job). Has hand_now k (build_at s.builds k)) hand (h k)) unsettled

    by : (hand : Option Job) → in_hand before ≡ hand → going_on before hand ≡ None → AllHave None s
    by None hand none = subst (λ (o : Option Job). AllHave o s) hand h
    by (Some j) hand none = over j (outcome before (build_of j)) refl none hand

-- each step of an event that is allowed, where the one worker handles one job at a time
step : (s : State) (before : List Event) (e : Event) → ((n : ℕ) → (build_at s.builds n).outcome ≡ outcome before n) → allowed s e ≡ true → Handles before e → AllHave (in_hand before) s → AllHave (doing_after (in_hand before) e) (after s e)
step s before (event.Arrive packet) reads may handles h = moves-have (in_hand before) s (moves s (event.Arrive packet)) h
step s before event.EndOfInput reads may handles h = h
step s before (event.Claim ro j) reads may handles h =
    subst (λ (r : Role). AllHave (Some j) (Steps.after_claim s r j)) (sym handles.0)
    (claims s j (ap (λ (r : Role). names_job (first_job s r) j) (sym handles.0) ∙ may) (free-have s before reads handles.1 h))
step s before (event.Record worker n q a) reads may handles h = moves-have (in_hand before) s (moves s (event.Record worker n q a)) h
step s before (event.Deliver worker n t p) reads may handles h =
    subst (λ (w : ℕ). AllHave None (Steps.changed u n (Steps.unclaimed (build_at u.builds n) w t))) (sym handles.0)
    (delivers u n t (omega (arith, lt, longer)) (moves-have (Some (job.Scan n t)) s (moves s (event.Deliver worker n t p)) (subst (λ (hand : Option Job). AllHave hand s) (doing-hand before (job.Scan n t) handles.1) h)))
  where
    u : State
    u = all_moved s (moves s (event.Deliver worker n t p))

    lt : n < length s.builds
    lt = ltb-true n (length s.builds) (both_parts (has_begun s n) (has_task (build_at s.builds n) worker t && product_fits t p) may).0

    longer : length s.builds ≤ length u.builds
    longer = all_moved-longer s (moves s (event.Deliver worker n t p))
step s before (event.Written worker n f) reads may handles h =
    moves-have None s (moves s (event.Written worker n f)) (written s n (subst (λ (hand : Option Job). AllHave hand s) (doing-hand before (job.Write n) handles.1) h))
step s before (event.Settle worker n o) reads may handles h = by handles.1
  where
    u : State
    u = all_moved s (moves s (event.Settle worker n o))

    lt : n < length s.builds
    lt = ltb-true n (length s.builds) (both_parts (has_begun s n) (may_settle (build_at s.builds n) worker o) may).0

    within : n < length u.builds
    within = let longer = all_moved-longer s (moves s (event.Settle worker n o)) in omega (arith, lt, longer)

    have : (j : Job) → doing before ≡ Some j → AllHave (Some j) u
    have j is = moves-have (Some j) s (moves s (event.Settle worker n o)) (subst (λ (hand : Option Job). AllHave hand s) (doing-hand before j is) h)

    by : (doing before ≡ Some (job.Link n)) ⊎ ((t : Task) × (doing before ≡ Some (job.Scan n t))) → AllHave None (Steps.changed u n (released (build_at u.builds n) worker))
    by (inl link) = settles u worker (job.Link n) within (settle-settles s worker n o lt) (have (job.Link n) link)
    by (inr scan) = settles u worker (job.Scan n scan.0) within (settle-settles s worker n o lt) (have (job.Scan n scan.0) scan.1)
step s before event.Pop reads may handles h = h

-- ---- lists

pub list_end : {X : Type 0} (xs : List X) → xs ++ [] ≡ xs
list_end [] = refl
list_end (x ∷ xs) = ap (λ ys. x ∷ ys) (list_end xs)

-- what holds of the job in hand and the state, step by step
pub along : (P : Option Job → State → Type 0) → ((s : State) (before : List Event) (e : Event) → IsRead s before → allowed s e ≡ true → Handles before e → P (in_hand before) s → P (doing_after (in_hand before) e) (after s e))
    → (s : State) (before more : List Event) → IsRead s before → is_legal_from s more ≡ true → Each-from Handles before more → P (in_hand before) s → P (in_hand (before ++ more)) (replay_from s more)
along P each s before [] r legal all h = subst (λ (es : List Event). P (in_hand es) s) (sym (list_end before)) h
along P each s before (e ∷ more) r legal all h =
    let parts = both_parts (allowed s e) (is_legal_from (after s e) more) legal in
    let now = subst (λ (hand : Option Job). P hand (after s e)) (sym (hand-push before e)) (each s before e r parts.0 all.0 h) in
    subst (λ (es : List Event). P (in_hand es) (replay_from (after s e) more)) (append_assoc before (e ∷ []) more)
    (along P each (after s e) (before ++ e ∷ []) more (reads-step s before e r parts.0) parts.1 all.1 now)

at_start : AllHave None start
at_start n none = record { claims = refl; linker = refl }

-- ---- where nothing is in hand and nothing is open

pub no-first : (n : ℕ) (bs : List Building) (k : ℕ) → first_from n bs ≡ None → k < length bs → job_of (n + k) (build_at bs k) ≡ None
no-first n [] k e lt = absurd (omega arith)
no-first n (b ∷ bs) k e lt = by (job_of n b) refl e k lt (λ m rest inside. no-first (n + 1) bs m rest inside)
  where
    by : (o : Option Job) → job_of n b ≡ o → or_next o (first_from (n + 1) bs) ≡ None → (k : ℕ) → k < length (b ∷ bs)
        → ((m : ℕ) → first_from (n + 1) bs ≡ None → m < length bs → job_of (n + 1 + m) (build_at bs m) ≡ None) → job_of (n + k) (build_at (b ∷ bs) k) ≡ None
    by None own rest zero lt more = ap (λ (m : ℕ). job_of m b) (omega arith) ∙ own
    by None own rest (suc k) lt more = ap (λ (m : ℕ). job_of m (build_at bs k)) (omega arith) ∙ more k rest (omega arith)
    by (Some j) own rest k lt more = absurd (let h : Some j ≡ None = rest in let f : ⊥ = cc in f)

-- a build without claims that has no open job is settled
no-job : (n : ℕ) (b : Building) → Has None n b → job_of n b ≡ None → IsSome b.outcome
no-job n b h e = by b.outcome refl e
  where
    scanned : HasThose None n b → is_scanned b ≡ true
    scanned has = ap (λ (cs : List (ℕ × Task)). nat_eq (length cs) 0 && is_none b.linker) has.claims ∙ ap (λ (l : Option ℕ). is_none l) has.linker

    not_open : (t : Bool) → t ≡ true → link_if n t ≡ None → ⊥
    not_open true is none = let h : Some (job.Link n) ≡ None = none in cc
    not_open false is none = cc

    no_task : HasThose None n b → (o : Option Task) → job_by n b o ≡ None → ⊥
    no_task has (Some t) none = let h : Some (job.Scan n t) ≡ None = none in cc
    no_task has None none = not_open (is_scanned b) (scanned has) none

    by : (o : Option Outcome) → b.outcome ≡ o → job_unless n b o ≡ None → IsSome b.outcome
    by (Some o) is none = ap (λ (p : Option Outcome). is_some p) is
    by None is none = absurd (no_task (h is) (slice_get b.tasks b.claimed) none)

pub all-done : (events : List Event) → is_legal events ≡ true → Each Handles events → doing events ≡ None → first_job (replay events) (role.Worker 0) ≡ None → (n : ℕ) → n < length (builds events)
    → IsSome (outcome events n)
all-done events legal handled free none n lt =
    let r = reads-legal events legal in
    let s = replay events in
    let same : length (builds events) ≡ length s.builds = ap length (sym r.begun) ∙ length-map s.builds begun_of in
    let inside : n < length s.builds = omega (arith, same, lt) in
    let all = free-have s events r.outcomes free (along AllHave (λ u before e q may handles h. step u before e q.reads.outcomes may handles h) start [] events (read-legal [] refl) legal handled at_start) in
    let is = no-job n (build_at s.builds n) (all n) (ap (λ (m : ℕ). job_of m (build_at s.builds n)) (omega arith) ∙ no-first 0 s.builds n none inside) in
    subst (λ (o : Option Outcome). IsSome o) (r.outcomes n) is

-- ---- histories in turn

handled-from : (tells : Type 0) (world : List Folder) (before more : List Event) → Each-from (IsInTurn tells world) before more → Each-from Handles before more
handled-from tells world before [] all = tt
handled-from tells world before (e ∷ more) all = (all.0.handles, handled-from tells world (before ++ e ∷ []) more all.1)

-- the one worker handles each event of a history in turn
pub in-turn-handled : (tells : Type 0) (world : List Folder) (events : List Event) → InTurn tells world events → Each Handles events
in-turn-handled tells world events turns = handled-from tells world [] events turns

pub in-turn-done : (tells : Type 0) (world : List Folder) (events : List Event) → is_legal events ≡ true → InTurn tells world events → doing events ≡ None
    → first_job (replay events) (role.Worker 0) ≡ None → (n : ℕ) → n < length (builds events) → IsSome (outcome events n)
in-turn-done tells world events legal turns = all-done events legal (in-turn-handled tells world events turns)
