-- What each event of the work leaves.
use Rattle.std.proofs.Common.{Result, Ok, Err}
use Rattle.std.specs.Prelude.{OnOk, OnErr, count_by}
use Rattle.esb_base.specs.declared.memory.Memory.{Memory}
use Rattle.std.proofs.Common.{◌≡◌, ◌⊎◌, ℕ, ◌+◌, ◌<◌, ◌≤◌, Bool, true, false, ◌&&◌, List, [], ◌∷◌, ◌++◌, length, Option, None, Some, inl, inr, refl, sym, ap, subst, ◌∙◌, arith, nat_eq, ◌||◌, slice_set, length-set}
use Rattle.std.specs.List.{list_any}
use Rattle.std.proofs.lemmas.List.{get_or-set_same}
use Rattle.std.proofs.lemmas.Bool.{false≢true, lt-ltb, eq-eqb}
use Rattle.esb_base.specs.World.{Folder}
use Rattle.esb_flags.specs.declared.options.Options.{Options}
use Rattle.esb_ask.specs.declared.question.Question.{Question}
use Rattle.esb_ask.specs.declared.answer.Answer.{Answer}
use Rattle.esb_ask.specs.declared.answer.Answer.TheVariants as answers
use Rattle.esb_ask.specs.declared.task.Task.{Task}
use Rattle.esb_ask.specs.declared.task.Task.TheVariants as task
use Rattle.esb_ask.specs.declared.outcome.Outcome.{Outcome}
use Rattle.esb_ask.specs.declared.product.Product.{Product}
use Rattle.esb_ask.specs.declared.product.Product.TheVariants as product
use Rattle.esb_ask.specs.declared.outcome.Outcome.TheVariants as outcomes
use Rattle.esb_ask.specs.Tasks.{same_task, product_fits}
use Rattle.esb_ask.proofs.SameTask.{same_task-refl}
use Rattle.esb_ask.specs.Table.{fits, kept, same_question}
use Rattle.esb_core.specs.declared.event.Job.{Job}
use Rattle.esb_core.specs.declared.event.Job.TheVariants as job
use Rattle.esb_core.specs.declared.event.Role.TheVariants as role
use Rattle.esb_core.proofs.Claims.{first-is, job-fits, scan-is, link-is, write-is}
use Rattle.esb_ask.proofs.Tables.{same-refl}
use Rattle.esb_core.specs.declared.event.Event.{Event}
use Rattle.esb_core.specs.declared.event.Event.TheVariants as event
use Rattle.esb_core.specs.State.{Building, State, build_at, no_build}
use Rattle.esb_core.specs.Sizes.{is_overfull, too_large}
use Rattle.esb_core.specs.Moves.{added_or, ended, keep, kept_unless}
use Rattle.esb_core.specs.Steps.{after, moved, all_moved, moves, standing, answered, ended_by, closed_by, is_claim, task_claimed, link_claimed, write_claimed}
use Rattle.esb_core.specs.Allowed.{allowed, has_task, has_begun, has_claim, is_linker, is_writer, may_fail, first_job, first_from, job_of, names_job, same_job}
use Rattle.esb_core.specs.History.{Begun, build, outcome, table, is_legal, moves_in, replay}
use Rattle.esb_core.proofs.Readings.{begun_of, build-read}
use Rattle.esb_core.proofs.Held.{held}
use Rattle.esb_core.proofs.Laws.{reads-legal}
use Rattle.esb_scan.specs.declared.run.Run.TheVariants as runs
use Rattle.esb_scan.specs.Likeness.{normal_product}
use Rattle.esb_scan.specs.Run.{run, trail}
use Rattle.esb_scan.proofs.Runs.{asks_new, run_fits}
use Rattle.esb_sound.specs.Serial.{IsInTurn, doing, doing_after, in_hand}
use Rattle.esb_ask.specs.declared.outcome.Failures.{Failures}
use Rattle.esb_ask.specs.declared.outcome.Failures.TheVariants as failures
use Rattle.esb_ask.specs.declared.outcome.OutFile.{OutFile}
use Rattle.esb_sound.proofs.Doing.{doing-hand, writes}
use Rattle.esb_sound.specs.Sound.{IsGiven, IsLinked}
use Rattle.esb_sound.specs.Files.{ArePut, is_failed, listed}
use Rattle.esb_sound.specs.Told.{RoseBy, is_fault}
use Rattle.esb_top.specs.Entries.{Entries, Added, AddedWithin, Kept}
use Rattle.esb_top.specs.Puts.{Files, Puts}
use Rattle.esb_top.specs.Work.{Worked, AtWork, AtLink, AtWriting, Answered, IsGoing, Linked}
use Rattle.esb_scan.specs.Complete.{IsComplete}
use Rattle.esb_top.specs.Turn.{IsFree}
use Rattle.esb_top.proofs.InOrder.{claim-in_turn, deliver-in_turn, going-by, over-by, record-in_turn, refusal-in_turn, settle-in_turn, written-in_turn}
use Rattle.esb_top.proofs.Files.{put-all, puts-kept, puts-push, puts-trans, puts-written}
use Rattle.esb_top.proofs.Histories.{IsOfWork, all_moved-ended, replay-push, worked-push, worked-trans}

-- ---- the direct answers about a legal list

pub build-is : (es : List Event) (n : ℕ) → is_legal es ≡ true → build es n ≡ begun_of (build_at (replay es).builds n)
build-is es n legal = build-read (replay es) (moves_in es) n (reads-legal es legal)

pub options-are : (es : List Event) (n : ℕ) → is_legal es ≡ true → (build es n).options ≡ (build_at (replay es).builds n).options
options-are es n legal = ap (λ (b : Begun). b.options) (build-is es n legal)

pub table-is : (es : List Event) (n : ℕ) → is_legal es ≡ true → table es n ≡ (build_at (replay es).builds n).table
table-is es n legal = sym ((reads-legal es legal).tables n)

-- ---- an answer

-- an answer to a build that isn't settled is kept, unless the build would be too large with it
record-after : (s : State) (n : ℕ) (q : Question) (a : Answer) → (build_at s.builds n).outcome ≡ None → is_overfull (kept (build_at s.builds n).table q a) ≡ false → after s (event.Record 0 n q a) ≡ moved s (keep n q a)
record-after s n q a none small =
    ap (λ (o : Option Outcome). all_moved s (kept_unless (standing s n) n q a o)) none
    ∙ ap (λ (large : Bool). all_moved s (added_or (standing s n) n large (keep n q a ∷ []))) small

record-leaves : (s : State) (n : ℕ) (q : Question) (a : Answer) → n < length s.builds → (build_at s.builds n).outcome ≡ None → is_overfull (kept (build_at s.builds n).table q a) ≡ false
    → build_at (after s (event.Record 0 n q a)).builds n ≡ answered (build_at s.builds n) q a
record-leaves s n q a lt none small = ap (λ (u : State). build_at u.builds n) (record-after s n q a none small) ∙ get_or-set_same s.builds n (answered (build_at s.builds n) q a) no_build lt

-- the build ends where it would be too large
record-ends : (s : State) (n : ℕ) (q : Question) (a : Answer) → n < length s.builds → (build_at s.builds n).outcome ≡ None → is_overfull (kept (build_at s.builds n).table q a) ≡ true
    → (build_at (after s (event.Record 0 n q a)).builds n).outcome ≡ Some too_large
record-ends s n q a lt none over =
    ap (λ (o : Option Outcome). (build_at (all_moved s (kept_unless (standing s n) n q a o)).builds n).outcome) none
    ∙ ap (λ (large : Bool). (build_at (all_moved s (added_or (standing s n) n large (keep n q a ∷ []))).builds n).outcome) over
    ∙ closes (standing s n).stays
  where
    bs : List Building
    bs = slice_set s.builds n (ended_by (build_at s.builds n) too_large)

    there : (build_at bs n).outcome ≡ Some too_large
    there = ap (λ (b : Building). b.outcome) (get_or-set_same s.builds n (ended_by (build_at s.builds n) too_large) no_build lt)

    shut : (build_at (slice_set bs n (closed_by (build_at bs n))) n).outcome ≡ Some too_large
    shut =
        let long = length-set s.builds n (ended_by (build_at s.builds n) too_large) in
        ap (λ (b : Building). b.outcome) (get_or-set_same bs n (closed_by (build_at bs n)) no_build (omega (arith, lt, long))) ∙ there

    closes : (stays : Bool) → (build_at (all_moved s (ended (build_at s.builds n).key stays n too_large)).builds n).outcome ≡ Some too_large
    closes true = shut
    closes false = shut

at-record : (s : State) (n : ℕ) (t : Task) (q : Question) (a : Answer) → AtWork s n t → is_overfull (kept (build_at s.builds n).table q a) ≡ false → AtWork (after s (event.Record 0 n q a)) n t
at-record s n t q a at small =
    let same = record-leaves s n q a at.begun at.unsettled small in
    record {
      begun =
          let long : length (after s (event.Record 0 n q a)).builds ≡ length s.builds = ap (λ (u : State). length u.builds) (record-after s n q a at.unsettled small) ∙ length-set s.builds n (answered (build_at s.builds n) q a) in
          omega (arith, at.begun, long);
      unsettled = ap (λ (b : Building). b.outcome) same ∙ at.unsettled;
      claimed = ap (λ (b : Building). has_task b 0 t) same ∙ at.claimed;
    }

both : (a b : Bool) → a ≡ true → b ≡ true → (a && b) ≡ true
both a b e f = rw (e, f) refl

begun-is : (s : State) (n : ℕ) → n < length s.builds → has_begun s n ≡ true
begun-is s n lt = lt-ltb n (length s.builds) lt

record-work : (n : ℕ) (q : Question) (a : Answer) → IsOfWork (event.Record 0 n q a)
record-work n q a = record { none_arrived = refl; none_sent = λ g. refl; goes_on = λ s. all_moved-ended s (moves s (event.Record 0 n q a)) }

fault-is : (a : Answer) → is_fault a ≡ true → a ≡ answers.Fault
fault-is answers.File e = absurd (false≢true e)
fault-is answers.Folder e = absurd (false≢true e)
fault-is answers.Missing e = absurd (false≢true e)
fault-is answers.TooBig e = absurd (false≢true e)
fault-is answers.Fault e = refl
fault-is (answers.Bytes contents) e = absurd (false≢true e)

-- what an answer to an asked question leaves, whether the build is too large with it or not
pub record Asks (tells : Type 0) (world : List Folder) (fo fn : ℕ) (old new : Entries) (n : ℕ) (t : Task) (options : Options) (large : Bool) : Type 0 where
  pub going : large ≡ false → IsGoing new.events n t options
  pub over : large ≡ true → IsFree new.events
  pub worked : Worked tells world fo fn old.events new.events
  pub room : old.promised ≤ new.promised

pub asked-step : (tells : Type 0) (world : List Folder) (fo fn : ℕ) (old new : Entries) (n : ℕ) (q : Question) (t : Task) (options : Options) (large : Bool) → is_legal old.events ≡ true → IsGoing old.events n t options
    → run options (build_at (replay old.events).builds n).table t ≡ runs.Asks q → Answered tells world fo fn old new n q large → fo ≤ fn → Asks tells world fo fn old new n t options large
asked-step tells world fo fn old new n q t options large legal go asks got le =
    let s = replay old.events in
    let e = event.Record 0 n q got.answer in
    let at = go.at in
    let pushed : replay new.events ≡ after s e = ap replay got.added.events ∙ replay-push old.events e in
    let may : allowed s e ≡ true = both (has_begun s n) (fits q got.answer) (begun-is s n at.begun) got.fitting in
    let hand : doing_after (in_hand old.events) e ≡ Some (job.Scan n t) = doing-hand old.events (job.Scan n t) go.in_hand in
    let asks_now : run (build old.events n).options (table old.events n) t ≡ runs.Asks q =
    ap (λ (o : Options). run o (table old.events n) t) (options-are old.events n legal ∙ go.same_options) ∙ ap (λ (tb : List (Question × Answer)). run options tb t) (table-is old.events n legal) ∙ asks in
    let trail_is : trail (build old.events n).options (table old.events n) t ≡ q ∷ [] =
    ap (λ (o : Options). trail o (table old.events n) t) (options-are old.events n legal ∙ go.same_options) ∙ ap (λ (tb : List (Question × Answer)). trail options tb t) (table-is old.events n legal)
    ∙ (asks_new options (build_at s.builds n).table t q asks).is_trail in
    record {
      going = λ small.
          let fit = sym got.size ∙ small in
          let there : AtWork (replay new.events) n t = subst (λ (u : State). AtWork u n t) (sym pushed) (at-record s n t q got.answer at fit) in
          record {
            in_hand = going-by old.events new.events e got.added.events legal may (job.Scan n t) hand there.unsettled;
            at = there;
            same_options = ap (λ (u : State). (build_at u.builds n).options) pushed ∙ ap (λ (b : Building). b.options) (record-leaves s n q got.answer at.begun at.unsettled fit) ∙ go.same_options;
          };
      over = λ much.
          over-by old.events new.events e got.added.events legal may (job.Scan n t) too_large refl hand
          (ap (λ (u : State). (build_at u.builds n).outcome) pushed ∙ record-ends s n q got.answer at.begun at.unsettled (sym got.size ∙ much));
      worked = worked-push tells world fo fn old.events new.events e got.added.events (record-work n q got.answer)
          (λ h. record {
            task = t;
            claimed = sym ((held old.events legal n).tasks 0 t) ∙ at.claimed;
            on_trail = ap (λ (qs : List Question). list_any (same_question q) qs) trail_is ∙ ap (λ b. b || false) (same-refl q);
          })
          got.from_host (record-in_turn tells world old.events n t q got.answer go.in_hand asks_now got.from_host) (λ e. got.fault (fault-is got.answer e)) le;
      room = got.added.room;
    }

-- ---- the end of a claim

pub delivered-step : (tells : Type 0) (world : List Folder) (f : ℕ) (old : Entries) (new : List Event) (n : ℕ) (t : Task) (p : Product) (options : Options) → is_legal old.events ≡ true
    → (build_at (replay old.events).builds n).options ≡ options → IsGiven options (build_at (replay old.events).builds n).table t p → doing old.events ≡ Some (job.Scan n t)
    → new ≡ old.events ++ event.Deliver 0 n t p ∷ [] → Worked tells world f f old.events new
delivered-step tells world f old new n t p options legal same given in_hand is =
    let done_now : IsGiven (build old.events n).options (table old.events n) t p =
    subst (λ (o : Options). IsGiven o (table old.events n) t p) (sym (options-are old.events n legal ∙ same)) (subst (λ (tb : List (Question × Answer)). IsGiven options tb t p) (sym (table-is old.events n legal)) given) in
    worked-push tells world f f old.events new (event.Deliver 0 n t p) is (record { none_arrived = refl; none_sent = λ g. refl; goes_on = λ s. all_moved-ended s (moves s (event.Deliver 0 n t p)) })
    (λ h. done_now) (λ h. tt) (deliver-in_turn tells world old.events n t p in_hand done_now.0) (λ e. absurd (false≢true e)) (omega arith)

pub settled-step : (tells : Type 0) (world : List Folder) (f : ℕ) (old : Entries) (new : List Event) (n : ℕ) (o : Outcome) → is_legal old.events ≡ true
    → IsLinked (build_at (replay old.events).builds n).options (build_at (replay old.events).builds n).table o
    → (IsLinked (build old.events n).options (table old.events n) o → IsInTurn tells world old.events (event.Settle 0 n o)) → new ≡ old.events ++ event.Settle 0 n o ∷ [] → Worked tells world f f old.events new
settled-step tells world f old new n o legal right turn is =
    let right_now : IsLinked (build old.events n).options (table old.events n) o =
    subst (λ (op : Options). IsLinked op (table old.events n) o) (sym (options-are old.events n legal)) (subst (λ (tb : List (Question × Answer)). IsLinked (build_at (replay old.events).builds n).options tb o) (sym (table-is old.events n legal)) right) in
    worked-push tells world f f old.events new (event.Settle 0 n o) is (record { none_arrived = refl; none_sent = λ g. refl; goes_on = λ s. all_moved-ended s (moves s (event.Settle 0 n o)) })
    (λ h. right_now) (λ h. tt) (turn right_now) (λ e. absurd (false≢true e)) (omega arith)

-- a build that is settled for want of memory
pub given_up-step : (tells : Type 0) (world : List Folder) (f : ℕ) (old : Entries) (new : List Event) (n : ℕ) (t : Task) → is_legal old.events ≡ true → doing old.events ≡ Some (job.Scan n t) → new ≡ old.events ++ event.Settle 0 n outcomes.Memory ∷ []
    → Worked tells world f f old.events new
given_up-step tells world f old new n t legal in_hand is = settled-step tells world f old new n outcomes.Memory legal tt (λ r. refusal-in_turn tells world old.events n (inr (t, in_hand))) is

fits-normal : (t : Task) (p : Product) → product_fits t (normal_product p) ≡ true → product_fits t p ≡ true
fits-normal (task.Entry number) (product.Entry where_to) e = e
fits-normal (task.Entry number) (product.Load loading) e = e
fits-normal (task.Load name) (product.Entry where_to) e = e
fits-normal (task.Load name) (product.Load loading) e = e

pub may-deliver : (s : State) (n : ℕ) (t : Task) (p : Product) (options : Options) (answers : List (Question × Answer)) → AtWork s n t → IsGiven options answers t p → allowed s (event.Deliver 0 n t p) ≡ true
may-deliver s n t p options answers at given =
    both (has_begun s n) (has_task (build_at s.builds n) 0 t && product_fits t p) (begun-is s n at.begun) (both (has_task (build_at s.builds n) 0 t) (product_fits t p) at.claimed (fits-normal t p (run_fits options answers t (normal_product p) given.0)))

any-weaker : (claims : List (ℕ × Task)) (t : Task) → list_any (is_claim 0 t) claims ≡ true → list_any (λ claim. nat_eq claim.0 0) claims ≡ true
any-weaker [] t e = absurd (false≢true e)
any-weaker (c ∷ cs) t e = by (nat_eq c.0 0) (same_task c.1 t) (any-weaker cs t) e
  where
    by : (a b : Bool) → (list_any (is_claim 0 t) cs ≡ true → list_any (λ claim. nat_eq claim.0 0) cs ≡ true) → ((a && b) || list_any (is_claim 0 t) cs) ≡ true → (a || list_any (λ claim. nat_eq claim.0 0) cs) ≡ true
    by true b rec h = refl
    by false b rec h = rec h

or-left : (a b : Bool) → a ≡ true → (a || b) ≡ true
or-left a b e = rw e refl

pub may-give_up : (s : State) (n : ℕ) (t : Task) → AtWork s n t → allowed s (event.Settle 0 n outcomes.Memory) ≡ true
may-give_up s n t at =
    both (has_begun s n) (has_claim (build_at s.builds n) 0) (begun-is s n at.begun)
    (or-left (list_any (λ claim. nat_eq claim.0 0) (build_at s.builds n).claims) (is_linker (build_at s.builds n).linker 0) (any-weaker (build_at s.builds n).claims t at.claimed))

linker-is : (b : Building) → b.linker ≡ Some 0 → is_linker b.linker 0 ≡ true
linker-is b e = ap (λ l. is_linker l 0) e

or-right : (a b : Bool) → b ≡ true → (a || b) ≡ true
or-right true b e = refl
or-right false b e = e

pub may-settle : (s : State) (n : ℕ) (o : Outcome) (options : Options) (answers : List (Question × Answer)) → AtLink s n → IsLinked options answers o → allowed s (event.Settle 0 n o) ≡ true
may-settle s n (outcomes.Files files) options answers at right = both (has_begun s n) (is_linker (build_at s.builds n).linker 0) (begun-is s n at.begun) (linker-is (build_at s.builds n) at.claimed)
may-settle s n (outcomes.Errors messages) options answers at right = both (has_begun s n) (is_linker (build_at s.builds n).linker 0) (begun-is s n at.begun) (linker-is (build_at s.builds n) at.claimed)
may-settle s n outcomes.Canceled options answers at right = absurd right
may-settle s n outcomes.Memory options answers at right =
    both (has_begun s n) (has_claim (build_at s.builds n) 0) (begun-is s n at.begun)
    (or-right (list_any (λ claim. nat_eq claim.0 0) (build_at s.builds n).claims) (is_linker (build_at s.builds n).linker 0) (linker-is (build_at s.builds n) at.claimed))

-- ---- a claim

pub claim-work : (j : Job) → IsOfWork (event.Claim (role.Worker 0) j)
claim-work (job.Scan n t) = record { none_arrived = refl; none_sent = λ g. refl; goes_on = λ s. refl }
claim-work (job.Link n) = record { none_arrived = refl; none_sent = λ g. refl; goes_on = λ s. refl }
claim-work (job.Write n) = record { none_arrived = refl; none_sent = λ g. refl; goes_on = λ s. refl }

-- a job may be claimed: none is in hand, nothing is owed, and it is the first
pub record IsNextJob (es : List Event) (j : Job) : Type 0 where
  pub legal : is_legal es ≡ true
  pub free : IsFree es
  pub none_owed : (replay es).owed ≡ []
  pub first : first_job (replay es) (role.Worker 0) ≡ Some j

pub claimed-step : (tells : Type 0) (world : List Folder) (f : ℕ) (es new : List Event) (j : Job) → IsNextJob es j → new ≡ es ++ event.Claim (role.Worker 0) j ∷ [] → Worked tells world f f es new
claimed-step tells world f es new j may is =
    worked-push tells world f f es new (event.Claim (role.Worker 0) j) is (claim-work j) (λ h. tt) (λ t. tt) (claim-in_turn tells world es j may.legal may.free may.none_owed may.first)
    (λ e. absurd (false≢true e)) (omega arith)

same_job-refl : (j : Job) → same_job j j ≡ true
same_job-refl (job.Scan n t) = both (nat_eq n n) (same_task t t) (eq-eqb n n refl) (same_task-refl t)
same_job-refl (job.Link n) = eq-eqb n n refl
same_job-refl (job.Write n) = eq-eqb n n refl

pub may-claim : (s : State) (j : Job) → first_job s (role.Worker 0) ≡ Some j → allowed s (event.Claim (role.Worker 0) j) ≡ true
may-claim s j e = ap (λ o. names_job o j) e ∙ same_job-refl j

any-last : (claims : List (ℕ × Task)) (t : Task) → list_any (is_claim 0 t) (claims ++ (0, t) ∷ []) ≡ true
any-last [] t = or-left (same_task t t) false (same_task-refl t)
any-last (c ∷ cs) t = or-right (is_claim 0 t c) (list_any (is_claim 0 t) (cs ++ (0, t) ∷ [])) (any-last cs t)

pub at-scan : (es new : List Event) (n : ℕ) (t : Task) → new ≡ es ++ event.Claim (role.Worker 0) (job.Scan n t) ∷ [] → first_job (replay es) (role.Worker 0) ≡ Some (job.Scan n t) → AtWork (replay new) n t
at-scan es new n t is e =
    let s = replay es in
    let ready = scan-is s.builds n t (first-is 0 s.builds (job.Scan n t) e) in
    let b = task_claimed (build_at s.builds n) 0 t in
    let here : build_at (slice_set s.builds n b) n ≡ b = get_or-set_same s.builds n b no_build ready.begun in
    subst (λ (u : State). AtWork u n t) (sym (ap replay is ∙ replay-push es (event.Claim (role.Worker 0) (job.Scan n t)))) record {
      begun = omega (arith, ready.begun, length-set s.builds n b);
      unsettled = ap (λ (c : Building). c.outcome) here ∙ ready.unsettled;
      claimed = ap (λ (c : Building). has_task c 0 t) here ∙ any-last (build_at s.builds n).claims t;
    }

-- the worker has claimed the link, over the same answers
pub record Links (s u : State) (n : ℕ) : Type 0 where
  pub at : AtLink u n
  pub same_options : (build_at u.builds n).options ≡ (build_at s.builds n).options
  pub same_table : (build_at u.builds n).table ≡ (build_at s.builds n).table

pub at-link : (es new : List Event) (n : ℕ) → new ≡ es ++ event.Claim (role.Worker 0) (job.Link n) ∷ [] → first_job (replay es) (role.Worker 0) ≡ Some (job.Link n) → Links (replay es) (replay new) n
at-link es new n is e =
    let s = replay es in
    let ready = link-is s.builds n (first-is 0 s.builds (job.Link n) e) in
    let b = link_claimed (build_at s.builds n) 0 in
    let here : build_at (slice_set s.builds n b) n ≡ b = get_or-set_same s.builds n b no_build ready.begun in
    subst (λ (u : State). Links s u n) (sym (ap replay is ∙ replay-push es (event.Claim (role.Worker 0) (job.Link n)))) record {
      at = record {
        begun = omega (arith, ready.begun, length-set s.builds n b);
        unsettled = ap (λ (c : Building). c.outcome) here ∙ ready.unsettled;
        claimed = ap (λ (c : Building). c.linker) here;
      };
      same_options = ap (λ (c : Building). c.options) here;
      same_table = ap (λ (c : Building). c.table) here;
    }

pub link-job : (bs : List Building) (n : ℕ) → first_from 0 bs ≡ Some (job.Link n) → job_of n (build_at bs n) ≡ Some (job.Link n)
link-job bs n e =
    let h = first-is 0 bs (job.Link n) e in
    let f = job-fits (0 + h.number) (build_at bs h.number) (job.Link n) h.its in
    let same : h.number ≡ n = omega (arith, f.0) in
    subst (λ (m : ℕ). job_of m (build_at bs m) ≡ Some (job.Link n)) same (ap (λ (m : ℕ). job_of m (build_at bs h.number)) (omega arith) ∙ h.its)

pub complete-after : (s u : State) (n : ℕ) → Links s u n → IsComplete (build_at s.builds n).options (build_at s.builds n).table → IsComplete (build_at u.builds n).options (build_at u.builds n).table
complete-after s u n h complete =
    subst (λ (o : Options). IsComplete o (build_at u.builds n).table) (sym h.same_options) (subst (λ (tb : List (Question × Answer)). IsComplete (build_at s.builds n).options tb) (sym h.same_table) complete)

pub linked-step : (tells : Type 0) (world : List Folder) (f : ℕ) (es : List Event) (mid new : Entries) (n : ℕ) → IsNextJob es (job.Link n) → mid.events ≡ es ++ event.Claim (role.Worker 0) (job.Link n) ∷ []
    → Linked mid new n → Worked tells world f f es new.events
linked-step tells world f es mid new n may is l =
    worked-trans tells world f f f es mid.events new.events (claimed-step tells world f es mid.events (job.Link n) may is)
    (settled-step tells world f mid new.events n l.outcome l.legal l.right (settle-in_turn tells world mid.events n l.outcome (going-by es mid.events (event.Claim (role.Worker 0) (job.Link n)) is may.legal (may-claim (replay es) (job.Link n) may.first) (job.Link n) refl (at-link es mid.events n is may.first).at.unsettled)) l.added)

pub linked-by : (old new : Entries) (n : ℕ) (o : Outcome) → is_legal old.events ≡ true → IsLinked (build_at (replay old.events).builds n).options (build_at (replay old.events).builds n).table o
    → AddedWithin old new (event.Settle 0 n o) ⊎ AddedWithin old new (event.Settle 0 n outcomes.Memory) → Linked old new n
linked-by old new n o legal right (inl added) = let room = added.room in record { outcome = o; right = right; added = added.events; room = omega arith; legal = legal }
linked-by old new n o legal right (inr added) = let room = added.room in record { outcome = outcomes.Memory; right = tt; added = added.events; room = omega arith; legal = legal }

-- ---- the writing of files

pub at-write : (es new : List Event) (n : ℕ) → new ≡ es ++ event.Claim (role.Worker 0) (job.Write n) ∷ [] → first_job (replay es) (role.Worker 0) ≡ Some (job.Write n) → AtWriting (replay new) n
at-write es new n is e =
    let s = replay es in
    let ready = write-is s.builds n (first-is 0 s.builds (job.Write n) e) in
    let b = write_claimed (build_at s.builds n) 0 in
    let here : build_at (slice_set s.builds n b) n ≡ b = get_or-set_same s.builds n b no_build ready.begun in
    subst (λ (u : State). AtWriting u n) (sym (ap replay is ∙ replay-push es (event.Claim (role.Worker 0) (job.Write n)))) record {
      begun = omega (arith, ready.begun, length-set s.builds n b);
      files = ready.writes.files;
      outcome = ap (λ (c : Building). c.outcome) here ∙ ready.writes.outcome;
      claimed = ap (λ (c : Building). c.writer) here;
    }

pub may-write : (s : State) (n : ℕ) (f : Failures) → AtWriting s n → may_fail (build_at s.builds n).outcome f ≡ true → allowed s (event.Written 0 n f) ≡ true
may-write s n f at may =
    both (has_begun s n) (is_writer (build_at s.builds n).writer 0 && may_fail (build_at s.builds n).outcome f) (begun-is s n at.begun)
    (both (is_writer (build_at s.builds n).writer 0) (may_fail (build_at s.builds n).outcome f) (ap (λ (w : Option ℕ). is_writer w 0) at.claimed) may)

pub may-miss-all : (s : State) (n : ℕ) → AtWriting s n → may_fail (build_at s.builds n).outcome failures.All ≡ true
may-miss-all s n at = ap (λ (o : Option Outcome). may_fail o failures.All) at.outcome

-- the writing that was claimed is in hand
pub write-in_hand : (es new : List Event) (n : ℕ) → new ≡ es ++ event.Claim (role.Worker 0) (job.Write n) ∷ [] → doing new ≡ Some (job.Write n)
write-in_hand es new n is = ap doing is ∙ writes es (event.Claim (role.Worker 0) (job.Write n)) n refl

-- the files of a build were put, but for some
pub record WrittenBy (old new : Entries) (n : ℕ) : Type 0 where
  pub failed : Failures
  pub added : new.events ≡ old.events ++ event.Written 0 n failed ∷ []
  pub room : old.promised ≤ new.promised + 1

pub written-by : (old new : Entries) (n : ℕ) (f : Failures) → AddedWithin old new (event.Written 0 n f) ⊎ AddedWithin old new (event.Written 0 n failures.All) → WrittenBy old new n
written-by old new n f (inl added) = let room = added.room in record { failed = f; added = added.events; room = omega arith }
written-by old new n f (inr added) = let room = added.room in record { failed = failures.All; added = added.events; room = omega arith }

pub written-step : (tells : Type 0) (world : List Folder) (a b : ℕ) (old new : Entries) (n : ℕ) → doing old.events ≡ Some (job.Write n) → WrittenBy old new n → a ≤ b → Worked tells world a b old.events new.events
written-step tells world a b old new n hand w le =
    worked-push tells world a b old.events new.events (event.Written 0 n w.failed) w.added
    (record { none_arrived = refl; none_sent = λ g. refl; goes_on = λ s. all_moved-ended s (moves s (event.Written 0 n w.failed)) }) (λ h. tt) (λ h. tt)
    (written-in_turn tells world old.events n w.failed hand) (λ e. absurd (false≢true e)) le

outcome-is : (es : List Event) (n : ℕ) (files : List OutFile) → is_legal es ≡ true → (build_at (replay es).builds n).outcome ≡ Some (outcomes.Files files) → outcome es n ≡ Some (outcomes.Files files)
outcome-is es n files legal is = sym ((reads-legal es legal).outcomes n) ∙ is

rose-none : (times old new : ℕ) → RoseBy times old new → RoseBy 0 old new
rose-none times old new (inl h) = inl (omega (arith, h))
rose-none times old new (inr h) = inr h

pub written-puts : (tells : Type 0) (was now : Files) (a b : ℕ) (old new : Entries) (n : ℕ) (f : Failures) → is_legal old.events ≡ true → AtWriting (replay old.events) n
    → (tells → (files : List OutFile) → (build_at (replay old.events).builds n).outcome ≡ Some (outcomes.Files files) → ArePut files f was now) → RoseBy (count_by is_failed (listed f)) a b
    → AddedWithin old new (event.Written 0 n f) ⊎ AddedWithin old new (event.Written 0 n failures.All) → Puts tells was now a b old.events new.events
written-puts tells was now a b old new n f legal at put rise (inl added) =
    puts-written tells was now a b old.events new.events n at.files f added.events (outcome-is old.events n at.files legal at.outcome) (λ t. put t at.files at.outcome) rise
written-puts tells was now a b old new n f legal at put rise (inr added) =
    puts-written tells was now a b old.events new.events n at.files failures.All added.events (outcome-is old.events n at.files legal at.outcome) (λ t. put-all at.files f was now (put t at.files at.outcome))
    (rose-none (count_by is_failed (listed f)) a b rise)

-- ---- what the other events of the work do to the files of the host

pub answered-puts : (tells : Type 0) (was now : Files) (a b : ℕ) (old new : Entries) (n : ℕ) (q : Question) (answer : Answer) (result : Result Bool Memory) → OnOk result (Added old new (event.Record 0 n q answer)) → OnErr result (Kept old new)
    → (tells → (path : List ℕ) → now path ≡ was path) → a ≤ b → Puts tells was now a b old.events new.events
answered-puts tells was now a b old new n q answer (Ok large) added kept same le = puts-push tells was now a b old.events new.events (event.Record 0 n q answer) added.events refl refl same le
answered-puts tells was now a b old new n q answer (Err refusal) added kept same le = puts-kept tells was now a b old.events new.events kept.events same le

pub delivered-puts : (tells : Type 0) (was now : Files) (a b : ℕ) (es : List Event) (mid new : Entries) (n : ℕ) (t : Task) (p : Product) (result : Result (Unit {0}) Memory) → Puts tells was now a b es mid.events
    → OnOk result (AddedWithin mid new (event.Deliver 0 n t p)) → OnErr result (new ≡ mid) → Puts tells was now a b es new.events
delivered-puts tells was now a b es mid new n t p (Ok u) before added kept =
    puts-trans tells was now now a b b es mid.events new.events before (puts-push tells now now b b mid.events new.events (event.Deliver 0 n t p) added.events refl refl (λ t path. refl) (omega arith))
delivered-puts tells was now a b es mid new n t p (Err refusal) before added kept = subst (λ (e : Entries). Puts tells was now a b es e.events) (sym kept) before

pub settled-puts : (tells : Type 0) (was now : Files) (a b : ℕ) (es mid new : List Event) (n : ℕ) (o : Outcome) → Puts tells was now a b es mid → new ≡ mid ++ event.Settle 0 n o ∷ [] → Puts tells was now a b es new
settled-puts tells was now a b es mid new n o before is =
    puts-trans tells was now now a b b es mid new before (puts-push tells now now b b mid new (event.Settle 0 n o) is refl refl (λ t path. refl) (omega arith))

pub claimed-puts : (tells : Type 0) (was : Files) (a : ℕ) (es new : List Event) (j : Job) → new ≡ es ++ event.Claim (role.Worker 0) j ∷ [] → Puts tells was was a a es new
claimed-puts tells was a es new j is = puts-push tells was was a a es new (event.Claim (role.Worker 0) j) is refl refl (λ t path. refl) (omega arith)
