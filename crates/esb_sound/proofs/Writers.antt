-- With one worker, each build is closed where no job is in hand and none is open.
use Rattle.std.proofs.Common.{◌≡◌, ◌⊎◌, inl, inr, append_assoc, ℕ, ◌<◌, ◌≤◌, Bool, true, false, cond, not, ◌&&◌, ◌||◌, List, [], ◌∷◌, ◌++◌, length, Option, None, Some, IsSome, refl, sym, ap, subst, ◌∙◌, arith, nat_eq}
use Rattle.std.specs.Prelude.{is_none, is_some}
use Rattle.std.proofs.lemmas.Bool.{false≢true, eqb-true, eq-eqb, ltb-true}
use Rattle.std.proofs.lemmas.List.{length-map}
use Rattle.esb_base.specs.World.{Folder}
use Rattle.esb_flags.specs.declared.command.Command.TheVariants as command_of
use Rattle.esb_ask.specs.declared.task.Task.{Task}
use Rattle.esb_ask.specs.declared.outcome.OutFile.{OutFile}
use Rattle.esb_ask.specs.declared.outcome.Failures.{Failures}
use Rattle.esb_ask.specs.declared.outcome.Outcome.{Outcome}
use Rattle.esb_ask.specs.declared.outcome.Outcome.TheVariants as outcomes
use Rattle.esb_ask.specs.Tasks.{product_fits}
use Rattle.esb_core.specs.declared.event.Job.{Job}
use Rattle.esb_core.specs.declared.event.Job.TheVariants as job
use Rattle.esb_core.specs.declared.event.Role.{Role}
use Rattle.esb_core.specs.declared.event.Role.TheVariants as role
use Rattle.esb_core.specs.declared.event.Event.{Event}
use Rattle.esb_core.specs.declared.event.Event.TheVariants as event
use Rattle.esb_core.specs.State.{Building, State, build_at, start}
use Rattle.esb_core.specs.Moves.{Move}
use Rattle.esb_core.specs.Steps
use Rattle.esb_core.specs.Steps.{after, all_moved, moved, moves, standing, fresh, joined, answered, tasked, task_claimed, link_claimed, write_claimed, written_by, closed_by, ended_by, released}
use Rattle.esb_core.specs.Allowed.{allowed, first_job, has_begun, has_task, job_of, job_unless, may_settle, names_job, write_if, writing_of}
use Rattle.esb_core.specs.History.{Begun, active_build, build, builds, closed, failed, is_legal, moves_in, outcome, replay}
use Rattle.esb_core.specs.Laws.{Verdict, accepted, refused, verdict, canceled_if, large_if, closed_by as closed_by_command, closed_if, closes, fails, is_to_write, overfull, overopened, settled_by, settles, IsSettledBy}
use Rattle.esb_core.proofs.Begins.{build-stays}
use Rattle.esb_core.proofs.Claims.{both_parts, claim-is, link-is, scan-is, write-is}
use Rattle.esb_core.proofs.Closes.{closed-pushed, failed-pushed}
use Rattle.esb_core.proofs.Each.{each-all_moved}
use Rattle.esb_core.proofs.Ends.{none-settles, settled-earliest}
use Rattle.esb_core.proofs.Laws.{IsRead, all_moved-longer, read-legal, reads-legal, reads-step}
use Rattle.esb_core.proofs.Readings.{begun_of, build-read, same-number}
use Rattle.esb_sound.specs.Each.{Each}
use Rattle.esb_sound.specs.Serial.{Handles, InTurn, doing, doing_after, going_on, in_hand, unless_over}
use Rattle.esb_sound.proofs.Doing.{doing-hand}
use Rattle.esb_sound.proofs.Hands.{all-done, along, in-turn-handled, list_end, no-first, set-others}
use Rattle.esb_sound.proofs.Outcomes.{none-is, parts-legal}

-- ---- the worker that puts a build's files is the one that has that job in hand

abbrev writer_of : ℕ → Option Job → Option ℕ
writer_of n None = None
writer_of n (Some (job.Scan m t)) = None
writer_of n (Some (job.Link m)) = None
writer_of n (Some (job.Write m)) = cond (nat_eq m n) (Some 0) None

-- once the files of a build are put, nothing is said of it
abbrev Has : Option Job → ℕ → Building → Type 0
Has hand n b = b.failed ≡ None → b.writer ≡ writer_of n hand

abbrev AllHave : Option Job → State → Type 0
AllHave hand s = (n : ℕ) → Has hand n (build_at s.builds n)

some-none : {X : Type 0} (f : Failures) → Some f ≡ None → X
some-none f e = absurd (let g : ⊥ = cc in g)

moves-have : (hand : Option Job) (s : State) (ms : List Move) → AllHave hand s → AllHave hand (all_moved s ms)
moves-have hand s ms h =
    each-all_moved (Has hand) (λ k key options own. own) (λ k b id result own. own) (λ k b q a own. own) (λ k b t own. own) (λ k b o own. own) (λ k b f own none. some-none f none) (λ k b own. own) s ms h

-- a change that leaves the writer of a build
changed-have : (hand : Option Job) (s : State) (n : ℕ) (b : Building) → n < length s.builds → b.failed ≡ (build_at s.builds n).failed → b.writer ≡ (build_at s.builds n).writer → AllHave hand s → AllHave hand (Steps.changed s n b)
changed-have hand s n b lt put same h = set-others (Has hand) s.builds n b lt (λ k apart. h k) (λ none. same ∙ h n (sym put ∙ none))

claims : (s : State) (j : Job) → names_job (first_job s (role.Worker 0)) j ≡ true → AllHave None s → AllHave (Some j) (Steps.after_claim s (role.Worker 0) j)
claims s (job.Scan n t) may h = changed-have (Some (job.Scan n t)) s n (task_claimed (build_at s.builds n) 0 t) (scan-is s.builds n t (claim-is s 0 (job.Scan n t) may)).begun refl refl h
claims s (job.Link n) may h = changed-have (Some (job.Link n)) s n (link_claimed (build_at s.builds n) 0) (link-is s.builds n (claim-is s 0 (job.Link n) may)).begun refl refl h
claims s (job.Write n) may h =
    set-others (Has (Some (job.Write n))) s.builds n (write_claimed (build_at s.builds n) 0) (write-is s.builds n (claim-is s 0 (job.Write n) may)).begun
    (λ k apart none. h k none ∙ ap (λ (t : Bool). cond t (Some 0) None) (sym apart)) (λ none. ap (λ (t : Bool). cond t (Some 0) None) (sym (eq-eqb n n refl)))

-- the writing of files is never over before it is done
free-have : (s : State) (before : List Event) → doing before ≡ None → AllHave (in_hand before) s → AllHave None s
free-have s before free h = by (in_hand before) refl free
  where
    over : (n : ℕ) (o : Option Outcome) → unless_over o (job.Write n) ≡ None → ⊥
    over n None none = let e : Some (job.Write n) ≡ None = none in cc
    over n (Some o) none = let e : Some (job.Write n) ≡ None = none in cc

    by : (hand : Option Job) → in_hand before ≡ hand → going_on before hand ≡ None → AllHave None s
    by None is none = subst (λ (o : Option Job). AllHave o s) is h
    by (Some (job.Scan n t)) is none = subst (λ (o : Option Job). AllHave o s) is h
    by (Some (job.Link n)) is none = subst (λ (o : Option Job). AllHave o s) is h
    by (Some (job.Write n)) is none = absurd (over n (outcome before n) none)

step : (s : State) (before : List Event) (e : Event) → IsRead s before → allowed s e ≡ true → Handles before e → AllHave (in_hand before) s → AllHave (doing_after (in_hand before) e) (after s e)
step s before (event.Arrive packet) r may handles h = moves-have (in_hand before) s (moves s (event.Arrive packet)) h
step s before event.EndOfInput r may handles h = h
step s before event.Pop r may handles h = h
step s before (event.Record worker n q a) r may handles h = moves-have (in_hand before) s (moves s (event.Record worker n q a)) h
step s before (event.Claim ro j) r may handles h =
    subst (λ (x : Role). AllHave (Some j) (Steps.after_claim s x j)) (sym handles.0)
    (claims s j (ap (λ (x : Role). names_job (first_job s x) j) (sym handles.0) ∙ may) (free-have s before handles.1 h))
step s before (event.Deliver worker n t p) r may handles h =
    changed-have None u n (Steps.unclaimed (build_at u.builds n) worker t) (omega (arith, lt, longer)) refl refl
    (moves-have (Some (job.Scan n t)) s (moves s (event.Deliver worker n t p)) (subst (λ (hand : Option Job). AllHave hand s) (doing-hand before (job.Scan n t) handles.1) h))
  where
    u : State
    u = all_moved s (moves s (event.Deliver worker n t p))

    lt : n < length s.builds
    lt = ltb-true n (length s.builds) (both_parts (has_begun s n) (has_task (build_at s.builds n) worker t && product_fits t p) may).0

    longer : length s.builds ≤ length u.builds
    longer = all_moved-longer s (moves s (event.Deliver worker n t p))
step s before (event.Settle worker n o) r may handles h = changed-have None u n (released (build_at u.builds n) worker) (omega (arith, lt, longer)) refl refl (by handles.1)
  where
    u : State
    u = all_moved s (moves s (event.Settle worker n o))

    lt : n < length s.builds
    lt = ltb-true n (length s.builds) (both_parts (has_begun s n) (may_settle (build_at s.builds n) worker o) may).0

    longer : length s.builds ≤ length u.builds
    longer = all_moved-longer s (moves s (event.Settle worker n o))

    have : (j : Job) → doing before ≡ Some j → AllHave (Some j) u
    have j is = moves-have (Some j) s (moves s (event.Settle worker n o)) (subst (λ (hand : Option Job). AllHave hand s) (doing-hand before j is) h)

    by : (doing before ≡ Some (job.Link n)) ⊎ ((t : Task) × (doing before ≡ Some (job.Scan n t))) → AllHave None u
    by (inl link) = have (job.Link n) link
    by (inr scan) = have (job.Scan n scan.0) scan.1
step s before (event.Written worker n f) r may handles h = none-left
  where
    e : Event
    e = event.Written worker n f

    have : AllHave (Some (job.Write n)) (after s e)
    have = moves-have (Some (job.Write n)) s (moves s e) (subst (λ (hand : Option Job). AllHave hand s) (doing-hand before (job.Write n) handles.1) h)

    put : failed (before ++ e ∷ []) n ≡ Some f
    put = failed-pushed before n e ∙ ap (λ (t : Bool). cond t (Some f) (failed before n)) (eq-eqb n n refl)

    by : (k : ℕ) (t : Bool) → nat_eq n k ≡ t → (build_at (after s e).builds k).failed ≡ None → writer_of k (Some (job.Write n)) ≡ None
    by k true same none = some-none f (sym put ∙ ap (λ (m : ℕ). failed (before ++ e ∷ []) m) (eqb-true n k same) ∙ sym ((reads-step s before e r may).reads.failures k) ∙ none)
    by k false apart none = ap (λ (t : Bool). cond t (Some 0) None) apart

    none-left : AllHave None (after s e)
    none-left k none = have k none ∙ by k (nat_eq n k) refl none

at_start : AllHave None start
at_start n none = refl

-- ---- builds that are settled and aren't closed

or-left : (a b : Bool) → a ≡ true → (a || b) ≡ true
or-left a b e = ap (λ (t : Bool). t || b) e

or-right : (a b : Bool) → b ≡ true → (a || b) ≡ true
or-right true b e = refl
or-right false b e = e

closed-stays : (xs ys : List Event) (n : ℕ) → closed xs n ≡ true → closed (xs ++ ys) n ≡ true
closed-stays xs [] n is = ap (λ (es : List Event). closed es n) (list_end xs) ∙ is
closed-stays xs (y ∷ ys) n is =
    ap (λ (es : List Event). closed es n) (sym (append_assoc xs (y ∷ []) ys)) ∙ closed-stays (xs ++ y ∷ []) ys n (closed-pushed xs n y ∙ or-left (closed xs n) (closes xs n y) is)

-- a build whose files were put is closed
put-closed : (before more : List Event) (n : ℕ) → ((f : Failures) → failed before n ≡ Some f → closed before n ≡ true) → (f : Failures) → failed (before ++ more) n ≡ Some f → closed (before ++ more) n ≡ true
put-closed before [] n h f is = ap (λ (es : List Event). closed es n) (list_end before) ∙ h f (ap (λ (es : List Event). failed es n) (sym (list_end before)) ∙ is)
put-closed before (e ∷ more) n h f is =
    ap (λ (es : List Event). closed es n) (sym (append_assoc before (e ∷ []) more))
    ∙ put-closed (before ++ e ∷ []) more n (λ g now. closed-pushed before n e ∙ by e g (sym (failed-pushed before n e) ∙ now)) f (ap (λ (es : List Event). failed es n) (append_assoc before (e ∷ []) more) ∙ is)
  where
    written : (g f : Failures) (t : Bool) → cond t (Some f) (failed before n) ≡ Some g → (closed before n || t) ≡ true
    written g f true now = or-right (closed before n) true refl
    written g f false now = or-left (closed before n) false (h g now)

    by : (d : Event) (g : Failures) → fails n (failed before n) d ≡ Some g → (closed before n || closes before n d) ≡ true
    by (event.Written worker m f) g now = written g f (nat_eq m n) now
    by (event.Arrive packet) g now = or-left (closed before n) (closes before n (event.Arrive packet)) (h g now)
    by event.EndOfInput g now = or-left (closed before n) false (h g now)
    by (event.Claim ro j) g now = or-left (closed before n) false (h g now)
    by (event.Record worker m q a) g now = or-left (closed before n) (closes before n (event.Record worker m q a)) (h g now)
    by (event.Deliver worker m t p) g now = or-left (closed before n) (closes before n (event.Deliver worker m t p)) (h g now)
    by (event.Settle worker m o) g now = or-left (closed before n) (closes before n (event.Settle worker m o)) (h g now)
    by event.Pop g now = or-left (closed before n) false (h g now)

module _ (events : List Event) (n : ℕ) (o : Outcome) (legal : is_legal events ≡ true) (is : outcome events n ≡ Some o) where
  h : IsSettledBy events n o
  h = settled-earliest events n o is

  unsettled : outcome h.before n ≡ None
  unsettled = none-settles h.before n h.earliest

  -- what settles it closes it, or it has files to put
  abbrev Ends : Event → Type 0
  Ends e = (closes h.before n e ≡ true) ⊎ (is_to_write (build events n) o ≡ true)

  none-before : (m : ℕ) → nat_eq m n ≡ true → is_none (outcome h.before m) ≡ true
  none-before m same = ap (λ (k : ℕ). is_none (outcome h.before k)) (eqb-true m n same) ∙ ap (λ (p : Option Outcome). is_none p) unsettled

  three : (a b c : Bool) → a ≡ true → b ≡ true → c ≡ true → (a && (b && c)) ≡ true
  three a b c ea eb ec = rw (ea, eb, ec) refl

  large : (m : ℕ) (l t : Bool) → nat_eq m n ≡ t → cond t (large_if l) None ≡ Some o → (nat_eq m n && (is_none (outcome h.before m) && l)) ≡ true
  large m true true same gives = three (nat_eq m n) (is_none (outcome h.before m)) true same (none-before m same) refl
  large m false true same gives = none-is o gives
  large m l false same gives = none-is o gives

  canceled : (a : Option ℕ) → canceled_if n a ≡ Some o → closed_if h.before n a ≡ true
  canceled None e = none-is o e
  canceled (Some m) e = by (nat_eq m n) refl e
    where
      by : (t : Bool) → nat_eq m n ≡ t → cond t (Some outcomes.Canceled) None ≡ Some o → (nat_eq m n && is_none (outcome h.before m)) ≡ true
      by true same f = let none = none-before m same in rw (same, none) refl
      by false apart f = none-is o f

  command : (v : Verdict) → settled_by h.before n v ≡ Some o → closed_by_command h.before n v ≡ true
  command (refused text) e = none-is o e
  command (accepted (command_of.Build key options)) e = none-is o e
  command (accepted (command_of.Rebuild key)) e = none-is o e
  command (accepted (command_of.Cancel key)) e = canceled (active_build h.before key) e
  command (accepted (command_of.Dispose key)) e = canceled (active_build h.before key) e
  command (accepted (command_of.Watch key)) e = none-is o e
  command (accepted (command_of.Serve key port)) e = none-is o e
  command (accepted command_of.Ping) e = none-is o e

  arrives : (v : Verdict) (t : Bool) → cond t (settled_by h.before n v) None ≡ Some o → (t && closed_by_command h.before n v) ≡ true
  arrives v true e = command v e
  arrives v false e = none-is o e

  settle : (worker m : ℕ) (p : Outcome) (t : Bool) → nat_eq m n ≡ t → events ≡ h.before ++ event.Settle worker m p ∷ h.more → cond t (Some p) None ≡ Some o → Ends (event.Settle worker m p)
  settle worker m p false apart at gives = none-is o gives
  settle worker m p true same at gives = by (is_to_write (build h.before m) p) refl
    where
      parts : (is_legal h.before ≡ true) × (allowed (replay h.before) (event.Settle worker m p) ≡ true)
      parts = parts-legal h.before (event.Settle worker m p) h.more (ap is_legal (sym at) ∙ legal)

      begun : m < length (builds h.before)
      begun =
          let lt = ltb-true m (length (replay h.before).builds) (both_parts (has_begun (replay h.before) m) (may_settle (build_at (replay h.before).builds m) worker p) parts.1).0 in
          let number = same-number (replay h.before) (moves_in h.before) (reads-legal h.before parts.0) in
          subst (λ (k : ℕ). m < k) number lt

      same_build : build events n ≡ build h.before m
      same_build = ap (λ (k : ℕ). build events k) (sym (eqb-true m n same)) ∙ ap (λ (es : List Event). build es m) at ∙ build-stays h.before (event.Settle worker m p ∷ h.more) m begun

      said : p ≡ o
      said = let f : Some p ≡ Some o = gives in cc

      by : (w : Bool) → is_to_write (build h.before m) p ≡ w → Ends (event.Settle worker m p)
      by true writes = inr (ap (λ (b : Begun). is_to_write b o) same_build ∙ ap (λ (q : Outcome). is_to_write (build h.before m) q) (sym said) ∙ writes)
      by false none = inl (three (nat_eq m n) (is_none (outcome h.before m)) (not (is_to_write (build h.before m) p)) same (none-before m same) (ap not none))

  ends : (e : Event) → events ≡ h.before ++ e ∷ h.more → settles h.before n e ≡ Some o → Ends e
  ends (event.Settle worker m p) at gives = settle worker m p (nat_eq m n) refl at gives
  ends (event.Record worker m q a) at gives = inl (large m (overfull h.before m q a) (nat_eq m n) refl gives)
  ends (event.Deliver worker m t p) at gives = inl (large m (overopened h.before m p) (nat_eq m n) refl gives)
  ends (event.Arrive packet) at gives = inl (arrives (verdict h.before packet) packet.request gives)
  ends event.EndOfInput at gives = none-is o gives
  ends (event.Claim ro j) at gives = none-is o gives
  ends (event.Written worker m f) at gives = none-is o gives
  ends event.Pop at gives = none-is o gives

  closed-or-writes : (closed events n ≡ true) ⊎ (is_to_write (build events n) o ≡ true)
  closed-or-writes = by (ends h.by h.at h.gives)
    where
      by : Ends h.by → (closed events n ≡ true) ⊎ (is_to_write (build events n) o ≡ true)
      by (inl here) = inl (
          ap (λ (es : List Event). closed es n) (h.at ∙ sym (append_assoc h.before (h.by ∷ []) h.more))
          ∙ closed-stays (h.before ++ h.by ∷ []) h.more n (closed-pushed h.before n h.by ∙ or-right (closed h.before n) (closes h.before n h.by) here))
      by (inr writes) = inr writes

-- ---- where nothing is in hand and nothing is open

pub all-closed : (events : List Event) → is_legal events ≡ true → Each Handles events → doing events ≡ None → first_job (replay events) (role.Worker 0) ≡ None → (n : ℕ) → n < length (builds events)
    → closed events n ≡ true
all-closed events legal handled free none n lt = settled (outcome events n) refl (all-done events legal handled free none n lt)
  where
    s : State
    s = replay events

    b : Building
    b = build_at s.builds n

    same : length (builds events) ≡ length s.builds
    same = ap length (sym (reads-legal events legal).begun) ∙ length-map s.builds begun_of

    no_job : job_of n b ≡ None
    no_job = ap (λ (m : ℕ). job_of m b) (omega arith) ∙ no-first 0 s.builds n none (omega (arith, same, lt))

    have : AllHave None s
    have = free-have s events free (along AllHave step start [] events (read-legal [] refl) legal handled at_start)

    open_still : (w : Bool) → w ≡ true → write_if n w ≡ None → ⊥
    open_still true e closed_job = let f : Some (job.Write n) ≡ None = closed_job in cc
    open_still false e closed_job = false≢true e

    puts : (files : List OutFile) → writing_of n b (outcomes.Files files) ≡ None → (build events n).options.write ≡ true → (f : Option Failures) → b.failed ≡ f → closed events n ≡ true
    puts files gone writes (Some f) is = put-closed [] events n (λ g e. some-none g (sym e)) f (sym ((reads-legal events legal).failures n) ∙ is)
    puts files gone writes None is =
        let write_now : b.options.write ≡ true = ap (λ (c : Begun). c.options.write) (sym (build-read s (moves_in events) n (reads-legal events legal))) ∙ writes in
        let writer_now : is_none b.writer ≡ true = ap (λ (w : Option ℕ). is_none w) (have n is) in
        let failed_now : is_none b.failed ≡ true = ap (λ (w : Option Failures). is_none w) is in
        absurd (open_still (b.options.write && (is_none b.writer && is_none b.failed)) (rw (write_now, writer_now, failed_now) refl) gone)

    writing : (o : Outcome) → b.outcome ≡ Some o → is_to_write (build events n) o ≡ true → closed events n ≡ true
    writing (outcomes.Files files) is writes = puts files (ap (λ (p : Option Outcome). job_unless n b p) (sym is) ∙ no_job) writes b.failed refl
    writing (outcomes.Errors messages) is writes = absurd (false≢true writes)
    writing outcomes.Canceled is writes = absurd (false≢true writes)
    writing outcomes.Memory is writes = absurd (false≢true writes)

    ended : (o : Outcome) → outcome events n ≡ Some o → (closed events n ≡ true) ⊎ (is_to_write (build events n) o ≡ true) → closed events n ≡ true
    ended o is (inl done) = done
    ended o is (inr writes) = writing o ((reads-legal events legal).outcomes n ∙ is) writes

    settled : (o : Option Outcome) → outcome events n ≡ o → IsSome (outcome events n) → closed events n ≡ true
    settled (Some o) is some = ended o is (closed-or-writes events n o legal is)
    settled None is some = absurd (false≢true (sym (ap (λ (o : Option Outcome). is_some o) is) ∙ some))

pub in-turn-closed : (tells : Type 0) (world : List Folder) (events : List Event) → is_legal events ≡ true → InTurn tells world events → doing events ≡ None
    → first_job (replay events) (role.Worker 0) ≡ None → (n : ℕ) → n < length (builds events) → closed events n ≡ true
in-turn-closed tells world events legal turns = all-closed events legal (in-turn-handled tells world events turns)
