-- Where the link of a build is open, its answers are complete.
use Rattle.std.proofs.Common.{◌≡◌, ℕ, zero, suc, true, ◌&&◌, List, [], ◌∷◌, ◌++◌, length, map, Some, refl, sym, ap, ◌∙◌, arith, slice_index_or}
use Rattle.std.proofs.lemmas.Bool.{ltb-true}
use Rattle.esb_flags.specs.declared.options.Options.{Options}
use Rattle.esb_ask.specs.declared.question.Question.{Question}
use Rattle.esb_ask.specs.declared.answer.Answer.{Answer}
use Rattle.esb_ask.specs.declared.task.Task.{Task}
use Rattle.esb_ask.specs.Tasks.{product_fits}
use Rattle.esb_core.specs.declared.event.Job.{Job}
use Rattle.esb_core.specs.declared.event.Job.TheVariants as job
use Rattle.esb_core.specs.declared.event.Role.{Role}
use Rattle.esb_core.specs.declared.event.Role.TheVariants as role
use Rattle.esb_core.specs.declared.event.Event.{Event}
use Rattle.esb_core.specs.declared.event.Event.TheVariants as event
use Rattle.esb_core.specs.State.{Building, State, build_at, start}
use Rattle.esb_core.specs.Steps
use Rattle.esb_core.specs.Steps.{after, all_moved, moves, task_claimed, link_claimed, released}
use Rattle.esb_core.specs.Allowed.{allowed, has_begun, has_task, first_job, names_job, may_settle, job_of}
use Rattle.esb_core.specs.History.{no_begun, build, moves_in, table, is_legal, is_legal_from, replay, replay_from}
use Rattle.esb_core.proofs.Claims.{claim-is, scan-is, both_parts}
use Rattle.esb_core.proofs.Each.{each-set}
use Rattle.esb_core.proofs.Readings.{Reads, begun_of}
use Rattle.esb_core.proofs.Laws.{IsRead, reads-step, read-legal}
use Rattle.esb_scan.specs.Likeness.{normal_product}
use Rattle.esb_scan.specs.Run.{run}
use Rattle.esb_scan.specs.Complete.{IsComplete}
use Rattle.esb_sound.specs.Each.{Each-from}
use Rattle.esb_sound.specs.Sound.{Sound, IsSound}
use Rattle.esb_sound.proofs.Builds.{settle-settles}
use Rattle.esb_sound.proofs.Likeness.{named-normal}
use Rattle.esb_sound.proofs.Finished.{OnWay, task-claimed, link-claimed, write-claimed, delivered-on_way, released-on_way, moves-on_way, link-complete}

-- each build is on its way
abbrev AllOnWay : State → Type 0
AllOnWay s = (n : ℕ) → OnWay (build_at s.builds n)

-- ---- the direct answers are those of the state

module _ (s : State) (es : List Event) (r : Reads s (moves_in es)) (n : ℕ) where
  options_are : (build es n).options ≡ (build_at s.builds n).options
  options_are = ap (λ (bs : List _). (slice_index_or bs n no_begun).options) (sym r.begun) ∙ at_map s.builds n
    where
      at_map : (bs : List Building) (k : ℕ) → (slice_index_or (map begun_of bs) k no_begun).options ≡ (build_at bs k).options
      at_map [] k = refl
      at_map (c ∷ bs) zero = refl
      at_map (c ∷ bs) (suc k) = at_map bs k

  run_is : (t : Task) → run (build_at s.builds n).options (build_at s.builds n).table t ≡ run (build es n).options (table es n) t
  run_is t = ap (λ (o : Options). run o (build_at s.builds n).table t) (sym options_are) ∙ ap (λ (q : List (Question × Answer)). run (build es n).options q t) (r.tables n)

-- ---- steps

changes : (s : State) (n : ℕ) (b : Building) → OnWay b → AllOnWay s → AllOnWay (Steps.changed s n b)
changes s n b own h = each-set (λ k c. OnWay c) s.builds n b h own

claims : (s : State) (ro : Role) (j : Job) → names_job (first_job s ro) j ≡ true → AllOnWay s → AllOnWay (Steps.after_claim s ro j)
claims s (role.Worker worker) (job.Scan n t) may h =
    let open_task = scan-is s.builds n t (claim-is s worker (job.Scan n t) may) in
    changes s n (task_claimed (build_at s.builds n) worker t) (λ none. task-claimed (build_at s.builds n) worker t open_task.first (h n none)) h
claims s (role.Worker worker) (job.Link n) may h =
    changes s n (link_claimed (build_at s.builds n) worker) (λ none. link-claimed (build_at s.builds n) worker (h n none)) h
claims s (role.Worker worker) (job.Write n) may h =
    changes s n (Steps.write_claimed (build_at s.builds n) worker) (λ none. write-claimed (build_at s.builds n) worker (h n none)) h
claims s (role.Door door) j may h = h

-- each step of an event that is allowed and sound
on_way-step : (s : State) (es : List Event) (e : Event) → Reads s (moves_in es) → AllOnWay s → allowed s e ≡ true → IsSound es e → AllOnWay (after s e)
on_way-step s es (event.Arrive packet) r h may sound = moves-on_way s (moves s (event.Arrive packet)) h
on_way-step s es event.EndOfInput r h may sound = h
on_way-step s es (event.Claim ro j) r h may sound = claims s ro j may h
on_way-step s es (event.Record worker n q a) r h may sound = moves-on_way s (moves s (event.Record worker n q a)) h
on_way-step s es (event.Deliver worker n t p) r h may sound =
    let u : State = all_moved s (moves s (event.Deliver worker n t p)) in
    let lt = ltb-true n (length s.builds) (both_parts (has_begun s n) (has_task (build_at s.builds n) worker t && product_fits t p) may).0 in
    let moved : AllOnWay u = moves-on_way s (moves s (event.Deliver worker n t p)) h in
    changes u n (Steps.unclaimed (build_at u.builds n) worker t) (delivered-on_way s n worker t p (normal_product p) (named-normal p) lt (run_is s es r n t ∙ sound.0) (moved n)) moved
on_way-step s es (event.Settle worker n o) r h may sound =
    let t : State = all_moved s (moves s (event.Settle worker n o)) in
    let lt = ltb-true n (length s.builds) (both_parts (has_begun s n) (may_settle (build_at s.builds n) worker o) may).0 in
    changes t n (released (build_at t.builds n) worker) (released-on_way (build_at t.builds n) worker (settle-settles s worker n o lt)) (moves-on_way s (moves s (event.Settle worker n o)) h)
on_way-step s es (event.Written worker n f) r h may sound = moves-on_way s (moves s (event.Written worker n f)) h
on_way-step s es event.Pop r h may sound = h

on_way-from : (s : State) (es more : List Event) → IsRead s es → AllOnWay s → is_legal_from s more ≡ true → Each-from IsSound es more → AllOnWay (replay_from s more)
on_way-from s es [] r h legal sound = h
on_way-from s es (e ∷ more) r h legal sound =
    let parts = both_parts (allowed s e) (is_legal_from (after s e) more) legal in
    on_way-from (after s e) (es ++ e ∷ []) more (reads-step s es e r parts.0) (on_way-step s es e r.reads h parts.0 sound.0) parts.1 sound.1

at_start : AllOnWay start
at_start n none = record {
  entries = λ number lt. absurd (omega arith);
  within = omega arith;
  taken = λ i t lt at. absurd (omega arith);
}

pub links_are_complete : (events : List Event) (n : ℕ) → is_legal events ≡ true → Sound events → job_of n (build_at (replay events).builds n) ≡ Some (job.Link n)
    → IsComplete (build_at (replay events).builds n).options (build_at (replay events).builds n).table
links_are_complete events n legal sound open_link =
    link-complete n (build_at (replay events).builds n) (on_way-from start [] events (read-legal [] refl) at_start legal sound n) open_link
