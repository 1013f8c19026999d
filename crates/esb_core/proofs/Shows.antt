-- What is seen of a machine is what its list answers.
use Rattle.std.proofs.Common.{◌≡◌, ℕ, Bool, true, false, ◌||◌, List, [], ◌∷◌, refl, sym, ap, ◌∙◌}
use Rattle.std.specs.List.{list_any}
use Rattle.std.proofs.Math.Bool.{or-false, or_assoc}
use Rattle.esb_core.specs.declared.event.Job.TheVariants as job
use Rattle.esb_core.specs.declared.event.Role.TheVariants as role
use Rattle.esb_core.specs.declared.event.Event.{Event}
use Rattle.esb_core.specs.declared.event.Event.TheVariants as event
use Rattle.esb_core.specs.State.{State, start}
use Rattle.esb_core.specs.Moves.{Move, make, remove, begin, join, owe, retire, keep, assign, settle, write, close, take}
use Rattle.esb_core.specs.Steps.{moved, all_moved, moves, worked, after}
use Rattle.esb_core.specs.History.{Begun, moves_in, replay_from, StandsFor}
use Rattle.esb_core.specs.Laws.{ends_input, ShowsHistory}
use Rattle.esb_core.proofs.Readings.{build-read, same-number, tasks-read}
use Rattle.esb_core.proofs.Laws.{read-stands}

-- ---- the end of the input

ended-moved : (s : State) (m : Move) → (moved s m).ended ≡ s.ended
ended-moved s (make key options) = refl
ended-moved s (remove key) = refl
ended-moved s (begin n key options) = refl
ended-moved s (join n id result) = refl
ended-moved s (retire key) = refl
ended-moved s (owe o) = refl
ended-moved s (keep n q a) = refl
ended-moved s (assign n t) = refl
ended-moved s (settle n o) = refl
ended-moved s (write n f) = refl
ended-moved s (close key n) = refl
ended-moved s take = refl

ended-all_moved : (s : State) (ms : List Move) → (all_moved s ms).ended ≡ s.ended
ended-all_moved s [] = refl
ended-all_moved s (m ∷ ms) = ended-all_moved (moved s m) ms ∙ ended-moved s m

ended-worked : (s : State) (e : Event) → (worked s e).ended ≡ (s.ended || ends_input e)
ended-worked s event.EndOfInput = by s.ended
  where
    by : (t : Bool) → true ≡ (t || true)
    by true = refl
    by false = refl
ended-worked s (event.Claim (role.Worker worker) (job.Scan n t)) = sym (or-false s.ended)
ended-worked s (event.Claim (role.Worker worker) (job.Link n)) = sym (or-false s.ended)
ended-worked s (event.Claim (role.Worker worker) (job.Write n)) = sym (or-false s.ended)
ended-worked s (event.Written worker n f) = sym (or-false s.ended)
ended-worked s (event.Claim (role.Door door) j) = sym (or-false s.ended)
ended-worked s (event.Arrive p) = sym (or-false s.ended)
ended-worked s (event.Record worker m q a) = sym (or-false s.ended)
ended-worked s (event.Deliver worker m t p) = sym (or-false s.ended)
ended-worked s (event.Settle worker m o) = sym (or-false s.ended)
ended-worked s event.Pop = sym (or-false s.ended)

ended-step : (s : State) (e : Event) → (after s e).ended ≡ (s.ended || ends_input e)
ended-step s e = ended-worked (all_moved s (moves s e)) e ∙ ap (λ t. t || ends_input e) (ended-all_moved s (moves s e))

ended-from : (s : State) (es : List Event) → (replay_from s es).ended ≡ (s.ended || list_any ends_input es)
ended-from s [] = sym (or-false s.ended)
ended-from s (e ∷ es) = ended-from (after s e) es ∙ ap (λ t. t || list_any ends_input es) (ended-step s e) ∙ or_assoc s.ended (ends_input e) (list_any ends_input es)

pub shows : (state : State) (events : List Event) → StandsFor state events → ShowsHistory state events
shows state events h =
    let r = (read-stands state events h).reads in
    let at = λ (n : ℕ). build-read state (moves_in events) n r in
    record {
      contexts = r.contexts;
      owes = r.owed;
      number = same-number state (moves_in events) r;
      keys = λ n. sym (ap (λ (b : Begun). b.key) (at n));
      options = λ n. sym (ap (λ (b : Begun). b.options) (at n));
      waiting = r.waiting;
      tables = r.tables;
      tasks = λ n. tasks-read state (moves_in events) n r;
      outcomes = r.outcomes;
      failures = r.failures;
      closed = r.closes;
      ended = ap (λ (s : State). s.ended) h.replayed ∙ ended-from start events;
    }
