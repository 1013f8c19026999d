-- Lists of events with one more event.
use Rattle.std.proofs.Common.{◌≡◌, ℕ, ◌+◌, ◌≤◌, Bool, true, false, cond, List, [], ◌∷◌, ◌++◌, inl, inr, refl, sym, ap, subst, ◌∙◌, append_assoc, arith}
use Rattle.std.specs.List.{flat_map, AllByRecursion}
use Rattle.std.proofs.lemmas.List.Sums.{sum_by-append}
use Rattle.esb_base.specs.World.{Folder}
use Rattle.esb_base.specs.Faults.{Rose}
use Rattle.esb_core.specs.declared.event.Event.{Event}
use Rattle.esb_core.specs.State.{State, start}
use Rattle.esb_core.specs.Moves.{Move, make, remove, begin, join, retire, owe, keep, assign, settle, write, close, take}
use Rattle.esb_core.specs.Steps.{after, moved, all_moved}
use Rattle.esb_core.specs.History.{arrived, replay}
use Rattle.esb_core.proofs.Moving.{gathered-push}
use Rattle.esb_core.proofs.Replays.{replay_from-append}
use Rattle.esb_sound.specs.Each.{Each, Each-from}
use Rattle.esb_sound.specs.Serial.{IsInTurn}
use Rattle.esb_sound.specs.Sound.{Sound, IsSound}
use Rattle.esb_sound.specs.Sent.{arrivals, sends, sent_packets}
use Rattle.esb_sound.specs.Told.{IsTold, RoseBy, faults, is_fault_record}
use Rattle.esb_top.specs.Work.{Worked}

pub list_end : {X : Type 0} (xs : List X) → xs ++ [] ≡ xs
list_end [] = refl
list_end (x ∷ xs) = ap (λ ys. x ∷ ys) (list_end xs)

pub flat_map-push : {X Y : Type 0} (f : X → List Y) (xs : List X) (x : X) → flat_map f (xs ++ x ∷ []) ≡ flat_map f xs ++ f x
flat_map-push f [] x = list_end (f x)
flat_map-push f (y ∷ ys) x = ap (λ zs. f y ++ zs) (flat_map-push f ys x) ∙ sym (append_assoc (f y) (flat_map f ys) (f x))

each_from-push : (P : List Event → Event → Type 0) (before es : List Event) (e : Event) → Each-from P before es → P (before ++ es) e → Each-from P before (es ++ e ∷ [])
each_from-push P before [] e all here = (subst (λ (b : List Event). P b e) (list_end before) here, tt)
each_from-push P before (d ∷ es) e all here =
    (all.0, each_from-push P (before ++ d ∷ []) es e all.1 (subst (λ (b : List Event). P b e) (sym (append_assoc before (d ∷ []) es)) here))

pub each-push : (P : List Event → Event → Type 0) (es : List Event) (e : Event) → Each P es → P es e → Each P (es ++ e ∷ [])
each-push P es e all here = each_from-push P [] es e all here

pub all-push : {X : Type 0} (P : X → Type 0) (xs : List X) (x : X) → AllByRecursion P xs → P x → AllByRecursion P (xs ++ x ∷ [])
all-push P [] x all here = (here, tt)
all-push P (y ∷ ys) x all here = (all.0, all-push P ys x all.1 here)

pub arrivals-push : (es : List Event) (e : Event) → arrivals (es ++ e ∷ []) ≡ arrivals es ++ arrived e
arrivals-push es e = flat_map-push arrived es e

pub sent-push : (es : List Event) (e : Event) → sent_packets (es ++ e ∷ []) ≡ sent_packets es ++ sends es e
sent-push es e = gathered-push sends es e

pub faults-push : (es : List Event) (e : Event) → faults (es ++ e ∷ []) ≡ faults es + cond (is_fault_record e) 1 0
faults-push es e = sum_by-append (λ d. cond (is_fault_record d) 1 0) es (e ∷ []) ∙ omega arith

pub replay-push : (es : List Event) (e : Event) → replay (es ++ e ∷ []) ≡ after (replay es) e
replay-push es e = replay_from-append start es (e ∷ [])

moved-ended : (s : State) (m : Move) → (moved s m).ended ≡ s.ended
moved-ended s (make key options) = refl
moved-ended s (remove key) = refl
moved-ended s (begin n key options) = refl
moved-ended s (join n id result) = refl
moved-ended s (retire key) = refl
moved-ended s (owe o) = refl
moved-ended s (keep n q a) = refl
moved-ended s (assign n t) = refl
moved-ended s (settle n o) = refl
moved-ended s (write n f) = refl
moved-ended s (close key n) = refl
moved-ended s take = refl

-- no move ends the input
pub all_moved-ended : (s : State) (ms : List Move) → (all_moved s ms).ended ≡ s.ended
all_moved-ended s [] = refl
all_moved-ended s (m ∷ ms) = all_moved-ended (moved s m) ms ∙ moved-ended s m

-- an event of work: nothing arrives or is sent, and the input doesn't end
pub record IsOfWork (e : Event) : Type 0 where
  pub none_arrived : arrived e ≡ []
  pub none_sent : (before : List Event) → sends before e ≡ []
  pub goes_on : (s : State) → (after s e).ended ≡ s.ended

rose-more : (times start old new : ℕ) (fault : Bool) → old ≤ new → (fault ≡ true → Rose old new) → RoseBy times start old → RoseBy (times + cond fault 1 0) start new
rose-more times start old new false le rise (inl h) = inl (omega arith)
rose-more times start old new false le rise (inr h) = inr (omega arith)
rose-more times start old new true le rise (inl h) = by (rise refl)
  where
    by : Rose old new → RoseBy (times + 1) start new
    by (inl more) = inl (omega arith)
    by (inr most) = inr (omega arith)
rose-more times start old new true le rise (inr h) = inr (omega arith)

module _ (tells : Type 0) (world : List Folder) where
  pub worked-refl : (old new : ℕ) (es : List Event) → old ≤ new → Worked tells world old new es es
  worked-refl old new es le = record {
    sound = λ h. h;
    from_host = λ t h. h;
    in_turn = λ h. h;
    counted = λ start h. by start h;
    arrived = refl;
    sends = refl;
    ended = refl;
  }
    where
      by : (start : ℕ) → RoseBy (faults es) start old → RoseBy (faults es) start new
      by start (inl h) = inl (omega arith)
      by start (inr h) = inr (omega arith)

  pub worked-trans : (a b c : ℕ) (es fs gs : List Event) → Worked tells world a b es fs → Worked tells world b c fs gs → Worked tells world a c es gs
  worked-trans a b c es fs gs w v = record {
    sound = λ h. v.sound (w.sound h);
    from_host = λ t h. v.from_host t (w.from_host t h);
    in_turn = λ h. v.in_turn (w.in_turn h);
    counted = λ start h. v.counted start (w.counted start h);
    arrived = v.arrived ∙ w.arrived;
    sends = v.sends ∙ w.sends;
    ended = v.ended ∙ w.ended;
  }

  pub worked-push : (old new : ℕ) (es fs : List Event) (e : Event) → fs ≡ es ++ e ∷ [] → IsOfWork e → (Sound es → IsSound es e) → (tells → IsTold world e) → IsInTurn tells world es e
      → (is_fault_record e ≡ true → Rose old new) → old ≤ new
      → Worked tells world old new es fs
  worked-push old new es fs e is work sound told turn rise le = subst (λ (ds : List Event). Worked tells world old new es ds) (sym is) record {
    sound = λ h. each-push IsSound es e h (sound h);
    from_host = λ t h. all-push (IsTold world) es e h (told t);
    in_turn = λ h. each-push (IsInTurn tells world) es e h turn;
    counted = λ start h. subst (λ (k : ℕ). RoseBy k start new) (sym (faults-push es e)) (rose-more (faults es) start old new (is_fault_record e) le rise h);
    arrived = arrivals-push es e ∙ ap (λ ps. arrivals es ++ ps) work.none_arrived ∙ list_end (arrivals es);
    sends = sent-push es e ∙ ap (λ ps. sent_packets es ++ ps) (work.none_sent es) ∙ list_end (sent_packets es);
    ended = ap (λ (s : State). s.ended) (replay-push es e) ∙ work.goes_on (replay es);
  }
