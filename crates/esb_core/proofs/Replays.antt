-- One more event at the end of a list.
use Rattle.std.proofs.Common.{◌≡◌, Bool, true, false, Result, Ok, Err, OnOk, subst, List, [], ◌∷◌, ◌++◌, refl, sym, ap, ◌∙◌}
use Rattle.std.specs.Prelude.{◌&&◌}
use Rattle.esb_core.specs.State.{State, start}
use Rattle.esb_core.specs.Steps.{after}
use Rattle.esb_core.specs.Allowed.{allowed}
use Rattle.esb_core.specs.History.{replay_from, replay, is_legal_from, is_legal, StandsFor}
use Rattle.esb_core.specs.declared.event.Event.{Event}

pub replay_from-append : (s : State) (es fs : List Event) → replay_from s (es ++ fs) ≡ replay_from (replay_from s es) fs
replay_from-append s [] fs = refl
replay_from-append s (e ∷ es) fs = replay_from-append (after s e) es fs

pub is_legal_from-append : (s : State) (es fs : List Event) → is_legal_from s (es ++ fs) ≡ (is_legal_from s es && is_legal_from (replay_from s es) fs)
is_legal_from-append s [] fs = refl
is_legal_from-append s (e ∷ es) fs = by (allowed s e) (is_legal_from-append (after s e) es fs)
  where
    by : (b : Bool) → is_legal_from (after s e) (es ++ fs) ≡ (is_legal_from (after s e) es && is_legal_from (replay_from (after s e) es) fs)
        → (b && is_legal_from (after s e) (es ++ fs)) ≡ ((b && is_legal_from (after s e) es) && is_legal_from (replay_from (after s e) es) fs)
    by true h = h
    by false h = refl

both : (a b : Bool) → a ≡ true → b ≡ true → (a && b) ≡ true
both a b h k = rw (h, k) refl

-- a step goes on from what the state stands for
pub stands-push : (s : State) (es : List Event) (e : Event) → StandsFor s es → allowed s e ≡ true → StandsFor (after s e) (es ++ e ∷ [])
stands-push s es e h may = record {
  legal = is_legal_from-append start es (e ∷ []) ∙ both (is_legal es) (allowed (replay es) e && true) h.legal (both (allowed (replay es) e) true (ap (λ t. allowed t e) (sym h.replayed) ∙ may) refl);
  replayed = ap (λ t. after t e) h.replayed ∙ sym (replay_from-append start es (e ∷ []));
}

-- the same of a result, where the step is as before on want of memory
pub stands_left : {X F : Type 0} (s t : State) (e : Event) → allowed s e ≡ true → (result : Result X F) → OnOk result (t ≡ after s e)
    → OnOk result ((events : List Event) → StandsFor s events → StandsFor t (events ++ e ∷ []))
stands_left s t e may (Ok x) is = λ events h. subst (λ u. StandsFor u (events ++ e ∷ [])) (sym is) (stands-push s events e h may)
stands_left s t e may (Err fault) is = tt
