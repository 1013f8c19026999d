-- Lists that grow at their end.
use Rattle.std.proofs.Common.{◌≡◌, true, List, [], ◌∷◌, ◌++◌, refl, sym, ap, subst, ◌∙◌, append_assoc, append-nil}
use Rattle.esb_core.specs.State.{start}
use Rattle.esb_core.specs.Steps.{after}
use Rattle.esb_core.specs.Allowed.{allowed}
use Rattle.esb_core.specs.History.{replay, is_legal, is_legal_from}
use Rattle.esb_core.specs.declared.event.Event.{Event}
use Rattle.esb_core.proofs.Claims.{both_parts}
use Rattle.esb_core.proofs.Replays.{replay_from-append, stands-push}

-- what holds of no event, and of one more, holds of each list
module _ (P : List Event → Type 0) (none : P []) where
  module _ (step : (es : List Event) (e : Event) → P es → P (es ++ e ∷ [])) where
    each-from : (es more : List Event) → P es → P (es ++ more)
    each-from es [] p = subst P (sym (append-nil es)) p
    each-from es (e ∷ more) p = subst P (append_assoc es (e ∷ []) more) (each-from (es ++ e ∷ []) more (step es e p))

    pub each : (events : List Event) → P events
    each events = each-from [] events none

  module _ (step : (es : List Event) (e : Event) → is_legal es ≡ true → allowed (replay es) e ≡ true → P es → P (es ++ e ∷ [])) where
    legal-from : (es more : List Event) → is_legal es ≡ true → P es → is_legal_from (replay es) more ≡ true → P (es ++ more)
    legal-from es [] legal p rest = subst P (sym (append-nil es)) p
    legal-from es (e ∷ more) legal p rest =
        let parts = both_parts (allowed (replay es) e) (is_legal_from (after (replay es) e) more) rest in
        let pushed = stands-push (replay es) es e (record { legal = legal; replayed = refl }) parts.0 in
        subst P (append_assoc es (e ∷ []) more)
        (legal-from (es ++ e ∷ []) more pushed.legal (step es e legal parts.0 p) (ap (λ s. is_legal_from s more) (replay_from-append start es (e ∷ [])) ∙ parts.1))

    -- the same of each legal list
    pub each_legal : (events : List Event) → is_legal events ≡ true → P events
    each_legal events legal = legal-from [] events refl none legal
