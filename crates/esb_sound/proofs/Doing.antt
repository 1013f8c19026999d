-- The job in hand, once one more event came.
use Rattle.std.proofs.Common.{◌≡◌, ℕ, List, [], ◌∷◌, ◌++◌, Option, None, Some, refl, ap, ◌∙◌}
use Rattle.std.proofs.lemmas.List.Sums.{fold-append}
use Rattle.esb_ask.specs.declared.outcome.Outcome.{Outcome}
use Rattle.esb_core.specs.declared.event.Job.{Job}
use Rattle.esb_core.specs.declared.event.Job.TheVariants as jobs
use Rattle.esb_core.specs.declared.event.Event.{Event}
use Rattle.esb_core.specs.History.{outcome}
use Rattle.esb_core.proofs.Ends.{outcome-stays}
use Rattle.esb_sound.specs.Serial.{build_of, doing, doing_after, going_on, in_hand, unless_over}

pub hand-push : (es : List Event) (e : Event) → in_hand (es ++ e ∷ []) ≡ doing_after (in_hand es) e
hand-push es e = fold-append doing_after None es (e ∷ [])

-- what is done is in hand
pub doing-hand : (es : List Event) (j : Job) → doing es ≡ Some j → in_hand es ≡ Some j
doing-hand es j is = by (in_hand es) refl is
  where
    over : (o : Option Outcome) (k : Job) → unless_over o k ≡ Some j → Some k ≡ Some j
    over None k e = e
    over (Some p) (jobs.Scan n t) e = absurd (let f : ⊥ = cc in f)
    over (Some p) (jobs.Link n) e = absurd (let f : ⊥ = cc in f)
    over (Some p) (jobs.Write n) e = e

    by : (h : Option Job) → in_hand es ≡ h → going_on es h ≡ Some j → in_hand es ≡ Some j
    by None hand e = absurd (let f : ⊥ = cc in f)
    by (Some k) hand e = hand ∙ over (outcome es (build_of k)) k e

module _ (es : List Event) (e : Event) where
  -- a job that is given back is done
  pub given-back : doing_after (in_hand es) e ≡ None → doing (es ++ e ∷ []) ≡ None
  given-back is = ap (λ (h : Option Job). going_on (es ++ e ∷ []) h) (hand-push es e ∙ is)

  -- a job goes on while its build isn't settled
  pub goes-on : (j : Job) → doing_after (in_hand es) e ≡ Some j → outcome (es ++ e ∷ []) (build_of j) ≡ None → doing (es ++ e ∷ []) ≡ Some j
  goes-on j is none = ap (λ (h : Option Job). going_on (es ++ e ∷ []) h) (hand-push es e ∙ is) ∙ ap (λ (o : Option Outcome). unless_over o j) none

  -- a worker that has claimed the writing of a build's files does it
  pub writes : (n : ℕ) → doing_after (in_hand es) e ≡ Some (jobs.Write n) → doing (es ++ e ∷ []) ≡ Some (jobs.Write n)
  writes n is = ap (λ (h : Option Job). going_on (es ++ e ∷ []) h) (hand-push es e ∙ is) ∙ by (outcome (es ++ e ∷ []) n)
    where
      by : (o : Option Outcome) → unless_over o (jobs.Write n) ≡ Some (jobs.Write n)
      by None = refl
      by (Some o) = refl

  -- a job that is over once its build is settled
  pub ends : (j : Job) (o : Outcome) → unless_over (Some o) j ≡ None → doing_after (in_hand es) e ≡ Some j → outcome (es ++ e ∷ []) (build_of j) ≡ Some o → doing (es ++ e ∷ []) ≡ None
  ends j o over is some = ap (λ (h : Option Job). going_on (es ++ e ∷ []) h) (hand-push es e ∙ is) ∙ ap (λ (p : Option Outcome). unless_over p j) some ∙ over

  -- where no job is done, an event that takes none up leaves it so
  pub stays-free : doing_after (in_hand es) e ≡ in_hand es → doing es ≡ None → doing (es ++ e ∷ []) ≡ None
  stays-free same free = ap (λ (h : Option Job). going_on (es ++ e ∷ []) h) (hand-push es e ∙ same) ∙ by (in_hand es) free
    where
      over : (j : Job) (o : Option Outcome) → outcome es (build_of j) ≡ o → unless_over o j ≡ None → going_on (es ++ e ∷ []) (Some j) ≡ None
      over j None is none = absurd (let h : Some j ≡ None = none in let f : ⊥ = cc in f)
      over j (Some p) is none = ap (λ (o : Option Outcome). unless_over o j) (outcome-stays es (e ∷ []) (build_of j) p is) ∙ none

      by : (h : Option Job) → going_on es h ≡ None → going_on (es ++ e ∷ []) h ≡ None
      by None none = refl
      by (Some j) none = over j (outcome es (build_of j)) refl none
