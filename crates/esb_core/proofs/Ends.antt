-- Which event gives a build its outcome.
use Rattle.std.proofs.Common.{◌≡◌, ℕ, List, [], ◌∷◌, ◌++◌, Option, None, Some, refl, sym, ap, ◌∙◌, append_assoc}
use Rattle.esb_ask.specs.declared.outcome.Outcome.{Outcome}
use Rattle.esb_core.specs.declared.event.Event.{Event}
use Rattle.esb_core.specs.Moves.{Move}
use Rattle.esb_core.specs.History.{moves_in, or_later, outcome_in, outcome}
use Rattle.esb_core.specs.Laws.{settles, IsSettledBy}
use Rattle.esb_core.proofs.Legal.{each}
use Rattle.esb_core.proofs.Lookups.{not_none}
use Rattle.esb_core.proofs.Moving.{moves-longer, outcome-append}
use Rattle.esb_core.proofs.Pushed.{outcome-pushed}

pub outcome-stays : (es fs : List Event) (n : ℕ) (o : Outcome) → outcome es n ≡ Some o → outcome (es ++ fs) n ≡ Some o
outcome-stays es fs n o is =
    let more = moves-longer es fs in
    ap (λ (ms : List Move). outcome_in ms n) more.is ∙ outcome-append (moves_in es) more.rest n ∙ ap (λ (p : Option Outcome). or_later p (outcome_in more.rest n)) is

first-none : (o p : Option Outcome) → or_later o p ≡ None → o ≡ None
first-none None p e = refl
first-none (Some o) p e = e

second-none : (o p : Option Outcome) → or_later o p ≡ None → p ≡ None
second-none None p e = e
second-none (Some o) p e = not_none o e

-- a build that isn't settled was not settled before
pub unsettled-before : (es fs : List Event) (n : ℕ) → outcome (es ++ fs) n ≡ None → outcome es n ≡ None
unsettled-before es fs n none = by (outcome es n) refl
  where
    by : (o : Option Outcome) → outcome es n ≡ o → o ≡ None
    by None is = refl
    by (Some o) is = not_none o (sym (outcome-stays es fs n o is) ∙ none)

pub no-settling : (es first : List Event) (e : Event) (rest : List Event) (n : ℕ) → outcome es n ≡ None → es ≡ first ++ e ∷ rest → settles first n e ≡ None
no-settling es first e rest n none is =
    second-none (outcome first n) (settles first n e)
    (sym (outcome-pushed first n e) ∙ unsettled-before (first ++ e ∷ []) rest n (ap (λ (fs : List Event). outcome fs n) (append_assoc first (e ∷ []) rest ∙ sym is) ∙ none))

extended : (es : List Event) (e : Event) (n : ℕ) (o : Outcome) → IsSettledBy es n o → IsSettledBy (es ++ e ∷ []) n o
extended es e n o h = record {
  before = h.before;
  by = h.by;
  more = h.more ++ e ∷ [];
  at = ap (λ (xs : List Event). xs ++ e ∷ []) h.at ∙ append_assoc h.before (h.by ∷ h.more) (e ∷ []);
  gives = h.gives;
  earliest = h.earliest;
}

pub settled-earliest : (events : List Event) (n : ℕ) (o : Outcome) → outcome events n ≡ Some o → IsSettledBy events n o
settled-earliest events n = each (λ es. (o : Outcome) → outcome es n ≡ Some o → IsSettledBy es n o) (λ o is. not_none o (sym is)) step events
  where
    step : (es : List Event) (e : Event) → ((o : Outcome) → outcome es n ≡ Some o → IsSettledBy es n o) → (o : Outcome) → outcome (es ++ e ∷ []) n ≡ Some o → IsSettledBy (es ++ e ∷ []) n o
    step es e rec o is = by (outcome es n) refl
      where
        by : (p : Option Outcome) → outcome es n ≡ p → IsSettledBy (es ++ e ∷ []) n o
        by None none = record {
          before = es;
          by = e;
          more = [];
          at = refl;
          gives = sym (outcome-pushed es n e ∙ ap (λ (p : Option Outcome). or_later p (settles es n e)) none) ∙ is;
          earliest = λ first d rest at. no-settling es first d rest n none at;
        }
        by (Some p) some =
            let same : Some p ≡ Some o = sym (outcome-stays es (e ∷ []) n p some) ∙ is in
            extended es e n o (rec o (some ∙ same))

-- where no event settles the build, it isn't settled
pub none-settles : (events : List Event) (n : ℕ) → ((first : List Event) (e : Event) (rest : List Event) → events ≡ first ++ e ∷ rest → settles first n e ≡ None) → outcome events n ≡ None
none-settles events n = each (λ es. ((first : List Event) (e : Event) (rest : List Event) → es ≡ first ++ e ∷ rest → settles first n e ≡ None) → outcome es n ≡ None) (λ all. refl) step events
  where
    step : (es : List Event) (d : Event) → (((first : List Event) (e : Event) (rest : List Event) → es ≡ first ++ e ∷ rest → settles first n e ≡ None) → outcome es n ≡ None)
        → ((first : List Event) (e : Event) (rest : List Event) → es ++ d ∷ [] ≡ first ++ e ∷ rest → settles first n e ≡ None) → outcome (es ++ d ∷ []) n ≡ None
    step es d rec all =
        outcome-pushed es n d ∙ ap (λ (p : Option Outcome). or_later p (settles es n d))
        (rec (λ first e rest is. all first e (rest ++ d ∷ []) (ap (λ (xs : List Event). xs ++ d ∷ []) is ∙ append_assoc first (e ∷ rest) (d ∷ []))))
        ∙ all es d [] refl

pub earliest-settled : (events : List Event) (n : ℕ) (o : Outcome) → IsSettledBy events n o → outcome events n ≡ Some o
earliest-settled events n o h =
    ap (λ (es : List Event). outcome es n) (h.at ∙ sym (append_assoc h.before (h.by ∷ []) h.more))
    ∙ outcome-stays (h.before ++ h.by ∷ []) h.more n o
    (outcome-pushed h.before n h.by ∙ ap (λ (p : Option Outcome). or_later p (settles h.before n h.by)) (none-settles h.before n h.earliest) ∙ h.gives)
