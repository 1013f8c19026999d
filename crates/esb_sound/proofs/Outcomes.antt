-- A build ends by its link, or is refused memory, canceled, or would be too large.
use Rattle.std.proofs.Common.{◌≡◌, inl, inr, ℕ, ◌<◌, Bool, true, false, cond, ◌&&◌, List, [], ◌∷◌, ◌++◌, length, Option, None, Some, refl, sym, ap, subst, ◌∙◌, append_assoc, append-nil, nat_eq, eq-eqb, eqb-true}
use Rattle.std.proofs.lemmas.Bool.{false≢true, ltb-true}
use Rattle.esb_ask.specs.declared.question.Question.{Question}
use Rattle.esb_ask.specs.declared.answer.Answer.{Answer}
use Rattle.esb_ask.specs.declared.outcome.Outcome.{Outcome}
use Rattle.esb_ask.specs.declared.outcome.Outcome.TheVariants as outcomes
use Rattle.esb_flags.specs.declared.command.Command.TheVariants as command_of
use Rattle.esb_core.specs.declared.event.Event.{Event}
use Rattle.esb_core.specs.declared.event.Event.TheVariants as event
use Rattle.esb_core.specs.State.{build_at, start}
use Rattle.esb_core.specs.Allowed.{allowed, has_begun, may_settle}
use Rattle.esb_core.specs.History.{Begun, active_build, build, builds, is_legal, is_legal_from, moves_in, or_later, outcome, replay, table}
use Rattle.esb_core.specs.Laws.{Verdict, accepted, refused, verdict, canceled_if, large_if, overfull, overopened, settled_by, settles, IsSettledBy}
use Rattle.esb_core.specs.Sizes.{too_large}
use Rattle.esb_core.proofs.Begins.{build-stays}
use Rattle.esb_core.proofs.Claims.{both_parts}
use Rattle.esb_core.proofs.Ends.{earliest-settled, no-settling, none-settles, settled-earliest}
use Rattle.esb_core.proofs.Firsts.{table-stays}
use Rattle.esb_core.proofs.Laws.{reads-legal}
use Rattle.esb_core.proofs.Pushed.{outcome-pushed, table-pushed}
use Rattle.esb_core.proofs.Readings.{same-number}
use Rattle.esb_core.proofs.Replays.{is_legal_from-append}
use Rattle.esb_sound.specs.Each.{Each-from}
use Rattle.esb_sound.specs.Sound.{IsLinked, IsSound, Sound}
use Rattle.esb_sound.specs.Ends.{overgrows, IsOvergrown, EndsRight}
use Rattle.esb_sound.proofs.Builds.{settled_is_not}

-- what holds of each event holds of one
each-at : (P : List Event → Event → Type 0) (so_far xs : List Event) (e : Event) (more : List Event) → Each-from P so_far (xs ++ e ∷ more) → P (so_far ++ xs) e
each-at P so_far [] e more all = subst (λ (es : List Event). P es e) (sym (append-nil so_far)) all.0
each-at P so_far (x ∷ xs) e more all = subst (λ (es : List Event). P es e) (append_assoc so_far (x ∷ []) xs) (each-at P (so_far ++ x ∷ []) xs e more all.1)

pub parts-legal : (before : List Event) (e : Event) (more : List Event) → is_legal (before ++ e ∷ more) ≡ true → (is_legal before ≡ true) × (allowed (replay before) e ≡ true)
parts-legal before e more legal =
    let parts = both_parts (is_legal before) (is_legal_from (replay before) (e ∷ more)) (sym (is_legal_from-append start before (e ∷ more)) ∙ legal) in
    (parts.0, (both_parts (allowed (replay before) e) _ parts.1).0)

pub none-is : {X : Type 0} (o : Outcome) → None ≡ Some o → X
none-is o e = settled_is_not o (sym e)

-- what a command settles is canceled
canceled-is : (n : ℕ) (a : Option ℕ) (o : Outcome) → canceled_if n a ≡ Some o → o ≡ outcomes.Canceled
canceled-is n None o e = none-is o e
canceled-is n (Some m) o e = by (nat_eq m n) e
  where
    by : (t : Bool) → cond t (Some outcomes.Canceled) None ≡ Some o → o ≡ outcomes.Canceled
    by true f = let g : Some outcomes.Canceled ≡ Some o = f in cc
    by false f = none-is o f

module _ (events : List Event) (n : ℕ) (o : Outcome) (legal : is_legal events ≡ true) (sound : Sound events) (is : outcome events n ≡ Some o) where
  h : IsSettledBy events n o
  h = settled-earliest events n o is

  unsettled : outcome h.before n ≡ None
  unsettled = none-settles h.before n h.earliest

  -- the build that a link settles is the same at the end, and so are its answers
  linked : (worker : ℕ) → events ≡ h.before ++ event.Settle worker n o ∷ h.more → IsLinked (build events n).options (table events n) o
  linked worker at =
      subst (λ (t : List (Question × Answer)). IsLinked (build events n).options t o) (sym same_table)
      (subst (λ (b : Begun). IsLinked b.options (table h.before n) o) (sym same_build) (each-at IsSound [] h.before e h.more (subst Sound at sound)))
    where
      e : Event
      e = event.Settle worker n o

      parts : (is_legal h.before ≡ true) × (allowed (replay h.before) e ≡ true)
      parts = parts-legal h.before e h.more (ap is_legal (sym at) ∙ legal)

      begun : n < length (builds h.before)
      begun =
          let lt = ltb-true n (length (replay h.before).builds) (both_parts (has_begun (replay h.before) n) (may_settle (build_at (replay h.before).builds n) worker o) parts.1).0 in
          let number = same-number (replay h.before) (moves_in h.before) (reads-legal h.before parts.0) in
          subst (λ (k : ℕ). n < k) number lt

      same_build : build events n ≡ build h.before n
      same_build = ap (λ (es : List Event). build es n) at ∙ build-stays h.before (e ∷ h.more) n begun

      settled : outcome (h.before ++ e ∷ []) n ≡ Some o
      settled =
          outcome-pushed h.before n e ∙ ap (λ (p : Option Outcome). or_later p (cond (nat_eq n n) (Some o) None)) unsettled
          ∙ ap (λ (t : Bool). cond t (Some o) None) (eq-eqb n n refl)

      same_table : table events n ≡ table h.before n
      same_table =
          ap (λ (es : List Event). table es n) (at ∙ sym (append_assoc h.before (e ∷ []) h.more))
          ∙ table-stays (h.before ++ e ∷ []) h.more n o settled
          ∙ table-pushed h.before n e

  settle : (worker m : ℕ) (p : Outcome) (t : Bool) → nat_eq m n ≡ t → events ≡ h.before ++ event.Settle worker m p ∷ h.more → cond t (Some p) None ≡ Some o → EndsRight events n o
  settle worker m p true same at gives =
      let f : Some p ≡ Some o = gives in
      let said : p ≡ o = cc in
      inl (linked worker (at ∙ ap (λ (k : ℕ). h.before ++ event.Settle worker k p ∷ h.more) (eqb-true m n same) ∙ ap (λ (q : Outcome). h.before ++ event.Settle worker n q ∷ h.more) said))
  settle worker m p false apart at gives = none-is o gives

  large : (e : Event) → events ≡ h.before ++ e ∷ h.more → (t l : Bool) → (overgrows h.before n e ≡ (t && l)) → cond t (large_if l) None ≡ Some o → EndsRight events n o
  large e at true true grows gives =
      let f : Some too_large ≡ Some o = gives in
      let said : too_large ≡ o = cc in
      inr (inr (sym said, record { before = h.before; by = e; more = h.more; at = at; unsettled = unsettled; grows = grows }))
  large e at true false grows gives = none-is o gives
  large e at false l grows gives = none-is o gives

  command : (v : Verdict) → settled_by h.before n v ≡ Some o → o ≡ outcomes.Canceled
  command (refused text) e = none-is o e
  command (accepted (command_of.Build key options)) e = none-is o e
  command (accepted (command_of.Rebuild key)) e = none-is o e
  command (accepted (command_of.Cancel key)) e = canceled-is n (active_build h.before key) o e
  command (accepted (command_of.Dispose key)) e = canceled-is n (active_build h.before key) o e
  command (accepted (command_of.Watch key)) e = none-is o e
  command (accepted (command_of.Serve key port)) e = none-is o e
  command (accepted command_of.Ping) e = none-is o e

  arrives : (v : Verdict) (t : Bool) → cond t (settled_by h.before n v) None ≡ Some o → o ≡ outcomes.Canceled
  arrives v true e = command v e
  arrives v false e = none-is o e

  ends : (e : Event) → events ≡ h.before ++ e ∷ h.more → settles h.before n e ≡ Some o → EndsRight events n o
  ends (event.Settle worker m p) at gives = settle worker m p (nat_eq m n) refl at gives
  ends (event.Record worker m q a) at gives = large (event.Record worker m q a) at (nat_eq m n) (overfull h.before m q a) refl gives
  ends (event.Deliver worker m t p) at gives = large (event.Deliver worker m t p) at (nat_eq m n) (overopened h.before m p) refl gives
  ends (event.Arrive packet) at gives = inr (inl (arrives (verdict h.before packet) packet.request gives))
  ends event.EndOfInput at gives = none-is o gives
  ends (event.Claim role job) at gives = none-is o gives
  ends (event.Written worker m f) at gives = none-is o gives
  ends event.Pop at gives = none-is o gives

  pub ends-right : EndsRight events n o
  ends-right = ends h.by h.at h.gives

-- a build that would be too large ends so
pub overgrown-ends : (events : List Event) (n : ℕ) → IsOvergrown events n → outcome events n ≡ Some too_large
overgrown-ends events n g = earliest-settled events n too_large (record {
  before = g.before;
  by = g.by;
  more = g.more;
  at = g.at;
  gives = gives g.by g.grows;
  earliest = λ first e rest at. no-settling g.before first e rest n g.unsettled at;
})
  where
    both_true : (t l : Bool) → (t && l) ≡ true → cond t (large_if l) None ≡ Some too_large
    both_true true true e = refl
    both_true true false e = absurd (false≢true e)
    both_true false l e = absurd (false≢true e)

    gives : (e : Event) → overgrows g.before n e ≡ true → settles g.before n e ≡ Some too_large
    gives (event.Record worker m q a) e = both_true (nat_eq m n) (overfull g.before m q a) e
    gives (event.Deliver worker m t p) e = both_true (nat_eq m n) (overopened g.before m p) e
    gives (event.Settle worker m p) e = absurd (false≢true e)
    gives (event.Arrive packet) e = absurd (false≢true e)
    gives event.EndOfInput e = absurd (false≢true e)
    gives (event.Claim role job) e = absurd (false≢true e)
    gives (event.Written worker m f) e = absurd (false≢true e)
    gives event.Pop e = absurd (false≢true e)
