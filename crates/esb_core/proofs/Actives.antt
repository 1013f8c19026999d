-- Which contexts there are, and which builds are active.
use Rattle.std.proofs.Common.{◌≡◌, ℕ, Bool, true, false, cond, ◌||◌, List, [], ◌∷◌, ◌++◌, Option, None, Some, is_none, Ok, Err, refl, sym, ap, subst, ◌∙◌, arith, nat_eq}
use Rattle.std.specs.List.{fold, list_any}
use Rattle.std.proofs.lemmas.Bool.{false≢true}
use Rattle.std.proofs.lemmas.List.Folds.{list_any-append}
use Rattle.std.proofs.lemmas.List.Sums.{fold-append}
use Rattle.std.specs.Prelude.{IsSome}
use Rattle.std.specs.Map.{lookup}
use Rattle.esb_wire.specs.declared.value.Packet.{Packet}
use Rattle.esb_flags.specs.declared.options.Options.{Options}
use Rattle.esb_flags.specs.declared.command.Command.{Command}
use Rattle.esb_flags.specs.declared.command.Command.TheVariants as command
use Rattle.esb_flags.specs.Fields.{Answer as Asked}
use Rattle.esb_flags.specs.Command.{asked}
use Rattle.esb_core.specs.declared.event.Event.{Event}
use Rattle.esb_core.specs.declared.event.Event.TheVariants as event
use Rattle.esb_core.specs.Moves.{Move, disposed, effect, key_of, refusal, refused_or, requested, unknown}
use Rattle.esb_core.specs.Steps.{without}
use Rattle.esb_core.specs.History.{Begun, is_settled_in, met_in, moves_in, retired_at, retired_in, contexts, context, active_build, closed, outcome, is_legal, replay}
use Rattle.esb_core.specs.Laws.{Verdict, refused, accepted, verdict_by, verdict_of, verdict, contexts_by, is_settled_build, IsActiveBuild}
use Rattle.esb_core.proofs.Laws.{read-legal}
use Rattle.esb_core.proofs.Lookups.{self, without-same}
use Rattle.esb_core.proofs.Moving.{moves-push}
use Rattle.esb_core.proofs.Pushed.{contexts-pushed, found}
use Rattle.esb_core.proofs.Readings.{build-read, same-number}

or-true : (b : Bool) → (b || true) ≡ true
or-true true = refl
or-true false = refl

-- ---- active builds

pub active-is : (events : List Event) (key n : ℕ) → is_legal events ≡ true → active_build events key ≡ Some n → IsActiveBuild events key n
active-is events key n legal is =
    let r = read-legal events legal in
    let a = r.ordered.active key n (ap (λ (xs : List (ℕ × ℕ)). lookup (nat_eq key) xs) r.reads.active ∙ is) in
    let number = same-number (replay events) (moves_in events) r.reads in
    let its = build-read (replay events) (moves_in events) n r.reads in
    record {
      begun = let lt = a.begun in omega (arith, lt, number);
      its_key = ap (λ (b : Begun). b.key) its ∙ a.its_key;
      unclosed = sym (r.reads.closes n) ∙ a.unclosed;
    }

pub is-active : (events : List Event) (key n : ℕ) → is_legal events ≡ true → IsActiveBuild events key n → active_build events key ≡ Some n
is-active events key n legal a =
    let r = read-legal events legal in
    let number = same-number (replay events) (moves_in events) r.reads in
    let its = build-read (replay events) (moves_in events) n r.reads in
    let lt = a.begun in
    sym (ap (λ (xs : List (ℕ × ℕ)). lookup (nat_eq key) xs) r.reads.active)
    ∙ ap (λ (k : ℕ). lookup (nat_eq k) (replay events).active) (sym (sym (ap (λ (b : Begun). b.key) its) ∙ a.its_key))
    ∙ r.ordered.known n (omega (arith, lt, number)) (r.reads.closes n ∙ a.unclosed)

-- a build that isn't settled isn't closed
pub unclosed-still : (events : List Event) (n : ℕ) → is_legal events ≡ true → outcome events n ≡ None → closed events n ≡ false
unclosed-still events n legal none =
    let r = read-legal events legal in
    let k = r.ordered.sane n in
    sym (r.reads.closes n) ∙ k.open_still (r.reads.outcomes n ∙ none)

-- a context that has an active build is there
pub active-inside : (events : List Event) (key n : ℕ) → is_legal events ≡ true → active_build events key ≡ Some n → IsSome (context events key)
active-inside events key n legal is =
    let r = read-legal events legal in
    subst (λ (xs : List (ℕ × Options)). IsSome (lookup (nat_eq key) xs)) r.reads.contexts (r.ordered.inside key n (ap (λ (xs : List (ℕ × ℕ)). lookup (nat_eq key) xs) r.reads.active ∙ is))

-- ---- what a request makes of contexts

module _ (es : List Event) (p : Packet) (is : p.request ≡ true) where
  request-pushed : (v : Verdict) → verdict es p ≡ v → contexts (es ++ event.Arrive p ∷ []) ≡ contexts_by es v
  request-pushed v what =
      contexts-pushed es (event.Arrive p) ∙ ap (λ t. cond t (contexts_by es (verdict es p)) (contexts es)) is ∙ ap (λ w. contexts_by es w) what

  -- a refused request leaves them
  pub refused-leaves : (text : List ℕ) → verdict es p ≡ refused text → contexts (es ++ event.Arrive p ∷ []) ≡ contexts es
  refused-leaves text what = request-pushed (refused text) what

  -- a context that is disposed is gone, unless its build is settled and not closed
  pub disposed-gone : (key : ℕ) → verdict es p ≡ accepted (command.Dispose key) → is_settled_build es (active_build es key) ≡ false → context (es ++ event.Arrive p ∷ []) key ≡ None
  disposed-gone key what unsettled =
      ap (λ (xs : List (ℕ × Options)). lookup (nat_eq key) xs)
      (request-pushed (accepted (command.Dispose key)) what ∙ ap (λ (t : Bool). cond t (contexts es) (without key (contexts es))) unsettled)
      ∙ without-same key (contexts es)

  dispose-is : (key : ℕ) (a : Asked Command) → verdict_of es a ≡ accepted (command.Dispose key) → requested (found es) p.id a ≡ disposed (found es key) p.id key
  dispose-is key (Err text) e = absurd (let f : ⊥ = cc in f)
  dispose-is key (Ok c) e = by (refusal (found es (key_of c)) c) e
    where
      by : (o : Option (List ℕ)) → verdict_by c o ≡ accepted (command.Dispose key) → refused_or (found es (key_of c)) p.id c o ≡ disposed (found es key) p.id key
      by (Some text) e = absurd (let f : ⊥ = cc in f)
      by None e = let same : c ≡ command.Dispose key = cc in ap (λ (d : Command). effect (found es (key_of d)) p.id d) same

  dispose-moves : (key : ℕ) → verdict es p ≡ accepted (command.Dispose key) → moves_in (es ++ event.Arrive p ∷ []) ≡ moves_in es ++ disposed (found es key) p.id key
  dispose-moves key what =
      moves-push es (event.Arrive p) ∙ ap (λ (t : Bool). moves_in es ++ cond t (requested (found es) p.id (asked p.value)) []) is
      ∙ ap (λ (ns : List Move). moves_in es ++ ns) (dispose-is key (asked p.value) what)

  -- one that is disposed later counts as disposed
  retired-counts : (key : ℕ) (o : Option ℕ) → is_settled_in (moves_in es) o ≡ true
      → list_any (nat_eq key) (fold retired_at (retired_in (moves_in es)) (disposed (record (found es key) { active = o; settled = is_settled_in (moves_in es) o }) p.id key)) ≡ true
  retired-counts key None settled = absurd (false≢true settled)
  retired-counts key (Some n) settled =
      ap (λ (t : Bool). list_any (nat_eq key) (fold retired_at (retired_in (moves_in es)) (disposed (record (found es key) { active = Some n; settled = t }) p.id key))) settled
      ∙ list_any-append (nat_eq key) (retired_in (moves_in es)) (key ∷ []) ∙ ap (λ (t : Bool). list_any (nat_eq key) (retired_in (moves_in es)) || (t || false)) (self key)
      ∙ or-true (list_any (nat_eq key) (retired_in (moves_in es)))

  -- no request knows a context that is disposed
  pub disposed-unknown : (key : ℕ) → verdict es p ≡ accepted (command.Dispose key) → (unknown (met_in (moves_in (es ++ event.Arrive p ∷ [])) key)).0 ≡ true
  disposed-unknown key what = by (is_settled_in (moves_in es) (active_build es key)) refl
    where
      settled-is : (o : Option ℕ) → is_settled_build es o ≡ is_settled_in (moves_in es) o
      settled-is None = refl
      settled-is (Some n) = refl

      by : (t : Bool) → is_settled_in (moves_in es) (active_build es key) ≡ t → (is_none (context (es ++ event.Arrive p ∷ []) key) || list_any (nat_eq key) (retired_in (moves_in (es ++ event.Arrive p ∷ [])))) ≡ true
      by true settled =
          ap (λ (t : Bool). is_none (context (es ++ event.Arrive p ∷ []) key) || t)
          (ap (λ (ns : List Move). list_any (nat_eq key) (retired_in ns)) (dispose-moves key what)
          ∙ ap (λ (ks : List ℕ). list_any (nat_eq key) ks) (fold-append retired_at [] (moves_in es) (disposed (found es key) p.id key))
          ∙ retired-counts key (active_build es key) settled)
          ∙ or-true (is_none (context (es ++ event.Arrive p ∷ []) key))
      by false settled =
          ap (λ (o : Option Options). is_none o || list_any (nat_eq key) (retired_in (moves_in (es ++ event.Arrive p ∷ [])))) (disposed-gone key what (settled-is (active_build es key) ∙ settled))

-- ---- why a request is refused

-- the first reasons of a refusal, as facts of the list
pub verdict-is : (es : List Event) (p : Packet) (c : Command) → asked p.value ≡ Ok c → verdict es p ≡ verdict_by c (refusal (met_in (moves_in es) (key_of c)) c)
verdict-is es p c what = ap (λ (a : Asked Command). verdict_of es a) what
