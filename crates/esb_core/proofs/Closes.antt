-- Which event closes a build, and which says what files of it were not put.
use Rattle.std.proofs.Common.{◌≡◌, ℕ, Bool, true, false, cond, not, ◌&&◌, ◌||◌, List, [], ◌∷◌, ◌++◌, Option, None, Some, is_none, is_some, refl, sym, ap, ◌∙◌, nat_eq}
use Rattle.std.specs.List.{fold, list_any}
use Rattle.std.proofs.Math.Bool.{or-false}
use Rattle.std.proofs.lemmas.List.Folds.{list_any-append}
use Rattle.std.proofs.lemmas.List.Sums.{fold-append}
use Rattle.esb_wire.specs.declared.value.Packet.{Packet}
use Rattle.esb_flags.specs.declared.command.Command.{Command}
use Rattle.esb_flags.specs.declared.command.Command.TheVariants as command
use Rattle.esb_ask.specs.declared.task.Task.{Task}
use Rattle.esb_ask.specs.declared.outcome.OutFile.{OutFile}
use Rattle.esb_ask.specs.declared.outcome.Failures.{Failures}
use Rattle.esb_ask.specs.declared.outcome.Outcome.{Outcome}
use Rattle.esb_ask.specs.declared.outcome.Outcome.TheVariants as outcome_of
use Rattle.esb_core.specs.declared.event.Event.{Event}
use Rattle.esb_core.specs.declared.event.Event.TheVariants as event
use Rattle.esb_core.specs.Moves.{Move, make, settle, close, key_of, options_of, effect, done, begun as begun_moves, joined_or_begun, closed as closed_moves, canceled, canceled_or, disposed, added_or, kept_unless, keep, opens, opened_unless, settled_unless}
use Rattle.esb_core.specs.Sizes.{named, too_large}
use Rattle.esb_core.specs.History.{is_settled_in, closed_in, failed_at, outcome_in, standing_in, moves_after, active_build, context, build, outcome, closed, failed}
use Rattle.esb_core.specs.Laws.{accepted, verdict, closed_if, closed_by, closes, fails, is_to_write, overfull, overopened}
use Rattle.esb_core.specs.Work.{writes_it}
use Rattle.esb_core.proofs.Legal.{each}
use Rattle.esb_core.proofs.Moving.{closed-append, moves-push}
use Rattle.esb_core.proofs.Pushed.{ms, found, by_closed, by_stays, by_stays_then, by_canceled, by_disposed, by_kept, by_opened, by_settled, by_written, by_verdict, by_packet}

and-false : (b : Bool) → (b && false) ≡ false
and-false true = refl
and-false false = refl

and-true : (b : Bool) → (b && true) ≡ b
and-true true = refl
and-true false = refl

cond-and : (t b : Bool) → cond t b false ≡ (t && b)
cond-and true b = refl
cond-and false b = refl

module _ (before : List Event) (n : ℕ) where
  abbrev Closes : List Move → Bool
  Closes ns = closed_in ns n

  -- a build that is closed by the first of some moves
  own : (m : ℕ) (rest : Bool) → rest ≡ false → (nat_eq m n || rest) ≡ (nat_eq m n && true)
  own m rest none = ap (λ t. nat_eq m n || t) none ∙ or-false (nat_eq m n) ∙ sym (and-true (nat_eq m n))

  closes-canceled : (id key : ℕ) (stays : Bool) (o : Option ℕ) (more : List Move) → Closes more ≡ false
      → Closes (canceled (record (found before key) { settled = is_settled_in (ms before) o }) id key stays o more) ≡ closed_if before n o
  closes-canceled id key stays None more none = none
  closes-canceled id key stays (Some m) more none = by (outcome before m)
    where
      by : (o : Option Outcome) → Closes (canceled_or (is_some o) id key stays m more) ≡ (nat_eq m n && is_none o)
      by (Some p) = sym (and-false (nat_eq m n))
      by None = by_stays_then (λ ns. Closes ns ≡ (nat_eq m n && true)) key stays m outcome_of.Canceled more (own m (Closes more) none) (own m (Closes more) none)

  closes-disposed : (id key : ℕ) (o : Option ℕ) → Closes (disposed (record (found before key) { active = o; settled = is_settled_in (ms before) o }) id key) ≡ closed_if before n o
  closes-disposed id key None = refl
  closes-disposed id key (Some m) = by (outcome before m)
    where
      by : (o : Option Outcome) → Closes (disposed (record (found before key) { active = Some m; settled = is_some o }) id key) ≡ (nat_eq m n && is_none o)
      by (Some p) = sym (and-false (nat_eq m n))
      by None = own m false refl

  closes-moves : (id : ℕ) (c : Command) → Closes (effect (found before (key_of c)) id c) ≡ closed_by before n (accepted c)
  closes-moves id (command.Build key options) = by options.context
    where
      by : (stays : Bool) → Closes (make key options ∷ cond stays (done id) (begun_moves (found before key) id key options)) ≡ false
      by true = refl
      by false = refl
  closes-moves id (command.Rebuild key) = by (active_build before key)
    where
      by : (o : Option ℕ) → Closes (joined_or_begun (found before key) id key o) ≡ false
      by (Some m) = refl
      by None = refl
  closes-moves id (command.Cancel key) = closes-canceled id key (options_of (context before key)).context (active_build before key) (done id) refl
  closes-moves id (command.Dispose key) = closes-disposed id key (active_build before key)
  closes-moves id (command.Watch key) = refl
  closes-moves id (command.Serve key port) = refl
  closes-moves id command.Ping = refl

  -- work that makes a build too large closes it
  closes-added : (m : ℕ) (adds : List Move) → Closes adds ≡ false → (large : Bool) → Closes (added_or (standing_in (ms before) m) m large adds) ≡ (nat_eq m n && large)
  closes-added m adds none true =
      by_stays (λ ns. Closes ns ≡ (nat_eq m n && true)) (standing_in (ms before) m).key (standing_in (ms before) m).stays m too_large (own m false refl) (own m false refl)
  closes-added m adds none false = none ∙ sym (and-false (nat_eq m n))

  closes-opens : (m : ℕ) (t : Option Task) → Closes (opens m t) ≡ false
  closes-opens m None = refl
  closes-opens m (Some t) = refl

  closes-settled : (m : ℕ) (o : Outcome) (p : Option Outcome) → Closes (settled_unless (standing_in (ms before) m) m o p) ≡ (nat_eq m n && (is_none p && not (is_to_write (build before m) o)))
  closes-settled m o (Some p) = sym (and-false (nat_eq m n))
  closes-settled m (outcome_of.Files files) None = by (build before m).options.write (standing_in (ms before) m).stays
    where
      by : (writes stays : Bool) → Closes (settle m (outcome_of.Files files) ∷ cond writes [] (closed_moves (standing_in (ms before) m).key stays m)) ≡ (nat_eq m n && not writes)
      by true stays = sym (and-false (nat_eq m n))
      by false true = own m false refl
      by false false = own m false refl
  closes-settled m (outcome_of.Errors messages) None =
      by_stays (λ ns. Closes ns ≡ (nat_eq m n && true)) (standing_in (ms before) m).key (standing_in (ms before) m).stays m (outcome_of.Errors messages) (own m false refl) (own m false refl)
  closes-settled m outcome_of.Canceled None =
      by_stays (λ ns. Closes ns ≡ (nat_eq m n && true)) (standing_in (ms before) m).key (standing_in (ms before) m).stays m outcome_of.Canceled (own m false refl) (own m false refl)
  closes-settled m outcome_of.Memory None =
      by_stays (λ ns. Closes ns ≡ (nat_eq m n && true)) (standing_in (ms before) m).key (standing_in (ms before) m).stays m outcome_of.Memory (own m false refl) (own m false refl)

  closes-event : (e : Event) → Closes (moves_after (ms before) e) ≡ closes before n e
  closes-event (event.Arrive p) =
      by_packet before Closes (closed_by before n) false refl p (λ a. by_verdict before Closes (closed_by before n) p.id (λ text. refl) (λ c is. closes-moves p.id c) a)
      ∙ cond-and p.request (closed_by before n (verdict before p))
  closes-event (event.Record worker m q a) = by (outcome_in (ms before) m)
    where
      by : (o : Option Outcome) → Closes (kept_unless (standing_in (ms before) m) m q a o) ≡ (nat_eq m n && (is_none o && overfull before m q a))
      by None = closes-added m (keep m q a ∷ []) refl (overfull before m q a)
      by (Some o) = sym (and-false (nat_eq m n))
  closes-event (event.Deliver worker m t p) = by (outcome_in (ms before) m)
    where
      by : (o : Option Outcome) → Closes (opened_unless (standing_in (ms before) m) m (named p) o) ≡ (nat_eq m n && (is_none o && overopened before m p))
      by None = closes-added m (opens m (named p)) (closes-opens m (named p)) (overopened before m p)
      by (Some o) = sym (and-false (nat_eq m n))
  closes-event (event.Settle worker m o) = closes-settled m o (outcome_in (ms before) m)
  closes-event (event.Written worker m f) = by_written (λ ns. Closes ns ≡ nat_eq m n) (standing_in (ms before) m) m f (or-false (nat_eq m n)) (or-false (nat_eq m n))
  closes-event event.Pop = refl
  closes-event event.EndOfInput = refl
  closes-event (event.Claim role job) = refl

  pub closed-pushed : (e : Event) → closed (before ++ e ∷ []) n ≡ (closed before n || closes before n e)
  closed-pushed e = ap Closes (moves-push before e) ∙ closed-append (ms before) (moves_after (ms before) e) n ∙ ap (λ t. closed before n || t) (closes-event e)

  -- ---- files that were not put

  module _ (so_far : Option Failures) where
    abbrev Fails : List Move → Option Failures
    Fails ns = fold (failed_at n) so_far ns

    fails-moves : (id : ℕ) (c : Command) → Fails (effect (found before (key_of c)) id c) ≡ so_far
    fails-moves id (command.Build key options) = by options.context
      where
        by : (stays : Bool) → Fails (make key options ∷ cond stays (done id) (begun_moves (found before key) id key options)) ≡ so_far
        by true = refl
        by false = refl
    fails-moves id (command.Rebuild key) = by (active_build before key)
      where
        by : (o : Option ℕ) → Fails (joined_or_begun (found before key) id key o) ≡ so_far
        by (Some m) = refl
        by None = refl
    fails-moves id (command.Cancel key) = by_canceled (λ ns. Fails ns ≡ so_far) (found before key) id key (options_of (context before key)).context (active_build before key) (done id) refl (λ m. refl) (λ m. refl) (λ m. refl)
    fails-moves id (command.Dispose key) = by_disposed (λ ns. Fails ns ≡ so_far) (found before key) id key refl (λ m. refl) (λ m. refl) (λ m. refl) refl (λ m. refl) (λ m. refl) (λ m. refl)
    fails-moves id (command.Watch key) = refl
    fails-moves id (command.Serve key port) = refl
    fails-moves id command.Ping = refl

    fails-event : (e : Event) → Fails (moves_after (ms before) e) ≡ fails n so_far e
    fails-event (event.Arrive p) = by_packet before Fails (λ v. so_far) so_far refl p (λ a. by_verdict before Fails (λ v. so_far) p.id (λ text. refl) (λ c is. fails-moves p.id c) a) ∙ same p.request
      where
        same : (t : Bool) → cond t so_far so_far ≡ so_far
        same true = refl
        same false = refl
    fails-event (event.Record worker m q a) = by_kept (λ ns. Fails ns ≡ so_far) (standing_in (ms before) m) m q a (outcome_in (ms before) m) refl refl refl refl
    fails-event (event.Settle worker m o) = by_settled (λ ns. Fails ns ≡ so_far) (standing_in (ms before) m) m o (outcome_in (ms before) m) refl refl refl (λ e. refl)
    fails-event (event.Written worker m f) = by_written (λ ns. Fails ns ≡ cond (nat_eq m n) (Some f) so_far) (standing_in (ms before) m) m f refl refl
    fails-event event.Pop = refl
    fails-event event.EndOfInput = refl
    fails-event (event.Claim role job) = refl
    fails-event (event.Deliver worker m t p) = by_opened (λ ns. Fails ns ≡ so_far) (standing_in (ms before) m) m (named p) (outcome_in (ms before) m) refl refl (λ u. refl) refl

  pub failed-pushed : (e : Event) → failed (before ++ e ∷ []) n ≡ fails n (failed before n) e
  failed-pushed e = ap (λ ns. fold (failed_at n) None ns) (moves-push before e) ∙ fold-append (failed_at n) None (ms before) (moves_after (ms before) e) ∙ fails-event (failed before n) e

-- the files of a build are put by the event that says so
pub written-is : (n : ℕ) (events : List Event) → is_some (failed events n) ≡ list_any (writes_it n) events
written-is n events = each (λ es. is_some (failed es n) ≡ list_any (writes_it n) es) refl step events
  where
    now : (f : Option Failures) (e : Event) → is_some (fails n f e) ≡ (is_some f || writes_it n e)
    now f (event.Written worker m g) = by (nat_eq m n) f
      where
        by : (t : Bool) (h : Option Failures) → is_some (cond t (Some g) h) ≡ (is_some h || t)
        by true None = refl
        by true (Some h) = refl
        by false None = refl
        by false (Some h) = refl
    now f (event.Arrive p) = sym (or-false (is_some f))
    now f (event.Record worker m q a) = sym (or-false (is_some f))
    now f (event.Settle worker m o) = sym (or-false (is_some f))
    now f event.Pop = sym (or-false (is_some f))
    now f event.EndOfInput = sym (or-false (is_some f))
    now f (event.Claim role job) = sym (or-false (is_some f))
    now f (event.Deliver worker m t p) = sym (or-false (is_some f))

    step : (es : List Event) (e : Event) → is_some (failed es n) ≡ list_any (writes_it n) es → is_some (failed (es ++ e ∷ []) n) ≡ list_any (writes_it n) (es ++ e ∷ [])
    step es e rec =
        ap is_some (failed-pushed es n e) ∙ now (failed es n) e ∙ ap (λ t. t || writes_it n e) rec
        ∙ ap (λ t. list_any (writes_it n) es || t) (sym (or-false (writes_it n e))) ∙ sym (list_any-append (writes_it n) es (e ∷ []))
