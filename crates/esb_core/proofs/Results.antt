-- What each request gets.
use Rattle.std.proofs.Common.{◌≡◌, ℕ, ◌+◌, ◌<◌, ◌≤◌, Bool, true, false, cond, not, ◌&&◌, ◌||◌, List, [], ◌∷◌, ◌++◌, length, Option, None, Some, is_none, is_some, refl, sym, ap, ◌∙◌, append-nil, arith, nat_eq, eqb-true, nat_lt, ltb-true, take}
use Rattle.std.specs.Prelude.{filter, codes, count_by}
use Rattle.std.specs.Map.{lookup}
use Rattle.std.proofs.Math.Seq.{take-append_seam}
use Rattle.std.proofs.lemmas.Bool.{false≢true}
use Rattle.std.proofs.lemmas.List.Elements.{filter-append}
use Rattle.std.proofs.lemmas.List.Sums.{sum_by-append}
use Rattle.esb_flags.specs.declared.command.Command.{Command}
use Rattle.esb_flags.specs.declared.command.Command.TheVariants as command
use Rattle.esb_flags.specs.Fields.{Answer as Asked}
use Rattle.esb_flags.specs.Command.{asked}
use Rattle.esb_ask.specs.declared.question.Question.{Question}
use Rattle.esb_ask.specs.declared.answer.Answer.{Answer}
use Rattle.esb_ask.specs.declared.outcome.Outcome.{Outcome}
use Rattle.esb_ask.specs.declared.outcome.Outcome.TheVariants as outcome_of
use Rattle.esb_core.specs.declared.out.Out.{Out}
use Rattle.esb_core.specs.declared.out.Out.TheVariants as out
use Rattle.esb_core.specs.declared.out.Body.TheVariants as body
use Rattle.esb_core.specs.declared.event.Event.{Event}
use Rattle.esb_core.specs.declared.event.Event.TheVariants as event
use Rattle.esb_core.specs.Moves.{Move, make, settle as settle_move, write, key_of, options_of, first_of, unknown, passing, refusal, effect, requested, done, begun as begun_moves, joined_or_begun, canceled, disposed}
use Rattle.esb_core.specs.Sizes.{named, too_large}
use Rattle.esb_core.specs.Allowed.{allowed}
use Rattle.esb_core.specs.Steps.{answer_for, results}
use Rattle.esb_core.specs.History.{gathered_from, owes, outcome_in, standing_in, waiting_in, is_settled_in, moves_after, moves_in, context, active_build, builds, build, waiting, outcome, closed, all_owed, is_legal, replay}
use Rattle.esb_core.specs.Laws.{Verdict, refused, accepted, verdict, if_same, joined_build, waits_by, waits, waits_closed, closed_if, closed_by, closes, is_to_write, overfull, overopened, empty, stopped, owed_by, results_unless, results_if, owes_at, is_result, results_of, results_once, is_own, is_request, is_join}
use Rattle.esb_core.proofs.Actives.{unclosed-still}
use Rattle.esb_core.proofs.Closes.{closed-pushed}
use Rattle.esb_core.proofs.Laws.{read-legal}
use Rattle.esb_core.proofs.Legal.{each, each_legal}
use Rattle.esb_core.proofs.Lookups.{not_none}
use Rattle.esb_core.proofs.Moving.{moves-longer, gathered_from-append, moves-push, count-push}
use Rattle.esb_core.proofs.Orders.{event-fits}
use Rattle.esb_core.proofs.Pushed.{found, by_verdict, by_canceled, by_kept, by_opened, by_settled, by_written, Owes, owes-event, waiting-pushed, all_owed-pushed}
use Rattle.esb_core.proofs.Readings.{same-number}
use Rattle.esb_core.proofs.Grown.{past-end}

-- what is owed goes on at its end
pub owed-grows : (es fs : List Event) → take (length (all_owed es)) (all_owed (es ++ fs)) ≡ all_owed es
owed-grows es fs =
    let more = moves-longer es fs in
    ap (λ (os : List Out). take (length (all_owed es)) os) (ap (λ (ms : List Move). gathered_from owes [] ms) more.is ∙ gathered_from-append owes [] (moves_in es) more.rest)
    ∙ take-append_seam (all_owed es) (gathered_from owes (moves_in es) more.rest)

-- ---- the replies to the requests that wait for a build

and-false : (b : Bool) → (b && false) ≡ false
and-false true = refl
and-false false = refl

and-true : (b : Bool) → (b && true) ≡ b
and-true true = refl
and-true false = refl

module _ (n : ℕ) where
  is_its : (m : ℕ) (w : ℕ × Bool) → is_result n (answer_for m w) ≡ nat_eq m n
  is_its m w = by w.1
    where
      by : (b : Bool) → is_result n (out.Reply w.0 (cond b (body.Result m) (body.Closed m))) ≡ nat_eq m n
      by true = refl
      by false = refl

  filter-results : (m : ℕ) (ws : List (ℕ × Bool)) (t : Bool) → nat_eq m n ≡ t → filter (is_result n) (results m ws) ≡ cond t (results m ws) []
  filter-results m [] true is = refl
  filter-results m [] false is = refl
  filter-results m (w ∷ ws) true is =
      ap (λ t. cond t (answer_for m w ∷ filter (is_result n) (results m ws)) (filter (is_result n) (results m ws))) (is_its m w ∙ is) ∙ ap (λ (os : List Out). answer_for m w ∷ os) (filter-results m ws true is)
  filter-results m (w ∷ ws) false is =
      ap (λ t. cond t (answer_for m w ∷ filter (is_result n) (results m ws)) (filter (is_result n) (results m ws))) (is_its m w ∙ is) ∙ filter-results m ws false is

  -- an event that neither joins nor closes the build owes none of its replies
  calm : (ws : List (ℕ × Bool)) (c : Bool) → results_once n ws c ++ [] ≡ results_once n (ws ++ []) (c || false)
  calm ws false = refl
  calm ws true = append-nil (results n ws) ∙ ap (λ (vs : List (ℕ × Bool)). results n vs) (sym (append-nil ws))

  joins : (ws more : List (ℕ × Bool)) (c : Bool) → c ≡ false → results_once n ws c ++ [] ≡ results_once n (ws ++ more) (c || false)
  joins ws more false is = refl
  joins ws more true is = absurd (false≢true (sym is))

  ends : (ws : List (ℕ × Bool)) (c : Bool) → c ≡ false → results_once n ws c ++ results n ws ≡ results_once n (ws ++ []) (c || true)
  ends ws false is = ap (λ (vs : List (ℕ × Bool)). results n vs) (sym (append-nil ws))
  ends ws true is = absurd (false≢true (sym is))

  module _ (es : List Event) (legal : is_legal es ≡ true) where
    -- a build that hasn't begun isn't closed
    next-unclosed : nat_eq (length (builds es)) n ≡ true → closed es n ≡ false
    next-unclosed is =
        let r = read-legal es legal in
        let number = same-number (replay es) (moves_in es) r.reads in
        let last = eqb-true (length (builds es)) n is in
        sym (r.reads.closes n) ∙ past-end (replay es).builds n (λ b. b.closed) (omega (arith, number, last))

    active-unclosed : (key m : ℕ) → active_build es key ≡ Some m → closed es m ≡ false
    active-unclosed key m is =
        let r = read-legal es legal in
        let a = r.ordered.active key m (ap (λ (xs : List (ℕ × ℕ)). lookup (nat_eq key) xs) r.reads.active ∙ is) in
        sym (r.reads.closes m) ∙ a.unclosed

    abbrev Owed : List Out → List (ℕ × Bool) → Bool → Type 0
    Owed owing more closing = results_once n (waiting es n) (closed es n) ++ filter (is_result n) owing ≡ results_once n (waiting es n ++ more) (closed es n || closing)

    none-owed : (t : Bool) → t ≡ false → Owed [] [] t
    none-owed t is = calm (waiting es n) (closed es n) ∙ ap (λ c. results_once n (waiting es n ++ []) (closed es n || c)) (sym is)

    waits-on : (m id : ℕ) (result : Bool) → (nat_eq m n ≡ true → closed es n ≡ false) → Owed [] (if_same m n id result) false
    waits-on m id result unclosed = by (nat_eq m n) refl
      where
        by : (t : Bool) → nat_eq m n ≡ t → Owed [] (cond t ((id, result) ∷ []) []) false
        by true is = joins (waiting es n) ((id, result) ∷ []) (closed es n) (unclosed is)
        by false is = calm (waiting es n) (closed es n)

    same-closed : (m : ℕ) → nat_eq m n ≡ true → closed es m ≡ false → closed es n ≡ false
    same-closed m is unclosed = ap (λ (k : ℕ). closed es k) (sym (eqb-true m n is)) ∙ unclosed

    -- the replies of a build that is closed now
    closes-now : (m : ℕ) (more : List Out) (t : Bool) → nat_eq m n ≡ t → closed es m ≡ false → filter (is_result n) more ≡ [] → Owed (results m (waiting es m) ++ more) [] t
    closes-now m more true is unclosed none =
        let same = eqb-true m n is in
        ap (λ (os : List Out). results_once n (waiting es n) (closed es n) ++ os)
        (filter-append (is_result n) (results m (waiting es m)) more ∙ ap (λ (os : List Out). filter (is_result n) (results m (waiting es m)) ++ os) none
        ∙ append-nil (filter (is_result n) (results m (waiting es m))) ∙ filter-results m (waiting es m) true is ∙ ap (λ (k : ℕ). results k (waiting es k)) same)
        ∙ ends (waiting es n) (closed es n) (same-closed m is unclosed)
    closes-now m more false is unclosed none =
        ap (λ (os : List Out). results_once n (waiting es n) (closed es n) ++ os)
        (filter-append (is_result n) (results m (waiting es m)) more ∙ ap (λ (os : List Out). filter (is_result n) (results m (waiting es m)) ++ os) none
        ∙ append-nil (filter (is_result n) (results m (waiting es m))) ∙ filter-results m (waiting es m) false is)
        ∙ calm (waiting es n) (closed es n)

    closes-only : (m : ℕ) (t : Bool) → nat_eq m n ≡ t → closed es m ≡ false → Owed (results m (waiting es m)) [] t
    closes-only m t is unclosed =
        ap (λ (os : List Out). results_once n (waiting es n) (closed es n) ++ filter (is_result n) os) (sym (append-nil (results m (waiting es m)))) ∙ closes-now m [] t is unclosed refl

    cancels : (key id : ℕ) (o : Option ℕ) → active_build es key ≡ o → Owed (stopped es id o) (waits_closed es n id o) (closed_if es n o)
    cancels key id None is = calm (waiting es n) (closed es n)
    cancels key id (Some m) is = by (outcome es m)
      where
        by : (o : Option Outcome) → Owed (cond (is_some o) [] (results m (waiting es m) ++ empty id)) (cond (is_some o) (if_same m n id false) []) (nat_eq m n && is_none o)
        by (Some p) =
            waits-on m id false (λ same. same-closed m same (active-unclosed key m is)) ∙ ap (λ c. results_once n (waiting es n ++ if_same m n id false) (closed es n || c)) (sym (and-false (nat_eq m n)))
        by None =
            closes-now m (empty id) (nat_eq m n) refl (active-unclosed key m is) refl ∙ ap (λ c. results_once n (waiting es n ++ []) (closed es n || c)) (sym (and-true (nat_eq m n)))

    by_command : (id : ℕ) (c : Command) → Owed (owed_by es id (accepted c)) (waits_by es n id (accepted c)) (closed_by es n (accepted c))
    by_command id (command.Build key options) = by options.context
      where
        by : (stays : Bool) → Owed (cond stays (empty id) []) (cond stays [] (if_same (length (builds es)) n id true)) false
        by true = calm (waiting es n) (closed es n)
        by false = waits-on (length (builds es)) id true next-unclosed
    by_command id (command.Rebuild key) = by (active_build es key) refl
      where
        by : (o : Option ℕ) → active_build es key ≡ o → Owed [] (if_same (joined_build es o) n id true) false
        by None is = waits-on (length (builds es)) id true next-unclosed
        by (Some m) is = waits-on m id true (λ same. same-closed m same (active-unclosed key m is))
    by_command id (command.Cancel key) = cancels key id (active_build es key) refl
    by_command id (command.Dispose key) = cancels key id (active_build es key) refl
    by_command id (command.Watch key) = calm (waiting es n) (closed es n)
    by_command id (command.Serve key port) = calm (waiting es n) (closed es n)
    by_command id command.Ping = calm (waiting es n) (closed es n)

    by_request : (id : ℕ) (v : Verdict) → Owed (owed_by es id v) (waits_by es n id v) (closed_by es n v)
    by_request id (refused text) = calm (waiting es n) (closed es n)
    by_request id (accepted c) = by_command id c

    unsettled-open : (m : ℕ) → outcome es m ≡ None → closed es m ≡ false
    unsettled-open m none = unclosed-still es m legal none

    closes-when : (m : ℕ) → closed es m ≡ false → Owed (results m (waiting es m)) [] (nat_eq m n && true)
    closes-when m unclosed = closes-only m (nat_eq m n) refl unclosed ∙ ap (λ c. results_once n (waiting es n ++ []) (closed es n || c)) (sym (and-true (nat_eq m n)))

    settle : (m : ℕ) (writes : Bool) (p : Option Outcome) → outcome es m ≡ p → Owed (cond writes [] (results_unless es m p)) [] (nat_eq m n && (is_none p && not writes))
    settle m true None is = none-owed (nat_eq m n && false) (and-false (nat_eq m n))
    settle m false None is = closes-when m (unsettled-open m is)
    settle m true (Some p) is = none-owed (nat_eq m n && false) (and-false (nat_eq m n))
    settle m false (Some p) is = none-owed (nat_eq m n && false) (and-false (nat_eq m n))

    -- work that may end a build
    work : (m : ℕ) (large : Bool) (p : Option Outcome) → outcome es m ≡ p → Owed (results_if large es m) [] (nat_eq m n && (is_none p && large))
    work m true None is =
        ap (λ (o : Option Outcome). results_once n (waiting es n) (closed es n) ++ filter (is_result n) (results_unless es m o)) is ∙ closes-when m (unsettled-open m is)
    work m true (Some p) is =
        ap (λ (o : Option Outcome). results_once n (waiting es n) (closed es n) ++ filter (is_result n) (results_unless es m o)) is ∙ none-owed (nat_eq m n && false) (and-false (nat_eq m n))
    work m false None is = none-owed (nat_eq m n && false) (and-false (nat_eq m n))
    work m false (Some p) is = none-owed (nat_eq m n && false) (and-false (nat_eq m n))

    by_event : (e : Event) → allowed (replay es) e ≡ true → Owed (owes_at es e) (waits es n e) (closes es n e)
    by_event (event.Arrive p) may = by p.request
      where
        by : (t : Bool) → Owed (cond t (owed_by es p.id (verdict es p)) []) (cond t (waits_by es n p.id (verdict es p)) []) (t && closed_by es n (verdict es p))
        by true = by_request p.id (verdict es p)
        by false = calm (waiting es n) (closed es n)
    by_event (event.Settle worker m o) may = settle m (is_to_write (build es m) o) (outcome es m) refl
    by_event (event.Written worker m f) may =
        let r = read-legal es legal in
        let fit = event-fits (replay es) r.ordered (event.Written worker m f) may in
        closes-only m (nat_eq m n) refl (sym (r.reads.closes m) ∙ fit.0.unclosed)
    by_event event.Pop may = calm (waiting es n) (closed es n)
    by_event event.EndOfInput may = calm (waiting es n) (closed es n)
    by_event (event.Claim role job) may = calm (waiting es n) (closed es n)
    by_event (event.Record worker m q a) may = work m (overfull es m q a) (outcome es m) refl
    by_event (event.Deliver worker m t p) may = work m (overopened es m p) (outcome es m) refl

  pub one-result : (events : List Event) → is_legal events ≡ true → results_of events n ≡ results_once n (waiting events n) (closed events n)
  one-result events legal =
      each_legal (λ es. results_of es n ≡ results_once n (waiting es n) (closed es n)) refl
      (λ es e before may rec.
      ap (λ (os : List Out). filter (is_result n) os) (all_owed-pushed es e) ∙ filter-append (is_result n) (all_owed es) (owes_at es e)
      ∙ ap (λ (os : List Out). os ++ filter (is_result n) (owes_at es e)) rec ∙ by_event es before e may
      ∙ ap (λ (ws : List (ℕ × Bool)). results_once n ws (closed es n || closes es n e)) (sym (waiting-pushed es n e))
      ∙ ap (λ (c : Bool). results_once n (waiting (es ++ e ∷ []) n) c) (sym (closed-pushed es n e)))
      events legal

-- ---- each request is accounted for

module _ (ids : ℕ → Bool) where
  no_own : (m : ℕ) (ws : List (ℕ × Bool)) → count_by (is_own ids) (results m ws) ≡ 0
  no_own m [] = refl
  no_own m (w ∷ ws) = by w.1 (no_own m ws)
    where
      by : (b : Bool) → count_by (is_own ids) (results m ws) ≡ 0 → count_by (is_own ids) (out.Reply w.0 (cond b (body.Result m) (body.Closed m)) ∷ results m ws) ≡ 0
      by true rec = rec
      by false rec = rec

  module _ (es : List Event) where
    -- how many of the requests that some moves answer or let wait have one of these ids
    abbrev Counts : List Move → ℕ
    Counts ns = count_by (is_join ids) ns + count_by (is_own ids) (Owes es ns)

    own-behind : (m : ℕ) (last : Move) (more : List Out) → count_by (is_own ids) (results m (waiting_in (moves_in es ++ last ∷ []) m) ++ more) ≡ count_by (is_own ids) more
    own-behind m last more =
        let sum = sum_by-append (λ o. cond (is_own ids o) 1 0) (results m (waiting_in (moves_in es ++ last ∷ []) m)) more in
        let none = no_own m (waiting_in (moves_in es ++ last ∷ []) m) in
        omega (arith, sum, none)

    counts-canceled : (id key : ℕ) (stays : Bool) (o : Option ℕ) → Counts (canceled (found es key) id key stays o (done id)) ≡ cond (ids id) 1 0
    counts-canceled id key stays o =
        by_canceled (λ ns. Counts ns ≡ cond (ids id) 1 0) (found es key) id key stays o (done id) (omega arith) (λ m. omega arith)
        (λ m. let own = own-behind m (settle_move m outcome_of.Canceled) (empty id) in omega (arith, own)) (λ m. let own = own-behind m (settle_move m outcome_of.Canceled) (empty id) in omega (arith, own))

    counts-disposed : (id key : ℕ) (o : Option ℕ) → Counts (disposed (record (found es key) { active = o; settled = is_settled_in (moves_in es) o }) id key) ≡ cond (ids id) 1 0
    counts-disposed id key None = omega arith
    counts-disposed id key (Some m) = by (is_some (outcome es m))
      where
        by : (t : Bool) → Counts (disposed (record (found es key) { active = Some m; settled = t }) id key) ≡ cond (ids id) 1 0
        by true = omega arith
        by false = let own = own-behind m (settle_move m outcome_of.Canceled) (empty id) in omega (arith, own)

    never : (met_unknown met_passing : Bool × List ℕ) (text : List ℕ) → first_of (met_unknown ∷ met_passing ∷ (true, text) ∷ []) ≡ None → ⊥
    never a b text is = by a.0 b.0 is
      where
        by : (s t : Bool) → cond s (Some a.1) (cond t (Some b.1) (Some text)) ≡ None → ⊥
        by true t e = not_none a.1 e
        by false true e = not_none b.1 e
        by false false e = not_none text e

    counts-command : (id : ℕ) (c : Command) → refusal (found es (key_of c)) c ≡ None → Counts (effect (found es (key_of c)) id c) ≡ cond (ids id) 1 0
    counts-command id (command.Build key options) is = by options.context
      where
        by : (stays : Bool) → Counts (make key options ∷ cond stays (done id) (begun_moves (found es key) id key options)) ≡ cond (ids id) 1 0
        by true = omega arith
        by false = omega arith
    counts-command id (command.Rebuild key) is = by (active_build es key)
      where
        by : (o : Option ℕ) → Counts (joined_or_begun (found es key) id key o) ≡ cond (ids id) 1 0
        by (Some n) = omega arith
        by None = omega arith
    counts-command id (command.Cancel key) is = counts-canceled id key (options_of (context es key)).context (active_build es key)
    counts-command id (command.Dispose key) is = counts-disposed id key (active_build es key)
    counts-command id (command.Watch key) is = absurd (never (unknown (found es key)) (passing (found es key)) (codes "Not available") is)
    counts-command id (command.Serve key port) is = absurd (never (unknown (found es key)) (passing (found es key)) (codes "Not available") is)
    counts-command id command.Ping is = omega arith

    counts-request : (id : ℕ) (a : Asked Command) → Counts (requested (found es) id a) ≡ cond (ids id) 1 0
    counts-request id a = by_verdict es Counts (λ v. cond (ids id) 1 0) id (λ text. omega arith) (λ c is. counts-command id c is) a

    counts-event : (e : Event) → Counts (moves_after (moves_in es) e) ≡ cond (is_request ids e) 1 0
    counts-event (event.Arrive p) = by p.request
      where
        by : (t : Bool) → Counts (cond t (requested (found es) p.id (asked p.value)) []) ≡ cond (t && ids p.id) 1 0
        by true = counts-request p.id (asked p.value)
        by false = refl
    counts-event (event.Record worker m q a) =
        let own = own-behind m (settle_move m too_large) [] in
        by_kept (λ ns. Counts ns ≡ 0) (standing_in (moves_in es) m) m q a (outcome_in (moves_in es) m) (omega (arith, own)) (omega (arith, own)) refl refl
    counts-event (event.Settle worker m o) =
        let own = own-behind m (settle_move m o) [] in
        by_settled (λ ns. Counts ns ≡ 0) (standing_in (moves_in es) m) m o (outcome_in (moves_in es) m) refl (omega (arith, own)) (omega (arith, own)) (λ e. refl)
    counts-event (event.Written worker m f) =
        let own = own-behind m (write m f) [] in
        by_written (λ ns. Counts ns ≡ 0) (standing_in (moves_in es) m) m f (omega (arith, own)) (omega (arith, own))
    counts-event event.Pop = refl
    counts-event event.EndOfInput = refl
    counts-event (event.Claim role job) = refl
    counts-event (event.Deliver worker m t p) =
        let own = own-behind m (settle_move m too_large) [] in
        by_opened (λ ns. Counts ns ≡ 0) (standing_in (moves_in es) m) m (named p) (outcome_in (moves_in es) m) (omega (arith, own)) (omega (arith, own)) (λ u. refl) refl

  pub accounted : (events : List Event) → count_by (is_request ids) events ≡ count_by (is_join ids) (moves_in events) + count_by (is_own ids) (all_owed events)
  accounted events = each (λ es. count_by (is_request ids) es ≡ count_by (is_join ids) (moves_in es) + count_by (is_own ids) (all_owed es)) refl step events
    where
      step : (es : List Event) (e : Event) → count_by (is_request ids) es ≡ count_by (is_join ids) (moves_in es) + count_by (is_own ids) (all_owed es)
          → count_by (is_request ids) (es ++ e ∷ []) ≡ count_by (is_join ids) (moves_in (es ++ e ∷ [])) + count_by (is_own ids) (all_owed (es ++ e ∷ []))
      step es e rec =
          let requests = count-push (is_request ids) es e in
          let joined : count_by (is_join ids) (moves_in (es ++ e ∷ [])) ≡ count_by (is_join ids) (moves_in es) + count_by (is_join ids) (moves_after (moves_in es) e) =
          ap (λ (ms : List Move). count_by (is_join ids) ms) (moves-push es e) ∙ sum_by-append (λ m. cond (is_join ids m) 1 0) (moves_in es) (moves_after (moves_in es) e) in
          let owed : count_by (is_own ids) (all_owed (es ++ e ∷ [])) ≡ count_by (is_own ids) (all_owed es) + count_by (is_own ids) (Owes es (moves_after (moves_in es) e)) =
          ap (λ (os : List Out). count_by (is_own ids) os) (all_owed-pushed es e ∙ ap (λ (os : List Out). all_owed es ++ os) (sym (owes-event es e)))
          ∙ sum_by-append (λ o. cond (is_own ids o) 1 0) (all_owed es) (Owes es (moves_after (moves_in es) e)) in
          let one = counts-event es e in
          omega (arith, rec, requests, joined, owed, one)

-- only a build that has begun is settled
pub settled-begun : (events : List Event) (n : ℕ) (o : Outcome) → is_legal events ≡ true → outcome events n ≡ Some o → n < length (builds events)
settled-begun events n o legal is = by (nat_lt n (length (builds events))) refl
  where
    past : nat_lt n (length (builds events)) ≡ false → length (builds events) ≤ n
    past e = grind (arith)

    by : (t : Bool) → nat_lt n (length (builds events)) ≡ t → n < length (builds events)
    by true e = ltb-true n (length (builds events)) e
    by false e =
        let r = read-legal events legal in
        let number = same-number (replay events) (moves_in events) r.reads in
        let over = past e in
        not_none o (sym is ∙ sym (r.reads.outcomes n) ∙ past-end (replay events).builds n (λ b. b.outcome) (omega (arith, number, over)))
