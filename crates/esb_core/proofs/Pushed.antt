-- What each event changes in what a list answers.
use Rattle.std.proofs.Common.{◌≡◌, ℕ, Bool, true, false, cond, ◌||◌, List, [], ◌∷◌, ◌++◌, length, Option, None, Some, is_some, Ok, Err, refl, sym, ap, ◌∙◌, append_assoc, append-nil, nat_eq, eqb-true}
use Rattle.std.specs.List.{fold}
use Rattle.std.specs.Option.{option_to_list}
use Rattle.std.proofs.lemmas.List.Sums.{fold-append}
use Rattle.std.proofs.lemmas.Bool.{false≢true}
use Rattle.esb_wire.specs.declared.value.Packet.{Packet}
use Rattle.esb_flags.specs.declared.options.Options.{Options}
use Rattle.esb_flags.specs.declared.command.Command.{Command}
use Rattle.esb_flags.specs.declared.command.Command.TheVariants as command
use Rattle.esb_flags.specs.Fields.{Answer as Asked}
use Rattle.esb_flags.specs.Command.{asked}
use Rattle.esb_ask.specs.declared.question.Question.{Question}
use Rattle.esb_ask.specs.declared.answer.Answer.{Answer}
use Rattle.esb_ask.specs.declared.task.Task.{Task}
use Rattle.esb_ask.specs.declared.product.Product.{Product}
use Rattle.esb_ask.specs.declared.outcome.OutFile.{OutFile}
use Rattle.esb_ask.specs.declared.outcome.Failures.{Failures}
use Rattle.esb_ask.specs.declared.outcome.Outcome.{Outcome}
use Rattle.esb_ask.specs.declared.outcome.Outcome.TheVariants as outcome_of
use Rattle.esb_core.specs.declared.out.Out.{Out}
use Rattle.esb_core.specs.declared.event.Event.{Event}
use Rattle.esb_core.specs.declared.event.Event.TheVariants as event
use Rattle.esb_core.specs.Moves.{Move, make, remove, begin, join, retire, owe, keep, assign, settle, write, close, take, Met, Standing, key_of, options_of, refusal, effect, refused_or, requested, done, refused as refused_moves, begun as begun_moves, joined_or_begun, closed, canceled, added_or, kept_unless, opens, opened_unless, settled, settled_unless, ended, canceled_or, disposed}
use Rattle.esb_core.specs.Sizes.{named, opened, is_overfull, has_too_many, too_large}
use Rattle.esb_ask.specs.Table.{kept}
use Rattle.esb_core.specs.Work.{names, unless_settled, unless_large}
use Rattle.esb_core.specs.Steps.{results, without}
use Rattle.esb_core.specs.History.{is_settled_in, gathered_from, context_at, contexts_in, Begun, begun_at, builds_in, waits_with, waiting_in, or_later, outcome_in, answers_in, kept_pair, table_in, opens_in, owes, owed_in, met_in, standing_in, moves_after, moves_in, contexts, context, active_build, builds, build, waiting, outcome, table, tasks, all_owed}
use Rattle.esb_core.specs.Laws.{Verdict, refused, accepted, verdict_by, verdict_of, verdict, if_idle, begins_by, begins, joined_build, if_same, waits_by, waits, canceled_if, settled_by, settles, large_if, overfull, overopened, answered_if, answers, empty, stopped, waits_closed, is_settled_build, disposed_if, is_to_write, stays_after, owed_by, results_unless, results_if, owes_at, gone_if, contexts_by, gone_unless, gone_large, contexts_at}
use Rattle.esb_core.proofs.Moving.{or_later-None, waiting-append, outcome-append, table-append, opens-append, gathered_from-append, moves-push}

-- ---- builds

-- the builds that moves begin
abbrev pub begun_in : List Move → List Begun
begun_in ms = fold begun_at [] ms

pub begun-from : (bs : List Begun) (ms : List Move) → fold begun_at bs ms ≡ bs ++ begun_in ms
begun-from bs [] = sym (append-nil bs)
begun-from bs (begin n key options ∷ ms) =
    let b : Begun = record { key = key; options = options } in
    begun-from (bs ++ b ∷ []) ms ∙ append_assoc bs (b ∷ []) (begun_in ms) ∙ ap (λ (cs : List Begun). bs ++ cs) (sym (begun-from (b ∷ []) ms))
begun-from bs (make key options ∷ ms) = begun-from bs ms
begun-from bs (remove key ∷ ms) = begun-from bs ms
begun-from bs (join n id result ∷ ms) = begun-from bs ms
begun-from bs (owe o ∷ ms) = begun-from bs ms
begun-from bs (keep n q a ∷ ms) = begun-from bs ms
begun-from bs (assign n t ∷ ms) = begun-from bs ms
begun-from bs (retire key ∷ ms) = begun-from bs ms
begun-from bs (settle n o ∷ ms) = begun-from bs ms
begun-from bs (write n f ∷ ms) = begun-from bs ms
begun-from bs (close key n ∷ ms) = begun-from bs ms
begun-from bs (take ∷ ms) = begun-from bs ms

-- what holds of the moves of a closed build, whether its context stays or not
pub by_closed : (P : List Move → Type 0) (key : ℕ) (stays : Bool) (n : ℕ) → P (close key n ∷ []) → P (close key n ∷ remove key ∷ []) → P (closed key stays n)
by_closed P key true n one two = one
by_closed P key false n one two = two

-- the same of a build that is settled and closed
pub by_stays : (P : List Move → Type 0) (key : ℕ) (stays : Bool) (n : ℕ) (o : Outcome) → P (settle n o ∷ close key n ∷ []) → P (settle n o ∷ close key n ∷ remove key ∷ []) → P (ended key stays n o)
by_stays P key true n o one two = one
by_stays P key false n o one two = two

pub by_stays_then : (P : List Move → Type 0) (key : ℕ) (stays : Bool) (n : ℕ) (o : Outcome) (more : List Move)
    → P (settle n o ∷ close key n ∷ more) → P (settle n o ∷ close key n ∷ remove key ∷ more) → P (ended key stays n o ++ more)
by_stays_then P key true n o more one two = one
by_stays_then P key false n o more one two = two

-- the same of a build that is canceled, or whose close the request waits for
pub by_canceled : (P : List Move → Type 0) (met : Met) (id key : ℕ) (stays : Bool) (o : Option ℕ) (more : List Move) → P more → ((n : ℕ) → P (join n id false ∷ []))
    → ((n : ℕ) → P (settle n outcome_of.Canceled ∷ close key n ∷ more)) → ((n : ℕ) → P (settle n outcome_of.Canceled ∷ close key n ∷ remove key ∷ more)) → P (canceled met id key stays o more)
by_canceled P met id key stays None more alone waits one two = alone
by_canceled P met id key stays (Some n) more alone waits one two = by met.settled
  where
    by : (t : Bool) → P (canceled_or t id key stays n more)
    by true = waits n
    by false = by_stays_then P key stays n outcome_of.Canceled more (one n) (two n)

pub by_disposed : (P : List Move → Type 0) (met : Met) (id key : ℕ) → P (retire key ∷ []) → ((n : ℕ) → P (retire key ∷ join n id false ∷ []))
    → ((n : ℕ) → P (retire key ∷ settle n outcome_of.Canceled ∷ close key n ∷ [])) → ((n : ℕ) → P (retire key ∷ settle n outcome_of.Canceled ∷ close key n ∷ remove key ∷ [])) → P (remove key ∷ done id) → ((n : ℕ) → P (join n id false ∷ []))
    → ((n : ℕ) → P (settle n outcome_of.Canceled ∷ close key n ∷ remove key ∷ done id)) → ((n : ℕ) → P (settle n outcome_of.Canceled ∷ close key n ∷ remove key ∷ remove key ∷ done id))
    → P (disposed met id key)
by_disposed P met id key retired retired_waits retired_one retired_two gone waits one two = by met.settled
  where
    by : (t : Bool) → P (cond t (retire key ∷ canceled met id key true met.active []) (canceled met id key true met.active (remove key ∷ done id)))
    by true = by_canceled (λ ns. P (retire key ∷ ns)) met id key true met.active [] retired retired_waits retired_one retired_two
    by false = by_canceled P met id key true met.active (remove key ∷ done id) gone waits one two

-- what holds of the moves of an answer, whether it is kept, or the build is settled or ends by it
pub by_kept : (P : List Move → Type 0) (at : Standing) (n : ℕ) (q : Question) (a : Answer) (o : Option Outcome)
    → P (settle n too_large ∷ close at.key n ∷ []) → P (settle n too_large ∷ close at.key n ∷ remove at.key ∷ []) → P (keep n q a ∷ []) → P [] → P (kept_unless at n q a o)
by_kept P at n q a (Some o) one two plain none = none
by_kept P at n q a None one two plain none = by (is_overfull (kept at.table q a))
  where
    by : (large : Bool) → P (added_or at n large (keep n q a ∷ []))
    by true = by_stays P at.key at.stays n too_large one two
    by false = plain

-- the same of a delivered task
pub by_opened : (P : List Move → Type 0) (at : Standing) (n : ℕ) (u : Option Task) (o : Option Outcome)
    → P (settle n too_large ∷ close at.key n ∷ []) → P (settle n too_large ∷ close at.key n ∷ remove at.key ∷ []) → ((t : Task) → P (assign n t ∷ [])) → P [] → P (opened_unless at n u o)
by_opened P at n u (Some o) one two plain none = none
by_opened P at n u None one two plain none = by (has_too_many (opened at.tasks u))
  where
    adds : (v : Option Task) → P (opens n v)
    adds None = none
    adds (Some t) = plain t

    by : (large : Bool) → P (added_or at n large (opens n u))
    by true = by_stays P at.key at.stays n too_large one two
    by false = adds u

-- the same of an outcome
pub by_settled : (P : List Move → Type 0) (at : Standing) (n : ℕ) (o : Outcome) (p : Option Outcome) → P (settle n o ∷ []) → P (settle n o ∷ close at.key n ∷ []) → P (settle n o ∷ close at.key n ∷ remove at.key ∷ []) → (is_some p ≡ true → P [])
    → P (settled_unless at n o p)
by_settled P at n o (Some p) open_still one two none = none refl
by_settled P at n (outcome_of.Files files) None open_still one two none = by at.writes at.stays
  where
    by : (writes stays : Bool) → P (settle n (outcome_of.Files files) ∷ cond writes [] (closed at.key stays n))
    by true stays = open_still
    by false true = one
    by false false = two
by_settled P at n (outcome_of.Errors messages) None open_still one two none = by_stays P at.key at.stays n (outcome_of.Errors messages) one two
by_settled P at n outcome_of.Canceled None open_still one two none = by_stays P at.key at.stays n outcome_of.Canceled one two
by_settled P at n outcome_of.Memory None open_still one two none = by_stays P at.key at.stays n outcome_of.Memory one two

-- the same of files that are put
pub by_written : (P : List Move → Type 0) (at : Standing) (n : ℕ) (f : Failures) → P (write n f ∷ close at.key n ∷ []) → P (write n f ∷ close at.key n ∷ remove at.key ∷ []) → P (write n f ∷ closed at.key at.stays n)
by_written P at n f one two = by_closed (λ ns. P (write n f ∷ ns)) at.key at.stays n one two

module _ (before : List Event) where
  abbrev pub ms : List Move
  ms = moves_in before

  abbrev pub found : ℕ → Met
  found key = met_in ms key

  -- a question about the moves of a request, by what becomes of it
  pub by_verdict : {X : Type 0} (Q : List Move → X) (R : Verdict → X) (id : ℕ)
      → ((text : List ℕ) → Q (refused_moves id text) ≡ R (refused text))
      → ((c : Command) → refusal (found (key_of c)) c ≡ None → Q (effect (found (key_of c)) id c) ≡ R (accepted c))
      → (a : Asked Command) → Q (requested found id a) ≡ R (verdict_of before a)
  by_verdict Q R id refuses accepts (Err text) = refuses text
  by_verdict Q R id refuses accepts (Ok c) = by (refusal (found (key_of c)) c) refl
    where
      by : (o : Option (List ℕ)) → refusal (found (key_of c)) c ≡ o → Q (refused_or (found (key_of c)) id c o) ≡ R (verdict_by c o)
      by (Some text) is = refuses text
      by None is = accepts c is

  -- the same of a packet: a response has no moves
  pub by_packet : {X : Type 0} (Q : List Move → X) (R : Verdict → X) (none : X) → Q [] ≡ none → (p : Packet)
      → ((a : Asked Command) → Q (requested found p.id a) ≡ R (verdict_of before a))
      → Q (cond p.request (requested found p.id (asked p.value)) []) ≡ cond p.request (R (verdict before p)) none
  by_packet Q R none nothing p request = by p.request
    where
      by : (t : Bool) → Q (cond t (requested found p.id (asked p.value)) []) ≡ cond t (R (verdict before p)) none
      by true = request (asked p.value)
      by false = nothing

  -- ---- builds

  begins-moves : (id : ℕ) (c : Command) → begun_in (effect (found (key_of c)) id c) ≡ begins_by before (accepted c)
  begins-moves id (command.Build key options) = by options.context
    where
      by : (stays : Bool) → begun_in (make key options ∷ cond stays (done id) (begun_moves (found key) id key options)) ≡ cond stays [] (record { key = key; options = options } ∷ [])
      by true = refl
      by false = refl
  begins-moves id (command.Rebuild key) = by (active_build before key)
    where
      by : (o : Option ℕ) → begun_in (joined_or_begun (found key) id key o) ≡ if_idle o (record { key = key; options = options_of (context before key) })
      by (Some n) = refl
      by None = refl
  begins-moves id (command.Cancel key) = by_canceled (λ ns. begun_in ns ≡ []) (found key) id key (options_of (context before key)).context (active_build before key) (done id) refl (λ m. refl) (λ m. refl) (λ m. refl)
  begins-moves id (command.Dispose key) = by_disposed (λ ns. begun_in ns ≡ []) (found key) id key refl (λ m. refl) (λ m. refl) (λ m. refl) refl (λ m. refl) (λ m. refl) (λ m. refl)
  begins-moves id (command.Watch key) = refl
  begins-moves id (command.Serve key port) = refl
  begins-moves id command.Ping = refl

  begun-event : (e : Event) → begun_in (moves_after ms e) ≡ begins before e
  begun-event (event.Arrive p) = by_packet begun_in (begins_by before) [] refl p (λ a. by_verdict begun_in (begins_by before) p.id (λ text. refl) (λ c is. begins-moves p.id c) a)
  begun-event (event.Record worker n q a) = by_kept (λ ns. begun_in ns ≡ []) (standing_in ms n) n q a (outcome_in ms n) refl refl refl refl
  begun-event (event.Settle worker n o) = by_settled (λ ns. begun_in ns ≡ []) (standing_in ms n) n o (outcome_in ms n) refl refl refl (λ e. refl)
  begun-event (event.Written worker n f) = by_written (λ ns. begun_in ns ≡ []) (standing_in ms n) n f refl refl
  begun-event event.Pop = refl
  begun-event event.EndOfInput = refl
  begun-event (event.Claim role job) = refl
  begun-event (event.Deliver worker n t p) = by_opened (λ ns. begun_in ns ≡ []) (standing_in ms n) n (named p) (outcome_in ms n) refl refl (λ u. refl) refl

  pub builds-pushed : (e : Event) → builds (before ++ e ∷ []) ≡ builds before ++ begins before e
  builds-pushed e =
      ap builds_in (moves-push before e) ∙ fold-append begun_at [] ms (moves_after ms e) ∙ begun-from (builds before) (moves_after ms e) ∙ ap (λ (bs : List Begun). builds before ++ bs) (begun-event e)

  -- ---- requests that wait

  module _ (n : ℕ) where
    abbrev Waits : List Move → List (ℕ × Bool)
    Waits ns = waiting_in ns n

    -- a cancel waits for the close of an active build that is settled
    waits-canceled : (id key : ℕ) (stays : Bool) (o : Option ℕ) (more : List Move) → Waits more ≡ [] → Waits (canceled (record (found key) { settled = is_settled_in ms o }) id key stays o more) ≡ waits_closed before n id o
    waits-canceled id key stays None more none = none
    waits-canceled id key stays (Some m) more none = by (is_some (outcome before m))
      where
        by : (t : Bool) → Waits (canceled_or t id key stays m more) ≡ cond t (if_same m n id false) []
        by true = refl
        by false = by_stays_then (λ ns. Waits ns ≡ []) key stays m outcome_of.Canceled more none none

    waits-disposed : (id key : ℕ) (o : Option ℕ) → Waits (disposed (record (found key) { active = o; settled = is_settled_in ms o }) id key) ≡ waits_closed before n id o
    waits-disposed id key None = refl
    waits-disposed id key (Some m) = by (is_some (outcome before m))
      where
        by : (t : Bool) → Waits (disposed (record (found key) { active = Some m; settled = t }) id key) ≡ cond t (if_same m n id false) []
        by true = refl
        by false = refl

    waits-moves : (id : ℕ) (c : Command) → Waits (effect (found (key_of c)) id c) ≡ waits_by before n id (accepted c)
    waits-moves id (command.Build key options) = by options.context
      where
        by : (stays : Bool) → Waits (make key options ∷ cond stays (done id) (begun_moves (found key) id key options)) ≡ cond stays [] (if_same (length (builds before)) n id true)
        by true = refl
        by false = refl
    waits-moves id (command.Rebuild key) = by (active_build before key)
      where
        by : (o : Option ℕ) → Waits (joined_or_begun (found key) id key o) ≡ if_same (joined_build before o) n id true
        by (Some m) = refl
        by None = refl
    waits-moves id (command.Cancel key) = waits-canceled id key (options_of (context before key)).context (active_build before key) (done id) refl
    waits-moves id (command.Dispose key) = waits-disposed id key (active_build before key)
    waits-moves id (command.Watch key) = refl
    waits-moves id (command.Serve key port) = refl
    waits-moves id command.Ping = refl

    waits-event : (e : Event) → Waits (moves_after ms e) ≡ waits before n e
    waits-event (event.Arrive p) = by_packet Waits (waits_by before n p.id) [] refl p (λ a. by_verdict Waits (waits_by before n p.id) p.id (λ text. refl) (λ c is. waits-moves p.id c) a)
    waits-event (event.Record worker m q a) = by_kept (λ ns. Waits ns ≡ []) (standing_in ms m) m q a (outcome_in ms m) refl refl refl refl
    waits-event (event.Settle worker m o) = by_settled (λ ns. Waits ns ≡ []) (standing_in ms m) m o (outcome_in ms m) refl refl refl (λ e. refl)
    waits-event (event.Written worker m f) = by_written (λ ns. Waits ns ≡ []) (standing_in ms m) m f refl refl
    waits-event event.Pop = refl
    waits-event event.EndOfInput = refl
    waits-event (event.Claim role job) = refl
    waits-event (event.Deliver worker m t p) = by_opened (λ ns. Waits ns ≡ []) (standing_in ms m) m (named p) (outcome_in ms m) refl refl (λ u. refl) refl

    pub waiting-pushed : (e : Event) → waiting (before ++ e ∷ []) n ≡ waiting before n ++ waits before n e
    waiting-pushed e = ap Waits (moves-push before e) ∙ waiting-append ms (moves_after ms e) n ∙ ap (λ (ids : List (ℕ × Bool)). waiting before n ++ ids) (waits-event e)

    -- ---- outcomes

    abbrev Ends : List Move → Option Outcome
    Ends ns = outcome_in ns n

    -- a request that cancels a build that isn't settled settles it, and else changes no outcome
    Ending : List Move → Option Outcome → Type 0
    Ending ns o = or_later (outcome before n) (Ends ns) ≡ or_later (outcome before n) o

    ends-as : (ns : List Move) (o : Option Outcome) → Ends ns ≡ o → Ending ns o
    unfolding Ending
    ends-as ns o is = ap (λ p. or_later (outcome before n) p) is

    ends-one : (m : ℕ) (more : List Move) → Ends more ≡ None → or_later (cond (nat_eq m n) (Some outcome_of.Canceled) None) (Ends more) ≡ cond (nat_eq m n) (Some outcome_of.Canceled) None
    ends-one m more none = ap (λ o. or_later (cond (nat_eq m n) (Some outcome_of.Canceled) None) o) none ∙ or_later-None (cond (nat_eq m n) (Some outcome_of.Canceled) None)

    ends-waits : (m : ℕ) (ns : List Move) (p : Option Outcome) → outcome before m ≡ p → is_some p ≡ true → Ends ns ≡ None → Ending ns (canceled_if n (Some m))
    unfolding Ending
    ends-waits m ns None is some none = absurd (false≢true some)
    ends-waits m ns (Some p) is some none = ap (λ o. or_later (outcome before n) o) none ∙ by (nat_eq m n) refl
      where
        by : (t : Bool) → nat_eq m n ≡ t → or_later (outcome before n) None ≡ or_later (outcome before n) (cond t (Some outcome_of.Canceled) None)
        by true same =
            let mine : outcome before n ≡ Some p = ap (λ (k : ℕ). outcome before k) (sym (eqb-true m n same)) ∙ is in
            ap (λ o. or_later o None) mine ∙ sym (ap (λ o. or_later o (Some outcome_of.Canceled)) mine)
        by false apart = refl

    ends-canceled : (id key : ℕ) (stays : Bool) (o : Option ℕ) (more : List Move) → Ends more ≡ None → Ending (canceled (record (found key) { settled = is_settled_in ms o }) id key stays o more) (canceled_if n o)
    ends-canceled id key stays None more none = ends-as more None none
    ends-canceled id key stays (Some m) more none = by (is_some (outcome before m)) refl
      where
        by : (t : Bool) → is_some (outcome before m) ≡ t → Ending (canceled_or t id key stays m more) (canceled_if n (Some m))
        by true some = ends-waits m (join m id false ∷ []) (outcome before m) refl some refl
        by false some = by_stays_then (λ ns. Ending ns (canceled_if n (Some m))) key stays m outcome_of.Canceled more (ends-as _ _ (ends-one m more none)) (ends-as _ _ (ends-one m more none))

    ends-disposed : (id key : ℕ) (o : Option ℕ) → Ending (disposed (record (found key) { active = o; settled = is_settled_in ms o }) id key) (canceled_if n o)
    ends-disposed id key None = ends-as (remove key ∷ done id) None refl
    ends-disposed id key (Some m) = by (is_some (outcome before m)) refl
      where
        by : (t : Bool) → is_some (outcome before m) ≡ t → Ending (disposed (record (found key) { active = Some m; settled = t }) id key) (canceled_if n (Some m))
        by true some = ends-waits m (retire key ∷ join m id false ∷ []) (outcome before m) refl some refl
        by false some = ends-as _ _ (ends-one m (remove key ∷ done id) refl)

    ends-moves : (id : ℕ) (c : Command) → Ending (effect (found (key_of c)) id c) (settled_by before n (accepted c))
    ends-moves id (command.Build key options) = by options.context
      where
        by : (stays : Bool) → Ending (make key options ∷ cond stays (done id) (begun_moves (found key) id key options)) None
        by true = ends-as _ None refl
        by false = ends-as _ None refl
    ends-moves id (command.Rebuild key) = by (active_build before key)
      where
        by : (o : Option ℕ) → Ending (joined_or_begun (found key) id key o) None
        by (Some m) = ends-as _ None refl
        by None = ends-as _ None refl
    ends-moves id (command.Cancel key) = ends-canceled id key (options_of (context before key)).context (active_build before key) (done id) refl
    ends-moves id (command.Dispose key) = ends-disposed id key (active_build before key)
    ends-moves id (command.Watch key) = ends-as [] None refl
    ends-moves id (command.Serve key port) = ends-as [] None refl
    ends-moves id command.Ping = ends-as (done id) None refl

    pub outcome-pushed : (e : Event) → outcome (before ++ e ∷ []) n ≡ or_later (outcome before n) (settles before n e)
    unfolding Ending
    outcome-pushed e = ap Ends (moves-push before e) ∙ outcome-append ms (moves_after ms e) n ∙ at e
      where
        within : (t : Bool) (o : Option Outcome) → cond t (or_later (outcome before n) o) (or_later (outcome before n) None) ≡ or_later (outcome before n) (cond t o None)
        within true o = refl
        within false o = refl

        settle : (m : ℕ) (o : Outcome) (p : Option Outcome) (t : Bool) → nat_eq m n ≡ t → outcome before m ≡ p
            → or_later (outcome before n) (Ends (settled_unless (standing_in ms m) m o p)) ≡ or_later (outcome before n) (cond t (Some o) None)
        settle m o None t is none = ap (λ q. or_later (outcome before n) q) (by_settled (λ ns. Ends ns ≡ cond t (Some o) None) (standing_in ms m) m o None own own own (λ e. absurd (false≢true e)))
          where
            own : or_later (cond (nat_eq m n) (Some o) None) None ≡ cond t (Some o) None
            own = or_later-None (cond (nat_eq m n) (Some o) None) ∙ ap (λ s. cond s (Some o) None) is
        settle m o (Some p) true is some =
            let mine : outcome before n ≡ Some p = ap (λ (k : ℕ). outcome before k) (sym (eqb-true m n is)) ∙ some in
            ap (λ q. or_later q None) mine ∙ sym (ap (λ q. or_later q (Some o)) mine)
        settle m o (Some p) false is some = refl

        -- what work ends that isn't settled, and what it adds to it
        adds : (m : ℕ) (large : Bool) (more : List Move) → Ends more ≡ None → Ends (added_or (standing_in ms m) m large more) ≡ cond (nat_eq m n) (large_if large) None
        adds m true more none = by_stays (λ ns. Ends ns ≡ cond (nat_eq m n) (Some too_large) None) (standing_in ms m).key (standing_in ms m).stays m too_large own own
          where
            own : or_later (cond (nat_eq m n) (Some too_large) None) None ≡ cond (nat_eq m n) (Some too_large) None
            own = or_later-None (cond (nat_eq m n) (Some too_large) None)
        adds m false more none = none ∙ by (nat_eq m n)
          where
            by : (t : Bool) → ◌≡◌ {A = Option Outcome} None (cond t None None)
            by true = refl
            by false = refl

        -- once a build is settled, what comes later changes nothing
        later : (m : ℕ) (p : Outcome) (q : Option Outcome) (t : Bool) → nat_eq m n ≡ t → outcome before m ≡ Some p → or_later (outcome before n) None ≡ or_later (outcome before n) (cond t q None)
        later m p q true is some =
            let mine : outcome before n ≡ Some p = ap (λ (k : ℕ). outcome before k) (sym (eqb-true m n is)) ∙ some in
            ap (λ o. or_later o None) mine ∙ sym (ap (λ o. or_later o q) mine)
        later m p q false is some = refl

        answer : (m : ℕ) (q : Question) (a : Answer) (o : Option Outcome) → outcome before m ≡ o
            → or_later (outcome before n) (Ends (kept_unless (standing_in ms m) m q a o)) ≡ or_later (outcome before n) (cond (nat_eq m n) (large_if (overfull before m q a)) None)
        answer m q a None none = ap (λ o. or_later (outcome before n) o) (adds m (overfull before m q a) (keep m q a ∷ []) refl)
        answer m q a (Some p) some = later m p (large_if (overfull before m q a)) (nat_eq m n) refl some

        none-ends : (m : ℕ) (u : Option Task) → Ends (opens m u) ≡ None
        none-ends m None = refl
        none-ends m (Some t) = refl

        deliver : (m : ℕ) (p : Product) (o : Option Outcome) → outcome before m ≡ o
            → or_later (outcome before n) (Ends (opened_unless (standing_in ms m) m (named p) o)) ≡ or_later (outcome before n) (cond (nat_eq m n) (large_if (overopened before m p)) None)
        deliver m p None none = ap (λ o. or_later (outcome before n) o) (adds m (overopened before m p) (opens m (named p)) (none-ends m (named p)))
        deliver m p (Some o) some = later m o (large_if (overopened before m p)) (nat_eq m n) refl some

        arrive : (p : Packet) → or_later (outcome before n) (Ends (moves_after ms (event.Arrive p))) ≡ or_later (outcome before n) (cond p.request (settled_by before n (verdict before p)) None)
        arrive p =
            by_packet (λ ns. or_later (outcome before n) (Ends ns)) (λ v. or_later (outcome before n) (settled_by before n v)) (or_later (outcome before n) None) refl p
            (λ a. by_verdict (λ ns. or_later (outcome before n) (Ends ns)) (λ v. or_later (outcome before n) (settled_by before n v)) p.id (λ text. refl) (λ c is. ends-moves p.id c) a)
            ∙ within p.request (settled_by before n (verdict before p))

        at : (e : Event) → or_later (outcome before n) (Ends (moves_after ms e)) ≡ or_later (outcome before n) (settles before n e)
        at (event.Arrive p) = arrive p
        at (event.Settle worker m o) = settle m o (outcome before m) (nat_eq m n) refl refl
        at (event.Written worker m f) = ap (λ o. or_later (outcome before n) o) (by_written (λ ns. Ends ns ≡ None) (standing_in ms m) m f refl refl)
        at (event.Record worker m q a) = answer m q a (outcome before m) refl
        at event.Pop = refl
        at event.EndOfInput = refl
        at (event.Claim role job) = refl
        at (event.Deliver worker m t p) = deliver m p (outcome before m) refl

    -- ---- answers

    abbrev Answers : List Move → List (Question × Answer)
    Answers ns = answers_in ns n

    answers-moves : (id : ℕ) (c : Command) → Answers (effect (found (key_of c)) id c) ≡ []
    answers-moves id (command.Build key options) = by options.context
      where
        by : (stays : Bool) → Answers (make key options ∷ cond stays (done id) (begun_moves (found key) id key options)) ≡ []
        by true = refl
        by false = refl
    answers-moves id (command.Rebuild key) = by (active_build before key)
      where
        by : (o : Option ℕ) → Answers (joined_or_begun (found key) id key o) ≡ []
        by (Some m) = refl
        by None = refl
    answers-moves id (command.Cancel key) = by_canceled (λ ns. Answers ns ≡ []) (found key) id key (options_of (context before key)).context (active_build before key) (done id) refl (λ m. refl) (λ m. refl) (λ m. refl)
    answers-moves id (command.Dispose key) = by_disposed (λ ns. Answers ns ≡ []) (found key) id key refl (λ m. refl) (λ m. refl) (λ m. refl) refl (λ m. refl) (λ m. refl) (λ m. refl)
    answers-moves id (command.Watch key) = refl
    answers-moves id (command.Serve key port) = refl
    answers-moves id command.Ping = refl

    answers-event : (e : Event) → Answers (moves_after ms e) ≡ answers before n e
    answers-event (event.Arrive p) = by_packet Answers (λ v. []) [] refl p (λ a. by_verdict Answers (λ v. []) p.id (λ text. refl) (λ c is. answers-moves p.id c) a) ∙ nothing p.request
      where
        nothing : (t : Bool) → ◌≡◌ {A = List (Question × Answer)} (cond t [] []) []
        nothing true = refl
        nothing false = refl
    answers-event (event.Record worker m q a) = by (outcome_in ms m)
      where
        none : (t : Bool) → ◌≡◌ {A = List (Question × Answer)} [] (cond t [] [])
        none true = refl
        none false = refl

        adds : (large : Bool) → Answers (added_or (standing_in ms m) m large (keep m q a ∷ [])) ≡ cond (nat_eq m n) (answered_if None large q a) []
        adds true = by_stays (λ ns. Answers ns ≡ cond (nat_eq m n) [] []) (standing_in ms m).key (standing_in ms m).stays m too_large (none (nat_eq m n)) (none (nat_eq m n))
        adds false = refl

        by : (o : Option Outcome) → Answers (kept_unless (standing_in ms m) m q a o) ≡ cond (nat_eq m n) (answered_if o (overfull before m q a) q a) []
        by None = adds (overfull before m q a)
        by (Some o) = none (nat_eq m n)
    answers-event (event.Settle worker m o) = by_settled (λ ns. Answers ns ≡ []) (standing_in ms m) m o (outcome_in ms m) refl refl refl (λ e. refl)
    answers-event (event.Written worker m f) = by_written (λ ns. Answers ns ≡ []) (standing_in ms m) m f refl refl
    answers-event event.Pop = refl
    answers-event event.EndOfInput = refl
    answers-event (event.Claim role job) = refl
    answers-event (event.Deliver worker m t p) = by_opened (λ ns. Answers ns ≡ []) (standing_in ms m) m (named p) (outcome_in ms m) refl refl (λ u. refl) refl

    pub table-pushed : (e : Event) → table (before ++ e ∷ []) n ≡ fold kept_pair (table before n) (answers before n e)
    table-pushed e = ap (λ ns. table_in ns n) (moves-push before e) ∙ table-append ms (moves_after ms e) n ∙ ap (λ xs. fold kept_pair (table before n) xs) (answers-event e)

    -- ---- tasks

    abbrev Gets : List Move → List Task
    Gets ns = opens_in ns n

    gets-moves : (id : ℕ) (c : Command) → Gets (effect (found (key_of c)) id c) ≡ []
    gets-moves id (command.Build key options) = by options.context
      where
        by : (stays : Bool) → Gets (make key options ∷ cond stays (done id) (begun_moves (found key) id key options)) ≡ []
        by true = refl
        by false = refl
    gets-moves id (command.Rebuild key) = by (active_build before key)
      where
        by : (o : Option ℕ) → Gets (joined_or_begun (found key) id key o) ≡ []
        by (Some m) = refl
        by None = refl
    gets-moves id (command.Cancel key) = by_canceled (λ ns. Gets ns ≡ []) (found key) id key (options_of (context before key)).context (active_build before key) (done id) refl (λ m. refl) (λ m. refl) (λ m. refl)
    gets-moves id (command.Dispose key) = by_disposed (λ ns. Gets ns ≡ []) (found key) id key refl (λ m. refl) (λ m. refl) (λ m. refl) refl (λ m. refl) (λ m. refl) (λ m. refl)
    gets-moves id (command.Watch key) = refl
    gets-moves id (command.Serve key port) = refl
    gets-moves id command.Ping = refl

    gets-event : (e : Event) → Gets (moves_after ms e) ≡ names n before e
    gets-event (event.Arrive p) = by_packet Gets (λ v. []) [] refl p (λ a. by_verdict Gets (λ v. []) p.id (λ text. refl) (λ c is. gets-moves p.id c) a) ∙ nothing p.request
      where
        nothing : (t : Bool) → ◌≡◌ {A = List Task} (cond t [] []) []
        nothing true = refl
        nothing false = refl
    gets-event (event.Record worker m q a) = by_kept (λ ns. Gets ns ≡ []) (standing_in ms m) m q a (outcome_in ms m) refl refl refl refl
    gets-event (event.Settle worker m o) = by_settled (λ ns. Gets ns ≡ []) (standing_in ms m) m o (outcome_in ms m) refl refl refl (λ e. refl)
    gets-event (event.Written worker m f) = by_written (λ ns. Gets ns ≡ []) (standing_in ms m) m f refl refl
    gets-event (event.Deliver worker m t p) = by (outcome_in ms m)
      where
        none : (s : Bool) → ◌≡◌ {A = List Task} [] (cond s [] [])
        none true = refl
        none false = refl

        one : (u : Option Task) → Gets (opens m u) ≡ cond (nat_eq m n) (option_to_list u) []
        one None = none (nat_eq m n)
        one (Some v) = refl

        adds : (large : Bool) → Gets (added_or (standing_in ms m) m large (opens m (named p))) ≡ cond (nat_eq m n) (option_to_list (unless_large large (named p))) []
        adds true = by_stays (λ ns. Gets ns ≡ cond (nat_eq m n) [] []) (standing_in ms m).key (standing_in ms m).stays m too_large (none (nat_eq m n)) (none (nat_eq m n))
        adds false = one (named p)

        by : (o : Option Outcome) → Gets (opened_unless (standing_in ms m) m (named p) o) ≡ cond (nat_eq m n) (option_to_list (unless_settled o (unless_large (overopened before m p) (named p)))) []
        by None = adds (overopened before m p)
        by (Some o) = none (nat_eq m n)
    gets-event event.Pop = refl
    gets-event event.EndOfInput = refl
    gets-event (event.Claim role job) = refl

    pub opens-pushed : (e : Event) → opens_in (moves_in (before ++ e ∷ [])) n ≡ opens_in ms n ++ names n before e
    opens-pushed e = ap (λ ns. opens_in ns n) (moves-push before e) ∙ opens-append ms (moves_after ms e) n ∙ ap (λ (ts : List Task). opens_in ms n ++ ts) (gets-event e)

  -- ---- replies

  -- what moves owe behind the moves so far
  abbrev pub Owes : List Move → List Out
  Owes ns = gathered_from owes ms ns

  waits-same : (m : Move) (n : ℕ) → waits_with n m [] ≡ [] → waiting_in (ms ++ m ∷ []) n ≡ waiting before n
  waits-same m n none = waiting-append ms (m ∷ []) n ∙ ap (λ (ids : List (ℕ × Bool)). waiting before n ++ ids) none ∙ append-nil (waiting before n)

  owes-canceled : (id key : ℕ) (stays : Bool) (o : Option ℕ) → Owes (canceled (record (found key) { settled = is_settled_in ms o }) id key stays o (done id)) ≡ stopped before id o
  owes-canceled id key stays None = refl
  owes-canceled id key stays (Some n) = by (is_some (outcome before n))
    where
      by : (t : Bool) → Owes (canceled_or t id key stays n (done id)) ≡ cond t [] (results n (waiting before n) ++ empty id)
      by true = refl
      by false = by_stays_then (λ ns. Owes ns ≡ results n (waiting before n) ++ empty id) key stays n outcome_of.Canceled (done id) (settled-waits n) (settled-waits n)
        where
          settled-waits : (m : ℕ) → Owes (settle n outcome_of.Canceled ∷ close key n ∷ done id) ≡ results n (waiting before n) ++ empty id
          settled-waits m = ap (λ (ws : List (ℕ × Bool)). results n ws ++ empty id) (waits-same (settle n outcome_of.Canceled) n refl)

  owes-disposed : (id key : ℕ) (o : Option ℕ) → Owes (disposed (record (found key) { active = o; settled = is_settled_in ms o }) id key) ≡ stopped before id o
  owes-disposed id key None = refl
  owes-disposed id key (Some n) = by (is_some (outcome before n))
    where
      by : (t : Bool) → Owes (disposed (record (found key) { active = Some n; settled = t }) id key) ≡ cond t [] (results n (waiting before n) ++ empty id)
      by true = refl
      by false = ap (λ (ws : List (ℕ × Bool)). results n ws ++ empty id) (waits-same (settle n outcome_of.Canceled) n refl)

  -- a build that is settled and closed owes its results
  owes-ended : (n : ℕ) (o : Outcome) → results n (waiting_in (ms ++ settle n o ∷ []) n) ++ [] ≡ results n (waiting before n)
  owes-ended n o = append-nil (results n (waiting_in (ms ++ settle n o ∷ []) n)) ∙ ap (results n) (waits-same (settle n o) n refl)

  owes-moves : (id : ℕ) (c : Command) → refusal (found (key_of c)) c ≡ None → Owes (effect (found (key_of c)) id c) ≡ owed_by before id (accepted c)
  owes-moves id (command.Build key options) is = by options.context
    where
      by : (stays : Bool) → Owes (make key options ∷ cond stays (done id) (begun_moves (found key) id key options)) ≡ cond stays (empty id) []
      by true = refl
      by false = refl
  owes-moves id (command.Rebuild key) is = by (active_build before key)
    where
      by : (o : Option ℕ) → Owes (joined_or_begun (found key) id key o) ≡ []
      by (Some n) = refl
      by None = refl
  owes-moves id (command.Cancel key) is = owes-canceled id key (options_of (context before key)).context (active_build before key)
  owes-moves id (command.Dispose key) is = owes-disposed id key (active_build before key)
  owes-moves id (command.Watch key) is = refl
  owes-moves id (command.Serve key port) is = refl
  owes-moves id command.Ping is = refl

  -- work that ends a build owes its results
  owes-added : (n : ℕ) (adds : List Move) → Owes adds ≡ [] → outcome_in ms n ≡ None → (large : Bool) → Owes (added_or (standing_in ms n) n large adds) ≡ results_if large before n
  owes-added n adds none is true =
      by_stays (λ ns. Owes ns ≡ results n (waiting before n)) (standing_in ms n).key (standing_in ms n).stays n too_large (owes-ended n too_large) (owes-ended n too_large)
      ∙ ap (results_unless before n) (sym is)
  owes-added n adds none is false = none

  owes-none : (n : ℕ) (p : Outcome) → outcome_in ms n ≡ Some p → (large : Bool) → [] ≡ results_if large before n
  owes-none n p is true = ap (results_unless before n) (sym is)
  owes-none n p is false = refl

  pub owes-event : (e : Event) → Owes (moves_after ms e) ≡ owes_at before e
  owes-event (event.Arrive p) = by_packet Owes (owed_by before p.id) [] refl p (λ a. by_verdict Owes (owed_by before p.id) p.id (λ text. refl) (λ c is. owes-moves p.id c is) a)
  owes-event (event.Record worker n q a) = by (outcome_in ms n) refl
    where
      by : (o : Option Outcome) → outcome_in ms n ≡ o → Owes (kept_unless (standing_in ms n) n q a o) ≡ results_if (overfull before n q a) before n
      by None is = owes-added n (keep n q a ∷ []) refl is (overfull before n q a)
      by (Some p) is = owes-none n p is (overfull before n q a)
  owes-event (event.Settle worker n o) = by o (outcome_in ms n)
    where
      files : (fs : List OutFile) (writes stays : Bool) → Owes (settle n (outcome_of.Files fs) ∷ cond writes [] (closed (standing_in ms n).key stays n)) ≡ cond writes [] (results n (waiting before n))
      files fs true stays = refl
      files fs false true = owes-ended n (outcome_of.Files fs)
      files fs false false = owes-ended n (outcome_of.Files fs)

      late : (t : Bool) → ◌≡◌ {A = List Out} [] (cond t [] [])
      late true = refl
      late false = refl

      by : (o : Outcome) (p : Option Outcome) → Owes (settled_unless (standing_in ms n) n o p) ≡ cond (is_to_write (build before n) o) [] (results_unless before n p)
      by o (Some p) = late (is_to_write (build before n) o)
      by (outcome_of.Files fs) None = files fs (standing_in ms n).writes (standing_in ms n).stays
      by (outcome_of.Errors messages) None = by_stays (λ ns. Owes ns ≡ results n (waiting before n)) (standing_in ms n).key (standing_in ms n).stays n (outcome_of.Errors messages) (owes-ended n (outcome_of.Errors messages)) (owes-ended n (outcome_of.Errors messages))
      by outcome_of.Canceled None = by_stays (λ ns. Owes ns ≡ results n (waiting before n)) (standing_in ms n).key (standing_in ms n).stays n outcome_of.Canceled (owes-ended n outcome_of.Canceled) (owes-ended n outcome_of.Canceled)
      by outcome_of.Memory None = by_stays (λ ns. Owes ns ≡ results n (waiting before n)) (standing_in ms n).key (standing_in ms n).stays n outcome_of.Memory (owes-ended n outcome_of.Memory) (owes-ended n outcome_of.Memory)
  owes-event (event.Written worker n f) = by_written (λ ns. Owes ns ≡ results n (waiting before n)) (standing_in ms n) n f put put
    where
      put : results n (waiting_in (ms ++ write n f ∷ []) n) ++ [] ≡ results n (waiting before n)
      put = append-nil (results n (waiting_in (ms ++ write n f ∷ []) n)) ∙ ap (results n) (waits-same (write n f) n refl)
  owes-event event.Pop = refl
  owes-event event.EndOfInput = refl
  owes-event (event.Claim role job) = refl
  owes-event (event.Deliver worker n t p) = by (outcome_in ms n) refl
    where
      quiet : (u : Option Task) → Owes (opens n u) ≡ []
      quiet None = refl
      quiet (Some v) = refl

      by : (o : Option Outcome) → outcome_in ms n ≡ o → Owes (opened_unless (standing_in ms n) n (named p) o) ≡ results_if (overopened before n p) before n
      by None is = owes-added n (opens n (named p)) (quiet (named p)) is (overopened before n p)
      by (Some o) is = owes-none n o is (overopened before n p)

  -- ---- contexts

  abbrev Known : List Move → List (ℕ × Options)
  Known ns = fold context_at (contexts before) ns

  known-canceled : (id key : ℕ) (stays : Bool) (o : Option ℕ) → Known (canceled (record (found key) { settled = is_settled_in ms o }) id key stays o (done id)) ≡ gone_if before key stays o (contexts before)
  known-canceled id key stays None = refl
  known-canceled id key stays (Some n) = by (is_some (outcome before n)) stays
    where
      by : (t s : Bool) → Known (canceled_or t id key s n (done id)) ≡ cond (t || s) (contexts before) (without key (contexts before))
      by true s = refl
      by false true = refl
      by false false = refl

  known-disposed : (id key : ℕ) (o : Option ℕ) → Known (disposed (record (found key) { active = o; settled = is_settled_in ms o }) id key) ≡ disposed_if before key o (contexts before)
  known-disposed id key None = refl
  known-disposed id key (Some n) = by (is_some (outcome before n))
    where
      by : (t : Bool) → Known (disposed (record (found key) { active = Some n; settled = t }) id key) ≡ cond t (contexts before) (without key (contexts before))
      by true = refl
      by false = refl

  known-moves : (id : ℕ) (c : Command) → Known (effect (found (key_of c)) id c) ≡ contexts_by before (accepted c)
  known-moves id (command.Build key options) = by options.context
    where
      by : (stays : Bool) → Known (make key options ∷ cond stays (done id) (begun_moves (found key) id key options)) ≡ contexts before ++ (key, options) ∷ []
      by true = refl
      by false = refl
  known-moves id (command.Rebuild key) = by (active_build before key)
    where
      by : (o : Option ℕ) → Known (joined_or_begun (found key) id key o) ≡ contexts before
      by (Some n) = refl
      by None = refl
  known-moves id (command.Cancel key) = known-canceled id key (options_of (context before key)).context (active_build before key)
  known-moves id (command.Dispose key) = known-disposed id key (active_build before key)
  known-moves id (command.Watch key) = refl
  known-moves id (command.Serve key port) = refl
  known-moves id command.Ping = refl

  known-ended : (n : ℕ) (o : Outcome) (stays : Bool) → Known (ended (build before n).key stays n o) ≡ cond stays (contexts before) (without (build before n).key (contexts before))
  known-ended n o true = refl
  known-ended n o false = refl

  known-added : (n : ℕ) (adds : List Move) → Known adds ≡ contexts before → (large : Bool) → Known (added_or (standing_in ms n) n large adds) ≡ gone_large large (build before n).key (stays_after before n) None (contexts before)
  known-added n adds same false = same
  known-added n adds same true = known-ended n too_large (stays_after before n)

  known-none : (n : ℕ) (p : Outcome) (large : Bool) → contexts before ≡ gone_large large (build before n).key (stays_after before n) (Some p) (contexts before)
  known-none n p true = refl
  known-none n p false = refl

  known-event : (e : Event) → Known (moves_after ms e) ≡ contexts_at before e
  known-event (event.Arrive p) = by_packet Known (contexts_by before) (contexts before) refl p (λ a. by_verdict Known (contexts_by before) p.id (λ text. refl) (λ c is. known-moves p.id c) a)
  known-event (event.Record worker n q a) = by (outcome_in ms n) (overfull before n q a) refl
    where
      by : (o : Option Outcome) (large : Bool) → overfull before n q a ≡ large → Known (kept_unless (standing_in ms n) n q a o) ≡ gone_large large (build before n).key (stays_after before n) o (contexts before)
      by None large is = ap (λ l. Known (added_or (standing_in ms n) n l (keep n q a ∷ []))) is ∙ known-added n (keep n q a ∷ []) refl large
      by (Some o) large is = known-none n o large
  known-event (event.Settle worker n o) = by o (outcome_in ms n)
    where
      files : (fs : List OutFile) (writes stays : Bool) → Known (settle n (outcome_of.Files fs) ∷ cond writes [] (closed (build before n).key stays n)) ≡ cond writes (contexts before) (cond stays (contexts before) (without (build before n).key (contexts before)))
      files fs true stays = refl
      files fs false true = refl
      files fs false false = refl

      late : (t : Bool) → contexts before ≡ cond t (contexts before) (contexts before)
      late true = refl
      late false = refl

      by : (o : Outcome) (p : Option Outcome) → Known (settled_unless (standing_in ms n) n o p) ≡ cond (is_to_write (build before n) o) (contexts before) (gone_unless (build before n).key (stays_after before n) p (contexts before))
      by o (Some p) = late (is_to_write (build before n) o)
      by (outcome_of.Files fs) None = files fs (standing_in ms n).writes (stays_after before n)
      by (outcome_of.Errors messages) None = known-ended n (outcome_of.Errors messages) (stays_after before n)
      by outcome_of.Canceled None = known-ended n outcome_of.Canceled (stays_after before n)
      by outcome_of.Memory None = known-ended n outcome_of.Memory (stays_after before n)
  known-event (event.Written worker n f) = by (stays_after before n)
    where
      by : (stays : Bool) → Known (write n f ∷ closed (build before n).key stays n) ≡ cond stays (contexts before) (without (build before n).key (contexts before))
      by true = refl
      by false = refl
  known-event event.Pop = refl
  known-event event.EndOfInput = refl
  known-event (event.Claim role job) = refl
  known-event (event.Deliver worker n t p) = by (outcome_in ms n) (overopened before n p) refl
    where
      quiet : (u : Option Task) → Known (opens n u) ≡ contexts before
      quiet None = refl
      quiet (Some v) = refl

      by : (o : Option Outcome) (large : Bool) → overopened before n p ≡ large → Known (opened_unless (standing_in ms n) n (named p) o) ≡ gone_large large (build before n).key (stays_after before n) o (contexts before)
      by None large is = ap (λ l. Known (added_or (standing_in ms n) n l (opens n (named p)))) is ∙ known-added n (opens n (named p)) (quiet (named p)) large
      by (Some o) large is = known-none n o large

  pub contexts-pushed : (e : Event) → contexts (before ++ e ∷ []) ≡ contexts_at before e
  contexts-pushed e = ap contexts_in (moves-push before e) ∙ fold-append context_at [] ms (moves_after ms e) ∙ known-event e

  pub all_owed-pushed : (e : Event) → all_owed (before ++ e ∷ []) ≡ all_owed before ++ owes_at before e
  all_owed-pushed e = ap owed_in (moves-push before e) ∙ gathered_from-append owes [] ms (moves_after ms e) ∙ ap (λ (os : List Out). all_owed before ++ os) (owes-event e)
