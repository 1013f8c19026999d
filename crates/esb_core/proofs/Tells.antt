-- What the machine tells, and which events may come, by the list.
use Rattle.std.proofs.Common.{◌≡◌, ◌↔◌, ℕ, zero, suc, ◌<◌, Bool, true, not, ◌&&◌, List, [], ◌∷◌, length, Option, None, Some, IsSome, refl, sym, ap, subst, ◌∙◌, arith, nat_lt, slice_get}
use Rattle.std.specs.List.{list_any, list_all}
use Rattle.esb_wire.specs.declared.value.Packet.{Packet}
use Rattle.esb_ask.specs.declared.question.Question.{Question}
use Rattle.esb_ask.specs.declared.answer.Answer.{Answer}
use Rattle.esb_ask.specs.declared.task.Task.{Task}
use Rattle.esb_ask.specs.declared.outcome.Outcome.{Outcome}
use Rattle.esb_ask.specs.Table.{fits}
use Rattle.esb_core.specs.declared.event.Event.{Event}
use Rattle.esb_core.specs.declared.event.Event.TheVariants as event
use Rattle.esb_core.specs.State.{Building, build_at}
use Rattle.esb_core.specs.Steps.{told_deliver, told_record, told_pop, told_stale}
use Rattle.esb_core.specs.Allowed.{allowed, is_closed, is_closing, may_arrive}
use Rattle.esb_core.specs.History.{builds, owed, table, tasks, is_legal, replay, next}
use Rattle.esb_core.specs.Laws.{ends_input, tells, IsOver, ShowsHistory}
use Rattle.esb_core.proofs.Claims.{both_parts}
use Rattle.esb_core.proofs.Shows.{shows}

shown : (events : List Event) → is_legal events ≡ true → ShowsHistory (replay events) events
shown events legal = shows (replay events) events (record { legal = legal; replayed = refl })

-- ---- what is told

pub told-by : (events : List Event) (e : Event) → is_legal events ≡ true → next events e ≡ tells events e
told-by events (event.Record worker n q a) legal =
    let h = shown events legal in
    ap (λ (t : List (Question × Answer)). told_record t q a (build_at (replay events).builds n).outcome) (h.tables n) ∙ ap (λ o. told_record (table events n) q a o) (h.outcomes n)
told-by events (event.Deliver worker n t p) legal =
    let h = shown events legal in
    ap (λ (ts : List Task). told_deliver ts p (build_at (replay events).builds n).outcome) (h.tasks n) ∙ ap (λ o. told_deliver (tasks events n) p o) (h.outcomes n)
told-by events (event.Settle worker n o) legal = let h = shown events legal in ap told_stale (h.outcomes n)
told-by events (event.Written worker n f) legal = refl
told-by events event.Pop legal = let h = shown events legal in ap (λ os. told_pop (slice_get os 0)) h.owes
told-by events (event.Arrive packet) legal = refl
told-by events event.EndOfInput legal = refl
told-by events (event.Claim role job) legal = refl

-- ---- what may come

pub may-arrive-by : (events : List Event) (packet : Packet) → is_legal events ≡ true → allowed (replay events) (event.Arrive packet) ≡ (not (list_any ends_input events) && may_arrive packet)
may-arrive-by events packet legal = let h = shown events legal in ap (λ t. not t && may_arrive packet) h.ended

pub may-end-by : (events : List Event) → is_legal events ≡ true → allowed (replay events) event.EndOfInput ≡ not (list_any ends_input events)
may-end-by events legal = let h = shown events legal in ap not h.ended

pub may-record-by : (events : List Event) (worker n : ℕ) (q : Question) (a : Answer) → is_legal events ≡ true
    → allowed (replay events) (event.Record worker n q a) ≡ (nat_lt n (length (builds events)) && fits q a)
may-record-by events worker n q a legal = let h = shown events legal in ap (λ k. nat_lt n k && fits q a) h.number

pub may-pop-by : (events : List Event) → is_legal events ≡ true → allowed (replay events) event.Pop ≡ nat_lt 0 (length (owed events))
may-pop-by events legal = let h = shown events legal in ap (λ os. nat_lt 0 (length os)) h.owes

-- ---- the end

each-closed : (bs : List Building) → list_all is_closed bs ≡ true → (n : ℕ) → n < length bs → (build_at bs n).closed ≡ true
each-closed [] all n lt = absurd (omega arith)
each-closed (b ∷ bs) all zero lt = (both_parts (is_closed b) (list_all is_closed bs) all).0
each-closed (b ∷ bs) all (suc n) lt = each-closed bs (both_parts (is_closed b) (list_all is_closed bs) all).1 n (omega arith)

both : (a b : Bool) → a ≡ true → b ≡ true → (a && b) ≡ true
both a b h k = rw (h, k) refl

all-closed : (bs : List Building) → ((n : ℕ) → n < length bs → (build_at bs n).closed ≡ true) → list_all is_closed bs ≡ true
all-closed [] each = refl
all-closed (b ∷ bs) each = both (is_closed b) (list_all is_closed bs) (each 0 (omega arith)) (all-closed bs (λ n lt. each (suc n) (omega arith)))

pub closes-by : (events : List Event) → is_legal events ≡ true → (is_closing (replay events) ≡ true) ↔ IsOver events
closes-by events legal = (over, back)
  where
    over : is_closing (replay events) ≡ true → IsOver events
    over e =
        let parts = both_parts (replay events).ended (list_all is_closed (replay events).builds) e in
        let h = shown events legal in
        record {
          input = sym h.ended ∙ parts.0;
          closed = λ n lt. sym (h.closed n) ∙ each-closed (replay events).builds parts.1 n (let same = h.number in omega (arith, same, lt));
        }

    back : IsOver events → is_closing (replay events) ≡ true
    back g =
        let h = shown events legal in
        both (replay events).ended (list_all is_closed (replay events).builds) (h.ended ∙ g.input)
        (all-closed (replay events).builds (λ n lt. h.closed n ∙ g.closed n (let same = h.number in omega (arith, same, lt))))
