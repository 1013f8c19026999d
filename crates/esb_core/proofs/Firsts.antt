-- Which event gives the answer that is kept.
use Rattle.std.proofs.Common.{◌≡◌, ℕ, ◌+◌, ◌≤◌, Bool, true, false, cond, ◌&&◌, ◌||◌, List, [], ◌∷◌, ◌++◌, length, take, Option, None, Some, unwrap_or, refl, sym, ap, ◌∙◌, append_assoc, append-nil, arith, nat_eq, eq-eqb, eqb-true}
use Rattle.std.specs.Prelude.{count_by}
use Rattle.std.specs.List.{list_any, fold}
use Rattle.std.proofs.Math.Bool.{or-false}
use Rattle.std.proofs.Math.Seq.{take-append_seam}
use Rattle.std.proofs.lemmas.Bool.{false≢true}
use Rattle.std.proofs.lemmas.List.Folds.{list_any-append}
use Rattle.std.proofs.lemmas.List.Sums.{sum_by-cons}
use Rattle.esb_ask.specs.declared.question.Question.{Question}
use Rattle.esb_ask.specs.declared.answer.Answer.{Answer}
use Rattle.esb_ask.specs.declared.outcome.Outcome.{Outcome}
use Rattle.esb_ask.specs.Table.{same_question, answer_to, kept}
use Rattle.esb_ask.proofs.Tables.{equal-from_same, same-refl, kept_answers, kept_apart, kept-absent, kept-present}
use Rattle.esb_core.specs.declared.event.Event.{Event}
use Rattle.esb_core.specs.declared.event.Event.TheVariants as event
use Rattle.esb_core.specs.Moves.{Move}
use Rattle.esb_core.specs.History.{moves_in, answers_in, kept_pair, or_later, table_in, outcome, table}
use Rattle.esb_core.specs.Sizes.{too_large}
use Rattle.esb_core.specs.Laws.{large_if, overfull, answered_if, answers, answers_it, is_about, IsAnsweredBy}
use Rattle.esb_core.proofs.Ends.{outcome-stays, unsettled-before}
use Rattle.esb_core.proofs.Legal.{each}
use Rattle.esb_core.proofs.Lookups.{not_none}
use Rattle.esb_core.proofs.Moving.{IsLonger, moves-longer, table-append, count-push}
use Rattle.esb_core.proofs.Pushed.{outcome-pushed, table-pushed}

-- ---- tables grow at their end

start-of : {X : Type 0} (xs ys : List X) → IsLonger xs ys → take (length xs) ys ≡ xs
start-of xs ys h = ap (λ zs. take (length xs) zs) h.is ∙ take-append_seam xs h.rest

kept-longer : (t : List (Question × Answer)) (q : Question) (a : Answer) → IsLonger t (kept t q a)
kept-longer t q a = by (answer_to t q) refl
  where
    by : (r : Option Answer) → answer_to t q ≡ r → IsLonger t (kept t q a)
    by None none = record { rest = (q, a) ∷ []; is = kept-absent t q a none }
    by (Some first) some = record { rest = []; is = kept-present t q a first some ∙ sym (append-nil t) }

fold-longer : (t xs : List (Question × Answer)) → IsLonger t (fold kept_pair t xs)
fold-longer t [] = record { rest = []; is = sym (append-nil t) }
fold-longer t (pair ∷ pairs) =
    let one = kept-longer t pair.0 pair.1 in
    let more = fold-longer (kept_pair t pair) pairs in
    record { rest = one.rest ++ more.rest; is = more.is ∙ ap (λ xs. xs ++ more.rest) one.is ∙ append_assoc t one.rest more.rest }

table-longer : (es fs : List Event) (n : ℕ) → IsLonger (table es n) (table (es ++ fs) n)
table-longer es fs n =
    let more = moves-longer es fs in
    let longer = fold-longer (table es n) (answers_in more.rest n) in
    record { rest = longer.rest; is = ap (λ (ms : List Move). table_in ms n) more.is ∙ table-append (moves_in es) more.rest n ∙ longer.is }

pub table-grows : (es fs : List Event) (n : ℕ) → take (length (table es n)) (table (es ++ fs) n) ≡ table es n
table-grows es fs n = start-of (table es n) (table (es ++ fs) n) (table-longer es fs n)

-- what a table answers it still answers once it goes on
longer-answers : (t u : List (Question × Answer)) (q : Question) (a : Answer) → answer_to t q ≡ Some a → answer_to (t ++ u) q ≡ Some a
longer-answers [] u q a e = not_none a (sym e)
longer-answers (pair ∷ t) u q a e = by (same_question q pair.0) e (longer-answers t u q a)
  where
    by : (b : Bool) → cond b (Some pair.1) (answer_to t q) ≡ Some a → (answer_to t q ≡ Some a → answer_to (t ++ u) q ≡ Some a) → cond b (Some pair.1) (answer_to (t ++ u) q) ≡ Some a
    by true is rec = is
    by false is rec = rec is

pub kept-stays : (es fs : List Event) (n : ℕ) (q : Question) (a : Answer) → answer_to (table es n) q ≡ Some a → answer_to (table (es ++ fs) n) q ≡ Some a
kept-stays es fs n q a e = let more = table-longer es fs n in ap (λ (t : List (Question × Answer)). answer_to t q) more.is ∙ longer-answers (table es n) more.rest q a e

-- ---- each question once

absent-none : (q : Question) (t : List (Question × Answer)) → answer_to t q ≡ None → count_by (is_about q) t ≡ 0
absent-none q [] none = refl
absent-none q (pair ∷ pairs) none = sum_by-cons (λ p. cond (is_about q p) 1 0) pair pairs ∙ by (same_question q pair.0) none (absent-none q pairs)
  where
    by : (t : Bool) → cond t (Some pair.1) (answer_to pairs q) ≡ None → (answer_to pairs q ≡ None → count_by (is_about q) pairs ≡ 0) → cond t 1 0 + count_by (is_about q) pairs ≡ 0
    by true is rec = not_none pair.1 is
    by false is rec = let rest = rec is in omega (arith, rest)

kept-once : (q : Question) (t : List (Question × Answer)) (pair : Question × Answer) → count_by (is_about q) t ≤ 1 → count_by (is_about q) (kept_pair t pair) ≤ 1
kept-once q t pair once = by (answer_to t pair.0) refl
  where
    new : answer_to t pair.0 ≡ None → (b : Bool) → same_question q pair.0 ≡ b → count_by (is_about q) t + cond b 1 0 ≤ 1
    new none true same = let zero_of : count_by (is_about q) t ≡ 0 = absent-none q t (ap (λ (k : Question). answer_to t k) (equal-from_same q pair.0 same) ∙ none) in omega (arith, zero_of)
    new none false apart = omega (arith, once)

    by : (r : Option Answer) → answer_to t pair.0 ≡ r → count_by (is_about q) (kept_pair t pair) ≤ 1
    by None none =
        let all : count_by (is_about q) (kept_pair t pair) ≡ count_by (is_about q) t + cond (same_question q pair.0) 1 0 =
        ap (λ xs. count_by (is_about q) xs) (kept-absent t pair.0 pair.1 none) ∙ count-push (is_about q) t (pair.0, pair.1) in
        let few = new none (same_question q pair.0) refl in
        omega (arith, all, few)
    by (Some first) some = let all = ap (λ xs. count_by (is_about q) xs) (kept-present t pair.0 pair.1 first some) in omega (arith, all, once)

fold-once : (q : Question) (t xs : List (Question × Answer)) → count_by (is_about q) t ≤ 1 → count_by (is_about q) (fold kept_pair t xs) ≤ 1
fold-once q t [] once = once
fold-once q t (pair ∷ pairs) once = fold-once q (kept_pair t pair) pairs (kept-once q t pair once)

pub table-once : (es : List Event) (n : ℕ) (q : Question) → count_by (is_about q) (table es n) ≤ 1
table-once es n q = fold-once q [] (answers_in (moves_in es) n) (omega arith)

-- ---- settled builds

-- what an event gives to a settled build is nothing
settled-silent : (es : List Event) (n : ℕ) (o : Outcome) (e : Event) → outcome es n ≡ Some o → answers es n e ≡ []
settled-silent es n o (event.Record worker m q a) is = by (nat_eq m n) refl
  where
    by : (t : Bool) → nat_eq m n ≡ t → cond t (answered_if (outcome es m) (overfull es m q a) q a) [] ≡ []
    by true same = ap (λ (p : Option Outcome). answered_if p (overfull es m q a) q a) (ap (λ (k : ℕ). outcome es k) (eqb-true m n same) ∙ is)
    by false apart = refl
settled-silent es n o (event.Arrive p) is = refl
settled-silent es n o event.EndOfInput is = refl
settled-silent es n o (event.Claim role job) is = refl
settled-silent es n o (event.Deliver worker m t p) is = refl
settled-silent es n o (event.Settle worker m p) is = refl
settled-silent es n o event.Pop is = refl
settled-silent es n o (event.Written worker m f) is = refl

pub table-stays : (es fs : List Event) (n : ℕ) (o : Outcome) → outcome es n ≡ Some o → table (es ++ fs) n ≡ table es n
table-stays es fs n o is = each (λ gs. table (es ++ gs) n ≡ table es n) (ap (λ (xs : List Event). table xs n) (append-nil es)) step fs
  where
    step : (gs : List Event) (e : Event) → table (es ++ gs) n ≡ table es n → table (es ++ (gs ++ e ∷ [])) n ≡ table es n
    step gs e rec =
        ap (λ (xs : List Event). table xs n) (sym (append_assoc es gs (e ∷ []))) ∙ table-pushed (es ++ gs) n e
        ∙ ap (λ xs. fold kept_pair (table (es ++ gs) n) xs) (settled-silent (es ++ gs) n o e (outcome-stays es gs n o is)) ∙ rec

-- ---- the earliest

-- what the answer that is kept is, once another came
kept-or : (t : List (Question × Answer)) (q k : Question) (a : Answer) (b : Bool) → same_question q k ≡ b → (r : Option Answer) → answer_to t q ≡ r → answer_to (kept t k a) q ≡ cond b (Some (unwrap_or r a)) r
kept-or t q k a true same r is = ap (λ (j : Question). answer_to (kept t j a) q) (sym (equal-from_same q k same)) ∙ kept_answers t q a ∙ ap (λ (s : Option Answer). Some (unwrap_or s a)) is
kept-or t q k a false apart r is = kept_apart t k a q apart ∙ is

any-push : {X : Type 0} (p : X → Bool) (xs : List X) (x : X) → list_any p (xs ++ x ∷ []) ≡ (list_any p xs || p x)
any-push p xs x = list_any-append p xs (x ∷ []) ∙ ap (λ t. list_any p xs || t) (or-false (p x))

both-false : (a b : Bool) → a ≡ false → b ≡ false → (a || b) ≡ false
both-false a b e f = ap (λ (t : Bool). t || b) e ∙ f

-- an event that has no answer to the question of the build
silent : (es : List Event) (n : ℕ) (q : Question) (e : Event) → answers_it n q e ≡ false → answer_to (fold kept_pair (table es n) (answers es n e)) q ≡ answer_to (table es n) q
silent es n q (event.Record worker m k a) other = by (nat_eq m n) (same_question q k) refl other (outcome es m) (overfull es m k a)
  where
    by : (t s : Bool) → same_question q k ≡ s → (t && s) ≡ false → (o : Option Outcome) (large : Bool) → answer_to (fold kept_pair (table es n) (cond t (answered_if o large k a) [])) q ≡ answer_to (table es n) q
    by true true is e o large = absurd (false≢true (sym e))
    by true false is e None false = kept-or (table es n) q k a false is (answer_to (table es n) q) refl
    by true false is e None true = refl
    by true false is e (Some o) large = refl
    by false s is e o large = refl
silent es n q (event.Arrive p) other = refl
silent es n q event.EndOfInput other = refl
silent es n q (event.Claim role job) other = refl
silent es n q (event.Deliver worker m t p) other = refl
silent es n q (event.Settle worker m o) other = refl
silent es n q event.Pop other = refl
silent es n q (event.Written worker m f) other = refl

left-false : (a b : Bool) → (a || b) ≡ false → a ≡ false
left-false true b e = absurd (false≢true (sym e))
left-false false b e = refl

right-false : (a b : Bool) → (a || b) ≡ false → b ≡ false
right-false true b e = absurd (false≢true (sym e))
right-false false b e = e

none-kept : (events : List Event) (n : ℕ) (q : Question) → list_any (answers_it n q) events ≡ false → answer_to (table events n) q ≡ None
none-kept events n q = each (λ es. list_any (answers_it n q) es ≡ false → answer_to (table es n) q ≡ None) (λ e. refl) step events
  where
    step : (es : List Event) (e : Event) → (list_any (answers_it n q) es ≡ false → answer_to (table es n) q ≡ None) → list_any (answers_it n q) (es ++ e ∷ []) ≡ false → answer_to (table (es ++ e ∷ []) n) q ≡ None
    step es e rec is =
        let parts = sym (any-push (answers_it n q) es e) ∙ is in
        ap (λ (t : List (Question × Answer)). answer_to t q) (table-pushed es n e) ∙ silent es n q e (right-false (list_any (answers_it n q) es) (answers_it n q e) parts)
        ∙ rec (left-false (list_any (answers_it n q) es) (answers_it n q e) parts)

-- the answer of an event that comes first
first-kept : (es : List Event) (worker n : ℕ) (q : Question) (a : Answer) → outcome es n ≡ None → overfull es n q a ≡ false → answer_to (table es n) q ≡ None → answer_to (table (es ++ event.Record worker n q a ∷ []) n) q ≡ Some a
first-kept es worker n q a unsettled small none =
    ap (λ (t : List (Question × Answer)). answer_to t q) (table-pushed es n (event.Record worker n q a))
    ∙ ap (λ (t : Bool). answer_to (fold kept_pair (table es n) (cond t (answered_if (outcome es n) (overfull es n q a) q a) [])) q) (eq-eqb n n refl)
    ∙ ap (λ (o : Option Outcome). answer_to (fold kept_pair (table es n) (answered_if o (overfull es n q a) q a)) q) unsettled
    ∙ ap (λ (large : Bool). answer_to (fold kept_pair (table es n) (answered_if None large q a)) q) small
    ∙ kept-or (table es n) q q a true (same-refl q) None none

pub earliest-kept : (events : List Event) (n : ℕ) (q : Question) (a : Answer) → IsAnsweredBy events n q a → answer_to (table events n) q ≡ Some a
earliest-kept events n q a h =
    ap (λ (es : List Event). answer_to (table es n) q) (h.at ∙ sym (append_assoc h.before (event.Record h.worker n q a ∷ []) h.more))
    ∙ kept-stays (h.before ++ event.Record h.worker n q a ∷ []) h.more n q a (first-kept h.before h.worker n q a h.unsettled h.fits (none-kept h.before n q h.earliest))

-- an answer that would be too much settles the build that isn't settled
ends-now : (es : List Event) (worker n : ℕ) (q : Question) (a : Answer) → outcome es n ≡ None → overfull es n q a ≡ true → outcome (es ++ event.Record worker n q a ∷ []) n ≡ Some too_large
ends-now es worker n q a unsettled over =
    outcome-pushed es n (event.Record worker n q a)
    ∙ ap (λ (t : Bool). or_later (outcome es n) (cond t (large_if (overfull es n q a)) None)) (eq-eqb n n refl)
    ∙ ap (λ (large : Bool). or_later (outcome es n) (large_if large)) over
    ∙ ap (λ (o : Option Outcome). or_later o (Some too_large)) unsettled

-- an answer that would be too much isn't kept
not-kept : (es : List Event) (worker n : ℕ) (q : Question) (a : Answer) → outcome es n ≡ None → overfull es n q a ≡ true → table (es ++ event.Record worker n q a ∷ []) n ≡ table es n
not-kept es worker n q a unsettled over =
    table-pushed es n (event.Record worker n q a)
    ∙ ap (λ (t : Bool). fold kept_pair (table es n) (cond t (answered_if (outcome es n) (overfull es n q a) q a) [])) (eq-eqb n n refl)
    ∙ ap (λ (o : Option Outcome). fold kept_pair (table es n) (answered_if o (overfull es n q a) q a)) unsettled
    ∙ ap (λ (large : Bool). fold kept_pair (table es n) (answered_if None large q a)) over

-- where nothing is kept and the build isn't settled, nothing was answered
none-answered : (events : List Event) (n : ℕ) (q : Question) → outcome events n ≡ None → answer_to (table events n) q ≡ None → list_any (answers_it n q) events ≡ false
none-answered events n q = each (λ es. outcome es n ≡ None → answer_to (table es n) q ≡ None → list_any (answers_it n q) es ≡ false) (λ e f. refl) step events
  where
    step : (es : List Event) (e : Event) → (outcome es n ≡ None → answer_to (table es n) q ≡ None → list_any (answers_it n q) es ≡ false) → outcome (es ++ e ∷ []) n ≡ None → answer_to (table (es ++ e ∷ []) n) q ≡ None
        → list_any (answers_it n q) (es ++ e ∷ []) ≡ false
    step es e rec unsettled none = any-push (answers_it n q) es e ∙ both-false (list_any (answers_it n q) es) (answers_it n q e) (rec still (absent (answer_to (table es n) q) refl)) (own e refl)
      where
        still : outcome es n ≡ None
        still = unsettled-before es (e ∷ []) n unsettled

        absent : (r : Option Answer) → answer_to (table es n) q ≡ r → r ≡ None
        absent None is = refl
        absent (Some a) is = not_none a (sym (kept-stays es (e ∷ []) n q a is) ∙ none)

        own : (d : Event) → e ≡ d → answers_it n q d ≡ false
        own (event.Record worker m k a) is = by (nat_eq m n) (same_question q k) refl refl
          where
            -- an answer that would be too much settles the build
            large : event.Record worker m k a ≡ event.Record worker n q a → (l : Bool) → overfull es n q a ≡ l → (true && true) ≡ false
            large mine true over = not_none too_large (sym (ends-now es worker n q a still over) ∙ ap (λ (d : Event). outcome (es ++ d ∷ []) n) (sym (is ∙ mine)) ∙ unsettled)
            large mine false small =
                not_none a
                (sym (first-kept es worker n q a still small (absent (answer_to (table es n) q) refl)) ∙ ap (λ (d : Event). answer_to (table (es ++ d ∷ []) n) q) (sym (is ∙ mine)) ∙ none)

            by : (t s : Bool) → nat_eq m n ≡ t → same_question q k ≡ s → (t && s) ≡ false
            by true true number same =
                let mine : event.Record worker m k a ≡ event.Record worker n q a = ap (λ (j : ℕ). event.Record worker j k a) (eqb-true m n number) ∙ ap (λ (j : Question). event.Record worker n j a) (sym (equal-from_same q k same)) in
                large mine (overfull es n q a) refl
            by true false number apart = refl
            by false s apart is = refl
        own (event.Arrive p) is = refl
        own event.EndOfInput is = refl
        own (event.Claim role job) is = refl
        own (event.Deliver worker m t p) is = refl
        own (event.Settle worker m o) is = refl
        own event.Pop is = refl
        own (event.Written worker m f) is = refl

extended : (es : List Event) (e : Event) (n : ℕ) (q : Question) (a : Answer) → IsAnsweredBy es n q a → IsAnsweredBy (es ++ e ∷ []) n q a
extended es e n q a h = record {
  before = h.before;
  worker = h.worker;
  more = h.more ++ e ∷ [];
  at = ap (λ (xs : List Event). xs ++ e ∷ []) h.at ∙ append_assoc h.before (event.Record h.worker n q a ∷ h.more) (e ∷ []);
  earliest = h.earliest;
  unsettled = h.unsettled;
  fits = h.fits;
}

pub kept-earliest : (events : List Event) (n : ℕ) (q : Question) (a : Answer) → answer_to (table events n) q ≡ Some a → IsAnsweredBy events n q a
kept-earliest events n q = each (λ es. (a : Answer) → answer_to (table es n) q ≡ Some a → IsAnsweredBy es n q a) (λ a is. not_none a (sym is)) step events
  where
    step : (es : List Event) (e : Event) → ((a : Answer) → answer_to (table es n) q ≡ Some a → IsAnsweredBy es n q a) → (a : Answer) → answer_to (table (es ++ e ∷ []) n) q ≡ Some a → IsAnsweredBy (es ++ e ∷ []) n q a
    step es e rec a is = by (answer_to (table es n) q) refl
      where
        own : (d : Event) → e ≡ d → answer_to (table es n) q ≡ None → (t : Bool) → answers_it n q d ≡ t → IsAnsweredBy (es ++ e ∷ []) n q a
        own d same none false other =
            not_none a (sym (sym (ap (λ (t : List (Question × Answer)). answer_to t q) (table-pushed es n e) ∙ silent es n q e (ap (answers_it n q) same ∙ other)) ∙ is) ∙ none)
        own (event.Record worker m k b) same none true it = at (nat_eq m n) (same_question q k) refl refl it
          where
            at : (t s : Bool) → nat_eq m n ≡ t → same_question q k ≡ s → (t && s) ≡ true → IsAnsweredBy (es ++ e ∷ []) n q a
            at true true number asks f = settled (outcome es n) refl
              where
                mine : event.Record worker m k b ≡ event.Record worker n q b
                mine = ap (λ (j : ℕ). event.Record worker j k b) (eqb-true m n number) ∙ ap (λ (j : Question). event.Record worker n j b) (sym (equal-from_same q k asks))

                settled : (o : Option Outcome) → outcome es n ≡ o → IsAnsweredBy (es ++ e ∷ []) n q a
                settled (Some o) some =
                    not_none a (sym is ∙ ap (λ (t : List (Question × Answer)). answer_to t q) (table-stays es (e ∷ []) n o some) ∙ none)
                settled None unsettled = sized (overfull es n q b) refl
                  where
                    sized : (large : Bool) → overfull es n q b ≡ large → IsAnsweredBy (es ++ e ∷ []) n q a
                    sized true over =
                        not_none a
                        (sym is ∙ ap (λ (d : Event). answer_to (table (es ++ d ∷ []) n) q) (same ∙ mine) ∙ ap (λ (t : List (Question × Answer)). answer_to t q) (not-kept es worker n q b unsettled over) ∙ none)
                    sized false small =
                        let here : Some b ≡ Some a = sym (first-kept es worker n q b unsettled small none) ∙ ap (λ (d : Event). answer_to (table (es ++ d ∷ []) n) q) (sym (same ∙ mine)) ∙ is in
                        let said : b ≡ a = cc in
                        record {
                          before = es;
                          worker = worker;
                          more = [];
                          at = ap (λ (d : Event). es ++ d ∷ []) (same ∙ mine ∙ ap (λ (c : Answer). event.Record worker n q c) said);
                          earliest = none-answered es n q unsettled none;
                          unsettled = unsettled;
                          fits = ap (λ (c : Answer). overfull es n q c) (sym said) ∙ small;
                        }
            at true false number apart f = absurd (false≢true f)
            at false s apart other f = absurd (false≢true f)
        own (event.Arrive p) same none true it = absurd (false≢true it)
        own event.EndOfInput same none true it = absurd (false≢true it)
        own (event.Claim role job) same none true it = absurd (false≢true it)
        own (event.Deliver worker m t p) same none true it = absurd (false≢true it)
        own (event.Settle worker m o) same none true it = absurd (false≢true it)
        own (event.Written worker m f) same none true it = absurd (false≢true it)
        own event.Pop same none true it = absurd (false≢true it)

        by : (r : Option Answer) → answer_to (table es n) q ≡ r → IsAnsweredBy (es ++ e ∷ []) n q a
        by (Some b) some =
            let same : Some b ≡ Some a = sym (kept-stays es (e ∷ []) n q b some) ∙ is in
            extended es e n q a (rec a (some ∙ same))
        by None none = own e refl none (answers_it n q e) refl
