-- There are no more contexts, builds and waiting requests than the limits.
use Rattle.std.proofs.Common.{◌≡◌, ℕ, ◌<◌, ◌≤◌, Bool, true, false, cond, not, ◌&&◌, List, [], ◌∷◌, ◌++◌, length, Option, None, Some, is_none, is_some, Ok, Err, refl, sym, ap, subst, ◌∙◌, append-nil, arith, nat_eq, nat_le, nat_lt, ◌||◌, eqb-true, length-append}
use Rattle.std.specs.Prelude.{codes, fold}
use Rattle.std.proofs.lemmas.Bool.{false≢true}
use Rattle.esb_flags.specs.declared.options.Options.{Options}
use Rattle.esb_flags.specs.declared.command.Command.{Command}
use Rattle.esb_flags.specs.declared.command.Command.TheVariants as command
use Rattle.esb_flags.specs.Fields.{Answer as Asked}
use Rattle.esb_flags.specs.Command.{asked}
use Rattle.esb_ask.specs.declared.question.Question.{Question}
use Rattle.esb_ask.specs.declared.answer.Answer.{Answer}
use Rattle.esb_ask.specs.declared.task.Task.{Task}
use Rattle.esb_ask.specs.declared.outcome.Outcome.{Outcome}
use Rattle.esb_ask.specs.Table.{kept}
use Rattle.esb_core.specs.declared.event.Event.{Event}
use Rattle.esb_core.specs.declared.event.Event.TheVariants as event
use Rattle.esb_core.specs.Moves.{crowded, most_builds, most_contexts, most_waiting, key_of, options_of, is_full, too_many, refusal}
use Rattle.esb_core.specs.Sizes.{bytes_in, files, most_answers, most_contents, most_files, is_overfull}
use Rattle.esb_core.specs.Steps.{without}
use Rattle.esb_core.specs.History.{Begun, crowd, is_settled_in, met_in, moves_in, contexts, context, active_build, builds, build, waiting, outcome, kept_pair, table, is_legal, replay}
use Rattle.esb_core.specs.Laws.{Verdict, refused, accepted, verdict_by, verdict_of, verdict, if_idle, begins_by, begins, joined_build, if_same, waits_by, waits, waits_closed, is_settled_build, is_to_write, stays_after, gone_if, contexts_by, gone_unless, gone_large, overfull, overopened, answered_if, answers, contexts_at, IsWithinLimits}
use Rattle.esb_core.proofs.Grown.{past-end}
use Rattle.esb_core.proofs.Laws.{read-legal}
use Rattle.esb_core.proofs.Files.{few-files}
use Rattle.esb_core.proofs.Legal.{each, each_legal}
use Rattle.esb_core.proofs.Orders.{accepts, lasts, not-full, second}
use Rattle.esb_core.proofs.Pushed.{builds-pushed, table-pushed, waiting-pushed, contexts-pushed}
use Rattle.esb_core.proofs.Readings.{same-number}
use Rattle.esb_core.proofs.Tasks.{tasks-are}

fewer : {X : Type 0} (key : ℕ) (xs : List (ℕ × X)) → length (without key xs) ≤ length xs
fewer key [] = omega arith
fewer key (e ∷ xs) = by (nat_eq key e.0) (fewer key xs)
  where
    by : (t : Bool) → length (without key xs) ≤ length xs → length (cond (not t) (e ∷ without key xs) (without key xs)) ≤ length (e ∷ xs)
    by true rec = omega (arith, rec)
    by false rec = omega (arith, rec)

below : (most n : ℕ) → nat_le most n ≡ false → n < most
below most n e = grind (arith)

fewer-unless : (t : Bool) (key : ℕ) (xs : List (ℕ × Options)) → length (cond t xs (without key xs)) ≤ length xs
fewer-unless true key xs = omega arith
fewer-unless false key xs = fewer key xs

gone-fewer : (es : List Event) (key : ℕ) (stays : Bool) (o : Option ℕ) (xs : List (ℕ × Options)) → length (gone_if es key stays o xs) ≤ length xs
gone-fewer es key stays None xs = omega arith
gone-fewer es key stays (Some n) xs = fewer-unless (is_some (outcome es n) || stays) key xs

-- what a request makes of each number that has a limit
record Holds (es : List Event) (id : ℕ) (v : Verdict) : Type 0 where
  few_contexts : length (contexts_by es v) ≤ most_contexts
  few_builds : length (builds es ++ begins_by es v) ≤ most_builds
  few_waiting : (n : ℕ) → length (waiting es n ++ waits_by es n id v) ≤ most_waiting

-- what a request and what other events leave of the contexts, the builds and the requests that wait
record AreFew (es : List Event) : Type 0 where
  few_contexts : length (contexts es) ≤ most_contexts
  few_builds : length (builds es) ≤ most_builds
  few_waiting : (n : ℕ) → length (waiting es n) ≤ most_waiting

module _ (es : List Event) (legal : is_legal es ≡ true) (h : AreFew es) where
  same-length : {X : Type 0} (xs : List X) (most : ℕ) → length xs ≤ most → length (xs ++ []) ≤ most
  same-length xs most few = let same = ap length (append-nil xs) in omega (arith, same, few)

  calm : (id : ℕ) (v : Verdict) → length (contexts_by es v) ≤ length (contexts es) → begins_by es v ≡ [] → ((n : ℕ) → waits_by es n id v ≡ []) → Holds es id v
  calm id v contexts_few no_build no_wait = record {
    few_contexts = let few = h.few_contexts in omega (arith, few, contexts_few);
    few_builds = let few = h.few_builds in let same = ap (λ (bs : List Begun). length (builds es ++ bs)) no_build ∙ ap length (append-nil (builds es)) in omega (arith, few, same);
    few_waiting = λ n. let few = h.few_waiting n in let same = ap (λ (ws : List (ℕ × Bool)). length (waiting es n ++ ws)) (no_wait n) ∙ ap length (append-nil (waiting es n)) in omega (arith, few, same);
  }

  -- nothing waits for a build that hasn't begun
  none-waits : length (waiting es (length (builds es))) ≡ 0
  none-waits =
      let r = read-legal es legal in
      let number = same-number (replay es) (moves_in es) r.reads in
      ap length (sym (r.reads.waiting (length (builds es))) ∙ past-end (replay es).builds (length (builds es)) (λ b. b.waiting) (omega (arith, number)))

  one-more : (m n id : ℕ) (result : Bool) → length (waiting es m) < most_waiting → length (waiting es n ++ if_same m n id result) ≤ most_waiting
  one-more m n id result few = by (nat_eq m n) refl
    where
      by : (t : Bool) → nat_eq m n ≡ t → length (waiting es n ++ cond t ((id, result) ∷ []) []) ≤ most_waiting
      by true is =
          let same = ap (λ (k : ℕ). length (waiting es k)) (eqb-true m n is) in
          let long = length-append (waiting es n) ((id, result) ∷ []) in
          omega (arith, same, long, few)
      by false is = same-length (waiting es n) most_waiting (h.few_waiting n)

  next-waits : (n id : ℕ) → length (waiting es n ++ if_same (length (builds es)) n id true) ≤ most_waiting
  next-waits n id = one-more (length (builds es)) n id true (let none = none-waits in omega (arith, none))

  -- a cancel and a dispose wait for a build that is settled and has room for them
  stop-waits : (id : ℕ) (o : Option ℕ) → (is_settled_in (moves_in es) o ≡ true → crowd (moves_in es) o < most_waiting) → (n : ℕ) → length (waiting es n ++ waits_closed es n id o) ≤ most_waiting
  stop-waits id None few n = same-length (waiting es n) most_waiting (h.few_waiting n)
  stop-waits id (Some m) few n = by (is_some (outcome es m)) refl
    where
      by : (t : Bool) → is_some (outcome es m) ≡ t → length (waiting es n ++ cond t (if_same m n id false) []) ≤ most_waiting
      by true settled = one-more m n id false (few settled)
      by false settled = same-length (waiting es n) most_waiting (h.few_waiting n)

  stop-few : (key : ℕ) → refusal (met_in (moves_in es) key) (command.Cancel key) ≡ None → is_settled_in (moves_in es) (active_build es key) ≡ true → crowd (moves_in es) (active_build es key) < most_waiting
  stop-few key e settled =
      let one = accepts (is_none (context es key) || (met_in (moves_in es) key).retired) (codes "Unknown key") (crowded (met_in (moves_in es) key).settled (met_in (moves_in es) key) ∷ []) e in
      let two = lasts ((met_in (moves_in es) key).settled && nat_le most_waiting (met_in (moves_in es) key).waiting) (codes "Too many waiters") one.1 in
      below most_waiting (crowd (moves_in es) (active_build es key)) (second (is_settled_in (moves_in es) (active_build es key)) (nat_le most_waiting (crowd (moves_in es) (active_build es key))) settled two)

  one-begins : (b : Begun) → length (builds es) < most_builds → length (builds es ++ b ∷ []) ≤ most_builds
  one-begins b few = let long = length-append (builds es) (b ∷ []) in omega (arith, long, few)

  build-holds : (id key : ℕ) (options : Options) (stays : Bool) → options.context ≡ stays → length (contexts es) < most_contexts → (stays ≡ false → length (builds es) < most_builds) → Holds es id (accepted (command.Build key options))
  build-holds id key options stays is few_contexts few_builds = record {
    few_contexts = let long = length-append (contexts es) ((key, options) ∷ []) in omega (arith, long, few_contexts);
    few_builds = subst (λ (t : Bool). length (builds es ++ cond t [] (record { key = key; options = options } ∷ [])) ≤ most_builds) (sym is) (begun stays refl);
    few_waiting = λ n. subst (λ (t : Bool). length (waiting es n ++ cond t [] (if_same (length (builds es)) n id true)) ≤ most_waiting) (sym is) (waits_one n stays);
  }
    where
      begun : (t : Bool) → stays ≡ t → length (builds es ++ cond t [] (record { key = key; options = options } ∷ [])) ≤ most_builds
      begun true e = same-length (builds es) most_builds h.few_builds
      begun false e = one-begins (record { key = key; options = options }) (few_builds e)

      waits_one : (n : ℕ) (t : Bool) → length (waiting es n ++ cond t [] (if_same (length (builds es)) n id true)) ≤ most_waiting
      waits_one n true = same-length (waiting es n) most_waiting (h.few_waiting n)
      waits_one n false = next-waits n id

  rebuild-holds : (id key : ℕ) (o : Option ℕ) → active_build es key ≡ o → crowd (moves_in es) o < most_waiting → (o ≡ None → length (builds es) < most_builds) → Holds es id (accepted (command.Rebuild key))
  rebuild-holds id key o is few_waiting few_builds = record {
    few_contexts = h.few_contexts;
    few_builds = subst (λ (p : Option ℕ). length (builds es ++ if_idle p (record { key = key; options = options_of (context es key) })) ≤ most_builds) (sym is) (begun o refl);
    few_waiting = λ n. subst (λ (p : Option ℕ). length (waiting es n ++ if_same (joined_build es p) n id true) ≤ most_waiting) (sym is) (waits_one n o few_waiting);
  }
    where
      begun : (p : Option ℕ) → o ≡ p → length (builds es ++ if_idle p (record { key = key; options = options_of (context es key) })) ≤ most_builds
      begun (Some n) e = same-length (builds es) most_builds h.few_builds
      begun None e = one-begins (record { key = key; options = options_of (context es key) }) (few_builds e)

      waits_one : (n : ℕ) (p : Option ℕ) → crowd (moves_in es) p < most_waiting → length (waiting es n ++ if_same (joined_build es p) n id true) ≤ most_waiting
      waits_one n None few = next-waits n id
      waits_one n (Some m) few = one-more m n id true few

  command-holds : (id : ℕ) (c : Command) → refusal (met_in (moves_in es) (key_of c)) c ≡ None → Holds es id (accepted c)
  command-holds id (command.Build key options) e =
      let last : List (Bool × List ℕ) = too_many (not options.context) (met_in (moves_in es) key) ∷ [] in
      let one = accepts (is_some (context es key)) (codes "Key in use") ((nat_le most_contexts (length (contexts es)), codes "Too many contexts") ∷ last) e in
      let two = accepts (nat_le most_contexts (length (contexts es))) (codes "Too many contexts") last one.1 in
      let three = lasts (not options.context && is_full (met_in (moves_in es) key)) (codes "Too many builds") two.1 in
      build-holds id key options options.context refl (below most_contexts (length (contexts es)) two.0)
      (λ passes. not-full (length (builds es)) (second (not options.context) (is_full (met_in (moves_in es) key)) (ap not passes) three))
  command-holds id (command.Rebuild key) e =
      let last : List (Bool × List ℕ) = too_many (is_none (active_build es key)) (met_in (moves_in es) key) ∷ [] in
      let one = accepts (is_none (context es key) || (met_in (moves_in es) key).retired) (codes "Unknown key") ((nat_le most_waiting (crowd (moves_in es) (active_build es key)), codes "Too many waiters") ∷ last) e in
      let two = accepts (nat_le most_waiting (crowd (moves_in es) (active_build es key))) (codes "Too many waiters") last one.1 in
      let three = lasts (is_none (active_build es key) && is_full (met_in (moves_in es) key)) (codes "Too many builds") two.1 in
      rebuild-holds id key (active_build es key) refl (below most_waiting (crowd (moves_in es) (active_build es key)) two.0)
      (λ none. not-full (length (builds es)) (second (is_none (active_build es key)) (is_full (met_in (moves_in es) key)) (ap is_none none) three))
  command-holds id (command.Cancel key) e = record {
    few_contexts = let less = gone-fewer es key (options_of (context es key)).context (active_build es key) (contexts es) in let few = h.few_contexts in omega (arith, few, less);
    few_builds = same-length (builds es) most_builds h.few_builds;
    few_waiting = λ n. stop-waits id (active_build es key) (stop-few key e) n;
  }
  command-holds id (command.Dispose key) e = record {
    few_contexts = let less = fewer-unless (is_settled_build es (active_build es key)) key (contexts es) in let few = h.few_contexts in omega (arith, few, less);
    few_builds = same-length (builds es) most_builds h.few_builds;
    few_waiting = λ n. stop-waits id (active_build es key) (stop-few key e) n;
  }
  command-holds id (command.Watch key) e = calm id (accepted (command.Watch key)) (omega arith) refl (λ n. refl)
  command-holds id (command.Serve key port) e = calm id (accepted (command.Serve key port)) (omega arith) refl (λ n. refl)
  command-holds id command.Ping e = calm id (accepted command.Ping) (omega arith) refl (λ n. refl)

  request-holds : (id : ℕ) (a : Asked Command) → Holds es id (verdict_of es a)
  request-holds id (Err text) = calm id (refused text) (omega arith) refl (λ n. refl)
  request-holds id (Ok c) = by (refusal (met_in (moves_in es) (key_of c)) c) refl
    where
      by : (o : Option (List ℕ)) → refusal (met_in (moves_in es) (key_of c)) c ≡ o → Holds es id (verdict_by c o)
      by (Some text) is = calm id (refused text) (omega arith) refl (λ n. refl)
      by None is = command-holds id c is

  -- what an event makes of each
  record After (e : Event) : Type 0 where
    few_contexts : length (contexts_at es e) ≤ most_contexts
    few_builds : length (builds es ++ begins es e) ≤ most_builds
    few_waiting : (n : ℕ) → length (waiting es n ++ waits es n e) ≤ most_waiting

  quiet : (e : Event) → length (contexts_at es e) ≤ length (contexts es) → begins es e ≡ [] → ((n : ℕ) → waits es n e ≡ []) → After e
  quiet e contexts_few no_build no_wait = record {
    few_contexts = let few = h.few_contexts in omega (arith, few, contexts_few);
    few_builds = let few = h.few_builds in let same = ap (λ (bs : List Begun). length (builds es ++ bs)) no_build ∙ ap length (append-nil (builds es)) in omega (arith, few, same);
    few_waiting = λ n. let few = h.few_waiting n in let same = ap (λ (ws : List (ℕ × Bool)). length (waiting es n ++ ws)) (no_wait n) ∙ ap length (append-nil (waiting es n)) in omega (arith, few, same);
  }

  gone-few : (m : ℕ) (p : Option Outcome) → length (gone_unless (build es m).key (stays_after es m) p (contexts es)) ≤ length (contexts es)
  gone-few m None = fewer-unless (stays_after es m) (build es m).key (contexts es)
  gone-few m (Some p) = omega arith

  work-few : (m : ℕ) (large : Bool) → length (gone_large large (build es m).key (stays_after es m) (outcome es m) (contexts es)) ≤ length (contexts es)
  work-few m true = gone-few m (outcome es m)
  work-few m false = omega arith

  settle-few : (m : ℕ) (writes : Bool) → length (cond writes (contexts es) (gone_unless (build es m).key (stays_after es m) (outcome es m) (contexts es))) ≤ length (contexts es)
  settle-few m true = omega arith
  settle-few m false = gone-few m (outcome es m)

  event-holds : (e : Event) → After e
  event-holds (event.Arrive p) = by p.request refl
    where
      by : (t : Bool) → p.request ≡ t → After (event.Arrive p)
      by true is =
          let g = request-holds p.id (asked p.value) in
          record {
            few_contexts = subst (λ (t : Bool). length (cond t (contexts_by es (verdict es p)) (contexts es)) ≤ most_contexts) (sym is) g.few_contexts;
            few_builds = subst (λ (t : Bool). length (builds es ++ cond t (begins_by es (verdict es p)) []) ≤ most_builds) (sym is) g.few_builds;
            few_waiting = λ n. subst (λ (t : Bool). length (waiting es n ++ cond t (waits_by es n p.id (verdict es p)) []) ≤ most_waiting) (sym is) (g.few_waiting n);
          }
      by false is =
          let same = ap (λ t. length (cond t (contexts_by es (verdict es p)) (contexts es))) is in
          quiet (event.Arrive p) (omega (arith, same)) (ap (λ t. cond t (begins_by es (verdict es p)) []) is) (λ n. ap (λ t. cond t (waits_by es n p.id (verdict es p)) []) is)
  event-holds (event.Settle worker m o) = quiet (event.Settle worker m o) (settle-few m (is_to_write (build es m) o)) refl (λ n. refl)
  event-holds (event.Written worker m f) = quiet (event.Written worker m f) (fewer-unless (stays_after es m) (build es m).key (contexts es)) refl (λ n. refl)
  event-holds event.Pop = quiet event.Pop (omega arith) refl (λ n. refl)
  event-holds event.EndOfInput = quiet event.EndOfInput (omega arith) refl (λ n. refl)
  event-holds (event.Claim role job) = quiet (event.Claim role job) (omega arith) refl (λ n. refl)
  event-holds (event.Record worker m q a) = quiet (event.Record worker m q a) (work-few m (overfull es m q a)) refl (λ n. refl)
  event-holds (event.Deliver worker m t p) = quiet (event.Deliver worker m t p) (work-few m (overopened es m p)) refl (λ n. refl)

-- ---- what a build keeps and opens

-- a table with no more answers and bytes than a build may keep
record IsWithin (table : List (Question × Answer)) : Type 0 where
  few_answers : length table ≤ most_answers
  few_bytes : bytes_in table ≤ most_contents

not-over : (most n : ℕ) → nat_lt most n ≡ false → n ≤ most
not-over most n e = grind (arith)

within-full : (table : List (Question × Answer)) → is_overfull table ≡ false → IsWithin table
within-full table e = by (nat_lt most_answers (length table)) refl e
  where
    by : (t : Bool) → nat_lt most_answers (length table) ≡ t → (t || nat_lt most_contents (bytes_in table)) ≡ false → IsWithin table
    by true is f = absurd (false≢true (sym f))
    by false is f = record { few_answers = not-over most_answers (length table) is; few_bytes = not-over most_contents (bytes_in table) f }

-- an answer is kept where the table is within its limits with it
kept-within : (es : List Event) (n : ℕ) (e : Event) → IsWithin (table es n) → IsWithin (fold kept_pair (table es n) (answers es n e))
kept-within es n (event.Record worker m q a) h = by (nat_eq m n) refl (outcome es m) (overfull es m q a) refl
  where
    by : (t : Bool) → nat_eq m n ≡ t → (o : Option Outcome) (large : Bool) → overfull es m q a ≡ large → IsWithin (fold kept_pair (table es n) (cond t (answered_if o large q a) []))
    by true same None false small = within-full (kept (table es n) q a) (ap (λ (k : ℕ). overfull es k q a) (sym (eqb-true m n same)) ∙ small)
    by true same None true over = h
    by true same (Some o) large is = h
    by false apart o large is = h
kept-within es n (event.Arrive p) h = h
kept-within es n event.EndOfInput h = h
kept-within es n (event.Claim role job) h = h
kept-within es n (event.Deliver worker m t p) h = h
kept-within es n (event.Settle worker m o) h = h
kept-within es n (event.Written worker m f) h = h
kept-within es n event.Pop h = h

table-within : (n : ℕ) (events : List Event) → IsWithin (table events n)
table-within n events = each (λ es. IsWithin (table es n)) (record { few_answers = omega arith; few_bytes = omega arith }) (λ es e h. subst IsWithin (sym (table-pushed es n e)) (kept-within es n e h)) events

few : (events : List Event) → is_legal events ≡ true → AreFew events
few events legal =
    each_legal AreFew (record { few_contexts = omega arith; few_builds = omega arith; few_waiting = λ n. omega arith })
    (λ es e before may h.
    let g = event-holds es before h e in
    record {
      few_contexts = let same = ap length (contexts-pushed es e) in let few = g.few_contexts in omega (arith, same, few);
      few_builds = let same = ap length (builds-pushed es e) in let few = g.few_builds in omega (arith, same, few);
      few_waiting = λ n. let same = ap length (waiting-pushed es n e) in let few = g.few_waiting n in omega (arith, same, few);
    })
    events legal

pub within-limits : (events : List Event) → is_legal events ≡ true → IsWithinLimits events
within-limits events legal =
    let g = few events legal in
    record {
      few_contexts = g.few_contexts;
      few_builds = g.few_builds;
      few_waiting = g.few_waiting;
      few_answers = λ n. (table-within n events).few_answers;
      few_contents = λ n. (table-within n events).few_bytes;
      few_files = λ n. subst (λ (ts : List Task). files ts ≤ most_files) (tasks-are events legal n) (few-files events legal n);
    }
