-- What the tables keep when a build is added or changes.
use Rattle.std.proofs.Common.{◌≡◌, ℕ, zero, suc, ◌+◌, ◌-◌, ◌<◌, ◌≤◌, Bool, true, false, cond, List, [], ◌∷◌, ◌++◌, length, Option, None, Some, is_some, refl, sym, ap, subst, ◌∙◌, arith, nat_eq, eqb-true, slice_set, slice_index_or, length-append}
use Rattle.std.proofs.Math.ListN.{get_or-append}
use Rattle.std.proofs.lemmas.List.{length-set}
use Rattle.std.proofs.lemmas.List.Sums.{sum_by-append, sum_by-cons}
use Rattle.std.specs.Prelude.{IsSome}
use Rattle.std.proofs.lemmas.Bool.{false≢true}
use Rattle.esb_ask.specs.declared.outcome.Failures.{Failures}
use Rattle.esb_ask.specs.declared.outcome.Outcome.{Outcome}
use Rattle.esb_core.specs.State.{Building, State, build_at, no_build}
use Rattle.esb_core.specs.Steps
use Rattle.esb_core.specs.Steps.{joined, ended_by, closed_by, without, moved, all_moved, active_of}
use Rattle.esb_flags.specs.declared.options.Options.{Options}
use Rattle.esb_core.specs.declared.out.Out.{Out}
use Rattle.esb_core.specs.Moves.{Met, Move, close, canceled, canceled_or, most_builds}
use Rattle.esb_core.specs.Allowed.{is_closed}
use Rattle.esb_core.specs.Kept.{state_of, load_of, loads, load, StaysBy, IsKept}
use Rattle.esb_core.specs.Order.{IsOrdered, IsPut, IsSane, MayClose}
use Rattle.esb_core.specs.declared.tables.Tables.{Tables}
use Rattle.esb_core.proofs.Jobs.{AreClosed, shut-sane}
use Rattle.esb_core.proofs.Laws.{same-sane}
use Rattle.esb_core.proofs.Orders.{set-at, changed-ordered, moved-ordered, ordered-as}
use Rattle.esb_core.proofs.Lookups.{without-same}

pub loads-push : (bs : List Building) (b : Building) → loads (bs ++ b ∷ []) ≡ loads bs + load b
loads-push bs b = sum_by-append load bs (b ∷ []) ∙ omega arith

pub loads-set : (bs : List Building) (n : ℕ) (b : Building) → n < length bs → loads (slice_set bs n b) + load (build_at bs n) ≡ loads bs + load b
loads-set [] n b lt = absurd (omega arith)
loads-set (c ∷ bs) zero b lt = let one = sum_by-cons load b bs in let other = sum_by-cons load c bs in omega (arith, one, other)
loads-set (c ∷ bs) (suc n) b lt =
    let rest = loads-set bs n b (omega arith) in
    let one = sum_by-cons load c (slice_set bs n b) in
    let other = sum_by-cons load c bs in
    omega (arith, rest, one, other)

-- these builds are closed
abbrev pub AllClosed : ℕ → List Building → Type 0
AllClosed k bs = (j : ℕ) → j < k → is_closed (build_at bs j) ≡ true

pub closed-push : (k : ℕ) (bs : List Building) (b : Building) → k ≤ length bs → AllClosed k bs → AllClosed k (bs ++ b ∷ [])
closed-push k bs b h all j lt = ap is_closed (get_or-append bs (b ∷ []) no_build j (omega arith)) ∙ all j lt

-- a build that is closed stays so
pub closed-set : (k : ℕ) (bs : List Building) (n : ℕ) (b : Building) → n < length bs → (is_closed (build_at bs n) ≡ true → is_closed b ≡ true) → AllClosed k bs → AllClosed k (slice_set bs n b)
closed-set k bs n b lt stay all j jt = ap is_closed (set-at bs n b j lt) ∙ by (nat_eq n j) refl
  where
    by : (t : Bool) → nat_eq n j ≡ t → is_closed (cond t b (build_at bs j)) ≡ true
    by true is = stay (ap (λ (m : ℕ). is_closed (build_at bs m)) (eqb-true n j is) ∙ all j jt)
    by false is = all j jt

-- the first builds, which are passed over, have no job
pub shut-first : (t : Tables) → IsKept t → AreClosed t.passed t.builds.items
shut-first t h j lt = let sane = h.ordered.sane j in shut-sane (build_at t.builds.items j) sane (h.over j lt)

-- the build of a number that has begun
pub at-index : (bs : List Building) (n : ℕ) (b : Building) → n < length bs → b ≡ slice_index_or bs n b → b ≡ build_at bs n
at-index bs n b lt is = is ∙ within bs n lt
  where
    within : (cs : List Building) (k : ℕ) → k < length cs → slice_index_or cs k b ≡ build_at cs k
    within [] k kt = absurd (omega arith)
    within (c ∷ cs) zero kt = refl
    within (c ∷ cs) (suc k) kt = within cs k (omega arith)

load-grows : (b c : Building) (more : ℕ) → StaysBy more b c → load c ≤ load b + more
load-grows b c more stays = subst (λ (t : Bool). load_of (length c.waiting) t ≤ load b + more) (sym stays.2) (by b.closed)
  where
    by : (t : Bool) → load_of (length c.waiting) t ≤ load_of (length b.waiting) t + more
    by false = stays.3
    by true = omega arith

-- one build changes, and keeps its key and whether it is closed
pub kept-set : (t u : Tables) (n : ℕ) (b : Building) (more : ℕ) → n < length t.builds.items → u.contexts.contexts ≡ t.contexts.contexts → u.contexts.active ≡ t.contexts.active
    → u.builds.items ≡ slice_set t.builds.items n b → u.passed ≡ t.passed → t.replies.promised + more ≤ u.replies.promised → load b ≤ load (build_at t.builds.items n) + more
    → b.closed ≡ (build_at t.builds.items n).closed → b.key ≡ (build_at t.builds.items n).key → IsSane b → IsKept t → IsKept u
kept-set t u n b more lt contexts active bs passed promised grows closed key sane h =
    let all = ap loads bs in
    let sum = loads-set t.builds.items n b lt in
    let long = length-set t.builds.items n b in
    let longer = ap length bs in
    record {
      room = let room = h.room in omega (arith, room, all, sum, grows, promised);
      few = let few = h.few in omega (arith, few, long, longer);
      passed = let less = h.passed in omega (arith, less, long, longer, passed);
      over = λ k kt.
          ap (λ (cs : List Building). is_closed (build_at cs k)) bs
          ∙ closed-set t.passed t.builds.items n b lt (λ e. closed ∙ e) h.over k (omega (arith, kt, passed));
      ordered =
          ordered-as (Steps.changed (state_of t) n b) (state_of u) contexts active bs
          (changed-ordered (state_of t) n b lt closed key sane h.ordered);
    }

-- a build changes in nothing but its work and the requests that wait for it
pub kept-changed : (t u : Tables) (n : ℕ) (b old : Building) (more : ℕ) → n < length t.builds.items → old ≡ slice_index_or t.builds.items n old → u.contexts.contexts ≡ t.contexts.contexts → u.contexts.active ≡ t.contexts.active
    → u.builds.items ≡ slice_set t.builds.items n b → u.passed ≡ t.passed → t.replies.promised + more ≤ u.replies.promised → StaysBy more old b → IsKept t → IsKept u
kept-changed t u n b old more lt at contexts active bs passed promised stay h =
    let own : old ≡ build_at t.builds.items n = at-index t.builds.items n old lt at in
    let stays : StaysBy more (build_at t.builds.items n) b = subst (λ (c : Building). StaysBy more c b) own stay in
    let sane = h.ordered.sane n in
    kept-set t u n b more lt contexts active bs passed promised (load-grows (build_at t.builds.items n) b more stays) stays.2 stays.0 (same-sane sane stays.1 stays.4 stays.2 stays.5 stays.6) h

-- a worker claims the writing of a settled build's files
pub kept-claimed : (t u : Tables) (n worker : ℕ) (b old : Building) → n < length t.builds.items → old ≡ slice_index_or t.builds.items n old → b ≡ Steps.write_claimed old worker → u.contexts.contexts ≡ t.contexts.contexts
    → u.contexts.active ≡ t.contexts.active → u.builds.items ≡ slice_set t.builds.items n b → u.passed ≡ t.passed → t.replies.promised ≤ u.replies.promised
    → IsSome (build_at t.builds.items n).outcome → (build_at t.builds.items n).closed ≡ false → IsKept t → IsKept u
kept-claimed t u n worker b old lt at is contexts active bs passed promised settled open_still h =
    let own : b ≡ Steps.write_claimed (build_at t.builds.items n) worker = is ∙ ap (λ (c : Building). Steps.write_claimed c worker) (at-index t.builds.items n old lt at) in
    let same = ap load own in
    let k = h.ordered.sane n in
    kept-set t u n b 0 lt contexts active bs passed (omega (arith, promised)) (omega (arith, same)) (ap (λ (c : Building). c.closed) own) (ap (λ (c : Building). c.key) own)
    (subst IsSane (sym own)
    (record {
      open_still = λ none. open_still;
      unwritten = λ none. absurd (false≢true (sym (ap is_some none) ∙ settled));
      writing = λ w some. open_still;
      put = k.put;
    })) h

-- a build that isn't settled is settled
pub kept-settled : (t u : Tables) (n : ℕ) (b old : Building) (o : Outcome) → n < length t.builds.items → old ≡ slice_index_or t.builds.items n old → b ≡ ended_by old o → u.contexts.contexts ≡ t.contexts.contexts
    → u.contexts.active ≡ t.contexts.active → u.builds.items ≡ slice_set t.builds.items n b → u.passed ≡ t.passed → t.replies.promised ≤ u.replies.promised → (build_at t.builds.items n).outcome ≡ None → IsKept t → IsKept u
kept-settled t u n b old o lt at is contexts active bs passed promised none h =
    let own : b ≡ ended_by (build_at t.builds.items n) o = is ∙ ap (λ (c : Building). ended_by c o) (at-index t.builds.items n old lt at) in
    let same = ap load own in
    let k = h.ordered.sane n in
    let open_still = k.open_still none in
    kept-set t u n b 0 lt contexts active bs passed (omega (arith, promised)) (omega (arith, same)) (ap (λ (c : Building). c.closed) own) (ap (λ (c : Building). c.key) own)
    (subst IsSane (sym own)
    (record {
      open_still = λ e. open_still;
      unwritten = λ e. k.unwritten none;
      writing = λ w e. open_still;
      put = λ shut w files e. absurd (false≢true (sym open_still ∙ shut));
    })) h

-- the files of a build are put
pub kept-written : (t u : Tables) (n : ℕ) (b old : Building) (f : Failures) → n < length t.builds.items → old ≡ slice_index_or t.builds.items n old → b ≡ Steps.written_by old f → u.contexts.contexts ≡ t.contexts.contexts
    → u.contexts.active ≡ t.contexts.active → u.builds.items ≡ slice_set t.builds.items n b → u.passed ≡ t.passed → t.replies.promised ≤ u.replies.promised → (build_at t.builds.items n).closed ≡ false → IsKept t → IsKept u
kept-written t u n b old f lt at is contexts active bs passed promised open_still h =
    let own : b ≡ Steps.written_by (build_at t.builds.items n) f = is ∙ ap (λ (c : Building). Steps.written_by c f) (at-index t.builds.items n old lt at) in
    let same = ap load own in
    kept-set t u n b 0 lt contexts active bs passed (omega (arith, promised)) (omega (arith, same)) (ap (λ (c : Building). c.closed) own) (ap (λ (c : Building). c.key) own)
    (subst IsSane (sym own) (record { open_still = λ e. open_still; unwritten = λ e. refl; writing = λ w e. open_still; put = λ shut w files e. refl })) h

-- the builds stay, and there is room for what they owe
pub kept-builds : (t u : Tables) → u.builds.items ≡ t.builds.items → u.passed ≡ t.passed → loads t.builds.items ≤ u.replies.promised → IsOrdered (state_of u) → IsKept t → IsKept u
kept-builds t u bs passed room ordered h =
    let all = ap loads bs in
    let long = ap length bs in
    record {
      room = omega (arith, room, all);
      few = let few = h.few in omega (arith, few, long);
      passed = let less = h.passed in omega (arith, less, long, passed);
      over = λ k kt. ap (λ (cs : List Building). is_closed (build_at cs k)) bs ∙ h.over k (omega (arith, kt, passed));
      ordered = ordered;
    }

-- more or less is owed, and the contexts and builds stay
pub kept-replies : (t u : Tables) → u.contexts.contexts ≡ t.contexts.contexts → u.contexts.active ≡ t.contexts.active → u.builds.items ≡ t.builds.items → u.passed ≡ t.passed → loads t.builds.items ≤ u.replies.promised → IsKept t → IsKept u
kept-replies t u contexts active bs passed room h = kept-builds t u bs passed room (ordered-as (state_of t) (state_of u) contexts active bs h.ordered) h

-- the active build of a context is closed
pub kept-closed : (t u : Tables) (key n : ℕ) (b old : Building) → MayClose (state_of t) key n → old ≡ slice_index_or t.builds.items n old → b ≡ closed_by old → u.contexts.contexts ≡ t.contexts.contexts
    → u.contexts.active ≡ without key t.contexts.active → u.builds.items ≡ slice_set t.builds.items n b → u.passed ≡ t.passed → u.replies.promised ≡ t.replies.promised - length (build_at t.builds.items n).waiting
    → IsKept t → IsKept u
kept-closed t u key n b old f at is contexts active bs passed promised h =
    let lt = f.active.begun in
    let own : b ≡ closed_by (build_at t.builds.items n) = is ∙ ap (λ (c : Building). closed_by c) (at-index t.builds.items n old lt at) in
    let all = ap loads bs in
    let sum = loads-set t.builds.items n b lt in
    let none : load b ≡ 0 = ap load own in
    let its : load (build_at t.builds.items n) ≡ length (build_at t.builds.items n).waiting = ap (λ (c : Bool). load_of (length (build_at t.builds.items n).waiting) c) f.active.unclosed in
    let long = length-set t.builds.items n b in
    let longer = ap length bs in
    record {
      room = let room = h.room in omega (arith, room, all, sum, none, its, promised);
      few = let few = h.few in omega (arith, few, long, longer);
      passed = let less = h.passed in omega (arith, less, long, longer, passed);
      over = λ k kt.
          ap (λ (cs : List Building). is_closed (build_at cs k)) bs
          ∙ closed-set t.passed t.builds.items n b lt (λ e. ap (λ (c : Building). is_closed c) own) h.over k (omega (arith, kt, passed));
      ordered =
          ordered-as (moved (state_of t) (close key n)) (state_of u) contexts active
          (bs ∙ ap (λ (c : Building). slice_set t.builds.items n c) own)
          (moved-ordered (state_of t) (close key n) f h.ordered);
    }

-- where the active build of a context was canceled, it has none
pub canceled-idle : (s : State) (m : Met) (id key : ℕ) (o : Option ℕ) → active_of s key ≡ o → m.settled ≡ false → active_of (all_moved s (canceled m id key true o [])) key ≡ None
canceled-idle s m id key None is unsettled = is
canceled-idle s m id key (Some n) is unsettled = ap (λ (t : Bool). active_of (all_moved s (canceled_or t id key true n [])) key) unsettled ∙ without-same key s.active

-- whether a build may be closed rests on the builds alone
pub may-close-as : (s t : State) (key n : ℕ) → t.builds ≡ s.builds → MayClose s key n → MayClose t key n
may-close-as s t key n same f = record {
  active = record {
    begun = let lt = f.active.begun in let long = ap length same in omega (arith, lt, long);
    unclosed = ap (λ (bs : List Building). (build_at bs n).closed) same ∙ f.active.unclosed;
    its_key = ap (λ (bs : List Building). (build_at bs n).key) same ∙ f.active.its_key;
  };
  settled = ap (λ (bs : List Building). is_some (build_at bs n).outcome) same ∙ f.settled;
  free = ap (λ (bs : List Building). (build_at bs n).writer) same ∙ f.free;
  put = subst (λ (bs : List Building). IsPut (build_at bs n)) (sym same) f.put;
}

-- what a cancel comes to is told by whether the build is settled
pub canceled-same : (m k : Met) (id key : ℕ) (stays : Bool) (o : Option ℕ) (more : List Move) → m.settled ≡ k.settled → canceled m id key stays o more ≡ canceled k id key stays o more
canceled-same m k id key stays None more same = refl
canceled-same m k id key stays (Some n) more same = ap (λ (t : Bool). canceled_or t id key stays n more) same

-- one build more, with room for the replies that it owes
pub kept-begun : (t u : Tables) (b : Building) → u.builds.items ≡ t.builds.items ++ b ∷ [] → u.passed ≡ t.passed → loads t.builds.items + load b ≤ u.replies.promised → length t.builds.items < most_builds → IsOrdered (state_of u) → IsKept t → IsKept u
kept-begun t u b bs passed promised room ordered h =
    let all = ap loads bs in
    let sum = loads-push t.builds.items b in
    let long = ap length bs in
    let longer = length-append t.builds.items (b ∷ []) in
    record {
      room = omega (arith, all, sum, promised);
      few = omega (arith, long, longer, room);
      passed = let less = h.passed in omega (arith, less, long, longer, passed);
      over = λ k kt. ap (λ (cs : List Building). is_closed (build_at cs k)) bs ∙ closed-push t.passed t.builds.items b h.passed h.over k (omega (arith, kt, passed));
      ordered = ordered;
    }

-- a build that has just begun, and the first request that waits for it
pub joined-last : (bs : List Building) (b : Building) (id : ℕ) → slice_set (bs ++ b ∷ []) (length bs) (joined (build_at (bs ++ b ∷ []) (length bs)) id true) ≡ bs ++ joined b id true ∷ []
joined-last [] b id = refl
joined-last (c ∷ bs) b id = ap (λ (cs : List Building). c ∷ cs) (joined-last bs b id)

-- a state by its parts
pub same-state : {k l : List (ℕ × Options)} {r q : List ℕ} {a b : List (ℕ × ℕ)} {c d : List Building} {o p : List Out} {e f : Bool} → k ≡ l → r ≡ q → a ≡ b → c ≡ d → o ≡ p → e ≡ f
    → ◌≡◌ {A = State} (record { contexts = k; retired = r; active = a; builds = c; owed = o; ended = e }) (record { contexts = l; retired = q; active = b; builds = d; owed = p; ended = f })
same-state contexts retired active builds owed ended = rw (contexts, retired, active, builds, owed, ended) refl
