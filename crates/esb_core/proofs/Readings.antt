-- The state has what the questions about the moves answer.
use Rattle.std.proofs.Common.{◌≡◌, ℕ, zero, suc, ◌<◌, ◌≤◌, Bool, true, false, cond, not, ◌&&◌, ◌||◌, is_some, List, [], ◌∷◌, ◌++◌, length, drop, map, Option, None, Some, refl, sym, ap, subst, ◌∙◌, append_assoc, append-nil, arith, nat_eq, slice_set, slice_index_or}
use Rattle.std.specs.Map.{lookup}
use Rattle.std.specs.List.{fold, count_by, list_any}
use Rattle.std.proofs.Math.Bool.{or-false}
use Rattle.std.proofs.Math.Seq.{map-set_same}
use Rattle.std.proofs.lemmas.List.{get_or-set_same, get_or-set_other, drop-append-le, drop-drop, length-drop, length-append, length-map, map-append}
use Rattle.std.proofs.lemmas.Bool.{false≢true, eqb-true}
use Rattle.std.proofs.lemmas.List.Sums.{fold-append}
use Rattle.esb_flags.specs.declared.options.Options.{Options}
use Rattle.esb_ask.specs.declared.question.Question.{Question}
use Rattle.esb_ask.specs.declared.answer.Answer.{Answer}
use Rattle.esb_ask.specs.declared.task.Task.{Task}
use Rattle.esb_ask.specs.declared.outcome.Outcome.{Outcome}
use Rattle.esb_ask.specs.declared.outcome.Failures.{Failures}
use Rattle.esb_core.specs.declared.out.Out.{Out}
use Rattle.esb_core.specs.State.{Building, State, build_at, no_build}
use Rattle.esb_core.specs.Moves.{Move, make, remove, begin, join, retire, owe, keep, assign, settle, write, close, take, Met, Standing}
use Rattle.esb_core.specs.Steps
use Rattle.esb_core.specs.Steps.{moved, all_moved, fresh, joined, answered, tasked, ended_by, written_by, closed_by, results, settled_for, waiting_for, met, standing, entry_tasks}
use Rattle.esb_core.specs.Sizes.{with_task}
use Rattle.esb_core.specs.History.{Begun, begun_at, builds_in, no_begun, context_at, contexts_in, active_at, active_in, waiting_in, settled_by, closes_it, closed_in, failed_at, failed_in, retired_at, retired_in, is_settled_in, or_later, outcome_in, kept_pair, table_in, opens_in, tasks_in, owes, owed_in, is_take, crowd, met_in, standing_in}
use Rattle.esb_core.proofs.Moving.{contexts-push, active-push, builds-push, waits, waiting-push, or_later-None, outcome-push, closed-push, failed-push, retired-push, gives, table-push, gets, opens-push, owed-push, count-push}
use Rattle.esb_core.proofs.Adding.{fold-none}
use Rattle.esb_core.proofs.Each.{each-set, each-push}
use Rattle.esb_core.proofs.Orders.{Fits, AllFit}

abbrev pub begun_of : Building → Begun
begun_of b = record { key = b.key; options = b.options }

-- the tasks of a build are those of its entries, and these
abbrev pub Lists : Building → List Task → Type 0
Lists b more = b.tasks ≡ fold with_task (entry_tasks (length b.options.entries)) more

-- the state has what the questions about the moves answer
pub record Reads (s : State) (ms : List Move) : Type 0 where
  pub contexts : s.contexts ≡ contexts_in ms
  pub retired : s.retired ≡ retired_in ms
  pub active : s.active ≡ active_in ms
  pub begun : map begun_of s.builds ≡ builds_in ms
  pub waiting : (n : ℕ) → (build_at s.builds n).waiting ≡ waiting_in ms n
  pub outcomes : (n : ℕ) → (build_at s.builds n).outcome ≡ outcome_in ms n
  pub closes : (n : ℕ) → (build_at s.builds n).closed ≡ closed_in ms n
  pub failures : (n : ℕ) → (build_at s.builds n).failed ≡ failed_in ms n
  pub tables : (n : ℕ) → (build_at s.builds n).table ≡ table_in ms n
  pub lists : (n : ℕ) → Lists (build_at s.builds n) (opens_in ms n)
  pub owed : s.owed ≡ drop (count_by is_take ms) (owed_in ms)
  pub enough : count_by is_take ms ≤ length (owed_in ms)

-- ---- builds that change

pub at-set : (bs : List Building) (n : ℕ) (b : Building) (m : ℕ) → n < length bs → build_at (slice_set bs n b) m ≡ cond (nat_eq n m) b (build_at bs m)
at-set bs n b m lt = by (nat_eq n m) refl
  where
    apart : nat_eq n m ≡ false → m ≡ n → ⊥
    apart e same = false≢true (sym e ∙ ap (λ k. nat_eq n k) same ∙ self n)
      where
        self : (k : ℕ) → nat_eq k k ≡ true
        self k = grind (arith)

    by : (t : Bool) → nat_eq n m ≡ t → build_at (slice_set bs n b) m ≡ cond t b (build_at bs m)
    by true e = ap (λ k. build_at (slice_set bs n b) k) (sym (eqb-true n m e)) ∙ get_or-set_same bs n b no_build lt
    by false e = get_or-set_other bs n m b no_build (apart e)

-- what a change leaves of a build is left of each
pub at-same : {X : Type 0} (f : Building → X) (bs : List Building) (n : ℕ) (b : Building) (m : ℕ) → n < length bs → f b ≡ f (build_at bs n) → f (build_at (slice_set bs n b) m) ≡ f (build_at bs m)
at-same f bs n b m lt same = ap f (at-set bs n b m lt) ∙ by (nat_eq n m) refl
  where
    by : (t : Bool) → nat_eq n m ≡ t → f (cond t b (build_at bs m)) ≡ f (build_at bs m)
    by true e = same ∙ ap (λ k. f (build_at bs k)) (eqb-true n m e)
    by false e = refl

-- what a change makes of a build is made of that one alone
pub at-other : {X : Type 0} (f : Building → X) (g : X → Bool → X) (bs : List Building) (n : ℕ) (b : Building) (m : ℕ) → n < length bs
    → f b ≡ g (f (build_at bs n)) true → ((k : ℕ) → f (build_at bs k) ≡ g (f (build_at bs k)) false) → f (build_at (slice_set bs n b) m) ≡ g (f (build_at bs m)) (nat_eq n m)
at-other f g bs n b m lt own other = ap f (at-set bs n b m lt) ∙ by (nat_eq n m) refl
  where
    by : (t : Bool) → nat_eq n m ≡ t → f (cond t b (build_at bs m)) ≡ g (f (build_at bs m)) t
    by true e = own ∙ ap (λ k. g (f (build_at bs k)) true) (eqb-true n m e)
    by false e = other m

-- a build that begins has what stands where there is none
pub at-push : {X : Type 0} (f : Building → X) (bs : List Building) (b : Building) (m : ℕ) → f b ≡ f no_build → f (build_at (bs ++ b ∷ []) m) ≡ f (build_at bs m)
at-push f [] b zero same = same
at-push f [] b (suc m) same = refl
at-push f (c ∷ bs) b zero same = refl
at-push f (c ∷ bs) b (suc m) same = at-push f bs b m same

-- ---- one move

or-true : (t : Bool) → (t || true) ≡ true
or-true true = refl
or-true false = refl

abbrev take_of : Move → ℕ
take_of m = cond (is_take m) 1 0

reads_with : (s t : State) (ms : List Move) (m : Move) → Reads s ms
    → t.contexts ≡ context_at s.contexts m
    → t.retired ≡ retired_at s.retired m
    → t.active ≡ active_at s.active m
    → map begun_of t.builds ≡ begun_at (map begun_of s.builds) m
    → ((n : ℕ) → (build_at t.builds n).waiting ≡ (build_at s.builds n).waiting ++ waits n m)
    → ((n : ℕ) → (build_at t.builds n).outcome ≡ or_later (build_at s.builds n).outcome (settled_by n m))
    → ((n : ℕ) → (build_at t.builds n).closed ≡ ((build_at s.builds n).closed || closes_it n m))
    → ((n : ℕ) → (build_at t.builds n).failed ≡ failed_at n (build_at s.builds n).failed m)
    → ((n : ℕ) → (build_at t.builds n).table ≡ fold kept_pair (build_at s.builds n).table (gives n m))
    → ((n : ℕ) → Lists (build_at t.builds n) (opens_in ms n ++ gets n m))
    → t.owed ≡ drop (take_of m) (s.owed ++ owes ms m)
    → take_of m ≤ length s.owed
    → Reads t (ms ++ m ∷ [])
reads_with s t ms m r contexts retired active begins waiting outcomes closes failures tables lists owed few = record {
  contexts = contexts ∙ ap (λ (xs : List (ℕ × Options)). context_at xs m) r.contexts ∙ sym (contexts-push ms m);
  retired = retired ∙ ap (λ (ks : List ℕ). retired_at ks m) r.retired ∙ sym (retired-push ms m);
  active = active ∙ ap (λ (xs : List (ℕ × ℕ)). active_at xs m) r.active ∙ sym (active-push ms m);
  begun = begins ∙ ap (λ bs. begun_at bs m) r.begun ∙ sym (builds-push ms m);
  waiting = λ n. waiting n ∙ ap (λ ids. ids ++ waits n m) (r.waiting n) ∙ sym (waiting-push ms m n);
  outcomes = λ n. outcomes n ∙ ap (λ o. or_later o (settled_by n m)) (r.outcomes n) ∙ sym (outcome-push ms m n);
  closes = λ n. closes n ∙ ap (λ t. t || closes_it n m) (r.closes n) ∙ sym (closed-push ms m n);
  failures = λ n. failures n ∙ ap (λ f. failed_at n f m) (r.failures n) ∙ sym (failed-push ms m n);
  tables = λ n. tables n ∙ ap (λ q. fold kept_pair q (gives n m)) (r.tables n) ∙ sym (table-push ms m n);
  lists = λ n. lists n ∙ ap (λ (ts : List Task). fold with_task (entry_tasks (length (build_at t.builds n).options.entries)) ts) (sym (opens-push ms m n));
  owed =
      let within : drop (count_by is_take ms) (owed_in ms ++ owes ms m) ≡ drop (count_by is_take ms) (owed_in ms) ++ owes ms m = drop-append-le (count_by is_take ms) (owed_in ms) (owes ms m) r.enough in
      owed ∙ ap (λ os. drop (take_of m) (os ++ owes ms m)) r.owed ∙ ap (λ os. drop (take_of m) os) (sym within) ∙ drop-drop (take_of m) (count_by is_take ms) (owed_in ms ++ owes ms m)
      ∙ ap (λ k. drop k (owed_in ms ++ owes ms m)) (sym (count-push is_take ms m)) ∙ ap (λ os. drop (count_by is_take (ms ++ m ∷ [])) os) (sym (owed-push ms m));
  enough =
      let all : length (owed_in (ms ++ m ∷ [])) ≡ length (owed_in ms ++ owes ms m) = ap length (owed-push ms m) in
      let some : length s.owed ≡ length (drop (count_by is_take ms) (owed_in ms)) = ap length r.owed in
      omega (arith, all, some, few, r.enough, count-push is_take ms m, length-append (owed_in ms) (owes ms m), length-drop (count_by is_take ms) (owed_in ms));
}

-- nothing is owed or taken off
none_owed : (owed : List Out) → owed ≡ drop 0 (owed ++ [])
none_owed owed = sym (append-nil owed)

no_ids : (ids : List (ℕ × Bool)) → ids ≡ ids ++ []
no_ids ids = sym (append-nil ids)

no-tasks : (b : Building) (ts : List Task) → Lists b ts → Lists b (ts ++ [])
no-tasks b ts h = h ∙ ap (λ (us : List Task). fold with_task (entry_tasks (length b.options.entries)) us) (sym (append-nil ts))

not_closed : (t : Bool) → t ≡ (t || false)
not_closed t = sym (or-false t)

-- a move that leaves the builds
quietly : (s t : State) (ms : List Move) (m : Move) → Reads s ms → t.builds ≡ s.builds → t.contexts ≡ context_at s.contexts m → t.retired ≡ retired_at s.retired m → t.active ≡ active_at s.active m
    → begun_at (map begun_of s.builds) m ≡ map begun_of s.builds → ((n : ℕ) → waits n m ≡ []) → ((n : ℕ) → settled_by n m ≡ None) → ((n : ℕ) → closes_it n m ≡ false) → ((n : ℕ) → failed_at n (build_at s.builds n).failed m ≡ (build_at s.builds n).failed)
    → ((n : ℕ) → gives n m ≡ []) → ((n : ℕ) → gets n m ≡ [])
    → t.owed ≡ drop (take_of m) (s.owed ++ owes ms m) → take_of m ≤ length s.owed → Reads t (ms ++ m ∷ [])
quietly s t ms m r same contexts retired active begins waits_none settles_none closes_none fails_none gives_none gets_none owed few =
    reads_with s t ms m r contexts retired active (ap (λ (bs : List Building). map begun_of bs) same ∙ sym begins)
    (λ n. ap (λ (bs : List Building). (build_at bs n).waiting) same ∙ no_ids (build_at s.builds n).waiting ∙ ap (λ ids. (build_at s.builds n).waiting ++ ids) (sym (waits_none n)))
    (λ n. ap (λ (bs : List Building). (build_at bs n).outcome) same ∙ sym (ap (λ o. or_later (build_at s.builds n).outcome o) (settles_none n) ∙ or_later-None (build_at s.builds n).outcome))
    (λ n. ap (λ (bs : List Building). (build_at bs n).closed) same ∙ not_closed (build_at s.builds n).closed ∙ ap (λ t. (build_at s.builds n).closed || t) (sym (closes_none n)))
    (λ n. ap (λ (bs : List Building). (build_at bs n).failed) same ∙ sym (fails_none n))
    (λ n. ap (λ (bs : List Building). (build_at bs n).table) same ∙ ap (λ xs. fold kept_pair (build_at s.builds n).table xs) (sym (gives_none n)))
    (λ n. subst (λ (bs : List Building). Lists (build_at bs n) (opens_in ms n ++ gets n m)) (sym same) (subst (λ (us : List Task). Lists (build_at s.builds n) (opens_in ms n ++ us)) (sym (gets_none n)) (no-tasks (build_at s.builds n) (opens_in ms n) (r.lists n))))
    owed few

fresh-lists : (key : ℕ) (options : Options) (more : List Task) → Lists no_build more → Lists (fresh key options) more
fresh-lists key options more none = ap (λ (us : List Task). fold with_task (entry_tasks (length options.entries)) us) (sym (fold-none more none))

module _ (s : State) (ms : List Move) (r : Reads s ms) where
  -- a build changes, and keeps its tasks
  same-lists : (n : ℕ) (b : Building) → Lists b (opens_in ms n) → (m : ℕ) → Lists (build_at (slice_set s.builds n b) m) (opens_in ms m ++ [])
  same-lists n b own m = no-tasks (build_at (slice_set s.builds n b) m) (opens_in ms m) (each-set (λ k c. Lists c (opens_in ms k)) s.builds n b r.lists own m)

  begins : (n key : ℕ) (options : Options) → Reads (moved s (begin n key options)) (ms ++ begin n key options ∷ [])
  begins n key options =
      reads_with s (moved s (begin n key options)) ms (begin n key options) r refl refl refl (map-append begun_of s.builds (fresh key options ∷ []))
      (λ m. at-push (λ b. b.waiting) s.builds (fresh key options) m refl ∙ no_ids (build_at s.builds m).waiting)
      (λ m. at-push (λ b. b.outcome) s.builds (fresh key options) m refl ∙ sym (or_later-None (build_at s.builds m).outcome))
      (λ m. at-push (λ b. b.closed) s.builds (fresh key options) m refl ∙ not_closed (build_at s.builds m).closed)
      (λ m. at-push (λ b. b.failed) s.builds (fresh key options) m refl)
      (λ m. at-push (λ b. b.table) s.builds (fresh key options) m refl)
      (λ m. no-tasks (build_at (s.builds ++ fresh key options ∷ []) m) (opens_in ms m) (each-push (λ k b. Lists b (opens_in ms k)) s.builds (fresh key options) r.lists (λ k h. fresh-lists key options (opens_in ms k) h) m))
      (none_owed s.owed) (omega arith)

  joins : (n id : ℕ) (result : Bool) → n < length s.builds → Reads (moved s (join n id result)) (ms ++ join n id result ∷ [])
  joins n id result lt =
      reads_with s (moved s (join n id result)) ms (join n id result) r refl refl refl (map-set_same begun_of s.builds n (joined (build_at s.builds n) id result) no_build refl)
      (λ m. at-other (λ b. b.waiting) (λ ids t. ids ++ cond t ((id, result) ∷ []) []) s.builds n (joined (build_at s.builds n) id result) m lt refl (λ k. no_ids (build_at s.builds k).waiting))
      (λ m. at-same (λ c. c.outcome) s.builds n (joined (build_at s.builds n) id result) m lt refl ∙ sym (or_later-None (build_at s.builds m).outcome))
      (λ m. at-same (λ c. c.closed) s.builds n (joined (build_at s.builds n) id result) m lt refl ∙ not_closed (build_at s.builds m).closed)
      (λ m. at-same (λ c. c.failed) s.builds n (joined (build_at s.builds n) id result) m lt refl)
      (λ m. at-same (λ c. c.table) s.builds n (joined (build_at s.builds n) id result) m lt refl)
      (same-lists n (joined (build_at s.builds n) id result) (r.lists n))
      (none_owed s.owed) (omega arith)

  keeps : (n : ℕ) (q : Question) (a : Answer) → n < length s.builds → Reads (moved s (keep n q a)) (ms ++ keep n q a ∷ [])
  keeps n q a lt =
      reads_with s (moved s (keep n q a)) ms (keep n q a) r refl refl refl (map-set_same begun_of s.builds n (answered (build_at s.builds n) q a) no_build refl)
      (λ m. at-same (λ c. c.waiting) s.builds n (answered (build_at s.builds n) q a) m lt refl ∙ no_ids (build_at s.builds m).waiting)
      (λ m. at-same (λ c. c.outcome) s.builds n (answered (build_at s.builds n) q a) m lt refl ∙ sym (or_later-None (build_at s.builds m).outcome))
      (λ m. at-same (λ c. c.closed) s.builds n (answered (build_at s.builds n) q a) m lt refl ∙ not_closed (build_at s.builds m).closed)
      (λ m. at-same (λ c. c.failed) s.builds n (answered (build_at s.builds n) q a) m lt refl)
      (λ m. at-other (λ b. b.table) (λ table t. fold kept_pair table (cond t ((q, a) ∷ []) [])) s.builds n (answered (build_at s.builds n) q a) m lt refl (λ k. refl))
      (same-lists n (answered (build_at s.builds n) q a) (r.lists n))
      (none_owed s.owed) (omega arith)

  assigns : (n : ℕ) (t : Task) → n < length s.builds → Reads (moved s (assign n t)) (ms ++ assign n t ∷ [])
  assigns n t lt =
      reads_with s (moved s (assign n t)) ms (assign n t) r refl refl refl (map-set_same begun_of s.builds n b no_build refl)
      (λ m. at-same (λ c. c.waiting) s.builds n b m lt refl ∙ no_ids (build_at s.builds m).waiting)
      (λ m. at-same (λ c. c.outcome) s.builds n b m lt refl ∙ sym (or_later-None (build_at s.builds m).outcome))
      (λ m. at-same (λ c. c.closed) s.builds n b m lt refl ∙ not_closed (build_at s.builds m).closed)
      (λ m. at-same (λ c. c.failed) s.builds n b m lt refl)
      (λ m. at-same (λ c. c.table) s.builds n b m lt refl)
      (λ m. subst (λ (c : Building). Lists c (opens_in ms m ++ cond (nat_eq n m) (t ∷ []) [])) (sym (at-set s.builds n b m lt)) (by m (nat_eq n m) refl))
      (none_owed s.owed) (omega arith)
    where
      b : Building
      b = tasked (build_at s.builds n) t

      first : List Task
      first = entry_tasks (length (build_at s.builds n).options.entries)

      own : Lists b (opens_in ms n ++ t ∷ [])
      own = ap (λ (ts : List Task). with_task ts t) (r.lists n) ∙ sym (fold-append with_task first (opens_in ms n) (t ∷ []))

      by : (m : ℕ) (x : Bool) → nat_eq n m ≡ x → (let c : Building = cond x b (build_at s.builds m) in Lists c (opens_in ms m ++ cond x (t ∷ []) []))
      by m true same = subst (λ (k : ℕ). Lists b (opens_in ms k ++ t ∷ [])) (eqb-true n m same) own
      by m false apart = no-tasks (build_at s.builds m) (opens_in ms m) (r.lists m)

  settles : (n : ℕ) (o : Outcome) → n < length s.builds → (build_at s.builds n).outcome ≡ None → Reads (moved s (settle n o)) (ms ++ settle n o ∷ [])
  settles n o lt none =
      reads_with s (moved s (settle n o)) ms (settle n o) r refl refl refl (map-set_same begun_of s.builds n (ended_by (build_at s.builds n) o) no_build refl)
      (λ m. at-same (λ c. c.waiting) s.builds n (ended_by (build_at s.builds n) o) m lt refl ∙ no_ids (build_at s.builds m).waiting)
      (λ m. at-other (λ b. b.outcome) (λ p t. or_later p (cond t (Some o) None)) s.builds n (ended_by (build_at s.builds n) o) m lt (ap (λ p. or_later p (Some o)) (sym none)) (λ k. sym (or_later-None (build_at s.builds k).outcome)))
      (λ m. at-same (λ c. c.closed) s.builds n (ended_by (build_at s.builds n) o) m lt refl ∙ not_closed (build_at s.builds m).closed)
      (λ m. at-same (λ c. c.failed) s.builds n (ended_by (build_at s.builds n) o) m lt refl)
      (λ m. at-same (λ c. c.table) s.builds n (ended_by (build_at s.builds n) o) m lt refl)
      (same-lists n (ended_by (build_at s.builds n) o) (r.lists n))
      (none_owed s.owed) (omega arith)

  writes : (n : ℕ) (f : Failures) → n < length s.builds → Reads (moved s (write n f)) (ms ++ write n f ∷ [])
  writes n f lt =
      reads_with s (moved s (write n f)) ms (write n f) r refl refl refl (map-set_same begun_of s.builds n (written_by (build_at s.builds n) f) no_build refl)
      (λ m. at-same (λ c. c.waiting) s.builds n (written_by (build_at s.builds n) f) m lt refl ∙ no_ids (build_at s.builds m).waiting)
      (λ m. at-same (λ c. c.outcome) s.builds n (written_by (build_at s.builds n) f) m lt refl ∙ sym (or_later-None (build_at s.builds m).outcome))
      (λ m. at-same (λ c. c.closed) s.builds n (written_by (build_at s.builds n) f) m lt refl ∙ not_closed (build_at s.builds m).closed)
      (λ m. at-other (λ b. b.failed) (λ g t. cond t (Some f) g) s.builds n (written_by (build_at s.builds n) f) m lt refl (λ k. refl))
      (λ m. at-same (λ c. c.table) s.builds n (written_by (build_at s.builds n) f) m lt refl)
      (same-lists n (written_by (build_at s.builds n) f) (r.lists n))
      (none_owed s.owed) (omega arith)

  closes : (key n : ℕ) → n < length s.builds → Reads (moved s (close key n)) (ms ++ close key n ∷ [])
  closes key n lt =
      reads_with s (moved s (close key n)) ms (close key n) r refl refl refl (map-set_same begun_of s.builds n (closed_by (build_at s.builds n)) no_build refl)
      (λ m. at-same (λ c. c.waiting) s.builds n (closed_by (build_at s.builds n)) m lt refl ∙ no_ids (build_at s.builds m).waiting)
      (λ m. at-same (λ c. c.outcome) s.builds n (closed_by (build_at s.builds n)) m lt refl ∙ sym (or_later-None (build_at s.builds m).outcome))
      (λ m. at-other (λ b. b.closed) (λ c t. c || t) s.builds n (closed_by (build_at s.builds n)) m lt (sym (or-true (build_at s.builds n).closed)) (λ k. not_closed (build_at s.builds k).closed))
      (λ m. at-same (λ c. c.failed) s.builds n (closed_by (build_at s.builds n)) m lt refl)
      (λ m. at-same (λ c. c.table) s.builds n (closed_by (build_at s.builds n)) m lt refl)
      (same-lists n (closed_by (build_at s.builds n)) (r.lists n))
      (ap (λ ids. s.owed ++ results n ids) (r.waiting n)) (omega arith)

pub moved-reads : (s : State) (ms : List Move) (m : Move) → Fits s m → Reads s ms → Reads (moved s m) (ms ++ m ∷ [])
moved-reads s ms (make key options) f r = quietly s (moved s (make key options)) ms (make key options) r refl refl refl refl refl (λ n. refl) (λ n. refl) (λ n. refl) (λ n. refl) (λ n. refl) (λ n. refl) (none_owed s.owed) (omega arith)
moved-reads s ms (remove key) f r = quietly s (moved s (remove key)) ms (remove key) r refl refl refl refl refl (λ n. refl) (λ n. refl) (λ n. refl) (λ n. refl) (λ n. refl) (λ n. refl) (none_owed s.owed) (omega arith)
moved-reads s ms (retire key) f r = quietly s (moved s (retire key)) ms (retire key) r refl refl refl refl refl (λ n. refl) (λ n. refl) (λ n. refl) (λ n. refl) (λ n. refl) (λ n. refl) (none_owed s.owed) (omega arith)
moved-reads s ms (begin n key options) f r = begins s ms r n key options
moved-reads s ms (join n id result) f r = joins s ms r n id result f.begun
moved-reads s ms (owe o) f r = quietly s (moved s (owe o)) ms (owe o) r refl refl refl refl refl (λ n. refl) (λ n. refl) (λ n. refl) (λ n. refl) (λ n. refl) (λ n. refl) refl (omega arith)
moved-reads s ms (keep n q a) f r = keeps s ms r n q a f.begun
moved-reads s ms (assign n t) f r = assigns s ms r n t f.begun
moved-reads s ms (settle n o) f r = settles s ms r n o f.begun f.unsettled
moved-reads s ms (write n g) f r = writes s ms r n g f.begun
moved-reads s ms (close key n) f r = closes s ms r key n f.active.begun
moved-reads s ms take f r = quietly s (moved s take) ms take r refl refl refl refl refl (λ n. refl) (λ n. refl) (λ n. refl) (λ n. refl) (λ n. refl) (λ n. refl) (ap (λ (os : List Out). drop 1 os) (sym (append-nil s.owed))) (omega (arith, f))

pub all_moved-reads : (s : State) (ms more : List Move) → AllFit s more → Reads s ms → Reads (all_moved s more) (ms ++ more)
all_moved-reads s ms [] fit r = subst (λ (ns : List Move). Reads s ns) (sym (append-nil ms)) r
all_moved-reads s ms (m ∷ more) fit r =
    subst (λ (ns : List Move). Reads (all_moved (moved s m) more) ns) (append_assoc ms (m ∷ []) more)
    (all_moved-reads (moved s m) (ms ++ m ∷ []) more fit.1 (moved-reads s ms m fit.0 r))

-- ---- the work of a build

-- a build changes in nothing that is asked about, and nor does what is owed
pub changed-reads : (s : State) (ms : List Move) (n : ℕ) (b : Building) → n < length s.builds → begun_of b ≡ begun_of (build_at s.builds n) → b.waiting ≡ (build_at s.builds n).waiting
    → b.outcome ≡ (build_at s.builds n).outcome → b.closed ≡ (build_at s.builds n).closed → b.failed ≡ (build_at s.builds n).failed → b.table ≡ (build_at s.builds n).table → b.tasks ≡ (build_at s.builds n).tasks → Reads s ms → Reads (Steps.changed s n b) ms
changed-reads s ms n b lt begun waiting outcome closed failed table tasks r = record {
  contexts = r.contexts;
  retired = r.retired;
  active = r.active;
  begun = map-set_same begun_of s.builds n b no_build begun ∙ r.begun;
  waiting = λ m. at-same (λ c. c.waiting) s.builds n b m lt waiting ∙ r.waiting m;
  outcomes = λ m. at-same (λ c. c.outcome) s.builds n b m lt outcome ∙ r.outcomes m;
  closes = λ m. at-same (λ c. c.closed) s.builds n b m lt closed ∙ r.closes m;
  failures = λ m. at-same (λ c. c.failed) s.builds n b m lt failed ∙ r.failures m;
  tables = λ m. at-same (λ c. c.table) s.builds n b m lt table ∙ r.tables m;
  lists = λ m. each-set (λ k c. Lists c (opens_in ms k)) s.builds n b r.lists (tasks ∙ r.lists n ∙ ap (λ (c : Begun). fold with_task (entry_tasks (length c.options.entries)) (opens_in ms n)) (sym begun)) m;
  owed = r.owed;
  enough = r.enough;
}

-- ---- what an event finds

pub at_map : (bs : List Building) (n : ℕ) → slice_index_or (map begun_of bs) n no_begun ≡ begun_of (build_at bs n)
at_map [] n = refl
at_map (b ∷ bs) zero = refl
at_map (b ∷ bs) (suc n) = at_map bs n

pub build-read : (s : State) (ms : List Move) (n : ℕ) → Reads s ms → slice_index_or (builds_in ms) n no_begun ≡ begun_of (build_at s.builds n)
build-read s ms n r = ap (λ bs. slice_index_or bs n no_begun) (sym r.begun) ∙ at_map s.builds n

pub same-number : (s : State) (ms : List Move) → Reads s ms → length s.builds ≡ length (builds_in ms)
same-number s ms r = sym (length-map s.builds begun_of) ∙ ap length r.begun

crowd-read : (s : State) (ms : List Move) (o : Option ℕ) → Reads s ms → waiting_for s.builds o ≡ crowd ms o
crowd-read s ms None r = refl
crowd-read s ms (Some n) r = ap length (r.waiting n)

settled-read : (s : State) (ms : List Move) (o : Option ℕ) → Reads s ms → settled_for s.builds o ≡ is_settled_in ms o
settled-read s ms None r = refl
settled-read s ms (Some n) r = ap is_some (r.outcomes n)

pub met-read : (s : State) (ms : List Move) (key : ℕ) → Reads s ms → met s key ≡ met_in ms key
met-read s ms key r =
    let context : lookup (nat_eq key) s.contexts ≡ lookup (nat_eq key) (contexts_in ms) = ap (λ (xs : List (ℕ × Options)). lookup (nat_eq key) xs) r.contexts in
    let retired : list_any (nat_eq key) s.retired ≡ list_any (nat_eq key) (retired_in ms) = ap (λ (ks : List ℕ). list_any (nat_eq key) ks) r.retired in
    let active : lookup (nat_eq key) s.active ≡ lookup (nat_eq key) (active_in ms) = ap (λ (xs : List (ℕ × ℕ)). lookup (nat_eq key) xs) r.active in
    let settled : settled_for s.builds (lookup (nat_eq key) s.active) ≡ is_settled_in ms (lookup (nat_eq key) (active_in ms)) =
    settled-read s ms (lookup (nat_eq key) s.active) r ∙ ap (λ o. is_settled_in ms o) active in
    let waiting : waiting_for s.builds (lookup (nat_eq key) s.active) ≡ crowd ms (lookup (nat_eq key) (active_in ms)) =
    crowd-read s ms (lookup (nat_eq key) s.active) r ∙ ap (λ o. crowd ms o) active in
    let contexts : length s.contexts ≡ length (contexts_in ms) = ap length r.contexts in
    let begun = same-number s ms r in
    same context retired active settled waiting contexts begun
  where
    same : {a b : Option Options} {x y : Bool} {c d : Option ℕ} {u v : Bool} {i j k l m n : ℕ} → a ≡ b → x ≡ y → c ≡ d → u ≡ v → i ≡ j → k ≡ l → m ≡ n
        → ◌≡◌ {A = Met} (record { context = a; retired = x; active = c; settled = u; waiting = i; contexts = k; begun = m }) (record { context = b; retired = y; active = d; settled = v; waiting = j; contexts = l; begun = n })
    same p q r s t w x = rw (p, q, r, s, t, w, x) refl

-- the tasks of a build are those of its moves
pub tasks-read : (s : State) (ms : List Move) (n : ℕ) → Reads s ms → (build_at s.builds n).tasks ≡ tasks_in ms n
tasks-read s ms n r = r.lists n ∙ ap (λ (b : Begun). fold with_task (entry_tasks (length b.options.entries)) (opens_in ms n)) (sym (build-read s ms n r))

pub standing-read : (s : State) (ms : List Move) (n : ℕ) → Reads s ms → standing s n ≡ standing_in ms n
standing-read s ms n r =
    same (ap (λ (b : Begun). b.key) its)
    (ap (λ (b : Begun). b.options.context && not (list_any (nat_eq b.key) s.retired)) its ∙ ap (λ (ks : List ℕ). own.options.context && not (list_any (nat_eq own.key) ks)) r.retired)
    (ap (λ (b : Begun). b.options.write) its) (r.tables n) (tasks-read s ms n r) (r.outcomes n)
  where
    own : Begun
    own = slice_index_or (builds_in ms) n no_begun

    its : begun_of (build_at s.builds n) ≡ own
    its = sym (build-read s ms n r)

    same : {k l : ℕ} {a b w x : Bool} {c d : List (Question × Answer)} {e f : List Task} {g h : Option Outcome} → k ≡ l → a ≡ b → w ≡ x → c ≡ d → e ≡ f → g ≡ h
        → ◌≡◌ {A = Standing} (record { key = k; stays = a; writes = w; table = c; tasks = e; outcome = g }) (record { key = l; stays = b; writes = x; table = d; tasks = f; outcome = h })
    same p q r s t u = rw (p, q, r, s, t, u) refl
