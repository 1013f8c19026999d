-- What the questions about moves answer once one more move is made.
use Rattle.std.proofs.Common.{◌≡◌, ℕ, ◌+◌, Bool, true, false, cond, ◌||◌, List, [], ◌∷◌, ◌++◌, Option, None, Some, refl, sym, ap, ◌∙◌, append_assoc, append-nil, arith, nat_eq}
use Rattle.std.specs.List.{fold, count_by, list_any}
use Rattle.std.proofs.Math.Bool.{or-false}
use Rattle.std.proofs.lemmas.List.Folds.{list_any-append}
use Rattle.std.proofs.lemmas.List.Sums.{fold-append, sum_by-append}
use Rattle.esb_ask.specs.declared.question.Question.{Question}
use Rattle.esb_ask.specs.declared.answer.Answer.{Answer}
use Rattle.esb_ask.specs.declared.task.Task.{Task}
use Rattle.esb_ask.specs.declared.outcome.Outcome.{Outcome}
use Rattle.esb_ask.specs.declared.outcome.Failures.{Failures}
use Rattle.esb_core.specs.declared.event.Event.{Event}
use Rattle.esb_core.specs.Moves.{Move, make, remove, begin, join, retire, owe, keep, assign, settle, write, close, take}
use Rattle.esb_core.specs.History.{gathered_from, gathered, context_at, contexts_in, active_at, active_in, begun_at, builds_in, waits_with, waiting_in, settled_by, closes_it, closed_in, failed_at, failed_in, retired_at, retired_in, or_later, outcome_in, answers_with, answers_in, kept_pair, table_in, opens_with, opens_in, owes, owed_in, moves_after, moves_from, moves_in}

pub contexts-push : (ms : List Move) (m : Move) → contexts_in (ms ++ m ∷ []) ≡ context_at (contexts_in ms) m
contexts-push ms m = fold-append context_at [] ms (m ∷ [])

pub active-push : (ms : List Move) (m : Move) → active_in (ms ++ m ∷ []) ≡ active_at (active_in ms) m
active-push ms m = fold-append active_at [] ms (m ∷ [])

pub builds-push : (ms : List Move) (m : Move) → builds_in (ms ++ m ∷ []) ≡ begun_at (builds_in ms) m
builds-push ms m = fold-append begun_at [] ms (m ∷ [])

-- ---- waiting requests

abbrev pub waits : ℕ → Move → List (ℕ × Bool)
waits n m = waits_with n m []

waits-past : (n : ℕ) (m : Move) (xs ys : List (ℕ × Bool)) → waits_with n m (xs ++ ys) ≡ waits_with n m xs ++ ys
waits-past n (join k id result) xs ys = by (nat_eq k n)
  where
    by : (t : Bool) → cond t ((id, result) ∷ xs ++ ys) (xs ++ ys) ≡ cond t ((id, result) ∷ xs) xs ++ ys
    by true = refl
    by false = refl
waits-past n (make key options) xs ys = refl
waits-past n (remove key) xs ys = refl
waits-past n (begin k key options) xs ys = refl
waits-past n (owe o) xs ys = refl
waits-past n (keep k q a) xs ys = refl
waits-past n (assign k t) xs ys = refl
waits-past n (retire key) xs ys = refl
waits-past n (settle k o) xs ys = refl
waits-past n (write k f) xs ys = refl
waits-past n (close key k) xs ys = refl
waits-past n take xs ys = refl

pub waiting-append : (ms ns : List Move) (n : ℕ) → waiting_in (ms ++ ns) n ≡ waiting_in ms n ++ waiting_in ns n
waiting-append [] ns n = refl
waiting-append (m ∷ ms) ns n = ap (λ ids. waits_with n m ids) (waiting-append ms ns n) ∙ waits-past n m (waiting_in ms n) (waiting_in ns n)

pub waiting-push : (ms : List Move) (m : Move) (n : ℕ) → waiting_in (ms ++ m ∷ []) n ≡ waiting_in ms n ++ waits n m
waiting-push ms m n = waiting-append ms (m ∷ []) n

-- ---- outcomes

pub or_later-None : (o : Option Outcome) → or_later o None ≡ o
or_later-None None = refl
or_later-None (Some o) = refl

pub or_later-assoc : (o p q : Option Outcome) → or_later o (or_later p q) ≡ or_later (or_later o p) q
or_later-assoc None p q = refl
or_later-assoc (Some o) p q = refl

pub outcome-append : (ms ns : List Move) (n : ℕ) → outcome_in (ms ++ ns) n ≡ or_later (outcome_in ms n) (outcome_in ns n)
outcome-append [] ns n = refl
outcome-append (m ∷ ms) ns n = ap (λ o. or_later (settled_by n m) o) (outcome-append ms ns n) ∙ or_later-assoc (settled_by n m) (outcome_in ms n) (outcome_in ns n)

pub outcome-push : (ms : List Move) (m : Move) (n : ℕ) → outcome_in (ms ++ m ∷ []) n ≡ or_later (outcome_in ms n) (settled_by n m)
outcome-push ms m n = outcome-append ms (m ∷ []) n ∙ ap (λ o. or_later (outcome_in ms n) o) (or_later-None (settled_by n m))

-- ---- closed builds, and their failures

pub closed-append : (ms ns : List Move) (n : ℕ) → closed_in (ms ++ ns) n ≡ (closed_in ms n || closed_in ns n)
closed-append ms ns n = list_any-append (closes_it n) ms ns

pub closed-push : (ms : List Move) (m : Move) (n : ℕ) → closed_in (ms ++ m ∷ []) n ≡ (closed_in ms n || closes_it n m)
closed-push ms m n = closed-append ms (m ∷ []) n ∙ ap (λ t. closed_in ms n || t) (or-false (closes_it n m))

pub failed-push : (ms : List Move) (m : Move) (n : ℕ) → failed_in (ms ++ m ∷ []) n ≡ failed_at n (failed_in ms n) m
failed-push ms m n = fold-append (failed_at n) None ms (m ∷ [])

pub retired-push : (ms : List Move) (m : Move) → retired_in (ms ++ m ∷ []) ≡ retired_at (retired_in ms) m
retired-push ms m = fold-append retired_at [] ms (m ∷ [])

-- ---- answers

-- the answer that one move gives to a build
abbrev pub gives : ℕ → Move → List (Question × Answer)
gives n m = answers_with n m []

answers-past : (n : ℕ) (m : Move) (xs ys : List (Question × Answer)) → answers_with n m (xs ++ ys) ≡ answers_with n m xs ++ ys
answers-past n (keep k q a) xs ys = by (nat_eq k n)
  where
    by : (t : Bool) → cond t ((q, a) ∷ xs ++ ys) (xs ++ ys) ≡ cond t ((q, a) ∷ xs) xs ++ ys
    by true = refl
    by false = refl
answers-past n (make key options) xs ys = refl
answers-past n (remove key) xs ys = refl
answers-past n (begin k key options) xs ys = refl
answers-past n (join k id result) xs ys = refl
answers-past n (owe o) xs ys = refl
answers-past n (assign k t) xs ys = refl
answers-past n (retire key) xs ys = refl
answers-past n (settle k o) xs ys = refl
answers-past n (write k f) xs ys = refl
answers-past n (close key k) xs ys = refl
answers-past n take xs ys = refl

pub answers-append : (ms ns : List Move) (n : ℕ) → answers_in (ms ++ ns) n ≡ answers_in ms n ++ answers_in ns n
answers-append [] ns n = refl
answers-append (m ∷ ms) ns n = ap (λ xs. answers_with n m xs) (answers-append ms ns n) ∙ answers-past n m (answers_in ms n) (answers_in ns n)

pub table-append : (ms ns : List Move) (n : ℕ) → table_in (ms ++ ns) n ≡ fold kept_pair (table_in ms n) (answers_in ns n)
table-append ms ns n = ap (λ xs. fold kept_pair [] xs) (answers-append ms ns n) ∙ fold-append kept_pair [] (answers_in ms n) (answers_in ns n)

pub table-push : (ms : List Move) (m : Move) (n : ℕ) → table_in (ms ++ m ∷ []) n ≡ fold kept_pair (table_in ms n) (gives n m)
table-push ms m n = table-append ms (m ∷ []) n

-- ---- tasks

-- the task that one move gives to a build
abbrev pub gets : ℕ → Move → List Task
gets n m = opens_with n m []

opens-past : (n : ℕ) (m : Move) (xs ys : List Task) → opens_with n m (xs ++ ys) ≡ opens_with n m xs ++ ys
opens-past n (assign k t) xs ys = by (nat_eq k n)
  where
    by : (s : Bool) → cond s (t ∷ xs ++ ys) (xs ++ ys) ≡ cond s (t ∷ xs) xs ++ ys
    by true = refl
    by false = refl
opens-past n (make key options) xs ys = refl
opens-past n (remove key) xs ys = refl
opens-past n (begin k key options) xs ys = refl
opens-past n (join k id result) xs ys = refl
opens-past n (owe o) xs ys = refl
opens-past n (keep k q a) xs ys = refl
opens-past n (retire key) xs ys = refl
opens-past n (settle k o) xs ys = refl
opens-past n (write k f) xs ys = refl
opens-past n (close key k) xs ys = refl
opens-past n take xs ys = refl

pub opens-append : (ms ns : List Move) (n : ℕ) → opens_in (ms ++ ns) n ≡ opens_in ms n ++ opens_in ns n
opens-append [] ns n = refl
opens-append (m ∷ ms) ns n = ap (λ ts. opens_with n m ts) (opens-append ms ns n) ∙ opens-past n m (opens_in ms n) (opens_in ns n)

pub opens-push : (ms : List Move) (m : Move) (n : ℕ) → opens_in (ms ++ m ∷ []) n ≡ opens_in ms n ++ gets n m
opens-push ms m n = opens-append ms (m ∷ []) n

-- ---- what each gives with those before it

pub gathered_from-append : {X Y : Type 0} (f : List X → X → List Y) (before xs ys : List X) → gathered_from f before (xs ++ ys) ≡ gathered_from f before xs ++ gathered_from f (before ++ xs) ys
gathered_from-append f before [] ys = ap (λ b. gathered_from f b ys) (sym (append-nil before))
gathered_from-append f before (x ∷ xs) ys =
    ap (λ zs. f before x ++ zs)
    (gathered_from-append f (before ++ x ∷ []) xs ys ∙ ap (λ b. gathered_from f (before ++ x ∷ []) xs ++ gathered_from f b ys) (append_assoc before (x ∷ []) xs))
    ∙ sym (append_assoc (f before x) (gathered_from f (before ++ x ∷ []) xs) (gathered_from f (before ++ x ∷ xs) ys))

pub gathered-push : {X Y : Type 0} (f : List X → X → List Y) (xs : List X) (x : X) → gathered f (xs ++ x ∷ []) ≡ gathered f xs ++ f xs x
gathered-push f xs x = gathered_from-append f [] xs (x ∷ []) ∙ ap (λ zs. gathered f xs ++ zs) (append-nil (f xs x))

pub owed-push : (ms : List Move) (m : Move) → owed_in (ms ++ m ∷ []) ≡ owed_in ms ++ owes ms m
owed-push ms m = gathered-push owes ms m

pub count-push : {X : Type 0} (p : X → Bool) (xs : List X) (x : X) → count_by p (xs ++ x ∷ []) ≡ count_by p xs + cond (p x) 1 0
count-push p xs x = sum_by-append (λ y. cond (p y) 1 0) xs (x ∷ []) ∙ omega arith

-- ---- the moves of a list

pub moves_from-append : (ms : List Move) (es fs : List Event) → moves_from ms (es ++ fs) ≡ moves_from (moves_from ms es) fs
moves_from-append ms [] fs = refl
moves_from-append ms (e ∷ es) fs = moves_from-append (ms ++ moves_after ms e) es fs

pub moves-push : (es : List Event) (e : Event) → moves_in (es ++ e ∷ []) ≡ moves_in es ++ moves_after (moves_in es) e
moves-push es e = moves_from-append [] es (e ∷ [])

-- a list that goes on
pub record IsLonger {X : Type 0} (xs ys : List X) : Type 0 where
  pub rest : List X
  pub is : ys ≡ xs ++ rest

moves_from-longer : (ms : List Move) (es : List Event) → IsLonger ms (moves_from ms es)
moves_from-longer ms [] = record { rest = []; is = sym (append-nil ms) }
moves_from-longer ms (e ∷ es) =
    let more = moves_from-longer (ms ++ moves_after ms e) es in
    record { rest = moves_after ms e ++ more.rest; is = more.is ∙ append_assoc ms (moves_after ms e) more.rest }

-- the moves of a longer list go on
pub moves-longer : (es fs : List Event) → IsLonger (moves_in es) (moves_in (es ++ fs))
moves-longer es fs =
    let more = moves_from-longer (moves_in es) fs in
    record { rest = more.rest; is = moves_from-append [] es fs ∙ more.is }
