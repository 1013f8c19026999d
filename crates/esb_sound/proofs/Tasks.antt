-- Lists of tasks and of claims that change.
use Rattle.std.proofs.Common.{◌≡◌, ℕ, zero, suc, ◌+◌, ◌<◌, ◌≤◌, ◌⊎◌, inl, inr, Bool, true, false, cond, not, List, [], ◌∷◌, ◌++◌, length, Option, None, Some, refl, sym, ap, ◌∙◌, arith, nat_eq, nat_lt, slice_get}
use Rattle.std.specs.Prelude.{filter, ◌||◌}
use Rattle.std.specs.List.{list_any}
use Rattle.std.proofs.lemmas.Bool.{false≢true, eqb-true, ltb-true}
use Rattle.esb_ask.specs.declared.task.Task.{Task}
use Rattle.esb_ask.specs.declared.task.Task.TheVariants as task
use Rattle.esb_ask.specs.Tasks.{same_task}
use Rattle.esb_ask.proofs.SameTask.{equal-from_same_task, same_task-refl}
use Rattle.esb_core.specs.Sizes.{opened}
use Rattle.esb_core.specs.Steps.{entry_tasks_from, is_claim}
use Rattle.esb_core.proofs.Claims.{both_parts}

-- ---- tests

or-left : (a b : Bool) → a ≡ true → (a || b) ≡ true
or-left a b e = ap (λ (c : Bool). c || b) e

or-right : (a b : Bool) → b ≡ true → (a || b) ≡ true
or-right true b e = refl
or-right false b e = e

pub any-left : {X : Type 0} (p : X → Bool) (xs ys : List X) → list_any p xs ≡ true → list_any p (xs ++ ys) ≡ true
any-left p [] ys e = absurd (false≢true e)
any-left p (x ∷ xs) ys e = by (λ f. any-left p xs ys f) (p x) e
  where
    by : (list_any p xs ≡ true → list_any p (xs ++ ys) ≡ true) → (b : Bool) → (b || list_any p xs) ≡ true → (b || list_any p (xs ++ ys)) ≡ true
    by rest true f = refl
    by rest false f = rest f

pub any-right : {X : Type 0} (p : X → Bool) (xs : List X) (y : X) → p y ≡ true → list_any p (xs ++ y ∷ []) ≡ true
any-right p [] y e = or-left (p y) false e
any-right p (x ∷ xs) y e = or-right (p x) (list_any p (xs ++ y ∷ [])) (any-right p xs y e)

-- ---- numbers

pub below_or_last : (i n : ℕ) → i < n + 1 → (i < n) ⊎ (i ≡ n)
below_or_last i n lt = by (nat_lt i n) refl
  where
    at_least : nat_lt i n ≡ false → n ≤ i
    at_least e = grind (arith)

    by : (t : Bool) → nat_lt i n ≡ t → (i < n) ⊎ (i ≡ n)
    by true e = inl (ltb-true i n e)
    by false e = let h : n ≤ i = at_least e in inr (omega arith)

-- ---- tasks

pub get-left : {X : Type 0} (xs ys : List X) (i : ℕ) → i < length xs → slice_get (xs ++ ys) i ≡ slice_get xs i
get-left [] ys i lt = absurd (omega arith)
get-left (x ∷ xs) ys zero lt = refl
get-left (x ∷ xs) ys (suc i) lt = get-left xs ys i (omega arith)

-- where there is none, the list has ended
pub ended : {X : Type 0} (xs : List X) (i : ℕ) → slice_get xs i ≡ None → length xs ≤ i
ended [] i e = omega arith
ended (x ∷ xs) zero e = absurd (let h : Some x ≡ None = e in let f : ⊥ = cc in f)
ended (x ∷ xs) (suc i) e = let h = ended xs i e in omega arith

-- a task that is among tasks has a place
pub record IsAt (tasks : List Task) (t : Task) : Type 0 where
  pub place : ℕ
  pub there : slice_get tasks place ≡ Some t

pub place-of : (tasks : List Task) (t : Task) → list_any (same_task t) tasks ≡ true → IsAt tasks t
place-of [] t e = absurd (false≢true e)
place-of (u ∷ us) t e = by (λ f. place-of us t f) (same_task t u) refl e
  where
    later : IsAt us t → IsAt (u ∷ us) t
    later at = record { place = suc at.place; there = at.there }

    by : (list_any (same_task t) us ≡ true → IsAt us t) → (b : Bool) → same_task t u ≡ b → (b || list_any (same_task t) us) ≡ true → IsAt (u ∷ us) t
    by rest true same f = record { place = zero; there = ap Some (sym (equal-from_same_task t u same)) }
    by rest false same f = later (rest f)

-- each number has its task among those of the entries
pub entry-among : (count first number : ℕ) → first ≤ number → number < first + count → list_any (same_task (task.Entry number)) (entry_tasks_from first count) ≡ true
entry-among zero first number low high = absurd (omega arith)
entry-among (suc count) first number low high = by (λ above. entry-among count (first + 1) number above (omega arith)) (nat_eq number first) refl
  where
    above : nat_eq number first ≡ false → first + 1 ≤ number
    above e = grind (arith)

    by : (first + 1 ≤ number → list_any (same_task (task.Entry number)) (entry_tasks_from (first + 1) count) ≡ true) → (b : Bool) → nat_eq number first ≡ b
        → (b || list_any (same_task (task.Entry number)) (entry_tasks_from (first + 1) count)) ≡ true
    by rest true e = refl
    by rest false e = rest (above e)

-- ---- a task that is opened

pub opened-keeps : (tasks : List Task) (named : Option Task) (t : Task) → list_any (same_task t) tasks ≡ true → list_any (same_task t) (opened tasks named) ≡ true
opened-keeps tasks None t e = e
opened-keeps tasks (Some u) t e = by (list_any (same_task u) tasks)
  where
    by : (b : Bool) → list_any (same_task t) (cond b tasks (tasks ++ u ∷ [])) ≡ true
    by true = e
    by false = any-left (same_task t) tasks (u ∷ []) e

pub opened-has : (tasks : List Task) (named : Option Task) (t : Task) → named ≡ Some t → list_any (same_task t) (opened tasks named) ≡ true
opened-has tasks None t e = absurd (let f : ⊥ = cc in f)
opened-has tasks (Some u) t e = by (list_any (same_task u) tasks) refl
  where
    same : u ≡ t
    same = cc

    by : (b : Bool) → list_any (same_task u) tasks ≡ b → list_any (same_task t) (cond b tasks (tasks ++ u ∷ [])) ≡ true
    by true is = ap (λ (v : Task). list_any (same_task v) tasks) (sym same) ∙ is
    by false is = any-right (same_task t) tasks u (ap (λ (v : Task). same_task t v) same ∙ same_task-refl t)

pub opened-get : (tasks : List Task) (named : Option Task) (i : ℕ) → i < length tasks → slice_get (opened tasks named) i ≡ slice_get tasks i
opened-get tasks None i lt = refl
opened-get tasks (Some u) i lt = by (list_any (same_task u) tasks)
  where
    by : (b : Bool) → slice_get (cond b tasks (tasks ++ u ∷ [])) i ≡ slice_get tasks i
    by true = refl
    by false = get-left tasks (u ∷ []) i lt

pub opened-longer : (tasks : List Task) (named : Option Task) → length tasks ≤ length (opened tasks named)
opened-longer tasks None = omega arith
opened-longer tasks (Some u) = by (list_any (same_task u) tasks)
  where
    longer : (ts : List Task) → length ts ≤ length (ts ++ u ∷ [])
    longer [] = omega arith
    longer (t ∷ ts) = let h = longer ts in omega arith

    by : (b : Bool) → length tasks ≤ length (cond b tasks (tasks ++ u ∷ []))
    by true = omega arith
    by false = longer tasks

-- ---- claims

-- whether a claim of the task stands
abbrev pub stands : List (ℕ × Task) → Task → Bool
stands claims t = list_any (λ claim. same_task claim.1 t) claims

pub stands-push : (claims : List (ℕ × Task)) (worker : ℕ) (t : Task) → stands (claims ++ (worker, t) ∷ []) t ≡ true
stands-push claims worker t = any-right (λ claim. same_task claim.1 t) claims (worker, t) (same_task-refl t)

-- once the claim of a task ends, the claims of others stand
pub stands-after : (claims : List (ℕ × Task)) (worker : ℕ) (t u : Task) → stands claims u ≡ true → (stands (filter (λ claim. not (is_claim worker t claim)) claims) u ≡ true) ⊎ (u ≡ t)
stands-after [] worker t u e = absurd (false≢true e)
stands-after (c ∷ cs) worker t u e = by (λ f. stands-after cs worker t u f) (same_task c.1 u) refl (is_claim worker t c) refl e
  where
    left : List (ℕ × Task)
    left = filter (λ claim. not (is_claim worker t claim)) cs

    past : (k : Bool) → (stands left u ≡ true) ⊎ (u ≡ t) → (stands (cond (not k) (c ∷ left) left) u ≡ true) ⊎ (u ≡ t)
    past k (inr same) = inr same
    past true (inl more) = inl more
    past false (inl more) = inl (or-right (same_task c.1 u) (stands left u) more)

    by : (stands cs u ≡ true → (stands left u ≡ true) ⊎ (u ≡ t)) → (b : Bool) → same_task c.1 u ≡ b → (k : Bool) → is_claim worker t c ≡ k → (b || stands cs u) ≡ true → (stands (cond (not k) (c ∷ left) left) u ≡ true) ⊎ (u ≡ t)
    by rest true own true ends f = inr (sym (equal-from_same_task c.1 u own) ∙ equal-from_same_task c.1 t (both_parts (nat_eq c.0 worker) (same_task c.1 t) ends).1)
    by rest true own false ends f = inl (or-left (same_task c.1 u) (stands left u) own)
    by rest false own k ends f = past k (rest f)

pub none_stand : (claims : List (ℕ × Task)) (t : Task) → nat_eq (length claims) 0 ≡ true → stands claims t ≡ true → ⊥
none_stand [] t none e = false≢true e
none_stand (c ∷ cs) t none e = let h : suc (length cs) ≡ 0 = eqb-true (length (c ∷ cs)) 0 none in omega arith
