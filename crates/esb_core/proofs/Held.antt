-- What a worker holds: the claims that stand, by the list.
use Rattle.std.proofs.Common.{◌≡◌, ◌⊎◌, ◌↔◌, inl, inr, ℕ, zero, suc, ◌+◌, ◌<◌, ◌≤◌, Bool, true, false, cond, not, ◌&&◌, ◌||◌, List, [], ◌∷◌, ◌++◌, length, Option, None, Some, is_none, refl, sym, ap, subst, ◌∙◌, arith, nat_eq, nat_lt, eq-eqb, eqb-true, ltb-true, ltb-false, slice_set}
use Rattle.std.specs.Prelude.{count_by, filter}
use Rattle.std.specs.List.{list_any}
use Rattle.std.proofs.Math.Bool.{or-false}
use Rattle.std.proofs.lemmas.Bool.{false≢true}
use Rattle.std.proofs.lemmas.List.Folds.{list_any-append}
use Rattle.esb_ask.specs.declared.message.Message.{Message}
use Rattle.esb_ask.specs.declared.task.Task.{Task}
use Rattle.esb_ask.specs.declared.product.Product.{Product}
use Rattle.esb_ask.specs.declared.outcome.OutFile.{OutFile}
use Rattle.esb_ask.specs.declared.outcome.Outcome.{Outcome}
use Rattle.esb_ask.specs.declared.outcome.Outcome.TheVariants as outcomes
use Rattle.esb_ask.specs.Tasks.{same_task, product_fits}
use Rattle.esb_ask.proofs.SameTask.{equal-from_same_task, same_task-from_equal, same_task-refl}
use Rattle.esb_core.specs.declared.event.Job.{Job}
use Rattle.esb_core.specs.declared.event.Job.TheVariants as job
use Rattle.esb_core.specs.declared.event.Role.{Role}
use Rattle.esb_core.specs.declared.event.Role.TheVariants as role
use Rattle.esb_core.specs.declared.event.Event.{Event}
use Rattle.esb_core.specs.declared.event.Event.TheVariants as event
use Rattle.esb_core.specs.State.{Building, State, build_at, no_build, start}
use Rattle.esb_core.specs.Moves.{Move}
use Rattle.esb_core.specs.Steps
use Rattle.esb_core.specs.Steps.{after, moves, all_moved, fresh, joined, answered, tasked, ended_by, is_claim, task_claimed, link_claimed, released, freed}
use Rattle.esb_core.specs.Allowed.{allowed, has_begun, first_job, names_job, has_task, is_linker, has_claim, may_settle}
use Rattle.esb_core.specs.History.{is_legal, replay}
use Rattle.esb_core.specs.Work.{claims_task, gives_task, gives_link, delivers, settles_by, holds_task, holds_link, HoldsTask}
use Rattle.esb_core.proofs.Claims.{claim-is, scan-is, link-is, write-is, both_parts}
use Rattle.esb_core.proofs.Each.{each-all_moved, claims-stay}
use Rattle.esb_core.proofs.Laws.{all_moved-longer}
use Rattle.esb_core.proofs.Moving.{count-push}
use Rattle.esb_core.proofs.Readings.{at-set}
use Rattle.esb_core.proofs.Replays.{replay_from-append, stands-push}
use Rattle.esb_core.proofs.Legal.{each_legal}
use Rattle.esb_core.proofs.Once.{claimed-once, count-cons, is_settled_after}

-- the claims of a build are those that the list left standing
pub record IsHeld (b : Building) (n : ℕ) (events : List Event) : Type 0 where
  pub tasks : (w : ℕ) (t : Task) → has_task b w t ≡ holds_task events w n t
  pub link : (w : ℕ) → is_linker b.linker w ≡ holds_link events w n
  pub unsettled : b.outcome ≡ None → (w : ℕ) → list_any (settles_by w n) events ≡ false
  pub given : (w : ℕ) (t : Task) → list_any (delivers w n t) events ≡ true → list_any (gives_task w n t) events ≡ true

-- ---- truth values and lists

pub any-push : {X : Type 0} (p : X → Bool) (xs : List X) (x : X) → list_any p (xs ++ x ∷ []) ≡ (list_any p xs || p x)
any-push p xs x = list_any-append p xs (x ∷ []) ∙ ap (λ t. list_any p xs || t) (or-false (p x))

quiet : {X : Type 0} (p : X → Bool) (xs : List X) (x : X) → p x ≡ false → list_any p (xs ++ x ∷ []) ≡ list_any p xs
quiet p xs x fails = any-push p xs x ∙ ap (λ t. list_any p xs || t) fails ∙ or-false (list_any p xs)

and-false : (b : Bool) → (b && false) ≡ false
and-false true = refl
and-false false = refl

pub or-true : (b : Bool) → (b || true) ≡ true
or-true true = refl
or-true false = refl

pub left-true : (a b : Bool) → a ≡ true → (a || b) ≡ true
left-true a b e = ap (λ t. t || b) e

any-filter : {X : Type 0} (p keep : X → Bool) → ((x : X) → p x ≡ true → keep x ≡ true) → (xs : List X) → list_any p (filter keep xs) ≡ list_any p xs
any-filter p keep f [] = refl
any-filter p keep f (x ∷ xs) = by (p x) (keep x) refl refl (any-filter p keep f xs)
  where
    by : (t k : Bool) → p x ≡ t → keep x ≡ k → list_any p (filter keep xs) ≡ list_any p xs → list_any p (cond k (x ∷ filter keep xs) (filter keep xs)) ≡ (t || list_any p xs)
    by t true is kept rec = ap (λ (s : Bool). s || list_any p (filter keep xs)) is ∙ ap (λ (s : Bool). t || s) rec
    by false false is kept rec = rec
    by true false is kept rec = absurd (false≢true (sym kept ∙ f x is))

any-filtered : {X : Type 0} (p keep : X → Bool) → ((x : X) → p x ≡ true → keep x ≡ false) → (xs : List X) → list_any p (filter keep xs) ≡ false
any-filtered p keep f [] = refl
any-filtered p keep f (x ∷ xs) = by (p x) (keep x) refl refl (any-filtered p keep f xs)
  where
    by : (t k : Bool) → p x ≡ t → keep x ≡ k → list_any p (filter keep xs) ≡ false → list_any p (cond k (x ∷ filter keep xs) (filter keep xs)) ≡ false
    by t false is kept rec = rec
    by false true is kept rec = ap (λ (s : Bool). s || list_any p (filter keep xs)) is ∙ rec
    by true true is kept rec = absurd (false≢true (sym (f x is) ∙ kept))

-- ---- events that leave what is held

holds-same : (es : List Event) (e : Event) (w n : ℕ) (t : Task) → gives_task w n t e ≡ false → delivers w n t e ≡ false → settles_by w n e ≡ false → holds_task (es ++ e ∷ []) w n t ≡ holds_task es w n t
holds-same es e w n t give give_back settle =
    ap (λ g. g && not (list_any (delivers w n t) (es ++ e ∷ []) || list_any (settles_by w n) (es ++ e ∷ []))) (quiet (gives_task w n t) es e give)
    ∙ ap (λ d. list_any (gives_task w n t) es && not (d || list_any (settles_by w n) (es ++ e ∷ []))) (quiet (delivers w n t) es e give_back)
    ∙ ap (λ s. list_any (gives_task w n t) es && not (list_any (delivers w n t) es || s)) (quiet (settles_by w n) es e settle)

link-same : (es : List Event) (e : Event) (w n : ℕ) → gives_link w n e ≡ false → settles_by w n e ≡ false → holds_link (es ++ e ∷ []) w n ≡ holds_link es w n
link-same es e w n give settle =
    ap (λ g. g && not (list_any (settles_by w n) (es ++ e ∷ []))) (quiet (gives_link w n) es e give)
    ∙ ap (λ s. list_any (gives_link w n) es && not s) (quiet (settles_by w n) es e settle)

-- the event has nothing to do with the claims of this build
record IsApart (n : ℕ) (e : Event) : Type 0 where
  pub give : (w : ℕ) (t : Task) → gives_task w n t e ≡ false
  pub link : (w : ℕ) → gives_link w n e ≡ false
  pub give_back : (w : ℕ) (t : Task) → delivers w n t e ≡ false
  pub settle : (w : ℕ) → settles_by w n e ≡ false

apart-held : (b : Building) (n : ℕ) (es : List Event) (e : Event) → IsApart n e → IsHeld b n es → IsHeld b n (es ++ e ∷ [])
apart-held b n es e a h = record {
  tasks = λ w t. h.tasks w t ∙ sym (holds-same es e w n t (a.give w t) (a.give_back w t) (a.settle w));
  link = λ w. h.link w ∙ sym (link-same es e w n (a.link w) (a.settle w));
  unsettled = λ none w. quiet (settles_by w n) es e (a.settle w) ∙ h.unsettled none w;
  given = λ w t back. quiet (gives_task w n t) es e (a.give w t) ∙ h.given w t (sym (quiet (delivers w n t) es e (a.give_back w t)) ∙ back);
}

same-held : (b c : Building) (n : ℕ) (es : List Event) → c.claims ≡ b.claims → c.linker ≡ b.linker → (c.outcome ≡ None → b.outcome ≡ None) → IsHeld b n es → IsHeld c n es
same-held b c n es claims linker outcome h = record {
  tasks = λ w t. ap (λ (cs : List (ℕ × Task)). list_any (is_claim w t) cs) claims ∙ h.tasks w t;
  link = λ w. ap (λ (l : Option ℕ). is_linker l w) linker ∙ h.link w;
  unsettled = λ none. h.unsettled (outcome none);
  given = h.given;
}

-- ---- a task is given to a worker

pub gives-claims : (w n : ℕ) (t : Task) (e : Event) → gives_task w n t e ≡ true → claims_task n t e ≡ true
gives-claims w n t (event.Claim (role.Worker v) (job.Scan m u)) is =
    let parts = both_parts (nat_eq v w) (nat_eq m n && same_task u t) is in
    let more = both_parts (nat_eq m n) (same_task u t) parts.1 in
    ap (λ c. c && same_task t u) more.0 ∙ same_task-from_equal t u (sym (equal-from_same_task u t more.1))
gives-claims w n t (event.Claim (role.Worker v) (job.Link m)) is = absurd (false≢true is)
gives-claims w n t (event.Claim (role.Worker v) (job.Write m)) is = absurd (false≢true is)
gives-claims w n t (event.Written v m f) is = absurd (false≢true is)
gives-claims w n t (event.Claim (role.Door door) j) is = absurd (false≢true is)
gives-claims w n t (event.Arrive packet) is = absurd (false≢true is)
gives-claims w n t event.EndOfInput is = absurd (false≢true is)
gives-claims w n t (event.Record worker m q a) is = absurd (false≢true is)
gives-claims w n t (event.Deliver worker m u p) is = absurd (false≢true is)
gives-claims w n t (event.Settle worker m o) is = absurd (false≢true is)
gives-claims w n t event.Pop is = absurd (false≢true is)

none-given : (w n : ℕ) (t : Task) (es : List Event) → count_by (claims_task n t) es ≡ 0 → list_any (gives_task w n t) es ≡ false
none-given w n t [] none = refl
none-given w n t (e ∷ es) none = by (gives_task w n t e) refl (none-given w n t es)
  where
    all : count_by (claims_task n t) (e ∷ es) ≡ cond (claims_task n t e) 1 0 + count_by (claims_task n t) es
    all = count-cons (claims_task n t) e es

    by : (g : Bool) → gives_task w n t e ≡ g → (count_by (claims_task n t) es ≡ 0 → list_any (gives_task w n t) es ≡ false) → (g || list_any (gives_task w n t) es) ≡ false
    by true is rec =
        let one : ◌≡◌ {A = ℕ} (cond (claims_task n t e) 1 0) 1 = ap (λ (c : Bool). let k : ℕ = cond c 1 0 in k) (gives-claims w n t e is) in
        absurd (omega (arith, none, all, one))
    by false is rec = rec (omega (arith, none, all))

module _ (b : Building) (n : ℕ) (es : List Event) (v : ℕ) (u : Task) (h : IsHeld b n es) (open_still : b.outcome ≡ None) (new : (w : ℕ) → list_any (gives_task w n u) es ≡ false) where
  give-test : (w : ℕ) (t : Task) → gives_task w n t (event.Claim (role.Worker v) (job.Scan n u)) ≡ (nat_eq v w && same_task u t)
  give-test w t = ap (λ c. nat_eq v w && (c && same_task u t)) (eq-eqb n n refl)

  not_back : (w : ℕ) → list_any (delivers w n u) es ≡ false
  not_back w = by (list_any (delivers w n u) es) refl
    where
      by : (d : Bool) → list_any (delivers w n u) es ≡ d → d ≡ false
      by true is = absurd (false≢true (sym (new w) ∙ h.given w u is))
      by false is = refl

  scan-tasks : (w : ℕ) (t : Task) → has_task (task_claimed b v u) w t ≡ holds_task (es ++ event.Claim (role.Worker v) (job.Scan n u) ∷ []) w n t
  scan-tasks w t =
      any-push (is_claim w t) b.claims (v, u)
      ∙ by (nat_eq v w && same_task u t) refl
      ∙ ap (λ x. (list_any (gives_task w n t) es || x) && not (list_any (delivers w n t) es || list_any (settles_by w n) es)) (sym (give-test w t))
      ∙ ap (λ g. g && not (list_any (delivers w n t) es || list_any (settles_by w n) es)) (sym (any-push (gives_task w n t) es (event.Claim (role.Worker v) (job.Scan n u))))
      ∙ ap (λ d. list_any (gives_task w n t) (es ++ event.Claim (role.Worker v) (job.Scan n u) ∷ []) && not (d || list_any (settles_by w n) es)) (sym (quiet (delivers w n t) es (event.Claim (role.Worker v) (job.Scan n u)) refl))
      ∙ ap (λ s. list_any (gives_task w n t) (es ++ event.Claim (role.Worker v) (job.Scan n u) ∷ []) && not (list_any (delivers w n t) (es ++ event.Claim (role.Worker v) (job.Scan n u) ∷ []) || s))
      (sym (quiet (settles_by w n) es (event.Claim (role.Worker v) (job.Scan n u)) refl))
    where
      by : (x : Bool) → (nat_eq v w && same_task u t) ≡ x → (has_task b w t || x) ≡ ((list_any (gives_task w n t) es || x) && not (list_any (delivers w n t) es || list_any (settles_by w n) es))
      by false is = or-false (has_task b w t) ∙ h.tasks w t ∙ ap (λ g. g && not (list_any (delivers w n t) es || list_any (settles_by w n) es)) (sym (or-false (list_any (gives_task w n t) es)))
      by true is =
          let same : u ≡ t = equal-from_same_task u t (both_parts (nat_eq v w) (same_task u t) is).1 in
          let back : list_any (delivers w n t) es ≡ false = ap (λ (r : Task). list_any (delivers w n r) es) (sym same) ∙ not_back w in
          or-true (has_task b w t)
          ∙ sym (ap (λ d. (list_any (gives_task w n t) es || true) && not (d || list_any (settles_by w n) es)) back
          ∙ ap (λ s. (list_any (gives_task w n t) es || true) && not s) (h.unsettled open_still w)
          ∙ ap (λ g. g && true) (or-true (list_any (gives_task w n t) es)))

  scan-held : IsHeld (task_claimed b v u) n (es ++ event.Claim (role.Worker v) (job.Scan n u) ∷ [])
  scan-held = record {
    tasks = scan-tasks;
    link = λ w. h.link w ∙ sym (link-same es (event.Claim (role.Worker v) (job.Scan n u)) w n refl refl);
    unsettled = λ none w. quiet (settles_by w n) es (event.Claim (role.Worker v) (job.Scan n u)) refl ∙ h.unsettled none w;
    given = λ w t back.
        any-push (gives_task w n t) es (event.Claim (role.Worker v) (job.Scan n u))
        ∙ left-true (list_any (gives_task w n t) es) _ (h.given w t (sym (quiet (delivers w n t) es (event.Claim (role.Worker v) (job.Scan n u)) refl) ∙ back));
  }

-- ---- the link is given to a worker

link-held : (b : Building) (n : ℕ) (es : List Event) (v : ℕ) → b.outcome ≡ None → b.linker ≡ None → IsHeld b n es → IsHeld (link_claimed b v) n (es ++ event.Claim (role.Worker v) (job.Link n) ∷ [])
link-held b n es v open_still free h = record {
  tasks = λ w t. h.tasks w t ∙ sym (holds-same es (event.Claim (role.Worker v) (job.Link n)) w n t refl refl refl);
  link = λ w. sym (linked w);
  unsettled = λ none w. quiet (settles_by w n) es (event.Claim (role.Worker v) (job.Link n)) refl ∙ h.unsettled none w;
  given = λ w t back.
      quiet (gives_task w n t) es (event.Claim (role.Worker v) (job.Link n)) refl ∙ h.given w t (sym (quiet (delivers w n t) es (event.Claim (role.Worker v) (job.Link n)) refl) ∙ back);
}
  where
    and-true : (a : Bool) → (a && true) ≡ a
    and-true true = refl
    and-true false = refl

    before : (w : ℕ) → list_any (gives_link w n) es ≡ false
    before w =
        sym (and-true (list_any (gives_link w n) es)) ∙ ap (λ s. list_any (gives_link w n) es && not s) (sym (h.unsettled open_still w)) ∙ sym (h.link w)
        ∙ ap (λ (l : Option ℕ). is_linker l w) free

    linked : (w : ℕ) → holds_link (es ++ event.Claim (role.Worker v) (job.Link n) ∷ []) w n ≡ nat_eq v w
    linked w =
        ap (λ s. list_any (gives_link w n) (es ++ event.Claim (role.Worker v) (job.Link n) ∷ []) && not s)
        (quiet (settles_by w n) es (event.Claim (role.Worker v) (job.Link n)) refl ∙ h.unsettled open_still w)
        ∙ and-true (list_any (gives_link w n) (es ++ event.Claim (role.Worker v) (job.Link n) ∷ []))
        ∙ any-push (gives_link w n) es (event.Claim (role.Worker v) (job.Link n))
        ∙ ap (λ g. g || (nat_eq v w && nat_eq n n)) (before w)
        ∙ ap (λ c. nat_eq v w && c) (eq-eqb n n refl)
        ∙ and-true (nat_eq v w)

-- ---- a task is delivered

module _ (b : Building) (n : ℕ) (es : List Event) (v : ℕ) (u : Task) (p : Product) (h : IsHeld b n es) (held : has_task b v u ≡ true) where
  back-test : (w : ℕ) (t : Task) → delivers w n t (event.Deliver v n u p) ≡ (nat_eq v w && same_task u t)
  back-test w t = ap (λ c. nat_eq v w && (c && same_task u t)) (eq-eqb n n refl)

  was_given : list_any (gives_task v n u) es ≡ true
  was_given = (both_parts (list_any (gives_task v n u) es) (not (list_any (delivers v n u) es || list_any (settles_by v n) es)) (sym (h.tasks v u) ∙ held)).0

  -- a claim of this worker and task is the one that ends, and no other is
  ends : (w : ℕ) (t : Task) (x : Bool) → (nat_eq v w && same_task u t) ≡ x → list_any (is_claim w t) (filter (λ claim. not (is_claim v u claim)) b.claims)
      ≡ (list_any (gives_task w n t) es && not ((list_any (delivers w n t) es || x) || list_any (settles_by w n) es))
  ends w t true is =
      let parts = both_parts (nat_eq v w) (same_task u t) is in
      let worker : v ≡ w = eqb-true v w parts.0 in
      let work : u ≡ t = equal-from_same_task u t parts.1 in
      any-filtered (is_claim w t) (λ claim. not (is_claim v u claim))
      (λ claim its. ap not (ap (λ (k : ℕ). is_claim k u claim) worker ∙ ap (λ (r : Task). is_claim w r claim) work ∙ its)) b.claims
      ∙ sym (ap (λ d. list_any (gives_task w n t) es && not (d || list_any (settles_by w n) es)) (or-true (list_any (delivers w n t) es)) ∙ and-false (list_any (gives_task w n t) es))
  ends w t false is =
      any-filter (is_claim w t) (λ claim. not (is_claim v u claim)) (λ claim its. ap not (other claim its (is_claim v u claim) refl)) b.claims
      ∙ h.tasks w t ∙ ap (λ d. list_any (gives_task w n t) es && not (d || list_any (settles_by w n) es)) (sym (or-false (list_any (delivers w n t) es)))
    where
      other : (claim : ℕ × Task) → is_claim w t claim ≡ true → (y : Bool) → is_claim v u claim ≡ y → y ≡ false
      other claim its false own = refl
      other claim its true own =
          let mine = both_parts (nat_eq claim.0 v) (same_task claim.1 u) own in
          let its_parts = both_parts (nat_eq claim.0 w) (same_task claim.1 t) its in
          let worker : v ≡ w = sym (eqb-true claim.0 v mine.0) ∙ eqb-true claim.0 w its_parts.0 in
          let work : u ≡ t = sym (equal-from_same_task claim.1 u mine.1) ∙ equal-from_same_task claim.1 t its_parts.1 in
          let both : (nat_eq v w && same_task u t) ≡ true = ap (λ c. c && same_task u t) (eq-eqb v w worker) ∙ same_task-from_equal u t work in
          absurd (false≢true (sym is ∙ both))

  back-tasks : (w : ℕ) (t : Task) → list_any (is_claim w t) (filter (λ claim. not (is_claim v u claim)) b.claims) ≡ holds_task (es ++ event.Deliver v n u p ∷ []) w n t
  back-tasks w t =
      ends w t (nat_eq v w && same_task u t) refl
      ∙ ap (λ x. list_any (gives_task w n t) es && not ((list_any (delivers w n t) es || x) || list_any (settles_by w n) es)) (sym (back-test w t))
      ∙ ap (λ d. list_any (gives_task w n t) es && not (d || list_any (settles_by w n) es)) (sym (any-push (delivers w n t) es (event.Deliver v n u p)))
      ∙ ap (λ g. g && not (list_any (delivers w n t) (es ++ event.Deliver v n u p ∷ []) || list_any (settles_by w n) es)) (sym (quiet (gives_task w n t) es (event.Deliver v n u p) refl))
      ∙ ap (λ s. list_any (gives_task w n t) (es ++ event.Deliver v n u p ∷ []) && not (list_any (delivers w n t) (es ++ event.Deliver v n u p ∷ []) || s)) (sym (quiet (settles_by w n) es (event.Deliver v n u p) refl))

  back-given : (w : ℕ) (t : Task) → list_any (delivers w n t) (es ++ event.Deliver v n u p ∷ []) ≡ true → list_any (gives_task w n t) (es ++ event.Deliver v n u p ∷ []) ≡ true
  back-given w t back =
      quiet (gives_task w n t) es (event.Deliver v n u p) refl
      ∙ by (nat_eq v w && same_task u t) refl (ap (λ x. list_any (delivers w n t) es || x) (sym (back-test w t)) ∙ sym (any-push (delivers w n t) es (event.Deliver v n u p)) ∙ back)
    where
      by : (x : Bool) → (nat_eq v w && same_task u t) ≡ x → (list_any (delivers w n t) es || (nat_eq v w && same_task u t)) ≡ true → list_any (gives_task w n t) es ≡ true
      by true is one =
          let parts = both_parts (nat_eq v w) (same_task u t) is in
          ap (λ (k : ℕ). list_any (gives_task k n t) es) (sym (eqb-true v w parts.0)) ∙ ap (λ (r : Task). list_any (gives_task v n r) es) (sym (equal-from_same_task u t parts.1)) ∙ was_given
      by false is one = h.given w t (sym (or-false (list_any (delivers w n t) es)) ∙ ap (λ x. list_any (delivers w n t) es || x) (sym is) ∙ one)

  back-held : IsHeld (Steps.unclaimed b v u) n (es ++ event.Deliver v n u p ∷ [])
  back-held = record {
    tasks = back-tasks;
    link = λ w. h.link w ∙ sym (link-same es (event.Deliver v n u p) w n refl refl);
    unsettled = λ none w. quiet (settles_by w n) es (event.Deliver v n u p) refl ∙ h.unsettled none w;
    given = back-given;
  }

-- ---- a build is settled

module _ (b : Building) (n : ℕ) (es : List Event) (v : ℕ) (o : Outcome) (h : IsHeld b n es) where
  end-test : (w : ℕ) → settles_by w n (event.Settle v n o) ≡ nat_eq v w
  end-test w = ap (λ c. nat_eq v w && c) (eq-eqb n n refl) ∙ and-true (nat_eq v w)
    where
      and-true : (a : Bool) → (a && true) ≡ a
      and-true true = refl
      and-true false = refl

  end-push : (w : ℕ) → list_any (settles_by w n) (es ++ event.Settle v n o ∷ []) ≡ (list_any (settles_by w n) es || nat_eq v w)
  end-push w = any-push (settles_by w n) es (event.Settle v n o) ∙ ap (λ x. list_any (settles_by w n) es || x) (end-test w)

  end-tasks-by : (w : ℕ) (t : Task) (x : Bool) → nat_eq v w ≡ x → list_any (is_claim w t) (filter (λ claim. not (nat_eq claim.0 v)) b.claims)
      ≡ (list_any (gives_task w n t) es && not (list_any (delivers w n t) es || (list_any (settles_by w n) es || x)))
  end-tasks-by w t true is =
      any-filtered (is_claim w t) (λ claim. not (nat_eq claim.0 v))
      (λ claim its. ap not (ap (λ (k : ℕ). nat_eq claim.0 k) (eqb-true v w is) ∙ (both_parts (nat_eq claim.0 w) (same_task claim.1 t) its).0)) b.claims
      ∙ sym (ap (λ s. list_any (gives_task w n t) es && not (list_any (delivers w n t) es || s)) (or-true (list_any (settles_by w n) es))
      ∙ ap (λ s. list_any (gives_task w n t) es && not s) (or-true (list_any (delivers w n t) es)) ∙ and-false (list_any (gives_task w n t) es))
  end-tasks-by w t false is =
      any-filter (is_claim w t) (λ claim. not (nat_eq claim.0 v)) (λ claim its. ap not (other claim its (nat_eq claim.0 v) refl)) b.claims
      ∙ h.tasks w t ∙ ap (λ s. list_any (gives_task w n t) es && not (list_any (delivers w n t) es || s)) (sym (or-false (list_any (settles_by w n) es)))
    where
      other : (claim : ℕ × Task) → is_claim w t claim ≡ true → (y : Bool) → nat_eq claim.0 v ≡ y → y ≡ false
      other claim its false own = refl
      other claim its true own =
          let worker : v ≡ w = sym (eqb-true claim.0 v own) ∙ eqb-true claim.0 w (both_parts (nat_eq claim.0 w) (same_task claim.1 t) its).0 in
          absurd (false≢true (sym is ∙ eq-eqb v w worker))

  end-tasks : (w : ℕ) (t : Task) → list_any (is_claim w t) (filter (λ claim. not (nat_eq claim.0 v)) b.claims) ≡ holds_task (es ++ event.Settle v n o ∷ []) w n t
  end-tasks w t =
      end-tasks-by w t (nat_eq v w) refl
      ∙ ap (λ s. list_any (gives_task w n t) es && not (list_any (delivers w n t) es || s)) (sym (end-push w))
      ∙ ap (λ g. g && not (list_any (delivers w n t) es || list_any (settles_by w n) (es ++ event.Settle v n o ∷ []))) (sym (quiet (gives_task w n t) es (event.Settle v n o) refl))
      ∙ ap (λ d. list_any (gives_task w n t) (es ++ event.Settle v n o ∷ []) && not (d || list_any (settles_by w n) (es ++ event.Settle v n o ∷ []))) (sym (quiet (delivers w n t) es (event.Settle v n o) refl))

  freed-by : (w : ℕ) (l : Option ℕ) (x : Bool) → nat_eq v w ≡ x → is_linker (freed v l) w ≡ (is_linker l w && not x)
  freed-by w None x is = refl
  freed-by w (Some k) x is = at (nat_eq k v) refl x is
    where
      at : (y : Bool) → nat_eq k v ≡ y → (x : Bool) → nat_eq v w ≡ x → is_linker (cond y None (Some k)) w ≡ (nat_eq k w && not x)
      at true same true is = sym (and-false (nat_eq k w))
      at true same false is = sym (ap (λ c. c && true) (ap (λ (j : ℕ). nat_eq j w) (eqb-true k v same) ∙ is))
      at false apart true is = let other : nat_eq k w ≡ false = ap (λ (j : ℕ). nat_eq k j) (sym (eqb-true v w is)) ∙ apart in other ∙ sym (and-false (nat_eq k w))
      at false apart false is = sym (and-true (nat_eq k w))
        where
          and-true : (a : Bool) → (a && true) ≡ a
          and-true true = refl
          and-true false = refl

  end-link : (w : ℕ) → is_linker (freed v b.linker) w ≡ holds_link (es ++ event.Settle v n o ∷ []) w n
  end-link w =
      freed-by w b.linker (nat_eq v w) refl
      ∙ ap (λ l. l && not (nat_eq v w)) (h.link w)
      ∙ joined (list_any (gives_link w n) es) (list_any (settles_by w n) es) (nat_eq v w)
      ∙ ap (λ s. list_any (gives_link w n) es && not s) (sym (end-push w))
      ∙ ap (λ g. g && not (list_any (settles_by w n) (es ++ event.Settle v n o ∷ []))) (sym (quiet (gives_link w n) es (event.Settle v n o) refl))
    where
      joined : (g s x : Bool) → ((g && not s) && not x) ≡ (g && not (s || x))
      joined false s x = refl
      joined true true x = refl
      joined true false x = refl

  end-given : (w : ℕ) (t : Task) → list_any (delivers w n t) (es ++ event.Settle v n o ∷ []) ≡ true → list_any (gives_task w n t) (es ++ event.Settle v n o ∷ []) ≡ true
  end-given w t back = quiet (gives_task w n t) es (event.Settle v n o) refl ∙ h.given w t (sym (quiet (delivers w n t) es (event.Settle v n o) refl) ∙ back)

  end-held : (b.outcome ≡ None → ⊥) → IsHeld (released b v) n (es ++ event.Settle v n o ∷ [])
  end-held settled = record { tasks = end-tasks; link = end-link; unsettled = λ none. absurd (settled none); given = end-given }

-- ---- the builds

abbrev pub AreHeld : List Building → List Event → Type 0
AreHeld bs events = (m : ℕ) → IsHeld (build_at bs m) m events

set-held : (bs : List Building) (n : ℕ) (b : Building) (events : List Event) → n < length bs → IsHeld b n events → ((m : ℕ) → nat_eq n m ≡ false → IsHeld (build_at bs m) m events)
    → AreHeld (slice_set bs n b) events
set-held bs n b events lt own others m = subst (λ (c : Building). IsHeld c m events) (sym (at-set bs n b m lt)) (by (nat_eq n m) refl)
  where
    by : (t : Bool) → nat_eq n m ≡ t → IsHeld (cond t b (build_at bs m)) m events
    by true same = subst (λ (k : ℕ). IsHeld b k events) (eqb-true n m same) own
    by false apart = others m apart

-- an event that is about another build
elsewhere : (v n m : ℕ) (t : Task) → nat_eq n m ≡ false → (w : ℕ) (u : Task) → (nat_eq v w && (nat_eq n m && same_task t u)) ≡ false
elsewhere v n m t apart w u = ap (λ c. nat_eq v w && (c && same_task t u)) apart ∙ and-false (nat_eq v w)

elsewhere-end : (v n m : ℕ) → nat_eq n m ≡ false → (w : ℕ) → (nat_eq v w && nat_eq n m) ≡ false
elsewhere-end v n m apart w = ap (λ c. nat_eq v w && c) apart ∙ and-false (nat_eq v w)

-- moves leave what is held
moved-held : (s : State) (ms : List Move) (es : List Event) → AreHeld s.builds es → (let t : State = all_moved s ms in AreHeld t.builds es)
moved-held s ms es all =
    each-all_moved (λ n b. IsHeld b n es) (λ n key options h. same-held no_build (fresh key options) n es refl refl (λ none. refl) h)
    (λ n b id result h. same-held b (joined b id result) n es refl refl (λ none. none) h)
    (λ n b q a h. same-held b (answered b q a) n es refl refl (λ none. none) h)
    (λ n b t h. same-held b (tasked b t) n es refl refl (λ none. none) h)
    (λ n b o h. same-held b (ended_by b o) n es refl refl (λ none. absurd (let f : ⊥ = cc in f)) h)
    (λ n b f h. same-held b (Steps.written_by b f) n es refl refl (λ none. none) h)
    (λ n b h. same-held b (Steps.closed_by b) n es refl refl (λ none. none) h)
    s ms all

module _ (s : State) (es : List Event) (all : AreHeld s.builds es) where
  idle : (e : Event) → ((n : ℕ) → IsApart n e) → AreHeld s.builds (es ++ e ∷ [])
  idle e apart m = apart-held (build_at s.builds m) m es e (apart m) (all m)

  claims-held : (r : Role) (j : Job) → names_job (first_job s r) j ≡ true → ((n : ℕ) (t : Task) → j ≡ job.Scan n t → count_by (claims_task n t) es ≡ 0)
      → (let t : State = Steps.after_claim s r j in AreHeld t.builds (es ++ event.Claim r j ∷ []))
  claims-held (role.Worker v) (job.Scan n t) may new =
      let open_one = scan-is s.builds n t (claim-is s v (job.Scan n t) may) in
      set-held s.builds n (task_claimed (build_at s.builds n) v t) (es ++ event.Claim (role.Worker v) (job.Scan n t) ∷ []) open_one.begun
      (scan-held (build_at s.builds n) n es v t (all n) open_one.unsettled (λ w. none-given w n t es (new n t refl)))
      (λ m apart. apart-held (build_at s.builds m) m es (event.Claim (role.Worker v) (job.Scan n t))
      (record { give = λ w u. elsewhere v n m t apart w u; link = λ w. refl; give_back = λ w u. refl; settle = λ w. refl }) (all m))
  claims-held (role.Worker v) (job.Link n) may new =
      let ready = link-is s.builds n (claim-is s v (job.Link n) may) in
      let parts = both_parts (nat_eq (length (build_at s.builds n).claims) 0) (is_none (build_at s.builds n).linker) ready.scanned in
      set-held s.builds n (link_claimed (build_at s.builds n) v) (es ++ event.Claim (role.Worker v) (job.Link n) ∷ []) ready.begun
      (link-held (build_at s.builds n) n es v ready.unsettled (none_of (build_at s.builds n).linker parts.1) (all n))
      (λ m apart. apart-held (build_at s.builds m) m es (event.Claim (role.Worker v) (job.Link n))
      (record { give = λ w u. refl; link = λ w. elsewhere-end v n m apart w; give_back = λ w u. refl; settle = λ w. refl }) (all m))
    where
      none_of : (o : Option ℕ) → is_none o ≡ true → o ≡ None
      none_of None e = refl
      none_of (Some k) e = absurd (false≢true e)
  claims-held (role.Worker v) (job.Write n) may new =
      set-held s.builds n (Steps.write_claimed (build_at s.builds n) v) (es ++ event.Claim (role.Worker v) (job.Write n) ∷ []) (write-is s.builds n (claim-is s v (job.Write n) may)).begun
      (apart-held (Steps.write_claimed (build_at s.builds n) v) n es (event.Claim (role.Worker v) (job.Write n)) no_claim (same-held (build_at s.builds n) (Steps.write_claimed (build_at s.builds n) v) n es refl refl (λ none. none) (all n)))
      (λ m apart. apart-held (build_at s.builds m) m es (event.Claim (role.Worker v) (job.Write n)) (record { give = λ w u. refl; link = λ w. refl; give_back = λ w u. refl; settle = λ w. refl }) (all m))
    where
      no_claim : IsApart n (event.Claim (role.Worker v) (job.Write n))
      no_claim = record { give = λ w u. refl; link = λ w. refl; give_back = λ w u. refl; settle = λ w. refl }
  claims-held (role.Door door) j may new = absurd (false≢true may)

  back-changes : (v n : ℕ) (t : Task) (p : Product) → n < length s.builds → has_task (build_at s.builds n) v t ≡ true
      → AreHeld (slice_set s.builds n (Steps.unclaimed (build_at s.builds n) v t)) (es ++ event.Deliver v n t p ∷ [])
  back-changes v n t p lt held =
      set-held s.builds n (Steps.unclaimed (build_at s.builds n) v t) (es ++ event.Deliver v n t p ∷ []) lt
      (back-held (build_at s.builds n) n es v t p (all n) held)
      (λ m apart. apart-held (build_at s.builds m) m es (event.Deliver v n t p)
      (record { give = λ w u. refl; link = λ w. refl; give_back = λ w u. elsewhere v n m t apart w u; settle = λ w. refl }) (all m))

  end-changes : (v n : ℕ) (o : Outcome) → n < length s.builds → ((build_at s.builds n).outcome ≡ None → ⊥)
      → AreHeld (slice_set s.builds n (released (build_at s.builds n) v)) (es ++ event.Settle v n o ∷ [])
  end-changes v n o lt settled =
      set-held s.builds n (released (build_at s.builds n) v) (es ++ event.Settle v n o ∷ []) lt (end-held (build_at s.builds n) n es v o (all n) settled)
      (λ m apart. apart-held (build_at s.builds m) m es (event.Settle v n o)
      (record { give = λ w u. refl; link = λ w. refl; give_back = λ w u. refl; settle = λ w. elsewhere-end v n m apart w }) (all m))

step-held : (s : State) (es : List Event) (e : Event) → AreHeld s.builds es → allowed s e ≡ true → ((n : ℕ) (t : Task) (r : Role) → e ≡ event.Claim r (job.Scan n t) → count_by (claims_task n t) es ≡ 0)
    → (let t : State = after s e in AreHeld t.builds (es ++ e ∷ []))
step-held s es (event.Claim r j) all may new = claims-held s es all r j may (λ n t is. new n t r (ap (λ (k : Job). event.Claim r k) is))
step-held s es (event.Deliver v n t p) all may new =
    let parts = both_parts (has_begun s n) (has_task (build_at s.builds n) v t && product_fits t p) may in
    let u : State = all_moved s (moves s (event.Deliver v n t p)) in
    let lt = ltb-true n (length s.builds) parts.0 in
    let longer = all_moved-longer s (moves s (event.Deliver v n t p)) in
    let still = ap (λ (cs : List (ℕ × Task)). list_any (is_claim v t) cs) (claims-stay s (moves s (event.Deliver v n t p)) n) in
    back-changes u es (moved-held s (moves s (event.Deliver v n t p)) es all) v n t p (omega (arith, lt, longer)) (still ∙ (both_parts (has_task (build_at s.builds n) v t) (product_fits t p) parts.1).0)
step-held s es (event.Settle v n o) all may new =
    let lt = ltb-true n (length s.builds) (both_parts (has_begun s n) (may_settle (build_at s.builds n) v o) may).0 in
    let longer = all_moved-longer s (moves s (event.Settle v n o)) in
    end-changes (all_moved s (moves s (event.Settle v n o))) es (moved-held s (moves s (event.Settle v n o)) es all) v n o (omega (arith, lt, longer)) (is_settled_after s v n o may)
step-held s es (event.Arrive p) all may new =
    idle (all_moved s (moves s (event.Arrive p))) es (moved-held s (moves s (event.Arrive p)) es all) (event.Arrive p) (λ n. record { give = λ w t. refl; link = λ w. refl; give_back = λ w t. refl; settle = λ w. refl })
step-held s es (event.Record worker n q a) all may new =
    idle (all_moved s (moves s (event.Record worker n q a))) es (moved-held s (moves s (event.Record worker n q a)) es all) (event.Record worker n q a)
    (λ k. record { give = λ w t. refl; link = λ w. refl; give_back = λ w t. refl; settle = λ w. refl })
step-held s es event.EndOfInput all may new = idle s es all event.EndOfInput (λ n. record { give = λ w t. refl; link = λ w. refl; give_back = λ w t. refl; settle = λ w. refl })
step-held s es (event.Written worker n f) all may new =
    idle (all_moved s (moves s (event.Written worker n f))) es (moved-held s (moves s (event.Written worker n f)) es all) (event.Written worker n f)
    (λ k. record { give = λ w t. refl; link = λ w. refl; give_back = λ w t. refl; settle = λ w. refl })
step-held s es event.Pop all may new =
    idle (all_moved s (moves s event.Pop)) es (moved-held s (moves s event.Pop) es all) event.Pop (λ n. record { give = λ w t. refl; link = λ w. refl; give_back = λ w t. refl; settle = λ w. refl })

none-held : AreHeld [] []
none-held m = record { tasks = λ w t. refl; link = λ w. refl; unsettled = λ none w. refl; given = λ w t back. back }

-- a task that is claimed next was not claimed before
unclaimed_yet : (es : List Event) (e : Event) → is_legal es ≡ true → allowed (replay es) e ≡ true → (n : ℕ) (t : Task) (r : Role) → e ≡ event.Claim r (job.Scan n t) → count_by (claims_task n t) es ≡ 0
unclaimed_yet es e legal may n t r is =
    let pushed = stands-push (replay es) es e (record { legal = legal; replayed = refl }) may in
    let h = claimed-once (es ++ e ∷ []) pushed.legal n in
    let few = h.once t in
    let all = count-push (claims_task n t) es e in
    let one : ◌≡◌ {A = ℕ} (cond (claims_task n t e) 1 0) 1 =
    ap (λ (d : Event). let k : ℕ = cond (claims_task n t d) 1 0 in k) is ∙ ap (λ (c : Bool). let k : ℕ = cond (c && same_task t t) 1 0 in k) (eq-eqb n n refl)
    ∙ ap (λ (c : Bool). let k : ℕ = cond c 1 0 in k) (same_task-refl t) in
    omega (arith, few, all, one)

pub held : (events : List Event) → is_legal events ≡ true → (n : ℕ) → IsHeld (build_at (replay events).builds n) n events
held events legal =
    each_legal (λ es. AreHeld (replay es).builds es) none-held
    (λ es e before may all.
    subst (λ (t : State). AreHeld t.builds (es ++ e ∷ [])) (sym (replay_from-append start es (e ∷ []))) (step-held (replay es) es e all may (unclaimed_yet es e before may)))
    events legal

-- ---- what may come

past-end : (bs : List Building) (n : ℕ) → length bs ≤ n → build_at bs n ≡ no_build
past-end [] n over = refl
past-end (b ∷ bs) zero over = absurd (omega arith)
past-end (b ∷ bs) (suc n) over = past-end bs n (omega arith)

-- what holds of no build is of one that has begun
pub begun-too : (bs : List Building) (n : ℕ) (f : Building → Bool) → f no_build ≡ false → (nat_lt n (length bs) && f (build_at bs n)) ≡ f (build_at bs n)
begun-too bs n f none = by (nat_lt n (length bs)) refl
  where
    by : (t : Bool) → nat_lt n (length bs) ≡ t → (t && f (build_at bs n)) ≡ f (build_at bs n)
    by true is = refl
    by false is = sym (ap f (past-end bs n (ltb-false n (length bs) is)) ∙ none)

pub may-deliver-by : (events : List Event) (worker n : ℕ) (t : Task) (p : Product) → is_legal events ≡ true
    → allowed (replay events) (event.Deliver worker n t p) ≡ (holds_task events worker n t && product_fits t p)
may-deliver-by events worker n t p legal =
    let h = held events legal n in
    begun-too (replay events).builds n (λ b. has_task b worker t && product_fits t p) refl ∙ ap (λ c. c && product_fits t p) (h.tasks worker t)

linked-by : (events : List Event) (worker n : ℕ) → is_legal events ≡ true → (has_begun (replay events) n && is_linker (build_at (replay events).builds n).linker worker) ≡ holds_link events worker n
linked-by events worker n legal = let h = held events legal n in begun-too (replay events).builds n (λ b. is_linker b.linker worker) refl ∙ h.link worker

pub may-link-by : (events : List Event) (worker n : ℕ) (files : List OutFile) → is_legal events ≡ true → allowed (replay events) (event.Settle worker n (outcomes.Files files)) ≡ holds_link events worker n
may-link-by events worker n files legal = linked-by events worker n legal

pub may-link-errors-by : (events : List Event) (worker n : ℕ) (messages : List Message) → is_legal events ≡ true
    → allowed (replay events) (event.Settle worker n (outcomes.Errors messages)) ≡ holds_link events worker n
may-link-errors-by events worker n messages legal = linked-by events worker n legal

pub may-cancel-by : (events : List Event) (worker n : ℕ) → is_legal events ≡ true → allowed (replay events) (event.Settle worker n outcomes.Canceled) ≡ false
may-cancel-by events worker n legal = and-false (has_begun (replay events) n)

-- a worker with a claim has one of a task, or of the link
some-claim : (worker : ℕ) (claims : List (ℕ × Task)) → list_any (λ claim. nat_eq claim.0 worker) claims ≡ true → (t : Task) × (list_any (is_claim worker t) claims ≡ true)
some-claim worker [] e = absurd (false≢true e)
some-claim worker (claim ∷ claims) e = by (nat_eq claim.0 worker) refl e (some-claim worker claims)
  where
    by : (x : Bool) → nat_eq claim.0 worker ≡ x → (x || list_any (λ c. nat_eq c.0 worker) claims) ≡ true
        → (list_any (λ c. nat_eq c.0 worker) claims ≡ true → (t : Task) × (list_any (is_claim worker t) claims ≡ true)) → (t : Task) × (list_any (is_claim worker t) (claim ∷ claims) ≡ true)
    by true is one rec = (claim.1, left-true (is_claim worker claim.1 claim) _ (ap (λ c. c && same_task claim.1 claim.1) is ∙ same_task-refl claim.1))
    by false is one rec =
        let rest = rec one in
        (rest.0, ap (λ c. is_claim worker rest.0 claim || c) rest.1 ∙ or-true (is_claim worker rest.0 claim))

claim-some : (worker : ℕ) (t : Task) (claims : List (ℕ × Task)) → list_any (is_claim worker t) claims ≡ true → list_any (λ claim. nat_eq claim.0 worker) claims ≡ true
claim-some worker t [] e = absurd (false≢true e)
claim-some worker t (claim ∷ claims) e = by (is_claim worker t claim) refl e (claim-some worker t claims)
  where
    by : (x : Bool) → is_claim worker t claim ≡ x → (x || list_any (is_claim worker t) claims) ≡ true → (list_any (is_claim worker t) claims ≡ true → list_any (λ c. nat_eq c.0 worker) claims ≡ true)
        → (nat_eq claim.0 worker || list_any (λ c. nat_eq c.0 worker) claims) ≡ true
    by true is one rec = left-true (nat_eq claim.0 worker) _ (both_parts (nat_eq claim.0 worker) (same_task claim.1 t) is).0
    by false is one rec = ap (λ c. nat_eq claim.0 worker || c) (rec one) ∙ or-true (nat_eq claim.0 worker)

pub may-give_up-by : (events : List Event) (worker n : ℕ) → is_legal events ≡ true
    → (allowed (replay events) (event.Settle worker n outcomes.Memory) ≡ true) ↔ ((holds_link events worker n ≡ true) ⊎ HoldsTask events worker n)
may-give_up-by events worker n legal = (there, back)
  where
    same : allowed (replay events) (event.Settle worker n outcomes.Memory) ≡ has_claim (build_at (replay events).builds n) worker
    same = begun-too (replay events).builds n (λ c. has_claim c worker) refl

    split : (x : Bool) → list_any (λ claim. nat_eq claim.0 worker) (build_at (replay events).builds n).claims ≡ x → (x || is_linker (build_at (replay events).builds n).linker worker) ≡ true
        → (holds_link events worker n ≡ true) ⊎ HoldsTask events worker n
    split true is e =
        let h = held events legal n in
        let claim = some-claim worker (build_at (replay events).builds n).claims is in
        inr (record { task = claim.0; held = sym (h.tasks worker claim.0) ∙ claim.1 })
    split false is e = let h = held events legal n in inl (sym (h.link worker) ∙ e)

    there : allowed (replay events) (event.Settle worker n outcomes.Memory) ≡ true → (holds_link events worker n ≡ true) ⊎ HoldsTask events worker n
    there e = split (list_any (λ claim. nat_eq claim.0 worker) (build_at (replay events).builds n).claims) refl (sym same ∙ e)

    back : (holds_link events worker n ≡ true) ⊎ HoldsTask events worker n → allowed (replay events) (event.Settle worker n outcomes.Memory) ≡ true
    back (inl link) =
        let h = held events legal n in
        same ∙ ap (λ c. list_any (λ claim. nat_eq claim.0 worker) (build_at (replay events).builds n).claims || c) (h.link worker ∙ link)
        ∙ or-true (list_any (λ claim. nat_eq claim.0 worker) (build_at (replay events).builds n).claims)
    back (inr holds) =
        let h = held events legal n in
        same ∙ left-true (list_any (λ claim. nat_eq claim.0 worker) (build_at (replay events).builds n).claims) _
        (claim-some worker holds.task (build_at (replay events).builds n).claims (h.tasks worker holds.task ∙ holds.held))
