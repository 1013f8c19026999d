-- Each task of a build that isn't settled is open, or claimed, or has its product.
use Rattle.std.proofs.Common.{◌≡◌, ℕ, ◌<◌, ◌≤◌, ◌⊎◌, inl, inr, Bool, true, not, List, [], ◌∷◌, ◌++◌, length, Option, None, Some, IsSome, refl, sym, ap, subst, ◌∙◌, arith, nat_eq, slice_get, slice_set, false, length-set}
use Rattle.std.specs.Prelude.{filter, is_none}
use Rattle.std.specs.List.{list_any}
use Rattle.std.proofs.lemmas.Option.{slice_get_within}
use Rattle.std.proofs.lemmas.List.{get_or-set_same}
use Rattle.esb_base.specs.declared.file_name.FileName.{FileName}
use Rattle.esb_flags.specs.declared.options.Options.{Options}
use Rattle.esb_ask.specs.declared.question.Question.{Question}
use Rattle.esb_ask.specs.declared.answer.Answer.{Answer}
use Rattle.esb_ask.specs.declared.task.Task.{Task}
use Rattle.esb_ask.specs.declared.task.Task.TheVariants as task
use Rattle.esb_ask.specs.declared.product.Product.{Product}
use Rattle.esb_ask.specs.declared.product.Product.TheVariants as product
use Rattle.esb_ask.specs.declared.product.Resolved.TheVariants as resolved
use Rattle.esb_ask.specs.declared.outcome.Outcome.{Outcome}
use Rattle.esb_ask.specs.Table.{kept}
use Rattle.esb_ask.specs.Tasks.{same_task}
use Rattle.esb_ask.proofs.Tables.{kept_extends}
use Rattle.esb_core.specs.declared.event.Job.TheVariants as job
use Rattle.esb_core.specs.State.{Building, State, build_at, no_build}
use Rattle.esb_core.specs.Moves.{Move, added_or, opens, opened_unless, ended as ended_moves}
use Rattle.esb_core.specs.Steps
use Rattle.esb_core.specs.Sizes.{named, opened, with_task, has_too_many, too_large}
use Rattle.esb_core.specs.Steps.{is_claim, task_claimed, link_claimed, all_moved, joined, answered, tasked, ended_by, closed_by, standing, released}
use Rattle.esb_core.specs.Allowed.{job_of}
use Rattle.esb_core.proofs.Claims.{job-fits, both_parts}
use Rattle.esb_core.proofs.Each.{each-all_moved}
use Rattle.esb_scan.specs.declared.run.Run.TheVariants as run_of
use Rattle.esb_scan.specs.Run.{run, run_numbered, is_done}
use Rattle.esb_scan.specs.Complete.{IsComplete}
use Rattle.esb_scan.proofs.Runs.{run_same}
use Rattle.esb_sound.proofs.Builds.{settled_is_not, some_is_not}
use Rattle.esb_sound.proofs.Tasks.{below_or_last, any-left, ended, place-of, entry-among, opened-keeps, opened-has, opened-get, opened-longer, stands, stands-push, stands-after, none_stand}

-- a task has its product, and what that names is among the tasks
pub record IsFinished (options : Options) (table : List (Question × Answer)) (tasks : List Task) (t : Task) : Type 0 where
  pub product : Product
  pub given : run options table t ≡ run_of.Done product
  pub leads : (u : Task) → named product ≡ Some u → list_any (same_task u) tasks ≡ true

pub record IsOnWay (b : Building) : Type 0 where
  pub entries : (number : ℕ) → number < length b.options.entries → list_any (same_task (task.Entry number)) b.tasks ≡ true
  pub within : b.claimed ≤ length b.tasks
  pub taken : (i : ℕ) (t : Task) → i < b.claimed → slice_get b.tasks i ≡ Some t → (stands b.claims t ≡ true) ⊎ IsFinished b.options b.table b.tasks t

-- of a settled build nothing is said
abbrev pub OnWay : Building → Type 0
OnWay b = b.outcome ≡ None → IsOnWay b

-- ---- each change of a build

fresh-on_way : (key : ℕ) (options : Options) → OnWay (Steps.fresh key options)
fresh-on_way key options none = record {
  entries = λ number lt. entry-among (length options.entries) 0 number (omega arith) (omega arith);
  within = omega arith;
  taken = λ i t lt at. absurd (omega arith);
}

pub task-claimed : (b : Building) (worker : ℕ) (t : Task) → slice_get b.tasks b.claimed ≡ Some t → IsOnWay b → IsOnWay (task_claimed b worker t)
task-claimed b worker t first h = record {
  entries = h.entries;
  within = let lt = slice_get_within b.tasks b.claimed t first in omega arith;
  taken = λ i u lt at. by i u at (below_or_last i b.claimed lt);
}
  where
    before : (u : Task) → (stands b.claims u ≡ true) ⊎ IsFinished b.options b.table b.tasks u → (stands (b.claims ++ (worker, t) ∷ []) u ≡ true) ⊎ IsFinished b.options b.table b.tasks u
    before u (inl claim) = inl (any-left (λ c. same_task c.1 u) b.claims ((worker, t) ∷ []) claim)
    before u (inr done) = inr done

    by : (i : ℕ) (u : Task) → slice_get b.tasks i ≡ Some u → (i < b.claimed) ⊎ (i ≡ b.claimed) → (stands (b.claims ++ (worker, t) ∷ []) u ≡ true) ⊎ IsFinished b.options b.table b.tasks u
    by i u at (inl lt) = before u (h.taken i u lt at)
    by i u at (inr last) =
        let also : Some t ≡ Some u = sym first ∙ ap (λ (k : ℕ). slice_get b.tasks k) (sym last) ∙ at in
        let same : t ≡ u = cc in
        inl (subst (λ (v : Task). stands (b.claims ++ (worker, t) ∷ []) v ≡ true) same (stands-push b.claims worker t))

pub write-claimed : (b : Building) (worker : ℕ) → IsOnWay b → IsOnWay (Steps.write_claimed b worker)
write-claimed b worker h = record { entries = h.entries; within = h.within; taken = h.taken }

pub link-claimed : (b : Building) (worker : ℕ) → IsOnWay b → IsOnWay (link_claimed b worker)
link-claimed b worker h = record { entries = h.entries; within = h.within; taken = h.taken }

joined-on_way : (b : Building) (id : ℕ) (result : Bool) → OnWay b → OnWay (joined b id result)
joined-on_way b id result h none = let on = h none in record { entries = on.entries; within = on.within; taken = on.taken }

kept-on_way : (b : Building) (q : Question) (a : Answer) → IsOnWay b → IsOnWay (answered b q a)
kept-on_way b q a h = record { entries = h.entries; within = h.within; taken = λ i t lt at. by t (h.taken i t lt at) }
  where
    by : (t : Task) → (stands b.claims t ≡ true) ⊎ IsFinished b.options b.table b.tasks t → (stands b.claims t ≡ true) ⊎ IsFinished b.options (kept b.table q a) b.tasks t
    by t (inl claim) = inl claim
    by t (inr done) = inr (record {
      product = done.product;
      given = run_same b.options b.table (kept b.table q a) t done.product (kept_extends b.table q a) done.given;
      leads = done.leads;
    })

tasked-on_way : (b : Building) (u : Task) → IsOnWay b → IsOnWay (tasked b u)
tasked-on_way b u h = record {
  entries = λ number lt. opened-keeps b.tasks (Some u) (task.Entry number) (h.entries number lt);
  within = let more = opened-longer b.tasks (Some u) in let less = h.within in omega arith;
  taken = λ i t lt at.
      let inside : i < length b.tasks = let less = h.within in omega arith in
      by t (h.taken i t lt (sym (opened-get b.tasks (Some u) i inside) ∙ at));
}
  where
    by : (t : Task) → (stands b.claims t ≡ true) ⊎ IsFinished b.options b.table b.tasks t → (stands b.claims t ≡ true) ⊎ IsFinished b.options b.table (with_task b.tasks u) t
    by t (inl claim) = inl claim
    by t (inr done) = inr (record {
      product = done.product;
      given = done.given;
      leads = λ v names. opened-keeps b.tasks (Some u) v (done.leads v names);
    })

-- what a product names is among the tasks
abbrev pub Leads : List Task → Product → Type 0
Leads tasks p = (u : Task) → named p ≡ Some u → list_any (same_task u) tasks ≡ true

unclaimed-on_way : (b : Building) (worker : ℕ) (t : Task) (p : Product) → run b.options b.table t ≡ run_of.Done p → Leads b.tasks p → IsOnWay b → IsOnWay (Steps.unclaimed b worker t)
unclaimed-on_way b worker t p given leads h = record {
  entries = h.entries;
  within = h.within;
  taken = λ i u lt at. by u (h.taken i u lt at);
}
  where
    left : List (ℕ × Task)
    left = filter (λ claim. not (is_claim worker t claim)) b.claims

    delivers : (u : Task) → (stands left u ≡ true) ⊎ (u ≡ t) → (stands left u ≡ true) ⊎ IsFinished b.options b.table b.tasks u
    delivers u (inl claim) = inl claim
    delivers u (inr same) = inr (record {
      product = p;
      given = ap (λ (v : Task). run b.options b.table v) same ∙ given;
      leads = leads;
    })

    by : (u : Task) → (stands b.claims u ≡ true) ⊎ IsFinished b.options b.table b.tasks u → (stands left u ≡ true) ⊎ IsFinished b.options b.table b.tasks u
    by u (inl claim) = delivers u (stands-after b.claims worker t u claim)
    by u (inr done) = inr done

-- what the moves of a delivered task leave of its build
record Leaves (b c : Building) (t : Option Task) : Type 0 where
  same_options : c.options ≡ b.options
  same_table : c.table ≡ b.table
  leads : c.outcome ≡ None → (u : Task) → t ≡ Some u → list_any (same_task u) c.tasks ≡ true

deliver-leaves : (s : State) (n : ℕ) (t : Option Task) (o : Option Outcome) → n < length s.builds → (build_at s.builds n).outcome ≡ o
    → (let u : State = all_moved s (opened_unless (standing s n) n t o) in Leaves (build_at s.builds n) (build_at u.builds n) t)
deliver-leaves s n t (Some o) lt is = record { same_options = refl; same_table = refl; leads = λ none. settled_is_not o (sym is ∙ none) }
deliver-leaves s n t None lt is = by (has_too_many (opened (build_at s.builds n).tasks t))
  where
    b : Building
    b = build_at s.builds n

    ends : (c : Building) → c ≡ closed_by (ended_by b too_large) → Leaves b c t
    ends c same = record {
      same_options = ap (λ (d : Building). d.options) same;
      same_table = ap (λ (d : Building). d.table) same;
      leads = λ none. settled_is_not too_large (sym (ap (λ (d : Building). d.outcome) same) ∙ none);
    }

    there : build_at (slice_set s.builds n (ended_by b too_large)) n ≡ ended_by b too_large
    there = get_or-set_same s.builds n (ended_by b too_large) no_build lt

    bs : List Building
    bs = slice_set s.builds n (ended_by b too_large)

    shut : build_at (slice_set bs n (closed_by (build_at bs n))) n ≡ closed_by (ended_by b too_large)
    shut =
        let long = length-set s.builds n (ended_by b too_large) in
        get_or-set_same bs n (closed_by (build_at bs n)) no_build (omega (arith, lt, long)) ∙ ap (λ (c : Building). closed_by c) there

    closes : (stays : Bool) → (let u : State = all_moved s (ended_moves b.key stays n too_large) in Leaves b (build_at u.builds n) t)
    closes true = ends _ shut
    closes false = ends _ shut

    adds : (v : Option Task) → v ≡ t → (let u : State = all_moved s (opens n v) in Leaves b (build_at u.builds n) t)
    adds None same = record { same_options = refl; same_table = refl; leads = λ none u names. absurd (let e : None ≡ Some u = same ∙ names in let f : ⊥ = cc in f) }
    adds (Some v) same =
        let here : build_at (slice_set s.builds n (tasked b v)) n ≡ tasked b v = get_or-set_same s.builds n (tasked b v) no_build lt in
        record {
          same_options = ap (λ (d : Building). d.options) here;
          same_table = ap (λ (d : Building). d.table) here;
          leads = λ none u names. ap (λ (d : Building). list_any (same_task u) d.tasks) here ∙ opened-has b.tasks (Some v) u (same ∙ names);
        }

    by : (large : Bool) → (let u : State = all_moved s (added_or (standing s n) n large (opens n t)) in Leaves b (build_at u.builds n) t)
    by true = closes (standing s n).stays
    by false = adds t refl

pub delivered-on_way : (s : State) (n worker : ℕ) (t : Task) (p q : Product) → named q ≡ named p → n < length s.builds → run (build_at s.builds n).options (build_at s.builds n).table t ≡ run_of.Done q
    → (let u : State = all_moved s (opened_unless (standing s n) n (named p) (build_at s.builds n).outcome) in OnWay (build_at u.builds n) → OnWay (Steps.unclaimed (build_at u.builds n) worker t))
delivered-on_way s n worker t p q same lt given h none =
    let u : State = all_moved s (opened_unless (standing s n) n (named p) (build_at s.builds n).outcome) in
    let left = deliver-leaves s n (named p) (build_at s.builds n).outcome lt refl in
    unclaimed-on_way (build_at u.builds n) worker t q
    (ap (λ (o : Options). run o (build_at u.builds n).table t) left.same_options ∙ ap (λ (q : List (Question × Answer)). run (build_at s.builds n).options q t) left.same_table ∙ given)
    (λ v names. left.leads none v (sym same ∙ names)) (h none)

pub released-on_way : (b : Building) (worker : ℕ) → IsSome b.outcome → OnWay (released b worker)
released-on_way b worker h none = some_is_not b.outcome h none

-- moves leave each build on its way
pub moves-on_way : (s : State) (ms : List Move) → ((n : ℕ) → OnWay (build_at s.builds n)) → (n : ℕ) → OnWay (build_at (all_moved s ms).builds n)
moves-on_way s ms h =
    each-all_moved (λ k b. OnWay b) (λ k key options own. fresh-on_way key options) (λ k b id result own. joined-on_way b id result own) (λ k b q a own none. kept-on_way b q a (own none)) (λ k b t own none. tasked-on_way b t (own none))
    (λ k b o own none. settled_is_not o none) (λ k b f own none. let on = own none in record { entries = on.entries; within = on.within; taken = on.taken })
    (λ k b own none. let on = own none in record { entries = on.entries; within = on.within; taken = on.taken }) s ms h

-- ---- the link

-- where the link is open, each task is finished
all-finished : (b : Building) (t : Task) → IsOnWay b → slice_get b.tasks b.claimed ≡ None → nat_eq (length b.claims) 0 ≡ true → list_any (same_task t) b.tasks ≡ true → IsFinished b.options b.table b.tasks t
all-finished b t h over none among =
    let at = place-of b.tasks t among in
    let inside : at.place < length b.tasks = slice_get_within b.tasks at.place t at.there in
    let last : length b.tasks ≤ b.claimed = ended b.tasks b.claimed over in
    by (h.taken at.place t (omega arith) at.there)
  where
    by : (stands b.claims t ≡ true) ⊎ IsFinished b.options b.table b.tasks t → IsFinished b.options b.table b.tasks t
    by (inl claim) = absurd (none_stand b.claims t none claim)
    by (inr done) = done

is-complete : (b : Building) → IsOnWay b → ((t : Task) → list_any (same_task t) b.tasks ≡ true → IsFinished b.options b.table b.tasks t) → IsComplete b.options b.table
is-complete b h finished = record {
  entries = λ number lt. done_of (task.Entry number) (finished (task.Entry number) (h.entries number lt));
  loads = λ number name marked e. by number name marked e (slice_get b.options.entries number) refl;
}
  where
    done_of : (t : Task) → IsFinished b.options b.table b.tasks t → is_done (run b.options b.table t) ≡ true
    done_of t f = ap is_done f.given

    load_of : (number : ℕ) (p : Product) (u : Task) → run b.options b.table (task.Entry number) ≡ run_of.Done p → named p ≡ Some u → IsFinished b.options b.table b.tasks (task.Entry number)
        → is_done (run b.options b.table u) ≡ true
    load_of number p u e names f =
        let also : run_of.Done f.product ≡ run_of.Done p = sym f.given ∙ e in
        let same : f.product ≡ p = cc in
        done_of u (finished u (f.leads u (ap named same ∙ names)))

    by : (number : ℕ) (name : FileName) (marked : Bool) → run b.options b.table (task.Entry number) ≡ run_of.Done (product.Entry (resolved.To name marked)) → (entry : Option (List ℕ × List ℕ))
        → slice_get b.options.entries number ≡ entry → is_done (run b.options b.table (task.Load name)) ≡ true
    by number name marked e None at =
        let left : run_of.Done (product.Entry resolved.Left) ≡ run_of.Done (product.Entry (resolved.To name marked)) = ap (λ (o : Option (List ℕ × List ℕ)). run_numbered b.options b.table o) (sym at) ∙ e in
        absurd (let f : ⊥ = cc in f)
    by number name marked e (Some entry) at =
        load_of number (product.Entry (resolved.To name marked)) (task.Load name) e refl
        (finished (task.Entry number) (h.entries number (slice_get_within b.options.entries number entry at)))

pub link-complete : (n : ℕ) (b : Building) → OnWay b → job_of n b ≡ Some (job.Link n) → IsComplete b.options b.table
link-complete n b h open_link =
    let f = job-fits n b (job.Link n) open_link in
    let parts = both_parts (nat_eq (length b.claims) 0) (is_none b.linker) f.3 in
    is-complete b (h f.1) (λ t among. all-finished b t (h f.1) f.2 parts.0 among)
