-- What the first open job says of its build.
use Rattle.std.proofs.Common.{◌≡◌, ℕ, suc, ◌+◌, ◌<◌, Bool, true, false, ◌&&◌, List, [], ◌∷◌, length, Option, None, Some, is_none, refl, sym, ap, subst, ◌∙◌, arith, nat_eq, slice_get}
use Rattle.std.proofs.lemmas.Bool.{false≢true, eqb-true}
use Rattle.std.proofs.lemmas.Option.{slice_get_within}
use Rattle.esb_ask.specs.declared.task.Task.{Task}
use Rattle.esb_ask.specs.declared.outcome.OutFile.{OutFile}
use Rattle.esb_ask.specs.declared.outcome.Outcome.{Outcome}
use Rattle.esb_ask.specs.declared.outcome.Outcome.TheVariants as outcomes
use Rattle.esb_ask.specs.Tasks.{same_task}
use Rattle.esb_ask.proofs.SameTask.{same_task-Decides}
use Rattle.esb_core.specs.declared.event.Job.{Job}
use Rattle.esb_core.specs.declared.event.Job.TheVariants as job
use Rattle.esb_core.specs.declared.event.Role.TheVariants as role
use Rattle.esb_core.specs.State.{Building, State, build_at}
use Rattle.esb_core.specs.Allowed.{job_of, job_unless, job_by, link_if, write_if, is_scanned, or_next, first_from, first_job, same_job, names_job}

-- a build's first job is the first job of the builds
pub record IsOf (n : ℕ) (builds : List Building) (j : Job) : Type 0 where
  pub number : ℕ
  pub begun : number < length builds
  pub its : job_of (n + number) (build_at builds number) ≡ Some j

pub first-is : (n : ℕ) (bs : List Building) (j : Job) → first_from n bs ≡ Some j → IsOf n bs j
first-is n [] j e = absurd (none e)
  where
    none : None ≡ Some j → ⊥
    none h = cc
first-is n (b ∷ bs) j e = by (λ next. first-is (n + 1) bs j next) (job_of n b) refl
  where
    here : (k : Job) → job_of n b ≡ Some k → k ≡ j → IsOf n (b ∷ bs) j
    here k is same = record {
      number = 0;
      begun = omega arith;
      its = ap (λ m. job_of m b) (omega arith) ∙ is ∙ ap Some same;
    }

    later : job_of n b ≡ None → IsOf (n + 1) bs j → IsOf n (b ∷ bs) j
    later is next = record {
      number = suc next.number;
      begun = let h = next.begun in omega arith;
      its = ap (λ m. job_of m (build_at bs next.number)) (omega arith) ∙ next.its;
    }

    by : (first_from (n + 1) bs ≡ Some j → IsOf (n + 1) bs j) → (o : Option Job) → job_of n b ≡ o → IsOf n (b ∷ bs) j
    by rec None is = later is (rec (ap (λ o. or_next o (first_from (n + 1) bs)) (sym is) ∙ e))
    by rec (Some k) is =
        let same : Some k ≡ Some j = ap (λ o. or_next o (first_from (n + 1) bs)) (sym is) ∙ e in
        here k is (cc)

pub both_parts : (a b : Bool) → (a && b) ≡ true → (a ≡ true) × (b ≡ true)
both_parts true b e = (refl, e)
both_parts false b e = absurd (false≢true e)

-- the files of a build are to be put, and their writing is open
pub record IsToWrite (b : Building) : Type 0 where
  pub files : List OutFile
  pub outcome : b.outcome ≡ Some (outcomes.Files files)
  pub writes : b.options.write ≡ true
  pub free : b.writer ≡ None
  pub unput : b.failed ≡ None

-- what a job says of a build with this number
abbrev pub Fits : ℕ → Building → Job → Type 0
Fits n b (job.Scan m t) = (m ≡ n) × (b.outcome ≡ None) × (slice_get b.tasks b.claimed ≡ Some t)
Fits n b (job.Link m) = (m ≡ n) × (b.outcome ≡ None) × (slice_get b.tasks b.claimed ≡ None) × (is_scanned b ≡ true)
Fits n b (job.Write m) = (m ≡ n) × IsToWrite b

pub job-fits : (n : ℕ) (b : Building) (j : Job) → job_of n b ≡ Some j → Fits n b j
job-fits n b j e = by_outcome b.outcome refl e
  where
    none_of : {X : Type 0} (o : Option X) → is_none o ≡ true → o ≡ None
    none_of None e = refl
    none_of (Some k) e = absurd (false≢true e)

    by_write : (files : List OutFile) → b.outcome ≡ Some (outcomes.Files files) → (t : Bool) → (b.options.write && (is_none b.writer && is_none b.failed)) ≡ t → write_if n t ≡ Some j → Fits n b j
    by_write files some true opens is =
        let parts = both_parts b.options.write (is_none b.writer && is_none b.failed) opens in
        let more = both_parts (is_none b.writer) (is_none b.failed) parts.1 in
        let k : job.Write n ≡ j = cc in
        subst (λ i. Fits n b i) k (refl, record { files = files; outcome = some; writes = parts.0; free = none_of b.writer more.0; unput = none_of b.failed more.1 })
    by_write files some false opens is = absurd (let h : None ≡ Some j = is in let f : ⊥ = cc in f)

    by_scanned : (o : Option Outcome) (t : Bool) → b.outcome ≡ None → slice_get b.tasks b.claimed ≡ None → is_scanned b ≡ t → link_if n t ≡ Some j → Fits n b j
    by_scanned o true none over scanned is = let k : job.Link n ≡ j = cc in subst (λ i. Fits n b i) k (refl, none, over, scanned)
    by_scanned o false none over scanned is = absurd (let h : None ≡ Some j = is in let f : ⊥ = cc in f)

    by_task : (o : Option Task) → b.outcome ≡ None → slice_get b.tasks b.claimed ≡ o → job_by n b o ≡ Some j → Fits n b j
    by_task (Some t) none first is = let k : job.Scan n t ≡ j = cc in subst (λ i. Fits n b i) k (refl, none, first)
    by_task None none first is = by_scanned None (is_scanned b) none first refl is

    by_outcome : (o : Option Outcome) → b.outcome ≡ o → job_unless n b o ≡ Some j → Fits n b j
    by_outcome None none is = by_task (slice_get b.tasks b.claimed) none refl is
    by_outcome (Some (outcomes.Files files)) some is = by_write files some (b.options.write && (is_none b.writer && is_none b.failed)) refl is
    by_outcome (Some (outcomes.Errors messages)) some is = absurd (let h : None ≡ Some j = is in let f : ⊥ = cc in f)
    by_outcome (Some outcomes.Canceled) some is = absurd (let h : None ≡ Some j = is in let f : ⊥ = cc in f)
    by_outcome (Some outcomes.Memory) some is = absurd (let h : None ≡ Some j = is in let f : ⊥ = cc in f)

pub same_job-is : (j k : Job) → same_job j k ≡ true → j ≡ k
same_job-is (job.Scan n t) (job.Scan m u) e =
    let p = both_parts (nat_eq n m) (same_task t u) e in
    ap (λ i. job.Scan i t) (eqb-true n m p.0) ∙ ap (λ v. job.Scan m v) ((same_task-Decides t u).0 p.1)
same_job-is (job.Scan n t) (job.Link m) e = absurd (false≢true e)
same_job-is (job.Link n) (job.Scan m u) e = absurd (false≢true e)
same_job-is (job.Link n) (job.Link m) e = ap job.Link (eqb-true n m e)
same_job-is (job.Write n) (job.Write m) e = ap job.Write (eqb-true n m e)
same_job-is (job.Write n) (job.Scan m u) e = absurd (false≢true e)
same_job-is (job.Write n) (job.Link m) e = absurd (false≢true e)
same_job-is (job.Scan n t) (job.Write m) e = absurd (false≢true e)
same_job-is (job.Link n) (job.Write m) e = absurd (false≢true e)

pub names-is : (o : Option Job) (j : Job) → names_job o j ≡ true → o ≡ Some j
names-is None j e = absurd (false≢true e)
names-is (Some k) j e = ap Some (same_job-is k j e)

-- a job that a worker may claim
pub claim-is : (s : State) (worker : ℕ) (j : Job) → names_job (first_job s (role.Worker worker)) j ≡ true → IsOf 0 s.builds j
claim-is s worker j e = first-is 0 s.builds j (names-is (first_from 0 s.builds) j e)

-- the build of a claimed scan has begun, and has an open task
pub record IsOpen (builds : List Building) (n : ℕ) (t : Task) : Type 0 where
  pub begun : n < length builds
  pub unsettled : (build_at builds n).outcome ≡ None
  pub first : slice_get (build_at builds n).tasks (build_at builds n).claimed ≡ Some t
  pub open_left : (build_at builds n).claimed < length (build_at builds n).tasks

pub scan-is : (bs : List Building) (n : ℕ) (t : Task) → IsOf 0 bs (job.Scan n t) → IsOpen bs n t
scan-is bs n t h =
    let f = job-fits (0 + h.number) (build_at bs h.number) (job.Scan n t) h.its in
    let same : h.number ≡ n = omega (arith, f.0) in
    let at : IsOpen bs h.number t = record {
      begun = h.begun;
      unsettled = f.1;
      first = f.2;
      open_left = slice_get_within _ _ t f.2;
    } in
    subst (λ (m : ℕ). IsOpen bs m t) same at

pub record IsReady (builds : List Building) (n : ℕ) : Type 0 where
  pub begun : n < length builds
  pub unsettled : (build_at builds n).outcome ≡ None
  pub over : slice_get (build_at builds n).tasks (build_at builds n).claimed ≡ None
  pub scanned : is_scanned (build_at builds n) ≡ true

pub link-is : (bs : List Building) (n : ℕ) → IsOf 0 bs (job.Link n) → IsReady bs n
link-is bs n h =
    let f = job-fits (0 + h.number) (build_at bs h.number) (job.Link n) h.its in
    let same : h.number ≡ n = omega (arith, f.0) in
    let at : IsReady bs h.number = record { begun = h.begun; unsettled = f.1; over = f.2; scanned = f.3 } in
    subst (λ (m : ℕ). IsReady bs m) same at

pub record IsWritable (builds : List Building) (n : ℕ) : Type 0 where
  pub begun : n < length builds
  pub writes : IsToWrite (build_at builds n)

pub write-is : (bs : List Building) (n : ℕ) → IsOf 0 bs (job.Write n) → IsWritable bs n
write-is bs n h =
    let f = job-fits (0 + h.number) (build_at bs h.number) (job.Write n) h.its in
    let same : h.number ≡ n = omega (arith, f.0) in
    let at : IsWritable bs h.number = record { begun = h.begun; writes = f.1 } in
    subst (λ (m : ℕ). IsWritable bs m) same at
