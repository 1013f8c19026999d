-- Two tasks are the same by the test exactly where they are equal.
use Rattle.std.proofs.Common.{◌≡◌, ◌≢◌, Bool, true, false, ◌&&◌, refl, ap}
use Rattle.std.specs.Bool.{Decides}
use Rattle.std.proofs.lemmas.Bool.{false≢true, eqb-true, eq-eqb}
use Rattle.std.proofs.lemmas.Slice.Eq.{bytes_eq-Decides}
use Rattle.std.specs.Str.{bytes_eq}
use Rattle.esb_base.specs.declared.file_name.FileName.{FileName}
use Rattle.esb_ask.specs.declared.task.Task.{Task}
use Rattle.esb_ask.specs.declared.task.Task.TheVariants as task
use Rattle.esb_ask.specs.Tasks.{same_name, same_task}

both : (b d : Bool) → b ≡ true → d ≡ true → (b && d) ≡ true
both true d e f = f
both false d e f = e

first : (b d : Bool) → (b && d) ≡ true → b ≡ true
first true d e = refl
first false d e = e

second : (b d : Bool) → (b && d) ≡ true → d ≡ true
second true d e = e
second false d e = absurd (false≢true e)

pub same_name-Decides : (name other : FileName) → Decides (same_name name other) (name ≡ other)
same_name-Decides name other =
    let namespaces = bytes_eq-Decides name.namespace other.namespace in
    let paths = bytes_eq-Decides name.path other.path in (
      λ e.
          let space = namespaces.0 (first (bytes_eq name.namespace other.namespace) (bytes_eq name.path other.path) e) in
          let path = paths.0 (second (bytes_eq name.namespace other.namespace) (bytes_eq name.path other.path) e) in
          λ i. record { namespace = space i; path = path i },
      λ e.
          both (bytes_eq name.namespace other.namespace) (bytes_eq name.path other.path)
          (namespaces.1 (ap (λ (n : FileName). n.namespace) e))
          (paths.1 (ap (λ (n : FileName). n.path) e)),
    )

pub same_task-Decides : (job other : Task) → Decides (same_task job other) (job ≡ other)
same_task-Decides (task.Entry number) (task.Entry more) = (λ e. ap task.Entry (eqb-true number more e), λ e. eq-eqb number more cc)
same_task-Decides (task.Entry number) (task.Load more) = (λ e. absurd (false≢true e), λ e. cc)
same_task-Decides (task.Load name) (task.Entry more) = (λ e. absurd (false≢true e), λ e. cc)
same_task-Decides (task.Load name) (task.Load more) = (λ e. ap task.Load ((same_name-Decides name more).0 e), λ e. (same_name-Decides name more).1 cc)

pub equal-from_same_task : (job other : Task) → same_task job other ≡ true → job ≡ other
equal-from_same_task job other e = (same_task-Decides job other).0 e

pub same_task-from_equal : (job other : Task) → job ≡ other → same_task job other ≡ true
same_task-from_equal job other e = (same_task-Decides job other).1 e

pub same_task-refl : (job : Task) → same_task job job ≡ true
same_task-refl job = same_task-from_equal job job refl

pub apart-from_different_task : (job other : Task) → job ≢ other → same_task job other ≡ false
apart-from_different_task job other h = by (same_task job other) (λ e. h (equal-from_same_task job other e))
  where
    by : (b : Bool) → (b ≢ true) → b ≡ false
    by true f = absurd (f refl)
    by false f = refl
