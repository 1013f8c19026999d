-- Closed builds have no job, so the first ones may be passed over.
use Rattle.std.proofs.Common.{◌≡◌, ℕ, zero, suc, ◌+◌, ◌<◌, ◌≤◌, Bool, true, false, ◌&&◌, is_none, List, [], ◌∷◌, length, drop, Option, None, Some, is_some, refl, sym, ap, ◌∙◌, arith}
use Rattle.std.specs.Prelude.{IsSome}
use Rattle.std.specs.List.{list_all}
use Rattle.std.proofs.lemmas.Bool.{false≢true}
use Rattle.esb_ask.specs.declared.outcome.OutFile.{OutFile}
use Rattle.esb_ask.specs.declared.outcome.Outcome.{Outcome}
use Rattle.esb_ask.specs.declared.outcome.Outcome.TheVariants as outcomes
use Rattle.esb_core.specs.State.{Building, build_at}
use Rattle.esb_core.specs.Order.{IsSane}
use Rattle.esb_core.specs.Allowed.{job_of, job_unless, or_next, first_from, is_closed, is_settled, write_if, writing_of}

and-false : (b : Bool) → (b && false) ≡ false
and-false true = refl
and-false false = refl

some-not : {X : Type 0} (o : Option X) → IsSome o → is_none o ≡ false
some-not None e = absurd (false≢true e)
some-not (Some x) e = refl

-- a build is settled and closed, and files that it puts were put
pub record IsShut (b : Building) : Type 0 where
  pub settled : is_settled b ≡ true
  pub closed : is_closed b ≡ true
  pub put : b.options.write ≡ true → (files : List OutFile) → b.outcome ≡ Some (outcomes.Files files) → IsSome b.failed

no_write : (n : ℕ) (b : Building) (o : Outcome) → b.outcome ≡ Some o → IsShut b → writing_of n b o ≡ None
no_write n b (outcomes.Files files) is shut = by b.options.write refl
  where
    by : (t : Bool) → b.options.write ≡ t → write_if n (t && (is_none b.writer && is_none b.failed)) ≡ None
    by true puts = ap (λ (f : Bool). write_if n (is_none b.writer && f)) (some-not b.failed (shut.put puts files is)) ∙ ap (write_if n) (and-false (is_none b.writer))
    by false puts = refl
no_write n b (outcomes.Errors messages) is shut = refl
no_write n b outcomes.Canceled is shut = refl
no_write n b outcomes.Memory is shut = refl

-- such a build has no job
pub no_job : (n : ℕ) (b : Building) → IsShut b → job_of n b ≡ None
no_job n b shut = by b.outcome refl shut.settled
  where
    by : (o : Option Outcome) → b.outcome ≡ o → is_some o ≡ true → job_unless n b o ≡ None
    by None is e = absurd (false≢true e)
    by (Some o) is e = no_write n b o is shut

-- a build that is closed is settled, and its files were put
pub shut-sane : (b : Building) → IsSane b → is_closed b ≡ true → IsShut b
shut-sane b k closed = record { settled = by b.outcome refl; closed = closed; put = k.put closed }
  where
    by : (o : Option Outcome) → b.outcome ≡ o → is_some o ≡ true
    by None none = absurd (false≢true (sym (k.open_still none) ∙ closed))
    by (Some o) is = refl

-- these builds are
abbrev pub AreClosed : ℕ → List Building → Type 0
AreClosed k bs = (j : ℕ) → j < k → IsShut (build_at bs j)

tail_closed : (k : ℕ) (b : Building) (bs : List Building) → AreClosed (suc k) (b ∷ bs) → AreClosed k bs
tail_closed k b bs all j lt = all (suc j) (omega arith)

pub first_past : (n k : ℕ) (bs : List Building) → k ≤ length bs → AreClosed k bs → first_from n bs ≡ first_from (n + k) (drop k bs)
first_past n zero bs h all = ap (λ m. first_from m bs) (omega arith)
first_past n (suc k) [] h all = absurd (omega arith)
first_past n (suc k) (b ∷ bs) h all =
    let none : job_of n b ≡ None = no_job n b (all 0 (omega arith)) in
    let rest : first_from (n + 1) bs ≡ first_from (n + 1 + k) (drop k bs) = first_past (n + 1) k bs (omega arith) (tail_closed k b bs all) in
    let shift : n + 1 + k ≡ n + suc k = omega arith in
    ap (λ j. or_next j (first_from (n + 1) bs)) none ∙ rest ∙ ap (λ m. first_from m (drop k bs)) shift

pub closed_past : (k : ℕ) (bs : List Building) → k ≤ length bs → AreClosed k bs → list_all is_closed bs ≡ list_all is_closed (drop k bs)
closed_past zero bs h all = refl
closed_past (suc k) [] h all = absurd (omega arith)
closed_past (suc k) (b ∷ bs) h all =
    ap (λ t. t && list_all is_closed bs) (all 0 (omega arith)).closed ∙ closed_past k bs (omega arith) (tail_closed k b bs all)
