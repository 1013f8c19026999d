-- What holds of each build, once moves are made.
use Rattle.std.proofs.Common.{◌≡◌, refl, ℕ, zero, suc, Bool, List, [], ◌∷◌, ◌++◌, slice_set}
use Rattle.esb_flags.specs.declared.options.Options.{Options}
use Rattle.esb_ask.specs.declared.question.Question.{Question}
use Rattle.esb_ask.specs.declared.answer.Answer.{Answer}
use Rattle.esb_ask.specs.declared.task.Task.{Task}
use Rattle.esb_ask.specs.declared.outcome.Outcome.{Outcome}
use Rattle.esb_ask.specs.declared.outcome.Failures.{Failures}
use Rattle.esb_core.specs.State.{Building, State, build_at, no_build}
use Rattle.esb_core.specs.Moves.{Move, make, remove, begin, join, retire, owe, keep, assign, settle, write, close, take}
use Rattle.esb_core.specs.Steps.{moved, all_moved, fresh, joined, answered, tasked, ended_by, written_by, closed_by}

-- one build changes, if it has begun
pub each-set : (P : ℕ → Building → Type 0) (bs : List Building) (n : ℕ) (b : Building) → ((k : ℕ) → P k (build_at bs k)) → P n b → (m : ℕ) → P m (build_at (slice_set bs n b) m)
each-set P [] n b all own m = all m
each-set P (c ∷ bs) zero b all own zero = own
each-set P (c ∷ bs) zero b all own (suc m) = all (suc m)
each-set P (c ∷ bs) (suc n) b all own zero = all zero
each-set P (c ∷ bs) (suc n) b all own (suc m) = each-set (λ k. P (suc k)) bs n b (λ k. all (suc k)) own m

-- one build begins, where none stood
pub each-push : (P : ℕ → Building → Type 0) (bs : List Building) (b : Building) → ((k : ℕ) → P k (build_at bs k)) → ((k : ℕ) → P k no_build → P k b) → (m : ℕ) → P m (build_at (bs ++ b ∷ []) m)
each-push P [] b all own zero = own zero (all zero)
each-push P [] b all own (suc m) = all (suc m)
each-push P (c ∷ bs) b all own zero = all zero
each-push P (c ∷ bs) b all own (suc m) = each-push (λ k. P (suc k)) bs b (λ k. all (suc k)) (λ k. own (suc k)) m

-- what each kind of move keeps of a build, moves keep of each build
module _ (P : ℕ → Building → Type 0)
    (begins : (k key : ℕ) (options : Options) → P k no_build → P k (fresh key options))
    (joins : (k : ℕ) (b : Building) (id : ℕ) (result : Bool) → P k b → P k (joined b id result))
    (keeps : (k : ℕ) (b : Building) (q : Question) (a : Answer) → P k b → P k (answered b q a))
    (assigns : (k : ℕ) (b : Building) (t : Task) → P k b → P k (tasked b t))
    (settles : (k : ℕ) (b : Building) (o : Outcome) → P k b → P k (ended_by b o))
    (writes : (k : ℕ) (b : Building) (f : Failures) → P k b → P k (written_by b f))
    (closes : (k : ℕ) (b : Building) → P k b → P k (closed_by b)) where
  pub each-moved : (s : State) (m : Move) → ((k : ℕ) → P k (build_at s.builds k)) → (k : ℕ) → P k (build_at (moved s m).builds k)
  each-moved s (make key options) all = all
  each-moved s (remove key) all = all
  each-moved s (begin n key options) all = each-push P s.builds (fresh key options) all (λ k. begins k key options)
  each-moved s (retire key) all = all
  each-moved s (join n id result) all = each-set P s.builds n (joined (build_at s.builds n) id result) all (joins n (build_at s.builds n) id result (all n))
  each-moved s (owe o) all = all
  each-moved s (keep n q a) all = each-set P s.builds n (answered (build_at s.builds n) q a) all (keeps n (build_at s.builds n) q a (all n))
  each-moved s (assign n t) all = each-set P s.builds n (tasked (build_at s.builds n) t) all (assigns n (build_at s.builds n) t (all n))
  each-moved s (settle n o) all = each-set P s.builds n (ended_by (build_at s.builds n) o) all (settles n (build_at s.builds n) o (all n))
  each-moved s (write n f) all = each-set P s.builds n (written_by (build_at s.builds n) f) all (writes n (build_at s.builds n) f (all n))
  each-moved s (close key n) all = each-set P s.builds n (closed_by (build_at s.builds n)) all (closes n (build_at s.builds n) (all n))
  each-moved s take all = all

  pub each-all_moved : (s : State) (ms : List Move) → ((k : ℕ) → P k (build_at s.builds k)) → (k : ℕ) → P k (build_at (all_moved s ms).builds k)
  each-all_moved s [] all = all
  each-all_moved s (m ∷ ms) all = each-all_moved (moved s m) ms (each-moved s m all)

-- moves leave the claims of each build
pub claims-stay : (s : State) (ms : List Move) (n : ℕ) → (build_at (all_moved s ms).builds n).claims ≡ (build_at s.builds n).claims
claims-stay s ms n =
    each-all_moved (λ k b. b.claims ≡ (build_at s.builds k).claims) (λ k key options h. h) (λ k b id result h. h) (λ k b q a h. h) (λ k b t h. h) (λ k b o h. h)
    (λ k b f h. h) (λ k b h. h)
    s ms (λ k. refl) n
