-- What holds of the runs of tasks over all tables.
use Rattle.std.proofs.Common.{◌≡◌, ℕ, ◌≤◌, true, List, [], ◌∷◌, length, Option, None, Some, IsSome, Contains, slice_get, slice_index_or, refl, sym, ap, subst, ◌∙◌, arith, true≢false}
use Rattle.std.proofs.lemmas.Option.{slice_get_within}
use Rattle.esb_base.specs.declared.file_name.FileName.{FileName}
use Rattle.esb_flags.specs.declared.options.Options.{Options}
use Rattle.esb_ask.specs.declared.question.Question.{Question}
use Rattle.esb_ask.specs.declared.question.Question.TheVariants as question
use Rattle.esb_ask.specs.declared.answer.Answer.{Answer}
use Rattle.esb_ask.specs.declared.task.Task.{Task}
use Rattle.esb_ask.specs.declared.task.Task.TheVariants as task
use Rattle.esb_ask.specs.declared.product.Product.{Product}
use Rattle.esb_ask.specs.declared.product.Product.TheVariants as product
use Rattle.esb_ask.specs.declared.product.Resolved.TheVariants as resolved
use Rattle.esb_ask.specs.Table.{answer_to, kept, kept_answer, Extends}
use Rattle.esb_ask.specs.Tasks.{product_fits}
use Rattle.esb_ask.proofs.Tables.{kept_answers}
use Rattle.esb_scan.specs.declared.run.Run.{Run}
use Rattle.esb_scan.specs.declared.run.Run.TheVariants as run_of
use Rattle.esb_scan.specs.Run.{ask_or, ask, entry_path, resolved_by, loaded_by, run_entry, run_numbered, run_load, run, entry_trail, trail, names, question_fits, is_load, is_done}
use Rattle.esb_scan.specs.Complete.{IsComplete}

-- ---- one question

module _ (asked : Question) (product_by : Answer → Product) where
  same-or : (found more : Option Answer) (given : Product) → ((first : Answer) → found ≡ Some first → more ≡ Some first) → ask_or found asked product_by ≡ run_of.Done given → ask_or more asked product_by ≡ run_of.Done given
  same-or None more given h e = absurd cc
  same-or (Some first) more given h e = ap (λ (r : Option Answer). ask_or r asked product_by) (h first refl) ∙ e

  ask-same : (table more : List (Question × Answer)) (given : Product) → Extends table more → ask table asked product_by ≡ run_of.Done given → ask more asked product_by ≡ run_of.Done given
  ask-same table more given h e = same-or (answer_to table asked) (answer_to more asked) given (h asked) e

  asks-or : (found : Option Answer) (other : Question) → ask_or found asked product_by ≡ run_of.Asks other → (found ≡ None) × (asked ≡ other)
  asks-or None other e = (refl, cc)
  asks-or (Some first) other e = absurd cc

  fits-or : (job : Task) (found : Option Answer) (given : Product) → ((first : Answer) → product_fits job (product_by first) ≡ true) → ask_or found asked product_by ≡ run_of.Done given → product_fits job given ≡ true
  fits-or job None given h e = absurd cc
  fits-or job (Some first) given h e =
      let same : product_by first ≡ given = cc in
      ap (λ (p : Product). product_fits job p) (sym same) ∙ h first

  never-or : (found : Option Answer) → ask_or found asked product_by ≡ run_of.Memory → ⊥
  never-or None e = cc
  never-or (Some first) e = cc

  done-or : (found : Option Answer) → IsSome found → is_done (ask_or found asked product_by) ≡ true
  done-or None h = absurd (true≢false (sym h))
  done-or (Some first) h = refl

  done-answered : (found : Option Answer) (first : Answer) → found ≡ Some first → is_done (ask_or found asked product_by) ≡ true
  done-answered found first e = ap (λ (r : Option Answer). is_done (ask_or r asked product_by)) e

  done-kept : (table : List (Question × Answer)) (given : Answer) → is_done (ask (kept table asked given) asked product_by) ≡ true
  done-kept table given = done-answered (answer_to (kept table asked given) asked) (kept_answer table asked given) (kept_answers table asked given)

-- ---- larger tables

numbered-same : (options : Options) (table more : List (Question × Answer)) (given : Product) → Extends table more → (entry : Option (List ℕ × List ℕ))
    → run_numbered options table entry ≡ run_of.Done given → run_numbered options more entry ≡ run_of.Done given
numbered-same options table more given h None e = e
numbered-same options table more given h (Some entry) e =
    ask-same (question.Kind (entry_path options entry)) (λ first. product.Entry (resolved_by (entry_path options entry) entry.1 first)) table more given h e

-- a larger table that keeps the answers gives the same product
pub run_same : (options : Options) (table more : List (Question × Answer)) (job : Task) (given : Product) → Extends table more → run options table job ≡ run_of.Done given → run options more job ≡ run_of.Done given
run_same options table more (task.Entry number) given h e = numbered-same options table more given h (slice_get options.entries number) e
run_same options table more (task.Load name) given h e = ask-same (question.Read name.path) (λ first. product.Load (loaded_by options name first)) table more given h e

-- ---- the question that is asked

pub record AsksNew (options : Options) (table : List (Question × Answer)) (job : Task) (asked : Question) : Type 0 where
  pub new : answer_to table asked ≡ None
  pub is_trail : trail options table job ≡ asked ∷ []
  pub fits : question_fits job asked ≡ true

asks_kind : (options : Options) (table : List (Question × Answer)) (number : ℕ) (asked : Question) (entry : Option (List ℕ × List ℕ)) → run_numbered options table entry ≡ run_of.Asks asked
    → (answer_to table asked ≡ None) × (entry_trail options entry ≡ asked ∷ []) × (question_fits (task.Entry number) asked ≡ true)
asks_kind options table number asked None e = absurd cc
asks_kind options table number asked (Some entry) e =
    let path = entry_path options entry in
    let found = asks-or (question.Kind path) (λ first. product.Entry (resolved_by path entry.1 first)) (answer_to table (question.Kind path)) asked e in (
      subst (λ (q : Question). answer_to table q ≡ None) found.1 found.0,
      ap (λ (q : Question). q ∷ []) found.1,
      ap (λ (q : Question). question_fits (task.Entry number) q) (sym found.1),
    )

-- the table has no answer to it, it is the last of the trail, and it is of the task's kind
pub asks_new : (options : Options) (table : List (Question × Answer)) (job : Task) (asked : Question) → run options table job ≡ run_of.Asks asked → AsksNew options table job asked
asks_new options table (task.Entry number) asked e =
    let h = asks_kind options table number asked (slice_get options.entries number) e in
    record { new = h.0; is_trail = h.1; fits = h.2 }
asks_new options table (task.Load name) asked e =
    let found = asks-or (question.Read name.path) (λ first. product.Load (loaded_by options name first)) (answer_to table (question.Read name.path)) asked e in
    record {
      new = subst (λ (q : Question). answer_to table q ≡ None) found.1 found.0;
      is_trail = ap (λ (q : Question). q ∷ []) found.1;
      fits = ap (λ (q : Question). question_fits (task.Load name) q) (sym found.1);
    }

-- ---- the product

pub run_fits : (options : Options) (table : List (Question × Answer)) (job : Task) (given : Product) → run options table job ≡ run_of.Done given → product_fits job given ≡ true
run_fits options table (task.Entry number) given e = by (slice_get options.entries number) e
  where
    by : (entry : Option (List ℕ × List ℕ)) → run_numbered options table entry ≡ run_of.Done given → product_fits (task.Entry number) given ≡ true
    by None f =
        let same : product.Entry resolved.Left ≡ given = cc in
        ap (λ (p : Product). product_fits (task.Entry number) p) (sym same)
    by (Some entry) f =
        let path = entry_path options entry in
        fits-or (question.Kind path) (λ first. product.Entry (resolved_by path entry.1 first)) (task.Entry number) (answer_to table (question.Kind path)) given (λ first. refl) f
run_fits options table (task.Load name) given e =
    fits-or (question.Read name.path) (λ first. product.Load (loaded_by options name first)) (task.Load name) (answer_to table (question.Read name.path)) given (λ first. refl) e

-- the run as defined is never refused
pub run_never_refused : (options : Options) (table : List (Question × Answer)) (job : Task) → run options table job ≡ run_of.Memory → ⊥
run_never_refused options table (task.Entry number) e = by (slice_get options.entries number) e
  where
    by : (entry : Option (List ℕ × List ℕ)) → run_numbered options table entry ≡ run_of.Memory → ⊥
    by None f = cc
    by (Some entry) f =
        let path = entry_path options entry in
        never-or (question.Kind path) (λ first. product.Entry (resolved_by path entry.1 first)) (answer_to table (question.Kind path)) f
run_never_refused options table (task.Load name) e =
    never-or (question.Read name.path) (λ first. product.Load (loaded_by options name first)) (answer_to table (question.Read name.path)) e

-- ---- once the question has an answer

one_contains : {X : Type 0} (x : X) → Contains (x ∷ []) x
one_contains x = (0, omega arith, refl)

-- the one that a list of one has
from_one : {X : Type 0} (x y : X) → Contains (x ∷ []) y → x ≡ y
from_one x y h =
    let first : h.0 ≡ 0 = omega (arith, h.1) in
    subst (λ (k : ℕ). slice_index_or (x ∷ []) k y ≡ y) first h.2

-- where each question of the trail has an answer the task has a product
pub done_from_trail : (options : Options) (table : List (Question × Answer)) (job : Task) → ((asked : Question) → Contains (trail options table job) asked → IsSome (answer_to table asked)) → is_done (run options table job) ≡ true
done_from_trail options table (task.Entry number) h = by (slice_get options.entries number) h
  where
    by : (entry : Option (List ℕ × List ℕ)) → ((asked : Question) → Contains (entry_trail options entry) asked → IsSome (answer_to table asked)) → is_done (run_numbered options table entry) ≡ true
    by None f = refl
    by (Some entry) f =
        let path = entry_path options entry in
        done-or (question.Kind path) (λ first. product.Entry (resolved_by path entry.1 first)) (answer_to table (question.Kind path)) (f (question.Kind path) (one_contains (question.Kind path)))
done_from_trail options table (task.Load name) h =
    done-or (question.Read name.path) (λ first. product.Load (loaded_by options name first)) (answer_to table (question.Read name.path)) (h (question.Read name.path) (one_contains (question.Read name.path)))

numbered-kept : (options : Options) (table : List (Question × Answer)) (asked : Question) (given : Answer) (entry : Option (List ℕ × List ℕ)) → run_numbered options table entry ≡ run_of.Asks asked → is_done (run_numbered options (kept table asked given) entry) ≡ true
numbered-kept options table asked given None e = absurd cc
numbered-kept options table asked given (Some entry) e =
    let path = entry_path options entry in
    let found = asks-or (question.Kind path) (λ first. product.Entry (resolved_by path entry.1 first)) (answer_to table (question.Kind path)) asked e in
    subst (λ (q : Question). is_done (run_entry options (kept table q given) entry) ≡ true) found.1
    (done-kept (question.Kind path) (λ first. product.Entry (resolved_by path entry.1 first)) table given)

-- a task asks one question at most
pub done-kept_answer : (options : Options) (table : List (Question × Answer)) (job : Task) (asked : Question) (given : Answer) → run options table job ≡ run_of.Asks asked → is_done (run options (kept table asked given) job) ≡ true
done-kept_answer options table (task.Entry number) asked given e = numbered-kept options table asked given (slice_get options.entries number) e
done-kept_answer options table (task.Load name) asked given e =
    let found = asks-or (question.Read name.path) (λ first. product.Load (loaded_by options name first)) (answer_to table (question.Read name.path)) asked e in
    subst (λ (q : Question). is_done (run_load options (kept table q given) name) ≡ true) found.1
    (done-kept (question.Read name.path) (λ first. product.Load (loaded_by options name first)) table given)

-- ---- further tasks

-- a product names one task at most
pub one_name : (given : Product) → length (names given) ≤ 1
one_name (product.Entry (resolved.To name marked)) = omega arith
one_name (product.Entry resolved.External) = omega arith
one_name (product.Entry resolved.Left) = omega arith
one_name (product.Entry (resolved.Refused message)) = omega arith
one_name (product.Load loading) = omega arith

-- the product of a load names none
pub names-load : (name : FileName) (given : Product) → product_fits (task.Load name) given ≡ true → names given ≡ []
names-load name (product.Entry resolved) e = absurd (true≢false (sym e))
names-load name (product.Load loading) e = refl

-- what is named is a load
pub names_loads : (given : Product) (job : Task) → Contains (names given) job → is_load job ≡ true
names_loads (product.Entry (resolved.To name marked)) job h = ap is_load (sym (from_one (task.Load name) job h))
names_loads (product.Entry resolved.External) job h = absurd (omega (arith, h.1))
names_loads (product.Entry resolved.Left) job h = absurd (omega (arith, h.1))
names_loads (product.Entry (resolved.Refused message)) job h = absurd (omega (arith, h.1))
names_loads (product.Load loading) job h = absurd (omega (arith, h.1))

-- ---- complete tables

-- a larger table that keeps the answers of a complete one is complete
same_done : (options : Options) (table more : List (Question × Answer)) (job : Task) → Extends table more → (r : Run) → run options table job ≡ r → is_done r ≡ true → is_done (run options more job) ≡ true
same_done options table more job h (run_of.Asks asked) e d = absurd (true≢false (sym d))
same_done options table more job h (run_of.Done given) e d = ap is_done (run_same options table more job given h e)
same_done options table more job h run_of.Memory e d = absurd (true≢false (sym d))

pub done_same : (options : Options) (table more : List (Question × Answer)) (job : Task) → Extends table more → is_done (run options table job) ≡ true → is_done (run options more job) ≡ true
done_same options table more job h d = same_done options table more job h (run options table job) refl d

-- what has a product over the smaller table has the same over the larger
back_same : (options : Options) (table more : List (Question × Answer)) (job : Task) (given : Product) → Extends table more → (r : Run) → run options table job ≡ r → is_done r ≡ true → run options more job ≡ run_of.Done given → run options table job ≡ run_of.Done given
back_same options table more job given h (run_of.Asks asked) e d m = absurd (true≢false (sym d))
back_same options table more job given h (run_of.Done own) e d m =
    let same : run_of.Done own ≡ run_of.Done given = sym (run_same options table more job own h e) ∙ m in
    e ∙ same
back_same options table more job given h run_of.Memory e d m = absurd (true≢false (sym d))

pub complete_same : (options : Options) (table more : List (Question × Answer)) → Extends table more → IsComplete options table → IsComplete options more
complete_same options table more h complete = record {
  entries = λ number lt. done_same options table more (task.Entry number) h (complete.entries number lt);
  loads = λ number name marked e.
      done_same options table more (task.Load name) h
      (complete.loads number name marked
      (by number (product.Entry (resolved.To name marked)) e (slice_get options.entries number) refl));
}
  where
    by : (number : ℕ) (given : Product) → run options more (task.Entry number) ≡ run_of.Done given → (entry : Option (List ℕ × List ℕ)) → slice_get options.entries number ≡ entry → run options table (task.Entry number) ≡ run_of.Done given
    by number given m None at = ap (λ (o : Option (List ℕ × List ℕ)). run_numbered options table o) at ∙ sym (ap (λ (o : Option (List ℕ × List ℕ)). run_numbered options more o) at) ∙ m
    by number given m (Some entry) at =
        back_same options table more (task.Entry number) given h (run options table (task.Entry number)) refl
        (complete.entries number (slice_get_within options.entries number entry at)) m
