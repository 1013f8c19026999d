-- Tasks that are added, and answers that are counted.
use Rattle.std.proofs.Common.{◌≡◌, ℕ, zero, suc, ◌+◌, ◌≤◌, Bool, true, false, cond, ◌||◌, List, [], ◌∷◌, ◌++◌, length, Option, None, Some, refl, sym, ap, ◌∙◌, arith, nat_eq, nat_lt, append_assoc, length-append}
use Rattle.std.specs.Prelude.{fold, count_by}
use Rattle.std.specs.List.{list_any}
use Rattle.std.proofs.lemmas.Bool.{false≢true}
use Rattle.std.proofs.lemmas.List.Sums.{sum_by-append}
use Rattle.esb_ask.specs.declared.question.Question.{Question}
use Rattle.esb_ask.specs.declared.answer.Answer.{Answer}
use Rattle.esb_ask.specs.declared.task.Task.{Task}
use Rattle.esb_ask.specs.declared.task.Task.TheVariants as task
use Rattle.esb_ask.specs.Tasks.{same_task}
use Rattle.esb_ask.specs.Table.{answer_to, kept}
use Rattle.esb_ask.proofs.Tables.{kept-absent, kept-present}
use Rattle.esb_core.specs.Steps.{entry_tasks_from}
use Rattle.esb_core.specs.Sizes.{with_task, is_load, files, bytes_of, bytes_in, most_answers, most_contents, most_files, is_overfull, has_too_many}

-- ---- tasks that are added

with-grows : (ts : List Task) (t : Task) → length ts ≤ length (with_task ts t)
with-grows ts t = by (list_any (same_task t) ts)
  where
    by : (b : Bool) → length ts ≤ length (cond b ts (ts ++ t ∷ []))
    by true = omega arith
    by false = omega (arith, length-append ts (t ∷ []))

fold-grows : (ts more : List Task) → length ts ≤ length (fold with_task ts more)
fold-grows ts [] = omega arith
fold-grows ts (t ∷ more) =
    let here = with-grows ts t in
    let rest = fold-grows (with_task ts t) more in
    omega (arith, here, rest)

-- where there are no tasks, none was added
pub fold-none : (more : List Task) → [] ≡ fold with_task [] more → more ≡ []
fold-none [] e = refl
fold-none (t ∷ more) e =
    let long = fold-grows (t ∷ []) more in
    let none : length {A = Task} [] ≡ length (fold with_task (t ∷ []) more) = ap length e in
    absurd (omega (arith, long, none))

-- ---- files

-- the tasks of entries load nothing
pub entries-files : (first n : ℕ) → files (entry_tasks_from first n) ≡ 0
entries-files first zero = refl
entries-files first (suc n) =
    let all = sum_by-append (λ t. cond (is_load t) 1 0) (task.Entry first ∷ []) (entry_tasks_from (first + 1) n) in
    let rest = entries-files (first + 1) n in
    omega (arith, all, rest)

pub files-push : (ts : List Task) (t : Task) → files (ts ++ t ∷ []) ≡ files ts + cond (is_load t) 1 0
files-push ts t = sum_by-append (λ u. cond (is_load u) 1 0) ts (t ∷ []) ∙ omega arith

-- ---- bytes

pub bytes-push : (table : List (Question × Answer)) (q : Question) (a : Answer) → bytes_in (table ++ (q, a) ∷ []) ≡ bytes_in table + bytes_of a
bytes-push table q a = sum_by-append (λ pair. bytes_of pair.1) table ((q, a) ∷ []) ∙ omega arith
