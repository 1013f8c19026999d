use Rattle.std.proofs.Common.{◌≡◌, ℕ, suc, ◌+◌, ◌-◌, List, ◌∷◌, [], ◌++◌, sym, ap, ◌∙◌, append_assoc, arith}
use Rattle.esb_ask.specs.declared.task.Task.{Task}
use Rattle.esb_ask.specs.declared.task.Task.TheVariants as task
use Rattle.esb_core.specs.Steps.{entry_tasks_from}
use Rattle.esb_core.proofs.opened.entry_tasks.Goals as goal

-- the first of the tasks from a number on
first_task : (n left more : ℕ) → left ≡ suc more → entry_tasks_from n left ≡ task.Entry n ∷ entry_tasks_from (n + 1) more
first_task n left more e = ap (λ k. entry_tasks_from n k) e

-- the tasks so far, with one more, and those that come
with_first : (tasks now whole : List Task) (n left more : ℕ) → left ≡ suc more → tasks ++ entry_tasks_from n left ≡ whole → now ≡ tasks ++ task.Entry n ∷ [] → now ++ entry_tasks_from (n + 1) more ≡ whole
with_first tasks now whole n left more e so_far is =
    ap (λ ts. ts ++ entry_tasks_from (n + 1) more) is ∙ append_assoc tasks (task.Entry n ∷ []) (entry_tasks_from (n + 1) more)
    ∙ ap (λ ts. tasks ++ ts) (sym (first_task n left more e)) ∙ so_far

pub loop-number-preserved : goal.loop-number-preserved
loop-number-preserved c =
    with_first c.loop-number.tasks.items c.push.new.self.items _ c.loop-number.number (c.in_ok-count.count - c.loop-number.number) (c.in_ok-count.count - (c.loop-number.number + 1))
    (omega (arith, c.loop-number-test.true)) c.loop-number.invariant c.in_ok-push.ensures.items
