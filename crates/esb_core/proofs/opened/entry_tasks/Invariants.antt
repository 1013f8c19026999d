use Rattle.std.proofs.Common.{◌≡◌, ◌-◌, ◌++◌}
use Rattle.esb_core.specs.Steps.{entry_tasks, entry_tasks_from}
use Rattle.esb_core.proofs.opened.entry_tasks.Given as goal

abbrev pub invariant-loop-number : goal.invariant-loop-number
invariant-loop-number l = l.tasks.items ++ entry_tasks_from l.number (l.count - l.number) ≡ entry_tasks l.count
