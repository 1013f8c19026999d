use Rattle.std.proofs.Common.{◌≡◌, ℕ, List, sym, ap, ◌∙◌, arith}
use Rattle.esb_ask.specs.declared.task.Task.{Task}
use Rattle.esb_core.specs.Sizes.{files}
use Rattle.esb_core.proofs.Adding.{entries-files}
use Rattle.esb_core.proofs.opened.Opened.of_entries.Goals as goal

pub invariant_of-result : goal.invariant_of-result
invariant_of-result c =
    let none : files c.in_ok-entry_tasks.field-0.items ≡ 0 = ap (λ (ts : List Task). files ts) c.in_ok-entry_tasks.ensures ∙ entries-files 0 c.args.entries in
    (sym none, omega (arith, none))
