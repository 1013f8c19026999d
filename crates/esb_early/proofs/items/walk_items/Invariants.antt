use Rattle.std.proofs.Common.{drop}
use Rattle.esb_early_checks.specs.declared.found.Found.{Found}
use Rattle.esb_early_checks.specs.Findings.{Finds}
use Rattle.esb_early.specs.Items as spec
use Rattle.esb_early.proofs.items.walk_items.Given as goal

abbrev pub invariant-loop-item : goal.invariant-loop-item
invariant-loop-item l = (end : Found) → Finds (spec.breaches_of_items l.text (drop l.item-index l.items)) l.out end → Finds (spec.breaches_of_items l.text l.items) l.initial.out end
