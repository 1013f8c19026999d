use Rattle.std.proofs.Common.{map, drop}
use Rattle.esb_early.specs.declared.gathered.Names.{Names}
use Rattle.esb_early.specs.Gathered.{Gathers}
use Rattle.esb_early.specs.Parameters.{joined}
use Rattle.esb_early.specs.Rules as spec
use Rattle.esb_early.proofs.gathered.+gather.Given as goal

abbrev pub invariant-gather_links-loop-item : goal.invariant-gather_links-loop-item
invariant-gather_links-loop-item l = (end : Names) → Gathers (joined (map (λ f. f.names) (map spec.facts_of_link (drop l.item-index l.items)))) l.names end → Gathers (joined (map (λ f. f.names) (map spec.facts_of_link l.items))) l.initial.names end

abbrev pub invariant-gather_next_elements-loop-item : goal.invariant-gather_next_elements-loop-item
invariant-gather_next_elements-loop-item l = (end : Names) → Gathers (joined (map (λ f. f.names) (map spec.facts_of_next_element (drop l.item-index l.items)))) l.names end → Gathers (joined (map (λ f. f.names) (map spec.facts_of_next_element l.items))) l.initial.names end
