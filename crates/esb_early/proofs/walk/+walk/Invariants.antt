use Rattle.std.proofs.Common.{◌≡◌, ◌&&◌, fold, length, map, drop}
use Rattle.esb_early_checks.specs.declared.found.Found.{Found}
use Rattle.esb_early_checks.specs.Findings.{Finds, each}
use Rattle.esb_early.specs.Rules as spec
use Rattle.esb_early_checks.specs.Shapes.{links_shape, after_link}
use Rattle.esb_early.proofs.walk.+walk.Given as goal

abbrev pub invariant-walk_case_clauses-loop-item : goal.invariant-walk_case_clauses-loop-item
invariant-walk_case_clauses-loop-item l = (end : Found) → Finds (each l.text l.setting (map spec.breaches_of_case_clause (drop l.item-index l.items))) l.out end → Finds (each l.text l.setting (map spec.breaches_of_case_clause l.items)) l.initial.out end

abbrev pub invariant-walk_each_substitution-loop-item : goal.invariant-walk_each_substitution-loop-item
invariant-walk_each_substitution-loop-item l = (end : Found) → Finds (each l.text l.setting (map spec.breaches_of_substitution (drop l.item-index l.items))) l.out end → Finds (each l.text l.setting (map spec.breaches_of_substitution l.items)) l.initial.out end

abbrev pub invariant-walk_else_ifs-loop-item : goal.invariant-walk_else_ifs-loop-item
invariant-walk_else_ifs-loop-item l = (end : Found) → Finds (each l.text l.setting (map spec.breaches_of_else_if (drop l.item-index l.items))) l.out end → Finds (each l.text l.setting (map spec.breaches_of_else_if l.items)) l.initial.out end

abbrev pub invariant-walk_operands-loop-item : goal.invariant-walk_operands-loop-item
invariant-walk_operands-loop-item l = (end : Found) → Finds (each l.text l.setting (map spec.breaches_of_operand (drop l.item-index l.items))) l.out end → Finds (each l.text l.setting (map spec.breaches_of_operand l.items)) l.initial.out end

abbrev pub invariant-walk_statements-loop-item : goal.invariant-walk_statements-loop-item
invariant-walk_statements-loop-item l = (end : Found) → Finds (each l.text l.setting (map (λ f. f.breaches) (map spec.facts_of_statement (drop l.item-index l.items)))) l.out end → Finds (each l.text l.setting (map (λ f. f.breaches) (map spec.facts_of_statement l.items))) l.initial.out end

abbrev pub invariant-walk_next_elements-loop-item : goal.invariant-walk_next_elements-loop-item
invariant-walk_next_elements-loop-item l =
    (l.left ≡ length (drop l.item-index l.items))
    × (l.are_plain && spec.are_plain (map spec.facts_of_next_element (drop l.item-index l.items)) ≡ spec.are_plain (map spec.facts_of_next_element l.items))
    × ((end : Found) → Finds (spec.nexts_breaches l.text l.setting l.role l.begin l.has_one (map spec.facts_of_next_element (drop l.item-index l.items))) l.out end → Finds (spec.nexts_breaches l.text l.setting l.role l.begin l.has_proto (map spec.facts_of_next_element l.items)) l.initial.out end)

abbrev pub invariant-walk_links-loop-item : goal.invariant-walk_links-loop-item
invariant-walk_links-loop-item l =
    (fold after_link l.links (map (λ f. f.shape) (map spec.facts_of_link (drop l.item-index l.items))) ≡ links_shape (map (λ f. f.shape) (map spec.facts_of_link l.items)))
    × ((end : Found) → Finds (spec.links_breaches l.text l.setting l.role (map spec.facts_of_link (drop l.item-index l.items))) l.out end → Finds (spec.links_breaches l.text l.setting l.role (map spec.facts_of_link l.items)) l.initial.out end)

abbrev pub invariant-walk_class_elements-loop-item : goal.invariant-walk_class_elements-loop-item
invariant-walk_class_elements-loop-item l = (end : Found) → Finds (spec.class_elements_breaches l.text l.setting l.is_derived l.has_one (map spec.facts_of_class_element (drop l.item-index l.items))) l.out end → Finds (spec.class_elements_breaches l.text l.setting l.is_derived l.has_constructor (map spec.facts_of_class_element l.items)) l.initial.out end
