use Rattle.std.proofs.Common.{take}
use Rattle.std.specs.List.{flat_map}
use Rattle.esb_tree.specs.Gathered.{Adds}
use Rattle.esb_tree.specs.Yields as spec
use Rattle.esb_tree.specs.Trees.{completed}
use Rattle.esb_tree.proofs.tokens.+tokens.Given as goal

abbrev pub invariant-put_case_clauses-loop-item : goal.invariant-put_case_clauses-loop-item
invariant-put_case_clauses-loop-item l = Adds (flat_map (spec.tokens_of_case_clause completed) (take l.item-index l.items)) l.initial.out l.out

abbrev pub invariant-put_class_elements-loop-item : goal.invariant-put_class_elements-loop-item
invariant-put_class_elements-loop-item l = Adds (flat_map (spec.tokens_of_class_element completed) (take l.item-index l.items)) l.initial.out l.out

abbrev pub invariant-put_else_ifs-loop-item : goal.invariant-put_else_ifs-loop-item
invariant-put_else_ifs-loop-item l = Adds (flat_map (spec.tokens_of_else_if completed) (take l.item-index l.items)) l.initial.out l.out

abbrev pub invariant-put_links-loop-item : goal.invariant-put_links-loop-item
invariant-put_links-loop-item l = Adds (flat_map (spec.tokens_of_link completed) (take l.item-index l.items)) l.initial.out l.out

abbrev pub invariant-put_next_elements-loop-item : goal.invariant-put_next_elements-loop-item
invariant-put_next_elements-loop-item l = Adds (flat_map (spec.tokens_of_next_element completed) (take l.item-index l.items)) l.initial.out l.out

abbrev pub invariant-put_operands-loop-item : goal.invariant-put_operands-loop-item
invariant-put_operands-loop-item l = Adds (flat_map (spec.tokens_of_operand completed) (take l.item-index l.items)) l.initial.out l.out

abbrev pub invariant-put_statements-loop-item : goal.invariant-put_statements-loop-item
invariant-put_statements-loop-item l = Adds (flat_map (spec.tokens_of_statement completed) (take l.item-index l.items)) l.initial.out l.out

abbrev pub invariant-put_each_substitution-loop-item : goal.invariant-put_each_substitution-loop-item
invariant-put_each_substitution-loop-item l = Adds (flat_map (spec.tokens_of_substitution completed) (take l.item-index l.items)) l.initial.out l.out
