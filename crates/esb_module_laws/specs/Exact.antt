-- What is handed in for module items reads exactly.
use Rattle.std.specs.Prelude.{◌≡◌, ℕ, suc, true, false, Some}
use Rattle.esb_tree.specs.declared.statements.Statement.{Statement}
use Rattle.esb_tree.specs.Trees.{written}
use Rattle.esb_tree.specs.Yields.{tokens_of_statement}
use Rattle.esb_grammar.specs.Contexts.{of_module}
use Rattle.esb_grammar.specs.Grammar.{IsItem, IsAssignment, IsFunction, IsClass}
use Rattle.esb_reader.specs.declared.node.Node.{Node}
use Rattle.esb_reader.specs.Places.{Text}
use Rattle.esb_reader.specs.Stands.{Rule}
use Rattle.esb_statement_laws.specs.Handed.{statements, functions, classes, Begins, ReadsExpressions}
use Rattle.esb_statement_laws.specs.Marks.{begins_statement, statement_stops}
use Rattle.esb_module_laws.specs.declared.item_sort.ItemSort.TheVariants as o
use Rattle.esb_module_laws.specs.Items.{HandedItems}
use Rattle.esb_module_laws.specs.Marks.{item_sort_at}

-- What stands in module items is read exactly, within n levels.
pub record ExactItems (text : Text) (n : ℕ) (r : HandedItems) : Type 0 where
  pub statements_read : Rule text (statements (IsItem text of_module)) n (suc n) statement_stops r.statement
  -- no statement is read where an `import` or an `export` is told
  pub told : (i : ℕ) (x : Node Statement) (j : ℕ) → r.statement i ≡ Some (x, j) → item_sort_at text i ≡ o.Statement
  pub begins : (x : Statement) → IsItem text of_module x → Begins begins_statement (tokens_of_statement written x)
  pub values : ReadsExpressions text (IsAssignment text of_module) n r.value
  pub functions_read : Rule text (functions (IsFunction text false)) n n (λ _ _. true) r.function
  pub classes_read : Rule text (classes (IsClass text false of_module)) n n (λ _ _. true) r.class
