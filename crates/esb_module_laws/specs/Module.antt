-- A module (ECMA-262, 15.2): its items, up to the end of the text.
use Rattle.std.specs.Prelude.{ℕ, suc, true, false, List, Option, Some, None}
use Rattle.esb_token.specs.declared.kind.Kind.TheVariants as k
use Rattle.esb_tree.specs.declared.classes.Class.{Class}
use Rattle.esb_tree.specs.declared.functions.Function.{Function}
use Rattle.esb_tree.specs.declared.modules.ModuleItem.{ModuleItem}
use Rattle.esb_tree.specs.declared.modules.Tree.{Tree}
use Rattle.esb_grammar.specs.Contexts.{of_module}
use Rattle.esb_grammar.specs.Grammar.{IsAssignment, IsFunction, IsClass}
use Rattle.esb_reader.specs.declared.node.Node.{Node}
use Rattle.esb_reader.specs.Places.{Text}
use Rattle.esb_reader.specs.Reader.{Found, Reader, and_then, expect}
use Rattle.esb_reader.specs.Stands.{Rule}
use Rattle.esb_statement_laws.specs.Handed.{Handed, functions, classes, ReadsExpressions}
use Rattle.esb_statement_laws.specs.Items.{statement}
use Rattle.esb_statement_laws.specs.Within.{handed}
use Rattle.esb_module_laws.specs.Items.{HandedItems, item_list}

-- readers of functions and classes whose names may be absent
pub record Nameless : Type 0 where
  pub function : Reader (Node Function)
  pub class : Reader (Node Class)

-- What is handed in within n levels, where `parts` has the readers of what stands in statements.
abbrev pub handed_items : Text → (ℕ → Handed) → (ℕ → Nameless) → ℕ → HandedItems
handed_items text parts nameless n = record {
  statement = statement text of_module n (handed text parts n) true;
  value = (parts n).expression false of_module;
  function = (nameless n).function;
  class = (nameless n).class;
}

-- ---- what it owes

-- AssignmentExpressions, and functions and classes whose names may be absent, are read exactly.
pub record ExactNameless (text : Text) (n : ℕ) (r : Handed) (nameless : Nameless) : Type 0 where
  pub values : ReadsExpressions text (IsAssignment text of_module) n (r.expression false of_module)
  pub functions_read : Rule text (functions (IsFunction text false)) n n (λ _ _. true) nameless.function
  pub classes_read : Rule text (classes (IsClass text false of_module)) n n (λ _ _. true) nameless.class

-- ---- the readers

-- items, behind which nothing but the end of the text stands
unfoldable pub items_to_end : Text → ℕ → HandedItems → Reader (Node (List ModuleItem))
items_to_end text n r = λ i. and_then (item_list text n r i) (λ xs j. and_then (expect text k.End j) (λ t m. Some (xs, m)))

abbrev pub tree_of : Found (Node (List ModuleItem)) → Option Tree
tree_of None = None
tree_of (Some p) = Some (record { items = p.0.tree })

-- The tree of a text, if it has one within n levels. An item may have one level more than the tree.
unfoldable pub module_tree : Text → (ℕ → Handed) → (ℕ → Nameless) → ℕ → Option Tree
module_tree text parts nameless n = tree_of (items_to_end text (suc n) (handed_items text parts nameless (suc n)) 0)
