-- Module items are read exactly.
use Rattle.std.specs.Prelude.{◌≡◌, ◌↔◌, ℕ, suc, ◌<◌, ◌≤◌, Bool, true, not, Some, None}
use Rattle.esb_tree.specs.declared.modules.Tree.{Tree}
use Rattle.esb_tree.specs.Modules.{levels_of}
use Rattle.esb_grammar.specs.declared.context.Context.{Context}
use Rattle.esb_grammar.specs.Kinds.{is_comma}
use Rattle.esb_grammar.specs.Modules.{AreSpecifiers, IsImportClause, IsModuleItem, IsTreeOf}
use Rattle.esb_reader.specs.Places.{Text}
use Rattle.esb_reader.specs.Stands.{Rule}
use Rattle.esb_statement_laws.specs.Exact.{ExactParts}
use Rattle.esb_statement_laws.specs.Handed.{Handed}
use Rattle.esb_statement_laws.specs.Within.{handed, ItemsExact}
use Rattle.esb_module_laws.specs.Exact.{ExactItems}
use Rattle.esb_module_laws.specs.Items.{HandedItems, module_items, module_item}
use Rattle.esb_module_laws.specs.Marks.{follows_item}
use Rattle.esb_module_laws.specs.Module.{Nameless, ExactNameless, module_tree}
use Rattle.esb_module_laws.specs.Specifiers.{specifier_lists, clauses, specifiers, import_clause}

-- Specifiers in braces stop before each token.
abbrev pub SpecifiersRule : Type 0
SpecifiersRule = (text : Text) (is_import : Bool) (n top : ℕ) → Rule text (specifier_lists (AreSpecifiers text is_import)) n top (λ _ _. true) (specifiers text is_import)

-- An ImportClause stops before each token but a comma.
abbrev pub ClauseRule : Type 0
ClauseRule = (text : Text) (n top : ℕ) → Rule text (clauses (IsImportClause text)) n top (λ _ t. not (is_comma t.kind)) (import_clause text)

-- Where what stands in it is read exactly, so is each ModuleItem. It stops before each token that may follow one.
abbrev pub ItemRule : Type 0
ItemRule = (text : Text) (n : ℕ) (r : HandedItems) → ExactItems text n r → Rule text (module_items (IsModuleItem text)) n (suc n) (λ _ t. follows_item t.kind) (module_item text n r)

-- What is read of a text is its tree.
pub record ReadsModule (text : Text) (parts : ℕ → Handed) (nameless : ℕ → Nameless) (n : ℕ) : Type 0 where
  pub exact : (tree : Tree) → (module_tree text parts nameless n ≡ Some tree) ↔ (IsTreeOf text tree × (levels_of tree ≤ n))
  -- nothing is read where there is none
  pub none : (module_tree text parts nameless n ≡ None) ↔ ((tree : Tree) → IsTreeOf text tree → ¬ (levels_of tree ≤ n))

-- Where lists of statements that are read exactly within all lower levels make what stands in statements and in items be read so within each
-- level, the tree of each text is read within each level, and no text has two.
abbrev pub ModuleRule : Type 0
ModuleRule =
    (text : Text) (parts : ℕ → Handed) (nameless : ℕ → Nameless) → ((n : ℕ) → ((m : ℕ) → m < n → ItemsExact text parts m) → (c : Context) → ExactParts text c n (handed text parts n))
    → ((n : ℕ) → ((m : ℕ) → m < n → ItemsExact text parts m) → ExactNameless text n (parts n) (nameless n))
    → ((n : ℕ) → ReadsModule text parts nameless n) × ((tree other : Tree) → IsTreeOf text tree → IsTreeOf text other → tree ≡ other)
