-- Items of a module (ECMA-262, 15.2), over readers of what stands in them.
use Rattle.std.specs.Prelude.{ℕ, false, List, Option, Some, None}
use Rattle.esb_token.specs.declared.kind.Kind.TheVariants as k
use Rattle.esb_token.specs.declared.token.Token.{Token}
use Rattle.esb_token.specs.declared.goal.Goal.TheVariants as goal
use Rattle.esb_tree.specs.declared.classes.Class.{Class}
use Rattle.esb_tree.specs.declared.expressions.Expression.{Expression}
use Rattle.esb_tree.specs.declared.functions.Function.{Function}
use Rattle.esb_tree.specs.declared.modules.ImportClause.{ImportClause}
use Rattle.esb_tree.specs.declared.modules.ModuleItem.{ModuleItem}
use Rattle.esb_tree.specs.declared.modules.ModuleItem.TheVariants as m
use Rattle.esb_tree.specs.declared.modules.Specifiers.{Specifiers}
use Rattle.esb_tree.specs.declared.statements.Statement.{Statement}
use Rattle.esb_tree.specs.declared.statements.Statement.TheVariants as s
use Rattle.esb_tree.specs.Modules.{tokens_of_item, depth_of_item}
use Rattle.esb_tree.specs.Trees.{written}
use Rattle.esb_grammar.specs.Edges.{is_declaration}
use Rattle.esb_grammar.specs.Semicolons.{lets_end, nothing_goes_on, from_goes_on}
use Rattle.esb_reader.specs.declared.node.Node.{Node}
use Rattle.esb_reader.specs.Places.{Text}
use Rattle.esb_reader.specs.Reader.{Reader}
use Rattle.esb_reader.specs.Parts.{token, token_in, both, made, such, above, optional, many}
use Rattle.esb_reader.specs.Stands.{Syntax}
use Rattle.esb_statement_laws.specs.Endings.{LeftOut, closed}
use Rattle.esb_statement_laws.specs.Marks.{begins_item}
use Rattle.esb_statement_laws.specs.Sequels.{sorted}
use Rattle.esb_statement_laws.specs.Statements.{behind_expression, behind_word}
use Rattle.esb_module_laws.specs.declared.item_sort.ItemSort.{ItemSort}
use Rattle.esb_module_laws.specs.declared.item_sort.ItemSort.TheVariants as o
use Rattle.esb_module_laws.specs.Marks.{is_as, is_from, item_sort_at}
use Rattle.esb_module_laws.specs.Specifiers.{renaming, specifiers, import_clause}

-- What is handed in: readers of what stands in the items of a module.
pub record HandedItems : Type 0 where
  -- a StatementListItem
  pub statement : Reader (Node Statement)
  -- an AssignmentExpression
  pub value : Reader (Node Expression)
  -- functions and classes, of which the name may be absent
  pub function : Reader (Node Function)
  pub class : Reader (Node Class)

abbrev pub module_items : (ModuleItem → Type 0) → Syntax ModuleItem
module_items Good = record { yields = tokens_of_item written; levels_of = depth_of_item; Good = Good }

-- ---- nodes of their parts

abbrev pub make_import_module : (Token × Token) × Option Token → ModuleItem
make_import_module p = m.ImportModule p.0.0 p.0.1 p.1

abbrev pub make_import : (Token × (ImportClause × (Token × Token))) × Option Token → ModuleItem
make_import p = m.Import p.0.0 p.0.1.0 p.0.1.1.0 p.0.1.1.1 p.1

-- with `as` and a name, or without
abbrev pub make_all_as : Token → Token → Option (Token × Token) → Token × Token → Option Token → ModuleItem
make_all_as word star None clause semicolon = m.ExportAll word star clause.0 clause.1 semicolon
make_all_as word star (Some renaming) clause semicolon = m.ExportAllAs word star renaming.0 renaming.1 clause.0 clause.1 semicolon

abbrev pub make_export_all : (Token × (Token × (Option (Token × Token) × (Token × Token)))) × Option Token → ModuleItem
make_export_all p = make_all_as p.0.0 p.0.1.0 p.0.1.1.0 p.0.1.1.1 p.1

-- with `from` and a module, or without
abbrev pub make_names_from : Token → Specifiers → Option (Token × Token) → Option Token → ModuleItem
make_names_from word list None semicolon = m.ExportNames word list semicolon
make_names_from word list (Some clause) semicolon = m.ExportFrom word list clause.0 clause.1 semicolon

abbrev pub make_export_names : (Token × (Specifiers × Option (Token × Token))) × Option Token → ModuleItem
make_export_names p = make_names_from p.0.0 p.0.1.0 p.0.1.1 p.1

abbrev pub make_export_declaration : Token × Statement → ModuleItem
make_export_declaration p = m.ExportDeclaration p.0 p.1

abbrev pub make_default_declaration : Token × (Token × Statement) → ModuleItem
make_default_declaration p = m.ExportDefaultDeclaration p.0 p.1.0 p.1.1

abbrev pub make_default_value : (Token × (Token × Expression)) × Option Token → ModuleItem
make_default_value p = m.ExportDefault p.0.0 p.0.1.0 p.0.1.1 p.1

-- ---- what goes on with what stands before a semicolon

abbrev pub behind_clause : Text → Option (Token × Token) → LeftOut
behind_clause text None = lets_end (from_goes_on text)
behind_clause text (Some clause) = lets_end nothing_goes_on

abbrev pub behind_names : Text → Token × (Specifiers × Option (Token × Token)) → LeftOut
behind_names text p = behind_clause text p.1.1

abbrev pub behind_default : Token × (Token × Expression) → LeftOut
behind_default p = behind_expression p.1.1

-- ---- the readers

-- FromClause (15.2.2): `from` and a string
abbrev pub from_clause : Text → Reader (Node (Token × Token))
from_clause text = both (token_in text goal.Div (is_from text)) (token text k.Text)

module _ (text : Text) (n : ℕ) (r : HandedItems) where
  -- ImportDeclaration (15.2.2)
  unfoldable pub import_module : Reader (Node ModuleItem)
  import_module = above n make_import_module (closed text behind_word (both (token text k.Import) (token text k.Text)))

  unfoldable pub import_from : Reader (Node ModuleItem)
  import_from = above n make_import (closed text behind_word (both (token text k.Import) (both (import_clause text) (from_clause text))))

  -- ExportDeclaration (15.2.3)
  unfoldable pub export_all : Reader (Node ModuleItem)
  export_all = above n make_export_all (closed text behind_word (both (token text k.Export) (both (token text k.Star) (both (optional text (is_as text) (renaming text)) (from_clause text)))))

  unfoldable pub export_names : Reader (Node ModuleItem)
  export_names = above n make_export_names (closed text (behind_names text) (both (token text k.Export) (both (specifiers text false) (optional text (is_from text) (from_clause text)))))

  unfoldable pub export_declaration : Reader (Node ModuleItem)
  export_declaration = above n make_export_declaration (both (token text k.Export) (such r.statement is_declaration))

  abbrev pub default_declaration : Reader (Node Statement) → Reader (Node ModuleItem)
  default_declaration p = above n make_default_declaration (both (token text k.Export) (both (token text k.Default) p))

  unfoldable pub default_function : Reader (Node ModuleItem)
  default_function = default_declaration (above n s.FunctionDeclaration r.function)

  unfoldable pub default_class : Reader (Node ModuleItem)
  default_class = default_declaration (above n s.ClassDeclaration r.class)

  unfoldable pub default_value : Reader (Node ModuleItem)
  default_value = above n make_default_value (closed text behind_default (both (token text k.Export) (both (token text k.Default) r.value)))

  abbrev pub item_of_sort : ItemSort → Reader (Node ModuleItem)
  item_of_sort o.Statement = made m.Item 0 r.statement
  item_of_sort o.ImportModule = import_module
  item_of_sort o.Import = import_from
  item_of_sort o.ExportAll = export_all
  item_of_sort o.ExportNames = export_names
  item_of_sort o.ExportDeclaration = export_declaration
  item_of_sort o.DefaultFunction = default_function
  item_of_sort o.DefaultClass = default_class
  item_of_sort o.DefaultValue = default_value

  -- ModuleItem (15.2)
  unfoldable pub module_item : Reader (Node ModuleItem)
  module_item = sorted (item_sort_at text) item_of_sort

  -- ModuleItemList (15.2)
  unfoldable pub item_list : Reader (Node (List ModuleItem))
  item_list = many text (λ t. begins_item t.kind) module_item
