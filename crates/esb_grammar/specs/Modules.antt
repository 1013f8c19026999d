-- Which modules are well formed (ECMA-262, 15.2).
use Rattle.std.specs.Prelude.{◌≡◌, ℕ, Bool, true, false, List, [], ◌∷◌, Option, codes}
use Rattle.esb_token.specs.declared.kind.Kind.TheVariants as k
use Rattle.esb_token.specs.declared.token.Token.{Token}
use Rattle.esb_token.specs.Tokens.{Spelled}
use Rattle.esb_tree.specs.declared.classes.Class.{Class}
use Rattle.esb_tree.specs.declared.expressions.Expression.{Expression}
use Rattle.esb_tree.specs.declared.functions.Function.{Function}
use Rattle.esb_tree.specs.declared.modules.ImportClause.{ImportClause}
use Rattle.esb_tree.specs.declared.modules.ImportClause.TheVariants as i
use Rattle.esb_tree.specs.declared.modules.ModuleItem.{ModuleItem}
use Rattle.esb_tree.specs.declared.modules.ModuleItem.TheVariants as m
use Rattle.esb_tree.specs.declared.modules.NextSpecifier.{NextSpecifier}
use Rattle.esb_tree.specs.declared.modules.Specifier.{Specifier}
use Rattle.esb_tree.specs.declared.modules.Specifier.TheVariants as p
use Rattle.esb_tree.specs.declared.modules.Specifiers.{Specifiers}
use Rattle.esb_tree.specs.declared.modules.Tree.{Tree}
use Rattle.esb_tree.specs.declared.statements.Statement.{Statement}
use Rattle.esb_tree.specs.declared.statements.Statement.TheVariants as s
use Rattle.esb_tree.specs.Modules.{tokens_of_specifiers, written_yield}
use Rattle.esb_tree.specs.Trees.{written}
use Rattle.esb_tree.specs.Yields.{tokens_of_expression}
use Rattle.esb_grammar.specs.Contexts.{of_module}
use Rattle.esb_grammar.specs.Edges.{is_declaration}
use Rattle.esb_grammar.specs.Forms.{is_empty}
use Rattle.esb_grammar.specs.Grammar.{IsItem, IsAssignment, IsFunction, IsClass}
use Rattle.esb_grammar.specs.Kinds.{is_binding, is_identifier_name}
use Rattle.esb_grammar.specs.Semicolons.{Ends, expression_goes_on, nothing_goes_on, from_goes_on}
use Rattle.esb_grammar.specs.Words.{is_word, begins_declaration}

-- FromClause (15.2.2): `from` and a string
abbrev pub IsFrom : List ℕ → Token → Token → Type 0
IsFrom text word source = (is_word text (codes "from") word ≡ true) × (source.kind ≡ k.Text)

-- `as`
abbrev pub IsAs : List ℕ → Token → Type 0
IsAs text word = is_word text (codes "as") word ≡ true

-- ImportSpecifier and ExportSpecifier; the first flag says which, the second that no comma is behind it
pub data IsSpecifier (text : List ℕ) : Bool → Bool → Specifier → Type 0 where
  -- nothing stands in the last place alone
  no_specifier : {is_import : Bool} → IsSpecifier text is_import true p.NoSpecifier
  import_name : {last : Bool} {name : Token} → is_binding name.kind ≡ true → IsSpecifier text true last (p.Same name)
  import_renamed : {last : Bool} {name word other : Token} → is_identifier_name name.kind ≡ true → IsAs text word → is_binding other.kind ≡ true → IsSpecifier text true last (p.Renamed name word other)
  export_name : {last : Bool} {name : Token} → is_identifier_name name.kind ≡ true → IsSpecifier text false last (p.Same name)
  export_renamed : {last : Bool} {name word other : Token} → is_identifier_name name.kind ≡ true → IsAs text word → is_identifier_name other.kind ≡ true → IsSpecifier text false last (p.Renamed name word other)

pub data AreNextSpecifiers (text : List ℕ) : Bool → List NextSpecifier → Type 0 where
  no_specifiers : {is_import : Bool} → AreNextSpecifiers text is_import []
  more_specifiers : {is_import : Bool} {first : NextSpecifier} {rest : List NextSpecifier} → first.comma.kind ≡ k.Comma → IsSpecifier text is_import (is_empty rest) first.specifier → AreNextSpecifiers text is_import rest → AreNextSpecifiers text is_import (first ∷ rest)

-- NamedImports (15.2.2) and NamedExports (15.2.3)
pub record AreSpecifiers (text : List ℕ) (is_import : Bool) (list : Specifiers) : Type 0 where
  pub begin : list.begin.kind ≡ k.LeftBrace
  pub first : IsSpecifier text is_import (is_empty list.rest) list.first
  pub rest : AreNextSpecifiers text is_import list.rest
  pub ending : list.ending.kind ≡ k.RightBrace

-- ImportClause (15.2.2)
pub data IsImportClause (text : List ℕ) : ImportClause → Type 0 where
  default_binding : {name : Token} → is_binding name.kind ≡ true → IsImportClause text (i.DefaultBinding name)
  name_space : {star word name : Token} → star.kind ≡ k.Star → IsAs text word → is_binding name.kind ≡ true → IsImportClause text (i.NameSpace star word name)
  names : {list : Specifiers} → AreSpecifiers text true list → IsImportClause text (i.Names list)
  default_and_name_space : {default comma star word name : Token} → is_binding default.kind ≡ true → comma.kind ≡ k.Comma → star.kind ≡ k.Star → IsAs text word → is_binding name.kind ≡ true → IsImportClause text (i.DefaultAndNameSpace default comma star word name)
  default_and_names : {default comma : Token} {list : Specifiers} → is_binding default.kind ≡ true → comma.kind ≡ k.Comma → AreSpecifiers text true list → IsImportClause text (i.DefaultAndNames default comma list)

-- ModuleItem (15.2)
pub data IsModuleItem (text : List ℕ) : ModuleItem → Type 0 where
  item : {x : Statement} → IsItem text of_module x → IsModuleItem text (m.Item x)
  -- ImportDeclaration (15.2.2)
  import_module : {word source : Token} {semicolon : Option Token} → word.kind ≡ k.Import → source.kind ≡ k.Text → Ends text nothing_goes_on (source ∷ []) semicolon → IsModuleItem text (m.ImportModule word source semicolon)
  import_from : {word : Token} {clause : ImportClause} {from source : Token} {semicolon : Option Token} → word.kind ≡ k.Import → IsImportClause text clause → IsFrom text from source → Ends text nothing_goes_on (source ∷ []) semicolon → IsModuleItem text (m.Import word clause from source semicolon)
  -- ExportDeclaration (15.2.3)
  export_all : {word star from source : Token} {semicolon : Option Token} → word.kind ≡ k.Export → star.kind ≡ k.Star → IsFrom text from source → Ends text nothing_goes_on (source ∷ []) semicolon → IsModuleItem text (m.ExportAll word star from source semicolon)
  export_all_as : {word star as_word name from source : Token} {semicolon : Option Token} → word.kind ≡ k.Export → star.kind ≡ k.Star → IsAs text as_word → is_identifier_name name.kind ≡ true → IsFrom text from source → Ends text nothing_goes_on (source ∷ []) semicolon → IsModuleItem text (m.ExportAllAs word star as_word name from source semicolon)
  export_from : {word : Token} {list : Specifiers} {from source : Token} {semicolon : Option Token} → word.kind ≡ k.Export → AreSpecifiers text false list → IsFrom text from source → Ends text nothing_goes_on (source ∷ []) semicolon → IsModuleItem text (m.ExportFrom word list from source semicolon)
  export_names : {word : Token} {list : Specifiers} {semicolon : Option Token} → word.kind ≡ k.Export → AreSpecifiers text false list → Ends text (from_goes_on text) (tokens_of_specifiers list) semicolon → IsModuleItem text (m.ExportNames word list semicolon)
  export_declaration : {word : Token} {x : Statement} → word.kind ≡ k.Export → is_declaration x ≡ true → IsItem text of_module x → IsModuleItem text (m.ExportDeclaration word x)
  export_default_function : {word default : Token} {function : Function} → word.kind ≡ k.Export → default.kind ≡ k.Default → IsFunction text false function → IsModuleItem text (m.ExportDefaultDeclaration word default (s.FunctionDeclaration function))
  export_default_class : {word default : Token} {class : Class} → word.kind ≡ k.Export → default.kind ≡ k.Default → IsClass text false of_module class → IsModuleItem text (m.ExportDefaultDeclaration word default (s.ClassDeclaration class))
  export_default : {word default : Token} {x : Expression} {semicolon : Option Token} → word.kind ≡ k.Export → default.kind ≡ k.Default → begins_declaration text (tokens_of_expression written x) ≡ false → IsAssignment text of_module x → Ends text (expression_goes_on x) (tokens_of_expression written x) semicolon → IsModuleItem text (m.ExportDefault word default x semicolon)

-- ModuleItemList (15.2)
pub data AreModuleItems (text : List ℕ) : List ModuleItem → Type 0 where
  no_module_items : AreModuleItems text []
  more_module_items : {first : ModuleItem} {rest : List ModuleItem} → IsModuleItem text first → AreModuleItems text rest → AreModuleItems text (first ∷ rest)

-- a module that follows the grammar
abbrev pub WellFormed : List ℕ → Tree → Type 0
WellFormed text tree = AreModuleItems text tree.items

-- the tree of a text: well formed, and the text spells its tokens
abbrev pub IsTreeOf : List ℕ → Tree → Type 0
IsTreeOf text tree = WellFormed text tree × Spelled text (written_yield tree)
