-- What an `import` binds and an `export` names (ECMA-262, 15.2.2 and 15.2.3). Whether it is an import says the flag.
use Rattle.std.specs.Prelude.{Bool, true, false, ◌&&◌, List, [], ◌∷◌, Option, Some, None}
use Rattle.esb_token.specs.declared.kind.Kind.TheVariants as k
use Rattle.esb_token.specs.declared.token.Token.{Token}
use Rattle.esb_token.specs.declared.goal.Goal.TheVariants as goal
use Rattle.esb_tree.specs.declared.modules.ImportClause.{ImportClause}
use Rattle.esb_tree.specs.declared.modules.ImportClause.TheVariants as i
use Rattle.esb_tree.specs.declared.modules.NextSpecifier.{NextSpecifier}
use Rattle.esb_tree.specs.declared.modules.Specifier.{Specifier}
use Rattle.esb_tree.specs.declared.modules.Specifier.TheVariants as p
use Rattle.esb_tree.specs.declared.modules.Specifiers.{Specifiers}
use Rattle.esb_tree.specs.Modules.{tokens_of_specifiers, tokens_of_import_clause}
use Rattle.esb_tree.specs.Yields.{Tokens}
use Rattle.esb_grammar.specs.Kinds.{is_binding, is_identifier_name, is_comma, is_star}
use Rattle.esb_reader.specs.declared.node.Node.{Node}
use Rattle.esb_reader.specs.Places.{Text}
use Rattle.esb_reader.specs.Reader.{Reader}
use Rattle.esb_reader.specs.Parts.{token, token_in, both, made, such, choice, empty, optional, many}
use Rattle.esb_reader.specs.Stands.{Syntax}
use Rattle.esb_module_laws.specs.declared.imported.Imported.{Imported}
use Rattle.esb_module_laws.specs.declared.imported.Imported.TheVariants as b
use Rattle.esb_module_laws.specs.Marks.{is_as, is_given}

-- ---- the kinds of node; none holds another one

abbrev pub specifier_lists : (Specifiers → Type 0) → Syntax Specifiers
specifier_lists Good = record { yields = tokens_of_specifiers; levels_of = λ x. 0; Good = Good }

abbrev pub tokens_of_imported : Imported → Tokens
tokens_of_imported (b.NameSpace star word name) = star ∷ word ∷ name ∷ []
tokens_of_imported (b.Names list) = tokens_of_specifiers list

abbrev pub imports : (Imported → Type 0) → Syntax Imported
imports Good = record { yields = tokens_of_imported; levels_of = λ x. 0; Good = Good }

abbrev pub clauses : (ImportClause → Type 0) → Syntax ImportClause
clauses Good = record { yields = tokens_of_import_clause; levels_of = λ x. 0; Good = Good }

-- ---- nodes of their parts

abbrev pub make_specifier : Token × Option (Token × Token) → Specifier
make_specifier (name, None) = p.Same name
make_specifier (name, Some renaming) = p.Renamed name renaming.0 renaming.1

abbrev pub make_next : Token × Specifier → NextSpecifier
make_next o = record { comma = o.0; specifier = o.1 }

abbrev pub make_specifiers : Token × (Specifier × (List NextSpecifier × Token)) → Specifiers
make_specifiers o = record { begin = o.0; first = o.1.0; rest = o.1.1.0; ending = o.1.1.1 }

abbrev pub make_name_space : Token × (Token × Token) → Imported
make_name_space o = b.NameSpace o.0 o.1.0 o.1.1

abbrev pub make_alone : Imported → ImportClause
make_alone (b.NameSpace star word name) = i.NameSpace star word name
make_alone (b.Names list) = i.Names list

abbrev pub make_behind : Token → Token → Imported → ImportClause
make_behind name comma (b.NameSpace star word other) = i.DefaultAndNameSpace name comma star word other
make_behind name comma (b.Names list) = i.DefaultAndNames name comma list

abbrev pub make_default : Token × Option (Token × Imported) → ImportClause
make_default (name, None) = i.DefaultBinding name
make_default (name, Some more) = make_behind name more.0 more.1

-- ---- tests of nodes

-- a name that may be given
abbrev pub is_allowed : Bool → Specifier → Bool
is_allowed is_import p.NoSpecifier = true
is_allowed is_import (p.Same name) = is_given is_import name.kind
is_allowed is_import (p.Renamed name word other) = is_given is_import other.kind

abbrev pub is_something : Specifier → Bool
is_something p.NoSpecifier = false
is_something _ = true

-- Nothing stands in the last place alone. The flag says of the specifier before these whether it is something.
abbrev pub are_filled : Bool → List NextSpecifier → Bool
are_filled filled [] = true
are_filled filled (o ∷ os) = filled && are_filled (is_something o.specifier) os

abbrev pub is_filled : Specifiers → Bool
is_filled list = are_filled (is_something list.first) list.rest

-- ---- the readers

-- `as` and a name
abbrev pub renaming : Text → Reader (Node (Token × Token))
renaming text = both (token_in text goal.Div (is_as text)) (token_in text goal.Div (λ t. is_identifier_name t.kind))

module _ (text : Text) (is_import : Bool) where
  -- ImportSpecifier (15.2.2) and ExportSpecifier (15.2.3)
  unfoldable pub specifier : Reader (Node Specifier)
  specifier = such (made make_specifier 0 (both (token_in text goal.Div (λ t. is_identifier_name t.kind)) (optional text (is_as text) (renaming text)))) (is_allowed is_import)

  -- one, or nothing
  unfoldable pub maybe_specifier : Reader (Node Specifier)
  maybe_specifier = choice text (λ t. is_identifier_name t.kind) specifier (empty p.NoSpecifier)

  unfoldable pub next_specifier : Reader (Node NextSpecifier)
  next_specifier = made make_next 0 (both (token text k.Comma) maybe_specifier)

  abbrev pub loose_list : Reader (Node Specifiers)
  loose_list = made make_specifiers 0 (both (token text k.LeftBrace) (both maybe_specifier (both (many text (λ t. is_comma t.kind) next_specifier) (token text k.RightBrace))))

  -- NamedImports (15.2.2) and NamedExports (15.2.3)
  unfoldable pub specifiers : Reader (Node Specifiers)
  specifiers = such loose_list is_filled

module _ (text : Text) where
  abbrev pub name_space : Reader (Node (Token × (Token × Token)))
  name_space = both (token text k.Star) (both (token_in text goal.Div (is_as text)) (token_in text goal.Div (λ t. is_binding t.kind)))

  -- NameSpaceImport and NamedImports (15.2.2)
  unfoldable pub imported : Reader (Node Imported)
  imported = choice text (λ t. is_star t.kind) (made make_name_space 0 name_space) (made b.Names 0 (specifiers text true))

  abbrev pub defaulted : Reader (Node (Token × Option (Token × Imported)))
  defaulted = both (token_in text goal.Div (λ t. is_binding t.kind)) (optional text (λ t. is_comma t.kind) (both (token text k.Comma) imported))

  -- ImportClause (15.2.2)
  unfoldable pub import_clause : Reader (Node ImportClause)
  import_clause = choice text (λ t. is_binding t.kind) (made make_default 0 defaulted) (made make_alone 0 imported)
