-- The tokens and the levels of a module (15.2): one line for each kind of item.
use Rattle.std.specs.Prelude.{ℕ, ◌+◌, ◌-◌, [], ◌∷◌, ◌++◌, map}
use Rattle.std.specs.List.{flat_map}
use Rattle.esb_tree.specs.declared.modules.ImportClause.{ImportClause}
use Rattle.esb_tree.specs.declared.modules.ImportClause.TheVariants as c
use Rattle.esb_tree.specs.declared.modules.ModuleItem.{ModuleItem}
use Rattle.esb_tree.specs.declared.modules.ModuleItem.TheVariants as m
use Rattle.esb_tree.specs.declared.modules.NextSpecifier.{NextSpecifier}
use Rattle.esb_tree.specs.declared.modules.Specifier.{Specifier}
use Rattle.esb_tree.specs.declared.modules.Specifier.TheVariants as p
use Rattle.esb_tree.specs.declared.modules.Specifiers.{Specifiers}
use Rattle.esb_tree.specs.declared.modules.Tree.{Tree}
use Rattle.esb_tree.specs.Levels.{most, depth_of_expression, depth_of_statement}
use Rattle.esb_tree.specs.Trees.{written, completed}
use Rattle.esb_tree.specs.Yields.{Tokens, Marking, tokens_of_expression, tokens_of_statement}

abbrev pub tokens_of_specifier : Specifier → Tokens
tokens_of_specifier p.NoSpecifier = []
tokens_of_specifier (p.Same name) = name ∷ []
tokens_of_specifier (p.Renamed name word other) = name ∷ word ∷ other ∷ []

abbrev pub tokens_of_next_specifier : NextSpecifier → Tokens
tokens_of_next_specifier o = o.comma ∷ tokens_of_specifier o.specifier

abbrev pub tokens_of_specifiers : Specifiers → Tokens
tokens_of_specifiers o = o.begin ∷ (tokens_of_specifier o.first ++ (flat_map tokens_of_next_specifier o.rest ++ (o.ending ∷ [])))

abbrev pub tokens_of_import_clause : ImportClause → Tokens
tokens_of_import_clause (c.DefaultBinding name) = name ∷ []
tokens_of_import_clause (c.NameSpace star word name) = star ∷ word ∷ name ∷ []
tokens_of_import_clause (c.Names list) = tokens_of_specifiers list
tokens_of_import_clause (c.DefaultAndNameSpace default comma star word name) = default ∷ comma ∷ star ∷ word ∷ name ∷ []
tokens_of_import_clause (c.DefaultAndNames default comma list) = default ∷ comma ∷ tokens_of_specifiers list

abbrev pub tokens_of_item : Marking → ModuleItem → Tokens
tokens_of_item mark (m.Item x) = tokens_of_statement mark x
tokens_of_item mark (m.ImportModule word text end) = word ∷ text ∷ mark end
tokens_of_item mark (m.Import word clause from text end) = word ∷ (tokens_of_import_clause clause ++ (from ∷ text ∷ mark end))
tokens_of_item mark (m.ExportAll word star from text end) = word ∷ star ∷ from ∷ text ∷ mark end
tokens_of_item mark (m.ExportAllAs word star as_word name from text end) = word ∷ star ∷ as_word ∷ name ∷ from ∷ text ∷ mark end
tokens_of_item mark (m.ExportFrom word list from text end) = word ∷ (tokens_of_specifiers list ++ (from ∷ text ∷ mark end))
tokens_of_item mark (m.ExportNames word list end) = word ∷ (tokens_of_specifiers list ++ mark end)
tokens_of_item mark (m.ExportDeclaration word x) = word ∷ tokens_of_statement mark x
tokens_of_item mark (m.ExportDefaultDeclaration word default x) = word ∷ default ∷ tokens_of_statement mark x
tokens_of_item mark (m.ExportDefault word default x end) = word ∷ default ∷ (tokens_of_expression mark x ++ mark end)

-- the tokens of a tree, with each semicolon that was left out
abbrev pub yield : Tree → Tokens
yield tree = flat_map (tokens_of_item completed) tree.items

-- the tokens that its text spells
abbrev pub written_yield : Tree → Tokens
written_yield tree = flat_map (tokens_of_item written) tree.items

-- how many nodes stand in one another in an item
abbrev pub depth_of_item : ModuleItem → ℕ
depth_of_item (m.Item x) = depth_of_statement x
depth_of_item (m.ExportDeclaration word x) = depth_of_statement x + 1
depth_of_item (m.ExportDefaultDeclaration word default x) = depth_of_statement x + 1
depth_of_item (m.ExportDefault word default x end) = depth_of_expression x + 1
depth_of_item _ = 1

-- The level of a node is the number of nodes above it; that of a tree is the greatest.
abbrev pub levels_of : Tree → ℕ
levels_of tree = most (map depth_of_item tree.items) - 1
