-- The tokens of a text's tree may be printed.
use Rattle.std.proofs.Common.{ℕ, Bool, true, false, List, [], ◌∷◌, map, codes, refl}
use Rattle.std.specs.List.{flat_map}
use Rattle.esb_token.specs.declared.token.Token.{Token}
use Rattle.esb_token.specs.Tokens.{SpelledBetween}
use Rattle.esb_tree.specs.declared.modules.ImportClause.{ImportClause}
use Rattle.esb_tree.specs.declared.modules.ModuleItem.{ModuleItem}
use Rattle.esb_tree.specs.declared.modules.NextSpecifier.{NextSpecifier}
use Rattle.esb_tree.specs.declared.modules.Specifier.{Specifier}
use Rattle.esb_tree.specs.declared.modules.Specifiers.{Specifiers}
use Rattle.esb_tree.specs.Modules.{tokens_of_specifier, tokens_of_next_specifier, tokens_of_specifiers, tokens_of_import_clause, tokens_of_item}
use Rattle.esb_tree.specs.Trees.{written, completed}
use Rattle.esb_tree.specs.Yields.{Tokens, tokens_of_expression}
use Rattle.esb_tree.proofs.TokenLines.{tokens_FunctionDeclaration, tokens_ClassDeclaration}
use Rattle.esb_grammar.specs.Modules.{IsFrom, IsSpecifier, AreNextSpecifiers, AreSpecifiers, IsImportClause, IsModuleItem, AreModuleItems}
use Rattle.esb_grammar.specs.Semicolons.{expression_goes_on, nothing_goes_on, from_goes_on}
use Rattle.esb_print.specs.Again.{ArePrintable}
use Rattle.esb_print.proofs.Rereading.{printed-is_read}
use Rattle.esb_print_tree.specs.Laws.{TreesArePrintable, PrintedTreesAreRead}
use Rattle.esb_print_tree.proofs.Joints.{AllStand, Piece, also, nothing, one, put_then, is, end_put, stand_left, stand_right}
use Rattle.esb_print_tree.proofs.Classes.{of_kind, binding-closed, identifier-closed, word-closed}
use Rattle.esb_print_tree.proofs.Nodes.{item-piece, assignment-led, function-led, class-led}

-- ---- specifiers

specifier-piece : (text : List ℕ) {is_import last : Bool} {x : Specifier} → IsSpecifier text is_import last x → Piece text (tokens_of_specifier x) (tokens_of_specifier x)
specifier-piece text IsSpecifier.no_specifier = nothing
specifier-piece text (IsSpecifier.import_name {name = name} h) = (one name (binding-closed name.kind h)).piece
specifier-piece text (IsSpecifier.import_renamed {name = name} {word = word} {other = other} h1 h2 h3) = put_then name (identifier-closed name.kind h1) (put_then word (word-closed text (codes "as") word h2) (one other (binding-closed other.kind h3)).piece)
specifier-piece text (IsSpecifier.export_name {name = name} h) = (one name (identifier-closed name.kind h)).piece
specifier-piece text (IsSpecifier.export_renamed {name = name} {word = word} {other = other} h1 h2 h3) = put_then name (identifier-closed name.kind h1) (put_then word (word-closed text (codes "as") word h2) (one other (identifier-closed other.kind h3)).piece)

next_specifiers-piece : (text : List ℕ) {is_import : Bool} {xs : List NextSpecifier} → AreNextSpecifiers text is_import xs → Piece text (flat_map tokens_of_next_specifier xs) (flat_map tokens_of_next_specifier xs)
next_specifiers-piece text AreNextSpecifiers.no_specifiers = nothing
next_specifiers-piece text (AreNextSpecifiers.more_specifiers {first = first} h1 h2 h3) = also (put_then first.comma (of_kind first.comma h1 refl) (specifier-piece text h2)) (next_specifiers-piece text h3)

specifiers-piece : (text : List ℕ) (is_import : Bool) (list : Specifiers) → AreSpecifiers text is_import list → Piece text (tokens_of_specifiers list) (tokens_of_specifiers list)
specifiers-piece text is_import list h =
    put_then list.begin (of_kind list.begin h.begin refl) (also (specifier-piece text h.first) (also (next_specifiers-piece text h.rest) (one list.ending (of_kind list.ending h.ending refl)).piece))

import_clause-piece : (text : List ℕ) {x : ImportClause} → IsImportClause text x → Piece text (tokens_of_import_clause x) (tokens_of_import_clause x)
import_clause-piece text (IsImportClause.default_binding {name = name} h) = (one name (binding-closed name.kind h)).piece
import_clause-piece text (IsImportClause.name_space {star = star} {word = word} {name = name} h1 h2 h3) = put_then star (of_kind star h1 refl) (put_then word (word-closed text (codes "as") word h2) (one name (binding-closed name.kind h3)).piece)
import_clause-piece text (IsImportClause.names {list = list} h) = specifiers-piece text true list h
import_clause-piece text (IsImportClause.default_and_name_space {default = default} {comma = comma} {star = star} {word = word} {name = name} h1 h2 h3 h4 h5) =
    put_then default (binding-closed default.kind h1) (put_then comma (of_kind comma h2 refl) (put_then star (of_kind star h3 refl) (put_then word (word-closed text (codes "as") word h4) (one name (binding-closed name.kind h5)).piece)))
import_clause-piece text (IsImportClause.default_and_names {default = default} {comma = comma} {list = list} h1 h2 h3) = put_then default (binding-closed default.kind h1) (put_then comma (of_kind comma h2 refl) (specifiers-piece text true list h3))

-- `from`, a string, and the end of the statement
from_put : {text : List ℕ} {W C : Tokens} (word source : Token) → IsFrom text word source → Piece text W C → Piece text (word ∷ source ∷ W) (word ∷ source ∷ C)
from_put {text} word source h p = put_then word (word-closed text (codes "from") word h.0) (put_then source (of_kind source h.1 refl) p)

-- ---- items

module_item-piece : (text : List ℕ) {x : ModuleItem} → IsModuleItem text x → Piece text (tokens_of_item written x) (tokens_of_item completed x)
module_item-piece text (IsModuleItem.item h) = item-piece text h
module_item-piece text (IsModuleItem.import_module {word = word} {source = source} {semicolon = semicolon} h1 h2 h3) = put_then word (of_kind word h1 refl) (put_then source (of_kind source h2 refl) (end_put nothing_goes_on (source ∷ []) semicolon h3))
module_item-piece text (IsModuleItem.import_from {word = word} {clause = clause} {from = from} {source = source} {semicolon = semicolon} h1 h2 h3 h4) =
    put_then word (of_kind word h1 refl) (also (import_clause-piece text h2) (from_put from source h3 (end_put nothing_goes_on (source ∷ []) semicolon h4)))
module_item-piece text (IsModuleItem.export_all {word = word} {star = star} {from = from} {source = source} {semicolon = semicolon} h1 h2 h3 h4) =
    put_then word (of_kind word h1 refl) (put_then star (of_kind star h2 refl) (from_put from source h3 (end_put nothing_goes_on (source ∷ []) semicolon h4)))
module_item-piece text (IsModuleItem.export_all_as {word = word} {star = star} {as_word = as_word} {name = name} {from = from} {source = source} {semicolon = semicolon} h1 h2 h3 h4 h5 h6) =
    put_then word (of_kind word h1 refl) (put_then star (of_kind star h2 refl) (put_then as_word (word-closed text (codes "as") as_word h3) (put_then name (identifier-closed name.kind h4) (from_put from source h5 (end_put nothing_goes_on (source ∷ []) semicolon h6)))))
module_item-piece text (IsModuleItem.export_from {word = word} {list = list} {from = from} {source = source} {semicolon = semicolon} h1 h2 h3 h4) =
    put_then word (of_kind word h1 refl) (also (specifiers-piece text false list h2) (from_put from source h3 (end_put nothing_goes_on (source ∷ []) semicolon h4)))
module_item-piece text (IsModuleItem.export_names {word = word} {list = list} {semicolon = semicolon} h1 h2 h3) =
    put_then word (of_kind word h1 refl) (also (specifiers-piece text false list h2) (end_put (from_goes_on text) (tokens_of_specifiers list) semicolon h3))
module_item-piece text (IsModuleItem.export_declaration {word = word} h1 h2 h3) = put_then word (of_kind word h1 refl) (item-piece text h3)
module_item-piece text (IsModuleItem.export_default_function {word = word} {default = default} {function = function} h1 h2 h3) =
    put_then word (of_kind word h1 refl) (put_then default (of_kind default h2 refl) (is (tokens_FunctionDeclaration written function) (tokens_FunctionDeclaration completed function) (function-led text h3).piece))
module_item-piece text (IsModuleItem.export_default_class {word = word} {default = default} {class = class} h1 h2 h3) =
    put_then word (of_kind word h1 refl) (put_then default (of_kind default h2 refl) (is (tokens_ClassDeclaration written class) (tokens_ClassDeclaration completed class) (class-led text h3).piece))
module_item-piece text (IsModuleItem.export_default {word = word} {default = default} {x = x} {semicolon = semicolon} h1 h2 h3 h4 h5) =
    put_then word (of_kind word h1 refl) (put_then default (of_kind default h2 refl) (also (assignment-led text h4).piece (end_put (expression_goes_on x) (tokens_of_expression written x) semicolon h5)))

-- ---- trees

all_stand : (text : List ℕ) (from to : ℕ) (ts : Tokens) → SpelledBetween text from ts to → AllStand text ts
all_stand text from to [] h = tt
all_stand text from to (t ∷ ts) h = ((from, h.0, h.1), all_stand text t.end to ts h.2)

items_printable : (text : List ℕ) {xs : List ModuleItem} → AreModuleItems text xs → AllStand text (flat_map (tokens_of_item written) xs) → ArePrintable text (map (tokens_of_item completed) xs)
items_printable text AreModuleItems.no_module_items all = tt
items_printable text (AreModuleItems.more_module_items {first = first} {rest = rest} h1 h2) all =
    let p = module_item-piece text h1 in
    (p.tokens (stand_left text (tokens_of_item written first) (flat_map (tokens_of_item written) rest) all), p.follow, items_printable text h2 (stand_right text (tokens_of_item written first) (flat_map (tokens_of_item written) rest) all))

pub trees-printable : TreesArePrintable
trees-printable contents tree h = items_printable contents h.0 (all_stand contents 0 h.1.0 (flat_map (tokens_of_item written) tree.items) h.1.1)

pub printed_trees-read : PrintedTreesAreRead
printed_trees-read contents tree utf8 h = printed-is_read contents _ utf8 (trees-printable contents tree h)
