-- The texts of the samples with words.
use Rattle.std.proofs.Common.{◌≡◌, ℕ, Bool, true, false, List, refl, ap, codes, Some}
use Rattle.esb_token.specs.declared.kind.Kind.TheVariants as k
use Rattle.esb_token.specs.declared.token.Token.{Token}
use Rattle.esb_tree.specs.declared.expressions.Expression.TheVariants as e
use Rattle.esb_tree.specs.declared.functions.ConciseBody.TheVariants as cb
use Rattle.esb_tree.specs.declared.modules.ImportClause.TheVariants as i
use Rattle.esb_tree.specs.declared.modules.ModuleItem.TheVariants as m
use Rattle.esb_tree.specs.declared.modules.Specifier.TheVariants as p
use Rattle.esb_tree.specs.declared.modules.Specifiers.{Specifiers}
use Rattle.esb_tree.specs.Trees.{written}
use Rattle.esb_tree.proofs.TokenLines.{tokens_is_Primary}
use Rattle.esb_grammar.specs.declared.context.Context.{Context}
use Rattle.esb_grammar.specs.Contexts.{of_module, of_arrow}
use Rattle.esb_grammar.specs.Grammar.{identifier_reference, origin, primary_expression, access, left_hand_side, update, unary_expression, short_circuit, IsAssignment, conditional_expression, async_arrow_of_name, concise_value}
use Rattle.esb_grammar.specs.Modules.{IsModuleItem, import_from, default_binding, names, export_names, export_renamed, no_specifiers, IsImportClause, IsSpecifier, import_name, AreSpecifiers}
use Rattle.esb_grammar.specs.Kinds.{is_reference, is_binding}
use Rattle.esb_grammar.specs.Words.{is_word, begins_brace}
use Rattle.esb_grammar.specs.SemicolonSamples.{at}
use Rattle.esb_grammar.proofs.Inversions.{async_of}
use Rattle.esb_grammar.specs.ModuleSamples.{async_arrow, imported, braces, HasWords, HasNoWords}

name_is : (text : List ℕ) (c : Context) (t : Token) → t.kind ≡ k.Name → IsAssignment text c (e.Primary t)
name_is text c t is = conditional_expression (short_circuit (unary_expression (update (left_hand_side (access (origin (primary_expression (identifier_reference (ap (is_reference c) is)))))))))

async_is : IsAssignment (codes "async a=>a") of_module (async_arrow (at k.Name 6 7))
unfolding is_word
async_is = async_arrow_of_name refl refl refl refl refl (concise_value {x = e.Primary (at k.Name 9 10)} (ap begins_brace (tokens_is_Primary written (e.Primary (at k.Name 9 10)) (at k.Name 9 10) refl)) (name_is (codes "async a=>a") (of_arrow of_module true) (at k.Name 9 10) refl))

import_is : IsModuleItem (codes "import a from 'a';") imported
unfolding is_word
import_is = import_from refl (default_binding refl) (refl, refl) refl

export_is : IsModuleItem (codes "export {a as if};") (m.ExportNames (at k.Export 0 6) (braces (p.Renamed (at k.Name 8 9) (at k.Name 10 12) (at k.If 13 15))) (Some (at k.Semicolon 16 17)))
unfolding is_word
export_is = export_names refl (record { begin = refl; first = export_renamed refl refl refl; rest = no_specifiers; ending = refl }) refl

no_async : IsAssignment (codes "asinc a=>a") of_module (async_arrow (at k.Name 6 7)) → ⊥
unfolding is_word
no_async h = let is : false ≡ true = (async_of (codes "asinc a=>a") of_module (at k.Name 0 5) (at k.Name 6 7) (at k.Arrow 7 9) (cb.ConciseValue (e.Primary (at k.Name 9 10))) h).0 in cc

async_alone : IsAssignment (codes "async\na=>a") of_module (async_arrow (record { kind = k.Name; start = 6; end = 7; after_line = true })) → ⊥
async_alone h = let is : true ≡ false = (async_of (codes "async\na=>a") of_module (at k.Name 0 5) (record { kind = k.Name; start = 6; end = 7; after_line = true }) (at k.Arrow 7 9) (cb.ConciseValue (e.Primary (at k.Name 9 10))) h).1 in cc

no_from : IsModuleItem (codes "import a form 'a';") imported → ⊥
unfolding is_word
no_from (import_from h1 h2 h3 h4) = let is : false ≡ true = h3.0 in cc

first_name : {text : List ℕ} {last : Bool} (name : Token) → IsSpecifier text true last (p.Same name) → is_binding name.kind ≡ true
first_name name (import_name h) = h

clause_names : {text : List ℕ} (list : Specifiers) → IsImportClause text (i.Names list) → AreSpecifiers text true list
clause_names list (names h) = h

reserved : (text : List ℕ) → IsModuleItem text (m.Import (at k.Import 0 6) (i.Names (braces (p.Same (at k.If 8 10)))) (at k.Name 17 21) (at k.Text 22 25) (Some (at k.Semicolon 25 26))) → ⊥
reserved text (import_from h1 h2 h3 h4) = let is : false ≡ true = first_name (at k.If 8 10) (clause_names (braces (p.Same (at k.If 8 10))) h2).first in cc

pub has_words : HasWords
has_words = record { async_function = async_is; import_default = import_is; export_as = export_is }

pub has_no_words : HasNoWords
has_no_words = record { no_async = no_async; async_alone = async_alone; no_from = no_from; reserved = reserved }
