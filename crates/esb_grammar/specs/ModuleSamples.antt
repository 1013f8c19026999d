-- Texts with words that mean something in their place: functions and items of modules that the grammar has, and others that it has
-- not.
use Rattle.std.specs.Prelude.{ℕ, true, List, [], Some, codes}
use Rattle.esb_token.specs.declared.kind.Kind.TheVariants as k
use Rattle.esb_token.specs.declared.token.Token.{Token}
use Rattle.esb_tree.specs.declared.expressions.Expression.{Expression}
use Rattle.esb_tree.specs.declared.expressions.Expression.TheVariants as e
use Rattle.esb_tree.specs.declared.functions.ConciseBody.TheVariants as cb
use Rattle.esb_tree.specs.declared.modules.ImportClause.TheVariants as i
use Rattle.esb_tree.specs.declared.modules.ModuleItem.{ModuleItem}
use Rattle.esb_tree.specs.declared.modules.ModuleItem.TheVariants as m
use Rattle.esb_tree.specs.declared.modules.Specifier.{Specifier}
use Rattle.esb_tree.specs.declared.modules.Specifier.TheVariants as p
use Rattle.esb_tree.specs.declared.modules.Specifiers.{Specifiers}
use Rattle.esb_grammar.specs.Contexts.{of_module}
use Rattle.esb_grammar.specs.Grammar.{IsAssignment}
use Rattle.esb_grammar.specs.Modules.{IsModuleItem}
use Rattle.esb_grammar.specs.SemicolonSamples.{at}

-- `async a=>a`, where the first word stands on the first five bytes
abbrev pub async_arrow : Token → Expression
async_arrow name = e.AsyncArrow (at k.Name 0 5) name (at k.Arrow 7 9) (cb.ConciseValue (e.Primary (at k.Name 9 10)))

-- `import a from "a";`, where `from` stands from the ninth byte to the thirteenth
abbrev pub imported : ModuleItem
imported = m.Import (at k.Import 0 6) (i.DefaultBinding (at k.Name 7 8)) (at k.Name 9 13) (at k.Text 14 17) (Some (at k.Semicolon 17 18))

-- the braces of one name
abbrev pub braces : Specifier → Specifiers
braces x = record { begin = at k.LeftBrace 7 8; first = x; rest = []; ending = at k.RightBrace 15 16 }

pub record HasWords : Type 0 where
  -- async a=>a
  pub async_function : IsAssignment (codes "async a=>a") of_module (async_arrow (at k.Name 6 7))
  -- import a from 'a';
  pub import_default : IsModuleItem (codes "import a from 'a';") imported
  -- export {a as if};
  pub export_as : IsModuleItem (codes "export {a as if};") (m.ExportNames (at k.Export 0 6) (braces (p.Renamed (at k.Name 8 9) (at k.Name 10 12) (at k.If 13 15))) (Some (at k.Semicolon 16 17)))

pub record HasNoWords : Type 0 where
  -- another word in place of `async`
  pub no_async : IsAssignment (codes "asinc a=>a") of_module (async_arrow (at k.Name 6 7)) → ⊥
  -- async, a line terminator, a=>a
  pub async_alone : IsAssignment (codes "async\na=>a") of_module (async_arrow (record { kind = k.Name; start = 6; end = 7; after_line = true })) → ⊥
  -- import a form 'a';
  pub no_from : IsModuleItem (codes "import a form 'a';") imported → ⊥
  -- import {if} from 'a';
  pub reserved : (text : List ℕ) → IsModuleItem text (m.Import (at k.Import 0 6) (i.Names (braces (p.Same (at k.If 8 10)))) (at k.Name 17 21) (at k.Text 22 25) (Some (at k.Semicolon 25 26))) → ⊥
