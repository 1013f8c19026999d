-- The readers read each module's one tree.
use Rattle.std.specs.Prelude.{◌≡◌, ℕ, suc, false, true}
use Rattle.esb_tree.specs.declared.modules.Tree.{Tree}
use Rattle.esb_grammar.specs.declared.context.Context.{Context}
use Rattle.esb_grammar.specs.Modules.{IsTreeOf}
use Rattle.esb_reader.specs.Places.{Text}
use Rattle.esb_value_laws.specs.Handed.{Tied}
use Rattle.esb_literal_laws.specs.Bindings.{target_below}
use Rattle.esb_literal_laws.specs.Classes.{class}
use Rattle.esb_literal_laws.specs.Functions.{function}
use Rattle.esb_binding_laws.specs.Loose.{loose}
use Rattle.esb_statement_laws.specs.Handed.{Handed}
use Rattle.esb_statement_laws.specs.Items.{statement}
use Rattle.esb_statement_laws.specs.Within.{handed, items_within}
use Rattle.esb_module_laws.specs.Laws.{ReadsModule}
use Rattle.esb_parse_laws.specs.Readers.{Readers, parts_of, lowered, next, value_below, values_below, head_below, items_below, readers, parts, nameless}

-- What is read of a text within a number of levels is its tree, if it has one with no more levels, and nothing else.
abbrev pub TreesRule : Type 0
TreesRule = (text : Text) (n : ℕ) → ReadsModule text (parts text) (nameless text) n

-- No text has two trees.
abbrev pub OneTree : Type 0
OneTree = (text : Text) (tree other : Tree) → IsTreeOf text tree → IsTreeOf text other → tree ≡ other

-- Readers that read what stands in their nodes by each other, one level down.
pub record Knot (text : Text) (r : Readers) : Type 0 where
  pub values : Tied text r.one r.many r.heads r.items
  pub items_next : (c : Context) (n : ℕ) → r.items c (suc n) ≡ items_within text (parts_of text r) n c

abbrev pub KnotRule : Type 0
KnotRule = (text : Text) → Knot text (readers text)

-- They are what the next turn makes of them.
abbrev pub FixedRule : Type 0
FixedRule = (text : Text) → readers text ≡ next text (readers text)

-- So what is handed in for statements within a number of levels reads one level down.
pub record ReadsParts (text : Text) (n : ℕ) (r : Handed) : Type 0 where
  pub value_is : (c : Context) → r.expression false c ≡ value_below text c n
  pub values_are : (c : Context) → r.expression true c ≡ values_below text c n
  pub target_is : (c : Context) → r.target c ≡ target_below text (value_below text) c n
  pub binding_is : (c : Context) → r.binding c ≡ loose text (value_below text) c n
  pub function_is : r.function ≡ function text (value_below text) (items_below text) true n
  pub class_is : (c : Context) → r.class c ≡ class text (value_below text) (head_below text) (items_below text) true c n
  pub items_are : (c : Context) → r.items c ≡ items_below text c n
  pub statement_is : (c : Context) → r.statement c ≡ lowered (λ m. statement text c m (handed text (parts text) m) false) n

abbrev pub PartsRule : Type 0
PartsRule = (text : Text) (n : ℕ) → ReadsParts text n (handed text (parts text) n)
