-- The trees of files.
use Rattle.std.specs.Prelude.{◌≡◌, ℕ, ◌≤◌, length, Option, Some, None, Result, Ok, Err}
use Rattle.esb_tree.specs.declared.modules.Tree.{Tree}
use Rattle.esb_early_checks.specs.declared.breach.Breach.{Breach}
use Rattle.esb_early_checks.specs.Findings.{breach, first_of}
use Rattle.esb_early.specs.Items.{breaches}
use Rattle.esb_reader.specs.Places.{Text}
use Rattle.esb_parse.specs.Trees.{tree_of, IsParsed}
use Rattle.esb_module.specs.declared.fault.ParseFault.{ParseFault}
use Rattle.esb_module.specs.declared.fault.ParseFault.TheVariants as fault

-- the first breach of an early rule in a text's tree
abbrev pub first_breach_in : Text → Tree → Option Breach
first_breach_in text tree = first_of None (breaches text tree)

-- the text's tree, of no more levels than a tree may have, which breaks a rule first there
pub record IsBroken (text : Text) (at : ℕ) (rule : ℕ) : Type 0 where
  pub tree : Tree
  pub parsed : IsParsed text tree
  pub first : first_breach_in text tree ≡ Some (breach at rule)

-- The answer is the text's tree where it has one and breaks no rule, its first breach where it breaks one, and a place in the text where it has
-- none. Or memory was refused.
abbrev pub ParsesFile : Text → Result Tree ParseFault → Type 0
ParsesFile text (Ok tree) = IsParsed text tree × (first_breach_in text tree ≡ None)
ParsesFile text (Err (fault.NoTree at)) = ((tree : Tree) → ¬ (IsParsed text tree)) × (at ≤ length text)
ParsesFile text (Err (fault.Early at rule)) = IsBroken text at rule
ParsesFile text (Err fault.Memory) = Unit {0}

-- ---- the same as a function of the text

-- what a text is as a module
pub data Module : Type 0 where
  -- it has this tree of at most 200 levels, which breaks no early rule
  has_tree : Tree → Module
  -- its tree breaks a rule first there
  breaks : ℕ → ℕ → Module
  -- it has no tree of at most 200 levels
  has_none : Module

abbrev pub module_with : Tree → Option Breach → Module
module_with tree None = has_tree tree
module_with tree (Some first) = breaks first.at first.rule

abbrev pub module_by : Text → Option Tree → Module
module_by text None = has_none
module_by text (Some tree) = module_with tree (first_breach_in text tree)

unfoldable pub module_of : Text → Module
module_of text = module_by text (tree_of text)

-- the answer says what the text is, and a place in it where it has no tree; or memory was refused
abbrev pub ReadsFile : Text → Result Tree ParseFault → Type 0
ReadsFile text (Ok tree) = module_of text ≡ has_tree tree
ReadsFile text (Err (fault.NoTree at)) = (module_of text ≡ has_none) × (at ≤ length text)
ReadsFile text (Err (fault.Early at rule)) = module_of text ≡ breaks at rule
ReadsFile text (Err fault.Memory) = Unit {0}
