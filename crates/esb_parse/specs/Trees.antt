-- The trees of texts.
use Rattle.std.specs.Prelude.{ℕ, ◌≤◌, Option, Result, Ok, Err}
use Rattle.esb_tree.specs.declared.modules.Tree.{Tree}
use Rattle.esb_tree.specs.Modules.{levels_of}
use Rattle.esb_grammar.specs.Modules.{IsTreeOf}
use Rattle.esb_reader.specs.declared.fault.Fault.{Fault}
use Rattle.esb_reader.specs.declared.fault.Fault.TheVariants as fault
use Rattle.esb_reader.specs.Places.{Text}
use Rattle.esb_module_laws.specs.Module.{module_tree}
use Rattle.esb_parse_laws.specs.Readers.{nameless, parts}

-- how many nodes of a tree may stand in one another
abbrev pub most_levels : ℕ
most_levels = 200

-- The tree that the readers of all productions read of a text, tied together: by `module_trees` of `esb_parse_laws` it is the one that the text has, and nothing where there is none.
unfoldable pub tree_of : Text → Option Tree
tree_of text = module_tree text (parts text) (nameless text) most_levels

-- a tree of a text that has no more levels than that
abbrev pub IsParsed : Text → Tree → Type 0
IsParsed text tree = IsTreeOf text tree × (levels_of tree ≤ most_levels)

-- The answer is the text's tree, where it has one of no more levels, and that there is none where it has none. Or memory was refused.
abbrev pub Parses : Text → Result Tree Fault → Type 0
Parses text (Ok tree) = IsParsed text tree
Parses text (Err (fault.NoTree at)) = (tree : Tree) → ¬ (IsParsed text tree)
Parses text (Err fault.Memory) = Unit {0}
