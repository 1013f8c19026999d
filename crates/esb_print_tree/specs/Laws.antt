-- Laws of printing trees.
use Rattle.std.specs.Prelude.{ℕ, List, map, IsUtf8}
use Rattle.esb_token.specs.declared.token.Token.{Token}
use Rattle.esb_tree.specs.declared.modules.Tree.{Tree}
use Rattle.esb_tree.specs.Modules.{tokens_of_item}
use Rattle.esb_tree.specs.Trees.{completed}
use Rattle.esb_grammar.specs.Modules.{IsTreeOf}
use Rattle.esb_print.specs.Lines.{text_of}
use Rattle.esb_print.specs.Again.{ArePrintable, ReadsAgain}

-- the tokens of each item of a module, with each semicolon that was left out
abbrev pub lines_of : Tree → List (List Token)
lines_of tree = map (tokens_of_item completed) tree.items

-- the tokens of a text's tree are those of the text, and may follow one another
abbrev pub TreesArePrintable : Type 0
TreesArePrintable = (contents : List ℕ) (tree : Tree) → IsTreeOf contents tree → ArePrintable contents (lines_of tree)

-- so the text that is printed of them reads as them again
abbrev pub PrintedTreesAreRead : Type 0
PrintedTreesAreRead = (contents : List ℕ) (tree : Tree) → IsUtf8 contents → IsTreeOf contents tree → ReadsAgain contents (lines_of tree) (text_of contents (lines_of tree))
