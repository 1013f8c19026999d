-- Bodies that are handed in.
use Rattle.std.specs.Prelude.{ℕ, List}
use Rattle.esb_tree.specs.declared.statements.Statement.{Statement}
use Rattle.esb_grammar.specs.declared.context.Context.{Context}
use Rattle.esb_reader.specs.declared.node.Node.{Node}
use Rattle.esb_reader.specs.Places.{Text}
use Rattle.esb_reader.specs.Reader.{Reader}
use Rattle.esb_inner.specs.Inner.{below}

-- StatementLists within the levels below a number
unfoldable pub bodies : (Context → Text → ℕ → Reader (Node (List Statement))) → Text → Context → ℕ → Reader (Node (List Statement))
bodies read text c n = below (read c) text n
