-- The statement of a `for`, by its first part and what stands behind it.
use Rattle.std.specs.Prelude.{ℕ, max, ◌+◌, nat_lt, Option}
use Rattle.esb_token.specs.declared.token.Token.{Token}
use Rattle.esb_tree.specs.declared.statements.ForStart.{ForStart}
use Rattle.esb_tree.specs.declared.statements.Statement.{Statement}
use Rattle.esb_tree.specs.declared.statements.Statement.TheVariants as s
use Rattle.esb_reader.specs.declared.node.Node.{Node}
use Rattle.esb_reader.specs.Reader.{Reader, choose, pure, fail, node}
use Rattle.esb_statement_laws.specs.Loops.{Classic, Each}

abbrev pub make_classic : Token → Token → ForStart → Classic → Statement
make_classic word begin start q = s.For word begin start q.0 q.1.0 q.1.1.0 q.1.1.1.0 q.1.1.1.1.0 q.1.1.1.1.1

abbrev pub make_each : Token → Option Token → Token → ForStart → Each → Statement
make_each word await_word begin start q = s.ForEach word await_word begin start q.0 q.1.0 q.1.1.0 q.1.1.1

-- the node of a first part and of what stands behind it, within n levels
abbrev pub over_start : {A : Type 0} → ℕ → (ForStart → A → Statement) → Node ForStart → Node A → Reader (Node Statement)
over_start n f start a = choose (nat_lt (max start.levels a.levels) n) (pure (node (f start.tree a.tree) (max start.levels a.levels + 1))) fail
