-- Nodes of what was read.
use Rattle.std.specs.Prelude.{ℕ, ◌+◌, nat_lt}
use Rattle.esb_reader.specs.declared.node.Node.{Node}
use Rattle.esb_reader.specs.Reader.{Reader, node, pure, fail, choose}

-- a node of a part that was read, one level above it and within n levels
abbrev pub raised : {A B : Type 0} → ℕ → (A → B) → Node A → Reader (Node B)
raised n f x = choose (nat_lt x.levels n) (pure (node (f x.tree) (x.levels + 1))) fail
