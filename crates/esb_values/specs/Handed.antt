-- What is handed in, and the bodies of arrow functions over it.
use Rattle.std.specs.Prelude.{ℕ, ◌≤◌, Bool, false, List, Result}
use Rattle.std.specs.declared.alloc.Global.{Global}
use Rattle.std.specs.Borrow.{Bor}
use Rattle.esb_tree.specs.declared.expressions.Expression.{Expression}
use Rattle.esb_tree.specs.declared.functions.ConciseBody.{ConciseBody}
use Rattle.esb_tree.specs.declared.statements.Block.{Block}
use Rattle.esb_grammar.specs.declared.context.Context.{Context}
use Rattle.esb_grammar.specs.Contexts.{inside, of_arrow}
use Rattle.esb_reader.specs.declared.fault.Fault.{Fault}
use Rattle.esb_reader.specs.declared.node.Node.{Node}
use Rattle.esb_reader.specs.Places.{Text}
use Rattle.esb_reader.specs.Reader.{Reader, Gives}
use Rattle.esb_inner.specs.Inner.{below}
use Rattle.esb_value_laws.specs.Bodies.{concise}

-- It may be called within at most n levels, and gives what the reader gives within as many.
pub record ReadsBlocks (read : Context → Text → ℕ → Reader (Node Block)) (n : ℕ) (pre : Global → Bor (List ℕ) → Context → ℕ → ℕ → Type 0) (post : Global → Bor (List ℕ) → Context → ℕ → ℕ → Result (Node Block × ℕ) Fault → Type 0) : Type 0 where
  pub callable : (alloc : Global) (text : Bor (List ℕ)) (c : Context) (m at : ℕ) → m ≤ n → pre alloc text c m at
  pub gives : (alloc : Global) (text : Bor (List ℕ)) (c : Context) (m at : ℕ) (r : Result (Node Block × ℕ) Fault) → m ≤ n → post alloc text c m at r → Gives r (read c text.now m at)

-- the body of an arrow function that stands in a context, which may be async
abbrev pub body_of : (Bool → Context → Text → ℕ → Reader (Node Expression)) → (Context → Text → ℕ → Reader (Node Block)) → Context → Text → ℕ → Bool → Reader (Node ConciseBody)
body_of expression block c text n is_async_body = concise text (block (inside (of_arrow c is_async_body)) text n) (below (expression false (of_arrow c is_async_body)) text n)
