-- LeftHandSideExpressions that classes extend.
use Rattle.std.specs.Prelude.{ℕ, ◌<◌, List, Result}
use Rattle.std.specs.declared.alloc.Global.{Global}
use Rattle.std.specs.Borrow.{Bor}
use Rattle.esb_tree.specs.declared.expressions.Expression.{Expression}
use Rattle.esb_grammar.specs.declared.context.Context.{Context}
use Rattle.esb_reader.specs.declared.fault.Fault.{Fault}
use Rattle.esb_reader.specs.declared.node.Node.{Node}
use Rattle.esb_reader.specs.Places.{Text}
use Rattle.esb_reader.specs.Reader.{Reader, Gives}
use Rattle.esb_inner.specs.Inner.{below}

-- those within the levels below a number
unfoldable pub heads : (Context → Text → ℕ → Reader (Node Expression)) → Text → Context → ℕ → Reader (Node Expression)
heads read text c n = below (read c) text n

-- It may be called within fewer levels than n, and gives what the reader gives within as many.
pub record ReadsHeads (read : Context → Text → ℕ → Reader (Node Expression)) (n : ℕ) (pre : Global → Bor (List ℕ) → Context → ℕ → ℕ → Type 0) (post : Global → Bor (List ℕ) → Context → ℕ → ℕ → Result (Node Expression × ℕ) Fault → Type 0) : Type 0 where
  pub callable : (alloc : Global) (text : Bor (List ℕ)) (c : Context) (m at : ℕ) → m < n → pre alloc text c m at
  pub gives : (alloc : Global) (text : Bor (List ℕ)) (c : Context) (m at : ℕ) (r : Result (Node Expression × ℕ) Fault) → m < n → post alloc text c m at r → Gives r (read c text.now m at)
