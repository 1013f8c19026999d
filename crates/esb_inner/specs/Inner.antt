-- Functions that read a kind of node within fewer levels.
use Rattle.std.specs.Prelude.{ℕ, zero, suc, ◌<◌, ◌≤◌, Bool, List, Result, IfOk}
use Rattle.std.specs.declared.alloc.Global.{Global}
use Rattle.std.specs.Borrow.{Bor}
use Rattle.esb_tree.specs.declared.expressions.Expression.{Expression}
use Rattle.esb_tree.specs.declared.statements.Statement.{Statement}
use Rattle.esb_grammar.specs.declared.context.Context.{Context}
use Rattle.esb_reader.specs.declared.fault.Fault.{Fault}
use Rattle.esb_reader.specs.declared.node.Node.{Node}
use Rattle.esb_reader.specs.Places.{Text}
use Rattle.esb_reader.specs.Reader.{Reader, fail, Gives}

-- a node within the levels below n
unfoldable pub below : {A : Type 0} → (Text → ℕ → Reader (Node A)) → Text → ℕ → Reader (Node A)
below read text zero = fail
below read text (suc n) = read text n

-- It may be called within fewer levels than n, and gives what the reader gives within as many.
pub record ReadsExpressions (read : Bool → Context → Text → ℕ → Reader (Node Expression)) (n : ℕ) (pre : Global → Bor (List ℕ) → Bool → Context → ℕ → ℕ → Type 0) (post : Global → Bor (List ℕ) → Bool → Context → ℕ → ℕ → Result (Node Expression × ℕ) Fault → Type 0) : Type 0 where
  pub callable : (alloc : Global) (text : Bor (List ℕ)) (commas : Bool) (c : Context) (m at : ℕ) → m < n → pre alloc text commas c m at
  pub gives : (alloc : Global) (text : Bor (List ℕ)) (commas : Bool) (c : Context) (m at : ℕ) (r : Result (Node Expression × ℕ) Fault) → m < n → post alloc text commas c m at r → Gives r (read commas c text.now m at)
  pub room : (alloc : Global) (text : Bor (List ℕ)) (commas : Bool) (c : Context) (m at : ℕ) (r : Result (Node Expression × ℕ) Fault) → m < n → post alloc text commas c m at r → IfOk r (λ p. p.0.levels ≤ m)

pub record ReadsItems (read : Context → Text → ℕ → Reader (Node (List Statement))) (n : ℕ) (pre : Global → Bor (List ℕ) → Context → ℕ → ℕ → Type 0) (post : Global → Bor (List ℕ) → Context → ℕ → ℕ → Result (Node (List Statement) × ℕ) Fault → Type 0) : Type 0 where
  pub callable : (alloc : Global) (text : Bor (List ℕ)) (c : Context) (m at : ℕ) → m < n → pre alloc text c m at
  pub gives : (alloc : Global) (text : Bor (List ℕ)) (c : Context) (m at : ℕ) (r : Result (Node (List Statement) × ℕ) Fault) → m < n → post alloc text c m at r → Gives r (read c text.now m at)
  pub room : (alloc : Global) (text : Bor (List ℕ)) (c : Context) (m at : ℕ) (r : Result (Node (List Statement) × ℕ) Fault) → m < n → post alloc text c m at r → IfOk r (λ p. p.0.levels ≤ m)

-- It may be called within at most n levels, and gives what the reader gives within as many.
pub record ReadsWithin (read : Context → Text → ℕ → Reader (Node Expression)) (n : ℕ) (pre : Global → Bor (List ℕ) → Context → ℕ → ℕ → Type 0) (post : Global → Bor (List ℕ) → Context → ℕ → ℕ → Result (Node Expression × ℕ) Fault → Type 0) : Type 0 where
  pub callable : (alloc : Global) (text : Bor (List ℕ)) (c : Context) (m at : ℕ) → m ≤ n → pre alloc text c m at
  pub gives : (alloc : Global) (text : Bor (List ℕ)) (c : Context) (m at : ℕ) (r : Result (Node Expression × ℕ) Fault) → m ≤ n → post alloc text c m at r → Gives r (read c text.now m at)
