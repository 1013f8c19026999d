-- What the functions that are handed in owe: each may be called within n levels, and gives what its definition gives within as many.
use Rattle.std.specs.Prelude.{ℕ, List, Result}
use Rattle.std.specs.declared.alloc.Global.{Global}
use Rattle.std.specs.Borrow.{Bor}
use Rattle.esb_tree.specs.declared.classes.Class.{Class}
use Rattle.esb_tree.specs.declared.expressions.Expression.{Expression}
use Rattle.esb_tree.specs.declared.functions.Function.{Function}
use Rattle.esb_tree.specs.declared.statements.Statement.{Statement}
use Rattle.esb_reader.specs.declared.fault.Fault.{Fault}
use Rattle.esb_reader.specs.declared.node.Node.{Node}
use Rattle.esb_reader.specs.Places.{Text}
use Rattle.esb_reader.specs.Reader.{Reader, Gives}
use Rattle.esb_module_laws.specs.Items.{HandedItems}

-- when a function may be called
abbrev pub May : Type 1
May = Global → Bor (List ℕ) → ℕ → ℕ → Type 0

-- and what it may return
abbrev pub Returns : Type 0 → Type 1
Returns A = Global → Bor (List ℕ) → ℕ → ℕ → Result (Node A × ℕ) Fault → Type 0

pub record Reads {A : Type 0} (reader : Text → Reader (Node A)) (n : ℕ) (may : May) (returns : Returns A) : Type 0 where
  pub callable : (alloc : Global) (text : Bor (List ℕ)) (at : ℕ) → may alloc text n at
  pub gives : (alloc : Global) (text : Bor (List ℕ)) (at : ℕ) (r : Result (Node A × ℕ) Fault) → returns alloc text n at r → Gives r (reader text.now at)

module _ (handed : Text → ℕ → HandedItems) (n : ℕ) where
  unfoldable pub ReadsStatements : May → Returns Statement → Type 0
  ReadsStatements may returns = Reads (λ text. (handed text n).statement) n may returns

  unfoldable pub ReadsValues : May → Returns Expression → Type 0
  ReadsValues may returns = Reads (λ text. (handed text n).value) n may returns

  unfoldable pub ReadsFunctions : May → Returns Function → Type 0
  ReadsFunctions may returns = Reads (λ text. (handed text n).function) n may returns

  unfoldable pub ReadsClasses : May → Returns Class → Type 0
  ReadsClasses may returns = Reads (λ text. (handed text n).class) n may returns
