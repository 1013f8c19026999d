-- What the functions that are handed in owe: each may be called within n levels, and gives what its definition gives within as many.
use Rattle.std.specs.Prelude.{ℕ, Bool, List, Result}
use Rattle.std.specs.declared.alloc.Global.{Global}
use Rattle.std.specs.Borrow.{Bor}
use Rattle.esb_tree.specs.declared.classes.Class.{Class}
use Rattle.esb_tree.specs.declared.expressions.Expression.{Expression}
use Rattle.esb_tree.specs.declared.functions.Function.{Function}
use Rattle.esb_tree.specs.declared.statements.Statement.{Statement}
use Rattle.esb_grammar.specs.declared.context.Context.{Context}
use Rattle.esb_reader.specs.declared.fault.Fault.{Fault}
use Rattle.esb_reader.specs.declared.node.Node.{Node}
use Rattle.esb_reader.specs.Places.{Text}
use Rattle.esb_reader.specs.Reader.{Reader, Gives}
use Rattle.esb_statement_laws.specs.Handed.{Handed}

-- when a function of a context may be called
abbrev pub May : Type 1
May = Global → Bor (List ℕ) → Context → ℕ → ℕ → Type 0

-- and what it may return
abbrev pub Returns : Type 0 → Type 1
Returns A = Global → Bor (List ℕ) → Context → ℕ → ℕ → Result (Node A × ℕ) Fault → Type 0

-- a function of a context
pub record Reads {A : Type 0} (reader : Text → Context → Reader (Node A)) (n : ℕ) (may : May) (returns : Returns A) : Type 0 where
  pub callable : (alloc : Global) (text : Bor (List ℕ)) (c : Context) (at : ℕ) → may alloc text c n at
  pub gives : (alloc : Global) (text : Bor (List ℕ)) (c : Context) (at : ℕ) (r : Result (Node A × ℕ) Fault) → returns alloc text c n at r → Gives r (reader text.now c at)

-- one of a flag and a context
pub record ReadsFlagged (reader : Text → Bool → Context → Reader (Node Expression)) (n : ℕ)
    (may : Global → Bor (List ℕ) → Bool → Context → ℕ → ℕ → Type 0)
    (returns : Global → Bor (List ℕ) → Bool → Context → ℕ → ℕ → Result (Node Expression × ℕ) Fault → Type 0) : Type 0 where
  pub callable : (alloc : Global) (text : Bor (List ℕ)) (commas : Bool) (c : Context) (at : ℕ) → may alloc text commas c n at
  pub gives : (alloc : Global) (text : Bor (List ℕ)) (commas : Bool) (c : Context) (at : ℕ) (r : Result (Node Expression × ℕ) Fault) → returns alloc text commas c n at r → Gives r (reader text.now commas c at)

-- one of no context
pub record ReadsAnywhere (reader : Text → Reader (Node Function)) (n : ℕ)
    (may : Global → Bor (List ℕ) → ℕ → ℕ → Type 0)
    (returns : Global → Bor (List ℕ) → ℕ → ℕ → Result (Node Function × ℕ) Fault → Type 0) : Type 0 where
  pub callable : (alloc : Global) (text : Bor (List ℕ)) (at : ℕ) → may alloc text n at
  pub gives : (alloc : Global) (text : Bor (List ℕ)) (at : ℕ) (r : Result (Node Function × ℕ) Fault) → returns alloc text n at r → Gives r (reader text.now at)

module _ (handed : Text → ℕ → Handed) (n : ℕ) where
  unfoldable pub ReadsExpressions : (Global → Bor (List ℕ) → Bool → Context → ℕ → ℕ → Type 0) → (Global → Bor (List ℕ) → Bool → Context → ℕ → ℕ → Result (Node Expression × ℕ) Fault → Type 0) → Type 0
  ReadsExpressions may returns = ReadsFlagged (λ text commas c. (handed text n).expression commas c) n may returns

  unfoldable pub ReadsTargets : May → Returns Expression → Type 0
  ReadsTargets may returns = Reads (λ text c. (handed text n).target c) n may returns

  unfoldable pub ReadsBindings : May → Returns Expression → Type 0
  ReadsBindings may returns = Reads (λ text c. (handed text n).binding c) n may returns

  unfoldable pub ReadsFunctions : (Global → Bor (List ℕ) → ℕ → ℕ → Type 0) → (Global → Bor (List ℕ) → ℕ → ℕ → Result (Node Function × ℕ) Fault → Type 0) → Type 0
  ReadsFunctions may returns = ReadsAnywhere (λ text. (handed text n).function) n may returns

  unfoldable pub ReadsClasses : May → Returns Class → Type 0
  ReadsClasses may returns = Reads (λ text c. (handed text n).class c) n may returns

  unfoldable pub ReadsItems : May → Returns (List Statement) → Type 0
  ReadsItems may returns = Reads (λ text c. (handed text n).items c) n may returns

  unfoldable pub ReadsStatements : May → Returns Statement → Type 0
  ReadsStatements may returns = Reads (λ text c. (handed text n).statement c) n may returns
