-- A node that goes on with a part behind it: an operator behind its operand, a choice behind its test, an assignment behind its target.
use Rattle.std.specs.Prelude.{◌≡◌, ℕ, ◌+◌, max, nat_lt, Bool, true, ◌&&◌, ◌⊎◌}
use Rattle.esb_token.specs.declared.token.Token.{Token}
use Rattle.esb_reader.specs.declared.node.Node.{Node}
use Rattle.esb_reader.specs.Places.{Text}
use Rattle.esb_reader.specs.Reader.{Reader, and_then, pure, fail, choose, node}
use Rattle.esb_reader.specs.Parts.{behind}
use Rattle.esb_reader.specs.Stands.{Syntax}

-- the part behind a node, and the node over the two, one level above them and within n levels
abbrev pub suffix : {A B : Type 0} → ℕ → (A → B → A) → Reader (Node B) → Node A → Reader (Node A)
suffix n f rest x = λ m. and_then (rest m) (λ y j. choose (nat_lt (max x.levels y.levels) n) (pure (node (f x.tree y.tree) (max x.levels y.levels + 1))) fail j)

-- a node, and where it may have such a part and the token behind it begins one, the node that goes on with it
abbrev pub extended : {A B : Type 0} → Text → ℕ → (A → B → A) → (Token → Bool) → (A → Bool) → Reader (Node A) → (A → Reader (Node B)) → Reader (Node A)
extended text n f begins allowed head rest = λ i. and_then (head i) (λ x m. choose (begins (behind text m) && allowed x.tree) (suffix n f (rest x.tree) x) (pure x) m)

-- a node with such a part
pub record Suffixed {A B : Type 0} (T : A → Syntax B) (Head : A → Type 0) (allowed : A → Bool) (f : A → B → A) (x : A) : Type 0 where
  pub first : A
  pub second : B
  pub is : x ≡ f first second
  pub head : Head first
  pub may : allowed first ≡ true
  pub good : (T first).Good second

-- nodes with and without one
abbrev pub WithSuffix : {A B : Type 0} → (A → Syntax B) → (A → Type 0) → (A → Bool) → (A → B → A) → A → Type 0
WithSuffix T Head allowed f x = Head x ⊎ Suffixed T Head allowed f x
