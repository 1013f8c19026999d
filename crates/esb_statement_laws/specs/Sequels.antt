-- Parts that hang on what stands before them or on the tokens at their place.
use Rattle.std.specs.Prelude.{◌≡◌, ℕ, max, ◌<◌, Bool, true, ◌++◌, Some}
use Rattle.esb_token.specs.declared.token.Token.{Token}
use Rattle.esb_reader.specs.declared.node.Node.{Node}
use Rattle.esb_reader.specs.Places.{Text}
use Rattle.esb_reader.specs.Reader.{Reader, and_then, fail, choose, node}
use Rattle.esb_reader.specs.Parts.{behind}
use Rattle.esb_reader.specs.Stands.{Syntax, Stands}

-- one part and then another, which hangs on the first
abbrev pub follows : {A B : Type 0} → Reader (Node A) → (A → Reader (Node B)) → Reader (Node (A × B))
follows p q = λ i. and_then (p i) (λ a m. and_then (q a.tree m) (λ b j. Some (node (a.tree, b.tree) (max a.levels b.levels), j)))

-- the reader that a test of a place chooses
abbrev pub by_place : {A : Type 0} → (ℕ → Bool) → Reader (Node A) → Reader (Node A) → Reader (Node A)
by_place test p q = λ i. choose (test i) p q i

-- a part at a place that passes a test
abbrev pub at_place : {A : Type 0} → (ℕ → Bool) → Reader (Node A) → Reader (Node A)
at_place test p = by_place test p fail

-- nodes of many sorts, which the tokens at their place tell apart
abbrev pub sorted : {A S : Type 0} → (ℕ → S) → (S → Reader (Node A)) → Reader (Node A)
sorted sort readers = λ i. readers (sort i) i

-- a node and what stands behind it
abbrev pub linked : {A B : Type 0} → Syntax A → (A → Syntax B) → Syntax (A × B)
linked S T = record {
  yields = λ p. S.yields p.0 ++ (T p.0).yields p.1;
  levels_of = λ p. max (S.levels_of p.0) ((T p.0).levels_of p.1);
  Good = λ p. S.Good p.0 × (T p.0).Good p.1;
}

-- What a reader owes at one place.
pub record RuleAt {A : Type 0} (text : Text) (S : Syntax A) (n top : ℕ) (stops : A → Token → Bool) (read : Reader (Node A)) (i : ℕ) : Type 0 where
  pub sound : (x : Node A) (j : ℕ) → read i ≡ Some (x, j) → Stands text S n x i j
  pub complete : (x : Node A) (j : ℕ) → Stands text S n x i j → x.levels < top → stops x.tree (behind text j) ≡ true → read i ≡ Some (x, j)

-- Each node that is read passes a test together with the token behind it.
abbrev pub Keeps : {A : Type 0} → Text → (A → Token → Bool) → Reader (Node A) → Type 0
Keeps text P read = (i : ℕ) (x : Node _) (j : ℕ) → read i ≡ Some (x, j) → P x.tree (behind text j) ≡ true
