-- Which nodes stand at a place of a text, and what a reader owes them.
use Rattle.std.specs.Prelude.{◌≡◌, ℕ, max, ◌<◌, ◌≤◌, ◌⊎◌, Bool, true, not, ◌&&◌, List, [], ◌∷◌, ◌++◌, map, Option, Some, None, Result, IfOk}
use Rattle.std.specs.List.{flat_map, AllByRecursion}
use Rattle.esb_token.specs.declared.kind.Kind.{Kind}
use Rattle.esb_token.specs.declared.token.Token.{Token}
use Rattle.esb_token.specs.Tokens.{SpelledBetween}
use Rattle.esb_tree.specs.Levels.{most}
use Rattle.esb_reader.specs.declared.fault.Fault.{Fault}
use Rattle.esb_reader.specs.declared.node.Node.{Node}
use Rattle.esb_reader.specs.Places.{Text}
use Rattle.esb_reader.specs.Reader.{Reader, Gives}
use Rattle.esb_reader.specs.Parts.{behind}

-- a kind of node: the tokens that it is written with, how deep it is, and which are well formed
pub record Syntax (A : Type 0) : Type 1 where
  pub yields : A → List Token
  pub levels_of : A → ℕ
  pub Good : A → Type 0

-- a well-formed node within n levels, which the text spells between two places
pub record Stands {A : Type 0} (text : Text) (S : Syntax A) (n : ℕ) (x : Node A) (i j : ℕ) : Type 0 where
  pub good : S.Good x.tree
  pub levels : S.levels_of x.tree ≡ x.levels
  pub fits : x.levels ≤ n
  pub spelled : SpelledBetween text i (S.yields x.tree) j

-- The reader gives each node that stands at a place, has fewer levels than `top` and stops before the token behind it, and
-- nothing else.
pub record Rule {A : Type 0} (text : Text) (S : Syntax A) (n top : ℕ) (stops : A → Token → Bool) (read : Reader (Node A)) : Type 0 where
  pub sound : (i : ℕ) (x : Node A) (j : ℕ) → read i ≡ Some (x, j) → Stands text S n x i j
  pub complete : (i : ℕ) (x : Node A) (j : ℕ) → Stands text S n x i j → x.levels < top → stops x.tree (behind text j) ≡ true → read i ≡ Some (x, j)

-- ---- the two directions of a parser's contract

-- what was found stands there
abbrev pub Finds : {A : Type 0} → Text → Syntax A → ℕ → ℕ → Result (Node A × ℕ) Fault → Type 0
Finds text S n at result = IfOk result (λ p. Stands text S n p.0 at p.1)

-- what stands there, and stops before the token behind it, was found, unless memory ran out
abbrev pub FindsEach : {A : Type 0} → Text → Syntax A → ℕ → (A → Token → Bool) → ℕ → Result (Node A × ℕ) Fault → Type 0
FindsEach text S n stops at result = (x : Node _) (to : ℕ) → Stands text S n x at to → stops x.tree (behind text to) ≡ true → Gives result (Some (x, to))

-- ---- the kinds of node that the parts read

-- tokens of a kind
abbrev pub tokens : Kind → Syntax Token
tokens kind = record { yields = λ t. t ∷ []; levels_of = λ t. 0; Good = λ t. t.kind ≡ kind }

-- tokens that pass a test
abbrev pub tokens_in : (Token → Bool) → Syntax Token
tokens_in test = record { yields = λ t. t ∷ []; levels_of = λ t. 0; Good = λ t. test t ≡ true }

abbrev pub pairs : {A B : Type 0} → Syntax A → Syntax B → Syntax (A × B)
pairs S T = record { yields = λ p. S.yields p.0 ++ T.yields p.1; levels_of = λ p. max (S.levels_of p.0) (T.levels_of p.1); Good = λ p. S.Good p.0 × T.Good p.1 }

-- a list of nodes
abbrev pub row : {A : Type 0} → Syntax A → Syntax (List A)
row S = record { yields = flat_map S.yields; levels_of = λ xs. most (map S.levels_of xs); Good = AllByRecursion S.Good }

-- those nodes of a kind that are of this sort
abbrev pub which : {A : Type 0} → Syntax A → (A → Type 0) → Syntax A
which S Good = record { yields = S.yields; levels_of = S.levels_of; Good = Good }

-- nodes of either sort
abbrev pub either : {A : Type 0} → Syntax A → (A → Type 0) → (A → Type 0) → Syntax A
either S First Second = which S (λ x. First x ⊎ Second x)

-- what is made of parts
abbrev pub Made : {A B : Type 0} → Syntax A → (A → B) → B → Type 0
Made S f b = (a : _) × (b ≡ f a) × S.Good a

abbrev pub maybe_yields : {A : Type 0} → Syntax A → Option A → List Token
maybe_yields S None = []
maybe_yields S (Some a) = S.yields a

abbrev pub maybe_levels : {A : Type 0} → Syntax A → Option A → ℕ
maybe_levels S None = 0
maybe_levels S (Some a) = S.levels_of a

-- a part or nothing
abbrev pub maybe : {A : Type 0} → Syntax A → Syntax (Option A)
maybe S = record { yields = maybe_yields S; levels_of = maybe_levels S; Good = λ x. Made S Some x ⊎ (x ≡ None) }

-- whether the last of some nodes stops before a token
abbrev pub last_stops : {A : Type 0} → (A → Token → Bool) → List A → Token → Bool
last_stops stops [] t = true
last_stops stops (x ∷ []) t = stops x t
last_stops stops (x ∷ xs) t = last_stops stops xs t

-- what ends a list of items: it ends the last item, and begins none
abbrev pub list_stops : {A : Type 0} → (A → Token → Bool) → (Token → Bool) → List A → Token → Bool
list_stops stops begins xs t = last_stops stops xs t && not (begins t)
