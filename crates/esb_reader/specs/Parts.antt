-- The readers of which a production is put together. Tests of what follows see the token that is read under Div.
use Rattle.std.specs.Prelude.{ℕ, ◌+◌, max, nat_lt, Bool, true, false, List, [], ◌∷◌, length, Option, Some, None}
use Rattle.esb_token.specs.declared.kind.Kind.{Kind}
use Rattle.esb_token.specs.declared.token.Token.{Token}
use Rattle.esb_token.specs.declared.goal.Goal.{Goal}
use Rattle.esb_token.specs.declared.goal.Goal.TheVariants as goal
use Rattle.esb_reader.specs.declared.node.Node.{Node}
use Rattle.esb_reader.specs.Places.{Text, peek}
use Rattle.esb_reader.specs.Reader.{Reader, and_then, pure, fail, choose, node, none, expect, take, repeated}

abbrev pub is_empty : {A : Type 0} → List A → Bool
is_empty [] = true
is_empty (x ∷ xs) = false

-- the token behind a node that ends at a place
abbrev pub behind : Text → ℕ → Token
behind text at = peek text goal.Div at

-- a token of a kind
abbrev pub token : Text → Kind → Reader (Node Token)
token text kind = λ i. and_then (expect text kind i) (λ t j. Some (node t 0, j))

-- a token under a goal that passes a test
abbrev pub token_in : Text → Goal → (Token → Bool) → Reader (Node Token)
token_in text g test = λ i. and_then (take text g i) (λ t j. choose (test t) (pure (node t 0)) fail j)

-- one part after the other
abbrev pub both : {A B : Type 0} → Reader (Node A) → Reader (Node B) → Reader (Node (A × B))
both p q = λ i. and_then (p i) (λ a m. and_then (q m) (λ b j. Some (node (a.tree, b.tree) (max a.levels b.levels), j)))

-- a node made of its parts, with so many levels more
abbrev pub made : {A B : Type 0} → (A → B) → ℕ → Reader (Node A) → Reader (Node B)
made f more p = λ i. and_then (p i) (λ a j. Some (node (f a.tree) (a.levels + more), j))

-- a node that passes a test
abbrev pub such : {A : Type 0} → Reader (Node A) → (A → Bool) → Reader (Node A)
such p test = λ i. and_then (p i) (λ a j. choose (test a.tree) (pure a) fail j)

-- a node made of its parts, one level above them and within n levels
abbrev pub above : {A B : Type 0} → ℕ → (A → B) → Reader (Node A) → Reader (Node B)
above n f p = λ i. and_then (p i) (λ a j. choose (nat_lt a.levels n) (pure (node (f a.tree) (a.levels + 1))) fail j)

-- the first reader where the next token begins its nodes, and else the second
abbrev pub choice : {A : Type 0} → Text → (Token → Bool) → Reader (Node A) → Reader (Node A) → Reader (Node A)
choice text begins p q = λ i. choose (begins (behind text i)) p q i

-- a node that spells nothing
abbrev pub empty : {A : Type 0} → A → Reader (Node A)
empty a = λ i. Some (node a 0, i)

-- a part where the next token begins one, or nothing
abbrev pub optional : {A : Type 0} → Text → (Token → Bool) → Reader (Node A) → Reader (Node (Option A))
optional text begins p = choice text begins (made Some 0 p) (empty None)

-- items while the next token begins one; there are no more than the text has bytes
abbrev pub many : {A : Type 0} → Text → (Token → Bool) → Reader (Node A) → Reader (Node (List A))
many text begins item = repeated (λ i. begins (behind text i)) item (length text) none

-- a node over a first child and items, one level above them and within n levels, and the child alone where there are no items
abbrev pub over : {A B : Type 0} → ℕ → (A → List B → A) → Node A → Node (List B) → Reader (Node A)
over n f first items =
    choose (is_empty items.tree) (pure first) (choose (nat_lt (max first.levels items.levels) n) (pure (node (f first.tree items.tree) (max first.levels items.levels + 1))) fail)

abbrev pub chain : {A B : Type 0} → ℕ → (A → List B → A) → Reader (Node A) → Reader (Node (List B)) → Reader (Node A)
chain n f head items = λ i. and_then (head i) (λ first m. and_then (items m) (λ rest. over n f first rest))
