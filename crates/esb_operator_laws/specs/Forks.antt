-- One of two kinds of part, which the next token tells apart.
use Rattle.std.specs.Prelude.{ℕ, Bool, ◌⊎◌, List}
use mathlib.Core.Logic.{inl, inr}
use Rattle.esb_token.specs.declared.token.Token.{Token}
use Rattle.esb_reader.specs.declared.node.Node.{Node}
use Rattle.esb_reader.specs.Places.{Text}
use Rattle.esb_reader.specs.Reader.{Reader}
use Rattle.esb_reader.specs.Parts.{made, choice}
use Rattle.esb_reader.specs.Stands.{Syntax}

abbrev pub fork : {A B : Type 0} → Text → (Token → Bool) → Reader (Node A) → Reader (Node B) → Reader (Node (A ⊎ B))
fork text begins p q = choice text begins (made inl 0 p) (made inr 0 q)

abbrev pub fork_yields : {A B : Type 0} → Syntax A → Syntax B → A ⊎ B → List Token
fork_yields S T (inl a) = S.yields a
fork_yields S T (inr b) = T.yields b

abbrev pub fork_levels : {A B : Type 0} → Syntax A → Syntax B → A ⊎ B → ℕ
fork_levels S T (inl a) = S.levels_of a
fork_levels S T (inr b) = T.levels_of b

abbrev pub IsFork : {A B : Type 0} → Syntax A → Syntax B → A ⊎ B → Type 0
IsFork S T (inl a) = S.Good a
IsFork S T (inr b) = T.Good b

-- either kind of part
abbrev pub forks : {A B : Type 0} → Syntax A → Syntax B → Syntax (A ⊎ B)
forks S T = record { yields = fork_yields S T; levels_of = fork_levels S T; Good = IsFork S T }

abbrev pub fork_stops : {A B : Type 0} → (A → Token → Bool) → (B → Token → Bool) → A ⊎ B → Token → Bool
fork_stops stops ends (inl a) t = stops a t
fork_stops stops ends (inr b) t = ends b t
