-- Readers that are told apart by a test at their place, which may look at more than the next token.
use Rattle.std.specs.Prelude.{ℕ, Bool, false, not, List, length, Some, None}
use Rattle.esb_token.specs.declared.token.Token.{Token}
use Rattle.esb_reader.specs.declared.node.Node.{Node}
use Rattle.esb_reader.specs.Places.{Text}
use Rattle.esb_reader.specs.Reader.{Found, Reader, fail, choose, none, repeated}
use Rattle.esb_reader.specs.Parts.{behind}

-- the first reader where a test holds at the place, and else the second
abbrev pub fork : {A : Type 0} → (ℕ → Bool) → Reader (Node A) → Reader (Node A) → Reader (Node A)
fork test p q = λ i. choose (test i) p q i

-- a reader where a test holds at the place
abbrev pub guard : {A : Type 0} → (ℕ → Bool) → Reader (Node A) → Reader (Node A)
guard test p = λ i. choose (test i) p fail i

-- items while a test holds at their places; there are no more than the text has bytes
abbrev pub items : {A : Type 0} → Text → (ℕ → Bool) → Reader (Node A) → Reader (Node (List A))
items text test item = repeated test item (length text) none

-- the token behind the next one
abbrev pub second : Text → ℕ → Token
second text i = behind text (behind text i).end

-- whether a reader reads a node before a token that passes a test
abbrev pub passes_behind : {A : Type 0} → Text → (Token → Bool) → Found A → Bool
passes_behind text test None = false
passes_behind text test (Some p) = test (behind text p.1)

abbrev pub reads_before : {A : Type 0} → Text → (Token → Bool) → Reader A → ℕ → Bool
reads_before text test p i = passes_behind text test (p i)

-- whether no line terminator stands before the next token
abbrev pub on_one_line : Text → ℕ → Bool
on_one_line text i = not (behind text i).after_line
