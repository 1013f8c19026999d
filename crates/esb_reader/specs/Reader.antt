-- Readers: functions from a place of a text to what stands there and the place behind it, or to nothing.
use Rattle.std.specs.Prelude.{◌≡◌, ℕ, zero, suc, max, Bool, if◌then◌else◌, List, [], ◌∷◌, ◌++◌, Option, Some, None, Result, Ok, Err}
use Rattle.esb_token.specs.declared.kind.Kind.{Kind}
use Rattle.esb_token.specs.declared.token.Token.{Token}
use Rattle.esb_token.specs.declared.goal.Goal.{Goal}
use Rattle.esb_token.specs.declared.goal.Goal.TheVariants as goal
use Rattle.esb_reader.specs.declared.node.Node.{Node}
use Rattle.esb_reader.specs.declared.fault.Fault.{Fault}
use Rattle.esb_reader.specs.declared.fault.Fault.TheVariants as fault
use Rattle.esb_reader.specs.Kinds.{same_kind}
use Rattle.esb_reader.specs.Places.{Text, token_at}

abbrev pub Found : Type 0 → Type 0
Found A = Option (A × ℕ)

abbrev pub Reader : Type 0 → Type 0
Reader A = ℕ → Found A

abbrev pub and_then : {A B : Type 0} → Found A → (A → Reader B) → Found B
and_then None f = None
and_then (Some p) f = f p.0 p.1

infixl 10 ◌>>=◌
abbrev pub ◌>>=◌ : {A B : Type 0} → Reader A → (A → Reader B) → Reader B
p >>= f = λ i. and_then (p i) f

infixl 10 ◌>>◌
abbrev pub ◌>>◌ : {A B : Type 0} → Reader A → Reader B → Reader B
p >> q = p >>= (λ _. q)

abbrev pub pure : {A : Type 0} → A → Reader A
pure a = λ i. Some (a, i)

abbrev pub fail : {A : Type 0} → Reader A
fail = λ i. None

-- the first reader where a test holds, and else the second
abbrev pub choose : {A : Type 0} → Bool → Reader A → Reader A → Reader A
choose t p q = λ i. if t then p i else q i

abbrev pub with_end : Option Token → Found Token
with_end None = None
with_end (Some t) = Some (t, t.end)

-- the next token, whatever it is
unfoldable pub take : Text → Goal → Reader Token
take text g = λ i. with_end (token_at text g i)

-- the next token, which is of a kind
unfoldable pub expect : Text → Kind → Reader Token
expect text kind = take text goal.Div >>= (λ t. choose (same_kind t.kind kind) (pure t) fail)

abbrev pub node : {A : Type 0} → A → ℕ → Node A
node tree levels = record { tree = tree; levels = levels }

-- Items while a test holds at their places, behind those found. The levels of a list are the most that an item has.
unfoldable pub repeated : {A : Type 0} → (ℕ → Bool) → Reader (Node A) → ℕ → Node (List A) → Reader (Node (List A))
repeated test item zero found = pure found
repeated test item (suc turns) found = λ i. if test i then and_then (item i) (λ x. repeated test item turns (node (found.tree ++ x.tree ∷ []) (max found.levels x.levels))) else Some (found, i)

abbrev pub none : {A : Type 0} → Node (List A)
none = node [] 0

-- what a function returned is what a reader gives, unless memory ran out
abbrev pub Gives : {A : Type 0} → Result (A × ℕ) Fault → Found A → Type 0
Gives (Ok p) found = found ≡ Some p
Gives (Err (fault.NoTree at)) found = found ≡ None
Gives (Err fault.Memory) found = Unit {0}
