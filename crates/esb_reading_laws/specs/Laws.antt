-- Readers that are put together read exactly: each of these says of a part that it reads its nodes, where its own parts read theirs. They
-- hold of all kinds of node; a contract can name them of those whose well-formed nodes a test tells.
use Rattle.std.specs.Prelude.{◌≡◌, ℕ, suc, ◌+◌, max, ◌<◌, ◌≤◌, ◌⊎◌, Bool, true, false, List, [], ◌∷◌, ◌++◌, map, length, Some, Result}
use Rattle.std.specs.List.{flat_map, AllByRecursion}
use Rattle.esb_token.specs.declared.kind.Kind.{Kind}
use Rattle.esb_token.specs.declared.token.Token.{Token}
use Rattle.esb_token.specs.declared.goal.Goal.{Goal}
use Rattle.esb_token.specs.declared.goal.Goal.TheVariants as goal
use Rattle.esb_token.specs.Tokens.{SpelledBetween}
use Rattle.esb_tree.specs.Levels.{most}
use Rattle.esb_reader.specs.declared.fault.Fault.{Fault}
use Rattle.esb_reader.specs.declared.node.Node.{Node}
use Rattle.esb_reader.specs.Kinds.{agrees}
use Rattle.esb_reader.specs.Places.{Text}
use Rattle.esb_reader.specs.Reader.{Reader, none, Gives}
use Rattle.esb_reader.specs.Parts.{behind, token, token_in, both, made, such, above, chain, choice, empty, optional, many}
use Rattle.esb_reader.specs.Stands.{Syntax, Stands, Rule, Finds, FindsEach, tokens, tokens_in, pairs, row, which, either, Made, maybe, last_stops, list_stops}

-- ---- tokens

abbrev pub TokenRule : Type 0
TokenRule = (text : Text) (n top : ℕ) (kind : Kind) → agrees goal.Div kind ≡ true → Rule text (tokens kind) n top (λ _ _. true) (token text kind)

abbrev pub TokenInRule : Type 0
TokenInRule =
    (text : Text) (n top : ℕ) (g : Goal) (test : Token → Bool) → ((t : Token) → test t ≡ true → agrees g t.kind ≡ true)
    → Rule text (tokens_in test) n top (λ _ _. true) (token_in text g test)

-- a kind of node of which a test tells the well-formed ones
pub record Decided (A : Type 0) : Type 0 where
  pub yields : A → List Token
  pub levels_of : A → ℕ
  pub good : A → Bool

abbrev pub syntax_of : {A : Type 0} → Decided A → Syntax A
syntax_of S = record { yields = S.yields; levels_of = S.levels_of; Good = λ x. S.good x ≡ true }

-- ---- sequences

-- One part after the other. What ends the two has to end the second, and what follows the first has to end the first: where the second
-- spells nothing, that is what follows the two.
abbrev pub BothRule : Type 0 → Type 0 → Type 0
BothRule A B =
    (text : Text) (S : Decided A) (T : Decided B) (n top : ℕ) (stops : A → Token → Bool) (ends : B → Token → Bool) (whole : A × B → Token → Bool) (p : Reader (Node A)) (q : Reader (Node B))
    → Rule text (syntax_of S) n top stops p → Rule text (syntax_of T) n top ends q
    → ((a : A) (b : B) (t : Token) → whole (a, b) t ≡ true → ends b t ≡ true)
    → ((a : A) (b : B) (m j : ℕ) → S.good a ≡ true → T.good b ≡ true → SpelledBetween text m (T.yields b) j → whole (a, b) (behind text j) ≡ true → stops a (behind text m) ≡ true)
    → Rule text (pairs (syntax_of S) (syntax_of T)) n top whole (both p q)

-- the same nodes by other words, and fewer tokens that end them
abbrev pub SameRule : Type 0 → Type 0
SameRule A =
    (text : Text) (S T : Decided A) (n top : ℕ) (stops ends : A → Token → Bool) (read : Reader (Node A)) → Rule text (syntax_of S) n top stops read
    → S.yields ≡ T.yields → S.levels_of ≡ T.levels_of → ((x : A) → S.good x ≡ true → T.good x ≡ true) → ((x : A) → T.good x ≡ true → S.good x ≡ true)
    → ((x : A) (t : Token) → T.good x ≡ true → ends x t ≡ true → stops x t ≡ true) → Rule text (syntax_of T) n top ends read

-- a node of as many levels as its parts
abbrev pub PlainRule : Type 0 → Type 0 → Type 0
PlainRule A B =
    (text : Text) (S : Decided A) (yields : B → List Token) (levels_of : B → ℕ) (n top : ℕ) (stops : A → Token → Bool) (ends : B → Token → Bool) (f : A → B) (p : Reader (Node A))
    → Rule text (syntax_of S) n top stops p → ((a : A) → yields (f a) ≡ S.yields a) → ((a : A) → levels_of (f a) ≡ S.levels_of a) → ((a : A) (t : Token) → ends (f a) t ≡ true → stops a t ≡ true)
    → Rule text (record { yields = yields; levels_of = levels_of; Good = Made (syntax_of S) f }) n top ends (made f 0 p)

-- a node that passes a test
abbrev pub SuchRule : Type 0 → Type 0
SuchRule A =
    (text : Text) (S : Decided A) (n top : ℕ) (stops : A → Token → Bool) (test : A → Bool) (p : Reader (Node A)) → Rule text (syntax_of S) n top stops p
    → Rule text (which (syntax_of S) (λ x. (S.good x ≡ true) × (test x ≡ true))) n top stops (such p test)

-- a node one level above its parts
abbrev pub AboveRule : Type 0 → Type 0 → Type 0
AboveRule A B =
    (text : Text) (S : Decided A) (yields : B → List Token) (levels_of : B → ℕ) (n top : ℕ) (stops : A → Token → Bool) (ends : B → Token → Bool) (f : A → B) (p : Reader (Node A))
    → Rule text (syntax_of S) n top stops p → n ≤ top → ((a : A) → yields (f a) ≡ S.yields a) → ((a : A) → levels_of (f a) ≡ S.levels_of a + 1) → ((a : A) (t : Token) → ends (f a) t ≡ true → stops a t ≡ true)
    → Rule text (record { yields = yields; levels_of = levels_of; Good = Made (syntax_of S) f }) n (suc n) ends (above n f p)

-- ---- choices by the next token

-- What one reads begins as the test says, and what the other reads doesn't. A node that spells nothing begins with what follows it.
abbrev pub ChoiceRule : Type 0 → Type 0
ChoiceRule A =
    (text : Text) (S : Decided A) (first second : A → Bool) (n top : ℕ) (stops : A → Token → Bool) (begins : Token → Bool) (p q : Reader (Node A))
    → Rule text (which (syntax_of S) (λ x. first x ≡ true)) n top stops p → Rule text (which (syntax_of S) (λ x. second x ≡ true)) n top stops q
    → ((x : A) (i j : ℕ) → first x ≡ true → SpelledBetween text i (S.yields x) j → begins (behind text i) ≡ true)
    → ((x : A) (i j : ℕ) → second x ≡ true → SpelledBetween text i (S.yields x) j → stops x (behind text j) ≡ true → begins (behind text i) ≡ false)
    → Rule text (either (syntax_of S) (λ x. first x ≡ true) (λ x. second x ≡ true)) n top stops (choice text begins p q)

abbrev pub EmptyRule : Type 0 → Type 0
EmptyRule A =
    (text : Text) (yields : A → List Token) (levels_of : A → ℕ) (n top : ℕ) (stops : A → Token → Bool) (a : A) → yields a ≡ [] → levels_of a ≡ 0
    → Rule text (record { yields = yields; levels_of = levels_of; Good = λ x. x ≡ a }) n top stops (empty a)

-- what ends the part does not begin one
abbrev pub OptionalRule : Type 0 → Type 0
OptionalRule A =
    (text : Text) (S : Decided A) (n top : ℕ) (ends begins : Token → Bool) (p : Reader (Node A)) → Rule text (syntax_of S) n top (λ _. ends) p
    → ((x : A) (i j : ℕ) → S.good x ≡ true → SpelledBetween text i (S.yields x) j → begins (behind text i) ≡ true)
    → ((t : Token) → ends t ≡ true → begins t ≡ false)
    → Rule text (maybe (syntax_of S)) n top (λ _. ends) (optional text begins p)

-- ---- lists

-- Items that a test at their places tells from what follows them. Each takes a byte.
pub record Repeats {A : Type 0} (text : Text) (S : Syntax A) (n top : ℕ) (test : ℕ → Bool) (stops : A → Token → Bool) (item : Reader (Node A)) : Type 0 where
  pub rule : Rule text S n top stops item
  pub starts : (x : A) (i j : ℕ) → S.Good x → SpelledBetween text i (S.yields x) j → test i ≡ true
  pub moves : (x : A) (i j : ℕ) → S.Good x → SpelledBetween text i (S.yields x) j → (i < j) × (j ≤ length text)
  pub apart : (x : A) (i : ℕ) → S.Good x → test i ≡ true → stops x (behind text i) ≡ true

abbrev pub ManyRule : Type 0 → Type 0
ManyRule A =
    (text : Text) (S : Decided A) (n top : ℕ) (begins : Token → Bool) (stops : A → Token → Bool) (item : Reader (Node A))
    → Repeats text (syntax_of S) n top (λ i. begins (behind text i)) stops item → Rule text (row (syntax_of S)) n top (list_stops stops begins) (many text begins item)

-- where no item begins there is none
abbrev pub NoItems : Type 0 → Type 0
NoItems A = (text : Text) (begins : Token → Bool) (item : Reader (Node A)) (i : ℕ) → begins (behind text i) ≡ false → many text begins item i ≡ Some (none, i)

-- ---- chains

-- a node with items
pub record Longer {A B : Type 0} (T : Syntax B) (Head : A → Type 0) (f : A → List B → A) (x : A) : Type 0 where
  pub first : A
  pub second : B
  pub rest : List B
  pub is : x ≡ f first (second ∷ rest)
  pub head : Head first
  pub tail : AllByRecursion T.Good (second ∷ rest)

-- The nodes of the sort Whole are those of the sort Head, alone or with items.
pub record Extends {A B : Type 0} (text : Text) (S : Syntax A) (T : Syntax B) (Head Whole : A → Type 0) (f : A → List B → A) (begins : Token → Bool) (stops : A → Token → Bool) (item_stops : B → Token → Bool) (whole : A → Token → Bool) : Type 0 where
  pub yields : (first : A) (items : List B) → S.yields (f first items) ≡ S.yields first ++ flat_map T.yields items
  pub levels_of : (first : A) (items : List B) → S.levels_of (f first items) ≡ max (S.levels_of first) (most (map T.levels_of items)) + 1
  pub alone : (x : A) → Head x → Whole x
  pub made : (first : A) (second : B) (rest : List B) → Head first → AllByRecursion T.Good (second ∷ rest) → Whole (f first (second ∷ rest))
  pub split : (x : A) → Whole x → Head x ⊎ Longer T Head f x
  pub starts : (y : B) (i j : ℕ) → T.Good y → SpelledBetween text i (T.yields y) j → begins (behind text i) ≡ true
  pub head_apart : (x : A) (t : Token) → Head x → begins t ≡ true → stops x t ≡ true
  pub head_ends : (x : A) (t : Token) → Head x → whole x t ≡ true → stops x t ≡ true
  pub item_ends : (first : A) (second : B) (rest : List B) (t : Token) → whole (f first (second ∷ rest)) t ≡ true → last_stops item_stops (second ∷ rest) t ≡ true
  pub none_begins : (x : A) (t : Token) → whole x t ≡ true → begins t ≡ false

abbrev pub ChainRule : Type 0 → Type 0 → Type 0
ChainRule A B =
    (text : Text) (n top : ℕ) (S : Decided A) (T : Decided B) (head_test whole_test : A → Bool) (f : A → List B → A) (begins : Token → Bool) (stops : A → Token → Bool) (item_stops : B → Token → Bool) (whole : A → Token → Bool)
    (head : Reader (Node A)) (items : Reader (Node (List B)))
    → Rule text (which (syntax_of S) (λ x. head_test x ≡ true)) n (suc n) stops head → Rule text (row (syntax_of T)) n top (list_stops item_stops begins) items
    → ((j : ℕ) → begins (behind text j) ≡ false → items j ≡ Some (none, j)) → n ≤ top
    → Extends text (syntax_of S) (syntax_of T) (λ x. head_test x ≡ true) (λ x. whole_test x ≡ true) f begins stops item_stops whole
    → Rule text (which (syntax_of S) (λ x. whole_test x ≡ true)) n (suc n) whole (chain n f head items)

-- ---- what a rule gives

-- A node that stands somewhere and stops is the only one there that stops, wherever each ends.
abbrev pub OneNode : Type 0 → Type 0
OneNode A =
    (text : Text) (S : Decided A) (n : ℕ) (stops : A → Token → Bool) (read : Reader (Node A)) → Rule text (syntax_of S) n (suc n) stops read
    → (x y : Node A) (i j k : ℕ) → Stands text (syntax_of S) n x i j → stops x.tree (behind text j) ≡ true → Stands text (syntax_of S) n y i k → stops y.tree (behind text k) ≡ true → (x ≡ y) × (j ≡ k)

-- the two directions of a function that gives what the reader gives
abbrev pub RuleFinds : Type 0 → Type 0
RuleFinds A =
    (text : Text) (S : Decided A) (n : ℕ) (stops : A → Token → Bool) (read : Reader (Node A)) → Rule text (syntax_of S) n (suc n) stops read
    → (at : ℕ) (r : Result (Node A × ℕ) Fault) → Gives r (read at) → Finds text (syntax_of S) n at r × FindsEach text (syntax_of S) n stops at r
