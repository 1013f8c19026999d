-- The semicolon at the end of a statement, which is there or may have been left out.
use Rattle.std.specs.Prelude.{◌≡◌, ℕ, Bool, true, false, Option, Some, None, Result, Ok, Err}
use Rattle.esb_token.specs.declared.kind.Kind.TheVariants as k
use Rattle.esb_token.specs.declared.token.Token.{Token}
use Rattle.esb_token.specs.declared.goal.Goal.TheVariants as goal
use Rattle.esb_token.specs.Tokens.{next}
use Rattle.esb_tree.specs.Trees.{written}
use Rattle.esb_tree.specs.Yields.{Tokens}
use Rattle.esb_grammar.specs.Kinds.{is_semicolon}
use Rattle.esb_grammar.specs.Semicolons.{end_from}
use Rattle.esb_reader.specs.declared.node.Node.{Node}
use Rattle.esb_reader.specs.Places.{Text, token_at}
use Rattle.esb_reader.specs.Reader.{Reader}
use Rattle.esb_reader.specs.Parts.{token, made, choice, empty}
use Rattle.esb_reader.specs.Stands.{Syntax}
use Rattle.esb_statement_laws.specs.Sequels.{follows, at_place, linked}

-- A test of what is read behind a statement says whether its semicolon may be left out there.
abbrev pub LeftOut : Type 0
LeftOut = Result Token ℕ → Bool

abbrev pub may_end : LeftOut → Option Token → Bool
may_end test None = false
may_end test (Some t) = test (Ok t)

unfoldable pub ending : Text → LeftOut → Reader (Node (Option Token))
ending text test = choice text (λ t. is_semicolon t.kind) (made Some 0 (token text k.Semicolon)) (at_place (λ i. may_end test (token_at text goal.Div i)) (empty None))

-- a part with the semicolon behind it
abbrev pub closed : {A : Type 0} → Text → (A → LeftOut) → Reader (Node A) → Reader (Node (A × Option Token))
closed text test p = follows p (λ a. ending text (test a))

-- ---- the nodes

-- the semicolon behind tokens
abbrev pub Closed : Text → LeftOut → Tokens → Option Token → Type 0
Closed text test ts (Some semicolon) = semicolon.kind ≡ k.Semicolon
Closed text test ts None = test (next text (end_from 0 ts) goal.Div) ≡ true

abbrev pub endings : Text → LeftOut → Tokens → Syntax (Option Token)
endings text test ts = record { yields = written; levels_of = λ o. 0; Good = Closed text test ts }

-- a part, the semicolon behind it, and the tokens that this one is behind
abbrev pub closings : {A : Type 0} → Text → (A → LeftOut) → (A → Tokens) → Syntax A → Syntax (A × Option Token)
closings text test ts S = linked S (λ a. endings text (test a) (ts a))

-- What a test asks: a token is there, and it is no semicolon.
pub record IsEndTest (test : LeftOut) : Type 0 where
  pub read : (at : ℕ) → test (Err at) ≡ false
  pub other : (t : Token) → test (Ok t) ≡ true → is_semicolon t.kind ≡ false
