-- `yield` (ECMA-262, 14.4), over a reader of AssignmentExpressions one level down.
use Rattle.std.specs.Prelude.{◌≡◌, ℕ, Bool, true, false, not, ◌&&◌}
use Rattle.esb_token.specs.declared.kind.Kind.TheVariants as k
use Rattle.esb_token.specs.declared.token.Token.{Token}
use Rattle.esb_token.specs.declared.goal.Goal.TheVariants as goal
use Rattle.esb_tree.specs.declared.expressions.Expression.{Expression}
use Rattle.esb_tree.specs.declared.expressions.Expression.TheVariants as e
use Rattle.esb_tree.specs.Trees.{written}
use Rattle.esb_tree.specs.Yields.{tokens_of_expression}
use Rattle.esb_grammar.specs.declared.context.Context.{Context}
use Rattle.esb_grammar.specs.Grammar.{IsAssignment}
use Rattle.esb_grammar.specs.Kinds.{is_star}
use Rattle.esb_grammar.specs.Words.{on_line}
use Rattle.esb_reader.specs.declared.node.Node.{Node}
use Rattle.esb_reader.specs.Places.{Text}
use Rattle.esb_reader.specs.Reader.{Reader}
use Rattle.esb_reader.specs.Parts.{token_in, both, above}
use Rattle.esb_first_tokens.specs.First.{is_yield_in}
use Rattle.esb_literal_laws.specs.Forks.{fork, guard, second, on_one_line}
use Rattle.esb_assignment_laws.specs.Values.{goes_on_line}

-- YieldExpression
pub data IsYield (text : Text) : Context → Expression → Type 0 where
  alone : {c : Context} {word : Token} → c.has_yield ≡ true → word.kind ≡ k.Yield → IsYield text c (e.Yield word)
  of_value : {c : Context} {word : Token} {x : Expression} → c.has_yield ≡ true → word.kind ≡ k.Yield → on_line (tokens_of_expression written x) ≡ true → IsAssignment text c x → IsYield text c (e.YieldValue word x)
  of_each : {c : Context} {word star : Token} {x : Expression} → c.has_yield ≡ true → word.kind ≡ k.Yield → star.kind ≡ k.Star → star.after_line ≡ false → IsAssignment text c x → IsYield text c (e.YieldEach word star x)

-- the word, where it is an operator
abbrev pub is_yield : Context → Token → Bool
is_yield c t = is_yield_in c t.kind

abbrev pub is_star_on_line : Token → Bool
is_star_on_line t = is_star t.kind && not t.after_line

abbrev pub make_yield_value : Token × Expression → Expression
make_yield_value p = e.YieldValue p.0 p.1

abbrev pub make_yield_each : Token × (Token × Expression) → Expression
make_yield_each p = e.YieldEach p.0 p.1.0 p.1.1

unfoldable pub yield_alone : Text → Context → ℕ → Reader (Node Expression)
yield_alone text c n = above n e.Yield (token_in text goal.Div (is_yield c))

unfoldable pub yield_value : Text → Context → ℕ → Reader (Node Expression) → Reader (Node Expression)
yield_value text c n value = above n make_yield_value (both (token_in text goal.Div (is_yield c)) (guard (on_one_line text) value))

unfoldable pub yield_each : Text → Context → ℕ → Reader (Node Expression) → Reader (Node Expression)
yield_each text c n value = above n make_yield_each (both (token_in text goal.Div (is_yield c)) (both (token_in text goal.Div is_star_on_line) value))

abbrev pub before_star : Text → ℕ → Bool
before_star text i = is_star_on_line (second text i)

abbrev pub before_value : Text → ℕ → Bool
before_value text i = goes_on_line (second text i)

-- the word, and by the token behind it `*` and a value, a value, or nothing
unfoldable pub yielded : Text → Context → ℕ → Reader (Node Expression) → Reader (Node Expression)
yielded text c n value = fork (before_star text) (yield_each text c n value) (fork (before_value text) (yield_value text c n value) (yield_alone text c n))
