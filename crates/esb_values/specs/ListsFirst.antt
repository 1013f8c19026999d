-- What is asked of the readers of PrimaryExpressions and of Arguments, so that a list in parentheses may be read first.
use Rattle.std.specs.Prelude.{◌≡◌, ℕ, Bool, true, false, ◌&&◌, Some, None}
use Rattle.esb_tree.specs.declared.expressions.Expression.{Expression}
use Rattle.esb_tree.specs.declared.expressions.Expression.TheVariants as e
use Rattle.esb_tree.specs.declared.patterns.Bracketed.{Bracketed}
use Rattle.esb_grammar.specs.Words.{is_async}
use Rattle.esb_reader.specs.declared.node.Node.{Node}
use Rattle.esb_reader.specs.Places.{Text}
use Rattle.esb_reader.specs.Reader.{Reader, node}
use Rattle.esb_reader.specs.Parts.{behind, such, above}
use Rattle.esb_access_laws.specs.Links.{is_left_parenthesis}
use Rattle.esb_literal_laws.specs.Forks.{second}
use Rattle.esb_value_laws.specs.Once.{is_plain_list}

-- where `async` is seen before `(`
abbrev pub at_async_list : Text → ℕ → Bool
at_async_list text i = is_async text (behind text i) && is_left_parenthesis (second text i).kind

pub record ListsFirst (text : Text) (primary : ℕ → Reader (Node Expression)) (arguments : ℕ → Reader (Node Bracketed)) (n : ℕ) : Type 0 where
  -- Arguments begin with `(`, which their reader reads first.
  pub begins : (i : ℕ) → is_left_parenthesis (behind text i).kind ≡ false → arguments n i ≡ None
  -- Where `(` is seen, a PrimaryExpression is a list of values in parentheses, which is what is read as Arguments and has values alone (`once` of `esb_value_laws`).
  pub listed : (i : ℕ) → is_left_parenthesis (behind text i).kind ≡ true → primary n i ≡ above n e.Parenthesized (such (arguments n) is_plain_list) i
  -- Where `async` is seen before `(`, a PrimaryExpression is this name.
  pub named : (i : ℕ) → at_async_list text i ≡ true → primary n i ≡ Some (node (e.Primary (behind text i)) 0, (behind text i).end)
