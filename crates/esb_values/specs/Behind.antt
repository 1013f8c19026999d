-- AssignmentExpressions behind a list in parentheses that was read first.
use Rattle.std.specs.Prelude.{ℕ, ◌+◌, Bool, true, false, not, ◌&&◌, nat_lt}
use Rattle.esb_token.specs.declared.token.Token.{Token}
use Rattle.esb_tree.specs.declared.expressions.Expression.{Expression}
use Rattle.esb_tree.specs.declared.expressions.Expression.TheVariants as e
use Rattle.esb_tree.specs.declared.expressions.Substitutions.{Substitutions}
use Rattle.esb_tree.specs.declared.patterns.Bracketed.{Bracketed}
use Rattle.esb_tree.specs.declared.statements.Block.{Block}
use Rattle.esb_grammar.specs.declared.context.Context.{Context}
use Rattle.esb_grammar.specs.Contexts.{inside}
use Rattle.esb_grammar.specs.Grammar.{loosest}
use Rattle.esb_reader.specs.declared.node.Node.{Node}
use Rattle.esb_reader.specs.Places.{Text}
use Rattle.esb_reader.specs.Reader.{Reader, fail, choose, pure, node}
use Rattle.esb_reader.specs.Parts.{behind}
use Rattle.esb_operator_laws.specs.Ladder.{ladder}
use Rattle.esb_operator_laws.specs.Unary.{postfixed, unary}
use Rattle.esb_access_laws.specs.Access.{accessed, left}
use Rattle.esb_assignment_laws.specs.Assignments.{chosen, assigned}
use Rattle.esb_value_laws.specs.Arrows.{is_arrow_on_line, make_call, arrow}
use Rattle.esb_value_laws.specs.Covers.{covers_parameters}
use Rattle.esb_value_laws.specs.Levels.{arrow_body}
use Rattle.esb_value_laws.specs.Once.{is_plain_list}

-- a list in parentheses as an expression
abbrev pub listed_node : Node Bracketed → Node Expression
listed_node list = node (e.Parenthesized list.tree) (list.levels + 1)

-- a name and a list as an expression
abbrev pub call_node : Token → Node Bracketed → Node Expression
call_node word list = node (make_call (word, list.tree)) (list.levels + 1)

-- a name as an expression
abbrev pub word_node : Token → Node Expression
word_node word = node (e.Primary word) 0

-- whether a list may stand where it does: before an arrow as parameters, and else as values
abbrev pub fits_behind : Bool → ℕ → Bracketed → Bool
fits_behind true n list = covers_parameters n list
fits_behind false n list = is_plain_list list

-- whether a list of so many levels at a place is that of an async arrow function, by the place behind it
abbrev pub is_async_head : Text → ℕ → ℕ → ℕ → ℕ → Bool
is_async_head text n m depth j = not (behind text m).after_line && (nat_lt depth n && is_arrow_on_line (behind text j))

module _ (text : Text) (c : Context) (primary : ℕ → Reader (Node Expression)) (arguments : ℕ → Reader (Node Bracketed)) (template : ℕ → Reader (Node Substitutions)) (many : ℕ → Reader (Node Expression)) (one : Context → ℕ → Reader (Node Expression)) (block : Context → ℕ → Reader (Node Block)) where
  -- operators, a choice and an assignment over a first operand
  unfoldable pub over_operand : ℕ → Reader (Node Expression) → Reader (Node Expression)
  over_operand n first = assigned text n (chosen text n (ladder text n c (unary text c (left text primary arguments template many (one (inside c)) true) n) first loosest) (one (inside c) n) (one c n)) (one c n)

  -- links behind a node that was read
  unfoldable pub links_of : ℕ → Node Expression → Reader (Node Expression)
  links_of n x = accessed text n (primary n) (arguments n) (template n) (many n) (one (inside c) n) true (pure x)

  -- what goes on with a LeftHandSideExpression that was read
  unfoldable pub behind_left : ℕ → Node Expression → Reader (Node Expression)
  behind_left n x = over_operand n (postfixed text n (pure x))

  -- what goes on with a PrimaryExpression that was read
  unfoldable pub behind_primary : ℕ → Node Expression → Reader (Node Expression)
  behind_primary n x = over_operand n (postfixed text n (links_of n x))

  -- the rest of an arrow function, which may be async, behind its head
  unfoldable pub behind_head : ℕ → Bool → Node Expression → Reader (Node Expression)
  behind_head n is_async_body head = arrow text n (pure head) (arrow_body text c primary arguments template many one block n is_async_body)

  -- what goes on with a list that was read: an arrow function where `=>` stands behind it, and else what a list of values begins
  unfoldable pub behind_list : ℕ → Node Bracketed → Reader (Node Expression)
  behind_list n list = λ j.
      choose (nat_lt list.levels n)
      (choose (fits_behind (is_arrow_on_line (behind text j)) n list.tree)
      (choose (is_arrow_on_line (behind text j)) (behind_head n false (listed_node list)) (behind_primary n (listed_node list))) fail) fail j

  -- what goes on with `async` and a list at a place, which were read
  unfoldable pub behind_async : ℕ → Token → ℕ → Node Bracketed → Reader (Node Expression)
  behind_async n word m list = λ j.
      choose (is_async_head text n m list.levels j)
      (choose (covers_parameters n list.tree) (behind_head n true (call_node word list)) fail)
      (λ _. behind_primary n (word_node word) m) j
