-- AssignmentExpressions behind what was read first, over what is handed in.
use Rattle.std.specs.Prelude.{ℕ, Bool, true, false}
use Rattle.esb_token.specs.declared.token.Token.{Token}
use Rattle.esb_tree.specs.declared.expressions.Expression.{Expression}
use Rattle.esb_tree.specs.declared.expressions.Substitutions.{Substitutions}
use Rattle.esb_tree.specs.declared.patterns.Bracketed.{Bracketed}
use Rattle.esb_tree.specs.declared.statements.Block.{Block}
use Rattle.esb_grammar.specs.declared.context.Context.{Context}
use Rattle.esb_grammar.specs.Contexts.{inside}
use Rattle.esb_reader.specs.declared.node.Node.{Node}
use Rattle.esb_reader.specs.Places.{Text}
use Rattle.esb_reader.specs.Reader.{Reader}
use Rattle.esb_inner.specs.Inner.{below}
use Rattle.esb_access_laws.specs.Access as access
use Rattle.esb_value_laws.specs.Levels as levels
use Rattle.esb_values.specs.Behind as read

module _ (expression : Bool → Context → Text → ℕ → Reader (Node Expression)) (primary : Context → Text → ℕ → Reader (Node Expression)) (arguments : Context → Text → ℕ → Reader (Node Bracketed)) (template : Context → Text → ℕ → Reader (Node Substitutions)) (block : Context → Text → ℕ → Reader (Node Block)) (c : Context) (text : Text) where
  -- a LeftHandSideExpression
  abbrev pub left : ℕ → Reader (Node Expression)
  left = access.left text (primary c text) (arguments c text) (template c text) (below (expression true (inside c)) text) (below (expression false (inside c)) text) true

  abbrev pub assignment : ℕ → Reader (Node Expression)
  assignment n = levels.assignment text c (primary c text) (arguments c text) (template c text) (below (expression true (inside c)) text) (λ d. below (expression false d) text) (λ d. block d text) n

  abbrev pub behind_left : ℕ → Node Expression → Reader (Node Expression)
  behind_left n x = read.behind_left text c (primary c text) (arguments c text) (template c text) (below (expression true (inside c)) text) (λ d. below (expression false d) text) (λ d. block d text) n x

  abbrev pub behind_head : ℕ → Bool → Node Expression → Reader (Node Expression)
  behind_head n is_async_body head = read.behind_head text c (primary c text) (arguments c text) (template c text) (below (expression true (inside c)) text) (λ d. below (expression false d) text) (λ d. block d text) n is_async_body head

  abbrev pub behind_primary : ℕ → Node Expression → Reader (Node Expression)
  behind_primary n x = read.behind_primary text c (primary c text) (arguments c text) (template c text) (below (expression true (inside c)) text) (λ d. below (expression false d) text) (λ d. block d text) n x

  abbrev pub behind_list : ℕ → Node Bracketed → Reader (Node Expression)
  behind_list n list = read.behind_list text c (primary c text) (arguments c text) (template c text) (below (expression true (inside c)) text) (λ d. below (expression false d) text) (λ d. block d text) n list

  abbrev pub behind_async : ℕ → Token → ℕ → Node Bracketed → Reader (Node Expression)
  behind_async n word m list = read.behind_async text c (primary c text) (arguments c text) (template c text) (below (expression true (inside c)) text) (λ d. below (expression false d) text) (λ d. block d text) n word m list
