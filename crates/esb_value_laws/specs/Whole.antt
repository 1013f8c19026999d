-- AssignmentExpressions as a whole (ECMA-262, 12.15).
use Rattle.std.specs.Prelude.{ℕ, Bool, true, false}
use Rattle.esb_tree.specs.declared.expressions.Expression.{Expression}
use Rattle.esb_tree.specs.declared.functions.ConciseBody.{ConciseBody}
use Rattle.esb_tree.specs.declared.patterns.Bracketed.{Bracketed}
use Rattle.esb_grammar.specs.declared.context.Context.{Context}
use Rattle.esb_reader.specs.declared.node.Node.{Node}
use Rattle.esb_reader.specs.Places.{Text}
use Rattle.esb_reader.specs.Reader.{Reader}
use Rattle.esb_reader.specs.Parts.{behind, such}
use Rattle.esb_assignment_laws.specs.Assignments.{assigned}
use Rattle.esb_literal_laws.specs.Forks.{fork}
use Rattle.esb_value_laws.specs.Arrows.{head_name, head_list, head_call, arrow, async_arrow, at_async_name, at_name, before_arrow}
use Rattle.esb_value_laws.specs.Yields.{is_yield, yielded}

abbrev pub at_yield : Text → Context → ℕ → Bool
at_yield text c i = is_yield c (behind text i)

-- `target` reads a ConditionalExpression, `below` an AssignmentExpression one level down, `arguments` a list of them in parentheses, `body` the body of an
-- arrow function, which may be async, and `covers` says whether such a list covers FormalParameters.
module _ (text : Text) (c : Context) (n : ℕ) (target below : Reader (Node Expression)) (arguments : Reader (Node Bracketed)) (body : Bool → Reader (Node ConciseBody)) (covers : Bracketed → Bool) where
  unfoldable pub list_or_plain : Reader (Node Expression)
  list_or_plain =
      fork (before_arrow text (head_list n arguments)) (arrow text n (head_list n (such arguments covers)) (body false))
      (fork (before_arrow text (head_call text n arguments)) (arrow text n (head_call text n (such arguments covers)) (body true)) (assigned text n target below))

  unfoldable pub value : Reader (Node Expression)
  value =
      fork (at_yield text c) (yielded text c n below)
      (fork (at_async_name text) (async_arrow text n (body true))
      (fork (at_name text c) (arrow text n (head_name text c) (body false)) list_or_plain))
