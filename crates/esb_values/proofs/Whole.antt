-- What an AssignmentExpression is, by the tests at its place, and what stands behind its first operand.
use Rattle.std.proofs.Common.{◌≡◌, ℕ, true, false, ap, ◌∙◌}
use Rattle.esb_tree.specs.declared.expressions.Expression.{Expression}
use Rattle.esb_tree.specs.declared.expressions.Substitutions.{Substitutions}
use Rattle.esb_tree.specs.declared.patterns.Bracketed.{Bracketed}
use Rattle.esb_tree.specs.declared.statements.Block.{Block}
use Rattle.esb_grammar.specs.declared.context.Context.{Context}
use Rattle.esb_grammar.specs.Contexts.{inside}
use Rattle.esb_reader.specs.declared.node.Node.{Node}
use Rattle.esb_reader.specs.Places.{Text}
use Rattle.esb_reader.specs.Reader.{Reader, pure}
use Rattle.esb_reading_laws.proofs.Steps.{if_goes, if_not}
use Rattle.esb_operator_laws.specs.Unary.{postfixed, unary}
use Rattle.esb_access_laws.specs.Access.{left}
use Rattle.esb_assignment_laws.specs.Assignments.{assigned}
use Rattle.esb_expressions.specs.Values.{valued}
use Rattle.esb_value_laws.specs.Arrows.{head_name, arrow, async_arrow, at_async_name, at_name}
use Rattle.esb_value_laws.specs.Levels.{conditional, arrow_body, assignment}
use Rattle.esb_value_laws.specs.Whole.{at_yield, value}
use Rattle.esb_value_laws.specs.Yields.{yielded}
use Rattle.esb_values.specs.Behind.{over_operand, behind_left}

module _ (text : Text) (c : Context) (primary : ℕ → Reader (Node Expression)) (arguments : ℕ → Reader (Node Bracketed)) (template : ℕ → Reader (Node Substitutions)) (many : ℕ → Reader (Node Expression)) (one : Context → ℕ → Reader (Node Expression)) (block : Context → ℕ → Reader (Node Block)) (n : ℕ) where
  abbrev entire : Reader (Node Expression)
  entire = assignment text c primary arguments template many one block n

  pub at_yields : (i : ℕ) → at_yield text c i ≡ true → entire i ≡ yielded text c n (one c n) i
  unfolding assignment value
  at_yields i h = if_goes _ _ _ h

  pub at_async_names : (i : ℕ) → at_yield text c i ≡ false → at_async_name text i ≡ true → entire i ≡ async_arrow text n (arrow_body text c primary arguments template many one block n true) i
  unfolding assignment value
  at_async_names i h h1 = if_not _ _ _ h ∙ if_goes _ _ _ h1

  pub at_names : (i : ℕ) → at_yield text c i ≡ false → at_async_name text i ≡ false → at_name text c i ≡ true → entire i ≡ arrow text n (head_name text c) (arrow_body text c primary arguments template many one block n false) i
  unfolding assignment value
  at_names i h h1 h2 = if_not _ _ _ h ∙ if_not _ _ _ h1 ∙ if_goes _ _ _ h2

  -- over a reader of LeftHandSideExpressions that is another name of the same
  module _ (lefts : ℕ → Reader (Node Expression)) (same : lefts ≡ left text primary arguments template many (one (inside c)) true) where
    pub others : (i : ℕ) → valued text n c (unary text c lefts n) (λ d. one d n) (unary text c lefts n) i ≡ assigned text n (conditional text c primary arguments template many one block n) (one c n) i
    unfolding valued conditional
    others i = ap (λ (l : ℕ → Reader (Node Expression)). valued text n c (unary text c l n) (λ d. one d n) (unary text c l n) i) same

    pub lefts_go : (x : Node Expression) (i : ℕ) → valued text n c (unary text c lefts n) (λ d. one d n) (postfixed text n (pure x)) i ≡ behind_left text c primary arguments template many one block n x i
    unfolding valued behind_left over_operand
    lefts_go x i = ap (λ (l : ℕ → Reader (Node Expression)). valued text n c (unary text c l n) (λ d. one d n) (postfixed text n (pure x)) i) same
