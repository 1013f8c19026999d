-- What a chain of readers gives is what goes on with the first operand.
use Rattle.std.proofs.Common.{◌≡◌, ℕ, zero, suc, true, false, Some, None, refl, ap, ◌∙◌}
use Rattle.esb_tree.specs.declared.expressions.Expression.{Expression}
use Rattle.esb_tree.specs.declared.expressions.Substitutions.{Substitutions}
use Rattle.esb_tree.specs.declared.patterns.Bracketed.{Bracketed}
use Rattle.esb_grammar.specs.declared.context.Context.{Context}
use Rattle.esb_reader.specs.declared.node.Node.{Node}
use Rattle.esb_reader.specs.Places.{Text}
use Rattle.esb_reader.specs.Reader.{Found, Reader, and_then, pure, fail}
use Rattle.esb_reader.specs.Parts.{behind}
use Rattle.esb_reading_laws.proofs.Steps.{if_not}
use Rattle.esb_operator_laws.specs.Ladder.{ladder}
use Rattle.esb_operator_laws.specs.Unary.{postfixed, unary}
use Rattle.esb_access_laws.specs.Access as read
use Rattle.esb_access_laws.specs.Access.{is_new, is_import, is_super}
use Rattle.esb_assignment_laws.specs.Assignments.{chosen, assigned}
use Rattle.esb_value_laws.specs.Laws.{GoingOnRule, OperandRule}

-- ---- binds

then_assoc : {A B C : Type 0} (r : Found A) (f : A → Reader B) (g : B → Reader C) → and_then (and_then r f) g ≡ and_then r (λ x m. and_then (f x m) g)
then_assoc None f g = refl
then_assoc (Some p) f g = refl

then_pure : {A : Type 0} (r : Found A) → r ≡ and_then r pure
then_pure None = refl
then_pure (Some p) = refl

-- a reader over a first one that goes on with what that one reads
pub record Through {A B : Type 0} (over : Reader A → Reader B) : Type 0 where
  pub same : (first : Reader A) (i : ℕ) → over first i ≡ and_then (first i) (λ x. over (pure x))

-- and what is bound to it
bound : {A B C : Type 0} (over : Reader A → Reader B) (next : B → Reader C) → Through over → Through (λ first i. and_then (over first i) next)
bound over next t = record { same = λ first i. ap (λ r. and_then r next) (t.same first i) ∙ then_assoc (first i) (λ x. over (pure x)) next }

itself : {A : Type 0} → Through (λ (first : Reader A). first)
itself = record { same = λ first i. then_pure (first i) }

-- ---- operators, branches, assignments

ladder_goes : (text : Text) (n : ℕ) (c : Context) (other : Reader (Node Expression)) (level : ℕ) → Through (λ first. ladder text n c other first level)
unfolding ladder
ladder_goes text n c other zero = itself
ladder_goes text n c other (suc level) = bound _ _ (bound (λ first. ladder text n c other first level) _ (ladder_goes text n c other level))

assigned_goes : (text : Text) (n : ℕ) (c : Context) (other inner below : Reader (Node Expression)) (level : ℕ) → Through (λ first. assigned text n (chosen text n (ladder text n c other first level) inner below) below)
unfolding assigned chosen
assigned_goes text n c other inner below level = bound _ _ (bound (λ first. ladder text n c other first level) _ (ladder_goes text n c other level))

pub going_on_rule : GoingOnRule
going_on_rule text c n level first other inner below i = (assigned_goes text n c other inner below level).same first i

-- ---- an operand

module _ (text : Text) (c : Context) (n : ℕ) (primary : Reader (Node Expression)) (arguments : Reader (Node Bracketed)) (template : Reader (Node Substitutions)) (values value : Reader (Node Expression)) where
  postfixed_goes : Through (λ start. postfixed text n (read.accessed text n primary arguments template values value true start))
  unfolding postfixed read.accessed
  postfixed_goes = bound _ _ (bound _ _ (bound (λ (start : Reader (Node Expression)). start) _ itself))

  origin_is : (callee : Reader (Node Expression)) (i : ℕ) → is_new (behind text i).kind ≡ false → is_import (behind text i).kind ≡ false → is_super (behind text i).kind ≡ false → read.origin text n primary arguments template values value true callee i ≡ primary i
  unfolding read.origin
  origin_is callee i h1 h2 h3 = if_not _ _ _ h1 ∙ if_not _ _ _ h2 ∙ if_not _ _ _ h3

  operand_is : (callee : Reader (Node Expression)) (i : ℕ) → is_new (behind text i).kind ≡ false → is_import (behind text i).kind ≡ false → is_super (behind text i).kind ≡ false
      → postfixed text n (read.accessed text n primary arguments template values value true (read.origin text n primary arguments template values value true callee)) i
      ≡ and_then (primary i) (λ x. postfixed text n (read.accessed text n primary arguments template values value true (pure x)))
  operand_is callee i h1 h2 h3 =
      postfixed_goes.same (read.origin text n primary arguments template values value true callee) i
      ∙ ap (λ r. and_then r (λ x. postfixed text n (read.accessed text n primary arguments template values value true (pure x)))) (origin_is callee i h1 h2 h3)

pub operand_rule : OperandRule
unfolding unary read.left
operand_rule text c zero primary arguments template values value i h h1 h2 h3 = if_not _ _ _ h ∙ operand_is text c zero (primary zero) (arguments zero) (template zero) (values zero) (value zero) fail i h1 h2 h3
operand_rule text c (suc n) primary arguments template values value i h h1 h2 h3 =
    if_not _ _ _ h ∙ operand_is text c (suc n) (primary (suc n)) (arguments (suc n)) (template (suc n)) (values (suc n)) (value (suc n)) (read.left text primary arguments template values value false n) i h1 h2 h3
