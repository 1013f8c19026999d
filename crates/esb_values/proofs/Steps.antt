-- Steps of loops.
use Rattle.std.proofs.Common.{◌≡◌, ℕ, suc, ◌+◌, ◌-◌, ◌<◌, List, length, refl, ap, ◌∙◌, arith}
use Rattle.esb_tree.specs.declared.expressions.Expression.{Expression}
use Rattle.esb_reader.specs.declared.node.Node.{Node}
use Rattle.esb_reader.specs.Places.{Text}
use Rattle.esb_reader.specs.Reader.{Reader, none, repeated}
use Rattle.esb_value_laws.specs.Commas.{comma_operand, comma_operands}
use Rattle.esb_values.specs.Commas.{at_comma}

-- a recursion on a count of turns, beside a loop that counts up
pub one_more : {X : Type 0} {x : X} (f : ℕ → X) (n at : ℕ) → at < n → x ≡ f (n - at) → x ≡ f (suc (n - (at + 1)))
one_more f n at below e = let turn : n - at ≡ suc (n - (at + 1)) = omega (arith, below) in e ∙ ap f turn

-- how a loop over commas begins
pub commas_begin : (text : Text) (value : Reader (Node Expression)) (i : ℕ) → comma_operands text value i ≡ repeated (at_comma text) (comma_operand text value) (length text) none i
unfolding comma_operands at_comma
commas_begin text value i = refl
