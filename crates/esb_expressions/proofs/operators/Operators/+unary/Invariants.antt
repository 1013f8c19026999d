use Rattle.std.proofs.Common.{◌+◌, ◌*◌}
use Rattle.esb_expressions.proofs.operators.Operators.+unary.Given as goal

abbrev pub decreases-unary_below : goal.decreases-unary_below
decreases-unary_below g l = 3 * l.levels

abbrev pub decreases-prefixed : goal.decreases-prefixed
decreases-prefixed g l = 3 * l.levels + 1

abbrev pub decreases-unary : goal.decreases-unary
decreases-unary g l = 3 * l.levels + 2
