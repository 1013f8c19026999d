use Rattle.std.proofs.Common.{◌+◌, ◌*◌}
use Rattle.esb_parse.proofs.knot.+knot.Given as goal

abbrev pub decreases-value : goal.decreases-value
decreases-value l = 4 * l.levels + 2

abbrev pub decreases-expression : goal.decreases-expression
decreases-expression l = 4 * l.levels + 3

abbrev pub decreases-left : goal.decreases-left
decreases-left l = 4 * l.levels + 1

abbrev pub decreases-primary : goal.decreases-primary
decreases-primary l = 4 * l.levels

abbrev pub decreases-arguments : goal.decreases-arguments
decreases-arguments l = 4 * l.levels

abbrev pub decreases-template : goal.decreases-template
decreases-template l = 4 * l.levels

abbrev pub decreases-block : goal.decreases-block
decreases-block l = 4 * l.levels

abbrev pub decreases-value_below : goal.decreases-value_below
decreases-value_below l = 4 * l.levels

abbrev pub decreases-target : goal.decreases-target
decreases-target l = 4 * l.levels

abbrev pub decreases-binding : goal.decreases-binding
decreases-binding l = 4 * l.levels

abbrev pub decreases-function : goal.decreases-function
decreases-function l = 4 * l.levels

abbrev pub decreases-class : goal.decreases-class
decreases-class l = 4 * l.levels

abbrev pub decreases-items_below : goal.decreases-items_below
decreases-items_below l = 4 * l.levels

abbrev pub decreases-statement_below : goal.decreases-statement_below
decreases-statement_below l = 4 * l.levels

abbrev pub decreases-items : goal.decreases-items
decreases-items l = 4 * l.levels + 1

abbrev pub decreases-statement : goal.decreases-statement
decreases-statement l = 4 * l.levels + 1
