use Rattle.std.proofs.Common.{◌+◌, ◌*◌}
use Rattle.esb_access.proofs.accesses.Accesses.+left.Given as goal

abbrev pub decreases-left : goal.decreases-left
decreases-left g l = 6 * l.levels + 5

abbrev pub decreases-accessed : goal.decreases-accessed
decreases-accessed g l = 6 * l.levels + 4

abbrev pub decreases-origin : goal.decreases-origin
decreases-origin g l = 6 * l.levels + 3

abbrev pub decreases-new_expression : goal.decreases-new_expression
decreases-new_expression g l = 6 * l.levels + 2

abbrev pub decreases-new_object : goal.decreases-new_object
decreases-new_object g l = 6 * l.levels + 1

abbrev pub decreases-callee : goal.decreases-callee
decreases-callee g l = 6 * l.levels
