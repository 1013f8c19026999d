use Rattle.std.proofs.Common.{◌≡◌, ◌++◌, drop, None}
use Rattle.esb_print.specs.Lines.{rest_of_line}
use Rattle.esb_print.proofs.Appending.{Grown}
use Rattle.esb_print.proofs.lines.put_line.Given as goal

abbrev pub invariant-loop-token : goal.invariant-loop-token
invariant-loop-token l =
    (l.out ++ rest_of_line l.bytes l.last (drop l.token-index l.tokens) ≡ l.initial.out ++ rest_of_line l.bytes None l.tokens) × Grown l.initial.out l.out
