use Rattle.std.proofs.Common.{◌≡◌, ◌++◌, drop, None}
use Rattle.std.specs.List.{flat_map}
use Rattle.esb_print.specs.Lines.{rest_of_line}
use Rattle.esb_print.proofs.lines.text_of_lines.Given as goal

abbrev pub invariant-loop-line : goal.invariant-loop-line
invariant-loop-line l = l.out ++ flat_map (rest_of_line l.bytes None) (drop l.line-index l.lines) ≡ flat_map (rest_of_line l.bytes None) l.lines
