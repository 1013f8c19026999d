use Rattle.std.proofs.Common.{length, ◌-◌, ◌≡◌, ◌≤◌, ◌+◌, ◌||◌, drop}
use Rattle.esb_token.specs.Runs as runs
use Rattle.esb_lex.proofs.run.run_lined.Given as goal

abbrev pub invariant-loop-end : goal.invariant-loop-end
invariant-loop-end g l =
    (l.end + runs.run (g.P.LinedPart.part l.part) (drop l.end l.text) ≡ runs.run (g.P.LinedPart.part l.part) l.text)
    × (◌||◌ l.has_line (runs.run_any (g.P.LinedPart.part l.part) (g.P.LinedPart.line l.part) (drop l.end l.text)) ≡ runs.run_any (g.P.LinedPart.part l.part) (g.P.LinedPart.line l.part) l.text)
    × (l.end ≤ length l.text)

abbrev pub decreases-loop-end : goal.decreases-loop-end
decreases-loop-end g l = length l.text - l.end
