use Rattle.std.proofs.Common.{◌≡◌, ◌+◌, take, not, count_by}
use Rattle.std.specs.List.{suffix_len}
use Rattle.esb_msgs.specs.Lines.{is_line_end}
use Rattle.esb_msgs.proofs.place.place_of.Given as goal

abbrev pub invariant-loop-at : goal.invariant-loop-at
invariant-loop-at l =
    (l.line ≡ count_by is_line_end (take l.at l.before) + 1)
    × (l.start + suffix_len (λ byte. not (is_line_end byte)) (take l.at l.before) ≡ l.at)
