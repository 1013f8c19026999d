use Rattle.std.proofs.Common.{◌≡◌, ◌-◌, ◌+◌, ◌*◌, length}
use Rattle.esb_json.specs.Reading.{spaced_at, member_at, items_at, value_at}
use Rattle.esb_json.proofs.Counts.{with_front}
use Rattle.esb_json.proofs.reading.+value.Given as goal

abbrev pub decreases-value_of : goal.decreases-value_of
decreases-value_of l = 5 * l.depth

abbrev pub decreases-spaced_value : goal.decreases-spaced_value
decreases-spaced_value l = 5 * l.depth + 1

abbrev pub decreases-member_of : goal.decreases-member_of
decreases-member_of l = 5 * l.depth + 2

abbrev pub decreases-values_of : goal.decreases-values_of
decreases-values_of l = 5 * l.depth + 2

abbrev pub decreases-members_of : goal.decreases-members_of
decreases-members_of l = 5 * l.depth + 3

abbrev pub decreases-array_of : goal.decreases-array_of
decreases-array_of l = 5 * l.depth + 3

abbrev pub decreases-object_of : goal.decreases-object_of
decreases-object_of l = 5 * l.depth + 4

abbrev pub invariant-values_of-loop : goal.invariant-values_of-loop
invariant-values_of-loop l = with_front l.values (items_at (spaced_at (value_at l.depth)) 0x5D (length l.bytes - l.counter) l.rest) ≡ items_at (spaced_at (value_at l.depth)) 0x5D (length l.bytes) l.bytes

abbrev pub invariant-members_of-loop : goal.invariant-members_of-loop
invariant-members_of-loop l = with_front l.members (items_at (member_at (value_at l.depth)) 0x7D (length l.bytes - l.counter) l.rest) ≡ items_at (member_at (value_at l.depth)) 0x7D (length l.bytes) l.bytes
