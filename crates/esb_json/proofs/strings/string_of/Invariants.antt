use Rattle.std.proofs.Common.{◌≡◌, ◌-◌, length}
use Rattle.esb_json.specs.Reading.{string_at, units_at}
use Rattle.esb_json.proofs.Counts.{with_front}
use Rattle.esb_json.proofs.strings.string_of.Given as goal

abbrev pub invariant-loop : goal.invariant-loop
invariant-loop l = with_front l.units (units_at (length l.bytes - l.counter) l.rest) ≡ string_at l.bytes
