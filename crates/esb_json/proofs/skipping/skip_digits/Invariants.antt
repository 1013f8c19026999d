use Rattle.std.proofs.Common.{◌≡◌, length}
use Rattle.std.specs.Char.{is_ascii_digit}
use Rattle.esb_json.specs.Reading.{skip}
use Rattle.esb_json.proofs.skipping.skip_digits.Given as goal

abbrev pub decreases-loop-bytes : goal.decreases-loop-bytes
decreases-loop-bytes l = length l.bytes

abbrev pub invariant-loop-bytes : goal.invariant-loop-bytes
invariant-loop-bytes l = skip is_ascii_digit l.bytes ≡ skip is_ascii_digit l.fn.bytes
