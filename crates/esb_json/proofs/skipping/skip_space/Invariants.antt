use Rattle.std.proofs.Common.{◌≡◌, length}
use Rattle.esb_json.specs.Grammar.{is_space}
use Rattle.esb_json.specs.Reading.{skip}
use Rattle.esb_json.proofs.skipping.skip_space.Given as goal

abbrev pub decreases-loop-bytes : goal.decreases-loop-bytes
decreases-loop-bytes l = length l.bytes

abbrev pub invariant-loop-bytes : goal.invariant-loop-bytes
invariant-loop-bytes l = skip is_space l.bytes ≡ skip is_space l.fn.bytes
