use Rattle.std.proofs.Common.{◌≡◌, ◌+◌, ◌-◌, ◌≤◌, min, length, take, drop}
use Rattle.std.specs.List.{prefix_len}
use Rattle.esb_token.specs.Characters.{is_hex_digit}
use Rattle.esb_token.specs.Names.{hex_value}
use Rattle.esb_names.proofs.points.hex_digits.Given as goal

abbrev pub invariant-loop-count : goal.invariant-loop-count
invariant-loop-count l =
    (l.count + prefix_len is_hex_digit (drop l.count l.text) ≡ prefix_len is_hex_digit l.text)
    × (l.value ≡ min (hex_value (take l.count l.text)) 0x110000)
    × (l.count ≤ length l.text)

abbrev pub decreases-loop-count : goal.decreases-loop-count
decreases-loop-count l = length l.text - l.count
