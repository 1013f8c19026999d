use Rattle.std.proofs.Common.{◌≡◌, ◌<◌, true, take}
use Rattle.std.specs.List.{list_all}
use Rattle.esb_exports.specs.Outcomes.{is_decimal, decimal_value}
use Rattle.esb_exports.proofs.outcome.is_small_decimal.Given as goal

abbrev pub invariant-loop-unit : goal.invariant-loop-unit
invariant-loop-unit l =
    (list_all is_decimal (take l.unit-index l.name) ≡ true)
    × (l.value ≡ decimal_value (take l.unit-index l.name))
    × (l.value < 4294967295)
