use Rattle.std.proofs.Common.{◌≡◌, ◌+◌, ◌-◌, ◌*◌, false, get_or, sym, arith}
use Rattle.std.proofs.lemmas.List.Sums.{fold_more}
use Rattle.esb_exports.specs.Outcomes.{is_decimal}
use Rattle.esb_exports.proofs.Decimals.{all_but_one, no_decimal, too_large, small, low_unit, high_unit}
use Rattle.esb_exports.proofs.outcome.is_small_decimal.Goals as goal
use Rattle.esb_exports.proofs.outcome.is_small_decimal.Goals.{then-unit-lt48-via-then-unit-lt48, then-unit-lt48-via-else-unit-lt48+then-unit-gt57}

pub returns-then-unit-lt48 : goal.returns-then-unit-lt48
returns-then-unit-lt48 c =
    let name = c.args.name.now in
    let i = c.loop-unit.unit-index in
    let e : is_decimal (get_or name i 0) ≡ false = elim c.then-unit-lt48.branch [
      | then-unit-lt48-via-then-unit-lt48 w ↦ low_unit (get_or name i 0) w.if-unit-lt48.true
      | then-unit-lt48-via-else-unit-lt48+then-unit-gt57 w ↦ high_unit (get_or name i 0) w.if-unit-gt57.true
    ] in
    sym (no_decimal name (all_but_one name i 0 c.loop-unit-test.true e))

pub returns-then-value-ge4294967295 : goal.returns-then-value-ge4294967295
returns-then-value-ge4294967295 c =
    let name = c.args.name.now in
    let i = c.loop-unit.unit-index in
    let more = fold_more (λ value unit. value * 10 + (unit - 48)) 0 name i 0 c.loop-unit-test.true in
    sym (too_large name (i + 1) (omega (arith, more, c.loop-unit.invariant.1, c.from.ensures, c.if-value-ge4294967295.true)))

pub returns : goal.returns
returns c = sym (small c.args.name.now c.loop-unit.unit-index c.loop-unit.value c.loop-unit-test.false c.loop-unit.invariant.0 c.loop-unit.invariant.1 c.loop-unit.invariant.2)
