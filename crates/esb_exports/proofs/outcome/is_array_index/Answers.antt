use Rattle.std.proofs.Common.{length, sym, ◌∙◌}
use Rattle.esb_exports.proofs.Decimals.{index-empty, index-zero, index-other, some_left, none_left}
use Rattle.esb_exports.proofs.outcome.is_array_index.Goals as goal

pub returns-then-is_empty : goal.returns-then-is_empty
returns-then-is_empty c = index-empty c.args.name.now (none_left c.is_empty.result (length c.args.name.now) c.is_empty.ensures c.if-is_empty.true)

pub returns-then-first-eq48 : goal.returns-then-first-eq48
returns-then-first-eq48 c = sym (index-zero c.args.name.now (some_left c.is_empty.result (length c.args.name.now) c.is_empty.ensures c.if-is_empty.false) c.if-first-eq48.true)

pub returns : goal.returns
returns c = c.is_small_decimal.ensures ∙ sym (index-other c.args.name.now (some_left c.is_empty.result (length c.args.name.now) c.is_empty.ensures c.if-is_empty.false) c.if-first-eq48.false)
