use Rattle.std.proofs.Common.{◌∙◌}
use Rattle.esb_exports.proofs.Escapes.{no_more, all_read}
use Rattle.esb_exports.proofs.segments.reads_as.Goals as goal

pub returns-in_default : goal.returns-in_default
returns-in_default c =
    no_more c.args.segment.now c.args.name.now c.loop-byte.rest.now c.loop-byte.byte-index c.loop-byte.invariant c.loop-byte-test.true c.in_default.ensures

pub returns : goal.returns
returns c =
    c.is_empty.ensures ∙ all_read c.args.segment.now c.args.name.now c.loop-byte.rest.now c.loop-byte.byte-index c.loop-byte.invariant c.loop-byte-test.false
