use Rattle.esb_print.proofs.Appending.{grown_more, next_token}
use Rattle.esb_print.proofs.lines.put_line.Goals as goal

pub loop-token-preserved : goal.loop-token-preserved
loop-token-preserved c =
    (next_token c.args.bytes.now c.loop-token.last c.args.tokens.now c.loop-token.token-index _ c.loop-token.out c.put_gap.new.out c.put_spelling.new.out _ c.loop-token-test.true c.in_ok-put_gap.ensures.ok c.in_ok-put_spelling.ensures.ok c.loop-token.invariant.0, grown_more c.args.out.now c.put_gap.new.out c.put_spelling.new.out _ (grown_more c.args.out.now c.loop-token.out c.put_gap.new.out _ c.loop-token.invariant.1 c.in_ok-put_gap.ensures.ok) c.in_ok-put_spelling.ensures.ok)
