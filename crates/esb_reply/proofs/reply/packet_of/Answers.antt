use Rattle.std.proofs.Common.{rules}
use Rattle.esb_reply.specs.Reply.{packet_for}
use Rattle.esb_reply.proofs.reply.packet_of.Goals as goal

pub returns-clause-packet : goal.returns-clause-packet
unfolding packet_for
returns-clause-packet c =
    let framed = rw c.in_ok-value.ensures.value at c.framed.ensures.packet in
    search rules
