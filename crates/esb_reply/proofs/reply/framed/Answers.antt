use Rattle.std.proofs.Common.{◌≡◌, sym, ap, subst, ◌∙◌, arith, lit≤}
use Rattle.std.specs.Prelude.{codes}
use Rattle.esb_wire.specs.declared.value.Packet.{Packet}
use Rattle.esb_wire.specs.declared.value.Value.{Value}
use Rattle.esb_wire.specs.Spelling.{IsPacket}
use Rattle.esb_wire.specs.Size.{IsShaped}
use Rattle.esb_reply.specs.Reply.{error_value, reply_packet}
use Rattle.esb_reply.proofs.Frames.{sent_whole, sent_replaced, whole_is_packet, error_is_packet}
use Rattle.esb_reply.proofs.reply.framed.Goals as goal

pub returns-then-spelled_length-le-MAX_FRAME-clause-packet : goal.returns-then-spelled_length-le-MAX_FRAME-clause-packet
returns-then-spelled_length-le-MAX_FRAME-clause-packet c =
    c.response.ensures ∙ sent_whole c.args.id c.spelled_length.result c.args.value c.spelled_length.ensures (omega arith)

pub returns-then-spelled_length-le-MAX_FRAME-clause-spelled : goal.returns-then-spelled_length-le-MAX_FRAME-clause-spelled
returns-then-spelled_length-le-MAX_FRAME-clause-spelled c =
    subst (λ (p : Packet). IsPacket p) (sym c.response.ensures) (
    whole_is_packet c.args.id c.spelled_length.result c.args.value c.requires.id c.requires.shaped c.spelled_length.ensures (omega arith)
    )

pub returns-clause-packet : goal.returns-clause-packet
returns-clause-packet c =
    let same : c.in_ok-value.value ≡ error_value (codes "Reply is too large") = c.in_ok-value.ensures.value ∙ ap error_value c.in_ok-text.ensures in
    c.response-2.ensures ∙ ap (reply_packet c.args.id) same ∙ sent_replaced c.args.id c.spelled_length.result c.args.value c.spelled_length.ensures (omega arith)

pub returns-clause-spelled : goal.returns-clause-spelled
returns-clause-spelled c =
    let same : c.in_ok-value.value ≡ error_value (codes "Reply is too large") = c.in_ok-value.ensures.value ∙ ap error_value c.in_ok-text.ensures in
    let shaped = subst (λ (w : Value). IsShaped 4 w) same c.in_ok-value.ensures.shaped in
    subst (λ (p : Packet). IsPacket p) (sym (c.response-2.ensures ∙ ap (reply_packet c.args.id) same)) (error_is_packet c.args.id (codes "Reply is too large") c.requires.id shaped (lit≤ tt))
