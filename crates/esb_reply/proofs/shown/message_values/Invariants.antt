use Rattle.std.proofs.Common.{◌≡◌, take, map, All}
use Rattle.esb_wire.specs.Size.{IsShaped}
use Rattle.esb_reply.specs.Reply.{message_value}
use Rattle.esb_reply.proofs.shown.message_values.Given as goal

abbrev pub invariant-loop-message : goal.invariant-loop-message
invariant-loop-message l =
    (l.values.items ≡ map message_value (take l.message-index l.messages)) × All (IsShaped 2) l.values.items
