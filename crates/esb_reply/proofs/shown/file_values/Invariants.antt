use Rattle.std.proofs.Common.{◌≡◌, take, map, All}
use Rattle.esb_wire.specs.Size.{IsShaped}
use Rattle.esb_reply.specs.Reply.{file_value}
use Rattle.esb_reply.proofs.shown.file_values.Given as goal

abbrev pub invariant-loop-file : goal.invariant-loop-file
invariant-loop-file l =
    (l.values.items ≡ map file_value (take l.file-index l.files)) × All (IsShaped 2) l.values.items
