use Rattle.std.proofs.Common.{◌≡◌, take, map}
use Rattle.esb_reply.specs.Reply.{refused_message}
use Rattle.esb_reply.proofs.failed.of_files.Given as goal

abbrev pub invariant-loop-file : goal.invariant-loop-file
invariant-loop-file l = l.messages.items ≡ map refused_message (take l.file-index l.files)
