use Rattle.std.proofs.Common.{◌≡◌, take, map}
use Rattle.esb_reply.specs.Reply.{failure_message}
use Rattle.esb_reply.proofs.failed.of_failures.Given as goal

abbrev pub invariant-loop-failure : goal.invariant-loop-failure
invariant-loop-failure l = l.messages.items ≡ map failure_message (take l.failure-index l.failures)
