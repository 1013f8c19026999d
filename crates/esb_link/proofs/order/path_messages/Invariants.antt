use Rattle.std.proofs.Common.{◌≡◌, map}
use Rattle.esb_link.specs.SerialLink.{shares_path}
use Rattle.esb_link.proofs.order.path_messages.Given as goal

abbrev pub invariant-loop-path : goal.invariant-loop-path
invariant-loop-path l = l.messages ≡ map (λ pair. shares_path pair.0) l.yielded
