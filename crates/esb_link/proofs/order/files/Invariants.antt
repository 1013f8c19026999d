use Rattle.std.proofs.Common.{◌≡◌, map}
use Rattle.esb_link.specs.SerialLink.{out_file}
use Rattle.esb_link.proofs.order.files.Given as goal

abbrev pub invariant-loop-path : goal.invariant-loop-path
invariant-loop-path l = l.files ≡ map out_file l.yielded
