use Rattle.std.proofs.Common.{◌≡◌, drop}
use Rattle.esb_base.specs.World.{has_below}
use Rattle.esb_base.proofs.mem_host.has_below.Given as goal

abbrev pub invariant-loop-file : goal.invariant-loop-file
invariant-loop-file l = has_below l.path l.folder ≡ has_below l.path (drop l.file-index l.folder)
