use Rattle.std.proofs.Common.{◌≡◌, drop}
use Rattle.std.specs.Map.{lookup}
use Rattle.std.specs.Str.{bytes_eq}
use Rattle.esb_base.proofs.mem_host.find.Given as goal

abbrev pub invariant-loop-file : goal.invariant-loop-file
invariant-loop-file l = lookup (bytes_eq l.path) l.folder ≡ lookup (bytes_eq l.path) (drop l.file-index l.folder)
