use Rattle.std.proofs.Common.{◌≡◌, []}
use Rattle.std.specs.Prelude.{fold}
use Rattle.esb_wire.specs.Written.{put_by_key, by_key}
use Rattle.esb_link.specs.SerialLink.{shared_from}
use Rattle.esb_link.proofs.order.sort.Given as goal

abbrev pub invariant-loop-path : goal.invariant-loop-path
invariant-loop-path l = record {
  by_path : l.by_path.entries ≡ fold put_by_key [] l.yielded;
  shared : l.shared.entries ≡ by_key (shared_from [] l.yielded);
}
