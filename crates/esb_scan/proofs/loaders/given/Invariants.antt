use Rattle.std.proofs.Common.{◌≡◌, drop}
use Rattle.esb_scan.specs.Loaders.{given}
use Rattle.esb_scan.proofs.loaders.given.Given as goal

abbrev pub invariant-loop-pair : goal.invariant-loop-pair
invariant-loop-pair l = given (drop l.pair-index l.loaders) l.extension ≡ given l.loaders l.extension
