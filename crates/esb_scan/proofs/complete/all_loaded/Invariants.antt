use Rattle.std.proofs.Common.{◌≡◌, drop}
use Rattle.esb_scan.specs.Complete.{all_loaded}
use Rattle.esb_scan.proofs.complete.all_loaded.Given as goal

abbrev pub invariant-loop-entry : goal.invariant-loop-entry
invariant-loop-entry l = all_loaded l.options l.table (drop l.entry-index l.options.entries) ≡ all_loaded l.options l.table l.options.entries
