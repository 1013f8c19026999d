use Rattle.std.proofs.Common.{◌≡◌, ◌++◌, drop, map}
use Rattle.std.specs.List.{AllByRecursion, flat_map}
use Rattle.esb_scan.specs.Likeness.{normal_message, IsPlaced}
use Rattle.esb_link.specs.SerialLink.{resolution, load_of, found_messages, load_messages, entry_messages, file_messages, output_of, outputs}
use Rattle.esb_link.proofs.scanned.scan_all.Given as goal

abbrev pub invariant-loop-entry : goal.invariant-loop-entry
invariant-loop-entry l = record {
  of_entries : l.scanned.of_entries ++ flat_map (λ entry. found_messages (resolution l.options l.table entry)) (drop l.entry-index l.options.entries) ≡ entry_messages l.options l.table;
  of_files : map normal_message l.scanned.of_files ++ flat_map (λ entry. load_messages (load_of l.options l.table (resolution l.options l.table entry))) (drop l.entry-index l.options.entries) ≡ file_messages l.options l.table;
  placed : AllByRecursion (IsPlaced l.options.cwd l.table) l.scanned.of_files;
  outputs : l.scanned.outputs ++ flat_map (λ entry. output_of l.options l.table entry (resolution l.options l.table entry)) (drop l.entry-index l.options.entries) ≡ outputs l.options l.table;
}
