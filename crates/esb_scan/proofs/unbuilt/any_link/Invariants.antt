use Rattle.std.proofs.Common.{◌≡◌, drop}
use Rattle.std.specs.List.{list_any}
use Rattle.esb_scan.specs.Scripts.{is_link}
use Rattle.esb_scan.proofs.unbuilt.any_link.Given as goal

abbrev pub invariant-loop-token : goal.invariant-loop-token
invariant-loop-token l = list_any (is_link l.contents) (drop l.token-index l.tokens) ≡ list_any (is_link l.contents) l.tokens
