use Rattle.std.proofs.Common.{List, [], drop}
use Rattle.std.specs.Vec.{vec_items}
use Rattle.esb_token.specs.declared.token.Token.{Token}
use Rattle.esb_early_checks.specs.declared.found.Found.{Found}
use Rattle.esb_early_checks.specs.Findings.{Finds}
use Rattle.esb_early.specs.Parameters.{repeated_behind, repeated_breaches, Holds}
use Rattle.esb_early.proofs.repeated.check_names.Given as goal

abbrev pub invariant-loop-name : goal.invariant-loop-name
invariant-loop-name l =
    (before : List Token) × Holds vec_items l.text l.seen before
    × ((end : Found) → Finds (repeated_behind l.text before (drop l.name-index l.names)) l.out end → Finds (repeated_breaches l.text l.names) l.initial.out end)
