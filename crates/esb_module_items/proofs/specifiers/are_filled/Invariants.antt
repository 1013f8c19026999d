use Rattle.std.proofs.Common.{◌≡◌, drop}
use Rattle.esb_module_laws.specs.Specifiers as spec
use Rattle.esb_module_items.proofs.specifiers.are_filled.Given as goal

abbrev pub invariant-loop-turn : goal.invariant-loop-turn
invariant-loop-turn l = spec.are_filled l.fn.before l.rest ≡ spec.are_filled l.filled (drop l.turn l.rest)
