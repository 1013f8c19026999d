use Rattle.std.proofs.Common.{◌≡◌, ◌∷◌, map, take, codes}
use Rattle.esb_exports.specs.Units.{units_of}
use Rattle.esb_exports.proofs.units.active_names.Given as goal

abbrev pub invariant-loop-condition : goal.invariant-loop-condition
invariant-loop-condition l = l.names ≡ units_of (codes "default") ∷ map units_of (take l.condition-index l.conditions)
