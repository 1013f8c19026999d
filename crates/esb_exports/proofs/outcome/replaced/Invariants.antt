use Rattle.std.proofs.Common.{◌≡◌, ◌∷◌, [], take, cond}
use Rattle.std.specs.List.{flat_map}
use Rattle.esb_exports.specs.Keys.{is_star}
use Rattle.esb_exports.proofs.outcome.replaced.Given as goal

abbrev pub invariant-loop-unit : goal.invariant-loop-unit
invariant-loop-unit l = l.list ≡ flat_map (λ unit. cond (is_star unit) l.matched (unit ∷ [])) (take l.unit-index l.units)
