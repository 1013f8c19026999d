use Rattle.std.proofs.Common.{◌≡◌, false, drop}
use Rattle.esb_access_laws.specs.Links as links
use Rattle.esb_access.proofs.shapes.templates_fit.Given as goal

abbrev pub invariant-loop-turn : goal.invariant-loop-turn
invariant-loop-turn l = links.templates_fit false l.list ≡ links.templates_fit l.optional (drop l.turn l.list)
