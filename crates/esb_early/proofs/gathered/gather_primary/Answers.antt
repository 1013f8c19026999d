use Rattle.std.proofs.Common.{[], ◌∷◌, if◌then◌else◌, ap, sym, ◌∙◌}
use Rattle.esb_early.proofs.GatherSteps.{gathers_none, gathers_is}
use Rattle.esb_early.proofs.gathered.gather_primary.Goals as goal

pub returns-else-is_binding : goal.returns-else-is_binding
returns-else-is_binding c = gathers_is [] _ _ _ (ap (λ b. if b then c.args.t ∷ [] else []) (sym c.is_binding.ensures ∙ c.if-is_binding.false)) (gathers_none _)
