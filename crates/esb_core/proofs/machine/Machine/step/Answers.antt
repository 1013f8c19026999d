use Rattle.std.proofs.Common.{ap, ◌∙◌}
use Rattle.esb_core.specs.Kept.{state_of}
use Rattle.esb_core.specs.Allowed.{allowed}
use Rattle.esb_core.proofs.Replays.{stands_left}
use Rattle.esb_core.proofs.machine.Machine.step.Goals as goal

pub returns-clause-stands : goal.returns-clause-stands
returns-clause-stands c = rw (← c.self.view_is)
    (stands_left (state_of c.self.inside.tables) (state_of c.step.new.self) c.args.event (ap (λ s. allowed s c.args.event) c.self.view_is ∙ c.requires) c.step.result c.step.ensures.ok)
