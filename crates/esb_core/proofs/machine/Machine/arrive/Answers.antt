use Rattle.std.proofs.Common.{ap, ◌∙◌}
use Rattle.esb_core.specs.declared.event.Event.TheVariants as event
use Rattle.esb_core.specs.Kept.{state_of}
use Rattle.esb_core.specs.Allowed.{allowed}
use Rattle.esb_core.proofs.Replays.{stands_left}
use Rattle.esb_core.proofs.machine.Machine.arrive.Goals as goal

pub returns-clause-stands : goal.returns-clause-stands
returns-clause-stands c = rw (← c.self.view_is)
    (stands_left (state_of c.self.inside.tables) (state_of c.arrive.new.self) (event.Arrive c.args.packet.now) (ap (λ s. allowed s (event.Arrive c.args.packet.now)) c.self.view_is ∙ c.requires) c.arrive.result c.arrive.ensures.ok)
