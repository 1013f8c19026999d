use Rattle.std.proofs.Common.{refl}
use Rattle.esb_ask.specs.declared.outcome.Outcome.TheVariants as outcomes
use Rattle.esb_top.proofs.Histories.{worked-trans}
use Rattle.esb_top.proofs.Working.{given_up-step, settled-puts}
use Rattle.esb_core.specs.declared.event.Event.TheVariants as event
use Rattle.esb_top.proofs.InOrder.{done-by}
use Rattle.esb_top.proofs.work.scan.Goals as goal

pub returns-clause-worked : goal.returns-clause-worked
returns-clause-worked g c =
    worked-trans g.H.Host.tells (g.H.Host.world c.args.host.now) (g.H.Host.faults c.args.host.now) (g.H.Host.faults c.try_scan.new.host) (g.H.Host.faults c.try_scan.new.host) c.args.history.now.events c.try_scan.new.history.events c.give_up.new.history.events
    c.try_scan.ensures.worked
    (given_up-step g.H.Host.tells (g.H.Host.world c.args.host.now) (g.H.Host.faults c.try_scan.new.host) c.try_scan.new.history c.give_up.new.history.events c.args.build c.args.task.now c.give_up.ensures.legal c.give_up.ensures.in_hand c.give_up.ensures.added)

pub returns-clause-free : goal.returns-clause-free
returns-clause-free g c = done-by c.try_scan.new.history.events c.give_up.new.history.events (event.Settle 0 c.args.build outcomes.Memory) c.give_up.ensures.added refl

pub returns-clause-puts : goal.returns-clause-puts
returns-clause-puts g c =
    settled-puts g.H.Host.tells (g.H.Host.put_at c.args.host.now) (g.H.Host.put_at c.try_scan.new.host) (g.H.Host.put_faults c.args.host.now) (g.H.Host.put_faults c.try_scan.new.host) c.args.history.now.events c.try_scan.new.history.events c.give_up.new.history.events c.args.build outcomes.Memory c.try_scan.ensures.puts c.give_up.ensures.added
