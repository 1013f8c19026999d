use Rattle.std.proofs.Common.{refl}
use Rattle.esb_core.specs.History.{replay}
use Rattle.esb_top.proofs.Working.{may-miss-all, may-write, written-by, written-puts, written-step}
use Rattle.esb_core.specs.declared.event.Event.TheVariants as event
use Rattle.esb_ask.specs.declared.outcome.Failures.TheVariants as failures
use Rattle.esb_top.proofs.InOrder.{done-by}
use Rattle.esb_top.proofs.work.write_build.Goals as goal

pub written-requires-clause-may : goal.written-requires-clause-may
written-requires-clause-may g c = may-write (replay c.args.history.now.events) c.args.build c.put_outcome-failures.result c.requires.at c.put_outcome-failures.ensures.may

pub written-requires-clause-may_all : goal.written-requires-clause-may_all
written-requires-clause-may_all g c = may-write (replay c.args.history.now.events) c.args.build failures.All c.requires.at (may-miss-all (replay c.args.history.now.events) c.args.build c.requires.at)

pub returns-clause-free : goal.returns-clause-free
returns-clause-free g c =
    let w = written-by c.args.history.now c.written.new.self c.args.build c.put_outcome-failures.result c.written.ensures in
    done-by c.args.history.now.events c.written.new.self.events (event.Written 0 c.args.build w.failed) w.added refl

pub returns-clause-worked : goal.returns-clause-worked
returns-clause-worked g c =
    written-step g.H.Host.tells (g.H.Host.world c.args.host.now) (g.H.Host.faults c.args.host.now) (g.H.Host.faults c.put_outcome-failures.new.host) c.args.history.now c.written.new.self c.args.build c.requires.in_hand
    (written-by c.args.history.now c.written.new.self c.args.build c.put_outcome-failures.result c.written.ensures) c.put_outcome-failures.ensures.never_falls

pub returns-clause-room : goal.returns-clause-room
returns-clause-room g c = (written-by c.args.history.now c.written.new.self c.args.build c.put_outcome-failures.result c.written.ensures).room

pub returns-clause-puts : goal.returns-clause-puts
returns-clause-puts g c =
    written-puts g.H.Host.tells (g.H.Host.put_at c.args.host.now) (g.H.Host.put_at c.put_outcome-failures.new.host) (g.H.Host.put_faults c.args.host.now) (g.H.Host.put_faults c.put_outcome-failures.new.host) c.args.history.now c.written.new.self c.args.build c.put_outcome-failures.result c.is_legal.ensures c.requires.at c.put_outcome-failures.ensures.puts
    c.put_outcome-failures.ensures.counted c.written.ensures
