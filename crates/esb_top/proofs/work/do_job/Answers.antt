use Rattle.std.proofs.Common.{refl, arith}
use Rattle.esb_core.specs.History.{replay}
use Rattle.esb_core.specs.declared.event.Job.TheVariants as job
use Rattle.esb_top.proofs.Histories.{worked-trans}
use Rattle.esb_core.specs.declared.event.Event.TheVariants as event
use Rattle.esb_core.specs.declared.event.Role.TheVariants as role
use Rattle.esb_top.proofs.InOrder.{done-by, going-by}
use Rattle.esb_top.proofs.Files.{puts-kept, puts-trans}
use Rattle.esb_top.proofs.Working.{at-link, at-scan, at-write, claimed-puts, claimed-step, complete-after, link-job, linked-step, may-claim, settled-puts, write-in_hand}
use Rattle.esb_top.proofs.work.do_job.Goals as goal

pub claim-requires : goal.claim-requires
claim-requires g c = may-claim (replay c.args.history.now.events) c.args.job.now c.requires.first

pub scan-requires-clause-at : goal.scan-requires-clause-at
scan-requires-clause-at g c =
    at-scan c.args.history.now.events c.claim.new.self.events c.in-Scan.build c.in-Scan.task (rw c.in-Scan.is at c.in_ok-claim.ensures.ok.events) (rw c.in-Scan.is at c.requires.first)

pub link_build-requires-clause-at : goal.link_build-requires-clause-at
link_build-requires-clause-at g c =
    (at-link c.args.history.now.events c.claim.new.self.events c.in-Link.build (rw c.in-Link.is at c.in_ok-claim.ensures.ok.events) (rw c.in-Link.is at c.requires.first)).at

pub link_build-requires-clause-complete : goal.link_build-requires-clause-complete
link_build-requires-clause-complete g c =
    let first = rw c.in-Link.is at c.requires.first in
    complete-after (replay c.args.history.now.events) (replay c.claim.new.self.events) c.in-Link.build
    (at-link c.args.history.now.events c.claim.new.self.events c.in-Link.build (rw c.in-Link.is at c.in_ok-claim.ensures.ok.events) first)
    (c.links_are_ready.ensures c.args.history.now.events c.in-Link.build c.is_legal.ensures c.requires.sound (link-job (replay c.args.history.now.events).builds c.in-Link.build first))

pub returns-in-Scan-clause-worked : goal.returns-in-Scan-clause-worked
returns-in-Scan-clause-worked g c =
    worked-trans g.H.Host.tells (g.H.Host.world c.args.host.now) (g.H.Host.faults c.args.host.now) (g.H.Host.faults c.args.host.now) (g.H.Host.faults c.scan.new.host) c.args.history.now.events c.claim.new.self.events c.scan.new.history.events
    (claimed-step g.H.Host.tells (g.H.Host.world c.args.host.now) (g.H.Host.faults c.args.host.now) c.args.history.now.events c.claim.new.self.events c.args.job.now
    (record { legal = c.is_legal.ensures; free = c.requires.free; none_owed = c.requires.none_owed; first = c.requires.first }) c.in_ok-claim.ensures.ok.events) c.scan.ensures.worked

pub returns-in-Link-clause-worked : goal.returns-in-Link-clause-worked
returns-in-Link-clause-worked g c =
    linked-step g.H.Host.tells (g.H.Host.world c.args.host.now) (g.H.Host.faults c.args.host.now) c.args.history.now.events c.claim.new.self c.link_build.new.history c.in-Link.build
    (record { legal = c.is_legal.ensures; free = c.requires.free; none_owed = c.requires.none_owed; first = rw c.in-Link.is at c.requires.first }) (rw c.in-Link.is at c.in_ok-claim.ensures.ok.events) c.link_build.ensures

pub scan-requires-clause-in_hand : goal.scan-requires-clause-in_hand
scan-requires-clause-in_hand g c =
    let is = rw c.in-Scan.is at c.in_ok-claim.ensures.ok.events in
    let first = rw c.in-Scan.is at c.requires.first in
    let j = job.Scan c.in-Scan.build c.in-Scan.task in
    going-by c.args.history.now.events c.claim.new.self.events (event.Claim (role.Worker 0) j) is c.is_legal.ensures (may-claim (replay c.args.history.now.events) j first) j refl
    (at-scan c.args.history.now.events c.claim.new.self.events c.in-Scan.build c.in-Scan.task is first).unsettled

pub returns-in-Link-clause-free : goal.returns-in-Link-clause-free
returns-in-Link-clause-free g c = done-by c.claim.new.self.events c.link_build.new.history.events (event.Settle 0 c.in-Link.build c.link_build.ensures.outcome) c.link_build.ensures.added refl

pub write_build-requires-clause-at : goal.write_build-requires-clause-at
write_build-requires-clause-at g c =
    at-write c.args.history.now.events c.claim.new.self.events c.in-Write.build (rw c.in-Write.is at c.in_ok-claim.ensures.ok.events) (rw c.in-Write.is at c.requires.first)

pub write_build-requires-clause-in_hand : goal.write_build-requires-clause-in_hand
write_build-requires-clause-in_hand g c = write-in_hand c.args.history.now.events c.claim.new.self.events c.in-Write.build (rw c.in-Write.is at c.in_ok-claim.ensures.ok.events)

pub returns-in-Write-clause-worked : goal.returns-in-Write-clause-worked
returns-in-Write-clause-worked g c =
    worked-trans g.H.Host.tells (g.H.Host.world c.args.host.now) (g.H.Host.faults c.args.host.now) (g.H.Host.faults c.args.host.now) (g.H.Host.faults c.write_build.new.host) c.args.history.now.events c.claim.new.self.events c.write_build.new.history.events
    (claimed-step g.H.Host.tells (g.H.Host.world c.args.host.now) (g.H.Host.faults c.args.host.now) c.args.history.now.events c.claim.new.self.events c.args.job.now
    (record { legal = c.is_legal.ensures; free = c.requires.free; none_owed = c.requires.none_owed; first = c.requires.first }) c.in_ok-claim.ensures.ok.events) c.write_build.ensures.worked

pub returns-in_err-claim-clause-puts : goal.returns-in_err-claim-clause-puts
returns-in_err-claim-clause-puts g c =
    puts-kept g.H.Host.tells (g.H.Host.put_at c.args.host.now) (g.H.Host.put_at c.args.host.now) (g.H.Host.put_faults c.args.host.now) (g.H.Host.put_faults c.args.host.now) c.args.history.now.events c.claim.new.self.events c.in_err-claim.ensures.err.events (λ t path. refl) (omega arith)

pub returns-in-Scan-clause-puts : goal.returns-in-Scan-clause-puts
returns-in-Scan-clause-puts g c =
    puts-trans g.H.Host.tells (g.H.Host.put_at c.args.host.now) (g.H.Host.put_at c.args.host.now) (g.H.Host.put_at c.scan.new.host) (g.H.Host.put_faults c.args.host.now) (g.H.Host.put_faults c.args.host.now) (g.H.Host.put_faults c.scan.new.host)
    c.args.history.now.events c.claim.new.self.events c.scan.new.history.events
    (claimed-puts g.H.Host.tells (g.H.Host.put_at c.args.host.now) (g.H.Host.put_faults c.args.host.now) c.args.history.now.events c.claim.new.self.events c.args.job.now c.in_ok-claim.ensures.ok.events) c.scan.ensures.puts

pub returns-in-Link-clause-puts : goal.returns-in-Link-clause-puts
returns-in-Link-clause-puts g c =
    settled-puts g.H.Host.tells (g.H.Host.put_at c.args.host.now) (g.H.Host.put_at c.args.host.now) (g.H.Host.put_faults c.args.host.now) (g.H.Host.put_faults c.args.host.now)
    c.args.history.now.events c.claim.new.self.events c.link_build.new.history.events c.in-Link.build c.link_build.ensures.outcome
    (claimed-puts g.H.Host.tells (g.H.Host.put_at c.args.host.now) (g.H.Host.put_faults c.args.host.now) c.args.history.now.events c.claim.new.self.events c.args.job.now c.in_ok-claim.ensures.ok.events) c.link_build.ensures.added

pub returns-in-Write-clause-puts : goal.returns-in-Write-clause-puts
returns-in-Write-clause-puts g c =
    puts-trans g.H.Host.tells (g.H.Host.put_at c.args.host.now) (g.H.Host.put_at c.args.host.now) (g.H.Host.put_at c.write_build.new.host) (g.H.Host.put_faults c.args.host.now) (g.H.Host.put_faults c.args.host.now) (g.H.Host.put_faults c.write_build.new.host)
    c.args.history.now.events c.claim.new.self.events c.write_build.new.history.events
    (claimed-puts g.H.Host.tells (g.H.Host.put_at c.args.host.now) (g.H.Host.put_faults c.args.host.now) c.args.history.now.events c.claim.new.self.events c.args.job.now c.in_ok-claim.ensures.ok.events) c.write_build.ensures.puts
