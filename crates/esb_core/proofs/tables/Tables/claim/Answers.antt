use Rattle.esb_core.specs.declared.event.Job.TheVariants as job
use Rattle.std.proofs.Common.{is_some, ap}
use Rattle.esb_core.specs.Kept.{state_of}
use Rattle.esb_core.proofs.Claims.{claim-is, scan-is, link-is, write-is}
use Rattle.esb_core.proofs.Laws.{unput-unclosed}
use Rattle.esb_core.proofs.tables.Tables.claim.Goals as goal

pub claim_task-requires-clause-begun : goal.claim_task-requires-clause-begun
claim_task-requires-clause-begun c =
    let first = rw (c.in-Worker-Scan.is-0, c.in-Worker-Scan.is-1) at c.requires.first in
    (scan-is _ _ c.in-Worker-Scan.task (claim-is (state_of c.args.self.now) c.in-Worker-Scan.worker (job.Scan c.in-Worker-Scan.build c.in-Worker-Scan.task) first)).begun

pub claim_task-requires-clause-open : goal.claim_task-requires-clause-open
claim_task-requires-clause-open c =
    let first = rw (c.in-Worker-Scan.is-0, c.in-Worker-Scan.is-1) at c.requires.first in
    (scan-is _ _ c.in-Worker-Scan.task (claim-is (state_of c.args.self.now) c.in-Worker-Scan.worker (job.Scan c.in-Worker-Scan.build c.in-Worker-Scan.task) first)).open_left

pub claim_link-requires-clause-begun : goal.claim_link-requires-clause-begun
claim_link-requires-clause-begun c =
    let first = rw (c.in-Worker-Link.is-0, c.in-Worker-Link.is-1) at c.requires.first in
    (link-is _ _ (claim-is (state_of c.args.self.now) c.in-Worker-Link.worker (job.Link c.in-Worker-Link.build) first)).begun

pub claim_write-requires-clause-begun : goal.claim_write-requires-clause-begun
claim_write-requires-clause-begun c =
    let first = rw (c.in-Worker-Write.is-0, c.in-Worker-Write.is-1) at c.requires.first in
    (write-is _ _ (claim-is (state_of c.args.self.now) c.in-Worker-Write.worker (job.Write c.in-Worker-Write.build) first)).begun

pub claim_write-requires-clause-settled : goal.claim_write-requires-clause-settled
claim_write-requires-clause-settled c =
    let first = rw (c.in-Worker-Write.is-0, c.in-Worker-Write.is-1) at c.requires.first in
    let ready = write-is c.args.self.now.builds.items c.in-Worker-Write.build (claim-is (state_of c.args.self.now) c.in-Worker-Write.worker (job.Write c.in-Worker-Write.build) first) in
    ap is_some ready.writes.outcome

pub claim_write-requires-clause-open : goal.claim_write-requires-clause-open
claim_write-requires-clause-open c =
    let first = rw (c.in-Worker-Write.is-0, c.in-Worker-Write.is-1) at c.requires.first in
    let ready = write-is c.args.self.now.builds.items c.in-Worker-Write.build (claim-is (state_of c.args.self.now) c.in-Worker-Write.worker (job.Write c.in-Worker-Write.build) first) in
    let sane = c.requires.kept.ordered.sane c.in-Worker-Write.build in
    unput-unclosed _ sane ready.writes
