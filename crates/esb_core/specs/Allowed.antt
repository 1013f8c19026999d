-- Which events may come, and which job is the first.
use Rattle.std.specs.Prelude.{ℕ, zero, suc, ◌+◌, ◌==◌, Bool, true, false, not, ◌&&◌, ◌||◌, if◌then◌else◌, nat_eq, nat_lt, List, [], ◌∷◌, length, map, slice_get, Option, None, Some, is_none, is_some}
use Rattle.std.specs.List.{list_any, list_all}
use Rattle.esb_wire.specs.declared.value.Packet.{Packet}
use Rattle.esb_wire.specs.declared.value.Value.{Value, out-Value}
use Rattle.esb_wire.specs.declared.value.Value.TheOpen.{Value-F}
use Rattle.esb_wire.specs.Reading.{all_differ}
use Rattle.esb_wire.specs.Spelling.{max_depth}
use Rattle.esb_ask.specs.declared.task.Task.{Task}
use Rattle.std.specs.Str.{bytes_eq}
use Rattle.esb_base.specs.declared.host.PutFault.{PutFault}
use Rattle.esb_ask.specs.declared.outcome.OutFile.{OutFile}
use Rattle.esb_ask.specs.declared.outcome.Failures.{Failures}
use Rattle.esb_ask.specs.declared.outcome.Failures.TheVariants as failures
use Rattle.esb_ask.specs.declared.outcome.Outcome.{Outcome}
use Rattle.esb_ask.specs.declared.outcome.Outcome.TheVariants as outcome
use Rattle.esb_ask.specs.Table.{fits}
use Rattle.esb_ask.specs.Tasks.{same_task, product_fits}
use Rattle.esb_core.specs.declared.event.Role.{Role}
use Rattle.esb_core.specs.declared.event.Role.TheVariants as role
use Rattle.esb_core.specs.declared.event.Job.{Job}
use Rattle.esb_core.specs.declared.event.Job.TheVariants as job
use Rattle.esb_core.specs.declared.event.Event.{Event}
use Rattle.esb_core.specs.declared.event.Event.TheVariants as event
use Rattle.esb_core.specs.declared.event.Claimed.{Claimed}
use Rattle.esb_core.specs.declared.event.Claimed.TheVariants as claimed
use Rattle.esb_core.specs.State.{Building, State, build_at}
use Rattle.esb_core.specs.Steps.{is_claim}

-- ---- packets

-- the keys of each map differ, and the depth is at most this
abbrev pub node_ok : (Value → Bool) → Value-F Value → Bool
node_ok ok (Value-F.Array values) = list_all ok values
node_ok ok (Value-F.Map pairs) = all_differ (map (λ pair. pair.0) pairs) && list_all (λ pair. ok pair.1) pairs
node_ok ok layer = true

abbrev pub is_proper : ℕ → Value → Bool
is_proper zero value = false
is_proper (suc depth) value = node_ok (is_proper depth) (out-Value value)

-- the least id that no packet has
abbrev pub id_limit : ℕ
id_limit = 2147483648

unfoldable pub may_arrive : Packet → Bool
may_arrive packet = nat_lt packet.id id_limit && is_proper max_depth packet.value

-- ---- jobs

-- no task of the build is open or claimed, and neither is its link
abbrev pub is_scanned : Building → Bool
is_scanned b = (length b.claims == 0) && is_none b.linker

abbrev pub link_if : ℕ → Bool → Option Job
link_if n true = Some (job.Link n)
link_if n false = None

abbrev pub job_by : ℕ → Building → Option Task → Option Job
job_by n b (Some t) = Some (job.Scan n t)
job_by n b None = link_if n (is_scanned b)

-- the writing of the files of a build that puts them, once it is settled with files and until it was claimed
abbrev pub write_if : ℕ → Bool → Option Job
write_if n true = Some (job.Write n)
write_if n false = None

abbrev pub writing_of : ℕ → Building → Outcome → Option Job
writing_of n b (outcome.Files files) = write_if n (b.options.write && (is_none b.writer && is_none b.failed))
writing_of n b (outcome.Errors messages) = None
writing_of n b outcome.Canceled = None
writing_of n b outcome.Memory = None

abbrev pub job_unless : ℕ → Building → Option Outcome → Option Job
job_unless n b (Some o) = writing_of n b o
job_unless n b None = job_by n b (slice_get b.tasks b.claimed)

-- the first open job of a build: its first open task, or its link where all tasks are done; once it is settled with files that it puts, their writing
abbrev pub job_of : ℕ → Building → Option Job
job_of n b = job_unless n b b.outcome

abbrev pub or_next : Option Job → Option Job → Option Job
or_next (Some j) next = Some j
or_next None next = next

-- the first open job of builds, whose numbers begin here
abbrev pub first_from : ℕ → List Building → Option Job
first_from n [] = None
first_from n (b ∷ bs) = or_next (job_of n b) (first_from (n + 1) bs)

-- the first open job of a role: a worker's is that of the earliest build, and a door has none
abbrev pub first_job : State → Role → Option Job
first_job s (role.Worker worker) = first_from 0 s.builds
first_job s (role.Door door) = None

abbrev pub is_settled : Building → Bool
is_settled b = is_some b.outcome

abbrev pub is_closed : Building → Bool
is_closed b = b.closed

-- the input has ended, and no build is active
abbrev pub is_closing : State → Bool
is_closing s = s.ended && list_all is_closed s.builds

abbrev pub claimed_or : Bool → Option Job → Claimed
claimed_or closing (Some j) = claimed.Job j
claimed_or true None = claimed.Closing
claimed_or false None = claimed.Idle

-- what a role's next work is
abbrev pub job_told : State → Role → Claimed
job_told s r = claimed_or (is_closing s) (first_job s r)

abbrev pub same_job : Job → Job → Bool
same_job (job.Scan n t) (job.Scan m u) = nat_eq n m && same_task t u
same_job (job.Scan n t) (job.Link m) = false
same_job (job.Link n) (job.Scan m u) = false
same_job (job.Link n) (job.Link m) = nat_eq n m
same_job (job.Write n) (job.Write m) = nat_eq n m
same_job (job.Write n) (job.Scan m u) = false
same_job (job.Write n) (job.Link m) = false
same_job (job.Scan n t) (job.Write m) = false
same_job (job.Link n) (job.Write m) = false

abbrev pub names_job : Option Job → Job → Bool
names_job None j = false
names_job (Some first) j = same_job first j

-- ---- claims

abbrev pub has_task : Building → ℕ → Task → Bool
has_task b worker t = list_any (is_claim worker t) b.claims

abbrev pub is_linker : Option ℕ → ℕ → Bool
is_linker None worker = false
is_linker (Some linker) worker = nat_eq linker worker

abbrev pub has_claim : Building → ℕ → Bool
has_claim b worker = list_any (λ claim. nat_eq claim.0 worker) b.claims || is_linker b.linker worker

-- whether a worker may settle a build so: as refused memory with any claim, and as linked with the claim of the link
abbrev pub may_settle : Building → ℕ → Outcome → Bool
may_settle b worker (outcome.Files files) = is_linker b.linker worker
may_settle b worker (outcome.Errors messages) = is_linker b.linker worker
may_settle b worker outcome.Canceled = false
may_settle b worker outcome.Memory = has_claim b worker

-- ---- written files

-- whether these are some of those paths, in their order
abbrev pub is_part : List (List ℕ × PutFault) → List OutFile → Bool
is_part [] files = true
is_part (failure ∷ failures) [] = false
is_part (failure ∷ failures) (file ∷ files) = if bytes_eq failure.0 file.path then is_part failures files else is_part (failure ∷ failures) files

-- whether these can be the files of an outcome that were not put
abbrev pub may_fail : Option Outcome → Failures → Bool
may_fail (Some (outcome.Files files)) (failures.Paths paths) = is_part paths files
may_fail (Some (outcome.Files files)) failures.All = true
may_fail o f = false

abbrev pub is_writer : Option ℕ → ℕ → Bool
is_writer None worker = false
is_writer (Some writer) worker = nat_eq writer worker

-- ---- events

abbrev pub has_begun : State → ℕ → Bool
has_begun s n = nat_lt n (length s.builds)

-- whether an event may come
abbrev pub allowed : State → Event → Bool
allowed s (event.Arrive packet) = not s.ended && may_arrive packet
allowed s event.EndOfInput = not s.ended
allowed s (event.Claim r j) = names_job (first_job s r) j
allowed s (event.Record worker n question answer) = has_begun s n && fits question answer
allowed s (event.Deliver worker n t p) = has_begun s n && (has_task (build_at s.builds n) worker t && product_fits t p)
allowed s (event.Settle worker n o) = has_begun s n && may_settle (build_at s.builds n) worker o
allowed s (event.Written worker n f) = has_begun s n && (is_writer (build_at s.builds n).writer worker && may_fail (build_at s.builds n).outcome f)
allowed s event.Pop = nat_lt 0 (length s.owed)

-- whether the step of an event takes no memory
abbrev pub takes_none : Event → Bool
takes_none (event.Arrive packet) = false
takes_none event.EndOfInput = true
takes_none (event.Claim r j) = true
takes_none (event.Record worker n question answer) = false
takes_none (event.Deliver worker n t p) = false
takes_none (event.Settle worker n o) = true
takes_none (event.Written worker n f) = true
takes_none event.Pop = true
