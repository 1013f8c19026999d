use Rattle.std.proofs.Common.{◌≡◌, ◌≤◌, length, vec_len}
use Rattle.std.specs.Vec.{vec_capacity}
use Rattle.esb_top.proofs.Files.{ArePutSo}
use Rattle.esb_top.proofs.puts.put_all.Given as goal

-- the files so far were put, or are listed
abbrev pub invariant-loop-file : goal.invariant-loop-file
invariant-loop-file g l =
    ArePutSo g.H.Host.tells (g.H.Host.put_at l.fn.host) (g.H.Host.put_at l.host) (g.H.Host.put_faults l.fn.host) (g.H.Host.put_faults l.host) l.yielded l.failures.items
    × (vec_len l.failures ≤ length l.yielded) × (vec_capacity l.failures ≡ vec_capacity l.fn.failures) × (g.H.Host.tells → g.H.Host.world l.host ≡ g.H.Host.world l.fn.host) × (g.H.Host.faults l.fn.host ≤ g.H.Host.faults l.host)
