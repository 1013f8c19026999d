use Rattle.std.proofs.Common.{arith, ◌∙◌, [], ◌∷◌, length-append}
use Rattle.esb_top.proofs.Files.{put-one-more}
use Rattle.esb_top.proofs.puts.put_all.Goals as goal

pub loop-file-preserved : goal.loop-file-preserved
loop-file-preserved g c =
    let so = c.loop-file.invariant in
    let fewer = so.1 in
    let grows = c.put_one.ensures.grows in
    let longer = length-append c.loop-file.yielded (c.in-Some.file ∷ []) in (
      put-one-more g.H.Host.tells (g.H.Host.put_at c.args.host.now) (g.H.Host.put_at c.loop-file.host) (g.H.Host.put_at c.put_one.new.host) (g.H.Host.put_faults c.args.host.now) (g.H.Host.put_faults c.loop-file.host) (g.H.Host.put_faults c.put_one.new.host)
          c.loop-file.yielded c.in-Some.file c.loop-file.failures.items c.put_one.new.failures.items so.0 c.put_one.ensures.puts,
      omega (arith, fewer, grows, longer),
      c.put_one.ensures.capacity ∙ so.2,
      λ t. c.put_one.ensures.world t ∙ so.3 t,
      omega (arith, so.4, c.put_one.ensures.never_falls),
    )
