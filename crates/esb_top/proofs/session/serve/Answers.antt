use Rattle.esb_top.specs.Input.{IsAt}
use Rattle.std.proofs.Common.{ℕ, subst, ◌++◌}
use Rattle.esb_top.specs.Serving.{Outside, Serving}
use Rattle.esb_top.proofs.Outputs.{on_err, wrote-part}
use Rattle.esb_top.proofs.Turns.{RefusedNow, ends-earlier, read-trans, refused-trans, serving-trans}
use Rattle.esb_top.proofs.session.serve.Goals as goal

pub returns-in_err-ended-clause-err : goal.returns-in_err-ended-clause-err
returns-in_err-ended-clause-err g c =
    let was : Outside = record { world = g.H.Host.world c.args.host.now; host_faults = g.H.Host.faults c.args.host.now; puts = g.H.Host.put_at c.args.host.now; put_faults = g.H.Host.put_faults c.args.host.now; holds = g.K.Sink.holds c.args.sink.now; sink_faults = g.K.Sink.faults c.args.sink.now; whole = c.args.whole.now; unread = g.S.Source.left c.args.source.now; source_faults = g.S.Source.faults c.args.source.now; gave = g.S.Source.gave c.args.source.now } in
    let mid : Outside = record { world = g.H.Host.world c.loop.host; host_faults = g.H.Host.faults c.loop.host; puts = g.H.Host.put_at c.loop.host; put_faults = g.H.Host.put_faults c.loop.host; holds = g.K.Sink.holds c.loop.sink; sink_faults = g.K.Sink.faults c.loop.sink; whole = c.loop.whole; unread = c.loop.reader.held ++ g.S.Source.left c.loop.source; source_faults = g.S.Source.faults c.loop.source; gave = g.S.Source.gave c.loop.source } in
    let now : Outside = record { world = g.H.Host.world c.turn.new.host; host_faults = g.H.Host.faults c.turn.new.host; puts = g.H.Host.put_at c.turn.new.host; put_faults = g.H.Host.put_faults c.turn.new.host; holds = g.K.Sink.holds c.turn.new.sink; sink_faults = g.K.Sink.faults c.turn.new.sink; whole = c.turn.new.whole; unread = g.S.Source.left c.turn.new.source; source_faults = g.S.Source.faults c.turn.new.source; gave = g.S.Source.gave c.turn.new.source } in
    let last : RefusedNow g.H.Host.tells g.K.Sink.tells mid now c.loop.history c.turn.new.history = record {
      goes = c.turn.ensures.goes;
      room = c.turn.ensures.room;
      wrote = c.in_err-ended.ensures.wrote_part;
      sink_falls = c.turn.ensures.sink_never_falls;
      source_falls = c.turn.ensures.source_never_falls;
      arrived = c.in_err-ended.ensures.arrived;
      puts = c.turn.ensures.puts;
    } in
    on_err c.from_residual.result _ (refused-trans g.H.Host.tells g.K.Sink.tells g.S.Source.tells was mid now c.args.history.now c.loop.history c.turn.new.history c.loop.reader.reads c.turn.new.reader.reads c.loop.invariant.0
    c.loop.invariant.3 c.turn.ensures.read last)

pub returns-in-Some-clause-ok : goal.returns-in-Some-clause-ok
returns-in-Some-clause-ok g c =
    let was : Outside = record { world = g.H.Host.world c.args.host.now; host_faults = g.H.Host.faults c.args.host.now; puts = g.H.Host.put_at c.args.host.now; put_faults = g.H.Host.put_faults c.args.host.now; holds = g.K.Sink.holds c.args.sink.now; sink_faults = g.K.Sink.faults c.args.sink.now; whole = c.args.whole.now; unread = g.S.Source.left c.args.source.now; source_faults = g.S.Source.faults c.args.source.now; gave = g.S.Source.gave c.args.source.now } in
    let mid : Outside = record { world = g.H.Host.world c.loop.host; host_faults = g.H.Host.faults c.loop.host; puts = g.H.Host.put_at c.loop.host; put_faults = g.H.Host.put_faults c.loop.host; holds = g.K.Sink.holds c.loop.sink; sink_faults = g.K.Sink.faults c.loop.sink; whole = c.loop.whole; unread = c.loop.reader.held ++ g.S.Source.left c.loop.source; source_faults = g.S.Source.faults c.loop.source; gave = g.S.Source.gave c.loop.source } in
    let now : Outside = record { world = g.H.Host.world c.turn.new.host; host_faults = g.H.Host.faults c.turn.new.host; puts = g.H.Host.put_at c.turn.new.host; put_faults = g.H.Host.put_faults c.turn.new.host; holds = g.K.Sink.holds c.turn.new.sink; sink_faults = g.K.Sink.faults c.turn.new.sink; whole = c.turn.new.whole; unread = c.turn.new.reader.held ++ g.S.Source.left c.turn.new.source; source_faults = g.S.Source.faults c.turn.new.source; gave = g.S.Source.gave c.turn.new.source } in
    let last : Serving g.H.Host.tells g.K.Sink.tells g.S.Source.tells mid now c.loop.history c.turn.new.history = record {
      goes = c.turn.ensures.goes;
      world = c.turn.ensures.world;
      puts = c.turn.ensures.puts;
      room = c.turn.ensures.room;
      wrote = c.in_ok-ended.ensures.wrote;
      failed = c.turn.ensures.failed;
      sink_falls = c.turn.ensures.sink_never_falls;
      source_falls = c.turn.ensures.source_never_falls;
      stream = c.in_ok-ended.ensures.stream;
    } in
    record {
      held = c.turn.new.reader.held;
      reads = c.turn.new.reader.reads;
      serving = serving-trans g.H.Host.tells g.K.Sink.tells g.S.Source.tells was mid now c.args.history.now c.loop.history c.turn.new.history c.loop.invariant.0 last;
      read = read-trans _ _ _ 0 c.loop.reader.reads c.turn.new.reader.reads c.loop.invariant.3 c.turn.ensures.read;
      rests = rw c.in-Some.is at c.in_ok-ended.ensures.rests;
      at = subst (λ (k : ℕ). IsAt k c.in-Some.ending) (c.in_ok-ended.ensures.placed c.loop.invariant.4) (rw c.in-Some.is at c.in_ok-ended.ensures.at);
      ends = ends-earlier g.S.Source.tells _ _ _ _ _ _ c.in-Some.ending c.loop.invariant.0.source_falls (rw c.in-Some.is at c.in_ok-ended.ensures.ends);
    }

pub loop-preserved : goal.loop-preserved
loop-preserved g c =
    let was : Outside = record { world = g.H.Host.world c.args.host.now; host_faults = g.H.Host.faults c.args.host.now; puts = g.H.Host.put_at c.args.host.now; put_faults = g.H.Host.put_faults c.args.host.now; holds = g.K.Sink.holds c.args.sink.now; sink_faults = g.K.Sink.faults c.args.sink.now; whole = c.args.whole.now; unread = g.S.Source.left c.args.source.now; source_faults = g.S.Source.faults c.args.source.now; gave = g.S.Source.gave c.args.source.now } in
    let mid : Outside = record { world = g.H.Host.world c.loop.host; host_faults = g.H.Host.faults c.loop.host; puts = g.H.Host.put_at c.loop.host; put_faults = g.H.Host.put_faults c.loop.host; holds = g.K.Sink.holds c.loop.sink; sink_faults = g.K.Sink.faults c.loop.sink; whole = c.loop.whole; unread = c.loop.reader.held ++ g.S.Source.left c.loop.source; source_faults = g.S.Source.faults c.loop.source; gave = g.S.Source.gave c.loop.source } in
    let now : Outside = record { world = g.H.Host.world c.turn.new.host; host_faults = g.H.Host.faults c.turn.new.host; puts = g.H.Host.put_at c.turn.new.host; put_faults = g.H.Host.put_faults c.turn.new.host; holds = g.K.Sink.holds c.turn.new.sink; sink_faults = g.K.Sink.faults c.turn.new.sink; whole = c.turn.new.whole; unread = c.turn.new.reader.held ++ g.S.Source.left c.turn.new.source; source_faults = g.S.Source.faults c.turn.new.source; gave = g.S.Source.gave c.turn.new.source } in
    let last : Serving g.H.Host.tells g.K.Sink.tells g.S.Source.tells mid now c.loop.history c.turn.new.history = record {
      goes = c.turn.ensures.goes;
      world = c.turn.ensures.world;
      puts = c.turn.ensures.puts;
      room = c.turn.ensures.room;
      wrote = c.in_ok-ended.ensures.wrote;
      failed = c.turn.ensures.failed;
      sink_falls = c.turn.ensures.sink_never_falls;
      source_falls = c.turn.ensures.source_never_falls;
      stream = c.in_ok-ended.ensures.stream;
    } in
    (serving-trans g.H.Host.tells g.K.Sink.tells g.S.Source.tells was mid now c.args.history.now c.loop.history c.turn.new.history c.loop.invariant.0 last, c.in_ok-ended.ensures.going c.in_default.is, c.turn.ensures.free, read-trans _ _ _ 0 c.loop.reader.reads c.turn.new.reader.reads c.loop.invariant.3 c.turn.ensures.read, c.in_ok-ended.ensures.placed c.loop.invariant.4)

pub returns-clause-err : goal.returns-clause-err
returns-clause-err g c =
    let served = c.loop.invariant.0 in
    record {
      goes = served.goes;
      room = served.room;
      wrote = λ before front h t. wrote-part _ _ _ _ (served.wrote before front h t);
      sink_falls = served.sink_falls;
      source_falls = served.source_falls;
      puts = served.puts;
      stream = λ all r t. record { rest = _; parts = served.stream all r t };
      reads = c.loop.reader.reads;
      read = c.loop.invariant.3;
    }
