use Rattle.std.proofs.Common.{◌≡◌, None, ◌++◌}
use Rattle.esb_top.specs.Input.{HasRead, arrived_bytes}
use Rattle.esb_top.specs.Serving.{Serving}
use Rattle.esb_top.specs.Turn.{IsFree}
use Rattle.esb_top.proofs.session.serve.Given as goal

abbrev pub invariant-loop : goal.invariant-loop
invariant-loop g l =
    Serving g.H.Host.tells g.K.Sink.tells g.S.Source.tells
    (record { world = g.H.Host.world l.fn.host; host_faults = g.H.Host.faults l.fn.host; puts = g.H.Host.put_at l.fn.host; put_faults = g.H.Host.put_faults l.fn.host; holds = g.K.Sink.holds l.fn.sink; sink_faults = g.K.Sink.faults l.fn.sink; whole = l.fn.whole; unread = g.S.Source.left l.fn.source; source_faults = g.S.Source.faults l.fn.source; gave = g.S.Source.gave l.fn.source })
    (record { world = g.H.Host.world l.host; host_faults = g.H.Host.faults l.host; puts = g.H.Host.put_at l.host; put_faults = g.H.Host.put_faults l.host; holds = g.K.Sink.holds l.sink; sink_faults = g.K.Sink.faults l.sink; whole = l.whole; unread = l.reader.held ++ g.S.Source.left l.source; source_faults = g.S.Source.faults l.source; gave = g.S.Source.gave l.source })
    l.fn.history l.history
    × (l.reader.stopped ≡ None) × IsFree l.history.events × HasRead (g.S.Source.gave l.fn.source) (g.S.Source.gave l.source) 0 l.reader.reads × (l.reader.place ≡ arrived_bytes l.history.events)
