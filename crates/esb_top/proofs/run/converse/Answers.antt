use Rattle.std.proofs.Common.{◌≡◌, ℕ, List, [], true, sym, ap, subst, refl, ◌∙◌}
use Rattle.esb_wire.specs.Spelling.{counted}
use Rattle.esb_core.specs.declared.event.Event.{Event}
use Rattle.esb_top.specs.Entries.{Entries}
use Rattle.esb_top.specs.Serving.{Outside}
use Rattle.esb_top.specs.Session.{IsSession, place_of, status_of}
use Rattle.esb_top.proofs.Sessions.{session-any, session-none}
use Rattle.esb_top.proofs.run.converse.Goals as goal

pub returns : goal.returns
returns g c =
    let was : Outside = record { world = g.H.Host.world c.args.host.now; host_faults = g.H.Host.faults c.args.host.now; puts = g.H.Host.put_at c.args.host.now; put_faults = g.H.Host.put_faults c.args.host.now; holds = g.K.Sink.holds c.args.sink.now; sink_faults = g.K.Sink.faults c.args.sink.now; whole = true; unread = g.S.Source.left c.args.source.now; source_faults = g.S.Source.faults c.args.source.now; gave = g.S.Source.gave c.args.source.now } in
    let mid : Outside = record { world = g.H.Host.world c.args.host.now; host_faults = g.H.Host.faults c.args.host.now; puts = g.H.Host.put_at c.args.host.now; put_faults = g.H.Host.put_faults c.args.host.now; holds = g.K.Sink.holds c.greet-whole.new.sink; sink_faults = g.K.Sink.faults c.greet-whole.new.sink; whole = c.greet-whole.result; unread = g.S.Source.left c.args.source.now; source_faults = g.S.Source.faults c.args.source.now; gave = g.S.Source.gave c.args.source.now } in
    let now : Outside = record { world = g.H.Host.world c.serve-ending.new.host; host_faults = g.H.Host.faults c.serve-ending.new.host; puts = g.H.Host.put_at c.serve-ending.new.host; put_faults = g.H.Host.put_faults c.serve-ending.new.host; holds = g.K.Sink.holds c.serve-ending.new.sink; sink_faults = g.K.Sink.faults c.serve-ending.new.sink; whole = c.serve-ending.new.whole; unread = g.S.Source.left c.serve-ending.new.source; source_faults = g.S.Source.faults c.serve-ending.new.source; gave = g.S.Source.gave c.serve-ending.new.source } in
    let fresh : c.in-Ok.history.events ≡ [] = ap (λ (h : Entries). h.events) c.in-Ok.ensures in
    let final : List Event = c.end_of_input.new.self.events in
    let whole-session : IsSession g.H.Host.tells g.K.Sink.tells g.S.Source.tells (counted c.args.text.now) was (record now { whole = true }) (status_of c.serve-ending.result c.serve-ending.new.whole c.has_refusal.result) (place_of c.serve-ending.result c.serve-ending.new.whole) final =
    session-any g.H.Host.tells g.K.Sink.tells g.S.Source.tells (counted c.args.text.now) was mid c.in-Ok.history fresh refl refl refl refl refl (λ path. refl) refl
    c.greet-whole.ensures.wrote c.greet-whole.ensures.failed c.greet-whole.ensures.never_falls
    c.serve-ending.new.history final now c.serve-ending.result c.has_refusal.result c.has_refusal.ensures c.end_of_input.ensures c.is_legal.ensures c.serve-ending.ensures.ok c.serve-ending.ensures.err in
    subst (λ (n : ℕ). IsSession g.H.Host.tells g.K.Sink.tells g.S.Source.tells (counted c.args.text.now) was (record now { whole = true }) n c.end_with-2.result.place c.end_with-2.result.journal.events) (sym (c.end_with-2.ensures.status ∙ c.status_of-status.ensures))
    (subst (λ (p : ℕ). IsSession g.H.Host.tells g.K.Sink.tells g.S.Source.tells (counted c.args.text.now) was (record now { whole = true }) (status_of c.serve-ending.result c.serve-ending.new.whole c.has_refusal.result) p c.end_with-2.result.journal.events)
    (sym (c.end_with-2.ensures.place ∙ c.place_of-place.ensures))
    (subst (λ (es : List Event). IsSession g.H.Host.tells g.K.Sink.tells g.S.Source.tells (counted c.args.text.now) was (record now { whole = true }) (status_of c.serve-ending.result c.serve-ending.new.whole c.has_refusal.result) (place_of c.serve-ending.result c.serve-ending.new.whole) es)
    (sym (ap (λ j. j.events) c.end_with-2.ensures.journal ∙ c.into_journal.ensures)) whole-session))

pub returns-in_default : goal.returns-in_default
returns-in_default g c =
    let was : Outside = record { world = g.H.Host.world c.args.host.now; host_faults = g.H.Host.faults c.args.host.now; puts = g.H.Host.put_at c.args.host.now; put_faults = g.H.Host.put_faults c.args.host.now; holds = g.K.Sink.holds c.args.sink.now; sink_faults = g.K.Sink.faults c.args.sink.now; whole = true; unread = g.S.Source.left c.args.source.now; source_faults = g.S.Source.faults c.args.source.now; gave = g.S.Source.gave c.args.source.now } in
    subst (λ (n : ℕ). IsSession g.H.Host.tells g.K.Sink.tells g.S.Source.tells (counted c.args.text.now) was was n c.end_with.result.place c.end_with.result.journal.events) (sym c.end_with.ensures.status)
    (subst (λ (p : ℕ). IsSession g.H.Host.tells g.K.Sink.tells g.S.Source.tells (counted c.args.text.now) was was 5 p c.end_with.result.journal.events) (sym c.end_with.ensures.place)
    (session-none g.H.Host.tells g.K.Sink.tells g.S.Source.tells (counted c.args.text.now) was c.end_with.result.journal.events (ap (λ j. j.events) c.end_with.ensures.journal ∙ c.no_events.ensures)))
