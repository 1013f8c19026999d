use Rattle.esb_core.specs.History.{replay}
use Rattle.esb_sound.specs.Sent.{sent}
use Rattle.std.proofs.Common.{◌++◌, List, inl, sym, ap, ◌∙◌}
use Rattle.esb_core.specs.declared.event.Event.{Event}
use Rattle.esb_top.proofs.InOrder.{popped-free, popped-in_turn, unowed}
use Rattle.esb_top.proofs.Outputs.{on_err, popped-err, popped-ok, ready-after}
use Rattle.esb_top.proofs.session.send_first.Goals as goal

pub send-requires : goal.send-requires
send-requires g c =
    ready-after c.args.history.now.events c.pop.new.self.events c.in-Some.out (rw c.in-Some.is at c.in_ok-out.ensures.ok).events
    (c.replies_are_ready.ensures c.args.history.now.events c.in-Some.out c.is_legal.ensures (sym c.in_ok-out.ensures.first ∙ c.in-Some.is))

pub returns-in_err-whole-clause-wrote_part : goal.returns-in_err-whole-clause-wrote_part
returns-in_err-whole-clause-wrote_part g c =
    on_err c.from_residual-in_err-whole.result _
    (λ before front w t.
    popped-err c.args.history.now.events c.pop.new.self.events c.in-Some.out before front (g.K.Sink.holds c.send.new.sink) c.args.whole.now c.is_legal.ensures (sym c.in_ok-out.ensures.first ∙ c.in-Some.is)
    (rw c.in-Some.is at c.in_ok-out.ensures.ok).events (rw c.in_err-whole.ensures.err (w t)))

pub returns-clause-wrote : goal.returns-clause-wrote
returns-clause-wrote g c =
    λ before front w t.
    popped-ok c.args.history.now.events c.pop.new.self.events c.in-Some.out before front (g.K.Sink.holds c.send.new.sink) c.in_ok-whole.field-0 c.is_legal.ensures (sym c.in_ok-out.ensures.first ∙ c.in-Some.is)
    (rw c.in-Some.is at c.in_ok-out.ensures.ok).events (c.in_ok-whole.ensures.wrote before (front ++ sent c.args.history.now.events) w t)

pub returns-in_err-whole-clause-in_turn : goal.returns-in_err-whole-clause-in_turn
returns-in_err-whole-clause-in_turn g c = λ world. popped-in_turn world c.args.history.now.events c.pop.new.self.events c.in-Some.out c.is_legal.ensures c.requires.free (sym c.in_ok-out.ensures.first ∙ c.in-Some.is) (rw c.in-Some.is at c.in_ok-out.ensures.ok).events

pub returns-in_err-whole-clause-free : goal.returns-in_err-whole-clause-free
returns-in_err-whole-clause-free g c = popped-free c.args.history.now.events c.pop.new.self.events c.requires.free (rw c.in-Some.is at c.in_ok-out.ensures.ok).events

pub returns-clause-in_turn : goal.returns-clause-in_turn
returns-clause-in_turn g c = λ world. popped-in_turn world c.args.history.now.events c.pop.new.self.events c.in-Some.out c.is_legal.ensures c.requires.free (sym c.in_ok-out.ensures.first ∙ c.in-Some.is) (rw c.in-Some.is at c.in_ok-out.ensures.ok).events

pub returns-clause-free : goal.returns-clause-free
returns-clause-free g c = popped-free c.args.history.now.events c.pop.new.self.events c.requires.free (rw c.in-Some.is at c.in_ok-out.ensures.ok).events

pub returns-in_default-clause-none_owed : goal.returns-in_default-clause-none_owed
returns-in_default-clause-none_owed g c = λ e.
    ap (λ (es : List Event). (replay es).owed) (rw c.in_default.is at c.in_ok-out.ensures.ok).events
    ∙ unowed (replay c.args.history.now.events).owed (sym c.in_ok-out.ensures.first ∙ c.in_default.is)

pub returns-in_default-clause-in_turn : goal.returns-in_default-clause-in_turn
returns-in_default-clause-in_turn g c = λ world. inl (rw c.in_default.is at c.in_ok-out.ensures.ok).events
