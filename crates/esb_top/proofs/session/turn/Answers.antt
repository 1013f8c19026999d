use Rattle.std.proofs.Common.{length, ◌++◌, ℕ, List, sym, ap, subst, ◌∙◌}
use Rattle.std.specs.List.{flat_map}
use Rattle.esb_wire.specs.Spelling.{frame}
use Rattle.esb_sound.specs.Sent.{arrivals}
use Rattle.esb_top.specs.Output.{IsWritten}
use Rattle.esb_top.proofs.Turns.{arrivals-pops, goes-arrives, goes-pops, goes-trans, goes-worked, if_ok, if_ok-map, sent-arrives, sent-worked}
use Rattle.esb_core.specs.declared.event.Event.{Event}
use Rattle.esb_top.proofs.InOrder.{turns-one}
use Rattle.esb_top.proofs.Outputs.{on_err, on_err-map}
use Rattle.esb_top.proofs.Files.{puts-arrives, puts-pops, puts-trans}
use Rattle.esb_top.proofs.session.turn.Goals as goal

pub returns-in_err-send_first-clause-goes : goal.returns-in_err-send_first-clause-goes
returns-in_err-send_first-clause-goes g c = goes-pops g.H.Host.tells (g.H.Host.world c.args.host.now) (g.H.Host.faults c.args.host.now) c.args.history.now.events c.send_first.new.history.events c.send_first.ensures.pops (turns-one g.H.Host.tells (g.H.Host.world c.args.host.now) c.args.history.now.events c.send_first.new.history.events (c.send_first.ensures.in_turn (g.H.Host.world c.args.host.now)))

pub returns-then-branch-clause-goes : goal.returns-then-branch-clause-goes
returns-then-branch-clause-goes g c = goes-pops g.H.Host.tells (g.H.Host.world c.args.host.now) (g.H.Host.faults c.args.host.now) c.args.history.now.events c.send_first.new.history.events c.send_first.ensures.pops (turns-one g.H.Host.tells (g.H.Host.world c.args.host.now) c.args.history.now.events c.send_first.new.history.events (c.send_first.ensures.in_turn (g.H.Host.world c.args.host.now)))

pub work_first-requires-clause-sound : goal.work_first-requires-clause-sound
work_first-requires-clause-sound g c = (goes-pops g.H.Host.tells (g.H.Host.world c.args.host.now) (g.H.Host.faults c.args.host.now) c.args.history.now.events c.send_first.new.history.events c.send_first.ensures.pops (turns-one g.H.Host.tells (g.H.Host.world c.args.host.now) c.args.history.now.events c.send_first.new.history.events (c.send_first.ensures.in_turn (g.H.Host.world c.args.host.now)))).sound c.requires.sound

pub returns-in_err-work_first-clause-goes : goal.returns-in_err-work_first-clause-goes
returns-in_err-work_first-clause-goes g c = goes-trans g.H.Host.tells (g.H.Host.world c.args.host.now) (g.H.Host.faults c.args.host.now) (g.H.Host.faults c.args.host.now) (g.H.Host.faults c.work_first.new.host) c.args.history.now.events c.send_first.new.history.events c.work_first.new.history.events (goes-pops g.H.Host.tells (g.H.Host.world c.args.host.now) (g.H.Host.faults c.args.host.now) c.args.history.now.events c.send_first.new.history.events c.send_first.ensures.pops (turns-one g.H.Host.tells (g.H.Host.world c.args.host.now) c.args.history.now.events c.send_first.new.history.events (c.send_first.ensures.in_turn (g.H.Host.world c.args.host.now)))) (goes-worked g.H.Host.tells (g.H.Host.world c.args.host.now) (g.H.Host.faults c.args.host.now) (g.H.Host.faults c.work_first.new.host) c.send_first.new.history.events c.work_first.new.history.events c.work_first.ensures.worked)

pub returns-then-branch-2-clause-goes : goal.returns-then-branch-2-clause-goes
returns-then-branch-2-clause-goes g c = goes-trans g.H.Host.tells (g.H.Host.world c.args.host.now) (g.H.Host.faults c.args.host.now) (g.H.Host.faults c.args.host.now) (g.H.Host.faults c.work_first.new.host) c.args.history.now.events c.send_first.new.history.events c.work_first.new.history.events (goes-pops g.H.Host.tells (g.H.Host.world c.args.host.now) (g.H.Host.faults c.args.host.now) c.args.history.now.events c.send_first.new.history.events c.send_first.ensures.pops (turns-one g.H.Host.tells (g.H.Host.world c.args.host.now) c.args.history.now.events c.send_first.new.history.events (c.send_first.ensures.in_turn (g.H.Host.world c.args.host.now)))) (goes-worked g.H.Host.tells (g.H.Host.world c.args.host.now) (g.H.Host.faults c.args.host.now) (g.H.Host.faults c.work_first.new.host) c.send_first.new.history.events c.work_first.new.history.events c.work_first.ensures.worked)

pub read_next-requires-clause-open : goal.read_next-requires-clause-open
read_next-requires-clause-open g c = (goes-trans g.H.Host.tells (g.H.Host.world c.args.host.now) (g.H.Host.faults c.args.host.now) (g.H.Host.faults c.args.host.now) (g.H.Host.faults c.work_first.new.host) c.args.history.now.events c.send_first.new.history.events c.work_first.new.history.events (goes-pops g.H.Host.tells (g.H.Host.world c.args.host.now) (g.H.Host.faults c.args.host.now) c.args.history.now.events c.send_first.new.history.events c.send_first.ensures.pops (turns-one g.H.Host.tells (g.H.Host.world c.args.host.now) c.args.history.now.events c.send_first.new.history.events (c.send_first.ensures.in_turn (g.H.Host.world c.args.host.now)))) (goes-worked g.H.Host.tells (g.H.Host.world c.args.host.now) (g.H.Host.faults c.args.host.now) (g.H.Host.faults c.work_first.new.host) c.send_first.new.history.events c.work_first.new.history.events c.work_first.ensures.worked)).ended ∙ c.requires.unended

pub returns-clause-goes : goal.returns-clause-goes
returns-clause-goes g c = goes-trans g.H.Host.tells (g.H.Host.world c.args.host.now) (g.H.Host.faults c.args.host.now) (g.H.Host.faults c.work_first.new.host) (g.H.Host.faults c.work_first.new.host) c.args.history.now.events c.work_first.new.history.events c.read_next.new.history.events (goes-trans g.H.Host.tells (g.H.Host.world c.args.host.now) (g.H.Host.faults c.args.host.now) (g.H.Host.faults c.args.host.now) (g.H.Host.faults c.work_first.new.host) c.args.history.now.events c.send_first.new.history.events c.work_first.new.history.events (goes-pops g.H.Host.tells (g.H.Host.world c.args.host.now) (g.H.Host.faults c.args.host.now) c.args.history.now.events c.send_first.new.history.events c.send_first.ensures.pops (turns-one g.H.Host.tells (g.H.Host.world c.args.host.now) c.args.history.now.events c.send_first.new.history.events (c.send_first.ensures.in_turn (g.H.Host.world c.args.host.now)))) (goes-worked g.H.Host.tells (g.H.Host.world c.args.host.now) (g.H.Host.faults c.args.host.now) (g.H.Host.faults c.work_first.new.host) c.send_first.new.history.events c.work_first.new.history.events c.work_first.ensures.worked)) (goes-arrives g.H.Host.tells (g.H.Host.world c.args.host.now) (g.H.Host.faults c.work_first.new.host) c.work_first.new.history.events c.read_next.new.history.events c.read_next.ensures.arrives (turns-one g.H.Host.tells (g.H.Host.world c.args.host.now) c.work_first.new.history.events c.read_next.new.history.events (c.read_next.ensures.in_turn (g.H.Host.world c.args.host.now))))

pub returns-clause-wrote : goal.returns-clause-wrote
returns-clause-wrote g c =
    if_ok c.read_next.result _
    (λ ending before front w t.
    subst (λ (bytes : List ℕ). IsWritten before (g.K.Sink.holds c.send_first.new.sink) (front ++ bytes) c.send_first.new.whole) (sym (sent-arrives c.work_first.new.history.events c.read_next.new.history.events c.read_next.ensures.arrives ∙ sent-worked c.send_first.new.history.events c.work_first.new.history.events c.work_first.ensures.worked.sends))
    (c.in_ok-send_first.ensures.wrote before front w t))

pub returns-clause-stream : goal.returns-clause-stream
returns-clause-stream g c =
    if_ok-map c.read_next.result _ _
    (λ ending h all before t.
    h all
    (λ u.
    before u
    ∙ ap (λ (ps : List _). flat_map frame ps ++ (c.args.reader.now.held ++ g.S.Source.left c.args.source.now)) (sym (c.work_first.ensures.worked.arrived ∙ arrivals-pops c.args.history.now.events c.send_first.new.history.events c.send_first.ensures.pops)))
    t)
    c.read_next.ensures.stream

pub returns-in_err-send_first-clause-arrived : goal.returns-in_err-send_first-clause-arrived
returns-in_err-send_first-clause-arrived g c = on_err c.from_residual.result _ (arrivals-pops c.args.history.now.events c.send_first.new.history.events c.send_first.ensures.pops)

pub returns-in_err-work_first-clause-arrived : goal.returns-in_err-work_first-clause-arrived
returns-in_err-work_first-clause-arrived g c =
    on_err c.from_residual-in_err-work_first.result _
    (c.work_first.ensures.worked.arrived ∙ arrivals-pops c.args.history.now.events c.send_first.new.history.events c.send_first.ensures.pops)

pub returns-clause-arrived : goal.returns-clause-arrived
returns-clause-arrived g c =
    on_err-map c.read_next.result
    (λ part. ap (λ (es : List Event). arrivals es) part ∙ c.work_first.ensures.worked.arrived ∙ arrivals-pops c.args.history.now.events c.send_first.new.history.events c.send_first.ensures.pops)
    c.read_next.ensures.part

pub returns-clause-placed : goal.returns-clause-placed
returns-clause-placed g c =
    if_ok-map c.read_next.result _ _
    (λ ending placed before.
    placed (before ∙ ap (λ (ps : List _). length (flat_map frame ps)) (sym (c.work_first.ensures.worked.arrived ∙ arrivals-pops c.args.history.now.events c.send_first.new.history.events c.send_first.ensures.pops))))
    c.read_next.ensures.placed

pub returns-then-branch-clause-placed : goal.returns-then-branch-clause-placed
returns-then-branch-clause-placed g c = λ before.
    before ∙ ap (λ (ps : List _). length (flat_map frame ps)) (sym (arrivals-pops c.args.history.now.events c.send_first.new.history.events c.send_first.ensures.pops))

pub returns-then-branch-2-clause-placed : goal.returns-then-branch-2-clause-placed
returns-then-branch-2-clause-placed g c = λ before.
    before ∙ ap (λ (ps : List _). length (flat_map frame ps)) (sym (c.work_first.ensures.worked.arrived ∙ arrivals-pops c.args.history.now.events c.send_first.new.history.events c.send_first.ensures.pops))

pub returns-in_err-send_first-clause-puts : goal.returns-in_err-send_first-clause-puts
returns-in_err-send_first-clause-puts g c = puts-pops g.H.Host.tells (g.H.Host.put_at c.args.host.now) (g.H.Host.put_faults c.args.host.now) c.args.history.now.events c.send_first.new.history.events c.send_first.ensures.pops

pub returns-then-branch-clause-puts : goal.returns-then-branch-clause-puts
returns-then-branch-clause-puts g c = puts-pops g.H.Host.tells (g.H.Host.put_at c.args.host.now) (g.H.Host.put_faults c.args.host.now) c.args.history.now.events c.send_first.new.history.events c.send_first.ensures.pops

pub returns-in_err-work_first-clause-puts : goal.returns-in_err-work_first-clause-puts
returns-in_err-work_first-clause-puts g c = puts-trans g.H.Host.tells (g.H.Host.put_at c.args.host.now) (g.H.Host.put_at c.args.host.now) (g.H.Host.put_at c.work_first.new.host) (g.H.Host.put_faults c.args.host.now) (g.H.Host.put_faults c.args.host.now) (g.H.Host.put_faults c.work_first.new.host) c.args.history.now.events c.send_first.new.history.events c.work_first.new.history.events (puts-pops g.H.Host.tells (g.H.Host.put_at c.args.host.now) (g.H.Host.put_faults c.args.host.now) c.args.history.now.events c.send_first.new.history.events c.send_first.ensures.pops) c.work_first.ensures.puts

pub returns-then-branch-2-clause-puts : goal.returns-then-branch-2-clause-puts
returns-then-branch-2-clause-puts g c = puts-trans g.H.Host.tells (g.H.Host.put_at c.args.host.now) (g.H.Host.put_at c.args.host.now) (g.H.Host.put_at c.work_first.new.host) (g.H.Host.put_faults c.args.host.now) (g.H.Host.put_faults c.args.host.now) (g.H.Host.put_faults c.work_first.new.host) c.args.history.now.events c.send_first.new.history.events c.work_first.new.history.events (puts-pops g.H.Host.tells (g.H.Host.put_at c.args.host.now) (g.H.Host.put_faults c.args.host.now) c.args.history.now.events c.send_first.new.history.events c.send_first.ensures.pops) c.work_first.ensures.puts

pub returns-clause-puts : goal.returns-clause-puts
returns-clause-puts g c = puts-trans g.H.Host.tells (g.H.Host.put_at c.args.host.now) (g.H.Host.put_at c.work_first.new.host) (g.H.Host.put_at c.work_first.new.host) (g.H.Host.put_faults c.args.host.now) (g.H.Host.put_faults c.work_first.new.host) (g.H.Host.put_faults c.work_first.new.host) c.args.history.now.events c.work_first.new.history.events c.read_next.new.history.events (puts-trans g.H.Host.tells (g.H.Host.put_at c.args.host.now) (g.H.Host.put_at c.args.host.now) (g.H.Host.put_at c.work_first.new.host) (g.H.Host.put_faults c.args.host.now) (g.H.Host.put_faults c.args.host.now) (g.H.Host.put_faults c.work_first.new.host) c.args.history.now.events c.send_first.new.history.events c.work_first.new.history.events (puts-pops g.H.Host.tells (g.H.Host.put_at c.args.host.now) (g.H.Host.put_faults c.args.host.now) c.args.history.now.events c.send_first.new.history.events c.send_first.ensures.pops) c.work_first.ensures.puts) (puts-arrives g.H.Host.tells (g.H.Host.put_at c.work_first.new.host) (g.H.Host.put_faults c.work_first.new.host) c.work_first.new.history.events c.read_next.new.history.events c.read_next.ensures.arrives)
