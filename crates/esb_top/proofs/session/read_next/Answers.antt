use Rattle.std.proofs.Common.{refl, ap, length, List, ℕ, ◌+◌, inr, sym, ◌∙◌}
use Rattle.esb_core.specs.declared.event.Event.{Event}
use Rattle.esb_core.specs.declared.event.Event.TheVariants as events
use Rattle.esb_top.proofs.InOrder.{arrive-in_turn, free-by}
use Rattle.esb_core.specs.History.{replay}
use Rattle.esb_top.proofs.Proper.{arrival-is_allowed}
use Rattle.std.specs.List.{flat_map}
use Rattle.std.proofs.lemmas.List.{length-append}
use Rattle.esb_wire.specs.declared.value.Packet.{Packet}
use Rattle.esb_wire.specs.Spelling.{frame}
use Rattle.esb_sound.specs.Sent.{arrivals}
use Rattle.esb_top.proofs.Histories.{arrivals-push, flat_map-push}
use Rattle.esb_top.proofs.session.read_next.Goals as goal

pub arrive-requires : goal.arrive-requires
arrive-requires g c =
    let out = rw c.requires.going at c.in-Packet.ensures.next in
    arrival-is_allowed (replay c.args.history.now.events) c.in-Packet.packet c.requires.open out.fits

pub returns-in_ok-arrive-in-Packet-clause-arrives : goal.returns-in_ok-arrive-in-Packet-clause-arrives
returns-in_ok-arrive-in-Packet-clause-arrives g c = inr (c.in-Packet.packet, c.in_ok-arrive-in-Packet.ensures.ok.events)

pub returns-in_ok-arrive-in-Packet-clause-in_turn : goal.returns-in_ok-arrive-in-Packet-clause-in_turn
returns-in_ok-arrive-in-Packet-clause-in_turn g c = λ world.
    inr (events.Arrive c.in-Packet.packet, c.in_ok-arrive-in-Packet.ensures.ok.events, arrive-in_turn (Unit {0}) world c.args.history.now.events c.in-Packet.packet c.is_legal.ensures c.requires.rests)

pub returns-in_ok-arrive-in-Packet-clause-free : goal.returns-in_ok-arrive-in-Packet-clause-free
returns-in_ok-arrive-in-Packet-clause-free g c =
    free-by c.args.history.now.events c.arrive.new.self.events (events.Arrive c.in-Packet.packet) c.in_ok-arrive-in-Packet.ensures.ok.events refl c.requires.rests.free

pub returns-in_ok-arrive-in-Packet-clause-placed : goal.returns-in_ok-arrive-in-Packet-clause-placed
returns-in_ok-arrive-in-Packet-clause-placed g c = λ before.
    let out = rw c.requires.going at c.in-Packet.ensures.next in
    out.place ∙ ap (λ (k : ℕ). k + length (frame c.in-Packet.packet)) before
    ∙ sym (length-append (flat_map frame (arrivals c.args.history.now.events)) (frame c.in-Packet.packet))
    ∙ ap length (sym (ap (λ (es : List Event). flat_map frame (arrivals es)) c.in_ok-arrive-in-Packet.ensures.ok.events ∙ ap (λ (ps : List Packet). flat_map frame ps) (arrivals-push c.args.history.now.events (events.Arrive c.in-Packet.packet)) ∙ flat_map-push frame (arrivals c.args.history.now.events) c.in-Packet.packet))
