-- The packets that a list sends, and the bytes that spell them.
use Rattle.std.specs.Prelude.{ℕ, false, List, [], ◌∷◌, Some, None, slice_get, Option}
use Rattle.std.specs.List.{flat_map}
use Rattle.esb_wire.specs.declared.value.Packet.{Packet}
use Rattle.esb_wire.specs.Written.{written_frame}
use Rattle.esb_core.specs.declared.out.Out.{Out}
use Rattle.esb_core.specs.declared.out.Out.TheVariants as outs
use Rattle.esb_core.specs.declared.out.Body.{Body}
use Rattle.esb_core.specs.declared.out.Body.TheVariants as bodies
use Rattle.esb_core.specs.declared.event.Event.{Event}
use Rattle.esb_core.specs.declared.event.Event.TheVariants as events
use Rattle.esb_core.specs.History.{build, failed, outcome, owed, gathered, arrived}
use Rattle.esb_reply.specs.Reply.{packet_for}

-- the packet of what is owed after these events: a result shows how its build ended, and which of its files were not put
abbrev pub packet_of_body : List Event → ℕ → Body → Packet
packet_of_body before id (bodies.Result n) = packet_for (outs.Reply id (bodies.Result n)) (build before n).options.write (outcome before n) (failed before n)
packet_of_body before id bodies.Empty = packet_for (outs.Reply id bodies.Empty) false None None
packet_of_body before id (bodies.Error text) = packet_for (outs.Reply id (bodies.Error text)) false None None
packet_of_body before id (bodies.Closed n) = packet_for (outs.Reply id (bodies.Closed n)) false None None

abbrev pub packet_after : List Event → Out → Packet
packet_after before (outs.Reply id body) = packet_of_body before id body

abbrev pub first_packet : List Event → Option Out → List Packet
first_packet before None = []
first_packet before (Some out) = packet_after before out ∷ []

-- what an event sends: a pop the first that was owed
abbrev pub sends : List Event → Event → List Packet
sends before events.Pop = first_packet before (slice_get (owed before) 0)
sends before e = []

-- the packets that a list sends, in order
abbrev pub sent_packets : List Event → List Packet
sent_packets list = gathered sends list

-- the bytes that spell them, each as it is written
abbrev pub sent : List Event → List ℕ
sent list = flat_map written_frame (sent_packets list)

-- the packets that came, in order
abbrev pub arrivals : List Event → List Packet
arrivals list = flat_map arrived list
