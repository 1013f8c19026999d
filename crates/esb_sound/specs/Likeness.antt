-- Events that are the same but for the place of a syntax error.
use Rattle.esb_core.specs.declared.event.Event.{Event}
use Rattle.esb_core.specs.declared.event.Event.TheVariants as events
use Rattle.esb_scan.specs.Likeness.{normal_outcome, normal_product}

-- an event without the places of the syntax errors in it
abbrev pub normal_event : Event → Event
normal_event (events.Arrive packet) = events.Arrive packet
normal_event events.EndOfInput = events.EndOfInput
normal_event (events.Claim role job) = events.Claim role job
normal_event (events.Record worker n question answer) = events.Record worker n question answer
normal_event (events.Deliver worker n task product) = events.Deliver worker n task (normal_product product)
normal_event (events.Settle worker n outcome) = events.Settle worker n (normal_outcome outcome)
normal_event (events.Written worker n failures) = events.Written worker n failures
normal_event events.Pop = events.Pop
