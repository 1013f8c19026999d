-- The packet of what is owed to the client.
use Rattle.std.specs.Prelude.{ℕ, ◌^◌, Bool, false, if◌then◌else◌, nat_le, List, [], ◌∷◌, ◌++◌, length, map, codes, Option, Some, None, IsSome}
use Rattle.esb_wire.specs.declared.value.Value.{Value}
use Rattle.esb_wire.specs.declared.value.Value.TheVariants as values
use Rattle.esb_wire.specs.declared.value.Packet.{Packet}
use Rattle.esb_wire.specs.Spelling.{body}
use Rattle.esb_ask.specs.declared.message.Message.{Message}
use Rattle.esb_ask.specs.declared.outcome.OutFile.{OutFile}
use Rattle.esb_base.specs.declared.host.PutFault.{PutFault}
use Rattle.esb_base.specs.declared.host.PutFault.TheVariants as faults
use Rattle.esb_ask.specs.declared.outcome.Failures.{Failures}
use Rattle.esb_ask.specs.declared.outcome.Failures.TheVariants as failures
use Rattle.esb_ask.specs.declared.outcome.Outcome.{Outcome}
use Rattle.esb_ask.specs.declared.outcome.Outcome.TheVariants as outcomes
use Rattle.esb_core.specs.declared.out.Body.{Body}
use Rattle.esb_core.specs.declared.out.Body.TheVariants as bodies
use Rattle.esb_core.specs.declared.out.Out.{Out}
use Rattle.esb_core.specs.declared.out.Out.TheVariants as outs
use Rattle.esb_core.specs.declared.view.View.{View}

-- ---- values, whose maps have their keys in the order of the bytes

abbrev pub error_value : List ℕ → Value
error_value text = values.Map ((codes "error", values.Str text) ∷ [])

abbrev pub message_value : Message → Value
message_value message =
    values.Map (
    (codes "column", values.Number message.column)
    ∷ (codes "file", values.Str message.file)
    ∷ (codes "length", values.Number message.length)
    ∷ (codes "line", values.Number message.line)
    ∷ (codes "text", values.Str message.text)
    ∷ []
    )

abbrev pub file_value : OutFile → Value
file_value file =
    values.Map ((codes "contents", values.Bytes file.contents) ∷ (codes "path", values.Str file.path) ∷ [])

-- a result, from the values of its errors and its files
abbrev pub result_map : List Value → List Value → Value
result_map errors files =
    values.Map ((codes "errors", values.Array errors) ∷ (codes "outputFiles", values.Array files) ∷ [])

abbrev pub result_value : List Message → List OutFile → Value
result_value messages files = result_map (map message_value messages) (map file_value files)

-- a message without a place
abbrev pub placeless : List ℕ → Message
placeless text = record { text = text; file = []; line = 0; column = 0; length = 0 }

-- ---- files that were not put

abbrev pub fault_text : PutFault → List ℕ
fault_text faults.Failed = codes "Failed to write "
fault_text faults.Memory = codes "No memory to write "

-- what is said of a file that was not put
abbrev pub fault_message : List ℕ → PutFault → Message
fault_message path fault = placeless (fault_text fault ++ path)

abbrev pub failure_message : List ℕ × PutFault → Message
failure_message failure = fault_message failure.0 failure.1

abbrev pub refused_message : OutFile → Message
refused_message file = fault_message file.path faults.Memory

-- what is said of those of these files that were not put, in their order
abbrev pub failed_messages : List OutFile → Option Failures → List Message
failed_messages files None = []
failed_messages files (Some (failures.Paths paths)) = map failure_message paths
failed_messages files (Some failures.All) = map refused_message files

-- ---- results

-- the files that a result has
abbrev pub shown_files : Bool → List OutFile → List OutFile
shown_files write files = if write then [] else files

-- what a build's outcome is shown as, where the build wrote its files or did not, and which of them were not put
abbrev pub outcome_value : Bool → Option Failures → Outcome → Value
outcome_value write failed (outcomes.Files files) = result_value (failed_messages files failed) (shown_files write files)
outcome_value write failed (outcomes.Errors messages) = result_value messages []
outcome_value write failed outcomes.Canceled = result_value (placeless (codes "The build was canceled") ∷ []) []
outcome_value write failed outcomes.Memory = result_value (placeless (codes "Out of memory") ∷ []) []

-- A result is owed only once the build has an outcome.
abbrev pub reply_value : Body → Bool → Option Outcome → Option Failures → Value
reply_value bodies.Empty write outcome failed = values.Map []
reply_value (bodies.Error text) write outcome failed = error_value text
reply_value (bodies.Result build) write (Some outcome) failed = outcome_value write failed outcome
reply_value (bodies.Result build) write None failed = values.Map []
reply_value (bodies.Closed build) write outcome failed = values.Map []

-- ---- packets

-- the response to the request with this id
abbrev pub reply_packet : ℕ → Value → Packet
reply_packet id value = record { id = id; request = false; value = value }

-- Whether the packet has a frame: what stands behind the length word has at most 2^28 bytes.
unfoldable pub fits_frame : Packet → Bool
fits_frame packet = nat_le (length (body packet)) (2 ^ 28)

-- what is sent in place of a reply that has no frame
abbrev pub too_large : ℕ → Packet
too_large id = reply_packet id (error_value (codes "Reply is too large"))

abbrev pub sent_packet : Packet → Packet
sent_packet packet = if fits_frame packet then packet else too_large packet.id

unfoldable pub packet_for : Out → Bool → Option Outcome → Option Failures → Packet
packet_for (outs.Reply id body) write outcome failed = sent_packet (reply_packet id (reply_value body write outcome failed))

-- ---- what is known of the build

abbrev pub id_of : Out → ℕ
id_of (outs.Reply id body) = id

-- whether the build writes its files
abbrev pub write_of : Option View → Bool
write_of (Some view) = view.options.write
write_of None = false

abbrev pub outcome_of : Option View → Option Outcome
outcome_of (Some view) = view.outcome
outcome_of None = None

-- which of its files were not put
abbrev pub failed_of : Option View → Option Failures
failed_of (Some view) = view.failed
failed_of None = None

abbrev pub BodyHasView : Body → Option View → Type 0
BodyHasView (bodies.Result build) view = IsSome (outcome_of view)
BodyHasView body view = Unit {0}

-- For a result there is a view of the build, and it is settled.
abbrev pub HasView : Out → Option View → Type 0
HasView (outs.Reply id body) view = BodyHasView body view
