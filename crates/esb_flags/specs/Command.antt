-- What a request asks for, or the text of its first refusal.
use Rattle.std.specs.Prelude.{ℕ, Bool, true, false, not, if◌then◌else◌, nat_le, nat_eq, List, ◌++◌, length, codes, Result, Ok, Err}
use Rattle.std.specs.List.{starts_with}
use Rattle.std.specs.Str.{bytes_eq}
use Rattle.esb_base.specs.declared.flags.Flags.{Flags}
use Rattle.esb_wire.specs.declared.value.Value.{Value, out-Value}
use Rattle.esb_wire.specs.declared.value.Value.TheOpen.{Value-F}
use Rattle.esb_flags.specs.declared.command.Command.{Command}
use Rattle.esb_flags.specs.declared.command.Command.TheVariants as command
use Rattle.esb_flags.specs.declared.fault.FlagFault.{FlagFault}
use Rattle.esb_flags.specs.declared.fields.Fields.{Fields}
use Rattle.esb_flags.specs.declared.options.Options.{Options}
use Rattle.esb_flags.specs.Shapes.{number, text}
use Rattle.esb_flags.specs.Fields.{Answer, ◌>>=◌, needed, fields_of}
use Rattle.esb_flags.specs.Flags.{read, refusal}
use Rattle.esb_flags.specs.Unbuilt.{is_built}

abbrev pub most_entries : ℕ
most_entries = 1024

abbrev pub options_of : Fields → Flags → Options
options_of fields flags = record {
  cwd = fields.cwd;
  entries = fields.entries;
  write = fields.write;
  context = fields.context;
  plugins = fields.plugins;
  flags = flags;
}

abbrev pub built_of : Fields → Flags → Command
built_of fields flags = command.Build fields.key (options_of fields flags)

abbrev pub is_absolute : List ℕ → Bool
is_absolute path = starts_with nat_eq path (codes "/")

-- what the words ask for, or the refusal for their first fault
abbrev pub or_refusal : List (List ℕ) → Result Flags FlagFault → Answer Flags
or_refusal words (Ok flags) = Ok flags
or_refusal words (Err fault) = Err (refusal words fault)

abbrev pub build_flags : Fields → Answer Flags
build_flags fields = or_refusal fields.flags (read (length fields.entries) fields.flags)

-- A build of the forms that this version takes: what is wrong with its folder, its entries and its flags, in this order.
abbrev pub if_built : Fields → Bool → Answer Command
if_built fields false = Err (codes "Not built yet")
if_built fields true = if not (is_absolute fields.cwd) then Err (codes "Bad working folder")
    else (if nat_le (length fields.entries) most_entries
    then (build_flags fields >>= λ flags. Ok (built_of fields flags))
    else Err (codes "Too many entries"))

-- Whether the build is taken at all goes before what its folder, entries and flags are.
unfoldable pub build_of : Value → Answer Command
build_of request = do
  fields ← fields_of request
  if_built fields (is_built fields)

-- a command that has a key alone
abbrev pub keyed : (ℕ → Command) → Value → Answer Command
keyed command_with request = do
  key ← needed (codes "key") number request
  Ok (command_with key)

unfoldable pub serve_of : Value → Answer Command
serve_of request = do
  key ← needed (codes "key") number request
  port ← needed (codes "port") number request
  Ok (command.Serve key port)

unfoldable pub command_of : List ℕ → Value → Answer Command
command_of name request = if bytes_eq name (codes "build") then build_of request
    else (if bytes_eq name (codes "rebuild") then keyed command.Rebuild request
    else (if bytes_eq name (codes "cancel") then keyed command.Cancel request
    else (if bytes_eq name (codes "dispose") then keyed command.Dispose request
    else (if bytes_eq name (codes "watch") then keyed command.Watch request
    else (if bytes_eq name (codes "serve") then serve_of request
    else (if bytes_eq name (codes "ping") then Ok command.Ping
    else Err (codes "Unknown command: " ++ name)))))))

abbrev pub node_asked : Value → Value-F Value → Answer Command
node_asked request (Value-F.Map pairs) = do
  name ← needed (codes "command") text request
  command_of name request
node_asked request layer = Err (codes "Request is not a map")

unfoldable pub asked : Value → Answer Command
asked request = node_asked request (out-Value request)
