-- What a request has that is read as a command: the command's word, and its numbers.
use Rattle.std.specs.Prelude.{◌≡◌, ℕ, Bool, true, false, List, codes, Some}
use Rattle.esb_wire.specs.declared.value.Value.{Value}
use Rattle.esb_flags.specs.declared.command.Command.{Command}
use Rattle.esb_flags.specs.declared.command.Command.TheVariants as command
use Rattle.esb_flags.specs.Shapes.{number, text, required}

abbrev pub HasWord : List ℕ → Value → Type 0
HasWord word request = required (codes "command") text request ≡ Some word

abbrev pub HasNumber : List ℕ → ℕ → Value → Type 0
HasNumber name n request = required name number request ≡ Some n

-- a command that has a key alone
abbrev pub SaysKeyed : List ℕ → ℕ → Value → Type 0
SaysKeyed word key request = HasWord word request × HasNumber (codes "key") key request

abbrev pub Says : Command → Value → Type 0
Says (command.Build key options) request = SaysKeyed (codes "build") key request
Says (command.Rebuild key) request = SaysKeyed (codes "rebuild") key request
Says (command.Cancel key) request = SaysKeyed (codes "cancel") key request
Says (command.Dispose key) request = SaysKeyed (codes "dispose") key request
Says (command.Watch key) request = SaysKeyed (codes "watch") key request
Says (command.Serve key port) request = SaysKeyed (codes "serve") key request × HasNumber (codes "port") port request
Says command.Ping request = HasWord (codes "ping") request

abbrev pub is_build : Command → Bool
is_build (command.Build key options) = true
is_build other = false
