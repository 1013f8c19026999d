-- The fields that requests are read by.
use Rattle.std.specs.Prelude.{◌≡◌, ℕ, List, [], ◌∷◌, codes}
use Rattle.std.specs.List.{AllByRecursion}
use Rattle.esb_wire.specs.declared.value.Value.{Value, out-Value}
use Rattle.esb_wire.specs.declared.value.Value.TheOpen.{Value-F}
use Rattle.esb_wire.specs.Field.{field}

abbrev pub NodeIsMap : Value-F Value → Type 0
NodeIsMap (Value-F.Map pairs) = Unit {0}
NodeIsMap layer = ⊥

abbrev pub IsMap : Value → Type 0
IsMap value = NodeIsMap (out-Value value)

abbrev pub request_fields : List (List ℕ)
request_fields = codes "command" ∷ codes "key" ∷ codes "entries" ∷ codes "flags" ∷ codes "absWorkingDir" ∷ codes "write" ∷ codes "context" ∷ codes "plugins" ∷ codes "port" ∷ []

-- Two requests that have the same in these fields, in whatever order and beside whatever others.
abbrev pub SameFields : Value → Value → Type 0
SameFields one other = AllByRecursion (λ name. field name one ≡ field name other) request_fields
