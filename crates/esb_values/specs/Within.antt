-- Names and patterns within fewer levels than a number, as a function that goes down a tree sees them.
use Rattle.std.specs.Prelude.{ℕ, zero, suc, Bool, true, false, Option, Some, None}
use Rattle.esb_tree.specs.declared.expressions.Expression.{Expression}
use Rattle.esb_tree.specs.declared.patterns.Element.{Element}
use Rattle.esb_value_laws.specs.Covers.{covers_slot, covers_property, covers_target}

-- the number of levels that the parts of a node may have, and none where it may have no parts
abbrev pub inner : ℕ → Option ℕ
inner zero = None
inner (suc n) = Some n

-- which expressions are names and patterns within so many levels
abbrev pub within : Option ℕ → Expression → Bool
within None = λ _. false
within (Some n) = covers_target n

-- an element of a pattern in braces, or of one in brackets and of parameters
abbrev pub covers_element : Bool → Option ℕ → Bool → Element → Bool
covers_element true below = covers_property (within below)
covers_element false below = covers_slot (within below)
