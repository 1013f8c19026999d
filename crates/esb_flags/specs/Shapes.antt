-- What a value of a packet is read as, by its shape. A value of another shape is read as nothing.
use Rattle.std.specs.Prelude.{ℕ, Bool, false, if◌then◌else◌, nat_le, List, [], ◌∷◌, length, codes, Option, Some, None}
use Rattle.esb_wire.specs.declared.value.Value.{Value, out-Value}
use Rattle.esb_wire.specs.declared.value.Value.TheOpen.{Value-F}
use Rattle.esb_wire.specs.Field.{field}
use Rattle.esb_flags.specs.declared.options.Filter.{Filter}
use Rattle.esb_flags.specs.declared.options.Plugin.{Plugin}

infixl 10 ◌>>=◌
abbrev pub ◌>>=◌ : {A B : Type 0} → Option A → (A → Option B) → Option B
None >>= f = None
(Some x) >>= f = f x

abbrev pub Shape : Type 0 → Type 0
Shape X = Value → Option X

-- ---- one value

abbrev pub node_number : Value-F Value → Option ℕ
node_number (Value-F.Number number) = Some number
node_number layer = None

abbrev pub number : Shape ℕ
number value = node_number (out-Value value)

abbrev pub node_boolean : Value-F Value → Option Bool
node_boolean (Value-F.Bool flag) = Some flag
node_boolean layer = None

abbrev pub boolean : Shape Bool
boolean value = node_boolean (out-Value value)

abbrev pub node_text : Value-F Value → Option (List ℕ)
node_text (Value-F.Str chars) = Some chars
node_text layer = None

abbrev pub text : Shape (List ℕ)
text value = node_text (out-Value value)

abbrev pub node_array : Value-F Value → Option (List Value)
node_array (Value-F.Array values) = Some values
node_array layer = None

abbrev pub array : Shape (List Value)
array value = node_array (out-Value value)

-- ---- lists: an item of another shape makes the list one of another shape

abbrev pub each : {X : Type 0} → Shape X → List Value → Option (List X)
each shape [] = Some []
each shape (value ∷ values) = do
  first ← shape value
  others ← each shape values
  Some (first ∷ others)

unfoldable pub list_of : {X : Type 0} → Shape X → Shape (List X)
list_of shape value = array value >>= each shape

-- ---- fields of a map; keys that no rule names are not looked at

unfoldable pub required : {X : Type 0} → List ℕ → Shape X → Shape X
required name shape value = field name value >>= shape

abbrev pub if_there : {X : Type 0} → X → Shape X → Option Value → Option X
if_there absent shape None = Some absent
if_there absent shape (Some value) = shape value

unfoldable pub optional : {X : Type 0} → List ℕ → X → Shape X → Shape X
optional name absent shape value = if_there absent shape (field name value)

-- ---- what a `build` request is made of

abbrev pub two_texts : List Value → Option (List ℕ × List ℕ)
two_texts (out ∷ path ∷ []) = do
  out_text ← text out
  path_text ← text path
  Some (out_text, path_text)
two_texts values = None

-- an array of exactly two texts
unfoldable pub entry : Shape (List ℕ × List ℕ)
entry value = array value >>= two_texts

unfoldable pub filter : Shape Filter
filter value = do
  id ← required (codes "id") number value
  namespace ← required (codes "namespace") text value
  suffix ← required (codes "suffix") text value
  Some (record { id = id; namespace = namespace; suffix = suffix })

unfoldable pub plugin : Shape Plugin
plugin value = do
  name ← required (codes "name") text value
  on_resolve ← optional (codes "onResolve") [] (list_of filter) value
  on_load ← optional (codes "onLoad") [] (list_of filter) value
  on_end ← optional (codes "onEnd") false boolean value
  Some (record { name = name; on_resolve = on_resolve; on_load = on_load; on_end = on_end })

abbrev pub most_plugins : ℕ
most_plugins = 64

abbrev pub few_plugins : List Value → Option (List Plugin)
few_plugins values = if nat_le (length values) most_plugins then each plugin values else None

unfoldable pub plugins : Shape (List Plugin)
plugins value = array value >>= few_plugins
