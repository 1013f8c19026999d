-- What a value must be to have a spelling, but for the sizes.
use Rattle.std.specs.Prelude.{ℕ, zero, suc, ◌^◌, ◌<◌, List, ◌++◌, map, IsUtf8}
use Rattle.std.specs.List.{AllByRecursion, IsDistinct}
use Rattle.std.specs.Str.{bytes_eq}
use Rattle.esb_wire.specs.declared.value.Value.{Value, out-Value}
use Rattle.esb_wire.specs.declared.value.Value.TheOpen.{Value-F}
use Rattle.esb_wire.specs.Spelling.{counted, spelling}

-- a pair of a map whose value is F
abbrev pub PairIsShaped : (Value → Type 0) → List ℕ × Value → Type 0
PairIsShaped F pair = IsUtf8 pair.0 × F pair.1

-- one value, where each value inside is F
abbrev pub NodeIsShaped : (Value → Type 0) → Value-F Value → Type 0
NodeIsShaped F Value-F.Null = Unit {0}
NodeIsShaped F (Value-F.Bool b) = Unit {0}
NodeIsShaped F (Value-F.Number n) = n < 2 ^ 32
NodeIsShaped F (Value-F.Str text) = IsUtf8 text
NodeIsShaped F (Value-F.Bytes bytes) = Unit {0}
NodeIsShaped F (Value-F.Array values) = AllByRecursion F values
NodeIsShaped F (Value-F.Map pairs) = AllByRecursion (PairIsShaped F) pairs × IsDistinct bytes_eq (map (λ pair. pair.0) pairs)

-- A value of at most this depth, whose texts are UTF-8 and whose maps have different keys.
unfoldable pub IsShaped : ℕ → Value → Type 0
IsShaped zero value = ⊥
IsShaped (suc depth) value = NodeIsShaped (IsShaped depth) (out-Value value)

-- a pair of a map: the key without a tag, and the value
abbrev pub pair_spelled : List ℕ × Value → List ℕ
pair_spelled pair = counted pair.0 ++ spelling pair.1
