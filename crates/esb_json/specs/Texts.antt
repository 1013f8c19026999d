-- What a whole text spells, and how deep a value is.
use Rattle.std.specs.Prelude.{◌≡◌, ℕ, suc, ◌≤◌, max, List, [], ◌∷◌, map, length}
use Rattle.esb_json.specs.declared.fault.JsonFault.{JsonFault}
use Rattle.esb_json.specs.declared.fault.JsonFault.TheVariants as faults
use Rattle.esb_json.specs.declared.value.Json.{Json}
use Rattle.esb_json.specs.declared.value.Json.TheOpen.{Json-F}
use Rattle.esb_json.specs.declared.value.Json.TheFolds.{fold-Json}
use Rattle.esb_json.specs.Grammar.{Spaced, TextWithin}

-- one more than the greatest of these, and 0 where there is none
abbrev pub one_above : List ℕ → ℕ
one_above [] = 0
one_above (n ∷ ns) = max (suc n) (one_above ns)

abbrev pub node_levels : Json-F ℕ → ℕ
node_levels (Json-F.Array parts) = one_above parts
node_levels (Json-F.Object parts) = one_above (map (λ part. part.1) parts)
node_levels layer = 0

-- The greatest level in a value. The level of a value is the number of arrays and objects that it stands in.
abbrev pub levels : Json → ℕ
levels = fold-Json ℕ node_levels

-- The whole text is the value's, with white space around it.
pub record Spells (value : Json) (text : List ℕ) : Type 0 where
  -- so many values at most stand in one another
  pub depth : ℕ
  pub spaced : Spaced (TextWithin depth value) text

abbrev pub most_levels : ℕ
most_levels = 200

-- Where reading failed is a place of the text.
abbrev pub IsWithin : List ℕ → JsonFault → Type 0
IsWithin text (faults.NoJson at) = at ≤ length text
IsWithin text faults.Memory = Unit {0}

-- The text spells no value of at most so many levels, unless memory was refused.
abbrev pub SpellsNone : List ℕ → JsonFault → Type 0
SpellsNone text (faults.NoJson at) = (value : Json) → Spells value text → levels value ≤ most_levels → ⊥
SpellsNone text faults.Memory = Unit {0}
