-- What a target comes to, by cases on the JSON value (Node.js, PACKAGE_TARGET_RESOLVE).
use Rattle.std.specs.Prelude.{ℕ, ◌+◌, ◌-◌, ◌*◌, Bool, true, false, ◌==◌, ◌&&◌, ◌||◌, not, nat_lt, nat_le, nat_eq, if◌then◌else◌, List, [], ◌∷◌, drop, fold, Option, Some, None, codes}
use Rattle.std.specs.List.{flat_map, list_any, list_all, starts_with}
use Rattle.std.specs.Str.{bytes_eq}
use Rattle.esb_json.specs.declared.value.Json.{Json}
use Rattle.esb_json.specs.declared.value.Json.TheOpen.{Json-F}
use Rattle.esb_json.specs.declared.value.Json.TheFolds.{fold-Json}
use Rattle.esb_exports.specs.declared.outcome.Target.TheVariants.{File, Bare}
use Rattle.esb_exports.specs.declared.outcome.Outcome.{Outcome}
use Rattle.esb_exports.specs.declared.outcome.Outcome.TheVariants.{Undefined, Nothing, Found, BadTarget, BadConfig, BadSpecifier}
use Rattle.esb_exports.specs.Units.{text_of}
use Rattle.esb_exports.specs.Segments.{has_bad}
use Rattle.esb_exports.specs.Keys.{is_star}

-- the text of a target with the match in place of each star, if there is a match
unfoldable pub replaced : List ℕ → List ℕ → List ℕ
replaced matched units = if bytes_eq matched [] then units else flat_map (λ unit. if is_star unit then matched else unit ∷ []) units

unfoldable pub found_file : Option (List ℕ) → Outcome
found_file None = BadTarget
found_file (Some text) = Found (File text)

unfoldable pub found_bare : Option (List ℕ) → Outcome
found_bare None = BadTarget
found_bare (Some text) = Found (Bare text)

abbrev pub begins : List ℕ → List ℕ → Bool
begins units front = starts_with nat_eq units front

-- A text that begins with `./`: its own segments are looked at before those of the match.
unfoldable pub file_outcome : List ℕ → List ℕ → Outcome
file_outcome matched units = if has_bad (drop 2 units) then BadTarget
    else (if not (bytes_eq matched []) && has_bad matched then BadSpecifier else found_file (text_of (replaced matched units)))

-- A text as a target. Only imports may lead to another package.
unfoldable pub text_outcome : Bool → List ℕ → List ℕ → Outcome
text_outcome imports matched units = if begins units (codes "./") then file_outcome matched units
    else (if imports && not (begins units (codes "../") || begins units (codes "/")) then found_bare (text_of (replaced matched units)) else BadTarget)

-- The first item that comes to more than a bad target or nothing.
abbrev pub items_outcome : Bool → List Outcome → Outcome
items_outcome bad [] = if bad then BadTarget else Undefined
items_outcome bad (Undefined ∷ others) = items_outcome bad others
items_outcome bad (BadTarget ∷ others) = items_outcome true others
items_outcome bad (Nothing ∷ others) = Nothing
items_outcome bad (Found target ∷ others) = Found target
items_outcome bad (BadConfig ∷ others) = BadConfig
items_outcome bad (BadSpecifier ∷ others) = BadSpecifier

-- the items of an array, of which an empty one is like `null`
abbrev pub array_outcome : List Outcome → Outcome
array_outcome [] = Nothing
array_outcome (outcome ∷ others) = items_outcome false (outcome ∷ others)

-- ECMA-262, 6.1.7: a decimal number below 2^32 - 1, as JavaScript writes it
abbrev pub is_decimal : ℕ → Bool
is_decimal unit = nat_le 48 unit && nat_le unit 57

abbrev pub decimal_value : List ℕ → ℕ
decimal_value name = fold (λ value unit. value * 10 + (unit - 48)) 0 name

unfoldable pub is_small_decimal : List ℕ → Bool
is_small_decimal name = list_all is_decimal name && nat_lt (decimal_value name) 4294967295

-- no leading zero, but for 0 itself
unfoldable pub is_array_index : List ℕ → Bool
is_array_index [] = false
is_array_index (unit ∷ units) = if unit == 48 then bytes_eq units [] else is_small_decimal (unit ∷ units)

abbrev pub is_active : List (List ℕ) → List ℕ → Bool
is_active active name = list_any (λ other. bytes_eq other name) active

abbrev pub unless_undefined : Outcome → Outcome → Outcome
unless_undefined Undefined other = other
unless_undefined Nothing other = Nothing
unless_undefined (Found target) other = Found target
unless_undefined BadTarget other = BadTarget
unless_undefined BadConfig other = BadConfig
unless_undefined BadSpecifier other = BadSpecifier

-- The first member, in written order, whose condition is active and which comes to more than nothing.
abbrev pub members_outcome : List (List ℕ) → List (List ℕ × Outcome) → Outcome
members_outcome active [] = Undefined
members_outcome active (member ∷ others) = if is_active active member.0 then unless_undefined member.1 (members_outcome active others) else members_outcome active others

abbrev pub object_outcome : List (List ℕ) → List (List ℕ × Outcome) → Outcome
object_outcome active members = if list_any (λ member. is_array_index member.0) members then BadConfig else members_outcome active members

-- One value, with what each value inside comes to in its place.
abbrev pub node_outcome : Bool → List ℕ → List (List ℕ) → Json-F Outcome → Outcome
node_outcome imports matched active Json-F.Null = Nothing
node_outcome imports matched active (Json-F.Bool flag) = BadTarget
node_outcome imports matched active (Json-F.Number spelling) = BadTarget
node_outcome imports matched active (Json-F.Str units) = text_outcome imports matched units
node_outcome imports matched active (Json-F.Array outcomes) = array_outcome outcomes
node_outcome imports matched active (Json-F.Object members) = object_outcome active members

-- What the target comes to, for exports or imports, a match, which is empty for a key without a star, and active conditions.
abbrev pub target_outcome : Bool → List ℕ → List (List ℕ) → Json → Outcome
target_outcome imports matched active = fold-Json Outcome (node_outcome imports matched active)
