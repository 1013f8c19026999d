-- What exports lead to is a file of the package.
use Rattle.std.proofs.Common.{◌≡◌, ℕ, Bool, true, false, cond, not, ◌&&◌, List, [], ◌∷◌, ◌++◌, map, take, drop, codes, Option, Some, None, Ok, refl, sym, ap, subst, ◌∙◌}
use Rattle.std.specs.List.{list_any, flat_map}
use Rattle.std.specs.Char.Utf16.{has_unpaired_surrogate, utf16_chars, utf16_lossy_chars}
use lib.Utf8.{encode}
use Rattle.std.specs.Str.{bytes_eq, encode_utf8_all}
use Rattle.std.proofs.lemmas.Bool.{cond_both}
use Rattle.std.proofs.lemmas.List.{take-append-drop}
use Rattle.std.proofs.lemmas.Slice.Eq.{bytes_eq-Decides}
use Rattle.esb_json.specs.declared.value.Json.{Json, out-Json, map-Json}
use Rattle.esb_json.specs.declared.value.Json.TheOpen.{Json-F}
use Rattle.esb_json.specs.declared.value.Json.TheViews.{roll-Json}
use Rattle.esb_json.specs.declared.value.Json.TheFolds.{fold-roll-Json, ind-Json}
use Rattle.esb_exports.specs.declared.outcome.Target.{Target}
use Rattle.esb_exports.specs.declared.outcome.Outcome.{Outcome}
use Rattle.esb_exports.specs.declared.outcome.Outcome.TheVariants.{Undefined, Nothing, Found, BadTarget, BadConfig, BadSpecifier}
use Rattle.esb_exports.specs.Units.{text_of, units_of, active_names}
use Rattle.esb_exports.specs.Segments.{has_bad}
use Rattle.esb_exports.specs.Keys.{is_star, chosen, match_of}
use Rattle.esb_exports.specs.Outcomes.{replaced, found_file, begins, file_outcome, text_outcome, items_outcome, array_outcome, is_active, is_array_index, unless_undefined, members_outcome, object_outcome, node_outcome, target_outcome}
use Rattle.esb_exports.specs.Targets.{answer_of, member_outcome, keyed_outcome, has_dot, main_outcome, object_exports, open_exports, exports_target, IsFile}

-- no package is found
abbrev NoPackage : Outcome → Type 0
NoPackage Undefined = Unit {0}
NoPackage Nothing = Unit {0}
NoPackage (Found target) = IsFile target
NoPackage BadTarget = Unit {0}
NoPackage BadConfig = Unit {0}
NoPackage BadSpecifier = Unit {0}

-- the text of units that begin with `./` does too
dots : (rest : List ℕ) → begins (encode_utf8_all (utf16_lossy_chars (46 ∷ 47 ∷ rest))) (codes "./") ≡ true
unfolding utf16_chars encode
dots [] = refl
dots (unit ∷ rest) = refl

file_found : (rest : List ℕ) → NoPackage (found_file (text_of (46 ∷ 47 ∷ rest)))
unfolding found_file
file_found rest = cond_both (has_unpaired_surrogate (46 ∷ 47 ∷ rest)) None (Some (encode_utf8_all (utf16_lossy_chars (46 ∷ 47 ∷ rest)))) (λ text. NoPackage (found_file text)) (λ _. tt) (λ _. dots rest)

file_replaced : (matched units rest : List ℕ) → units ≡ 46 ∷ 47 ∷ rest → NoPackage (found_file (text_of (replaced matched units)))
unfolding replaced
file_replaced matched units rest is =
    let behind = flat_map (λ (unit : ℕ). cond (is_star unit) matched (unit ∷ [])) rest in
    subst (λ (l : List ℕ). NoPackage (found_file (text_of (replaced matched l)))) (sym is)
    (cond_both (bytes_eq matched []) (46 ∷ 47 ∷ rest) (46 ∷ 47 ∷ behind) (λ (l : List ℕ). NoPackage (found_file (text_of l))) (λ _. file_found rest) (λ _. file_found behind))

file_at : (matched units : List ℕ) → begins units (codes "./") ≡ true → NoPackage (file_outcome matched units)
unfolding file_outcome
file_at matched units is =
    let front : codes "./" ≡ take 2 units = (bytes_eq-Decides (codes "./") (take 2 units)).0 is in
    let whole : units ≡ 46 ∷ 47 ∷ drop 2 units = sym (take-append-drop 2 units) ∙ ap (λ (l : List ℕ). l ++ drop 2 units) (sym front) in
    let found = found_file (text_of (replaced matched units)) in
    cond_both (has_bad (drop 2 units)) BadTarget (cond (not (bytes_eq matched []) && has_bad matched) BadSpecifier found) NoPackage (λ _. tt)
    (λ _. cond_both (not (bytes_eq matched []) && has_bad matched) BadSpecifier found NoPackage (λ _. tt) (λ _. file_replaced matched units (drop 2 units) whole))

text_at : (matched units : List ℕ) → NoPackage (text_outcome false matched units)
unfolding text_outcome
text_at matched units = cond_both (begins units (codes "./")) (file_outcome matched units) BadTarget NoPackage (λ is. file_at matched units is) (λ _. tt)

item_at : (bad : Bool) (outcome : Outcome) (others : List Outcome) → NoPackage outcome → ((b : Bool) → NoPackage (items_outcome b others)) → NoPackage (items_outcome bad (outcome ∷ others))
item_at bad Undefined others here behind = behind bad
item_at bad BadTarget others here behind = behind true
item_at bad Nothing others here behind = tt
item_at bad (Found target) others here behind = here
item_at bad BadConfig others here behind = tt
item_at bad BadSpecifier others here behind = tt

no_items : (bad : Bool) → NoPackage (items_outcome bad [])
no_items true = tt
no_items false = tt

unless_at : (outcome other : Outcome) → NoPackage outcome → NoPackage other → NoPackage (unless_undefined outcome other)
unless_at Undefined other here behind = behind
unless_at Nothing other here behind = tt
unless_at (Found target) other here behind = here
unless_at BadTarget other here behind = tt
unless_at BadConfig other here behind = tt
unless_at BadSpecifier other here behind = tt

module _ (matched : List ℕ) (active : List (List ℕ)) where
  abbrev outcome : Json → Outcome
  outcome = target_outcome false matched active

  abbrev Leads : Json → Type 0
  Leads value = NoPackage (outcome value)

  items_at : (items : List ((value : Json) × Leads value)) (bad : Bool) → NoPackage (items_outcome bad (map outcome (map (λ item. item.0) items)))
  items_at [] bad = no_items bad
  items_at (item ∷ items) bad = item_at bad (outcome item.0) (map outcome (map (λ (item : (value : Json) × Leads value). item.0) items)) item.1 (items_at items)

  array_at : (items : List ((value : Json) × Leads value)) → NoPackage (array_outcome (map outcome (map (λ item. item.0) items)))
  array_at [] = tt
  array_at (item ∷ items) = items_at (item ∷ items) false

  abbrev inside : List (List ℕ × ((value : Json) × Leads value)) → List (List ℕ × Outcome)
  inside members = map (λ (member : List ℕ × Json). (member.0, outcome member.1)) (map (λ (member : List ℕ × ((value : Json) × Leads value)). (member.0, member.1.0)) members)

  members_at : (members : List (List ℕ × ((value : Json) × Leads value))) → NoPackage (members_outcome active (inside members))
  members_at [] = tt
  members_at (member ∷ members) =
      cond_both (is_active active member.0) (unless_undefined (outcome member.1.0) (members_outcome active (inside members))) (members_outcome active (inside members)) NoPackage
      (λ _. unless_at (outcome member.1.0) (members_outcome active (inside members)) member.1.1 (members_at members)) (λ _. members_at members)

  object_at : (members : List (List ℕ × ((value : Json) × Leads value))) → NoPackage (object_outcome active (inside members))
  object_at members = cond_both (list_any (λ member. is_array_index member.0) (inside members)) BadConfig (members_outcome active (inside members)) NoPackage (λ _. tt) (λ _. members_at members)

  abbrev Told : Json-F Json → Type 0
  Told layer = Leads (roll-Json layer)

  rolled : (layer : Json-F Json) → NoPackage (node_outcome false matched active (map-Json Json Outcome outcome layer)) → Told layer
  rolled layer here = subst NoPackage (sym (fold-roll-Json Outcome (node_outcome false matched active) layer)) here

  layer_at : (layer : Json-F ((value : Json) × Leads value)) → Told (map-Json ((value : Json) × Leads value) Json (λ part. part.0) layer)
  layer_at Json-F.Null = rolled Json-F.Null tt
  layer_at (Json-F.Bool flag) = rolled (Json-F.Bool flag) tt
  layer_at (Json-F.Number spelling) = rolled (Json-F.Number spelling) tt
  layer_at (Json-F.Str units) = rolled (Json-F.Str units) (text_at matched units)
  layer_at (Json-F.Array items) = rolled (Json-F.Array (map (λ (item : (value : Json) × Leads value). item.0) items)) (array_at items)
  layer_at (Json-F.Object members) = rolled (Json-F.Object (map (λ (member : List ℕ × ((value : Json) × Leads value)). (member.0, member.1.0)) members)) (object_at members)

  leads : (value : Json) → Leads value
  leads = ind-Json Leads (λ x y is. subst (λ (layer : Json-F Json). Leads (roll-Json layer)) is (layer_at y))

member_at : (active : List (List ℕ)) (path : List ℕ) (member : Option (List ℕ × Json)) → NoPackage (member_outcome false active path member)
unfolding member_outcome
member_at active path None = tt
member_at active path (Some member) = leads (match_of member.0 path) active member.1

keyed_at : (active : List (List ℕ)) (members : List (List ℕ × Json)) (path : List ℕ) → NoPackage (keyed_outcome false active members path)
unfolding keyed_outcome
keyed_at active members path = member_at active path (chosen members path)

main_at : (active : List (List ℕ)) (exports : Json) (path : List ℕ) → NoPackage (main_outcome active exports path)
unfolding main_outcome
main_at active exports path = cond_both (bytes_eq path (codes ".")) (target_outcome false [] active exports) Undefined NoPackage (λ _. leads [] active exports) (λ _. tt)

object_leads : (active : List (List ℕ)) (exports : Json) (members : List (List ℕ × Json)) (path : List ℕ) → NoPackage (object_exports active exports members path)
unfolding object_exports
object_leads active exports members path =
    let mixed = list_any (λ (member : List ℕ × Json). not (has_dot member)) members in
    cond_both (list_any has_dot members) (cond mixed BadConfig (keyed_outcome false active members path)) (main_outcome active exports path) NoPackage
    (λ _. cond_both mixed BadConfig (keyed_outcome false active members path) NoPackage (λ _. tt) (λ _. keyed_at active members path))
    (λ _. main_at active exports path)

open_at : (active : List (List ℕ)) (exports : Json) (path : List ℕ) (layer : Json-F Json) → NoPackage (open_exports active exports path layer)
unfolding open_exports
open_at active exports path Json-F.Null = tt
open_at active exports path (Json-F.Bool flag) = tt
open_at active exports path (Json-F.Number spelling) = tt
open_at active exports path (Json-F.Str units) = main_at active exports path
open_at active exports path (Json-F.Array items) = main_at active exports path
open_at active exports path (Json-F.Object members) = object_leads active exports members path

answer_at : (outcome : Outcome) (target : Target) → NoPackage outcome → answer_of outcome ≡ Ok target → IsFile target
unfolding answer_of
answer_at Undefined target here is = cc
answer_at Nothing target here is = cc
answer_at (Found found) target here is = let same : found ≡ target = cc in subst IsFile same here
answer_at BadTarget target here is = cc
answer_at BadConfig target here is = cc
answer_at BadSpecifier target here is = cc

pub exported : (exports : Json) (subpath : List ℕ) (conditions : List (List ℕ)) (target : Target) → exports_target exports subpath conditions ≡ Ok target → IsFile target
unfolding exports_target
exported exports subpath conditions target is =
    let outcome = open_exports (active_names conditions) exports (units_of subpath) (out-Json exports) in
    answer_at outcome target (open_at (active_names conditions) exports (units_of subpath) (out-Json exports)) is
