-- What each variant of a value comes to.
use Rattle.std.proofs.Common.{◌≡◌, ℕ, Bool, true, false, cond, ◌||◌, List, [], ◌∷◌, map, refl, sym, ap, ◌∙◌}
use Rattle.std.specs.List.{list_any}
use Rattle.esb_json.specs.declared.value.Json.{Json}
use Rattle.esb_json.specs.declared.value.Json.TheOpen.{Json-F}
use Rattle.esb_json.specs.declared.value.Json.TheFolds.{fold-roll-Json}
use Rattle.esb_json.specs.declared.value.Json.TheVariants as v
use Rattle.esb_exports.specs.declared.outcome.Outcome.{Outcome}
use Rattle.esb_exports.specs.declared.outcome.Outcome.TheVariants.{Undefined, Nothing, Found, BadTarget, BadConfig, BadSpecifier}
use Rattle.esb_exports.specs.Outcomes.{text_outcome, array_outcome, items_outcome, members_outcome, object_outcome, is_active, is_array_index, unless_undefined, node_outcome, target_outcome}

module _ (imports : Bool) (matched : List ℕ) (active : List (List ℕ)) where
  pub outcome-Null : target_outcome imports matched active v.Null ≡ Nothing
  outcome-Null = ap (target_outcome imports matched active) (sym v.rolls-Null) ∙ fold-roll-Json Outcome (node_outcome imports matched active) Json-F.Null

  pub outcome-Bool : (flag : Bool) → target_outcome imports matched active (v.Bool flag) ≡ BadTarget
  outcome-Bool flag = ap (target_outcome imports matched active) (sym (v.rolls-Bool flag)) ∙ fold-roll-Json Outcome (node_outcome imports matched active) (Json-F.Bool flag)

  pub outcome-Number : (spelling : List ℕ) → target_outcome imports matched active (v.Number spelling) ≡ BadTarget
  outcome-Number spelling = ap (target_outcome imports matched active) (sym (v.rolls-Number spelling)) ∙ fold-roll-Json Outcome (node_outcome imports matched active) (Json-F.Number spelling)

  pub outcome-Str : (units : List ℕ) → target_outcome imports matched active (v.Str units) ≡ text_outcome imports matched units
  outcome-Str units = ap (target_outcome imports matched active) (sym (v.rolls-Str units)) ∙ fold-roll-Json Outcome (node_outcome imports matched active) (Json-F.Str units)

  pub outcome-Array : (items : List Json) → target_outcome imports matched active (v.Array items) ≡ array_outcome (map (target_outcome imports matched active) items)
  outcome-Array items = ap (target_outcome imports matched active) (sym (v.rolls-Array items)) ∙ fold-roll-Json Outcome (node_outcome imports matched active) (Json-F.Array items)

  pub outcome-Object : (members : List (List ℕ × Json)) → target_outcome imports matched active (v.Object members)
      ≡ object_outcome active (map (λ member. (member.0, target_outcome imports matched active member.1)) members)
  outcome-Object members = ap (target_outcome imports matched active) (sym (v.rolls-Object members)) ∙ fold-roll-Json Outcome (node_outcome imports matched active) (Json-F.Object members)

pub array-some : {X : Type 0} (f : X → Outcome) (items : List X) → (items ≡ [] → ⊥) → array_outcome (map f items) ≡ items_outcome false (map f items)
array-some f [] some = absurd (some refl)
array-some f (item ∷ items) some = refl

pub any_name : {X : Type 0} (f : X → Outcome) (members : List (List ℕ × X))
    → list_any (λ (member : List ℕ × Outcome). is_array_index member.0) (map (λ (member : List ℕ × X). (member.0, f member.1)) members)
    ≡ list_any (λ (member : List ℕ × X). is_array_index member.0) members
any_name f [] = refl
any_name f (member ∷ members) = ap (λ b. is_array_index member.0 || b) (any_name f members)

pub object-index : (active : List (List ℕ)) {X : Type 0} (f : X → Outcome) (members : List (List ℕ × X)) (b : Bool) → list_any (λ (member : List ℕ × X). is_array_index member.0) members ≡ b
    → object_outcome active (map (λ (member : List ℕ × X). (member.0, f member.1)) members) ≡ cond b BadConfig (members_outcome active (map (λ (member : List ℕ × X). (member.0, f member.1)) members))
object-index active {X} f members b e =
    ap (λ t. cond t BadConfig (members_outcome active (map (λ (member : List ℕ × X). (member.0, f member.1)) members))) (any_name f members ∙ e)

-- an item that is no bad target, and comes to more than nothing, stands for the array
pub item_stays : (bad : Bool) (outcome : Outcome) (others : List Outcome) → (outcome ≡ Undefined → ⊥) → (outcome ≡ BadTarget → ⊥) → items_outcome bad (outcome ∷ others) ≡ outcome
item_stays bad Undefined others some good = absurd (some refl)
item_stays bad BadTarget others some good = absurd (good refl)
item_stays bad Nothing others some good = refl
item_stays bad (Found target) others some good = refl
item_stays bad BadConfig others some good = refl
item_stays bad BadSpecifier others some good = refl

outcome_stays : (outcome other : Outcome) → (outcome ≡ Undefined → ⊥) → unless_undefined outcome other ≡ outcome
outcome_stays Undefined other some = absurd (some refl)
outcome_stays BadTarget other some = refl
outcome_stays Nothing other some = refl
outcome_stays (Found target) other some = refl
outcome_stays BadConfig other some = refl
outcome_stays BadSpecifier other some = refl

-- an active member that comes to more than nothing stands for the object
pub member_stays : (active : List (List ℕ)) (name : List ℕ) (outcome : Outcome) (others : List (List ℕ × Outcome)) → is_active active name ≡ true → (outcome ≡ Undefined → ⊥)
    → members_outcome active ((name, outcome) ∷ others) ≡ outcome
member_stays active name outcome others on some = rw on (outcome_stays outcome (members_outcome active others) some)
