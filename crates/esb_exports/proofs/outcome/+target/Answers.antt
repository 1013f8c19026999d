use Rattle.std.proofs.Common.{◌≡◌, List, ℕ, map, Bool, true, false, cond, sym, ap, ◌∙◌}
use Rattle.std.specs.List.{list_any}
use Rattle.std.proofs.lemmas.Result.{IfOk-weaker}
use Rattle.esb_json.specs.declared.value.Json.{Json}
use Rattle.esb_json.specs.declared.value.Json.TheVariants as v
use Rattle.esb_exports.specs.declared.outcome.Outcome.TheVariants.{BadConfig}
use Rattle.esb_exports.specs.Outcomes.{is_array_index, members_outcome, target_outcome}
use Rattle.esb_exports.proofs.Nodes.{outcome-Object, object-index}
use Rattle.esb_exports.proofs.outcome.+target.Goals as goal

object_at : (imports : Bool) (matched : List ℕ) (active : List (List ℕ)) (value : Json) (members : List (List ℕ × Json)) (b : Bool)
    → value ≡ v.Object members → list_any (λ (member : List ℕ × Json). is_array_index member.0) members ≡ b
    → target_outcome imports matched active value ≡ cond b BadConfig (members_outcome active (map (λ (member : List ℕ × Json). (member.0, target_outcome imports matched active member.1)) members))
object_at imports matched active value members b is index =
    ap (target_outcome imports matched active) is ∙ outcome-Object imports matched active members
    ∙ object-index active (target_outcome imports matched active) members b index

pub target_outcome-returns-then-has_array_index : goal.target_outcome-returns-then-has_array_index
target_outcome-returns-then-has_array_index t c =
    let request = c.args.request.now in
    sym (object_at request.imports request.matched.now request.active.now c.args.value.now c.in-Object.members true c.in-Object.is
    (ap (list_any (λ (member : List ℕ × Json). is_array_index member.0)) (sym c.as_slice-listed.ensures) ∙ sym c.has_array_index.ensures ∙ c.if-has_array_index.true))

pub target_outcome-returns-else-has_array_index : goal.target_outcome-returns-else-has_array_index
target_outcome-returns-else-has_array_index t c =
    let imports = c.args.request.now.imports in
    let matched = c.args.request.now.matched.now in
    let active = c.args.request.now.active.now in
    let none = ap (list_any (λ (member : List ℕ × Json). is_array_index member.0)) (sym c.as_slice-listed.ensures) ∙ sym c.has_array_index.ensures ∙ c.if-has_array_index.false in
    let whole = object_at imports matched active c.args.value.now c.in-Object.members false c.in-Object.is none in
    IfOk-weaker c.members_outcome.result _ _
    (λ outcome is. is ∙ ap (λ members. members_outcome active (map (λ (member : List ℕ × Json). (member.0, target_outcome imports matched active member.1)) members)) c.as_slice-listed.ensures ∙ sym whole)
    c.members_outcome.ensures
