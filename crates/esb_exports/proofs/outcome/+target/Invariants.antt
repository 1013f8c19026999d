use Rattle.std.proofs.Common.{◌≡◌, map, drop, false, List, ℕ}
use Rattle.esb_json.specs.declared.value.Json.{Json}
use Rattle.esb_exports.specs.declared.outcome.Outcome.{Outcome}
use Rattle.esb_exports.specs.Outcomes.{items_outcome, members_outcome, target_outcome}
use Rattle.esb_exports.proofs.outcome.+target.Given as goal

abbrev pub invariant-items_outcome-loop-item : goal.invariant-items_outcome-loop-item
invariant-items_outcome-loop-item l =
    let f = target_outcome l.request.imports l.request.matched.now l.request.active.now in
    items_outcome l.bad (map f (drop l.item-index l.items)) ≡ items_outcome false (map f l.items)

abbrev pub invariant-members_outcome-loop-name : goal.invariant-members_outcome-loop-name
invariant-members_outcome-loop-name l =
    let f : List ℕ × Json → List ℕ × Outcome = λ member. (member.0, target_outcome l.request.imports l.request.matched.now l.request.active.now member.1) in
    members_outcome l.request.active.now (map f (drop l.name-index l.members)) ≡ members_outcome l.request.active.now (map f l.members)
