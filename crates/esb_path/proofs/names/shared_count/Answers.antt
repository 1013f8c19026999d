use Rattle.std.proofs.Common.{◌≡◌, ℕ, List, map, drop, ◌∷◌, [], refl, ap, ◌∙◌, arith}
use Rattle.std.proofs.lemmas.List.{drop_all}
use Rattle.esb_path.specs.Paths.{shared_count}
use Rattle.esb_path.proofs.names.shared_count.Goals as goal

shared_none : (names : List (List ℕ)) → shared_count names [] ≡ 0
shared_none [] = refl
shared_none (name ∷ names) = refl

pub returns-else-count-others-clause-shared : goal.returns-else-count-others-clause-shared
returns-else-count-others-clause-shared c =
    let count = c.loop-count.count in
    let front = map (λ name. name.now) (drop count c.args.names.now) in
    let none = ap (λ t. shared_count front (map (λ name. name.now) t)) (drop_all count c.args.others.now c.if-count-others.false) ∙ shared_none front in
    omega (arith, none, c.loop-count.invariant.2)
