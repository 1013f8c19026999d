use Rattle.std.proofs.Common.{◌≡◌, ℕ, ◌+◌, ◌-◌, ◌<◌, ◌≤◌, length, List, [], ◌∷◌, ◌++◌, map, take, drop, codes, refl, sym, ap, ◌∙◌, arith}
use Rattle.std.proofs.lemmas.List.{map_push, map_more, map-append, take_rest, take_all, drop-map}
use Rattle.esb_path.specs.Paths.{shared_count, way}
use Rattle.esb_path.proofs.names.way.Goals as goal

-- steps up
abbrev ups : {X : Type 0} → List X → List (List ℕ)
ups away = map (λ _. codes "..") away

ups_more : {X : Type 0} (xs : List X) (i : ℕ) → i < length xs → ups (take (i + 1) xs) ≡ ups (take i xs) ++ codes ".." ∷ []
ups_more [] i within = absurd (omega arith)
ups_more (x ∷ xs) i within = map_more (λ _. codes "..") (x ∷ xs) i x within

ups-map : {X Y : Type 0} (f : X → Y) (xs : List X) → ups (map f xs) ≡ ups xs
ups-map f [] = refl
ups-map f (x ∷ xs) = ap (λ (t : List (List ℕ)). codes ".." ∷ t) (ups-map f xs)

ends : {X : Type 0} (f : X → List ℕ) (from to : List X) (n i : ℕ) → length (take (length from - n) (drop n from)) ≤ i → n ≡ shared_count (map f from) (map f to)
    → ups (take i (take (length from - n) (drop n from))) ++ map f (take (length to - n) (drop n to)) ≡ way (map f from) (map f to)
ends f from to n i all shared =
    rw (take_all i (take (length from - n) (drop n from)) all, take_rest from n, take_rest to n, ← shared, drop-map f n from, drop-map f n to, ups-map f (drop n from)) refl

pub loop-left-preserved : goal.loop-left-preserved
loop-left-preserved c =
    let from = c.args.from.now in
    let left = take (length from - c.shared_count-shared.result) (drop c.shared_count-shared.result from) in
    ap (map (λ step. step.now)) c.in_ok-push.ensures.items
    ∙ map_push (λ step. step.now) c.loop-left.steps.items _
    ∙ ap (λ (t : List (List ℕ)). t ++ codes ".." ∷ []) c.loop-left.invariant
    ∙ sym (ups_more left c.loop-left._left-index c.loop-left-test.true)

pub returns : goal.returns
returns c =
    let n = c.shared_count-shared.result in
    let down = map (λ name. name.now) (take (length c.args.to.now - n) (drop n c.args.to.now)) in
    ap (map (λ step. step.now)) c.in_ok-extend_from_slice.ensures.items
    ∙ map-append (λ step. step.now) c.loop-left.steps.items (take (length c.args.to.now - n) (drop n c.args.to.now))
    ∙ ap (λ (t : List (List ℕ)). t ++ down) c.loop-left.invariant
    ∙ ends (λ name. name.now) c.args.from.now c.args.to.now n c.loop-left._left-index c.loop-left-test.false c.shared_count-shared.ensures.shared
