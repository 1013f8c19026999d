-- Parts in a row are what the run at the front takes.
use Rattle.std.proofs.Common.{◌≡◌, ℕ, ◌+◌, ◌<◌, List, [], ◌∷◌, ◌++◌, length, sym, ap, arith, zero-add, append_assoc, length-append}
use Rattle.std.proofs.lemmas.List.{drop_at}
use Rattle.esb_token.specs.Runs.{run}
use Rattle.esb_token.specs.Grammar.{joined, AreParts}
use Rattle.esb_token.proofs.RunSteps.{run-step, run-stops}

pub run_joined : (part : List ℕ → ℕ) (ps : List (List ℕ)) (after : List ℕ) → AreParts part ps after → run part (joined ps ++ after) ≡ length (joined ps) + run part after
run_joined part [] after h = sym (zero-add (run part after))
run_joined part (p ∷ ps) after h =
    let assoc = ap (run part) (append_assoc p (joined ps) after) in
    let first : part (p ++ (joined ps ++ after)) ≡ length p = h.0.1 in
    let some : 0 < length p = h.0.0 in
    let whole = length-append p (joined ps ++ after) in
    let step = run-step part (p ++ (joined ps ++ after)) (omega (arith, first, some)) (omega (arith, first, whole)) in
    let moved = ap (run part) (drop_at p (joined ps ++ after) (part (p ++ (joined ps ++ after))) (sym first)) in
    let more = run_joined part ps after h.1 in
    omega (arith, assoc, first, step, moved, more, length-append p (joined ps))

-- where the rest has no further part
pub run_closed : (part : List ℕ → ℕ) (ps : List (List ℕ)) (after : List ℕ) → AreParts part ps after → part after ≡ 0 → run part (joined ps ++ after) ≡ length (joined ps)
run_closed part ps after h none = let e = run_joined part ps after h in let stop = run-stops part after none in omega (arith, e, stop)
