use Rattle.std.proofs.Common.{◌≡◌, ◌+◌, List, ℕ, [], ◌∷◌, ◌++◌, get_or, take, drop, subst}
use Rattle.esb_wire.proofs.Kept.{four_written}
use Rattle.esb_wire.proofs.writing.set_word.Goals as goal

pub returns : goal.returns
returns c =
    let old = c.args.out.now in
    let at = c.args.at in
    let new = c.set-4.new.self in
    let by_bytes = four_written old c.set.new.self c.set-2.new.self c.set-3.new.self new at _ _ _ _ c.set.ensures c.set-2.ensures c.set-3.ensures c.set-4.ensures c.requires.within in
    subst (λ (w : List ℕ). new ≡ take at old ++ (get_or w 0 0 ∷ get_or w 1 0 ∷ get_or w 2 0 ∷ get_or w 3 0 ∷ []) ++ drop (at + 4) old) c.to_le_bytes-bytes.ensures by_bytes
