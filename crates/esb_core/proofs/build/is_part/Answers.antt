use Rattle.std.proofs.Common.{◌≡◌, ℕ, ◌<◌, List, [], ◌∷◌, length, nat_eq, eqb-true, Bool, true, false, refl, sym, ◌∙◌, arith}
use Rattle.esb_base.specs.declared.host.PutFault.{PutFault}
use Rattle.esb_ask.specs.declared.outcome.OutFile.{OutFile}
use Rattle.esb_core.specs.Allowed.{is_part}
use Rattle.esb_core.proofs.build.is_part.Goals as goal

-- where no file is left, no failure may be
none-left : (rest : List (List ℕ × PutFault)) (left : List OutFile) → length left < 1 → nat_eq (length rest) 0 ≡ is_part rest left
none-left [] left lt = refl
none-left (failure ∷ rest) [] lt = by (nat_eq (length (failure ∷ rest)) 0) refl
  where
    by : (t : Bool) → nat_eq (length (failure ∷ rest)) 0 ≡ t → t ≡ false
    by false long = refl
    by true long = let short = eqb-true (length (failure ∷ rest)) 0 long in absurd (omega (arith, short))
none-left (failure ∷ rest) (file ∷ left) lt = absurd (omega (arith, lt))

pub returns : goal.returns
returns c = c.is_empty.ensures ∙ none-left c.loop-left.rest.now c.loop-left.left.now c.in_default.len_below ∙ sym c.loop-left.invariant
