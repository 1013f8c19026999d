-- What the operands of `**` and of `??` are, as loops see it.
use Rattle.std.proofs.Common.{◌≡◌, ℕ, ◌+◌, ◌<◌, zero, suc, arith, Bool, true, false, not, ◌&&◌, List, [], ◌∷◌, length, drop, get_or, refl, sym, ap, ◌∙◌}
use Rattle.std.proofs.lemmas.List.{at_drop_more}
use Rattle.esb_tree.specs.declared.expressions.Expression.{Expression}
use Rattle.esb_tree.specs.declared.expressions.Operand.{Operand, out-Operand}
use Rattle.esb_operator_laws.specs.Ladder.{is_prefixed, is_tight, powers_fit, are_tight}

-- what `powers_fit` is behind an operand, by whether that is a unary expression
abbrev pub fit_behind : Bool → List Operand → Bool
fit_behind before [] = true
fit_behind before (o ∷ os) = not before && fit_behind (is_prefixed (out-Operand o).value) os

pub powers_behind : (first : Expression) (os : List Operand) → powers_fit first os ≡ fit_behind (is_prefixed first) os
powers_behind first [] = refl
powers_behind first (o ∷ os) = ap (λ b. not (is_prefixed first) && b) (powers_behind (out-Operand o).value os)

pub fit_at : (before : Bool) (os : List Operand) (i : ℕ) (o : Operand) → o ≡ get_or os i o → i < length os
    → fit_behind before (drop i os) ≡ (not before && fit_behind (is_prefixed (out-Operand o).value) (drop (i + 1) os))
fit_at before os i o e h =
    at_drop_more (fit_behind before) os i o h
    ∙ ap (λ x. not before && fit_behind (is_prefixed (out-Operand x).value) (drop (i + 1) os)) (sym e)

-- behind a unary expression nothing may stand
pub fit_none : (os : List Operand) (i : ℕ) → i < length os → fit_behind true (drop i os) ≡ false
fit_none (o ∷ os) zero h = refl
fit_none (o ∷ os) (suc i) h = fit_none os i (omega (arith, h))
fit_none [] i h = absurd (omega (arith, h))

pub tight_at : (os : List Operand) (i : ℕ) (o : Operand) → o ≡ get_or os i o → i < length os
    → are_tight (drop i os) ≡ (is_tight (out-Operand o).value && are_tight (drop (i + 1) os))
tight_at os i o e h =
    at_drop_more are_tight os i o h
    ∙ ap (λ x. is_tight (out-Operand x).value && are_tight (drop (i + 1) os)) (sym e)
