-- Steps of loops.
use Rattle.std.proofs.Common.{◌≡◌, ℕ, suc, ◌+◌, ◌-◌, ◌<◌, Bool, true, false, not, ◌&&◌, if◌then◌else◌, List, length, drop, get_or, ap, sym, ◌∙◌, arith}
use Rattle.std.proofs.lemmas.List.{at_drop_more}
use Rattle.esb_tree.specs.declared.patterns.NextElement.{NextElement, out-NextElement}
use Rattle.esb_tree.specs.declared.statements.CaseClause.{CaseClause}
use Rattle.esb_statement_laws.specs.Declarations.{is_bound, all_bound}
use Rattle.esb_statement_laws.specs.Compounds.{is_default, no_default, one_default}

pub bound_at : (os : List NextElement) (i : ℕ) (o : NextElement) → o ≡ get_or os i o → i < length os
    → all_bound (drop i os) ≡ (is_bound (out-NextElement o).element && all_bound (drop (i + 1) os))
bound_at os i o e h = at_drop_more all_bound os i o h ∙ ap (λ x. is_bound (out-NextElement x).element && all_bound (drop (i + 1) os)) (sym e)

-- what is asked of the clauses that are left, where a DefaultClause came already or not
abbrev pub defaults_left : Bool → List CaseClause → Bool
defaults_left true xs = no_default xs
defaults_left false xs = one_default xs

pub one_at : (xs : List CaseClause) (i : ℕ) (x : CaseClause) → x ≡ get_or xs i x → i < length xs
    → one_default (drop i xs) ≡ (if is_default x then no_default (drop (i + 1) xs) else one_default (drop (i + 1) xs))
one_at xs i x e h = at_drop_more one_default xs i x h ∙ ap (λ y. if is_default y then no_default (drop (i + 1) xs) else one_default (drop (i + 1) xs)) (sym e)

pub none_at : (xs : List CaseClause) (i : ℕ) (x : CaseClause) → x ≡ get_or xs i x → i < length xs
    → no_default (drop i xs) ≡ (not (is_default x) && no_default (drop (i + 1) xs))
none_at xs i x e h = at_drop_more no_default xs i x h ∙ ap (λ y. not (is_default y) && no_default (drop (i + 1) xs)) (sym e)

-- a recursion on a count of turns, beside a loop that counts up
pub one_more : {X : Type 0} {x : X} (f : ℕ → X) (n at : ℕ) → at < n → x ≡ f (n - at) → x ≡ f (suc (n - (at + 1)))
one_more f n at below e = let turn : n - at ≡ suc (n - (at + 1)) = omega (arith, below) in e ∙ ap f turn
