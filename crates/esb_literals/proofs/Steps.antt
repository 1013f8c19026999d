-- Steps of loops.
use Rattle.std.proofs.Common.{◌≡◌, ◌⊎◌, inl, inr, eqb, ℕ, suc, ◌+◌, ◌-◌, ◌<◌, ◌≤◌, Bool, true, false, not, ◌&&◌, ◌||◌, List, [], ◌∷◌, length, drop, get_or, refl, ap, sym, ◌∙◌, subst, arith, length-drop}
use Rattle.std.proofs.lemmas.List.{at_drop_more, drop_all}
use Rattle.std.proofs.lemmas.Bool.{cases_lt, eqb-true, eq-eqb}
use Rattle.esb_tree.specs.declared.patterns.NextElement.{NextElement, out-NextElement}
use Rattle.esb_grammar.specs.declared.form.Form.{Form}
use Rattle.esb_grammar.specs.Forms.{is_empty}
use Rattle.esb_expression_laws.specs.Lists.{fits_place, all_fit}
use Rattle.esb_literal_laws.specs.Bindings.{is_rest, rests_last}

-- a recursion on a count of turns, beside a loop that counts up
pub one_more : {X : Type 0} {x : X} (f : ℕ → X) (n at : ℕ) → at < n → x ≡ f (n - at) → x ≡ f (suc (n - (at + 1)))
one_more f n at below e = let turn : n - at ≡ suc (n - (at + 1)) = omega (arith, below) in e ∙ ap f turn

is_full : (os : List NextElement) → 0 < length os → is_empty os ≡ false
is_full [] h = absurd (omega (arith, h))
is_full (o ∷ os) h = refl

-- nothing is left behind the last
last_is : (os : List NextElement) (i : ℕ) → i < length os → is_empty (drop (i + 1) os) ≡ eqb (i + 1) (length os)
last_is os i h = by_test (eqb (i + 1) (length os)) refl
  where
    left : length (drop (i + 1) os) ≡ length os - (i + 1)
    left = length-drop (i + 1) os

    by_test : (b : Bool) → eqb (i + 1) (length os) ≡ b → is_empty (drop (i + 1) os) ≡ b
    by_test true e = let same = eqb-true (i + 1) (length os) e in ap is_empty (drop_all (i + 1) os (omega (arith, same)))
    by_test false e = is_full (drop (i + 1) os) (more (cases_lt (length os) (i + 2)))
      where
        more : (length os < i + 2) ⊎ (i + 2 ≤ length os) → 0 < length (drop (i + 1) os)
        more (inl less) = let same : i + 1 ≡ length os = omega (arith, less, h) in let bad : true ≡ false = sym (eq-eqb (i + 1) (length os) same) ∙ e in cc
        more (inr many) = let l = left in omega (arith, l, many)

pub fit_at : (form : Form) (os : List NextElement) (i : ℕ) (o : NextElement) → o ≡ get_or os i o → i < length os
    → all_fit form (drop i os) ≡ (fits_place form (eqb (i + 1) (length os)) (out-NextElement o).element && all_fit form (drop (i + 1) os))
fit_at form os i o e h =
    at_drop_more (all_fit form) os i o h
    ∙ ap (λ x. fits_place form (is_empty (drop (i + 1) os)) (out-NextElement x).element && all_fit form (drop (i + 1) os)) (sym e)
    ∙ ap (λ last. fits_place form last (out-NextElement o).element && all_fit form (drop (i + 1) os)) (last_is os i h)

pub rest_at : (os : List NextElement) (i : ℕ) (o : NextElement) → o ≡ get_or os i o → i < length os
    → rests_last (drop i os) ≡ ((not (is_rest (out-NextElement o).element) || eqb (i + 1) (length os)) && rests_last (drop (i + 1) os))
rest_at os i o e h =
    at_drop_more rests_last os i o h
    ∙ ap (λ x. (not (is_rest (out-NextElement x).element) || is_empty (drop (i + 1) os)) && rests_last (drop (i + 1) os)) (sym e)
    ∙ ap (λ last. (not (is_rest (out-NextElement o).element) || last) && rests_last (drop (i + 1) os)) (last_is os i h)
