-- The tests of Covers by the levels of what stands in a node, and as loops see them.
use Rattle.std.proofs.Common.{◌≡◌, ℕ, zero, suc, ◌+◌, ◌<◌, Bool, true, false, ◌&&◌, List, length, drop, get_or, refl, sym, ap, ◌∙◌}
use Rattle.std.proofs.lemmas.List.{at_drop_more}
use Rattle.esb_token.specs.declared.token.Token.{Token}
use Rattle.esb_tree.specs.declared.classes.ClassElement.TheOpen.{Expression-F}
use Rattle.esb_tree.specs.declared.expressions.Expression.{Expression, out-Expression, out-roll-Expression}
use Rattle.esb_tree.specs.declared.expressions.Expression.TheVariants as e
use Rattle.esb_tree.specs.declared.patterns.Bracketed.{Bracketed, out-Bracketed}
use Rattle.esb_tree.specs.declared.patterns.Element.{Element}
use Rattle.esb_tree.specs.declared.patterns.NextElement.{NextElement, out-NextElement}
use Rattle.esb_grammar.specs.Forms.{is_empty}
use Rattle.esb_grammar.specs.Kinds.{is_binding}
use Rattle.esb_literal_laws.specs.ElementLists.{all_placed}
use Rattle.esb_value_laws.specs.Covers.{elements_cover, list_covers, target_layer, covers_target}
use Rattle.esb_values.specs.Within.{inner, within, covers_element}

pub target_at : (n : ℕ) (x : Expression) → covers_target n x ≡ target_layer (within (inner n)) (out-Expression x)
unfolding covers_target
target_at zero x = refl
target_at (suc n) x = refl

out_primary : (t : Token) → out-Expression (e.Primary t) ≡ Expression-F.Primary t
out_primary t = ap out-Expression (sym (e.rolls-Primary t)) ∙ out-roll-Expression (Expression-F.Primary t)

out_array : (list : Bracketed) → out-Expression (e.ArrayLiteral list) ≡ Expression-F.ArrayLiteral list
out_array list = ap out-Expression (sym (e.rolls-ArrayLiteral list)) ∙ out-roll-Expression (Expression-F.ArrayLiteral list)

out_object : (list : Bracketed) → out-Expression (e.ObjectLiteral list) ≡ Expression-F.ObjectLiteral list
out_object list = ap out-Expression (sym (e.rolls-ObjectLiteral list)) ∙ out-roll-Expression (Expression-F.ObjectLiteral list)

-- ---- what the test says of each kind of node

pub target_name : (n : ℕ) (x : Expression) (t : Token) → x ≡ e.Primary t → covers_target n x ≡ is_binding t.kind
target_name n x t h = ap (covers_target n) h ∙ target_at n (e.Primary t) ∙ ap (target_layer (within (inner n))) (out_primary t)

pub target_array : (n : ℕ) (x : Expression) (list : Bracketed) → x ≡ e.ArrayLiteral list → covers_target n x ≡ elements_cover (covers_element false (inner n)) (out-Bracketed list).list
unfolding list_covers
target_array n x list h = ap (covers_target n) h ∙ target_at n (e.ArrayLiteral list) ∙ ap (target_layer (within (inner n))) (out_array list)

pub target_object : (n : ℕ) (x : Expression) (list : Bracketed) → x ≡ e.ObjectLiteral list → covers_target n x ≡ elements_cover (covers_element true (inner n)) (out-Bracketed list).list
unfolding list_covers
target_object n x list h = ap (covers_target n) h ∙ target_at n (e.ObjectLiteral list) ∙ ap (target_layer (within (inner n))) (out_object list)

-- ---- loops

pub placed_at : (fit : Bool → Element → Bool) (os : List NextElement) (i : ℕ) (o : NextElement) → o ≡ get_or os i o → i < length os
    → all_placed fit (drop i os) ≡ (fit (is_empty (drop (i + 1) os)) (out-NextElement o).element && all_placed fit (drop (i + 1) os))
placed_at fit os i o e h =
    at_drop_more (all_placed fit) os i o h
    ∙ ap (λ x. fit (is_empty (drop (i + 1) os)) (out-NextElement x).element && all_placed fit (drop (i + 1) os)) (sym e)
