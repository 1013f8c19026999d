-- Steps of loops.
use Rattle.std.proofs.Common.{◌≡◌, ℕ, ◌+◌, ◌<◌, Bool, false, ◌&&◌, List, [], ◌∷◌, length, drop, get_or, refl, ap, sym, ◌∙◌, arith, length-drop}
use Rattle.std.proofs.lemmas.List.{at_drop_more}
use Rattle.esb_tree.specs.declared.modules.NextSpecifier.{NextSpecifier}
use Rattle.esb_reader.specs.Places.{Text}
use Rattle.esb_reader.specs.Reader.{none, repeated}
use Rattle.esb_reader.specs.Parts.{behind}
use Rattle.esb_statement_laws.specs.Marks.{begins_item}
use Rattle.esb_module_laws.specs.Specifiers.{is_something, are_filled}
use Rattle.esb_module_laws.specs.Items.{HandedItems, item_list, module_item}

-- behind nothing no specifier may stand
none_filled : (os : List NextSpecifier) → 0 < length os → are_filled false os ≡ false
none_filled [] h = absurd (omega (arith, h))
none_filled (o ∷ os) h = refl

pub not_filled_at : (os : List NextSpecifier) (i : ℕ) → i < length os → are_filled false (drop i os) ≡ false
not_filled_at os i h = none_filled (drop i os) (let left = length-drop i os in omega (arith, left, h))

-- one specifier more
pub filled_at : (filled : Bool) (os : List NextSpecifier) (i : ℕ) (o : NextSpecifier) → o ≡ get_or os i o → i < length os
    → are_filled filled (drop i os) ≡ (filled && are_filled (is_something o.specifier) (drop (i + 1) os))
filled_at filled os i o e h =
    at_drop_more (are_filled filled) os i o h ∙ ap (λ (x : NextSpecifier). filled && are_filled (is_something x.specifier) (drop (i + 1) os)) (sym e)

-- how a loop over items begins
pub items_begin : (text : Text) (n : ℕ) (r : HandedItems) (i : ℕ) → item_list text n r i ≡ repeated (λ j. begins_item (behind text j).kind) (module_item text n r) (length text) none i
unfolding item_list
items_begin text n r i = refl
