-- Lists in parentheses that are read once: as Arguments, and then asked whether each element is a value.
use Rattle.std.specs.Prelude.{Bool, true, false, ◌&&◌, List, [], ◌∷◌}
use Rattle.esb_tree.specs.declared.classes.ClassElement.TheOpen.{Element-F}
use Rattle.esb_tree.specs.declared.patterns.Bracketed.{Bracketed, out-Bracketed}
use Rattle.esb_tree.specs.declared.patterns.Element.{Element, out-Element}
use Rattle.esb_tree.specs.declared.patterns.Elements.{Elements, out-Elements}
use Rattle.esb_tree.specs.declared.patterns.NextElement.{NextElement, out-NextElement}
use Rattle.esb_value_laws.specs.Covers.{Element_layer}

abbrev pub plain_layer : Element_layer → Bool
plain_layer (Element-F.Hole) = false
plain_layer (Element-F.Spread dots x) = false
plain_layer _ = true

-- neither nothing nor `...` and a value
unfoldable pub is_plain : Element → Bool
is_plain x = plain_layer (out-Element x)

abbrev pub all_plain : List NextElement → Bool
all_plain [] = true
all_plain (o ∷ os) = is_plain (out-NextElement o).element && all_plain os

abbrev pub elements_plain : Elements → Bool
elements_plain x = is_plain (out-Elements x).first && all_plain (out-Elements x).rest

unfoldable pub is_plain_list : Bracketed → Bool
is_plain_list x = elements_plain (out-Bracketed x).list
