-- Lists of elements with commas between them, over a reader of the elements.
use Rattle.std.specs.Prelude.{Bool, true, not, ◌&&◌, List, [], ◌∷◌}
use Rattle.esb_token.specs.declared.kind.Kind.TheVariants as k
use Rattle.esb_token.specs.declared.token.Token.{Token}
use Rattle.esb_tree.specs.declared.patterns.Bracketed.{Bracketed}
use Rattle.esb_tree.specs.declared.patterns.Element.{Element}
use Rattle.esb_tree.specs.declared.patterns.Elements.{Elements, out-Elements}
use Rattle.esb_tree.specs.declared.patterns.NextElement.{NextElement, out-NextElement}
use Rattle.esb_grammar.specs.declared.form.Form.{Form}
use Rattle.esb_grammar.specs.Forms.{opener, closer, is_empty}
use Rattle.esb_grammar.specs.Kinds.{is_comma}
use Rattle.esb_reader.specs.declared.node.Node.{Node}
use Rattle.esb_reader.specs.Places.{Text}
use Rattle.esb_reader.specs.Reader.{Reader}
use Rattle.esb_reader.specs.Parts.{token, both, made, such, many}
use Rattle.esb_reader.specs.Stands.{last_stops}
use Rattle.esb_expression_laws.specs.Lists.{make_next, make_list, make_bracketed}

-- the elements of a list, each of which fits its place: the flag says that it is the last
abbrev pub all_placed : (Bool → Element → Bool) → List NextElement → Bool
all_placed fit [] = true
all_placed fit (o ∷ os) = fit (is_empty os) (out-NextElement o).element && all_placed fit os

abbrev pub placed : (Bool → Element → Bool) → Element × List NextElement → Bool
placed fit p = fit (is_empty p.1) p.0 && all_placed fit p.1

-- what ends a list: it ends the last element, and is no comma
abbrev pub next_stops : (Element → Token → Bool) → NextElement → Token → Bool
next_stops stops o t = stops (out-NextElement o).element t

abbrev pub ends_with : (Element → Token → Bool) → Element → List NextElement → Token → Bool
ends_with stops x [] t = stops x t && not (is_comma t.kind)
ends_with stops x (o ∷ os) t = last_stops (next_stops stops) (o ∷ os) t && not (is_comma t.kind)

abbrev pub ends_elements : (Element → Token → Bool) → Elements → Token → Bool
ends_elements stops list t = ends_with stops (out-Elements list).first (out-Elements list).rest t

-- ---- the readers, where `element` reads an element or nothing, and `fits` says which elements may stand in which places

module _ (text : Text) (element : Reader (Node Element)) where
  unfoldable pub next_of : Reader (Node NextElement)
  next_of = made make_next 0 (both (token text k.Comma) element)

  unfoldable pub nexts_of : Reader (Node (List NextElement))
  nexts_of = many text (λ t. is_comma t.kind) next_of

  unfoldable pub list_of : (Element × List NextElement → Bool) → Reader (Node Elements)
  list_of fits = made make_list 0 (such (both element nexts_of) fits)

  unfoldable pub bracketed_of : Form → (Element × List NextElement → Bool) → Reader (Node Bracketed)
  bracketed_of form fits = made make_bracketed 0 (both (both (token text (opener form)) (list_of fits)) (token text (closer form)))
