-- Lists in parentheses and brackets (ECMA-262, 12.2.5, 12.2.10, 12.3.8).
use Rattle.std.specs.Prelude.{Bool, true, false, not, ◌&&◌, ◌||◌, List, [], ◌∷◌}
use Rattle.esb_token.specs.declared.kind.Kind.{Kind}
use Rattle.esb_token.specs.declared.kind.Kind.TheVariants as k
use Rattle.esb_token.specs.declared.token.Token.{Token}
use Rattle.esb_token.specs.declared.goal.Goal.TheVariants as goal
use Rattle.esb_tree.specs.declared.expressions.Expression.{Expression}
use Rattle.esb_tree.specs.declared.patterns.Bracketed.{Bracketed, roll-Bracketed}
use Rattle.esb_tree.specs.declared.patterns.Element.{Element, out-Element}
use Rattle.esb_tree.specs.declared.patterns.Element.TheVariants as el
use Rattle.esb_tree.specs.declared.patterns.Elements.{Elements, roll-Elements}
use Rattle.esb_tree.specs.declared.patterns.NextElement.{NextElement, roll-NextElement, out-NextElement}
use Rattle.esb_tree.specs.declared.classes.ClassElement.TheOpen.{Element-F}
use Rattle.esb_tree.specs.declared.classes.ClassElement.{ClassElement}
use Rattle.esb_tree.specs.declared.classes.Heritage.{Heritage}
use Rattle.esb_tree.specs.declared.expressions.Link.{Link}
use Rattle.esb_tree.specs.declared.functions.ConciseBody.{ConciseBody}
use Rattle.esb_tree.specs.declared.patterns.PropertyName.{PropertyName}
use Rattle.esb_tree.specs.declared.statements.CaseClause.{CaseClause}
use Rattle.esb_tree.specs.declared.statements.Else.{Else}
use Rattle.esb_tree.specs.declared.statements.Finalizer.{Finalizer}
use Rattle.esb_tree.specs.declared.statements.ForStart.{ForStart}
use Rattle.esb_tree.specs.declared.statements.Handler.{Handler}
use Rattle.esb_tree.specs.declared.statements.MaybeExpression.{MaybeExpression}
use Rattle.esb_tree.specs.declared.statements.Statement.{Statement}
use Rattle.esb_tree.specs.declared.classes.Class.{Class}
use Rattle.esb_tree.specs.declared.expressions.Operand.{Operand}
use Rattle.esb_tree.specs.declared.expressions.Substitution.{Substitution}
use Rattle.esb_tree.specs.declared.expressions.Substitutions.{Substitutions}
use Rattle.esb_tree.specs.declared.functions.Function.{Function}
use Rattle.esb_tree.specs.declared.functions.Method.{Method}
use Rattle.esb_tree.specs.declared.statements.Block.{Block}
use Rattle.esb_tree.specs.declared.statements.Declaration.{Declaration}
use Rattle.esb_tree.specs.declared.statements.ElseIf.{ElseIf}
use Rattle.esb_tree.specs.declared.statements.IfClause.{IfClause}
use Rattle.esb_grammar.specs.declared.form.Form.{Form}
use Rattle.esb_grammar.specs.Forms.{opener, closer, takes_hole, takes_spread, is_empty}
use Rattle.esb_grammar.specs.Kinds.{is_comma}
use Rattle.esb_reader.specs.declared.node.Node.{Node}
use Rattle.esb_reader.specs.Places.{Text}
use Rattle.esb_reader.specs.Reader.{Reader}
use Rattle.esb_reader.specs.Parts.{token, token_in, both, made, such, choice, empty, many}

abbrev pub is_closer : Kind → Bool
is_closer k.RightParenthesis = true
is_closer k.RightBracket = true
is_closer k.RightBrace = true
is_closer _ = false

-- what ends an element
abbrev pub ends_element : Token → Bool
ends_element t = is_comma t.kind || is_closer t.kind

abbrev pub begins_element : Token → Bool
begins_element t = not (ends_element t)

abbrev pub is_dots : Kind → Bool
is_dots k.Ellipsis = true
is_dots _ = false

abbrev pub make_spread : Token × Expression → Element
make_spread p = el.Spread p.0 p.1

abbrev pub make_next : Token × Element → NextElement
make_next p = roll-NextElement (record { comma = p.0; element = p.1 })

abbrev pub make_list : Element × List NextElement → Elements
make_list p = roll-Elements (record { first = p.0; rest = p.1 })

abbrev pub make_bracketed : (Token × Elements) × Token → Bracketed
make_bracketed p = roll-Bracketed (record { begin = p.0.0; list = p.0.1; ending = p.1 })

-- ---- where nothing may stand

abbrev pub hole_layer : Element-F ClassElement Heritage Expression Link ConciseBody Element PropertyName CaseClause Else Finalizer ForStart Handler MaybeExpression Statement Class Operand Substitution Substitutions Function Method Bracketed Elements NextElement Block Declaration ElseIf IfClause → Bool
hole_layer (Element-F.Hole) = true
hole_layer _ = false

unfoldable pub is_hole : Element → Bool
is_hole x = hole_layer (out-Element x)

-- an element in a place of a list, which is the last or not
abbrev pub fits_place : Form → Bool → Element → Bool
fits_place form last x = not (is_hole x) || takes_hole form last

abbrev pub all_fit : Form → List NextElement → Bool
all_fit form [] = true
all_fit form (o ∷ os) = fits_place form (is_empty os) (out-NextElement o).element && all_fit form os

abbrev pub list_fits : Form → Element × List NextElement → Bool
list_fits form p = fits_place form (is_empty p.1) p.0 && all_fit form p.1

-- ---- the readers, where `inner` reads an AssignmentExpression

module _ (text : Text) (form : Form) (inner : Reader (Node Expression)) where
  abbrev pub takes_dots : Token → Bool
  takes_dots t = is_dots t.kind && takes_spread form

  unfoldable pub spread : Reader (Node Element)
  spread = made make_spread 0 (both (token_in text goal.Div takes_dots) inner)

  unfoldable pub value : Reader (Node Element)
  value = made el.Value 0 inner

  unfoldable pub element : Reader (Node Element)
  element = choice text begins_element (choice text (λ t. is_dots t.kind) spread value) (empty el.Hole)

  unfoldable pub next_element : Reader (Node NextElement)
  next_element = made make_next 0 (both (token text k.Comma) element)

  -- there is one element more than there are commas; where nothing may stand is seen once the list was read
  unfoldable pub list : Reader (Node Elements)
  list = made make_list 0 (such (both element (many text (λ t. is_comma t.kind) next_element)) (list_fits form))

  unfoldable pub bracketed : Reader (Node Bracketed)
  bracketed = made make_bracketed 0 (both (both (token text (opener form)) list) (token text (closer form)))
