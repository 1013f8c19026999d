-- Classes (ECMA-262, 14.6).
use Rattle.std.specs.Prelude.{ℕ, Bool, true, false, not, ◌&&◌, List, Option, Some, None}
use Rattle.esb_token.specs.declared.kind.Kind.{Kind}
use Rattle.esb_token.specs.declared.kind.Kind.TheVariants as k
use Rattle.esb_token.specs.declared.token.Token.{Token}
use Rattle.esb_token.specs.declared.goal.Goal.TheVariants as goal
use Rattle.esb_tree.specs.declared.classes.Class.{Class, roll-Class}
use Rattle.esb_tree.specs.declared.classes.ClassElement.{ClassElement}
use Rattle.esb_tree.specs.declared.classes.ClassElement.TheVariants as ce
use Rattle.esb_tree.specs.declared.classes.Heritage.{Heritage}
use Rattle.esb_tree.specs.declared.classes.Heritage.TheVariants as he
use Rattle.esb_tree.specs.declared.expressions.Expression.{Expression}
use Rattle.esb_tree.specs.declared.functions.Method.{Method}
use Rattle.esb_tree.specs.declared.statements.Statement.{Statement}
use Rattle.esb_grammar.specs.declared.context.Context.{Context}
use Rattle.esb_grammar.specs.Kinds.{is_static, is_semicolon, is_right_brace}
use Rattle.esb_reader.specs.declared.node.Node.{Node}
use Rattle.esb_reader.specs.Places.{Text}
use Rattle.esb_reader.specs.Reader.{Reader}
use Rattle.esb_reader.specs.Parts.{behind, token, token_in, both, made, choice, empty, many}
use Rattle.esb_literal_laws.specs.Forks.{fork, second}
use Rattle.esb_literal_laws.specs.Methods.{begins_name, method}
use Rattle.esb_literal_laws.specs.Functions.{own_name}

abbrev pub is_extends : Kind → Bool
is_extends k.Extends = true
is_extends _ = false

abbrev pub make_heritage : Token × Expression → Heritage
make_heritage p = he.Extends p.0 p.1

abbrev pub make_static : Token × Method → ClassElement
make_static p = ce.ClassMethod (Some p.0) p.1

abbrev pub make_member : Method → ClassElement
make_member x = ce.ClassMethod None x

abbrev pub make_class : Token × (Option Token × (Heritage × (Token × (List ClassElement × Token)))) → Class
make_class p = roll-Class (record { word = p.0; name = p.1.0; heritage = p.1.1.0; begin = p.1.1.1.0; elements = p.1.1.1.1.0; ending = p.1.1.1.1.1 })

-- whether a method behind the word `static` stands at a place
unfoldable pub at_static : Text → ℕ → Bool
at_static text i = is_static (behind text i).kind && begins_name (second text i)

-- what may begin an element
abbrev pub begins_member : Token → Bool
begins_member t = not (is_right_brace t.kind)

unfoldable pub empty_member : Text → Reader (Node ClassElement)
empty_member text = made ce.EmptyElement 0 (token text k.Semicolon)

-- ---- the readers, where `heads` reads a LeftHandSideExpression in a context within the levels below a number

module _ (text : Text) (values heads : Context → ℕ → Reader (Node Expression)) (items : Context → ℕ → Reader (Node (List Statement))) where
  unfoldable pub extended : Context → ℕ → Reader (Node Heritage)
  extended c n = made make_heritage 0 (both (token text k.Extends) (heads c n))

  unfoldable pub heritage : Context → ℕ → Reader (Node Heritage)
  heritage c n = choice text (λ t. is_extends t.kind) (extended c n) (empty he.NoHeritage)

  unfoldable pub static_member : Context → ℕ → Reader (Node ClassElement)
  static_member c n = made make_static 0 (both (token_in text goal.Div (λ t. is_static t.kind)) (method text values items c n))

  unfoldable pub member : Context → ℕ → Reader (Node ClassElement)
  member c n = choice text (λ t. is_semicolon t.kind) (empty_member text) (fork (at_static text) (static_member c n) (made make_member 0 (method text values items c n)))

  unfoldable pub members : Context → ℕ → Reader (Node (List ClassElement))
  members c n = many text begins_member (member c n)

  -- ClassExpression and ClassDeclaration; the flag says that the name has to be there
  unfoldable pub class : Bool → Context → ℕ → Reader (Node Class)
  class is_named c n =
      made make_class 0 (both (token text k.Class) (both (own_name text is_named) (both (heritage c n) (both (token text k.LeftBrace) (both (members c n) (token text k.RightBrace))))))
