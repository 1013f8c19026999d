-- The links of members, calls and optional chains (ECMA-262, 12.3).
use Rattle.std.specs.Prelude.{Bool, true, false, not, ◌&&◌, ◌||◌, ◌⊎◌, if◌then◌else◌, List, [], ◌∷◌}
use mathlib.Core.Logic.{inl, inr}
use Rattle.esb_token.specs.declared.kind.Kind.{Kind}
use Rattle.esb_token.specs.declared.kind.Kind.TheVariants as k
use Rattle.esb_token.specs.declared.token.Token.{Token}
use Rattle.esb_token.specs.declared.goal.Goal.TheVariants as goal
use Rattle.esb_tree.specs.declared.classes.ClassElement.TheOpen.{Link-F}
use Rattle.esb_tree.specs.declared.classes.Class.{Class}
use Rattle.esb_tree.specs.declared.classes.ClassElement.{ClassElement}
use Rattle.esb_tree.specs.declared.classes.Heritage.{Heritage}
use Rattle.esb_tree.specs.declared.expressions.Expression.{Expression}
use Rattle.esb_tree.specs.declared.expressions.Link.{Link, out-Link}
use Rattle.esb_tree.specs.declared.expressions.Link.TheVariants as l
use Rattle.esb_tree.specs.declared.expressions.Operand.{Operand}
use Rattle.esb_tree.specs.declared.expressions.Substitution.{Substitution}
use Rattle.esb_tree.specs.declared.expressions.Substitutions.{Substitutions}
use Rattle.esb_tree.specs.declared.functions.ConciseBody.{ConciseBody}
use Rattle.esb_tree.specs.declared.functions.Function.{Function}
use Rattle.esb_tree.specs.declared.functions.Method.{Method}
use Rattle.esb_tree.specs.declared.patterns.Bracketed.{Bracketed}
use Rattle.esb_tree.specs.declared.patterns.Element.{Element}
use Rattle.esb_tree.specs.declared.patterns.Elements.{Elements}
use Rattle.esb_tree.specs.declared.patterns.NextElement.{NextElement}
use Rattle.esb_tree.specs.declared.patterns.PropertyName.{PropertyName}
use Rattle.esb_tree.specs.declared.statements.Block.{Block}
use Rattle.esb_tree.specs.declared.statements.CaseClause.{CaseClause}
use Rattle.esb_tree.specs.declared.statements.Declaration.{Declaration}
use Rattle.esb_tree.specs.declared.statements.Else.{Else}
use Rattle.esb_tree.specs.declared.statements.ElseIf.{ElseIf}
use Rattle.esb_tree.specs.declared.statements.Finalizer.{Finalizer}
use Rattle.esb_tree.specs.declared.statements.ForStart.{ForStart}
use Rattle.esb_tree.specs.declared.statements.Handler.{Handler}
use Rattle.esb_tree.specs.declared.statements.IfClause.{IfClause}
use Rattle.esb_tree.specs.declared.statements.MaybeExpression.{MaybeExpression}
use Rattle.esb_tree.specs.declared.statements.Statement.{Statement}
use Rattle.esb_grammar.specs.Edges.{is_optional}
use Rattle.esb_grammar.specs.Kinds.{is_identifier_name, begins_link, is_left_bracket}
use Rattle.esb_reader.specs.declared.node.Node.{Node}
use Rattle.esb_reader.specs.Places.{Text}
use Rattle.esb_reader.specs.Reader.{Reader, fail}
use Rattle.esb_reader.specs.Parts.{token, token_in, both, made, choice, many}
use Rattle.esb_operator_laws.specs.Forks.{fork}

abbrev pub is_dot : Kind → Bool
is_dot k.Dot = true
is_dot _ = false

abbrev pub is_left_parenthesis : Kind → Bool
is_left_parenthesis k.LeftParenthesis = true
is_left_parenthesis _ = false

abbrev pub is_whole : Kind → Bool
is_whole k.TemplateWhole = true
is_whole _ = false

abbrev pub is_head : Kind → Bool
is_head k.TemplateHead = true
is_head _ = false

-- what goes on with a MemberExpression, and where there may be calls also with a CallExpression and an OptionalExpression
abbrev pub begins_member : Kind → Bool
begins_member k.Dot = true
begins_member k.LeftBracket = true
begins_member k.TemplateWhole = true
begins_member k.TemplateHead = true
begins_member _ = false

abbrev pub begins_link_in : Bool → Kind → Bool
begins_link_in calls kind = if calls then begins_link kind else begins_member kind

-- ---- what is made of parts

abbrev pub make_dot : Token × Token → Link
make_dot p = l.Dot p.0 p.1

abbrev pub make_index : (Token × Expression) × Token → Link
make_index p = l.Index p.0.0 p.0.1 p.1

abbrev pub make_optional : Token × (((Token × Expression) × Token) ⊎ (Bracketed ⊎ Token)) → Link
make_optional (dot, inl p) = l.OptionalIndex dot p.0.0 p.0.1 p.1
make_optional (dot, inr (inl arguments)) = l.OptionalCall dot arguments
make_optional (dot, inr (inr name)) = l.OptionalDot dot name

-- ---- a template behind an optional link

abbrev pub template_layer : Link-F ClassElement Heritage Expression Link ConciseBody Element PropertyName CaseClause Else Finalizer ForStart Handler MaybeExpression Statement Class Operand Substitution Substitutions Function Method Bracketed Elements NextElement Block Declaration ElseIf IfClause → Bool
template_layer (Link-F.Tagged template) = true
template_layer (Link-F.TaggedTemplate template) = true
template_layer _ = false

unfoldable pub is_template : Link → Bool
is_template x = template_layer (out-Link x)

-- no template stands in an OptionalChain (12.3.9), which has begun or not
abbrev pub templates_fit : Bool → List Link → Bool
templates_fit optional [] = true
templates_fit optional (x ∷ xs) = not (optional && is_template x) && templates_fit (optional || is_optional x) xs

-- ---- the readers, of Arguments, templates and Expressions

module _ (text : Text) (arguments : Reader (Node Bracketed)) (template : Reader (Node Substitutions)) (values : Reader (Node Expression)) where
  abbrev pub names : Token → Bool
  names t = is_identifier_name t.kind

  unfoldable pub dot : Reader (Node Link)
  dot = made make_dot 0 (both (token text k.Dot) (token_in text goal.Div names))

  -- an Expression in brackets
  abbrev pub bracket : Reader (Node ((Token × Expression) × Token))
  bracket = both (both (token text k.LeftBracket) values) (token text k.RightBracket)

  unfoldable pub index : Reader (Node Link)
  index = made make_index 0 bracket

  unfoldable pub optional : Reader (Node Link)
  optional = made make_optional 0 (both (token text k.QuestionDot) (fork text (λ t. is_left_bracket t.kind) bracket (fork text (λ t. is_left_parenthesis t.kind) arguments (token_in text goal.Div names))))

  -- with calls and optional links
  unfoldable pub called : Bool → Reader (Node Link)
  called false = fail
  called true = choice text (λ t. is_left_parenthesis t.kind) (made l.Call 0 arguments) optional

  unfoldable pub link : Bool → Reader (Node Link)
  link calls =
      choice text (λ t. is_dot t.kind) dot
      (choice text (λ t. is_left_bracket t.kind) index
      (choice text (λ t. is_whole t.kind) (made l.Tagged 0 (token text k.TemplateWhole))
      (choice text (λ t. is_head t.kind) (made l.TaggedTemplate 0 template)
      (called calls))))

  abbrev pub goes_on : Bool → Token → Bool
  goes_on calls t = begins_link_in calls t.kind

  unfoldable pub links : Bool → Reader (Node (List Link))
  links calls = many text (goes_on calls) (link calls)
