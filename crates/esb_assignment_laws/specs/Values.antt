-- What AssignmentExpressions are on the outside, and which tokens end them.
use Rattle.std.specs.Prelude.{Bool, true, false, not, ◌&&◌, ◌||◌, if◌then◌else◌}
use Rattle.esb_token.specs.declared.kind.Kind.{Kind}
use Rattle.esb_token.specs.declared.kind.Kind.TheVariants as k
use Rattle.esb_token.specs.declared.token.Token.{Token}
use Rattle.esb_tree.specs.declared.classes.ClassElement.TheOpen.{Expression-F}
use Rattle.esb_tree.specs.declared.classes.Class.{Class}
use Rattle.esb_tree.specs.declared.classes.ClassElement.{ClassElement}
use Rattle.esb_tree.specs.declared.classes.Heritage.{Heritage}
use Rattle.esb_tree.specs.declared.expressions.Expression.{Expression, out-Expression}
use Rattle.esb_tree.specs.declared.expressions.Link.{Link}
use Rattle.esb_tree.specs.declared.expressions.Operand.{Operand}
use Rattle.esb_tree.specs.declared.expressions.Substitution.{Substitution}
use Rattle.esb_tree.specs.declared.expressions.Substitutions.{Substitutions}
use Rattle.esb_tree.specs.declared.functions.ConciseBody.{ConciseBody}
use Rattle.esb_tree.specs.declared.functions.Function.{Function}
use Rattle.esb_tree.specs.declared.functions.Method.{Method}
use Rattle.esb_tree.specs.declared.patterns.Bracketed.{Bracketed}
use Rattle.esb_tree.specs.declared.patterns.Element.{Element}
use Rattle.esb_tree.specs.declared.patterns.Elements.{Elements}
use Rattle.esb_tree.specs.declared.patterns.NextElement.{NextElement}
use Rattle.esb_tree.specs.declared.patterns.PropertyName.{PropertyName}
use Rattle.esb_tree.specs.declared.statements.Block.{Block}
use Rattle.esb_tree.specs.declared.statements.CaseClause.{CaseClause}
use Rattle.esb_tree.specs.declared.statements.Declaration.{Declaration}
use Rattle.esb_tree.specs.declared.statements.Else.{Else}
use Rattle.esb_tree.specs.declared.statements.ElseIf.{ElseIf}
use Rattle.esb_tree.specs.declared.statements.Finalizer.{Finalizer}
use Rattle.esb_tree.specs.declared.statements.ForStart.{ForStart}
use Rattle.esb_tree.specs.declared.statements.Handler.{Handler}
use Rattle.esb_tree.specs.declared.statements.IfClause.{IfClause}
use Rattle.esb_tree.specs.declared.statements.MaybeExpression.{MaybeExpression}
use Rattle.esb_tree.specs.declared.statements.Statement.{Statement}
use Rattle.esb_tree.specs.Operators.{is_assignment}
use Rattle.esb_grammar.specs.declared.context.Context.{Context}
use Rattle.esb_grammar.specs.Edges.{ends_assignment}
use Rattle.esb_grammar.specs.Grammar.{loosest}
use Rattle.esb_grammar.specs.Kinds.{is_binding, is_star}
use Rattle.esb_operator_laws.specs.Postfix.{ends_postfix}
use Rattle.esb_operator_laws.specs.Ends.{left_goes_on, begins_postfix, is_within, ends_binary}
use Rattle.esb_tree.specs.Operators.{level_of}
use Rattle.esb_first_tokens.specs.First.{shows, begins_value}

abbrev pub is_question : Kind → Bool
is_question k.Question = true
is_question _ = false

abbrev pub is_colon : Kind → Bool
is_colon k.Colon = true
is_colon _ = false

abbrev pub is_arrow : Kind → Bool
is_arrow k.Arrow = true
is_arrow _ = false

-- ---- the outside

abbrev pub left_layer : Expression-F ClassElement Heritage Expression Link ConciseBody Element PropertyName CaseClause Else Finalizer ForStart Handler MaybeExpression Statement Class Operand Substitution Substitutions Function Method Bracketed Elements NextElement Block Declaration ElseIf IfClause → Bool
left_layer (Expression-F.PrefixUpdate operator x) = false
left_layer (Expression-F.PostfixUpdate x operator) = false
left_layer (Expression-F.Unary operator x) = false
left_layer (Expression-F.Await word x) = false
left_layer (Expression-F.Binary first rest) = false
left_layer (Expression-F.Conditional test question x colon other) = false
left_layer (Expression-F.Assignment target operator x) = false
left_layer (Expression-F.Arrow parameters arrow body) = false
left_layer (Expression-F.AsyncArrow word name arrow body) = false
left_layer (Expression-F.Yield word) = false
left_layer (Expression-F.YieldValue word x) = false
left_layer (Expression-F.YieldEach word star x) = false
left_layer _ = true

-- what may be assigned to: a LeftHandSideExpression (12.15)
unfoldable pub is_left : Expression → Bool
is_left x = left_layer (out-Expression x)

abbrev pub choice_layer : Expression-F ClassElement Heritage Expression Link ConciseBody Element PropertyName CaseClause Else Finalizer ForStart Handler MaybeExpression Statement Class Operand Substitution Substitutions Function Method Bracketed Elements NextElement Block Declaration ElseIf IfClause → Bool
choice_layer (Expression-F.Conditional test question x colon other) = true
choice_layer _ = false

-- a ConditionalExpression with its two branches (12.14)
unfoldable pub is_choice : Expression → Bool
is_choice x = choice_layer (out-Expression x)

-- ---- what ends them

-- What goes on with an AssignmentExpression besides links and operators between operands. A name on the line may be that of the
-- parameter behind `async`.
abbrev pub value_goes_on : Token → Bool
value_goes_on t = is_question t.kind || (is_assignment t.kind || (not t.after_line && (is_arrow t.kind || is_binding t.kind)))

abbrev pub anywhere : Context
anywhere = record { has_in = true; has_yield = true; has_await = true }

-- what a `yield` takes on its line: a value, or `*` and a value
abbrev pub goes_on_line : Token → Bool
goes_on_line t = not t.after_line && (is_star t.kind || shows (begins_value anywhere) t.kind)

-- by how an expression ends: with the block of an arrow function or a `yield` alone, with `++` or `--`, or neither
abbrev pub ends_by : Context → Bool → Bool → Token → Bool
ends_by c alone postfix t =
    if alone then not (goes_on_line t)
    else ((postfix || not (left_goes_on t || begins_postfix t)) && not (is_within loosest (level_of c.has_in t.kind))) && not (value_goes_on t)

-- What ends an AssignmentExpression.
abbrev pub ends_value : Context → Expression → Token → Bool
ends_value c x t = ends_by c (ends_assignment x) (ends_postfix x) t

-- What ends a ConditionalExpression: where it is one without branches, operators of assignments end it too.
abbrev pub ends_choice : Context → Expression → Token → Bool
ends_choice c x t = if is_choice x then ends_value c x t else (ends_binary c loosest x t && not (is_question t.kind))
