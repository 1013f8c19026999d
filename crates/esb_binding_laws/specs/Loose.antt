-- What a declaration binds, and maybe its value (ECMA-262, 13.3.1, 13.3.2, 13.7.5).
use Rattle.std.specs.Prelude.{ℕ, Bool, not}
use Rattle.esb_token.specs.declared.token.Token.{Token}
use Rattle.esb_tree.specs.declared.classes.Class.{Class}
use Rattle.esb_tree.specs.declared.classes.ClassElement.TheOpen.{Expression-F}
use Rattle.esb_tree.specs.declared.classes.ClassElement.{ClassElement}
use Rattle.esb_tree.specs.declared.classes.Heritage.{Heritage}
use Rattle.esb_tree.specs.declared.expressions.Expression.{Expression, out-Expression}
use Rattle.esb_tree.specs.declared.expressions.Link.{Link}
use Rattle.esb_tree.specs.declared.expressions.Operand.{Operand}
use Rattle.esb_tree.specs.declared.expressions.Substitution.{Substitution}
use Rattle.esb_tree.specs.declared.expressions.Substitutions.{Substitutions}
use Rattle.esb_tree.specs.declared.functions.ConciseBody.{ConciseBody}
use Rattle.esb_tree.specs.declared.functions.Function.{Function}
use Rattle.esb_tree.specs.declared.functions.Method.{Method}
use Rattle.esb_tree.specs.declared.patterns.Bracketed.{Bracketed}
use Rattle.esb_tree.specs.declared.patterns.Element.{Element}
use Rattle.esb_tree.specs.declared.patterns.Elements.{Elements}
use Rattle.esb_tree.specs.declared.patterns.NextElement.{NextElement}
use Rattle.esb_tree.specs.declared.patterns.PropertyName.{PropertyName}
use Rattle.esb_tree.specs.declared.statements.Block.{Block}
use Rattle.esb_tree.specs.declared.statements.CaseClause.{CaseClause}
use Rattle.esb_tree.specs.declared.statements.Declaration.{Declaration}
use Rattle.esb_tree.specs.declared.statements.Else.{Else}
use Rattle.esb_tree.specs.declared.statements.ElseIf.{ElseIf}
use Rattle.esb_tree.specs.declared.statements.Finalizer.{Finalizer}
use Rattle.esb_tree.specs.declared.statements.ForStart.{ForStart}
use Rattle.esb_tree.specs.declared.statements.Handler.{Handler}
use Rattle.esb_tree.specs.declared.statements.IfClause.{IfClause}
use Rattle.esb_tree.specs.declared.statements.MaybeExpression.{MaybeExpression}
use Rattle.esb_tree.specs.declared.statements.Statement.{Statement}
use Rattle.esb_grammar.specs.declared.context.Context.{Context}
use Rattle.esb_grammar.specs.Kinds.{is_assign}
use Rattle.esb_reader.specs.declared.node.Node.{Node}
use Rattle.esb_reader.specs.Places.{Text}
use Rattle.esb_reader.specs.Reader.{Reader}
use Rattle.esb_literal_laws.specs.Forks.{fork, reads_before}
use Rattle.esb_literal_laws.specs.Bindings.{target_below, with_value}

-- What ends a binding: what ends its value, and where it has none, all but `=`.
abbrev pub loose_layer : (Expression → Token → Bool) → Token → Expression-F ClassElement Heritage Expression Link ConciseBody Element PropertyName CaseClause Else Finalizer ForStart Handler MaybeExpression Statement Class Operand Substitution Substitutions Function Method Bracketed Elements NextElement Block Declaration ElseIf IfClause → Bool
loose_layer stops t (Expression-F.Assignment target operator x) = stops x t
loose_layer stops t _ = not (is_assign t.kind)

unfoldable pub loose_stops : (Expression → Token → Bool) → Expression → Token → Bool
loose_stops stops x t = loose_layer stops t (out-Expression x)

-- what is bound within the levels below n, and its value where `=` stands behind it
unfoldable pub loose : Text → (Context → ℕ → Reader (Node Expression)) → Context → ℕ → Reader (Node Expression)
loose text values c n = fork (reads_before text (λ t. is_assign t.kind) (target_below text values c n)) (with_value text values c n) (target_below text values c n)
