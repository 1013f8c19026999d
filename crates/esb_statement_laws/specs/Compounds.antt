-- `switch` and `try` (ECMA-262, 13.12 and 13.15), and declarations of functions and classes.
use Rattle.std.specs.Prelude.{ℕ, Bool, true, false, not, ◌&&◌, ◌||◌, if◌then◌else◌, List, [], ◌∷◌}
use Rattle.esb_token.specs.declared.kind.Kind.TheVariants as k
use Rattle.esb_token.specs.declared.token.Token.{Token}
use Rattle.esb_tree.specs.declared.classes.ClassElement.{ClassElement}
use Rattle.esb_tree.specs.declared.classes.ClassElement.TheOpen.{CaseClause-F, Handler-F, Finalizer-F}
use Rattle.esb_tree.specs.declared.classes.Class.{Class}
use Rattle.esb_tree.specs.declared.classes.Heritage.{Heritage}
use Rattle.esb_tree.specs.declared.expressions.Expression.{Expression}
use Rattle.esb_tree.specs.declared.expressions.Link.{Link}
use Rattle.esb_tree.specs.declared.expressions.Operand.{Operand}
use Rattle.esb_tree.specs.declared.expressions.Substitution.{Substitution}
use Rattle.esb_tree.specs.declared.expressions.Substitutions.{Substitutions}
use Rattle.esb_tree.specs.declared.functions.ConciseBody.{ConciseBody}
use Rattle.esb_tree.specs.declared.functions.Function.{Function}
use Rattle.esb_tree.specs.declared.functions.Method.{Method}
use Rattle.esb_tree.specs.declared.patterns.Bracketed.{Bracketed}
use Rattle.esb_tree.specs.declared.patterns.Element.{Element}
use Rattle.esb_tree.specs.declared.patterns.Elements.{Elements}
use Rattle.esb_tree.specs.declared.patterns.NextElement.{NextElement}
use Rattle.esb_tree.specs.declared.patterns.PropertyName.{PropertyName}
use Rattle.esb_tree.specs.declared.statements.Block.{Block}
use Rattle.esb_tree.specs.declared.statements.CaseClause.{CaseClause, out-CaseClause}
use Rattle.esb_tree.specs.declared.statements.CaseClause.TheVariants as cc
use Rattle.esb_tree.specs.declared.statements.Declaration.{Declaration}
use Rattle.esb_tree.specs.declared.statements.Else.{Else}
use Rattle.esb_tree.specs.declared.statements.ElseIf.{ElseIf}
use Rattle.esb_tree.specs.declared.statements.Finalizer.{Finalizer, out-Finalizer}
use Rattle.esb_tree.specs.declared.statements.Finalizer.TheVariants as fi
use Rattle.esb_tree.specs.declared.statements.ForStart.{ForStart}
use Rattle.esb_tree.specs.declared.statements.Handler.{Handler, out-Handler}
use Rattle.esb_tree.specs.declared.statements.Handler.TheVariants as ha
use Rattle.esb_tree.specs.declared.statements.IfClause.{IfClause}
use Rattle.esb_tree.specs.declared.statements.MaybeExpression.{MaybeExpression}
use Rattle.esb_tree.specs.declared.statements.Statement.{Statement}
use Rattle.esb_tree.specs.declared.statements.Statement.TheVariants as s
use Rattle.esb_grammar.specs.declared.context.Context.{Context}
use Rattle.esb_grammar.specs.Contexts.{inside}
use Rattle.esb_reader.specs.declared.node.Node.{Node}
use Rattle.esb_reader.specs.Places.{Text}
use Rattle.esb_reader.specs.Reader.{Reader}
use Rattle.esb_reader.specs.Parts.{behind, token, both, above, such, choice, empty, many}
use Rattle.esb_statement_laws.specs.Sequels.{by_place}
use Rattle.esb_statement_laws.specs.Marks.{is_case, is_clause, is_catch, is_finally, is_parenthesis}
use Rattle.esb_statement_laws.specs.Handed.{Handed}
use Rattle.esb_statement_laws.specs.Statements.{block, headed}

-- ---- nodes of their parts

abbrev pub make_case : Token × (Expression × (Token × List Statement)) → CaseClause
make_case p = cc.Case p.0 p.1.0 p.1.1.0 p.1.1.1

abbrev pub make_default : Token × (Token × List Statement) → CaseClause
make_default p = cc.Default p.0 p.1.0 p.1.1

abbrev pub make_switch : Token × (Token × (Expression × (Token × (Token × (List CaseClause × Token))))) → Statement
make_switch p = s.Switch p.0 p.1.0 p.1.1.0 p.1.1.1.0 p.1.1.1.1.0 p.1.1.1.1.1.0 p.1.1.1.1.1.1

abbrev pub make_catch : Token × Block → Handler
make_catch p = ha.Catch p.0 p.1

abbrev pub make_catch_parameter : Token × (Token × (Expression × (Token × Block))) → Handler
make_catch_parameter p = ha.CatchParameter p.0 p.1.0 p.1.1.0 p.1.1.1.0 p.1.1.1.1

abbrev pub make_finally : Token × Block → Finalizer
make_finally p = fi.Finally p.0 p.1

abbrev pub make_try : Token × (Block × (Handler × Finalizer)) → Statement
make_try p = s.Try p.0 p.1.0 p.1.1.0 p.1.1.1

-- ---- tests of nodes

abbrev pub default_layer : CaseClause-F ClassElement Heritage Expression Link ConciseBody Element PropertyName CaseClause Else Finalizer ForStart Handler MaybeExpression Statement Class Operand Substitution Substitutions Function Method Bracketed Elements NextElement Block Declaration ElseIf IfClause → Bool
default_layer (CaseClause-F.Case word x colon body) = false
default_layer (CaseClause-F.Default word colon body) = true

unfoldable pub is_default : CaseClause → Bool
is_default x = default_layer (out-CaseClause x)

abbrev pub no_default : List CaseClause → Bool
no_default [] = true
no_default (x ∷ xs) = not (is_default x) && no_default xs

-- a DefaultClause comes once or not at all
abbrev pub one_default : List CaseClause → Bool
one_default [] = true
one_default (x ∷ xs) = if is_default x then no_default xs else one_default xs

abbrev pub catch_layer : Handler-F ClassElement Heritage Expression Link ConciseBody Element PropertyName CaseClause Else Finalizer ForStart Handler MaybeExpression Statement Class Operand Substitution Substitutions Function Method Bracketed Elements NextElement Block Declaration ElseIf IfClause → Bool
catch_layer (Handler-F.NoHandler) = false
catch_layer _ = true

unfoldable pub has_catch : Handler → Bool
has_catch x = catch_layer (out-Handler x)

abbrev pub finally_layer : Finalizer-F ClassElement Heritage Expression Link ConciseBody Element PropertyName CaseClause Else Finalizer ForStart Handler MaybeExpression Statement Class Operand Substitution Substitutions Function Method Bracketed Elements NextElement Block Declaration ElseIf IfClause → Bool
finally_layer (Finalizer-F.NoFinalizer) = false
finally_layer _ = true

unfoldable pub has_finally : Finalizer → Bool
has_finally x = finally_layer (out-Finalizer x)

-- a TryStatement has a Catch or a Finally
abbrev pub is_handled : Block × (Handler × Finalizer) → Bool
is_handled p = has_catch p.1.0 || has_finally p.1.1

-- ---- the readers

module _ (text : Text) (c : Context) (n : ℕ) (r : Handed) where
  -- CaseClause and DefaultClause (13.12)
  unfoldable pub case_clause : Reader (Node CaseClause)
  case_clause = above n make_case (both (token text k.Case) (both (r.expression true (inside c)) (both (token text k.Colon) (r.items c))))

  unfoldable pub default_clause : Reader (Node CaseClause)
  default_clause = above n make_default (both (token text k.Default) (both (token text k.Colon) (r.items c)))

  unfoldable pub clause : Reader (Node CaseClause)
  clause = choice text (λ t. is_case t.kind) case_clause default_clause

  unfoldable pub clauses : Reader (Node (List CaseClause))
  clauses = such (many text (λ t. is_clause t.kind) clause) one_default

  -- SwitchStatement (13.12)
  unfoldable pub switch_statement : Reader (Node Statement)
  switch_statement = above n make_switch (both (token text k.Switch) (headed text c n r (both (token text k.LeftBrace) (both clauses (token text k.RightBrace)))))

  -- Catch (13.15), with a parameter where a parenthesis follows
  unfoldable pub catch_alone : Reader (Node Handler)
  catch_alone = above n make_catch (both (token text k.Catch) (block text c n r))

  unfoldable pub catch_parameter : Reader (Node Handler)
  catch_parameter = above n make_catch_parameter (both (token text k.Catch) (both (token text k.LeftParenthesis) (both (r.target c) (both (token text k.RightParenthesis) (block text c n r)))))

  unfoldable pub handler : Reader (Node Handler)
  handler = choice text (λ t. is_catch t.kind) (by_place (λ i. is_parenthesis (behind text (behind text i).end).kind) catch_parameter catch_alone) (empty ha.NoHandler)

  -- Finally (13.15)
  unfoldable pub finalizer : Reader (Node Finalizer)
  finalizer = choice text (λ t. is_finally t.kind) (above n make_finally (both (token text k.Finally) (block text c n r))) (empty fi.NoFinalizer)

  -- TryStatement (13.15)
  unfoldable pub try_statement : Reader (Node Statement)
  try_statement = above n make_try (both (token text k.Try) (such (both (block text c n r) (both handler finalizer)) is_handled))

  -- declarations of functions (14.1, 14.4, 14.5, 14.7) and classes (14.6)
  unfoldable pub function_declaration : Reader (Node Statement)
  function_declaration = above n s.FunctionDeclaration r.function

  unfoldable pub class_declaration : Reader (Node Statement)
  class_declaration = above n s.ClassDeclaration (r.class c)
