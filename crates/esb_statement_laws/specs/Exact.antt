-- What is handed in reads exactly.
use Rattle.std.specs.Prelude.{◌≡◌, ℕ, Bool, true, false}
use Rattle.esb_tree.specs.declared.classes.ClassElement.{ClassElement}
use Rattle.esb_tree.specs.declared.classes.ClassElement.TheOpen.{Statement-F}
use Rattle.esb_tree.specs.declared.classes.Class.{Class}
use Rattle.esb_tree.specs.declared.classes.Heritage.{Heritage}
use Rattle.esb_tree.specs.declared.expressions.Expression.{Expression}
use Rattle.esb_tree.specs.declared.expressions.Link.{Link}
use Rattle.esb_tree.specs.declared.expressions.Operand.{Operand}
use Rattle.esb_tree.specs.declared.expressions.Substitution.{Substitution}
use Rattle.esb_tree.specs.declared.expressions.Substitutions.{Substitutions}
use Rattle.esb_tree.specs.declared.functions.ConciseBody.{ConciseBody}
use Rattle.esb_tree.specs.declared.functions.Function.{Function}
use Rattle.esb_tree.specs.declared.functions.Method.{Method}
use Rattle.esb_tree.specs.declared.patterns.Bracketed.{Bracketed}
use Rattle.esb_tree.specs.declared.patterns.Element.{Element}
use Rattle.esb_tree.specs.declared.patterns.Elements.{Elements}
use Rattle.esb_tree.specs.declared.patterns.NextElement.{NextElement}
use Rattle.esb_tree.specs.declared.patterns.PropertyName.{PropertyName}
use Rattle.esb_tree.specs.declared.statements.Block.{Block}
use Rattle.esb_tree.specs.declared.statements.CaseClause.{CaseClause}
use Rattle.esb_tree.specs.declared.statements.Declaration.{Declaration}
use Rattle.esb_tree.specs.declared.statements.Else.{Else}
use Rattle.esb_tree.specs.declared.statements.ElseIf.{ElseIf}
use Rattle.esb_tree.specs.declared.statements.Finalizer.{Finalizer}
use Rattle.esb_tree.specs.declared.statements.ForStart.{ForStart}
use Rattle.esb_tree.specs.declared.statements.Handler.{Handler}
use Rattle.esb_tree.specs.declared.statements.IfClause.{IfClause}
use Rattle.esb_tree.specs.declared.statements.MaybeExpression.{MaybeExpression}
use Rattle.esb_tree.specs.declared.statements.Statement.{Statement, out-Statement}
use Rattle.esb_grammar.specs.declared.context.Context.{Context}
use Rattle.esb_grammar.specs.Contexts.{inside}
use Rattle.esb_grammar.specs.Grammar.{IsExpression, IsTarget, IsFunction, IsClass, IsItem, IsStatement}
use Rattle.esb_reader.specs.Places.{Text}
use Rattle.esb_reader.specs.Stands.{Rule, row}
use Rattle.esb_statement_laws.specs.Marks.{ends_items}
use Rattle.esb_statement_laws.specs.Handed.{Handed, expressions, statements, functions, classes, ReadsExpressions, ReadsStatements}
use Rattle.esb_statement_laws.specs.Declarations.{ReadsBindings}
use Rattle.esb_statement_laws.specs.Loops.{ReadsHeads}

abbrev pub loop_layer : Statement-F ClassElement Heritage Expression Link ConciseBody Element PropertyName CaseClause Else Finalizer ForStart Handler MaybeExpression Statement Class Operand Substitution Substitutions Function Method Bracketed Elements NextElement Block Declaration ElseIf IfClause → Bool
loop_layer (Statement-F.For word begin start first test second step ending body) = true
loop_layer (Statement-F.ForEach word await_word begin start middle x ending body) = true
loop_layer _ = false

-- a statement that begins with `for`
unfoldable pub is_loop : Statement → Bool
is_loop x = loop_layer (out-Statement x)

-- statements with `for`
abbrev pub IsLoop : Text → Context → Statement → Type 0
IsLoop text c x = IsStatement text c x × (is_loop x ≡ true)

-- What stands in statements is read exactly, within n levels.
pub record ExactParts (text : Text) (c : Context) (n : ℕ) (r : Handed) : Type 0 where
  pub values : ReadsExpressions text (IsExpression text (inside c)) n (r.expression true (inside c))
  pub targets : Rule text (expressions (IsTarget text c)) n n (λ _ _. true) (r.target c)
  pub bindings : ReadsBindings text c n (r.binding c)
  pub heads : ReadsHeads text c n r
  pub functions_read : Rule text (functions (IsFunction text true)) n n (λ _ _. true) r.function
  pub classes_read : Rule text (classes (IsClass text true c)) n n (λ _ _. true) (r.class c)

-- and so are statements, and lists of them, one level down
pub record Exact (text : Text) (c : Context) (n : ℕ) (r : Handed) : Type 0 where
  pub parts : ExactParts text c n r
  pub lists : Rule text (row (statements (IsItem text c))) n n (λ _ t. ends_items t.kind) (r.items c)
  pub bodies : ReadsStatements text (IsStatement text c) n (r.statement c)
