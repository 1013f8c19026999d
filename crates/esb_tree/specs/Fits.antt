-- Whether at most so many nodes stand in one another.
use Rattle.std.specs.Prelude.{ℕ, Bool, nat_le}
use Rattle.esb_tree.specs.declared.classes.ClassElement.{ClassElement}
use Rattle.esb_tree.specs.declared.classes.Heritage.{Heritage}
use Rattle.esb_tree.specs.declared.expressions.Expression.{Expression}
use Rattle.esb_tree.specs.declared.expressions.Link.{Link}
use Rattle.esb_tree.specs.declared.functions.ConciseBody.{ConciseBody}
use Rattle.esb_tree.specs.declared.patterns.Element.{Element}
use Rattle.esb_tree.specs.declared.patterns.PropertyName.{PropertyName}
use Rattle.esb_tree.specs.declared.statements.CaseClause.{CaseClause}
use Rattle.esb_tree.specs.declared.statements.Else.{Else}
use Rattle.esb_tree.specs.declared.statements.Finalizer.{Finalizer}
use Rattle.esb_tree.specs.declared.statements.ForStart.{ForStart}
use Rattle.esb_tree.specs.declared.statements.Handler.{Handler}
use Rattle.esb_tree.specs.declared.statements.MaybeExpression.{MaybeExpression}
use Rattle.esb_tree.specs.declared.statements.Statement.{Statement}
use Rattle.esb_tree.specs.declared.classes.Class.{Class}
use Rattle.esb_tree.specs.declared.expressions.Operand.{Operand}
use Rattle.esb_tree.specs.declared.expressions.Substitution.{Substitution}
use Rattle.esb_tree.specs.declared.expressions.Substitutions.{Substitutions}
use Rattle.esb_tree.specs.declared.functions.Function.{Function}
use Rattle.esb_tree.specs.declared.functions.Method.{Method}
use Rattle.esb_tree.specs.declared.patterns.Bracketed.{Bracketed}
use Rattle.esb_tree.specs.declared.patterns.Elements.{Elements}
use Rattle.esb_tree.specs.declared.patterns.NextElement.{NextElement}
use Rattle.esb_tree.specs.declared.statements.Block.{Block}
use Rattle.esb_tree.specs.declared.statements.Declaration.{Declaration}
use Rattle.esb_tree.specs.declared.statements.ElseIf.{ElseIf}
use Rattle.esb_tree.specs.declared.statements.IfClause.{IfClause}
use Rattle.esb_tree.specs.Levels.{depth_of_class_element, depth_of_heritage, depth_of_expression, depth_of_link, depth_of_concise_body, depth_of_element, depth_of_property_name, depth_of_case_clause, depth_of_else, depth_of_finalizer, depth_of_for_start, depth_of_handler, depth_of_maybe_expression, depth_of_statement, depth_of_class, depth_of_operand, depth_of_substitution, depth_of_substitutions, depth_of_function, depth_of_method, depth_of_bracketed, depth_of_elements, depth_of_next_element, depth_of_block, depth_of_declaration, depth_of_else_if, depth_of_if_clause}

unfoldable pub fits_class_element : ℕ → ClassElement → Bool
fits_class_element n x = nat_le (depth_of_class_element x) n

unfoldable pub fits_heritage : ℕ → Heritage → Bool
fits_heritage n x = nat_le (depth_of_heritage x) n

unfoldable pub fits_expression : ℕ → Expression → Bool
fits_expression n x = nat_le (depth_of_expression x) n

unfoldable pub fits_link : ℕ → Link → Bool
fits_link n x = nat_le (depth_of_link x) n

unfoldable pub fits_concise_body : ℕ → ConciseBody → Bool
fits_concise_body n x = nat_le (depth_of_concise_body x) n

unfoldable pub fits_element : ℕ → Element → Bool
fits_element n x = nat_le (depth_of_element x) n

unfoldable pub fits_property_name : ℕ → PropertyName → Bool
fits_property_name n x = nat_le (depth_of_property_name x) n

unfoldable pub fits_case_clause : ℕ → CaseClause → Bool
fits_case_clause n x = nat_le (depth_of_case_clause x) n

unfoldable pub fits_else : ℕ → Else → Bool
fits_else n x = nat_le (depth_of_else x) n

unfoldable pub fits_finalizer : ℕ → Finalizer → Bool
fits_finalizer n x = nat_le (depth_of_finalizer x) n

unfoldable pub fits_for_start : ℕ → ForStart → Bool
fits_for_start n x = nat_le (depth_of_for_start x) n

unfoldable pub fits_handler : ℕ → Handler → Bool
fits_handler n x = nat_le (depth_of_handler x) n

unfoldable pub fits_maybe_expression : ℕ → MaybeExpression → Bool
fits_maybe_expression n x = nat_le (depth_of_maybe_expression x) n

unfoldable pub fits_statement : ℕ → Statement → Bool
fits_statement n x = nat_le (depth_of_statement x) n

unfoldable pub fits_class : ℕ → Class → Bool
fits_class n x = nat_le (depth_of_class x) n

unfoldable pub fits_operand : ℕ → Operand → Bool
fits_operand n x = nat_le (depth_of_operand x) n

unfoldable pub fits_substitution : ℕ → Substitution → Bool
fits_substitution n x = nat_le (depth_of_substitution x) n

unfoldable pub fits_substitutions : ℕ → Substitutions → Bool
fits_substitutions n x = nat_le (depth_of_substitutions x) n

unfoldable pub fits_function : ℕ → Function → Bool
fits_function n x = nat_le (depth_of_function x) n

unfoldable pub fits_method : ℕ → Method → Bool
fits_method n x = nat_le (depth_of_method x) n

unfoldable pub fits_bracketed : ℕ → Bracketed → Bool
fits_bracketed n x = nat_le (depth_of_bracketed x) n

unfoldable pub fits_elements : ℕ → Elements → Bool
fits_elements n x = nat_le (depth_of_elements x) n

unfoldable pub fits_next_element : ℕ → NextElement → Bool
fits_next_element n x = nat_le (depth_of_next_element x) n

unfoldable pub fits_block : ℕ → Block → Bool
fits_block n x = nat_le (depth_of_block x) n

unfoldable pub fits_declaration : ℕ → Declaration → Bool
fits_declaration n x = nat_le (depth_of_declaration x) n

unfoldable pub fits_else_if : ℕ → ElseIf → Bool
fits_else_if n x = nat_le (depth_of_else_if x) n

unfoldable pub fits_if_clause : ℕ → IfClause → Bool
fits_if_clause n x = nat_le (depth_of_if_clause x) n
