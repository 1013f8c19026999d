use Rattle.std.proofs.Common.{sym}
use Rattle.std.specs.List.{flat_map}
use Rattle.esb_tree.specs.Trees.{completed}
use Rattle.esb_tree.specs.Yields as spec
use Rattle.esb_tree.proofs.Adding.{adds_none, adds_then, adds_is, adds_of, adds_next, adds_all}
use Rattle.esb_tree.proofs.TokenLines.{tokens_is_ClassMethod, tokens_is_EmptyElement, tokens_is_NoHeritage, tokens_is_Extends, tokens_is_Primary, tokens_is_MetaProperty, tokens_is_ArrayLiteral, tokens_is_ObjectLiteral, tokens_is_Parenthesized, tokens_is_TemplateLiteral, tokens_is_FunctionExpression, tokens_is_ClassExpression, tokens_is_Member, tokens_is_New, tokens_is_NewPlain, tokens_is_ImportCall, tokens_is_PrefixUpdate, tokens_is_PostfixUpdate, tokens_is_Unary, tokens_is_Await, tokens_is_Binary, tokens_is_Conditional, tokens_is_Assignment, tokens_is_Arrow, tokens_is_AsyncArrow, tokens_is_Yield, tokens_is_YieldValue, tokens_is_YieldEach, tokens_is_Dot, tokens_is_Index, tokens_is_Call, tokens_is_Tagged, tokens_is_TaggedTemplate, tokens_is_OptionalDot, tokens_is_OptionalIndex, tokens_is_OptionalCall, tokens_is_ConciseValue, tokens_is_ConciseBlock, tokens_is_Hole, tokens_is_Value, tokens_is_Spread, tokens_is_Shorthand, tokens_is_Initialized, tokens_is_Property, tokens_is_MethodProperty, tokens_is_Named, tokens_is_Computed, tokens_is_Case, tokens_is_Default, tokens_is_NoElse, tokens_is_Otherwise, tokens_is_NoFinalizer, tokens_is_Finally, tokens_is_NoStart, tokens_is_StartExpression, tokens_is_StartDeclaration, tokens_is_NoHandler, tokens_is_Catch, tokens_is_CatchParameter, tokens_is_Absent, tokens_is_Present, tokens_is_BlockStatement, tokens_is_Variables, tokens_is_Empty, tokens_is_ExpressionStatement, tokens_is_If, tokens_is_DoWhile, tokens_is_While, tokens_is_For, tokens_is_ForEach, tokens_is_Continue, tokens_is_Break, tokens_is_Return, tokens_is_Switch, tokens_is_Labelled, tokens_is_Throw, tokens_is_Try, tokens_is_Debugger, tokens_is_FunctionDeclaration, tokens_is_ClassDeclaration, tokens_at_Class, tokens_at_Operand, tokens_at_Substitution, tokens_at_Substitutions, tokens_at_Function, tokens_at_Method, tokens_at_Bracketed, tokens_at_Elements, tokens_at_NextElement, tokens_at_Block, tokens_at_Declaration, tokens_at_ElseIf, tokens_at_IfClause}
use Rattle.esb_tree.proofs.tokens.+tokens.Goals as goal

pub put_class_element-returns-in-ClassMethod : goal.put_class_element-returns-in-ClassMethod
put_class_element-returns-in-ClassMethod t c = adds_is _ _ _ _ (adds_then _ _ _ _ _ c.put_maybe.ensures c.put_method.ensures) (tokens_is_ClassMethod _ _ _ _ c.in-ClassMethod.is)

pub put_class_element-returns-in-EmptyElement : goal.put_class_element-returns-in-EmptyElement
put_class_element-returns-in-EmptyElement t c = adds_is _ _ _ _ c.put.ensures (tokens_is_EmptyElement _ _ _ c.in-EmptyElement.is)

pub put_heritage-returns-in-NoHeritage : goal.put_heritage-returns-in-NoHeritage
put_heritage-returns-in-NoHeritage t c = adds_is _ _ _ _ (adds_none _) (tokens_is_NoHeritage _ _ c.in-NoHeritage.is)

pub put_heritage-returns-in-Extends : goal.put_heritage-returns-in-Extends
put_heritage-returns-in-Extends t c = adds_is _ _ _ _ (adds_then _ _ _ _ _ c.put.ensures c.put_expression.ensures) (tokens_is_Extends _ _ _ _ c.in-Extends.is)

pub put_expression-returns-in-Primary : goal.put_expression-returns-in-Primary
put_expression-returns-in-Primary t c = adds_is _ _ _ _ c.put.ensures (tokens_is_Primary _ _ _ c.in-Primary.is)

pub put_expression-returns-in-MetaProperty : goal.put_expression-returns-in-MetaProperty
put_expression-returns-in-MetaProperty t c = adds_is _ _ _ _ (adds_then _ _ _ _ _ c.put-in-MetaProperty.ensures (adds_then _ _ _ _ _ c.put-in-MetaProperty-2.ensures c.put-in-MetaProperty-3.ensures)) (tokens_is_MetaProperty _ _ _ _ _ c.in-MetaProperty.is)

pub put_expression-returns-in-ArrayLiteral : goal.put_expression-returns-in-ArrayLiteral
put_expression-returns-in-ArrayLiteral t c = adds_is _ _ _ _ (adds_of (spec.tokens_of_bracketed completed) _ _ _ _ c.get.ensures c.put_bracketed.ensures) (tokens_is_ArrayLiteral _ _ _ c.in-ArrayLiteral.is)

pub put_expression-returns-in-ObjectLiteral : goal.put_expression-returns-in-ObjectLiteral
put_expression-returns-in-ObjectLiteral t c = adds_is _ _ _ _ (adds_of (spec.tokens_of_bracketed completed) _ _ _ _ c.get-in-ObjectLiteral.ensures c.put_bracketed-in-ObjectLiteral.ensures) (tokens_is_ObjectLiteral _ _ _ c.in-ObjectLiteral.is)

pub put_expression-returns-in-Parenthesized : goal.put_expression-returns-in-Parenthesized
put_expression-returns-in-Parenthesized t c = adds_is _ _ _ _ (adds_of (spec.tokens_of_bracketed completed) _ _ _ _ c.get-in-Parenthesized.ensures c.put_bracketed-in-Parenthesized.ensures) (tokens_is_Parenthesized _ _ _ c.in-Parenthesized.is)

pub put_expression-returns-in-TemplateLiteral : goal.put_expression-returns-in-TemplateLiteral
put_expression-returns-in-TemplateLiteral t c = adds_is _ _ _ _ (adds_of (spec.tokens_of_substitutions completed) _ _ _ _ c.get-in-TemplateLiteral.ensures c.put_substitutions.ensures) (tokens_is_TemplateLiteral _ _ _ c.in-TemplateLiteral.is)

pub put_expression-returns-in-FunctionExpression : goal.put_expression-returns-in-FunctionExpression
put_expression-returns-in-FunctionExpression t c = adds_is _ _ _ _ (adds_of (spec.tokens_of_function completed) _ _ _ _ c.get-in-FunctionExpression.ensures c.put_function.ensures) (tokens_is_FunctionExpression _ _ _ c.in-FunctionExpression.is)

pub put_expression-returns-in-ClassExpression : goal.put_expression-returns-in-ClassExpression
put_expression-returns-in-ClassExpression t c = adds_is _ _ _ _ (adds_of (spec.tokens_of_class completed) _ _ _ _ c.get-in-ClassExpression.ensures c.put_class.ensures) (tokens_is_ClassExpression _ _ _ c.in-ClassExpression.is)

pub put_expression-returns-in-Member : goal.put_expression-returns-in-Member
put_expression-returns-in-Member t c = adds_is _ _ _ _ (adds_then _ _ _ _ _ (adds_of (spec.tokens_of_expression completed) _ _ _ _ c.get-in-Member.ensures c.put_expression.ensures) (adds_of (flat_map (spec.tokens_of_link completed)) _ _ _ _ c.as_slice.ensures c.put_links.ensures)) (tokens_is_Member _ _ _ _ c.in-Member.is)

pub put_expression-returns-in-New : goal.put_expression-returns-in-New
put_expression-returns-in-New t c = adds_is _ _ _ _ (adds_then _ _ _ _ _ c.put-in-New.ensures (adds_then _ _ _ _ _ (adds_of (spec.tokens_of_expression completed) _ _ _ _ c.get-in-New.ensures c.put_expression-in-New.ensures) (adds_of (spec.tokens_of_bracketed completed) _ _ _ _ c.get-in-New-2.ensures c.put_bracketed-in-New.ensures))) (tokens_is_New _ _ _ _ _ c.in-New.is)

pub put_expression-returns-in-NewPlain : goal.put_expression-returns-in-NewPlain
put_expression-returns-in-NewPlain t c = adds_is _ _ _ _ (adds_then _ _ _ _ _ c.put-in-NewPlain.ensures (adds_of (spec.tokens_of_expression completed) _ _ _ _ c.get-in-NewPlain.ensures c.put_expression-in-NewPlain.ensures)) (tokens_is_NewPlain _ _ _ _ c.in-NewPlain.is)

pub put_expression-returns-in-ImportCall : goal.put_expression-returns-in-ImportCall
put_expression-returns-in-ImportCall t c = adds_is _ _ _ _ (adds_then _ _ _ _ _ c.put-in-ImportCall.ensures (adds_then _ _ _ _ _ c.put-in-ImportCall-2.ensures (adds_then _ _ _ _ _ (adds_of (spec.tokens_of_expression completed) _ _ _ _ c.get-in-ImportCall.ensures c.put_expression-in-ImportCall.ensures) c.put-in-ImportCall-3.ensures))) (tokens_is_ImportCall _ _ _ _ _ _ c.in-ImportCall.is)

pub put_expression-returns-in-PrefixUpdate : goal.put_expression-returns-in-PrefixUpdate
put_expression-returns-in-PrefixUpdate t c = adds_is _ _ _ _ (adds_then _ _ _ _ _ c.put-in-PrefixUpdate.ensures (adds_of (spec.tokens_of_expression completed) _ _ _ _ c.get-in-PrefixUpdate.ensures c.put_expression-in-PrefixUpdate.ensures)) (tokens_is_PrefixUpdate _ _ _ _ c.in-PrefixUpdate.is)

pub put_expression-returns-in-PostfixUpdate : goal.put_expression-returns-in-PostfixUpdate
put_expression-returns-in-PostfixUpdate t c = adds_is _ _ _ _ (adds_then _ _ _ _ _ (adds_of (spec.tokens_of_expression completed) _ _ _ _ c.get-in-PostfixUpdate.ensures c.put_expression-in-PostfixUpdate.ensures) c.put-in-PostfixUpdate.ensures) (tokens_is_PostfixUpdate _ _ _ _ c.in-PostfixUpdate.is)

pub put_expression-returns-in-Unary : goal.put_expression-returns-in-Unary
put_expression-returns-in-Unary t c = adds_is _ _ _ _ (adds_then _ _ _ _ _ c.put-in-Unary.ensures (adds_of (spec.tokens_of_expression completed) _ _ _ _ c.get-in-Unary.ensures c.put_expression-in-Unary.ensures)) (tokens_is_Unary _ _ _ _ c.in-Unary.is)

pub put_expression-returns-in-Await : goal.put_expression-returns-in-Await
put_expression-returns-in-Await t c = adds_is _ _ _ _ (adds_then _ _ _ _ _ c.put-in-Await.ensures (adds_of (spec.tokens_of_expression completed) _ _ _ _ c.get-in-Await.ensures c.put_expression-in-Await.ensures)) (tokens_is_Await _ _ _ _ c.in-Await.is)

pub put_expression-returns-in-Binary : goal.put_expression-returns-in-Binary
put_expression-returns-in-Binary t c = adds_is _ _ _ _ (adds_then _ _ _ _ _ (adds_of (spec.tokens_of_expression completed) _ _ _ _ c.get-in-Binary.ensures c.put_expression-in-Binary.ensures) (adds_of (flat_map (spec.tokens_of_operand completed)) _ _ _ _ c.as_slice-in-Binary.ensures c.put_operands.ensures)) (tokens_is_Binary _ _ _ _ c.in-Binary.is)

pub put_expression-returns-in-Conditional : goal.put_expression-returns-in-Conditional
put_expression-returns-in-Conditional t c = adds_is _ _ _ _ (adds_then _ _ _ _ _ (adds_of (spec.tokens_of_expression completed) _ _ _ _ c.get-in-Conditional.ensures c.put_expression-in-Conditional.ensures) (adds_then _ _ _ _ _ c.put-in-Conditional.ensures (adds_then _ _ _ _ _ (adds_of (spec.tokens_of_expression completed) _ _ _ _ c.get-in-Conditional-2.ensures c.put_expression-in-Conditional-2.ensures) (adds_then _ _ _ _ _ c.put-in-Conditional-2.ensures (adds_of (spec.tokens_of_expression completed) _ _ _ _ c.get-in-Conditional-3.ensures c.put_expression-in-Conditional-3.ensures))))) (tokens_is_Conditional _ _ _ _ _ _ _ c.in-Conditional.is)

pub put_expression-returns-in-Assignment : goal.put_expression-returns-in-Assignment
put_expression-returns-in-Assignment t c = adds_is _ _ _ _ (adds_then _ _ _ _ _ (adds_of (spec.tokens_of_expression completed) _ _ _ _ c.get-in-Assignment.ensures c.put_expression-in-Assignment.ensures) (adds_then _ _ _ _ _ c.put-in-Assignment.ensures (adds_of (spec.tokens_of_expression completed) _ _ _ _ c.get-in-Assignment-2.ensures c.put_expression-in-Assignment-2.ensures))) (tokens_is_Assignment _ _ _ _ _ c.in-Assignment.is)

pub put_expression-returns-in-Arrow : goal.put_expression-returns-in-Arrow
put_expression-returns-in-Arrow t c = adds_is _ _ _ _ (adds_then _ _ _ _ _ (adds_of (spec.tokens_of_expression completed) _ _ _ _ c.get-in-Arrow.ensures c.put_expression-in-Arrow.ensures) (adds_then _ _ _ _ _ c.put-in-Arrow.ensures (adds_of (spec.tokens_of_concise_body completed) _ _ _ _ c.get-in-Arrow-2.ensures c.put_concise_body.ensures))) (tokens_is_Arrow _ _ _ _ _ c.in-Arrow.is)

pub put_expression-returns-in-AsyncArrow : goal.put_expression-returns-in-AsyncArrow
put_expression-returns-in-AsyncArrow t c = adds_is _ _ _ _ (adds_then _ _ _ _ _ c.put-in-AsyncArrow.ensures (adds_then _ _ _ _ _ c.put-in-AsyncArrow-2.ensures (adds_then _ _ _ _ _ c.put-in-AsyncArrow-3.ensures (adds_of (spec.tokens_of_concise_body completed) _ _ _ _ c.get-in-AsyncArrow.ensures c.put_concise_body-in-AsyncArrow.ensures)))) (tokens_is_AsyncArrow _ _ _ _ _ _ c.in-AsyncArrow.is)

pub put_expression-returns-in-Yield : goal.put_expression-returns-in-Yield
put_expression-returns-in-Yield t c = adds_is _ _ _ _ c.put-in-Yield.ensures (tokens_is_Yield _ _ _ c.in-Yield.is)

pub put_expression-returns-in-YieldValue : goal.put_expression-returns-in-YieldValue
put_expression-returns-in-YieldValue t c = adds_is _ _ _ _ (adds_then _ _ _ _ _ c.put-in-YieldValue.ensures (adds_of (spec.tokens_of_expression completed) _ _ _ _ c.get-in-YieldValue.ensures c.put_expression-in-YieldValue.ensures)) (tokens_is_YieldValue _ _ _ _ c.in-YieldValue.is)

pub put_expression-returns-in-YieldEach : goal.put_expression-returns-in-YieldEach
put_expression-returns-in-YieldEach t c = adds_is _ _ _ _ (adds_then _ _ _ _ _ c.put-in-YieldEach.ensures (adds_then _ _ _ _ _ c.put-in-YieldEach-2.ensures (adds_of (spec.tokens_of_expression completed) _ _ _ _ c.get-in-YieldEach.ensures c.put_expression-in-YieldEach.ensures))) (tokens_is_YieldEach _ _ _ _ _ c.in-YieldEach.is)

pub put_link-returns-in-Dot : goal.put_link-returns-in-Dot
put_link-returns-in-Dot t c = adds_is _ _ _ _ (adds_then _ _ _ _ _ c.put.ensures c.put-in-Dot.ensures) (tokens_is_Dot _ _ _ _ c.in-Dot.is)

pub put_link-returns-in-Index : goal.put_link-returns-in-Index
put_link-returns-in-Index t c = adds_is _ _ _ _ (adds_then _ _ _ _ _ c.put-in-Index.ensures (adds_then _ _ _ _ _ c.put_expression.ensures c.put-in-Index-2.ensures)) (tokens_is_Index _ _ _ _ _ c.in-Index.is)

pub put_link-returns-in-Call : goal.put_link-returns-in-Call
put_link-returns-in-Call t c = adds_is _ _ _ _ c.put_bracketed.ensures (tokens_is_Call _ _ _ c.in-Call.is)

pub put_link-returns-in-Tagged : goal.put_link-returns-in-Tagged
put_link-returns-in-Tagged t c = adds_is _ _ _ _ c.put-in-Tagged.ensures (tokens_is_Tagged _ _ _ c.in-Tagged.is)

pub put_link-returns-in-TaggedTemplate : goal.put_link-returns-in-TaggedTemplate
put_link-returns-in-TaggedTemplate t c = adds_is _ _ _ _ c.put_substitutions.ensures (tokens_is_TaggedTemplate _ _ _ c.in-TaggedTemplate.is)

pub put_link-returns-in-OptionalDot : goal.put_link-returns-in-OptionalDot
put_link-returns-in-OptionalDot t c = adds_is _ _ _ _ (adds_then _ _ _ _ _ c.put-in-OptionalDot.ensures c.put-in-OptionalDot-2.ensures) (tokens_is_OptionalDot _ _ _ _ c.in-OptionalDot.is)

pub put_link-returns-in-OptionalIndex : goal.put_link-returns-in-OptionalIndex
put_link-returns-in-OptionalIndex t c = adds_is _ _ _ _ (adds_then _ _ _ _ _ c.put-in-OptionalIndex.ensures (adds_then _ _ _ _ _ c.put-in-OptionalIndex-2.ensures (adds_then _ _ _ _ _ c.put_expression-in-OptionalIndex.ensures c.put-in-OptionalIndex-3.ensures))) (tokens_is_OptionalIndex _ _ _ _ _ _ c.in-OptionalIndex.is)

pub put_link-returns-in-OptionalCall : goal.put_link-returns-in-OptionalCall
put_link-returns-in-OptionalCall t c = adds_is _ _ _ _ (adds_then _ _ _ _ _ c.put-in-OptionalCall.ensures c.put_bracketed-in-OptionalCall.ensures) (tokens_is_OptionalCall _ _ _ _ c.in-OptionalCall.is)

pub put_concise_body-returns-in-ConciseValue : goal.put_concise_body-returns-in-ConciseValue
put_concise_body-returns-in-ConciseValue t c = adds_is _ _ _ _ c.put_expression.ensures (tokens_is_ConciseValue _ _ _ c.in-ConciseValue.is)

pub put_concise_body-returns-in-ConciseBlock : goal.put_concise_body-returns-in-ConciseBlock
put_concise_body-returns-in-ConciseBlock t c = adds_is _ _ _ _ c.put_block.ensures (tokens_is_ConciseBlock _ _ _ c.in-ConciseBlock.is)

pub put_element-returns-in-Hole : goal.put_element-returns-in-Hole
put_element-returns-in-Hole t c = adds_is _ _ _ _ (adds_none _) (tokens_is_Hole _ _ c.in-Hole.is)

pub put_element-returns-in-Value : goal.put_element-returns-in-Value
put_element-returns-in-Value t c = adds_is _ _ _ _ c.put_expression.ensures (tokens_is_Value _ _ _ c.in-Value.is)

pub put_element-returns-in-Spread : goal.put_element-returns-in-Spread
put_element-returns-in-Spread t c = adds_is _ _ _ _ (adds_then _ _ _ _ _ c.put.ensures c.put_expression-in-Spread.ensures) (tokens_is_Spread _ _ _ _ c.in-Spread.is)

pub put_element-returns-in-Shorthand : goal.put_element-returns-in-Shorthand
put_element-returns-in-Shorthand t c = adds_is _ _ _ _ c.put-in-Shorthand.ensures (tokens_is_Shorthand _ _ _ c.in-Shorthand.is)

pub put_element-returns-in-Initialized : goal.put_element-returns-in-Initialized
put_element-returns-in-Initialized t c = adds_is _ _ _ _ (adds_then _ _ _ _ _ c.put-in-Initialized.ensures (adds_then _ _ _ _ _ c.put-in-Initialized-2.ensures c.put_expression-in-Initialized.ensures)) (tokens_is_Initialized _ _ _ _ _ c.in-Initialized.is)

pub put_element-returns-in-Property : goal.put_element-returns-in-Property
put_element-returns-in-Property t c = adds_is _ _ _ _ (adds_then _ _ _ _ _ c.put_property_name.ensures (adds_then _ _ _ _ _ c.put-in-Property.ensures c.put_expression-in-Property.ensures)) (tokens_is_Property _ _ _ _ _ c.in-Property.is)

pub put_element-returns-in-MethodProperty : goal.put_element-returns-in-MethodProperty
put_element-returns-in-MethodProperty t c = adds_is _ _ _ _ (adds_of (spec.tokens_of_method completed) _ _ _ _ c.get.ensures c.put_method.ensures) (tokens_is_MethodProperty _ _ _ c.in-MethodProperty.is)

pub put_property_name-returns-in-Named : goal.put_property_name-returns-in-Named
put_property_name-returns-in-Named t c = adds_is _ _ _ _ c.put.ensures (tokens_is_Named _ _ _ c.in-Named.is)

pub put_property_name-returns-in-Computed : goal.put_property_name-returns-in-Computed
put_property_name-returns-in-Computed t c = adds_is _ _ _ _ (adds_then _ _ _ _ _ c.put-in-Computed.ensures (adds_then _ _ _ _ _ c.put_expression.ensures c.put-in-Computed-2.ensures)) (tokens_is_Computed _ _ _ _ _ c.in-Computed.is)

pub put_case_clause-returns-in-Case : goal.put_case_clause-returns-in-Case
put_case_clause-returns-in-Case t c = adds_is _ _ _ _ (adds_then _ _ _ _ _ c.put.ensures (adds_then _ _ _ _ _ c.put_expression.ensures (adds_then _ _ _ _ _ c.put-in-Case.ensures (adds_of (flat_map (spec.tokens_of_statement completed)) _ _ _ _ c.as_slice.ensures c.put_statements.ensures)))) (tokens_is_Case _ _ _ _ _ _ c.in-Case.is)

pub put_case_clause-returns-in-Default : goal.put_case_clause-returns-in-Default
put_case_clause-returns-in-Default t c = adds_is _ _ _ _ (adds_then _ _ _ _ _ c.put-in-Default.ensures (adds_then _ _ _ _ _ c.put-in-Default-2.ensures (adds_of (flat_map (spec.tokens_of_statement completed)) _ _ _ _ c.as_slice-in-Default.ensures c.put_statements-in-Default.ensures))) (tokens_is_Default _ _ _ _ _ c.in-Default.is)

pub put_else-returns-in-NoElse : goal.put_else-returns-in-NoElse
put_else-returns-in-NoElse t c = adds_is _ _ _ _ (adds_none _) (tokens_is_NoElse _ _ c.in-NoElse.is)

pub put_else-returns-in-Otherwise : goal.put_else-returns-in-Otherwise
put_else-returns-in-Otherwise t c = adds_is _ _ _ _ (adds_then _ _ _ _ _ c.put.ensures (adds_of (spec.tokens_of_statement completed) _ _ _ _ c.get.ensures c.put_statement.ensures)) (tokens_is_Otherwise _ _ _ _ c.in-Otherwise.is)

pub put_finalizer-returns-in-NoFinalizer : goal.put_finalizer-returns-in-NoFinalizer
put_finalizer-returns-in-NoFinalizer t c = adds_is _ _ _ _ (adds_none _) (tokens_is_NoFinalizer _ _ c.in-NoFinalizer.is)

pub put_finalizer-returns-in-Finally : goal.put_finalizer-returns-in-Finally
put_finalizer-returns-in-Finally t c = adds_is _ _ _ _ (adds_then _ _ _ _ _ c.put.ensures c.put_block.ensures) (tokens_is_Finally _ _ _ _ c.in-Finally.is)

pub put_for_start-returns-in-NoStart : goal.put_for_start-returns-in-NoStart
put_for_start-returns-in-NoStart t c = adds_is _ _ _ _ (adds_none _) (tokens_is_NoStart _ _ c.in-NoStart.is)

pub put_for_start-returns-in-StartExpression : goal.put_for_start-returns-in-StartExpression
put_for_start-returns-in-StartExpression t c = adds_is _ _ _ _ c.put_expression.ensures (tokens_is_StartExpression _ _ _ c.in-StartExpression.is)

pub put_for_start-returns-in-StartDeclaration : goal.put_for_start-returns-in-StartDeclaration
put_for_start-returns-in-StartDeclaration t c = adds_is _ _ _ _ c.put_declaration.ensures (tokens_is_StartDeclaration _ _ _ c.in-StartDeclaration.is)

pub put_handler-returns-in-NoHandler : goal.put_handler-returns-in-NoHandler
put_handler-returns-in-NoHandler t c = adds_is _ _ _ _ (adds_none _) (tokens_is_NoHandler _ _ c.in-NoHandler.is)

pub put_handler-returns-in-Catch : goal.put_handler-returns-in-Catch
put_handler-returns-in-Catch t c = adds_is _ _ _ _ (adds_then _ _ _ _ _ c.put.ensures c.put_block.ensures) (tokens_is_Catch _ _ _ _ c.in-Catch.is)

pub put_handler-returns-in-CatchParameter : goal.put_handler-returns-in-CatchParameter
put_handler-returns-in-CatchParameter t c = adds_is _ _ _ _ (adds_then _ _ _ _ _ c.put-in-CatchParameter.ensures (adds_then _ _ _ _ _ c.put-in-CatchParameter-2.ensures (adds_then _ _ _ _ _ c.put_expression.ensures (adds_then _ _ _ _ _ c.put-in-CatchParameter-3.ensures c.put_block-in-CatchParameter.ensures)))) (tokens_is_CatchParameter _ _ _ _ _ _ _ c.in-CatchParameter.is)

pub put_maybe_expression-returns-in-Absent : goal.put_maybe_expression-returns-in-Absent
put_maybe_expression-returns-in-Absent t c = adds_is _ _ _ _ (adds_none _) (tokens_is_Absent _ _ c.in-Absent.is)

pub put_maybe_expression-returns-in-Present : goal.put_maybe_expression-returns-in-Present
put_maybe_expression-returns-in-Present t c = adds_is _ _ _ _ c.put_expression.ensures (tokens_is_Present _ _ _ c.in-Present.is)

pub put_statement-returns-in-BlockStatement : goal.put_statement-returns-in-BlockStatement
put_statement-returns-in-BlockStatement t c = adds_is _ _ _ _ c.put_block.ensures (tokens_is_BlockStatement _ _ _ c.in-BlockStatement.is)

pub put_statement-returns-in-Variables : goal.put_statement-returns-in-Variables
put_statement-returns-in-Variables t c = adds_is _ _ _ _ (adds_then _ _ _ _ _ c.put_declaration.ensures c.put_end.ensures) (tokens_is_Variables _ _ _ _ c.in-Variables.is)

pub put_statement-returns-in-Empty : goal.put_statement-returns-in-Empty
put_statement-returns-in-Empty t c = adds_is _ _ _ _ c.put.ensures (tokens_is_Empty _ _ _ c.in-Empty.is)

pub put_statement-returns-in-ExpressionStatement : goal.put_statement-returns-in-ExpressionStatement
put_statement-returns-in-ExpressionStatement t c = adds_is _ _ _ _ (adds_then _ _ _ _ _ c.put_expression.ensures c.put_end-in-ExpressionStatement.ensures) (tokens_is_ExpressionStatement _ _ _ _ c.in-ExpressionStatement.is)

pub put_statement-returns-in-If : goal.put_statement-returns-in-If
put_statement-returns-in-If t c = adds_is _ _ _ _ (adds_then _ _ _ _ _ c.put_if_clause.ensures (adds_then _ _ _ _ _ (adds_of (flat_map (spec.tokens_of_else_if completed)) _ _ _ _ c.as_slice.ensures c.put_else_ifs.ensures) c.put_else.ensures)) (tokens_is_If _ _ _ _ _ c.in-If.is)

pub put_statement-returns-in-DoWhile : goal.put_statement-returns-in-DoWhile
put_statement-returns-in-DoWhile t c = adds_is _ _ _ _ (adds_then _ _ _ _ _ c.put-in-DoWhile.ensures (adds_then _ _ _ _ _ (adds_of (spec.tokens_of_statement completed) _ _ _ _ c.get.ensures c.put_statement.ensures) (adds_then _ _ _ _ _ c.put-in-DoWhile-2.ensures (adds_then _ _ _ _ _ c.put-in-DoWhile-3.ensures (adds_then _ _ _ _ _ c.put_expression-in-DoWhile.ensures (adds_then _ _ _ _ _ c.put-in-DoWhile-4.ensures c.put_end-in-DoWhile.ensures)))))) (tokens_is_DoWhile _ _ _ _ _ _ _ _ _ c.in-DoWhile.is)

pub put_statement-returns-in-While : goal.put_statement-returns-in-While
put_statement-returns-in-While t c = adds_is _ _ _ _ (adds_then _ _ _ _ _ c.put-in-While.ensures (adds_then _ _ _ _ _ c.put-in-While-2.ensures (adds_then _ _ _ _ _ c.put_expression-in-While.ensures (adds_then _ _ _ _ _ c.put-in-While-3.ensures (adds_of (spec.tokens_of_statement completed) _ _ _ _ c.get-in-While.ensures c.put_statement-in-While.ensures))))) (tokens_is_While _ _ _ _ _ _ _ c.in-While.is)

pub put_statement-returns-in-For : goal.put_statement-returns-in-For
put_statement-returns-in-For t c = adds_is _ _ _ _ (adds_then _ _ _ _ _ c.put-in-For.ensures (adds_then _ _ _ _ _ c.put-in-For-2.ensures (adds_then _ _ _ _ _ c.put_for_start.ensures (adds_then _ _ _ _ _ c.put-in-For-3.ensures (adds_then _ _ _ _ _ c.put_maybe_expression.ensures (adds_then _ _ _ _ _ c.put-in-For-4.ensures (adds_then _ _ _ _ _ c.put_maybe_expression-in-For.ensures (adds_then _ _ _ _ _ c.put-in-For-5.ensures (adds_of (spec.tokens_of_statement completed) _ _ _ _ c.get-in-For.ensures c.put_statement-in-For.ensures))))))))) (tokens_is_For _ _ _ _ _ _ _ _ _ _ _ c.in-For.is)

pub put_statement-returns-in-ForEach : goal.put_statement-returns-in-ForEach
put_statement-returns-in-ForEach t c = adds_is _ _ _ _ (adds_then _ _ _ _ _ c.put-in-ForEach.ensures (adds_then _ _ _ _ _ c.put_maybe.ensures (adds_then _ _ _ _ _ c.put-in-ForEach-2.ensures (adds_then _ _ _ _ _ c.put_for_start-in-ForEach.ensures (adds_then _ _ _ _ _ c.put-in-ForEach-3.ensures (adds_then _ _ _ _ _ c.put_expression-in-ForEach.ensures (adds_then _ _ _ _ _ c.put-in-ForEach-4.ensures (adds_of (spec.tokens_of_statement completed) _ _ _ _ c.get-in-ForEach.ensures c.put_statement-in-ForEach.ensures)))))))) (tokens_is_ForEach _ _ _ _ _ _ _ _ _ _ c.in-ForEach.is)

pub put_statement-returns-in-Continue : goal.put_statement-returns-in-Continue
put_statement-returns-in-Continue t c = adds_is _ _ _ _ (adds_then _ _ _ _ _ c.put-in-Continue.ensures (adds_then _ _ _ _ _ c.put_maybe-in-Continue.ensures c.put_end-in-Continue.ensures)) (tokens_is_Continue _ _ _ _ _ c.in-Continue.is)

pub put_statement-returns-in-Break : goal.put_statement-returns-in-Break
put_statement-returns-in-Break t c = adds_is _ _ _ _ (adds_then _ _ _ _ _ c.put-in-Break.ensures (adds_then _ _ _ _ _ c.put_maybe-in-Break.ensures c.put_end-in-Break.ensures)) (tokens_is_Break _ _ _ _ _ c.in-Break.is)

pub put_statement-returns-in-Return : goal.put_statement-returns-in-Return
put_statement-returns-in-Return t c = adds_is _ _ _ _ (adds_then _ _ _ _ _ c.put-in-Return.ensures (adds_then _ _ _ _ _ c.put_maybe_expression-in-Return.ensures c.put_end-in-Return.ensures)) (tokens_is_Return _ _ _ _ _ c.in-Return.is)

pub put_statement-returns-in-Switch : goal.put_statement-returns-in-Switch
put_statement-returns-in-Switch t c = adds_is _ _ _ _ (adds_then _ _ _ _ _ c.put-in-Switch.ensures (adds_then _ _ _ _ _ c.put-in-Switch-2.ensures (adds_then _ _ _ _ _ c.put_expression-in-Switch.ensures (adds_then _ _ _ _ _ c.put-in-Switch-3.ensures (adds_then _ _ _ _ _ c.put-in-Switch-4.ensures (adds_then _ _ _ _ _ (adds_of (flat_map (spec.tokens_of_case_clause completed)) _ _ _ _ c.as_slice-in-Switch.ensures c.put_case_clauses.ensures) c.put-in-Switch-5.ensures)))))) (tokens_is_Switch _ _ _ _ _ _ _ _ _ c.in-Switch.is)

pub put_statement-returns-in-Labelled : goal.put_statement-returns-in-Labelled
put_statement-returns-in-Labelled t c = adds_is _ _ _ _ (adds_then _ _ _ _ _ c.put-in-Labelled.ensures (adds_then _ _ _ _ _ c.put-in-Labelled-2.ensures (adds_of (spec.tokens_of_statement completed) _ _ _ _ c.get-in-Labelled.ensures c.put_statement-in-Labelled.ensures))) (tokens_is_Labelled _ _ _ _ _ c.in-Labelled.is)

pub put_statement-returns-in-Throw : goal.put_statement-returns-in-Throw
put_statement-returns-in-Throw t c = adds_is _ _ _ _ (adds_then _ _ _ _ _ c.put-in-Throw.ensures (adds_then _ _ _ _ _ c.put_expression-in-Throw.ensures c.put_end-in-Throw.ensures)) (tokens_is_Throw _ _ _ _ _ c.in-Throw.is)

pub put_statement-returns-in-Try : goal.put_statement-returns-in-Try
put_statement-returns-in-Try t c = adds_is _ _ _ _ (adds_then _ _ _ _ _ c.put-in-Try.ensures (adds_then _ _ _ _ _ c.put_block-in-Try.ensures (adds_then _ _ _ _ _ c.put_handler.ensures c.put_finalizer.ensures))) (tokens_is_Try _ _ _ _ _ _ c.in-Try.is)

pub put_statement-returns-in-Debugger : goal.put_statement-returns-in-Debugger
put_statement-returns-in-Debugger t c = adds_is _ _ _ _ (adds_then _ _ _ _ _ c.put-in-Debugger.ensures c.put_end-in-Debugger.ensures) (tokens_is_Debugger _ _ _ _ c.in-Debugger.is)

pub put_statement-returns-in-FunctionDeclaration : goal.put_statement-returns-in-FunctionDeclaration
put_statement-returns-in-FunctionDeclaration t c = adds_is _ _ _ _ c.put_function.ensures (tokens_is_FunctionDeclaration _ _ _ c.in-FunctionDeclaration.is)

pub put_statement-returns-in-ClassDeclaration : goal.put_statement-returns-in-ClassDeclaration
put_statement-returns-in-ClassDeclaration t c = adds_is _ _ _ _ c.put_class.ensures (tokens_is_ClassDeclaration _ _ _ c.in-ClassDeclaration.is)

pub put_class-returns : goal.put_class-returns
put_class-returns t c = adds_is _ _ _ _ (adds_then _ _ _ _ _ c.put.ensures (adds_then _ _ _ _ _ c.put_maybe.ensures (adds_then _ _ _ _ _ c.put_heritage.ensures (adds_then _ _ _ _ _ c.put-2.ensures (adds_then _ _ _ _ _ (adds_of (flat_map (spec.tokens_of_class_element completed)) _ _ _ _ c.as_slice.ensures c.put_class_elements.ensures) c.put-3.ensures))))) (tokens_at_Class _ _)

pub put_operand-returns : goal.put_operand-returns
put_operand-returns t c = adds_is _ _ _ _ (adds_then _ _ _ _ _ c.put.ensures c.put_expression.ensures) (tokens_at_Operand _ _)

pub put_substitution-returns : goal.put_substitution-returns
put_substitution-returns t c = adds_is _ _ _ _ (adds_then _ _ _ _ _ c.put.ensures c.put_expression.ensures) (tokens_at_Substitution _ _)

pub put_substitutions-returns : goal.put_substitutions-returns
put_substitutions-returns t c = adds_is _ _ _ _ (adds_then _ _ _ _ _ c.put.ensures (adds_then _ _ _ _ _ c.put_expression.ensures (adds_then _ _ _ _ _ (adds_of (flat_map (spec.tokens_of_substitution completed)) _ _ _ _ c.as_slice.ensures c.put_each_substitution.ensures) c.put-2.ensures))) (tokens_at_Substitutions _ _)

pub put_function-returns : goal.put_function-returns
put_function-returns t c = adds_is _ _ _ _ (adds_then _ _ _ _ _ c.put_maybe.ensures (adds_then _ _ _ _ _ c.put.ensures (adds_then _ _ _ _ _ c.put_maybe-2.ensures (adds_then _ _ _ _ _ c.put_maybe-3.ensures (adds_then _ _ _ _ _ c.put_bracketed.ensures c.put_block.ensures))))) (tokens_at_Function _ _)

pub put_method-returns : goal.put_method-returns
put_method-returns t c = adds_is _ _ _ _ (adds_then _ _ _ _ _ c.put_maybe.ensures (adds_then _ _ _ _ _ c.put_maybe-2.ensures (adds_then _ _ _ _ _ c.put_property_name.ensures (adds_then _ _ _ _ _ c.put_bracketed.ensures c.put_block.ensures)))) (tokens_at_Method _ _)

pub put_bracketed-returns : goal.put_bracketed-returns
put_bracketed-returns t c = adds_is _ _ _ _ (adds_then _ _ _ _ _ c.put.ensures (adds_then _ _ _ _ _ c.put_elements.ensures c.put-2.ensures)) (tokens_at_Bracketed _ _)

pub put_elements-returns : goal.put_elements-returns
put_elements-returns t c = adds_is _ _ _ _ (adds_then _ _ _ _ _ c.put_element.ensures (adds_of (flat_map (spec.tokens_of_next_element completed)) _ _ _ _ c.as_slice.ensures c.put_next_elements.ensures)) (tokens_at_Elements _ _)

pub put_next_element-returns : goal.put_next_element-returns
put_next_element-returns t c = adds_is _ _ _ _ (adds_then _ _ _ _ _ c.put.ensures c.put_element.ensures) (tokens_at_NextElement _ _)

pub put_block-returns : goal.put_block-returns
put_block-returns t c = adds_is _ _ _ _ (adds_then _ _ _ _ _ c.put.ensures (adds_then _ _ _ _ _ (adds_of (flat_map (spec.tokens_of_statement completed)) _ _ _ _ c.as_slice.ensures c.put_statements.ensures) c.put-2.ensures)) (tokens_at_Block _ _)

pub put_declaration-returns : goal.put_declaration-returns
put_declaration-returns t c = adds_is _ _ _ _ (adds_then _ _ _ _ _ c.put.ensures c.put_elements.ensures) (tokens_at_Declaration _ _)

pub put_else_if-returns : goal.put_else_if-returns
put_else_if-returns t c = adds_is _ _ _ _ (adds_then _ _ _ _ _ c.put.ensures c.put_if_clause.ensures) (tokens_at_ElseIf _ _)

pub put_if_clause-returns : goal.put_if_clause-returns
put_if_clause-returns t c = adds_is _ _ _ _ (adds_then _ _ _ _ _ c.put.ensures (adds_then _ _ _ _ _ c.put-2.ensures (adds_then _ _ _ _ _ c.put_expression.ensures (adds_then _ _ _ _ _ c.put-3.ensures (adds_of (spec.tokens_of_statement completed) _ _ _ _ c.get.ensures c.put_statement.ensures))))) (tokens_at_IfClause _ _)

pub put_case_clauses-loop-item-init : goal.put_case_clauses-loop-item-init
put_case_clauses-loop-item-init t c = adds_none _

pub put_case_clauses-loop-item-preserved : goal.put_case_clauses-loop-item-preserved
put_case_clauses-loop-item-preserved t c = adds_next (spec.tokens_of_case_clause completed) c.args.items.now c.loop-item.item-index c.item-item.result _ _ _ c.loop-item-test.true c.item-item.is c.loop-item.invariant c.put_case_clause.ensures

pub put_case_clauses-returns : goal.put_case_clauses-returns
put_case_clauses-returns t c = adds_all (spec.tokens_of_case_clause completed) c.args.items.now c.loop-item.item-index _ _ c.loop-item-test.false c.loop-item.invariant

pub put_class_elements-loop-item-init : goal.put_class_elements-loop-item-init
put_class_elements-loop-item-init t c = adds_none _

pub put_class_elements-loop-item-preserved : goal.put_class_elements-loop-item-preserved
put_class_elements-loop-item-preserved t c = adds_next (spec.tokens_of_class_element completed) c.args.items.now c.loop-item.item-index c.item-item.result _ _ _ c.loop-item-test.true c.item-item.is c.loop-item.invariant c.put_class_element.ensures

pub put_class_elements-returns : goal.put_class_elements-returns
put_class_elements-returns t c = adds_all (spec.tokens_of_class_element completed) c.args.items.now c.loop-item.item-index _ _ c.loop-item-test.false c.loop-item.invariant

pub put_else_ifs-loop-item-init : goal.put_else_ifs-loop-item-init
put_else_ifs-loop-item-init t c = adds_none _

pub put_else_ifs-loop-item-preserved : goal.put_else_ifs-loop-item-preserved
put_else_ifs-loop-item-preserved t c = adds_next (spec.tokens_of_else_if completed) c.args.items.now c.loop-item.item-index c.item-item.result _ _ _ c.loop-item-test.true c.item-item.is c.loop-item.invariant c.put_else_if.ensures

pub put_else_ifs-returns : goal.put_else_ifs-returns
put_else_ifs-returns t c = adds_all (spec.tokens_of_else_if completed) c.args.items.now c.loop-item.item-index _ _ c.loop-item-test.false c.loop-item.invariant

pub put_links-loop-item-init : goal.put_links-loop-item-init
put_links-loop-item-init t c = adds_none _

pub put_links-loop-item-preserved : goal.put_links-loop-item-preserved
put_links-loop-item-preserved t c = adds_next (spec.tokens_of_link completed) c.args.items.now c.loop-item.item-index c.item-item.result _ _ _ c.loop-item-test.true c.item-item.is c.loop-item.invariant c.put_link.ensures

pub put_links-returns : goal.put_links-returns
put_links-returns t c = adds_all (spec.tokens_of_link completed) c.args.items.now c.loop-item.item-index _ _ c.loop-item-test.false c.loop-item.invariant

pub put_next_elements-loop-item-init : goal.put_next_elements-loop-item-init
put_next_elements-loop-item-init t c = adds_none _

pub put_next_elements-loop-item-preserved : goal.put_next_elements-loop-item-preserved
put_next_elements-loop-item-preserved t c = adds_next (spec.tokens_of_next_element completed) c.args.items.now c.loop-item.item-index c.item-item.result _ _ _ c.loop-item-test.true c.item-item.is c.loop-item.invariant c.put_next_element.ensures

pub put_next_elements-returns : goal.put_next_elements-returns
put_next_elements-returns t c = adds_all (spec.tokens_of_next_element completed) c.args.items.now c.loop-item.item-index _ _ c.loop-item-test.false c.loop-item.invariant

pub put_operands-loop-item-init : goal.put_operands-loop-item-init
put_operands-loop-item-init t c = adds_none _

pub put_operands-loop-item-preserved : goal.put_operands-loop-item-preserved
put_operands-loop-item-preserved t c = adds_next (spec.tokens_of_operand completed) c.args.items.now c.loop-item.item-index c.item-item.result _ _ _ c.loop-item-test.true c.item-item.is c.loop-item.invariant c.put_operand.ensures

pub put_operands-returns : goal.put_operands-returns
put_operands-returns t c = adds_all (spec.tokens_of_operand completed) c.args.items.now c.loop-item.item-index _ _ c.loop-item-test.false c.loop-item.invariant

pub put_statements-loop-item-init : goal.put_statements-loop-item-init
put_statements-loop-item-init t c = adds_none _

pub put_statements-loop-item-preserved : goal.put_statements-loop-item-preserved
put_statements-loop-item-preserved t c = adds_next (spec.tokens_of_statement completed) c.args.items.now c.loop-item.item-index c.item-item.result _ _ _ c.loop-item-test.true c.item-item.is c.loop-item.invariant c.put_statement.ensures

pub put_statements-returns : goal.put_statements-returns
put_statements-returns t c = adds_all (spec.tokens_of_statement completed) c.args.items.now c.loop-item.item-index _ _ c.loop-item-test.false c.loop-item.invariant

pub put_each_substitution-loop-item-init : goal.put_each_substitution-loop-item-init
put_each_substitution-loop-item-init t c = adds_none _

pub put_each_substitution-loop-item-preserved : goal.put_each_substitution-loop-item-preserved
put_each_substitution-loop-item-preserved t c = adds_next (spec.tokens_of_substitution completed) c.args.items.now c.loop-item.item-index c.item-item.result _ _ _ c.loop-item-test.true c.item-item.is c.loop-item.invariant c.put_substitution.ensures

pub put_each_substitution-returns : goal.put_each_substitution-returns
put_each_substitution-returns t c = adds_all (spec.tokens_of_substitution completed) c.args.items.now c.loop-item.item-index _ _ c.loop-item-test.false c.loop-item.invariant
