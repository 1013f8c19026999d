use Rattle.std.proofs.Common.{◌∙◌, [], ◌∷◌, ◌++◌, ap, sym}
use Rattle.std.specs.List.{flat_map}
use Rattle.esb_tree.specs.declared.classes.Class.{out-Class}
use Rattle.esb_tree.specs.declared.expressions.Substitutions.{out-Substitutions}
use Rattle.esb_tree.specs.declared.patterns.Bracketed.{out-Bracketed}
use Rattle.esb_tree.specs.Trees.{written}
use Rattle.esb_tree.specs.Yields.{tokens_of_concise_body, tokens_of_expression, tokens_of_function, tokens_of_link, tokens_of_operand}
use Rattle.esb_tree.proofs.TokenLines.{tokens_is_Primary, tokens_is_MetaProperty, tokens_is_ArrayLiteral, tokens_is_ObjectLiteral, tokens_is_Parenthesized, tokens_is_TemplateLiteral, tokens_is_FunctionExpression, tokens_is_ClassExpression, tokens_is_Member, tokens_is_New, tokens_is_NewPlain, tokens_is_ImportCall, tokens_is_PrefixUpdate, tokens_is_PostfixUpdate, tokens_is_Unary, tokens_is_Await, tokens_is_Binary, tokens_is_Conditional, tokens_is_Assignment, tokens_is_Arrow, tokens_is_AsyncArrow, tokens_is_Yield, tokens_is_YieldValue, tokens_is_YieldEach, tokens_at_Bracketed, tokens_at_Substitutions, tokens_at_Class}
use Rattle.esb_grammar.specs.Kinds.{is_let}
use Rattle.esb_grammar.specs.Words.{begins_let}
use Rattle.esb_statement_tests.proofs.Whole.{led, let_append}
use Rattle.esb_statement_tests.proofs.edges.+firsts.Goals as goal

pub returns-in-Primary : goal.returns-in-Primary
returns-in-Primary t c = c.is_let.ensures ∙ sym (ap begins_let (tokens_is_Primary written _ _ c.in-Primary.is))

pub returns-in-MetaProperty : goal.returns-in-MetaProperty
returns-in-MetaProperty t c = c.is_let-in-MetaProperty.ensures ∙ sym (ap begins_let (tokens_is_MetaProperty written _ _ _ _ c.in-MetaProperty.is))

pub returns-in-ArrayLiteral : goal.returns-in-ArrayLiteral
returns-in-ArrayLiteral t c = c.is_let-in-ArrayLiteral.ensures ∙ ap (λ y. is_let (out-Bracketed y).begin.kind) c.get.ensures ∙ sym (ap begins_let (tokens_is_ArrayLiteral written _ _ c.in-ArrayLiteral.is) ∙ ap begins_let (tokens_at_Bracketed written c.in-ArrayLiteral.list))

pub returns-in-ObjectLiteral : goal.returns-in-ObjectLiteral
returns-in-ObjectLiteral t c = c.is_let-in-ObjectLiteral.ensures ∙ ap (λ y. is_let (out-Bracketed y).begin.kind) c.get-in-ObjectLiteral.ensures ∙ sym (ap begins_let (tokens_is_ObjectLiteral written _ _ c.in-ObjectLiteral.is) ∙ ap begins_let (tokens_at_Bracketed written c.in-ObjectLiteral.list))

pub returns-in-Parenthesized : goal.returns-in-Parenthesized
returns-in-Parenthesized t c = c.is_let-in-Parenthesized.ensures ∙ ap (λ y. is_let (out-Bracketed y).begin.kind) c.get-in-Parenthesized.ensures ∙ sym (ap begins_let (tokens_is_Parenthesized written _ _ c.in-Parenthesized.is) ∙ ap begins_let (tokens_at_Bracketed written c.in-Parenthesized.list))

pub returns-in-TemplateLiteral : goal.returns-in-TemplateLiteral
returns-in-TemplateLiteral t c = c.is_let-in-TemplateLiteral.ensures ∙ ap (λ y. is_let (out-Substitutions y).head.kind) c.get-in-TemplateLiteral.ensures ∙ sym (ap begins_let (tokens_is_TemplateLiteral written _ _ c.in-TemplateLiteral.is) ∙ ap begins_let (tokens_at_Substitutions written c.in-TemplateLiteral.template))

pub returns-in-FunctionExpression : goal.returns-in-FunctionExpression
returns-in-FunctionExpression t c = c.is_let-in-FunctionExpression.ensures ∙ sym c.first_of_function.ensures ∙ ap (λ y. begins_let (tokens_of_function written y)) c.get-in-FunctionExpression.ensures ∙ sym (ap begins_let (tokens_is_FunctionExpression written _ _ c.in-FunctionExpression.is))

pub returns-in-ClassExpression : goal.returns-in-ClassExpression
returns-in-ClassExpression t c = c.is_let-in-ClassExpression.ensures ∙ ap (λ y. is_let (out-Class y).word.kind) c.get-in-ClassExpression.ensures ∙ sym (ap begins_let (tokens_is_ClassExpression written _ _ c.in-ClassExpression.is) ∙ ap begins_let (tokens_at_Class written c.in-ClassExpression.class))

pub returns-in-Member : goal.returns-in-Member
returns-in-Member t c = c.begins_let.ensures ∙ ap (λ y. begins_let (tokens_of_expression written y)) c.get-in-Member.ensures ∙ sym (ap begins_let (tokens_is_Member written _ _ _ c.in-Member.is) ∙ let_append (tokens_of_expression written c.in-Member.object) (flat_map (tokens_of_link written) c.in-Member.field-1) (led c.in-Member.object))

pub returns-in-New : goal.returns-in-New
returns-in-New t c = c.is_let-in-New.ensures ∙ sym (ap begins_let (tokens_is_New written _ _ _ _ c.in-New.is))

pub returns-in-NewPlain : goal.returns-in-NewPlain
returns-in-NewPlain t c = c.is_let-in-NewPlain.ensures ∙ sym (ap begins_let (tokens_is_NewPlain written _ _ _ c.in-NewPlain.is))

pub returns-in-ImportCall : goal.returns-in-ImportCall
returns-in-ImportCall t c = c.is_let-in-ImportCall.ensures ∙ sym (ap begins_let (tokens_is_ImportCall written _ _ _ _ _ c.in-ImportCall.is))

pub returns-in-PrefixUpdate : goal.returns-in-PrefixUpdate
returns-in-PrefixUpdate t c = c.is_let-in-PrefixUpdate.ensures ∙ sym (ap begins_let (tokens_is_PrefixUpdate written _ _ _ c.in-PrefixUpdate.is))

pub returns-in-PostfixUpdate : goal.returns-in-PostfixUpdate
returns-in-PostfixUpdate t c = c.begins_let-in-PostfixUpdate.ensures ∙ ap (λ y. begins_let (tokens_of_expression written y)) c.get-in-PostfixUpdate.ensures ∙ sym (ap begins_let (tokens_is_PostfixUpdate written _ _ _ c.in-PostfixUpdate.is) ∙ let_append (tokens_of_expression written c.in-PostfixUpdate.x) (c.in-PostfixUpdate.field-1 ∷ []) (led c.in-PostfixUpdate.x))

pub returns-in-Unary : goal.returns-in-Unary
returns-in-Unary t c = c.is_let-in-Unary.ensures ∙ sym (ap begins_let (tokens_is_Unary written _ _ _ c.in-Unary.is))

pub returns-in-Await : goal.returns-in-Await
returns-in-Await t c = c.is_let-in-Await.ensures ∙ sym (ap begins_let (tokens_is_Await written _ _ _ c.in-Await.is))

pub returns-in-Binary : goal.returns-in-Binary
returns-in-Binary t c = c.begins_let-in-Binary.ensures ∙ ap (λ y. begins_let (tokens_of_expression written y)) c.get-in-Binary.ensures ∙ sym (ap begins_let (tokens_is_Binary written _ _ _ c.in-Binary.is) ∙ let_append (tokens_of_expression written c.in-Binary.first) (flat_map (tokens_of_operand written) c.in-Binary.field-1) (led c.in-Binary.first))

pub returns-in-Conditional : goal.returns-in-Conditional
returns-in-Conditional t c = c.begins_let-in-Conditional.ensures ∙ ap (λ y. begins_let (tokens_of_expression written y)) c.get-in-Conditional.ensures ∙ sym (ap begins_let (tokens_is_Conditional written _ _ _ _ _ _ c.in-Conditional.is) ∙ let_append (tokens_of_expression written c.in-Conditional.test) (c.in-Conditional.field-1 ∷ (tokens_of_expression written c.in-Conditional.field-2 ++ (c.in-Conditional.field-3 ∷ tokens_of_expression written c.in-Conditional.field-4))) (led c.in-Conditional.test))

pub returns-in-Assignment : goal.returns-in-Assignment
returns-in-Assignment t c = c.begins_let-in-Assignment.ensures ∙ ap (λ y. begins_let (tokens_of_expression written y)) c.get-in-Assignment.ensures ∙ sym (ap begins_let (tokens_is_Assignment written _ _ _ _ c.in-Assignment.is) ∙ let_append (tokens_of_expression written c.in-Assignment.target) (c.in-Assignment.field-1 ∷ tokens_of_expression written c.in-Assignment.field-2) (led c.in-Assignment.target))

pub returns-in-Arrow : goal.returns-in-Arrow
returns-in-Arrow t c = c.begins_let-in-Arrow.ensures ∙ ap (λ y. begins_let (tokens_of_expression written y)) c.get-in-Arrow.ensures ∙ sym (ap begins_let (tokens_is_Arrow written _ _ _ _ c.in-Arrow.is) ∙ let_append (tokens_of_expression written c.in-Arrow.head) (c.in-Arrow.field-1 ∷ tokens_of_concise_body written c.in-Arrow.field-2) (led c.in-Arrow.head))

pub returns-in-AsyncArrow : goal.returns-in-AsyncArrow
returns-in-AsyncArrow t c = c.is_let-in-AsyncArrow.ensures ∙ sym (ap begins_let (tokens_is_AsyncArrow written _ _ _ _ _ c.in-AsyncArrow.is))

pub returns-in-Yield : goal.returns-in-Yield
returns-in-Yield t c = c.is_let-in-Yield.ensures ∙ sym (ap begins_let (tokens_is_Yield written _ _ c.in-Yield.is))

pub returns-in-YieldValue : goal.returns-in-YieldValue
returns-in-YieldValue t c = c.is_let-in-YieldValue.ensures ∙ sym (ap begins_let (tokens_is_YieldValue written _ _ _ c.in-YieldValue.is))

pub returns-in-YieldEach : goal.returns-in-YieldEach
returns-in-YieldEach t c = c.is_let-in-YieldEach.ensures ∙ sym (ap begins_let (tokens_is_YieldEach written _ _ _ _ c.in-YieldEach.is))
