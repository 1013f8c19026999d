use Rattle.std.proofs.Common.{◌∙◌, [], ◌∷◌, ◌++◌, refl, ap, sym}
use Rattle.esb_tree.specs.Trees.{written}
use Rattle.esb_tree.specs.Yields.{tokens_of_concise_body, tokens_of_expression, tokens_of_bracketed, tokens_of_link, tokens_of_operand}
use Rattle.esb_tree.proofs.TokenLines.{tokens_is_Primary, tokens_is_MetaProperty, tokens_is_ArrayLiteral, tokens_is_ObjectLiteral, tokens_is_Parenthesized, tokens_is_TemplateLiteral, tokens_is_FunctionExpression, tokens_is_ClassExpression, tokens_is_Member, tokens_is_New, tokens_is_NewPlain, tokens_is_ImportCall, tokens_is_PrefixUpdate, tokens_is_PostfixUpdate, tokens_is_Unary, tokens_is_Await, tokens_is_Binary, tokens_is_Conditional, tokens_is_Assignment, tokens_is_Arrow, tokens_is_AsyncArrow, tokens_is_Yield, tokens_is_YieldValue, tokens_is_YieldEach}
use Rattle.esb_grammar.specs.Kinds.{is_let}
use Rattle.esb_grammar.specs.Semicolons.{is_one}
use Rattle.esb_statement_tests.proofs.Whole.{led, led_append, led_by, two, both_led, led_link, led_operand, alone_none, alone_some, one_function, one_bracketed, one_substitutions, one_class}
use Rattle.esb_statement_tests.proofs.edges.+alone.Goals as goal

pub returns-in-Primary : goal.returns-in-Primary
returns-in-Primary t c = c.is_let.ensures ∙ sym (ap (is_one is_let) (tokens_is_Primary written _ _ c.in-Primary.is))

pub returns-in-MetaProperty : goal.returns-in-MetaProperty
returns-in-MetaProperty t c = sym (ap (is_one is_let) (tokens_is_MetaProperty written _ _ _ _ c.in-MetaProperty.is))

pub returns-in-ArrayLiteral : goal.returns-in-ArrayLiteral
returns-in-ArrayLiteral t c = sym (ap (is_one is_let) (tokens_is_ArrayLiteral written _ _ c.in-ArrayLiteral.is) ∙ one_bracketed is_let c.in-ArrayLiteral.field-0)

pub returns-in-ObjectLiteral : goal.returns-in-ObjectLiteral
returns-in-ObjectLiteral t c = sym (ap (is_one is_let) (tokens_is_ObjectLiteral written _ _ c.in-ObjectLiteral.is) ∙ one_bracketed is_let c.in-ObjectLiteral.field-0)

pub returns-in-Parenthesized : goal.returns-in-Parenthesized
returns-in-Parenthesized t c = sym (ap (is_one is_let) (tokens_is_Parenthesized written _ _ c.in-Parenthesized.is) ∙ one_bracketed is_let c.in-Parenthesized.field-0)

pub returns-in-TemplateLiteral : goal.returns-in-TemplateLiteral
returns-in-TemplateLiteral t c = sym (ap (is_one is_let) (tokens_is_TemplateLiteral written _ _ c.in-TemplateLiteral.is) ∙ one_substitutions is_let c.in-TemplateLiteral.field-0)

pub returns-in-FunctionExpression : goal.returns-in-FunctionExpression
returns-in-FunctionExpression t c = sym (ap (is_one is_let) (tokens_is_FunctionExpression written _ _ c.in-FunctionExpression.is) ∙ one_function is_let c.in-FunctionExpression.field-0)

pub returns-in-ClassExpression : goal.returns-in-ClassExpression
returns-in-ClassExpression t c = sym (ap (is_one is_let) (tokens_is_ClassExpression written _ _ c.in-ClassExpression.is) ∙ one_class is_let c.in-ClassExpression.field-0)

pub returns-in-empty : goal.returns-in-empty
returns-in-empty t c = c.is_let_alone.ensures ∙ ap (λ y. is_one is_let (tokens_of_expression written y)) c.get.ensures ∙ sym (ap (is_one is_let) (tokens_is_Member written _ _ _ c.in-Member.is) ∙ alone_none is_let (tokens_of_link written) (tokens_of_expression written c.in-Member.object) _ _ c.as_slice.ensures c.in-empty.len_below)

pub returns-in-len1-up : goal.returns-in-len1-up
returns-in-len1-up t c = sym (ap (is_one is_let) (tokens_is_Member written _ _ _ c.in-Member.is) ∙ alone_some is_let (tokens_of_link written) (tokens_of_expression written c.in-Member.object) _ _ c.as_slice.ensures c.in-len1-up.len_at_least (led c.in-Member.object) led_link)

pub returns-in-New : goal.returns-in-New
returns-in-New t c = sym (ap (is_one is_let) (tokens_is_New written _ _ _ _ c.in-New.is) ∙ two is_let c.in-New.field-0 (tokens_of_expression written c.in-New.field-1 ++ tokens_of_bracketed written c.in-New.field-2) (led_append (tokens_of_expression written c.in-New.field-1) (tokens_of_bracketed written c.in-New.field-2) (led c.in-New.field-1)))

pub returns-in-NewPlain : goal.returns-in-NewPlain
returns-in-NewPlain t c = sym (ap (is_one is_let) (tokens_is_NewPlain written _ _ _ c.in-NewPlain.is) ∙ two is_let c.in-NewPlain.field-0 (tokens_of_expression written c.in-NewPlain.field-1) (led c.in-NewPlain.field-1))

pub returns-in-ImportCall : goal.returns-in-ImportCall
returns-in-ImportCall t c = sym (ap (is_one is_let) (tokens_is_ImportCall written _ _ _ _ _ c.in-ImportCall.is))

pub returns-in-PrefixUpdate : goal.returns-in-PrefixUpdate
returns-in-PrefixUpdate t c = sym (ap (is_one is_let) (tokens_is_PrefixUpdate written _ _ _ c.in-PrefixUpdate.is) ∙ two is_let c.in-PrefixUpdate.field-0 (tokens_of_expression written c.in-PrefixUpdate.field-1) (led c.in-PrefixUpdate.field-1))

pub returns-in-PostfixUpdate : goal.returns-in-PostfixUpdate
returns-in-PostfixUpdate t c = sym (ap (is_one is_let) (tokens_is_PostfixUpdate written _ _ _ c.in-PostfixUpdate.is) ∙ both_led is_let (tokens_of_expression written c.in-PostfixUpdate.field-0) (c.in-PostfixUpdate.field-1 ∷ []) (led c.in-PostfixUpdate.field-0) (led_by (c.in-PostfixUpdate.field-1 ∷ []) _ _ refl))

pub returns-in-Unary : goal.returns-in-Unary
returns-in-Unary t c = sym (ap (is_one is_let) (tokens_is_Unary written _ _ _ c.in-Unary.is) ∙ two is_let c.in-Unary.field-0 (tokens_of_expression written c.in-Unary.field-1) (led c.in-Unary.field-1))

pub returns-in-Await : goal.returns-in-Await
returns-in-Await t c = sym (ap (is_one is_let) (tokens_is_Await written _ _ _ c.in-Await.is) ∙ two is_let c.in-Await.field-0 (tokens_of_expression written c.in-Await.field-1) (led c.in-Await.field-1))

pub returns-in-empty-as_slice : goal.returns-in-empty-as_slice
returns-in-empty-as_slice t c = c.is_let_alone-in-empty-as_slice.ensures ∙ ap (λ y. is_one is_let (tokens_of_expression written y)) c.get-in-empty-as_slice.ensures ∙ sym (ap (is_one is_let) (tokens_is_Binary written _ _ _ c.in-Binary.is) ∙ alone_none is_let (tokens_of_operand written) (tokens_of_expression written c.in-Binary.first) _ _ c.as_slice-in-Binary.ensures c.in-empty-as_slice.len_below)

pub returns-in-len1-up-as_slice : goal.returns-in-len1-up-as_slice
returns-in-len1-up-as_slice t c = sym (ap (is_one is_let) (tokens_is_Binary written _ _ _ c.in-Binary.is) ∙ alone_some is_let (tokens_of_operand written) (tokens_of_expression written c.in-Binary.first) _ _ c.as_slice-in-Binary.ensures c.in-len1-up-as_slice.len_at_least (led c.in-Binary.first) led_operand)

pub returns-in-Conditional : goal.returns-in-Conditional
returns-in-Conditional t c = sym (ap (is_one is_let) (tokens_is_Conditional written _ _ _ _ _ _ c.in-Conditional.is) ∙ both_led is_let (tokens_of_expression written c.in-Conditional.field-0) (c.in-Conditional.field-1 ∷ (tokens_of_expression written c.in-Conditional.field-2 ++ (c.in-Conditional.field-3 ∷ tokens_of_expression written c.in-Conditional.field-4))) (led c.in-Conditional.field-0) (led_by (c.in-Conditional.field-1 ∷ (tokens_of_expression written c.in-Conditional.field-2 ++ (c.in-Conditional.field-3 ∷ tokens_of_expression written c.in-Conditional.field-4))) _ _ refl))

pub returns-in-Assignment : goal.returns-in-Assignment
returns-in-Assignment t c = sym (ap (is_one is_let) (tokens_is_Assignment written _ _ _ _ c.in-Assignment.is) ∙ both_led is_let (tokens_of_expression written c.in-Assignment.field-0) (c.in-Assignment.field-1 ∷ tokens_of_expression written c.in-Assignment.field-2) (led c.in-Assignment.field-0) (led_by (c.in-Assignment.field-1 ∷ tokens_of_expression written c.in-Assignment.field-2) _ _ refl))

pub returns-in-Arrow : goal.returns-in-Arrow
returns-in-Arrow t c = sym (ap (is_one is_let) (tokens_is_Arrow written _ _ _ _ c.in-Arrow.is) ∙ both_led is_let (tokens_of_expression written c.in-Arrow.field-0) (c.in-Arrow.field-1 ∷ tokens_of_concise_body written c.in-Arrow.field-2) (led c.in-Arrow.field-0) (led_by (c.in-Arrow.field-1 ∷ tokens_of_concise_body written c.in-Arrow.field-2) _ _ refl))

pub returns-in-AsyncArrow : goal.returns-in-AsyncArrow
returns-in-AsyncArrow t c = sym (ap (is_one is_let) (tokens_is_AsyncArrow written _ _ _ _ _ c.in-AsyncArrow.is))

pub returns-in-Yield : goal.returns-in-Yield
returns-in-Yield t c = c.is_let-in-Yield.ensures ∙ sym (ap (is_one is_let) (tokens_is_Yield written _ _ c.in-Yield.is))

pub returns-in-YieldValue : goal.returns-in-YieldValue
returns-in-YieldValue t c = sym (ap (is_one is_let) (tokens_is_YieldValue written _ _ _ c.in-YieldValue.is) ∙ two is_let c.in-YieldValue.field-0 (tokens_of_expression written c.in-YieldValue.field-1) (led c.in-YieldValue.field-1))

pub returns-in-YieldEach : goal.returns-in-YieldEach
returns-in-YieldEach t c = sym (ap (is_one is_let) (tokens_is_YieldEach written _ _ _ _ c.in-YieldEach.is))
