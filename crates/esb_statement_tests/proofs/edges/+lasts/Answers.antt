use Rattle.std.proofs.Common.{◌∙◌, ◌∷◌, ◌++◌, ap, sym}
use Rattle.esb_tree.specs.declared.classes.Class.{out-Class}
use Rattle.esb_tree.specs.declared.expressions.Substitutions.{out-Substitutions}
use Rattle.esb_tree.specs.declared.functions.Function.{out-Function}
use Rattle.esb_tree.specs.declared.patterns.Bracketed.{out-Bracketed}
use Rattle.esb_tree.specs.declared.statements.Block.{out-Block}
use Rattle.esb_tree.specs.Trees.{written}
use Rattle.esb_tree.specs.Yields.{tokens_of_concise_body, tokens_of_expression, tokens_of_link, tokens_of_operand}
use Rattle.esb_tree.proofs.TokenLines.{tokens_is_Primary, tokens_is_MetaProperty, tokens_is_ArrayLiteral, tokens_is_ObjectLiteral, tokens_is_Parenthesized, tokens_is_TemplateLiteral, tokens_is_FunctionExpression, tokens_is_ClassExpression, tokens_is_Member, tokens_is_New, tokens_is_NewPlain, tokens_is_ImportCall, tokens_is_PrefixUpdate, tokens_is_PostfixUpdate, tokens_is_Unary, tokens_is_Await, tokens_is_Binary, tokens_is_Conditional, tokens_is_Assignment, tokens_is_Arrow, tokens_is_AsyncArrow, tokens_is_Yield, tokens_is_YieldValue, tokens_is_YieldEach, tokens_is_ConciseValue, tokens_is_ConciseBlock, tokens_at_Operand}
use Rattle.esb_statement_tests.specs.Last.{last_or}
use Rattle.esb_statement_tests.proofs.Lasts.{last_behind, last_none, last_some, ends_one, ends_cons, ends_append, ends_is, ends_bracketed, ends_block, ends_substitutions, ends_class, ends_function}
use Rattle.esb_statement_tests.proofs.edges.+lasts.Goals as goal

pub last_token-returns-in-Primary : goal.last_token-returns-in-Primary
last_token-returns-in-Primary t c = sym ((ends_is (tokens_is_Primary written _ _ c.in-Primary.is) (ends_one _)).is c.args.before)

pub last_token-returns-in-MetaProperty : goal.last_token-returns-in-MetaProperty
last_token-returns-in-MetaProperty t c = sym ((ends_is (tokens_is_MetaProperty written _ _ _ _ c.in-MetaProperty.is) (ends_cons _ (ends_cons _ (ends_one _)))).is c.args.before)

pub last_token-returns-in-ArrayLiteral : goal.last_token-returns-in-ArrayLiteral
last_token-returns-in-ArrayLiteral t c = ap (λ y. (out-Bracketed y).ending) c.get.ensures ∙ sym ((ends_is (tokens_is_ArrayLiteral written _ _ c.in-ArrayLiteral.is) (ends_bracketed c.in-ArrayLiteral.list)).is c.args.before)

pub last_token-returns-in-ObjectLiteral : goal.last_token-returns-in-ObjectLiteral
last_token-returns-in-ObjectLiteral t c = ap (λ y. (out-Bracketed y).ending) c.get-in-ObjectLiteral.ensures ∙ sym ((ends_is (tokens_is_ObjectLiteral written _ _ c.in-ObjectLiteral.is) (ends_bracketed c.in-ObjectLiteral.list)).is c.args.before)

pub last_token-returns-in-Parenthesized : goal.last_token-returns-in-Parenthesized
last_token-returns-in-Parenthesized t c = ap (λ y. (out-Bracketed y).ending) c.get-in-Parenthesized.ensures ∙ sym ((ends_is (tokens_is_Parenthesized written _ _ c.in-Parenthesized.is) (ends_bracketed c.in-Parenthesized.list)).is c.args.before)

pub last_token-returns-in-TemplateLiteral : goal.last_token-returns-in-TemplateLiteral
last_token-returns-in-TemplateLiteral t c = ap (λ y. (out-Substitutions y).tail) c.get-in-TemplateLiteral.ensures ∙ sym ((ends_is (tokens_is_TemplateLiteral written _ _ c.in-TemplateLiteral.is) (ends_substitutions c.in-TemplateLiteral.template)).is c.args.before)

pub last_token-returns-in-FunctionExpression : goal.last_token-returns-in-FunctionExpression
last_token-returns-in-FunctionExpression t c = ap (λ y. (out-Block (out-Function y).body).ending) c.get-in-FunctionExpression.ensures ∙ sym ((ends_is (tokens_is_FunctionExpression written _ _ c.in-FunctionExpression.is) (ends_function c.in-FunctionExpression.function)).is c.args.before)

pub last_token-returns-in-ClassExpression : goal.last_token-returns-in-ClassExpression
last_token-returns-in-ClassExpression t c = ap (λ y. (out-Class y).ending) c.get-in-ClassExpression.ensures ∙ sym ((ends_is (tokens_is_ClassExpression written _ _ c.in-ClassExpression.is) (ends_class c.in-ClassExpression.class)).is c.args.before)

pub last_token-returns-in-empty : goal.last_token-returns-in-empty
last_token-returns-in-empty t c = c.last_token.ensures ∙ ap (λ y. last_or c.args.before (tokens_of_expression written y)) c.get-in-empty.ensures ∙ sym (ap (last_or c.args.before) (tokens_is_Member written _ _ _ c.in-Member.is) ∙ last_none c.args.before (tokens_of_link written) (tokens_of_expression written c.in-Member.object) _ _ c.as_slice.ensures c.in-empty.len_below)

pub last_token-returns-in-len1-up : goal.last_token-returns-in-len1-up
last_token-returns-in-len1-up t c = sym (ap (last_or c.args.before) (tokens_is_Member written _ _ _ c.in-Member.is) ∙ last_some c.args.before (tokens_of_link written) (tokens_of_expression written c.in-Member.object) _ _ _ _ c.as_slice.ensures c.in-len1-up.len_at_least c.last-item.is c.last_of_link.ensures)

pub last_token-returns-in-New : goal.last_token-returns-in-New
last_token-returns-in-New t c = ap (λ y. (out-Bracketed y).ending) c.get-in-New.ensures ∙ sym ((ends_is (tokens_is_New written _ _ _ _ c.in-New.is) (ends_cons _ (ends_append (tokens_of_expression written c.in-New.field-1) (ends_bracketed c.in-New.arguments)))).is c.args.before)

pub last_token-returns-in-NewPlain : goal.last_token-returns-in-NewPlain
last_token-returns-in-NewPlain t c = c.last_token-in-NewPlain.ensures ∙ ap (λ y. last_or c.in-NewPlain.word (tokens_of_expression written y)) c.get-in-NewPlain.ensures ∙ sym (ap (last_or c.args.before) (tokens_is_NewPlain written _ _ _ c.in-NewPlain.is))

pub last_token-returns-in-ImportCall : goal.last_token-returns-in-ImportCall
last_token-returns-in-ImportCall t c = sym ((ends_is (tokens_is_ImportCall written _ _ _ _ _ c.in-ImportCall.is) (ends_cons _ (ends_cons _ (ends_append (tokens_of_expression written c.in-ImportCall.field-2) (ends_one _))))).is c.args.before)

pub last_token-returns-in-PrefixUpdate : goal.last_token-returns-in-PrefixUpdate
last_token-returns-in-PrefixUpdate t c = c.last_token-in-PrefixUpdate.ensures ∙ ap (λ y. last_or c.in-PrefixUpdate.operator (tokens_of_expression written y)) c.get-in-PrefixUpdate.ensures ∙ sym (ap (last_or c.args.before) (tokens_is_PrefixUpdate written _ _ _ c.in-PrefixUpdate.is))

pub last_token-returns-in-PostfixUpdate : goal.last_token-returns-in-PostfixUpdate
last_token-returns-in-PostfixUpdate t c = sym ((ends_is (tokens_is_PostfixUpdate written _ _ _ c.in-PostfixUpdate.is) (ends_append (tokens_of_expression written c.in-PostfixUpdate.field-0) (ends_one _))).is c.args.before)

pub last_token-returns-in-Unary : goal.last_token-returns-in-Unary
last_token-returns-in-Unary t c = c.last_token-in-Unary.ensures ∙ ap (λ y. last_or c.in-Unary.operator (tokens_of_expression written y)) c.get-in-Unary.ensures ∙ sym (ap (last_or c.args.before) (tokens_is_Unary written _ _ _ c.in-Unary.is))

pub last_token-returns-in-Await : goal.last_token-returns-in-Await
last_token-returns-in-Await t c = c.last_token-in-Await.ensures ∙ ap (λ y. last_or c.in-Await.word (tokens_of_expression written y)) c.get-in-Await.ensures ∙ sym (ap (last_or c.args.before) (tokens_is_Await written _ _ _ c.in-Await.is))

pub last_token-returns-in-empty-as_slice : goal.last_token-returns-in-empty-as_slice
last_token-returns-in-empty-as_slice t c = c.last_token-in-empty-as_slice.ensures ∙ ap (λ y. last_or c.args.before (tokens_of_expression written y)) c.get-in-empty-as_slice.ensures ∙ sym (ap (last_or c.args.before) (tokens_is_Binary written _ _ _ c.in-Binary.is) ∙ last_none c.args.before (tokens_of_operand written) (tokens_of_expression written c.in-Binary.first) _ _ c.as_slice-in-Binary.ensures c.in-empty-as_slice.len_below)

pub last_token-returns-in-len1-up-as_slice : goal.last_token-returns-in-len1-up-as_slice
last_token-returns-in-len1-up-as_slice t c = c.last_token-in-len1-up-as_slice.ensures ∙ sym (ap (last_or c.args.before) (tokens_is_Binary written _ _ _ c.in-Binary.is) ∙ last_some c.args.before (tokens_of_operand written) (tokens_of_expression written c.in-Binary.first) _ _ _ _ c.as_slice-in-Binary.ensures c.in-len1-up-as_slice.len_at_least c.last-item-in-Binary.is (λ d. ap (last_or d) (tokens_at_Operand written c.last-item-in-Binary.result)))

pub last_token-returns-in-Conditional : goal.last_token-returns-in-Conditional
last_token-returns-in-Conditional t c = c.last_token-in-Conditional.ensures ∙ ap (λ y. last_or c.in-Conditional.colon (tokens_of_expression written y)) c.get-in-Conditional.ensures ∙ sym (ap (last_or c.args.before) (tokens_is_Conditional written _ _ _ _ _ _ c.in-Conditional.is) ∙ last_behind c.args.before (tokens_of_expression written c.in-Conditional.field-0) c.in-Conditional.field-1 (tokens_of_expression written c.in-Conditional.field-2 ++ (c.in-Conditional.colon ∷ tokens_of_expression written c.in-Conditional.x)) ∙ last_behind c.in-Conditional.field-1 (tokens_of_expression written c.in-Conditional.field-2) c.in-Conditional.colon (tokens_of_expression written c.in-Conditional.x))

pub last_token-returns-in-Assignment : goal.last_token-returns-in-Assignment
last_token-returns-in-Assignment t c = c.last_token-in-Assignment.ensures ∙ ap (λ y. last_or c.in-Assignment.operator (tokens_of_expression written y)) c.get-in-Assignment.ensures ∙ sym (ap (last_or c.args.before) (tokens_is_Assignment written _ _ _ _ c.in-Assignment.is) ∙ last_behind c.args.before (tokens_of_expression written c.in-Assignment.field-0) c.in-Assignment.operator (tokens_of_expression written c.in-Assignment.x))

pub last_token-returns-in-Arrow : goal.last_token-returns-in-Arrow
last_token-returns-in-Arrow t c = c.last_of_body.ensures ∙ ap (λ y. last_or c.in-Arrow.arrow (tokens_of_concise_body written y)) c.get-in-Arrow.ensures ∙ sym (ap (last_or c.args.before) (tokens_is_Arrow written _ _ _ _ c.in-Arrow.is) ∙ last_behind c.args.before (tokens_of_expression written c.in-Arrow.field-0) c.in-Arrow.arrow (tokens_of_concise_body written c.in-Arrow.body))

pub last_token-returns-in-AsyncArrow : goal.last_token-returns-in-AsyncArrow
last_token-returns-in-AsyncArrow t c = c.last_of_body-in-AsyncArrow.ensures ∙ ap (λ y. last_or c.in-AsyncArrow.arrow (tokens_of_concise_body written y)) c.get-in-AsyncArrow.ensures ∙ sym (ap (last_or c.args.before) (tokens_is_AsyncArrow written _ _ _ _ _ c.in-AsyncArrow.is))

pub last_token-returns-in-Yield : goal.last_token-returns-in-Yield
last_token-returns-in-Yield t c = sym ((ends_is (tokens_is_Yield written _ _ c.in-Yield.is) (ends_one _)).is c.args.before)

pub last_token-returns-in-YieldValue : goal.last_token-returns-in-YieldValue
last_token-returns-in-YieldValue t c = c.last_token-in-YieldValue.ensures ∙ ap (λ y. last_or c.in-YieldValue.word (tokens_of_expression written y)) c.get-in-YieldValue.ensures ∙ sym (ap (last_or c.args.before) (tokens_is_YieldValue written _ _ _ c.in-YieldValue.is))

pub last_token-returns-in-YieldEach : goal.last_token-returns-in-YieldEach
last_token-returns-in-YieldEach t c = c.last_token-in-YieldEach.ensures ∙ ap (λ y. last_or c.in-YieldEach.star (tokens_of_expression written y)) c.get-in-YieldEach.ensures ∙ sym (ap (last_or c.args.before) (tokens_is_YieldEach written _ _ _ _ c.in-YieldEach.is))

pub last_of_body-returns-in-ConciseValue : goal.last_of_body-returns-in-ConciseValue
last_of_body-returns-in-ConciseValue t c = c.last_token.ensures ∙ sym (ap (last_or c.args.before) (tokens_is_ConciseValue written _ _ c.in-ConciseValue.is))

pub last_of_body-returns-in-ConciseBlock : goal.last_of_body-returns-in-ConciseBlock
last_of_body-returns-in-ConciseBlock t c = sym ((ends_is (tokens_is_ConciseBlock written _ _ c.in-ConciseBlock.is) (ends_block c.in-ConciseBlock.block)).is c.args.before)
