use Rattle.std.proofs.Common.{◌∙◌, ap, sym}
use Rattle.esb_grammar.specs.Edges.{ends_assignment, body_ends_assignment, operand_ends_assignment}
use Rattle.esb_grammar.proofs.EdgeLines.{ends_Primary, ends_MetaProperty, ends_ArrayLiteral, ends_ObjectLiteral, ends_Parenthesized, ends_TemplateLiteral, ends_FunctionExpression, ends_ClassExpression, ends_Member, ends_New, ends_NewPlain, ends_ImportCall, ends_PrefixUpdate, ends_PostfixUpdate, ends_Unary, ends_Await, ends_Binary, ends_Conditional, ends_Assignment, ends_Arrow, ends_AsyncArrow, ends_Yield, ends_YieldValue, ends_YieldEach, ends_ConciseValue, ends_ConciseBlock}
use Rattle.esb_statement_tests.proofs.Lasts.{none_last, some_last, ends_operand}
use Rattle.esb_statement_tests.proofs.edges.+endings.Goals as goal

pub ends_assignment-returns-in-Primary : goal.ends_assignment-returns-in-Primary
ends_assignment-returns-in-Primary t c = sym (ap ends_assignment c.in-Primary.is ∙ ends_Primary _)

pub ends_assignment-returns-in-MetaProperty : goal.ends_assignment-returns-in-MetaProperty
ends_assignment-returns-in-MetaProperty t c = sym (ap ends_assignment c.in-MetaProperty.is ∙ ends_MetaProperty _ _ _)

pub ends_assignment-returns-in-ArrayLiteral : goal.ends_assignment-returns-in-ArrayLiteral
ends_assignment-returns-in-ArrayLiteral t c = sym (ap ends_assignment c.in-ArrayLiteral.is ∙ ends_ArrayLiteral _)

pub ends_assignment-returns-in-ObjectLiteral : goal.ends_assignment-returns-in-ObjectLiteral
ends_assignment-returns-in-ObjectLiteral t c = sym (ap ends_assignment c.in-ObjectLiteral.is ∙ ends_ObjectLiteral _)

pub ends_assignment-returns-in-Parenthesized : goal.ends_assignment-returns-in-Parenthesized
ends_assignment-returns-in-Parenthesized t c = sym (ap ends_assignment c.in-Parenthesized.is ∙ ends_Parenthesized _)

pub ends_assignment-returns-in-TemplateLiteral : goal.ends_assignment-returns-in-TemplateLiteral
ends_assignment-returns-in-TemplateLiteral t c = sym (ap ends_assignment c.in-TemplateLiteral.is ∙ ends_TemplateLiteral _)

pub ends_assignment-returns-in-FunctionExpression : goal.ends_assignment-returns-in-FunctionExpression
ends_assignment-returns-in-FunctionExpression t c = sym (ap ends_assignment c.in-FunctionExpression.is ∙ ends_FunctionExpression _)

pub ends_assignment-returns-in-ClassExpression : goal.ends_assignment-returns-in-ClassExpression
ends_assignment-returns-in-ClassExpression t c = sym (ap ends_assignment c.in-ClassExpression.is ∙ ends_ClassExpression _)

pub ends_assignment-returns-in-Member : goal.ends_assignment-returns-in-Member
ends_assignment-returns-in-Member t c = sym (ap ends_assignment c.in-Member.is ∙ ends_Member _ _)

pub ends_assignment-returns-in-New : goal.ends_assignment-returns-in-New
ends_assignment-returns-in-New t c = sym (ap ends_assignment c.in-New.is ∙ ends_New _ _ _)

pub ends_assignment-returns-in-NewPlain : goal.ends_assignment-returns-in-NewPlain
ends_assignment-returns-in-NewPlain t c = sym (ap ends_assignment c.in-NewPlain.is ∙ ends_NewPlain _ _)

pub ends_assignment-returns-in-ImportCall : goal.ends_assignment-returns-in-ImportCall
ends_assignment-returns-in-ImportCall t c = sym (ap ends_assignment c.in-ImportCall.is ∙ ends_ImportCall _ _ _ _)

pub ends_assignment-returns-in-PrefixUpdate : goal.ends_assignment-returns-in-PrefixUpdate
ends_assignment-returns-in-PrefixUpdate t c = sym (ap ends_assignment c.in-PrefixUpdate.is ∙ ends_PrefixUpdate _ _)

pub ends_assignment-returns-in-PostfixUpdate : goal.ends_assignment-returns-in-PostfixUpdate
ends_assignment-returns-in-PostfixUpdate t c = sym (ap ends_assignment c.in-PostfixUpdate.is ∙ ends_PostfixUpdate _ _)

pub ends_assignment-returns-in-Unary : goal.ends_assignment-returns-in-Unary
ends_assignment-returns-in-Unary t c = sym (ap ends_assignment c.in-Unary.is ∙ ends_Unary _ _)

pub ends_assignment-returns-in-Await : goal.ends_assignment-returns-in-Await
ends_assignment-returns-in-Await t c = sym (ap ends_assignment c.in-Await.is ∙ ends_Await _ _)

pub ends_assignment-returns-in-empty : goal.ends_assignment-returns-in-empty
ends_assignment-returns-in-empty t c = sym (ap ends_assignment c.in-Binary.is ∙ ends_Binary _ _ ∙ none_last operand_ends_assignment _ _ c.as_slice.ensures c.in-empty.len_below)

pub ends_assignment-returns-in-len1-up : goal.ends_assignment-returns-in-len1-up
ends_assignment-returns-in-len1-up t c = c.ends_assignment.ensures ∙ sym (ap ends_assignment c.in-Binary.is ∙ ends_Binary _ _ ∙ some_last operand_ends_assignment _ _ _ c.as_slice.ensures c.in-len1-up.len_at_least c.last-item.is ∙ ends_operand c.last-item.result)

pub ends_assignment-returns-in-Conditional : goal.ends_assignment-returns-in-Conditional
ends_assignment-returns-in-Conditional t c = c.ends_assignment-in-Conditional.ensures ∙ ap ends_assignment c.get.ensures ∙ sym (ap ends_assignment c.in-Conditional.is ∙ ends_Conditional _ _ _ _ _)

pub ends_assignment-returns-in-Assignment : goal.ends_assignment-returns-in-Assignment
ends_assignment-returns-in-Assignment t c = c.ends_assignment-in-Assignment.ensures ∙ ap ends_assignment c.get-in-Assignment.ensures ∙ sym (ap ends_assignment c.in-Assignment.is ∙ ends_Assignment _ _ _)

pub ends_assignment-returns-in-Arrow : goal.ends_assignment-returns-in-Arrow
ends_assignment-returns-in-Arrow t c = c.body_ends_assignment.ensures ∙ ap body_ends_assignment c.get-in-Arrow.ensures ∙ sym (ap ends_assignment c.in-Arrow.is ∙ ends_Arrow _ _ _)

pub ends_assignment-returns-in-AsyncArrow : goal.ends_assignment-returns-in-AsyncArrow
ends_assignment-returns-in-AsyncArrow t c = c.body_ends_assignment-in-AsyncArrow.ensures ∙ ap body_ends_assignment c.get-in-AsyncArrow.ensures ∙ sym (ap ends_assignment c.in-AsyncArrow.is ∙ ends_AsyncArrow _ _ _ _)

pub ends_assignment-returns-in-Yield : goal.ends_assignment-returns-in-Yield
ends_assignment-returns-in-Yield t c = sym (ap ends_assignment c.in-Yield.is ∙ ends_Yield _)

pub ends_assignment-returns-in-YieldValue : goal.ends_assignment-returns-in-YieldValue
ends_assignment-returns-in-YieldValue t c = c.ends_assignment-in-YieldValue.ensures ∙ ap ends_assignment c.get-in-YieldValue.ensures ∙ sym (ap ends_assignment c.in-YieldValue.is ∙ ends_YieldValue _ _)

pub ends_assignment-returns-in-YieldEach : goal.ends_assignment-returns-in-YieldEach
ends_assignment-returns-in-YieldEach t c = c.ends_assignment-in-YieldEach.ensures ∙ ap ends_assignment c.get-in-YieldEach.ensures ∙ sym (ap ends_assignment c.in-YieldEach.is ∙ ends_YieldEach _ _ _)

pub body_ends_assignment-returns-in-ConciseValue : goal.body_ends_assignment-returns-in-ConciseValue
body_ends_assignment-returns-in-ConciseValue t c = c.ends_assignment.ensures ∙ sym (ap body_ends_assignment c.in-ConciseValue.is ∙ ends_ConciseValue _)

pub body_ends_assignment-returns-in-ConciseBlock : goal.body_ends_assignment-returns-in-ConciseBlock
body_ends_assignment-returns-in-ConciseBlock t c = sym (ap body_ends_assignment c.in-ConciseBlock.is ∙ ends_ConciseBlock _)
