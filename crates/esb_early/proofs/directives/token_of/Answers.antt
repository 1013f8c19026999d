use Rattle.std.proofs.Common.{ap, sym}
use Rattle.esb_early.proofs.RuleLines.{shape_Primary, shape_MetaProperty, shape_ArrayLiteral, shape_ObjectLiteral, shape_Parenthesized, shape_TemplateLiteral, shape_FunctionExpression, shape_ClassExpression, shape_Member, shape_New, shape_NewPlain, shape_ImportCall, shape_PrefixUpdate, shape_PostfixUpdate, shape_Unary, shape_Await, shape_Binary, shape_Conditional, shape_Assignment, shape_Arrow, shape_AsyncArrow, shape_Yield, shape_YieldValue, shape_YieldEach}
use Rattle.esb_early.proofs.directives.token_of.Goals as goal

pub returns-in-Primary : goal.returns-in-Primary
returns-in-Primary c = sym (ap (λ s. s.token) (shape_Primary _ _ c.in-Primary.is))

pub returns-in-MetaProperty : goal.returns-in-MetaProperty
returns-in-MetaProperty c = sym (ap (λ s. s.token) (shape_MetaProperty _ _ _ _ c.in-MetaProperty.is))

pub returns-in-ArrayLiteral : goal.returns-in-ArrayLiteral
returns-in-ArrayLiteral c = sym (ap (λ s. s.token) (shape_ArrayLiteral _ _ c.in-ArrayLiteral.is))

pub returns-in-ObjectLiteral : goal.returns-in-ObjectLiteral
returns-in-ObjectLiteral c = sym (ap (λ s. s.token) (shape_ObjectLiteral _ _ c.in-ObjectLiteral.is))

pub returns-in-Parenthesized : goal.returns-in-Parenthesized
returns-in-Parenthesized c = sym (ap (λ s. s.token) (shape_Parenthesized _ _ c.in-Parenthesized.is))

pub returns-in-TemplateLiteral : goal.returns-in-TemplateLiteral
returns-in-TemplateLiteral c = sym (ap (λ s. s.token) (shape_TemplateLiteral _ _ c.in-TemplateLiteral.is))

pub returns-in-FunctionExpression : goal.returns-in-FunctionExpression
returns-in-FunctionExpression c = sym (ap (λ s. s.token) (shape_FunctionExpression _ _ c.in-FunctionExpression.is))

pub returns-in-ClassExpression : goal.returns-in-ClassExpression
returns-in-ClassExpression c = sym (ap (λ s. s.token) (shape_ClassExpression _ _ c.in-ClassExpression.is))

pub returns-in-Member : goal.returns-in-Member
returns-in-Member c = sym (ap (λ s. s.token) (shape_Member _ _ _ c.in-Member.is))

pub returns-in-New : goal.returns-in-New
returns-in-New c = sym (ap (λ s. s.token) (shape_New _ _ _ _ c.in-New.is))

pub returns-in-NewPlain : goal.returns-in-NewPlain
returns-in-NewPlain c = sym (ap (λ s. s.token) (shape_NewPlain _ _ _ c.in-NewPlain.is))

pub returns-in-ImportCall : goal.returns-in-ImportCall
returns-in-ImportCall c = sym (ap (λ s. s.token) (shape_ImportCall _ _ _ _ _ c.in-ImportCall.is))

pub returns-in-PrefixUpdate : goal.returns-in-PrefixUpdate
returns-in-PrefixUpdate c = sym (ap (λ s. s.token) (shape_PrefixUpdate _ _ _ c.in-PrefixUpdate.is))

pub returns-in-PostfixUpdate : goal.returns-in-PostfixUpdate
returns-in-PostfixUpdate c = sym (ap (λ s. s.token) (shape_PostfixUpdate _ _ _ c.in-PostfixUpdate.is))

pub returns-in-Unary : goal.returns-in-Unary
returns-in-Unary c = sym (ap (λ s. s.token) (shape_Unary _ _ _ c.in-Unary.is))

pub returns-in-Await : goal.returns-in-Await
returns-in-Await c = sym (ap (λ s. s.token) (shape_Await _ _ _ c.in-Await.is))

pub returns-in-Binary : goal.returns-in-Binary
returns-in-Binary c = sym (ap (λ s. s.token) (shape_Binary _ _ _ c.in-Binary.is))

pub returns-in-Conditional : goal.returns-in-Conditional
returns-in-Conditional c = sym (ap (λ s. s.token) (shape_Conditional _ _ _ _ _ _ c.in-Conditional.is))

pub returns-in-Assignment : goal.returns-in-Assignment
returns-in-Assignment c = sym (ap (λ s. s.token) (shape_Assignment _ _ _ _ c.in-Assignment.is))

pub returns-in-Arrow : goal.returns-in-Arrow
returns-in-Arrow c = sym (ap (λ s. s.token) (shape_Arrow _ _ _ _ c.in-Arrow.is))

pub returns-in-AsyncArrow : goal.returns-in-AsyncArrow
returns-in-AsyncArrow c = sym (ap (λ s. s.token) (shape_AsyncArrow _ _ _ _ _ c.in-AsyncArrow.is))

pub returns-in-Yield : goal.returns-in-Yield
returns-in-Yield c = sym (ap (λ s. s.token) (shape_Yield _ _ c.in-Yield.is))

pub returns-in-YieldValue : goal.returns-in-YieldValue
returns-in-YieldValue c = sym (ap (λ s. s.token) (shape_YieldValue _ _ _ c.in-YieldValue.is))

pub returns-in-YieldEach : goal.returns-in-YieldEach
returns-in-YieldEach c = sym (ap (λ s. s.token) (shape_YieldEach _ _ _ _ c.in-YieldEach.is))
