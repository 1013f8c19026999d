use Rattle.std.proofs.Common.{map, refl}
use Rattle.esb_early.specs.Parameters.{joined}
use Rattle.esb_early.specs.Rules as spec
use Rattle.esb_early.proofs.GatherSteps.{gathers_none, gathers_is, gathers_of, gathers_both, gathers_next, gathers_end}
use Rattle.esb_early.proofs.RuleLines.{each_names_of_link, each_names_of_next_element, names_ArrayLiteral, names_Arrow, names_Assignment, names_AsyncArrow, names_Await, names_Binary, names_Call, names_ClassExpression, names_Conditional, names_Dot, names_FunctionExpression, names_Hole, names_ImportCall, names_Index, names_Initialized, names_Member, names_MetaProperty, names_MethodProperty, names_New, names_NewPlain, names_ObjectLiteral, names_OptionalCall, names_OptionalDot, names_OptionalIndex, names_Parenthesized, names_PostfixUpdate, names_PrefixUpdate, names_Primary, names_Property, names_Shorthand, names_Spread, names_Tagged, names_TaggedTemplate, names_TemplateLiteral, names_Unary, names_Value, names_Yield, names_YieldEach, names_YieldValue, names_at_Bracketed, names_at_Elements, names_at_NextElement}
use Rattle.esb_early.proofs.gathered.+gather.Goals as goal

pub gather_expression-returns-in-Primary : goal.gather_expression-returns-in-Primary
gather_expression-returns-in-Primary t c = gathers_is _ _ _ _ (names_Primary _ _ c.in-Primary.is) c.gather_primary.ensures

pub gather_expression-returns-in-MetaProperty : goal.gather_expression-returns-in-MetaProperty
gather_expression-returns-in-MetaProperty t c = gathers_is _ _ _ _ (names_MetaProperty _ _ _ _ c.in-MetaProperty.is) (gathers_none _)

pub gather_expression-returns-in-ArrayLiteral : goal.gather_expression-returns-in-ArrayLiteral
gather_expression-returns-in-ArrayLiteral t c = gathers_is _ _ _ _ (names_ArrayLiteral _ _ c.in-ArrayLiteral.is) (gathers_of spec.names_of_bracketed _ _ _ _ c.get.ensures c.gather_bracketed.ensures)

pub gather_expression-returns-in-ObjectLiteral : goal.gather_expression-returns-in-ObjectLiteral
gather_expression-returns-in-ObjectLiteral t c = gathers_is _ _ _ _ (names_ObjectLiteral _ _ c.in-ObjectLiteral.is) (gathers_of spec.names_of_bracketed _ _ _ _ c.get-in-ObjectLiteral.ensures c.gather_bracketed-in-ObjectLiteral.ensures)

pub gather_expression-returns-in-Parenthesized : goal.gather_expression-returns-in-Parenthesized
gather_expression-returns-in-Parenthesized t c = gathers_is _ _ _ _ (names_Parenthesized _ _ c.in-Parenthesized.is) (gathers_of spec.names_of_bracketed _ _ _ _ c.get-in-Parenthesized.ensures c.gather_bracketed-in-Parenthesized.ensures)

pub gather_expression-returns-in-TemplateLiteral : goal.gather_expression-returns-in-TemplateLiteral
gather_expression-returns-in-TemplateLiteral t c = gathers_is _ _ _ _ (names_TemplateLiteral _ _ c.in-TemplateLiteral.is) (gathers_none _)

pub gather_expression-returns-in-FunctionExpression : goal.gather_expression-returns-in-FunctionExpression
gather_expression-returns-in-FunctionExpression t c = gathers_is _ _ _ _ (names_FunctionExpression _ _ c.in-FunctionExpression.is) (gathers_none _)

pub gather_expression-returns-in-ClassExpression : goal.gather_expression-returns-in-ClassExpression
gather_expression-returns-in-ClassExpression t c = gathers_is _ _ _ _ (names_ClassExpression _ _ c.in-ClassExpression.is) (gathers_none _)

pub gather_expression-returns-in-Member : goal.gather_expression-returns-in-Member
gather_expression-returns-in-Member t c = gathers_is _ _ _ _ (names_Member _ _ _ c.in-Member.is) (gathers_of (λ xs. joined (map (λ f. f.names) (map spec.facts_of_link xs))) _ _ _ _ c.as_slice.ensures c.gather_links.ensures)

pub gather_expression-returns-in-New : goal.gather_expression-returns-in-New
gather_expression-returns-in-New t c = gathers_is _ _ _ _ (names_New _ _ _ _ c.in-New.is) (gathers_none _)

pub gather_expression-returns-in-NewPlain : goal.gather_expression-returns-in-NewPlain
gather_expression-returns-in-NewPlain t c = gathers_is _ _ _ _ (names_NewPlain _ _ _ c.in-NewPlain.is) (gathers_none _)

pub gather_expression-returns-in-ImportCall : goal.gather_expression-returns-in-ImportCall
gather_expression-returns-in-ImportCall t c = gathers_is _ _ _ _ (names_ImportCall _ _ _ _ _ c.in-ImportCall.is) (gathers_none _)

pub gather_expression-returns-in-PrefixUpdate : goal.gather_expression-returns-in-PrefixUpdate
gather_expression-returns-in-PrefixUpdate t c = gathers_is _ _ _ _ (names_PrefixUpdate _ _ _ c.in-PrefixUpdate.is) (gathers_none _)

pub gather_expression-returns-in-PostfixUpdate : goal.gather_expression-returns-in-PostfixUpdate
gather_expression-returns-in-PostfixUpdate t c = gathers_is _ _ _ _ (names_PostfixUpdate _ _ _ c.in-PostfixUpdate.is) (gathers_none _)

pub gather_expression-returns-in-Unary : goal.gather_expression-returns-in-Unary
gather_expression-returns-in-Unary t c = gathers_is _ _ _ _ (names_Unary _ _ _ c.in-Unary.is) (gathers_none _)

pub gather_expression-returns-in-Await : goal.gather_expression-returns-in-Await
gather_expression-returns-in-Await t c = gathers_is _ _ _ _ (names_Await _ _ _ c.in-Await.is) (gathers_none _)

pub gather_expression-returns-in-Binary : goal.gather_expression-returns-in-Binary
gather_expression-returns-in-Binary t c = gathers_is _ _ _ _ (names_Binary _ _ _ c.in-Binary.is) (gathers_none _)

pub gather_expression-returns-in-Conditional : goal.gather_expression-returns-in-Conditional
gather_expression-returns-in-Conditional t c = gathers_is _ _ _ _ (names_Conditional _ _ _ _ _ _ c.in-Conditional.is) (gathers_none _)

pub gather_expression-returns-in-Assignment : goal.gather_expression-returns-in-Assignment
gather_expression-returns-in-Assignment t c = gathers_is _ _ _ _ (names_Assignment _ _ _ _ c.in-Assignment.is) (gathers_of spec.names_of_expression _ _ _ _ c.get-in-Assignment.ensures c.gather_expression.ensures)

pub gather_expression-returns-in-Arrow : goal.gather_expression-returns-in-Arrow
gather_expression-returns-in-Arrow t c = gathers_is _ _ _ _ (names_Arrow _ _ _ _ c.in-Arrow.is) (gathers_none _)

pub gather_expression-returns-in-AsyncArrow : goal.gather_expression-returns-in-AsyncArrow
gather_expression-returns-in-AsyncArrow t c = gathers_is _ _ _ _ (names_AsyncArrow _ _ _ _ _ c.in-AsyncArrow.is) (gathers_none _)

pub gather_expression-returns-in-Yield : goal.gather_expression-returns-in-Yield
gather_expression-returns-in-Yield t c = gathers_is _ _ _ _ (names_Yield _ _ c.in-Yield.is) (gathers_none _)

pub gather_expression-returns-in-YieldValue : goal.gather_expression-returns-in-YieldValue
gather_expression-returns-in-YieldValue t c = gathers_is _ _ _ _ (names_YieldValue _ _ _ c.in-YieldValue.is) (gathers_none _)

pub gather_expression-returns-in-YieldEach : goal.gather_expression-returns-in-YieldEach
gather_expression-returns-in-YieldEach t c = gathers_is _ _ _ _ (names_YieldEach _ _ _ _ c.in-YieldEach.is) (gathers_none _)

pub gather_link-returns-in-Dot : goal.gather_link-returns-in-Dot
gather_link-returns-in-Dot t c = gathers_is _ _ _ _ (names_Dot _ _ _ c.in-Dot.is) (gathers_none _)

pub gather_link-returns-in-Index : goal.gather_link-returns-in-Index
gather_link-returns-in-Index t c = gathers_is _ _ _ _ (names_Index _ _ _ _ c.in-Index.is) (gathers_none _)

pub gather_link-returns-in-Call : goal.gather_link-returns-in-Call
gather_link-returns-in-Call t c = gathers_is _ _ _ _ (names_Call _ _ c.in-Call.is) c.gather_bracketed.ensures

pub gather_link-returns-in-Tagged : goal.gather_link-returns-in-Tagged
gather_link-returns-in-Tagged t c = gathers_is _ _ _ _ (names_Tagged _ _ c.in-Tagged.is) (gathers_none _)

pub gather_link-returns-in-TaggedTemplate : goal.gather_link-returns-in-TaggedTemplate
gather_link-returns-in-TaggedTemplate t c = gathers_is _ _ _ _ (names_TaggedTemplate _ _ c.in-TaggedTemplate.is) (gathers_none _)

pub gather_link-returns-in-OptionalDot : goal.gather_link-returns-in-OptionalDot
gather_link-returns-in-OptionalDot t c = gathers_is _ _ _ _ (names_OptionalDot _ _ _ c.in-OptionalDot.is) (gathers_none _)

pub gather_link-returns-in-OptionalIndex : goal.gather_link-returns-in-OptionalIndex
gather_link-returns-in-OptionalIndex t c = gathers_is _ _ _ _ (names_OptionalIndex _ _ _ _ _ c.in-OptionalIndex.is) (gathers_none _)

pub gather_link-returns-in-OptionalCall : goal.gather_link-returns-in-OptionalCall
gather_link-returns-in-OptionalCall t c = gathers_is _ _ _ _ (names_OptionalCall _ _ _ c.in-OptionalCall.is) (gathers_none _)

pub gather_element-returns-in-Hole : goal.gather_element-returns-in-Hole
gather_element-returns-in-Hole t c = gathers_is _ _ _ _ (names_Hole _ c.in-Hole.is) (gathers_none _)

pub gather_element-returns-in-Value : goal.gather_element-returns-in-Value
gather_element-returns-in-Value t c = gathers_is _ _ _ _ (names_Value _ _ c.in-Value.is) c.gather_expression.ensures

pub gather_element-returns-in-Spread : goal.gather_element-returns-in-Spread
gather_element-returns-in-Spread t c = gathers_is _ _ _ _ (names_Spread _ _ _ c.in-Spread.is) c.gather_expression-in-Spread.ensures

pub gather_element-returns-in-Shorthand : goal.gather_element-returns-in-Shorthand
gather_element-returns-in-Shorthand t c = gathers_is _ _ _ _ (names_Shorthand _ _ c.in-Shorthand.is) c.gather_name.ensures

pub gather_element-returns-in-Initialized : goal.gather_element-returns-in-Initialized
gather_element-returns-in-Initialized t c = gathers_is _ _ _ _ (names_Initialized _ _ _ _ c.in-Initialized.is) c.gather_name-in-Initialized.ensures

pub gather_element-returns-in-Property : goal.gather_element-returns-in-Property
gather_element-returns-in-Property t c = gathers_is _ _ _ _ (names_Property _ _ _ _ c.in-Property.is) c.gather_expression-in-Property.ensures

pub gather_element-returns-in-MethodProperty : goal.gather_element-returns-in-MethodProperty
gather_element-returns-in-MethodProperty t c = gathers_is _ _ _ _ (names_MethodProperty _ _ c.in-MethodProperty.is) (gathers_none _)

pub gather_bracketed-returns : goal.gather_bracketed-returns
gather_bracketed-returns t c = gathers_is _ _ _ _ (names_at_Bracketed _) c.gather_elements.ensures

pub gather_elements-returns : goal.gather_elements-returns
gather_elements-returns t c = gathers_is _ _ _ _ (names_at_Elements _) (gathers_both _ _ _ _ _ c.gather_element.ensures (gathers_of (λ xs. joined (map (λ f. f.names) (map spec.facts_of_next_element xs))) _ _ _ _ c.as_slice.ensures c.gather_next_elements.ensures))

pub gather_next_element-returns : goal.gather_next_element-returns
gather_next_element-returns t c = gathers_is _ _ _ _ (names_at_NextElement _) c.gather_element.ensures

pub gather_links-loop-item-init : goal.gather_links-loop-item-init
gather_links-loop-item-init t c end rest = rest

pub gather_links-loop-item-preserved : goal.gather_links-loop-item-preserved
gather_links-loop-item-preserved t c end rest = gathers_next spec.names_of_link (λ xs. joined (map (λ f. f.names) (map spec.facts_of_link xs))) c.args.items.now c.loop-item.item-index c.item-item.result _ _ _ end each_names_of_link c.loop-item-test.true c.item-item.is (c.loop-item.invariant end) c.gather_link.ensures rest

pub gather_links-returns : goal.gather_links-returns
gather_links-returns t c = gathers_end (λ xs. joined (map (λ f. f.names) (map spec.facts_of_link xs))) c.args.items.now c.loop-item.item-index _ _ refl c.loop-item-test.false (c.loop-item.invariant _)

pub gather_next_elements-loop-item-init : goal.gather_next_elements-loop-item-init
gather_next_elements-loop-item-init t c end rest = rest

pub gather_next_elements-loop-item-preserved : goal.gather_next_elements-loop-item-preserved
gather_next_elements-loop-item-preserved t c end rest = gathers_next spec.names_of_next_element (λ xs. joined (map (λ f. f.names) (map spec.facts_of_next_element xs))) c.args.items.now c.loop-item.item-index c.item-item.result _ _ _ end each_names_of_next_element c.loop-item-test.true c.item-item.is (c.loop-item.invariant end) c.gather_next_element.ensures rest

pub gather_next_elements-returns : goal.gather_next_elements-returns
gather_next_elements-returns t c = gathers_end (λ xs. joined (map (λ f. f.names) (map spec.facts_of_next_element xs))) c.args.items.now c.loop-item.item-index _ _ refl c.loop-item-test.false (c.loop-item.invariant _)
