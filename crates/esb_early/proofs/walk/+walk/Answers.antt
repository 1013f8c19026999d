use Rattle.std.proofs.Common.{◌≡◌, ◌+◌, ◌-◌, ◌&&◌, ◌||◌, ◌==◌, [], fold, length, drop, map, true, false, ap, refl, sym, ◌∙◌}
use Rattle.std.proofs.lemmas.List.{drop_all}
use Rattle.std.proofs.Math.Path.{ap₂}
use Rattle.esb_tree.specs.declared.classes.Class.{out-Class}
use Rattle.esb_tree.specs.declared.expressions.Operand.{out-Operand}
use Rattle.esb_tree.specs.declared.expressions.Substitution.{out-Substitution}
use Rattle.esb_tree.specs.declared.expressions.Substitutions.{out-Substitutions}
use Rattle.esb_tree.specs.declared.functions.Function.{out-Function}
use Rattle.esb_tree.specs.declared.functions.Method.{out-Method}
use Rattle.esb_tree.specs.declared.patterns.Bracketed.{out-Bracketed}
use Rattle.esb_tree.specs.declared.patterns.Elements.{out-Elements}
use Rattle.esb_tree.specs.declared.patterns.NextElement.{out-NextElement}
use Rattle.esb_tree.specs.declared.statements.Block.{out-Block}
use Rattle.esb_tree.specs.declared.statements.Declaration.{out-Declaration}
use Rattle.esb_tree.specs.declared.statements.ElseIf.{out-ElseIf}
use Rattle.esb_tree.specs.declared.statements.IfClause.{out-IfClause}
use Rattle.esb_grammar.specs.Forms.{is_empty}
use Rattle.esb_early_checks.specs.declared.roles.ListRole.TheVariants as lr
use Rattle.esb_early_checks.specs.declared.roles.Role.TheVariants as r
use Rattle.esb_early_checks.specs.Findings.{each, behind, unlabelled}
use Rattle.esb_early.specs.Parameters.{repeated_breaches}
use Rattle.esb_early_checks.specs.Roles.{array_role, object_role, parenthesized_role, assigned_role, element_role, spread_role, placed, is_prototype_method}
use Rattle.esb_early.specs.Rules as spec
use Rattle.esb_early_checks.specs.Settings.{of_loop, of_switch, of_body, of_parameters, of_function, of_function_parameters, of_method_parameters, of_named_method}
use Rattle.esb_early_checks.specs.Shapes.{other_shape, primary_shape, parenthesized_shape, member_shape, access_link, call_link, template_link, optional_link, links_shape, hole_shape, value_shape, other_element, named_shape, computed_shape, start_of_function, bracketed_shape, elements_shape, property_element, key_of_prototype, after_link}
use Rattle.esb_early_checks.specs.Tests.{second_constructor, second_proto, strict_breaches, accessor_breaches, assignment_breaches, bound_breaches, constructor_breaches, declared_breaches, delete_breaches, initialized_breaches, literal_breaches, member_breaches, meta_breaches, method_property_breaches, operator_breaches, parenthesized_breaches, primary_breaches, reference_breaches, return_breaches, shorthand_breaches, spread_breaches, super_breaches, value_breaches}
use Rattle.esb_names.specs.Keys.{is_constructor, is_proto_in}
use Rattle.esb_early_checks.specs.Labels.{break_breaches, continue_breaches, label_breaches}
use Rattle.esb_early_checks.proofs.Steps.{alike_three, mapped_empty, drop_next, finds_none, finds_nothing, finds_both, finds_then, finds_is, finds_of, finds_of_two, finds_of_three, finds_behind, finds_unlabelled, finds_next, finds_next_place, finds_end, one_less, no_length, plain_next, plain_end}
use Rattle.esb_early.proofs.RuleLines.{is_ClassMethod, is_EmptyElement, is_NoHeritage, is_Extends, is_Primary, is_MetaProperty, is_ArrayLiteral, is_ObjectLiteral, is_Parenthesized, is_TemplateLiteral, is_FunctionExpression, is_ClassExpression, is_Member, is_New, is_NewPlain, is_ImportCall, is_PrefixUpdate, is_PostfixUpdate, is_Unary, is_Await, is_Binary, is_Conditional, is_Assignment, is_Arrow, is_AsyncArrow, is_Yield, is_YieldValue, is_YieldEach, is_Dot, is_Index, is_Call, is_Tagged, is_TaggedTemplate, is_OptionalDot, is_OptionalIndex, is_OptionalCall, is_ConciseValue, is_ConciseBlock, is_Hole, is_Value, is_Spread, is_Shorthand, is_Initialized, is_Property, is_MethodProperty, is_Named, is_Computed, is_Case, is_Default, is_NoElse, is_Otherwise, is_NoFinalizer, is_Finally, is_NoStart, is_StartExpression, is_StartDeclaration, is_NoHandler, is_Catch, is_CatchParameter, is_Absent, is_Present, is_BlockStatement, is_Variables, is_Empty, is_ExpressionStatement, is_If, is_DoWhile, is_While, is_For, is_ForEach, is_Continue, is_Break, is_Return, is_Switch, is_Labelled, is_Throw, is_Try, is_Debugger, is_FunctionDeclaration, is_ClassDeclaration, at_Class, at_Operand, at_Substitution, at_Substitutions, at_Function, at_Method, at_Bracketed, at_NextElement, at_Block, at_Declaration, at_ElseIf, at_IfClause, at_Elements, shape_at_Elements, shape_ClassMethod, shape_EmptyElement, shape_NoHeritage, shape_Extends, shape_Primary, shape_MetaProperty, shape_ArrayLiteral, shape_ObjectLiteral, shape_Parenthesized, shape_TemplateLiteral, shape_FunctionExpression, shape_ClassExpression, shape_Member, shape_New, shape_NewPlain, shape_ImportCall, shape_PrefixUpdate, shape_PostfixUpdate, shape_Unary, shape_Await, shape_Binary, shape_Conditional, shape_Assignment, shape_Arrow, shape_AsyncArrow, shape_Yield, shape_YieldValue, shape_YieldEach, shape_Dot, shape_Index, shape_Call, shape_Tagged, shape_TaggedTemplate, shape_OptionalDot, shape_OptionalIndex, shape_OptionalCall, shape_Hole, shape_Value, shape_Spread, shape_Shorthand, shape_Initialized, shape_Property, shape_MethodProperty, shape_Named, shape_Computed, shape_at_Class, shape_at_Substitutions, shape_at_Function, shape_at_Method, shape_at_Bracketed, shape_at_NextElement, each_statement, each_link, each_next, each_class_element, told_link, told_next}
use Rattle.esb_early.proofs.walk.+walk.Goals as goal

pub walk_class_element-returns-in-ClassMethod : goal.walk_class_element-returns-in-ClassMethod
walk_class_element-returns-in-ClassMethod t c = record { shape = c.key_of_prototype.ensures ∙ ap (λ s0. key_of_prototype c.in-ClassMethod.word s0) c.walk_method-method.ensures.shape ∙ sym (shape_ClassMethod _ _ _ c.in-ClassMethod.is); breaches = finds_is _ _ _ _ (is_ClassMethod _ _ _ _ _ _ c.in-ClassMethod.is) (finds_of (λ z1. spec.breaches_of_method c.in-ClassMethod.method c.args.text.now c.args.setting z1 c.args.is_derived) _ _ _ _ c.is_prototype_method.ensures c.walk_method-method.ensures.breaches) }

pub walk_class_element-returns-in-EmptyElement : goal.walk_class_element-returns-in-EmptyElement
walk_class_element-returns-in-EmptyElement t c = record { shape = sym (shape_EmptyElement _ _ c.in-EmptyElement.is); breaches = finds_is _ _ _ _ (is_EmptyElement _ _ _ _ _ c.in-EmptyElement.is) (finds_none _) }

pub walk_heritage-returns-in-NoHeritage : goal.walk_heritage-returns-in-NoHeritage
walk_heritage-returns-in-NoHeritage t c = record { shape = sym (shape_NoHeritage _ c.in-NoHeritage.is); breaches = finds_is _ _ _ _ (is_NoHeritage _ _ _ c.in-NoHeritage.is) (finds_none _) }

pub walk_heritage-returns-in-Extends : goal.walk_heritage-returns-in-Extends
walk_heritage-returns-in-Extends t c = record { shape = sym (shape_Extends _ _ _ c.in-Extends.is); breaches = finds_is _ _ _ _ (is_Extends _ _ _ _ _ c.in-Extends.is) c.walk_expression.ensures.breaches }

pub walk_expression-returns-in-Primary : goal.walk_expression-returns-in-Primary
walk_expression-returns-in-Primary t c = record { shape = c.primary_shape.ensures ∙ sym (shape_Primary _ _ c.in-Primary.is); breaches = finds_is _ _ _ _ (is_Primary _ _ _ _ _ c.in-Primary.is) c.check_primary.ensures }

pub walk_expression-returns-in-MetaProperty : goal.walk_expression-returns-in-MetaProperty
walk_expression-returns-in-MetaProperty t c = record { shape = c.other_shape.ensures ∙ sym (shape_MetaProperty _ _ _ _ c.in-MetaProperty.is); breaches = finds_is _ _ _ _ (is_MetaProperty _ _ _ _ _ _ _ c.in-MetaProperty.is) (finds_then _ _ _ _ _ c.check_meta.ensures (finds_then _ _ _ _ _ c.check_value.ensures (finds_none _))) }

pub walk_expression-returns-in-ArrayLiteral : goal.walk_expression-returns-in-ArrayLiteral
walk_expression-returns-in-ArrayLiteral t c = record { shape = c.other_shape-in-ArrayLiteral.ensures ∙ ap (λ s0. other_shape s0.start) (c.walk_bracketed-list.ensures.shape ∙ ap spec.shape_of_bracketed c.get.ensures) ∙ sym (shape_ArrayLiteral _ _ c.in-ArrayLiteral.is); breaches = finds_is _ _ _ _ (is_ArrayLiteral _ _ _ _ _ c.in-ArrayLiteral.is) (finds_then _ _ _ _ _ (finds_of_two (λ y z1. spec.breaches_of_bracketed y c.args.text.now c.args.setting z1) _ _ _ _ _ _ c.get.ensures c.array_role.ensures c.walk_bracketed-list.ensures.breaches) (finds_then _ _ _ _ _ (finds_of (λ s0. literal_breaches c.args.role s0.start) _ _ _ _ (c.walk_bracketed-list.ensures.shape ∙ ap spec.shape_of_bracketed c.get.ensures) c.check_literal.ensures) (finds_none _))) }

pub walk_expression-returns-in-ObjectLiteral : goal.walk_expression-returns-in-ObjectLiteral
walk_expression-returns-in-ObjectLiteral t c = record { shape = c.other_shape-in-ObjectLiteral.ensures ∙ ap (λ s0. other_shape s0.start) (c.walk_bracketed-list-in-ObjectLiteral.ensures.shape ∙ ap spec.shape_of_bracketed c.get-in-ObjectLiteral.ensures) ∙ sym (shape_ObjectLiteral _ _ c.in-ObjectLiteral.is); breaches = finds_is _ _ _ _ (is_ObjectLiteral _ _ _ _ _ c.in-ObjectLiteral.is) (finds_then _ _ _ _ _ (finds_of_two (λ y z1. spec.breaches_of_bracketed y c.args.text.now c.args.setting z1) _ _ _ _ _ _ c.get-in-ObjectLiteral.ensures c.object_role.ensures c.walk_bracketed-list-in-ObjectLiteral.ensures.breaches) (finds_then _ _ _ _ _ (finds_of (λ s0. literal_breaches c.args.role s0.start) _ _ _ _ (c.walk_bracketed-list-in-ObjectLiteral.ensures.shape ∙ ap spec.shape_of_bracketed c.get-in-ObjectLiteral.ensures) c.check_literal-in-ObjectLiteral.ensures) (finds_none _))) }

pub walk_expression-returns-in-Parenthesized : goal.walk_expression-returns-in-Parenthesized
walk_expression-returns-in-Parenthesized t c = record { shape = c.parenthesized_shape.ensures ∙ ap (λ s0. parenthesized_shape s0) (c.walk_bracketed-list-in-Parenthesized.ensures.shape ∙ ap spec.shape_of_bracketed c.get-in-Parenthesized.ensures) ∙ sym (shape_Parenthesized _ _ c.in-Parenthesized.is); breaches = finds_is _ _ _ _ (is_Parenthesized _ _ _ _ _ c.in-Parenthesized.is) (finds_then _ _ _ _ _ (finds_of_two (λ y z1. spec.breaches_of_bracketed y c.args.text.now c.args.setting z1) _ _ _ _ _ _ c.get-in-Parenthesized.ensures c.parenthesized_role.ensures c.walk_bracketed-list-in-Parenthesized.ensures.breaches) (finds_then _ _ _ _ _ (finds_of (λ s0. parenthesized_breaches c.args.text.now c.args.role s0) _ _ _ _ (c.walk_bracketed-list-in-Parenthesized.ensures.shape ∙ ap spec.shape_of_bracketed c.get-in-Parenthesized.ensures) c.check_parenthesized.ensures) (finds_none _))) }

pub walk_expression-returns-in-TemplateLiteral : goal.walk_expression-returns-in-TemplateLiteral
walk_expression-returns-in-TemplateLiteral t c = record { shape = c.other_shape-in-TemplateLiteral.ensures ∙ ap (λ s0. other_shape s0) (c.walk_substitutions-template.ensures.shape ∙ ap spec.shape_of_substitutions c.get-in-TemplateLiteral.ensures) ∙ sym (shape_TemplateLiteral _ _ c.in-TemplateLiteral.is); breaches = finds_is _ _ _ _ (is_TemplateLiteral _ _ _ _ _ c.in-TemplateLiteral.is) (finds_then _ _ _ _ _ (finds_of (λ y. spec.breaches_of_substitutions y c.args.text.now c.args.setting) _ _ _ _ c.get-in-TemplateLiteral.ensures c.walk_substitutions-template.ensures.breaches) (finds_then _ _ _ _ _ (finds_of (λ s0. value_breaches c.args.role s0) _ _ _ _ (c.walk_substitutions-template.ensures.shape ∙ ap spec.shape_of_substitutions c.get-in-TemplateLiteral.ensures) c.check_value-in-TemplateLiteral.ensures) (finds_none _))) }

pub walk_expression-returns-in-FunctionExpression : goal.walk_expression-returns-in-FunctionExpression
walk_expression-returns-in-FunctionExpression t c = record { shape = c.other_shape-in-FunctionExpression.ensures ∙ ap (λ s0. other_shape s0) (c.walk_function-function.ensures.shape ∙ ap spec.shape_of_function c.get-in-FunctionExpression.ensures) ∙ sym (shape_FunctionExpression _ _ c.in-FunctionExpression.is); breaches = finds_is _ _ _ _ (is_FunctionExpression _ _ _ _ _ c.in-FunctionExpression.is) (finds_then _ _ _ _ _ (finds_of (λ y. spec.breaches_of_function y c.args.text.now c.args.setting) _ _ _ _ c.get-in-FunctionExpression.ensures c.walk_function-function.ensures.breaches) (finds_then _ _ _ _ _ (finds_of (λ s0. value_breaches c.args.role s0) _ _ _ _ (c.walk_function-function.ensures.shape ∙ ap spec.shape_of_function c.get-in-FunctionExpression.ensures) c.check_value-in-FunctionExpression.ensures) (finds_none _))) }

pub walk_expression-returns-in-ClassExpression : goal.walk_expression-returns-in-ClassExpression
walk_expression-returns-in-ClassExpression t c = record { shape = c.other_shape-in-ClassExpression.ensures ∙ ap (λ s0. other_shape s0) (c.walk_class-class.ensures.shape ∙ ap spec.shape_of_class c.get-in-ClassExpression.ensures) ∙ sym (shape_ClassExpression _ _ c.in-ClassExpression.is); breaches = finds_is _ _ _ _ (is_ClassExpression _ _ _ _ _ c.in-ClassExpression.is) (finds_then _ _ _ _ _ (finds_of (λ y. spec.breaches_of_class y c.args.text.now c.args.setting) _ _ _ _ c.get-in-ClassExpression.ensures c.walk_class-class.ensures.breaches) (finds_then _ _ _ _ _ (finds_of (λ s0. value_breaches c.args.role s0) _ _ _ _ (c.walk_class-class.ensures.shape ∙ ap spec.shape_of_class c.get-in-ClassExpression.ensures) c.check_value-in-ClassExpression.ensures) (finds_none _))) }

pub walk_expression-returns-in-Member : goal.walk_expression-returns-in-Member
walk_expression-returns-in-Member t c = record { shape = c.member_shape.ensures ∙ ap₂ (λ s0 s1. member_shape s0.start s1) (c.walk_expression-object.ensures.shape ∙ ap spec.shape_of_expression c.get-in-Member.ensures) (c.walk_links-links.ensures.shape ∙ ap (λ xs. links_shape (map (λ f. f.shape) (map spec.facts_of_link xs))) c.as_slice.ensures) ∙ sym (shape_Member _ _ _ c.in-Member.is); breaches = finds_is _ _ _ _ (is_Member _ _ _ _ _ _ c.in-Member.is) (finds_then _ _ _ _ _ (finds_of (λ y. spec.breaches_of_expression y c.args.text.now c.args.setting r.Value) _ _ _ _ c.get-in-Member.ensures c.walk_expression-object.ensures.breaches) (finds_then _ _ _ _ _ (finds_of (λ y. spec.links_breaches c.args.text.now c.args.setting c.args.role (map spec.facts_of_link y)) _ _ _ _ c.as_slice.ensures c.walk_links-links.ensures.breaches) (finds_then _ _ _ _ _ (finds_of_two (λ s0 s1. super_breaches s0.token s1.begins_with_call c.args.setting) _ _ _ _ _ _ (c.walk_expression-object.ensures.shape ∙ ap spec.shape_of_expression c.get-in-Member.ensures) (c.walk_links-links.ensures.shape ∙ ap (λ xs. links_shape (map (λ f. f.shape) (map spec.facts_of_link xs))) c.as_slice.ensures) c.check_super.ensures) (finds_then _ _ _ _ _ (finds_of_two (λ s0 s1. member_breaches c.args.role s0 s1.start) _ _ _ _ _ _ (c.walk_links-links.ensures.shape ∙ ap (λ xs. links_shape (map (λ f. f.shape) (map spec.facts_of_link xs))) c.as_slice.ensures) (c.walk_expression-object.ensures.shape ∙ ap spec.shape_of_expression c.get-in-Member.ensures) c.check_member.ensures) (finds_none _))))) }

pub walk_expression-returns-in-New : goal.walk_expression-returns-in-New
walk_expression-returns-in-New t c = record { shape = c.other_shape-in-New.ensures ∙ sym (shape_New _ _ _ _ c.in-New.is); breaches = finds_is _ _ _ _ (is_New _ _ _ _ _ _ _ c.in-New.is) (finds_then _ _ _ _ _ (finds_of (λ y. spec.breaches_of_expression y c.args.text.now c.args.setting r.Value) _ _ _ _ c.get-in-New.ensures c.walk_expression.ensures.breaches) (finds_then _ _ _ _ _ (finds_of (λ y. spec.breaches_of_bracketed y c.args.text.now c.args.setting lr.Values) _ _ _ _ c.get-in-New-2.ensures c.walk_bracketed.ensures.breaches) (finds_then _ _ _ _ _ c.check_value-in-New.ensures (finds_none _)))) }

pub walk_expression-returns-in-NewPlain : goal.walk_expression-returns-in-NewPlain
walk_expression-returns-in-NewPlain t c = record { shape = c.other_shape-in-NewPlain.ensures ∙ sym (shape_NewPlain _ _ _ c.in-NewPlain.is); breaches = finds_is _ _ _ _ (is_NewPlain _ _ _ _ _ _ c.in-NewPlain.is) (finds_then _ _ _ _ _ (finds_of (λ y. spec.breaches_of_expression y c.args.text.now c.args.setting r.Value) _ _ _ _ c.get-in-NewPlain.ensures c.walk_expression-in-NewPlain.ensures.breaches) (finds_then _ _ _ _ _ c.check_value-in-NewPlain.ensures (finds_none _))) }

pub walk_expression-returns-in-ImportCall : goal.walk_expression-returns-in-ImportCall
walk_expression-returns-in-ImportCall t c = record { shape = c.other_shape-in-ImportCall.ensures ∙ sym (shape_ImportCall _ _ _ _ _ c.in-ImportCall.is); breaches = finds_is _ _ _ _ (is_ImportCall _ _ _ _ _ _ _ _ c.in-ImportCall.is) (finds_then _ _ _ _ _ (finds_of (λ y. spec.breaches_of_expression y c.args.text.now c.args.setting r.Value) _ _ _ _ c.get-in-ImportCall.ensures c.walk_expression-in-ImportCall.ensures.breaches) (finds_then _ _ _ _ _ c.check_value-in-ImportCall.ensures (finds_none _))) }

pub walk_expression-returns-in-PrefixUpdate : goal.walk_expression-returns-in-PrefixUpdate
walk_expression-returns-in-PrefixUpdate t c = record { shape = c.other_shape-in-PrefixUpdate.ensures ∙ sym (shape_PrefixUpdate _ _ _ c.in-PrefixUpdate.is); breaches = finds_is _ _ _ _ (is_PrefixUpdate _ _ _ _ _ _ c.in-PrefixUpdate.is) (finds_then _ _ _ _ _ (finds_of (λ y. spec.breaches_of_expression y c.args.text.now c.args.setting r.Simple) _ _ _ _ c.get-in-PrefixUpdate.ensures c.walk_expression-in-PrefixUpdate.ensures.breaches) (finds_then _ _ _ _ _ c.check_value-in-PrefixUpdate.ensures (finds_none _))) }

pub walk_expression-returns-in-PostfixUpdate : goal.walk_expression-returns-in-PostfixUpdate
walk_expression-returns-in-PostfixUpdate t c = record { shape = c.other_shape-in-PostfixUpdate.ensures ∙ ap (λ s0. other_shape s0.start) (c.walk_expression-x.ensures.shape ∙ ap spec.shape_of_expression c.get-in-PostfixUpdate.ensures) ∙ sym (shape_PostfixUpdate _ _ _ c.in-PostfixUpdate.is); breaches = finds_is _ _ _ _ (is_PostfixUpdate _ _ _ _ _ _ c.in-PostfixUpdate.is) (finds_then _ _ _ _ _ (finds_of (λ y. spec.breaches_of_expression y c.args.text.now c.args.setting r.Simple) _ _ _ _ c.get-in-PostfixUpdate.ensures c.walk_expression-x.ensures.breaches) (finds_then _ _ _ _ _ (finds_of (λ s0. value_breaches c.args.role s0.start) _ _ _ _ (c.walk_expression-x.ensures.shape ∙ ap spec.shape_of_expression c.get-in-PostfixUpdate.ensures) c.check_value-in-PostfixUpdate.ensures) (finds_none _))) }

pub walk_expression-returns-in-Unary : goal.walk_expression-returns-in-Unary
walk_expression-returns-in-Unary t c = record { shape = c.other_shape-in-Unary.ensures ∙ sym (shape_Unary _ _ _ c.in-Unary.is); breaches = finds_is _ _ _ _ (is_Unary _ _ _ _ _ _ c.in-Unary.is) (finds_then _ _ _ _ _ (finds_of (λ y. spec.breaches_of_expression y c.args.text.now c.args.setting r.Value) _ _ _ _ c.get-in-Unary.ensures c.walk_expression-x-in-Unary.ensures.breaches) (finds_then _ _ _ _ _ (finds_of (λ s0. delete_breaches c.in-Unary.operator s0.name) _ _ _ _ (c.walk_expression-x-in-Unary.ensures.shape ∙ ap spec.shape_of_expression c.get-in-Unary.ensures) c.check_delete.ensures) (finds_then _ _ _ _ _ c.check_value-in-Unary.ensures (finds_none _)))) }

pub walk_expression-returns-in-Await : goal.walk_expression-returns-in-Await
walk_expression-returns-in-Await t c = record { shape = c.other_shape-in-Await.ensures ∙ sym (shape_Await _ _ _ c.in-Await.is); breaches = finds_is _ _ _ _ (is_Await _ _ _ _ _ _ c.in-Await.is) (finds_then _ _ _ _ _ (finds_of (λ y. spec.breaches_of_expression y c.args.text.now c.args.setting r.Value) _ _ _ _ c.get-in-Await.ensures c.walk_expression-in-Await.ensures.breaches) (finds_then _ _ _ _ _ c.check_operator.ensures (finds_then _ _ _ _ _ c.check_value-in-Await.ensures (finds_none _)))) }

pub walk_expression-returns-in-Binary : goal.walk_expression-returns-in-Binary
walk_expression-returns-in-Binary t c = record { shape = c.other_shape-in-Binary.ensures ∙ ap (λ s0. other_shape s0.start) (c.walk_expression-first.ensures.shape ∙ ap spec.shape_of_expression c.get-in-Binary.ensures) ∙ sym (shape_Binary _ _ _ c.in-Binary.is); breaches = finds_is _ _ _ _ (is_Binary _ _ _ _ _ _ c.in-Binary.is) (finds_then _ _ _ _ _ (finds_of (λ y. spec.breaches_of_expression y c.args.text.now c.args.setting r.Value) _ _ _ _ c.get-in-Binary.ensures c.walk_expression-first.ensures.breaches) (finds_then _ _ _ _ _ (finds_of (λ y. each c.args.text.now c.args.setting (map spec.breaches_of_operand y)) _ _ _ _ c.as_slice-in-Binary.ensures c.walk_operands.ensures) (finds_then _ _ _ _ _ (finds_of (λ s0. value_breaches c.args.role s0.start) _ _ _ _ (c.walk_expression-first.ensures.shape ∙ ap spec.shape_of_expression c.get-in-Binary.ensures) c.check_value-in-Binary.ensures) (finds_none _)))) }

pub walk_expression-returns-in-Conditional : goal.walk_expression-returns-in-Conditional
walk_expression-returns-in-Conditional t c = record { shape = c.other_shape-in-Conditional.ensures ∙ ap (λ s0. other_shape s0.start) (c.walk_expression-test.ensures.shape ∙ ap spec.shape_of_expression c.get-in-Conditional.ensures) ∙ sym (shape_Conditional _ _ _ _ _ _ c.in-Conditional.is); breaches = finds_is _ _ _ _ (is_Conditional _ _ _ _ _ _ _ _ _ c.in-Conditional.is) (finds_then _ _ _ _ _ (finds_of (λ y. spec.breaches_of_expression y c.args.text.now c.args.setting r.Value) _ _ _ _ c.get-in-Conditional.ensures c.walk_expression-test.ensures.breaches) (finds_then _ _ _ _ _ (finds_of (λ y. spec.breaches_of_expression y c.args.text.now c.args.setting r.Value) _ _ _ _ c.get-in-Conditional-2.ensures c.walk_expression-in-Conditional.ensures.breaches) (finds_then _ _ _ _ _ (finds_of (λ y. spec.breaches_of_expression y c.args.text.now c.args.setting r.Value) _ _ _ _ c.get-in-Conditional-3.ensures c.walk_expression-in-Conditional-2.ensures.breaches) (finds_then _ _ _ _ _ (finds_of (λ s0. value_breaches c.args.role s0.start) _ _ _ _ (c.walk_expression-test.ensures.shape ∙ ap spec.shape_of_expression c.get-in-Conditional.ensures) c.check_value-in-Conditional.ensures) (finds_none _))))) }

pub walk_expression-returns-in-Assignment : goal.walk_expression-returns-in-Assignment
walk_expression-returns-in-Assignment t c = record { shape = c.other_shape-in-Assignment.ensures ∙ ap (λ s0. other_shape s0.start) (c.walk_expression-target.ensures.shape ∙ ap spec.shape_of_expression c.get-in-Assignment.ensures) ∙ sym (shape_Assignment _ _ _ _ c.in-Assignment.is); breaches = finds_is _ _ _ _ (is_Assignment _ _ _ _ _ _ _ c.in-Assignment.is) (finds_then _ _ _ _ _ (finds_of_two (λ y z1. spec.breaches_of_expression y c.args.text.now c.args.setting z1) _ _ _ _ _ _ c.get-in-Assignment.ensures c.assigned_role.ensures c.walk_expression-target.ensures.breaches) (finds_then _ _ _ _ _ (finds_of (λ y. spec.breaches_of_expression y c.args.text.now c.args.setting r.Value) _ _ _ _ c.get-in-Assignment-2.ensures c.walk_expression-in-Assignment.ensures.breaches) (finds_then _ _ _ _ _ (finds_of (λ s0. assignment_breaches c.args.role c.in-Assignment.operator s0.start) _ _ _ _ (c.walk_expression-target.ensures.shape ∙ ap spec.shape_of_expression c.get-in-Assignment.ensures) c.check_assignment.ensures) (finds_none _)))) }

pub walk_expression-returns-in-Arrow : goal.walk_expression-returns-in-Arrow
walk_expression-returns-in-Arrow t c = record { shape = c.other_shape-in-Arrow.ensures ∙ ap (λ s0. other_shape s0.start) (c.walk_expression-head.ensures.shape ∙ ap spec.shape_of_expression c.get-in-Arrow-2.ensures) ∙ sym (shape_Arrow _ _ _ _ c.in-Arrow.is); breaches = finds_is _ _ _ _ (is_Arrow _ _ _ _ _ _ _ c.in-Arrow.is) (finds_then _ _ _ _ _ (finds_of (λ y. repeated_breaches c.args.text.now (spec.names_of_expression y)) _ _ _ _ c.get-in-Arrow.ensures c.check_names_of_head.ensures) (finds_then _ _ _ _ _ (finds_of_two (λ y z0. spec.breaches_of_expression y c.args.text.now z0 r.Parameters) _ _ _ _ _ _ c.get-in-Arrow-2.ensures c.of_parameters.ensures c.walk_expression-head.ensures.breaches) (finds_then _ _ _ _ _ (finds_of_three (λ y z0 z1. spec.breaches_of_concise_body y c.args.text.now z0 z1) _ _ _ _ _ _ _ _ c.get-in-Arrow-3.ensures c.of_body.ensures (ap (λ s. s.is_plain) (c.walk_expression-head.ensures.shape ∙ ap spec.shape_of_expression c.get-in-Arrow-2.ensures)) c.walk_concise_body.ensures) (finds_then _ _ _ _ _ (finds_of (λ s0. value_breaches c.args.role s0.start) _ _ _ _ (c.walk_expression-head.ensures.shape ∙ ap spec.shape_of_expression c.get-in-Arrow-2.ensures) c.check_value-in-Arrow.ensures) (finds_none _))))) }

pub walk_expression-returns-in-AsyncArrow : goal.walk_expression-returns-in-AsyncArrow
walk_expression-returns-in-AsyncArrow t c = record { shape = c.other_shape-in-AsyncArrow.ensures ∙ sym (shape_AsyncArrow _ _ _ _ _ c.in-AsyncArrow.is); breaches = finds_is _ _ _ _ (is_AsyncArrow _ _ _ _ _ _ _ _ c.in-AsyncArrow.is) (finds_then _ _ _ _ _ c.check_bound.ensures (finds_then _ _ _ _ _ (finds_of_two (λ y z0. spec.breaches_of_concise_body y c.args.text.now z0 true) _ _ _ _ _ _ c.get-in-AsyncArrow.ensures c.of_body-in-AsyncArrow.ensures c.walk_concise_body-in-AsyncArrow.ensures) (finds_then _ _ _ _ _ c.check_value-in-AsyncArrow.ensures (finds_none _)))) }

pub walk_expression-returns-in-Yield : goal.walk_expression-returns-in-Yield
walk_expression-returns-in-Yield t c = record { shape = c.other_shape-in-Yield.ensures ∙ sym (shape_Yield _ _ c.in-Yield.is); breaches = finds_is _ _ _ _ (is_Yield _ _ _ _ _ c.in-Yield.is) (finds_then _ _ _ _ _ c.check_operator-in-Yield.ensures (finds_then _ _ _ _ _ c.check_value-in-Yield.ensures (finds_none _))) }

pub walk_expression-returns-in-YieldValue : goal.walk_expression-returns-in-YieldValue
walk_expression-returns-in-YieldValue t c = record { shape = c.other_shape-in-YieldValue.ensures ∙ sym (shape_YieldValue _ _ _ c.in-YieldValue.is); breaches = finds_is _ _ _ _ (is_YieldValue _ _ _ _ _ _ c.in-YieldValue.is) (finds_then _ _ _ _ _ (finds_of (λ y. spec.breaches_of_expression y c.args.text.now c.args.setting r.Value) _ _ _ _ c.get-in-YieldValue.ensures c.walk_expression-in-YieldValue.ensures.breaches) (finds_then _ _ _ _ _ c.check_operator-in-YieldValue.ensures (finds_then _ _ _ _ _ c.check_value-in-YieldValue.ensures (finds_none _)))) }

pub walk_expression-returns-in-YieldEach : goal.walk_expression-returns-in-YieldEach
walk_expression-returns-in-YieldEach t c = record { shape = c.other_shape-in-YieldEach.ensures ∙ sym (shape_YieldEach _ _ _ _ c.in-YieldEach.is); breaches = finds_is _ _ _ _ (is_YieldEach _ _ _ _ _ _ _ c.in-YieldEach.is) (finds_then _ _ _ _ _ (finds_of (λ y. spec.breaches_of_expression y c.args.text.now c.args.setting r.Value) _ _ _ _ c.get-in-YieldEach.ensures c.walk_expression-in-YieldEach.ensures.breaches) (finds_then _ _ _ _ _ c.check_operator-in-YieldEach.ensures (finds_then _ _ _ _ _ c.check_value-in-YieldEach.ensures (finds_none _)))) }

pub walk_link-returns-in-Dot : goal.walk_link-returns-in-Dot
walk_link-returns-in-Dot t c = record { shape = c.access_link.ensures ∙ sym (shape_Dot _ _ _ c.in-Dot.is); breaches = finds_is _ _ _ _ (is_Dot _ _ _ _ _ _ c.in-Dot.is) (finds_none _) }

pub walk_link-returns-in-Index : goal.walk_link-returns-in-Index
walk_link-returns-in-Index t c = record { shape = c.access_link-in-Index.ensures ∙ sym (shape_Index _ _ _ _ c.in-Index.is); breaches = finds_is _ _ _ _ (is_Index _ _ _ _ _ _ _ c.in-Index.is) c.walk_expression.ensures.breaches }

pub walk_link-returns-in-Call : goal.walk_link-returns-in-Call
walk_link-returns-in-Call t c = record { shape = c.call_link.ensures ∙ ap (λ s0. call_link s0.is_plain) c.walk_bracketed-arguments.ensures.shape ∙ sym (shape_Call _ _ c.in-Call.is); breaches = finds_is _ _ _ _ (is_Call _ _ _ _ _ c.in-Call.is) (finds_of (λ z1. spec.breaches_of_bracketed c.in-Call.arguments c.args.text.now c.args.setting z1) _ _ _ _ c.parenthesized_role.ensures c.walk_bracketed-arguments.ensures.breaches) }

pub walk_link-returns-in-Tagged : goal.walk_link-returns-in-Tagged
walk_link-returns-in-Tagged t c = record { shape = c.template_link.ensures ∙ sym (shape_Tagged _ _ c.in-Tagged.is); breaches = finds_is _ _ _ _ (is_Tagged _ _ _ _ _ c.in-Tagged.is) (finds_none _) }

pub walk_link-returns-in-TaggedTemplate : goal.walk_link-returns-in-TaggedTemplate
walk_link-returns-in-TaggedTemplate t c = record { shape = c.template_link-in-TaggedTemplate.ensures ∙ sym (shape_TaggedTemplate _ _ c.in-TaggedTemplate.is); breaches = finds_is _ _ _ _ (is_TaggedTemplate _ _ _ _ _ c.in-TaggedTemplate.is) c.walk_substitutions.ensures.breaches }

pub walk_link-returns-in-OptionalDot : goal.walk_link-returns-in-OptionalDot
walk_link-returns-in-OptionalDot t c = record { shape = c.optional_link.ensures ∙ sym (shape_OptionalDot _ _ _ c.in-OptionalDot.is); breaches = finds_is _ _ _ _ (is_OptionalDot _ _ _ _ _ _ c.in-OptionalDot.is) (finds_none _) }

pub walk_link-returns-in-OptionalIndex : goal.walk_link-returns-in-OptionalIndex
walk_link-returns-in-OptionalIndex t c = record { shape = c.optional_link-in-OptionalIndex.ensures ∙ sym (shape_OptionalIndex _ _ _ _ _ c.in-OptionalIndex.is); breaches = finds_is _ _ _ _ (is_OptionalIndex _ _ _ _ _ _ _ _ c.in-OptionalIndex.is) c.walk_expression-in-OptionalIndex.ensures.breaches }

pub walk_link-returns-in-OptionalCall : goal.walk_link-returns-in-OptionalCall
walk_link-returns-in-OptionalCall t c = record { shape = c.optional_link-in-OptionalCall.ensures ∙ sym (shape_OptionalCall _ _ _ c.in-OptionalCall.is); breaches = finds_is _ _ _ _ (is_OptionalCall _ _ _ _ _ _ c.in-OptionalCall.is) c.walk_bracketed.ensures.breaches }

pub walk_concise_body-returns-in-ConciseValue : goal.walk_concise_body-returns-in-ConciseValue
walk_concise_body-returns-in-ConciseValue t c = finds_is _ _ _ _ (is_ConciseValue _ _ _ _ _ c.in-ConciseValue.is) c.walk_expression.ensures.breaches

pub walk_concise_body-returns-in-ConciseBlock : goal.walk_concise_body-returns-in-ConciseBlock
walk_concise_body-returns-in-ConciseBlock t c = finds_is _ _ _ _ (is_ConciseBlock _ _ _ _ _ c.in-ConciseBlock.is) (finds_then _ _ _ _ _ c.walk_body.ensures (finds_then _ _ _ _ _ c.check_strict.ensures (finds_none _)))

pub walk_element-returns-in-Hole : goal.walk_element-returns-in-Hole
walk_element-returns-in-Hole t c = record { shape = c.hole_shape.ensures ∙ sym (shape_Hole _ c.in-Hole.is); breaches = finds_is _ _ _ _ (is_Hole _ _ _ _ c.in-Hole.is) (finds_none _) }

pub walk_element-returns-in-Value : goal.walk_element-returns-in-Value
walk_element-returns-in-Value t c = record { shape = c.value_shape.ensures ∙ ap (λ s0. value_shape s0) c.walk_expression-x.ensures.shape ∙ sym (shape_Value _ _ c.in-Value.is); breaches = finds_is _ _ _ _ (is_Value _ _ _ _ _ c.in-Value.is) (finds_of (λ z1. spec.breaches_of_expression c.in-Value.x c.args.text.now c.args.setting z1) _ _ _ _ c.element_role.ensures c.walk_expression-x.ensures.breaches) }

pub walk_element-returns-in-Spread : goal.walk_element-returns-in-Spread
walk_element-returns-in-Spread t c = record { shape = c.other_element.ensures ∙ sym (shape_Spread _ _ _ c.in-Spread.is); breaches = finds_is _ _ _ _ (is_Spread _ _ _ _ _ _ c.in-Spread.is) (finds_then _ _ _ _ _ (finds_of (λ z1. spec.breaches_of_expression c.in-Spread.x c.args.text.now c.args.setting z1) _ _ _ _ c.spread_role.ensures c.walk_expression.ensures.breaches) (finds_then _ _ _ _ _ c.check_spread.ensures (finds_none _))) }

pub walk_element-returns-in-Shorthand : goal.walk_element-returns-in-Shorthand
walk_element-returns-in-Shorthand t c = record { shape = c.other_element-in-Shorthand.ensures ∙ sym (shape_Shorthand _ _ c.in-Shorthand.is); breaches = finds_is _ _ _ _ (is_Shorthand _ _ _ _ _ c.in-Shorthand.is) c.check_shorthand.ensures }

pub walk_element-returns-in-Initialized : goal.walk_element-returns-in-Initialized
walk_element-returns-in-Initialized t c = record { shape = c.other_element-in-Initialized.ensures ∙ sym (shape_Initialized _ _ _ _ c.in-Initialized.is); breaches = finds_is _ _ _ _ (is_Initialized _ _ _ _ _ _ _ c.in-Initialized.is) (finds_then _ _ _ _ _ c.walk_expression-in-Initialized.ensures.breaches (finds_then _ _ _ _ _ c.check_initialized.ensures (finds_none _))) }

pub walk_element-returns-in-Property : goal.walk_element-returns-in-Property
walk_element-returns-in-Property t c = record { shape = c.property_element.ensures ∙ ap (λ s0. property_element s0.key) c.walk_property_name-name.ensures.shape ∙ sym (shape_Property _ _ _ _ c.in-Property.is); breaches = finds_is _ _ _ _ (is_Property _ _ _ _ _ _ _ c.in-Property.is) (finds_then _ _ _ _ _ c.walk_property_name-name.ensures.breaches (finds_then _ _ _ _ _ (finds_of (λ z1. spec.breaches_of_expression c.in-Property.x c.args.text.now c.args.setting z1) _ _ _ _ c.element_role-in-Property.ensures c.walk_expression-in-Property.ensures.breaches) (finds_none _))) }

pub walk_element-returns-in-MethodProperty : goal.walk_element-returns-in-MethodProperty
walk_element-returns-in-MethodProperty t c = record { shape = c.other_element-in-MethodProperty.ensures ∙ sym (shape_MethodProperty _ _ c.in-MethodProperty.is); breaches = finds_is _ _ _ _ (is_MethodProperty _ _ _ _ _ c.in-MethodProperty.is) (finds_then _ _ _ _ _ (finds_of (λ y. spec.breaches_of_method y c.args.text.now c.args.setting false false) _ _ _ _ c.get.ensures c.walk_method.ensures.breaches) (finds_then _ _ _ _ _ c.check_method_property.ensures (finds_none _))) }

pub walk_property_name-returns-in-Named : goal.walk_property_name-returns-in-Named
walk_property_name-returns-in-Named t c = record { shape = c.named_shape.ensures ∙ sym (shape_Named _ _ c.in-Named.is); breaches = finds_is _ _ _ _ (is_Named _ _ _ _ c.in-Named.is) (finds_none _) }

pub walk_property_name-returns-in-Computed : goal.walk_property_name-returns-in-Computed
walk_property_name-returns-in-Computed t c = record { shape = c.computed_shape.ensures ∙ sym (shape_Computed _ _ _ _ c.in-Computed.is); breaches = finds_is _ _ _ _ (is_Computed _ _ _ _ _ _ c.in-Computed.is) c.walk_expression.ensures.breaches }

pub walk_case_clause-returns-in-Case : goal.walk_case_clause-returns-in-Case
walk_case_clause-returns-in-Case t c = finds_is _ _ _ _ (is_Case _ _ _ _ _ _ _ c.in-Case.is) (finds_then _ _ _ _ _ c.walk_expression.ensures.breaches (finds_then _ _ _ _ _ (finds_of (λ y. each c.args.text.now c.args.setting (map (λ f. f.breaches) (map spec.facts_of_statement y))) _ _ _ _ c.as_slice.ensures c.walk_statements.ensures) (finds_none _)))

pub walk_case_clause-returns-in-Default : goal.walk_case_clause-returns-in-Default
walk_case_clause-returns-in-Default t c = finds_is _ _ _ _ (is_Default _ _ _ _ _ _ c.in-Default.is) (finds_of (λ y. each c.args.text.now c.args.setting (map (λ f. f.breaches) (map spec.facts_of_statement y))) _ _ _ _ c.as_slice-in-Default.ensures c.walk_statements-in-Default.ensures)

pub walk_else-returns-in-NoElse : goal.walk_else-returns-in-NoElse
walk_else-returns-in-NoElse t c = finds_is _ _ _ _ (is_NoElse _ _ _ c.in-NoElse.is) (finds_none _)

pub walk_else-returns-in-Otherwise : goal.walk_else-returns-in-Otherwise
walk_else-returns-in-Otherwise t c = finds_is _ _ _ _ (is_Otherwise _ _ _ _ _ c.in-Otherwise.is) (finds_of (λ y. spec.breaches_of_statement y c.args.text.now c.args.setting) _ _ _ _ c.get.ensures c.walk_statement.ensures)

pub walk_finalizer-returns-in-NoFinalizer : goal.walk_finalizer-returns-in-NoFinalizer
walk_finalizer-returns-in-NoFinalizer t c = finds_is _ _ _ _ (is_NoFinalizer _ _ _ c.in-NoFinalizer.is) (finds_none _)

pub walk_finalizer-returns-in-Finally : goal.walk_finalizer-returns-in-Finally
walk_finalizer-returns-in-Finally t c = finds_is _ _ _ _ (is_Finally _ _ _ _ _ c.in-Finally.is) c.walk_block.ensures

pub walk_for_start-returns-in-NoStart : goal.walk_for_start-returns-in-NoStart
walk_for_start-returns-in-NoStart t c = finds_is _ _ _ _ (is_NoStart _ _ _ _ c.in-NoStart.is) (finds_none _)

pub walk_for_start-returns-in-StartExpression : goal.walk_for_start-returns-in-StartExpression
walk_for_start-returns-in-StartExpression t c = finds_is _ _ _ _ (is_StartExpression _ _ _ _ _ c.in-StartExpression.is) c.walk_expression.ensures.breaches

pub walk_for_start-returns-in-StartDeclaration : goal.walk_for_start-returns-in-StartDeclaration
walk_for_start-returns-in-StartDeclaration t c = finds_is _ _ _ _ (is_StartDeclaration _ _ _ _ _ c.in-StartDeclaration.is) c.walk_declaration.ensures

pub walk_handler-returns-in-NoHandler : goal.walk_handler-returns-in-NoHandler
walk_handler-returns-in-NoHandler t c = finds_is _ _ _ _ (is_NoHandler _ _ _ c.in-NoHandler.is) (finds_none _)

pub walk_handler-returns-in-Catch : goal.walk_handler-returns-in-Catch
walk_handler-returns-in-Catch t c = finds_is _ _ _ _ (is_Catch _ _ _ _ _ c.in-Catch.is) c.walk_block.ensures

pub walk_handler-returns-in-CatchParameter : goal.walk_handler-returns-in-CatchParameter
walk_handler-returns-in-CatchParameter t c = finds_is _ _ _ _ (is_CatchParameter _ _ _ _ _ _ _ _ c.in-CatchParameter.is) (finds_then _ _ _ _ _ c.walk_expression.ensures.breaches (finds_then _ _ _ _ _ c.walk_block-in-CatchParameter.ensures (finds_none _)))

pub walk_maybe_expression-returns-in-Absent : goal.walk_maybe_expression-returns-in-Absent
walk_maybe_expression-returns-in-Absent t c = finds_is _ _ _ _ (is_Absent _ _ _ c.in-Absent.is) (finds_none _)

pub walk_maybe_expression-returns-in-Present : goal.walk_maybe_expression-returns-in-Present
walk_maybe_expression-returns-in-Present t c = finds_is _ _ _ _ (is_Present _ _ _ _ c.in-Present.is) c.walk_expression.ensures.breaches

pub walk_statement-returns-in-BlockStatement : goal.walk_statement-returns-in-BlockStatement
walk_statement-returns-in-BlockStatement t c = finds_is _ _ _ _ (is_BlockStatement _ _ _ _ c.in-BlockStatement.is) c.walk_block.ensures

pub walk_statement-returns-in-Variables : goal.walk_statement-returns-in-Variables
walk_statement-returns-in-Variables t c = finds_is _ _ _ _ (is_Variables _ _ _ _ _ c.in-Variables.is) c.walk_declaration.ensures

pub walk_statement-returns-in-Empty : goal.walk_statement-returns-in-Empty
walk_statement-returns-in-Empty t c = finds_is _ _ _ _ (is_Empty _ _ _ _ c.in-Empty.is) (finds_none _)

pub walk_statement-returns-in-ExpressionStatement : goal.walk_statement-returns-in-ExpressionStatement
walk_statement-returns-in-ExpressionStatement t c = finds_is _ _ _ _ (is_ExpressionStatement _ _ _ _ _ c.in-ExpressionStatement.is) c.walk_expression.ensures.breaches

pub walk_statement-returns-in-If : goal.walk_statement-returns-in-If
walk_statement-returns-in-If t c = finds_is _ _ _ _ (is_If _ _ _ _ _ _ c.in-If.is) (finds_then _ _ _ _ _ c.walk_if_clause.ensures (finds_then _ _ _ _ _ (finds_of (λ y. each c.args.text.now c.args.setting (map spec.breaches_of_else_if y)) _ _ _ _ c.as_slice.ensures c.walk_else_ifs.ensures) (finds_then _ _ _ _ _ c.walk_else.ensures (finds_none _))))

pub walk_statement-returns-in-DoWhile : goal.walk_statement-returns-in-DoWhile
walk_statement-returns-in-DoWhile t c = finds_is _ _ _ _ (is_DoWhile _ _ _ _ _ _ _ _ _ _ c.in-DoWhile.is) (finds_then _ _ _ _ _ (finds_of_two (λ y z0. spec.breaches_of_statement y c.args.text.now z0) _ _ _ _ _ _ c.get.ensures c.of_loop.ensures c.walk_statement.ensures) (finds_then _ _ _ _ _ c.walk_expression-in-DoWhile.ensures.breaches (finds_none _)))

pub walk_statement-returns-in-While : goal.walk_statement-returns-in-While
walk_statement-returns-in-While t c = finds_is _ _ _ _ (is_While _ _ _ _ _ _ _ _ c.in-While.is) (finds_then _ _ _ _ _ c.walk_expression-in-While.ensures.breaches (finds_then _ _ _ _ _ (finds_of_two (λ y z0. spec.breaches_of_statement y c.args.text.now z0) _ _ _ _ _ _ c.get-in-While.ensures c.of_loop-in-While.ensures c.walk_statement-in-While.ensures) (finds_none _)))

pub walk_statement-returns-in-For : goal.walk_statement-returns-in-For
walk_statement-returns-in-For t c = finds_is _ _ _ _ (is_For _ _ _ _ _ _ _ _ _ _ _ _ c.in-For.is) (finds_then _ _ _ _ _ c.walk_for_start.ensures (finds_then _ _ _ _ _ c.walk_maybe_expression.ensures (finds_then _ _ _ _ _ c.walk_maybe_expression-in-For.ensures (finds_then _ _ _ _ _ (finds_of_two (λ y z0. spec.breaches_of_statement y c.args.text.now z0) _ _ _ _ _ _ c.get-in-For.ensures c.of_loop-in-For.ensures c.walk_statement-in-For.ensures) (finds_none _)))))

pub walk_statement-returns-in-ForEach : goal.walk_statement-returns-in-ForEach
walk_statement-returns-in-ForEach t c = finds_is _ _ _ _ (is_ForEach _ _ _ _ _ _ _ _ _ _ _ c.in-ForEach.is) (finds_then _ _ _ _ _ c.walk_for_start-in-ForEach.ensures (finds_then _ _ _ _ _ c.walk_expression-in-ForEach.ensures.breaches (finds_then _ _ _ _ _ (finds_of_two (λ y z0. spec.breaches_of_statement y c.args.text.now z0) _ _ _ _ _ _ c.get-in-ForEach.ensures c.of_loop-in-ForEach.ensures c.walk_statement-in-ForEach.ensures) (finds_none _))))

pub walk_statement-returns-in-Continue : goal.walk_statement-returns-in-Continue
walk_statement-returns-in-Continue t c = finds_is _ _ _ _ (is_Continue _ _ _ _ _ _ c.in-Continue.is) c.check_continue.ensures

pub walk_statement-returns-in-Break : goal.walk_statement-returns-in-Break
walk_statement-returns-in-Break t c = finds_is _ _ _ _ (is_Break _ _ _ _ _ _ c.in-Break.is) c.check_break.ensures

pub walk_statement-returns-in-Return : goal.walk_statement-returns-in-Return
walk_statement-returns-in-Return t c = finds_is _ _ _ _ (is_Return _ _ _ _ _ _ c.in-Return.is) (finds_then _ _ _ _ _ c.check_return.ensures (finds_then _ _ _ _ _ c.walk_maybe_expression-in-Return.ensures (finds_none _)))

pub walk_statement-returns-in-Switch : goal.walk_statement-returns-in-Switch
walk_statement-returns-in-Switch t c = finds_is _ _ _ _ (is_Switch _ _ _ _ _ _ _ _ _ _ c.in-Switch.is) (finds_then _ _ _ _ _ c.walk_expression-in-Switch.ensures.breaches (finds_then _ _ _ _ _ (finds_of_two (λ y z0. each c.args.text.now z0 (map spec.breaches_of_case_clause y)) _ _ _ _ _ _ c.as_slice-in-Switch.ensures c.of_switch.ensures c.walk_case_clauses.ensures) (finds_none _)))

pub walk_statement-returns-in-Labelled : goal.walk_statement-returns-in-Labelled
walk_statement-returns-in-Labelled t c = finds_is _ _ _ _ (is_Labelled _ _ _ _ _ _ c.in-Labelled.is) (finds_then _ _ _ _ _ c.check_label.ensures (finds_then _ _ _ _ _ c.check_reference.ensures (finds_then _ _ _ _ _ (finds_of (λ y. behind (record { name = c.in-Labelled.label; is_loop = spec.is_loop_of_statement y }) (spec.breaches_of_statement y c.args.text.now c.args.setting)) _ _ _ _ c.get-in-Labelled.ensures c.walk_behind.ensures) (finds_none _))))

pub walk_statement-returns-in-Throw : goal.walk_statement-returns-in-Throw
walk_statement-returns-in-Throw t c = finds_is _ _ _ _ (is_Throw _ _ _ _ _ _ c.in-Throw.is) c.walk_expression-in-Throw.ensures.breaches

pub walk_statement-returns-in-Try : goal.walk_statement-returns-in-Try
walk_statement-returns-in-Try t c = finds_is _ _ _ _ (is_Try _ _ _ _ _ _ _ c.in-Try.is) (finds_then _ _ _ _ _ c.walk_block-in-Try.ensures (finds_then _ _ _ _ _ c.walk_handler.ensures (finds_then _ _ _ _ _ c.walk_finalizer.ensures (finds_none _))))

pub walk_statement-returns-in-Debugger : goal.walk_statement-returns-in-Debugger
walk_statement-returns-in-Debugger t c = finds_is _ _ _ _ (is_Debugger _ _ _ _ _ c.in-Debugger.is) (finds_none _)

pub walk_statement-returns-in-FunctionDeclaration : goal.walk_statement-returns-in-FunctionDeclaration
walk_statement-returns-in-FunctionDeclaration t c = finds_is _ _ _ _ (is_FunctionDeclaration _ _ _ _ c.in-FunctionDeclaration.is) c.walk_function.ensures.breaches

pub walk_statement-returns-in-ClassDeclaration : goal.walk_statement-returns-in-ClassDeclaration
walk_statement-returns-in-ClassDeclaration t c = finds_is _ _ _ _ (is_ClassDeclaration _ _ _ _ c.in-ClassDeclaration.is) c.walk_class.ensures.breaches

pub walk_class-returns : goal.walk_class-returns
walk_class-returns t c = record { shape = sym (shape_at_Class _); breaches = finds_is _ _ _ _ (at_Class _ _ _) (finds_then _ _ _ _ _ c.check_declared.ensures (finds_then _ _ _ _ _ c.walk_heritage-heritage.ensures.breaches (finds_then _ _ _ _ _ (finds_of_two (λ y z1. spec.class_elements_breaches c.args.text.now c.args.setting z1 false (map spec.facts_of_class_element y)) _ _ _ _ _ _ c.as_slice.ensures (ap (λ s. s) c.walk_heritage-heritage.ensures.shape) c.walk_class_elements.ensures) (finds_none _)))) }

pub walk_operand-returns : goal.walk_operand-returns
walk_operand-returns t c = finds_is _ _ _ _ (at_Operand _ _ _) c.walk_expression.ensures.breaches

pub walk_substitution-returns : goal.walk_substitution-returns
walk_substitution-returns t c = finds_is _ _ _ _ (at_Substitution _ _ _) c.walk_expression.ensures.breaches

pub walk_substitutions-returns : goal.walk_substitutions-returns
walk_substitutions-returns t c = record { shape = sym (shape_at_Substitutions _); breaches = finds_is _ _ _ _ (at_Substitutions _ _ _) (finds_then _ _ _ _ _ c.walk_expression.ensures.breaches (finds_then _ _ _ _ _ (finds_of (λ y. each c.args.text.now c.args.setting (map spec.breaches_of_substitution y)) _ _ _ _ c.as_slice.ensures c.walk_each_substitution.ensures) (finds_none _))) }

pub walk_function-returns : goal.walk_function-returns
walk_function-returns t c = record { shape = c.start_of_function.ensures ∙ sym (shape_at_Function _); breaches = finds_is _ _ _ _ (at_Function _ _ _) (finds_then _ _ _ _ _ c.check_declared.ensures (finds_then _ _ _ _ _ c.check_names_of_parameters.ensures (finds_then _ _ _ _ _ (finds_of (λ z0. spec.breaches_of_bracketed (out-Function c.args.x.now).parameters c.args.text.now z0 lr.ArrayPattern) _ _ _ _ c.of_function_parameters.ensures c.walk_bracketed-parameters.ensures.breaches) (finds_then _ _ _ _ _ (finds_of (λ z. unlabelled (spec.breaches_of_block (out-Function c.args.x.now).body c.args.text.now z)) _ _ _ _ c.of_function.ensures c.walk_body.ensures) (finds_then _ _ _ _ _ (finds_of (λ s0. strict_breaches s0.is_plain (spec.use_strict_of_block (out-Function c.args.x.now).body c.args.text.now)) _ _ _ _ c.walk_bracketed-parameters.ensures.shape c.check_strict.ensures) (finds_none _)))))) }

pub walk_method-returns : goal.walk_method-returns
walk_method-returns t c = record { shape = ap (λ s. s.key) (c.walk_property_name-name.ensures.shape) ∙ sym (shape_at_Method _); breaches = finds_is _ _ _ _ (at_Method _ _ _ _ _) (finds_then _ _ _ _ _ c.walk_property_name-name.ensures.breaches (finds_then _ _ _ _ _ (finds_of (λ s0. constructor_breaches c.args.text.now c.args.is_prototype s0.key (out-Method c.args.x.now).word (out-Method c.args.x.now).star) _ _ _ _ c.walk_property_name-name.ensures.shape c.check_constructor.ensures) (finds_then _ _ _ _ _ c.check_names_of_parameters.ensures (finds_then _ _ _ _ _ (finds_of (λ z0. spec.breaches_of_bracketed (out-Method c.args.x.now).parameters c.args.text.now z0 lr.ArrayPattern) _ _ _ _ (c.of_method_parameters.ensures ∙ ap (λ s. (of_method_parameters c.args.text.now c.args.is_prototype c.args.is_derived s.key)) c.walk_property_name-name.ensures.shape) c.walk_bracketed-parameters.ensures.breaches) (finds_then _ _ _ _ _ (finds_of_two (λ s0 s1. accessor_breaches c.args.text.now (out-Method c.args.x.now).word s0.start s1.is_empty s1.is_one_value) _ _ _ _ _ _ c.walk_property_name-name.ensures.shape c.walk_bracketed-parameters.ensures.shape c.check_accessor.ensures) (finds_then _ _ _ _ _ (finds_of (λ z. unlabelled (spec.breaches_of_block (out-Method c.args.x.now).body c.args.text.now z)) _ _ _ _ (c.of_named_method.ensures ∙ ap (λ s. (of_named_method c.args.text.now c.args.is_prototype c.args.is_derived s.key)) c.walk_property_name-name.ensures.shape) c.walk_body.ensures) (finds_then _ _ _ _ _ (finds_of (λ s0. strict_breaches s0.is_plain (spec.use_strict_of_block (out-Method c.args.x.now).body c.args.text.now)) _ _ _ _ c.walk_bracketed-parameters.ensures.shape c.check_strict.ensures) (finds_none _)))))))) }

pub walk_bracketed-returns : goal.walk_bracketed-returns
walk_bracketed-returns t c = record { shape = c.bracketed_shape.ensures ∙ ap (λ s0. bracketed_shape (out-Bracketed c.args.x.now).begin s0) c.walk_elements-list.ensures.shape ∙ sym (shape_at_Bracketed _); breaches = finds_is _ _ _ _ (at_Bracketed _ _ _ _) c.walk_elements-list.ensures.breaches }

pub walk_next_element-returns : goal.walk_next_element-returns
walk_next_element-returns t c = record { shape = c.walk_element-element.ensures.shape ∙ sym (shape_at_NextElement _); breaches = finds_is _ _ _ _ (at_NextElement _ _ _ _) c.walk_element-element.ensures.breaches }

pub walk_block-returns : goal.walk_block-returns
walk_block-returns t c = finds_is _ _ _ _ (at_Block _ _ _) (finds_of (λ y. each c.args.text.now c.args.setting (map (λ f. f.breaches) (map spec.facts_of_statement y))) _ _ _ _ c.as_slice.ensures c.walk_statements.ensures)

pub walk_declaration-returns : goal.walk_declaration-returns
walk_declaration-returns t c = finds_is _ _ _ _ (at_Declaration _ _ _) c.walk_elements.ensures.breaches

pub walk_else_if-returns : goal.walk_else_if-returns
walk_else_if-returns t c = finds_is _ _ _ _ (at_ElseIf _ _ _) c.walk_if_clause.ensures

pub walk_if_clause-returns : goal.walk_if_clause-returns
walk_if_clause-returns t c = finds_is _ _ _ _ (at_IfClause _ _ _) (finds_then _ _ _ _ _ c.walk_expression.ensures.breaches (finds_then _ _ _ _ _ (finds_of (λ y. spec.breaches_of_statement y c.args.text.now c.args.setting) _ _ _ _ c.get.ensures c.walk_statement.ensures) (finds_none _)))

pub walk_case_clauses-loop-item-init : goal.walk_case_clauses-loop-item-init
walk_case_clauses-loop-item-init t c end rest = rest

pub walk_case_clauses-loop-item-preserved : goal.walk_case_clauses-loop-item-preserved
walk_case_clauses-loop-item-preserved t c end rest = finds_next (λ x. spec.breaches_of_case_clause x c.args.text.now c.args.setting) (λ xs. each c.args.text.now c.args.setting (map spec.breaches_of_case_clause xs)) c.args.items.now c.loop-item.item-index c.item-item.result _ _ _ end (λ y ys. refl) c.loop-item-test.true c.item-item.is (c.loop-item.invariant end) c.walk_case_clause.ensures rest

pub walk_case_clauses-returns : goal.walk_case_clauses-returns
walk_case_clauses-returns t c = finds_end (λ xs. each c.args.text.now c.args.setting (map spec.breaches_of_case_clause xs)) c.args.items.now c.loop-item.item-index _ _ refl c.loop-item-test.false (c.loop-item.invariant _)

pub walk_each_substitution-loop-item-init : goal.walk_each_substitution-loop-item-init
walk_each_substitution-loop-item-init t c end rest = rest

pub walk_each_substitution-loop-item-preserved : goal.walk_each_substitution-loop-item-preserved
walk_each_substitution-loop-item-preserved t c end rest = finds_next (λ x. spec.breaches_of_substitution x c.args.text.now c.args.setting) (λ xs. each c.args.text.now c.args.setting (map spec.breaches_of_substitution xs)) c.args.items.now c.loop-item.item-index c.item-item.result _ _ _ end (λ y ys. refl) c.loop-item-test.true c.item-item.is (c.loop-item.invariant end) c.walk_substitution.ensures rest

pub walk_each_substitution-returns : goal.walk_each_substitution-returns
walk_each_substitution-returns t c = finds_end (λ xs. each c.args.text.now c.args.setting (map spec.breaches_of_substitution xs)) c.args.items.now c.loop-item.item-index _ _ refl c.loop-item-test.false (c.loop-item.invariant _)

pub walk_else_ifs-loop-item-init : goal.walk_else_ifs-loop-item-init
walk_else_ifs-loop-item-init t c end rest = rest

pub walk_else_ifs-loop-item-preserved : goal.walk_else_ifs-loop-item-preserved
walk_else_ifs-loop-item-preserved t c end rest = finds_next (λ x. spec.breaches_of_else_if x c.args.text.now c.args.setting) (λ xs. each c.args.text.now c.args.setting (map spec.breaches_of_else_if xs)) c.args.items.now c.loop-item.item-index c.item-item.result _ _ _ end (λ y ys. refl) c.loop-item-test.true c.item-item.is (c.loop-item.invariant end) c.walk_else_if.ensures rest

pub walk_else_ifs-returns : goal.walk_else_ifs-returns
walk_else_ifs-returns t c = finds_end (λ xs. each c.args.text.now c.args.setting (map spec.breaches_of_else_if xs)) c.args.items.now c.loop-item.item-index _ _ refl c.loop-item-test.false (c.loop-item.invariant _)

pub walk_operands-loop-item-init : goal.walk_operands-loop-item-init
walk_operands-loop-item-init t c end rest = rest

pub walk_operands-loop-item-preserved : goal.walk_operands-loop-item-preserved
walk_operands-loop-item-preserved t c end rest = finds_next (λ x. spec.breaches_of_operand x c.args.text.now c.args.setting) (λ xs. each c.args.text.now c.args.setting (map spec.breaches_of_operand xs)) c.args.items.now c.loop-item.item-index c.item-item.result _ _ _ end (λ y ys. refl) c.loop-item-test.true c.item-item.is (c.loop-item.invariant end) c.walk_operand.ensures rest

pub walk_operands-returns : goal.walk_operands-returns
walk_operands-returns t c = finds_end (λ xs. each c.args.text.now c.args.setting (map spec.breaches_of_operand xs)) c.args.items.now c.loop-item.item-index _ _ refl c.loop-item-test.false (c.loop-item.invariant _)

pub walk_statements-loop-item-init : goal.walk_statements-loop-item-init
walk_statements-loop-item-init t c end rest = rest

pub walk_statements-loop-item-preserved : goal.walk_statements-loop-item-preserved
walk_statements-loop-item-preserved t c end rest = finds_next (λ x. spec.breaches_of_statement x c.args.text.now c.args.setting) (λ xs. each c.args.text.now c.args.setting (map (λ f. f.breaches) (map spec.facts_of_statement xs))) c.args.items.now c.loop-item.item-index c.item-item.result _ _ _ end (λ y ys. each_statement y ys _ _) c.loop-item-test.true c.item-item.is (c.loop-item.invariant end) c.walk_statement.ensures rest

pub walk_statements-returns : goal.walk_statements-returns
walk_statements-returns t c = finds_end (λ xs. each c.args.text.now c.args.setting (map (λ f. f.breaches) (map spec.facts_of_statement xs))) c.args.items.now c.loop-item.item-index _ _ refl c.loop-item-test.false (c.loop-item.invariant _)

pub walk_class_elements-loop-item-init : goal.walk_class_elements-loop-item-init
walk_class_elements-loop-item-init t c end rest = rest

pub walk_class_elements-loop-item-preserved : goal.walk_class_elements-loop-item-preserved
walk_class_elements-loop-item-preserved t c end rest =
    let told = c.walk_class_element-key.ensures.shape in
    let more = c.or-has_one.ensures ∙ ap (λ b. c.loop-item.has_one || b) (c.is_constructor.ensures ∙ ap (is_constructor c.args.text.now) told) in
    let second = finds_of (λ k. second_constructor c.args.text.now c.loop-item.has_one k) _ _ _ _ told c.check_second_constructor.ensures in
    c.loop-item.invariant end (finds_is _ _ _ _
    (ap (λ xs. spec.class_elements_breaches c.args.text.now c.args.setting c.args.is_derived c.loop-item.has_one (map spec.facts_of_class_element xs)) (drop_next c.args.items.now c.loop-item.item-index c.item-item.result c.loop-item-test.true c.item-item.is) ∙ each_class_element c.item-item.result (drop (c.loop-item.item-index + 1) c.args.items.now) _ _ _ _)
    (finds_both _ _ _ _ _ (finds_both _ _ _ _ _ c.walk_class_element-key.ensures.breaches second) (finds_of (λ b. spec.class_elements_breaches c.args.text.now c.args.setting c.args.is_derived b (map spec.facts_of_class_element (drop (c.loop-item.item-index + 1) c.args.items.now))) _ _ _ _ more rest)))

pub walk_class_elements-returns : goal.walk_class_elements-returns
walk_class_elements-returns t c = c.loop-item.invariant _ (finds_is (λ labels. []) _ _ _ (ap (λ xs. spec.class_elements_breaches c.args.text.now c.args.setting c.args.is_derived c.loop-item.has_one (map spec.facts_of_class_element xs)) (drop_all c.loop-item.item-index c.args.items.now c.loop-item-test.false)) (finds_nothing _))

pub walk_links-loop-item-init : goal.walk_links-loop-item-init
walk_links-loop-item-init t c = (ap (λ l. fold after_link l (map (λ f. f.shape) (map spec.facts_of_link c.args.items.now))) c.no_links-links.ensures, λ end rest. rest)

pub walk_links-loop-item-preserved : goal.walk_links-loop-item-preserved
walk_links-loop-item-preserved t c = (
  ap (λ l. fold after_link l (map (λ f. f.shape) (map spec.facts_of_link (drop (c.loop-item.item-index + 1) c.args.items.now)))) (c.after_link-links.ensures ∙ ap (after_link c.loop-item.links) (c.walk_link-link.ensures.shape ∙ told_link _))
      ∙ sym (ap (λ xs. fold after_link c.loop-item.links (map (λ f. f.shape) (map spec.facts_of_link xs))) (drop_next c.args.items.now c.loop-item.item-index c.item-item.result c.loop-item-test.true c.item-item.is)) ∙ c.loop-item.invariant.0,
  λ end rest. finds_next (λ x. spec.breaches_of_link x c.args.text.now c.args.setting c.args.role) (λ xs. spec.links_breaches c.args.text.now c.args.setting c.args.role (map spec.facts_of_link xs)) c.args.items.now c.loop-item.item-index c.item-item.result _ _ _ end (λ y ys. each_link y ys _ _ _) c.loop-item-test.true c.item-item.is (c.loop-item.invariant.1 end) c.walk_link-link.ensures.breaches rest,
)

pub walk_links-returns : goal.walk_links-returns
walk_links-returns t c = record {
  shape = sym (ap (λ xs. fold after_link c.loop-item.links (map (λ f. f.shape) (map spec.facts_of_link xs))) (drop_all c.loop-item.item-index c.args.items.now c.loop-item-test.false)) ∙ c.loop-item.invariant.0;
  breaches = finds_end (λ xs. spec.links_breaches c.args.text.now c.args.setting c.args.role (map spec.facts_of_link xs)) c.args.items.now c.loop-item.item-index _ _ refl c.loop-item-test.false (c.loop-item.invariant.1 _);
}

pub walk_next_elements-loop-item-init : goal.walk_next_elements-loop-item-init
walk_next_elements-loop-item-init t c = (refl, refl, λ end rest. rest)

pub walk_next_elements-loop-item-preserved : goal.walk_next_elements-loop-item-preserved
walk_next_elements-loop-item-preserved t c =
    let after = drop (c.loop-item.item-index + 1) c.args.items.now in
    let next = drop_next c.args.items.now c.loop-item.item-index c.item-item.result c.loop-item-test.true c.item-item.is in
    let left : c.loop-item.left - 1 ≡ length (drop (c.loop-item.item-index + 1) c.args.items.now) = one_less (c.loop-item.left) _ (c.loop-item.invariant.0 ∙ ap length next) in
    let told = c.walk_next_element-element.ensures.shape in
    let at = c.placed.ensures ∙ ap (placed c.args.role c.args.begin) (ap (λ n. n == 0) left ∙ no_length spec.facts_of_next_element after) in
    let more = c.or-has_one.ensures ∙ ap (λ b. c.loop-item.has_one || b) (c.is_proto_in.ensures ∙ ap (λ e. is_proto_in c.args.text.now e.key) told) in (
      left,
      plain_next c.loop-item.are_plain _ _ _ _ (c.and-are_plain.ensures ∙ ap (λ e. c.loop-item.are_plain && e.is_plain) (told ∙ told_next _)) (sym (ap (λ xs. c.loop-item.are_plain && spec.are_plain (map spec.facts_of_next_element xs)) next) ∙ c.loop-item.invariant.1),
      λ end rest. c.loop-item.invariant.2 end (finds_is _ _ _ _
          (ap (λ xs. spec.nexts_breaches c.args.text.now c.args.setting c.args.role c.args.begin c.loop-item.has_one (map spec.facts_of_next_element xs)) next ∙ each_next c.item-item.result after _ _ _ _ _)
          (finds_both _ _ _ _ _ (finds_both _ _ _ _ _ (finds_of (λ p. spec.breaches_of_next_element c.item-item.result c.args.text.now c.args.setting p) _ _ _ _ at c.walk_next_element-element.ensures.breaches) (finds_of (λ e. second_proto c.args.text.now c.args.role c.loop-item.has_one e.key) _ _ _ _ told c.check_second_proto.ensures)) (finds_of (λ b. spec.nexts_breaches c.args.text.now c.args.setting c.args.role c.args.begin b (map spec.facts_of_next_element after)) _ _ _ _ more rest))),
    )

pub walk_next_elements-returns : goal.walk_next_elements-returns
walk_next_elements-returns t c = record {
  shape = plain_end _ _ (sym (ap (λ xs. c.loop-item.are_plain && spec.are_plain (map spec.facts_of_next_element xs)) (drop_all c.loop-item.item-index c.args.items.now c.loop-item-test.false)) ∙ c.loop-item.invariant.1);
  breaches = c.loop-item.invariant.2 _ (finds_is (λ labels. []) _ _ _ (ap (λ xs. spec.nexts_breaches c.args.text.now c.args.setting c.args.role c.args.begin c.loop-item.has_one (map spec.facts_of_next_element xs)) (drop_all c.loop-item.item-index c.args.items.now c.loop-item-test.false)) (finds_nothing _));
}

pub walk_elements-returns : goal.walk_elements-returns
walk_elements-returns t c =
    let x = c.args.x.now in
    let rest = c.as_slice-rest.ensures in
    let only = c.is_none-is_only.ensures ∙ ap is_empty rest ∙ sym (mapped_empty spec.facts_of_next_element (out-Elements x).rest) in
    let plain = c.walk_next_elements-are_plain.ensures.shape ∙ ap (λ xs. spec.are_plain (map spec.facts_of_next_element xs)) rest in
    record {
      shape = c.elements_shape.ensures ∙ alike_three elements_shape c.walk_element-first.ensures.shape plain only ∙ sym (shape_at_Elements x);
      breaches = finds_is _ _ _ _ (at_Elements x _ _ _ _)
          (finds_then _ _ _ _ _ (finds_of (λ p. spec.breaches_of_element (out-Elements x).first c.args.text.now c.args.setting p) _ _ _ _ (c.placed.ensures ∙ ap (placed c.args.role c.args.begin) only) c.walk_element-first.ensures.breaches)
          (finds_then _ _ _ _ _ (finds_of_two (λ b xs. spec.nexts_breaches c.args.text.now c.args.setting c.args.role c.args.begin b (map spec.facts_of_next_element xs)) _ _ _ _ _ _ (c.is_proto_in-has_proto.ensures ∙ ap (λ e. is_proto_in c.args.text.now e.key) c.walk_element-first.ensures.shape) rest c.walk_next_elements-are_plain.ensures.breaches)
          (finds_none _)));
    }

pub walk_body-returns : goal.walk_body-returns
walk_body-returns t c = finds_unlabelled _ _ _ _ _ _ c.set_aside-outer.ensures c.walk_block.ensures c.put_back.ensures

pub walk_behind-returns : goal.walk_behind-returns
walk_behind-returns t c = finds_of (λ l. behind (record { name = c.args.name; is_loop = l }) (spec.breaches_of_statement c.args.body.now c.args.text.now c.args.setting)) _ _ _ _ c.is_loop.ensures (finds_behind _ _ _ _ _ _ c.enter.ensures c.walk_statement.ensures c.leave.ensures)
