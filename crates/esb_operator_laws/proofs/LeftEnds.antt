-- A LeftHandSideExpression ends with no `++` or `--` behind what it changes.
use Rattle.std.proofs.Common.{◌≡◌, ℕ, Bool, false, List}
use Rattle.esb_tree.specs.declared.expressions.Expression.{Expression}
use Rattle.esb_grammar.specs.declared.context.Context.{Context}
use Rattle.esb_grammar.specs.Grammar.{IsPrimary, identifier_reference, literal, array_literal, object_literal, parenthesized, template_literal, function_expression, class_expression, IsOrigin, primary_expression, new_target, import_meta, new_with_arguments, import_call, IsAccess, origin, member, super_member, IsLeftHandSide, access, new_without_arguments}
use Rattle.esb_operator_laws.specs.Postfix.{ends_postfix}
use Rattle.esb_operator_laws.proofs.PostfixLines.{postfix_Primary, postfix_MetaProperty, postfix_ArrayLiteral, postfix_ObjectLiteral, postfix_Parenthesized, postfix_TemplateLiteral, postfix_FunctionExpression, postfix_ClassExpression, postfix_Member, postfix_New, postfix_NewPlain, postfix_ImportCall}

module _ {text : List ℕ} where
  primary_ends : {c : Context} {x : Expression} → IsPrimary text c x → ends_postfix x ≡ false
  primary_ends (identifier_reference {t = t} h) = postfix_Primary t
  primary_ends (literal {t = t} h) = postfix_Primary t
  primary_ends (array_literal {list = list} h) = postfix_ArrayLiteral list
  primary_ends (object_literal {list = list} h) = postfix_ObjectLiteral list
  primary_ends (parenthesized {list = list} h) = postfix_Parenthesized list
  primary_ends (template_literal {template = template} h) = postfix_TemplateLiteral template
  primary_ends (function_expression {function = function} h) = postfix_FunctionExpression function
  primary_ends (class_expression {class = class} h) = postfix_ClassExpression class

  origin_ends : {calls : Bool} {c : Context} {x : Expression} → IsOrigin text calls c x → ends_postfix x ≡ false
  origin_ends (primary_expression h) = primary_ends h
  origin_ends (new_target {word = word} {dot = dot} {name = name} h1 h2 h3) = postfix_MetaProperty word dot name
  origin_ends (import_meta {word = word} {dot = dot} {name = name} h1 h2 h3) = postfix_MetaProperty word dot name
  origin_ends (new_with_arguments {word = word} {callee = callee} {arguments = arguments} h1 h2 h3) = postfix_New word callee arguments
  origin_ends (import_call {word = word} {begin = begin} {x = x} {ending = ending} h1 h2 h3 h4) = postfix_ImportCall word begin x ending

  access_ends : {calls : Bool} {c : Context} {x : Expression} → IsAccess text calls c x → ends_postfix x ≡ false
  access_ends (origin h) = origin_ends h
  access_ends (member object first rest h1 h2) = postfix_Member object _
  access_ends (super_member word first rest h1 h2 h3) = postfix_Member _ _

  pub left_ends : {c : Context} {x : Expression} → IsLeftHandSide text c x → ends_postfix x ≡ false
  left_ends (access h) = access_ends h
  left_ends (new_without_arguments {word = word} {callee = callee} h1 h2) = postfix_NewPlain word callee
