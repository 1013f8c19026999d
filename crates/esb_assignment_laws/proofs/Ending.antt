-- How operands and chains of operators end.
use Rattle.std.proofs.Common.{◌≡◌, ℕ, Bool, false, List, [], ◌∷◌, map, refl, ◌∙◌}
use Rattle.esb_token.specs.declared.token.Token.{Token}
use Rattle.esb_tree.specs.declared.classes.ClassElement.TheFolds.{fold-roll-Operand}
use Rattle.esb_tree.specs.declared.expressions.Expression.{Expression}
use Rattle.esb_tree.specs.declared.expressions.Operand.{Operand, roll-Operand}
use Rattle.esb_grammar.specs.declared.context.Context.{Context}
use Rattle.esb_grammar.specs.Edges.{last_of, arrow_edge, body_edge, operand_edge, ends_assignment, operand_ends_assignment}
use Rattle.esb_grammar.specs.Grammar.{IsPrimary, identifier_reference, literal, array_literal, object_literal, parenthesized, template_literal, function_expression, class_expression, primary_expression, new_target, import_meta, new_with_arguments, import_call, IsAccess, origin, member, super_member, IsLeftHandSide, access, new_without_arguments, IsUpdate, left_hand_side, postfix, prefix, IsUnary, update, unary, await, IsBinary, unary_expression, exponentiation, ArePowers, last_power, more_powers, AreOperands, more_operands}
use Rattle.esb_grammar.proofs.EdgeLines.{ends_Primary, ends_MetaProperty, ends_ArrayLiteral, ends_ObjectLiteral, ends_Parenthesized, ends_TemplateLiteral, ends_FunctionExpression, ends_ClassExpression, ends_Member, ends_New, ends_NewPlain, ends_ImportCall, ends_PrefixUpdate, ends_PostfixUpdate, ends_Unary, ends_Await, ends_Binary}

ends_Operand : (operator : Token) (value : Expression) → operand_ends_assignment (roll-Operand (record { operator = operator; value = value })) ≡ ends_assignment value
unfolding ends_assignment operand_ends_assignment
ends_Operand operator value = fold-roll-Operand (Unit {0}) (Unit {0}) Bool (Unit {0}) Bool (Unit {0}) (Unit {0}) (Unit {0}) (Unit {0}) (Unit {0}) (Unit {0}) (Unit {0}) (Unit {0}) (Unit {0}) (Unit {0}) Bool (Unit {0}) (Unit {0}) (Unit {0}) (Unit {0}) (Unit {0}) (Unit {0}) (Unit {0}) (Unit {0}) (Unit {0}) (Unit {0}) (Unit {0}) (λ _. tt) (λ _. tt) arrow_edge (λ _. tt) body_edge (λ _. tt) (λ _. tt) (λ _. tt) (λ _. tt) (λ _. tt) (λ _. tt) (λ _. tt) (λ _. tt) (λ _. tt) (λ _. tt) operand_edge (λ _. tt) (λ _. tt) (λ _. tt) (λ _. tt) (λ _. tt) (λ _. tt) (λ _. tt) (λ _. tt) (λ _. tt) (λ _. tt) (λ _. tt) (record { operator = operator; value = value })

module _ (text : List ℕ) where
  primary_ends : {c : Context} {x : Expression} → IsPrimary text c x → ends_assignment x ≡ false
  primary_ends (identifier_reference {t = t} h) = ends_Primary t
  primary_ends (literal {t = t} h) = ends_Primary t
  primary_ends (array_literal {list = list} h) = ends_ArrayLiteral list
  primary_ends (object_literal {list = list} h) = ends_ObjectLiteral list
  primary_ends (parenthesized {list = list} h) = ends_Parenthesized list
  primary_ends (template_literal {template = template} h) = ends_TemplateLiteral template
  primary_ends (function_expression {function = function} h) = ends_FunctionExpression function
  primary_ends (class_expression {class = class} h) = ends_ClassExpression class

  access_ends : {calls : Bool} {c : Context} {x : Expression} → IsAccess text calls c x → ends_assignment x ≡ false
  access_ends (origin (primary_expression h)) = primary_ends h
  access_ends (origin (new_target {word = word} {dot = dot} {name = name} h1 h2 h3)) = ends_MetaProperty word dot name
  access_ends (origin (import_meta {word = word} {dot = dot} {name = name} h1 h2 h3)) = ends_MetaProperty word dot name
  access_ends (origin (new_with_arguments {word = word} {callee = callee} {arguments = arguments} h1 h2 h3)) = ends_New word callee arguments
  access_ends (origin (import_call {word = word} {begin = begin} {x = x} {ending = ending} h1 h2 h3 h4)) = ends_ImportCall word begin x ending
  access_ends (member object first rest h1 h2) = ends_Member object _
  access_ends (super_member word first rest h1 h2 h3) = ends_Member _ _

  left_ends : {c : Context} {x : Expression} → IsLeftHandSide text c x → ends_assignment x ≡ false
  left_ends (access h) = access_ends h
  left_ends (new_without_arguments {word = word} {callee = callee} h1 h2) = ends_NewPlain word callee

  update_ends : {c : Context} {x : Expression} → IsUpdate text c x → ends_assignment x ≡ false
  update_ends (left_hand_side h) = left_ends h
  update_ends (postfix {x = x} {operator = operator} h1 h2 h3) = ends_PostfixUpdate x operator
  update_ends (prefix {operator = operator} {x = x} h1 h2) = ends_PrefixUpdate operator x

  unary_ends : {c : Context} {x : Expression} → IsUnary text c x → ends_assignment x ≡ false
  unary_ends (update h) = update_ends h
  unary_ends (unary {operator = operator} {x = x} h1 h2) = ends_Unary operator x
  unary_ends (await {word = word} {x = x} h1 h2 h3) = ends_Await word x

  powers_end : {c : Context} (os : List Operand) → ArePowers text c os → last_of (map operand_ends_assignment os) ≡ false
  powers_end [] h = elim h [ ]
  powers_end (o ∷ []) (last_power {operator = t} {x = x} h1 h2) = ends_Operand t x ∙ unary_ends h2
  powers_end (o ∷ p ∷ os) (more_powers h1 h2 more) = powers_end (p ∷ os) more

  mutual
    pub binary_ends : {level : ℕ} {c : Context} {x : Expression} → IsBinary text level c x → ends_assignment x ≡ false
    binary_ends (unary_expression h) = unary_ends h
    binary_ends (exponentiation first second rest low h powers) = ends_Binary first (second ∷ rest) ∙ powers_end (second ∷ rest) powers
    binary_ends (IsBinary.operators own first second rest low high h others) = ends_Binary first (second ∷ rest) ∙ operands_end (second ∷ rest) others

    operands_end : {own : ℕ} {c : Context} (os : List Operand) → AreOperands text own c os → last_of (map operand_ends_assignment os) ≡ false
    operands_end [] h = refl
    operands_end (o ∷ []) (more_operands {operator = t} {x = x} level h more) = ends_Operand t x ∙ binary_ends h
    operands_end (o ∷ p ∷ os) (more_operands level h more) = operands_end (p ∷ os) more
