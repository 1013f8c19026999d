-- Which lists of Arguments are FormalParameters too (ECMA-262, 14.2), by their trees.
use Rattle.std.specs.Prelude.{ℕ, zero, suc, Bool, true, false, ◌&&◌}
use Rattle.esb_tree.specs.declared.classes.ClassElement.TheOpen.{Expression-F, Element-F}
use Rattle.esb_tree.specs.declared.classes.Class.{Class}
use Rattle.esb_tree.specs.declared.classes.ClassElement.{ClassElement}
use Rattle.esb_tree.specs.declared.classes.Heritage.{Heritage}
use Rattle.esb_tree.specs.declared.expressions.Expression.{Expression, out-Expression}
use Rattle.esb_tree.specs.declared.expressions.Link.{Link}
use Rattle.esb_tree.specs.declared.expressions.Operand.{Operand}
use Rattle.esb_tree.specs.declared.expressions.Substitution.{Substitution}
use Rattle.esb_tree.specs.declared.expressions.Substitutions.{Substitutions}
use Rattle.esb_tree.specs.declared.functions.ConciseBody.{ConciseBody}
use Rattle.esb_tree.specs.declared.functions.Function.{Function}
use Rattle.esb_tree.specs.declared.functions.Method.{Method}
use Rattle.esb_tree.specs.declared.patterns.Bracketed.{Bracketed, out-Bracketed}
use Rattle.esb_tree.specs.declared.patterns.Element.{Element, out-Element}
use Rattle.esb_tree.specs.declared.patterns.Elements.{Elements, out-Elements}
use Rattle.esb_tree.specs.declared.patterns.NextElement.{NextElement}
use Rattle.esb_tree.specs.declared.patterns.PropertyName.{PropertyName}
use Rattle.esb_tree.specs.declared.statements.Block.{Block}
use Rattle.esb_tree.specs.declared.statements.CaseClause.{CaseClause}
use Rattle.esb_tree.specs.declared.statements.Declaration.{Declaration}
use Rattle.esb_tree.specs.declared.statements.Else.{Else}
use Rattle.esb_tree.specs.declared.statements.ElseIf.{ElseIf}
use Rattle.esb_tree.specs.declared.statements.Finalizer.{Finalizer}
use Rattle.esb_tree.specs.declared.statements.ForStart.{ForStart}
use Rattle.esb_tree.specs.declared.statements.Handler.{Handler}
use Rattle.esb_tree.specs.declared.statements.IfClause.{IfClause}
use Rattle.esb_tree.specs.declared.statements.MaybeExpression.{MaybeExpression}
use Rattle.esb_tree.specs.declared.statements.Statement.{Statement}
use Rattle.esb_grammar.specs.Kinds.{is_assign, is_binding}
use Rattle.esb_literal_laws.specs.ElementLists.{placed}

-- ---- what a node is on the outside

abbrev pub Expression_layer : Type 0
Expression_layer = Expression-F ClassElement Heritage Expression Link ConciseBody Element PropertyName CaseClause Else Finalizer ForStart Handler MaybeExpression Statement Class Operand Substitution Substitutions Function Method Bracketed Elements NextElement Block Declaration ElseIf IfClause

abbrev pub Element_layer : Type 0
Element_layer = Element-F ClassElement Heritage Expression Link ConciseBody Element PropertyName CaseClause Else Finalizer ForStart Handler MaybeExpression Statement Class Operand Substitution Substitutions Function Method Bracketed Elements NextElement Block Declaration ElseIf IfClause

abbrev pub name_layer : Expression_layer → Bool
name_layer (Expression-F.Primary t) = is_binding t.kind
name_layer _ = false

-- a name that may be bound
unfoldable pub is_bound_name : Expression → Bool
is_bound_name x = name_layer (out-Expression x)

-- ---- lists, whose elements a test passes in their places: the flag says that an element is the last

abbrev pub elements_cover : (Bool → Element → Bool) → Elements → Bool
elements_cover fit list = placed fit ((out-Elements list).first, (out-Elements list).rest)

unfoldable pub list_covers : (Bool → Element → Bool) → Bracketed → Bool
list_covers fit list = elements_cover fit (out-Bracketed list).list

-- ---- elements, where `below` says which expressions are names and patterns that may be bound

abbrev pub default_layer : (Expression → Bool) → Expression → Expression_layer → Bool
default_layer below x (Expression-F.Assignment target sign value) = below target && is_assign sign.kind
default_layer below x _ = below x

-- what is bound, and maybe its default
unfoldable pub covers_binding : (Expression → Bool) → Expression → Bool
covers_binding below x = default_layer below x (out-Expression x)

abbrev pub slot_layer : (Expression → Bool) → Bool → Element_layer → Bool
slot_layer below last (Element-F.Hole) = true
slot_layer below last (Element-F.Value x) = covers_binding below x
slot_layer below last (Element-F.Spread dots x) = last && below x
slot_layer below last _ = false

-- an element of parameters and of patterns in brackets
unfoldable pub covers_slot : (Expression → Bool) → Bool → Element → Bool
covers_slot below last x = slot_layer below last (out-Element x)

abbrev pub property_layer : (Expression → Bool) → Bool → Element_layer → Bool
property_layer below last (Element-F.Hole) = true
property_layer below last (Element-F.Shorthand name) = is_binding name.kind
property_layer below last (Element-F.Initialized name sign x) = is_binding name.kind
property_layer below last (Element-F.Property name colon x) = covers_binding below x
property_layer below last (Element-F.Spread dots x) = last && is_bound_name x
property_layer below last _ = false

-- an element of patterns in braces
unfoldable pub covers_property : (Expression → Bool) → Bool → Element → Bool
covers_property below last x = property_layer below last (out-Element x)

-- ---- names and patterns

abbrev pub target_layer : (Expression → Bool) → Expression_layer → Bool
target_layer below (Expression-F.Primary t) = is_binding t.kind
target_layer below (Expression-F.ArrayLiteral list) = list_covers (covers_slot below) list
target_layer below (Expression-F.ObjectLiteral list) = list_covers (covers_property below) list
target_layer below _ = false

-- within n levels
unfoldable pub covers_target : ℕ → Expression → Bool
covers_target zero x = target_layer (λ _. false) (out-Expression x)
covers_target (suc n) x = target_layer (covers_target n) (out-Expression x)

-- whether a list of Arguments within n levels is FormalParameters too
unfoldable pub covers_parameters : ℕ → Bracketed → Bool
covers_parameters n list = list_covers (covers_slot (covers_target n)) list
