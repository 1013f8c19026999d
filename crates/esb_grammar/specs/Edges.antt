-- How nodes end, and what they are on the outside.
use Rattle.std.specs.Prelude.{Bool, true, false, List, [], ◌∷◌, Option, Some, None}
use Rattle.esb_tree.specs.declared.classes.ClassElement.TheOpen.{Expression-F, Link-F, ConciseBody-F, Operand-F, Element-F, Else-F, Statement-F}
use Rattle.esb_tree.specs.declared.classes.ClassElement.TheFolds.{fold-Expression, fold-ConciseBody, fold-Operand, fold-Statement, fold-Else}
use Rattle.esb_tree.specs.declared.classes.Class.{Class}
use Rattle.esb_tree.specs.declared.classes.ClassElement.{ClassElement}
use Rattle.esb_tree.specs.declared.classes.Heritage.{Heritage}
use Rattle.esb_tree.specs.declared.expressions.Expression.{Expression, out-Expression}
use Rattle.esb_tree.specs.declared.expressions.Link.{Link, out-Link}
use Rattle.esb_tree.specs.declared.expressions.Operand.{Operand}
use Rattle.esb_tree.specs.declared.expressions.Substitution.{Substitution}
use Rattle.esb_tree.specs.declared.expressions.Substitutions.{Substitutions}
use Rattle.esb_tree.specs.declared.functions.ConciseBody.{ConciseBody}
use Rattle.esb_tree.specs.declared.functions.Function.{Function}
use Rattle.esb_tree.specs.declared.functions.Method.{Method}
use Rattle.esb_tree.specs.declared.patterns.Bracketed.{Bracketed}
use Rattle.esb_tree.specs.declared.patterns.Element.{Element, out-Element}
use Rattle.esb_tree.specs.declared.patterns.Elements.{Elements, out-Elements}
use Rattle.esb_tree.specs.declared.patterns.NextElement.{NextElement, out-NextElement}
use Rattle.esb_tree.specs.declared.patterns.PropertyName.{PropertyName}
use Rattle.esb_tree.specs.declared.statements.Block.{Block}
use Rattle.esb_tree.specs.declared.statements.CaseClause.{CaseClause}
use Rattle.esb_tree.specs.declared.statements.Declaration.{Declaration}
use Rattle.esb_tree.specs.declared.statements.Else.{Else}
use Rattle.esb_tree.specs.declared.statements.ElseIf.{ElseIf}
use Rattle.esb_tree.specs.declared.statements.Finalizer.{Finalizer}
use Rattle.esb_tree.specs.declared.statements.ForStart.{ForStart}
use Rattle.esb_tree.specs.declared.statements.Handler.{Handler}
use Rattle.esb_tree.specs.declared.statements.IfClause.{IfClause}
use Rattle.esb_tree.specs.declared.statements.MaybeExpression.{MaybeExpression}
use Rattle.esb_tree.specs.declared.statements.Statement.{Statement, out-Statement}

abbrev pub last_of : List Bool → Bool
last_of [] = false
last_of (b ∷ []) = b
last_of (b ∷ bs) = last_of bs

-- ---- the end of an expression

-- the end of an arrow function's body
abbrev pub body_edge : ConciseBody-F (Unit {0}) (Unit {0}) Bool (Unit {0}) Bool (Unit {0}) (Unit {0}) (Unit {0}) (Unit {0}) (Unit {0}) (Unit {0}) (Unit {0}) (Unit {0}) (Unit {0}) (Unit {0}) Bool (Unit {0}) (Unit {0}) (Unit {0}) (Unit {0}) (Unit {0}) (Unit {0}) (Unit {0}) (Unit {0}) (Unit {0}) (Unit {0}) (Unit {0}) → Bool
body_edge (ConciseBody-F.ConciseValue x) = x
body_edge (ConciseBody-F.ConciseBlock block) = true

abbrev pub operand_edge : Operand-F (Unit {0}) (Unit {0}) Bool (Unit {0}) Bool (Unit {0}) (Unit {0}) (Unit {0}) (Unit {0}) (Unit {0}) (Unit {0}) (Unit {0}) (Unit {0}) (Unit {0}) (Unit {0}) Bool (Unit {0}) (Unit {0}) (Unit {0}) (Unit {0}) (Unit {0}) (Unit {0}) (Unit {0}) (Unit {0}) (Unit {0}) (Unit {0}) (Unit {0}) → Bool
operand_edge o = o.value

abbrev pub arrow_edge : Expression-F (Unit {0}) (Unit {0}) Bool (Unit {0}) Bool (Unit {0}) (Unit {0}) (Unit {0}) (Unit {0}) (Unit {0}) (Unit {0}) (Unit {0}) (Unit {0}) (Unit {0}) (Unit {0}) Bool (Unit {0}) (Unit {0}) (Unit {0}) (Unit {0}) (Unit {0}) (Unit {0}) (Unit {0}) (Unit {0}) (Unit {0}) (Unit {0}) (Unit {0}) → Bool
arrow_edge (Expression-F.Yield word) = true
arrow_edge (Expression-F.YieldValue word x) = x
arrow_edge (Expression-F.YieldEach word star x) = x
arrow_edge (Expression-F.Arrow parameters arrow body) = body
arrow_edge (Expression-F.AsyncArrow word name arrow body) = body
arrow_edge (Expression-F.Assignment target operator x) = x
arrow_edge (Expression-F.Conditional test question x colon other) = other
arrow_edge (Expression-F.Binary first rest) = last_of rest
arrow_edge _ = false

-- Whether an expression ends with the block of an arrow function, or with a `yield` that has no operand.
unfoldable pub ends_assignment : Expression → Bool
ends_assignment = fold-Expression (Unit {0}) (Unit {0}) Bool (Unit {0}) Bool (Unit {0}) (Unit {0}) (Unit {0}) (Unit {0}) (Unit {0}) (Unit {0}) (Unit {0}) (Unit {0}) (Unit {0}) (Unit {0}) Bool (Unit {0}) (Unit {0}) (Unit {0}) (Unit {0}) (Unit {0}) (Unit {0}) (Unit {0}) (Unit {0}) (Unit {0}) (Unit {0}) (Unit {0}) (λ _. tt) (λ _. tt) arrow_edge (λ _. tt) body_edge (λ _. tt) (λ _. tt) (λ _. tt) (λ _. tt) (λ _. tt) (λ _. tt) (λ _. tt) (λ _. tt) (λ _. tt) (λ _. tt) operand_edge (λ _. tt) (λ _. tt) (λ _. tt) (λ _. tt) (λ _. tt) (λ _. tt) (λ _. tt) (λ _. tt) (λ _. tt) (λ _. tt) (λ _. tt)

unfoldable pub body_ends_assignment : ConciseBody → Bool
body_ends_assignment = fold-ConciseBody (Unit {0}) (Unit {0}) Bool (Unit {0}) Bool (Unit {0}) (Unit {0}) (Unit {0}) (Unit {0}) (Unit {0}) (Unit {0}) (Unit {0}) (Unit {0}) (Unit {0}) (Unit {0}) Bool (Unit {0}) (Unit {0}) (Unit {0}) (Unit {0}) (Unit {0}) (Unit {0}) (Unit {0}) (Unit {0}) (Unit {0}) (Unit {0}) (Unit {0}) (λ _. tt) (λ _. tt) arrow_edge (λ _. tt) body_edge (λ _. tt) (λ _. tt) (λ _. tt) (λ _. tt) (λ _. tt) (λ _. tt) (λ _. tt) (λ _. tt) (λ _. tt) (λ _. tt) operand_edge (λ _. tt) (λ _. tt) (λ _. tt) (λ _. tt) (λ _. tt) (λ _. tt) (λ _. tt) (λ _. tt) (λ _. tt) (λ _. tt) (λ _. tt)

unfoldable pub operand_ends_assignment : Operand → Bool
operand_ends_assignment = fold-Operand (Unit {0}) (Unit {0}) Bool (Unit {0}) Bool (Unit {0}) (Unit {0}) (Unit {0}) (Unit {0}) (Unit {0}) (Unit {0}) (Unit {0}) (Unit {0}) (Unit {0}) (Unit {0}) Bool (Unit {0}) (Unit {0}) (Unit {0}) (Unit {0}) (Unit {0}) (Unit {0}) (Unit {0}) (Unit {0}) (Unit {0}) (Unit {0}) (Unit {0}) (λ _. tt) (λ _. tt) arrow_edge (λ _. tt) body_edge (λ _. tt) (λ _. tt) (λ _. tt) (λ _. tt) (λ _. tt) (λ _. tt) (λ _. tt) (λ _. tt) (λ _. tt) (λ _. tt) operand_edge (λ _. tt) (λ _. tt) (λ _. tt) (λ _. tt) (λ _. tt) (λ _. tt) (λ _. tt) (λ _. tt) (λ _. tt) (λ _. tt) (λ _. tt)

-- ---- the end of a statement

abbrev pub else_edge : Else-F (Unit {0}) (Unit {0}) (Unit {0}) (Unit {0}) (Unit {0}) (Unit {0}) (Unit {0}) (Unit {0}) Bool (Unit {0}) (Unit {0}) (Unit {0}) (Unit {0}) Bool (Unit {0}) (Unit {0}) (Unit {0}) (Unit {0}) (Unit {0}) (Unit {0}) (Unit {0}) (Unit {0}) (Unit {0}) (Unit {0}) (Unit {0}) (Unit {0}) (Unit {0}) → Bool
else_edge (Else-F.NoElse) = true
else_edge (Else-F.Otherwise word body) = body

abbrev pub if_edge : Statement-F (Unit {0}) (Unit {0}) (Unit {0}) (Unit {0}) (Unit {0}) (Unit {0}) (Unit {0}) (Unit {0}) Bool (Unit {0}) (Unit {0}) (Unit {0}) (Unit {0}) Bool (Unit {0}) (Unit {0}) (Unit {0}) (Unit {0}) (Unit {0}) (Unit {0}) (Unit {0}) (Unit {0}) (Unit {0}) (Unit {0}) (Unit {0}) (Unit {0}) (Unit {0}) → Bool
if_edge (Statement-F.If clause rest last) = last
if_edge (Statement-F.While word begin x ending body) = body
if_edge (Statement-F.For word begin start first test second step ending body) = body
if_edge (Statement-F.ForEach word await_word begin start middle x ending body) = body
if_edge (Statement-F.Labelled label colon body) = body
if_edge _ = false

-- Whether an `else` behind a statement is that of an `if` in it (13.6).
unfoldable pub takes_else : Statement → Bool
takes_else = fold-Statement (Unit {0}) (Unit {0}) (Unit {0}) (Unit {0}) (Unit {0}) (Unit {0}) (Unit {0}) (Unit {0}) Bool (Unit {0}) (Unit {0}) (Unit {0}) (Unit {0}) Bool (Unit {0}) (Unit {0}) (Unit {0}) (Unit {0}) (Unit {0}) (Unit {0}) (Unit {0}) (Unit {0}) (Unit {0}) (Unit {0}) (Unit {0}) (Unit {0}) (Unit {0}) (λ _. tt) (λ _. tt) (λ _. tt) (λ _. tt) (λ _. tt) (λ _. tt) (λ _. tt) (λ _. tt) else_edge (λ _. tt) (λ _. tt) (λ _. tt) (λ _. tt) if_edge (λ _. tt) (λ _. tt) (λ _. tt) (λ _. tt) (λ _. tt) (λ _. tt) (λ _. tt) (λ _. tt) (λ _. tt) (λ _. tt) (λ _. tt) (λ _. tt) (λ _. tt)

unfoldable pub else_takes_else : Else → Bool
else_takes_else = fold-Else (Unit {0}) (Unit {0}) (Unit {0}) (Unit {0}) (Unit {0}) (Unit {0}) (Unit {0}) (Unit {0}) Bool (Unit {0}) (Unit {0}) (Unit {0}) (Unit {0}) Bool (Unit {0}) (Unit {0}) (Unit {0}) (Unit {0}) (Unit {0}) (Unit {0}) (Unit {0}) (Unit {0}) (Unit {0}) (Unit {0}) (Unit {0}) (Unit {0}) (Unit {0}) (λ _. tt) (λ _. tt) (λ _. tt) (λ _. tt) (λ _. tt) (λ _. tt) (λ _. tt) (λ _. tt) else_edge (λ _. tt) (λ _. tt) (λ _. tt) (λ _. tt) if_edge (λ _. tt) (λ _. tt) (λ _. tt) (λ _. tt) (λ _. tt) (λ _. tt) (λ _. tt) (λ _. tt) (λ _. tt) (λ _. tt) (λ _. tt) (λ _. tt) (λ _. tt)

-- ---- what a node is on the outside

abbrev pub if_layer : Statement-F ClassElement Heritage Expression Link ConciseBody Element PropertyName CaseClause Else Finalizer ForStart Handler MaybeExpression Statement Class Operand Substitution Substitutions Function Method Bracketed Elements NextElement Block Declaration ElseIf IfClause → Bool
if_layer (Statement-F.If clause rest last) = true
if_layer _ = false

-- IfStatement
unfoldable pub is_if : Statement → Bool
is_if x = if_layer (out-Statement x)

abbrev pub declaration_layer : Statement-F ClassElement Heritage Expression Link ConciseBody Element PropertyName CaseClause Else Finalizer ForStart Handler MaybeExpression Statement Class Operand Substitution Substitutions Function Method Bracketed Elements NextElement Block Declaration ElseIf IfClause → Bool
declaration_layer (Statement-F.Variables declaration end) = true
declaration_layer (Statement-F.FunctionDeclaration function) = true
declaration_layer (Statement-F.ClassDeclaration class) = true
declaration_layer _ = false

-- VariableStatement or Declaration (15.2.3)
unfoldable pub is_declaration : Statement → Bool
is_declaration x = declaration_layer (out-Statement x)

abbrev pub optional_layer : Link-F ClassElement Heritage Expression Link ConciseBody Element PropertyName CaseClause Else Finalizer ForStart Handler MaybeExpression Statement Class Operand Substitution Substitutions Function Method Bracketed Elements NextElement Block Declaration ElseIf IfClause → Bool
optional_layer (Link-F.OptionalDot dot name) = true
optional_layer (Link-F.OptionalIndex dot begin x ending) = true
optional_layer (Link-F.OptionalCall dot arguments) = true
optional_layer _ = false

-- what an OptionalChain begins with (12.3.9)
unfoldable pub is_optional : Link → Bool
is_optional x = optional_layer (out-Link x)

abbrev pub super_layer : Link-F ClassElement Heritage Expression Link ConciseBody Element PropertyName CaseClause Else Finalizer ForStart Handler MaybeExpression Statement Class Operand Substitution Substitutions Function Method Bracketed Elements NextElement Block Declaration ElseIf IfClause → Bool
super_layer (Link-F.Dot dot name) = true
super_layer (Link-F.Index begin x ending) = true
super_layer (Link-F.Call arguments) = true
super_layer _ = false

-- what may stand behind `super` (12.3.7)
unfoldable pub follows_super : Link → Bool
follows_super x = super_layer (out-Link x)

abbrev pub plain_layer : Expression-F ClassElement Heritage Expression Link ConciseBody Element PropertyName CaseClause Else Finalizer ForStart Handler MaybeExpression Statement Class Operand Substitution Substitutions Function Method Bracketed Elements NextElement Block Declaration ElseIf IfClause → Bool
plain_layer (Expression-F.Primary t) = true
plain_layer _ = false

-- one token
unfoldable pub is_token : Expression → Bool
is_token x = plain_layer (out-Expression x)

abbrev pub last_element : Element → List NextElement → Element
last_element first [] = first
last_element first (next ∷ rest) = last_element (out-NextElement next).element rest

abbrev pub value_layer : Element-F ClassElement Heritage Expression Link ConciseBody Element PropertyName CaseClause Else Finalizer ForStart Handler MaybeExpression Statement Class Operand Substitution Substitutions Function Method Bracketed Elements NextElement Block Declaration ElseIf IfClause → Option Expression
value_layer (Element-F.Value x) = Some x
value_layer _ = None

-- the last binding of a declaration
unfoldable pub last_binding : Elements → Option Expression
last_binding list = value_layer (out-Element (last_element (out-Elements list).first (out-Elements list).rest))
