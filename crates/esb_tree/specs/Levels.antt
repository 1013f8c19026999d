-- How many nodes stand in one another: one line for each kind of node.
use Rattle.std.specs.Prelude.{ℕ, ◌+◌, max, List, [], ◌∷◌}
use Rattle.esb_tree.specs.declared.classes.ClassElement.TheOpen.{ClassElement-F, Heritage-F, Expression-F, Link-F, ConciseBody-F, Element-F, PropertyName-F, CaseClause-F, Else-F, Finalizer-F, ForStart-F, Handler-F, MaybeExpression-F, Statement-F, Class-F, Operand-F, Substitution-F, Substitutions-F, Function-F, Method-F, Bracketed-F, Elements-F, NextElement-F, Block-F, Declaration-F, ElseIf-F, IfClause-F}
use Rattle.esb_tree.specs.declared.classes.ClassElement.TheFolds.{fold-ClassElement, fold-Heritage, fold-Expression, fold-Link, fold-ConciseBody, fold-Element, fold-PropertyName, fold-CaseClause, fold-Else, fold-Finalizer, fold-ForStart, fold-Handler, fold-MaybeExpression, fold-Statement, fold-Class, fold-Operand, fold-Substitution, fold-Substitutions, fold-Function, fold-Method, fold-Bracketed, fold-Elements, fold-NextElement, fold-Block, fold-Declaration, fold-ElseIf, fold-IfClause}
use Rattle.esb_tree.specs.declared.classes.ClassElement.{ClassElement}
use Rattle.esb_tree.specs.declared.classes.Heritage.{Heritage}
use Rattle.esb_tree.specs.declared.expressions.Expression.{Expression}
use Rattle.esb_tree.specs.declared.expressions.Link.{Link}
use Rattle.esb_tree.specs.declared.functions.ConciseBody.{ConciseBody}
use Rattle.esb_tree.specs.declared.patterns.Element.{Element}
use Rattle.esb_tree.specs.declared.patterns.PropertyName.{PropertyName}
use Rattle.esb_tree.specs.declared.statements.CaseClause.{CaseClause}
use Rattle.esb_tree.specs.declared.statements.Else.{Else}
use Rattle.esb_tree.specs.declared.statements.Finalizer.{Finalizer}
use Rattle.esb_tree.specs.declared.statements.ForStart.{ForStart}
use Rattle.esb_tree.specs.declared.statements.Handler.{Handler}
use Rattle.esb_tree.specs.declared.statements.MaybeExpression.{MaybeExpression}
use Rattle.esb_tree.specs.declared.statements.Statement.{Statement}
use Rattle.esb_tree.specs.declared.classes.Class.{Class}
use Rattle.esb_tree.specs.declared.expressions.Operand.{Operand}
use Rattle.esb_tree.specs.declared.expressions.Substitution.{Substitution}
use Rattle.esb_tree.specs.declared.expressions.Substitutions.{Substitutions}
use Rattle.esb_tree.specs.declared.functions.Function.{Function}
use Rattle.esb_tree.specs.declared.functions.Method.{Method}
use Rattle.esb_tree.specs.declared.patterns.Bracketed.{Bracketed}
use Rattle.esb_tree.specs.declared.patterns.Elements.{Elements}
use Rattle.esb_tree.specs.declared.patterns.NextElement.{NextElement}
use Rattle.esb_tree.specs.declared.statements.Block.{Block}
use Rattle.esb_tree.specs.declared.statements.Declaration.{Declaration}
use Rattle.esb_tree.specs.declared.statements.ElseIf.{ElseIf}
use Rattle.esb_tree.specs.declared.statements.IfClause.{IfClause}

abbrev pub most : List ℕ → ℕ
most [] = 0
most (n ∷ ns) = max n (most ns)

-- ---- how many nodes stand in one another at the deepest place, where the children have given theirs

abbrev pub class_element_depth : ClassElement-F ℕ ℕ ℕ ℕ ℕ ℕ ℕ ℕ ℕ ℕ ℕ ℕ ℕ ℕ ℕ ℕ ℕ ℕ ℕ ℕ ℕ ℕ ℕ ℕ ℕ ℕ ℕ → ℕ
class_element_depth (ClassElement-F.ClassMethod word method) = method
class_element_depth (ClassElement-F.EmptyElement semicolon) = 0

abbrev pub heritage_depth : Heritage-F ℕ ℕ ℕ ℕ ℕ ℕ ℕ ℕ ℕ ℕ ℕ ℕ ℕ ℕ ℕ ℕ ℕ ℕ ℕ ℕ ℕ ℕ ℕ ℕ ℕ ℕ ℕ → ℕ
heritage_depth (Heritage-F.NoHeritage) = 0
heritage_depth (Heritage-F.Extends word x) = x

abbrev pub expression_depth : Expression-F ℕ ℕ ℕ ℕ ℕ ℕ ℕ ℕ ℕ ℕ ℕ ℕ ℕ ℕ ℕ ℕ ℕ ℕ ℕ ℕ ℕ ℕ ℕ ℕ ℕ ℕ ℕ → ℕ
expression_depth (Expression-F.Primary t) = 0
expression_depth (Expression-F.MetaProperty word dot name) = 1
expression_depth (Expression-F.ArrayLiteral list) = list + 1
expression_depth (Expression-F.ObjectLiteral list) = list + 1
expression_depth (Expression-F.Parenthesized list) = list + 1
expression_depth (Expression-F.TemplateLiteral template) = template + 1
expression_depth (Expression-F.FunctionExpression function) = function + 1
expression_depth (Expression-F.ClassExpression class) = class + 1
expression_depth (Expression-F.Member object links) = max object (most links) + 1
expression_depth (Expression-F.New word callee arguments) = max callee arguments + 1
expression_depth (Expression-F.NewPlain word callee) = callee + 1
expression_depth (Expression-F.ImportCall word begin x ending) = x + 1
expression_depth (Expression-F.PrefixUpdate operator x) = x + 1
expression_depth (Expression-F.PostfixUpdate x operator) = x + 1
expression_depth (Expression-F.Unary operator x) = x + 1
expression_depth (Expression-F.Await word x) = x + 1
expression_depth (Expression-F.Binary first rest) = max first (most rest) + 1
expression_depth (Expression-F.Conditional test question x colon other) = max test (max x other) + 1
expression_depth (Expression-F.Assignment target operator x) = max target x + 1
expression_depth (Expression-F.Arrow head arrow body) = max head body + 1
expression_depth (Expression-F.AsyncArrow word name arrow body) = body + 1
expression_depth (Expression-F.Yield word) = 1
expression_depth (Expression-F.YieldValue word x) = x + 1
expression_depth (Expression-F.YieldEach word star x) = x + 1

abbrev pub link_depth : Link-F ℕ ℕ ℕ ℕ ℕ ℕ ℕ ℕ ℕ ℕ ℕ ℕ ℕ ℕ ℕ ℕ ℕ ℕ ℕ ℕ ℕ ℕ ℕ ℕ ℕ ℕ ℕ → ℕ
link_depth (Link-F.Dot dot name) = 0
link_depth (Link-F.Index begin x ending) = x
link_depth (Link-F.Call arguments) = arguments
link_depth (Link-F.Tagged template) = 0
link_depth (Link-F.TaggedTemplate template) = template
link_depth (Link-F.OptionalDot dot name) = 0
link_depth (Link-F.OptionalIndex dot begin x ending) = x
link_depth (Link-F.OptionalCall dot arguments) = arguments

abbrev pub concise_body_depth : ConciseBody-F ℕ ℕ ℕ ℕ ℕ ℕ ℕ ℕ ℕ ℕ ℕ ℕ ℕ ℕ ℕ ℕ ℕ ℕ ℕ ℕ ℕ ℕ ℕ ℕ ℕ ℕ ℕ → ℕ
concise_body_depth (ConciseBody-F.ConciseValue x) = x
concise_body_depth (ConciseBody-F.ConciseBlock block) = block

abbrev pub element_depth : Element-F ℕ ℕ ℕ ℕ ℕ ℕ ℕ ℕ ℕ ℕ ℕ ℕ ℕ ℕ ℕ ℕ ℕ ℕ ℕ ℕ ℕ ℕ ℕ ℕ ℕ ℕ ℕ → ℕ
element_depth (Element-F.Hole) = 0
element_depth (Element-F.Value x) = x
element_depth (Element-F.Spread dots x) = x
element_depth (Element-F.Shorthand name) = 0
element_depth (Element-F.Initialized name sign x) = x
element_depth (Element-F.Property name colon x) = max name x
element_depth (Element-F.MethodProperty method) = method

abbrev pub property_name_depth : PropertyName-F ℕ ℕ ℕ ℕ ℕ ℕ ℕ ℕ ℕ ℕ ℕ ℕ ℕ ℕ ℕ ℕ ℕ ℕ ℕ ℕ ℕ ℕ ℕ ℕ ℕ ℕ ℕ → ℕ
property_name_depth (PropertyName-F.Named name) = 0
property_name_depth (PropertyName-F.Computed begin x ending) = x

abbrev pub case_clause_depth : CaseClause-F ℕ ℕ ℕ ℕ ℕ ℕ ℕ ℕ ℕ ℕ ℕ ℕ ℕ ℕ ℕ ℕ ℕ ℕ ℕ ℕ ℕ ℕ ℕ ℕ ℕ ℕ ℕ → ℕ
case_clause_depth (CaseClause-F.Case word x colon body) = max x (most body) + 1
case_clause_depth (CaseClause-F.Default word colon body) = most body + 1

abbrev pub else_depth : Else-F ℕ ℕ ℕ ℕ ℕ ℕ ℕ ℕ ℕ ℕ ℕ ℕ ℕ ℕ ℕ ℕ ℕ ℕ ℕ ℕ ℕ ℕ ℕ ℕ ℕ ℕ ℕ → ℕ
else_depth (Else-F.NoElse) = 0
else_depth (Else-F.Otherwise word body) = body

abbrev pub finalizer_depth : Finalizer-F ℕ ℕ ℕ ℕ ℕ ℕ ℕ ℕ ℕ ℕ ℕ ℕ ℕ ℕ ℕ ℕ ℕ ℕ ℕ ℕ ℕ ℕ ℕ ℕ ℕ ℕ ℕ → ℕ
finalizer_depth (Finalizer-F.NoFinalizer) = 0
finalizer_depth (Finalizer-F.Finally word block) = block + 1

abbrev pub for_start_depth : ForStart-F ℕ ℕ ℕ ℕ ℕ ℕ ℕ ℕ ℕ ℕ ℕ ℕ ℕ ℕ ℕ ℕ ℕ ℕ ℕ ℕ ℕ ℕ ℕ ℕ ℕ ℕ ℕ → ℕ
for_start_depth (ForStart-F.NoStart) = 0
for_start_depth (ForStart-F.StartExpression x) = x
for_start_depth (ForStart-F.StartDeclaration declaration) = declaration

abbrev pub handler_depth : Handler-F ℕ ℕ ℕ ℕ ℕ ℕ ℕ ℕ ℕ ℕ ℕ ℕ ℕ ℕ ℕ ℕ ℕ ℕ ℕ ℕ ℕ ℕ ℕ ℕ ℕ ℕ ℕ → ℕ
handler_depth (Handler-F.NoHandler) = 0
handler_depth (Handler-F.Catch word block) = block + 1
handler_depth (Handler-F.CatchParameter word begin x ending block) = max x block + 1

abbrev pub maybe_expression_depth : MaybeExpression-F ℕ ℕ ℕ ℕ ℕ ℕ ℕ ℕ ℕ ℕ ℕ ℕ ℕ ℕ ℕ ℕ ℕ ℕ ℕ ℕ ℕ ℕ ℕ ℕ ℕ ℕ ℕ → ℕ
maybe_expression_depth (MaybeExpression-F.Absent) = 0
maybe_expression_depth (MaybeExpression-F.Present x) = x

abbrev pub statement_depth : Statement-F ℕ ℕ ℕ ℕ ℕ ℕ ℕ ℕ ℕ ℕ ℕ ℕ ℕ ℕ ℕ ℕ ℕ ℕ ℕ ℕ ℕ ℕ ℕ ℕ ℕ ℕ ℕ → ℕ
statement_depth (Statement-F.BlockStatement block) = block + 1
statement_depth (Statement-F.Variables declaration end) = declaration + 1
statement_depth (Statement-F.Empty semicolon) = 1
statement_depth (Statement-F.ExpressionStatement x end) = x + 1
statement_depth (Statement-F.If clause rest last) = max clause (max (most rest) last) + 1
statement_depth (Statement-F.DoWhile word body while_word begin x ending end) = max body x + 1
statement_depth (Statement-F.While word begin x ending body) = max x body + 1
statement_depth (Statement-F.For word begin start first test second step ending body) = max start (max test (max step body)) + 1
statement_depth (Statement-F.ForEach word await_word begin start middle x ending body) = max start (max x body) + 1
statement_depth (Statement-F.Continue word label end) = 1
statement_depth (Statement-F.Break word label end) = 1
statement_depth (Statement-F.Return word x end) = x + 1
statement_depth (Statement-F.Switch word begin x ending left clauses right) = max x (most clauses) + 1
statement_depth (Statement-F.Labelled label colon body) = body + 1
statement_depth (Statement-F.Throw word x end) = x + 1
statement_depth (Statement-F.Try word block handler finalizer) = max block (max handler finalizer) + 1
statement_depth (Statement-F.Debugger word end) = 1
statement_depth (Statement-F.FunctionDeclaration function) = function + 1
statement_depth (Statement-F.ClassDeclaration class) = class + 1

abbrev pub class_depth : Class-F ℕ ℕ ℕ ℕ ℕ ℕ ℕ ℕ ℕ ℕ ℕ ℕ ℕ ℕ ℕ ℕ ℕ ℕ ℕ ℕ ℕ ℕ ℕ ℕ ℕ ℕ ℕ → ℕ
class_depth o = max o.heritage (most o.elements)

abbrev pub operand_depth : Operand-F ℕ ℕ ℕ ℕ ℕ ℕ ℕ ℕ ℕ ℕ ℕ ℕ ℕ ℕ ℕ ℕ ℕ ℕ ℕ ℕ ℕ ℕ ℕ ℕ ℕ ℕ ℕ → ℕ
operand_depth o = o.value

abbrev pub substitution_depth : Substitution-F ℕ ℕ ℕ ℕ ℕ ℕ ℕ ℕ ℕ ℕ ℕ ℕ ℕ ℕ ℕ ℕ ℕ ℕ ℕ ℕ ℕ ℕ ℕ ℕ ℕ ℕ ℕ → ℕ
substitution_depth o = o.value

abbrev pub substitutions_depth : Substitutions-F ℕ ℕ ℕ ℕ ℕ ℕ ℕ ℕ ℕ ℕ ℕ ℕ ℕ ℕ ℕ ℕ ℕ ℕ ℕ ℕ ℕ ℕ ℕ ℕ ℕ ℕ ℕ → ℕ
substitutions_depth o = max o.first (most o.rest)

abbrev pub function_depth : Function-F ℕ ℕ ℕ ℕ ℕ ℕ ℕ ℕ ℕ ℕ ℕ ℕ ℕ ℕ ℕ ℕ ℕ ℕ ℕ ℕ ℕ ℕ ℕ ℕ ℕ ℕ ℕ → ℕ
function_depth o = max o.parameters o.body

abbrev pub method_depth : Method-F ℕ ℕ ℕ ℕ ℕ ℕ ℕ ℕ ℕ ℕ ℕ ℕ ℕ ℕ ℕ ℕ ℕ ℕ ℕ ℕ ℕ ℕ ℕ ℕ ℕ ℕ ℕ → ℕ
method_depth o = max o.name (max o.parameters o.body) + 1

abbrev pub bracketed_depth : Bracketed-F ℕ ℕ ℕ ℕ ℕ ℕ ℕ ℕ ℕ ℕ ℕ ℕ ℕ ℕ ℕ ℕ ℕ ℕ ℕ ℕ ℕ ℕ ℕ ℕ ℕ ℕ ℕ → ℕ
bracketed_depth o = o.list

abbrev pub elements_depth : Elements-F ℕ ℕ ℕ ℕ ℕ ℕ ℕ ℕ ℕ ℕ ℕ ℕ ℕ ℕ ℕ ℕ ℕ ℕ ℕ ℕ ℕ ℕ ℕ ℕ ℕ ℕ ℕ → ℕ
elements_depth o = max o.first (most o.rest)

abbrev pub next_element_depth : NextElement-F ℕ ℕ ℕ ℕ ℕ ℕ ℕ ℕ ℕ ℕ ℕ ℕ ℕ ℕ ℕ ℕ ℕ ℕ ℕ ℕ ℕ ℕ ℕ ℕ ℕ ℕ ℕ → ℕ
next_element_depth o = o.element

abbrev pub block_depth : Block-F ℕ ℕ ℕ ℕ ℕ ℕ ℕ ℕ ℕ ℕ ℕ ℕ ℕ ℕ ℕ ℕ ℕ ℕ ℕ ℕ ℕ ℕ ℕ ℕ ℕ ℕ ℕ → ℕ
block_depth o = most o.body

abbrev pub declaration_depth : Declaration-F ℕ ℕ ℕ ℕ ℕ ℕ ℕ ℕ ℕ ℕ ℕ ℕ ℕ ℕ ℕ ℕ ℕ ℕ ℕ ℕ ℕ ℕ ℕ ℕ ℕ ℕ ℕ → ℕ
declaration_depth o = o.bindings

abbrev pub else_if_depth : ElseIf-F ℕ ℕ ℕ ℕ ℕ ℕ ℕ ℕ ℕ ℕ ℕ ℕ ℕ ℕ ℕ ℕ ℕ ℕ ℕ ℕ ℕ ℕ ℕ ℕ ℕ ℕ ℕ → ℕ
else_if_depth o = o.clause

abbrev pub if_clause_depth : IfClause-F ℕ ℕ ℕ ℕ ℕ ℕ ℕ ℕ ℕ ℕ ℕ ℕ ℕ ℕ ℕ ℕ ℕ ℕ ℕ ℕ ℕ ℕ ℕ ℕ ℕ ℕ ℕ → ℕ
if_clause_depth o = max o.condition o.body

-- ---- a whole node

unfoldable pub depth_of_class_element : ClassElement → ℕ
depth_of_class_element = fold-ClassElement ℕ ℕ ℕ ℕ ℕ ℕ ℕ ℕ ℕ ℕ ℕ ℕ ℕ ℕ ℕ ℕ ℕ ℕ ℕ ℕ ℕ ℕ ℕ ℕ ℕ ℕ ℕ class_element_depth heritage_depth expression_depth link_depth concise_body_depth element_depth property_name_depth case_clause_depth else_depth finalizer_depth for_start_depth handler_depth maybe_expression_depth statement_depth class_depth operand_depth substitution_depth substitutions_depth function_depth method_depth bracketed_depth elements_depth next_element_depth block_depth declaration_depth else_if_depth if_clause_depth

unfoldable pub depth_of_heritage : Heritage → ℕ
depth_of_heritage = fold-Heritage ℕ ℕ ℕ ℕ ℕ ℕ ℕ ℕ ℕ ℕ ℕ ℕ ℕ ℕ ℕ ℕ ℕ ℕ ℕ ℕ ℕ ℕ ℕ ℕ ℕ ℕ ℕ class_element_depth heritage_depth expression_depth link_depth concise_body_depth element_depth property_name_depth case_clause_depth else_depth finalizer_depth for_start_depth handler_depth maybe_expression_depth statement_depth class_depth operand_depth substitution_depth substitutions_depth function_depth method_depth bracketed_depth elements_depth next_element_depth block_depth declaration_depth else_if_depth if_clause_depth

unfoldable pub depth_of_expression : Expression → ℕ
depth_of_expression = fold-Expression ℕ ℕ ℕ ℕ ℕ ℕ ℕ ℕ ℕ ℕ ℕ ℕ ℕ ℕ ℕ ℕ ℕ ℕ ℕ ℕ ℕ ℕ ℕ ℕ ℕ ℕ ℕ class_element_depth heritage_depth expression_depth link_depth concise_body_depth element_depth property_name_depth case_clause_depth else_depth finalizer_depth for_start_depth handler_depth maybe_expression_depth statement_depth class_depth operand_depth substitution_depth substitutions_depth function_depth method_depth bracketed_depth elements_depth next_element_depth block_depth declaration_depth else_if_depth if_clause_depth

unfoldable pub depth_of_link : Link → ℕ
depth_of_link = fold-Link ℕ ℕ ℕ ℕ ℕ ℕ ℕ ℕ ℕ ℕ ℕ ℕ ℕ ℕ ℕ ℕ ℕ ℕ ℕ ℕ ℕ ℕ ℕ ℕ ℕ ℕ ℕ class_element_depth heritage_depth expression_depth link_depth concise_body_depth element_depth property_name_depth case_clause_depth else_depth finalizer_depth for_start_depth handler_depth maybe_expression_depth statement_depth class_depth operand_depth substitution_depth substitutions_depth function_depth method_depth bracketed_depth elements_depth next_element_depth block_depth declaration_depth else_if_depth if_clause_depth

unfoldable pub depth_of_concise_body : ConciseBody → ℕ
depth_of_concise_body = fold-ConciseBody ℕ ℕ ℕ ℕ ℕ ℕ ℕ ℕ ℕ ℕ ℕ ℕ ℕ ℕ ℕ ℕ ℕ ℕ ℕ ℕ ℕ ℕ ℕ ℕ ℕ ℕ ℕ class_element_depth heritage_depth expression_depth link_depth concise_body_depth element_depth property_name_depth case_clause_depth else_depth finalizer_depth for_start_depth handler_depth maybe_expression_depth statement_depth class_depth operand_depth substitution_depth substitutions_depth function_depth method_depth bracketed_depth elements_depth next_element_depth block_depth declaration_depth else_if_depth if_clause_depth

unfoldable pub depth_of_element : Element → ℕ
depth_of_element = fold-Element ℕ ℕ ℕ ℕ ℕ ℕ ℕ ℕ ℕ ℕ ℕ ℕ ℕ ℕ ℕ ℕ ℕ ℕ ℕ ℕ ℕ ℕ ℕ ℕ ℕ ℕ ℕ class_element_depth heritage_depth expression_depth link_depth concise_body_depth element_depth property_name_depth case_clause_depth else_depth finalizer_depth for_start_depth handler_depth maybe_expression_depth statement_depth class_depth operand_depth substitution_depth substitutions_depth function_depth method_depth bracketed_depth elements_depth next_element_depth block_depth declaration_depth else_if_depth if_clause_depth

unfoldable pub depth_of_property_name : PropertyName → ℕ
depth_of_property_name = fold-PropertyName ℕ ℕ ℕ ℕ ℕ ℕ ℕ ℕ ℕ ℕ ℕ ℕ ℕ ℕ ℕ ℕ ℕ ℕ ℕ ℕ ℕ ℕ ℕ ℕ ℕ ℕ ℕ class_element_depth heritage_depth expression_depth link_depth concise_body_depth element_depth property_name_depth case_clause_depth else_depth finalizer_depth for_start_depth handler_depth maybe_expression_depth statement_depth class_depth operand_depth substitution_depth substitutions_depth function_depth method_depth bracketed_depth elements_depth next_element_depth block_depth declaration_depth else_if_depth if_clause_depth

unfoldable pub depth_of_case_clause : CaseClause → ℕ
depth_of_case_clause = fold-CaseClause ℕ ℕ ℕ ℕ ℕ ℕ ℕ ℕ ℕ ℕ ℕ ℕ ℕ ℕ ℕ ℕ ℕ ℕ ℕ ℕ ℕ ℕ ℕ ℕ ℕ ℕ ℕ class_element_depth heritage_depth expression_depth link_depth concise_body_depth element_depth property_name_depth case_clause_depth else_depth finalizer_depth for_start_depth handler_depth maybe_expression_depth statement_depth class_depth operand_depth substitution_depth substitutions_depth function_depth method_depth bracketed_depth elements_depth next_element_depth block_depth declaration_depth else_if_depth if_clause_depth

unfoldable pub depth_of_else : Else → ℕ
depth_of_else = fold-Else ℕ ℕ ℕ ℕ ℕ ℕ ℕ ℕ ℕ ℕ ℕ ℕ ℕ ℕ ℕ ℕ ℕ ℕ ℕ ℕ ℕ ℕ ℕ ℕ ℕ ℕ ℕ class_element_depth heritage_depth expression_depth link_depth concise_body_depth element_depth property_name_depth case_clause_depth else_depth finalizer_depth for_start_depth handler_depth maybe_expression_depth statement_depth class_depth operand_depth substitution_depth substitutions_depth function_depth method_depth bracketed_depth elements_depth next_element_depth block_depth declaration_depth else_if_depth if_clause_depth

unfoldable pub depth_of_finalizer : Finalizer → ℕ
depth_of_finalizer = fold-Finalizer ℕ ℕ ℕ ℕ ℕ ℕ ℕ ℕ ℕ ℕ ℕ ℕ ℕ ℕ ℕ ℕ ℕ ℕ ℕ ℕ ℕ ℕ ℕ ℕ ℕ ℕ ℕ class_element_depth heritage_depth expression_depth link_depth concise_body_depth element_depth property_name_depth case_clause_depth else_depth finalizer_depth for_start_depth handler_depth maybe_expression_depth statement_depth class_depth operand_depth substitution_depth substitutions_depth function_depth method_depth bracketed_depth elements_depth next_element_depth block_depth declaration_depth else_if_depth if_clause_depth

unfoldable pub depth_of_for_start : ForStart → ℕ
depth_of_for_start = fold-ForStart ℕ ℕ ℕ ℕ ℕ ℕ ℕ ℕ ℕ ℕ ℕ ℕ ℕ ℕ ℕ ℕ ℕ ℕ ℕ ℕ ℕ ℕ ℕ ℕ ℕ ℕ ℕ class_element_depth heritage_depth expression_depth link_depth concise_body_depth element_depth property_name_depth case_clause_depth else_depth finalizer_depth for_start_depth handler_depth maybe_expression_depth statement_depth class_depth operand_depth substitution_depth substitutions_depth function_depth method_depth bracketed_depth elements_depth next_element_depth block_depth declaration_depth else_if_depth if_clause_depth

unfoldable pub depth_of_handler : Handler → ℕ
depth_of_handler = fold-Handler ℕ ℕ ℕ ℕ ℕ ℕ ℕ ℕ ℕ ℕ ℕ ℕ ℕ ℕ ℕ ℕ ℕ ℕ ℕ ℕ ℕ ℕ ℕ ℕ ℕ ℕ ℕ class_element_depth heritage_depth expression_depth link_depth concise_body_depth element_depth property_name_depth case_clause_depth else_depth finalizer_depth for_start_depth handler_depth maybe_expression_depth statement_depth class_depth operand_depth substitution_depth substitutions_depth function_depth method_depth bracketed_depth elements_depth next_element_depth block_depth declaration_depth else_if_depth if_clause_depth

unfoldable pub depth_of_maybe_expression : MaybeExpression → ℕ
depth_of_maybe_expression = fold-MaybeExpression ℕ ℕ ℕ ℕ ℕ ℕ ℕ ℕ ℕ ℕ ℕ ℕ ℕ ℕ ℕ ℕ ℕ ℕ ℕ ℕ ℕ ℕ ℕ ℕ ℕ ℕ ℕ class_element_depth heritage_depth expression_depth link_depth concise_body_depth element_depth property_name_depth case_clause_depth else_depth finalizer_depth for_start_depth handler_depth maybe_expression_depth statement_depth class_depth operand_depth substitution_depth substitutions_depth function_depth method_depth bracketed_depth elements_depth next_element_depth block_depth declaration_depth else_if_depth if_clause_depth

unfoldable pub depth_of_statement : Statement → ℕ
depth_of_statement = fold-Statement ℕ ℕ ℕ ℕ ℕ ℕ ℕ ℕ ℕ ℕ ℕ ℕ ℕ ℕ ℕ ℕ ℕ ℕ ℕ ℕ ℕ ℕ ℕ ℕ ℕ ℕ ℕ class_element_depth heritage_depth expression_depth link_depth concise_body_depth element_depth property_name_depth case_clause_depth else_depth finalizer_depth for_start_depth handler_depth maybe_expression_depth statement_depth class_depth operand_depth substitution_depth substitutions_depth function_depth method_depth bracketed_depth elements_depth next_element_depth block_depth declaration_depth else_if_depth if_clause_depth

unfoldable pub depth_of_class : Class → ℕ
depth_of_class = fold-Class ℕ ℕ ℕ ℕ ℕ ℕ ℕ ℕ ℕ ℕ ℕ ℕ ℕ ℕ ℕ ℕ ℕ ℕ ℕ ℕ ℕ ℕ ℕ ℕ ℕ ℕ ℕ class_element_depth heritage_depth expression_depth link_depth concise_body_depth element_depth property_name_depth case_clause_depth else_depth finalizer_depth for_start_depth handler_depth maybe_expression_depth statement_depth class_depth operand_depth substitution_depth substitutions_depth function_depth method_depth bracketed_depth elements_depth next_element_depth block_depth declaration_depth else_if_depth if_clause_depth

unfoldable pub depth_of_operand : Operand → ℕ
depth_of_operand = fold-Operand ℕ ℕ ℕ ℕ ℕ ℕ ℕ ℕ ℕ ℕ ℕ ℕ ℕ ℕ ℕ ℕ ℕ ℕ ℕ ℕ ℕ ℕ ℕ ℕ ℕ ℕ ℕ class_element_depth heritage_depth expression_depth link_depth concise_body_depth element_depth property_name_depth case_clause_depth else_depth finalizer_depth for_start_depth handler_depth maybe_expression_depth statement_depth class_depth operand_depth substitution_depth substitutions_depth function_depth method_depth bracketed_depth elements_depth next_element_depth block_depth declaration_depth else_if_depth if_clause_depth

unfoldable pub depth_of_substitution : Substitution → ℕ
depth_of_substitution = fold-Substitution ℕ ℕ ℕ ℕ ℕ ℕ ℕ ℕ ℕ ℕ ℕ ℕ ℕ ℕ ℕ ℕ ℕ ℕ ℕ ℕ ℕ ℕ ℕ ℕ ℕ ℕ ℕ class_element_depth heritage_depth expression_depth link_depth concise_body_depth element_depth property_name_depth case_clause_depth else_depth finalizer_depth for_start_depth handler_depth maybe_expression_depth statement_depth class_depth operand_depth substitution_depth substitutions_depth function_depth method_depth bracketed_depth elements_depth next_element_depth block_depth declaration_depth else_if_depth if_clause_depth

unfoldable pub depth_of_substitutions : Substitutions → ℕ
depth_of_substitutions = fold-Substitutions ℕ ℕ ℕ ℕ ℕ ℕ ℕ ℕ ℕ ℕ ℕ ℕ ℕ ℕ ℕ ℕ ℕ ℕ ℕ ℕ ℕ ℕ ℕ ℕ ℕ ℕ ℕ class_element_depth heritage_depth expression_depth link_depth concise_body_depth element_depth property_name_depth case_clause_depth else_depth finalizer_depth for_start_depth handler_depth maybe_expression_depth statement_depth class_depth operand_depth substitution_depth substitutions_depth function_depth method_depth bracketed_depth elements_depth next_element_depth block_depth declaration_depth else_if_depth if_clause_depth

unfoldable pub depth_of_function : Function → ℕ
depth_of_function = fold-Function ℕ ℕ ℕ ℕ ℕ ℕ ℕ ℕ ℕ ℕ ℕ ℕ ℕ ℕ ℕ ℕ ℕ ℕ ℕ ℕ ℕ ℕ ℕ ℕ ℕ ℕ ℕ class_element_depth heritage_depth expression_depth link_depth concise_body_depth element_depth property_name_depth case_clause_depth else_depth finalizer_depth for_start_depth handler_depth maybe_expression_depth statement_depth class_depth operand_depth substitution_depth substitutions_depth function_depth method_depth bracketed_depth elements_depth next_element_depth block_depth declaration_depth else_if_depth if_clause_depth

unfoldable pub depth_of_method : Method → ℕ
depth_of_method = fold-Method ℕ ℕ ℕ ℕ ℕ ℕ ℕ ℕ ℕ ℕ ℕ ℕ ℕ ℕ ℕ ℕ ℕ ℕ ℕ ℕ ℕ ℕ ℕ ℕ ℕ ℕ ℕ class_element_depth heritage_depth expression_depth link_depth concise_body_depth element_depth property_name_depth case_clause_depth else_depth finalizer_depth for_start_depth handler_depth maybe_expression_depth statement_depth class_depth operand_depth substitution_depth substitutions_depth function_depth method_depth bracketed_depth elements_depth next_element_depth block_depth declaration_depth else_if_depth if_clause_depth

unfoldable pub depth_of_bracketed : Bracketed → ℕ
depth_of_bracketed = fold-Bracketed ℕ ℕ ℕ ℕ ℕ ℕ ℕ ℕ ℕ ℕ ℕ ℕ ℕ ℕ ℕ ℕ ℕ ℕ ℕ ℕ ℕ ℕ ℕ ℕ ℕ ℕ ℕ class_element_depth heritage_depth expression_depth link_depth concise_body_depth element_depth property_name_depth case_clause_depth else_depth finalizer_depth for_start_depth handler_depth maybe_expression_depth statement_depth class_depth operand_depth substitution_depth substitutions_depth function_depth method_depth bracketed_depth elements_depth next_element_depth block_depth declaration_depth else_if_depth if_clause_depth

unfoldable pub depth_of_elements : Elements → ℕ
depth_of_elements = fold-Elements ℕ ℕ ℕ ℕ ℕ ℕ ℕ ℕ ℕ ℕ ℕ ℕ ℕ ℕ ℕ ℕ ℕ ℕ ℕ ℕ ℕ ℕ ℕ ℕ ℕ ℕ ℕ class_element_depth heritage_depth expression_depth link_depth concise_body_depth element_depth property_name_depth case_clause_depth else_depth finalizer_depth for_start_depth handler_depth maybe_expression_depth statement_depth class_depth operand_depth substitution_depth substitutions_depth function_depth method_depth bracketed_depth elements_depth next_element_depth block_depth declaration_depth else_if_depth if_clause_depth

unfoldable pub depth_of_next_element : NextElement → ℕ
depth_of_next_element = fold-NextElement ℕ ℕ ℕ ℕ ℕ ℕ ℕ ℕ ℕ ℕ ℕ ℕ ℕ ℕ ℕ ℕ ℕ ℕ ℕ ℕ ℕ ℕ ℕ ℕ ℕ ℕ ℕ class_element_depth heritage_depth expression_depth link_depth concise_body_depth element_depth property_name_depth case_clause_depth else_depth finalizer_depth for_start_depth handler_depth maybe_expression_depth statement_depth class_depth operand_depth substitution_depth substitutions_depth function_depth method_depth bracketed_depth elements_depth next_element_depth block_depth declaration_depth else_if_depth if_clause_depth

unfoldable pub depth_of_block : Block → ℕ
depth_of_block = fold-Block ℕ ℕ ℕ ℕ ℕ ℕ ℕ ℕ ℕ ℕ ℕ ℕ ℕ ℕ ℕ ℕ ℕ ℕ ℕ ℕ ℕ ℕ ℕ ℕ ℕ ℕ ℕ class_element_depth heritage_depth expression_depth link_depth concise_body_depth element_depth property_name_depth case_clause_depth else_depth finalizer_depth for_start_depth handler_depth maybe_expression_depth statement_depth class_depth operand_depth substitution_depth substitutions_depth function_depth method_depth bracketed_depth elements_depth next_element_depth block_depth declaration_depth else_if_depth if_clause_depth

unfoldable pub depth_of_declaration : Declaration → ℕ
depth_of_declaration = fold-Declaration ℕ ℕ ℕ ℕ ℕ ℕ ℕ ℕ ℕ ℕ ℕ ℕ ℕ ℕ ℕ ℕ ℕ ℕ ℕ ℕ ℕ ℕ ℕ ℕ ℕ ℕ ℕ class_element_depth heritage_depth expression_depth link_depth concise_body_depth element_depth property_name_depth case_clause_depth else_depth finalizer_depth for_start_depth handler_depth maybe_expression_depth statement_depth class_depth operand_depth substitution_depth substitutions_depth function_depth method_depth bracketed_depth elements_depth next_element_depth block_depth declaration_depth else_if_depth if_clause_depth

unfoldable pub depth_of_else_if : ElseIf → ℕ
depth_of_else_if = fold-ElseIf ℕ ℕ ℕ ℕ ℕ ℕ ℕ ℕ ℕ ℕ ℕ ℕ ℕ ℕ ℕ ℕ ℕ ℕ ℕ ℕ ℕ ℕ ℕ ℕ ℕ ℕ ℕ class_element_depth heritage_depth expression_depth link_depth concise_body_depth element_depth property_name_depth case_clause_depth else_depth finalizer_depth for_start_depth handler_depth maybe_expression_depth statement_depth class_depth operand_depth substitution_depth substitutions_depth function_depth method_depth bracketed_depth elements_depth next_element_depth block_depth declaration_depth else_if_depth if_clause_depth

unfoldable pub depth_of_if_clause : IfClause → ℕ
depth_of_if_clause = fold-IfClause ℕ ℕ ℕ ℕ ℕ ℕ ℕ ℕ ℕ ℕ ℕ ℕ ℕ ℕ ℕ ℕ ℕ ℕ ℕ ℕ ℕ ℕ ℕ ℕ ℕ ℕ ℕ class_element_depth heritage_depth expression_depth link_depth concise_body_depth element_depth property_name_depth case_clause_depth else_depth finalizer_depth for_start_depth handler_depth maybe_expression_depth statement_depth class_depth operand_depth substitution_depth substitutions_depth function_depth method_depth bracketed_depth elements_depth next_element_depth block_depth declaration_depth else_if_depth if_clause_depth
