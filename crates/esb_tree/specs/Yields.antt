-- The tokens of a tree, in the order of its text: one line for each kind of node.
use Rattle.std.specs.Prelude.{List, [], ◌∷◌, ◌++◌, Option, Some, None}
use Rattle.std.specs.List.{flat_map}
use Rattle.esb_token.specs.declared.token.Token.{Token}
use Rattle.esb_tree.specs.declared.classes.ClassElement.TheOpen.{ClassElement-F, Heritage-F, Expression-F, Link-F, ConciseBody-F, Element-F, PropertyName-F, CaseClause-F, Else-F, Finalizer-F, ForStart-F, Handler-F, MaybeExpression-F, Statement-F, Class-F, Operand-F, Substitution-F, Substitutions-F, Function-F, Method-F, Bracketed-F, Elements-F, NextElement-F, Block-F, Declaration-F, ElseIf-F, IfClause-F}
use Rattle.esb_tree.specs.declared.classes.ClassElement.TheFolds.{fold-ClassElement, fold-Heritage, fold-Expression, fold-Link, fold-ConciseBody, fold-Element, fold-PropertyName, fold-CaseClause, fold-Else, fold-Finalizer, fold-ForStart, fold-Handler, fold-MaybeExpression, fold-Statement, fold-Class, fold-Operand, fold-Substitution, fold-Substitutions, fold-Function, fold-Method, fold-Bracketed, fold-Elements, fold-NextElement, fold-Block, fold-Declaration, fold-ElseIf, fold-IfClause}
use Rattle.esb_tree.specs.declared.classes.ClassElement.{ClassElement}
use Rattle.esb_tree.specs.declared.classes.Heritage.{Heritage}
use Rattle.esb_tree.specs.declared.expressions.Expression.{Expression}
use Rattle.esb_tree.specs.declared.expressions.Link.{Link}
use Rattle.esb_tree.specs.declared.functions.ConciseBody.{ConciseBody}
use Rattle.esb_tree.specs.declared.patterns.Element.{Element}
use Rattle.esb_tree.specs.declared.patterns.PropertyName.{PropertyName}
use Rattle.esb_tree.specs.declared.statements.CaseClause.{CaseClause}
use Rattle.esb_tree.specs.declared.statements.Else.{Else}
use Rattle.esb_tree.specs.declared.statements.Finalizer.{Finalizer}
use Rattle.esb_tree.specs.declared.statements.ForStart.{ForStart}
use Rattle.esb_tree.specs.declared.statements.Handler.{Handler}
use Rattle.esb_tree.specs.declared.statements.MaybeExpression.{MaybeExpression}
use Rattle.esb_tree.specs.declared.statements.Statement.{Statement}
use Rattle.esb_tree.specs.declared.classes.Class.{Class}
use Rattle.esb_tree.specs.declared.expressions.Operand.{Operand}
use Rattle.esb_tree.specs.declared.expressions.Substitution.{Substitution}
use Rattle.esb_tree.specs.declared.expressions.Substitutions.{Substitutions}
use Rattle.esb_tree.specs.declared.functions.Function.{Function}
use Rattle.esb_tree.specs.declared.functions.Method.{Method}
use Rattle.esb_tree.specs.declared.patterns.Bracketed.{Bracketed}
use Rattle.esb_tree.specs.declared.patterns.Elements.{Elements}
use Rattle.esb_tree.specs.declared.patterns.NextElement.{NextElement}
use Rattle.esb_tree.specs.declared.statements.Block.{Block}
use Rattle.esb_tree.specs.declared.statements.Declaration.{Declaration}
use Rattle.esb_tree.specs.declared.statements.ElseIf.{ElseIf}
use Rattle.esb_tree.specs.declared.statements.IfClause.{IfClause}

abbrev pub Tokens : Type 0
Tokens = List Token

-- what stands for a semicolon that ends a statement, which may have been left out
abbrev pub Marking : Type 0
Marking = Option Token → Tokens

-- a token that may be absent
abbrev pub maybe_token : Option Token → Tokens
maybe_token None = []
maybe_token (Some t) = t ∷ []

-- ---- the tokens of each kind of node, where its children have given theirs

abbrev pub class_element_tokens : ClassElement-F Tokens Tokens Tokens Tokens Tokens Tokens Tokens Tokens Tokens Tokens Tokens Tokens Tokens Tokens Tokens Tokens Tokens Tokens Tokens Tokens Tokens Tokens Tokens Tokens Tokens Tokens Tokens → Tokens
class_element_tokens (ClassElement-F.ClassMethod word method) = maybe_token word ++ method
class_element_tokens (ClassElement-F.EmptyElement semicolon) = semicolon ∷ []

abbrev pub heritage_tokens : Heritage-F Tokens Tokens Tokens Tokens Tokens Tokens Tokens Tokens Tokens Tokens Tokens Tokens Tokens Tokens Tokens Tokens Tokens Tokens Tokens Tokens Tokens Tokens Tokens Tokens Tokens Tokens Tokens → Tokens
heritage_tokens (Heritage-F.NoHeritage) = []
heritage_tokens (Heritage-F.Extends word x) = word ∷ x

abbrev pub expression_tokens : Expression-F Tokens Tokens Tokens Tokens Tokens Tokens Tokens Tokens Tokens Tokens Tokens Tokens Tokens Tokens Tokens Tokens Tokens Tokens Tokens Tokens Tokens Tokens Tokens Tokens Tokens Tokens Tokens → Tokens
expression_tokens (Expression-F.Primary t) = t ∷ []
expression_tokens (Expression-F.MetaProperty word dot name) = word ∷ dot ∷ name ∷ []
expression_tokens (Expression-F.ArrayLiteral list) = list
expression_tokens (Expression-F.ObjectLiteral list) = list
expression_tokens (Expression-F.Parenthesized list) = list
expression_tokens (Expression-F.TemplateLiteral template) = template
expression_tokens (Expression-F.FunctionExpression function) = function
expression_tokens (Expression-F.ClassExpression class) = class
expression_tokens (Expression-F.Member object links) = object ++ (flat_map (λ ts. ts) links)
expression_tokens (Expression-F.New word callee arguments) = word ∷ (callee ++ arguments)
expression_tokens (Expression-F.NewPlain word callee) = word ∷ callee
expression_tokens (Expression-F.ImportCall word begin x ending) = word ∷ (begin ∷ (x ++ (ending ∷ [])))
expression_tokens (Expression-F.PrefixUpdate operator x) = operator ∷ x
expression_tokens (Expression-F.PostfixUpdate x operator) = x ++ (operator ∷ [])
expression_tokens (Expression-F.Unary operator x) = operator ∷ x
expression_tokens (Expression-F.Await word x) = word ∷ x
expression_tokens (Expression-F.Binary first rest) = first ++ (flat_map (λ ts. ts) rest)
expression_tokens (Expression-F.Conditional test question x colon other) = test ++ (question ∷ (x ++ (colon ∷ other)))
expression_tokens (Expression-F.Assignment target operator x) = target ++ (operator ∷ x)
expression_tokens (Expression-F.Arrow head arrow body) = head ++ (arrow ∷ body)
expression_tokens (Expression-F.AsyncArrow word name arrow body) = word ∷ name ∷ arrow ∷ body
expression_tokens (Expression-F.Yield word) = word ∷ []
expression_tokens (Expression-F.YieldValue word x) = word ∷ x
expression_tokens (Expression-F.YieldEach word star x) = word ∷ star ∷ x

abbrev pub link_tokens : Link-F Tokens Tokens Tokens Tokens Tokens Tokens Tokens Tokens Tokens Tokens Tokens Tokens Tokens Tokens Tokens Tokens Tokens Tokens Tokens Tokens Tokens Tokens Tokens Tokens Tokens Tokens Tokens → Tokens
link_tokens (Link-F.Dot dot name) = dot ∷ name ∷ []
link_tokens (Link-F.Index begin x ending) = begin ∷ (x ++ (ending ∷ []))
link_tokens (Link-F.Call arguments) = arguments
link_tokens (Link-F.Tagged template) = template ∷ []
link_tokens (Link-F.TaggedTemplate template) = template
link_tokens (Link-F.OptionalDot dot name) = dot ∷ name ∷ []
link_tokens (Link-F.OptionalIndex dot begin x ending) = dot ∷ (begin ∷ (x ++ (ending ∷ [])))
link_tokens (Link-F.OptionalCall dot arguments) = dot ∷ arguments

abbrev pub concise_body_tokens : ConciseBody-F Tokens Tokens Tokens Tokens Tokens Tokens Tokens Tokens Tokens Tokens Tokens Tokens Tokens Tokens Tokens Tokens Tokens Tokens Tokens Tokens Tokens Tokens Tokens Tokens Tokens Tokens Tokens → Tokens
concise_body_tokens (ConciseBody-F.ConciseValue x) = x
concise_body_tokens (ConciseBody-F.ConciseBlock block) = block

abbrev pub element_tokens : Element-F Tokens Tokens Tokens Tokens Tokens Tokens Tokens Tokens Tokens Tokens Tokens Tokens Tokens Tokens Tokens Tokens Tokens Tokens Tokens Tokens Tokens Tokens Tokens Tokens Tokens Tokens Tokens → Tokens
element_tokens (Element-F.Hole) = []
element_tokens (Element-F.Value x) = x
element_tokens (Element-F.Spread dots x) = dots ∷ x
element_tokens (Element-F.Shorthand name) = name ∷ []
element_tokens (Element-F.Initialized name sign x) = name ∷ sign ∷ x
element_tokens (Element-F.Property name colon x) = name ++ (colon ∷ x)
element_tokens (Element-F.MethodProperty method) = method

abbrev pub property_name_tokens : PropertyName-F Tokens Tokens Tokens Tokens Tokens Tokens Tokens Tokens Tokens Tokens Tokens Tokens Tokens Tokens Tokens Tokens Tokens Tokens Tokens Tokens Tokens Tokens Tokens Tokens Tokens Tokens Tokens → Tokens
property_name_tokens (PropertyName-F.Named name) = name ∷ []
property_name_tokens (PropertyName-F.Computed begin x ending) = begin ∷ (x ++ (ending ∷ []))

abbrev pub case_clause_tokens : CaseClause-F Tokens Tokens Tokens Tokens Tokens Tokens Tokens Tokens Tokens Tokens Tokens Tokens Tokens Tokens Tokens Tokens Tokens Tokens Tokens Tokens Tokens Tokens Tokens Tokens Tokens Tokens Tokens → Tokens
case_clause_tokens (CaseClause-F.Case word x colon body) = word ∷ (x ++ (colon ∷ flat_map (λ ts. ts) body))
case_clause_tokens (CaseClause-F.Default word colon body) = word ∷ colon ∷ flat_map (λ ts. ts) body

abbrev pub else_tokens : Else-F Tokens Tokens Tokens Tokens Tokens Tokens Tokens Tokens Tokens Tokens Tokens Tokens Tokens Tokens Tokens Tokens Tokens Tokens Tokens Tokens Tokens Tokens Tokens Tokens Tokens Tokens Tokens → Tokens
else_tokens (Else-F.NoElse) = []
else_tokens (Else-F.Otherwise word body) = word ∷ body

abbrev pub finalizer_tokens : Finalizer-F Tokens Tokens Tokens Tokens Tokens Tokens Tokens Tokens Tokens Tokens Tokens Tokens Tokens Tokens Tokens Tokens Tokens Tokens Tokens Tokens Tokens Tokens Tokens Tokens Tokens Tokens Tokens → Tokens
finalizer_tokens (Finalizer-F.NoFinalizer) = []
finalizer_tokens (Finalizer-F.Finally word block) = word ∷ block

abbrev pub for_start_tokens : ForStart-F Tokens Tokens Tokens Tokens Tokens Tokens Tokens Tokens Tokens Tokens Tokens Tokens Tokens Tokens Tokens Tokens Tokens Tokens Tokens Tokens Tokens Tokens Tokens Tokens Tokens Tokens Tokens → Tokens
for_start_tokens (ForStart-F.NoStart) = []
for_start_tokens (ForStart-F.StartExpression x) = x
for_start_tokens (ForStart-F.StartDeclaration declaration) = declaration

abbrev pub handler_tokens : Handler-F Tokens Tokens Tokens Tokens Tokens Tokens Tokens Tokens Tokens Tokens Tokens Tokens Tokens Tokens Tokens Tokens Tokens Tokens Tokens Tokens Tokens Tokens Tokens Tokens Tokens Tokens Tokens → Tokens
handler_tokens (Handler-F.NoHandler) = []
handler_tokens (Handler-F.Catch word block) = word ∷ block
handler_tokens (Handler-F.CatchParameter word begin x ending block) = word ∷ (begin ∷ (x ++ (ending ∷ block)))

abbrev pub maybe_expression_tokens : MaybeExpression-F Tokens Tokens Tokens Tokens Tokens Tokens Tokens Tokens Tokens Tokens Tokens Tokens Tokens Tokens Tokens Tokens Tokens Tokens Tokens Tokens Tokens Tokens Tokens Tokens Tokens Tokens Tokens → Tokens
maybe_expression_tokens (MaybeExpression-F.Absent) = []
maybe_expression_tokens (MaybeExpression-F.Present x) = x

abbrev pub statement_tokens : Marking → Statement-F Tokens Tokens Tokens Tokens Tokens Tokens Tokens Tokens Tokens Tokens Tokens Tokens Tokens Tokens Tokens Tokens Tokens Tokens Tokens Tokens Tokens Tokens Tokens Tokens Tokens Tokens Tokens → Tokens
statement_tokens mark (Statement-F.BlockStatement block) = block
statement_tokens mark (Statement-F.Variables declaration end) = declaration ++ (mark end)
statement_tokens mark (Statement-F.Empty semicolon) = semicolon ∷ []
statement_tokens mark (Statement-F.ExpressionStatement x end) = x ++ (mark end)
statement_tokens mark (Statement-F.If clause rest last) = clause ++ (flat_map (λ ts. ts) rest ++ last)
statement_tokens mark (Statement-F.DoWhile word body while_word begin x ending end) = word ∷ (body ++ (while_word ∷ (begin ∷ (x ++ (ending ∷ mark end)))))
statement_tokens mark (Statement-F.While word begin x ending body) = word ∷ (begin ∷ (x ++ (ending ∷ body)))
statement_tokens mark (Statement-F.For word begin start first test second step ending body) = word ∷ (begin ∷ (start ++ (first ∷ (test ++ (second ∷ (step ++ (ending ∷ body)))))))
statement_tokens mark (Statement-F.ForEach word await_word begin start middle x ending body) = word ∷ (maybe_token await_word ++ (begin ∷ (start ++ (middle ∷ (x ++ (ending ∷ body))))))
statement_tokens mark (Statement-F.Continue word label end) = word ∷ (maybe_token label ++ (mark end))
statement_tokens mark (Statement-F.Break word label end) = word ∷ (maybe_token label ++ (mark end))
statement_tokens mark (Statement-F.Return word x end) = word ∷ (x ++ (mark end))
statement_tokens mark (Statement-F.Switch word begin x ending left clauses right) = word ∷ (begin ∷ (x ++ (ending ∷ (left ∷ (flat_map (λ ts. ts) clauses ++ (right ∷ []))))))
statement_tokens mark (Statement-F.Labelled label colon body) = label ∷ colon ∷ body
statement_tokens mark (Statement-F.Throw word x end) = word ∷ (x ++ (mark end))
statement_tokens mark (Statement-F.Try word block handler finalizer) = word ∷ (block ++ (handler ++ finalizer))
statement_tokens mark (Statement-F.Debugger word end) = word ∷ mark end
statement_tokens mark (Statement-F.FunctionDeclaration function) = function
statement_tokens mark (Statement-F.ClassDeclaration class) = class

abbrev pub class_tokens : Class-F Tokens Tokens Tokens Tokens Tokens Tokens Tokens Tokens Tokens Tokens Tokens Tokens Tokens Tokens Tokens Tokens Tokens Tokens Tokens Tokens Tokens Tokens Tokens Tokens Tokens Tokens Tokens → Tokens
class_tokens o = o.word ∷ (maybe_token o.name ++ (o.heritage ++ (o.begin ∷ (flat_map (λ ts. ts) o.elements ++ (o.ending ∷ [])))))

abbrev pub operand_tokens : Operand-F Tokens Tokens Tokens Tokens Tokens Tokens Tokens Tokens Tokens Tokens Tokens Tokens Tokens Tokens Tokens Tokens Tokens Tokens Tokens Tokens Tokens Tokens Tokens Tokens Tokens Tokens Tokens → Tokens
operand_tokens o = o.operator ∷ o.value

abbrev pub substitution_tokens : Substitution-F Tokens Tokens Tokens Tokens Tokens Tokens Tokens Tokens Tokens Tokens Tokens Tokens Tokens Tokens Tokens Tokens Tokens Tokens Tokens Tokens Tokens Tokens Tokens Tokens Tokens Tokens Tokens → Tokens
substitution_tokens o = o.middle ∷ o.value

abbrev pub substitutions_tokens : Substitutions-F Tokens Tokens Tokens Tokens Tokens Tokens Tokens Tokens Tokens Tokens Tokens Tokens Tokens Tokens Tokens Tokens Tokens Tokens Tokens Tokens Tokens Tokens Tokens Tokens Tokens Tokens Tokens → Tokens
substitutions_tokens o = o.head ∷ (o.first ++ (flat_map (λ ts. ts) o.rest ++ (o.tail ∷ [])))

abbrev pub function_tokens : Function-F Tokens Tokens Tokens Tokens Tokens Tokens Tokens Tokens Tokens Tokens Tokens Tokens Tokens Tokens Tokens Tokens Tokens Tokens Tokens Tokens Tokens Tokens Tokens Tokens Tokens Tokens Tokens → Tokens
function_tokens o = maybe_token o.async_word ++ (o.word ∷ (maybe_token o.star ++ (maybe_token o.name ++ (o.parameters ++ o.body))))

abbrev pub method_tokens : Method-F Tokens Tokens Tokens Tokens Tokens Tokens Tokens Tokens Tokens Tokens Tokens Tokens Tokens Tokens Tokens Tokens Tokens Tokens Tokens Tokens Tokens Tokens Tokens Tokens Tokens Tokens Tokens → Tokens
method_tokens o = maybe_token o.word ++ (maybe_token o.star ++ (o.name ++ (o.parameters ++ o.body)))

abbrev pub bracketed_tokens : Bracketed-F Tokens Tokens Tokens Tokens Tokens Tokens Tokens Tokens Tokens Tokens Tokens Tokens Tokens Tokens Tokens Tokens Tokens Tokens Tokens Tokens Tokens Tokens Tokens Tokens Tokens Tokens Tokens → Tokens
bracketed_tokens o = o.begin ∷ (o.list ++ (o.ending ∷ []))

abbrev pub elements_tokens : Elements-F Tokens Tokens Tokens Tokens Tokens Tokens Tokens Tokens Tokens Tokens Tokens Tokens Tokens Tokens Tokens Tokens Tokens Tokens Tokens Tokens Tokens Tokens Tokens Tokens Tokens Tokens Tokens → Tokens
elements_tokens o = o.first ++ (flat_map (λ ts. ts) o.rest)

abbrev pub next_element_tokens : NextElement-F Tokens Tokens Tokens Tokens Tokens Tokens Tokens Tokens Tokens Tokens Tokens Tokens Tokens Tokens Tokens Tokens Tokens Tokens Tokens Tokens Tokens Tokens Tokens Tokens Tokens Tokens Tokens → Tokens
next_element_tokens o = o.comma ∷ o.element

abbrev pub block_tokens : Block-F Tokens Tokens Tokens Tokens Tokens Tokens Tokens Tokens Tokens Tokens Tokens Tokens Tokens Tokens Tokens Tokens Tokens Tokens Tokens Tokens Tokens Tokens Tokens Tokens Tokens Tokens Tokens → Tokens
block_tokens o = o.begin ∷ (flat_map (λ ts. ts) o.body ++ (o.ending ∷ []))

abbrev pub declaration_tokens : Declaration-F Tokens Tokens Tokens Tokens Tokens Tokens Tokens Tokens Tokens Tokens Tokens Tokens Tokens Tokens Tokens Tokens Tokens Tokens Tokens Tokens Tokens Tokens Tokens Tokens Tokens Tokens Tokens → Tokens
declaration_tokens o = o.word ∷ o.bindings

abbrev pub else_if_tokens : ElseIf-F Tokens Tokens Tokens Tokens Tokens Tokens Tokens Tokens Tokens Tokens Tokens Tokens Tokens Tokens Tokens Tokens Tokens Tokens Tokens Tokens Tokens Tokens Tokens Tokens Tokens Tokens Tokens → Tokens
else_if_tokens o = o.else_word ∷ o.clause

abbrev pub if_clause_tokens : IfClause-F Tokens Tokens Tokens Tokens Tokens Tokens Tokens Tokens Tokens Tokens Tokens Tokens Tokens Tokens Tokens Tokens Tokens Tokens Tokens Tokens Tokens Tokens Tokens Tokens Tokens Tokens Tokens → Tokens
if_clause_tokens o = o.word ∷ (o.begin ∷ (o.condition ++ (o.ending ∷ o.body)))

-- ---- the tokens of a whole node

unfoldable pub tokens_of_class_element : Marking → ClassElement → Tokens
tokens_of_class_element mark = fold-ClassElement Tokens Tokens Tokens Tokens Tokens Tokens Tokens Tokens Tokens Tokens Tokens Tokens Tokens Tokens Tokens Tokens Tokens Tokens Tokens Tokens Tokens Tokens Tokens Tokens Tokens Tokens Tokens class_element_tokens heritage_tokens expression_tokens link_tokens concise_body_tokens element_tokens property_name_tokens case_clause_tokens else_tokens finalizer_tokens for_start_tokens handler_tokens maybe_expression_tokens (statement_tokens mark) class_tokens operand_tokens substitution_tokens substitutions_tokens function_tokens method_tokens bracketed_tokens elements_tokens next_element_tokens block_tokens declaration_tokens else_if_tokens if_clause_tokens

unfoldable pub tokens_of_heritage : Marking → Heritage → Tokens
tokens_of_heritage mark = fold-Heritage Tokens Tokens Tokens Tokens Tokens Tokens Tokens Tokens Tokens Tokens Tokens Tokens Tokens Tokens Tokens Tokens Tokens Tokens Tokens Tokens Tokens Tokens Tokens Tokens Tokens Tokens Tokens class_element_tokens heritage_tokens expression_tokens link_tokens concise_body_tokens element_tokens property_name_tokens case_clause_tokens else_tokens finalizer_tokens for_start_tokens handler_tokens maybe_expression_tokens (statement_tokens mark) class_tokens operand_tokens substitution_tokens substitutions_tokens function_tokens method_tokens bracketed_tokens elements_tokens next_element_tokens block_tokens declaration_tokens else_if_tokens if_clause_tokens

unfoldable pub tokens_of_expression : Marking → Expression → Tokens
tokens_of_expression mark = fold-Expression Tokens Tokens Tokens Tokens Tokens Tokens Tokens Tokens Tokens Tokens Tokens Tokens Tokens Tokens Tokens Tokens Tokens Tokens Tokens Tokens Tokens Tokens Tokens Tokens Tokens Tokens Tokens class_element_tokens heritage_tokens expression_tokens link_tokens concise_body_tokens element_tokens property_name_tokens case_clause_tokens else_tokens finalizer_tokens for_start_tokens handler_tokens maybe_expression_tokens (statement_tokens mark) class_tokens operand_tokens substitution_tokens substitutions_tokens function_tokens method_tokens bracketed_tokens elements_tokens next_element_tokens block_tokens declaration_tokens else_if_tokens if_clause_tokens

unfoldable pub tokens_of_link : Marking → Link → Tokens
tokens_of_link mark = fold-Link Tokens Tokens Tokens Tokens Tokens Tokens Tokens Tokens Tokens Tokens Tokens Tokens Tokens Tokens Tokens Tokens Tokens Tokens Tokens Tokens Tokens Tokens Tokens Tokens Tokens Tokens Tokens class_element_tokens heritage_tokens expression_tokens link_tokens concise_body_tokens element_tokens property_name_tokens case_clause_tokens else_tokens finalizer_tokens for_start_tokens handler_tokens maybe_expression_tokens (statement_tokens mark) class_tokens operand_tokens substitution_tokens substitutions_tokens function_tokens method_tokens bracketed_tokens elements_tokens next_element_tokens block_tokens declaration_tokens else_if_tokens if_clause_tokens

unfoldable pub tokens_of_concise_body : Marking → ConciseBody → Tokens
tokens_of_concise_body mark = fold-ConciseBody Tokens Tokens Tokens Tokens Tokens Tokens Tokens Tokens Tokens Tokens Tokens Tokens Tokens Tokens Tokens Tokens Tokens Tokens Tokens Tokens Tokens Tokens Tokens Tokens Tokens Tokens Tokens class_element_tokens heritage_tokens expression_tokens link_tokens concise_body_tokens element_tokens property_name_tokens case_clause_tokens else_tokens finalizer_tokens for_start_tokens handler_tokens maybe_expression_tokens (statement_tokens mark) class_tokens operand_tokens substitution_tokens substitutions_tokens function_tokens method_tokens bracketed_tokens elements_tokens next_element_tokens block_tokens declaration_tokens else_if_tokens if_clause_tokens

unfoldable pub tokens_of_element : Marking → Element → Tokens
tokens_of_element mark = fold-Element Tokens Tokens Tokens Tokens Tokens Tokens Tokens Tokens Tokens Tokens Tokens Tokens Tokens Tokens Tokens Tokens Tokens Tokens Tokens Tokens Tokens Tokens Tokens Tokens Tokens Tokens Tokens class_element_tokens heritage_tokens expression_tokens link_tokens concise_body_tokens element_tokens property_name_tokens case_clause_tokens else_tokens finalizer_tokens for_start_tokens handler_tokens maybe_expression_tokens (statement_tokens mark) class_tokens operand_tokens substitution_tokens substitutions_tokens function_tokens method_tokens bracketed_tokens elements_tokens next_element_tokens block_tokens declaration_tokens else_if_tokens if_clause_tokens

unfoldable pub tokens_of_property_name : Marking → PropertyName → Tokens
tokens_of_property_name mark = fold-PropertyName Tokens Tokens Tokens Tokens Tokens Tokens Tokens Tokens Tokens Tokens Tokens Tokens Tokens Tokens Tokens Tokens Tokens Tokens Tokens Tokens Tokens Tokens Tokens Tokens Tokens Tokens Tokens class_element_tokens heritage_tokens expression_tokens link_tokens concise_body_tokens element_tokens property_name_tokens case_clause_tokens else_tokens finalizer_tokens for_start_tokens handler_tokens maybe_expression_tokens (statement_tokens mark) class_tokens operand_tokens substitution_tokens substitutions_tokens function_tokens method_tokens bracketed_tokens elements_tokens next_element_tokens block_tokens declaration_tokens else_if_tokens if_clause_tokens

unfoldable pub tokens_of_case_clause : Marking → CaseClause → Tokens
tokens_of_case_clause mark = fold-CaseClause Tokens Tokens Tokens Tokens Tokens Tokens Tokens Tokens Tokens Tokens Tokens Tokens Tokens Tokens Tokens Tokens Tokens Tokens Tokens Tokens Tokens Tokens Tokens Tokens Tokens Tokens Tokens class_element_tokens heritage_tokens expression_tokens link_tokens concise_body_tokens element_tokens property_name_tokens case_clause_tokens else_tokens finalizer_tokens for_start_tokens handler_tokens maybe_expression_tokens (statement_tokens mark) class_tokens operand_tokens substitution_tokens substitutions_tokens function_tokens method_tokens bracketed_tokens elements_tokens next_element_tokens block_tokens declaration_tokens else_if_tokens if_clause_tokens

unfoldable pub tokens_of_else : Marking → Else → Tokens
tokens_of_else mark = fold-Else Tokens Tokens Tokens Tokens Tokens Tokens Tokens Tokens Tokens Tokens Tokens Tokens Tokens Tokens Tokens Tokens Tokens Tokens Tokens Tokens Tokens Tokens Tokens Tokens Tokens Tokens Tokens class_element_tokens heritage_tokens expression_tokens link_tokens concise_body_tokens element_tokens property_name_tokens case_clause_tokens else_tokens finalizer_tokens for_start_tokens handler_tokens maybe_expression_tokens (statement_tokens mark) class_tokens operand_tokens substitution_tokens substitutions_tokens function_tokens method_tokens bracketed_tokens elements_tokens next_element_tokens block_tokens declaration_tokens else_if_tokens if_clause_tokens

unfoldable pub tokens_of_finalizer : Marking → Finalizer → Tokens
tokens_of_finalizer mark = fold-Finalizer Tokens Tokens Tokens Tokens Tokens Tokens Tokens Tokens Tokens Tokens Tokens Tokens Tokens Tokens Tokens Tokens Tokens Tokens Tokens Tokens Tokens Tokens Tokens Tokens Tokens Tokens Tokens class_element_tokens heritage_tokens expression_tokens link_tokens concise_body_tokens element_tokens property_name_tokens case_clause_tokens else_tokens finalizer_tokens for_start_tokens handler_tokens maybe_expression_tokens (statement_tokens mark) class_tokens operand_tokens substitution_tokens substitutions_tokens function_tokens method_tokens bracketed_tokens elements_tokens next_element_tokens block_tokens declaration_tokens else_if_tokens if_clause_tokens

unfoldable pub tokens_of_for_start : Marking → ForStart → Tokens
tokens_of_for_start mark = fold-ForStart Tokens Tokens Tokens Tokens Tokens Tokens Tokens Tokens Tokens Tokens Tokens Tokens Tokens Tokens Tokens Tokens Tokens Tokens Tokens Tokens Tokens Tokens Tokens Tokens Tokens Tokens Tokens class_element_tokens heritage_tokens expression_tokens link_tokens concise_body_tokens element_tokens property_name_tokens case_clause_tokens else_tokens finalizer_tokens for_start_tokens handler_tokens maybe_expression_tokens (statement_tokens mark) class_tokens operand_tokens substitution_tokens substitutions_tokens function_tokens method_tokens bracketed_tokens elements_tokens next_element_tokens block_tokens declaration_tokens else_if_tokens if_clause_tokens

unfoldable pub tokens_of_handler : Marking → Handler → Tokens
tokens_of_handler mark = fold-Handler Tokens Tokens Tokens Tokens Tokens Tokens Tokens Tokens Tokens Tokens Tokens Tokens Tokens Tokens Tokens Tokens Tokens Tokens Tokens Tokens Tokens Tokens Tokens Tokens Tokens Tokens Tokens class_element_tokens heritage_tokens expression_tokens link_tokens concise_body_tokens element_tokens property_name_tokens case_clause_tokens else_tokens finalizer_tokens for_start_tokens handler_tokens maybe_expression_tokens (statement_tokens mark) class_tokens operand_tokens substitution_tokens substitutions_tokens function_tokens method_tokens bracketed_tokens elements_tokens next_element_tokens block_tokens declaration_tokens else_if_tokens if_clause_tokens

unfoldable pub tokens_of_maybe_expression : Marking → MaybeExpression → Tokens
tokens_of_maybe_expression mark = fold-MaybeExpression Tokens Tokens Tokens Tokens Tokens Tokens Tokens Tokens Tokens Tokens Tokens Tokens Tokens Tokens Tokens Tokens Tokens Tokens Tokens Tokens Tokens Tokens Tokens Tokens Tokens Tokens Tokens class_element_tokens heritage_tokens expression_tokens link_tokens concise_body_tokens element_tokens property_name_tokens case_clause_tokens else_tokens finalizer_tokens for_start_tokens handler_tokens maybe_expression_tokens (statement_tokens mark) class_tokens operand_tokens substitution_tokens substitutions_tokens function_tokens method_tokens bracketed_tokens elements_tokens next_element_tokens block_tokens declaration_tokens else_if_tokens if_clause_tokens

unfoldable pub tokens_of_statement : Marking → Statement → Tokens
tokens_of_statement mark = fold-Statement Tokens Tokens Tokens Tokens Tokens Tokens Tokens Tokens Tokens Tokens Tokens Tokens Tokens Tokens Tokens Tokens Tokens Tokens Tokens Tokens Tokens Tokens Tokens Tokens Tokens Tokens Tokens class_element_tokens heritage_tokens expression_tokens link_tokens concise_body_tokens element_tokens property_name_tokens case_clause_tokens else_tokens finalizer_tokens for_start_tokens handler_tokens maybe_expression_tokens (statement_tokens mark) class_tokens operand_tokens substitution_tokens substitutions_tokens function_tokens method_tokens bracketed_tokens elements_tokens next_element_tokens block_tokens declaration_tokens else_if_tokens if_clause_tokens

unfoldable pub tokens_of_class : Marking → Class → Tokens
tokens_of_class mark = fold-Class Tokens Tokens Tokens Tokens Tokens Tokens Tokens Tokens Tokens Tokens Tokens Tokens Tokens Tokens Tokens Tokens Tokens Tokens Tokens Tokens Tokens Tokens Tokens Tokens Tokens Tokens Tokens class_element_tokens heritage_tokens expression_tokens link_tokens concise_body_tokens element_tokens property_name_tokens case_clause_tokens else_tokens finalizer_tokens for_start_tokens handler_tokens maybe_expression_tokens (statement_tokens mark) class_tokens operand_tokens substitution_tokens substitutions_tokens function_tokens method_tokens bracketed_tokens elements_tokens next_element_tokens block_tokens declaration_tokens else_if_tokens if_clause_tokens

unfoldable pub tokens_of_operand : Marking → Operand → Tokens
tokens_of_operand mark = fold-Operand Tokens Tokens Tokens Tokens Tokens Tokens Tokens Tokens Tokens Tokens Tokens Tokens Tokens Tokens Tokens Tokens Tokens Tokens Tokens Tokens Tokens Tokens Tokens Tokens Tokens Tokens Tokens class_element_tokens heritage_tokens expression_tokens link_tokens concise_body_tokens element_tokens property_name_tokens case_clause_tokens else_tokens finalizer_tokens for_start_tokens handler_tokens maybe_expression_tokens (statement_tokens mark) class_tokens operand_tokens substitution_tokens substitutions_tokens function_tokens method_tokens bracketed_tokens elements_tokens next_element_tokens block_tokens declaration_tokens else_if_tokens if_clause_tokens

unfoldable pub tokens_of_substitution : Marking → Substitution → Tokens
tokens_of_substitution mark = fold-Substitution Tokens Tokens Tokens Tokens Tokens Tokens Tokens Tokens Tokens Tokens Tokens Tokens Tokens Tokens Tokens Tokens Tokens Tokens Tokens Tokens Tokens Tokens Tokens Tokens Tokens Tokens Tokens class_element_tokens heritage_tokens expression_tokens link_tokens concise_body_tokens element_tokens property_name_tokens case_clause_tokens else_tokens finalizer_tokens for_start_tokens handler_tokens maybe_expression_tokens (statement_tokens mark) class_tokens operand_tokens substitution_tokens substitutions_tokens function_tokens method_tokens bracketed_tokens elements_tokens next_element_tokens block_tokens declaration_tokens else_if_tokens if_clause_tokens

unfoldable pub tokens_of_substitutions : Marking → Substitutions → Tokens
tokens_of_substitutions mark = fold-Substitutions Tokens Tokens Tokens Tokens Tokens Tokens Tokens Tokens Tokens Tokens Tokens Tokens Tokens Tokens Tokens Tokens Tokens Tokens Tokens Tokens Tokens Tokens Tokens Tokens Tokens Tokens Tokens class_element_tokens heritage_tokens expression_tokens link_tokens concise_body_tokens element_tokens property_name_tokens case_clause_tokens else_tokens finalizer_tokens for_start_tokens handler_tokens maybe_expression_tokens (statement_tokens mark) class_tokens operand_tokens substitution_tokens substitutions_tokens function_tokens method_tokens bracketed_tokens elements_tokens next_element_tokens block_tokens declaration_tokens else_if_tokens if_clause_tokens

unfoldable pub tokens_of_function : Marking → Function → Tokens
tokens_of_function mark = fold-Function Tokens Tokens Tokens Tokens Tokens Tokens Tokens Tokens Tokens Tokens Tokens Tokens Tokens Tokens Tokens Tokens Tokens Tokens Tokens Tokens Tokens Tokens Tokens Tokens Tokens Tokens Tokens class_element_tokens heritage_tokens expression_tokens link_tokens concise_body_tokens element_tokens property_name_tokens case_clause_tokens else_tokens finalizer_tokens for_start_tokens handler_tokens maybe_expression_tokens (statement_tokens mark) class_tokens operand_tokens substitution_tokens substitutions_tokens function_tokens method_tokens bracketed_tokens elements_tokens next_element_tokens block_tokens declaration_tokens else_if_tokens if_clause_tokens

unfoldable pub tokens_of_method : Marking → Method → Tokens
tokens_of_method mark = fold-Method Tokens Tokens Tokens Tokens Tokens Tokens Tokens Tokens Tokens Tokens Tokens Tokens Tokens Tokens Tokens Tokens Tokens Tokens Tokens Tokens Tokens Tokens Tokens Tokens Tokens Tokens Tokens class_element_tokens heritage_tokens expression_tokens link_tokens concise_body_tokens element_tokens property_name_tokens case_clause_tokens else_tokens finalizer_tokens for_start_tokens handler_tokens maybe_expression_tokens (statement_tokens mark) class_tokens operand_tokens substitution_tokens substitutions_tokens function_tokens method_tokens bracketed_tokens elements_tokens next_element_tokens block_tokens declaration_tokens else_if_tokens if_clause_tokens

unfoldable pub tokens_of_bracketed : Marking → Bracketed → Tokens
tokens_of_bracketed mark = fold-Bracketed Tokens Tokens Tokens Tokens Tokens Tokens Tokens Tokens Tokens Tokens Tokens Tokens Tokens Tokens Tokens Tokens Tokens Tokens Tokens Tokens Tokens Tokens Tokens Tokens Tokens Tokens Tokens class_element_tokens heritage_tokens expression_tokens link_tokens concise_body_tokens element_tokens property_name_tokens case_clause_tokens else_tokens finalizer_tokens for_start_tokens handler_tokens maybe_expression_tokens (statement_tokens mark) class_tokens operand_tokens substitution_tokens substitutions_tokens function_tokens method_tokens bracketed_tokens elements_tokens next_element_tokens block_tokens declaration_tokens else_if_tokens if_clause_tokens

unfoldable pub tokens_of_elements : Marking → Elements → Tokens
tokens_of_elements mark = fold-Elements Tokens Tokens Tokens Tokens Tokens Tokens Tokens Tokens Tokens Tokens Tokens Tokens Tokens Tokens Tokens Tokens Tokens Tokens Tokens Tokens Tokens Tokens Tokens Tokens Tokens Tokens Tokens class_element_tokens heritage_tokens expression_tokens link_tokens concise_body_tokens element_tokens property_name_tokens case_clause_tokens else_tokens finalizer_tokens for_start_tokens handler_tokens maybe_expression_tokens (statement_tokens mark) class_tokens operand_tokens substitution_tokens substitutions_tokens function_tokens method_tokens bracketed_tokens elements_tokens next_element_tokens block_tokens declaration_tokens else_if_tokens if_clause_tokens

unfoldable pub tokens_of_next_element : Marking → NextElement → Tokens
tokens_of_next_element mark = fold-NextElement Tokens Tokens Tokens Tokens Tokens Tokens Tokens Tokens Tokens Tokens Tokens Tokens Tokens Tokens Tokens Tokens Tokens Tokens Tokens Tokens Tokens Tokens Tokens Tokens Tokens Tokens Tokens class_element_tokens heritage_tokens expression_tokens link_tokens concise_body_tokens element_tokens property_name_tokens case_clause_tokens else_tokens finalizer_tokens for_start_tokens handler_tokens maybe_expression_tokens (statement_tokens mark) class_tokens operand_tokens substitution_tokens substitutions_tokens function_tokens method_tokens bracketed_tokens elements_tokens next_element_tokens block_tokens declaration_tokens else_if_tokens if_clause_tokens

unfoldable pub tokens_of_block : Marking → Block → Tokens
tokens_of_block mark = fold-Block Tokens Tokens Tokens Tokens Tokens Tokens Tokens Tokens Tokens Tokens Tokens Tokens Tokens Tokens Tokens Tokens Tokens Tokens Tokens Tokens Tokens Tokens Tokens Tokens Tokens Tokens Tokens class_element_tokens heritage_tokens expression_tokens link_tokens concise_body_tokens element_tokens property_name_tokens case_clause_tokens else_tokens finalizer_tokens for_start_tokens handler_tokens maybe_expression_tokens (statement_tokens mark) class_tokens operand_tokens substitution_tokens substitutions_tokens function_tokens method_tokens bracketed_tokens elements_tokens next_element_tokens block_tokens declaration_tokens else_if_tokens if_clause_tokens

unfoldable pub tokens_of_declaration : Marking → Declaration → Tokens
tokens_of_declaration mark = fold-Declaration Tokens Tokens Tokens Tokens Tokens Tokens Tokens Tokens Tokens Tokens Tokens Tokens Tokens Tokens Tokens Tokens Tokens Tokens Tokens Tokens Tokens Tokens Tokens Tokens Tokens Tokens Tokens class_element_tokens heritage_tokens expression_tokens link_tokens concise_body_tokens element_tokens property_name_tokens case_clause_tokens else_tokens finalizer_tokens for_start_tokens handler_tokens maybe_expression_tokens (statement_tokens mark) class_tokens operand_tokens substitution_tokens substitutions_tokens function_tokens method_tokens bracketed_tokens elements_tokens next_element_tokens block_tokens declaration_tokens else_if_tokens if_clause_tokens

unfoldable pub tokens_of_else_if : Marking → ElseIf → Tokens
tokens_of_else_if mark = fold-ElseIf Tokens Tokens Tokens Tokens Tokens Tokens Tokens Tokens Tokens Tokens Tokens Tokens Tokens Tokens Tokens Tokens Tokens Tokens Tokens Tokens Tokens Tokens Tokens Tokens Tokens Tokens Tokens class_element_tokens heritage_tokens expression_tokens link_tokens concise_body_tokens element_tokens property_name_tokens case_clause_tokens else_tokens finalizer_tokens for_start_tokens handler_tokens maybe_expression_tokens (statement_tokens mark) class_tokens operand_tokens substitution_tokens substitutions_tokens function_tokens method_tokens bracketed_tokens elements_tokens next_element_tokens block_tokens declaration_tokens else_if_tokens if_clause_tokens

unfoldable pub tokens_of_if_clause : Marking → IfClause → Tokens
tokens_of_if_clause mark = fold-IfClause Tokens Tokens Tokens Tokens Tokens Tokens Tokens Tokens Tokens Tokens Tokens Tokens Tokens Tokens Tokens Tokens Tokens Tokens Tokens Tokens Tokens Tokens Tokens Tokens Tokens Tokens Tokens class_element_tokens heritage_tokens expression_tokens link_tokens concise_body_tokens element_tokens property_name_tokens case_clause_tokens else_tokens finalizer_tokens for_start_tokens handler_tokens maybe_expression_tokens (statement_tokens mark) class_tokens operand_tokens substitution_tokens substitutions_tokens function_tokens method_tokens bracketed_tokens elements_tokens next_element_tokens block_tokens declaration_tokens else_if_tokens if_clause_tokens
