-- The depth of each kind of node.
use Rattle.std.proofs.Common.{◌≡◌, ℕ, ◌+◌, max, List, map, Option, ap, sym, ◌∙◌}
use Rattle.esb_token.specs.declared.token.Token.{Token}
use Rattle.esb_tree.specs.declared.classes.ClassElement.TheOpen.{CaseClause-F, ClassElement-F, ConciseBody-F, Element-F, Else-F, Expression-F, Finalizer-F, ForStart-F, Handler-F, Heritage-F, Link-F, MaybeExpression-F, PropertyName-F, Statement-F}
use Rattle.esb_tree.specs.declared.classes.ClassElement.TheFolds.{fold-roll-ClassElement, fold-roll-Heritage, fold-roll-Expression, fold-roll-Link, fold-roll-ConciseBody, fold-roll-Element, fold-roll-PropertyName, fold-roll-CaseClause, fold-roll-Else, fold-roll-Finalizer, fold-roll-ForStart, fold-roll-Handler, fold-roll-MaybeExpression, fold-roll-Statement, fold-roll-Class, fold-roll-Operand, fold-roll-Substitution, fold-roll-Substitutions, fold-roll-Function, fold-roll-Method, fold-roll-Bracketed, fold-roll-Elements, fold-roll-NextElement, fold-roll-Block, fold-roll-Declaration, fold-roll-ElseIf, fold-roll-IfClause}
use Rattle.esb_tree.specs.declared.statements.CaseClause.{CaseClause}
use Rattle.esb_tree.specs.declared.statements.CaseClause.TheVariants as cc
use Rattle.esb_tree.specs.declared.classes.ClassElement.{ClassElement}
use Rattle.esb_tree.specs.declared.classes.ClassElement.TheVariants as ce
use Rattle.esb_tree.specs.declared.functions.ConciseBody.{ConciseBody}
use Rattle.esb_tree.specs.declared.functions.ConciseBody.TheVariants as cb
use Rattle.esb_tree.specs.declared.patterns.Element.{Element}
use Rattle.esb_tree.specs.declared.patterns.Element.TheVariants as el
use Rattle.esb_tree.specs.declared.statements.Else.{Else}
use Rattle.esb_tree.specs.declared.statements.Else.TheVariants as ot
use Rattle.esb_tree.specs.declared.expressions.Expression.{Expression}
use Rattle.esb_tree.specs.declared.expressions.Expression.TheVariants as e
use Rattle.esb_tree.specs.declared.statements.Finalizer.{Finalizer}
use Rattle.esb_tree.specs.declared.statements.Finalizer.TheVariants as fi
use Rattle.esb_tree.specs.declared.statements.ForStart.{ForStart}
use Rattle.esb_tree.specs.declared.statements.ForStart.TheVariants as fs
use Rattle.esb_tree.specs.declared.statements.Handler.{Handler}
use Rattle.esb_tree.specs.declared.statements.Handler.TheVariants as ha
use Rattle.esb_tree.specs.declared.classes.Heritage.{Heritage}
use Rattle.esb_tree.specs.declared.classes.Heritage.TheVariants as he
use Rattle.esb_tree.specs.declared.expressions.Link.{Link}
use Rattle.esb_tree.specs.declared.expressions.Link.TheVariants as l
use Rattle.esb_tree.specs.declared.statements.MaybeExpression.{MaybeExpression}
use Rattle.esb_tree.specs.declared.statements.MaybeExpression.TheVariants as me
use Rattle.esb_tree.specs.declared.patterns.PropertyName.{PropertyName}
use Rattle.esb_tree.specs.declared.patterns.PropertyName.TheVariants as pn
use Rattle.esb_tree.specs.declared.statements.Statement.{Statement}
use Rattle.esb_tree.specs.declared.statements.Statement.TheVariants as s
use Rattle.esb_tree.specs.declared.statements.Block.{Block, roll-Block, out-Block, roll-out-Block}
use Rattle.esb_tree.specs.declared.patterns.Bracketed.{Bracketed, roll-Bracketed, out-Bracketed, roll-out-Bracketed}
use Rattle.esb_tree.specs.declared.classes.Class.{Class, roll-Class, out-Class, roll-out-Class}
use Rattle.esb_tree.specs.declared.statements.Declaration.{Declaration, roll-Declaration, out-Declaration, roll-out-Declaration}
use Rattle.esb_tree.specs.declared.patterns.Elements.{Elements, roll-Elements, out-Elements, roll-out-Elements}
use Rattle.esb_tree.specs.declared.statements.ElseIf.{ElseIf, roll-ElseIf, out-ElseIf, roll-out-ElseIf}
use Rattle.esb_tree.specs.declared.functions.Function.{Function, roll-Function, out-Function, roll-out-Function}
use Rattle.esb_tree.specs.declared.statements.IfClause.{IfClause, roll-IfClause, out-IfClause, roll-out-IfClause}
use Rattle.esb_tree.specs.declared.functions.Method.{Method, roll-Method, out-Method, roll-out-Method}
use Rattle.esb_tree.specs.declared.patterns.NextElement.{NextElement, roll-NextElement, out-NextElement, roll-out-NextElement}
use Rattle.esb_tree.specs.declared.expressions.Operand.{Operand, roll-Operand, out-Operand, roll-out-Operand}
use Rattle.esb_tree.specs.declared.expressions.Substitution.{Substitution, roll-Substitution, out-Substitution, roll-out-Substitution}
use Rattle.esb_tree.specs.declared.expressions.Substitutions.{Substitutions, roll-Substitutions, out-Substitutions, roll-out-Substitutions}
use Rattle.esb_tree.specs.Levels.{most, class_element_depth, heritage_depth, expression_depth, link_depth, concise_body_depth, element_depth, property_name_depth, case_clause_depth, else_depth, finalizer_depth, for_start_depth, handler_depth, maybe_expression_depth, statement_depth, class_depth, operand_depth, substitution_depth, substitutions_depth, function_depth, method_depth, bracketed_depth, elements_depth, next_element_depth, block_depth, declaration_depth, else_if_depth, if_clause_depth, depth_of_class_element, depth_of_heritage, depth_of_expression, depth_of_link, depth_of_concise_body, depth_of_element, depth_of_property_name, depth_of_case_clause, depth_of_else, depth_of_finalizer, depth_of_for_start, depth_of_handler, depth_of_maybe_expression, depth_of_statement, depth_of_class, depth_of_operand, depth_of_substitution, depth_of_substitutions, depth_of_function, depth_of_method, depth_of_bracketed, depth_of_elements, depth_of_next_element, depth_of_block, depth_of_declaration, depth_of_else_if, depth_of_if_clause}

pub levels_ClassMethod : (word : Option Token) (method : Method) → depth_of_class_element (ce.ClassMethod word method) ≡ depth_of_method method
unfolding depth_of_class_element depth_of_method
levels_ClassMethod word method = ap (depth_of_class_element) (sym (ce.rolls-ClassMethod word method)) ∙ fold-roll-ClassElement ℕ ℕ ℕ ℕ ℕ ℕ ℕ ℕ ℕ ℕ ℕ ℕ ℕ ℕ ℕ ℕ ℕ ℕ ℕ ℕ ℕ ℕ ℕ ℕ ℕ ℕ ℕ class_element_depth heritage_depth expression_depth link_depth concise_body_depth element_depth property_name_depth case_clause_depth else_depth finalizer_depth for_start_depth handler_depth maybe_expression_depth statement_depth class_depth operand_depth substitution_depth substitutions_depth function_depth method_depth bracketed_depth elements_depth next_element_depth block_depth declaration_depth else_if_depth if_clause_depth (ClassElement-F.ClassMethod word method)

pub levels_is_ClassMethod : (y : ClassElement) (word : Option Token) (method : Method) → y ≡ ce.ClassMethod word method → depth_of_class_element y ≡ depth_of_method method
levels_is_ClassMethod y word method h = ap (depth_of_class_element) h ∙ (levels_ClassMethod word method)

pub levels_EmptyElement : (semicolon : Token) → depth_of_class_element (ce.EmptyElement semicolon) ≡ 0
unfolding depth_of_class_element
levels_EmptyElement semicolon = ap (depth_of_class_element) (sym (ce.rolls-EmptyElement semicolon)) ∙ fold-roll-ClassElement ℕ ℕ ℕ ℕ ℕ ℕ ℕ ℕ ℕ ℕ ℕ ℕ ℕ ℕ ℕ ℕ ℕ ℕ ℕ ℕ ℕ ℕ ℕ ℕ ℕ ℕ ℕ class_element_depth heritage_depth expression_depth link_depth concise_body_depth element_depth property_name_depth case_clause_depth else_depth finalizer_depth for_start_depth handler_depth maybe_expression_depth statement_depth class_depth operand_depth substitution_depth substitutions_depth function_depth method_depth bracketed_depth elements_depth next_element_depth block_depth declaration_depth else_if_depth if_clause_depth (ClassElement-F.EmptyElement semicolon)

pub levels_is_EmptyElement : (y : ClassElement) (semicolon : Token) → y ≡ ce.EmptyElement semicolon → depth_of_class_element y ≡ 0
levels_is_EmptyElement y semicolon h = ap (depth_of_class_element) h ∙ (levels_EmptyElement semicolon)

pub levels_NoHeritage : depth_of_heritage (he.NoHeritage) ≡ 0
unfolding depth_of_heritage
levels_NoHeritage = ap (depth_of_heritage) (sym (he.rolls-NoHeritage)) ∙ fold-roll-Heritage ℕ ℕ ℕ ℕ ℕ ℕ ℕ ℕ ℕ ℕ ℕ ℕ ℕ ℕ ℕ ℕ ℕ ℕ ℕ ℕ ℕ ℕ ℕ ℕ ℕ ℕ ℕ class_element_depth heritage_depth expression_depth link_depth concise_body_depth element_depth property_name_depth case_clause_depth else_depth finalizer_depth for_start_depth handler_depth maybe_expression_depth statement_depth class_depth operand_depth substitution_depth substitutions_depth function_depth method_depth bracketed_depth elements_depth next_element_depth block_depth declaration_depth else_if_depth if_clause_depth (Heritage-F.NoHeritage)

pub levels_is_NoHeritage : (y : Heritage) → y ≡ he.NoHeritage → depth_of_heritage y ≡ 0
levels_is_NoHeritage y h = ap (depth_of_heritage) h ∙ levels_NoHeritage

pub levels_Extends : (word : Token) (x : Expression) → depth_of_heritage (he.Extends word x) ≡ depth_of_expression x
unfolding depth_of_heritage depth_of_expression
levels_Extends word x = ap (depth_of_heritage) (sym (he.rolls-Extends word x)) ∙ fold-roll-Heritage ℕ ℕ ℕ ℕ ℕ ℕ ℕ ℕ ℕ ℕ ℕ ℕ ℕ ℕ ℕ ℕ ℕ ℕ ℕ ℕ ℕ ℕ ℕ ℕ ℕ ℕ ℕ class_element_depth heritage_depth expression_depth link_depth concise_body_depth element_depth property_name_depth case_clause_depth else_depth finalizer_depth for_start_depth handler_depth maybe_expression_depth statement_depth class_depth operand_depth substitution_depth substitutions_depth function_depth method_depth bracketed_depth elements_depth next_element_depth block_depth declaration_depth else_if_depth if_clause_depth (Heritage-F.Extends word x)

pub levels_is_Extends : (y : Heritage) (word : Token) (x : Expression) → y ≡ he.Extends word x → depth_of_heritage y ≡ depth_of_expression x
levels_is_Extends y word x h = ap (depth_of_heritage) h ∙ (levels_Extends word x)

pub levels_Primary : (t : Token) → depth_of_expression (e.Primary t) ≡ 0
unfolding depth_of_expression
levels_Primary t = ap (depth_of_expression) (sym (e.rolls-Primary t)) ∙ fold-roll-Expression ℕ ℕ ℕ ℕ ℕ ℕ ℕ ℕ ℕ ℕ ℕ ℕ ℕ ℕ ℕ ℕ ℕ ℕ ℕ ℕ ℕ ℕ ℕ ℕ ℕ ℕ ℕ class_element_depth heritage_depth expression_depth link_depth concise_body_depth element_depth property_name_depth case_clause_depth else_depth finalizer_depth for_start_depth handler_depth maybe_expression_depth statement_depth class_depth operand_depth substitution_depth substitutions_depth function_depth method_depth bracketed_depth elements_depth next_element_depth block_depth declaration_depth else_if_depth if_clause_depth (Expression-F.Primary t)

pub levels_is_Primary : (y : Expression) (t : Token) → y ≡ e.Primary t → depth_of_expression y ≡ 0
levels_is_Primary y t h = ap (depth_of_expression) h ∙ (levels_Primary t)

pub levels_MetaProperty : (word : Token) (dot : Token) (name : Token) → depth_of_expression (e.MetaProperty word dot name) ≡ 1
unfolding depth_of_expression
levels_MetaProperty word dot name = ap (depth_of_expression) (sym (e.rolls-MetaProperty word dot name)) ∙ fold-roll-Expression ℕ ℕ ℕ ℕ ℕ ℕ ℕ ℕ ℕ ℕ ℕ ℕ ℕ ℕ ℕ ℕ ℕ ℕ ℕ ℕ ℕ ℕ ℕ ℕ ℕ ℕ ℕ class_element_depth heritage_depth expression_depth link_depth concise_body_depth element_depth property_name_depth case_clause_depth else_depth finalizer_depth for_start_depth handler_depth maybe_expression_depth statement_depth class_depth operand_depth substitution_depth substitutions_depth function_depth method_depth bracketed_depth elements_depth next_element_depth block_depth declaration_depth else_if_depth if_clause_depth (Expression-F.MetaProperty word dot name)

pub levels_is_MetaProperty : (y : Expression) (word : Token) (dot : Token) (name : Token) → y ≡ e.MetaProperty word dot name → depth_of_expression y ≡ 1
levels_is_MetaProperty y word dot name h = ap (depth_of_expression) h ∙ (levels_MetaProperty word dot name)

pub levels_ArrayLiteral : (list : Bracketed) → depth_of_expression (e.ArrayLiteral list) ≡ depth_of_bracketed list + 1
unfolding depth_of_expression depth_of_bracketed
levels_ArrayLiteral list = ap (depth_of_expression) (sym (e.rolls-ArrayLiteral list)) ∙ fold-roll-Expression ℕ ℕ ℕ ℕ ℕ ℕ ℕ ℕ ℕ ℕ ℕ ℕ ℕ ℕ ℕ ℕ ℕ ℕ ℕ ℕ ℕ ℕ ℕ ℕ ℕ ℕ ℕ class_element_depth heritage_depth expression_depth link_depth concise_body_depth element_depth property_name_depth case_clause_depth else_depth finalizer_depth for_start_depth handler_depth maybe_expression_depth statement_depth class_depth operand_depth substitution_depth substitutions_depth function_depth method_depth bracketed_depth elements_depth next_element_depth block_depth declaration_depth else_if_depth if_clause_depth (Expression-F.ArrayLiteral list)

pub levels_is_ArrayLiteral : (y : Expression) (list : Bracketed) → y ≡ e.ArrayLiteral list → depth_of_expression y ≡ depth_of_bracketed list + 1
levels_is_ArrayLiteral y list h = ap (depth_of_expression) h ∙ (levels_ArrayLiteral list)

pub levels_ObjectLiteral : (list : Bracketed) → depth_of_expression (e.ObjectLiteral list) ≡ depth_of_bracketed list + 1
unfolding depth_of_expression depth_of_bracketed
levels_ObjectLiteral list = ap (depth_of_expression) (sym (e.rolls-ObjectLiteral list)) ∙ fold-roll-Expression ℕ ℕ ℕ ℕ ℕ ℕ ℕ ℕ ℕ ℕ ℕ ℕ ℕ ℕ ℕ ℕ ℕ ℕ ℕ ℕ ℕ ℕ ℕ ℕ ℕ ℕ ℕ class_element_depth heritage_depth expression_depth link_depth concise_body_depth element_depth property_name_depth case_clause_depth else_depth finalizer_depth for_start_depth handler_depth maybe_expression_depth statement_depth class_depth operand_depth substitution_depth substitutions_depth function_depth method_depth bracketed_depth elements_depth next_element_depth block_depth declaration_depth else_if_depth if_clause_depth (Expression-F.ObjectLiteral list)

pub levels_is_ObjectLiteral : (y : Expression) (list : Bracketed) → y ≡ e.ObjectLiteral list → depth_of_expression y ≡ depth_of_bracketed list + 1
levels_is_ObjectLiteral y list h = ap (depth_of_expression) h ∙ (levels_ObjectLiteral list)

pub levels_Parenthesized : (list : Bracketed) → depth_of_expression (e.Parenthesized list) ≡ depth_of_bracketed list + 1
unfolding depth_of_expression depth_of_bracketed
levels_Parenthesized list = ap (depth_of_expression) (sym (e.rolls-Parenthesized list)) ∙ fold-roll-Expression ℕ ℕ ℕ ℕ ℕ ℕ ℕ ℕ ℕ ℕ ℕ ℕ ℕ ℕ ℕ ℕ ℕ ℕ ℕ ℕ ℕ ℕ ℕ ℕ ℕ ℕ ℕ class_element_depth heritage_depth expression_depth link_depth concise_body_depth element_depth property_name_depth case_clause_depth else_depth finalizer_depth for_start_depth handler_depth maybe_expression_depth statement_depth class_depth operand_depth substitution_depth substitutions_depth function_depth method_depth bracketed_depth elements_depth next_element_depth block_depth declaration_depth else_if_depth if_clause_depth (Expression-F.Parenthesized list)

pub levels_is_Parenthesized : (y : Expression) (list : Bracketed) → y ≡ e.Parenthesized list → depth_of_expression y ≡ depth_of_bracketed list + 1
levels_is_Parenthesized y list h = ap (depth_of_expression) h ∙ (levels_Parenthesized list)

pub levels_TemplateLiteral : (template : Substitutions) → depth_of_expression (e.TemplateLiteral template) ≡ depth_of_substitutions template + 1
unfolding depth_of_expression depth_of_substitutions
levels_TemplateLiteral template = ap (depth_of_expression) (sym (e.rolls-TemplateLiteral template)) ∙ fold-roll-Expression ℕ ℕ ℕ ℕ ℕ ℕ ℕ ℕ ℕ ℕ ℕ ℕ ℕ ℕ ℕ ℕ ℕ ℕ ℕ ℕ ℕ ℕ ℕ ℕ ℕ ℕ ℕ class_element_depth heritage_depth expression_depth link_depth concise_body_depth element_depth property_name_depth case_clause_depth else_depth finalizer_depth for_start_depth handler_depth maybe_expression_depth statement_depth class_depth operand_depth substitution_depth substitutions_depth function_depth method_depth bracketed_depth elements_depth next_element_depth block_depth declaration_depth else_if_depth if_clause_depth (Expression-F.TemplateLiteral template)

pub levels_is_TemplateLiteral : (y : Expression) (template : Substitutions) → y ≡ e.TemplateLiteral template → depth_of_expression y ≡ depth_of_substitutions template + 1
levels_is_TemplateLiteral y template h = ap (depth_of_expression) h ∙ (levels_TemplateLiteral template)

pub levels_FunctionExpression : (function : Function) → depth_of_expression (e.FunctionExpression function) ≡ depth_of_function function + 1
unfolding depth_of_expression depth_of_function
levels_FunctionExpression function = ap (depth_of_expression) (sym (e.rolls-FunctionExpression function)) ∙ fold-roll-Expression ℕ ℕ ℕ ℕ ℕ ℕ ℕ ℕ ℕ ℕ ℕ ℕ ℕ ℕ ℕ ℕ ℕ ℕ ℕ ℕ ℕ ℕ ℕ ℕ ℕ ℕ ℕ class_element_depth heritage_depth expression_depth link_depth concise_body_depth element_depth property_name_depth case_clause_depth else_depth finalizer_depth for_start_depth handler_depth maybe_expression_depth statement_depth class_depth operand_depth substitution_depth substitutions_depth function_depth method_depth bracketed_depth elements_depth next_element_depth block_depth declaration_depth else_if_depth if_clause_depth (Expression-F.FunctionExpression function)

pub levels_is_FunctionExpression : (y : Expression) (function : Function) → y ≡ e.FunctionExpression function → depth_of_expression y ≡ depth_of_function function + 1
levels_is_FunctionExpression y function h = ap (depth_of_expression) h ∙ (levels_FunctionExpression function)

pub levels_ClassExpression : (class : Class) → depth_of_expression (e.ClassExpression class) ≡ depth_of_class class + 1
unfolding depth_of_expression depth_of_class
levels_ClassExpression class = ap (depth_of_expression) (sym (e.rolls-ClassExpression class)) ∙ fold-roll-Expression ℕ ℕ ℕ ℕ ℕ ℕ ℕ ℕ ℕ ℕ ℕ ℕ ℕ ℕ ℕ ℕ ℕ ℕ ℕ ℕ ℕ ℕ ℕ ℕ ℕ ℕ ℕ class_element_depth heritage_depth expression_depth link_depth concise_body_depth element_depth property_name_depth case_clause_depth else_depth finalizer_depth for_start_depth handler_depth maybe_expression_depth statement_depth class_depth operand_depth substitution_depth substitutions_depth function_depth method_depth bracketed_depth elements_depth next_element_depth block_depth declaration_depth else_if_depth if_clause_depth (Expression-F.ClassExpression class)

pub levels_is_ClassExpression : (y : Expression) (class : Class) → y ≡ e.ClassExpression class → depth_of_expression y ≡ depth_of_class class + 1
levels_is_ClassExpression y class h = ap (depth_of_expression) h ∙ (levels_ClassExpression class)

pub levels_Member : (object : Expression) (links : List Link) → depth_of_expression (e.Member object links) ≡ max (depth_of_expression object) (most (map depth_of_link links)) + 1
unfolding depth_of_expression depth_of_link
levels_Member object links = ap (depth_of_expression) (sym (e.rolls-Member object links)) ∙ fold-roll-Expression ℕ ℕ ℕ ℕ ℕ ℕ ℕ ℕ ℕ ℕ ℕ ℕ ℕ ℕ ℕ ℕ ℕ ℕ ℕ ℕ ℕ ℕ ℕ ℕ ℕ ℕ ℕ class_element_depth heritage_depth expression_depth link_depth concise_body_depth element_depth property_name_depth case_clause_depth else_depth finalizer_depth for_start_depth handler_depth maybe_expression_depth statement_depth class_depth operand_depth substitution_depth substitutions_depth function_depth method_depth bracketed_depth elements_depth next_element_depth block_depth declaration_depth else_if_depth if_clause_depth (Expression-F.Member object links)

pub levels_is_Member : (y : Expression) (object : Expression) (links : List Link) → y ≡ e.Member object links → depth_of_expression y ≡ max (depth_of_expression object) (most (map depth_of_link links)) + 1
levels_is_Member y object links h = ap (depth_of_expression) h ∙ (levels_Member object links)

pub levels_New : (word : Token) (callee : Expression) (arguments : Bracketed) → depth_of_expression (e.New word callee arguments) ≡ max (depth_of_expression callee) (depth_of_bracketed arguments) + 1
unfolding depth_of_expression depth_of_bracketed
levels_New word callee arguments = ap (depth_of_expression) (sym (e.rolls-New word callee arguments)) ∙ fold-roll-Expression ℕ ℕ ℕ ℕ ℕ ℕ ℕ ℕ ℕ ℕ ℕ ℕ ℕ ℕ ℕ ℕ ℕ ℕ ℕ ℕ ℕ ℕ ℕ ℕ ℕ ℕ ℕ class_element_depth heritage_depth expression_depth link_depth concise_body_depth element_depth property_name_depth case_clause_depth else_depth finalizer_depth for_start_depth handler_depth maybe_expression_depth statement_depth class_depth operand_depth substitution_depth substitutions_depth function_depth method_depth bracketed_depth elements_depth next_element_depth block_depth declaration_depth else_if_depth if_clause_depth (Expression-F.New word callee arguments)

pub levels_is_New : (y : Expression) (word : Token) (callee : Expression) (arguments : Bracketed) → y ≡ e.New word callee arguments → depth_of_expression y ≡ max (depth_of_expression callee) (depth_of_bracketed arguments) + 1
levels_is_New y word callee arguments h = ap (depth_of_expression) h ∙ (levels_New word callee arguments)

pub levels_NewPlain : (word : Token) (callee : Expression) → depth_of_expression (e.NewPlain word callee) ≡ depth_of_expression callee + 1
unfolding depth_of_expression
levels_NewPlain word callee = ap (depth_of_expression) (sym (e.rolls-NewPlain word callee)) ∙ fold-roll-Expression ℕ ℕ ℕ ℕ ℕ ℕ ℕ ℕ ℕ ℕ ℕ ℕ ℕ ℕ ℕ ℕ ℕ ℕ ℕ ℕ ℕ ℕ ℕ ℕ ℕ ℕ ℕ class_element_depth heritage_depth expression_depth link_depth concise_body_depth element_depth property_name_depth case_clause_depth else_depth finalizer_depth for_start_depth handler_depth maybe_expression_depth statement_depth class_depth operand_depth substitution_depth substitutions_depth function_depth method_depth bracketed_depth elements_depth next_element_depth block_depth declaration_depth else_if_depth if_clause_depth (Expression-F.NewPlain word callee)

pub levels_is_NewPlain : (y : Expression) (word : Token) (callee : Expression) → y ≡ e.NewPlain word callee → depth_of_expression y ≡ depth_of_expression callee + 1
levels_is_NewPlain y word callee h = ap (depth_of_expression) h ∙ (levels_NewPlain word callee)

pub levels_ImportCall : (word : Token) (begin : Token) (x : Expression) (ending : Token) → depth_of_expression (e.ImportCall word begin x ending) ≡ depth_of_expression x + 1
unfolding depth_of_expression
levels_ImportCall word begin x ending = ap (depth_of_expression) (sym (e.rolls-ImportCall word begin x ending)) ∙ fold-roll-Expression ℕ ℕ ℕ ℕ ℕ ℕ ℕ ℕ ℕ ℕ ℕ ℕ ℕ ℕ ℕ ℕ ℕ ℕ ℕ ℕ ℕ ℕ ℕ ℕ ℕ ℕ ℕ class_element_depth heritage_depth expression_depth link_depth concise_body_depth element_depth property_name_depth case_clause_depth else_depth finalizer_depth for_start_depth handler_depth maybe_expression_depth statement_depth class_depth operand_depth substitution_depth substitutions_depth function_depth method_depth bracketed_depth elements_depth next_element_depth block_depth declaration_depth else_if_depth if_clause_depth (Expression-F.ImportCall word begin x ending)

pub levels_is_ImportCall : (y : Expression) (word : Token) (begin : Token) (x : Expression) (ending : Token) → y ≡ e.ImportCall word begin x ending → depth_of_expression y ≡ depth_of_expression x + 1
levels_is_ImportCall y word begin x ending h = ap (depth_of_expression) h ∙ (levels_ImportCall word begin x ending)

pub levels_PrefixUpdate : (operator : Token) (x : Expression) → depth_of_expression (e.PrefixUpdate operator x) ≡ depth_of_expression x + 1
unfolding depth_of_expression
levels_PrefixUpdate operator x = ap (depth_of_expression) (sym (e.rolls-PrefixUpdate operator x)) ∙ fold-roll-Expression ℕ ℕ ℕ ℕ ℕ ℕ ℕ ℕ ℕ ℕ ℕ ℕ ℕ ℕ ℕ ℕ ℕ ℕ ℕ ℕ ℕ ℕ ℕ ℕ ℕ ℕ ℕ class_element_depth heritage_depth expression_depth link_depth concise_body_depth element_depth property_name_depth case_clause_depth else_depth finalizer_depth for_start_depth handler_depth maybe_expression_depth statement_depth class_depth operand_depth substitution_depth substitutions_depth function_depth method_depth bracketed_depth elements_depth next_element_depth block_depth declaration_depth else_if_depth if_clause_depth (Expression-F.PrefixUpdate operator x)

pub levels_is_PrefixUpdate : (y : Expression) (operator : Token) (x : Expression) → y ≡ e.PrefixUpdate operator x → depth_of_expression y ≡ depth_of_expression x + 1
levels_is_PrefixUpdate y operator x h = ap (depth_of_expression) h ∙ (levels_PrefixUpdate operator x)

pub levels_PostfixUpdate : (x : Expression) (operator : Token) → depth_of_expression (e.PostfixUpdate x operator) ≡ depth_of_expression x + 1
unfolding depth_of_expression
levels_PostfixUpdate x operator = ap (depth_of_expression) (sym (e.rolls-PostfixUpdate x operator)) ∙ fold-roll-Expression ℕ ℕ ℕ ℕ ℕ ℕ ℕ ℕ ℕ ℕ ℕ ℕ ℕ ℕ ℕ ℕ ℕ ℕ ℕ ℕ ℕ ℕ ℕ ℕ ℕ ℕ ℕ class_element_depth heritage_depth expression_depth link_depth concise_body_depth element_depth property_name_depth case_clause_depth else_depth finalizer_depth for_start_depth handler_depth maybe_expression_depth statement_depth class_depth operand_depth substitution_depth substitutions_depth function_depth method_depth bracketed_depth elements_depth next_element_depth block_depth declaration_depth else_if_depth if_clause_depth (Expression-F.PostfixUpdate x operator)

pub levels_is_PostfixUpdate : (y : Expression) (x : Expression) (operator : Token) → y ≡ e.PostfixUpdate x operator → depth_of_expression y ≡ depth_of_expression x + 1
levels_is_PostfixUpdate y x operator h = ap (depth_of_expression) h ∙ (levels_PostfixUpdate x operator)

pub levels_Unary : (operator : Token) (x : Expression) → depth_of_expression (e.Unary operator x) ≡ depth_of_expression x + 1
unfolding depth_of_expression
levels_Unary operator x = ap (depth_of_expression) (sym (e.rolls-Unary operator x)) ∙ fold-roll-Expression ℕ ℕ ℕ ℕ ℕ ℕ ℕ ℕ ℕ ℕ ℕ ℕ ℕ ℕ ℕ ℕ ℕ ℕ ℕ ℕ ℕ ℕ ℕ ℕ ℕ ℕ ℕ class_element_depth heritage_depth expression_depth link_depth concise_body_depth element_depth property_name_depth case_clause_depth else_depth finalizer_depth for_start_depth handler_depth maybe_expression_depth statement_depth class_depth operand_depth substitution_depth substitutions_depth function_depth method_depth bracketed_depth elements_depth next_element_depth block_depth declaration_depth else_if_depth if_clause_depth (Expression-F.Unary operator x)

pub levels_is_Unary : (y : Expression) (operator : Token) (x : Expression) → y ≡ e.Unary operator x → depth_of_expression y ≡ depth_of_expression x + 1
levels_is_Unary y operator x h = ap (depth_of_expression) h ∙ (levels_Unary operator x)

pub levels_Await : (word : Token) (x : Expression) → depth_of_expression (e.Await word x) ≡ depth_of_expression x + 1
unfolding depth_of_expression
levels_Await word x = ap (depth_of_expression) (sym (e.rolls-Await word x)) ∙ fold-roll-Expression ℕ ℕ ℕ ℕ ℕ ℕ ℕ ℕ ℕ ℕ ℕ ℕ ℕ ℕ ℕ ℕ ℕ ℕ ℕ ℕ ℕ ℕ ℕ ℕ ℕ ℕ ℕ class_element_depth heritage_depth expression_depth link_depth concise_body_depth element_depth property_name_depth case_clause_depth else_depth finalizer_depth for_start_depth handler_depth maybe_expression_depth statement_depth class_depth operand_depth substitution_depth substitutions_depth function_depth method_depth bracketed_depth elements_depth next_element_depth block_depth declaration_depth else_if_depth if_clause_depth (Expression-F.Await word x)

pub levels_is_Await : (y : Expression) (word : Token) (x : Expression) → y ≡ e.Await word x → depth_of_expression y ≡ depth_of_expression x + 1
levels_is_Await y word x h = ap (depth_of_expression) h ∙ (levels_Await word x)

pub levels_Binary : (first : Expression) (rest : List Operand) → depth_of_expression (e.Binary first rest) ≡ max (depth_of_expression first) (most (map depth_of_operand rest)) + 1
unfolding depth_of_expression depth_of_operand
levels_Binary first rest = ap (depth_of_expression) (sym (e.rolls-Binary first rest)) ∙ fold-roll-Expression ℕ ℕ ℕ ℕ ℕ ℕ ℕ ℕ ℕ ℕ ℕ ℕ ℕ ℕ ℕ ℕ ℕ ℕ ℕ ℕ ℕ ℕ ℕ ℕ ℕ ℕ ℕ class_element_depth heritage_depth expression_depth link_depth concise_body_depth element_depth property_name_depth case_clause_depth else_depth finalizer_depth for_start_depth handler_depth maybe_expression_depth statement_depth class_depth operand_depth substitution_depth substitutions_depth function_depth method_depth bracketed_depth elements_depth next_element_depth block_depth declaration_depth else_if_depth if_clause_depth (Expression-F.Binary first rest)

pub levels_is_Binary : (y : Expression) (first : Expression) (rest : List Operand) → y ≡ e.Binary first rest → depth_of_expression y ≡ max (depth_of_expression first) (most (map depth_of_operand rest)) + 1
levels_is_Binary y first rest h = ap (depth_of_expression) h ∙ (levels_Binary first rest)

pub levels_Conditional : (test : Expression) (question : Token) (x : Expression) (colon : Token) (other : Expression) → depth_of_expression (e.Conditional test question x colon other) ≡ max (depth_of_expression test) (max (depth_of_expression x) (depth_of_expression other)) + 1
unfolding depth_of_expression
levels_Conditional test question x colon other = ap (depth_of_expression) (sym (e.rolls-Conditional test question x colon other)) ∙ fold-roll-Expression ℕ ℕ ℕ ℕ ℕ ℕ ℕ ℕ ℕ ℕ ℕ ℕ ℕ ℕ ℕ ℕ ℕ ℕ ℕ ℕ ℕ ℕ ℕ ℕ ℕ ℕ ℕ class_element_depth heritage_depth expression_depth link_depth concise_body_depth element_depth property_name_depth case_clause_depth else_depth finalizer_depth for_start_depth handler_depth maybe_expression_depth statement_depth class_depth operand_depth substitution_depth substitutions_depth function_depth method_depth bracketed_depth elements_depth next_element_depth block_depth declaration_depth else_if_depth if_clause_depth (Expression-F.Conditional test question x colon other)

pub levels_is_Conditional : (y : Expression) (test : Expression) (question : Token) (x : Expression) (colon : Token) (other : Expression) → y ≡ e.Conditional test question x colon other → depth_of_expression y ≡ max (depth_of_expression test) (max (depth_of_expression x) (depth_of_expression other)) + 1
levels_is_Conditional y test question x colon other h = ap (depth_of_expression) h ∙ (levels_Conditional test question x colon other)

pub levels_Assignment : (target : Expression) (operator : Token) (x : Expression) → depth_of_expression (e.Assignment target operator x) ≡ max (depth_of_expression target) (depth_of_expression x) + 1
unfolding depth_of_expression
levels_Assignment target operator x = ap (depth_of_expression) (sym (e.rolls-Assignment target operator x)) ∙ fold-roll-Expression ℕ ℕ ℕ ℕ ℕ ℕ ℕ ℕ ℕ ℕ ℕ ℕ ℕ ℕ ℕ ℕ ℕ ℕ ℕ ℕ ℕ ℕ ℕ ℕ ℕ ℕ ℕ class_element_depth heritage_depth expression_depth link_depth concise_body_depth element_depth property_name_depth case_clause_depth else_depth finalizer_depth for_start_depth handler_depth maybe_expression_depth statement_depth class_depth operand_depth substitution_depth substitutions_depth function_depth method_depth bracketed_depth elements_depth next_element_depth block_depth declaration_depth else_if_depth if_clause_depth (Expression-F.Assignment target operator x)

pub levels_is_Assignment : (y : Expression) (target : Expression) (operator : Token) (x : Expression) → y ≡ e.Assignment target operator x → depth_of_expression y ≡ max (depth_of_expression target) (depth_of_expression x) + 1
levels_is_Assignment y target operator x h = ap (depth_of_expression) h ∙ (levels_Assignment target operator x)

pub levels_Arrow : (head : Expression) (arrow : Token) (body : ConciseBody) → depth_of_expression (e.Arrow head arrow body) ≡ max (depth_of_expression head) (depth_of_concise_body body) + 1
unfolding depth_of_expression depth_of_concise_body
levels_Arrow head arrow body = ap (depth_of_expression) (sym (e.rolls-Arrow head arrow body)) ∙ fold-roll-Expression ℕ ℕ ℕ ℕ ℕ ℕ ℕ ℕ ℕ ℕ ℕ ℕ ℕ ℕ ℕ ℕ ℕ ℕ ℕ ℕ ℕ ℕ ℕ ℕ ℕ ℕ ℕ class_element_depth heritage_depth expression_depth link_depth concise_body_depth element_depth property_name_depth case_clause_depth else_depth finalizer_depth for_start_depth handler_depth maybe_expression_depth statement_depth class_depth operand_depth substitution_depth substitutions_depth function_depth method_depth bracketed_depth elements_depth next_element_depth block_depth declaration_depth else_if_depth if_clause_depth (Expression-F.Arrow head arrow body)

pub levels_is_Arrow : (y : Expression) (head : Expression) (arrow : Token) (body : ConciseBody) → y ≡ e.Arrow head arrow body → depth_of_expression y ≡ max (depth_of_expression head) (depth_of_concise_body body) + 1
levels_is_Arrow y head arrow body h = ap (depth_of_expression) h ∙ (levels_Arrow head arrow body)

pub levels_AsyncArrow : (word : Token) (name : Token) (arrow : Token) (body : ConciseBody) → depth_of_expression (e.AsyncArrow word name arrow body) ≡ depth_of_concise_body body + 1
unfolding depth_of_expression depth_of_concise_body
levels_AsyncArrow word name arrow body = ap (depth_of_expression) (sym (e.rolls-AsyncArrow word name arrow body)) ∙ fold-roll-Expression ℕ ℕ ℕ ℕ ℕ ℕ ℕ ℕ ℕ ℕ ℕ ℕ ℕ ℕ ℕ ℕ ℕ ℕ ℕ ℕ ℕ ℕ ℕ ℕ ℕ ℕ ℕ class_element_depth heritage_depth expression_depth link_depth concise_body_depth element_depth property_name_depth case_clause_depth else_depth finalizer_depth for_start_depth handler_depth maybe_expression_depth statement_depth class_depth operand_depth substitution_depth substitutions_depth function_depth method_depth bracketed_depth elements_depth next_element_depth block_depth declaration_depth else_if_depth if_clause_depth (Expression-F.AsyncArrow word name arrow body)

pub levels_is_AsyncArrow : (y : Expression) (word : Token) (name : Token) (arrow : Token) (body : ConciseBody) → y ≡ e.AsyncArrow word name arrow body → depth_of_expression y ≡ depth_of_concise_body body + 1
levels_is_AsyncArrow y word name arrow body h = ap (depth_of_expression) h ∙ (levels_AsyncArrow word name arrow body)

pub levels_Yield : (word : Token) → depth_of_expression (e.Yield word) ≡ 1
unfolding depth_of_expression
levels_Yield word = ap (depth_of_expression) (sym (e.rolls-Yield word)) ∙ fold-roll-Expression ℕ ℕ ℕ ℕ ℕ ℕ ℕ ℕ ℕ ℕ ℕ ℕ ℕ ℕ ℕ ℕ ℕ ℕ ℕ ℕ ℕ ℕ ℕ ℕ ℕ ℕ ℕ class_element_depth heritage_depth expression_depth link_depth concise_body_depth element_depth property_name_depth case_clause_depth else_depth finalizer_depth for_start_depth handler_depth maybe_expression_depth statement_depth class_depth operand_depth substitution_depth substitutions_depth function_depth method_depth bracketed_depth elements_depth next_element_depth block_depth declaration_depth else_if_depth if_clause_depth (Expression-F.Yield word)

pub levels_is_Yield : (y : Expression) (word : Token) → y ≡ e.Yield word → depth_of_expression y ≡ 1
levels_is_Yield y word h = ap (depth_of_expression) h ∙ (levels_Yield word)

pub levels_YieldValue : (word : Token) (x : Expression) → depth_of_expression (e.YieldValue word x) ≡ depth_of_expression x + 1
unfolding depth_of_expression
levels_YieldValue word x = ap (depth_of_expression) (sym (e.rolls-YieldValue word x)) ∙ fold-roll-Expression ℕ ℕ ℕ ℕ ℕ ℕ ℕ ℕ ℕ ℕ ℕ ℕ ℕ ℕ ℕ ℕ ℕ ℕ ℕ ℕ ℕ ℕ ℕ ℕ ℕ ℕ ℕ class_element_depth heritage_depth expression_depth link_depth concise_body_depth element_depth property_name_depth case_clause_depth else_depth finalizer_depth for_start_depth handler_depth maybe_expression_depth statement_depth class_depth operand_depth substitution_depth substitutions_depth function_depth method_depth bracketed_depth elements_depth next_element_depth block_depth declaration_depth else_if_depth if_clause_depth (Expression-F.YieldValue word x)

pub levels_is_YieldValue : (y : Expression) (word : Token) (x : Expression) → y ≡ e.YieldValue word x → depth_of_expression y ≡ depth_of_expression x + 1
levels_is_YieldValue y word x h = ap (depth_of_expression) h ∙ (levels_YieldValue word x)

pub levels_YieldEach : (word : Token) (star : Token) (x : Expression) → depth_of_expression (e.YieldEach word star x) ≡ depth_of_expression x + 1
unfolding depth_of_expression
levels_YieldEach word star x = ap (depth_of_expression) (sym (e.rolls-YieldEach word star x)) ∙ fold-roll-Expression ℕ ℕ ℕ ℕ ℕ ℕ ℕ ℕ ℕ ℕ ℕ ℕ ℕ ℕ ℕ ℕ ℕ ℕ ℕ ℕ ℕ ℕ ℕ ℕ ℕ ℕ ℕ class_element_depth heritage_depth expression_depth link_depth concise_body_depth element_depth property_name_depth case_clause_depth else_depth finalizer_depth for_start_depth handler_depth maybe_expression_depth statement_depth class_depth operand_depth substitution_depth substitutions_depth function_depth method_depth bracketed_depth elements_depth next_element_depth block_depth declaration_depth else_if_depth if_clause_depth (Expression-F.YieldEach word star x)

pub levels_is_YieldEach : (y : Expression) (word : Token) (star : Token) (x : Expression) → y ≡ e.YieldEach word star x → depth_of_expression y ≡ depth_of_expression x + 1
levels_is_YieldEach y word star x h = ap (depth_of_expression) h ∙ (levels_YieldEach word star x)

pub levels_Dot : (dot : Token) (name : Token) → depth_of_link (l.Dot dot name) ≡ 0
unfolding depth_of_link
levels_Dot dot name = ap (depth_of_link) (sym (l.rolls-Dot dot name)) ∙ fold-roll-Link ℕ ℕ ℕ ℕ ℕ ℕ ℕ ℕ ℕ ℕ ℕ ℕ ℕ ℕ ℕ ℕ ℕ ℕ ℕ ℕ ℕ ℕ ℕ ℕ ℕ ℕ ℕ class_element_depth heritage_depth expression_depth link_depth concise_body_depth element_depth property_name_depth case_clause_depth else_depth finalizer_depth for_start_depth handler_depth maybe_expression_depth statement_depth class_depth operand_depth substitution_depth substitutions_depth function_depth method_depth bracketed_depth elements_depth next_element_depth block_depth declaration_depth else_if_depth if_clause_depth (Link-F.Dot dot name)

pub levels_is_Dot : (y : Link) (dot : Token) (name : Token) → y ≡ l.Dot dot name → depth_of_link y ≡ 0
levels_is_Dot y dot name h = ap (depth_of_link) h ∙ (levels_Dot dot name)

pub levels_Index : (begin : Token) (x : Expression) (ending : Token) → depth_of_link (l.Index begin x ending) ≡ depth_of_expression x
unfolding depth_of_expression depth_of_link
levels_Index begin x ending = ap (depth_of_link) (sym (l.rolls-Index begin x ending)) ∙ fold-roll-Link ℕ ℕ ℕ ℕ ℕ ℕ ℕ ℕ ℕ ℕ ℕ ℕ ℕ ℕ ℕ ℕ ℕ ℕ ℕ ℕ ℕ ℕ ℕ ℕ ℕ ℕ ℕ class_element_depth heritage_depth expression_depth link_depth concise_body_depth element_depth property_name_depth case_clause_depth else_depth finalizer_depth for_start_depth handler_depth maybe_expression_depth statement_depth class_depth operand_depth substitution_depth substitutions_depth function_depth method_depth bracketed_depth elements_depth next_element_depth block_depth declaration_depth else_if_depth if_clause_depth (Link-F.Index begin x ending)

pub levels_is_Index : (y : Link) (begin : Token) (x : Expression) (ending : Token) → y ≡ l.Index begin x ending → depth_of_link y ≡ depth_of_expression x
levels_is_Index y begin x ending h = ap (depth_of_link) h ∙ (levels_Index begin x ending)

pub levels_Call : (arguments : Bracketed) → depth_of_link (l.Call arguments) ≡ depth_of_bracketed arguments
unfolding depth_of_link depth_of_bracketed
levels_Call arguments = ap (depth_of_link) (sym (l.rolls-Call arguments)) ∙ fold-roll-Link ℕ ℕ ℕ ℕ ℕ ℕ ℕ ℕ ℕ ℕ ℕ ℕ ℕ ℕ ℕ ℕ ℕ ℕ ℕ ℕ ℕ ℕ ℕ ℕ ℕ ℕ ℕ class_element_depth heritage_depth expression_depth link_depth concise_body_depth element_depth property_name_depth case_clause_depth else_depth finalizer_depth for_start_depth handler_depth maybe_expression_depth statement_depth class_depth operand_depth substitution_depth substitutions_depth function_depth method_depth bracketed_depth elements_depth next_element_depth block_depth declaration_depth else_if_depth if_clause_depth (Link-F.Call arguments)

pub levels_is_Call : (y : Link) (arguments : Bracketed) → y ≡ l.Call arguments → depth_of_link y ≡ depth_of_bracketed arguments
levels_is_Call y arguments h = ap (depth_of_link) h ∙ (levels_Call arguments)

pub levels_Tagged : (template : Token) → depth_of_link (l.Tagged template) ≡ 0
unfolding depth_of_link
levels_Tagged template = ap (depth_of_link) (sym (l.rolls-Tagged template)) ∙ fold-roll-Link ℕ ℕ ℕ ℕ ℕ ℕ ℕ ℕ ℕ ℕ ℕ ℕ ℕ ℕ ℕ ℕ ℕ ℕ ℕ ℕ ℕ ℕ ℕ ℕ ℕ ℕ ℕ class_element_depth heritage_depth expression_depth link_depth concise_body_depth element_depth property_name_depth case_clause_depth else_depth finalizer_depth for_start_depth handler_depth maybe_expression_depth statement_depth class_depth operand_depth substitution_depth substitutions_depth function_depth method_depth bracketed_depth elements_depth next_element_depth block_depth declaration_depth else_if_depth if_clause_depth (Link-F.Tagged template)

pub levels_is_Tagged : (y : Link) (template : Token) → y ≡ l.Tagged template → depth_of_link y ≡ 0
levels_is_Tagged y template h = ap (depth_of_link) h ∙ (levels_Tagged template)

pub levels_TaggedTemplate : (template : Substitutions) → depth_of_link (l.TaggedTemplate template) ≡ depth_of_substitutions template
unfolding depth_of_link depth_of_substitutions
levels_TaggedTemplate template = ap (depth_of_link) (sym (l.rolls-TaggedTemplate template)) ∙ fold-roll-Link ℕ ℕ ℕ ℕ ℕ ℕ ℕ ℕ ℕ ℕ ℕ ℕ ℕ ℕ ℕ ℕ ℕ ℕ ℕ ℕ ℕ ℕ ℕ ℕ ℕ ℕ ℕ class_element_depth heritage_depth expression_depth link_depth concise_body_depth element_depth property_name_depth case_clause_depth else_depth finalizer_depth for_start_depth handler_depth maybe_expression_depth statement_depth class_depth operand_depth substitution_depth substitutions_depth function_depth method_depth bracketed_depth elements_depth next_element_depth block_depth declaration_depth else_if_depth if_clause_depth (Link-F.TaggedTemplate template)

pub levels_is_TaggedTemplate : (y : Link) (template : Substitutions) → y ≡ l.TaggedTemplate template → depth_of_link y ≡ depth_of_substitutions template
levels_is_TaggedTemplate y template h = ap (depth_of_link) h ∙ (levels_TaggedTemplate template)

pub levels_OptionalDot : (dot : Token) (name : Token) → depth_of_link (l.OptionalDot dot name) ≡ 0
unfolding depth_of_link
levels_OptionalDot dot name = ap (depth_of_link) (sym (l.rolls-OptionalDot dot name)) ∙ fold-roll-Link ℕ ℕ ℕ ℕ ℕ ℕ ℕ ℕ ℕ ℕ ℕ ℕ ℕ ℕ ℕ ℕ ℕ ℕ ℕ ℕ ℕ ℕ ℕ ℕ ℕ ℕ ℕ class_element_depth heritage_depth expression_depth link_depth concise_body_depth element_depth property_name_depth case_clause_depth else_depth finalizer_depth for_start_depth handler_depth maybe_expression_depth statement_depth class_depth operand_depth substitution_depth substitutions_depth function_depth method_depth bracketed_depth elements_depth next_element_depth block_depth declaration_depth else_if_depth if_clause_depth (Link-F.OptionalDot dot name)

pub levels_is_OptionalDot : (y : Link) (dot : Token) (name : Token) → y ≡ l.OptionalDot dot name → depth_of_link y ≡ 0
levels_is_OptionalDot y dot name h = ap (depth_of_link) h ∙ (levels_OptionalDot dot name)

pub levels_OptionalIndex : (dot : Token) (begin : Token) (x : Expression) (ending : Token) → depth_of_link (l.OptionalIndex dot begin x ending) ≡ depth_of_expression x
unfolding depth_of_expression depth_of_link
levels_OptionalIndex dot begin x ending = ap (depth_of_link) (sym (l.rolls-OptionalIndex dot begin x ending)) ∙ fold-roll-Link ℕ ℕ ℕ ℕ ℕ ℕ ℕ ℕ ℕ ℕ ℕ ℕ ℕ ℕ ℕ ℕ ℕ ℕ ℕ ℕ ℕ ℕ ℕ ℕ ℕ ℕ ℕ class_element_depth heritage_depth expression_depth link_depth concise_body_depth element_depth property_name_depth case_clause_depth else_depth finalizer_depth for_start_depth handler_depth maybe_expression_depth statement_depth class_depth operand_depth substitution_depth substitutions_depth function_depth method_depth bracketed_depth elements_depth next_element_depth block_depth declaration_depth else_if_depth if_clause_depth (Link-F.OptionalIndex dot begin x ending)

pub levels_is_OptionalIndex : (y : Link) (dot : Token) (begin : Token) (x : Expression) (ending : Token) → y ≡ l.OptionalIndex dot begin x ending → depth_of_link y ≡ depth_of_expression x
levels_is_OptionalIndex y dot begin x ending h = ap (depth_of_link) h ∙ (levels_OptionalIndex dot begin x ending)

pub levels_OptionalCall : (dot : Token) (arguments : Bracketed) → depth_of_link (l.OptionalCall dot arguments) ≡ depth_of_bracketed arguments
unfolding depth_of_link depth_of_bracketed
levels_OptionalCall dot arguments = ap (depth_of_link) (sym (l.rolls-OptionalCall dot arguments)) ∙ fold-roll-Link ℕ ℕ ℕ ℕ ℕ ℕ ℕ ℕ ℕ ℕ ℕ ℕ ℕ ℕ ℕ ℕ ℕ ℕ ℕ ℕ ℕ ℕ ℕ ℕ ℕ ℕ ℕ class_element_depth heritage_depth expression_depth link_depth concise_body_depth element_depth property_name_depth case_clause_depth else_depth finalizer_depth for_start_depth handler_depth maybe_expression_depth statement_depth class_depth operand_depth substitution_depth substitutions_depth function_depth method_depth bracketed_depth elements_depth next_element_depth block_depth declaration_depth else_if_depth if_clause_depth (Link-F.OptionalCall dot arguments)

pub levels_is_OptionalCall : (y : Link) (dot : Token) (arguments : Bracketed) → y ≡ l.OptionalCall dot arguments → depth_of_link y ≡ depth_of_bracketed arguments
levels_is_OptionalCall y dot arguments h = ap (depth_of_link) h ∙ (levels_OptionalCall dot arguments)

pub levels_ConciseValue : (x : Expression) → depth_of_concise_body (cb.ConciseValue x) ≡ depth_of_expression x
unfolding depth_of_expression depth_of_concise_body
levels_ConciseValue x = ap (depth_of_concise_body) (sym (cb.rolls-ConciseValue x)) ∙ fold-roll-ConciseBody ℕ ℕ ℕ ℕ ℕ ℕ ℕ ℕ ℕ ℕ ℕ ℕ ℕ ℕ ℕ ℕ ℕ ℕ ℕ ℕ ℕ ℕ ℕ ℕ ℕ ℕ ℕ class_element_depth heritage_depth expression_depth link_depth concise_body_depth element_depth property_name_depth case_clause_depth else_depth finalizer_depth for_start_depth handler_depth maybe_expression_depth statement_depth class_depth operand_depth substitution_depth substitutions_depth function_depth method_depth bracketed_depth elements_depth next_element_depth block_depth declaration_depth else_if_depth if_clause_depth (ConciseBody-F.ConciseValue x)

pub levels_is_ConciseValue : (y : ConciseBody) (x : Expression) → y ≡ cb.ConciseValue x → depth_of_concise_body y ≡ depth_of_expression x
levels_is_ConciseValue y x h = ap (depth_of_concise_body) h ∙ (levels_ConciseValue x)

pub levels_ConciseBlock : (block : Block) → depth_of_concise_body (cb.ConciseBlock block) ≡ depth_of_block block
unfolding depth_of_concise_body depth_of_block
levels_ConciseBlock block = ap (depth_of_concise_body) (sym (cb.rolls-ConciseBlock block)) ∙ fold-roll-ConciseBody ℕ ℕ ℕ ℕ ℕ ℕ ℕ ℕ ℕ ℕ ℕ ℕ ℕ ℕ ℕ ℕ ℕ ℕ ℕ ℕ ℕ ℕ ℕ ℕ ℕ ℕ ℕ class_element_depth heritage_depth expression_depth link_depth concise_body_depth element_depth property_name_depth case_clause_depth else_depth finalizer_depth for_start_depth handler_depth maybe_expression_depth statement_depth class_depth operand_depth substitution_depth substitutions_depth function_depth method_depth bracketed_depth elements_depth next_element_depth block_depth declaration_depth else_if_depth if_clause_depth (ConciseBody-F.ConciseBlock block)

pub levels_is_ConciseBlock : (y : ConciseBody) (block : Block) → y ≡ cb.ConciseBlock block → depth_of_concise_body y ≡ depth_of_block block
levels_is_ConciseBlock y block h = ap (depth_of_concise_body) h ∙ (levels_ConciseBlock block)

pub levels_Hole : depth_of_element (el.Hole) ≡ 0
unfolding depth_of_element
levels_Hole = ap (depth_of_element) (sym (el.rolls-Hole)) ∙ fold-roll-Element ℕ ℕ ℕ ℕ ℕ ℕ ℕ ℕ ℕ ℕ ℕ ℕ ℕ ℕ ℕ ℕ ℕ ℕ ℕ ℕ ℕ ℕ ℕ ℕ ℕ ℕ ℕ class_element_depth heritage_depth expression_depth link_depth concise_body_depth element_depth property_name_depth case_clause_depth else_depth finalizer_depth for_start_depth handler_depth maybe_expression_depth statement_depth class_depth operand_depth substitution_depth substitutions_depth function_depth method_depth bracketed_depth elements_depth next_element_depth block_depth declaration_depth else_if_depth if_clause_depth (Element-F.Hole)

pub levels_is_Hole : (y : Element) → y ≡ el.Hole → depth_of_element y ≡ 0
levels_is_Hole y h = ap (depth_of_element) h ∙ levels_Hole

pub levels_Value : (x : Expression) → depth_of_element (el.Value x) ≡ depth_of_expression x
unfolding depth_of_expression depth_of_element
levels_Value x = ap (depth_of_element) (sym (el.rolls-Value x)) ∙ fold-roll-Element ℕ ℕ ℕ ℕ ℕ ℕ ℕ ℕ ℕ ℕ ℕ ℕ ℕ ℕ ℕ ℕ ℕ ℕ ℕ ℕ ℕ ℕ ℕ ℕ ℕ ℕ ℕ class_element_depth heritage_depth expression_depth link_depth concise_body_depth element_depth property_name_depth case_clause_depth else_depth finalizer_depth for_start_depth handler_depth maybe_expression_depth statement_depth class_depth operand_depth substitution_depth substitutions_depth function_depth method_depth bracketed_depth elements_depth next_element_depth block_depth declaration_depth else_if_depth if_clause_depth (Element-F.Value x)

pub levels_is_Value : (y : Element) (x : Expression) → y ≡ el.Value x → depth_of_element y ≡ depth_of_expression x
levels_is_Value y x h = ap (depth_of_element) h ∙ (levels_Value x)

pub levels_Spread : (dots : Token) (x : Expression) → depth_of_element (el.Spread dots x) ≡ depth_of_expression x
unfolding depth_of_expression depth_of_element
levels_Spread dots x = ap (depth_of_element) (sym (el.rolls-Spread dots x)) ∙ fold-roll-Element ℕ ℕ ℕ ℕ ℕ ℕ ℕ ℕ ℕ ℕ ℕ ℕ ℕ ℕ ℕ ℕ ℕ ℕ ℕ ℕ ℕ ℕ ℕ ℕ ℕ ℕ ℕ class_element_depth heritage_depth expression_depth link_depth concise_body_depth element_depth property_name_depth case_clause_depth else_depth finalizer_depth for_start_depth handler_depth maybe_expression_depth statement_depth class_depth operand_depth substitution_depth substitutions_depth function_depth method_depth bracketed_depth elements_depth next_element_depth block_depth declaration_depth else_if_depth if_clause_depth (Element-F.Spread dots x)

pub levels_is_Spread : (y : Element) (dots : Token) (x : Expression) → y ≡ el.Spread dots x → depth_of_element y ≡ depth_of_expression x
levels_is_Spread y dots x h = ap (depth_of_element) h ∙ (levels_Spread dots x)

pub levels_Shorthand : (name : Token) → depth_of_element (el.Shorthand name) ≡ 0
unfolding depth_of_element
levels_Shorthand name = ap (depth_of_element) (sym (el.rolls-Shorthand name)) ∙ fold-roll-Element ℕ ℕ ℕ ℕ ℕ ℕ ℕ ℕ ℕ ℕ ℕ ℕ ℕ ℕ ℕ ℕ ℕ ℕ ℕ ℕ ℕ ℕ ℕ ℕ ℕ ℕ ℕ class_element_depth heritage_depth expression_depth link_depth concise_body_depth element_depth property_name_depth case_clause_depth else_depth finalizer_depth for_start_depth handler_depth maybe_expression_depth statement_depth class_depth operand_depth substitution_depth substitutions_depth function_depth method_depth bracketed_depth elements_depth next_element_depth block_depth declaration_depth else_if_depth if_clause_depth (Element-F.Shorthand name)

pub levels_is_Shorthand : (y : Element) (name : Token) → y ≡ el.Shorthand name → depth_of_element y ≡ 0
levels_is_Shorthand y name h = ap (depth_of_element) h ∙ (levels_Shorthand name)

pub levels_Initialized : (name : Token) (sign : Token) (x : Expression) → depth_of_element (el.Initialized name sign x) ≡ depth_of_expression x
unfolding depth_of_expression depth_of_element
levels_Initialized name sign x = ap (depth_of_element) (sym (el.rolls-Initialized name sign x)) ∙ fold-roll-Element ℕ ℕ ℕ ℕ ℕ ℕ ℕ ℕ ℕ ℕ ℕ ℕ ℕ ℕ ℕ ℕ ℕ ℕ ℕ ℕ ℕ ℕ ℕ ℕ ℕ ℕ ℕ class_element_depth heritage_depth expression_depth link_depth concise_body_depth element_depth property_name_depth case_clause_depth else_depth finalizer_depth for_start_depth handler_depth maybe_expression_depth statement_depth class_depth operand_depth substitution_depth substitutions_depth function_depth method_depth bracketed_depth elements_depth next_element_depth block_depth declaration_depth else_if_depth if_clause_depth (Element-F.Initialized name sign x)

pub levels_is_Initialized : (y : Element) (name : Token) (sign : Token) (x : Expression) → y ≡ el.Initialized name sign x → depth_of_element y ≡ depth_of_expression x
levels_is_Initialized y name sign x h = ap (depth_of_element) h ∙ (levels_Initialized name sign x)

pub levels_Property : (name : PropertyName) (colon : Token) (x : Expression) → depth_of_element (el.Property name colon x) ≡ max (depth_of_property_name name) (depth_of_expression x)
unfolding depth_of_expression depth_of_element depth_of_property_name
levels_Property name colon x = ap (depth_of_element) (sym (el.rolls-Property name colon x)) ∙ fold-roll-Element ℕ ℕ ℕ ℕ ℕ ℕ ℕ ℕ ℕ ℕ ℕ ℕ ℕ ℕ ℕ ℕ ℕ ℕ ℕ ℕ ℕ ℕ ℕ ℕ ℕ ℕ ℕ class_element_depth heritage_depth expression_depth link_depth concise_body_depth element_depth property_name_depth case_clause_depth else_depth finalizer_depth for_start_depth handler_depth maybe_expression_depth statement_depth class_depth operand_depth substitution_depth substitutions_depth function_depth method_depth bracketed_depth elements_depth next_element_depth block_depth declaration_depth else_if_depth if_clause_depth (Element-F.Property name colon x)

pub levels_is_Property : (y : Element) (name : PropertyName) (colon : Token) (x : Expression) → y ≡ el.Property name colon x → depth_of_element y ≡ max (depth_of_property_name name) (depth_of_expression x)
levels_is_Property y name colon x h = ap (depth_of_element) h ∙ (levels_Property name colon x)

pub levels_MethodProperty : (method : Method) → depth_of_element (el.MethodProperty method) ≡ depth_of_method method
unfolding depth_of_element depth_of_method
levels_MethodProperty method = ap (depth_of_element) (sym (el.rolls-MethodProperty method)) ∙ fold-roll-Element ℕ ℕ ℕ ℕ ℕ ℕ ℕ ℕ ℕ ℕ ℕ ℕ ℕ ℕ ℕ ℕ ℕ ℕ ℕ ℕ ℕ ℕ ℕ ℕ ℕ ℕ ℕ class_element_depth heritage_depth expression_depth link_depth concise_body_depth element_depth property_name_depth case_clause_depth else_depth finalizer_depth for_start_depth handler_depth maybe_expression_depth statement_depth class_depth operand_depth substitution_depth substitutions_depth function_depth method_depth bracketed_depth elements_depth next_element_depth block_depth declaration_depth else_if_depth if_clause_depth (Element-F.MethodProperty method)

pub levels_is_MethodProperty : (y : Element) (method : Method) → y ≡ el.MethodProperty method → depth_of_element y ≡ depth_of_method method
levels_is_MethodProperty y method h = ap (depth_of_element) h ∙ (levels_MethodProperty method)

pub levels_Named : (name : Token) → depth_of_property_name (pn.Named name) ≡ 0
unfolding depth_of_property_name
levels_Named name = ap (depth_of_property_name) (sym (pn.rolls-Named name)) ∙ fold-roll-PropertyName ℕ ℕ ℕ ℕ ℕ ℕ ℕ ℕ ℕ ℕ ℕ ℕ ℕ ℕ ℕ ℕ ℕ ℕ ℕ ℕ ℕ ℕ ℕ ℕ ℕ ℕ ℕ class_element_depth heritage_depth expression_depth link_depth concise_body_depth element_depth property_name_depth case_clause_depth else_depth finalizer_depth for_start_depth handler_depth maybe_expression_depth statement_depth class_depth operand_depth substitution_depth substitutions_depth function_depth method_depth bracketed_depth elements_depth next_element_depth block_depth declaration_depth else_if_depth if_clause_depth (PropertyName-F.Named name)

pub levels_is_Named : (y : PropertyName) (name : Token) → y ≡ pn.Named name → depth_of_property_name y ≡ 0
levels_is_Named y name h = ap (depth_of_property_name) h ∙ (levels_Named name)

pub levels_Computed : (begin : Token) (x : Expression) (ending : Token) → depth_of_property_name (pn.Computed begin x ending) ≡ depth_of_expression x
unfolding depth_of_expression depth_of_property_name
levels_Computed begin x ending = ap (depth_of_property_name) (sym (pn.rolls-Computed begin x ending)) ∙ fold-roll-PropertyName ℕ ℕ ℕ ℕ ℕ ℕ ℕ ℕ ℕ ℕ ℕ ℕ ℕ ℕ ℕ ℕ ℕ ℕ ℕ ℕ ℕ ℕ ℕ ℕ ℕ ℕ ℕ class_element_depth heritage_depth expression_depth link_depth concise_body_depth element_depth property_name_depth case_clause_depth else_depth finalizer_depth for_start_depth handler_depth maybe_expression_depth statement_depth class_depth operand_depth substitution_depth substitutions_depth function_depth method_depth bracketed_depth elements_depth next_element_depth block_depth declaration_depth else_if_depth if_clause_depth (PropertyName-F.Computed begin x ending)

pub levels_is_Computed : (y : PropertyName) (begin : Token) (x : Expression) (ending : Token) → y ≡ pn.Computed begin x ending → depth_of_property_name y ≡ depth_of_expression x
levels_is_Computed y begin x ending h = ap (depth_of_property_name) h ∙ (levels_Computed begin x ending)

pub levels_Case : (word : Token) (x : Expression) (colon : Token) (body : List Statement) → depth_of_case_clause (cc.Case word x colon body) ≡ max (depth_of_expression x) (most (map depth_of_statement body)) + 1
unfolding depth_of_expression depth_of_case_clause depth_of_statement
levels_Case word x colon body = ap (depth_of_case_clause) (sym (cc.rolls-Case word x colon body)) ∙ fold-roll-CaseClause ℕ ℕ ℕ ℕ ℕ ℕ ℕ ℕ ℕ ℕ ℕ ℕ ℕ ℕ ℕ ℕ ℕ ℕ ℕ ℕ ℕ ℕ ℕ ℕ ℕ ℕ ℕ class_element_depth heritage_depth expression_depth link_depth concise_body_depth element_depth property_name_depth case_clause_depth else_depth finalizer_depth for_start_depth handler_depth maybe_expression_depth statement_depth class_depth operand_depth substitution_depth substitutions_depth function_depth method_depth bracketed_depth elements_depth next_element_depth block_depth declaration_depth else_if_depth if_clause_depth (CaseClause-F.Case word x colon body)

pub levels_is_Case : (y : CaseClause) (word : Token) (x : Expression) (colon : Token) (body : List Statement) → y ≡ cc.Case word x colon body → depth_of_case_clause y ≡ max (depth_of_expression x) (most (map depth_of_statement body)) + 1
levels_is_Case y word x colon body h = ap (depth_of_case_clause) h ∙ (levels_Case word x colon body)

pub levels_Default : (word : Token) (colon : Token) (body : List Statement) → depth_of_case_clause (cc.Default word colon body) ≡ most (map depth_of_statement body) + 1
unfolding depth_of_case_clause depth_of_statement
levels_Default word colon body = ap (depth_of_case_clause) (sym (cc.rolls-Default word colon body)) ∙ fold-roll-CaseClause ℕ ℕ ℕ ℕ ℕ ℕ ℕ ℕ ℕ ℕ ℕ ℕ ℕ ℕ ℕ ℕ ℕ ℕ ℕ ℕ ℕ ℕ ℕ ℕ ℕ ℕ ℕ class_element_depth heritage_depth expression_depth link_depth concise_body_depth element_depth property_name_depth case_clause_depth else_depth finalizer_depth for_start_depth handler_depth maybe_expression_depth statement_depth class_depth operand_depth substitution_depth substitutions_depth function_depth method_depth bracketed_depth elements_depth next_element_depth block_depth declaration_depth else_if_depth if_clause_depth (CaseClause-F.Default word colon body)

pub levels_is_Default : (y : CaseClause) (word : Token) (colon : Token) (body : List Statement) → y ≡ cc.Default word colon body → depth_of_case_clause y ≡ most (map depth_of_statement body) + 1
levels_is_Default y word colon body h = ap (depth_of_case_clause) h ∙ (levels_Default word colon body)

pub levels_NoElse : depth_of_else (ot.NoElse) ≡ 0
unfolding depth_of_else
levels_NoElse = ap (depth_of_else) (sym (ot.rolls-NoElse)) ∙ fold-roll-Else ℕ ℕ ℕ ℕ ℕ ℕ ℕ ℕ ℕ ℕ ℕ ℕ ℕ ℕ ℕ ℕ ℕ ℕ ℕ ℕ ℕ ℕ ℕ ℕ ℕ ℕ ℕ class_element_depth heritage_depth expression_depth link_depth concise_body_depth element_depth property_name_depth case_clause_depth else_depth finalizer_depth for_start_depth handler_depth maybe_expression_depth statement_depth class_depth operand_depth substitution_depth substitutions_depth function_depth method_depth bracketed_depth elements_depth next_element_depth block_depth declaration_depth else_if_depth if_clause_depth (Else-F.NoElse)

pub levels_is_NoElse : (y : Else) → y ≡ ot.NoElse → depth_of_else y ≡ 0
levels_is_NoElse y h = ap (depth_of_else) h ∙ levels_NoElse

pub levels_Otherwise : (word : Token) (body : Statement) → depth_of_else (ot.Otherwise word body) ≡ depth_of_statement body
unfolding depth_of_else depth_of_statement
levels_Otherwise word body = ap (depth_of_else) (sym (ot.rolls-Otherwise word body)) ∙ fold-roll-Else ℕ ℕ ℕ ℕ ℕ ℕ ℕ ℕ ℕ ℕ ℕ ℕ ℕ ℕ ℕ ℕ ℕ ℕ ℕ ℕ ℕ ℕ ℕ ℕ ℕ ℕ ℕ class_element_depth heritage_depth expression_depth link_depth concise_body_depth element_depth property_name_depth case_clause_depth else_depth finalizer_depth for_start_depth handler_depth maybe_expression_depth statement_depth class_depth operand_depth substitution_depth substitutions_depth function_depth method_depth bracketed_depth elements_depth next_element_depth block_depth declaration_depth else_if_depth if_clause_depth (Else-F.Otherwise word body)

pub levels_is_Otherwise : (y : Else) (word : Token) (body : Statement) → y ≡ ot.Otherwise word body → depth_of_else y ≡ depth_of_statement body
levels_is_Otherwise y word body h = ap (depth_of_else) h ∙ (levels_Otherwise word body)

pub levels_NoFinalizer : depth_of_finalizer (fi.NoFinalizer) ≡ 0
unfolding depth_of_finalizer
levels_NoFinalizer = ap (depth_of_finalizer) (sym (fi.rolls-NoFinalizer)) ∙ fold-roll-Finalizer ℕ ℕ ℕ ℕ ℕ ℕ ℕ ℕ ℕ ℕ ℕ ℕ ℕ ℕ ℕ ℕ ℕ ℕ ℕ ℕ ℕ ℕ ℕ ℕ ℕ ℕ ℕ class_element_depth heritage_depth expression_depth link_depth concise_body_depth element_depth property_name_depth case_clause_depth else_depth finalizer_depth for_start_depth handler_depth maybe_expression_depth statement_depth class_depth operand_depth substitution_depth substitutions_depth function_depth method_depth bracketed_depth elements_depth next_element_depth block_depth declaration_depth else_if_depth if_clause_depth (Finalizer-F.NoFinalizer)

pub levels_is_NoFinalizer : (y : Finalizer) → y ≡ fi.NoFinalizer → depth_of_finalizer y ≡ 0
levels_is_NoFinalizer y h = ap (depth_of_finalizer) h ∙ levels_NoFinalizer

pub levels_Finally : (word : Token) (block : Block) → depth_of_finalizer (fi.Finally word block) ≡ depth_of_block block + 1
unfolding depth_of_finalizer depth_of_block
levels_Finally word block = ap (depth_of_finalizer) (sym (fi.rolls-Finally word block)) ∙ fold-roll-Finalizer ℕ ℕ ℕ ℕ ℕ ℕ ℕ ℕ ℕ ℕ ℕ ℕ ℕ ℕ ℕ ℕ ℕ ℕ ℕ ℕ ℕ ℕ ℕ ℕ ℕ ℕ ℕ class_element_depth heritage_depth expression_depth link_depth concise_body_depth element_depth property_name_depth case_clause_depth else_depth finalizer_depth for_start_depth handler_depth maybe_expression_depth statement_depth class_depth operand_depth substitution_depth substitutions_depth function_depth method_depth bracketed_depth elements_depth next_element_depth block_depth declaration_depth else_if_depth if_clause_depth (Finalizer-F.Finally word block)

pub levels_is_Finally : (y : Finalizer) (word : Token) (block : Block) → y ≡ fi.Finally word block → depth_of_finalizer y ≡ depth_of_block block + 1
levels_is_Finally y word block h = ap (depth_of_finalizer) h ∙ (levels_Finally word block)

pub levels_NoStart : depth_of_for_start (fs.NoStart) ≡ 0
unfolding depth_of_for_start
levels_NoStart = ap (depth_of_for_start) (sym (fs.rolls-NoStart)) ∙ fold-roll-ForStart ℕ ℕ ℕ ℕ ℕ ℕ ℕ ℕ ℕ ℕ ℕ ℕ ℕ ℕ ℕ ℕ ℕ ℕ ℕ ℕ ℕ ℕ ℕ ℕ ℕ ℕ ℕ class_element_depth heritage_depth expression_depth link_depth concise_body_depth element_depth property_name_depth case_clause_depth else_depth finalizer_depth for_start_depth handler_depth maybe_expression_depth statement_depth class_depth operand_depth substitution_depth substitutions_depth function_depth method_depth bracketed_depth elements_depth next_element_depth block_depth declaration_depth else_if_depth if_clause_depth (ForStart-F.NoStart)

pub levels_is_NoStart : (y : ForStart) → y ≡ fs.NoStart → depth_of_for_start y ≡ 0
levels_is_NoStart y h = ap (depth_of_for_start) h ∙ levels_NoStart

pub levels_StartExpression : (x : Expression) → depth_of_for_start (fs.StartExpression x) ≡ depth_of_expression x
unfolding depth_of_expression depth_of_for_start
levels_StartExpression x = ap (depth_of_for_start) (sym (fs.rolls-StartExpression x)) ∙ fold-roll-ForStart ℕ ℕ ℕ ℕ ℕ ℕ ℕ ℕ ℕ ℕ ℕ ℕ ℕ ℕ ℕ ℕ ℕ ℕ ℕ ℕ ℕ ℕ ℕ ℕ ℕ ℕ ℕ class_element_depth heritage_depth expression_depth link_depth concise_body_depth element_depth property_name_depth case_clause_depth else_depth finalizer_depth for_start_depth handler_depth maybe_expression_depth statement_depth class_depth operand_depth substitution_depth substitutions_depth function_depth method_depth bracketed_depth elements_depth next_element_depth block_depth declaration_depth else_if_depth if_clause_depth (ForStart-F.StartExpression x)

pub levels_is_StartExpression : (y : ForStart) (x : Expression) → y ≡ fs.StartExpression x → depth_of_for_start y ≡ depth_of_expression x
levels_is_StartExpression y x h = ap (depth_of_for_start) h ∙ (levels_StartExpression x)

pub levels_StartDeclaration : (declaration : Declaration) → depth_of_for_start (fs.StartDeclaration declaration) ≡ depth_of_declaration declaration
unfolding depth_of_for_start depth_of_declaration
levels_StartDeclaration declaration = ap (depth_of_for_start) (sym (fs.rolls-StartDeclaration declaration)) ∙ fold-roll-ForStart ℕ ℕ ℕ ℕ ℕ ℕ ℕ ℕ ℕ ℕ ℕ ℕ ℕ ℕ ℕ ℕ ℕ ℕ ℕ ℕ ℕ ℕ ℕ ℕ ℕ ℕ ℕ class_element_depth heritage_depth expression_depth link_depth concise_body_depth element_depth property_name_depth case_clause_depth else_depth finalizer_depth for_start_depth handler_depth maybe_expression_depth statement_depth class_depth operand_depth substitution_depth substitutions_depth function_depth method_depth bracketed_depth elements_depth next_element_depth block_depth declaration_depth else_if_depth if_clause_depth (ForStart-F.StartDeclaration declaration)

pub levels_is_StartDeclaration : (y : ForStart) (declaration : Declaration) → y ≡ fs.StartDeclaration declaration → depth_of_for_start y ≡ depth_of_declaration declaration
levels_is_StartDeclaration y declaration h = ap (depth_of_for_start) h ∙ (levels_StartDeclaration declaration)

pub levels_NoHandler : depth_of_handler (ha.NoHandler) ≡ 0
unfolding depth_of_handler
levels_NoHandler = ap (depth_of_handler) (sym (ha.rolls-NoHandler)) ∙ fold-roll-Handler ℕ ℕ ℕ ℕ ℕ ℕ ℕ ℕ ℕ ℕ ℕ ℕ ℕ ℕ ℕ ℕ ℕ ℕ ℕ ℕ ℕ ℕ ℕ ℕ ℕ ℕ ℕ class_element_depth heritage_depth expression_depth link_depth concise_body_depth element_depth property_name_depth case_clause_depth else_depth finalizer_depth for_start_depth handler_depth maybe_expression_depth statement_depth class_depth operand_depth substitution_depth substitutions_depth function_depth method_depth bracketed_depth elements_depth next_element_depth block_depth declaration_depth else_if_depth if_clause_depth (Handler-F.NoHandler)

pub levels_is_NoHandler : (y : Handler) → y ≡ ha.NoHandler → depth_of_handler y ≡ 0
levels_is_NoHandler y h = ap (depth_of_handler) h ∙ levels_NoHandler

pub levels_Catch : (word : Token) (block : Block) → depth_of_handler (ha.Catch word block) ≡ depth_of_block block + 1
unfolding depth_of_handler depth_of_block
levels_Catch word block = ap (depth_of_handler) (sym (ha.rolls-Catch word block)) ∙ fold-roll-Handler ℕ ℕ ℕ ℕ ℕ ℕ ℕ ℕ ℕ ℕ ℕ ℕ ℕ ℕ ℕ ℕ ℕ ℕ ℕ ℕ ℕ ℕ ℕ ℕ ℕ ℕ ℕ class_element_depth heritage_depth expression_depth link_depth concise_body_depth element_depth property_name_depth case_clause_depth else_depth finalizer_depth for_start_depth handler_depth maybe_expression_depth statement_depth class_depth operand_depth substitution_depth substitutions_depth function_depth method_depth bracketed_depth elements_depth next_element_depth block_depth declaration_depth else_if_depth if_clause_depth (Handler-F.Catch word block)

pub levels_is_Catch : (y : Handler) (word : Token) (block : Block) → y ≡ ha.Catch word block → depth_of_handler y ≡ depth_of_block block + 1
levels_is_Catch y word block h = ap (depth_of_handler) h ∙ (levels_Catch word block)

pub levels_CatchParameter : (word : Token) (begin : Token) (x : Expression) (ending : Token) (block : Block) → depth_of_handler (ha.CatchParameter word begin x ending block) ≡ max (depth_of_expression x) (depth_of_block block) + 1
unfolding depth_of_expression depth_of_handler depth_of_block
levels_CatchParameter word begin x ending block = ap (depth_of_handler) (sym (ha.rolls-CatchParameter word begin x ending block)) ∙ fold-roll-Handler ℕ ℕ ℕ ℕ ℕ ℕ ℕ ℕ ℕ ℕ ℕ ℕ ℕ ℕ ℕ ℕ ℕ ℕ ℕ ℕ ℕ ℕ ℕ ℕ ℕ ℕ ℕ class_element_depth heritage_depth expression_depth link_depth concise_body_depth element_depth property_name_depth case_clause_depth else_depth finalizer_depth for_start_depth handler_depth maybe_expression_depth statement_depth class_depth operand_depth substitution_depth substitutions_depth function_depth method_depth bracketed_depth elements_depth next_element_depth block_depth declaration_depth else_if_depth if_clause_depth (Handler-F.CatchParameter word begin x ending block)

pub levels_is_CatchParameter : (y : Handler) (word : Token) (begin : Token) (x : Expression) (ending : Token) (block : Block) → y ≡ ha.CatchParameter word begin x ending block → depth_of_handler y ≡ max (depth_of_expression x) (depth_of_block block) + 1
levels_is_CatchParameter y word begin x ending block h = ap (depth_of_handler) h ∙ (levels_CatchParameter word begin x ending block)

pub levels_Absent : depth_of_maybe_expression (me.Absent) ≡ 0
unfolding depth_of_maybe_expression
levels_Absent = ap (depth_of_maybe_expression) (sym (me.rolls-Absent)) ∙ fold-roll-MaybeExpression ℕ ℕ ℕ ℕ ℕ ℕ ℕ ℕ ℕ ℕ ℕ ℕ ℕ ℕ ℕ ℕ ℕ ℕ ℕ ℕ ℕ ℕ ℕ ℕ ℕ ℕ ℕ class_element_depth heritage_depth expression_depth link_depth concise_body_depth element_depth property_name_depth case_clause_depth else_depth finalizer_depth for_start_depth handler_depth maybe_expression_depth statement_depth class_depth operand_depth substitution_depth substitutions_depth function_depth method_depth bracketed_depth elements_depth next_element_depth block_depth declaration_depth else_if_depth if_clause_depth (MaybeExpression-F.Absent)

pub levels_is_Absent : (y : MaybeExpression) → y ≡ me.Absent → depth_of_maybe_expression y ≡ 0
levels_is_Absent y h = ap (depth_of_maybe_expression) h ∙ levels_Absent

pub levels_Present : (x : Expression) → depth_of_maybe_expression (me.Present x) ≡ depth_of_expression x
unfolding depth_of_expression depth_of_maybe_expression
levels_Present x = ap (depth_of_maybe_expression) (sym (me.rolls-Present x)) ∙ fold-roll-MaybeExpression ℕ ℕ ℕ ℕ ℕ ℕ ℕ ℕ ℕ ℕ ℕ ℕ ℕ ℕ ℕ ℕ ℕ ℕ ℕ ℕ ℕ ℕ ℕ ℕ ℕ ℕ ℕ class_element_depth heritage_depth expression_depth link_depth concise_body_depth element_depth property_name_depth case_clause_depth else_depth finalizer_depth for_start_depth handler_depth maybe_expression_depth statement_depth class_depth operand_depth substitution_depth substitutions_depth function_depth method_depth bracketed_depth elements_depth next_element_depth block_depth declaration_depth else_if_depth if_clause_depth (MaybeExpression-F.Present x)

pub levels_is_Present : (y : MaybeExpression) (x : Expression) → y ≡ me.Present x → depth_of_maybe_expression y ≡ depth_of_expression x
levels_is_Present y x h = ap (depth_of_maybe_expression) h ∙ (levels_Present x)

pub levels_BlockStatement : (block : Block) → depth_of_statement (s.BlockStatement block) ≡ depth_of_block block + 1
unfolding depth_of_statement depth_of_block
levels_BlockStatement block = ap (depth_of_statement) (sym (s.rolls-BlockStatement block)) ∙ fold-roll-Statement ℕ ℕ ℕ ℕ ℕ ℕ ℕ ℕ ℕ ℕ ℕ ℕ ℕ ℕ ℕ ℕ ℕ ℕ ℕ ℕ ℕ ℕ ℕ ℕ ℕ ℕ ℕ class_element_depth heritage_depth expression_depth link_depth concise_body_depth element_depth property_name_depth case_clause_depth else_depth finalizer_depth for_start_depth handler_depth maybe_expression_depth statement_depth class_depth operand_depth substitution_depth substitutions_depth function_depth method_depth bracketed_depth elements_depth next_element_depth block_depth declaration_depth else_if_depth if_clause_depth (Statement-F.BlockStatement block)

pub levels_is_BlockStatement : (y : Statement) (block : Block) → y ≡ s.BlockStatement block → depth_of_statement y ≡ depth_of_block block + 1
levels_is_BlockStatement y block h = ap (depth_of_statement) h ∙ (levels_BlockStatement block)

pub levels_Variables : (declaration : Declaration) (end : Option Token) → depth_of_statement (s.Variables declaration end) ≡ depth_of_declaration declaration + 1
unfolding depth_of_statement depth_of_declaration
levels_Variables declaration end = ap (depth_of_statement) (sym (s.rolls-Variables declaration end)) ∙ fold-roll-Statement ℕ ℕ ℕ ℕ ℕ ℕ ℕ ℕ ℕ ℕ ℕ ℕ ℕ ℕ ℕ ℕ ℕ ℕ ℕ ℕ ℕ ℕ ℕ ℕ ℕ ℕ ℕ class_element_depth heritage_depth expression_depth link_depth concise_body_depth element_depth property_name_depth case_clause_depth else_depth finalizer_depth for_start_depth handler_depth maybe_expression_depth statement_depth class_depth operand_depth substitution_depth substitutions_depth function_depth method_depth bracketed_depth elements_depth next_element_depth block_depth declaration_depth else_if_depth if_clause_depth (Statement-F.Variables declaration end)

pub levels_is_Variables : (y : Statement) (declaration : Declaration) (end : Option Token) → y ≡ s.Variables declaration end → depth_of_statement y ≡ depth_of_declaration declaration + 1
levels_is_Variables y declaration end h = ap (depth_of_statement) h ∙ (levels_Variables declaration end)

pub levels_Empty : (semicolon : Token) → depth_of_statement (s.Empty semicolon) ≡ 1
unfolding depth_of_statement
levels_Empty semicolon = ap (depth_of_statement) (sym (s.rolls-Empty semicolon)) ∙ fold-roll-Statement ℕ ℕ ℕ ℕ ℕ ℕ ℕ ℕ ℕ ℕ ℕ ℕ ℕ ℕ ℕ ℕ ℕ ℕ ℕ ℕ ℕ ℕ ℕ ℕ ℕ ℕ ℕ class_element_depth heritage_depth expression_depth link_depth concise_body_depth element_depth property_name_depth case_clause_depth else_depth finalizer_depth for_start_depth handler_depth maybe_expression_depth statement_depth class_depth operand_depth substitution_depth substitutions_depth function_depth method_depth bracketed_depth elements_depth next_element_depth block_depth declaration_depth else_if_depth if_clause_depth (Statement-F.Empty semicolon)

pub levels_is_Empty : (y : Statement) (semicolon : Token) → y ≡ s.Empty semicolon → depth_of_statement y ≡ 1
levels_is_Empty y semicolon h = ap (depth_of_statement) h ∙ (levels_Empty semicolon)

pub levels_ExpressionStatement : (x : Expression) (end : Option Token) → depth_of_statement (s.ExpressionStatement x end) ≡ depth_of_expression x + 1
unfolding depth_of_expression depth_of_statement
levels_ExpressionStatement x end = ap (depth_of_statement) (sym (s.rolls-ExpressionStatement x end)) ∙ fold-roll-Statement ℕ ℕ ℕ ℕ ℕ ℕ ℕ ℕ ℕ ℕ ℕ ℕ ℕ ℕ ℕ ℕ ℕ ℕ ℕ ℕ ℕ ℕ ℕ ℕ ℕ ℕ ℕ class_element_depth heritage_depth expression_depth link_depth concise_body_depth element_depth property_name_depth case_clause_depth else_depth finalizer_depth for_start_depth handler_depth maybe_expression_depth statement_depth class_depth operand_depth substitution_depth substitutions_depth function_depth method_depth bracketed_depth elements_depth next_element_depth block_depth declaration_depth else_if_depth if_clause_depth (Statement-F.ExpressionStatement x end)

pub levels_is_ExpressionStatement : (y : Statement) (x : Expression) (end : Option Token) → y ≡ s.ExpressionStatement x end → depth_of_statement y ≡ depth_of_expression x + 1
levels_is_ExpressionStatement y x end h = ap (depth_of_statement) h ∙ (levels_ExpressionStatement x end)

pub levels_If : (clause : IfClause) (rest : List ElseIf) (last : Else) → depth_of_statement (s.If clause rest last) ≡ max (depth_of_if_clause clause) (max (most (map depth_of_else_if rest)) (depth_of_else last)) + 1
unfolding depth_of_else depth_of_statement depth_of_else_if depth_of_if_clause
levels_If clause rest last = ap (depth_of_statement) (sym (s.rolls-If clause rest last)) ∙ fold-roll-Statement ℕ ℕ ℕ ℕ ℕ ℕ ℕ ℕ ℕ ℕ ℕ ℕ ℕ ℕ ℕ ℕ ℕ ℕ ℕ ℕ ℕ ℕ ℕ ℕ ℕ ℕ ℕ class_element_depth heritage_depth expression_depth link_depth concise_body_depth element_depth property_name_depth case_clause_depth else_depth finalizer_depth for_start_depth handler_depth maybe_expression_depth statement_depth class_depth operand_depth substitution_depth substitutions_depth function_depth method_depth bracketed_depth elements_depth next_element_depth block_depth declaration_depth else_if_depth if_clause_depth (Statement-F.If clause rest last)

pub levels_is_If : (y : Statement) (clause : IfClause) (rest : List ElseIf) (last : Else) → y ≡ s.If clause rest last → depth_of_statement y ≡ max (depth_of_if_clause clause) (max (most (map depth_of_else_if rest)) (depth_of_else last)) + 1
levels_is_If y clause rest last h = ap (depth_of_statement) h ∙ (levels_If clause rest last)

pub levels_DoWhile : (word : Token) (body : Statement) (while_word : Token) (begin : Token) (x : Expression) (ending : Token) (end : Option Token) → depth_of_statement (s.DoWhile word body while_word begin x ending end) ≡ max (depth_of_statement body) (depth_of_expression x) + 1
unfolding depth_of_expression depth_of_statement
levels_DoWhile word body while_word begin x ending end = ap (depth_of_statement) (sym (s.rolls-DoWhile word body while_word begin x ending end)) ∙ fold-roll-Statement ℕ ℕ ℕ ℕ ℕ ℕ ℕ ℕ ℕ ℕ ℕ ℕ ℕ ℕ ℕ ℕ ℕ ℕ ℕ ℕ ℕ ℕ ℕ ℕ ℕ ℕ ℕ class_element_depth heritage_depth expression_depth link_depth concise_body_depth element_depth property_name_depth case_clause_depth else_depth finalizer_depth for_start_depth handler_depth maybe_expression_depth statement_depth class_depth operand_depth substitution_depth substitutions_depth function_depth method_depth bracketed_depth elements_depth next_element_depth block_depth declaration_depth else_if_depth if_clause_depth (Statement-F.DoWhile word body while_word begin x ending end)

pub levels_is_DoWhile : (y : Statement) (word : Token) (body : Statement) (while_word : Token) (begin : Token) (x : Expression) (ending : Token) (end : Option Token) → y ≡ s.DoWhile word body while_word begin x ending end → depth_of_statement y ≡ max (depth_of_statement body) (depth_of_expression x) + 1
levels_is_DoWhile y word body while_word begin x ending end h = ap (depth_of_statement) h ∙ (levels_DoWhile word body while_word begin x ending end)

pub levels_While : (word : Token) (begin : Token) (x : Expression) (ending : Token) (body : Statement) → depth_of_statement (s.While word begin x ending body) ≡ max (depth_of_expression x) (depth_of_statement body) + 1
unfolding depth_of_expression depth_of_statement
levels_While word begin x ending body = ap (depth_of_statement) (sym (s.rolls-While word begin x ending body)) ∙ fold-roll-Statement ℕ ℕ ℕ ℕ ℕ ℕ ℕ ℕ ℕ ℕ ℕ ℕ ℕ ℕ ℕ ℕ ℕ ℕ ℕ ℕ ℕ ℕ ℕ ℕ ℕ ℕ ℕ class_element_depth heritage_depth expression_depth link_depth concise_body_depth element_depth property_name_depth case_clause_depth else_depth finalizer_depth for_start_depth handler_depth maybe_expression_depth statement_depth class_depth operand_depth substitution_depth substitutions_depth function_depth method_depth bracketed_depth elements_depth next_element_depth block_depth declaration_depth else_if_depth if_clause_depth (Statement-F.While word begin x ending body)

pub levels_is_While : (y : Statement) (word : Token) (begin : Token) (x : Expression) (ending : Token) (body : Statement) → y ≡ s.While word begin x ending body → depth_of_statement y ≡ max (depth_of_expression x) (depth_of_statement body) + 1
levels_is_While y word begin x ending body h = ap (depth_of_statement) h ∙ (levels_While word begin x ending body)

pub levels_For : (word : Token) (begin : Token) (start : ForStart) (first : Token) (test : MaybeExpression) (second : Token) (step : MaybeExpression) (ending : Token) (body : Statement) → depth_of_statement (s.For word begin start first test second step ending body) ≡ max (depth_of_for_start start) (max (depth_of_maybe_expression test) (max (depth_of_maybe_expression step) (depth_of_statement body))) + 1
unfolding depth_of_for_start depth_of_maybe_expression depth_of_statement
levels_For word begin start first test second step ending body = ap (depth_of_statement) (sym (s.rolls-For word begin start first test second step ending body)) ∙ fold-roll-Statement ℕ ℕ ℕ ℕ ℕ ℕ ℕ ℕ ℕ ℕ ℕ ℕ ℕ ℕ ℕ ℕ ℕ ℕ ℕ ℕ ℕ ℕ ℕ ℕ ℕ ℕ ℕ class_element_depth heritage_depth expression_depth link_depth concise_body_depth element_depth property_name_depth case_clause_depth else_depth finalizer_depth for_start_depth handler_depth maybe_expression_depth statement_depth class_depth operand_depth substitution_depth substitutions_depth function_depth method_depth bracketed_depth elements_depth next_element_depth block_depth declaration_depth else_if_depth if_clause_depth (Statement-F.For word begin start first test second step ending body)

pub levels_is_For : (y : Statement) (word : Token) (begin : Token) (start : ForStart) (first : Token) (test : MaybeExpression) (second : Token) (step : MaybeExpression) (ending : Token) (body : Statement) → y ≡ s.For word begin start first test second step ending body → depth_of_statement y ≡ max (depth_of_for_start start) (max (depth_of_maybe_expression test) (max (depth_of_maybe_expression step) (depth_of_statement body))) + 1
levels_is_For y word begin start first test second step ending body h = ap (depth_of_statement) h ∙ (levels_For word begin start first test second step ending body)

pub levels_ForEach : (word : Token) (await_word : Option Token) (begin : Token) (start : ForStart) (middle : Token) (x : Expression) (ending : Token) (body : Statement) → depth_of_statement (s.ForEach word await_word begin start middle x ending body) ≡ max (depth_of_for_start start) (max (depth_of_expression x) (depth_of_statement body)) + 1
unfolding depth_of_expression depth_of_for_start depth_of_statement
levels_ForEach word await_word begin start middle x ending body = ap (depth_of_statement) (sym (s.rolls-ForEach word await_word begin start middle x ending body)) ∙ fold-roll-Statement ℕ ℕ ℕ ℕ ℕ ℕ ℕ ℕ ℕ ℕ ℕ ℕ ℕ ℕ ℕ ℕ ℕ ℕ ℕ ℕ ℕ ℕ ℕ ℕ ℕ ℕ ℕ class_element_depth heritage_depth expression_depth link_depth concise_body_depth element_depth property_name_depth case_clause_depth else_depth finalizer_depth for_start_depth handler_depth maybe_expression_depth statement_depth class_depth operand_depth substitution_depth substitutions_depth function_depth method_depth bracketed_depth elements_depth next_element_depth block_depth declaration_depth else_if_depth if_clause_depth (Statement-F.ForEach word await_word begin start middle x ending body)

pub levels_is_ForEach : (y : Statement) (word : Token) (await_word : Option Token) (begin : Token) (start : ForStart) (middle : Token) (x : Expression) (ending : Token) (body : Statement) → y ≡ s.ForEach word await_word begin start middle x ending body → depth_of_statement y ≡ max (depth_of_for_start start) (max (depth_of_expression x) (depth_of_statement body)) + 1
levels_is_ForEach y word await_word begin start middle x ending body h = ap (depth_of_statement) h ∙ (levels_ForEach word await_word begin start middle x ending body)

pub levels_Continue : (word : Token) (label : Option Token) (end : Option Token) → depth_of_statement (s.Continue word label end) ≡ 1
unfolding depth_of_statement
levels_Continue word label end = ap (depth_of_statement) (sym (s.rolls-Continue word label end)) ∙ fold-roll-Statement ℕ ℕ ℕ ℕ ℕ ℕ ℕ ℕ ℕ ℕ ℕ ℕ ℕ ℕ ℕ ℕ ℕ ℕ ℕ ℕ ℕ ℕ ℕ ℕ ℕ ℕ ℕ class_element_depth heritage_depth expression_depth link_depth concise_body_depth element_depth property_name_depth case_clause_depth else_depth finalizer_depth for_start_depth handler_depth maybe_expression_depth statement_depth class_depth operand_depth substitution_depth substitutions_depth function_depth method_depth bracketed_depth elements_depth next_element_depth block_depth declaration_depth else_if_depth if_clause_depth (Statement-F.Continue word label end)

pub levels_is_Continue : (y : Statement) (word : Token) (label : Option Token) (end : Option Token) → y ≡ s.Continue word label end → depth_of_statement y ≡ 1
levels_is_Continue y word label end h = ap (depth_of_statement) h ∙ (levels_Continue word label end)

pub levels_Break : (word : Token) (label : Option Token) (end : Option Token) → depth_of_statement (s.Break word label end) ≡ 1
unfolding depth_of_statement
levels_Break word label end = ap (depth_of_statement) (sym (s.rolls-Break word label end)) ∙ fold-roll-Statement ℕ ℕ ℕ ℕ ℕ ℕ ℕ ℕ ℕ ℕ ℕ ℕ ℕ ℕ ℕ ℕ ℕ ℕ ℕ ℕ ℕ ℕ ℕ ℕ ℕ ℕ ℕ class_element_depth heritage_depth expression_depth link_depth concise_body_depth element_depth property_name_depth case_clause_depth else_depth finalizer_depth for_start_depth handler_depth maybe_expression_depth statement_depth class_depth operand_depth substitution_depth substitutions_depth function_depth method_depth bracketed_depth elements_depth next_element_depth block_depth declaration_depth else_if_depth if_clause_depth (Statement-F.Break word label end)

pub levels_is_Break : (y : Statement) (word : Token) (label : Option Token) (end : Option Token) → y ≡ s.Break word label end → depth_of_statement y ≡ 1
levels_is_Break y word label end h = ap (depth_of_statement) h ∙ (levels_Break word label end)

pub levels_Return : (word : Token) (x : MaybeExpression) (end : Option Token) → depth_of_statement (s.Return word x end) ≡ depth_of_maybe_expression x + 1
unfolding depth_of_maybe_expression depth_of_statement
levels_Return word x end = ap (depth_of_statement) (sym (s.rolls-Return word x end)) ∙ fold-roll-Statement ℕ ℕ ℕ ℕ ℕ ℕ ℕ ℕ ℕ ℕ ℕ ℕ ℕ ℕ ℕ ℕ ℕ ℕ ℕ ℕ ℕ ℕ ℕ ℕ ℕ ℕ ℕ class_element_depth heritage_depth expression_depth link_depth concise_body_depth element_depth property_name_depth case_clause_depth else_depth finalizer_depth for_start_depth handler_depth maybe_expression_depth statement_depth class_depth operand_depth substitution_depth substitutions_depth function_depth method_depth bracketed_depth elements_depth next_element_depth block_depth declaration_depth else_if_depth if_clause_depth (Statement-F.Return word x end)

pub levels_is_Return : (y : Statement) (word : Token) (x : MaybeExpression) (end : Option Token) → y ≡ s.Return word x end → depth_of_statement y ≡ depth_of_maybe_expression x + 1
levels_is_Return y word x end h = ap (depth_of_statement) h ∙ (levels_Return word x end)

pub levels_Switch : (word : Token) (begin : Token) (x : Expression) (ending : Token) (left : Token) (clauses : List CaseClause) (right : Token) → depth_of_statement (s.Switch word begin x ending left clauses right) ≡ max (depth_of_expression x) (most (map depth_of_case_clause clauses)) + 1
unfolding depth_of_expression depth_of_case_clause depth_of_statement
levels_Switch word begin x ending left clauses right = ap (depth_of_statement) (sym (s.rolls-Switch word begin x ending left clauses right)) ∙ fold-roll-Statement ℕ ℕ ℕ ℕ ℕ ℕ ℕ ℕ ℕ ℕ ℕ ℕ ℕ ℕ ℕ ℕ ℕ ℕ ℕ ℕ ℕ ℕ ℕ ℕ ℕ ℕ ℕ class_element_depth heritage_depth expression_depth link_depth concise_body_depth element_depth property_name_depth case_clause_depth else_depth finalizer_depth for_start_depth handler_depth maybe_expression_depth statement_depth class_depth operand_depth substitution_depth substitutions_depth function_depth method_depth bracketed_depth elements_depth next_element_depth block_depth declaration_depth else_if_depth if_clause_depth (Statement-F.Switch word begin x ending left clauses right)

pub levels_is_Switch : (y : Statement) (word : Token) (begin : Token) (x : Expression) (ending : Token) (left : Token) (clauses : List CaseClause) (right : Token) → y ≡ s.Switch word begin x ending left clauses right → depth_of_statement y ≡ max (depth_of_expression x) (most (map depth_of_case_clause clauses)) + 1
levels_is_Switch y word begin x ending left clauses right h = ap (depth_of_statement) h ∙ (levels_Switch word begin x ending left clauses right)

pub levels_Labelled : (label : Token) (colon : Token) (body : Statement) → depth_of_statement (s.Labelled label colon body) ≡ depth_of_statement body + 1
unfolding depth_of_statement
levels_Labelled label colon body = ap (depth_of_statement) (sym (s.rolls-Labelled label colon body)) ∙ fold-roll-Statement ℕ ℕ ℕ ℕ ℕ ℕ ℕ ℕ ℕ ℕ ℕ ℕ ℕ ℕ ℕ ℕ ℕ ℕ ℕ ℕ ℕ ℕ ℕ ℕ ℕ ℕ ℕ class_element_depth heritage_depth expression_depth link_depth concise_body_depth element_depth property_name_depth case_clause_depth else_depth finalizer_depth for_start_depth handler_depth maybe_expression_depth statement_depth class_depth operand_depth substitution_depth substitutions_depth function_depth method_depth bracketed_depth elements_depth next_element_depth block_depth declaration_depth else_if_depth if_clause_depth (Statement-F.Labelled label colon body)

pub levels_is_Labelled : (y : Statement) (label : Token) (colon : Token) (body : Statement) → y ≡ s.Labelled label colon body → depth_of_statement y ≡ depth_of_statement body + 1
levels_is_Labelled y label colon body h = ap (depth_of_statement) h ∙ (levels_Labelled label colon body)

pub levels_Throw : (word : Token) (x : Expression) (end : Option Token) → depth_of_statement (s.Throw word x end) ≡ depth_of_expression x + 1
unfolding depth_of_expression depth_of_statement
levels_Throw word x end = ap (depth_of_statement) (sym (s.rolls-Throw word x end)) ∙ fold-roll-Statement ℕ ℕ ℕ ℕ ℕ ℕ ℕ ℕ ℕ ℕ ℕ ℕ ℕ ℕ ℕ ℕ ℕ ℕ ℕ ℕ ℕ ℕ ℕ ℕ ℕ ℕ ℕ class_element_depth heritage_depth expression_depth link_depth concise_body_depth element_depth property_name_depth case_clause_depth else_depth finalizer_depth for_start_depth handler_depth maybe_expression_depth statement_depth class_depth operand_depth substitution_depth substitutions_depth function_depth method_depth bracketed_depth elements_depth next_element_depth block_depth declaration_depth else_if_depth if_clause_depth (Statement-F.Throw word x end)

pub levels_is_Throw : (y : Statement) (word : Token) (x : Expression) (end : Option Token) → y ≡ s.Throw word x end → depth_of_statement y ≡ depth_of_expression x + 1
levels_is_Throw y word x end h = ap (depth_of_statement) h ∙ (levels_Throw word x end)

pub levels_Try : (word : Token) (block : Block) (handler : Handler) (finalizer : Finalizer) → depth_of_statement (s.Try word block handler finalizer) ≡ max (depth_of_block block) (max (depth_of_handler handler) (depth_of_finalizer finalizer)) + 1
unfolding depth_of_finalizer depth_of_handler depth_of_statement depth_of_block
levels_Try word block handler finalizer = ap (depth_of_statement) (sym (s.rolls-Try word block handler finalizer)) ∙ fold-roll-Statement ℕ ℕ ℕ ℕ ℕ ℕ ℕ ℕ ℕ ℕ ℕ ℕ ℕ ℕ ℕ ℕ ℕ ℕ ℕ ℕ ℕ ℕ ℕ ℕ ℕ ℕ ℕ class_element_depth heritage_depth expression_depth link_depth concise_body_depth element_depth property_name_depth case_clause_depth else_depth finalizer_depth for_start_depth handler_depth maybe_expression_depth statement_depth class_depth operand_depth substitution_depth substitutions_depth function_depth method_depth bracketed_depth elements_depth next_element_depth block_depth declaration_depth else_if_depth if_clause_depth (Statement-F.Try word block handler finalizer)

pub levels_is_Try : (y : Statement) (word : Token) (block : Block) (handler : Handler) (finalizer : Finalizer) → y ≡ s.Try word block handler finalizer → depth_of_statement y ≡ max (depth_of_block block) (max (depth_of_handler handler) (depth_of_finalizer finalizer)) + 1
levels_is_Try y word block handler finalizer h = ap (depth_of_statement) h ∙ (levels_Try word block handler finalizer)

pub levels_Debugger : (word : Token) (end : Option Token) → depth_of_statement (s.Debugger word end) ≡ 1
unfolding depth_of_statement
levels_Debugger word end = ap (depth_of_statement) (sym (s.rolls-Debugger word end)) ∙ fold-roll-Statement ℕ ℕ ℕ ℕ ℕ ℕ ℕ ℕ ℕ ℕ ℕ ℕ ℕ ℕ ℕ ℕ ℕ ℕ ℕ ℕ ℕ ℕ ℕ ℕ ℕ ℕ ℕ class_element_depth heritage_depth expression_depth link_depth concise_body_depth element_depth property_name_depth case_clause_depth else_depth finalizer_depth for_start_depth handler_depth maybe_expression_depth statement_depth class_depth operand_depth substitution_depth substitutions_depth function_depth method_depth bracketed_depth elements_depth next_element_depth block_depth declaration_depth else_if_depth if_clause_depth (Statement-F.Debugger word end)

pub levels_is_Debugger : (y : Statement) (word : Token) (end : Option Token) → y ≡ s.Debugger word end → depth_of_statement y ≡ 1
levels_is_Debugger y word end h = ap (depth_of_statement) h ∙ (levels_Debugger word end)

pub levels_FunctionDeclaration : (function : Function) → depth_of_statement (s.FunctionDeclaration function) ≡ depth_of_function function + 1
unfolding depth_of_statement depth_of_function
levels_FunctionDeclaration function = ap (depth_of_statement) (sym (s.rolls-FunctionDeclaration function)) ∙ fold-roll-Statement ℕ ℕ ℕ ℕ ℕ ℕ ℕ ℕ ℕ ℕ ℕ ℕ ℕ ℕ ℕ ℕ ℕ ℕ ℕ ℕ ℕ ℕ ℕ ℕ ℕ ℕ ℕ class_element_depth heritage_depth expression_depth link_depth concise_body_depth element_depth property_name_depth case_clause_depth else_depth finalizer_depth for_start_depth handler_depth maybe_expression_depth statement_depth class_depth operand_depth substitution_depth substitutions_depth function_depth method_depth bracketed_depth elements_depth next_element_depth block_depth declaration_depth else_if_depth if_clause_depth (Statement-F.FunctionDeclaration function)

pub levels_is_FunctionDeclaration : (y : Statement) (function : Function) → y ≡ s.FunctionDeclaration function → depth_of_statement y ≡ depth_of_function function + 1
levels_is_FunctionDeclaration y function h = ap (depth_of_statement) h ∙ (levels_FunctionDeclaration function)

pub levels_ClassDeclaration : (class : Class) → depth_of_statement (s.ClassDeclaration class) ≡ depth_of_class class + 1
unfolding depth_of_statement depth_of_class
levels_ClassDeclaration class = ap (depth_of_statement) (sym (s.rolls-ClassDeclaration class)) ∙ fold-roll-Statement ℕ ℕ ℕ ℕ ℕ ℕ ℕ ℕ ℕ ℕ ℕ ℕ ℕ ℕ ℕ ℕ ℕ ℕ ℕ ℕ ℕ ℕ ℕ ℕ ℕ ℕ ℕ class_element_depth heritage_depth expression_depth link_depth concise_body_depth element_depth property_name_depth case_clause_depth else_depth finalizer_depth for_start_depth handler_depth maybe_expression_depth statement_depth class_depth operand_depth substitution_depth substitutions_depth function_depth method_depth bracketed_depth elements_depth next_element_depth block_depth declaration_depth else_if_depth if_clause_depth (Statement-F.ClassDeclaration class)

pub levels_is_ClassDeclaration : (y : Statement) (class : Class) → y ≡ s.ClassDeclaration class → depth_of_statement y ≡ depth_of_class class + 1
levels_is_ClassDeclaration y class h = ap (depth_of_statement) h ∙ (levels_ClassDeclaration class)

pub levels_Class : (word : Token) (name : Option Token) (heritage : Heritage) (begin : Token) (elements : List ClassElement) (ending : Token) → depth_of_class (roll-Class (record { word = word; name = name; heritage = heritage; begin = begin; elements = elements; ending = ending })) ≡ max (depth_of_heritage heritage) (most (map depth_of_class_element elements))
unfolding depth_of_class_element depth_of_heritage depth_of_class
levels_Class word name heritage begin elements ending = fold-roll-Class ℕ ℕ ℕ ℕ ℕ ℕ ℕ ℕ ℕ ℕ ℕ ℕ ℕ ℕ ℕ ℕ ℕ ℕ ℕ ℕ ℕ ℕ ℕ ℕ ℕ ℕ ℕ class_element_depth heritage_depth expression_depth link_depth concise_body_depth element_depth property_name_depth case_clause_depth else_depth finalizer_depth for_start_depth handler_depth maybe_expression_depth statement_depth class_depth operand_depth substitution_depth substitutions_depth function_depth method_depth bracketed_depth elements_depth next_element_depth block_depth declaration_depth else_if_depth if_clause_depth (record { word = word; name = name; heritage = heritage; begin = begin; elements = elements; ending = ending })

pub levels_at_Class : (y : Class) → depth_of_class y ≡ max (depth_of_heritage (out-Class y).heritage) (most (map depth_of_class_element (out-Class y).elements))
levels_at_Class y = ap (depth_of_class) (sym (roll-out-Class y)) ∙ levels_Class (out-Class y).word (out-Class y).name (out-Class y).heritage (out-Class y).begin (out-Class y).elements (out-Class y).ending

pub levels_Operand : (operator : Token) (value : Expression) → depth_of_operand (roll-Operand (record { operator = operator; value = value })) ≡ depth_of_expression value
unfolding depth_of_expression depth_of_operand
levels_Operand operator value = fold-roll-Operand ℕ ℕ ℕ ℕ ℕ ℕ ℕ ℕ ℕ ℕ ℕ ℕ ℕ ℕ ℕ ℕ ℕ ℕ ℕ ℕ ℕ ℕ ℕ ℕ ℕ ℕ ℕ class_element_depth heritage_depth expression_depth link_depth concise_body_depth element_depth property_name_depth case_clause_depth else_depth finalizer_depth for_start_depth handler_depth maybe_expression_depth statement_depth class_depth operand_depth substitution_depth substitutions_depth function_depth method_depth bracketed_depth elements_depth next_element_depth block_depth declaration_depth else_if_depth if_clause_depth (record { operator = operator; value = value })

pub levels_at_Operand : (y : Operand) → depth_of_operand y ≡ depth_of_expression (out-Operand y).value
levels_at_Operand y = ap (depth_of_operand) (sym (roll-out-Operand y)) ∙ levels_Operand (out-Operand y).operator (out-Operand y).value

pub levels_Substitution : (middle : Token) (value : Expression) → depth_of_substitution (roll-Substitution (record { middle = middle; value = value })) ≡ depth_of_expression value
unfolding depth_of_expression depth_of_substitution
levels_Substitution middle value = fold-roll-Substitution ℕ ℕ ℕ ℕ ℕ ℕ ℕ ℕ ℕ ℕ ℕ ℕ ℕ ℕ ℕ ℕ ℕ ℕ ℕ ℕ ℕ ℕ ℕ ℕ ℕ ℕ ℕ class_element_depth heritage_depth expression_depth link_depth concise_body_depth element_depth property_name_depth case_clause_depth else_depth finalizer_depth for_start_depth handler_depth maybe_expression_depth statement_depth class_depth operand_depth substitution_depth substitutions_depth function_depth method_depth bracketed_depth elements_depth next_element_depth block_depth declaration_depth else_if_depth if_clause_depth (record { middle = middle; value = value })

pub levels_at_Substitution : (y : Substitution) → depth_of_substitution y ≡ depth_of_expression (out-Substitution y).value
levels_at_Substitution y = ap (depth_of_substitution) (sym (roll-out-Substitution y)) ∙ levels_Substitution (out-Substitution y).middle (out-Substitution y).value

pub levels_Substitutions : (head : Token) (first : Expression) (rest : List Substitution) (tail : Token) → depth_of_substitutions (roll-Substitutions (record { head = head; first = first; rest = rest; tail = tail })) ≡ max (depth_of_expression first) (most (map depth_of_substitution rest))
unfolding depth_of_expression depth_of_substitution depth_of_substitutions
levels_Substitutions head first rest tail = fold-roll-Substitutions ℕ ℕ ℕ ℕ ℕ ℕ ℕ ℕ ℕ ℕ ℕ ℕ ℕ ℕ ℕ ℕ ℕ ℕ ℕ ℕ ℕ ℕ ℕ ℕ ℕ ℕ ℕ class_element_depth heritage_depth expression_depth link_depth concise_body_depth element_depth property_name_depth case_clause_depth else_depth finalizer_depth for_start_depth handler_depth maybe_expression_depth statement_depth class_depth operand_depth substitution_depth substitutions_depth function_depth method_depth bracketed_depth elements_depth next_element_depth block_depth declaration_depth else_if_depth if_clause_depth (record { head = head; first = first; rest = rest; tail = tail })

pub levels_at_Substitutions : (y : Substitutions) → depth_of_substitutions y ≡ max (depth_of_expression (out-Substitutions y).first) (most (map depth_of_substitution (out-Substitutions y).rest))
levels_at_Substitutions y = ap (depth_of_substitutions) (sym (roll-out-Substitutions y)) ∙ levels_Substitutions (out-Substitutions y).head (out-Substitutions y).first (out-Substitutions y).rest (out-Substitutions y).tail

pub levels_Function : (async_word : Option Token) (word : Token) (star : Option Token) (name : Option Token) (parameters : Bracketed) (body : Block) → depth_of_function (roll-Function (record { async_word = async_word; word = word; star = star; name = name; parameters = parameters; body = body })) ≡ max (depth_of_bracketed parameters) (depth_of_block body)
unfolding depth_of_function depth_of_bracketed depth_of_block
levels_Function async_word word star name parameters body = fold-roll-Function ℕ ℕ ℕ ℕ ℕ ℕ ℕ ℕ ℕ ℕ ℕ ℕ ℕ ℕ ℕ ℕ ℕ ℕ ℕ ℕ ℕ ℕ ℕ ℕ ℕ ℕ ℕ class_element_depth heritage_depth expression_depth link_depth concise_body_depth element_depth property_name_depth case_clause_depth else_depth finalizer_depth for_start_depth handler_depth maybe_expression_depth statement_depth class_depth operand_depth substitution_depth substitutions_depth function_depth method_depth bracketed_depth elements_depth next_element_depth block_depth declaration_depth else_if_depth if_clause_depth (record { async_word = async_word; word = word; star = star; name = name; parameters = parameters; body = body })

pub levels_at_Function : (y : Function) → depth_of_function y ≡ max (depth_of_bracketed (out-Function y).parameters) (depth_of_block (out-Function y).body)
levels_at_Function y = ap (depth_of_function) (sym (roll-out-Function y)) ∙ levels_Function (out-Function y).async_word (out-Function y).word (out-Function y).star (out-Function y).name (out-Function y).parameters (out-Function y).body

pub levels_Method : (word : Option Token) (star : Option Token) (name : PropertyName) (parameters : Bracketed) (body : Block) → depth_of_method (roll-Method (record { word = word; star = star; name = name; parameters = parameters; body = body })) ≡ max (depth_of_property_name name) (max (depth_of_bracketed parameters) (depth_of_block body)) + 1
unfolding depth_of_property_name depth_of_method depth_of_bracketed depth_of_block
levels_Method word star name parameters body = fold-roll-Method ℕ ℕ ℕ ℕ ℕ ℕ ℕ ℕ ℕ ℕ ℕ ℕ ℕ ℕ ℕ ℕ ℕ ℕ ℕ ℕ ℕ ℕ ℕ ℕ ℕ ℕ ℕ class_element_depth heritage_depth expression_depth link_depth concise_body_depth element_depth property_name_depth case_clause_depth else_depth finalizer_depth for_start_depth handler_depth maybe_expression_depth statement_depth class_depth operand_depth substitution_depth substitutions_depth function_depth method_depth bracketed_depth elements_depth next_element_depth block_depth declaration_depth else_if_depth if_clause_depth (record { word = word; star = star; name = name; parameters = parameters; body = body })

pub levels_at_Method : (y : Method) → depth_of_method y ≡ max (depth_of_property_name (out-Method y).name) (max (depth_of_bracketed (out-Method y).parameters) (depth_of_block (out-Method y).body)) + 1
levels_at_Method y = ap (depth_of_method) (sym (roll-out-Method y)) ∙ levels_Method (out-Method y).word (out-Method y).star (out-Method y).name (out-Method y).parameters (out-Method y).body

pub levels_Bracketed : (begin : Token) (list : Elements) (ending : Token) → depth_of_bracketed (roll-Bracketed (record { begin = begin; list = list; ending = ending })) ≡ depth_of_elements list
unfolding depth_of_bracketed depth_of_elements
levels_Bracketed begin list ending = fold-roll-Bracketed ℕ ℕ ℕ ℕ ℕ ℕ ℕ ℕ ℕ ℕ ℕ ℕ ℕ ℕ ℕ ℕ ℕ ℕ ℕ ℕ ℕ ℕ ℕ ℕ ℕ ℕ ℕ class_element_depth heritage_depth expression_depth link_depth concise_body_depth element_depth property_name_depth case_clause_depth else_depth finalizer_depth for_start_depth handler_depth maybe_expression_depth statement_depth class_depth operand_depth substitution_depth substitutions_depth function_depth method_depth bracketed_depth elements_depth next_element_depth block_depth declaration_depth else_if_depth if_clause_depth (record { begin = begin; list = list; ending = ending })

pub levels_at_Bracketed : (y : Bracketed) → depth_of_bracketed y ≡ depth_of_elements (out-Bracketed y).list
levels_at_Bracketed y = ap (depth_of_bracketed) (sym (roll-out-Bracketed y)) ∙ levels_Bracketed (out-Bracketed y).begin (out-Bracketed y).list (out-Bracketed y).ending

pub levels_Elements : (first : Element) (rest : List NextElement) → depth_of_elements (roll-Elements (record { first = first; rest = rest })) ≡ max (depth_of_element first) (most (map depth_of_next_element rest))
unfolding depth_of_element depth_of_elements depth_of_next_element
levels_Elements first rest = fold-roll-Elements ℕ ℕ ℕ ℕ ℕ ℕ ℕ ℕ ℕ ℕ ℕ ℕ ℕ ℕ ℕ ℕ ℕ ℕ ℕ ℕ ℕ ℕ ℕ ℕ ℕ ℕ ℕ class_element_depth heritage_depth expression_depth link_depth concise_body_depth element_depth property_name_depth case_clause_depth else_depth finalizer_depth for_start_depth handler_depth maybe_expression_depth statement_depth class_depth operand_depth substitution_depth substitutions_depth function_depth method_depth bracketed_depth elements_depth next_element_depth block_depth declaration_depth else_if_depth if_clause_depth (record { first = first; rest = rest })

pub levels_at_Elements : (y : Elements) → depth_of_elements y ≡ max (depth_of_element (out-Elements y).first) (most (map depth_of_next_element (out-Elements y).rest))
levels_at_Elements y = ap (depth_of_elements) (sym (roll-out-Elements y)) ∙ levels_Elements (out-Elements y).first (out-Elements y).rest

pub levels_NextElement : (comma : Token) (element : Element) → depth_of_next_element (roll-NextElement (record { comma = comma; element = element })) ≡ depth_of_element element
unfolding depth_of_element depth_of_next_element
levels_NextElement comma element = fold-roll-NextElement ℕ ℕ ℕ ℕ ℕ ℕ ℕ ℕ ℕ ℕ ℕ ℕ ℕ ℕ ℕ ℕ ℕ ℕ ℕ ℕ ℕ ℕ ℕ ℕ ℕ ℕ ℕ class_element_depth heritage_depth expression_depth link_depth concise_body_depth element_depth property_name_depth case_clause_depth else_depth finalizer_depth for_start_depth handler_depth maybe_expression_depth statement_depth class_depth operand_depth substitution_depth substitutions_depth function_depth method_depth bracketed_depth elements_depth next_element_depth block_depth declaration_depth else_if_depth if_clause_depth (record { comma = comma; element = element })

pub levels_at_NextElement : (y : NextElement) → depth_of_next_element y ≡ depth_of_element (out-NextElement y).element
levels_at_NextElement y = ap (depth_of_next_element) (sym (roll-out-NextElement y)) ∙ levels_NextElement (out-NextElement y).comma (out-NextElement y).element

pub levels_Block : (begin : Token) (body : List Statement) (ending : Token) → depth_of_block (roll-Block (record { begin = begin; body = body; ending = ending })) ≡ most (map depth_of_statement body)
unfolding depth_of_statement depth_of_block
levels_Block begin body ending = fold-roll-Block ℕ ℕ ℕ ℕ ℕ ℕ ℕ ℕ ℕ ℕ ℕ ℕ ℕ ℕ ℕ ℕ ℕ ℕ ℕ ℕ ℕ ℕ ℕ ℕ ℕ ℕ ℕ class_element_depth heritage_depth expression_depth link_depth concise_body_depth element_depth property_name_depth case_clause_depth else_depth finalizer_depth for_start_depth handler_depth maybe_expression_depth statement_depth class_depth operand_depth substitution_depth substitutions_depth function_depth method_depth bracketed_depth elements_depth next_element_depth block_depth declaration_depth else_if_depth if_clause_depth (record { begin = begin; body = body; ending = ending })

pub levels_at_Block : (y : Block) → depth_of_block y ≡ most (map depth_of_statement (out-Block y).body)
levels_at_Block y = ap (depth_of_block) (sym (roll-out-Block y)) ∙ levels_Block (out-Block y).begin (out-Block y).body (out-Block y).ending

pub levels_Declaration : (word : Token) (bindings : Elements) → depth_of_declaration (roll-Declaration (record { word = word; bindings = bindings })) ≡ depth_of_elements bindings
unfolding depth_of_elements depth_of_declaration
levels_Declaration word bindings = fold-roll-Declaration ℕ ℕ ℕ ℕ ℕ ℕ ℕ ℕ ℕ ℕ ℕ ℕ ℕ ℕ ℕ ℕ ℕ ℕ ℕ ℕ ℕ ℕ ℕ ℕ ℕ ℕ ℕ class_element_depth heritage_depth expression_depth link_depth concise_body_depth element_depth property_name_depth case_clause_depth else_depth finalizer_depth for_start_depth handler_depth maybe_expression_depth statement_depth class_depth operand_depth substitution_depth substitutions_depth function_depth method_depth bracketed_depth elements_depth next_element_depth block_depth declaration_depth else_if_depth if_clause_depth (record { word = word; bindings = bindings })

pub levels_at_Declaration : (y : Declaration) → depth_of_declaration y ≡ depth_of_elements (out-Declaration y).bindings
levels_at_Declaration y = ap (depth_of_declaration) (sym (roll-out-Declaration y)) ∙ levels_Declaration (out-Declaration y).word (out-Declaration y).bindings

pub levels_ElseIf : (else_word : Token) (clause : IfClause) → depth_of_else_if (roll-ElseIf (record { else_word = else_word; clause = clause })) ≡ depth_of_if_clause clause
unfolding depth_of_else_if depth_of_if_clause
levels_ElseIf else_word clause = fold-roll-ElseIf ℕ ℕ ℕ ℕ ℕ ℕ ℕ ℕ ℕ ℕ ℕ ℕ ℕ ℕ ℕ ℕ ℕ ℕ ℕ ℕ ℕ ℕ ℕ ℕ ℕ ℕ ℕ class_element_depth heritage_depth expression_depth link_depth concise_body_depth element_depth property_name_depth case_clause_depth else_depth finalizer_depth for_start_depth handler_depth maybe_expression_depth statement_depth class_depth operand_depth substitution_depth substitutions_depth function_depth method_depth bracketed_depth elements_depth next_element_depth block_depth declaration_depth else_if_depth if_clause_depth (record { else_word = else_word; clause = clause })

pub levels_at_ElseIf : (y : ElseIf) → depth_of_else_if y ≡ depth_of_if_clause (out-ElseIf y).clause
levels_at_ElseIf y = ap (depth_of_else_if) (sym (roll-out-ElseIf y)) ∙ levels_ElseIf (out-ElseIf y).else_word (out-ElseIf y).clause

pub levels_IfClause : (word : Token) (begin : Token) (condition : Expression) (ending : Token) (body : Statement) → depth_of_if_clause (roll-IfClause (record { word = word; begin = begin; condition = condition; ending = ending; body = body })) ≡ max (depth_of_expression condition) (depth_of_statement body)
unfolding depth_of_expression depth_of_statement depth_of_if_clause
levels_IfClause word begin condition ending body = fold-roll-IfClause ℕ ℕ ℕ ℕ ℕ ℕ ℕ ℕ ℕ ℕ ℕ ℕ ℕ ℕ ℕ ℕ ℕ ℕ ℕ ℕ ℕ ℕ ℕ ℕ ℕ ℕ ℕ class_element_depth heritage_depth expression_depth link_depth concise_body_depth element_depth property_name_depth case_clause_depth else_depth finalizer_depth for_start_depth handler_depth maybe_expression_depth statement_depth class_depth operand_depth substitution_depth substitutions_depth function_depth method_depth bracketed_depth elements_depth next_element_depth block_depth declaration_depth else_if_depth if_clause_depth (record { word = word; begin = begin; condition = condition; ending = ending; body = body })

pub levels_at_IfClause : (y : IfClause) → depth_of_if_clause y ≡ max (depth_of_expression (out-IfClause y).condition) (depth_of_statement (out-IfClause y).body)
levels_at_IfClause y = ap (depth_of_if_clause) (sym (roll-out-IfClause y)) ∙ levels_IfClause (out-IfClause y).word (out-IfClause y).begin (out-IfClause y).condition (out-IfClause y).ending (out-IfClause y).body
