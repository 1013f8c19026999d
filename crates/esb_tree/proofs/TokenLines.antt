-- The tokens of each kind of node.
use Rattle.std.proofs.Common.{◌≡◌, List, [], ◌∷◌, ◌++◌, map, Option, refl, ap, sym, ◌∙◌}
use Rattle.std.specs.List.{flat_map}
use Rattle.esb_token.specs.declared.token.Token.{Token}
use Rattle.esb_tree.specs.declared.classes.ClassElement.TheOpen.{CaseClause-F, ClassElement-F, ConciseBody-F, Element-F, Else-F, Expression-F, Finalizer-F, ForStart-F, Handler-F, Heritage-F, Link-F, MaybeExpression-F, PropertyName-F, Statement-F}
use Rattle.esb_tree.specs.declared.classes.ClassElement.TheFolds.{fold-roll-ClassElement, fold-roll-Heritage, fold-roll-Expression, fold-roll-Link, fold-roll-ConciseBody, fold-roll-Element, fold-roll-PropertyName, fold-roll-CaseClause, fold-roll-Else, fold-roll-Finalizer, fold-roll-ForStart, fold-roll-Handler, fold-roll-MaybeExpression, fold-roll-Statement, fold-roll-Class, fold-roll-Operand, fold-roll-Substitution, fold-roll-Substitutions, fold-roll-Function, fold-roll-Method, fold-roll-Bracketed, fold-roll-Elements, fold-roll-NextElement, fold-roll-Block, fold-roll-Declaration, fold-roll-ElseIf, fold-roll-IfClause}
use Rattle.esb_tree.specs.declared.statements.CaseClause.{CaseClause}
use Rattle.esb_tree.specs.declared.statements.CaseClause.TheVariants as cc
use Rattle.esb_tree.specs.declared.classes.ClassElement.{ClassElement}
use Rattle.esb_tree.specs.declared.classes.ClassElement.TheVariants as ce
use Rattle.esb_tree.specs.declared.functions.ConciseBody.{ConciseBody}
use Rattle.esb_tree.specs.declared.functions.ConciseBody.TheVariants as cb
use Rattle.esb_tree.specs.declared.patterns.Element.{Element}
use Rattle.esb_tree.specs.declared.patterns.Element.TheVariants as el
use Rattle.esb_tree.specs.declared.statements.Else.{Else}
use Rattle.esb_tree.specs.declared.statements.Else.TheVariants as ot
use Rattle.esb_tree.specs.declared.expressions.Expression.{Expression}
use Rattle.esb_tree.specs.declared.expressions.Expression.TheVariants as e
use Rattle.esb_tree.specs.declared.statements.Finalizer.{Finalizer}
use Rattle.esb_tree.specs.declared.statements.Finalizer.TheVariants as fi
use Rattle.esb_tree.specs.declared.statements.ForStart.{ForStart}
use Rattle.esb_tree.specs.declared.statements.ForStart.TheVariants as fs
use Rattle.esb_tree.specs.declared.statements.Handler.{Handler}
use Rattle.esb_tree.specs.declared.statements.Handler.TheVariants as ha
use Rattle.esb_tree.specs.declared.classes.Heritage.{Heritage}
use Rattle.esb_tree.specs.declared.classes.Heritage.TheVariants as he
use Rattle.esb_tree.specs.declared.expressions.Link.{Link}
use Rattle.esb_tree.specs.declared.expressions.Link.TheVariants as l
use Rattle.esb_tree.specs.declared.statements.MaybeExpression.{MaybeExpression}
use Rattle.esb_tree.specs.declared.statements.MaybeExpression.TheVariants as me
use Rattle.esb_tree.specs.declared.patterns.PropertyName.{PropertyName}
use Rattle.esb_tree.specs.declared.patterns.PropertyName.TheVariants as pn
use Rattle.esb_tree.specs.declared.statements.Statement.{Statement}
use Rattle.esb_tree.specs.declared.statements.Statement.TheVariants as s
use Rattle.esb_tree.specs.declared.statements.Block.{Block, roll-Block, out-Block, roll-out-Block}
use Rattle.esb_tree.specs.declared.patterns.Bracketed.{Bracketed, roll-Bracketed, out-Bracketed, roll-out-Bracketed}
use Rattle.esb_tree.specs.declared.classes.Class.{Class, roll-Class, out-Class, roll-out-Class}
use Rattle.esb_tree.specs.declared.statements.Declaration.{Declaration, roll-Declaration, out-Declaration, roll-out-Declaration}
use Rattle.esb_tree.specs.declared.patterns.Elements.{Elements, roll-Elements, out-Elements, roll-out-Elements}
use Rattle.esb_tree.specs.declared.statements.ElseIf.{ElseIf, roll-ElseIf, out-ElseIf, roll-out-ElseIf}
use Rattle.esb_tree.specs.declared.functions.Function.{Function, roll-Function, out-Function, roll-out-Function}
use Rattle.esb_tree.specs.declared.statements.IfClause.{IfClause, roll-IfClause, out-IfClause, roll-out-IfClause}
use Rattle.esb_tree.specs.declared.functions.Method.{Method, roll-Method, out-Method, roll-out-Method}
use Rattle.esb_tree.specs.declared.patterns.NextElement.{NextElement, roll-NextElement, out-NextElement, roll-out-NextElement}
use Rattle.esb_tree.specs.declared.expressions.Operand.{Operand, roll-Operand, out-Operand, roll-out-Operand}
use Rattle.esb_tree.specs.declared.expressions.Substitution.{Substitution, roll-Substitution, out-Substitution, roll-out-Substitution}
use Rattle.esb_tree.specs.declared.expressions.Substitutions.{Substitutions, roll-Substitutions, out-Substitutions, roll-out-Substitutions}
use Rattle.esb_tree.specs.Yields.{Tokens, Marking, maybe_token, class_element_tokens, heritage_tokens, expression_tokens, link_tokens, concise_body_tokens, element_tokens, property_name_tokens, case_clause_tokens, else_tokens, finalizer_tokens, for_start_tokens, handler_tokens, maybe_expression_tokens, statement_tokens, class_tokens, operand_tokens, substitution_tokens, substitutions_tokens, function_tokens, method_tokens, bracketed_tokens, elements_tokens, next_element_tokens, block_tokens, declaration_tokens, else_if_tokens, if_clause_tokens, tokens_of_class_element, tokens_of_heritage, tokens_of_expression, tokens_of_link, tokens_of_concise_body, tokens_of_element, tokens_of_property_name, tokens_of_case_clause, tokens_of_else, tokens_of_finalizer, tokens_of_for_start, tokens_of_handler, tokens_of_maybe_expression, tokens_of_statement, tokens_of_class, tokens_of_operand, tokens_of_substitution, tokens_of_substitutions, tokens_of_function, tokens_of_method, tokens_of_bracketed, tokens_of_elements, tokens_of_next_element, tokens_of_block, tokens_of_declaration, tokens_of_else_if, tokens_of_if_clause}

flat_map_id : {A B : Type 0} (f : A → List B) (xs : List A) → flat_map (λ ts. ts) (map f xs) ≡ flat_map f xs
flat_map_id f [] = refl
flat_map_id f (x ∷ xs) = ap (λ ts. f x ++ ts) (flat_map_id f xs)

pub tokens_ClassMethod : (mark : Marking) (word : Option Token) (method : Method) → tokens_of_class_element mark (ce.ClassMethod word method) ≡ maybe_token word ++ (tokens_of_method mark method)
unfolding tokens_of_class_element tokens_of_method
tokens_ClassMethod mark word method = ap (tokens_of_class_element mark) (sym (ce.rolls-ClassMethod word method)) ∙ fold-roll-ClassElement Tokens Tokens Tokens Tokens Tokens Tokens Tokens Tokens Tokens Tokens Tokens Tokens Tokens Tokens Tokens Tokens Tokens Tokens Tokens Tokens Tokens Tokens Tokens Tokens Tokens Tokens Tokens class_element_tokens heritage_tokens expression_tokens link_tokens concise_body_tokens element_tokens property_name_tokens case_clause_tokens else_tokens finalizer_tokens for_start_tokens handler_tokens maybe_expression_tokens (statement_tokens mark) class_tokens operand_tokens substitution_tokens substitutions_tokens function_tokens method_tokens bracketed_tokens elements_tokens next_element_tokens block_tokens declaration_tokens else_if_tokens if_clause_tokens (ClassElement-F.ClassMethod word method)

pub tokens_is_ClassMethod : (mark : Marking) (y : ClassElement) (word : Option Token) (method : Method) → y ≡ ce.ClassMethod word method → tokens_of_class_element mark y ≡ maybe_token word ++ (tokens_of_method mark method)
tokens_is_ClassMethod mark y word method h = ap (tokens_of_class_element mark) h ∙ (tokens_ClassMethod mark word method)

pub tokens_EmptyElement : (mark : Marking) (semicolon : Token) → tokens_of_class_element mark (ce.EmptyElement semicolon) ≡ semicolon ∷ []
unfolding tokens_of_class_element
tokens_EmptyElement mark semicolon = ap (tokens_of_class_element mark) (sym (ce.rolls-EmptyElement semicolon)) ∙ fold-roll-ClassElement Tokens Tokens Tokens Tokens Tokens Tokens Tokens Tokens Tokens Tokens Tokens Tokens Tokens Tokens Tokens Tokens Tokens Tokens Tokens Tokens Tokens Tokens Tokens Tokens Tokens Tokens Tokens class_element_tokens heritage_tokens expression_tokens link_tokens concise_body_tokens element_tokens property_name_tokens case_clause_tokens else_tokens finalizer_tokens for_start_tokens handler_tokens maybe_expression_tokens (statement_tokens mark) class_tokens operand_tokens substitution_tokens substitutions_tokens function_tokens method_tokens bracketed_tokens elements_tokens next_element_tokens block_tokens declaration_tokens else_if_tokens if_clause_tokens (ClassElement-F.EmptyElement semicolon)

pub tokens_is_EmptyElement : (mark : Marking) (y : ClassElement) (semicolon : Token) → y ≡ ce.EmptyElement semicolon → tokens_of_class_element mark y ≡ semicolon ∷ []
tokens_is_EmptyElement mark y semicolon h = ap (tokens_of_class_element mark) h ∙ (tokens_EmptyElement mark semicolon)

pub tokens_NoHeritage : (mark : Marking) → tokens_of_heritage mark (he.NoHeritage) ≡ []
unfolding tokens_of_heritage
tokens_NoHeritage mark = ap (tokens_of_heritage mark) (sym (he.rolls-NoHeritage)) ∙ fold-roll-Heritage Tokens Tokens Tokens Tokens Tokens Tokens Tokens Tokens Tokens Tokens Tokens Tokens Tokens Tokens Tokens Tokens Tokens Tokens Tokens Tokens Tokens Tokens Tokens Tokens Tokens Tokens Tokens class_element_tokens heritage_tokens expression_tokens link_tokens concise_body_tokens element_tokens property_name_tokens case_clause_tokens else_tokens finalizer_tokens for_start_tokens handler_tokens maybe_expression_tokens (statement_tokens mark) class_tokens operand_tokens substitution_tokens substitutions_tokens function_tokens method_tokens bracketed_tokens elements_tokens next_element_tokens block_tokens declaration_tokens else_if_tokens if_clause_tokens (Heritage-F.NoHeritage)

pub tokens_is_NoHeritage : (mark : Marking) (y : Heritage) → y ≡ he.NoHeritage → tokens_of_heritage mark y ≡ []
tokens_is_NoHeritage mark y h = ap (tokens_of_heritage mark) h ∙ (tokens_NoHeritage mark)

pub tokens_Extends : (mark : Marking) (word : Token) (x : Expression) → tokens_of_heritage mark (he.Extends word x) ≡ word ∷ tokens_of_expression mark x
unfolding tokens_of_heritage tokens_of_expression
tokens_Extends mark word x = ap (tokens_of_heritage mark) (sym (he.rolls-Extends word x)) ∙ fold-roll-Heritage Tokens Tokens Tokens Tokens Tokens Tokens Tokens Tokens Tokens Tokens Tokens Tokens Tokens Tokens Tokens Tokens Tokens Tokens Tokens Tokens Tokens Tokens Tokens Tokens Tokens Tokens Tokens class_element_tokens heritage_tokens expression_tokens link_tokens concise_body_tokens element_tokens property_name_tokens case_clause_tokens else_tokens finalizer_tokens for_start_tokens handler_tokens maybe_expression_tokens (statement_tokens mark) class_tokens operand_tokens substitution_tokens substitutions_tokens function_tokens method_tokens bracketed_tokens elements_tokens next_element_tokens block_tokens declaration_tokens else_if_tokens if_clause_tokens (Heritage-F.Extends word x)

pub tokens_is_Extends : (mark : Marking) (y : Heritage) (word : Token) (x : Expression) → y ≡ he.Extends word x → tokens_of_heritage mark y ≡ word ∷ tokens_of_expression mark x
tokens_is_Extends mark y word x h = ap (tokens_of_heritage mark) h ∙ (tokens_Extends mark word x)

pub tokens_Primary : (mark : Marking) (t : Token) → tokens_of_expression mark (e.Primary t) ≡ t ∷ []
unfolding tokens_of_expression
tokens_Primary mark t = ap (tokens_of_expression mark) (sym (e.rolls-Primary t)) ∙ fold-roll-Expression Tokens Tokens Tokens Tokens Tokens Tokens Tokens Tokens Tokens Tokens Tokens Tokens Tokens Tokens Tokens Tokens Tokens Tokens Tokens Tokens Tokens Tokens Tokens Tokens Tokens Tokens Tokens class_element_tokens heritage_tokens expression_tokens link_tokens concise_body_tokens element_tokens property_name_tokens case_clause_tokens else_tokens finalizer_tokens for_start_tokens handler_tokens maybe_expression_tokens (statement_tokens mark) class_tokens operand_tokens substitution_tokens substitutions_tokens function_tokens method_tokens bracketed_tokens elements_tokens next_element_tokens block_tokens declaration_tokens else_if_tokens if_clause_tokens (Expression-F.Primary t)

pub tokens_is_Primary : (mark : Marking) (y : Expression) (t : Token) → y ≡ e.Primary t → tokens_of_expression mark y ≡ t ∷ []
tokens_is_Primary mark y t h = ap (tokens_of_expression mark) h ∙ (tokens_Primary mark t)

pub tokens_MetaProperty : (mark : Marking) (word : Token) (dot : Token) (name : Token) → tokens_of_expression mark (e.MetaProperty word dot name) ≡ word ∷ dot ∷ name ∷ []
unfolding tokens_of_expression
tokens_MetaProperty mark word dot name = ap (tokens_of_expression mark) (sym (e.rolls-MetaProperty word dot name)) ∙ fold-roll-Expression Tokens Tokens Tokens Tokens Tokens Tokens Tokens Tokens Tokens Tokens Tokens Tokens Tokens Tokens Tokens Tokens Tokens Tokens Tokens Tokens Tokens Tokens Tokens Tokens Tokens Tokens Tokens class_element_tokens heritage_tokens expression_tokens link_tokens concise_body_tokens element_tokens property_name_tokens case_clause_tokens else_tokens finalizer_tokens for_start_tokens handler_tokens maybe_expression_tokens (statement_tokens mark) class_tokens operand_tokens substitution_tokens substitutions_tokens function_tokens method_tokens bracketed_tokens elements_tokens next_element_tokens block_tokens declaration_tokens else_if_tokens if_clause_tokens (Expression-F.MetaProperty word dot name)

pub tokens_is_MetaProperty : (mark : Marking) (y : Expression) (word : Token) (dot : Token) (name : Token) → y ≡ e.MetaProperty word dot name → tokens_of_expression mark y ≡ word ∷ dot ∷ name ∷ []
tokens_is_MetaProperty mark y word dot name h = ap (tokens_of_expression mark) h ∙ (tokens_MetaProperty mark word dot name)

pub tokens_ArrayLiteral : (mark : Marking) (list : Bracketed) → tokens_of_expression mark (e.ArrayLiteral list) ≡ tokens_of_bracketed mark list
unfolding tokens_of_expression tokens_of_bracketed
tokens_ArrayLiteral mark list = ap (tokens_of_expression mark) (sym (e.rolls-ArrayLiteral list)) ∙ fold-roll-Expression Tokens Tokens Tokens Tokens Tokens Tokens Tokens Tokens Tokens Tokens Tokens Tokens Tokens Tokens Tokens Tokens Tokens Tokens Tokens Tokens Tokens Tokens Tokens Tokens Tokens Tokens Tokens class_element_tokens heritage_tokens expression_tokens link_tokens concise_body_tokens element_tokens property_name_tokens case_clause_tokens else_tokens finalizer_tokens for_start_tokens handler_tokens maybe_expression_tokens (statement_tokens mark) class_tokens operand_tokens substitution_tokens substitutions_tokens function_tokens method_tokens bracketed_tokens elements_tokens next_element_tokens block_tokens declaration_tokens else_if_tokens if_clause_tokens (Expression-F.ArrayLiteral list)

pub tokens_is_ArrayLiteral : (mark : Marking) (y : Expression) (list : Bracketed) → y ≡ e.ArrayLiteral list → tokens_of_expression mark y ≡ tokens_of_bracketed mark list
tokens_is_ArrayLiteral mark y list h = ap (tokens_of_expression mark) h ∙ (tokens_ArrayLiteral mark list)

pub tokens_ObjectLiteral : (mark : Marking) (list : Bracketed) → tokens_of_expression mark (e.ObjectLiteral list) ≡ tokens_of_bracketed mark list
unfolding tokens_of_expression tokens_of_bracketed
tokens_ObjectLiteral mark list = ap (tokens_of_expression mark) (sym (e.rolls-ObjectLiteral list)) ∙ fold-roll-Expression Tokens Tokens Tokens Tokens Tokens Tokens Tokens Tokens Tokens Tokens Tokens Tokens Tokens Tokens Tokens Tokens Tokens Tokens Tokens Tokens Tokens Tokens Tokens Tokens Tokens Tokens Tokens class_element_tokens heritage_tokens expression_tokens link_tokens concise_body_tokens element_tokens property_name_tokens case_clause_tokens else_tokens finalizer_tokens for_start_tokens handler_tokens maybe_expression_tokens (statement_tokens mark) class_tokens operand_tokens substitution_tokens substitutions_tokens function_tokens method_tokens bracketed_tokens elements_tokens next_element_tokens block_tokens declaration_tokens else_if_tokens if_clause_tokens (Expression-F.ObjectLiteral list)

pub tokens_is_ObjectLiteral : (mark : Marking) (y : Expression) (list : Bracketed) → y ≡ e.ObjectLiteral list → tokens_of_expression mark y ≡ tokens_of_bracketed mark list
tokens_is_ObjectLiteral mark y list h = ap (tokens_of_expression mark) h ∙ (tokens_ObjectLiteral mark list)

pub tokens_Parenthesized : (mark : Marking) (list : Bracketed) → tokens_of_expression mark (e.Parenthesized list) ≡ tokens_of_bracketed mark list
unfolding tokens_of_expression tokens_of_bracketed
tokens_Parenthesized mark list = ap (tokens_of_expression mark) (sym (e.rolls-Parenthesized list)) ∙ fold-roll-Expression Tokens Tokens Tokens Tokens Tokens Tokens Tokens Tokens Tokens Tokens Tokens Tokens Tokens Tokens Tokens Tokens Tokens Tokens Tokens Tokens Tokens Tokens Tokens Tokens Tokens Tokens Tokens class_element_tokens heritage_tokens expression_tokens link_tokens concise_body_tokens element_tokens property_name_tokens case_clause_tokens else_tokens finalizer_tokens for_start_tokens handler_tokens maybe_expression_tokens (statement_tokens mark) class_tokens operand_tokens substitution_tokens substitutions_tokens function_tokens method_tokens bracketed_tokens elements_tokens next_element_tokens block_tokens declaration_tokens else_if_tokens if_clause_tokens (Expression-F.Parenthesized list)

pub tokens_is_Parenthesized : (mark : Marking) (y : Expression) (list : Bracketed) → y ≡ e.Parenthesized list → tokens_of_expression mark y ≡ tokens_of_bracketed mark list
tokens_is_Parenthesized mark y list h = ap (tokens_of_expression mark) h ∙ (tokens_Parenthesized mark list)

pub tokens_TemplateLiteral : (mark : Marking) (template : Substitutions) → tokens_of_expression mark (e.TemplateLiteral template) ≡ tokens_of_substitutions mark template
unfolding tokens_of_expression tokens_of_substitutions
tokens_TemplateLiteral mark template = ap (tokens_of_expression mark) (sym (e.rolls-TemplateLiteral template)) ∙ fold-roll-Expression Tokens Tokens Tokens Tokens Tokens Tokens Tokens Tokens Tokens Tokens Tokens Tokens Tokens Tokens Tokens Tokens Tokens Tokens Tokens Tokens Tokens Tokens Tokens Tokens Tokens Tokens Tokens class_element_tokens heritage_tokens expression_tokens link_tokens concise_body_tokens element_tokens property_name_tokens case_clause_tokens else_tokens finalizer_tokens for_start_tokens handler_tokens maybe_expression_tokens (statement_tokens mark) class_tokens operand_tokens substitution_tokens substitutions_tokens function_tokens method_tokens bracketed_tokens elements_tokens next_element_tokens block_tokens declaration_tokens else_if_tokens if_clause_tokens (Expression-F.TemplateLiteral template)

pub tokens_is_TemplateLiteral : (mark : Marking) (y : Expression) (template : Substitutions) → y ≡ e.TemplateLiteral template → tokens_of_expression mark y ≡ tokens_of_substitutions mark template
tokens_is_TemplateLiteral mark y template h = ap (tokens_of_expression mark) h ∙ (tokens_TemplateLiteral mark template)

pub tokens_FunctionExpression : (mark : Marking) (function : Function) → tokens_of_expression mark (e.FunctionExpression function) ≡ tokens_of_function mark function
unfolding tokens_of_expression tokens_of_function
tokens_FunctionExpression mark function = ap (tokens_of_expression mark) (sym (e.rolls-FunctionExpression function)) ∙ fold-roll-Expression Tokens Tokens Tokens Tokens Tokens Tokens Tokens Tokens Tokens Tokens Tokens Tokens Tokens Tokens Tokens Tokens Tokens Tokens Tokens Tokens Tokens Tokens Tokens Tokens Tokens Tokens Tokens class_element_tokens heritage_tokens expression_tokens link_tokens concise_body_tokens element_tokens property_name_tokens case_clause_tokens else_tokens finalizer_tokens for_start_tokens handler_tokens maybe_expression_tokens (statement_tokens mark) class_tokens operand_tokens substitution_tokens substitutions_tokens function_tokens method_tokens bracketed_tokens elements_tokens next_element_tokens block_tokens declaration_tokens else_if_tokens if_clause_tokens (Expression-F.FunctionExpression function)

pub tokens_is_FunctionExpression : (mark : Marking) (y : Expression) (function : Function) → y ≡ e.FunctionExpression function → tokens_of_expression mark y ≡ tokens_of_function mark function
tokens_is_FunctionExpression mark y function h = ap (tokens_of_expression mark) h ∙ (tokens_FunctionExpression mark function)

pub tokens_ClassExpression : (mark : Marking) (class : Class) → tokens_of_expression mark (e.ClassExpression class) ≡ tokens_of_class mark class
unfolding tokens_of_expression tokens_of_class
tokens_ClassExpression mark class = ap (tokens_of_expression mark) (sym (e.rolls-ClassExpression class)) ∙ fold-roll-Expression Tokens Tokens Tokens Tokens Tokens Tokens Tokens Tokens Tokens Tokens Tokens Tokens Tokens Tokens Tokens Tokens Tokens Tokens Tokens Tokens Tokens Tokens Tokens Tokens Tokens Tokens Tokens class_element_tokens heritage_tokens expression_tokens link_tokens concise_body_tokens element_tokens property_name_tokens case_clause_tokens else_tokens finalizer_tokens for_start_tokens handler_tokens maybe_expression_tokens (statement_tokens mark) class_tokens operand_tokens substitution_tokens substitutions_tokens function_tokens method_tokens bracketed_tokens elements_tokens next_element_tokens block_tokens declaration_tokens else_if_tokens if_clause_tokens (Expression-F.ClassExpression class)

pub tokens_is_ClassExpression : (mark : Marking) (y : Expression) (class : Class) → y ≡ e.ClassExpression class → tokens_of_expression mark y ≡ tokens_of_class mark class
tokens_is_ClassExpression mark y class h = ap (tokens_of_expression mark) h ∙ (tokens_ClassExpression mark class)

pub tokens_Member : (mark : Marking) (object : Expression) (links : List Link) → tokens_of_expression mark (e.Member object links) ≡ tokens_of_expression mark object ++ (flat_map (tokens_of_link mark) links)
unfolding tokens_of_expression tokens_of_link
tokens_Member mark object links = ap (tokens_of_expression mark) (sym (e.rolls-Member object links)) ∙ fold-roll-Expression Tokens Tokens Tokens Tokens Tokens Tokens Tokens Tokens Tokens Tokens Tokens Tokens Tokens Tokens Tokens Tokens Tokens Tokens Tokens Tokens Tokens Tokens Tokens Tokens Tokens Tokens Tokens class_element_tokens heritage_tokens expression_tokens link_tokens concise_body_tokens element_tokens property_name_tokens case_clause_tokens else_tokens finalizer_tokens for_start_tokens handler_tokens maybe_expression_tokens (statement_tokens mark) class_tokens operand_tokens substitution_tokens substitutions_tokens function_tokens method_tokens bracketed_tokens elements_tokens next_element_tokens block_tokens declaration_tokens else_if_tokens if_clause_tokens (Expression-F.Member object links) ∙ ap (λ ts. tokens_of_expression mark object ++ (ts)) (flat_map_id (tokens_of_link mark) links)

pub tokens_is_Member : (mark : Marking) (y : Expression) (object : Expression) (links : List Link) → y ≡ e.Member object links → tokens_of_expression mark y ≡ tokens_of_expression mark object ++ (flat_map (tokens_of_link mark) links)
tokens_is_Member mark y object links h = ap (tokens_of_expression mark) h ∙ (tokens_Member mark object links)

pub tokens_New : (mark : Marking) (word : Token) (callee : Expression) (arguments : Bracketed) → tokens_of_expression mark (e.New word callee arguments) ≡ word ∷ (tokens_of_expression mark callee ++ (tokens_of_bracketed mark arguments))
unfolding tokens_of_expression tokens_of_bracketed
tokens_New mark word callee arguments = ap (tokens_of_expression mark) (sym (e.rolls-New word callee arguments)) ∙ fold-roll-Expression Tokens Tokens Tokens Tokens Tokens Tokens Tokens Tokens Tokens Tokens Tokens Tokens Tokens Tokens Tokens Tokens Tokens Tokens Tokens Tokens Tokens Tokens Tokens Tokens Tokens Tokens Tokens class_element_tokens heritage_tokens expression_tokens link_tokens concise_body_tokens element_tokens property_name_tokens case_clause_tokens else_tokens finalizer_tokens for_start_tokens handler_tokens maybe_expression_tokens (statement_tokens mark) class_tokens operand_tokens substitution_tokens substitutions_tokens function_tokens method_tokens bracketed_tokens elements_tokens next_element_tokens block_tokens declaration_tokens else_if_tokens if_clause_tokens (Expression-F.New word callee arguments)

pub tokens_is_New : (mark : Marking) (y : Expression) (word : Token) (callee : Expression) (arguments : Bracketed) → y ≡ e.New word callee arguments → tokens_of_expression mark y ≡ word ∷ (tokens_of_expression mark callee ++ (tokens_of_bracketed mark arguments))
tokens_is_New mark y word callee arguments h = ap (tokens_of_expression mark) h ∙ (tokens_New mark word callee arguments)

pub tokens_NewPlain : (mark : Marking) (word : Token) (callee : Expression) → tokens_of_expression mark (e.NewPlain word callee) ≡ word ∷ tokens_of_expression mark callee
unfolding tokens_of_expression
tokens_NewPlain mark word callee = ap (tokens_of_expression mark) (sym (e.rolls-NewPlain word callee)) ∙ fold-roll-Expression Tokens Tokens Tokens Tokens Tokens Tokens Tokens Tokens Tokens Tokens Tokens Tokens Tokens Tokens Tokens Tokens Tokens Tokens Tokens Tokens Tokens Tokens Tokens Tokens Tokens Tokens Tokens class_element_tokens heritage_tokens expression_tokens link_tokens concise_body_tokens element_tokens property_name_tokens case_clause_tokens else_tokens finalizer_tokens for_start_tokens handler_tokens maybe_expression_tokens (statement_tokens mark) class_tokens operand_tokens substitution_tokens substitutions_tokens function_tokens method_tokens bracketed_tokens elements_tokens next_element_tokens block_tokens declaration_tokens else_if_tokens if_clause_tokens (Expression-F.NewPlain word callee)

pub tokens_is_NewPlain : (mark : Marking) (y : Expression) (word : Token) (callee : Expression) → y ≡ e.NewPlain word callee → tokens_of_expression mark y ≡ word ∷ tokens_of_expression mark callee
tokens_is_NewPlain mark y word callee h = ap (tokens_of_expression mark) h ∙ (tokens_NewPlain mark word callee)

pub tokens_ImportCall : (mark : Marking) (word : Token) (begin : Token) (x : Expression) (ending : Token) → tokens_of_expression mark (e.ImportCall word begin x ending) ≡ word ∷ (begin ∷ (tokens_of_expression mark x ++ (ending ∷ [])))
unfolding tokens_of_expression
tokens_ImportCall mark word begin x ending = ap (tokens_of_expression mark) (sym (e.rolls-ImportCall word begin x ending)) ∙ fold-roll-Expression Tokens Tokens Tokens Tokens Tokens Tokens Tokens Tokens Tokens Tokens Tokens Tokens Tokens Tokens Tokens Tokens Tokens Tokens Tokens Tokens Tokens Tokens Tokens Tokens Tokens Tokens Tokens class_element_tokens heritage_tokens expression_tokens link_tokens concise_body_tokens element_tokens property_name_tokens case_clause_tokens else_tokens finalizer_tokens for_start_tokens handler_tokens maybe_expression_tokens (statement_tokens mark) class_tokens operand_tokens substitution_tokens substitutions_tokens function_tokens method_tokens bracketed_tokens elements_tokens next_element_tokens block_tokens declaration_tokens else_if_tokens if_clause_tokens (Expression-F.ImportCall word begin x ending)

pub tokens_is_ImportCall : (mark : Marking) (y : Expression) (word : Token) (begin : Token) (x : Expression) (ending : Token) → y ≡ e.ImportCall word begin x ending → tokens_of_expression mark y ≡ word ∷ (begin ∷ (tokens_of_expression mark x ++ (ending ∷ [])))
tokens_is_ImportCall mark y word begin x ending h = ap (tokens_of_expression mark) h ∙ (tokens_ImportCall mark word begin x ending)

pub tokens_PrefixUpdate : (mark : Marking) (operator : Token) (x : Expression) → tokens_of_expression mark (e.PrefixUpdate operator x) ≡ operator ∷ tokens_of_expression mark x
unfolding tokens_of_expression
tokens_PrefixUpdate mark operator x = ap (tokens_of_expression mark) (sym (e.rolls-PrefixUpdate operator x)) ∙ fold-roll-Expression Tokens Tokens Tokens Tokens Tokens Tokens Tokens Tokens Tokens Tokens Tokens Tokens Tokens Tokens Tokens Tokens Tokens Tokens Tokens Tokens Tokens Tokens Tokens Tokens Tokens Tokens Tokens class_element_tokens heritage_tokens expression_tokens link_tokens concise_body_tokens element_tokens property_name_tokens case_clause_tokens else_tokens finalizer_tokens for_start_tokens handler_tokens maybe_expression_tokens (statement_tokens mark) class_tokens operand_tokens substitution_tokens substitutions_tokens function_tokens method_tokens bracketed_tokens elements_tokens next_element_tokens block_tokens declaration_tokens else_if_tokens if_clause_tokens (Expression-F.PrefixUpdate operator x)

pub tokens_is_PrefixUpdate : (mark : Marking) (y : Expression) (operator : Token) (x : Expression) → y ≡ e.PrefixUpdate operator x → tokens_of_expression mark y ≡ operator ∷ tokens_of_expression mark x
tokens_is_PrefixUpdate mark y operator x h = ap (tokens_of_expression mark) h ∙ (tokens_PrefixUpdate mark operator x)

pub tokens_PostfixUpdate : (mark : Marking) (x : Expression) (operator : Token) → tokens_of_expression mark (e.PostfixUpdate x operator) ≡ tokens_of_expression mark x ++ (operator ∷ [])
unfolding tokens_of_expression
tokens_PostfixUpdate mark x operator = ap (tokens_of_expression mark) (sym (e.rolls-PostfixUpdate x operator)) ∙ fold-roll-Expression Tokens Tokens Tokens Tokens Tokens Tokens Tokens Tokens Tokens Tokens Tokens Tokens Tokens Tokens Tokens Tokens Tokens Tokens Tokens Tokens Tokens Tokens Tokens Tokens Tokens Tokens Tokens class_element_tokens heritage_tokens expression_tokens link_tokens concise_body_tokens element_tokens property_name_tokens case_clause_tokens else_tokens finalizer_tokens for_start_tokens handler_tokens maybe_expression_tokens (statement_tokens mark) class_tokens operand_tokens substitution_tokens substitutions_tokens function_tokens method_tokens bracketed_tokens elements_tokens next_element_tokens block_tokens declaration_tokens else_if_tokens if_clause_tokens (Expression-F.PostfixUpdate x operator)

pub tokens_is_PostfixUpdate : (mark : Marking) (y : Expression) (x : Expression) (operator : Token) → y ≡ e.PostfixUpdate x operator → tokens_of_expression mark y ≡ tokens_of_expression mark x ++ (operator ∷ [])
tokens_is_PostfixUpdate mark y x operator h = ap (tokens_of_expression mark) h ∙ (tokens_PostfixUpdate mark x operator)

pub tokens_Unary : (mark : Marking) (operator : Token) (x : Expression) → tokens_of_expression mark (e.Unary operator x) ≡ operator ∷ tokens_of_expression mark x
unfolding tokens_of_expression
tokens_Unary mark operator x = ap (tokens_of_expression mark) (sym (e.rolls-Unary operator x)) ∙ fold-roll-Expression Tokens Tokens Tokens Tokens Tokens Tokens Tokens Tokens Tokens Tokens Tokens Tokens Tokens Tokens Tokens Tokens Tokens Tokens Tokens Tokens Tokens Tokens Tokens Tokens Tokens Tokens Tokens class_element_tokens heritage_tokens expression_tokens link_tokens concise_body_tokens element_tokens property_name_tokens case_clause_tokens else_tokens finalizer_tokens for_start_tokens handler_tokens maybe_expression_tokens (statement_tokens mark) class_tokens operand_tokens substitution_tokens substitutions_tokens function_tokens method_tokens bracketed_tokens elements_tokens next_element_tokens block_tokens declaration_tokens else_if_tokens if_clause_tokens (Expression-F.Unary operator x)

pub tokens_is_Unary : (mark : Marking) (y : Expression) (operator : Token) (x : Expression) → y ≡ e.Unary operator x → tokens_of_expression mark y ≡ operator ∷ tokens_of_expression mark x
tokens_is_Unary mark y operator x h = ap (tokens_of_expression mark) h ∙ (tokens_Unary mark operator x)

pub tokens_Await : (mark : Marking) (word : Token) (x : Expression) → tokens_of_expression mark (e.Await word x) ≡ word ∷ tokens_of_expression mark x
unfolding tokens_of_expression
tokens_Await mark word x = ap (tokens_of_expression mark) (sym (e.rolls-Await word x)) ∙ fold-roll-Expression Tokens Tokens Tokens Tokens Tokens Tokens Tokens Tokens Tokens Tokens Tokens Tokens Tokens Tokens Tokens Tokens Tokens Tokens Tokens Tokens Tokens Tokens Tokens Tokens Tokens Tokens Tokens class_element_tokens heritage_tokens expression_tokens link_tokens concise_body_tokens element_tokens property_name_tokens case_clause_tokens else_tokens finalizer_tokens for_start_tokens handler_tokens maybe_expression_tokens (statement_tokens mark) class_tokens operand_tokens substitution_tokens substitutions_tokens function_tokens method_tokens bracketed_tokens elements_tokens next_element_tokens block_tokens declaration_tokens else_if_tokens if_clause_tokens (Expression-F.Await word x)

pub tokens_is_Await : (mark : Marking) (y : Expression) (word : Token) (x : Expression) → y ≡ e.Await word x → tokens_of_expression mark y ≡ word ∷ tokens_of_expression mark x
tokens_is_Await mark y word x h = ap (tokens_of_expression mark) h ∙ (tokens_Await mark word x)

pub tokens_Binary : (mark : Marking) (first : Expression) (rest : List Operand) → tokens_of_expression mark (e.Binary first rest) ≡ tokens_of_expression mark first ++ (flat_map (tokens_of_operand mark) rest)
unfolding tokens_of_expression tokens_of_operand
tokens_Binary mark first rest = ap (tokens_of_expression mark) (sym (e.rolls-Binary first rest)) ∙ fold-roll-Expression Tokens Tokens Tokens Tokens Tokens Tokens Tokens Tokens Tokens Tokens Tokens Tokens Tokens Tokens Tokens Tokens Tokens Tokens Tokens Tokens Tokens Tokens Tokens Tokens Tokens Tokens Tokens class_element_tokens heritage_tokens expression_tokens link_tokens concise_body_tokens element_tokens property_name_tokens case_clause_tokens else_tokens finalizer_tokens for_start_tokens handler_tokens maybe_expression_tokens (statement_tokens mark) class_tokens operand_tokens substitution_tokens substitutions_tokens function_tokens method_tokens bracketed_tokens elements_tokens next_element_tokens block_tokens declaration_tokens else_if_tokens if_clause_tokens (Expression-F.Binary first rest) ∙ ap (λ ts. tokens_of_expression mark first ++ (ts)) (flat_map_id (tokens_of_operand mark) rest)

pub tokens_is_Binary : (mark : Marking) (y : Expression) (first : Expression) (rest : List Operand) → y ≡ e.Binary first rest → tokens_of_expression mark y ≡ tokens_of_expression mark first ++ (flat_map (tokens_of_operand mark) rest)
tokens_is_Binary mark y first rest h = ap (tokens_of_expression mark) h ∙ (tokens_Binary mark first rest)

pub tokens_Conditional : (mark : Marking) (test : Expression) (question : Token) (x : Expression) (colon : Token) (other : Expression) → tokens_of_expression mark (e.Conditional test question x colon other) ≡ tokens_of_expression mark test ++ (question ∷ (tokens_of_expression mark x ++ (colon ∷ tokens_of_expression mark other)))
unfolding tokens_of_expression
tokens_Conditional mark test question x colon other = ap (tokens_of_expression mark) (sym (e.rolls-Conditional test question x colon other)) ∙ fold-roll-Expression Tokens Tokens Tokens Tokens Tokens Tokens Tokens Tokens Tokens Tokens Tokens Tokens Tokens Tokens Tokens Tokens Tokens Tokens Tokens Tokens Tokens Tokens Tokens Tokens Tokens Tokens Tokens class_element_tokens heritage_tokens expression_tokens link_tokens concise_body_tokens element_tokens property_name_tokens case_clause_tokens else_tokens finalizer_tokens for_start_tokens handler_tokens maybe_expression_tokens (statement_tokens mark) class_tokens operand_tokens substitution_tokens substitutions_tokens function_tokens method_tokens bracketed_tokens elements_tokens next_element_tokens block_tokens declaration_tokens else_if_tokens if_clause_tokens (Expression-F.Conditional test question x colon other)

pub tokens_is_Conditional : (mark : Marking) (y : Expression) (test : Expression) (question : Token) (x : Expression) (colon : Token) (other : Expression) → y ≡ e.Conditional test question x colon other → tokens_of_expression mark y ≡ tokens_of_expression mark test ++ (question ∷ (tokens_of_expression mark x ++ (colon ∷ tokens_of_expression mark other)))
tokens_is_Conditional mark y test question x colon other h = ap (tokens_of_expression mark) h ∙ (tokens_Conditional mark test question x colon other)

pub tokens_Assignment : (mark : Marking) (target : Expression) (operator : Token) (x : Expression) → tokens_of_expression mark (e.Assignment target operator x) ≡ tokens_of_expression mark target ++ (operator ∷ tokens_of_expression mark x)
unfolding tokens_of_expression
tokens_Assignment mark target operator x = ap (tokens_of_expression mark) (sym (e.rolls-Assignment target operator x)) ∙ fold-roll-Expression Tokens Tokens Tokens Tokens Tokens Tokens Tokens Tokens Tokens Tokens Tokens Tokens Tokens Tokens Tokens Tokens Tokens Tokens Tokens Tokens Tokens Tokens Tokens Tokens Tokens Tokens Tokens class_element_tokens heritage_tokens expression_tokens link_tokens concise_body_tokens element_tokens property_name_tokens case_clause_tokens else_tokens finalizer_tokens for_start_tokens handler_tokens maybe_expression_tokens (statement_tokens mark) class_tokens operand_tokens substitution_tokens substitutions_tokens function_tokens method_tokens bracketed_tokens elements_tokens next_element_tokens block_tokens declaration_tokens else_if_tokens if_clause_tokens (Expression-F.Assignment target operator x)

pub tokens_is_Assignment : (mark : Marking) (y : Expression) (target : Expression) (operator : Token) (x : Expression) → y ≡ e.Assignment target operator x → tokens_of_expression mark y ≡ tokens_of_expression mark target ++ (operator ∷ tokens_of_expression mark x)
tokens_is_Assignment mark y target operator x h = ap (tokens_of_expression mark) h ∙ (tokens_Assignment mark target operator x)

pub tokens_Arrow : (mark : Marking) (head : Expression) (arrow : Token) (body : ConciseBody) → tokens_of_expression mark (e.Arrow head arrow body) ≡ tokens_of_expression mark head ++ (arrow ∷ tokens_of_concise_body mark body)
unfolding tokens_of_expression tokens_of_concise_body
tokens_Arrow mark head arrow body = ap (tokens_of_expression mark) (sym (e.rolls-Arrow head arrow body)) ∙ fold-roll-Expression Tokens Tokens Tokens Tokens Tokens Tokens Tokens Tokens Tokens Tokens Tokens Tokens Tokens Tokens Tokens Tokens Tokens Tokens Tokens Tokens Tokens Tokens Tokens Tokens Tokens Tokens Tokens class_element_tokens heritage_tokens expression_tokens link_tokens concise_body_tokens element_tokens property_name_tokens case_clause_tokens else_tokens finalizer_tokens for_start_tokens handler_tokens maybe_expression_tokens (statement_tokens mark) class_tokens operand_tokens substitution_tokens substitutions_tokens function_tokens method_tokens bracketed_tokens elements_tokens next_element_tokens block_tokens declaration_tokens else_if_tokens if_clause_tokens (Expression-F.Arrow head arrow body)

pub tokens_is_Arrow : (mark : Marking) (y : Expression) (head : Expression) (arrow : Token) (body : ConciseBody) → y ≡ e.Arrow head arrow body → tokens_of_expression mark y ≡ tokens_of_expression mark head ++ (arrow ∷ tokens_of_concise_body mark body)
tokens_is_Arrow mark y head arrow body h = ap (tokens_of_expression mark) h ∙ (tokens_Arrow mark head arrow body)

pub tokens_AsyncArrow : (mark : Marking) (word : Token) (name : Token) (arrow : Token) (body : ConciseBody) → tokens_of_expression mark (e.AsyncArrow word name arrow body) ≡ word ∷ name ∷ arrow ∷ tokens_of_concise_body mark body
unfolding tokens_of_expression tokens_of_concise_body
tokens_AsyncArrow mark word name arrow body = ap (tokens_of_expression mark) (sym (e.rolls-AsyncArrow word name arrow body)) ∙ fold-roll-Expression Tokens Tokens Tokens Tokens Tokens Tokens Tokens Tokens Tokens Tokens Tokens Tokens Tokens Tokens Tokens Tokens Tokens Tokens Tokens Tokens Tokens Tokens Tokens Tokens Tokens Tokens Tokens class_element_tokens heritage_tokens expression_tokens link_tokens concise_body_tokens element_tokens property_name_tokens case_clause_tokens else_tokens finalizer_tokens for_start_tokens handler_tokens maybe_expression_tokens (statement_tokens mark) class_tokens operand_tokens substitution_tokens substitutions_tokens function_tokens method_tokens bracketed_tokens elements_tokens next_element_tokens block_tokens declaration_tokens else_if_tokens if_clause_tokens (Expression-F.AsyncArrow word name arrow body)

pub tokens_is_AsyncArrow : (mark : Marking) (y : Expression) (word : Token) (name : Token) (arrow : Token) (body : ConciseBody) → y ≡ e.AsyncArrow word name arrow body → tokens_of_expression mark y ≡ word ∷ name ∷ arrow ∷ tokens_of_concise_body mark body
tokens_is_AsyncArrow mark y word name arrow body h = ap (tokens_of_expression mark) h ∙ (tokens_AsyncArrow mark word name arrow body)

pub tokens_Yield : (mark : Marking) (word : Token) → tokens_of_expression mark (e.Yield word) ≡ word ∷ []
unfolding tokens_of_expression
tokens_Yield mark word = ap (tokens_of_expression mark) (sym (e.rolls-Yield word)) ∙ fold-roll-Expression Tokens Tokens Tokens Tokens Tokens Tokens Tokens Tokens Tokens Tokens Tokens Tokens Tokens Tokens Tokens Tokens Tokens Tokens Tokens Tokens Tokens Tokens Tokens Tokens Tokens Tokens Tokens class_element_tokens heritage_tokens expression_tokens link_tokens concise_body_tokens element_tokens property_name_tokens case_clause_tokens else_tokens finalizer_tokens for_start_tokens handler_tokens maybe_expression_tokens (statement_tokens mark) class_tokens operand_tokens substitution_tokens substitutions_tokens function_tokens method_tokens bracketed_tokens elements_tokens next_element_tokens block_tokens declaration_tokens else_if_tokens if_clause_tokens (Expression-F.Yield word)

pub tokens_is_Yield : (mark : Marking) (y : Expression) (word : Token) → y ≡ e.Yield word → tokens_of_expression mark y ≡ word ∷ []
tokens_is_Yield mark y word h = ap (tokens_of_expression mark) h ∙ (tokens_Yield mark word)

pub tokens_YieldValue : (mark : Marking) (word : Token) (x : Expression) → tokens_of_expression mark (e.YieldValue word x) ≡ word ∷ tokens_of_expression mark x
unfolding tokens_of_expression
tokens_YieldValue mark word x = ap (tokens_of_expression mark) (sym (e.rolls-YieldValue word x)) ∙ fold-roll-Expression Tokens Tokens Tokens Tokens Tokens Tokens Tokens Tokens Tokens Tokens Tokens Tokens Tokens Tokens Tokens Tokens Tokens Tokens Tokens Tokens Tokens Tokens Tokens Tokens Tokens Tokens Tokens class_element_tokens heritage_tokens expression_tokens link_tokens concise_body_tokens element_tokens property_name_tokens case_clause_tokens else_tokens finalizer_tokens for_start_tokens handler_tokens maybe_expression_tokens (statement_tokens mark) class_tokens operand_tokens substitution_tokens substitutions_tokens function_tokens method_tokens bracketed_tokens elements_tokens next_element_tokens block_tokens declaration_tokens else_if_tokens if_clause_tokens (Expression-F.YieldValue word x)

pub tokens_is_YieldValue : (mark : Marking) (y : Expression) (word : Token) (x : Expression) → y ≡ e.YieldValue word x → tokens_of_expression mark y ≡ word ∷ tokens_of_expression mark x
tokens_is_YieldValue mark y word x h = ap (tokens_of_expression mark) h ∙ (tokens_YieldValue mark word x)

pub tokens_YieldEach : (mark : Marking) (word : Token) (star : Token) (x : Expression) → tokens_of_expression mark (e.YieldEach word star x) ≡ word ∷ star ∷ tokens_of_expression mark x
unfolding tokens_of_expression
tokens_YieldEach mark word star x = ap (tokens_of_expression mark) (sym (e.rolls-YieldEach word star x)) ∙ fold-roll-Expression Tokens Tokens Tokens Tokens Tokens Tokens Tokens Tokens Tokens Tokens Tokens Tokens Tokens Tokens Tokens Tokens Tokens Tokens Tokens Tokens Tokens Tokens Tokens Tokens Tokens Tokens Tokens class_element_tokens heritage_tokens expression_tokens link_tokens concise_body_tokens element_tokens property_name_tokens case_clause_tokens else_tokens finalizer_tokens for_start_tokens handler_tokens maybe_expression_tokens (statement_tokens mark) class_tokens operand_tokens substitution_tokens substitutions_tokens function_tokens method_tokens bracketed_tokens elements_tokens next_element_tokens block_tokens declaration_tokens else_if_tokens if_clause_tokens (Expression-F.YieldEach word star x)

pub tokens_is_YieldEach : (mark : Marking) (y : Expression) (word : Token) (star : Token) (x : Expression) → y ≡ e.YieldEach word star x → tokens_of_expression mark y ≡ word ∷ star ∷ tokens_of_expression mark x
tokens_is_YieldEach mark y word star x h = ap (tokens_of_expression mark) h ∙ (tokens_YieldEach mark word star x)

pub tokens_Dot : (mark : Marking) (dot : Token) (name : Token) → tokens_of_link mark (l.Dot dot name) ≡ dot ∷ name ∷ []
unfolding tokens_of_link
tokens_Dot mark dot name = ap (tokens_of_link mark) (sym (l.rolls-Dot dot name)) ∙ fold-roll-Link Tokens Tokens Tokens Tokens Tokens Tokens Tokens Tokens Tokens Tokens Tokens Tokens Tokens Tokens Tokens Tokens Tokens Tokens Tokens Tokens Tokens Tokens Tokens Tokens Tokens Tokens Tokens class_element_tokens heritage_tokens expression_tokens link_tokens concise_body_tokens element_tokens property_name_tokens case_clause_tokens else_tokens finalizer_tokens for_start_tokens handler_tokens maybe_expression_tokens (statement_tokens mark) class_tokens operand_tokens substitution_tokens substitutions_tokens function_tokens method_tokens bracketed_tokens elements_tokens next_element_tokens block_tokens declaration_tokens else_if_tokens if_clause_tokens (Link-F.Dot dot name)

pub tokens_is_Dot : (mark : Marking) (y : Link) (dot : Token) (name : Token) → y ≡ l.Dot dot name → tokens_of_link mark y ≡ dot ∷ name ∷ []
tokens_is_Dot mark y dot name h = ap (tokens_of_link mark) h ∙ (tokens_Dot mark dot name)

pub tokens_Index : (mark : Marking) (begin : Token) (x : Expression) (ending : Token) → tokens_of_link mark (l.Index begin x ending) ≡ begin ∷ (tokens_of_expression mark x ++ (ending ∷ []))
unfolding tokens_of_expression tokens_of_link
tokens_Index mark begin x ending = ap (tokens_of_link mark) (sym (l.rolls-Index begin x ending)) ∙ fold-roll-Link Tokens Tokens Tokens Tokens Tokens Tokens Tokens Tokens Tokens Tokens Tokens Tokens Tokens Tokens Tokens Tokens Tokens Tokens Tokens Tokens Tokens Tokens Tokens Tokens Tokens Tokens Tokens class_element_tokens heritage_tokens expression_tokens link_tokens concise_body_tokens element_tokens property_name_tokens case_clause_tokens else_tokens finalizer_tokens for_start_tokens handler_tokens maybe_expression_tokens (statement_tokens mark) class_tokens operand_tokens substitution_tokens substitutions_tokens function_tokens method_tokens bracketed_tokens elements_tokens next_element_tokens block_tokens declaration_tokens else_if_tokens if_clause_tokens (Link-F.Index begin x ending)

pub tokens_is_Index : (mark : Marking) (y : Link) (begin : Token) (x : Expression) (ending : Token) → y ≡ l.Index begin x ending → tokens_of_link mark y ≡ begin ∷ (tokens_of_expression mark x ++ (ending ∷ []))
tokens_is_Index mark y begin x ending h = ap (tokens_of_link mark) h ∙ (tokens_Index mark begin x ending)

pub tokens_Call : (mark : Marking) (arguments : Bracketed) → tokens_of_link mark (l.Call arguments) ≡ tokens_of_bracketed mark arguments
unfolding tokens_of_link tokens_of_bracketed
tokens_Call mark arguments = ap (tokens_of_link mark) (sym (l.rolls-Call arguments)) ∙ fold-roll-Link Tokens Tokens Tokens Tokens Tokens Tokens Tokens Tokens Tokens Tokens Tokens Tokens Tokens Tokens Tokens Tokens Tokens Tokens Tokens Tokens Tokens Tokens Tokens Tokens Tokens Tokens Tokens class_element_tokens heritage_tokens expression_tokens link_tokens concise_body_tokens element_tokens property_name_tokens case_clause_tokens else_tokens finalizer_tokens for_start_tokens handler_tokens maybe_expression_tokens (statement_tokens mark) class_tokens operand_tokens substitution_tokens substitutions_tokens function_tokens method_tokens bracketed_tokens elements_tokens next_element_tokens block_tokens declaration_tokens else_if_tokens if_clause_tokens (Link-F.Call arguments)

pub tokens_is_Call : (mark : Marking) (y : Link) (arguments : Bracketed) → y ≡ l.Call arguments → tokens_of_link mark y ≡ tokens_of_bracketed mark arguments
tokens_is_Call mark y arguments h = ap (tokens_of_link mark) h ∙ (tokens_Call mark arguments)

pub tokens_Tagged : (mark : Marking) (template : Token) → tokens_of_link mark (l.Tagged template) ≡ template ∷ []
unfolding tokens_of_link
tokens_Tagged mark template = ap (tokens_of_link mark) (sym (l.rolls-Tagged template)) ∙ fold-roll-Link Tokens Tokens Tokens Tokens Tokens Tokens Tokens Tokens Tokens Tokens Tokens Tokens Tokens Tokens Tokens Tokens Tokens Tokens Tokens Tokens Tokens Tokens Tokens Tokens Tokens Tokens Tokens class_element_tokens heritage_tokens expression_tokens link_tokens concise_body_tokens element_tokens property_name_tokens case_clause_tokens else_tokens finalizer_tokens for_start_tokens handler_tokens maybe_expression_tokens (statement_tokens mark) class_tokens operand_tokens substitution_tokens substitutions_tokens function_tokens method_tokens bracketed_tokens elements_tokens next_element_tokens block_tokens declaration_tokens else_if_tokens if_clause_tokens (Link-F.Tagged template)

pub tokens_is_Tagged : (mark : Marking) (y : Link) (template : Token) → y ≡ l.Tagged template → tokens_of_link mark y ≡ template ∷ []
tokens_is_Tagged mark y template h = ap (tokens_of_link mark) h ∙ (tokens_Tagged mark template)

pub tokens_TaggedTemplate : (mark : Marking) (template : Substitutions) → tokens_of_link mark (l.TaggedTemplate template) ≡ tokens_of_substitutions mark template
unfolding tokens_of_link tokens_of_substitutions
tokens_TaggedTemplate mark template = ap (tokens_of_link mark) (sym (l.rolls-TaggedTemplate template)) ∙ fold-roll-Link Tokens Tokens Tokens Tokens Tokens Tokens Tokens Tokens Tokens Tokens Tokens Tokens Tokens Tokens Tokens Tokens Tokens Tokens Tokens Tokens Tokens Tokens Tokens Tokens Tokens Tokens Tokens class_element_tokens heritage_tokens expression_tokens link_tokens concise_body_tokens element_tokens property_name_tokens case_clause_tokens else_tokens finalizer_tokens for_start_tokens handler_tokens maybe_expression_tokens (statement_tokens mark) class_tokens operand_tokens substitution_tokens substitutions_tokens function_tokens method_tokens bracketed_tokens elements_tokens next_element_tokens block_tokens declaration_tokens else_if_tokens if_clause_tokens (Link-F.TaggedTemplate template)

pub tokens_is_TaggedTemplate : (mark : Marking) (y : Link) (template : Substitutions) → y ≡ l.TaggedTemplate template → tokens_of_link mark y ≡ tokens_of_substitutions mark template
tokens_is_TaggedTemplate mark y template h = ap (tokens_of_link mark) h ∙ (tokens_TaggedTemplate mark template)

pub tokens_OptionalDot : (mark : Marking) (dot : Token) (name : Token) → tokens_of_link mark (l.OptionalDot dot name) ≡ dot ∷ name ∷ []
unfolding tokens_of_link
tokens_OptionalDot mark dot name = ap (tokens_of_link mark) (sym (l.rolls-OptionalDot dot name)) ∙ fold-roll-Link Tokens Tokens Tokens Tokens Tokens Tokens Tokens Tokens Tokens Tokens Tokens Tokens Tokens Tokens Tokens Tokens Tokens Tokens Tokens Tokens Tokens Tokens Tokens Tokens Tokens Tokens Tokens class_element_tokens heritage_tokens expression_tokens link_tokens concise_body_tokens element_tokens property_name_tokens case_clause_tokens else_tokens finalizer_tokens for_start_tokens handler_tokens maybe_expression_tokens (statement_tokens mark) class_tokens operand_tokens substitution_tokens substitutions_tokens function_tokens method_tokens bracketed_tokens elements_tokens next_element_tokens block_tokens declaration_tokens else_if_tokens if_clause_tokens (Link-F.OptionalDot dot name)

pub tokens_is_OptionalDot : (mark : Marking) (y : Link) (dot : Token) (name : Token) → y ≡ l.OptionalDot dot name → tokens_of_link mark y ≡ dot ∷ name ∷ []
tokens_is_OptionalDot mark y dot name h = ap (tokens_of_link mark) h ∙ (tokens_OptionalDot mark dot name)

pub tokens_OptionalIndex : (mark : Marking) (dot : Token) (begin : Token) (x : Expression) (ending : Token) → tokens_of_link mark (l.OptionalIndex dot begin x ending) ≡ dot ∷ (begin ∷ (tokens_of_expression mark x ++ (ending ∷ [])))
unfolding tokens_of_expression tokens_of_link
tokens_OptionalIndex mark dot begin x ending = ap (tokens_of_link mark) (sym (l.rolls-OptionalIndex dot begin x ending)) ∙ fold-roll-Link Tokens Tokens Tokens Tokens Tokens Tokens Tokens Tokens Tokens Tokens Tokens Tokens Tokens Tokens Tokens Tokens Tokens Tokens Tokens Tokens Tokens Tokens Tokens Tokens Tokens Tokens Tokens class_element_tokens heritage_tokens expression_tokens link_tokens concise_body_tokens element_tokens property_name_tokens case_clause_tokens else_tokens finalizer_tokens for_start_tokens handler_tokens maybe_expression_tokens (statement_tokens mark) class_tokens operand_tokens substitution_tokens substitutions_tokens function_tokens method_tokens bracketed_tokens elements_tokens next_element_tokens block_tokens declaration_tokens else_if_tokens if_clause_tokens (Link-F.OptionalIndex dot begin x ending)

pub tokens_is_OptionalIndex : (mark : Marking) (y : Link) (dot : Token) (begin : Token) (x : Expression) (ending : Token) → y ≡ l.OptionalIndex dot begin x ending → tokens_of_link mark y ≡ dot ∷ (begin ∷ (tokens_of_expression mark x ++ (ending ∷ [])))
tokens_is_OptionalIndex mark y dot begin x ending h = ap (tokens_of_link mark) h ∙ (tokens_OptionalIndex mark dot begin x ending)

pub tokens_OptionalCall : (mark : Marking) (dot : Token) (arguments : Bracketed) → tokens_of_link mark (l.OptionalCall dot arguments) ≡ dot ∷ tokens_of_bracketed mark arguments
unfolding tokens_of_link tokens_of_bracketed
tokens_OptionalCall mark dot arguments = ap (tokens_of_link mark) (sym (l.rolls-OptionalCall dot arguments)) ∙ fold-roll-Link Tokens Tokens Tokens Tokens Tokens Tokens Tokens Tokens Tokens Tokens Tokens Tokens Tokens Tokens Tokens Tokens Tokens Tokens Tokens Tokens Tokens Tokens Tokens Tokens Tokens Tokens Tokens class_element_tokens heritage_tokens expression_tokens link_tokens concise_body_tokens element_tokens property_name_tokens case_clause_tokens else_tokens finalizer_tokens for_start_tokens handler_tokens maybe_expression_tokens (statement_tokens mark) class_tokens operand_tokens substitution_tokens substitutions_tokens function_tokens method_tokens bracketed_tokens elements_tokens next_element_tokens block_tokens declaration_tokens else_if_tokens if_clause_tokens (Link-F.OptionalCall dot arguments)

pub tokens_is_OptionalCall : (mark : Marking) (y : Link) (dot : Token) (arguments : Bracketed) → y ≡ l.OptionalCall dot arguments → tokens_of_link mark y ≡ dot ∷ tokens_of_bracketed mark arguments
tokens_is_OptionalCall mark y dot arguments h = ap (tokens_of_link mark) h ∙ (tokens_OptionalCall mark dot arguments)

pub tokens_ConciseValue : (mark : Marking) (x : Expression) → tokens_of_concise_body mark (cb.ConciseValue x) ≡ tokens_of_expression mark x
unfolding tokens_of_expression tokens_of_concise_body
tokens_ConciseValue mark x = ap (tokens_of_concise_body mark) (sym (cb.rolls-ConciseValue x)) ∙ fold-roll-ConciseBody Tokens Tokens Tokens Tokens Tokens Tokens Tokens Tokens Tokens Tokens Tokens Tokens Tokens Tokens Tokens Tokens Tokens Tokens Tokens Tokens Tokens Tokens Tokens Tokens Tokens Tokens Tokens class_element_tokens heritage_tokens expression_tokens link_tokens concise_body_tokens element_tokens property_name_tokens case_clause_tokens else_tokens finalizer_tokens for_start_tokens handler_tokens maybe_expression_tokens (statement_tokens mark) class_tokens operand_tokens substitution_tokens substitutions_tokens function_tokens method_tokens bracketed_tokens elements_tokens next_element_tokens block_tokens declaration_tokens else_if_tokens if_clause_tokens (ConciseBody-F.ConciseValue x)

pub tokens_is_ConciseValue : (mark : Marking) (y : ConciseBody) (x : Expression) → y ≡ cb.ConciseValue x → tokens_of_concise_body mark y ≡ tokens_of_expression mark x
tokens_is_ConciseValue mark y x h = ap (tokens_of_concise_body mark) h ∙ (tokens_ConciseValue mark x)

pub tokens_ConciseBlock : (mark : Marking) (block : Block) → tokens_of_concise_body mark (cb.ConciseBlock block) ≡ tokens_of_block mark block
unfolding tokens_of_concise_body tokens_of_block
tokens_ConciseBlock mark block = ap (tokens_of_concise_body mark) (sym (cb.rolls-ConciseBlock block)) ∙ fold-roll-ConciseBody Tokens Tokens Tokens Tokens Tokens Tokens Tokens Tokens Tokens Tokens Tokens Tokens Tokens Tokens Tokens Tokens Tokens Tokens Tokens Tokens Tokens Tokens Tokens Tokens Tokens Tokens Tokens class_element_tokens heritage_tokens expression_tokens link_tokens concise_body_tokens element_tokens property_name_tokens case_clause_tokens else_tokens finalizer_tokens for_start_tokens handler_tokens maybe_expression_tokens (statement_tokens mark) class_tokens operand_tokens substitution_tokens substitutions_tokens function_tokens method_tokens bracketed_tokens elements_tokens next_element_tokens block_tokens declaration_tokens else_if_tokens if_clause_tokens (ConciseBody-F.ConciseBlock block)

pub tokens_is_ConciseBlock : (mark : Marking) (y : ConciseBody) (block : Block) → y ≡ cb.ConciseBlock block → tokens_of_concise_body mark y ≡ tokens_of_block mark block
tokens_is_ConciseBlock mark y block h = ap (tokens_of_concise_body mark) h ∙ (tokens_ConciseBlock mark block)

pub tokens_Hole : (mark : Marking) → tokens_of_element mark (el.Hole) ≡ []
unfolding tokens_of_element
tokens_Hole mark = ap (tokens_of_element mark) (sym (el.rolls-Hole)) ∙ fold-roll-Element Tokens Tokens Tokens Tokens Tokens Tokens Tokens Tokens Tokens Tokens Tokens Tokens Tokens Tokens Tokens Tokens Tokens Tokens Tokens Tokens Tokens Tokens Tokens Tokens Tokens Tokens Tokens class_element_tokens heritage_tokens expression_tokens link_tokens concise_body_tokens element_tokens property_name_tokens case_clause_tokens else_tokens finalizer_tokens for_start_tokens handler_tokens maybe_expression_tokens (statement_tokens mark) class_tokens operand_tokens substitution_tokens substitutions_tokens function_tokens method_tokens bracketed_tokens elements_tokens next_element_tokens block_tokens declaration_tokens else_if_tokens if_clause_tokens (Element-F.Hole)

pub tokens_is_Hole : (mark : Marking) (y : Element) → y ≡ el.Hole → tokens_of_element mark y ≡ []
tokens_is_Hole mark y h = ap (tokens_of_element mark) h ∙ (tokens_Hole mark)

pub tokens_Value : (mark : Marking) (x : Expression) → tokens_of_element mark (el.Value x) ≡ tokens_of_expression mark x
unfolding tokens_of_expression tokens_of_element
tokens_Value mark x = ap (tokens_of_element mark) (sym (el.rolls-Value x)) ∙ fold-roll-Element Tokens Tokens Tokens Tokens Tokens Tokens Tokens Tokens Tokens Tokens Tokens Tokens Tokens Tokens Tokens Tokens Tokens Tokens Tokens Tokens Tokens Tokens Tokens Tokens Tokens Tokens Tokens class_element_tokens heritage_tokens expression_tokens link_tokens concise_body_tokens element_tokens property_name_tokens case_clause_tokens else_tokens finalizer_tokens for_start_tokens handler_tokens maybe_expression_tokens (statement_tokens mark) class_tokens operand_tokens substitution_tokens substitutions_tokens function_tokens method_tokens bracketed_tokens elements_tokens next_element_tokens block_tokens declaration_tokens else_if_tokens if_clause_tokens (Element-F.Value x)

pub tokens_is_Value : (mark : Marking) (y : Element) (x : Expression) → y ≡ el.Value x → tokens_of_element mark y ≡ tokens_of_expression mark x
tokens_is_Value mark y x h = ap (tokens_of_element mark) h ∙ (tokens_Value mark x)

pub tokens_Spread : (mark : Marking) (dots : Token) (x : Expression) → tokens_of_element mark (el.Spread dots x) ≡ dots ∷ tokens_of_expression mark x
unfolding tokens_of_expression tokens_of_element
tokens_Spread mark dots x = ap (tokens_of_element mark) (sym (el.rolls-Spread dots x)) ∙ fold-roll-Element Tokens Tokens Tokens Tokens Tokens Tokens Tokens Tokens Tokens Tokens Tokens Tokens Tokens Tokens Tokens Tokens Tokens Tokens Tokens Tokens Tokens Tokens Tokens Tokens Tokens Tokens Tokens class_element_tokens heritage_tokens expression_tokens link_tokens concise_body_tokens element_tokens property_name_tokens case_clause_tokens else_tokens finalizer_tokens for_start_tokens handler_tokens maybe_expression_tokens (statement_tokens mark) class_tokens operand_tokens substitution_tokens substitutions_tokens function_tokens method_tokens bracketed_tokens elements_tokens next_element_tokens block_tokens declaration_tokens else_if_tokens if_clause_tokens (Element-F.Spread dots x)

pub tokens_is_Spread : (mark : Marking) (y : Element) (dots : Token) (x : Expression) → y ≡ el.Spread dots x → tokens_of_element mark y ≡ dots ∷ tokens_of_expression mark x
tokens_is_Spread mark y dots x h = ap (tokens_of_element mark) h ∙ (tokens_Spread mark dots x)

pub tokens_Shorthand : (mark : Marking) (name : Token) → tokens_of_element mark (el.Shorthand name) ≡ name ∷ []
unfolding tokens_of_element
tokens_Shorthand mark name = ap (tokens_of_element mark) (sym (el.rolls-Shorthand name)) ∙ fold-roll-Element Tokens Tokens Tokens Tokens Tokens Tokens Tokens Tokens Tokens Tokens Tokens Tokens Tokens Tokens Tokens Tokens Tokens Tokens Tokens Tokens Tokens Tokens Tokens Tokens Tokens Tokens Tokens class_element_tokens heritage_tokens expression_tokens link_tokens concise_body_tokens element_tokens property_name_tokens case_clause_tokens else_tokens finalizer_tokens for_start_tokens handler_tokens maybe_expression_tokens (statement_tokens mark) class_tokens operand_tokens substitution_tokens substitutions_tokens function_tokens method_tokens bracketed_tokens elements_tokens next_element_tokens block_tokens declaration_tokens else_if_tokens if_clause_tokens (Element-F.Shorthand name)

pub tokens_is_Shorthand : (mark : Marking) (y : Element) (name : Token) → y ≡ el.Shorthand name → tokens_of_element mark y ≡ name ∷ []
tokens_is_Shorthand mark y name h = ap (tokens_of_element mark) h ∙ (tokens_Shorthand mark name)

pub tokens_Initialized : (mark : Marking) (name : Token) (sign : Token) (x : Expression) → tokens_of_element mark (el.Initialized name sign x) ≡ name ∷ sign ∷ tokens_of_expression mark x
unfolding tokens_of_expression tokens_of_element
tokens_Initialized mark name sign x = ap (tokens_of_element mark) (sym (el.rolls-Initialized name sign x)) ∙ fold-roll-Element Tokens Tokens Tokens Tokens Tokens Tokens Tokens Tokens Tokens Tokens Tokens Tokens Tokens Tokens Tokens Tokens Tokens Tokens Tokens Tokens Tokens Tokens Tokens Tokens Tokens Tokens Tokens class_element_tokens heritage_tokens expression_tokens link_tokens concise_body_tokens element_tokens property_name_tokens case_clause_tokens else_tokens finalizer_tokens for_start_tokens handler_tokens maybe_expression_tokens (statement_tokens mark) class_tokens operand_tokens substitution_tokens substitutions_tokens function_tokens method_tokens bracketed_tokens elements_tokens next_element_tokens block_tokens declaration_tokens else_if_tokens if_clause_tokens (Element-F.Initialized name sign x)

pub tokens_is_Initialized : (mark : Marking) (y : Element) (name : Token) (sign : Token) (x : Expression) → y ≡ el.Initialized name sign x → tokens_of_element mark y ≡ name ∷ sign ∷ tokens_of_expression mark x
tokens_is_Initialized mark y name sign x h = ap (tokens_of_element mark) h ∙ (tokens_Initialized mark name sign x)

pub tokens_Property : (mark : Marking) (name : PropertyName) (colon : Token) (x : Expression) → tokens_of_element mark (el.Property name colon x) ≡ tokens_of_property_name mark name ++ (colon ∷ tokens_of_expression mark x)
unfolding tokens_of_expression tokens_of_element tokens_of_property_name
tokens_Property mark name colon x = ap (tokens_of_element mark) (sym (el.rolls-Property name colon x)) ∙ fold-roll-Element Tokens Tokens Tokens Tokens Tokens Tokens Tokens Tokens Tokens Tokens Tokens Tokens Tokens Tokens Tokens Tokens Tokens Tokens Tokens Tokens Tokens Tokens Tokens Tokens Tokens Tokens Tokens class_element_tokens heritage_tokens expression_tokens link_tokens concise_body_tokens element_tokens property_name_tokens case_clause_tokens else_tokens finalizer_tokens for_start_tokens handler_tokens maybe_expression_tokens (statement_tokens mark) class_tokens operand_tokens substitution_tokens substitutions_tokens function_tokens method_tokens bracketed_tokens elements_tokens next_element_tokens block_tokens declaration_tokens else_if_tokens if_clause_tokens (Element-F.Property name colon x)

pub tokens_is_Property : (mark : Marking) (y : Element) (name : PropertyName) (colon : Token) (x : Expression) → y ≡ el.Property name colon x → tokens_of_element mark y ≡ tokens_of_property_name mark name ++ (colon ∷ tokens_of_expression mark x)
tokens_is_Property mark y name colon x h = ap (tokens_of_element mark) h ∙ (tokens_Property mark name colon x)

pub tokens_MethodProperty : (mark : Marking) (method : Method) → tokens_of_element mark (el.MethodProperty method) ≡ tokens_of_method mark method
unfolding tokens_of_element tokens_of_method
tokens_MethodProperty mark method = ap (tokens_of_element mark) (sym (el.rolls-MethodProperty method)) ∙ fold-roll-Element Tokens Tokens Tokens Tokens Tokens Tokens Tokens Tokens Tokens Tokens Tokens Tokens Tokens Tokens Tokens Tokens Tokens Tokens Tokens Tokens Tokens Tokens Tokens Tokens Tokens Tokens Tokens class_element_tokens heritage_tokens expression_tokens link_tokens concise_body_tokens element_tokens property_name_tokens case_clause_tokens else_tokens finalizer_tokens for_start_tokens handler_tokens maybe_expression_tokens (statement_tokens mark) class_tokens operand_tokens substitution_tokens substitutions_tokens function_tokens method_tokens bracketed_tokens elements_tokens next_element_tokens block_tokens declaration_tokens else_if_tokens if_clause_tokens (Element-F.MethodProperty method)

pub tokens_is_MethodProperty : (mark : Marking) (y : Element) (method : Method) → y ≡ el.MethodProperty method → tokens_of_element mark y ≡ tokens_of_method mark method
tokens_is_MethodProperty mark y method h = ap (tokens_of_element mark) h ∙ (tokens_MethodProperty mark method)

pub tokens_Named : (mark : Marking) (name : Token) → tokens_of_property_name mark (pn.Named name) ≡ name ∷ []
unfolding tokens_of_property_name
tokens_Named mark name = ap (tokens_of_property_name mark) (sym (pn.rolls-Named name)) ∙ fold-roll-PropertyName Tokens Tokens Tokens Tokens Tokens Tokens Tokens Tokens Tokens Tokens Tokens Tokens Tokens Tokens Tokens Tokens Tokens Tokens Tokens Tokens Tokens Tokens Tokens Tokens Tokens Tokens Tokens class_element_tokens heritage_tokens expression_tokens link_tokens concise_body_tokens element_tokens property_name_tokens case_clause_tokens else_tokens finalizer_tokens for_start_tokens handler_tokens maybe_expression_tokens (statement_tokens mark) class_tokens operand_tokens substitution_tokens substitutions_tokens function_tokens method_tokens bracketed_tokens elements_tokens next_element_tokens block_tokens declaration_tokens else_if_tokens if_clause_tokens (PropertyName-F.Named name)

pub tokens_is_Named : (mark : Marking) (y : PropertyName) (name : Token) → y ≡ pn.Named name → tokens_of_property_name mark y ≡ name ∷ []
tokens_is_Named mark y name h = ap (tokens_of_property_name mark) h ∙ (tokens_Named mark name)

pub tokens_Computed : (mark : Marking) (begin : Token) (x : Expression) (ending : Token) → tokens_of_property_name mark (pn.Computed begin x ending) ≡ begin ∷ (tokens_of_expression mark x ++ (ending ∷ []))
unfolding tokens_of_expression tokens_of_property_name
tokens_Computed mark begin x ending = ap (tokens_of_property_name mark) (sym (pn.rolls-Computed begin x ending)) ∙ fold-roll-PropertyName Tokens Tokens Tokens Tokens Tokens Tokens Tokens Tokens Tokens Tokens Tokens Tokens Tokens Tokens Tokens Tokens Tokens Tokens Tokens Tokens Tokens Tokens Tokens Tokens Tokens Tokens Tokens class_element_tokens heritage_tokens expression_tokens link_tokens concise_body_tokens element_tokens property_name_tokens case_clause_tokens else_tokens finalizer_tokens for_start_tokens handler_tokens maybe_expression_tokens (statement_tokens mark) class_tokens operand_tokens substitution_tokens substitutions_tokens function_tokens method_tokens bracketed_tokens elements_tokens next_element_tokens block_tokens declaration_tokens else_if_tokens if_clause_tokens (PropertyName-F.Computed begin x ending)

pub tokens_is_Computed : (mark : Marking) (y : PropertyName) (begin : Token) (x : Expression) (ending : Token) → y ≡ pn.Computed begin x ending → tokens_of_property_name mark y ≡ begin ∷ (tokens_of_expression mark x ++ (ending ∷ []))
tokens_is_Computed mark y begin x ending h = ap (tokens_of_property_name mark) h ∙ (tokens_Computed mark begin x ending)

pub tokens_Case : (mark : Marking) (word : Token) (x : Expression) (colon : Token) (body : List Statement) → tokens_of_case_clause mark (cc.Case word x colon body) ≡ word ∷ (tokens_of_expression mark x ++ (colon ∷ flat_map (tokens_of_statement mark) body))
unfolding tokens_of_expression tokens_of_case_clause tokens_of_statement
tokens_Case mark word x colon body = ap (tokens_of_case_clause mark) (sym (cc.rolls-Case word x colon body)) ∙ fold-roll-CaseClause Tokens Tokens Tokens Tokens Tokens Tokens Tokens Tokens Tokens Tokens Tokens Tokens Tokens Tokens Tokens Tokens Tokens Tokens Tokens Tokens Tokens Tokens Tokens Tokens Tokens Tokens Tokens class_element_tokens heritage_tokens expression_tokens link_tokens concise_body_tokens element_tokens property_name_tokens case_clause_tokens else_tokens finalizer_tokens for_start_tokens handler_tokens maybe_expression_tokens (statement_tokens mark) class_tokens operand_tokens substitution_tokens substitutions_tokens function_tokens method_tokens bracketed_tokens elements_tokens next_element_tokens block_tokens declaration_tokens else_if_tokens if_clause_tokens (CaseClause-F.Case word x colon body) ∙ ap (λ ts. word ∷ (tokens_of_expression mark x ++ (colon ∷ ts))) (flat_map_id (tokens_of_statement mark) body)

pub tokens_is_Case : (mark : Marking) (y : CaseClause) (word : Token) (x : Expression) (colon : Token) (body : List Statement) → y ≡ cc.Case word x colon body → tokens_of_case_clause mark y ≡ word ∷ (tokens_of_expression mark x ++ (colon ∷ flat_map (tokens_of_statement mark) body))
tokens_is_Case mark y word x colon body h = ap (tokens_of_case_clause mark) h ∙ (tokens_Case mark word x colon body)

pub tokens_Default : (mark : Marking) (word : Token) (colon : Token) (body : List Statement) → tokens_of_case_clause mark (cc.Default word colon body) ≡ word ∷ colon ∷ flat_map (tokens_of_statement mark) body
unfolding tokens_of_case_clause tokens_of_statement
tokens_Default mark word colon body = ap (tokens_of_case_clause mark) (sym (cc.rolls-Default word colon body)) ∙ fold-roll-CaseClause Tokens Tokens Tokens Tokens Tokens Tokens Tokens Tokens Tokens Tokens Tokens Tokens Tokens Tokens Tokens Tokens Tokens Tokens Tokens Tokens Tokens Tokens Tokens Tokens Tokens Tokens Tokens class_element_tokens heritage_tokens expression_tokens link_tokens concise_body_tokens element_tokens property_name_tokens case_clause_tokens else_tokens finalizer_tokens for_start_tokens handler_tokens maybe_expression_tokens (statement_tokens mark) class_tokens operand_tokens substitution_tokens substitutions_tokens function_tokens method_tokens bracketed_tokens elements_tokens next_element_tokens block_tokens declaration_tokens else_if_tokens if_clause_tokens (CaseClause-F.Default word colon body) ∙ ap (λ ts. word ∷ colon ∷ ts) (flat_map_id (tokens_of_statement mark) body)

pub tokens_is_Default : (mark : Marking) (y : CaseClause) (word : Token) (colon : Token) (body : List Statement) → y ≡ cc.Default word colon body → tokens_of_case_clause mark y ≡ word ∷ colon ∷ flat_map (tokens_of_statement mark) body
tokens_is_Default mark y word colon body h = ap (tokens_of_case_clause mark) h ∙ (tokens_Default mark word colon body)

pub tokens_NoElse : (mark : Marking) → tokens_of_else mark (ot.NoElse) ≡ []
unfolding tokens_of_else
tokens_NoElse mark = ap (tokens_of_else mark) (sym (ot.rolls-NoElse)) ∙ fold-roll-Else Tokens Tokens Tokens Tokens Tokens Tokens Tokens Tokens Tokens Tokens Tokens Tokens Tokens Tokens Tokens Tokens Tokens Tokens Tokens Tokens Tokens Tokens Tokens Tokens Tokens Tokens Tokens class_element_tokens heritage_tokens expression_tokens link_tokens concise_body_tokens element_tokens property_name_tokens case_clause_tokens else_tokens finalizer_tokens for_start_tokens handler_tokens maybe_expression_tokens (statement_tokens mark) class_tokens operand_tokens substitution_tokens substitutions_tokens function_tokens method_tokens bracketed_tokens elements_tokens next_element_tokens block_tokens declaration_tokens else_if_tokens if_clause_tokens (Else-F.NoElse)

pub tokens_is_NoElse : (mark : Marking) (y : Else) → y ≡ ot.NoElse → tokens_of_else mark y ≡ []
tokens_is_NoElse mark y h = ap (tokens_of_else mark) h ∙ (tokens_NoElse mark)

pub tokens_Otherwise : (mark : Marking) (word : Token) (body : Statement) → tokens_of_else mark (ot.Otherwise word body) ≡ word ∷ tokens_of_statement mark body
unfolding tokens_of_else tokens_of_statement
tokens_Otherwise mark word body = ap (tokens_of_else mark) (sym (ot.rolls-Otherwise word body)) ∙ fold-roll-Else Tokens Tokens Tokens Tokens Tokens Tokens Tokens Tokens Tokens Tokens Tokens Tokens Tokens Tokens Tokens Tokens Tokens Tokens Tokens Tokens Tokens Tokens Tokens Tokens Tokens Tokens Tokens class_element_tokens heritage_tokens expression_tokens link_tokens concise_body_tokens element_tokens property_name_tokens case_clause_tokens else_tokens finalizer_tokens for_start_tokens handler_tokens maybe_expression_tokens (statement_tokens mark) class_tokens operand_tokens substitution_tokens substitutions_tokens function_tokens method_tokens bracketed_tokens elements_tokens next_element_tokens block_tokens declaration_tokens else_if_tokens if_clause_tokens (Else-F.Otherwise word body)

pub tokens_is_Otherwise : (mark : Marking) (y : Else) (word : Token) (body : Statement) → y ≡ ot.Otherwise word body → tokens_of_else mark y ≡ word ∷ tokens_of_statement mark body
tokens_is_Otherwise mark y word body h = ap (tokens_of_else mark) h ∙ (tokens_Otherwise mark word body)

pub tokens_NoFinalizer : (mark : Marking) → tokens_of_finalizer mark (fi.NoFinalizer) ≡ []
unfolding tokens_of_finalizer
tokens_NoFinalizer mark = ap (tokens_of_finalizer mark) (sym (fi.rolls-NoFinalizer)) ∙ fold-roll-Finalizer Tokens Tokens Tokens Tokens Tokens Tokens Tokens Tokens Tokens Tokens Tokens Tokens Tokens Tokens Tokens Tokens Tokens Tokens Tokens Tokens Tokens Tokens Tokens Tokens Tokens Tokens Tokens class_element_tokens heritage_tokens expression_tokens link_tokens concise_body_tokens element_tokens property_name_tokens case_clause_tokens else_tokens finalizer_tokens for_start_tokens handler_tokens maybe_expression_tokens (statement_tokens mark) class_tokens operand_tokens substitution_tokens substitutions_tokens function_tokens method_tokens bracketed_tokens elements_tokens next_element_tokens block_tokens declaration_tokens else_if_tokens if_clause_tokens (Finalizer-F.NoFinalizer)

pub tokens_is_NoFinalizer : (mark : Marking) (y : Finalizer) → y ≡ fi.NoFinalizer → tokens_of_finalizer mark y ≡ []
tokens_is_NoFinalizer mark y h = ap (tokens_of_finalizer mark) h ∙ (tokens_NoFinalizer mark)

pub tokens_Finally : (mark : Marking) (word : Token) (block : Block) → tokens_of_finalizer mark (fi.Finally word block) ≡ word ∷ tokens_of_block mark block
unfolding tokens_of_finalizer tokens_of_block
tokens_Finally mark word block = ap (tokens_of_finalizer mark) (sym (fi.rolls-Finally word block)) ∙ fold-roll-Finalizer Tokens Tokens Tokens Tokens Tokens Tokens Tokens Tokens Tokens Tokens Tokens Tokens Tokens Tokens Tokens Tokens Tokens Tokens Tokens Tokens Tokens Tokens Tokens Tokens Tokens Tokens Tokens class_element_tokens heritage_tokens expression_tokens link_tokens concise_body_tokens element_tokens property_name_tokens case_clause_tokens else_tokens finalizer_tokens for_start_tokens handler_tokens maybe_expression_tokens (statement_tokens mark) class_tokens operand_tokens substitution_tokens substitutions_tokens function_tokens method_tokens bracketed_tokens elements_tokens next_element_tokens block_tokens declaration_tokens else_if_tokens if_clause_tokens (Finalizer-F.Finally word block)

pub tokens_is_Finally : (mark : Marking) (y : Finalizer) (word : Token) (block : Block) → y ≡ fi.Finally word block → tokens_of_finalizer mark y ≡ word ∷ tokens_of_block mark block
tokens_is_Finally mark y word block h = ap (tokens_of_finalizer mark) h ∙ (tokens_Finally mark word block)

pub tokens_NoStart : (mark : Marking) → tokens_of_for_start mark (fs.NoStart) ≡ []
unfolding tokens_of_for_start
tokens_NoStart mark = ap (tokens_of_for_start mark) (sym (fs.rolls-NoStart)) ∙ fold-roll-ForStart Tokens Tokens Tokens Tokens Tokens Tokens Tokens Tokens Tokens Tokens Tokens Tokens Tokens Tokens Tokens Tokens Tokens Tokens Tokens Tokens Tokens Tokens Tokens Tokens Tokens Tokens Tokens class_element_tokens heritage_tokens expression_tokens link_tokens concise_body_tokens element_tokens property_name_tokens case_clause_tokens else_tokens finalizer_tokens for_start_tokens handler_tokens maybe_expression_tokens (statement_tokens mark) class_tokens operand_tokens substitution_tokens substitutions_tokens function_tokens method_tokens bracketed_tokens elements_tokens next_element_tokens block_tokens declaration_tokens else_if_tokens if_clause_tokens (ForStart-F.NoStart)

pub tokens_is_NoStart : (mark : Marking) (y : ForStart) → y ≡ fs.NoStart → tokens_of_for_start mark y ≡ []
tokens_is_NoStart mark y h = ap (tokens_of_for_start mark) h ∙ (tokens_NoStart mark)

pub tokens_StartExpression : (mark : Marking) (x : Expression) → tokens_of_for_start mark (fs.StartExpression x) ≡ tokens_of_expression mark x
unfolding tokens_of_expression tokens_of_for_start
tokens_StartExpression mark x = ap (tokens_of_for_start mark) (sym (fs.rolls-StartExpression x)) ∙ fold-roll-ForStart Tokens Tokens Tokens Tokens Tokens Tokens Tokens Tokens Tokens Tokens Tokens Tokens Tokens Tokens Tokens Tokens Tokens Tokens Tokens Tokens Tokens Tokens Tokens Tokens Tokens Tokens Tokens class_element_tokens heritage_tokens expression_tokens link_tokens concise_body_tokens element_tokens property_name_tokens case_clause_tokens else_tokens finalizer_tokens for_start_tokens handler_tokens maybe_expression_tokens (statement_tokens mark) class_tokens operand_tokens substitution_tokens substitutions_tokens function_tokens method_tokens bracketed_tokens elements_tokens next_element_tokens block_tokens declaration_tokens else_if_tokens if_clause_tokens (ForStart-F.StartExpression x)

pub tokens_is_StartExpression : (mark : Marking) (y : ForStart) (x : Expression) → y ≡ fs.StartExpression x → tokens_of_for_start mark y ≡ tokens_of_expression mark x
tokens_is_StartExpression mark y x h = ap (tokens_of_for_start mark) h ∙ (tokens_StartExpression mark x)

pub tokens_StartDeclaration : (mark : Marking) (declaration : Declaration) → tokens_of_for_start mark (fs.StartDeclaration declaration) ≡ tokens_of_declaration mark declaration
unfolding tokens_of_for_start tokens_of_declaration
tokens_StartDeclaration mark declaration = ap (tokens_of_for_start mark) (sym (fs.rolls-StartDeclaration declaration)) ∙ fold-roll-ForStart Tokens Tokens Tokens Tokens Tokens Tokens Tokens Tokens Tokens Tokens Tokens Tokens Tokens Tokens Tokens Tokens Tokens Tokens Tokens Tokens Tokens Tokens Tokens Tokens Tokens Tokens Tokens class_element_tokens heritage_tokens expression_tokens link_tokens concise_body_tokens element_tokens property_name_tokens case_clause_tokens else_tokens finalizer_tokens for_start_tokens handler_tokens maybe_expression_tokens (statement_tokens mark) class_tokens operand_tokens substitution_tokens substitutions_tokens function_tokens method_tokens bracketed_tokens elements_tokens next_element_tokens block_tokens declaration_tokens else_if_tokens if_clause_tokens (ForStart-F.StartDeclaration declaration)

pub tokens_is_StartDeclaration : (mark : Marking) (y : ForStart) (declaration : Declaration) → y ≡ fs.StartDeclaration declaration → tokens_of_for_start mark y ≡ tokens_of_declaration mark declaration
tokens_is_StartDeclaration mark y declaration h = ap (tokens_of_for_start mark) h ∙ (tokens_StartDeclaration mark declaration)

pub tokens_NoHandler : (mark : Marking) → tokens_of_handler mark (ha.NoHandler) ≡ []
unfolding tokens_of_handler
tokens_NoHandler mark = ap (tokens_of_handler mark) (sym (ha.rolls-NoHandler)) ∙ fold-roll-Handler Tokens Tokens Tokens Tokens Tokens Tokens Tokens Tokens Tokens Tokens Tokens Tokens Tokens Tokens Tokens Tokens Tokens Tokens Tokens Tokens Tokens Tokens Tokens Tokens Tokens Tokens Tokens class_element_tokens heritage_tokens expression_tokens link_tokens concise_body_tokens element_tokens property_name_tokens case_clause_tokens else_tokens finalizer_tokens for_start_tokens handler_tokens maybe_expression_tokens (statement_tokens mark) class_tokens operand_tokens substitution_tokens substitutions_tokens function_tokens method_tokens bracketed_tokens elements_tokens next_element_tokens block_tokens declaration_tokens else_if_tokens if_clause_tokens (Handler-F.NoHandler)

pub tokens_is_NoHandler : (mark : Marking) (y : Handler) → y ≡ ha.NoHandler → tokens_of_handler mark y ≡ []
tokens_is_NoHandler mark y h = ap (tokens_of_handler mark) h ∙ (tokens_NoHandler mark)

pub tokens_Catch : (mark : Marking) (word : Token) (block : Block) → tokens_of_handler mark (ha.Catch word block) ≡ word ∷ tokens_of_block mark block
unfolding tokens_of_handler tokens_of_block
tokens_Catch mark word block = ap (tokens_of_handler mark) (sym (ha.rolls-Catch word block)) ∙ fold-roll-Handler Tokens Tokens Tokens Tokens Tokens Tokens Tokens Tokens Tokens Tokens Tokens Tokens Tokens Tokens Tokens Tokens Tokens Tokens Tokens Tokens Tokens Tokens Tokens Tokens Tokens Tokens Tokens class_element_tokens heritage_tokens expression_tokens link_tokens concise_body_tokens element_tokens property_name_tokens case_clause_tokens else_tokens finalizer_tokens for_start_tokens handler_tokens maybe_expression_tokens (statement_tokens mark) class_tokens operand_tokens substitution_tokens substitutions_tokens function_tokens method_tokens bracketed_tokens elements_tokens next_element_tokens block_tokens declaration_tokens else_if_tokens if_clause_tokens (Handler-F.Catch word block)

pub tokens_is_Catch : (mark : Marking) (y : Handler) (word : Token) (block : Block) → y ≡ ha.Catch word block → tokens_of_handler mark y ≡ word ∷ tokens_of_block mark block
tokens_is_Catch mark y word block h = ap (tokens_of_handler mark) h ∙ (tokens_Catch mark word block)

pub tokens_CatchParameter : (mark : Marking) (word : Token) (begin : Token) (x : Expression) (ending : Token) (block : Block) → tokens_of_handler mark (ha.CatchParameter word begin x ending block) ≡ word ∷ (begin ∷ (tokens_of_expression mark x ++ (ending ∷ tokens_of_block mark block)))
unfolding tokens_of_expression tokens_of_handler tokens_of_block
tokens_CatchParameter mark word begin x ending block = ap (tokens_of_handler mark) (sym (ha.rolls-CatchParameter word begin x ending block)) ∙ fold-roll-Handler Tokens Tokens Tokens Tokens Tokens Tokens Tokens Tokens Tokens Tokens Tokens Tokens Tokens Tokens Tokens Tokens Tokens Tokens Tokens Tokens Tokens Tokens Tokens Tokens Tokens Tokens Tokens class_element_tokens heritage_tokens expression_tokens link_tokens concise_body_tokens element_tokens property_name_tokens case_clause_tokens else_tokens finalizer_tokens for_start_tokens handler_tokens maybe_expression_tokens (statement_tokens mark) class_tokens operand_tokens substitution_tokens substitutions_tokens function_tokens method_tokens bracketed_tokens elements_tokens next_element_tokens block_tokens declaration_tokens else_if_tokens if_clause_tokens (Handler-F.CatchParameter word begin x ending block)

pub tokens_is_CatchParameter : (mark : Marking) (y : Handler) (word : Token) (begin : Token) (x : Expression) (ending : Token) (block : Block) → y ≡ ha.CatchParameter word begin x ending block → tokens_of_handler mark y ≡ word ∷ (begin ∷ (tokens_of_expression mark x ++ (ending ∷ tokens_of_block mark block)))
tokens_is_CatchParameter mark y word begin x ending block h = ap (tokens_of_handler mark) h ∙ (tokens_CatchParameter mark word begin x ending block)

pub tokens_Absent : (mark : Marking) → tokens_of_maybe_expression mark (me.Absent) ≡ []
unfolding tokens_of_maybe_expression
tokens_Absent mark = ap (tokens_of_maybe_expression mark) (sym (me.rolls-Absent)) ∙ fold-roll-MaybeExpression Tokens Tokens Tokens Tokens Tokens Tokens Tokens Tokens Tokens Tokens Tokens Tokens Tokens Tokens Tokens Tokens Tokens Tokens Tokens Tokens Tokens Tokens Tokens Tokens Tokens Tokens Tokens class_element_tokens heritage_tokens expression_tokens link_tokens concise_body_tokens element_tokens property_name_tokens case_clause_tokens else_tokens finalizer_tokens for_start_tokens handler_tokens maybe_expression_tokens (statement_tokens mark) class_tokens operand_tokens substitution_tokens substitutions_tokens function_tokens method_tokens bracketed_tokens elements_tokens next_element_tokens block_tokens declaration_tokens else_if_tokens if_clause_tokens (MaybeExpression-F.Absent)

pub tokens_is_Absent : (mark : Marking) (y : MaybeExpression) → y ≡ me.Absent → tokens_of_maybe_expression mark y ≡ []
tokens_is_Absent mark y h = ap (tokens_of_maybe_expression mark) h ∙ (tokens_Absent mark)

pub tokens_Present : (mark : Marking) (x : Expression) → tokens_of_maybe_expression mark (me.Present x) ≡ tokens_of_expression mark x
unfolding tokens_of_expression tokens_of_maybe_expression
tokens_Present mark x = ap (tokens_of_maybe_expression mark) (sym (me.rolls-Present x)) ∙ fold-roll-MaybeExpression Tokens Tokens Tokens Tokens Tokens Tokens Tokens Tokens Tokens Tokens Tokens Tokens Tokens Tokens Tokens Tokens Tokens Tokens Tokens Tokens Tokens Tokens Tokens Tokens Tokens Tokens Tokens class_element_tokens heritage_tokens expression_tokens link_tokens concise_body_tokens element_tokens property_name_tokens case_clause_tokens else_tokens finalizer_tokens for_start_tokens handler_tokens maybe_expression_tokens (statement_tokens mark) class_tokens operand_tokens substitution_tokens substitutions_tokens function_tokens method_tokens bracketed_tokens elements_tokens next_element_tokens block_tokens declaration_tokens else_if_tokens if_clause_tokens (MaybeExpression-F.Present x)

pub tokens_is_Present : (mark : Marking) (y : MaybeExpression) (x : Expression) → y ≡ me.Present x → tokens_of_maybe_expression mark y ≡ tokens_of_expression mark x
tokens_is_Present mark y x h = ap (tokens_of_maybe_expression mark) h ∙ (tokens_Present mark x)

pub tokens_BlockStatement : (mark : Marking) (block : Block) → tokens_of_statement mark (s.BlockStatement block) ≡ tokens_of_block mark block
unfolding tokens_of_statement tokens_of_block
tokens_BlockStatement mark block = ap (tokens_of_statement mark) (sym (s.rolls-BlockStatement block)) ∙ fold-roll-Statement Tokens Tokens Tokens Tokens Tokens Tokens Tokens Tokens Tokens Tokens Tokens Tokens Tokens Tokens Tokens Tokens Tokens Tokens Tokens Tokens Tokens Tokens Tokens Tokens Tokens Tokens Tokens class_element_tokens heritage_tokens expression_tokens link_tokens concise_body_tokens element_tokens property_name_tokens case_clause_tokens else_tokens finalizer_tokens for_start_tokens handler_tokens maybe_expression_tokens (statement_tokens mark) class_tokens operand_tokens substitution_tokens substitutions_tokens function_tokens method_tokens bracketed_tokens elements_tokens next_element_tokens block_tokens declaration_tokens else_if_tokens if_clause_tokens (Statement-F.BlockStatement block)

pub tokens_is_BlockStatement : (mark : Marking) (y : Statement) (block : Block) → y ≡ s.BlockStatement block → tokens_of_statement mark y ≡ tokens_of_block mark block
tokens_is_BlockStatement mark y block h = ap (tokens_of_statement mark) h ∙ (tokens_BlockStatement mark block)

pub tokens_Variables : (mark : Marking) (declaration : Declaration) (end : Option Token) → tokens_of_statement mark (s.Variables declaration end) ≡ tokens_of_declaration mark declaration ++ (mark end)
unfolding tokens_of_statement tokens_of_declaration
tokens_Variables mark declaration end = ap (tokens_of_statement mark) (sym (s.rolls-Variables declaration end)) ∙ fold-roll-Statement Tokens Tokens Tokens Tokens Tokens Tokens Tokens Tokens Tokens Tokens Tokens Tokens Tokens Tokens Tokens Tokens Tokens Tokens Tokens Tokens Tokens Tokens Tokens Tokens Tokens Tokens Tokens class_element_tokens heritage_tokens expression_tokens link_tokens concise_body_tokens element_tokens property_name_tokens case_clause_tokens else_tokens finalizer_tokens for_start_tokens handler_tokens maybe_expression_tokens (statement_tokens mark) class_tokens operand_tokens substitution_tokens substitutions_tokens function_tokens method_tokens bracketed_tokens elements_tokens next_element_tokens block_tokens declaration_tokens else_if_tokens if_clause_tokens (Statement-F.Variables declaration end)

pub tokens_is_Variables : (mark : Marking) (y : Statement) (declaration : Declaration) (end : Option Token) → y ≡ s.Variables declaration end → tokens_of_statement mark y ≡ tokens_of_declaration mark declaration ++ (mark end)
tokens_is_Variables mark y declaration end h = ap (tokens_of_statement mark) h ∙ (tokens_Variables mark declaration end)

pub tokens_Empty : (mark : Marking) (semicolon : Token) → tokens_of_statement mark (s.Empty semicolon) ≡ semicolon ∷ []
unfolding tokens_of_statement
tokens_Empty mark semicolon = ap (tokens_of_statement mark) (sym (s.rolls-Empty semicolon)) ∙ fold-roll-Statement Tokens Tokens Tokens Tokens Tokens Tokens Tokens Tokens Tokens Tokens Tokens Tokens Tokens Tokens Tokens Tokens Tokens Tokens Tokens Tokens Tokens Tokens Tokens Tokens Tokens Tokens Tokens class_element_tokens heritage_tokens expression_tokens link_tokens concise_body_tokens element_tokens property_name_tokens case_clause_tokens else_tokens finalizer_tokens for_start_tokens handler_tokens maybe_expression_tokens (statement_tokens mark) class_tokens operand_tokens substitution_tokens substitutions_tokens function_tokens method_tokens bracketed_tokens elements_tokens next_element_tokens block_tokens declaration_tokens else_if_tokens if_clause_tokens (Statement-F.Empty semicolon)

pub tokens_is_Empty : (mark : Marking) (y : Statement) (semicolon : Token) → y ≡ s.Empty semicolon → tokens_of_statement mark y ≡ semicolon ∷ []
tokens_is_Empty mark y semicolon h = ap (tokens_of_statement mark) h ∙ (tokens_Empty mark semicolon)

pub tokens_ExpressionStatement : (mark : Marking) (x : Expression) (end : Option Token) → tokens_of_statement mark (s.ExpressionStatement x end) ≡ tokens_of_expression mark x ++ (mark end)
unfolding tokens_of_expression tokens_of_statement
tokens_ExpressionStatement mark x end = ap (tokens_of_statement mark) (sym (s.rolls-ExpressionStatement x end)) ∙ fold-roll-Statement Tokens Tokens Tokens Tokens Tokens Tokens Tokens Tokens Tokens Tokens Tokens Tokens Tokens Tokens Tokens Tokens Tokens Tokens Tokens Tokens Tokens Tokens Tokens Tokens Tokens Tokens Tokens class_element_tokens heritage_tokens expression_tokens link_tokens concise_body_tokens element_tokens property_name_tokens case_clause_tokens else_tokens finalizer_tokens for_start_tokens handler_tokens maybe_expression_tokens (statement_tokens mark) class_tokens operand_tokens substitution_tokens substitutions_tokens function_tokens method_tokens bracketed_tokens elements_tokens next_element_tokens block_tokens declaration_tokens else_if_tokens if_clause_tokens (Statement-F.ExpressionStatement x end)

pub tokens_is_ExpressionStatement : (mark : Marking) (y : Statement) (x : Expression) (end : Option Token) → y ≡ s.ExpressionStatement x end → tokens_of_statement mark y ≡ tokens_of_expression mark x ++ (mark end)
tokens_is_ExpressionStatement mark y x end h = ap (tokens_of_statement mark) h ∙ (tokens_ExpressionStatement mark x end)

pub tokens_If : (mark : Marking) (clause : IfClause) (rest : List ElseIf) (last : Else) → tokens_of_statement mark (s.If clause rest last) ≡ tokens_of_if_clause mark clause ++ (flat_map (tokens_of_else_if mark) rest ++ (tokens_of_else mark last))
unfolding tokens_of_else tokens_of_statement tokens_of_else_if tokens_of_if_clause
tokens_If mark clause rest last = ap (tokens_of_statement mark) (sym (s.rolls-If clause rest last)) ∙ fold-roll-Statement Tokens Tokens Tokens Tokens Tokens Tokens Tokens Tokens Tokens Tokens Tokens Tokens Tokens Tokens Tokens Tokens Tokens Tokens Tokens Tokens Tokens Tokens Tokens Tokens Tokens Tokens Tokens class_element_tokens heritage_tokens expression_tokens link_tokens concise_body_tokens element_tokens property_name_tokens case_clause_tokens else_tokens finalizer_tokens for_start_tokens handler_tokens maybe_expression_tokens (statement_tokens mark) class_tokens operand_tokens substitution_tokens substitutions_tokens function_tokens method_tokens bracketed_tokens elements_tokens next_element_tokens block_tokens declaration_tokens else_if_tokens if_clause_tokens (Statement-F.If clause rest last) ∙ ap (λ ts. tokens_of_if_clause mark clause ++ (ts ++ (tokens_of_else mark last))) (flat_map_id (tokens_of_else_if mark) rest)

pub tokens_is_If : (mark : Marking) (y : Statement) (clause : IfClause) (rest : List ElseIf) (last : Else) → y ≡ s.If clause rest last → tokens_of_statement mark y ≡ tokens_of_if_clause mark clause ++ (flat_map (tokens_of_else_if mark) rest ++ (tokens_of_else mark last))
tokens_is_If mark y clause rest last h = ap (tokens_of_statement mark) h ∙ (tokens_If mark clause rest last)

pub tokens_DoWhile : (mark : Marking) (word : Token) (body : Statement) (while_word : Token) (begin : Token) (x : Expression) (ending : Token) (end : Option Token) → tokens_of_statement mark (s.DoWhile word body while_word begin x ending end) ≡ word ∷ (tokens_of_statement mark body ++ (while_word ∷ (begin ∷ (tokens_of_expression mark x ++ (ending ∷ mark end)))))
unfolding tokens_of_expression tokens_of_statement
tokens_DoWhile mark word body while_word begin x ending end = ap (tokens_of_statement mark) (sym (s.rolls-DoWhile word body while_word begin x ending end)) ∙ fold-roll-Statement Tokens Tokens Tokens Tokens Tokens Tokens Tokens Tokens Tokens Tokens Tokens Tokens Tokens Tokens Tokens Tokens Tokens Tokens Tokens Tokens Tokens Tokens Tokens Tokens Tokens Tokens Tokens class_element_tokens heritage_tokens expression_tokens link_tokens concise_body_tokens element_tokens property_name_tokens case_clause_tokens else_tokens finalizer_tokens for_start_tokens handler_tokens maybe_expression_tokens (statement_tokens mark) class_tokens operand_tokens substitution_tokens substitutions_tokens function_tokens method_tokens bracketed_tokens elements_tokens next_element_tokens block_tokens declaration_tokens else_if_tokens if_clause_tokens (Statement-F.DoWhile word body while_word begin x ending end)

pub tokens_is_DoWhile : (mark : Marking) (y : Statement) (word : Token) (body : Statement) (while_word : Token) (begin : Token) (x : Expression) (ending : Token) (end : Option Token) → y ≡ s.DoWhile word body while_word begin x ending end → tokens_of_statement mark y ≡ word ∷ (tokens_of_statement mark body ++ (while_word ∷ (begin ∷ (tokens_of_expression mark x ++ (ending ∷ mark end)))))
tokens_is_DoWhile mark y word body while_word begin x ending end h = ap (tokens_of_statement mark) h ∙ (tokens_DoWhile mark word body while_word begin x ending end)

pub tokens_While : (mark : Marking) (word : Token) (begin : Token) (x : Expression) (ending : Token) (body : Statement) → tokens_of_statement mark (s.While word begin x ending body) ≡ word ∷ (begin ∷ (tokens_of_expression mark x ++ (ending ∷ tokens_of_statement mark body)))
unfolding tokens_of_expression tokens_of_statement
tokens_While mark word begin x ending body = ap (tokens_of_statement mark) (sym (s.rolls-While word begin x ending body)) ∙ fold-roll-Statement Tokens Tokens Tokens Tokens Tokens Tokens Tokens Tokens Tokens Tokens Tokens Tokens Tokens Tokens Tokens Tokens Tokens Tokens Tokens Tokens Tokens Tokens Tokens Tokens Tokens Tokens Tokens class_element_tokens heritage_tokens expression_tokens link_tokens concise_body_tokens element_tokens property_name_tokens case_clause_tokens else_tokens finalizer_tokens for_start_tokens handler_tokens maybe_expression_tokens (statement_tokens mark) class_tokens operand_tokens substitution_tokens substitutions_tokens function_tokens method_tokens bracketed_tokens elements_tokens next_element_tokens block_tokens declaration_tokens else_if_tokens if_clause_tokens (Statement-F.While word begin x ending body)

pub tokens_is_While : (mark : Marking) (y : Statement) (word : Token) (begin : Token) (x : Expression) (ending : Token) (body : Statement) → y ≡ s.While word begin x ending body → tokens_of_statement mark y ≡ word ∷ (begin ∷ (tokens_of_expression mark x ++ (ending ∷ tokens_of_statement mark body)))
tokens_is_While mark y word begin x ending body h = ap (tokens_of_statement mark) h ∙ (tokens_While mark word begin x ending body)

pub tokens_For : (mark : Marking) (word : Token) (begin : Token) (start : ForStart) (first : Token) (test : MaybeExpression) (second : Token) (step : MaybeExpression) (ending : Token) (body : Statement) → tokens_of_statement mark (s.For word begin start first test second step ending body) ≡ word ∷ (begin ∷ (tokens_of_for_start mark start ++ (first ∷ (tokens_of_maybe_expression mark test ++ (second ∷ (tokens_of_maybe_expression mark step ++ (ending ∷ tokens_of_statement mark body)))))))
unfolding tokens_of_for_start tokens_of_maybe_expression tokens_of_statement
tokens_For mark word begin start first test second step ending body = ap (tokens_of_statement mark) (sym (s.rolls-For word begin start first test second step ending body)) ∙ fold-roll-Statement Tokens Tokens Tokens Tokens Tokens Tokens Tokens Tokens Tokens Tokens Tokens Tokens Tokens Tokens Tokens Tokens Tokens Tokens Tokens Tokens Tokens Tokens Tokens Tokens Tokens Tokens Tokens class_element_tokens heritage_tokens expression_tokens link_tokens concise_body_tokens element_tokens property_name_tokens case_clause_tokens else_tokens finalizer_tokens for_start_tokens handler_tokens maybe_expression_tokens (statement_tokens mark) class_tokens operand_tokens substitution_tokens substitutions_tokens function_tokens method_tokens bracketed_tokens elements_tokens next_element_tokens block_tokens declaration_tokens else_if_tokens if_clause_tokens (Statement-F.For word begin start first test second step ending body)

pub tokens_is_For : (mark : Marking) (y : Statement) (word : Token) (begin : Token) (start : ForStart) (first : Token) (test : MaybeExpression) (second : Token) (step : MaybeExpression) (ending : Token) (body : Statement) → y ≡ s.For word begin start first test second step ending body → tokens_of_statement mark y ≡ word ∷ (begin ∷ (tokens_of_for_start mark start ++ (first ∷ (tokens_of_maybe_expression mark test ++ (second ∷ (tokens_of_maybe_expression mark step ++ (ending ∷ tokens_of_statement mark body)))))))
tokens_is_For mark y word begin start first test second step ending body h = ap (tokens_of_statement mark) h ∙ (tokens_For mark word begin start first test second step ending body)

pub tokens_ForEach : (mark : Marking) (word : Token) (await_word : Option Token) (begin : Token) (start : ForStart) (middle : Token) (x : Expression) (ending : Token) (body : Statement) → tokens_of_statement mark (s.ForEach word await_word begin start middle x ending body) ≡ word ∷ (maybe_token await_word ++ (begin ∷ (tokens_of_for_start mark start ++ (middle ∷ (tokens_of_expression mark x ++ (ending ∷ tokens_of_statement mark body))))))
unfolding tokens_of_expression tokens_of_for_start tokens_of_statement
tokens_ForEach mark word await_word begin start middle x ending body = ap (tokens_of_statement mark) (sym (s.rolls-ForEach word await_word begin start middle x ending body)) ∙ fold-roll-Statement Tokens Tokens Tokens Tokens Tokens Tokens Tokens Tokens Tokens Tokens Tokens Tokens Tokens Tokens Tokens Tokens Tokens Tokens Tokens Tokens Tokens Tokens Tokens Tokens Tokens Tokens Tokens class_element_tokens heritage_tokens expression_tokens link_tokens concise_body_tokens element_tokens property_name_tokens case_clause_tokens else_tokens finalizer_tokens for_start_tokens handler_tokens maybe_expression_tokens (statement_tokens mark) class_tokens operand_tokens substitution_tokens substitutions_tokens function_tokens method_tokens bracketed_tokens elements_tokens next_element_tokens block_tokens declaration_tokens else_if_tokens if_clause_tokens (Statement-F.ForEach word await_word begin start middle x ending body)

pub tokens_is_ForEach : (mark : Marking) (y : Statement) (word : Token) (await_word : Option Token) (begin : Token) (start : ForStart) (middle : Token) (x : Expression) (ending : Token) (body : Statement) → y ≡ s.ForEach word await_word begin start middle x ending body → tokens_of_statement mark y ≡ word ∷ (maybe_token await_word ++ (begin ∷ (tokens_of_for_start mark start ++ (middle ∷ (tokens_of_expression mark x ++ (ending ∷ tokens_of_statement mark body))))))
tokens_is_ForEach mark y word await_word begin start middle x ending body h = ap (tokens_of_statement mark) h ∙ (tokens_ForEach mark word await_word begin start middle x ending body)

pub tokens_Continue : (mark : Marking) (word : Token) (label : Option Token) (end : Option Token) → tokens_of_statement mark (s.Continue word label end) ≡ word ∷ (maybe_token label ++ (mark end))
unfolding tokens_of_statement
tokens_Continue mark word label end = ap (tokens_of_statement mark) (sym (s.rolls-Continue word label end)) ∙ fold-roll-Statement Tokens Tokens Tokens Tokens Tokens Tokens Tokens Tokens Tokens Tokens Tokens Tokens Tokens Tokens Tokens Tokens Tokens Tokens Tokens Tokens Tokens Tokens Tokens Tokens Tokens Tokens Tokens class_element_tokens heritage_tokens expression_tokens link_tokens concise_body_tokens element_tokens property_name_tokens case_clause_tokens else_tokens finalizer_tokens for_start_tokens handler_tokens maybe_expression_tokens (statement_tokens mark) class_tokens operand_tokens substitution_tokens substitutions_tokens function_tokens method_tokens bracketed_tokens elements_tokens next_element_tokens block_tokens declaration_tokens else_if_tokens if_clause_tokens (Statement-F.Continue word label end)

pub tokens_is_Continue : (mark : Marking) (y : Statement) (word : Token) (label : Option Token) (end : Option Token) → y ≡ s.Continue word label end → tokens_of_statement mark y ≡ word ∷ (maybe_token label ++ (mark end))
tokens_is_Continue mark y word label end h = ap (tokens_of_statement mark) h ∙ (tokens_Continue mark word label end)

pub tokens_Break : (mark : Marking) (word : Token) (label : Option Token) (end : Option Token) → tokens_of_statement mark (s.Break word label end) ≡ word ∷ (maybe_token label ++ (mark end))
unfolding tokens_of_statement
tokens_Break mark word label end = ap (tokens_of_statement mark) (sym (s.rolls-Break word label end)) ∙ fold-roll-Statement Tokens Tokens Tokens Tokens Tokens Tokens Tokens Tokens Tokens Tokens Tokens Tokens Tokens Tokens Tokens Tokens Tokens Tokens Tokens Tokens Tokens Tokens Tokens Tokens Tokens Tokens Tokens class_element_tokens heritage_tokens expression_tokens link_tokens concise_body_tokens element_tokens property_name_tokens case_clause_tokens else_tokens finalizer_tokens for_start_tokens handler_tokens maybe_expression_tokens (statement_tokens mark) class_tokens operand_tokens substitution_tokens substitutions_tokens function_tokens method_tokens bracketed_tokens elements_tokens next_element_tokens block_tokens declaration_tokens else_if_tokens if_clause_tokens (Statement-F.Break word label end)

pub tokens_is_Break : (mark : Marking) (y : Statement) (word : Token) (label : Option Token) (end : Option Token) → y ≡ s.Break word label end → tokens_of_statement mark y ≡ word ∷ (maybe_token label ++ (mark end))
tokens_is_Break mark y word label end h = ap (tokens_of_statement mark) h ∙ (tokens_Break mark word label end)

pub tokens_Return : (mark : Marking) (word : Token) (x : MaybeExpression) (end : Option Token) → tokens_of_statement mark (s.Return word x end) ≡ word ∷ (tokens_of_maybe_expression mark x ++ (mark end))
unfolding tokens_of_maybe_expression tokens_of_statement
tokens_Return mark word x end = ap (tokens_of_statement mark) (sym (s.rolls-Return word x end)) ∙ fold-roll-Statement Tokens Tokens Tokens Tokens Tokens Tokens Tokens Tokens Tokens Tokens Tokens Tokens Tokens Tokens Tokens Tokens Tokens Tokens Tokens Tokens Tokens Tokens Tokens Tokens Tokens Tokens Tokens class_element_tokens heritage_tokens expression_tokens link_tokens concise_body_tokens element_tokens property_name_tokens case_clause_tokens else_tokens finalizer_tokens for_start_tokens handler_tokens maybe_expression_tokens (statement_tokens mark) class_tokens operand_tokens substitution_tokens substitutions_tokens function_tokens method_tokens bracketed_tokens elements_tokens next_element_tokens block_tokens declaration_tokens else_if_tokens if_clause_tokens (Statement-F.Return word x end)

pub tokens_is_Return : (mark : Marking) (y : Statement) (word : Token) (x : MaybeExpression) (end : Option Token) → y ≡ s.Return word x end → tokens_of_statement mark y ≡ word ∷ (tokens_of_maybe_expression mark x ++ (mark end))
tokens_is_Return mark y word x end h = ap (tokens_of_statement mark) h ∙ (tokens_Return mark word x end)

pub tokens_Switch : (mark : Marking) (word : Token) (begin : Token) (x : Expression) (ending : Token) (left : Token) (clauses : List CaseClause) (right : Token) → tokens_of_statement mark (s.Switch word begin x ending left clauses right) ≡ word ∷ (begin ∷ (tokens_of_expression mark x ++ (ending ∷ (left ∷ (flat_map (tokens_of_case_clause mark) clauses ++ (right ∷ []))))))
unfolding tokens_of_expression tokens_of_case_clause tokens_of_statement
tokens_Switch mark word begin x ending left clauses right = ap (tokens_of_statement mark) (sym (s.rolls-Switch word begin x ending left clauses right)) ∙ fold-roll-Statement Tokens Tokens Tokens Tokens Tokens Tokens Tokens Tokens Tokens Tokens Tokens Tokens Tokens Tokens Tokens Tokens Tokens Tokens Tokens Tokens Tokens Tokens Tokens Tokens Tokens Tokens Tokens class_element_tokens heritage_tokens expression_tokens link_tokens concise_body_tokens element_tokens property_name_tokens case_clause_tokens else_tokens finalizer_tokens for_start_tokens handler_tokens maybe_expression_tokens (statement_tokens mark) class_tokens operand_tokens substitution_tokens substitutions_tokens function_tokens method_tokens bracketed_tokens elements_tokens next_element_tokens block_tokens declaration_tokens else_if_tokens if_clause_tokens (Statement-F.Switch word begin x ending left clauses right) ∙ ap (λ ts. word ∷ (begin ∷ (tokens_of_expression mark x ++ (ending ∷ (left ∷ (ts ++ (right ∷ []))))))) (flat_map_id (tokens_of_case_clause mark) clauses)

pub tokens_is_Switch : (mark : Marking) (y : Statement) (word : Token) (begin : Token) (x : Expression) (ending : Token) (left : Token) (clauses : List CaseClause) (right : Token) → y ≡ s.Switch word begin x ending left clauses right → tokens_of_statement mark y ≡ word ∷ (begin ∷ (tokens_of_expression mark x ++ (ending ∷ (left ∷ (flat_map (tokens_of_case_clause mark) clauses ++ (right ∷ []))))))
tokens_is_Switch mark y word begin x ending left clauses right h = ap (tokens_of_statement mark) h ∙ (tokens_Switch mark word begin x ending left clauses right)

pub tokens_Labelled : (mark : Marking) (label : Token) (colon : Token) (body : Statement) → tokens_of_statement mark (s.Labelled label colon body) ≡ label ∷ colon ∷ tokens_of_statement mark body
unfolding tokens_of_statement
tokens_Labelled mark label colon body = ap (tokens_of_statement mark) (sym (s.rolls-Labelled label colon body)) ∙ fold-roll-Statement Tokens Tokens Tokens Tokens Tokens Tokens Tokens Tokens Tokens Tokens Tokens Tokens Tokens Tokens Tokens Tokens Tokens Tokens Tokens Tokens Tokens Tokens Tokens Tokens Tokens Tokens Tokens class_element_tokens heritage_tokens expression_tokens link_tokens concise_body_tokens element_tokens property_name_tokens case_clause_tokens else_tokens finalizer_tokens for_start_tokens handler_tokens maybe_expression_tokens (statement_tokens mark) class_tokens operand_tokens substitution_tokens substitutions_tokens function_tokens method_tokens bracketed_tokens elements_tokens next_element_tokens block_tokens declaration_tokens else_if_tokens if_clause_tokens (Statement-F.Labelled label colon body)

pub tokens_is_Labelled : (mark : Marking) (y : Statement) (label : Token) (colon : Token) (body : Statement) → y ≡ s.Labelled label colon body → tokens_of_statement mark y ≡ label ∷ colon ∷ tokens_of_statement mark body
tokens_is_Labelled mark y label colon body h = ap (tokens_of_statement mark) h ∙ (tokens_Labelled mark label colon body)

pub tokens_Throw : (mark : Marking) (word : Token) (x : Expression) (end : Option Token) → tokens_of_statement mark (s.Throw word x end) ≡ word ∷ (tokens_of_expression mark x ++ (mark end))
unfolding tokens_of_expression tokens_of_statement
tokens_Throw mark word x end = ap (tokens_of_statement mark) (sym (s.rolls-Throw word x end)) ∙ fold-roll-Statement Tokens Tokens Tokens Tokens Tokens Tokens Tokens Tokens Tokens Tokens Tokens Tokens Tokens Tokens Tokens Tokens Tokens Tokens Tokens Tokens Tokens Tokens Tokens Tokens Tokens Tokens Tokens class_element_tokens heritage_tokens expression_tokens link_tokens concise_body_tokens element_tokens property_name_tokens case_clause_tokens else_tokens finalizer_tokens for_start_tokens handler_tokens maybe_expression_tokens (statement_tokens mark) class_tokens operand_tokens substitution_tokens substitutions_tokens function_tokens method_tokens bracketed_tokens elements_tokens next_element_tokens block_tokens declaration_tokens else_if_tokens if_clause_tokens (Statement-F.Throw word x end)

pub tokens_is_Throw : (mark : Marking) (y : Statement) (word : Token) (x : Expression) (end : Option Token) → y ≡ s.Throw word x end → tokens_of_statement mark y ≡ word ∷ (tokens_of_expression mark x ++ (mark end))
tokens_is_Throw mark y word x end h = ap (tokens_of_statement mark) h ∙ (tokens_Throw mark word x end)

pub tokens_Try : (mark : Marking) (word : Token) (block : Block) (handler : Handler) (finalizer : Finalizer) → tokens_of_statement mark (s.Try word block handler finalizer) ≡ word ∷ (tokens_of_block mark block ++ (tokens_of_handler mark handler ++ (tokens_of_finalizer mark finalizer)))
unfolding tokens_of_finalizer tokens_of_handler tokens_of_statement tokens_of_block
tokens_Try mark word block handler finalizer = ap (tokens_of_statement mark) (sym (s.rolls-Try word block handler finalizer)) ∙ fold-roll-Statement Tokens Tokens Tokens Tokens Tokens Tokens Tokens Tokens Tokens Tokens Tokens Tokens Tokens Tokens Tokens Tokens Tokens Tokens Tokens Tokens Tokens Tokens Tokens Tokens Tokens Tokens Tokens class_element_tokens heritage_tokens expression_tokens link_tokens concise_body_tokens element_tokens property_name_tokens case_clause_tokens else_tokens finalizer_tokens for_start_tokens handler_tokens maybe_expression_tokens (statement_tokens mark) class_tokens operand_tokens substitution_tokens substitutions_tokens function_tokens method_tokens bracketed_tokens elements_tokens next_element_tokens block_tokens declaration_tokens else_if_tokens if_clause_tokens (Statement-F.Try word block handler finalizer)

pub tokens_is_Try : (mark : Marking) (y : Statement) (word : Token) (block : Block) (handler : Handler) (finalizer : Finalizer) → y ≡ s.Try word block handler finalizer → tokens_of_statement mark y ≡ word ∷ (tokens_of_block mark block ++ (tokens_of_handler mark handler ++ (tokens_of_finalizer mark finalizer)))
tokens_is_Try mark y word block handler finalizer h = ap (tokens_of_statement mark) h ∙ (tokens_Try mark word block handler finalizer)

pub tokens_Debugger : (mark : Marking) (word : Token) (end : Option Token) → tokens_of_statement mark (s.Debugger word end) ≡ word ∷ mark end
unfolding tokens_of_statement
tokens_Debugger mark word end = ap (tokens_of_statement mark) (sym (s.rolls-Debugger word end)) ∙ fold-roll-Statement Tokens Tokens Tokens Tokens Tokens Tokens Tokens Tokens Tokens Tokens Tokens Tokens Tokens Tokens Tokens Tokens Tokens Tokens Tokens Tokens Tokens Tokens Tokens Tokens Tokens Tokens Tokens class_element_tokens heritage_tokens expression_tokens link_tokens concise_body_tokens element_tokens property_name_tokens case_clause_tokens else_tokens finalizer_tokens for_start_tokens handler_tokens maybe_expression_tokens (statement_tokens mark) class_tokens operand_tokens substitution_tokens substitutions_tokens function_tokens method_tokens bracketed_tokens elements_tokens next_element_tokens block_tokens declaration_tokens else_if_tokens if_clause_tokens (Statement-F.Debugger word end)

pub tokens_is_Debugger : (mark : Marking) (y : Statement) (word : Token) (end : Option Token) → y ≡ s.Debugger word end → tokens_of_statement mark y ≡ word ∷ mark end
tokens_is_Debugger mark y word end h = ap (tokens_of_statement mark) h ∙ (tokens_Debugger mark word end)

pub tokens_FunctionDeclaration : (mark : Marking) (function : Function) → tokens_of_statement mark (s.FunctionDeclaration function) ≡ tokens_of_function mark function
unfolding tokens_of_statement tokens_of_function
tokens_FunctionDeclaration mark function = ap (tokens_of_statement mark) (sym (s.rolls-FunctionDeclaration function)) ∙ fold-roll-Statement Tokens Tokens Tokens Tokens Tokens Tokens Tokens Tokens Tokens Tokens Tokens Tokens Tokens Tokens Tokens Tokens Tokens Tokens Tokens Tokens Tokens Tokens Tokens Tokens Tokens Tokens Tokens class_element_tokens heritage_tokens expression_tokens link_tokens concise_body_tokens element_tokens property_name_tokens case_clause_tokens else_tokens finalizer_tokens for_start_tokens handler_tokens maybe_expression_tokens (statement_tokens mark) class_tokens operand_tokens substitution_tokens substitutions_tokens function_tokens method_tokens bracketed_tokens elements_tokens next_element_tokens block_tokens declaration_tokens else_if_tokens if_clause_tokens (Statement-F.FunctionDeclaration function)

pub tokens_is_FunctionDeclaration : (mark : Marking) (y : Statement) (function : Function) → y ≡ s.FunctionDeclaration function → tokens_of_statement mark y ≡ tokens_of_function mark function
tokens_is_FunctionDeclaration mark y function h = ap (tokens_of_statement mark) h ∙ (tokens_FunctionDeclaration mark function)

pub tokens_ClassDeclaration : (mark : Marking) (class : Class) → tokens_of_statement mark (s.ClassDeclaration class) ≡ tokens_of_class mark class
unfolding tokens_of_statement tokens_of_class
tokens_ClassDeclaration mark class = ap (tokens_of_statement mark) (sym (s.rolls-ClassDeclaration class)) ∙ fold-roll-Statement Tokens Tokens Tokens Tokens Tokens Tokens Tokens Tokens Tokens Tokens Tokens Tokens Tokens Tokens Tokens Tokens Tokens Tokens Tokens Tokens Tokens Tokens Tokens Tokens Tokens Tokens Tokens class_element_tokens heritage_tokens expression_tokens link_tokens concise_body_tokens element_tokens property_name_tokens case_clause_tokens else_tokens finalizer_tokens for_start_tokens handler_tokens maybe_expression_tokens (statement_tokens mark) class_tokens operand_tokens substitution_tokens substitutions_tokens function_tokens method_tokens bracketed_tokens elements_tokens next_element_tokens block_tokens declaration_tokens else_if_tokens if_clause_tokens (Statement-F.ClassDeclaration class)

pub tokens_is_ClassDeclaration : (mark : Marking) (y : Statement) (class : Class) → y ≡ s.ClassDeclaration class → tokens_of_statement mark y ≡ tokens_of_class mark class
tokens_is_ClassDeclaration mark y class h = ap (tokens_of_statement mark) h ∙ (tokens_ClassDeclaration mark class)

pub tokens_Class : (mark : Marking) (word : Token) (name : Option Token) (heritage : Heritage) (begin : Token) (elements : List ClassElement) (ending : Token) → tokens_of_class mark (roll-Class (record { word = word; name = name; heritage = heritage; begin = begin; elements = elements; ending = ending })) ≡ word ∷ (maybe_token name ++ (tokens_of_heritage mark heritage ++ (begin ∷ (flat_map (tokens_of_class_element mark) elements ++ (ending ∷ [])))))
unfolding tokens_of_class_element tokens_of_heritage tokens_of_class
tokens_Class mark word name heritage begin elements ending = fold-roll-Class Tokens Tokens Tokens Tokens Tokens Tokens Tokens Tokens Tokens Tokens Tokens Tokens Tokens Tokens Tokens Tokens Tokens Tokens Tokens Tokens Tokens Tokens Tokens Tokens Tokens Tokens Tokens class_element_tokens heritage_tokens expression_tokens link_tokens concise_body_tokens element_tokens property_name_tokens case_clause_tokens else_tokens finalizer_tokens for_start_tokens handler_tokens maybe_expression_tokens (statement_tokens mark) class_tokens operand_tokens substitution_tokens substitutions_tokens function_tokens method_tokens bracketed_tokens elements_tokens next_element_tokens block_tokens declaration_tokens else_if_tokens if_clause_tokens (record { word = word; name = name; heritage = heritage; begin = begin; elements = elements; ending = ending }) ∙ ap (λ ts. word ∷ (maybe_token name ++ (tokens_of_heritage mark heritage ++ (begin ∷ (ts ++ (ending ∷ [])))))) (flat_map_id (tokens_of_class_element mark) elements)

pub tokens_at_Class : (mark : Marking) (y : Class) → tokens_of_class mark y ≡ (out-Class y).word ∷ (maybe_token (out-Class y).name ++ (tokens_of_heritage mark (out-Class y).heritage ++ ((out-Class y).begin ∷ (flat_map (tokens_of_class_element mark) (out-Class y).elements ++ ((out-Class y).ending ∷ [])))))
tokens_at_Class mark y = ap (tokens_of_class mark) (sym (roll-out-Class y)) ∙ tokens_Class mark (out-Class y).word (out-Class y).name (out-Class y).heritage (out-Class y).begin (out-Class y).elements (out-Class y).ending

pub tokens_Operand : (mark : Marking) (operator : Token) (value : Expression) → tokens_of_operand mark (roll-Operand (record { operator = operator; value = value })) ≡ operator ∷ tokens_of_expression mark value
unfolding tokens_of_expression tokens_of_operand
tokens_Operand mark operator value = fold-roll-Operand Tokens Tokens Tokens Tokens Tokens Tokens Tokens Tokens Tokens Tokens Tokens Tokens Tokens Tokens Tokens Tokens Tokens Tokens Tokens Tokens Tokens Tokens Tokens Tokens Tokens Tokens Tokens class_element_tokens heritage_tokens expression_tokens link_tokens concise_body_tokens element_tokens property_name_tokens case_clause_tokens else_tokens finalizer_tokens for_start_tokens handler_tokens maybe_expression_tokens (statement_tokens mark) class_tokens operand_tokens substitution_tokens substitutions_tokens function_tokens method_tokens bracketed_tokens elements_tokens next_element_tokens block_tokens declaration_tokens else_if_tokens if_clause_tokens (record { operator = operator; value = value })

pub tokens_at_Operand : (mark : Marking) (y : Operand) → tokens_of_operand mark y ≡ (out-Operand y).operator ∷ tokens_of_expression mark (out-Operand y).value
tokens_at_Operand mark y = ap (tokens_of_operand mark) (sym (roll-out-Operand y)) ∙ tokens_Operand mark (out-Operand y).operator (out-Operand y).value

pub tokens_Substitution : (mark : Marking) (middle : Token) (value : Expression) → tokens_of_substitution mark (roll-Substitution (record { middle = middle; value = value })) ≡ middle ∷ tokens_of_expression mark value
unfolding tokens_of_expression tokens_of_substitution
tokens_Substitution mark middle value = fold-roll-Substitution Tokens Tokens Tokens Tokens Tokens Tokens Tokens Tokens Tokens Tokens Tokens Tokens Tokens Tokens Tokens Tokens Tokens Tokens Tokens Tokens Tokens Tokens Tokens Tokens Tokens Tokens Tokens class_element_tokens heritage_tokens expression_tokens link_tokens concise_body_tokens element_tokens property_name_tokens case_clause_tokens else_tokens finalizer_tokens for_start_tokens handler_tokens maybe_expression_tokens (statement_tokens mark) class_tokens operand_tokens substitution_tokens substitutions_tokens function_tokens method_tokens bracketed_tokens elements_tokens next_element_tokens block_tokens declaration_tokens else_if_tokens if_clause_tokens (record { middle = middle; value = value })

pub tokens_at_Substitution : (mark : Marking) (y : Substitution) → tokens_of_substitution mark y ≡ (out-Substitution y).middle ∷ tokens_of_expression mark (out-Substitution y).value
tokens_at_Substitution mark y = ap (tokens_of_substitution mark) (sym (roll-out-Substitution y)) ∙ tokens_Substitution mark (out-Substitution y).middle (out-Substitution y).value

pub tokens_Substitutions : (mark : Marking) (head : Token) (first : Expression) (rest : List Substitution) (tail : Token) → tokens_of_substitutions mark (roll-Substitutions (record { head = head; first = first; rest = rest; tail = tail })) ≡ head ∷ (tokens_of_expression mark first ++ (flat_map (tokens_of_substitution mark) rest ++ (tail ∷ [])))
unfolding tokens_of_expression tokens_of_substitution tokens_of_substitutions
tokens_Substitutions mark head first rest tail = fold-roll-Substitutions Tokens Tokens Tokens Tokens Tokens Tokens Tokens Tokens Tokens Tokens Tokens Tokens Tokens Tokens Tokens Tokens Tokens Tokens Tokens Tokens Tokens Tokens Tokens Tokens Tokens Tokens Tokens class_element_tokens heritage_tokens expression_tokens link_tokens concise_body_tokens element_tokens property_name_tokens case_clause_tokens else_tokens finalizer_tokens for_start_tokens handler_tokens maybe_expression_tokens (statement_tokens mark) class_tokens operand_tokens substitution_tokens substitutions_tokens function_tokens method_tokens bracketed_tokens elements_tokens next_element_tokens block_tokens declaration_tokens else_if_tokens if_clause_tokens (record { head = head; first = first; rest = rest; tail = tail }) ∙ ap (λ ts. head ∷ (tokens_of_expression mark first ++ (ts ++ (tail ∷ [])))) (flat_map_id (tokens_of_substitution mark) rest)

pub tokens_at_Substitutions : (mark : Marking) (y : Substitutions) → tokens_of_substitutions mark y ≡ (out-Substitutions y).head ∷ (tokens_of_expression mark (out-Substitutions y).first ++ (flat_map (tokens_of_substitution mark) (out-Substitutions y).rest ++ ((out-Substitutions y).tail ∷ [])))
tokens_at_Substitutions mark y = ap (tokens_of_substitutions mark) (sym (roll-out-Substitutions y)) ∙ tokens_Substitutions mark (out-Substitutions y).head (out-Substitutions y).first (out-Substitutions y).rest (out-Substitutions y).tail

pub tokens_Function : (mark : Marking) (async_word : Option Token) (word : Token) (star : Option Token) (name : Option Token) (parameters : Bracketed) (body : Block) → tokens_of_function mark (roll-Function (record { async_word = async_word; word = word; star = star; name = name; parameters = parameters; body = body })) ≡ maybe_token async_word ++ (word ∷ (maybe_token star ++ (maybe_token name ++ (tokens_of_bracketed mark parameters ++ (tokens_of_block mark body)))))
unfolding tokens_of_function tokens_of_bracketed tokens_of_block
tokens_Function mark async_word word star name parameters body = fold-roll-Function Tokens Tokens Tokens Tokens Tokens Tokens Tokens Tokens Tokens Tokens Tokens Tokens Tokens Tokens Tokens Tokens Tokens Tokens Tokens Tokens Tokens Tokens Tokens Tokens Tokens Tokens Tokens class_element_tokens heritage_tokens expression_tokens link_tokens concise_body_tokens element_tokens property_name_tokens case_clause_tokens else_tokens finalizer_tokens for_start_tokens handler_tokens maybe_expression_tokens (statement_tokens mark) class_tokens operand_tokens substitution_tokens substitutions_tokens function_tokens method_tokens bracketed_tokens elements_tokens next_element_tokens block_tokens declaration_tokens else_if_tokens if_clause_tokens (record { async_word = async_word; word = word; star = star; name = name; parameters = parameters; body = body })

pub tokens_at_Function : (mark : Marking) (y : Function) → tokens_of_function mark y ≡ maybe_token (out-Function y).async_word ++ ((out-Function y).word ∷ (maybe_token (out-Function y).star ++ (maybe_token (out-Function y).name ++ (tokens_of_bracketed mark (out-Function y).parameters ++ (tokens_of_block mark (out-Function y).body)))))
tokens_at_Function mark y = ap (tokens_of_function mark) (sym (roll-out-Function y)) ∙ tokens_Function mark (out-Function y).async_word (out-Function y).word (out-Function y).star (out-Function y).name (out-Function y).parameters (out-Function y).body

pub tokens_Method : (mark : Marking) (word : Option Token) (star : Option Token) (name : PropertyName) (parameters : Bracketed) (body : Block) → tokens_of_method mark (roll-Method (record { word = word; star = star; name = name; parameters = parameters; body = body })) ≡ maybe_token word ++ (maybe_token star ++ (tokens_of_property_name mark name ++ (tokens_of_bracketed mark parameters ++ (tokens_of_block mark body))))
unfolding tokens_of_property_name tokens_of_method tokens_of_bracketed tokens_of_block
tokens_Method mark word star name parameters body = fold-roll-Method Tokens Tokens Tokens Tokens Tokens Tokens Tokens Tokens Tokens Tokens Tokens Tokens Tokens Tokens Tokens Tokens Tokens Tokens Tokens Tokens Tokens Tokens Tokens Tokens Tokens Tokens Tokens class_element_tokens heritage_tokens expression_tokens link_tokens concise_body_tokens element_tokens property_name_tokens case_clause_tokens else_tokens finalizer_tokens for_start_tokens handler_tokens maybe_expression_tokens (statement_tokens mark) class_tokens operand_tokens substitution_tokens substitutions_tokens function_tokens method_tokens bracketed_tokens elements_tokens next_element_tokens block_tokens declaration_tokens else_if_tokens if_clause_tokens (record { word = word; star = star; name = name; parameters = parameters; body = body })

pub tokens_at_Method : (mark : Marking) (y : Method) → tokens_of_method mark y ≡ maybe_token (out-Method y).word ++ (maybe_token (out-Method y).star ++ (tokens_of_property_name mark (out-Method y).name ++ (tokens_of_bracketed mark (out-Method y).parameters ++ (tokens_of_block mark (out-Method y).body))))
tokens_at_Method mark y = ap (tokens_of_method mark) (sym (roll-out-Method y)) ∙ tokens_Method mark (out-Method y).word (out-Method y).star (out-Method y).name (out-Method y).parameters (out-Method y).body

pub tokens_Bracketed : (mark : Marking) (begin : Token) (list : Elements) (ending : Token) → tokens_of_bracketed mark (roll-Bracketed (record { begin = begin; list = list; ending = ending })) ≡ begin ∷ (tokens_of_elements mark list ++ (ending ∷ []))
unfolding tokens_of_bracketed tokens_of_elements
tokens_Bracketed mark begin list ending = fold-roll-Bracketed Tokens Tokens Tokens Tokens Tokens Tokens Tokens Tokens Tokens Tokens Tokens Tokens Tokens Tokens Tokens Tokens Tokens Tokens Tokens Tokens Tokens Tokens Tokens Tokens Tokens Tokens Tokens class_element_tokens heritage_tokens expression_tokens link_tokens concise_body_tokens element_tokens property_name_tokens case_clause_tokens else_tokens finalizer_tokens for_start_tokens handler_tokens maybe_expression_tokens (statement_tokens mark) class_tokens operand_tokens substitution_tokens substitutions_tokens function_tokens method_tokens bracketed_tokens elements_tokens next_element_tokens block_tokens declaration_tokens else_if_tokens if_clause_tokens (record { begin = begin; list = list; ending = ending })

pub tokens_at_Bracketed : (mark : Marking) (y : Bracketed) → tokens_of_bracketed mark y ≡ (out-Bracketed y).begin ∷ (tokens_of_elements mark (out-Bracketed y).list ++ ((out-Bracketed y).ending ∷ []))
tokens_at_Bracketed mark y = ap (tokens_of_bracketed mark) (sym (roll-out-Bracketed y)) ∙ tokens_Bracketed mark (out-Bracketed y).begin (out-Bracketed y).list (out-Bracketed y).ending

pub tokens_Elements : (mark : Marking) (first : Element) (rest : List NextElement) → tokens_of_elements mark (roll-Elements (record { first = first; rest = rest })) ≡ tokens_of_element mark first ++ (flat_map (tokens_of_next_element mark) rest)
unfolding tokens_of_element tokens_of_elements tokens_of_next_element
tokens_Elements mark first rest = fold-roll-Elements Tokens Tokens Tokens Tokens Tokens Tokens Tokens Tokens Tokens Tokens Tokens Tokens Tokens Tokens Tokens Tokens Tokens Tokens Tokens Tokens Tokens Tokens Tokens Tokens Tokens Tokens Tokens class_element_tokens heritage_tokens expression_tokens link_tokens concise_body_tokens element_tokens property_name_tokens case_clause_tokens else_tokens finalizer_tokens for_start_tokens handler_tokens maybe_expression_tokens (statement_tokens mark) class_tokens operand_tokens substitution_tokens substitutions_tokens function_tokens method_tokens bracketed_tokens elements_tokens next_element_tokens block_tokens declaration_tokens else_if_tokens if_clause_tokens (record { first = first; rest = rest }) ∙ ap (λ ts. tokens_of_element mark first ++ (ts)) (flat_map_id (tokens_of_next_element mark) rest)

pub tokens_at_Elements : (mark : Marking) (y : Elements) → tokens_of_elements mark y ≡ tokens_of_element mark (out-Elements y).first ++ (flat_map (tokens_of_next_element mark) (out-Elements y).rest)
tokens_at_Elements mark y = ap (tokens_of_elements mark) (sym (roll-out-Elements y)) ∙ tokens_Elements mark (out-Elements y).first (out-Elements y).rest

pub tokens_NextElement : (mark : Marking) (comma : Token) (element : Element) → tokens_of_next_element mark (roll-NextElement (record { comma = comma; element = element })) ≡ comma ∷ tokens_of_element mark element
unfolding tokens_of_element tokens_of_next_element
tokens_NextElement mark comma element = fold-roll-NextElement Tokens Tokens Tokens Tokens Tokens Tokens Tokens Tokens Tokens Tokens Tokens Tokens Tokens Tokens Tokens Tokens Tokens Tokens Tokens Tokens Tokens Tokens Tokens Tokens Tokens Tokens Tokens class_element_tokens heritage_tokens expression_tokens link_tokens concise_body_tokens element_tokens property_name_tokens case_clause_tokens else_tokens finalizer_tokens for_start_tokens handler_tokens maybe_expression_tokens (statement_tokens mark) class_tokens operand_tokens substitution_tokens substitutions_tokens function_tokens method_tokens bracketed_tokens elements_tokens next_element_tokens block_tokens declaration_tokens else_if_tokens if_clause_tokens (record { comma = comma; element = element })

pub tokens_at_NextElement : (mark : Marking) (y : NextElement) → tokens_of_next_element mark y ≡ (out-NextElement y).comma ∷ tokens_of_element mark (out-NextElement y).element
tokens_at_NextElement mark y = ap (tokens_of_next_element mark) (sym (roll-out-NextElement y)) ∙ tokens_NextElement mark (out-NextElement y).comma (out-NextElement y).element

pub tokens_Block : (mark : Marking) (begin : Token) (body : List Statement) (ending : Token) → tokens_of_block mark (roll-Block (record { begin = begin; body = body; ending = ending })) ≡ begin ∷ (flat_map (tokens_of_statement mark) body ++ (ending ∷ []))
unfolding tokens_of_statement tokens_of_block
tokens_Block mark begin body ending = fold-roll-Block Tokens Tokens Tokens Tokens Tokens Tokens Tokens Tokens Tokens Tokens Tokens Tokens Tokens Tokens Tokens Tokens Tokens Tokens Tokens Tokens Tokens Tokens Tokens Tokens Tokens Tokens Tokens class_element_tokens heritage_tokens expression_tokens link_tokens concise_body_tokens element_tokens property_name_tokens case_clause_tokens else_tokens finalizer_tokens for_start_tokens handler_tokens maybe_expression_tokens (statement_tokens mark) class_tokens operand_tokens substitution_tokens substitutions_tokens function_tokens method_tokens bracketed_tokens elements_tokens next_element_tokens block_tokens declaration_tokens else_if_tokens if_clause_tokens (record { begin = begin; body = body; ending = ending }) ∙ ap (λ ts. begin ∷ (ts ++ (ending ∷ []))) (flat_map_id (tokens_of_statement mark) body)

pub tokens_at_Block : (mark : Marking) (y : Block) → tokens_of_block mark y ≡ (out-Block y).begin ∷ (flat_map (tokens_of_statement mark) (out-Block y).body ++ ((out-Block y).ending ∷ []))
tokens_at_Block mark y = ap (tokens_of_block mark) (sym (roll-out-Block y)) ∙ tokens_Block mark (out-Block y).begin (out-Block y).body (out-Block y).ending

pub tokens_Declaration : (mark : Marking) (word : Token) (bindings : Elements) → tokens_of_declaration mark (roll-Declaration (record { word = word; bindings = bindings })) ≡ word ∷ tokens_of_elements mark bindings
unfolding tokens_of_elements tokens_of_declaration
tokens_Declaration mark word bindings = fold-roll-Declaration Tokens Tokens Tokens Tokens Tokens Tokens Tokens Tokens Tokens Tokens Tokens Tokens Tokens Tokens Tokens Tokens Tokens Tokens Tokens Tokens Tokens Tokens Tokens Tokens Tokens Tokens Tokens class_element_tokens heritage_tokens expression_tokens link_tokens concise_body_tokens element_tokens property_name_tokens case_clause_tokens else_tokens finalizer_tokens for_start_tokens handler_tokens maybe_expression_tokens (statement_tokens mark) class_tokens operand_tokens substitution_tokens substitutions_tokens function_tokens method_tokens bracketed_tokens elements_tokens next_element_tokens block_tokens declaration_tokens else_if_tokens if_clause_tokens (record { word = word; bindings = bindings })

pub tokens_at_Declaration : (mark : Marking) (y : Declaration) → tokens_of_declaration mark y ≡ (out-Declaration y).word ∷ tokens_of_elements mark (out-Declaration y).bindings
tokens_at_Declaration mark y = ap (tokens_of_declaration mark) (sym (roll-out-Declaration y)) ∙ tokens_Declaration mark (out-Declaration y).word (out-Declaration y).bindings

pub tokens_ElseIf : (mark : Marking) (else_word : Token) (clause : IfClause) → tokens_of_else_if mark (roll-ElseIf (record { else_word = else_word; clause = clause })) ≡ else_word ∷ tokens_of_if_clause mark clause
unfolding tokens_of_else_if tokens_of_if_clause
tokens_ElseIf mark else_word clause = fold-roll-ElseIf Tokens Tokens Tokens Tokens Tokens Tokens Tokens Tokens Tokens Tokens Tokens Tokens Tokens Tokens Tokens Tokens Tokens Tokens Tokens Tokens Tokens Tokens Tokens Tokens Tokens Tokens Tokens class_element_tokens heritage_tokens expression_tokens link_tokens concise_body_tokens element_tokens property_name_tokens case_clause_tokens else_tokens finalizer_tokens for_start_tokens handler_tokens maybe_expression_tokens (statement_tokens mark) class_tokens operand_tokens substitution_tokens substitutions_tokens function_tokens method_tokens bracketed_tokens elements_tokens next_element_tokens block_tokens declaration_tokens else_if_tokens if_clause_tokens (record { else_word = else_word; clause = clause })

pub tokens_at_ElseIf : (mark : Marking) (y : ElseIf) → tokens_of_else_if mark y ≡ (out-ElseIf y).else_word ∷ tokens_of_if_clause mark (out-ElseIf y).clause
tokens_at_ElseIf mark y = ap (tokens_of_else_if mark) (sym (roll-out-ElseIf y)) ∙ tokens_ElseIf mark (out-ElseIf y).else_word (out-ElseIf y).clause

pub tokens_IfClause : (mark : Marking) (word : Token) (begin : Token) (condition : Expression) (ending : Token) (body : Statement) → tokens_of_if_clause mark (roll-IfClause (record { word = word; begin = begin; condition = condition; ending = ending; body = body })) ≡ word ∷ (begin ∷ (tokens_of_expression mark condition ++ (ending ∷ tokens_of_statement mark body)))
unfolding tokens_of_expression tokens_of_statement tokens_of_if_clause
tokens_IfClause mark word begin condition ending body = fold-roll-IfClause Tokens Tokens Tokens Tokens Tokens Tokens Tokens Tokens Tokens Tokens Tokens Tokens Tokens Tokens Tokens Tokens Tokens Tokens Tokens Tokens Tokens Tokens Tokens Tokens Tokens Tokens Tokens class_element_tokens heritage_tokens expression_tokens link_tokens concise_body_tokens element_tokens property_name_tokens case_clause_tokens else_tokens finalizer_tokens for_start_tokens handler_tokens maybe_expression_tokens (statement_tokens mark) class_tokens operand_tokens substitution_tokens substitutions_tokens function_tokens method_tokens bracketed_tokens elements_tokens next_element_tokens block_tokens declaration_tokens else_if_tokens if_clause_tokens (record { word = word; begin = begin; condition = condition; ending = ending; body = body })

pub tokens_at_IfClause : (mark : Marking) (y : IfClause) → tokens_of_if_clause mark y ≡ (out-IfClause y).word ∷ ((out-IfClause y).begin ∷ (tokens_of_expression mark (out-IfClause y).condition ++ ((out-IfClause y).ending ∷ tokens_of_statement mark (out-IfClause y).body)))
tokens_at_IfClause mark y = ap (tokens_of_if_clause mark) (sym (roll-out-IfClause y)) ∙ tokens_IfClause mark (out-IfClause y).word (out-IfClause y).begin (out-IfClause y).condition (out-IfClause y).ending (out-IfClause y).body
