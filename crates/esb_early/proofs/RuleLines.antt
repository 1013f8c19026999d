-- The breaches of each kind of node.
use Rattle.std.proofs.Common.{◌≡◌, ℕ, Bool, true, false, ◌||◌, List, [], ◌∷◌, ◌++◌, map, if◌then◌else◌, Option, None, refl, ap, sym, ◌∙◌}
use Rattle.esb_token.specs.declared.token.Token.{Token}
use Rattle.esb_tree.specs.declared.classes.ClassElement.TheOpen.{ClassElement-F, Heritage-F, Expression-F, Link-F, ConciseBody-F, Element-F, PropertyName-F, CaseClause-F, Else-F, Finalizer-F, ForStart-F, Handler-F, MaybeExpression-F, Statement-F}
use Rattle.esb_tree.specs.declared.classes.ClassElement.TheFolds.{fold-roll-ClassElement, fold-roll-Heritage, fold-roll-Expression, fold-roll-Link, fold-roll-ConciseBody, fold-roll-Element, fold-roll-PropertyName, fold-roll-CaseClause, fold-roll-Else, fold-roll-Finalizer, fold-roll-ForStart, fold-roll-Handler, fold-roll-MaybeExpression, fold-roll-Statement, fold-roll-Class, fold-roll-Operand, fold-roll-Substitution, fold-roll-Substitutions, fold-roll-Function, fold-roll-Method, fold-roll-Bracketed, fold-roll-Elements, fold-roll-NextElement, fold-roll-Block, fold-roll-Declaration, fold-roll-ElseIf, fold-roll-IfClause}
use Rattle.esb_tree.specs.declared.classes.ClassElement.{ClassElement}
use Rattle.esb_tree.specs.declared.classes.ClassElement.TheVariants as ce
use Rattle.esb_tree.specs.declared.classes.Heritage.{Heritage}
use Rattle.esb_tree.specs.declared.classes.Heritage.TheVariants as he
use Rattle.esb_tree.specs.declared.expressions.Expression.{Expression}
use Rattle.esb_tree.specs.declared.expressions.Expression.TheVariants as e
use Rattle.esb_tree.specs.declared.expressions.Link.{Link}
use Rattle.esb_tree.specs.declared.expressions.Link.TheVariants as l
use Rattle.esb_tree.specs.declared.functions.ConciseBody.{ConciseBody}
use Rattle.esb_tree.specs.declared.functions.ConciseBody.TheVariants as cb
use Rattle.esb_tree.specs.declared.patterns.Element.{Element}
use Rattle.esb_tree.specs.declared.patterns.Element.TheVariants as el
use Rattle.esb_tree.specs.declared.patterns.PropertyName.{PropertyName}
use Rattle.esb_tree.specs.declared.patterns.PropertyName.TheVariants as pn
use Rattle.esb_tree.specs.declared.statements.CaseClause.{CaseClause}
use Rattle.esb_tree.specs.declared.statements.CaseClause.TheVariants as cc
use Rattle.esb_tree.specs.declared.statements.Else.{Else}
use Rattle.esb_tree.specs.declared.statements.Else.TheVariants as ot
use Rattle.esb_tree.specs.declared.statements.Finalizer.{Finalizer}
use Rattle.esb_tree.specs.declared.statements.Finalizer.TheVariants as fi
use Rattle.esb_tree.specs.declared.statements.ForStart.{ForStart}
use Rattle.esb_tree.specs.declared.statements.ForStart.TheVariants as fs
use Rattle.esb_tree.specs.declared.statements.Handler.{Handler}
use Rattle.esb_tree.specs.declared.statements.Handler.TheVariants as ha
use Rattle.esb_tree.specs.declared.statements.MaybeExpression.{MaybeExpression}
use Rattle.esb_tree.specs.declared.statements.MaybeExpression.TheVariants as me
use Rattle.esb_tree.specs.declared.statements.Statement.{Statement}
use Rattle.esb_tree.specs.declared.statements.Statement.TheVariants as s
use Rattle.esb_tree.specs.declared.classes.Class.{Class, roll-Class, out-Class, roll-out-Class}
use Rattle.esb_tree.specs.declared.expressions.Operand.{Operand, roll-Operand, out-Operand, roll-out-Operand}
use Rattle.esb_tree.specs.declared.expressions.Substitution.{Substitution, roll-Substitution, out-Substitution, roll-out-Substitution}
use Rattle.esb_tree.specs.declared.expressions.Substitutions.{Substitutions, roll-Substitutions, out-Substitutions, roll-out-Substitutions}
use Rattle.esb_tree.specs.declared.functions.Function.{Function, roll-Function, out-Function, roll-out-Function}
use Rattle.esb_tree.specs.declared.functions.Method.{Method, roll-Method, out-Method, roll-out-Method}
use Rattle.esb_tree.specs.declared.patterns.Bracketed.{Bracketed, roll-Bracketed, out-Bracketed, roll-out-Bracketed}
use Rattle.esb_tree.specs.declared.patterns.Elements.{Elements, roll-Elements, out-Elements, roll-out-Elements}
use Rattle.esb_tree.specs.declared.patterns.NextElement.{NextElement, roll-NextElement, out-NextElement, roll-out-NextElement}
use Rattle.esb_tree.specs.declared.statements.Block.{Block, roll-Block, out-Block, roll-out-Block}
use Rattle.esb_tree.specs.declared.statements.Declaration.{Declaration, roll-Declaration, out-Declaration, roll-out-Declaration}
use Rattle.esb_tree.specs.declared.statements.ElseIf.{ElseIf, roll-ElseIf, out-ElseIf, roll-out-ElseIf}
use Rattle.esb_tree.specs.declared.statements.IfClause.{IfClause, roll-IfClause, out-IfClause, roll-out-IfClause}
use Rattle.esb_grammar.specs.Forms.{is_empty}
use Rattle.esb_grammar.specs.Kinds.{is_binding}
use Rattle.esb_early_checks.specs.declared.roles.ListRole.{ListRole}
use Rattle.esb_early_checks.specs.declared.roles.ListRole.TheVariants as lr
use Rattle.esb_early_checks.specs.declared.roles.Place.{Place}
use Rattle.esb_early_checks.specs.declared.roles.Role.{Role}
use Rattle.esb_early_checks.specs.declared.roles.Role.TheVariants as r
use Rattle.esb_early_checks.specs.declared.setting.Setting.{Setting}
use Rattle.esb_early_checks.specs.declared.shapes.BracketedShape.{BracketedShape}
use Rattle.esb_early_checks.specs.declared.shapes.ElementShape.{ElementShape}
use Rattle.esb_early_checks.specs.declared.shapes.ElementsShape.{ElementsShape}
use Rattle.esb_early_checks.specs.declared.shapes.ExpressionShape.{ExpressionShape}
use Rattle.esb_early_checks.specs.declared.shapes.LinkShape.{LinkShape}
use Rattle.esb_early_checks.specs.declared.shapes.LinksShape.{LinksShape}
use Rattle.esb_early_checks.specs.declared.shapes.PropertyNameShape.{PropertyNameShape}
use Rattle.esb_early.specs.Directives.{directive_of, use_strict}
use Rattle.esb_early_checks.specs.Findings.{Finding, together, each, behind, unlabelled}
use Rattle.esb_names.specs.Keys.{is_constructor, is_proto_in}
use Rattle.esb_early_checks.specs.Labels.{break_breaches, continue_breaches, label_breaches}
use Rattle.esb_early.specs.Parameters.{joined, repeated_breaches}
use Rattle.esb_early_checks.specs.Roles.{array_role, object_role, parenthesized_role, assigned_role, element_role, spread_role, placed, is_prototype_method}
use Rattle.esb_early_checks.specs.Settings.{of_loop, of_switch, of_body, of_parameters, of_function, of_function_parameters, of_method_parameters, of_named_method}
use Rattle.esb_early_checks.specs.Shapes.{other_shape, primary_shape, parenthesized_shape, member_shape, access_link, call_link, template_link, optional_link, links_shape, hole_shape, value_shape, other_element, named_shape, computed_shape, start_of_function, bracketed_shape, elements_shape, property_element, key_of_prototype}
use Rattle.esb_early_checks.specs.Tests.{second_constructor, second_proto, strict_breaches, accessor_breaches, assignment_breaches, bound_breaches, constructor_breaches, declared_breaches, delete_breaches, initialized_breaches, literal_breaches, member_breaches, meta_breaches, method_property_breaches, operator_breaches, parenthesized_breaches, primary_breaches, reference_breaches, return_breaches, shorthand_breaches, spread_breaches, super_breaches, value_breaches}
use Rattle.esb_early.specs.Rules.{Telling, TellingBy, TellingAs, links_breaches, class_elements_breaches, nexts_breaches, are_plain, directive_of_statement, use_strict_of_block, names_of_expression, names_of_link, names_of_element, names_of_bracketed, names_of_elements, names_of_next_element, class_element_step, heritage_step, expression_step, link_step, concise_body_step, element_step, property_name_step, case_clause_step, else_step, finalizer_step, for_start_step, handler_step, maybe_expression_step, statement_step, class_step, operand_step, substitution_step, substitutions_step, function_step, method_step, bracketed_step, elements_step, next_element_step, block_step, declaration_step, else_if_step, if_clause_step, breaches_of_class_element, breaches_of_heritage, breaches_of_expression, breaches_of_link, breaches_of_concise_body, breaches_of_element, breaches_of_property_name, breaches_of_case_clause, breaches_of_else, breaches_of_finalizer, breaches_of_for_start, breaches_of_handler, breaches_of_maybe_expression, breaches_of_statement, breaches_of_class, breaches_of_operand, breaches_of_substitution, breaches_of_substitutions, breaches_of_function, breaches_of_method, breaches_of_bracketed, breaches_of_elements, breaches_of_next_element, breaches_of_block, breaches_of_declaration, breaches_of_else_if, breaches_of_if_clause, facts_of_class_element, facts_of_heritage, facts_of_expression, facts_of_link, facts_of_element, facts_of_property_name, facts_of_statement, facts_of_class, facts_of_substitutions, facts_of_function, facts_of_method, facts_of_bracketed, facts_of_elements, facts_of_next_element, facts_of_block, shape_of_class_element, shape_of_heritage, shape_of_expression, shape_of_link, shape_of_element, shape_of_property_name, shape_of_class, shape_of_substitutions, shape_of_function, shape_of_method, shape_of_bracketed, shape_of_elements, shape_of_next_element, is_loop_of_statement, ClassElementFacts, HeritageFacts, ExpressionFacts, LinkFacts, ElementFacts, PropertyNameFacts, StatementFacts, ClassFacts, SubstitutionsFacts, FunctionFacts, MethodFacts, BracketedFacts, ElementsFacts, NextElementFacts, BlockFacts}

pub is_ClassMethod : (y : ClassElement) (word : Option Token) (method : Method) (text : List ℕ) (setting : Setting) (is_derived : Bool) → y ≡ ce.ClassMethod word method → breaches_of_class_element y text setting is_derived ≡ breaches_of_method method text setting (is_prototype_method word) is_derived
unfolding facts_of_class_element breaches_of_class_element shape_of_class_element facts_of_method breaches_of_method shape_of_method
is_ClassMethod y word method text setting is_derived h = ap (λ z. breaches_of_class_element z text setting is_derived) h ∙ ap (λ f. f.breaches text setting is_derived) (ap facts_of_class_element (sym (ce.rolls-ClassMethod word method)) ∙ fold-roll-ClassElement ClassElementFacts HeritageFacts ExpressionFacts LinkFacts TellingBy ElementFacts PropertyNameFacts Telling Telling Telling TellingAs Telling Telling StatementFacts ClassFacts Telling Telling SubstitutionsFacts FunctionFacts MethodFacts BracketedFacts ElementsFacts NextElementFacts BlockFacts Telling Telling Telling class_element_step heritage_step expression_step link_step concise_body_step element_step property_name_step case_clause_step else_step finalizer_step for_start_step handler_step maybe_expression_step statement_step class_step operand_step substitution_step substitutions_step function_step method_step bracketed_step elements_step next_element_step block_step declaration_step else_if_step if_clause_step (ClassElement-F.ClassMethod word method))

pub shape_ClassMethod : (y : ClassElement) (word : Option Token) (method : Method) → y ≡ ce.ClassMethod word method → shape_of_class_element y ≡ key_of_prototype word (shape_of_method method)
unfolding facts_of_class_element breaches_of_class_element shape_of_class_element facts_of_method breaches_of_method shape_of_method
shape_ClassMethod y word method h = ap shape_of_class_element h ∙ ap (λ f. f.shape) (ap facts_of_class_element (sym (ce.rolls-ClassMethod word method)) ∙ fold-roll-ClassElement ClassElementFacts HeritageFacts ExpressionFacts LinkFacts TellingBy ElementFacts PropertyNameFacts Telling Telling Telling TellingAs Telling Telling StatementFacts ClassFacts Telling Telling SubstitutionsFacts FunctionFacts MethodFacts BracketedFacts ElementsFacts NextElementFacts BlockFacts Telling Telling Telling class_element_step heritage_step expression_step link_step concise_body_step element_step property_name_step case_clause_step else_step finalizer_step for_start_step handler_step maybe_expression_step statement_step class_step operand_step substitution_step substitutions_step function_step method_step bracketed_step elements_step next_element_step block_step declaration_step else_if_step if_clause_step (ClassElement-F.ClassMethod word method))

pub is_EmptyElement : (y : ClassElement) (semicolon : Token) (text : List ℕ) (setting : Setting) (is_derived : Bool) → y ≡ ce.EmptyElement semicolon → breaches_of_class_element y text setting is_derived ≡ together ([])
unfolding facts_of_class_element breaches_of_class_element shape_of_class_element
is_EmptyElement y semicolon text setting is_derived h = ap (λ z. breaches_of_class_element z text setting is_derived) h ∙ ap (λ f. f.breaches text setting is_derived) (ap facts_of_class_element (sym (ce.rolls-EmptyElement semicolon)) ∙ fold-roll-ClassElement ClassElementFacts HeritageFacts ExpressionFacts LinkFacts TellingBy ElementFacts PropertyNameFacts Telling Telling Telling TellingAs Telling Telling StatementFacts ClassFacts Telling Telling SubstitutionsFacts FunctionFacts MethodFacts BracketedFacts ElementsFacts NextElementFacts BlockFacts Telling Telling Telling class_element_step heritage_step expression_step link_step concise_body_step element_step property_name_step case_clause_step else_step finalizer_step for_start_step handler_step maybe_expression_step statement_step class_step operand_step substitution_step substitutions_step function_step method_step bracketed_step elements_step next_element_step block_step declaration_step else_if_step if_clause_step (ClassElement-F.EmptyElement semicolon))

pub shape_EmptyElement : (y : ClassElement) (semicolon : Token) → y ≡ ce.EmptyElement semicolon → shape_of_class_element y ≡ None
unfolding facts_of_class_element breaches_of_class_element shape_of_class_element
shape_EmptyElement y semicolon h = ap shape_of_class_element h ∙ ap (λ f. f.shape) (ap facts_of_class_element (sym (ce.rolls-EmptyElement semicolon)) ∙ fold-roll-ClassElement ClassElementFacts HeritageFacts ExpressionFacts LinkFacts TellingBy ElementFacts PropertyNameFacts Telling Telling Telling TellingAs Telling Telling StatementFacts ClassFacts Telling Telling SubstitutionsFacts FunctionFacts MethodFacts BracketedFacts ElementsFacts NextElementFacts BlockFacts Telling Telling Telling class_element_step heritage_step expression_step link_step concise_body_step element_step property_name_step case_clause_step else_step finalizer_step for_start_step handler_step maybe_expression_step statement_step class_step operand_step substitution_step substitutions_step function_step method_step bracketed_step elements_step next_element_step block_step declaration_step else_if_step if_clause_step (ClassElement-F.EmptyElement semicolon))

pub is_NoHeritage : (y : Heritage) (text : List ℕ) (setting : Setting) → y ≡ he.NoHeritage → breaches_of_heritage y text setting ≡ together ([])
unfolding facts_of_heritage breaches_of_heritage shape_of_heritage
is_NoHeritage y text setting h = ap (λ z. breaches_of_heritage z text setting) h ∙ ap (λ f. f.breaches text setting) (ap facts_of_heritage (sym (he.rolls-NoHeritage)) ∙ fold-roll-Heritage ClassElementFacts HeritageFacts ExpressionFacts LinkFacts TellingBy ElementFacts PropertyNameFacts Telling Telling Telling TellingAs Telling Telling StatementFacts ClassFacts Telling Telling SubstitutionsFacts FunctionFacts MethodFacts BracketedFacts ElementsFacts NextElementFacts BlockFacts Telling Telling Telling class_element_step heritage_step expression_step link_step concise_body_step element_step property_name_step case_clause_step else_step finalizer_step for_start_step handler_step maybe_expression_step statement_step class_step operand_step substitution_step substitutions_step function_step method_step bracketed_step elements_step next_element_step block_step declaration_step else_if_step if_clause_step (Heritage-F.NoHeritage))

pub shape_NoHeritage : (y : Heritage) → y ≡ he.NoHeritage → shape_of_heritage y ≡ false
unfolding facts_of_heritage breaches_of_heritage shape_of_heritage
shape_NoHeritage y h = ap shape_of_heritage h ∙ ap (λ f. f.shape) (ap facts_of_heritage (sym (he.rolls-NoHeritage)) ∙ fold-roll-Heritage ClassElementFacts HeritageFacts ExpressionFacts LinkFacts TellingBy ElementFacts PropertyNameFacts Telling Telling Telling TellingAs Telling Telling StatementFacts ClassFacts Telling Telling SubstitutionsFacts FunctionFacts MethodFacts BracketedFacts ElementsFacts NextElementFacts BlockFacts Telling Telling Telling class_element_step heritage_step expression_step link_step concise_body_step element_step property_name_step case_clause_step else_step finalizer_step for_start_step handler_step maybe_expression_step statement_step class_step operand_step substitution_step substitutions_step function_step method_step bracketed_step elements_step next_element_step block_step declaration_step else_if_step if_clause_step (Heritage-F.NoHeritage))

pub is_Extends : (y : Heritage) (word : Token) (x : Expression) (text : List ℕ) (setting : Setting) → y ≡ he.Extends word x → breaches_of_heritage y text setting ≡ breaches_of_expression x text setting r.Value
unfolding facts_of_heritage breaches_of_heritage shape_of_heritage facts_of_expression breaches_of_expression shape_of_expression
is_Extends y word x text setting h = ap (λ z. breaches_of_heritage z text setting) h ∙ ap (λ f. f.breaches text setting) (ap facts_of_heritage (sym (he.rolls-Extends word x)) ∙ fold-roll-Heritage ClassElementFacts HeritageFacts ExpressionFacts LinkFacts TellingBy ElementFacts PropertyNameFacts Telling Telling Telling TellingAs Telling Telling StatementFacts ClassFacts Telling Telling SubstitutionsFacts FunctionFacts MethodFacts BracketedFacts ElementsFacts NextElementFacts BlockFacts Telling Telling Telling class_element_step heritage_step expression_step link_step concise_body_step element_step property_name_step case_clause_step else_step finalizer_step for_start_step handler_step maybe_expression_step statement_step class_step operand_step substitution_step substitutions_step function_step method_step bracketed_step elements_step next_element_step block_step declaration_step else_if_step if_clause_step (Heritage-F.Extends word x))

pub shape_Extends : (y : Heritage) (word : Token) (x : Expression) → y ≡ he.Extends word x → shape_of_heritage y ≡ true
unfolding facts_of_heritage breaches_of_heritage shape_of_heritage facts_of_expression breaches_of_expression shape_of_expression
shape_Extends y word x h = ap shape_of_heritage h ∙ ap (λ f. f.shape) (ap facts_of_heritage (sym (he.rolls-Extends word x)) ∙ fold-roll-Heritage ClassElementFacts HeritageFacts ExpressionFacts LinkFacts TellingBy ElementFacts PropertyNameFacts Telling Telling Telling TellingAs Telling Telling StatementFacts ClassFacts Telling Telling SubstitutionsFacts FunctionFacts MethodFacts BracketedFacts ElementsFacts NextElementFacts BlockFacts Telling Telling Telling class_element_step heritage_step expression_step link_step concise_body_step element_step property_name_step case_clause_step else_step finalizer_step for_start_step handler_step maybe_expression_step statement_step class_step operand_step substitution_step substitutions_step function_step method_step bracketed_step elements_step next_element_step block_step declaration_step else_if_step if_clause_step (Heritage-F.Extends word x))

pub is_Primary : (y : Expression) (t : Token) (text : List ℕ) (setting : Setting) (role : Role) → y ≡ e.Primary t → breaches_of_expression y text setting role ≡ primary_breaches text t role
unfolding facts_of_expression breaches_of_expression shape_of_expression
is_Primary y t text setting role h = ap (λ z. breaches_of_expression z text setting role) h ∙ ap (λ f. f.breaches text setting role) (ap facts_of_expression (sym (e.rolls-Primary t)) ∙ fold-roll-Expression ClassElementFacts HeritageFacts ExpressionFacts LinkFacts TellingBy ElementFacts PropertyNameFacts Telling Telling Telling TellingAs Telling Telling StatementFacts ClassFacts Telling Telling SubstitutionsFacts FunctionFacts MethodFacts BracketedFacts ElementsFacts NextElementFacts BlockFacts Telling Telling Telling class_element_step heritage_step expression_step link_step concise_body_step element_step property_name_step case_clause_step else_step finalizer_step for_start_step handler_step maybe_expression_step statement_step class_step operand_step substitution_step substitutions_step function_step method_step bracketed_step elements_step next_element_step block_step declaration_step else_if_step if_clause_step (Expression-F.Primary t))

pub shape_Primary : (y : Expression) (t : Token) → y ≡ e.Primary t → shape_of_expression y ≡ primary_shape t
unfolding facts_of_expression breaches_of_expression shape_of_expression
shape_Primary y t h = ap shape_of_expression h ∙ ap (λ f. f.shape) (ap facts_of_expression (sym (e.rolls-Primary t)) ∙ fold-roll-Expression ClassElementFacts HeritageFacts ExpressionFacts LinkFacts TellingBy ElementFacts PropertyNameFacts Telling Telling Telling TellingAs Telling Telling StatementFacts ClassFacts Telling Telling SubstitutionsFacts FunctionFacts MethodFacts BracketedFacts ElementsFacts NextElementFacts BlockFacts Telling Telling Telling class_element_step heritage_step expression_step link_step concise_body_step element_step property_name_step case_clause_step else_step finalizer_step for_start_step handler_step maybe_expression_step statement_step class_step operand_step substitution_step substitutions_step function_step method_step bracketed_step elements_step next_element_step block_step declaration_step else_if_step if_clause_step (Expression-F.Primary t))

pub names_Primary : (y : Expression) (t : Token) → y ≡ e.Primary t → names_of_expression y ≡ (if is_binding t.kind then t ∷ [] else [])
unfolding facts_of_expression breaches_of_expression shape_of_expression names_of_expression
names_Primary y t h = ap names_of_expression h ∙ ap (λ f. f.names) (ap facts_of_expression (sym (e.rolls-Primary t)) ∙ fold-roll-Expression ClassElementFacts HeritageFacts ExpressionFacts LinkFacts TellingBy ElementFacts PropertyNameFacts Telling Telling Telling TellingAs Telling Telling StatementFacts ClassFacts Telling Telling SubstitutionsFacts FunctionFacts MethodFacts BracketedFacts ElementsFacts NextElementFacts BlockFacts Telling Telling Telling class_element_step heritage_step expression_step link_step concise_body_step element_step property_name_step case_clause_step else_step finalizer_step for_start_step handler_step maybe_expression_step statement_step class_step operand_step substitution_step substitutions_step function_step method_step bracketed_step elements_step next_element_step block_step declaration_step else_if_step if_clause_step (Expression-F.Primary t))

pub is_MetaProperty : (y : Expression) (word : Token) (dot : Token) (name : Token) (text : List ℕ) (setting : Setting) (role : Role) → y ≡ e.MetaProperty word dot name → breaches_of_expression y text setting role ≡ together (meta_breaches word setting ∷ value_breaches role word.start ∷ [])
unfolding facts_of_expression breaches_of_expression shape_of_expression
is_MetaProperty y word dot name text setting role h = ap (λ z. breaches_of_expression z text setting role) h ∙ ap (λ f. f.breaches text setting role) (ap facts_of_expression (sym (e.rolls-MetaProperty word dot name)) ∙ fold-roll-Expression ClassElementFacts HeritageFacts ExpressionFacts LinkFacts TellingBy ElementFacts PropertyNameFacts Telling Telling Telling TellingAs Telling Telling StatementFacts ClassFacts Telling Telling SubstitutionsFacts FunctionFacts MethodFacts BracketedFacts ElementsFacts NextElementFacts BlockFacts Telling Telling Telling class_element_step heritage_step expression_step link_step concise_body_step element_step property_name_step case_clause_step else_step finalizer_step for_start_step handler_step maybe_expression_step statement_step class_step operand_step substitution_step substitutions_step function_step method_step bracketed_step elements_step next_element_step block_step declaration_step else_if_step if_clause_step (Expression-F.MetaProperty word dot name))

pub shape_MetaProperty : (y : Expression) (word : Token) (dot : Token) (name : Token) → y ≡ e.MetaProperty word dot name → shape_of_expression y ≡ other_shape word.start
unfolding facts_of_expression breaches_of_expression shape_of_expression
shape_MetaProperty y word dot name h = ap shape_of_expression h ∙ ap (λ f. f.shape) (ap facts_of_expression (sym (e.rolls-MetaProperty word dot name)) ∙ fold-roll-Expression ClassElementFacts HeritageFacts ExpressionFacts LinkFacts TellingBy ElementFacts PropertyNameFacts Telling Telling Telling TellingAs Telling Telling StatementFacts ClassFacts Telling Telling SubstitutionsFacts FunctionFacts MethodFacts BracketedFacts ElementsFacts NextElementFacts BlockFacts Telling Telling Telling class_element_step heritage_step expression_step link_step concise_body_step element_step property_name_step case_clause_step else_step finalizer_step for_start_step handler_step maybe_expression_step statement_step class_step operand_step substitution_step substitutions_step function_step method_step bracketed_step elements_step next_element_step block_step declaration_step else_if_step if_clause_step (Expression-F.MetaProperty word dot name))

pub names_MetaProperty : (y : Expression) (word : Token) (dot : Token) (name : Token) → y ≡ e.MetaProperty word dot name → names_of_expression y ≡ []
unfolding facts_of_expression breaches_of_expression shape_of_expression names_of_expression
names_MetaProperty y word dot name h = ap names_of_expression h ∙ ap (λ f. f.names) (ap facts_of_expression (sym (e.rolls-MetaProperty word dot name)) ∙ fold-roll-Expression ClassElementFacts HeritageFacts ExpressionFacts LinkFacts TellingBy ElementFacts PropertyNameFacts Telling Telling Telling TellingAs Telling Telling StatementFacts ClassFacts Telling Telling SubstitutionsFacts FunctionFacts MethodFacts BracketedFacts ElementsFacts NextElementFacts BlockFacts Telling Telling Telling class_element_step heritage_step expression_step link_step concise_body_step element_step property_name_step case_clause_step else_step finalizer_step for_start_step handler_step maybe_expression_step statement_step class_step operand_step substitution_step substitutions_step function_step method_step bracketed_step elements_step next_element_step block_step declaration_step else_if_step if_clause_step (Expression-F.MetaProperty word dot name))

pub is_ArrayLiteral : (y : Expression) (list : Bracketed) (text : List ℕ) (setting : Setting) (role : Role) → y ≡ e.ArrayLiteral list → breaches_of_expression y text setting role ≡ together (breaches_of_bracketed list text setting (array_role role) ∷ literal_breaches role (shape_of_bracketed list).start ∷ [])
unfolding facts_of_expression breaches_of_expression shape_of_expression facts_of_bracketed breaches_of_bracketed shape_of_bracketed
is_ArrayLiteral y list text setting role h = ap (λ z. breaches_of_expression z text setting role) h ∙ ap (λ f. f.breaches text setting role) (ap facts_of_expression (sym (e.rolls-ArrayLiteral list)) ∙ fold-roll-Expression ClassElementFacts HeritageFacts ExpressionFacts LinkFacts TellingBy ElementFacts PropertyNameFacts Telling Telling Telling TellingAs Telling Telling StatementFacts ClassFacts Telling Telling SubstitutionsFacts FunctionFacts MethodFacts BracketedFacts ElementsFacts NextElementFacts BlockFacts Telling Telling Telling class_element_step heritage_step expression_step link_step concise_body_step element_step property_name_step case_clause_step else_step finalizer_step for_start_step handler_step maybe_expression_step statement_step class_step operand_step substitution_step substitutions_step function_step method_step bracketed_step elements_step next_element_step block_step declaration_step else_if_step if_clause_step (Expression-F.ArrayLiteral list))

pub shape_ArrayLiteral : (y : Expression) (list : Bracketed) → y ≡ e.ArrayLiteral list → shape_of_expression y ≡ other_shape (shape_of_bracketed list).start
unfolding facts_of_expression breaches_of_expression shape_of_expression facts_of_bracketed breaches_of_bracketed shape_of_bracketed
shape_ArrayLiteral y list h = ap shape_of_expression h ∙ ap (λ f. f.shape) (ap facts_of_expression (sym (e.rolls-ArrayLiteral list)) ∙ fold-roll-Expression ClassElementFacts HeritageFacts ExpressionFacts LinkFacts TellingBy ElementFacts PropertyNameFacts Telling Telling Telling TellingAs Telling Telling StatementFacts ClassFacts Telling Telling SubstitutionsFacts FunctionFacts MethodFacts BracketedFacts ElementsFacts NextElementFacts BlockFacts Telling Telling Telling class_element_step heritage_step expression_step link_step concise_body_step element_step property_name_step case_clause_step else_step finalizer_step for_start_step handler_step maybe_expression_step statement_step class_step operand_step substitution_step substitutions_step function_step method_step bracketed_step elements_step next_element_step block_step declaration_step else_if_step if_clause_step (Expression-F.ArrayLiteral list))

pub names_ArrayLiteral : (y : Expression) (list : Bracketed) → y ≡ e.ArrayLiteral list → names_of_expression y ≡ names_of_bracketed list
unfolding facts_of_expression breaches_of_expression shape_of_expression names_of_expression facts_of_bracketed breaches_of_bracketed shape_of_bracketed names_of_bracketed
names_ArrayLiteral y list h = ap names_of_expression h ∙ ap (λ f. f.names) (ap facts_of_expression (sym (e.rolls-ArrayLiteral list)) ∙ fold-roll-Expression ClassElementFacts HeritageFacts ExpressionFacts LinkFacts TellingBy ElementFacts PropertyNameFacts Telling Telling Telling TellingAs Telling Telling StatementFacts ClassFacts Telling Telling SubstitutionsFacts FunctionFacts MethodFacts BracketedFacts ElementsFacts NextElementFacts BlockFacts Telling Telling Telling class_element_step heritage_step expression_step link_step concise_body_step element_step property_name_step case_clause_step else_step finalizer_step for_start_step handler_step maybe_expression_step statement_step class_step operand_step substitution_step substitutions_step function_step method_step bracketed_step elements_step next_element_step block_step declaration_step else_if_step if_clause_step (Expression-F.ArrayLiteral list))

pub is_ObjectLiteral : (y : Expression) (list : Bracketed) (text : List ℕ) (setting : Setting) (role : Role) → y ≡ e.ObjectLiteral list → breaches_of_expression y text setting role ≡ together (breaches_of_bracketed list text setting (object_role role) ∷ literal_breaches role (shape_of_bracketed list).start ∷ [])
unfolding facts_of_expression breaches_of_expression shape_of_expression facts_of_bracketed breaches_of_bracketed shape_of_bracketed
is_ObjectLiteral y list text setting role h = ap (λ z. breaches_of_expression z text setting role) h ∙ ap (λ f. f.breaches text setting role) (ap facts_of_expression (sym (e.rolls-ObjectLiteral list)) ∙ fold-roll-Expression ClassElementFacts HeritageFacts ExpressionFacts LinkFacts TellingBy ElementFacts PropertyNameFacts Telling Telling Telling TellingAs Telling Telling StatementFacts ClassFacts Telling Telling SubstitutionsFacts FunctionFacts MethodFacts BracketedFacts ElementsFacts NextElementFacts BlockFacts Telling Telling Telling class_element_step heritage_step expression_step link_step concise_body_step element_step property_name_step case_clause_step else_step finalizer_step for_start_step handler_step maybe_expression_step statement_step class_step operand_step substitution_step substitutions_step function_step method_step bracketed_step elements_step next_element_step block_step declaration_step else_if_step if_clause_step (Expression-F.ObjectLiteral list))

pub shape_ObjectLiteral : (y : Expression) (list : Bracketed) → y ≡ e.ObjectLiteral list → shape_of_expression y ≡ other_shape (shape_of_bracketed list).start
unfolding facts_of_expression breaches_of_expression shape_of_expression facts_of_bracketed breaches_of_bracketed shape_of_bracketed
shape_ObjectLiteral y list h = ap shape_of_expression h ∙ ap (λ f. f.shape) (ap facts_of_expression (sym (e.rolls-ObjectLiteral list)) ∙ fold-roll-Expression ClassElementFacts HeritageFacts ExpressionFacts LinkFacts TellingBy ElementFacts PropertyNameFacts Telling Telling Telling TellingAs Telling Telling StatementFacts ClassFacts Telling Telling SubstitutionsFacts FunctionFacts MethodFacts BracketedFacts ElementsFacts NextElementFacts BlockFacts Telling Telling Telling class_element_step heritage_step expression_step link_step concise_body_step element_step property_name_step case_clause_step else_step finalizer_step for_start_step handler_step maybe_expression_step statement_step class_step operand_step substitution_step substitutions_step function_step method_step bracketed_step elements_step next_element_step block_step declaration_step else_if_step if_clause_step (Expression-F.ObjectLiteral list))

pub names_ObjectLiteral : (y : Expression) (list : Bracketed) → y ≡ e.ObjectLiteral list → names_of_expression y ≡ names_of_bracketed list
unfolding facts_of_expression breaches_of_expression shape_of_expression names_of_expression facts_of_bracketed breaches_of_bracketed shape_of_bracketed names_of_bracketed
names_ObjectLiteral y list h = ap names_of_expression h ∙ ap (λ f. f.names) (ap facts_of_expression (sym (e.rolls-ObjectLiteral list)) ∙ fold-roll-Expression ClassElementFacts HeritageFacts ExpressionFacts LinkFacts TellingBy ElementFacts PropertyNameFacts Telling Telling Telling TellingAs Telling Telling StatementFacts ClassFacts Telling Telling SubstitutionsFacts FunctionFacts MethodFacts BracketedFacts ElementsFacts NextElementFacts BlockFacts Telling Telling Telling class_element_step heritage_step expression_step link_step concise_body_step element_step property_name_step case_clause_step else_step finalizer_step for_start_step handler_step maybe_expression_step statement_step class_step operand_step substitution_step substitutions_step function_step method_step bracketed_step elements_step next_element_step block_step declaration_step else_if_step if_clause_step (Expression-F.ObjectLiteral list))

pub is_Parenthesized : (y : Expression) (list : Bracketed) (text : List ℕ) (setting : Setting) (role : Role) → y ≡ e.Parenthesized list → breaches_of_expression y text setting role ≡ together (breaches_of_bracketed list text setting (parenthesized_role role) ∷ parenthesized_breaches text role (shape_of_bracketed list) ∷ [])
unfolding facts_of_expression breaches_of_expression shape_of_expression facts_of_bracketed breaches_of_bracketed shape_of_bracketed
is_Parenthesized y list text setting role h = ap (λ z. breaches_of_expression z text setting role) h ∙ ap (λ f. f.breaches text setting role) (ap facts_of_expression (sym (e.rolls-Parenthesized list)) ∙ fold-roll-Expression ClassElementFacts HeritageFacts ExpressionFacts LinkFacts TellingBy ElementFacts PropertyNameFacts Telling Telling Telling TellingAs Telling Telling StatementFacts ClassFacts Telling Telling SubstitutionsFacts FunctionFacts MethodFacts BracketedFacts ElementsFacts NextElementFacts BlockFacts Telling Telling Telling class_element_step heritage_step expression_step link_step concise_body_step element_step property_name_step case_clause_step else_step finalizer_step for_start_step handler_step maybe_expression_step statement_step class_step operand_step substitution_step substitutions_step function_step method_step bracketed_step elements_step next_element_step block_step declaration_step else_if_step if_clause_step (Expression-F.Parenthesized list))

pub shape_Parenthesized : (y : Expression) (list : Bracketed) → y ≡ e.Parenthesized list → shape_of_expression y ≡ parenthesized_shape (shape_of_bracketed list)
unfolding facts_of_expression breaches_of_expression shape_of_expression facts_of_bracketed breaches_of_bracketed shape_of_bracketed
shape_Parenthesized y list h = ap shape_of_expression h ∙ ap (λ f. f.shape) (ap facts_of_expression (sym (e.rolls-Parenthesized list)) ∙ fold-roll-Expression ClassElementFacts HeritageFacts ExpressionFacts LinkFacts TellingBy ElementFacts PropertyNameFacts Telling Telling Telling TellingAs Telling Telling StatementFacts ClassFacts Telling Telling SubstitutionsFacts FunctionFacts MethodFacts BracketedFacts ElementsFacts NextElementFacts BlockFacts Telling Telling Telling class_element_step heritage_step expression_step link_step concise_body_step element_step property_name_step case_clause_step else_step finalizer_step for_start_step handler_step maybe_expression_step statement_step class_step operand_step substitution_step substitutions_step function_step method_step bracketed_step elements_step next_element_step block_step declaration_step else_if_step if_clause_step (Expression-F.Parenthesized list))

pub names_Parenthesized : (y : Expression) (list : Bracketed) → y ≡ e.Parenthesized list → names_of_expression y ≡ names_of_bracketed list
unfolding facts_of_expression breaches_of_expression shape_of_expression names_of_expression facts_of_bracketed breaches_of_bracketed shape_of_bracketed names_of_bracketed
names_Parenthesized y list h = ap names_of_expression h ∙ ap (λ f. f.names) (ap facts_of_expression (sym (e.rolls-Parenthesized list)) ∙ fold-roll-Expression ClassElementFacts HeritageFacts ExpressionFacts LinkFacts TellingBy ElementFacts PropertyNameFacts Telling Telling Telling TellingAs Telling Telling StatementFacts ClassFacts Telling Telling SubstitutionsFacts FunctionFacts MethodFacts BracketedFacts ElementsFacts NextElementFacts BlockFacts Telling Telling Telling class_element_step heritage_step expression_step link_step concise_body_step element_step property_name_step case_clause_step else_step finalizer_step for_start_step handler_step maybe_expression_step statement_step class_step operand_step substitution_step substitutions_step function_step method_step bracketed_step elements_step next_element_step block_step declaration_step else_if_step if_clause_step (Expression-F.Parenthesized list))

pub is_TemplateLiteral : (y : Expression) (template : Substitutions) (text : List ℕ) (setting : Setting) (role : Role) → y ≡ e.TemplateLiteral template → breaches_of_expression y text setting role ≡ together (breaches_of_substitutions template text setting ∷ value_breaches role (shape_of_substitutions template) ∷ [])
unfolding facts_of_expression breaches_of_expression shape_of_expression facts_of_substitutions breaches_of_substitutions shape_of_substitutions
is_TemplateLiteral y template text setting role h = ap (λ z. breaches_of_expression z text setting role) h ∙ ap (λ f. f.breaches text setting role) (ap facts_of_expression (sym (e.rolls-TemplateLiteral template)) ∙ fold-roll-Expression ClassElementFacts HeritageFacts ExpressionFacts LinkFacts TellingBy ElementFacts PropertyNameFacts Telling Telling Telling TellingAs Telling Telling StatementFacts ClassFacts Telling Telling SubstitutionsFacts FunctionFacts MethodFacts BracketedFacts ElementsFacts NextElementFacts BlockFacts Telling Telling Telling class_element_step heritage_step expression_step link_step concise_body_step element_step property_name_step case_clause_step else_step finalizer_step for_start_step handler_step maybe_expression_step statement_step class_step operand_step substitution_step substitutions_step function_step method_step bracketed_step elements_step next_element_step block_step declaration_step else_if_step if_clause_step (Expression-F.TemplateLiteral template))

pub shape_TemplateLiteral : (y : Expression) (template : Substitutions) → y ≡ e.TemplateLiteral template → shape_of_expression y ≡ other_shape (shape_of_substitutions template)
unfolding facts_of_expression breaches_of_expression shape_of_expression facts_of_substitutions breaches_of_substitutions shape_of_substitutions
shape_TemplateLiteral y template h = ap shape_of_expression h ∙ ap (λ f. f.shape) (ap facts_of_expression (sym (e.rolls-TemplateLiteral template)) ∙ fold-roll-Expression ClassElementFacts HeritageFacts ExpressionFacts LinkFacts TellingBy ElementFacts PropertyNameFacts Telling Telling Telling TellingAs Telling Telling StatementFacts ClassFacts Telling Telling SubstitutionsFacts FunctionFacts MethodFacts BracketedFacts ElementsFacts NextElementFacts BlockFacts Telling Telling Telling class_element_step heritage_step expression_step link_step concise_body_step element_step property_name_step case_clause_step else_step finalizer_step for_start_step handler_step maybe_expression_step statement_step class_step operand_step substitution_step substitutions_step function_step method_step bracketed_step elements_step next_element_step block_step declaration_step else_if_step if_clause_step (Expression-F.TemplateLiteral template))

pub names_TemplateLiteral : (y : Expression) (template : Substitutions) → y ≡ e.TemplateLiteral template → names_of_expression y ≡ []
unfolding facts_of_expression breaches_of_expression shape_of_expression names_of_expression facts_of_substitutions breaches_of_substitutions shape_of_substitutions
names_TemplateLiteral y template h = ap names_of_expression h ∙ ap (λ f. f.names) (ap facts_of_expression (sym (e.rolls-TemplateLiteral template)) ∙ fold-roll-Expression ClassElementFacts HeritageFacts ExpressionFacts LinkFacts TellingBy ElementFacts PropertyNameFacts Telling Telling Telling TellingAs Telling Telling StatementFacts ClassFacts Telling Telling SubstitutionsFacts FunctionFacts MethodFacts BracketedFacts ElementsFacts NextElementFacts BlockFacts Telling Telling Telling class_element_step heritage_step expression_step link_step concise_body_step element_step property_name_step case_clause_step else_step finalizer_step for_start_step handler_step maybe_expression_step statement_step class_step operand_step substitution_step substitutions_step function_step method_step bracketed_step elements_step next_element_step block_step declaration_step else_if_step if_clause_step (Expression-F.TemplateLiteral template))

pub is_FunctionExpression : (y : Expression) (function : Function) (text : List ℕ) (setting : Setting) (role : Role) → y ≡ e.FunctionExpression function → breaches_of_expression y text setting role ≡ together (breaches_of_function function text setting ∷ value_breaches role (shape_of_function function) ∷ [])
unfolding facts_of_expression breaches_of_expression shape_of_expression facts_of_function breaches_of_function shape_of_function
is_FunctionExpression y function text setting role h = ap (λ z. breaches_of_expression z text setting role) h ∙ ap (λ f. f.breaches text setting role) (ap facts_of_expression (sym (e.rolls-FunctionExpression function)) ∙ fold-roll-Expression ClassElementFacts HeritageFacts ExpressionFacts LinkFacts TellingBy ElementFacts PropertyNameFacts Telling Telling Telling TellingAs Telling Telling StatementFacts ClassFacts Telling Telling SubstitutionsFacts FunctionFacts MethodFacts BracketedFacts ElementsFacts NextElementFacts BlockFacts Telling Telling Telling class_element_step heritage_step expression_step link_step concise_body_step element_step property_name_step case_clause_step else_step finalizer_step for_start_step handler_step maybe_expression_step statement_step class_step operand_step substitution_step substitutions_step function_step method_step bracketed_step elements_step next_element_step block_step declaration_step else_if_step if_clause_step (Expression-F.FunctionExpression function))

pub shape_FunctionExpression : (y : Expression) (function : Function) → y ≡ e.FunctionExpression function → shape_of_expression y ≡ other_shape (shape_of_function function)
unfolding facts_of_expression breaches_of_expression shape_of_expression facts_of_function breaches_of_function shape_of_function
shape_FunctionExpression y function h = ap shape_of_expression h ∙ ap (λ f. f.shape) (ap facts_of_expression (sym (e.rolls-FunctionExpression function)) ∙ fold-roll-Expression ClassElementFacts HeritageFacts ExpressionFacts LinkFacts TellingBy ElementFacts PropertyNameFacts Telling Telling Telling TellingAs Telling Telling StatementFacts ClassFacts Telling Telling SubstitutionsFacts FunctionFacts MethodFacts BracketedFacts ElementsFacts NextElementFacts BlockFacts Telling Telling Telling class_element_step heritage_step expression_step link_step concise_body_step element_step property_name_step case_clause_step else_step finalizer_step for_start_step handler_step maybe_expression_step statement_step class_step operand_step substitution_step substitutions_step function_step method_step bracketed_step elements_step next_element_step block_step declaration_step else_if_step if_clause_step (Expression-F.FunctionExpression function))

pub names_FunctionExpression : (y : Expression) (function : Function) → y ≡ e.FunctionExpression function → names_of_expression y ≡ []
unfolding facts_of_expression breaches_of_expression shape_of_expression names_of_expression facts_of_function breaches_of_function shape_of_function
names_FunctionExpression y function h = ap names_of_expression h ∙ ap (λ f. f.names) (ap facts_of_expression (sym (e.rolls-FunctionExpression function)) ∙ fold-roll-Expression ClassElementFacts HeritageFacts ExpressionFacts LinkFacts TellingBy ElementFacts PropertyNameFacts Telling Telling Telling TellingAs Telling Telling StatementFacts ClassFacts Telling Telling SubstitutionsFacts FunctionFacts MethodFacts BracketedFacts ElementsFacts NextElementFacts BlockFacts Telling Telling Telling class_element_step heritage_step expression_step link_step concise_body_step element_step property_name_step case_clause_step else_step finalizer_step for_start_step handler_step maybe_expression_step statement_step class_step operand_step substitution_step substitutions_step function_step method_step bracketed_step elements_step next_element_step block_step declaration_step else_if_step if_clause_step (Expression-F.FunctionExpression function))

pub is_ClassExpression : (y : Expression) (class : Class) (text : List ℕ) (setting : Setting) (role : Role) → y ≡ e.ClassExpression class → breaches_of_expression y text setting role ≡ together (breaches_of_class class text setting ∷ value_breaches role (shape_of_class class) ∷ [])
unfolding facts_of_expression breaches_of_expression shape_of_expression facts_of_class breaches_of_class shape_of_class
is_ClassExpression y class text setting role h = ap (λ z. breaches_of_expression z text setting role) h ∙ ap (λ f. f.breaches text setting role) (ap facts_of_expression (sym (e.rolls-ClassExpression class)) ∙ fold-roll-Expression ClassElementFacts HeritageFacts ExpressionFacts LinkFacts TellingBy ElementFacts PropertyNameFacts Telling Telling Telling TellingAs Telling Telling StatementFacts ClassFacts Telling Telling SubstitutionsFacts FunctionFacts MethodFacts BracketedFacts ElementsFacts NextElementFacts BlockFacts Telling Telling Telling class_element_step heritage_step expression_step link_step concise_body_step element_step property_name_step case_clause_step else_step finalizer_step for_start_step handler_step maybe_expression_step statement_step class_step operand_step substitution_step substitutions_step function_step method_step bracketed_step elements_step next_element_step block_step declaration_step else_if_step if_clause_step (Expression-F.ClassExpression class))

pub shape_ClassExpression : (y : Expression) (class : Class) → y ≡ e.ClassExpression class → shape_of_expression y ≡ other_shape (shape_of_class class)
unfolding facts_of_expression breaches_of_expression shape_of_expression facts_of_class breaches_of_class shape_of_class
shape_ClassExpression y class h = ap shape_of_expression h ∙ ap (λ f. f.shape) (ap facts_of_expression (sym (e.rolls-ClassExpression class)) ∙ fold-roll-Expression ClassElementFacts HeritageFacts ExpressionFacts LinkFacts TellingBy ElementFacts PropertyNameFacts Telling Telling Telling TellingAs Telling Telling StatementFacts ClassFacts Telling Telling SubstitutionsFacts FunctionFacts MethodFacts BracketedFacts ElementsFacts NextElementFacts BlockFacts Telling Telling Telling class_element_step heritage_step expression_step link_step concise_body_step element_step property_name_step case_clause_step else_step finalizer_step for_start_step handler_step maybe_expression_step statement_step class_step operand_step substitution_step substitutions_step function_step method_step bracketed_step elements_step next_element_step block_step declaration_step else_if_step if_clause_step (Expression-F.ClassExpression class))

pub names_ClassExpression : (y : Expression) (class : Class) → y ≡ e.ClassExpression class → names_of_expression y ≡ []
unfolding facts_of_expression breaches_of_expression shape_of_expression names_of_expression facts_of_class breaches_of_class shape_of_class
names_ClassExpression y class h = ap names_of_expression h ∙ ap (λ f. f.names) (ap facts_of_expression (sym (e.rolls-ClassExpression class)) ∙ fold-roll-Expression ClassElementFacts HeritageFacts ExpressionFacts LinkFacts TellingBy ElementFacts PropertyNameFacts Telling Telling Telling TellingAs Telling Telling StatementFacts ClassFacts Telling Telling SubstitutionsFacts FunctionFacts MethodFacts BracketedFacts ElementsFacts NextElementFacts BlockFacts Telling Telling Telling class_element_step heritage_step expression_step link_step concise_body_step element_step property_name_step case_clause_step else_step finalizer_step for_start_step handler_step maybe_expression_step statement_step class_step operand_step substitution_step substitutions_step function_step method_step bracketed_step elements_step next_element_step block_step declaration_step else_if_step if_clause_step (Expression-F.ClassExpression class))

pub is_Member : (y : Expression) (object : Expression) (links : List Link) (text : List ℕ) (setting : Setting) (role : Role) → y ≡ e.Member object links → breaches_of_expression y text setting role ≡ together (breaches_of_expression object text setting r.Value ∷ links_breaches text setting role (map facts_of_link links) ∷ super_breaches (shape_of_expression object).token (links_shape (map (λ f. f.shape) (map facts_of_link links))).begins_with_call setting ∷ member_breaches role (links_shape (map (λ f. f.shape) (map facts_of_link links))) (shape_of_expression object).start ∷ [])
unfolding facts_of_expression breaches_of_expression shape_of_expression facts_of_link breaches_of_link shape_of_link
is_Member y object links text setting role h = ap (λ z. breaches_of_expression z text setting role) h ∙ ap (λ f. f.breaches text setting role) (ap facts_of_expression (sym (e.rolls-Member object links)) ∙ fold-roll-Expression ClassElementFacts HeritageFacts ExpressionFacts LinkFacts TellingBy ElementFacts PropertyNameFacts Telling Telling Telling TellingAs Telling Telling StatementFacts ClassFacts Telling Telling SubstitutionsFacts FunctionFacts MethodFacts BracketedFacts ElementsFacts NextElementFacts BlockFacts Telling Telling Telling class_element_step heritage_step expression_step link_step concise_body_step element_step property_name_step case_clause_step else_step finalizer_step for_start_step handler_step maybe_expression_step statement_step class_step operand_step substitution_step substitutions_step function_step method_step bracketed_step elements_step next_element_step block_step declaration_step else_if_step if_clause_step (Expression-F.Member object links))

pub shape_Member : (y : Expression) (object : Expression) (links : List Link) → y ≡ e.Member object links → shape_of_expression y ≡ member_shape (shape_of_expression object).start (links_shape (map (λ f. f.shape) (map facts_of_link links)))
unfolding facts_of_expression breaches_of_expression shape_of_expression facts_of_link breaches_of_link shape_of_link
shape_Member y object links h = ap shape_of_expression h ∙ ap (λ f. f.shape) (ap facts_of_expression (sym (e.rolls-Member object links)) ∙ fold-roll-Expression ClassElementFacts HeritageFacts ExpressionFacts LinkFacts TellingBy ElementFacts PropertyNameFacts Telling Telling Telling TellingAs Telling Telling StatementFacts ClassFacts Telling Telling SubstitutionsFacts FunctionFacts MethodFacts BracketedFacts ElementsFacts NextElementFacts BlockFacts Telling Telling Telling class_element_step heritage_step expression_step link_step concise_body_step element_step property_name_step case_clause_step else_step finalizer_step for_start_step handler_step maybe_expression_step statement_step class_step operand_step substitution_step substitutions_step function_step method_step bracketed_step elements_step next_element_step block_step declaration_step else_if_step if_clause_step (Expression-F.Member object links))

pub names_Member : (y : Expression) (object : Expression) (links : List Link) → y ≡ e.Member object links → names_of_expression y ≡ joined (map (λ f. f.names) (map facts_of_link links))
unfolding facts_of_expression breaches_of_expression shape_of_expression names_of_expression facts_of_link breaches_of_link shape_of_link names_of_link
names_Member y object links h = ap names_of_expression h ∙ ap (λ f. f.names) (ap facts_of_expression (sym (e.rolls-Member object links)) ∙ fold-roll-Expression ClassElementFacts HeritageFacts ExpressionFacts LinkFacts TellingBy ElementFacts PropertyNameFacts Telling Telling Telling TellingAs Telling Telling StatementFacts ClassFacts Telling Telling SubstitutionsFacts FunctionFacts MethodFacts BracketedFacts ElementsFacts NextElementFacts BlockFacts Telling Telling Telling class_element_step heritage_step expression_step link_step concise_body_step element_step property_name_step case_clause_step else_step finalizer_step for_start_step handler_step maybe_expression_step statement_step class_step operand_step substitution_step substitutions_step function_step method_step bracketed_step elements_step next_element_step block_step declaration_step else_if_step if_clause_step (Expression-F.Member object links))

pub is_New : (y : Expression) (word : Token) (callee : Expression) (arguments : Bracketed) (text : List ℕ) (setting : Setting) (role : Role) → y ≡ e.New word callee arguments → breaches_of_expression y text setting role ≡ together (breaches_of_expression callee text setting r.Value ∷ breaches_of_bracketed arguments text setting lr.Values ∷ value_breaches role word.start ∷ [])
unfolding facts_of_expression breaches_of_expression shape_of_expression facts_of_bracketed breaches_of_bracketed shape_of_bracketed
is_New y word callee arguments text setting role h = ap (λ z. breaches_of_expression z text setting role) h ∙ ap (λ f. f.breaches text setting role) (ap facts_of_expression (sym (e.rolls-New word callee arguments)) ∙ fold-roll-Expression ClassElementFacts HeritageFacts ExpressionFacts LinkFacts TellingBy ElementFacts PropertyNameFacts Telling Telling Telling TellingAs Telling Telling StatementFacts ClassFacts Telling Telling SubstitutionsFacts FunctionFacts MethodFacts BracketedFacts ElementsFacts NextElementFacts BlockFacts Telling Telling Telling class_element_step heritage_step expression_step link_step concise_body_step element_step property_name_step case_clause_step else_step finalizer_step for_start_step handler_step maybe_expression_step statement_step class_step operand_step substitution_step substitutions_step function_step method_step bracketed_step elements_step next_element_step block_step declaration_step else_if_step if_clause_step (Expression-F.New word callee arguments))

pub shape_New : (y : Expression) (word : Token) (callee : Expression) (arguments : Bracketed) → y ≡ e.New word callee arguments → shape_of_expression y ≡ other_shape word.start
unfolding facts_of_expression breaches_of_expression shape_of_expression facts_of_bracketed breaches_of_bracketed shape_of_bracketed
shape_New y word callee arguments h = ap shape_of_expression h ∙ ap (λ f. f.shape) (ap facts_of_expression (sym (e.rolls-New word callee arguments)) ∙ fold-roll-Expression ClassElementFacts HeritageFacts ExpressionFacts LinkFacts TellingBy ElementFacts PropertyNameFacts Telling Telling Telling TellingAs Telling Telling StatementFacts ClassFacts Telling Telling SubstitutionsFacts FunctionFacts MethodFacts BracketedFacts ElementsFacts NextElementFacts BlockFacts Telling Telling Telling class_element_step heritage_step expression_step link_step concise_body_step element_step property_name_step case_clause_step else_step finalizer_step for_start_step handler_step maybe_expression_step statement_step class_step operand_step substitution_step substitutions_step function_step method_step bracketed_step elements_step next_element_step block_step declaration_step else_if_step if_clause_step (Expression-F.New word callee arguments))

pub names_New : (y : Expression) (word : Token) (callee : Expression) (arguments : Bracketed) → y ≡ e.New word callee arguments → names_of_expression y ≡ []
unfolding facts_of_expression breaches_of_expression shape_of_expression names_of_expression facts_of_bracketed breaches_of_bracketed shape_of_bracketed names_of_bracketed
names_New y word callee arguments h = ap names_of_expression h ∙ ap (λ f. f.names) (ap facts_of_expression (sym (e.rolls-New word callee arguments)) ∙ fold-roll-Expression ClassElementFacts HeritageFacts ExpressionFacts LinkFacts TellingBy ElementFacts PropertyNameFacts Telling Telling Telling TellingAs Telling Telling StatementFacts ClassFacts Telling Telling SubstitutionsFacts FunctionFacts MethodFacts BracketedFacts ElementsFacts NextElementFacts BlockFacts Telling Telling Telling class_element_step heritage_step expression_step link_step concise_body_step element_step property_name_step case_clause_step else_step finalizer_step for_start_step handler_step maybe_expression_step statement_step class_step operand_step substitution_step substitutions_step function_step method_step bracketed_step elements_step next_element_step block_step declaration_step else_if_step if_clause_step (Expression-F.New word callee arguments))

pub is_NewPlain : (y : Expression) (word : Token) (callee : Expression) (text : List ℕ) (setting : Setting) (role : Role) → y ≡ e.NewPlain word callee → breaches_of_expression y text setting role ≡ together (breaches_of_expression callee text setting r.Value ∷ value_breaches role word.start ∷ [])
unfolding facts_of_expression breaches_of_expression shape_of_expression
is_NewPlain y word callee text setting role h = ap (λ z. breaches_of_expression z text setting role) h ∙ ap (λ f. f.breaches text setting role) (ap facts_of_expression (sym (e.rolls-NewPlain word callee)) ∙ fold-roll-Expression ClassElementFacts HeritageFacts ExpressionFacts LinkFacts TellingBy ElementFacts PropertyNameFacts Telling Telling Telling TellingAs Telling Telling StatementFacts ClassFacts Telling Telling SubstitutionsFacts FunctionFacts MethodFacts BracketedFacts ElementsFacts NextElementFacts BlockFacts Telling Telling Telling class_element_step heritage_step expression_step link_step concise_body_step element_step property_name_step case_clause_step else_step finalizer_step for_start_step handler_step maybe_expression_step statement_step class_step operand_step substitution_step substitutions_step function_step method_step bracketed_step elements_step next_element_step block_step declaration_step else_if_step if_clause_step (Expression-F.NewPlain word callee))

pub shape_NewPlain : (y : Expression) (word : Token) (callee : Expression) → y ≡ e.NewPlain word callee → shape_of_expression y ≡ other_shape word.start
unfolding facts_of_expression breaches_of_expression shape_of_expression
shape_NewPlain y word callee h = ap shape_of_expression h ∙ ap (λ f. f.shape) (ap facts_of_expression (sym (e.rolls-NewPlain word callee)) ∙ fold-roll-Expression ClassElementFacts HeritageFacts ExpressionFacts LinkFacts TellingBy ElementFacts PropertyNameFacts Telling Telling Telling TellingAs Telling Telling StatementFacts ClassFacts Telling Telling SubstitutionsFacts FunctionFacts MethodFacts BracketedFacts ElementsFacts NextElementFacts BlockFacts Telling Telling Telling class_element_step heritage_step expression_step link_step concise_body_step element_step property_name_step case_clause_step else_step finalizer_step for_start_step handler_step maybe_expression_step statement_step class_step operand_step substitution_step substitutions_step function_step method_step bracketed_step elements_step next_element_step block_step declaration_step else_if_step if_clause_step (Expression-F.NewPlain word callee))

pub names_NewPlain : (y : Expression) (word : Token) (callee : Expression) → y ≡ e.NewPlain word callee → names_of_expression y ≡ []
unfolding facts_of_expression breaches_of_expression shape_of_expression names_of_expression
names_NewPlain y word callee h = ap names_of_expression h ∙ ap (λ f. f.names) (ap facts_of_expression (sym (e.rolls-NewPlain word callee)) ∙ fold-roll-Expression ClassElementFacts HeritageFacts ExpressionFacts LinkFacts TellingBy ElementFacts PropertyNameFacts Telling Telling Telling TellingAs Telling Telling StatementFacts ClassFacts Telling Telling SubstitutionsFacts FunctionFacts MethodFacts BracketedFacts ElementsFacts NextElementFacts BlockFacts Telling Telling Telling class_element_step heritage_step expression_step link_step concise_body_step element_step property_name_step case_clause_step else_step finalizer_step for_start_step handler_step maybe_expression_step statement_step class_step operand_step substitution_step substitutions_step function_step method_step bracketed_step elements_step next_element_step block_step declaration_step else_if_step if_clause_step (Expression-F.NewPlain word callee))

pub is_ImportCall : (y : Expression) (word : Token) (begin : Token) (x : Expression) (ending : Token) (text : List ℕ) (setting : Setting) (role : Role) → y ≡ e.ImportCall word begin x ending → breaches_of_expression y text setting role ≡ together (breaches_of_expression x text setting r.Value ∷ value_breaches role word.start ∷ [])
unfolding facts_of_expression breaches_of_expression shape_of_expression
is_ImportCall y word begin x ending text setting role h = ap (λ z. breaches_of_expression z text setting role) h ∙ ap (λ f. f.breaches text setting role) (ap facts_of_expression (sym (e.rolls-ImportCall word begin x ending)) ∙ fold-roll-Expression ClassElementFacts HeritageFacts ExpressionFacts LinkFacts TellingBy ElementFacts PropertyNameFacts Telling Telling Telling TellingAs Telling Telling StatementFacts ClassFacts Telling Telling SubstitutionsFacts FunctionFacts MethodFacts BracketedFacts ElementsFacts NextElementFacts BlockFacts Telling Telling Telling class_element_step heritage_step expression_step link_step concise_body_step element_step property_name_step case_clause_step else_step finalizer_step for_start_step handler_step maybe_expression_step statement_step class_step operand_step substitution_step substitutions_step function_step method_step bracketed_step elements_step next_element_step block_step declaration_step else_if_step if_clause_step (Expression-F.ImportCall word begin x ending))

pub shape_ImportCall : (y : Expression) (word : Token) (begin : Token) (x : Expression) (ending : Token) → y ≡ e.ImportCall word begin x ending → shape_of_expression y ≡ other_shape word.start
unfolding facts_of_expression breaches_of_expression shape_of_expression
shape_ImportCall y word begin x ending h = ap shape_of_expression h ∙ ap (λ f. f.shape) (ap facts_of_expression (sym (e.rolls-ImportCall word begin x ending)) ∙ fold-roll-Expression ClassElementFacts HeritageFacts ExpressionFacts LinkFacts TellingBy ElementFacts PropertyNameFacts Telling Telling Telling TellingAs Telling Telling StatementFacts ClassFacts Telling Telling SubstitutionsFacts FunctionFacts MethodFacts BracketedFacts ElementsFacts NextElementFacts BlockFacts Telling Telling Telling class_element_step heritage_step expression_step link_step concise_body_step element_step property_name_step case_clause_step else_step finalizer_step for_start_step handler_step maybe_expression_step statement_step class_step operand_step substitution_step substitutions_step function_step method_step bracketed_step elements_step next_element_step block_step declaration_step else_if_step if_clause_step (Expression-F.ImportCall word begin x ending))

pub names_ImportCall : (y : Expression) (word : Token) (begin : Token) (x : Expression) (ending : Token) → y ≡ e.ImportCall word begin x ending → names_of_expression y ≡ []
unfolding facts_of_expression breaches_of_expression shape_of_expression names_of_expression
names_ImportCall y word begin x ending h = ap names_of_expression h ∙ ap (λ f. f.names) (ap facts_of_expression (sym (e.rolls-ImportCall word begin x ending)) ∙ fold-roll-Expression ClassElementFacts HeritageFacts ExpressionFacts LinkFacts TellingBy ElementFacts PropertyNameFacts Telling Telling Telling TellingAs Telling Telling StatementFacts ClassFacts Telling Telling SubstitutionsFacts FunctionFacts MethodFacts BracketedFacts ElementsFacts NextElementFacts BlockFacts Telling Telling Telling class_element_step heritage_step expression_step link_step concise_body_step element_step property_name_step case_clause_step else_step finalizer_step for_start_step handler_step maybe_expression_step statement_step class_step operand_step substitution_step substitutions_step function_step method_step bracketed_step elements_step next_element_step block_step declaration_step else_if_step if_clause_step (Expression-F.ImportCall word begin x ending))

pub is_PrefixUpdate : (y : Expression) (operator : Token) (x : Expression) (text : List ℕ) (setting : Setting) (role : Role) → y ≡ e.PrefixUpdate operator x → breaches_of_expression y text setting role ≡ together (breaches_of_expression x text setting r.Simple ∷ value_breaches role operator.start ∷ [])
unfolding facts_of_expression breaches_of_expression shape_of_expression
is_PrefixUpdate y operator x text setting role h = ap (λ z. breaches_of_expression z text setting role) h ∙ ap (λ f. f.breaches text setting role) (ap facts_of_expression (sym (e.rolls-PrefixUpdate operator x)) ∙ fold-roll-Expression ClassElementFacts HeritageFacts ExpressionFacts LinkFacts TellingBy ElementFacts PropertyNameFacts Telling Telling Telling TellingAs Telling Telling StatementFacts ClassFacts Telling Telling SubstitutionsFacts FunctionFacts MethodFacts BracketedFacts ElementsFacts NextElementFacts BlockFacts Telling Telling Telling class_element_step heritage_step expression_step link_step concise_body_step element_step property_name_step case_clause_step else_step finalizer_step for_start_step handler_step maybe_expression_step statement_step class_step operand_step substitution_step substitutions_step function_step method_step bracketed_step elements_step next_element_step block_step declaration_step else_if_step if_clause_step (Expression-F.PrefixUpdate operator x))

pub shape_PrefixUpdate : (y : Expression) (operator : Token) (x : Expression) → y ≡ e.PrefixUpdate operator x → shape_of_expression y ≡ other_shape operator.start
unfolding facts_of_expression breaches_of_expression shape_of_expression
shape_PrefixUpdate y operator x h = ap shape_of_expression h ∙ ap (λ f. f.shape) (ap facts_of_expression (sym (e.rolls-PrefixUpdate operator x)) ∙ fold-roll-Expression ClassElementFacts HeritageFacts ExpressionFacts LinkFacts TellingBy ElementFacts PropertyNameFacts Telling Telling Telling TellingAs Telling Telling StatementFacts ClassFacts Telling Telling SubstitutionsFacts FunctionFacts MethodFacts BracketedFacts ElementsFacts NextElementFacts BlockFacts Telling Telling Telling class_element_step heritage_step expression_step link_step concise_body_step element_step property_name_step case_clause_step else_step finalizer_step for_start_step handler_step maybe_expression_step statement_step class_step operand_step substitution_step substitutions_step function_step method_step bracketed_step elements_step next_element_step block_step declaration_step else_if_step if_clause_step (Expression-F.PrefixUpdate operator x))

pub names_PrefixUpdate : (y : Expression) (operator : Token) (x : Expression) → y ≡ e.PrefixUpdate operator x → names_of_expression y ≡ []
unfolding facts_of_expression breaches_of_expression shape_of_expression names_of_expression
names_PrefixUpdate y operator x h = ap names_of_expression h ∙ ap (λ f. f.names) (ap facts_of_expression (sym (e.rolls-PrefixUpdate operator x)) ∙ fold-roll-Expression ClassElementFacts HeritageFacts ExpressionFacts LinkFacts TellingBy ElementFacts PropertyNameFacts Telling Telling Telling TellingAs Telling Telling StatementFacts ClassFacts Telling Telling SubstitutionsFacts FunctionFacts MethodFacts BracketedFacts ElementsFacts NextElementFacts BlockFacts Telling Telling Telling class_element_step heritage_step expression_step link_step concise_body_step element_step property_name_step case_clause_step else_step finalizer_step for_start_step handler_step maybe_expression_step statement_step class_step operand_step substitution_step substitutions_step function_step method_step bracketed_step elements_step next_element_step block_step declaration_step else_if_step if_clause_step (Expression-F.PrefixUpdate operator x))

pub is_PostfixUpdate : (y : Expression) (x : Expression) (operator : Token) (text : List ℕ) (setting : Setting) (role : Role) → y ≡ e.PostfixUpdate x operator → breaches_of_expression y text setting role ≡ together (breaches_of_expression x text setting r.Simple ∷ value_breaches role (shape_of_expression x).start ∷ [])
unfolding facts_of_expression breaches_of_expression shape_of_expression
is_PostfixUpdate y x operator text setting role h = ap (λ z. breaches_of_expression z text setting role) h ∙ ap (λ f. f.breaches text setting role) (ap facts_of_expression (sym (e.rolls-PostfixUpdate x operator)) ∙ fold-roll-Expression ClassElementFacts HeritageFacts ExpressionFacts LinkFacts TellingBy ElementFacts PropertyNameFacts Telling Telling Telling TellingAs Telling Telling StatementFacts ClassFacts Telling Telling SubstitutionsFacts FunctionFacts MethodFacts BracketedFacts ElementsFacts NextElementFacts BlockFacts Telling Telling Telling class_element_step heritage_step expression_step link_step concise_body_step element_step property_name_step case_clause_step else_step finalizer_step for_start_step handler_step maybe_expression_step statement_step class_step operand_step substitution_step substitutions_step function_step method_step bracketed_step elements_step next_element_step block_step declaration_step else_if_step if_clause_step (Expression-F.PostfixUpdate x operator))

pub shape_PostfixUpdate : (y : Expression) (x : Expression) (operator : Token) → y ≡ e.PostfixUpdate x operator → shape_of_expression y ≡ other_shape (shape_of_expression x).start
unfolding facts_of_expression breaches_of_expression shape_of_expression
shape_PostfixUpdate y x operator h = ap shape_of_expression h ∙ ap (λ f. f.shape) (ap facts_of_expression (sym (e.rolls-PostfixUpdate x operator)) ∙ fold-roll-Expression ClassElementFacts HeritageFacts ExpressionFacts LinkFacts TellingBy ElementFacts PropertyNameFacts Telling Telling Telling TellingAs Telling Telling StatementFacts ClassFacts Telling Telling SubstitutionsFacts FunctionFacts MethodFacts BracketedFacts ElementsFacts NextElementFacts BlockFacts Telling Telling Telling class_element_step heritage_step expression_step link_step concise_body_step element_step property_name_step case_clause_step else_step finalizer_step for_start_step handler_step maybe_expression_step statement_step class_step operand_step substitution_step substitutions_step function_step method_step bracketed_step elements_step next_element_step block_step declaration_step else_if_step if_clause_step (Expression-F.PostfixUpdate x operator))

pub names_PostfixUpdate : (y : Expression) (x : Expression) (operator : Token) → y ≡ e.PostfixUpdate x operator → names_of_expression y ≡ []
unfolding facts_of_expression breaches_of_expression shape_of_expression names_of_expression
names_PostfixUpdate y x operator h = ap names_of_expression h ∙ ap (λ f. f.names) (ap facts_of_expression (sym (e.rolls-PostfixUpdate x operator)) ∙ fold-roll-Expression ClassElementFacts HeritageFacts ExpressionFacts LinkFacts TellingBy ElementFacts PropertyNameFacts Telling Telling Telling TellingAs Telling Telling StatementFacts ClassFacts Telling Telling SubstitutionsFacts FunctionFacts MethodFacts BracketedFacts ElementsFacts NextElementFacts BlockFacts Telling Telling Telling class_element_step heritage_step expression_step link_step concise_body_step element_step property_name_step case_clause_step else_step finalizer_step for_start_step handler_step maybe_expression_step statement_step class_step operand_step substitution_step substitutions_step function_step method_step bracketed_step elements_step next_element_step block_step declaration_step else_if_step if_clause_step (Expression-F.PostfixUpdate x operator))

pub is_Unary : (y : Expression) (operator : Token) (x : Expression) (text : List ℕ) (setting : Setting) (role : Role) → y ≡ e.Unary operator x → breaches_of_expression y text setting role ≡ together (breaches_of_expression x text setting r.Value ∷ delete_breaches operator (shape_of_expression x).name ∷ value_breaches role operator.start ∷ [])
unfolding facts_of_expression breaches_of_expression shape_of_expression
is_Unary y operator x text setting role h = ap (λ z. breaches_of_expression z text setting role) h ∙ ap (λ f. f.breaches text setting role) (ap facts_of_expression (sym (e.rolls-Unary operator x)) ∙ fold-roll-Expression ClassElementFacts HeritageFacts ExpressionFacts LinkFacts TellingBy ElementFacts PropertyNameFacts Telling Telling Telling TellingAs Telling Telling StatementFacts ClassFacts Telling Telling SubstitutionsFacts FunctionFacts MethodFacts BracketedFacts ElementsFacts NextElementFacts BlockFacts Telling Telling Telling class_element_step heritage_step expression_step link_step concise_body_step element_step property_name_step case_clause_step else_step finalizer_step for_start_step handler_step maybe_expression_step statement_step class_step operand_step substitution_step substitutions_step function_step method_step bracketed_step elements_step next_element_step block_step declaration_step else_if_step if_clause_step (Expression-F.Unary operator x))

pub shape_Unary : (y : Expression) (operator : Token) (x : Expression) → y ≡ e.Unary operator x → shape_of_expression y ≡ other_shape operator.start
unfolding facts_of_expression breaches_of_expression shape_of_expression
shape_Unary y operator x h = ap shape_of_expression h ∙ ap (λ f. f.shape) (ap facts_of_expression (sym (e.rolls-Unary operator x)) ∙ fold-roll-Expression ClassElementFacts HeritageFacts ExpressionFacts LinkFacts TellingBy ElementFacts PropertyNameFacts Telling Telling Telling TellingAs Telling Telling StatementFacts ClassFacts Telling Telling SubstitutionsFacts FunctionFacts MethodFacts BracketedFacts ElementsFacts NextElementFacts BlockFacts Telling Telling Telling class_element_step heritage_step expression_step link_step concise_body_step element_step property_name_step case_clause_step else_step finalizer_step for_start_step handler_step maybe_expression_step statement_step class_step operand_step substitution_step substitutions_step function_step method_step bracketed_step elements_step next_element_step block_step declaration_step else_if_step if_clause_step (Expression-F.Unary operator x))

pub names_Unary : (y : Expression) (operator : Token) (x : Expression) → y ≡ e.Unary operator x → names_of_expression y ≡ []
unfolding facts_of_expression breaches_of_expression shape_of_expression names_of_expression
names_Unary y operator x h = ap names_of_expression h ∙ ap (λ f. f.names) (ap facts_of_expression (sym (e.rolls-Unary operator x)) ∙ fold-roll-Expression ClassElementFacts HeritageFacts ExpressionFacts LinkFacts TellingBy ElementFacts PropertyNameFacts Telling Telling Telling TellingAs Telling Telling StatementFacts ClassFacts Telling Telling SubstitutionsFacts FunctionFacts MethodFacts BracketedFacts ElementsFacts NextElementFacts BlockFacts Telling Telling Telling class_element_step heritage_step expression_step link_step concise_body_step element_step property_name_step case_clause_step else_step finalizer_step for_start_step handler_step maybe_expression_step statement_step class_step operand_step substitution_step substitutions_step function_step method_step bracketed_step elements_step next_element_step block_step declaration_step else_if_step if_clause_step (Expression-F.Unary operator x))

pub is_Await : (y : Expression) (word : Token) (x : Expression) (text : List ℕ) (setting : Setting) (role : Role) → y ≡ e.Await word x → breaches_of_expression y text setting role ≡ together (breaches_of_expression x text setting r.Value ∷ operator_breaches word setting ∷ value_breaches role word.start ∷ [])
unfolding facts_of_expression breaches_of_expression shape_of_expression
is_Await y word x text setting role h = ap (λ z. breaches_of_expression z text setting role) h ∙ ap (λ f. f.breaches text setting role) (ap facts_of_expression (sym (e.rolls-Await word x)) ∙ fold-roll-Expression ClassElementFacts HeritageFacts ExpressionFacts LinkFacts TellingBy ElementFacts PropertyNameFacts Telling Telling Telling TellingAs Telling Telling StatementFacts ClassFacts Telling Telling SubstitutionsFacts FunctionFacts MethodFacts BracketedFacts ElementsFacts NextElementFacts BlockFacts Telling Telling Telling class_element_step heritage_step expression_step link_step concise_body_step element_step property_name_step case_clause_step else_step finalizer_step for_start_step handler_step maybe_expression_step statement_step class_step operand_step substitution_step substitutions_step function_step method_step bracketed_step elements_step next_element_step block_step declaration_step else_if_step if_clause_step (Expression-F.Await word x))

pub shape_Await : (y : Expression) (word : Token) (x : Expression) → y ≡ e.Await word x → shape_of_expression y ≡ other_shape word.start
unfolding facts_of_expression breaches_of_expression shape_of_expression
shape_Await y word x h = ap shape_of_expression h ∙ ap (λ f. f.shape) (ap facts_of_expression (sym (e.rolls-Await word x)) ∙ fold-roll-Expression ClassElementFacts HeritageFacts ExpressionFacts LinkFacts TellingBy ElementFacts PropertyNameFacts Telling Telling Telling TellingAs Telling Telling StatementFacts ClassFacts Telling Telling SubstitutionsFacts FunctionFacts MethodFacts BracketedFacts ElementsFacts NextElementFacts BlockFacts Telling Telling Telling class_element_step heritage_step expression_step link_step concise_body_step element_step property_name_step case_clause_step else_step finalizer_step for_start_step handler_step maybe_expression_step statement_step class_step operand_step substitution_step substitutions_step function_step method_step bracketed_step elements_step next_element_step block_step declaration_step else_if_step if_clause_step (Expression-F.Await word x))

pub names_Await : (y : Expression) (word : Token) (x : Expression) → y ≡ e.Await word x → names_of_expression y ≡ []
unfolding facts_of_expression breaches_of_expression shape_of_expression names_of_expression
names_Await y word x h = ap names_of_expression h ∙ ap (λ f. f.names) (ap facts_of_expression (sym (e.rolls-Await word x)) ∙ fold-roll-Expression ClassElementFacts HeritageFacts ExpressionFacts LinkFacts TellingBy ElementFacts PropertyNameFacts Telling Telling Telling TellingAs Telling Telling StatementFacts ClassFacts Telling Telling SubstitutionsFacts FunctionFacts MethodFacts BracketedFacts ElementsFacts NextElementFacts BlockFacts Telling Telling Telling class_element_step heritage_step expression_step link_step concise_body_step element_step property_name_step case_clause_step else_step finalizer_step for_start_step handler_step maybe_expression_step statement_step class_step operand_step substitution_step substitutions_step function_step method_step bracketed_step elements_step next_element_step block_step declaration_step else_if_step if_clause_step (Expression-F.Await word x))

pub is_Binary : (y : Expression) (first : Expression) (rest : List Operand) (text : List ℕ) (setting : Setting) (role : Role) → y ≡ e.Binary first rest → breaches_of_expression y text setting role ≡ together (breaches_of_expression first text setting r.Value ∷ each text setting (map breaches_of_operand rest) ∷ value_breaches role (shape_of_expression first).start ∷ [])
unfolding facts_of_expression breaches_of_expression shape_of_expression breaches_of_operand
is_Binary y first rest text setting role h = ap (λ z. breaches_of_expression z text setting role) h ∙ ap (λ f. f.breaches text setting role) (ap facts_of_expression (sym (e.rolls-Binary first rest)) ∙ fold-roll-Expression ClassElementFacts HeritageFacts ExpressionFacts LinkFacts TellingBy ElementFacts PropertyNameFacts Telling Telling Telling TellingAs Telling Telling StatementFacts ClassFacts Telling Telling SubstitutionsFacts FunctionFacts MethodFacts BracketedFacts ElementsFacts NextElementFacts BlockFacts Telling Telling Telling class_element_step heritage_step expression_step link_step concise_body_step element_step property_name_step case_clause_step else_step finalizer_step for_start_step handler_step maybe_expression_step statement_step class_step operand_step substitution_step substitutions_step function_step method_step bracketed_step elements_step next_element_step block_step declaration_step else_if_step if_clause_step (Expression-F.Binary first rest))

pub shape_Binary : (y : Expression) (first : Expression) (rest : List Operand) → y ≡ e.Binary first rest → shape_of_expression y ≡ other_shape (shape_of_expression first).start
unfolding facts_of_expression breaches_of_expression shape_of_expression breaches_of_operand
shape_Binary y first rest h = ap shape_of_expression h ∙ ap (λ f. f.shape) (ap facts_of_expression (sym (e.rolls-Binary first rest)) ∙ fold-roll-Expression ClassElementFacts HeritageFacts ExpressionFacts LinkFacts TellingBy ElementFacts PropertyNameFacts Telling Telling Telling TellingAs Telling Telling StatementFacts ClassFacts Telling Telling SubstitutionsFacts FunctionFacts MethodFacts BracketedFacts ElementsFacts NextElementFacts BlockFacts Telling Telling Telling class_element_step heritage_step expression_step link_step concise_body_step element_step property_name_step case_clause_step else_step finalizer_step for_start_step handler_step maybe_expression_step statement_step class_step operand_step substitution_step substitutions_step function_step method_step bracketed_step elements_step next_element_step block_step declaration_step else_if_step if_clause_step (Expression-F.Binary first rest))

pub names_Binary : (y : Expression) (first : Expression) (rest : List Operand) → y ≡ e.Binary first rest → names_of_expression y ≡ []
unfolding facts_of_expression breaches_of_expression shape_of_expression names_of_expression breaches_of_operand
names_Binary y first rest h = ap names_of_expression h ∙ ap (λ f. f.names) (ap facts_of_expression (sym (e.rolls-Binary first rest)) ∙ fold-roll-Expression ClassElementFacts HeritageFacts ExpressionFacts LinkFacts TellingBy ElementFacts PropertyNameFacts Telling Telling Telling TellingAs Telling Telling StatementFacts ClassFacts Telling Telling SubstitutionsFacts FunctionFacts MethodFacts BracketedFacts ElementsFacts NextElementFacts BlockFacts Telling Telling Telling class_element_step heritage_step expression_step link_step concise_body_step element_step property_name_step case_clause_step else_step finalizer_step for_start_step handler_step maybe_expression_step statement_step class_step operand_step substitution_step substitutions_step function_step method_step bracketed_step elements_step next_element_step block_step declaration_step else_if_step if_clause_step (Expression-F.Binary first rest))

pub is_Conditional : (y : Expression) (test : Expression) (question : Token) (x : Expression) (colon : Token) (other : Expression) (text : List ℕ) (setting : Setting) (role : Role) → y ≡ e.Conditional test question x colon other → breaches_of_expression y text setting role ≡ together (breaches_of_expression test text setting r.Value ∷ breaches_of_expression x text setting r.Value ∷ breaches_of_expression other text setting r.Value ∷ value_breaches role (shape_of_expression test).start ∷ [])
unfolding facts_of_expression breaches_of_expression shape_of_expression
is_Conditional y test question x colon other text setting role h = ap (λ z. breaches_of_expression z text setting role) h ∙ ap (λ f. f.breaches text setting role) (ap facts_of_expression (sym (e.rolls-Conditional test question x colon other)) ∙ fold-roll-Expression ClassElementFacts HeritageFacts ExpressionFacts LinkFacts TellingBy ElementFacts PropertyNameFacts Telling Telling Telling TellingAs Telling Telling StatementFacts ClassFacts Telling Telling SubstitutionsFacts FunctionFacts MethodFacts BracketedFacts ElementsFacts NextElementFacts BlockFacts Telling Telling Telling class_element_step heritage_step expression_step link_step concise_body_step element_step property_name_step case_clause_step else_step finalizer_step for_start_step handler_step maybe_expression_step statement_step class_step operand_step substitution_step substitutions_step function_step method_step bracketed_step elements_step next_element_step block_step declaration_step else_if_step if_clause_step (Expression-F.Conditional test question x colon other))

pub shape_Conditional : (y : Expression) (test : Expression) (question : Token) (x : Expression) (colon : Token) (other : Expression) → y ≡ e.Conditional test question x colon other → shape_of_expression y ≡ other_shape (shape_of_expression test).start
unfolding facts_of_expression breaches_of_expression shape_of_expression
shape_Conditional y test question x colon other h = ap shape_of_expression h ∙ ap (λ f. f.shape) (ap facts_of_expression (sym (e.rolls-Conditional test question x colon other)) ∙ fold-roll-Expression ClassElementFacts HeritageFacts ExpressionFacts LinkFacts TellingBy ElementFacts PropertyNameFacts Telling Telling Telling TellingAs Telling Telling StatementFacts ClassFacts Telling Telling SubstitutionsFacts FunctionFacts MethodFacts BracketedFacts ElementsFacts NextElementFacts BlockFacts Telling Telling Telling class_element_step heritage_step expression_step link_step concise_body_step element_step property_name_step case_clause_step else_step finalizer_step for_start_step handler_step maybe_expression_step statement_step class_step operand_step substitution_step substitutions_step function_step method_step bracketed_step elements_step next_element_step block_step declaration_step else_if_step if_clause_step (Expression-F.Conditional test question x colon other))

pub names_Conditional : (y : Expression) (test : Expression) (question : Token) (x : Expression) (colon : Token) (other : Expression) → y ≡ e.Conditional test question x colon other → names_of_expression y ≡ []
unfolding facts_of_expression breaches_of_expression shape_of_expression names_of_expression
names_Conditional y test question x colon other h = ap names_of_expression h ∙ ap (λ f. f.names) (ap facts_of_expression (sym (e.rolls-Conditional test question x colon other)) ∙ fold-roll-Expression ClassElementFacts HeritageFacts ExpressionFacts LinkFacts TellingBy ElementFacts PropertyNameFacts Telling Telling Telling TellingAs Telling Telling StatementFacts ClassFacts Telling Telling SubstitutionsFacts FunctionFacts MethodFacts BracketedFacts ElementsFacts NextElementFacts BlockFacts Telling Telling Telling class_element_step heritage_step expression_step link_step concise_body_step element_step property_name_step case_clause_step else_step finalizer_step for_start_step handler_step maybe_expression_step statement_step class_step operand_step substitution_step substitutions_step function_step method_step bracketed_step elements_step next_element_step block_step declaration_step else_if_step if_clause_step (Expression-F.Conditional test question x colon other))

pub is_Assignment : (y : Expression) (target : Expression) (operator : Token) (x : Expression) (text : List ℕ) (setting : Setting) (role : Role) → y ≡ e.Assignment target operator x → breaches_of_expression y text setting role ≡ together (breaches_of_expression target text setting (assigned_role operator.kind) ∷ breaches_of_expression x text setting r.Value ∷ assignment_breaches role operator (shape_of_expression target).start ∷ [])
unfolding facts_of_expression breaches_of_expression shape_of_expression
is_Assignment y target operator x text setting role h = ap (λ z. breaches_of_expression z text setting role) h ∙ ap (λ f. f.breaches text setting role) (ap facts_of_expression (sym (e.rolls-Assignment target operator x)) ∙ fold-roll-Expression ClassElementFacts HeritageFacts ExpressionFacts LinkFacts TellingBy ElementFacts PropertyNameFacts Telling Telling Telling TellingAs Telling Telling StatementFacts ClassFacts Telling Telling SubstitutionsFacts FunctionFacts MethodFacts BracketedFacts ElementsFacts NextElementFacts BlockFacts Telling Telling Telling class_element_step heritage_step expression_step link_step concise_body_step element_step property_name_step case_clause_step else_step finalizer_step for_start_step handler_step maybe_expression_step statement_step class_step operand_step substitution_step substitutions_step function_step method_step bracketed_step elements_step next_element_step block_step declaration_step else_if_step if_clause_step (Expression-F.Assignment target operator x))

pub shape_Assignment : (y : Expression) (target : Expression) (operator : Token) (x : Expression) → y ≡ e.Assignment target operator x → shape_of_expression y ≡ other_shape (shape_of_expression target).start
unfolding facts_of_expression breaches_of_expression shape_of_expression
shape_Assignment y target operator x h = ap shape_of_expression h ∙ ap (λ f. f.shape) (ap facts_of_expression (sym (e.rolls-Assignment target operator x)) ∙ fold-roll-Expression ClassElementFacts HeritageFacts ExpressionFacts LinkFacts TellingBy ElementFacts PropertyNameFacts Telling Telling Telling TellingAs Telling Telling StatementFacts ClassFacts Telling Telling SubstitutionsFacts FunctionFacts MethodFacts BracketedFacts ElementsFacts NextElementFacts BlockFacts Telling Telling Telling class_element_step heritage_step expression_step link_step concise_body_step element_step property_name_step case_clause_step else_step finalizer_step for_start_step handler_step maybe_expression_step statement_step class_step operand_step substitution_step substitutions_step function_step method_step bracketed_step elements_step next_element_step block_step declaration_step else_if_step if_clause_step (Expression-F.Assignment target operator x))

pub names_Assignment : (y : Expression) (target : Expression) (operator : Token) (x : Expression) → y ≡ e.Assignment target operator x → names_of_expression y ≡ names_of_expression target
unfolding facts_of_expression breaches_of_expression shape_of_expression names_of_expression
names_Assignment y target operator x h = ap names_of_expression h ∙ ap (λ f. f.names) (ap facts_of_expression (sym (e.rolls-Assignment target operator x)) ∙ fold-roll-Expression ClassElementFacts HeritageFacts ExpressionFacts LinkFacts TellingBy ElementFacts PropertyNameFacts Telling Telling Telling TellingAs Telling Telling StatementFacts ClassFacts Telling Telling SubstitutionsFacts FunctionFacts MethodFacts BracketedFacts ElementsFacts NextElementFacts BlockFacts Telling Telling Telling class_element_step heritage_step expression_step link_step concise_body_step element_step property_name_step case_clause_step else_step finalizer_step for_start_step handler_step maybe_expression_step statement_step class_step operand_step substitution_step substitutions_step function_step method_step bracketed_step elements_step next_element_step block_step declaration_step else_if_step if_clause_step (Expression-F.Assignment target operator x))

pub is_Arrow : (y : Expression) (head : Expression) (arrow : Token) (body : ConciseBody) (text : List ℕ) (setting : Setting) (role : Role) → y ≡ e.Arrow head arrow body → breaches_of_expression y text setting role ≡ together (repeated_breaches text (names_of_expression head) ∷ breaches_of_expression head text (of_parameters setting) r.Parameters ∷ breaches_of_concise_body body text (of_body setting) (shape_of_expression head).is_plain ∷ value_breaches role (shape_of_expression head).start ∷ [])
unfolding facts_of_expression breaches_of_expression shape_of_expression names_of_expression breaches_of_concise_body
is_Arrow y head arrow body text setting role h = ap (λ z. breaches_of_expression z text setting role) h ∙ ap (λ f. f.breaches text setting role) (ap facts_of_expression (sym (e.rolls-Arrow head arrow body)) ∙ fold-roll-Expression ClassElementFacts HeritageFacts ExpressionFacts LinkFacts TellingBy ElementFacts PropertyNameFacts Telling Telling Telling TellingAs Telling Telling StatementFacts ClassFacts Telling Telling SubstitutionsFacts FunctionFacts MethodFacts BracketedFacts ElementsFacts NextElementFacts BlockFacts Telling Telling Telling class_element_step heritage_step expression_step link_step concise_body_step element_step property_name_step case_clause_step else_step finalizer_step for_start_step handler_step maybe_expression_step statement_step class_step operand_step substitution_step substitutions_step function_step method_step bracketed_step elements_step next_element_step block_step declaration_step else_if_step if_clause_step (Expression-F.Arrow head arrow body))

pub shape_Arrow : (y : Expression) (head : Expression) (arrow : Token) (body : ConciseBody) → y ≡ e.Arrow head arrow body → shape_of_expression y ≡ other_shape (shape_of_expression head).start
unfolding facts_of_expression breaches_of_expression shape_of_expression names_of_expression breaches_of_concise_body
shape_Arrow y head arrow body h = ap shape_of_expression h ∙ ap (λ f. f.shape) (ap facts_of_expression (sym (e.rolls-Arrow head arrow body)) ∙ fold-roll-Expression ClassElementFacts HeritageFacts ExpressionFacts LinkFacts TellingBy ElementFacts PropertyNameFacts Telling Telling Telling TellingAs Telling Telling StatementFacts ClassFacts Telling Telling SubstitutionsFacts FunctionFacts MethodFacts BracketedFacts ElementsFacts NextElementFacts BlockFacts Telling Telling Telling class_element_step heritage_step expression_step link_step concise_body_step element_step property_name_step case_clause_step else_step finalizer_step for_start_step handler_step maybe_expression_step statement_step class_step operand_step substitution_step substitutions_step function_step method_step bracketed_step elements_step next_element_step block_step declaration_step else_if_step if_clause_step (Expression-F.Arrow head arrow body))

pub names_Arrow : (y : Expression) (head : Expression) (arrow : Token) (body : ConciseBody) → y ≡ e.Arrow head arrow body → names_of_expression y ≡ []
unfolding facts_of_expression breaches_of_expression shape_of_expression names_of_expression breaches_of_concise_body
names_Arrow y head arrow body h = ap names_of_expression h ∙ ap (λ f. f.names) (ap facts_of_expression (sym (e.rolls-Arrow head arrow body)) ∙ fold-roll-Expression ClassElementFacts HeritageFacts ExpressionFacts LinkFacts TellingBy ElementFacts PropertyNameFacts Telling Telling Telling TellingAs Telling Telling StatementFacts ClassFacts Telling Telling SubstitutionsFacts FunctionFacts MethodFacts BracketedFacts ElementsFacts NextElementFacts BlockFacts Telling Telling Telling class_element_step heritage_step expression_step link_step concise_body_step element_step property_name_step case_clause_step else_step finalizer_step for_start_step handler_step maybe_expression_step statement_step class_step operand_step substitution_step substitutions_step function_step method_step bracketed_step elements_step next_element_step block_step declaration_step else_if_step if_clause_step (Expression-F.Arrow head arrow body))

pub is_AsyncArrow : (y : Expression) (word : Token) (name : Token) (arrow : Token) (body : ConciseBody) (text : List ℕ) (setting : Setting) (role : Role) → y ≡ e.AsyncArrow word name arrow body → breaches_of_expression y text setting role ≡ together (bound_breaches text name ∷ breaches_of_concise_body body text (of_body setting) true ∷ value_breaches role word.start ∷ [])
unfolding facts_of_expression breaches_of_expression shape_of_expression breaches_of_concise_body
is_AsyncArrow y word name arrow body text setting role h = ap (λ z. breaches_of_expression z text setting role) h ∙ ap (λ f. f.breaches text setting role) (ap facts_of_expression (sym (e.rolls-AsyncArrow word name arrow body)) ∙ fold-roll-Expression ClassElementFacts HeritageFacts ExpressionFacts LinkFacts TellingBy ElementFacts PropertyNameFacts Telling Telling Telling TellingAs Telling Telling StatementFacts ClassFacts Telling Telling SubstitutionsFacts FunctionFacts MethodFacts BracketedFacts ElementsFacts NextElementFacts BlockFacts Telling Telling Telling class_element_step heritage_step expression_step link_step concise_body_step element_step property_name_step case_clause_step else_step finalizer_step for_start_step handler_step maybe_expression_step statement_step class_step operand_step substitution_step substitutions_step function_step method_step bracketed_step elements_step next_element_step block_step declaration_step else_if_step if_clause_step (Expression-F.AsyncArrow word name arrow body))

pub shape_AsyncArrow : (y : Expression) (word : Token) (name : Token) (arrow : Token) (body : ConciseBody) → y ≡ e.AsyncArrow word name arrow body → shape_of_expression y ≡ other_shape word.start
unfolding facts_of_expression breaches_of_expression shape_of_expression breaches_of_concise_body
shape_AsyncArrow y word name arrow body h = ap shape_of_expression h ∙ ap (λ f. f.shape) (ap facts_of_expression (sym (e.rolls-AsyncArrow word name arrow body)) ∙ fold-roll-Expression ClassElementFacts HeritageFacts ExpressionFacts LinkFacts TellingBy ElementFacts PropertyNameFacts Telling Telling Telling TellingAs Telling Telling StatementFacts ClassFacts Telling Telling SubstitutionsFacts FunctionFacts MethodFacts BracketedFacts ElementsFacts NextElementFacts BlockFacts Telling Telling Telling class_element_step heritage_step expression_step link_step concise_body_step element_step property_name_step case_clause_step else_step finalizer_step for_start_step handler_step maybe_expression_step statement_step class_step operand_step substitution_step substitutions_step function_step method_step bracketed_step elements_step next_element_step block_step declaration_step else_if_step if_clause_step (Expression-F.AsyncArrow word name arrow body))

pub names_AsyncArrow : (y : Expression) (word : Token) (name : Token) (arrow : Token) (body : ConciseBody) → y ≡ e.AsyncArrow word name arrow body → names_of_expression y ≡ []
unfolding facts_of_expression breaches_of_expression shape_of_expression names_of_expression breaches_of_concise_body
names_AsyncArrow y word name arrow body h = ap names_of_expression h ∙ ap (λ f. f.names) (ap facts_of_expression (sym (e.rolls-AsyncArrow word name arrow body)) ∙ fold-roll-Expression ClassElementFacts HeritageFacts ExpressionFacts LinkFacts TellingBy ElementFacts PropertyNameFacts Telling Telling Telling TellingAs Telling Telling StatementFacts ClassFacts Telling Telling SubstitutionsFacts FunctionFacts MethodFacts BracketedFacts ElementsFacts NextElementFacts BlockFacts Telling Telling Telling class_element_step heritage_step expression_step link_step concise_body_step element_step property_name_step case_clause_step else_step finalizer_step for_start_step handler_step maybe_expression_step statement_step class_step operand_step substitution_step substitutions_step function_step method_step bracketed_step elements_step next_element_step block_step declaration_step else_if_step if_clause_step (Expression-F.AsyncArrow word name arrow body))

pub is_Yield : (y : Expression) (word : Token) (text : List ℕ) (setting : Setting) (role : Role) → y ≡ e.Yield word → breaches_of_expression y text setting role ≡ together (operator_breaches word setting ∷ value_breaches role word.start ∷ [])
unfolding facts_of_expression breaches_of_expression shape_of_expression
is_Yield y word text setting role h = ap (λ z. breaches_of_expression z text setting role) h ∙ ap (λ f. f.breaches text setting role) (ap facts_of_expression (sym (e.rolls-Yield word)) ∙ fold-roll-Expression ClassElementFacts HeritageFacts ExpressionFacts LinkFacts TellingBy ElementFacts PropertyNameFacts Telling Telling Telling TellingAs Telling Telling StatementFacts ClassFacts Telling Telling SubstitutionsFacts FunctionFacts MethodFacts BracketedFacts ElementsFacts NextElementFacts BlockFacts Telling Telling Telling class_element_step heritage_step expression_step link_step concise_body_step element_step property_name_step case_clause_step else_step finalizer_step for_start_step handler_step maybe_expression_step statement_step class_step operand_step substitution_step substitutions_step function_step method_step bracketed_step elements_step next_element_step block_step declaration_step else_if_step if_clause_step (Expression-F.Yield word))

pub shape_Yield : (y : Expression) (word : Token) → y ≡ e.Yield word → shape_of_expression y ≡ other_shape word.start
unfolding facts_of_expression breaches_of_expression shape_of_expression
shape_Yield y word h = ap shape_of_expression h ∙ ap (λ f. f.shape) (ap facts_of_expression (sym (e.rolls-Yield word)) ∙ fold-roll-Expression ClassElementFacts HeritageFacts ExpressionFacts LinkFacts TellingBy ElementFacts PropertyNameFacts Telling Telling Telling TellingAs Telling Telling StatementFacts ClassFacts Telling Telling SubstitutionsFacts FunctionFacts MethodFacts BracketedFacts ElementsFacts NextElementFacts BlockFacts Telling Telling Telling class_element_step heritage_step expression_step link_step concise_body_step element_step property_name_step case_clause_step else_step finalizer_step for_start_step handler_step maybe_expression_step statement_step class_step operand_step substitution_step substitutions_step function_step method_step bracketed_step elements_step next_element_step block_step declaration_step else_if_step if_clause_step (Expression-F.Yield word))

pub names_Yield : (y : Expression) (word : Token) → y ≡ e.Yield word → names_of_expression y ≡ []
unfolding facts_of_expression breaches_of_expression shape_of_expression names_of_expression
names_Yield y word h = ap names_of_expression h ∙ ap (λ f. f.names) (ap facts_of_expression (sym (e.rolls-Yield word)) ∙ fold-roll-Expression ClassElementFacts HeritageFacts ExpressionFacts LinkFacts TellingBy ElementFacts PropertyNameFacts Telling Telling Telling TellingAs Telling Telling StatementFacts ClassFacts Telling Telling SubstitutionsFacts FunctionFacts MethodFacts BracketedFacts ElementsFacts NextElementFacts BlockFacts Telling Telling Telling class_element_step heritage_step expression_step link_step concise_body_step element_step property_name_step case_clause_step else_step finalizer_step for_start_step handler_step maybe_expression_step statement_step class_step operand_step substitution_step substitutions_step function_step method_step bracketed_step elements_step next_element_step block_step declaration_step else_if_step if_clause_step (Expression-F.Yield word))

pub is_YieldValue : (y : Expression) (word : Token) (x : Expression) (text : List ℕ) (setting : Setting) (role : Role) → y ≡ e.YieldValue word x → breaches_of_expression y text setting role ≡ together (breaches_of_expression x text setting r.Value ∷ operator_breaches word setting ∷ value_breaches role word.start ∷ [])
unfolding facts_of_expression breaches_of_expression shape_of_expression
is_YieldValue y word x text setting role h = ap (λ z. breaches_of_expression z text setting role) h ∙ ap (λ f. f.breaches text setting role) (ap facts_of_expression (sym (e.rolls-YieldValue word x)) ∙ fold-roll-Expression ClassElementFacts HeritageFacts ExpressionFacts LinkFacts TellingBy ElementFacts PropertyNameFacts Telling Telling Telling TellingAs Telling Telling StatementFacts ClassFacts Telling Telling SubstitutionsFacts FunctionFacts MethodFacts BracketedFacts ElementsFacts NextElementFacts BlockFacts Telling Telling Telling class_element_step heritage_step expression_step link_step concise_body_step element_step property_name_step case_clause_step else_step finalizer_step for_start_step handler_step maybe_expression_step statement_step class_step operand_step substitution_step substitutions_step function_step method_step bracketed_step elements_step next_element_step block_step declaration_step else_if_step if_clause_step (Expression-F.YieldValue word x))

pub shape_YieldValue : (y : Expression) (word : Token) (x : Expression) → y ≡ e.YieldValue word x → shape_of_expression y ≡ other_shape word.start
unfolding facts_of_expression breaches_of_expression shape_of_expression
shape_YieldValue y word x h = ap shape_of_expression h ∙ ap (λ f. f.shape) (ap facts_of_expression (sym (e.rolls-YieldValue word x)) ∙ fold-roll-Expression ClassElementFacts HeritageFacts ExpressionFacts LinkFacts TellingBy ElementFacts PropertyNameFacts Telling Telling Telling TellingAs Telling Telling StatementFacts ClassFacts Telling Telling SubstitutionsFacts FunctionFacts MethodFacts BracketedFacts ElementsFacts NextElementFacts BlockFacts Telling Telling Telling class_element_step heritage_step expression_step link_step concise_body_step element_step property_name_step case_clause_step else_step finalizer_step for_start_step handler_step maybe_expression_step statement_step class_step operand_step substitution_step substitutions_step function_step method_step bracketed_step elements_step next_element_step block_step declaration_step else_if_step if_clause_step (Expression-F.YieldValue word x))

pub names_YieldValue : (y : Expression) (word : Token) (x : Expression) → y ≡ e.YieldValue word x → names_of_expression y ≡ []
unfolding facts_of_expression breaches_of_expression shape_of_expression names_of_expression
names_YieldValue y word x h = ap names_of_expression h ∙ ap (λ f. f.names) (ap facts_of_expression (sym (e.rolls-YieldValue word x)) ∙ fold-roll-Expression ClassElementFacts HeritageFacts ExpressionFacts LinkFacts TellingBy ElementFacts PropertyNameFacts Telling Telling Telling TellingAs Telling Telling StatementFacts ClassFacts Telling Telling SubstitutionsFacts FunctionFacts MethodFacts BracketedFacts ElementsFacts NextElementFacts BlockFacts Telling Telling Telling class_element_step heritage_step expression_step link_step concise_body_step element_step property_name_step case_clause_step else_step finalizer_step for_start_step handler_step maybe_expression_step statement_step class_step operand_step substitution_step substitutions_step function_step method_step bracketed_step elements_step next_element_step block_step declaration_step else_if_step if_clause_step (Expression-F.YieldValue word x))

pub is_YieldEach : (y : Expression) (word : Token) (star : Token) (x : Expression) (text : List ℕ) (setting : Setting) (role : Role) → y ≡ e.YieldEach word star x → breaches_of_expression y text setting role ≡ together (breaches_of_expression x text setting r.Value ∷ operator_breaches word setting ∷ value_breaches role word.start ∷ [])
unfolding facts_of_expression breaches_of_expression shape_of_expression
is_YieldEach y word star x text setting role h = ap (λ z. breaches_of_expression z text setting role) h ∙ ap (λ f. f.breaches text setting role) (ap facts_of_expression (sym (e.rolls-YieldEach word star x)) ∙ fold-roll-Expression ClassElementFacts HeritageFacts ExpressionFacts LinkFacts TellingBy ElementFacts PropertyNameFacts Telling Telling Telling TellingAs Telling Telling StatementFacts ClassFacts Telling Telling SubstitutionsFacts FunctionFacts MethodFacts BracketedFacts ElementsFacts NextElementFacts BlockFacts Telling Telling Telling class_element_step heritage_step expression_step link_step concise_body_step element_step property_name_step case_clause_step else_step finalizer_step for_start_step handler_step maybe_expression_step statement_step class_step operand_step substitution_step substitutions_step function_step method_step bracketed_step elements_step next_element_step block_step declaration_step else_if_step if_clause_step (Expression-F.YieldEach word star x))

pub shape_YieldEach : (y : Expression) (word : Token) (star : Token) (x : Expression) → y ≡ e.YieldEach word star x → shape_of_expression y ≡ other_shape word.start
unfolding facts_of_expression breaches_of_expression shape_of_expression
shape_YieldEach y word star x h = ap shape_of_expression h ∙ ap (λ f. f.shape) (ap facts_of_expression (sym (e.rolls-YieldEach word star x)) ∙ fold-roll-Expression ClassElementFacts HeritageFacts ExpressionFacts LinkFacts TellingBy ElementFacts PropertyNameFacts Telling Telling Telling TellingAs Telling Telling StatementFacts ClassFacts Telling Telling SubstitutionsFacts FunctionFacts MethodFacts BracketedFacts ElementsFacts NextElementFacts BlockFacts Telling Telling Telling class_element_step heritage_step expression_step link_step concise_body_step element_step property_name_step case_clause_step else_step finalizer_step for_start_step handler_step maybe_expression_step statement_step class_step operand_step substitution_step substitutions_step function_step method_step bracketed_step elements_step next_element_step block_step declaration_step else_if_step if_clause_step (Expression-F.YieldEach word star x))

pub names_YieldEach : (y : Expression) (word : Token) (star : Token) (x : Expression) → y ≡ e.YieldEach word star x → names_of_expression y ≡ []
unfolding facts_of_expression breaches_of_expression shape_of_expression names_of_expression
names_YieldEach y word star x h = ap names_of_expression h ∙ ap (λ f. f.names) (ap facts_of_expression (sym (e.rolls-YieldEach word star x)) ∙ fold-roll-Expression ClassElementFacts HeritageFacts ExpressionFacts LinkFacts TellingBy ElementFacts PropertyNameFacts Telling Telling Telling TellingAs Telling Telling StatementFacts ClassFacts Telling Telling SubstitutionsFacts FunctionFacts MethodFacts BracketedFacts ElementsFacts NextElementFacts BlockFacts Telling Telling Telling class_element_step heritage_step expression_step link_step concise_body_step element_step property_name_step case_clause_step else_step finalizer_step for_start_step handler_step maybe_expression_step statement_step class_step operand_step substitution_step substitutions_step function_step method_step bracketed_step elements_step next_element_step block_step declaration_step else_if_step if_clause_step (Expression-F.YieldEach word star x))

pub is_Dot : (y : Link) (dot : Token) (name : Token) (text : List ℕ) (setting : Setting) (role : Role) → y ≡ l.Dot dot name → breaches_of_link y text setting role ≡ together ([])
unfolding facts_of_link breaches_of_link shape_of_link
is_Dot y dot name text setting role h = ap (λ z. breaches_of_link z text setting role) h ∙ ap (λ f. f.breaches text setting role) (ap facts_of_link (sym (l.rolls-Dot dot name)) ∙ fold-roll-Link ClassElementFacts HeritageFacts ExpressionFacts LinkFacts TellingBy ElementFacts PropertyNameFacts Telling Telling Telling TellingAs Telling Telling StatementFacts ClassFacts Telling Telling SubstitutionsFacts FunctionFacts MethodFacts BracketedFacts ElementsFacts NextElementFacts BlockFacts Telling Telling Telling class_element_step heritage_step expression_step link_step concise_body_step element_step property_name_step case_clause_step else_step finalizer_step for_start_step handler_step maybe_expression_step statement_step class_step operand_step substitution_step substitutions_step function_step method_step bracketed_step elements_step next_element_step block_step declaration_step else_if_step if_clause_step (Link-F.Dot dot name))

pub shape_Dot : (y : Link) (dot : Token) (name : Token) → y ≡ l.Dot dot name → shape_of_link y ≡ access_link
unfolding facts_of_link breaches_of_link shape_of_link
shape_Dot y dot name h = ap shape_of_link h ∙ ap (λ f. f.shape) (ap facts_of_link (sym (l.rolls-Dot dot name)) ∙ fold-roll-Link ClassElementFacts HeritageFacts ExpressionFacts LinkFacts TellingBy ElementFacts PropertyNameFacts Telling Telling Telling TellingAs Telling Telling StatementFacts ClassFacts Telling Telling SubstitutionsFacts FunctionFacts MethodFacts BracketedFacts ElementsFacts NextElementFacts BlockFacts Telling Telling Telling class_element_step heritage_step expression_step link_step concise_body_step element_step property_name_step case_clause_step else_step finalizer_step for_start_step handler_step maybe_expression_step statement_step class_step operand_step substitution_step substitutions_step function_step method_step bracketed_step elements_step next_element_step block_step declaration_step else_if_step if_clause_step (Link-F.Dot dot name))

pub names_Dot : (y : Link) (dot : Token) (name : Token) → y ≡ l.Dot dot name → names_of_link y ≡ []
unfolding facts_of_link breaches_of_link shape_of_link names_of_link
names_Dot y dot name h = ap names_of_link h ∙ ap (λ f. f.names) (ap facts_of_link (sym (l.rolls-Dot dot name)) ∙ fold-roll-Link ClassElementFacts HeritageFacts ExpressionFacts LinkFacts TellingBy ElementFacts PropertyNameFacts Telling Telling Telling TellingAs Telling Telling StatementFacts ClassFacts Telling Telling SubstitutionsFacts FunctionFacts MethodFacts BracketedFacts ElementsFacts NextElementFacts BlockFacts Telling Telling Telling class_element_step heritage_step expression_step link_step concise_body_step element_step property_name_step case_clause_step else_step finalizer_step for_start_step handler_step maybe_expression_step statement_step class_step operand_step substitution_step substitutions_step function_step method_step bracketed_step elements_step next_element_step block_step declaration_step else_if_step if_clause_step (Link-F.Dot dot name))

pub is_Index : (y : Link) (begin : Token) (x : Expression) (ending : Token) (text : List ℕ) (setting : Setting) (role : Role) → y ≡ l.Index begin x ending → breaches_of_link y text setting role ≡ breaches_of_expression x text setting r.Value
unfolding facts_of_link breaches_of_link shape_of_link facts_of_expression breaches_of_expression shape_of_expression
is_Index y begin x ending text setting role h = ap (λ z. breaches_of_link z text setting role) h ∙ ap (λ f. f.breaches text setting role) (ap facts_of_link (sym (l.rolls-Index begin x ending)) ∙ fold-roll-Link ClassElementFacts HeritageFacts ExpressionFacts LinkFacts TellingBy ElementFacts PropertyNameFacts Telling Telling Telling TellingAs Telling Telling StatementFacts ClassFacts Telling Telling SubstitutionsFacts FunctionFacts MethodFacts BracketedFacts ElementsFacts NextElementFacts BlockFacts Telling Telling Telling class_element_step heritage_step expression_step link_step concise_body_step element_step property_name_step case_clause_step else_step finalizer_step for_start_step handler_step maybe_expression_step statement_step class_step operand_step substitution_step substitutions_step function_step method_step bracketed_step elements_step next_element_step block_step declaration_step else_if_step if_clause_step (Link-F.Index begin x ending))

pub shape_Index : (y : Link) (begin : Token) (x : Expression) (ending : Token) → y ≡ l.Index begin x ending → shape_of_link y ≡ access_link
unfolding facts_of_link breaches_of_link shape_of_link facts_of_expression breaches_of_expression shape_of_expression
shape_Index y begin x ending h = ap shape_of_link h ∙ ap (λ f. f.shape) (ap facts_of_link (sym (l.rolls-Index begin x ending)) ∙ fold-roll-Link ClassElementFacts HeritageFacts ExpressionFacts LinkFacts TellingBy ElementFacts PropertyNameFacts Telling Telling Telling TellingAs Telling Telling StatementFacts ClassFacts Telling Telling SubstitutionsFacts FunctionFacts MethodFacts BracketedFacts ElementsFacts NextElementFacts BlockFacts Telling Telling Telling class_element_step heritage_step expression_step link_step concise_body_step element_step property_name_step case_clause_step else_step finalizer_step for_start_step handler_step maybe_expression_step statement_step class_step operand_step substitution_step substitutions_step function_step method_step bracketed_step elements_step next_element_step block_step declaration_step else_if_step if_clause_step (Link-F.Index begin x ending))

pub names_Index : (y : Link) (begin : Token) (x : Expression) (ending : Token) → y ≡ l.Index begin x ending → names_of_link y ≡ []
unfolding facts_of_link breaches_of_link shape_of_link names_of_link facts_of_expression breaches_of_expression shape_of_expression names_of_expression
names_Index y begin x ending h = ap names_of_link h ∙ ap (λ f. f.names) (ap facts_of_link (sym (l.rolls-Index begin x ending)) ∙ fold-roll-Link ClassElementFacts HeritageFacts ExpressionFacts LinkFacts TellingBy ElementFacts PropertyNameFacts Telling Telling Telling TellingAs Telling Telling StatementFacts ClassFacts Telling Telling SubstitutionsFacts FunctionFacts MethodFacts BracketedFacts ElementsFacts NextElementFacts BlockFacts Telling Telling Telling class_element_step heritage_step expression_step link_step concise_body_step element_step property_name_step case_clause_step else_step finalizer_step for_start_step handler_step maybe_expression_step statement_step class_step operand_step substitution_step substitutions_step function_step method_step bracketed_step elements_step next_element_step block_step declaration_step else_if_step if_clause_step (Link-F.Index begin x ending))

pub is_Call : (y : Link) (arguments : Bracketed) (text : List ℕ) (setting : Setting) (role : Role) → y ≡ l.Call arguments → breaches_of_link y text setting role ≡ breaches_of_bracketed arguments text setting (parenthesized_role role)
unfolding facts_of_link breaches_of_link shape_of_link facts_of_bracketed breaches_of_bracketed shape_of_bracketed
is_Call y arguments text setting role h = ap (λ z. breaches_of_link z text setting role) h ∙ ap (λ f. f.breaches text setting role) (ap facts_of_link (sym (l.rolls-Call arguments)) ∙ fold-roll-Link ClassElementFacts HeritageFacts ExpressionFacts LinkFacts TellingBy ElementFacts PropertyNameFacts Telling Telling Telling TellingAs Telling Telling StatementFacts ClassFacts Telling Telling SubstitutionsFacts FunctionFacts MethodFacts BracketedFacts ElementsFacts NextElementFacts BlockFacts Telling Telling Telling class_element_step heritage_step expression_step link_step concise_body_step element_step property_name_step case_clause_step else_step finalizer_step for_start_step handler_step maybe_expression_step statement_step class_step operand_step substitution_step substitutions_step function_step method_step bracketed_step elements_step next_element_step block_step declaration_step else_if_step if_clause_step (Link-F.Call arguments))

pub shape_Call : (y : Link) (arguments : Bracketed) → y ≡ l.Call arguments → shape_of_link y ≡ call_link (shape_of_bracketed arguments).is_plain
unfolding facts_of_link breaches_of_link shape_of_link facts_of_bracketed breaches_of_bracketed shape_of_bracketed
shape_Call y arguments h = ap shape_of_link h ∙ ap (λ f. f.shape) (ap facts_of_link (sym (l.rolls-Call arguments)) ∙ fold-roll-Link ClassElementFacts HeritageFacts ExpressionFacts LinkFacts TellingBy ElementFacts PropertyNameFacts Telling Telling Telling TellingAs Telling Telling StatementFacts ClassFacts Telling Telling SubstitutionsFacts FunctionFacts MethodFacts BracketedFacts ElementsFacts NextElementFacts BlockFacts Telling Telling Telling class_element_step heritage_step expression_step link_step concise_body_step element_step property_name_step case_clause_step else_step finalizer_step for_start_step handler_step maybe_expression_step statement_step class_step operand_step substitution_step substitutions_step function_step method_step bracketed_step elements_step next_element_step block_step declaration_step else_if_step if_clause_step (Link-F.Call arguments))

pub names_Call : (y : Link) (arguments : Bracketed) → y ≡ l.Call arguments → names_of_link y ≡ names_of_bracketed arguments
unfolding facts_of_link breaches_of_link shape_of_link names_of_link facts_of_bracketed breaches_of_bracketed shape_of_bracketed names_of_bracketed
names_Call y arguments h = ap names_of_link h ∙ ap (λ f. f.names) (ap facts_of_link (sym (l.rolls-Call arguments)) ∙ fold-roll-Link ClassElementFacts HeritageFacts ExpressionFacts LinkFacts TellingBy ElementFacts PropertyNameFacts Telling Telling Telling TellingAs Telling Telling StatementFacts ClassFacts Telling Telling SubstitutionsFacts FunctionFacts MethodFacts BracketedFacts ElementsFacts NextElementFacts BlockFacts Telling Telling Telling class_element_step heritage_step expression_step link_step concise_body_step element_step property_name_step case_clause_step else_step finalizer_step for_start_step handler_step maybe_expression_step statement_step class_step operand_step substitution_step substitutions_step function_step method_step bracketed_step elements_step next_element_step block_step declaration_step else_if_step if_clause_step (Link-F.Call arguments))

pub is_Tagged : (y : Link) (template : Token) (text : List ℕ) (setting : Setting) (role : Role) → y ≡ l.Tagged template → breaches_of_link y text setting role ≡ together ([])
unfolding facts_of_link breaches_of_link shape_of_link
is_Tagged y template text setting role h = ap (λ z. breaches_of_link z text setting role) h ∙ ap (λ f. f.breaches text setting role) (ap facts_of_link (sym (l.rolls-Tagged template)) ∙ fold-roll-Link ClassElementFacts HeritageFacts ExpressionFacts LinkFacts TellingBy ElementFacts PropertyNameFacts Telling Telling Telling TellingAs Telling Telling StatementFacts ClassFacts Telling Telling SubstitutionsFacts FunctionFacts MethodFacts BracketedFacts ElementsFacts NextElementFacts BlockFacts Telling Telling Telling class_element_step heritage_step expression_step link_step concise_body_step element_step property_name_step case_clause_step else_step finalizer_step for_start_step handler_step maybe_expression_step statement_step class_step operand_step substitution_step substitutions_step function_step method_step bracketed_step elements_step next_element_step block_step declaration_step else_if_step if_clause_step (Link-F.Tagged template))

pub shape_Tagged : (y : Link) (template : Token) → y ≡ l.Tagged template → shape_of_link y ≡ template_link
unfolding facts_of_link breaches_of_link shape_of_link
shape_Tagged y template h = ap shape_of_link h ∙ ap (λ f. f.shape) (ap facts_of_link (sym (l.rolls-Tagged template)) ∙ fold-roll-Link ClassElementFacts HeritageFacts ExpressionFacts LinkFacts TellingBy ElementFacts PropertyNameFacts Telling Telling Telling TellingAs Telling Telling StatementFacts ClassFacts Telling Telling SubstitutionsFacts FunctionFacts MethodFacts BracketedFacts ElementsFacts NextElementFacts BlockFacts Telling Telling Telling class_element_step heritage_step expression_step link_step concise_body_step element_step property_name_step case_clause_step else_step finalizer_step for_start_step handler_step maybe_expression_step statement_step class_step operand_step substitution_step substitutions_step function_step method_step bracketed_step elements_step next_element_step block_step declaration_step else_if_step if_clause_step (Link-F.Tagged template))

pub names_Tagged : (y : Link) (template : Token) → y ≡ l.Tagged template → names_of_link y ≡ []
unfolding facts_of_link breaches_of_link shape_of_link names_of_link
names_Tagged y template h = ap names_of_link h ∙ ap (λ f. f.names) (ap facts_of_link (sym (l.rolls-Tagged template)) ∙ fold-roll-Link ClassElementFacts HeritageFacts ExpressionFacts LinkFacts TellingBy ElementFacts PropertyNameFacts Telling Telling Telling TellingAs Telling Telling StatementFacts ClassFacts Telling Telling SubstitutionsFacts FunctionFacts MethodFacts BracketedFacts ElementsFacts NextElementFacts BlockFacts Telling Telling Telling class_element_step heritage_step expression_step link_step concise_body_step element_step property_name_step case_clause_step else_step finalizer_step for_start_step handler_step maybe_expression_step statement_step class_step operand_step substitution_step substitutions_step function_step method_step bracketed_step elements_step next_element_step block_step declaration_step else_if_step if_clause_step (Link-F.Tagged template))

pub is_TaggedTemplate : (y : Link) (template : Substitutions) (text : List ℕ) (setting : Setting) (role : Role) → y ≡ l.TaggedTemplate template → breaches_of_link y text setting role ≡ breaches_of_substitutions template text setting
unfolding facts_of_link breaches_of_link shape_of_link facts_of_substitutions breaches_of_substitutions shape_of_substitutions
is_TaggedTemplate y template text setting role h = ap (λ z. breaches_of_link z text setting role) h ∙ ap (λ f. f.breaches text setting role) (ap facts_of_link (sym (l.rolls-TaggedTemplate template)) ∙ fold-roll-Link ClassElementFacts HeritageFacts ExpressionFacts LinkFacts TellingBy ElementFacts PropertyNameFacts Telling Telling Telling TellingAs Telling Telling StatementFacts ClassFacts Telling Telling SubstitutionsFacts FunctionFacts MethodFacts BracketedFacts ElementsFacts NextElementFacts BlockFacts Telling Telling Telling class_element_step heritage_step expression_step link_step concise_body_step element_step property_name_step case_clause_step else_step finalizer_step for_start_step handler_step maybe_expression_step statement_step class_step operand_step substitution_step substitutions_step function_step method_step bracketed_step elements_step next_element_step block_step declaration_step else_if_step if_clause_step (Link-F.TaggedTemplate template))

pub shape_TaggedTemplate : (y : Link) (template : Substitutions) → y ≡ l.TaggedTemplate template → shape_of_link y ≡ template_link
unfolding facts_of_link breaches_of_link shape_of_link facts_of_substitutions breaches_of_substitutions shape_of_substitutions
shape_TaggedTemplate y template h = ap shape_of_link h ∙ ap (λ f. f.shape) (ap facts_of_link (sym (l.rolls-TaggedTemplate template)) ∙ fold-roll-Link ClassElementFacts HeritageFacts ExpressionFacts LinkFacts TellingBy ElementFacts PropertyNameFacts Telling Telling Telling TellingAs Telling Telling StatementFacts ClassFacts Telling Telling SubstitutionsFacts FunctionFacts MethodFacts BracketedFacts ElementsFacts NextElementFacts BlockFacts Telling Telling Telling class_element_step heritage_step expression_step link_step concise_body_step element_step property_name_step case_clause_step else_step finalizer_step for_start_step handler_step maybe_expression_step statement_step class_step operand_step substitution_step substitutions_step function_step method_step bracketed_step elements_step next_element_step block_step declaration_step else_if_step if_clause_step (Link-F.TaggedTemplate template))

pub names_TaggedTemplate : (y : Link) (template : Substitutions) → y ≡ l.TaggedTemplate template → names_of_link y ≡ []
unfolding facts_of_link breaches_of_link shape_of_link names_of_link facts_of_substitutions breaches_of_substitutions shape_of_substitutions
names_TaggedTemplate y template h = ap names_of_link h ∙ ap (λ f. f.names) (ap facts_of_link (sym (l.rolls-TaggedTemplate template)) ∙ fold-roll-Link ClassElementFacts HeritageFacts ExpressionFacts LinkFacts TellingBy ElementFacts PropertyNameFacts Telling Telling Telling TellingAs Telling Telling StatementFacts ClassFacts Telling Telling SubstitutionsFacts FunctionFacts MethodFacts BracketedFacts ElementsFacts NextElementFacts BlockFacts Telling Telling Telling class_element_step heritage_step expression_step link_step concise_body_step element_step property_name_step case_clause_step else_step finalizer_step for_start_step handler_step maybe_expression_step statement_step class_step operand_step substitution_step substitutions_step function_step method_step bracketed_step elements_step next_element_step block_step declaration_step else_if_step if_clause_step (Link-F.TaggedTemplate template))

pub is_OptionalDot : (y : Link) (dot : Token) (name : Token) (text : List ℕ) (setting : Setting) (role : Role) → y ≡ l.OptionalDot dot name → breaches_of_link y text setting role ≡ together ([])
unfolding facts_of_link breaches_of_link shape_of_link
is_OptionalDot y dot name text setting role h = ap (λ z. breaches_of_link z text setting role) h ∙ ap (λ f. f.breaches text setting role) (ap facts_of_link (sym (l.rolls-OptionalDot dot name)) ∙ fold-roll-Link ClassElementFacts HeritageFacts ExpressionFacts LinkFacts TellingBy ElementFacts PropertyNameFacts Telling Telling Telling TellingAs Telling Telling StatementFacts ClassFacts Telling Telling SubstitutionsFacts FunctionFacts MethodFacts BracketedFacts ElementsFacts NextElementFacts BlockFacts Telling Telling Telling class_element_step heritage_step expression_step link_step concise_body_step element_step property_name_step case_clause_step else_step finalizer_step for_start_step handler_step maybe_expression_step statement_step class_step operand_step substitution_step substitutions_step function_step method_step bracketed_step elements_step next_element_step block_step declaration_step else_if_step if_clause_step (Link-F.OptionalDot dot name))

pub shape_OptionalDot : (y : Link) (dot : Token) (name : Token) → y ≡ l.OptionalDot dot name → shape_of_link y ≡ optional_link
unfolding facts_of_link breaches_of_link shape_of_link
shape_OptionalDot y dot name h = ap shape_of_link h ∙ ap (λ f. f.shape) (ap facts_of_link (sym (l.rolls-OptionalDot dot name)) ∙ fold-roll-Link ClassElementFacts HeritageFacts ExpressionFacts LinkFacts TellingBy ElementFacts PropertyNameFacts Telling Telling Telling TellingAs Telling Telling StatementFacts ClassFacts Telling Telling SubstitutionsFacts FunctionFacts MethodFacts BracketedFacts ElementsFacts NextElementFacts BlockFacts Telling Telling Telling class_element_step heritage_step expression_step link_step concise_body_step element_step property_name_step case_clause_step else_step finalizer_step for_start_step handler_step maybe_expression_step statement_step class_step operand_step substitution_step substitutions_step function_step method_step bracketed_step elements_step next_element_step block_step declaration_step else_if_step if_clause_step (Link-F.OptionalDot dot name))

pub names_OptionalDot : (y : Link) (dot : Token) (name : Token) → y ≡ l.OptionalDot dot name → names_of_link y ≡ []
unfolding facts_of_link breaches_of_link shape_of_link names_of_link
names_OptionalDot y dot name h = ap names_of_link h ∙ ap (λ f. f.names) (ap facts_of_link (sym (l.rolls-OptionalDot dot name)) ∙ fold-roll-Link ClassElementFacts HeritageFacts ExpressionFacts LinkFacts TellingBy ElementFacts PropertyNameFacts Telling Telling Telling TellingAs Telling Telling StatementFacts ClassFacts Telling Telling SubstitutionsFacts FunctionFacts MethodFacts BracketedFacts ElementsFacts NextElementFacts BlockFacts Telling Telling Telling class_element_step heritage_step expression_step link_step concise_body_step element_step property_name_step case_clause_step else_step finalizer_step for_start_step handler_step maybe_expression_step statement_step class_step operand_step substitution_step substitutions_step function_step method_step bracketed_step elements_step next_element_step block_step declaration_step else_if_step if_clause_step (Link-F.OptionalDot dot name))

pub is_OptionalIndex : (y : Link) (dot : Token) (begin : Token) (x : Expression) (ending : Token) (text : List ℕ) (setting : Setting) (role : Role) → y ≡ l.OptionalIndex dot begin x ending → breaches_of_link y text setting role ≡ breaches_of_expression x text setting r.Value
unfolding facts_of_link breaches_of_link shape_of_link facts_of_expression breaches_of_expression shape_of_expression
is_OptionalIndex y dot begin x ending text setting role h = ap (λ z. breaches_of_link z text setting role) h ∙ ap (λ f. f.breaches text setting role) (ap facts_of_link (sym (l.rolls-OptionalIndex dot begin x ending)) ∙ fold-roll-Link ClassElementFacts HeritageFacts ExpressionFacts LinkFacts TellingBy ElementFacts PropertyNameFacts Telling Telling Telling TellingAs Telling Telling StatementFacts ClassFacts Telling Telling SubstitutionsFacts FunctionFacts MethodFacts BracketedFacts ElementsFacts NextElementFacts BlockFacts Telling Telling Telling class_element_step heritage_step expression_step link_step concise_body_step element_step property_name_step case_clause_step else_step finalizer_step for_start_step handler_step maybe_expression_step statement_step class_step operand_step substitution_step substitutions_step function_step method_step bracketed_step elements_step next_element_step block_step declaration_step else_if_step if_clause_step (Link-F.OptionalIndex dot begin x ending))

pub shape_OptionalIndex : (y : Link) (dot : Token) (begin : Token) (x : Expression) (ending : Token) → y ≡ l.OptionalIndex dot begin x ending → shape_of_link y ≡ optional_link
unfolding facts_of_link breaches_of_link shape_of_link facts_of_expression breaches_of_expression shape_of_expression
shape_OptionalIndex y dot begin x ending h = ap shape_of_link h ∙ ap (λ f. f.shape) (ap facts_of_link (sym (l.rolls-OptionalIndex dot begin x ending)) ∙ fold-roll-Link ClassElementFacts HeritageFacts ExpressionFacts LinkFacts TellingBy ElementFacts PropertyNameFacts Telling Telling Telling TellingAs Telling Telling StatementFacts ClassFacts Telling Telling SubstitutionsFacts FunctionFacts MethodFacts BracketedFacts ElementsFacts NextElementFacts BlockFacts Telling Telling Telling class_element_step heritage_step expression_step link_step concise_body_step element_step property_name_step case_clause_step else_step finalizer_step for_start_step handler_step maybe_expression_step statement_step class_step operand_step substitution_step substitutions_step function_step method_step bracketed_step elements_step next_element_step block_step declaration_step else_if_step if_clause_step (Link-F.OptionalIndex dot begin x ending))

pub names_OptionalIndex : (y : Link) (dot : Token) (begin : Token) (x : Expression) (ending : Token) → y ≡ l.OptionalIndex dot begin x ending → names_of_link y ≡ []
unfolding facts_of_link breaches_of_link shape_of_link names_of_link facts_of_expression breaches_of_expression shape_of_expression names_of_expression
names_OptionalIndex y dot begin x ending h = ap names_of_link h ∙ ap (λ f. f.names) (ap facts_of_link (sym (l.rolls-OptionalIndex dot begin x ending)) ∙ fold-roll-Link ClassElementFacts HeritageFacts ExpressionFacts LinkFacts TellingBy ElementFacts PropertyNameFacts Telling Telling Telling TellingAs Telling Telling StatementFacts ClassFacts Telling Telling SubstitutionsFacts FunctionFacts MethodFacts BracketedFacts ElementsFacts NextElementFacts BlockFacts Telling Telling Telling class_element_step heritage_step expression_step link_step concise_body_step element_step property_name_step case_clause_step else_step finalizer_step for_start_step handler_step maybe_expression_step statement_step class_step operand_step substitution_step substitutions_step function_step method_step bracketed_step elements_step next_element_step block_step declaration_step else_if_step if_clause_step (Link-F.OptionalIndex dot begin x ending))

pub is_OptionalCall : (y : Link) (dot : Token) (arguments : Bracketed) (text : List ℕ) (setting : Setting) (role : Role) → y ≡ l.OptionalCall dot arguments → breaches_of_link y text setting role ≡ breaches_of_bracketed arguments text setting lr.Values
unfolding facts_of_link breaches_of_link shape_of_link facts_of_bracketed breaches_of_bracketed shape_of_bracketed
is_OptionalCall y dot arguments text setting role h = ap (λ z. breaches_of_link z text setting role) h ∙ ap (λ f. f.breaches text setting role) (ap facts_of_link (sym (l.rolls-OptionalCall dot arguments)) ∙ fold-roll-Link ClassElementFacts HeritageFacts ExpressionFacts LinkFacts TellingBy ElementFacts PropertyNameFacts Telling Telling Telling TellingAs Telling Telling StatementFacts ClassFacts Telling Telling SubstitutionsFacts FunctionFacts MethodFacts BracketedFacts ElementsFacts NextElementFacts BlockFacts Telling Telling Telling class_element_step heritage_step expression_step link_step concise_body_step element_step property_name_step case_clause_step else_step finalizer_step for_start_step handler_step maybe_expression_step statement_step class_step operand_step substitution_step substitutions_step function_step method_step bracketed_step elements_step next_element_step block_step declaration_step else_if_step if_clause_step (Link-F.OptionalCall dot arguments))

pub shape_OptionalCall : (y : Link) (dot : Token) (arguments : Bracketed) → y ≡ l.OptionalCall dot arguments → shape_of_link y ≡ optional_link
unfolding facts_of_link breaches_of_link shape_of_link facts_of_bracketed breaches_of_bracketed shape_of_bracketed
shape_OptionalCall y dot arguments h = ap shape_of_link h ∙ ap (λ f. f.shape) (ap facts_of_link (sym (l.rolls-OptionalCall dot arguments)) ∙ fold-roll-Link ClassElementFacts HeritageFacts ExpressionFacts LinkFacts TellingBy ElementFacts PropertyNameFacts Telling Telling Telling TellingAs Telling Telling StatementFacts ClassFacts Telling Telling SubstitutionsFacts FunctionFacts MethodFacts BracketedFacts ElementsFacts NextElementFacts BlockFacts Telling Telling Telling class_element_step heritage_step expression_step link_step concise_body_step element_step property_name_step case_clause_step else_step finalizer_step for_start_step handler_step maybe_expression_step statement_step class_step operand_step substitution_step substitutions_step function_step method_step bracketed_step elements_step next_element_step block_step declaration_step else_if_step if_clause_step (Link-F.OptionalCall dot arguments))

pub names_OptionalCall : (y : Link) (dot : Token) (arguments : Bracketed) → y ≡ l.OptionalCall dot arguments → names_of_link y ≡ []
unfolding facts_of_link breaches_of_link shape_of_link names_of_link facts_of_bracketed breaches_of_bracketed shape_of_bracketed names_of_bracketed
names_OptionalCall y dot arguments h = ap names_of_link h ∙ ap (λ f. f.names) (ap facts_of_link (sym (l.rolls-OptionalCall dot arguments)) ∙ fold-roll-Link ClassElementFacts HeritageFacts ExpressionFacts LinkFacts TellingBy ElementFacts PropertyNameFacts Telling Telling Telling TellingAs Telling Telling StatementFacts ClassFacts Telling Telling SubstitutionsFacts FunctionFacts MethodFacts BracketedFacts ElementsFacts NextElementFacts BlockFacts Telling Telling Telling class_element_step heritage_step expression_step link_step concise_body_step element_step property_name_step case_clause_step else_step finalizer_step for_start_step handler_step maybe_expression_step statement_step class_step operand_step substitution_step substitutions_step function_step method_step bracketed_step elements_step next_element_step block_step declaration_step else_if_step if_clause_step (Link-F.OptionalCall dot arguments))

pub is_ConciseValue : (y : ConciseBody) (x : Expression) (text : List ℕ) (setting : Setting) (is_plain : Bool) → y ≡ cb.ConciseValue x → breaches_of_concise_body y text setting is_plain ≡ breaches_of_expression x text setting r.Value
unfolding breaches_of_concise_body facts_of_expression breaches_of_expression shape_of_expression
is_ConciseValue y x text setting is_plain h = ap (λ z. breaches_of_concise_body z text setting is_plain) h ∙ ap (λ f. f text setting is_plain) (ap breaches_of_concise_body (sym (cb.rolls-ConciseValue x)) ∙ fold-roll-ConciseBody ClassElementFacts HeritageFacts ExpressionFacts LinkFacts TellingBy ElementFacts PropertyNameFacts Telling Telling Telling TellingAs Telling Telling StatementFacts ClassFacts Telling Telling SubstitutionsFacts FunctionFacts MethodFacts BracketedFacts ElementsFacts NextElementFacts BlockFacts Telling Telling Telling class_element_step heritage_step expression_step link_step concise_body_step element_step property_name_step case_clause_step else_step finalizer_step for_start_step handler_step maybe_expression_step statement_step class_step operand_step substitution_step substitutions_step function_step method_step bracketed_step elements_step next_element_step block_step declaration_step else_if_step if_clause_step (ConciseBody-F.ConciseValue x))

pub is_ConciseBlock : (y : ConciseBody) (block : Block) (text : List ℕ) (setting : Setting) (is_plain : Bool) → y ≡ cb.ConciseBlock block → breaches_of_concise_body y text setting is_plain ≡ together (unlabelled (breaches_of_block block text setting) ∷ strict_breaches is_plain (use_strict_of_block block text) ∷ [])
unfolding breaches_of_concise_body facts_of_block breaches_of_block use_strict_of_block
is_ConciseBlock y block text setting is_plain h = ap (λ z. breaches_of_concise_body z text setting is_plain) h ∙ ap (λ f. f text setting is_plain) (ap breaches_of_concise_body (sym (cb.rolls-ConciseBlock block)) ∙ fold-roll-ConciseBody ClassElementFacts HeritageFacts ExpressionFacts LinkFacts TellingBy ElementFacts PropertyNameFacts Telling Telling Telling TellingAs Telling Telling StatementFacts ClassFacts Telling Telling SubstitutionsFacts FunctionFacts MethodFacts BracketedFacts ElementsFacts NextElementFacts BlockFacts Telling Telling Telling class_element_step heritage_step expression_step link_step concise_body_step element_step property_name_step case_clause_step else_step finalizer_step for_start_step handler_step maybe_expression_step statement_step class_step operand_step substitution_step substitutions_step function_step method_step bracketed_step elements_step next_element_step block_step declaration_step else_if_step if_clause_step (ConciseBody-F.ConciseBlock block))

pub is_Hole : (y : Element) (text : List ℕ) (setting : Setting) (place : Place) → y ≡ el.Hole → breaches_of_element y text setting place ≡ together ([])
unfolding facts_of_element breaches_of_element shape_of_element
is_Hole y text setting place h = ap (λ z. breaches_of_element z text setting place) h ∙ ap (λ f. f.breaches text setting place) (ap facts_of_element (sym (el.rolls-Hole)) ∙ fold-roll-Element ClassElementFacts HeritageFacts ExpressionFacts LinkFacts TellingBy ElementFacts PropertyNameFacts Telling Telling Telling TellingAs Telling Telling StatementFacts ClassFacts Telling Telling SubstitutionsFacts FunctionFacts MethodFacts BracketedFacts ElementsFacts NextElementFacts BlockFacts Telling Telling Telling class_element_step heritage_step expression_step link_step concise_body_step element_step property_name_step case_clause_step else_step finalizer_step for_start_step handler_step maybe_expression_step statement_step class_step operand_step substitution_step substitutions_step function_step method_step bracketed_step elements_step next_element_step block_step declaration_step else_if_step if_clause_step (Element-F.Hole))

pub shape_Hole : (y : Element) → y ≡ el.Hole → shape_of_element y ≡ hole_shape
unfolding facts_of_element breaches_of_element shape_of_element
shape_Hole y h = ap shape_of_element h ∙ ap (λ f. f.shape) (ap facts_of_element (sym (el.rolls-Hole)) ∙ fold-roll-Element ClassElementFacts HeritageFacts ExpressionFacts LinkFacts TellingBy ElementFacts PropertyNameFacts Telling Telling Telling TellingAs Telling Telling StatementFacts ClassFacts Telling Telling SubstitutionsFacts FunctionFacts MethodFacts BracketedFacts ElementsFacts NextElementFacts BlockFacts Telling Telling Telling class_element_step heritage_step expression_step link_step concise_body_step element_step property_name_step case_clause_step else_step finalizer_step for_start_step handler_step maybe_expression_step statement_step class_step operand_step substitution_step substitutions_step function_step method_step bracketed_step elements_step next_element_step block_step declaration_step else_if_step if_clause_step (Element-F.Hole))

pub names_Hole : (y : Element) → y ≡ el.Hole → names_of_element y ≡ []
unfolding facts_of_element breaches_of_element shape_of_element names_of_element
names_Hole y h = ap names_of_element h ∙ ap (λ f. f.names) (ap facts_of_element (sym (el.rolls-Hole)) ∙ fold-roll-Element ClassElementFacts HeritageFacts ExpressionFacts LinkFacts TellingBy ElementFacts PropertyNameFacts Telling Telling Telling TellingAs Telling Telling StatementFacts ClassFacts Telling Telling SubstitutionsFacts FunctionFacts MethodFacts BracketedFacts ElementsFacts NextElementFacts BlockFacts Telling Telling Telling class_element_step heritage_step expression_step link_step concise_body_step element_step property_name_step case_clause_step else_step finalizer_step for_start_step handler_step maybe_expression_step statement_step class_step operand_step substitution_step substitutions_step function_step method_step bracketed_step elements_step next_element_step block_step declaration_step else_if_step if_clause_step (Element-F.Hole))

pub is_Value : (y : Element) (x : Expression) (text : List ℕ) (setting : Setting) (place : Place) → y ≡ el.Value x → breaches_of_element y text setting place ≡ breaches_of_expression x text setting (element_role place)
unfolding facts_of_element breaches_of_element shape_of_element facts_of_expression breaches_of_expression shape_of_expression
is_Value y x text setting place h = ap (λ z. breaches_of_element z text setting place) h ∙ ap (λ f. f.breaches text setting place) (ap facts_of_element (sym (el.rolls-Value x)) ∙ fold-roll-Element ClassElementFacts HeritageFacts ExpressionFacts LinkFacts TellingBy ElementFacts PropertyNameFacts Telling Telling Telling TellingAs Telling Telling StatementFacts ClassFacts Telling Telling SubstitutionsFacts FunctionFacts MethodFacts BracketedFacts ElementsFacts NextElementFacts BlockFacts Telling Telling Telling class_element_step heritage_step expression_step link_step concise_body_step element_step property_name_step case_clause_step else_step finalizer_step for_start_step handler_step maybe_expression_step statement_step class_step operand_step substitution_step substitutions_step function_step method_step bracketed_step elements_step next_element_step block_step declaration_step else_if_step if_clause_step (Element-F.Value x))

pub shape_Value : (y : Element) (x : Expression) → y ≡ el.Value x → shape_of_element y ≡ value_shape (shape_of_expression x)
unfolding facts_of_element breaches_of_element shape_of_element facts_of_expression breaches_of_expression shape_of_expression
shape_Value y x h = ap shape_of_element h ∙ ap (λ f. f.shape) (ap facts_of_element (sym (el.rolls-Value x)) ∙ fold-roll-Element ClassElementFacts HeritageFacts ExpressionFacts LinkFacts TellingBy ElementFacts PropertyNameFacts Telling Telling Telling TellingAs Telling Telling StatementFacts ClassFacts Telling Telling SubstitutionsFacts FunctionFacts MethodFacts BracketedFacts ElementsFacts NextElementFacts BlockFacts Telling Telling Telling class_element_step heritage_step expression_step link_step concise_body_step element_step property_name_step case_clause_step else_step finalizer_step for_start_step handler_step maybe_expression_step statement_step class_step operand_step substitution_step substitutions_step function_step method_step bracketed_step elements_step next_element_step block_step declaration_step else_if_step if_clause_step (Element-F.Value x))

pub names_Value : (y : Element) (x : Expression) → y ≡ el.Value x → names_of_element y ≡ names_of_expression x
unfolding facts_of_element breaches_of_element shape_of_element names_of_element facts_of_expression breaches_of_expression shape_of_expression names_of_expression
names_Value y x h = ap names_of_element h ∙ ap (λ f. f.names) (ap facts_of_element (sym (el.rolls-Value x)) ∙ fold-roll-Element ClassElementFacts HeritageFacts ExpressionFacts LinkFacts TellingBy ElementFacts PropertyNameFacts Telling Telling Telling TellingAs Telling Telling StatementFacts ClassFacts Telling Telling SubstitutionsFacts FunctionFacts MethodFacts BracketedFacts ElementsFacts NextElementFacts BlockFacts Telling Telling Telling class_element_step heritage_step expression_step link_step concise_body_step element_step property_name_step case_clause_step else_step finalizer_step for_start_step handler_step maybe_expression_step statement_step class_step operand_step substitution_step substitutions_step function_step method_step bracketed_step elements_step next_element_step block_step declaration_step else_if_step if_clause_step (Element-F.Value x))

pub is_Spread : (y : Element) (dots : Token) (x : Expression) (text : List ℕ) (setting : Setting) (place : Place) → y ≡ el.Spread dots x → breaches_of_element y text setting place ≡ together (breaches_of_expression x text setting (spread_role place) ∷ spread_breaches place ∷ [])
unfolding facts_of_element breaches_of_element shape_of_element facts_of_expression breaches_of_expression shape_of_expression
is_Spread y dots x text setting place h = ap (λ z. breaches_of_element z text setting place) h ∙ ap (λ f. f.breaches text setting place) (ap facts_of_element (sym (el.rolls-Spread dots x)) ∙ fold-roll-Element ClassElementFacts HeritageFacts ExpressionFacts LinkFacts TellingBy ElementFacts PropertyNameFacts Telling Telling Telling TellingAs Telling Telling StatementFacts ClassFacts Telling Telling SubstitutionsFacts FunctionFacts MethodFacts BracketedFacts ElementsFacts NextElementFacts BlockFacts Telling Telling Telling class_element_step heritage_step expression_step link_step concise_body_step element_step property_name_step case_clause_step else_step finalizer_step for_start_step handler_step maybe_expression_step statement_step class_step operand_step substitution_step substitutions_step function_step method_step bracketed_step elements_step next_element_step block_step declaration_step else_if_step if_clause_step (Element-F.Spread dots x))

pub shape_Spread : (y : Element) (dots : Token) (x : Expression) → y ≡ el.Spread dots x → shape_of_element y ≡ other_element
unfolding facts_of_element breaches_of_element shape_of_element facts_of_expression breaches_of_expression shape_of_expression
shape_Spread y dots x h = ap shape_of_element h ∙ ap (λ f. f.shape) (ap facts_of_element (sym (el.rolls-Spread dots x)) ∙ fold-roll-Element ClassElementFacts HeritageFacts ExpressionFacts LinkFacts TellingBy ElementFacts PropertyNameFacts Telling Telling Telling TellingAs Telling Telling StatementFacts ClassFacts Telling Telling SubstitutionsFacts FunctionFacts MethodFacts BracketedFacts ElementsFacts NextElementFacts BlockFacts Telling Telling Telling class_element_step heritage_step expression_step link_step concise_body_step element_step property_name_step case_clause_step else_step finalizer_step for_start_step handler_step maybe_expression_step statement_step class_step operand_step substitution_step substitutions_step function_step method_step bracketed_step elements_step next_element_step block_step declaration_step else_if_step if_clause_step (Element-F.Spread dots x))

pub names_Spread : (y : Element) (dots : Token) (x : Expression) → y ≡ el.Spread dots x → names_of_element y ≡ names_of_expression x
unfolding facts_of_element breaches_of_element shape_of_element names_of_element facts_of_expression breaches_of_expression shape_of_expression names_of_expression
names_Spread y dots x h = ap names_of_element h ∙ ap (λ f. f.names) (ap facts_of_element (sym (el.rolls-Spread dots x)) ∙ fold-roll-Element ClassElementFacts HeritageFacts ExpressionFacts LinkFacts TellingBy ElementFacts PropertyNameFacts Telling Telling Telling TellingAs Telling Telling StatementFacts ClassFacts Telling Telling SubstitutionsFacts FunctionFacts MethodFacts BracketedFacts ElementsFacts NextElementFacts BlockFacts Telling Telling Telling class_element_step heritage_step expression_step link_step concise_body_step element_step property_name_step case_clause_step else_step finalizer_step for_start_step handler_step maybe_expression_step statement_step class_step operand_step substitution_step substitutions_step function_step method_step bracketed_step elements_step next_element_step block_step declaration_step else_if_step if_clause_step (Element-F.Spread dots x))

pub is_Shorthand : (y : Element) (name : Token) (text : List ℕ) (setting : Setting) (place : Place) → y ≡ el.Shorthand name → breaches_of_element y text setting place ≡ shorthand_breaches text name place
unfolding facts_of_element breaches_of_element shape_of_element
is_Shorthand y name text setting place h = ap (λ z. breaches_of_element z text setting place) h ∙ ap (λ f. f.breaches text setting place) (ap facts_of_element (sym (el.rolls-Shorthand name)) ∙ fold-roll-Element ClassElementFacts HeritageFacts ExpressionFacts LinkFacts TellingBy ElementFacts PropertyNameFacts Telling Telling Telling TellingAs Telling Telling StatementFacts ClassFacts Telling Telling SubstitutionsFacts FunctionFacts MethodFacts BracketedFacts ElementsFacts NextElementFacts BlockFacts Telling Telling Telling class_element_step heritage_step expression_step link_step concise_body_step element_step property_name_step case_clause_step else_step finalizer_step for_start_step handler_step maybe_expression_step statement_step class_step operand_step substitution_step substitutions_step function_step method_step bracketed_step elements_step next_element_step block_step declaration_step else_if_step if_clause_step (Element-F.Shorthand name))

pub shape_Shorthand : (y : Element) (name : Token) → y ≡ el.Shorthand name → shape_of_element y ≡ other_element
unfolding facts_of_element breaches_of_element shape_of_element
shape_Shorthand y name h = ap shape_of_element h ∙ ap (λ f. f.shape) (ap facts_of_element (sym (el.rolls-Shorthand name)) ∙ fold-roll-Element ClassElementFacts HeritageFacts ExpressionFacts LinkFacts TellingBy ElementFacts PropertyNameFacts Telling Telling Telling TellingAs Telling Telling StatementFacts ClassFacts Telling Telling SubstitutionsFacts FunctionFacts MethodFacts BracketedFacts ElementsFacts NextElementFacts BlockFacts Telling Telling Telling class_element_step heritage_step expression_step link_step concise_body_step element_step property_name_step case_clause_step else_step finalizer_step for_start_step handler_step maybe_expression_step statement_step class_step operand_step substitution_step substitutions_step function_step method_step bracketed_step elements_step next_element_step block_step declaration_step else_if_step if_clause_step (Element-F.Shorthand name))

pub names_Shorthand : (y : Element) (name : Token) → y ≡ el.Shorthand name → names_of_element y ≡ name ∷ []
unfolding facts_of_element breaches_of_element shape_of_element names_of_element
names_Shorthand y name h = ap names_of_element h ∙ ap (λ f. f.names) (ap facts_of_element (sym (el.rolls-Shorthand name)) ∙ fold-roll-Element ClassElementFacts HeritageFacts ExpressionFacts LinkFacts TellingBy ElementFacts PropertyNameFacts Telling Telling Telling TellingAs Telling Telling StatementFacts ClassFacts Telling Telling SubstitutionsFacts FunctionFacts MethodFacts BracketedFacts ElementsFacts NextElementFacts BlockFacts Telling Telling Telling class_element_step heritage_step expression_step link_step concise_body_step element_step property_name_step case_clause_step else_step finalizer_step for_start_step handler_step maybe_expression_step statement_step class_step operand_step substitution_step substitutions_step function_step method_step bracketed_step elements_step next_element_step block_step declaration_step else_if_step if_clause_step (Element-F.Shorthand name))

pub is_Initialized : (y : Element) (name : Token) (sign : Token) (x : Expression) (text : List ℕ) (setting : Setting) (place : Place) → y ≡ el.Initialized name sign x → breaches_of_element y text setting place ≡ together (breaches_of_expression x text setting r.Value ∷ initialized_breaches text name sign place ∷ [])
unfolding facts_of_element breaches_of_element shape_of_element facts_of_expression breaches_of_expression shape_of_expression
is_Initialized y name sign x text setting place h = ap (λ z. breaches_of_element z text setting place) h ∙ ap (λ f. f.breaches text setting place) (ap facts_of_element (sym (el.rolls-Initialized name sign x)) ∙ fold-roll-Element ClassElementFacts HeritageFacts ExpressionFacts LinkFacts TellingBy ElementFacts PropertyNameFacts Telling Telling Telling TellingAs Telling Telling StatementFacts ClassFacts Telling Telling SubstitutionsFacts FunctionFacts MethodFacts BracketedFacts ElementsFacts NextElementFacts BlockFacts Telling Telling Telling class_element_step heritage_step expression_step link_step concise_body_step element_step property_name_step case_clause_step else_step finalizer_step for_start_step handler_step maybe_expression_step statement_step class_step operand_step substitution_step substitutions_step function_step method_step bracketed_step elements_step next_element_step block_step declaration_step else_if_step if_clause_step (Element-F.Initialized name sign x))

pub shape_Initialized : (y : Element) (name : Token) (sign : Token) (x : Expression) → y ≡ el.Initialized name sign x → shape_of_element y ≡ other_element
unfolding facts_of_element breaches_of_element shape_of_element facts_of_expression breaches_of_expression shape_of_expression
shape_Initialized y name sign x h = ap shape_of_element h ∙ ap (λ f. f.shape) (ap facts_of_element (sym (el.rolls-Initialized name sign x)) ∙ fold-roll-Element ClassElementFacts HeritageFacts ExpressionFacts LinkFacts TellingBy ElementFacts PropertyNameFacts Telling Telling Telling TellingAs Telling Telling StatementFacts ClassFacts Telling Telling SubstitutionsFacts FunctionFacts MethodFacts BracketedFacts ElementsFacts NextElementFacts BlockFacts Telling Telling Telling class_element_step heritage_step expression_step link_step concise_body_step element_step property_name_step case_clause_step else_step finalizer_step for_start_step handler_step maybe_expression_step statement_step class_step operand_step substitution_step substitutions_step function_step method_step bracketed_step elements_step next_element_step block_step declaration_step else_if_step if_clause_step (Element-F.Initialized name sign x))

pub names_Initialized : (y : Element) (name : Token) (sign : Token) (x : Expression) → y ≡ el.Initialized name sign x → names_of_element y ≡ name ∷ []
unfolding facts_of_element breaches_of_element shape_of_element names_of_element facts_of_expression breaches_of_expression shape_of_expression names_of_expression
names_Initialized y name sign x h = ap names_of_element h ∙ ap (λ f. f.names) (ap facts_of_element (sym (el.rolls-Initialized name sign x)) ∙ fold-roll-Element ClassElementFacts HeritageFacts ExpressionFacts LinkFacts TellingBy ElementFacts PropertyNameFacts Telling Telling Telling TellingAs Telling Telling StatementFacts ClassFacts Telling Telling SubstitutionsFacts FunctionFacts MethodFacts BracketedFacts ElementsFacts NextElementFacts BlockFacts Telling Telling Telling class_element_step heritage_step expression_step link_step concise_body_step element_step property_name_step case_clause_step else_step finalizer_step for_start_step handler_step maybe_expression_step statement_step class_step operand_step substitution_step substitutions_step function_step method_step bracketed_step elements_step next_element_step block_step declaration_step else_if_step if_clause_step (Element-F.Initialized name sign x))

pub is_Property : (y : Element) (name : PropertyName) (colon : Token) (x : Expression) (text : List ℕ) (setting : Setting) (place : Place) → y ≡ el.Property name colon x → breaches_of_element y text setting place ≡ together (breaches_of_property_name name text setting ∷ breaches_of_expression x text setting (element_role place) ∷ [])
unfolding facts_of_element breaches_of_element shape_of_element facts_of_property_name breaches_of_property_name shape_of_property_name facts_of_expression breaches_of_expression shape_of_expression
is_Property y name colon x text setting place h = ap (λ z. breaches_of_element z text setting place) h ∙ ap (λ f. f.breaches text setting place) (ap facts_of_element (sym (el.rolls-Property name colon x)) ∙ fold-roll-Element ClassElementFacts HeritageFacts ExpressionFacts LinkFacts TellingBy ElementFacts PropertyNameFacts Telling Telling Telling TellingAs Telling Telling StatementFacts ClassFacts Telling Telling SubstitutionsFacts FunctionFacts MethodFacts BracketedFacts ElementsFacts NextElementFacts BlockFacts Telling Telling Telling class_element_step heritage_step expression_step link_step concise_body_step element_step property_name_step case_clause_step else_step finalizer_step for_start_step handler_step maybe_expression_step statement_step class_step operand_step substitution_step substitutions_step function_step method_step bracketed_step elements_step next_element_step block_step declaration_step else_if_step if_clause_step (Element-F.Property name colon x))

pub shape_Property : (y : Element) (name : PropertyName) (colon : Token) (x : Expression) → y ≡ el.Property name colon x → shape_of_element y ≡ property_element (shape_of_property_name name).key
unfolding facts_of_element breaches_of_element shape_of_element facts_of_property_name breaches_of_property_name shape_of_property_name facts_of_expression breaches_of_expression shape_of_expression
shape_Property y name colon x h = ap shape_of_element h ∙ ap (λ f. f.shape) (ap facts_of_element (sym (el.rolls-Property name colon x)) ∙ fold-roll-Element ClassElementFacts HeritageFacts ExpressionFacts LinkFacts TellingBy ElementFacts PropertyNameFacts Telling Telling Telling TellingAs Telling Telling StatementFacts ClassFacts Telling Telling SubstitutionsFacts FunctionFacts MethodFacts BracketedFacts ElementsFacts NextElementFacts BlockFacts Telling Telling Telling class_element_step heritage_step expression_step link_step concise_body_step element_step property_name_step case_clause_step else_step finalizer_step for_start_step handler_step maybe_expression_step statement_step class_step operand_step substitution_step substitutions_step function_step method_step bracketed_step elements_step next_element_step block_step declaration_step else_if_step if_clause_step (Element-F.Property name colon x))

pub names_Property : (y : Element) (name : PropertyName) (colon : Token) (x : Expression) → y ≡ el.Property name colon x → names_of_element y ≡ names_of_expression x
unfolding facts_of_element breaches_of_element shape_of_element names_of_element facts_of_property_name breaches_of_property_name shape_of_property_name facts_of_expression breaches_of_expression shape_of_expression names_of_expression
names_Property y name colon x h = ap names_of_element h ∙ ap (λ f. f.names) (ap facts_of_element (sym (el.rolls-Property name colon x)) ∙ fold-roll-Element ClassElementFacts HeritageFacts ExpressionFacts LinkFacts TellingBy ElementFacts PropertyNameFacts Telling Telling Telling TellingAs Telling Telling StatementFacts ClassFacts Telling Telling SubstitutionsFacts FunctionFacts MethodFacts BracketedFacts ElementsFacts NextElementFacts BlockFacts Telling Telling Telling class_element_step heritage_step expression_step link_step concise_body_step element_step property_name_step case_clause_step else_step finalizer_step for_start_step handler_step maybe_expression_step statement_step class_step operand_step substitution_step substitutions_step function_step method_step bracketed_step elements_step next_element_step block_step declaration_step else_if_step if_clause_step (Element-F.Property name colon x))

pub is_MethodProperty : (y : Element) (method : Method) (text : List ℕ) (setting : Setting) (place : Place) → y ≡ el.MethodProperty method → breaches_of_element y text setting place ≡ together (breaches_of_method method text setting false false ∷ method_property_breaches place ∷ [])
unfolding facts_of_element breaches_of_element shape_of_element facts_of_method breaches_of_method shape_of_method
is_MethodProperty y method text setting place h = ap (λ z. breaches_of_element z text setting place) h ∙ ap (λ f. f.breaches text setting place) (ap facts_of_element (sym (el.rolls-MethodProperty method)) ∙ fold-roll-Element ClassElementFacts HeritageFacts ExpressionFacts LinkFacts TellingBy ElementFacts PropertyNameFacts Telling Telling Telling TellingAs Telling Telling StatementFacts ClassFacts Telling Telling SubstitutionsFacts FunctionFacts MethodFacts BracketedFacts ElementsFacts NextElementFacts BlockFacts Telling Telling Telling class_element_step heritage_step expression_step link_step concise_body_step element_step property_name_step case_clause_step else_step finalizer_step for_start_step handler_step maybe_expression_step statement_step class_step operand_step substitution_step substitutions_step function_step method_step bracketed_step elements_step next_element_step block_step declaration_step else_if_step if_clause_step (Element-F.MethodProperty method))

pub shape_MethodProperty : (y : Element) (method : Method) → y ≡ el.MethodProperty method → shape_of_element y ≡ other_element
unfolding facts_of_element breaches_of_element shape_of_element facts_of_method breaches_of_method shape_of_method
shape_MethodProperty y method h = ap shape_of_element h ∙ ap (λ f. f.shape) (ap facts_of_element (sym (el.rolls-MethodProperty method)) ∙ fold-roll-Element ClassElementFacts HeritageFacts ExpressionFacts LinkFacts TellingBy ElementFacts PropertyNameFacts Telling Telling Telling TellingAs Telling Telling StatementFacts ClassFacts Telling Telling SubstitutionsFacts FunctionFacts MethodFacts BracketedFacts ElementsFacts NextElementFacts BlockFacts Telling Telling Telling class_element_step heritage_step expression_step link_step concise_body_step element_step property_name_step case_clause_step else_step finalizer_step for_start_step handler_step maybe_expression_step statement_step class_step operand_step substitution_step substitutions_step function_step method_step bracketed_step elements_step next_element_step block_step declaration_step else_if_step if_clause_step (Element-F.MethodProperty method))

pub names_MethodProperty : (y : Element) (method : Method) → y ≡ el.MethodProperty method → names_of_element y ≡ []
unfolding facts_of_element breaches_of_element shape_of_element names_of_element facts_of_method breaches_of_method shape_of_method
names_MethodProperty y method h = ap names_of_element h ∙ ap (λ f. f.names) (ap facts_of_element (sym (el.rolls-MethodProperty method)) ∙ fold-roll-Element ClassElementFacts HeritageFacts ExpressionFacts LinkFacts TellingBy ElementFacts PropertyNameFacts Telling Telling Telling TellingAs Telling Telling StatementFacts ClassFacts Telling Telling SubstitutionsFacts FunctionFacts MethodFacts BracketedFacts ElementsFacts NextElementFacts BlockFacts Telling Telling Telling class_element_step heritage_step expression_step link_step concise_body_step element_step property_name_step case_clause_step else_step finalizer_step for_start_step handler_step maybe_expression_step statement_step class_step operand_step substitution_step substitutions_step function_step method_step bracketed_step elements_step next_element_step block_step declaration_step else_if_step if_clause_step (Element-F.MethodProperty method))

pub is_Named : (y : PropertyName) (name : Token) (text : List ℕ) (setting : Setting) → y ≡ pn.Named name → breaches_of_property_name y text setting ≡ together ([])
unfolding facts_of_property_name breaches_of_property_name shape_of_property_name
is_Named y name text setting h = ap (λ z. breaches_of_property_name z text setting) h ∙ ap (λ f. f.breaches text setting) (ap facts_of_property_name (sym (pn.rolls-Named name)) ∙ fold-roll-PropertyName ClassElementFacts HeritageFacts ExpressionFacts LinkFacts TellingBy ElementFacts PropertyNameFacts Telling Telling Telling TellingAs Telling Telling StatementFacts ClassFacts Telling Telling SubstitutionsFacts FunctionFacts MethodFacts BracketedFacts ElementsFacts NextElementFacts BlockFacts Telling Telling Telling class_element_step heritage_step expression_step link_step concise_body_step element_step property_name_step case_clause_step else_step finalizer_step for_start_step handler_step maybe_expression_step statement_step class_step operand_step substitution_step substitutions_step function_step method_step bracketed_step elements_step next_element_step block_step declaration_step else_if_step if_clause_step (PropertyName-F.Named name))

pub shape_Named : (y : PropertyName) (name : Token) → y ≡ pn.Named name → shape_of_property_name y ≡ named_shape name
unfolding facts_of_property_name breaches_of_property_name shape_of_property_name
shape_Named y name h = ap shape_of_property_name h ∙ ap (λ f. f.shape) (ap facts_of_property_name (sym (pn.rolls-Named name)) ∙ fold-roll-PropertyName ClassElementFacts HeritageFacts ExpressionFacts LinkFacts TellingBy ElementFacts PropertyNameFacts Telling Telling Telling TellingAs Telling Telling StatementFacts ClassFacts Telling Telling SubstitutionsFacts FunctionFacts MethodFacts BracketedFacts ElementsFacts NextElementFacts BlockFacts Telling Telling Telling class_element_step heritage_step expression_step link_step concise_body_step element_step property_name_step case_clause_step else_step finalizer_step for_start_step handler_step maybe_expression_step statement_step class_step operand_step substitution_step substitutions_step function_step method_step bracketed_step elements_step next_element_step block_step declaration_step else_if_step if_clause_step (PropertyName-F.Named name))

pub is_Computed : (y : PropertyName) (begin : Token) (x : Expression) (ending : Token) (text : List ℕ) (setting : Setting) → y ≡ pn.Computed begin x ending → breaches_of_property_name y text setting ≡ breaches_of_expression x text setting r.Value
unfolding facts_of_property_name breaches_of_property_name shape_of_property_name facts_of_expression breaches_of_expression shape_of_expression
is_Computed y begin x ending text setting h = ap (λ z. breaches_of_property_name z text setting) h ∙ ap (λ f. f.breaches text setting) (ap facts_of_property_name (sym (pn.rolls-Computed begin x ending)) ∙ fold-roll-PropertyName ClassElementFacts HeritageFacts ExpressionFacts LinkFacts TellingBy ElementFacts PropertyNameFacts Telling Telling Telling TellingAs Telling Telling StatementFacts ClassFacts Telling Telling SubstitutionsFacts FunctionFacts MethodFacts BracketedFacts ElementsFacts NextElementFacts BlockFacts Telling Telling Telling class_element_step heritage_step expression_step link_step concise_body_step element_step property_name_step case_clause_step else_step finalizer_step for_start_step handler_step maybe_expression_step statement_step class_step operand_step substitution_step substitutions_step function_step method_step bracketed_step elements_step next_element_step block_step declaration_step else_if_step if_clause_step (PropertyName-F.Computed begin x ending))

pub shape_Computed : (y : PropertyName) (begin : Token) (x : Expression) (ending : Token) → y ≡ pn.Computed begin x ending → shape_of_property_name y ≡ computed_shape begin
unfolding facts_of_property_name breaches_of_property_name shape_of_property_name facts_of_expression breaches_of_expression shape_of_expression
shape_Computed y begin x ending h = ap shape_of_property_name h ∙ ap (λ f. f.shape) (ap facts_of_property_name (sym (pn.rolls-Computed begin x ending)) ∙ fold-roll-PropertyName ClassElementFacts HeritageFacts ExpressionFacts LinkFacts TellingBy ElementFacts PropertyNameFacts Telling Telling Telling TellingAs Telling Telling StatementFacts ClassFacts Telling Telling SubstitutionsFacts FunctionFacts MethodFacts BracketedFacts ElementsFacts NextElementFacts BlockFacts Telling Telling Telling class_element_step heritage_step expression_step link_step concise_body_step element_step property_name_step case_clause_step else_step finalizer_step for_start_step handler_step maybe_expression_step statement_step class_step operand_step substitution_step substitutions_step function_step method_step bracketed_step elements_step next_element_step block_step declaration_step else_if_step if_clause_step (PropertyName-F.Computed begin x ending))

pub is_Case : (y : CaseClause) (word : Token) (x : Expression) (colon : Token) (body : List Statement) (text : List ℕ) (setting : Setting) → y ≡ cc.Case word x colon body → breaches_of_case_clause y text setting ≡ together (breaches_of_expression x text setting r.Value ∷ each text setting (map (λ f. f.breaches) (map facts_of_statement body)) ∷ [])
unfolding breaches_of_case_clause facts_of_expression breaches_of_expression shape_of_expression facts_of_statement breaches_of_statement is_loop_of_statement directive_of_statement
is_Case y word x colon body text setting h = ap (λ z. breaches_of_case_clause z text setting) h ∙ ap (λ f. f text setting) (ap breaches_of_case_clause (sym (cc.rolls-Case word x colon body)) ∙ fold-roll-CaseClause ClassElementFacts HeritageFacts ExpressionFacts LinkFacts TellingBy ElementFacts PropertyNameFacts Telling Telling Telling TellingAs Telling Telling StatementFacts ClassFacts Telling Telling SubstitutionsFacts FunctionFacts MethodFacts BracketedFacts ElementsFacts NextElementFacts BlockFacts Telling Telling Telling class_element_step heritage_step expression_step link_step concise_body_step element_step property_name_step case_clause_step else_step finalizer_step for_start_step handler_step maybe_expression_step statement_step class_step operand_step substitution_step substitutions_step function_step method_step bracketed_step elements_step next_element_step block_step declaration_step else_if_step if_clause_step (CaseClause-F.Case word x colon body))

pub is_Default : (y : CaseClause) (word : Token) (colon : Token) (body : List Statement) (text : List ℕ) (setting : Setting) → y ≡ cc.Default word colon body → breaches_of_case_clause y text setting ≡ each text setting (map (λ f. f.breaches) (map facts_of_statement body))
unfolding breaches_of_case_clause facts_of_statement breaches_of_statement is_loop_of_statement directive_of_statement
is_Default y word colon body text setting h = ap (λ z. breaches_of_case_clause z text setting) h ∙ ap (λ f. f text setting) (ap breaches_of_case_clause (sym (cc.rolls-Default word colon body)) ∙ fold-roll-CaseClause ClassElementFacts HeritageFacts ExpressionFacts LinkFacts TellingBy ElementFacts PropertyNameFacts Telling Telling Telling TellingAs Telling Telling StatementFacts ClassFacts Telling Telling SubstitutionsFacts FunctionFacts MethodFacts BracketedFacts ElementsFacts NextElementFacts BlockFacts Telling Telling Telling class_element_step heritage_step expression_step link_step concise_body_step element_step property_name_step case_clause_step else_step finalizer_step for_start_step handler_step maybe_expression_step statement_step class_step operand_step substitution_step substitutions_step function_step method_step bracketed_step elements_step next_element_step block_step declaration_step else_if_step if_clause_step (CaseClause-F.Default word colon body))

pub is_NoElse : (y : Else) (text : List ℕ) (setting : Setting) → y ≡ ot.NoElse → breaches_of_else y text setting ≡ together ([])
unfolding breaches_of_else
is_NoElse y text setting h = ap (λ z. breaches_of_else z text setting) h ∙ ap (λ f. f text setting) (ap breaches_of_else (sym (ot.rolls-NoElse)) ∙ fold-roll-Else ClassElementFacts HeritageFacts ExpressionFacts LinkFacts TellingBy ElementFacts PropertyNameFacts Telling Telling Telling TellingAs Telling Telling StatementFacts ClassFacts Telling Telling SubstitutionsFacts FunctionFacts MethodFacts BracketedFacts ElementsFacts NextElementFacts BlockFacts Telling Telling Telling class_element_step heritage_step expression_step link_step concise_body_step element_step property_name_step case_clause_step else_step finalizer_step for_start_step handler_step maybe_expression_step statement_step class_step operand_step substitution_step substitutions_step function_step method_step bracketed_step elements_step next_element_step block_step declaration_step else_if_step if_clause_step (Else-F.NoElse))

pub is_Otherwise : (y : Else) (word : Token) (body : Statement) (text : List ℕ) (setting : Setting) → y ≡ ot.Otherwise word body → breaches_of_else y text setting ≡ breaches_of_statement body text setting
unfolding breaches_of_else facts_of_statement breaches_of_statement is_loop_of_statement directive_of_statement
is_Otherwise y word body text setting h = ap (λ z. breaches_of_else z text setting) h ∙ ap (λ f. f text setting) (ap breaches_of_else (sym (ot.rolls-Otherwise word body)) ∙ fold-roll-Else ClassElementFacts HeritageFacts ExpressionFacts LinkFacts TellingBy ElementFacts PropertyNameFacts Telling Telling Telling TellingAs Telling Telling StatementFacts ClassFacts Telling Telling SubstitutionsFacts FunctionFacts MethodFacts BracketedFacts ElementsFacts NextElementFacts BlockFacts Telling Telling Telling class_element_step heritage_step expression_step link_step concise_body_step element_step property_name_step case_clause_step else_step finalizer_step for_start_step handler_step maybe_expression_step statement_step class_step operand_step substitution_step substitutions_step function_step method_step bracketed_step elements_step next_element_step block_step declaration_step else_if_step if_clause_step (Else-F.Otherwise word body))

pub is_NoFinalizer : (y : Finalizer) (text : List ℕ) (setting : Setting) → y ≡ fi.NoFinalizer → breaches_of_finalizer y text setting ≡ together ([])
unfolding breaches_of_finalizer
is_NoFinalizer y text setting h = ap (λ z. breaches_of_finalizer z text setting) h ∙ ap (λ f. f text setting) (ap breaches_of_finalizer (sym (fi.rolls-NoFinalizer)) ∙ fold-roll-Finalizer ClassElementFacts HeritageFacts ExpressionFacts LinkFacts TellingBy ElementFacts PropertyNameFacts Telling Telling Telling TellingAs Telling Telling StatementFacts ClassFacts Telling Telling SubstitutionsFacts FunctionFacts MethodFacts BracketedFacts ElementsFacts NextElementFacts BlockFacts Telling Telling Telling class_element_step heritage_step expression_step link_step concise_body_step element_step property_name_step case_clause_step else_step finalizer_step for_start_step handler_step maybe_expression_step statement_step class_step operand_step substitution_step substitutions_step function_step method_step bracketed_step elements_step next_element_step block_step declaration_step else_if_step if_clause_step (Finalizer-F.NoFinalizer))

pub is_Finally : (y : Finalizer) (word : Token) (block : Block) (text : List ℕ) (setting : Setting) → y ≡ fi.Finally word block → breaches_of_finalizer y text setting ≡ breaches_of_block block text setting
unfolding breaches_of_finalizer facts_of_block breaches_of_block use_strict_of_block
is_Finally y word block text setting h = ap (λ z. breaches_of_finalizer z text setting) h ∙ ap (λ f. f text setting) (ap breaches_of_finalizer (sym (fi.rolls-Finally word block)) ∙ fold-roll-Finalizer ClassElementFacts HeritageFacts ExpressionFacts LinkFacts TellingBy ElementFacts PropertyNameFacts Telling Telling Telling TellingAs Telling Telling StatementFacts ClassFacts Telling Telling SubstitutionsFacts FunctionFacts MethodFacts BracketedFacts ElementsFacts NextElementFacts BlockFacts Telling Telling Telling class_element_step heritage_step expression_step link_step concise_body_step element_step property_name_step case_clause_step else_step finalizer_step for_start_step handler_step maybe_expression_step statement_step class_step operand_step substitution_step substitutions_step function_step method_step bracketed_step elements_step next_element_step block_step declaration_step else_if_step if_clause_step (Finalizer-F.Finally word block))

pub is_NoStart : (y : ForStart) (text : List ℕ) (setting : Setting) (role : Role) → y ≡ fs.NoStart → breaches_of_for_start y text setting role ≡ together ([])
unfolding breaches_of_for_start
is_NoStart y text setting role h = ap (λ z. breaches_of_for_start z text setting role) h ∙ ap (λ f. f text setting role) (ap breaches_of_for_start (sym (fs.rolls-NoStart)) ∙ fold-roll-ForStart ClassElementFacts HeritageFacts ExpressionFacts LinkFacts TellingBy ElementFacts PropertyNameFacts Telling Telling Telling TellingAs Telling Telling StatementFacts ClassFacts Telling Telling SubstitutionsFacts FunctionFacts MethodFacts BracketedFacts ElementsFacts NextElementFacts BlockFacts Telling Telling Telling class_element_step heritage_step expression_step link_step concise_body_step element_step property_name_step case_clause_step else_step finalizer_step for_start_step handler_step maybe_expression_step statement_step class_step operand_step substitution_step substitutions_step function_step method_step bracketed_step elements_step next_element_step block_step declaration_step else_if_step if_clause_step (ForStart-F.NoStart))

pub is_StartExpression : (y : ForStart) (x : Expression) (text : List ℕ) (setting : Setting) (role : Role) → y ≡ fs.StartExpression x → breaches_of_for_start y text setting role ≡ breaches_of_expression x text setting role
unfolding breaches_of_for_start facts_of_expression breaches_of_expression shape_of_expression
is_StartExpression y x text setting role h = ap (λ z. breaches_of_for_start z text setting role) h ∙ ap (λ f. f text setting role) (ap breaches_of_for_start (sym (fs.rolls-StartExpression x)) ∙ fold-roll-ForStart ClassElementFacts HeritageFacts ExpressionFacts LinkFacts TellingBy ElementFacts PropertyNameFacts Telling Telling Telling TellingAs Telling Telling StatementFacts ClassFacts Telling Telling SubstitutionsFacts FunctionFacts MethodFacts BracketedFacts ElementsFacts NextElementFacts BlockFacts Telling Telling Telling class_element_step heritage_step expression_step link_step concise_body_step element_step property_name_step case_clause_step else_step finalizer_step for_start_step handler_step maybe_expression_step statement_step class_step operand_step substitution_step substitutions_step function_step method_step bracketed_step elements_step next_element_step block_step declaration_step else_if_step if_clause_step (ForStart-F.StartExpression x))

pub is_StartDeclaration : (y : ForStart) (declaration : Declaration) (text : List ℕ) (setting : Setting) (role : Role) → y ≡ fs.StartDeclaration declaration → breaches_of_for_start y text setting role ≡ breaches_of_declaration declaration text setting
unfolding breaches_of_for_start breaches_of_declaration
is_StartDeclaration y declaration text setting role h = ap (λ z. breaches_of_for_start z text setting role) h ∙ ap (λ f. f text setting role) (ap breaches_of_for_start (sym (fs.rolls-StartDeclaration declaration)) ∙ fold-roll-ForStart ClassElementFacts HeritageFacts ExpressionFacts LinkFacts TellingBy ElementFacts PropertyNameFacts Telling Telling Telling TellingAs Telling Telling StatementFacts ClassFacts Telling Telling SubstitutionsFacts FunctionFacts MethodFacts BracketedFacts ElementsFacts NextElementFacts BlockFacts Telling Telling Telling class_element_step heritage_step expression_step link_step concise_body_step element_step property_name_step case_clause_step else_step finalizer_step for_start_step handler_step maybe_expression_step statement_step class_step operand_step substitution_step substitutions_step function_step method_step bracketed_step elements_step next_element_step block_step declaration_step else_if_step if_clause_step (ForStart-F.StartDeclaration declaration))

pub is_NoHandler : (y : Handler) (text : List ℕ) (setting : Setting) → y ≡ ha.NoHandler → breaches_of_handler y text setting ≡ together ([])
unfolding breaches_of_handler
is_NoHandler y text setting h = ap (λ z. breaches_of_handler z text setting) h ∙ ap (λ f. f text setting) (ap breaches_of_handler (sym (ha.rolls-NoHandler)) ∙ fold-roll-Handler ClassElementFacts HeritageFacts ExpressionFacts LinkFacts TellingBy ElementFacts PropertyNameFacts Telling Telling Telling TellingAs Telling Telling StatementFacts ClassFacts Telling Telling SubstitutionsFacts FunctionFacts MethodFacts BracketedFacts ElementsFacts NextElementFacts BlockFacts Telling Telling Telling class_element_step heritage_step expression_step link_step concise_body_step element_step property_name_step case_clause_step else_step finalizer_step for_start_step handler_step maybe_expression_step statement_step class_step operand_step substitution_step substitutions_step function_step method_step bracketed_step elements_step next_element_step block_step declaration_step else_if_step if_clause_step (Handler-F.NoHandler))

pub is_Catch : (y : Handler) (word : Token) (block : Block) (text : List ℕ) (setting : Setting) → y ≡ ha.Catch word block → breaches_of_handler y text setting ≡ breaches_of_block block text setting
unfolding breaches_of_handler facts_of_block breaches_of_block use_strict_of_block
is_Catch y word block text setting h = ap (λ z. breaches_of_handler z text setting) h ∙ ap (λ f. f text setting) (ap breaches_of_handler (sym (ha.rolls-Catch word block)) ∙ fold-roll-Handler ClassElementFacts HeritageFacts ExpressionFacts LinkFacts TellingBy ElementFacts PropertyNameFacts Telling Telling Telling TellingAs Telling Telling StatementFacts ClassFacts Telling Telling SubstitutionsFacts FunctionFacts MethodFacts BracketedFacts ElementsFacts NextElementFacts BlockFacts Telling Telling Telling class_element_step heritage_step expression_step link_step concise_body_step element_step property_name_step case_clause_step else_step finalizer_step for_start_step handler_step maybe_expression_step statement_step class_step operand_step substitution_step substitutions_step function_step method_step bracketed_step elements_step next_element_step block_step declaration_step else_if_step if_clause_step (Handler-F.Catch word block))

pub is_CatchParameter : (y : Handler) (word : Token) (begin : Token) (x : Expression) (ending : Token) (block : Block) (text : List ℕ) (setting : Setting) → y ≡ ha.CatchParameter word begin x ending block → breaches_of_handler y text setting ≡ together (breaches_of_expression x text setting r.Target ∷ breaches_of_block block text setting ∷ [])
unfolding breaches_of_handler facts_of_expression breaches_of_expression shape_of_expression facts_of_block breaches_of_block use_strict_of_block
is_CatchParameter y word begin x ending block text setting h = ap (λ z. breaches_of_handler z text setting) h ∙ ap (λ f. f text setting) (ap breaches_of_handler (sym (ha.rolls-CatchParameter word begin x ending block)) ∙ fold-roll-Handler ClassElementFacts HeritageFacts ExpressionFacts LinkFacts TellingBy ElementFacts PropertyNameFacts Telling Telling Telling TellingAs Telling Telling StatementFacts ClassFacts Telling Telling SubstitutionsFacts FunctionFacts MethodFacts BracketedFacts ElementsFacts NextElementFacts BlockFacts Telling Telling Telling class_element_step heritage_step expression_step link_step concise_body_step element_step property_name_step case_clause_step else_step finalizer_step for_start_step handler_step maybe_expression_step statement_step class_step operand_step substitution_step substitutions_step function_step method_step bracketed_step elements_step next_element_step block_step declaration_step else_if_step if_clause_step (Handler-F.CatchParameter word begin x ending block))

pub is_Absent : (y : MaybeExpression) (text : List ℕ) (setting : Setting) → y ≡ me.Absent → breaches_of_maybe_expression y text setting ≡ together ([])
unfolding breaches_of_maybe_expression
is_Absent y text setting h = ap (λ z. breaches_of_maybe_expression z text setting) h ∙ ap (λ f. f text setting) (ap breaches_of_maybe_expression (sym (me.rolls-Absent)) ∙ fold-roll-MaybeExpression ClassElementFacts HeritageFacts ExpressionFacts LinkFacts TellingBy ElementFacts PropertyNameFacts Telling Telling Telling TellingAs Telling Telling StatementFacts ClassFacts Telling Telling SubstitutionsFacts FunctionFacts MethodFacts BracketedFacts ElementsFacts NextElementFacts BlockFacts Telling Telling Telling class_element_step heritage_step expression_step link_step concise_body_step element_step property_name_step case_clause_step else_step finalizer_step for_start_step handler_step maybe_expression_step statement_step class_step operand_step substitution_step substitutions_step function_step method_step bracketed_step elements_step next_element_step block_step declaration_step else_if_step if_clause_step (MaybeExpression-F.Absent))

pub is_Present : (y : MaybeExpression) (x : Expression) (text : List ℕ) (setting : Setting) → y ≡ me.Present x → breaches_of_maybe_expression y text setting ≡ breaches_of_expression x text setting r.Value
unfolding breaches_of_maybe_expression facts_of_expression breaches_of_expression shape_of_expression
is_Present y x text setting h = ap (λ z. breaches_of_maybe_expression z text setting) h ∙ ap (λ f. f text setting) (ap breaches_of_maybe_expression (sym (me.rolls-Present x)) ∙ fold-roll-MaybeExpression ClassElementFacts HeritageFacts ExpressionFacts LinkFacts TellingBy ElementFacts PropertyNameFacts Telling Telling Telling TellingAs Telling Telling StatementFacts ClassFacts Telling Telling SubstitutionsFacts FunctionFacts MethodFacts BracketedFacts ElementsFacts NextElementFacts BlockFacts Telling Telling Telling class_element_step heritage_step expression_step link_step concise_body_step element_step property_name_step case_clause_step else_step finalizer_step for_start_step handler_step maybe_expression_step statement_step class_step operand_step substitution_step substitutions_step function_step method_step bracketed_step elements_step next_element_step block_step declaration_step else_if_step if_clause_step (MaybeExpression-F.Present x))

pub is_BlockStatement : (y : Statement) (block : Block) (text : List ℕ) (setting : Setting) → y ≡ s.BlockStatement block → breaches_of_statement y text setting ≡ breaches_of_block block text setting
unfolding facts_of_statement breaches_of_statement is_loop_of_statement directive_of_statement facts_of_block breaches_of_block use_strict_of_block
is_BlockStatement y block text setting h = ap (λ z. breaches_of_statement z text setting) h ∙ ap (λ f. f.breaches text setting) (ap facts_of_statement (sym (s.rolls-BlockStatement block)) ∙ fold-roll-Statement ClassElementFacts HeritageFacts ExpressionFacts LinkFacts TellingBy ElementFacts PropertyNameFacts Telling Telling Telling TellingAs Telling Telling StatementFacts ClassFacts Telling Telling SubstitutionsFacts FunctionFacts MethodFacts BracketedFacts ElementsFacts NextElementFacts BlockFacts Telling Telling Telling class_element_step heritage_step expression_step link_step concise_body_step element_step property_name_step case_clause_step else_step finalizer_step for_start_step handler_step maybe_expression_step statement_step class_step operand_step substitution_step substitutions_step function_step method_step bracketed_step elements_step next_element_step block_step declaration_step else_if_step if_clause_step (Statement-F.BlockStatement block))

pub loop_BlockStatement : (y : Statement) (block : Block) → y ≡ s.BlockStatement block → is_loop_of_statement y ≡ false
unfolding facts_of_statement is_loop_of_statement
loop_BlockStatement y block h = ap is_loop_of_statement h ∙ ap (λ f. f.is_loop) (ap facts_of_statement (sym (s.rolls-BlockStatement block)) ∙ fold-roll-Statement ClassElementFacts HeritageFacts ExpressionFacts LinkFacts TellingBy ElementFacts PropertyNameFacts Telling Telling Telling TellingAs Telling Telling StatementFacts ClassFacts Telling Telling SubstitutionsFacts FunctionFacts MethodFacts BracketedFacts ElementsFacts NextElementFacts BlockFacts Telling Telling Telling class_element_step heritage_step expression_step link_step concise_body_step element_step property_name_step case_clause_step else_step finalizer_step for_start_step handler_step maybe_expression_step statement_step class_step operand_step substitution_step substitutions_step function_step method_step bracketed_step elements_step next_element_step block_step declaration_step else_if_step if_clause_step (Statement-F.BlockStatement block))

pub directive_BlockStatement : (y : Statement) (block : Block) → y ≡ s.BlockStatement block → directive_of_statement y ≡ None
unfolding facts_of_statement directive_of_statement
directive_BlockStatement y block h = ap directive_of_statement h ∙ ap (λ f. f.directive) (ap facts_of_statement (sym (s.rolls-BlockStatement block)) ∙ fold-roll-Statement ClassElementFacts HeritageFacts ExpressionFacts LinkFacts TellingBy ElementFacts PropertyNameFacts Telling Telling Telling TellingAs Telling Telling StatementFacts ClassFacts Telling Telling SubstitutionsFacts FunctionFacts MethodFacts BracketedFacts ElementsFacts NextElementFacts BlockFacts Telling Telling Telling class_element_step heritage_step expression_step link_step concise_body_step element_step property_name_step case_clause_step else_step finalizer_step for_start_step handler_step maybe_expression_step statement_step class_step operand_step substitution_step substitutions_step function_step method_step bracketed_step elements_step next_element_step block_step declaration_step else_if_step if_clause_step (Statement-F.BlockStatement block))

pub is_Variables : (y : Statement) (declaration : Declaration) (end : Option Token) (text : List ℕ) (setting : Setting) → y ≡ s.Variables declaration end → breaches_of_statement y text setting ≡ breaches_of_declaration declaration text setting
unfolding facts_of_statement breaches_of_statement is_loop_of_statement directive_of_statement breaches_of_declaration
is_Variables y declaration end text setting h = ap (λ z. breaches_of_statement z text setting) h ∙ ap (λ f. f.breaches text setting) (ap facts_of_statement (sym (s.rolls-Variables declaration end)) ∙ fold-roll-Statement ClassElementFacts HeritageFacts ExpressionFacts LinkFacts TellingBy ElementFacts PropertyNameFacts Telling Telling Telling TellingAs Telling Telling StatementFacts ClassFacts Telling Telling SubstitutionsFacts FunctionFacts MethodFacts BracketedFacts ElementsFacts NextElementFacts BlockFacts Telling Telling Telling class_element_step heritage_step expression_step link_step concise_body_step element_step property_name_step case_clause_step else_step finalizer_step for_start_step handler_step maybe_expression_step statement_step class_step operand_step substitution_step substitutions_step function_step method_step bracketed_step elements_step next_element_step block_step declaration_step else_if_step if_clause_step (Statement-F.Variables declaration end))

pub loop_Variables : (y : Statement) (declaration : Declaration) (end : Option Token) → y ≡ s.Variables declaration end → is_loop_of_statement y ≡ false
unfolding facts_of_statement is_loop_of_statement
loop_Variables y declaration end h = ap is_loop_of_statement h ∙ ap (λ f. f.is_loop) (ap facts_of_statement (sym (s.rolls-Variables declaration end)) ∙ fold-roll-Statement ClassElementFacts HeritageFacts ExpressionFacts LinkFacts TellingBy ElementFacts PropertyNameFacts Telling Telling Telling TellingAs Telling Telling StatementFacts ClassFacts Telling Telling SubstitutionsFacts FunctionFacts MethodFacts BracketedFacts ElementsFacts NextElementFacts BlockFacts Telling Telling Telling class_element_step heritage_step expression_step link_step concise_body_step element_step property_name_step case_clause_step else_step finalizer_step for_start_step handler_step maybe_expression_step statement_step class_step operand_step substitution_step substitutions_step function_step method_step bracketed_step elements_step next_element_step block_step declaration_step else_if_step if_clause_step (Statement-F.Variables declaration end))

pub directive_Variables : (y : Statement) (declaration : Declaration) (end : Option Token) → y ≡ s.Variables declaration end → directive_of_statement y ≡ None
unfolding facts_of_statement directive_of_statement
directive_Variables y declaration end h = ap directive_of_statement h ∙ ap (λ f. f.directive) (ap facts_of_statement (sym (s.rolls-Variables declaration end)) ∙ fold-roll-Statement ClassElementFacts HeritageFacts ExpressionFacts LinkFacts TellingBy ElementFacts PropertyNameFacts Telling Telling Telling TellingAs Telling Telling StatementFacts ClassFacts Telling Telling SubstitutionsFacts FunctionFacts MethodFacts BracketedFacts ElementsFacts NextElementFacts BlockFacts Telling Telling Telling class_element_step heritage_step expression_step link_step concise_body_step element_step property_name_step case_clause_step else_step finalizer_step for_start_step handler_step maybe_expression_step statement_step class_step operand_step substitution_step substitutions_step function_step method_step bracketed_step elements_step next_element_step block_step declaration_step else_if_step if_clause_step (Statement-F.Variables declaration end))

pub is_Empty : (y : Statement) (semicolon : Token) (text : List ℕ) (setting : Setting) → y ≡ s.Empty semicolon → breaches_of_statement y text setting ≡ together ([])
unfolding facts_of_statement breaches_of_statement is_loop_of_statement directive_of_statement
is_Empty y semicolon text setting h = ap (λ z. breaches_of_statement z text setting) h ∙ ap (λ f. f.breaches text setting) (ap facts_of_statement (sym (s.rolls-Empty semicolon)) ∙ fold-roll-Statement ClassElementFacts HeritageFacts ExpressionFacts LinkFacts TellingBy ElementFacts PropertyNameFacts Telling Telling Telling TellingAs Telling Telling StatementFacts ClassFacts Telling Telling SubstitutionsFacts FunctionFacts MethodFacts BracketedFacts ElementsFacts NextElementFacts BlockFacts Telling Telling Telling class_element_step heritage_step expression_step link_step concise_body_step element_step property_name_step case_clause_step else_step finalizer_step for_start_step handler_step maybe_expression_step statement_step class_step operand_step substitution_step substitutions_step function_step method_step bracketed_step elements_step next_element_step block_step declaration_step else_if_step if_clause_step (Statement-F.Empty semicolon))

pub loop_Empty : (y : Statement) (semicolon : Token) → y ≡ s.Empty semicolon → is_loop_of_statement y ≡ false
unfolding facts_of_statement is_loop_of_statement
loop_Empty y semicolon h = ap is_loop_of_statement h ∙ ap (λ f. f.is_loop) (ap facts_of_statement (sym (s.rolls-Empty semicolon)) ∙ fold-roll-Statement ClassElementFacts HeritageFacts ExpressionFacts LinkFacts TellingBy ElementFacts PropertyNameFacts Telling Telling Telling TellingAs Telling Telling StatementFacts ClassFacts Telling Telling SubstitutionsFacts FunctionFacts MethodFacts BracketedFacts ElementsFacts NextElementFacts BlockFacts Telling Telling Telling class_element_step heritage_step expression_step link_step concise_body_step element_step property_name_step case_clause_step else_step finalizer_step for_start_step handler_step maybe_expression_step statement_step class_step operand_step substitution_step substitutions_step function_step method_step bracketed_step elements_step next_element_step block_step declaration_step else_if_step if_clause_step (Statement-F.Empty semicolon))

pub directive_Empty : (y : Statement) (semicolon : Token) → y ≡ s.Empty semicolon → directive_of_statement y ≡ None
unfolding facts_of_statement directive_of_statement
directive_Empty y semicolon h = ap directive_of_statement h ∙ ap (λ f. f.directive) (ap facts_of_statement (sym (s.rolls-Empty semicolon)) ∙ fold-roll-Statement ClassElementFacts HeritageFacts ExpressionFacts LinkFacts TellingBy ElementFacts PropertyNameFacts Telling Telling Telling TellingAs Telling Telling StatementFacts ClassFacts Telling Telling SubstitutionsFacts FunctionFacts MethodFacts BracketedFacts ElementsFacts NextElementFacts BlockFacts Telling Telling Telling class_element_step heritage_step expression_step link_step concise_body_step element_step property_name_step case_clause_step else_step finalizer_step for_start_step handler_step maybe_expression_step statement_step class_step operand_step substitution_step substitutions_step function_step method_step bracketed_step elements_step next_element_step block_step declaration_step else_if_step if_clause_step (Statement-F.Empty semicolon))

pub is_ExpressionStatement : (y : Statement) (x : Expression) (end : Option Token) (text : List ℕ) (setting : Setting) → y ≡ s.ExpressionStatement x end → breaches_of_statement y text setting ≡ breaches_of_expression x text setting r.Value
unfolding facts_of_statement breaches_of_statement is_loop_of_statement directive_of_statement facts_of_expression breaches_of_expression shape_of_expression
is_ExpressionStatement y x end text setting h = ap (λ z. breaches_of_statement z text setting) h ∙ ap (λ f. f.breaches text setting) (ap facts_of_statement (sym (s.rolls-ExpressionStatement x end)) ∙ fold-roll-Statement ClassElementFacts HeritageFacts ExpressionFacts LinkFacts TellingBy ElementFacts PropertyNameFacts Telling Telling Telling TellingAs Telling Telling StatementFacts ClassFacts Telling Telling SubstitutionsFacts FunctionFacts MethodFacts BracketedFacts ElementsFacts NextElementFacts BlockFacts Telling Telling Telling class_element_step heritage_step expression_step link_step concise_body_step element_step property_name_step case_clause_step else_step finalizer_step for_start_step handler_step maybe_expression_step statement_step class_step operand_step substitution_step substitutions_step function_step method_step bracketed_step elements_step next_element_step block_step declaration_step else_if_step if_clause_step (Statement-F.ExpressionStatement x end))

pub loop_ExpressionStatement : (y : Statement) (x : Expression) (end : Option Token) → y ≡ s.ExpressionStatement x end → is_loop_of_statement y ≡ false
unfolding facts_of_statement is_loop_of_statement
loop_ExpressionStatement y x end h = ap is_loop_of_statement h ∙ ap (λ f. f.is_loop) (ap facts_of_statement (sym (s.rolls-ExpressionStatement x end)) ∙ fold-roll-Statement ClassElementFacts HeritageFacts ExpressionFacts LinkFacts TellingBy ElementFacts PropertyNameFacts Telling Telling Telling TellingAs Telling Telling StatementFacts ClassFacts Telling Telling SubstitutionsFacts FunctionFacts MethodFacts BracketedFacts ElementsFacts NextElementFacts BlockFacts Telling Telling Telling class_element_step heritage_step expression_step link_step concise_body_step element_step property_name_step case_clause_step else_step finalizer_step for_start_step handler_step maybe_expression_step statement_step class_step operand_step substitution_step substitutions_step function_step method_step bracketed_step elements_step next_element_step block_step declaration_step else_if_step if_clause_step (Statement-F.ExpressionStatement x end))

pub directive_ExpressionStatement : (y : Statement) (x : Expression) (end : Option Token) → y ≡ s.ExpressionStatement x end → directive_of_statement y ≡ directive_of (shape_of_expression x).token
unfolding facts_of_statement directive_of_statement facts_of_expression shape_of_expression
directive_ExpressionStatement y x end h = ap directive_of_statement h ∙ ap (λ f. f.directive) (ap facts_of_statement (sym (s.rolls-ExpressionStatement x end)) ∙ fold-roll-Statement ClassElementFacts HeritageFacts ExpressionFacts LinkFacts TellingBy ElementFacts PropertyNameFacts Telling Telling Telling TellingAs Telling Telling StatementFacts ClassFacts Telling Telling SubstitutionsFacts FunctionFacts MethodFacts BracketedFacts ElementsFacts NextElementFacts BlockFacts Telling Telling Telling class_element_step heritage_step expression_step link_step concise_body_step element_step property_name_step case_clause_step else_step finalizer_step for_start_step handler_step maybe_expression_step statement_step class_step operand_step substitution_step substitutions_step function_step method_step bracketed_step elements_step next_element_step block_step declaration_step else_if_step if_clause_step (Statement-F.ExpressionStatement x end))

pub is_If : (y : Statement) (clause : IfClause) (rest : List ElseIf) (last : Else) (text : List ℕ) (setting : Setting) → y ≡ s.If clause rest last → breaches_of_statement y text setting ≡ together (breaches_of_if_clause clause text setting ∷ each text setting (map breaches_of_else_if rest) ∷ breaches_of_else last text setting ∷ [])
unfolding facts_of_statement breaches_of_statement is_loop_of_statement directive_of_statement breaches_of_if_clause breaches_of_else_if breaches_of_else
is_If y clause rest last text setting h = ap (λ z. breaches_of_statement z text setting) h ∙ ap (λ f. f.breaches text setting) (ap facts_of_statement (sym (s.rolls-If clause rest last)) ∙ fold-roll-Statement ClassElementFacts HeritageFacts ExpressionFacts LinkFacts TellingBy ElementFacts PropertyNameFacts Telling Telling Telling TellingAs Telling Telling StatementFacts ClassFacts Telling Telling SubstitutionsFacts FunctionFacts MethodFacts BracketedFacts ElementsFacts NextElementFacts BlockFacts Telling Telling Telling class_element_step heritage_step expression_step link_step concise_body_step element_step property_name_step case_clause_step else_step finalizer_step for_start_step handler_step maybe_expression_step statement_step class_step operand_step substitution_step substitutions_step function_step method_step bracketed_step elements_step next_element_step block_step declaration_step else_if_step if_clause_step (Statement-F.If clause rest last))

pub loop_If : (y : Statement) (clause : IfClause) (rest : List ElseIf) (last : Else) → y ≡ s.If clause rest last → is_loop_of_statement y ≡ false
unfolding facts_of_statement is_loop_of_statement
loop_If y clause rest last h = ap is_loop_of_statement h ∙ ap (λ f. f.is_loop) (ap facts_of_statement (sym (s.rolls-If clause rest last)) ∙ fold-roll-Statement ClassElementFacts HeritageFacts ExpressionFacts LinkFacts TellingBy ElementFacts PropertyNameFacts Telling Telling Telling TellingAs Telling Telling StatementFacts ClassFacts Telling Telling SubstitutionsFacts FunctionFacts MethodFacts BracketedFacts ElementsFacts NextElementFacts BlockFacts Telling Telling Telling class_element_step heritage_step expression_step link_step concise_body_step element_step property_name_step case_clause_step else_step finalizer_step for_start_step handler_step maybe_expression_step statement_step class_step operand_step substitution_step substitutions_step function_step method_step bracketed_step elements_step next_element_step block_step declaration_step else_if_step if_clause_step (Statement-F.If clause rest last))

pub directive_If : (y : Statement) (clause : IfClause) (rest : List ElseIf) (last : Else) → y ≡ s.If clause rest last → directive_of_statement y ≡ None
unfolding facts_of_statement directive_of_statement
directive_If y clause rest last h = ap directive_of_statement h ∙ ap (λ f. f.directive) (ap facts_of_statement (sym (s.rolls-If clause rest last)) ∙ fold-roll-Statement ClassElementFacts HeritageFacts ExpressionFacts LinkFacts TellingBy ElementFacts PropertyNameFacts Telling Telling Telling TellingAs Telling Telling StatementFacts ClassFacts Telling Telling SubstitutionsFacts FunctionFacts MethodFacts BracketedFacts ElementsFacts NextElementFacts BlockFacts Telling Telling Telling class_element_step heritage_step expression_step link_step concise_body_step element_step property_name_step case_clause_step else_step finalizer_step for_start_step handler_step maybe_expression_step statement_step class_step operand_step substitution_step substitutions_step function_step method_step bracketed_step elements_step next_element_step block_step declaration_step else_if_step if_clause_step (Statement-F.If clause rest last))

pub is_DoWhile : (y : Statement) (word : Token) (body : Statement) (while_word : Token) (begin : Token) (x : Expression) (ending : Token) (end : Option Token) (text : List ℕ) (setting : Setting) → y ≡ s.DoWhile word body while_word begin x ending end → breaches_of_statement y text setting ≡ together (breaches_of_statement body text (of_loop setting) ∷ breaches_of_expression x text setting r.Value ∷ [])
unfolding facts_of_statement breaches_of_statement is_loop_of_statement directive_of_statement facts_of_expression breaches_of_expression shape_of_expression
is_DoWhile y word body while_word begin x ending end text setting h = ap (λ z. breaches_of_statement z text setting) h ∙ ap (λ f. f.breaches text setting) (ap facts_of_statement (sym (s.rolls-DoWhile word body while_word begin x ending end)) ∙ fold-roll-Statement ClassElementFacts HeritageFacts ExpressionFacts LinkFacts TellingBy ElementFacts PropertyNameFacts Telling Telling Telling TellingAs Telling Telling StatementFacts ClassFacts Telling Telling SubstitutionsFacts FunctionFacts MethodFacts BracketedFacts ElementsFacts NextElementFacts BlockFacts Telling Telling Telling class_element_step heritage_step expression_step link_step concise_body_step element_step property_name_step case_clause_step else_step finalizer_step for_start_step handler_step maybe_expression_step statement_step class_step operand_step substitution_step substitutions_step function_step method_step bracketed_step elements_step next_element_step block_step declaration_step else_if_step if_clause_step (Statement-F.DoWhile word body while_word begin x ending end))

pub loop_DoWhile : (y : Statement) (word : Token) (body : Statement) (while_word : Token) (begin : Token) (x : Expression) (ending : Token) (end : Option Token) → y ≡ s.DoWhile word body while_word begin x ending end → is_loop_of_statement y ≡ true
unfolding facts_of_statement is_loop_of_statement
loop_DoWhile y word body while_word begin x ending end h = ap is_loop_of_statement h ∙ ap (λ f. f.is_loop) (ap facts_of_statement (sym (s.rolls-DoWhile word body while_word begin x ending end)) ∙ fold-roll-Statement ClassElementFacts HeritageFacts ExpressionFacts LinkFacts TellingBy ElementFacts PropertyNameFacts Telling Telling Telling TellingAs Telling Telling StatementFacts ClassFacts Telling Telling SubstitutionsFacts FunctionFacts MethodFacts BracketedFacts ElementsFacts NextElementFacts BlockFacts Telling Telling Telling class_element_step heritage_step expression_step link_step concise_body_step element_step property_name_step case_clause_step else_step finalizer_step for_start_step handler_step maybe_expression_step statement_step class_step operand_step substitution_step substitutions_step function_step method_step bracketed_step elements_step next_element_step block_step declaration_step else_if_step if_clause_step (Statement-F.DoWhile word body while_word begin x ending end))

pub directive_DoWhile : (y : Statement) (word : Token) (body : Statement) (while_word : Token) (begin : Token) (x : Expression) (ending : Token) (end : Option Token) → y ≡ s.DoWhile word body while_word begin x ending end → directive_of_statement y ≡ None
unfolding facts_of_statement directive_of_statement
directive_DoWhile y word body while_word begin x ending end h = ap directive_of_statement h ∙ ap (λ f. f.directive) (ap facts_of_statement (sym (s.rolls-DoWhile word body while_word begin x ending end)) ∙ fold-roll-Statement ClassElementFacts HeritageFacts ExpressionFacts LinkFacts TellingBy ElementFacts PropertyNameFacts Telling Telling Telling TellingAs Telling Telling StatementFacts ClassFacts Telling Telling SubstitutionsFacts FunctionFacts MethodFacts BracketedFacts ElementsFacts NextElementFacts BlockFacts Telling Telling Telling class_element_step heritage_step expression_step link_step concise_body_step element_step property_name_step case_clause_step else_step finalizer_step for_start_step handler_step maybe_expression_step statement_step class_step operand_step substitution_step substitutions_step function_step method_step bracketed_step elements_step next_element_step block_step declaration_step else_if_step if_clause_step (Statement-F.DoWhile word body while_word begin x ending end))

pub is_While : (y : Statement) (word : Token) (begin : Token) (x : Expression) (ending : Token) (body : Statement) (text : List ℕ) (setting : Setting) → y ≡ s.While word begin x ending body → breaches_of_statement y text setting ≡ together (breaches_of_expression x text setting r.Value ∷ breaches_of_statement body text (of_loop setting) ∷ [])
unfolding facts_of_statement breaches_of_statement is_loop_of_statement directive_of_statement facts_of_expression breaches_of_expression shape_of_expression
is_While y word begin x ending body text setting h = ap (λ z. breaches_of_statement z text setting) h ∙ ap (λ f. f.breaches text setting) (ap facts_of_statement (sym (s.rolls-While word begin x ending body)) ∙ fold-roll-Statement ClassElementFacts HeritageFacts ExpressionFacts LinkFacts TellingBy ElementFacts PropertyNameFacts Telling Telling Telling TellingAs Telling Telling StatementFacts ClassFacts Telling Telling SubstitutionsFacts FunctionFacts MethodFacts BracketedFacts ElementsFacts NextElementFacts BlockFacts Telling Telling Telling class_element_step heritage_step expression_step link_step concise_body_step element_step property_name_step case_clause_step else_step finalizer_step for_start_step handler_step maybe_expression_step statement_step class_step operand_step substitution_step substitutions_step function_step method_step bracketed_step elements_step next_element_step block_step declaration_step else_if_step if_clause_step (Statement-F.While word begin x ending body))

pub loop_While : (y : Statement) (word : Token) (begin : Token) (x : Expression) (ending : Token) (body : Statement) → y ≡ s.While word begin x ending body → is_loop_of_statement y ≡ true
unfolding facts_of_statement is_loop_of_statement
loop_While y word begin x ending body h = ap is_loop_of_statement h ∙ ap (λ f. f.is_loop) (ap facts_of_statement (sym (s.rolls-While word begin x ending body)) ∙ fold-roll-Statement ClassElementFacts HeritageFacts ExpressionFacts LinkFacts TellingBy ElementFacts PropertyNameFacts Telling Telling Telling TellingAs Telling Telling StatementFacts ClassFacts Telling Telling SubstitutionsFacts FunctionFacts MethodFacts BracketedFacts ElementsFacts NextElementFacts BlockFacts Telling Telling Telling class_element_step heritage_step expression_step link_step concise_body_step element_step property_name_step case_clause_step else_step finalizer_step for_start_step handler_step maybe_expression_step statement_step class_step operand_step substitution_step substitutions_step function_step method_step bracketed_step elements_step next_element_step block_step declaration_step else_if_step if_clause_step (Statement-F.While word begin x ending body))

pub directive_While : (y : Statement) (word : Token) (begin : Token) (x : Expression) (ending : Token) (body : Statement) → y ≡ s.While word begin x ending body → directive_of_statement y ≡ None
unfolding facts_of_statement directive_of_statement
directive_While y word begin x ending body h = ap directive_of_statement h ∙ ap (λ f. f.directive) (ap facts_of_statement (sym (s.rolls-While word begin x ending body)) ∙ fold-roll-Statement ClassElementFacts HeritageFacts ExpressionFacts LinkFacts TellingBy ElementFacts PropertyNameFacts Telling Telling Telling TellingAs Telling Telling StatementFacts ClassFacts Telling Telling SubstitutionsFacts FunctionFacts MethodFacts BracketedFacts ElementsFacts NextElementFacts BlockFacts Telling Telling Telling class_element_step heritage_step expression_step link_step concise_body_step element_step property_name_step case_clause_step else_step finalizer_step for_start_step handler_step maybe_expression_step statement_step class_step operand_step substitution_step substitutions_step function_step method_step bracketed_step elements_step next_element_step block_step declaration_step else_if_step if_clause_step (Statement-F.While word begin x ending body))

pub is_For : (y : Statement) (word : Token) (begin : Token) (start : ForStart) (first : Token) (test : MaybeExpression) (second : Token) (step : MaybeExpression) (ending : Token) (body : Statement) (text : List ℕ) (setting : Setting) → y ≡ s.For word begin start first test second step ending body → breaches_of_statement y text setting ≡ together (breaches_of_for_start start text setting r.Value ∷ breaches_of_maybe_expression test text setting ∷ breaches_of_maybe_expression step text setting ∷ breaches_of_statement body text (of_loop setting) ∷ [])
unfolding facts_of_statement breaches_of_statement is_loop_of_statement directive_of_statement breaches_of_for_start breaches_of_maybe_expression
is_For y word begin start first test second step ending body text setting h = ap (λ z. breaches_of_statement z text setting) h ∙ ap (λ f. f.breaches text setting) (ap facts_of_statement (sym (s.rolls-For word begin start first test second step ending body)) ∙ fold-roll-Statement ClassElementFacts HeritageFacts ExpressionFacts LinkFacts TellingBy ElementFacts PropertyNameFacts Telling Telling Telling TellingAs Telling Telling StatementFacts ClassFacts Telling Telling SubstitutionsFacts FunctionFacts MethodFacts BracketedFacts ElementsFacts NextElementFacts BlockFacts Telling Telling Telling class_element_step heritage_step expression_step link_step concise_body_step element_step property_name_step case_clause_step else_step finalizer_step for_start_step handler_step maybe_expression_step statement_step class_step operand_step substitution_step substitutions_step function_step method_step bracketed_step elements_step next_element_step block_step declaration_step else_if_step if_clause_step (Statement-F.For word begin start first test second step ending body))

pub loop_For : (y : Statement) (word : Token) (begin : Token) (start : ForStart) (first : Token) (test : MaybeExpression) (second : Token) (step : MaybeExpression) (ending : Token) (body : Statement) → y ≡ s.For word begin start first test second step ending body → is_loop_of_statement y ≡ true
unfolding facts_of_statement is_loop_of_statement
loop_For y word begin start first test second step ending body h = ap is_loop_of_statement h ∙ ap (λ f. f.is_loop) (ap facts_of_statement (sym (s.rolls-For word begin start first test second step ending body)) ∙ fold-roll-Statement ClassElementFacts HeritageFacts ExpressionFacts LinkFacts TellingBy ElementFacts PropertyNameFacts Telling Telling Telling TellingAs Telling Telling StatementFacts ClassFacts Telling Telling SubstitutionsFacts FunctionFacts MethodFacts BracketedFacts ElementsFacts NextElementFacts BlockFacts Telling Telling Telling class_element_step heritage_step expression_step link_step concise_body_step element_step property_name_step case_clause_step else_step finalizer_step for_start_step handler_step maybe_expression_step statement_step class_step operand_step substitution_step substitutions_step function_step method_step bracketed_step elements_step next_element_step block_step declaration_step else_if_step if_clause_step (Statement-F.For word begin start first test second step ending body))

pub directive_For : (y : Statement) (word : Token) (begin : Token) (start : ForStart) (first : Token) (test : MaybeExpression) (second : Token) (step : MaybeExpression) (ending : Token) (body : Statement) → y ≡ s.For word begin start first test second step ending body → directive_of_statement y ≡ None
unfolding facts_of_statement directive_of_statement
directive_For y word begin start first test second step ending body h = ap directive_of_statement h ∙ ap (λ f. f.directive) (ap facts_of_statement (sym (s.rolls-For word begin start first test second step ending body)) ∙ fold-roll-Statement ClassElementFacts HeritageFacts ExpressionFacts LinkFacts TellingBy ElementFacts PropertyNameFacts Telling Telling Telling TellingAs Telling Telling StatementFacts ClassFacts Telling Telling SubstitutionsFacts FunctionFacts MethodFacts BracketedFacts ElementsFacts NextElementFacts BlockFacts Telling Telling Telling class_element_step heritage_step expression_step link_step concise_body_step element_step property_name_step case_clause_step else_step finalizer_step for_start_step handler_step maybe_expression_step statement_step class_step operand_step substitution_step substitutions_step function_step method_step bracketed_step elements_step next_element_step block_step declaration_step else_if_step if_clause_step (Statement-F.For word begin start first test second step ending body))

pub is_ForEach : (y : Statement) (word : Token) (await_word : Option Token) (begin : Token) (start : ForStart) (middle : Token) (x : Expression) (ending : Token) (body : Statement) (text : List ℕ) (setting : Setting) → y ≡ s.ForEach word await_word begin start middle x ending body → breaches_of_statement y text setting ≡ together (breaches_of_for_start start text setting r.Target ∷ breaches_of_expression x text setting r.Value ∷ breaches_of_statement body text (of_loop setting) ∷ [])
unfolding facts_of_statement breaches_of_statement is_loop_of_statement directive_of_statement breaches_of_for_start facts_of_expression breaches_of_expression shape_of_expression
is_ForEach y word await_word begin start middle x ending body text setting h = ap (λ z. breaches_of_statement z text setting) h ∙ ap (λ f. f.breaches text setting) (ap facts_of_statement (sym (s.rolls-ForEach word await_word begin start middle x ending body)) ∙ fold-roll-Statement ClassElementFacts HeritageFacts ExpressionFacts LinkFacts TellingBy ElementFacts PropertyNameFacts Telling Telling Telling TellingAs Telling Telling StatementFacts ClassFacts Telling Telling SubstitutionsFacts FunctionFacts MethodFacts BracketedFacts ElementsFacts NextElementFacts BlockFacts Telling Telling Telling class_element_step heritage_step expression_step link_step concise_body_step element_step property_name_step case_clause_step else_step finalizer_step for_start_step handler_step maybe_expression_step statement_step class_step operand_step substitution_step substitutions_step function_step method_step bracketed_step elements_step next_element_step block_step declaration_step else_if_step if_clause_step (Statement-F.ForEach word await_word begin start middle x ending body))

pub loop_ForEach : (y : Statement) (word : Token) (await_word : Option Token) (begin : Token) (start : ForStart) (middle : Token) (x : Expression) (ending : Token) (body : Statement) → y ≡ s.ForEach word await_word begin start middle x ending body → is_loop_of_statement y ≡ true
unfolding facts_of_statement is_loop_of_statement
loop_ForEach y word await_word begin start middle x ending body h = ap is_loop_of_statement h ∙ ap (λ f. f.is_loop) (ap facts_of_statement (sym (s.rolls-ForEach word await_word begin start middle x ending body)) ∙ fold-roll-Statement ClassElementFacts HeritageFacts ExpressionFacts LinkFacts TellingBy ElementFacts PropertyNameFacts Telling Telling Telling TellingAs Telling Telling StatementFacts ClassFacts Telling Telling SubstitutionsFacts FunctionFacts MethodFacts BracketedFacts ElementsFacts NextElementFacts BlockFacts Telling Telling Telling class_element_step heritage_step expression_step link_step concise_body_step element_step property_name_step case_clause_step else_step finalizer_step for_start_step handler_step maybe_expression_step statement_step class_step operand_step substitution_step substitutions_step function_step method_step bracketed_step elements_step next_element_step block_step declaration_step else_if_step if_clause_step (Statement-F.ForEach word await_word begin start middle x ending body))

pub directive_ForEach : (y : Statement) (word : Token) (await_word : Option Token) (begin : Token) (start : ForStart) (middle : Token) (x : Expression) (ending : Token) (body : Statement) → y ≡ s.ForEach word await_word begin start middle x ending body → directive_of_statement y ≡ None
unfolding facts_of_statement directive_of_statement
directive_ForEach y word await_word begin start middle x ending body h = ap directive_of_statement h ∙ ap (λ f. f.directive) (ap facts_of_statement (sym (s.rolls-ForEach word await_word begin start middle x ending body)) ∙ fold-roll-Statement ClassElementFacts HeritageFacts ExpressionFacts LinkFacts TellingBy ElementFacts PropertyNameFacts Telling Telling Telling TellingAs Telling Telling StatementFacts ClassFacts Telling Telling SubstitutionsFacts FunctionFacts MethodFacts BracketedFacts ElementsFacts NextElementFacts BlockFacts Telling Telling Telling class_element_step heritage_step expression_step link_step concise_body_step element_step property_name_step case_clause_step else_step finalizer_step for_start_step handler_step maybe_expression_step statement_step class_step operand_step substitution_step substitutions_step function_step method_step bracketed_step elements_step next_element_step block_step declaration_step else_if_step if_clause_step (Statement-F.ForEach word await_word begin start middle x ending body))

pub is_Continue : (y : Statement) (word : Token) (label : Option Token) (end : Option Token) (text : List ℕ) (setting : Setting) → y ≡ s.Continue word label end → breaches_of_statement y text setting ≡ continue_breaches text word label setting
unfolding facts_of_statement breaches_of_statement is_loop_of_statement directive_of_statement
is_Continue y word label end text setting h = ap (λ z. breaches_of_statement z text setting) h ∙ ap (λ f. f.breaches text setting) (ap facts_of_statement (sym (s.rolls-Continue word label end)) ∙ fold-roll-Statement ClassElementFacts HeritageFacts ExpressionFacts LinkFacts TellingBy ElementFacts PropertyNameFacts Telling Telling Telling TellingAs Telling Telling StatementFacts ClassFacts Telling Telling SubstitutionsFacts FunctionFacts MethodFacts BracketedFacts ElementsFacts NextElementFacts BlockFacts Telling Telling Telling class_element_step heritage_step expression_step link_step concise_body_step element_step property_name_step case_clause_step else_step finalizer_step for_start_step handler_step maybe_expression_step statement_step class_step operand_step substitution_step substitutions_step function_step method_step bracketed_step elements_step next_element_step block_step declaration_step else_if_step if_clause_step (Statement-F.Continue word label end))

pub loop_Continue : (y : Statement) (word : Token) (label : Option Token) (end : Option Token) → y ≡ s.Continue word label end → is_loop_of_statement y ≡ false
unfolding facts_of_statement is_loop_of_statement
loop_Continue y word label end h = ap is_loop_of_statement h ∙ ap (λ f. f.is_loop) (ap facts_of_statement (sym (s.rolls-Continue word label end)) ∙ fold-roll-Statement ClassElementFacts HeritageFacts ExpressionFacts LinkFacts TellingBy ElementFacts PropertyNameFacts Telling Telling Telling TellingAs Telling Telling StatementFacts ClassFacts Telling Telling SubstitutionsFacts FunctionFacts MethodFacts BracketedFacts ElementsFacts NextElementFacts BlockFacts Telling Telling Telling class_element_step heritage_step expression_step link_step concise_body_step element_step property_name_step case_clause_step else_step finalizer_step for_start_step handler_step maybe_expression_step statement_step class_step operand_step substitution_step substitutions_step function_step method_step bracketed_step elements_step next_element_step block_step declaration_step else_if_step if_clause_step (Statement-F.Continue word label end))

pub directive_Continue : (y : Statement) (word : Token) (label : Option Token) (end : Option Token) → y ≡ s.Continue word label end → directive_of_statement y ≡ None
unfolding facts_of_statement directive_of_statement
directive_Continue y word label end h = ap directive_of_statement h ∙ ap (λ f. f.directive) (ap facts_of_statement (sym (s.rolls-Continue word label end)) ∙ fold-roll-Statement ClassElementFacts HeritageFacts ExpressionFacts LinkFacts TellingBy ElementFacts PropertyNameFacts Telling Telling Telling TellingAs Telling Telling StatementFacts ClassFacts Telling Telling SubstitutionsFacts FunctionFacts MethodFacts BracketedFacts ElementsFacts NextElementFacts BlockFacts Telling Telling Telling class_element_step heritage_step expression_step link_step concise_body_step element_step property_name_step case_clause_step else_step finalizer_step for_start_step handler_step maybe_expression_step statement_step class_step operand_step substitution_step substitutions_step function_step method_step bracketed_step elements_step next_element_step block_step declaration_step else_if_step if_clause_step (Statement-F.Continue word label end))

pub is_Break : (y : Statement) (word : Token) (label : Option Token) (end : Option Token) (text : List ℕ) (setting : Setting) → y ≡ s.Break word label end → breaches_of_statement y text setting ≡ break_breaches text word label setting
unfolding facts_of_statement breaches_of_statement is_loop_of_statement directive_of_statement
is_Break y word label end text setting h = ap (λ z. breaches_of_statement z text setting) h ∙ ap (λ f. f.breaches text setting) (ap facts_of_statement (sym (s.rolls-Break word label end)) ∙ fold-roll-Statement ClassElementFacts HeritageFacts ExpressionFacts LinkFacts TellingBy ElementFacts PropertyNameFacts Telling Telling Telling TellingAs Telling Telling StatementFacts ClassFacts Telling Telling SubstitutionsFacts FunctionFacts MethodFacts BracketedFacts ElementsFacts NextElementFacts BlockFacts Telling Telling Telling class_element_step heritage_step expression_step link_step concise_body_step element_step property_name_step case_clause_step else_step finalizer_step for_start_step handler_step maybe_expression_step statement_step class_step operand_step substitution_step substitutions_step function_step method_step bracketed_step elements_step next_element_step block_step declaration_step else_if_step if_clause_step (Statement-F.Break word label end))

pub loop_Break : (y : Statement) (word : Token) (label : Option Token) (end : Option Token) → y ≡ s.Break word label end → is_loop_of_statement y ≡ false
unfolding facts_of_statement is_loop_of_statement
loop_Break y word label end h = ap is_loop_of_statement h ∙ ap (λ f. f.is_loop) (ap facts_of_statement (sym (s.rolls-Break word label end)) ∙ fold-roll-Statement ClassElementFacts HeritageFacts ExpressionFacts LinkFacts TellingBy ElementFacts PropertyNameFacts Telling Telling Telling TellingAs Telling Telling StatementFacts ClassFacts Telling Telling SubstitutionsFacts FunctionFacts MethodFacts BracketedFacts ElementsFacts NextElementFacts BlockFacts Telling Telling Telling class_element_step heritage_step expression_step link_step concise_body_step element_step property_name_step case_clause_step else_step finalizer_step for_start_step handler_step maybe_expression_step statement_step class_step operand_step substitution_step substitutions_step function_step method_step bracketed_step elements_step next_element_step block_step declaration_step else_if_step if_clause_step (Statement-F.Break word label end))

pub directive_Break : (y : Statement) (word : Token) (label : Option Token) (end : Option Token) → y ≡ s.Break word label end → directive_of_statement y ≡ None
unfolding facts_of_statement directive_of_statement
directive_Break y word label end h = ap directive_of_statement h ∙ ap (λ f. f.directive) (ap facts_of_statement (sym (s.rolls-Break word label end)) ∙ fold-roll-Statement ClassElementFacts HeritageFacts ExpressionFacts LinkFacts TellingBy ElementFacts PropertyNameFacts Telling Telling Telling TellingAs Telling Telling StatementFacts ClassFacts Telling Telling SubstitutionsFacts FunctionFacts MethodFacts BracketedFacts ElementsFacts NextElementFacts BlockFacts Telling Telling Telling class_element_step heritage_step expression_step link_step concise_body_step element_step property_name_step case_clause_step else_step finalizer_step for_start_step handler_step maybe_expression_step statement_step class_step operand_step substitution_step substitutions_step function_step method_step bracketed_step elements_step next_element_step block_step declaration_step else_if_step if_clause_step (Statement-F.Break word label end))

pub is_Return : (y : Statement) (word : Token) (x : MaybeExpression) (end : Option Token) (text : List ℕ) (setting : Setting) → y ≡ s.Return word x end → breaches_of_statement y text setting ≡ together (return_breaches word setting ∷ breaches_of_maybe_expression x text setting ∷ [])
unfolding facts_of_statement breaches_of_statement is_loop_of_statement directive_of_statement breaches_of_maybe_expression
is_Return y word x end text setting h = ap (λ z. breaches_of_statement z text setting) h ∙ ap (λ f. f.breaches text setting) (ap facts_of_statement (sym (s.rolls-Return word x end)) ∙ fold-roll-Statement ClassElementFacts HeritageFacts ExpressionFacts LinkFacts TellingBy ElementFacts PropertyNameFacts Telling Telling Telling TellingAs Telling Telling StatementFacts ClassFacts Telling Telling SubstitutionsFacts FunctionFacts MethodFacts BracketedFacts ElementsFacts NextElementFacts BlockFacts Telling Telling Telling class_element_step heritage_step expression_step link_step concise_body_step element_step property_name_step case_clause_step else_step finalizer_step for_start_step handler_step maybe_expression_step statement_step class_step operand_step substitution_step substitutions_step function_step method_step bracketed_step elements_step next_element_step block_step declaration_step else_if_step if_clause_step (Statement-F.Return word x end))

pub loop_Return : (y : Statement) (word : Token) (x : MaybeExpression) (end : Option Token) → y ≡ s.Return word x end → is_loop_of_statement y ≡ false
unfolding facts_of_statement is_loop_of_statement
loop_Return y word x end h = ap is_loop_of_statement h ∙ ap (λ f. f.is_loop) (ap facts_of_statement (sym (s.rolls-Return word x end)) ∙ fold-roll-Statement ClassElementFacts HeritageFacts ExpressionFacts LinkFacts TellingBy ElementFacts PropertyNameFacts Telling Telling Telling TellingAs Telling Telling StatementFacts ClassFacts Telling Telling SubstitutionsFacts FunctionFacts MethodFacts BracketedFacts ElementsFacts NextElementFacts BlockFacts Telling Telling Telling class_element_step heritage_step expression_step link_step concise_body_step element_step property_name_step case_clause_step else_step finalizer_step for_start_step handler_step maybe_expression_step statement_step class_step operand_step substitution_step substitutions_step function_step method_step bracketed_step elements_step next_element_step block_step declaration_step else_if_step if_clause_step (Statement-F.Return word x end))

pub directive_Return : (y : Statement) (word : Token) (x : MaybeExpression) (end : Option Token) → y ≡ s.Return word x end → directive_of_statement y ≡ None
unfolding facts_of_statement directive_of_statement
directive_Return y word x end h = ap directive_of_statement h ∙ ap (λ f. f.directive) (ap facts_of_statement (sym (s.rolls-Return word x end)) ∙ fold-roll-Statement ClassElementFacts HeritageFacts ExpressionFacts LinkFacts TellingBy ElementFacts PropertyNameFacts Telling Telling Telling TellingAs Telling Telling StatementFacts ClassFacts Telling Telling SubstitutionsFacts FunctionFacts MethodFacts BracketedFacts ElementsFacts NextElementFacts BlockFacts Telling Telling Telling class_element_step heritage_step expression_step link_step concise_body_step element_step property_name_step case_clause_step else_step finalizer_step for_start_step handler_step maybe_expression_step statement_step class_step operand_step substitution_step substitutions_step function_step method_step bracketed_step elements_step next_element_step block_step declaration_step else_if_step if_clause_step (Statement-F.Return word x end))

pub is_Switch : (y : Statement) (word : Token) (begin : Token) (x : Expression) (ending : Token) (left : Token) (clauses : List CaseClause) (right : Token) (text : List ℕ) (setting : Setting) → y ≡ s.Switch word begin x ending left clauses right → breaches_of_statement y text setting ≡ together (breaches_of_expression x text setting r.Value ∷ each text (of_switch setting) (map breaches_of_case_clause clauses) ∷ [])
unfolding facts_of_statement breaches_of_statement is_loop_of_statement directive_of_statement facts_of_expression breaches_of_expression shape_of_expression breaches_of_case_clause
is_Switch y word begin x ending left clauses right text setting h = ap (λ z. breaches_of_statement z text setting) h ∙ ap (λ f. f.breaches text setting) (ap facts_of_statement (sym (s.rolls-Switch word begin x ending left clauses right)) ∙ fold-roll-Statement ClassElementFacts HeritageFacts ExpressionFacts LinkFacts TellingBy ElementFacts PropertyNameFacts Telling Telling Telling TellingAs Telling Telling StatementFacts ClassFacts Telling Telling SubstitutionsFacts FunctionFacts MethodFacts BracketedFacts ElementsFacts NextElementFacts BlockFacts Telling Telling Telling class_element_step heritage_step expression_step link_step concise_body_step element_step property_name_step case_clause_step else_step finalizer_step for_start_step handler_step maybe_expression_step statement_step class_step operand_step substitution_step substitutions_step function_step method_step bracketed_step elements_step next_element_step block_step declaration_step else_if_step if_clause_step (Statement-F.Switch word begin x ending left clauses right))

pub loop_Switch : (y : Statement) (word : Token) (begin : Token) (x : Expression) (ending : Token) (left : Token) (clauses : List CaseClause) (right : Token) → y ≡ s.Switch word begin x ending left clauses right → is_loop_of_statement y ≡ false
unfolding facts_of_statement is_loop_of_statement
loop_Switch y word begin x ending left clauses right h = ap is_loop_of_statement h ∙ ap (λ f. f.is_loop) (ap facts_of_statement (sym (s.rolls-Switch word begin x ending left clauses right)) ∙ fold-roll-Statement ClassElementFacts HeritageFacts ExpressionFacts LinkFacts TellingBy ElementFacts PropertyNameFacts Telling Telling Telling TellingAs Telling Telling StatementFacts ClassFacts Telling Telling SubstitutionsFacts FunctionFacts MethodFacts BracketedFacts ElementsFacts NextElementFacts BlockFacts Telling Telling Telling class_element_step heritage_step expression_step link_step concise_body_step element_step property_name_step case_clause_step else_step finalizer_step for_start_step handler_step maybe_expression_step statement_step class_step operand_step substitution_step substitutions_step function_step method_step bracketed_step elements_step next_element_step block_step declaration_step else_if_step if_clause_step (Statement-F.Switch word begin x ending left clauses right))

pub directive_Switch : (y : Statement) (word : Token) (begin : Token) (x : Expression) (ending : Token) (left : Token) (clauses : List CaseClause) (right : Token) → y ≡ s.Switch word begin x ending left clauses right → directive_of_statement y ≡ None
unfolding facts_of_statement directive_of_statement
directive_Switch y word begin x ending left clauses right h = ap directive_of_statement h ∙ ap (λ f. f.directive) (ap facts_of_statement (sym (s.rolls-Switch word begin x ending left clauses right)) ∙ fold-roll-Statement ClassElementFacts HeritageFacts ExpressionFacts LinkFacts TellingBy ElementFacts PropertyNameFacts Telling Telling Telling TellingAs Telling Telling StatementFacts ClassFacts Telling Telling SubstitutionsFacts FunctionFacts MethodFacts BracketedFacts ElementsFacts NextElementFacts BlockFacts Telling Telling Telling class_element_step heritage_step expression_step link_step concise_body_step element_step property_name_step case_clause_step else_step finalizer_step for_start_step handler_step maybe_expression_step statement_step class_step operand_step substitution_step substitutions_step function_step method_step bracketed_step elements_step next_element_step block_step declaration_step else_if_step if_clause_step (Statement-F.Switch word begin x ending left clauses right))

pub is_Labelled : (y : Statement) (label : Token) (colon : Token) (body : Statement) (text : List ℕ) (setting : Setting) → y ≡ s.Labelled label colon body → breaches_of_statement y text setting ≡ together (label_breaches text label ∷ reference_breaches text label ∷ behind (record { name = label; is_loop = is_loop_of_statement body }) (breaches_of_statement body text setting) ∷ [])
unfolding facts_of_statement breaches_of_statement is_loop_of_statement directive_of_statement
is_Labelled y label colon body text setting h = ap (λ z. breaches_of_statement z text setting) h ∙ ap (λ f. f.breaches text setting) (ap facts_of_statement (sym (s.rolls-Labelled label colon body)) ∙ fold-roll-Statement ClassElementFacts HeritageFacts ExpressionFacts LinkFacts TellingBy ElementFacts PropertyNameFacts Telling Telling Telling TellingAs Telling Telling StatementFacts ClassFacts Telling Telling SubstitutionsFacts FunctionFacts MethodFacts BracketedFacts ElementsFacts NextElementFacts BlockFacts Telling Telling Telling class_element_step heritage_step expression_step link_step concise_body_step element_step property_name_step case_clause_step else_step finalizer_step for_start_step handler_step maybe_expression_step statement_step class_step operand_step substitution_step substitutions_step function_step method_step bracketed_step elements_step next_element_step block_step declaration_step else_if_step if_clause_step (Statement-F.Labelled label colon body))

pub loop_Labelled : (y : Statement) (label : Token) (colon : Token) (body : Statement) → y ≡ s.Labelled label colon body → is_loop_of_statement y ≡ is_loop_of_statement body
unfolding facts_of_statement is_loop_of_statement
loop_Labelled y label colon body h = ap is_loop_of_statement h ∙ ap (λ f. f.is_loop) (ap facts_of_statement (sym (s.rolls-Labelled label colon body)) ∙ fold-roll-Statement ClassElementFacts HeritageFacts ExpressionFacts LinkFacts TellingBy ElementFacts PropertyNameFacts Telling Telling Telling TellingAs Telling Telling StatementFacts ClassFacts Telling Telling SubstitutionsFacts FunctionFacts MethodFacts BracketedFacts ElementsFacts NextElementFacts BlockFacts Telling Telling Telling class_element_step heritage_step expression_step link_step concise_body_step element_step property_name_step case_clause_step else_step finalizer_step for_start_step handler_step maybe_expression_step statement_step class_step operand_step substitution_step substitutions_step function_step method_step bracketed_step elements_step next_element_step block_step declaration_step else_if_step if_clause_step (Statement-F.Labelled label colon body))

pub directive_Labelled : (y : Statement) (label : Token) (colon : Token) (body : Statement) → y ≡ s.Labelled label colon body → directive_of_statement y ≡ None
unfolding facts_of_statement directive_of_statement
directive_Labelled y label colon body h = ap directive_of_statement h ∙ ap (λ f. f.directive) (ap facts_of_statement (sym (s.rolls-Labelled label colon body)) ∙ fold-roll-Statement ClassElementFacts HeritageFacts ExpressionFacts LinkFacts TellingBy ElementFacts PropertyNameFacts Telling Telling Telling TellingAs Telling Telling StatementFacts ClassFacts Telling Telling SubstitutionsFacts FunctionFacts MethodFacts BracketedFacts ElementsFacts NextElementFacts BlockFacts Telling Telling Telling class_element_step heritage_step expression_step link_step concise_body_step element_step property_name_step case_clause_step else_step finalizer_step for_start_step handler_step maybe_expression_step statement_step class_step operand_step substitution_step substitutions_step function_step method_step bracketed_step elements_step next_element_step block_step declaration_step else_if_step if_clause_step (Statement-F.Labelled label colon body))

pub is_Throw : (y : Statement) (word : Token) (x : Expression) (end : Option Token) (text : List ℕ) (setting : Setting) → y ≡ s.Throw word x end → breaches_of_statement y text setting ≡ breaches_of_expression x text setting r.Value
unfolding facts_of_statement breaches_of_statement is_loop_of_statement directive_of_statement facts_of_expression breaches_of_expression shape_of_expression
is_Throw y word x end text setting h = ap (λ z. breaches_of_statement z text setting) h ∙ ap (λ f. f.breaches text setting) (ap facts_of_statement (sym (s.rolls-Throw word x end)) ∙ fold-roll-Statement ClassElementFacts HeritageFacts ExpressionFacts LinkFacts TellingBy ElementFacts PropertyNameFacts Telling Telling Telling TellingAs Telling Telling StatementFacts ClassFacts Telling Telling SubstitutionsFacts FunctionFacts MethodFacts BracketedFacts ElementsFacts NextElementFacts BlockFacts Telling Telling Telling class_element_step heritage_step expression_step link_step concise_body_step element_step property_name_step case_clause_step else_step finalizer_step for_start_step handler_step maybe_expression_step statement_step class_step operand_step substitution_step substitutions_step function_step method_step bracketed_step elements_step next_element_step block_step declaration_step else_if_step if_clause_step (Statement-F.Throw word x end))

pub loop_Throw : (y : Statement) (word : Token) (x : Expression) (end : Option Token) → y ≡ s.Throw word x end → is_loop_of_statement y ≡ false
unfolding facts_of_statement is_loop_of_statement
loop_Throw y word x end h = ap is_loop_of_statement h ∙ ap (λ f. f.is_loop) (ap facts_of_statement (sym (s.rolls-Throw word x end)) ∙ fold-roll-Statement ClassElementFacts HeritageFacts ExpressionFacts LinkFacts TellingBy ElementFacts PropertyNameFacts Telling Telling Telling TellingAs Telling Telling StatementFacts ClassFacts Telling Telling SubstitutionsFacts FunctionFacts MethodFacts BracketedFacts ElementsFacts NextElementFacts BlockFacts Telling Telling Telling class_element_step heritage_step expression_step link_step concise_body_step element_step property_name_step case_clause_step else_step finalizer_step for_start_step handler_step maybe_expression_step statement_step class_step operand_step substitution_step substitutions_step function_step method_step bracketed_step elements_step next_element_step block_step declaration_step else_if_step if_clause_step (Statement-F.Throw word x end))

pub directive_Throw : (y : Statement) (word : Token) (x : Expression) (end : Option Token) → y ≡ s.Throw word x end → directive_of_statement y ≡ None
unfolding facts_of_statement directive_of_statement
directive_Throw y word x end h = ap directive_of_statement h ∙ ap (λ f. f.directive) (ap facts_of_statement (sym (s.rolls-Throw word x end)) ∙ fold-roll-Statement ClassElementFacts HeritageFacts ExpressionFacts LinkFacts TellingBy ElementFacts PropertyNameFacts Telling Telling Telling TellingAs Telling Telling StatementFacts ClassFacts Telling Telling SubstitutionsFacts FunctionFacts MethodFacts BracketedFacts ElementsFacts NextElementFacts BlockFacts Telling Telling Telling class_element_step heritage_step expression_step link_step concise_body_step element_step property_name_step case_clause_step else_step finalizer_step for_start_step handler_step maybe_expression_step statement_step class_step operand_step substitution_step substitutions_step function_step method_step bracketed_step elements_step next_element_step block_step declaration_step else_if_step if_clause_step (Statement-F.Throw word x end))

pub is_Try : (y : Statement) (word : Token) (block : Block) (handler : Handler) (finalizer : Finalizer) (text : List ℕ) (setting : Setting) → y ≡ s.Try word block handler finalizer → breaches_of_statement y text setting ≡ together (breaches_of_block block text setting ∷ breaches_of_handler handler text setting ∷ breaches_of_finalizer finalizer text setting ∷ [])
unfolding facts_of_statement breaches_of_statement is_loop_of_statement directive_of_statement facts_of_block breaches_of_block use_strict_of_block breaches_of_handler breaches_of_finalizer
is_Try y word block handler finalizer text setting h = ap (λ z. breaches_of_statement z text setting) h ∙ ap (λ f. f.breaches text setting) (ap facts_of_statement (sym (s.rolls-Try word block handler finalizer)) ∙ fold-roll-Statement ClassElementFacts HeritageFacts ExpressionFacts LinkFacts TellingBy ElementFacts PropertyNameFacts Telling Telling Telling TellingAs Telling Telling StatementFacts ClassFacts Telling Telling SubstitutionsFacts FunctionFacts MethodFacts BracketedFacts ElementsFacts NextElementFacts BlockFacts Telling Telling Telling class_element_step heritage_step expression_step link_step concise_body_step element_step property_name_step case_clause_step else_step finalizer_step for_start_step handler_step maybe_expression_step statement_step class_step operand_step substitution_step substitutions_step function_step method_step bracketed_step elements_step next_element_step block_step declaration_step else_if_step if_clause_step (Statement-F.Try word block handler finalizer))

pub loop_Try : (y : Statement) (word : Token) (block : Block) (handler : Handler) (finalizer : Finalizer) → y ≡ s.Try word block handler finalizer → is_loop_of_statement y ≡ false
unfolding facts_of_statement is_loop_of_statement
loop_Try y word block handler finalizer h = ap is_loop_of_statement h ∙ ap (λ f. f.is_loop) (ap facts_of_statement (sym (s.rolls-Try word block handler finalizer)) ∙ fold-roll-Statement ClassElementFacts HeritageFacts ExpressionFacts LinkFacts TellingBy ElementFacts PropertyNameFacts Telling Telling Telling TellingAs Telling Telling StatementFacts ClassFacts Telling Telling SubstitutionsFacts FunctionFacts MethodFacts BracketedFacts ElementsFacts NextElementFacts BlockFacts Telling Telling Telling class_element_step heritage_step expression_step link_step concise_body_step element_step property_name_step case_clause_step else_step finalizer_step for_start_step handler_step maybe_expression_step statement_step class_step operand_step substitution_step substitutions_step function_step method_step bracketed_step elements_step next_element_step block_step declaration_step else_if_step if_clause_step (Statement-F.Try word block handler finalizer))

pub directive_Try : (y : Statement) (word : Token) (block : Block) (handler : Handler) (finalizer : Finalizer) → y ≡ s.Try word block handler finalizer → directive_of_statement y ≡ None
unfolding facts_of_statement directive_of_statement
directive_Try y word block handler finalizer h = ap directive_of_statement h ∙ ap (λ f. f.directive) (ap facts_of_statement (sym (s.rolls-Try word block handler finalizer)) ∙ fold-roll-Statement ClassElementFacts HeritageFacts ExpressionFacts LinkFacts TellingBy ElementFacts PropertyNameFacts Telling Telling Telling TellingAs Telling Telling StatementFacts ClassFacts Telling Telling SubstitutionsFacts FunctionFacts MethodFacts BracketedFacts ElementsFacts NextElementFacts BlockFacts Telling Telling Telling class_element_step heritage_step expression_step link_step concise_body_step element_step property_name_step case_clause_step else_step finalizer_step for_start_step handler_step maybe_expression_step statement_step class_step operand_step substitution_step substitutions_step function_step method_step bracketed_step elements_step next_element_step block_step declaration_step else_if_step if_clause_step (Statement-F.Try word block handler finalizer))

pub is_Debugger : (y : Statement) (word : Token) (end : Option Token) (text : List ℕ) (setting : Setting) → y ≡ s.Debugger word end → breaches_of_statement y text setting ≡ together ([])
unfolding facts_of_statement breaches_of_statement is_loop_of_statement directive_of_statement
is_Debugger y word end text setting h = ap (λ z. breaches_of_statement z text setting) h ∙ ap (λ f. f.breaches text setting) (ap facts_of_statement (sym (s.rolls-Debugger word end)) ∙ fold-roll-Statement ClassElementFacts HeritageFacts ExpressionFacts LinkFacts TellingBy ElementFacts PropertyNameFacts Telling Telling Telling TellingAs Telling Telling StatementFacts ClassFacts Telling Telling SubstitutionsFacts FunctionFacts MethodFacts BracketedFacts ElementsFacts NextElementFacts BlockFacts Telling Telling Telling class_element_step heritage_step expression_step link_step concise_body_step element_step property_name_step case_clause_step else_step finalizer_step for_start_step handler_step maybe_expression_step statement_step class_step operand_step substitution_step substitutions_step function_step method_step bracketed_step elements_step next_element_step block_step declaration_step else_if_step if_clause_step (Statement-F.Debugger word end))

pub loop_Debugger : (y : Statement) (word : Token) (end : Option Token) → y ≡ s.Debugger word end → is_loop_of_statement y ≡ false
unfolding facts_of_statement is_loop_of_statement
loop_Debugger y word end h = ap is_loop_of_statement h ∙ ap (λ f. f.is_loop) (ap facts_of_statement (sym (s.rolls-Debugger word end)) ∙ fold-roll-Statement ClassElementFacts HeritageFacts ExpressionFacts LinkFacts TellingBy ElementFacts PropertyNameFacts Telling Telling Telling TellingAs Telling Telling StatementFacts ClassFacts Telling Telling SubstitutionsFacts FunctionFacts MethodFacts BracketedFacts ElementsFacts NextElementFacts BlockFacts Telling Telling Telling class_element_step heritage_step expression_step link_step concise_body_step element_step property_name_step case_clause_step else_step finalizer_step for_start_step handler_step maybe_expression_step statement_step class_step operand_step substitution_step substitutions_step function_step method_step bracketed_step elements_step next_element_step block_step declaration_step else_if_step if_clause_step (Statement-F.Debugger word end))

pub directive_Debugger : (y : Statement) (word : Token) (end : Option Token) → y ≡ s.Debugger word end → directive_of_statement y ≡ None
unfolding facts_of_statement directive_of_statement
directive_Debugger y word end h = ap directive_of_statement h ∙ ap (λ f. f.directive) (ap facts_of_statement (sym (s.rolls-Debugger word end)) ∙ fold-roll-Statement ClassElementFacts HeritageFacts ExpressionFacts LinkFacts TellingBy ElementFacts PropertyNameFacts Telling Telling Telling TellingAs Telling Telling StatementFacts ClassFacts Telling Telling SubstitutionsFacts FunctionFacts MethodFacts BracketedFacts ElementsFacts NextElementFacts BlockFacts Telling Telling Telling class_element_step heritage_step expression_step link_step concise_body_step element_step property_name_step case_clause_step else_step finalizer_step for_start_step handler_step maybe_expression_step statement_step class_step operand_step substitution_step substitutions_step function_step method_step bracketed_step elements_step next_element_step block_step declaration_step else_if_step if_clause_step (Statement-F.Debugger word end))

pub is_FunctionDeclaration : (y : Statement) (function : Function) (text : List ℕ) (setting : Setting) → y ≡ s.FunctionDeclaration function → breaches_of_statement y text setting ≡ breaches_of_function function text setting
unfolding facts_of_statement breaches_of_statement is_loop_of_statement directive_of_statement facts_of_function breaches_of_function shape_of_function
is_FunctionDeclaration y function text setting h = ap (λ z. breaches_of_statement z text setting) h ∙ ap (λ f. f.breaches text setting) (ap facts_of_statement (sym (s.rolls-FunctionDeclaration function)) ∙ fold-roll-Statement ClassElementFacts HeritageFacts ExpressionFacts LinkFacts TellingBy ElementFacts PropertyNameFacts Telling Telling Telling TellingAs Telling Telling StatementFacts ClassFacts Telling Telling SubstitutionsFacts FunctionFacts MethodFacts BracketedFacts ElementsFacts NextElementFacts BlockFacts Telling Telling Telling class_element_step heritage_step expression_step link_step concise_body_step element_step property_name_step case_clause_step else_step finalizer_step for_start_step handler_step maybe_expression_step statement_step class_step operand_step substitution_step substitutions_step function_step method_step bracketed_step elements_step next_element_step block_step declaration_step else_if_step if_clause_step (Statement-F.FunctionDeclaration function))

pub loop_FunctionDeclaration : (y : Statement) (function : Function) → y ≡ s.FunctionDeclaration function → is_loop_of_statement y ≡ false
unfolding facts_of_statement is_loop_of_statement
loop_FunctionDeclaration y function h = ap is_loop_of_statement h ∙ ap (λ f. f.is_loop) (ap facts_of_statement (sym (s.rolls-FunctionDeclaration function)) ∙ fold-roll-Statement ClassElementFacts HeritageFacts ExpressionFacts LinkFacts TellingBy ElementFacts PropertyNameFacts Telling Telling Telling TellingAs Telling Telling StatementFacts ClassFacts Telling Telling SubstitutionsFacts FunctionFacts MethodFacts BracketedFacts ElementsFacts NextElementFacts BlockFacts Telling Telling Telling class_element_step heritage_step expression_step link_step concise_body_step element_step property_name_step case_clause_step else_step finalizer_step for_start_step handler_step maybe_expression_step statement_step class_step operand_step substitution_step substitutions_step function_step method_step bracketed_step elements_step next_element_step block_step declaration_step else_if_step if_clause_step (Statement-F.FunctionDeclaration function))

pub directive_FunctionDeclaration : (y : Statement) (function : Function) → y ≡ s.FunctionDeclaration function → directive_of_statement y ≡ None
unfolding facts_of_statement directive_of_statement
directive_FunctionDeclaration y function h = ap directive_of_statement h ∙ ap (λ f. f.directive) (ap facts_of_statement (sym (s.rolls-FunctionDeclaration function)) ∙ fold-roll-Statement ClassElementFacts HeritageFacts ExpressionFacts LinkFacts TellingBy ElementFacts PropertyNameFacts Telling Telling Telling TellingAs Telling Telling StatementFacts ClassFacts Telling Telling SubstitutionsFacts FunctionFacts MethodFacts BracketedFacts ElementsFacts NextElementFacts BlockFacts Telling Telling Telling class_element_step heritage_step expression_step link_step concise_body_step element_step property_name_step case_clause_step else_step finalizer_step for_start_step handler_step maybe_expression_step statement_step class_step operand_step substitution_step substitutions_step function_step method_step bracketed_step elements_step next_element_step block_step declaration_step else_if_step if_clause_step (Statement-F.FunctionDeclaration function))

pub is_ClassDeclaration : (y : Statement) (class : Class) (text : List ℕ) (setting : Setting) → y ≡ s.ClassDeclaration class → breaches_of_statement y text setting ≡ breaches_of_class class text setting
unfolding facts_of_statement breaches_of_statement is_loop_of_statement directive_of_statement facts_of_class breaches_of_class shape_of_class
is_ClassDeclaration y class text setting h = ap (λ z. breaches_of_statement z text setting) h ∙ ap (λ f. f.breaches text setting) (ap facts_of_statement (sym (s.rolls-ClassDeclaration class)) ∙ fold-roll-Statement ClassElementFacts HeritageFacts ExpressionFacts LinkFacts TellingBy ElementFacts PropertyNameFacts Telling Telling Telling TellingAs Telling Telling StatementFacts ClassFacts Telling Telling SubstitutionsFacts FunctionFacts MethodFacts BracketedFacts ElementsFacts NextElementFacts BlockFacts Telling Telling Telling class_element_step heritage_step expression_step link_step concise_body_step element_step property_name_step case_clause_step else_step finalizer_step for_start_step handler_step maybe_expression_step statement_step class_step operand_step substitution_step substitutions_step function_step method_step bracketed_step elements_step next_element_step block_step declaration_step else_if_step if_clause_step (Statement-F.ClassDeclaration class))

pub loop_ClassDeclaration : (y : Statement) (class : Class) → y ≡ s.ClassDeclaration class → is_loop_of_statement y ≡ false
unfolding facts_of_statement is_loop_of_statement
loop_ClassDeclaration y class h = ap is_loop_of_statement h ∙ ap (λ f. f.is_loop) (ap facts_of_statement (sym (s.rolls-ClassDeclaration class)) ∙ fold-roll-Statement ClassElementFacts HeritageFacts ExpressionFacts LinkFacts TellingBy ElementFacts PropertyNameFacts Telling Telling Telling TellingAs Telling Telling StatementFacts ClassFacts Telling Telling SubstitutionsFacts FunctionFacts MethodFacts BracketedFacts ElementsFacts NextElementFacts BlockFacts Telling Telling Telling class_element_step heritage_step expression_step link_step concise_body_step element_step property_name_step case_clause_step else_step finalizer_step for_start_step handler_step maybe_expression_step statement_step class_step operand_step substitution_step substitutions_step function_step method_step bracketed_step elements_step next_element_step block_step declaration_step else_if_step if_clause_step (Statement-F.ClassDeclaration class))

pub directive_ClassDeclaration : (y : Statement) (class : Class) → y ≡ s.ClassDeclaration class → directive_of_statement y ≡ None
unfolding facts_of_statement directive_of_statement
directive_ClassDeclaration y class h = ap directive_of_statement h ∙ ap (λ f. f.directive) (ap facts_of_statement (sym (s.rolls-ClassDeclaration class)) ∙ fold-roll-Statement ClassElementFacts HeritageFacts ExpressionFacts LinkFacts TellingBy ElementFacts PropertyNameFacts Telling Telling Telling TellingAs Telling Telling StatementFacts ClassFacts Telling Telling SubstitutionsFacts FunctionFacts MethodFacts BracketedFacts ElementsFacts NextElementFacts BlockFacts Telling Telling Telling class_element_step heritage_step expression_step link_step concise_body_step element_step property_name_step case_clause_step else_step finalizer_step for_start_step handler_step maybe_expression_step statement_step class_step operand_step substitution_step substitutions_step function_step method_step bracketed_step elements_step next_element_step block_step declaration_step else_if_step if_clause_step (Statement-F.ClassDeclaration class))

made_Class : (word : Token) (name : Option Token) (heritage : Heritage) (begin : Token) (elements : List ClassElement) (ending : Token) (text : List ℕ) (setting : Setting) → breaches_of_class (roll-Class (record { word = word; name = name; heritage = heritage; begin = begin; elements = elements; ending = ending })) text setting ≡ together (declared_breaches text name ∷ breaches_of_heritage heritage text setting ∷ class_elements_breaches text setting (shape_of_heritage heritage) false (map facts_of_class_element elements) ∷ [])
unfolding facts_of_class breaches_of_class shape_of_class facts_of_heritage breaches_of_heritage shape_of_heritage facts_of_class_element breaches_of_class_element shape_of_class_element
made_Class word name heritage begin elements ending text setting = ap (λ f. f.breaches text setting) (fold-roll-Class ClassElementFacts HeritageFacts ExpressionFacts LinkFacts TellingBy ElementFacts PropertyNameFacts Telling Telling Telling TellingAs Telling Telling StatementFacts ClassFacts Telling Telling SubstitutionsFacts FunctionFacts MethodFacts BracketedFacts ElementsFacts NextElementFacts BlockFacts Telling Telling Telling class_element_step heritage_step expression_step link_step concise_body_step element_step property_name_step case_clause_step else_step finalizer_step for_start_step handler_step maybe_expression_step statement_step class_step operand_step substitution_step substitutions_step function_step method_step bracketed_step elements_step next_element_step block_step declaration_step else_if_step if_clause_step (record { word = word; name = name; heritage = heritage; begin = begin; elements = elements; ending = ending }))

pub at_Class : (y : Class) (text : List ℕ) (setting : Setting) → breaches_of_class y text setting ≡ together (declared_breaches text (out-Class y).name ∷ breaches_of_heritage (out-Class y).heritage text setting ∷ class_elements_breaches text setting (shape_of_heritage (out-Class y).heritage) false (map facts_of_class_element (out-Class y).elements) ∷ [])
at_Class y text setting = ap (λ z. breaches_of_class z text setting) (sym (roll-out-Class y)) ∙ made_Class (out-Class y).word (out-Class y).name (out-Class y).heritage (out-Class y).begin (out-Class y).elements (out-Class y).ending text setting

shaped_Class : (word : Token) (name : Option Token) (heritage : Heritage) (begin : Token) (elements : List ClassElement) (ending : Token) → shape_of_class (roll-Class (record { word = word; name = name; heritage = heritage; begin = begin; elements = elements; ending = ending })) ≡ word.start
unfolding facts_of_class breaches_of_class shape_of_class facts_of_heritage breaches_of_heritage shape_of_heritage facts_of_class_element breaches_of_class_element shape_of_class_element
shaped_Class word name heritage begin elements ending = ap (λ f. f.shape) (fold-roll-Class ClassElementFacts HeritageFacts ExpressionFacts LinkFacts TellingBy ElementFacts PropertyNameFacts Telling Telling Telling TellingAs Telling Telling StatementFacts ClassFacts Telling Telling SubstitutionsFacts FunctionFacts MethodFacts BracketedFacts ElementsFacts NextElementFacts BlockFacts Telling Telling Telling class_element_step heritage_step expression_step link_step concise_body_step element_step property_name_step case_clause_step else_step finalizer_step for_start_step handler_step maybe_expression_step statement_step class_step operand_step substitution_step substitutions_step function_step method_step bracketed_step elements_step next_element_step block_step declaration_step else_if_step if_clause_step (record { word = word; name = name; heritage = heritage; begin = begin; elements = elements; ending = ending }))

pub shape_at_Class : (y : Class) → shape_of_class y ≡ (out-Class y).word.start
shape_at_Class y = ap shape_of_class (sym (roll-out-Class y)) ∙ shaped_Class (out-Class y).word (out-Class y).name (out-Class y).heritage (out-Class y).begin (out-Class y).elements (out-Class y).ending

made_Operand : (operator : Token) (value : Expression) (text : List ℕ) (setting : Setting) → breaches_of_operand (roll-Operand (record { operator = operator; value = value })) text setting ≡ breaches_of_expression value text setting r.Value
unfolding breaches_of_operand facts_of_expression breaches_of_expression shape_of_expression
made_Operand operator value text setting = ap (λ f. f text setting) (fold-roll-Operand ClassElementFacts HeritageFacts ExpressionFacts LinkFacts TellingBy ElementFacts PropertyNameFacts Telling Telling Telling TellingAs Telling Telling StatementFacts ClassFacts Telling Telling SubstitutionsFacts FunctionFacts MethodFacts BracketedFacts ElementsFacts NextElementFacts BlockFacts Telling Telling Telling class_element_step heritage_step expression_step link_step concise_body_step element_step property_name_step case_clause_step else_step finalizer_step for_start_step handler_step maybe_expression_step statement_step class_step operand_step substitution_step substitutions_step function_step method_step bracketed_step elements_step next_element_step block_step declaration_step else_if_step if_clause_step (record { operator = operator; value = value }))

pub at_Operand : (y : Operand) (text : List ℕ) (setting : Setting) → breaches_of_operand y text setting ≡ breaches_of_expression (out-Operand y).value text setting r.Value
at_Operand y text setting = ap (λ z. breaches_of_operand z text setting) (sym (roll-out-Operand y)) ∙ made_Operand (out-Operand y).operator (out-Operand y).value text setting

made_Substitution : (middle : Token) (value : Expression) (text : List ℕ) (setting : Setting) → breaches_of_substitution (roll-Substitution (record { middle = middle; value = value })) text setting ≡ breaches_of_expression value text setting r.Value
unfolding breaches_of_substitution facts_of_expression breaches_of_expression shape_of_expression
made_Substitution middle value text setting = ap (λ f. f text setting) (fold-roll-Substitution ClassElementFacts HeritageFacts ExpressionFacts LinkFacts TellingBy ElementFacts PropertyNameFacts Telling Telling Telling TellingAs Telling Telling StatementFacts ClassFacts Telling Telling SubstitutionsFacts FunctionFacts MethodFacts BracketedFacts ElementsFacts NextElementFacts BlockFacts Telling Telling Telling class_element_step heritage_step expression_step link_step concise_body_step element_step property_name_step case_clause_step else_step finalizer_step for_start_step handler_step maybe_expression_step statement_step class_step operand_step substitution_step substitutions_step function_step method_step bracketed_step elements_step next_element_step block_step declaration_step else_if_step if_clause_step (record { middle = middle; value = value }))

pub at_Substitution : (y : Substitution) (text : List ℕ) (setting : Setting) → breaches_of_substitution y text setting ≡ breaches_of_expression (out-Substitution y).value text setting r.Value
at_Substitution y text setting = ap (λ z. breaches_of_substitution z text setting) (sym (roll-out-Substitution y)) ∙ made_Substitution (out-Substitution y).middle (out-Substitution y).value text setting

made_Substitutions : (head : Token) (first : Expression) (rest : List Substitution) (tail : Token) (text : List ℕ) (setting : Setting) → breaches_of_substitutions (roll-Substitutions (record { head = head; first = first; rest = rest; tail = tail })) text setting ≡ together (breaches_of_expression first text setting r.Value ∷ each text setting (map breaches_of_substitution rest) ∷ [])
unfolding facts_of_substitutions breaches_of_substitutions shape_of_substitutions facts_of_expression breaches_of_expression shape_of_expression breaches_of_substitution
made_Substitutions head first rest tail text setting = ap (λ f. f.breaches text setting) (fold-roll-Substitutions ClassElementFacts HeritageFacts ExpressionFacts LinkFacts TellingBy ElementFacts PropertyNameFacts Telling Telling Telling TellingAs Telling Telling StatementFacts ClassFacts Telling Telling SubstitutionsFacts FunctionFacts MethodFacts BracketedFacts ElementsFacts NextElementFacts BlockFacts Telling Telling Telling class_element_step heritage_step expression_step link_step concise_body_step element_step property_name_step case_clause_step else_step finalizer_step for_start_step handler_step maybe_expression_step statement_step class_step operand_step substitution_step substitutions_step function_step method_step bracketed_step elements_step next_element_step block_step declaration_step else_if_step if_clause_step (record { head = head; first = first; rest = rest; tail = tail }))

pub at_Substitutions : (y : Substitutions) (text : List ℕ) (setting : Setting) → breaches_of_substitutions y text setting ≡ together (breaches_of_expression (out-Substitutions y).first text setting r.Value ∷ each text setting (map breaches_of_substitution (out-Substitutions y).rest) ∷ [])
at_Substitutions y text setting = ap (λ z. breaches_of_substitutions z text setting) (sym (roll-out-Substitutions y)) ∙ made_Substitutions (out-Substitutions y).head (out-Substitutions y).first (out-Substitutions y).rest (out-Substitutions y).tail text setting

shaped_Substitutions : (head : Token) (first : Expression) (rest : List Substitution) (tail : Token) → shape_of_substitutions (roll-Substitutions (record { head = head; first = first; rest = rest; tail = tail })) ≡ head.start
unfolding facts_of_substitutions breaches_of_substitutions shape_of_substitutions facts_of_expression breaches_of_expression shape_of_expression breaches_of_substitution
shaped_Substitutions head first rest tail = ap (λ f. f.shape) (fold-roll-Substitutions ClassElementFacts HeritageFacts ExpressionFacts LinkFacts TellingBy ElementFacts PropertyNameFacts Telling Telling Telling TellingAs Telling Telling StatementFacts ClassFacts Telling Telling SubstitutionsFacts FunctionFacts MethodFacts BracketedFacts ElementsFacts NextElementFacts BlockFacts Telling Telling Telling class_element_step heritage_step expression_step link_step concise_body_step element_step property_name_step case_clause_step else_step finalizer_step for_start_step handler_step maybe_expression_step statement_step class_step operand_step substitution_step substitutions_step function_step method_step bracketed_step elements_step next_element_step block_step declaration_step else_if_step if_clause_step (record { head = head; first = first; rest = rest; tail = tail }))

pub shape_at_Substitutions : (y : Substitutions) → shape_of_substitutions y ≡ (out-Substitutions y).head.start
shape_at_Substitutions y = ap shape_of_substitutions (sym (roll-out-Substitutions y)) ∙ shaped_Substitutions (out-Substitutions y).head (out-Substitutions y).first (out-Substitutions y).rest (out-Substitutions y).tail

made_Function : (async_word : Option Token) (word : Token) (star : Option Token) (name : Option Token) (parameters : Bracketed) (body : Block) (text : List ℕ) (setting : Setting) → breaches_of_function (roll-Function (record { async_word = async_word; word = word; star = star; name = name; parameters = parameters; body = body })) text setting ≡ together (declared_breaches text name ∷ repeated_breaches text (names_of_bracketed parameters) ∷ breaches_of_bracketed parameters text of_function_parameters lr.ArrayPattern ∷ unlabelled (breaches_of_block body text of_function) ∷ strict_breaches (shape_of_bracketed parameters).is_plain (use_strict_of_block body text) ∷ [])
unfolding facts_of_function breaches_of_function shape_of_function facts_of_bracketed breaches_of_bracketed shape_of_bracketed names_of_bracketed facts_of_block breaches_of_block use_strict_of_block
made_Function async_word word star name parameters body text setting = ap (λ f. f.breaches text setting) (fold-roll-Function ClassElementFacts HeritageFacts ExpressionFacts LinkFacts TellingBy ElementFacts PropertyNameFacts Telling Telling Telling TellingAs Telling Telling StatementFacts ClassFacts Telling Telling SubstitutionsFacts FunctionFacts MethodFacts BracketedFacts ElementsFacts NextElementFacts BlockFacts Telling Telling Telling class_element_step heritage_step expression_step link_step concise_body_step element_step property_name_step case_clause_step else_step finalizer_step for_start_step handler_step maybe_expression_step statement_step class_step operand_step substitution_step substitutions_step function_step method_step bracketed_step elements_step next_element_step block_step declaration_step else_if_step if_clause_step (record { async_word = async_word; word = word; star = star; name = name; parameters = parameters; body = body }))

pub at_Function : (y : Function) (text : List ℕ) (setting : Setting) → breaches_of_function y text setting ≡ together (declared_breaches text (out-Function y).name ∷ repeated_breaches text (names_of_bracketed (out-Function y).parameters) ∷ breaches_of_bracketed (out-Function y).parameters text of_function_parameters lr.ArrayPattern ∷ unlabelled (breaches_of_block (out-Function y).body text of_function) ∷ strict_breaches (shape_of_bracketed (out-Function y).parameters).is_plain (use_strict_of_block (out-Function y).body text) ∷ [])
at_Function y text setting = ap (λ z. breaches_of_function z text setting) (sym (roll-out-Function y)) ∙ made_Function (out-Function y).async_word (out-Function y).word (out-Function y).star (out-Function y).name (out-Function y).parameters (out-Function y).body text setting

shaped_Function : (async_word : Option Token) (word : Token) (star : Option Token) (name : Option Token) (parameters : Bracketed) (body : Block) → shape_of_function (roll-Function (record { async_word = async_word; word = word; star = star; name = name; parameters = parameters; body = body })) ≡ start_of_function async_word word
unfolding facts_of_function breaches_of_function shape_of_function facts_of_bracketed breaches_of_bracketed shape_of_bracketed names_of_bracketed facts_of_block breaches_of_block use_strict_of_block
shaped_Function async_word word star name parameters body = ap (λ f. f.shape) (fold-roll-Function ClassElementFacts HeritageFacts ExpressionFacts LinkFacts TellingBy ElementFacts PropertyNameFacts Telling Telling Telling TellingAs Telling Telling StatementFacts ClassFacts Telling Telling SubstitutionsFacts FunctionFacts MethodFacts BracketedFacts ElementsFacts NextElementFacts BlockFacts Telling Telling Telling class_element_step heritage_step expression_step link_step concise_body_step element_step property_name_step case_clause_step else_step finalizer_step for_start_step handler_step maybe_expression_step statement_step class_step operand_step substitution_step substitutions_step function_step method_step bracketed_step elements_step next_element_step block_step declaration_step else_if_step if_clause_step (record { async_word = async_word; word = word; star = star; name = name; parameters = parameters; body = body }))

pub shape_at_Function : (y : Function) → shape_of_function y ≡ start_of_function (out-Function y).async_word (out-Function y).word
shape_at_Function y = ap shape_of_function (sym (roll-out-Function y)) ∙ shaped_Function (out-Function y).async_word (out-Function y).word (out-Function y).star (out-Function y).name (out-Function y).parameters (out-Function y).body

made_Method : (word : Option Token) (star : Option Token) (name : PropertyName) (parameters : Bracketed) (body : Block) (text : List ℕ) (setting : Setting) (is_prototype : Bool) (is_derived : Bool) → breaches_of_method (roll-Method (record { word = word; star = star; name = name; parameters = parameters; body = body })) text setting is_prototype is_derived ≡ together (breaches_of_property_name name text setting ∷ constructor_breaches text is_prototype (shape_of_property_name name).key word star ∷ repeated_breaches text (names_of_bracketed parameters) ∷ breaches_of_bracketed parameters text (of_method_parameters text is_prototype is_derived (shape_of_property_name name).key) lr.ArrayPattern ∷ accessor_breaches text word (shape_of_property_name name).start (shape_of_bracketed parameters).is_empty (shape_of_bracketed parameters).is_one_value ∷ unlabelled (breaches_of_block body text (of_named_method text is_prototype is_derived (shape_of_property_name name).key)) ∷ strict_breaches (shape_of_bracketed parameters).is_plain (use_strict_of_block body text) ∷ [])
unfolding facts_of_method breaches_of_method shape_of_method facts_of_property_name breaches_of_property_name shape_of_property_name facts_of_bracketed breaches_of_bracketed shape_of_bracketed names_of_bracketed facts_of_block breaches_of_block use_strict_of_block
made_Method word star name parameters body text setting is_prototype is_derived = ap (λ f. f.breaches text setting is_prototype is_derived) (fold-roll-Method ClassElementFacts HeritageFacts ExpressionFacts LinkFacts TellingBy ElementFacts PropertyNameFacts Telling Telling Telling TellingAs Telling Telling StatementFacts ClassFacts Telling Telling SubstitutionsFacts FunctionFacts MethodFacts BracketedFacts ElementsFacts NextElementFacts BlockFacts Telling Telling Telling class_element_step heritage_step expression_step link_step concise_body_step element_step property_name_step case_clause_step else_step finalizer_step for_start_step handler_step maybe_expression_step statement_step class_step operand_step substitution_step substitutions_step function_step method_step bracketed_step elements_step next_element_step block_step declaration_step else_if_step if_clause_step (record { word = word; star = star; name = name; parameters = parameters; body = body }))

pub at_Method : (y : Method) (text : List ℕ) (setting : Setting) (is_prototype : Bool) (is_derived : Bool) → breaches_of_method y text setting is_prototype is_derived ≡ together (breaches_of_property_name (out-Method y).name text setting ∷ constructor_breaches text is_prototype (shape_of_property_name (out-Method y).name).key (out-Method y).word (out-Method y).star ∷ repeated_breaches text (names_of_bracketed (out-Method y).parameters) ∷ breaches_of_bracketed (out-Method y).parameters text (of_method_parameters text is_prototype is_derived (shape_of_property_name (out-Method y).name).key) lr.ArrayPattern ∷ accessor_breaches text (out-Method y).word (shape_of_property_name (out-Method y).name).start (shape_of_bracketed (out-Method y).parameters).is_empty (shape_of_bracketed (out-Method y).parameters).is_one_value ∷ unlabelled (breaches_of_block (out-Method y).body text (of_named_method text is_prototype is_derived (shape_of_property_name (out-Method y).name).key)) ∷ strict_breaches (shape_of_bracketed (out-Method y).parameters).is_plain (use_strict_of_block (out-Method y).body text) ∷ [])
at_Method y text setting is_prototype is_derived = ap (λ z. breaches_of_method z text setting is_prototype is_derived) (sym (roll-out-Method y)) ∙ made_Method (out-Method y).word (out-Method y).star (out-Method y).name (out-Method y).parameters (out-Method y).body text setting is_prototype is_derived

shaped_Method : (word : Option Token) (star : Option Token) (name : PropertyName) (parameters : Bracketed) (body : Block) → shape_of_method (roll-Method (record { word = word; star = star; name = name; parameters = parameters; body = body })) ≡ (shape_of_property_name name).key
unfolding facts_of_method breaches_of_method shape_of_method facts_of_property_name breaches_of_property_name shape_of_property_name facts_of_bracketed breaches_of_bracketed shape_of_bracketed names_of_bracketed facts_of_block breaches_of_block use_strict_of_block
shaped_Method word star name parameters body = ap (λ f. f.shape) (fold-roll-Method ClassElementFacts HeritageFacts ExpressionFacts LinkFacts TellingBy ElementFacts PropertyNameFacts Telling Telling Telling TellingAs Telling Telling StatementFacts ClassFacts Telling Telling SubstitutionsFacts FunctionFacts MethodFacts BracketedFacts ElementsFacts NextElementFacts BlockFacts Telling Telling Telling class_element_step heritage_step expression_step link_step concise_body_step element_step property_name_step case_clause_step else_step finalizer_step for_start_step handler_step maybe_expression_step statement_step class_step operand_step substitution_step substitutions_step function_step method_step bracketed_step elements_step next_element_step block_step declaration_step else_if_step if_clause_step (record { word = word; star = star; name = name; parameters = parameters; body = body }))

pub shape_at_Method : (y : Method) → shape_of_method y ≡ (shape_of_property_name (out-Method y).name).key
shape_at_Method y = ap shape_of_method (sym (roll-out-Method y)) ∙ shaped_Method (out-Method y).word (out-Method y).star (out-Method y).name (out-Method y).parameters (out-Method y).body

made_Bracketed : (begin : Token) (list : Elements) (ending : Token) (text : List ℕ) (setting : Setting) (role : ListRole) → breaches_of_bracketed (roll-Bracketed (record { begin = begin; list = list; ending = ending })) text setting role ≡ breaches_of_elements list text setting role begin.start
unfolding facts_of_bracketed breaches_of_bracketed shape_of_bracketed facts_of_elements breaches_of_elements shape_of_elements
made_Bracketed begin list ending text setting role = ap (λ f. f.breaches text setting role) (fold-roll-Bracketed ClassElementFacts HeritageFacts ExpressionFacts LinkFacts TellingBy ElementFacts PropertyNameFacts Telling Telling Telling TellingAs Telling Telling StatementFacts ClassFacts Telling Telling SubstitutionsFacts FunctionFacts MethodFacts BracketedFacts ElementsFacts NextElementFacts BlockFacts Telling Telling Telling class_element_step heritage_step expression_step link_step concise_body_step element_step property_name_step case_clause_step else_step finalizer_step for_start_step handler_step maybe_expression_step statement_step class_step operand_step substitution_step substitutions_step function_step method_step bracketed_step elements_step next_element_step block_step declaration_step else_if_step if_clause_step (record { begin = begin; list = list; ending = ending }))

pub at_Bracketed : (y : Bracketed) (text : List ℕ) (setting : Setting) (role : ListRole) → breaches_of_bracketed y text setting role ≡ breaches_of_elements (out-Bracketed y).list text setting role (out-Bracketed y).begin.start
at_Bracketed y text setting role = ap (λ z. breaches_of_bracketed z text setting role) (sym (roll-out-Bracketed y)) ∙ made_Bracketed (out-Bracketed y).begin (out-Bracketed y).list (out-Bracketed y).ending text setting role

shaped_Bracketed : (begin : Token) (list : Elements) (ending : Token) → shape_of_bracketed (roll-Bracketed (record { begin = begin; list = list; ending = ending })) ≡ bracketed_shape begin (shape_of_elements list)
unfolding facts_of_bracketed breaches_of_bracketed shape_of_bracketed facts_of_elements breaches_of_elements shape_of_elements
shaped_Bracketed begin list ending = ap (λ f. f.shape) (fold-roll-Bracketed ClassElementFacts HeritageFacts ExpressionFacts LinkFacts TellingBy ElementFacts PropertyNameFacts Telling Telling Telling TellingAs Telling Telling StatementFacts ClassFacts Telling Telling SubstitutionsFacts FunctionFacts MethodFacts BracketedFacts ElementsFacts NextElementFacts BlockFacts Telling Telling Telling class_element_step heritage_step expression_step link_step concise_body_step element_step property_name_step case_clause_step else_step finalizer_step for_start_step handler_step maybe_expression_step statement_step class_step operand_step substitution_step substitutions_step function_step method_step bracketed_step elements_step next_element_step block_step declaration_step else_if_step if_clause_step (record { begin = begin; list = list; ending = ending }))

pub shape_at_Bracketed : (y : Bracketed) → shape_of_bracketed y ≡ bracketed_shape (out-Bracketed y).begin (shape_of_elements (out-Bracketed y).list)
shape_at_Bracketed y = ap shape_of_bracketed (sym (roll-out-Bracketed y)) ∙ shaped_Bracketed (out-Bracketed y).begin (out-Bracketed y).list (out-Bracketed y).ending

named_Bracketed : (begin : Token) (list : Elements) (ending : Token) → names_of_bracketed (roll-Bracketed (record { begin = begin; list = list; ending = ending })) ≡ names_of_elements list
unfolding facts_of_bracketed breaches_of_bracketed shape_of_bracketed names_of_bracketed facts_of_elements breaches_of_elements shape_of_elements names_of_elements
named_Bracketed begin list ending = ap (λ f. f.names) (fold-roll-Bracketed ClassElementFacts HeritageFacts ExpressionFacts LinkFacts TellingBy ElementFacts PropertyNameFacts Telling Telling Telling TellingAs Telling Telling StatementFacts ClassFacts Telling Telling SubstitutionsFacts FunctionFacts MethodFacts BracketedFacts ElementsFacts NextElementFacts BlockFacts Telling Telling Telling class_element_step heritage_step expression_step link_step concise_body_step element_step property_name_step case_clause_step else_step finalizer_step for_start_step handler_step maybe_expression_step statement_step class_step operand_step substitution_step substitutions_step function_step method_step bracketed_step elements_step next_element_step block_step declaration_step else_if_step if_clause_step (record { begin = begin; list = list; ending = ending }))

pub names_at_Bracketed : (y : Bracketed) → names_of_bracketed y ≡ names_of_elements (out-Bracketed y).list
names_at_Bracketed y = ap names_of_bracketed (sym (roll-out-Bracketed y)) ∙ named_Bracketed (out-Bracketed y).begin (out-Bracketed y).list (out-Bracketed y).ending

made_Elements : (first : Element) (rest : List NextElement) (text : List ℕ) (setting : Setting) (role : ListRole) (begin : ℕ) → breaches_of_elements (roll-Elements (record { first = first; rest = rest })) text setting role begin ≡ together (breaches_of_element first text setting (placed role begin (is_empty (map facts_of_next_element rest))) ∷ nexts_breaches text setting role begin (is_proto_in text (shape_of_element first).key) (map facts_of_next_element rest) ∷ [])
unfolding facts_of_elements breaches_of_elements shape_of_elements facts_of_element breaches_of_element shape_of_element facts_of_next_element breaches_of_next_element shape_of_next_element
made_Elements first rest text setting role begin = ap (λ f. f.breaches text setting role begin) (fold-roll-Elements ClassElementFacts HeritageFacts ExpressionFacts LinkFacts TellingBy ElementFacts PropertyNameFacts Telling Telling Telling TellingAs Telling Telling StatementFacts ClassFacts Telling Telling SubstitutionsFacts FunctionFacts MethodFacts BracketedFacts ElementsFacts NextElementFacts BlockFacts Telling Telling Telling class_element_step heritage_step expression_step link_step concise_body_step element_step property_name_step case_clause_step else_step finalizer_step for_start_step handler_step maybe_expression_step statement_step class_step operand_step substitution_step substitutions_step function_step method_step bracketed_step elements_step next_element_step block_step declaration_step else_if_step if_clause_step (record { first = first; rest = rest }))

pub at_Elements : (y : Elements) (text : List ℕ) (setting : Setting) (role : ListRole) (begin : ℕ) → breaches_of_elements y text setting role begin ≡ together (breaches_of_element (out-Elements y).first text setting (placed role begin (is_empty (map facts_of_next_element (out-Elements y).rest))) ∷ nexts_breaches text setting role begin (is_proto_in text (shape_of_element (out-Elements y).first).key) (map facts_of_next_element (out-Elements y).rest) ∷ [])
at_Elements y text setting role begin = ap (λ z. breaches_of_elements z text setting role begin) (sym (roll-out-Elements y)) ∙ made_Elements (out-Elements y).first (out-Elements y).rest text setting role begin

shaped_Elements : (first : Element) (rest : List NextElement) → shape_of_elements (roll-Elements (record { first = first; rest = rest })) ≡ elements_shape (shape_of_element first) (are_plain (map facts_of_next_element rest)) (is_empty (map facts_of_next_element rest))
unfolding facts_of_elements breaches_of_elements shape_of_elements facts_of_element breaches_of_element shape_of_element facts_of_next_element breaches_of_next_element shape_of_next_element
shaped_Elements first rest = ap (λ f. f.shape) (fold-roll-Elements ClassElementFacts HeritageFacts ExpressionFacts LinkFacts TellingBy ElementFacts PropertyNameFacts Telling Telling Telling TellingAs Telling Telling StatementFacts ClassFacts Telling Telling SubstitutionsFacts FunctionFacts MethodFacts BracketedFacts ElementsFacts NextElementFacts BlockFacts Telling Telling Telling class_element_step heritage_step expression_step link_step concise_body_step element_step property_name_step case_clause_step else_step finalizer_step for_start_step handler_step maybe_expression_step statement_step class_step operand_step substitution_step substitutions_step function_step method_step bracketed_step elements_step next_element_step block_step declaration_step else_if_step if_clause_step (record { first = first; rest = rest }))

pub shape_at_Elements : (y : Elements) → shape_of_elements y ≡ elements_shape (shape_of_element (out-Elements y).first) (are_plain (map facts_of_next_element (out-Elements y).rest)) (is_empty (map facts_of_next_element (out-Elements y).rest))
shape_at_Elements y = ap shape_of_elements (sym (roll-out-Elements y)) ∙ shaped_Elements (out-Elements y).first (out-Elements y).rest

named_Elements : (first : Element) (rest : List NextElement) → names_of_elements (roll-Elements (record { first = first; rest = rest })) ≡ names_of_element first ++ joined (map (λ f. f.names) (map facts_of_next_element rest))
unfolding facts_of_elements breaches_of_elements shape_of_elements names_of_elements facts_of_element breaches_of_element shape_of_element names_of_element facts_of_next_element breaches_of_next_element shape_of_next_element names_of_next_element
named_Elements first rest = ap (λ f. f.names) (fold-roll-Elements ClassElementFacts HeritageFacts ExpressionFacts LinkFacts TellingBy ElementFacts PropertyNameFacts Telling Telling Telling TellingAs Telling Telling StatementFacts ClassFacts Telling Telling SubstitutionsFacts FunctionFacts MethodFacts BracketedFacts ElementsFacts NextElementFacts BlockFacts Telling Telling Telling class_element_step heritage_step expression_step link_step concise_body_step element_step property_name_step case_clause_step else_step finalizer_step for_start_step handler_step maybe_expression_step statement_step class_step operand_step substitution_step substitutions_step function_step method_step bracketed_step elements_step next_element_step block_step declaration_step else_if_step if_clause_step (record { first = first; rest = rest }))

pub names_at_Elements : (y : Elements) → names_of_elements y ≡ names_of_element (out-Elements y).first ++ joined (map (λ f. f.names) (map facts_of_next_element (out-Elements y).rest))
names_at_Elements y = ap names_of_elements (sym (roll-out-Elements y)) ∙ named_Elements (out-Elements y).first (out-Elements y).rest

made_NextElement : (comma : Token) (element : Element) (text : List ℕ) (setting : Setting) (place : Place) → breaches_of_next_element (roll-NextElement (record { comma = comma; element = element })) text setting place ≡ breaches_of_element element text setting place
unfolding facts_of_next_element breaches_of_next_element shape_of_next_element facts_of_element breaches_of_element shape_of_element
made_NextElement comma element text setting place = ap (λ f. f.breaches text setting place) (fold-roll-NextElement ClassElementFacts HeritageFacts ExpressionFacts LinkFacts TellingBy ElementFacts PropertyNameFacts Telling Telling Telling TellingAs Telling Telling StatementFacts ClassFacts Telling Telling SubstitutionsFacts FunctionFacts MethodFacts BracketedFacts ElementsFacts NextElementFacts BlockFacts Telling Telling Telling class_element_step heritage_step expression_step link_step concise_body_step element_step property_name_step case_clause_step else_step finalizer_step for_start_step handler_step maybe_expression_step statement_step class_step operand_step substitution_step substitutions_step function_step method_step bracketed_step elements_step next_element_step block_step declaration_step else_if_step if_clause_step (record { comma = comma; element = element }))

pub at_NextElement : (y : NextElement) (text : List ℕ) (setting : Setting) (place : Place) → breaches_of_next_element y text setting place ≡ breaches_of_element (out-NextElement y).element text setting place
at_NextElement y text setting place = ap (λ z. breaches_of_next_element z text setting place) (sym (roll-out-NextElement y)) ∙ made_NextElement (out-NextElement y).comma (out-NextElement y).element text setting place

shaped_NextElement : (comma : Token) (element : Element) → shape_of_next_element (roll-NextElement (record { comma = comma; element = element })) ≡ (shape_of_element element)
unfolding facts_of_next_element breaches_of_next_element shape_of_next_element facts_of_element breaches_of_element shape_of_element
shaped_NextElement comma element = ap (λ f. f.shape) (fold-roll-NextElement ClassElementFacts HeritageFacts ExpressionFacts LinkFacts TellingBy ElementFacts PropertyNameFacts Telling Telling Telling TellingAs Telling Telling StatementFacts ClassFacts Telling Telling SubstitutionsFacts FunctionFacts MethodFacts BracketedFacts ElementsFacts NextElementFacts BlockFacts Telling Telling Telling class_element_step heritage_step expression_step link_step concise_body_step element_step property_name_step case_clause_step else_step finalizer_step for_start_step handler_step maybe_expression_step statement_step class_step operand_step substitution_step substitutions_step function_step method_step bracketed_step elements_step next_element_step block_step declaration_step else_if_step if_clause_step (record { comma = comma; element = element }))

pub shape_at_NextElement : (y : NextElement) → shape_of_next_element y ≡ (shape_of_element (out-NextElement y).element)
shape_at_NextElement y = ap shape_of_next_element (sym (roll-out-NextElement y)) ∙ shaped_NextElement (out-NextElement y).comma (out-NextElement y).element

named_NextElement : (comma : Token) (element : Element) → names_of_next_element (roll-NextElement (record { comma = comma; element = element })) ≡ names_of_element element
unfolding facts_of_next_element breaches_of_next_element shape_of_next_element names_of_next_element facts_of_element breaches_of_element shape_of_element names_of_element
named_NextElement comma element = ap (λ f. f.names) (fold-roll-NextElement ClassElementFacts HeritageFacts ExpressionFacts LinkFacts TellingBy ElementFacts PropertyNameFacts Telling Telling Telling TellingAs Telling Telling StatementFacts ClassFacts Telling Telling SubstitutionsFacts FunctionFacts MethodFacts BracketedFacts ElementsFacts NextElementFacts BlockFacts Telling Telling Telling class_element_step heritage_step expression_step link_step concise_body_step element_step property_name_step case_clause_step else_step finalizer_step for_start_step handler_step maybe_expression_step statement_step class_step operand_step substitution_step substitutions_step function_step method_step bracketed_step elements_step next_element_step block_step declaration_step else_if_step if_clause_step (record { comma = comma; element = element }))

pub names_at_NextElement : (y : NextElement) → names_of_next_element y ≡ names_of_element (out-NextElement y).element
names_at_NextElement y = ap names_of_next_element (sym (roll-out-NextElement y)) ∙ named_NextElement (out-NextElement y).comma (out-NextElement y).element

made_Block : (begin : Token) (body : List Statement) (ending : Token) (text : List ℕ) (setting : Setting) → breaches_of_block (roll-Block (record { begin = begin; body = body; ending = ending })) text setting ≡ each text setting (map (λ f. f.breaches) (map facts_of_statement body))
unfolding facts_of_block breaches_of_block use_strict_of_block facts_of_statement breaches_of_statement is_loop_of_statement directive_of_statement
made_Block begin body ending text setting = ap (λ f. f.breaches text setting) (fold-roll-Block ClassElementFacts HeritageFacts ExpressionFacts LinkFacts TellingBy ElementFacts PropertyNameFacts Telling Telling Telling TellingAs Telling Telling StatementFacts ClassFacts Telling Telling SubstitutionsFacts FunctionFacts MethodFacts BracketedFacts ElementsFacts NextElementFacts BlockFacts Telling Telling Telling class_element_step heritage_step expression_step link_step concise_body_step element_step property_name_step case_clause_step else_step finalizer_step for_start_step handler_step maybe_expression_step statement_step class_step operand_step substitution_step substitutions_step function_step method_step bracketed_step elements_step next_element_step block_step declaration_step else_if_step if_clause_step (record { begin = begin; body = body; ending = ending }))

pub at_Block : (y : Block) (text : List ℕ) (setting : Setting) → breaches_of_block y text setting ≡ each text setting (map (λ f. f.breaches) (map facts_of_statement (out-Block y).body))
at_Block y text setting = ap (λ z. breaches_of_block z text setting) (sym (roll-out-Block y)) ∙ made_Block (out-Block y).begin (out-Block y).body (out-Block y).ending text setting

strict_in_Block : (begin : Token) (body : List Statement) (ending : Token) (text : List ℕ) → use_strict_of_block (roll-Block (record { begin = begin; body = body; ending = ending })) text ≡ use_strict text (map (λ f. f.directive) (map facts_of_statement body))
unfolding facts_of_block use_strict_of_block facts_of_statement
strict_in_Block begin body ending text = ap (λ f. f.use_strict text) (fold-roll-Block ClassElementFacts HeritageFacts ExpressionFacts LinkFacts TellingBy ElementFacts PropertyNameFacts Telling Telling Telling TellingAs Telling Telling StatementFacts ClassFacts Telling Telling SubstitutionsFacts FunctionFacts MethodFacts BracketedFacts ElementsFacts NextElementFacts BlockFacts Telling Telling Telling class_element_step heritage_step expression_step link_step concise_body_step element_step property_name_step case_clause_step else_step finalizer_step for_start_step handler_step maybe_expression_step statement_step class_step operand_step substitution_step substitutions_step function_step method_step bracketed_step elements_step next_element_step block_step declaration_step else_if_step if_clause_step (record { begin = begin; body = body; ending = ending }))

pub strict_at_Block : (y : Block) (text : List ℕ) → use_strict_of_block y text ≡ use_strict text (map (λ f. f.directive) (map facts_of_statement (out-Block y).body))
strict_at_Block y text = ap (λ z. use_strict_of_block z text) (sym (roll-out-Block y)) ∙ strict_in_Block (out-Block y).begin (out-Block y).body (out-Block y).ending text

made_Declaration : (word : Token) (bindings : Elements) (text : List ℕ) (setting : Setting) → breaches_of_declaration (roll-Declaration (record { word = word; bindings = bindings })) text setting ≡ breaches_of_elements bindings text setting lr.ArrayPattern word.start
unfolding breaches_of_declaration facts_of_elements breaches_of_elements shape_of_elements
made_Declaration word bindings text setting = ap (λ f. f text setting) (fold-roll-Declaration ClassElementFacts HeritageFacts ExpressionFacts LinkFacts TellingBy ElementFacts PropertyNameFacts Telling Telling Telling TellingAs Telling Telling StatementFacts ClassFacts Telling Telling SubstitutionsFacts FunctionFacts MethodFacts BracketedFacts ElementsFacts NextElementFacts BlockFacts Telling Telling Telling class_element_step heritage_step expression_step link_step concise_body_step element_step property_name_step case_clause_step else_step finalizer_step for_start_step handler_step maybe_expression_step statement_step class_step operand_step substitution_step substitutions_step function_step method_step bracketed_step elements_step next_element_step block_step declaration_step else_if_step if_clause_step (record { word = word; bindings = bindings }))

pub at_Declaration : (y : Declaration) (text : List ℕ) (setting : Setting) → breaches_of_declaration y text setting ≡ breaches_of_elements (out-Declaration y).bindings text setting lr.ArrayPattern (out-Declaration y).word.start
at_Declaration y text setting = ap (λ z. breaches_of_declaration z text setting) (sym (roll-out-Declaration y)) ∙ made_Declaration (out-Declaration y).word (out-Declaration y).bindings text setting

made_ElseIf : (else_word : Token) (clause : IfClause) (text : List ℕ) (setting : Setting) → breaches_of_else_if (roll-ElseIf (record { else_word = else_word; clause = clause })) text setting ≡ breaches_of_if_clause clause text setting
unfolding breaches_of_else_if breaches_of_if_clause
made_ElseIf else_word clause text setting = ap (λ f. f text setting) (fold-roll-ElseIf ClassElementFacts HeritageFacts ExpressionFacts LinkFacts TellingBy ElementFacts PropertyNameFacts Telling Telling Telling TellingAs Telling Telling StatementFacts ClassFacts Telling Telling SubstitutionsFacts FunctionFacts MethodFacts BracketedFacts ElementsFacts NextElementFacts BlockFacts Telling Telling Telling class_element_step heritage_step expression_step link_step concise_body_step element_step property_name_step case_clause_step else_step finalizer_step for_start_step handler_step maybe_expression_step statement_step class_step operand_step substitution_step substitutions_step function_step method_step bracketed_step elements_step next_element_step block_step declaration_step else_if_step if_clause_step (record { else_word = else_word; clause = clause }))

pub at_ElseIf : (y : ElseIf) (text : List ℕ) (setting : Setting) → breaches_of_else_if y text setting ≡ breaches_of_if_clause (out-ElseIf y).clause text setting
at_ElseIf y text setting = ap (λ z. breaches_of_else_if z text setting) (sym (roll-out-ElseIf y)) ∙ made_ElseIf (out-ElseIf y).else_word (out-ElseIf y).clause text setting

made_IfClause : (word : Token) (begin : Token) (condition : Expression) (ending : Token) (body : Statement) (text : List ℕ) (setting : Setting) → breaches_of_if_clause (roll-IfClause (record { word = word; begin = begin; condition = condition; ending = ending; body = body })) text setting ≡ together (breaches_of_expression condition text setting r.Value ∷ breaches_of_statement body text setting ∷ [])
unfolding breaches_of_if_clause facts_of_expression breaches_of_expression shape_of_expression facts_of_statement breaches_of_statement is_loop_of_statement directive_of_statement
made_IfClause word begin condition ending body text setting = ap (λ f. f text setting) (fold-roll-IfClause ClassElementFacts HeritageFacts ExpressionFacts LinkFacts TellingBy ElementFacts PropertyNameFacts Telling Telling Telling TellingAs Telling Telling StatementFacts ClassFacts Telling Telling SubstitutionsFacts FunctionFacts MethodFacts BracketedFacts ElementsFacts NextElementFacts BlockFacts Telling Telling Telling class_element_step heritage_step expression_step link_step concise_body_step element_step property_name_step case_clause_step else_step finalizer_step for_start_step handler_step maybe_expression_step statement_step class_step operand_step substitution_step substitutions_step function_step method_step bracketed_step elements_step next_element_step block_step declaration_step else_if_step if_clause_step (record { word = word; begin = begin; condition = condition; ending = ending; body = body }))

pub at_IfClause : (y : IfClause) (text : List ℕ) (setting : Setting) → breaches_of_if_clause y text setting ≡ together (breaches_of_expression (out-IfClause y).condition text setting r.Value ∷ breaches_of_statement (out-IfClause y).body text setting ∷ [])
at_IfClause y text setting = ap (λ z. breaches_of_if_clause z text setting) (sym (roll-out-IfClause y)) ∙ made_IfClause (out-IfClause y).word (out-IfClause y).begin (out-IfClause y).condition (out-IfClause y).ending (out-IfClause y).body text setting

pub each_statement : (x : Statement) (xs : List Statement) (text : List ℕ) (setting : Setting)
    → each text setting (map (λ f. f.breaches) (map facts_of_statement (x ∷ xs))) ≡ (λ labels. breaches_of_statement x text setting labels ++ each text setting (map (λ f. f.breaches) (map facts_of_statement xs)) labels)
unfolding breaches_of_statement
each_statement x xs text setting = refl

pub each_class_element : (x : ClassElement) (xs : List ClassElement) (text : List ℕ) (setting : Setting) (is_derived has_one : Bool)
    → class_elements_breaches text setting is_derived has_one (map facts_of_class_element (x ∷ xs)) ≡ (λ labels. (breaches_of_class_element x text setting is_derived labels ++ second_constructor text has_one (shape_of_class_element x) labels) ++ class_elements_breaches text setting is_derived (has_one || is_constructor text (shape_of_class_element x)) (map facts_of_class_element xs) labels)
unfolding breaches_of_class_element shape_of_class_element
each_class_element x xs text setting is_derived has_one = refl

pub each_link : (x : Link) (xs : List Link) (text : List ℕ) (setting : Setting) (role : Role)
    → links_breaches text setting role (map facts_of_link (x ∷ xs)) ≡ (λ labels. breaches_of_link x text setting role labels ++ links_breaches text setting role (map facts_of_link xs) labels)
unfolding breaches_of_link
each_link x xs text setting role = refl

pub each_next : (x : NextElement) (xs : List NextElement) (text : List ℕ) (setting : Setting) (role : ListRole) (begin : ℕ) (has_proto : Bool)
    → nexts_breaches text setting role begin has_proto (map facts_of_next_element (x ∷ xs)) ≡ (λ labels. (breaches_of_next_element x text setting (placed role begin (is_empty (map facts_of_next_element xs))) labels ++ second_proto text role has_proto (shape_of_next_element x).key labels) ++ nexts_breaches text setting role begin (has_proto || is_proto_in text (shape_of_next_element x).key) (map facts_of_next_element xs) labels)
unfolding breaches_of_next_element shape_of_next_element
each_next x xs text setting role begin has_proto = refl

pub told_link : (x : Link) → shape_of_link x ≡ (facts_of_link x).shape
unfolding shape_of_link
told_link x = refl

pub each_names_of_link : (x : Link) (xs : List Link) → joined (map (λ f. f.names) (map facts_of_link (x ∷ xs))) ≡ names_of_link x ++ joined (map (λ f. f.names) (map facts_of_link xs))
unfolding names_of_link
each_names_of_link x xs = refl

pub each_names_of_next_element : (x : NextElement) (xs : List NextElement) → joined (map (λ f. f.names) (map facts_of_next_element (x ∷ xs))) ≡ names_of_next_element x ++ joined (map (λ f. f.names) (map facts_of_next_element xs))
unfolding names_of_next_element
each_names_of_next_element x xs = refl

pub told_next : (x : NextElement) → shape_of_next_element x ≡ (facts_of_next_element x).shape
unfolding shape_of_next_element
told_next x = refl
