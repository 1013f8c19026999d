-- The breaches of early rules in a tree: one line for each kind of node (ECMA-262, 11th edition).
use Rattle.std.specs.Prelude.{ℕ, Bool, true, false, ◌&&◌, List, [], ◌∷◌, ◌++◌, map, if◌then◌else◌, ◌||◌, Option, None}
use Rattle.esb_token.specs.declared.token.Token.{Token}
use Rattle.esb_tree.specs.declared.classes.ClassElement.TheOpen.{ClassElement-F, Heritage-F, Expression-F, Link-F, ConciseBody-F, Element-F, PropertyName-F, CaseClause-F, Else-F, Finalizer-F, ForStart-F, Handler-F, MaybeExpression-F, Statement-F, Class-F, Operand-F, Substitution-F, Substitutions-F, Function-F, Method-F, Bracketed-F, Elements-F, NextElement-F, Block-F, Declaration-F, ElseIf-F, IfClause-F}
use Rattle.esb_tree.specs.declared.classes.ClassElement.TheFolds.{fold-ClassElement, fold-Heritage, fold-Expression, fold-Link, fold-ConciseBody, fold-Element, fold-PropertyName, fold-CaseClause, fold-Else, fold-Finalizer, fold-ForStart, fold-Handler, fold-MaybeExpression, fold-Statement, fold-Class, fold-Operand, fold-Substitution, fold-Substitutions, fold-Function, fold-Method, fold-Bracketed, fold-Elements, fold-NextElement, fold-Block, fold-Declaration, fold-ElseIf, fold-IfClause}
use Rattle.esb_tree.specs.declared.classes.ClassElement.{ClassElement}
use Rattle.esb_tree.specs.declared.classes.Heritage.{Heritage}
use Rattle.esb_tree.specs.declared.expressions.Expression.{Expression}
use Rattle.esb_tree.specs.declared.expressions.Link.{Link}
use Rattle.esb_tree.specs.declared.functions.ConciseBody.{ConciseBody}
use Rattle.esb_tree.specs.declared.patterns.Element.{Element}
use Rattle.esb_tree.specs.declared.patterns.PropertyName.{PropertyName}
use Rattle.esb_tree.specs.declared.statements.CaseClause.{CaseClause}
use Rattle.esb_tree.specs.declared.statements.Else.{Else}
use Rattle.esb_tree.specs.declared.statements.Finalizer.{Finalizer}
use Rattle.esb_tree.specs.declared.statements.ForStart.{ForStart}
use Rattle.esb_tree.specs.declared.statements.Handler.{Handler}
use Rattle.esb_tree.specs.declared.statements.MaybeExpression.{MaybeExpression}
use Rattle.esb_tree.specs.declared.statements.Statement.{Statement}
use Rattle.esb_tree.specs.declared.classes.Class.{Class}
use Rattle.esb_tree.specs.declared.expressions.Operand.{Operand}
use Rattle.esb_tree.specs.declared.expressions.Substitution.{Substitution}
use Rattle.esb_tree.specs.declared.expressions.Substitutions.{Substitutions}
use Rattle.esb_tree.specs.declared.functions.Function.{Function}
use Rattle.esb_tree.specs.declared.functions.Method.{Method}
use Rattle.esb_tree.specs.declared.patterns.Bracketed.{Bracketed}
use Rattle.esb_tree.specs.declared.patterns.Elements.{Elements}
use Rattle.esb_tree.specs.declared.patterns.NextElement.{NextElement}
use Rattle.esb_tree.specs.declared.statements.Block.{Block}
use Rattle.esb_tree.specs.declared.statements.Declaration.{Declaration}
use Rattle.esb_tree.specs.declared.statements.ElseIf.{ElseIf}
use Rattle.esb_tree.specs.declared.statements.IfClause.{IfClause}
use Rattle.esb_grammar.specs.Forms.{is_empty}
use Rattle.esb_grammar.specs.Kinds.{is_binding}
use Rattle.esb_early_checks.specs.declared.roles.ListRole.{ListRole}
use Rattle.esb_early_checks.specs.declared.roles.ListRole.TheVariants as lr
use Rattle.esb_early_checks.specs.declared.roles.Place.{Place}
use Rattle.esb_early_checks.specs.declared.roles.Role.{Role}
use Rattle.esb_early_checks.specs.declared.roles.Role.TheVariants as r
use Rattle.esb_early_checks.specs.declared.setting.Setting.{Setting}
use Rattle.esb_early_checks.specs.declared.shapes.BracketedShape.{BracketedShape}
use Rattle.esb_early_checks.specs.declared.shapes.ElementShape.{ElementShape}
use Rattle.esb_early_checks.specs.declared.shapes.ElementsShape.{ElementsShape}
use Rattle.esb_early_checks.specs.declared.shapes.ExpressionShape.{ExpressionShape}
use Rattle.esb_early_checks.specs.declared.shapes.LinkShape.{LinkShape}
use Rattle.esb_early_checks.specs.declared.shapes.LinksShape.{LinksShape}
use Rattle.esb_early_checks.specs.declared.shapes.PropertyNameShape.{PropertyNameShape}
use Rattle.esb_early.specs.Directives.{directive_of, use_strict}
use Rattle.esb_early_checks.specs.Findings.{Finding, together, each, behind, unlabelled}
use Rattle.esb_names.specs.Keys.{is_constructor, is_proto_in}
use Rattle.esb_early_checks.specs.Labels.{break_breaches, continue_breaches, label_breaches}
use Rattle.esb_early.specs.Parameters.{joined, repeated_breaches}
use Rattle.esb_early_checks.specs.Roles.{array_role, object_role, parenthesized_role, assigned_role, element_role, spread_role, placed, is_prototype_method}
use Rattle.esb_early_checks.specs.Settings.{of_loop, of_switch, of_body, of_parameters, of_function, of_function_parameters, of_method_parameters, of_named_method}
use Rattle.esb_early_checks.specs.Shapes.{other_shape, primary_shape, parenthesized_shape, member_shape, access_link, call_link, template_link, optional_link, links_shape, hole_shape, value_shape, other_element, named_shape, computed_shape, start_of_function, bracketed_shape, elements_shape, property_element, key_of_prototype}
use Rattle.esb_early_checks.specs.Tests.{second_constructor, second_proto, strict_breaches, accessor_breaches, assignment_breaches, bound_breaches, constructor_breaches, declared_breaches, delete_breaches, initialized_breaches, literal_breaches, member_breaches, meta_breaches, method_property_breaches, operator_breaches, parenthesized_breaches, primary_breaches, reference_breaches, return_breaches, shorthand_breaches, spread_breaches, super_breaches, value_breaches}

-- the breaches of a node of a text in a setting
abbrev pub Telling : Type 0
Telling = List ℕ → Setting → Finding

-- by a flag
abbrev pub TellingBy : Type 0
TellingBy = List ℕ → Setting → Bool → Finding

-- in a role
abbrev pub TellingAs : Type 0
TellingAs = List ℕ → Setting → Role → Finding

-- ---- what a node tells what is round it: what it is from outside, the names that it binds in parameters, and its breaches

pub record ClassElementFacts : Type 0 where
  pub shape : Option Token
  pub breaches : List ℕ → Setting → Bool → Finding

pub record HeritageFacts : Type 0 where
  pub shape : Bool
  pub breaches : Telling

pub record ExpressionFacts : Type 0 where
  pub shape : ExpressionShape
  pub names : List Token
  pub breaches : List ℕ → Setting → Role → Finding

pub record LinkFacts : Type 0 where
  pub shape : LinkShape
  pub names : List Token
  pub breaches : List ℕ → Setting → Role → Finding

pub record ElementFacts : Type 0 where
  pub shape : ElementShape
  pub names : List Token
  pub breaches : List ℕ → Setting → Place → Finding

pub record PropertyNameFacts : Type 0 where
  pub shape : PropertyNameShape
  pub breaches : Telling

pub record StatementFacts : Type 0 where
  pub is_loop : Bool
  pub directive : Option Token
  pub breaches : Telling

pub record ClassFacts : Type 0 where
  pub shape : ℕ
  pub breaches : Telling

pub record SubstitutionsFacts : Type 0 where
  pub shape : ℕ
  pub breaches : Telling

pub record FunctionFacts : Type 0 where
  pub shape : ℕ
  pub breaches : Telling

pub record MethodFacts : Type 0 where
  pub shape : Option Token
  pub breaches : List ℕ → Setting → Bool → Bool → Finding

pub record BracketedFacts : Type 0 where
  pub shape : BracketedShape
  pub names : List Token
  pub breaches : List ℕ → Setting → ListRole → Finding

pub record ElementsFacts : Type 0 where
  pub shape : ElementsShape
  pub names : List Token
  pub breaches : List ℕ → Setting → ListRole → ℕ → Finding

pub record NextElementFacts : Type 0 where
  pub shape : ElementShape
  pub names : List Token
  pub breaches : List ℕ → Setting → Place → Finding

pub record BlockFacts : Type 0 where
  pub use_strict : List ℕ → Option Token
  pub breaches : Telling

-- ---- the kinds of nodes, where their children have told theirs

abbrev pub OpenClassElement : Type 0
OpenClassElement = ClassElement-F ClassElementFacts HeritageFacts ExpressionFacts LinkFacts TellingBy ElementFacts PropertyNameFacts Telling Telling Telling TellingAs Telling Telling StatementFacts ClassFacts Telling Telling SubstitutionsFacts FunctionFacts MethodFacts BracketedFacts ElementsFacts NextElementFacts BlockFacts Telling Telling Telling

abbrev pub OpenHeritage : Type 0
OpenHeritage = Heritage-F ClassElementFacts HeritageFacts ExpressionFacts LinkFacts TellingBy ElementFacts PropertyNameFacts Telling Telling Telling TellingAs Telling Telling StatementFacts ClassFacts Telling Telling SubstitutionsFacts FunctionFacts MethodFacts BracketedFacts ElementsFacts NextElementFacts BlockFacts Telling Telling Telling

abbrev pub OpenExpression : Type 0
OpenExpression = Expression-F ClassElementFacts HeritageFacts ExpressionFacts LinkFacts TellingBy ElementFacts PropertyNameFacts Telling Telling Telling TellingAs Telling Telling StatementFacts ClassFacts Telling Telling SubstitutionsFacts FunctionFacts MethodFacts BracketedFacts ElementsFacts NextElementFacts BlockFacts Telling Telling Telling

abbrev pub OpenLink : Type 0
OpenLink = Link-F ClassElementFacts HeritageFacts ExpressionFacts LinkFacts TellingBy ElementFacts PropertyNameFacts Telling Telling Telling TellingAs Telling Telling StatementFacts ClassFacts Telling Telling SubstitutionsFacts FunctionFacts MethodFacts BracketedFacts ElementsFacts NextElementFacts BlockFacts Telling Telling Telling

abbrev pub OpenConciseBody : Type 0
OpenConciseBody = ConciseBody-F ClassElementFacts HeritageFacts ExpressionFacts LinkFacts TellingBy ElementFacts PropertyNameFacts Telling Telling Telling TellingAs Telling Telling StatementFacts ClassFacts Telling Telling SubstitutionsFacts FunctionFacts MethodFacts BracketedFacts ElementsFacts NextElementFacts BlockFacts Telling Telling Telling

abbrev pub OpenElement : Type 0
OpenElement = Element-F ClassElementFacts HeritageFacts ExpressionFacts LinkFacts TellingBy ElementFacts PropertyNameFacts Telling Telling Telling TellingAs Telling Telling StatementFacts ClassFacts Telling Telling SubstitutionsFacts FunctionFacts MethodFacts BracketedFacts ElementsFacts NextElementFacts BlockFacts Telling Telling Telling

abbrev pub OpenPropertyName : Type 0
OpenPropertyName = PropertyName-F ClassElementFacts HeritageFacts ExpressionFacts LinkFacts TellingBy ElementFacts PropertyNameFacts Telling Telling Telling TellingAs Telling Telling StatementFacts ClassFacts Telling Telling SubstitutionsFacts FunctionFacts MethodFacts BracketedFacts ElementsFacts NextElementFacts BlockFacts Telling Telling Telling

abbrev pub OpenCaseClause : Type 0
OpenCaseClause = CaseClause-F ClassElementFacts HeritageFacts ExpressionFacts LinkFacts TellingBy ElementFacts PropertyNameFacts Telling Telling Telling TellingAs Telling Telling StatementFacts ClassFacts Telling Telling SubstitutionsFacts FunctionFacts MethodFacts BracketedFacts ElementsFacts NextElementFacts BlockFacts Telling Telling Telling

abbrev pub OpenElse : Type 0
OpenElse = Else-F ClassElementFacts HeritageFacts ExpressionFacts LinkFacts TellingBy ElementFacts PropertyNameFacts Telling Telling Telling TellingAs Telling Telling StatementFacts ClassFacts Telling Telling SubstitutionsFacts FunctionFacts MethodFacts BracketedFacts ElementsFacts NextElementFacts BlockFacts Telling Telling Telling

abbrev pub OpenFinalizer : Type 0
OpenFinalizer = Finalizer-F ClassElementFacts HeritageFacts ExpressionFacts LinkFacts TellingBy ElementFacts PropertyNameFacts Telling Telling Telling TellingAs Telling Telling StatementFacts ClassFacts Telling Telling SubstitutionsFacts FunctionFacts MethodFacts BracketedFacts ElementsFacts NextElementFacts BlockFacts Telling Telling Telling

abbrev pub OpenForStart : Type 0
OpenForStart = ForStart-F ClassElementFacts HeritageFacts ExpressionFacts LinkFacts TellingBy ElementFacts PropertyNameFacts Telling Telling Telling TellingAs Telling Telling StatementFacts ClassFacts Telling Telling SubstitutionsFacts FunctionFacts MethodFacts BracketedFacts ElementsFacts NextElementFacts BlockFacts Telling Telling Telling

abbrev pub OpenHandler : Type 0
OpenHandler = Handler-F ClassElementFacts HeritageFacts ExpressionFacts LinkFacts TellingBy ElementFacts PropertyNameFacts Telling Telling Telling TellingAs Telling Telling StatementFacts ClassFacts Telling Telling SubstitutionsFacts FunctionFacts MethodFacts BracketedFacts ElementsFacts NextElementFacts BlockFacts Telling Telling Telling

abbrev pub OpenMaybeExpression : Type 0
OpenMaybeExpression = MaybeExpression-F ClassElementFacts HeritageFacts ExpressionFacts LinkFacts TellingBy ElementFacts PropertyNameFacts Telling Telling Telling TellingAs Telling Telling StatementFacts ClassFacts Telling Telling SubstitutionsFacts FunctionFacts MethodFacts BracketedFacts ElementsFacts NextElementFacts BlockFacts Telling Telling Telling

abbrev pub OpenStatement : Type 0
OpenStatement = Statement-F ClassElementFacts HeritageFacts ExpressionFacts LinkFacts TellingBy ElementFacts PropertyNameFacts Telling Telling Telling TellingAs Telling Telling StatementFacts ClassFacts Telling Telling SubstitutionsFacts FunctionFacts MethodFacts BracketedFacts ElementsFacts NextElementFacts BlockFacts Telling Telling Telling

abbrev pub OpenClass : Type 0
OpenClass = Class-F ClassElementFacts HeritageFacts ExpressionFacts LinkFacts TellingBy ElementFacts PropertyNameFacts Telling Telling Telling TellingAs Telling Telling StatementFacts ClassFacts Telling Telling SubstitutionsFacts FunctionFacts MethodFacts BracketedFacts ElementsFacts NextElementFacts BlockFacts Telling Telling Telling

abbrev pub OpenOperand : Type 0
OpenOperand = Operand-F ClassElementFacts HeritageFacts ExpressionFacts LinkFacts TellingBy ElementFacts PropertyNameFacts Telling Telling Telling TellingAs Telling Telling StatementFacts ClassFacts Telling Telling SubstitutionsFacts FunctionFacts MethodFacts BracketedFacts ElementsFacts NextElementFacts BlockFacts Telling Telling Telling

abbrev pub OpenSubstitution : Type 0
OpenSubstitution = Substitution-F ClassElementFacts HeritageFacts ExpressionFacts LinkFacts TellingBy ElementFacts PropertyNameFacts Telling Telling Telling TellingAs Telling Telling StatementFacts ClassFacts Telling Telling SubstitutionsFacts FunctionFacts MethodFacts BracketedFacts ElementsFacts NextElementFacts BlockFacts Telling Telling Telling

abbrev pub OpenSubstitutions : Type 0
OpenSubstitutions = Substitutions-F ClassElementFacts HeritageFacts ExpressionFacts LinkFacts TellingBy ElementFacts PropertyNameFacts Telling Telling Telling TellingAs Telling Telling StatementFacts ClassFacts Telling Telling SubstitutionsFacts FunctionFacts MethodFacts BracketedFacts ElementsFacts NextElementFacts BlockFacts Telling Telling Telling

abbrev pub OpenFunction : Type 0
OpenFunction = Function-F ClassElementFacts HeritageFacts ExpressionFacts LinkFacts TellingBy ElementFacts PropertyNameFacts Telling Telling Telling TellingAs Telling Telling StatementFacts ClassFacts Telling Telling SubstitutionsFacts FunctionFacts MethodFacts BracketedFacts ElementsFacts NextElementFacts BlockFacts Telling Telling Telling

abbrev pub OpenMethod : Type 0
OpenMethod = Method-F ClassElementFacts HeritageFacts ExpressionFacts LinkFacts TellingBy ElementFacts PropertyNameFacts Telling Telling Telling TellingAs Telling Telling StatementFacts ClassFacts Telling Telling SubstitutionsFacts FunctionFacts MethodFacts BracketedFacts ElementsFacts NextElementFacts BlockFacts Telling Telling Telling

abbrev pub OpenBracketed : Type 0
OpenBracketed = Bracketed-F ClassElementFacts HeritageFacts ExpressionFacts LinkFacts TellingBy ElementFacts PropertyNameFacts Telling Telling Telling TellingAs Telling Telling StatementFacts ClassFacts Telling Telling SubstitutionsFacts FunctionFacts MethodFacts BracketedFacts ElementsFacts NextElementFacts BlockFacts Telling Telling Telling

abbrev pub OpenElements : Type 0
OpenElements = Elements-F ClassElementFacts HeritageFacts ExpressionFacts LinkFacts TellingBy ElementFacts PropertyNameFacts Telling Telling Telling TellingAs Telling Telling StatementFacts ClassFacts Telling Telling SubstitutionsFacts FunctionFacts MethodFacts BracketedFacts ElementsFacts NextElementFacts BlockFacts Telling Telling Telling

abbrev pub OpenNextElement : Type 0
OpenNextElement = NextElement-F ClassElementFacts HeritageFacts ExpressionFacts LinkFacts TellingBy ElementFacts PropertyNameFacts Telling Telling Telling TellingAs Telling Telling StatementFacts ClassFacts Telling Telling SubstitutionsFacts FunctionFacts MethodFacts BracketedFacts ElementsFacts NextElementFacts BlockFacts Telling Telling Telling

abbrev pub OpenBlock : Type 0
OpenBlock = Block-F ClassElementFacts HeritageFacts ExpressionFacts LinkFacts TellingBy ElementFacts PropertyNameFacts Telling Telling Telling TellingAs Telling Telling StatementFacts ClassFacts Telling Telling SubstitutionsFacts FunctionFacts MethodFacts BracketedFacts ElementsFacts NextElementFacts BlockFacts Telling Telling Telling

abbrev pub OpenDeclaration : Type 0
OpenDeclaration = Declaration-F ClassElementFacts HeritageFacts ExpressionFacts LinkFacts TellingBy ElementFacts PropertyNameFacts Telling Telling Telling TellingAs Telling Telling StatementFacts ClassFacts Telling Telling SubstitutionsFacts FunctionFacts MethodFacts BracketedFacts ElementsFacts NextElementFacts BlockFacts Telling Telling Telling

abbrev pub OpenElseIf : Type 0
OpenElseIf = ElseIf-F ClassElementFacts HeritageFacts ExpressionFacts LinkFacts TellingBy ElementFacts PropertyNameFacts Telling Telling Telling TellingAs Telling Telling StatementFacts ClassFacts Telling Telling SubstitutionsFacts FunctionFacts MethodFacts BracketedFacts ElementsFacts NextElementFacts BlockFacts Telling Telling Telling

abbrev pub OpenIfClause : Type 0
OpenIfClause = IfClause-F ClassElementFacts HeritageFacts ExpressionFacts LinkFacts TellingBy ElementFacts PropertyNameFacts Telling Telling Telling TellingAs Telling Telling StatementFacts ClassFacts Telling Telling SubstitutionsFacts FunctionFacts MethodFacts BracketedFacts ElementsFacts NextElementFacts BlockFacts Telling Telling Telling

-- ---- parts one behind another

-- the links of a chain
abbrev pub links_breaches : List ℕ → Setting → Role → List LinkFacts → Finding
links_breaches text setting role [] labels = []
links_breaches text setting role (x ∷ xs) labels = x.breaches text setting role labels ++ links_breaches text setting role xs labels

-- the elements of a class, and whether a constructor stands before them
abbrev pub class_elements_breaches : List ℕ → Setting → Bool → Bool → List ClassElementFacts → Finding
class_elements_breaches text setting is_derived has_constructor [] labels = []
class_elements_breaches text setting is_derived has_constructor (x ∷ xs) labels =
    (x.breaches text setting is_derived labels ++ second_constructor text has_constructor x.shape labels)
    ++ class_elements_breaches text setting is_derived (has_constructor || is_constructor text x.shape) xs labels

-- the elements behind the first comma of a list, and whether a property `__proto__: v` stands before them
abbrev pub nexts_breaches : List ℕ → Setting → ListRole → ℕ → Bool → List NextElementFacts → Finding
nexts_breaches text setting role begin has_proto [] labels = []
nexts_breaches text setting role begin has_proto (x ∷ xs) labels =
    (x.breaches text setting (placed role begin (is_empty xs)) labels ++ second_proto text role has_proto x.shape.key labels)
    ++ nexts_breaches text setting role begin (has_proto || is_proto_in text x.shape.key) xs labels

-- whether each is a plain name
abbrev pub are_plain : List NextElementFacts → Bool
are_plain [] = true
are_plain (x ∷ xs) = x.shape.is_plain && are_plain xs

-- ---- what each kind of node tells

abbrev pub class_element_findings : OpenClassElement → List ℕ → Setting → Bool → Finding
class_element_findings (ClassElement-F.ClassMethod word method) text setting is_derived = method.breaches text setting (is_prototype_method word) is_derived
class_element_findings (ClassElement-F.EmptyElement semicolon) text setting is_derived = together ([])

abbrev pub class_element_outside : OpenClassElement → Option Token
class_element_outside (ClassElement-F.ClassMethod word method) = key_of_prototype word method.shape
class_element_outside (ClassElement-F.EmptyElement semicolon) = None

abbrev pub class_element_step : OpenClassElement → ClassElementFacts
class_element_step x = record { shape = class_element_outside x; breaches = class_element_findings x }

abbrev pub heritage_findings : OpenHeritage → Telling
heritage_findings (Heritage-F.NoHeritage) text setting = together ([])
heritage_findings (Heritage-F.Extends word x) text setting = x.breaches text setting r.Value

abbrev pub heritage_outside : OpenHeritage → Bool
heritage_outside (Heritage-F.NoHeritage) = false
heritage_outside (Heritage-F.Extends word x) = true

abbrev pub heritage_step : OpenHeritage → HeritageFacts
heritage_step x = record { shape = heritage_outside x; breaches = heritage_findings x }

abbrev pub expression_findings : OpenExpression → List ℕ → Setting → Role → Finding
expression_findings (Expression-F.Primary t) text setting role = primary_breaches text t role
expression_findings (Expression-F.MetaProperty word dot name) text setting role = together (meta_breaches word setting ∷ value_breaches role word.start ∷ [])
expression_findings (Expression-F.ArrayLiteral list) text setting role = together (list.breaches text setting (array_role role) ∷ literal_breaches role list.shape.start ∷ [])
expression_findings (Expression-F.ObjectLiteral list) text setting role = together (list.breaches text setting (object_role role) ∷ literal_breaches role list.shape.start ∷ [])
expression_findings (Expression-F.Parenthesized list) text setting role = together (list.breaches text setting (parenthesized_role role) ∷ parenthesized_breaches text role list.shape ∷ [])
expression_findings (Expression-F.TemplateLiteral template) text setting role = together (template.breaches text setting ∷ value_breaches role template.shape ∷ [])
expression_findings (Expression-F.FunctionExpression function) text setting role = together (function.breaches text setting ∷ value_breaches role function.shape ∷ [])
expression_findings (Expression-F.ClassExpression class) text setting role = together (class.breaches text setting ∷ value_breaches role class.shape ∷ [])
expression_findings (Expression-F.Member object links) text setting role = together (object.breaches text setting r.Value ∷ links_breaches text setting role links ∷ super_breaches object.shape.token (links_shape (map (λ f. f.shape) links)).begins_with_call setting ∷ member_breaches role (links_shape (map (λ f. f.shape) links)) object.shape.start ∷ [])
expression_findings (Expression-F.New word callee arguments) text setting role = together (callee.breaches text setting r.Value ∷ arguments.breaches text setting lr.Values ∷ value_breaches role word.start ∷ [])
expression_findings (Expression-F.NewPlain word callee) text setting role = together (callee.breaches text setting r.Value ∷ value_breaches role word.start ∷ [])
expression_findings (Expression-F.ImportCall word begin x ending) text setting role = together (x.breaches text setting r.Value ∷ value_breaches role word.start ∷ [])
expression_findings (Expression-F.PrefixUpdate operator x) text setting role = together (x.breaches text setting r.Simple ∷ value_breaches role operator.start ∷ [])
expression_findings (Expression-F.PostfixUpdate x operator) text setting role = together (x.breaches text setting r.Simple ∷ value_breaches role x.shape.start ∷ [])
expression_findings (Expression-F.Unary operator x) text setting role = together (x.breaches text setting r.Value ∷ delete_breaches operator x.shape.name ∷ value_breaches role operator.start ∷ [])
expression_findings (Expression-F.Await word x) text setting role = together (x.breaches text setting r.Value ∷ operator_breaches word setting ∷ value_breaches role word.start ∷ [])
expression_findings (Expression-F.Binary first rest) text setting role = together (first.breaches text setting r.Value ∷ each text setting rest ∷ value_breaches role first.shape.start ∷ [])
expression_findings (Expression-F.Conditional test question x colon other) text setting role = together (test.breaches text setting r.Value ∷ x.breaches text setting r.Value ∷ other.breaches text setting r.Value ∷ value_breaches role test.shape.start ∷ [])
expression_findings (Expression-F.Assignment target operator x) text setting role = together (target.breaches text setting (assigned_role operator.kind) ∷ x.breaches text setting r.Value ∷ assignment_breaches role operator target.shape.start ∷ [])
expression_findings (Expression-F.Arrow head arrow body) text setting role = together (repeated_breaches text head.names ∷ head.breaches text (of_parameters setting) r.Parameters ∷ body text (of_body setting) head.shape.is_plain ∷ value_breaches role head.shape.start ∷ [])
expression_findings (Expression-F.AsyncArrow word name arrow body) text setting role = together (bound_breaches text name ∷ body text (of_body setting) true ∷ value_breaches role word.start ∷ [])
expression_findings (Expression-F.Yield word) text setting role = together (operator_breaches word setting ∷ value_breaches role word.start ∷ [])
expression_findings (Expression-F.YieldValue word x) text setting role = together (x.breaches text setting r.Value ∷ operator_breaches word setting ∷ value_breaches role word.start ∷ [])
expression_findings (Expression-F.YieldEach word star x) text setting role = together (x.breaches text setting r.Value ∷ operator_breaches word setting ∷ value_breaches role word.start ∷ [])

abbrev pub expression_outside : OpenExpression → ExpressionShape
expression_outside (Expression-F.Primary t) = primary_shape t
expression_outside (Expression-F.MetaProperty word dot name) = other_shape word.start
expression_outside (Expression-F.ArrayLiteral list) = other_shape list.shape.start
expression_outside (Expression-F.ObjectLiteral list) = other_shape list.shape.start
expression_outside (Expression-F.Parenthesized list) = parenthesized_shape list.shape
expression_outside (Expression-F.TemplateLiteral template) = other_shape template.shape
expression_outside (Expression-F.FunctionExpression function) = other_shape function.shape
expression_outside (Expression-F.ClassExpression class) = other_shape class.shape
expression_outside (Expression-F.Member object links) = member_shape object.shape.start (links_shape (map (λ f. f.shape) links))
expression_outside (Expression-F.New word callee arguments) = other_shape word.start
expression_outside (Expression-F.NewPlain word callee) = other_shape word.start
expression_outside (Expression-F.ImportCall word begin x ending) = other_shape word.start
expression_outside (Expression-F.PrefixUpdate operator x) = other_shape operator.start
expression_outside (Expression-F.PostfixUpdate x operator) = other_shape x.shape.start
expression_outside (Expression-F.Unary operator x) = other_shape operator.start
expression_outside (Expression-F.Await word x) = other_shape word.start
expression_outside (Expression-F.Binary first rest) = other_shape first.shape.start
expression_outside (Expression-F.Conditional test question x colon other) = other_shape test.shape.start
expression_outside (Expression-F.Assignment target operator x) = other_shape target.shape.start
expression_outside (Expression-F.Arrow head arrow body) = other_shape head.shape.start
expression_outside (Expression-F.AsyncArrow word name arrow body) = other_shape word.start
expression_outside (Expression-F.Yield word) = other_shape word.start
expression_outside (Expression-F.YieldValue word x) = other_shape word.start
expression_outside (Expression-F.YieldEach word star x) = other_shape word.start

-- a name, a pattern, either with a default, or what stands before an arrow
abbrev pub expression_names : OpenExpression → List Token
expression_names (Expression-F.Primary t) = (if is_binding t.kind then t ∷ [] else [])
expression_names (Expression-F.ArrayLiteral list) = list.names
expression_names (Expression-F.ObjectLiteral list) = list.names
expression_names (Expression-F.Parenthesized list) = list.names
expression_names (Expression-F.Member object links) = joined (map (λ f. f.names) links)
expression_names (Expression-F.Assignment target operator x) = target.names
expression_names _ = []

abbrev pub expression_step : OpenExpression → ExpressionFacts
expression_step x = record { shape = expression_outside x; names = expression_names x; breaches = expression_findings x }

abbrev pub link_findings : OpenLink → List ℕ → Setting → Role → Finding
link_findings (Link-F.Dot dot name) text setting role = together ([])
link_findings (Link-F.Index begin x ending) text setting role = x.breaches text setting r.Value
link_findings (Link-F.Call arguments) text setting role = arguments.breaches text setting (parenthesized_role role)
link_findings (Link-F.Tagged template) text setting role = together ([])
link_findings (Link-F.TaggedTemplate template) text setting role = template.breaches text setting
link_findings (Link-F.OptionalDot dot name) text setting role = together ([])
link_findings (Link-F.OptionalIndex dot begin x ending) text setting role = x.breaches text setting r.Value
link_findings (Link-F.OptionalCall dot arguments) text setting role = arguments.breaches text setting lr.Values

abbrev pub link_outside : OpenLink → LinkShape
link_outside (Link-F.Dot dot name) = access_link
link_outside (Link-F.Index begin x ending) = access_link
link_outside (Link-F.Call arguments) = call_link arguments.shape.is_plain
link_outside (Link-F.Tagged template) = template_link
link_outside (Link-F.TaggedTemplate template) = template_link
link_outside (Link-F.OptionalDot dot name) = optional_link
link_outside (Link-F.OptionalIndex dot begin x ending) = optional_link
link_outside (Link-F.OptionalCall dot arguments) = optional_link

-- the list behind `async`
abbrev pub link_names : OpenLink → List Token
link_names (Link-F.Call arguments) = arguments.names
link_names _ = []

abbrev pub link_step : OpenLink → LinkFacts
link_step x = record { shape = link_outside x; names = link_names x; breaches = link_findings x }

abbrev pub concise_body_step : OpenConciseBody → List ℕ → Setting → Bool → Finding
concise_body_step (ConciseBody-F.ConciseValue x) text setting is_plain = x.breaches text setting r.Value
concise_body_step (ConciseBody-F.ConciseBlock block) text setting is_plain = together (unlabelled (block.breaches text setting) ∷ strict_breaches is_plain (block.use_strict text) ∷ [])

abbrev pub element_findings : OpenElement → List ℕ → Setting → Place → Finding
element_findings (Element-F.Hole) text setting place = together ([])
element_findings (Element-F.Value x) text setting place = x.breaches text setting (element_role place)
element_findings (Element-F.Spread dots x) text setting place = together (x.breaches text setting (spread_role place) ∷ spread_breaches place ∷ [])
element_findings (Element-F.Shorthand name) text setting place = shorthand_breaches text name place
element_findings (Element-F.Initialized name sign x) text setting place = together (x.breaches text setting r.Value ∷ initialized_breaches text name sign place ∷ [])
element_findings (Element-F.Property name colon x) text setting place = together (name.breaches text setting ∷ x.breaches text setting (element_role place) ∷ [])
element_findings (Element-F.MethodProperty method) text setting place = together (method.breaches text setting false false ∷ method_property_breaches place ∷ [])

abbrev pub element_outside : OpenElement → ElementShape
element_outside (Element-F.Hole) = hole_shape
element_outside (Element-F.Value x) = value_shape x.shape
element_outside (Element-F.Spread dots x) = other_element
element_outside (Element-F.Shorthand name) = other_element
element_outside (Element-F.Initialized name sign x) = other_element
element_outside (Element-F.Property name colon x) = property_element name.shape.key
element_outside (Element-F.MethodProperty method) = other_element

-- an element of parameters or of a pattern
abbrev pub element_names : OpenElement → List Token
element_names (Element-F.Value x) = x.names
element_names (Element-F.Spread dots x) = x.names
element_names (Element-F.Shorthand name) = name ∷ []
element_names (Element-F.Initialized name sign x) = name ∷ []
element_names (Element-F.Property name colon x) = x.names
element_names _ = []

abbrev pub element_step : OpenElement → ElementFacts
element_step x = record { shape = element_outside x; names = element_names x; breaches = element_findings x }

abbrev pub property_name_findings : OpenPropertyName → Telling
property_name_findings (PropertyName-F.Named name) text setting = together ([])
property_name_findings (PropertyName-F.Computed begin x ending) text setting = x.breaches text setting r.Value

abbrev pub property_name_outside : OpenPropertyName → PropertyNameShape
property_name_outside (PropertyName-F.Named name) = named_shape name
property_name_outside (PropertyName-F.Computed begin x ending) = computed_shape begin

abbrev pub property_name_step : OpenPropertyName → PropertyNameFacts
property_name_step x = record { shape = property_name_outside x; breaches = property_name_findings x }

abbrev pub case_clause_step : OpenCaseClause → Telling
case_clause_step (CaseClause-F.Case word x colon body) text setting = together (x.breaches text setting r.Value ∷ each text setting (map (λ f. f.breaches) body) ∷ [])
case_clause_step (CaseClause-F.Default word colon body) text setting = each text setting (map (λ f. f.breaches) body)

abbrev pub else_step : OpenElse → Telling
else_step (Else-F.NoElse) text setting = together ([])
else_step (Else-F.Otherwise word body) text setting = body.breaches text setting

abbrev pub finalizer_step : OpenFinalizer → Telling
finalizer_step (Finalizer-F.NoFinalizer) text setting = together ([])
finalizer_step (Finalizer-F.Finally word block) text setting = block.breaches text setting

abbrev pub for_start_step : OpenForStart → List ℕ → Setting → Role → Finding
for_start_step (ForStart-F.NoStart) text setting role = together ([])
for_start_step (ForStart-F.StartExpression x) text setting role = x.breaches text setting role
for_start_step (ForStart-F.StartDeclaration declaration) text setting role = declaration text setting

abbrev pub handler_step : OpenHandler → Telling
handler_step (Handler-F.NoHandler) text setting = together ([])
handler_step (Handler-F.Catch word block) text setting = block.breaches text setting
handler_step (Handler-F.CatchParameter word begin x ending block) text setting = together (x.breaches text setting r.Target ∷ block.breaches text setting ∷ [])

abbrev pub maybe_expression_step : OpenMaybeExpression → Telling
maybe_expression_step (MaybeExpression-F.Absent) text setting = together ([])
maybe_expression_step (MaybeExpression-F.Present x) text setting = x.breaches text setting r.Value

abbrev pub statement_findings : OpenStatement → Telling
statement_findings (Statement-F.BlockStatement block) text setting = block.breaches text setting
statement_findings (Statement-F.Variables declaration end) text setting = declaration text setting
statement_findings (Statement-F.Empty semicolon) text setting = together ([])
statement_findings (Statement-F.ExpressionStatement x end) text setting = x.breaches text setting r.Value
statement_findings (Statement-F.If clause rest last) text setting = together (clause text setting ∷ each text setting rest ∷ last text setting ∷ [])
statement_findings (Statement-F.DoWhile word body while_word begin x ending end) text setting = together (body.breaches text (of_loop setting) ∷ x.breaches text setting r.Value ∷ [])
statement_findings (Statement-F.While word begin x ending body) text setting = together (x.breaches text setting r.Value ∷ body.breaches text (of_loop setting) ∷ [])
statement_findings (Statement-F.For word begin start first test second step ending body) text setting = together (start text setting r.Value ∷ test text setting ∷ step text setting ∷ body.breaches text (of_loop setting) ∷ [])
statement_findings (Statement-F.ForEach word await_word begin start middle x ending body) text setting = together (start text setting r.Target ∷ x.breaches text setting r.Value ∷ body.breaches text (of_loop setting) ∷ [])
statement_findings (Statement-F.Continue word label end) text setting = continue_breaches text word label setting
statement_findings (Statement-F.Break word label end) text setting = break_breaches text word label setting
statement_findings (Statement-F.Return word x end) text setting = together (return_breaches word setting ∷ x text setting ∷ [])
statement_findings (Statement-F.Switch word begin x ending left clauses right) text setting = together (x.breaches text setting r.Value ∷ each text (of_switch setting) clauses ∷ [])
statement_findings (Statement-F.Labelled label colon body) text setting = together (label_breaches text label ∷ reference_breaches text label ∷ behind (record { name = label; is_loop = body.is_loop }) (body.breaches text setting) ∷ [])
statement_findings (Statement-F.Throw word x end) text setting = x.breaches text setting r.Value
statement_findings (Statement-F.Try word block handler finalizer) text setting = together (block.breaches text setting ∷ handler text setting ∷ finalizer text setting ∷ [])
statement_findings (Statement-F.Debugger word end) text setting = together ([])
statement_findings (Statement-F.FunctionDeclaration function) text setting = function.breaches text setting
statement_findings (Statement-F.ClassDeclaration class) text setting = class.breaches text setting

abbrev pub statement_is_loop : OpenStatement → Bool
statement_is_loop (Statement-F.DoWhile word body while_word begin x ending end) = true
statement_is_loop (Statement-F.While word begin x ending body) = true
statement_is_loop (Statement-F.For word begin start first test second step ending body) = true
statement_is_loop (Statement-F.ForEach word await_word begin start middle x ending body) = true
statement_is_loop (Statement-F.Labelled label colon body) = body.is_loop
statement_is_loop _ = false

abbrev pub statement_directive : OpenStatement → Option Token
statement_directive (Statement-F.ExpressionStatement x end) = directive_of x.shape.token
statement_directive _ = None

abbrev pub statement_step : OpenStatement → StatementFacts
statement_step x = record { is_loop = statement_is_loop x; directive = statement_directive x; breaches = statement_findings x }

abbrev pub class_findings : OpenClass → Telling
class_findings o text setting = together (declared_breaches text o.name ∷ o.heritage.breaches text setting ∷ class_elements_breaches text setting o.heritage.shape false o.elements ∷ [])

abbrev pub class_outside : OpenClass → ℕ
class_outside o = o.word.start

abbrev pub class_step : OpenClass → ClassFacts
class_step x = record { shape = class_outside x; breaches = class_findings x }

abbrev pub operand_step : OpenOperand → Telling
operand_step o text setting = o.value.breaches text setting r.Value

abbrev pub substitution_step : OpenSubstitution → Telling
substitution_step o text setting = o.value.breaches text setting r.Value

abbrev pub substitutions_findings : OpenSubstitutions → Telling
substitutions_findings o text setting = together (o.first.breaches text setting r.Value ∷ each text setting o.rest ∷ [])

abbrev pub substitutions_outside : OpenSubstitutions → ℕ
substitutions_outside o = o.head.start

abbrev pub substitutions_step : OpenSubstitutions → SubstitutionsFacts
substitutions_step x = record { shape = substitutions_outside x; breaches = substitutions_findings x }

abbrev pub function_findings : OpenFunction → Telling
function_findings o text setting = together (declared_breaches text o.name ∷ repeated_breaches text o.parameters.names ∷ o.parameters.breaches text of_function_parameters lr.ArrayPattern ∷ unlabelled (o.body.breaches text of_function) ∷ strict_breaches o.parameters.shape.is_plain (o.body.use_strict text) ∷ [])

abbrev pub function_outside : OpenFunction → ℕ
function_outside o = start_of_function o.async_word o.word

abbrev pub function_step : OpenFunction → FunctionFacts
function_step x = record { shape = function_outside x; breaches = function_findings x }

abbrev pub method_findings : OpenMethod → List ℕ → Setting → Bool → Bool → Finding
method_findings o text setting is_prototype is_derived = together (o.name.breaches text setting ∷ constructor_breaches text is_prototype o.name.shape.key o.word o.star ∷ repeated_breaches text o.parameters.names ∷ o.parameters.breaches text (of_method_parameters text is_prototype is_derived o.name.shape.key) lr.ArrayPattern ∷ accessor_breaches text o.word o.name.shape.start o.parameters.shape.is_empty o.parameters.shape.is_one_value ∷ unlabelled (o.body.breaches text (of_named_method text is_prototype is_derived o.name.shape.key)) ∷ strict_breaches o.parameters.shape.is_plain (o.body.use_strict text) ∷ [])

abbrev pub method_outside : OpenMethod → Option Token
method_outside o = o.name.shape.key

abbrev pub method_step : OpenMethod → MethodFacts
method_step x = record { shape = method_outside x; breaches = method_findings x }

abbrev pub bracketed_findings : OpenBracketed → List ℕ → Setting → ListRole → Finding
bracketed_findings o text setting role = o.list.breaches text setting role o.begin.start

abbrev pub bracketed_outside : OpenBracketed → BracketedShape
bracketed_outside o = bracketed_shape o.begin o.list.shape

abbrev pub bracketed_names : OpenBracketed → List Token
bracketed_names o = o.list.names

abbrev pub bracketed_step : OpenBracketed → BracketedFacts
bracketed_step x = record { shape = bracketed_outside x; names = bracketed_names x; breaches = bracketed_findings x }

abbrev pub elements_findings : OpenElements → List ℕ → Setting → ListRole → ℕ → Finding
elements_findings o text setting role begin = together (o.first.breaches text setting (placed role begin (is_empty o.rest)) ∷ nexts_breaches text setting role begin (is_proto_in text o.first.shape.key) o.rest ∷ [])

abbrev pub elements_outside : OpenElements → ElementsShape
elements_outside o = elements_shape o.first.shape (are_plain o.rest) (is_empty o.rest)

abbrev pub elements_names : OpenElements → List Token
elements_names o = o.first.names ++ joined (map (λ f. f.names) o.rest)

abbrev pub elements_step : OpenElements → ElementsFacts
elements_step x = record { shape = elements_outside x; names = elements_names x; breaches = elements_findings x }

abbrev pub next_element_findings : OpenNextElement → List ℕ → Setting → Place → Finding
next_element_findings o text setting place = o.element.breaches text setting place

abbrev pub next_element_outside : OpenNextElement → ElementShape
next_element_outside o = o.element.shape

abbrev pub next_element_names : OpenNextElement → List Token
next_element_names o = o.element.names

abbrev pub next_element_step : OpenNextElement → NextElementFacts
next_element_step x = record { shape = next_element_outside x; names = next_element_names x; breaches = next_element_findings x }

abbrev pub block_findings : OpenBlock → Telling
block_findings o text setting = each text setting (map (λ f. f.breaches) o.body)

abbrev pub block_use_strict : OpenBlock → List ℕ → Option Token
block_use_strict o text = use_strict text (map (λ f. f.directive) o.body)

abbrev pub block_step : OpenBlock → BlockFacts
block_step x = record { use_strict = block_use_strict x; breaches = block_findings x }

abbrev pub declaration_step : OpenDeclaration → Telling
declaration_step o text setting = o.bindings.breaches text setting lr.ArrayPattern o.word.start

abbrev pub else_if_step : OpenElseIf → Telling
else_if_step o text setting = o.clause text setting

abbrev pub if_clause_step : OpenIfClause → Telling
if_clause_step o text setting = together (o.condition.breaches text setting r.Value ∷ o.body.breaches text setting ∷ [])

-- ---- the breaches of a whole node

unfoldable pub facts_of_class_element : ClassElement → ClassElementFacts
facts_of_class_element = fold-ClassElement ClassElementFacts HeritageFacts ExpressionFacts LinkFacts TellingBy ElementFacts PropertyNameFacts Telling Telling Telling TellingAs Telling Telling StatementFacts ClassFacts Telling Telling SubstitutionsFacts FunctionFacts MethodFacts BracketedFacts ElementsFacts NextElementFacts BlockFacts Telling Telling Telling class_element_step heritage_step expression_step link_step concise_body_step element_step property_name_step case_clause_step else_step finalizer_step for_start_step handler_step maybe_expression_step statement_step class_step operand_step substitution_step substitutions_step function_step method_step bracketed_step elements_step next_element_step block_step declaration_step else_if_step if_clause_step

unfoldable pub breaches_of_class_element : ClassElement → List ℕ → Setting → Bool → Finding
breaches_of_class_element x = (facts_of_class_element x).breaches

unfoldable pub shape_of_class_element : ClassElement → Option Token
shape_of_class_element x = (facts_of_class_element x).shape

unfoldable pub facts_of_heritage : Heritage → HeritageFacts
facts_of_heritage = fold-Heritage ClassElementFacts HeritageFacts ExpressionFacts LinkFacts TellingBy ElementFacts PropertyNameFacts Telling Telling Telling TellingAs Telling Telling StatementFacts ClassFacts Telling Telling SubstitutionsFacts FunctionFacts MethodFacts BracketedFacts ElementsFacts NextElementFacts BlockFacts Telling Telling Telling class_element_step heritage_step expression_step link_step concise_body_step element_step property_name_step case_clause_step else_step finalizer_step for_start_step handler_step maybe_expression_step statement_step class_step operand_step substitution_step substitutions_step function_step method_step bracketed_step elements_step next_element_step block_step declaration_step else_if_step if_clause_step

unfoldable pub breaches_of_heritage : Heritage → Telling
breaches_of_heritage x = (facts_of_heritage x).breaches

unfoldable pub shape_of_heritage : Heritage → Bool
shape_of_heritage x = (facts_of_heritage x).shape

unfoldable pub facts_of_expression : Expression → ExpressionFacts
facts_of_expression = fold-Expression ClassElementFacts HeritageFacts ExpressionFacts LinkFacts TellingBy ElementFacts PropertyNameFacts Telling Telling Telling TellingAs Telling Telling StatementFacts ClassFacts Telling Telling SubstitutionsFacts FunctionFacts MethodFacts BracketedFacts ElementsFacts NextElementFacts BlockFacts Telling Telling Telling class_element_step heritage_step expression_step link_step concise_body_step element_step property_name_step case_clause_step else_step finalizer_step for_start_step handler_step maybe_expression_step statement_step class_step operand_step substitution_step substitutions_step function_step method_step bracketed_step elements_step next_element_step block_step declaration_step else_if_step if_clause_step

unfoldable pub breaches_of_expression : Expression → List ℕ → Setting → Role → Finding
breaches_of_expression x = (facts_of_expression x).breaches

unfoldable pub shape_of_expression : Expression → ExpressionShape
shape_of_expression x = (facts_of_expression x).shape

unfoldable pub names_of_expression : Expression → List Token
names_of_expression x = (facts_of_expression x).names

unfoldable pub facts_of_link : Link → LinkFacts
facts_of_link = fold-Link ClassElementFacts HeritageFacts ExpressionFacts LinkFacts TellingBy ElementFacts PropertyNameFacts Telling Telling Telling TellingAs Telling Telling StatementFacts ClassFacts Telling Telling SubstitutionsFacts FunctionFacts MethodFacts BracketedFacts ElementsFacts NextElementFacts BlockFacts Telling Telling Telling class_element_step heritage_step expression_step link_step concise_body_step element_step property_name_step case_clause_step else_step finalizer_step for_start_step handler_step maybe_expression_step statement_step class_step operand_step substitution_step substitutions_step function_step method_step bracketed_step elements_step next_element_step block_step declaration_step else_if_step if_clause_step

unfoldable pub breaches_of_link : Link → List ℕ → Setting → Role → Finding
breaches_of_link x = (facts_of_link x).breaches

unfoldable pub shape_of_link : Link → LinkShape
shape_of_link x = (facts_of_link x).shape

unfoldable pub names_of_link : Link → List Token
names_of_link x = (facts_of_link x).names

unfoldable pub breaches_of_concise_body : ConciseBody → List ℕ → Setting → Bool → Finding
breaches_of_concise_body = fold-ConciseBody ClassElementFacts HeritageFacts ExpressionFacts LinkFacts TellingBy ElementFacts PropertyNameFacts Telling Telling Telling TellingAs Telling Telling StatementFacts ClassFacts Telling Telling SubstitutionsFacts FunctionFacts MethodFacts BracketedFacts ElementsFacts NextElementFacts BlockFacts Telling Telling Telling class_element_step heritage_step expression_step link_step concise_body_step element_step property_name_step case_clause_step else_step finalizer_step for_start_step handler_step maybe_expression_step statement_step class_step operand_step substitution_step substitutions_step function_step method_step bracketed_step elements_step next_element_step block_step declaration_step else_if_step if_clause_step

unfoldable pub facts_of_element : Element → ElementFacts
facts_of_element = fold-Element ClassElementFacts HeritageFacts ExpressionFacts LinkFacts TellingBy ElementFacts PropertyNameFacts Telling Telling Telling TellingAs Telling Telling StatementFacts ClassFacts Telling Telling SubstitutionsFacts FunctionFacts MethodFacts BracketedFacts ElementsFacts NextElementFacts BlockFacts Telling Telling Telling class_element_step heritage_step expression_step link_step concise_body_step element_step property_name_step case_clause_step else_step finalizer_step for_start_step handler_step maybe_expression_step statement_step class_step operand_step substitution_step substitutions_step function_step method_step bracketed_step elements_step next_element_step block_step declaration_step else_if_step if_clause_step

unfoldable pub breaches_of_element : Element → List ℕ → Setting → Place → Finding
breaches_of_element x = (facts_of_element x).breaches

unfoldable pub shape_of_element : Element → ElementShape
shape_of_element x = (facts_of_element x).shape

unfoldable pub names_of_element : Element → List Token
names_of_element x = (facts_of_element x).names

unfoldable pub facts_of_property_name : PropertyName → PropertyNameFacts
facts_of_property_name = fold-PropertyName ClassElementFacts HeritageFacts ExpressionFacts LinkFacts TellingBy ElementFacts PropertyNameFacts Telling Telling Telling TellingAs Telling Telling StatementFacts ClassFacts Telling Telling SubstitutionsFacts FunctionFacts MethodFacts BracketedFacts ElementsFacts NextElementFacts BlockFacts Telling Telling Telling class_element_step heritage_step expression_step link_step concise_body_step element_step property_name_step case_clause_step else_step finalizer_step for_start_step handler_step maybe_expression_step statement_step class_step operand_step substitution_step substitutions_step function_step method_step bracketed_step elements_step next_element_step block_step declaration_step else_if_step if_clause_step

unfoldable pub breaches_of_property_name : PropertyName → Telling
breaches_of_property_name x = (facts_of_property_name x).breaches

unfoldable pub shape_of_property_name : PropertyName → PropertyNameShape
shape_of_property_name x = (facts_of_property_name x).shape

unfoldable pub breaches_of_case_clause : CaseClause → Telling
breaches_of_case_clause = fold-CaseClause ClassElementFacts HeritageFacts ExpressionFacts LinkFacts TellingBy ElementFacts PropertyNameFacts Telling Telling Telling TellingAs Telling Telling StatementFacts ClassFacts Telling Telling SubstitutionsFacts FunctionFacts MethodFacts BracketedFacts ElementsFacts NextElementFacts BlockFacts Telling Telling Telling class_element_step heritage_step expression_step link_step concise_body_step element_step property_name_step case_clause_step else_step finalizer_step for_start_step handler_step maybe_expression_step statement_step class_step operand_step substitution_step substitutions_step function_step method_step bracketed_step elements_step next_element_step block_step declaration_step else_if_step if_clause_step

unfoldable pub breaches_of_else : Else → Telling
breaches_of_else = fold-Else ClassElementFacts HeritageFacts ExpressionFacts LinkFacts TellingBy ElementFacts PropertyNameFacts Telling Telling Telling TellingAs Telling Telling StatementFacts ClassFacts Telling Telling SubstitutionsFacts FunctionFacts MethodFacts BracketedFacts ElementsFacts NextElementFacts BlockFacts Telling Telling Telling class_element_step heritage_step expression_step link_step concise_body_step element_step property_name_step case_clause_step else_step finalizer_step for_start_step handler_step maybe_expression_step statement_step class_step operand_step substitution_step substitutions_step function_step method_step bracketed_step elements_step next_element_step block_step declaration_step else_if_step if_clause_step

unfoldable pub breaches_of_finalizer : Finalizer → Telling
breaches_of_finalizer = fold-Finalizer ClassElementFacts HeritageFacts ExpressionFacts LinkFacts TellingBy ElementFacts PropertyNameFacts Telling Telling Telling TellingAs Telling Telling StatementFacts ClassFacts Telling Telling SubstitutionsFacts FunctionFacts MethodFacts BracketedFacts ElementsFacts NextElementFacts BlockFacts Telling Telling Telling class_element_step heritage_step expression_step link_step concise_body_step element_step property_name_step case_clause_step else_step finalizer_step for_start_step handler_step maybe_expression_step statement_step class_step operand_step substitution_step substitutions_step function_step method_step bracketed_step elements_step next_element_step block_step declaration_step else_if_step if_clause_step

unfoldable pub breaches_of_for_start : ForStart → List ℕ → Setting → Role → Finding
breaches_of_for_start = fold-ForStart ClassElementFacts HeritageFacts ExpressionFacts LinkFacts TellingBy ElementFacts PropertyNameFacts Telling Telling Telling TellingAs Telling Telling StatementFacts ClassFacts Telling Telling SubstitutionsFacts FunctionFacts MethodFacts BracketedFacts ElementsFacts NextElementFacts BlockFacts Telling Telling Telling class_element_step heritage_step expression_step link_step concise_body_step element_step property_name_step case_clause_step else_step finalizer_step for_start_step handler_step maybe_expression_step statement_step class_step operand_step substitution_step substitutions_step function_step method_step bracketed_step elements_step next_element_step block_step declaration_step else_if_step if_clause_step

unfoldable pub breaches_of_handler : Handler → Telling
breaches_of_handler = fold-Handler ClassElementFacts HeritageFacts ExpressionFacts LinkFacts TellingBy ElementFacts PropertyNameFacts Telling Telling Telling TellingAs Telling Telling StatementFacts ClassFacts Telling Telling SubstitutionsFacts FunctionFacts MethodFacts BracketedFacts ElementsFacts NextElementFacts BlockFacts Telling Telling Telling class_element_step heritage_step expression_step link_step concise_body_step element_step property_name_step case_clause_step else_step finalizer_step for_start_step handler_step maybe_expression_step statement_step class_step operand_step substitution_step substitutions_step function_step method_step bracketed_step elements_step next_element_step block_step declaration_step else_if_step if_clause_step

unfoldable pub breaches_of_maybe_expression : MaybeExpression → Telling
breaches_of_maybe_expression = fold-MaybeExpression ClassElementFacts HeritageFacts ExpressionFacts LinkFacts TellingBy ElementFacts PropertyNameFacts Telling Telling Telling TellingAs Telling Telling StatementFacts ClassFacts Telling Telling SubstitutionsFacts FunctionFacts MethodFacts BracketedFacts ElementsFacts NextElementFacts BlockFacts Telling Telling Telling class_element_step heritage_step expression_step link_step concise_body_step element_step property_name_step case_clause_step else_step finalizer_step for_start_step handler_step maybe_expression_step statement_step class_step operand_step substitution_step substitutions_step function_step method_step bracketed_step elements_step next_element_step block_step declaration_step else_if_step if_clause_step

unfoldable pub facts_of_statement : Statement → StatementFacts
facts_of_statement = fold-Statement ClassElementFacts HeritageFacts ExpressionFacts LinkFacts TellingBy ElementFacts PropertyNameFacts Telling Telling Telling TellingAs Telling Telling StatementFacts ClassFacts Telling Telling SubstitutionsFacts FunctionFacts MethodFacts BracketedFacts ElementsFacts NextElementFacts BlockFacts Telling Telling Telling class_element_step heritage_step expression_step link_step concise_body_step element_step property_name_step case_clause_step else_step finalizer_step for_start_step handler_step maybe_expression_step statement_step class_step operand_step substitution_step substitutions_step function_step method_step bracketed_step elements_step next_element_step block_step declaration_step else_if_step if_clause_step

unfoldable pub breaches_of_statement : Statement → Telling
breaches_of_statement x = (facts_of_statement x).breaches

unfoldable pub is_loop_of_statement : Statement → Bool
is_loop_of_statement x = (facts_of_statement x).is_loop

unfoldable pub directive_of_statement : Statement → Option Token
directive_of_statement x = (facts_of_statement x).directive

unfoldable pub facts_of_class : Class → ClassFacts
facts_of_class = fold-Class ClassElementFacts HeritageFacts ExpressionFacts LinkFacts TellingBy ElementFacts PropertyNameFacts Telling Telling Telling TellingAs Telling Telling StatementFacts ClassFacts Telling Telling SubstitutionsFacts FunctionFacts MethodFacts BracketedFacts ElementsFacts NextElementFacts BlockFacts Telling Telling Telling class_element_step heritage_step expression_step link_step concise_body_step element_step property_name_step case_clause_step else_step finalizer_step for_start_step handler_step maybe_expression_step statement_step class_step operand_step substitution_step substitutions_step function_step method_step bracketed_step elements_step next_element_step block_step declaration_step else_if_step if_clause_step

unfoldable pub breaches_of_class : Class → Telling
breaches_of_class x = (facts_of_class x).breaches

unfoldable pub shape_of_class : Class → ℕ
shape_of_class x = (facts_of_class x).shape

unfoldable pub breaches_of_operand : Operand → Telling
breaches_of_operand = fold-Operand ClassElementFacts HeritageFacts ExpressionFacts LinkFacts TellingBy ElementFacts PropertyNameFacts Telling Telling Telling TellingAs Telling Telling StatementFacts ClassFacts Telling Telling SubstitutionsFacts FunctionFacts MethodFacts BracketedFacts ElementsFacts NextElementFacts BlockFacts Telling Telling Telling class_element_step heritage_step expression_step link_step concise_body_step element_step property_name_step case_clause_step else_step finalizer_step for_start_step handler_step maybe_expression_step statement_step class_step operand_step substitution_step substitutions_step function_step method_step bracketed_step elements_step next_element_step block_step declaration_step else_if_step if_clause_step

unfoldable pub breaches_of_substitution : Substitution → Telling
breaches_of_substitution = fold-Substitution ClassElementFacts HeritageFacts ExpressionFacts LinkFacts TellingBy ElementFacts PropertyNameFacts Telling Telling Telling TellingAs Telling Telling StatementFacts ClassFacts Telling Telling SubstitutionsFacts FunctionFacts MethodFacts BracketedFacts ElementsFacts NextElementFacts BlockFacts Telling Telling Telling class_element_step heritage_step expression_step link_step concise_body_step element_step property_name_step case_clause_step else_step finalizer_step for_start_step handler_step maybe_expression_step statement_step class_step operand_step substitution_step substitutions_step function_step method_step bracketed_step elements_step next_element_step block_step declaration_step else_if_step if_clause_step

unfoldable pub facts_of_substitutions : Substitutions → SubstitutionsFacts
facts_of_substitutions = fold-Substitutions ClassElementFacts HeritageFacts ExpressionFacts LinkFacts TellingBy ElementFacts PropertyNameFacts Telling Telling Telling TellingAs Telling Telling StatementFacts ClassFacts Telling Telling SubstitutionsFacts FunctionFacts MethodFacts BracketedFacts ElementsFacts NextElementFacts BlockFacts Telling Telling Telling class_element_step heritage_step expression_step link_step concise_body_step element_step property_name_step case_clause_step else_step finalizer_step for_start_step handler_step maybe_expression_step statement_step class_step operand_step substitution_step substitutions_step function_step method_step bracketed_step elements_step next_element_step block_step declaration_step else_if_step if_clause_step

unfoldable pub breaches_of_substitutions : Substitutions → Telling
breaches_of_substitutions x = (facts_of_substitutions x).breaches

unfoldable pub shape_of_substitutions : Substitutions → ℕ
shape_of_substitutions x = (facts_of_substitutions x).shape

unfoldable pub facts_of_function : Function → FunctionFacts
facts_of_function = fold-Function ClassElementFacts HeritageFacts ExpressionFacts LinkFacts TellingBy ElementFacts PropertyNameFacts Telling Telling Telling TellingAs Telling Telling StatementFacts ClassFacts Telling Telling SubstitutionsFacts FunctionFacts MethodFacts BracketedFacts ElementsFacts NextElementFacts BlockFacts Telling Telling Telling class_element_step heritage_step expression_step link_step concise_body_step element_step property_name_step case_clause_step else_step finalizer_step for_start_step handler_step maybe_expression_step statement_step class_step operand_step substitution_step substitutions_step function_step method_step bracketed_step elements_step next_element_step block_step declaration_step else_if_step if_clause_step

unfoldable pub breaches_of_function : Function → Telling
breaches_of_function x = (facts_of_function x).breaches

unfoldable pub shape_of_function : Function → ℕ
shape_of_function x = (facts_of_function x).shape

unfoldable pub facts_of_method : Method → MethodFacts
facts_of_method = fold-Method ClassElementFacts HeritageFacts ExpressionFacts LinkFacts TellingBy ElementFacts PropertyNameFacts Telling Telling Telling TellingAs Telling Telling StatementFacts ClassFacts Telling Telling SubstitutionsFacts FunctionFacts MethodFacts BracketedFacts ElementsFacts NextElementFacts BlockFacts Telling Telling Telling class_element_step heritage_step expression_step link_step concise_body_step element_step property_name_step case_clause_step else_step finalizer_step for_start_step handler_step maybe_expression_step statement_step class_step operand_step substitution_step substitutions_step function_step method_step bracketed_step elements_step next_element_step block_step declaration_step else_if_step if_clause_step

unfoldable pub breaches_of_method : Method → List ℕ → Setting → Bool → Bool → Finding
breaches_of_method x = (facts_of_method x).breaches

unfoldable pub shape_of_method : Method → Option Token
shape_of_method x = (facts_of_method x).shape

unfoldable pub facts_of_bracketed : Bracketed → BracketedFacts
facts_of_bracketed = fold-Bracketed ClassElementFacts HeritageFacts ExpressionFacts LinkFacts TellingBy ElementFacts PropertyNameFacts Telling Telling Telling TellingAs Telling Telling StatementFacts ClassFacts Telling Telling SubstitutionsFacts FunctionFacts MethodFacts BracketedFacts ElementsFacts NextElementFacts BlockFacts Telling Telling Telling class_element_step heritage_step expression_step link_step concise_body_step element_step property_name_step case_clause_step else_step finalizer_step for_start_step handler_step maybe_expression_step statement_step class_step operand_step substitution_step substitutions_step function_step method_step bracketed_step elements_step next_element_step block_step declaration_step else_if_step if_clause_step

unfoldable pub breaches_of_bracketed : Bracketed → List ℕ → Setting → ListRole → Finding
breaches_of_bracketed x = (facts_of_bracketed x).breaches

unfoldable pub shape_of_bracketed : Bracketed → BracketedShape
shape_of_bracketed x = (facts_of_bracketed x).shape

unfoldable pub names_of_bracketed : Bracketed → List Token
names_of_bracketed x = (facts_of_bracketed x).names

unfoldable pub facts_of_elements : Elements → ElementsFacts
facts_of_elements = fold-Elements ClassElementFacts HeritageFacts ExpressionFacts LinkFacts TellingBy ElementFacts PropertyNameFacts Telling Telling Telling TellingAs Telling Telling StatementFacts ClassFacts Telling Telling SubstitutionsFacts FunctionFacts MethodFacts BracketedFacts ElementsFacts NextElementFacts BlockFacts Telling Telling Telling class_element_step heritage_step expression_step link_step concise_body_step element_step property_name_step case_clause_step else_step finalizer_step for_start_step handler_step maybe_expression_step statement_step class_step operand_step substitution_step substitutions_step function_step method_step bracketed_step elements_step next_element_step block_step declaration_step else_if_step if_clause_step

unfoldable pub breaches_of_elements : Elements → List ℕ → Setting → ListRole → ℕ → Finding
breaches_of_elements x = (facts_of_elements x).breaches

unfoldable pub shape_of_elements : Elements → ElementsShape
shape_of_elements x = (facts_of_elements x).shape

unfoldable pub names_of_elements : Elements → List Token
names_of_elements x = (facts_of_elements x).names

unfoldable pub facts_of_next_element : NextElement → NextElementFacts
facts_of_next_element = fold-NextElement ClassElementFacts HeritageFacts ExpressionFacts LinkFacts TellingBy ElementFacts PropertyNameFacts Telling Telling Telling TellingAs Telling Telling StatementFacts ClassFacts Telling Telling SubstitutionsFacts FunctionFacts MethodFacts BracketedFacts ElementsFacts NextElementFacts BlockFacts Telling Telling Telling class_element_step heritage_step expression_step link_step concise_body_step element_step property_name_step case_clause_step else_step finalizer_step for_start_step handler_step maybe_expression_step statement_step class_step operand_step substitution_step substitutions_step function_step method_step bracketed_step elements_step next_element_step block_step declaration_step else_if_step if_clause_step

unfoldable pub breaches_of_next_element : NextElement → List ℕ → Setting → Place → Finding
breaches_of_next_element x = (facts_of_next_element x).breaches

unfoldable pub shape_of_next_element : NextElement → ElementShape
shape_of_next_element x = (facts_of_next_element x).shape

unfoldable pub names_of_next_element : NextElement → List Token
names_of_next_element x = (facts_of_next_element x).names

unfoldable pub facts_of_block : Block → BlockFacts
facts_of_block = fold-Block ClassElementFacts HeritageFacts ExpressionFacts LinkFacts TellingBy ElementFacts PropertyNameFacts Telling Telling Telling TellingAs Telling Telling StatementFacts ClassFacts Telling Telling SubstitutionsFacts FunctionFacts MethodFacts BracketedFacts ElementsFacts NextElementFacts BlockFacts Telling Telling Telling class_element_step heritage_step expression_step link_step concise_body_step element_step property_name_step case_clause_step else_step finalizer_step for_start_step handler_step maybe_expression_step statement_step class_step operand_step substitution_step substitutions_step function_step method_step bracketed_step elements_step next_element_step block_step declaration_step else_if_step if_clause_step

unfoldable pub breaches_of_block : Block → Telling
breaches_of_block x = (facts_of_block x).breaches

unfoldable pub use_strict_of_block : Block → List ℕ → Option Token
use_strict_of_block x = (facts_of_block x).use_strict

unfoldable pub breaches_of_declaration : Declaration → Telling
breaches_of_declaration = fold-Declaration ClassElementFacts HeritageFacts ExpressionFacts LinkFacts TellingBy ElementFacts PropertyNameFacts Telling Telling Telling TellingAs Telling Telling StatementFacts ClassFacts Telling Telling SubstitutionsFacts FunctionFacts MethodFacts BracketedFacts ElementsFacts NextElementFacts BlockFacts Telling Telling Telling class_element_step heritage_step expression_step link_step concise_body_step element_step property_name_step case_clause_step else_step finalizer_step for_start_step handler_step maybe_expression_step statement_step class_step operand_step substitution_step substitutions_step function_step method_step bracketed_step elements_step next_element_step block_step declaration_step else_if_step if_clause_step

unfoldable pub breaches_of_else_if : ElseIf → Telling
breaches_of_else_if = fold-ElseIf ClassElementFacts HeritageFacts ExpressionFacts LinkFacts TellingBy ElementFacts PropertyNameFacts Telling Telling Telling TellingAs Telling Telling StatementFacts ClassFacts Telling Telling SubstitutionsFacts FunctionFacts MethodFacts BracketedFacts ElementsFacts NextElementFacts BlockFacts Telling Telling Telling class_element_step heritage_step expression_step link_step concise_body_step element_step property_name_step case_clause_step else_step finalizer_step for_start_step handler_step maybe_expression_step statement_step class_step operand_step substitution_step substitutions_step function_step method_step bracketed_step elements_step next_element_step block_step declaration_step else_if_step if_clause_step

unfoldable pub breaches_of_if_clause : IfClause → Telling
breaches_of_if_clause = fold-IfClause ClassElementFacts HeritageFacts ExpressionFacts LinkFacts TellingBy ElementFacts PropertyNameFacts Telling Telling Telling TellingAs Telling Telling StatementFacts ClassFacts Telling Telling SubstitutionsFacts FunctionFacts MethodFacts BracketedFacts ElementsFacts NextElementFacts BlockFacts Telling Telling Telling class_element_step heritage_step expression_step link_step concise_body_step element_step property_name_step case_clause_step else_step finalizer_step for_start_step handler_step maybe_expression_step statement_step class_step operand_step substitution_step substitutions_step function_step method_step bracketed_step elements_step next_element_step block_step declaration_step else_if_step if_clause_step
