-- The tokens of each well-formed node may be printed.
use Rattle.std.proofs.Common.{◌≡◌, inl, inr, ℕ, ◌<◌, Bool, true, ◌||◌, List, [], ◌∷◌, ◌++◌, Some, None, codes, refl, sym, subst, arith}
use Rattle.std.specs.List.{flat_map}
use Rattle.std.proofs.lemmas.Bool.{or_cases}
use Rattle.esb_token.specs.declared.kind.Kind.{Kind}
use Rattle.esb_token.specs.declared.kind.Kind.TheVariants as k
use Rattle.esb_token.specs.declared.token.Token.{Token}
use Rattle.esb_tree.specs.declared.classes.Class.{Class}
use Rattle.esb_tree.specs.declared.classes.ClassElement.{ClassElement}
use Rattle.esb_tree.specs.declared.classes.Heritage.{Heritage}
use Rattle.esb_tree.specs.declared.expressions.Expression.{Expression}
use Rattle.esb_tree.specs.declared.expressions.Expression.TheVariants as e
use Rattle.esb_tree.specs.declared.expressions.Link.{Link}
use Rattle.esb_tree.specs.declared.expressions.Link.TheVariants as l
use Rattle.esb_tree.specs.declared.expressions.Operand.{Operand}
use Rattle.esb_tree.specs.declared.expressions.Substitution.{Substitution}
use Rattle.esb_tree.specs.declared.expressions.Substitutions.{Substitutions}
use Rattle.esb_tree.specs.declared.functions.ConciseBody.{ConciseBody}
use Rattle.esb_tree.specs.declared.functions.Function.{Function}
use Rattle.esb_tree.specs.declared.functions.Method.{Method}
use Rattle.esb_tree.specs.declared.patterns.Bracketed.{Bracketed}
use Rattle.esb_tree.specs.declared.patterns.Element.{Element}
use Rattle.esb_tree.specs.declared.patterns.Element.TheVariants as el
use Rattle.esb_tree.specs.declared.patterns.Elements.{Elements, roll-Elements}
use Rattle.esb_tree.specs.declared.patterns.NextElement.{NextElement}
use Rattle.esb_tree.specs.declared.patterns.PropertyName.{PropertyName}
use Rattle.esb_tree.specs.declared.statements.Block.{Block}
use Rattle.esb_tree.specs.declared.statements.CaseClause.{CaseClause}
use Rattle.esb_tree.specs.declared.statements.Declaration.{Declaration, roll-Declaration, out-Declaration}
use Rattle.esb_tree.specs.declared.statements.Else.{Else}
use Rattle.esb_tree.specs.declared.statements.ElseIf.{ElseIf}
use Rattle.esb_tree.specs.declared.statements.Finalizer.{Finalizer}
use Rattle.esb_tree.specs.declared.statements.Finalizer.TheVariants as fi
use Rattle.esb_tree.specs.declared.statements.ForStart.{ForStart}
use Rattle.esb_tree.specs.declared.statements.Handler.{Handler}
use Rattle.esb_tree.specs.declared.statements.Handler.TheVariants as ha
use Rattle.esb_tree.specs.declared.statements.IfClause.{IfClause}
use Rattle.esb_tree.specs.declared.statements.MaybeExpression.{MaybeExpression}
use Rattle.esb_tree.specs.declared.statements.MaybeExpression.TheVariants as me
use Rattle.esb_tree.specs.declared.statements.Statement.{Statement}
use Rattle.esb_tree.specs.Trees.{written, completed}
use Rattle.esb_tree.specs.Yields.{Tokens, maybe_token, tokens_of_block, tokens_of_bracketed, tokens_of_case_clause, tokens_of_class, tokens_of_class_element, tokens_of_concise_body, tokens_of_declaration, tokens_of_element, tokens_of_elements, tokens_of_else, tokens_of_else_if, tokens_of_expression, tokens_of_finalizer, tokens_of_for_start, tokens_of_function, tokens_of_handler, tokens_of_heritage, tokens_of_if_clause, tokens_of_link, tokens_of_maybe_expression, tokens_of_method, tokens_of_next_element, tokens_of_operand, tokens_of_property_name, tokens_of_statement, tokens_of_substitution, tokens_of_substitutions}
use Rattle.esb_tree.proofs.TokenLines.{tokens_Absent, tokens_ArrayLiteral, tokens_Arrow, tokens_Assignment, tokens_AsyncArrow, tokens_Await, tokens_Binary, tokens_Block, tokens_BlockStatement, tokens_Bracketed, tokens_Break, tokens_Call, tokens_Case, tokens_Catch, tokens_CatchParameter, tokens_Class, tokens_ClassDeclaration, tokens_ClassExpression, tokens_ClassMethod, tokens_Computed, tokens_ConciseBlock, tokens_ConciseValue, tokens_Conditional, tokens_Continue, tokens_Debugger, tokens_Declaration, tokens_Default, tokens_DoWhile, tokens_Dot, tokens_Elements, tokens_ElseIf, tokens_Empty, tokens_EmptyElement, tokens_ExpressionStatement, tokens_Extends, tokens_Finally, tokens_For, tokens_ForEach, tokens_Function, tokens_FunctionDeclaration, tokens_FunctionExpression, tokens_Hole, tokens_If, tokens_IfClause, tokens_ImportCall, tokens_Index, tokens_Initialized, tokens_Labelled, tokens_Member, tokens_MetaProperty, tokens_Method, tokens_MethodProperty, tokens_Named, tokens_New, tokens_NewPlain, tokens_NextElement, tokens_NoElse, tokens_NoFinalizer, tokens_NoHandler, tokens_NoHeritage, tokens_NoStart, tokens_ObjectLiteral, tokens_Operand, tokens_OptionalCall, tokens_OptionalDot, tokens_OptionalIndex, tokens_Otherwise, tokens_Parenthesized, tokens_PostfixUpdate, tokens_PrefixUpdate, tokens_Present, tokens_Primary, tokens_Property, tokens_Return, tokens_Shorthand, tokens_Spread, tokens_StartDeclaration, tokens_StartExpression, tokens_Substitution, tokens_Substitutions, tokens_Switch, tokens_Tagged, tokens_TaggedTemplate, tokens_TemplateLiteral, tokens_Throw, tokens_Try, tokens_Unary, tokens_Value, tokens_Variables, tokens_While, tokens_Yield, tokens_YieldEach, tokens_YieldValue}
use Rattle.esb_grammar.specs.declared.context.Context.{Context}
use Rattle.esb_grammar.specs.declared.form.Form.{Form}
use Rattle.esb_grammar.specs.declared.form.Form.TheVariants as f
use Rattle.esb_grammar.specs.Grammar.{is_await_in, IsPrimary, IsTemplate, AreSubstitutions, IsPropertyName, IsOrigin, IsAccess, AreLinks, IsLink, IsNew, IsLeftHandSide, IsUpdate, IsUnary, IsBinary, ArePowers, AreOperands, IsConditional, IsAssignment, IsArrowHead, IsAsyncArrowHead, IsConciseBody, IsExpression, AreCommaOperands, IsBracketed, AreElements, AreNextElements, IsElement, IsTarget, IsBindingElement, IsBinding, IsFunction, IsMethod, IsClass, IsHeritage, AreClassElements, IsBlock, AreItems, IsItem, IsDeclaration, IsStatement, IsIfClause, AreElseIfs, IsElse, IsForStart, IsForTarget, IsMaybeExpression, AreCaseClauses, IsCatch, IsFinalizer}
use Rattle.esb_grammar.specs.Kinds.{is_reference, is_star, is_static}
use Rattle.esb_grammar.specs.Semicolons.{expression_goes_on, statement_goes_on, bindings_go_on, nothing_goes_on}
use Rattle.esb_grammar.specs.Words.{is_word, is_async}
use Rattle.esb_print.specs.Again.{may_follow}
use Rattle.esb_print_tree.proofs.Joints.{is_closed, first_closed, may_lead, Piece, Led, also, led_also, nothing, one, led_then, put_then, open_then, led_maybe, is, led_is, maybe_put, end_put, loop_put}
use Rattle.esb_print_tree.proofs.Classes.{of_kind, reference-closed, binding-closed, literal-closed, property-closed, update-closed, unary-closed, assignment-closed, lexical-closed, variable-closed, star-closed, static-closed, await-closed, word-closed, level-closed, opener-closed, closer-closed, identifier-closed, identifier-behind_dot, identifier-behind_question_dot, word-behind_dot, kind-there, there}

-- ---- behind open tokens

behind : {p : Kind} (t : Token) (n : Kind) → t.kind ≡ p → may_follow p n ≡ true → may_follow t.kind n ≡ true
behind t n h may = subst (λ x. may_follow x n ≡ true) (sym h) may

kind_behind : {kind : Kind} (t : Token) → t.kind ≡ kind → may_follow k.QuestionDot kind ≡ true → may_follow k.QuestionDot t.kind ≡ true
kind_behind t h may = subst (λ x. may_follow k.QuestionDot x ≡ true) (sym h) may

question_may : (n : Kind) → is_closed n ≡ true → may_follow k.Question n ≡ true
question_may k.Dot h = cc
question_may k.QuestionDot h = cc
question_may _ h = refl

question_leads : (q : Token) (C D : Tokens) → q.kind ≡ k.Question → first_closed C ≡ true → may_lead q.kind (C ++ D) ≡ true
question_leads q [] D h first = cc
question_leads q (t ∷ ts) D h first = behind q t.kind h (question_may t.kind first)

arguments_lead : (text : List ℕ) (dot : Token) {c : Context} {list : Bracketed} → dot.kind ≡ k.QuestionDot → IsBracketed text f.Arguments c list → may_lead dot.kind (tokens_of_bracketed completed list) ≡ true
arguments_lead text dot h (IsBracketed.bracketed begin list ending b inner ends) =
    subst (λ x. may_lead dot.kind x ≡ true) (sym (tokens_Bracketed completed begin list ending)) (behind dot begin.kind h (kind_behind begin b refl))

positive : (own : ℕ) → 1 < own → 0 < own
positive own h = omega (arith, h)

accessor-closed : (text : List ℕ) (word : Token) → (is_word text (codes "get") word || is_word text (codes "set") word) ≡ true → is_closed word.kind ≡ true
accessor-closed text word h = elim (or_cases (is_word text (codes "get") word) _ h) [ inl a ↦ word-closed text _ word a | inr b ↦ word-closed text _ word b ]

-- ---- each kind of node

mutual
  primary-led : (text : List ℕ) {c : Context} {x : Expression} → IsPrimary text c x → Led text (tokens_of_expression written x) (tokens_of_expression completed x)
  primary-led text (IsPrimary.identifier_reference {c = c} {t = t} h1) = led_is (tokens_Primary written t) (tokens_Primary completed t) (one t (reference-closed c t.kind h1))
  primary-led text (IsPrimary.literal {t = t} h1) = led_is (tokens_Primary written t) (tokens_Primary completed t) (one t (literal-closed t.kind h1))
  primary-led text (IsPrimary.array_literal {list = list} h1) = led_is (tokens_ArrayLiteral written list) (tokens_ArrayLiteral completed list) (bracketed-led text h1)
  primary-led text (IsPrimary.object_literal {list = list} h1) = led_is (tokens_ObjectLiteral written list) (tokens_ObjectLiteral completed list) (bracketed-led text h1)
  primary-led text (IsPrimary.parenthesized {list = list} h1) = led_is (tokens_Parenthesized written list) (tokens_Parenthesized completed list) (bracketed-led text h1)
  primary-led text (IsPrimary.template_literal {template = template} h1) = led_is (tokens_TemplateLiteral written template) (tokens_TemplateLiteral completed template) (template-led text h1)
  primary-led text (IsPrimary.function_expression {function = function} h1) = led_is (tokens_FunctionExpression written function) (tokens_FunctionExpression completed function) (function-led text h1)
  primary-led text (IsPrimary.class_expression {class = class} h1) = led_is (tokens_ClassExpression written class) (tokens_ClassExpression completed class) (class-led text h1)

  template-led : (text : List ℕ) {c : Context} {x : Substitutions} → IsTemplate text c x → Led text (tokens_of_substitutions written x) (tokens_of_substitutions completed x)
  template-led text (IsTemplate.substitution_template begin first rest ending h1 h2 h3 h4) = led_is (tokens_Substitutions written begin first rest ending) (tokens_Substitutions completed begin first rest ending) (led_then begin (of_kind begin h1 refl) (also (expression-led text h2).piece (also (substitutions-piece text h3) (one ending (of_kind ending h4 refl)).piece)))

  substitutions-piece : (text : List ℕ) {c : Context} {xs : List Substitution} → AreSubstitutions text c xs → Piece text (flat_map (tokens_of_substitution written) xs) (flat_map (tokens_of_substitution completed) xs)
  substitutions-piece text AreSubstitutions.no_substitutions = nothing
  substitutions-piece text (AreSubstitutions.template_middle {middle = middle} {x = x} h1 h2 h3) = also (is (tokens_Substitution written middle x) (tokens_Substitution completed middle x) (put_then middle (of_kind middle h1 refl) (expression-led text h2).piece)) (substitutions-piece text h3)

  property_name-piece : (text : List ℕ) {c : Context} {x : PropertyName} → IsPropertyName text c x → Piece text (tokens_of_property_name written x) (tokens_of_property_name completed x)
  property_name-piece text (IsPropertyName.literal_property_name {t = t} h1) = is (tokens_Named written t) (tokens_Named completed t) (one t (property-closed t.kind h1)).piece
  property_name-piece text (IsPropertyName.computed_property_name {begin = begin} {x = x} {ending = ending} h1 h2 h3) = is (tokens_Computed written begin x ending) (tokens_Computed completed begin x ending) (put_then begin (of_kind begin h1 refl) (also (assignment-led text h2).piece (one ending (of_kind ending h3 refl)).piece))

  origin-led : (text : List ℕ) {calls : Bool} {c : Context} {x : Expression} → IsOrigin text calls c x → Led text (tokens_of_expression written x) (tokens_of_expression completed x)
  origin-led text (IsOrigin.primary_expression h1) = primary-led text h1
  origin-led text (IsOrigin.new_target {word = word} {dot = dot} {name = name} h1 h2 h3) = led_is (tokens_MetaProperty written word dot name) (tokens_MetaProperty completed word dot name) (led_then word (of_kind word h1 refl) (open_then dot (behind dot name.kind h2 (word-behind_dot text _ name h3)) (one name (word-closed text _ name h3)).piece))
  origin-led text (IsOrigin.import_meta {word = word} {dot = dot} {name = name} h1 h2 h3) = led_is (tokens_MetaProperty written word dot name) (tokens_MetaProperty completed word dot name) (led_then word (of_kind word h1 refl) (open_then dot (behind dot name.kind h2 (word-behind_dot text _ name h3)) (one name (word-closed text _ name h3)).piece))
  origin-led text (IsOrigin.new_with_arguments {word = word} {callee = callee} {arguments = arguments} h1 h2 h3) = led_is (tokens_New written word callee arguments) (tokens_New completed word callee arguments) (led_then word (of_kind word h1 refl) (also (access-led text h2).piece (bracketed-led text h3).piece))
  origin-led text (IsOrigin.import_call {word = word} {begin = begin} {x = x} {ending = ending} h1 h2 h3 h4) = led_is (tokens_ImportCall written word begin x ending) (tokens_ImportCall completed word begin x ending) (led_then word (of_kind word h1 refl) (put_then begin (of_kind begin h2 refl) (also (assignment-led text h3).piece (one ending (of_kind ending h4 refl)).piece)))

  access-led : (text : List ℕ) {calls : Bool} {c : Context} {x : Expression} → IsAccess text calls c x → Led text (tokens_of_expression written x) (tokens_of_expression completed x)
  access-led text (IsAccess.origin h1) = origin-led text h1
  access-led text (IsAccess.member object first rest h1 h2) = led_is (tokens_Member written object (first ∷ rest)) (tokens_Member completed object (first ∷ rest)) (led_also (origin-led text h1) (links-piece text h2))
  access-led text (IsAccess.super_member word first rest h1 h2 h3) = led_is (tokens_Member written (e.Primary word) (first ∷ rest)) (tokens_Member completed (e.Primary word) (first ∷ rest)) (led_also (led_is (tokens_Primary written word) (tokens_Primary completed word) (one word (of_kind word h1 refl))) (links-piece text h3))

  links-piece : (text : List ℕ) {calls : Bool} {optional : Bool} {c : Context} {xs : List Link} → AreLinks text calls optional c xs → Piece text (flat_map (tokens_of_link written) xs) (flat_map (tokens_of_link completed) xs)
  links-piece text AreLinks.no_links = nothing
  links-piece text (AreLinks.more_links h1 h2) = also (link-piece text h1) (links-piece text h2)

  link-piece : (text : List ℕ) {calls : Bool} {optional : Bool} {c : Context} {x : Link} → IsLink text calls optional c x → Piece text (tokens_of_link written x) (tokens_of_link completed x)
  link-piece text (IsLink.dot_name {dot = dot} {name = name} h1 h2) = is (tokens_Dot written dot name) (tokens_Dot completed dot name) (open_then dot (behind dot name.kind h1 (identifier-behind_dot name.kind h2)) (one name (identifier-closed name.kind h2)).piece)
  link-piece text (IsLink.index {begin = begin} {x = x} {ending = ending} h1 h2 h3) = is (tokens_Index written begin x ending) (tokens_Index completed begin x ending) (put_then begin (of_kind begin h1 refl) (also (expression-led text h2).piece (one ending (of_kind ending h3 refl)).piece))
  link-piece text (IsLink.call {arguments = arguments} h1) = is (tokens_Call written arguments) (tokens_Call completed arguments) (bracketed-led text h1).piece
  link-piece text (IsLink.tagged {template = template} h1) = is (tokens_Tagged written template) (tokens_Tagged completed template) (one template (of_kind template h1 refl)).piece
  link-piece text (IsLink.tagged_template {template = template} h1) = is (tokens_TaggedTemplate written template) (tokens_TaggedTemplate completed template) (template-led text h1).piece
  link-piece text (IsLink.optional_dot {dot = dot} {name = name} h1 h2) = is (tokens_OptionalDot written dot name) (tokens_OptionalDot completed dot name) (open_then dot (behind dot name.kind h1 (identifier-behind_question_dot name.kind h2)) (one name (identifier-closed name.kind h2)).piece)
  link-piece text (IsLink.optional_index {dot = dot} {begin = begin} {x = x} {ending = ending} h1 h2 h3 h4) = is (tokens_OptionalIndex written dot begin x ending) (tokens_OptionalIndex completed dot begin x ending) (open_then dot (behind dot begin.kind h1 (kind_behind begin h2 refl)) (put_then begin (of_kind begin h2 refl) (also (expression-led text h3).piece (one ending (of_kind ending h4 refl)).piece)))
  link-piece text (IsLink.optional_call {dot = dot} {arguments = arguments} h1 h2) = is (tokens_OptionalCall written dot arguments) (tokens_OptionalCall completed dot arguments) (open_then dot (arguments_lead text dot h1 h2) (bracketed-led text h2).piece)

  new-led : (text : List ℕ) {c : Context} {x : Expression} → IsNew text c x → Led text (tokens_of_expression written x) (tokens_of_expression completed x)
  new-led text (IsNew.member_expression h1) = access-led text h1
  new-led text (IsNew.new_expression {word = word} {callee = callee} h1 h2) = led_is (tokens_NewPlain written word callee) (tokens_NewPlain completed word callee) (led_then word (of_kind word h1 refl) (new-led text h2).piece)

  left_hand_side-led : (text : List ℕ) {c : Context} {x : Expression} → IsLeftHandSide text c x → Led text (tokens_of_expression written x) (tokens_of_expression completed x)
  left_hand_side-led text (IsLeftHandSide.access h1) = access-led text h1
  left_hand_side-led text (IsLeftHandSide.new_without_arguments {word = word} {callee = callee} h1 h2) = led_is (tokens_NewPlain written word callee) (tokens_NewPlain completed word callee) (led_then word (of_kind word h1 refl) (new-led text h2).piece)

  update-led : (text : List ℕ) {c : Context} {x : Expression} → IsUpdate text c x → Led text (tokens_of_expression written x) (tokens_of_expression completed x)
  update-led text (IsUpdate.left_hand_side h1) = left_hand_side-led text h1
  update-led text (IsUpdate.postfix {x = x} {operator = operator} h1 h2 h3) = led_is (tokens_PostfixUpdate written x operator) (tokens_PostfixUpdate completed x operator) (led_also (left_hand_side-led text h1) (one operator (update-closed operator.kind h2)).piece)
  update-led text (IsUpdate.prefix {operator = operator} {x = x} h1 h2) = led_is (tokens_PrefixUpdate written operator x) (tokens_PrefixUpdate completed operator x) (led_then operator (update-closed operator.kind h1) (unary-led text h2).piece)

  unary-led : (text : List ℕ) {c : Context} {x : Expression} → IsUnary text c x → Led text (tokens_of_expression written x) (tokens_of_expression completed x)
  unary-led text (IsUnary.update h1) = update-led text h1
  unary-led text (IsUnary.unary {operator = operator} {x = x} h1 h2) = led_is (tokens_Unary written operator x) (tokens_Unary completed operator x) (led_then operator (unary-closed operator.kind h1) (unary-led text h2).piece)
  unary-led text (IsUnary.await {word = word} {x = x} h1 h2 h3) = led_is (tokens_Await written word x) (tokens_Await completed word x) (led_then word (of_kind word h2 refl) (unary-led text h3).piece)

  binary-led : (text : List ℕ) {level : ℕ} {c : Context} {x : Expression} → IsBinary text level c x → Led text (tokens_of_expression written x) (tokens_of_expression completed x)
  binary-led text (IsBinary.unary_expression h1) = unary-led text h1
  binary-led text (IsBinary.exponentiation first second rest h1 h2 h3) = led_is (tokens_Binary written first (second ∷ rest)) (tokens_Binary completed first (second ∷ rest)) (led_also (update-led text h2) (powers-piece text h3))
  binary-led text (IsBinary.operators own first second rest h1 h2 h3 h4) = led_is (tokens_Binary written first (second ∷ rest)) (tokens_Binary completed first (second ∷ rest)) (led_also (binary-led text h3) (operands-piece text (positive own h1) h4))

  powers-piece : (text : List ℕ) {c : Context} {xs : List Operand} → ArePowers text c xs → Piece text (flat_map (tokens_of_operand written) xs) (flat_map (tokens_of_operand completed) xs)
  powers-piece text (ArePowers.last_power {operator = operator} {x = x} h1 h2) = also (is (tokens_Operand written operator x) (tokens_Operand completed operator x) (put_then operator (of_kind operator h1 refl) (unary-led text h2).piece)) (nothing)
  powers-piece text (ArePowers.more_powers {operator = operator} {x = x} h1 h2 h3) = also (is (tokens_Operand written operator x) (tokens_Operand completed operator x) (put_then operator (of_kind operator h1 refl) (update-led text h2).piece)) (powers-piece text h3)

  operands-piece : (text : List ℕ) {own : ℕ} {c : Context} {xs : List Operand} → 0 < own → AreOperands text own c xs → Piece text (flat_map (tokens_of_operand written) xs) (flat_map (tokens_of_operand completed) xs)
  operands-piece text some AreOperands.no_operands = nothing
  operands-piece text some (AreOperands.more_operands {own = own} {c = c} {operator = operator} {x = x} h1 h2 h3) = also (is (tokens_Operand written operator x) (tokens_Operand completed operator x) (put_then operator (level-closed c.has_in operator.kind own some h1) (binary-led text h2).piece)) (operands-piece text some h3)

  conditional-led : (text : List ℕ) {c : Context} {x : Expression} → IsConditional text c x → Led text (tokens_of_expression written x) (tokens_of_expression completed x)
  conditional-led text (IsConditional.short_circuit h1) = binary-led text h1
  conditional-led text (IsConditional.conditional {test = test} {question = question} {x = x} {colon = colon} {other = other} h1 h2 h3 h4 h5) = led_is (tokens_Conditional written test question x colon other) (tokens_Conditional completed test question x colon other) (led_also (binary-led text h1) (open_then question (question_leads question (tokens_of_expression completed x) (colon ∷ tokens_of_expression completed other) h2 (assignment-led text h3).first) (also (assignment-led text h3).piece (put_then colon (of_kind colon h4 refl) (assignment-led text h5).piece))))

  pub assignment-led : (text : List ℕ) {c : Context} {x : Expression} → IsAssignment text c x → Led text (tokens_of_expression written x) (tokens_of_expression completed x)
  assignment-led text (IsAssignment.conditional_expression h1) = conditional-led text h1
  assignment-led text (IsAssignment.assignment {target = target} {operator = operator} {x = x} h1 h2 h3) = led_is (tokens_Assignment written target operator x) (tokens_Assignment completed target operator x) (led_also (left_hand_side-led text h1) (put_then operator (assignment-closed operator.kind h2) (assignment-led text h3).piece))
  assignment-led text (IsAssignment.yield_alone {word = word} h1 h2) = led_is (tokens_Yield written word) (tokens_Yield completed word) (one word (of_kind word h2 refl))
  assignment-led text (IsAssignment.yield_value {word = word} {x = x} h1 h2 h3 h4) = led_is (tokens_YieldValue written word x) (tokens_YieldValue completed word x) (led_then word (of_kind word h2 refl) (assignment-led text h4).piece)
  assignment-led text (IsAssignment.yield_each {word = word} {star = star} {x = x} h1 h2 h3 h4 h5) = led_is (tokens_YieldEach written word star x) (tokens_YieldEach completed word star x) (led_then word (of_kind word h2 refl) (put_then star (of_kind star h3 refl) (assignment-led text h5).piece))
  assignment-led text (IsAssignment.arrow_function {parameters = parameters} {arrow = arrow} {body = body} h1 h2 h3 h4) = led_is (tokens_Arrow written parameters arrow body) (tokens_Arrow completed parameters arrow body) (led_also (arrow_head-led text h1) (put_then arrow (of_kind arrow h2 refl) (concise_body-piece text h4)))
  assignment-led text (IsAssignment.async_arrow_function {parameters = parameters} {arrow = arrow} {body = body} h1 h2 h3 h4) = led_is (tokens_Arrow written parameters arrow body) (tokens_Arrow completed parameters arrow body) (led_also (async_arrow_head-led text h1) (put_then arrow (of_kind arrow h2 refl) (concise_body-piece text h4)))
  assignment-led text (IsAssignment.async_arrow_of_name {word = word} {name = name} {arrow = arrow} {body = body} h1 h2 h3 h4 h5 h6) = led_is (tokens_AsyncArrow written word name arrow body) (tokens_AsyncArrow completed word name arrow body) (led_then word (word-closed text _ word h1) (put_then name (binding-closed name.kind h2) (put_then arrow (of_kind arrow h4 refl) (concise_body-piece text h6))))

  arrow_head-led : (text : List ℕ) {c : Context} {x : Expression} → IsArrowHead text c x → Led text (tokens_of_expression written x) (tokens_of_expression completed x)
  arrow_head-led text (IsArrowHead.arrow_name {c = c} {t = t} h1) = led_is (tokens_Primary written t) (tokens_Primary completed t) (one t (reference-closed c t.kind h1))
  arrow_head-led text (IsArrowHead.arrow_parameters {list = list} h1 h2) = led_is (tokens_Parenthesized written list) (tokens_Parenthesized completed list) (bracketed-led text h1)

  async_arrow_head-led : (text : List ℕ) {c : Context} {x : Expression} → IsAsyncArrowHead text c x → Led text (tokens_of_expression written x) (tokens_of_expression completed x)
  async_arrow_head-led text (IsAsyncArrowHead.async_arrow_parameters word list h1 h2 h3 h4) = led_is (tokens_Member written (e.Primary word) (l.Call list ∷ [])) (tokens_Member completed (e.Primary word) (l.Call list ∷ [])) (led_also (led_is (tokens_Primary written word) (tokens_Primary completed word) (one word (word-closed text _ word h1))) (also (is (tokens_Call written list) (tokens_Call completed list) (bracketed-led text h3).piece) (nothing)))

  concise_body-piece : (text : List ℕ) {c : Context} {x : ConciseBody} → IsConciseBody text c x → Piece text (tokens_of_concise_body written x) (tokens_of_concise_body completed x)
  concise_body-piece text (IsConciseBody.concise_value {x = x} h1 h2) = is (tokens_ConciseValue written x) (tokens_ConciseValue completed x) (assignment-led text h2).piece
  concise_body-piece text (IsConciseBody.concise_block {block = block} h1) = is (tokens_ConciseBlock written block) (tokens_ConciseBlock completed block) (block-piece text h1)

  expression-led : (text : List ℕ) {c : Context} {x : Expression} → IsExpression text c x → Led text (tokens_of_expression written x) (tokens_of_expression completed x)
  expression-led text (IsExpression.assignment_expression h1) = assignment-led text h1
  expression-led text (IsExpression.commas first second rest h1 h2) = led_is (tokens_Binary written first (second ∷ rest)) (tokens_Binary completed first (second ∷ rest)) (led_also (assignment-led text h1) (comma_operands-piece text h2))

  comma_operands-piece : (text : List ℕ) {c : Context} {xs : List Operand} → AreCommaOperands text c xs → Piece text (flat_map (tokens_of_operand written) xs) (flat_map (tokens_of_operand completed) xs)
  comma_operands-piece text AreCommaOperands.no_comma_operands = nothing
  comma_operands-piece text (AreCommaOperands.comma_operand {comma = comma} {x = x} h1 h2 h3) = also (is (tokens_Operand written comma x) (tokens_Operand completed comma x) (put_then comma (of_kind comma h1 refl) (assignment-led text h2).piece)) (comma_operands-piece text h3)

  bracketed-led : (text : List ℕ) {form : Form} {c : Context} {x : Bracketed} → IsBracketed text form c x → Led text (tokens_of_bracketed written x) (tokens_of_bracketed completed x)
  bracketed-led text (IsBracketed.bracketed {form = form} begin list ending h1 h2 h3) = led_is (tokens_Bracketed written begin list ending) (tokens_Bracketed completed begin list ending) (led_then begin (of_kind begin h1 (opener-closed form)) (also (elements-piece text h2) (one ending (of_kind ending h3 (closer-closed form))).piece))

  elements-piece : (text : List ℕ) {form : Form} {c : Context} {x : Elements} → AreElements text form c x → Piece text (tokens_of_elements written x) (tokens_of_elements completed x)
  elements-piece text (AreElements.elements first rest h1 h2) = is (tokens_Elements written first rest) (tokens_Elements completed first rest) (also (element-piece text h1) (next_elements-piece text h2))

  next_elements-piece : (text : List ℕ) {form : Form} {c : Context} {xs : List NextElement} → AreNextElements text form c xs → Piece text (flat_map (tokens_of_next_element written) xs) (flat_map (tokens_of_next_element completed) xs)
  next_elements-piece text AreNextElements.no_elements = nothing
  next_elements-piece text (AreNextElements.more_elements {comma = comma} {element = element} h1 h2 h3) = also (is (tokens_NextElement written comma element) (tokens_NextElement completed comma element) (put_then comma (of_kind comma h1 refl) (element-piece text h2))) (next_elements-piece text h3)

  element-piece : (text : List ℕ) {form : Form} {last : Bool} {c : Context} {x : Element} → IsElement text form last c x → Piece text (tokens_of_element written x) (tokens_of_element completed x)
  element-piece text (IsElement.hole h1) = is (tokens_Hole written) (tokens_Hole completed) (nothing)
  element-piece text (IsElement.value {x = x} h1 h2) = is (tokens_Value written x) (tokens_Value completed x) (assignment-led text h2).piece
  element-piece text (IsElement.spread {dots = dots} {x = x} h1 h2 h3) = is (tokens_Spread written dots x) (tokens_Spread completed dots x) (put_then dots (of_kind dots h2 refl) (assignment-led text h3).piece)
  element-piece text (IsElement.shorthand {c = c} {name = name} h1) = is (tokens_Shorthand written name) (tokens_Shorthand completed name) (one name (reference-closed c name.kind h1)).piece
  element-piece text (IsElement.cover_initialized_name {c = c} {name = name} {sign = sign} {x = x} h1 h2 h3) = is (tokens_Initialized written name sign x) (tokens_Initialized completed name sign x) (put_then name (reference-closed c name.kind h1) (put_then sign (of_kind sign h2 refl) (assignment-led text h3).piece))
  element-piece text (IsElement.property {name = name} {colon = colon} {x = x} h1 h2 h3) = is (tokens_Property written name colon x) (tokens_Property completed name colon x) (also (property_name-piece text h1) (put_then colon (of_kind colon h2 refl) (assignment-led text h3).piece))
  element-piece text (IsElement.method_property {method = method} h1) = is (tokens_MethodProperty written method) (tokens_MethodProperty completed method) (method-piece text h1)
  element-piece text (IsElement.binding_element {x = x} h1 h2) = is (tokens_Value written x) (tokens_Value completed x) (binding_element-led text h2).piece
  element-piece text (IsElement.rest_element {dots = dots} {x = x} h1 h2 h3) = is (tokens_Spread written dots x) (tokens_Spread completed dots x) (put_then dots (of_kind dots h2 refl) (target-led text h3).piece)
  element-piece text (IsElement.single_name {name = name} h1) = is (tokens_Shorthand written name) (tokens_Shorthand completed name) (one name (binding-closed name.kind h1)).piece
  element-piece text (IsElement.single_name_initialized {name = name} {sign = sign} {x = x} h1 h2 h3) = is (tokens_Initialized written name sign x) (tokens_Initialized completed name sign x) (put_then name (binding-closed name.kind h1) (put_then sign (of_kind sign h2 refl) (assignment-led text h3).piece))
  element-piece text (IsElement.binding_property {name = name} {colon = colon} {x = x} h1 h2 h3) = is (tokens_Property written name colon x) (tokens_Property completed name colon x) (also (property_name-piece text h1) (put_then colon (of_kind colon h2 refl) (binding_element-led text h3).piece))
  element-piece text (IsElement.rest_property {dots = dots} {name = name} h1 h2) = is (tokens_Spread written dots (e.Primary name)) (tokens_Spread completed dots (e.Primary name)) (put_then dots (of_kind dots h1 refl) (led_is (tokens_Primary written name) (tokens_Primary completed name) (one name (binding-closed name.kind h2))).piece)
  element-piece text (IsElement.binding {x = x} h1) = is (tokens_Value written x) (tokens_Value completed x) (binding-led text h1).piece

  target-led : (text : List ℕ) {c : Context} {x : Expression} → IsTarget text c x → Led text (tokens_of_expression written x) (tokens_of_expression completed x)
  target-led text (IsTarget.binding_identifier {t = t} h1) = led_is (tokens_Primary written t) (tokens_Primary completed t) (one t (binding-closed t.kind h1))
  target-led text (IsTarget.array_pattern {list = list} h1) = led_is (tokens_ArrayLiteral written list) (tokens_ArrayLiteral completed list) (bracketed-led text h1)
  target-led text (IsTarget.object_pattern {list = list} h1) = led_is (tokens_ObjectLiteral written list) (tokens_ObjectLiteral completed list) (bracketed-led text h1)

  binding_element-led : (text : List ℕ) {c : Context} {x : Expression} → IsBindingElement text c x → Led text (tokens_of_expression written x) (tokens_of_expression completed x)
  binding_element-led text (IsBindingElement.without_default h1) = target-led text h1
  binding_element-led text (IsBindingElement.with_default {target = target} {sign = sign} {x = x} h1 h2 h3) = led_is (tokens_Assignment written target sign x) (tokens_Assignment completed target sign x) (led_also (target-led text h1) (put_then sign (of_kind sign h2 refl) (assignment-led text h3).piece))

  binding-led : (text : List ℕ) {c : Context} {x : Expression} → IsBinding text c x → Led text (tokens_of_expression written x) (tokens_of_expression completed x)
  binding-led text (IsBinding.without_value {t = t} h1) = led_is (tokens_Primary written t) (tokens_Primary completed t) (one t (binding-closed t.kind h1))
  binding-led text (IsBinding.with_value {target = target} {sign = sign} {x = x} h1 h2 h3) = led_is (tokens_Assignment written target sign x) (tokens_Assignment completed target sign x) (led_also (target-led text h1) (put_then sign (of_kind sign h2 refl) (assignment-led text h3).piece))

  pub function-led : (text : List ℕ) {named : Bool} {x : Function} → IsFunction text named x → Led text (tokens_of_function written x) (tokens_of_function completed x)
  function-led text (IsFunction.nameless_function async_word word star parameters body h1 h2 h3 h4 h5 h6) = led_is (tokens_Function written async_word word star None parameters body) (tokens_Function completed async_word word star None parameters body) (led_maybe async_word (there (is_async text) (λ t h. word-closed text (codes "async") t h) async_word h1) (led_then word (of_kind word h2 refl) (also (maybe_put star (kind-there is_star star-closed star h4)) (also (nothing) (also (bracketed-led text h5).piece (block-piece text h6))))))
  function-led text (IsFunction.named_function async_word word star name parameters body h1 h2 h3 h4 h5 h6 h7) = led_is (tokens_Function written async_word word star (Some name) parameters body) (tokens_Function completed async_word word star (Some name) parameters body) (led_maybe async_word (there (is_async text) (λ t h. word-closed text (codes "async") t h) async_word h1) (led_then word (of_kind word h2 refl) (also (maybe_put star (kind-there is_star star-closed star h4)) (also (maybe_put (Some name) (binding-closed name.kind h5)) (also (bracketed-led text h6).piece (block-piece text h7))))))

  method-piece : (text : List ℕ) {c : Context} {x : Method} → IsMethod text c x → Piece text (tokens_of_method written x) (tokens_of_method completed x)
  method-piece text (IsMethod.plain_method star name parameters body h1 h2 h3 h4) = is (tokens_Method written None star name parameters body) (tokens_Method completed None star name parameters body) (also (nothing) (also (maybe_put star (kind-there is_star star-closed star h1)) (also (property_name-piece text h2) (also (bracketed-led text h3).piece (block-piece text h4)))))
  method-piece text (IsMethod.async_method word star name parameters body h1 h2 h3 h4 h5 h6) = is (tokens_Method written (Some word) star name parameters body) (tokens_Method completed (Some word) star name parameters body) (also (maybe_put (Some word) (word-closed text _ word h1)) (also (maybe_put star (kind-there is_star star-closed star h2)) (also (property_name-piece text h4) (also (bracketed-led text h5).piece (block-piece text h6)))))
  method-piece text (IsMethod.accessor word name parameters body h1 h2 h3 h4) = is (tokens_Method written (Some word) None name parameters body) (tokens_Method completed (Some word) None name parameters body) (also (maybe_put (Some word) (accessor-closed text word h1)) (also (nothing) (also (property_name-piece text h2) (also (bracketed-led text h3).piece (block-piece text h4)))))

  pub class-led : (text : List ℕ) {named : Bool} {c : Context} {x : Class} → IsClass text named c x → Led text (tokens_of_class written x) (tokens_of_class completed x)
  class-led text (IsClass.nameless_class word heritage begin members ending h1 h2 h3 h4 h5) = led_is (tokens_Class written word None heritage begin members ending) (tokens_Class completed word None heritage begin members ending) (led_then word (of_kind word h1 refl) (also (nothing) (also (heritage-piece text h2) (put_then begin (of_kind begin h3 refl) (also (class_elements-piece text h4) (one ending (of_kind ending h5 refl)).piece)))))
  class-led text (IsClass.named_class word name heritage begin members ending h1 h2 h3 h4 h5 h6) = led_is (tokens_Class written word (Some name) heritage begin members ending) (tokens_Class completed word (Some name) heritage begin members ending) (led_then word (of_kind word h1 refl) (also (maybe_put (Some name) (binding-closed name.kind h2)) (also (heritage-piece text h3) (put_then begin (of_kind begin h4 refl) (also (class_elements-piece text h5) (one ending (of_kind ending h6 refl)).piece)))))

  heritage-piece : (text : List ℕ) {c : Context} {x : Heritage} → IsHeritage text c x → Piece text (tokens_of_heritage written x) (tokens_of_heritage completed x)
  heritage-piece text IsHeritage.no_heritage = is (tokens_NoHeritage written) (tokens_NoHeritage completed) (nothing)
  heritage-piece text (IsHeritage.class_heritage {word = word} {x = x} h1 h2) = is (tokens_Extends written word x) (tokens_Extends completed word x) (put_then word (of_kind word h1 refl) (left_hand_side-led text h2).piece)

  class_elements-piece : (text : List ℕ) {c : Context} {xs : List ClassElement} → AreClassElements text c xs → Piece text (flat_map (tokens_of_class_element written) xs) (flat_map (tokens_of_class_element completed) xs)
  class_elements-piece text AreClassElements.no_class_elements = nothing
  class_elements-piece text (AreClassElements.class_method {word = word} {method = method} h1 h2 h3) = also (is (tokens_ClassMethod written word method) (tokens_ClassMethod completed word method) (also (maybe_put word (kind-there is_static static-closed word h1)) (method-piece text h2))) (class_elements-piece text h3)
  class_elements-piece text (AreClassElements.class_semicolon {semicolon = semicolon} h1 h2) = also (is (tokens_EmptyElement written semicolon) (tokens_EmptyElement completed semicolon) (one semicolon (of_kind semicolon h1 refl)).piece) (class_elements-piece text h2)

  block-piece : (text : List ℕ) {c : Context} {x : Block} → IsBlock text c x → Piece text (tokens_of_block written x) (tokens_of_block completed x)
  block-piece text (IsBlock.braces begin body ending h1 h2 h3) = is (tokens_Block written begin body ending) (tokens_Block completed begin body ending) (put_then begin (of_kind begin h1 refl) (also (items-piece text h2) (one ending (of_kind ending h3 refl)).piece))

  items-piece : (text : List ℕ) {c : Context} {xs : List Statement} → AreItems text c xs → Piece text (flat_map (tokens_of_statement written) xs) (flat_map (tokens_of_statement completed) xs)
  items-piece text AreItems.no_items = nothing
  items-piece text (AreItems.more_items h1 h2) = also (item-piece text h1) (items-piece text h2)

  pub item-piece : (text : List ℕ) {c : Context} {x : Statement} → IsItem text c x → Piece text (tokens_of_statement written x) (tokens_of_statement completed x)
  item-piece text (IsItem.statement h1) = statement-piece text h1
  item-piece text (IsItem.function_declaration {function = function} h1) = is (tokens_FunctionDeclaration written function) (tokens_FunctionDeclaration completed function) (function-led text h1).piece
  item-piece text (IsItem.class_declaration {class = class} h1) = is (tokens_ClassDeclaration written class) (tokens_ClassDeclaration completed class) (class-led text h1).piece
  item-piece text (IsItem.lexical_declaration {declaration = declaration} {semicolon = semicolon} h1 h2) = is (tokens_Variables written declaration semicolon) (tokens_Variables completed declaration semicolon) (also (declaration-piece text h1) (end_put (bindings_go_on (out-Declaration declaration).bindings) (tokens_of_declaration written declaration) semicolon h2))

  declaration-piece : (text : List ℕ) {lexical : Bool} {c : Context} {x : Declaration} → IsDeclaration text lexical c x → Piece text (tokens_of_declaration written x) (tokens_of_declaration completed x)
  declaration-piece text (IsDeclaration.lexical_bindings word list h1 h2) = is (tokens_Declaration written word list) (tokens_Declaration completed word list) (put_then word (lexical-closed word.kind h1) (elements-piece text h2))
  declaration-piece text (IsDeclaration.variable_bindings word list h1 h2) = is (tokens_Declaration written word list) (tokens_Declaration completed word list) (put_then word (of_kind word h1 refl) (elements-piece text h2))

  statement-piece : (text : List ℕ) {c : Context} {x : Statement} → IsStatement text c x → Piece text (tokens_of_statement written x) (tokens_of_statement completed x)
  statement-piece text (IsStatement.block_statement {block = block} h1) = is (tokens_BlockStatement written block) (tokens_BlockStatement completed block) (block-piece text h1)
  statement-piece text (IsStatement.variable_statement {declaration = declaration} {semicolon = semicolon} h1 h2) = is (tokens_Variables written declaration semicolon) (tokens_Variables completed declaration semicolon) (also (declaration-piece text h1) (end_put (bindings_go_on (out-Declaration declaration).bindings) (tokens_of_declaration written declaration) semicolon h2))
  statement-piece text (IsStatement.empty_statement {semicolon = semicolon} h1) = is (tokens_Empty written semicolon) (tokens_Empty completed semicolon) (one semicolon (of_kind semicolon h1 refl)).piece
  statement-piece text (IsStatement.expression_statement {x = x} {semicolon = semicolon} h1 h2 h3) = is (tokens_ExpressionStatement written x semicolon) (tokens_ExpressionStatement completed x semicolon) (also (expression-led text h2).piece (end_put (statement_goes_on x) (tokens_of_expression written x) semicolon h3))
  statement-piece text (IsStatement.if_statement clause rest last h1 h2 h3) = is (tokens_If written clause rest last) (tokens_If completed clause rest last) (also (if_clause-piece text h1) (also (else_ifs-piece text h2) (else-piece text h3)))
  statement-piece text (IsStatement.do_while {word = word} {body = body} {while_word = while_word} {begin = begin} {x = x} {ending = ending} {semicolon = semicolon} h1 h2 h3 h4 h5 h6 h7) = is (tokens_DoWhile written word body while_word begin x ending semicolon) (tokens_DoWhile completed word body while_word begin x ending semicolon) (put_then word (of_kind word h1 refl) (also (statement-piece text h2) (put_then while_word (of_kind while_word h3 refl) (put_then begin (of_kind begin h4 refl) (also (expression-led text h5).piece (put_then ending (of_kind ending h6 refl) (loop_put (ending ∷ []) semicolon h7)))))))
  statement-piece text (IsStatement.while {word = word} {begin = begin} {x = x} {ending = ending} {body = body} h1 h2 h3 h4 h5) = is (tokens_While written word begin x ending body) (tokens_While completed word begin x ending body) (put_then word (of_kind word h1 refl) (put_then begin (of_kind begin h2 refl) (also (expression-led text h3).piece (put_then ending (of_kind ending h4 refl) (statement-piece text h5)))))
  statement-piece text (IsStatement.for {word = word} {begin = begin} {start = start} {first = first} {test = test} {second = second} {step = step} {ending = ending} {body = body} h1 h2 h3 h4 h5 h6 h7 h8 h9) = is (tokens_For written word begin start first test second step ending body) (tokens_For completed word begin start first test second step ending body) (put_then word (of_kind word h1 refl) (put_then begin (of_kind begin h2 refl) (also (for_start-piece text h3) (put_then first (of_kind first h4 refl) (also (maybe_expression-piece text h5) (put_then second (of_kind second h6 refl) (also (maybe_expression-piece text h7) (put_then ending (of_kind ending h8 refl) (statement-piece text h9)))))))))
  statement-piece text (IsStatement.for_in {word = word} {begin = begin} {start = start} {middle = middle} {x = x} {ending = ending} {body = body} h1 h2 h3 h4 h5 h6 h7) = is (tokens_ForEach written word None begin start middle x ending body) (tokens_ForEach completed word None begin start middle x ending body) (put_then word (of_kind word h1 refl) (also (nothing) (put_then begin (of_kind begin h2 refl) (also (for_target-piece text h3) (put_then middle (of_kind middle h4 refl) (also (expression-led text h5).piece (put_then ending (of_kind ending h6 refl) (statement-piece text h7))))))))
  statement-piece text (IsStatement.for_of {c = c} {word = word} {await_word = await_word} {begin = begin} {start = start} {middle = middle} {x = x} {ending = ending} {body = body} h1 h2 h3 h4 h5 h6 h7 h8) = is (tokens_ForEach written word await_word begin start middle x ending body) (tokens_ForEach completed word await_word begin start middle x ending body) (put_then word (of_kind word h1 refl) (also (maybe_put await_word (kind-there (is_await_in c) (await-closed c) await_word h2)) (put_then begin (of_kind begin h3 refl) (also (for_target-piece text h4) (put_then middle (word-closed text _ middle h5) (also (assignment-led text h6).piece (put_then ending (of_kind ending h7 refl) (statement-piece text h8))))))))
  statement-piece text (IsStatement.continue_statement {c = c} {word = word} {label = label} {semicolon = semicolon} h1 h2 h3 h4) = is (tokens_Continue written word label semicolon) (tokens_Continue completed word label semicolon) (put_then word (of_kind word h1 refl) (also (maybe_put label (kind-there (is_reference c) (reference-closed c) label h2)) (end_put (nothing_goes_on) (word ∷ maybe_token label) semicolon h4)))
  statement-piece text (IsStatement.break_statement {c = c} {word = word} {label = label} {semicolon = semicolon} h1 h2 h3 h4) = is (tokens_Break written word label semicolon) (tokens_Break completed word label semicolon) (put_then word (of_kind word h1 refl) (also (maybe_put label (kind-there (is_reference c) (reference-closed c) label h2)) (end_put (nothing_goes_on) (word ∷ maybe_token label) semicolon h4)))
  statement-piece text (IsStatement.return_alone {word = word} {semicolon = semicolon} h1 h2) = is (tokens_Return written word me.Absent semicolon) (tokens_Return completed word me.Absent semicolon) (put_then word (of_kind word h1 refl) (also (is (tokens_Absent written) (tokens_Absent completed) (nothing)) (end_put (nothing_goes_on) (word ∷ []) semicolon h2)))
  statement-piece text (IsStatement.return_value {word = word} {x = x} {semicolon = semicolon} h1 h2 h3 h4) = is (tokens_Return written word (me.Present x) semicolon) (tokens_Return completed word (me.Present x) semicolon) (put_then word (of_kind word h1 refl) (also (is (tokens_Present written x) (tokens_Present completed x) (expression-led text h3).piece) (end_put (expression_goes_on x) (tokens_of_expression written x) semicolon h4)))
  statement-piece text (IsStatement.switch_statement word begin x ending left clauses right h1 h2 h3 h4 h5 h6 h7) = is (tokens_Switch written word begin x ending left clauses right) (tokens_Switch completed word begin x ending left clauses right) (put_then word (of_kind word h1 refl) (put_then begin (of_kind begin h2 refl) (also (expression-led text h3).piece (put_then ending (of_kind ending h4 refl) (put_then left (of_kind left h5 refl) (also (case_clauses-piece text h6) (one right (of_kind right h7 refl)).piece))))))
  statement-piece text (IsStatement.labelled {c = c} {label = label} {colon = colon} {body = body} h1 h2 h3) = is (tokens_Labelled written label colon body) (tokens_Labelled completed label colon body) (put_then label (reference-closed c label.kind h1) (put_then colon (of_kind colon h2 refl) (statement-piece text h3)))
  statement-piece text (IsStatement.throw {word = word} {x = x} {semicolon = semicolon} h1 h2 h3 h4) = is (tokens_Throw written word x semicolon) (tokens_Throw completed word x semicolon) (put_then word (of_kind word h1 refl) (also (expression-led text h3).piece (end_put (expression_goes_on x) (tokens_of_expression written x) semicolon h4)))
  statement-piece text (IsStatement.try_catch {word = word} {block = block} {handler = handler} {finalizer = finalizer} h1 h2 h3 h4) = is (tokens_Try written word block handler finalizer) (tokens_Try completed word block handler finalizer) (put_then word (of_kind word h1 refl) (also (block-piece text h2) (also (catch-piece text h3) (finalizer-piece text h4))))
  statement-piece text (IsStatement.try_finally {word = word} {block = block} {finally_word = finally_word} {last = last} h1 h2 h3 h4) = is (tokens_Try written word block ha.NoHandler (fi.Finally finally_word last)) (tokens_Try completed word block ha.NoHandler (fi.Finally finally_word last)) (put_then word (of_kind word h1 refl) (also (block-piece text h2) (also (is (tokens_NoHandler written) (tokens_NoHandler completed) (nothing)) (is (tokens_Finally written finally_word last) (tokens_Finally completed finally_word last) (put_then finally_word (of_kind finally_word h3 refl) (block-piece text h4))))))
  statement-piece text (IsStatement.debugger {word = word} {semicolon = semicolon} h1 h2) = is (tokens_Debugger written word semicolon) (tokens_Debugger completed word semicolon) (put_then word (of_kind word h1 refl) (end_put (nothing_goes_on) (word ∷ []) semicolon h2))

  if_clause-piece : (text : List ℕ) {followed : Bool} {c : Context} {x : IfClause} → IsIfClause text followed c x → Piece text (tokens_of_if_clause written x) (tokens_of_if_clause completed x)
  if_clause-piece text (IsIfClause.if_clause {word = word} {begin = begin} {condition = condition} {ending = ending} {body = body} h1 h2 h3 h4 h5 h6) = is (tokens_IfClause written word begin condition ending body) (tokens_IfClause completed word begin condition ending body) (put_then word (of_kind word h1 refl) (put_then begin (of_kind begin h2 refl) (also (expression-led text h3).piece (put_then ending (of_kind ending h4 refl) (statement-piece text h5)))))

  else_ifs-piece : (text : List ℕ) {followed : Bool} {c : Context} {xs : List ElseIf} → AreElseIfs text followed c xs → Piece text (flat_map (tokens_of_else_if written) xs) (flat_map (tokens_of_else_if completed) xs)
  else_ifs-piece text AreElseIfs.no_else_ifs = nothing
  else_ifs-piece text (AreElseIfs.else_if word clause rest h1 h2 h3) = also (is (tokens_ElseIf written word clause) (tokens_ElseIf completed word clause) (put_then word (of_kind word h1 refl) (if_clause-piece text h2))) (else_ifs-piece text h3)

  else-piece : (text : List ℕ) {c : Context} {x : Else} → IsElse text c x → Piece text (tokens_of_else written x) (tokens_of_else completed x)
  else-piece text IsElse.no_else = is (tokens_NoElse written) (tokens_NoElse completed) (nothing)
  else-piece text (IsElse.otherwise {word = word} {body = body} h1 h2 h3) = is (tokens_Otherwise written word body) (tokens_Otherwise completed word body) (put_then word (of_kind word h1 refl) (statement-piece text h2))

  for_start-piece : (text : List ℕ) {c : Context} {x : ForStart} → IsForStart text c x → Piece text (tokens_of_for_start written x) (tokens_of_for_start completed x)
  for_start-piece text IsForStart.no_start = is (tokens_NoStart written) (tokens_NoStart completed) (nothing)
  for_start-piece text (IsForStart.start_expression {x = x} h1 h2) = is (tokens_StartExpression written x) (tokens_StartExpression completed x) (expression-led text h2).piece
  for_start-piece text (IsForStart.start_declaration {declaration = declaration} h1) = is (tokens_StartDeclaration written declaration) (tokens_StartDeclaration completed declaration) (declaration-piece text h1)

  for_target-piece : (text : List ℕ) {begins : (List Token → Bool)} {c : Context} {x : ForStart} → IsForTarget text begins c x → Piece text (tokens_of_for_start written x) (tokens_of_for_start completed x)
  for_target-piece text (IsForTarget.for_expression {x = x} h1 h2) = is (tokens_StartExpression written x) (tokens_StartExpression completed x) (left_hand_side-led text h2).piece
  for_target-piece text (IsForTarget.for_binding word x h1 h2) = is (tokens_StartDeclaration written (roll-Declaration (record { word = word; bindings = roll-Elements (record { first = el.Value x; rest = [] }) }))) (tokens_StartDeclaration completed (roll-Declaration (record { word = word; bindings = roll-Elements (record { first = el.Value x; rest = [] }) }))) (is (tokens_Declaration written word (roll-Elements (record { first = el.Value x; rest = [] }))) (tokens_Declaration completed word (roll-Elements (record { first = el.Value x; rest = [] }))) (put_then word (variable-closed word.kind h1) (is (tokens_Elements written (el.Value x) []) (tokens_Elements completed (el.Value x) []) (also (is (tokens_Value written x) (tokens_Value completed x) (target-led text h2).piece) (nothing)))))

  maybe_expression-piece : (text : List ℕ) {c : Context} {x : MaybeExpression} → IsMaybeExpression text c x → Piece text (tokens_of_maybe_expression written x) (tokens_of_maybe_expression completed x)
  maybe_expression-piece text IsMaybeExpression.absent = is (tokens_Absent written) (tokens_Absent completed) (nothing)
  maybe_expression-piece text (IsMaybeExpression.present {x = x} h1) = is (tokens_Present written x) (tokens_Present completed x) (expression-led text h1).piece

  case_clauses-piece : (text : List ℕ) {default : Bool} {c : Context} {xs : List CaseClause} → AreCaseClauses text default c xs → Piece text (flat_map (tokens_of_case_clause written) xs) (flat_map (tokens_of_case_clause completed) xs)
  case_clauses-piece text AreCaseClauses.no_clauses = nothing
  case_clauses-piece text (AreCaseClauses.case_clause word x colon body rest h1 h2 h3 h4 h5) = also (is (tokens_Case written word x colon body) (tokens_Case completed word x colon body) (put_then word (of_kind word h1 refl) (also (expression-led text h2).piece (put_then colon (of_kind colon h3 refl) (items-piece text h4))))) (case_clauses-piece text h5)
  case_clauses-piece text (AreCaseClauses.default_clause word colon body rest h1 h2 h3 h4) = also (is (tokens_Default written word colon body) (tokens_Default completed word colon body) (put_then word (of_kind word h1 refl) (put_then colon (of_kind colon h2 refl) (items-piece text h3)))) (case_clauses-piece text h4)

  catch-piece : (text : List ℕ) {c : Context} {x : Handler} → IsCatch text c x → Piece text (tokens_of_handler written x) (tokens_of_handler completed x)
  catch-piece text (IsCatch.catch_alone {word = word} {block = block} h1 h2) = is (tokens_Catch written word block) (tokens_Catch completed word block) (put_then word (of_kind word h1 refl) (block-piece text h2))
  catch-piece text (IsCatch.catch_parameter {word = word} {begin = begin} {x = x} {ending = ending} {block = block} h1 h2 h3 h4 h5) = is (tokens_CatchParameter written word begin x ending block) (tokens_CatchParameter completed word begin x ending block) (put_then word (of_kind word h1 refl) (put_then begin (of_kind begin h2 refl) (also (target-led text h3).piece (put_then ending (of_kind ending h4 refl) (block-piece text h5)))))

  finalizer-piece : (text : List ℕ) {c : Context} {x : Finalizer} → IsFinalizer text c x → Piece text (tokens_of_finalizer written x) (tokens_of_finalizer completed x)
  finalizer-piece text IsFinalizer.no_finalizer = is (tokens_NoFinalizer written) (tokens_NoFinalizer completed) (nothing)
  finalizer-piece text (IsFinalizer.finally {word = word} {block = block} h1 h2) = is (tokens_Finally written word block) (tokens_Finally completed word block) (put_then word (of_kind word h1 refl) (block-piece text h2))
