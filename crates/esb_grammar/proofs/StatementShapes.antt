-- Which production a statement is of, by what it is on the outside.
use Rattle.std.proofs.Common.{◌≡◌, ℕ, Bool, true, false, not, ◌||◌, List, ◌∷◌, refl, ap, sym, ◌∙◌, subst, ◌⊎◌, inl, inr, Option, Some, None}
use Rattle.esb_token.specs.declared.token.Token.{Token}
use Rattle.esb_tree.specs.declared.classes.ClassElement.TheOpen.{Statement-F, Handler-F, Finalizer-F, Else-F, CaseClause-F}
use Rattle.esb_tree.specs.declared.statements.Block.{Block}
use Rattle.esb_tree.specs.declared.patterns.Bracketed.{Bracketed}
use Rattle.esb_tree.specs.declared.statements.CaseClause.{CaseClause, out-CaseClause}
use Rattle.esb_tree.specs.declared.classes.Class.{Class}
use Rattle.esb_tree.specs.declared.classes.ClassElement.{ClassElement}
use Rattle.esb_tree.specs.declared.functions.ConciseBody.{ConciseBody}
use Rattle.esb_tree.specs.declared.statements.Declaration.{Declaration}
use Rattle.esb_tree.specs.declared.patterns.Element.{Element}
use Rattle.esb_tree.specs.declared.patterns.Elements.{Elements}
use Rattle.esb_tree.specs.declared.statements.Else.{Else, out-Else, out-roll-Else}
use Rattle.esb_tree.specs.declared.statements.Else.TheVariants as ot
use Rattle.esb_tree.specs.declared.statements.ElseIf.{ElseIf}
use Rattle.esb_tree.specs.declared.expressions.Expression.{Expression}
use Rattle.esb_tree.specs.declared.statements.Finalizer.{Finalizer, out-Finalizer}
use Rattle.esb_tree.specs.declared.statements.Finalizer.TheVariants as fi
use Rattle.esb_tree.specs.declared.statements.ForStart.{ForStart}
use Rattle.esb_tree.specs.declared.functions.Function.{Function}
use Rattle.esb_tree.specs.declared.statements.Handler.{Handler, out-Handler}
use Rattle.esb_tree.specs.declared.statements.Handler.TheVariants as ha
use Rattle.esb_tree.specs.declared.classes.Heritage.{Heritage}
use Rattle.esb_tree.specs.declared.statements.IfClause.{IfClause}
use Rattle.esb_tree.specs.declared.expressions.Link.{Link}
use Rattle.esb_tree.specs.declared.statements.MaybeExpression.{MaybeExpression}
use Rattle.esb_tree.specs.declared.functions.Method.{Method}
use Rattle.esb_tree.specs.declared.patterns.NextElement.{NextElement}
use Rattle.esb_tree.specs.declared.expressions.Operand.{Operand}
use Rattle.esb_tree.specs.declared.patterns.PropertyName.{PropertyName}
use Rattle.esb_tree.specs.declared.statements.Statement.{Statement, out-Statement, out-roll-Statement}
use Rattle.esb_tree.specs.declared.expressions.Substitution.{Substitution}
use Rattle.esb_tree.specs.declared.expressions.Substitutions.{Substitutions}
use Rattle.esb_tree.specs.declared.statements.Statement.TheVariants as s
use Rattle.esb_tree.specs.Trees.{written}
use Rattle.esb_tree.specs.Yields.{tokens_of_expression}
use Rattle.esb_grammar.specs.declared.context.Context.{Context}
use Rattle.esb_grammar.specs.Edges.{is_if}
use Rattle.esb_grammar.specs.Forms.{is_empty}
use Rattle.esb_grammar.specs.Words.{begins_no_expression, on_line, if_there}
use Rattle.esb_grammar.specs.Grammar.{has_else, stands_on_line, IsStatement, block_statement, variable_statement, empty_statement, expression_statement, if_statement, do_while, while, for, for_in, for_of, continue_statement, break_statement, return_alone, return_value, switch_statement, labelled, throw, try_catch, try_finally, debugger, IsItem, statement, function_declaration, class_declaration, lexical_declaration, IsFunction, no_else, otherwise, default_clause, case_clause, IsDeclaration, IsCatch, catch_alone, catch_parameter, IsIfClause, IsElse, AreCaseClauses}
use Rattle.esb_grammar.proofs.Shapes.{some_is}

abbrev pub Layer : Type 0
Layer = Statement-F ClassElement Heritage Expression Link ConciseBody Element PropertyName CaseClause Else Finalizer ForStart Handler MaybeExpression Statement Class Operand Substitution Substitutions Function Method Bracketed Elements NextElement Block Declaration ElseIf IfClause

abbrev pub is_statement_layer : Layer → Bool
is_statement_layer (Statement-F.FunctionDeclaration function) = false
is_statement_layer (Statement-F.ClassDeclaration class) = false
is_statement_layer _ = true

-- a statement is no declaration of a function or a class
pub statement_shape : {text : List ℕ} {c : Context} {x : Statement} → IsStatement text c x → is_statement_layer (out-Statement x) ≡ true
unfolding out-Statement denote.Hole.Carrier.out
statement_shape (block_statement h1) = refl
statement_shape (variable_statement h1 h2) = refl
statement_shape (empty_statement h1) = refl
statement_shape (expression_statement h1 h2 h3) = refl
statement_shape (if_statement h1 h2 h3 h4 h5 h6) = refl
statement_shape (do_while h1 h2 h3 h4 h5 h6 h7) = refl
statement_shape (while h1 h2 h3 h4 h5) = refl
statement_shape (for h1 h2 h3 h4 h5 h6 h7 h8 h9) = refl
statement_shape (for_in h1 h2 h3 h4 h5 h6 h7) = refl
statement_shape (for_of h1 h2 h3 h4 h5 h6 h7 h8) = refl
statement_shape (continue_statement h1 h2 h3 h4) = refl
statement_shape (break_statement h1 h2 h3 h4) = refl
statement_shape (return_alone h1 h2) = refl
statement_shape (return_value h1 h2 h3 h4) = refl
statement_shape (switch_statement h1 h2 h3 h4 h5 h6 h7 h8 h9 h10 h11 h12 h13 h14) = refl
statement_shape (labelled h1 h2 h3) = refl
statement_shape (throw h1 h2 h3 h4) = refl
statement_shape (try_catch h1 h2 h3 h4) = refl
statement_shape (try_finally h1 h2 h3 h4) = refl
statement_shape (debugger h1 h2) = refl

-- ---- ExpressionStatement

out_expression : (value : Expression) (end : Option Token) → out-Statement (s.ExpressionStatement value end) ≡ Statement-F.ExpressionStatement value end
out_expression value end = ap out-Statement (sym (s.rolls-ExpressionStatement value end)) ∙ out-roll-Statement (Statement-F.ExpressionStatement value end)

abbrev pub expression_layer : Layer → Option (Expression)
expression_layer (Statement-F.ExpressionStatement value end) = Some value
expression_layer _ = None

expression_at : (text : List ℕ) (c : Context) (x : Statement) (p : Expression) → IsStatement text c x → expression_layer (out-Statement x) ≡ Some p → begins_no_expression text (tokens_of_expression written p) ≡ false
unfolding out-Statement denote.Hole.Carrier.out
expression_at text c x p (block_statement h1) is = cc
expression_at text c x p (variable_statement h1 h2) is = cc
expression_at text c x p (empty_statement h1) is = cc
expression_at text c x p (expression_statement {x = y} {semicolon = end} h1 h2 h3) is = subst (λ q. begins_no_expression text (tokens_of_expression written q) ≡ false) (some_is (sym (ap expression_layer (out_expression y end)) ∙ is)) h1
expression_at text c x p (if_statement h1 h2 h3 h4 h5 h6) is = cc
expression_at text c x p (do_while h1 h2 h3 h4 h5 h6 h7) is = cc
expression_at text c x p (while h1 h2 h3 h4 h5) is = cc
expression_at text c x p (for h1 h2 h3 h4 h5 h6 h7 h8 h9) is = cc
expression_at text c x p (for_in h1 h2 h3 h4 h5 h6 h7) is = cc
expression_at text c x p (for_of h1 h2 h3 h4 h5 h6 h7 h8) is = cc
expression_at text c x p (continue_statement h1 h2 h3 h4) is = cc
expression_at text c x p (break_statement h1 h2 h3 h4) is = cc
expression_at text c x p (return_alone h1 h2) is = cc
expression_at text c x p (return_value h1 h2 h3 h4) is = cc
expression_at text c x p (switch_statement h1 h2 h3 h4 h5 h6 h7 h8 h9 h10 h11 h12 h13 h14) is = cc
expression_at text c x p (labelled h1 h2 h3) is = cc
expression_at text c x p (throw h1 h2 h3 h4) is = cc
expression_at text c x p (try_catch h1 h2 h3 h4) is = cc
expression_at text c x p (try_finally h1 h2 h3 h4) is = cc
expression_at text c x p (debugger h1 h2) is = cc

pub expression_of : (text : List ℕ) (c : Context) (value : Expression) (end : Option Token) → IsStatement text c (s.ExpressionStatement value end) → begins_no_expression text (tokens_of_expression written value) ≡ false
expression_of text c value end x = expression_at text c (s.ExpressionStatement value end) value x (ap expression_layer (out_expression value end))

-- ---- Variables

pub out_variables : (declaration : Declaration) (end : Option Token) → out-Statement (s.Variables declaration end) ≡ Statement-F.Variables declaration end
out_variables declaration end = ap out-Statement (sym (s.rolls-Variables declaration end)) ∙ out-roll-Statement (Statement-F.Variables declaration end)

abbrev pub variables_layer : Layer → Option (Declaration)
variables_layer (Statement-F.Variables declaration end) = Some declaration
variables_layer _ = None

variables_at : (text : List ℕ) (c : Context) (x : Statement) (p : Declaration) → IsStatement text c x → variables_layer (out-Statement x) ≡ Some p → IsDeclaration text false c p
unfolding out-Statement denote.Hole.Carrier.out
variables_at text c x p (block_statement h1) is = cc
variables_at text c x p (variable_statement {declaration = y} {semicolon = end} h1 h2) is = subst (IsDeclaration text false c) (some_is (sym (ap variables_layer (out_variables y end)) ∙ is)) h1
variables_at text c x p (empty_statement h1) is = cc
variables_at text c x p (expression_statement h1 h2 h3) is = cc
variables_at text c x p (if_statement h1 h2 h3 h4 h5 h6) is = cc
variables_at text c x p (do_while h1 h2 h3 h4 h5 h6 h7) is = cc
variables_at text c x p (while h1 h2 h3 h4 h5) is = cc
variables_at text c x p (for h1 h2 h3 h4 h5 h6 h7 h8 h9) is = cc
variables_at text c x p (for_in h1 h2 h3 h4 h5 h6 h7) is = cc
variables_at text c x p (for_of h1 h2 h3 h4 h5 h6 h7 h8) is = cc
variables_at text c x p (continue_statement h1 h2 h3 h4) is = cc
variables_at text c x p (break_statement h1 h2 h3 h4) is = cc
variables_at text c x p (return_alone h1 h2) is = cc
variables_at text c x p (return_value h1 h2 h3 h4) is = cc
variables_at text c x p (switch_statement h1 h2 h3 h4 h5 h6 h7 h8 h9 h10 h11 h12 h13 h14) is = cc
variables_at text c x p (labelled h1 h2 h3) is = cc
variables_at text c x p (throw h1 h2 h3 h4) is = cc
variables_at text c x p (try_catch h1 h2 h3 h4) is = cc
variables_at text c x p (try_finally h1 h2 h3 h4) is = cc
variables_at text c x p (debugger h1 h2) is = cc

pub variables_of : (text : List ℕ) (c : Context) (declaration : Declaration) (end : Option Token) → IsStatement text c (s.Variables declaration end) → IsDeclaration text false c declaration
variables_of text c declaration end x = variables_at text c (s.Variables declaration end) declaration x (ap variables_layer (out_variables declaration end))

-- the parts of an IfStatement
pub record IsIf (text : List ℕ) (c : Context) (clause : IfClause) (rest : List ElseIf) (last : Else) : Type 0 where
  pub head : IsIfClause text (not (is_empty rest) || has_else last) c clause
  pub ending : IsElse text c last

-- ---- If

out_if_statement : (clause : IfClause) (rest : List ElseIf) (last : Else) → out-Statement (s.If clause rest last) ≡ Statement-F.If clause rest last
out_if_statement clause rest last = ap out-Statement (sym (s.rolls-If clause rest last)) ∙ out-roll-Statement (Statement-F.If clause rest last)

abbrev pub if_part : Layer → Option (IfClause × List ElseIf × Else)
if_part (Statement-F.If clause rest last) = Some (clause, rest, last)
if_part _ = None

if_at : (text : List ℕ) (c : Context) (x : Statement) (p : IfClause × List ElseIf × Else) → IsStatement text c x → if_part (out-Statement x) ≡ Some p → IsIf text c p.0 p.1 p.2
unfolding out-Statement denote.Hole.Carrier.out
if_at text c x p (block_statement h1) is = cc
if_at text c x p (variable_statement h1 h2) is = cc
if_at text c x p (empty_statement h1) is = cc
if_at text c x p (expression_statement h1 h2 h3) is = cc
if_at text c x p (if_statement clause rest last h1 h2 h3) is = subst (λ q. IsIf text c q.0 q.1 q.2) (some_is (sym (ap if_part (out_if_statement clause rest last)) ∙ is)) (record { head = h1; ending = h3 })
if_at text c x p (do_while h1 h2 h3 h4 h5 h6 h7) is = cc
if_at text c x p (while h1 h2 h3 h4 h5) is = cc
if_at text c x p (for h1 h2 h3 h4 h5 h6 h7 h8 h9) is = cc
if_at text c x p (for_in h1 h2 h3 h4 h5 h6 h7) is = cc
if_at text c x p (for_of h1 h2 h3 h4 h5 h6 h7 h8) is = cc
if_at text c x p (continue_statement h1 h2 h3 h4) is = cc
if_at text c x p (break_statement h1 h2 h3 h4) is = cc
if_at text c x p (return_alone h1 h2) is = cc
if_at text c x p (return_value h1 h2 h3 h4) is = cc
if_at text c x p (switch_statement h1 h2 h3 h4 h5 h6 h7 h8 h9 h10 h11 h12 h13 h14) is = cc
if_at text c x p (labelled h1 h2 h3) is = cc
if_at text c x p (throw h1 h2 h3 h4) is = cc
if_at text c x p (try_catch h1 h2 h3 h4) is = cc
if_at text c x p (try_finally h1 h2 h3 h4) is = cc
if_at text c x p (debugger h1 h2) is = cc

pub if_of : (text : List ℕ) (c : Context) (clause : IfClause) (rest : List ElseIf) (last : Else) → IsStatement text c (s.If clause rest last) → IsIf text c clause rest last
if_of text c clause rest last x = if_at text c (s.If clause rest last) (clause, rest, last) x (ap if_part (out_if_statement clause rest last))

-- ---- Switch

out_switch : (word : Token) (begin : Token) (value : Expression) (ending : Token) (left : Token) (clauses : List CaseClause) (right : Token) → out-Statement (s.Switch word begin value ending left clauses right) ≡ Statement-F.Switch word begin value ending left clauses right
out_switch word begin value ending left clauses right = ap out-Statement (sym (s.rolls-Switch word begin value ending left clauses right)) ∙ out-roll-Statement (Statement-F.Switch word begin value ending left clauses right)

abbrev pub switch_layer : Layer → Option (List CaseClause)
switch_layer (Statement-F.Switch word begin value ending left clauses right) = Some clauses
switch_layer _ = None

switch_at : (text : List ℕ) (c : Context) (x : Statement) (p : List CaseClause) → IsStatement text c x → switch_layer (out-Statement x) ≡ Some p → AreCaseClauses text true c p
unfolding out-Statement denote.Hole.Carrier.out
switch_at text c x p (block_statement h1) is = cc
switch_at text c x p (variable_statement h1 h2) is = cc
switch_at text c x p (empty_statement h1) is = cc
switch_at text c x p (expression_statement h1 h2 h3) is = cc
switch_at text c x p (if_statement h1 h2 h3 h4 h5 h6) is = cc
switch_at text c x p (do_while h1 h2 h3 h4 h5 h6 h7) is = cc
switch_at text c x p (while h1 h2 h3 h4 h5) is = cc
switch_at text c x p (for h1 h2 h3 h4 h5 h6 h7 h8 h9) is = cc
switch_at text c x p (for_in h1 h2 h3 h4 h5 h6 h7) is = cc
switch_at text c x p (for_of h1 h2 h3 h4 h5 h6 h7 h8) is = cc
switch_at text c x p (continue_statement h1 h2 h3 h4) is = cc
switch_at text c x p (break_statement h1 h2 h3 h4) is = cc
switch_at text c x p (return_alone h1 h2) is = cc
switch_at text c x p (return_value h1 h2 h3 h4) is = cc
switch_at text c x p (switch_statement word begin y ending left clauses right h1 h2 h3 h4 h5 h6 h7) is = subst (AreCaseClauses text true c) (some_is (sym (ap switch_layer (out_switch word begin y ending left clauses right)) ∙ is)) h6
switch_at text c x p (labelled h1 h2 h3) is = cc
switch_at text c x p (throw h1 h2 h3 h4) is = cc
switch_at text c x p (try_catch h1 h2 h3 h4) is = cc
switch_at text c x p (try_finally h1 h2 h3 h4) is = cc
switch_at text c x p (debugger h1 h2) is = cc

pub switch_of : (text : List ℕ) (c : Context) (word : Token) (begin : Token) (value : Expression) (ending : Token) (left : Token) (clauses : List CaseClause) (right : Token) → IsStatement text c (s.Switch word begin value ending left clauses right) → AreCaseClauses text true c clauses
switch_of text c word begin value ending left clauses right x = switch_at text c (s.Switch word begin value ending left clauses right) clauses x (ap switch_layer (out_switch word begin value ending left clauses right))

-- ---- Throw

out_throw : (word : Token) (value : Expression) (end : Option Token) → out-Statement (s.Throw word value end) ≡ Statement-F.Throw word value end
out_throw word value end = ap out-Statement (sym (s.rolls-Throw word value end)) ∙ out-roll-Statement (Statement-F.Throw word value end)

abbrev pub throw_layer : Layer → Option (Expression)
throw_layer (Statement-F.Throw word value end) = Some value
throw_layer _ = None

throw_at : (text : List ℕ) (c : Context) (x : Statement) (p : Expression) → IsStatement text c x → throw_layer (out-Statement x) ≡ Some p → on_line (tokens_of_expression written p) ≡ true
unfolding out-Statement denote.Hole.Carrier.out
throw_at text c x p (block_statement h1) is = cc
throw_at text c x p (variable_statement h1 h2) is = cc
throw_at text c x p (empty_statement h1) is = cc
throw_at text c x p (expression_statement h1 h2 h3) is = cc
throw_at text c x p (if_statement h1 h2 h3 h4 h5 h6) is = cc
throw_at text c x p (do_while h1 h2 h3 h4 h5 h6 h7) is = cc
throw_at text c x p (while h1 h2 h3 h4 h5) is = cc
throw_at text c x p (for h1 h2 h3 h4 h5 h6 h7 h8 h9) is = cc
throw_at text c x p (for_in h1 h2 h3 h4 h5 h6 h7) is = cc
throw_at text c x p (for_of h1 h2 h3 h4 h5 h6 h7 h8) is = cc
throw_at text c x p (continue_statement h1 h2 h3 h4) is = cc
throw_at text c x p (break_statement h1 h2 h3 h4) is = cc
throw_at text c x p (return_alone h1 h2) is = cc
throw_at text c x p (return_value h1 h2 h3 h4) is = cc
throw_at text c x p (switch_statement h1 h2 h3 h4 h5 h6 h7 h8 h9 h10 h11 h12 h13 h14) is = cc
throw_at text c x p (labelled h1 h2 h3) is = cc
throw_at text c x p (throw {word = word} {x = y} {semicolon = end} h1 h2 h3 h4) is = subst (λ q. on_line (tokens_of_expression written q) ≡ true) (some_is (sym (ap throw_layer (out_throw word y end)) ∙ is)) h2
throw_at text c x p (try_catch h1 h2 h3 h4) is = cc
throw_at text c x p (try_finally h1 h2 h3 h4) is = cc
throw_at text c x p (debugger h1 h2) is = cc

pub throw_of : (text : List ℕ) (c : Context) (word : Token) (value : Expression) (end : Option Token) → IsStatement text c (s.Throw word value end) → on_line (tokens_of_expression written value) ≡ true
throw_of text c word value end x = throw_at text c (s.Throw word value end) value x (ap throw_layer (out_throw word value end))

-- ---- Break

out_break : (word : Token) (label : Option Token) (end : Option Token) → out-Statement (s.Break word label end) ≡ Statement-F.Break word label end
out_break word label end = ap out-Statement (sym (s.rolls-Break word label end)) ∙ out-roll-Statement (Statement-F.Break word label end)

abbrev pub break_layer : Layer → Option (Option Token)
break_layer (Statement-F.Break word label end) = Some label
break_layer _ = None

break_at : (text : List ℕ) (c : Context) (x : Statement) (p : Option Token) → IsStatement text c x → break_layer (out-Statement x) ≡ Some p → if_there stands_on_line p ≡ true
unfolding out-Statement denote.Hole.Carrier.out
break_at text c x p (block_statement h1) is = cc
break_at text c x p (variable_statement h1 h2) is = cc
break_at text c x p (empty_statement h1) is = cc
break_at text c x p (expression_statement h1 h2 h3) is = cc
break_at text c x p (if_statement h1 h2 h3 h4 h5 h6) is = cc
break_at text c x p (do_while h1 h2 h3 h4 h5 h6 h7) is = cc
break_at text c x p (while h1 h2 h3 h4 h5) is = cc
break_at text c x p (for h1 h2 h3 h4 h5 h6 h7 h8 h9) is = cc
break_at text c x p (for_in h1 h2 h3 h4 h5 h6 h7) is = cc
break_at text c x p (for_of h1 h2 h3 h4 h5 h6 h7 h8) is = cc
break_at text c x p (continue_statement h1 h2 h3 h4) is = cc
break_at text c x p (break_statement {word = word} {label = label} {semicolon = end} h1 h2 h3 h4) is = subst (λ q. if_there stands_on_line q ≡ true) (some_is (sym (ap break_layer (out_break word label end)) ∙ is)) h3
break_at text c x p (return_alone h1 h2) is = cc
break_at text c x p (return_value h1 h2 h3 h4) is = cc
break_at text c x p (switch_statement h1 h2 h3 h4 h5 h6 h7 h8 h9 h10 h11 h12 h13 h14) is = cc
break_at text c x p (labelled h1 h2 h3) is = cc
break_at text c x p (throw h1 h2 h3 h4) is = cc
break_at text c x p (try_catch h1 h2 h3 h4) is = cc
break_at text c x p (try_finally h1 h2 h3 h4) is = cc
break_at text c x p (debugger h1 h2) is = cc

pub break_of : (text : List ℕ) (c : Context) (word : Token) (label : Option Token) (end : Option Token) → IsStatement text c (s.Break word label end) → if_there stands_on_line label ≡ true
break_of text c word label end x = break_at text c (s.Break word label end) label x (ap break_layer (out_break word label end))

-- a Catch or a Finally
abbrev pub is_catch_layer : Handler-F ClassElement Heritage Expression Link ConciseBody Element PropertyName CaseClause Else Finalizer ForStart Handler MaybeExpression Statement Class Operand Substitution Substitutions Function Method Bracketed Elements NextElement Block Declaration ElseIf IfClause → Bool
is_catch_layer (Handler-F.NoHandler) = false
is_catch_layer _ = true

abbrev pub is_finally_layer : Finalizer-F ClassElement Heritage Expression Link ConciseBody Element PropertyName CaseClause Else Finalizer ForStart Handler MaybeExpression Statement Class Operand Substitution Substitutions Function Method Bracketed Elements NextElement Block Declaration ElseIf IfClause → Bool
is_finally_layer (Finalizer-F.NoFinalizer) = false
is_finally_layer _ = true

catch_shape : {text : List ℕ} {c : Context} {x : Handler} → IsCatch text c x → is_catch_layer (out-Handler x) ≡ true
unfolding out-Handler denote.Hole.Carrier.out
catch_shape (catch_alone h1 h2) = refl
catch_shape (catch_parameter h1 h2 h3 h4 h5) = refl

finally_shape : (word : Token) (last : Block) → is_finally_layer (out-Finalizer (fi.Finally word last)) ≡ true
unfolding out-Finalizer denote.Hole.Carrier.out
finally_shape word last = refl

or-true : (b : Bool) → (b || true) ≡ true
or-true true = refl
or-true false = refl

-- ---- Try

out_try : (word : Token) (block : Block) (handler : Handler) (finalizer : Finalizer) → out-Statement (s.Try word block handler finalizer) ≡ Statement-F.Try word block handler finalizer
out_try word block handler finalizer = ap out-Statement (sym (s.rolls-Try word block handler finalizer)) ∙ out-roll-Statement (Statement-F.Try word block handler finalizer)

abbrev pub try_layer : Layer → Option (Handler × Finalizer)
try_layer (Statement-F.Try word block handler finalizer) = Some (handler, finalizer)
try_layer _ = None

try_at : (text : List ℕ) (c : Context) (x : Statement) (p : Handler × Finalizer) → IsStatement text c x → try_layer (out-Statement x) ≡ Some p → is_catch_layer (out-Handler p.0) || is_finally_layer (out-Finalizer p.1) ≡ true
unfolding out-Statement denote.Hole.Carrier.out
try_at text c x p (block_statement h1) is = cc
try_at text c x p (variable_statement h1 h2) is = cc
try_at text c x p (empty_statement h1) is = cc
try_at text c x p (expression_statement h1 h2 h3) is = cc
try_at text c x p (if_statement h1 h2 h3 h4 h5 h6) is = cc
try_at text c x p (do_while h1 h2 h3 h4 h5 h6 h7) is = cc
try_at text c x p (while h1 h2 h3 h4 h5) is = cc
try_at text c x p (for h1 h2 h3 h4 h5 h6 h7 h8 h9) is = cc
try_at text c x p (for_in h1 h2 h3 h4 h5 h6 h7) is = cc
try_at text c x p (for_of h1 h2 h3 h4 h5 h6 h7 h8) is = cc
try_at text c x p (continue_statement h1 h2 h3 h4) is = cc
try_at text c x p (break_statement h1 h2 h3 h4) is = cc
try_at text c x p (return_alone h1 h2) is = cc
try_at text c x p (return_value h1 h2 h3 h4) is = cc
try_at text c x p (switch_statement h1 h2 h3 h4 h5 h6 h7 h8 h9 h10 h11 h12 h13 h14) is = cc
try_at text c x p (labelled h1 h2 h3) is = cc
try_at text c x p (throw h1 h2 h3 h4) is = cc
try_at text c x p (try_catch {word = word} {block = block} {handler = handler} {finalizer = finalizer} h1 h2 h3 h4) is = subst (λ q. is_catch_layer (out-Handler q.0) || is_finally_layer (out-Finalizer q.1) ≡ true) (some_is (sym (ap try_layer (out_try word block handler finalizer)) ∙ is)) (ap (λ b. b || is_finally_layer (out-Finalizer finalizer)) (catch_shape h3))
try_at text c x p (try_finally {word = word} {block = block} {finally_word = finally_word} {last = last} h1 h2 h3 h4) is = subst (λ q. is_catch_layer (out-Handler q.0) || is_finally_layer (out-Finalizer q.1) ≡ true) (some_is (sym (ap try_layer (out_try word block ha.NoHandler (fi.Finally finally_word last))) ∙ is)) (ap (λ b. is_catch_layer (out-Handler ha.NoHandler) || b) (finally_shape finally_word last) ∙ or-true (is_catch_layer (out-Handler ha.NoHandler)))
try_at text c x p (debugger h1 h2) is = cc

pub try_of : (text : List ℕ) (c : Context) (word : Token) (block : Block) (handler : Handler) (finalizer : Finalizer) → IsStatement text c (s.Try word block handler finalizer) → is_catch_layer (out-Handler handler) || is_finally_layer (out-Finalizer finalizer) ≡ true
try_of text c word block handler finalizer x = try_at text c (s.Try word block handler finalizer) (handler, finalizer) x (ap try_layer (out_try word block handler finalizer))

-- ---- a declaration in place of a statement

item_at : (text : List ℕ) (c : Context) (x : Statement) (p : Declaration) → IsItem text c x → variables_layer (out-Statement x) ≡ Some p → IsDeclaration text true c p ⊎ IsDeclaration text false c p
unfolding out-Statement denote.Hole.Carrier.out
item_at text c x p (statement h) is = inr (variables_at text c x p h is)
item_at text c x p (function_declaration h) is = cc
item_at text c x p (class_declaration h) is = cc
item_at text c x p (lexical_declaration {declaration = y} {semicolon = end} h1 h2) is = inl (subst (IsDeclaration text true c) (some_is (sym (ap variables_layer (out_variables y end)) ∙ is)) h1)

pub item_of : (text : List ℕ) (c : Context) (declaration : Declaration) (end : Option Token) → IsItem text c (s.Variables declaration end) → IsDeclaration text true c declaration ⊎ IsDeclaration text false c declaration
item_of text c declaration end x = item_at text c (s.Variables declaration end) declaration x (ap variables_layer (out_variables declaration end))

out_function : (function : Function) → out-Statement (s.FunctionDeclaration function) ≡ Statement-F.FunctionDeclaration function
out_function function = ap out-Statement (sym (s.rolls-FunctionDeclaration function)) ∙ out-roll-Statement (Statement-F.FunctionDeclaration function)

abbrev pub function_layer : Layer → Option Function
function_layer (Statement-F.FunctionDeclaration function) = Some function
function_layer _ = None

no_function : {p : Function} (x : Layer) → is_statement_layer x ≡ true → function_layer x ≡ Some p → ⊥
no_function (Statement-F.FunctionDeclaration function) h is = let is : false ≡ true = h in cc
no_function _ h is = cc

function_at : (text : List ℕ) (c : Context) (x : Statement) (p : Function) → IsItem text c x → function_layer (out-Statement x) ≡ Some p → IsFunction text true p
unfolding out-Statement denote.Hole.Carrier.out
function_at text c x p (statement h) is = absurd (no_function (out-Statement x) (statement_shape h) is)
function_at text c x p (class_declaration h) is = cc
function_at text c x p (lexical_declaration h1 h2) is = cc
function_at text c x p (function_declaration {function = y} h) is = subst (IsFunction text true) (some_is (sym (ap function_layer (out_function y)) ∙ is)) h

pub function_of : (text : List ℕ) (c : Context) (function : Function) → IsItem text c (s.FunctionDeclaration function) → IsFunction text true function
function_of text c function x = function_at text c (s.FunctionDeclaration function) function x (ap function_layer (out_function function))

-- ---- `else`

out_otherwise : (word : Token) (body : Statement) → out-Else (ot.Otherwise word body) ≡ Else-F.Otherwise word body
out_otherwise word body = ap out-Else (sym (ot.rolls-Otherwise word body)) ∙ out-roll-Else (Else-F.Otherwise word body)

abbrev pub otherwise_layer : Else-F ClassElement Heritage Expression Link ConciseBody Element PropertyName CaseClause Else Finalizer ForStart Handler MaybeExpression Statement Class Operand Substitution Substitutions Function Method Bracketed Elements NextElement Block Declaration ElseIf IfClause → Option Statement
otherwise_layer (Else-F.Otherwise word body) = Some body
otherwise_layer _ = None

else_at : (text : List ℕ) (c : Context) (x : Else) (p : Statement) → IsElse text c x → otherwise_layer (out-Else x) ≡ Some p → is_if p ≡ false
unfolding out-Else denote.Hole.Carrier.out
else_at text c x p no_else is = cc
else_at text c x p (otherwise {word = word} {body = y} h1 h2 h3) is = subst (λ q. is_if q ≡ false) (some_is (sym (ap otherwise_layer (out_otherwise word y)) ∙ is)) h3

pub else_of : (text : List ℕ) (c : Context) (word : Token) (body : Statement) → IsElse text c (ot.Otherwise word body) → is_if body ≡ false
else_of text c word body x = else_at text c (ot.Otherwise word body) body x (ap otherwise_layer (out_otherwise word body))

-- ---- the clauses of `switch`

abbrev pub default_layer : CaseClause-F ClassElement Heritage Expression Link ConciseBody Element PropertyName CaseClause Else Finalizer ForStart Handler MaybeExpression Statement Class Operand Substitution Substitutions Function Method Bracketed Elements NextElement Block Declaration ElseIf IfClause → Bool
default_layer (CaseClause-F.Default word colon body) = true
default_layer _ = false

pub behind_default : {text : List ℕ} {has_default : Bool} {c : Context} (first : CaseClause) (rest : List CaseClause) → default_layer (out-CaseClause first) ≡ true → AreCaseClauses text has_default c (first ∷ rest) → AreCaseClauses text false c rest
unfolding out-CaseClause denote.Hole.Carrier.out
behind_default first rest is (case_clause word x colon body others h1 h2 h3 h4 h5) = cc
behind_default first rest is (default_clause word colon body others h1 h2 h3 h4) = h4

pub no_default : {text : List ℕ} {c : Context} (first : CaseClause) (rest : List CaseClause) → default_layer (out-CaseClause first) ≡ true → AreCaseClauses text false c (first ∷ rest) → ⊥
unfolding out-CaseClause denote.Hole.Carrier.out
no_default first rest is (case_clause word x colon body others h1 h2 h3 h4 h5) = cc
