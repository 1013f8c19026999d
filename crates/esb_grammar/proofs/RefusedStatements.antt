-- The statements of the samples that the grammar has not.
use Rattle.std.proofs.Common.{◌≡◌, ℕ, Bool, true, false, List, [], ◌∷◌, refl, ap, sym, ◌∙◌, subst, inl, inr, is_some, Some}
use Rattle.esb_token.specs.declared.kind.Kind.TheVariants as k
use Rattle.esb_tree.specs.declared.expressions.Expression.{Expression}
use Rattle.esb_tree.specs.declared.expressions.Expression.TheVariants as e
use Rattle.esb_tree.specs.declared.functions.Function.{Function, roll-Function, out-Function}
use Rattle.esb_tree.specs.declared.patterns.Bracketed.{Bracketed}
use Rattle.esb_tree.specs.declared.patterns.Element.TheVariants as el
use Rattle.esb_tree.specs.declared.patterns.Elements.{roll-Elements, out-roll-Elements}
use Rattle.esb_tree.specs.declared.statements.CaseClause.{out-CaseClause}
use Rattle.esb_tree.specs.declared.statements.CaseClause.TheVariants as cc
use Rattle.esb_tree.specs.declared.statements.Declaration.{Declaration, roll-Declaration, out-Declaration}
use Rattle.esb_tree.specs.declared.statements.Else.{out-Else}
use Rattle.esb_tree.specs.declared.statements.Else.TheVariants as ot
use Rattle.esb_tree.specs.declared.statements.Finalizer.{out-Finalizer}
use Rattle.esb_tree.specs.declared.statements.Handler.{out-Handler}
use Rattle.esb_tree.specs.declared.statements.Finalizer.TheVariants as fi
use Rattle.esb_tree.specs.declared.statements.Handler.TheVariants as ha
use Rattle.esb_tree.specs.declared.statements.IfClause.{IfClause, out-IfClause, out-roll-IfClause}
use Rattle.esb_tree.specs.declared.statements.Statement.{Statement, out-Statement}
use Rattle.esb_tree.specs.declared.statements.Statement.TheVariants as s
use Rattle.esb_tree.specs.Trees.{written}
use Rattle.esb_tree.proofs.TokenLines.{tokens_is_Primary, tokens_is_ObjectLiteral, tokens_Bracketed}
use Rattle.esb_grammar.specs.declared.context.Context.{Context}
use Rattle.esb_grammar.specs.declared.form.Form.TheVariants as f
use Rattle.esb_grammar.specs.Contexts.{of_module}
use Rattle.esb_grammar.specs.Edges.{takes_else, is_if}
use Rattle.esb_grammar.specs.Forms.{is_empty}
use Rattle.esb_grammar.specs.Grammar.{AreElements, IsElement, IsBinding, value, binding_element, binding, has_else, IsDeclaration, lexical_bindings, variable_bindings, IsIfClause, if_clause, IsFunction, named_function}
use Rattle.esb_grammar.specs.Words.{begins_no_expression, on_line}
use Rattle.esb_grammar.specs.Samples.{t, line, a, listed}
use Rattle.esb_grammar.specs.StatementSamples.{nothing, block, semicolon, bound, clause, function, nameless, class, HasNot, HasNoItem, HasNoStatements}
use Rattle.esb_grammar.proofs.EdgeLines.{takes_If, takes_NoElse}
use Rattle.esb_grammar.proofs.StatementShapes.{statement_shape, expression_of, variables_of, if_of, switch_of, throw_of, break_of, try_of, else_of, item_of, function_of, behind_default, no_default}
use Rattle.esb_grammar.proofs.Lists.{first_of}

false_is_not : false ≡ true → ⊥
false_is_not is = cc

true_is_not : true ≡ false → ⊥
true_is_not is = cc

no_function : HasNot (s.FunctionDeclaration function)
unfolding out-Statement denote.Hole.Carrier.out
no_function text h = false_is_not (statement_shape h)

no_class : HasNot (s.ClassDeclaration class)
unfolding out-Statement denote.Hole.Carrier.out
no_class text h = false_is_not (statement_shape h)

-- the word of a declaration
declared_var : {text : List ℕ} {c : Context} (x : Declaration) → IsDeclaration text false c x → (out-Declaration x).word.kind ≡ k.Var
unfolding out-Declaration denote.Hole.Carrier.out roll-Declaration denote.Hole.Carrier.roll
declared_var x (variable_bindings word list h1 h2) = h1

no_let : HasNot (s.Variables (bound k.Let a) semicolon)
unfolding out-Declaration denote.Hole.Carrier.out roll-Declaration denote.Hole.Carrier.roll
no_let text h = let is : k.Let ≡ k.Var = declared_var (bound k.Let a) (variables_of text of_module (bound k.Let a) semicolon h) in cc

-- ---- `if`

body_closed : {text : List ℕ} {c : Context} (x : IfClause) → IsIfClause text true c x → takes_else (out-IfClause x).body ≡ false
body_closed x (if_clause {word = word} {begin = begin} {condition = condition} {ending = ending} {body = body} h1 h2 h3 h4 h5 h6) =
    ap (λ o. takes_else o.body) (out-roll-IfClause (record { word = word; begin = begin; condition = condition; ending = ending; body = body })) ∙ h6

clause_body : (x : Statement) → (out-IfClause (clause x)).body ≡ x
clause_body x = ap (λ o. o.body) (out-roll-IfClause (record { word = t k.If; begin = t k.LeftParenthesis; condition = a; ending = t k.RightParenthesis; body = x }))

open_if : takes_else (s.If (clause nothing) [] ot.NoElse) ≡ true
open_if = takes_If (clause nothing) [] ot.NoElse ∙ takes_NoElse

no_far_else : HasNot (s.If (clause (s.If (clause nothing) [] ot.NoElse)) [] (ot.Otherwise (t k.Else) nothing))
unfolding has_else out-Else denote.Hole.Carrier.out
no_far_else text h =
    let inner = s.If (clause nothing) [] ot.NoElse in
    true_is_not (sym open_if ∙ sym (ap takes_else (clause_body inner)) ∙ body_closed (clause inner) (if_of text of_module (clause inner) [] (ot.Otherwise (t k.Else) nothing) h).head)

no_nested_if : HasNot (s.If (clause nothing) [] (ot.Otherwise (t k.Else) (s.If (clause nothing) [] ot.NoElse)))
unfolding is_if out-Statement denote.Hole.Carrier.out
no_nested_if text h =
    let inner = s.If (clause nothing) [] ot.NoElse in
    true_is_not (else_of text of_module (t k.Else) inner (if_of text of_module (clause nothing) [] (ot.Otherwise (t k.Else) inner) h).ending)

-- ---- others

no_brace : HasNot (s.ExpressionStatement (e.ObjectLiteral (listed f.Object el.Hole [])) semicolon)
no_brace text h =
    let list = listed f.Object el.Hole [] in
    let tokens = tokens_is_ObjectLiteral written (e.ObjectLiteral list) list refl ∙ tokens_Bracketed written (t k.LeftBrace) _ (t k.RightBrace) in
    true_is_not (sym (ap (begins_no_expression text) tokens) ∙ expression_of text of_module (e.ObjectLiteral list) semicolon h)

no_handler : HasNot (s.Try (t k.Try) block ha.NoHandler fi.NoFinalizer)
unfolding out-Handler out-Finalizer denote.Hole.Carrier.out
no_handler text h = false_is_not (try_of text of_module (t k.Try) block ha.NoHandler fi.NoFinalizer h)

no_second_default : HasNot (s.Switch (t k.Switch) (t k.LeftParenthesis) a (t k.RightParenthesis) (t k.LeftBrace) (cc.Default (t k.Default) (t k.Colon) [] ∷ cc.Default (t k.Default) (t k.Colon) [] ∷ []) (t k.RightBrace))
unfolding out-CaseClause denote.Hole.Carrier.out
no_second_default text h =
    let first = cc.Default (t k.Default) (t k.Colon) [] in
    no_default first [] refl (behind_default first (first ∷ []) refl (switch_of text of_module _ _ a _ _ (first ∷ first ∷ []) _ h))

no_throw : HasNot (s.Throw (t k.Throw) (e.Primary (line k.Name)) semicolon)
no_throw text h = false_is_not (sym (ap on_line (tokens_is_Primary written (e.Primary (line k.Name)) (line k.Name) refl)) ∙ throw_of text of_module (t k.Throw) (e.Primary (line k.Name)) semicolon h)

no_label : HasNot (s.Break (t k.Break) (Some (line k.Name)) semicolon)
no_label text h = false_is_not (break_of text of_module (t k.Break) (Some (line k.Name)) semicolon h)

-- the bindings of a declaration
bindings_of : {text : List ℕ} {is_lexical : Bool} {c : Context} (x : Declaration) → IsDeclaration text is_lexical c x → AreElements text f.Bindings c (out-Declaration x).bindings
unfolding out-Declaration denote.Hole.Carrier.out roll-Declaration denote.Hole.Carrier.roll
bindings_of x (variable_bindings word list h1 h2) = h2
bindings_of x (lexical_bindings word list h1 h2) = h2

first_binding : {text : List ℕ} {last : Bool} {c : Context} (x : Expression) → IsElement text f.Bindings last c (el.Value x) → IsBinding text c x
first_binding x (value h1 h2) = cc
first_binding x (binding_element h1 h2) = cc
first_binding x (binding h) = h

no_pattern : {text : List ℕ} {c : Context} (list : Bracketed) → IsBinding text c (e.ArrayLiteral list) → ⊥
no_pattern list h = elim h [ ]

bound_first : (text : List ℕ) (c : Context) (is_lexical : Bool) (x : Expression) → IsDeclaration text is_lexical c (bound k.Let x) → IsBinding text c x
unfolding out-Declaration denote.Hole.Carrier.out roll-Declaration denote.Hole.Carrier.roll
bound_first text c is_lexical x h =
    let list = roll-Elements (record { first = el.Value x; rest = [] }) in
    first_binding x (subst (λ o. IsElement text f.Bindings (is_empty o.rest) c o.first) (out-roll-Elements (record { first = el.Value x; rest = [] })) (first_of text f.Bindings c list (bindings_of (bound k.Let x) h)))

no_value : HasNoItem (s.Variables (bound k.Let (e.ArrayLiteral (listed f.ArrayPattern el.Hole []))) semicolon)
no_value text h =
    let x = e.ArrayLiteral (listed f.ArrayPattern el.Hole []) in
    elim (item_of text of_module (bound k.Let x) semicolon h) [
      | inl d ↦ no_pattern (listed f.ArrayPattern el.Hole []) (bound_first text of_module true x d)
      | inr d ↦ no_pattern (listed f.ArrayPattern el.Hole []) (bound_first text of_module false x d)
    ]

name_of : {text : List ℕ} (x : Function) → IsFunction text true x → is_some (out-Function x).name ≡ true
unfolding out-Function denote.Hole.Carrier.out roll-Function denote.Hole.Carrier.roll
name_of x (named_function async_word word star name parameters body h1 h2 h3 h4 h5 h6 h7) = refl

no_name : HasNoItem (s.FunctionDeclaration nameless)
unfolding out-Function denote.Hole.Carrier.out roll-Function denote.Hole.Carrier.roll
no_name text h = false_is_not (name_of nameless (function_of text of_module nameless h))

pub has_no_statements : HasNoStatements
has_no_statements =
    record {
      brace = no_brace;
      function_declaration = no_function;
      class_declaration = no_class;
      declared = no_let;
      far_else = no_far_else;
      nested_if = no_nested_if;
      unhandled = no_handler;
      two_defaults = no_second_default;
      throw_on_next_line = no_throw;
      label_on_next_line = no_label;
      pattern_without_value = no_value;
      nameless_function = no_name;
    }
