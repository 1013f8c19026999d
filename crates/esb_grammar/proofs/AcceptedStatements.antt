-- The statements of the samples that the grammar has.
use Rattle.std.proofs.Common.{◌≡◌, ℕ, Bool, true, false, List, [], ◌∷◌, refl, ap, sym, ◌∙◌, subst, ◌&&◌, Some, None}
use Rattle.esb_token.specs.declared.kind.Kind.TheVariants as k
use Rattle.esb_tree.specs.declared.expressions.Expression.TheVariants as e
use Rattle.esb_tree.specs.declared.patterns.Element.TheVariants as el
use Rattle.esb_tree.specs.declared.statements.CaseClause.TheVariants as cc
use Rattle.esb_tree.specs.declared.statements.ElseIf.{roll-ElseIf}
use Rattle.esb_tree.specs.declared.statements.Finalizer.TheVariants as fi
use Rattle.esb_tree.specs.declared.statements.ForStart.TheVariants as fs
use Rattle.esb_tree.specs.declared.statements.Handler.TheVariants as ha
use Rattle.esb_tree.specs.declared.statements.MaybeExpression.TheVariants as me
use Rattle.esb_tree.specs.declared.statements.Else.{out-Else}
use Rattle.esb_tree.specs.declared.statements.Else.TheVariants as ot
use Rattle.esb_tree.specs.declared.statements.Statement.{out-Statement}
use Rattle.esb_tree.specs.declared.statements.Statement.TheVariants as s
use Rattle.esb_tree.specs.Trees.{written}
use Rattle.esb_tree.proofs.TokenLines.{tokens_is_Primary}
use Rattle.esb_grammar.specs.declared.context.Context.{Context}
use Rattle.esb_grammar.specs.declared.form.Form.TheVariants as f
use Rattle.esb_grammar.specs.Contexts.{of_module, of_function}
use Rattle.esb_grammar.specs.Edges.{is_if}
use Rattle.esb_grammar.specs.Grammar.{has_else, IsIfClause, IsStatement, IsItem, IsExpression, assignment_expression, expression_statement, if_statement, if_clause, else_if, no_else_ifs, otherwise, for, no_start, absent, for_in, for_binding, binding_identifier, while, block_statement, braces, no_items, IsBlock, try_catch, catch_alone, no_finalizer, switch_statement, default_clause, case_clause, no_clauses, labelled, empty_statement, return_alone, break_statement, function_declaration, class_declaration, lexical_declaration, lexical_bindings, elements, no_elements, binding, with_value, named_function, bracketed, hole, named_class, no_heritage, no_class_elements, IsBracketed}
use Rattle.esb_grammar.specs.Words.{is_word, begins_no_expression}
use Rattle.esb_grammar.specs.Samples.{t, a, number, listed}
use Rattle.esb_grammar.specs.StatementSamples.{nothing, block, semicolon, bound, clause, function, class, HasStatements}
use Rattle.esb_grammar.proofs.EdgeLines.{takes_Empty}
use Rattle.esb_grammar.proofs.Accepted.{a_is, number_is}

no_if : is_if nothing ≡ false
unfolding is_if out-Statement denote.Hole.Carrier.out
no_if = refl

has_other : has_else (ot.Otherwise (t k.Else) nothing) ≡ true
unfolding has_else out-Else denote.Hole.Carrier.out
has_other = refl

and-false : (b : Bool) → (b && false) ≡ false
and-false true = refl
and-false false = refl

module _ (text : List ℕ) where
  nothing_is : (c : Context) → IsStatement text c nothing
  nothing_is c = empty_statement refl

  value_is : (c : Context) → IsExpression text c a
  value_is c = assignment_expression (a_is text c)

  block_is : (c : Context) → IsBlock text c block
  block_is c = braces _ _ _ refl no_items refl

  clause_is : (followed : Bool) → IsIfClause text followed of_module (clause nothing)
  clause_is followed = if_clause refl refl (value_is of_module) refl (nothing_is of_module) (ap (λ b. followed && b) (takes_Empty (t k.Semicolon)) ∙ and-false followed)

  expression_is : IsStatement text of_module (s.ExpressionStatement a (Some (t k.Semicolon)))
  unfolding is_word
  expression_is = expression_statement {x = a} (ap (begins_no_expression text) (tokens_is_Primary written a (t k.Name) refl)) (value_is of_module) refl

  if_is : IsStatement text of_module (s.If (clause nothing) (roll-ElseIf (record { else_word = t k.Else; clause = clause nothing }) ∷ []) (ot.Otherwise (t k.Else) nothing))
  if_is = if_statement (clause nothing) _ (ot.Otherwise (t k.Else) nothing) (clause_is true) (else_if (t k.Else) (clause nothing) [] refl (subst (λ b. IsIfClause text b of_module (clause nothing)) (sym has_other) (clause_is true)) no_else_ifs) (otherwise refl (nothing_is of_module) no_if)

  for_is : IsStatement text of_module (s.For (t k.For) (t k.LeftParenthesis) fs.NoStart (t k.Semicolon) me.Absent (t k.Semicolon) me.Absent (t k.RightParenthesis) nothing)
  for_is = for refl refl no_start refl absent refl absent refl (nothing_is of_module)

  for_in_is : IsStatement text of_module (s.ForEach (t k.For) None (t k.LeftParenthesis) (fs.StartDeclaration (bound k.Let a)) (t k.In) a (t k.RightParenthesis) nothing)
  for_in_is = for_in refl refl (for_binding (t k.Let) a refl (binding_identifier refl)) refl (value_is of_module) refl (nothing_is of_module)

  loop_is : IsStatement text of_module (s.While (t k.While) (t k.LeftParenthesis) a (t k.RightParenthesis) (s.BlockStatement block))
  loop_is = while refl refl (value_is of_module) refl (block_statement (block_is of_module))

  handled_is : IsStatement text of_module (s.Try (t k.Try) block (ha.Catch (t k.Catch) block) fi.NoFinalizer)
  handled_is = try_catch refl (block_is of_module) (catch_alone refl (block_is of_module)) no_finalizer

  switch_is : IsStatement text of_module (s.Switch (t k.Switch) (t k.LeftParenthesis) a (t k.RightParenthesis) (t k.LeftBrace) (cc.Default (t k.Default) (t k.Colon) [] ∷ cc.Case (t k.Case) a (t k.Colon) [] ∷ []) (t k.RightBrace))
  switch_is = switch_statement _ _ a _ _ _ _ refl refl (value_is of_module) refl refl (default_clause _ _ [] _ refl refl no_items (case_clause _ a _ [] [] refl (value_is of_module) refl no_items no_clauses)) refl

  declared_is : IsItem text of_module (s.Variables (bound k.Let (e.Assignment a (t k.Assign) number)) semicolon)
  declared_is = lexical_declaration (lexical_bindings (t k.Let) _ refl (elements (el.Value (e.Assignment a (t k.Assign) number)) [] (binding (with_value (binding_identifier refl) refl (number_is text of_module))) no_elements)) refl

  parameters_are : (c : Context) → IsBracketed text f.Parameters c (listed f.Parameters el.Hole [])
  parameters_are c = bracketed _ _ _ refl (elements el.Hole [] (hole refl) no_elements) refl

  function_is : IsItem text of_module (s.FunctionDeclaration function)
  function_is = function_declaration (named_function None (t k.Function) None (t k.Name) _ block refl refl refl refl refl (parameters_are (of_function None None)) (block_is (of_function None None)))

  class_is : IsItem text of_module (s.ClassDeclaration class)
  class_is = class_declaration (named_class (t k.Class) (t k.Name) _ (t k.LeftBrace) [] (t k.RightBrace) refl refl no_heritage refl no_class_elements refl)

pub has_statements : HasStatements
has_statements =
    record {
      expression = expression_is;
      if_chain = if_is;
      for_ever = for_is;
      for_in = for_in_is;
      loop = loop_is;
      handled = handled_is;
      switch = switch_is;
      labelled = λ text. labelled refl refl (nothing_is text of_module);
      returns = λ text. return_alone refl refl;
      breaks = λ text. break_statement refl refl refl refl;
      declared = declared_is;
      function_declaration = function_is;
      class_declaration = class_is;
    }
