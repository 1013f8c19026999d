-- `for` in all its forms (ECMA-262, 13.7.4 and 13.7.5).
use Rattle.std.specs.Prelude.{◌≡◌, ℕ, ◌<◌, Bool, true, false, not, ◌&&◌, ◌||◌, Option, Some, None}
use Rattle.esb_token.specs.declared.kind.Kind.{Kind}
use Rattle.esb_token.specs.declared.kind.Kind.TheVariants as k
use Rattle.esb_token.specs.declared.token.Token.{Token}
use Rattle.esb_token.specs.declared.goal.Goal.TheVariants as goal
use Rattle.esb_tree.specs.declared.classes.ClassElement.{ClassElement}
use Rattle.esb_tree.specs.declared.classes.ClassElement.TheOpen.{Expression-F, ForStart-F}
use Rattle.esb_tree.specs.declared.classes.Class.{Class}
use Rattle.esb_tree.specs.declared.classes.Heritage.{Heritage}
use Rattle.esb_tree.specs.declared.expressions.Expression.{Expression, out-Expression}
use Rattle.esb_tree.specs.declared.expressions.Link.{Link}
use Rattle.esb_tree.specs.declared.expressions.Operand.{Operand}
use Rattle.esb_tree.specs.declared.expressions.Substitution.{Substitution}
use Rattle.esb_tree.specs.declared.expressions.Substitutions.{Substitutions}
use Rattle.esb_tree.specs.declared.functions.ConciseBody.{ConciseBody}
use Rattle.esb_tree.specs.declared.functions.Function.{Function}
use Rattle.esb_tree.specs.declared.functions.Method.{Method}
use Rattle.esb_tree.specs.declared.patterns.Bracketed.{Bracketed}
use Rattle.esb_tree.specs.declared.patterns.Element.{Element, out-Element}
use Rattle.esb_tree.specs.declared.patterns.Elements.{Elements, out-Elements}
use Rattle.esb_tree.specs.declared.patterns.NextElement.{NextElement}
use Rattle.esb_tree.specs.declared.patterns.PropertyName.{PropertyName}
use Rattle.esb_tree.specs.declared.statements.Block.{Block}
use Rattle.esb_tree.specs.declared.statements.CaseClause.{CaseClause}
use Rattle.esb_tree.specs.declared.statements.Declaration.{Declaration, out-Declaration}
use Rattle.esb_tree.specs.declared.statements.Else.{Else}
use Rattle.esb_tree.specs.declared.statements.ElseIf.{ElseIf}
use Rattle.esb_tree.specs.declared.statements.Finalizer.{Finalizer}
use Rattle.esb_tree.specs.declared.statements.ForStart.{ForStart, out-ForStart}
use Rattle.esb_tree.specs.declared.statements.ForStart.TheVariants as fs
use Rattle.esb_tree.specs.declared.statements.Handler.{Handler}
use Rattle.esb_tree.specs.declared.statements.IfClause.{IfClause}
use Rattle.esb_tree.specs.declared.statements.MaybeExpression.{MaybeExpression}
use Rattle.esb_tree.specs.declared.statements.MaybeExpression.TheVariants as me
use Rattle.esb_tree.specs.declared.statements.Statement.{Statement}
use Rattle.esb_tree.specs.declared.statements.Statement.TheVariants as s
use Rattle.esb_tree.specs.Trees.{written}
use Rattle.esb_tree.specs.Yields.{tokens_of_expression}
use Rattle.esb_grammar.specs.declared.context.Context.{Context}
use Rattle.esb_grammar.specs.Contexts.{inside, without_in}
use Rattle.esb_grammar.specs.Edges.{value_layer}
use Rattle.esb_grammar.specs.Forms.{is_empty}
use Rattle.esb_grammar.specs.Grammar.{is_await_in, is_variable, IsExpression, IsAssignment, IsLeftHandSide, IsTarget}
use Rattle.esb_grammar.specs.Kinds.{is_semicolon}
use Rattle.esb_grammar.specs.Words.{begins_let}
use Rattle.esb_reader.specs.declared.node.Node.{Node}
use Rattle.esb_reader.specs.Places.{Text}
use Rattle.esb_reader.specs.Reader.{Reader}
use Rattle.esb_reader.specs.Stands.{Stands}
use Rattle.esb_reader.specs.Parts.{behind, token, token_in, both, made, above, empty}
use Rattle.esb_statement_laws.specs.Sequels.{follows, by_place, at_place}
use Rattle.esb_statement_laws.specs.Marks.{is_in, is_of, is_arrow, ends_expression, begins_target}
use Rattle.esb_statement_laws.specs.Handed.{Handed, expressions, ReadsExpressions}
use Rattle.esb_statement_laws.specs.Declarations.{ReadsBindings, is_bound, all_bound, make_bindings, make_declaration, loose_list}

-- `;` test `;` step `)` statement
abbrev pub Classic : Type 0
Classic = Token × (MaybeExpression × (Token × (MaybeExpression × (Token × Statement))))

-- `in` or `of`, an expression, `)` and a statement
abbrev pub Each : Type 0
Each = Token × (Expression × (Token × Statement))

-- how a `for` goes on behind its first part
pub data Rest : Type 0 where
  in_semicolons : Classic → Rest
  over_each : Each → Rest

-- ---- tests of nodes

abbrev pub left_layer : Expression-F ClassElement Heritage Expression Link ConciseBody Element PropertyName CaseClause Else Finalizer ForStart Handler MaybeExpression Statement Class Operand Substitution Substitutions Function Method Bracketed Elements NextElement Block Declaration ElseIf IfClause → Bool
left_layer (Expression-F.PrefixUpdate operator x) = false
left_layer (Expression-F.PostfixUpdate x operator) = false
left_layer (Expression-F.Unary operator x) = false
left_layer (Expression-F.Await word x) = false
left_layer (Expression-F.Binary first rest) = false
left_layer (Expression-F.Conditional test question x colon other) = false
left_layer (Expression-F.Assignment target operator x) = false
left_layer (Expression-F.Arrow parameters arrow body) = false
left_layer (Expression-F.AsyncArrow word name arrow body) = false
left_layer (Expression-F.Yield word) = false
left_layer (Expression-F.YieldValue word x) = false
left_layer (Expression-F.YieldEach word star x) = false
left_layer _ = true

-- a LeftHandSideExpression, of all expressions
unfoldable pub is_left : Expression → Bool
is_left x = left_layer (out-Expression x)

abbrev pub list_bound : Elements → Bool
list_bound l = is_bound (out-Elements l).first && all_bound (out-Elements l).rest

abbrev pub valueless_layer : Expression-F ClassElement Heritage Expression Link ConciseBody Element PropertyName CaseClause Else Finalizer ForStart Handler MaybeExpression Statement Class Operand Substitution Substitutions Function Method Bracketed Elements NextElement Block Declaration ElseIf IfClause → Bool
valueless_layer (Expression-F.Assignment target operator x) = false
valueless_layer _ = true

abbrev pub valueless : Option Expression → Bool
valueless None = false
valueless (Some x) = valueless_layer (out-Expression x)

-- one binding without a value: a ForBinding (13.7.5)
abbrev pub one_target : Elements → Bool
one_target l = is_empty (out-Elements l).rest && valueless (value_layer (out-Element (out-Elements l).first))

abbrev pub classic_layer : ForStart-F ClassElement Heritage Expression Link ConciseBody Element PropertyName CaseClause Else Finalizer ForStart Handler MaybeExpression Statement Class Operand Substitution Substitutions Function Method Bracketed Elements NextElement Block Declaration ElseIf IfClause → Bool
classic_layer (ForStart-F.NoStart) = true
classic_layer (ForStart-F.StartExpression x) = true
classic_layer (ForStart-F.StartDeclaration d) = list_bound (out-Declaration d).bindings

-- what may stand before a semicolon
unfoldable pub is_classic : ForStart → Bool
is_classic x = classic_layer (out-ForStart x)

abbrev pub each_layer : ForStart-F ClassElement Heritage Expression Link ConciseBody Element PropertyName CaseClause Else Finalizer ForStart Handler MaybeExpression Statement Class Operand Substitution Substitutions Function Method Bracketed Elements NextElement Block Declaration ElseIf IfClause → Bool
each_layer (ForStart-F.NoStart) = false
each_layer (ForStart-F.StartExpression x) = is_left x
each_layer (ForStart-F.StartDeclaration d) = one_target (out-Declaration d).bindings

-- before `in`
unfoldable pub is_each : ForStart → Bool
is_each x = each_layer (out-ForStart x)

abbrev pub of_layer : ForStart-F ClassElement Heritage Expression Link ConciseBody Element PropertyName CaseClause Else Finalizer ForStart Handler MaybeExpression Statement Class Operand Substitution Substitutions Function Method Bracketed Elements NextElement Block Declaration ElseIf IfClause → Bool
of_layer (ForStart-F.StartExpression x) = not (begins_let (tokens_of_expression written x))
of_layer _ = true

-- and before `of`, where an expression does not begin with `let`
unfoldable pub is_of_each : ForStart → Bool
is_of_each x = is_each x && of_layer (out-ForStart x)

-- ---- nodes of their parts

abbrev pub make_for : Token × (Token × (ForStart × Rest)) → Statement
make_for (word, (begin, (start, in_semicolons q))) = s.For word begin start q.0 q.1.0 q.1.1.0 q.1.1.1.0 q.1.1.1.1.0 q.1.1.1.1.1
make_for (word, (begin, (start, over_each q))) = s.ForEach word None begin start q.0 q.1.0 q.1.1.0 q.1.1.1

abbrev pub make_for_await : Token × (Token × (Token × (ForStart × Each))) → Statement
make_for_await p = s.ForEach p.0 (Some p.1.0) p.1.1.0 p.1.1.1.0 p.1.1.1.1.0 p.1.1.1.1.1.0 p.1.1.1.1.1.1.0 p.1.1.1.1.1.1.1

-- ---- what is handed in for their first parts

-- Expressions and bindings without `in` are read exactly: they end before `in`, and a LeftHandSideExpression before `of` unless
-- an arrow function begins there.
pub record ReadsHeads (text : Text) (c : Context) (n : ℕ) (r : Handed) : Type 0 where
  pub bare : ReadsExpressions text (IsExpression text (without_in c)) n (r.expression true (without_in c))
  pub bare_in : (x : Expression) (t : Token) → IsExpression text (without_in c) x → t.kind ≡ k.In → bare.stops x t ≡ true
  pub bare_of : (i : ℕ) (x : Node Expression) (j : ℕ) → Stands text (expressions (IsLeftHandSide text (without_in c))) n x i j → x.levels < n → is_of text (behind text j) ≡ true → is_arrow (behind text (behind text j).end).kind ≡ false → r.expression true (without_in c) i ≡ Some (x, j)
  pub assigned : ReadsExpressions text (IsAssignment text (inside c)) n (r.expression false (inside c))
  pub bindings : ReadsBindings text (without_in c) n (r.binding (without_in c))
  pub target_ends : (x : Expression) (t : Token) → IsTarget text (without_in c) x → is_in t.kind || is_of text t ≡ true → bindings.stops x t ≡ true

-- ---- the readers

-- a declaration is seen at a place: `let` begins one where something that is bound follows
abbrev pub declares : Kind → Kind → Bool
declares k.Var u = true
declares k.Const u = true
declares k.Let u = begins_target u
declares _ u = false

abbrev pub declares_at : Text → ℕ → Bool
declares_at text i = declares (behind text i).kind (behind text (behind text i).end).kind

-- a part where a node before it passes a test
abbrev pub if_holds : {A : Type 0} → Bool → Reader (Node A) → Reader (Node A)
if_holds b p = at_place (λ i. b) p

module _ (text : Text) (c : Context) (n : ℕ) (r : Handed) where
  unfoldable pub maybe_value : Reader (Node MaybeExpression)
  maybe_value = by_place (λ i. ends_expression (behind text i).kind) (empty me.Absent) (made me.Present 0 (r.expression true (inside c)))

  abbrev pub closing_body : Reader (Node (Token × Statement))
  closing_body = both (token text k.RightParenthesis) (r.statement c)

  unfoldable pub classic : Reader (Node Classic)
  classic = both (token text k.Semicolon) (both maybe_value (both (token text k.Semicolon) (both maybe_value closing_body)))

  unfoldable pub each_in : Reader (Node Each)
  each_in = both (token text k.In) (both (r.expression true (inside c)) closing_body)

  unfoldable pub each_of : Reader (Node Each)
  each_of = both (token_in text goal.Div (is_of text)) (both (r.expression false (inside c)) closing_body)

  -- how it goes on is told by the token behind its first part
  abbrev pub each_rest : ForStart → Reader (Node Rest)
  each_rest x = by_place (λ i. is_in (behind text i).kind) (if_holds (is_each x) (made over_each 0 each_in)) (if_holds (is_of_each x) (made over_each 0 each_of))

  unfoldable pub loop_rest : ForStart → Reader (Node Rest)
  loop_rest x = by_place (λ i. is_semicolon (behind text i).kind) (if_holds (is_classic x) (made in_semicolons 0 classic)) (each_rest x)

  abbrev pub declared_start : Reader (Node ForStart)
  declared_start = made fs.StartDeclaration 0 (made make_declaration 0 (both (token_in text goal.Div (λ t. is_variable t.kind)) (made make_bindings 0 (loose_list text (without_in c) n r))))

  abbrev pub valued_start : Reader (Node ForStart)
  valued_start = made fs.StartExpression 0 (r.expression true (without_in c))

  -- nothing, a declaration or an expression, all without `in`
  unfoldable pub start : Reader (Node ForStart)
  start = by_place (λ i. is_semicolon (behind text i).kind) (empty fs.NoStart) (by_place (declares_at text) declared_start valued_start)

  unfoldable pub plain_for : Reader (Node Statement)
  plain_for = above n make_for (both (token text k.For) (both (token text k.LeftParenthesis) (follows start loop_rest)))

  -- `for await`, which has `of`
  unfoldable pub awaited_for : Reader (Node Statement)
  awaited_for =
      above n make_for_await (both (token text k.For) (both (token_in text goal.Div (λ t. is_await_in c t.kind)) (both (token text k.LeftParenthesis) (follows start (λ x. if_holds (is_of_each x) each_of)))))

  unfoldable pub for_statement : Reader (Node Statement)
  for_statement = by_place (λ i. is_await_in c (behind text (behind text i).end).kind) awaited_for plain_for
