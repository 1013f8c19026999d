-- Statements of one kind each, over readers of their parts one level down (ECMA-262, clause 13).
use Rattle.std.specs.Prelude.{ℕ, Bool, true, not, ◌&&◌, List, length, Option, Some, None}
use Rattle.esb_token.specs.declared.kind.Kind.{Kind}
use Rattle.esb_token.specs.declared.kind.Kind.TheVariants as k
use Rattle.esb_token.specs.declared.token.Token.{Token}
use Rattle.esb_token.specs.declared.goal.Goal.TheVariants as goal
use Rattle.esb_tree.specs.declared.expressions.Expression.{Expression}
use Rattle.esb_tree.specs.declared.statements.Block.{Block, roll-Block}
use Rattle.esb_tree.specs.declared.statements.Else.{Else}
use Rattle.esb_tree.specs.declared.statements.Else.TheVariants as ot
use Rattle.esb_tree.specs.declared.statements.ElseIf.{ElseIf, roll-ElseIf}
use Rattle.esb_tree.specs.declared.statements.IfClause.{IfClause, roll-IfClause}
use Rattle.esb_tree.specs.declared.statements.MaybeExpression.{MaybeExpression}
use Rattle.esb_tree.specs.declared.statements.MaybeExpression.TheVariants as me
use Rattle.esb_tree.specs.declared.statements.Statement.{Statement}
use Rattle.esb_tree.specs.declared.statements.Statement.TheVariants as s
use Rattle.esb_grammar.specs.declared.context.Context.{Context}
use Rattle.esb_grammar.specs.Contexts.{inside}
use Rattle.esb_grammar.specs.Kinds.{is_reference}
use Rattle.esb_grammar.specs.Semicolons.{lets_end, is_other, expression_goes_on, statement_goes_on, nothing_goes_on}
use Rattle.esb_reader.specs.declared.node.Node.{Node}
use Rattle.esb_reader.specs.Places.{Text}
use Rattle.esb_reader.specs.Reader.{Reader, none, repeated}
use Rattle.esb_reader.specs.Parts.{behind, token, token_in, both, made, above, choice, empty, optional}
use Rattle.esb_statement_laws.specs.Sequels.{at_place, by_place}
use Rattle.esb_statement_laws.specs.Endings.{LeftOut, closed}
use Rattle.esb_statement_laws.specs.Marks.{is_else, is_if_word, is_label, returns_nothing}
use Rattle.esb_statement_laws.specs.Handed.{Handed}

-- ---- nodes of their parts

abbrev pub make_block : Token × (List Statement × Token) → Block
make_block p = roll-Block (record { begin = p.0; body = p.1.0; ending = p.1.1 })

abbrev pub make_expression : Expression × Option Token → Statement
make_expression p = s.ExpressionStatement p.0 p.1

abbrev pub make_debugger : Token × Option Token → Statement
make_debugger p = s.Debugger p.0 p.1

abbrev pub make_continue : (Token × Option Token) × Option Token → Statement
make_continue p = s.Continue p.0.0 p.0.1 p.1

abbrev pub make_break : (Token × Option Token) × Option Token → Statement
make_break p = s.Break p.0.0 p.0.1 p.1

abbrev pub maybe_expression : Option Expression → MaybeExpression
maybe_expression None = me.Absent
maybe_expression (Some x) = me.Present x

abbrev pub make_return : (Token × Option Expression) × Option Token → Statement
make_return p = s.Return p.0.0 (maybe_expression p.0.1) p.1

abbrev pub make_throw : (Token × Expression) × Option Token → Statement
make_throw p = s.Throw p.0.0 p.0.1 p.1

abbrev pub make_while : Token × (Token × (Expression × (Token × Statement))) → Statement
make_while p = s.While p.0 p.1.0 p.1.1.0 p.1.1.1.0 p.1.1.1.1

abbrev pub make_do : (Token × (Statement × (Token × (Token × (Expression × Token))))) × Option Token → Statement
make_do p = s.DoWhile p.0.0 p.0.1.0 p.0.1.1.0 p.0.1.1.1.0 p.0.1.1.1.1.0 p.0.1.1.1.1.1 p.1

abbrev pub make_labelled : Token × (Token × Statement) → Statement
make_labelled p = s.Labelled p.0 p.1.0 p.1.1

abbrev pub make_if_clause : Token × (Token × (Expression × (Token × Statement))) → IfClause
make_if_clause p = roll-IfClause (record { word = p.0; begin = p.1.0; condition = p.1.1.0; ending = p.1.1.1.0; body = p.1.1.1.1 })

abbrev pub make_else_if : Token × IfClause → ElseIf
make_else_if p = roll-ElseIf (record { else_word = p.0; clause = p.1 })

abbrev pub make_otherwise : Token × Statement → Else
make_otherwise p = ot.Otherwise p.0 p.1

abbrev pub make_if : IfClause × (List ElseIf × Else) → Statement
make_if p = s.If p.0 p.1.0 p.1.1

-- ---- what goes on with what stands before a semicolon

abbrev pub behind_expression : Expression → LeftOut
behind_expression x = lets_end (expression_goes_on x)

abbrev pub behind_statement : Expression → LeftOut
behind_statement x = lets_end (statement_goes_on x)

abbrev pub behind_word : {A : Type 0} → A → LeftOut
behind_word a = lets_end nothing_goes_on

abbrev pub behind_returned : Token × Option Expression → LeftOut
behind_returned (word, None) = lets_end nothing_goes_on
behind_returned (word, Some x) = behind_expression x

abbrev pub behind_thrown : Token × Expression → LeftOut
behind_thrown p = behind_expression p.1

abbrev pub behind_loop : {A : Type 0} → A → LeftOut
behind_loop a = is_other

-- ---- the readers

-- no line terminator stands before what is seen at a place
abbrev pub on_line_at : Text → ℕ → Bool
on_line_at text i = not (behind text i).after_line

-- an `else` and an `if` are seen at a place
abbrev pub else_if_at : Text → ℕ → Bool
else_if_at text i = is_else (behind text i).kind && is_if_word (behind text (behind text i).end).kind

module _ (text : Text) (c : Context) (n : ℕ) (r : Handed) where
  abbrev pub value : Reader (Node Expression)
  value = r.expression true (inside c)

  -- Block (13.2), and a FunctionBody in its braces (14.1)
  unfoldable pub block : Reader (Node Block)
  block = made make_block 0 (both (token text k.LeftBrace) (both (r.items c) (token text k.RightBrace)))

  unfoldable pub block_statement : Reader (Node Statement)
  block_statement = above n s.BlockStatement block

  -- EmptyStatement (13.4)
  unfoldable pub empty_statement : Reader (Node Statement)
  empty_statement = above n s.Empty (token text k.Semicolon)

  -- ExpressionStatement (13.5); what it may not begin with is told by its first tokens
  unfoldable pub expression_statement : Reader (Node Statement)
  expression_statement = above n make_expression (closed text behind_statement value)

  -- DebuggerStatement (13.16)
  unfoldable pub debugger : Reader (Node Statement)
  debugger = above n make_debugger (closed text behind_word (token text k.Debugger))

  -- ContinueStatement (13.8) and BreakStatement (13.9)
  abbrev pub jump : Kind → Reader (Node ((Token × Option Token) × Option Token))
  jump kind = closed text behind_word (both (token text kind) (optional text (is_label c) (token_in text goal.Div (is_label c))))

  unfoldable pub continue_statement : Reader (Node Statement)
  continue_statement = above n make_continue (jump k.Continue)

  unfoldable pub break_statement : Reader (Node Statement)
  break_statement = above n make_break (jump k.Break)

  -- ReturnStatement (13.10)
  abbrev pub returned : Reader (Node (Option Expression))
  returned = by_place (λ i. returns_nothing (behind text i)) (empty None) (made Some 0 value)

  unfoldable pub return_statement : Reader (Node Statement)
  return_statement = above n make_return (closed text behind_returned (both (token text k.Return) returned))

  -- ThrowStatement (13.14)
  unfoldable pub throw_statement : Reader (Node Statement)
  throw_statement = above n make_throw (closed text behind_thrown (both (token text k.Throw) (at_place (on_line_at text) value)))

  -- an expression in parentheses, and what stands behind it
  abbrev pub headed : {A : Type 0} → Reader (Node A) → Reader (Node (Token × (Expression × (Token × A))))
  headed p = both (token text k.LeftParenthesis) (both value (both (token text k.RightParenthesis) p))

  -- `while` (13.7.3)
  unfoldable pub while_statement : Reader (Node Statement)
  while_statement = above n make_while (both (token text k.While) (headed (r.statement c)))

  -- `do` `while` (13.7.2)
  unfoldable pub do_statement : Reader (Node Statement)
  do_statement =
      above n make_do (closed text behind_loop (both (token text k.Do) (both (r.statement c) (both (token text k.While) (both (token text k.LeftParenthesis) (both value (token text k.RightParenthesis)))))))

  -- LabelledStatement (13.13)
  unfoldable pub labelled_statement : Reader (Node Statement)
  labelled_statement = above n make_labelled (both (token_in text goal.Div (λ t. is_reference c t.kind)) (both (token text k.Colon) (r.statement c)))

  -- IfStatement (13.6): clauses while `else if` follows, then maybe a last `else`, behind which no `if` stands
  unfoldable pub if_clause : Reader (Node IfClause)
  if_clause = made make_if_clause 0 (both (token text k.If) (headed (r.statement c)))

  unfoldable pub else_if : Reader (Node ElseIf)
  else_if = made make_else_if 0 (both (token text k.Else) if_clause)

  unfoldable pub else_ifs : Reader (Node (List ElseIf))
  else_ifs = repeated (else_if_at text) else_if (length text) none

  unfoldable pub last_else : Reader (Node Else)
  last_else = choice text (λ t. is_else t.kind) (made make_otherwise 0 (both (token text k.Else) (at_place (λ i. not (is_if_word (behind text i).kind)) (r.statement c)))) (empty ot.NoElse)

  unfoldable pub if_statement : Reader (Node Statement)
  if_statement = above n make_if (both if_clause (both else_ifs last_else))
