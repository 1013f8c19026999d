-- Statements with a semicolon at their end are read exactly.
use Rattle.std.proofs.Common.{◌≡◌, ◌⊎◌, inl, inr, ℕ, suc, ◌+◌, ◌<◌, ◌≤◌, max, Bool, true, false, not, ◌&&◌, ◌||◌, [], ◌∷◌, ◌++◌, length, Option, Some, None, Ok, refl, ap, sym, ◌∙◌, subst, arith}
use Rattle.esb_token.specs.declared.kind.Kind.{Kind}
use Rattle.esb_token.specs.declared.kind.Kind.TheVariants as k
use Rattle.esb_token.specs.declared.token.Token.{Token}
use Rattle.esb_token.specs.declared.goal.Goal.TheVariants as goal
use Rattle.esb_token.specs.Tokens.{SpelledBetween}
use Rattle.esb_tree.specs.declared.expressions.Expression.{Expression}
use Rattle.esb_tree.specs.declared.statements.MaybeExpression.TheVariants as me
use Rattle.esb_tree.specs.Levels.{depth_of_expression, depth_of_statement}
use Rattle.esb_tree.specs.Trees.{written}
use Rattle.esb_tree.specs.Yields.{Tokens, maybe_token, tokens_of_expression, tokens_of_statement}
use Rattle.esb_tree.proofs.TokenLines.{tokens_ExpressionStatement, tokens_Debugger, tokens_Continue, tokens_Break, tokens_Return, tokens_Throw, tokens_Absent, tokens_Present}
use Rattle.esb_tree.proofs.LevelLines.{levels_ExpressionStatement, levels_Debugger, levels_Continue, levels_Break, levels_Return, levels_Throw, levels_Absent, levels_Present}
use Rattle.esb_grammar.specs.declared.context.Context.{Context}
use Rattle.esb_grammar.specs.Contexts.{inside}
use Rattle.esb_grammar.specs.Grammar.{IsExpression}
use Rattle.esb_grammar.specs.Kinds.{is_reference, is_semicolon, is_right_brace, is_end}
use Rattle.esb_grammar.specs.Semicolons.{end_from, lets_end, expression_goes_on, statement_goes_on, nothing_goes_on}
use Rattle.esb_grammar.specs.Words.{on_line}
use Rattle.esb_reader.specs.declared.node.Node.{Node}
use Rattle.esb_reader.specs.Kinds.{agrees}
use Rattle.esb_reader.specs.Places.{Text}
use Rattle.esb_reader.specs.Reader.{Reader, choose}
use Rattle.esb_reader.specs.Parts.{behind, both, token, token_in, made, empty, optional}
use Rattle.esb_reader.specs.Stands.{Syntax, Rule, Made, pairs, tokens, tokens_in, which}
use Rattle.esb_reading_laws.proofs.Composed.{token_rule, token_in_rule, plain_rule, above_rule, empty_rule, choice_rule}
use Rattle.esb_statement_laws.specs.Sequels.{RuleAt, at_place}
use Rattle.esb_statement_laws.specs.Endings.{closed, closings, IsEndTest}
use Rattle.esb_statement_laws.specs.Marks.{is_label, returns_nothing}
use Rattle.esb_statement_laws.specs.Handed.{Handed, expressions, statements, ReadsExpressions}
use Rattle.esb_statement_laws.specs.Statements as read
use Rattle.esb_statement_laws.specs.Statements.{make_expression, make_debugger, make_continue, make_break, make_return, make_throw, maybe_expression, behind_expression, behind_statement, behind_word, behind_returned, behind_thrown, on_line_at}
use Rattle.esb_statement_laws.proofs.Followed.{rule_at, sorted_rule, at_place_rule, sees, leading}
use Rattle.esb_statement_laws.proofs.EndingsRead.{ends_at, closed_rule, lets_end_is, no_going_on}
use Rattle.esb_statement_laws.proofs.Shown.{Shown, shown, statement_begins, line_shown, value_shown}
use Rattle.esb_statement_laws.proofs.Small.{first_of, second_of, or_first, or_second, of_not, plus_zero, semicolon_ends, brace_ends, end_ends, label_agrees}

-- ---- what ends an expression

pub three : (a b d : Bool) → (a || b || d) ≡ true → (a ≡ true) ⊎ ((b ≡ true) ⊎ (d ≡ true))
three true b d h = inl refl
three false true d h = inr (inl refl)
three false false true h = inr (inr refl)
three false false false h = cc

or_left : (a b : Bool) → (a || b) ≡ false → a ≡ false
or_left false b h = refl
or_left true b h = cc

-- where a statement may end
pub lets : (on : Token → Bool) (t : Token) → lets_end on (Ok t) ≡ true → (t.after_line ≡ true) ⊎ ((is_right_brace t.kind ≡ true) ⊎ (is_end t.kind ≡ true))
lets on t h = three t.after_line (is_right_brace t.kind) (is_end t.kind) (second_of _ _ h)

zeros : 1 ≡ max (max 0 0) 0 + 1
zeros = refl

module _ (text : Text) (Good : Expression → Type 0) (n : ℕ) (read : Reader (Node Expression)) (values : ReadsExpressions text Good n read) where
  pub value_stops : (on : Token → Bool) (x : Expression) (t : Token) → Good x → (on t ≡ false → expression_goes_on x t ≡ false) → (is_semicolon t.kind ≡ true) ⊎ (lets_end on (Ok t) ≡ true) → values.stops x t ≡ true
  value_stops on x t good less (inl h) = values.ends x t good (semicolon_ends t.kind h)
  value_stops on x t good less (inr h) = by_case (lets on t h)
    where
      by_case : (t.after_line ≡ true) ⊎ ((is_right_brace t.kind ≡ true) ⊎ (is_end t.kind ≡ true)) → values.stops x t ≡ true
      by_case (inl line) = values.next_line x t good line (less (no_going_on on t h))
      by_case (inr (inl brace)) = values.ends x t good (brace_ends t.kind brace)
      by_case (inr (inr ending)) = values.ends x t good (end_ends t.kind ending)

  pub value_ends : (x : Expression) (i m : ℕ) → Good x → SpelledBetween text i (tokens_of_expression written x) m → (end_from 0 (tokens_of_expression written x) ≡ m) × (m ≤ length text)
  value_ends x i m good h =
      let b = values.begins x good in
      subst (λ ts. (end_from 0 ts ≡ m) × (m ≤ length text)) (sym b.is) (ends_at text i b.first b.rest m (subst (λ ts. SpelledBetween text i ts m) b.is h))

  -- what is seen where an expression stands
  pub value_seen : (x : Expression) (i m : ℕ) (good : Good x) → SpelledBetween text i (tokens_of_expression written x) m → Shown text i (values.begins x good).first
  value_seen x i m good h = let b = values.begins x good in shown text i b.first b.rest m (subst (λ ts. SpelledBetween text i ts m) b.is h) (statement_begins _ b.kind)

  -- an expression on one line with what stands before it
  pub line_seen : (x : Expression) (i m : ℕ) → Good x → SpelledBetween text i (tokens_of_expression written x) m → on_line (tokens_of_expression written x) ≡ not (behind text i).after_line
  line_seen x i m good h =
      let b = values.begins x good in
      ap on_line b.is ∙ ap not (sym (line_shown text i b.first (value_seen x i m good h)))

  abbrev OnLine : Syntax Expression
  OnLine = which (expressions Good) (λ x. Good x × (on_line (tokens_of_expression written x) ≡ true))

  pub on_line_rule : Rule text OnLine n n values.stops (at_place (on_line_at text) read)
  on_line_rule =
      at_place_rule text (expressions Good) (λ x. on_line (tokens_of_expression written x) ≡ true) n n values.stops (on_line_at text) read values.rule
      (λ x i j good h line. sym (line_seen x i j good h) ∙ line) (λ x i j good h line. line_seen x i j good h ∙ line)

  pub on_line_false : (x : Expression) (i m : ℕ) (good : Good x) → SpelledBetween text i (tokens_of_expression written x) m → on_line (tokens_of_expression written x) ≡ true → returns_nothing (behind text i) ≡ false
  on_line_false x i m good h line =
      let b = values.begins x good in
      value_shown text i b.first (value_seen x i m good h) b.kind (of_not _ (ap on_line (sym b.is) ∙ line))

goes : (x : Expression) (t : Token) → statement_goes_on x t ≡ false → expression_goes_on x t ≡ false
unfolding statement_goes_on
goes x t h = or_left _ _ h

module _ (text : Text) (c : Context) (n : ℕ) (r : Handed) (values : ReadsExpressions text (IsExpression text (inside c)) n (r.expression true (inside c))) where
  abbrev Value : Expression → Type 0
  Value = IsExpression text (inside c)

  abbrev value : Reader (Node Expression)
  value = r.expression true (inside c)

  -- ---- ExpressionStatement

  abbrev pub ExpressionParts : Syntax (Expression × Option Token)
  ExpressionParts = closings text behind_statement (tokens_of_expression written) (expressions Value)

  pub expression_rule : Rule text (statements (Made ExpressionParts make_expression)) n (suc n) (λ _ _. true) (read.expression_statement text c n r)
  unfolding read.expression_statement
  expression_rule =
      above_rule text ExpressionParts (tokens_of_statement written) depth_of_statement n n (λ _ _. true) (λ _ _. true) make_expression (closed text behind_statement value)
      (closed_rule text (expressions Value) n n values.stops behind_statement (tokens_of_expression written) value values.rule (λ x. lets_end_is (statement_goes_on x)) (value_ends text Value n value values)
      (λ x t good h. value_stops text Value n value values (statement_goes_on x) x t good (λ off. goes x t off) h))
      (omega arith) (λ p. tokens_ExpressionStatement written p.0 p.1) (λ p. levels_ExpressionStatement p.0 p.1 ∙ plus_zero (depth_of_expression p.0)) (λ a t h. refl)

  -- ---- DebuggerStatement

  word_ends : (word : Token) (i m : ℕ) → SpelledBetween text i (word ∷ []) m → (end_from 0 (word ∷ []) ≡ m) × (m ≤ length text)
  word_ends word i m h = ends_at text i word [] m h

  abbrev pub DebuggerParts : Syntax (Token × Option Token)
  DebuggerParts = closings text behind_word (λ t. t ∷ []) (tokens k.Debugger)

  pub debugger_rule : Rule text (statements (Made DebuggerParts make_debugger)) n (suc n) (λ _ _. true) (read.debugger text c n r)
  unfolding read.debugger
  debugger_rule =
      above_rule text DebuggerParts (tokens_of_statement written) depth_of_statement n n (λ _ _. true) (λ _ _. true) make_debugger (closed text behind_word (token text k.Debugger))
      (closed_rule text (tokens k.Debugger) n n (λ _ _. true) behind_word (λ t. t ∷ []) (token text k.Debugger) (token_rule text n n k.Debugger refl) (λ t. lets_end_is nothing_goes_on) (λ t i m good h. word_ends t i m h) (λ t u good h. refl))
      (omega arith) (λ p. tokens_Debugger written p.0 p.1) (λ p. levels_Debugger p.0 p.1) (λ a t h. refl)

  -- ---- ContinueStatement and BreakStatement

  abbrev no_label : Option Token → Token → Bool
  no_label o t = not (is_label c t)

  no_and : (a b : Bool) → a ≡ false → not (a && b) ≡ true
  no_and false b h = refl
  no_and true b h = cc

  no_and_not : (a b : Bool) → b ≡ true → not (a && not b) ≡ true
  no_and_not false b h = refl
  no_and_not true true h = refl
  no_and_not true false h = cc

  semicolon_no_label : (kind : Kind) → is_semicolon kind ≡ true → is_reference c kind ≡ false
  semicolon_no_label k.Semicolon h = refl
  semicolon_no_label _ h = cc

  brace_no_label : (kind : Kind) → is_right_brace kind ≡ true → is_reference c kind ≡ false
  brace_no_label k.RightBrace h = refl
  brace_no_label _ h = cc

  end_no_label : (kind : Kind) → is_end kind ≡ true → is_reference c kind ≡ false
  end_no_label k.End h = refl
  end_no_label _ h = cc

  abbrev IsLabel : Option Token → Type 0
  IsLabel = Made (tokens_in (is_label c)) Some

  abbrev labels : (Option Token → Type 0) → Syntax (Option Token)
  labels Good = record { yields = maybe_token; levels_of = λ o. 0; Good = Good }

  label_seen : (o : Option Token) (i j : ℕ) → IsLabel o → SpelledBetween text i (maybe_token o) j → is_label c (behind text i) ≡ true
  label_seen o i j good h =
      let spelled = subst (λ x. SpelledBetween text i (maybe_token x) j) good.1 h in
      ap (is_label c) (sees text i good.0 [] j spelled (label_agrees c good.0.kind (first_of _ _ good.2))) ∙ good.2

  nothing_seen : (o : Option Token) (i j : ℕ) → o ≡ None → SpelledBetween text i (maybe_token o) j → not (is_label c (behind text j)) ≡ true → is_label c (behind text i) ≡ false
  nothing_seen o i j e h stop = let here : i ≡ j = subst (λ x. SpelledBetween text i (maybe_token x) j) e h in ap (λ m. is_label c (behind text m)) here ∙ unnot _ stop
    where
      unnot : (b : Bool) → not b ≡ true → b ≡ false
      unnot true h = cc
      unnot false h = refl

  abbrev pub IsMaybeLabel : Option Token → Type 0
  IsMaybeLabel o = IsLabel o ⊎ (o ≡ None)

  abbrev Labels : Syntax (Option Token)
  Labels = labels IsMaybeLabel

  label_rule : Rule text Labels n n no_label (optional text (is_label c) (token_in text goal.Div (is_label c)))
  label_rule =
      choice_rule text Labels IsLabel (λ o. o ≡ None) n n no_label (is_label c) (made Some 0 (token_in text goal.Div (is_label c))) (empty None)
      (plain_rule text (tokens_in (is_label c)) maybe_token (λ o. 0) n n (λ _ _. true) no_label Some (token_in text goal.Div (is_label c)) (token_in_rule text n n goal.Div (is_label c) (λ t h. label_agrees c t.kind (first_of _ _ h))) (λ t. refl) (λ t. refl) (λ t u h. refl))
      (empty_rule text maybe_token (λ o. 0) n n no_label None refl refl)
      label_seen nothing_seen

  abbrev jumps : Kind → Syntax (Token × Option Token)
  jumps kind = pairs (tokens kind) Labels

  abbrev jump_tokens : Token × Option Token → Tokens
  jump_tokens p = p.0 ∷ maybe_token p.1

  abbrev pub JumpParts : Kind → Syntax ((Token × Option Token) × Option Token)
  JumpParts kind = closings text behind_word jump_tokens (jumps kind)

  jump_stops : (t : Token) → (is_semicolon t.kind ≡ true) ⊎ (lets_end nothing_goes_on (Ok t) ≡ true) → not (is_label c t) ≡ true
  jump_stops t (inl h) = no_and _ _ (semicolon_no_label t.kind h)
  jump_stops t (inr h) = by_case (lets nothing_goes_on t h)
    where
      by_case : (t.after_line ≡ true) ⊎ ((is_right_brace t.kind ≡ true) ⊎ (is_end t.kind ≡ true)) → not (is_label c t) ≡ true
      by_case (inl line) = no_and_not (is_reference c t.kind) t.after_line line
      by_case (inr (inl brace)) = no_and _ _ (brace_no_label t.kind brace)
      by_case (inr (inr ending)) = no_and _ _ (end_no_label t.kind ending)

  jump_rule : (kind : Kind) → agrees goal.Div kind ≡ true → Rule text (JumpParts kind) n n (λ _ _. true) (read.jump text c n r kind)
  jump_rule kind same =
      closed_rule text (jumps kind) n n (λ p. no_label p.1) behind_word jump_tokens (both (token text kind) (optional text (is_label c) (token_in text goal.Div (is_label c))))
      (leading text Labels n n kind no_label (optional text (is_label c) (token_in text goal.Div (is_label c))) same label_rule) (λ p. lets_end_is nothing_goes_on)
      (λ p i m good h. ends_at text i p.0 (maybe_token p.1) m h) (λ p t good h. jump_stops t h)

  pub continue_rule : Rule text (statements (Made (JumpParts k.Continue) make_continue)) n (suc n) (λ _ _. true) (read.continue_statement text c n r)
  unfolding read.continue_statement
  continue_rule =
      above_rule text (JumpParts k.Continue) (tokens_of_statement written) depth_of_statement n n (λ _ _. true) (λ _ _. true) make_continue (read.jump text c n r k.Continue) (jump_rule k.Continue refl)
      (omega arith) (λ p. tokens_Continue written p.0.0 p.0.1 p.1) (λ p. levels_Continue p.0.0 p.0.1 p.1) (λ a t h. refl)

  pub break_rule : Rule text (statements (Made (JumpParts k.Break) make_break)) n (suc n) (λ _ _. true) (read.break_statement text c n r)
  unfolding read.break_statement
  break_rule =
      above_rule text (JumpParts k.Break) (tokens_of_statement written) depth_of_statement n n (λ _ _. true) (λ _ _. true) make_break (read.jump text c n r k.Break) (jump_rule k.Break refl)
      (omega arith) (λ p. tokens_Break written p.0.0 p.0.1 p.1) (λ p. levels_Break p.0.0 p.0.1 p.1) (λ a t h. refl)

  -- ---- ThrowStatement

  abbrev pub Lines : Syntax Expression
  Lines = which (expressions Value) (λ x. Value x × (on_line (tokens_of_expression written x) ≡ true))

  abbrev thrown : Syntax (Token × Expression)
  thrown = pairs (tokens k.Throw) Lines

  abbrev pub ThrowParts : Syntax ((Token × Expression) × Option Token)
  ThrowParts = closings text behind_thrown (λ p. tokens_of_expression written p.1) thrown

  throw_levels : (m : ℕ) → m + 1 ≡ max (max 0 m) 0 + 1
  throw_levels m = omega arith

  pub throw_rule : Rule text (statements (Made ThrowParts make_throw)) n (suc n) (λ _ _. true) (read.throw_statement text c n r)
  unfolding read.throw_statement
  throw_rule =
      above_rule text ThrowParts (tokens_of_statement written) depth_of_statement n n (λ _ _. true) (λ _ _. true) make_throw (closed text behind_thrown (both (token text k.Throw) (at_place (on_line_at text) value)))
      (closed_rule text thrown n n (λ p. values.stops p.1) behind_thrown (λ p. tokens_of_expression written p.1) (both (token text k.Throw) (at_place (on_line_at text) value))
      (leading text Lines n n k.Throw values.stops (at_place (on_line_at text) value) refl (on_line_rule text Value n value values)) (λ p. lets_end_is (expression_goes_on p.1))
      (λ p i m good h. value_ends text Value n value values p.1 p.0.end m good.1.0 h.2) (λ p t good h. value_stops text Value n value values (expression_goes_on p.1) p.1 t good.1.0 (λ off. off) h))
      (omega arith) (λ p. tokens_Throw written p.0.0 p.0.1 p.1) (λ p. levels_Throw p.0.0 p.0.1 p.1 ∙ throw_levels (depth_of_expression p.0.1)) (λ a t h. refl)

  -- ---- ReturnStatement

  abbrev pub Returned : Bool → Option Expression → Type 0
  Returned true o = o ≡ None
  Returned false o = Made Lines Some o

  abbrev returned_stops : Option Expression → Token → Bool
  returned_stops None t = returns_nothing t
  returned_stops (Some x) t = values.stops x t

  abbrev returned_tokens : Option Expression → Tokens
  returned_tokens None = []
  returned_tokens (Some x) = tokens_of_expression written x

  abbrev returned_levels : Option Expression → ℕ
  returned_levels None = 0
  returned_levels (Some x) = depth_of_expression x

  abbrev returneds : (Option Expression → Type 0) → Syntax (Option Expression)
  returneds Good = record { yields = returned_tokens; levels_of = returned_levels; Good = Good }

  present_rule : Rule text (returneds (Made (expressions Value) Some)) n n returned_stops (made Some 0 value)
  present_rule = plain_rule text (expressions Value) returned_tokens returned_levels n n values.stops returned_stops Some value values.rule (λ x. refl) (λ x. refl) (λ x t h. h)

  absent_rule : Rule text (returneds (λ o. o ≡ None)) n n returned_stops (empty None)
  absent_rule = empty_rule text returned_tokens returned_levels n n returned_stops None refl refl

  -- on the line of `return`, where something is seen that a value may begin with
  on_this_line : (x : Expression) (i m : ℕ) → Value x → SpelledBetween text i (tokens_of_expression written x) m → returns_nothing (behind text i) ≡ false → on_line (tokens_of_expression written x) ≡ true
  on_this_line x i m good h seen = line_seen text Value n value values x i m good h ∙ ap not (or_left _ _ seen)

  present_at : (i : ℕ) → returns_nothing (behind text i) ≡ false → RuleAt text (returneds (Made Lines Some)) n n returned_stops (made Some 0 value) i
  present_at i seen = record {
    sound = λ o j h.
        let s = present_rule.sound i o j h in
        let x = s.good.0 in
        let spelled = subst (λ z. SpelledBetween text i (returned_tokens z) j) s.good.1 s.spelled in
        record { good = (x, s.good.1, (s.good.2, on_this_line x i j s.good.2 spelled seen)); levels = s.levels; fits = s.fits; spelled = s.spelled };
    complete = λ o j s low stop.
        present_rule.complete i o j (record { good = (s.good.0, s.good.1, s.good.2.0); levels = s.levels; fits = s.fits; spelled = s.spelled }) low stop;
  }

  returned_at : (b : Bool) (i : ℕ) → returns_nothing (behind text i) ≡ b → RuleAt text (returneds (Returned b)) n n returned_stops (choose b (empty None) (made Some 0 value)) i
  returned_at true i seen = rule_at text (returneds (λ o. o ≡ None)) n n returned_stops (empty None) i absent_rule
  returned_at false i seen = present_at i seen

  returned_seen : (b : Bool) (o : Option Expression) (i j : ℕ) → Returned b o → SpelledBetween text i (returned_tokens o) j → returned_levels o < n → returned_stops o (behind text j) ≡ true → returns_nothing (behind text i) ≡ b
  returned_seen true o i j e h low stop =
      let here : i ≡ j = subst (λ z. SpelledBetween text i (returned_tokens z) j) e h in
      ap (λ m. returns_nothing (behind text m)) here ∙ subst (λ z. returned_stops z (behind text j) ≡ true) e stop
  returned_seen false o i j good h low stop =
      on_line_false text Value n value values good.0 i j good.2.0 (subst (λ z. SpelledBetween text i (returned_tokens z) j) good.1 h) good.2.1

  abbrev AllReturned : Syntax (Option Expression)
  AllReturned = returneds (λ o. (b : Bool) × Returned b o)

  returned_rule : Rule text AllReturned n n returned_stops (read.returned text c n r)
  returned_rule = sorted_rule text (returneds Value_or) Returned n n returned_stops (λ i. returns_nothing (behind text i)) (λ b. choose b (empty None) (made Some 0 value)) returned_at returned_seen
    where
      Value_or : Option Expression → Type 0
      Value_or o = Unit {0}

  abbrev returns : Syntax (Token × Option Expression)
  returns = pairs (tokens k.Return) AllReturned

  abbrev return_tokens : Token × Option Expression → Tokens
  return_tokens (word, None) = word ∷ []
  return_tokens (word, Some x) = tokens_of_expression written x

  abbrev pub ReturnParts : Syntax ((Token × Option Expression) × Option Token)
  ReturnParts = closings text behind_returned return_tokens returns

  value_of : (x : Expression) → (b : Bool) × Returned b (Some x) → Value x
  value_of x (true, e) = cc
  value_of x (false, h) = subst Value (same h.1) h.2.0
    where
      same : Some x ≡ Some h.0 → h.0 ≡ x
      same e = cc

  pub returned_lines : (x : Expression) → (b : Bool) × Returned b (Some x) → Lines.Good x
  returned_lines x (true, e) = cc
  returned_lines x (false, h) = subst (λ y. Value y × (on_line (tokens_of_expression written y) ≡ true)) (same h.1) h.2
    where
      same : Some x ≡ Some h.0 → h.0 ≡ x
      same e = cc

  return_test : (p : Token × Option Expression) → IsEndTest (behind_returned p)
  return_test (word, None) = lets_end_is nothing_goes_on
  return_test (word, Some x) = lets_end_is (expression_goes_on x)

  return_ends : (word : Token) (o : Option Expression) (i m : ℕ) → returns.Good (word, o) → SpelledBetween text i (word ∷ returned_tokens o) m → (end_from 0 (return_tokens (word, o)) ≡ m) × (m ≤ length text)
  return_ends word None i m good h = ends_at text i word [] m h
  return_ends word (Some x) i m good h = value_ends text Value n value values x word.end m (value_of x good.1) h.2

  nothing_stops : (t : Token) → (is_semicolon t.kind ≡ true) ⊎ (lets_end nothing_goes_on (Ok t) ≡ true) → returns_nothing t ≡ true
  nothing_stops t (inl h) = or_second _ _ (or_first _ _ h)
  nothing_stops t (inr h) = by_case (lets nothing_goes_on t h)
    where
      by_case : (t.after_line ≡ true) ⊎ ((is_right_brace t.kind ≡ true) ⊎ (is_end t.kind ≡ true)) → returns_nothing t ≡ true
      by_case (inl line) = or_first _ _ line
      by_case (inr (inl brace)) = or_second t.after_line _ (or_second (is_semicolon t.kind) _ (or_first _ _ brace))
      by_case (inr (inr ending)) = or_second t.after_line _ (or_second (is_semicolon t.kind) _ (or_second (is_right_brace t.kind) _ ending))

  return_stops : (word : Token) (o : Option Expression) (t : Token) → returns.Good (word, o) → (is_semicolon t.kind ≡ true) ⊎ (behind_returned (word, o) (Ok t) ≡ true) → returned_stops o t ≡ true
  return_stops word None t good h = nothing_stops t h
  return_stops word (Some x) t good h = value_stops text Value n value values (expression_goes_on x) x t (value_of x good.1) (λ off. off) h

  return_yields : (word : Token) (o : Option Expression) (semicolon : Option Token) → tokens_of_statement written (make_return ((word, o), semicolon)) ≡ (word ∷ returned_tokens o) ++ written semicolon
  return_yields word None semicolon = tokens_Return written word me.Absent semicolon ∙ ap (λ ts. word ∷ (ts ++ written semicolon)) (tokens_Absent written)
  return_yields word (Some x) semicolon = tokens_Return written word (me.Present x) semicolon ∙ ap (λ ts. word ∷ (ts ++ written semicolon)) (tokens_Present written x)

  return_levels : (word : Token) (o : Option Expression) (semicolon : Option Token) → depth_of_statement (make_return ((word, o), semicolon)) ≡ max (max 0 (returned_levels o)) 0 + 1
  return_levels word None semicolon = levels_Return word me.Absent semicolon ∙ ap (λ l. l + 1) levels_Absent
  return_levels word (Some x) semicolon = levels_Return word (me.Present x) semicolon ∙ ap (λ l. l + 1) (levels_Present x) ∙ throw_levels (depth_of_expression x)

  pub return_rule : Rule text (statements (Made ReturnParts make_return)) n (suc n) (λ _ _. true) (read.return_statement text c n r)
  unfolding read.return_statement
  return_rule =
      above_rule text ReturnParts (tokens_of_statement written) depth_of_statement n n (λ _ _. true) (λ _ _. true) make_return (closed text behind_returned (both (token text k.Return) (read.returned text c n r)))
      (closed_rule text returns n n (λ p. returned_stops p.1) behind_returned return_tokens (both (token text k.Return) (read.returned text c n r))
      (leading text AllReturned n n k.Return returned_stops (read.returned text c n r) refl returned_rule) return_test
      (λ p i m good h. return_ends p.0 p.1 i m good h) (λ p t good h. return_stops p.0 p.1 t good h))
      (omega arith) (λ p. return_yields p.0.0 p.0.1 p.1) (λ p. return_levels p.0.0 p.0.1 p.1) (λ a t h. refl)
