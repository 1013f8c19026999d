-- Statements with `for` are read exactly.
use Rattle.std.proofs.Common.{◌≡◌, ◌⊎◌, inl, inr, ℕ, suc, ◌+◌, ◌<◌, max, Bool, true, false, not, ◌&&◌, List, [], ◌∷◌, ◌++◌, Option, Some, None, refl, ap, sym, ◌∙◌, subst, arith}
use Rattle.esb_token.specs.declared.kind.Kind.{Kind}
use Rattle.esb_token.specs.declared.kind.Kind.TheVariants as k
use Rattle.esb_token.specs.declared.token.Token.{Token}
use Rattle.esb_token.specs.declared.goal.Goal.TheVariants as goal
use Rattle.esb_token.specs.Goals.{is_division}
use Rattle.esb_token.specs.Tokens.{SpelledBetween}
use Rattle.esb_tree.specs.declared.expressions.Expression.{Expression, out-Expression}
use Rattle.esb_tree.specs.declared.patterns.Element.TheVariants as el
use Rattle.esb_tree.specs.declared.patterns.Elements.{Elements, out-roll-Elements}
use Rattle.esb_tree.specs.declared.patterns.Element.{out-Element}
use Rattle.esb_tree.specs.declared.patterns.NextElement.{NextElement}
use Rattle.esb_tree.specs.declared.statements.Declaration.{Declaration, out-Declaration, out-roll-Declaration}
use Rattle.esb_tree.specs.declared.statements.ForStart.{ForStart}
use Rattle.esb_tree.specs.declared.statements.ForStart.TheVariants as fs
use Rattle.esb_tree.specs.declared.statements.MaybeExpression.{MaybeExpression}
use Rattle.esb_tree.specs.declared.statements.Statement.{Statement, out-Statement}
use Rattle.esb_tree.specs.declared.statements.Statement.TheVariants as s
use Rattle.esb_tree.specs.Levels.{depth_of_expression, depth_of_for_start, depth_of_maybe_expression, depth_of_statement}
use Rattle.esb_tree.specs.Trees.{written}
use Rattle.esb_tree.specs.Yields.{tokens_of_expression, tokens_of_statement}
use Rattle.esb_tree.proofs.TokenLines.{tokens_For, tokens_ForEach}
use Rattle.esb_tree.proofs.LevelLines.{levels_For, levels_ForEach}
use Rattle.esb_grammar.specs.declared.context.Context.{Context}
use Rattle.esb_grammar.specs.declared.form.Form.TheVariants as f
use Rattle.esb_grammar.specs.Contexts.{inside, without_in}
use Rattle.esb_grammar.specs.Edges.{takes_else}
use Rattle.esb_grammar.proofs.EdgeLines.{takes_For, takes_ForEach}
use Rattle.esb_grammar.specs.Grammar.{is_await_in, is_variable, IsExpression, IsTarget, binding_identifier, array_pattern, object_pattern, AreElements, IsDeclaration, variable_bindings, lexical_bindings, IsMaybeExpression, absent, present, IsForStart, no_start, start_expression, start_declaration, IsForTarget, for_expression, for_binding, IsStatement, block_statement, variable_statement, empty_statement, expression_statement, if_statement, do_while, while, for, for_in, for_of, continue_statement, break_statement, return_alone, return_value, switch_statement, labelled, throw, try_catch, try_finally, debugger}
use Rattle.esb_reader.specs.declared.node.Node.{Node}
use Rattle.esb_reader.specs.Kinds.{agrees}
use Rattle.esb_reader.specs.Places.{Text}
use Rattle.esb_reader.specs.Reader.{Reader, choose, fail}
use Rattle.esb_reader.specs.Parts.{behind, both, token, token_in}
use Rattle.esb_reader.specs.Stands.{Syntax, Rule, Made, pairs, tokens, tokens_in, which}
use Rattle.esb_reading_laws.proofs.Composed.{token_in_rule, both_rule, above_rule, same_rule}
use Rattle.esb_statement_laws.specs.Sequels.{RuleAt, Keeps, follows, linked}
use Rattle.esb_statement_laws.specs.Marks.{is_in, is_of, is_arrow, begins_expression, nearest, stops_before, statement_stops}
use Rattle.esb_statement_laws.specs.Handed.{Handed, statements, ReadsExpressions, ReadsStatements}
use Rattle.esb_statement_laws.specs.Loops as read
use Rattle.esb_statement_laws.specs.Loops.{ReadsHeads, Classic, Each, Rest, in_semicolons, over_each, is_classic, is_each, is_of_each, is_left, list_bound, valueless_layer, valueless, one_target, if_holds, make_for, make_for_await}
use Rattle.esb_statement_laws.proofs.Followed.{rule_at, joined_rule, sorted_rule, leading, sees}
use Rattle.esb_grammar.specs.Kinds.{is_semicolon, is_lexical}
use Rattle.esb_grammar.specs.Edges.{value_layer}
use Rattle.esb_grammar.specs.Forms.{is_empty}
use Rattle.esb_grammar.specs.Words.{begins_let, begins_bracket, begins_let_bracket}
use Rattle.esb_statement_laws.proofs.Kept.{keeps_both, keeps_made, keeps_above, keeps_same, keeps_choose, keeps_fail, keeps_follows}
use Rattle.esb_statement_laws.proofs.Shown.{Shown, shown, statement_begins}
use Rattle.esb_statement_laws.proofs.ForRests as rest
use Rattle.esb_statement_laws.proofs.ForRests.{holds_rule, of_name, of_agrees}
use Rattle.esb_statement_laws.proofs.ForHeads as heads_read
use Rattle.esb_statement_laws.proofs.ForHeads.{classic_nothing, classic_expression, classic_declaration, each_nothing, each_expression, each_declaration, of_is_each, of_expression, of_declaration, left_is, left_of, expression_of_left}
use Rattle.esb_statement_laws.proofs.Declared as declared
use Rattle.esb_statement_laws.specs.Declarations.{is_bound, all_bound, are_bound, make_bindings, make_declaration}
use Rattle.esb_statement_laws.specs.Exact.{IsLoop, is_loop}
use Rattle.esb_statement_laws.proofs.Small.{and_of, second_of, of_not}
use Rattle.esb_statement_laws.proofs.Inward.{left_without, left_with, target_without, target_with}

no_arrow : (kind : Kind) → begins_expression kind ≡ true → is_arrow kind ≡ false
no_arrow k.Arrow h = cc
no_arrow _ h = refl

division_no_arrow : (kind : Kind) → is_division kind ≡ true → is_arrow kind ≡ false
division_no_arrow k.Arrow h = cc
division_no_arrow _ h = refl

-- an arrow is not seen where an expression stands
shown_no_arrow : (text : Text) (i : ℕ) (t : Token) → Shown text i t → begins_expression t.kind ≡ true → is_arrow (behind text i).kind ≡ false
shown_no_arrow text i t (inl e) h = ap (λ (u : Token). is_arrow u.kind) e ∙ no_arrow t.kind h
shown_no_arrow text i t (inr g) h = division_no_arrow _ g.1

for_is_loop : (w b : Token) (a : ForStart) (s1 : Token) (v : MaybeExpression) (s2 : Token) (u : MaybeExpression) (t : Token) (y : Statement) → is_loop (s.For w b a s1 v s2 u t y) ≡ true
unfolding is_loop out-Statement denote.Hole.Carrier.out
for_is_loop w b a s1 v s2 u t y = refl

each_is_loop : (w : Token) (m : Option Token) (b : Token) (a : ForStart) (i : Token) (v : Expression) (t : Token) (y : Statement) → is_loop (s.ForEach w m b a i v t y) ≡ true
unfolding is_loop out-Statement denote.Hole.Carrier.out
each_is_loop w m b a i v t y = refl

-- what is bound has no value
target_valueless : (text : Text) (c : Context) (x : Expression) → IsTarget text c x → valueless_layer (out-Expression x) ≡ true
unfolding out-Expression denote.Hole.Carrier.out
target_valueless text c x (binding_identifier h) = refl
target_valueless text c x (array_pattern h) = refl
target_valueless text c x (object_pattern h) = refl

-- a test of whether the body behind a first part takes an `else`
abbrev rest_with : (Bool → Token → Bool) → Rest → Token → Bool
rest_with P (in_semicolons q) t = P (takes_else q.1.1.1.1.1) t
rest_with P (over_each q) t = P (takes_else q.1.1.1) t

module _ (text : Text) (c : Context) (n : ℕ) (r : Handed) (values : ReadsExpressions text (IsExpression text (inside c)) n (r.expression true (inside c)))
    (bodies : ReadsStatements text (IsStatement text c) n (r.statement c)) (heads : ReadsHeads text c n r) where
  abbrev Starts : Syntax ForStart
  Starts = heads_read.Starts text c n r heads

  abbrev IsRest : ForStart → Rest → Type 0
  IsRest = rest.IsRest text c n r values heads.assigned bodies

  abbrev rests : ForStart → Syntax Rest
  rests a = rest.rests text c n r values heads.assigned bodies (IsRest a)

  abbrev rest_stops : Rest → Token → Bool
  rest_stops = rest.rest_stops text c n r values heads.assigned bodies

  abbrev Ofs : Syntax Each
  Ofs = rest.Ofs text c n r values heads.assigned bodies

  abbrev each_stops : Each → Token → Bool
  each_stops = rest.each_stops text c n r values heads.assigned bodies

  abbrev OfsFor : ForStart → Syntax Each
  OfsFor a = which Ofs (λ q. Ofs.Good q × (is_of_each a ≡ true))

  -- ---- the first part and what follows it

  -- no arrow stands behind `of`
  behind_of : (p : Each) (m j : ℕ) → Ofs.Good p → SpelledBetween text m (Ofs.yields p) j → (is_of text (behind text m) ≡ true) × (is_arrow (behind text (behind text m).end).kind ≡ false)
  behind_of p m j good h =
      let t = p.0 in
      let x = p.1.0 in
      let after = (rest.Closing text c n r values heads.assigned bodies).yields p.1.1 in
      let here : behind text m ≡ t = sees text m t (tokens_of_expression written x ++ after) j h (of_agrees text t good.0) in
      let b = heads.assigned.begins x good.1.0 in
      let next = subst (λ ts. SpelledBetween text t.end (ts ++ after) j) b.is h.2 in
      (ap (is_of text) here ∙ good.0, ap (λ (v : Token). is_arrow (behind text v.end).kind) here ∙ shown_no_arrow text t.end b.first (shown text t.end b.first (b.rest ++ after) j next (statement_begins b.first.kind b.kind)) b.kind)

  goes_on : (a : ForStart) (q : Rest) (m j : ℕ) → IsRest a q → SpelledBetween text m ((rests a).yields q) j → heads_read.GoesOn text c n r heads a m
  goes_on a q m j (true, good) h = inl (ap is_semicolon (rest.classic_seen text c n r values heads.assigned bodies q m j good.0 h), good.1)
  goes_on a q m j (false, (true, good)) h = inr (inl (ap is_in (rest.in_seen text c n r values heads.assigned bodies q m j good.0 h), good.1))
  goes_on a q m j (false, (false, good)) h =
      let p = good.0.0 in
      let seen = behind_of p m j good.0.2 (subst (λ z. SpelledBetween text m ((rests a).yields z) j) good.0.1 h) in
      inr (inr (seen.0, good.1, seen.1))

  head_rule : Rule text (linked Starts rests) n n (λ p. rest_stops p.1) (follows (read.start text c n r) (read.loop_rest text c n r))
  head_rule =
      joined_rule text Starts rests n n (λ _ _. true) (λ a q. rest_stops q) (λ p. rest_stops p.1) (read.start text c n r) (read.loop_rest text c n r) (heads_read.start_some text c n r heads) (λ i x j h. refl)
      (λ a i m good h kept. rule_at text (rests a) n n rest_stops (read.loop_rest text c n r a) m (rest.rest_rule text c n r values heads.assigned bodies a)) (λ a q t ga gq h. h)
      (λ a q i m j stands low gq h stop. (heads_read.start_goes text c n r heads a i m stands.good stands.spelled low (goes_on a q m j gq h), refl))

  await_rule : Rule text (linked Starts OfsFor) n n (λ p. each_stops p.1) (follows (read.start text c n r) (λ a. if_holds (is_of_each a) (read.each_of text c n r)))
  await_rule =
      joined_rule text Starts OfsFor n n (λ _ _. true) (λ a q. each_stops q) (λ p. each_stops p.1) (read.start text c n r) (λ a. if_holds (is_of_each a) (read.each_of text c n r)) (heads_read.start_some text c n r heads) (λ i x j h. refl)
      (λ a i m good h kept. rule_at text (OfsFor a) n n each_stops (if_holds (is_of_each a) (read.each_of text c n r)) m (holds_rule text Ofs n n each_stops (is_of_each a) (read.each_of text c n r) (rest.of_rule text c n r values heads.assigned bodies))) (λ a q t ga gq h. h)
      (λ a q i m j stands low gq h stop. let seen = behind_of q m j gq.0 h in (heads_read.start_goes text c n r heads a i m stands.good stands.spelled low (inr (inr (seen.0, gq.1, seen.1))), refl))

  -- ---- the statements

  abbrev pub PlainParts : Syntax (Token × (Token × (ForStart × Rest)))
  PlainParts = pairs (tokens k.For) (pairs (tokens k.LeftParenthesis) (linked Starts rests))

  abbrev pub AwaitParts : Syntax (Token × (Token × (Token × (ForStart × Each))))
  AwaitParts = pairs (tokens k.For) (pairs (tokens_in (λ t. is_await_in c t.kind)) (pairs (tokens k.LeftParenthesis) (linked Starts OfsFor)))

  classic_levels : (a v u b : ℕ) → max a (max v (max u b)) + 1 ≡ max 0 (max 0 (max a (max 0 (max v (max 0 (max u (max 0 b))))))) + 1
  classic_levels a v u b = omega arith

  each_levels : (a v b : ℕ) → max a (max v b) + 1 ≡ max 0 (max 0 (max a (max 0 (max v (max 0 b))))) + 1
  each_levels a v b = omega arith

  await_levels : (a v b : ℕ) → max a (max v b) + 1 ≡ max 0 (max 0 (max 0 (max a (max 0 (max v (max 0 b)))))) + 1
  await_levels a v b = omega arith

  plain_yields : (p : Token × (Token × (ForStart × Rest))) → tokens_of_statement written (make_for p) ≡ PlainParts.yields p
  plain_yields (w, (b, (a, in_semicolons q))) = tokens_For written w b a q.0 q.1.0 q.1.1.0 q.1.1.1.0 q.1.1.1.1.0 q.1.1.1.1.1
  plain_yields (w, (b, (a, over_each q))) = tokens_ForEach written w None b a q.0 q.1.0 q.1.1.0 q.1.1.1

  plain_depth : (p : Token × (Token × (ForStart × Rest))) → depth_of_statement (make_for p) ≡ PlainParts.levels_of p + 1
  plain_depth (w, (b, (a, in_semicolons q))) = levels_For w b a q.0 q.1.0 q.1.1.0 q.1.1.1.0 q.1.1.1.1.0 q.1.1.1.1.1 ∙ classic_levels (depth_of_for_start a) (depth_of_maybe_expression q.1.0) (depth_of_maybe_expression q.1.1.1.0) (depth_of_statement q.1.1.1.1.1)
  plain_depth (w, (b, (a, over_each q))) = levels_ForEach w None b a q.0 q.1.0 q.1.1.0 q.1.1.1 ∙ each_levels (depth_of_for_start a) (depth_of_expression q.1.0) (depth_of_statement q.1.1.1)

  plain_takes : (p : Token × (Token × (ForStart × Rest))) (P : Bool → Token → Bool) (t : Token) → P (takes_else (make_for p)) t ≡ rest_with P p.1.1.1 t
  plain_takes (w, (b, (a, in_semicolons q))) P t = ap (λ z. P z t) (takes_For w b a q.0 q.1.0 q.1.1.0 q.1.1.1.0 q.1.1.1.1.0 q.1.1.1.1.1)
  plain_takes (w, (b, (a, over_each q))) P t = ap (λ z. P z t) (takes_ForEach w None b a q.0 q.1.0 q.1.1.0 q.1.1.1)

  with_stops : (q : Rest) (t : Token) → rest_with stops_before q t ≡ rest_stops q t
  with_stops (in_semicolons q) t = refl
  with_stops (over_each q) t = refl

  plain_rule : Rule text (statements (Made PlainParts make_for)) n (suc n) statement_stops (read.plain_for text c n r)
  unfolding read.plain_for
  plain_rule =
      above_rule text PlainParts (tokens_of_statement written) depth_of_statement n n (λ p. rest_stops p.1.1.1) statement_stops make_for (both (token text k.For) (both (token text k.LeftParenthesis) (follows (read.start text c n r) (read.loop_rest text c n r))))
      (leading text (pairs (tokens k.LeftParenthesis) (linked Starts rests)) n n k.For (λ p. rest_stops p.1.1) (both (token text k.LeftParenthesis) (follows (read.start text c n r) (read.loop_rest text c n r))) refl
      (leading text (linked Starts rests) n n k.LeftParenthesis (λ p. rest_stops p.1) (follows (read.start text c n r) (read.loop_rest text c n r)) refl head_rule))
      (omega arith) plain_yields plain_depth (λ p t h. sym (with_stops p.1.1.1 t) ∙ sym (plain_takes p stops_before t) ∙ h)

  await_is : (kind : Kind) → is_await_in c kind ≡ true → kind ≡ k.Await
  await_is k.Await h = refl
  await_is _ h = cc

  awaited_rule : Rule text (statements (Made AwaitParts make_for_await)) n (suc n) statement_stops (read.awaited_for text c n r)
  unfolding read.awaited_for
  awaited_rule =
      above_rule text AwaitParts (tokens_of_statement written) depth_of_statement n n (λ p. each_stops p.1.1.1.1) statement_stops make_for_await (both (token text k.For) (both (token_in text goal.Div (λ t. is_await_in c t.kind)) (both (token text k.LeftParenthesis) (follows (read.start text c n r) (λ a. if_holds (is_of_each a) (read.each_of text c n r))))))
      (leading text (pairs (tokens_in (λ t. is_await_in c t.kind)) (pairs (tokens k.LeftParenthesis) (linked Starts OfsFor))) n n k.For (λ p. each_stops p.1.1.1) (both (token_in text goal.Div (λ t. is_await_in c t.kind)) (both (token text k.LeftParenthesis) (follows (read.start text c n r) (λ a. if_holds (is_of_each a) (read.each_of text c n r))))) refl
      (both_rule text (tokens_in (λ t. is_await_in c t.kind)) (pairs (tokens k.LeftParenthesis) (linked Starts OfsFor)) n n (λ _ _. true) (λ p. each_stops p.1.1) (λ p. each_stops p.1.1.1) (token_in text goal.Div (λ t. is_await_in c t.kind)) (both (token text k.LeftParenthesis) (follows (read.start text c n r) (λ a. if_holds (is_of_each a) (read.each_of text c n r))))
      (token_in_rule text n n goal.Div (λ t. is_await_in c t.kind) (λ t h. ap (agrees goal.Div) (await_is t.kind h)))
      (leading text (linked Starts OfsFor) n n k.LeftParenthesis (λ p. each_stops p.1) (follows (read.start text c n r) (λ a. if_holds (is_of_each a) (read.each_of text c n r))) refl await_rule)
      (λ a b t h. h) (λ a b m j ga gb h stop. refl)))
      (omega arith) (λ p. tokens_ForEach written p.0 (Some p.1.0) p.1.1.0 p.1.1.1.0 p.1.1.1.1.0 p.1.1.1.1.1.0 p.1.1.1.1.1.1.0 p.1.1.1.1.1.1.1)
      (λ p. levels_ForEach p.0 (Some p.1.0) p.1.1.0 p.1.1.1.0 p.1.1.1.1.0 p.1.1.1.1.1.0 p.1.1.1.1.1.1.0 p.1.1.1.1.1.1.1 ∙ await_levels (depth_of_for_start p.1.1.1.0) (depth_of_expression p.1.1.1.1.1.0) (depth_of_statement p.1.1.1.1.1.1.1))
      (λ p t h. ap (λ b. stops_before b t) (sym (takes_ForEach p.0 (Some p.1.0) p.1.1.0 p.1.1.1.0 p.1.1.1.1.0 p.1.1.1.1.1.0 p.1.1.1.1.1.1.0 p.1.1.1.1.1.1.1)) ∙ h)

  -- ---- with `await` or without

  abbrev await_at : ℕ → Bool
  await_at i = is_await_in c (behind text (behind text i).end).kind

  abbrev pub Loops : Bool → Statement → Type 0
  Loops true y = Made AwaitParts make_for_await y
  Loops false y = Made PlainParts make_for y

  loop_at : (b : Bool) (i : ℕ) → await_at i ≡ b → RuleAt text (statements (Loops b)) n (suc n) statement_stops (choose b (read.awaited_for text c n r) (read.plain_for text c n r)) i
  loop_at true i seen = rule_at text (statements (Loops true)) n (suc n) statement_stops (read.awaited_for text c n r) i awaited_rule
  loop_at false i seen = rule_at text (statements (Loops false)) n (suc n) statement_stops (read.plain_for text c n r) i plain_rule

  second_seen : (w u : Token) (ts : List Token) (i j : ℕ) → SpelledBetween text i (w ∷ (u ∷ ts)) j → w.kind ≡ k.For → agrees goal.Div u.kind ≡ true → behind text (behind text i).end ≡ u
  second_seen w u ts i j h e same = ap (λ (v : Token). behind text v.end) (sees text i w (u ∷ ts) j h (ap (agrees goal.Div) e)) ∙ sees text w.end u ts j h.2 same

  loop_seen : (b : Bool) (y : Statement) (i j : ℕ) → Loops b y → SpelledBetween text i (tokens_of_statement written y) j → depth_of_statement y < suc n → statement_stops y (behind text j) ≡ true → await_at i ≡ b
  loop_seen true y i j good h low stop =
      let p = good.0 in
      let spelled = subst (λ ts. SpelledBetween text i ts j) (ap (tokens_of_statement written) good.1 ∙ tokens_ForEach written p.0 (Some p.1.0) p.1.1.0 p.1.1.1.0 p.1.1.1.1.0 p.1.1.1.1.1.0 p.1.1.1.1.1.1.0 p.1.1.1.1.1.1.1) h in
      ap (λ (v : Token). is_await_in c v.kind) (second_seen p.0 p.1.0 ((pairs (tokens k.LeftParenthesis) (linked Starts OfsFor)).yields p.1.1) i j spelled good.2.0 (ap (agrees goal.Div) (await_is p.1.0.kind good.2.1.0))) ∙ good.2.1.0
  loop_seen false y i j good h low stop =
      let p = good.0 in
      let spelled = subst (λ ts. SpelledBetween text i ts j) (ap (tokens_of_statement written) good.1 ∙ plain_yields p) h in
      ap (λ (v : Token). is_await_in c v.kind) (second_seen p.0 p.1.0 ((linked Starts rests).yields p.1.1) i j spelled good.2.0 (ap (agrees goal.Div) good.2.1.0)) ∙ ap (is_await_in c) good.2.1.0

  pub loops_rule : Rule text (statements (λ y. (b : Bool) × Loops b y)) n (suc n) statement_stops (read.for_statement text c n r)
  unfolding read.for_statement
  loops_rule = sorted_rule text (statements (Loops true)) Loops n (suc n) statement_stops await_at (λ b. choose b (read.awaited_for text c n r) (read.plain_for text c n r)) loop_at loop_seen

  -- ---- no `else` is left behind

  abbrev kept_rest : Rest → Token → Bool
  kept_rest q t = rest_with nearest q t

  body_keeps : Keeps text (λ (q : Token × Statement) t. nearest (takes_else q.1) t) (read.closing_body text c n r)
  body_keeps = keeps_both text (λ y. nearest (takes_else y)) (token text k.RightParenthesis) (r.statement c) bodies.keeps

  of_keeps : Keeps text (λ q. nearest (takes_else q.1.1.1)) (read.each_of text c n r)
  unfolding read.each_of
  of_keeps =
      keeps_both text (λ q. nearest (takes_else q.1.1)) (token_in text goal.Div (is_of text)) (both (r.expression false (inside c)) (read.closing_body text c n r))
      (keeps_both text (λ q. nearest (takes_else q.1)) (r.expression false (inside c)) (read.closing_body text c n r) body_keeps)

  in_keeps : Keeps text (λ q. nearest (takes_else q.1.1.1)) (read.each_in text c n r)
  unfolding read.each_in
  in_keeps =
      keeps_both text (λ q. nearest (takes_else q.1.1)) (token text k.In) (both (r.expression true (inside c)) (read.closing_body text c n r))
      (keeps_both text (λ q. nearest (takes_else q.1)) (r.expression true (inside c)) (read.closing_body text c n r) body_keeps)

  classic_keeps : Keeps text (λ q. nearest (takes_else q.1.1.1.1.1)) (read.classic text c n r)
  unfolding read.classic
  classic_keeps =
      keeps_both text (λ q. nearest (takes_else q.1.1.1.1)) (token text k.Semicolon) (both (read.maybe_value text c n r) (both (token text k.Semicolon) (both (read.maybe_value text c n r) (read.closing_body text c n r))))
      (keeps_both text (λ q. nearest (takes_else q.1.1.1)) (read.maybe_value text c n r) (both (token text k.Semicolon) (both (read.maybe_value text c n r) (read.closing_body text c n r)))
      (keeps_both text (λ q. nearest (takes_else q.1.1)) (token text k.Semicolon) (both (read.maybe_value text c n r) (read.closing_body text c n r))
      (keeps_both text (λ q. nearest (takes_else q.1)) (read.maybe_value text c n r) (read.closing_body text c n r) body_keeps)))

  holds_keeps : {A : Type 0} (P : A → Token → Bool) (b : Bool) (p : Reader (Node A)) → Keeps text P p → Keeps text P (if_holds b p)
  holds_keeps P b p keeps = keeps_choose text P (λ i. b) p fail keeps (keeps_fail text P)

  rest_keeps : (a : ForStart) → Keeps text kept_rest (read.loop_rest text c n r a)
  unfolding read.loop_rest
  rest_keeps a =
      keeps_choose text kept_rest (λ i. is_semicolon (behind text i).kind) _ _ (holds_keeps kept_rest (is_classic a) _ (keeps_made text kept_rest in_semicolons 0 (read.classic text c n r) classic_keeps))
      (keeps_choose text kept_rest (λ i. is_in (behind text i).kind) _ _ (holds_keeps kept_rest (is_each a) _ (keeps_made text kept_rest over_each 0 (read.each_in text c n r) in_keeps))
      (holds_keeps kept_rest (is_of_each a) _ (keeps_made text kept_rest over_each 0 (read.each_of text c n r) of_keeps)))

  plain_keeps : Keeps text (λ y. nearest (takes_else y)) (read.plain_for text c n r)
  unfolding read.plain_for
  plain_keeps =
      keeps_above text (λ y. nearest (takes_else y)) n make_for (both (token text k.For) (both (token text k.LeftParenthesis) (follows (read.start text c n r) (read.loop_rest text c n r))))
      (keeps_same text (λ p. kept_rest p.1.1.1) (λ p. nearest (takes_else (make_for p))) (both (token text k.For) (both (token text k.LeftParenthesis) (follows (read.start text c n r) (read.loop_rest text c n r)))) (λ p t h. plain_takes p nearest t ∙ h)
      (keeps_both text (λ p. kept_rest p.1.1) (token text k.For) (both (token text k.LeftParenthesis) (follows (read.start text c n r) (read.loop_rest text c n r)))
      (keeps_both text (λ p. kept_rest p.1) (token text k.LeftParenthesis) (follows (read.start text c n r) (read.loop_rest text c n r))
      (keeps_follows text kept_rest (read.start text c n r) (read.loop_rest text c n r) rest_keeps))))

  awaited_keeps : Keeps text (λ y. nearest (takes_else y)) (read.awaited_for text c n r)
  unfolding read.awaited_for
  awaited_keeps =
      keeps_above text (λ y. nearest (takes_else y)) n make_for_await (both (token text k.For) (both (token_in text goal.Div (λ t. is_await_in c t.kind)) (both (token text k.LeftParenthesis) tail)))
      (keeps_same text (λ p. nearest (takes_else p.1.1.1.1.1.1.1)) (λ p. nearest (takes_else (make_for_await p))) (both (token text k.For) (both (token_in text goal.Div (λ t. is_await_in c t.kind)) (both (token text k.LeftParenthesis) tail)))
      (λ p t h. ap (λ b. nearest b t) (takes_ForEach p.0 (Some p.1.0) p.1.1.0 p.1.1.1.0 p.1.1.1.1.0 p.1.1.1.1.1.0 p.1.1.1.1.1.1.0 p.1.1.1.1.1.1.1) ∙ h)
      (keeps_both text (λ p. nearest (takes_else p.1.1.1.1.1.1)) (token text k.For) (both (token_in text goal.Div (λ t. is_await_in c t.kind)) (both (token text k.LeftParenthesis) tail))
      (keeps_both text (λ p. nearest (takes_else p.1.1.1.1.1)) (token_in text goal.Div (λ t. is_await_in c t.kind)) (both (token text k.LeftParenthesis) tail)
      (keeps_both text (λ p. nearest (takes_else p.1.1.1.1)) (token text k.LeftParenthesis) tail
      (keeps_follows text (λ q. nearest (takes_else q.1.1.1)) (read.start text c n r) (λ a. if_holds (is_of_each a) (read.each_of text c n r)) (λ a. holds_keeps (λ q. nearest (takes_else q.1.1.1)) (is_of_each a) (read.each_of text c n r) of_keeps))))))
    where
      tail : Reader (Node (ForStart × Each))
      tail = follows (read.start text c n r) (λ a. if_holds (is_of_each a) (read.each_of text c n r))

  pub loops_keep : Keeps text (λ y. nearest (takes_else y)) (read.for_statement text c n r)
  unfolding read.for_statement
  loops_keep = keeps_choose text (λ y. nearest (takes_else y)) await_at (read.awaited_for text c n r) (read.plain_for text c n r) awaited_keeps plain_keeps

  -- ---- the family

  abbrev Lists : Syntax (Expression × List NextElement)
  Lists = heads_read.Lists text c n r heads

  abbrev IsMaybe : MaybeExpression → Type 0
  IsMaybe = rest.IsMaybe text c n r values heads.assigned bodies

  maybe_of : (x : MaybeExpression) → IsMaybe x → IsMaybeExpression text (inside c) x
  maybe_of x (true, e) = subst (IsMaybeExpression text (inside c)) (sym e) absent
  maybe_of x (false, h) = subst (IsMaybeExpression text (inside c)) (sym h.1) (present h.2)

  of_maybe : (x : MaybeExpression) → IsMaybeExpression text (inside c) x → IsMaybe x
  of_maybe x absent = (true, refl)
  of_maybe x (present {x = v} h) = (false, (v, refl, h))

  -- before a semicolon
  strict_list : (l : Elements) → Made Lists make_bindings l → list_bound l ≡ true → AreElements text f.Bindings (without_in c) l
  strict_list l good bound =
      let p = good.0 in
      let same = out-roll-Elements (record { first = el.Value p.0; rest = p.1 }) in
      let fits : are_bound p ≡ true = ap (λ o. is_bound o.first && all_bound o.rest) (sym same) ∙ sym (ap list_bound good.1) ∙ bound in
      declared.elements_of text (without_in c) n r heads.bindings l (p, good.1, (good.2, fits))

  list_strict : (l : Elements) → AreElements text f.Bindings (without_in c) l → Made Lists make_bindings l × (list_bound l ≡ true)
  list_strict l h =
      let m = declared.of_elements text (without_in c) n r heads.bindings l h in
      let p = m.0 in
      let same = out-roll-Elements (record { first = el.Value p.0; rest = p.1 }) in
      ((p, m.1, m.2.0), ap list_bound m.1 ∙ ap (λ o. is_bound o.first && all_bound o.rest) same ∙ m.2.1)

  list_in : (p : Token × Elements) → (out-Declaration (make_declaration p)).bindings ≡ p.1
  list_in p = ap (λ o. o.bindings) (out-roll-Declaration (record { word = p.0; bindings = p.1 }))

  variable_word : (kind : Kind) → is_variable kind ≡ true → (kind ≡ k.Var) ⊎ (is_lexical kind ≡ true)
  variable_word k.Var h = inl refl
  variable_word k.Let h = inr refl
  variable_word k.Const h = inr refl
  variable_word _ h = cc

  var_variable : (kind : Kind) → kind ≡ k.Var → is_variable kind ≡ true
  var_variable kind e = ap is_variable e

  lexical_variable : (kind : Kind) → is_lexical kind ≡ true → is_variable kind ≡ true
  lexical_variable k.Let h = refl
  lexical_variable k.Const h = refl
  lexical_variable _ h = cc

  declared_start : (word : Token) (l : Elements) → is_variable word.kind ≡ true → AreElements text f.Bindings (without_in c) l → IsForStart text c (fs.StartDeclaration (make_declaration (word, l)))
  declared_start word l h good = by_word (variable_word word.kind h)
    where
      by_word : (word.kind ≡ k.Var) ⊎ (is_lexical word.kind ≡ true) → IsForStart text c (fs.StartDeclaration (make_declaration (word, l)))
      by_word (inl e) = start_declaration (variable_bindings word l e good)
      by_word (inr e) = start_declaration (lexical_bindings word l e good)

  start_of : (a : ForStart) → heads_read.IsStart text c n r heads a → is_classic a ≡ true → IsForStart text c a
  start_of a (inl e) h = subst (IsForStart text c) (sym e) no_start
  start_of a (inr (inl good)) h =
      let p = good.2.0 in
      let bound : list_bound p.1 ≡ true = ap list_bound (sym (ap (λ d. (out-Declaration d).bindings) good.2.1 ∙ list_in p)) ∙ sym (ap is_classic good.1 ∙ classic_declaration good.0) ∙ h in
      subst (IsForStart text c) (sym (good.1 ∙ ap fs.StartDeclaration good.2.1)) (declared_start p.0 p.1 good.2.2.0 (strict_list p.1 good.2.2.1 bound))
  start_of a (inr (inr good)) h = subst (IsForStart text c) (sym good.1) (start_expression good.2.1 good.2.0)

  of_declaration_start : (f : Bool) (d : Declaration) → IsDeclaration text f (without_in c) d → heads_read.IsDeclared text c n r heads d × (is_classic (fs.StartDeclaration d) ≡ true)
  of_declaration_start f d (variable_bindings word l e h) =
      let m = list_strict l h in
      (((word, l), refl, (var_variable word.kind e, m.0)), classic_declaration (make_declaration (word, l)) ∙ ap list_bound (list_in (word, l)) ∙ m.1)
  of_declaration_start f d (lexical_bindings word l e h) =
      let m = list_strict l h in
      (((word, l), refl, (lexical_variable word.kind e, m.0)), classic_declaration (make_declaration (word, l)) ∙ ap list_bound (list_in (word, l)) ∙ m.1)

  of_start : (a : ForStart) → IsForStart text c a → heads_read.IsStart text c n r heads a × (is_classic a ≡ true)
  of_start a no_start = (inl refl, classic_nothing)
  of_start a (start_expression {x = v} h1 h2) = (inr (inr (v, refl, (h2, h1))), classic_expression v)
  of_start a (start_declaration {is_lexical_declaration = f} {declaration = d} h) = let m = of_declaration_start f d h in (inr (inl (d, refl, m.0)), m.1)

  -- before `in` and `of`
  one_in : (p : Expression × List NextElement) → Lists.Good p → one_target (make_bindings p) ≡ true → (make_bindings p ≡ make_bindings (p.0, [])) × IsTarget text (without_in c) p.0
  one_in p good h =
      let t = heads_read.loose_target text c n r heads p good h in
      (ap (λ os. make_bindings (p.0, os)) (empty_is p.1 t.0), t.1)
    where
      empty_is : (os : List NextElement) → is_empty os ≡ true → os ≡ []
      empty_is [] h = refl
      empty_is (o ∷ os) h = cc

  target_start : (begins : List Token → Bool) (a : ForStart) → heads_read.IsStart text c n r heads a → is_each a ≡ true → ((x : Expression) → a ≡ fs.StartExpression x → begins_let_bracket (tokens_of_expression written x) ≡ false → begins (tokens_of_expression written x) ≡ false) → IsForTarget text begins c a
  target_start begins a (inl e) h allowed = let bad : false ≡ true = sym (ap is_each e ∙ each_nothing) ∙ h in cc
  target_start begins a (inr (inl good)) h allowed =
      let p = good.2.0 in
      let list = good.2.2.1 in
      let single : one_target p.1 ≡ true = ap one_target (sym (ap (λ d. (out-Declaration d).bindings) good.2.1 ∙ list_in p)) ∙ sym (ap is_each good.1 ∙ each_declaration good.0) ∙ h in
      let one = one_in list.0 list.2 (ap one_target (sym list.1) ∙ single) in
      let same : good.0 ≡ make_declaration (p.0, make_bindings (list.0.0, [])) = good.2.1 ∙ ap (λ l. make_declaration (p.0, l)) (list.1 ∙ one.0) in
      subst (IsForTarget text begins c) (sym (good.1 ∙ ap fs.StartDeclaration same)) (for_binding p.0 list.0.0 good.2.2.0 (target_with text c list.0.0 one.1))
  target_start begins a (inr (inr good)) h allowed =
      let left = left_of text (without_in c) good.0 good.2.0 (sym (ap is_each good.1 ∙ each_expression good.0) ∙ h) in
      subst (IsForTarget text begins c) (sym good.1) (for_expression (allowed good.0 good.1 good.2.1) (left_with text c good.0 left))

  bracket_of_let : (ts : List Token) → begins_let ts ≡ false → begins_let_bracket ts ≡ false
  bracket_of_let [] h = refl
  bracket_of_let (t ∷ ts) h = ap (λ b. b && begins_bracket ts) h

  -- the test of what begins an expression before `in` and `of` forbids `let [` at least
  of_target : (begins : List Token → Bool) → ((ts : List Token) → begins ts ≡ false → begins_let_bracket ts ≡ false) → (a : ForStart) → IsForTarget text begins c a → heads_read.IsStart text c n r heads a × (is_each a ≡ true)
  of_target begins less a (for_expression {x = v} h1 h2) =
      let left = left_without text c v h2 in
      (inr (inr (v, refl, (expression_of_left text (without_in c) v left, less _ h1))), each_expression v ∙ left_is text (without_in c) v left)
  of_target begins less a (for_binding word v h1 h2) =
      let l : Elements = make_bindings (v, []) in
      let target = target_without text c v h2 in
      let out = out-roll-Elements (record { first = el.Value v; rest = [] }) in
      let single : one_target l ≡ true = ap (λ o. is_empty o.rest && valueless (value_layer (out-Element o.first))) out ∙ ap valueless (declared.out_value v) ∙ target_valueless text (without_in c) v target in
      (inr (inl (make_declaration (word, l), refl, ((word, l), refl, (h1, ((v, []), refl, (inl target, tt)))))), each_declaration (make_declaration (word, l)) ∙ ap one_target (list_in (word, l)) ∙ single)

  of_let : (a : ForStart) → IsForTarget text begins_let c a → is_of_each a ≡ true
  of_let a (for_expression {x = v} h1 h2) = of_expression v ∙ and_of _ _ (left_is text c v h2) (ap not h1)
  of_let a (for_binding word v h1 h2) = of_declaration (make_declaration (word, make_bindings (v, []))) (of_target begins_let bracket_of_let (fs.StartDeclaration (make_declaration (word, make_bindings (v, [])))) (for_binding word v h1 h2)).1

  let_allowed : (a : ForStart) (x : Expression) → a ≡ fs.StartExpression x → is_of_each a ≡ true → begins_let (tokens_of_expression written x) ≡ false
  let_allowed a x e h = of_not _ (second_of (is_left x) _ (sym (ap is_of_each e ∙ of_expression x) ∙ h))

  plain_of : (w b : Token) (a : ForStart) (q : Rest) → w.kind ≡ k.For → b.kind ≡ k.LeftParenthesis → heads_read.IsStart text c n r heads a → IsRest a q → IsStatement text c (make_for (w, (b, (a, q))))
  plain_of w b a q h1 h2 start (true, good) =
      let p = good.0.0 in
      let g = good.0.2 in
      subst (λ z. IsStatement text c (make_for (w, (b, (a, z))))) (sym good.0.1)
      (for h1 h2 (start_of a start good.1) g.0 (maybe_of p.1.0 g.1.0) g.1.1.0 (maybe_of p.1.1.1.0 g.1.1.1.0) g.1.1.1.1.0 g.1.1.1.1.1)
  plain_of w b a q h1 h2 start (false, (true, good)) =
      let g = good.0.2 in
      subst (λ z. IsStatement text c (make_for (w, (b, (a, z))))) (sym good.0.1)
      (for_in h1 h2 (target_start begins_let_bracket a start good.1 (λ x e no. no)) g.0 g.1.0 g.1.1.0 g.1.1.1)
  plain_of w b a q h1 h2 start (false, (false, good)) =
      let g = good.0.2 in
      subst (λ z. IsStatement text c (make_for (w, (b, (a, z))))) (sym good.0.1)
      (for_of h1 refl h2 (target_start begins_let a start (of_is_each a good.1) (λ x e no. let_allowed a x e good.1)) g.0 g.1.0 g.1.1.0 g.1.1.1)

  loop_of : (y : Statement) → (b : Bool) × Loops b y → IsStatement text c y
  loop_of y (true, h) =
      let p = h.0 in
      let g = h.2 in
      subst (IsStatement text c) (sym h.1)
      (for_of g.0 g.1.0 g.1.1.0 (target_start begins_let p.1.1.1.0 g.1.1.1.0 (of_is_each p.1.1.1.0 g.1.1.1.1.1) (λ x e no. let_allowed p.1.1.1.0 x e g.1.1.1.1.1)) g.1.1.1.1.0.0 g.1.1.1.1.0.1.0 g.1.1.1.1.0.1.1.0 g.1.1.1.1.0.1.1.1)
  loop_of y (false, h) = let p = h.0 in subst (IsStatement text c) (sym h.1) (plain_of p.0 p.1.0 p.1.1.0 p.1.1.1 h.2.0 h.2.1.0 h.2.1.1.0 h.2.1.1.1)

  loop_is : (y : Statement) → (b : Bool) × Loops b y → is_loop y ≡ true
  loop_is y (true, h) = ap is_loop h.1 ∙ each_is_loop h.0.0 (Some h.0.1.0) h.0.1.1.0 h.0.1.1.1.0 h.0.1.1.1.1.0 h.0.1.1.1.1.1.0 h.0.1.1.1.1.1.1.0 h.0.1.1.1.1.1.1.1
  loop_is y (false, h) = ap is_loop h.1 ∙ plain_is h.0
    where
      plain_is : (p : Token × (Token × (ForStart × Rest))) → is_loop (make_for p) ≡ true
      plain_is (w, (b, (a, in_semicolons q))) = for_is_loop w b a q.0 q.1.0 q.1.1.0 q.1.1.1.0 q.1.1.1.1.0 q.1.1.1.1.1
      plain_is (w, (b, (a, over_each q))) = each_is_loop w None b a q.0 q.1.0 q.1.1.0 q.1.1.1

  of_loop : (y : Statement) → IsStatement text c y → is_loop y ≡ true → (b : Bool) × Loops b y
  unfolding is_loop out-Statement denote.Hole.Carrier.out
  of_loop y (for {word = w} {begin = q} {start = a} {first = s1} {test = v} {second = s2} {step = u} {ending = t} {body = b} h1 h2 h3 h4 h5 h6 h7 h8 h9) is =
      let m = of_start a h3 in
      (false, ((w, (q, (a, in_semicolons (s1, (v, (s2, (u, (t, b)))))))), refl, (h1, (h2, (m.0, (true, (((s1, (v, (s2, (u, (t, b))))), refl, (h4, (of_maybe v h5, (h6, (of_maybe u h7, (h8, h9)))))), m.1)))))))
  of_loop y (for_in {word = w} {begin = q} {start = a} {middle = i} {x = v} {ending = t} {body = b} h1 h2 h3 h4 h5 h6 h7) is =
      let m = of_target begins_let_bracket (λ ts h. h) a h3 in
      (false, ((w, (q, (a, over_each (i, (v, (t, b)))))), refl, (h1, (h2, (m.0, (false, (true, (((i, (v, (t, b))), refl, (h4, (h5, (h6, h7)))), m.1))))))))
  of_loop y (for_of {word = w} {await_word = None} {begin = q} {start = a} {middle = i} {x = v} {ending = t} {body = b} h1 h2 h3 h4 h5 h6 h7 h8) is =
      let m = of_target begins_let bracket_of_let a h4 in
      (false, ((w, (q, (a, over_each (i, (v, (t, b)))))), refl, (h1, (h3, (m.0, (false, (false, (((i, (v, (t, b))), refl, (h5, (h6, (h7, h8)))), of_let a h4))))))))
  of_loop y (for_of {word = w} {await_word = Some u} {begin = q} {start = a} {middle = i} {x = v} {ending = t} {body = b} h1 h2 h3 h4 h5 h6 h7 h8) is =
      let m = of_target begins_let bracket_of_let a h4 in
      (true, ((w, (u, (q, (a, (i, (v, (t, b))))))), refl, (h1, (h2, (h3, (m.0, ((h5, (h6, (h7, h8))), of_let a h4)))))))
  of_loop y (block_statement h1) is = cc
  of_loop y (variable_statement h1 h2) is = cc
  of_loop y (empty_statement h1) is = cc
  of_loop y (expression_statement h1 h2 h3) is = cc
  of_loop y (if_statement clause others last h1 h2 h3) is = cc
  of_loop y (do_while h1 h2 h3 h4 h5 h6 h7) is = cc
  of_loop y (while h1 h2 h3 h4 h5) is = cc
  of_loop y (continue_statement h1 h2 h3 h4) is = cc
  of_loop y (break_statement h1 h2 h3 h4) is = cc
  of_loop y (return_alone h1 h2) is = cc
  of_loop y (return_value h1 h2 h3 h4) is = cc
  of_loop y (switch_statement word begin v ending left cases right h1 h2 h3 h4 h5 h6 h7) is = cc
  of_loop y (labelled h1 h2 h3) is = cc
  of_loop y (throw h1 h2 h3 h4) is = cc
  of_loop y (try_catch h1 h2 h3 h4) is = cc
  of_loop y (try_finally h1 h2 h3 h4) is = cc
  of_loop y (debugger h1 h2) is = cc

  pub for_rule : Rule text (statements (IsLoop text c)) n (suc n) statement_stops (read.for_statement text c n r)
  for_rule =
      same_rule text (statements (λ y. (b : Bool) × Loops b y)) (statements (IsLoop text c)) n (suc n) statement_stops statement_stops (read.for_statement text c n r) loops_rule
      refl refl (λ y h. (loop_of y h, loop_is y h)) (λ y h. of_loop y h.0 h.1) (λ y t good h. h)
