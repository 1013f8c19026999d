-- How a `for` goes on behind its first part is read exactly.
use Rattle.std.proofs.Common.{◌≡◌, inl, inr, ℕ, ◌<◌, Bool, true, false, List, refl, ap, ◌∙◌, subst}
use Rattle.esb_token.specs.declared.kind.Kind.{Kind}
use Rattle.esb_token.specs.declared.kind.Kind.TheVariants as k
use Rattle.esb_token.specs.declared.token.Token.{Token}
use Rattle.esb_token.specs.declared.goal.Goal.TheVariants as goal
use Rattle.esb_token.specs.Goals.{is_division}
use Rattle.esb_token.specs.Tokens.{SpelledBetween}
use Rattle.esb_tree.specs.declared.expressions.Expression.{Expression}
use Rattle.esb_tree.specs.declared.statements.ForStart.{ForStart}
use Rattle.esb_tree.specs.declared.statements.MaybeExpression.{MaybeExpression}
use Rattle.esb_tree.specs.declared.statements.MaybeExpression.TheVariants as me
use Rattle.esb_tree.specs.declared.statements.Statement.{Statement}
use Rattle.esb_tree.specs.Levels.{depth_of_maybe_expression}
use Rattle.esb_tree.specs.Trees.{written}
use Rattle.esb_tree.specs.Yields.{tokens_of_maybe_expression}
use Rattle.esb_tree.proofs.TokenLines.{tokens_Absent, tokens_Present}
use Rattle.esb_tree.proofs.LevelLines.{levels_Absent, levels_Present}
use Rattle.esb_grammar.specs.declared.context.Context.{Context}
use Rattle.esb_grammar.specs.Contexts.{inside}
use Rattle.esb_grammar.specs.Grammar.{IsExpression, IsAssignment, IsStatement}
use Rattle.esb_grammar.specs.Kinds.{is_semicolon}
use Rattle.esb_grammar.specs.Words.{is_word}
use Rattle.esb_reader.specs.declared.node.Node.{Node}
use Rattle.esb_reader.specs.Kinds.{agrees}
use Rattle.esb_reader.specs.Places.{Text}
use Rattle.esb_reader.specs.Reader.{Reader, choose}
use Rattle.esb_reader.specs.Parts.{behind, both, token, token_in, made, empty}
use Rattle.esb_reader.specs.Stands.{Syntax, Rule, Made, pairs, tokens, tokens_in, which}
use Rattle.esb_reading_laws.proofs.Composed.{token_in_rule, both_rule, plain_rule, empty_rule, same_rule}
use Rattle.esb_statement_laws.specs.Sequels.{RuleAt}
use Rattle.esb_statement_laws.specs.Marks.{begins_expression, ends_expression, is_in, is_of, statement_stops}
use Rattle.esb_statement_laws.specs.Handed.{Handed, expressions, statements, ReadsExpressions, ReadsStatements}
use Rattle.esb_statement_laws.specs.Loops as read
use Rattle.esb_statement_laws.specs.Loops.{Classic, Each, Rest, in_semicolons, over_each, is_classic, is_each, is_of_each, if_holds}
use Rattle.esb_statement_laws.proofs.Followed.{rule_at, sorted_rule, at_place_rule, leading, between, sees}
use Rattle.esb_statement_laws.proofs.Shown.{Shown}
use Rattle.esb_statement_laws.proofs.Ended.{value_seen}
use Rattle.esb_statement_laws.proofs.Small.{first_of, name_kind}

pub of_name : (text : Text) (t : Token) → is_of text t ≡ true → t.kind ≡ k.Name
unfolding is_word
of_name text t h = name_kind t.kind (first_of _ _ h)

pub of_agrees : (text : Text) (t : Token) → is_of text t ≡ true → agrees goal.Div t.kind ≡ true
of_agrees text t h = ap (agrees goal.Div) (of_name text t h)

begins_no_end : (kind : Kind) → begins_expression kind ≡ true → ends_expression kind ≡ false
begins_no_end k.RightParenthesis h = cc
begins_no_end k.RightBracket h = cc
begins_no_end k.RightBrace h = cc
begins_no_end k.Semicolon h = cc
begins_no_end k.Colon h = cc
begins_no_end k.End h = cc
begins_no_end _ h = refl

division_no_end : (kind : Kind) → is_division kind ≡ true → ends_expression kind ≡ false
division_no_end k.Slash h = refl
division_no_end k.SlashAssign h = refl
division_no_end _ h = cc

pub no_end_shown : (text : Text) (i : ℕ) (t : Token) → Shown text i t → begins_expression t.kind ≡ true → ends_expression (behind text i).kind ≡ false
no_end_shown text i t (inl e) h = ap (λ (u : Token). ends_expression u.kind) e ∙ begins_no_end t.kind h
no_end_shown text i t (inr s) h = division_no_end _ s.1

-- a part where a test of what stands before it holds
pub holds_rule : {A : Type 0} (text : Text) (S : Syntax A) (n top : ℕ) (stops : A → Token → Bool) (b : Bool) (p : Reader (Node A)) → Rule text S n top stops p → Rule text (which S (λ x. S.Good x × (b ≡ true))) n top stops (if_holds b p)
holds_rule text S n top stops b p rule = at_place_rule text S (λ x. b ≡ true) n top stops (λ i. b) p rule (λ x i j good h e. e) (λ x i j good h e. e)

module _ (text : Text) (c : Context) (n : ℕ) (r : Handed) (values : ReadsExpressions text (IsExpression text (inside c)) n (r.expression true (inside c))) (assigned : ReadsExpressions text (IsAssignment text (inside c)) n (r.expression false (inside c)))
    (bodies : ReadsStatements text (IsStatement text c) n (r.statement c)) where
  abbrev pub Values : Syntax Expression
  Values = expressions (IsExpression text (inside c))

  abbrev pub Assigned : Syntax Expression
  Assigned = expressions (IsAssignment text (inside c))

  abbrev pub Inner : Syntax Statement
  Inner = statements (IsStatement text c)

  -- ---- an expression that may be absent

  abbrev pub maybes : (MaybeExpression → Type 0) → Syntax MaybeExpression
  maybes Good = record { yields = tokens_of_maybe_expression written; levels_of = depth_of_maybe_expression; Good = Good }

  abbrev maybe_ends : MaybeExpression → Token → Bool
  maybe_ends x t = ends_expression t.kind

  abbrev pub Maybe : Bool → MaybeExpression → Type 0
  Maybe true x = x ≡ me.Absent
  Maybe false x = Made Values me.Present x

  absent_rule : Rule text (maybes (λ x. x ≡ me.Absent)) n n maybe_ends (empty me.Absent)
  absent_rule = empty_rule text (tokens_of_maybe_expression written) depth_of_maybe_expression n n maybe_ends me.Absent (tokens_Absent written) levels_Absent

  ends_values : Rule text Values n n (λ _ t. ends_expression t.kind) (r.expression true (inside c))
  ends_values = same_rule text Values Values n n values.stops (λ _ t. ends_expression t.kind) (r.expression true (inside c)) values.rule refl refl (λ x h. h) (λ x h. h) (λ x t good h. values.ends x t good h)

  present_rule : Rule text (maybes (Made Values me.Present)) n n maybe_ends (made me.Present 0 (r.expression true (inside c)))
  present_rule = plain_rule text Values (tokens_of_maybe_expression written) depth_of_maybe_expression n n (λ _ t. ends_expression t.kind) maybe_ends me.Present (r.expression true (inside c)) ends_values (λ x. tokens_Present written x) levels_Present (λ x t h. h)

  maybe_at : (b : Bool) (i : ℕ) → ends_expression (behind text i).kind ≡ b → RuleAt text (maybes (Maybe b)) n n maybe_ends (choose b (empty me.Absent) (made me.Present 0 (r.expression true (inside c)))) i
  maybe_at true i seen = rule_at text (maybes (λ x. x ≡ me.Absent)) n n maybe_ends (empty me.Absent) i absent_rule
  maybe_at false i seen = rule_at text (maybes (Made Values me.Present)) n n maybe_ends (made me.Present 0 (r.expression true (inside c))) i present_rule

  maybe_seen : (b : Bool) (x : MaybeExpression) (i j : ℕ) → Maybe b x → SpelledBetween text i (tokens_of_maybe_expression written x) j → depth_of_maybe_expression x < n → ends_expression (behind text j).kind ≡ true → ends_expression (behind text i).kind ≡ b
  maybe_seen true x i j e h low stop =
      let here : i ≡ j = subst (λ ts. SpelledBetween text i ts j) (ap (tokens_of_maybe_expression written) e ∙ tokens_Absent written) h in
      ap (λ m. ends_expression (behind text m).kind) here ∙ stop
  maybe_seen false x i j good h low stop =
      let spelled = subst (λ ts. SpelledBetween text i ts j) (ap (tokens_of_maybe_expression written) good.1 ∙ tokens_Present written good.0) h in
      let b = values.begins good.0 good.2 in
      no_end_shown text i b.first (value_seen text (IsExpression text (inside c)) n (r.expression true (inside c)) values good.0 i j good.2 spelled) b.kind

  abbrev pub IsMaybe : MaybeExpression → Type 0
  IsMaybe x = (b : Bool) × Maybe b x

  abbrev pub Maybes : Syntax MaybeExpression
  Maybes = maybes IsMaybe

  maybe_rule : Rule text Maybes n n maybe_ends (read.maybe_value text c n r)
  unfolding read.maybe_value
  maybe_rule = sorted_rule text (maybes (λ x. x ≡ me.Absent)) Maybe n n maybe_ends (λ i. ends_expression (behind text i).kind) (λ b. choose b (empty me.Absent) (made me.Present 0 (r.expression true (inside c)))) maybe_at maybe_seen

  -- ---- with semicolons

  abbrev pub Closing : Syntax (Token × Statement)
  Closing = pairs (tokens k.RightParenthesis) Inner

  abbrev pub Classics : Syntax Classic
  Classics = pairs (tokens k.Semicolon) (pairs Maybes (pairs (tokens k.Semicolon) (pairs Maybes Closing)))

  abbrev pub classic_stops : Classic → Token → Bool
  classic_stops q t = statement_stops q.1.1.1.1.1 t

  classic_rule : Rule text Classics n n classic_stops (read.classic text c n r)
  unfolding read.classic
  classic_rule =
      leading text (pairs Maybes (pairs (tokens k.Semicolon) (pairs Maybes Closing))) n n k.Semicolon (λ q. statement_stops q.1.1.1.1) (both (read.maybe_value text c n r) (both (token text k.Semicolon) (both (read.maybe_value text c n r) (read.closing_body text c n r)))) refl
      (between text Maybes (pairs Maybes Closing) n n k.Semicolon maybe_ends (λ q. statement_stops q.1.1) (read.maybe_value text c n r) (both (read.maybe_value text c n r) (read.closing_body text c n r)) refl maybe_rule
      (between text Maybes Inner n n k.RightParenthesis maybe_ends statement_stops (read.maybe_value text c n r) (r.statement c) refl maybe_rule bodies.rule (λ x t good e. ap ends_expression e))
      (λ x t good e. ap ends_expression e))

  -- ---- over each

  abbrev pub Ins : Syntax Each
  Ins = pairs (tokens k.In) (pairs Values Closing)

  abbrev pub Ofs : Syntax Each
  Ofs = pairs (tokens_in (is_of text)) (pairs Assigned Closing)

  abbrev pub each_stops : Each → Token → Bool
  each_stops q t = statement_stops q.1.1.1 t

  in_rule : Rule text Ins n n each_stops (read.each_in text c n r)
  unfolding read.each_in
  in_rule =
      leading text (pairs Values Closing) n n k.In (λ q. statement_stops q.1.1) (both (r.expression true (inside c)) (read.closing_body text c n r)) refl
      (between text Values Inner n n k.RightParenthesis values.stops statement_stops (r.expression true (inside c)) (r.statement c) refl values.rule bodies.rule (λ x t good e. values.ends x t good (ap ends_expression e)))

  pub of_rule : Rule text Ofs n n each_stops (read.each_of text c n r)
  unfolding read.each_of
  of_rule =
      both_rule text (tokens_in (is_of text)) (pairs Assigned Closing) n n (λ _ _. true) (λ q. statement_stops q.1.1) each_stops (token_in text goal.Div (is_of text)) (both (r.expression false (inside c)) (read.closing_body text c n r))
      (token_in_rule text n n goal.Div (is_of text) (of_agrees text))
      (between text Assigned Inner n n k.RightParenthesis assigned.stops statement_stops (r.expression false (inside c)) (r.statement c) refl assigned.rule bodies.rule (λ x t good e. assigned.ends x t good (ap ends_expression e)))
      (λ a b t h. h) (λ a b m j ga gb h stop. refl)

  -- ---- either

  abbrev pub rest_yields : Rest → List Token
  rest_yields (in_semicolons q) = Classics.yields q
  rest_yields (over_each q) = Ins.yields q

  abbrev pub rest_levels : Rest → ℕ
  rest_levels (in_semicolons q) = Classics.levels_of q
  rest_levels (over_each q) = Ins.levels_of q

  abbrev pub rest_stops : Rest → Token → Bool
  rest_stops (in_semicolons q) t = classic_stops q t
  rest_stops (over_each q) t = each_stops q t

  abbrev pub rests : (Rest → Type 0) → Syntax Rest
  rests Good = record { yields = rest_yields; levels_of = rest_levels; Good = Good }

  abbrev pub IsClassicRest : ForStart → Rest → Type 0
  IsClassicRest x q = Made Classics in_semicolons q × (is_classic x ≡ true)

  abbrev pub IsInRest : ForStart → Rest → Type 0
  IsInRest x q = Made Ins over_each q × (is_each x ≡ true)

  abbrev pub IsOfRest : ForStart → Rest → Type 0
  IsOfRest x q = Made Ofs over_each q × (is_of_each x ≡ true)

  classic_rest : (x : ForStart) → Rule text (rests (IsClassicRest x)) n n rest_stops (if_holds (is_classic x) (made in_semicolons 0 (read.classic text c n r)))
  classic_rest x =
      holds_rule text (rests (Made Classics in_semicolons)) n n rest_stops (is_classic x) (made in_semicolons 0 (read.classic text c n r))
      (plain_rule text Classics rest_yields rest_levels n n classic_stops rest_stops in_semicolons (read.classic text c n r) classic_rule (λ q. refl) (λ q. refl) (λ q t h. h))

  in_rest : (x : ForStart) → Rule text (rests (IsInRest x)) n n rest_stops (if_holds (is_each x) (made over_each 0 (read.each_in text c n r)))
  in_rest x =
      holds_rule text (rests (Made Ins over_each)) n n rest_stops (is_each x) (made over_each 0 (read.each_in text c n r))
      (plain_rule text Ins rest_yields rest_levels n n each_stops rest_stops over_each (read.each_in text c n r) in_rule (λ q. refl) (λ q. refl) (λ q t h. h))

  of_rest : (x : ForStart) → Rule text (rests (IsOfRest x)) n n rest_stops (if_holds (is_of_each x) (made over_each 0 (read.each_of text c n r)))
  of_rest x =
      holds_rule text (rests (Made Ofs over_each)) n n rest_stops (is_of_each x) (made over_each 0 (read.each_of text c n r))
      (plain_rule text Ofs rest_yields rest_levels n n each_stops rest_stops over_each (read.each_of text c n r) of_rule (λ q. refl) (λ q. refl) (λ q t h. h))

  abbrev pub EachRest : ForStart → Bool → Rest → Type 0
  EachRest x true q = IsInRest x q
  EachRest x false q = IsOfRest x q

  abbrev pub IsEachRest : ForStart → Rest → Type 0
  IsEachRest x q = (b : Bool) × EachRest x b q

  each_at : (x : ForStart) (b : Bool) (i : ℕ) → is_in (behind text i).kind ≡ b → RuleAt text (rests (EachRest x b)) n n rest_stops (choose b (if_holds (is_each x) (made over_each 0 (read.each_in text c n r))) (if_holds (is_of_each x) (made over_each 0 (read.each_of text c n r)))) i
  each_at x true i seen = rule_at text (rests (IsInRest x)) n n rest_stops (if_holds (is_each x) (made over_each 0 (read.each_in text c n r))) i (in_rest x)
  each_at x false i seen = rule_at text (rests (IsOfRest x)) n n rest_stops (if_holds (is_of_each x) (made over_each 0 (read.each_of text c n r))) i (of_rest x)

  -- the word before the expression
  pub in_seen : (q : Rest) (i j : ℕ) (good : Made Ins over_each q) → SpelledBetween text i (rest_yields q) j → (behind text i).kind ≡ k.In
  in_seen q i j good h =
      let p = good.0 in
      let spelled = subst (λ z. SpelledBetween text i (rest_yields z) j) good.1 h in
      ap (λ (u : Token). u.kind) (sees text i p.0 ((pairs Values Closing).yields p.1) j spelled (ap (agrees goal.Div) good.2.0)) ∙ good.2.0

  pub of_seen : (q : Rest) (i j : ℕ) (good : Made Ofs over_each q) → SpelledBetween text i (rest_yields q) j → behind text i ≡ good.0.0
  of_seen q i j good h =
      let p = good.0 in
      sees text i p.0 ((pairs Assigned Closing).yields p.1) j (subst (λ z. SpelledBetween text i (rest_yields z) j) good.1 h) (of_agrees text p.0 good.2.0)

  pub classic_seen : (q : Rest) (i j : ℕ) (good : Made Classics in_semicolons q) → SpelledBetween text i (rest_yields q) j → (behind text i).kind ≡ k.Semicolon
  classic_seen q i j good h =
      let p = good.0 in
      let spelled = subst (λ z. SpelledBetween text i (rest_yields z) j) good.1 h in
      ap (λ (u : Token). u.kind) (sees text i p.0 ((pairs Maybes (pairs (tokens k.Semicolon) (pairs Maybes Closing))).yields p.1) j spelled (ap (agrees goal.Div) good.2.0)) ∙ good.2.0

  of_kind : (q : Rest) (i j : ℕ) (good : Made Ofs over_each q) → SpelledBetween text i (rest_yields q) j → (behind text i).kind ≡ k.Name
  of_kind q i j good h = ap (λ (u : Token). u.kind) (of_seen q i j good h) ∙ of_name text good.0.0 good.2.0

  which_each : (x : ForStart) (b : Bool) (q : Rest) (i j : ℕ) → EachRest x b q → SpelledBetween text i (rest_yields q) j → rest_levels q < n → rest_stops q (behind text j) ≡ true → is_in (behind text i).kind ≡ b
  which_each x true q i j good h low stop = ap is_in (in_seen q i j good.0 h)
  which_each x false q i j good h low stop = ap is_in (of_kind q i j good.0 h)

  each_rule : (x : ForStart) → Rule text (rests (IsEachRest x)) n n rest_stops (read.each_rest text c n r x)
  each_rule x = sorted_rule text (rests (IsInRest x)) (EachRest x) n n rest_stops (λ i. is_in (behind text i).kind) (λ b. choose b (if_holds (is_each x) (made over_each 0 (read.each_in text c n r))) (if_holds (is_of_each x) (made over_each 0 (read.each_of text c n r)))) (each_at x) (which_each x)

  abbrev pub AnyRest : ForStart → Bool → Rest → Type 0
  AnyRest x true q = IsClassicRest x q
  AnyRest x false q = IsEachRest x q

  abbrev pub IsRest : ForStart → Rest → Type 0
  IsRest x q = (b : Bool) × AnyRest x b q

  rest_at : (x : ForStart) (b : Bool) (i : ℕ) → is_semicolon (behind text i).kind ≡ b → RuleAt text (rests (AnyRest x b)) n n rest_stops (choose b (if_holds (is_classic x) (made in_semicolons 0 (read.classic text c n r))) (read.each_rest text c n r x)) i
  rest_at x true i seen = rule_at text (rests (IsClassicRest x)) n n rest_stops (if_holds (is_classic x) (made in_semicolons 0 (read.classic text c n r))) i (classic_rest x)
  rest_at x false i seen = rule_at text (rests (IsEachRest x)) n n rest_stops (read.each_rest text c n r x) i (each_rule x)

  which_rest : (x : ForStart) (b : Bool) (q : Rest) (i j : ℕ) → AnyRest x b q → SpelledBetween text i (rest_yields q) j → rest_levels q < n → rest_stops q (behind text j) ≡ true → is_semicolon (behind text i).kind ≡ b
  which_rest x true q i j good h low stop = ap is_semicolon (classic_seen q i j good.0 h)
  which_rest x false q i j (true, good) h low stop = ap is_semicolon (in_seen q i j good.0 h)
  which_rest x false q i j (false, good) h low stop = ap is_semicolon (of_kind q i j good.0 h)

  pub rest_rule : (x : ForStart) → Rule text (rests (IsRest x)) n n rest_stops (read.loop_rest text c n r x)
  unfolding read.loop_rest
  rest_rule x = sorted_rule text (rests (IsClassicRest x)) (AnyRest x) n n rest_stops (λ i. is_semicolon (behind text i).kind) (λ b. choose b (if_holds (is_classic x) (made in_semicolons 0 (read.classic text c n r))) (read.each_rest text c n r x)) (rest_at x) (which_rest x)
