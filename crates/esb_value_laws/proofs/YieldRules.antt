-- `yield` is read exactly.
use Rattle.std.proofs.Common.{◌≡◌, ◌⊎◌, inl, inr, ℕ, suc, ◌+◌, max, Bool, true, false, not, ◌&&◌, ◌||◌, [], refl, ap, sym, ◌∙◌, subst, arith}
use Rattle.esb_token.specs.declared.kind.Kind.{Kind}
use Rattle.esb_token.specs.declared.kind.Kind.TheVariants as k
use Rattle.esb_token.specs.declared.token.Token.{Token}
use Rattle.esb_token.specs.declared.goal.Goal.TheVariants as goal
use Rattle.esb_token.specs.Tokens.{SpelledBetween}
use Rattle.esb_tree.specs.declared.expressions.Expression.{Expression}
use Rattle.esb_tree.specs.declared.expressions.Expression.TheVariants as e
use Rattle.esb_tree.specs.Levels.{depth_of_expression}
use Rattle.esb_tree.specs.Trees.{written}
use Rattle.esb_tree.specs.Yields.{tokens_of_expression}
use Rattle.esb_tree.proofs.TokenLines.{tokens_Yield, tokens_YieldValue, tokens_YieldEach}
use Rattle.esb_tree.proofs.LevelLines.{levels_Yield, levels_YieldValue, levels_YieldEach}
use Rattle.esb_grammar.specs.declared.context.Context.{Context}
use Rattle.esb_grammar.specs.Grammar.{IsAssignment}
use Rattle.esb_grammar.specs.Kinds.{is_star}
use Rattle.esb_grammar.specs.Edges.{ends_assignment}
use Rattle.esb_grammar.specs.Words.{on_line}
use Rattle.esb_grammar.proofs.EdgeLines.{ends_Yield, ends_YieldValue, ends_YieldEach}
use Rattle.esb_reader.specs.declared.node.Node.{Node}
use Rattle.esb_reader.specs.Kinds.{agrees}
use Rattle.esb_reader.specs.Places.{Text}
use Rattle.esb_reader.specs.Reader.{Reader}
use Rattle.esb_reader.specs.Parts.{behind, both, token_in}
use Rattle.esb_reader.specs.Stands.{Syntax, Stands, Rule, Made, tokens_in, pairs, which}
use Rattle.esb_reading_laws.proofs.Composed.{token_in_rule, both_rule, above_rule, same_rule}
use Rattle.esb_expression_laws.specs.Leaves.{expressions}
use Rattle.esb_operator_laws.specs.Postfix.{ends_postfix}
use Rattle.esb_operator_laws.proofs.PostfixLines.{postfix_YieldValue, postfix_YieldEach}
use Rattle.esb_operator_laws.proofs.TokenTests.{and_left, and_right, and_both, or_right, not_true}
use Rattle.esb_first_tokens.specs.First.{is_yield_in, begins_value, shows}
use Rattle.esb_first_tokens.proofs.Seen.{value_shows}
use Rattle.esb_assignment_laws.specs.Values.{anywhere, goes_on_line, ends_by, ends_value}
use Rattle.esb_literal_laws.specs.Forks.{guard, second, on_one_line}
use Rattle.esb_literal_laws.proofs.Forks.{fork_rule, guard_rule}
use Rattle.esb_value_laws.specs.Laws.{YieldRule}
use Rattle.esb_value_laws.specs.Yields.{IsYield, alone, of_value, of_each, is_yield, is_star_on_line, make_yield_value, make_yield_each, yield_alone, yield_value, yield_each, before_star, before_value, yielded}
use Rattle.esb_value_laws.proofs.Places.{ends_same, second_at, second_seen, line_seen}

-- ---- kinds

pub yield_is : (c : Context) (kind : Kind) → is_yield_in c kind ≡ true → (c.has_yield ≡ true) × (kind ≡ k.Yield)
yield_is c k.Yield h = (h, refl)
yield_is c _ h = cc

yield_agrees : (c : Context) (kind : Kind) → is_yield_in c kind ≡ true → agrees goal.Div kind ≡ true
yield_agrees c kind h = ap (agrees goal.Div) (yield_is c kind h).1

yield_in : (c : Context) (kind : Kind) → c.has_yield ≡ true → kind ≡ k.Yield → is_yield_in c kind ≡ true
yield_in c kind may h = ap (is_yield_in c) h ∙ may

star_is : (kind : Kind) → is_star kind ≡ true → kind ≡ k.Star
star_is k.Star h = refl
star_is _ h = cc

star_agrees : (t : Token) → is_star_on_line t ≡ true → agrees goal.Div t.kind ≡ true
star_agrees t h = ap (agrees goal.Div) (star_is t.kind (and_left _ _ h))

-- what is seen where a value stands in some context
anywhere_shows : (c : Context) (kind : Kind) → shows (begins_value c) kind ≡ true → shows (begins_value anywhere) kind ≡ true
anywhere_shows c k.Yield h = refl
anywhere_shows c k.Await h = refl
anywhere_shows c _ h = h

value_no_star : (c : Context) (kind : Kind) → shows (begins_value c) kind ≡ true → is_star kind ≡ false
value_no_star c k.Star h = cc
value_no_star c _ h = refl

and_not_left : (a b : Bool) → a ≡ false → (a && b) ≡ false
and_not_left false b h = refl
and_not_left true b h = cc

-- a `*` on its line goes on with a `yield`
star_goes_on : (a b s : Bool) → (not a && (s || b)) ≡ false → (s && not a) ≡ false
star_goes_on true b true h = refl
star_goes_on true b false h = refl
star_goes_on false b true h = cc
star_goes_on false b false h = refl

module _ (text : Text) (c : Context) (n : ℕ) (value : Reader (Node Expression)) (value_rule : Rule text (expressions (IsAssignment text c)) n n (ends_value c) value) where
  abbrev Any : Syntax Expression
  Any = expressions (λ x. Unit {0})

  abbrev Words : Syntax Token
  Words = tokens_in (is_yield c)

  -- ---- with `*`

  abbrev Each : Syntax (Token × (Token × Expression))
  Each = pairs Words (pairs (tokens_in is_star_on_line) (expressions (IsAssignment text c)))

  each_rule : Rule text (expressions (Made Each make_yield_each)) n (suc n) (ends_value c) (yield_each text c n value)
  unfolding yield_each
  each_rule =
      above_rule text Each (tokens_of_expression written) depth_of_expression n n (λ p. ends_value c p.1.1) (ends_value c) make_yield_each (both (token_in text goal.Div (is_yield c)) (both (token_in text goal.Div is_star_on_line) value))
      (both_rule text Words (pairs (tokens_in is_star_on_line) (expressions (IsAssignment text c))) n n (λ _ _. true) (λ p. ends_value c p.1) (λ p. ends_value c p.1.1) (token_in text goal.Div (is_yield c)) (both (token_in text goal.Div is_star_on_line) value)
      (token_in_rule text n n goal.Div (is_yield c) (λ t h. yield_agrees c t.kind h))
      (both_rule text (tokens_in is_star_on_line) (expressions (IsAssignment text c)) n n (λ _ _. true) (ends_value c) (λ p. ends_value c p.1) (token_in text goal.Div is_star_on_line) value
      (token_in_rule text n n goal.Div is_star_on_line star_agrees) value_rule (λ a b t h. h) (λ a b m j ga gb h stop. refl))
      (λ a b t h. h) (λ a b m j ga gb h stop. refl))
      (omega arith)
      (λ p. tokens_YieldEach written p.0 p.1.0 p.1.1)
      (λ p. levels_YieldEach p.0 p.1.0 p.1.1 ∙ (let e : depth_of_expression p.1.1 + 1 ≡ max 0 (max 0 (depth_of_expression p.1.1)) + 1 = omega arith in e))
      (λ p t h. ends_same c t (ends_YieldEach p.0 p.1.0 p.1.1) (postfix_YieldEach p.0 p.1.0 p.1.1) h)

  each_seen : (x : Expression) (i j : ℕ) → Made Each make_yield_each x → SpelledBetween text i (tokens_of_expression written x) j → before_star text i ≡ true
  each_seen x i j (p, is, (word, (star, good))) h =
      let spelled = subst (λ ts. SpelledBetween text i ts j) (ap (tokens_of_expression written) is ∙ tokens_YieldEach written p.0 p.1.0 p.1.1) h in
      ap is_star_on_line (second_seen text i p.0 p.1.0 (tokens_of_expression written p.1.1) j spelled (yield_agrees c p.0.kind word) (star_agrees p.1.0 star)) ∙ star

  -- ---- with a value on its line

  abbrev On_line : Syntax Expression
  On_line = expressions (λ x. IsAssignment text c x × (on_line (tokens_of_expression written x) ≡ true))

  abbrev One : Syntax (Token × Expression)
  One = pairs Words On_line

  one_rule : Rule text (expressions (Made One make_yield_value)) n (suc n) (ends_value c) (yield_value text c n value)
  unfolding yield_value
  one_rule =
      above_rule text One (tokens_of_expression written) depth_of_expression n n (λ p. ends_value c p.1) (ends_value c) make_yield_value (both (token_in text goal.Div (is_yield c)) (guard (on_one_line text) value))
      (both_rule text Words On_line n n (λ _ _. true) (ends_value c) (λ p. ends_value c p.1) (token_in text goal.Div (is_yield c)) (guard (on_one_line text) value)
      (token_in_rule text n n goal.Div (is_yield c) (λ t h. yield_agrees c t.kind h))
      (guard_rule text (expressions (IsAssignment text c)) n n (ends_value c) (on_one_line text) (λ x. on_line (tokens_of_expression written x)) value value_rule (λ x i j good h. line_seen text c x i j good h))
      (λ a b t h. h) (λ a b m j ga gb h stop. refl))
      (omega arith)
      (λ p. tokens_YieldValue written p.0 p.1)
      (λ p. levels_YieldValue p.0 p.1 ∙ (let e : depth_of_expression p.1 + 1 ≡ max 0 (depth_of_expression p.1) + 1 = omega arith in e))
      (λ p t h. ends_same c t (ends_YieldValue p.0 p.1) (postfix_YieldValue p.0 p.1) h)

  -- the kind that is seen behind the word, and the line
  one_second : (x : Expression) (i j : ℕ) → Made One make_yield_value x → SpelledBetween text i (tokens_of_expression written x) j → (shows (begins_value c) (second text i).kind ≡ true) × (not (second text i).after_line ≡ true)
  one_second x i j (p, is, (word, (good, line))) h =
      let spelled = subst (λ ts. SpelledBetween text i ts j) (ap (tokens_of_expression written) is ∙ tokens_YieldValue written p.0 p.1) h in
      let there = second_at text i p.0 (tokens_of_expression written p.1) j spelled (yield_agrees c p.0.kind word) in
      (ap (λ (t : Token). shows (begins_value c) t.kind) there ∙ value_shows text c p.1 p.0.end j good spelled.2, ap (λ (t : Token). not t.after_line) there ∙ line_seen text c p.1 p.0.end j good spelled.2 ∙ line)

  one_seen : (x : Expression) (i j : ℕ) → Made One make_yield_value x → SpelledBetween text i (tokens_of_expression written x) j → before_value text i ≡ true
  one_seen x i j good h = let s = one_second x i j good h in and_both _ _ s.1 (or_right (is_star (second text i).kind) _ (anywhere_shows c (second text i).kind s.0))

  one_no_star : (x : Expression) (i j : ℕ) → Made One make_yield_value x → SpelledBetween text i (tokens_of_expression written x) j → before_star text i ≡ false
  one_no_star x i j good h = let s = one_second x i j good h in and_not_left _ _ (value_no_star c (second text i).kind s.0)

  -- ---- alone

  alone_rule : Rule text (expressions (Made Words e.Yield)) n (suc n) (ends_value c) (yield_alone text c n)
  unfolding yield_alone
  alone_rule =
      above_rule text Words (tokens_of_expression written) depth_of_expression n n (λ _ _. true) (ends_value c) e.Yield (token_in text goal.Div (is_yield c))
      (token_in_rule text n n goal.Div (is_yield c) (λ t h. yield_agrees c t.kind h))
      (omega arith) (λ t. tokens_Yield written t) (λ t. levels_Yield t) (λ a t h. refl)

  alone_seen : (x : Expression) (i j : ℕ) → Made Words e.Yield x → SpelledBetween text i (tokens_of_expression written x) j → ends_value c x (behind text j) ≡ true → goes_on_line (second text i) ≡ false
  alone_seen x i j (t, is, word) h stop =
      let spelled = subst (λ ts. SpelledBetween text i ts j) (ap (tokens_of_expression written) is ∙ tokens_Yield written t) h in
      let ending : ends_by c true (ends_postfix x) (behind text j) ≡ true = ends_same c (behind text j) (ap ends_assignment is ∙ ends_Yield t) refl stop in
      ap goes_on_line (second_at text i t [] j spelled (yield_agrees c t.kind word) ∙ ap (behind text) spelled.2) ∙ not_true _ ending

  -- ---- together

  abbrev Rest : Expression → Type 0
  Rest x = Made One make_yield_value x ⊎ Made Words e.Yield x

  rest_no_star : (i : ℕ) (x : Node Expression) (j : ℕ) → Stands text (which Any Rest) n x i j → ends_value c x.tree (behind text j) ≡ true → before_star text i ≡ false
  rest_no_star i x j s stop = by_kind s.good
    where
      by_kind : Rest x.tree → before_star text i ≡ false
      by_kind (inl good) = one_no_star x.tree i j good s.spelled
      by_kind (inr good) = star_goes_on (second text i).after_line _ (is_star (second text i).kind) (alone_seen x.tree i j good s.spelled stop)

  yields_there : (x : Expression) → Made Each make_yield_each x ⊎ Rest x → IsYield text c x
  yields_there x (inl (p, is, (word, (star, good)))) =
      let w = yield_is c p.0.kind word in
      subst (IsYield text c) (sym is) (of_each w.0 w.1 (star_is p.1.0.kind (and_left _ _ star)) (not_true _ (and_right (is_star p.1.0.kind) _ star)) good)
  yields_there x (inr (inl (p, is, (word, (good, line))))) = let w = yield_is c p.0.kind word in subst (IsYield text c) (sym is) (of_value w.0 w.1 line good)
  yields_there x (inr (inr (t, is, word))) = let w = yield_is c t.kind word in subst (IsYield text c) (sym is) (alone w.0 w.1)

  yields_back : (x : Expression) → IsYield text c x → Made Each make_yield_each x ⊎ Rest x
  yields_back x (alone {word = word} may h) = inr (inr (word, refl, yield_in c word.kind may h))
  yields_back x (of_value {word = word} {x = y} may h line good) = inr (inl ((word, y), refl, (yield_in c word.kind may h, (good, line))))
  yields_back x (of_each {word = word} {star = star} {x = y} may h is line good) = inl ((word, (star, y)), refl, (yield_in c word.kind may h, (and_both _ _ (ap is_star is) (ap not line), good)))

  yielded_read : Rule text (expressions (IsYield text c)) n (suc n) (ends_value c) (yielded text c n value)
  unfolding yielded
  yielded_read =
      same_rule text (expressions (λ x. Made Each make_yield_each x ⊎ Rest x)) (expressions (IsYield text c)) n (suc n) (ends_value c) (ends_value c) (yielded text c n value)
      (fork_rule text Any (Made Each make_yield_each) Rest n (suc n) (ends_value c) (before_star text) (yield_each text c n value) _
      each_rule
      (fork_rule text Any (Made One make_yield_value) (Made Words e.Yield) n (suc n) (ends_value c) (before_value text) (yield_value text c n value) (yield_alone text c n)
      one_rule alone_rule
      (λ i x j s low stop. one_seen x.tree i j s.good s.spelled)
      (λ i x j s low stop. alone_seen x.tree i j s.good s.spelled stop))
      (λ i x j s low stop. each_seen x.tree i j s.good s.spelled)
      (λ i x j s low stop. rest_no_star i x j s stop))
      refl refl yields_there yields_back (λ x t good h. h)

pub yield_rule : YieldRule
yield_rule text c n value rule = yielded_read text c n value rule
