-- Chains of operators of one level are read exactly.
use Rattle.std.proofs.Common.{◌≡◌, ℕ, suc, ◌-◌, ◌<◌, ◌≤◌, ◌⊎◌, inl, inr, max, Bool, true, false, not, ◌&&◌, cond, eqb, List, [], ◌∷◌, length, refl, ap, sym, ◌∙◌, subst, arith}
use Rattle.std.proofs.lemmas.Bool.{cases_lt, eqb-true, eq-eqb}
use Rattle.std.specs.List.{AllByRecursion}
use Rattle.esb_token.specs.declared.kind.Kind.{Kind}
use Rattle.esb_token.specs.declared.kind.Kind.TheVariants as k
use Rattle.esb_token.specs.declared.token.Token.{Token}
use Rattle.esb_token.specs.declared.goal.Goal.TheVariants as goal
use Rattle.esb_token.specs.Tokens.{SpelledBetween}
use Rattle.esb_tree.specs.declared.expressions.Expression.{Expression}
use Rattle.esb_tree.specs.declared.expressions.Expression.TheVariants as e
use Rattle.esb_tree.specs.declared.expressions.Operand.{Operand, out-Operand, out-roll-Operand}
use Rattle.esb_tree.specs.Levels.{depth_of_operand, depth_of_expression}
use Rattle.esb_tree.specs.Operators.{level_of}
use Rattle.esb_tree.specs.Trees.{written}
use Rattle.esb_tree.specs.Yields.{tokens_of_operand, tokens_of_expression}
use Rattle.esb_tree.proofs.TokenLines.{tokens_Binary, tokens_Operand}
use Rattle.esb_tree.proofs.LevelLines.{levels_Binary, levels_Operand}
use Rattle.esb_grammar.specs.declared.context.Context.{Context}
use Rattle.esb_grammar.specs.Grammar.{loosest, operand_level, IsBinary, unary_expression, exponentiation, AreOperands, no_operands, more_operands}
use Rattle.esb_reader.specs.declared.node.Node.{Node}
use Rattle.esb_reader.specs.Kinds.{agrees}
use Rattle.esb_reader.specs.Places.{Text}
use Rattle.esb_reader.specs.Reader.{Reader}
use Rattle.esb_reader.specs.Parts.{behind, both, token_in, many}
use Rattle.esb_reader.specs.Stands.{last_stops, Syntax, Rule, Made, tokens_in, pairs}
use Rattle.esb_reader.proofs.Moves.{token-moves, tokens-move}
use Rattle.esb_reader.proofs.Agreeing.{seen, spelled-is_read}
use Rattle.esb_reading_laws.specs.Laws.{Repeats, Longer, Extends}
use Rattle.esb_reading_laws.proofs.Composed.{token_in_rule, both_rule, plain_rule}
use Rattle.esb_reading_laws.proofs.Rows.{many_rule, no_items}
use Rattle.esb_reading_laws.proofs.Chains.{chain_rule}
use Rattle.esb_expression_laws.specs.Leaves.{expressions}
use Rattle.esb_expression_laws.specs.Operators as read
use Rattle.esb_expression_laws.specs.Operators.{is_operator, make_operand, operand_stops}
use Rattle.esb_expression_laws.specs.Laws.{EndsChains, EndsByTokens, OperatorsRule}

-- ---- operators

no_level : (own : ℕ) → eqb 0 (suc own) ≡ true → ⊥
no_level own h = let same : 0 ≡ suc own = eqb-true _ _ h in absurd (omega (arith, same))

operator_agrees : (has_in : Bool) (own : ℕ) (kind : Kind) → eqb (level_of has_in kind) (suc own) ≡ true → agrees goal.Div kind ≡ true
operator_agrees has_in own k.End h = absurd (no_level own h)
operator_agrees has_in own k.RegExp h = absurd (no_level own h)
operator_agrees has_in own k.TemplateMiddle h = absurd (no_level own h)
operator_agrees has_in own k.TemplateTail h = absurd (no_level own h)
operator_agrees has_in own _ h = refl

-- tokens that begin with one take a byte
pub spelled_moves : (text : Text) (i : ℕ) (t : Token) (ts : List Token) (j : ℕ) → SpelledBetween text i (t ∷ ts) j → (i < j) × (j ≤ length text)
spelled_moves text i t ts j h =
    let here = token-moves text _ i t h.0 h.1 in
    let rest = tokens-move text t.end ts j h.2 in
    (let a = here.0 in let b = here.1 in let c = rest.0 in omega (arith, a, b, c), rest.1 here.2)

module _ (text : Text) (c : Context) (n tight : ℕ) (stops whole : Expression → Token → Bool) (tighter : Reader (Node Expression)) (positive : 1 ≤ tight) (small : suc tight < loosest)
    (rule : Rule text (expressions (IsBinary text tight c)) n (suc n) stops tighter) (ends : EndsChains text c tight stops whole) where
  abbrev own : ℕ
  own = suc tight

  abbrev Values : Syntax Expression
  Values = expressions (IsBinary text tight c)

  abbrev Parts : Syntax (Token × Expression)
  Parts = pairs (tokens_in (is_operator c own)) Values

  abbrev Operands : Syntax Operand
  Operands = record { yields = tokens_of_operand written; levels_of = depth_of_operand; Good = Made Parts make_operand }

  value_of : (p : Token × Expression) → (out-Operand (make_operand p)).value ≡ p.1
  value_of p = ap (λ o. o.value) (out-roll-Operand (record { operator = p.0; value = p.1 }))

  zero_max : (m : ℕ) → m ≡ max 0 m
  zero_max m = omega arith

  operand_rule : Rule text Operands n (suc n) (operand_stops stops) (read.operand text c own tighter)
  unfolding read.operand
  operand_rule =
      plain_rule text Parts (tokens_of_operand written) depth_of_operand n (suc n) (λ p. stops p.1) (operand_stops stops) make_operand (both (token_in text goal.Div (is_operator c own)) tighter)
      (both_rule text (tokens_in (is_operator c own)) Values n (suc n) (λ _ _. true) stops (λ p. stops p.1) (token_in text goal.Div (is_operator c own)) tighter
      (token_in_rule text n (suc n) goal.Div (is_operator c own) (λ t h. operator_agrees c.has_in tight t.kind h)) rule (λ a b t h. h) (λ a b m j ga gb h stop. refl))
      (λ p. tokens_Operand written p.0 p.1) (λ p. levels_Operand p.0 p.1 ∙ zero_max (depth_of_expression p.1)) (λ p t h. ap (λ x. stops x t) (sym (value_of p)) ∙ h)

  spelled_operand : (o : Operand) (i j : ℕ) (good : Operands.Good o) → SpelledBetween text i (tokens_of_operand written o) j → SpelledBetween text i (good.0.0 ∷ tokens_of_expression written good.0.1) j
  spelled_operand o i j good h = subst (λ ts. SpelledBetween text i ts j) (ap (tokens_of_operand written) good.1 ∙ tokens_Operand written good.0.0 good.0.1) h

  starts : (o : Operand) (i j : ℕ) → Operands.Good o → SpelledBetween text i (tokens_of_operand written o) j → is_operator c own (behind text i) ≡ true
  starts o i j good h =
      let t = good.0.0 in
      let spelled = spelled_operand o i j good h in
      ap (is_operator c own) (seen text goal.Div i t (spelled-is_read text goal.Div i t spelled.0 (operator_agrees c.has_in tight t.kind good.2.0))) ∙ good.2.0

  repeats : Repeats text Operands n (suc n) (λ i. is_operator c own (behind text i)) (operand_stops stops) (read.operand text c own tighter)
  repeats = record {
    rule = operand_rule;
    starts = starts;
    moves = λ o i j good h. spelled_moves text i good.0.0 (tokens_of_expression written good.0.1) j (spelled_operand o i j good h);
    apart = λ o i good h. ap (λ x. stops (out-Operand x).value (behind text i)) good.1 ∙ ap (λ x. stops x (behind text i)) (value_of good.0) ∙ ends.apart good.0.1 (behind text i) good.2.1 h;
  }

  -- ---- the family of operands

  below : (m : ℕ) → m ≡ tight → operand_level (suc m) ≡ m
  below m e = by_test (eqb (suc m) loosest) refl
    where
      by_test : (b : Bool) → eqb (suc m) loosest ≡ b → operand_level (suc m) ≡ m
      by_test true h = let same : suc m ≡ loosest = eqb-true _ _ h in absurd (omega (arith, same, small, e))
      by_test false h = ap (λ b. cond b 9 (suc m - 1)) h ∙ (let one : suc m - 1 ≡ m = omega arith in one)

  all_operands : (os : List Operand) → AreOperands text own c os → AllByRecursion Operands.Good os
  all_operands [] h = tt
  all_operands (o ∷ os) (more_operands {operator = t} {x = x} level good more) =
      (((t, x), refl, (eq-eqb _ _ level, subst (λ l. IsBinary text l c x) (below tight refl) good)), all_operands os more)

  are_operands : (os : List Operand) → AllByRecursion Operands.Good os → AreOperands text own c os
  are_operands [] h = no_operands
  are_operands (o ∷ os) h =
      let made = h.0 in
      subst (λ y. AreOperands text own c (y ∷ os)) (sym made.1)
      (more_operands (eqb-true _ _ made.2.0) (subst (λ l. IsBinary text l c made.0.1) (sym (below tight refl)) made.2.1) (are_operands os h.1))

  -- ---- the family of chains

  looser : (x : Expression) → IsBinary text tight c x → IsBinary text own c x
  looser x (unary_expression h) = unary_expression h
  looser x (exponentiation first second rest low h powers) = exponentiation first second rest (omega arith) h powers
  looser x (IsBinary.operators level first second rest low high h others) = IsBinary.operators level first second rest low (omega arith) h others

  split : (x : Expression) → IsBinary text own c x → IsBinary text tight c x ⊎ Longer Operands (IsBinary text tight c) e.Binary x
  split x (unary_expression h) = inl (unary_expression h)
  split x (exponentiation first second rest low h powers) = inl (exponentiation first second rest positive h powers)
  split x (IsBinary.operators level first second rest low high h others) = by_level (cases_lt level own)
    where
      by_level : (level < own) ⊎ (own ≤ level) → IsBinary text tight c (e.Binary first (second ∷ rest)) ⊎ Longer Operands (IsBinary text tight c) e.Binary (e.Binary first (second ∷ rest))
      by_level (inl less) = inl (IsBinary.operators level first second rest low (omega arith) h others)
      by_level (inr more) =
          let same : level ≡ own = omega (arith, more, high) in
          inr (record {
            first = first;
            second = second;
            rest = rest;
            is = refl;
            head = subst (λ l. IsBinary text l c first) (ap operand_level same ∙ below tight refl) h;
            tail = all_operands (second ∷ rest) (subst (λ l. AreOperands text l c (second ∷ rest)) same others);
          })

  extends : Extends text (expressions (λ x. Unit {0})) Operands (IsBinary text tight c) (IsBinary text own c) e.Binary (is_operator c own) stops (operand_stops stops) whole
  extends = record {
    yields = λ first items. tokens_Binary written first items;
    levels_of = λ first items. levels_Binary first items;
    alone = looser;
    made = λ first second rest good others. IsBinary.operators own first second rest (omega (arith, positive)) (omega arith) (subst (λ l. IsBinary text l c first) (sym (below tight refl)) good) (are_operands (second ∷ rest) others);
    split = split;
    starts = starts;
    head_apart = λ x t good h. ends.apart x t good h;
    head_ends = λ x t good h. ends.alone x t good h;
    item_ends = ends.last;
    none_begins = ends.no_operator;
  }

  operators_read : Rule text (expressions (IsBinary text own c)) n (suc n) whole (read.operators text n c own tighter)
  unfolding read.operators read.operands
  operators_read =
      chain_rule text n (suc n) (expressions (λ x. Unit {0})) Operands (IsBinary text tight c) (IsBinary text own c) e.Binary (is_operator c own) stops (operand_stops stops) whole tighter (many text (is_operator c own) (read.operand text c own tighter))
      rule (many_rule text Operands n (suc n) (is_operator c own) (operand_stops stops) (read.operand text c own tighter) repeats) (λ j h. no_items text (is_operator c own) (read.operand text c own tighter) j h) (omega arith) extends

pub operators_rule : OperatorsRule
operators_rule text c n tight stops whole tighter positive small rule ends = operators_read text c n tight stops whole tighter positive small rule ends

-- ---- ends that the token alone decides

left_of : (a b : Bool) → (a && b) ≡ true → a ≡ true
left_of true b h = refl
left_of false b h = cc

right_of : (a b : Bool) → (a && not b) ≡ true → b ≡ false
right_of true true h = cc
right_of true false h = refl
right_of false b h = cc

last_of_test : (test : Token → Bool) (os : List Operand) (t : Token) → test t ≡ true → last_stops (operand_stops (λ _. test)) os t ≡ true
last_of_test test [] t h = refl
last_of_test test (o ∷ []) t h = h
last_of_test test (o ∷ p ∷ os) t h = last_of_test test (p ∷ os) t h

pub ends_by_tokens : EndsByTokens
ends_by_tokens text c tight test passes = record {
  apart = λ x t good h. passes t h;
  alone = λ x t good h. left_of (test t) _ h;
  last = λ first second rest t h. last_of_test test (second ∷ rest) t (left_of (test t) _ h);
  no_operator = λ x t h. right_of (test t) _ h;
}
