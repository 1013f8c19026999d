-- Operators before and behind their operand are read exactly within a level, where operands are within it and those below.
use Rattle.std.proofs.Common.{◌≡◌, ℕ, zero, suc, ◌+◌, ◌≤◌, max, ◌⊎◌, inl, inr, Bool, true, false, not, ◌||◌, cond, [], ◌∷◌, refl, ap, sym, ◌∙◌, subst, arith}
use Rattle.esb_token.specs.declared.token.Token.{Token}
use Rattle.esb_token.specs.declared.goal.Goal.TheVariants as goal
use Rattle.esb_token.specs.Tokens.{SpelledBetween}
use Rattle.esb_tree.specs.declared.expressions.Expression.{Expression}
use Rattle.esb_tree.specs.declared.expressions.Expression.TheVariants as e
use Rattle.esb_tree.specs.Levels.{depth_of_expression}
use Rattle.esb_tree.specs.Operators.{is_unary}
use Rattle.esb_tree.specs.Trees.{written}
use Rattle.esb_tree.specs.Yields.{tokens_of_expression}
use Rattle.esb_tree.proofs.TokenLines.{tokens_PrefixUpdate, tokens_PostfixUpdate, tokens_Unary, tokens_Await}
use Rattle.esb_tree.proofs.LevelLines.{levels_PrefixUpdate, levels_PostfixUpdate, levels_Unary, levels_Await}
use Rattle.esb_grammar.specs.declared.context.Context.{Context}
use Rattle.esb_grammar.specs.Grammar.{IsLeftHandSide, IsUpdate, left_hand_side, postfix, prefix, IsUnary, update, unary, await}
use Rattle.esb_grammar.specs.Kinds.{is_update}
use Rattle.esb_reader.specs.declared.node.Node.{Node}
use Rattle.esb_reader.specs.Places.{Text}
use Rattle.esb_reader.specs.Reader.{Reader, fail}
use Rattle.esb_reader.specs.Parts.{behind, both, token_in, choice}
use Rattle.esb_reader.specs.Stands.{Syntax, Rule, Made, tokens_in, pairs}
use Rattle.esb_reader.proofs.Agreeing.{seen, spelled-is_read}
use Rattle.esb_reading_laws.proofs.Composed.{token_in_rule, both_rule, above_rule, choice_rule, same_rule}
use Rattle.esb_reading_laws.proofs.Steps.{spelled_split}
use Rattle.esb_expression_laws.specs.Leaves.{expressions}
use Rattle.esb_operator_laws.specs.Postfix.{ends_postfix}
use Rattle.esb_operator_laws.specs.Suffixes.{WithSuffix}
use Rattle.esb_operator_laws.specs.Ends.{left_goes_on, ends_left, begins_postfix, ends_unary}
use Rattle.esb_operator_laws.specs.Unary as read
use Rattle.esb_operator_laws.specs.Unary.{is_prefix, begins_prefix, make_prefix, prefixed, postfixed}
use Rattle.esb_operator_laws.proofs.PostfixLines.{postfix_PrefixUpdate, postfix_Unary, postfix_Await}
use Rattle.esb_operator_laws.proofs.LeftEnds.{left_ends}
use Rattle.esb_operator_laws.proofs.Suffixing.{extended_rule}
use Rattle.esb_operator_laws.proofs.Below.{none_below, rule_below}
use Rattle.esb_operator_laws.proofs.TokenTests.{and_left, and_right, and_both, or_left, or_right, neither_left, neither_right, not_true, false_not, await_is, prefix_agrees, update_agrees, update_apart, unary_no_update}

-- ---- a node of an operator and its operand

of_three : {A : Type 0} (P : A → Type 0) (first second : Bool) (x y z : A) → P x → P y → P z → P (cond first x (cond second y z))
of_three P true second x y z px py pz = px
of_three P false true x y z px py pz = py
of_three P false false x y z px py pz = pz

prefix_tokens : (p : Token × Expression) → tokens_of_expression written (make_prefix p) ≡ p.0 ∷ tokens_of_expression written p.1
prefix_tokens p = of_three (λ x. tokens_of_expression written x ≡ p.0 ∷ tokens_of_expression written p.1) (is_update p.0.kind) (is_unary p.0.kind) _ _ _ (tokens_PrefixUpdate written p.0 p.1) (tokens_Unary written p.0 p.1) (tokens_Await written p.0 p.1)

prefix_levels : (p : Token × Expression) → depth_of_expression (make_prefix p) ≡ max 0 (depth_of_expression p.1) + 1
prefix_levels p =
    let none : depth_of_expression p.1 + 1 ≡ max 0 (depth_of_expression p.1) + 1 = omega arith in
    of_three (λ x. depth_of_expression x ≡ depth_of_expression p.1 + 1) (is_update p.0.kind) (is_unary p.0.kind) _ _ _ (levels_PrefixUpdate p.0 p.1) (levels_Unary p.0 p.1) (levels_Await p.0 p.1) ∙ none

prefix_edge : (p : Token × Expression) → ends_postfix (make_prefix p) ≡ ends_postfix p.1
prefix_edge p = of_three (λ x. ends_postfix x ≡ ends_postfix p.1) (is_update p.0.kind) (is_unary p.0.kind) _ _ _ (postfix_PrefixUpdate p.0 p.1) (postfix_Unary p.0 p.1) (postfix_Await p.0 p.1)

prefix_ends : (p : Token × Expression) (t : Token) → ends_unary (make_prefix p) t ≡ true → ends_unary p.1 t ≡ true
prefix_ends p t h = ap (λ b. b || not (left_goes_on t || begins_postfix t)) (sym (prefix_edge p)) ∙ h

-- ---- the families

module _ (text : Text) (c : Context) where
  abbrev Prefixes : Syntax (Token × Expression)
  Prefixes = pairs (tokens_in (begins_prefix c)) (expressions (IsUnary text c))

  abbrev IsPrefixed : Expression → Type 0
  IsPrefixed = Made Prefixes make_prefix

  abbrev IsPostfixed : Expression → Type 0
  IsPostfixed = WithSuffix (λ _. tokens_in begins_postfix) (IsLeftHandSide text c) (λ _. true) e.PostfixUpdate

  prefixed_by : (first second : Bool) (t : Token) (x : Expression) → is_update t.kind ≡ first → is_unary t.kind ≡ second → is_prefix c t.kind ≡ true → IsUnary text c x → IsUnary text c (cond first (e.PrefixUpdate t x) (cond second (e.Unary t x) (e.Await t x)))
  prefixed_by true second t x f s h good = update (prefix f good)
  prefixed_by false true t x f s h good = unary s good
  prefixed_by false false t x f s h good =
      let word = await_is c t.kind (or_last (is_update t.kind) (is_unary t.kind) _ f s h) in
      await word.0 word.1 good
    where
      or_last : (a b d : Bool) → a ≡ false → b ≡ false → (a || (b || d)) ≡ true → d ≡ true
      or_last false false d f s h = h
      or_last true b d f s h = cc
      or_last false true d f s h = cc

  unary_of : (x : Expression) → IsPrefixed x ⊎ IsPostfixed x → IsUnary text c x
  unary_of x (inl h) = subst (IsUnary text c) (sym h.1) (prefixed_by (is_update h.0.0.kind) (is_unary h.0.0.kind) h.0.0 h.0.1 refl refl h.2.0 h.2.1)
  unary_of x (inr (inl h)) = update (left_hand_side h)
  unary_of x (inr (inr s)) = subst (IsUnary text c) (sym s.is) (update (postfix s.head (and_left _ _ s.good) (not_true s.second.after_line (and_right (is_update s.second.kind) _ s.good))))

  of_update : (x : Expression) → IsUpdate text c x → IsPrefixed x ⊎ IsPostfixed x
  of_update x (left_hand_side h) = inr (inl h)
  of_update x (postfix {x = y} {operator = t} h is line) = inr (inr (record { first = y; second = t; is = refl; head = h; may = refl; good = and_both _ _ is (false_not t.after_line line) }))
  of_update x (prefix {operator = t} {x = y} is h) = inl ((t, y), sym (ap (λ b. cond b (e.PrefixUpdate t y) (cond (is_unary t.kind) (e.Unary t y) (e.Await t y))) is), (or_left _ _ is, h))

  of_unary : (x : Expression) → IsUnary text c x → IsPrefixed x ⊎ IsPostfixed x
  of_unary x (update h) = of_update x h
  of_unary x (unary {operator = t} {x = y} is h) =
      inl ((t, y), sym (ap (λ b. cond b (e.PrefixUpdate t y) (cond (is_unary t.kind) (e.Unary t y) (e.Await t y))) (unary_no_update t.kind is) ∙ ap (λ b. cond b (e.Unary t y) (e.Await t y)) is), (or_right (is_update t.kind) _ (or_left _ _ is), h))
  of_unary x (await {word = t} {x = y} may is h) =
      inl ((t, y), sym (ap (λ kind. cond (is_update kind) (e.PrefixUpdate t y) (cond (is_unary kind) (e.Unary t y) (e.Await t y))) is), (ap (is_prefix c) is ∙ may, h))

  -- ---- the readers

  prefixed_rule : (n : ℕ) (operand : Reader (Node Expression)) → Rule text (expressions (IsUnary text c)) n n ends_unary operand → Rule text (expressions IsPrefixed) n (suc n) ends_unary (prefixed text c n operand)
  unfolding prefixed
  prefixed_rule n operand rule =
      above_rule text Prefixes (tokens_of_expression written) depth_of_expression n n (λ p. ends_unary p.1) ends_unary make_prefix (both (token_in text goal.Div (begins_prefix c)) operand)
      (both_rule text (tokens_in (begins_prefix c)) (expressions (IsUnary text c)) n n (λ _ _. true) ends_unary (λ p. ends_unary p.1) (token_in text goal.Div (begins_prefix c)) operand
      (token_in_rule text n n goal.Div (begins_prefix c) (λ t h. prefix_agrees c t.kind h)) rule (λ a b t h. h) (λ a b m j ga gb h stop. refl))
      (omega arith) prefix_tokens prefix_levels prefix_ends

  module _ (top : ℕ) (left : ℕ → Reader (Node Expression)) (rule : (n : ℕ) → n ≤ top → Rule text (expressions (IsLeftHandSide text c)) n (suc n) (λ _. ends_left) (left n)) (shows : (x : Expression) (i j : ℕ) → IsLeftHandSide text c x → SpelledBetween text i (tokens_of_expression written x) j → begins_prefix c (behind text i) ≡ false) where
    postfix_starts : (t : Token) (i j : ℕ) → begins_postfix t ≡ true → SpelledBetween text i (t ∷ []) j → begins_postfix (behind text i) ≡ true
    postfix_starts t i j good h = ap begins_postfix (seen text goal.Div i t (spelled-is_read text goal.Div i t h.0 (update_agrees t.kind (and_left _ _ good)))) ∙ good

    apart_left : (t : Token) → begins_postfix t ≡ true → ends_left t ≡ true
    apart_left t h = update_apart t.kind (not t.after_line) (and_left _ _ h)

    whole_left : (x : Expression) (t : Token) → IsLeftHandSide text c x → ends_unary x t ≡ true → (left_goes_on t || begins_postfix t) ≡ false
    whole_left x t good h = not_true _ (sym (ap (λ b. b || not (left_goes_on t || begins_postfix t)) (left_ends good)) ∙ h)

    postfixed_rule : (n : ℕ) → n ≤ top → Rule text (expressions IsPostfixed) n (suc n) ends_unary (postfixed text n (left n))
    unfolding postfixed
    postfixed_rule n within =
        extended_rule text n n (expressions (λ x. Unit {0})) (λ _. tokens_in begins_postfix) (IsLeftHandSide text c) (λ _. true) e.PostfixUpdate begins_postfix (λ _. ends_left) (λ _ _ _. true) ends_unary (left n) (λ _. token_in text goal.Div begins_postfix)
        (rule n within) (λ x good may. token_in_rule text n n goal.Div begins_postfix (λ t h. update_agrees t.kind (and_left _ _ h))) (omega arith)
        (record {
          yields = λ x t. tokens_PostfixUpdate written x t;
          levels_of = λ x t. levels_PostfixUpdate x t ∙ (let e : depth_of_expression x + 1 ≡ max (depth_of_expression x) 0 + 1 = omega arith in e);
          starts = λ x t i j good h. postfix_starts t i j good h;
          head_apart = λ x t good may h. apart_left t h;
          head_ends = λ x t good h. false_not _ (neither_left _ _ (whole_left x t good h));
          part_ends = λ x y t good more h. refl;
          none_begins = λ x t good may h. neither_right (left_goes_on t) _ (whole_left x t good h);
        })

    prefix_seen : (x : Expression) (i j : ℕ) → IsPrefixed x → SpelledBetween text i (tokens_of_expression written x) j → begins_prefix c (behind text i) ≡ true
    prefix_seen x i j good h =
        let t = good.0.0 in
        let spelled = subst (λ ts. SpelledBetween text i ts j) (ap (tokens_of_expression written) good.1 ∙ prefix_tokens good.0) h in
        ap (begins_prefix c) (seen text goal.Div i t (spelled-is_read text goal.Div i t spelled.0 (prefix_agrees c t.kind good.2.0))) ∙ good.2.0

    left_seen : (x : Expression) (i j : ℕ) → IsPostfixed x → SpelledBetween text i (tokens_of_expression written x) j → begins_prefix c (behind text i) ≡ false
    left_seen x i j (inl good) h = shows x i j good h
    left_seen x i j (inr s) h =
        let cut = spelled_split text i (tokens_of_expression written s.first) (s.second ∷ []) j (subst (λ ts. SpelledBetween text i ts j) (ap (tokens_of_expression written) s.is ∙ tokens_PostfixUpdate written s.first s.second) h) in
        shows s.first i cut.0 s.head cut.1

    stepped : (n : ℕ) → n ≤ top → (operand : Reader (Node Expression)) → Rule text (expressions (IsUnary text c)) n n ends_unary operand → Rule text (expressions (IsUnary text c)) n (suc n) ends_unary (choice text (begins_prefix c) (prefixed text c n operand) (postfixed text n (left n)))
    stepped n within operand below =
        same_rule text (expressions (λ x. IsPrefixed x ⊎ IsPostfixed x)) (expressions (IsUnary text c)) n (suc n) ends_unary ends_unary (choice text (begins_prefix c) (prefixed text c n operand) (postfixed text n (left n)))
        (choice_rule text (expressions (λ x. Unit {0})) IsPrefixed IsPostfixed n (suc n) ends_unary (begins_prefix c) (prefixed text c n operand) (postfixed text n (left n))
        (prefixed_rule n operand below) (postfixed_rule n within) prefix_seen (λ x i j good h stop. left_seen x i j good h))
        refl refl unary_of of_unary (λ x t good h. h)

    pub unary_within : (n : ℕ) → n ≤ top → Rule text (expressions (IsUnary text c)) n (suc n) ends_unary (read.unary text c left n)
    unfolding read.unary
    unary_within zero within = stepped zero within fail (none_below text (expressions (IsUnary text c)) ends_unary)
    unary_within (suc n) within = stepped (suc n) within (read.unary text c left n) (rule_below text (expressions (IsUnary text c)) n ends_unary (read.unary text c left n) (unary_within n (omega (arith, within))))
