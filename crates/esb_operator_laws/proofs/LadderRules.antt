-- Binary operators of all levels are read exactly.
use Rattle.std.proofs.Common.{◌≡◌, ℕ, zero, suc, ◌<◌, ◌≤◌, ◌⊎◌, inl, inr, Bool, true, false, not, ◌&&◌, ◌||◌, cond, eqb, nat_le, List, [], ◌∷◌, map, Option, Some, None, refl, ap, sym, ◌∙◌, subst, arith}
use Rattle.std.proofs.lemmas.Bool.{cases_lt, eqb-true, eq-eqb}
use Rattle.std.proofs.lemmas.Grind.{common_steps}
use Rattle.std.specs.List.{AllByRecursion}
use Rattle.esb_token.specs.declared.kind.Kind.{Kind}
use Rattle.esb_token.specs.declared.kind.Kind.TheVariants as k
use Rattle.esb_token.specs.declared.token.Token.{Token}
use Rattle.esb_tree.specs.declared.classes.ClassElement.TheOpen.{Expression-F}
use Rattle.esb_tree.specs.declared.expressions.Expression.{Expression, out-Expression}
use Rattle.esb_tree.specs.declared.expressions.Expression.TheVariants as e
use Rattle.esb_tree.specs.declared.expressions.Operand.{Operand, out-Operand, roll-out-Operand}
use Rattle.esb_tree.specs.Operators.{level_of}
use Rattle.esb_grammar.specs.declared.context.Context.{Context}
use Rattle.esb_grammar.specs.Edges.{last_of}
use Rattle.esb_grammar.specs.Grammar.{loosest, operand_level, IsUpdate, IsUnary, update, unary, await, IsBinary, unary_expression, exponentiation, ArePowers, last_power, more_powers, AreOperands, no_operands, more_operands}
use Rattle.esb_grammar.proofs.Shapes.{out_binary, is_unary_layer, unary_shape, is_update_layer, update_shape, Layer}
use Rattle.esb_reader.specs.declared.node.Node.{Node}
use Rattle.esb_reader.specs.Places.{Text}
use Rattle.esb_reader.specs.Reader.{Reader}
use Rattle.esb_reader.specs.Parts.{chain}
use Rattle.esb_reader.specs.Stands.{Rule, last_stops}
use Rattle.esb_reading_laws.proofs.Composed.{such_rule, same_rule}
use Rattle.esb_expression_laws.specs.Leaves.{expressions}
use Rattle.esb_expression_laws.specs.Operators.{is_operator, operand_stops, operands, operators}
use Rattle.esb_expression_laws.specs.Laws.{EndsChains}
use Rattle.esb_expression_laws.proofs.OperatorChains.{operators_rule}
use Rattle.esb_operator_laws.specs.Postfix.{ends_postfix, operand_ends_postfix}
use Rattle.esb_operator_laws.specs.Ends.{left_goes_on, begins_postfix, ends_unary, is_within, ends_binary}
use Rattle.esb_operator_laws.specs.Ladder.{prefix_layer, is_prefixed, operands_layer, powers_fit, operands_level, chain_level, level_of_chain, is_tight, are_tight, operands_fit, fits_level, at_operator, items, step, ladder, binary}
use Rattle.esb_operator_laws.specs.Laws.{BinaryRule}
use Rattle.esb_operator_laws.proofs.PostfixLines.{postfix_Binary, postfix_Operand}
use Rattle.esb_operator_laws.proofs.Operands.{operands_of, Chained, EndsOperators, chains_rule, value_of, operator_of}
use Rattle.esb_operator_laws.proofs.TokenTests.{and_left, and_right, and_both, or_right, not_true, false_not, operator_level, operator_plain, above_within, within_less, within_not}

-- ---- what ends chains

-- the last operand ends as the chain does
edge_last : (c : Context) (tight : ℕ) (os : List Operand) (t : Token) → (last_of (map operand_ends_postfix os) || not (left_goes_on t || begins_postfix t)) ≡ true → is_within tight (level_of c.has_in t.kind) ≡ false → last_stops (operand_stops (ends_binary c tight)) os t ≡ true
edge_last c tight [] t h low = refl
edge_last c tight (o ∷ []) t h low = and_both _ _ (ap (λ b. b || not (left_goes_on t || begins_postfix t)) (sym (edge_of o)) ∙ h) (false_not _ low)
  where
    edge_of : (o : Operand) → operand_ends_postfix o ≡ ends_postfix (out-Operand o).value
    edge_of o = ap operand_ends_postfix (sym (roll-out-Operand o)) ∙ postfix_Operand (out-Operand o).operator (out-Operand o).value
edge_last c tight (o ∷ p ∷ os) t h low = edge_last c tight (p ∷ os) t h low

ends_operators : (c : Context) (tight : ℕ) (Value : Expression → Type 0) → EndsOperators c tight Value Value (ends_binary c tight) (ends_binary c tight) (ends_binary c (suc tight))
ends_operators c tight Value = record {
  head_apart = apart;
  apart = apart;
  alone = λ x t good h. and_both _ _ (and_left _ _ h) (false_not _ (within_less _ tight (not_true _ (and_right (ends_unary x t) _ h))));
  last = λ first second rest t h.
      edge_last c tight (second ∷ rest) t (ap (λ b. b || not (left_goes_on t || begins_postfix t)) (sym (postfix_Binary first (second ∷ rest))) ∙ and_left _ _ h) (within_less _ tight (not_true _ (and_right (ends_unary (e.Binary first (second ∷ rest)) t) _ h)));
  no_operator = λ x t h. within_not _ tight (not_true _ (and_right (ends_unary x t) _ h));
}
  where
    apart : (x : Expression) (t : Token) → Value x → is_operator c (suc tight) t ≡ true → ends_binary c tight x t ≡ true
    apart x t good h = and_both _ _ (or_right (ends_postfix x) _ (false_not _ (operator_plain c tight t h))) (false_not _ (above_within _ tight (operator_level c (suc tight) t h)))

-- ---- what a chain has

fits_Binary : (level : ℕ) (first : Expression) (rest : List Operand) → fits_level level (e.Binary first rest) ≡ operands_fit level (Some (first, rest))
unfolding fits_level
fits_Binary level first rest = ap (λ x. operands_fit level (operands_layer x)) (out_binary first rest)

level_Binary : (first : Expression) (o : Operand) (os : List Operand) → level_of_chain (e.Binary first (o ∷ os)) ≡ level_of true (out-Operand o).operator.kind
unfolding level_of_chain
level_Binary first o os = ap (λ x. chain_level (operands_layer x)) (out_binary first (o ∷ os))

no_operands_of : (x : Layer) → is_unary_layer x ≡ true → operands_layer x ≡ None
no_operands_of (Expression-F.Binary first rest) h = let never : false ≡ true = h in cc
no_operands_of _ h = refl

fits_unary : {text : Text} {c : Context} {x : Expression} (level : ℕ) → IsUnary text c x → fits_level level x ≡ true
unfolding fits_level
fits_unary {x = x} level h = ap (operands_fit level) (no_operands_of (out-Expression x) (unary_shape h))

level_unary : {text : Text} {c : Context} {x : Expression} → IsUnary text c x → level_of_chain x ≡ 0
unfolding level_of_chain
level_unary {x = x} h = ap chain_level (no_operands_of (out-Expression x) (unary_shape h))

-- ---- `**`

update_at : {text : Text} {c : Context} (x : Expression) → IsUnary text c x → is_prefixed x ≡ false → IsUpdate text c x
unfolding is_prefixed out-Expression denote.Hole.Carrier.out
update_at x (update h) plain = h
update_at x (unary h1 h2) plain = cc
update_at x (await h1 h2 h3) plain = cc

no_prefix_of : (x : Layer) → is_update_layer x ≡ true → prefix_layer x ≡ false
no_prefix_of (Expression-F.Unary operator x) h = let never : false ≡ true = h in cc
no_prefix_of (Expression-F.Await word x) h = let never : false ≡ true = h in cc
no_prefix_of _ h = refl

no_prefix : {text : Text} {c : Context} {x : Expression} → IsUpdate text c x → is_prefixed x ≡ false
unfolding is_prefixed
no_prefix {x = x} h = no_prefix_of (out-Expression x) (update_shape h)

one_is : (has_in : Bool) (kind : Kind) → eqb (level_of has_in kind) 1 ≡ true → kind ≡ k.StarStar
one_is true k.StarStar h = refl
one_is false k.StarStar h = refl
one_is true _ h = cc
one_is false _ h = cc

is_star_star : (c : Context) (t : Token) → t.kind ≡ k.StarStar → is_operator c 1 t ≡ true
is_star_star c t h = ap (λ kind. eqb (level_of c.has_in kind) 1) h

module _ (text : Text) (c : Context) where
  abbrev Tight : ℕ → Expression → Type 0
  Tight level = IsBinary text level c

  abbrev AllOf : ℕ → ℕ → List Operand → Type 0
  AllOf own level os = AllByRecursion (operands_of c own (Tight level)).Good os

  -- operators at no level are none
  unary_in : (x : Expression) → Tight 0 x → IsUnary text c x
  unary_in x (unary_expression h) = h
  unary_in x (exponentiation first second rest low h powers) = absurd (omega (arith, low))
  unary_in x (IsBinary.operators own first second rest low high h others) = absurd (omega (arith, low, high))

  powers_of : (o : Operand) (os : List Operand) → AllOf 1 0 (o ∷ os) → powers_fit (out-Operand o).value os ≡ true → ArePowers text c (o ∷ os)
  powers_of o [] good fits =
      let made = good.0 in
      subst (λ y. ArePowers text c (y ∷ [])) (sym made.1) (last_power (one_is c.has_in made.0.0.kind made.2.0) (unary_in made.0.1 made.2.1))
  powers_of o (p ∷ os) good fits =
      let made = good.0 in
      let alone : is_prefixed made.0.1 ≡ false = ap is_prefixed (sym (ap (λ y. (out-Operand y).value) made.1 ∙ value_of made.0)) ∙ not_true _ (and_left _ _ fits) in
      subst (λ y. ArePowers text c (y ∷ p ∷ os)) (sym made.1) (more_powers (one_is c.has_in made.0.0.kind made.2.0) (update_at made.0.1 (unary_in made.0.1 made.2.1) alone) (powers_of p os good.1 (and_right _ _ fits)))

  all_powers : (os : List Operand) → ArePowers text c os → AllOf 1 0 os
  all_powers [] h = tt
  all_powers (o ∷ []) (last_power {operator = t} {x = x} is h) = (((t, x), refl, (is_star_star c t is, unary_expression h)), tt)
  all_powers (o ∷ p ∷ os) (more_powers {operator = t} {x = x} is h more) = (((t, x), refl, (is_star_star c t is, unary_expression (update h))), all_powers (p ∷ os) more)

  fits_powers : (x : Expression) (o : Operand) (os : List Operand) → is_prefixed x ≡ false → ArePowers text c (o ∷ os) → powers_fit x (o ∷ os) ≡ true
  fits_powers x o [] alone h = and_both _ _ (false_not _ alone) refl
  fits_powers x o (p ∷ os) alone (more_powers {operator = t} {x = y} is h more) =
      and_both _ _ (false_not _ alone) (fits_powers (out-Operand o).value p os (ap is_prefixed (value_of (t, y)) ∙ no_prefix h) more)

  -- ---- one level

  powers_there : (x : Expression) → Chained c 1 (Tight 0) (Tight 0) x × (fits_level 1 x ≡ true) → Tight 1 x
  powers_there x (inl h, fits) = unary_expression (unary_in x h)
  powers_there x (inr l, fits) =
      let fit : powers_fit l.first (l.second ∷ l.rest) ≡ true = sym (ap (fits_level 1) l.is ∙ fits_Binary 1 l.first (l.second ∷ l.rest)) ∙ fits in
      subst (Tight 1) (sym l.is) (exponentiation l.first l.second l.rest (omega arith) (update_at l.first (unary_in l.first l.head) (not_true _ (and_left _ _ fit))) (powers_of l.second l.rest l.tail (and_right _ _ fit)))

  powers_back : (x : Expression) → Tight 1 x → Chained c 1 (Tight 0) (Tight 0) x × (fits_level 1 x ≡ true)
  powers_back x (unary_expression h) = (inl (unary_expression h), fits_unary 1 h)
  powers_back x (exponentiation first second rest low h powers) =
      (inr (record { first = first; second = second; rest = rest; is = refl; head = unary_expression (update h); tail = all_powers (second ∷ rest) powers }), fits_Binary 1 first (second ∷ rest) ∙ fits_powers first second rest (no_prefix h) powers)
  powers_back x (IsBinary.operators own first second rest low high h others) = absurd (omega (arith, low, high))

  -- ---- `??`

  twelve_is : (has_in : Bool) (kind : Kind) → eqb (level_of has_in kind) 12 ≡ true → kind ≡ k.QuestionQuestion
  twelve_is true k.QuestionQuestion h = refl
  twelve_is false k.QuestionQuestion h = refl
  twelve_is true _ h = cc
  twelve_is false _ h = cc

  level_true : (has_in : Bool) (own : ℕ) (kind : Kind) → level_of has_in kind ≡ suc own → level_of true kind ≡ suc own
  level_true true own kind h = h
  level_true false own k.In h = let never : 0 ≡ suc own = h in absurd (omega (arith, never))
  level_true false own _ h = h

  positive : (n : ℕ) → 1 < n → (m : ℕ) × (n ≡ suc m)
  positive (suc m) h = (m, refl)
  positive zero h = absurd (omega (arith, h))

  operator_at : (own : ℕ) (o : Operand) (os : List Operand) → 1 < own → AreOperands text own c (o ∷ os) → level_of true (out-Operand o).operator.kind ≡ own
  operator_at own o os low (more_operands {operator = t} {x = x} level good more) =
      let up = positive own low in
      ap (λ (u : Token). level_of true u.kind) (operator_of (t, x)) ∙ level_true c.has_in up.0 t.kind (level ∙ up.1) ∙ sym up.1

  power_at : (o : Operand) (os : List Operand) → ArePowers text c (o ∷ os) → level_of true (out-Operand o).operator.kind ≡ 1
  power_at o [] (last_power {operator = t} {x = x} is h) = ap (λ (u : Token). level_of true u.kind) (operator_of (t, x)) ∙ ap (level_of true) is
  power_at o (p ∷ os) (more_powers {operator = t} {x = x} is h more) = ap (λ (u : Token). level_of true u.kind) (operator_of (t, x)) ∙ ap (level_of true) is

  chain_bound : (n : ℕ) (x : Expression) → 1 ≤ n → Tight n x → level_of_chain x ≤ n
  chain_bound n x some (unary_expression h) = let e = level_unary h in omega (arith, e)
  chain_bound n x some (exponentiation first second rest low h powers) = let e = level_Binary first second rest ∙ power_at second rest powers in omega (arith, e, some)
  chain_bound n x some (IsBinary.operators own first second rest low high h others) = let e = level_Binary first second rest ∙ operator_at own second rest low others in omega (arith, e, high)

  tighter_of : (n m : ℕ) (x : Expression) → 1 ≤ m → Tight n x → level_of_chain x ≤ m → Tight m x
  tighter_of n m x some (unary_expression h) bound = unary_expression h
  tighter_of n m x some (exponentiation first second rest low h powers) bound = exponentiation first second rest some h powers
  tighter_of n m x some (IsBinary.operators own first second rest low high h others) bound =
      let e = level_Binary first second rest ∙ operator_at own second rest low others in
      IsBinary.operators own first second rest low (omega (arith, e, bound)) h others

  looser_of : (n m : ℕ) (x : Expression) → 1 ≤ n → n ≤ m → Tight n x → Tight m x
  looser_of n m x some le h = tighter_of n m x (omega (arith, some, le)) h (let b = chain_bound n x some h in omega (arith, b, le))

  le_true : (a b : ℕ) → nat_le a b ≡ true → a ≤ b
  le_true a b h = grind (arith, common_steps)

  true_le : (a b : ℕ) → a ≤ b → nat_le a b ≡ true
  true_le a b h = grind (arith, common_steps)

  tight_is : (x : Expression) → Tight 9 x → is_tight x ≡ true
  tight_is x h = true_le _ 9 (chain_bound 9 x (omega arith) h)

  tight_operands : (os : List Operand) → AllOf 12 11 os → are_tight os ≡ true → AreOperands text 12 c os
  tight_operands [] h fits = no_operands
  tight_operands (o ∷ os) h fits =
      let made = h.0 in
      let tight : is_tight made.0.1 ≡ true = ap is_tight (sym (ap (λ y. (out-Operand y).value) made.1 ∙ value_of made.0)) ∙ and_left _ _ fits in
      subst (λ y. AreOperands text 12 c (y ∷ os)) (sym made.1)
      (more_operands (operator_level c 12 made.0.0 made.2.0) (tighter_of 11 9 made.0.1 (omega arith) made.2.1 (le_true _ 9 tight)) (tight_operands os h.1 (and_right _ _ fits)))

  all_tight : (os : List Operand) → AreOperands text 12 c os → AllOf 12 11 os × (are_tight os ≡ true)
  all_tight [] h = (tt, refl)
  all_tight (o ∷ os) (more_operands {operator = t} {x = x} level good more) =
      let rest = all_tight os more in
      ((((t, x), refl, (eq-eqb _ _ level, looser_of 9 11 x (omega arith) (omega arith) good)), rest.0), and_both _ _ (ap is_tight (value_of (t, x)) ∙ tight_is x good) rest.1)

  coalesce_fits : (first : Expression) (o : Operand) (os : List Operand) → level_of true (out-Operand o).operator.kind ≡ 12 → operands_fit 12 (Some (first, o ∷ os)) ≡ (is_tight first && are_tight (o ∷ os))
  coalesce_fits first o os h = ap (λ b. cond b (is_tight first && are_tight (o ∷ os)) true) (eq-eqb _ 12 h)

  other_fits : (first : Expression) (o : Operand) (os : List Operand) → level_of true (out-Operand o).operator.kind ≤ 11 → operands_fit 12 (Some (first, o ∷ os)) ≡ true
  other_fits first o os h = by_test (eqb (level_of true (out-Operand o).operator.kind) 12) refl
    where
      by_test : (b : Bool) → eqb (level_of true (out-Operand o).operator.kind) 12 ≡ b → cond b (is_tight first && are_tight (o ∷ os)) true ≡ true
      by_test false e = refl
      by_test true e = let same = eqb-true _ 12 e in absurd (omega (arith, same, h))

  coalesce_there : (x : Expression) → Chained c 12 (Tight 11) (Tight 11) x × (fits_level 12 x ≡ true) → Tight 12 x
  coalesce_there x (inl h, fits) = looser_of 11 12 x (omega arith) (omega arith) h
  coalesce_there x (inr l, fits) =
      let made = l.tail.0 in
      let kind : (out-Operand l.second).operator.kind ≡ k.QuestionQuestion = ap (λ y. (out-Operand y).operator.kind) made.1 ∙ ap (λ (u : Token). u.kind) (operator_of made.0) ∙ twelve_is c.has_in made.0.0.kind made.2.0 in
      let fit = sym (ap (fits_level 12) l.is ∙ fits_Binary 12 l.first (l.second ∷ l.rest) ∙ coalesce_fits l.first l.second l.rest (ap (level_of true) kind)) ∙ fits in
      subst (Tight 12) (sym l.is) (IsBinary.operators 12 l.first l.second l.rest (omega arith) (omega arith) (tighter_of 11 9 l.first (omega arith) l.head (le_true _ 9 (and_left _ _ fit))) (tight_operands (l.second ∷ l.rest) l.tail (and_right _ _ fit)))

  coalesce_back : (x : Expression) → Tight 12 x → Chained c 12 (Tight 11) (Tight 11) x × (fits_level 12 x ≡ true)
  coalesce_back x (unary_expression h) = (inl (unary_expression h), fits_unary 12 h)
  coalesce_back x (exponentiation first second rest low h powers) =
      let e = power_at second rest powers in
      (inl (exponentiation first second rest (omega arith) h powers), fits_Binary 12 first (second ∷ rest) ∙ other_fits first second rest (omega (arith, e)))
  coalesce_back x (IsBinary.operators own first second rest low high h others) = by_own (cases_lt own 12)
    where
      by_own : (own < 12) ⊎ (12 ≤ own) → Chained c 12 (Tight 11) (Tight 11) (e.Binary first (second ∷ rest)) × (fits_level 12 (e.Binary first (second ∷ rest)) ≡ true)
      by_own (inl less) =
          let e = operator_at own second rest low others in
          (inl (IsBinary.operators own first second rest low (omega (arith, less)) h others), fits_Binary 12 first (second ∷ rest) ∙ other_fits first second rest (omega (arith, e, less)))
      by_own (inr more) =
          let same : own ≡ 12 = omega (arith, more, high) in
          let head = subst (λ l. Tight (operand_level l) first) same h in
          let all = subst (λ l. AreOperands text l c (second ∷ rest)) same others in
          let each = all_tight (second ∷ rest) all in
          let twelve : level_of true (out-Operand second).operator.kind ≡ 12 = operator_at 12 second rest (omega arith) all in (
            inr (record { first = first; second = second; rest = rest; is = refl; head = looser_of 9 11 first (omega arith) (omega arith) head; tail = each.0 }),
            fits_Binary 12 first (second ∷ rest) ∙ coalesce_fits first second rest twelve ∙ and_both _ _ (tight_is first head) each.1,
          )

  -- ---- the levels between
  between : (level : ℕ) (o : Option (Expression × List Operand)) → eqb level 1 ≡ false → eqb level loosest ≡ false → operands_fit level o ≡ true
  between level None one twelve = refl
  between level (Some p) one twelve =
      ap (λ b. cond b (powers_fit p.0 p.1) (cond (eqb level loosest && eqb (operands_level p.1) loosest) (is_tight p.0 && are_tight p.1) true)) one
      ∙ ap (λ b. cond (b && eqb (operands_level p.1) loosest) (is_tight p.0 && are_tight p.1) true) twelve

  not_same : (a b : ℕ) → (a ≡ b → ⊥) → eqb a b ≡ false
  not_same a b other = by_test (eqb a b) refl
    where
      by_test : (t : Bool) → eqb a b ≡ t → t ≡ false
      by_test false h = refl
      by_test true h = absurd (other (eqb-true _ _ h))

  between_fits : (level : ℕ) (x : Expression) → 1 < level → level < loosest → fits_level level x ≡ true
  unfolding fits_level
  between_fits level x low high = between level (operands_layer (out-Expression x)) (not_same level 1 (λ e. omega (arith, e, low))) (not_same level loosest (λ e. omega (arith, e, high)))

  ends_chains : (tight : ℕ) → EndsChains text c tight (ends_binary c tight) (ends_binary c (suc tight))
  ends_chains tight =
      let ends = ends_operators c tight (Tight tight) in
      record { apart = ends.apart; alone = ends.alone; last = ends.last; no_operator = ends.no_operator }

  module _ (n : ℕ) (tighter : Reader (Node Expression)) where
    abbrev Step : ℕ → Reader (Node Expression)
    Step level = step text n c level tighter tighter

    chained : (level : ℕ) → Rule text (expressions (Tight level)) n (suc n) (ends_binary c level) tighter
        → Rule text (expressions (λ x. Chained c (suc level) (Tight level) (Tight level) x × (fits_level (suc level) x ≡ true))) n (suc n) (ends_binary c (suc level)) (Step (suc level))
    unfolding items at_operator operands
    chained level rule =
        such_rule text (expressions (Chained c (suc level) (Tight level) (Tight level))) n (suc n) (ends_binary c (suc level)) (fits_level (suc level)) (chain n e.Binary tighter (items text c (suc level) tighter))
        (chains_rule text c n level (Tight level) (Tight level) (ends_binary c level) (ends_binary c level) (ends_binary c (suc level)) tighter tighter rule rule (ends_operators c level (Tight level)))

    middle : (level : ℕ) → 1 ≤ level → suc level < loosest → Rule text (expressions (Tight level)) n (suc n) (ends_binary c level) tighter → Rule text (expressions (Tight (suc level))) n (suc n) (ends_binary c (suc level)) (Step (suc level))
    unfolding items at_operator operators operands
    middle level low high rule =
        same_rule text (expressions (λ x. Tight (suc level) x × (fits_level (suc level) x ≡ true))) (expressions (Tight (suc level))) n (suc n) (ends_binary c (suc level)) (ends_binary c (suc level)) (Step (suc level))
        (such_rule text (expressions (Tight (suc level))) n (suc n) (ends_binary c (suc level)) (fits_level (suc level)) (chain n e.Binary tighter (items text c (suc level) tighter))
        (operators_rule text c n level (ends_binary c level) (ends_binary c (suc level)) tighter low high rule (ends_chains level)))
        refl refl (λ x h. h.0) (λ x h. (h, between_fits (suc level) x (omega (arith, low)) high)) (λ x t good h. h)

    stepped : (level : ℕ) → suc level ≤ loosest → Rule text (expressions (Tight level)) n (suc n) (ends_binary c level) tighter → Rule text (expressions (Tight (suc level))) n (suc n) (ends_binary c (suc level)) (Step (suc level))
    stepped zero high rule =
        same_rule text (expressions (λ x. Chained c 1 (Tight 0) (Tight 0) x × (fits_level 1 x ≡ true))) (expressions (Tight 1)) n (suc n) (ends_binary c 1) (ends_binary c 1) (Step 1)
        (chained 0 rule) refl refl powers_there powers_back (λ x t good h. h)
    stepped (suc level) high rule = by_level (cases_lt (suc (suc level)) loosest) rule
      where
        coalesce : Rule text (expressions (Tight 11)) n (suc n) (ends_binary c 11) tighter → Rule text (expressions (Tight 12)) n (suc n) (ends_binary c 12) (Step 12)
        coalesce rule =
            same_rule text (expressions (λ x. Chained c 12 (Tight 11) (Tight 11) x × (fits_level 12 x ≡ true))) (expressions (Tight 12)) n (suc n) (ends_binary c 12) (ends_binary c 12) (Step 12)
            (chained 11 rule) refl refl coalesce_there coalesce_back (λ x t good h. h)

        by_level : (suc (suc level) < loosest) ⊎ (loosest ≤ suc (suc level)) → Rule text (expressions (Tight (suc level))) n (suc n) (ends_binary c (suc level)) tighter → Rule text (expressions (Tight (suc (suc level)))) n (suc n) (ends_binary c (suc (suc level))) (Step (suc (suc level)))
        by_level (inl less) rule = middle (suc level) (omega arith) less rule
        by_level (inr more) rule =
            let same : 11 ≡ suc level = omega (arith, more, high) in
            subst (λ l. Rule text (expressions (Tight l)) n (suc n) (ends_binary c l) tighter → Rule text (expressions (Tight (suc l))) n (suc n) (ends_binary c (suc l)) (Step (suc l))) same coalesce rule

  binary_read : (n : ℕ) (operand : Reader (Node Expression)) → Rule text (expressions (IsUnary text c)) n (suc n) ends_unary operand → (level : ℕ) → level ≤ loosest → Rule text (expressions (Tight level)) n (suc n) (ends_binary c level) (binary text n c operand level)
  unfolding ladder
  binary_read n operand rule zero high =
      same_rule text (expressions (IsUnary text c)) (expressions (Tight 0)) n (suc n) ends_unary (ends_binary c 0) operand rule refl refl (λ x h. unary_expression h) unary_in (λ x t good h. and_left _ _ h)
  binary_read n operand rule (suc level) high = stepped n (binary text n c operand level) level high (binary_read n operand rule level (omega (arith, high)))

pub binary_rule : BinaryRule
binary_rule text c n level operand high rule = binary_read text c n operand rule level high
