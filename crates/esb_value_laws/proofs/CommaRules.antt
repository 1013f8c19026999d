-- Expressions with commas are read exactly.
use Rattle.std.proofs.Common.{◌≡◌, ◌⊎◌, inl, inr, ℕ, suc, max, Bool, true, false, not, ◌&&◌, ◌||◌, cond, List, [], ◌∷◌, map, refl, ap, sym, ◌∙◌, subst, arith}
use Rattle.std.specs.List.{AllByRecursion}
use Rattle.esb_token.specs.declared.kind.Kind.{Kind}
use Rattle.esb_token.specs.declared.kind.Kind.TheVariants as k
use Rattle.esb_token.specs.declared.token.Token.{Token}
use Rattle.esb_token.specs.Tokens.{SpelledBetween}
use Rattle.esb_tree.specs.declared.expressions.Expression.{Expression}
use Rattle.esb_tree.specs.declared.expressions.Expression.TheVariants as e
use Rattle.esb_tree.specs.declared.expressions.Operand.{Operand, out-Operand, roll-out-Operand, out-roll-Operand}
use Rattle.esb_tree.specs.Levels.{depth_of_expression, depth_of_operand}
use Rattle.esb_tree.specs.Operators.{level_of, is_assignment}
use Rattle.esb_tree.specs.Trees.{written}
use Rattle.esb_tree.specs.Yields.{tokens_of_expression, tokens_of_operand}
use Rattle.esb_tree.proofs.LevelLines.{levels_Binary, levels_Operand}
use Rattle.esb_tree.proofs.TokenLines.{tokens_Binary, tokens_Operand}
use Rattle.esb_grammar.specs.declared.context.Context.{Context}
use Rattle.esb_grammar.specs.Edges.{last_of, ends_assignment, operand_ends_assignment}
use Rattle.esb_grammar.specs.Grammar.{loosest, IsAssignment, IsExpression, assignment_expression, commas, AreCommaOperands, no_comma_operands, comma_operand}
use Rattle.esb_grammar.specs.Kinds.{begins_link, is_binding, is_comma, is_function, is_star, is_update}
use Rattle.esb_grammar.proofs.EdgeLines.{ends_Binary}
use Rattle.esb_reader.specs.declared.node.Node.{Node}
use Rattle.esb_reader.specs.Places.{Text}
use Rattle.esb_reader.specs.Reader.{Reader}
use Rattle.esb_reader.specs.Parts.{behind, both, token, many}
use Rattle.esb_reader.specs.Stands.{Syntax, Rule, Made, tokens, pairs, last_stops}
use Rattle.esb_reading_laws.specs.Laws.{Repeats, Extends, Longer}
use Rattle.esb_reading_laws.proofs.Chains.{chain_rule}
use Rattle.esb_reading_laws.proofs.Composed.{token_rule, both_rule, plain_rule}
use Rattle.esb_reading_laws.proofs.Rows.{many_rule, no_items}
use Rattle.esb_expression_laws.specs.Leaves.{expressions}
use Rattle.esb_expression_laws.specs.Operators.{make_operand, operand_stops}
use Rattle.esb_expression_laws.proofs.OperatorChains.{spelled_moves}
use Rattle.esb_operator_laws.specs.Ends.{is_within}
use Rattle.esb_operator_laws.specs.Postfix.{ends_postfix, operand_ends_postfix}
use Rattle.esb_operator_laws.proofs.PostfixLines.{postfix_Binary, postfix_Operand}
use Rattle.esb_operator_laws.proofs.TokenTests.{and_left, and_right, not_true}
use Rattle.esb_first_tokens.specs.First.{begins_value, shows}
use Rattle.esb_assignment_laws.specs.Values.{anywhere, is_arrow, is_question, ends_by, ends_value}
use Rattle.esb_literal_laws.proofs.Seen.{sees_kind}
use Rattle.esb_value_laws.specs.Commas as read
use Rattle.esb_value_laws.specs.Commas.{begins_comma, ends_expression}
use Rattle.esb_value_laws.specs.Laws.{ExpressionRule}
use Rattle.esb_value_laws.proofs.OperandEdges.{ends_Operand}
use Rattle.esb_value_laws.proofs.Places.{ends_same}

-- a comma ends each value
comma_kind : (has_in a p l : Bool) (kind : Kind) → is_comma kind ≡ true
    → cond a (not (l && (is_star kind || shows (begins_value anywhere) kind))) (((p || not ((begins_link kind || (is_function kind && l)) || (is_update kind && l))) && not (is_within loosest (level_of has_in kind))) && not (is_question kind || (is_assignment kind || (l && (is_arrow kind || is_binding kind))))) ≡ true
comma_kind has_in true p true k.Comma h = refl
comma_kind has_in true p false k.Comma h = refl
comma_kind has_in false true true k.Comma h = refl
comma_kind has_in false true false k.Comma h = refl
comma_kind has_in false false true k.Comma h = refl
comma_kind has_in false false false k.Comma h = refl
comma_kind has_in a p l _ h = cc

pub comma_ends : (c : Context) (x : Expression) (t : Token) → begins_comma t ≡ true → ends_value c x t ≡ true
comma_ends c x t h = comma_kind c.has_in (ends_assignment x) (ends_postfix x) (not t.after_line) t.kind h

edge_of : (o : Operand) → operand_ends_assignment o ≡ ends_assignment (out-Operand o).value
edge_of o = ap operand_ends_assignment (sym (roll-out-Operand o)) ∙ ends_Operand (out-Operand o).operator (out-Operand o).value

postfix_of : (o : Operand) → operand_ends_postfix o ≡ ends_postfix (out-Operand o).value
postfix_of o = ap operand_ends_postfix (sym (roll-out-Operand o)) ∙ postfix_Operand (out-Operand o).operator (out-Operand o).value

-- the last value ends as the chain does
last_ends : (c : Context) (os : List Operand) (t : Token) → ends_by c (last_of (map operand_ends_assignment os)) (last_of (map operand_ends_postfix os)) t ≡ true → last_stops (operand_stops (ends_value c)) os t ≡ true
last_ends c [] t h = refl
last_ends c (o ∷ []) t h = ends_same c t (edge_of o) (postfix_of o) h
last_ends c (o ∷ p ∷ os) t h = last_ends c (p ∷ os) t h

module _ (text : Text) (c : Context) (n : ℕ) (value : Reader (Node Expression)) (rule : Rule text (expressions (IsAssignment text c)) n (suc n) (ends_value c) value) where
  abbrev Values : Syntax Expression
  Values = expressions (IsAssignment text c)

  abbrev Parts : Syntax (Token × Expression)
  Parts = pairs (tokens k.Comma) Values

  abbrev Operands : Syntax Operand
  Operands = record { yields = tokens_of_operand written; levels_of = depth_of_operand; Good = Made Parts make_operand }

  value_of : (p : Token × Expression) → (out-Operand (make_operand p)).value ≡ p.1
  value_of p = ap (λ o. o.value) (out-roll-Operand (record { operator = p.0; value = p.1 }))

  zero_max : (m : ℕ) → m ≡ max 0 m
  zero_max m = omega arith

  operand_rule : Rule text Operands n (suc n) (operand_stops (ends_value c)) (read.comma_operand text value)
  unfolding read.comma_operand
  operand_rule =
      plain_rule text Parts (tokens_of_operand written) depth_of_operand n (suc n) (λ p. ends_value c p.1) (operand_stops (ends_value c)) make_operand (both (token text k.Comma) value)
      (both_rule text (tokens k.Comma) Values n (suc n) (λ _ _. true) (ends_value c) (λ p. ends_value c p.1) (token text k.Comma) value
      (token_rule text n (suc n) k.Comma refl) rule (λ a b t h. h) (λ a b m j ga gb h stop. refl))
      (λ p. tokens_Operand written p.0 p.1) (λ p. levels_Operand p.0 p.1 ∙ zero_max (depth_of_expression p.1)) (λ p t h. ap (λ x. ends_value c x t) (sym (value_of p)) ∙ h)

  spelled_operand : (o : Operand) (i j : ℕ) (good : Operands.Good o) → SpelledBetween text i (tokens_of_operand written o) j → SpelledBetween text i (good.0.0 ∷ tokens_of_expression written good.0.1) j
  spelled_operand o i j good h = subst (λ ts. SpelledBetween text i ts j) (ap (tokens_of_operand written) good.1 ∙ tokens_Operand written good.0.0 good.0.1) h

  starts : (o : Operand) (i j : ℕ) → Operands.Good o → SpelledBetween text i (tokens_of_operand written o) j → begins_comma (behind text i) ≡ true
  starts o i j good h = ap begins_comma (sees_kind text i good.0.0 (tokens_of_expression written good.0.1) j k.Comma (spelled_operand o i j good h) good.2.0 refl) ∙ ap is_comma good.2.0

  repeats : Repeats text Operands n (suc n) (λ i. begins_comma (behind text i)) (operand_stops (ends_value c)) (read.comma_operand text value)
  repeats = record {
    rule = operand_rule;
    starts = starts;
    moves = λ o i j good h. spelled_moves text i good.0.0 (tokens_of_expression written good.0.1) j (spelled_operand o i j good h);
    apart = λ o i good h. comma_ends c (out-Operand o).value (behind text i) h;
  }

  all_operands : (os : List Operand) → AreCommaOperands text c os → AllByRecursion Operands.Good os
  all_operands [] h = tt
  all_operands (o ∷ os) (comma_operand {comma = t} {x = x} is good more) = (((t, x), refl, (is, good)), all_operands os more)

  are_operands : (os : List Operand) → AllByRecursion Operands.Good os → AreCommaOperands text c os
  are_operands [] h = no_comma_operands
  are_operands (o ∷ os) h = let made = h.0 in subst (λ y. AreCommaOperands text c (y ∷ os)) (sym made.1) (comma_operand made.2.0 made.2.1 (are_operands os h.1))

  split : (x : Expression) → IsExpression text c x → IsAssignment text c x ⊎ Longer Operands (IsAssignment text c) e.Binary x
  split x (assignment_expression h) = inl h
  split x (commas first second rest h others) = inr (record { first = first; second = second; rest = rest; is = refl; head = h; tail = all_operands (second ∷ rest) others })

  extends : Extends text (expressions (λ x. Unit {0})) Operands (IsAssignment text c) (IsExpression text c) e.Binary begins_comma (ends_value c) (operand_stops (ends_value c)) (ends_expression c)
  extends = record {
    yields = λ first items. tokens_Binary written first items;
    levels_of = λ first items. levels_Binary first items;
    alone = λ x h. assignment_expression h;
    made = λ first second rest good others. commas first second rest good (are_operands (second ∷ rest) others);
    split = split;
    starts = starts;
    head_apart = λ x t good h. comma_ends c x t h;
    head_ends = λ x t good h. and_left _ _ h;
    item_ends = λ first second rest t h. last_ends c (second ∷ rest) t (ends_same c t (ends_Binary first (second ∷ rest)) (postfix_Binary first (second ∷ rest)) (and_left _ _ h));
    none_begins = λ x t h. not_true _ (and_right (ends_value c x t) _ h);
  }

  expression_read : Rule text (expressions (IsExpression text c)) n (suc n) (ends_expression c) (read.expression text n value)
  unfolding read.expression read.comma_operands
  expression_read =
      chain_rule text n (suc n) (expressions (λ x. Unit {0})) Operands (IsAssignment text c) (IsExpression text c) e.Binary begins_comma (ends_value c) (operand_stops (ends_value c)) (ends_expression c) value (many text begins_comma (read.comma_operand text value))
      rule (many_rule text Operands n (suc n) begins_comma (operand_stops (ends_value c)) (read.comma_operand text value) repeats) (λ j h. no_items text begins_comma (read.comma_operand text value) j h) (omega arith) extends

pub expression_rule : ExpressionRule
expression_rule text c n value rule = expression_read text c n value rule
