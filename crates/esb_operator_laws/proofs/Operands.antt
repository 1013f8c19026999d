-- Operators of a level and their operands, which may be nodes of any sort.
use Rattle.std.proofs.Common.{◌≡◌, ℕ, suc, ◌⊎◌, inl, inr, max, Bool, true, false, eqb, List, ◌∷◌, refl, ap, sym, ◌∙◌, subst, arith}
use Rattle.std.proofs.lemmas.Bool.{eqb-true}
use Rattle.esb_token.specs.declared.kind.Kind.{Kind}
use Rattle.esb_token.specs.declared.kind.Kind.TheVariants as k
use Rattle.esb_token.specs.declared.token.Token.{Token}
use Rattle.esb_token.specs.declared.goal.Goal.TheVariants as goal
use Rattle.esb_token.specs.Tokens.{SpelledBetween}
use Rattle.esb_tree.specs.declared.expressions.Expression.{Expression}
use Rattle.esb_tree.specs.declared.expressions.Expression.TheVariants as e
use Rattle.esb_tree.specs.declared.expressions.Operand.{Operand, out-Operand, out-roll-Operand}
use Rattle.esb_tree.specs.Levels.{depth_of_operand, depth_of_expression}
use Rattle.esb_tree.specs.Operators.{level_of}
use Rattle.esb_tree.specs.Trees.{written}
use Rattle.esb_tree.specs.Yields.{tokens_of_operand, tokens_of_expression}
use Rattle.esb_tree.proofs.TokenLines.{tokens_Binary, tokens_Operand}
use Rattle.esb_tree.proofs.LevelLines.{levels_Binary, levels_Operand}
use Rattle.esb_grammar.specs.declared.context.Context.{Context}
use Rattle.esb_reader.specs.declared.node.Node.{Node}
use Rattle.esb_reader.specs.Kinds.{agrees}
use Rattle.esb_reader.specs.Places.{Text}
use Rattle.esb_reader.specs.Reader.{Reader}
use Rattle.esb_reader.specs.Parts.{behind, both, token_in, many, chain}
use Rattle.esb_reader.specs.Stands.{last_stops, Syntax, Rule, Made, tokens_in, pairs}
use Rattle.esb_reader.proofs.Agreeing.{seen, spelled-is_read}
use Rattle.esb_reading_laws.specs.Laws.{Repeats, Longer, Extends}
use Rattle.esb_reading_laws.proofs.Composed.{token_in_rule, both_rule, plain_rule}
use Rattle.esb_reading_laws.proofs.Rows.{many_rule, no_items}
use Rattle.esb_reading_laws.proofs.Chains.{chain_rule}
use Rattle.esb_expression_laws.specs.Leaves.{expressions}
use Rattle.esb_expression_laws.specs.Operators as read
use Rattle.esb_expression_laws.specs.Operators.{is_operator, make_operand, operand_stops}
use Rattle.esb_expression_laws.proofs.OperatorChains.{spelled_moves}

no_level : (own : ℕ) → eqb 0 (suc own) ≡ true → ⊥
no_level own h = let same : 0 ≡ suc own = eqb-true _ _ h in absurd (omega (arith, same))

operator_agrees : (has_in : Bool) (own : ℕ) (kind : Kind) → eqb (level_of has_in kind) (suc own) ≡ true → agrees goal.Div kind ≡ true
operator_agrees has_in own k.End h = absurd (no_level own h)
operator_agrees has_in own k.RegExp h = absurd (no_level own h)
operator_agrees has_in own k.TemplateMiddle h = absurd (no_level own h)
operator_agrees has_in own k.TemplateTail h = absurd (no_level own h)
operator_agrees has_in own _ h = refl

-- an operand is what it is made of
pub value_of : (p : Token × Expression) → (out-Operand (make_operand p)).value ≡ p.1
value_of p = ap (λ o. o.value) (out-roll-Operand (record { operator = p.0; value = p.1 }))

pub operator_of : (p : Token × Expression) → (out-Operand (make_operand p)).operator ≡ p.0
operator_of p = ap (λ o. o.operator) (out-roll-Operand (record { operator = p.0; value = p.1 }))

-- operators of a level, each with an operand of some sort
abbrev pub operand_parts : Context → ℕ → (Expression → Type 0) → Syntax (Token × Expression)
operand_parts c own Value = pairs (tokens_in (is_operator c own)) (expressions Value)

abbrev pub operands_of : Context → ℕ → (Expression → Type 0) → Syntax Operand
operands_of c own Value = record { yields = tokens_of_operand written; levels_of = depth_of_operand; Good = Made (operand_parts c own Value) make_operand }

-- a first operand, or a chain of it and others
abbrev pub Chained : Context → ℕ → (Expression → Type 0) → (Expression → Type 0) → Expression → Type 0
Chained c own Head Value x = Head x ⊎ Longer (operands_of c own Value) Head e.Binary x

-- what ends a chain of the operators
pub record EndsOperators (c : Context) (tight : ℕ) (Head Value : Expression → Type 0) (head_stops stops whole : Expression → Token → Bool) : Type 0 where
  pub head_apart : (x : Expression) (t : Token) → Head x → is_operator c (suc tight) t ≡ true → head_stops x t ≡ true
  pub apart : (x : Expression) (t : Token) → Value x → is_operator c (suc tight) t ≡ true → stops x t ≡ true
  pub alone : (x : Expression) (t : Token) → Head x → whole x t ≡ true → head_stops x t ≡ true
  pub last : (first : Expression) (second : Operand) (rest : List Operand) (t : Token) → whole (e.Binary first (second ∷ rest)) t ≡ true → last_stops (operand_stops stops) (second ∷ rest) t ≡ true
  pub no_operator : (x : Expression) (t : Token) → whole x t ≡ true → is_operator c (suc tight) t ≡ false

-- `head` reads the first operand, `tighter` the others.
module _ (text : Text) (c : Context) (n tight : ℕ) (Head Value : Expression → Type 0) (head_stops stops whole : Expression → Token → Bool) (head tighter : Reader (Node Expression))
    (head_rule : Rule text (expressions Head) n (suc n) head_stops head) (rule : Rule text (expressions Value) n (suc n) stops tighter) (ends : EndsOperators c tight Head Value head_stops stops whole) where
  abbrev own : ℕ
  own = suc tight

  abbrev Values : Syntax Expression
  Values = expressions Value

  abbrev Parts : Syntax (Token × Expression)
  Parts = operand_parts c own Value

  abbrev Operands : Syntax Operand
  Operands = operands_of c own Value

  zero_max : (m : ℕ) → m ≡ max 0 m
  zero_max m = omega arith

  operand_rule : Rule text Operands n (suc n) (operand_stops stops) (read.operand text c own tighter)
  unfolding read.operand
  operand_rule =
      plain_rule text Parts (tokens_of_operand written) depth_of_operand n (suc n) (λ p. stops p.1) (operand_stops stops) make_operand (both (token_in text goal.Div (is_operator c own)) tighter)
      (both_rule text (tokens_in (is_operator c own)) Values n (suc n) (λ _ _. true) stops (λ p. stops p.1) (token_in text goal.Div (is_operator c own)) tighter
      (token_in_rule text n (suc n) goal.Div (is_operator c own) (λ t h. operator_agrees c.has_in tight t.kind h)) rule (λ a b t h. h) (λ a b m j ga gb h stop. refl))
      (λ p. tokens_Operand written p.0 p.1) (λ p. levels_Operand p.0 p.1 ∙ zero_max (depth_of_expression p.1)) (λ p t h. ap (λ x. stops x t) (sym (value_of p)) ∙ h)

  spelled_operand : (o : Operand) (i j : ℕ) (good : Operands.Good o) → SpelledBetween text i (tokens_of_operand written o) j → SpelledBetween text i (good.0.0 ∷ tokens_of_expression written good.0.1) j
  spelled_operand o i j good h = subst (λ ts. SpelledBetween text i ts j) (ap (tokens_of_operand written) good.1 ∙ tokens_Operand written good.0.0 good.0.1) h

  starts : (o : Operand) (i j : ℕ) → Operands.Good o → SpelledBetween text i (tokens_of_operand written o) j → is_operator c own (behind text i) ≡ true
  starts o i j good h =
      let t = good.0.0 in
      let spelled = spelled_operand o i j good h in
      ap (is_operator c own) (seen text goal.Div i t (spelled-is_read text goal.Div i t spelled.0 (operator_agrees c.has_in tight t.kind good.2.0))) ∙ good.2.0

  repeats : Repeats text Operands n (suc n) (λ i. is_operator c own (behind text i)) (operand_stops stops) (read.operand text c own tighter)
  repeats = record {
    rule = operand_rule;
    starts = starts;
    moves = λ o i j good h. spelled_moves text i good.0.0 (tokens_of_expression written good.0.1) j (spelled_operand o i j good h);
    apart = λ o i good h. ap (λ x. stops (out-Operand x).value (behind text i)) good.1 ∙ ap (λ x. stops x (behind text i)) (value_of good.0) ∙ ends.apart good.0.1 (behind text i) good.2.1 h;
  }

  abbrev Chains : Expression → Type 0
  Chains = Chained c own Head Value

  extends : Extends text (expressions (λ x. Unit {0})) Operands Head Chains e.Binary (is_operator c own) head_stops (operand_stops stops) whole
  extends = record {
    yields = λ first items. tokens_Binary written first items;
    levels_of = λ first items. levels_Binary first items;
    alone = λ x h. inl h;
    made = λ first second rest good others. inr (record { first = first; second = second; rest = rest; is = refl; head = good; tail = others });
    split = λ x h. h;
    starts = starts;
    head_apart = λ x t good h. ends.head_apart x t good h;
    head_ends = λ x t good h. ends.alone x t good h;
    item_ends = ends.last;
    none_begins = ends.no_operator;
  }

  pub chains_rule : Rule text (expressions Chains) n (suc n) whole (chain n e.Binary head (read.operands text c own tighter))
  unfolding read.operands
  chains_rule =
      chain_rule text n (suc n) (expressions (λ x. Unit {0})) Operands Head Chains e.Binary (is_operator c own) head_stops (operand_stops stops) whole head (many text (is_operator c own) (read.operand text c own tighter))
      head_rule (many_rule text Operands n (suc n) (is_operator c own) (operand_stops stops) (read.operand text c own tighter) repeats) (λ j h. no_items text (is_operator c own) (read.operand text c own tighter) j h) (omega arith) extends
