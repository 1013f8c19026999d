-- Choices and assignments are read exactly.
use Rattle.std.proofs.Common.{◌≡◌, ℕ, suc, ◌+◌, ◌⊎◌, inl, inr, max, Bool, true, false, not, ◌&&◌, ◌||◌, cond, refl, ap, sym, ◌∙◌, subst, arith}
use Rattle.esb_token.specs.declared.kind.Kind.{Kind}
use Rattle.esb_token.specs.declared.kind.Kind.TheVariants as k
use Rattle.esb_token.specs.declared.token.Token.{Token}
use Rattle.esb_token.specs.declared.goal.Goal.TheVariants as goal
use Rattle.esb_token.specs.Tokens.{SpelledBetween}
use Rattle.esb_tree.specs.declared.classes.ClassElement.TheOpen.{Expression-F}
use Rattle.esb_tree.specs.declared.expressions.Expression.{Expression, out-Expression}
use Rattle.esb_tree.specs.declared.expressions.Expression.TheVariants as e
use Rattle.esb_tree.specs.Levels.{depth_of_expression}
use Rattle.esb_tree.specs.Operators.{level_of, is_assignment}
use Rattle.esb_tree.specs.Trees.{written}
use Rattle.esb_tree.proofs.TokenLines.{tokens_Conditional, tokens_Assignment}
use Rattle.esb_tree.proofs.LevelLines.{levels_Conditional, levels_Assignment}
use Rattle.esb_grammar.specs.declared.context.Context.{Context}
use Rattle.esb_grammar.specs.Contexts.{inside}
use Rattle.esb_grammar.specs.Edges.{ends_assignment}
use Rattle.esb_grammar.specs.Grammar.{loosest, IsLeftHandSide, IsUpdate, update, IsBinary, unary_expression, exponentiation, IsConditional, short_circuit, conditional, IsAssignment, conditional_expression}
use Rattle.esb_grammar.specs.Kinds.{begins_link, is_function, is_update}
use Rattle.esb_grammar.proofs.EdgeLines.{ends_Conditional, ends_Assignment}
use Rattle.esb_grammar.proofs.Shapes.{Layer, is_unary_layer, is_update_layer, is_left_layer, unary_shape, left_shape, unary_of, update_of, left_of}
use Rattle.esb_reader.specs.declared.node.Node.{Node}
use Rattle.esb_reader.specs.Kinds.{agrees}
use Rattle.esb_reader.specs.Places.{Text}
use Rattle.esb_reader.specs.Reader.{Reader}
use Rattle.esb_reader.specs.Parts.{behind, both, token, token_in}
use Rattle.esb_reader.specs.Stands.{Syntax, Rule, tokens, tokens_in, pairs}
use Rattle.esb_reader.proofs.Agreeing.{seen, spelled-is_read}
use Rattle.esb_reading_laws.proofs.Composed.{token_rule, token_in_rule, both_rule, same_rule}
use Rattle.esb_expression_laws.specs.Leaves.{expressions}
use Rattle.esb_operator_laws.specs.Postfix.{ends_postfix}
use Rattle.esb_operator_laws.specs.Suffixes.{WithSuffix}
use Rattle.esb_operator_laws.specs.Ends.{is_within, ends_binary}
use Rattle.esb_operator_laws.proofs.PostfixLines.{postfix_Conditional, postfix_Assignment}
use Rattle.esb_operator_laws.proofs.Suffixing.{extended_rule}
use Rattle.esb_operator_laws.proofs.TokenTests.{and_left, and_right, and_both, or_right, neither_left, neither_right, not_true, false_not}
use Rattle.esb_assignment_laws.specs.Values.{is_question, is_colon, left_layer, is_left, choice_layer, is_choice, value_goes_on, ends_by, ends_value, ends_choice}
use Rattle.esb_assignment_laws.specs.Assignments.{begins_question, begins_assignment, make_choice, make_assignment, chosen, assigned}
use Rattle.esb_assignment_laws.specs.Laws.{IsAssigned, assigns, ChoiceRule, AssignedRule}
use Rattle.esb_assignment_laws.proofs.Ending.{binary_ends}

-- ---- kinds

question_is : (kind : Kind) → is_question kind ≡ true → kind ≡ k.Question
question_is k.Question h = refl
question_is _ h = cc

-- what `?` and the operators of assignments don't go on with
pub record Plain (has_in l : Bool) (kind : Kind) : Type 0 where
  pub operand : ((begins_link kind || (is_function kind && l)) || (is_update kind && l)) ≡ false
  pub operator : is_within 12 (level_of has_in kind) ≡ false

plain_question : (has_in l : Bool) → Plain has_in l k.Question
plain_question has_in l = record { operand = refl; operator = refl }

pub record Assigns (has_in l : Bool) (kind : Kind) : Type 0 where
  pub plain : Plain has_in l kind
  pub question : is_question kind ≡ false
  pub agreed : agrees goal.Div kind ≡ true

assigning : (has_in l : Bool) (kind : Kind) → is_assignment kind ≡ true → Assigns has_in l kind
assigning has_in l k.Assign h = record { plain = record { operand = refl; operator = refl }; question = refl; agreed = refl }
assigning has_in l k.PlusAssign h = record { plain = record { operand = refl; operator = refl }; question = refl; agreed = refl }
assigning has_in l k.MinusAssign h = record { plain = record { operand = refl; operator = refl }; question = refl; agreed = refl }
assigning has_in l k.StarAssign h = record { plain = record { operand = refl; operator = refl }; question = refl; agreed = refl }
assigning has_in l k.SlashAssign h = record { plain = record { operand = refl; operator = refl }; question = refl; agreed = refl }
assigning has_in l k.PercentAssign h = record { plain = record { operand = refl; operator = refl }; question = refl; agreed = refl }
assigning has_in l k.StarStarAssign h = record { plain = record { operand = refl; operator = refl }; question = refl; agreed = refl }
assigning has_in l k.ShiftLeftAssign h = record { plain = record { operand = refl; operator = refl }; question = refl; agreed = refl }
assigning has_in l k.ShiftRightAssign h = record { plain = record { operand = refl; operator = refl }; question = refl; agreed = refl }
assigning has_in l k.ShiftRightUnsignedAssign h = record { plain = record { operand = refl; operator = refl }; question = refl; agreed = refl }
assigning has_in l k.AmpersandAssign h = record { plain = record { operand = refl; operator = refl }; question = refl; agreed = refl }
assigning has_in l k.BarAssign h = record { plain = record { operand = refl; operator = refl }; question = refl; agreed = refl }
assigning has_in l k.CaretAssign h = record { plain = record { operand = refl; operator = refl }; question = refl; agreed = refl }
assigning has_in l _ h = cc

pub plain_ends : (c : Context) (x : Expression) (t : Token) → Plain c.has_in (not t.after_line) t.kind → ends_binary c loosest x t ≡ true
plain_ends c x t p = and_both _ _ (or_right (ends_postfix x) _ (false_not _ p.operand)) (false_not _ p.operator)

-- ---- the outside

no_choice_of : (x : Layer) → is_unary_layer x ≡ true → choice_layer x ≡ false
no_choice_of (Expression-F.Conditional test question x colon other) h = let never : false ≡ true = h in cc
no_choice_of _ h = refl

left_no_choice : (x : Layer) → left_layer x ≡ true → choice_layer x ≡ false
left_no_choice (Expression-F.Conditional test question x colon other) h = let never : false ≡ true = h in cc
left_no_choice _ h = refl

left_is : (x : Layer) → left_layer x ≡ true → is_left_layer x ≡ true
left_is (Expression-F.PrefixUpdate operator x) h = let never : false ≡ true = h in cc
left_is (Expression-F.PostfixUpdate x operator) h = let never : false ≡ true = h in cc
left_is (Expression-F.Unary operator x) h = let never : false ≡ true = h in cc
left_is (Expression-F.Await word x) h = let never : false ≡ true = h in cc
left_is (Expression-F.Binary first rest) h = let never : false ≡ true = h in cc
left_is (Expression-F.Conditional test question x colon other) h = let never : false ≡ true = h in cc
left_is (Expression-F.Assignment target operator x) h = let never : false ≡ true = h in cc
left_is (Expression-F.Arrow parameters arrow body) h = let never : false ≡ true = h in cc
left_is (Expression-F.AsyncArrow word name arrow body) h = let never : false ≡ true = h in cc
left_is (Expression-F.Yield word) h = let never : false ≡ true = h in cc
left_is (Expression-F.YieldValue word x) h = let never : false ≡ true = h in cc
left_is (Expression-F.YieldEach word star x) h = let never : false ≡ true = h in cc
left_is _ h = refl

is_left_of : (x : Layer) → is_left_layer x ≡ true → left_layer x ≡ true
is_left_of (Expression-F.PrefixUpdate operator x) h = let never : false ≡ true = h in cc
is_left_of (Expression-F.PostfixUpdate x operator) h = let never : false ≡ true = h in cc
is_left_of (Expression-F.Unary operator x) h = let never : false ≡ true = h in cc
is_left_of (Expression-F.Await word x) h = let never : false ≡ true = h in cc
is_left_of (Expression-F.Binary first rest) h = let never : false ≡ true = h in cc
is_left_of (Expression-F.Conditional test question x colon other) h = let never : false ≡ true = h in cc
is_left_of (Expression-F.Assignment target operator x) h = let never : false ≡ true = h in cc
is_left_of (Expression-F.Arrow parameters arrow body) h = let never : false ≡ true = h in cc
is_left_of (Expression-F.AsyncArrow word name arrow body) h = let never : false ≡ true = h in cc
is_left_of (Expression-F.Yield word) h = let never : false ≡ true = h in cc
is_left_of (Expression-F.YieldValue word x) h = let never : false ≡ true = h in cc
is_left_of (Expression-F.YieldEach word star x) h = let never : false ≡ true = h in cc
is_left_of _ h = refl

left_update_of : (x : Layer) → is_left_layer x ≡ true → is_update_layer x ≡ true
left_update_of (Expression-F.PrefixUpdate operator x) h = refl
left_update_of (Expression-F.PostfixUpdate x operator) h = refl
left_update_of _ h = h

update_unary_of : (x : Layer) → is_update_layer x ≡ true → is_unary_layer x ≡ true
update_unary_of (Expression-F.Unary operator x) h = refl
update_unary_of (Expression-F.Await word x) h = refl
update_unary_of _ h = h

choice_is : (test : Expression) (question : Token) (x : Expression) (colon : Token) (other : Expression) → is_choice (e.Conditional test question x colon other) ≡ true
unfolding is_choice out-Expression denote.Hole.Carrier.out
choice_is test question x colon other = refl

module _ (text : Text) (c : Context) where
  pub binary_no_choice : {x : Expression} → IsBinary text loosest c x → is_choice x ≡ false
  unfolding is_choice out-Expression denote.Hole.Carrier.out
  binary_no_choice {x} (unary_expression h) = no_choice_of (out-Expression x) (unary_shape h)
  binary_no_choice (exponentiation first second rest low h powers) = refl
  binary_no_choice (IsBinary.operators own first second rest low high h others) = refl

  left_plain : (x : Expression) → is_left x ≡ true → is_choice x ≡ false
  unfolding is_left is_choice
  left_plain x h = left_no_choice (out-Expression x) h

  left_hand_side : (x : Expression) → IsConditional text c x → is_left x ≡ true → IsLeftHandSide text c x
  unfolding is_left
  left_hand_side x h may =
      let l = left_is (out-Expression x) may in
      let u = left_update_of (out-Expression x) l in
      left_of (update_of (unary_of (conditional_expression h) (update_unary_of (out-Expression x) u)) u) l

  -- ---- choices

  abbrev Branches : Syntax ((Token × Expression) × (Token × Expression))
  Branches = pairs (pairs (tokens k.Question) (expressions (IsAssignment text (inside c)))) (pairs (tokens k.Colon) (expressions (IsAssignment text c)))

  abbrev Choices : Expression → Type 0
  Choices = WithSuffix (λ _. Branches) (IsBinary text loosest c) (λ _. true) make_choice

  choice_there : (x : Expression) → Choices x → IsConditional text c x
  choice_there x (inl h) = short_circuit h
  choice_there x (inr s) = subst (IsConditional text c) (sym s.is) (conditional s.head s.good.0.0 s.good.0.1 s.good.1.0 s.good.1.1)

  choice_back : (x : Expression) → IsConditional text c x → Choices x
  choice_back x (short_circuit h) = inl h
  choice_back x (conditional {test = test} {question = question} {x = y} {colon = colon} {other = other} h1 h2 h3 h4 h5) = inr (record { first = test; second = ((question, y), (colon, other)); is = refl; head = h1; may = refl; good = ((h2, h3), (h4, h5)) })

  binary_choice : (x : Expression) (t : Token) → IsBinary text loosest c x → ends_choice c x t ≡ true → (ends_binary c loosest x t && not (is_question t.kind)) ≡ true
  binary_choice x t good h = sym (ap (λ b. cond b (ends_value c x t) (ends_binary c loosest x t && not (is_question t.kind))) (binary_no_choice good)) ∙ h

  choice_value : (test : Expression) (p : (Token × Expression) × (Token × Expression)) (t : Token) → ends_choice c (make_choice test p) t ≡ true → ends_value c p.1.1 t ≡ true
  choice_value test p t h =
      ap (λ a. ends_by c a (ends_postfix p.1.1) t) (sym (ends_Conditional test p.0.0 p.0.1 p.1.0 p.1.1))
      ∙ ap (λ b. ends_by c (ends_assignment (make_choice test p)) b t) (sym (postfix_Conditional test p.0.0 p.0.1 p.1.0 p.1.1))
      ∙ sym (ap (λ b. cond b (ends_value c (make_choice test p) t) (ends_binary c loosest (make_choice test p) t && not (is_question t.kind))) (choice_is test p.0.0 p.0.1 p.1.0 p.1.1)) ∙ h

  module _ (n : ℕ) (test inner value : Reader (Node Expression)) (test_rule : Rule text (expressions (IsBinary text loosest c)) n (suc n) (ends_binary c loosest) test) (inner_rule : Rule text (expressions (IsAssignment text (inside c))) n n (λ _ t. is_colon t.kind) inner) (value_rule : Rule text (expressions (IsAssignment text c)) n n (ends_value c) value) where
    branches : Rule text Branches n n (λ p. ends_value c p.1.1) (both (both (token text k.Question) inner) (both (token text k.Colon) value))
    branches =
        both_rule text (pairs (tokens k.Question) (expressions (IsAssignment text (inside c)))) (pairs (tokens k.Colon) (expressions (IsAssignment text c))) n n (λ _ t. is_colon t.kind) (λ p. ends_value c p.1) (λ p. ends_value c p.1.1) (both (token text k.Question) inner) (both (token text k.Colon) value)
        (both_rule text (tokens k.Question) (expressions (IsAssignment text (inside c))) n n (λ _ _. true) (λ _ t. is_colon t.kind) (λ _ t. is_colon t.kind) (token text k.Question) inner (token_rule text n n k.Question refl) inner_rule (λ a b t h. h) (λ a b m j ga gb h stop. refl))
        (both_rule text (tokens k.Colon) (expressions (IsAssignment text c)) n n (λ _ _. true) (ends_value c) (λ p. ends_value c p.1) (token text k.Colon) value (token_rule text n n k.Colon refl) value_rule (λ a b t h. h) (λ a b m j ga gb h stop. refl))
        (λ a b t h. h)
        (λ a b m j ga gb h stop. ap (λ (t : Token). is_colon t.kind) (seen text goal.Div m b.0 (spelled-is_read text goal.Div m b.0 h.0 (ap (agrees goal.Div) gb.0))) ∙ ap is_colon gb.0)

    question_seen : (x : Expression) (p : (Token × Expression) × (Token × Expression)) (i j : ℕ) → Branches.Good p → SpelledBetween text i (Branches.yields p) j → begins_question (behind text i) ≡ true
    question_seen x p i j good h = ap begins_question (seen text goal.Div i p.0.0 (spelled-is_read text goal.Div i p.0.0 h.0 (ap (agrees goal.Div) good.0.0))) ∙ ap is_question good.0.0

    choice_read : Rule text (expressions (IsConditional text c)) n (suc n) (ends_choice c) (chosen text n test inner value)
    unfolding chosen
    choice_read =
        let whole = both (both (token text k.Question) inner) (both (token text k.Colon) value) in
        same_rule text (expressions Choices) (expressions (IsConditional text c)) n (suc n) (ends_choice c) (ends_choice c) (chosen text n test inner value)
        (extended_rule text n n (expressions (λ x. Unit {0})) (λ _. Branches) (IsBinary text loosest c) (λ _. true) make_choice begins_question (ends_binary c loosest) (λ x p. ends_value c p.1.1) (ends_choice c) test (λ _. whole)
        test_rule (λ x good may. branches) (omega arith)
        (record {
          yields = λ x p. tokens_Conditional written x p.0.0 p.0.1 p.1.0 p.1.1;
          levels_of = λ x p. levels_Conditional x p.0.0 p.0.1 p.1.0 p.1.1 ∙ (let e : max (depth_of_expression x) (max (depth_of_expression p.0.1) (depth_of_expression p.1.1)) + 1 ≡ max (depth_of_expression x) (max (max 0 (depth_of_expression p.0.1)) (max 0 (depth_of_expression p.1.1))) + 1 = omega arith in e);
          starts = question_seen;
          head_apart = λ x t good may h. plain_ends c x t (subst (Plain c.has_in (not t.after_line)) (sym (question_is t.kind h)) (plain_question c.has_in (not t.after_line)));
          head_ends = λ x t good h. and_left _ _ (binary_choice x t good h);
          part_ends = λ x p t good more h. choice_value x p t h;
          none_begins = λ x t good may h. not_true _ (and_right (ends_binary c loosest x t) _ (binary_choice x t good h));
        }))
        refl refl choice_there choice_back (λ x t good h. h)

  -- ---- assignments

  abbrev Values : Syntax (Token × Expression)
  Values = pairs (tokens_in begins_assignment) (expressions (IsAssignment text c))

  abbrev Targets : Expression → Type 0
  Targets = WithSuffix (λ _. Values) (IsConditional text c) is_left make_assignment

  assigned_there : (x : Expression) → Targets x → IsConditional text c x ⊎ IsAssigned text c x
  assigned_there x (inl h) = inl h
  assigned_there x (inr s) = inr (subst (IsAssigned text c) (sym s.is) (assigns (left_hand_side s.first s.head s.may) s.good.0 s.good.1))

  left_may : {x : Expression} → IsLeftHandSide text c x → is_left x ≡ true
  unfolding is_left
  left_may {x} h = is_left_of (out-Expression x) (left_shape h)

  assigned_back : (x : Expression) → IsConditional text c x ⊎ IsAssigned text c x → Targets x
  assigned_back x (inl h) = inl h
  assigned_back x (inr (assigns {target = target} {operator = operator} {x = y} h1 h2 h3)) = inr (record { first = target; second = (operator, y); is = refl; head = short_circuit (unary_expression (update (IsUpdate.left_hand_side h1))); may = left_may h1; good = (h2, h3) })

  assigned_value : (target : Expression) (p : Token × Expression) (t : Token) → ends_value c (make_assignment target p) t ≡ true → ends_value c p.1 t ≡ true
  assigned_value target p t h =
      ap (λ a. ends_by c a (ends_postfix p.1) t) (sym (ends_Assignment target p.0 p.1)) ∙ ap (λ b. ends_by c (ends_assignment (make_assignment target p)) b t) (sym (postfix_Assignment target p.0 p.1)) ∙ h

  -- a test without branches ends as an operand does
  plain_value : (x : Expression) (t : Token) → IsBinary text loosest c x → ends_value c x t ≡ true → (ends_binary c loosest x t && not (value_goes_on t)) ≡ true
  plain_value x t good h = sym (ap (λ a. ends_by c a (ends_postfix x) t) (binary_ends text good)) ∙ h

  value_choice : (x : Expression) (t : Token) → IsConditional text c x → ends_value c x t ≡ true → ends_choice c x t ≡ true
  value_choice x t (short_circuit good) h =
      let plain = plain_value x t good h in
      ap (λ b. cond b (ends_value c x t) (ends_binary c loosest x t && not (is_question t.kind))) (binary_no_choice good)
      ∙ and_both _ _ (and_left _ _ plain) (false_not _ (neither_left _ _ (not_true _ (and_right (ends_binary c loosest x t) _ plain))))
  value_choice x t (conditional {test = test} {question = question} {x = y} {colon = colon} {other = other} h1 h2 h3 h4 h5) h =
      ap (λ b. cond b (ends_value c x t) (ends_binary c loosest x t && not (is_question t.kind))) (choice_is test question y colon other) ∙ h

  left_apart : (x : Expression) (t : Token) → is_left x ≡ true → begins_assignment t ≡ true → ends_choice c x t ≡ true
  left_apart x t may h =
      let a = assigning c.has_in (not t.after_line) t.kind h in
      ap (λ b. cond b (ends_value c x t) (ends_binary c loosest x t && not (is_question t.kind))) (left_plain x may) ∙ and_both _ _ (plain_ends c x t a.plain) (false_not _ a.question)

  left_none : (x : Expression) (t : Token) → IsConditional text c x → is_left x ≡ true → ends_value c x t ≡ true → begins_assignment t ≡ false
  left_none x t (short_circuit good) may h = neither_left _ _ (neither_right (is_question t.kind) _ (not_true _ (and_right (ends_binary c loosest x t) _ (plain_value x t good h))))
  left_none x t (conditional {test = test} {question = question} {x = y} {colon = colon} {other = other} h1 h2 h3 h4 h5) may h = let bad : true ≡ false = sym (choice_is test question y colon other) ∙ left_plain x may in cc

  assigned_read : (n : ℕ) (target value : Reader (Node Expression)) → Rule text (expressions (IsConditional text c)) n (suc n) (ends_choice c) target → Rule text (expressions (IsAssignment text c)) n n (ends_value c) value → Rule text (expressions (λ x. IsConditional text c x ⊎ IsAssigned text c x)) n (suc n) (ends_value c) (assigned text n target value)
  unfolding assigned
  assigned_read n target value target_rule value_rule =
      same_rule text (expressions Targets) (expressions (λ x. IsConditional text c x ⊎ IsAssigned text c x)) n (suc n) (ends_value c) (ends_value c) (assigned text n target value)
      (extended_rule text n n (expressions (λ x. Unit {0})) (λ _. Values) (IsConditional text c) is_left make_assignment begins_assignment (ends_choice c) (λ x p. ends_value c p.1) (ends_value c) target (λ _. both (token_in text goal.Div begins_assignment) value)
      target_rule
      (λ x good may. both_rule text (tokens_in begins_assignment) (expressions (IsAssignment text c)) n n (λ _ _. true) (ends_value c) (λ p. ends_value c p.1) (token_in text goal.Div begins_assignment) value
      (token_in_rule text n n goal.Div begins_assignment (λ t h. (assigning true true t.kind h).agreed)) value_rule (λ a b t h. h) (λ a b m j ga gb h stop. refl))
      (omega arith)
      (record {
        yields = λ x p. tokens_Assignment written x p.0 p.1;
        levels_of = λ x p. levels_Assignment x p.0 p.1 ∙ (let e : max (depth_of_expression x) (depth_of_expression p.1) + 1 ≡ max (depth_of_expression x) (max 0 (depth_of_expression p.1)) + 1 = omega arith in e);
        starts = λ x p i j good h. ap begins_assignment (seen text goal.Div i p.0 (spelled-is_read text goal.Div i p.0 h.0 (assigning true true p.0.kind good.0).agreed)) ∙ good.0;
        head_apart = λ x t good may h. left_apart x t may h;
        head_ends = λ x t good h. value_choice x t good h;
        part_ends = λ x p t good more h. assigned_value x p t h;
        none_begins = left_none;
      }))
      refl refl assigned_there assigned_back (λ x t good h. h)

pub choice_rule : ChoiceRule
choice_rule text c n test inner value test_rule inner_rule value_rule = choice_read text c n test inner value test_rule inner_rule value_rule

pub assigned_rule : AssignedRule
assigned_rule text c n target value target_rule value_rule = assigned_read text c n target value target_rule value_rule
