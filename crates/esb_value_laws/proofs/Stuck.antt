-- Where an expression goes on with a token that no AssignmentExpression ends before, none stands.
use Rattle.std.proofs.Common.{◌≡◌, ◌⊎◌, ℕ, suc, ◌<◌, ◌≤◌, Bool, true, false, not, ◌&&◌, ◌||◌, cond, [], ◌∷◌, Option, Some, None, refl, ap, sym, ◌∙◌, subst, arith}
use Rattle.esb_token.specs.declared.kind.Kind.{Kind}
use Rattle.esb_token.specs.declared.kind.Kind.TheVariants as k
use Rattle.esb_token.specs.declared.token.Token.{Token}
use Rattle.esb_token.specs.declared.goal.Goal.TheVariants as goal
use Rattle.esb_token.specs.Tokens.{SpelledBetween}
use Rattle.esb_tree.specs.declared.expressions.Expression.{Expression}
use Rattle.esb_tree.specs.Levels.{depth_of_expression}
use Rattle.esb_tree.specs.Operators.{is_assignment}
use Rattle.esb_tree.specs.Trees.{written}
use Rattle.esb_tree.specs.Yields.{tokens_of_expression}
use Rattle.esb_grammar.specs.declared.context.Context.{Context}
use Rattle.esb_grammar.specs.Grammar.{loosest, IsBinary, IsConditional, short_circuit, IsAssignment}
use Rattle.esb_grammar.specs.Kinds.{is_binding}
use Rattle.esb_reader.specs.declared.node.Node.{Node}
use Rattle.esb_reader.specs.Kinds.{agrees}
use Rattle.esb_reader.specs.Places.{Text, or_nothing, token_at, peek}
use Rattle.esb_reader.specs.Reader.{Reader, node}
use Rattle.esb_reader.specs.Parts.{behind}
use Rattle.esb_reader.specs.Stands.{Stands, Rule}
use Rattle.esb_reader.proofs.Agreeing.{no_end, read-is_spelled}
use Rattle.esb_reading_laws.proofs.Steps.{some_is, then_goes, if_not}
use Rattle.esb_expression_laws.specs.Leaves.{expressions}
use Rattle.esb_operator_laws.specs.Postfix.{ends_postfix}
use Rattle.esb_operator_laws.specs.Ends.{ends_binary}
use Rattle.esb_operator_laws.proofs.TokenTests.{and_left, and_right, and_both, or_right, false_not}
use Rattle.esb_assignment_laws.specs.Assignments.{begins_assignment, assigned}
use Rattle.esb_assignment_laws.specs.Laws.{IsAssigned}
use Rattle.esb_assignment_laws.specs.Values.{is_question, is_arrow, value_goes_on, ends_by, ends_value, ends_choice}
use Rattle.esb_assignment_laws.proofs.Ending.{binary_ends}
use Rattle.esb_value_laws.specs.Arrows.{is_arrow_on_line, is_name_on_line}
use Rattle.esb_assignment_laws.proofs.AssignmentRules.{Plain, plain_ends, binary_no_choice, assigned_rule}

pub refuted : (b : Bool) → (b ≡ true → ⊥) → b ≡ false
refuted true h = absurd (h refl)
refuted false h = refl

-- ---- a token that is seen is spelled

pub behind_spelled : (text : Text) (i : ℕ) → agrees goal.Div (behind text i).kind ≡ true → SpelledBetween text i (behind text i ∷ []) (behind text i).end
unfolding peek
behind_spelled text i h = by_token (token_at text goal.Div i) refl h
  where
    by_token : (o : Option Token) → token_at text goal.Div i ≡ o → agrees goal.Div (or_nothing o).kind ≡ true → SpelledBetween text i (or_nothing o ∷ []) (or_nothing o).end
    by_token None e h = cc
    by_token (Some t) e h = (read-is_spelled text goal.Div i t e h, no_end goal.Div t.kind h, refl)

-- ---- tokens before which no AssignmentExpression ends

-- what goes on with no operator, branch or assignment
pub record Bare (has_in l : Bool) (kind : Kind) : Type 0 where
  pub plain : Plain has_in l kind
  pub question : is_question kind ≡ false
  pub assignment : is_assignment kind ≡ false

pub record Sticks (c : Context) (t : Token) : Type 0 where
  pub bare : Bare c.has_in (not t.after_line) t.kind
  pub goes_on : value_goes_on t ≡ true

pub name_bare : (has_in l : Bool) (kind : Kind) → is_binding kind ≡ true → Bare has_in l kind
name_bare has_in l k.Yield h = record { plain = record { operand = refl; operator = refl }; question = refl; assignment = refl }
name_bare has_in l k.Await h = record { plain = record { operand = refl; operator = refl }; question = refl; assignment = refl }
name_bare has_in l k.Name h = record { plain = record { operand = refl; operator = refl }; question = refl; assignment = refl }
name_bare has_in l k.Implements h = record { plain = record { operand = refl; operator = refl }; question = refl; assignment = refl }
name_bare has_in l k.Interface h = record { plain = record { operand = refl; operator = refl }; question = refl; assignment = refl }
name_bare has_in l k.Let h = record { plain = record { operand = refl; operator = refl }; question = refl; assignment = refl }
name_bare has_in l k.Package h = record { plain = record { operand = refl; operator = refl }; question = refl; assignment = refl }
name_bare has_in l k.Private h = record { plain = record { operand = refl; operator = refl }; question = refl; assignment = refl }
name_bare has_in l k.Protected h = record { plain = record { operand = refl; operator = refl }; question = refl; assignment = refl }
name_bare has_in l k.Public h = record { plain = record { operand = refl; operator = refl }; question = refl; assignment = refl }
name_bare has_in l k.Static h = record { plain = record { operand = refl; operator = refl }; question = refl; assignment = refl }
name_bare has_in l _ h = cc

pub arrow_bare : (has_in l : Bool) (kind : Kind) → is_arrow kind ≡ true → Bare has_in l kind
arrow_bare has_in l k.Arrow h = record { plain = record { operand = refl; operator = refl }; question = refl; assignment = refl }
arrow_bare has_in l _ h = cc

line_goes_on : (q a l r b : Bool) → l ≡ true → (r || b) ≡ true → (q || (a || (l && (r || b)))) ≡ true
line_goes_on q a l r b h g = or_right q _ (or_right a _ (and_both l (r || b) h g))

or_first : (a b : Bool) → a ≡ true → (a || b) ≡ true
or_first true b h = refl
or_first false b h = cc

pub arrow_sticks : (c : Context) (t : Token) → is_arrow_on_line t ≡ true → Sticks c t
arrow_sticks c t h =
    record { bare = arrow_bare c.has_in (not t.after_line) t.kind (and_left _ _ h); goes_on = line_goes_on (is_question t.kind) (is_assignment t.kind) (not t.after_line) (is_arrow t.kind) (is_binding t.kind) (and_right (is_arrow t.kind) _ h) (or_first (is_arrow t.kind) (is_binding t.kind) (and_left (is_arrow t.kind) (not t.after_line) h)) }

pub name_sticks : (c : Context) (t : Token) → is_name_on_line t ≡ true → Sticks c t
name_sticks c t h =
    record { bare = name_bare c.has_in (not t.after_line) t.kind (and_left _ _ h); goes_on = line_goes_on (is_question t.kind) (is_assignment t.kind) (not t.after_line) (is_arrow t.kind) (is_binding t.kind) (and_right (is_binding t.kind) _ h) (or_right (is_arrow t.kind) _ (and_left _ _ h)) }

-- ---- what stands before one

no_and : (a b : Bool) → b ≡ false → (a && b) ≡ true → ⊥
no_and true b e h = let bad : true ≡ false = sym h ∙ e in cc
no_and false b e h = cc

left_false : (a b : Bool) → a ≡ false → (a && b) ≡ false
left_false true b h = cc
left_false false b h = refl

module _ (text : Text) (c : Context) (n : ℕ) (target below : Reader (Node Expression)) (target_rule : Rule text (expressions (IsConditional text c)) n (suc n) (ends_choice c) target) (below_rule : Rule text (expressions (IsAssignment text c)) n n (ends_value c) below) where
  abbrev Unbranched : Expression → Type 0
  Unbranched x = IsConditional text c x ⊎ IsAssigned text c x

  stop_there : (y : Expression) (t : Token) → IsBinary text loosest c y → Bare c.has_in (not t.after_line) t.kind → ends_choice c y t ≡ true
  stop_there y t good s = ap (λ b. cond b (ends_value c y t) (ends_binary c loosest y t && not (is_question t.kind))) (binary_no_choice text c good) ∙ and_both _ _ (plain_ends c y t s.plain) (false_not _ s.question)

  -- the chain of readers gives the expression itself
  pub stuck_read : (y : Expression) (i m : ℕ) → IsBinary text loosest c y → depth_of_expression y ≤ n → SpelledBetween text i (tokens_of_expression written y) m → Bare c.has_in (not (behind text m).after_line) (behind text m).kind → assigned text n target below i ≡ Some (node y (depth_of_expression y), m)
  unfolding assigned
  stuck_read y i m good low spelled s =
      let stands : Stands text (expressions (IsConditional text c)) n (node y (depth_of_expression y)) i m = record { good = short_circuit good; levels = refl; fits = low; spelled = spelled } in
      then_goes (target i) _ (node y (depth_of_expression y)) m (target_rule.complete i (node y (depth_of_expression y)) m stands (omega (arith, low)) (stop_there y (behind text m) good s))
      ∙ if_not _ _ _ (left_false (begins_assignment (behind text m)) _ s.assignment)

  no_end_there : (y : Expression) (t : Token) → IsBinary text loosest c y → Sticks c t → ends_value c y t ≡ true → ⊥
  no_end_there y t good s h =
      no_and _ _ (ap not s.goes_on) (ap (λ a. ends_by c a (ends_postfix y) t) (sym (binary_ends text good)) ∙ h)

  -- so no AssignmentExpression without an arrow stands there
  pub stuck : (y : Expression) (i m : ℕ) → IsBinary text loosest c y → depth_of_expression y ≤ n → SpelledBetween text i (tokens_of_expression written y) m → Sticks c (behind text m)
      → (x : Node Expression) (j : ℕ) → Stands text (expressions Unbranched) n x i j → x.levels < suc n → ends_value c x.tree (behind text j) ≡ true → ⊥
  stuck y i m good low spelled s x j stands below_top stop =
      let read = stuck_read y i m good low spelled s.bare in
      let rule = assigned_rule text c n target below target_rule below_rule in
      let same : (node y (depth_of_expression y), m) ≡ (x, j) = some_is _ _ (sym read ∙ rule.complete i x j stands below_top stop) in
      no_end_there y (behind text m) good s (subst (λ p. ends_value c p.0.tree (behind text p.1) ≡ true) (sym same) stop)
