-- Readers of expressions that read each other are exact within each number of levels.
use Rattle.std.proofs.Common.{◌≡◌, ◌⊎◌, inl, inr, ℕ, zero, suc, ◌≤◌, Bool, true, false, not, ◌&&◌, ◌||◌, List, refl, sym, subst, arith}
use Rattle.esb_token.specs.declared.kind.Kind.{Kind}
use Rattle.esb_token.specs.declared.kind.Kind.TheVariants as k
use Rattle.esb_token.specs.declared.token.Token.{Token}
use Rattle.esb_tree.specs.declared.expressions.Expression.{Expression}
use Rattle.esb_tree.specs.declared.statements.Statement.{Statement}
use Rattle.esb_grammar.specs.declared.context.Context.{Context}
use Rattle.esb_grammar.specs.Grammar.{IsLeftHandSide, IsAssignment, IsExpression}
use Rattle.esb_grammar.specs.Kinds.{begins_link, is_function, is_left_brace, is_right_brace}
use Rattle.esb_reader.specs.declared.node.Node.{Node}
use Rattle.esb_reader.specs.Places.{Text}
use Rattle.esb_reader.specs.Reader.{Reader, fail}
use Rattle.esb_reader.specs.Stands.{Syntax, Rule}
use Rattle.esb_expression_laws.specs.Leaves.{expressions}
use Rattle.esb_operator_laws.proofs.Below.{none_below, rule_below}
use Rattle.esb_operator_laws.proofs.TokenTests.{or_left}
use Rattle.esb_access_laws.specs.Access.{is_new_alone, ends_access}
use Rattle.esb_access_laws.specs.Links.{is_left_parenthesis}
use Rattle.esb_literal_laws.specs.Laws.{statement_lists}
use Rattle.esb_literal_laws.proofs.Forks.{fewer_rule}
use Rattle.esb_assignment_laws.specs.Values.{ends_value}
use Rattle.esb_value_laws.specs.Commas.{ends_expression}
use Rattle.esb_value_laws.specs.Handed.{ExactBelow, Tied, left_of, assignment_of, expression_of}
use Rattle.esb_value_laws.specs.Laws.{TiedRule}
use Rattle.esb_value_laws.specs.Lets.{ends_with_let}
use Rattle.esb_value_laws.proofs.HandedRules.{handed_rule}

brace_kind : (b l : Bool) (kind : Kind) → is_left_brace kind ≡ true → not ((begins_link kind || (is_function kind && l)) || (b && is_left_parenthesis kind)) ≡ true
brace_kind true l k.LeftBrace h = refl
brace_kind false l k.LeftBrace h = refl
brace_kind b l _ h = cc

brace_ends : (x : Expression) (t : Token) → is_left_brace t.kind ≡ true → ends_access true x t ≡ true
brace_ends x t h = brace_kind (is_new_alone x) (not t.after_line) t.kind h

last_or_less : (m n : ℕ) → m ≤ suc n → (m ≤ n) ⊎ (suc n ≡ m)
last_or_less zero n h = inl (omega arith)
last_or_less (suc m) zero h = inr (omega (arith, h))
last_or_less (suc m) (suc n) h = by_case (last_or_less m n (omega (arith, h)))
  where
    by_case : (m ≤ n) ⊎ (suc n ≡ m) → (suc m ≤ suc n) ⊎ (suc (suc n) ≡ suc m)
    by_case (inl low) = inl (omega (arith, low))
    by_case (inr same) = inr (omega (arith, same))

-- a reader that gives nothing within no levels
within_none : {A : Type 0} (text : Text) (S : Syntax A) (stops : A → Token → Bool) (read : ℕ → Reader (Node A)) → read zero ≡ fail → (m : ℕ) → m ≤ 0 → Rule text S m m stops (read m)
within_none text S stops read none zero low = subst (λ r. Rule text S 0 0 stops r) (sym none) (none_below text S stops)
within_none text S stops read none (suc m) low = absurd (omega (arith, low))

-- and one that is exact within n levels more than those before
within_next : {A : Type 0} (text : Text) (S : Syntax A) (stops : A → Token → Bool) (read : ℕ → Reader (Node A)) (n : ℕ) → ((m : ℕ) → m ≤ n → Rule text S m m stops (read m)) → Rule text S (suc n) (suc n) stops (read (suc n)) → (m : ℕ) → m ≤ suc n → Rule text S m m stops (read m)
within_next text S stops read n known rule m low = by_case (last_or_less m n low)
  where
    by_case : (m ≤ n) ⊎ (suc n ≡ m) → Rule text S m m stops (read m)
    by_case (inl less) = known m less
    by_case (inr same) = subst (λ l. Rule text S l l stops (read l)) same rule

module _ (text : Text) (one many heads : Context → ℕ → Reader (Node Expression)) (items : Context → ℕ → Reader (Node (List Statement))) (t : Tied text one many heads items)
    (lists : (n : ℕ) → ExactBelow text one many heads items n → (c : Context) → Rule text (statement_lists text c) (suc n) (suc n) (λ _ u. is_right_brace u.kind) (items c (suc n))) where
  one_rule : (n : ℕ) → ExactBelow text one many heads items n → (c : Context) → Rule text (expressions (IsAssignment text c)) (suc n) (suc n) (ends_value c) (one c (suc n))
  one_rule n r c =
      subst (λ q. Rule text (expressions (IsAssignment text c)) (suc n) (suc n) (ends_value c) q) (sym (t.one_next c n))
      (rule_below text (expressions (IsAssignment text c)) n (ends_value c) (assignment_of text one many heads items c n) (handed_rule text one many heads items n r c).1)

  many_rule : (n : ℕ) → ExactBelow text one many heads items n → (c : Context) → Rule text (expressions (IsExpression text c)) (suc n) (suc n) (ends_expression c) (many c (suc n))
  many_rule n r c =
      subst (λ q. Rule text (expressions (IsExpression text c)) (suc n) (suc n) (ends_expression c) q) (sym (t.many_next c n))
      (rule_below text (expressions (IsExpression text c)) n (ends_expression c) (expression_of text one many heads items c n)
      (fewer_rule text (expressions (IsExpression text c)) n (suc n) (ends_with_let c) (ends_expression c) (expression_of text one many heads items c n) (handed_rule text one many heads items n r c).2 (λ x u good h. or_left _ _ h)))

  heads_rule : (n : ℕ) → ExactBelow text one many heads items n → (c : Context) → Rule text (expressions (IsLeftHandSide text c)) (suc n) (suc n) (λ _ u. is_left_brace u.kind) (heads c (suc n))
  heads_rule n r c =
      subst (λ q. Rule text (expressions (IsLeftHandSide text c)) (suc n) (suc n) (λ _ u. is_left_brace u.kind) q) (sym (t.heads_next c n))
      (rule_below text (expressions (IsLeftHandSide text c)) n (λ _ u. is_left_brace u.kind) (left_of text one many heads items c n)
      (fewer_rule text (expressions (IsLeftHandSide text c)) n (suc n) (ends_access true) (λ _ u. is_left_brace u.kind) (left_of text one many heads items c n) (handed_rule text one many heads items n r c).0 (λ x u good h. brace_ends x u h)))

  all_within : (n : ℕ) → ExactBelow text one many heads items n
  all_within zero = record {
    one_read = λ c. within_none text (expressions (IsAssignment text c)) (ends_value c) (one c) (t.one_none c);
    many_read = λ c. within_none text (expressions (IsExpression text c)) (ends_expression c) (many c) (t.many_none c);
    heads_read = λ c. within_none text (expressions (IsLeftHandSide text c)) (λ _ u. is_left_brace u.kind) (heads c) (t.heads_none c);
    items_read = λ c. within_none text (statement_lists text c) (λ _ u. is_right_brace u.kind) (items c) (t.items_none c);
  }
  all_within (suc n) =
      let r = all_within n in
      record {
        one_read = λ c. within_next text (expressions (IsAssignment text c)) (ends_value c) (one c) n (r.one_read c) (one_rule n r c);
        many_read = λ c. within_next text (expressions (IsExpression text c)) (ends_expression c) (many c) n (r.many_read c) (many_rule n r c);
        heads_read = λ c. within_next text (expressions (IsLeftHandSide text c)) (λ _ u. is_left_brace u.kind) (heads c) n (r.heads_read c) (heads_rule n r c);
        items_read = λ c. within_next text (statement_lists text c) (λ _ u. is_right_brace u.kind) (items c) n (r.items_read c) (lists n r c);
      }

pub tied_rule : TiedRule
tied_rule text one many heads items t lists n = all_within text one many heads items t lists n
