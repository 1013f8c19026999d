-- Readers that are tied are exact within each number of levels, as far as lists of statements are below it.
use Rattle.std.proofs.Common.{◌≡◌, ◌⊎◌, inl, inr, ℕ, zero, suc, ◌<◌, ◌≤◌, Bool, true, false, not, ◌&&◌, ◌||◌, [], Some, refl, ap, sym, ◌∙◌, subst, arith}
use Rattle.esb_token.specs.declared.kind.Kind.{Kind}
use Rattle.esb_token.specs.declared.kind.Kind.TheVariants as k
use Rattle.esb_token.specs.declared.token.Token.{Token}
use Rattle.esb_token.specs.Tokens.{SpelledBetween}
use Rattle.esb_tree.specs.declared.expressions.Expression.{Expression}
use Rattle.esb_tree.specs.Trees.{written}
use Rattle.esb_tree.specs.Yields.{tokens_of_expression}
use Rattle.esb_tree.proofs.TokenLines.{tokens_Primary}
use Rattle.esb_grammar.specs.declared.context.Context.{Context}
use Rattle.esb_grammar.specs.Grammar.{loosest, identifier_reference, primary_expression, origin, access, IsUpdate, update, IsBinary, unary_expression, IsLeftHandSide, IsAssignment, IsExpression, assignment_expression, IsItem}
use Rattle.esb_grammar.specs.Kinds.{begins_link, is_binding, is_function, is_left_brace, is_right_brace}
use Rattle.esb_grammar.specs.Words.{is_async}
use Rattle.esb_reader.specs.declared.node.Node.{Node}
use Rattle.esb_reader.specs.Places.{Text}
use Rattle.esb_reader.specs.Reader.{Reader, fail}
use Rattle.esb_reader.specs.Parts.{behind}
use Rattle.esb_reader.specs.Stands.{Syntax, Stands, Rule, row}
use Rattle.esb_reading_laws.proofs.Composed.{same_rule}
use Rattle.esb_expression_laws.specs.Leaves.{expressions}
use Rattle.esb_operator_laws.proofs.Below.{none_below, rule_below}
use Rattle.esb_operator_laws.proofs.TokenTests.{and_left, and_right, or_left}
use Rattle.esb_access_laws.specs.Access.{is_new_alone, ends_access}
use Rattle.esb_access_laws.specs.Links.{is_left_parenthesis}
use Rattle.esb_assignment_laws.specs.Values.{is_arrow, ends_value}
use Rattle.esb_literal_laws.specs.Laws.{statement_lists}
use Rattle.esb_literal_laws.proofs.Forks.{fewer_rule}
use Rattle.esb_literal_laws.proofs.Seen.{and_false, sees_kind}
use Rattle.esb_statement_laws.specs.Handed.{statements}
use Rattle.esb_statement_laws.specs.Marks.{ends_items}
use Rattle.esb_statement_laws.specs.Within.{items_within, ItemsExact}
use Rattle.esb_statement_laws.proofs.Bodies.{all_items, are_items}
use Rattle.esb_value_laws.specs.Commas as comma
use Rattle.esb_value_laws.specs.Handed.{ExactBelow, arguments_of, template_of, brackets_of, block_of, primary_of, left_of, assignment_of, expression_of}
use Rattle.esb_value_laws.specs.Lets.{is_let_word, ends_with_let}
use Rattle.esb_value_laws.proofs.BareRules.{let_in, not_async}
use Rattle.esb_value_laws.proofs.HandedRules.{handed_rule, all_read}
use Rattle.esb_value_laws.proofs.LevelRules.{whole_bare_rule}
use Rattle.esb_parse_laws.specs.Laws.{Knot}
use Rattle.esb_parse_laws.specs.Readers.{Readers, parts_of}
use Rattle.esb_parse_laws.proofs.Ends.{or_cases, ends_value_with_let}
use Rattle.esb_parse_laws.proofs.Turns.{last_or_less}

-- ---- level by level

-- a reader that gives nothing within no levels
within_none : {A : Type 0} (text : Text) (S : Syntax A) (stops : A → Token → Bool) (read : ℕ → Reader (Node A)) → read zero ≡ fail → Rule text S 0 0 stops (read zero)
within_none text S stops read none = subst (λ r. Rule text S 0 0 stops r) (sym none) (none_below text S stops)

-- and so within all of these
only_none : {A : Type 0} (text : Text) (S : Syntax A) (stops : A → Token → Bool) (read : ℕ → Reader (Node A)) → read zero ≡ fail → (m : ℕ) → m ≤ 0 → Rule text S m m stops (read m)
only_none text S stops read none zero low = within_none text S stops read none
only_none text S stops read none (suc m) low = absurd (omega (arith, low))

-- and one that is exact within n levels more than those before
within_next : {A : Type 0} (text : Text) (S : Syntax A) (stops : A → Token → Bool) (read : ℕ → Reader (Node A)) (n : ℕ) → ((m : ℕ) → m ≤ n → Rule text S m m stops (read m)) → Rule text S (suc n) (suc n) stops (read (suc n)) → (m : ℕ) → m ≤ suc n → Rule text S m m stops (read m)
within_next text S stops read n known rule m low = by_case (last_or_less m n low)
  where
    by_case : (m ≤ n) ⊎ (suc n ≡ m) → Rule text S m m stops (read m)
    by_case (inl less) = known m less
    by_case (inr same) = subst (λ l. Rule text S l l stops (read l)) same rule

-- what is read within n levels, read below the next
read_next : {A : Type 0} (text : Text) (S : Syntax A) (n : ℕ) (stops ends : A → Token → Bool) (read next : Reader (Node A)) → next ≡ read → Rule text S n (suc n) stops read → ((x : A) (t : Token) → S.Good x → ends x t ≡ true → stops x t ≡ true) → Rule text S (suc n) (suc n) ends next
read_next text S n stops ends read next is rule fewer = subst (λ r. Rule text S (suc n) (suc n) ends r) (sym is) (rule_below text S n ends read (fewer_rule text S n (suc n) stops ends read rule fewer))

-- ---- tokens

brace_kind : (b l : Bool) (kind : Kind) → is_left_brace kind ≡ true → not ((begins_link kind || (is_function kind && l)) || (b && is_left_parenthesis kind)) ≡ true
brace_kind true l k.LeftBrace h = refl
brace_kind false l k.LeftBrace h = refl
brace_kind b l _ h = cc

brace_ends : (x : Expression) (t : Token) → is_left_brace t.kind ≡ true → ends_access true x t ≡ true
brace_ends x t h = brace_kind (is_new_alone x) (not t.after_line) t.kind h

brace_ends_items : (kind : Kind) → is_right_brace kind ≡ true → ends_items kind ≡ true
brace_ends_items k.RightBrace h = refl
brace_ends_items _ h = cc

module _ (text : Text) (r : Readers) (knot : Knot text r) where
  abbrev pub Below : ℕ → Type 0
  Below n = ExactBelow text r.one r.many r.heads r.items n

  lists_next : (n : ℕ) → ItemsExact text (parts_of text r) n → (c : Context) → Rule text (statement_lists text c) (suc n) (suc n) (λ _ t. is_right_brace t.kind) (r.items c (suc n))
  lists_next n exact c =
      read_next text (statement_lists text c) n (λ _ t. is_right_brace t.kind) (λ _ t. is_right_brace t.kind) (items_within text (parts_of text r) n c) (r.items c (suc n)) (knot.items_next c n)
      (same_rule text (row (statements (IsItem text c))) (statement_lists text c) n (suc n) (λ _ t. ends_items t.kind) (λ _ t. is_right_brace t.kind) (items_within text (parts_of text r) n c) (exact c)
      refl refl (are_items text c) (all_items text c) (λ x t good h. brace_ends_items t.kind h))
      (λ x t good h. h)

  pub exact_below : (n : ℕ) → ((m : ℕ) → m < n → ItemsExact text (parts_of text r) m) → Below n
  exact_below zero known = record {
    one_read = λ c. only_none text (expressions (IsAssignment text c)) (ends_value c) (r.one c) (knot.values.one_none c);
    many_read = λ c. only_none text (expressions (IsExpression text c)) (comma.ends_expression c) (r.many c) (knot.values.many_none c);
    heads_read = λ c. only_none text (expressions (IsLeftHandSide text c)) (λ _ t. is_left_brace t.kind) (r.heads c) (knot.values.heads_none c);
    items_read = λ c. only_none text (statement_lists text c) (λ _ t. is_right_brace t.kind) (r.items c) (knot.values.items_none c);
  }
  exact_below (suc n) known =
      let b = exact_below n (λ m low. known m (omega (arith, low))) in
      record {
        one_read = λ c. within_next text (expressions (IsAssignment text c)) (ends_value c) (r.one c) n (b.one_read c)
            (read_next text (expressions (IsAssignment text c)) n (ends_value c) (ends_value c) (assignment_of text r.one r.many r.heads r.items c n) (r.one c (suc n)) (knot.values.one_next c n) (handed_rule text r.one r.many r.heads r.items n b c).1 (λ x t good h. h));
        many_read = λ c. within_next text (expressions (IsExpression text c)) (comma.ends_expression c) (r.many c) n (b.many_read c)
            (read_next text (expressions (IsExpression text c)) n (ends_with_let c) (comma.ends_expression c) (expression_of text r.one r.many r.heads r.items c n) (r.many c (suc n)) (knot.values.many_next c n) (handed_rule text r.one r.many r.heads r.items n b c).2 (λ x t good h. or_left _ _ h));
        heads_read = λ c. within_next text (expressions (IsLeftHandSide text c)) (λ _ t. is_left_brace t.kind) (r.heads c) n (b.heads_read c)
            (read_next text (expressions (IsLeftHandSide text c)) n (ends_access true) (λ _ t. is_left_brace t.kind) (left_of text r.one r.many r.heads r.items c n) (r.heads c (suc n)) (knot.values.heads_next c n) (handed_rule text r.one r.many r.heads r.items n b c).0 (λ x t good h. brace_ends x t h));
        items_read = λ c. within_next text (statement_lists text c) (λ _ t. is_right_brace t.kind) (r.items c) n (b.items_read c) (lists_next n (known n (omega arith)) c);
      }

  -- ---- before a name

  module _ (n : ℕ) (b : Below n) (c : Context) where
    pub bare : (i : ℕ) (x : Node Expression) (m : ℕ) → Stands text (expressions (IsBinary text loosest c)) n x i m → is_binding (behind text m).kind ≡ true → (is_async text (behind text i) && is_arrow (behind text (behind text m).end).kind) ≡ false
        → (assignment_of text r.one r.many r.heads r.items c n i ≡ Some (x, m)) × (expression_of text r.one r.many r.heads r.items c n i ≡ Some (x, m))
    unfolding assignment_of expression_of
    bare =
        whole_bare_rule text c (primary_of text r.one r.many r.heads r.items c) (arguments_of text r.one r.many r.heads r.items c) (template_of text r.one r.many r.heads r.items c) (brackets_of text r.one r.many r.heads r.items c) r.one
        (block_of text r.one r.many r.heads r.items c) n (all_read text r.one r.many r.heads r.items n b c)

    value_rule : Rule text (expressions (IsAssignment text c)) n (suc n) (ends_value c) (assignment_of text r.one r.many r.heads r.items c n)
    value_rule = (handed_rule text r.one r.many r.heads r.items n b c).1

    value_let : (i : ℕ) (x : Node Expression) (j : ℕ) → Stands text (expressions (IsAssignment text c)) n x i j → x.levels < suc n → (ends_value c x.tree (behind text j) ≡ true) ⊎ ((is_let_word x.tree && is_binding (behind text j).kind) ≡ true) → assignment_of text r.one r.many r.heads r.items c n i ≡ Some (x, j)
    value_let i x j s low (inl stop) = value_rule.complete i x j s low stop
    value_let i x j s low (inr h) =
        let w = let_in text c x.tree (assignment_expression s.good) (and_left (is_let_word x.tree) _ h) in
        let good : IsBinary text loosest c x.tree = subst (IsBinary text loosest c) (sym w.is) (unary_expression (update (IsUpdate.left_hand_side (access (origin (primary_expression (identifier_reference w.refers))))))) in
        let stands : Stands text (expressions (IsBinary text loosest c)) n x i j = record { good = good; levels = s.levels; fits = s.fits; spelled = s.spelled } in
        let spelled = subst (λ ts. SpelledBetween text i ts j) (ap (tokens_of_expression written) w.is ∙ tokens_Primary written w.word) s.spelled in
        let seen : (behind text i).kind ≡ k.Let = ap (λ (t : Token). t.kind) (sees_kind text i w.word [] j k.Let spelled w.kind refl) ∙ w.kind in
        (bare i x j stands (and_right (is_let_word x.tree) _ h) (ap (λ a. a && is_arrow (behind text (behind text j).end).kind) (not_async text (behind text i) seen))).0

    value_with_let : Rule text (expressions (IsAssignment text c)) n (suc n) (ends_value_with_let c) (assignment_of text r.one r.many r.heads r.items c n)
    value_with_let = record {
      sound = value_rule.sound;
      complete = λ i x j s low stop. value_let i x j s low (or_cases (ends_value c x.tree (behind text j)) (is_let_word x.tree && is_binding (behind text j).kind) stop);
    }

  -- ---- AssignmentExpressions and Expressions, with `let` before a name

  pub one_read : (n : ℕ) → ((m : ℕ) → m < n → ItemsExact text (parts_of text r) m) → (c : Context) → Rule text (expressions (IsAssignment text c)) n n (ends_value_with_let c) (r.one c n)
  one_read zero known c = within_none text (expressions (IsAssignment text c)) (ends_value_with_let c) (r.one c) (knot.values.one_none c)
  one_read (suc n) known c =
      read_next text (expressions (IsAssignment text c)) n (ends_value_with_let c) (ends_value_with_let c) (assignment_of text r.one r.many r.heads r.items c n) (r.one c (suc n)) (knot.values.one_next c n)
      (value_with_let n (exact_below n (λ m low. known m (omega (arith, low)))) c) (λ x t good h. h)

  pub many_read : (n : ℕ) → ((m : ℕ) → m < n → ItemsExact text (parts_of text r) m) → (c : Context) → Rule text (expressions (IsExpression text c)) n n (ends_with_let c) (r.many c n)
  many_read zero known c = within_none text (expressions (IsExpression text c)) (ends_with_let c) (r.many c) (knot.values.many_none c)
  many_read (suc n) known c =
      read_next text (expressions (IsExpression text c)) n (ends_with_let c) (ends_with_let c) (expression_of text r.one r.many r.heads r.items c n) (r.many c (suc n)) (knot.values.many_next c n)
      (handed_rule text r.one r.many r.heads r.items n (exact_below n (λ m low. known m (omega (arith, low)))) c).2 (λ x t good h. h)

  -- an operand before a name, unless an arrow function may begin there
  pub bare_read : (n : ℕ) → ((m : ℕ) → m < n → ItemsExact text (parts_of text r) m) → (c : Context) (i : ℕ) (x : Node Expression) (j : ℕ) → Stands text (expressions (IsLeftHandSide text c)) n x i j → x.levels < n → is_binding (behind text j).kind ≡ true
      → is_arrow (behind text (behind text j).end).kind ≡ false → r.many c n i ≡ Some (x, j)
  bare_read zero known c i x j s low name none = absurd (omega (arith, low))
  bare_read (suc n) known c i x j s low name none =
      let stands : Stands text (expressions (IsBinary text loosest c)) n x i j = record { good = unary_expression (update (IsUpdate.left_hand_side s.good)); levels = s.levels; fits = omega (arith, low); spelled = s.spelled } in
      ap (λ (q : Reader (Node Expression)). q i) (knot.values.many_next c n)
      ∙ (bare n (exact_below n (λ m lower. known m (omega (arith, lower)))) c i x j stands name (and_false (is_async text (behind text i)) _ none)).1
