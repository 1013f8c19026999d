-- A list in parentheses may be read first: what an AssignmentExpression is goes on behind it.
use Rattle.std.proofs.Common.{◌≡◌, ℕ, zero, suc, ◌+◌, max, Bool, true, false, not, ◌&&◌, nat_lt, Option, Some, None, refl, ap, sym, ◌∙◌, arith}
use Rattle.esb_token.specs.declared.kind.Kind.{Kind}
use Rattle.esb_token.specs.declared.kind.Kind.TheVariants as k
use Rattle.esb_token.specs.declared.token.Token.{Token}
use Rattle.esb_token.specs.declared.goal.Goal.TheVariants as goal
use Rattle.esb_tree.specs.declared.expressions.Expression.{Expression}
use Rattle.esb_tree.specs.declared.expressions.Expression.TheVariants as e
use Rattle.esb_tree.specs.declared.expressions.Substitutions.{Substitutions}
use Rattle.esb_tree.specs.declared.functions.ConciseBody.{ConciseBody}
use Rattle.esb_tree.specs.declared.patterns.Bracketed.{Bracketed}
use Rattle.esb_tree.specs.declared.statements.Block.{Block}
use Rattle.esb_grammar.specs.declared.context.Context.{Context}
use Rattle.esb_grammar.specs.Contexts.{inside}
use Rattle.esb_grammar.specs.Grammar.{loosest}
use Rattle.esb_grammar.specs.Kinds.{is_name, is_reference, is_binding}
use Rattle.esb_grammar.specs.Words.{is_async}
use Rattle.esb_reader.specs.declared.node.Node.{Node}
use Rattle.esb_reader.specs.Places.{Text}
use Rattle.esb_reader.specs.Reader.{Found, Reader, and_then, fail, choose, pure, node}
use Rattle.esb_reader.specs.Parts.{behind, such, above}
use Rattle.esb_reading_laws.proofs.Steps.{if_goes, if_not}
use Rattle.esb_operator_laws.specs.Ladder.{ladder, binary}
use Rattle.esb_operator_laws.specs.Unary.{is_prefix, begins_prefix, postfixed, unary}
use Rattle.esb_access_laws.specs.Access.{is_new, is_import, is_super, accessed, left}
use Rattle.esb_access_laws.specs.Links.{is_left_parenthesis}
use Rattle.esb_first_tokens.specs.First.{is_yield_in}
use Rattle.esb_assignment_laws.specs.Assignments.{chosen, assigned}
use Rattle.esb_assignment_laws.specs.Values.{is_arrow}
use Rattle.esb_literal_laws.specs.Forks.{second, fork, guard, on_one_line, passes_behind}
use Rattle.esb_value_laws.specs.Arrows.{is_arrow_on_line, make_call, head_list, head_call, arrow, at_async_name, at_name, before_arrow}
use Rattle.esb_value_laws.specs.Covers.{covers_parameters}
use Rattle.esb_value_laws.specs.Levels.{conditional, arrow_body, assignment}
use Rattle.esb_value_laws.specs.Whole.{at_yield, list_or_plain, value}
use Rattle.esb_value_laws.proofs.GoingOn.{going_on_rule, operand_rule}
use Rattle.esb_value_laws.specs.Once.{is_plain_list}
use Rattle.esb_values.specs.ListsFirst.{at_async_list, ListsFirst}
use Rattle.esb_values.specs.Behind.{fits_behind, behind_head, behind_left, over_operand, links_of, behind_primary, behind_list, behind_async, listed_node, call_node}
use Rattle.esb_values.proofs.NoLinks.{no_links}
use Rattle.esb_values.proofs.Tokens.{refused, accepted, is_parenthesis, and_first, and_second, none_first, none_second, async_kind, no_async, async_nothing}

then_assoc : {A B C : Type 0} (r : Found A) (f : A → Reader B) (g : B → Reader C) → and_then (and_then r f) g ≡ and_then r (λ x m. and_then (f x m) g)
then_assoc None f g = refl
then_assoc (Some p) f g = refl

then_same : {A B : Type 0} (r : Found A) (f g : A → Reader B) → ((x : A) (m : ℕ) → f x m ≡ g x m) → and_then r f ≡ and_then r g
then_same None f g h = refl
then_same (Some p) f g h = h p.0 p.1

guarded_none : (t : Bool) (p : Reader (Node Bracketed)) (m : ℕ) → p m ≡ None → choose t p fail m ≡ None
guarded_none true p m h = h
guarded_none false p m h = refl

module _ (text : Text) (c : Context) (primary : ℕ → Reader (Node Expression)) (arguments : ℕ → Reader (Node Bracketed)) (template : ℕ → Reader (Node Substitutions)) (many : ℕ → Reader (Node Expression)) (one : Context → ℕ → Reader (Node Expression)) (block : Context → ℕ → Reader (Node Block)) (n : ℕ) where
  abbrev others : Reader (Node Expression)
  others = unary text c (left text primary arguments template many (one (inside c)) true) n

  abbrev over_first : Reader (Node Expression) → Reader (Node Expression)
  over_first first = over_operand text c primary arguments template many one block n first

  abbrev links : Node Expression → Reader (Node Expression)
  links x = links_of text c primary arguments template many one block n x

  abbrev goes_on : Node Expression → Reader (Node Expression)
  goes_on x = behind_primary text c primary arguments template many one block n x

  abbrev whole : Reader (Node Expression)
  whole = assigned text n (conditional text c primary arguments template many one block n) (one c n)

  over_goes : (first : Reader (Node Expression)) (i : ℕ) → over_first first i ≡ and_then (first i) (λ x. over_first (pure x))
  unfolding over_operand
  over_goes first i = going_on_rule text c n loosest first others (one (inside c) n) (one c n) i

  whole_is : (i : ℕ) → whole i ≡ and_then (others i) (λ x. over_first (pure x))
  unfolding conditional over_operand
  whole_is i = going_on_rule text c n loosest others others (one (inside c) n) (one c n) i

  operand : (i : ℕ) → begins_prefix c (behind text i) ≡ false → is_new (behind text i).kind ≡ false → is_import (behind text i).kind ≡ false → is_super (behind text i).kind ≡ false
      → others i ≡ and_then (primary n i) (λ x. postfixed text n (links x))
  unfolding links_of
  operand i h h1 h2 h3 = operand_rule text c n primary arguments template many (one (inside c)) i h h1 h2 h3

  -- what is assigned, where a PrimaryExpression begins it, goes on with that
  plain_at : (i : ℕ) → begins_prefix c (behind text i) ≡ false → is_new (behind text i).kind ≡ false → is_import (behind text i).kind ≡ false → is_super (behind text i).kind ≡ false
      → whole i ≡ and_then (primary n i) goes_on
  unfolding behind_primary
  plain_at i h h1 h2 h3 =
      whole_is i
      ∙ ap (λ r. and_then r (λ x. over_first (pure x))) (operand i h h1 h2 h3)
      ∙ then_assoc (primary n i) (λ x. postfixed text n (links x)) (λ x. over_first (pure x))
      ∙ then_same (primary n i) (λ x m. and_then (postfixed text n (links x) m) (λ z. over_first (pure z))) goes_on (λ x m. sym (over_goes (postfixed text n (links x)) m))

  postfix_goes : (first : Reader (Node Expression)) (i : ℕ) → postfixed text n first i ≡ and_then (first i) (λ y. postfixed text n (pure y))
  unfolding postfixed
  postfix_goes first i = refl

  -- what goes on with a PrimaryExpression goes on with its links
  links_go : (x : Node Expression) (i : ℕ) → goes_on x i ≡ and_then (links x i) (λ y. over_first (postfixed text n (pure y)))
  unfolding behind_primary
  links_go x i =
      over_goes (postfixed text n (links x)) i
      ∙ ap (λ r. and_then r (λ z. over_first (pure z))) (postfix_goes (links x) i)
      ∙ then_assoc (links x i) (λ y. postfixed text n (pure y)) (λ z. over_first (pure z))
      ∙ then_same (links x i) (λ y m. and_then (postfixed text n (pure y) m) (λ z. over_first (pure z))) (λ y. over_first (postfixed text n (pure y))) (λ y m. sym (over_goes (postfixed text n (pure y)) m))

  pub links_first : (x : Node Expression) (i : ℕ) → behind_primary text c primary arguments template many one block n x i ≡ and_then (accessed text n (primary n) (arguments n) (template n) (many n) (one (inside c) n) true (pure x) i) (λ y. behind_left text c primary arguments template many one block n y)
  unfolding links_of behind_left
  links_first x i = links_go x i

  -- ---- the tests at a place

  abbrev body : Bool → Reader (Node ConciseBody)
  body is_async_body = arrow_body text c primary arguments template many one block n is_async_body

  abbrev told : Reader (Node Expression)
  told = list_or_plain text c n (conditional text c primary arguments template many one block n) (one c n) (arguments n) body (covers_parameters n)

  abbrev entire : Reader (Node Expression)
  entire = assignment text c primary arguments template many one block n

  told_at : (i : ℕ) → at_yield text c i ≡ false → at_async_name text i ≡ false → at_name text c i ≡ false → entire i ≡ told i
  unfolding assignment value
  told_at i h h1 h2 = if_not _ _ _ h ∙ if_not _ _ _ h1 ∙ if_not _ _ _ h2

  no_list_head : (i : ℕ) → arguments n i ≡ None → before_arrow text (head_list n (arguments n)) i ≡ false
  unfolding before_arrow head_list
  no_list_head i h = rw h refl

  no_call_head : (i : ℕ) → is_async text (behind text i) ≡ false → before_arrow text (head_call text n (arguments n)) i ≡ false
  unfolding before_arrow head_call
  no_call_head i h = rw (refused text (is_async text) i h) refl

  neither : (i : ℕ) → before_arrow text (head_list n (arguments n)) i ≡ false → before_arrow text (head_call text n (arguments n)) i ≡ false → told i ≡ whole i
  unfolding list_or_plain
  neither i h h1 = if_not _ _ _ h ∙ if_not _ _ _ h1

  list_head : (i : ℕ) → before_arrow text (head_list n (arguments n)) i ≡ true → told i ≡ arrow text n (head_list n (such (arguments n) (covers_parameters n))) (body false) i
  unfolding list_or_plain
  list_head i h = if_goes _ _ _ h

  call_head : (i : ℕ) → before_arrow text (head_list n (arguments n)) i ≡ false → before_arrow text (head_call text n (arguments n)) i ≡ true → told i ≡ arrow text n (head_call text n (such (arguments n) (covers_parameters n))) (body true) i
  unfolding list_or_plain
  call_head i h h1 = if_not _ _ _ h ∙ if_goes _ _ _ h1

  -- ---- a list that was read

  list_shallow : (i : ℕ) (list : Node Bracketed) (j : ℕ) → arguments n i ≡ Some (list, j) → nat_lt list.levels n ≡ true → before_arrow text (head_list n (arguments n)) i ≡ is_arrow_on_line (behind text j)
  unfolding before_arrow head_list
  list_shallow i list j h low = rw (h, low) refl

  list_deep : (i : ℕ) (list : Node Bracketed) (j : ℕ) → arguments n i ≡ Some (list, j) → nat_lt list.levels n ≡ false → before_arrow text (head_list n (arguments n)) i ≡ false
  unfolding before_arrow head_list
  list_deep i list j h low = rw (h, low) refl

  list_arrow : (i : ℕ) (list : Node Bracketed) (j : ℕ) (covered : Bool) → arguments n i ≡ Some (list, j) → nat_lt list.levels n ≡ true → covers_parameters n list.tree ≡ covered
      → arrow text n (head_list n (such (arguments n) (covers_parameters n))) (body false) i ≡ choose covered (arrow text n (pure (listed_node list)) (body false)) fail j
  unfolding arrow head_list
  list_arrow i list j true h low covered = rw (h, covered, low) refl
  list_arrow i list j false h low covered = rw (h, covered) refl

  parenthesized : (i : ℕ) (list : Node Bracketed) (j : ℕ) (valued low : Bool) → arguments n i ≡ Some (list, j) → nat_lt list.levels n ≡ low → is_plain_list list.tree ≡ valued
      → and_then (above n e.Parenthesized (such (arguments n) is_plain_list) i) goes_on ≡ choose low (choose valued (goes_on (listed_node list)) fail) fail j
  parenthesized i list j true true h low valued = rw (h, valued, low) refl
  parenthesized i list j true false h low valued = rw (h, valued, low) refl
  parenthesized i list j false true h low valued = rw (h, valued) refl
  parenthesized i list j false false h low valued = rw (h, valued) refl

  not_parenthesized : (i : ℕ) → arguments n i ≡ None → and_then (above n e.Parenthesized (such (arguments n) is_plain_list) i) goes_on ≡ None
  not_parenthesized i h = rw h refl

  -- ---- `async` and a list that was read

  same_levels : (m : ℕ) → max 0 m ≡ m
  same_levels m = omega arith

  call_at : (args : Reader (Node Bracketed)) (i : ℕ) → is_async text (behind text i) ≡ true
      → head_call text n args i ≡ and_then (guard (on_one_line text) args (behind text i).end) (λ list j. choose (nat_lt list.levels n) (pure (call_node (behind text i) list)) fail j)
  unfolding head_call
  call_at args i h =
      ap (λ r. and_then (and_then r (λ a m. and_then (guard (on_one_line text) args m) (λ b j. Some (node {A = Token × Bracketed} (a.tree, b.tree) (max a.levels b.levels), j)))) (λ a j. choose (nat_lt a.levels n) (pure (node (make_call a.tree) (a.levels + 1))) fail j)) (accepted text (is_async text) i (async_nothing text) h)
      ∙ then_assoc (guard (on_one_line text) args (behind text i).end) (λ b j. Some (node {A = Token × Bracketed} (behind text i, b.tree) (max 0 b.levels), j)) (λ a j. choose (nat_lt a.levels n) (pure (node (make_call a.tree) (a.levels + 1))) fail j)
      ∙ then_same (guard (on_one_line text) args (behind text i).end)
      (λ list j. choose (nat_lt (max 0 list.levels) n) (pure (node (make_call (behind text i, list.tree)) (max 0 list.levels + 1))) fail j)
      (λ list j. choose (nat_lt list.levels n) (pure (call_node (behind text i) list)) fail j)
      (λ list j. ap (λ m. choose (nat_lt m n) (pure (node (make_call (behind text i, list.tree)) (m + 1))) fail j) (same_levels list.levels))

  call_none : (i : ℕ) → is_async text (behind text i) ≡ true → guard (on_one_line text) (arguments n) (behind text i).end ≡ None → before_arrow text (head_call text n (arguments n)) i ≡ false
  unfolding before_arrow
  call_none i h none = rw (call_at (arguments n) i h, none) refl

  call_before : (i : ℕ) (list : Node Bracketed) (j : ℕ) (line low : Bool) → is_async text (behind text i) ≡ true → arguments n (behind text i).end ≡ Some (list, j) → on_one_line text (behind text i).end ≡ line → nat_lt list.levels n ≡ low
      → before_arrow text (head_call text n (arguments n)) i ≡ (line && (low && is_arrow_on_line (behind text j)))
  unfolding before_arrow
  call_before i list j true true h e line low = rw (call_at (arguments n) i h, line, e, low) refl
  call_before i list j true false h e line low = rw (call_at (arguments n) i h, line, e, low) refl
  call_before i list j false low h e line g = rw (call_at (arguments n) i h, line) refl

  call_arrow : (i : ℕ) (list : Node Bracketed) (j : ℕ) (covered : Bool) → is_async text (behind text i) ≡ true → arguments n (behind text i).end ≡ Some (list, j) → on_one_line text (behind text i).end ≡ true → nat_lt list.levels n ≡ true → covers_parameters n list.tree ≡ covered
      → arrow text n (head_call text n (such (arguments n) (covers_parameters n))) (body true) i ≡ choose covered (arrow text n (pure (call_node (behind text i) list)) (body true)) fail j
  unfolding arrow
  call_arrow i list j true h e line low covered = rw (call_at (such (arguments n) (covers_parameters n)) i h, line, e, covered, low) refl
  call_arrow i list j false h e line low covered = rw (call_at (such (arguments n) (covers_parameters n)) i h, line, e, covered) refl

  module _ (facts : ListsFirst text primary arguments n) where
    -- ---- where `(` is seen

    module _ (i : ℕ) (seen : is_left_parenthesis (behind text i).kind ≡ true) where
      kind : (behind text i).kind ≡ k.LeftParenthesis
      kind = is_parenthesis (behind text i).kind seen

      no_call : before_arrow text (head_call text n (arguments n)) i ≡ false
      no_call = no_call_head i (no_async text (behind text i) (ap is_name kind))

      primary_at : whole i ≡ and_then (above n e.Parenthesized (such (arguments n) is_plain_list) i) goes_on
      primary_at =
          plain_at i (ap (is_prefix c) kind) (ap is_new kind) (ap is_import kind) (ap is_super kind)
          ∙ ap (λ r. and_then r goes_on) (facts.listed i seen)

      told_list : entire i ≡ told i
      unfolding at_async_name at_name
      told_list = told_at i (ap (is_yield_in c) kind) (none_first _ _ (no_async text (behind text i) (ap is_name kind))) (none_first _ _ (ap (is_reference c) kind))

      list_by : (list : Node Bracketed) (j : ℕ) (low arrows : Bool) → arguments n i ≡ Some (list, j) → nat_lt list.levels n ≡ low → is_arrow_on_line (behind text j) ≡ arrows
          → told i ≡ choose low (choose (fits_behind arrows n list.tree) (choose arrows (arrow text n (pure (listed_node list)) (body false)) (goes_on (listed_node list))) fail) fail j
      list_by list j false arrows h low arrow_seen = neither i (list_deep i list j h low) no_call ∙ primary_at ∙ parenthesized i list j (is_plain_list list.tree) false h low refl
      list_by list j true true h low arrow_seen = list_head i (list_shallow i list j h low ∙ arrow_seen) ∙ list_arrow i list j (covers_parameters n list.tree) h low refl
      list_by list j true false h low arrow_seen = neither i (list_shallow i list j h low ∙ arrow_seen) no_call ∙ primary_at ∙ parenthesized i list j (is_plain_list list.tree) true h low refl

      list_found : (r : Found (Node Bracketed)) → arguments n i ≡ r → told i ≡ and_then r (λ list. behind_list text c primary arguments template many one block n list)
      unfolding behind_list behind_head
      list_found None h = neither i (no_list_head i h) no_call ∙ primary_at ∙ not_parenthesized i h
      list_found (Some p) h = list_by p.0 p.1 (nat_lt p.0.levels n) (is_arrow_on_line (behind text p.1)) h refl refl

      -- an AssignmentExpression is what goes on with Arguments
      pub at_list : entire i ≡ and_then (arguments n i) (λ list. behind_list text c primary arguments template many one block n list)
      at_list = told_list ∙ list_found (arguments n i) refl

    -- ---- elsewhere

    module _ (i : ℕ) (yields : at_yield text c i ≡ false) (async_name : at_async_name text i ≡ false) (name : at_name text c i ≡ false) (seen : is_left_parenthesis (behind text i).kind ≡ false) where
      no_call_by : (called : Bool) → is_async text (behind text i) ≡ called → (called && is_left_parenthesis (second text i).kind) ≡ false → before_arrow text (head_call text n (arguments n)) i ≡ false
      no_call_by false h absent = no_call_head i h
      no_call_by true h absent = call_none i h (guarded_none (on_one_line text (behind text i).end) (arguments n) (behind text i).end (facts.begins (behind text i).end absent))

      -- an AssignmentExpression is one without `yield` and arrows
      pub at_other : at_async_list text i ≡ false → entire i ≡ whole i
      at_other absent = told_at i yields async_name name ∙ neither i (no_list_head i (facts.begins i seen)) (no_call_by (is_async text (behind text i)) refl absent)

    -- ---- where `async` is seen before `(`

    module _ (i : ℕ) (seen : at_async_list text i ≡ true) where
      called : is_async text (behind text i) ≡ true
      called = and_first _ _ seen

      word_kind : (behind text i).kind ≡ k.Name
      word_kind = async_kind text (behind text i) called

      next_kind : (second text i).kind ≡ k.LeftParenthesis
      next_kind = is_parenthesis (second text i).kind (and_second _ _ seen)

      told_async : entire i ≡ told i
      unfolding at_async_name at_name
      told_async = told_at i (ap (is_yield_in c) word_kind) (none_second _ _ (none_first _ _ (none_first _ _ (ap is_binding next_kind)))) (none_second _ _ (none_first _ _ (ap is_arrow next_kind)))

      no_list : before_arrow text (head_list n (arguments n)) i ≡ false
      no_list = no_list_head i (facts.begins i (ap is_left_parenthesis word_kind))

      name_at : whole i ≡ goes_on (node (e.Primary (behind text i)) 0) (behind text i).end
      name_at =
          plain_at i (ap (is_prefix c) word_kind) (ap is_new word_kind) (ap is_import word_kind) (ap is_super word_kind)
          ∙ ap (λ r. and_then r goes_on) (facts.named i seen)

      async_by : (list : Node Bracketed) (j : ℕ) (line low arrows : Bool) → arguments n (behind text i).end ≡ Some (list, j) → on_one_line text (behind text i).end ≡ line → nat_lt list.levels n ≡ low → is_arrow_on_line (behind text j) ≡ arrows
          → told i ≡ choose (line && (low && arrows)) (choose (covers_parameters n list.tree) (arrow text n (pure (call_node (behind text i) list)) (body true)) fail) (λ _. goes_on (node (e.Primary (behind text i)) 0) (behind text i).end) j
      async_by list j false low arrows h line l a = neither i no_list (call_before i list j false low called h line l) ∙ name_at
      async_by list j true false arrows h line l a = neither i no_list (call_before i list j true false called h line l) ∙ name_at
      async_by list j true true false h line l a = neither i no_list (call_before i list j true true called h line l ∙ a) ∙ name_at
      async_by list j true true true h line l a = call_head i no_list (call_before i list j true true called h line l ∙ a) ∙ call_arrow i list j (covers_parameters n list.tree) called h line l refl

      async_found : (r : Found (Node Bracketed)) → arguments n (behind text i).end ≡ r → told i ≡ and_then r (λ list. behind_async text c primary arguments template many one block n (behind text i) (behind text i).end list)
      unfolding behind_async behind_head accessed links_of
      async_found None h =
          neither i no_list (call_none i called (guarded_none (on_one_line text (behind text i).end) (arguments n) (behind text i).end h))
          ∙ name_at ∙ links_go (node (e.Primary (behind text i)) 0) (behind text i).end
          ∙ ap (λ r. and_then r (λ y. over_first (postfixed text n (pure y)))) (no_links text n (primary n) (arguments n) (template n) (many n) (one (inside c) n) (behind text i) 0 (behind text i).end next_kind h)
      async_found (Some p) h = async_by p.0 p.1 (on_one_line text (behind text i).end) (nat_lt p.0.levels n) (is_arrow_on_line (behind text p.1)) h refl refl refl

      -- an AssignmentExpression is what goes on with `async` and Arguments
      pub at_async : entire i ≡ and_then (arguments n (behind text i).end) (λ list. behind_async text c primary arguments template many one block n (behind text i) (behind text i).end list)
      at_async = told_async ∙ async_found (arguments n (behind text i).end) refl
