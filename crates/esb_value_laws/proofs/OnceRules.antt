-- What is read as a ParenthesizedExpression is what is read as Arguments and has values alone.
use Rattle.std.proofs.Common.{◌≡◌, ℕ, zero, suc, ◌+◌, max, Bool, true, false, not, ◌&&◌, ◌||◌, cond, List, [], ◌∷◌, ◌++◌, length, Some, None, refl, ap, sym, ◌∙◌}
use mathlib.Core.Path.{fun_ext}
use Rattle.esb_token.specs.declared.kind.Kind.TheVariants as k
use Rattle.esb_token.specs.declared.token.Token.{Token}
use Rattle.esb_token.specs.declared.goal.Goal.TheVariants as goal
use Rattle.esb_tree.specs.declared.classes.ClassElement.TheOpen.{Element-F}
use Rattle.esb_tree.specs.declared.expressions.Expression.{Expression}
use Rattle.esb_tree.specs.declared.patterns.Bracketed.{out-roll-Bracketed}
use Rattle.esb_tree.specs.declared.patterns.Element.{Element, out-Element, out-roll-Element}
use Rattle.esb_tree.specs.declared.patterns.Element.TheVariants as el
use Rattle.esb_tree.specs.declared.patterns.Elements.{out-roll-Elements}
use Rattle.esb_tree.specs.declared.patterns.NextElement.{NextElement, out-NextElement, out-roll-NextElement}
use Rattle.esb_grammar.specs.declared.form.Form.TheVariants as f
use Rattle.esb_grammar.specs.Forms.{is_empty}
use Rattle.esb_grammar.specs.Kinds.{is_comma}
use Rattle.esb_reader.specs.declared.node.Node.{Node}
use Rattle.esb_reader.specs.Places.{Text}
use Rattle.esb_reader.specs.Reader.{Found, Reader, and_then, take, node, repeated, none}
use Rattle.esb_reader.specs.Parts.{behind, token, both, made, such, many}
use Rattle.esb_reading_laws.proofs.Steps.{if_goes, if_not}
use Rattle.esb_expression_laws.specs.Lists as read
use Rattle.esb_expression_laws.specs.Lists.{begins_element, is_dots, make_spread, make_next, make_list, make_bracketed, hole_layer, is_hole, all_fit, list_fits}
use Rattle.esb_value_laws.specs.Covers.{Element_layer}
use Rattle.esb_value_laws.specs.Laws.{OnceRule}
use Rattle.esb_value_laws.specs.Once.{plain_layer, is_plain, all_plain, elements_plain, is_plain_list}

-- ---- tests of what was read

abbrev Kept : {A : Type 0} → (A → Bool) → Node A → ℕ → Found (Node A)
Kept test a j = cond (test a.tree) (Some (a, j)) None

module _ {A B : Type 0} where
  such_made : (f : A → B) (more : ℕ) (p : Reader (Node A)) (test : B → Bool) → made f more (such p (λ a. test (f a))) ≡ such (made f more p) test
  such_made f more p test = fun_ext (λ i. by_found (p i))
    where
      by_test : (b : Bool) (a : Node A) (j : ℕ) → and_then (cond b (Some (a, j)) None) (λ x m. Some (node (f x.tree) (x.levels + more), m)) ≡ cond b (Some (node (f a.tree) (a.levels + more), j)) None
      by_test true a j = refl
      by_test false a j = refl

      by_found : (r : Found (Node A)) → and_then (and_then r (Kept (λ a. test (f a)))) (λ x m. Some (node (f x.tree) (x.levels + more), m)) ≡ and_then (and_then r (λ x m. Some (node (f x.tree) (x.levels + more), m))) (λ x j. cond (test x.tree) (Some (x, j)) None)
      by_found None = refl
      by_found (Some q) = by_test (test (f q.0.tree)) q.0 q.1

  abbrev Paired : Node A → Node B → ℕ → Found (Node (A × B))
  Paired a b j = Some (node (a.tree, b.tree) (max a.levels b.levels), j)

  such_first : (p : Reader (Node A)) (q : Reader (Node B)) (test : A → Bool) → both (such p test) q ≡ such (both p q) (λ x. test x.0)
  such_first p q test = fun_ext (λ i. by_found (p i))
    where
      by_second : (b : Bool) (a : Node A) (r : Found (Node B)) → test a.tree ≡ b → and_then (cond b (Some (a, 0)) None) (λ x m. and_then r (Paired x)) ≡ and_then (and_then r (Paired a)) (λ x j. cond (test x.tree.0) (Some (x, j)) None)
      by_second true a None h = refl
      by_second false a None h = refl
      by_second true a (Some q) h = sym (if_goes (test a.tree) _ _ h)
      by_second false a (Some q) h = sym (if_not (test a.tree) _ _ h)

      placed : (b : Bool) (a : Node A) (m : ℕ) → and_then (cond b (Some (a, m)) None) (λ x n. and_then (q n) (Paired x)) ≡ and_then (cond b (Some (a, 0)) None) (λ x n. and_then (q m) (Paired x))
      placed true a m = refl
      placed false a m = refl

      by_found : (r : Found (Node A)) → and_then (and_then r (Kept test)) (λ x m. and_then (q m) (Paired x)) ≡ and_then (and_then r (λ x m. and_then (q m) (Paired x))) (λ x j. cond (test x.tree.0) (Some (x, j)) None)
      by_found None = refl
      by_found (Some s) = placed (test s.0.tree) s.0 s.1 ∙ by_second (test s.0.tree) s.0 (q s.1) refl

  such_second : (p : Reader (Node A)) (q : Reader (Node B)) (test : B → Bool) → both p (such q test) ≡ such (both p q) (λ x. test x.1)
  such_second p q test = fun_ext (λ i. by_found (p i))
    where
      by_test : (t : Bool) (a : Node A) (b : Node B) (j : ℕ) → and_then (cond t (Some (b, j)) None) (Paired a) ≡ cond t (Some (node (a.tree, b.tree) (max a.levels b.levels), j)) None
      by_test true a b j = refl
      by_test false a b j = refl

      by_second : (a : Node A) (r : Found (Node B)) → and_then (and_then r (λ x j. cond (test x.tree) (Some (x, j)) None)) (Paired a) ≡ and_then (and_then r (Paired a)) (λ x j. cond (test x.tree.1) (Some (x, j)) None)
      by_second a None = refl
      by_second a (Some s) = by_test (test s.0.tree) a s.0 s.1

      by_found : (r : Found (Node A)) → and_then r (λ a m. and_then (such q test m) (Paired a)) ≡ and_then (and_then r (λ a m. and_then (q m) (Paired a))) (λ x j. cond (test x.tree.1) (Some (x, j)) None)
      by_found None = refl
      by_found (Some s) = by_second s.0 (q s.1)

such_such : {A : Type 0} (p : Reader (Node A)) (first second : A → Bool) → such (such p first) second ≡ such p (λ a. first a && second a)
such_such p first second = fun_ext (λ i. by_found (p i))
  where
    by_test : (s t : Bool) (a : Node _) (j : ℕ) → second a.tree ≡ t → and_then (cond s (Some (a, j)) None) (λ x m. cond (second x.tree) (Some (x, m)) None) ≡ cond (s && t) (Some (a, j)) None
    by_test true t a j h = ap (λ b. cond b (Some (a, j)) None) h
    by_test false t a j h = refl

    by_found : (r : Found (Node _)) → and_then (and_then r (λ x m. cond (first x.tree) (Some (x, m)) None)) (λ x m. cond (second x.tree) (Some (x, m)) None) ≡ and_then r (λ x m. cond (first x.tree && second x.tree) (Some (x, m)) None)
    by_found None = refl
    by_found (Some q) = by_test (first q.0.tree) (second q.0.tree) q.0 q.1 refl

such_same : {A : Type 0} (p : Reader (Node A)) (first second : A → Bool) → ((a : A) → first a ≡ second a) → such p first ≡ such p second
such_same p first second h = ap (λ test. such p test) (fun_ext h)

-- ---- items

abbrev all_pass : {A : Type 0} → (A → Bool) → List A → Bool
all_pass test [] = true
all_pass test (x ∷ xs) = test x && all_pass test xs

one_more : {A : Type 0} (test : A → Bool) (xs : List A) (x : A) → all_pass test (xs ++ x ∷ []) ≡ (all_pass test xs && test x)
one_more test [] x = by_test (test x)
  where
    by_test : (b : Bool) → (b && true) ≡ b
    by_test true = refl
    by_test false = refl
one_more test (y ∷ xs) x = ap (λ b. test y && b) (one_more test xs x) ∙ by_test (test y) (all_pass test xs) (test x)
  where
    by_test : (a b d : Bool) → (a && (b && d)) ≡ ((a && b) && d)
    by_test true b d = refl
    by_test false b d = refl

module _ {A : Type 0} (at : ℕ → Bool) (item : Reader (Node A)) (test : A → Bool) where
  abbrev More : Node (List A) → Node A → Node (List A)
  More found x = node (found.tree ++ x.tree ∷ []) (max found.levels x.levels)

  abbrev Refused : Node (List A) → ℕ → ℕ → Type 0
  Refused found turns i = such (repeated at item turns found) (all_pass test) i ≡ None

  refused_turn : (turns : ℕ) (found : Node (List A)) (i : ℕ) → all_pass test found.tree ≡ false → ((q : Node A × ℕ) → Refused (More found q.0) turns q.1) → (b : Bool) (r : Found (Node A))
      → and_then (cond b (and_then r (λ x. repeated at item turns (More found x))) (Some (found, i))) (Kept (all_pass test)) ≡ None
  refused_turn turns found i h next false r = if_not _ _ _ h
  refused_turn turns found i h next true None = refl
  refused_turn turns found i h next true (Some q) = next q

  refused : (turns : ℕ) (found : Node (List A)) (i : ℕ) → all_pass test found.tree ≡ false → Refused found turns i
  unfolding repeated
  refused zero found i h = if_not _ _ _ h
  refused (suc turns) found i h = refused_turn turns found i h (λ q. refused turns (More found q.0) q.1 (one_more test found.tree q.0.tree ∙ ap (λ b. b && test q.0.tree) h)) (at i) (item i)

  abbrev Same : Node (List A) → ℕ → ℕ → Type 0
  Same found turns i = repeated at (such item test) turns found i ≡ such (repeated at item turns found) (all_pass test) i

  kept_item : (turns : ℕ) (found : Node (List A)) → (q : Node A × ℕ) → (test q.0.tree ≡ true → Same (More found q.0) turns q.1) → (test q.0.tree ≡ false → Refused (More found q.0) turns q.1) → (b : Bool) → test q.0.tree ≡ b
      → and_then (cond b (Some (q.0, q.1)) None) (λ x. repeated at (such item test) turns (More found x)) ≡ such (repeated at item turns (More found q.0)) (all_pass test) q.1
  kept_item turns found q next none_next true e = next e
  kept_item turns found q next none_next false e = sym (none_next e)

  kept_turn : (turns : ℕ) (found : Node (List A)) (i : ℕ) → all_pass test found.tree ≡ true
      → ((q : Node A × ℕ) → and_then (Kept test q.0 q.1) (λ x. repeated at (such item test) turns (More found x)) ≡ such (repeated at item turns (More found q.0)) (all_pass test) q.1) → (b : Bool) (r : Found (Node A))
      → cond b (and_then (and_then r (Kept test)) (λ x. repeated at (such item test) turns (More found x))) (Some (found, i)) ≡ and_then (cond b (and_then r (λ x. repeated at item turns (More found x))) (Some (found, i))) (Kept (all_pass test))
  kept_turn turns found i h next false r = sym (if_goes _ _ _ h)
  kept_turn turns found i h next true None = refl
  kept_turn turns found i h next true (Some q) = next q

  kept : (turns : ℕ) (found : Node (List A)) (i : ℕ) → all_pass test found.tree ≡ true → Same found turns i
  unfolding repeated
  kept zero found i h = sym (if_goes _ _ _ h)
  kept (suc turns) found i h =
      kept_turn turns found i h
      (λ q. kept_item turns found q
      (λ e. kept turns (More found q.0) q.1 (one_more test found.tree q.0.tree ∙ ap (λ b. b && test q.0.tree) h ∙ e))
      (λ e. refused turns (More found q.0) q.1 (one_more test found.tree q.0.tree ∙ ap (λ b. b && test q.0.tree) h ∙ e)) (test q.0.tree) refl)
      (at i) (item i)

-- ---- elements

abbrev dots_layer : Element_layer → Bool
dots_layer (Element-F.Spread dots x) = false
dots_layer _ = true

no_dots : Element → Bool
no_dots x = dots_layer (out-Element x)

dots_Hole : no_dots el.Hole ≡ true
unfolding no_dots
dots_Hole = ap dots_layer (ap out-Element (sym el.rolls-Hole) ∙ out-roll-Element Element-F.Hole)

dots_Value : (x : Expression) → no_dots (el.Value x) ≡ true
unfolding no_dots
dots_Value x = ap dots_layer (ap out-Element (sym (el.rolls-Value x)) ∙ out-roll-Element (Element-F.Value x))

dots_Spread : (p : Token × Expression) → no_dots (make_spread p) ≡ false
unfolding no_dots
dots_Spread p = ap dots_layer (ap out-Element (sym (el.rolls-Spread p.0 p.1)) ∙ out-roll-Element (Element-F.Spread p.0 p.1))

layers_apart : (x : Element_layer) → (not (hole_layer x) && dots_layer x) ≡ plain_layer x
layers_apart (Element-F.Hole) = refl
layers_apart (Element-F.Spread dots x) = refl
layers_apart _ = refl

plain_is : (x : Element) → (not (is_hole x) && no_dots x) ≡ is_plain x
unfolding is_hole is_plain no_dots
plain_is x = layers_apart (out-Element x)

-- an element in its place
in_place : (h d last : Bool) → ((not h || false) && d) ≡ ((not h || last) && (not h && d))
in_place false d last = refl
in_place true d true = refl
in_place true d false = refl

swap : (a b x y : Bool) → ((a && b) && (x && y)) ≡ ((a && x) && (b && y))
swap false b x y = refl
swap true true x y = refl
swap true false true y = refl
swap true false false y = refl

element_of : NextElement → Element
element_of o = (out-NextElement o).element

abbrev next_dots : NextElement → Bool
next_dots o = no_dots (out-NextElement o).element

nexts_fit : (os : List NextElement) → (all_fit f.Values os && all_pass next_dots os) ≡ (all_fit f.Arguments os && all_plain os)
nexts_fit [] = refl
nexts_fit (o ∷ os) =
    let x = (out-NextElement o).element in
    swap (not (is_hole x) || false) (all_fit f.Values os) (no_dots x) (all_pass next_dots os)
    ∙ ap (λ b. b && (all_fit f.Values os && all_pass next_dots os)) (in_place (is_hole x) (no_dots x) (is_empty os) ∙ ap (λ b. (not (is_hole x) || is_empty os) && b) (plain_is x))
    ∙ ap (λ b. ((not (is_hole x) || is_empty os) && is_plain x) && b) (nexts_fit os)
    ∙ sym (swap (not (is_hole x) || is_empty os) (all_fit f.Arguments os) (is_plain x) (all_plain os))

and_turned : (a b : Bool) → (a && b) ≡ (b && a)
and_turned true true = refl
and_turned true false = refl
and_turned false true = refl
and_turned false false = refl

fits_plain : (p : Element × List NextElement) → ((no_dots p.0 && all_pass next_dots p.1) && list_fits f.Values p) ≡ (list_fits f.Arguments p && (is_plain p.0 && all_plain p.1))
fits_plain p =
    and_turned (no_dots p.0 && all_pass next_dots p.1) (list_fits f.Values p)
    ∙ swap (not (is_hole p.0) || false) (all_fit f.Values p.1) (no_dots p.0) (all_pass next_dots p.1)
    ∙ ap (λ b. b && (all_fit f.Values p.1 && all_pass next_dots p.1)) (in_place (is_hole p.0) (no_dots p.0) (is_empty p.1) ∙ ap (λ b. (not (is_hole p.0) || is_empty p.1) && b) (plain_is p.0))
    ∙ ap (λ b. ((not (is_hole p.0) || is_empty p.1) && is_plain p.0) && b) (nexts_fit p.1)
    ∙ sym (swap (not (is_hole p.0) || is_empty p.1) (all_fit f.Arguments p.1) (is_plain p.0) (all_plain p.1))

-- ---- the readers

module _ (text : Text) (inner : Reader (Node Expression)) where
  spread_fails : (i : ℕ) → read.spread text f.Values inner i ≡ None
  unfolding read.spread
  spread_fails i = by_found (take text goal.Div i)
    where
      no_and : (b : Bool) (r : Found (Node Token)) → cond (b && false) r None ≡ None
      no_and true r = refl
      no_and false r = refl

      by_found : (r : Found Token) → and_then (and_then (and_then r (λ t j. cond (is_dots t.kind && false) (Some (node t 0, j)) None)) (λ a m. and_then (inner m) (λ b j. Some (node {A = Token × Expression} (a.tree, b.tree) (max a.levels b.levels), j)))) (λ a j. Some (node (make_spread a.tree) (a.levels + 0), j)) ≡ None
      by_found None = refl
      by_found (Some q) = ap (λ r. and_then (and_then r (λ a m. and_then (inner m) (λ b j. Some (node {A = Token × Expression} (a.tree, b.tree) (max a.levels b.levels), j)))) (λ a j. Some (node (make_spread a.tree) (a.levels + 0), j))) (no_and (is_dots q.0.kind) (Some (node q.0 0, q.1)))

  spread_refused : (i : ℕ) → such (read.spread text f.Arguments inner) no_dots i ≡ None
  unfolding read.spread
  spread_refused i = by_found _
    where
      by_found : (r : Found (Node (Token × Expression))) → and_then (and_then r (λ a j. Some (node (make_spread a.tree) (a.levels + 0), j))) (λ x j. cond (no_dots x.tree) (Some (x, j)) None) ≡ None
      by_found None = refl
      by_found (Some q) = if_not _ _ _ (dots_Spread q.0.tree)

  value_kept : (i : ℕ) → read.value text f.Values inner i ≡ such (read.value text f.Arguments inner) no_dots i
  unfolding read.value
  value_kept i = by_found (inner i)
    where
      by_found : (r : Found (Node Expression)) → and_then r (λ a j. Some (node (el.Value a.tree) (a.levels + 0), j)) ≡ and_then (and_then r (λ a j. Some (node (el.Value a.tree) (a.levels + 0), j))) (λ x j. cond (no_dots x.tree) (Some (x, j)) None)
      by_found None = refl
      by_found (Some q) = sym (if_goes _ _ _ (dots_Value q.0.tree))

  element_is : read.element text f.Values inner ≡ such (read.element text f.Arguments inner) no_dots
  unfolding read.element
  element_is = fun_ext (λ i. by_tests i (begins_element (behind text i)) (is_dots (behind text i).kind))
    where
      by_tests : (i : ℕ) (b d : Bool) → cond b (cond d (read.spread text f.Values inner i) (read.value text f.Values inner i)) (Some (node el.Hole 0, i))
          ≡ and_then (cond b (cond d (read.spread text f.Arguments inner i) (read.value text f.Arguments inner i)) (Some (node el.Hole 0, i))) (λ x j. cond (no_dots x.tree) (Some (x, j)) None)
      by_tests i true true = spread_fails i ∙ sym (spread_refused i)
      by_tests i true false = value_kept i
      by_tests i false d = sym (if_goes _ _ _ dots_Hole)

  next_is : read.next_element text f.Values inner ≡ such (read.next_element text f.Arguments inner) next_dots
  unfolding read.next_element
  next_is =
      let comma = token text k.Comma in
      let one = read.element text f.Arguments inner in
      ap (λ r. made make_next 0 (both comma r)) element_is
      ∙ ap (λ r. made make_next 0 r) (such_second comma one no_dots)
      ∙ ap (λ r. made make_next 0 r) (such_same (both comma one) (λ p. no_dots p.1) (λ p. next_dots (make_next p)) (λ p. ap (λ z. no_dots z.element) (sym (out-roll-NextElement (record { comma = p.0; element = p.1 })))))
      ∙ such_made make_next 0 (both comma one) next_dots

  many_is : many text (λ t. is_comma t.kind) (read.next_element text f.Values inner) ≡ such (many text (λ t. is_comma t.kind) (read.next_element text f.Arguments inner)) (all_pass next_dots)
  many_is =
      ap (λ r. many text (λ t. is_comma t.kind) r) next_is
      ∙ fun_ext (λ i. kept (λ m. is_comma (behind text m).kind) (read.next_element text f.Arguments inner) next_dots (length text) none i refl)

  list_is : read.list text f.Values inner ≡ such (read.list text f.Arguments inner) elements_plain
  unfolding read.list
  list_is =
      let one = read.element text f.Arguments inner in
      let rest = many text (λ t. is_comma t.kind) (read.next_element text f.Arguments inner) in
      let kept_both : both (read.element text f.Values inner) (many text (λ t. is_comma t.kind) (read.next_element text f.Values inner)) ≡ such (both one rest) (λ p. no_dots p.0 && all_pass next_dots p.1) =
      ap (λ r. both r (many text (λ t. is_comma t.kind) (read.next_element text f.Values inner))) element_is ∙ ap (λ r. both (such one no_dots) r) many_is
      ∙ such_second (such one no_dots) rest (all_pass next_dots) ∙ ap (λ r. such r (λ p. all_pass next_dots p.1)) (such_first one rest no_dots) ∙ such_such (both one rest) (λ p. no_dots p.0) (λ p. all_pass next_dots p.1)
      in
      ap (λ r. made make_list 0 (such r (list_fits f.Values))) kept_both
      ∙ ap (λ r. made make_list 0 r) (such_such (both one rest) (λ p. no_dots p.0 && all_pass next_dots p.1) (list_fits f.Values) ∙ such_same (both one rest) _ (λ p. list_fits f.Arguments p && (is_plain p.0 && all_plain p.1)) fits_plain ∙ sym (such_such (both one rest) (list_fits f.Arguments) (λ p. is_plain p.0 && all_plain p.1)))
      ∙ ap (λ r. made make_list 0 r) (such_same (such (both one rest) (list_fits f.Arguments)) (λ p. is_plain p.0 && all_plain p.1) (λ p. elements_plain (make_list p)) (λ p. ap (λ z. is_plain z.first && all_plain z.rest) (sym (out-roll-Elements (record { first = p.0; rest = p.1 })))))
      ∙ such_made make_list 0 (such (both one rest) (list_fits f.Arguments)) elements_plain

  bracketed_is : read.bracketed text f.Values inner ≡ such (read.bracketed text f.Arguments inner) is_plain_list
  unfolding read.bracketed is_plain_list
  bracketed_is =
      let begin = token text k.LeftParenthesis in
      let ending = token text k.RightParenthesis in
      let list = read.list text f.Arguments inner in
      ap (λ r. made make_bracketed 0 (both (both begin r) ending)) list_is
      ∙ ap (λ r. made make_bracketed 0 (both r ending)) (such_second begin list elements_plain)
      ∙ ap (λ r. made make_bracketed 0 r) (such_first (both begin list) ending (λ p. elements_plain p.1))
      ∙ ap (λ r. made make_bracketed 0 r) (such_same (both (both begin list) ending) (λ p. elements_plain p.0.1) (λ p. is_plain_list (make_bracketed p)) (λ p. ap (λ z. elements_plain z.list) (sym (out-roll-Bracketed (record { begin = p.0.0; list = p.0.1; ending = p.1 })))))
      ∙ such_made make_bracketed 0 (both (both begin list) ending) is_plain_list

pub once_rule : OnceRule
once_rule text inner i = ap (λ r. r i) (bracketed_is text inner)
