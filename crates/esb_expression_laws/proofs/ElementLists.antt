-- Lists in parentheses and brackets are read exactly.
use Rattle.std.proofs.Common.{◌≡◌, ℕ, ◌⊎◌, inl, inr, max, Bool, true, false, not, ◌&&◌, ◌||◌, List, [], ◌∷◌, refl, ap, sym, ◌∙◌, subst, arith}
use Rattle.std.specs.List.{flat_map, AllByRecursion}
use Rattle.esb_token.specs.declared.kind.Kind.{Kind}
use Rattle.esb_token.specs.declared.kind.Kind.TheVariants as k
use Rattle.esb_token.specs.declared.token.Token.{Token}
use Rattle.esb_token.specs.declared.goal.Goal.TheVariants as goal
use Rattle.esb_token.specs.Tokens.{SpelledBetween}
use Rattle.esb_tree.specs.declared.expressions.Expression.{Expression}
use Rattle.esb_tree.specs.declared.patterns.Bracketed.{Bracketed}
use Rattle.esb_tree.specs.declared.patterns.Element.{Element, out-Element, out-roll-Element}
use Rattle.esb_tree.specs.declared.patterns.Element.TheVariants as el
use Rattle.esb_tree.specs.declared.classes.ClassElement.TheOpen.{Element-F}
use Rattle.esb_tree.specs.declared.patterns.Elements.{Elements}
use Rattle.esb_tree.specs.declared.patterns.NextElement.{NextElement, out-NextElement, out-roll-NextElement}
use Rattle.esb_tree.specs.Levels.{depth_of_expression, depth_of_element, depth_of_next_element, depth_of_elements, depth_of_bracketed}
use Rattle.esb_tree.specs.Trees.{written}
use Rattle.esb_tree.specs.Yields.{tokens_of_element, tokens_of_next_element, tokens_of_elements, tokens_of_bracketed}
use Rattle.esb_tree.proofs.TokenLines.{tokens_Hole, tokens_Value, tokens_Spread, tokens_NextElement, tokens_Elements, tokens_Bracketed}
use Rattle.esb_tree.proofs.LevelLines.{levels_Hole, levels_Value, levels_Spread, levels_NextElement, levels_Elements, levels_Bracketed}
use Rattle.esb_grammar.specs.declared.context.Context.{Context}
use Rattle.esb_grammar.specs.declared.form.Form.{Form}
use Rattle.esb_grammar.specs.declared.form.Form.TheVariants as f
use Rattle.esb_grammar.specs.Contexts.{inside}
use Rattle.esb_grammar.specs.Forms.{opener, closer, takes_hole, takes_value, takes_binding, is_empty}
use Rattle.esb_grammar.specs.Grammar.{IsAssignment, IsBracketed, AreElements, elements, AreNextElements, no_elements, more_elements, IsElement, hole, shorthand, cover_initialized_name, property, method_property, binding_element, rest_element, single_name, single_name_initialized, binding_property, rest_property, binding}
use Rattle.esb_grammar.specs.Kinds.{is_comma}
use Rattle.esb_reader.specs.declared.node.Node.{Node}
use Rattle.esb_reader.specs.Kinds.{agrees}
use Rattle.esb_reader.specs.Places.{Text}
use Rattle.esb_reader.specs.Reader.{Reader}
use Rattle.esb_reader.specs.Parts.{behind, both, token, token_in, made, such, choice, empty, many}
use Rattle.esb_reader.specs.Stands.{Syntax, Rule, Made, tokens, tokens_in, pairs, row, which, last_stops, list_stops}
use Rattle.esb_reader.proofs.Agreeing.{seen, spelled-is_read}
use Rattle.esb_reading_laws.specs.Laws.{Repeats}
use Rattle.esb_reading_laws.proofs.Composed.{token_rule, token_in_rule, both_rule, plain_rule, such_rule, choice_rule, empty_rule, same_rule}
use Rattle.esb_reading_laws.proofs.Steps.{spelled_split}
use Rattle.esb_reading_laws.proofs.Rows.{many_rule}
use Rattle.esb_expression_laws.specs.Leaves.{expressions}
use Rattle.esb_expression_laws.specs.Lists as read
use Rattle.esb_expression_laws.specs.Lists.{is_closer, ends_element, begins_element, is_dots, make_spread, make_next, make_list, make_bracketed, hole_layer, is_hole, fits_place, all_fit, list_fits}
use Rattle.esb_expression_laws.specs.Laws.{ReadsValues, lists, BracketedRule}
use Rattle.esb_expression_laws.proofs.OperatorChains.{spelled_moves}

-- ---- kinds

left_of : (a b : Bool) → (a && b) ≡ true → a ≡ true
left_of true b h = refl
left_of false b h = cc

right_of : (a b : Bool) → (a && b) ≡ true → b ≡ true
right_of true b h = h
right_of false b h = cc

and_of : (a b : Bool) → a ≡ true → b ≡ true → (a && b) ≡ true
and_of true b h g = g
and_of false b h g = cc

neither_left : (a b : Bool) → (a || b) ≡ false → a ≡ false
neither_left false b h = refl
neither_left true b h = cc

neither_right : (a b : Bool) → (a || b) ≡ false → b ≡ false
neither_right false b h = h
neither_right true b h = cc

dots_is : (kind : Kind) → is_dots kind ≡ true → kind ≡ k.Ellipsis
dots_is k.Ellipsis h = refl
dots_is _ h = cc

comma_is : (kind : Kind) → is_comma kind ≡ true → kind ≡ k.Comma
comma_is k.Comma h = refl
comma_is _ h = cc

closer_ends : (kind : Kind) → is_closer kind ≡ true → (is_comma kind || is_closer kind) ≡ true
closer_ends k.Comma h = refl
closer_ends _ h = h

closer_no_comma : (kind : Kind) → is_closer kind ≡ true → is_comma kind ≡ false
closer_no_comma k.Comma h = cc
closer_no_comma _ h = refl

comma_ends : (kind : Kind) → is_comma kind ≡ true → (is_comma kind || is_closer kind) ≡ true
comma_ends kind h = ap (λ b. b || is_closer kind) h

closer_is : (form : Form) → is_closer (closer form) ≡ true
closer_is f.Array = refl
closer_is f.ArrayPattern = refl
closer_is f.Object = refl
closer_is f.ObjectPattern = refl
closer_is _ = refl

closer_agrees : (form : Form) → agrees goal.Div (closer form) ≡ true
closer_agrees f.Array = refl
closer_agrees f.ArrayPattern = refl
closer_agrees f.Object = refl
closer_agrees f.ObjectPattern = refl
closer_agrees _ = refl

opener_agrees : (form : Form) → agrees goal.Div (opener form) ≡ true
opener_agrees f.Array = refl
opener_agrees f.ArrayPattern = refl
opener_agrees f.Object = refl
opener_agrees f.ObjectPattern = refl
opener_agrees _ = refl

no_binding : (form : Form) → takes_value form ≡ true → takes_binding form ≡ true → ⊥
no_binding f.Parameters h g = cc
no_binding f.ArrayPattern h g = cc
no_binding _ h g = cc

-- the token that is seen where tokens are spelled
sees : (text : Text) (i : ℕ) (t : Token) (ts : List Token) (j : ℕ) → SpelledBetween text i (t ∷ ts) j → agrees goal.Div t.kind ≡ true → behind text i ≡ t
sees text i t ts j h same = seen text goal.Div i t (spelled-is_read text goal.Div i t h.0 same)

max_zero : (m : ℕ) → m ≡ max 0 m
max_zero m = omega arith

-- ---- holes

hole_is : is_hole el.Hole ≡ true
unfolding is_hole
hole_is = ap hole_layer (ap out-Element (sym el.rolls-Hole) ∙ out-roll-Element (Element-F.Hole))

value_no_hole : (x : Expression) → is_hole (el.Value x) ≡ false
unfolding is_hole
value_no_hole x = ap hole_layer (ap out-Element (sym (el.rolls-Value x)) ∙ out-roll-Element (Element-F.Value x))

spread_no_hole : (dots : Token) (x : Expression) → is_hole (el.Spread dots x) ≡ false
unfolding is_hole
spread_no_hole dots x = ap hole_layer (ap out-Element (sym (el.rolls-Spread dots x)) ∙ out-roll-Element (Element-F.Spread dots x))

fits_full : (form : Form) (last : Bool) (x : Element) → is_hole x ≡ false → fits_place form last x ≡ true
fits_full form last x h = ap (λ b. not b || takes_hole form last) h

fits_hole : (form : Form) (last : Bool) → fits_place form last el.Hole ≡ takes_hole form last
fits_hole form last = ap (λ b. not b || takes_hole form last) hole_is

module _ (text : Text) (form : Form) (c : Context) (n : ℕ) (inner : Reader (Node Expression)) (values : takes_value form ≡ true) (r : ReadsValues text c n inner) where
  abbrev Values : Syntax Expression
  Values = expressions (IsAssignment text (inside c))

  abbrev of_elements : (Element → Type 0) → Syntax Element
  of_elements Good = record { yields = tokens_of_element written; levels_of = depth_of_element; Good = Good }

  abbrev IsSpread : Element → Type 0
  IsSpread = Made (pairs (tokens_in (read.takes_dots text form inner)) Values) make_spread

  abbrev IsValue : Element → Type 0
  IsValue = Made Values el.Value

  abbrev IsLoose : Element → Type 0
  IsLoose x = (IsSpread x ⊎ IsValue x) ⊎ (x ≡ el.Hole)

  abbrev Loose : Syntax Element
  Loose = of_elements IsLoose

  abbrev Nexts : Syntax NextElement
  Nexts = record { yields = tokens_of_next_element written; levels_of = depth_of_next_element; Good = Made (pairs (tokens k.Comma) Loose) make_next }

  dots_agree : (t : Token) → read.takes_dots text form inner t ≡ true → agrees goal.Div t.kind ≡ true
  dots_agree t h = ap (agrees goal.Div) (dots_is t.kind (left_of _ _ h))

  spread_rule : Rule text (of_elements IsSpread) n n (λ _. ends_element) (read.spread text form inner)
  unfolding read.spread
  spread_rule =
      plain_rule text (pairs (tokens_in (read.takes_dots text form inner)) Values) (tokens_of_element written) depth_of_element n n (λ _. ends_element) (λ _. ends_element) make_spread (both (token_in text goal.Div (read.takes_dots text form inner)) inner)
      (both_rule text (tokens_in (read.takes_dots text form inner)) Values n n (λ _ _. true) (λ _. ends_element) (λ _. ends_element) (token_in text goal.Div (read.takes_dots text form inner)) inner
      (token_in_rule text n n goal.Div (read.takes_dots text form inner) dots_agree) r.rule (λ a b t h. h) (λ a b m j ga gb h stop. refl))
      (λ p. tokens_Spread written p.0 p.1) (λ p. levels_Spread p.0 p.1 ∙ max_zero (depth_of_expression p.1)) (λ p t h. h)

  value_rule : Rule text (of_elements IsValue) n n (λ _. ends_element) (read.value text form inner)
  unfolding read.value
  value_rule = plain_rule text Values (tokens_of_element written) depth_of_element n n (λ _. ends_element) (λ _. ends_element) el.Value inner r.rule (λ x. tokens_Value written x) levels_Value (λ x t h. h)

  -- what an element shows
  dots_seen : (x : Element) (i j : ℕ) → IsSpread x → SpelledBetween text i (tokens_of_element written x) j → (behind text i).kind ≡ k.Ellipsis
  dots_seen x i j good h =
      let t = good.0.0 in
      let spelled = subst (λ ts. SpelledBetween text i ts j) (ap (tokens_of_element written) good.1 ∙ tokens_Spread written t good.0.1) h in
      ap (λ (u : Token). u.kind) (sees text i t _ j spelled (dots_agree t good.2.0)) ∙ dots_is t.kind (left_of _ _ good.2.0)

  value_seen : (x : Element) (i j : ℕ) → IsValue x → SpelledBetween text i (tokens_of_element written x) j → (ends_element (behind text i) || is_dots (behind text i).kind) ≡ false
  value_seen x i j good h = r.shows good.0 i j good.2 (subst (λ ts. SpelledBetween text i ts j) (ap (tokens_of_element written) good.1 ∙ tokens_Value written good.0) h)

  full_seen : (x : Element) (i j : ℕ) → IsSpread x ⊎ IsValue x → SpelledBetween text i (tokens_of_element written x) j → begins_element (behind text i) ≡ true
  full_seen x i j (inl good) h = ap (λ kind. not (is_comma kind || is_closer kind)) (dots_seen x i j good h)
  full_seen x i j (inr good) h = ap not (neither_left _ _ (value_seen x i j good h))

  nothing_seen : (x : Element) (i j : ℕ) → x ≡ el.Hole → SpelledBetween text i (tokens_of_element written x) j → ends_element (behind text j) ≡ true → begins_element (behind text i) ≡ false
  nothing_seen x i j e h stop =
      let here : i ≡ j = subst (λ ts. SpelledBetween text i ts j) (ap (tokens_of_element written) e ∙ tokens_Hole written) h in
      ap (λ m. begins_element (behind text m)) here ∙ ap not stop

  element_rule : Rule text Loose n n (λ _. ends_element) (read.element text form inner)
  unfolding read.element
  element_rule =
      choice_rule text Loose (λ x. IsSpread x ⊎ IsValue x) (λ x. x ≡ el.Hole) n n (λ _. ends_element) begins_element (choice text (λ t. is_dots t.kind) (read.spread text form inner) (read.value text form inner)) (empty el.Hole)
      (choice_rule text Loose IsSpread IsValue n n (λ _. ends_element) (λ t. is_dots t.kind) (read.spread text form inner) (read.value text form inner) spread_rule value_rule
      (λ x i j good h. ap is_dots (dots_seen x i j good h)) (λ x i j good h stop. neither_right _ _ (value_seen x i j good h)))
      (empty_rule text (tokens_of_element written) depth_of_element n n (λ _. ends_element) el.Hole (tokens_Hole written) levels_Hole)
      full_seen nothing_seen

  next_rule : Rule text Nexts n n (λ _. ends_element) (read.next_element text form inner)
  unfolding read.next_element
  next_rule =
      plain_rule text (pairs (tokens k.Comma) Loose) (tokens_of_next_element written) depth_of_next_element n n (λ _. ends_element) (λ _. ends_element) make_next (both (token text k.Comma) (read.element text form inner))
      (both_rule text (tokens k.Comma) Loose n n (λ _ _. true) (λ _. ends_element) (λ _. ends_element) (token text k.Comma) (read.element text form inner) (token_rule text n n k.Comma refl) element_rule (λ a b t h. h) (λ a b m j ga gb h stop. refl))
      (λ p. tokens_NextElement written p.0 p.1) (λ p. levels_NextElement p.0 p.1 ∙ max_zero (depth_of_element p.1)) (λ p t h. h)

  spelled_next : (o : NextElement) (i j : ℕ) (good : Nexts.Good o) → SpelledBetween text i (tokens_of_next_element written o) j → SpelledBetween text i (good.0.0 ∷ tokens_of_element written good.0.1) j
  spelled_next o i j good h = subst (λ ts. SpelledBetween text i ts j) (ap (tokens_of_next_element written) good.1 ∙ tokens_NextElement written good.0.0 good.0.1) h

  comma_seen : (o : NextElement) (i j : ℕ) → Nexts.Good o → SpelledBetween text i (tokens_of_next_element written o) j → (behind text i).kind ≡ k.Comma
  comma_seen o i j good h =
      let t = good.0.0 in
      ap (λ (u : Token). u.kind) (sees text i t _ j (spelled_next o i j good h) (ap (agrees goal.Div) good.2.0)) ∙ good.2.0

  repeats : Repeats text Nexts n n (λ i. is_comma (behind text i).kind) (λ _. ends_element) (read.next_element text form inner)
  repeats = record {
    rule = next_rule;
    starts = λ o i j good h. ap is_comma (comma_seen o i j good h);
    moves = λ o i j good h. spelled_moves text i good.0.0 _ j (spelled_next o i j good h);
    apart = λ o i good h. comma_ends (behind text i).kind h;
  }

  last_ends : (os : List NextElement) (t : Token) → ends_element t ≡ true → last_stops (λ _. ends_element) os t ≡ true
  last_ends [] t h = refl
  last_ends (o ∷ []) t h = h
  last_ends (o ∷ p ∷ os) t h = last_ends (p ∷ os) t h

  rest_ends : (os : List NextElement) (t : Token) → is_closer t.kind ≡ true → list_stops (λ _. ends_element) (λ u. is_comma u.kind) os t ≡ true
  rest_ends os t h = and_of _ _ (last_ends os t (closer_ends t.kind h)) (ap not (closer_no_comma t.kind h))

  rest_seen : (os : List NextElement) (m j : ℕ) → AllByRecursion Nexts.Good os → SpelledBetween text m (flat_map (tokens_of_next_element written) os) j → is_closer (behind text j).kind ≡ true → ends_element (behind text m) ≡ true
  rest_seen [] m j good h stop = let here : m ≡ j = h in ap (λ i. ends_element (behind text i)) here ∙ closer_ends (behind text j).kind stop
  rest_seen (o ∷ os) m j good h stop =
      let cut = spelled_split text m (tokens_of_next_element written o) (flat_map (tokens_of_next_element written) os) j h in
      comma_ends (behind text m).kind (ap is_comma (comma_seen o m cut.0 good.0 cut.1))

  -- ---- the families

  element_of : (last : Bool) (x : Element) → IsLoose x → fits_place form last x ≡ true → IsElement text form last c x
  element_of last x (inl (inl h)) fits = subst (IsElement text form last c) (sym h.1) (IsElement.spread (right_of _ _ h.2.0) (dots_is h.0.0.kind (left_of _ _ h.2.0)) h.2.1)
  element_of last x (inl (inr h)) fits = subst (IsElement text form last c) (sym h.1) (IsElement.value values h.2)
  element_of last x (inr h) fits = subst (IsElement text form last c) (sym h) (hole (sym (fits_hole form last) ∙ subst (λ y. fits_place form last y ≡ true) h fits))

  abbrev Placed : Bool → Element → Type 0
  Placed last x = IsLoose x × (fits_place form last x ≡ true)

  next_of : (comma : Token) (x : Element) → comma.kind ≡ k.Comma → IsLoose x → Nexts.Good (make_next (comma, x))
  next_of comma x h good = ((comma, x), refl, (h, good))

  element_in : (comma : Token) (x : Element) → (out-NextElement (make_next (comma, x))).element ≡ x
  element_in comma x = ap (λ o. o.element) (out-roll-NextElement (record { comma = comma; element = x }))

  nexts_of : (os : List NextElement) → AllByRecursion Nexts.Good os → all_fit form os ≡ true → AreNextElements text form c os
  nexts_of [] good fits = no_elements
  nexts_of (o ∷ os) good fits =
      let made = good.0 in
      let here : fits_place form (is_empty os) made.0.1 ≡ true = ap (fits_place form (is_empty os)) (sym (ap (λ y. (out-NextElement y).element) made.1 ∙ element_in made.0.0 made.0.1)) ∙ left_of _ _ fits in
      subst (λ y. AreNextElements text form c (y ∷ os)) (sym made.1)
      (more_elements made.2.0 (element_of (is_empty os) made.0.1 made.2.1 here) (nexts_of os good.1 (right_of _ _ fits)))

-- an element of a form that takes values, and its place
loose_of : (text : Text) (form : Form) (c : Context) (n : ℕ) (inner : Reader (Node Expression)) (values : takes_value form ≡ true) (r : ReadsValues text c n inner) (last : Bool) (x : Element) → IsElement text form last c x → Placed text form c n inner values r last x
loose_of text form c n inner values r last x (hole h) = (inr refl, fits_hole form last ∙ h)
loose_of text form c n inner values r last x (IsElement.value {x = y} takes good) = (inl (inr (y, refl, good)), fits_full form last (el.Value y) (value_no_hole y))
loose_of text form c n inner values r last x (IsElement.spread {dots = t} {x = y} takes dots good) = (inl (inl ((t, y), refl, (and_of _ _ (ap is_dots dots) takes, good))), fits_full form last (el.Spread t y) (spread_no_hole t y))
loose_of text form c n inner values r last x (binding_element takes good) = absurd (no_binding form values takes)
loose_of text form c n inner values r last x (rest_element takes dots good) = absurd (no_binding form values takes)
loose_of text form c n inner values r last x (shorthand h) = cc
loose_of text form c n inner values r last x (cover_initialized_name h1 h2 h3) = cc
loose_of text form c n inner values r last x (property h1 h2 h3) = cc
loose_of text form c n inner values r last x (method_property h) = cc
loose_of text form c n inner values r last x (single_name h) = cc
loose_of text form c n inner values r last x (single_name_initialized h1 h2 h3) = cc
loose_of text form c n inner values r last x (binding_property h1 h2 h3) = cc
loose_of text form c n inner values r last x (rest_property h1 h2) = cc
loose_of text form c n inner values r last x (binding h) = cc

all_nexts : (text : Text) (form : Form) (c : Context) (n : ℕ) (inner : Reader (Node Expression)) (values : takes_value form ≡ true) (r : ReadsValues text c n inner) (os : List NextElement) → AreNextElements text form c os
    → AllByRecursion (Nexts text form c n inner values r).Good os × (all_fit form os ≡ true)
all_nexts text form c n inner values r [] h = (tt, refl)
all_nexts text form c n inner values r (o ∷ os) (more_elements {comma = t} {element = x} comma good more) =
    let here = loose_of text form c n inner values r (is_empty os) x good in
    let rest = all_nexts text form c n inner values r os more in
    ((next_of text form c n inner values r t x comma here.0, rest.0), and_of _ _ (ap (fits_place form (is_empty os)) (element_in text form c n inner values r t x) ∙ here.1) rest.1)

module _ (text : Text) (form : Form) (c : Context) (n : ℕ) (inner : Reader (Node Expression)) (values : takes_value form ≡ true) (r : ReadsValues text c n inner) where
  abbrev Elems : Syntax Element
  Elems = Loose text form c n inner values r

  abbrev Others : Syntax NextElement
  Others = Nexts text form c n inner values r

  abbrev Whole_lists : Syntax Elements
  Whole_lists = record { yields = tokens_of_elements written; levels_of = depth_of_elements; Good = AreElements text form c }

  abbrev Fitting : Syntax (Element × List NextElement)
  Fitting = which (pairs Elems (row Others)) (λ p. (pairs Elems (row Others)).Good p × (list_fits form p ≡ true))

  abbrev others : Reader (Node (List NextElement))
  others = many text (λ t. is_comma t.kind) (read.next_element text form inner)

  there : (x : Elements) → Made Fitting make_list x → AreElements text form c x
  there x h =
      let p = h.0 in
      subst (AreElements text form c) (sym h.1)
      (elements p.0 p.1 (element_of text form c n inner values r (is_empty p.1) p.0 h.2.0.0 (left_of _ _ h.2.1)) (nexts_of text form c n inner values r p.1 h.2.0.1 (right_of _ _ h.2.1)))

  back : (x : Elements) → AreElements text form c x → Made Fitting make_list x
  back x (elements first rest h1 h2) =
      let here = loose_of text form c n inner values r (is_empty rest) first h1 in
      let more = all_nexts text form c n inner values r rest h2 in
      ((first, rest), refl, ((here.0, more.0), and_of _ _ here.1 more.1))

  list_rule : Rule text Whole_lists n n (λ _ t. is_closer t.kind) (read.list text form inner)
  unfolding read.list
  list_rule =
      same_rule text (record { yields = tokens_of_elements written; levels_of = depth_of_elements; Good = Made Fitting make_list }) Whole_lists n n (λ _ t. is_closer t.kind) (λ _ t. is_closer t.kind) (made make_list 0 (such (both (read.element text form inner) others) (list_fits form)))
      (plain_rule text Fitting (tokens_of_elements written) depth_of_elements n n (λ _ t. is_closer t.kind) (λ _ t. is_closer t.kind) make_list (such (both (read.element text form inner) others) (list_fits form))
      (such_rule text (pairs Elems (row Others)) n n (λ _ t. is_closer t.kind) (list_fits form) (both (read.element text form inner) others)
      (both_rule text Elems (row Others) n n (λ _. ends_element) (list_stops (λ _. ends_element) (λ t. is_comma t.kind)) (λ _ t. is_closer t.kind) (read.element text form inner) others
      (element_rule text form c n inner values r) (many_rule text Others n n (λ t. is_comma t.kind) (λ _. ends_element) (read.next_element text form inner) (repeats text form c n inner values r))
      (λ a os t h. rest_ends text form c n inner values r os t h) (λ a os m j ga gos h stop. rest_seen text form c n inner values r os m j gos h stop)))
      (λ p. tokens_Elements written p.0 p.1) (λ p. levels_Elements p.0 p.1) (λ p t h. h))
      refl refl there back (λ x t good h. h)

  abbrev Bracket_parts : Syntax ((Token × Elements) × Token)
  Bracket_parts = pairs (pairs (tokens (opener form)) Whole_lists) (tokens (closer form))

  same_max : (m : ℕ) → m ≡ max (max 0 m) 0
  same_max m = omega arith

  closed : (t : Token) (m j : ℕ) → t.kind ≡ closer form → SpelledBetween text m (t ∷ []) j → is_closer (behind text m).kind ≡ true
  closed t m j e h = ap (λ (u : Token). is_closer u.kind) (sees text m t [] j h (ap (agrees goal.Div) e ∙ closer_agrees form)) ∙ ap is_closer e ∙ closer_is form

  whole_of : (x : Bracketed) → Made Bracket_parts make_bracketed x → IsBracketed text form c x
  whole_of x h = subst (IsBracketed text form c) (sym h.1) (IsBracketed.bracketed h.0.0.0 h.0.0.1 h.0.1 h.2.0.0 h.2.0.1 h.2.1)

  parts_of : (x : Bracketed) → IsBracketed text form c x → Made Bracket_parts make_bracketed x
  parts_of x (IsBracketed.bracketed begin list ending h1 h2 h3) = (((begin, list), ending), refl, ((h1, h2), h3))

  brackets_read : Rule text (lists text form c) n n (λ _ _. true) (read.bracketed text form inner)
  unfolding read.bracketed
  brackets_read =
      same_rule text (record { yields = tokens_of_bracketed written; levels_of = depth_of_bracketed; Good = Made Bracket_parts make_bracketed }) (lists text form c) n n (λ _ _. true) (λ _ _. true) (made make_bracketed 0 (both (both (token text (opener form)) (read.list text form inner)) (token text (closer form))))
      (plain_rule text Bracket_parts (tokens_of_bracketed written) depth_of_bracketed n n (λ _ _. true) (λ _ _. true) make_bracketed (both (both (token text (opener form)) (read.list text form inner)) (token text (closer form)))
      (both_rule text (pairs (tokens (opener form)) Whole_lists) (tokens (closer form)) n n (λ _ t. is_closer t.kind) (λ _ _. true) (λ _ _. true) (both (token text (opener form)) (read.list text form inner)) (token text (closer form))
      (both_rule text (tokens (opener form)) Whole_lists n n (λ _ _. true) (λ _ t. is_closer t.kind) (λ _ t. is_closer t.kind) (token text (opener form)) (read.list text form inner)
      (token_rule text n n (opener form) (opener_agrees form)) list_rule (λ a b t h. h) (λ a b m j ga gb h stop. refl))
      (token_rule text n n (closer form) (closer_agrees form)) (λ a b t h. refl) (λ a b m j ga gb h stop. closed b m j gb h))
      (λ p. tokens_Bracketed written p.0.0 p.0.1 p.1) (λ p. levels_Bracketed p.0.0 p.0.1 p.1 ∙ same_max (depth_of_elements p.0.1)) (λ p t h. h))
      refl refl whole_of parts_of (λ x t good h. refl)

pub brackets_rule : BracketedRule
brackets_rule text form c n inner values r = brackets_read text form c n inner values r
