-- Lists of elements are read exactly where their elements are.
use Rattle.std.proofs.Common.{◌≡◌, ℕ, max, Bool, true, false, not, List, [], ◌∷◌, refl, ap, sym, ◌∙◌, subst, arith}
use Rattle.std.specs.List.{flat_map, AllByRecursion}
use Rattle.esb_token.specs.declared.kind.Kind.{Kind}
use Rattle.esb_token.specs.declared.kind.Kind.TheVariants as k
use Rattle.esb_token.specs.declared.token.Token.{Token}
use Rattle.esb_token.specs.declared.goal.Goal.TheVariants as goal
use Rattle.esb_token.specs.Tokens.{SpelledBetween}
use Rattle.esb_tree.specs.declared.patterns.Bracketed.{Bracketed}
use Rattle.esb_tree.specs.declared.patterns.Element.{Element}
use Rattle.esb_tree.specs.declared.patterns.Elements.{Elements, out-Elements, out-roll-Elements}
use Rattle.esb_tree.specs.declared.patterns.NextElement.{NextElement, out-NextElement, out-roll-NextElement}
use Rattle.esb_tree.specs.Levels.{depth_of_element, depth_of_next_element, depth_of_elements, depth_of_bracketed}
use Rattle.esb_tree.specs.Trees.{written}
use Rattle.esb_tree.specs.Yields.{tokens_of_element, tokens_of_next_element, tokens_of_elements, tokens_of_bracketed}
use Rattle.esb_tree.proofs.TokenLines.{tokens_NextElement, tokens_Elements, tokens_Bracketed}
use Rattle.esb_tree.proofs.LevelLines.{levels_NextElement, levels_Elements, levels_Bracketed}
use Rattle.esb_grammar.specs.declared.context.Context.{Context}
use Rattle.esb_grammar.specs.declared.form.Form.{Form}
use Rattle.esb_grammar.specs.declared.form.Form.TheVariants as f
use Rattle.esb_grammar.specs.Forms.{opener, closer, is_empty}
use Rattle.esb_grammar.specs.Grammar.{IsBracketed, AreElements, elements, AreNextElements, no_elements, more_elements, IsElement}
use Rattle.esb_grammar.specs.Kinds.{is_comma}
use Rattle.esb_reader.specs.declared.node.Node.{Node}
use Rattle.esb_reader.specs.Kinds.{agrees}
use Rattle.esb_reader.specs.Places.{Text}
use Rattle.esb_reader.specs.Reader.{Reader}
use Rattle.esb_reader.specs.Parts.{behind, both, token, made, such}
use Rattle.esb_reader.specs.Stands.{Syntax, Rule, Made, tokens, pairs, row, which, last_stops, list_stops}
use Rattle.esb_reading_laws.specs.Laws.{Repeats}
use Rattle.esb_reading_laws.proofs.Composed.{token_rule, both_rule, plain_rule, such_rule, same_rule}
use Rattle.esb_reading_laws.proofs.Steps.{spelled_split}
use Rattle.esb_reading_laws.proofs.Rows.{many_rule}
use Rattle.esb_expression_laws.specs.Lists.{is_closer, make_next, make_list, make_bracketed}
use Rattle.esb_expression_laws.specs.Laws.{lists}
use Rattle.esb_expression_laws.proofs.OperatorChains.{spelled_moves}
use Rattle.esb_literal_laws.specs.ElementLists as read
use Rattle.esb_literal_laws.specs.ElementLists.{all_placed, placed, next_stops, ends_with, ends_elements}
use Rattle.esb_literal_laws.specs.Laws.{element_lists}
use Rattle.esb_literal_laws.proofs.Seen.{left_of, right_of, and_of, max_zero, sees_kind}

-- ---- kinds

comma_is : (kind : Kind) → is_comma kind ≡ true → kind ≡ k.Comma
comma_is k.Comma h = refl
comma_is _ h = cc

closer_no_comma : (kind : Kind) → is_closer kind ≡ true → is_comma kind ≡ false
closer_no_comma k.Comma h = cc
closer_no_comma _ h = refl

closer_is : (form : Form) → is_closer (closer form) ≡ true
closer_is f.Array = refl
closer_is f.ArrayPattern = refl
closer_is f.Object = refl
closer_is f.ObjectPattern = refl
closer_is _ = refl

closer_agrees : (form : Form) → agrees goal.Div (closer form) ≡ true
closer_agrees f.Array = refl
closer_agrees f.ArrayPattern = refl
closer_agrees f.Object = refl
closer_agrees f.ObjectPattern = refl
closer_agrees _ = refl

pub opener_agrees : (form : Form) → agrees goal.Div (opener form) ≡ true
opener_agrees f.Array = refl
opener_agrees f.ArrayPattern = refl
opener_agrees f.Object = refl
opener_agrees f.ObjectPattern = refl
opener_agrees _ = refl

abbrev pub elements_in : (Element → Type 0) → Syntax Element
elements_in Good = record { yields = tokens_of_element written; levels_of = depth_of_element; Good = Good }

-- The elements of a form are those of the sort Loose that fit their places. A comma ends each.
module _ (text : Text) (form : Form) (c : Context) (n : ℕ) (element : Reader (Node Element)) (Loose : Element → Type 0) (fit : Bool → Element → Bool) (fits : Element × List NextElement → Bool) (stops : Element → Token → Bool)
    (same : (p : Element × List NextElement) → fits p ≡ placed fit p) (rule : Rule text (elements_in Loose) n n stops element) (comma : (x : Element) (t : Token) → is_comma t.kind ≡ true → stops x t ≡ true)
    (there : (last : Bool) (x : Element) → Loose x → fit last x ≡ true → IsElement text form last c x) (back : (last : Bool) (x : Element) → IsElement text form last c x → Loose x × (fit last x ≡ true)) where
  abbrev Elems : Syntax Element
  Elems = elements_in Loose

  abbrev Nexts : Syntax NextElement
  Nexts = record { yields = tokens_of_next_element written; levels_of = depth_of_next_element; Good = Made (pairs (tokens k.Comma) Elems) make_next }

  abbrev commas : Token → Bool
  commas t = is_comma t.kind

  element_in : (sign : Token) (x : Element) → (out-NextElement (make_next (sign, x))).element ≡ x
  element_in sign x = ap (λ o. o.element) (out-roll-NextElement (record { comma = sign; element = x }))

  next_rule : Rule text Nexts n n (next_stops stops) (read.next_of text element)
  unfolding read.next_of
  next_rule =
      plain_rule text (pairs (tokens k.Comma) Elems) (tokens_of_next_element written) depth_of_next_element n n (λ p. stops p.1) (next_stops stops) make_next (both (token text k.Comma) element)
      (both_rule text (tokens k.Comma) Elems n n (λ _ _. true) stops (λ p. stops p.1) (token text k.Comma) element (token_rule text n n k.Comma refl) rule (λ a b t h. h) (λ a b m j ga gb h stop. refl))
      (λ p. tokens_NextElement written p.0 p.1) (λ p. levels_NextElement p.0 p.1 ∙ max_zero (depth_of_element p.1)) (λ p t h. ap (λ x. stops x t) (sym (element_in p.0 p.1)) ∙ h)

  spelled_next : (o : NextElement) (i j : ℕ) (good : Nexts.Good o) → SpelledBetween text i (tokens_of_next_element written o) j → SpelledBetween text i (good.0.0 ∷ tokens_of_element written good.0.1) j
  spelled_next o i j good h = subst (λ ts. SpelledBetween text i ts j) (ap (tokens_of_next_element written) good.1 ∙ tokens_NextElement written good.0.0 good.0.1) h

  comma_seen : (o : NextElement) (i j : ℕ) → Nexts.Good o → SpelledBetween text i (tokens_of_next_element written o) j → commas (behind text i) ≡ true
  comma_seen o i j good h = ap commas (sees_kind text i good.0.0 _ j k.Comma (spelled_next o i j good h) good.2.0 refl) ∙ ap is_comma good.2.0

  repeats : Repeats text Nexts n n (λ i. commas (behind text i)) (next_stops stops) (read.next_of text element)
  repeats = record {
    rule = next_rule;
    starts = comma_seen;
    moves = λ o i j good h. spelled_moves text i good.0.0 _ j (spelled_next o i j good h);
    apart = λ o i good h. comma (out-NextElement o).element (behind text i) h;
  }

  rest_ends : (x : Element) (os : List NextElement) (t : Token) → ends_with stops x os t ≡ true → list_stops (next_stops stops) commas os t ≡ true
  rest_ends x [] t h = right_of (stops x t) _ h
  rest_ends x (o ∷ os) t h = h

  first_ends : (x : Element) (os : List NextElement) (m j : ℕ) → AllByRecursion Nexts.Good os → SpelledBetween text m (flat_map (tokens_of_next_element written) os) j → ends_with stops x os (behind text j) ≡ true → stops x (behind text m) ≡ true
  first_ends x [] m j good h stop = let here : m ≡ j = h in ap (λ i. stops x (behind text i)) here ∙ left_of (stops x (behind text j)) _ stop
  first_ends x (o ∷ os) m j good h stop =
      let cut = spelled_split text m (tokens_of_next_element written o) (flat_map (tokens_of_next_element written) os) j h in
      comma x (behind text m) (comma_seen o m cut.0 good.0 cut.1)

  -- ---- the families

  next_made : (sign : Token) (x : Element) → sign.kind ≡ k.Comma → Loose x → Nexts.Good (make_next (sign, x))
  next_made sign x h good = ((sign, x), refl, (h, good))

  are_nexts : (os : List NextElement) → AllByRecursion Nexts.Good os → all_placed fit os ≡ true → AreNextElements text form c os
  are_nexts [] good h = no_elements
  are_nexts (o ∷ os) good h =
      let made = good.0 in
      let here : fit (is_empty os) made.0.1 ≡ true = ap (fit (is_empty os)) (sym (ap (λ y. (out-NextElement y).element) made.1 ∙ element_in made.0.0 made.0.1)) ∙ left_of (fit (is_empty os) (out-NextElement o).element) _ h in
      subst (λ y. AreNextElements text form c (y ∷ os)) (sym made.1)
      (more_elements made.2.0 (there (is_empty os) made.0.1 made.2.1 here) (are_nexts os good.1 (right_of (fit (is_empty os) (out-NextElement o).element) _ h)))

  all_nexts : (os : List NextElement) → AreNextElements text form c os → AllByRecursion Nexts.Good os × (all_placed fit os ≡ true)
  all_nexts [] h = (tt, refl)
  all_nexts (o ∷ os) (more_elements {comma = sign} {element = x} kind good more) =
      let here = back (is_empty os) x good in
      let rest = all_nexts os more in
      ((next_made sign x kind here.0, rest.0), and_of _ _ (ap (fit (is_empty os)) (element_in sign x) ∙ here.1) rest.1)

  abbrev Fitting : Syntax (Element × List NextElement)
  Fitting = which (pairs Elems (row Nexts)) (λ p. (pairs Elems (row Nexts)).Good p × (fits p ≡ true))

  list_there : (x : Elements) → Made Fitting make_list x → AreElements text form c x
  list_there x h =
      let p = h.0 in
      let fitting : placed fit p ≡ true = sym (same p) ∙ h.2.1 in
      subst (AreElements text form c) (sym h.1)
      (elements p.0 p.1 (there (is_empty p.1) p.0 h.2.0.0 (left_of (fit (is_empty p.1) p.0) _ fitting)) (are_nexts p.1 h.2.0.1 (right_of (fit (is_empty p.1) p.0) _ fitting)))

  list_back : (x : Elements) → AreElements text form c x → Made Fitting make_list x
  list_back x (elements first rest h1 h2) =
      let here = back (is_empty rest) first h1 in
      let more = all_nexts rest h2 in
      ((first, rest), refl, ((here.0, more.0), same (first, rest) ∙ and_of _ _ here.1 more.1))

  pub list_rule : Rule text (element_lists text form c) n n (ends_elements stops) (read.list_of text element fits)
  unfolding read.list_of read.nexts_of
  list_rule =
      same_rule text (record { yields = tokens_of_elements written; levels_of = depth_of_elements; Good = Made Fitting make_list }) (element_lists text form c) n n (ends_elements stops) (ends_elements stops) (made make_list 0 (such (both element (read.nexts_of text element)) fits))
      (plain_rule text Fitting (tokens_of_elements written) depth_of_elements n n (λ p. ends_with stops p.0 p.1) (ends_elements stops) make_list (such (both element (read.nexts_of text element)) fits)
      (such_rule text (pairs Elems (row Nexts)) n n (λ p. ends_with stops p.0 p.1) fits (both element (read.nexts_of text element))
      (both_rule text Elems (row Nexts) n n stops (list_stops (next_stops stops) commas) (λ p. ends_with stops p.0 p.1) element (read.nexts_of text element)
      rule (many_rule text Nexts n n commas (next_stops stops) (read.next_of text element) repeats)
      (λ a os t h. rest_ends a os t h) (λ a os m j ga gos h stop. first_ends a os m j gos h stop)))
      (λ p. tokens_Elements written p.0 p.1) (λ p. levels_Elements p.0 p.1) (λ p t h. ap (λ l. ends_with stops l.first l.rest t) (sym (out-roll-Elements (record { first = p.0; rest = p.1 }))) ∙ h))
      refl refl list_there list_back (λ x t good h. h)

  -- ---- lists in brackets, whose ends end each element

  module _ (close : (x : Element) (t : Token) → is_closer t.kind ≡ true → stops x t ≡ true) where
    last_closed : (o : NextElement) (os : List NextElement) (t : Token) → is_closer t.kind ≡ true → last_stops (next_stops stops) (o ∷ os) t ≡ true
    last_closed o [] t h = close (out-NextElement o).element t h
    last_closed o (q ∷ os) t h = last_closed q os t h

    closed_with : (x : Element) (os : List NextElement) (t : Token) → is_closer t.kind ≡ true → ends_with stops x os t ≡ true
    closed_with x [] t h = and_of _ _ (close x t h) (ap not (closer_no_comma t.kind h))
    closed_with x (o ∷ os) t h = and_of _ _ (last_closed o os t h) (ap not (closer_no_comma t.kind h))

    abbrev Bracket_parts : Syntax ((Token × Elements) × Token)
    Bracket_parts = pairs (pairs (tokens (opener form)) (element_lists text form c)) (tokens (closer form))

    same_max : (m : ℕ) → m ≡ max (max 0 m) 0
    same_max m = omega arith

    closed : (l : Elements) (t : Token) (m j : ℕ) → t.kind ≡ closer form → SpelledBetween text m (t ∷ []) j → ends_elements stops l (behind text m) ≡ true
    closed l t m j e h =
        closed_with (out-Elements l).first (out-Elements l).rest (behind text m)
        (ap (λ (u : Token). is_closer u.kind) (sees_kind text m t [] j (closer form) h e (closer_agrees form)) ∙ ap is_closer e ∙ closer_is form)

    whole_of : (x : Bracketed) → Made Bracket_parts make_bracketed x → IsBracketed text form c x
    whole_of x h = subst (IsBracketed text form c) (sym h.1) (IsBracketed.bracketed h.0.0.0 h.0.0.1 h.0.1 h.2.0.0 h.2.0.1 h.2.1)

    parts_of : (x : Bracketed) → IsBracketed text form c x → Made Bracket_parts make_bracketed x
    parts_of x (IsBracketed.bracketed begin list ending h1 h2 h3) = (((begin, list), ending), refl, ((h1, h2), h3))

    pub bracketed_rule : Rule text (lists text form c) n n (λ _ _. true) (read.bracketed_of text element form fits)
    unfolding read.bracketed_of
    bracketed_rule =
        same_rule text (record { yields = tokens_of_bracketed written; levels_of = depth_of_bracketed; Good = Made Bracket_parts make_bracketed }) (lists text form c) n n (λ _ _. true) (λ _ _. true) (made make_bracketed 0 (both (both (token text (opener form)) (read.list_of text element fits)) (token text (closer form))))
        (plain_rule text Bracket_parts (tokens_of_bracketed written) depth_of_bracketed n n (λ _ _. true) (λ _ _. true) make_bracketed (both (both (token text (opener form)) (read.list_of text element fits)) (token text (closer form)))
        (both_rule text (pairs (tokens (opener form)) (element_lists text form c)) (tokens (closer form)) n n (λ p. ends_elements stops p.1) (λ _ _. true) (λ _ _. true) (both (token text (opener form)) (read.list_of text element fits)) (token text (closer form))
        (both_rule text (tokens (opener form)) (element_lists text form c) n n (λ _ _. true) (ends_elements stops) (λ p. ends_elements stops p.1) (token text (opener form)) (read.list_of text element fits)
        (token_rule text n n (opener form) (opener_agrees form)) list_rule (λ a b t h. h) (λ a b m j ga gb h stop. refl))
        (token_rule text n n (closer form) (closer_agrees form)) (λ a b t h. refl) (λ a b m j ga gb h stop. closed a.1 b m j gb h))
        (λ p. tokens_Bracketed written p.0.0 p.0.1 p.1) (λ p. levels_Bracketed p.0.0 p.0.1 p.1 ∙ same_max (depth_of_elements p.0.1)) (λ p t h. h))
        refl refl whole_of parts_of (λ x t good h. refl)
