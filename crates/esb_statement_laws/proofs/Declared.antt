-- Declarations of variables are read exactly.
use Rattle.std.proofs.Common.{◌≡◌, ◌⊎◌, inl, inr, ℕ, suc, ◌≤◌, max, Bool, true, false, not, ◌&&◌, cond, List, [], ◌∷◌, ◌++◌, length, map, Option, Some, None, Ok, refl, ap, sym, ◌∙◌, subst, arith}
use Rattle.std.specs.List.{flat_map, AllByRecursion}
use Rattle.esb_token.specs.declared.kind.Kind.{Kind}
use Rattle.esb_token.specs.declared.kind.Kind.TheVariants as k
use Rattle.esb_token.specs.declared.token.Token.{Token}
use Rattle.esb_token.specs.declared.goal.Goal.TheVariants as goal
use Rattle.esb_token.specs.Tokens.{SpelledBetween}
use Rattle.esb_tree.specs.declared.classes.ClassElement.TheOpen.{Element-F, Expression-F}
use Rattle.esb_tree.specs.declared.expressions.Expression.{Expression, out-Expression, out-roll-Expression}
use Rattle.esb_tree.specs.declared.expressions.Expression.TheVariants as e
use Rattle.esb_tree.specs.declared.patterns.Bracketed.{Bracketed}
use Rattle.esb_tree.specs.declared.patterns.Element.{Element, out-Element, out-roll-Element}
use Rattle.esb_tree.specs.declared.patterns.Element.TheVariants as el
use Rattle.esb_tree.specs.declared.patterns.Elements.{Elements, roll-Elements, out-roll-Elements}
use Rattle.esb_tree.specs.declared.patterns.NextElement.{NextElement, roll-NextElement, out-NextElement, out-roll-NextElement}
use Rattle.esb_tree.specs.declared.statements.Declaration.{Declaration, out-Declaration, out-roll-Declaration}
use Rattle.esb_tree.specs.Levels.{most, depth_of_expression, depth_of_next_element, depth_of_elements, depth_of_declaration, depth_of_statement}
use Rattle.esb_tree.specs.Trees.{written}
use Rattle.esb_tree.specs.Yields.{Tokens, tokens_of_expression, tokens_of_element, tokens_of_next_element, tokens_of_elements, tokens_of_declaration, tokens_of_statement}
use Rattle.esb_tree.proofs.TokenLines.{tokens_Value, tokens_NextElement, tokens_Elements, tokens_Declaration, tokens_Variables}
use Rattle.esb_tree.proofs.LevelLines.{levels_Value, levels_NextElement, levels_Elements, levels_Declaration, levels_Variables}
use Rattle.esb_grammar.specs.declared.context.Context.{Context}
use Rattle.esb_grammar.specs.declared.form.Form.{Form}
use Rattle.esb_grammar.specs.declared.form.Form.TheVariants as f
use Rattle.esb_grammar.specs.Edges.{value_layer, last_element, last_binding, is_token, ends_assignment}
use Rattle.esb_grammar.specs.Forms.{takes_hole, takes_value, takes_spread, takes_binding, is_empty}
use Rattle.esb_grammar.specs.Grammar.{binding_identifier, array_pattern, object_pattern, IsBinding, without_value, with_value, IsElement, hole, value, spread, shorthand, cover_initialized_name, property, method_property, binding_element, rest_element, single_name, single_name_initialized, binding_property, rest_property, binding, AreElements, elements, AreNextElements, no_elements, more_elements}
use Rattle.esb_grammar.specs.Kinds.{is_comma, is_semicolon, is_right_brace, is_end, is_update, goes_on, begins_link}
use Rattle.esb_grammar.specs.Semicolons.{end_from, lets_end, ends_with, tokens_go_on, expression_goes_on, binding_goes_on, bindings_go_on}
use Rattle.esb_reader.specs.Kinds.{agrees}
use Rattle.esb_reader.specs.Places.{Text}
use Rattle.esb_reader.specs.Parts.{behind, both, token, token_in, such, many}
use Rattle.esb_reader.specs.Stands.{Syntax, Rule, Made, pairs, row, tokens, tokens_in, which, last_stops, list_stops}
use Rattle.esb_reading_laws.specs.Laws.{Repeats}
use Rattle.esb_reading_laws.proofs.Composed.{token_in_rule, both_rule, plain_rule, above_rule, such_rule, same_rule}
use Rattle.esb_reading_laws.proofs.Rows.{many_rule}
use Rattle.esb_reading_laws.proofs.Steps.{spelled_split}
use Rattle.esb_statement_laws.specs.Endings.{closed, closings}
use Rattle.esb_statement_laws.specs.Marks.{ends_expression, begins_target}
use Rattle.esb_statement_laws.specs.Handed.{Handed, expressions, statements, Begins}
use Rattle.esb_statement_laws.specs.Declarations as read
use Rattle.esb_statement_laws.specs.Declarations.{IsValued, IsLoose, ReadsBindings, pattern_layer, is_pattern, binds, is_bound, all_bound, are_bound, make_next, make_bindings, make_declaration, make_variables, behind_bindings}
use Rattle.esb_statement_laws.proofs.Followed.{leading, sees}
use Rattle.esb_statement_laws.proofs.EndingsRead.{ends_at, spelled_moves, closed_rule, lets_end_is, no_going_on}
use Rattle.esb_statement_laws.proofs.Ended.{lets}
use Rattle.esb_statement_laws.proofs.Small.{and_of, first_of, second_of, or_first, or_second, of_not, zero_max, plus_zero, semicolon_ends, brace_ends, end_ends}

comma_is : (kind : Kind) → is_comma kind ≡ true → kind ≡ k.Comma
comma_is k.Comma h = refl
comma_is _ h = cc

semicolon_no_comma : (kind : Kind) → is_semicolon kind ≡ true → not (is_comma kind) ≡ true
semicolon_no_comma k.Semicolon h = refl
semicolon_no_comma _ h = cc

-- ---- a comma goes on with each binding

-- tokens that are an expression go on with a comma, however they end
comma_tokens : (a : Bool) (ts : Tokens) → tokens_go_on a ts k.Comma ≡ true
comma_tokens true ts = refl
comma_tokens false ts = by_update (ends_with is_update ts)
  where
    by_update : (u : Bool) → cond u (goes_on k.Comma && not (begins_link k.Comma)) (goes_on k.Comma) ≡ true
    by_update true = refl
    by_update false = refl

on_comma : (x : Expression) (t : Token) → binding_goes_on (Some x) (record t { kind = k.Comma }) ≡ true
unfolding expression_goes_on
on_comma x t = by_token (is_token x)
  where
    by_token : (u : Bool) → cond u true (tokens_go_on (ends_assignment x) (tokens_of_expression written x) k.Comma) ≡ true
    by_token true = refl
    by_token false = comma_tokens (ends_assignment x) (tokens_of_expression written x)

-- ---- which bindings have a value

no_pattern : (t : Token) → is_pattern (e.Primary t) ≡ false
unfolding is_pattern
no_pattern t = ap pattern_layer (ap out-Expression (sym (e.rolls-Primary t)) ∙ out-roll-Expression (Expression-F.Primary t))

valued_no_pattern : (target : Expression) (sign : Token) (x : Expression) → is_pattern (e.Assignment target sign x) ≡ false
unfolding is_pattern
valued_no_pattern target sign x = ap pattern_layer (ap out-Expression (sym (e.rolls-Assignment target sign x)) ∙ out-roll-Expression (Expression-F.Assignment target sign x))

array_is_pattern : (list : Bracketed) → is_pattern (e.ArrayLiteral list) ≡ true
unfolding is_pattern
array_is_pattern list = ap pattern_layer (ap out-Expression (sym (e.rolls-ArrayLiteral list)) ∙ out-roll-Expression (Expression-F.ArrayLiteral list))

object_is_pattern : (list : Bracketed) → is_pattern (e.ObjectLiteral list) ≡ true
unfolding is_pattern
object_is_pattern list = ap pattern_layer (ap out-Expression (sym (e.rolls-ObjectLiteral list)) ∙ out-roll-Expression (Expression-F.ObjectLiteral list))

pub out_value : (x : Expression) → value_layer (out-Element (el.Value x)) ≡ Some x
out_value x = ap value_layer (ap out-Element (sym (el.rolls-Value x)) ∙ out-roll-Element (Element-F.Value x))

pub bound_value : (x : Expression) → is_bound (el.Value x) ≡ not (is_pattern x)
unfolding is_bound
bound_value x = ap binds (out_value x)

pub binding_of : (text : Text) (c : Context) (x : Expression) → IsLoose text c x → is_pattern x ≡ false → IsBinding text c x
binding_of text c x (inl (binding_identifier h)) other = without_value h
binding_of text c x (inl (array_pattern {list = l} h)) other = let bad : true ≡ false = sym (array_is_pattern l) ∙ other in cc
binding_of text c x (inl (object_pattern {list = l} h)) other = let bad : true ≡ false = sym (object_is_pattern l) ∙ other in cc
binding_of text c x (inr h) other = subst (IsBinding text c) (sym h.is) (with_value h.bound h.assign h.valued)

pub loose_of : (text : Text) (c : Context) (x : Expression) → IsBinding text c x → IsLoose text c x × (is_pattern x ≡ false)
loose_of text c x (without_value {t = t} h) = (inl (binding_identifier h), no_pattern t)
loose_of text c x (with_value {target = p} {sign = t} {x = v} h1 h2 h3) = (inr (record { target = p; sign = t; value = v; is = refl; bound = h1; assign = h2; valued = h3 }), valued_no_pattern p t v)

-- an element of a declaration is a binding
pub element_is : (text : Text) (form : Form) (c : Context) (last : Bool) (y : Element) → IsElement text form last c y → form ≡ f.Bindings → (x : Expression) × (y ≡ el.Value x) × IsBinding text c x
element_is text form c last y (binding {x = x} h) e = (x, refl, h)
element_is text form c last y (hole h) e = let bad : false ≡ true = sym (ap (λ g. takes_hole g last) e) ∙ h in cc
element_is text form c last y (value h g) e = let bad : false ≡ true = sym (ap takes_value e) ∙ h in cc
element_is text form c last y (spread h g i) e = let bad : false ≡ true = sym (ap takes_spread e) ∙ h in cc
element_is text form c last y (binding_element h g) e = let bad : false ≡ true = sym (ap takes_binding e) ∙ h in cc
element_is text form c last y (rest_element h g i) e = let bad : false ≡ true = sym (ap takes_binding e) ∙ h in cc
element_is text form c last y (shorthand h) e = cc
element_is text form c last y (cover_initialized_name h g i) e = cc
element_is text form c last y (property h g i) e = cc
element_is text form c last y (method_property h) e = cc
element_is text form c last y (single_name h) e = cc
element_is text form c last y (single_name_initialized h g i) e = cc
element_is text form c last y (binding_property h g i) e = cc
element_is text form c last y (rest_property h g) e = cc

module _ (text : Text) (c : Context) (n : ℕ) (r : Handed) (b : ReadsBindings text c n (r.binding c)) where
  abbrev Bound : Syntax Expression
  Bound = expressions (IsLoose text c)

  abbrev pub Nexts : Syntax NextElement
  Nexts = record { yields = tokens_of_next_element written; levels_of = depth_of_next_element; Good = Made (pairs (tokens k.Comma) Bound) make_next }

  abbrev pub maybe_stops : Option Expression → Token → Bool
  maybe_stops None t = true
  maybe_stops (Some x) t = b.stops x t

  abbrev pub element_stops : Element → Token → Bool
  element_stops y t = maybe_stops (value_layer (out-Element y)) t

  abbrev next_stops : NextElement → Token → Bool
  next_stops o t = element_stops (out-NextElement o).element t

  element_in : (p : Token × Expression) → (out-NextElement (make_next p)).element ≡ el.Value p.1
  element_in p = ap (λ o. o.element) (out-roll-NextElement (record { comma = p.0; element = el.Value p.1 }))

  pub value_stops : (x : Expression) (t : Token) → element_stops (el.Value x) t ≡ b.stops x t
  value_stops x t = ap (λ o. maybe_stops o t) (out_value x)

  next_is : (p : Token × Expression) (t : Token) → next_stops (make_next p) t ≡ b.stops p.1 t
  next_is p t = ap (λ y. element_stops y t) (element_in p) ∙ value_stops p.1 t

  next_rule : Rule text Nexts n n next_stops (read.next_binding text c n r)
  unfolding read.next_binding
  next_rule =
      plain_rule text (pairs (tokens k.Comma) Bound) (tokens_of_next_element written) depth_of_next_element n n (λ p. b.stops p.1) next_stops make_next (both (token text k.Comma) (r.binding c))
      (leading text Bound n n k.Comma b.stops (r.binding c) refl b.rule)
      (λ p. tokens_NextElement written p.0 (el.Value p.1) ∙ ap (λ ts. p.0 ∷ ts) (tokens_Value written p.1)) (λ p. levels_NextElement p.0 (el.Value p.1) ∙ levels_Value p.1 ∙ zero_max (depth_of_expression p.1))
      (λ p t h. sym (next_is p t) ∙ h)

  spelled_next : (o : NextElement) (i j : ℕ) (good : Nexts.Good o) → SpelledBetween text i (tokens_of_next_element written o) j → SpelledBetween text i (good.0.0 ∷ tokens_of_expression written good.0.1) j
  spelled_next o i j good h =
      subst (λ ts. SpelledBetween text i ts j) (ap (tokens_of_next_element written) good.1 ∙ tokens_NextElement written good.0.0 (el.Value good.0.1) ∙ ap (λ ts. good.0.0 ∷ ts) (tokens_Value written good.0.1)) h

  comma_seen : (o : NextElement) (i j : ℕ) → Nexts.Good o → SpelledBetween text i (tokens_of_next_element written o) j → (behind text i).kind ≡ k.Comma
  comma_seen o i j good h = ap (λ (u : Token). u.kind) (sees text i good.0.0 _ j (spelled_next o i j good h) (ap (agrees goal.Div) good.2.0)) ∙ good.2.0

  comma_ends : (x : Expression) (t : Token) → IsLoose text c x → is_comma t.kind ≡ true → b.stops x t ≡ true
  comma_ends x t good h = b.ends x t good (or_second (ends_expression t.kind) _ h)

  next_apart : (o : NextElement) (i : ℕ) → Nexts.Good o → is_comma (behind text i).kind ≡ true → next_stops o (behind text i) ≡ true
  next_apart o i good h = ap (λ y. next_stops y (behind text i)) good.1 ∙ next_is good.0 (behind text i) ∙ comma_ends good.0.1 (behind text i) good.2.1 h

  repeats : Repeats text Nexts n n (λ i. is_comma (behind text i).kind) next_stops (read.next_binding text c n r)
  repeats = record {
    rule = next_rule;
    starts = λ o i j good h. ap is_comma (comma_seen o i j good h);
    moves = λ o i j good h. spelled_moves text i good.0.0 _ j (spelled_next o i j good h);
    apart = next_apart;
  }

  -- ---- a list of bindings

  -- the last binding stops, and no comma follows
  abbrev pub list_ends : Expression × List NextElement → Token → Bool
  list_ends p t = element_stops (last_element (el.Value p.0) p.1) t && not (is_comma t.kind)

  last_ends : (y : Element) (o : NextElement) (os : List NextElement) (t : Token) → element_stops (last_element y (o ∷ os)) t ≡ true → last_stops next_stops (o ∷ os) t ≡ true
  last_ends y o [] t h = h
  last_ends y o (p ∷ os) t h = last_ends (out-NextElement o).element p os t h

  rest_ends : (x : Expression) (os : List NextElement) (t : Token) → list_ends (x, os) t ≡ true → list_stops next_stops (λ u. is_comma u.kind) os t ≡ true
  rest_ends x [] t h = second_of _ _ h
  rest_ends x (o ∷ os) t h = and_of _ _ (last_ends (el.Value x) o os t (first_of _ _ h)) (second_of (element_stops (last_element (el.Value x) (o ∷ os)) t) _ h)

  first_ends : (x : Expression) (os : List NextElement) (m j : ℕ) → IsLoose text c x → AllByRecursion Nexts.Good os → SpelledBetween text m (flat_map (tokens_of_next_element written) os) j → list_ends (x, os) (behind text j) ≡ true → b.stops x (behind text m) ≡ true
  first_ends x [] m j good others h stop =
      let here : m ≡ j = h in
      ap (λ i. b.stops x (behind text i)) here ∙ sym (value_stops x (behind text j)) ∙ first_of _ _ stop
  first_ends x (o ∷ os) m j good others h stop =
      let cut = spelled_split text m (tokens_of_next_element written o) (flat_map (tokens_of_next_element written) os) j h in
      comma_ends x (behind text m) good (ap is_comma (comma_seen o m cut.0 others.0 cut.1))

  abbrev pub Lists : Syntax (Expression × List NextElement)
  Lists = pairs Bound (row Nexts)

  pub loose_rule : Rule text Lists n n list_ends (read.loose_list text c n r)
  loose_rule =
      both_rule text Bound (row Nexts) n n b.stops (list_stops next_stops (λ t. is_comma t.kind)) list_ends (r.binding c) (many text (λ t. is_comma t.kind) (read.next_binding text c n r)) b.rule
      (many_rule text Nexts n n (λ t. is_comma t.kind) next_stops (read.next_binding text c n r) repeats)
      (λ x os t h. rest_ends x os t h) (λ x os m j gx gos h stop. first_ends x os m j gx gos h stop)

  -- ---- a list whose patterns have values

  abbrev pub Strict : Syntax (Expression × List NextElement)
  Strict = which Lists (λ p. Lists.Good p × (are_bound p ≡ true))

  abbrev pub element_lists : (Elements → Type 0) → Syntax Elements
  element_lists Good = record { yields = tokens_of_elements written; levels_of = depth_of_elements; Good = Good }

  abbrev pub elements_end : Elements → Token → Bool
  elements_end l t = maybe_stops (last_binding l) t && not (is_comma t.kind)

  pub bindings_yields : (p : Expression × List NextElement) → tokens_of_elements written (make_bindings p) ≡ Lists.yields p
  bindings_yields p = tokens_Elements written (el.Value p.0) p.1 ∙ ap (λ ts. ts ++ flat_map (tokens_of_next_element written) p.1) (tokens_Value written p.0)

  pub bindings_levels : (p : Expression × List NextElement) → depth_of_elements (make_bindings p) ≡ Lists.levels_of p
  bindings_levels p = levels_Elements (el.Value p.0) p.1 ∙ ap (λ l. max l (most (map depth_of_next_element p.1))) (levels_Value p.0)

  pub last_in : (p : Expression × List NextElement) → last_binding (make_bindings p) ≡ value_layer (out-Element (last_element (el.Value p.0) p.1))
  unfolding last_binding
  last_in p = ap (λ o. value_layer (out-Element (last_element o.first o.rest))) (out-roll-Elements (record { first = el.Value p.0; rest = p.1 }))

  pub list_stops_in : (p : Expression × List NextElement) (t : Token) → elements_end (make_bindings p) t ≡ list_ends p t
  list_stops_in p t = ap (λ o. maybe_stops o t && not (is_comma t.kind)) (last_in p)

  -- the families
  nexts_of : (os : List NextElement) → AllByRecursion Nexts.Good os → all_bound os ≡ true → AreNextElements text f.Bindings c os
  nexts_of [] good h = no_elements
  nexts_of (o ∷ os) good h =
      let p = good.0.0 in
      let value_bound : is_bound (el.Value p.1) ≡ true = ap is_bound (sym (ap (λ y. (out-NextElement y).element) good.0.1 ∙ element_in p)) ∙ first_of _ _ h in
      subst (λ y. AreNextElements text f.Bindings c (y ∷ os)) (sym good.0.1)
      (more_elements good.0.2.0 (binding (binding_of text c p.1 good.0.2.1 (of_not _ (sym (bound_value p.1) ∙ value_bound)))) (nexts_of os good.1 (second_of _ _ h)))

  pub elements_of : (x : Elements) → Made Strict make_bindings x → AreElements text f.Bindings c x
  elements_of x h =
      let p = h.0 in
      subst (AreElements text f.Bindings c) (sym h.1)
      (elements (el.Value p.0) p.1 (binding (binding_of text c p.0 h.2.0.0 (of_not _ (sym (bound_value p.0) ∙ first_of _ _ h.2.1)))) (nexts_of p.1 h.2.0.1 (second_of _ _ h.2.1)))

  all_nexts : (os : List NextElement) → AreNextElements text f.Bindings c os → AllByRecursion Nexts.Good os × (all_bound os ≡ true)
  all_nexts [] h = (tt, refl)
  all_nexts (o ∷ os) (more_elements {comma = t} {element = y} comma good more) =
      let v = element_is text f.Bindings c (is_empty os) y good refl in
      let rest = all_nexts os more in
      let loose = loose_of text c v.0 v.2 in
      let bound : is_bound y ≡ true = ap is_bound v.1 ∙ bound_value v.0 ∙ ap not loose.1 in
      ((((t, v.0), ap (λ z. roll-NextElement (record { comma = t; element = z })) v.1, (comma, loose.0)), rest.0), and_of _ _ (ap is_bound (ap (λ q. q.element) (out-roll-NextElement (record { comma = t; element = y }))) ∙ bound) rest.1)

  pub of_elements : (x : Elements) → AreElements text f.Bindings c x → Made Strict make_bindings x
  of_elements x (elements first rest h1 h2) =
      let v = element_is text f.Bindings c (is_empty rest) first h1 refl in
      let more = all_nexts rest h2 in
      let loose = loose_of text c v.0 v.2 in
      ((v.0, rest), ap (λ z. roll-Elements (record { first = z; rest = rest })) v.1, ((loose.0, more.0), and_of _ _ (bound_value v.0 ∙ ap not loose.1) more.1))

  pub bindings_rule : Rule text (element_lists (AreElements text f.Bindings c)) n n elements_end (read.bindings text c n r)
  unfolding read.bindings
  bindings_rule =
      same_rule text (element_lists (Made Strict make_bindings)) (element_lists (AreElements text f.Bindings c)) n n elements_end elements_end (read.bindings text c n r)
      (plain_rule text Strict (tokens_of_elements written) depth_of_elements n n list_ends elements_end make_bindings (such (read.loose_list text c n r) are_bound)
      (such_rule text Lists n n list_ends are_bound (read.loose_list text c n r) loose_rule) bindings_yields bindings_levels (λ p t h. sym (list_stops_in p t) ∙ h))
      refl refl elements_of of_elements (λ x t good h. h)

  -- the first token of a list of bindings
  pub list_begins : (l : Elements) → AreElements text f.Bindings c l → Begins begins_target (tokens_of_elements written l)
  list_begins l (elements first rest h1 h2) =
      let v = element_is text f.Bindings c (is_empty rest) first h1 refl in
      let one = b.begins v.0 (loose_of text c v.0 v.2).0 in
      record {
        first = one.first;
        rest = one.rest ++ flat_map (tokens_of_next_element written) rest;
        is = tokens_Elements written first rest ∙ ap (λ ts. ts ++ flat_map (tokens_of_next_element written) rest) (ap (tokens_of_element written) v.1 ∙ tokens_Value written v.0 ∙ one.is);
        kind = one.kind;
      }

  -- ---- the last binding of a list

  pub record LastBound (o : Option Expression) : Type 0 where
    pub value : Expression
    pub is : o ≡ Some value
    pub loose : IsLoose text c value

  pub last_bound : (x : Expression) (os : List NextElement) → IsLoose text c x → AllByRecursion Nexts.Good os → LastBound (value_layer (out-Element (last_element (el.Value x) os)))
  last_bound x [] good others = record { value = x; is = out_value x; loose = good }
  last_bound x (o ∷ os) good others =
      let p = others.0.0 in
      let same : (out-NextElement o).element ≡ el.Value p.1 = ap (λ y. (out-NextElement y).element) others.0.1 ∙ element_in p in
      let rest = last_bound p.1 os others.0.2.1 others.1 in
      record { value = rest.value; is = ap (λ y. value_layer (out-Element (last_element y os))) same ∙ rest.is; loose = rest.loose }

  list_last : (x : Elements) → AreElements text f.Bindings c x → LastBound (last_binding x)
  list_last x good =
      let h = of_elements x good in
      let p = h.0 in
      let last = last_bound p.0 p.1 h.2.0.0 h.2.0.1 in
      record { value = last.value; is = ap last_binding h.1 ∙ last_in p ∙ last.is; loose = last.loose }

  -- ---- declarations

  abbrev pub declarations : (Declaration → Type 0) → Syntax Declaration
  declarations Good = record { yields = tokens_of_declaration written; levels_of = depth_of_declaration; Good = Good }

  abbrev pub DeclarationParts : (Kind → Bool) → Syntax (Token × Elements)
  DeclarationParts test = pairs (tokens_in (λ t. test t.kind)) (element_lists (AreElements text f.Bindings c))

  abbrev pub IsDeclared : (Kind → Bool) → Declaration → Type 0
  IsDeclared test = Made (DeclarationParts test) make_declaration

  abbrev list_of : Declaration → Elements
  list_of d = (out-Declaration d).bindings

  list_is : (p : Token × Elements) → list_of (make_declaration p) ≡ p.1
  list_is p = ap (λ o. o.bindings) (out-roll-Declaration (record { word = p.0; bindings = p.1 }))

  abbrev declaration_ends : Declaration → Token → Bool
  declaration_ends d t = elements_end (list_of d) t

  pub declaration_rule : (test : Kind → Bool) → ((kind : Kind) → test kind ≡ true → agrees goal.Div kind ≡ true) → Rule text (declarations (IsDeclared test)) n n declaration_ends (read.declaration text c n r test)
  unfolding read.declaration
  declaration_rule test same =
      plain_rule text (DeclarationParts test) (tokens_of_declaration written) depth_of_declaration n n (λ p. elements_end p.1) declaration_ends make_declaration (both (token_in text goal.Div (λ t. test t.kind)) (read.bindings text c n r))
      (both_rule text (tokens_in (λ t. test t.kind)) (element_lists (AreElements text f.Bindings c)) n n (λ _ _. true) elements_end (λ p. elements_end p.1) (token_in text goal.Div (λ t. test t.kind)) (read.bindings text c n r)
      (token_in_rule text n n goal.Div (λ t. test t.kind) (λ t h. same t.kind h)) bindings_rule (λ a l t h. h) (λ a l m j ga gl h stop. refl))
      (λ p. tokens_Declaration written p.0 p.1) (λ p. levels_Declaration p.0 p.1 ∙ zero_max (depth_of_elements p.1)) (λ p t h. ap (λ l. elements_end l t) (sym (list_is p)) ∙ h)

  -- what ends a statement ends its last binding
  comma_goes_on : (o : Option Expression) (x : Expression) (t : Token) → o ≡ Some x → is_comma t.kind ≡ true → binding_goes_on o t ≡ true
  comma_goes_on o x t is h = ap (λ z. binding_goes_on z t) is ∙ ap (λ kind. binding_goes_on (Some x) (record t { kind = kind })) (comma_is t.kind h) ∙ on_comma x t

  bound_ends : (o : Option Expression) (x : Expression) (t : Token) → o ≡ Some x → IsLoose text c x → (is_semicolon t.kind ≡ true) ⊎ (lets_end (binding_goes_on o) (Ok t) ≡ true) → (maybe_stops o t && not (is_comma t.kind)) ≡ true
  bound_ends o x t is good (inl h) = and_of _ _ (ap (λ z. maybe_stops z t) is ∙ b.ends x t good (or_first _ _ (semicolon_ends t.kind h))) (semicolon_no_comma t.kind h)
  bound_ends o x t is good (inr h) = and_of _ _ (ap (λ z. maybe_stops z t) is ∙ by_case (lets (binding_goes_on o) t h)) (no_comma (is_comma t.kind) refl)
    where
      off : binding_goes_on o t ≡ false
      off = no_going_on (binding_goes_on o) t h

      by_case : (t.after_line ≡ true) ⊎ ((is_right_brace t.kind ≡ true) ⊎ (is_end t.kind ≡ true)) → b.stops x t ≡ true
      by_case (inl line) = b.next_line x t good line (ap (λ z. binding_goes_on z t) (sym is) ∙ off)
      by_case (inr (inl brace)) = b.ends x t good (or_first _ _ (brace_ends t.kind brace))
      by_case (inr (inr ending)) = b.ends x t good (or_first _ _ (end_ends t.kind ending))

      no_comma : (q : Bool) → is_comma t.kind ≡ q → not q ≡ true
      no_comma false seen = refl
      no_comma true seen = let bad : true ≡ false = sym (comma_goes_on o x t is seen) ∙ off in cc

  abbrev pub VariablesParts : (Kind → Bool) → Syntax (Declaration × Option Token)
  VariablesParts test = closings text behind_bindings (tokens_of_declaration written) (declarations (IsDeclared test))

  declared_ends : (test : Kind → Bool) (d : Declaration) (i m : ℕ) → IsDeclared test d → SpelledBetween text i (tokens_of_declaration written d) m → (end_from 0 (tokens_of_declaration written d) ≡ m) × (m ≤ length text)
  declared_ends test d i m good h =
      let same = ap (tokens_of_declaration written) good.1 ∙ tokens_Declaration written good.0.0 good.0.1 in
      subst (λ ts. (end_from 0 ts ≡ m) × (m ≤ length text)) (sym same) (ends_at text i good.0.0 (tokens_of_elements written good.0.1) m (subst (λ ts. SpelledBetween text i ts m) same h))

  declared_stops : (test : Kind → Bool) (d : Declaration) (t : Token) → IsDeclared test d → (is_semicolon t.kind ≡ true) ⊎ (behind_bindings d (Ok t) ≡ true) → declaration_ends d t ≡ true
  unfolding bindings_go_on
  declared_stops test d t good h =
      let last = list_last good.0.1 good.2.1 in
      let same : list_of d ≡ good.0.1 = ap list_of good.1 ∙ list_is good.0 in
      bound_ends (last_binding (list_of d)) last.value t (ap last_binding same ∙ last.is) last.loose h

  pub variables_rule : (test : Kind → Bool) → ((kind : Kind) → test kind ≡ true → agrees goal.Div kind ≡ true) → Rule text (statements (Made (VariablesParts test) make_variables)) n (suc n) (λ _ _. true) (read.variables text c n r test)
  unfolding read.variables
  variables_rule test same =
      above_rule text (VariablesParts test) (tokens_of_statement written) depth_of_statement n n (λ _ _. true) (λ _ _. true) make_variables (closed text behind_bindings (read.declaration text c n r test))
      (closed_rule text (declarations (IsDeclared test)) n n declaration_ends behind_bindings (tokens_of_declaration written) (read.declaration text c n r test) (declaration_rule test same)
      (λ d. lets_end_is (bindings_go_on (list_of d))) (declared_ends test) (declared_stops test))
      (omega arith) (λ p. tokens_Variables written p.0 p.1) (λ p. levels_Variables p.0 p.1 ∙ plus_zero (depth_of_declaration p.0)) (λ a t h. refl)
