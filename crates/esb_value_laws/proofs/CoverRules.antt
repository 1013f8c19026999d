-- A test of trees tells which lists of Arguments are FormalParameters too.
use Rattle.std.proofs.Common.{◌≡◌, ◌⊎◌, inl, inr, ℕ, zero, suc, ◌≤◌, Bool, true, false, ◌&&◌, List, [], ◌∷◌, map, refl, ap, sym, ◌∙◌, subst, arith}
use Rattle.esb_token.specs.declared.kind.Kind.{Kind}
use Rattle.esb_token.specs.declared.kind.Kind.TheVariants as k
use Rattle.esb_token.specs.declared.token.Token.{Token}
use Rattle.esb_tree.specs.declared.classes.ClassElement.TheOpen.{Expression-F, Element-F}
use Rattle.esb_tree.specs.declared.expressions.Expression.{Expression, out-Expression, out-roll-Expression}
use Rattle.esb_tree.specs.declared.expressions.Expression.TheVariants as e
use Rattle.esb_tree.specs.declared.functions.Method.{Method}
use Rattle.esb_tree.specs.declared.patterns.Bracketed.{Bracketed, out-roll-Bracketed}
use Rattle.esb_tree.specs.declared.patterns.Element.{Element, out-Element, out-roll-Element}
use Rattle.esb_tree.specs.declared.patterns.Element.TheVariants as el
use Rattle.esb_tree.specs.declared.patterns.Elements.{Elements, out-roll-Elements}
use Rattle.esb_tree.specs.declared.patterns.NextElement.{NextElement, out-NextElement, out-roll-NextElement}
use Rattle.esb_tree.specs.declared.patterns.PropertyName.{PropertyName}
use Rattle.esb_tree.specs.Levels.{most, depth_of_expression, depth_of_bracketed, depth_of_element, depth_of_elements, depth_of_next_element}
use Rattle.esb_tree.proofs.LevelLines.{levels_ArrayLiteral, levels_ObjectLiteral, levels_Assignment, levels_Value, levels_Spread, levels_Property, levels_Bracketed, levels_Elements, levels_NextElement}
use Rattle.esb_grammar.specs.declared.context.Context.{Context}
use Rattle.esb_grammar.specs.declared.form.Form.{Form}
use Rattle.esb_grammar.specs.declared.form.Form.TheVariants as f
use Rattle.esb_grammar.specs.Contexts.{inside}
use Rattle.esb_grammar.specs.Forms.{opener, closer, is_empty}
use Rattle.esb_grammar.specs.Grammar.{IsPrimary, identifier_reference, literal, array_literal, object_literal, parenthesized, template_literal, function_expression, class_expression, IsLeftHandSide, update, IsUpdate, unary_expression, exponentiation, IsConditional, short_circuit, conditional, IsBinary, IsAssignment, conditional_expression, assignment, yield_alone, yield_value, yield_each, arrow_function, async_arrow_function, async_arrow_of_name, IsPropertyName, literal_property_name, computed_property_name, IsBracketed, bracketed, AreElements, elements, AreNextElements, no_elements, more_elements, IsElement, hole, spread, shorthand, cover_initialized_name, property, method_property, binding_element, rest_element, single_name, single_name_initialized, binding_property, rest_property, IsTarget, binding_identifier, array_pattern, object_pattern, IsBindingElement, without_default, with_default}
use Rattle.esb_grammar.specs.Kinds.{is_assign, is_binding}
use Rattle.esb_grammar.proofs.Inversions.{is_primary_layer, primary_of, out_object}
use Rattle.esb_grammar.proofs.Shapes.{Layer, is_origin_layer, is_unary_layer, unary_shape, origin_in}
use Rattle.esb_operator_laws.proofs.TokenTests.{and_left, and_right, and_both}
use Rattle.esb_literal_laws.specs.ElementLists.{all_placed, placed}
use Rattle.esb_value_laws.specs.Covers.{name_layer, is_bound_name, elements_cover, list_covers, default_layer, covers_binding, slot_layer, covers_slot, property_layer, covers_property, target_layer, covers_target, covers_parameters}
use Rattle.esb_value_laws.specs.Laws.{Covers, CoverRule}

assign_is : (kind : Kind) → is_assign kind ≡ true → kind ≡ k.Assign
assign_is k.Assign h = refl
assign_is _ h = cc

-- ---- what is on the outside

abbrev simple_layer : Layer → Bool
simple_layer (Expression-F.Primary t) = true
simple_layer (Expression-F.ArrayLiteral list) = true
simple_layer (Expression-F.ObjectLiteral list) = true
simple_layer _ = false

simple_origin : (x : Layer) → simple_layer x ≡ true → is_origin_layer x ≡ true
simple_origin (Expression-F.Primary t) h = refl
simple_origin (Expression-F.ArrayLiteral list) h = refl
simple_origin (Expression-F.ObjectLiteral list) h = refl
simple_origin _ h = cc

simple_primary : (x : Layer) → simple_layer x ≡ true → is_primary_layer x ≡ true
simple_primary (Expression-F.Primary t) h = refl
simple_primary (Expression-F.ArrayLiteral list) h = refl
simple_primary (Expression-F.ObjectLiteral list) h = refl
simple_primary _ h = cc

primary_in : {text : List ℕ} {c : Context} (x : Expression) → IsAssignment text c x → simple_layer (out-Expression x) ≡ true → IsPrimary text c x
primary_in x h s = primary_of (origin_in h (simple_origin (out-Expression x) s)) (simple_primary (out-Expression x) s)

target_simple : (below : Expression → Bool) (x : Layer) → target_layer below x ≡ true → simple_layer x ≡ true
target_simple below (Expression-F.Primary t) h = refl
target_simple below (Expression-F.ArrayLiteral list) h = refl
target_simple below (Expression-F.ObjectLiteral list) h = refl
target_simple below _ h = cc

name_simple : (x : Layer) → name_layer x ≡ true → simple_layer x ≡ true
name_simple (Expression-F.Primary t) h = refl
name_simple _ h = cc

-- ---- what the tests say of each kind of node

out_primary : (t : Token) → out-Expression (e.Primary t) ≡ Expression-F.Primary t
out_primary t = ap out-Expression (sym (e.rolls-Primary t)) ∙ out-roll-Expression (Expression-F.Primary t)

out_array : (list : Bracketed) → out-Expression (e.ArrayLiteral list) ≡ Expression-F.ArrayLiteral list
out_array list = ap out-Expression (sym (e.rolls-ArrayLiteral list)) ∙ out-roll-Expression (Expression-F.ArrayLiteral list)

out_assignment : (target : Expression) (sign : Token) (x : Expression) → out-Expression (e.Assignment target sign x) ≡ Expression-F.Assignment target sign x
out_assignment target sign x = ap out-Expression (sym (e.rolls-Assignment target sign x)) ∙ out-roll-Expression (Expression-F.Assignment target sign x)

module _ (below : Expression → Bool) where
  binding_Assignment : (target : Expression) (sign : Token) (x : Expression) → covers_binding below (e.Assignment target sign x) ≡ (below target && is_assign sign.kind)
  unfolding covers_binding
  binding_Assignment target sign x = ap (default_layer below (e.Assignment target sign x)) (out_assignment target sign x)

  binding_Primary : (t : Token) → covers_binding below (e.Primary t) ≡ below (e.Primary t)
  unfolding covers_binding
  binding_Primary t = ap (default_layer below (e.Primary t)) (out_primary t)

  binding_ArrayLiteral : (list : Bracketed) → covers_binding below (e.ArrayLiteral list) ≡ below (e.ArrayLiteral list)
  unfolding covers_binding
  binding_ArrayLiteral list = ap (default_layer below (e.ArrayLiteral list)) (out_array list)

  binding_ObjectLiteral : (list : Bracketed) → covers_binding below (e.ObjectLiteral list) ≡ below (e.ObjectLiteral list)
  unfolding covers_binding
  binding_ObjectLiteral list = ap (default_layer below (e.ObjectLiteral list)) (out_object list)

  slot_Hole : (last : Bool) → covers_slot below last el.Hole ≡ true
  unfolding covers_slot
  slot_Hole last = ap (slot_layer below last) (ap out-Element (sym el.rolls-Hole) ∙ out-roll-Element Element-F.Hole)

  slot_Value : (last : Bool) (x : Expression) → covers_slot below last (el.Value x) ≡ covers_binding below x
  unfolding covers_slot
  slot_Value last x = ap (slot_layer below last) (ap out-Element (sym (el.rolls-Value x)) ∙ out-roll-Element (Element-F.Value x))

  slot_Spread : (last : Bool) (dots : Token) (x : Expression) → covers_slot below last (el.Spread dots x) ≡ (last && below x)
  unfolding covers_slot
  slot_Spread last dots x = ap (slot_layer below last) (ap out-Element (sym (el.rolls-Spread dots x)) ∙ out-roll-Element (Element-F.Spread dots x))

  property_Hole : (last : Bool) → covers_property below last el.Hole ≡ true
  unfolding covers_property
  property_Hole last = ap (property_layer below last) (ap out-Element (sym el.rolls-Hole) ∙ out-roll-Element Element-F.Hole)

  property_Shorthand : (last : Bool) (name : Token) → covers_property below last (el.Shorthand name) ≡ is_binding name.kind
  unfolding covers_property
  property_Shorthand last name = ap (property_layer below last) (ap out-Element (sym (el.rolls-Shorthand name)) ∙ out-roll-Element (Element-F.Shorthand name))

  property_Initialized : (last : Bool) (name sign : Token) (x : Expression) → covers_property below last (el.Initialized name sign x) ≡ is_binding name.kind
  unfolding covers_property
  property_Initialized last name sign x = ap (property_layer below last) (ap out-Element (sym (el.rolls-Initialized name sign x)) ∙ out-roll-Element (Element-F.Initialized name sign x))

  property_Property : (last : Bool) (name : PropertyName) (colon : Token) (x : Expression) → covers_property below last (el.Property name colon x) ≡ covers_binding below x
  unfolding covers_property
  property_Property last name colon x = ap (property_layer below last) (ap out-Element (sym (el.rolls-Property name colon x)) ∙ out-roll-Element (Element-F.Property name colon x))

  property_Spread : (last : Bool) (dots : Token) (x : Expression) → covers_property below last (el.Spread dots x) ≡ (last && is_bound_name x)
  unfolding covers_property
  property_Spread last dots x = ap (property_layer below last) (ap out-Element (sym (el.rolls-Spread dots x)) ∙ out-roll-Element (Element-F.Spread dots x))

  property_Method : (last : Bool) (method : Method) → covers_property below last (el.MethodProperty method) ≡ false
  unfolding covers_property
  property_Method last method = ap (property_layer below last) (ap out-Element (sym (el.rolls-MethodProperty method)) ∙ out-roll-Element (Element-F.MethodProperty method))

bound_Primary : (t : Token) → is_bound_name (e.Primary t) ≡ is_binding t.kind
unfolding is_bound_name
bound_Primary t = ap name_layer (out_primary t)

-- ---- lists

-- the elements of a list are of another form where each is
module _ (text : List ℕ) (from to : Form) (d c : Context) (fit : Bool → Element → Bool) (there : (last : Bool) (x : Element) → IsElement text from last d x → fit last x ≡ true → IsElement text to last c x) where
  nexts_there : (os : List NextElement) → AreNextElements text from d os → all_placed fit os ≡ true → AreNextElements text to c os
  nexts_there [] h g = no_elements
  nexts_there (o ∷ os) (more_elements {comma = sign} {element = x} is good more) g =
      let same : (out-NextElement o).element ≡ x = ap (λ z. z.element) (out-roll-NextElement (record { comma = sign; element = x })) in
      more_elements is (there (is_empty os) x good (ap (fit (is_empty os)) (sym same) ∙ and_left _ _ g)) (nexts_there os more (and_right (fit (is_empty os) (out-NextElement o).element) _ g))

  elements_there : (x : Elements) → AreElements text from d x → elements_cover fit x ≡ true → AreElements text to c x
  elements_there x (elements first rest good more) g =
      let same : placed fit (first, rest) ≡ true = ap (λ z. placed fit (z.first, z.rest)) (sym (out-roll-Elements (record { first = first; rest = rest }))) ∙ g in
      elements first rest (there (is_empty rest) first good (and_left _ _ same)) (nexts_there rest more (and_right (fit (is_empty rest) first) _ same))

  list_there : (x : Bracketed) → opener from ≡ opener to → closer from ≡ closer to → IsBracketed text from d x → list_covers fit x ≡ true → IsBracketed text to c x
  unfolding list_covers
  list_there x opens closes (bracketed begin list ending first good last) g =
      bracketed begin list ending (first ∙ opens) (elements_there list good (ap (λ z. elements_cover fit z.list) (sym (out-roll-Bracketed (record { begin = begin; list = list; ending = ending }))) ∙ g)) (last ∙ closes)

-- and the other way, within m levels
module _ (text : List ℕ) (to : Form) (c : Context) (m : ℕ) (fit : Bool → Element → Bool) (back : (last : Bool) (x : Element) → IsElement text to last c x → depth_of_element x ≤ m → fit last x ≡ true) where
  nexts_back : (os : List NextElement) → AreNextElements text to c os → most (map depth_of_next_element os) ≤ m → all_placed fit os ≡ true
  nexts_back [] h low = refl
  nexts_back (o ∷ os) (more_elements {comma = sign} {element = x} is good more) low =
      let same : (out-NextElement o).element ≡ x = ap (λ z. z.element) (out-roll-NextElement (record { comma = sign; element = x })) in
      let deep = levels_NextElement sign x in
      and_both _ _ (ap (fit (is_empty os)) same ∙ back (is_empty os) x good (omega (arith, deep, low))) (nexts_back os more (omega (arith, low)))

  elements_back : (x : Elements) → AreElements text to c x → depth_of_elements x ≤ m → elements_cover fit x ≡ true
  elements_back x (elements first rest good more) low =
      let deep = levels_Elements first rest in
      ap (λ z. placed fit (z.first, z.rest)) (out-roll-Elements (record { first = first; rest = rest }))
      ∙ and_both _ _ (back (is_empty rest) first good (omega (arith, deep, low))) (nexts_back rest more (omega (arith, deep, low)))

  list_back : (x : Bracketed) → IsBracketed text to c x → depth_of_bracketed x ≤ m → list_covers fit x ≡ true
  unfolding list_covers
  list_back x (bracketed begin list ending first good last) low =
      let deep = levels_Bracketed begin list ending in
      ap (λ z. elements_cover fit z.list) (out-roll-Bracketed (record { begin = begin; list = list; ending = ending })) ∙ elements_back list good (omega (arith, deep, low))

-- ---- elements

module _ (text : List ℕ) (c : Context) (below : Expression → Bool) (known : (x : Expression) → IsAssignment text (inside c) x → below x ≡ true → IsTarget text c x) where
  left_assignment : (x : Expression) → IsLeftHandSide text (inside c) x → IsAssignment text (inside c) x
  left_assignment x h = conditional_expression (short_circuit (unary_expression (update (IsUpdate.left_hand_side h))))

  abbrev assigns_layer : Layer → Bool
  assigns_layer (Expression-F.Assignment target sign value) = true
  assigns_layer _ = false

  default_splits : (x : Expression) (y : Layer) → default_layer below x y ≡ true → (below x ≡ true) ⊎ (assigns_layer y ≡ true)
  default_splits x (Expression-F.Assignment target sign value) h = inr refl
  default_splits x _ h = inl h

  unary_assigns : (x : Layer) → is_unary_layer x ≡ true → assigns_layer x ≡ false
  unary_assigns (Expression-F.Assignment target sign value) h = let never : false ≡ true = h in cc
  unary_assigns _ h = refl

  conditional_assigns : (x : Expression) → IsConditional text (inside c) x → assigns_layer (out-Expression x) ≡ false
  unfolding out-Expression denote.Hole.Carrier.out
  conditional_assigns x (short_circuit (unary_expression h)) = unary_assigns (out-Expression x) (unary_shape h)
  conditional_assigns x (short_circuit (exponentiation first second rest low h powers)) = refl
  conditional_assigns x (short_circuit (IsBinary.operators own first second rest low high h others)) = refl
  conditional_assigns x (conditional h1 h2 h3 h4 h5) = refl

  plain_binding : (x : Expression) → IsAssignment text (inside c) x → (below x ≡ true) ⊎ (assigns_layer (out-Expression x) ≡ true) → assigns_layer (out-Expression x) ≡ false → IsBindingElement text c x
  plain_binding x good (inl h) none = without_default (known x good h)
  plain_binding x good (inr h) none = let bad : false ≡ true = sym none ∙ h in cc

  binding_there : (x : Expression) → IsAssignment text (inside c) x → covers_binding below x ≡ true → IsBindingElement text c x
  unfolding covers_binding out-Expression denote.Hole.Carrier.out
  binding_there x (assignment {target = target} {operator = sign} {x = y} h1 h2 h3) g =
      let both : (below target && is_assign sign.kind) ≡ true = sym (binding_Assignment below target sign y) ∙ g in
      with_default (known target (left_assignment target h1) (and_left (below target) (is_assign sign.kind) both)) (assign_is sign.kind (and_right (below target) (is_assign sign.kind) both)) h3
  binding_there x (conditional_expression h) g = plain_binding x (conditional_expression h) (default_splits x (out-Expression x) g) (conditional_assigns x h)
  binding_there x (yield_alone h1 h2) g = without_default (known x (yield_alone h1 h2) g)
  binding_there x (yield_value h1 h2 h3 h4) g = without_default (known x (yield_value h1 h2 h3 h4) g)
  binding_there x (yield_each h1 h2 h3 h4 h5) g = without_default (known x (yield_each h1 h2 h3 h4 h5) g)
  binding_there x (arrow_function h1 h2 h3 h4) g = without_default (known x (arrow_function h1 h2 h3 h4) g)
  binding_there x (async_arrow_function h1 h2 h3 h4) g = without_default (known x (async_arrow_function h1 h2 h3 h4) g)
  binding_there x (async_arrow_of_name h1 h2 h3 h4 h5 h6) g = without_default (known x (async_arrow_of_name h1 h2 h3 h4 h5 h6) g)

  -- an element of Arguments
  argument_there : (last : Bool) (x : Element) → IsElement text f.Arguments last c x → covers_slot below last x ≡ true → IsElement text f.Parameters last c x
  argument_there last x (hole h) g = hole h
  argument_there last x (IsElement.value {x = y} h good) g = binding_element refl (binding_there y good (sym (slot_Value below last y) ∙ g))
  argument_there last x (spread {dots = dots} {x = y} h is good) g =
      let both : (last && below y) ≡ true = sym (slot_Spread below last dots y) ∙ g in
      subst (λ b. IsElement text f.Parameters b c (el.Spread dots y)) (sym (and_left last (below y) both)) (rest_element refl is (known y good (and_right last (below y) both)))
  argument_there last x (binding_element h good) g = cc
  argument_there last x (rest_element h is good) g = cc

  -- of an ArrayLiteral
  slot_there : (last : Bool) (x : Element) → IsElement text f.Array last (inside c) x → covers_slot below last x ≡ true → IsElement text f.ArrayPattern last c x
  slot_there last x (hole h) g = hole refl
  slot_there last x (IsElement.value {x = y} h good) g = binding_element refl (binding_there y good (sym (slot_Value below last y) ∙ g))
  slot_there last x (spread {dots = dots} {x = y} h is good) g =
      let both : (last && below y) ≡ true = sym (slot_Spread below last dots y) ∙ g in
      subst (λ b. IsElement text f.ArrayPattern b c (el.Spread dots y)) (sym (and_left last (below y) both)) (rest_element refl is (known y good (and_right last (below y) both)))
  slot_there last x (binding_element h good) g = cc
  slot_there last x (rest_element h is good) g = cc

  property_name_there : (x : PropertyName) → IsPropertyName text (inside c) x → IsPropertyName text c x
  property_name_there x (literal_property_name h) = literal_property_name h
  property_name_there x (computed_property_name h1 good h2) = computed_property_name h1 good h2

  rest_there : (last : Bool) (dots : Token) (y : Expression) → dots.kind ≡ k.Ellipsis → IsPrimary text (inside c) y → is_bound_name y ≡ true → last ≡ true → IsElement text f.ObjectPattern last c (el.Spread dots y)
  unfolding is_bound_name out-Expression denote.Hole.Carrier.out
  rest_there last dots y is (identifier_reference {t = t} h) g at_end = subst (λ b. IsElement text f.ObjectPattern b c (el.Spread dots (e.Primary t))) (sym at_end) (rest_property is (sym (bound_Primary t) ∙ g))
  rest_there last dots y is (literal {t = t} h) g at_end = subst (λ b. IsElement text f.ObjectPattern b c (el.Spread dots (e.Primary t))) (sym at_end) (rest_property is (sym (bound_Primary t) ∙ g))
  rest_there last dots y is (array_literal h) g at_end = cc
  rest_there last dots y is (object_literal h) g at_end = cc
  rest_there last dots y is (parenthesized h) g at_end = cc
  rest_there last dots y is (template_literal h) g at_end = cc
  rest_there last dots y is (function_expression h) g at_end = cc
  rest_there last dots y is (class_expression h) g at_end = cc

  bound_simple : (y : Expression) → is_bound_name y ≡ true → simple_layer (out-Expression y) ≡ true
  unfolding is_bound_name
  bound_simple y h = name_simple (out-Expression y) h

  -- of an ObjectLiteral
  property_there : (last : Bool) (x : Element) → IsElement text f.Object last (inside c) x → covers_property below last x ≡ true → IsElement text f.ObjectPattern last c x
  property_there last x (hole h) g = hole h
  property_there last x (IsElement.value h good) g = cc
  property_there last x (spread {dots = dots} {x = y} h is good) g =
      let both : (last && is_bound_name y) ≡ true = sym (property_Spread below last dots y) ∙ g in
      let bound = and_right last (is_bound_name y) both in
      rest_there last dots y is (primary_in y good (bound_simple y bound)) bound (and_left last (is_bound_name y) both)
  property_there last x (shorthand {name = name} h) g = single_name (sym (property_Shorthand below last name) ∙ g)
  property_there last x (cover_initialized_name {name = name} {sign = sign} {x = y} h is good) g = single_name_initialized (sym (property_Initialized below last name sign y) ∙ g) is good
  property_there last x (property {name = name} {colon = colon} {x = y} h is good) g = binding_property (property_name_there name h) is (binding_there y good (sym (property_Property below last name colon y) ∙ g))
  property_there last x (method_property {method = method} h) g = let bad : false ≡ true = sym (property_Method below last method) ∙ g in cc
  property_there last x (binding_element h good) g = cc
  property_there last x (rest_element h is good) g = cc

  -- ---- names and patterns

  primary_target : (x : Expression) → IsPrimary text (inside c) x → target_layer below (out-Expression x) ≡ true → IsTarget text c x
  unfolding out-Expression denote.Hole.Carrier.out
  primary_target x (identifier_reference h) g = binding_identifier g
  primary_target x (literal h) g = binding_identifier g
  primary_target x (array_literal {list = list} h) g = array_pattern (list_there text f.Array f.ArrayPattern (inside c) c (covers_slot below) slot_there list refl refl h (sym (ap (target_layer below) (out_array list)) ∙ g))
  primary_target x (object_literal {list = list} h) g = object_pattern (list_there text f.Object f.ObjectPattern (inside c) c (covers_property below) property_there list refl refl h (sym (ap (target_layer below) (out_object list)) ∙ g))
  primary_target x (parenthesized h) g = cc
  primary_target x (template_literal h) g = cc
  primary_target x (function_expression h) g = cc
  primary_target x (class_expression h) g = cc

  layer_target : (x : Expression) → IsAssignment text (inside c) x → target_layer below (out-Expression x) ≡ true → IsTarget text c x
  layer_target x good g = primary_target x (primary_in x good (target_simple below (out-Expression x) g)) g

target_there : (text : List ℕ) (c : Context) (n : ℕ) (x : Expression) → IsAssignment text (inside c) x → covers_target n x ≡ true → IsTarget text c x
unfolding covers_target
target_there text c zero x good g = layer_target text c (λ _. false) (λ y h b. cc) x good g
target_there text c (suc n) x good g = layer_target text c (covers_target n) (target_there text c n) x good g

-- ---- the other way

module _ (text : List ℕ) (c : Context) (m : ℕ) (below : Expression → Bool) (known : (x : Expression) → IsTarget text c x → depth_of_expression x ≤ m → below x ≡ true) where
  binding_back : (x : Expression) → IsBindingElement text c x → depth_of_expression x ≤ m → covers_binding below x ≡ true
  binding_back x (without_default (binding_identifier {t = t} h)) low = binding_Primary below t ∙ known x (binding_identifier h) low
  binding_back x (without_default (array_pattern {list = list} h)) low = binding_ArrayLiteral below list ∙ known x (array_pattern h) low
  binding_back x (without_default (object_pattern {list = list} h)) low = binding_ObjectLiteral below list ∙ known x (object_pattern h) low
  binding_back x (with_default {target = target} {sign = sign} {x = y} h is good) low =
      let deep = levels_Assignment target sign y in
      binding_Assignment below target sign y ∙ and_both (below target) (is_assign sign.kind) (known target h (omega (arith, deep, low))) (ap is_assign is)

  parameter_back : (last : Bool) (x : Element) → IsElement text f.Parameters last c x → depth_of_element x ≤ m → covers_slot below last x ≡ true
  parameter_back last x (hole h) low = slot_Hole below last
  parameter_back last x (IsElement.value h good) low = cc
  parameter_back last x (spread h is good) low = cc
  parameter_back last x (binding_element {x = y} h good) low = let deep = levels_Value y in slot_Value below last y ∙ binding_back y good (omega (arith, deep, low))
  parameter_back last x (rest_element {dots = dots} {x = y} h is good) low = let deep = levels_Spread dots y in slot_Spread below true dots y ∙ known y good (omega (arith, deep, low))

  slot_back : (last : Bool) (x : Element) → IsElement text f.ArrayPattern last c x → depth_of_element x ≤ m → covers_slot below last x ≡ true
  slot_back last x (hole h) low = slot_Hole below last
  slot_back last x (IsElement.value h good) low = cc
  slot_back last x (spread h is good) low = cc
  slot_back last x (binding_element {x = y} h good) low = let deep = levels_Value y in slot_Value below last y ∙ binding_back y good (omega (arith, deep, low))
  slot_back last x (rest_element {dots = dots} {x = y} h is good) low = let deep = levels_Spread dots y in slot_Spread below true dots y ∙ known y good (omega (arith, deep, low))

  property_back : (last : Bool) (x : Element) → IsElement text f.ObjectPattern last c x → depth_of_element x ≤ m → covers_property below last x ≡ true
  property_back last x (hole h) low = property_Hole below last
  property_back last x (IsElement.value h good) low = cc
  property_back last x (spread h is good) low = cc
  property_back last x (binding_element h good) low = cc
  property_back last x (rest_element h is good) low = cc
  property_back last x (single_name {name = name} h) low = property_Shorthand below last name ∙ h
  property_back last x (single_name_initialized {name = name} {sign = sign} {x = y} h is good) low = property_Initialized below last name sign y ∙ h
  property_back last x (binding_property {name = name} {colon = colon} {x = y} h is good) low = let deep = levels_Property name colon y in property_Property below last name colon y ∙ binding_back y good (omega (arith, deep, low))
  property_back last x (rest_property {dots = dots} {name = name} is h) low = property_Spread below true dots (e.Primary name) ∙ bound_Primary name ∙ h

target_back : (text : List ℕ) (c : Context) (n : ℕ) (x : Expression) → IsTarget text c x → depth_of_expression x ≤ n → covers_target n x ≡ true
unfolding covers_target
target_back text c zero x (binding_identifier {t = t} h) low = ap (target_layer (λ _. false)) (out_primary t) ∙ h
target_back text c zero x (array_pattern {list = list} h) low = let deep = levels_ArrayLiteral list in absurd (omega (arith, deep, low))
target_back text c zero x (object_pattern {list = list} h) low = let deep = levels_ObjectLiteral list in absurd (omega (arith, deep, low))
target_back text c (suc n) x (binding_identifier {t = t} h) low = ap (target_layer (covers_target n)) (out_primary t) ∙ h
target_back text c (suc n) x (array_pattern {list = list} h) low =
    let deep = levels_ArrayLiteral list in
    ap (target_layer (covers_target n)) (out_array list)
    ∙ list_back text f.ArrayPattern c n (covers_slot (covers_target n)) (slot_back text c n (covers_target n) (target_back text c n)) list h (omega (arith, deep, low))
target_back text c (suc n) x (object_pattern {list = list} h) low =
    let deep = levels_ObjectLiteral list in
    ap (target_layer (covers_target n)) (out_object list)
    ∙ list_back text f.ObjectPattern c n (covers_property (covers_target n)) (property_back text c n (covers_target n) (target_back text c n)) list h (omega (arith, deep, low))

pub covers_exactly : (text : List ℕ) (c : Context) (n : ℕ) → Covers text c n (covers_parameters n)
unfolding covers_parameters
covers_exactly text c n = record {
  there = λ list good g. list_there text f.Arguments f.Parameters c c (covers_slot (covers_target n)) (argument_there text c (covers_target n) (target_there text c n)) list refl refl good g;
  back = λ list good low. list_back text f.Parameters c n (covers_slot (covers_target n)) (parameter_back text c n (covers_target n) (target_back text c n)) list good low;
}

pub cover_rule : CoverRule
cover_rule text c n = covers_exactly text c n
