-- Patterns of bindings and lists of parameters and of bindings are read exactly.
use Rattle.std.proofs.Common.{◌≡◌, ◌⊎◌, inl, inr, ℕ, zero, suc, ◌+◌, ◌<◌, max, Bool, true, false, not, ◌&&◌, ◌||◌, List, [], ◌∷◌, ◌++◌, refl, ap, sym, ◌∙◌, subst, arith}
use Rattle.esb_token.specs.declared.kind.Kind.{Kind}
use Rattle.esb_token.specs.declared.kind.Kind.TheVariants as k
use Rattle.esb_token.specs.declared.token.Token.{Token}
use Rattle.esb_token.specs.declared.goal.Goal.TheVariants as goal
use Rattle.esb_token.specs.Tokens.{SpelledBetween}
use Rattle.esb_tree.specs.declared.expressions.Expression.{Expression}
use Rattle.esb_tree.specs.declared.expressions.Expression.TheVariants as e
use Rattle.esb_tree.specs.declared.patterns.Bracketed.{Bracketed}
use Rattle.esb_tree.specs.declared.patterns.Element.{Element, out-Element, out-roll-Element}
use Rattle.esb_tree.specs.declared.patterns.Element.TheVariants as el
use Rattle.esb_tree.specs.declared.patterns.NextElement.{NextElement, out-NextElement}
use Rattle.esb_tree.specs.declared.patterns.PropertyName.{PropertyName}
use Rattle.esb_tree.specs.declared.classes.ClassElement.TheOpen.{Element-F}
use Rattle.esb_tree.specs.Levels.{depth_of_expression, depth_of_element, depth_of_property_name}
use Rattle.esb_tree.specs.Trees.{written}
use Rattle.esb_tree.specs.Yields.{tokens_of_expression, tokens_of_element, tokens_of_bracketed}
use Rattle.esb_tree.proofs.TokenLines.{tokens_Primary, tokens_ArrayLiteral, tokens_ObjectLiteral, tokens_Assignment, tokens_Hole, tokens_Value, tokens_Spread, tokens_Shorthand, tokens_Initialized, tokens_Property, tokens_Bracketed}
use Rattle.esb_tree.proofs.LevelLines.{levels_Primary, levels_ArrayLiteral, levels_ObjectLiteral, levels_Assignment, levels_Hole, levels_Value, levels_Spread, levels_Shorthand, levels_Initialized, levels_Property}
use Rattle.esb_grammar.specs.declared.context.Context.{Context}
use Rattle.esb_grammar.specs.declared.form.Form.{Form}
use Rattle.esb_grammar.specs.declared.form.Form.TheVariants as f
use Rattle.esb_grammar.specs.Contexts.{inside}
use Rattle.esb_grammar.specs.Forms.{opener, takes_hole, takes_value, takes_spread, takes_binding, is_empty}
use Rattle.esb_grammar.specs.Grammar.{IsAssignment, IsBracketed, IsElement, hole, shorthand, cover_initialized_name, property, method_property, binding_element, rest_element, single_name, single_name_initialized, binding_property, rest_property, binding, IsTarget, binding_identifier, array_pattern, object_pattern, IsBindingElement, without_default, with_default}
use Rattle.esb_grammar.specs.Kinds.{is_comma, is_binding, is_assign, is_left_bracket, is_left_brace, is_property_word}
use Rattle.esb_reader.specs.declared.node.Node.{Node}
use Rattle.esb_reader.specs.Kinds.{agrees}
use Rattle.esb_reader.specs.Places.{Text}
use Rattle.esb_reader.specs.Reader.{Reader, node, fail}
use Rattle.esb_reader.specs.Parts.{behind, both, token, token_in, made, above, choice, empty}
use Rattle.esb_reader.specs.Stands.{Syntax, Stands, Rule, Made, tokens, tokens_in, pairs}
use Rattle.esb_reading_laws.proofs.Composed.{token_in_rule, plain_rule, above_rule, choice_rule, empty_rule, same_rule}
use Rattle.esb_reading_laws.proofs.Steps.{spelled_split}
use Rattle.esb_expression_laws.specs.Leaves.{expressions}
use Rattle.esb_expression_laws.specs.Lists.{is_closer, ends_element, begins_element, is_dots, make_spread, hole_layer, is_hole, fits_place, all_fit, list_fits}
use Rattle.esb_expression_laws.specs.Laws.{lists}
use Rattle.esb_literal_laws.specs.Forks.{fork, second, reads_before}
use Rattle.esb_literal_laws.specs.ElementLists.{all_placed, placed, bracketed_of}
use Rattle.esb_literal_laws.specs.Names.{property_name}
use Rattle.esb_literal_laws.specs.Bindings as read
use Rattle.esb_literal_laws.specs.Bindings.{rest_layer, is_rest, rests_last, bindings_fit, make_assignment, make_rest, make_initialized, make_property, stands_alone, before_sign, at_single_name}
use Rattle.esb_literal_laws.specs.Laws.{ReadsWithin, targets, names, ParametersRule, TargetRule}
use Rattle.esb_literal_laws.proofs.Forks.{fork_rule, lower_rule, fewer_rule}
use Rattle.esb_literal_laws.proofs.Seen.{left_of, right_of, and_of, and_false, or_right, max_zero, sees, sees_kind}
use Rattle.esb_literal_laws.proofs.Sequences.{free_rule, lead_rule, lead_in_rule, raise_rule, fail_rule, sees_before}
use Rattle.esb_literal_laws.proofs.AnyLists.{elements_in, opener_agrees, bracketed_rule}
use Rattle.esb_literal_laws.proofs.NameParts.{Named_before, name_seen, name_rule}

-- ---- kinds

pub binding_agrees : (kind : Kind) → is_binding kind ≡ true → agrees goal.Div kind ≡ true
binding_agrees k.End h = cc
binding_agrees k.RegExp h = cc
binding_agrees k.TemplateMiddle h = cc
binding_agrees k.TemplateTail h = cc
binding_agrees _ h = refl

-- the kinds with which a name or a pattern begins
abbrev begins_target : Kind → Bool
begins_target k.LeftBracket = true
begins_target k.LeftBrace = true
begins_target kind = is_binding kind

target_begins : (kind : Kind) → begins_target kind ≡ true → not (is_comma kind || is_closer kind) ≡ true
target_begins k.Comma h = cc
target_begins k.RightParenthesis h = cc
target_begins k.RightBracket h = cc
target_begins k.RightBrace h = cc
target_begins _ h = refl

target_no_dots : (kind : Kind) → begins_target kind ≡ true → is_dots kind ≡ false
target_no_dots k.Ellipsis h = cc
target_no_dots _ h = refl

binding_begins : (kind : Kind) → is_binding kind ≡ true → begins_target kind ≡ true
binding_begins k.LeftBracket h = cc
binding_begins k.LeftBrace h = cc
binding_begins _ h = h

binding_no_bracket : (kind : Kind) → is_binding kind ≡ true → is_left_bracket kind ≡ false
binding_no_bracket k.LeftBracket h = cc
binding_no_bracket _ h = refl

binding_no_brace : (kind : Kind) → is_binding kind ≡ true → is_left_brace kind ≡ false
binding_no_brace k.LeftBrace h = cc
binding_no_brace _ h = refl

pub ends_no_sign : (kind : Kind) → (is_comma kind || is_closer kind) ≡ true → is_assign kind ≡ false
ends_no_sign k.Assign h = cc
ends_no_sign _ h = refl

pub assign_is : (kind : Kind) → kind ≡ k.Assign → is_assign kind ≡ true
assign_is kind e = ap is_assign e

word_begins : (kind : Kind) → is_property_word kind ≡ true → not (is_comma kind || is_closer kind) ≡ true
word_begins k.Comma h = cc
word_begins k.RightParenthesis h = cc
word_begins k.RightBracket h = cc
word_begins k.RightBrace h = cc
word_begins _ h = refl

word_no_dots : (kind : Kind) → is_property_word kind ≡ true → is_dots kind ≡ false
word_no_dots k.Ellipsis h = cc
word_no_dots _ h = refl

binding_word : (kind : Kind) → is_binding kind ≡ true → not (is_comma kind || is_closer kind) ≡ true
binding_word k.Comma h = cc
binding_word k.RightParenthesis h = cc
binding_word k.RightBracket h = cc
binding_word k.RightBrace h = cc
binding_word _ h = refl

binding_no_dots : (kind : Kind) → is_binding kind ≡ true → is_dots kind ≡ false
binding_no_dots k.Ellipsis h = cc
binding_no_dots _ h = refl

-- ---- what is seen

pub bracketed_seen : (text : Text) (form : Form) (c : Context) (x : Bracketed) (us : List Token) (i j : ℕ) → IsBracketed text form c x → SpelledBetween text i (tokens_of_bracketed written x ++ us) j → (behind text i).kind ≡ opener form
bracketed_seen text form c x us i j (IsBracketed.bracketed begin list ending h1 h2 h3) h =
    let spelled = subst (λ ts. SpelledBetween text i (ts ++ us) j) (tokens_Bracketed written begin list ending) h in
    ap (λ (t : Token). t.kind) (sees_kind text i begin _ j (opener form) spelled h1 (opener_agrees form)) ∙ h1

target_seen : (text : Text) (c : Context) (x : Expression) (us : List Token) (i j : ℕ) → IsTarget text c x → SpelledBetween text i (tokens_of_expression written x ++ us) j → begins_target (behind text i).kind ≡ true
target_seen text c x us i j (binding_identifier {t = t} is) h =
    let spelled = subst (λ ts. SpelledBetween text i (ts ++ us) j) (tokens_Primary written t) h in
    ap (λ (u : Token). begins_target u.kind) (sees text i t us j spelled (binding_agrees t.kind is)) ∙ binding_begins t.kind is
target_seen text c x us i j (array_pattern {list = list} is) h =
    ap begins_target (bracketed_seen text f.ArrayPattern c list us i j is (subst (λ ts. SpelledBetween text i (ts ++ us) j) (tokens_ArrayLiteral written list) h))
target_seen text c x us i j (object_pattern {list = list} is) h =
    ap begins_target (bracketed_seen text f.ObjectPattern c list us i j is (subst (λ ts. SpelledBetween text i (ts ++ us) j) (tokens_ObjectLiteral written list) h))

append_none : (ts : List Token) → ts ++ [] ≡ ts
append_none [] = refl
append_none (t ∷ ts) = ap (λ us. t ∷ us) (append_none ts)

element_seen : (text : Text) (c : Context) (x : Expression) (i j : ℕ) → IsBindingElement text c x → SpelledBetween text i (tokens_of_expression written x) j → begins_target (behind text i).kind ≡ true
element_seen text c x i j (without_default is) h = target_seen text c x [] i j is (subst (λ ts. SpelledBetween text i ts j) (sym (append_none (tokens_of_expression written x))) h)
element_seen text c x i j (with_default {target = y} {sign = t} {x = v} is sign good) h =
    target_seen text c y (t ∷ tokens_of_expression written v) i j is (subst (λ ts. SpelledBetween text i ts j) (tokens_Assignment written y t v) h)

-- ---- places

pub hole_is : is_hole el.Hole ≡ true
unfolding is_hole
hole_is = ap hole_layer (ap out-Element (sym el.rolls-Hole) ∙ out-roll-Element (Element-F.Hole))

pub value_no_hole : (x : Expression) → is_hole (el.Value x) ≡ false
unfolding is_hole
value_no_hole x = ap hole_layer (ap out-Element (sym (el.rolls-Value x)) ∙ out-roll-Element (Element-F.Value x))

pub spread_no_hole : (dots : Token) (x : Expression) → is_hole (el.Spread dots x) ≡ false
unfolding is_hole
spread_no_hole dots x = ap hole_layer (ap out-Element (sym (el.rolls-Spread dots x)) ∙ out-roll-Element (Element-F.Spread dots x))

pub shorthand_no_hole : (name : Token) → is_hole (el.Shorthand name) ≡ false
unfolding is_hole
shorthand_no_hole name = ap hole_layer (ap out-Element (sym (el.rolls-Shorthand name)) ∙ out-roll-Element (Element-F.Shorthand name))

pub initialized_no_hole : (name sign : Token) (x : Expression) → is_hole (el.Initialized name sign x) ≡ false
unfolding is_hole
initialized_no_hole name sign x = ap hole_layer (ap out-Element (sym (el.rolls-Initialized name sign x)) ∙ out-roll-Element (Element-F.Initialized name sign x))

pub property_no_hole : (name : PropertyName) (colon : Token) (x : Expression) → is_hole (el.Property name colon x) ≡ false
unfolding is_hole
property_no_hole name colon x = ap hole_layer (ap out-Element (sym (el.rolls-Property name colon x)) ∙ out-roll-Element (Element-F.Property name colon x))

hole_no_rest : is_rest el.Hole ≡ false
unfolding is_rest
hole_no_rest = ap rest_layer (ap out-Element (sym el.rolls-Hole) ∙ out-roll-Element (Element-F.Hole))

value_no_rest : (x : Expression) → is_rest (el.Value x) ≡ false
unfolding is_rest
value_no_rest x = ap rest_layer (ap out-Element (sym (el.rolls-Value x)) ∙ out-roll-Element (Element-F.Value x))

spread_is_rest : (dots : Token) (x : Expression) → is_rest (el.Spread dots x) ≡ true
unfolding is_rest
spread_is_rest dots x = ap rest_layer (ap out-Element (sym (el.rolls-Spread dots x)) ∙ out-roll-Element (Element-F.Spread dots x))

shorthand_no_rest : (name : Token) → is_rest (el.Shorthand name) ≡ false
unfolding is_rest
shorthand_no_rest name = ap rest_layer (ap out-Element (sym (el.rolls-Shorthand name)) ∙ out-roll-Element (Element-F.Shorthand name))

initialized_no_rest : (name sign : Token) (x : Expression) → is_rest (el.Initialized name sign x) ≡ false
unfolding is_rest
initialized_no_rest name sign x = ap rest_layer (ap out-Element (sym (el.rolls-Initialized name sign x)) ∙ out-roll-Element (Element-F.Initialized name sign x))

property_no_rest : (name : PropertyName) (colon : Token) (x : Expression) → is_rest (el.Property name colon x) ≡ false
unfolding is_rest
property_no_rest name colon x = ap rest_layer (ap out-Element (sym (el.rolls-Property name colon x)) ∙ out-roll-Element (Element-F.Property name colon x))

-- an element in its place, where a rest is the last
abbrev rest_fits : Bool → Element → Bool
rest_fits last x = not (is_rest x) || last

abbrev binding_fits : Form → Bool → Element → Bool
binding_fits form last x = fits_place form last x && rest_fits last x

pub full_fits : (form : Form) (last : Bool) (x : Element) → is_hole x ≡ false → fits_place form last x ≡ true
full_fits form last x h = ap (λ b. not b || takes_hole form last) h

pub hole_fits : (form : Form) (last : Bool) → fits_place form last el.Hole ≡ takes_hole form last
hole_fits form last = ap (λ b. not b || takes_hole form last) hole_is

no_rest_fits : (last : Bool) (x : Element) → is_rest x ≡ false → rest_fits last x ≡ true
no_rest_fits last x h = ap (λ b. not b || last) h

swap_and : (a b c d : Bool) → ((a && b) && (c && d)) ≡ ((a && c) && (b && d))
swap_and true true c d = refl
swap_and true false true d = refl
swap_and true false false d = refl
swap_and false b c d = refl

rests_placed : (form : Form) (os : List NextElement) → (all_fit form os && rests_last os) ≡ all_placed (binding_fits form) os
rests_placed form [] = refl
rests_placed form (o ∷ os) =
    swap_and (fits_place form (is_empty os) (out-NextElement o).element) (all_fit form os) (rest_fits (is_empty os) (out-NextElement o).element) (rests_last os)
    ∙ ap (λ b. binding_fits form (is_empty os) (out-NextElement o).element && b) (rests_placed form os)

bindings_placed : (form : Form) (p : Element × List NextElement) → bindings_fit form p ≡ placed (binding_fits form) p
bindings_placed form p =
    swap_and (fits_place form (is_empty p.1) p.0) (all_fit form p.1) (rest_fits (is_empty p.1) p.0) (rests_last p.1)
    ∙ ap (λ b. binding_fits form (is_empty p.1) p.0 && b) (rests_placed form p.1)

fits_placed : (form : Form) (os : List NextElement) → all_fit form os ≡ all_placed (fits_place form) os
fits_placed form [] = refl
fits_placed form (o ∷ os) = ap (λ b. fits_place form (is_empty os) (out-NextElement o).element && b) (fits_placed form os)

pub lists_placed : (form : Form) (p : Element × List NextElement) → list_fits form p ≡ placed (fits_place form) p
lists_placed form p = ap (λ b. fits_place form (is_empty p.1) p.0 && b) (fits_placed form p.1)

pub comma_ends_element : (x : Element) (t : Token) → is_comma t.kind ≡ true → ends_element t ≡ true
comma_ends_element x t h = ap (λ b. b || is_closer t.kind) h

pub closer_ends_element : (x : Element) (t : Token) → is_closer t.kind ≡ true → ends_element t ≡ true
closer_ends_element x t h = or_right (is_comma t.kind) _ h

no_value : (form : Form) → takes_binding form ≡ true → takes_value form ≡ true → ⊥
no_value f.Parameters h g = cc
no_value f.ArrayPattern h g = cc
no_value _ h g = cc

no_spread : (form : Form) → takes_binding form ≡ true → takes_spread form ≡ true → ⊥
no_spread f.Parameters h g = cc
no_spread f.ArrayPattern h g = cc
no_spread _ h g = cc

dots_only : (t : Token) → t.kind ≡ k.Ellipsis → is_dots t.kind ≡ true
dots_only t h = ap is_dots h

module _ (text : Text) (values : Context → ℕ → Reader (Node Expression)) (c : Context) (n : ℕ) (below : Reader (Node Expression)) (value_rule : Rule text (expressions (IsAssignment text (inside c))) n n (λ _. ends_element) (values (inside c) n))
    (target_rule : Rule text (targets text c) n n (λ _ _. true) below) where
  abbrev Values : Syntax Expression
  Values = expressions (IsAssignment text (inside c))

  -- ---- a target and its default

  abbrev Defaulted : Syntax (Expression × (Token × Expression))
  Defaulted = pairs (targets text c) (pairs (tokens k.Assign) Values)

  abbrev IsDefaulted : Expression → Type 0
  IsDefaulted = Made Defaulted make_assignment

  one_above : (a b : ℕ) → max a b + 1 ≡ max a (max 0 b) + 1
  one_above a b = omega arith

  default_rule : Rule text (expressions IsDefaulted) n (suc n) (λ _. ends_element) (read.with_default text values c n below)
  unfolding read.with_default
  default_rule =
      above_rule text Defaulted (tokens_of_expression written) depth_of_expression n n (λ _. ends_element) (λ _. ends_element) make_assignment (both below (both (token text k.Assign) (values (inside c) n)))
      (free_rule text (targets text c) (pairs (tokens k.Assign) Values) n (λ _. ends_element) below (both (token text k.Assign) (values (inside c) n)) target_rule
      (lead_rule text Values n k.Assign (λ _. ends_element) (values (inside c) n) refl value_rule))
      (omega arith) (λ p. tokens_Assignment written p.0 p.1.0 p.1.1) (λ p. levels_Assignment p.0 p.1.0 p.1.1 ∙ one_above (depth_of_expression p.0) (depth_of_expression p.1.1)) (λ p t h. h)

  abbrev signs : Token → Bool
  signs t = is_assign t.kind

  default_seen : (i : ℕ) (x : Node Expression) (j : ℕ) → Stands text (expressions IsDefaulted) n x i j → reads_before text signs below i ≡ true
  default_seen i x j s =
      let made = s.good in
      let y = made.0.0 in
      let t = made.0.1.0 in
      let v = made.0.1.1 in
      let spelled = subst (λ ts. SpelledBetween text i ts j) (ap (tokens_of_expression written) made.1 ∙ tokens_Assignment written y t v) s.spelled in
      let cut = spelled_split text i (tokens_of_expression written y) (t ∷ tokens_of_expression written v) j spelled in
      let deep : x.levels ≡ max (depth_of_expression y) (depth_of_expression v) + 1 = sym s.levels ∙ ap depth_of_expression made.1 ∙ levels_Assignment y t v in
      let fits = s.fits in
      let stands : Stands text (targets text c) n (node y (depth_of_expression y)) i cut.0 = record { good = made.2.0; levels = refl; fits = omega (arith, deep, fits); spelled = cut.1 } in
      sees_before text signs below i (node y (depth_of_expression y)) cut.0 (target_rule.complete i (node y (depth_of_expression y)) cut.0 stands (omega (arith, deep, fits)) refl)
      ∙ ap signs (sees_kind text cut.0 t _ j k.Assign cut.2 made.2.1.0 refl) ∙ assign_is t.kind made.2.1.0

  target_no_sign : (i : ℕ) (x : Node Expression) (j : ℕ) → Stands text (targets text c) n x i j → x.levels < n → ends_element (behind text j) ≡ true → reads_before text signs below i ≡ false
  target_no_sign i x j s low stop = sees_before text signs below i x j (target_rule.complete i x j s low refl) ∙ ends_no_sign (behind text j).kind stop

  abbrev IsPlain : Expression → Type 0
  IsPlain x = IsTarget text c x

  element_there : (x : Expression) → IsDefaulted x ⊎ IsPlain x → IsBindingElement text c x
  element_there x (inl h) = subst (IsBindingElement text c) (sym h.1) (with_default h.2.0 h.2.1.0 h.2.1.1)
  element_there x (inr h) = without_default h

  element_back : (x : Expression) → IsBindingElement text c x → IsDefaulted x ⊎ IsPlain x
  element_back x (without_default h) = inr h
  element_back x (with_default {target = y} {sign = t} {x = v} h1 h2 h3) = inl ((y, (t, v)), refl, (h1, (h2, h3)))

  abbrev BindingElements : Syntax Expression
  BindingElements = expressions (IsBindingElement text c)

  element_rule : Rule text BindingElements n n (λ _. ends_element) (read.binding_element text values c n below)
  unfolding read.binding_element
  element_rule =
      same_rule text (expressions (λ x. IsDefaulted x ⊎ IsPlain x)) BindingElements n n (λ _. ends_element) (λ _. ends_element) (fork (reads_before text signs below) (read.with_default text values c n below) below)
      (fork_rule text BindingElements IsDefaulted IsPlain n n (λ _. ends_element) (reads_before text signs below) (read.with_default text values c n below) below
      (lower_rule text (expressions IsDefaulted) n (λ _. ends_element) (read.with_default text values c n below) default_rule)
      (fewer_rule text (targets text c) n n (λ _ _. true) (λ _. ends_element) below target_rule (λ x t good h. refl))
      (λ i x j s low stop. default_seen i x j s) (λ i x j s low stop. target_no_sign i x j s low stop))
      refl refl element_there element_back (λ x t good h. h)

  -- ---- elements of parameters and of patterns in brackets

  abbrev IsRest : Element → Type 0
  IsRest = Made (pairs (tokens k.Ellipsis) (targets text c)) make_spread

  abbrev IsValue : Element → Type 0
  IsValue = Made BindingElements el.Value

  abbrev IsSlot : Element → Type 0
  IsSlot x = (IsRest x ⊎ IsValue x) ⊎ (x ≡ el.Hole)

  rest_rule : Rule text (elements_in IsRest) n n (λ _. ends_element) (read.rest_element text values c n below)
  unfolding read.rest_element
  rest_rule =
      plain_rule text (pairs (tokens k.Ellipsis) (targets text c)) (tokens_of_element written) depth_of_element n n (λ _ _. true) (λ _. ends_element) make_spread (both (token text k.Ellipsis) below)
      (lead_rule text (targets text c) n k.Ellipsis (λ _ _. true) below refl target_rule)
      (λ p. tokens_Spread written p.0 p.1) (λ p. levels_Spread p.0 p.1 ∙ max_zero (depth_of_expression p.1)) (λ p t h. refl)

  value_slot_rule : Rule text (elements_in IsValue) n n (λ _. ends_element) (made el.Value 0 (read.binding_element text values c n below))
  value_slot_rule = plain_rule text BindingElements (tokens_of_element written) depth_of_element n n (λ _. ends_element) (λ _. ends_element) el.Value (read.binding_element text values c n below) element_rule (λ x. tokens_Value written x) levels_Value (λ x t h. h)

  rest_seen : (x : Element) (i j : ℕ) → IsRest x → SpelledBetween text i (tokens_of_element written x) j → (behind text i).kind ≡ k.Ellipsis
  rest_seen x i j good h =
      let spelled = subst (λ ts. SpelledBetween text i ts j) (ap (tokens_of_element written) good.1 ∙ tokens_Spread written good.0.0 good.0.1) h in
      ap (λ (u : Token). u.kind) (sees_kind text i good.0.0 _ j k.Ellipsis spelled good.2.0 refl) ∙ good.2.0

  value_seen : (x : Element) (i j : ℕ) → IsValue x → SpelledBetween text i (tokens_of_element written x) j → begins_target (behind text i).kind ≡ true
  value_seen x i j good h = element_seen text c good.0 i j good.2 (subst (λ ts. SpelledBetween text i ts j) (ap (tokens_of_element written) good.1 ∙ tokens_Value written good.0) h)

  full_seen : (x : Element) (i j : ℕ) → IsRest x ⊎ IsValue x → SpelledBetween text i (tokens_of_element written x) j → begins_element (behind text i) ≡ true
  full_seen x i j (inl good) h = ap (λ kind. not (is_comma kind || is_closer kind)) (rest_seen x i j good h)
  full_seen x i j (inr good) h = target_begins (behind text i).kind (value_seen x i j good h)

  nothing_seen : (x : Element) (i j : ℕ) → x ≡ el.Hole → SpelledBetween text i (tokens_of_element written x) j → ends_element (behind text j) ≡ true → begins_element (behind text i) ≡ false
  nothing_seen x i j e h stop =
      let here : i ≡ j = subst (λ ts. SpelledBetween text i ts j) (ap (tokens_of_element written) e ∙ tokens_Hole written) h in
      ap (λ m. begins_element (behind text m)) here ∙ ap not stop

  slot_rule : Rule text (elements_in IsSlot) n n (λ _. ends_element) (read.binding_slot text values c n below)
  unfolding read.binding_slot
  slot_rule =
      choice_rule text (elements_in IsSlot) (λ x. IsRest x ⊎ IsValue x) (λ x. x ≡ el.Hole) n n (λ _. ends_element) begins_element
      (choice text (λ t. is_dots t.kind) (read.rest_element text values c n below) (made el.Value 0 (read.binding_element text values c n below))) (empty el.Hole)
      (choice_rule text (elements_in IsSlot) IsRest IsValue n n (λ _. ends_element) (λ t. is_dots t.kind) (read.rest_element text values c n below) (made el.Value 0 (read.binding_element text values c n below)) rest_rule value_slot_rule
      (λ x i j good h. ap is_dots (rest_seen x i j good h)) (λ x i j good h stop. target_no_dots (behind text i).kind (value_seen x i j good h)))
      (empty_rule text (tokens_of_element written) depth_of_element n n (λ _. ends_element) el.Hole (tokens_Hole written) levels_Hole)
      full_seen nothing_seen

  slot_there : (form : Form) → takes_binding form ≡ true → (last : Bool) (x : Element) → IsSlot x → binding_fits form last x ≡ true → IsElement text form last c x
  slot_there form takes true x (inl (inl h)) fits = subst (IsElement text form true c) (sym h.1) (rest_element takes h.2.0 h.2.1)
  slot_there form takes false x (inl (inl h)) fits =
      let rests = ap is_rest h.1 ∙ spread_is_rest h.0.0 h.0.1 in
      let bad : false ≡ true = sym (ap (λ b. not b || false) rests) ∙ right_of (fits_place form false x) _ fits in
      cc
  slot_there form takes last x (inl (inr h)) fits = subst (IsElement text form last c) (sym h.1) (binding_element takes h.2)
  slot_there form takes last x (inr h) fits = subst (IsElement text form last c) (sym h) (hole (sym (hole_fits form last) ∙ subst (λ y. fits_place form last y ≡ true) h (left_of (fits_place form last x) _ fits)))

  slot_back : (form : Form) → takes_binding form ≡ true → (last : Bool) (x : Element) → IsElement text form last c x → IsSlot x × (binding_fits form last x ≡ true)
  slot_back form takes last x (hole h) = (inr refl, and_of _ _ (hole_fits form last ∙ h) (no_rest_fits last el.Hole hole_no_rest))
  slot_back form takes last x (IsElement.value h good) = absurd (no_value form takes h)
  slot_back form takes last x (IsElement.spread h dots good) = absurd (no_spread form takes h)
  slot_back form takes last x (binding_element {x = y} h good) = (inl (inr (y, refl, good)), and_of _ _ (full_fits form last (el.Value y) (value_no_hole y)) (no_rest_fits last (el.Value y) (value_no_rest y)))
  slot_back form takes last x (rest_element {dots = t} {x = y} h dots good) = (inl (inl ((t, y), refl, (dots, good))), and_of _ _ (full_fits form true (el.Spread t y) (spread_no_hole t y)) (or_right (not (is_rest (el.Spread t y))) true refl))
  slot_back form takes last x (shorthand h) = cc
  slot_back form takes last x (cover_initialized_name h1 h2 h3) = cc
  slot_back form takes last x (property h1 h2 h3) = cc
  slot_back form takes last x (method_property h) = cc
  slot_back form takes last x (single_name h) = cc
  slot_back form takes last x (single_name_initialized h1 h2 h3) = cc
  slot_back form takes last x (binding_property h1 h2 h3) = cc
  slot_back form takes last x (rest_property h1 h2) = cc
  slot_back form takes last x (binding h) = cc

  pub brackets_rule : (form : Form) → takes_binding form ≡ true → Rule text (lists text form c) n n (λ _ _. true) (bracketed_of text (read.binding_slot text values c n below) form (bindings_fit form))
  brackets_rule form takes =
      bracketed_rule text form c n (read.binding_slot text values c n below) IsSlot (binding_fits form) (bindings_fit form) (λ _. ends_element) (bindings_placed form) slot_rule comma_ends_element (slot_there form takes) (slot_back form takes) closer_ends_element

  -- ---- elements of patterns in braces

  abbrev bounds : Token → Bool
  bounds t = is_binding t.kind

  abbrev IsRestName : Element → Type 0
  IsRestName = Made (pairs (tokens k.Ellipsis) (tokens_in bounds)) make_rest

  abbrev IsSingle : Element → Type 0
  IsSingle = Made (tokens_in bounds) el.Shorthand

  abbrev Initialized_parts : Syntax (Token × (Token × Expression))
  Initialized_parts = pairs (tokens_in bounds) (pairs (tokens k.Assign) Values)

  abbrev IsInitialized : Element → Type 0
  IsInitialized = Made Initialized_parts make_initialized

  abbrev Property_parts : Syntax (PropertyName × (Token × Expression))
  Property_parts = pairs (names text c) (pairs (tokens k.Colon) BindingElements)

  abbrev IsBound : Element → Type 0
  IsBound = Made Property_parts make_property

  abbrev IsFull : Element → Type 0
  IsFull x = IsRestName x ⊎ ((IsInitialized x ⊎ IsSingle x) ⊎ IsBound x)

  abbrev IsField : Element → Type 0
  IsField x = IsFull x ⊎ (x ≡ el.Hole)

  bounds_agree : (t : Token) → bounds t ≡ true → agrees goal.Div t.kind ≡ true
  bounds_agree t h = binding_agrees t.kind h

  rest_name_rule : Rule text (elements_in IsRestName) n n (λ _. ends_element) (read.rest_property text)
  unfolding read.rest_property
  rest_name_rule =
      plain_rule text (pairs (tokens k.Ellipsis) (tokens_in bounds)) (tokens_of_element written) depth_of_element n n (λ _ _. true) (λ _. ends_element) make_rest (both (token text k.Ellipsis) (token_in text goal.Div bounds))
      (lead_rule text (tokens_in bounds) n k.Ellipsis (λ _ _. true) (token_in text goal.Div bounds) refl (token_in_rule text n n goal.Div bounds bounds_agree))
      (λ p. tokens_Spread written p.0 (e.Primary p.1) ∙ ap (λ ts. p.0 ∷ ts) (tokens_Primary written p.1)) (λ p. levels_Spread p.0 (e.Primary p.1) ∙ levels_Primary p.1) (λ p t h. refl)

  single_rule : Rule text (elements_in IsSingle) n n (λ _. ends_element) (read.single_name text)
  unfolding read.single_name
  single_rule =
      plain_rule text (tokens_in bounds) (tokens_of_element written) depth_of_element n n (λ _ _. true) (λ _. ends_element) el.Shorthand (token_in text goal.Div bounds) (token_in_rule text n n goal.Div bounds bounds_agree)
      (λ t. tokens_Shorthand written t) levels_Shorthand (λ p t h. refl)

  two_zeros : (m : ℕ) → m ≡ max 0 (max 0 m)
  two_zeros m = omega arith

  initialized_rule : Rule text (elements_in IsInitialized) n n (λ _. ends_element) (read.initialized_name text values c n below)
  unfolding read.initialized_name
  initialized_rule =
      plain_rule text Initialized_parts (tokens_of_element written) depth_of_element n n (λ _. ends_element) (λ _. ends_element) make_initialized (both (token_in text goal.Div bounds) (both (token text k.Assign) (values (inside c) n)))
      (lead_in_rule text (pairs (tokens k.Assign) Values) n bounds (λ _. ends_element) (both (token text k.Assign) (values (inside c) n)) bounds_agree
      (lead_rule text Values n k.Assign (λ _. ends_element) (values (inside c) n) refl value_rule))
      (λ p. tokens_Initialized written p.0 p.1.0 p.1.1) (λ p. levels_Initialized p.0 p.1.0 p.1.1 ∙ two_zeros (depth_of_expression p.1.1)) (λ p t h. h)

  right_zero : (a b : ℕ) → max a b ≡ max a (max 0 b)
  right_zero a b = omega arith

  bound_rule : Rule text (elements_in IsBound) n n (λ _. ends_element) (read.binding_property text values c n below)
  unfolding read.binding_property
  bound_rule =
      plain_rule text Property_parts (tokens_of_element written) depth_of_element n n (λ _. ends_element) (λ _. ends_element) make_property (both (property_name text values c n) (both (token text k.Colon) (read.binding_element text values c n below)))
      (free_rule text (names text c) (pairs (tokens k.Colon) BindingElements) n (λ _. ends_element) (property_name text values c n) (both (token text k.Colon) (read.binding_element text values c n below)) (name_rule text values c n value_rule)
      (lead_rule text BindingElements n k.Colon (λ _. ends_element) (read.binding_element text values c n below) refl element_rule))
      (λ p. tokens_Property written p.0 p.1.0 p.1.1) (λ p. levels_Property p.0 p.1.0 p.1.1 ∙ right_zero (depth_of_property_name p.0) (depth_of_expression p.1.1)) (λ p t h. h)

  -- what is seen of each

  rest_name_seen : (x : Element) (i j : ℕ) → IsRestName x → SpelledBetween text i (tokens_of_element written x) j → (behind text i).kind ≡ k.Ellipsis
  rest_name_seen x i j good h =
      let spelled = subst (λ ts. SpelledBetween text i ts j) (ap (tokens_of_element written) good.1 ∙ tokens_Spread written good.0.0 (e.Primary good.0.1)) h in
      ap (λ (u : Token). u.kind) (sees_kind text i good.0.0 _ j k.Ellipsis spelled good.2.0 refl) ∙ good.2.0

  -- a name, and what stands behind it
  abbrev Shows : ℕ → Bool → Type 0
  Shows i sign = (is_binding (behind text i).kind ≡ true) × (stands_alone (second text i) ≡ true) × (is_assign (second text i).kind ≡ sign)

  single_seen : (x : Element) (i j : ℕ) → IsSingle x → SpelledBetween text i (tokens_of_element written x) j → ends_element (behind text j) ≡ true → Shows i false
  single_seen x i j good h stop =
      let t = good.0 in
      let spelled = subst (λ ts. SpelledBetween text i ts j) (ap (tokens_of_element written) good.1 ∙ tokens_Shorthand written t) h in
      let here = sees text i t [] j spelled (binding_agrees t.kind good.2) in
      let next : second text i ≡ behind text j = ap (λ (u : Token). behind text u.end) here ∙ ap (behind text) spelled.2 in
      (ap bounds here ∙ good.2, ap stands_alone next ∙ ap (λ b. b || is_assign (behind text j).kind) stop, ap signs next ∙ ends_no_sign (behind text j).kind stop)

  initialized_seen : (x : Element) (i j : ℕ) → IsInitialized x → SpelledBetween text i (tokens_of_element written x) j → Shows i true
  initialized_seen x i j good h =
      let t = good.0.0 in
      let sign = good.0.1.0 in
      let spelled = subst (λ ts. SpelledBetween text i ts j) (ap (tokens_of_element written) good.1 ∙ tokens_Initialized written t sign good.0.1.1) h in
      let here = sees text i t (sign ∷ tokens_of_expression written good.0.1.1) j spelled (binding_agrees t.kind good.2.0) in
      let next : second text i ≡ sign = ap (λ (u : Token). behind text u.end) here ∙ sees_kind text t.end sign _ j k.Assign spelled.2 good.2.1.0 refl in
      let is = ap signs next ∙ assign_is sign.kind good.2.1.0 in
      (ap bounds here ∙ good.2.0, or_right (ends_element (second text i)) _ is, is)

  bound_before : (x : Element) (i j : ℕ) (good : IsBound x) → SpelledBetween text i (tokens_of_element written x) j → Named_before text good.0.1.0 i
  bound_before x i j good h =
      let sign = good.0.1.0 in
      let spelled = subst (λ ts. SpelledBetween text i ts j) (ap (tokens_of_element written) good.1 ∙ tokens_Property written good.0.0 sign good.0.1.1) h in
      name_seen text c good.0.0 sign _ i j good.2.0 (ap (agrees goal.Div) good.2.1.0) spelled

  bound_shows : (u : Token) (i : ℕ) → u.kind ≡ k.Colon → Named_before text u i → (begins_element (behind text i) ≡ true) × (is_dots (behind text i).kind ≡ false) × (at_single_name text i ≡ false)
  unfolding at_single_name
  bound_shows u i e (inl h) =
      let apart : stands_alone (second text i) ≡ false = ap stands_alone h.1 ∙ ap (λ kind. (is_comma kind || is_closer kind) || is_assign kind) e in
      (word_begins (behind text i).kind h.0, word_no_dots (behind text i).kind h.0, and_false (is_binding (behind text i).kind) _ apart)
  bound_shows u i e (inr h) =
      (ap (λ kind. not (is_comma kind || is_closer kind)) h, ap is_dots h, ap (λ kind. is_binding kind && stands_alone (second text i)) h)

  bound_seen : (x : Element) (i j : ℕ) → IsBound x → SpelledBetween text i (tokens_of_element written x) j → (begins_element (behind text i) ≡ true) × (is_dots (behind text i).kind ≡ false) × (at_single_name text i ≡ false)
  bound_seen x i j good h = bound_shows good.0.1.0 i good.2.1.0 (bound_before x i j good h)

  alone_seen : (i : ℕ) (sign : Bool) → Shows i sign → at_single_name text i ≡ true
  unfolding at_single_name
  alone_seen i sign h = and_of _ _ h.0 h.1

  shown : (x : Element) (i j : ℕ) → IsInitialized x ⊎ IsSingle x → SpelledBetween text i (tokens_of_element written x) j → ends_element (behind text j) ≡ true → (is_binding (behind text i).kind ≡ true) × (at_single_name text i ≡ true)
  shown x i j (inl good) h stop = let s = initialized_seen x i j good h in (s.0, alone_seen i true s)
  shown x i j (inr good) h stop = let s = single_seen x i j good h stop in (s.0, alone_seen i false s)

  behind_dots : (x : Element) (i j : ℕ) → (IsInitialized x ⊎ IsSingle x) ⊎ IsBound x → SpelledBetween text i (tokens_of_element written x) j → ends_element (behind text j) ≡ true → (begins_element (behind text i) ≡ true) × (is_dots (behind text i).kind ≡ false)
  behind_dots x i j (inl good) h stop = let s = shown x i j good h stop in (binding_word (behind text i).kind s.0, binding_no_dots (behind text i).kind s.0)
  behind_dots x i j (inr good) h stop = let s = bound_seen x i j good h in (s.0, s.1)

  field_begins : (x : Element) (i j : ℕ) → IsFull x → SpelledBetween text i (tokens_of_element written x) j → ends_element (behind text j) ≡ true → begins_element (behind text i) ≡ true
  field_begins x i j (inl good) h stop = ap (λ kind. not (is_comma kind || is_closer kind)) (rest_name_seen x i j good h)
  field_begins x i j (inr good) h stop = (behind_dots x i j good h stop).0

  abbrev dots : Token → Bool
  dots t = is_dots t.kind

  -- the readers of the same sorts, from the innermost
  abbrev alone : Reader (Node Element)
  alone = fork (before_sign text) (read.initialized_name text values c n below) (read.single_name text)

  abbrev named : Reader (Node Element)
  named = fork (at_single_name text) alone (read.binding_property text values c n below)

  abbrev full : Reader (Node Element)
  full = choice text dots (read.rest_property text) named

  alone_rule : Rule text (elements_in (λ x. IsInitialized x ⊎ IsSingle x)) n n (λ _. ends_element) alone
  alone_rule =
      fork_rule text (elements_in IsFull) IsInitialized IsSingle n n (λ _. ends_element) (before_sign text) (read.initialized_name text values c n below) (read.single_name text) initialized_rule single_rule
      (λ i x j s low stop. (initialized_seen x.tree i j s.good s.spelled).2) (λ i x j s low stop. (single_seen x.tree i j s.good s.spelled stop).2)

  named_rule : Rule text (elements_in (λ x. (IsInitialized x ⊎ IsSingle x) ⊎ IsBound x)) n n (λ _. ends_element) named
  named_rule =
      fork_rule text (elements_in IsFull) (λ x. IsInitialized x ⊎ IsSingle x) IsBound n n (λ _. ends_element) (at_single_name text) alone (read.binding_property text values c n below) alone_rule bound_rule
      (λ i x j s low stop. (shown x.tree i j s.good s.spelled stop).1) (λ i x j s low stop. (bound_seen x.tree i j s.good s.spelled).2)

  full_rule : Rule text (elements_in IsFull) n n (λ _. ends_element) full
  full_rule =
      choice_rule text (elements_in IsFull) IsRestName (λ x. (IsInitialized x ⊎ IsSingle x) ⊎ IsBound x) n n (λ _. ends_element) dots (read.rest_property text) named rest_name_rule named_rule
      (λ x i j good h. ap is_dots (rest_name_seen x i j good h)) (λ x i j good h stop. (behind_dots x i j good h stop).1)

  field_rule : Rule text (elements_in IsField) n n (λ _. ends_element) (read.property_slot text values c n below)
  unfolding read.property_slot
  field_rule =
      fork_rule text (elements_in IsField) IsFull (λ x. x ≡ el.Hole) n n (λ _. ends_element) (λ i. begins_element (behind text i)) full (empty el.Hole) full_rule
      (empty_rule text (tokens_of_element written) depth_of_element n n (λ _. ends_element) el.Hole (tokens_Hole written) levels_Hole)
      (λ i x j s low stop. field_begins x.tree i j s.good s.spelled stop) (λ i x j s low stop. nothing_seen x.tree i j s.good s.spelled stop)

  field_there : (last : Bool) (x : Element) → IsField x → binding_fits f.ObjectPattern last x ≡ true → IsElement text f.ObjectPattern last c x
  field_there true x (inl (inl h)) fits = subst (IsElement text f.ObjectPattern true c) (sym h.1) (rest_property h.2.0 h.2.1)
  field_there false x (inl (inl h)) fits =
      let rests = ap is_rest h.1 ∙ spread_is_rest h.0.0 (e.Primary h.0.1) in
      let bad : false ≡ true = sym (ap (λ b. not b || false) rests) ∙ right_of (fits_place f.ObjectPattern false x) _ fits in
      cc
  field_there last x (inl (inr (inl (inl h)))) fits = subst (IsElement text f.ObjectPattern last c) (sym h.1) (single_name_initialized h.2.0 h.2.1.0 h.2.1.1)
  field_there last x (inl (inr (inl (inr h)))) fits = subst (IsElement text f.ObjectPattern last c) (sym h.1) (single_name h.2)
  field_there last x (inl (inr (inr h))) fits = subst (IsElement text f.ObjectPattern last c) (sym h.1) (binding_property h.2.0 h.2.1.0 h.2.1.1)
  field_there last x (inr h) fits = subst (IsElement text f.ObjectPattern last c) (sym h) (hole (sym (hole_fits f.ObjectPattern last) ∙ subst (λ y. fits_place f.ObjectPattern last y ≡ true) h (left_of (fits_place f.ObjectPattern last x) _ fits)))

  field_back : (last : Bool) (x : Element) → IsElement text f.ObjectPattern last c x → IsField x × (binding_fits f.ObjectPattern last x ≡ true)
  field_back last x (hole h) = (inr refl, and_of _ _ (hole_fits f.ObjectPattern last ∙ h) (no_rest_fits last el.Hole hole_no_rest))
  field_back last x (IsElement.value h good) = cc
  field_back last x (IsElement.spread h dots good) = cc
  field_back last x (binding_element h good) = cc
  field_back last x (rest_element h dots good) = cc
  field_back last x (single_name {name = t} h) = (inl (inr (inl (inr (t, refl, h)))), and_of _ _ (full_fits f.ObjectPattern last (el.Shorthand t) (shorthand_no_hole t)) (no_rest_fits last (el.Shorthand t) (shorthand_no_rest t)))
  field_back last x (single_name_initialized {name = t} {sign = u} {x = y} h1 h2 h3) =
      (inl (inr (inl (inl ((t, (u, y)), refl, (h1, (h2, h3)))))), and_of _ _ (full_fits f.ObjectPattern last (el.Initialized t u y) (initialized_no_hole t u y)) (no_rest_fits last (el.Initialized t u y) (initialized_no_rest t u y)))
  field_back last x (binding_property {name = m} {colon = u} {x = y} h1 h2 h3) =
      (inl (inr (inr ((m, (u, y)), refl, (h1, (h2, h3))))), and_of _ _ (full_fits f.ObjectPattern last (el.Property m u y) (property_no_hole m u y)) (no_rest_fits last (el.Property m u y) (property_no_rest m u y)))
  field_back last x (rest_property {dots = t} {name = u} h1 h2) =
      (inl (inl ((t, u), refl, (h1, h2))), and_of _ _ (full_fits f.ObjectPattern true (el.Spread t (e.Primary u)) (spread_no_hole t (e.Primary u))) (or_right (not (is_rest (el.Spread t (e.Primary u)))) true refl))

  braces_rule : Rule text (lists text f.ObjectPattern c) n n (λ _ _. true) (bracketed_of text (read.property_slot text values c n below) f.ObjectPattern (bindings_fit f.ObjectPattern))
  braces_rule =
      bracketed_rule text f.ObjectPattern c n (read.property_slot text values c n below) IsField (binding_fits f.ObjectPattern) (bindings_fit f.ObjectPattern) (λ _. ends_element) (bindings_placed f.ObjectPattern) field_rule comma_ends_element field_there field_back closer_ends_element

  -- ---- a name or a pattern

  abbrev IsName : Expression → Type 0
  IsName = Made (tokens_in bounds) e.Primary

  abbrev IsArray : Expression → Type 0
  IsArray = Made (lists text f.ArrayPattern c) e.ArrayLiteral

  abbrev IsObject : Expression → Type 0
  IsObject = Made (lists text f.ObjectPattern c) e.ObjectLiteral

  abbrev array_reader : Reader (Node Bracketed)
  array_reader = bracketed_of text (read.binding_slot text values c n below) f.ArrayPattern (bindings_fit f.ArrayPattern)

  abbrev object_reader : Reader (Node Bracketed)
  object_reader = bracketed_of text (read.property_slot text values c n below) f.ObjectPattern (bindings_fit f.ObjectPattern)

  array_rule : Rule text (expressions IsArray) n (suc n) (λ _ _. true) (above n e.ArrayLiteral array_reader)
  array_rule =
      above_rule text (lists text f.ArrayPattern c) (tokens_of_expression written) depth_of_expression n n (λ _ _. true) (λ _ _. true) e.ArrayLiteral array_reader (brackets_rule f.ArrayPattern refl) (omega arith)
      (λ x. tokens_ArrayLiteral written x) levels_ArrayLiteral (λ x t h. refl)

  object_rule : Rule text (expressions IsObject) n (suc n) (λ _ _. true) (above n e.ObjectLiteral object_reader)
  object_rule =
      above_rule text (lists text f.ObjectPattern c) (tokens_of_expression written) depth_of_expression n n (λ _ _. true) (λ _ _. true) e.ObjectLiteral object_reader braces_rule (omega arith)
      (λ x. tokens_ObjectLiteral written x) levels_ObjectLiteral (λ x t h. refl)

  bound_name_rule : (top : ℕ) → Rule text (expressions IsName) n top (λ _ _. true) (read.bound_name text)
  unfolding read.bound_name
  bound_name_rule top =
      plain_rule text (tokens_in bounds) (tokens_of_expression written) depth_of_expression n top (λ _ _. true) (λ _ _. true) e.Primary (token_in text goal.Div bounds) (token_in_rule text n top goal.Div bounds bounds_agree)
      (λ t. tokens_Primary written t) levels_Primary (λ x t h. refl)

  array_seen : (x : Expression) (i j : ℕ) → IsArray x → SpelledBetween text i (tokens_of_expression written x) j → (behind text i).kind ≡ k.LeftBracket
  array_seen x i j good h =
      bracketed_seen text f.ArrayPattern c good.0 [] i j good.2 (subst (λ ts. SpelledBetween text i ts j) (ap (tokens_of_expression written) good.1 ∙ tokens_ArrayLiteral written good.0 ∙ sym (append_none (tokens_of_bracketed written good.0))) h)

  object_seen : (x : Expression) (i j : ℕ) → IsObject x → SpelledBetween text i (tokens_of_expression written x) j → (behind text i).kind ≡ k.LeftBrace
  object_seen x i j good h =
      bracketed_seen text f.ObjectPattern c good.0 [] i j good.2 (subst (λ ts. SpelledBetween text i ts j) (ap (tokens_of_expression written) good.1 ∙ tokens_ObjectLiteral written good.0 ∙ sym (append_none (tokens_of_bracketed written good.0))) h)

  name_shows : (x : Expression) (i j : ℕ) → IsName x → SpelledBetween text i (tokens_of_expression written x) j → is_binding (behind text i).kind ≡ true
  name_shows x i j good h =
      let spelled = subst (λ ts. SpelledBetween text i ts j) (ap (tokens_of_expression written) good.1 ∙ tokens_Primary written good.0) h in
      ap bounds (sees text i good.0 [] j spelled (binding_agrees good.0.kind good.2)) ∙ good.2

  no_bracket : (x : Expression) (i j : ℕ) → IsObject x ⊎ IsName x → SpelledBetween text i (tokens_of_expression written x) j → is_left_bracket (behind text i).kind ≡ false
  no_bracket x i j (inl good) h = ap is_left_bracket (object_seen x i j good h)
  no_bracket x i j (inr good) h = binding_no_bracket (behind text i).kind (name_shows x i j good h)

  target_there : (x : Expression) → IsArray x ⊎ (IsObject x ⊎ IsName x) → IsTarget text c x
  target_there x (inl h) = subst (IsTarget text c) (sym h.1) (array_pattern h.2)
  target_there x (inr (inl h)) = subst (IsTarget text c) (sym h.1) (object_pattern h.2)
  target_there x (inr (inr h)) = subst (IsTarget text c) (sym h.1) (binding_identifier h.2)

  target_back : (x : Expression) → IsTarget text c x → IsArray x ⊎ (IsObject x ⊎ IsName x)
  target_back x (binding_identifier {t = t} h) = inr (inr (t, refl, h))
  target_back x (array_pattern {list = l} h) = inl (l, refl, h)
  target_back x (object_pattern {list = l} h) = inr (inl (l, refl, h))

  pub pattern_rule : Rule text (targets text c) n (suc n) (λ _ _. true) (read.pattern text values c n below)
  unfolding read.pattern
  pattern_rule =
      same_rule text (expressions (λ x. IsArray x ⊎ (IsObject x ⊎ IsName x))) (targets text c) n (suc n) (λ _ _. true) (λ _ _. true)
      (choice text (λ t. is_left_bracket t.kind) (above n e.ArrayLiteral array_reader) (choice text (λ t. is_left_brace t.kind) (above n e.ObjectLiteral object_reader) (read.bound_name text)))
      (choice_rule text (targets text c) IsArray (λ x. IsObject x ⊎ IsName x) n (suc n) (λ _ _. true) (λ t. is_left_bracket t.kind) (above n e.ArrayLiteral array_reader) (choice text (λ t. is_left_brace t.kind) (above n e.ObjectLiteral object_reader) (read.bound_name text)) array_rule
      (choice_rule text (targets text c) IsObject IsName n (suc n) (λ _ _. true) (λ t. is_left_brace t.kind) (above n e.ObjectLiteral object_reader) (read.bound_name text) object_rule (bound_name_rule (suc n))
      (λ x i j good h. ap is_left_brace (object_seen x i j good h)) (λ x i j good h stop. binding_no_brace (behind text i).kind (name_shows x i j good h)))
      (λ x i j good h. ap is_left_bracket (array_seen x i j good h)) (λ x i j good h stop. no_bracket x i j good h))
      refl refl target_there target_back (λ x t good h. refl)

-- ---- by the levels

module _ (text : Text) (values : Context → ℕ → Reader (Node Expression)) (c : Context) where
  pub below_rule : (n : ℕ) → ReadsWithin text n values → Rule text (targets text c) n n (λ _ _. true) (read.target_below text values c n)
  unfolding read.target_below read.target
  below_rule zero r = fail_rule text (targets text c) (λ _ _. true)
  below_rule (suc zero) r =
      raise_rule text (targets text c) 0 (λ _ _. true) (read.target text values c 0)
      (pattern_rule text values c 0 fail (r.rule (inside c) 0 (omega arith)) (fail_rule text (targets text c) (λ _ _. true)))
  below_rule (suc (suc n)) r =
      raise_rule text (targets text c) (suc n) (λ _ _. true) (read.target text values c (suc n))
      (pattern_rule text values c (suc n) (read.target text values c n) (r.rule (inside c) (suc n) (omega arith))
      (below_rule (suc n) (record { rule = λ own m h. r.rule own m (omega (arith, h)) })))

pub parameters_rule : ParametersRule
unfolding read.parameters
parameters_rule text values c n r =
    brackets_rule text values c n (read.target_below text values c n) (r.rule (inside c) n (omega arith)) (below_rule text values c n r) f.Parameters refl

pub target_rule : TargetRule
unfolding read.target read.target_below
target_rule text values c zero r = pattern_rule text values c 0 fail (r.rule (inside c) 0 (omega arith)) (fail_rule text (targets text c) (λ _ _. true))
target_rule text values c (suc n) r =
    pattern_rule text values c (suc n) (read.target text values c n) (r.rule (inside c) (suc n) (omega arith)) (below_rule text values c (suc n) r)
