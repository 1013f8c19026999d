-- LeftHandSideExpressions and what is bound are the same whether `in` is an operator around them or not: what stands in them stands in
-- brackets, or is a part of this kind.
use Rattle.std.proofs.Common.{◌≡◌, ℕ, Bool, true, false, List, [], ◌∷◌, refl, ap, sym, ◌∙◌, subst}
use Rattle.esb_token.specs.declared.kind.Kind.{Kind}
use Rattle.esb_token.specs.declared.kind.Kind.TheVariants as k
use Rattle.esb_tree.specs.declared.classes.Class.{Class}
use Rattle.esb_tree.specs.declared.classes.ClassElement.{ClassElement}
use Rattle.esb_tree.specs.declared.classes.Heritage.{Heritage}
use Rattle.esb_tree.specs.declared.expressions.Expression.{Expression}
use Rattle.esb_tree.specs.declared.expressions.Link.{Link}
use Rattle.esb_tree.specs.declared.expressions.Substitution.{Substitution}
use Rattle.esb_tree.specs.declared.expressions.Substitutions.{Substitutions}
use Rattle.esb_tree.specs.declared.functions.Method.{Method}
use Rattle.esb_tree.specs.declared.patterns.Bracketed.{Bracketed}
use Rattle.esb_tree.specs.declared.patterns.Element.{Element}
use Rattle.esb_tree.specs.declared.patterns.Elements.{Elements}
use Rattle.esb_tree.specs.declared.patterns.NextElement.{NextElement}
use Rattle.esb_tree.specs.declared.patterns.PropertyName.{PropertyName}
use Rattle.esb_grammar.specs.declared.context.Context.{Context}
use Rattle.esb_grammar.specs.declared.form.Form.{Form}
use Rattle.esb_grammar.specs.declared.form.Form.TheVariants as f
use Rattle.esb_grammar.specs.Contexts.{inside, without_in}
use Rattle.esb_grammar.specs.Kinds.{is_reference}
use Rattle.esb_grammar.specs.Grammar.{IsAssignment, IsExpression, IsPrimary, identifier_reference, literal, array_literal, object_literal, parenthesized, template_literal, function_expression, class_expression, IsTemplate, substitution_template, AreSubstitutions, no_substitutions, template_middle, IsPropertyName, literal_property_name, computed_property_name, IsOrigin, primary_expression, new_target, import_meta, new_with_arguments, import_call, IsAccess, origin, member, super_member, AreLinks, no_links, more_links, IsLink, dot_name, index, call, tagged, tagged_template, optional_dot, optional_index, optional_call, IsNew, member_expression, new_expression, IsLeftHandSide, access, new_without_arguments, IsBracketed, bracketed, AreElements, elements, AreNextElements, no_elements, more_elements, IsElement, hole, shorthand, cover_initialized_name, property, method_property, binding_element, rest_element, single_name, single_name_initialized, binding_property, rest_property, binding, IsTarget, binding_identifier, array_pattern, object_pattern, IsBindingElement, without_default, with_default, IsMethod, plain_method, async_method, accessor, IsClass, nameless_class, named_class, IsHeritage, no_heritage, class_heritage, AreClassElements, no_class_elements, class_method, class_semicolon}

-- a list of a declaration, whose values are read as what is around them
abbrev is_list : Form → Bool
is_list f.Bindings = true
is_list _ = false

reference_inside : (c : Context) (kind : Kind) → is_reference c kind ≡ is_reference (inside c) kind
reference_inside c k.Yield = refl
reference_inside c k.Await = refl
reference_inside c _ = refl

module _ (text : List ℕ) (c d : Context) (same : inside c ≡ inside d) where
  reference_in : (kind : Kind) → is_reference c kind ≡ true → is_reference d kind ≡ true
  reference_in kind h = reference_inside d kind ∙ ap (λ z. is_reference z kind) (sym same) ∙ sym (reference_inside c kind) ∙ h

  assignment_in : (x : Expression) → IsAssignment text (inside c) x → IsAssignment text (inside d) x
  assignment_in x h = subst (λ z. IsAssignment text z x) same h

  expression_in : (x : Expression) → IsExpression text (inside c) x → IsExpression text (inside d) x
  expression_in x h = subst (λ z. IsExpression text z x) same h

  property_name_in : (x : PropertyName) → IsPropertyName text c x → IsPropertyName text d x
  property_name_in x (literal_property_name h) = literal_property_name h
  property_name_in x (computed_property_name {x = v} h1 h2 h3) = computed_property_name h1 (assignment_in v h2) h3

  method_in : (x : Method) → IsMethod text c x → IsMethod text d x
  method_in x (plain_method star name parameters body h1 h2 h3 h4) = plain_method star name parameters body h1 (property_name_in name h2) h3 h4
  method_in x (async_method word star name parameters body h1 h2 h3 h4 h5 h6) = async_method word star name parameters body h1 h2 h3 (property_name_in name h4) h5 h6
  method_in x (accessor word name parameters body h1 h2 h3 h4) = accessor word name parameters body h1 (property_name_in name h2) h3 h4

  class_elements_in : (xs : List ClassElement) → AreClassElements text c xs → AreClassElements text d xs
  class_elements_in [] h = no_class_elements
  class_elements_in (x ∷ xs) (class_method {method = m} h1 h2 h3) = class_method h1 (method_in m h2) (class_elements_in xs h3)
  class_elements_in (x ∷ xs) (class_semicolon h1 h2) = class_semicolon h1 (class_elements_in xs h2)

  substitutions_in : (xs : List Substitution) → AreSubstitutions text c xs → AreSubstitutions text d xs
  substitutions_in [] h = no_substitutions
  substitutions_in (x ∷ xs) (template_middle {x = v} h1 h2 h3) = template_middle h1 (expression_in v h2) (substitutions_in xs h3)

  template_in : (x : Substitutions) → IsTemplate text c x → IsTemplate text d x
  template_in x (substitution_template begin first rest ending h1 h2 h3 h4) = substitution_template begin first rest ending h1 (expression_in first h2) (substitutions_in rest h3) h4

  no_list : (form : Form) → is_list form ≡ false → form ≡ f.Bindings → ⊥
  no_list form h e = let bad : true ≡ false = sym (ap is_list e) ∙ h in cc

  mutual
    bracketed_in : (form : Form) (x : Bracketed) → is_list form ≡ false → IsBracketed text form c x → IsBracketed text form d x
    bracketed_in form x other (bracketed begin list ending h1 h2 h3) = bracketed begin list ending h1 (elements_in form list other h2) h3

    elements_in : (form : Form) (x : Elements) → is_list form ≡ false → AreElements text form c x → AreElements text form d x
    elements_in form x other (elements first rest h1 h2) = elements first rest (element_in form first other h1) (nexts_in form rest other h2)

    nexts_in : (form : Form) (xs : List NextElement) → is_list form ≡ false → AreNextElements text form c xs → AreNextElements text form d xs
    nexts_in form xs other no_elements = no_elements
    nexts_in form xs other (more_elements {element = y} {rest = ys} h1 h2 h3) = more_elements h1 (element_in form y other h2) (nexts_in form ys other h3)

    element_in : {last : Bool} (form : Form) (x : Element) → is_list form ≡ false → IsElement text form last c x → IsElement text form last d x
    element_in form x other (hole h) = hole h
    element_in form x other (IsElement.value {x = v} h1 h2) = IsElement.value h1 (assignment_in v h2)
    element_in form x other (IsElement.spread {x = v} h1 h2 h3) = IsElement.spread h1 h2 (assignment_in v h3)
    element_in form x other (shorthand {name = t} h) = shorthand (reference_in t.kind h)
    element_in form x other (cover_initialized_name {name = t} {x = v} h1 h2 h3) = cover_initialized_name (reference_in t.kind h1) h2 (assignment_in v h3)
    element_in form x other (property {name = m} {x = v} h1 h2 h3) = property (property_name_in m h1) h2 (assignment_in v h3)
    element_in form x other (method_property {method = m} h) = method_property (method_in m h)
    element_in form x other (binding_element {x = v} h1 h2) = binding_element h1 (binding_element_in v h2)
    element_in form x other (rest_element {x = v} h1 h2 h3) = rest_element h1 h2 (target_in v h3)
    element_in form x other (single_name h) = single_name h
    element_in form x other (single_name_initialized {x = v} h1 h2 h3) = single_name_initialized h1 h2 (assignment_in v h3)
    element_in form x other (binding_property {name = m} {x = v} h1 h2 h3) = binding_property (property_name_in m h1) h2 (binding_element_in v h3)
    element_in form x other (rest_property h1 h2) = rest_property h1 h2
    element_in form x other (binding h) = absurd (no_list f.Bindings other refl)

    target_in : (x : Expression) → IsTarget text c x → IsTarget text d x
    target_in x (binding_identifier h) = binding_identifier h
    target_in x (array_pattern {list = l} h) = array_pattern (bracketed_in f.ArrayPattern l refl h)
    target_in x (object_pattern {list = l} h) = object_pattern (bracketed_in f.ObjectPattern l refl h)

    binding_element_in : (x : Expression) → IsBindingElement text c x → IsBindingElement text d x
    binding_element_in x (without_default h) = without_default (target_in x h)
    binding_element_in x (with_default {target = t} {x = v} h1 h2 h3) = with_default (target_in t h1) h2 (assignment_in v h3)

  link_in : {calls optional : Bool} (x : Link) → IsLink text calls optional c x → IsLink text calls optional d x
  link_in x (dot_name h1 h2) = dot_name h1 h2
  link_in x (index {x = v} h1 h2 h3) = index h1 (expression_in v h2) h3
  link_in x (call {arguments = l} h) = call (bracketed_in f.Arguments l refl h)
  link_in x (tagged h) = tagged h
  link_in x (tagged_template {template = t} h) = tagged_template (template_in t h)
  link_in x (optional_dot h1 h2) = optional_dot h1 h2
  link_in x (optional_index {x = v} h1 h2 h3 h4) = optional_index h1 h2 (expression_in v h3) h4
  link_in x (optional_call {arguments = l} h1 h2) = optional_call h1 (bracketed_in f.Arguments l refl h2)

  links_in : {calls optional : Bool} (xs : List Link) → AreLinks text calls optional c xs → AreLinks text calls optional d xs
  links_in xs no_links = no_links
  links_in xs (more_links {first = y} {rest = ys} h1 h2) = more_links (link_in y h1) (links_in ys h2)

  mutual
    left_in : (x : Expression) → IsLeftHandSide text c x → IsLeftHandSide text d x
    left_in x (access h) = access (access_in x h)
    left_in x (new_without_arguments {callee = v} h1 h2) = new_without_arguments h1 (new_in v h2)

    new_in : (x : Expression) → IsNew text c x → IsNew text d x
    new_in x (member_expression h) = member_expression (access_in x h)
    new_in x (new_expression {callee = v} h1 h2) = new_expression h1 (new_in v h2)

    access_in : {calls : Bool} (x : Expression) → IsAccess text calls c x → IsAccess text calls d x
    access_in x (origin h) = origin (origin_in x h)
    access_in x (member object first rest h1 h2) = member object first rest (origin_in object h1) (links_in (first ∷ rest) h2)
    access_in x (super_member word first rest h1 h2 h3) = super_member word first rest h1 h2 (links_in (first ∷ rest) h3)

    origin_in : {calls : Bool} (x : Expression) → IsOrigin text calls c x → IsOrigin text calls d x
    origin_in x (primary_expression h) = primary_expression (primary_in x h)
    origin_in x (new_target h1 h2 h3) = new_target h1 h2 h3
    origin_in x (import_meta h1 h2 h3) = import_meta h1 h2 h3
    origin_in x (new_with_arguments {callee = v} {arguments = l} h1 h2 h3) = new_with_arguments h1 (access_in v h2) (bracketed_in f.Arguments l refl h3)
    origin_in x (import_call {x = v} h1 h2 h3 h4) = import_call h1 h2 (assignment_in v h3) h4

    primary_in : (x : Expression) → IsPrimary text c x → IsPrimary text d x
    primary_in x (identifier_reference {t = t} h) = identifier_reference (reference_in t.kind h)
    primary_in x (literal h) = literal h
    primary_in x (array_literal {list = l} h) = array_literal (bracketed_in f.Array l refl h)
    primary_in x (object_literal {list = l} h) = object_literal (bracketed_in f.Object l refl h)
    primary_in x (parenthesized {list = l} h) = parenthesized (bracketed_in f.Values l refl h)
    primary_in x (template_literal {template = t} h) = template_literal (template_in t h)
    primary_in x (function_expression h) = function_expression h
    primary_in x (class_expression {class = v} h) = class_expression (class_in v h)

    class_in : (x : Class) → IsClass text false c x → IsClass text false d x
    class_in x (nameless_class word heritage begin members ending h1 h2 h3 h4 h5) = nameless_class word heritage begin members ending h1 (heritage_in heritage h2) h3 (class_elements_in members h4) h5
    class_in x (named_class word name heritage begin members ending h1 h2 h3 h4 h5 h6) = named_class word name heritage begin members ending h1 h2 (heritage_in heritage h3) h4 (class_elements_in members h5) h6

    heritage_in : (x : Heritage) → IsHeritage text c x → IsHeritage text d x
    heritage_in x no_heritage = no_heritage
    heritage_in x (class_heritage {x = v} h1 h2) = class_heritage h1 (left_in v h2)

pub left_without : (text : List ℕ) (c : Context) (x : Expression) → IsLeftHandSide text c x → IsLeftHandSide text (without_in c) x
left_without text c x h = left_in text c (without_in c) refl x h

pub left_with : (text : List ℕ) (c : Context) (x : Expression) → IsLeftHandSide text (without_in c) x → IsLeftHandSide text c x
left_with text c x h = left_in text (without_in c) c refl x h

pub target_without : (text : List ℕ) (c : Context) (x : Expression) → IsTarget text c x → IsTarget text (without_in c) x
target_without text c x h = target_in text c (without_in c) refl x h

pub target_with : (text : List ℕ) (c : Context) (x : Expression) → IsTarget text (without_in c) x → IsTarget text c x
target_with text c x h = target_in text (without_in c) c refl x h
