-- Parts of nodes are read in the same way where what stands in them is, within one number of levels.
use Rattle.std.proofs.Common.{◌≡◌, ℕ, zero, suc, ◌≤◌, Bool, true, false, List, refl, arith}
use Rattle.esb_token.specs.declared.kind.Kind.TheVariants as k
use Rattle.esb_token.specs.declared.goal.Goal.TheVariants as goal
use Rattle.esb_tree.specs.declared.expressions.Expression.{Expression}
use Rattle.esb_tree.specs.declared.patterns.Element.TheVariants as el
use Rattle.esb_tree.specs.declared.statements.Statement.{Statement}
use Rattle.esb_grammar.specs.declared.context.Context.{Context}
use Rattle.esb_grammar.specs.declared.form.Form.TheVariants as f
use Rattle.esb_grammar.specs.Contexts.{inside}
use Rattle.esb_grammar.specs.Kinds.{is_assign, is_semicolon, is_star, is_static}
use Rattle.esb_grammar.specs.Words.{is_async}
use Rattle.esb_reader.specs.declared.node.Node.{Node}
use Rattle.esb_reader.specs.Places.{Text}
use Rattle.esb_reader.specs.Reader.{Reader, fail}
use Rattle.esb_reader.specs.Parts.{behind, token, token_in, both, made, above, choice, empty, many}
use Rattle.esb_expression_laws.specs.Lists.{begins_element, is_dots, list_fits}
use Rattle.esb_literal_laws.specs.Forks.{fork, guard, second, reads_before, on_one_line}
use Rattle.esb_literal_laws.specs.Names.{property_name, computed_name}
use Rattle.esb_literal_laws.specs.ElementLists.{bracketed_of}
use Rattle.esb_literal_laws.specs.Bindings.{bindings_fit, make_assignment, make_property, before_sign, with_default, binding_element, rest_element, binding_slot, initialized_name, binding_property, property_slot, pattern, target, target_below, parameters, with_value}
use Rattle.esb_literal_laws.specs.Methods.{function_context, is_accessor, make_plain, make_starred, make_worded, make_worded_starred, at_word, block, definition, plain_method, generator_method, accessor, async_method, async_generator_method, worded_method, method}
use Rattle.esb_literal_laws.specs.Objects.{is_colon, at_shorthand, shorthand, spread_properties, cover_initialized_name, property, named_property, property_definition, object_slot, object}
use Rattle.esb_literal_laws.specs.Functions.{make_function, make_generator, make_async, make_async_generator, own_name, third, function_rest, plain_function, generator_function, async_function, async_generator_function, function}
use Rattle.esb_literal_laws.specs.Classes.{make_static, make_member, make_class, at_static, begins_member, empty_member, extended, heritage, static_member, member, members, class}
use Rattle.esb_binding_laws.specs.Loose.{loose}

-- ---- names and what is bound

module _ (text : Text) (m : ℕ) (values others : Context → ℕ → Reader (Node Expression)) (same : (d : Context) → values d m ≡ others d m) where
  name_same : (c : Context) → property_name text values c m ≡ property_name text others c m
  unfolding property_name computed_name
  name_same c = λ j. property_name text (λ d l. same d j) c m

  pattern_same : (c : Context) (u v : Reader (Node Expression)) → u ≡ v → pattern text values c m u ≡ pattern text others c m v
  unfolding pattern property_slot binding_property initialized_name binding_slot rest_element binding_element with_default property_name computed_name
  pattern_same c u v p = λ j. pattern text (λ d l. same d j) c m (p j)

  slot_same : (c : Context) (u v : Reader (Node Expression)) → u ≡ v → binding_slot text values c m u ≡ binding_slot text others c m v
  unfolding binding_slot rest_element binding_element with_default
  slot_same c u v p = λ j. binding_slot text (λ d l. same d j) c m (p j)

module _ (text : Text) (values others : Context → ℕ → Reader (Node Expression)) where
  target_same : (n : ℕ) → ((m : ℕ) → m ≤ n → (d : Context) → values d m ≡ others d m) → (c : Context) → target text values c n ≡ target text others c n
  unfolding target
  target_same zero same c = pattern_same text zero values others (same zero (omega arith)) c fail fail refl
  target_same (suc n) same c = pattern_same text (suc n) values others (same (suc n) (omega arith)) c (target text values c n) (target text others c n) (target_same n (λ m low. same m (omega (arith, low))) c)

  pub target_below_same : (n : ℕ) → ((m : ℕ) → m ≤ n → (d : Context) → values d m ≡ others d m) → (c : Context) → target_below text values c n ≡ target_below text others c n
  unfolding target_below
  target_below_same zero same c = refl
  target_below_same (suc n) same c = target_same n (λ m low. same m (omega (arith, low))) c

-- ---- with readers of what is bound

module _ (text : Text) (m : ℕ) (values others : Context → ℕ → Reader (Node Expression)) (same : (d : Context) → values d m ≡ others d m) (targets : (d : Context) → target_below text values d m ≡ target_below text others d m) where
  parameters_same : (c : Context) → parameters text values c m ≡ parameters text others c m
  unfolding parameters
  parameters_same c = λ j. bracketed_of text (slot_same text m values others same c (target_below text values c m) (target_below text others c m) (targets c) j) f.Parameters (bindings_fit f.Parameters)

  pub loose_same : (c : Context) → loose text values c m ≡ loose text others c m
  unfolding loose with_value
  loose_same c = λ j. fork (reads_before text (λ t. is_assign t.kind) (targets c j)) (above m make_assignment (both (targets c j) (both (token text k.Assign) (same c j)))) (targets c j)

  -- ---- methods

  module _ (items lists : Context → ℕ → Reader (Node (List Statement))) (bodies : (d : Context) → items d m ≡ lists d m) where
    pub block_same : (c : Context) → block text values items c m ≡ block text others lists c m
    unfolding block
    block_same c = λ j. block text values (λ d l. bodies d j) c m

    definition_same : (c own : Context) → definition text values items c own m ≡ definition text others lists c own m
    unfolding definition
    definition_same c own = λ j. both (name_same text m values others same c j) (both (parameters_same own j) (block_same own j))

    plain_same : (c : Context) → plain_method text values items c m ≡ plain_method text others lists c m
    unfolding plain_method
    plain_same c = λ j. above m make_plain (definition_same c (function_context false false) j)

    generator_same : (c : Context) → generator_method text values items c m ≡ generator_method text others lists c m
    unfolding generator_method
    generator_same c = λ j. above m make_starred (both (token text k.Star) (definition_same c (function_context false true) j))

    worded_same : (c : Context) → worded_method text values items c m ≡ worded_method text others lists c m
    unfolding worded_method async_generator_method async_method accessor
    worded_same c = λ j.
        fork (λ i. is_async text (behind text i))
        (fork (λ i. is_star (second text i).kind)
        (above m make_worded_starred (both (token_in text goal.Div (is_async text)) (guard (on_one_line text) (both (token text k.Star) (definition_same c (function_context true true) j)))))
        (above m make_worded (both (token_in text goal.Div (is_async text)) (guard (on_one_line text) (definition_same c (function_context true false) j)))))
        (above m make_worded (both (token_in text goal.Div (is_accessor text)) (definition_same c (function_context false false) j)))

    method_same : (c : Context) → method text values items c m ≡ method text others lists c m
    unfolding method
    method_same c = λ j. fork (at_word text) (worded_same c j) (choice text (λ t. is_star t.kind) (generator_same c j) (plain_same c j))

    -- ---- object literals

    properties_same : (c : Context) → spread_properties text values items c m ≡ spread_properties text others lists c m
    unfolding spread_properties
    properties_same c = λ j. spread_properties text (λ d l. same d j) items c m

    covered_same : (c : Context) → cover_initialized_name text values items c m ≡ cover_initialized_name text others lists c m
    unfolding cover_initialized_name
    covered_same c = λ j. cover_initialized_name text (λ d l. same d j) items c m

    named_same : (c : Context) → named_property text values items c m ≡ named_property text others lists c m
    unfolding named_property property
    named_same c = λ j.
        fork (reads_before text (λ t. is_colon t.kind) (name_same text m values others same c j))
        (made make_property 0 (both (name_same text m values others same c j) (both (token text k.Colon) (same (inside c) j))))
        (made el.MethodProperty 0 (plain_same c j))

    definitions_same : (c : Context) → property_definition text values items c m ≡ property_definition text others lists c m
    unfolding property_definition
    definitions_same c = λ j.
        choice text (λ t. is_dots t.kind) (properties_same c j)
        (fork (at_shorthand text c) (fork (before_sign text) (covered_same c j) (shorthand text c))
        (fork (at_word text) (made el.MethodProperty 0 (worded_same c j))
        (choice text (λ t. is_star t.kind) (made el.MethodProperty 0 (generator_same c j)) (named_same c j))))

    pub object_same : (c : Context) → object text values items c m ≡ object text others lists c m
    unfolding object object_slot
    object_same c = λ j. bracketed_of text (choice text begins_element (definitions_same c j) (empty el.Hole)) f.Object (list_fits f.Object)

    -- ---- functions and classes

    rest_same : (is_named : Bool) (own : Context) → function_rest text values items is_named own m ≡ function_rest text others lists is_named own m
    unfolding function_rest
    rest_same is_named own = λ j. both (own_name text is_named) (both (parameters_same own j) (block_same own j))

    pub function_same : (is_named : Bool) → function text values items is_named m ≡ function text others lists is_named m
    unfolding function plain_function generator_function async_function async_generator_function
    function_same is_named = λ j.
        fork (λ i. is_async text (behind text i))
        (fork (λ i. is_star (third text i).kind)
        (made make_async_generator 0 (both (token_in text goal.Div (is_async text)) (guard (on_one_line text) (both (token text k.Function) (both (token text k.Star) (rest_same is_named (function_context true true) j))))))
        (made make_async 0 (both (token_in text goal.Div (is_async text)) (guard (on_one_line text) (both (token text k.Function) (rest_same is_named (function_context true false) j))))))
        (fork (λ i. is_star (second text i).kind)
        (made make_generator 0 (both (token text k.Function) (both (token text k.Star) (rest_same is_named (function_context false true) j))))
        (made make_function 0 (both (token text k.Function) (rest_same is_named (function_context false false) j))))

    module _ (heads callees : Context → ℕ → Reader (Node Expression)) (same_heads : (d : Context) → heads d m ≡ callees d m) where
      heritage_same : (c : Context) → heritage text values heads items c m ≡ heritage text others callees lists c m
      unfolding heritage extended
      heritage_same c = λ j. heritage text values (λ d l. same_heads d j) items c m

      members_same : (c : Context) → members text values heads items c m ≡ members text others callees lists c m
      unfolding members member static_member
      members_same c = λ j.
          many text begins_member
          (choice text (λ t. is_semicolon t.kind) (empty_member text)
          (fork (at_static text) (made make_static 0 (both (token_in text goal.Div (λ t. is_static t.kind)) (method_same c j))) (made make_member 0 (method_same c j))))

      pub class_same : (is_named : Bool) (c : Context) → class text values heads items is_named c m ≡ class text others callees lists is_named c m
      unfolding class
      class_same is_named c = λ j.
          made make_class 0 (both (token text k.Class) (both (own_name text is_named) (both (heritage_same c j) (both (token text k.LeftBrace) (both (members_same c j) (token text k.RightBrace))))))
