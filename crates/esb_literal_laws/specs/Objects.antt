-- Object literals (ECMA-262, 12.2.6).
use Rattle.std.specs.Prelude.{ℕ, Bool, true, false, ◌&&◌, List}
use Rattle.esb_token.specs.declared.kind.Kind.{Kind}
use Rattle.esb_token.specs.declared.kind.Kind.TheVariants as k
use Rattle.esb_token.specs.declared.goal.Goal.TheVariants as goal
use Rattle.esb_tree.specs.declared.expressions.Expression.{Expression}
use Rattle.esb_tree.specs.declared.patterns.Bracketed.{Bracketed}
use Rattle.esb_tree.specs.declared.patterns.Element.{Element}
use Rattle.esb_tree.specs.declared.patterns.Element.TheVariants as el
use Rattle.esb_tree.specs.declared.statements.Statement.{Statement}
use Rattle.esb_grammar.specs.declared.context.Context.{Context}
use Rattle.esb_grammar.specs.declared.form.Form.TheVariants as f
use Rattle.esb_grammar.specs.Contexts.{inside}
use Rattle.esb_grammar.specs.Kinds.{is_reference, is_star}
use Rattle.esb_reader.specs.declared.node.Node.{Node}
use Rattle.esb_reader.specs.Places.{Text}
use Rattle.esb_reader.specs.Reader.{Reader}
use Rattle.esb_reader.specs.Parts.{behind, token, token_in, both, made, choice, empty}
use Rattle.esb_expression_laws.specs.Lists.{begins_element, is_dots, make_spread, list_fits}
use Rattle.esb_literal_laws.specs.Forks.{fork, second, reads_before}
use Rattle.esb_literal_laws.specs.ElementLists.{bracketed_of}
use Rattle.esb_literal_laws.specs.Names.{property_name}
use Rattle.esb_literal_laws.specs.Bindings.{make_initialized, make_property, stands_alone, before_sign}
use Rattle.esb_literal_laws.specs.Methods.{plain_method, generator_method, worded_method, at_word}

abbrev pub is_colon : Kind → Bool
is_colon k.Colon = true
is_colon _ = false

unfoldable pub at_shorthand : Text → Context → ℕ → Bool
at_shorthand text c i = is_reference c (behind text i).kind && stands_alone (second text i)

unfoldable pub shorthand : Text → Context → Reader (Node Element)
shorthand text c = made el.Shorthand 0 (token_in text goal.Div (λ t. is_reference c t.kind))

module _ (text : Text) (values : Context → ℕ → Reader (Node Expression)) (items : Context → ℕ → Reader (Node (List Statement))) where
  module _ (c : Context) (n : ℕ) where
    unfoldable pub spread_properties : Reader (Node Element)
    spread_properties = made make_spread 0 (both (token text k.Ellipsis) (values (inside c) n))

    unfoldable pub cover_initialized_name : Reader (Node Element)
    cover_initialized_name = made make_initialized 0 (both (token_in text goal.Div (λ t. is_reference c t.kind)) (both (token text k.Assign) (values (inside c) n)))

    unfoldable pub property : Reader (Node Element)
    property = made make_property 0 (both (property_name text values c n) (both (token text k.Colon) (values (inside c) n)))

    -- behind a name stands `:` of a property, or a method
    unfoldable pub named_property : Reader (Node Element)
    named_property = fork (reads_before text (λ t. is_colon t.kind) (property_name text values c n)) property (made el.MethodProperty 0 (plain_method text values items c n))

    unfoldable pub property_definition : Reader (Node Element)
    property_definition =
        choice text (λ t. is_dots t.kind) spread_properties
        (fork (at_shorthand text c) (fork (before_sign text) cover_initialized_name (shorthand text c))
        (fork (at_word text) (made el.MethodProperty 0 (worded_method text values items c n))
        (choice text (λ t. is_star t.kind) (made el.MethodProperty 0 (generator_method text values items c n)) named_property)))

    unfoldable pub object_slot : Reader (Node Element)
    object_slot = choice text begins_element property_definition (empty el.Hole)

    unfoldable pub object : Reader (Node Bracketed)
    object = bracketed_of text object_slot f.Object (list_fits f.Object)
