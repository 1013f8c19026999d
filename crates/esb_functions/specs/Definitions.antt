-- Nodes made of what was read, and readers of parts.
use Rattle.std.specs.Prelude.{ℕ, ◌+◌, nat_lt, false, List, Option, Some, None}
use Rattle.esb_token.specs.declared.kind.Kind.TheVariants as k
use Rattle.esb_token.specs.declared.token.Token.{Token}
use Rattle.esb_tree.specs.declared.classes.ClassElement.{ClassElement}
use Rattle.esb_tree.specs.declared.expressions.Expression.{Expression}
use Rattle.esb_tree.specs.declared.functions.Function.{Function, roll-Function}
use Rattle.esb_tree.specs.declared.functions.Method.{Method, roll-Method}
use Rattle.esb_tree.specs.declared.patterns.Element.{Element}
use Rattle.esb_tree.specs.declared.patterns.Element.TheVariants as el
use Rattle.esb_tree.specs.declared.patterns.Elements.{Elements}
use Rattle.esb_tree.specs.declared.patterns.PropertyName.{PropertyName}
use Rattle.esb_tree.specs.declared.statements.Statement.{Statement}
use Rattle.esb_grammar.specs.declared.context.Context.{Context}
use Rattle.esb_grammar.specs.declared.form.Form.TheVariants as f
use Rattle.esb_grammar.specs.Kinds.{is_star}
use Rattle.esb_reader.specs.declared.node.Node.{Node}
use Rattle.esb_reader.specs.Places.{Text}
use Rattle.esb_reader.specs.Reader.{Found, Reader, node, pure, fail, choose}
use Rattle.esb_reader.specs.Parts.{both, token, made, above, choice}
use Rattle.esb_expression_laws.specs.Lists.{list_fits}
use Rattle.esb_literal_laws.specs.Forks.{fork}
use Rattle.esb_literal_laws.specs.ElementLists.{list_of}
use Rattle.esb_literal_laws.specs.Bindings.{parameters}
use Rattle.esb_literal_laws.specs.Methods.{Definition, make_plain, function_context, block, at_word, worded_method, generator_method}
use Rattle.esb_literal_laws.specs.Functions.{Rest}
use Rattle.esb_literal_laws.specs.Objects.{object_slot, named_property}
use Rattle.esb_literal_laws.specs.Classes.{members}

-- a method of its words and the rest, one level above that and within n levels
abbrev pub method_of : ℕ → Option Token → Option Token → Node Definition → Reader (Node Method)
method_of n word star rest =
    choose (nat_lt rest.levels n)
    (pure (node (roll-Method (record { word = word; star = star; name = rest.tree.0; parameters = rest.tree.1.0; body = rest.tree.1.1 })) (rest.levels + 1)))
    fail

abbrev pub method_property : Node Method → Reader (Node Element)
method_property x = pure (node (el.MethodProperty x.tree) x.levels)

abbrev pub function_of : Option Token → Token → Option Token → Node Rest → Node Function
function_of first word star rest =
    node (roll-Function (record { async_word = first; word = word; star = star; name = rest.tree.0; parameters = rest.tree.1.0; body = rest.tree.1.1 })) rest.levels

module _ (text : Text) (values : Context → ℕ → Reader (Node Expression)) (items : Context → ℕ → Reader (Node (List Statement))) where
  -- a method as a property, whose name was read
  abbrev pub method_behind : Node PropertyName → ℕ → Reader (Node Element)
  method_behind name n =
      let own : Context = function_context false false in
      made el.MethodProperty 0 (above n make_plain (both (pure name) (both (parameters text values own n) (block text values items own n))))

  -- a property that begins with neither `...` nor a name alone
  abbrev pub unnamed_property : Context → ℕ → Reader (Node Element)
  unnamed_property c n =
      fork (at_word text) (made el.MethodProperty 0 (worded_method text values items c n))
      (choice text (λ t. is_star t.kind) (made el.MethodProperty 0 (generator_method text values items c n)) (named_property text values items c n))

  -- the properties of an object
  abbrev pub properties : Context → ℕ → Reader (Node Elements)
  properties c n = list_of text (object_slot text values items c n) (list_fits f.Object)

  -- the elements of a class in their braces
  abbrev pub class_body : (Context → ℕ → Reader (Node Expression)) → Context → ℕ → Reader (Node (Token × (List ClassElement × Token)))
  class_body heads c n = both (token text k.LeftBrace) (both (members text values heads items c n) (token text k.RightBrace))
