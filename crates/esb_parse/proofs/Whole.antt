-- What each parser gives over the others is what the readers give that are tied together.
use Rattle.std.proofs.Common.{◌≡◌, ℕ, Bool, true, false, List, refl, sym, ap, ◌∙◌}
use Rattle.esb_tree.specs.declared.expressions.Expression.{Expression}
use Rattle.esb_tree.specs.declared.statements.Statement.{Statement}
use Rattle.esb_grammar.specs.declared.context.Context.{Context}
use Rattle.esb_grammar.specs.declared.form.Form.TheVariants as f
use Rattle.esb_grammar.specs.Contexts.{inside}
use Rattle.esb_reader.specs.declared.node.Node.{Node}
use Rattle.esb_reader.specs.Places.{Text}
use Rattle.esb_reader.specs.Reader.{Reader}
use Rattle.esb_inner.specs.Inner.{below}
use Rattle.esb_expression_laws.specs.Lists.{bracketed}
use Rattle.esb_access_laws.specs.Access as access
use Rattle.esb_binding_laws.specs.Loose.{loose}
use Rattle.esb_literal_laws.specs.Bindings.{target_below}
use Rattle.esb_literal_laws.specs.Classes as classes
use Rattle.esb_literal_laws.specs.Functions as functions
use Rattle.esb_literal_laws.specs.Methods as methods
use Rattle.esb_literal_laws.specs.Objects.{object}
use Rattle.esb_literal_laws.specs.Templates as templates
use Rattle.esb_value_laws.specs.Handed.{left_of, assignment_of, expression_of, primary_of, arguments_of, template_of, brackets_of, block_of}
use Rattle.esb_value_laws.specs.Commas as commas
use Rattle.esb_value_laws.specs.Levels as levels
use Rattle.esb_value_laws.specs.Primaries as primaries
use Rattle.esb_literals.specs.Handed.{values, expressions}
use Rattle.esb_functions.specs.Bodies.{bodies}
use Rattle.esb_functions.specs.Heads.{heads}
use Rattle.esb_access.specs.Handed as over
use Rattle.esb_values.specs.ListsFirst.{ListsFirst}
use Rattle.esb_values.specs.Together as together
use Rattle.esb_values.proofs.Facts.{lists_first}
use Rattle.esb_parse_laws.specs.Readers.{value_below, values_below, head_below, items_below}
use Rattle.esb_parse.specs.Knot as knot
use Rattle.esb_parse.specs.Knot.{expression, left, items}
use Rattle.esb_parse.proofs.Same.{value_is, values_are, literal_values, literal_expressions, class_heads, function_bodies}

module _ (text : Text) (c : Context) (n : ℕ) where
  pub arguments_same : bracketed text f.Arguments (values expression text (inside c) n) ≡ knot.arguments c text n
  unfolding arguments_of
  arguments_same = ap (λ (v : Context → ℕ → Reader (Node Expression)). bracketed text f.Arguments (v (inside c) n)) (literal_values text)

  pub template_same : templates.template text (expressions expression text (inside c) n) ≡ knot.template c text n
  unfolding template_of
  template_same = ap (λ (v : Context → ℕ → Reader (Node Expression)). templates.template text (v (inside c) n)) (literal_expressions text)

  pub block_same : methods.block text (values expression text) (bodies items text) c n ≡ knot.block c text n
  unfolding block_of
  block_same =
      ap (λ (v : Context → ℕ → Reader (Node Expression)). methods.block text v (bodies items text) c n) (literal_values text)
      ∙ ap (λ (b : Context → ℕ → Reader (Node (List Statement))). methods.block text (value_below text) b c n) (function_bodies text)

  abbrev primary_over : (Context → ℕ → Reader (Node Expression)) → (Context → ℕ → Reader (Node Expression)) → (Context → ℕ → Reader (Node Expression)) → (Context → ℕ → Reader (Node (List Statement))) → Reader (Node Expression)
  primary_over one many head list =
      primaries.primary text c n (bracketed text f.Values (one (inside c) n)) (bracketed text f.Array (one (inside c) n)) (object text one list c n)
      (templates.template text (many (inside c) n)) (functions.function text one list false n) (classes.class text one head list false c n)

  pub primary_same :
      primaries.primary text c n (bracketed text f.Values (values expression text (inside c) n)) (bracketed text f.Array (values expression text (inside c) n)) (object text (values expression text) (bodies items text) c n)
      (templates.template text (expressions expression text (inside c) n)) (functions.function text (values expression text) (bodies items text) false n) (classes.class text (values expression text) (heads left text) (bodies items text) false c n)
      ≡ knot.primary c text n
  unfolding primary_of template_of
  primary_same =
      ap (λ v. primary_over v (expressions expression text) (heads left text) (bodies items text)) (literal_values text)
      ∙ ap (λ v. primary_over (value_below text) v (heads left text) (bodies items text)) (literal_expressions text)
      ∙ ap (λ v. primary_over (value_below text) (values_below text) v (bodies items text)) (class_heads text)
      ∙ ap (λ v. primary_over (value_below text) (values_below text) (head_below text) v) (function_bodies text)

  pub left_same : over.left expression knot.primary knot.arguments knot.template c text true n ≡ knot.left c text n
  unfolding left_of brackets_of
  left_same =
      ap (λ (v : Context → ℕ → Reader (Node Expression)). access.left text (knot.primary c text) (knot.arguments c text) (knot.template c text) (v (inside c)) (λ m. below (expression false (inside c)) text m) true n) (values_are text)
      ∙ ap (λ (v : Context → ℕ → Reader (Node Expression)). access.left text (knot.primary c text) (knot.arguments c text) (knot.template c text) (values_below text (inside c)) (v (inside c)) true n) (value_is text)

  pub value_same : together.assignment expression knot.primary knot.arguments knot.template knot.block c text n ≡ expression false c text n
  unfolding assignment_of brackets_of block_of
  value_same =
      ap (λ (v : Context → ℕ → Reader (Node Expression)). levels.assignment text c (knot.primary c text) (knot.arguments c text) (knot.template c text) (v (inside c)) (λ d m. below (expression false d) text m) (λ d m. knot.block d text m) n) (values_are text)
      ∙ ap (λ (v : Context → ℕ → Reader (Node Expression)). levels.assignment text c (knot.primary c text) (knot.arguments c text) (knot.template c text) (values_below text (inside c)) v (λ d m. knot.block d text m) n) (value_is text)

  pub target_same : target_below text (values expression text) c n ≡ target_below text (value_below text) c n
  target_same = ap (λ (v : Context → ℕ → Reader (Node Expression)). target_below text v c n) (literal_values text)

  pub binding_same : loose text (values expression text) c n ≡ loose text (value_below text) c n
  binding_same = ap (λ (v : Context → ℕ → Reader (Node Expression)). loose text v c n) (literal_values text)

  pub function_same : (is_named : Bool) → functions.function text (values expression text) (bodies items text) is_named n ≡ functions.function text (value_below text) (items_below text) is_named n
  function_same is_named =
      ap (λ (v : Context → ℕ → Reader (Node Expression)). functions.function text v (bodies items text) is_named n) (literal_values text)
      ∙ ap (λ (b : Context → ℕ → Reader (Node (List Statement))). functions.function text (value_below text) b is_named n) (function_bodies text)

  pub class_same : (is_named : Bool) → classes.class text (values expression text) (heads left text) (bodies items text) is_named c n ≡ classes.class text (value_below text) (head_below text) (items_below text) is_named c n
  class_same is_named =
      ap (λ (v : Context → ℕ → Reader (Node Expression)). classes.class text v (heads left text) (bodies items text) is_named c n) (literal_values text)
      ∙ ap (λ (v : Context → ℕ → Reader (Node Expression)). classes.class text (value_below text) v (bodies items text) is_named c n) (class_heads text)
      ∙ ap (λ (b : Context → ℕ → Reader (Node (List Statement))). classes.class text (value_below text) (head_below text) b is_named c n) (function_bodies text)

  pub commas_same : commas.expression text n (expression false c text n) ≡ expression true c text n
  unfolding expression_of
  commas_same = refl

  pub commas_by : (b : Bool) → b ≡ true → commas.expression text n (expression false c text n) ≡ expression b c text n
  commas_by true h = commas_same
  commas_by false h = cc

-- LeftHandSideExpressions are read as those over the other readers are
pub left_chain : (text : Text) (c : Context) → left c text ≡ together.left expression knot.primary knot.arguments knot.template knot.block c text
left_chain text c = sym (λ j n. left_same text c n j)

-- and lists in parentheses may be read first.
pub lists_may_be_first : (text : Text) (c : Context) (m : ℕ) → ListsFirst text (knot.primary c text) (knot.arguments c text) m
unfolding primary_of arguments_of
lists_may_be_first text c m =
    lists_first text c (value_below text (inside c)) (λ n. bracketed text f.Array (value_below text (inside c) n)) (λ n. object text (value_below text) (items_below text) c n)
    (λ n. template_of text (value_below text) (values_below text) (head_below text) (items_below text) c n) (λ n. functions.function text (value_below text) (items_below text) false n)
    (λ n. classes.class text (value_below text) (head_below text) (items_below text) false c n) m
