-- Patterns of bindings, and lists of parameters and of bindings (ECMA-262, 13.3, 14.1).
use Rattle.std.specs.Prelude.{ℕ, zero, suc, Bool, true, false, not, ◌&&◌, ◌||◌, List, [], ◌∷◌}
use Rattle.esb_token.specs.declared.kind.Kind.TheVariants as k
use Rattle.esb_token.specs.declared.token.Token.{Token}
use Rattle.esb_token.specs.declared.goal.Goal.TheVariants as goal
use Rattle.esb_tree.specs.declared.expressions.Expression.{Expression}
use Rattle.esb_tree.specs.declared.expressions.Expression.TheVariants as e
use Rattle.esb_tree.specs.declared.patterns.Bracketed.{Bracketed}
use Rattle.esb_tree.specs.declared.patterns.Element.{Element, out-Element}
use Rattle.esb_tree.specs.declared.patterns.Element.TheVariants as el
use Rattle.esb_tree.specs.declared.patterns.Elements.{Elements}
use Rattle.esb_tree.specs.declared.patterns.NextElement.{NextElement, out-NextElement}
use Rattle.esb_tree.specs.declared.patterns.PropertyName.{PropertyName}
use Rattle.esb_tree.specs.declared.classes.ClassElement.TheOpen.{Element-F}
use Rattle.esb_tree.specs.declared.classes.ClassElement.{ClassElement}
use Rattle.esb_tree.specs.declared.classes.Heritage.{Heritage}
use Rattle.esb_tree.specs.declared.expressions.Link.{Link}
use Rattle.esb_tree.specs.declared.functions.ConciseBody.{ConciseBody}
use Rattle.esb_tree.specs.declared.statements.CaseClause.{CaseClause}
use Rattle.esb_tree.specs.declared.statements.Else.{Else}
use Rattle.esb_tree.specs.declared.statements.Finalizer.{Finalizer}
use Rattle.esb_tree.specs.declared.statements.ForStart.{ForStart}
use Rattle.esb_tree.specs.declared.statements.Handler.{Handler}
use Rattle.esb_tree.specs.declared.statements.MaybeExpression.{MaybeExpression}
use Rattle.esb_tree.specs.declared.statements.Statement.{Statement}
use Rattle.esb_tree.specs.declared.classes.Class.{Class}
use Rattle.esb_tree.specs.declared.expressions.Operand.{Operand}
use Rattle.esb_tree.specs.declared.expressions.Substitution.{Substitution}
use Rattle.esb_tree.specs.declared.expressions.Substitutions.{Substitutions}
use Rattle.esb_tree.specs.declared.functions.Function.{Function}
use Rattle.esb_tree.specs.declared.functions.Method.{Method}
use Rattle.esb_tree.specs.declared.statements.Block.{Block}
use Rattle.esb_tree.specs.declared.statements.Declaration.{Declaration}
use Rattle.esb_tree.specs.declared.statements.ElseIf.{ElseIf}
use Rattle.esb_tree.specs.declared.statements.IfClause.{IfClause}
use Rattle.esb_grammar.specs.declared.context.Context.{Context}
use Rattle.esb_grammar.specs.declared.form.Form.{Form}
use Rattle.esb_grammar.specs.declared.form.Form.TheVariants as f
use Rattle.esb_grammar.specs.Contexts.{inside}
use Rattle.esb_grammar.specs.Forms.{is_empty}
use Rattle.esb_grammar.specs.Kinds.{is_binding, is_assign, is_left_bracket, is_left_brace}
use Rattle.esb_reader.specs.declared.node.Node.{Node}
use Rattle.esb_reader.specs.Places.{Text}
use Rattle.esb_reader.specs.Reader.{Reader, fail}
use Rattle.esb_reader.specs.Parts.{behind, token, token_in, both, made, above, choice, empty}
use Rattle.esb_expression_laws.specs.Lists.{ends_element, begins_element, is_dots, make_spread, list_fits}
use Rattle.esb_literal_laws.specs.Forks.{fork, second, reads_before}
use Rattle.esb_literal_laws.specs.ElementLists.{list_of, bracketed_of}
use Rattle.esb_literal_laws.specs.Names.{property_name}

-- ---- a rest is the last

abbrev pub rest_layer : Element-F ClassElement Heritage Expression Link ConciseBody Element PropertyName CaseClause Else Finalizer ForStart Handler MaybeExpression Statement Class Operand Substitution Substitutions Function Method Bracketed Elements NextElement Block Declaration ElseIf IfClause → Bool
rest_layer (Element-F.Spread dots x) = true
rest_layer _ = false

unfoldable pub is_rest : Element → Bool
is_rest x = rest_layer (out-Element x)

abbrev pub rests_last : List NextElement → Bool
rests_last [] = true
rests_last (o ∷ os) = (not (is_rest (out-NextElement o).element) || is_empty os) && rests_last os

-- which elements may stand in which places of a list of bindings
abbrev pub bindings_fit : Form → Element × List NextElement → Bool
bindings_fit form p = list_fits form p && ((not (is_rest p.0) || is_empty p.1) && rests_last p.1)

-- ---- parts

abbrev pub make_assignment : Expression × (Token × Expression) → Expression
make_assignment p = e.Assignment p.0 p.1.0 p.1.1

abbrev pub make_rest : Token × Token → Element
make_rest p = el.Spread p.0 (e.Primary p.1)

abbrev pub make_initialized : Token × (Token × Expression) → Element
make_initialized p = el.Initialized p.0 p.1.0 p.1.1

abbrev pub make_property : PropertyName × (Token × Expression) → Element
make_property p = el.Property p.0 p.1.0 p.1.1

-- whether a name stands at a place that is a property by itself, or with `=` and a default
abbrev pub stands_alone : Token → Bool
stands_alone t = ends_element t || is_assign t.kind

unfoldable pub at_single_name : Text → ℕ → Bool
at_single_name text i = is_binding (behind text i).kind && stands_alone (second text i)

-- whether a name with `=` behind it stands at a place
abbrev pub before_sign : Text → ℕ → Bool
before_sign text i = is_assign (second text i).kind

-- ---- the readers

unfoldable pub bound_name : Text → Reader (Node Expression)
bound_name text = made e.Primary 0 (token_in text goal.Div (λ t. is_binding t.kind))

unfoldable pub rest_property : Text → Reader (Node Element)
rest_property text = made make_rest 0 (both (token text k.Ellipsis) (token_in text goal.Div (λ t. is_binding t.kind)))

unfoldable pub single_name : Text → Reader (Node Element)
single_name text = made el.Shorthand 0 (token_in text goal.Div (λ t. is_binding t.kind))

module _ (text : Text) (values : Context → ℕ → Reader (Node Expression)) where
  -- within n levels, where `targets` reads a name or a pattern within the levels below
  module _ (c : Context) (n : ℕ) (targets : Reader (Node Expression)) where
    unfoldable pub with_default : Reader (Node Expression)
    with_default = above n make_assignment (both targets (both (token text k.Assign) (values (inside c) n)))

    unfoldable pub binding_element : Reader (Node Expression)
    binding_element = fork (reads_before text (λ t. is_assign t.kind) targets) with_default targets

    unfoldable pub rest_element : Reader (Node Element)
    rest_element = made make_spread 0 (both (token text k.Ellipsis) targets)

    -- an element of parameters and of patterns in brackets
    unfoldable pub binding_slot : Reader (Node Element)
    binding_slot = choice text begins_element (choice text (λ t. is_dots t.kind) rest_element (made el.Value 0 binding_element)) (empty el.Hole)

    unfoldable pub initialized_name : Reader (Node Element)
    initialized_name = made make_initialized 0 (both (token_in text goal.Div (λ t. is_binding t.kind)) (both (token text k.Assign) (values (inside c) n)))

    unfoldable pub binding_property : Reader (Node Element)
    binding_property = made make_property 0 (both (property_name text values c n) (both (token text k.Colon) binding_element))

    -- an element of patterns in braces
    unfoldable pub property_slot : Reader (Node Element)
    property_slot =
        choice text begins_element
        (choice text (λ t. is_dots t.kind) (rest_property text) (fork (at_single_name text) (fork (before_sign text) initialized_name (single_name text)) binding_property))
        (empty el.Hole)

    unfoldable pub pattern : Reader (Node Expression)
    pattern =
        choice text (λ t. is_left_bracket t.kind) (above n e.ArrayLiteral (bracketed_of text binding_slot f.ArrayPattern (bindings_fit f.ArrayPattern)))
        (choice text (λ t. is_left_brace t.kind) (above n e.ObjectLiteral (bracketed_of text property_slot f.ObjectPattern (bindings_fit f.ObjectPattern))) (bound_name text))

  -- BindingIdentifier or BindingPattern within a number of levels
  unfoldable pub target : Context → ℕ → Reader (Node Expression)
  target c zero = pattern c zero fail
  target c (suc n) = pattern c (suc n) (target c n)

  -- the same within the levels below
  unfoldable pub target_below : Context → ℕ → Reader (Node Expression)
  target_below c zero = fail
  target_below c (suc n) = target c n

  -- FormalParameters in their parentheses
  unfoldable pub parameters : Context → ℕ → Reader (Node Bracketed)
  parameters c n = bracketed_of text (binding_slot c n (target_below c n)) f.Parameters (bindings_fit f.Parameters)

  -- LexicalBinding and VariableDeclaration, whose value is read in the same context
  unfoldable pub with_value : Context → ℕ → Reader (Node Expression)
  with_value c n = above n make_assignment (both (target_below c n) (both (token text k.Assign) (values c n)))

  unfoldable pub binding : Context → ℕ → Reader (Node Element)
  binding c n = made el.Value 0 (fork (reads_before text (λ t. is_assign t.kind) (target_below c n)) (with_value c n) (bound_name text))

  -- BindingList and VariableDeclarationList
  unfoldable pub bindings : Context → ℕ → Reader (Node Elements)
  bindings c n = list_of text (binding c n) (list_fits f.Bindings)
