-- What readers of literals and patterns are put together of.
use Rattle.std.specs.Prelude.{ℕ, ◌+◌, max, nat_lt, Bool, true, false, if◌then◌else◌, List, Option, Some, None}
use Rattle.esb_token.specs.declared.kind.Kind.TheVariants as k
use Rattle.esb_token.specs.declared.token.Token.{Token}
use Rattle.esb_token.specs.declared.goal.Goal.TheVariants as goal
use Rattle.esb_tree.specs.declared.expressions.Expression.{Expression}
use Rattle.esb_tree.specs.declared.expressions.Expression.TheVariants as e
use Rattle.esb_tree.specs.declared.expressions.Substitution.{Substitution}
use Rattle.esb_tree.specs.declared.patterns.Bracketed.{Bracketed}
use Rattle.esb_tree.specs.declared.patterns.Element.{Element}
use Rattle.esb_tree.specs.declared.patterns.Elements.{Elements}
use Rattle.esb_tree.specs.declared.patterns.NextElement.{NextElement}
use Rattle.esb_grammar.specs.declared.context.Context.{Context}
use Rattle.esb_grammar.specs.declared.form.Form.{Form}
use Rattle.esb_grammar.specs.declared.form.Form.TheVariants as f
use Rattle.esb_grammar.specs.Kinds.{is_comma, is_assign}
use Rattle.esb_reader.specs.declared.node.Node.{Node}
use Rattle.esb_reader.specs.Places.{Text}
use Rattle.esb_reader.specs.Reader.{Reader, node, pure, fail, choose}
use Rattle.esb_reader.specs.Parts.{many, both, token_in, token, above}
use Rattle.esb_expression_laws.specs.Lists.{next_element, make_list, list_fits}
use Rattle.esb_literal_laws.specs.Bindings.{binding_slot, property_slot, target_below, with_value, bound_name, bindings_fit, make_assignment}
use Rattle.esb_literal_laws.specs.Forks.{fork, reads_before}
use Rattle.esb_literal_laws.specs.Templates.{is_ending, substitutions}
use Rattle.esb_literals.specs.Handed.{values}

-- the elements of a list of values behind the first
unfoldable pub next_values : Text → Form → Reader (Node Expression) → Reader (Node (List NextElement))
next_values text form inner = many text (λ t. is_comma t.kind) (next_element text form inner)

-- a list of its elements, where they may stand in their places
abbrev pub list_of_parts : Form → Node Element → Node (List NextElement) → Option (Node Elements)
list_of_parts form first rest = if list_fits form (first.tree, rest.tree) then Some (node (make_list (first.tree, rest.tree)) (max first.levels rest.levels)) else None

-- the same of bindings, where a rest is the last
abbrev pub list_of_bindings : Form → Node Element → Node (List NextElement) → Option (Node Elements)
list_of_bindings form first rest = if bindings_fit form (first.tree, rest.tree) then Some (node (make_list (first.tree, rest.tree)) (max first.levels rest.levels)) else None

-- the parts of a template behind its first value, and its end
unfoldable pub template_rest : Text → Reader (Node Expression) → Reader (Node (List Substitution × Token))
template_rest text inner = both (substitutions text inner) (token_in text goal.TemplateTail (λ t. is_ending t.kind))

-- nodes made of what was read, one level above it and within n levels
abbrev pub assignment_of : ℕ → Node Expression → Node (Token × Expression) → Reader (Node Expression)
assignment_of n target value = choose (nat_lt (max target.levels value.levels) n) (pure (node (make_assignment (target.tree, value.tree)) (max target.levels value.levels + 1))) fail

abbrev pub array_of : ℕ → Node Bracketed → Reader (Node Expression)
array_of n list = choose (nat_lt list.levels n) (pure (node (e.ArrayLiteral list.tree) (list.levels + 1))) fail

abbrev pub object_of : ℕ → Node Bracketed → Reader (Node Expression)
object_of n list = choose (nat_lt list.levels n) (pure (node (e.ObjectLiteral list.tree) (list.levels + 1))) fail

-- a target that was read, and `=` and its value in a context
abbrev pub valued : Text → (Bool → Context → Text → ℕ → Reader (Node Expression)) → Node Expression → Context → ℕ → Reader (Node Expression)
valued text read target c n = above n make_assignment (both (pure target) (both (token text k.Assign) (values read text c n)))

-- patterns in braces
abbrev pub is_braced : Form → Bool
is_braced f.ObjectPattern = true
is_braced _ = false

-- an element of a list of bindings in brackets
unfoldable pub binding_of : Text → (Bool → Context → Text → ℕ → Reader (Node Expression)) → Form → Context → ℕ → Reader (Node Element)
binding_of text read form c n =
    choose (is_braced form) (property_slot text (values read text) c n (target_below text (values read text) c n)) (binding_slot text (values read text) c n (target_below text (values read text) c n))

-- what a declaration binds, and its value where there is one
unfoldable pub bound : Text → (Bool → Context → Text → ℕ → Reader (Node Expression)) → Context → ℕ → Reader (Node Expression)
bound text read c n = fork (reads_before text (λ t. is_assign t.kind) (target_below text (values read text) c n)) (with_value text (values read text) c n) (bound_name text)
